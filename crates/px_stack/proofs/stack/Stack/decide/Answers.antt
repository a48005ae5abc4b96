use Rattle.std.proofs.Common.{[], refl, ap, sym, ◌∙◌}
use Rattle.std.proofs.lemmas.List.{append-nil}
use Rattle.px_stack.specs.Decides.{has_method, may_have_method}
use Rattle.px_stack.proofs.OpenedLemmas.{http_decided, raw_by_rest, raw_by_text, raw_decided, still_decided}
use Rattle.px_stack.proofs.stack.Stack.decide.Goals.{then-not-is_empty-via-then-not-is_empty, then-not-is_empty-via-else-not-is_empty+then-not-may_have_method}
use Rattle.px_stack.proofs.stack.Stack.decide.Goals as goal
use Rattle.px_stack.specs.Stack.{visitor_of}

pub returns-then-has_method-clause-decides : goal.returns-then-has_method-clause-decides
returns-then-has_method-clause-decides c =
    http_decided c.args.self.now.conv (visitor_of c.args.self.now) c.args.opening c.args.server c.args.rest c.args.moment c.args.out.now.items c.begin_inside.new.out.items
    (ap has_method (sym c.as_slice.ensures) ∙ (sym c.has_method.ensures ∙ c.if-has_method.true)) c.begin_inside.result c.begin_inside.ensures.inside

pub returns-then-not-is_empty-clause-decides : goal.returns-then-not-is_empty-clause-decides
returns-then-not-is_empty-clause-decides c =
    raw_decided c.args.self.now.conv (visitor_of c.args.self.now) c.args.opening c.args.server c.args.rest c.args.moment c.args.out.now.items c.unread.new.out.items
    (ap has_method (sym c.as_slice.ensures) ∙ (sym c.has_method.ensures ∙ c.if-has_method.false))
    (elim c.then-not-is_empty.branch [
      | then-not-is_empty-via-then-not-is_empty w ↦ raw_by_rest _ _ (sym c.is_empty.ensures ∙ w.if-not-is_empty.true)
      | then-not-is_empty-via-else-not-is_empty+then-not-may_have_method w ↦
          raw_by_text _ _ (ap may_have_method (sym w.as_slice-else-not-is_empty.ensures) ∙ (sym w.may_have_method.ensures ∙ w.if-not-may_have_method.true))
    ])
    c.unread.result c.unread.ensures.relays

pub returns-clause-decides : goal.returns-clause-decides
returns-clause-decides c =
    still_decided c.args.self.now.conv (visitor_of c.args.self.now) c.args.opening c.args.server c.args.rest c.args.moment c.args.out.now.items
    (ap has_method (sym c.as_slice.ensures) ∙ (sym c.has_method.ensures ∙ c.if-has_method.false))
    (ap may_have_method (sym c.as_slice-else-not-is_empty.ensures) ∙ (sym c.may_have_method.ensures ∙ c.if-not-may_have_method.false))
    (sym c.is_empty.ensures ∙ c.if-not-is_empty.false)

pub returns-clause-asks : goal.returns-clause-asks
returns-clause-asks c = ([], sym (append-nil c.args.out.now.items), refl)
