use Rattle.std.proofs.Common.{sym, ◌∙◌}
use Rattle.rand_chacha.specs.ChaCha.{key_of}
use Rattle.px_stack.proofs.InsideLemmas.{at_copied, inside_asks, inside_begun, inside_bound}
use Rattle.px_stack.proofs.stack.Stack.begin_inside.Goals as goal
use Rattle.px_stack.specs.Stack.{visitor_of}

pub returns-clause-inside : goal.returns-clause-inside
returns-clause-inside c =
    inside_begun c.args.self.now.conv (visitor_of c.args.self.now) c.args.opening c.args.server c.args.rest c.args.moment (key_of c.means.result.mask_key) (sym c.means.ensures)
    c.in_ok-made.made.value.stream c.in_ok-made.ensures.terms
    (c.in_ok-made.ensures.at ∙ at_copied c.args.opening c.args.server c.in_ok-try_clone.field-0 c.in_ok-try_clone.ensures)
    c.in_ok-http.http.value c.args.out.now.items c.begin_boxed.new.out.items c.follow.new.out.items
    c.in_ok-http.ensures.begins c.follow.result c.follow.ensures.follows

pub returns-clause-asks : goal.returns-clause-asks
returns-clause-asks c =
    inside_asks c.args.self.now.conv (visitor_of c.args.self.now) c.args.opening c.args.server c.args.rest c.args.moment (key_of c.means.result.mask_key) (sym c.means.ensures)
    c.in_ok-made.made.value.stream c.in_ok-made.ensures.terms
    (c.in_ok-made.ensures.at ∙ at_copied c.args.opening c.args.server c.in_ok-try_clone.field-0 c.in_ok-try_clone.ensures)
    c.in_ok-http.http.value c.args.out.now.items c.begin_boxed.new.out.items c.follow.new.out.items
    c.in_ok-http.ensures.begins c.in_ok-http.ensures.asks c.follow.result c.follow.ensures.asks

pub returns-clause-left : goal.returns-clause-left
returns-clause-left c =
    inside_bound c.args.self.now.conv (visitor_of c.args.self.now) c.args.opening c.args.server c.args.rest c.args.moment (key_of c.means.result.mask_key) (sym c.means.ensures)
    c.in_ok-made.made.value.stream c.in_ok-made.ensures.terms
    (c.in_ok-made.ensures.at ∙ at_copied c.args.opening c.args.server c.in_ok-try_clone.field-0 c.in_ok-try_clone.ensures)
    c.in_ok-http.http.value c.args.out.now.items c.begin_boxed.new.out.items c.follow.new.out.items
    c.in_ok-http.ensures.begins c.in_ok-made.ensures.new c.requires.few c.in_ok-http.ensures.left c.follow.result c.follow.ensures.follows
