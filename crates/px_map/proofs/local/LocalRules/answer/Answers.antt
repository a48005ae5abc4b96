use Rattle.std.proofs.Common.{◌≡◌, ◌∙◌, ◌++◌, ◌+◌, ◌<◌, ◌≤◌, ℕ, [], List, Some, ap, refl, sym, subst, map, take, drop, get_or, length, arith}
use Rattle.std.proofs.lemmas.List.{drop_all}
use Rattle.px_message.specs.declared.flow.Flow.{Flow}
use Rattle.px_rule.proofs.BodyLemmas.{on_err}
use Rattle.px_map.specs.Reads.{Begins, IsAnswer, nothing_yet}
use Rattle.px_map.specs.Served.{local_names, rule_names}
use Rattle.px_map.specs.Tried.{Tries}
use Rattle.px_map.specs.View.{local_view}
use Rattle.px_map.specs.declared.local.LocalRule as held
use Rattle.px_map.proofs.ListLemmas.{around_item, next_item}
use Rattle.px_map.proofs.LocalLemmas.{Going, Meant, begins_nothing, ended_found_none, going_start, matches_not, step_absent, step_answered, step_passed, step_stopped}
use Rattle.px_map.proofs.ReadsLemmas.{made_both, made_none}
use Rattle.px_map.proofs.local.LocalRules.answer.Goals as goal
use Rattle.px_map.proofs.local.LocalRules.answer.Goals.{in-Passed, in-Absent}

-- where no rule matches, this one does not
here : (items : List held.LocalRule) (i : ℕ) (item : held.LocalRule) (flow : Flow) → i < length items → item ≡ get_or items i item →
    local_names (map local_view items) flow ≡ [] → rule_names (local_view item) flow ≡ []
here items i item flow within is none =
    matches_not (map local_view (take i items)) (map local_view (drop (i + 1) items)) (local_view item) flow
    (subst (λ rules. local_names rules flow ≡ []) (around_item local_view items i item within is) none)

pub returns-in_err-url-clause-stopped : goal.returns-in_err-url-clause-stopped
returns-in_err-url-clause-stopped g c = on_err c.from_residual.result _ ([], nothing_yet _, made_none _)

pub loop-rule-init : goal.loop-rule-init
loop-rule-init g c = ([], going_start _, made_none _, λ none. refl)

pub returns-in_err-try_rule-clause-stopped : goal.returns-in_err-try_rule-clause-stopped
returns-in_err-try_rule-clause-stopped g c =
    let items = c.deref-rule-items.result.now in
    let flow = c.args.flow.now in
    let so_far = c.loop-rule.invariant in
    let new = c.in_err-try_rule.ensures.stopped in
    let left = next_item (λ (rules : List held.LocalRule). local_names (map local_view rules) flow) items c.loop-rule.rule-index c.rule-item.result c.loop-rule-test.true c.rule-item.is in
    on_err c.from_residual-in_err-try_rule.result _ (
      so_far.0 ++ new.0,
      subst (λ (rules : List held.LocalRule). Begins (local_names (map local_view rules) flow) (so_far.0 ++ new.0)) c.deref-rule-items.ensures.value
          (step_stopped _ _ (rule_names (local_view c.rule-item.result) flow) _ so_far.0 new.0 c.loop-rule.matched so_far.1 left new.1),
      made_both so_far.0 new.0 _ _ _ so_far.2 new.2,
    )

pub returns-in-Answered-clause-answered : goal.returns-in-Answered-clause-answered
returns-in-Answered-clause-answered g c =
    let items = c.deref-rule-items.result.now in
    let flow = c.args.flow.now in
    let so_far = c.loop-rule.invariant in
    let new = c.in_ok-try_rule.ensures.tried in
    let names = rule_names (local_view c.rule-item.result) flow in
    let left = next_item (λ (rules : List held.LocalRule). local_names (map local_view rules) flow) items c.loop-rule.rule-index c.rule-item.result c.loop-rule-test.true c.rule-item.is in
    let tries = subst (Tries names new.0) c.in-Answered.is new.1 in (
      so_far.0 ++ new.0,
      subst (λ (rules : List held.LocalRule). IsAnswer (local_names (map local_view rules) flow) (so_far.0 ++ new.0) (Some c.in-Answered.response)) c.deref-rule-items.ensures.value
          (step_answered _ _ names _ so_far.0 new.0 c.loop-rule.matched c.in-Answered.response so_far.1 left tries),
      made_both so_far.0 new.0 _ _ _ so_far.2 new.2,
    )

pub loop-rule-preserved : goal.loop-rule-preserved
loop-rule-preserved g c =
    let items = c.deref-rule-items.result.now in
    let flow = c.args.flow.now in
    let so_far = c.loop-rule.invariant in
    let new = c.in_ok-try_rule.ensures.tried in
    let names = rule_names (local_view c.rule-item.result) flow in
    let all : Meant = local_names (map local_view items) flow in
    let rest : Meant = local_names (map local_view (drop (c.loop-rule.rule-index + 1) items)) flow in
    let left = next_item (λ (rules : List held.LocalRule). local_names (map local_view rules) flow) items c.loop-rule.rule-index c.rule-item.result c.loop-rule-test.true c.rule-item.is in
    let going : Going all rest (so_far.0 ++ new.0) c.match-branch-3.matched = elim c.match-branch-3.branch [
      | in-Passed w ↦ subst (λ m. Going all rest (so_far.0 ++ new.0) m) (sym w.matched-is)
          (step_passed all _ names rest so_far.0 new.0 c.loop-rule.matched so_far.1 left (subst (Tries names new.0) w.in-Passed.is new.1))
      | in-Absent w ↦ subst (λ m. Going all rest (so_far.0 ++ new.0) m) (sym w.matched-is)
          (step_absent all _ names rest so_far.0 new.0 c.loop-rule.matched so_far.1 left (subst (Tries names new.0) w.in-Absent.is new.1))
    ] in
    let still = λ (none : local_names (map local_view items) flow ≡ []).
    c.in_ok-try_rule.ensures.unread (here items c.loop-rule.rule-index c.rule-item.result flow c.loop-rule-test.true c.rule-item.is none) ∙ so_far.3 none in
    (so_far.0 ++ new.0, going, made_both so_far.0 new.0 _ _ _ so_far.2 new.2, still)

pub returns-in_err-not_found-clause-stopped : goal.returns-in_err-not_found-clause-stopped
returns-in_err-not_found-clause-stopped g c =
    let items = c.deref-rule-items.result.now in
    let flow = c.args.flow.now in
    let so_far = c.loop-rule.invariant in
    on_err c.from_residual-in_err-not_found.result _ (
      so_far.0,
      subst (λ (rules : List held.LocalRule). Begins (local_names (map local_view rules) flow) so_far.0) c.deref-rule-items.ensures.value
          (begins_nothing (local_names (map local_view items) flow) (local_names (map local_view (drop c.loop-rule.rule-index items)) flow) so_far.0 c.loop-rule.matched so_far.1),
      so_far.2,
    )

pub returns-then-matched-clause-answered : goal.returns-then-matched-clause-answered
returns-then-matched-clause-answered g c =
    let items = c.deref-rule-items.result.now in
    let flow = c.args.flow.now in
    let so_far = c.loop-rule.invariant in
    let past : length items ≤ c.loop-rule.rule-index = omega (arith, c.loop-rule-test.false) in
    let none = ap (λ (rules : List held.LocalRule). local_names (map local_view rules) flow) (drop_all c.loop-rule.rule-index items past) in (
      so_far.0,
      subst (λ (rules : List held.LocalRule). IsAnswer (local_names (map local_view rules) flow) so_far.0 (Some c.in_ok-not_found.field-0)) c.deref-rule-items.ensures.value
          (ended_found_none (local_names (map local_view items) flow) (local_names (map local_view (drop c.loop-rule.rule-index items)) flow) so_far.0 c.loop-rule.matched c.in_ok-not_found.field-0 so_far.1 none c.if-matched.true c.in_ok-not_found.ensures),
      so_far.2,
    )
