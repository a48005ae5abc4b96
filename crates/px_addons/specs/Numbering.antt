-- What the numbering addon is.
use Rattle.std.specs.Prelude.{◌≡◌, ℕ, false, List, [], ◌∷◌, ◌++◌, map, codes, decimal}
use Rattle.px_event.specs.declared.ask.Hook.TheVariants as hooks
use Rattle.px_core.specs.declared.answerer.Draft.{Draft}
use Rattle.px_rule.specs.Header.{with_fields}
use Rattle.px_addons.specs.Counter.{one_more}
use Rattle.px_addons.specs.Moving.{Moves}

-- the draft whose request has one field more: the number
abbrev pub numbered : List ℕ → Draft → Draft
numbered [] draft = draft
numbered (number ∷ _) draft = record draft { flow = with_fields false (λ fields. fields ++ (codes "N", decimal number) ∷ []) draft.flow }

-- at a request's head the number goes up by one, and the request gets it; nothing happens at another hook
abbrev pub numbers : Moves
numbers hooks.RequestHead old draft new after = (new ≡ map one_more old) × (after ≡ numbered new draft)
numbers hooks.RequestBody old draft new after = (new ≡ old) × (after ≡ draft)
numbers hooks.ResponseHead old draft new after = (new ≡ old) × (after ≡ draft)
numbers hooks.ResponseBody old draft new after = (new ≡ old) × (after ≡ draft)
numbers (hooks.WsMessage _) old draft new after = (new ≡ old) × (after ≡ draft)
