-- Answers of chains, one behind the other.
use Rattle.std.specs.Prelude.{◌≡◌, ℕ, List, [], ◌∷◌, ◌++◌}
use Rattle.px_message.specs.declared.flow.Flow.{Flow}
use Rattle.px_event.specs.declared.ask.Hook.{Hook}
use Rattle.px_event.specs.declared.ask.Hook.TheVariants as hooks
use Rattle.px_core.specs.Answers.{FilesMeaning}
use Rattle.px_core.specs.declared.answerer.Answer.{Answer}
use Rattle.px_addons.specs.Chain.{ChainAnswers, Movers}
use Rattle.px_addons.specs.Moving.{Moves}
use Rattle.px_addons.specs.declared.rules.Rules.{Rules}

-- an answer to a hook about a flow
pub record Given : Type 0 where
  pub hook : Hook
  pub flow : Flow
  pub answer : Answer

-- that of a hook about a request's head, and of no other
abbrev pub of_request_head : {T : Type 0} → Hook → List T → List T
of_request_head hooks.RequestHead them = them
of_request_head hooks.RequestBody them = []
of_request_head hooks.ResponseHead them = []
of_request_head hooks.ResponseBody them = []
of_request_head (hooks.WsMessage _) them = []

-- of a hook about a whole request
abbrev pub of_whole_request : {T : Type 0} → Hook → List T → List T
of_whole_request hooks.RequestHead them = []
of_whole_request hooks.RequestBody them = them
of_whole_request hooks.ResponseHead them = []
of_whole_request hooks.ResponseBody them = []
of_whole_request (hooks.WsMessage _) them = []

-- of a hook about a response's head
abbrev pub of_response_head : {T : Type 0} → Hook → List T → List T
of_response_head hooks.RequestHead them = []
of_response_head hooks.RequestBody them = []
of_response_head hooks.ResponseHead them = them
of_response_head hooks.ResponseBody them = []
of_response_head (hooks.WsMessage _) them = []

module _ {B : Type 0} (title state : B → List ℕ) (moves : B → Moves) where
  -- Answers of a chain of these rules, one behind the other, with what it keeps before and behind them: each began with the recorded list, the cookies and the
  -- authorizations that the one before left. What became of addons and files in between is left open. An answer that waits counts as any other: the
  -- chain moves where it is asked, and not where what waited goes on.
  pub data InTurn (rules : Rules) (first : Movers B) : List Given → Movers B → Type 0 where
    none_given : InTurn rules first [] first
    next_given : (earlier made : List Given) (hook : Hook) (flow : Flow) (new_rules : Rules) (old new : Movers B) (addons : List B)
        (files new_files : FilesMeaning) (answer : Answer) → InTurn rules first earlier old →
        ChainAnswers title state moves hook flow rules (record old { addons = addons }) files new_rules new new_files answer →
        made ≡ earlier ++ (record { hook = hook; flow = flow; answer = answer }) ∷ [] → InTurn rules first made new
