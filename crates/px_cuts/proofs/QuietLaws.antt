-- Where a place is settled, no request begins to go up, nor does one with a piece of no byte.
use Rattle.std.proofs.Common.{◌≡◌, ℕ, Bool, true, false, List, [], ◌++◌, Option, Some, None, refl, ap, sym, ◌∙◌, subst}
use Rattle.std.specs.Prelude.{⊤, if◌then◌else◌}
use Rattle.std.proofs.lemmas.List.{append-nil}
use Rattle.px_message.specs.declared.flow.Flow.{Flow}
use Rattle.px_event.specs.declared.event.Event.{Event}
use Rattle.px_event.specs.declared.event.Event.TheVariants as events
use Rattle.px_event.specs.declared.side.Side.{Side}
use Rattle.px_event.specs.declared.side.Side.TheVariants.{Client}
use Rattle.px_event.specs.Chain.{Timed}
use Rattle.px_event.specs.Sides.{piece_of}
use Rattle.px_event.specs.Trace.{is_same_side}
use Rattle.px_parts.specs.Streamed.{request_streams}
use Rattle.px_exchange.specs.declared.terms.Terms.{Terms}
use Rattle.px_chain.specs.Chain.{IsOnward, goes_up_by, is_alone, is_sequence, parked_for, pass, pass_going, reached, sequence}
use Rattle.px_chain.specs.Going.{goes_up, sending_on, whole_in}
use Rattle.px_chain.specs.Keeping.{unspoilt_at}
use Rattle.px_chain.specs.Sights.{Sight, Standing, sight_over, sight_with}
use Rattle.px_chain.specs.Stages.{At, Stage, busy, coming_down, connection, given_body, given_head, going_up, idle, next, over, request_body, response_body, response_head, unparked, upgraded}
use Rattle.px_chain.proofs.ChainLaws.{passes_by}
use Rattle.px_cuts.specs.Alike.{NoneBegins}
use Rattle.px_cuts.specs.Shown.{passed_over, retimed_stage}
use Rattle.px_cuts.proofs.BesideLaws.{not_both}
use Rattle.px_cuts.proofs.PassLaws.{passes_begun}

-- by the stage seen so
pub none_retimed : (see : ℕ → ℕ) (stage : Stage) (v : Sight) → NoneBegins stage v → NoneBegins (retimed_stage see stage) v
none_retimed see (idle at) v none = tt
none_retimed see (busy at flow (request_body None most)) v none = none
none_retimed see (busy at flow (request_body (Some response) most)) v none = tt
none_retimed see (busy at flow (connection how)) v none = tt
none_retimed see (busy at flow (response_head own how)) v none = none
none_retimed see (busy at flow (response_body own how most)) v none = none
none_retimed see (busy at flow (coming_down own how)) v none = none
none_retimed see (busy at flow (upgraded own)) v none = tt
none_retimed see (busy at flow given_head) v none = tt
none_retimed see (busy at flow given_body) v none = tt
none_retimed see (next at) v none = tt
none_retimed see over v none = tt

-- a piece without bytes brings none of any side
pub no_piece : (side other : Side) (bytes : List ℕ) → bytes ≡ [] → piece_of other (events.Piece side bytes) ≡ []
no_piece side other bytes none = by_side (is_same_side side other)
  where
    by_side : (b : Bool) → (if b then bytes else []) ≡ []
    by_side true = none
    by_side false = refl

pub goes_more : (most : Option ℕ) (own : Option ℕ) (v : Sight) (side : Side) (bytes : List ℕ) (moment : ℕ) → bytes ≡ [] → goes_up most v ≡ false →
    goes_up most (sight_with own v (events.Piece side bytes) moment) ≡ false
goes_more most own v side bytes moment none is =
    ap (λ l. request_streams most (v.client ++ l)) (no_piece side Client bytes none) ∙ (ap (λ l. request_streams most l) (append-nil v.client) ∙ is)

-- ---- where a place is settled

-- a request's body is awaited, to which no response is given
abbrev awaits : Stage → Bool
awaits (busy at flow (request_body None most)) = true
awaits stage = false

sequence_awaits : (stage : Stage) → awaits (sequence stage) ≡ awaits stage
sequence_awaits (idle at) = refl
sequence_awaits (busy at flow doing) = refl
sequence_awaits (next at) = refl
sequence_awaits over = refl

onward_awaits : (onward : Stage → Stage) → IsOnward onward → (stage : Stage) → awaits (onward stage) ≡ awaits stage
onward_awaits onward (is_alone is) stage = let P : (Stage → Stage) → Type 0 = λ g. awaits (g stage) ≡ awaits stage in subst P (sym is) refl
onward_awaits onward (is_sequence is) stage = let P : (Stage → Stage) → Type 0 = λ g. awaits (g stage) ≡ awaits stage in subst P (sym is) (sequence_awaits stage)

-- no request begins to go up, where one may
abbrev pub BeginsNot : Stage → Sight → Type 0
BeginsNot (busy at flow (request_body None most)) seen = goes_up most seen ≡ false
BeginsNot stage seen = ⊤

module _ (terms : Terms) where
  head_awaits : (size : Option ℕ) (at : At) (flow : Flow) (own : ℕ) (v : Sight) → awaits (passes_by size terms at flow (response_head own going_up) v).stage ≡ false
  head_awaits None at flow own v = refl
  head_awaits (Some size) at flow own v = refl

  up_awaits : (to : Option ℕ) (at : At) (flow : Flow) (v : Sight) → awaits (passes_begun terms (goes_up_by to terms.place at flow) v).stage ≡ false
  up_awaits None at flow v = refl
  up_awaits (Some own) at flow v = head_awaits (whole_in v) (unparked at) (reached terms.place flow) own v

  -- one that began to go up is awaited no more
  none_by : (up : Bool) (at : At) (flow : Flow) (most : Option ℕ) (v : Sight) → goes_up most v ≡ up →
      awaits (passes_begun terms (pass_going up terms.place at flow most v) v).stage ≡ true → goes_up most v ≡ false
  none_by true at flow most v up is =
      let to : Option ℕ = parked_for terms.place flow.request (unspoilt_at at v).parked in
      absurd (not_both (awaits (passes_begun terms (goes_up_by to terms.place at (sending_on flow)) v).stage) (up_awaits to at (sending_on flow) v) is)
  none_by false at flow most v up is = up

  none_here : (stage : Stage) (v : Sight) → awaits (pass terms stage v).stage ≡ awaits stage → BeginsNot stage v
  none_here (idle at) v is = tt
  none_here (busy at flow (request_body None most)) v is = none_by (goes_up most v) at flow most v refl is
  none_here (busy at flow (request_body (Some response) most)) v is = tt
  none_here (busy at flow (connection how)) v is = tt
  none_here (busy at flow (response_head own how)) v is = tt
  none_here (busy at flow (response_body own how most)) v is = tt
  none_here (busy at flow (coming_down own how)) v is = tt
  none_here (busy at flow (upgraded own)) v is = tt
  none_here (busy at flow given_head) v is = tt
  none_here (busy at flow given_body) v is = tt
  none_here (next at) v is = tt
  none_here over v is = tt

  -- Where a place is settled, no request begins to go up.
  pub none_settled : (onward : Stage → Stage) → IsOnward onward → (s : Standing) (prefix : List (Timed Event)) → passed_over onward terms s prefix ≡ s → BeginsNot s.stage (sight_over s prefix)
  none_settled onward goes s prefix settled =
      let v : Sight = sight_over s prefix in
      none_here s.stage v (sym (onward_awaits onward goes (pass terms s.stage v).stage) ∙ ap (λ (p : Standing). awaits p.stage) settled)
