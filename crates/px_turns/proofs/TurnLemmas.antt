-- What a server was sent so far, against what it said so far, behind a reply.
use Rattle.std.proofs.Common.{◌≡◌, ℕ, Bool, true, false, List, [], ◌++◌, Option, Some, None, refl, ap, sym, ◌∙◌, subst, arith}
use Rattle.std.specs.Prelude.{◌==◌, ◌&&◌}
use Rattle.std.proofs.lemmas.Bool.{eq-eqb}
use Rattle.std.proofs.lemmas.List.{append-nil}
use Rattle.px_message.specs.declared.address.Address.{Address}
use Rattle.px_message.specs.declared.flow.Flow.{Flow}
use Rattle.px_message.specs.declared.response.Response.{Response}
use Rattle.px_event.specs.declared.command.Command.{Command}
use Rattle.px_event.specs.declared.reply.Reply.{Reply}
use Rattle.px_event.specs.Chain.{Timed, Turn}
use Rattle.px_read.specs.Items.{Item, missing, part, complete, bad_head, bad_body}
use Rattle.px_read.specs.declared.head.ResponseHead.{ResponseHead as ReadResponse}
use Rattle.px_exchange.specs.declared.ending.Used.{Used}
use Rattle.px_exchange.specs.declared.taken.Taken.{Taken}
use Rattle.px_exchange.specs.declared.taken.Taken.TheVariants.{GoesOn, Responds, Kills}
use Rattle.px_exchange.specs.declared.terms.Terms.{Terms}
use Rattle.px_exchange.specs.Dials.{connected_owes}
use Rattle.px_exchange.specs.Endings.{connection_goes_on}
use Rattle.px_exchange.specs.Flows.{response_of, with_answer, with_returned}
use Rattle.px_exchange.specs.Places.{form_at, is_same_address, server_for}
use Rattle.px_exchange.specs.Replies.{taken_at_response_body, taken_at_response_head}
use Rattle.px_exchange.specs.Texts.{onward_text}
use Rattle.px_chain.specs.Behind.{server_behind, sight_behind}
use Rattle.px_chain.specs.Chain.{behind_flow, dial_leads, dial_owes_by, finish_by, given_at, goes_on_by, parked_for, turn, turn_answer, turn_answer_head, turn_response, turn_returned, turn_taken_answer, turn_taken_given, turn_taken_returned, turn_taken_whole}
use Rattle.px_chain.specs.Coming.{allowed_by}
use Rattle.px_chain.specs.Going.{is_sent, told_behind, whole_by}
use Rattle.px_chain.specs.Keeping.{is_silent, keeps_side, parks, unspoilt_at, unspoilt_by}
use Rattle.px_chain.specs.Sights.{Sight, answers_in, left_by_answers, request_in, server_in, server_parked}
use Rattle.px_chain.specs.Stages.{At, Parked, Sent, Stage, all_sent, busy, coming_down, connection, given_body, given_head, going_up, idle, next, over, request_body, response_body, response_head, side_of, side_parked, upgraded}
use Rattle.px_chain.proofs.CountedLemmas.{IsSilent}
use Rattle.px_chain.proofs.EarlyLaws.{kept_ends}
use Rattle.px_chain.proofs.GoingLaws.{going_text_by}
use Rattle.px_chain.proofs.KeepingLaws.{kept_nothing}
use Rattle.px_chain.proofs.NotUp.{IsNotUpBy}
use Rattle.px_chain.proofs.OnceLemmas.{sent_to}
use Rattle.px_chain.proofs.SentLemmas.{connected_said, connected_silent}
use Rattle.px_chain.proofs.SilentLemmas.{ServersBelow, turn_leads}
use Rattle.px_chain.proofs.TellLemmas.{told_on, unsaid}
use Rattle.px_turns.specs.Turns.{GoesTo, is_settled}
use Rattle.px_turns.proofs.PassLemmas.{Answered, Exchanged, Kept, TellsNow, TurnsAt, Waiting, answered_one, at_rest, awaits_one, ends_full, ends_rest, goes_on, is_off, off_behind, other_flow, parks_kept, switched}
use Rattle.px_turns.proofs.OffLemmas.{IsDialled, off_turned}
use Rattle.px_turns.proofs.ReplyLemmas.{BodyLeads, StaysAt, body_leads, dial_off, dial_quiet, for_there, given_stays, goes_there, head_stays, not_later, response_stays, returned_stays, still_free}
use Rattle.px_turns.proofs.PlaceLemmas.{AwaitsAt, AwaitsIn, IsUpgraded, RestsAt, free_side, kept_side, same_on}

-- the parked side, unless its keeping has ended
silent_there : (silent : Bool) (parked : Option Parked) (own : Parked) → unspoilt_by silent parked ≡ Some own → parked ≡ Some own
silent_there true parked own is = is
silent_there false parked own is = absurd (let e : None ≡ Some own = is in cc)

module _ (server : ℕ) (terms : Terms) (address : Address) where
  abbrev Turns : Stage → Sight → List ℕ → List ℕ → Type 0
  Turns stage seen sent heard = TurnsAt server terms address stage seen sent heard

  abbrev Ends : List ℕ → List ℕ → Type 0
  Ends sent heard = Exchanged server terms address sent heard

  abbrev All : List ℕ → List ℕ → Type 0
  All sent said = Answered server terms address sent said

  abbrev TellsOn : Stage → Sight → List ℕ → Type 0
  TellsOn stage seen now = TellsNow server terms address stage seen now

  abbrev KeptAt : Option Parked → Type 0
  KeptAt parked = Kept server terms address parked

  abbrev pub IsKnown : Stage → Type 0
  IsKnown stage = IsDialled server stage

  quiet_turns : (to : Stage) (past : Sight) (sent heard : List ℕ) (owed : List Command) → IsSilent server owed → Turns to past sent heard → Turns to past (sent ++ sent_to server owed) heard
  quiet_turns to past sent heard owed none turns = subst (λ s. Turns to past s heard) (sym (unsaid server terms None 0 sent owed none)) turns

  over_turns : (to : Stage) (past : Sight) (sent heard : List ℕ) → to ≡ over → Ends sent heard → Turns to past sent heard
  over_turns to past sent heard is ends = is_off ends (subst (λ s. IsNotUpBy server (side_of s)) (sym is) tt)

  -- ---- where no flow uses a side

  data IsKeptOrNone (parked : Option Parked) : Type 0 where
    still_kept : KeptAt parked → IsKeptOrNone parked
    no_more : parked ≡ None → IsKeptOrNone parked

  kept_by : (silent : Bool) (was parked : Option Parked) → parked ≡ unspoilt_by silent was → KeptAt was → IsKeptOrNone parked
  kept_by true was parked is kept = still_kept (record { side = kept.side; there = is ∙ kept.there; number = kept.number; same = kept.same })
  kept_by false was parked is kept = no_more is

  rest_to : (to : Stage) (parked : Option Parked) (seen past : Sight) (sent said heard : List ℕ) → side_of to ≡ side_parked parked → (KeptAt parked → RestsAt server terms.place address to) → IsKeptOrNone parked →
      past.server ≡ server_behind false (side_of to) seen.server → All sent said → heard ≡ said ++ seen.server → Turns to past sent heard
  rest_to to parked seen past sent said heard side rests (still_kept kept) bytes all come =
      let same : past.server ≡ seen.server = bytes ∙ ap (λ s. server_behind false s seen.server) (side ∙ kept_side server terms.place address parked kept) in
      at_rest said all (come ∙ ap (λ l. said ++ l) (sym same)) (rests kept)
  rest_to to parked seen past sent said heard side rests (no_more none) bytes all come =
      is_off (ends_rest server terms address seen sent said heard all come) (subst (λ s. IsNotUpBy server s) (sym (side ∙ ap side_parked none)) tt)

  stays_to : (silent : Bool) (at there : At) (to : Stage) (seen past : Sight) (sent said heard : List ℕ) → there.parked ≡ unspoilt_by silent at.parked → StaysAt there to →
      past.server ≡ server_behind false (side_of to) seen.server → All sent said → heard ≡ said ++ seen.server → KeptAt at.parked → Turns to past sent heard
  stays_to silent at there (idle on) seen past sent said heard was stays bytes all come kept =
      rest_to (idle on) on.parked seen past sent said heard refl (λ k. k) (kept_by silent at.parked on.parked (stays.1 ∙ was) kept) bytes all come
  stays_to silent at there (busy on flow doing) seen past sent said heard was stays bytes all come kept =
      rest_to (busy on flow doing) on.parked seen past sent said heard (free_side on doing stays.0) (λ k. (stays.0, k)) (kept_by silent at.parked on.parked (stays.1.1 ∙ was) kept) bytes all come
  stays_to silent at there (next on) seen past sent said heard was stays bytes all come kept =
      rest_to (next on) on.parked seen past sent said heard refl (λ k. k) (kept_by silent at.parked on.parked (stays.1 ∙ was) kept) bytes all come
  stays_to silent at there over seen past sent said heard was stays bytes all come kept = is_off (ends_rest server terms address seen sent said heard all come) tt

  abbrev To : Stage → Sight → Timed Reply → Stage
  To from seen answer = (turn terms from seen answer).stage

  still_turns : (from : Stage) (at : At) (seen past : Sight) (answer : Timed Reply) (sent heard : List ℕ) → IsKnown from → StaysAt (unspoilt_at at seen) (To from seen answer) →
      (RestsAt server terms.place address from → KeptAt at.parked) → ((text : List ℕ) → AwaitsAt server terms.place address from text → ⊥) → ((now : List ℕ) → TellsOn from (told_on server terms None 0 from seen) now → ⊥) →
      (IsUpgraded server terms.place address from → ⊥) → past.server ≡ server_behind false (side_of (To from seen answer)) seen.server →
      Turns from (told_on server terms None 0 from seen) sent heard → Turns (To from seen answer) past sent heard
  still_turns from at seen past answer sent heard known stays rest no_awaits no_tells no_switch bytes (at_rest said all come rests) =
      stays_to (is_silent seen.server seen.shut) at (unspoilt_at at seen) (To from seen answer) seen past sent said heard refl stays bytes all come (rest rests)
  still_turns from at seen past answer sent heard known stays rest no_awaits no_tells no_switch bytes (awaits_one before text said all same come awaits) = absurd (no_awaits text awaits)
  still_turns from at seen past answer sent heard known stays rest no_awaits no_tells no_switch bytes (goes_on before now said all same come tells goes) = absurd (no_tells now tells)
  still_turns from at seen past answer sent heard known stays rest no_awaits no_tells no_switch bytes (is_off ends off) = is_off ends (off_turned server terms from seen answer known off)
  still_turns from at seen past answer sent heard known stays rest no_awaits no_tells no_switch bytes (switched ends is) = absurd (no_switch is)

  -- ---- the reply to the hook of a request's body

  abbrev Waits : Flow → List ℕ → Type 0
  Waits flow text = Waiting server terms address flow text

  goes_to_it : (at there : At) (flow : Flow) (side : ℕ) (seen past : Sight) (sent said heard : List ℕ) → parked_for terms.place flow.request there.parked ≡ Some side →
      ((own : Parked) → there.parked ≡ Some own → at.parked ≡ Some own) → past.server ≡ seen.server → All sent said → heard ≡ said ++ seen.server → KeptAt at.parked →
      Turns (goes_on_by (Some side) terms.place there flow).stage past (sent ++ sent_to server (goes_on_by (Some side) terms.place there flow).owed) heard
  goes_to_it at there flow side seen past sent said heard is was bytes all come kept =
      let found = for_there terms.place flow.request there.parked side is in
      let e : Some kept.side ≡ Some found.0 = sym kept.there ∙ was found.0 found.1 in
      let own : kept.side ≡ found.0 = cc in
      let number : (side == server) ≡ true = eq-eqb side server (sym found.2 ∙ (ap (λ p. p.server) (sym own) ∙ kept.number)) in
      let goes : GoesTo terms.place address flow.request =
      same_on address found.0.address (server_for terms.place flow.request) (ap (λ p. is_same_address address p.address) (sym own) ∙ kept.same) found.3 in
      let text : List ℕ = onward_text (form_at terms.place) flow.request in
      awaits_one sent text said all (ap (λ l. sent ++ l) (connected_said server terms flow side number)) (come ∙ ap (λ l. said ++ l) (sym bytes))
      (number, record { request = flow.request; method = refl; goes = goes; own = goes; is_text = is_settled refl })

  off_there : (at there : At) (flow : Flow) (side : ℕ) → parked_for terms.place flow.request there.parked ≡ Some side → ((own : Parked) → there.parked ≡ Some own → at.parked ≡ Some own) →
      IsNotUpBy server (side_parked at.parked) → (side == server) ≡ false
  off_there at there flow side is was off =
      let found = for_there terms.place flow.request there.parked side is in
      subst (λ s. IsNotUpBy server s) (ap side_parked (was found.0 found.1) ∙ ap (λ n. Some n) found.2) off

  body_turns : (at : At) (flow : Flow) (given : Option Response) (size : Option ℕ) (seen past : Sight) (answer : Timed Reply) (sent heard : List ℕ) (turned : Turn Stage Command) →
      let from : Stage = busy at flow (request_body given size) in
      turn terms from seen answer ≡ turned → BodyLeads terms (unspoilt_at at seen) turned → IsKnown from → past.server ≡ server_behind false (side_of turned.stage) seen.server →
      Turns from (told_on server terms None 0 from seen) sent heard → Turns turned.stage past (sent ++ sent_to server turned.owed) heard
  body_turns at flow given size seen past answer sent heard turned is (still_free none stays) known bytes turns =
      let from : Stage = busy at flow (request_body given size) in
      let to_is : (turn terms from seen answer).stage ≡ turned.stage = ap (λ t. t.stage) is in
      quiet_turns turned.stage past sent heard turned.owed (none server)
      (subst (λ to. Turns to past sent heard) to_is
      (still_turns from at seen past answer sent heard known (subst (λ to. StaysAt (unspoilt_at at seen) to) (sym to_is) stays) (λ rests. rests.1) (λ text awaits. awaits) (λ now tells. tells.0) (λ up. up)
      (bytes ∙ ap (λ to. server_behind false (side_of to) seen.server) (sym to_is)) turns))
  body_turns at flow given size seen past answer sent heard turned is (goes_there other side for same) known bytes (at_rest said all come rests) =
      let there : At = unspoilt_at at seen in
      let to : Turn Stage Command = goes_on_by (Some side) terms.place there other in
      subst (λ t. Turns t.stage past (sent ++ sent_to server t.owed) heard) (sym same)
      (goes_to_it at there other side seen past sent said heard for (λ own. silent_there (is_silent seen.server seen.shut) at.parked own)
      (bytes ∙ ap (λ t. server_behind false (side_of t.stage) seen.server) same) all come rests.1)
  body_turns at flow given size seen past answer sent heard turned is (goes_there other side for same) known bytes (awaits_one before text said all known_sent come awaits) = absurd awaits
  body_turns at flow given size seen past answer sent heard turned is (goes_there other side for same) known bytes (goes_on before now said all known_sent come tells goes) = absurd tells.0
  body_turns at flow given size seen past answer sent heard turned is (goes_there other side for same) known bytes (is_off ends off) =
      let there : At = unspoilt_at at seen in
      let apart = off_there at there other side for (λ own. silent_there (is_silent seen.server seen.shut) at.parked own) off in
      subst (λ t. Turns t.stage past (sent ++ sent_to server t.owed) heard) (sym same)
      (off_behind server terms address (goes_on_by (Some side) terms.place there other).stage past sent heard (connected_owes terms.place other side) (connected_silent server terms other side apart) ends apart)
  body_turns at flow given size seen past answer sent heard turned is (goes_there other side for same) known bytes (switched ends up) = absurd up

  -- ---- the answer to a dial of another server

  dial_turns : (how : Sent) (at there : At) (flow : Flow) (answer : Reply) (before past : Sight) (sent heard : List ℕ) (moment : ℕ) (closed : Bool) → (there.dials == server) ≡ false → Ends sent heard →
      Turns (dial_leads terms.place there flow how answer) past (sent ++ sent_to server (dial_owes_by how terms.place flow there.dials answer moment closed)) heard
  dial_turns how at there flow answer before past sent heard moment closed other ends =
      off_behind server terms address (dial_leads terms.place there flow how answer) past sent heard (dial_owes_by how terms.place flow there.dials answer moment closed)
      (dial_quiet server terms how flow there.dials answer moment closed other) ends (dial_off server terms how there flow answer other)

  -- ---- the head of a response

  head_awaits : (flow other : Flow) (side : ℕ) (how : Sent) (most : Option ℕ) (text : List ℕ) → other.request ≡ flow.request → AwaitsIn server terms.place address (response_head side how) flow text →
      AwaitsIn server terms.place address (response_body side how most) other text
  head_awaits flow other side all_sent most text same (number, waiting) = (number, other_flow server terms address flow other text same waiting)
  head_awaits flow other side going_up most text same awaits = absurd awaits

  -- the hook of a response's head is answered: its body is awaited, and the request goes up on, where it did
  head_turns : (at there : At) (flow other : Flow) (side : ℕ) (how : Sent) (most : Option ℕ) (seen past : Sight) (sent heard : List ℕ) → other.request ≡ flow.request → past.client ≡ seen.client →
      past.told ≡ seen.told → past.server ≡ seen.server → Turns (busy at flow (response_head side how)) seen sent heard → Turns (busy there other (response_body side how most)) past sent heard
  head_turns at there flow other side how most seen past sent heard same bytes told server_bytes (at_rest said all come rests) = absurd rests.0
  head_turns at there flow other side how most seen past sent heard same bytes told server_bytes (awaits_one before text said all is come awaits) =
      awaits_one before text said all is (come ∙ ap (λ l. said ++ l) (sym server_bytes)) (head_awaits flow other side how most text same awaits)
  head_turns at there flow other side all_sent most seen past sent heard same bytes told server_bytes (goes_on before now said all is come tells goes) = absurd tells.0
  head_turns at there flow other side going_up most seen past sent heard same bytes told server_bytes (goes_on before now said all is come (up, tells) goes) =
      goes_on before now said all is (come ∙ ap (λ l. said ++ l) (sym server_bytes)) (
        up,
        record {
          told = tells.told ∙ sym told;
          begins = (tells.begins.0, going_text_by terms.place flow other seen past same bytes ∙ tells.begins.1);
          goes_there = λ before. absurd (omega arith);
        },
      ) (ap (λ r. is_same_address address (server_for terms.place r)) same ∙ goes)
  head_turns at there flow other side how most seen past sent heard same bytes told server_bytes (is_off ends off) = is_off ends off
  head_turns at there flow other side how most seen past sent heard same bytes told server_bytes (switched ends is) = absurd is

  module _ (at there : At) (flow : Flow) (side : ℕ) (how : Sent) (seen past : Sight) (sent heard : List ℕ) (ends : Ends sent heard) (bytes : past.client ≡ seen.client)
      (told : past.told ≡ told_behind terms.place (busy at flow (response_head side how)) seen)
      (turns : Turns (busy at flow (response_head side how)) (told_on server terms None 0 (busy at flow (response_head side how)) seen) sent heard) where
    taken_answer_turns : (other : Flow) (most : Option ℕ) (taken : Taken Response) (moment : ℕ) (used : Used) (closed : Bool) → other.request ≡ flow.request →
        past.server ≡ server_behind false (side_of (turn_taken_answer there other side how most taken moment used closed).stage) seen.server →
        Turns (turn_taken_answer there other side how most taken moment used closed).stage past sent heard
    taken_answer_turns other most (GoesOn response) moment used closed same server_bytes =
        head_turns at there flow (record other { response = Some response }) side how most (told_on server terms None 0 (busy at flow (response_head side how)) seen) past sent heard same bytes told server_bytes turns
    taken_answer_turns other most (Responds response) moment used closed same server_bytes = is_off ends tt
    taken_answer_turns other most Kills moment used closed same server_bytes = is_off ends tt

    answer_head_turns : (head : ReadResponse) (answer : Timed Reply) → past.server ≡ server_behind false (side_of (turn_answer_head terms there flow side how head seen answer).stage) seen.server →
        Turns (turn_answer_head terms there flow side how head seen answer).stage past sent heard
    answer_head_turns head answer server_bytes =
        taken_answer_turns (with_answer flow (response_of head) seen.now) (allowed_by terms.streams answer.value) (taken_at_response_head (response_of head) answer.value) answer.moment
        (server_in side seen) seen.closed refl server_bytes

    answer_turns : (item : Item ReadResponse) (answer : Timed Reply) → past.server ≡ server_behind false (side_of (turn_answer terms there flow side how item seen answer).stage) seen.server →
        Turns (turn_answer terms there flow side how item seen answer).stage past sent heard
    answer_turns missing answer server_bytes = is_off ends tt
    answer_turns (part head body) answer server_bytes = answer_head_turns head answer server_bytes
    answer_turns (complete head body trailers size) answer server_bytes = answer_head_turns head answer server_bytes
    answer_turns (bad_head fault) answer server_bytes = is_off ends tt
    answer_turns (bad_body fault head body) answer server_bytes = answer_head_turns head answer server_bytes

  -- ---- a whole response that was kept

  module _ (at there : At) (flow : Flow) (side : ℕ) (seen past : Sight) (before text said sent heard : List ℕ) (all : All before said) (same : sent ≡ before ++ text) (come : heard ≡ said ++ seen.server)
      (number : (side == server) ≡ true) (waiting : Waits flow text) where
    -- what is left behind the answers
    abbrev left : List ℕ
    left = left_by_answers (answers_in flow.request seen) seen.server

    ends_here : Ends sent heard
    ends_here = ends_full server terms address flow seen before text said sent heard all same come waiting

    behind_turns : (stays keeps : Bool) (head : ReadResponse) (size : ℕ) → keeps_side flow.request seen head ≡ keeps → whole_by (answers_in flow.request seen).final ≡ Some size →
        past.server ≡ server_behind false (side_of (behind_flow stays (parks (stays && keeps) terms.place there flow.request side))) left →
        Turns (behind_flow stays (parks (stays && keeps) terms.place there flow.request side)) past sent heard
    behind_turns true true head size is whole bytes =
        let none = kept_nothing flow.request seen head is in
        let nothing : past.server ≡ [] = bytes ∙ none.empty in
        at_rest heard (answered_one server terms address flow seen before text said sent heard size all same come waiting whole none.empty none.is_open)
        (sym (ap (λ l. heard ++ l) nothing ∙ append-nil heard)) (parks_kept server terms address there flow.request side number waiting.own)
    behind_turns true false head size is whole bytes = is_off ends_here tt
    behind_turns false keeps head size is whole bytes = is_off ends_here tt

    finish_turns : (switches : Bool) (other : Flow) (response : Response) (head : ReadResponse) (size : ℕ) (used : Used) (closed : Bool) → other.request ≡ flow.request →
        whole_by (answers_in flow.request seen).final ≡ Some size →
        past.server ≡ server_behind false (side_of (finish_by switches terms.place there other all_sent response (keeps_side flow.request seen head) side used closed).stage) left →
        Turns (finish_by switches terms.place there other all_sent response (keeps_side flow.request seen head) side used closed).stage past sent heard
    finish_turns true other response head size used closed is whole bytes = switched ends_here tt
    finish_turns false other response head size used closed is whole bytes =
        let stays : Bool = is_sent all_sent && connection_goes_on there.flow other.request response in
        let keeps : Bool = keeps_side flow.request seen head in
        subst (λ r. Turns (behind_flow stays (parks (stays && keeps) terms.place there r side)) past sent heard) (sym is)
        (behind_turns stays keeps head size refl whole (bytes ∙ ap (λ r. server_behind false (side_of (behind_flow stays (parks (stays && keeps) terms.place there r side))) left) is))

    taken_whole_turns : (other : Flow) (head : ReadResponse) (size : ℕ) (taken : Taken Response) (moment : ℕ) (used : Used) (closed : Bool) → other.request ≡ flow.request →
        whole_by (answers_in flow.request seen).final ≡ Some size →
        past.server ≡ server_behind false (side_of (turn_taken_whole terms.place there other side all_sent (keeps_side flow.request seen head) taken moment used closed).stage) left →
        Turns (turn_taken_whole terms.place there other side all_sent (keeps_side flow.request seen head) taken moment used closed).stage past sent heard
    taken_whole_turns other head size (GoesOn response) moment used closed is whole bytes =
        finish_turns (is_sent all_sent && response.status == 101) other response head size used closed is whole bytes
    taken_whole_turns other head size (Responds response) moment used closed is whole bytes = is_off ends_here tt
    taken_whole_turns other head size Kills moment used closed is whole bytes = is_off ends_here tt

    read_whole_turns : (given : Option Response) (other : Flow) (head : ReadResponse) (size : ℕ) (answer : Timed Reply) (used : Used) (closed : Bool) → other.request ≡ flow.request →
        whole_by (answers_in flow.request seen).final ≡ Some size →
        let leads : Taken Response → Turn Stage Command = λ taken. turn_taken_whole terms.place there other side all_sent (keeps_side flow.request seen head) taken answer.moment used closed in
        let takes : Response → Taken Response = λ response. taken_at_response_body response answer.value in
        past.server ≡ server_behind false (side_of (turn_response given takes leads).stage) left → Turns (turn_response given takes leads).stage past sent heard
    read_whole_turns None other head size answer used closed is whole bytes = is_off ends_here tt
    read_whole_turns (Some response) other head size answer used closed is whole bytes =
        taken_whole_turns other head size (taken_at_response_body response answer.value) answer.moment used closed is whole bytes

    returned_turns : (item : Item ReadResponse) (answer : Timed Reply) → (answers_in flow.request seen).final ≡ item →
        past.server ≡ server_behind false (side_of (turn_returned terms.place there flow side all_sent item seen answer).stage) left →
        Turns (turn_returned terms.place there flow side all_sent item seen answer).stage past sent heard
    returned_turns missing answer is bytes = is_off ends_here tt
    returned_turns (part head body) answer is bytes = is_off ends_here tt
    returned_turns (complete head body trailers size) answer is bytes =
        let whole : Flow = with_returned flow body.content trailers seen.now in
        read_whole_turns whole.response whole head size answer (server_in side seen) seen.closed refl (ap whole_by is) bytes
    returned_turns (bad_head fault) answer is bytes = is_off ends_here tt
    returned_turns (bad_body fault head body) answer is bytes = is_off ends_here tt

  whole_turns : (at : At) (flow : Flow) (side : ℕ) (how : Sent) (most : Option ℕ) (seen past : Sight) (answer : Timed Reply) (sent heard : List ℕ) →
      let from : Stage = busy at flow (response_body side how most) in
      Ends sent heard → IsKnown from → past.server ≡ server_behind false (side_of (To from seen answer)) (left_by_answers (answers_in flow.request seen) seen.server) →
      Turns from (told_on server terms None 0 from seen) sent heard → Turns (To from seen answer) past sent heard
  whole_turns at flow side how most seen past answer sent heard ends known bytes (at_rest said all come rests) = absurd rests.0
  whole_turns at flow side all_sent most seen past answer sent heard ends known bytes (awaits_one before text said all same come awaits) =
      returned_turns at (unspoilt_at at seen) flow side seen past before text said sent heard all same come awaits.0 awaits.1 (answers_in flow.request seen).final answer refl bytes
  whole_turns at flow side going_up most seen past answer sent heard ends known bytes (awaits_one before text said all same come awaits) = absurd awaits
  whole_turns at flow side all_sent most seen past answer sent heard ends known bytes (goes_on before now said all same come tells goes) = absurd tells.0
  whole_turns at flow side going_up most seen past answer sent heard ends known bytes (goes_on before now said all same come tells goes) =
      over_turns (To (busy at flow (response_body side going_up most)) seen answer) past sent heard (kept_ends terms at flow side most seen answer) ends
  whole_turns at flow side how most seen past answer sent heard ends known bytes (is_off ended off) = is_off ended (off_turned server terms (busy at flow (response_body side how most)) seen answer known off)
  whole_turns at flow side how most seen past answer sent heard ends known bytes (switched ended is) = absurd is

  -- ---- any reply

  -- So it stays behind a reply.
  pub turn_turns : (from : Stage) (seen past : Sight) (answer : Timed Reply) (sent heard : List ℕ) → Ends sent heard → ServersBelow from → IsKnown from →
      past ≡ sight_behind terms.place from seen answer.moment (To from seen answer) → Turns from (told_on server terms None 0 from seen) sent heard →
      Turns (To from seen answer) past (sent ++ sent_to server (turn terms from seen answer).owed) heard
  turn_turns (idle at) seen past answer sent heard ends below known is turns =
      quiet_turns (To (idle at) seen answer) past sent heard (turn terms (idle at) seen answer).owed (turn_leads server terms (idle at) seen answer below tt).0
      (still_turns (idle at) at seen past answer sent heard known (head_stays terms (unspoilt_at at seen) (request_in seen) seen answer) (λ rests. rests) (λ text awaits. awaits) (λ now tells. tells) (λ up. up)
      (ap (λ s. s.server) is) turns)
  turn_turns (busy at flow (request_body given size)) seen past answer sent heard ends below known is turns =
      body_turns at flow given size seen past answer sent heard (turn terms (busy at flow (request_body given size)) seen answer) refl
      (body_leads terms (unspoilt_at at seen) flow (request_in seen) seen answer) known (ap (λ s. s.server) is) turns
  turn_turns (busy at flow (connection how)) seen past answer sent heard ends below known is turns =
      dial_turns how at (unspoilt_at at seen) flow answer.value seen past sent heard answer.moment seen.closed (not_later server at.dials (at.dials == server) known refl) ends
  turn_turns (busy at flow (response_head side how)) seen past answer sent heard ends below known is turns =
      let from : Stage = busy at flow (response_head side how) in
      quiet_turns (To from seen answer) past sent heard (turn terms from seen answer).owed (turn_leads server terms from seen answer below tt).0
      (answer_turns at (unspoilt_at at seen) flow side how seen past sent heard ends (ap (λ s. s.client) is) (ap (λ s. s.told) is) turns (answers_in flow.request seen).final answer (ap (λ s. s.server) is))
  turn_turns (busy at flow (response_body side how most)) seen past answer sent heard ends below known is turns =
      let from : Stage = busy at flow (response_body side how most) in
      quiet_turns (To from seen answer) past sent heard (turn terms from seen answer).owed (turn_leads server terms from seen answer below tt).0
      (whole_turns at flow side how most seen past answer sent heard ends known (ap (λ s. s.server) is) turns)
  turn_turns (busy at flow (coming_down side how)) seen past answer sent heard ends below known is turns = quiet_turns over past sent heard [] refl (is_off ends tt)
  turn_turns (busy at flow (upgraded side)) seen past answer sent heard ends below known is turns = quiet_turns over past sent heard [] refl (is_off ends tt)
  turn_turns (busy at flow given_head) seen past answer sent heard ends below known is turns =
      let there : At = unspoilt_at at seen in
      let asked : Flow = given_at flow seen.now in
      quiet_turns (To (busy at flow given_head) seen answer) past sent heard (turn terms (busy at flow given_head) seen answer).owed (turn_leads server terms (busy at flow given_head) seen answer below tt).0
      (still_turns (busy at flow given_head) at seen past answer sent heard known
      (response_stays there asked.response (λ message. taken_at_response_head message answer.value) (λ taken. turn_taken_given there asked taken answer.moment (server_parked there.parked seen) seen.closed)
      (λ taken. given_stays there asked taken answer.moment (server_parked there.parked seen) seen.closed))
      (λ rests. rests.1) (λ text awaits. awaits) (λ now tells. tells.0) (λ up. up) (ap (λ s. s.server) is) turns)
  turn_turns (busy at flow given_body) seen past answer sent heard ends below known is turns =
      let there : At = unspoilt_at at seen in
      quiet_turns (To (busy at flow given_body) seen answer) past sent heard (turn terms (busy at flow given_body) seen answer).owed (turn_leads server terms (busy at flow given_body) seen answer below tt).0
      (still_turns (busy at flow given_body) at seen past answer sent heard known
      (response_stays there flow.response (λ message. taken_at_response_body message answer.value) (λ taken. turn_taken_returned there flow taken answer.moment (server_parked there.parked seen) seen.closed)
      (λ taken. returned_stays there flow taken answer.moment (server_parked there.parked seen) seen.closed))
      (λ rests. rests.1) (λ text awaits. awaits) (λ now tells. tells.0) (λ up. up) (ap (λ s. s.server) is) turns)
  turn_turns (next at) seen past answer sent heard ends below known is turns =
      quiet_turns (next (unspoilt_at at seen)) past sent heard [] refl
      (still_turns (next at) at seen past answer sent heard known (refl, refl) (λ rests. rests) (λ text awaits. awaits) (λ now tells. tells) (λ up. up) (ap (λ s. s.server) is) turns)
  turn_turns over seen past answer sent heard ends below known is turns = quiet_turns over past sent heard [] refl (is_off ends tt)
