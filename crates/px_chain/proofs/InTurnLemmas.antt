-- A server of a conversation is sent whole requests, one behind the other, and at the end at most one that is streamed and did not come whole.
use Rattle.std.proofs.Common.{◌≡◌, ℕ, Bool, true, false, List, [], ◌∷◌, ◌++◌, Option, Some, None, refl, ap, sym, ◌∙◌, subst, arith, append_assoc}
use Rattle.std.specs.Prelude.{⊤, ◌==◌, ◌&&◌}
use Rattle.std.proofs.lemmas.List.{append-nil}
use Rattle.px_message.specs.declared.flow.Flow.{Flow}
use Rattle.px_message.specs.declared.response.Response.{Response}
use Rattle.px_event.specs.declared.command.Command.{Command}
use Rattle.px_event.specs.declared.event.Event.{Event}
use Rattle.px_event.specs.declared.reply.Reply.{Reply}
use Rattle.px_event.specs.declared.reply.Reply.TheVariants as reply
use Rattle.px_event.specs.declared.side.Side.TheVariants.{Server}
use Rattle.px_event.specs.Chain.{Asks, Chain, Stamped, Timed, Turn, found, found_at}
use Rattle.px_event.specs.Layer.{Move}
use Rattle.px_event.specs.Stands.{due_by, events_in}
use Rattle.px_event.specs.View.{bytes_in, line, seen_of}
use Rattle.px_text.specs.Prefix.{IsPrefixOf}
use Rattle.px_read.specs.Items.{Item, missing, part, complete, bad_head, bad_body}
use Rattle.px_read.specs.Laws.{head_in}
use Rattle.px_read.specs.declared.head.RequestHead.{RequestHead as ReadRequest}
use Rattle.px_read.specs.declared.head.ResponseHead.{ResponseHead as ReadResponse}
use Rattle.px_exchange.specs.declared.ending.Used.{Used}
use Rattle.px_exchange.specs.declared.ending.Used.TheVariants.{NoServer}
use Rattle.px_exchange.specs.declared.place.Place.{Place}
use Rattle.px_exchange.specs.declared.taken.Taken.{Taken}
use Rattle.px_exchange.specs.declared.taken.Taken.TheVariants.{GoesOn, Responds, Kills}
use Rattle.px_exchange.specs.declared.terms.Terms.{Terms}
use Rattle.px_exchange.specs.Endings.{ends_by_fault, ends_early, killed_message, shut_unless, without_response, unless_kept}
use Rattle.px_exchange.specs.Flows.{response_of, with_answer}
use Rattle.px_exchange.specs.Places.{form_at}
use Rattle.px_exchange.specs.Replies.{taken_at_response_body, taken_at_response_head}
use Rattle.px_chain.specs.Behind.{sight_behind}
use Rattle.px_chain.specs.Chain.{IsOnward, begin, begin_up, behind, come_down, dial_leads, dial_owes_by, end_by, end_up, given_at, goes_up_by, going_at, gone_by, gone_up, http_chain, is_alone, is_sequence, keeps_came, look, parked_for, pass, pass_came, pass_given, pass_going, pass_kept, passed, past_came, past_gone, past_kept, reached, sequence, sight_begun, sight_come, sight_ended, sight_gone, sight_past, so_far, stands, turn, turn_answer, turn_answer_head, turn_taken_answer, turn_taken_given, turn_taken_returned}
use Rattle.px_chain.specs.Coming.{Came, allowed_by, came_in, finished_coming, goes_on_behind, streaming, streams_in}
use Rattle.px_chain.specs.Going.{framed_up, goes_up, going_by, going_text, is_sent, sending_on, sends_going, told_behind, whole_by, whole_in}
use Rattle.px_chain.specs.Keeping.{is_silent, parks, unspoilt_at}
use Rattle.px_chain.specs.Sent.{AreRequests, IsRequest, IsSentInTurn, in_full, in_part, is_settled, is_streamed, none_yet, one_more}
use Rattle.px_chain.specs.Sights.{Sight, Standing, answers_in, request_in, server_in, server_parked, sight_over}
use Rattle.px_chain.specs.Silent.{ParkedBelow}
use Rattle.px_chain.specs.Stages.{At, Doing, Sent, Stage, all_sent, busy, coming_down, connection, given_body, given_head, going_up, idle, next, over, request_body, response_body, response_head, upgraded}
use Rattle.px_chain.proofs.BelowLemmas.{http_counts, turns_counted}
use Rattle.px_chain.proofs.CountedLemmas.{IsSilent, silent_found}
use Rattle.px_chain.proofs.EarlyLaws.{kept_ends}
use Rattle.px_chain.proofs.GoingLaws.{client_grows, going_text_by}
use Rattle.px_chain.proofs.NotUp.{IsNotUp, IsNotUpBy, gone_not_up}
use Rattle.px_chain.proofs.OnceLemmas.{AllMay, Keeps, kept_due, sent_join, sent_to}
use Rattle.px_chain.proofs.SentLemmas.{IsStill, Says, body_says, body_still, by_parked, connected_said, connected_silent, given_still, head_still, response_still, returned_still, silent, still_up, taken_returned_still, turn_sent, unspoilt_says, untold_onward, untold_passed, untold_turned}
use Rattle.px_chain.proofs.SightLaws.{behind_onward, sight_passed, sight_turned}
use Rattle.px_chain.proofs.SilentLemmas.{AreBelow, ServersBelow, behind_silent, came_silent, early_silent, fault_silent, finished_down, looks_silent, parked_below, so_far_silent, turn_leads, unspoilt_below, up_silent}
use Rattle.px_chain.proofs.TellLemmas.{IsUntold, IsUpBy, TellsAt, TellsBy, all_told, behind_not_up, behind_sent, gone_from, rest_sent, sends_said, tells_more, told_on, unsaid, waits_tell, waits_tell_at}

-- ---- the text of a request that goes up

-- where it is whole
going_is : (place : Place) (flow : Flow) (seen : Sight) (item : Item ReadRequest) (size : ℕ) → request_in seen ≡ item → whole_by item ≡ Some size → IsRequest place (going_text place flow seen)
going_is place flow seen missing size is whole = absurd (let e : None ≡ Some size = whole in cc)
going_is place flow seen (part head body) size is whole = absurd (let e : None ≡ Some size = whole in cc)
going_is place flow seen (complete head body trailers used) size is whole =
    is_streamed (framed_up head flow.request) seen.client used (ap whole_by is) (ap (λ h. going_by h flow.request (form_at place) seen.client) (ap head_in is))
going_is place flow seen (bad_head fault) size is whole = absurd (let e : None ≡ Some size = whole in cc)
going_is place flow seen (bad_body fault head body) size is whole = absurd (let e : None ≡ Some size = whole in cc)

gone_whole : (going size : Option ℕ) (side : ℕ) → gone_by going size ≡ Some side → (n : ℕ) × (size ≡ Some n)
gone_whole None size side is = absurd (let e : None ≡ Some side = is in cc)
gone_whole (Some to) None side is = absurd (let e : None ≡ Some side = is in cc)
gone_whole (Some to) (Some n) side is = (n, refl)

-- or not
so_far_by : (place : Place) (flow : Flow) (seen : Sight) (before : List ℕ) (head : Option ReadRequest) → head_in (request_in seen) ≡ head → AreRequests place before →
    IsSentInTurn place (before ++ going_text place flow seen)
so_far_by place flow seen before None is all =
    let empty = ap (λ h. going_by h flow.request (form_at place) seen.client) is in
    in_full (subst (λ b. AreRequests place b) (sym (ap (λ l. before ++ l) empty ∙ append-nil before)) all)
so_far_by place flow seen before (Some head) is all =
    in_part before (framed_up head flow.request) seen.client all (ap (λ h. before ++ going_by h flow.request (form_at place) seen.client) is)

module _ (server : ℕ) (terms : Terms) where
  abbrev Are : List ℕ → Type 0
  Are sent = AreRequests terms.place sent

  abbrev Ends : List ℕ → Type 0
  Ends sent = IsSentInTurn terms.place sent

  abbrev TellsNow : Stage → Sight → List ℕ → Type 0
  TellsNow stage seen now = TellsAt server terms None 0 stage seen now

  abbrev TellsFlow : Flow → Sight → List ℕ → Type 0
  TellsFlow flow seen now = TellsBy server terms None 0 flow seen now

  -- What the server was sent so far: whole requests, and as much of one that goes up to it as earlier asks owed.
  pub data InTurnAt (stage : Stage) (seen : Sight) (sent : List ℕ) : Type 0 where
    at_rest : Are sent → IsNotUp server stage → InTurnAt stage seen sent
    tells_on : (before now : List ℕ) → Are before → sent ≡ before ++ now → TellsNow stage seen now → InTurnAt stage seen sent
    at_end : Ends sent → stage ≡ over → InTurnAt stage seen sent

  -- a request goes up to it at the stage
  abbrev TellsAtAll : Stage → Type 0
  TellsAtAll (busy at flow doing) = IsUpBy server (going_at doing)
  TellsAtAll stage = ⊥

  tells_up : (stage : Stage) (seen : Sight) (now : List ℕ) → TellsNow stage seen now → TellsAtAll stage
  tells_up (idle at) seen now tells = absurd tells
  tells_up (busy at flow doing) seen now tells = tells.0
  tells_up (next at) seen now tells = absurd tells
  tells_up over seen now tells = absurd tells

  -- behind what says nothing it is the same
  same_all : (sent : List ℕ) (owed : List Command) → IsSilent server owed → Are sent → Are (sent ++ sent_to server owed)
  same_all sent owed none all = subst Are (sym (unsaid server terms None 0 sent owed none)) all

  same_end : (sent : List ℕ) (owed : List Command) → IsSilent server owed → Ends sent → Ends (sent ++ sent_to server owed)
  same_end sent owed none all = subst Ends (sym (unsaid server terms None 0 sent owed none)) all

  same_at : (stage : Stage) (seen : Sight) (sent : List ℕ) → InTurnAt stage seen sent → InTurnAt stage seen (sent ++ [])
  same_at stage seen sent said = subst (λ s. InTurnAt stage seen s) (sym (append-nil sent)) said

  no_tells : (side : ℕ) (flow : Flow) (seen : Sight) → seen.told ≡ 0 → TellsFlow flow seen []
  no_tells side flow seen told = record { told = sym told; begins = (going_text terms.place flow seen, refl); goes_there = λ before. absurd (omega arith) }

  -- ---- a request begins to go up

  reaches : (same : Bool) (side : ℕ) (at : At) (flow : Flow) (seen : Sight) (sent : List ℕ) → (side == server) ≡ same → seen.told ≡ 0 → Are sent →
      InTurnAt (busy at flow (response_head side going_up)) seen sent
  reaches true side at flow seen sent is told all = tells_on sent [] all (sym (append-nil sent)) (is, no_tells side flow seen told)
  reaches false side at flow seen sent is told all = at_rest all is

  up_turn : (side : Option ℕ) (at : At) (flow : Flow) (seen : Sight) (sent : List ℕ) → seen.told ≡ 0 → Are sent → InTurnAt (goes_up_by side terms.place at flow) seen sent
  up_turn None at flow seen sent told all = at_rest all tt
  up_turn (Some side) at flow seen sent told all = reaches (side == server) side _ (reached terms.place flow) seen sent refl told all

  going_turn : (up : Bool) (at : At) (flow : Flow) (size : Option ℕ) (seen : Sight) (sent : List ℕ) → seen.told ≡ 0 → Are sent → InTurnAt (pass_going up terms.place at flow size seen) seen sent
  going_turn true at flow size seen sent told all = up_turn (parked_for terms.place flow.request (unspoilt_at at seen).parked) at (sending_on flow) seen sent told all
  going_turn false at flow size seen sent told all = at_rest all tt

  given_turn : (at : At) (flow : Flow) (response : Response) (size : Option ℕ) (item : Item ReadRequest) (now : ℕ) (past : Sight) (sent : List ℕ) → Are sent →
      InTurnAt (pass_given at flow response size item now) past sent
  given_turn at flow response size missing now past sent all = at_rest all tt
  given_turn at flow response size (part head body) now past sent all = at_rest all tt
  given_turn at flow response size (complete head body trailers used) now past sent all = at_rest all tt
  given_turn at flow response size (bad_head fault) now past sent all = at_rest all tt
  given_turn at flow response size (bad_body fault head body) now past sent all = at_rest all tt

  body_turn : (at : At) (flow : Flow) (given : Option Response) (size : Option ℕ) (seen : Sight) (sent : List ℕ) → seen.told ≡ 0 → Are sent →
      InTurnAt (begin_up terms (busy at flow (request_body given size)) seen) (sight_begun (busy at flow (request_body given size)) seen) sent
  body_turn at flow None size seen sent told all = going_turn (goes_up size seen) at flow size seen sent told all
  body_turn at flow (Some response) size seen sent told all = given_turn at flow response size (request_in seen) seen.now _ sent all

  not_over : {A : Type 0} (at : At) (flow : Flow) (doing : Doing) → busy at flow doing ≡ over → A
  not_over at flow doing is = absurd (let e : busy at flow doing ≡ over = is in cc)

  begin_turn : (stage : Stage) (seen : Sight) (sent : List ℕ) → IsUntold stage seen.told → InTurnAt stage seen sent → InTurnAt (begin_up terms stage seen) (sight_begun stage seen) sent
  begin_turn (idle at) seen sent told said = said
  begin_turn (busy at flow (request_body given size)) seen sent told (at_rest all up) = body_turn at flow given size seen sent told all
  begin_turn (busy at flow (request_body given size)) seen sent told (tells_on before now all same tells) = absurd tells.0
  begin_turn (busy at flow (request_body given size)) seen sent told (at_end all is) = not_over at flow (request_body given size) is
  begin_turn (busy at flow (connection how)) seen sent told said = said
  begin_turn (busy at flow (response_head side how)) seen sent told said = said
  begin_turn (busy at flow (response_body side how most)) seen sent told said = said
  begin_turn (busy at flow (coming_down side how)) seen sent told said = said
  begin_turn (busy at flow (upgraded side)) seen sent told said = said
  begin_turn (busy at flow given_head) seen sent told said = said
  begin_turn (busy at flow given_body) seen sent told said = said
  begin_turn (next at) seen sent told said = said
  begin_turn over seen sent told said = said

  -- ---- one that goes up is whole

  end_turn_by : (g : Option ℕ) (at : At) (flow : Flow) (doing : Doing) (seen : Sight) (sent : List ℕ) → gone_by (going_at doing) (whole_in seen) ≡ g → InTurnAt (busy at flow doing) seen sent →
      InTurnAt (end_by g terms.place at flow doing seen).stage (past_gone g seen) (sent ++ sent_to server (end_by g terms.place at flow doing seen).owed)
  end_turn_by None at flow doing seen sent is said = same_at (busy at flow doing) seen sent said
  end_turn_by (Some side) at flow doing seen sent is (at_rest all up) =
      let there = gone_from server terms None 0 (going_at doing) (whole_in seen) side is in
      at_rest (same_all sent (sends_going terms.place flow side seen) (up_silent server terms.place flow side seen (subst (λ g. IsNotUpBy server g) there up)) all) (gone_not_up server doing)
  end_turn_by (Some side) at flow doing seen sent is (tells_on before now all same (up, tells)) =
      let there = gone_from server terms None 0 (going_at doing) (whole_in seen) side is in
      let whole = gone_whole (going_at doing) (whole_in seen) side is in
      let owed : List Command = sends_going terms.place flow side seen in
      let text = ap (λ l. now ++ l) (sends_said server terms None 0 flow seen side (subst (λ g. IsUpBy server g) there up)) ∙ rest_sent server terms None 0 flow seen now tells in
      at_rest (one_more before (going_text terms.place flow seen) _ all (going_is terms.place flow seen (request_in seen) whole.0 refl whole.1)
      (ap (λ s. s ++ sent_to server owed) same ∙ (append_assoc before now (sent_to server owed) ∙ ap (λ l. before ++ l) text))) (gone_not_up server doing)
  end_turn_by (Some side) at flow doing seen sent is (at_end all ended) = not_over at flow doing ended

  end_turn : (stage : Stage) (seen : Sight) (sent : List ℕ) → InTurnAt stage seen sent →
      InTurnAt (end_up terms stage seen).stage (sight_ended stage seen) (sent ++ sent_to server (end_up terms stage seen).owed)
  end_turn (idle at) seen sent said = same_at (idle at) seen sent said
  end_turn (busy at flow doing) seen sent said = end_turn_by (gone_by (going_at doing) (whole_in seen)) at flow doing seen sent refl said
  end_turn (next at) seen sent said = same_at (next at) seen sent said
  end_turn over seen sent said = same_at over seen sent said

  -- ---- a response comes down

  -- behind all that came of the request
  ends_so : (flow : Flow) (seen : Sight) (sent before now text : List ℕ) → Are before → sent ≡ before ++ now → now ++ text ≡ going_text terms.place flow seen → Ends (sent ++ text)
  ends_so flow seen sent before now text all same is =
      subst Ends (sym (ap (λ s. s ++ text) same ∙ (append_assoc before now text ∙ ap (λ l. before ++ l) is))) (so_far_by terms.place flow seen before (head_in (request_in seen)) refl all)

  came_turn : (at : At) (flow : Flow) (side : ℕ) (how : Sent) (seen : Sight) (sent : List ℕ) (came : Option Came) → InTurnAt (busy at flow (coming_down side how)) seen sent →
      InTurnAt (pass_came terms.place at flow side how seen came).stage (past_came came seen) (sent ++ sent_to server (pass_came terms.place at flow side how seen came).owed)
  came_turn at flow side how seen sent None said = same_at (busy at flow (coming_down side how)) seen sent said
  came_turn at flow side how seen sent (Some came) (at_rest all up) =
      at_rest (same_all sent (pass_came terms.place at flow side how seen (Some came)).owed (came_silent server terms.place at flow side how seen (Some came) up) all)
      (behind_not_up server terms None 0 (is_sent how && goes_on_behind at.flow flow.request came) (parks (keeps_came at flow how seen came) terms.place at flow.request side))
  came_turn at flow side all_sent seen sent (Some came) (tells_on before now all same tells) = absurd tells.0
  came_turn at flow side going_up seen sent (Some came) (tells_on before now all same (up, tells)) =
      let stays : Bool = is_sent going_up && goes_on_behind at.flow flow.request came in
      let rest : Used = unless_kept (keeps_came at flow going_up seen came) (server_in side seen) in
      let told = all_told server terms None 0 flow seen side now (finished_coming flow seen rest ++ shut_unless stays NoServer seen.closed) up (finished_down server flow rest seen stays) tells in
      at_end (ends_so flow seen sent before now _ all same told) refl
  came_turn at flow side how seen sent (Some came) (at_end all is) = not_over at flow (coming_down side how) is

  streaming_turn : (at : At) (flow : Flow) (side : ℕ) (how : Sent) (most : Option ℕ) (seen : Sight) (sent : List ℕ) → InTurnAt (busy at flow (response_body side how most)) seen sent →
      InTurnAt (busy at (streaming flow) (coming_down side how)) seen sent
  streaming_turn at flow side all_sent most seen sent (at_rest all up) = at_rest all tt
  streaming_turn at flow side all_sent most seen sent (tells_on before now all same tells) = absurd tells.0
  streaming_turn at flow side going_up most seen sent (at_rest all up) = at_rest all up
  streaming_turn at flow side going_up most seen sent (tells_on before now all same (up, tells)) =
      tells_on before now all same (up, record { told = tells.told; begins = tells.begins; goes_there = λ before. absurd (omega arith) })
  streaming_turn at flow side how most seen sent (at_end all is) = not_over at flow (response_body side how most) is

  kept_turn : (streams : Bool) (at : At) (flow : Flow) (side : ℕ) (how : Sent) (most : Option ℕ) (seen : Sight) (sent : List ℕ) → InTurnAt (busy at flow (response_body side how most)) seen sent →
      InTurnAt (pass_kept streams terms.place at flow side how most seen).stage (past_kept streams (came_in (streaming flow) seen) seen)
      (sent ++ sent_to server (pass_kept streams terms.place at flow side how most seen).owed)
  kept_turn true at flow side how most seen sent said = came_turn at (streaming flow) side how seen sent (came_in (streaming flow) seen) (streaming_turn at flow side how most seen sent said)
  kept_turn false at flow side how most seen sent said = same_at (busy at flow (response_body side how most)) seen sent said

  come_turn : (stage : Stage) (seen : Sight) (sent : List ℕ) → InTurnAt stage seen sent →
      InTurnAt (come_down terms stage seen).stage (sight_come stage seen) (sent ++ sent_to server (come_down terms stage seen).owed)
  come_turn (idle at) seen sent said = same_at (idle at) seen sent said
  come_turn (busy at flow (request_body given size)) seen sent said = same_at (busy at flow (request_body given size)) seen sent said
  come_turn (busy at flow (connection how)) seen sent said = same_at (busy at flow (connection how)) seen sent said
  come_turn (busy at flow (response_head side how)) seen sent said = same_at (busy at flow (response_head side how)) seen sent said
  come_turn (busy at flow (response_body side how most)) seen sent said = kept_turn (streams_in flow most seen) at flow side how most seen sent said
  come_turn (busy at flow (coming_down side how)) seen sent said = came_turn at flow side how seen sent (came_in flow seen) said
  come_turn (busy at flow (upgraded side)) seen sent said = same_at (busy at flow (upgraded side)) seen sent said
  come_turn (busy at flow given_head) seen sent said = same_at (busy at flow given_head) seen sent said
  come_turn (busy at flow given_body) seen sent said = same_at (busy at flow given_body) seen sent said
  come_turn (next at) seen sent said = same_at (next at) seen sent said
  come_turn over seen sent said = same_at over seen sent said

  -- So it stays where the conversation passes.
  pub pass_turn : (stage : Stage) (seen : Sight) (sent : List ℕ) → IsUntold stage seen.told → InTurnAt stage seen sent →
      InTurnAt (pass terms stage seen).stage (sight_past terms stage seen) (sent ++ sent_to server (pass terms stage seen).owed)
  pass_turn stage seen sent told said =
      let begun : Stage = begin_up terms stage seen in
      let up : List Command = (end_up terms begun (sight_begun stage seen)).owed in
      let there : Stage = gone_up terms stage seen in
      let left : Sight = sight_gone terms stage seen in
      let down : List Command = (come_down terms there left).owed in
      subst (λ s. InTurnAt (come_down terms there left).stage (sight_past terms stage seen) s) (behind_sent server terms None 0 sent up down)
      (come_turn there left (sent ++ sent_to server up) (end_turn begun (sight_begun stage seen) sent (begin_turn stage seen sent told said)))

  -- ---- one event more, and while it waits

  pub hears_turn : (stage : Stage) (seen later : Sight) (sent : List ℕ) → IsPrefixOf seen.client later.client → later.told ≡ seen.told → InTurnAt stage seen sent → InTurnAt stage later sent
  hears_turn stage seen later sent more same (at_rest all up) = at_rest all up
  hears_turn stage seen later sent more same (tells_on before now all is tells) = tells_on before now all is (tells_more server terms None 0 stage seen later now more same tells)
  hears_turn stage seen later sent more same (at_end all is) = at_end all is

  over_waits : (stage : Stage) (seen : Sight) → stage ≡ over → IsSilent server (so_far terms stage seen)
  over_waits stage seen is = ap (λ s. sent_to server (so_far terms s seen)) is

  pub waited_turn : (stage : Stage) (seen : Sight) (sent : List ℕ) → InTurnAt stage seen sent → InTurnAt stage (told_on server terms None 0 stage seen) (sent ++ sent_to server (so_far terms stage seen))
  waited_turn stage seen sent (at_rest all up) = at_rest (same_all sent (so_far terms stage seen) (so_far_silent server terms stage seen up) all) up
  waited_turn stage seen sent (tells_on before now all same tells) =
      let text : List ℕ = sent_to server (so_far terms stage seen) in
      tells_on before (now ++ text) all (ap (λ s. s ++ text) same ∙ append_assoc before now text) (waits_tell_at server terms None 0 stage seen now tells)
  waited_turn stage seen sent (at_end all is) = at_end (same_end sent (so_far terms stage seen) (over_waits stage seen is) all) is

  tells_end : (stage : Stage) (seen : Sight) (sent before now : List ℕ) → Are before → sent ≡ before ++ now → TellsNow stage seen now → Ends (sent ++ sent_to server (so_far terms stage seen))
  tells_end (idle at) seen sent before now all same tells = absurd tells
  tells_end (busy at flow doing) seen sent before now all same (up, tells) = ends_so flow seen sent before now _ all same (waits_tell server terms None 0 at flow doing seen now up tells).0
  tells_end (next at) seen sent before now all same tells = absurd tells
  tells_end over seen sent before now all same tells = absurd tells

  pub waited_ends : (stage : Stage) (seen : Sight) (sent : List ℕ) → InTurnAt stage seen sent → Ends (sent ++ sent_to server (so_far terms stage seen))
  waited_ends stage seen sent (at_rest all up) = in_full (same_all sent (so_far terms stage seen) (so_far_silent server terms stage seen up) all)
  waited_ends stage seen sent (tells_on before now all same tells) = tells_end stage seen sent before now all same tells
  waited_ends stage seen sent (at_end all is) = same_end sent (so_far terms stage seen) (over_waits stage seen is) all

  -- where the next flow begins
  sequence_turn : (stage : Stage) (seen : Sight) (sent : List ℕ) → InTurnAt stage seen sent → InTurnAt (sequence stage) seen sent
  sequence_turn (idle at) seen sent said = said
  sequence_turn (busy at flow doing) seen sent said = said
  sequence_turn (next at) seen sent (at_rest all up) = at_rest all tt
  sequence_turn (next at) seen sent (tells_on before now all same tells) = absurd tells
  sequence_turn (next at) seen sent (at_end all is) = absurd (let e : next at ≡ over = is in cc)
  sequence_turn over seen sent said = said

  pub onward_turn : (onward : Stage → Stage) → IsOnward onward → (stage : Stage) (seen : Sight) (sent : List ℕ) → InTurnAt stage seen sent → InTurnAt (onward stage) seen sent
  onward_turn onward (is_alone same) stage seen sent said = rw same said
  onward_turn onward (is_sequence same) stage seen sent said = rw same (sequence_turn stage seen sent said)

  -- ---- behind a reply

  -- it leads to the end
  over_turn : (past : Sight) (sent : List ℕ) (owed : List Command) → Ends sent → IsSilent server owed → InTurnAt over past (sent ++ sent_to server owed)
  over_turn past sent owed ends none = at_end (same_end sent owed none ends) refl

  -- it says nothing, and no request goes up then
  still_turn : (from : Stage) (seen before past : Sight) (answer : Timed Reply) (sent : List ℕ) → Ends sent → IsSilent server (turn terms from seen answer).owed →
      IsStill (turn terms from seen answer).stage → (TellsAtAll from → (turn terms from seen answer).stage ≡ over) → InTurnAt from before sent →
      InTurnAt (turn terms from seen answer).stage past (sent ++ sent_to server (turn terms from seen answer).owed)
  still_turn from seen before past answer sent ends none still stops (at_rest all up) =
      at_rest (same_all sent (turn terms from seen answer).owed none all) (still_up server (turn terms from seen answer).stage still)
  still_turn from seen before past answer sent ends none still stops (tells_on had now all same tells) =
      at_end (same_end sent (turn terms from seen answer).owed none ends) (stops (tells_up from before now tells))
  still_turn from seen before past answer sent ends none still stops (at_end all is) =
      at_end (same_end sent (turn terms from seen answer).owed none all) (ap (λ s. (turn terms s seen answer).stage) is)

  body_turned : (at : At) (flow : Flow) (given : Option Response) (size : Option ℕ) (before past : Sight) (sent : List ℕ) (turned : Turn Stage Command) → Says server terms at turned → IsStill turned.stage →
      InTurnAt (busy at flow (request_body given size)) before sent → InTurnAt turned.stage past (sent ++ sent_to server turned.owed)
  body_turned at flow given size before past sent turned (silent none) still (at_rest all up) = at_rest (same_all sent turned.owed none all) (still_up server turned.stage still)
  body_turned at flow given size before past sent turned (by_parked request there text led) still (at_rest all up) =
      at_rest (one_more sent (sent_to server turned.owed) _ all (is_settled request text) refl) (still_up server turned.stage still)
  body_turned at flow given size before past sent turned says still (tells_on had now all same tells) = absurd tells.0
  body_turned at flow given size before past sent turned says still (at_end all is) = not_over at flow (request_body given size) is

  dialled_turn : (how : Sent) (at : At) (flow : Flow) (past : Sight) (sent : List ℕ) (moment : ℕ) (closed same : Bool) → (at.dials == server) ≡ same → past.told ≡ 0 → Are sent →
      InTurnAt (dial_leads terms.place at flow how reply.Dialled) past (sent ++ sent_to server (dial_owes_by how terms.place flow at.dials reply.Dialled moment closed))
  dialled_turn all_sent at flow past sent moment closed true is told all =
      at_rest (one_more sent (sent_to server (dial_owes_by all_sent terms.place flow at.dials reply.Dialled moment closed)) _ all
      (is_settled flow.request (connected_said server terms flow at.dials is)) refl) tt
  dialled_turn all_sent at flow past sent moment closed false is told all =
      at_rest (same_all sent (dial_owes_by all_sent terms.place flow at.dials reply.Dialled moment closed) (connected_silent server terms flow at.dials is) all) tt
  dialled_turn going_up at flow past sent moment closed true is told all = tells_on sent [] all refl (is, no_tells at.dials (reached terms.place flow) past told)
  dialled_turn going_up at flow past sent moment closed false is told all = at_rest (same_all sent [] refl all) is

  dial_turn : (how : Sent) (at : At) (flow : Flow) (answer : Reply) (past : Sight) (sent : List ℕ) (moment : ℕ) (closed : Bool) → past.told ≡ 0 → Are sent →
      InTurnAt (dial_leads terms.place at flow how answer) past (sent ++ sent_to server (dial_owes_by how terms.place flow at.dials answer moment closed))
  dial_turn how at flow reply.Dialled past sent moment closed told all = dialled_turn how at flow past sent moment closed (at.dials == server) refl told all
  dial_turn all_sent at flow (reply.Refused fault) past sent moment closed told all =
      over_turn past sent (ends_by_fault flow fault moment NoServer closed) (in_full all) (fault_silent server flow fault moment NoServer closed)
  dial_turn going_up at flow (reply.Refused fault) past sent moment closed told all =
      over_turn past sent (ends_by_fault flow fault moment NoServer closed) (in_full all) (fault_silent server flow fault moment NoServer closed)
  dial_turn all_sent at flow (reply.Go other stream) past sent moment closed told all = over_turn past sent [] (in_full all) refl
  dial_turn going_up at flow (reply.Go other stream) past sent moment closed told all = over_turn past sent [] (in_full all) refl
  dial_turn all_sent at flow (reply.Respond given) past sent moment closed told all = over_turn past sent [] (in_full all) refl
  dial_turn going_up at flow (reply.Respond given) past sent moment closed told all = over_turn past sent [] (in_full all) refl
  dial_turn all_sent at flow reply.Kill past sent moment closed told all = over_turn past sent [] (in_full all) refl
  dial_turn going_up at flow reply.Kill past sent moment closed told all = over_turn past sent [] (in_full all) refl
  dial_turn all_sent at flow reply.Discard past sent moment closed told all = over_turn past sent [] (in_full all) refl
  dial_turn going_up at flow reply.Discard past sent moment closed told all = over_turn past sent [] (in_full all) refl

  connection_turn : (how : Sent) (at there : At) (flow : Flow) (answer : Reply) (before past : Sight) (sent : List ℕ) (moment : ℕ) (closed : Bool) → past.told ≡ 0 →
      InTurnAt (busy at flow (connection how)) before sent →
      InTurnAt (dial_leads terms.place there flow how answer) past (sent ++ sent_to server (dial_owes_by how terms.place flow there.dials answer moment closed))
  connection_turn how at there flow answer before past sent moment closed told (at_rest all up) = dial_turn how there flow answer past sent moment closed told all
  connection_turn how at there flow answer before past sent moment closed told (tells_on had now all same tells) = absurd tells.0
  connection_turn how at there flow answer before past sent moment closed told (at_end all is) = not_over at flow (connection how) is

  -- the hook of a response's head is answered: the request goes up on, where it did
  head_turn : (at there : At) (flow other : Flow) (side : ℕ) (how : Sent) (most : Option ℕ) (seen past : Sight) (sent : List ℕ) → other.request ≡ flow.request → past.client ≡ seen.client →
      past.told ≡ seen.told → InTurnAt (busy at flow (response_head side how)) seen sent → InTurnAt (busy there other (response_body side how most)) past sent
  head_turn at there flow other side all_sent most seen past sent same bytes told (at_rest all up) = at_rest all tt
  head_turn at there flow other side all_sent most seen past sent same bytes told (tells_on had now all is tells) = absurd tells.0
  head_turn at there flow other side going_up most seen past sent same bytes told (at_rest all up) = at_rest all up
  head_turn at there flow other side going_up most seen past sent same bytes told (tells_on had now all is (up, tells)) = tells_on had now all is (
    up,
    record {
      told = tells.told ∙ sym told;
      begins = (tells.begins.0, going_text_by terms.place flow other seen past same bytes ∙ tells.begins.1);
      goes_there = λ before. absurd (omega arith);
    },
  )
  head_turn at there flow other side how most seen past sent same bytes told (at_end all is) = not_over at flow (response_head side how) is

  module _ (at there : At) (flow : Flow) (side : ℕ) (how : Sent) (seen past : Sight) (sent : List ℕ) (ends : Ends sent) (bytes : past.client ≡ seen.client)
      (told : past.told ≡ told_behind terms.place (busy at flow (response_head side how)) seen)
      (said : InTurnAt (busy at flow (response_head side how)) (told_on server terms None 0 (busy at flow (response_head side how)) seen) sent) where
    taken_answer_turn : (other : Flow) (most : Option ℕ) (taken : Taken Response) (moment : ℕ) (used : Used) (closed : Bool) → other.request ≡ flow.request →
        InTurnAt (turn_taken_answer there other side how most taken moment used closed).stage past (sent ++ sent_to server (turn_taken_answer there other side how most taken moment used closed).owed)
    taken_answer_turn other most (GoesOn response) moment used closed same =
        same_at (busy there (record other { response = Some response }) (response_body side how most)) past sent
        (head_turn at there flow (record other { response = Some response }) side how most (told_on server terms None 0 (busy at flow (response_head side how)) seen) past sent same bytes told said)
    taken_answer_turn other most (Responds response) moment used closed same =
        over_turn past sent (ends_early (without_response other) killed_message moment used closed) ends (early_silent server (without_response other) killed_message moment used closed)
    taken_answer_turn other most Kills moment used closed same =
        over_turn past sent (ends_early (without_response other) killed_message moment used closed) ends (early_silent server (without_response other) killed_message moment used closed)

    answer_head_turn : (head : ReadResponse) (answer : Timed Reply) →
        InTurnAt (turn_answer_head terms there flow side how head seen answer).stage past (sent ++ sent_to server (turn_answer_head terms there flow side how head seen answer).owed)
    answer_head_turn head answer =
        taken_answer_turn (with_answer flow (response_of head) seen.now) (allowed_by terms.streams answer.value) (taken_at_response_head (response_of head) answer.value) answer.moment
        (server_in side seen) seen.closed refl

    answer_turn : (item : Item ReadResponse) (answer : Timed Reply) →
        InTurnAt (turn_answer terms there flow side how item seen answer).stage past (sent ++ sent_to server (turn_answer terms there flow side how item seen answer).owed)
    answer_turn missing answer = over_turn past sent [] ends refl
    answer_turn (part head body) answer = answer_head_turn head answer
    answer_turn (complete head body trailers size) answer = answer_head_turn head answer
    answer_turn (bad_head fault) answer = over_turn past sent [] ends refl
    answer_turn (bad_body fault head body) answer = answer_head_turn head answer

  -- a response that is kept, and whole, while its request goes up
  returned_stops : (at : At) (flow : Flow) (side : ℕ) (how : Sent) (most : Option ℕ) (seen : Sight) (answer : Timed Reply) → TellsAtAll (busy at flow (response_body side how most)) →
      (turn terms (busy at flow (response_body side how most)) seen answer).stage ≡ over
  returned_stops at flow side all_sent most seen answer tells = absurd tells
  returned_stops at flow side going_up most seen answer tells = kept_ends terms at flow side most seen answer

  turn_turn : (from : Stage) (seen past : Sight) (answer : Timed Reply) (sent : List ℕ) (to : Stage) → Ends sent → ServersBelow from → past ≡ sight_behind terms.place from seen answer.moment to →
      InTurnAt from (told_on server terms None 0 from seen) sent →
      InTurnAt (turn terms from seen answer).stage past (sent ++ sent_to server (turn terms from seen answer).owed)
  turn_turn (idle at) seen past answer sent to ends below is said =
      still_turn (idle at) seen _ past answer sent ends (turn_leads server terms (idle at) seen answer below tt).0 (head_still terms (unspoilt_at at seen) (request_in seen) seen answer)
      (λ tells. absurd tells) said
  turn_turn (busy at flow (request_body given size)) seen past answer sent to ends below is said =
      let turned : Turn Stage Command = turn terms (busy at flow (request_body given size)) seen answer in
      body_turned at flow given size _ past sent turned
      (unspoilt_says server terms at seen turned
      (body_says server terms (unspoilt_at at seen) flow (request_in seen) seen answer (unspoilt_below (is_silent seen.server seen.shut) at.parked at.dials below)))
      (body_still terms.place (unspoilt_at at seen) flow (request_in seen) seen answer) said
  turn_turn (busy at flow (connection how)) seen past answer sent to ends below is said =
      connection_turn how at (unspoilt_at at seen) flow answer.value _ past sent answer.moment seen.closed (ap (λ s. s.told) is) said
  turn_turn (busy at flow (response_head side how)) seen past answer sent to ends below is said =
      answer_turn at (unspoilt_at at seen) flow side how seen past sent ends (ap (λ s. s.client) is) (ap (λ s. s.told) is) said (answers_in flow.request seen).final answer
  turn_turn (busy at flow (response_body side how most)) seen past answer sent to ends below is said =
      still_turn (busy at flow (response_body side how most)) seen _ past answer sent ends (turn_leads server terms (busy at flow (response_body side how most)) seen answer below tt).0
      (returned_still terms.place (unspoilt_at at seen) flow side how (answers_in flow.request seen).final seen answer) (returned_stops at flow side how most seen answer) said
  turn_turn (busy at flow (coming_down side how)) seen past answer sent to ends below is said = over_turn past sent [] ends refl
  turn_turn (busy at flow (upgraded side)) seen past answer sent to ends below is said = over_turn past sent [] ends refl
  turn_turn (busy at flow given_head) seen past answer sent to ends below is said =
      let asked : Flow = given_at flow seen.now in
      let there : At = unspoilt_at at seen in
      still_turn (busy at flow given_head) seen _ past answer sent ends (turn_leads server terms (busy at flow given_head) seen answer below tt).0
      (response_still asked.response (λ message. taken_at_response_head message answer.value) (λ taken. turn_taken_given there asked taken answer.moment (server_parked there.parked seen) seen.closed)
      (λ taken. given_still there asked taken answer.moment (server_parked there.parked seen) seen.closed)) (λ tells. absurd tells) said
  turn_turn (busy at flow given_body) seen past answer sent to ends below is said =
      let there : At = unspoilt_at at seen in
      still_turn (busy at flow given_body) seen _ past answer sent ends (turn_leads server terms (busy at flow given_body) seen answer below tt).0
      (response_still flow.response (λ message. taken_at_response_body message answer.value) (λ taken. turn_taken_returned there flow taken answer.moment (server_parked there.parked seen) seen.closed)
      (λ taken. taken_returned_still there flow taken answer.moment (server_parked there.parked seen) seen.closed)) (λ tells. absurd tells) said
  turn_turn (next at) seen past answer sent to ends below is said = still_turn (next at) seen _ past answer sent ends refl tt (λ tells. absurd tells) said
  turn_turn over seen past answer sent to ends below is said = over_turn past sent [] ends refl

-- ---- the chain

module _ (onward : Stage → Stage) (goes : IsOnward onward) (terms : Terms) (server : ℕ) where
  abbrev chain : Chain Standing Event Reply Command
  chain = http_chain onward terms

  -- A place of a conversation, where this was sent to the server.
  pub record InTurnThere (place : Standing) (prefix : List (Timed Event)) (sent : List ℕ) : Type 0 where
    pub below : AreBelow place
    pub untold : IsUntold place.stage place.told
    pub said : InTurnAt server terms place.stage (sight_over place prefix) sent

  abbrev pub Holds : Standing → List (Timed Event) → List Command → Type 0
  Holds place prefix before = InTurnThere place prefix (sent_to server before)

  abbrev pub EndsSo : List Command → Type 0
  EndsSo owed = IsSentInTurn terms.place (sent_to server owed)

  pub turn_passed : (place : Standing) (prefix : List (Timed Event)) (before : List Command) → Holds place prefix before →
      Holds (chain.pass place prefix).stage prefix (before ++ (chain.pass place prefix).owed)
  turn_passed place prefix before is =
      let seen : Sight = sight_over place prefix in
      let to : Stage = (pass terms place.stage seen).stage in
      let owed : List Command = (pass terms place.stage seen).owed in
      let there : Standing = passed onward terms place seen in
      let sent : List ℕ = sent_to server before ++ sent_to server owed in
      record {
        below = ((http_counts onward goes terms).passes place prefix is.below).stays;
        untold = untold_onward onward goes to place.told (untold_passed terms place.stage seen place.told is.untold);
        said = subst (λ s. InTurnAt server terms there.stage (sight_over there prefix) s) (sym (sent_join server before owed))
            (subst (λ past. InTurnAt server terms there.stage past sent) (sym (sight_passed onward goes terms place prefix))
            (onward_turn server terms onward goes to (sight_past terms place.stage seen) sent (pass_turn server terms place.stage seen (sent_to server before) is.untold is.said)));
      }

  pub turn_heard : (place : Standing) (prefix : List (Timed Event)) (before : List Command) (event : Timed Event) → Holds place prefix before → Holds place (prefix ++ event ∷ []) before
  turn_heard place prefix before event is = record {
    below = is.below;
    untold = is.untold;
    said = hears_turn server terms place.stage (sight_over place prefix) (sight_over place (prefix ++ event ∷ [])) (sent_to server before) (client_grows place.used.client prefix event) refl is.said;
  }

  pub turn_turned : (place : Standing) (prefix : List (Timed Event)) (before : List Command) (ask : Command) (answer : Timed Reply) → chain.look place prefix ≡ Asks ask → Holds place prefix before →
      Holds (chain.turn place prefix answer).stage prefix (before ++ (chain.so_far place prefix ++ ask ∷ (chain.behind place prefix ++ (chain.turn place prefix answer).owed)))
  turn_turned place prefix before ask answer asked is =
      let seen : Sight = sight_over place prefix in
      let turned : Turn Stage Command = turn terms place.stage seen answer in
      let there : Standing = stands terms place answer.moment prefix (onward turned.stage) in
      let waits : List Command = so_far terms place.stage seen in
      let parts : List Command = behind place.stage seen in
      let one : IsSilent server (ask ∷ []) = ap (λ l. bytes_in (seen_of (line (Server server)) (found l))) (sym asked) ∙ looks_silent server terms place.stage seen in
      let past : Sight = sight_behind terms.place place.stage seen answer.moment turned.stage in
      let sent : List ℕ = sent_to server before ++ sent_to server waits in
      let ends = waited_ends server terms place.stage seen (sent_to server before) is.said in
      let told = waited_turn server terms place.stage seen (sent_to server before) is.said in
      let sight = sight_turned onward goes terms place prefix answer ∙ behind_onward onward goes terms.place place.stage seen answer.moment turned.stage in
      record {
        below = (turns_counted onward goes terms place prefix answer is.below).stays;
        untold = untold_onward onward goes turned.stage (told_behind terms.place place.stage seen) (untold_turned terms place.stage seen answer);
        said = subst (λ s. InTurnAt server terms there.stage (sight_over there prefix) s)
            (sym (turn_sent onward goes terms None 0 server before waits ask parts turned.owed one (behind_silent server place.stage seen)))
            (subst (λ v. InTurnAt server terms there.stage v (sent ++ sent_to server turned.owed)) (sym sight)
            (onward_turn server terms onward goes turned.stage past (sent ++ sent_to server turned.owed)
            (turn_turn server terms place.stage seen past answer sent turned.stage ends is.below refl told)));
      }

  pub turn_there : (place : Standing) (prefix : List (Timed Event)) (before : List Command) → Holds place prefix before →
      EndsSo (before ++ (chain.so_far place prefix ++ found_at chain place prefix))
  turn_there place prefix before is =
      let seen : Sight = sight_over place prefix in
      let waits : List Command = so_far terms place.stage seen in
      let none : IsSilent server (found_at chain place prefix) =
      silent_found server (behind place.stage seen) (look terms place.stage seen) (behind_silent server place.stage seen) (looks_silent server terms place.stage seen) in
      let same = sent_join server before (waits ++ found_at chain place prefix)
      ∙ ap (λ l. sent_to server before ++ l) (sent_join server waits (found_at chain place prefix)
      ∙ (ap (λ l. sent_to server waits ++ l) none ∙ append-nil (sent_to server waits))) in
      subst (λ s. IsSentInTurn terms.place s) (sym same) (waited_ends server terms place.stage seen (sent_to server before) is.said)

  abbrev Any : Event → Type 0
  Any event = ⊤

  turn_keeps : Keeps chain Any Holds EndsSo
  turn_keeps = record {
    passes = turn_passed;
    hears = λ place prefix before event any is. turn_heard place prefix before event is;
    turns = turn_turned;
    stops = turn_there;
  }

any_events : (es : List (Stamped Event)) → AllMay (λ event. ⊤) es
any_events [] = tt
any_events (e ∷ es) = (tt, any_events es)

-- A conversation, or one flow, sends each server whole requests, one behind the other, and at the end at most one that did not come whole.
pub sent_in_turn : (onward : Stage → Stage) → IsOnward onward → (terms : Terms) (at : At) → ParkedBelow at.parked at.dials → (server : ℕ) (moves : List Move) →
    IsSentInTurn terms.place (sent_to server (due_by (http_chain onward terms) (begin (idle at)) moves))
sent_in_turn onward goes terms at below server moves =
    kept_due (http_chain onward terms) (Any onward goes terms server) (Holds onward goes terms server) (EndsSo onward goes terms server) (turn_keeps onward goes terms server) (begin (idle at)) moves
    (any_events (events_in 1 moves)) (record { below = parked_below at.parked at.dials below; untold = tt; said = at_rest (none_yet [] refl) tt })
