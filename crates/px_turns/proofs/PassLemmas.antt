-- What a server was sent so far, against what it said so far, at a stage of a conversation: and so it stays where that passes, hears more, and waits.
use Rattle.std.proofs.Common.{◌≡◌, ℕ, Bool, true, false, List, [], ◌++◌, Option, Some, None, refl, ap, sym, ◌∙◌, subst, arith, append_assoc}
use Rattle.std.specs.Prelude.{◌==◌, ◌&&◌}
use Rattle.std.proofs.lemmas.Bool.{eq-eqb, eqb-true}
use Rattle.std.proofs.lemmas.List.{append-nil}
use Rattle.px_message.specs.declared.address.Address.{Address}
use Rattle.px_message.specs.declared.flow.Flow.{Flow}
use Rattle.px_message.specs.declared.request.Request.{Request}
use Rattle.px_message.specs.declared.response.Response.{Response}
use Rattle.px_event.specs.declared.command.Command.{Command}
use Rattle.px_text.specs.Prefix.{IsPrefixOf}
use Rattle.px_read.specs.Items.{Item, answer_list, missing, part, complete, bad_head, bad_body}
use Rattle.px_read.specs.Laws.{head_in}
use Rattle.px_read.specs.declared.head.RequestHead.{RequestHead as ReadRequest}
use Rattle.px_read.specs.declared.head.ResponseHead.{ResponseHead as ReadResponse}
use Rattle.px_exchange.specs.declared.ending.Used.{Used}
use Rattle.px_exchange.specs.declared.ending.Used.TheVariants.{NoServer}
use Rattle.px_exchange.specs.declared.terms.Terms.{Terms}
use Rattle.px_exchange.specs.Endings.{shut_unless, unless_kept}
use Rattle.px_exchange.specs.Places.{form_at, is_same_address, server_for}
use Rattle.px_exchange.specs.Requests.{is_head}
use Rattle.px_chain.specs.Chain.{begin_up, behind_flow, come_down, end_by, end_up, goes_up_by, going_at, gone, gone_by, gone_up, keeps_came, parked_for, pass, pass_came, pass_given, pass_going, pass_kept, past_came, past_gone, past_kept, reached, side_if, sight_begun, sight_come, sight_ended, sight_gone, sight_past}
use Rattle.px_chain.specs.Coming.{Came, came_by, came_in, finished_coming, goes_on_behind, streaming, streams_in}
use Rattle.px_chain.specs.Going.{framed_up, goes_up, going_by, going_text, is_sent, sending_on, sends_going, whole_by, whole_in, with_whole}
use Rattle.px_chain.specs.Keeping.{is_silent, keeps_side, parks, unspoilt_by}
use Rattle.px_chain.specs.Sights.{Sight, answers_in, left_by_answers, request_in, server_in}
use Rattle.px_chain.specs.Stages.{At, Doing, Parked, Sent, Stage, all_sent, busy, coming_down, connection, given_body, given_head, going_up, idle, next, over, request_body, response_body, response_head, side_of, upgraded}
use Rattle.px_chain.proofs.CountedLemmas.{IsSilent}
use Rattle.px_chain.proofs.KeepingLaws.{kept_nothing}
use Rattle.px_chain.proofs.NotUp.{IsNotUpBy}
use Rattle.px_chain.proofs.OnceLemmas.{sent_to}
use Rattle.px_chain.proofs.SightLaws.{begin_side}
use Rattle.px_chain.proofs.SilentLemmas.{came_silent, finished_down, up_silent}
use Rattle.px_chain.proofs.TellLemmas.{IsUntold, IsUpBy, TellsAt, TellsBy, all_told, behind_sent, gone_from, rest_sent, sends_said, tells_more, unsaid}
use Rattle.px_turns.specs.Turns.{Exchanges, GoesTo, answers_to, in_full, in_part, is_streamed}
use Rattle.px_turns.proofs.ExchangeLemmas.{AreAnswered, answered_all, answered_last, answered_more, exchanges_more}
use Rattle.px_turns.proofs.PlaceLemmas.{Awaits, AwaitsAt, AwaitsIn, GoesAt, IsKept, IsUpgraded, RestsAt, awaits_none, awaits_side, framed_goes, free_none, gone_in, not_up_off, rests_side, same_on, streamed_goes, switched_none}

-- ---- the text of a request that goes up, and a response that came whole

gone_whole : (going size : Option ℕ) (side : ℕ) → gone_by going size ≡ Some side → (n : ℕ) × (size ≡ Some n)
gone_whole None size side is = absurd (let e : None ≡ Some side = is in cc)
gone_whole (Some to) None side is = absurd (let e : None ≡ Some side = is in cc)
gone_whole (Some to) (Some n) side is = (n, refl)

no_going : {A : Type 0} (going size : Option ℕ) (side : ℕ) → going ≡ None → gone_by going size ≡ Some side → A
no_going going size side none is = absurd (let e : None ≡ Some side = sym (ap (λ g. gone_by g size) none) ∙ is in cc)

came_size : (given : Option Response) (item : Item ReadResponse) (came : Came) → came_by given item ≡ Some came → (size : ℕ) × (whole_by item ≡ Some size)
came_size None item came is = absurd (let e : None ≡ Some came = is in cc)
came_size (Some response) missing came is = absurd (let e : None ≡ Some came = is in cc)
came_size (Some response) (part head body) came is = absurd (let e : None ≡ Some came = is in cc)
came_size (Some response) (complete head body trailers size) came is = (size, refl)
came_size (Some response) (bad_head fault) came is = absurd (let e : None ≡ Some came = is in cc)
came_size (Some response) (bad_body fault head body) came is = absurd (let e : None ≡ Some came = is in cc)

module _ (server : ℕ) (terms : Terms) (address : Address) where
  abbrev pub Exchanged : List ℕ → List ℕ → Type 0
  Exchanged sent heard = Exchanges terms.place address sent heard

  abbrev pub Answered : List ℕ → List ℕ → Type 0
  Answered sent said = AreAnswered terms.place address sent said

  abbrev pub TellsNow : Stage → Sight → List ℕ → Type 0
  TellsNow stage seen now = TellsAt server terms None 0 stage seen now

  abbrev pub TellsFlow : Flow → Sight → List ℕ → Type 0
  TellsFlow flow seen now = TellsBy server terms None 0 flow seen now

  abbrev pub Waiting : Flow → List ℕ → Type 0
  Waiting flow text = Awaits server terms.place address flow text

  abbrev pub Kept : Option Parked → Type 0
  Kept parked = IsKept server terms.place address parked

  -- What the server was sent and said so far: all requests are answered whole, and its side is parked; or behind such a one was sent in full, or goes up, and its side is
  -- used for that; or nothing more is sent.
  pub data TurnsAt (stage : Stage) (seen : Sight) (sent heard : List ℕ) : Type 0 where
    at_rest : (said : List ℕ) → Answered sent said → heard ≡ said ++ seen.server → RestsAt server terms.place address stage → TurnsAt stage seen sent heard
    awaits_one : (before text said : List ℕ) → Answered before said → sent ≡ before ++ text → heard ≡ said ++ seen.server → AwaitsAt server terms.place address stage text →
        TurnsAt stage seen sent heard
    goes_on : (before now said : List ℕ) → Answered before said → sent ≡ before ++ now → heard ≡ said ++ seen.server → TellsNow stage seen now → GoesAt server terms.place address stage →
        TurnsAt stage seen sent heard
    is_off : Exchanged sent heard → IsNotUpBy server (side_of stage) → TurnsAt stage seen sent heard
    switched : Exchanged sent heard → IsUpgraded server terms.place address stage → TurnsAt stage seen sent heard

  -- ---- exchanges of which one is not answered

  pub ends_rest : (seen : Sight) (sent said heard : List ℕ) → Answered sent said → heard ≡ said ++ seen.server → Exchanged sent heard
  ends_rest seen sent said heard all same = subst (λ h. Exchanged sent h) (sym same) (answered_all terms.place address sent said seen.server all)

  pub ends_full : (flow : Flow) (seen : Sight) (before text said sent heard : List ℕ) → Answered before said → sent ≡ before ++ text → heard ≡ said ++ seen.server → Waiting flow text → Exchanged sent heard
  ends_full flow seen before text said sent heard all same come waiting =
      subst (λ s. Exchanged s heard) (sym same)
      (subst (λ h. Exchanged (before ++ text) h) (sym come) (answered_last terms.place address waiting.request before said text seen.server all waiting.goes (in_full waiting.is_text)))

  framed : (head : ReadRequest) (flow : Flow) → GoesTo terms.place address flow.request → GoesTo terms.place address (framed_up head flow.request)
  framed head flow goes = ap (λ a. is_same_address address a) (framed_goes terms.place head flow.request) ∙ goes

  ends_up_by : (flow : Flow) (seen : Sight) (before said : List ℕ) (head : Option ReadRequest) → head_in (request_in seen) ≡ head → Answered before said → GoesTo terms.place address flow.request →
      Exchanged (before ++ going_text terms.place flow seen) (said ++ seen.server)
  ends_up_by flow seen before said None is all goes =
      let empty : going_text terms.place flow seen ≡ [] = ap (λ h. going_by h flow.request (form_at terms.place) seen.client) is in
      subst (λ s. Exchanged s (said ++ seen.server)) (sym (ap (λ l. before ++ l) empty ∙ append-nil before)) (answered_all terms.place address before said seen.server all)
  ends_up_by flow seen before said (Some head) is all goes =
      answered_last terms.place address (framed_up head flow.request) before said (going_text terms.place flow seen) seen.server all (framed head flow goes)
      (in_part seen.client (record { head = head; other = flow.request; read = is; framed = refl }) (ap (λ h. going_by h flow.request (form_at terms.place) seen.client) is))

  -- behind all that came of one that goes up
  pub ends_going : (flow : Flow) (seen : Sight) (sent before now text said heard : List ℕ) → Answered before said → sent ≡ before ++ now → now ++ text ≡ going_text terms.place flow seen →
      heard ≡ said ++ seen.server → GoesTo terms.place address flow.request → Exchanged (sent ++ text) heard
  ends_going flow seen sent before now text said heard all same is come goes =
      subst (λ s. Exchanged s heard) (sym (ap (λ s. s ++ text) same ∙ (append_assoc before now text ∙ ap (λ l. before ++ l) is)))
      (subst (λ h. Exchanged (before ++ going_text terms.place flow seen) h) (sym come) (ends_up_by flow seen before said (head_in (request_in seen)) refl all goes))

  -- the request that goes up is whole
  going_is : (flow : Flow) (seen : Sight) (item : Item ReadRequest) (size : ℕ) → request_in seen ≡ item → whole_by item ≡ Some size → GoesTo terms.place address flow.request →
      Waiting flow (going_text terms.place flow seen)
  going_is flow seen missing size is whole goes = absurd (let e : None ≡ Some size = whole in cc)
  going_is flow seen (part head body) size is whole goes = absurd (let e : None ≡ Some size = whole in cc)
  going_is flow seen (complete head body trailers used) size is whole goes = record {
    request = framed_up head flow.request;
    method = refl;
    goes = framed head flow goes;
    own = goes;
    is_text = is_streamed seen.client used (record { head = head; other = flow.request; read = ap head_in is; framed = refl }) (ap whole_by is) (ap (λ h. going_by h flow.request (form_at terms.place) seen.client) (ap head_in is));
  }
  going_is flow seen (bad_head fault) size is whole goes = absurd (let e : None ≡ Some size = whole in cc)
  going_is flow seen (bad_body fault head body) size is whole goes = absurd (let e : None ≡ Some size = whole in cc)

  pub same_at : (stage : Stage) (seen : Sight) (sent heard : List ℕ) → TurnsAt stage seen sent heard → TurnsAt stage seen (sent ++ []) heard
  same_at stage seen sent heard turns = subst (λ s. TurnsAt stage seen s heard) (sym (append-nil sent)) turns

  pub off_behind : (stage : Stage) (seen : Sight) (sent heard : List ℕ) (owed : List Command) → IsSilent server owed → Exchanged sent heard → IsNotUpBy server (side_of stage) →
      TurnsAt stage seen (sent ++ sent_to server owed) heard
  off_behind stage seen sent heard owed none ends off = is_off (subst (λ s. Exchanged s heard) (sym (unsaid server terms None 0 sent owed none)) ends) off

  -- ---- a request begins to go up

  no_tells : (flow : Flow) (seen : Sight) → seen.told ≡ 0 → TellsFlow flow seen []
  no_tells flow seen told = record { told = sym told; begins = (going_text terms.place flow seen, refl); goes_there = λ before. absurd (omega arith) }

  up_by : (to_it : Bool) (parked : Parked) (at : At) (flow : Flow) (seen : Sight) (sent said heard : List ℕ) → is_same_address parked.address (server_for terms.place flow.request) ≡ to_it → seen.told ≡ 0 →
      Answered sent said → heard ≡ said ++ seen.server → Kept at.parked → parked.server ≡ server → is_same_address address parked.address ≡ true →
      TurnsAt (goes_up_by (side_if to_it parked.server) terms.place at (sending_on flow)) seen sent heard
  up_by true parked at flow seen sent said heard is told all come kept number same =
      goes_on sent [] said all (sym (append-nil sent)) come (eq-eqb parked.server server number, no_tells (reached terms.place (sending_on flow)) seen told)
      (ap (λ a. is_same_address address a) (streamed_goes terms.place flow) ∙ same_on address parked.address (server_for terms.place flow.request) same is)
  up_by false parked at flow seen sent said heard is told all come kept number same = at_rest said all come (tt, kept)

  up_to : (parked : Option Parked) (at : At) (flow : Flow) (seen : Sight) (sent said heard : List ℕ) → at.parked ≡ parked → seen.told ≡ 0 → Answered sent said → heard ≡ said ++ seen.server → Kept at.parked →
      TurnsAt (goes_up_by (parked_for terms.place flow.request parked) terms.place at (sending_on flow)) seen sent heard
  up_to None at flow seen sent said heard is told all come kept = absurd (let e : None ≡ Some kept.side = sym is ∙ kept.there in cc)
  up_to (Some parked) at flow seen sent said heard is told all come kept =
      let e : Some parked ≡ Some kept.side = sym is ∙ kept.there in
      let own : parked ≡ kept.side = cc in
      up_by (is_same_address parked.address (server_for terms.place flow.request)) parked at flow seen sent said heard refl told all come kept
      (ap (λ p. p.server) own ∙ kept.number) (ap (λ p. is_same_address address p.address) own ∙ kept.same)

  up_turns : (silent : Bool) (at : At) (flow : Flow) (seen : Sight) (sent said heard : List ℕ) → seen.told ≡ 0 → Answered sent said → heard ≡ said ++ seen.server → Kept at.parked →
      TurnsAt (goes_up_by (parked_for terms.place flow.request (unspoilt_by silent at.parked)) terms.place at (sending_on flow)) seen sent heard
  up_turns true at flow seen sent said heard told all come kept = up_to at.parked at flow seen sent said heard refl told all come kept
  up_turns false at flow seen sent said heard told all come kept = at_rest said all come (tt, kept)

  going_turns : (up : Bool) (at : At) (flow : Flow) (size : Option ℕ) (seen : Sight) (sent said heard : List ℕ) → seen.told ≡ 0 → Answered sent said → heard ≡ said ++ seen.server → Kept at.parked →
      TurnsAt (pass_going up terms.place at flow size seen) seen sent heard
  going_turns true at flow size seen sent said heard told all come kept = up_turns (is_silent seen.server seen.shut) at flow seen sent said heard told all come kept
  going_turns false at flow size seen sent said heard told all come kept = at_rest said all come (tt, kept)

  given_turns : (at : At) (flow : Flow) (response : Response) (size : Option ℕ) (item : Item ReadRequest) (now : ℕ) (past : Sight) (sent said heard : List ℕ) → Answered sent said → heard ≡ said ++ past.server →
      Kept at.parked → TurnsAt (pass_given at flow response size item now) past sent heard
  given_turns at flow response size missing now past sent said heard all come kept = at_rest said all come (tt, kept)
  given_turns at flow response size (part head body) now past sent said heard all come kept = at_rest said all come (tt, kept)
  given_turns at flow response size (complete head body trailers used) now past sent said heard all come kept = at_rest said all come (tt, kept)
  given_turns at flow response size (bad_head fault) now past sent said heard all come kept = at_rest said all come (tt, kept)
  given_turns at flow response size (bad_body fault head body) now past sent said heard all come kept = at_rest said all come (tt, kept)

  body_turns : (at : At) (flow : Flow) (given : Option Response) (size : Option ℕ) (seen : Sight) (sent said heard : List ℕ) → seen.told ≡ 0 → Answered sent said → heard ≡ said ++ seen.server →
      Kept at.parked → TurnsAt (begin_up terms (busy at flow (request_body given size)) seen) (sight_begun (busy at flow (request_body given size)) seen) sent heard
  body_turns at flow None size seen sent said heard told all come kept = going_turns (goes_up size seen) at flow size seen sent said heard told all come kept
  body_turns at flow (Some response) size seen sent said heard told all come kept = given_turns at flow response size (request_in seen) seen.now _ sent said heard all come kept

  begin_turns : (stage : Stage) (seen : Sight) (sent heard : List ℕ) → IsUntold stage seen.told → TurnsAt stage seen sent heard → TurnsAt (begin_up terms stage seen) (sight_begun stage seen) sent heard
  begin_turns (idle at) seen sent heard told turns = turns
  begin_turns (busy at flow (request_body given size)) seen sent heard told (at_rest said all come rests) = body_turns at flow given size seen sent said heard told all come rests.1
  begin_turns (busy at flow (request_body given size)) seen sent heard told (awaits_one before text said all same come awaits) = absurd awaits
  begin_turns (busy at flow (request_body given size)) seen sent heard told (goes_on before now said all same come tells goes) = absurd tells.0
  begin_turns (busy at flow (request_body given size)) seen sent heard told (is_off ends off) =
      is_off ends (subst (λ s. IsNotUpBy server s) (sym (begin_side terms (busy at flow (request_body given size)) seen)) off)
  begin_turns (busy at flow (request_body given size)) seen sent heard told (switched ends is) = absurd is
  begin_turns (busy at flow (connection how)) seen sent heard told turns = turns
  begin_turns (busy at flow (response_head side how)) seen sent heard told turns = turns
  begin_turns (busy at flow (response_body side how most)) seen sent heard told turns = turns
  begin_turns (busy at flow (coming_down side how)) seen sent heard told turns = turns
  begin_turns (busy at flow (upgraded side)) seen sent heard told turns = turns
  begin_turns (busy at flow given_head) seen sent heard told turns = turns
  begin_turns (busy at flow given_body) seen sent heard told turns = turns
  begin_turns (next at) seen sent heard told turns = turns
  begin_turns over seen sent heard told turns = turns

  -- ---- one that goes up is whole

  gone_awaits : (doing : Doing) (flow whole : Flow) (text : List ℕ) → whole.request ≡ flow.request → IsUpBy server (going_at doing) → Waiting whole text → AwaitsIn server terms.place address (gone doing) whole text
  gone_awaits (request_body given size) flow whole text same up waiting = absurd up
  gone_awaits (connection how) flow whole text same up waiting = absurd up
  gone_awaits (response_head side all_sent) flow whole text same up waiting = absurd up
  gone_awaits (response_head side going_up) flow whole text same up waiting = (up, waiting)
  gone_awaits (response_body side all_sent most) flow whole text same up waiting = absurd up
  gone_awaits (response_body side going_up most) flow whole text same up waiting = (up, waiting)
  gone_awaits (coming_down side all_sent) flow whole text same up waiting = absurd up
  gone_awaits (coming_down side going_up) flow whole text same up waiting = (up, waiting)
  gone_awaits (upgraded side) flow whole text same up waiting = absurd up
  gone_awaits given_head flow whole text same up waiting = absurd up
  gone_awaits given_body flow whole text same up waiting = absurd up

  -- the same request of another flow
  pub other_flow : (flow other : Flow) (text : List ℕ) → other.request ≡ flow.request → Waiting flow text → Waiting other text
  other_flow flow other text same waiting = record {
    request = waiting.request;
    method = waiting.method ∙ ap (λ r. is_head r.method) (sym same);
    goes = waiting.goes;
    own = ap (λ r. is_same_address address (server_for terms.place r)) same ∙ waiting.own;
    is_text = waiting.is_text;
  }

  end_turns_by : (g : Option ℕ) (at : At) (flow : Flow) (doing : Doing) (seen : Sight) (sent heard : List ℕ) → gone_by (going_at doing) (whole_in seen) ≡ g → TurnsAt (busy at flow doing) seen sent heard →
      TurnsAt (end_by g terms.place at flow doing seen).stage (past_gone g seen) (sent ++ sent_to server (end_by g terms.place at flow doing seen).owed) heard
  end_turns_by None at flow doing seen sent heard is turns = same_at (busy at flow doing) seen sent heard turns
  end_turns_by (Some side) at flow doing seen sent heard is (at_rest said all come rests) = no_going (going_at doing) (whole_in seen) side (free_none doing rests.0) is
  end_turns_by (Some side) at flow doing seen sent heard is (awaits_one before text said all same come awaits) =
      no_going (going_at doing) (whole_in seen) side (awaits_none server terms.place address doing flow text awaits) is
  end_turns_by (Some side) at flow doing seen sent heard is (goes_on before now said all same come (up, tells) goes) =
      let there = gone_from server terms None 0 (going_at doing) (whole_in seen) side is in
      let whole = gone_whole (going_at doing) (whole_in seen) side is in
      let owed : List Command = sends_going terms.place flow side seen in
      let text = ap (λ l. now ++ l) (sends_said server terms None 0 flow seen side (subst (λ g. IsUpBy server g) there up)) ∙ rest_sent server terms None 0 flow seen now tells in
      let waiting = other_flow flow (with_whole flow seen.now) (going_text terms.place flow seen) refl (going_is flow seen (request_in seen) whole.0 refl whole.1 goes) in
      awaits_one before (going_text terms.place flow seen) said all
      (ap (λ s. s ++ sent_to server owed) same ∙ (append_assoc before now (sent_to server owed) ∙ ap (λ l. before ++ l) text)) come
      (gone_awaits doing flow (with_whole flow seen.now) (going_text terms.place flow seen) refl up waiting)
  end_turns_by (Some side) at flow doing seen sent heard is (is_off ends off) =
      let there = gone_from server terms None 0 (going_at doing) (whole_in seen) side is in
      let other : (side == server) ≡ false = subst (λ g. IsNotUpBy server g) there (not_up_off server at doing off) in
      off_behind (busy at (with_whole flow seen.now) (gone doing)) _ sent heard (sends_going terms.place flow side seen) (up_silent server terms.place flow side seen other) ends
      (subst (λ s. IsNotUpBy server s) (sym (gone_in at doing)) off)
  end_turns_by (Some side) at flow doing seen sent heard is (switched ends up) =
      no_going (going_at doing) (whole_in seen) side (switched_none server terms.place address at flow doing up) is

  end_turns : (stage : Stage) (seen : Sight) (sent heard : List ℕ) → TurnsAt stage seen sent heard →
      TurnsAt (end_up terms stage seen).stage (sight_ended stage seen) (sent ++ sent_to server (end_up terms stage seen).owed) heard
  end_turns (idle at) seen sent heard turns = same_at (idle at) seen sent heard turns
  end_turns (busy at flow doing) seen sent heard turns = end_turns_by (gone_by (going_at doing) (whole_in seen)) at flow doing seen sent heard refl turns
  end_turns (next at) seen sent heard turns = same_at (next at) seen sent heard turns
  end_turns over seen sent heard turns = same_at over seen sent heard turns

  -- ---- a response comes down

  -- Behind a whole response, of which nothing is left over, all is answered.
  pub answered_one : (flow : Flow) (seen : Sight) (before text said sent heard : List ℕ) (size : ℕ) → Answered before said → sent ≡ before ++ text → heard ≡ said ++ seen.server → Waiting flow text →
      whole_by (answers_in flow.request seen).final ≡ Some size → left_by_answers (answers_in flow.request seen) seen.server ≡ [] → seen.shut ≡ false → Answered sent heard
  answered_one flow seen before text said sent heard size all same come waiting whole left shut =
      let answers : answers_to waiting.request seen.server ≡ answers_in flow.request seen =
      ap (λ b. answer_list b false seen.server) waiting.method ∙ ap (λ s. answer_list (is_head flow.request.method) s seen.server) (sym shut) in
      subst (λ s. Answered s heard) (sym same)
      (subst (λ h. Answered (before ++ text) h) (sym come)
      (answered_more terms.place address waiting.request before said text seen.server size all waiting.goes waiting.is_text (ap (λ a. whole_by a.final) answers ∙ whole)
      (ap (λ a. left_by_answers a seen.server) answers ∙ left)))

  pub parks_kept : (at : At) (request : Request) (side : ℕ) → (side == server) ≡ true → GoesTo terms.place address request → Kept (parks true terms.place at request side).parked
  parks_kept at request side is goes = record { side = record { server = side; address = server_for terms.place request }; there = refl; number = eqb-true side server is; same = goes }

  -- where its flow leads
  behind_turns : (stays keeps : Bool) (at : At) (flow : Flow) (side : ℕ) (seen : Sight) (came : Came) (before text said sent heard : List ℕ) → keeps_side flow.request seen came.head ≡ keeps →
      (size : ℕ) → whole_by (answers_in flow.request seen).final ≡ Some size → Answered before said → sent ≡ before ++ text → heard ≡ said ++ seen.server → (side == server) ≡ true → Waiting flow text →
      TurnsAt (behind_flow stays (parks (stays && keeps) terms.place at flow.request side)) (past_came (Some came) seen) sent heard
  behind_turns true true at flow side seen came before text said sent heard is size whole all same come number waiting =
      let left = kept_nothing flow.request seen came.head is in
      at_rest heard (answered_one flow seen before text said sent heard size all same come waiting whole left.empty left.is_open) (sym (append-nil heard))
      (parks_kept at flow.request side number waiting.own)
  behind_turns true false at flow side seen came before text said sent heard is size whole all same come number waiting =
      is_off (ends_full flow seen before text said sent heard all same come waiting) tt
  behind_turns false keeps at flow side seen came before text said sent heard is size whole all same come number waiting =
      is_off (ends_full flow seen before text said sent heard all same come waiting) tt

  behind_off : (stays keeps : Bool) (at : At) (request : Request) (side : ℕ) → (side == server) ≡ false → IsNotUpBy server (side_of (behind_flow stays (parks (stays && keeps) terms.place at request side)))
  behind_off true true at request side off = off
  behind_off true false at request side off = tt
  behind_off false keeps at request side off = tt

  came_turns : (at : At) (flow : Flow) (side : ℕ) (how : Sent) (seen : Sight) (sent heard : List ℕ) (came : Option Came) → came_in flow seen ≡ came → TurnsAt (busy at flow (coming_down side how)) seen sent heard →
      TurnsAt (pass_came terms.place at flow side how seen came).stage (past_came came seen) (sent ++ sent_to server (pass_came terms.place at flow side how seen came).owed) heard
  came_turns at flow side how seen sent heard None there turns = same_at (busy at flow (coming_down side how)) seen sent heard turns
  came_turns at flow side how seen sent heard (Some came) there (at_rest said all come rests) = absurd rests.0
  came_turns at flow side all_sent seen sent heard (Some came) there (awaits_one before text said all same come awaits) =
      let whole = came_size flow.response (answers_in flow.request seen).final came there in
      let owed : List Command = (pass_came terms.place at flow side all_sent seen (Some came)).owed in
      let stays : Bool = is_sent all_sent && goes_on_behind at.flow flow.request came in
      subst (λ s. TurnsAt (pass_came terms.place at flow side all_sent seen (Some came)).stage (past_came (Some came) seen) s heard)
      (sym (unsaid server terms None 0 sent owed (came_silent server terms.place at flow side all_sent seen (Some came) tt)))
      (behind_turns stays (keeps_side flow.request seen came.head) at flow side seen came before text said sent heard refl whole.0 whole.1 all same come awaits.0 awaits.1)
  came_turns at flow side going_up seen sent heard (Some came) there (awaits_one before text said all same come awaits) = absurd awaits
  came_turns at flow side all_sent seen sent heard (Some came) there (goes_on before now said all same come tells goes) = absurd tells.0
  came_turns at flow side going_up seen sent heard (Some came) there (goes_on before now said all same come (up, tells) goes) =
      let stays : Bool = is_sent going_up && goes_on_behind at.flow flow.request came in
      let rest : Used = unless_kept (keeps_came at flow going_up seen came) (server_in side seen) in
      let told = all_told server terms None 0 flow seen side now (finished_coming flow seen rest ++ shut_unless stays NoServer seen.closed) up (finished_down server flow rest seen stays) tells in
      is_off (ends_going flow seen sent before now _ said heard all same told come goes) tt
  came_turns at flow side how seen sent heard (Some came) there (is_off ends off) =
      let stays : Bool = is_sent how && goes_on_behind at.flow flow.request came in
      off_behind (pass_came terms.place at flow side how seen (Some came)).stage (past_came (Some came) seen) sent heard (pass_came terms.place at flow side how seen (Some came)).owed
      (came_silent server terms.place at flow side how seen (Some came) (not_up_off server at (coming_down side how) off)) ends
      (behind_off stays (keeps_side flow.request seen came.head) at flow.request side off)
  came_turns at flow side how seen sent heard (Some came) there (switched ends up) = absurd up

  streaming_awaits : (flow : Flow) (side : ℕ) (how : Sent) (most : Option ℕ) (text : List ℕ) → AwaitsIn server terms.place address (response_body side how most) flow text →
      AwaitsIn server terms.place address (coming_down side how) (streaming flow) text
  streaming_awaits flow side all_sent most text (number, waiting) = (number, other_flow flow (streaming flow) text refl waiting)
  streaming_awaits flow side going_up most text awaits = absurd awaits

  streaming_turns : (at : At) (flow : Flow) (side : ℕ) (how : Sent) (most : Option ℕ) (seen : Sight) (sent heard : List ℕ) → TurnsAt (busy at flow (response_body side how most)) seen sent heard →
      TurnsAt (busy at (streaming flow) (coming_down side how)) seen sent heard
  streaming_turns at flow side how most seen sent heard (at_rest said all come rests) = absurd rests.0
  streaming_turns at flow side how most seen sent heard (awaits_one before text said all same come awaits) =
      awaits_one before text said all same come (streaming_awaits flow side how most text awaits)
  streaming_turns at flow side all_sent most seen sent heard (goes_on before now said all same come tells goes) = absurd tells.0
  streaming_turns at flow side going_up most seen sent heard (goes_on before now said all same come (up, tells) goes) =
      goes_on before now said all same come (up, record { told = tells.told; begins = tells.begins; goes_there = λ before. absurd (omega arith) }) goes
  streaming_turns at flow side how most seen sent heard (is_off ends off) = is_off ends off
  streaming_turns at flow side how most seen sent heard (switched ends up) = absurd up

  kept_turns : (streams : Bool) (at : At) (flow : Flow) (side : ℕ) (how : Sent) (most : Option ℕ) (seen : Sight) (sent heard : List ℕ) → TurnsAt (busy at flow (response_body side how most)) seen sent heard →
      TurnsAt (pass_kept streams terms.place at flow side how most seen).stage (past_kept streams (came_in (streaming flow) seen) seen)
      (sent ++ sent_to server (pass_kept streams terms.place at flow side how most seen).owed) heard
  kept_turns true at flow side how most seen sent heard turns =
      came_turns at (streaming flow) side how seen sent heard (came_in (streaming flow) seen) refl (streaming_turns at flow side how most seen sent heard turns)
  kept_turns false at flow side how most seen sent heard turns = same_at (busy at flow (response_body side how most)) seen sent heard turns

  come_turns : (stage : Stage) (seen : Sight) (sent heard : List ℕ) → TurnsAt stage seen sent heard →
      TurnsAt (come_down terms stage seen).stage (sight_come stage seen) (sent ++ sent_to server (come_down terms stage seen).owed) heard
  come_turns (idle at) seen sent heard turns = same_at (idle at) seen sent heard turns
  come_turns (busy at flow (request_body given size)) seen sent heard turns = same_at (busy at flow (request_body given size)) seen sent heard turns
  come_turns (busy at flow (connection how)) seen sent heard turns = same_at (busy at flow (connection how)) seen sent heard turns
  come_turns (busy at flow (response_head side how)) seen sent heard turns = same_at (busy at flow (response_head side how)) seen sent heard turns
  come_turns (busy at flow (response_body side how most)) seen sent heard turns = kept_turns (streams_in flow most seen) at flow side how most seen sent heard turns
  come_turns (busy at flow (coming_down side how)) seen sent heard turns = came_turns at flow side how seen sent heard (came_in flow seen) refl turns
  come_turns (busy at flow (upgraded side)) seen sent heard turns = same_at (busy at flow (upgraded side)) seen sent heard turns
  come_turns (busy at flow given_head) seen sent heard turns = same_at (busy at flow given_head) seen sent heard turns
  come_turns (busy at flow given_body) seen sent heard turns = same_at (busy at flow given_body) seen sent heard turns
  come_turns (next at) seen sent heard turns = same_at (next at) seen sent heard turns
  come_turns over seen sent heard turns = same_at over seen sent heard turns

  -- So it stays where the conversation passes.
  pub pass_turns : (stage : Stage) (seen : Sight) (sent heard : List ℕ) → IsUntold stage seen.told → TurnsAt stage seen sent heard →
      TurnsAt (pass terms stage seen).stage (sight_past terms stage seen) (sent ++ sent_to server (pass terms stage seen).owed) heard
  pass_turns stage seen sent heard told turns =
      let begun : Stage = begin_up terms stage seen in
      let up : List Command = (end_up terms begun (sight_begun stage seen)).owed in
      let there : Stage = gone_up terms stage seen in
      let left : Sight = sight_gone terms stage seen in
      let down : List Command = (come_down terms there left).owed in
      subst (λ s. TurnsAt (come_down terms there left).stage (sight_past terms stage seen) s heard) (behind_sent server terms None 0 sent up down)
      (come_turns there left (sent ++ sent_to server up) heard (end_turns begun (sight_begun stage seen) sent heard (begin_turns stage seen sent heard told turns)))

  -- ---- more is heard

  on_server : (seen later : Sight) (said heard whole more : List ℕ) → heard ≡ said ++ seen.server → whole ≡ heard ++ more → later.server ≡ seen.server ++ more → whole ≡ said ++ later.server
  on_server seen later said heard whole more come grown on =
      grown ∙ (ap (λ h. h ++ more) come ∙ (append_assoc said seen.server more ∙ ap (λ l. said ++ l) (sym on)))

  tells_side : (stage : Stage) (seen : Sight) (now : List ℕ) → TellsNow stage seen now → side_of stage ≡ Some server
  tells_side (idle at) seen now tells = absurd tells
  tells_side (busy at flow (request_body given size)) seen now tells = absurd tells.0
  tells_side (busy at flow (connection how)) seen now tells = absurd tells.0
  tells_side (busy at flow (response_head side all_sent)) seen now tells = absurd tells.0
  tells_side (busy at flow (response_head side going_up)) seen now tells = ap (λ n. Some n) (eqb-true side server tells.0)
  tells_side (busy at flow (response_body side all_sent most)) seen now tells = absurd tells.0
  tells_side (busy at flow (response_body side going_up most)) seen now tells = ap (λ n. Some n) (eqb-true side server tells.0)
  tells_side (busy at flow (coming_down side all_sent)) seen now tells = absurd tells.0
  tells_side (busy at flow (coming_down side going_up)) seen now tells = ap (λ n. Some n) (eqb-true side server tells.0)
  tells_side (busy at flow (upgraded side)) seen now tells = absurd tells.0
  tells_side (busy at flow given_head) seen now tells = absurd tells.0
  tells_side (busy at flow given_body) seen now tells = absurd tells.0
  tells_side (next at) seen now tells = absurd tells
  tells_side over seen now tells = absurd tells

  pub hears_turns : (stage : Stage) (seen later : Sight) (sent heard whole more : List ℕ) → IsPrefixOf seen.client later.client → later.told ≡ seen.told → whole ≡ heard ++ more →
      (side_of stage ≡ Some server → later.server ≡ seen.server ++ more) → TurnsAt stage seen sent heard → TurnsAt stage later sent whole
  hears_turns stage seen later sent heard whole more bytes told grown on (at_rest said all come rests) =
      at_rest said all (on_server seen later said heard whole more come grown (on (rests_side server terms.place address stage rests))) rests
  hears_turns stage seen later sent heard whole more bytes told grown on (awaits_one before text said all same come awaits) =
      awaits_one before text said all same (on_server seen later said heard whole more come grown (on (awaits_side server terms.place address stage text awaits))) awaits
  hears_turns stage seen later sent heard whole more bytes told grown on (goes_on before now said all same come tells goes) =
      goes_on before now said all same (on_server seen later said heard whole more come grown (on (tells_side stage seen now tells))) (tells_more server terms None 0 stage seen later now bytes told tells) goes
  hears_turns stage seen later sent heard whole more bytes told grown on (is_off ends off) =
      is_off (subst (λ h. Exchanged sent h) (sym grown) (exchanges_more terms.place address sent heard more ends)) off
  hears_turns stage seen later sent heard whole more bytes told grown on (switched ends up) =
      switched (subst (λ h. Exchanged sent h) (sym grown) (exchanges_more terms.place address sent heard more ends)) up
