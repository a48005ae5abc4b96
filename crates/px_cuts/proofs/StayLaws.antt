-- What is found stays found with a piece more, by the laws of the readers: an event that waits is heard early.
use Rattle.std.proofs.Common.{◌≡◌, ℕ, Bool, true, false, List, ◌++◌, drop, length, Option, Some, None, refl, ap, sym, ◌∙◌, subst}
use Rattle.std.specs.Prelude.{◌||◌, [], ◌∷◌}
use Rattle.std.proofs.lemmas.List.{append-nil}
use Rattle.px_message.specs.declared.flow.Flow.{Flow}
use Rattle.px_message.specs.declared.response.Response.{Response}
use Rattle.px_event.specs.declared.command.Command.{Command}
use Rattle.px_event.specs.declared.event.Event.{Event}
use Rattle.px_event.specs.declared.event.Event.TheVariants as events
use Rattle.px_event.specs.declared.reply.Reply.{Reply}
use Rattle.px_event.specs.declared.side.Side.{Side}
use Rattle.px_event.specs.declared.side.Side.TheVariants.{Client, Server}
use Rattle.px_event.specs.Chain.{Timed, Turn}
use Rattle.px_event.specs.Laws.{IsFound}
use Rattle.px_read.specs.Items.{answer_list, Answers, request_item}
use Rattle.px_read.specs.Laws.{head_in, is_begun, is_decided}
use Rattle.px_read.proofs.ItemLemmas.{request_used}
use Rattle.px_read.proofs.LawLemmas.{chunk_laws}
use Rattle.px_exchange.specs.declared.ending.Used.{Used}
use Rattle.px_exchange.specs.declared.ending.Used.TheVariants.{ByServer}
use Rattle.px_exchange.specs.declared.terms.Terms.{Terms}
use Rattle.px_exchange.specs.Finds.{look_answer, look_body, look_head, look_returned, or_leaves}
use Rattle.px_cuts.specs.Shown.{hears}
use Rattle.px_cuts.specs.Alike.{IsBeside, MayBeFollowed, WaitsBeside, ends_here, has_ended, is_bad}
use Rattle.px_cuts.proofs.FollowLaws.{Aside, OwnAside, RestSame, body_aside, keeps_same, later_server, left_more, left_with, rest_same, rests_aside, shut_piece}
use Rattle.px_cuts.proofs.BesideLaws.{FoundUp, ended_decided, ends_ended, found_up, inner_found, is_answered, is_refused, not_both, waits_more, waits_request}
use Rattle.px_cuts.proofs.PlaceLaws.{LeavesMore, make}
use Rattle.px_exchange.specs.Requests.{is_head}
use Rattle.px_exchange.specs.Places.{form_at}
use Rattle.px_parts.specs.Texts.{left_of}
use Rattle.px_write.specs.Error.{fault_message}
use Rattle.px_message.specs.declared.fault.Fault.{Fault}
use Rattle.px_chain.specs.Going.{going_by}
use Rattle.px_chain.specs.Chain.{bad_or, behind, given_at, look, look_coming, so_far, turn, turn_answer, turn_body, turn_dial, turn_given_head, turn_head, turn_returned, turn_whole_answer}
use Rattle.px_chain.specs.Keeping.{is_silent, shut_stray, unspoilt_at, unspoilt_by}
use Rattle.px_chain.specs.Sights.{Sight, left_by, server_parked, server_with, shut_with}
use Rattle.px_chain.specs.Stages.{At, Parked, Sent, Stage, all_sent, busy, coming_down, connection, given_body, given_head, going_up, idle, next, over, request_body, response_body, response_head, side_of, side_parked, upgraded}
use Rattle.px_event.specs.Sides.{piece_of}
use Rattle.px_exchange.specs.Texts.{interim_commands}
use Rattle.px_exchange.specs.Endings.{closed_message, ends_by_fault, ends_early, shut_server, without_response}
use Rattle.px_event.specs.declared.command.Command.TheVariants as commands
use Rattle.px_chain.specs.Coming.{coming_by}
use Rattle.px_cuts.proofs.ComingLaws.{decided_begun, text_stays}
use Rattle.px_cuts.proofs.ItemLaws.{ReadersStay, answer_begun, answer_found, answer_reads, answer_turn_same, body_found, body_reads, coming_decided, coming_ends, final_stays, head_found, head_reads, head_turn_same, interim_stays, look_answer_same, look_head_same, or_found, request_stays, returned_begun, returned_decided, returned_ended, returned_found, returned_reads, used_stays}

-- all that is found is found with this event too
pub record FindsAlike (terms : Terms) (stage : Stage) (v w : Sight) : Type 0 where
  pub look : look terms stage w ≡ look terms stage v
  pub so_far : so_far terms stage w ≡ so_far terms stage v
  pub behind : behind stage w ≡ behind stage v
  pub turn : (answer : Timed Reply) → turn terms stage w answer ≡ turn terms stage v answer

-- ---- a piece more

pub still_open : (shut : Bool) → (shut || false) ≡ shut
still_open true = refl
still_open false = refl

module _ (terms : Terms) (readers : ReadersStay) (side : Side) (bytes : List ℕ) where
  abbrev piece : Event
  piece = events.Piece side bytes

  -- a piece closes no parked side
  parked_by : (parked : Option Parked) (client client' : List ℕ) (server server' : List ℕ) (shut shut' : Bool) (told now : ℕ) → shut' ≡ shut →
      server_parked parked (make client false server shut' told now) ≡ server_parked parked (make client' false server' shut told now)
  parked_by None client client' server server' shut shut' told now closes = refl
  parked_by (Some parked) client client' server server' shut shut' told now closes = ap (λ b. ByServer parked.server b) closes

  module _ (client server : List ℕ) (shut : Bool) (told now : ℕ) where
    abbrev shorter : Sight
    shorter = make client false server shut told now

    -- what is seen with the piece where a side may be parked
    abbrev with_piece : At → Sight
    with_piece at = hears (side_parked at.parked) shorter piece

    module _ (at : At) (aside : Aside side bytes at.parked server shut) where
      abbrev client_more : List ℕ
      client_more = client ++ piece_of Client piece

      abbrev heard_of : List ℕ
      heard_of = server_with (side_parked at.parked) shut server piece

      abbrev its_shut : Bool
      its_shut = shut_with (side_parked at.parked) shut piece

      rests : RestSame side bytes at.parked server shut
      rests = rest_same side bytes at.parked server shut aside

      -- the place without a spoilt side
      abbrev there : At
      there = unspoilt_at at shorter

      same_there : unspoilt_at at (with_piece at) ≡ there
      same_there = ap (λ silent. record at { parked = unspoilt_by silent at.parked }) rests.silent

      parked_heard : server_parked there.parked (with_piece at) ≡ server_parked there.parked shorter
      parked_heard = parked_by there.parked client_more client heard_of server shut its_shut told now (shut_piece side bytes (side_parked at.parked) shut)

      stray_heard : shut_stray at.parked (with_piece at) ++ [] ≡ shut_stray at.parked shorter ++ []
      stray_heard = ap (λ l. l ++ []) (rests.stray client_more client told now)

      idle_finds : IsFound (look terms (idle at) shorter) → FindsAlike terms (idle at) shorter (with_piece at)
      idle_finds found =
          let item = request_item client in
          let later = request_item client_more in
          let used : Used = server_parked there.parked shorter in
          let stays = request_stays readers client (piece_of Client piece) in
          let heads = head_found terms at.flow item later now used false stays (or_found (shut_server used) (look_head terms at.flow item now used false) found) in
          record {
            look = ap (λ (a : At). or_leaves false (shut_server (server_parked a.parked (with_piece at))) (look_head terms at.flow later now (server_parked a.parked (with_piece at)) false)) same_there
                ∙ (ap (λ u. or_leaves false (shut_server u) (look_head terms at.flow later now u false)) parked_heard
                ∙ ap (λ l. or_leaves false (shut_server used) l) (look_head_same terms at.flow item later now used false heads));
            so_far = stray_heard;
            behind = refl;
            turn = λ answer. ap (λ a. turn_head terms a later (with_piece at) answer) same_there
                ∙ (head_turn_same terms there item later (with_piece at) answer heads
                ∙ head_reads client_more client false heard_of server its_shut shut told now there parked_heard answer terms item);
          }

      request_finds : (flow : Flow) (given : Option Response) (most : Option ℕ) → IsFound (look terms (busy at flow (request_body given most)) shorter) →
          FindsAlike terms (busy at flow (request_body given most)) shorter (with_piece at)
      request_finds flow given most found =
          let item = request_item client in
          let later = request_item client_more in
          let used : Used = server_parked there.parked shorter in
          let stays = request_stays readers client (piece_of Client piece) in
          let whole = body_found flow item later now used false stays (or_found (ends_early flow closed_message now used true) (look_body flow item now used false) found) in
          record {
            look = ap (λ (a : At). or_leaves false (ends_early flow closed_message now (server_parked a.parked (with_piece at)) true) (look_body flow later now (server_parked a.parked (with_piece at)) false)) same_there
                ∙ (ap (λ u. or_leaves false (ends_early flow closed_message now u true) (look_body flow later now u false)) parked_heard
                ∙ ap (λ i. or_leaves false (ends_early flow closed_message now used true) (look_body flow i now used false)) whole);
            so_far = stray_heard;
            behind = refl;
            turn = λ answer. ap (λ a. turn_body terms.place a flow later (with_piece at) answer) same_there
                ∙ (ap (λ i. turn_body terms.place there flow i (with_piece at) answer) whole
                ∙ body_reads client_more client false heard_of server its_shut shut told now there parked_heard answer terms.place flow item);
          }

      dial_finds : (flow : Flow) (how : Sent) → FindsAlike terms (busy at flow (connection how)) shorter (with_piece at)
      dial_finds flow how = record {
        look = refl;
        so_far = stray_heard;
        behind = ap (λ (a : At). shut_server (server_parked a.parked (with_piece at))) same_there ∙ ap (λ u. shut_server u) parked_heard;
        turn = λ answer. ap (λ a. turn_dial terms.place a flow how answer false) same_there;
      }

      given_finds : (flow : Flow) → FindsAlike terms (busy at flow given_head) shorter (with_piece at)
      given_finds flow = record {
        look = refl;
        so_far = stray_heard;
        behind = refl;
        turn = λ answer. ap (λ (a : At). turn_given_head a (given_at flow now) answer (server_parked a.parked (with_piece at)) false) same_there
            ∙ ap (λ u. turn_given_head there (given_at flow now) answer u false) parked_heard;
      }

      whole_finds : (flow : Flow) → FindsAlike terms (busy at flow given_body) shorter (with_piece at)
      whole_finds flow = record {
        look = refl;
        so_far = stray_heard;
        behind = refl;
        turn = λ answer. ap (λ (a : At). turn_whole_answer a flow answer (server_parked a.parked (with_piece at)) false) same_there
            ∙ ap (λ u. turn_whole_answer there flow answer u false) parked_heard;
      }

      next_finds : FindsAlike terms (next at) shorter (with_piece at)
      next_finds = record {
        look = refl;
        so_far = stray_heard;
        behind = refl;
        turn = λ answer. ap (λ a. (let t : Turn Stage Command = record { owed = []; stage = next a } in t)) same_there;
      }

  -- ---- a flow that stands at its server's side

  module _ (at : At) (flow : Flow) (own : ℕ) (client server : List ℕ) (told now : ℕ) where
    abbrev asked_head : Bool
    asked_head = is_head flow.request.method

    abbrev more : List ℕ
    more = piece_of (Server own) piece

    abbrev longer_client : List ℕ
    longer_client = client ++ piece_of Client piece

    abbrev answers_by : Bool → Answers
    answers_by shut = answer_list asked_head shut server

    abbrev later_by : Bool → Answers
    later_by shut = answer_list asked_head shut (later_server shut server more)

    abbrev before_it : Bool → Sight
    before_it shut = make client false server shut told now

    abbrev behind_it : Bool → Sight
    behind_it shut = make longer_client false (later_server shut server more) shut told now

    -- where no byte of its server is heard more
    none_more : more ≡ [] → server ++ more ≡ server
    none_more none = ap (λ l. server ++ l) none ∙ append-nil server

    -- where something of a response has begun its side is not silent, with more neither
    begun_silent : (shut : Bool) → is_begun (answers_by shut).final ≡ true → is_silent (later_server shut server more) shut ≡ is_silent server shut
    begun_silent true begun = refl
    begun_silent false begun = begun_more server begun
      where
        begun_more : (l : List ℕ) → is_begun (answer_list asked_head false l).final ≡ true → is_silent (l ++ more) false ≡ is_silent l false
        begun_more [] begun = absurd (not_both (is_begun (answer_list asked_head false []).final) refl begun)
        begun_more (byte ∷ l) begun = refl

    quiet_silent : (shut : Bool) → more ≡ [] → is_silent (later_server shut server more) shut ≡ is_silent server shut
    quiet_silent true none = refl
    quiet_silent false none = ap (λ l. is_silent l false) (none_more none)

    -- so it is without a spoilt side in both
    same_place : (shut : Bool) → is_silent (later_server shut server more) shut ≡ is_silent server shut → unspoilt_at at (behind_it shut) ≡ unspoilt_at at (before_it shut)
    same_place shut silent = ap (λ b. record at { parked = unspoilt_by b at.parked }) silent

    -- what is told of its response is the same
    record AnswerSame (shut : Bool) : Type 0 where
      look : look_answer flow (later_by shut).final now (ByServer own shut) false ≡ look_answer flow (answers_by shut).final now (ByServer own shut) false
      interim : interim_commands flow.request (later_by shut).interim ≡ interim_commands flow.request (answers_by shut).interim
      turn : (there : At) (how : Sent) (answer : Timed Reply) →
          turn_answer terms there flow own how (later_by shut).final (behind_it shut) answer ≡ turn_answer terms there flow own how (answers_by shut).final (before_it shut) answer
      silent : is_silent (later_server shut server more) shut ≡ is_silent server shut

    answers_found : (shut : Bool) → IsFound (look_answer flow (answers_by shut).final now (ByServer own shut) false) → AnswerSame shut
    answers_found true found = record {
      look = refl;
      interim = refl;
      turn = λ there how answer. answer_reads longer_client client false server server true told now answer there flow own how terms (answers_by true).final;
      silent = refl;
    }
    answers_found false found =
        let item = (answers_by false).final in
        let later = (later_by false).final in
        let used : Used = ByServer own false in
        let heads = answer_found flow item later now used false (final_stays readers asked_head server more) found in
        let begun = answer_begun flow item now used false found in
        record {
          look = look_answer_same flow item later now used false heads;
          interim = ap (λ l. interim_commands flow.request l) (interim_stays readers asked_head server more begun);
          turn = λ there how answer. answer_turn_same terms there flow own how item later (behind_it false) answer heads
              ∙ answer_reads longer_client client false (server ++ more) server false told now answer there flow own how terms item;
          silent = begun_silent false begun;
        }

    answers_quiet : (shut : Bool) → more ≡ [] → AnswerSame shut
    answers_quiet true none = record {
      look = refl;
      interim = refl;
      turn = λ there how answer. answer_reads longer_client client false server server true told now answer there flow own how terms (answers_by true).final;
      silent = refl;
    }
    answers_quiet false none =
        let same = none_more none in
        record {
          look = ap (λ l. look_answer flow (answer_list asked_head false l).final now (ByServer own false) false) same;
          interim = ap (λ l. interim_commands flow.request (answer_list asked_head false l).interim) same;
          turn = λ there how answer. ap (λ l. turn_answer terms there flow own how (answer_list asked_head false l).final (make longer_client false l false told now) answer) same
              ∙ answer_reads longer_client client false server server false told now answer there flow own how terms (answers_by false).final;
          silent = quiet_silent false none;
        }

    -- at the place without a spoilt side
    answer_turns : (shut : Bool) → AnswerSame shut → (how : Sent) (answer : Timed Reply) →
        turn terms (busy at flow (response_head own how)) (behind_it shut) answer ≡ turn terms (busy at flow (response_head own how)) (before_it shut) answer
    answer_turns shut alike how answer =
        ap (λ a. turn_answer terms a flow own how (later_by shut).final (behind_it shut) answer) (same_place shut alike.silent) ∙ alike.turn (unspoilt_at at (before_it shut)) how answer

    answers_up : (bad : Bool) (shut : Bool) (answered : Bool) (ends : Fault → List Command) → is_bad (request_item client) ≡ bad → IsBeside side own (request_item client) answered →
        IsFound (bad_or (request_item client) ends (look_answer flow (answers_by shut).final now (ByServer own shut) false)) → AnswerSame shut
    answers_up true shut answered ends is beside found = answers_quiet shut (waits_more side bytes own (request_item client) answered beside is)
    answers_up false shut answered ends is beside found = answers_found shut (inner_found (request_item client) ends (look_answer flow (answers_by shut).final now (ByServer own shut) false) is found)

    abbrev up_ends : Bool → Fault → List Command
    up_ends shut fault = ends_by_fault flow fault now (ByServer own shut) false

    abbrev sent_text : List ℕ → List ℕ
    sent_text l = left_of told (going_by (head_in (request_item l)) flow.request (form_at terms.place) l)

    head_finds : (how : Sent) (shut : Bool) → WaitsBeside side (busy at flow (response_head own how)) (before_it shut) → IsFound (look terms (busy at flow (response_head own how)) (before_it shut)) →
        FindsAlike terms (busy at flow (response_head own how)) (before_it shut) (behind_it shut)
    head_finds all_sent shut beside found =
        let leaving = ends_early flow closed_message now (ByServer own shut) true in
        let same = answers_found shut (or_found leaving (look_answer flow (answers_by shut).final now (ByServer own shut) false) found) in
        record { look = ap (λ l. or_leaves false leaving l) same.look; so_far = same.interim; behind = refl; turn = λ answer. answer_turns shut same all_sent answer }
    head_finds going_up shut beside found =
        let leaving = ends_early flow closed_message now (ByServer own shut) true in
        let item = request_item client in
        let inner = look_answer flow (answers_by shut).final now (ByServer own shut) false in
        let answered : Bool = is_begun (answers_by shut).final in
        let there = or_found leaving (bad_or item (up_ends shut) inner) found in
        let same = answers_up (is_bad item) shut answered (up_ends shut) refl beside there in
        let told_same = waits_request terms.place flow side bytes client own answered beside
        (found_up item (up_ends shut) inner answered (λ is. answer_begun flow (answers_by shut).final now (ByServer own shut) false is) there) in
        record {
          look = ap (λ i. or_leaves false leaving (bad_or i (up_ends shut) (look_answer flow (later_by shut).final now (ByServer own shut) false))) told_same.item
              ∙ ap (λ l. or_leaves false leaving (bad_or item (up_ends shut) l)) same.look;
          so_far = ap (λ text. commands.Send (Server own) (left_of told text) ∷ interim_commands flow.request (later_by shut).interim) told_same.text
              ∙ ap (λ l. commands.Send (Server own) (sent_text client) ∷ l) same.interim;
          behind = refl;
          turn = λ answer. answer_turns shut same going_up answer;
        }

    -- the final response is the same, and the side as silent
    record FinalSame (shut : Bool) : Type 0 where
      final : (later_by shut).final ≡ (answers_by shut).final
      silent : is_silent (later_server shut server more) shut ≡ is_silent server shut

    record ReturnedSame (shut : Bool) : Type 0 where
      look : look_returned flow (later_by shut).final now (ByServer own shut) false ≡ look_returned flow (answers_by shut).final now (ByServer own shut) false
      turn : (how : Sent) (most : Option ℕ) (answer : Timed Reply) →
          turn terms (busy at flow (response_body own how most)) (behind_it shut) answer ≡ turn terms (busy at flow (response_body own how most)) (before_it shut) answer

    returned_same : (shut : Bool) → OwnAside side bytes flow.request own server shut → FinalSame shut → ReturnedSame shut
    returned_same shut aside stays =
        let there : At = unspoilt_at at (before_it shut) in
        record {
          look = ap (λ i. look_returned flow i now (ByServer own shut) false) stays.final;
          turn = λ how most answer. ap (λ i. turn_returned terms.place (unspoilt_at at (behind_it shut)) flow own how i (behind_it shut) answer) stays.final
              ∙ (ap (λ a. turn_returned terms.place a flow own how (answers_by shut).final (behind_it shut) answer) (same_place shut stays.silent)
              ∙ returned_reads longer_client client false (later_server shut server more) server shut told now answer there flow own how terms.place (answers_by shut).final
              (keeps_same flow.request side bytes own shut server aside));
        }

    -- its final response stays, where that is whole or refused, and where nothing more is heard
    final_by : (shut : Bool) → is_decided (answers_by shut).final ≡ true → FinalSame shut
    final_by true decided = record { final = refl; silent = refl }
    final_by false decided =
        record { final = (final_stays readers asked_head server more).decided decided; silent = begun_silent false (decided_begun (answers_by false).final decided) }

    final_quiet : (shut : Bool) → more ≡ [] → FinalSame shut
    final_quiet true none = record { final = refl; silent = refl }
    final_quiet false none = record { final = ap (λ l. (answer_list asked_head false l).final) (none_more none); silent = quiet_silent false none }

    final_up : (shut : Bool) (answered : Bool) → (answered ≡ true → has_ended (answers_by shut).final ≡ true) → IsBeside side own (request_item client) answered →
        FoundUp answered (request_item client) → FinalSame shut
    final_up shut answered ends beside (is_answered holds) = final_by shut (ended_decided (answers_by shut).final (ends holds))
    final_up shut answered ends beside (is_refused bad) = final_quiet shut (waits_more side bytes own (request_item client) answered beside bad)

    body_finds : (how : Sent) (most : Option ℕ) (shut : Bool) → OwnAside side bytes flow.request own server shut → WaitsBeside side (busy at flow (response_body own how most)) (before_it shut) →
        IsFound (look terms (busy at flow (response_body own how most)) (before_it shut)) → FindsAlike terms (busy at flow (response_body own how most)) (before_it shut) (behind_it shut)
    body_finds all_sent most shut aside beside found =
        let leaving = ends_early (without_response flow) closed_message now (ByServer own shut) true in
        let item = (answers_by shut).final in
        let there = or_found leaving (look_returned flow item now (ByServer own shut) false) found in
        let same = returned_same shut aside (final_by shut (returned_decided flow item now (ByServer own shut) false there)) in
        record { look = ap (λ l. or_leaves false leaving l) same.look; so_far = refl; behind = refl; turn = λ answer. same.turn all_sent most answer }
    body_finds going_up most shut aside beside found =
        let leaving = ends_early (without_response flow) closed_message now (ByServer own shut) true in
        let item = request_item client in
        let inner = look_returned flow (answers_by shut).final now (ByServer own shut) false in
        let answered : Bool = has_ended (answers_by shut).final in
        let up = found_up item (up_ends shut) inner answered (λ is. returned_ended flow (answers_by shut).final now (ByServer own shut) false is)
        (or_found leaving (bad_or item (up_ends shut) inner) found) in
        let same = returned_same shut aside (final_up shut answered (λ is. is) beside up) in
        let told_same = waits_request terms.place flow side bytes client own answered beside up in
        record {
          look = ap (λ i. or_leaves false leaving (bad_or i (up_ends shut) (look_returned flow (later_by shut).final now (ByServer own shut) false))) told_same.item
              ∙ ap (λ l. or_leaves false leaving (bad_or item (up_ends shut) l)) same.look;
          so_far = ap (λ text. (let one : List Command = commands.Send (Server own) (left_of told text) ∷ [] in one)) told_same.text;
          behind = refl;
          turn = λ answer. same.turn going_up most answer;
        }

    -- ---- one that comes down

    -- its text
    abbrev text_by : Bool → List ℕ → List ℕ
    text_by shut l = coming_by flow.response (head_in (answer_list asked_head shut l).final) flow.request shut l

    text_decided : (shut : Bool) → is_decided (answers_by shut).final ≡ true → text_by shut (later_server shut server more) ≡ text_by shut server
    text_decided true decided = refl
    text_decided false decided = text_stays flow.request server more decided flow.response

    text_quiet : (shut : Bool) → more ≡ [] → text_by shut (later_server shut server more) ≡ text_by shut server
    text_quiet true none = refl
    text_quiet false none = ap (λ l. text_by false l) (none_more none)

    text_up : (shut : Bool) (answered : Bool) → (answered ≡ true → has_ended (answers_by shut).final ≡ true) → IsBeside side own (request_item client) answered →
        FoundUp answered (request_item client) → text_by shut (later_server shut server more) ≡ text_by shut server
    text_up shut answered ends beside (is_answered holds) = text_decided shut (ended_decided (answers_by shut).final (ends holds))
    text_up shut answered ends beside (is_refused bad) = text_quiet shut (waits_more side bytes own (request_item client) answered beside bad)

    abbrev early_ends : Bool → Fault → List Command
    early_ends shut fault = ends_early flow (fault_message fault) now (ByServer own shut) false

    coming_finds : (how : Sent) (shut : Bool) → WaitsBeside side (busy at flow (coming_down own how)) (before_it shut) → IsFound (look terms (busy at flow (coming_down own how)) (before_it shut)) →
        FindsAlike terms (busy at flow (coming_down own how)) (before_it shut) (behind_it shut)
    coming_finds all_sent shut beside found =
        let leaving = ends_early flow closed_message now (ByServer own shut) true in
        let item = (answers_by shut).final in
        let decided = coming_decided flow item now (ByServer own shut) false (or_found leaving (look_coming flow item now (ByServer own shut) false) found) in
        record {
          look = ap (λ i. or_leaves false leaving (look_coming flow i now (ByServer own shut) false)) (final_by shut decided).final;
          so_far = ap (λ text. (let one : List Command = commands.Send Client text ∷ [] in one)) (text_decided shut decided);
          behind = refl;
          turn = λ answer. refl;
        }
    coming_finds going_up shut beside found =
        let leaving = ends_early flow closed_message now (ByServer own shut) true in
        let item = request_item client in
        let inner = look_coming flow (answers_by shut).final now (ByServer own shut) false in
        let answered : Bool = ends_here flow.response (answers_by shut).final in
        let ends : answered ≡ true → has_ended (answers_by shut).final ≡ true = λ is. ends_ended flow.response (answers_by shut).final is in
        let up = found_up item (early_ends shut) inner answered (λ is. coming_ends flow (answers_by shut).final now (ByServer own shut) false flow.response is)
        (or_found leaving (bad_or item (early_ends shut) inner) found) in
        let told_same = waits_request terms.place flow side bytes client own answered beside up in
        record {
          look = ap (λ i. or_leaves false leaving (bad_or i (early_ends shut) (look_coming flow (later_by shut).final now (ByServer own shut) false))) told_same.item
              ∙ ap (λ i. or_leaves false leaving (bad_or item (early_ends shut) (look_coming flow i now (ByServer own shut) false))) (final_up shut answered ends beside up).final;
          so_far = ap (λ text. (let both : List Command = commands.Send (Server own) (left_of told text) ∷ commands.Send Client (text_by shut (later_server shut server more)) ∷ [] in both)) told_same.text
              ∙ ap (λ text. (let both : List Command = commands.Send (Server own) (sent_text client) ∷ commands.Send Client text ∷ [] in both)) (text_up shut answered ends beside up);
          behind = refl;
          turn = λ answer. refl;
        }

  finds_by : (stage : Stage) (client server : List ℕ) (shut : Bool) (told now : ℕ) → MayBeFollowed side stage (make client false server shut told now) →
      WaitsBeside side stage (make client false server shut told now) → IsFound (look terms stage (make client false server shut told now)) →
      FindsAlike terms stage (make client false server shut told now) (hears (side_of stage) (make client false server shut told now) piece)
  finds_by (idle at) client server shut told now follows beside found =
      idle_finds client server shut told now at (rests_aside side bytes (idle at) at.parked server shut client told now refl refl follows) found
  finds_by (busy at flow (request_body given most)) client server shut told now follows beside found =
      request_finds client server shut told now at (rests_aside side bytes (busy at flow (request_body given most)) at.parked server shut client told now refl refl follows) flow given most found
  finds_by (busy at flow (connection how)) client server shut told now follows beside found =
      dial_finds client server shut told now at (rests_aside side bytes (busy at flow (connection how)) at.parked server shut client told now refl refl follows) flow how
  finds_by (busy at flow (response_head own how)) client server true told now follows beside found = head_finds at flow own client server told now how true beside found
  finds_by (busy at flow (response_head own how)) client server false told now follows beside found = head_finds at flow own client server told now how false beside found
  finds_by (busy at flow (response_body own how most)) client server true told now follows beside found =
      body_finds at flow own client server told now how most true (body_aside side bytes at flow own how most client server true told now follows) beside found
  finds_by (busy at flow (response_body own how most)) client server false told now follows beside found =
      body_finds at flow own client server told now how most false (body_aside side bytes at flow own how most client server false told now follows) beside found
  finds_by (busy at flow (coming_down own how)) client server true told now follows beside found = coming_finds at flow own client server told now how true beside found
  finds_by (busy at flow (coming_down own how)) client server false told now follows beside found = coming_finds at flow own client server told now how false beside found
  finds_by (busy at flow (upgraded own)) client server shut told now follows beside found = record { look = refl; so_far = refl; behind = refl; turn = λ answer. refl }
  finds_by (busy at flow given_head) client server shut told now follows beside found =
      given_finds client server shut told now at (rests_aside side bytes (busy at flow given_head) at.parked server shut client told now refl refl follows) flow
  finds_by (busy at flow given_body) client server shut told now follows beside found =
      whole_finds client server shut told now at (rests_aside side bytes (busy at flow given_body) at.parked server shut client told now refl refl follows) flow
  finds_by (next at) client server shut told now follows beside found =
      next_finds client server shut told now at (rests_aside side bytes (next at) at.parked server shut client told now refl refl follows)
  finds_by over client server shut told now follows beside found = record { look = refl; so_far = refl; behind = refl; turn = λ answer. refl }

  -- What is found without a piece is found with it, where the client has not closed.
  pub finds_alike : (stage : Stage) (v : Sight) → v.closed ≡ false → MayBeFollowed side stage v → WaitsBeside side stage v → IsFound (look terms stage v) →
      FindsAlike terms stage v (hears (side_of stage) v piece)
  finds_alike stage v open_client follows beside found =
      let P : Bool → Type 0 = λ b. MayBeFollowed side stage (make v.client b v.server v.shut v.told v.now) → WaitsBeside side stage (make v.client b v.server v.shut v.told v.now) →
      IsFound (look terms stage (make v.client b v.server v.shut v.told v.now)) →
      FindsAlike terms stage (make v.client b v.server v.shut v.told v.now) (hears (side_of stage) (make v.client b v.server v.shut v.told v.now) piece) in
      subst P (sym open_client) (finds_by stage v.client v.server v.shut v.told v.now) follows beside found

  -- ---- what is left there

  -- with the piece what is left of the client's bytes has it behind it
  request_leaves : (at : At) (flow : Flow) (given : Option Response) (most : Option ℕ) (client server : List ℕ) (shut : Bool) (told now : ℕ) →
      IsFound (look terms (busy at flow (request_body given most)) (make client false server shut told now)) →
      left_by (request_item (client ++ piece_of Client piece)) (client ++ piece_of Client piece) ≡ left_by (request_item client) client ++ piece_of Client piece
  request_leaves at flow given most client server shut told now found =
      let more = piece_of Client piece in
      let item = request_item client in
      let used : Used = server_parked (unspoilt_at at (make client false server shut told now)).parked (make client false server shut told now) in
      let whole = body_found flow item (request_item (client ++ more)) now used false (request_stays readers client more)
      (or_found (ends_early flow closed_message now used true) (look_body flow item now used false) found) in
      ap (λ i. left_by i (client ++ more)) whole ∙ left_more item client more (λ head body trailers size is. (request_used chunk_laws client head body trailers size is).1)

  -- and what is left of the server's
  abbrev left_of_server : Flow → List ℕ → List ℕ
  left_of_server flow l = let answers = answer_list (is_head flow.request.method) false l in left_by answers.final (drop answers.used l)

  server_leaves : (flow : Flow) (own : ℕ) (server : List ℕ) (now : ℕ) →
      IsFound (look_returned flow (answer_list (is_head flow.request.method) false server).final now (ByServer own false) false) →
      left_of_server flow (server ++ piece_of (Server own) piece) ≡ left_of_server flow server ++ piece_of (Server own) piece
  server_leaves flow own server now found =
      let asked_head = is_head flow.request.method in
      let more = piece_of (Server own) piece in
      let before : Answers = answer_list asked_head false server in
      let after : Answers = answer_list asked_head false (server ++ more) in
      let used : Used = ByServer own false in
      let whole : after.final ≡ before.final = returned_found flow before.final after.final now used false (final_stays readers asked_head server more) found in
      let same : after.used ≡ before.used = used_stays readers asked_head server more (returned_begun flow before.final now used false found) in
      left_with asked_head server more whole same

  server_quiet : (flow : Flow) (server rest : List ℕ) → rest ≡ [] → left_of_server flow (server ++ rest) ≡ left_of_server flow server ++ rest
  server_quiet flow server rest none =
      let P : List ℕ → Type 0 = λ l. left_of_server flow (server ++ l) ≡ left_of_server flow server ++ l in
      subst P (sym none) (ap (left_of_server flow) (append-nil server) ∙ sym (append-nil (left_of_server flow server)))

  server_up : (bad : Bool) (flow : Flow) (own : ℕ) (client server : List ℕ) (now : ℕ) (answered : Bool) (ends : Fault → List Command) → is_bad (request_item client) ≡ bad →
      IsBeside side own (request_item client) answered →
      IsFound (bad_or (request_item client) ends (look_returned flow (answer_list (is_head flow.request.method) false server).final now (ByServer own false) false)) →
      left_of_server flow (server ++ piece_of (Server own) piece) ≡ left_of_server flow server ++ piece_of (Server own) piece
  server_up true flow own client server now answered ends is beside found = server_quiet flow server (piece_of (Server own) piece) (waits_more side bytes own (request_item client) answered beside is)
  server_up false flow own client server now answered ends is beside found =
      server_leaves flow own server now
      (inner_found (request_item client) ends (look_returned flow (answer_list (is_head flow.request.method) false server).final now (ByServer own false) false) is found)

  -- how much of the request was told where the body of its response is awaited
  body_told : (flow : Flow) (own : ℕ) (client server : List ℕ) (shut : Bool) (now : ℕ) →
      let item = (answer_list (is_head flow.request.method) shut server).final in
      let used = ByServer own shut in
      IsBeside side own (request_item client) (has_ended item) →
      IsFound (or_leaves false (ends_early (without_response flow) closed_message now used true)
      (bad_or (request_item client) (λ fault. ends_by_fault flow fault now used false) (look_returned flow item now used false))) →
      length (going_by (head_in (request_item (client ++ piece_of Client piece))) flow.request (form_at terms.place) (client ++ piece_of Client piece))
      ≡ length (going_by (head_in (request_item client)) flow.request (form_at terms.place) client)
  body_told flow own client server shut now beside found =
      let item = (answer_list (is_head flow.request.method) shut server).final in
      let used : Used = ByServer own shut in
      let ends : Fault → List Command = λ fault. ends_by_fault flow fault now used false in
      let up = found_up (request_item client) ends (look_returned flow item now used false) (has_ended item) (λ is. returned_ended flow item now used false is)
      (or_found (ends_early (without_response flow) closed_message now used true) (bad_or (request_item client) ends (look_returned flow item now used false)) found) in
      ap length (waits_request terms.place flow side bytes client own (has_ended item) beside up).text

  -- at any moment
  leaves_by : (stage : Stage) (client server : List ℕ) (shut : Bool) (told now late : ℕ) → WaitsBeside side stage (make client false server shut told now) →
      IsFound (look terms stage (make client false server shut told now)) → LeavesMore terms.place stage (make client false server shut told late) piece
  leaves_by (idle at) client server shut told now late beside found = record { client = refl; server = refl; told = refl }
  leaves_by (busy at flow (request_body given most)) client server shut told now late beside found =
      record { client = request_leaves at flow given most client server shut told now found; server = refl; told = refl }
  leaves_by (busy at flow (connection how)) client server shut told now late beside found = record { client = refl; server = refl; told = refl }
  leaves_by (busy at flow (response_head own all_sent)) client server shut told now late beside found = record { client = refl; server = refl; told = refl }
  leaves_by (busy at flow (response_head own going_up)) client server shut told now late beside found =
      let item = (answer_list (is_head flow.request.method) shut server).final in
      let used : Used = ByServer own shut in
      let ends : Fault → List Command = λ fault. ends_by_fault flow fault now used false in
      let up = found_up (request_item client) ends (look_answer flow item now used false) (is_begun item) (λ is. answer_begun flow item now used false is)
      (or_found (ends_early flow closed_message now used true) (bad_or (request_item client) ends (look_answer flow item now used false)) found) in
      record { client = refl; server = refl; told = ap length (waits_request terms.place flow side bytes client own (is_begun item) beside up).text }
  leaves_by (busy at flow (response_body own all_sent most)) client server true told now late beside found = record { client = refl; server = refl; told = refl }
  leaves_by (busy at flow (response_body own all_sent most)) client server false told now late beside found =
      let item = (answer_list (is_head flow.request.method) false server).final in
      record {
        client = refl;
        server = server_leaves flow own server now
            (or_found (ends_early (without_response flow) closed_message now (ByServer own false) true) (look_returned flow item now (ByServer own false) false) found);
        told = refl;
      }
  leaves_by (busy at flow (response_body own going_up most)) client server true told now late beside found =
      record { client = refl; server = refl; told = body_told flow own client server true now beside found }
  leaves_by (busy at flow (response_body own going_up most)) client server false told now late beside found =
      let item = (answer_list (is_head flow.request.method) false server).final in
      let used : Used = ByServer own false in
      let ends : Fault → List Command = λ fault. ends_by_fault flow fault now used false in
      record {
        client = refl;
        server = server_up (is_bad (request_item client)) flow own client server now (has_ended item) ends refl beside
            (or_found (ends_early (without_response flow) closed_message now used true) (bad_or (request_item client) ends (look_returned flow item now used false)) found);
        told = body_told flow own client server false now beside found;
      }
  leaves_by (busy at flow (coming_down own all_sent)) client server shut told now late beside found = record { client = refl; server = refl; told = refl }
  leaves_by (busy at flow (coming_down own going_up)) client server shut told now late beside found =
      let item = (answer_list (is_head flow.request.method) shut server).final in
      let used : Used = ByServer own shut in
      let ends : Fault → List Command = λ fault. ends_early flow (fault_message fault) now used false in
      let up = found_up (request_item client) ends (look_coming flow item now used false) (ends_here flow.response item) (λ is. coming_ends flow item now used false flow.response is)
      (or_found (ends_early flow closed_message now used true) (bad_or (request_item client) ends (look_coming flow item now used false)) found) in
      record { client = refl; server = refl; told = ap length (waits_request terms.place flow side bytes client own (ends_here flow.response item) beside up).text }
  leaves_by (busy at flow (upgraded own)) client server shut told now late beside found = record { client = refl; server = refl; told = refl }
  leaves_by (busy at flow given_head) client server shut told now late beside found = record { client = refl; server = refl; told = refl }
  leaves_by (busy at flow given_body) client server shut told now late beside found = record { client = refl; server = refl; told = refl }
  leaves_by (next at) client server shut told now late beside found = record { client = refl; server = refl; told = refl }
  leaves_by over client server shut told now late beside found = record { client = refl; server = refl; told = refl }

  -- Where something is found, what is left has the piece behind it, at any moment.
  pub leaves_more : (stage : Stage) (v : Sight) (late : ℕ) → v.closed ≡ false → WaitsBeside side stage v → IsFound (look terms stage v) →
      LeavesMore terms.place stage (make v.client v.closed v.server v.shut v.told late) piece
  leaves_more stage v late open_client beside found =
      let P : Bool → Type 0 = λ b. WaitsBeside side stage (make v.client b v.server v.shut v.told v.now) → IsFound (look terms stage (make v.client b v.server v.shut v.told v.now)) →
      LeavesMore terms.place stage (make v.client b v.server v.shut v.told late) piece in
      subst P (sym open_client) (leaves_by stage v.client v.server v.shut v.told v.now late) beside found
