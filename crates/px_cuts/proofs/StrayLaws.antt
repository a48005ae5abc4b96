-- Where nothing stray stands behind a response with all bytes of a side, each part of them may follow the part before it.
use Rattle.std.proofs.Common.{◌≡◌, ℕ, Bool, true, false, List, [], ◌∷◌, ◌++◌, Option, Some, None, refl, ap, sym, ◌∙◌, append_assoc}
use Rattle.std.specs.Prelude.{◌&&◌, if◌then◌else◌}
use Rattle.px_message.specs.declared.request.Request.{Request}
use Rattle.px_message.specs.declared.response.Response.{Response}
use Rattle.px_event.specs.declared.event.Event.TheVariants as events
use Rattle.px_event.specs.declared.side.Side.{Side}
use Rattle.px_event.specs.declared.side.Side.TheVariants.{Server}
use Rattle.px_event.specs.Trace.{is_same_side}
use Rattle.px_read.specs.Items.{Item, missing, part, complete, bad_head, bad_body, answer_list}
use Rattle.px_read.specs.Laws.{is_decided}
use Rattle.px_read.specs.declared.head.ResponseHead.{ResponseHead as ReadResponse}
use Rattle.px_read.proofs.AnswerLemmas.{answers_carry}
use Rattle.px_read.proofs.LawLemmas.{chunk_laws}
use Rattle.px_exchange.specs.Endings.{read_persists, sent_persists}
use Rattle.px_exchange.specs.Requests.{is_head}
use Rattle.px_chain.specs.Coming.{Came, came_by, came_in}
use Rattle.px_chain.specs.Keeping.{is_silent}
use Rattle.px_chain.specs.Sights.{Sight, answers_in, left_by_answers, server_with, shut_with, sight_with}
use Rattle.px_chain.specs.Stages.{Stage, busy, coming_down, connection, given_body, given_head, idle, next, over, request_body, response_body, response_head, side_of, upgraded}
use Rattle.px_cuts.specs.Cuts.{MayFollow, has_byte, is_of, keeps_behind, keeps_by, keeps_coming, keeps_own, no_byte, not_kept, of_other, strays_behind, strays_by, strays_own}
use Rattle.px_cuts.proofs.BesideLaws.{not_both}
use Rattle.px_cuts.proofs.ComingLaws.{decided_begun}
use Rattle.px_cuts.proofs.FollowLaws.{came_keeps, left_with}
use Rattle.px_cuts.proofs.PlaceLaws.{make}

no_bytes : (bytes : List ℕ) → has_byte bytes ≡ false → bytes ≡ []
no_bytes [] is = refl
no_bytes (byte ∷ more) is = absurd (let e : true ≡ false = is in cc)

-- a side that is kept has nothing left, so all that stands behind is what follows
strays_all : (left all : List ℕ) (persists : Bool) → (is_silent left false && persists) ≡ true → (has_byte (left ++ all) && persists) ≡ false → all ≡ []
strays_all [] all true kept none = no_bytes all (at_true (has_byte all) none)
  where
    at_true : (b : Bool) → (b && true) ≡ false → b ≡ false
    at_true true is = is
    at_true false is = refl
strays_all [] all false kept none = absurd (let e : false ≡ true = kept in cc)
strays_all (byte ∷ left) all persists kept none = absurd (let e : false ≡ true = kept in cc)

module _ (request : Request) where
  abbrev asked_head : Bool
  asked_head = is_head request.method

  abbrev seen_of : List ℕ → Bool → Sight
  seen_of server shut = make [] false server shut 0 0

  strays_item : (server all : List ℕ) (item : Item ReadResponse) → (answer_list asked_head false server).final ≡ item → keeps_by request (seen_of server false) item ≡ true →
      strays_by request (seen_of (server ++ all) false) item ≡ false → all ≡ []
  strays_item server all missing is kept none = absurd (let e : false ≡ true = kept in cc)
  strays_item server all (part head body) is kept none = absurd (let e : false ≡ true = kept in cc)
  strays_item server all (complete head body trailers size) is kept none =
      let before = answer_list asked_head false server in
      let carries = answers_carry chunk_laws asked_head false server all in
      let whole = carries.final.stays (final_decided is) in
      let same = (carries.begun (decided_begun before.final (final_decided is))).1 in
      let persists : Bool = sent_persists request && read_persists request head in
      strays_all (left_by_answers before server) all persists kept (sym (ap (λ l. has_byte l && persists) (left_with asked_head server all whole same)) ∙ none)
    where
      final_decided : (answer_list asked_head false server).final ≡ complete head body trailers size → is_decided (answer_list asked_head false server).final ≡ true
      final_decided at = ap (λ i. is_decided i) at
  strays_item server all (bad_head fault) is kept none = absurd (let e : false ≡ true = kept in cc)
  strays_item server all (bad_body fault head body) is kept none = absurd (let e : false ≡ true = kept in cc)

  -- the final response is the same with more behind it
  strays_final : (server all : List ℕ) (item : Item ReadResponse) → (answer_list asked_head false server).final ≡ item → keeps_by request (seen_of server false) item ≡ true →
      (answer_list asked_head false (server ++ all)).final ≡ (answer_list asked_head false server).final
  strays_final server all missing is kept = absurd (let e : false ≡ true = kept in cc)
  strays_final server all (part head body) is kept = absurd (let e : false ≡ true = kept in cc)
  strays_final server all (complete head body trailers size) is kept = (answers_carry chunk_laws asked_head false server all).final.stays (ap (λ i. is_decided i) is)
  strays_final server all (bad_head fault) is kept = absurd (let e : false ≡ true = kept in cc)
  strays_final server all (bad_body fault head body) is kept = absurd (let e : false ≡ true = kept in cc)

  strays_more : (server all : List ℕ) (shut : Bool) → keeps_own request (seen_of server shut) ≡ true → (shut ≡ false → strays_own request (seen_of (server ++ all) false) ≡ false) → all ≡ []
  strays_more server all true kept none = absurd (not_both (keeps_own request (seen_of server true)) (shut_kept (answer_list asked_head true server).final) kept)
    where
      shut_silent : (l : List ℕ) → is_silent l true ≡ false
      shut_silent [] = refl
      shut_silent (byte ∷ l) = refl

      shut_kept : (item : Item ReadResponse) → keeps_by request (seen_of server true) item ≡ false
      shut_kept missing = refl
      shut_kept (part head body) = refl
      shut_kept (complete head body trailers size) =
          ap (λ b. b && (sent_persists request && read_persists request head)) (shut_silent (left_by_answers (answer_list asked_head true server) server))
      shut_kept (bad_head fault) = refl
      shut_kept (bad_body fault head body) = refl
  strays_more server all false kept none =
      let item = (answer_list asked_head false server).final in
      strays_item server all item refl kept (sym (ap (λ i. strays_by request (seen_of (server ++ all) false) i) (strays_final server all item refl kept)) ∙ none refl)

-- a response that is streamed is the final one
coming_own : (given : Option Response) (item : Item ReadResponse) (came : Option Came) → came_by given item ≡ came → (request : Request) (seen : Sight) → keeps_coming request seen came ≡ true →
    keeps_by request seen item ≡ true
coming_own given item None is request seen kept = absurd (let e : false ≡ true = kept in cc)
coming_own given item (Some came) is request seen kept = came_keeps given item came is request seen ∙ kept

module _ (side : Side) (bytes all : List ℕ) (v : Sight) where
  abbrev first_seen : Stage → Sight
  first_seen stage = sight_with (side_of stage) v (events.Piece side bytes) v.now

  abbrev all_seen : Stage → Sight
  all_seen stage = sight_with (side_of stage) v (events.Piece side (bytes ++ all)) v.now

  -- of its own server the bytes are heard
  own_bytes : (own : ℕ) (l : List ℕ) → is_of (Some own) side ≡ true → (if is_same_side side (Server own) then l else []) ≡ l
  own_bytes own l is = ap (λ b. if b then l else []) is

  own_strays : (own : ℕ) (request : Request) → is_of (Some own) side ≡ true → keeps_own request (sight_with (Some own) v (events.Piece side bytes) v.now) ≡ true →
      strays_own request (sight_with (Some own) v (events.Piece side (bytes ++ all)) v.now) ≡ false → all ≡ []
  own_strays own request is = by_close v.shut
    where
      by_close : (shut : Bool) → keeps_own request (seen_of request (server_with (Some own) shut v.server (events.Piece side bytes)) (shut_with (Some own) shut (events.Piece side bytes))) ≡ true →
          strays_own request (seen_of request (server_with (Some own) shut v.server (events.Piece side (bytes ++ all))) (shut_with (Some own) shut (events.Piece side (bytes ++ all)))) ≡ false → all ≡ []
      by_close true kept none = strays_more request v.server all true kept (λ open_side. absurd (let e : true ≡ false = open_side in cc))
      by_close false kept none =
          let heard : v.server ++ (if is_same_side side (Server own) then bytes else []) ≡ v.server ++ bytes = ap (λ l. v.server ++ l) (own_bytes own bytes is) in
          let whole : v.server ++ (if is_same_side side (Server own) then bytes ++ all else []) ≡ (v.server ++ bytes) ++ all =
          ap (λ l. v.server ++ l) (own_bytes own (bytes ++ all) is) ∙ sym (append_assoc v.server bytes all) in
          strays_more request (v.server ++ bytes) all false (sym (ap (λ l. keeps_own request (seen_of request l false)) heard) ∙ kept)
          (λ open_side. sym (ap (λ l. strays_own request (seen_of request l false)) whole) ∙ none)

  stage_strays : (stage : Stage) → is_of (side_of stage) side ≡ true → keeps_behind stage (first_seen stage) ≡ true → strays_behind stage (all_seen stage) ≡ false → all ≡ []
  stage_strays (idle at) is kept none = absurd (let e : false ≡ true = kept in cc)
  stage_strays (busy at flow (request_body given most)) is kept none = absurd (let e : false ≡ true = kept in cc)
  stage_strays (busy at flow (connection how)) is kept none = absurd (let e : false ≡ true = kept in cc)
  stage_strays (busy at flow (response_head own how)) is kept none = own_strays own flow.request is kept none
  stage_strays (busy at flow (response_body own how most)) is kept none = own_strays own flow.request is kept none
  stage_strays (busy at flow (coming_down own how)) is kept none =
      let seen : Sight = sight_with (Some own) v (events.Piece side bytes) v.now in
      own_strays own flow.request is (coming_own flow.response (answers_in flow.request seen).final (came_in flow seen) refl flow.request seen kept) none
  stage_strays (busy at flow (upgraded own)) is kept none = absurd (let e : false ≡ true = kept in cc)
  stage_strays (busy at flow given_head) is kept none = absurd (let e : false ≡ true = kept in cc)
  stage_strays (busy at flow given_body) is kept none = absurd (let e : false ≡ true = kept in cc)
  stage_strays (next at) is kept none = absurd (let e : false ≡ true = kept in cc)
  stage_strays over is kept none = absurd (let e : false ≡ true = kept in cc)

  follows_by : (own_piece kept : Bool) (more rest : List ℕ) → all ≡ more ++ rest → (stage : Stage) → is_of (side_of stage) side ≡ own_piece → keeps_behind stage (first_seen stage) ≡ kept →
      strays_behind stage (all_seen stage) ≡ false → MayFollow side more stage (first_seen stage)
  follows_by false kept more rest parts stage is keeps none = of_other is
  follows_by true false more rest parts stage is keeps none = not_kept keeps
  follows_by true true more rest parts stage is keeps none = no_byte (first_none more rest (sym parts ∙ stage_strays stage is keeps none))
    where
      first_none : (l m : List ℕ) → l ++ m ≡ [] → l ≡ []
      first_none [] m empty = refl
      first_none (byte ∷ l) m empty = absurd (let e : byte ∷ (l ++ m) ≡ [] = empty in cc)

  -- So a part of all the bytes behind the first may follow that.
  pub may_follow_by : (more rest : List ℕ) → all ≡ more ++ rest → (stage : Stage) → strays_behind stage (all_seen stage) ≡ false → MayFollow side more stage (first_seen stage)
  may_follow_by more rest parts stage none = follows_by (is_of (side_of stage) side) (keeps_behind stage (first_seen stage)) more rest parts stage refl refl none
