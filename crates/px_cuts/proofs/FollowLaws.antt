-- A piece that may follow what is seen of a server's side: with it a parked side is as silent as without, and behind a whole response its own is
-- kept or closed as without; and so it may where the stage passes, and where a reply leads.
use Rattle.std.proofs.Common.{◌≡◌, ℕ, ◌<◌, ◌==◌, Bool, true, false, List, [], ◌∷◌, ◌++◌, drop, length, Option, Some, None, refl, ap, sym, ◌∙◌, subst, arith}
use Rattle.std.specs.Prelude.{◌&&◌, ◌||◌, if◌then◌else◌, ◌≤◌}
use Rattle.std.proofs.lemmas.Bool.{eqb-true}
use Rattle.std.proofs.lemmas.List.{append-nil, drop-append-le, length-drop}
use Rattle.px_message.specs.declared.flow.Flow.{Flow}
use Rattle.px_message.specs.declared.request.Request.{Request}
use Rattle.px_message.specs.declared.response.Response.{Response}
use Rattle.px_event.specs.declared.command.Command.{Command}
use Rattle.px_event.specs.declared.event.Event.{Event}
use Rattle.px_event.specs.declared.event.Event.TheVariants as events
use Rattle.px_event.specs.declared.side.Side.{Side}
use Rattle.px_event.specs.declared.side.Side.TheVariants.{Client, Server}
use Rattle.px_event.specs.Chain.{Timed, Turn}
use Rattle.px_event.specs.declared.reply.Reply.{Reply}
use Rattle.px_event.specs.Sides.{piece_of}
use Rattle.px_read.specs.Items.{Answers, Body, Item, missing, part, complete, bad_head, bad_body, answer_list}
use Rattle.px_read.specs.Laws.{is_decided}
use Rattle.px_read.specs.declared.head.RequestHead.{RequestHead as ReadRequest}
use Rattle.px_read.specs.declared.head.ResponseHead.{ResponseHead as ReadResponse}
use Rattle.px_read.proofs.AnswerLemmas.{answers_carry, answers_used}
use Rattle.px_read.proofs.LawLemmas.{chunk_laws}
use Rattle.px_exchange.specs.declared.ending.Used.{Used}
use Rattle.px_exchange.specs.declared.place.Place.{Place}
use Rattle.px_exchange.specs.declared.taken.Taken.{Taken}
use Rattle.px_exchange.specs.declared.taken.Taken.TheVariants.{GoesOn, Responds, Kills}
use Rattle.px_exchange.specs.declared.terms.Terms.{Terms}
use Rattle.px_exchange.specs.Endings.{connection_goes_on, read_persists, sent_persists}
use Rattle.px_exchange.specs.Flows.{response_of, with_answer, with_returned}
use Rattle.px_exchange.specs.Replies.{taken_at_response_body, taken_at_response_head}
use Rattle.px_exchange.specs.Requests.{is_head}
use Rattle.px_chain.specs.Behind.{sight_behind}
use Rattle.px_chain.specs.Chain.{IsOnward, begin_up, behind_flow, come_down, end_by, end_up, finish_by, going_at, gone, gone_by, goes_up_by, is_alone, is_sequence, keeps_came, parked_for, pass, pass_came, pass_given, pass_going, pass_kept, past_came, past_gone, past_kept, sequence, sight_begun, sight_come, sight_ended, sight_past, stands, turn, turn_answer, turn_answer_head, turn_response, turn_returned, turn_taken_answer, turn_taken_whole, turn_unspoilt, used_by_pass}
use Rattle.px_chain.specs.Coming.{Came, allowed_by, came_by, came_in, goes_on_behind, streaming, streams_in}
use Rattle.px_chain.specs.Going.{goes_up, is_sent, sending_on, whole_in, with_whole}
use Rattle.px_chain.specs.Keeping.{is_silent, keeps_side, parks, shut_by_byte, shut_stray, unspoilt, unspoilt_at, unspoilt_by}
use Rattle.px_chain.specs.Sights.{Sight, Standing, UsedBytes, answers_in, left_by, left_by_answers, request_in, server_in, server_with, shut_with, sight_over}
use Rattle.px_chain.specs.Stages.{At, Doing, Parked, Sent, Stage, busy, coming_down, connection, given_body, given_head, idle, next, over, request_body, response_body, response_head, side_of, side_parked, upgraded}
use Rattle.px_chain.proofs.SightLaws.{IsSideFrom, SidePassed, behind_onward, is_new, no_side, same_server, same_side, side_closed, side_kept, side_onward, side_passed, side_turned, sight_passed, sight_turned}
use Rattle.px_cuts.specs.Alike.{MayBeFollowed, apart, keeps_at, unkept}
use Rattle.px_cuts.specs.Cuts.{MayBeHeard, is_of, keeps_by, keeps_coming, keeps_own}
use Rattle.px_cuts.specs.Shown.{moment_at, passed_over, retimed_stage, shown_over}
use Rattle.px_cuts.proofs.ComingLaws.{decided_begun}
use Rattle.px_cuts.proofs.PlaceLaws.{make, side_retimed}

-- ---- a piece of another side

-- the client's is none of a server
pub client_apart : (own : Option ℕ) → is_of own Client ≡ false
client_apart None = refl
client_apart (Some server) = refl

module _ (side : Side) (bytes : List ℕ) where
  abbrev piece : Event
  piece = events.Piece side bytes

  pub piece_apart : (own : ℕ) → is_of (Some own) side ≡ false → piece_of (Server own) piece ≡ []
  piece_apart own is = ap (λ b. if b then bytes else []) is

  pub server_apart : (own : Option ℕ) (shut : Bool) (server : List ℕ) → is_of own side ≡ false → server_with own shut server piece ≡ server
  server_apart None shut server is = refl
  server_apart (Some own) true server is = refl
  server_apart (Some own) false server is = ap (λ l. server ++ l) (piece_apart own is) ∙ append-nil server

  -- a piece closes no side
  still : (shut : Bool) → (shut || false) ≡ shut
  still true = refl
  still false = refl

  pub shut_piece : (own : Option ℕ) (shut : Bool) → shut_with own shut piece ≡ shut
  shut_piece None shut = refl
  shut_piece (Some own) shut = still shut

  -- ---- where no flow uses a side: the parked one is none of the piece, or its keeping has ended

  pub data Aside (parked : Option Parked) (server : List ℕ) (shut : Bool) : Type 0 where
    not_its : is_of (side_parked parked) side ≡ false → Aside parked server shut
    not_silent : is_silent server shut ≡ false → Aside parked server shut

  -- So it is as silent with the piece, and owes the same.
  pub record RestSame (parked : Option Parked) (server : List ℕ) (shut : Bool) : Type 0 where
    pub silent : is_silent (server_with (side_parked parked) shut server piece) (shut_with (side_parked parked) shut piece) ≡ is_silent server shut
    pub stray : (client client' : List ℕ) (told now : ℕ) →
        shut_stray parked (make client false (server_with (side_parked parked) shut server piece) (shut_with (side_parked parked) shut piece) told now)
        ≡ shut_stray parked (make client' false server shut told now)

  apart_rest : (parked : Option Parked) (server : List ℕ) (shut : Bool) → is_of (side_parked parked) side ≡ false → RestSame parked server shut
  apart_rest None server shut is = record { silent = refl; stray = λ client client' told now. refl }
  apart_rest (Some parked) server shut is = record {
    silent = ap (λ l. is_silent l (shut_with (Some parked.server) shut piece)) (server_apart (Some parked.server) shut server is) ∙ ap (λ b. is_silent server b) (still shut);
    stray = λ client client' told now. ap (λ l. shut_by_byte parked.server l) (server_apart (Some parked.server) shut server is);
  }

  spoilt_rest : (parked : Option Parked) (server : List ℕ) (shut : Bool) → is_silent server shut ≡ false → RestSame parked server shut
  spoilt_rest None server shut is = record { silent = refl; stray = λ client client' told now. refl }
  spoilt_rest (Some parked) server true is = record { silent = refl; stray = λ client client' told now. refl }
  spoilt_rest (Some parked) [] false is = absurd (let e : true ≡ false = is in cc)
  spoilt_rest (Some parked) (byte ∷ server) false is = record { silent = refl; stray = λ client client' told now. refl }

  pub rest_same : (parked : Option Parked) (server : List ℕ) (shut : Bool) → Aside parked server shut → RestSame parked server shut
  rest_same parked server shut (not_its is) = apart_rest parked server shut is
  rest_same parked server shut (not_silent is) = spoilt_rest parked server shut is

  -- a parked side of which a byte is heard is silent no more
  pub spoilt_by : (own : ℕ) (shut : Bool) (server : List ℕ) (byte : ℕ) (more : List ℕ) → bytes ≡ byte ∷ more → is_of (Some own) side ≡ true →
      is_silent (server_with (Some own) shut server piece) (shut_with (Some own) shut piece) ≡ false
  spoilt_by own true server byte more is own_piece = shut_spoilt server
    where
      shut_spoilt : (l : List ℕ) → is_silent l true ≡ false
      shut_spoilt [] = refl
      shut_spoilt (first ∷ rest) = refl
  spoilt_by own false (first ∷ server) byte more is own_piece = refl
  spoilt_by own false [] byte more is own_piece =
      ap (λ (b : Bool). is_silent (if b then bytes else []) false) own_piece ∙ ap (λ l. is_silent l false) is

  -- ---- where a flow uses one: it is none of the piece, or it is not kept

  pub data OwnAside (request : Request) (own : ℕ) (server : List ℕ) (shut : Bool) : Type 0 where
    other_side : is_of (Some own) side ≡ false → OwnAside request own server shut
    not_kept_so : keeps_own request (make [] false server shut 0 0) ≡ false → OwnAside request own server shut

  -- so it is where a piece may follow
  pub rests_aside : (stage : Stage) (parked : Option Parked) (server : List ℕ) (shut : Bool) (client : List ℕ) (told now : ℕ) → side_of stage ≡ side_parked parked →
      keeps_at stage (make client false server shut told now) ≡ is_silent server shut → MayBeFollowed side stage (make client false server shut told now) → Aside parked server shut
  rests_aside stage parked server shut client told now own keeps (apart is) = not_its (ap (λ l. is_of l side) (sym own) ∙ is)
  rests_aside stage parked server shut client told now own keeps (unkept is) = not_silent (sym keeps ∙ is)

  pub body_aside : (at : At) (flow : Flow) (own : ℕ) (how : Sent) (most : Option ℕ) (client server : List ℕ) (shut : Bool) (told now : ℕ) →
      MayBeFollowed side (busy at flow (response_body own how most)) (make client false server shut told now) → OwnAside flow.request own server shut
  body_aside at flow own how most client server shut told now (apart is) = other_side is
  body_aside at flow own how most client server shut told now (unkept is) = not_kept_so is

-- of an item that is complete so many bytes are left as stand behind it
pub left_more : {H : Type 0} (item : Item H) (bytes more : List ℕ) →
    ((head : H) (body : Body) (trailers : List (List ℕ × List ℕ)) (size : ℕ) → item ≡ complete head body trailers size → size ≤ length bytes) →
    left_by item (bytes ++ more) ≡ left_by item bytes ++ more
left_more missing bytes more fits = refl
left_more (part head body) bytes more fits = refl
left_more (complete head body trailers size) bytes more fits = drop-append-le size bytes more (fits head body trailers size refl)
left_more (bad_head fault) bytes more fits = refl
left_more (bad_body fault head body) bytes more fits = refl

-- what is left behind the responses of a side, with more bytes behind it, where the final one is decided
pub left_with : (asked_head : Bool) (server more : List ℕ) → (answer_list asked_head false (server ++ more)).final ≡ (answer_list asked_head false server).final →
    (answer_list asked_head false (server ++ more)).used ≡ (answer_list asked_head false server).used →
    left_by_answers (answer_list asked_head false (server ++ more)) (server ++ more) ≡ left_by_answers (answer_list asked_head false server) server ++ more
left_with asked_head server more whole same =
    let before : Answers = answer_list asked_head false server in
    let after : Answers = answer_list asked_head false (server ++ more) in
    let fit = answers_used chunk_laws (length server) asked_head false server in
    let left = length-drop before.used server in
    ap (λ i. left_by i (drop after.used (server ++ more))) whole
    ∙ (ap (λ n. left_by before.final (drop n (server ++ more))) same
    ∙ (ap (λ l. left_by before.final l) (drop-append-le before.used server more fit.used)
    ∙ left_more before.final (drop before.used server) more
    (λ head body trailers size is. let both = fit.final head body trailers size is in let fits = both.1 in omega arith)))

-- with more behind them neither is silent
more_kept : (left more : List ℕ) (persists : Bool) → (is_silent left false && persists) ≡ false → (is_silent (left ++ more) false && persists) ≡ false
more_kept [] [] persists is = is
more_kept [] (byte ∷ more) persists is = refl
more_kept (byte ∷ left) more persists is = refl

-- what is heard of a server with more, behind its close nothing
abbrev pub later_server : Bool → List ℕ → List ℕ → List ℕ
later_server true server more = server
later_server false server more = server ++ more

module _ (request : Request) where
  -- by the bytes of its side and the close
  abbrev pub keeps_of : List ℕ → Bool → Item ReadResponse → Bool
  keeps_of server shut item = keeps_by request (make [] false server shut 0 0) item

  abbrev final_of : List ℕ → Item ReadResponse
  final_of server = (answer_list (is_head request.method) false server).final

  keeps_more : (server more : List ℕ) (item : Item ReadResponse) → final_of server ≡ item → keeps_of server false item ≡ false → keeps_of (server ++ more) false item ≡ false
  keeps_more server more missing is kept = refl
  keeps_more server more (part head body) is kept = refl
  keeps_more server more (complete head body trailers size) is kept =
      let asked_head : Bool = is_head request.method in
      let decided : is_decided (final_of server) ≡ true = ap (λ i. is_decided i) is in
      let carries = answers_carry chunk_laws asked_head false server more in
      let persists : Bool = sent_persists request && read_persists request head in
      ap (λ l. is_silent l false && persists)
      (left_with asked_head server more (carries.final.stays decided) (carries.begun (decided_begun (final_of server) decided)).1)
      ∙ more_kept (left_by_answers (answer_list asked_head false server) server) more persists kept
  keeps_more server more (bad_head fault) is kept = refl
  keeps_more server more (bad_body fault head body) is kept = refl

  -- The side is kept with the piece as without it.
  pub keeps_same : (side : Side) (bytes : List ℕ) (own : ℕ) (shut : Bool) (server : List ℕ) → OwnAside side bytes request own server shut →
      let item = (answer_list (is_head request.method) shut server).final in
      keeps_of (later_server shut server (piece_of (Server own) (events.Piece side bytes))) shut item ≡ keeps_of server shut item
  keeps_same side bytes own true server aside = refl
  keeps_same side bytes own false server (other_side is) =
      let item = final_of server in
      ap (λ l. keeps_of (server ++ l) false item) (piece_apart side bytes own is) ∙ ap (λ l. keeps_of l false item) (append-nil server)
  keeps_same side bytes own false server (not_kept_so is) = keeps_more server (piece_of (Server own) (events.Piece side bytes)) (final_of server) refl is ∙ sym is

-- a response that came is the final one, whole
pub came_keeps : (given : Option Response) (item : Item ReadResponse) (came : Came) → came_by given item ≡ Some came → (request : Request) (seen : Sight) →
    keeps_by request seen item ≡ keeps_side request seen came.head
came_keeps None item came is request seen = absurd (let e : None ≡ Some came = is in cc)
came_keeps (Some response) missing came is request seen = absurd (let e : None ≡ Some came = is in cc)
came_keeps (Some response) (part head body) came is request seen = absurd (let e : None ≡ Some came = is in cc)
came_keeps (Some response) (complete head body trailers size) came is request seen =
    let it : Came = record { response = response; head = head } in
    let same : it ≡ came = (let e : Some it ≡ Some came = is in cc) in
    ap (λ (c : Came). keeps_side request seen c.head) same
came_keeps (Some response) (bad_head fault) came is request seen = absurd (let e : None ≡ Some came = is in cc)
came_keeps (Some response) (bad_body fault head body) came is request seen = absurd (let e : None ≡ Some came = is in cc)

pub coming_kept : (given : Option Response) (item : Item ReadResponse) (came : Option Came) → came_by given item ≡ came → (request : Request) (seen : Sight) →
    keeps_by request seen item ≡ false → keeps_coming request seen came ≡ false
coming_kept given item None is request seen kept = refl
coming_kept given item (Some came) is request seen kept = sym (came_keeps given item came is request seen) ∙ kept

-- so where a response that came may be followed
pub coming_aside : (side : Side) (bytes : List ℕ) (at : At) (flow : Flow) (own : ℕ) (how : Sent) (client server : List ℕ) (shut : Bool) (told now : ℕ) →
    MayBeFollowed side (busy at flow (coming_down own how)) (make client false server shut told now) → (came : Came) → came_in flow (make client false server shut told now) ≡ Some came →
    OwnAside side bytes flow.request own server shut
coming_aside side bytes at flow own how client server shut told now (apart is) came at_it = other_side is
coming_aside side bytes at flow own how client server shut told now (unkept is) came at_it =
    let seen : Sight = make client false server shut told now in
    not_kept_so (came_keeps flow.response (answers_in flow.request seen).final came at_it flow.request seen
    ∙ (sym (ap (λ c. keeps_coming flow.request seen c) at_it) ∙ is))

-- ---- at any moment, and by the stage seen so

pub keeps_late : (stage : Stage) (seen : Sight) (late : ℕ) → keeps_at stage (record seen { now = late }) ≡ keeps_at stage seen
keeps_late (idle at) seen late = refl
keeps_late (busy at flow (request_body given most)) seen late = refl
keeps_late (busy at flow (connection how)) seen late = refl
keeps_late (busy at flow (response_head own how)) seen late = refl
keeps_late (busy at flow (response_body own how most)) seen late = refl
keeps_late (busy at flow (coming_down own how)) seen late = refl
keeps_late (busy at flow (upgraded own)) seen late = refl
keeps_late (busy at flow given_head) seen late = refl
keeps_late (busy at flow given_body) seen late = refl
keeps_late (next at) seen late = refl
keeps_late over seen late = refl

pub followed_late : (side : Side) (stage : Stage) (seen : Sight) (late : ℕ) → MayBeFollowed side stage seen → MayBeFollowed side stage (record seen { now = late })
followed_late side stage seen late (apart is) = apart is
followed_late side stage seen late (unkept is) = unkept (keeps_late stage seen late ∙ is)

keeps_retimed : (see : ℕ → ℕ) (stage : Stage) (seen : Sight) → keeps_at (retimed_stage see stage) seen ≡ keeps_at stage seen
keeps_retimed see (idle at) seen = refl
keeps_retimed see (busy at flow (request_body given most)) seen = refl
keeps_retimed see (busy at flow (connection how)) seen = refl
keeps_retimed see (busy at flow (response_head own how)) seen = refl
keeps_retimed see (busy at flow (response_body own how most)) seen = refl
keeps_retimed see (busy at flow (coming_down own how)) seen = refl
keeps_retimed see (busy at flow (upgraded own)) seen = refl
keeps_retimed see (busy at flow given_head) seen = refl
keeps_retimed see (busy at flow given_body) seen = refl
keeps_retimed see (next at) seen = refl
keeps_retimed see over seen = refl

pub followed_retimed : (see : ℕ → ℕ) (side : Side) (stage : Stage) (seen : Sight) → MayBeFollowed side stage seen → MayBeFollowed side (retimed_stage see stage) seen
followed_retimed see side stage seen (apart is) = apart (ap (λ own. is_of own side) (side_retimed see stage) ∙ is)
followed_retimed see side stage seen (unkept is) = unkept (keeps_retimed see stage seen ∙ is)

-- ---- on to the next flow

keeps_sequence : (stage : Stage) (seen : Sight) → keeps_at (sequence stage) seen ≡ keeps_at stage seen
keeps_sequence (idle at) seen = refl
keeps_sequence (busy at flow doing) seen = refl
keeps_sequence (next at) seen = refl
keeps_sequence over seen = refl

keeps_onward : (onward : Stage → Stage) → IsOnward onward → (stage : Stage) (seen : Sight) → keeps_at (onward stage) seen ≡ keeps_at stage seen
keeps_onward onward (is_alone is) stage seen = ap (λ f. keeps_at (f stage) seen) is
keeps_onward onward (is_sequence is) stage seen = ap (λ f. keeps_at (f stage) seen) is ∙ keeps_sequence stage seen

followed_onward : (onward : Stage → Stage) → IsOnward onward → (side : Side) (stage : Stage) (seen : Sight) → MayBeFollowed side stage seen → MayBeFollowed side (onward stage) seen
followed_onward onward goes side stage seen (apart is) = apart (ap (λ own. is_of own side) (side_onward onward goes stage) ∙ is)
followed_onward onward goes side stage seen (unkept is) = unkept (keeps_onward onward goes stage seen ∙ is)

-- ---- where it passes

-- behind a flow whose side is not kept none is open
unkept_behind : (side : Side) (stays kept : Bool) (place : Place) (at : At) (request : Request) (own : ℕ) → kept ≡ false →
    is_of (side_of (behind_flow stays (parks kept place at request own))) side ≡ false
unkept_behind side true true place at request own is = absurd (let e : true ≡ false = is in cc)
unkept_behind side true false place at request own is = refl
unkept_behind side false kept place at request own is = refl

pub and_false : (a b : Bool) → b ≡ false → (a && b) ≡ false
and_false true b is = is
and_false false b is = refl

module _ (terms : Terms) (side : Side) where
  -- a spoilt side takes no request
  spoilt_up : (silent : Bool) (at : At) (flow other : Flow) (v : Sight) → silent ≡ false → is_silent v.server v.shut ≡ false →
      keeps_at (goes_up_by (parked_for terms.place flow.request (unspoilt_by silent at.parked)) terms.place at other) v ≡ false
  spoilt_up true at flow other v none is = absurd (let e : true ≡ false = none in cc)
  spoilt_up false at flow other v none is = is

  going_kept : (up : Bool) (at : At) (flow : Flow) (most : Option ℕ) (v : Sight) → is_silent v.server v.shut ≡ false → keeps_at (pass_going up terms.place at flow most v) v ≡ false
  going_kept true at flow most v is = spoilt_up (is_silent v.server v.shut) at flow (sending_on flow) v is is
  going_kept false at flow most v is = is

  given_kept : (at : At) (flow : Flow) (response : Response) (most : Option ℕ) (item : Item ReadRequest) (now : ℕ) (v : Sight) → is_silent v.server v.shut ≡ false →
      keeps_at (pass_given at flow response most item now) v ≡ false
  given_kept at flow response most missing now v is = is
  given_kept at flow response most (part head body) now v is = is
  given_kept at flow response most (complete head body trailers used) now v is = is
  given_kept at flow response most (bad_head fault) now v is = is
  given_kept at flow response most (bad_body fault head body) now v is = is

  begin_kept : (stage : Stage) (v : Sight) → keeps_at stage v ≡ false → keeps_at (begin_up terms stage v) (sight_begun stage v) ≡ false
  begin_kept (idle at) v is = is
  begin_kept (busy at flow (request_body None most)) v is = going_kept (goes_up most v) at flow most v is
  begin_kept (busy at flow (request_body (Some response) most)) v is =
      given_kept at flow response most (request_in v) v.now (record v { client = left_by (request_in v) v.client }) is
  begin_kept (busy at flow (connection how)) v is = is
  begin_kept (busy at flow (response_head own how)) v is = is
  begin_kept (busy at flow (response_body own how most)) v is = is
  begin_kept (busy at flow (coming_down own how)) v is = is
  begin_kept (busy at flow (upgraded own)) v is = is
  begin_kept (busy at flow given_head) v is = is
  begin_kept (busy at flow given_body) v is = is
  begin_kept (next at) v is = is
  begin_kept over v is = is

  gone_kept : (at : At) (flow : Flow) (moment : ℕ) (doing : Doing) (v : Sight) (client : List ℕ) →
      let other : Flow = with_whole flow moment in keeps_at (busy at other (gone doing)) (record v { client = client }) ≡ keeps_at (busy at flow doing) v
  gone_kept at flow moment (request_body given most) v client = refl
  gone_kept at flow moment (connection how) v client = refl
  gone_kept at flow moment (response_head own how) v client = refl
  gone_kept at flow moment (response_body own how most) v client = refl
  gone_kept at flow moment (coming_down own how) v client = refl
  gone_kept at flow moment (upgraded own) v client = refl
  gone_kept at flow moment given_head v client = refl
  gone_kept at flow moment given_body v client = refl

  end_kept_by : (going : Option ℕ) (at : At) (flow : Flow) (doing : Doing) (v : Sight) →
      keeps_at (end_by going terms.place at flow doing v).stage (past_gone going v) ≡ keeps_at (busy at flow doing) v
  end_kept_by None at flow doing v = refl
  end_kept_by (Some server) at flow doing v = gone_kept at flow v.now doing v (left_by (request_in v) v.client)

  end_kept : (stage : Stage) (v : Sight) → keeps_at (end_up terms stage v).stage (sight_ended stage v) ≡ keeps_at stage v
  end_kept (idle at) v = refl
  end_kept (busy at flow doing) v = end_kept_by (gone_by (going_at doing) (whole_in v)) at flow doing v
  end_kept (next at) v = refl
  end_kept over v = refl

  came_kept : (at : At) (flow : Flow) (own : ℕ) (how : Sent) (v : Sight) (came : Option Came) → came_in flow v ≡ came → keeps_coming flow.request v came ≡ false →
      MayBeFollowed side (pass_came terms.place at flow own how v came).stage (past_came came v)
  came_kept at flow own how v None is kept = unkept (ap (λ c. keeps_coming flow.request v c) is)
  came_kept at flow own how v (Some came) is kept =
      let goes_on : Bool = is_sent how && goes_on_behind at.flow flow.request came in
      apart (unkept_behind side goes_on (keeps_came at flow how v came) terms.place at flow.request own (and_false goes_on (keeps_side flow.request v came.head) kept))

  down_kept : (streams : Bool) (at : At) (flow : Flow) (own : ℕ) (how : Sent) (most : Option ℕ) (v : Sight) → keeps_own flow.request v ≡ false →
      MayBeFollowed side (pass_kept streams terms.place at flow own how most v).stage (past_kept streams (came_in (streaming flow) v) v)
  down_kept true at flow own how most v kept =
      let came : Option Came = came_in (streaming flow) v in
      came_kept at (streaming flow) own how v came refl (coming_kept (streaming flow).response (answers_in flow.request v).final came refl flow.request v kept)
  down_kept false at flow own how most v kept = unkept kept

  come_kept : (stage : Stage) (v : Sight) → keeps_at stage v ≡ false → MayBeFollowed side (come_down terms stage v).stage (sight_come stage v)
  come_kept (idle at) v is = unkept is
  come_kept (busy at flow (request_body given most)) v is = unkept is
  come_kept (busy at flow (connection how)) v is = unkept is
  come_kept (busy at flow (response_head own how)) v is = unkept is
  come_kept (busy at flow (response_body own how most)) v is = down_kept (streams_in flow most v) at flow own how most v is
  come_kept (busy at flow (coming_down own how)) v is = came_kept at flow own how v (came_in flow v) refl is
  come_kept (busy at flow (upgraded own)) v is = unkept is
  come_kept (busy at flow given_head) v is = unkept is
  come_kept (busy at flow given_body) v is = unkept is
  come_kept (next at) v is = unkept is
  come_kept over v is = unkept is

  -- a piece of another side stays one
  apart_passed : (before : Option ℕ) (v : Sight) (to : Stage) (used : UsedBytes → UsedBytes) (past : Sight) → SidePassed before v to used past → is_of before side ≡ false →
      is_of (side_of to) side ≡ false
  apart_passed before v to used past (same_side same had server shut) is = ap (λ own. is_of own side) same ∙ is
  apart_passed before v to used past (side_kept request same had server shut) is = ap (λ own. is_of own side) same ∙ is
  apart_passed before v to used past (side_closed none had server shut) is = ap (λ own. is_of own side) none

  followed_pass : (stage : Stage) (v : Sight) → MayBeFollowed side stage v → MayBeFollowed side (pass terms stage v).stage (sight_past terms stage v)
  followed_pass stage v (apart is) =
      apart (apart_passed (side_of stage) v (pass terms stage v).stage (used_by_pass terms stage v) (sight_past terms stage v) (side_passed terms stage v) is)
  followed_pass stage v (unkept is) =
      let first : Stage = begin_up terms stage v in
      let left : Sight = sight_begun stage v in
      come_kept (end_up terms first left).stage (sight_ended first left) (end_kept first left ∙ begin_kept stage v is)

-- So it may follow where a place passes.
pub followed_passed : (see : ℕ → ℕ) (terms : Terms) (onward : Stage → Stage) → IsOnward onward → (side : Side) (s : Standing) (f : List (Timed Event)) →
    MayBeFollowed side s.stage (shown_over see s f) → MayBeFollowed side (passed_over onward terms s f).stage (shown_over see (passed_over onward terms s f) f)
followed_passed see terms onward goes side s f follows =
    let v : Sight = sight_over s f in
    let there : Standing = passed_over onward terms s f in
    let before : MayBeFollowed side s.stage v = followed_late side s.stage (shown_over see s f) v.now follows in
    let behind : MayBeFollowed side there.stage (sight_past terms s.stage v) =
    followed_onward onward goes side (pass terms s.stage v).stage (sight_past terms s.stage v) (followed_pass terms side s.stage v before) in
    followed_late side there.stage (sight_over there f) (moment_at see there.stage (sight_over there f).now)
    (subst (λ x. MayBeFollowed side there.stage x) (sym (sight_passed onward goes terms s f)) behind)

-- ---- where a reply leads

-- a piece of a server that was dialled is none of a later one
later_apart : (number dials : ℕ) (b : Bool) → number < dials → (number == dials) ≡ b → b ≡ false
later_apart number dials true less is = absurd (let same = eqb-true number dials is in omega arith)
later_apart number dials false less is = refl

new_apart : (side : Side) (at : At) (flow : Flow) (how : Sent) → MayBeHeard side (busy at flow (connection how)) → is_of (Some at.dials) side ≡ false
new_apart Client at flow how heard = refl
new_apart (Server number) at flow how heard = later_apart number at.dials (number == at.dials) heard refl

apart_from : (side : Side) (from : Stage) (later : Option ℕ) → IsSideFrom from later → MayBeHeard side from → is_of (side_of from) side ≡ false → is_of later side ≡ false
apart_from side from later (no_side none) heard is = ap (λ own. is_of own side) none
apart_from side from later (is_new at flow how same new) heard is =
    let P : Stage → Type 0 = λ s. MayBeHeard side s in
    ap (λ own. is_of own side) new ∙ new_apart side at flow how (subst P same heard)
apart_from side from later (same_server none same) heard is = ap (λ own. is_of own side) same ∙ is

-- so many servers were dialled, whichever is parked
heard_idle : (side : Side) (at : At) (parked : Option Parked) → MayBeHeard side (idle at) → MayBeHeard side (idle (record at { parked = parked }))
heard_idle Client at parked heard = tt
heard_idle (Server number) at parked heard = heard

pub heard_busy : (side : Side) (at : At) (parked : Option Parked) (flow : Flow) (doing : Doing) → MayBeHeard side (busy at flow doing) →
    MayBeHeard side (busy (record at { parked = parked }) flow doing)
heard_busy Client at parked flow doing heard = tt
heard_busy (Server number) at parked flow doing heard = heard

heard_next : (side : Side) (at : At) (parked : Option Parked) → MayBeHeard side (next at) → MayBeHeard side (next (record at { parked = parked }))
heard_next Client at parked heard = tt
heard_next (Server number) at parked heard = heard

module _ (terms : Terms) (side : Side) (moment : ℕ) where
  -- in the sight behind the reply
  abbrev FollowedAt : Stage → Sight → Stage → Type 0
  FollowedAt from v to = MayBeFollowed side to (sight_behind terms.place from v moment to)

  apart_turned : (stage : Stage) (v : Sight) (answer : Timed Reply) → MayBeHeard side stage → is_of (side_of stage) side ≡ false →
      is_of (side_of (turn terms stage v answer).stage) side ≡ false
  apart_turned stage v answer heard is = apart_from side stage (side_of (turn terms stage v answer).stage) (side_turned terms stage v answer) heard is

  -- a spoilt side is forgotten: as where none was parked
  module _ (made : At → Stage) (at : At) (v : Sight) (answer : Timed Reply) where
    abbrev none_at : At
    none_at = record at { parked = None }

    forgets : is_silent v.server v.shut ≡ false → ((a : At) → unspoilt (made a) v ≡ made (unspoilt_at a v)) →
        turn terms (made at) v answer ≡ turn terms (made none_at) v answer
    forgets is stays =
        let S : Bool → Turn Stage Command = λ b. turn_unspoilt terms (made (record at { parked = unspoilt_by b at.parked })) v answer in
        let T : Bool → Turn Stage Command = λ b. turn_unspoilt terms (made (record at { parked = unspoilt_by b None })) v answer in
        ap (λ s. turn_unspoilt terms s v answer) (stays at)
        ∙ (ap S is
        ∙ (sym (ap T is) ∙ sym (ap (λ s. turn_unspoilt terms s v answer) (stays none_at))))

    spoilt_turned : is_silent v.server v.shut ≡ false → ((a : At) → unspoilt (made a) v ≡ made (unspoilt_at a v)) → MayBeHeard side (made none_at) → is_of (side_of (made none_at)) side ≡ false →
        FollowedAt (made at) v (turn terms (made at) v answer).stage
    spoilt_turned is stays heard none =
        apart (ap (λ (t : Turn Stage Command). is_of (side_of t.stage) side) (forgets is stays) ∙ apart_turned (made none_at) v answer heard none)

  -- at a stage whose flow uses a side that is not kept
  head_taken : (at at' : At) (flow other : Flow) (own : ℕ) (how : Sent) (most : Option ℕ) (taken : Taken Response) (late : ℕ) (used : Used) (closed : Bool) (v : Sight) →
      keeps_own other.request v ≡ false → FollowedAt (busy at flow (response_head own how)) v (turn_taken_answer at' other own how most taken late used closed).stage
  head_taken at at' flow other own how most (GoesOn response) late used closed v kept = unkept kept
  head_taken at at' flow other own how most (Responds response) late used closed v kept = apart refl
  head_taken at at' flow other own how most Kills late used closed v kept = apart refl

  head_led : (at at' : At) (flow : Flow) (own : ℕ) (how : Sent) (head : ReadResponse) (v : Sight) (answer : Timed Reply) → keeps_own flow.request v ≡ false →
      FollowedAt (busy at flow (response_head own how)) v (turn_answer_head terms at' flow own how head v answer).stage
  head_led at at' flow own how head v answer kept =
      head_taken at at' flow (with_answer flow (response_of head) v.now) own how (allowed_by terms.streams answer.value) (taken_at_response_head (response_of head) answer.value) answer.moment
      (server_in own v) v.closed v kept

  answer_led : (at at' : At) (flow : Flow) (own : ℕ) (how : Sent) (item : Item ReadResponse) (v : Sight) (answer : Timed Reply) → keeps_own flow.request v ≡ false →
      FollowedAt (busy at flow (response_head own how)) v (turn_answer terms at' flow own how item v answer).stage
  answer_led at at' flow own how missing v answer kept = apart refl
  answer_led at at' flow own how (part head body) v answer kept = head_led at at' flow own how head v answer kept
  answer_led at at' flow own how (complete head body trailers size) v answer kept = head_led at at' flow own how head v answer kept
  answer_led at at' flow own how (bad_head fault) v answer kept = apart refl
  answer_led at at' flow own how (bad_body fault head body) v answer kept = head_led at at' flow own how head v answer kept

  module _ (from : Stage) (v : Sight) where
    response_led : (given : Option Response) (takes : Response → Taken Response) (goes : Taken Response → Turn Stage Command) → ((taken : Taken Response) → FollowedAt from v (goes taken).stage) →
        FollowedAt from v (turn_response given takes goes).stage
    response_led None takes goes each = apart refl
    response_led (Some response) takes goes each = each (takes response)

    finish_led : (switches : Bool) (at : At) (flow : Flow) (how : Sent) (response : Response) (keeps : Bool) (own : ℕ) (used : Used) (closed : Bool) → keeps ≡ false →
        FollowedAt from v (finish_by switches terms.place at flow how response keeps own used closed).stage
    finish_led true at flow how response keeps own used closed none = unkept refl
    finish_led false at flow how response keeps own used closed none =
        let goes_on : Bool = is_sent how && connection_goes_on at.flow flow.request response in
        apart (unkept_behind side goes_on (goes_on && keeps) terms.place at flow.request own (and_false goes_on keeps none))

    whole_led : (at : At) (flow : Flow) (own : ℕ) (how : Sent) (keeps : Bool) (taken : Taken Response) (late : ℕ) (used : Used) (closed : Bool) → keeps ≡ false →
        FollowedAt from v (turn_taken_whole terms.place at flow own how keeps taken late used closed).stage
    whole_led at flow own how keeps (GoesOn response) late used closed none = finish_led (is_sent how && response.status == 101) at flow how response keeps own used closed none
    whole_led at flow own how keeps (Responds response) late used closed none = apart refl
    whole_led at flow own how keeps Kills late used closed none = apart refl

    returned_led : (at : At) (flow : Flow) (own : ℕ) (how : Sent) (item : Item ReadResponse) (answer : Timed Reply) → keeps_by flow.request v item ≡ false →
        FollowedAt from v (turn_returned terms.place at flow own how item v answer).stage
    returned_led at flow own how missing answer kept = apart refl
    returned_led at flow own how (part head body) answer kept = apart refl
    returned_led at flow own how (complete head body trailers size) answer kept =
        let whole : Flow = with_returned flow body.content trailers v.now in
        let keeps : Bool = keeps_side flow.request v head in
        response_led whole.response (λ response. taken_at_response_body response answer.value)
        (λ taken. turn_taken_whole terms.place at whole own how keeps taken answer.moment (server_in own v) v.closed)
        (λ taken. whole_led at whole own how keeps taken answer.moment (server_in own v) v.closed kept)
    returned_led at flow own how (bad_head fault) answer kept = apart refl
    returned_led at flow own how (bad_body fault head body) answer kept = apart refl

  unkept_turned : (stage : Stage) (v : Sight) (answer : Timed Reply) → MayBeHeard side stage → keeps_at stage v ≡ false → FollowedAt stage v (turn terms stage v answer).stage
  unkept_turned (idle at) v answer heard is = spoilt_turned (λ a. idle a) at v answer is (λ a. refl) (heard_idle side at None heard) refl
  unkept_turned (busy at flow (request_body given most)) v answer heard is =
      spoilt_turned (λ a. busy a flow (request_body given most)) at v answer is (λ a. refl) (heard_busy side at None flow (request_body given most) heard) refl
  unkept_turned (busy at flow (connection how)) v answer heard is = spoilt_turned (λ a. busy a flow (connection how)) at v answer is (λ a. refl) (heard_busy side at None flow (connection how) heard) refl
  unkept_turned (busy at flow (response_head own how)) v answer heard is = answer_led at (unspoilt_at at v) flow own how (answers_in flow.request v).final v answer is
  unkept_turned (busy at flow (response_body own how most)) v answer heard is =
      returned_led (busy at flow (response_body own how most)) v (unspoilt_at at v) flow own how (answers_in flow.request v).final answer is
  unkept_turned (busy at flow (coming_down own how)) v answer heard is = apart refl
  unkept_turned (busy at flow (upgraded own)) v answer heard is = apart refl
  unkept_turned (busy at flow given_head) v answer heard is = spoilt_turned (λ a. busy a flow given_head) at v answer is (λ a. refl) (heard_busy side at None flow given_head heard) refl
  unkept_turned (busy at flow given_body) v answer heard is = spoilt_turned (λ a. busy a flow given_body) at v answer is (λ a. refl) (heard_busy side at None flow given_body heard) refl
  unkept_turned (next at) v answer heard is = spoilt_turned (λ a. next a) at v answer is (λ a. refl) (heard_next side at None heard) refl
  unkept_turned over v answer heard is = apart refl

  followed_turn : (stage : Stage) (v : Sight) (answer : Timed Reply) → MayBeHeard side stage → MayBeFollowed side stage v → FollowedAt stage v (turn terms stage v answer).stage
  followed_turn stage v answer heard (apart is) = apart (apart_turned stage v answer heard is)
  followed_turn stage v answer heard (unkept is) = unkept_turned stage v answer heard is

-- So it may where a reply leads.
pub followed_turned : (see : ℕ → ℕ) (terms : Terms) (onward : Stage → Stage) → IsOnward onward → (side : Side) (s : Standing) (f : List (Timed Event)) (answer : Timed Reply) →
    MayBeFollowed side s.stage (shown_over see s f) → MayBeHeard side s.stage →
    let there = stands terms s answer.moment f (onward (turn terms s.stage (sight_over s f) answer).stage) in
    MayBeFollowed side there.stage (shown_over see there f)
followed_turned see terms onward goes side s f answer follows heard =
    let v : Sight = sight_over s f in
    let led : Stage = (turn terms s.stage v answer).stage in
    let to : Stage = onward led in
    let there : Standing = stands terms s answer.moment f to in
    let before : MayBeFollowed side s.stage v = followed_late side s.stage (shown_over see s f) v.now follows in
    let behind : MayBeFollowed side to (sight_behind terms.place s.stage v answer.moment led) =
    followed_onward onward goes side led (sight_behind terms.place s.stage v answer.moment led) (followed_turn terms side answer.moment s.stage v answer heard before) in
    followed_late side to (sight_over there f) (moment_at see to (sight_over there f).now)
    (subst (λ x. MayBeFollowed side to x) (sym (behind_onward onward goes terms.place s.stage v answer.moment led) ∙ sym (sight_turned onward goes terms s f answer)) behind)
