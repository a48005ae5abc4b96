-- A piece that is cut in two, and two pieces the other way round.
use Rattle.std.proofs.Common.{◌≡◌, ℕ, ◌<◌, ◌≤◌, ◌==◌, Bool, true, false, List, [], ◌∷◌, ◌++◌, map, Option, Some, None, refl, ap, sym, ◌∙◌, subst, arith, nat_lt, append_assoc}
use Rattle.std.specs.Prelude.{◌||◌, if◌then◌else◌}
use Rattle.std.proofs.lemmas.Bool.{eq-eqb, eqb-true, ltb-false, ltb-true}
use Rattle.std.proofs.lemmas.List.{append-nil}
use Rattle.px_message.specs.declared.flow.Flow.{Flow}
use Rattle.px_message.specs.declared.flow.FlowError.{FlowError}
use Rattle.px_event.specs.declared.command.Command.{Command}
use Rattle.px_event.specs.declared.command.Command.TheVariants as commands
use Rattle.px_event.specs.declared.event.Event.{Event}
use Rattle.px_event.specs.declared.event.Event.TheVariants as events
use Rattle.px_event.specs.declared.reply.Reply.{Reply}
use Rattle.px_event.specs.declared.side.Side.{Side}
use Rattle.px_event.specs.declared.side.Side.TheVariants.{Client, Server}
use Rattle.px_event.specs.Alike.{front_with, MayCome}
use Rattle.px_event.specs.Chain.{later, Look, NotYet, Stamp, Stamped, Stop, Timed, worked_off}
use Rattle.px_event.specs.Laws.{IsFound}
use Rattle.px_event.specs.Trace.{is_same_side}
use Rattle.px_exchange.specs.declared.terms.Terms.{Terms}
use Rattle.px_cuts.specs.Alike.{HeardEarly, MayBeFollowed, MayWait, NoneBegins, apart, for_nothing, keeps_at, on_from, unkept}
use Rattle.px_cuts.proofs.AlikeLaws.{is_found_seen}
use Rattle.px_chain.specs.Chain.{look, pass, IsOnward}
use Rattle.px_chain.specs.Sights.{Sight, Standing, server_with, shut_with, sight_over, sight_with}
use Rattle.px_cuts.proofs.NextLaws.{beside_more, beside_none, still_unkept}
use Rattle.px_cuts.proofs.QuietLaws.{BeginsNot, goes_more, no_piece, none_settled}
use Rattle.px_cuts.proofs.BesideLaws.{not_both}
use Rattle.px_cuts.proofs.FollowLaws.{server_apart, shut_piece, spoilt_by}
use Rattle.px_chain.specs.Coming.{came_in}
use Rattle.px_chain.specs.Keeping.{is_silent}
use Rattle.px_message.specs.declared.request.Request.{Request}
use Rattle.px_cuts.specs.Cuts.{AlikeSeen, DialledBefore, IsDialled, IsNoEarlier, IsNotParked, MayBeHeard, MayFollow, MayStand, MayWaitFor, NoneGoesUp, as_it_is, is_of, keeps_behind, keeps_coming, keeps_own, no_byte, no_moment, not_kept, of_other, piece_at, retimed, retimed_error, retimed_flow, retimed_option, seen_with}
use Rattle.px_chain.specs.Stages.{Parked, Stage, busy, coming_down, connection, given_body, given_head, idle, next, over, place_of, request_body, response_body, response_head, side_of, side_parked, upgraded}
use Rattle.px_chain.proofs.ChainLaws.{open_still}
use Rattle.px_chain.proofs.FrontLaws.{closed_more}
use Rattle.px_cuts.specs.Shown.{hears, look_over, moment_at, passed_over, retimed_stage, shown_over}
use Rattle.px_cuts.proofs.PlaceLaws.{make, make_eq, may_more, moment_alike, passed_shown, shown_more, passed_stage, sight_on}
use Rattle.px_cuts.proofs.ShownLaws.{look_shown, retimed_look}
use Rattle.px_chain.specs.Streams.{client_closed}

-- ---- bytes in two pieces

joined : (own : Bool) (before bytes more : List ℕ) →
    (before ++ (if own then bytes else [])) ++ (if own then more else []) ≡ before ++ (if own then bytes ++ more else [])
joined true before bytes more = append_assoc before bytes more
joined false before bytes more = append-nil (before ++ [])

twice_open : (closed : Bool) → ((closed || false) || false) ≡ (closed || false)
twice_open true = refl
twice_open false = refl

server_joined : (l : Option ℕ) (shut : Bool) (server : List ℕ) (side : Side) (bytes more : List ℕ) →
    server_with l (shut_with l shut (events.Piece side bytes)) (server_with l shut server (events.Piece side bytes)) (events.Piece side more)
    ≡ server_with l shut server (events.Piece side (bytes ++ more))
server_joined None shut server side bytes more = refl
server_joined (Some own) true server side bytes more = refl
server_joined (Some own) false server side bytes more = joined (is_same_side side (Server own)) server bytes more

shut_joined : (l : Option ℕ) (shut : Bool) (side other : Side) (bytes more : List ℕ) (whole : List ℕ) →
    shut_with l (shut_with l shut (events.Piece side bytes)) (events.Piece other more) ≡ shut_with l shut (events.Piece side whole)
shut_joined None shut side other bytes more whole = refl
shut_joined (Some own) shut side other bytes more whole = twice_open shut

-- what is seen behind both pieces is what is seen behind the whole
cut_shown : (own : Option ℕ) (v : Sight) (side : Side) (bytes more : List ℕ) (now other : ℕ) → now ≡ other →
    hears own (sight_with own v (events.Piece side bytes) now) (events.Piece side more) ≡ sight_with own v (events.Piece side (bytes ++ more)) other
cut_shown own v side bytes more now other same =
    make_eq _ _ _ _ _ _ _ _ _ _ now other (joined (is_same_side side Client) v.client bytes more) (twice_open v.closed)
    (server_joined own v.shut v.server side bytes more) (shut_joined own v.shut side side bytes more (bytes ++ more)) refl same

-- ---- pieces of two sides

same_number : (a b c : ℕ) → a ≡ c → b ≡ c → (a == b) ≡ true
same_number a b c one two = eq-eqb a b (one ∙ sym two)

-- no side is both
not_both_sides : (side other third : Side) → is_same_side side other ≡ false → is_same_side side third ≡ true → is_same_side other third ≡ true → ⊥
not_both_sides Client Client third two is at = absurd (let e : true ≡ false = two in cc)
not_both_sides Client (Server b) Client two is at = absurd (let e : false ≡ true = at in cc)
not_both_sides Client (Server b) (Server c) two is at = absurd (let e : false ≡ true = is in cc)
not_both_sides (Server a) Client Client two is at = absurd (let e : false ≡ true = is in cc)
not_both_sides (Server a) Client (Server c) two is at = absurd (let e : false ≡ true = at in cc)
not_both_sides (Server a) (Server b) Client two is at = absurd (let e : false ≡ true = is in cc)
not_both_sides (Server a) (Server b) (Server c) two is at = absurd (let e : true ≡ false = sym (same_number a b c (eqb-true a c is) (eqb-true b c at)) ∙ two in cc)

either_way : (own its : Bool) (before bytes more : List ℕ) → (own ≡ true → its ≡ true → ⊥) →
    (before ++ (if its then more else [])) ++ (if own then bytes else []) ≡ (before ++ (if own then bytes else [])) ++ (if its then more else [])
either_way true true before bytes more two = absurd (two refl refl)
either_way true false before bytes more two = ap (λ l. l ++ bytes) (append-nil before) ∙ sym (append-nil (before ++ bytes))
either_way false true before bytes more two = append-nil (before ++ more) ∙ ap (λ l. l ++ more) (sym (append-nil before))
either_way false false before bytes more two = refl

server_either : (l : Option ℕ) (shut : Bool) (server : List ℕ) (side other : Side) (bytes more : List ℕ) → is_same_side side other ≡ false →
    server_with l (shut_with l shut (events.Piece other more)) (server_with l shut server (events.Piece other more)) (events.Piece side bytes)
    ≡ server_with l (shut_with l shut (events.Piece side bytes)) (server_with l shut server (events.Piece side bytes)) (events.Piece other more)
server_either None shut server side other bytes more two = refl
server_either (Some own) true server side other bytes more two = refl
server_either (Some own) false server side other bytes more two =
    either_way (is_same_side side (Server own)) (is_same_side other (Server own)) server bytes more (not_both_sides side other (Server own) two)

shut_either : (l : Option ℕ) (shut : Bool) (side other : Side) (bytes more : List ℕ) →
    shut_with l (shut_with l shut (events.Piece other more)) (events.Piece side bytes)
    ≡ shut_with l (shut_with l shut (events.Piece side bytes)) (events.Piece other more)
shut_either None shut side other bytes more = refl
shut_either (Some own) shut side other bytes more = refl

swap_shown : (own : Option ℕ) (v : Sight) (side other : Side) (bytes more : List ℕ) (a b now : ℕ) → is_same_side side other ≡ false → a ≡ now →
    hears own (sight_with own v (events.Piece other more) a) (events.Piece side bytes) ≡ sight_with own (sight_with own v (events.Piece side bytes) b) (events.Piece other more) now
swap_shown own v side other bytes more a b now two same =
    make_eq _ _ _ _ _ _ _ _ _ _ a now (either_way (is_same_side side Client) (is_same_side other Client) v.client bytes more (not_both_sides side other Client two)) refl
    (server_either own v.shut v.server side other bytes more two) (shut_either own v.shut side other bytes more) refl same

-- ---- where nothing was found, and one event more was worked off

pub still_open : (prefix : List (Timed Event)) (moment : ℕ) (side : Side) (bytes : List ℕ) → client_closed prefix ≡ false →
    client_closed (prefix ++ record { moment = moment; value = events.Piece side bytes } ∷ []) ≡ false
still_open prefix moment side bytes open_client = closed_more Client prefix (record { moment = moment; value = events.Piece side bytes }) open_client ∙ rw open_client refl

-- ---- a piece of a server that was not dialled

dialled_by : (server : ℕ) (s : Stage) → server < (place_of s).dials → IsDialled server s
dialled_by server (idle at) is = is
dialled_by server (busy at flow doing) is = is
dialled_by server (next at) is = is
dialled_by server over is = tt

other_piece : (server other : ℕ) (bytes : List ℕ) (b : Bool) → other < server → (server == other) ≡ b → (if b then bytes else []) ≡ []
other_piece server other bytes true less is = absurd (let same = eqb-true server other is in omega arith)
other_piece server other bytes false less is = refl

stays_open : (closed : Bool) → (closed || false) ≡ closed
stays_open true = refl
stays_open false = refl

server_unheard : (l : Option ℕ) (dials : ℕ) (shut : Bool) (heard : List ℕ) (server : ℕ) (bytes : List ℕ) → DialledBefore l dials → dials ≤ server →
    server_with l shut heard (events.Piece (Server server) bytes) ≡ heard
server_unheard None dials shut heard server bytes before late = refl
server_unheard (Some own) dials true heard server bytes before late = refl
server_unheard (Some own) dials false heard server bytes before late =
    let was : own < dials = before in
    ap (λ l. heard ++ l) (other_piece server own bytes (server == own) (omega arith) refl) ∙ append-nil heard

shut_unheard : (l : Option ℕ) (shut : Bool) (server : ℕ) (bytes : List ℕ) → shut_with l shut (events.Piece (Server server) bytes) ≡ shut
shut_unheard None shut server bytes = refl
shut_unheard (Some own) shut server bytes = stays_open shut

-- the sight is the same with it, but for the moment
unheard_by : (own : Option ℕ) (dials : ℕ) (v : Sight) (server : ℕ) (bytes : List ℕ) → DialledBefore own dials → dials ≤ server →
    sight_with own v (events.Piece (Server server) bytes) v.now ≡ v
unheard_by own dials v server bytes before late =
    make_eq _ _ _ _ _ _ _ _ _ _ v.now v.now (append-nil v.client) (stays_open v.closed) (server_unheard own dials v.shut v.server server bytes before late) (shut_unheard own v.shut server bytes) refl refl

-- what is seen with a piece without bytes
pub empty_sight : (own : Option ℕ) (v : Sight) (side : Side) (bytes : List ℕ) (now other : ℕ) → bytes ≡ [] → now ≡ other → sight_with own v (events.Piece side bytes) now ≡ record v { now = other }
empty_sight own v side bytes now other none same =
    make_eq _ _ _ _ _ _ _ _ _ _ now other (ap (λ l. v.client ++ l) (no_piece side Client bytes none) ∙ append-nil v.client) (stays_open v.closed)
    (empty_server own v.shut v.server) (shut_piece side bytes own v.shut) refl same
  where
    empty_server : (l : Option ℕ) (shut : Bool) (server : List ℕ) → server_with l shut server (events.Piece side bytes) ≡ server
    empty_server None shut server = refl
    empty_server (Some number) true server = refl
    empty_server (Some number) false server = ap (λ l. server ++ l) (no_piece side (Server number) bytes none) ∙ append-nil server

-- ---- behind the first half of a piece

-- the second may follow, or the first brings nothing and no request begins to go up
data Half (side : Side) (bytes : List ℕ) (stage : Stage) (w : Sight) : Type 0 where
  followed : MayBeFollowed side stage w → Half side bytes stage w
  empty : bytes ≡ [] → NoneBegins stage w → Half side bytes stage w

-- the first brings nothing, or its side is silent no more
data Rested (bytes : List ℕ) (silent : Bool) : Type 0 where
  brings_none : bytes ≡ [] → Rested bytes silent
  spoils : silent ≡ false → Rested bytes silent

module _ (side : Side) (bytes : List ℕ) where
  abbrev half : Event
  half = events.Piece side bytes

  rested_by : (parked : Option Parked) (shut : Bool) (server l : List ℕ) → bytes ≡ l → is_of (side_parked parked) side ≡ true →
      Rested bytes (is_silent (server_with (side_parked parked) shut server half) (shut_with (side_parked parked) shut half))
  rested_by None shut server l is own_piece = absurd (let e : false ≡ true = own_piece in cc)
  rested_by (Some parked) shut server [] is own_piece = brings_none is
  rested_by (Some parked) shut server (byte ∷ l) is own_piece = spoils (spoilt_by side bytes parked.server shut server byte l is own_piece)

  module _ (more : List ℕ) (v : Sight) (moment : ℕ) where
    abbrev heard_at : Stage → Sight
    heard_at stage = sight_with (side_of stage) v half moment

    rests_by : (stage : Stage) → keeps_at stage (heard_at stage) ≡ is_silent (heard_at stage).server (heard_at stage).shut → (bytes ≡ [] → NoneBegins stage (heard_at stage)) →
        Rested bytes (is_silent (heard_at stage).server (heard_at stage).shut) → Half side bytes stage (heard_at stage)
    rests_by stage keeps begins (brings_none none) = empty none (begins none)
    rests_by stage keeps begins (spoils is) = followed (unkept (keeps ∙ is))

    own_half : (stage : Stage) → is_of (side_of stage) side ≡ true → BeginsNot stage v → keeps_behind stage (sight_with (side_of stage) v half v.now) ≡ false → Half side bytes stage (heard_at stage)
    own_half (idle at) own_piece none kept = rests_by (idle at) refl (λ is. tt) (rested_by at.parked v.shut v.server bytes refl own_piece)
    own_half (busy at flow (request_body None most)) own_piece none kept =
        rests_by (busy at flow (request_body None most)) refl (λ is. goes_more most (side_parked at.parked) v side bytes moment is none) (rested_by at.parked v.shut v.server bytes refl own_piece)
    own_half (busy at flow (request_body (Some response) most)) own_piece none kept =
        rests_by (busy at flow (request_body (Some response) most)) refl (λ is. tt) (rested_by at.parked v.shut v.server bytes refl own_piece)
    own_half (busy at flow (connection how)) own_piece none kept = rests_by (busy at flow (connection how)) refl (λ is. tt) (rested_by at.parked v.shut v.server bytes refl own_piece)
    own_half (busy at flow (response_head own how)) own_piece none kept = followed (unkept kept)
    own_half (busy at flow (response_body own how most)) own_piece none kept = followed (unkept kept)
    own_half (busy at flow (coming_down own how)) own_piece none kept = followed (unkept kept)
    own_half (busy at flow (upgraded own)) own_piece none kept = followed (unkept refl)
    own_half (busy at flow given_head) own_piece none kept = rests_by (busy at flow given_head) refl (λ is. tt) (rested_by at.parked v.shut v.server bytes refl own_piece)
    own_half (busy at flow given_body) own_piece none kept = rests_by (busy at flow given_body) refl (λ is. tt) (rested_by at.parked v.shut v.server bytes refl own_piece)
    own_half (next at) own_piece none kept = rests_by (next at) refl (λ is. tt) (rested_by at.parked v.shut v.server bytes refl own_piece)
    own_half over own_piece none kept = followed (unkept refl)

    half_by : (stage : Stage) (b : Bool) → is_of (side_of stage) side ≡ b → BeginsNot stage v → keeps_behind stage (sight_with (side_of stage) v half v.now) ≡ false → Half side bytes stage (heard_at stage)
    half_by stage true is none kept = own_half stage is none kept
    half_by stage false is none kept = followed (apart is)

half_at : (side : Side) (bytes more : List ℕ) (stage : Stage) (v : Sight) (moment : ℕ) → BeginsNot stage v → (more ≡ [] → ⊥) →
    MayFollow side more stage (sight_with (side_of stage) v (events.Piece side bytes) v.now) → Half side bytes stage (sight_with (side_of stage) v (events.Piece side bytes) moment)
half_at side bytes more stage v moment none some (of_other is) = followed (apart is)
half_at side bytes more stage v moment none some (no_byte is) = absurd (some is)
half_at side bytes more stage v moment none some (not_kept is) = half_by side bytes more v moment stage (is_of (side_of stage) side) refl none is

-- ---- a piece behind one of another side

other_way : (side other : Side) → is_same_side side other ≡ false → is_same_side other side ≡ false
other_way Client Client two = two
other_way Client (Server b) two = refl
other_way (Server a) Client two = refl
other_way (Server a) (Server b) two = by_number (b == a) refl
  where
    by_number : (c : Bool) → (b == a) ≡ c → c ≡ false
    by_number true is = absurd (let e : true ≡ false = sym (eq-eqb a b (sym (eqb-true b a is))) ∙ two in cc)
    by_number false is = refl

module _ (side other : Side) (bytes : List ℕ) (v : Sight) (moment : ℕ) where
  -- where the first is none of the side, that is kept with it as without it
  own_same : (own : ℕ) (request : Request) → is_of (Some own) side ≡ false → keeps_own request (sight_with (Some own) v (events.Piece side bytes) moment) ≡ keeps_own request v
  own_same own request is =
      ap (λ l. keeps_own request (make [] false l (shut_with (Some own) v.shut (events.Piece side bytes)) 0 0)) (server_apart side bytes (Some own) v.shut v.server is)
      ∙ ap (λ b. keeps_own request (make [] false v.server b 0 0)) (shut_piece side bytes (Some own) v.shut)

  coming_same : (own : ℕ) (flow : Flow) → is_of (Some own) side ≡ false →
      (let w = sight_with (Some own) v (events.Piece side bytes) moment in keeps_coming flow.request w (came_in flow w)) ≡ keeps_coming flow.request v (came_in flow v)
  coming_same own flow is =
      let f : List ℕ → Bool → Bool = λ l b. let w : Sight = make [] false l b 0 0 in keeps_coming flow.request w (came_in flow w) in
      ap (λ l. f l (shut_with (Some own) v.shut (events.Piece side bytes))) (server_apart side bytes (Some own) v.shut v.server is)
      ∙ ap (λ b. f v.server b) (shut_piece side bytes (Some own) v.shut)

  -- not the side of both
  not_its_own : (own : ℕ) → is_same_side side other ≡ false → is_of (Some own) other ≡ true → (b : Bool) → is_of (Some own) side ≡ b → b ≡ false
  not_its_own own two is true own_piece = absurd (not_both_sides side other (Server own) two own_piece is)
  not_its_own own two is false own_piece = refl

  swap_own : (stage : Stage) → is_same_side side other ≡ false → IsNotParked other stage → keeps_behind stage v ≡ false → is_of (side_of stage) other ≡ true →
      MayBeFollowed other stage (sight_with (side_of stage) v (events.Piece side bytes) moment)
  swap_own (idle at) two aside kept is = absurd (not_both (is_of (side_parked at.parked) other) aside is)
  swap_own (busy at flow (request_body given most)) two aside kept is = absurd (not_both (is_of (side_parked at.parked) other) aside is)
  swap_own (busy at flow (connection how)) two aside kept is = absurd (not_both (is_of (side_parked at.parked) other) aside is)
  swap_own (busy at flow (response_head own how)) two aside kept is = unkept (own_same own flow.request (not_its_own own two is (is_of (Some own) side) refl) ∙ kept)
  swap_own (busy at flow (response_body own how most)) two aside kept is = unkept (own_same own flow.request (not_its_own own two is (is_of (Some own) side) refl) ∙ kept)
  swap_own (busy at flow (coming_down own how)) two aside kept is = unkept (coming_same own flow (not_its_own own two is (is_of (Some own) side) refl) ∙ kept)
  swap_own (busy at flow (upgraded own)) two aside kept is = unkept refl
  swap_own (busy at flow given_head) two aside kept is = absurd (not_both (is_of (side_parked at.parked) other) aside is)
  swap_own (busy at flow given_body) two aside kept is = absurd (not_both (is_of (side_parked at.parked) other) aside is)
  swap_own (next at) two aside kept is = absurd (not_both (is_of (side_parked at.parked) other) aside is)
  swap_own over two aside kept is = unkept refl

  swap_by : (b : Bool) (stage : Stage) → is_of (side_of stage) other ≡ b → is_same_side side other ≡ false → IsNotParked other stage → keeps_behind stage v ≡ false →
      MayBeFollowed other stage (sight_with (side_of stage) v (events.Piece side bytes) moment)
  swap_by true stage is two aside kept = swap_own stage two aside kept is
  swap_by false stage is two aside kept = apart is

module _ (onward : Stage → Stage) (goes : IsOnward onward) (terms : Terms) (s : Standing) (prefix : List (Timed Event)) (e : Timed Event) (may : MayStand terms s prefix)
    (is : look_over terms s prefix ≡ NotYet) (settled : passed_over onward terms s prefix ≡ s) where
  abbrev longer : List (Timed Event)
  longer = prefix ++ e ∷ []

  unheard_shows : (server : ℕ) (bytes : List ℕ) → e.value ≡ events.Piece (Server server) bytes → (place_of s.stage).dials ≤ server →
      shown_over no_moment s longer ≡ shown_over no_moment s prefix
  unheard_shows server bytes piece late =
      let v : Sight = shown_over no_moment s prefix in
      shown_more no_moment terms s prefix e may (open_still terms s.stage (sight_over s prefix) is)
      ∙ (ap (λ x. sight_with (side_of s.stage) v x (moment_at no_moment s.stage e.moment)) piece
      ∙ (ap (λ n. sight_with (side_of s.stage) v (events.Piece (Server server) bytes) n) (moment_alike no_moment s.stage s.stage e.moment (sight_over s prefix).now refl refl)
      ∙ unheard_by (side_of s.stage) (place_of s.stage).dials v server bytes may.dialled late))

  -- what is found where it passed, but for moments
  found_passed : (f : List (Timed Event)) → retimed_look no_moment (look_over terms (passed_over onward terms s f) f)
      ≡ look terms (onward (pass terms (retimed_stage no_moment s.stage) (shown_over no_moment s f)).stage) (sight_on onward terms (retimed_stage no_moment s.stage) (shown_over no_moment s f))
  found_passed f =
      let there : Standing = passed_over onward terms s f in
      look_shown no_moment terms there.stage (sight_over there f)
      ∙ (ap (λ x. look terms x (shown_over no_moment there f)) (passed_stage no_moment onward goes terms s.stage (sight_over s f))
      ∙ ap (λ v. look terms (onward (pass terms (retimed_stage no_moment s.stage) (shown_over no_moment s f)).stage) v) (passed_shown no_moment onward goes terms s f))

  -- nothing is found where no more is seen, but for moments
  same_finds : shown_over no_moment s longer ≡ shown_over no_moment s prefix → retimed_look no_moment (look_over terms (passed_over onward terms s longer) longer) ≡ NotYet
  same_finds same =
      found_passed longer
      ∙ (ap (λ v. look terms (onward (pass terms (retimed_stage no_moment s.stage) v).stage) (sight_on onward terms (retimed_stage no_moment s.stage) v)) same
      ∙ (sym (found_passed prefix)
      ∙ (ap (λ x. retimed_look no_moment (look_over terms x prefix)) settled ∙ ap (λ l. retimed_look no_moment l) is)))

  none_finds : shown_over no_moment s longer ≡ shown_over no_moment s prefix → IsFound (look_over terms (passed_over onward terms s longer) longer) → ⊥
  none_finds same found =
      let P : Look Command → Type 0 = IsFound in
      subst P (same_finds same) (is_found_seen no_moment (look_over terms (passed_over onward terms s longer) longer) found)

  server_heard : (server : ℕ) (bytes : List ℕ) (below : Bool) → e.value ≡ events.Piece (Server server) bytes → nat_lt server (place_of s.stage).dials ≡ below →
      IsFound (look_over terms (passed_over onward terms s longer) longer) → MayBeHeard (Server server) s.stage
  server_heard server bytes true piece at found = dialled_by server s.stage (ltb-true server (place_of s.stage).dials at)
  server_heard server bytes false piece at found = absurd (none_finds (unheard_shows server bytes piece (ltb-false server (place_of s.stage).dials at)) found)

  -- ---- a piece with one behind it of the same side

  -- without bytes it shows nothing
  empty_shows : (side : Side) (bytes : List ℕ) → e.value ≡ events.Piece side bytes → bytes ≡ [] → shown_over no_moment s longer ≡ shown_over no_moment s prefix
  empty_shows side bytes piece none =
      let own : Option ℕ = side_of s.stage in
      let v : Sight = shown_over no_moment s prefix in
      let moment : ℕ = moment_at no_moment s.stage e.moment in
      shown_more no_moment terms s prefix e may (open_still terms s.stage (sight_over s prefix) is)
      ∙ (ap (λ x. sight_with own v x moment) piece
      ∙ empty_sight own v side bytes moment v.now none (moment_alike no_moment s.stage s.stage e.moment (sight_over s prefix).now refl refl))

  -- So the second half may wait behind the first.
  may_wait : (see : ℕ → ℕ) (side : Side) (bytes more : List ℕ) → e.value ≡ events.Piece side bytes → (more ≡ [] → ⊥) →
      MayFollow side more s.stage (hears (side_of s.stage) (sight_over s prefix) (events.Piece side bytes)) → MayWait see onward terms side s longer
  may_wait see side bytes more is_piece some follows =
      let own : Option ℕ = side_of s.stage in
      let v : Sight = sight_over s prefix in
      let moment : ℕ = moment_at see s.stage e.moment in
      let shows : shown_over see s longer ≡ sight_with own v (events.Piece side bytes) moment =
      shown_more see terms s prefix e may (open_still terms s.stage v is) ∙ ap (λ x. sight_with own (shown_over see s prefix) x moment) is_piece in
      waits_by (half_at side bytes more s.stage v moment (none_settled terms onward goes s prefix settled) some follows) shows
    where
      waits_by : {w : Sight} → Half side bytes s.stage w → shown_over see s longer ≡ w → MayWait see onward terms side s longer
      waits_by (followed follows) shows = on_from (subst (λ x. MayBeFollowed side s.stage x) (sym shows) follows)
      waits_by (empty none begins) shows = for_nothing (none_finds (empty_shows side bytes is_piece none)) (subst (λ x. NoneBegins s.stage x) (sym shows) begins)

  -- A piece of another side may wait behind the first where its own is not parked.
  swap_waits : (see : ℕ → ℕ) (side other : Side) (bytes : List ℕ) → e.value ≡ events.Piece side bytes → is_same_side side other ≡ false → IsNotParked other s.stage → NoneGoesUp s.stage →
      MayWait see onward terms other s longer
  swap_waits see side other bytes is_piece two aside none =
      let own : Option ℕ = side_of s.stage in
      let v : Sight = sight_over s prefix in
      let moment : ℕ = moment_at see s.stage e.moment in
      let shows : shown_over see s longer ≡ sight_with own v (events.Piece side bytes) moment =
      shown_more see terms s prefix e may (open_still terms s.stage v is) ∙ ap (λ x. sight_with own (shown_over see s prefix) x moment) is_piece in
      on_from (subst (λ x. MayBeFollowed other s.stage x) (sym shows)
      (swap_by side other bytes v moment (is_of own other) s.stage refl two aside (still_unkept terms onward goes s prefix is settled none)))

  -- where something is found with a piece, its side may be heard
  found_heard : (side : Side) (bytes : List ℕ) → e.value ≡ events.Piece side bytes → IsFound (look_over terms (passed_over onward terms s longer) longer) → MayBeHeard side s.stage
  found_heard Client bytes piece found = tt
  found_heard (Server server) bytes piece found = server_heard server bytes (nat_lt server (place_of s.stage).dials) piece refl found

module _ (see : ℕ → ℕ) (onward : Stage → Stage) (goes : IsOnward onward) (terms : Terms) where
  abbrev HttpStop : Type 0
  HttpStop = Stop Standing Event Reply Command

  abbrev shown : Standing → List (Timed Event) → Sight
  shown s f = shown_over see s f

  -- behind the first half, the second may be taken early, to where the whole was worked off
  pub cut_early : (w : HttpStop) (first second stamp : Stamp) (side : Side) (bytes more : List ℕ) → MayStand terms w.stage w.prefix → look_over terms w.stage w.prefix ≡ NotYet →
      passed_over onward terms w.stage w.prefix ≡ w.stage → (more ≡ [] → ⊥) → MayFollow side more w.stage.stage (seen_with w (events.Piece side bytes)) → see (later w.last first).moment ≡ see (later w.last stamp).moment → see (later w.last second).moment ≡ see (later w.last first).moment →
      HeardEarly see onward terms (piece_at second side more) w.last w.stage (front_with w (piece_at first side bytes)) w.stage (front_with w (piece_at stamp side (bytes ++ more)))
  cut_early w first second stamp side bytes more may is settled some follows whole half =
      let open_client : client_closed w.prefix ≡ false = open_still terms w.stage.stage (sight_over w.stage w.prefix) is in
      let stage : Stage = w.stage.stage in
      let own : Option ℕ = side_of stage in
      let e : Timed Event = worked_off w.last (piece_at first side bytes) in
      let e' : Timed Event = worked_off w.last (piece_at stamp side (bytes ++ more)) in
      let shows = shown_more see terms w.stage w.prefix e may open_client in
      let shows' = shown_more see terms w.stage w.prefix e' may open_client in
      record {
        side = side;
        bytes = more;
        is_piece = refl;
        stages = refl;
        hears = ap (λ v. hears own v (events.Piece side more)) shows
            ∙ (cut_shown own (shown w.stage w.prefix) side bytes more (moment_at see stage e.moment) (moment_at see stage e'.moment) (moment_alike see stage stage e.moment e'.moment refl whole)
            ∙ sym shows');
        open_client = still_open w.prefix e.moment side bytes open_client;
        comes = moment_alike see stage stage (later w.last second).moment e.moment refl half ∙ sym (ap (λ v. v.now) shows);
        heard = found_heard onward goes terms w.stage w.prefix e may is settled side bytes refl;
        beside = beside_more see terms onward goes side bytes w.stage w.prefix e refl may is settled;
        waits = may_wait onward goes terms w.stage w.prefix e may is settled see side bytes more refl some follows;
        may = may_more terms w.stage w.prefix e may;
        other_may = may_more terms w.stage w.prefix e' may;
      }

  -- behind one piece, the other may be taken early
  pub next_early : (w : HttpStop) (first second : Stamp) (side other : Side) (bytes more : List ℕ) → MayStand terms w.stage w.prefix → look_over terms w.stage w.prefix ≡ NotYet →
      passed_over onward terms w.stage w.prefix ≡ w.stage → is_same_side side other ≡ false → IsNotParked other w.stage.stage → NoneGoesUp w.stage.stage → MayBeHeard other w.stage.stage → see (later w.last second).moment ≡ see (later w.last first).moment →
      HeardEarly see onward terms (piece_at second other more) w.last w.stage (front_with w (piece_at first side bytes))
      w.stage (front_with w (piece_at first side bytes) ++ worked_off w.last (piece_at second other more) ∷ [])
  next_early w first second side other bytes more may is settled two aside none heard half =
      let open_client : client_closed w.prefix ≡ false = open_still terms w.stage.stage (sight_over w.stage w.prefix) is in
      let stage : Stage = w.stage.stage in
      let own : Option ℕ = side_of stage in
      let e : Timed Event = worked_off w.last (piece_at first side bytes) in
      let e' : Timed Event = worked_off w.last (piece_at second other more) in
      let shows = shown_more see terms w.stage w.prefix e may open_client in
      let still = still_open w.prefix e.moment side bytes open_client in
      let there = may_more terms w.stage w.prefix e may in
      let v : Sight = shown w.stage (front_with w (piece_at first side bytes)) in
      let comes : moment_at see stage e'.moment ≡ v.now = moment_alike see stage stage e'.moment e.moment refl half ∙ sym (ap (λ x. x.now) shows) in
      record {
        side = other;
        bytes = more;
        is_piece = refl;
        stages = refl;
        hears = ap (λ n. sight_with own v (events.Piece other more) n) (sym comes) ∙ sym (shown_more see terms w.stage (front_with w (piece_at first side bytes)) e' there still);
        open_client = still;
        comes = comes;
        heard = λ found. heard;
        beside = beside_none other stage v none;
        waits = swap_waits onward goes terms w.stage w.prefix e may is settled see side other bytes refl two aside none;
        may = there;
        other_may = may_more terms w.stage (front_with w (piece_at first side bytes)) e' there;
      }

  -- and the other way round, to the same place
  pub swap_early : (w : HttpStop) (first second : Stamp) (side other : Side) (bytes more : List ℕ) → MayStand terms w.stage w.prefix → look_over terms w.stage w.prefix ≡ NotYet →
      passed_over onward terms w.stage w.prefix ≡ w.stage → is_same_side side other ≡ false → IsNotParked side w.stage.stage → NoneGoesUp w.stage.stage → MayBeHeard side w.stage.stage → see (later w.last second).moment ≡ see (later w.last first).moment →
      HeardEarly see onward terms (piece_at first side bytes) w.last w.stage (front_with w (piece_at second other more))
      w.stage (front_with w (piece_at first side bytes) ++ worked_off w.last (piece_at second other more) ∷ [])
  swap_early w first second side other bytes more may is settled two aside none heard half =
      let open_client : client_closed w.prefix ≡ false = open_still terms w.stage.stage (sight_over w.stage w.prefix) is in
      let stage : Stage = w.stage.stage in
      let own : Option ℕ = side_of stage in
      let e : Timed Event = worked_off w.last (piece_at first side bytes) in
      let e' : Timed Event = worked_off w.last (piece_at second other more) in
      let shows = shown_more see terms w.stage w.prefix e may open_client in
      let shows' = shown_more see terms w.stage w.prefix e' may open_client in
      let still = still_open w.prefix e.moment side bytes open_client in
      let there = may_more terms w.stage w.prefix e may in
      record {
        side = side;
        bytes = bytes;
        is_piece = refl;
        stages = refl;
        hears = ap (λ v. hears own v (events.Piece side bytes)) shows'
            ∙ (swap_shown own (shown w.stage w.prefix) side other bytes more (moment_at see stage e'.moment) (moment_at see stage e.moment) (moment_at see stage e'.moment) two refl
            ∙ (ap (λ v. sight_with own v (events.Piece other more) (moment_at see stage e'.moment)) (sym shows)
            ∙ sym (shown_more see terms w.stage (front_with w (piece_at first side bytes)) e' there still)));
        open_client = still_open w.prefix e'.moment other more open_client;
        comes = sym (moment_alike see stage stage e'.moment e.moment refl half) ∙ sym (ap (λ v. v.now) shows');
        heard = λ found. heard;
        beside = beside_none side stage (shown w.stage (front_with w (piece_at second other more))) none;
        waits = swap_waits onward goes terms w.stage w.prefix e' may is settled see other side more refl (other_way side other two) aside none;
        may = may_more terms w.stage w.prefix e' may;
        other_may = may_more terms w.stage (front_with w (piece_at first side bytes)) e' there;
      }

-- ---- where every moment is seen as it is

option_as_is : (o : Option ℕ) → retimed_option as_it_is o ≡ o
option_as_is None = refl
option_as_is (Some moment) = refl

error_as_is : (o : Option FlowError) → retimed_error as_it_is o ≡ o
error_as_is None = refl
error_as_is (Some error) = refl

flow_as_is : (flow : Flow) → retimed_flow as_it_is flow ≡ flow
flow_as_is flow =
    rw (error_as_is flow.error, option_as_is flow.times.request_end, option_as_is flow.times.response_start, option_as_is flow.times.response_end) refl

command_as_is : (c : Command) → retimed as_it_is c ≡ c
command_as_is (commands.Send side bytes) = refl
command_as_is (commands.Close side) = refl
command_as_is (commands.Dial server address inside) = refl
command_as_is (commands.Ask ask flow) = ap (λ f. commands.Ask ask f) (flow_as_is flow)
command_as_is (commands.Done flow) = ap (λ f. commands.Done f) (flow_as_is flow)

as_is : (owed : List Command) → map (retimed as_it_is) owed ≡ owed
as_is [] = refl
as_is (c ∷ owed) = ap (λ x. x ∷ map (retimed as_it_is) owed) (command_as_is c) ∙ ap (λ l. c ∷ l) (as_is owed)

pub equal : (owed other : List Command) → AlikeSeen as_it_is owed other → owed ≡ other
equal owed other is = sym (as_is owed) ∙ (is ∙ as_is other)

-- ---- replies that came no earlier

not_before : (a b : ℕ) (less : Bool) → b ≤ a → nat_lt a b ≡ less → less ≡ false
not_before a b true within is = absurd (let below = ltb-true a b is in omega arith)
not_before a b false within is = refl

-- it makes no difference to wait for one
pub waits_for : (event : Stamped Event) (reply : Stamped Reply) → IsNoEarlier event.stamp reply → (later reply.stamp event.stamp).moment ≡ reply.stamp.moment
waits_for event reply no_earlier = rw (not_before reply.stamp.step event.stamp.step (nat_lt reply.stamp.step event.stamp.step) no_earlier refl) refl

pub all_may_come : (event : Stamped Event) (replies : List (Stamped Reply)) → MayCome (IsNoEarlier event.stamp) replies →
    MayCome (MayWaitFor as_it_is event) replies
all_may_come event [] may = tt
all_may_come event (r ∷ replies) may = (waits_for event r may.0, all_may_come event replies may.1)

-- it makes none where no moment is seen
pub any_may_come : (event : Stamped Event) (replies : List (Stamped Reply)) → MayCome (MayWaitFor no_moment event) replies
any_may_come event [] = tt
any_may_come event (r ∷ replies) = (refl, any_may_come event replies)
