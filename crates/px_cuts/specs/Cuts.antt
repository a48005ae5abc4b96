-- However the network cuts the bytes into pieces, what is due is the same: the words of these laws.
use Rattle.std.specs.Prelude.{◌≡◌, ℕ, ◌<◌, ◌≤◌, Bool, true, false, ◌&&◌, List, [], ◌∷◌, ◌++◌, map, if◌then◌else◌, Option, Some, None, ⊤}
use Rattle.px_message.specs.declared.flow.Flow.{Flow}
use Rattle.px_message.specs.declared.flow.FlowError.{FlowError}
use Rattle.px_message.specs.declared.request.Request.{Request}
use Rattle.px_event.specs.declared.command.Command.{Command}
use Rattle.px_event.specs.declared.command.Command.TheVariants as commands
use Rattle.px_event.specs.declared.event.Event.{Event}
use Rattle.px_event.specs.declared.event.Event.TheVariants as events
use Rattle.px_event.specs.declared.reply.Reply.{Reply}
use Rattle.px_event.specs.declared.reply.Reply.TheVariants as replies
use Rattle.px_event.specs.declared.side.Side.{Side}
use Rattle.px_event.specs.declared.side.Side.TheVariants.{Client, Server}
use Rattle.px_event.specs.Chain.{later, NotYet, Stamp, Stamped, Stop, Timed, walk_from}
use Rattle.px_event.specs.Trace.{is_same_side}
use Rattle.px_read.specs.Items.{Item, complete}
use Rattle.px_read.specs.declared.head.ResponseHead.{ResponseHead as ReadResponse}
use Rattle.px_exchange.specs.declared.terms.Terms.{Terms}
use Rattle.px_exchange.specs.Endings.{read_persists, sent_persists}
use Rattle.px_chain.specs.Chain.{going_at, http_chain, look}
use Rattle.px_chain.specs.Coming.{Came, came_in}
use Rattle.px_chain.specs.Keeping.{keeps_side}
use Rattle.px_chain.specs.Sights.{IsWithin, Sight, Standing, answers_in, left_by_answers, sight_over, sight_with}
use Rattle.px_chain.specs.Stages.{At, Doing, Parked, Stage, busy, coming_down, idle, next, over, place_of, response_body, response_head, side_of, side_parked, upgraded}

-- ---- the moments inside what is owed, each seen through a function

abbrev pub retimed_option : (ℕ → ℕ) → Option ℕ → Option ℕ
retimed_option see None = None
retimed_option see (Some moment) = Some (see moment)

abbrev pub retimed_error : (ℕ → ℕ) → Option FlowError → Option FlowError
retimed_error see None = None
retimed_error see (Some error) = Some (record error { moment = see error.moment })

abbrev pub retimed_flow : (ℕ → ℕ) → Flow → Flow
retimed_flow see flow = record flow {
  error = retimed_error see flow.error;
  times = record {
    request_start = see flow.times.request_start;
    request_end = retimed_option see flow.times.request_end;
    response_start = retimed_option see flow.times.response_start;
    response_end = retimed_option see flow.times.response_end;
  };
}

abbrev pub retimed : (ℕ → ℕ) → Command → Command
retimed see (commands.Send side bytes) = commands.Send side bytes
retimed see (commands.Close side) = commands.Close side
retimed see (commands.Dial server address inside) = commands.Dial server address inside
retimed see (commands.Ask ask flow) = commands.Ask ask (retimed_flow see flow)
retimed see (commands.Done flow) = commands.Done (retimed_flow see flow)

-- equal, where each moment is seen so
abbrev pub AlikeSeen : (ℕ → ℕ) → List Command → List Command → Type 0
AlikeSeen see owed other = map (retimed see) owed ≡ map (retimed see) other

-- each moment is seen as it is
abbrev pub as_it_is : ℕ → ℕ
as_it_is moment = moment

-- no moment is seen
abbrev pub no_moment : ℕ → ℕ
no_moment moment = 0

-- Equal but for the moments inside flows: when a request began and ended, when its response did, and when an error came.
abbrev pub EqualButForMoments : List Command → List Command → Type 0
EqualButForMoments owed other = AlikeSeen no_moment owed other

-- ---- events without their cuts and moments

-- A piece takes the bytes of the one behind it, where both are of one side.
abbrev pub joined_onto : Event → List Event → List Event
joined_onto (events.Piece side bytes) (events.Piece other more ∷ rest) =
    if is_same_side side other then events.Piece side (bytes ++ more) ∷ rest else events.Piece side bytes ∷ events.Piece other more ∷ rest
joined_onto event rest = event ∷ rest

-- the events with all neighbouring pieces of a side joined
abbrev pub joined_pieces : List Event → List Event
joined_pieces [] = []
joined_pieces (event ∷ rest) = joined_onto event (joined_pieces rest)

-- what came, whenever it did
abbrev pub values_of : {A : Type 0} → List (Stamped A) → List A
values_of came = map (λ x. x.value) came

-- The same but for the steps, and for how the bytes of a side are cut into pieces.
abbrev pub SameStreams : List (Stamped Event) → List (Stamped Event) → Type 0
SameStreams these those = joined_pieces (values_of these) ≡ joined_pieces (values_of those)

-- ---- where and when pieces come

-- the side's server is among the first so many
abbrev pub DialledBefore : Option ℕ → ℕ → Type 0
DialledBefore None dials = ⊤
DialledBefore (Some side) dials = side < dials

-- The server was dialled by this stage. At the end it makes no difference.
abbrev pub IsDialled : ℕ → Stage → Type 0
IsDialled server over = ⊤
IsDialled server stage = server < (place_of stage).dials

-- the side that waits there for a flow: where a flow uses a side, none does
abbrev pub parked_in : At → Doing → Option Parked
parked_in at (response_head server sent) = None
parked_in at (response_body server sent most) = None
parked_in at (coming_down server sent) = None
parked_in at (upgraded server) = None
parked_in at doing = at.parked

abbrev pub parked_at : Stage → Option Parked
parked_at (idle at) = at.parked
parked_at (busy at flow doing) = parked_in at doing
parked_at (next at) = at.parked
parked_at over = None

-- the side is that of this server
abbrev pub is_of : Option ℕ → Side → Bool
is_of None side = false
is_of (Some server) side = is_same_side side (Server server)

-- The side is not parked there: what comes of it ends no keeping.
abbrev pub IsNotParked : Side → Stage → Type 0
IsNotParked side stage = is_of (side_parked (parked_at stage)) side ≡ false

-- the reply allows no size
abbrev pub AllowsNoSize : Reply → Type 0
AllowsNoSize (replies.Go flow most) = most ≡ None
AllowsNoSize reply = ⊤

-- none of them does
abbrev pub AllowNoSize : List (Stamped Reply) → Type 0
AllowNoSize [] = ⊤
AllowNoSize (r ∷ rs) = AllowsNoSize r.value × AllowNoSize rs

-- where nothing is streamed
abbrev pub all_kept : Terms → Terms
all_kept terms = record terms { streams = false }

-- no request goes up here
abbrev pub NoneGoesUp : Stage → Type 0
NoneGoesUp (busy at flow doing) = going_at doing ≡ None
NoneGoesUp stage = ⊤

-- A place that may stand over this prefix: it stands since an event of it, and so does its server's side, whose dial is
-- counted. Over no events it is one that counts none, as each at which a conversation begins.
pub record MayStand (terms : Terms) (place : Standing) (prefix : List (Timed Event)) : Type 0 where
  pub within : IsWithin place prefix
  pub dialled : DialledBefore (side_of place.stage) (place_of place.stage).dials

-- The side may have been heard where a conversation stands: it is the client's, or that of a server that was dialled, as
-- that of a parked side was.
abbrev pub MayBeHeard : Side → Stage → Type 0
MayBeHeard Client stage = ⊤
MayBeHeard (Server server) stage = IsDialled server stage

-- the reply came no earlier than this step
abbrev pub IsNoEarlier : Stamp → Stamped Reply → Type 0
IsNoEarlier stamp reply = stamp.step ≤ reply.stamp.step

-- of the moments, each seen so, it makes no difference that an event waits for this reply
abbrev pub MayWaitFor : (ℕ → ℕ) → Stamped Event → Stamped Reply → Type 0
MayWaitFor see event reply = see (later reply.stamp event.stamp).moment ≡ see reply.stamp.moment

-- the piece of a side that came in this step
abbrev pub piece_at : Stamp → Side → List ℕ → Stamped Event
piece_at stamp side bytes = record { stamp = stamp; value = events.Piece side bytes }

-- bytes of the side that came in their own step
abbrev pub as_piece : Side → Stamped (List ℕ) → Stamped Event
as_piece side bytes = piece_at bytes.stamp side bytes.value

-- ---- what stands behind a response

-- Two GETs of a client come at once, for one host, and of its server a whole response and then `X`. In one piece with that response `X` is stray, and
-- the side is closed. In the next piece it is heard when the second request has gone to the side, which was kept: so it begins the response to that.

-- where a walk stops
abbrev pub HttpStop : Type 0
HttpStop = Stop Standing Event Reply Command

-- The next event is heard there: nothing is found before it.
abbrev pub HearsNext : Terms → HttpStop → Type 0
HearsNext terms w = look terms w.stage.stage (sight_over w.stage w.prefix) ≡ NotYet

-- what is seen there with this event
abbrev pub seen_with : HttpStop → Event → Sight
seen_with w event = sight_with (side_of w.stage.stage) (sight_over w.stage w.prefix) event (sight_over w.stage w.prefix).now

-- a response that is whole, and behind which its side is kept
abbrev pub keeps_by : Request → Sight → Item ReadResponse → Bool
keeps_by request seen (complete head body trailers size) = keeps_side request seen head
keeps_by request seen item = false

-- the final one to this request
abbrev pub keeps_own : Request → Sight → Bool
keeps_own request seen = keeps_by request seen (answers_in request seen).final

-- one that is streamed
abbrev pub keeps_coming : Request → Sight → Option Came → Bool
keeps_coming request seen None = false
keeps_coming request seen (Some came) = keeps_side request seen came.head

-- the one that a flow awaits which uses a side
abbrev pub keeps_behind : Stage → Sight → Bool
keeps_behind (busy at flow (response_head server sent)) seen = keeps_own flow.request seen
keeps_behind (busy at flow (response_body server sent most)) seen = keeps_own flow.request seen
keeps_behind (busy at flow (coming_down server sent)) seen = keeps_coming flow.request seen (came_in flow seen)
keeps_behind stage seen = false

-- More of a side may follow what is seen. It is the client's, or of a server whose side is not open there; or it is no byte; or what is seen ends no
-- response behind which the side is kept.
pub data MayFollow (side : Side) (more : List ℕ) (stage : Stage) (seen : Sight) : Type 0 where
  of_other : is_of (side_of stage) side ≡ false → MayFollow side more stage seen
  no_byte : more ≡ [] → MayFollow side more stage seen
  not_kept : keeps_behind stage seen ≡ false → MayFollow side more stage seen

-- A piece may be cut in two where its first half is heard: the second may follow.
abbrev pub MayBeCut : Terms → HttpStop → Side → (bytes more : List ℕ) → Type 0
MayBeCut terms w side bytes more = HearsNext terms w → MayFollow side more w.stage.stage (seen_with w (events.Piece side bytes))

abbrev pub has_byte : List ℕ → Bool
has_byte [] = false
has_byte (byte ∷ more) = true

-- Bytes stand behind a response that is whole, and without them its side would be kept: they are stray.
abbrev pub strays_by : Request → Sight → Item ReadResponse → Bool
strays_by request seen (complete head body trailers size) =
    has_byte (left_by_answers (answers_in request seen) seen.server) && (sent_persists request && read_persists request head)
strays_by request seen item = false

abbrev pub strays_own : Request → Sight → Bool
strays_own request seen = strays_by request seen (answers_in request seen).final

abbrev pub strays_behind : Stage → Sight → Bool
strays_behind (busy at flow (response_head server sent)) seen = strays_own flow.request seen
strays_behind (busy at flow (response_body server sent most)) seen = strays_own flow.request seen
strays_behind (busy at flow (coming_down server sent)) seen = strays_own flow.request seen
strays_behind stage seen = false

-- Where this event is heard, nothing stray stands behind a response with it.
abbrev pub NoneStrays : Terms → HttpStop → Event → Type 0
NoneStrays terms w event = HearsNext terms w → strays_behind w.stage.stage (seen_with w event) ≡ false

-- So it is of each of these events, behind all before it.
abbrev pub NothingStrays : (Stage → Stage) → Terms → Standing → List (Stamped Reply) → (before these : List (Stamped Event)) → Type 0
NothingStrays onward terms start replies before [] = ⊤
NothingStrays onward terms start replies before (e ∷ these) =
    NoneStrays terms (walk_from (http_chain onward terms) start before replies) e.value × NothingStrays onward terms start replies (before ++ e ∷ []) these
