-- Places that show the same, and a piece that waits: what px_event's laws of walks ask of a conversation.
use Rattle.std.proofs.Common.{◌≡◌, ℕ, Bool, true, false, ◌==◌, List, ◌++◌, map, refl, ap, sym, ◌∙◌}
use Rattle.std.proofs.lemmas.List.{map-append}
use Rattle.std.specs.Prelude.{◌&&◌, ⊤, Option, Some, None}
use Rattle.px_message.specs.declared.response.Response.{Response}
use Rattle.px_event.specs.declared.event.Event.{Event}
use Rattle.px_event.specs.declared.event.Event.TheVariants as events
use Rattle.px_event.specs.declared.side.Side.{Side}
use Rattle.px_event.specs.Alike.{Alike, IsLikeness, Unhurried}
use Rattle.px_event.specs.Chain.{later, Stamp, Stamped, Timed}
use Rattle.px_event.specs.Laws.{IsFound}
use Rattle.px_exchange.specs.declared.terms.Terms.{Terms}
use Rattle.px_chain.specs.Chain.{IsOnward, http_chain}
use Rattle.px_chain.specs.Coming.{came_in}
use Rattle.px_chain.specs.Going.{goes_up}
use Rattle.px_chain.specs.Keeping.{is_silent}
use Rattle.px_read.specs.Items.{Item, bad_body, complete}
use Rattle.px_read.specs.Laws.{is_begun}
use Rattle.px_read.specs.declared.head.RequestHead.{RequestHead}
use Rattle.px_event.specs.declared.side.Side.TheVariants.{Client, Server}
use Rattle.px_chain.specs.Sights.{Sight, Standing, answers_in, request_in}
use Rattle.px_cuts.specs.Cuts.{AlikeSeen, MayBeHeard, MayStand, MayWaitFor, is_of, keeps_coming, keeps_own, retimed}
use Rattle.px_chain.specs.Stages.{Doing, Stage, busy, coming_down, going_up, idle, next, over, request_body, response_body, response_head, side_of, upgraded}
use Rattle.px_message.specs.declared.flow.Flow.{Flow}
use Rattle.px_cuts.specs.Shown.{hears, look_over, moment_at, passed_over, retimed_stage, shown_over}
use Rattle.px_chain.specs.Streams.{client_closed, now_over}

-- ---- what is owed, its moments seen so

pub is_like : (see : ℕ → ℕ) → IsLikeness (AlikeSeen see)
is_like see = record {
  itself = λ xs. refl;
  joins = λ a b c d same alike.
      map-append (retimed see) a c
      ∙ (ap (λ l. l ++ map (retimed see) c) same
      ∙ (ap (λ l. map (retimed see) b ++ l) alike ∙ sym (map-append (retimed see) b d)));
}

-- ---- places that show the same

pub record PlacesAlike (see : ℕ → ℕ) (terms : Terms) (s : Standing) (f : List (Timed Event)) (t : Standing) (g : List (Timed Event)) : Type 0 where
  pub stages : retimed_stage see s.stage ≡ retimed_stage see t.stage
  pub sights : shown_over see s f ≡ shown_over see t g
  pub may : MayStand terms s f
  pub other_may : MayStand terms t g

-- ---- a piece that waits beside a request that goes up

-- the body of a request is refused
abbrev pub is_bad : {H : Type 0} → Item H → Bool
is_bad (bad_body fault head body) = true
is_bad item = false

-- the body of a response is whole, or refused
abbrev pub has_ended : {H : Type 0} → Item H → Bool
has_ended (complete head body trailers size) = true
has_ended (bad_body fault head body) = true
has_ended item = false

-- so is one that is streamed; without a response at hand it does not end by being whole
abbrev pub ends_here : {H : Type 0} → Option Response → Item H → Bool
ends_here None item = is_bad item
ends_here (Some response) item = has_ended item

-- One of the client waits where nothing is found of this server's response; and one of a server where the request is not refused, or
-- where it is another server's.
abbrev pub IsBeside : Side → ℕ → Item RequestHead → (found : Bool) → Type 0
IsBeside Client server request found = found ≡ false
IsBeside (Server number) server request found = (is_bad request && (number == server)) ≡ false

abbrev pub WaitsBeside : Side → Stage → Sight → Type 0
WaitsBeside side (busy at flow (response_head server going_up)) seen = IsBeside side server (request_in seen) (is_begun (answers_in flow.request seen).final)
WaitsBeside side (busy at flow (response_body server going_up most)) seen = IsBeside side server (request_in seen) (has_ended (answers_in flow.request seen).final)
WaitsBeside side (busy at flow (coming_down server going_up)) seen = IsBeside side server (request_in seen) (ends_here flow.response (answers_in flow.request seen).final)
WaitsBeside side stage seen = ⊤

-- ---- a piece that waits behind what was seen of a server's side

-- With what is seen of the side that is open it is kept: it is parked and silent, or a whole response ends here behind which it is kept.
abbrev pub keeps_in : Flow → Doing → Sight → Bool
keeps_in flow (response_head server sent) seen = keeps_own flow.request seen
keeps_in flow (response_body server sent most) seen = keeps_own flow.request seen
keeps_in flow (coming_down server sent) seen = keeps_coming flow.request seen (came_in flow seen)
keeps_in flow (upgraded server) seen = false
keeps_in flow doing seen = is_silent seen.server seen.shut

abbrev pub keeps_at : Stage → Sight → Bool
keeps_at (idle at) seen = is_silent seen.server seen.shut
keeps_at (busy at flow doing) seen = keeps_in flow doing seen
keeps_at (next at) seen = is_silent seen.server seen.shut
keeps_at over seen = false

-- A piece of this side may follow what is seen: it is none of the side that is open, or that is not kept in any case.
pub data MayBeFollowed (side : Side) (stage : Stage) (seen : Sight) : Type 0 where
  apart : is_of (side_of stage) side ≡ false → MayBeFollowed side stage seen
  unkept : keeps_at stage seen ≡ false → MayBeFollowed side stage seen

-- no flow uses a side here, and no request begins to go up
abbrev pub NoneBegins : Stage → Sight → Type 0
NoneBegins (busy at flow (request_body None most)) seen = goes_up most seen ≡ false
NoneBegins (busy at flow (response_head server sent)) seen = ⊥
NoneBegins (busy at flow (response_body server sent most)) seen = ⊥
NoneBegins (busy at flow (coming_down server sent)) seen = ⊥
NoneBegins stage seen = ⊤

-- A piece of this side may wait at a place: it may follow what is seen there, or it waits for nothing, and no request begins to go up before it.
pub data MayWait (see : ℕ → ℕ) (onward : Stage → Stage) (terms : Terms) (side : Side) (s : Standing) (f : List (Timed Event)) : Type 0 where
  on_from : MayBeFollowed side s.stage (shown_over see s f) → MayWait see onward terms side s f
  for_nothing : (IsFound (look_over terms (passed_over onward terms s f) f) → ⊥) → NoneBegins s.stage (shown_over see s f) → MayWait see onward terms side s f

-- ---- a piece that waits behind the one place, and was heard in the other

pub record HeardEarly (see : ℕ → ℕ) (onward : Stage → Stage) (terms : Terms) (event : Stamped Event) (last : Stamp) (s : Standing) (f : List (Timed Event)) (t : Standing) (g : List (Timed Event)) : Type 0 where
  pub side : Side
  pub bytes : List ℕ
  pub is_piece : event.value ≡ events.Piece side bytes
  pub stages : retimed_stage see s.stage ≡ retimed_stage see t.stage
  pub hears : hears (side_of s.stage) (shown_over see s f) (events.Piece side bytes) ≡ shown_over see t g
  pub open_client : client_closed f ≡ false
  pub comes : moment_at see s.stage (later last event.stamp).moment ≡ moment_at see s.stage (now_over s.since f)
  -- a server's piece that waits while something is found is none of a server that is dialled later
  pub heard : IsFound (look_over terms (passed_over onward terms s f) f) → MayBeHeard side s.stage
  pub beside : WaitsBeside side s.stage (shown_over see s f)
  pub waits : MayWait see onward terms side s f
  pub may : MayStand terms s f
  pub other_may : MayStand terms t g

-- ---- what laws of walks ask for

-- Places of a chain that show the same look alike, and a piece that waits may be taken early.
pub record IsCompared (see : ℕ → ℕ) (onward : Stage → Stage) (terms : Terms) : Type 0 where
  pub alike : Alike (http_chain onward terms) (AlikeSeen see) (PlacesAlike see terms)
  pub unhurried : (event : Stamped Event) →
      Unhurried (http_chain onward terms) (AlikeSeen see) (PlacesAlike see terms) (MayWaitFor see event) event (HeardEarly see onward terms event)

-- a chain of one flow or of flows in sequence, on these terms, that is compared so
pub record Conversation (see : ℕ → ℕ) : Type 0 where
  pub onward : Stage → Stage
  pub goes : IsOnward onward
  pub terms : Terms
  pub compared : IsCompared see onward terms
