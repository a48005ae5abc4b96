-- How much a stream keeps where nothing is awaited and no body is kept.
use Rattle.std.proofs.Common.{◌≡◌, ℕ, ◌+◌, ◌<◌, ◌&&◌, Bool, true, false, List, length, Option, Some, None, refl, ap, sym, ◌∙◌, subst, arith}
use Rattle.px_event.specs.Chain.{Look, NotYet, Asks, Ends, Timed}
use Rattle.px_event.specs.declared.command.Command.{Command}
use Rattle.px_event.specs.declared.event.Event.{Event}
use Rattle.px_read.specs.Reader.{HasRoom, State, keeps}
use Rattle.px_bounds.specs.Bounds.{kept_below}
use Rattle.px_bounds.proofs.WaitLemmas.{waits_few}
use Rattle.px_exchange.specs.declared.terms.Terms.{Terms}
use Rattle.px_message.specs.declared.flow.Flow.{Flow}
use Rattle.px_chain.specs.Chain.{look}
use Rattle.px_chain.specs.Sights.{Sight, Standing, sight_over}
use Rattle.px_chain.specs.Stages.{At, Stage}
use Rattle.px_stream.specs.declared.going.Sending.{Sending}
use Rattle.px_stream.specs.declared.going.Sending.TheVariants as sending
use Rattle.px_stream.specs.declared.link.Link.{Link}
use Rattle.px_stream.specs.declared.phase.Phase.{Phase}
use Rattle.px_stream.specs.declared.phase.Phase.TheVariants as phase
use Rattle.px_stream.specs.declared.phase.Wanted.{Wanted}
use Rattle.px_stream.specs.declared.phase.Wanted.TheVariants as ready
use Rattle.px_stream.specs.declared.stream.Stream.{Stream}
use Rattle.px_stream.specs.Stands.{GoesOnUp, HasGiven, HasRequest, IsAt, IsOpen, IsQuiet, PhaseAt, SentOn, UpQuiet, is_last, stage_of}
use Rattle.px_stream.specs.Tells.{KeepsLittle, SideHasRoom, content_at, held_at, keeps_no_body, keeps_no_request, keeps_no_response, side_keeps, uses_side}
use Rattle.px_stream.proofs.KeptLemmas.{keeps_few}
use Rattle.px_stream.proofs.StateLaws.{ends_last}

-- ---- each direction

-- the client's reader: the request goes up, or the reader stands behind it
up_few : (terms : Terms) (flow : Flow) (seen : Sight) (up : Sending) (text : List ℕ) (requests : State) → HasRoom requests.place → GoesOnUp terms flow seen up text requests → UpQuiet up requests → keeps requests < kept_below
up_few terms flow seen sending.All text requests room is quiet = let few = keeps_few requests is.behind in omega arith
up_few terms flow seen (sending.GoingUp sent) text requests room is quiet = waits_few requests room quiet

-- the server's
side_few : (side : Option Link) → SideHasRoom true side → IsOpen (λ link. IsQuiet link.responses) side → side_keeps true side < kept_below
side_few None room quiet = absurd quiet
side_few (Some link) room quiet = waits_few link.responses room quiet

none_few : (side : Option Link) → side_keeps false side < kept_below
none_few None = omega arith
none_few (Some link) = omega arith

-- ---- where something is looked for

-- the client's direction, also while a response's body is kept
client_by : (terms : Terms) (at : At) (requests : State) (side : Option Link) (seen : Sight) (sent : SentOn) (looked : Wanted) → keeps_no_request (phase.Ready looked) ≡ true → HasRoom requests.place →
    HasRequest terms (stage_of at looked) seen sent.up looked requests → HasGiven looked requests side → keeps requests < kept_below
client_by terms at requests side seen sent ready.Idle is room reads quiet = waits_few requests room quiet
client_by terms at requests side seen sent (ready.ResponseHead flow server up) is room reads (quiet, down) = up_few terms flow seen up sent.up requests room reads quiet
client_by terms at requests side seen sent (ready.ResponseBody flow server up most body held) is room reads quiet = up_few terms flow seen up sent.up requests room reads quiet
client_by terms at requests side seen sent (ready.ComingDown flow server up its) is room reads (quiet, down) = up_few terms flow seen up sent.up requests room reads quiet
client_by terms at requests side seen sent (ready.RequestBody flow given most body held) is room reads quiet = absurd (let no : false ≡ true = is in cc)
client_by terms at requests side seen sent (ready.Connection flow up) is room reads quiet = absurd (let no : false ≡ true = is in cc)
client_by terms at requests side seen sent (ready.Upgraded flow server) is room reads quiet = absurd (let no : false ≡ true = is in cc)
client_by terms at requests side seen sent (ready.GivenHead flow) is room reads quiet = absurd (let no : false ≡ true = is in cc)
client_by terms at requests side seen sent (ready.GivenBody flow) is room reads quiet = absurd (let no : false ≡ true = is in cc)
client_by terms at requests side seen sent (ready.Connects address) is room reads quiet = absurd (let no : false ≡ true = is in cc)
client_by terms at requests side seen sent ready.Over is room reads quiet = absurd (let no : false ≡ true = is in cc)

-- the server's, also while a request's body is kept
server_by : (requests : State) (side : Option Link) (looked : Wanted) → keeps_no_response (phase.Ready looked) ≡ true → SideHasRoom (uses_side (phase.Ready looked)) side → HasGiven looked requests side →
    side_keeps (uses_side (phase.Ready looked)) side < kept_below
server_by requests side ready.Idle is room quiet = none_few side
server_by requests side (ready.RequestBody flow given most body held) is room quiet = none_few side
server_by requests side (ready.ResponseHead flow server up) is room (quiet, down) = side_few side room down
server_by requests side (ready.ComingDown flow server up its) is room (quiet, down) = side_few side room down
server_by requests side (ready.ResponseBody flow server up most body held) is room quiet = absurd (let no : false ≡ true = is in cc)
server_by requests side (ready.Connection flow up) is room quiet = absurd (let no : false ≡ true = is in cc)
server_by requests side (ready.Upgraded flow server) is room quiet = absurd (let no : false ≡ true = is in cc)
server_by requests side (ready.GivenHead flow) is room quiet = absurd (let no : false ≡ true = is in cc)
server_by requests side (ready.GivenBody flow) is room quiet = absurd (let no : false ≡ true = is in cc)
server_by requests side (ready.Connects address) is room quiet = absurd (let no : false ≡ true = is in cc)
server_by requests side ready.Over is room quiet = absurd (let no : false ≡ true = is in cc)

-- where nothing more comes, nothing is looked for
ended_keeps : (found : Phase) → is_last found ≡ true → (keeps_no_request found ≡ false) × (keeps_no_response found ≡ false)
ended_keeps (phase.Ready (ready.Upgraded flow server)) last = (refl, refl)
ended_keeps (phase.Ready (ready.Connects address)) last = (refl, refl)
ended_keeps (phase.Ready ready.Over) last = (refl, refl)
ended_keeps (phase.Ready ready.Idle) last = absurd (let no : false ≡ true = last in cc)
ended_keeps (phase.Ready (ready.RequestBody flow given most body held)) last = absurd (let no : false ≡ true = last in cc)
ended_keeps (phase.Ready (ready.Connection flow up)) last = absurd (let no : false ≡ true = last in cc)
ended_keeps (phase.Ready (ready.ResponseHead flow server up)) last = absurd (let no : false ≡ true = last in cc)
ended_keeps (phase.Ready (ready.ResponseBody flow server up most body held)) last = absurd (let no : false ≡ true = last in cc)
ended_keeps (phase.Ready (ready.ComingDown flow server up its)) last = absurd (let no : false ≡ true = last in cc)
ended_keeps (phase.Ready (ready.GivenHead flow)) last = absurd (let no : false ≡ true = last in cc)
ended_keeps (phase.Ready (ready.GivenBody flow)) last = absurd (let no : false ≡ true = last in cc)
ended_keeps (phase.Asked found) last = absurd (let no : false ≡ true = last in cc)

module _ (terms : Terms) (at : At) (requests : State) (side : Option Link) (found : Phase) (stage : Stage) (seen : Sight) where
  client_few : keeps_no_request found ≡ true → HasRoom requests.place → (l : Look Command) → PhaseAt l terms at requests side found stage seen → keeps requests < kept_below
  client_few is room NotYet (looked, sent, same, there, gave, given) =
      client_by terms at requests side seen sent looked (ap keeps_no_request (sym same) ∙ is) room (subst (λ s. HasRequest terms s seen sent.up looked requests) (sym there.is_stage) there.request) given
  client_few is room (Asks ask) (asked, same, there) = absurd (let no : false ≡ true = ap keeps_no_request (sym same) ∙ is in cc)
  client_few is room (Ends owed) (last, same, there) =
      absurd (let no : false ≡ true = sym (ended_keeps found (ap is_last same ∙ ends_last terms stage seen requests side last there)).0 ∙ is in cc)

  server_few : keeps_no_response found ≡ true → SideHasRoom (uses_side found) side → (l : Look Command) → PhaseAt l terms at requests side found stage seen → side_keeps (uses_side found) side < kept_below
  server_few is room NotYet (looked, sent, same, there, gave, given) =
      subst (λ p. side_keeps (uses_side p) side < kept_below) (sym same)
      (server_by requests side looked (ap keeps_no_response (sym same) ∙ is) (subst (λ p. SideHasRoom (uses_side p) side) same room) given)
  server_few is room (Asks ask) (asked, same, there) = absurd (let no : false ≡ true = ap keeps_no_response (sym same) ∙ is in cc)
  server_few is room (Ends owed) (last, same, there) =
      absurd (let no : false ≡ true = sym (ended_keeps found (ap is_last same ∙ ends_last terms stage seen requests side last there)).1 ∙ is in cc)

-- ---- all that is kept

-- neither content nor what is held beside it
none_kept : (found : Phase) → keeps_no_body found ≡ true → length (content_at found) + length (held_at found) ≡ 0
none_kept (phase.Ready ready.Idle) is = refl
none_kept (phase.Ready (ready.ResponseHead flow server up)) is = refl
none_kept (phase.Ready (ready.ComingDown flow server up its)) is = refl
none_kept (phase.Ready (ready.RequestBody flow given most body held)) is = absurd (let no : false ≡ true = is in cc)
none_kept (phase.Ready (ready.Connection flow up)) is = absurd (let no : false ≡ true = is in cc)
none_kept (phase.Ready (ready.ResponseBody flow server up most body held)) is = absurd (let no : false ≡ true = is in cc)
none_kept (phase.Ready (ready.Upgraded flow server)) is = absurd (let no : false ≡ true = is in cc)
none_kept (phase.Ready (ready.GivenHead flow)) is = absurd (let no : false ≡ true = is in cc)
none_kept (phase.Ready (ready.GivenBody flow)) is = absurd (let no : false ≡ true = is in cc)
none_kept (phase.Ready (ready.Connects address)) is = absurd (let no : false ≡ true = is in cc)
none_kept (phase.Ready ready.Over) is = absurd (let no : false ≡ true = is in cc)
none_kept (phase.Asked found) is = absurd (let no : false ≡ true = is in cc)

little : (state : Stream) → keeps_no_body state.phase ≡ true → keeps state.requests < kept_below → side_keeps (uses_side state.phase) state.side < kept_below → KeepsLittle state
little state is client server =
    let none = none_kept state.phase is in
    record { client = client; server = server; all = omega arith }

both : (a b : Bool) → (a && b) ≡ true → (a ≡ true) × (b ≡ true)
both true b is = (refl, is)
both false b is = absurd (let no : false ≡ true = is in cc)

-- Where a walk stopped, at which nothing is awaited: each direction that keeps no body, and both.
module _ (made : Terms) (state : Stream) (place : Standing) (prefix : List (Timed Event)) (at : IsAt made state place prefix) where
  abbrev seen : Sight
  seen = sight_over place prefix

  pub client_keeps : HasRoom state.requests.place → keeps_no_request state.phase ≡ true → keeps state.requests < kept_below
  client_keeps room is = client_few made state.at state.requests state.side state.phase place.stage seen is room (look made place.stage seen) at.is_in.phase

  pub server_keeps : SideHasRoom (uses_side state.phase) state.side → keeps_no_response state.phase ≡ true → side_keeps (uses_side state.phase) state.side < kept_below
  server_keeps room is = server_few made state.at state.requests state.side state.phase place.stage seen is room (look made place.stage seen) at.is_in.phase

  pub keeps_little : HasRoom state.requests.place → SideHasRoom (uses_side state.phase) state.side → keeps_no_body state.phase ≡ true → KeepsLittle state
  keeps_little room side_room is =
      let ways = both (keeps_no_request state.phase) (keeps_no_response state.phase) is in
      little state is (client_keeps room ways.0) (server_keeps side_room ways.1)
