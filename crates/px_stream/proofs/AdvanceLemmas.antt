-- A stream that goes on without an answer and then looks once: it is where the chain is behind both, and gave what is owed there.
use Rattle.std.proofs.Common.{◌≡◌, ℕ, Bool, true, false, List, [], ◌∷◌, ◌++◌, length, Option, Some, None, Result, Ok, Err, refl, ap, sym, ◌∙◌, subst, append_assoc, not, ◌&&◌}
use Rattle.std.specs.Prelude.{⊤, bytes_eq, if◌then◌else◌}
use Rattle.std.proofs.lemmas.List.{append-nil}
use Rattle.px_message.specs.Length.{has_no_body, request_length, response_length}
use Rattle.px_message.specs.declared.fault.Fault.{Fault}
use Rattle.px_message.specs.declared.flow.Flow.{Flow}
use Rattle.px_message.specs.declared.length.Length.{Length}
use Rattle.px_message.specs.declared.length.Length.TheVariants as lengths
use Rattle.px_message.specs.declared.response.Response.{Response}
use Rattle.px_event.specs.declared.command.Command.{Command}
use Rattle.px_event.specs.Chain.{Turn, found_with}
use Rattle.px_event.specs.View.{View, seen_of}
use Rattle.px_event.proofs.Seen.{seen_append}
use Rattle.px_read.specs.Chunks.{Finish, Reading}
use Rattle.px_read.specs.Heads.{connect_method}
use Rattle.px_read.specs.Items.{request_told}
use Rattle.px_read.specs.Laws.{head_in}
use Rattle.px_read.specs.Marks.{Mark, answers, asks}
use Rattle.px_read.specs.Readings.{behind_bytes, request_reading}
use Rattle.px_read.specs.Reader.{State, request, response, to_come}
use Rattle.px_read.specs.declared.head.RequestHead.{RequestHead as ReadRequest}
use Rattle.px_read.specs.declared.head.ResponseHead.{ResponseHead as ReadResponse}
use Rattle.px_parts.specs.Streamed.{exceeds, heard_in, request_says, streamed_by, streams_behind}
use Rattle.px_exchange.specs.declared.place.Place.{Place}
use Rattle.px_exchange.specs.declared.terms.Terms.{Terms}
use Rattle.px_exchange.specs.Bodies.{content_of}
use Rattle.px_exchange.specs.Flows.{response_of}
use Rattle.px_exchange.specs.Requests.{is_head}
use Rattle.px_exchange.proofs.BodyLemmas.{come}
use Rattle.px_chain.specs.Chain.{begin_up, behind, come_down, end_up, goes_to, gone_up, is_sequence, look, pass, sequence, sight_begun, sight_come, sight_gone, sight_past, so_far, waits_at}
use Rattle.px_chain.specs.Coming.{streams_in}
use Rattle.px_chain.specs.Going.{goes_up}
use Rattle.px_chain.specs.Keeping.{strays}
use Rattle.px_chain.specs.Sights.{Sight}
use Rattle.px_chain.specs.Stages.{At, Stage, all_sent, busy, coming_down, request_body, response_body}
use Rattle.px_chain.proofs.ChainLaws.{onward_stays, onward_twice, passes_once}
use Rattle.px_stream.specs.declared.going.Sending.{Sending}
use Rattle.px_stream.specs.declared.going.Sending.TheVariants as sending
use Rattle.px_stream.specs.declared.link.Link.{Link}
use Rattle.px_stream.specs.declared.phase.Wanted.{Wanted}
use Rattle.px_stream.specs.declared.phase.Wanted.TheVariants as ready
use Rattle.px_stream.specs.declared.stream.Stream.{Stream}
use Rattle.px_stream.specs.Comings.{may_exceed, may_exceed_by, may_stream, streams_at, streams_with}
use Rattle.px_stream.specs.Looks.{LookFound, LookedAt}
use Rattle.px_stream.specs.Goings.{may_go_up_by}
use Rattle.px_stream.specs.GoingUp.{GoesUp, GoneTo, HasNoMoreUp, IsGone, IsGoneFor, Raised, RestsUp, is_rising}
use Rattle.px_stream.specs.Passes.{Advances, CameTo, HasNoMore, HasNoMoreDown, IsCome, IsPassed, Passed, PassedBy, PassedTo, is_passing, streams_by}
use Rattle.px_stream.specs.Stands.{HasPlace, HasRequest, HasSide, HoldsNone, HoldsWhole, IsIn, IsReady, NoneParked, PhaseAt, ReadsBody, ReadsReturn, SentOn, sent_on, stage_of, used_in}
use Rattle.px_stream.specs.Turns.{LooksOnce}
use Rattle.px_stream.proofs.CameLemmas.{judged, read_as}
use Rattle.px_stream.proofs.LookLemmas.{advanced}
use Rattle.px_stream.proofs.PassesLemmas.{passes_follow}
use Rattle.px_stream.proofs.ReadUpLemmas.{asked_length, head_is, item_is}
use Rattle.px_stream.proofs.RequestLemmas.{requests_go_up}
use Rattle.px_stream.proofs.SettledLemmas.{come_stays, gone_up_keeps, once_stays, passes_quiet, past_keeps}
use Rattle.px_stream.proofs.StrayLemmas.{pass_apart, pass_strays, sequence_apart}

-- the stage that is passed to, where flows go on in sequence
abbrev pub passed_to : Terms → Stage → Sight → Stage
passed_to made stage seen = sequence (pass made stage seen).stage

-- all that a stage owes in a sight, beside what is owed from before, but for the close of a parked side of which a byte came
abbrev pub owed_at : Terms → Stage → Sight → List Command
owed_at made stage seen = waits_at made stage seen ++ found_with (behind stage seen) (look made stage seen)

-- the same, passing included
abbrev pub owed_in : Terms → Stage → Sight → List Command
owed_in made stage seen = (pass made stage seen).owed ++ owed_at made (passed_to made stage seen) (sight_past made stage seen)

-- Behind what was done the machine passed and looked once: what was sent on before, and what it added, are in each view what is owed there, but for
-- that close, and it is where the stage is passed.
pub record AdvancedTo (made : Terms) (after : Stream) (stage : Stage) (seen : Sight) (sent : SentOn) (out longer : List Command) : Type 0 where
  pub more : List Command
  pub grown : longer ≡ out ++ more
  pub owes : (view : View) → seen_of view (sent_on stage sent ++ more) ≡ seen_of view (owed_in made stage seen)
  pub is_in : IsIn made after (passed_to made stage seen) (sight_past made stage seen)

-- what is owed in all: the close of a parked side of which a byte came, and all else
pub all_owed : (made : Terms) (stage : Stage) (seen : Sight) →
    (pass made stage seen).owed ++ (so_far made (passed_to made stage seen) (sight_past made stage seen) ++ found_with (behind (passed_to made stage seen) (sight_past made stage seen)) (look made (passed_to made stage seen) (sight_past made stage seen)))
    ≡ strays stage seen ++ owed_in made stage seen
all_owed made stage seen =
    let owed : List Command = (pass made stage seen).owed in
    let to : Stage = passed_to made stage seen in
    let past : Sight = sight_past made stage seen in
    let stray : List Command = strays to past in
    let rest : List Command = found_with (behind to past) (look made to past) in
    ap (λ l. owed ++ l) (append_assoc stray (waits_at made to past) rest)
    ∙ (sym (append_assoc owed stray (owed_at made to past))
    ∙ (ap (λ l. l ++ owed_at made to past) (pass_strays made stage seen) ∙ append_assoc (strays stage seen) owed (owed_at made to past)))

-- ---- a response that is never streamed

never_exceeds : (length : Length) (most heard : ℕ) → may_exceed length most ≡ false → exceeds length most heard ≡ false
never_exceeds lengths.None most heard is = refl
never_exceeds (lengths.Bytes n) most heard is = is
never_exceeds lengths.Chunked most heard is = absurd (let no : true ≡ false = is in cc)
never_exceeds lengths.ToClose most heard is = absurd (let no : true ≡ false = is in cc)

never_by : (has : Bool) (length : Length) (most heard : ℕ) → (has && may_exceed length most) ≡ false → (has && exceeds length most heard) ≡ false
never_by true length most heard is = never_exceeds length most heard is
never_by false length most heard is = refl

never_at : (status : ℕ) (asked_head : Bool) (says : Result Length Fault) (most heard : ℕ) → (not (has_no_body status asked_head) && may_exceed_by says most) ≡ false →
    streams_at status asked_head says (Some most) heard ≡ false
never_at status asked_head (Ok length) most heard is = never_by (not (has_no_body status asked_head)) length most heard is
never_at status asked_head (Err fault) most heard is = refl

and_never : (has : Bool) → (has && false) ≡ false
and_never true = refl
and_never false = refl

unallowed : (status : ℕ) (asked_head : Bool) (says : Result Length Fault) (heard : ℕ) → streams_at status asked_head says None heard ≡ false
unallowed status asked_head (Ok length) heard = and_never (not (has_no_body status asked_head))
unallowed status asked_head (Err fault) heard = refl

never_with : (asked_head : Bool) (read given : Response) (most : Option ℕ) (heard : ℕ) → may_stream asked_head read given most ≡ false → streams_with asked_head read given most heard ≡ false
never_with asked_head read given None heard is = unallowed given.status asked_head (response_length read.status asked_head read.fields) heard
never_with asked_head read given (Some most) heard is = never_at given.status asked_head (response_length read.status asked_head read.fields) most heard is

never_streams : (flow : Flow) (most : Option ℕ) (head : ReadResponse) (heard : ℕ) (given : Option Response) → HoldsWhole flow most head given → streams_by flow given (response_of head) most heard ≡ false
never_streams flow most head heard None holds = refl
never_streams flow most head heard (Some given) holds = never_with (is_head flow.request.method) (response_of head) given most heard holds

never_read : (flow : Flow) (server : ℕ) (most : Option ℕ) (seen : Sight) (content : List ℕ) (link : Link) → ReadsReturn flow server most seen content None link → streams_in flow most seen ≡ false
never_read flow server most seen content link is =
    let rest = to_come link.responses in
    let reads = is.is_link.reads in
    let all : List Mark = is.marks ++ rest.marks in
    let reading = come (response (is_head flow.request.method)) (answers is.head ∷ is.marks) is.is_link.fed seen.shut link.responses reads in
    judged flow flow.response seen.shut seen.server is.is_link.fed is.sent is.is_link.passes is.head is.final all (behind_bytes (length reads.used) rest.finish) reading most
    ∙ never_streams flow most is.head (length (content_of all)) flow.response is.holds

-- ---- a request that is never streamed

never_up : (says : Result Length Fault) (most : Option ℕ) (heard : ℕ) → may_go_up_by says most ≡ false → streamed_by says most heard ≡ false
never_up (Ok length) None heard is = refl
never_up (Ok length) (Some most) heard is = never_exceeds length most heard is
never_up (Err fault) None heard is = refl
never_up (Err fault) (Some most) heard is = refl

nothing_up : (most : Option ℕ) (heard : ℕ) → streamed_by (Ok lengths.None) most heard ≡ false
nothing_up None heard = refl
nothing_up (Some most) heard = refl

-- behind a tunnel's head there is no body
says_never : (tunnel : Bool) (says : Result Length Fault) (most : Option ℕ) (heard : ℕ) → may_go_up_by says most ≡ false →
    streamed_by (let l : Result Length Fault = if tunnel then Ok lengths.None else says in l) most heard ≡ false
says_never true says most heard is = nothing_up most heard
says_never false says most heard is = never_up says most heard is

never_goes : (head : ReadRequest) (all : List Mark) (most : Option ℕ) (seen : Sight) (finish : Finish) → request_reading seen.client ≡ read_as (asks head ∷ all) finish → HoldsNone None most head →
    goes_up most seen ≡ false
never_goes head all most seen finish is holds =
    ap (λ (r : Reading). streams_behind request_says (head_in (request_told r.marks r.finish)) most (heard_in r.marks)) is
    ∙ (ap (λ o. streams_behind request_says o most (length (content_of all))) (ap head_in (sym (item_is seen head all finish is)) ∙ head_is seen head all finish is)
    ∙ says_never (bytes_eq head.method connect_method) (request_length head.fields) most (length (content_of all)) (ap (λ l. may_go_up_by l most) (sym (asked_length head)) ∙ holds))

-- so one of which nothing is held is kept
kept_up : (place : Place) (at : At) (flow : Flow) (given : Option Response) (most : Option ℕ) (seen : Sight) (content : List ℕ) (requests : State) → ReadsBody given most seen content None requests → IsGoneFor place at flow (request_body given most) seen
kept_up place at flow None most seen content requests is =
    (never_goes is.head (is.marks ++ (to_come requests).marks) most seen (behind_bytes (length is.reads.used) (to_come requests).finish) (come request (asks is.head ∷ is.marks) seen.client false requests is.reads) is.holds)
kept_up place at flow (Some given) most seen content requests is = tt

-- ---- what is looked for where nothing is sent on of a request

still_up : (terms : Terms) (at : At) (looked : Wanted) (seen : Sight) (text : List ℕ) (requests : State) → is_rising looked ≡ false → HasRequest terms (stage_of at looked) seen text looked requests → IsGone terms.place (stage_of at looked) seen
still_up terms at ready.Idle seen text requests is has = tt
still_up terms at (ready.RequestBody flow given most body None) seen text requests is has = kept_up terms.place at flow given most seen body requests has
still_up terms at (ready.RequestBody flow given most body (Some held)) seen text requests is has = absurd (let no : true ≡ false = is in cc)
still_up terms at (ready.Connection flow up) seen text requests is has = refl
still_up terms at (ready.ResponseHead flow server sending.All) seen text requests is has = refl
still_up terms at (ready.ResponseHead flow server (sending.GoingUp its)) seen text requests is has = absurd (let no : true ≡ false = is in cc)
still_up terms at (ready.ResponseBody flow server sending.All most body held) seen text requests is has = refl
still_up terms at (ready.ResponseBody flow server (sending.GoingUp its) most body held) seen text requests is has = absurd (let no : true ≡ false = is in cc)
still_up terms at (ready.ComingDown flow server sending.All sends) seen text requests is has = refl
still_up terms at (ready.ComingDown flow server (sending.GoingUp its) sends) seen text requests is has = absurd (let no : true ≡ false = is in cc)
still_up terms at (ready.Upgraded flow server) seen text requests is has = refl
still_up terms at (ready.GivenHead flow) seen text requests is has = refl
still_up terms at (ready.GivenBody flow) seen text requests is has = refl
still_up terms at (ready.Connects address) seen text requests is has = tt
still_up terms at ready.Over seen text requests is has = tt

reads_up : (looked : Wanted) (requests : State) → is_rising looked ≡ false → HasNoMoreUp looked requests
reads_up ready.Idle requests is = tt
reads_up (ready.RequestBody flow given most body None) requests is = tt
reads_up (ready.RequestBody flow given most body (Some held)) requests is = absurd (let no : true ≡ false = is in cc)
reads_up (ready.Connection flow up) requests is = tt
reads_up (ready.ResponseHead flow server sending.All) requests is = tt
reads_up (ready.ResponseHead flow server (sending.GoingUp its)) requests is = absurd (let no : true ≡ false = is in cc)
reads_up (ready.ResponseBody flow server sending.All most body held) requests is = tt
reads_up (ready.ResponseBody flow server (sending.GoingUp its) most body held) requests is = absurd (let no : true ≡ false = is in cc)
reads_up (ready.ComingDown flow server sending.All sends) requests is = tt
reads_up (ready.ComingDown flow server (sending.GoingUp its) sends) requests is = absurd (let no : true ≡ false = is in cc)
reads_up (ready.Upgraded flow server) requests is = tt
reads_up (ready.GivenHead flow) requests is = tt
reads_up (ready.GivenBody flow) requests is = tt
reads_up (ready.Connects address) requests is = tt
reads_up ready.Over requests is = tt

-- so nothing changes
module _ (place : Place) (at now : At) (moment : ℕ) (next : Wanted) (old new : State) (side later : Option Link) (out longer : List Command) where
  abbrev RestsAt : Wanted → Type 0
  RestsAt looked = RestsUp at now next looked side later out longer × (new ≡ old)

  raised_rests : (there : Flow → Sending → Wanted) (flow : Flow) (server : ℕ) → Raised there at now moment flow server sending.All next old new side later out longer → RestsAt (there flow sending.All)
  raised_rests there flow server is = (
    record {
      same = is.same;
      is_there = is.is_there ∙ (ap (λ told. there told is.goes) is.raised.is_told ∙ ap (there flow) is.raised.is_next);
      same_side = is.same_side;
      gives = is.raised.gives;
    },
    is.raised.same,
  )

  rests : (looked : Wanted) → is_rising looked ≡ false → GoesUp place at now moment looked next old new side later out longer → RestsAt looked
  rests ready.Idle is goes = goes
  rests (ready.RequestBody flow given most body None) is goes = goes
  rests (ready.RequestBody flow given most body (Some held)) is goes = absurd (let no : true ≡ false = is in cc)
  rests (ready.Connection flow up) is goes = goes
  rests (ready.ResponseHead flow server sending.All) is goes = raised_rests (λ told up. ready.ResponseHead told server up) flow server goes
  rests (ready.ResponseHead flow server (sending.GoingUp its)) is goes = absurd (let no : true ≡ false = is in cc)
  rests (ready.ResponseBody flow server sending.All most body held) is goes = raised_rests (λ told up. ready.ResponseBody told server up most body held) flow server goes
  rests (ready.ResponseBody flow server (sending.GoingUp its) most body held) is goes = absurd (let no : true ≡ false = is in cc)
  rests (ready.ComingDown flow server sending.All sends) is goes = raised_rests (λ told up. ready.ComingDown told server up sends) flow server goes
  rests (ready.ComingDown flow server (sending.GoingUp its) sends) is goes = absurd (let no : true ≡ false = is in cc)
  rests (ready.Upgraded flow server) is goes = goes
  rests (ready.GivenHead flow) is goes = goes
  rests (ready.GivenBody flow) is goes = goes
  rests (ready.Connects address) is goes = goes
  rests ready.Over is goes = goes

-- ---- what is looked for where no response comes down

still : (at : At) (looked : Wanted) (seen : Sight) (sent : SentOn) (side : Option Link) → is_passing looked ≡ false → HasSide (stage_of at looked) seen sent looked side → IsCome (stage_of at looked) seen
still at ready.Idle seen sent side is has = tt
still at (ready.RequestBody flow given most body held) seen sent side is has = tt
still at (ready.Connection flow up) seen sent side is has = tt
still at (ready.ResponseHead flow server up) seen sent side is has = tt
still at (ready.ResponseBody flow server up most body None) seen sent None is has = absurd has
still at (ready.ResponseBody flow server up most body None) seen sent (Some link) is has = never_read flow server most seen body link has
still at (ready.ResponseBody flow server up most body (Some held)) seen sent side is has = absurd (let no : true ≡ false = is in cc)
still at (ready.ComingDown flow server up its) seen sent side is has = absurd (let no : true ≡ false = is in cc)
still at (ready.Upgraded flow server) seen sent side is has = tt
still at (ready.GivenHead flow) seen sent side is has = tt
still at (ready.GivenBody flow) seen sent side is has = tt
still at (ready.Connects address) seen sent side is has = tt
still at ready.Over seen sent side is has = tt

reads_down : (looked : Wanted) (side : Option Link) → is_passing looked ≡ false → HasNoMoreDown looked side
reads_down ready.Idle side is = tt
reads_down (ready.RequestBody flow given most body held) side is = tt
reads_down (ready.Connection flow up) side is = tt
reads_down (ready.ResponseHead flow server up) side is = tt
reads_down (ready.ResponseBody flow server up most body None) side is = tt
reads_down (ready.ResponseBody flow server up most body (Some held)) side is = absurd (let no : true ≡ false = is in cc)
reads_down (ready.ComingDown flow server up sent) side is = absurd (let no : true ≡ false = is in cc)
reads_down (ready.Upgraded flow server) side is = tt
reads_down (ready.GivenHead flow) side is = tt
reads_down (ready.GivenBody flow) side is = tt
reads_down (ready.Connects address) side is = tt
reads_down ready.Over side is = tt

-- where a flow may be looked at, it has begun
sequence_at : (terms : Terms) (at : At) (looked : Wanted) (seen : Sight) (text : List ℕ) (requests : State) → HasRequest terms (stage_of at looked) seen text looked requests → sequence (stage_of at looked) ≡ stage_of at looked
sequence_at terms at ready.Idle seen text requests has = refl
sequence_at terms at (ready.RequestBody flow given most body held) seen text requests has = refl
sequence_at terms at (ready.Connection flow up) seen text requests has = refl
sequence_at terms at (ready.ResponseHead flow server up) seen text requests has = refl
sequence_at terms at (ready.ResponseBody flow server up most body held) seen text requests has = refl
sequence_at terms at (ready.ComingDown flow server up sent) seen text requests has = refl
sequence_at terms at (ready.Upgraded flow server) seen text requests has = refl
sequence_at terms at (ready.GivenHead flow) seen text requests has = refl
sequence_at terms at (ready.GivenBody flow) seen text requests has = refl
sequence_at terms at (ready.Connects address) seen text requests has = absurd has
sequence_at terms at ready.Over seen text requests has = refl

-- ---- what is looked for has its place

abbrev IsOneOf : Wanted → Type 0
IsOneOf ready.Over = ⊥
IsOneOf looked = ⊤

one_rises : (looked : Wanted) → is_rising looked ≡ true → IsOneOf looked
one_rises ready.Over is = absurd (let no : false ≡ true = is in cc)
one_rises ready.Idle is = tt
one_rises (ready.RequestBody flow given most body held) is = tt
one_rises (ready.Connection flow up) is = tt
one_rises (ready.ResponseHead flow server up) is = tt
one_rises (ready.ResponseBody flow server up most body held) is = tt
one_rises (ready.ComingDown flow server up sent) is = tt
one_rises (ready.Upgraded flow server) is = tt
one_rises (ready.GivenHead flow) is = tt
one_rises (ready.GivenBody flow) is = tt
one_rises (ready.Connects address) is = tt

one_passes : (looked : Wanted) → is_passing looked ≡ true → IsOneOf looked
one_passes ready.Over is = absurd (let no : false ≡ true = is in cc)
one_passes ready.Idle is = tt
one_passes (ready.RequestBody flow given most body held) is = tt
one_passes (ready.Connection flow up) is = tt
one_passes (ready.ResponseHead flow server up) is = tt
one_passes (ready.ResponseBody flow server up most body held) is = tt
one_passes (ready.ComingDown flow server up sent) is = tt
one_passes (ready.Upgraded flow server) is = tt
one_passes (ready.GivenHead flow) is = tt
one_passes (ready.GivenBody flow) is = tt
one_passes (ready.Connects address) is = tt

-- where one of both halves goes on, it is known whether the client has closed
closed_where : (at : At) (looked : Wanted) (seen : Sight) (here : At) (closed : Bool) → IsOneOf looked → HasPlace (stage_of at looked) seen here closed → closed ≡ seen.closed
closed_where at ready.Idle seen here closed is place = place.client
closed_where at (ready.RequestBody flow given most body held) seen here closed is place = place.client
closed_where at (ready.Connection flow up) seen here closed is place = place.client
closed_where at (ready.ResponseHead flow server up) seen here closed is place = place.client
closed_where at (ready.ResponseBody flow server up most body held) seen here closed is place = place.client
closed_where at (ready.ComingDown flow server up sent) seen here closed is place = place.client
closed_where at (ready.Upgraded flow server) seen here closed is place = place.client
closed_where at (ready.GivenHead flow) seen here closed is place = place.client
closed_where at (ready.GivenBody flow) seen here closed is place = place.client
closed_where at (ready.Connects address) seen here closed is place = place.client
closed_where at ready.Over seen here closed is place = absurd is

place_at : (at : At) (looked : Wanted) (seen : Sight) (closed : Bool) → closed ≡ seen.closed → HasPlace (stage_of at looked) seen at closed
place_at at ready.Idle seen closed is = record { is_here = refl; client = is }
place_at at (ready.RequestBody flow given most body held) seen closed is = record { is_here = refl; client = is }
place_at at (ready.Connection flow up) seen closed is = record { is_here = refl; client = is }
place_at at (ready.ResponseHead flow server up) seen closed is = record { is_here = refl; client = is }
place_at at (ready.ResponseBody flow server up most body held) seen closed is = record { is_here = refl; client = is }
place_at at (ready.ComingDown flow server up sent) seen closed is = record { is_here = refl; client = is }
place_at at (ready.Upgraded flow server) seen closed is = record { is_here = refl; client = is }
place_at at (ready.GivenHead flow) seen closed is = record { is_here = refl; client = is }
place_at at (ready.GivenBody flow) seen closed is = record { is_here = refl; client = is }
place_at at (ready.Connects address) seen closed is = record { is_here = refl; client = is }
place_at at ready.Over seen closed is = tt

-- ---- one look, where passing has gone on

module _ (made : Terms) (between after : Stream) (moment : ℕ) (looked : Wanted) (out longer : List Command) (stage : Stage) (seen : Sight) (sent : SentOn) (apart : NoneParked stage) (terms : between.terms ≡ made) (now : moment ≡ seen.now)
    (is_ready : IsReady made between.at between.requests between.side looked stage seen sent) (place : HasPlace stage seen between.at between.client_closed) (goes : sequence stage ≡ stage) (kept : IsPassed made.place stage seen)
    (no_more : HasNoMore looked between.requests between.side) (once : LooksOnce between after moment looked out longer) where
  abbrev there : Stage
  there = (pass made stage seen).stage

  abbrev past : Sight
  past = sight_past made stage seen

  looked_there : LookedAt made between.at there past after.requests after.side after.phase (sent_on stage sent) out longer
  looked_there =
      let P : Terms → Type 0 = λ t. LookFound t between.at (used_in between.side) moment between.client_closed looked between.requests after.requests between.side after.side out longer after.phase in
      advanced made between.at seen between.requests after.requests between.side after.side moment between.client_closed out longer after.phase sent now stage looked is_ready place kept no_more (subst P terms once.looks)

  looked_in : IsIn made after there past
  looked_in =
      let quiet = passes_quiet made stage seen goes kept in record {
        terms = once.terms ∙ terms;
        apart = pass_apart made stage seen apart;
        place = subst (λ a. HasPlace there past a after.client_closed) (sym once.at)
            (subst (λ c. HasPlace there past between.at c) (sym once.client) (quiet.place between.at between.client_closed place));
        phase = subst (λ a. PhaseAt (look made there past) made a after.requests after.side after.phase there past) (sym once.at) looked_there.phase;
      }

  -- so nothing was to pass
  looked_to : AdvancedTo made after stage seen sent out longer
  looked_to =
      let quiet = passes_quiet made stage seen goes kept in record {
        more = looked_there.more;
        grown = looked_there.grown;
        owes = λ view. looked_there.owes view
            ∙ ap (seen_of view) (ap (λ s. owed_at made s past) (sym quiet.same) ∙ ap (λ l. l ++ owed_at made (passed_to made stage seen) past) (sym quiet.owes));
        is_in = subst (λ s. IsIn made after s past) (sym quiet.same) looked_in;
      }

-- ---- both

-- in a view, what was sent and two texts behind it are what is owed, and then what is owed there
join_views : (view : View) (before more last owed between there : List Command) → seen_of view (before ++ more) ≡ seen_of view (owed ++ between) → seen_of view (between ++ last) ≡ seen_of view there →
    seen_of view (before ++ (more ++ last)) ≡ seen_of view (owed ++ there)
join_views view before more last owed between there one two =
    ap (seen_of view) (sym (append_assoc before more last))
    ∙ (seen_append view (before ++ more) last
    ∙ (ap (λ l. l ++ seen_of view last) (one ∙ seen_append view owed between)
    ∙ (append_assoc (seen_of view owed) (seen_of view between) (seen_of view last)
    ∙ (ap (λ l. seen_of view owed ++ l) (sym (seen_append view between last) ∙ two) ∙ sym (seen_append view owed there)))))

-- where nothing is sent on of a request, all of it was sent
gone_none : (made : Terms) (at : At) (looked : Wanted) (seen : Sight) (requests : State) (side : Option Link) (sent : SentOn) (out : List Command) → is_rising looked ≡ false → is_passing looked ≡ true →
    IsReady made at requests side looked (stage_of at looked) seen sent → GoneTo made (stage_of at looked) seen at requests side looked (sent_on (stage_of at looked) sent) out out
gone_none made at (ready.ResponseBody flow server sending.All most body (Some held)) seen requests side sent out up down is = record {
  sent = sent;
  more = [];
  grown = sym (append-nil out);
  owes = λ view. ap (seen_of view) (append-nil (sent_on (busy at flow (response_body server all_sent most)) sent));
  is_ready = is;
  is_gone = refl;
  no_more = tt;
}
gone_none made at (ready.ComingDown flow server sending.All its) seen requests side sent out up down is = record {
  sent = sent;
  more = [];
  grown = sym (append-nil out);
  owes = λ view. ap (seen_of view) (append-nil (sent_on (busy at flow (coming_down server all_sent)) sent));
  is_ready = is;
  is_gone = refl;
  no_more = tt;
}
gone_none made at (ready.ResponseBody flow server sending.All most body None) seen requests side sent out up down is = absurd (let no : false ≡ true = down in cc)
gone_none made at (ready.ResponseBody flow server (sending.GoingUp goes) most body held) seen requests side sent out up down is = absurd (let no : true ≡ false = up in cc)
gone_none made at (ready.ComingDown flow server (sending.GoingUp goes) its) seen requests side sent out up down is = absurd (let no : true ≡ false = up in cc)
gone_none made at ready.Idle seen requests side sent out up down is = absurd (let no : false ≡ true = down in cc)
gone_none made at (ready.RequestBody flow given most body held) seen requests side sent out up down is = absurd (let no : false ≡ true = down in cc)
gone_none made at (ready.Connection flow goes) seen requests side sent out up down is = absurd (let no : false ≡ true = down in cc)
gone_none made at (ready.ResponseHead flow server goes) seen requests side sent out up down is = absurd (let no : false ≡ true = down in cc)
gone_none made at (ready.Upgraded flow server) seen requests side sent out up down is = absurd (let no : false ≡ true = down in cc)
gone_none made at (ready.GivenHead flow) seen requests side sent out up down is = absurd (let no : false ≡ true = down in cc)
gone_none made at (ready.GivenBody flow) seen requests side sent out up down is = absurd (let no : false ≡ true = down in cc)
gone_none made at (ready.Connects address) seen requests side sent out up down is = absurd (let no : false ≡ true = down in cc)
gone_none made at ready.Over seen requests side sent out up down is = absurd (let no : false ≡ true = down in cc)

-- the same of what is equal
module _ (made : Terms) (at now : At) (old new : State) (side later : Option Link) (looked next : Wanted) (place : now ≡ at) (requests : new ≡ old) (sides : later ≡ side) (is_there : next ≡ looked) where
  same_ready : (stage : Stage) (seen : Sight) (sent : SentOn) → IsReady made at old side looked stage seen sent → IsReady made now new later next stage seen sent
  same_ready stage seen sent is =
      subst (λ a. IsReady made a new later next stage seen sent) (sym place)
      (subst (λ r. IsReady made at r later next stage seen sent) (sym requests)
      (subst (λ s. IsReady made at old s next stage seen sent) (sym sides)
      (subst (λ n. IsReady made at old side n stage seen sent) (sym is_there) is)))

  same_more : HasNoMore looked old side → HasNoMore next new later
  same_more is =
      subst (λ r. HasNoMore next r later) (sym requests) (subst (λ s. HasNoMore next old s) (sym sides) (subst (λ n. HasNoMore n old side) (sym is_there) is))

  same_gone : (stage : Stage) (seen : Sight) (before out longer : List Command) → longer ≡ out → GoneTo made stage seen at old side looked before out out → GoneTo made stage seen now new later next before out longer
  same_gone stage seen before out longer gives is =
      subst (λ l. GoneTo made stage seen now new later next before out l) (sym gives)
      (subst (λ a. GoneTo made stage seen a new later next before out out) (sym place)
      (subst (λ r. GoneTo made stage seen at r later next before out out) (sym requests)
      (subst (λ s. GoneTo made stage seen at old s next before out out) (sym sides)
      (subst (λ n. GoneTo made stage seen at old side n before out out) (sym is_there) is))))

module _ (made : Terms) (before after : Stream) (moment : ℕ) (looked : Wanted) (out longer : List Command) (stage : Stage) (seen : Sight) (sent : SentOn) (apart : NoneParked stage) (terms : before.terms ≡ made) (now : moment ≡ seen.now)
    (is_ready : IsReady made before.at before.requests before.side looked stage seen sent) (place : HasPlace stage seen before.at before.client_closed) (call : Advances before after moment looked out longer) where
  abbrev risen : Stream
  risen = call.risen

  abbrev between : Stream
  between = call.between

  abbrev its_request : HasRequest made (stage_of before.at looked) seen sent.up looked before.requests
  its_request = subst (λ s. HasRequest made s seen sent.up looked before.requests) (sym is_ready.is_stage) is_ready.request

  abbrev its_side : HasSide (stage_of before.at looked) seen sent looked before.side
  its_side = subst (λ s. HasSide s seen sent looked before.side) (sym is_ready.is_stage) is_ready.has_side

  rested : is_rising looked ≡ false → RestsUp before.at risen.at call.gone looked before.side risen.side out call.raised × (risen.requests ≡ before.requests)
  rested is = rests before.terms.place before.at risen.at moment call.gone before.requests risen.requests before.side risen.side out call.raised looked is call.rises.goes

  -- nothing is passed
  looked_only : is_rising looked ≡ false → is_passing looked ≡ false → AdvancedTo made after stage seen sent out longer
  looked_only up down =
      let same : stage_of before.at looked ≡ stage = is_ready.is_stage in
      let (rest, same_requests) = rested up in
      let passes : PassedBy false risen between moment call.gone call.next call.passes.middle call.raised call.given =
      subst (λ b. PassedBy b risen between moment call.gone call.next call.passes.middle call.raised call.given) (ap is_passing rest.is_there ∙ down) call.passes.passes in
      let (held, requests, side) = passes in
      let kept : IsPassed made.place stage seen = subst (λ s. IsPassed made.place s seen) same
      (record { gone = still_up made before.at looked seen sent.up before.requests up its_request; come = still before.at looked seen sent before.side down its_side }) in
      let goes : sequence stage ≡ stage = subst (λ s. sequence s ≡ s) same (sequence_at made before.at looked seen sent.up before.requests its_request) in
      let at_same : between.at ≡ before.at = held.same ∙ rest.same in
      let requests_same : between.requests ≡ before.requests = requests ∙ same_requests in
      let side_same : between.side ≡ before.side = side ∙ rest.same_side in
      let there_same : call.next ≡ looked = held.is_there ∙ rest.is_there in
      let its_place : HasPlace stage seen between.at between.client_closed =
      subst (λ a. HasPlace stage seen a between.client_closed) (sym at_same) (subst (λ c. HasPlace stage seen before.at c) (sym (call.passes.client ∙ call.rises.client)) place) in
      let once : LooksOnce between after moment call.next out longer = subst (λ l. LooksOnce between after moment call.next l longer) (held.gives ∙ rest.gives) call.looks in
      looked_to made between after moment call.next out longer stage seen sent apart (call.passes.terms ∙ (call.rises.terms ∙ terms)) now
      (same_ready made before.at between.at before.requests between.requests before.side between.side looked call.next at_same requests_same side_same there_same stage seen sent is_ready)
      its_place goes kept
      (same_more made before.at between.at before.requests between.requests before.side between.side looked call.next at_same requests_same side_same there_same
      (record { up = reads_up looked before.requests up; down = reads_down looked before.side down })) once

  -- ---- a request goes up, or all of it was sent

  abbrev Gone : Type 0
  Gone = GoneTo made stage seen risen.at risen.requests risen.side call.gone (sent_on stage sent) out call.raised

  gone_rising : is_rising looked ≡ true → Gone
  gone_rising is =
      requests_go_up made before.at risen.at seen before.requests risen.requests before.side risen.side moment before.client_closed out call.raised sent now stage looked call.gone is_ready place is
      (subst (λ (t : Terms). GoesUp t.place before.at risen.at moment looked call.gone before.requests risen.requests before.side risen.side out call.raised) terms call.rises.goes)

  gone_resting : is_rising looked ≡ false → is_passing looked ≡ true → Gone
  gone_resting up down =
      let same : stage_of before.at looked ≡ stage = is_ready.is_stage in
      let (rest, same_requests) = rested up in
      same_gone made before.at risen.at before.requests risen.requests before.side risen.side looked call.gone rest.same same_requests rest.same_side rest.is_there stage seen (sent_on stage sent) out call.raised rest.gives
      (subst (λ s. GoneTo made s seen before.at before.requests before.side looked (sent_on s sent) out out) same
      (gone_none made before.at looked seen before.requests before.side sent out up down (subst (λ s. IsReady made before.at before.requests before.side looked s seen sent) (sym same) is_ready)))

  -- ---- and a response comes down, or waits

  module _ (one : IsOneOf looked) (gt : Gone) where
    abbrev going : Stage
    going = gone_up made stage seen

    abbrev left : Sight
    left = sight_gone made stage seen

    shut : before.client_closed ≡ seen.closed
    shut = closed_where before.at looked seen before.at before.client_closed one (subst (λ s. HasPlace s seen before.at before.client_closed) (sym is_ready.is_stage) place)

    place_gone : HasPlace going left risen.at risen.client_closed
    place_gone =
        let keeps = gone_up_keeps made stage seen in
        subst (λ s. HasPlace s left risen.at risen.client_closed) gt.is_ready.is_stage (place_at risen.at call.gone left risen.client_closed (call.rises.client ∙ (shut ∙ sym keeps.closed)))

    abbrev Come : Type 0
    Come = CameTo made going left between.at between.requests between.side call.next (sent_on going gt.sent) call.raised call.given

    come_by : (b : Bool) → is_passing call.gone ≡ b → PassedBy b risen between moment call.gone call.next call.passes.middle call.raised call.given → Come
    come_by true is (passed, requests, side) =
        let keeps = gone_up_keeps made stage seen in
        subst (λ s. CameTo made going left between.at between.requests s call.next (sent_on going gt.sent) call.raised call.given) (sym side)
        (passes_follow made risen.at between.at left risen.requests between.requests risen.side call.passes.middle moment risen.client_closed call.raised call.given gt.sent (now ∙ sym keeps.now) going call.gone call.next
        gt.is_ready place_gone gt.is_gone gt.no_more is
        (subst (λ (t : Terms). Passed t.place risen.at between.at moment (used_in risen.side) risen.client_closed call.gone call.next risen.side call.passes.middle call.raised call.given) (call.rises.terms ∙ terms) passed)
        requests)
    come_by false is (held, requests, side) =
        let same : stage_of risen.at call.gone ≡ going = gt.is_ready.is_stage in
        let come : IsCome going left = subst (λ s. IsCome s left) same
        (still risen.at call.gone left gt.sent risen.side is (subst (λ s. HasSide s left gt.sent call.gone risen.side) (sym same) gt.is_ready.has_side)) in
        let goes : sequence going ≡ going = subst (λ s. sequence s ≡ s) same
        (sequence_at made risen.at call.gone left gt.sent.up risen.requests (subst (λ s. HasRequest made s left gt.sent.up call.gone risen.requests) (sym same) gt.is_ready.request)) in
        let stays = come_stays made going left come in
        let to_same : sequence (come_down made going left).stage ≡ going = ap (λ (t : Turn Stage Command). sequence t.stage) stays.goes ∙ goes in
        let its : List Command = sent_on going gt.sent in record {
          sent = gt.sent;
          more = [];
          grown = held.gives ∙ sym (append-nil call.raised);
          owes = λ view. ap (seen_of view)
              (append-nil its ∙ sym (ap (λ (t : Turn Stage Command). t.owed ++ sent_on (sequence t.stage) gt.sent) stays.goes ∙ ap (λ s. sent_on s gt.sent) goes));
          is_ready = subst (λ s. IsReady made between.at between.requests between.side call.next s (sight_come going left) gt.sent) (sym to_same)
              (subst (λ v. IsReady made between.at between.requests between.side call.next going v gt.sent) (sym stays.left)
              (same_ready made risen.at between.at risen.requests between.requests risen.side between.side call.gone call.next held.same requests side held.is_there going left gt.sent gt.is_ready));
          is_passed = subst (λ s. IsPassed made.place s (sight_come going left)) (sym to_same) (subst (IsPassed made.place going) (sym stays.left) (record { gone = gt.is_gone; come = come }));
          no_more = same_more made risen.at between.at risen.requests between.requests risen.side between.side call.gone call.next held.same requests side held.is_there
              (record { up = gt.no_more; down = reads_down call.gone risen.side is });
        }

    -- one behind the other
    passed_by : Come → PassedTo made stage seen between.at between.requests between.side call.next (sent_on stage sent) out call.given
    passed_by ct =
        let up : List Command = (end_up made (begin_up made stage seen) (sight_begun stage seen)).owed in
        let down : List Command = (come_down made going left).owed in
        let last : List Command = sent_on (passed_to made stage seen) ct.sent in record {
          sent = ct.sent;
          more = gt.more ++ ct.more;
          grown = ct.grown ∙ (ap (λ l. l ++ ct.more) gt.grown ∙ append_assoc out gt.more ct.more);
          owes = λ view. join_views view (sent_on stage sent) gt.more ct.more up (sent_on going gt.sent) (down ++ last) (gt.owes view) (ct.owes view)
              ∙ ap (seen_of view) (sym (append_assoc up down last));
          is_ready = ct.is_ready;
          is_passed = ct.is_passed;
          no_more = ct.no_more;
        }

    -- It passed, and looks where it passed to.
    looked_behind : PassedTo made stage seen between.at between.requests between.side call.next (sent_on stage sent) out call.given → AdvancedTo made after stage seen sent out longer
    looked_behind passed =
        let to : Stage = passed_to made stage seen in
        let past : Sight = sight_past made stage seen in
        let keeps = past_keeps made stage seen in
        let its_place : HasPlace to past between.at between.client_closed =
        subst (λ s. HasPlace s past between.at between.client_closed) passed.is_ready.is_stage
        (place_at between.at call.next past between.client_closed (call.passes.client ∙ (call.rises.client ∙ (shut ∙ sym keeps.closed)))) in
        let once : pass made to past ≡ goes_to to = (onward_stays sequence (is_sequence refl) made (pass made stage seen).stage past (passes_once made stage seen)).goes in
        let stays = once_stays made to past passed.is_passed once in
        let stage_same : (pass made to past).stage ≡ to = ap (λ (t : Turn Stage Command). t.stage) once in
        let goes : sequence to ≡ to = onward_twice sequence (is_sequence refl) (pass made stage seen).stage in
        let its_terms : between.terms ≡ made = call.passes.terms ∙ (call.rises.terms ∙ terms) in
        let to_apart : NoneParked to = sequence_apart (pass made stage seen).stage (pass_apart made stage seen apart) in
        let at_there = looked_there made between after moment call.next call.given longer to past passed.sent to_apart its_terms (now ∙ sym keeps.now) passed.is_ready its_place goes passed.is_passed passed.no_more call.looks in
        let in_there = looked_in made between after moment call.next call.given longer to past passed.sent to_apart its_terms (now ∙ sym keeps.now) passed.is_ready its_place goes passed.is_passed passed.no_more call.looks in
        let same : owed_at made (pass made to past).stage (sight_past made to past) ≡ owed_at made to past = ap (λ s. owed_at made s (sight_past made to past)) stage_same ∙ ap (λ s. owed_at made to s) stays.left in
        record {
          more = passed.more ++ at_there.more;
          grown = at_there.grown ∙ (ap (λ l. l ++ at_there.more) passed.grown ∙ append_assoc out passed.more at_there.more);
          owes = λ view. join_views view (sent_on stage sent) passed.more at_there.more (pass made stage seen).owed (sent_on to passed.sent) (owed_at made to past)
              (passed.owes view) (at_there.owes view ∙ ap (seen_of view) same);
          is_in = subst (λ s. IsIn made after to s) stays.left (subst (λ s. IsIn made after s (sight_past made to past)) stage_same in_there);
        }

    looked_on : AdvancedTo made after stage seen sent out longer
    looked_on = looked_behind (passed_by (come_by (is_passing call.gone) refl call.passes.passes))

  advances_by : (up down : Bool) → is_rising looked ≡ up → is_passing looked ≡ down → AdvancedTo made after stage seen sent out longer
  advances_by false false rises passes = looked_only rises passes
  advances_by true down rises passes = looked_on (one_rises looked rises) (gone_rising rises)
  advances_by false true rises passes = looked_on (one_passes looked passes) (gone_resting rises passes)

  -- What it gave is in each view what is owed there, and it is where the chain is behind passing and looking.
  pub advances_to : AdvancedTo made after stage seen sent out longer
  advances_to = advances_by (is_rising looked) (is_passing looked) refl refl
