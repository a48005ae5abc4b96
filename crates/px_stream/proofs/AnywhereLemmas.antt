-- A stream that begins where others have been: anew, with what they have left, or with a flow whose request they have read.
use Rattle.std.proofs.Common.{rules, ◌≡◌, ℕ, ◌+◌, ◌<◌, ◌≤◌, Bool, true, false, List, [], ◌∷◌, ◌++◌, Option, Some, None, refl, ap, sym, ◌∙◌, subst, append_assoc, arith, option_to_list}
use Rattle.std.specs.List.{flat_map}
use Rattle.std.specs.Prelude.{◌==◌, ⊤}
use Rattle.std.proofs.lemmas.Grind.{flat_map-append}
use Rattle.px_message.specs.declared.flow.Flow.{Flow}
use Rattle.px_message.specs.declared.response.Response.{Response}
use Rattle.px_event.specs.declared.command.Command.{Command}
use Rattle.px_event.specs.declared.event.Event.{Event}
use Rattle.px_event.specs.Chain.{Timed, NotYet, found_with}
use Rattle.px_event.specs.Laws.{owed_over}
use Rattle.px_event.specs.Layer.{AsksOnly, asks_in}
use Rattle.px_event.specs.View.{View, questions, seen_of}
use Rattle.px_event.proofs.Seen.{seen_append}
use Rattle.px_read.specs.Items.{missing, request_item}
use Rattle.px_read.specs.Reader.{State, request, Reads, before_all}
use Rattle.px_exchange.specs.declared.terms.Terms.{Terms}
use Rattle.px_exchange.specs.declared.ending.Used.{Used}
use Rattle.px_exchange.specs.Endings.{shut_server}
use Rattle.px_exchange.specs.Finds.{look_head, or_leaves}
use Rattle.px_chain.specs.Chain.{begin, behind, http_chain, look, pass, sequence, sight_past, so_far, waits_at}
use Rattle.px_chain.specs.Keeping.{is_silent, shut_by_byte, shut_stray, strays}
use Rattle.px_chain.specs.Left.{behind_left, stages_left}
use Rattle.px_chain.specs.Sights.{Sight, Standing, server_parked, sight_of, sight_over}
use Rattle.px_chain.specs.Stages.{At, Parked, Stage, busy, coming_down, idle, response_body, side_parked}
use Rattle.px_chain.proofs.KeepingLaws.{nothing_strays, silent_nothing}
use Rattle.px_chain.proofs.Quiet.{any_flow}
use Rattle.px_chain.proofs.QuietLemmas.{so_far_quiet}
use Rattle.px_stream.specs.declared.link.Link.{Link}
use Rattle.px_stream.specs.declared.phase.Wanted.{Wanted}
use Rattle.px_stream.specs.declared.phase.Wanted.TheVariants as ready
use Rattle.px_stream.specs.declared.stream.Stream.{Stream}
use Rattle.px_stream.specs.Anywhere.{ended_reader, Begins, BeginsThere, GoesOnWith, IsCounted, IsFew, IsInSequence, IsNew, MayBegin, MayGoOn, Waits, doing_by, unheard}
use Rattle.px_stream.specs.Heard.{feeds, parked_behind, shut_if, shut_waiting, stray_by, stray_of, unless_heard, unless_of}
use Rattle.px_stream.specs.GoingUp.{MayGoUp}
use Rattle.px_stream.specs.Looks.{MayLook}
use Rattle.px_stream.specs.Passes.{Advances, MayPass}
use Rattle.px_stream.specs.Stands.{IsBehind, IsReady, Keeps, NoneParked, PhaseAt, SentOn, WaitsUp, awaits, going_in, none_sent, parked_link, sent_at, sent_on, silent_link, stage_of, unread_link}
use Rattle.px_stream.specs.Tells.{left_by, sequence_left}
use Rattle.px_stream.proofs.QuietLemmas.{missing_quiet}
use Rattle.px_stream.proofs.AdvanceLemmas.{AdvancedTo, advances_to, owed_in, passed_to}
use Rattle.px_stream.proofs.CallLemmas.{at_walked, gives_walked, may_go_up, may_look, same_tail}
use Rattle.px_stream.proofs.FirstLemmas.{all_going, how_is}
use Rattle.px_stream.proofs.MoveLemmas.{ask_atoms, asks_by, asks_seen, at_most, pass_few, pass_silent, quiet_seen}
use Rattle.px_stream.proofs.TurnLemmas.{sent_none}
use Rattle.px_stream.proofs.UnreadLemmas.{reads_first}

-- what a stage owes while it waits asks nothing
nothing_last : {A : Type 0} (xs ys : List A) → xs ++ ys ≡ [] → ys ≡ []
nothing_last [] ys is = is
nothing_last (x ∷ xs) ys is = absurd (let e : x ∷ (xs ++ ys) ≡ [] = is in cc)

waits_silent : (made : Terms) (stage : Stage) (seen : Sight) → seen_of questions (waits_at made stage seen) ≡ []
waits_silent made stage seen =
    nothing_last (seen_of questions (strays stage seen)) (seen_of questions (waits_at made stage seen))
    (sym (seen_append questions (strays stage seen) (waits_at made stage seen)) ∙ quiet_seen (so_far made stage seen) (so_far_quiet any_flow made stage seen))

-- what is asked where it went on and looked is awaited, where what was sent on before asks nothing
pub looked_asks : (made : Terms) (after : Stream) (stage : Stage) (seen : Sight) (sent : SentOn) (out longer : List Command) (got : AdvancedTo made after stage seen sent out longer) →
    seen_of questions (sent_on stage sent) ≡ [] → flat_map asks_in got.more ≡ option_to_list (awaits after)
looked_asks made after stage seen sent out longer got silent =
    let there : Stage = passed_to made stage seen in
    let sees : Sight = sight_past made stage seen in
    let owed : List Command = (pass made stage seen).owed in
    let fw : List Command = found_with (behind there sees) (look made there sees) in
    let rest : List Command = waits_at made there sees ++ fw in
    asks_seen got.more
    ∙ (ap (flat_map ask_atoms)
    (ap (λ l. l ++ seen_of questions got.more) (sym silent)
    ∙ (sym (seen_append questions (sent_on stage sent) got.more)
    ∙ (got.owes questions ∙ (seen_append questions owed rest ∙ (ap (λ l. l ++ seen_of questions rest) (pass_silent made stage seen)
    ∙ (seen_append questions (waits_at made there sees) fw ∙ ap (λ l. l ++ seen_of questions fw) (waits_silent made there sees)))))))
    ∙ asks_by (look made there sees) made after.at after.requests after.side after.phase there sees refl got.is_in.phase)

-- What was given before and what is given are what is owed there.
pub gives_all : (made : Terms) (after : Stream) (place : Standing) (prefix : List (Timed Event)) (sent : SentOn) (out longer more : List Command)
    (got : AdvancedTo made after place.stage (sight_over place prefix) sent out longer) → strays place.stage (sight_over place prefix) ++ (sent_on place.stage sent ++ got.more) ≡ more → (view : View) →
    seen_of view more ≡ seen_of view (owed_over (http_chain sequence made) place prefix)
gives_all made after place prefix sent out longer more got same view =
    let seen : Sight = sight_over place prefix in
    let stray : List Command = strays place.stage seen in
    let all : List Command = sent_on place.stage sent ++ got.more in
    gives_walked made place prefix seen refl view [] more
    (ap (seen_of view) (sym same)
    ∙ (seen_append view stray all ∙ (ap (λ l. seen_of view stray ++ l) (got.owes view) ∙ sym (seen_append view stray (owed_in made place.stage seen)))))

-- ---- where it goes on without an answer only behind a look

abbrev pub PassesNone : Stage → Type 0
PassesNone (busy at flow (response_body server how most)) = ⊥
PassesNone (busy at flow (coming_down server how)) = ⊥
PassesNone stage = ⊤

pub none_passes : (at : At) (looked : Wanted) (side : Option Link) → PassesNone (stage_of at looked) → MayPass at looked side
none_passes at ready.Idle side none = tt
none_passes at (ready.RequestBody flow given most body held) side none = tt
none_passes at (ready.Connection flow up) side none = tt
none_passes at (ready.ResponseHead flow server up) side none = tt
none_passes at (ready.ResponseBody flow server up most body held) side none = absurd none
none_passes at (ready.ComingDown flow server up sent) side none = absurd none
none_passes at (ready.Upgraded flow server) side none = tt
none_passes at (ready.GivenHead flow) side none = tt
none_passes at (ready.GivenBody flow) side none = tt
none_passes at (ready.Connects address) side none = tt
none_passes at ready.Over side none = tt

-- ---- a new stream

unheard_is : (parked : Option Parked) →
    unheard parked ≡ parked_link parked (sight_of (side_parked parked) (record { events = 0; moment = 0 }) 0 (record { client = 0; server = 0 }) 0 [])
unheard_is None = refl
unheard_is (Some parked) = refl

-- it awaits a request
pub waits_first_look : (state : Stream) → IsNew state → look state.terms (idle state.at) (sight_over (begin (idle state.at)) []) ≡ NotYet
waits_first_look state is_new =
    let used : Used = server_parked state.at.parked (sight_over (begin (idle state.at)) []) in
    let none : request_item [] ≡ missing = refl in
    ap (λ i. or_leaves false (shut_server used) (look_head state.terms state.at.flow i 0 used false)) none

-- It stands where flows in sequence begin.
pub stands_first : (state : Stream) → IsNew state → state.at.flow < 1000000 → (ahead : ℕ) → state.at.dials ≤ state.at.flow + ahead → ahead ≤ 1 →
    IsInSequence state.terms ahead state (begin (idle state.at)) []
stands_first state is_new few ahead dials small =
    let nothing : Sight = sight_over (begin (idle state.at)) [] in
    let reads : Reads request [] [] false state.requests = subst (λ s. Reads request [] [] false s) (sym is_new.requests) (reads_first request [] false) in
    record {
      is_at = record {
        within = record { since = omega arith; opened = omega arith; client = omega arith; server = omega arith };
        is_in = record {
          terms = refl;
          apart = tt;
          place = record { is_here = refl; client = is_new.client };
          phase = subst (λ l. PhaseAt l state.terms state.at state.requests state.side state.phase (idle state.at) nothing) (sym (waits_first_look state is_new))
              (ready.Idle, none_sent, is_new.phase, record { is_stage = refl; request = reads; has_side = is_new.side ∙ unheard_is state.at.parked }, λ view. refl, missing_quiet [] state.requests reads refl);
        };
      };
      few = record { few = few; dials = dials };
      small = small;
    }

-- ---- with what others have left

same_server : (server : ℕ) → (server == server) ≡ true
same_server server = search rules

heard_there : (server : ℕ) (waiting : List ℕ) → unless_heard server waiting (Some (unread_link server false [] false)) ≡ silent_link (is_silent waiting false) server
heard_there server [] = refl
heard_there server (byte ∷ more) = ap (λ b. unless_of b (Some (unread_link server false [] false))) (same_server server)

-- the parked side is unheard still, or a byte of it waits
waits_there : (parked : Option Parked) (seen : Sight) (waiting : List ℕ) → Waits parked seen waiting → parked_behind waiting parked (unheard parked) ≡ parked_link parked seen
waits_there None seen waiting is = refl
waits_there (Some parked) seen waiting (come, unshut) =
    heard_there parked.server waiting ∙ (ap (λ l. silent_link (is_silent l false) parked.server) (sym come) ∙ ap (λ b. silent_link (is_silent seen.server b) parked.server) (sym unshut))

-- and then it is closed
shut_there : (parked : Parked) (waiting : List ℕ) → shut_waiting waiting (Some parked) (unheard (Some parked)) ≡ shut_by_byte parked.server waiting
shut_there parked [] = refl
shut_there parked (byte ∷ more) = ap (λ b. shut_if (stray_of b parked.server)) (same_server parked.server)

shuts_there : (parked : Option Parked) (seen : Sight) (waiting : List ℕ) → Waits parked seen waiting → shut_waiting waiting parked (unheard parked) ≡ shut_stray parked seen
shuts_there None seen waiting is = refl
shuts_there (Some parked) seen waiting (come, unshut) = shut_there parked waiting ∙ ap (λ l. shut_by_byte parked.server l) (sym come)

shut_silent : (stray : Option ℕ) → flat_map asks_in (shut_if stray) ≡ []
shut_silent None = refl
shut_silent (Some server) = refl

shuts_silent : (waiting : List ℕ) (parked : Option Parked) (side : Option Link) → flat_map asks_in (shut_waiting waiting parked side) ≡ []
shuts_silent waiting None side = refl
shuts_silent waiting (Some parked) side = shut_silent (stray_by parked.server waiting side)

waits_first : (parked : Option Parked) (rest waiting : List ℕ) (closed : Bool) (moment : ℕ) → Waits parked (record { client = rest; closed = closed; server = waiting; shut = false; told = 0; now = moment }) waiting
waits_first None rest waiting closed moment = tt
waits_first (Some parked) rest waiting closed moment = (refl, refl)

module _ (before mid after : Stream) (moment : ℕ) (closed : Bool) (rest waiting : List ℕ) (out given longer : List Command) (is_new : IsNew before) (terms : mid.terms ≡ before.terms) (at : mid.at ≡ before.at)
    (client : mid.client_closed ≡ closed) (kept : mid.requests ≡ feeds rest before.requests) (heard : mid.side ≡ parked_behind waiting before.at.parked before.side)
    (gives : given ≡ out ++ shut_waiting waiting before.at.parked before.side) (once : Advances mid after moment ready.Idle given longer) where
  -- in a sight of these bytes
  begun_in : (made : Terms) (seen : Sight) → before.terms ≡ made → seen.client ≡ rest → seen.closed ≡ closed → Waits before.at.parked seen waiting → moment ≡ seen.now →
      AdvancedTo made after (idle before.at) seen none_sent given longer
  begun_in made seen is come shut waits now =
      let read : mid.requests ≡ before_all request rest false = kept ∙ ap (feeds rest) is_new.requests in
      let reads : Reads request [] seen.client false mid.requests =
      subst (λ s. Reads request [] seen.client false s) (sym read) (subst (λ l. Reads request [] l false (before_all request rest false)) (sym come) (reads_first request rest false)) in
      let side : mid.side ≡ parked_link before.at.parked seen =
      heard ∙ (ap (parked_behind waiting before.at.parked) is_new.side ∙ waits_there before.at.parked seen waiting waits) in
      advances_to made mid after moment ready.Idle given longer (idle before.at) seen none_sent tt (terms ∙ is) now
      (record { is_stage = ap idle at; request = reads; has_side = side }) (record { is_here = at; client = client ∙ sym shut }) once

  abbrev canonical : AdvancedTo before.terms after (idle before.at) (record { client = rest; closed = closed; server = waiting; shut = false; told = 0; now = moment }) none_sent given longer
  canonical = begun_in before.terms (record { client = rest; closed = closed; server = waiting; shut = false; told = 0; now = moment }) refl refl refl (waits_first before.at.parked rest waiting closed moment) refl

  abbrev shut : List Command
  shut = shut_waiting waiting before.at.parked before.side

  -- what is given in all
  abbrev adds : List Command
  adds = shut ++ canonical.more

  added : longer ≡ out ++ adds
  added = canonical.grown ∙ (ap (λ l. l ++ canonical.more) gives ∙ append_assoc out shut canonical.more)

  begins_by : (made : Terms) (ahead : ℕ) (place : Standing) (prefix : List (Timed Event)) → MayBegin made ahead before moment closed rest waiting place prefix → BeginsThere made ahead after adds place prefix
  begins_by made ahead place prefix may =
      let seen : Sight = sight_over place prefix in
      let got = subst (λ s. AdvancedTo made after s seen none_sent given longer) (sym may.stage) (begun_in made seen may.terms may.come may.client may.waits may.now) in
      let same : got.more ≡ canonical.more = same_tail given got.more canonical.more (sym got.grown ∙ canonical.grown) in
      let closes : strays place.stage seen ≡ shut =
      ap (λ s. strays s seen) may.stage ∙ (sym (shuts_there before.at.parked seen waiting may.waits) ∙ ap (shut_waiting waiting before.at.parked) (sym is_new.side)) in
      record {
        is_there = record {
          is_at = at_walked made place prefix seen refl after may.within got.is_in;
          few = subst (λ s. IsFew ahead (sequence (pass made s seen).stage)) (sym may.stage) may.few;
          small = may.small;
        };
        gives = gives_all made after place prefix none_sent given longer adds got
            (ap (λ l. l ++ (sent_on place.stage none_sent ++ got.more)) closes ∙ ap (λ l. shut ++ l) (ap (λ l. l ++ got.more) (sent_none place.stage) ∙ same));
      }

  pub begins_with : Begins before after moment closed rest waiting out longer
  begins_with = record { more = adds; grown = added; begins = begins_by }

  pub begin_asks : AsksOnly (awaits after) out longer
  begin_asks = (
    adds,
    added,
    flat_map-append asks_in shut canonical.more
        ∙ (ap (λ l. l ++ flat_map asks_in canonical.more) (shuts_silent waiting before.at.parked before.side) ∙ looked_asks before.terms after (idle before.at) _ none_sent given longer canonical refl),
  )

  pub begin_left : sequence_left after ≤ sequence_left before
  begin_left =
      let most = at_most before.terms after (idle before.at) _ canonical.is_in in
      let first : sequence_left before ≡ stages_left (idle before.at) = ap (left_by before.at) is_new.phase in
      omega arith

-- ---- with a flow whose request others have read

few_for : (given : Option Response) (ahead : ℕ) (at : At) (flow : Flow) → IsCounted ahead at → IsFew ahead (busy at flow (doing_by given))
few_for None ahead at flow few = few
few_for (Some response) ahead at flow few = let f = few.few in let d = few.dials in record { few = f; dials = omega arith }

few_there : (terms : Terms) (given : Option Response) (ahead : ℕ) (at : At) (flow : Flow) (seen : Sight) → IsCounted ahead at → IsFew ahead (sequence (pass terms (busy at flow (doing_by given)) seen).stage)
few_there terms given ahead at flow seen few = pass_few ahead terms (busy at flow (doing_by given)) seen (few_for given ahead at flow few)

still_there : (given : Option Response) (at : At) (flow : Flow) → PassesNone (busy at flow (doing_by given))
still_there None at flow = tt
still_there (Some response) at flow = tt

apart_there : (given : Option Response) (at : At) (flow : Flow) → NoneParked (busy at flow (doing_by given))
apart_there None at flow = tt
apart_there (Some response) at flow = tt

-- of a parked side that is unheard still nothing came
unheard_silent : (silent : Bool) (parked : Parked) (seen : Sight) → is_silent seen.server seen.shut ≡ silent → unheard (Some parked) ≡ silent_link silent parked.server → shut_stray (Some parked) seen ≡ []
unheard_silent true parked seen is same = nothing_strays (Some parked) seen (silent_nothing seen.server seen.shut is).empty
unheard_silent false parked seen is same = absurd (let no : Some (unread_link parked.server false [] false) ≡ None = same in cc)

unheard_strays : (parked : Option Parked) (seen : Sight) → unheard parked ≡ parked_link parked seen → shut_stray parked seen ≡ []
unheard_strays None seen same = refl
unheard_strays (Some parked) seen same = unheard_silent (is_silent seen.server seen.shut) parked seen refl same

none_strays : (given : Option Response) (at : At) (flow : Flow) (seen : Sight) → unheard at.parked ≡ parked_link at.parked seen → strays (busy at flow (doing_by given)) seen ≡ []
none_strays None at flow seen same = unheard_strays at.parked seen same
none_strays (Some response) at flow seen same = unheard_strays at.parked seen same

left_there : (terms : Terms) (given : Option Response) (at : At) (flow : Flow) (seen : Sight) → stages_left (sequence (pass terms (busy at flow (doing_by given)) seen).stage) ≤ behind_left at.flow + 5
left_there terms None at flow seen = omega arith
left_there terms (Some response) at flow seen = omega arith

unheard_there : (parked : Option Parked) (moment : ℕ) → unheard parked ≡ parked_link parked (record { client = []; closed = false; server = []; shut = false; told = 0; now = moment })
unheard_there None moment = refl
unheard_there (Some parked) moment = refl

-- the reader stands behind that request
keeps_none : (bytes : List ℕ) (requests : State) → bytes ≡ [] → requests ≡ ended_reader → Keeps bytes requests
keeps_none bytes requests come new = record {
  rest = ap (λ (s : State). s.rest) new ∙ sym come;
  open_still = ap (λ (s : State). s.closed) new;
  behind = subst (λ (s : State). IsBehind s.place) (sym new) (omega arith);
}

ready_there : (terms : Terms) (given : Option Response) (at : At) (flow : Flow) (seen : Sight) (requests : State) (side : Option Link) (looked : Wanted) → stage_of at looked ≡ busy at flow (doing_by given) →
    seen.client ≡ [] → requests ≡ ended_reader → side ≡ parked_link at.parked seen → IsReady terms at requests side looked (busy at flow (doing_by given)) seen none_sent
ready_there terms None at flow seen requests side looked is come new parked =
    let none : going_in looked ≡ None = all_going looked (sym (how_is at looked) ∙ ap sent_at is) in
    record {
      is_stage = is;
      request = subst (λ o. WaitsUp terms flow seen o requests) (sym none) (keeps_none seen.client requests come new);
      has_side = parked;
    }
ready_there terms (Some response) at flow seen requests side looked is come new parked =
    record { is_stage = is; request = keeps_none seen.client requests come new; has_side = parked }

-- the reader of the client stands behind that request
module _ (before : Stream) (moment : ℕ) (flow : Flow) (requests : State) (behind : requests ≡ ended_reader) (is_new : IsNew before) (looked : Wanted) (is : stage_of before.at looked ≡ busy before.at flow (doing_by flow.response)) where
  abbrev mid : Stream
  mid = record before { requests = requests }

  abbrev goes : Stage
  goes = busy before.at flow (doing_by flow.response)

  -- it may go on there
  pub goes_on_passes : MayPass before.at looked before.side
  goes_on_passes = none_passes before.at looked before.side (subst PassesNone (sym is) (still_there flow.response before.at flow))

  -- in a sight of nothing
  abbrev sees : Sight
  sees = record { client = []; closed = false; server = []; shut = false; told = 0; now = moment }

  ready_first : IsReady before.terms before.at requests before.side looked goes sees none_sent
  ready_first = ready_there before.terms flow.response before.at flow sees requests before.side looked is refl behind (is_new.side ∙ unheard_there before.at.parked moment)

  pub goes_on_up : MayGoUp looked requests
  goes_on_up = may_go_up before.terms before.at requests before.side looked goes sees none_sent ready_first

  -- and look
  pub goes_on_looks : MayLook looked requests before.side
  goes_on_looks = may_look before.terms before.at requests before.side looked goes sees none_sent ready_first

  module _ (after : Stream) (out longer : List Command) (once : Advances mid after moment looked out longer) where
    goes_in : (made : Terms) (seen : Sight) → before.terms ≡ made → seen.client ≡ [] → seen.closed ≡ false → before.side ≡ parked_link before.at.parked seen → moment ≡ seen.now →
        AdvancedTo made after goes seen none_sent out longer
    goes_in made seen terms come shut parked now =
        advances_to made mid after moment looked out longer goes seen none_sent (apart_there flow.response before.at flow) terms now (ready_there made flow.response before.at flow seen requests before.side looked is come behind parked)
        (record { is_here = refl; client = is_new.client ∙ sym shut }) once

    abbrev going : AdvancedTo before.terms after goes (record { client = []; closed = false; server = []; shut = false; told = 0; now = moment }) none_sent out longer
    going = goes_in before.terms (record { client = []; closed = false; server = []; shut = false; told = 0; now = moment }) refl refl refl (is_new.side ∙ unheard_there before.at.parked moment) refl

    goes_by : (made : Terms) (ahead : ℕ) (place : Standing) (prefix : List (Timed Event)) → MayGoOn made ahead before moment flow place prefix → BeginsThere made ahead after going.more place prefix
    goes_by made ahead place prefix may =
        let seen : Sight = sight_over place prefix in
        let got = subst (λ s. AdvancedTo made after s seen none_sent out longer) (sym may.stage) (goes_in made seen may.terms may.come may.client may.parked may.now) in
        let same : got.more ≡ going.more = same_tail out got.more going.more (sym got.grown ∙ going.grown) in
        let none : strays place.stage seen ≡ [] = ap (λ s. strays s seen) may.stage ∙ none_strays flow.response before.at flow seen (sym is_new.side ∙ may.parked) in
        record {
          is_there = record {
            is_at = at_walked made place prefix seen refl after may.within got.is_in;
            few = subst (λ s. IsFew ahead (sequence (pass made s seen).stage)) (sym may.stage) (few_there made flow.response ahead before.at flow seen may.few);
            small = may.small;
          };
          gives = gives_all made after place prefix none_sent out longer going.more got
              (ap (λ l. l ++ (sent_on place.stage none_sent ++ got.more)) none ∙ (ap (λ l. l ++ got.more) (sent_none place.stage) ∙ same));
        }

    pub goes_on_with : GoesOnWith before after moment flow out longer
    goes_on_with = record { more = going.more; grown = going.grown; goes_on = goes_by }

    pub goes_on_asks : AsksOnly (awaits after) out longer
    goes_on_asks = (going.more, going.grown, looked_asks before.terms after goes _ none_sent out longer going (ap (seen_of questions) (sent_none goes)))

    pub goes_on_left : sequence_left after ≤ sequence_left before
    goes_on_left =
        let most = at_most before.terms after _ _ going.is_in in
        let there = left_there before.terms flow.response before.at flow (record { client = []; closed = false; server = []; shut = false; told = 0; now = moment }) in
        let first : sequence_left before ≡ stages_left (idle before.at) = ap (left_by before.at) is_new.phase in
        omega arith
