-- The flow, whose request is whole, goes on as a stream of its own: it is where the chain goes on with it.
use Rattle.std.proofs.Common.{◌≡◌, ℕ, Bool, true, false, List, [], ◌++◌, drop, Option, Some, None, refl, ap, sym, ◌∙◌, subst, arith}
use Rattle.std.specs.Prelude.{option_to_list}
use Rattle.std.specs.Global.{Box}
use Rattle.std.specs.List.{flat_map}
use Rattle.std.proofs.lemmas.List.{append-nil}
use Rattle.px_message.specs.declared.address.Address.{Address}
use Rattle.px_message.specs.declared.flow.Flow.{Flow}
use Rattle.px_message.specs.declared.request.Request.{Request}
use Rattle.px_message.specs.declared.response.Response.{Response}
use Rattle.px_event.specs.declared.ask.Hook.TheVariants.{ResponseHead}
use Rattle.px_event.specs.declared.command.Command.{Command}
use Rattle.px_event.specs.declared.command.Command.TheVariants as commands
use Rattle.px_event.specs.declared.event.Event.{Event}
use Rattle.px_event.specs.declared.side.Side.TheVariants.{Client}
use Rattle.px_event.specs.Chain.{Timed, Look, NotYet, Asks, Ends, found}
use Rattle.px_event.specs.Laws.{owed_over}
use Rattle.px_event.specs.Layer.{AsksOnly, asks_in}
use Rattle.px_event.specs.View.{seen_of}
use Rattle.px_event.proofs.Seen.{seen_append}
use Rattle.px_read.specs.Reader.{State}
use Rattle.px_exchange.specs.declared.terms.Terms.{Terms}
use Rattle.px_exchange.specs.Finds.{or_leaves}
use Rattle.px_exchange.specs.Flows.{ask_of}
use Rattle.px_exchange.specs.Places.{dialled_for}
use Rattle.px_chain.specs.Chain.{given_at, look, pass, sequence}
use Rattle.px_chain.specs.Sights.{Sight, Standing, sight_over}
use Rattle.px_chain.specs.Stages.{At, Parked, busy}
use Rattle.px_chain.specs.Stages as flows
use Rattle.px_chain.specs.Streams.{bytes_of}
use Rattle.px_chain.proofs.FrontLaws.{now_here}
use Rattle.px_stream.specs.declared.link.Link.{Link}
use Rattle.px_stream.specs.declared.phase.Asked.{Asked}
use Rattle.px_stream.specs.declared.phase.Phase.{Phase}
use Rattle.px_stream.specs.declared.phase.Phase.TheVariants as phase
use Rattle.px_stream.specs.declared.stream.Stream.{Stream}
use Rattle.px_stream.specs.Anywhere.{BeginsThere, GoesOnWith, IsCounted, IsNew, MayGoOn, doing_by, unheard}
use Rattle.px_stream.specs.Tells.{is_idle, outcome_in}
use Rattle.px_stream.specs.Stands.{PhaseAt, awaits, parked_link}
use Rattle.px_resend.specs.declared.child.Child.TheVariants as children
use Rattle.px_resend.specs.Chain.{first_at, flows_of, going, going_at, goes_on, resend_chain, terms_by}
use Rattle.px_resend.specs.Heard.{all_of_servers, to_servers}
use Rattle.px_resend.specs.Kept.{awaited_by}
use Rattle.px_resend.specs.Steps.{Adds, Arrives, Follows, FollowsAs, GoesOnAs}
use Rattle.px_resend.proofs.FollowLemmas.{follows_at}
use Rattle.px_resend.proofs.GoingLemmas.{owed_passed}
use Rattle.px_resend.proofs.HeardLemmas.{never_closed, no_bytes, servers_alike, servers_asked}
use Rattle.px_resend.proofs.ApartLemmas.{StandsApart, busy_apart, first_unparked, passed_on, still_unparked}

-- ---- a stream of this place

-- What a stream is that was made for it.
pub record IsMadeFor (conv : ℕ) (proxy : Option Address) (state : Stream) : Type 0 where
  pub terms : state.terms ≡ terms_by conv proxy
  pub at : state.at ≡ first_at
  pub is_new : IsNew state

-- ---- where it goes on

at_first : (bytes : List ℕ) → bytes ≡ [] → drop 0 bytes ≡ []
at_first bytes is = is

-- no side is parked there
none_there : (side : Option Link) (parked : Option Parked) (seen : Sight) → side ≡ unheard parked → parked ≡ None → side ≡ parked_link parked seen
none_there side parked seen is none = is ∙ (ap unheard none ∙ sym (ap (λ p. parked_link p seen) none))

may_go_on : (conv : ℕ) (proxy : Option Address) (before : Stream) (flow : Flow) (moment : ℕ) (prefix : List (Timed Event)) → IsMadeFor conv proxy before →
    MayGoOn (terms_by conv proxy) 0 before moment flow (going_at flow moment (all_of_servers prefix)) (all_of_servers prefix)
may_go_on conv proxy before flow moment prefix is =
    let heard : List (Timed Event) = all_of_servers prefix in
    let seen : Sight = sight_over (going_at flow moment heard) heard in
    let C : At → Type 0 = IsCounted 0 in
    record {
      terms = is.terms;
      stage = ap (λ at. busy at flow (doing_by flow.response)) (sym is.at);
      few = subst C (sym is.at) (record { few = omega arith; dials = omega arith });
      small = omega arith;
      come = at_first (bytes_of Client heard) (no_bytes prefix);
      client = never_closed prefix;
      parked = none_there before.side before.at.parked seen is.is_new.side (ap (λ at. at.parked) is.at);
      within = record { since = omega arith; opened = omega arith; client = omega arith; server = omega arith };
      now = sym (now_here moment heard);
    }

-- something is asked there
asks_still : (closed : Bool) (leaving : List Command) (ask : Command) → or_leaves closed leaving (Asks ask) ≡ Asks ask
asks_still true leaving ask = refl
asks_still false leaving ask = refl

asks_by : (given : Option Response) (terms : Terms) (flow : Flow) (before seen : Sight) →
    (ask : Command) × (look terms (sequence (pass terms (busy first_at flow (doing_by given)) before).stage) seen ≡ Asks ask)
asks_by None terms flow before seen =
    let ask : Command = commands.Dial first_at.dials (dialled_for terms.place flow.request) None in (ask, asks_still seen.closed [] ask)
asks_by (Some response) terms flow before seen =
    let ask : Command = ask_of (given_at flow seen.now) ResponseHead in (ask, asks_still seen.closed [] ask)

-- so an answer is awaited
asked_phase : (l : Look Command) (terms : Terms) (at : At) (requests : State) (side : Option Link) (is_here : Phase) (stage : flows.Stage) (seen : Sight) (ask : Command) → l ≡ Asks ask →
    PhaseAt l terms at requests side is_here stage seen → (awaited : Asked) × (is_here ≡ phase.Asked awaited)
asked_phase NotYet terms at requests side is_here stage seen ask is looks = absurd (let no : NotYet ≡ Asks ask = is in cc)
asked_phase (Asks one) terms at requests side is_here stage seen ask is (awaited, same, stands) = (awaited, same)
asked_phase (Ends owed) terms at requests side is_here stage seen ask is looks = absurd (let no : Ends owed ≡ Asks ask = is in cc)

-- and it is kept
follows_asked : (boxed : Box Stream) (awaited : Asked) → boxed.value.phase ≡ phase.Asked awaited → Follows boxed (children.GoesOn boxed) []
follows_asked boxed awaited is =
    let P : Phase → Type 0 = λ p. FollowsAs (is_idle p) (outcome_in p) boxed (children.GoesOn boxed) [] in subst P (sym is) (refl, refl)

module _ (conv : ℕ) (proxy : Option Address) (recorded : Request) (flow : Flow) (moment : ℕ) (before : Stream) (boxed : Box Stream) (given : List Command) where
  abbrev terms : Terms
  terms = terms_by conv proxy

  arrives : (prefix : List (Timed Event)) → BeginsThere terms 0 boxed.value given (going_at flow moment (all_of_servers prefix)) (all_of_servers prefix) →
      Arrives terms recorded (children.GoesOn boxed) (to_servers given) (going flow moment (all_of_servers prefix)) prefix
  arrives prefix there =
      let heard : List (Timed Event) = all_of_servers prefix in
      let chain = flows_of terms recorded in
      let place : Standing = going_at flow moment heard in
      let on : Standing = (chain.pass place heard).stage in
      let asks = asks_by flow.response terms flow (sight_over place heard) (sight_over on heard) in
      let asked = asked_phase (look terms on.stage (sight_over on heard)) terms boxed.value.at boxed.value.requests boxed.value.side boxed.value.phase on.stage (sight_over on heard) asks.0 asks.1
      there.is_there.is_at.is_in.phase in
      let still : StandsApart on heard = passed_on terms place heard (busy_apart place heard tt (first_unparked flow.response flow)) in
      let follows = follows_at terms recorded boxed (children.GoesOn boxed) [] on prefix there.is_there (still_unparked on heard still) (follows_asked boxed asked.0 asked.1) in
      record {
        there = follows.there;
        gives = λ view.
            let first : List Command = to_servers (chain.pass place heard).owed in
            let here : List Command = to_servers (found (chain.look on heard)) in
            servers_alike view given (owed_over chain place heard) (there.gives view)
            ∙ (ap (seen_of view) (owed_passed terms recorded place heard still)
            ∙ (seen_append view first here
            ∙ (ap (λ l. seen_of view first ++ l) (sym (append-nil (seen_of view here)) ∙ follows.gives view)
            ∙ sym (seen_append view first (found ((resend_chain terms recorded).look (goes_on on) prefix))))));
      }

  pub goes_on_there : (after : Stream) (start out between : List Command) → boxed.value ≡ after → start ≡ [] → IsMadeFor conv proxy before → GoesOnWith before after moment flow start given →
      between ≡ out ++ to_servers given → Adds (GoesOnAs terms recorded flow moment (children.GoesOn boxed)) out between
  goes_on_there after start out between same empty is went passed =
      let P : Stream → Type 0 = λ s. GoesOnWith before s moment flow start given in
      let S : List Command → Type 0 = λ l. GoesOnWith before boxed.value moment flow l given in
      let goes : GoesOnWith before boxed.value moment flow [] given = subst S empty (subst P (sym same) went) in
      record {
        more = to_servers given;
        grown = passed;
        holds = λ prefix.
            let there = goes.goes_on terms 0 (going_at flow moment (all_of_servers prefix)) (all_of_servers prefix) (may_go_on conv proxy before flow moment prefix is) in
            let B : List Command → Type 0 = λ l. BeginsThere terms 0 boxed.value l (going_at flow moment (all_of_servers prefix)) (all_of_servers prefix) in
            arrives prefix (subst B (sym goes.grown) there);
      }

-- what its stream asked is asked
pub asks_there : (boxed : Box Stream) (after : Stream) (start given out between : List Command) → boxed.value ≡ after → start ≡ [] → between ≡ out ++ to_servers given →
    AsksOnly (awaits after) start given → AsksOnly (awaited_by (children.GoesOn boxed)) out between
asks_there boxed after start given out between is empty passed (more, same, asked) = (
  to_servers given,
  passed,
  servers_asked given ∙ (ap (flat_map asks_in) (same ∙ ap (λ l. l ++ more) empty) ∙ (asked ∙ ap (λ s. option_to_list (awaits s)) (sym is))),
)
