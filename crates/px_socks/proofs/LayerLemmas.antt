-- What the layer's calls do, from what it keeps to the chain.
use Rattle.std.proofs.Common.{◌≡◌, ◌≢◌, ◌∙◌, ℕ, ◌+◌, ◌≤◌, ◌<◌, ◌==◌, ◌||◌, Bool, true, false, if◌then◌else◌, List, [], ◌∷◌, ◌++◌, append_assoc, drop, length, length-append, length-drop, Some, None, option_to_list, refl, sym, ap, subst, arith}
use Rattle.std.specs.List.{flat_map}
use Rattle.std.proofs.lemmas.Bool.{eqb-true}
use Rattle.std.proofs.lemmas.Grind.{flat_map-append}
use Rattle.std.proofs.lemmas.List.{drop-append-le, drop-drop}
use Rattle.px_message.specs.declared.address.Address.{Address}
use Rattle.px_message.proofs.AddressLemmas.{address_eq}
use Rattle.px_event.specs.declared.command.Command.{Command}
use Rattle.px_event.specs.declared.command.Command.TheVariants as commands
use Rattle.px_event.specs.declared.event.Event.{Event}
use Rattle.px_event.specs.declared.reply.Reply.{Reply}
use Rattle.px_event.specs.declared.reply.Reply.TheVariants as replies
use Rattle.px_event.specs.declared.side.Side.TheVariants.{Client}
use Rattle.px_event.specs.Chain.{Turn, found}
use Rattle.px_event.specs.Layer.{AsksOnly, asks_in}
use Rattle.px_event.specs.Sides.{closes, piece_of}
use Rattle.px_socks.specs.declared.greeting.Greeting.TheVariants.{Methods}
use Rattle.px_socks.specs.declared.layer.Phase.{Phase}
use Rattle.px_socks.specs.declared.layer.Phase.TheVariants as phases
use Rattle.px_socks.specs.declared.layer.SocksLayer.{SocksLayer}
use Rattle.px_socks.specs.Answer.{method_text}
use Rattle.px_socks.specs.Chain.{look, pass, pass_address, pass_greeting, pass_open, pass_request, turn}
use Rattle.px_socks.specs.FrontLaws.{AllToClient, open_to_client, to_client_asks_nothing, turn_to_client}
use Rattle.px_socks.specs.Greeting.{greeting_of}
use Rattle.px_socks.specs.Request.{address_with, connect, request_of}
use Rattle.px_socks.specs.Stages.{Sight, Stage, dialling, greeting, opened, over, requesting, sight_with}
use Rattle.px_socks.specs.Stands.{Advances, Answers, Asks, Hears, IsIn, IsReading, Keeps, Leads, awaits, awaits_in, is_over, left_in}

-- ---- what is left behind so many bytes more

rest_behind : (used size : ℕ) (text : List ℕ) → drop size (drop used text) ≡ drop (used + size) text
rest_behind used size text = drop-drop size used text

within_behind : (used size : ℕ) (text : List ℕ) → used ≤ length text → size ≤ length (drop used text) → used + size ≤ length text
within_behind used size text within short = let l = length-drop used text in omega arith

-- ---- a request at the front

-- a host and a port that make an address make that one
address_by : (address : Address) (zero : Bool) (is : (address.port == 0) ≡ zero) → address_with address.host address.port zero is ≡ Some address
address_by address true is = absurd (address.port_not_zero (eqb-true address.port 0 is))
address_by address false is = ap Some (address_eq _ address refl refl)

request_leads : (before mid after : SocksLayer) (address : Address) (size : ℕ) (out longer : List Command) → size ≤ length before.unread →
    request_of before.unread ≡ connect address.host address.port size → mid.unread ≡ drop size before.unread → Asks address mid after out longer →
    (used : ℕ) (seen : Sight) → IsIn before (requesting used) seen →
    Leads (pass_open (requesting used) seen.client) seen after (commands.Dial 0 address None ∷ [])
request_leads before mid after address size out longer short reads rest asks used seen is =
    let text : drop used seen.client ≡ before.unread = sym is.unread in
    let passes : pass_open (requesting used) seen.client ≡ record { owed = []; stage = dialling (used + size) address } =
    ap (λ t. pass_request used (request_of t)) text ∙ (ap (pass_request used) reads ∙ ap (pass_address (used + size)) (address_by address (address.port == 0) refl)) in
    let there : Keeps after (phases.Dialling address) (used + size) seen = record {
      phase_is = asks.phase;
      unread = asks.unread ∙ (rest ∙ (ap (λ t. drop size t) is.unread ∙ rest_behind used size seen.client));
      within = within_behind used size seen.client is.within (subst (λ t. size ≤ length t) is.unread short);
      open_still = is.open_still;
    } in
    let P : Turn Stage Command → Type 0 = λ t. Leads t seen after (commands.Dial 0 address None ∷ []) in
    subst P (sym passes) (record { gives = refl; is_in = there })

pub request_asks : (before mid after : SocksLayer) (address : Address) (size : ℕ) (out longer : List Command) → before.phase ≡ phases.Requesting → size ≤ length before.unread →
    request_of before.unread ≡ connect address.host address.port size → mid.unread ≡ drop size before.unread → Asks address mid after out longer →
    Advances before after out longer
request_asks before mid after address size out longer phase short reads rest asks = record { more = _; grown = asks.grown; leads = leads }
  where
    leads : (stage : Stage) (seen : Sight) → IsReading stage → IsIn before stage seen → Leads (pass_open stage seen.client) seen after (commands.Dial 0 address None ∷ [])
    leads greeting seen reading is = absurd (let no : phases.Greeting ≡ phases.Requesting = sym is.phase_is ∙ phase in cc)
    leads (requesting used) seen reading is = request_leads before mid after address size out longer short reads rest asks used seen is
    leads (dialling used address) seen reading is = absurd reading
    leads (opened used address) seen reading is = absurd reading
    leads over seen reading is = absurd reading

-- ---- a greeting at the front

greeting_leads : (before mid after : SocksLayer) (size : ℕ) (between longer : List Command) → size ≤ length before.unread → greeting_of before.unread ≡ Methods true size →
    mid.phase ≡ phases.Requesting → mid.unread ≡ drop size before.unread → (advances : Advances mid after between longer) →
    (seen : Sight) → IsIn before greeting seen → Leads (pass_open greeting seen.client) seen after (commands.Send Client (method_text 0) ∷ advances.more)
greeting_leads before mid after size between longer short reads phase rest advances seen is =
    let passes : pass_open greeting seen.client ≡ pass_greeting (Methods true size) seen.client =
    ap (λ g. pass_greeting g seen.client) (ap greeting_of (sym is.unread) ∙ reads) in
    let there : Keeps mid phases.Requesting size seen = record {
      phase_is = phase;
      unread = rest ∙ ap (λ t. drop size t) is.unread;
      within = subst (λ t. size ≤ length t) is.unread short;
      open_still = is.open_still;
    } in
    let on = advances.leads (requesting size) seen tt there in
    let P : Turn Stage Command → Type 0 = λ t. Leads t seen after (commands.Send Client (method_text 0) ∷ advances.more) in
    subst P (sym passes) (record { gives = ap (λ l. commands.Send Client (method_text 0) ∷ l) on.gives; is_in = on.is_in })

pub greeting_goes : (before mid after : SocksLayer) (size : ℕ) (out between longer : List Command) → before.phase ≡ phases.Greeting → size ≤ length before.unread →
    greeting_of before.unread ≡ Methods true size → mid.phase ≡ phases.Requesting → mid.unread ≡ drop size before.unread →
    between ≡ out ++ commands.Send Client (method_text 0) ∷ [] → Advances mid after between longer → Advances before after out longer
greeting_goes before mid after size out between longer phase short reads next rest said advances = record {
  more = commands.Send Client (method_text 0) ∷ advances.more;
  grown = advances.grown ∙ (ap (λ l. l ++ advances.more) said ∙ append_assoc out (commands.Send Client (method_text 0) ∷ []) advances.more);
  leads = leads;
}
  where
    leads : (stage : Stage) (seen : Sight) → IsReading stage → IsIn before stage seen →
        Leads (pass_open stage seen.client) seen after (commands.Send Client (method_text 0) ∷ advances.more)
    leads greeting seen reading is = greeting_leads before mid after size between longer short reads next rest advances seen is
    leads (requesting used) seen reading is = absurd (let no : phases.Requesting ≡ phases.Greeting = sym is.phase_is ∙ phase in cc)
    leads (dialling used address) seen reading is = absurd reading
    leads (opened used address) seen reading is = absurd reading
    leads over seen reading is = absurd reading

-- ---- an event that is not the client's close

sight_by : (text piece : List ℕ) (was now : Bool) → was ≡ false → now ≡ false →
    (let seen : Sight = record { client = if was then text else text ++ piece; closed = was || now } in seen) ≡ record { client = text ++ piece; closed = false }
sight_by text piece was now was_open stays_open = rw (was_open, stays_open) refl

pub sight_on : (seen : Sight) (event : Event) → seen.closed ≡ false → closes Client event ≡ false →
    sight_with seen event ≡ record { client = seen.client ++ piece_of Client event; closed = false }
sight_on seen event was_open stays_open = sight_by seen.client (piece_of Client event) seen.closed (closes Client event) was_open stays_open

module _ (event : Event) (before mid after : SocksLayer) (out longer : List Command) (open_still : closes Client event ≡ false)
    (added : mid ≡ record before { unread = before.unread ++ piece_of Client event }) (advances : Advances mid after out longer) where
  -- what it keeps then
  keeps_on : (phase : Phase) (used : ℕ) (seen : Sight) → Keeps before phase used seen →
      Keeps mid phase used (record { client = seen.client ++ piece_of Client event; closed = false })
  keeps_on phase used seen is = record {
    phase_is = ap (λ (s : SocksLayer). s.phase) added ∙ is.phase_is;
    unread = ap (λ (s : SocksLayer). s.unread) added
        ∙ (ap (λ t. t ++ piece_of Client event) is.unread ∙ sym (drop-append-le used seen.client (piece_of Client event) is.within));
    within = let l = length-append seen.client (piece_of Client event) in let w = is.within in omega arith;
    open_still = refl;
  }

  leads_on : (stage : Stage) (seen : Sight) → IsReading stage → IsIn mid stage (record { client = seen.client ++ piece_of Client event; closed = false }) →
      seen.closed ≡ false → (let now = sight_with seen event in Leads (pass stage now) now after advances.more)
  leads_on stage seen reading is was_open =
      let P : Sight → Type 0 = λ now. Leads (pass stage now) now after advances.more in
      subst P (sym (sight_on seen event was_open open_still)) (advances.leads stage (record { client = seen.client ++ piece_of Client event; closed = false }) reading is)

  leads_heard : (stage : Stage) (seen : Sight) → IsReading stage → IsIn before stage seen → (let now = sight_with seen event in Leads (pass stage now) now after advances.more)
  leads_heard greeting seen reading is = leads_on greeting seen reading (keeps_on phases.Greeting 0 seen is) is.open_still
  leads_heard (requesting used) seen reading is = leads_on (requesting used) seen reading (keeps_on phases.Requesting used seen is) is.open_still
  leads_heard (dialling used address) seen reading is = absurd reading
  leads_heard (opened used address) seen reading is = absurd reading
  leads_heard over seen reading is = absurd reading

  pub hears_on : is_over before.phase ≡ false → Hears event before after out longer
  hears_on reads = record {
    more = advances.more;
    grown = advances.grown;
    leads = leads_heard;
    past_end = λ ended. absurd (let no : false ≡ true = sym reads ∙ ended in cc);
  }

-- ---- what is asked

stage_asks : (state : SocksLayer) (stage : Stage) (seen : Sight) → IsIn state stage seen → flat_map asks_in (found (look stage)) ≡ option_to_list (awaits state)
stage_asks state greeting seen is = ap (λ p. option_to_list (awaits_in p)) (sym is.phase_is)
stage_asks state (requesting used) seen is = ap (λ p. option_to_list (awaits_in p)) (sym is.phase_is)
stage_asks state (dialling used address) seen is = ap (λ p. option_to_list (awaits_in p)) (sym is.phase_is)
stage_asks state (opened used address) seen is = ap (λ p. option_to_list (awaits_in p)) (sym is.phase_is)
stage_asks state over seen is = ap (λ p. option_to_list (awaits_in p)) (sym is)

leads_ask : (turn : Turn Stage Command) (seen : Sight) (after : SocksLayer) (more : List Command) → AllToClient turn.owed → Leads turn seen after more →
    flat_map asks_in more ≡ option_to_list (awaits after)
leads_ask turn seen after more all leads =
    ap (flat_map asks_in) leads.gives
    ∙ (flat_map-append asks_in turn.owed (found (look turn.stage))
    ∙ (ap (λ l. l ++ flat_map asks_in (found (look turn.stage))) (to_client_asks_nothing turn.owed all) ∙ stage_asks after turn.stage seen leads.is_in))

-- ---- where it stands, whatever came before

-- what it keeps is all that came
abbrev seen_by : SocksLayer → Sight
seen_by state = record { client = state.unread; closed = false }

keeps_all : (state : SocksLayer) (phase : Phase) → state.phase ≡ phase → Keeps state phase 0 (seen_by state)
keeps_all state phase is = record { phase_is = is; unread = refl; within = omega arith; open_still = refl }

advances_by : (before after : SocksLayer) (out longer : List Command) (phase : Phase) → before.phase ≡ phase → is_over phase ≡ false → awaits_in phase ≡ None →
    (advances : Advances before after out longer) → flat_map asks_in advances.more ≡ option_to_list (awaits after)
advances_by before after out longer phases.Greeting is reads free advances =
    leads_ask (pass_open greeting before.unread) (seen_by before) after advances.more (open_to_client greeting before.unread)
    (advances.leads greeting (seen_by before) tt (keeps_all before phases.Greeting is))
advances_by before after out longer phases.Requesting is reads free advances =
    leads_ask (pass_open (requesting 0) before.unread) (seen_by before) after advances.more (open_to_client (requesting 0) before.unread)
    (advances.leads (requesting 0) (seen_by before) tt (keeps_all before phases.Requesting is))
advances_by before after out longer (phases.Dialling address) is reads free advances = absurd (let no : Some _ ≡ None = free in cc)
advances_by before after out longer (phases.Opened address) is reads free advances = absurd (let no : true ≡ false = reads in cc)
advances_by before after out longer phases.Over is reads free advances = absurd (let no : true ≡ false = reads in cc)

pub advances_ask : (before after : SocksLayer) (out longer : List Command) → is_over before.phase ≡ false → awaits before ≡ None → Advances before after out longer →
    AsksOnly (awaits after) out longer
advances_ask before after out longer reads free advances =
    (advances.more, advances.grown, advances_by before after out longer before.phase refl reads free advances)

-- ---- an answer to its dial

-- it is where its dial is awaited
dialling_by : (state : SocksLayer) (phase : Phase) → state.phase ≡ phase → awaits_in phase ≢ None → (address : Address) × Keeps state (phases.Dialling address) 0 (seen_by state)
dialling_by state phases.Greeting is asked = absurd (asked refl)
dialling_by state phases.Requesting is asked = absurd (asked refl)
dialling_by state (phases.Dialling address) is asked = (address, keeps_all state (phases.Dialling address) is)
dialling_by state (phases.Opened address) is asked = absurd (asked refl)
dialling_by state phases.Over is asked = absurd (asked refl)

pub answers_ask : (reply : Reply) (before after : SocksLayer) (out longer : List Command) → awaits before ≢ None → Answers reply before after out longer →
    AsksOnly (awaits after) out longer
answers_ask reply before after out longer asked answers =
    let there = dialling_by before before.phase refl asked in
    let stage : Stage = dialling 0 there.0 in (
      answers.more,
      answers.grown,
      leads_ask (turn stage false reply) (seen_by before) after answers.more (turn_to_client stage false reply)
          (answers.leads 0 there.0 (seen_by before) there.1),
    )

-- where it is connected no dial follows
pub opens_left : (before after : SocksLayer) (out longer : List Command) → awaits before ≢ None → Answers replies.Dialled before after out longer →
    left_in after.phase < left_in before.phase
opens_left before after out longer asked answers =
    let there = dialling_by before before.phase refl asked in
    let is : Keeps after (phases.Opened there.0) 0 (seen_by before) = (answers.leads 0 there.0 (seen_by before) there.1).is_in in
    let was : left_in before.phase ≡ 1 = ap left_in there.1.phase_is in
    let now : left_in after.phase ≡ 0 = ap left_in is.phase_is in
    omega arith
