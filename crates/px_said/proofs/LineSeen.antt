-- What a stage sees over a prefix, in the terms of what is said; over the same events it is the same.
use Rattle.std.proofs.Common.{◌≡◌, ℕ, Bool, true, false, List, [], ◌∷◌, ◌++◌, length, drop, Option, Some, None, refl, ap, sym, ◌∙◌, subst, inl, inr}
use Rattle.std.specs.Prelude.{◌||◌, ◌⊎◌, is_some, take}
use Rattle.std.proofs.lemmas.List.{append-nil}
use Rattle.px_message.specs.declared.request.Request.{Request}
use Rattle.px_event.specs.declared.command.Command.{Command}
use Rattle.px_event.specs.declared.event.Event.{Event}
use Rattle.px_event.specs.declared.event.Event.TheVariants as events
use Rattle.px_event.specs.Sides.{closes, piece_of}
use Rattle.px_event.specs.declared.side.Side.TheVariants.{Client, Server}
use Rattle.px_event.specs.Chain.{Timed}
use Rattle.px_read.specs.Items.{Item, missing, part, complete, bad_head, bad_body, request_item}
use Rattle.px_read.specs.Laws.{head_in, is_begun, is_decided}
use Rattle.px_read.specs.declared.head.RequestHead.{RequestHead}
use Rattle.px_read.proofs.ItemLemmas.{Carries, request_carries}
use Rattle.px_read.proofs.LawLemmas.{chunk_laws}
use Rattle.px_exchange.specs.declared.terms.Terms.{Terms}
use Rattle.px_exchange.specs.Places.{form_at}
use Rattle.px_parts.specs.Streamed.{request_says, request_streams, streams_behind}
use Rattle.px_chain.specs.Going.{going_by}
use Rattle.px_chain.specs.Keeping.{is_silent}
use Rattle.px_chain.specs.Sights.{UsedBytes}
use Rattle.px_chain.specs.Stages.{Sent}
use Rattle.px_chain.specs.Streams.{bytes_of, client_closed, is_closed}
use Rattle.px_chain.proofs.FrontLaws as fronts
use Rattle.px_chain.proofs.FrontLaws.{DropMore, bytes_more, bytes_shut, closed_more, drop_more, open_behind}
use Rattle.px_said.specs.ClosedForm.{Told, is_whole, told_by}
use Rattle.px_said.specs.Lines.{Exchange, Start, answers_to, client_bytes, ends_at, ends_over, fault_by, fault_in, fault_up, goes_on_over, goes_up_over, heard_of, is_ended, is_fault, sent_by, text_by, text_up}
use Rattle.px_said.proofs.ClosedFronts.{IsFront, IsSame, drop_on, front_length, least_at, same_bytes, same_taken, side_grows}
use Rattle.px_said.proofs.ParkedFronts.{told_same}
use Rattle.px_said.proofs.LineStages.{Onward, down_over, exchange_of}

-- ---- over the same events

module _ (a b : List (Timed Event)) (same : IsSame a b) where
  pub same_client : (bytes : ℕ) → client_bytes a bytes ≡ client_bytes b bytes
  same_client bytes = ap (drop bytes) (same_bytes Client a b same)

  same_fault_by : (up : Option ℕ) → fault_by up a ≡ fault_by up b
  same_fault_by None = refl
  same_fault_by (Some bytes) = ap (λ (l : List ℕ). fault_in (request_item l)) (same_client bytes)

  same_sent_by : (up : Option ℕ) → sent_by up a ≡ sent_by up b
  same_sent_by None = refl
  same_sent_by (Some bytes) = ap (λ (l : List ℕ). is_whole (request_item l)) (same_client bytes)

  same_text_by : (terms : Terms) (request : Request) (up : Option ℕ) → text_by terms request up a ≡ text_by terms request up b
  same_text_by terms request None = refl
  same_text_by terms request (Some bytes) = ap (λ (l : List ℕ). going_by (head_in (request_item l)) request (form_at terms.place) l) (same_client bytes)

  pub same_heard : (exchange : Exchange) → heard_of exchange a ≡ heard_of exchange b
  same_heard exchange = told_same exchange.served.server exchange.served.opened exchange.served.used a b same

  pub same_fault : (exchange : Exchange) → fault_up exchange a ≡ fault_up exchange b
  same_fault exchange = same_fault_by exchange.up

  pub same_text : (terms : Terms) (exchange : Exchange) → text_up terms exchange a ≡ text_up terms exchange b
  same_text terms exchange = same_text_by terms exchange.request exchange.up

  pub same_ends : (exchange : Exchange) → ends_over exchange a ≡ ends_over exchange b
  same_ends exchange =
      ap (λ f. is_fault f || is_ended (answers_to exchange.request (heard_of exchange a)).final) (same_fault exchange)
      ∙ ap (λ t. is_fault (fault_up exchange b) || is_ended (answers_to exchange.request t).final) (same_heard exchange)

  pub same_goes_up : (start : Start) (allowed : Option ℕ) → goes_up_over start allowed a ≡ goes_up_over start allowed b
  same_goes_up start allowed = ap (request_streams allowed) (same_client start.bytes)

  pub same_goes_on : (start : Start) (allowed : Option ℕ) → goes_on_over start allowed a ≡ goes_on_over start allowed b
  same_goes_on start allowed = ap (λ (l : List ℕ). is_decided (request_item l) || request_streams allowed l) (same_client start.bytes)

  pub same_down : (terms : Terms) (events : List (Timed Event)) (all : List Command) (flows : ℕ) (how : Sent) (asked : Request) (side opened : ℕ) (used : UsedBytes) (went : ℕ) (ended : Option ℕ) →
      down_over terms events all flows how asked side opened used went ended a ≡ down_over terms events all flows how asked side opened used went ended b
  same_down terms events all flows how asked side opened used went ended =
      let exchange = exchange_of how asked side opened used went in
      let told = same_heard exchange in
      let fault = same_fault exchange in
      let sent = same_sent_by exchange.up in
      let there = down_over terms events all flows how asked side opened used went ended a in
      λ i. record { served = exchange.served; told = told i; fault = fault i; sent = sent i; ended = ended; bytes = there.bytes; further = there.further }

-- ---- what is carried on

pub carried : (bytes : ℕ) (prefix events : List (Timed Event)) → IsFront prefix events → Carries (request_item (client_bytes prefix bytes)) (request_item (client_bytes events bytes))
carried bytes prefix events is =
    let grows = side_grows Client prefix events is in
    let on = drop_on bytes (bytes_of Client prefix) grows.more in
    let P : List ℕ → Type 0 = λ l. Carries (request_item (client_bytes prefix bytes)) (request_item l) in
    subst P (sym (ap (drop bytes) grows.grown ∙ on.1)) (request_carries chunk_laws (client_bytes prefix bytes) on.0)

-- ---- where the exchange ends

pub ended_here : (terms : Terms) (events : List (Timed Event)) (all : List Command) (flows : ℕ) (how : Sent) (asked : Request) (side opened : ℕ) (used : UsedBytes) (went : ℕ) (prefix : List (Timed Event)) →
    IsFront prefix events → Onward terms events all flows how asked side opened used went prefix → ends_over (exchange_of how asked side opened used went) prefix ≡ true →
    ends_at events (exchange_of how asked side opened used went) ≡ Some (length prefix)
ended_here terms events all flows how asked side opened used went prefix front onward is =
    let exchange = exchange_of how asked side opened used went in
    least_at (λ so_many. ends_over exchange (take so_many events)) went (length prefix) (length events) onward.within (front_length prefix events front) onward.waits
    (sym (same_ends prefix (take (length prefix) events) (same_taken prefix events front) exchange) ∙ is)

-- ---- whether a request is streamed

-- before it begins nothing goes on
record NotBegun {H : Type 0} (item : Item H) : Type 0 where
  undecided : is_decided item ≡ false
  headless : is_some (head_in item) ≡ false

not_begun : {H : Type 0} (item : Item H) → is_begun item ≡ false → NotBegun item
not_begun missing is = record { undecided = refl; headless = refl }
not_begun (part head body) is = absurd (let no : true ≡ false = is in cc)
not_begun (complete head body trailers size) is = absurd (let no : true ≡ false = is in cc)
not_begun (bad_head fault) is = absurd (let no : true ≡ false = is in cc)
not_begun (bad_body fault head body) is = absurd (let no : true ≡ false = is in cc)

headless_streams : (allowed : Option ℕ) (heard : ℕ) (head : Option RequestHead) → is_some head ≡ false → streams_behind request_says head allowed heard ≡ false
headless_streams allowed heard None is = refl
headless_streams allowed heard (Some head) is = absurd (let no : true ≡ false = is in cc)

both_no : (a b : Bool) → a ≡ false → b ≡ false → (a || b) ≡ false
both_no true b first second = first
both_no false b first second = second

pub waits_on : (start : Start) (allowed : Option ℕ) (events : List (Timed Event)) → is_begun (request_item (client_bytes events start.bytes)) ≡ false → goes_on_over start allowed events ≡ false
waits_on start allowed events is =
    let bytes = client_bytes events start.bytes in
    let none = not_begun (request_item bytes) is in
    both_no (is_decided (request_item bytes)) (request_streams allowed bytes) none.undecided (headless_streams allowed _ (head_in (request_item bytes)) none.headless)

-- ---- a new side

drop_all : {A : Type 0} (xs : List A) → drop (length xs) xs ≡ []
drop_all [] = refl
drop_all (x ∷ xs) = drop_all xs

-- of a server that was connected by then nothing has come
pub new_missing : (asked : Request) (side : ℕ) (prefix : List (Timed Event)) → (answers_to asked (told_by prefix side (length prefix) 0)).final ≡ missing
new_missing asked side prefix =
    ap (λ (l : List (Timed Event)). (answers_to asked (record { bytes = bytes_of (Server side) l; shut = is_closed (Server side) l })).final) (drop_all prefix)

-- nor of one that is silent
silent_by : (asked : Request) (bytes : List ℕ) (shut : Bool) → is_silent bytes shut ≡ true → (answers_to asked (record { bytes = bytes; shut = shut })).final ≡ missing
silent_by asked [] true is = absurd (let no : false ≡ true = is in cc)
silent_by asked [] false is = refl
silent_by asked (byte ∷ bytes) shut is = absurd (let no : false ≡ true = is in cc)

pub silent_missing : (asked : Request) (told : Told) → is_silent told.bytes told.shut ≡ true → (answers_to asked told).final ≡ missing
silent_missing asked told is = silent_by asked told.bytes told.shut is

-- ---- one event more

-- no event brings something of both sides
pub one_side : (side opened used bytes : ℕ) (prefix : List (Timed Event)) (e : Timed Event) → client_closed prefix ≡ false →
    (client_bytes (prefix ++ e ∷ []) bytes ≡ client_bytes prefix bytes) ⊎ (told_by (prefix ++ e ∷ []) side opened used ≡ told_by prefix side opened used)
one_side side opened used bytes prefix e open_client = by_event side opened used bytes prefix e open_client e.value refl
  where
    no_piece : (bytes : ℕ) (prefix : List (Timed Event)) (e : Timed Event) → client_closed prefix ≡ false → piece_of Client e.value ≡ [] → client_bytes (prefix ++ e ∷ []) bytes ≡ client_bytes prefix bytes
    no_piece bytes prefix e open_client none =
        ap (drop bytes) (bytes_more Client prefix e open_client open_client ∙ (ap (λ l. bytes_of Client prefix ++ l) none ∙ append-nil (bytes_of Client prefix)))

    told_open : (side : ℕ) (prefix : List (Timed Event)) (e : Timed Event) → client_closed prefix ≡ false → piece_of (Server side) e.value ≡ [] → (shut : Bool) → is_closed (Server side) prefix ≡ shut →
        bytes_of (Server side) (prefix ++ e ∷ []) ≡ bytes_of (Server side) prefix
    told_open side prefix e open_client none true is = bytes_shut (Server side) prefix e is
    told_open side prefix e open_client none false is =
        bytes_more (Server side) prefix e open_client is ∙ (ap (λ l. bytes_of (Server side) prefix ++ l) none ∙ append-nil (bytes_of (Server side) prefix))

    or_none : (a b : Bool) → b ≡ false → (a || b) ≡ a
    or_none true b is = refl
    or_none false b is = is

    told_at : ℕ → ℕ → List (Timed Event) → Told
    told_at used side l = record { bytes = drop used (bytes_of (Server side) l); shut = is_closed (Server side) l }

    told_same : (side opened used : ℕ) (prefix : List (Timed Event)) (e : Timed Event) → client_closed prefix ≡ false → piece_of (Server side) e.value ≡ [] → closes (Server side) e.value ≡ false →
        DropMore opened prefix e → told_by (prefix ++ e ∷ []) side opened used ≡ told_by prefix side opened used
    told_same side opened used prefix e open_client quiet still (fronts.behind is) =
        let rest = drop opened prefix in
        let open_rest = open_behind opened prefix open_client in
        let same_bytes = told_open side rest e open_rest quiet (is_closed (Server side) rest) refl in
        let same_shut = closed_more (Server side) rest e open_rest ∙ or_none (is_closed (Server side) rest) (closes (Server side) e.value) still in
        ap (λ l. told_at used side l) is ∙ (λ i. record { bytes = drop used (same_bytes i); shut = same_shut i })
    told_same side opened used prefix e open_client quiet still (fronts.none was is) = ap (λ l. told_at used side l) (is ∙ sym was)

    by_event : (side opened used bytes : ℕ) (prefix : List (Timed Event)) (e : Timed Event) → client_closed prefix ≡ false → (value : Event) → e.value ≡ value →
        (client_bytes (prefix ++ e ∷ []) bytes ≡ client_bytes prefix bytes) ⊎ (told_by (prefix ++ e ∷ []) side opened used ≡ told_by prefix side opened used)
    by_event side opened used bytes prefix e open_client events.Begun is = inl (no_piece bytes prefix e open_client (ap (piece_of Client) is))
    by_event side opened used bytes prefix e open_client (events.Piece Client piece) is =
        inr (told_same side opened used prefix e open_client (ap (piece_of (Server side)) is) (ap (closes (Server side)) is) (drop_more opened prefix e))
    by_event side opened used bytes prefix e open_client (events.Piece (Server other) piece) is = inl (no_piece bytes prefix e open_client (ap (piece_of Client) is))
    by_event side opened used bytes prefix e open_client (events.Closed from) is = inl (no_piece bytes prefix e open_client (ap (piece_of Client) is))
    by_event side opened used bytes prefix e open_client (events.Answered ask reply) is = inl (no_piece bytes prefix e open_client (ap (piece_of Client) is))
