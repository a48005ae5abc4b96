-- A client of SOCKS: what its layer gives is what its stage owes, over one event more and behind the answer to its dial.
use Rattle.std.proofs.Common.{◌≡◌, ◌≢◌, ℕ, ◌≤◌, ◌<◌, Bool, true, false, List, [], ◌∷◌, ◌++◌, length, Option, Some, None, refl, ap, ap₂, sym, ◌∙◌, subst, arith}
use Rattle.std.specs.Prelude.{if◌then◌else◌, IfOk, Result, Ok, Err}
use Rattle.std.proofs.lemmas.Grind.{flat_map-append}
use Rattle.std.proofs.lemmas.List.{drop_all}
use Rattle.px_message.specs.declared.address.Address.{Address}
use Rattle.px_event.specs.declared.ask.Ask.{Ask}
use Rattle.px_event.specs.declared.command.Command.{Command}
use Rattle.px_event.specs.declared.command.Command.TheVariants as commands
use Rattle.px_event.specs.declared.event.Event.{Event}
use Rattle.px_event.specs.declared.reply.Reply.{Reply}
use Rattle.px_event.specs.declared.reply.Reply.TheVariants as reply
use Rattle.px_event.specs.declared.side.Side.TheVariants.{Client, Server}
use Rattle.px_event.specs.Chain.{Timed, Look, NotYet, Asks, Ends, Turn, found}
use Rattle.px_event.specs.Laws.{owed_here}
use Rattle.px_event.specs.Layer.{AsksOnly, MayAnswer, asks_in}
use Rattle.px_event.specs.Sides.{piece_of}
use Rattle.px_event.specs.View.{seen_of}
use Rattle.px_event.proofs.Steps.{Takes, Resumes, onward}
use Rattle.px_chain.specs.Streams.{bytes_of, client_closed, from_here, is_closed}
use Rattle.px_chain.proofs.FrontLaws.{bytes_more, closed_more, now_here}
use Rattle.px_socks.specs.declared.layer.Phase.{Phase}
use Rattle.px_socks.specs.declared.layer.Phase.TheVariants as phases
use Rattle.px_socks.specs.declared.layer.SocksLayer.{SocksLayer}
use Rattle.px_socks.specs.declared.layer.SocksTunnel.{SocksTunnel}
use Rattle.px_socks.specs.Answer.{answer_text}
use Rattle.px_socks.specs.Chain.{look as front_look, pass as front_pass, turn_dial}
use Rattle.px_socks.specs.Stages.{Sight, Stage as Front, dialling, greeting, opened, over as front_over, requesting, sight_with}
use Rattle.px_socks.specs.Stands.{Answers, Hears, IsIn, IsReading, Leads, awaits, awaits_in, is_over, left_in, tunnel_by, tunnel_in}
use Rattle.px_stack.specs.declared.child.Child.{Child}
use Rattle.px_stack.specs.declared.child.Child.TheVariants as children
use Rattle.px_stack.specs.declared.child.Opening.{Opening}
use Rattle.px_stack.specs.Chain.{asked_tunnel, at_front, front_sight, link_at, stack_chain}
use Rattle.px_stack.specs.Kept.{awaited_by, connecting_left, left_by}
use Rattle.px_stack.specs.Stages.{Stage, Visitor, asking, connecting, http, over, raw, reaching, socket, undecided}
use Rattle.px_stack.specs.Stands.{IsChild, Keeps, KeepsBy}
use Rattle.px_stack.specs.Steps.{Adds, Decides, MayDecide, ResumesChild, TakesChild, front_comes_by, front_comes_to, opening_in}
use Rattle.px_stack.proofs.RelayLemmas.{given_twice}
use Rattle.px_stack.proofs.TellLemmas.{behind_sent}

-- ---- what is seen of it

sight_as : (client client' : List ℕ) (closed closed' : Bool) → client ≡ client' → closed ≡ closed' →
    (let a : Sight = record { client = client; closed = closed } in a) ≡ (let b : Sight = record { client = client'; closed = closed' } in b)
sight_as client client' closed closed' p q = rw (p, q) refl

-- while the client has not closed, one event more brings what it brings of it
front_more : (prefix : List (Timed Event)) (e : Timed Event) → client_closed prefix ≡ false → front_sight (prefix ++ e ∷ []) ≡ sight_with (front_sight prefix) e.value
front_more prefix e open_still =
    sight_as _ _ _ _
    (bytes_more Client prefix e open_still open_still
    ∙ sym (ap (λ b. if b then bytes_of Client prefix else (bytes_of Client prefix ++ piece_of Client e.value)) open_still))
    (closed_more Client prefix e open_still)

-- ---- where its layer is kept

-- a greeting or a request is read, and the client has not closed; or its dial is awaited
data IsKeptFront (layer : SocksLayer) (stage : Stage) (prefix : List (Timed Event)) : Type 0 where
  by_reading : (front : Front) → stage ≡ asking front → IsReading front → front_look front ≡ NotYet → client_closed prefix ≡ false → awaits layer ≡ None →
      IsIn layer front (front_sight prefix) → IsKeptFront layer stage prefix
  by_dialling : (used : ℕ) (address : Address) → stage ≡ asking (dialling used address) → IsIn layer (dialling used address) (front_sight prefix) →
      IsKeptFront layer stage prefix

same_layer : (a b : SocksLayer) → children.Asking a ≡ children.Asking b → b ≡ a
same_layer a b is = cc

keeps_by : (l : Look Command) (conv : ℕ) (client : Visitor) (kept : SocksLayer) (stage : Stage) (prefix : List (Timed Event)) →
    KeepsBy l conv client (children.Asking kept) stage prefix → Keeps conv client (children.Asking kept) stage prefix
keeps_by NotYet conv client kept stage prefix is = is
keeps_by (Asks ask) conv client kept stage prefix is = is
keeps_by (Ends owed) conv client kept stage prefix is = absurd (let no : children.Asking kept ≡ children.Over = is in cc)

module _ (conv : ℕ) (client : Visitor) (kept : SocksLayer) where
  keeps_at : (stage : Stage) (prefix : List (Timed Event)) → IsChild conv client (children.Asking kept) stage prefix → Keeps conv client (children.Asking kept) stage prefix
  keeps_at stage prefix is = keeps_by ((stack_chain conv client).look stage prefix) conv client kept stage prefix is

  kept_front : (stage : Stage) (prefix : List (Timed Event)) → IsChild conv client (children.Asking kept) stage prefix → IsKeptFront kept stage prefix
  kept_front (asking greeting) prefix is =
      let P : SocksLayer → Type 0 = λ k. IsIn k greeting (front_sight prefix) in
      let there : IsIn kept greeting (front_sight prefix) = subst P (same_layer kept is.layer is.is) is.there in
      by_reading greeting refl tt refl there.open_still (ap awaits_in there.phase_is) there
  kept_front (asking (requesting used)) prefix is =
      let P : SocksLayer → Type 0 = λ k. IsIn k (requesting used) (front_sight prefix) in
      let there : IsIn kept (requesting used) (front_sight prefix) = subst P (same_layer kept is.layer is.is) is.there in
      by_reading (requesting used) refl tt refl there.open_still (ap awaits_in there.phase_is) there
  kept_front (asking (dialling used address)) prefix is =
      let P : SocksLayer → Type 0 = λ k. IsIn k (dialling used address) (front_sight prefix) in
      by_dialling used address refl (subst P (same_layer kept is.layer is.is) is.there)
  kept_front (asking (opened used address)) prefix is = absurd (let no : children.Asking kept ≡ children.Over = is in cc)
  kept_front (asking front_over) prefix is = absurd (let no : children.Asking kept ≡ children.Over = is in cc)
  kept_front (http place standing) prefix is =
      let there = keeps_at (http place standing) prefix is in absurd (let no : children.Asking kept ≡ children.Http there.flows = there.is in cc)
  kept_front (connecting tunnel) prefix is =
      let there = keeps_at (connecting tunnel) prefix is in absurd (let no : children.Asking kept ≡ children.Connecting there.kept there.closed = there.is in cc)
  kept_front (reaching goal link since) prefix is =
      let there = keeps_at (reaching goal link since) prefix is in absurd (let no : children.Asking kept ≡ children.Reaching there.kept = there.is in cc)
  kept_front (undecided tunnel link since) prefix is =
      let there = keeps_at (undecided tunnel link since) prefix is in absurd (let no : children.Asking kept ≡ children.Undecided there.kept there.server = there.is in cc)
  kept_front (raw ends) prefix is =
      let there = keeps_at (raw ends) prefix is in absurd (let no : children.Asking kept ≡ children.Raw there.kept = there.is in cc)
  kept_front (socket ends flow frames) prefix is =
      let there = keeps_at (socket ends flow frames) prefix is in absurd (let no : children.Asking kept ≡ children.Socket there.layer = there.is in cc)
  kept_front over prefix is = absurd (let no : children.Asking kept ≡ children.Over = is in cc)

-- ---- behind a call

-- it is kept, or all is over
settled : (conv : ℕ) (client : Visitor) (after : SocksLayer) (front : Front) (prefix : List (Timed Event)) → IsIn after front (front_sight prefix) →
    IsChild conv client (front_comes_to after) (at_front front) prefix
settled conv client after greeting prefix there =
    record { layer = after; is = ap (λ b. front_comes_by b after) (ap is_over there.phase_is); there = there }
settled conv client after (requesting used) prefix there =
    record { layer = after; is = ap (λ b. front_comes_by b after) (ap is_over there.phase_is); there = there }
settled conv client after (dialling used address) prefix there =
    record { layer = after; is = ap (λ b. front_comes_by b after) (ap is_over there.phase_is); there = there }
settled conv client after (opened used address) prefix there = ap (λ b. front_comes_by b after) (ap is_over there.phase_is)
settled conv client after front_over prefix there = ap (λ b. front_comes_by b after) (ap is_over there)

-- what is found there is all that is owed there
owes_found : (conv : ℕ) (client : Visitor) (front : Front) (prefix : List (Timed Event)) → found (front_look front) ≡ owed_here (stack_chain conv client) (at_front front) prefix
owes_found conv client greeting prefix = refl
owes_found conv client (requesting used) prefix = refl
owes_found conv client (dialling used address) prefix = refl
owes_found conv client (opened used address) prefix = refl
owes_found conv client front_over prefix = refl

-- ---- one event more

module _ (before after : SocksLayer) (event : Event) (out longer : List Command) (hears : Hears event before after out longer) (conv : ℕ) (client : Visitor) (moment : ℕ) where
  takes_reading : (front : Front) (prefix : List (Timed Event)) → IsReading front → front_look front ≡ NotYet → client_closed prefix ≡ false →
      IsIn before front (front_sight prefix) →
      Takes (stack_chain conv client) (IsChild conv client) (front_comes_to after) moment event hears.more (asking front) prefix
  takes_reading front prefix reading none open_still there =
      let now : Timed Event = record { moment = moment; value = event } in
      let with_it : List (Timed Event) = prefix ++ now ∷ [] in
      let P : Sight → Type 0 = λ s. Leads (front_pass front s) s after hears.more in
      let on : Leads (front_pass front (front_sight with_it)) (front_sight with_it) after hears.more =
      subst P (sym (front_more prefix now open_still)) (hears.leads front (front_sight prefix) reading there) in
      let turned : Turn Front Command = front_pass front (front_sight with_it) in
      onward none (settled conv client after turned.stage with_it on.is_in)
      (λ view. ap (seen_of view) (on.gives ∙ ap (λ l. turned.owed ++ l) (owes_found conv client turned.stage with_it)))

  takes_front : awaits before ≡ None → TakesChild conv client (children.Asking before) (front_comes_to after) moment event hears.more
  takes_front free stage prefix is = by (kept_front conv client before stage prefix is)
    where
      by : IsKeptFront before stage prefix → Takes (stack_chain conv client) (IsChild conv client) (front_comes_to after) moment event hears.more stage prefix
      by (by_reading front same reading none open_still waits there) =
          let P : Stage → Type 0 = λ s. Takes (stack_chain conv client) (IsChild conv client) (front_comes_to after) moment event hears.more s prefix in
          subst P (sym same) (takes_reading front prefix reading none open_still there)
      by (by_dialling used address same there) = absurd (let no : Some _ ≡ None = ap awaits_in (sym there.phase_is) ∙ free in cc)

pub asking_taken : (before after : SocksLayer) (next : Child) (event : Event) (out longer : List Command) → next ≡ front_comes_to after → awaits before ≡ None →
    Hears event before after out longer →
    Adds (λ more. (conv : ℕ) (client : Visitor) (moment : ℕ) → TakesChild conv client (children.Asking before) next moment event more) out longer
asking_taken before after next event out longer comes free hears = record {
  more = hears.more;
  grown = hears.grown;
  holds = λ conv client moment.
      let P : Child → Type 0 = λ child. TakesChild conv client (children.Asking before) child moment event hears.more in
      subst P (sym comes) (takes_front before after event out longer hears conv client moment free);
}

-- ---- what is awaited, and how much may still be asked

none_awaited : (phase : Phase) → is_over phase ≡ true → awaits_in phase ≡ None
none_awaited phases.Greeting is = refl
none_awaited phases.Requesting is = refl
none_awaited (phases.Dialling address) is = absurd (let no : false ≡ true = is in cc)
none_awaited (phases.Opened address) is = refl
none_awaited phases.Over is = refl

awaited_as : (layer : SocksLayer) (b : Bool) → is_over layer.phase ≡ b → awaited_by (front_comes_by b layer) ≡ awaits layer
awaited_as layer true is = sym (none_awaited layer.phase is)
awaited_as layer false is = refl

pub asking_asks : (after : SocksLayer) (next : Child) (out longer : List Command) → next ≡ front_comes_to after → AsksOnly (awaits after) out longer →
    AsksOnly (awaited_by next) out longer
asking_asks after next out longer comes asks =
    let P : Option Ask → Type 0 = λ a. AsksOnly a out longer in
    subst P (sym (ap awaited_by comes ∙ awaited_as after (is_over after.phase) refl)) asks

left_as : (layer : SocksLayer) (b : Bool) → left_by (front_comes_by b layer) ≤ connecting_left
left_as layer true = omega arith
left_as layer false = omega arith

pub asking_left : (after : SocksLayer) (next : Child) → next ≡ front_comes_to after → left_by next ≤ connecting_left
asking_left after next comes = subst (λ (child : Child). left_by child ≤ connecting_left) (sym comes) (left_as after (is_over after.phase))

-- where the one answer was taken, none is awaited
none_left : (phase before : Phase) → left_in phase < left_in before → awaits_in phase ≡ None
none_left phases.Greeting before is = refl
none_left phases.Requesting before is = refl
none_left (phases.Dialling address) before is = absurd (let few = one_left before in omega arith)
  where
    one_left : (phase : Phase) → left_in phase ≤ 1
    one_left phases.Greeting = omega arith
    one_left phases.Requesting = omega arith
    one_left (phases.Dialling address) = omega arith
    one_left (phases.Opened address) = omega arith
    one_left phases.Over = omega arith
none_left (phases.Opened address) before is = refl
none_left phases.Over before is = refl

-- ---- the answer to its dial

none_answers : (asked : Option Ask) (answer : Reply) → asked ≡ None → MayAnswer asked answer → ⊥
none_answers asked answer is may = let P : Option Ask → Type 0 = λ a. MayAnswer a answer in subst P is may

pub asked_there : (layer : SocksLayer) (answer : Reply) → MayAnswer (awaited_by (children.Asking layer)) answer → awaits layer ≢ None
asked_there layer answer may = λ none. none_answers (awaits layer) answer none may

same_tunnel : (a b : SocksTunnel) → Some a ≡ Some b → a ≡ b
same_tunnel a b is = cc

module _ (conv : ℕ) (client : Visitor) (moment : ℕ) (after : SocksLayer) (used : ℕ) (address : Address) (prefix : List (Timed Event)) where
  none_over : after.phase ≡ phases.Over → (tunnel : SocksTunnel) → tunnel_in after ≡ Some tunnel → ⊥
  none_over is tunnel opens = let no : None ≡ Some tunnel = ap (λ p. tunnel_by p after.unread) (sym is) ∙ opens in cc

  -- it ends
  resumes_over : (answer : Reply) (more : List Command) → Leads (turn_dial used address (client_closed prefix) answer) (front_sight prefix) after more →
      tunnel_in after ≡ None → Resumes (stack_chain conv client) (IsChild conv client) children.Over moment answer more (asking (dialling used address)) prefix
  resumes_over reply.Dialled more on none =
      absurd (let no : Some _ ≡ None = ap (λ p. tunnel_by p after.unread) (sym on.is_in.phase_is) ∙ none in cc)
  resumes_over (reply.Refused fault) more on none =
      record { ask = commands.Dial 0 address None; asked = refl; place = refl; gives = λ view. ap (seen_of view) on.gives }
  resumes_over (reply.Go flow stream) more on none =
      record { ask = commands.Dial 0 address None; asked = refl; place = refl; gives = λ view. ap (seen_of view) on.gives }
  resumes_over (reply.Respond given) more on none =
      record { ask = commands.Dial 0 address None; asked = refl; place = refl; gives = λ view. ap (seen_of view) on.gives }
  resumes_over reply.Kill more on none =
      record { ask = commands.Dial 0 address None; asked = refl; place = refl; gives = λ view. ap (seen_of view) on.gives }
  resumes_over reply.Discard more on none =
      record { ask = commands.Dial 0 address None; asked = refl; place = refl; gives = λ view. ap (seen_of view) on.gives }

  -- or its server is connected, and what it has sent decides
  opens_there : (tunnel : SocksTunnel) → tunnel_in after ≡ Some tunnel → IsIn after (opened used address) (front_sight prefix) →
      MayDecide (asked_tunnel used address) (link_at conv client 0 prefix) (from_here moment prefix) prefix (opening_in tunnel) 0 [] false moment
  opens_there tunnel is there =
      let none = drop_all (length prefix) prefix (omega arith) in
      let same = same_tunnel tunnel _ (sym is ∙ ap (λ p. tunnel_by p after.unread) there.phase_is) in
      record {
        opened = record {
          opening = record {
            flow = refl;
            dials = refl;
            address = ap (λ (t : SocksTunnel). t.address) same;
            proxy = refl;
            rest = ap (λ (t : SocksTunnel). t.rest) same ∙ there.unread;
            few = omega arith;
            used = there.within;
          };
          same = refl;
          last = refl;
          dials = omega arith;
          opened = omega arith;
          come = omega arith;
          used = omega arith;
        };
        come = ap (bytes_of (Server 0)) none;
        unshut = ap (is_closed (Server 0)) none;
        client = there.open_still;
        now = sym (now_here moment prefix);
      }

  resumes_opened : (answer : Reply) (first more : List Command) (tunnel : SocksTunnel) (next : Child) →
      Leads (turn_dial used address (client_closed prefix) answer) (front_sight prefix) after first → tunnel_in after ≡ Some tunnel →
      Decides conv client (opening_in tunnel) 0 [] moment next more →
      Resumes (stack_chain conv client) (IsChild conv client) next moment answer (first ++ more) (asking (dialling used address)) prefix
  resumes_opened reply.Dialled first more tunnel next on is decides =
      let said : List Command = commands.Send Client (answer_text 0) ∷ [] in
      let stage : Stage = undecided (asked_tunnel used address) (link_at conv client 0 prefix) (from_here moment prefix) in
      let to = decides (asked_tunnel used address) (link_at conv client 0 prefix) (from_here moment prefix) prefix (opens_there tunnel is on.is_in) in
      let gave : first ≡ said = on.gives in
      record {
        ask = commands.Dial 0 address None;
        asked = refl;
        place = to.there;
        gives = λ view. ap (λ l. seen_of view (l ++ more)) gave ∙ behind_sent conv client view said more stage prefix (to.gives view);
      }
  resumes_opened (reply.Refused fault) first more tunnel next on is decides = absurd (none_over on.is_in tunnel is)
  resumes_opened (reply.Go flow stream) first more tunnel next on is decides = absurd (none_over on.is_in tunnel is)
  resumes_opened (reply.Respond given) first more tunnel next on is decides = absurd (none_over on.is_in tunnel is)
  resumes_opened reply.Kill first more tunnel next on is decides = absurd (none_over on.is_in tunnel is)
  resumes_opened reply.Discard first more tunnel next on is decides = absurd (none_over on.is_in tunnel is)

-- it is kept where its dial is awaited
module _ (conv : ℕ) (client : Visitor) (before : SocksLayer) (answer : Reply) (may : MayAnswer (awaited_by (children.Asking before)) answer) where
  at_front_dial : (P : Stage → Type 0) (stage : Stage) (prefix : List (Timed Event)) → IsChild conv client (children.Asking before) stage prefix →
      ((used : ℕ) (address : Address) → IsIn before (dialling used address) (front_sight prefix) → P (asking (dialling used address))) → P stage
  at_front_dial P stage prefix is goes = by (kept_front conv client before stage prefix is)
    where
      by : IsKeptFront before stage prefix → P stage
      by (by_reading front same reading none open_still waits there) = absurd (none_answers (awaits before) answer waits may)
      by (by_dialling used address same there) = subst P (sym same) (goes used address there)

-- ---- what the functions give

module _ (conv : ℕ) (client : Visitor) (before after : SocksLayer) (moment : ℕ) (answer : Reply) (out mid : List Command)
    (may : MayAnswer (awaited_by (children.Asking before)) answer) (answers : Answers answer before after out mid) where
  pub over_resumed : tunnel_in after ≡ None → Adds (ResumesChild conv client (children.Asking before) children.Over moment answer) out mid
  over_resumed none = record {
    more = answers.more;
    grown = answers.grown;
    holds = λ stage prefix is.
        at_front_dial conv client before answer may (λ s. Resumes (stack_chain conv client) (IsChild conv client) children.Over moment answer answers.more s prefix) stage prefix is
        (λ used address there. resumes_over conv client moment after used address prefix answer answers.more (answers.leads used address (front_sight prefix) there) none);
  }

  decided_there : (tunnel : SocksTunnel) (next : Child) (more : List Command) → tunnel_in after ≡ Some tunnel → Decides conv client (opening_in tunnel) 0 [] moment next more →
      ResumesChild conv client (children.Asking before) next moment answer (answers.more ++ more)
  decided_there tunnel next more opens decides stage prefix is =
      at_front_dial conv client before answer may (λ s. Resumes (stack_chain conv client) (IsChild conv client) next moment answer (answers.more ++ more) s prefix) stage prefix is
      (λ used address there. resumes_opened conv client moment after used address prefix answer answers.more more tunnel next (answers.leads used address (front_sight prefix) there) opens decides)

  pub decided_resumed : {E : Type 0} (tunnel : SocksTunnel) (opening : Opening) (rest : List ℕ) (longer : List Command) (result : Result Child E) → tunnel_in after ≡ Some tunnel →
      opening ≡ opening_in tunnel → rest ≡ [] → IfOk result (λ next. Adds (Decides conv client opening 0 rest moment next) mid longer) →
      IfOk result (λ next. Adds (ResumesChild conv client (children.Asking before) next moment answer) out longer)
  decided_resumed tunnel opening rest longer (Ok next) opens same empty decides =
      let P : Opening → Type 0 = λ k. Decides conv client k 0 rest moment next decides.more in
      let Q : List ℕ → Type 0 = λ l. Decides conv client (opening_in tunnel) 0 l moment next decides.more in
      record {
        more = answers.more ++ decides.more;
        grown = given_twice out mid longer answers.more decides.more answers.grown decides.grown;
        holds = decided_there tunnel next decides.more opens (subst Q empty (subst P same decides.holds));
      }
  decided_resumed tunnel opening rest longer (Err error) opens same empty decides = tt

-- its answer asked nothing
asks_none : (before after : SocksLayer) (out mid : List Command) → left_in after.phase < left_in before.phase → AsksOnly (awaits after) out mid → AsksOnly None out mid
asks_none before after out mid less asks = let P : Option Ask → Type 0 = λ a. AsksOnly a out mid in subst P (none_left after.phase before.phase less) asks

pub over_asks : (before after : SocksLayer) (out mid : List Command) → left_in after.phase < left_in before.phase → AsksOnly (awaits after) out mid →
    AsksOnly (awaited_by children.Over) out mid
over_asks before after out mid less asks = asks_none before after out mid less asks

pub decided_asks : {E : Type 0} (before after : SocksLayer) (out mid longer : List Command) (result : Result Child E) → left_in after.phase < left_in before.phase →
    AsksOnly (awaits after) out mid → IfOk result (λ next. AsksOnly (awaited_by next) mid longer) → IfOk result (λ next. AsksOnly (awaited_by next) out longer)
decided_asks before after out mid longer (Ok next) less first asks =
    let none = asks_none before after out mid less first in
    (none.0 ++ asks.0, given_twice out mid longer none.0 asks.0 none.1 asks.1, flat_map-append asks_in none.0 asks.0 ∙ ap₂ (λ (a b : List Ask). a ++ b) none.2 asks.2)
decided_asks before after out mid longer (Err error) less first asks = tt
