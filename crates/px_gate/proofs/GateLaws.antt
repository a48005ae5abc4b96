-- The gate law, call by call, over the fields of the gate before and after.
use Rattle.std.proofs.Common.{◌≡◌, ℕ, ◌+◌, ◌*◌, ◌≤◌, List, [], ◌∷◌, ◌++◌, length, Bool, true, false, not, Option, Some, None, refl, ap, sym, ◌∙◌, subst, append_assoc, option_to_list, arith}
use Rattle.std.specs.List.{flat_map}
use Rattle.std.specs.Option.{is_some}
use Rattle.std.proofs.lemmas.Grind.{flat_map-append}
use Rattle.std.proofs.lemmas.List.{append-nil}
use Rattle.px_event.specs.declared.ask.Ask.{Ask}
use Rattle.px_event.specs.declared.event.Event.{Event}
use Rattle.px_event.specs.declared.reply.Reply.{Reply}
use Rattle.px_event.specs.declared.command.Command.{Command}
use Rattle.px_event.specs.Layer.{Move, Took, Replied, Standing, IsSound, Goes, AsksOnly, MayAnswer, IsNews, asks_in}
use Rattle.px_gate.specs.declared.gate.Gate.{Gate}
use Rattle.px_gate.specs.Gate.{WorksOff, emptied, stopped, one, Serves, none, at_once, queued, freed, AllNews, GateStands, WorkedOff, TakeAsksWhere, TakeAsks, gate_left}

-- what the test of a loop says of what is awaited
pub free_of : {A : Type 0} (o awaited : Option A) (test : Bool) → is_some o ≡ not test → o ≡ awaited → test ≡ true → awaited ≡ None
free_of None awaited test is same passes = sym same
free_of (Some a) awaited test is same passes = absurd (let wrong : true ≡ false = is ∙ ap not passes in cc)

pub open_of : {A : Type 0} (o awaited : Option A) (test : Bool) → is_some o ≡ not test → o ≡ awaited → test ≡ false → (a : A) × (awaited ≡ Some a)
open_of None awaited test is same fails = absurd (let wrong : false ≡ true = is ∙ ap not fails in cc)
open_of (Some a) awaited test is same fails = (a, sym same)

pub empty_of : {A : Type 0} (xs : List A) → length xs ≡ 0 → xs ≡ []
empty_of [] is = refl
empty_of (x ∷ xs) is = absurd (omega arith)

pub news_append : (queue : List Event) (event : Event) → AllNews queue → IsNews event → AllNews (queue ++ event ∷ [])
news_append [] event all is = (is, tt)
news_append (e ∷ queue) event (here, all) is = (here, news_append queue event all is)

module _ {S : Type 0} (standing : Standing S) (awaited : S → Option Ask) where
  -- after a call the gate stands for something
  pub goes_sound : (before after : Gate S) (move : Move) (out new_out : List Command) → IsSound (GateStands standing awaited) before →
      Goes (GateStands standing awaited) before after move out new_out → IsSound (GateStands standing awaited) after
  goes_sound before after move out new_out (made, past, given, stands) goes = (made, _, _, goes.stands made past given stands)

  pub new_stands : (gate : Gate S) → gate.queue.items ≡ [] → standing gate.layer gate.layer [] [] → GateStands standing awaited gate gate [] []
  new_stands gate empty stands = record {
    moves = [];
    serves = let P : List Event → Type 0 = λ q. Serves standing awaited gate.layer [] [] q in subst P (sym empty) none;
    stands = stands;
    waits = λ _. empty;
    news = let P : List Event → Type 0 = AllNews in subst P (sym empty) tt;
  }

  -- an event that waits
  pub take_waits : (gate after : Gate S) (moment : ℕ) (event : Event) (ask : Ask) (out : List Command) → after.layer ≡ gate.layer →
      after.queue.items ≡ gate.queue.items ++ event ∷ [] → awaited gate.layer ≡ Some ask → IsNews event →
      Goes (GateStands standing awaited) gate after (Took moment event) out out
  take_waits gate after moment event ask out layer queue is news = record {
    more = [];
    grown = sym (append-nil out);
    stands = λ made calls given stands. record {
      moves = stands.moves;
      serves = let P : List Event → Type 0 = λ q. Serves standing awaited made.layer (calls ++ Took moment event ∷ []) stands.moves q in
          subst P (sym queue) (queued calls stands.moves gate.queue.items moment event stands.serves (gate.layer, given, ask, stands.stands, is));
      stands = let P : S → Type 0 = λ s. standing made.layer s stands.moves (given ++ []) in
          let Q : List Command → Type 0 = λ l. standing made.layer gate.layer stands.moves l in
          subst P (sym layer) (subst Q (sym (append-nil given)) stands.stands);
      waits = λ no. absurd (let not : Some ask ≡ None = sym is ∙ (ap awaited (sym layer) ∙ no) in cc);
      news = let P : List Event → Type 0 = AllNews in subst P (sym queue) (news_append gate.queue.items event stands.news news);
    };
  }

  -- an event that the layer takes
  pub take_at_once : (gate after : Gate S) (moment : ℕ) (event : Event) (out new_out : List Command) → after.queue.items ≡ gate.queue.items →
      awaited gate.layer ≡ None → Goes standing gate.layer after.layer (Took moment event) out new_out →
      Goes (GateStands standing awaited) gate after (Took moment event) out new_out
  take_at_once gate after moment event out new_out queue is goes = record {
    more = goes.more;
    grown = goes.grown;
    stands = λ made calls given stands.
        let empty : gate.queue.items ≡ [] = stands.waits is in
        let P : List Event → Type 0 = λ q. Serves standing awaited made.layer calls stands.moves q in
        let Q : List Event → Type 0 = λ q. Serves standing awaited made.layer (calls ++ Took moment event ∷ []) (stands.moves ++ Took moment event ∷ []) q in
        let R : List Event → Type 0 = AllNews in
        record {
          moves = stands.moves ++ Took moment event ∷ [];
          serves = subst Q (sym (queue ∙ empty)) (at_once calls stands.moves moment event (subst P empty stands.serves) (gate.layer, given, stands.stands, is));
          stands = goes.stands made.layer stands.moves given stands.stands;
          waits = λ _. queue ∙ empty;
          news = subst R (sym queue) stands.news;
        };
  }

  -- a reply, and then the queue worked off
  pub resume_goes : (gate between after : Gate S) (moment : ℕ) (reply : Reply) (out between_out new_out : List Command) →
      between.queue.items ≡ gate.queue.items → MayAnswer (awaited gate.layer) reply →
      Goes standing gate.layer between.layer (Replied moment reply) out between_out →
      WorkedOff standing awaited moment between after between_out new_out →
      Goes (GateStands standing awaited) gate after (Replied moment reply) out new_out
  resume_goes gate between after moment reply out between_out new_out queue may goes works = record {
    more = goes.more ++ works.more;
    grown = works.grown ∙ (ap (λ l. l ++ works.more) goes.grown ∙ append_assoc out goes.more works.more);
    stands = λ made calls given stands.
        let worked = works.works made.layer (stands.moves ++ Replied moment reply ∷ []) (given ++ goes.more) (goes.stands made.layer stands.moves given stands.stands) in
        let P : List Event → Type 0 = λ q. WorksOff standing awaited made.layer moment (stands.moves ++ Replied moment reply ∷ []) q worked.0 after.queue.items in
        let Q : List Command → Type 0 = λ l. standing made.layer after.layer worked.0 l in
        record {
          moves = worked.0;
          serves = freed calls stands.moves gate.queue.items moment reply worked.0 after.queue.items stands.serves (gate.layer, given, stands.stands, may) (subst P queue worked.1);
          stands = subst Q (append_assoc given goes.more works.more) worked.2;
          waits = works.waits;
          news = works.news;
        };
  }

  -- where the loop over the queue is: whatever is worked off from here on is worked off from the start
  pub record AlongQueue (moment : ℕ) (first : S) (queue : List Event) (layer : S) (waiting : List Event) (out new_out : List Command) : Type 0 where
    pub more : List Command
    pub grown : new_out ≡ out ++ more
    pub works : (made : S) (moves : List Move) (given : List Command) → standing made first moves given →
        (here : List Move) × standing made layer here (given ++ more)
        × ((there : List Move) (last : List Event) → WorksOff standing awaited made moment here waiting there last → WorksOff standing awaited made moment moves queue there last)
    pub news : AllNews waiting
    pub asks : TakeAsks awaited first layer out new_out

  asks_start : (a b : Option Ask) (layer : S) (out : List Command) → a ≡ b → TakeAsksWhere a b layer layer out out
  asks_start None b layer out is = ([], sym (append-nil out), ap option_to_list is)
  asks_start (Some ask) b layer out is = (refl, refl)

  pub along_start : (moment : ℕ) (layer : S) (queue : List Event) (out : List Command) → AllNews queue → AlongQueue moment layer queue layer queue out out
  along_start moment layer queue out news = record {
    more = [];
    grown = sym (append-nil out);
    works = λ made moves given stands.
        let P : List Command → Type 0 = λ l. standing made layer moves l in
        (moves, subst P (sym (append-nil given)) stands, λ there last works. works);
    news = news;
    asks = asks_start (awaited layer) (awaited layer) layer out refl;
  }

  asks_step : (a : Option Ask) (first layer next : S) (out between new_out : List Command) → awaited first ≡ a → awaited layer ≡ None →
      TakeAsksWhere a (awaited layer) first layer out between → AsksOnly (awaited next) between new_out →
      TakeAsksWhere a (awaited next) first next out new_out
  asks_step None first layer next out between new_out at free (more, grown, none_asked) (further, grown', asked) = (
    more ++ further,
    grown' ∙ (ap (λ l. l ++ further) grown ∙ append_assoc out more further),
    flat_map-append asks_in more further
        ∙ (ap (λ l. l ++ flat_map asks_in further) (none_asked ∙ ap option_to_list free) ∙ asked),
  )
  asks_step (Some ask) first layer next out between new_out at free (same, kept) asks =
      absurd (let no : Some ask ≡ None = sym at ∙ (ap awaited (sym same) ∙ free) in cc)

  -- a reply's asks and those of the events behind it
  asks_then : (a : Option Ask) (layer next : S) (out between new_out : List Command) → awaited layer ≡ a →
      AsksOnly a out between → TakeAsksWhere a (awaited next) layer next between new_out → AsksOnly (awaited next) out new_out
  asks_then None layer next out between new_out at (more, grown, asked) (further, grown', further_asked) = (
    more ++ further,
    grown' ∙ (ap (λ l. l ++ further) grown ∙ append_assoc out more further),
    flat_map-append asks_in more further ∙ (ap (λ l. l ++ flat_map asks_in further) asked ∙ further_asked),
  )
  asks_then (Some ask) layer next out between new_out at (more, grown, asked) (same, kept) =
      (more, kept ∙ grown, asked ∙ ap option_to_list (sym (ap awaited same ∙ at)))

  pub resume_asks : (layer next : S) (out between new_out : List Command) →
      AsksOnly (awaited layer) out between → TakeAsks awaited layer next between new_out → AsksOnly (awaited next) out new_out
  resume_asks layer next out between new_out asks more = asks_then (awaited layer) layer next out between new_out refl asks more

  pub along_step : (moment : ℕ) (first : S) (queue : List Event) (layer next : S) (event : Event) (waiting : List Event) (out between new_out : List Command) →
      AlongQueue moment first queue layer (event ∷ waiting) out between → awaited layer ≡ None →
      Goes standing layer next (Took moment event) between new_out → AsksOnly (awaited next) between new_out →
      AlongQueue moment first queue next waiting out new_out
  along_step moment first queue layer next event waiting out between new_out along free goes asks = record {
    more = along.more ++ goes.more;
    grown = goes.grown ∙ (ap (λ l. l ++ goes.more) along.grown ∙ append_assoc out along.more goes.more);
    works = λ made moves given stands.
        let far = along.works made moves given stands in
        let P : List Command → Type 0 = λ l. standing made next (far.0 ++ Took moment event ∷ []) l in (
          far.0 ++ Took moment event ∷ [],
          subst P (append_assoc given along.more goes.more) (goes.stands made far.0 (given ++ along.more) far.1),
          λ there last works. far.2 there last (one far.0 event waiting there last (layer, given ++ along.more, far.1, free) works),
        );
    news = along.news.1;
    asks = asks_step (awaited first) first layer next out between new_out refl free along.asks asks;
  }

  -- the loop ends at an open ask
  pub along_open : (moment : ℕ) (first gate : Gate S) (ask : Ask) (out new_out : List Command) →
      AlongQueue moment first.layer first.queue.items gate.layer gate.queue.items out new_out → awaited gate.layer ≡ Some ask →
      WorkedOff standing awaited moment first gate out new_out
  along_open moment first gate ask out new_out along is = record {
    more = along.more;
    grown = along.grown;
    works = λ made moves given stands.
        let far = along.works made moves given stands in
        (far.0, far.2 far.0 gate.queue.items (stopped far.0 gate.queue.items (gate.layer, given ++ along.more, ask, far.1, is)), far.1);
    waits = λ no. absurd (let not : Some ask ≡ None = sym is ∙ no in cc);
    news = along.news;
  }

  -- or where no event is left
  pub along_empty : (moment : ℕ) (first gate : Gate S) (out new_out : List Command) →
      AlongQueue moment first.layer first.queue.items gate.layer gate.queue.items out new_out → gate.queue.items ≡ [] →
      WorkedOff standing awaited moment first gate out new_out
  along_empty moment first gate out new_out along empty = record {
    more = along.more;
    grown = along.grown;
    works = λ made moves given stands.
        let far = along.works made moves given stands in
        let P : List Event → Type 0 = λ q. WorksOff standing awaited made moment far.0 q far.0 q in
        (far.0, far.2 far.0 gate.queue.items (subst P (sym empty) (emptied far.0)), far.1);
    waits = λ _. empty;
    news = along.news;
  }

-- what the loop over the queue keeps
pub record LoopKeeps {S : Type 0} (standing : Standing S) (awaited : S → Option Ask) (left rate : S → ℕ) (moment : ℕ)
    (first gate : Gate S) (out new_out : List Command) : Type 0 where
  pub along : AlongQueue standing awaited moment first.layer first.queue.items gate.layer gate.queue.items out new_out
  pub sound : IsSound standing gate.layer
  pub within : gate_left left rate gate ≤ gate_left left rate first
  pub same_rate : rate gate.layer ≡ rate first.layer

-- an event that is taken costs no more than it did while it waited
pub left_step : (left next rate next_rate here total rest bound : ℕ) → next ≤ left + rate * here → next_rate ≡ rate → total ≡ here + rest →
    left + rate * total ≤ bound → next + next_rate * rest ≤ bound
left_step left next rate next_rate here total rest bound grows same whole within =
    let spread : rate * total ≡ rate * here + rate * rest = ap (λ n. rate * n) whole ∙ grind arith in
    let step : next + rate * rest ≤ bound = omega arith in
    rw same step
