-- Runs in which nobody comes at the door for operators: what is told is the steps of conversations, and the run is over by the end alone.
use Rattle.std.proofs.Common.{◌≡◌, ℕ, Bool, true, false, List, [], ◌∷◌, ◌++◌, None, All, map, refl, sym, ap, ◌∙◌, subst}
use Rattle.std.specs.Prelude.{◌==◌, if◌then◌else◌}
use Rattle.std.specs.List.{flat_map}
use Rattle.std.proofs.lemmas.Grind.{flat_map-append}
use Rattle.std.proofs.lemmas.List.Elements.{All-nil, All-cons, All-head, All-tail, All-append, All-map, All-replicate}
use Rattle.px_event.specs.declared.heard.Heard.{Heard}
use Rattle.px_event.specs.declared.heard.Heard.TheVariants as heard
use Rattle.px_event.specs.declared.side.Door.TheVariants.{Control, Proxy}
use Rattle.px_event.specs.declared.side.Side.TheVariants.{Client, Server}
use Rattle.px_event.specs.declared.step.Step.{Step}
use Rattle.px_event.specs.declared.step.Step.TheVariants as steps
use Rattle.px_event.specs.Trace.{Trace}
use Rattle.px_core.specs.Answers.{Answering, AnswererState}
use Rattle.px_core.specs.Calls.{calls}
use Rattle.px_core.specs.Course.{Course}
use Rattle.px_core.specs.Due.{Due}
use Rattle.px_gen.specs.Heard.{Hears, all_heard, ends, heard_by}
use Rattle.px_gen.specs.Peer.{peer as client}
use Rattle.px_gen.specs.Script.{answer_of, dialled_by, heard_from, heard_of, numbers_below, pieces_of, request_of, script}
use Rattle.px_gen.proofs.HeardLemmas.{all_if}
use Rattle.px_view.specs.declared.desk.Line.{Line}
use Rattle.px_view.specs.Desk.{Stand, stands}
use Rattle.px_app.specs.Operators.{leaves, leaves_at, nothing, operator_stand, says, says_at, stand_from, stand_on, word_of}
use Rattle.px_app.specs.Statuses.{ends_by, ends_from, ends_heard, is_end}
use Rattle.px_app.specs.Worked.{Turns, Worked, not_begun, of_conversation, of_leaving, of_operator, one_begun, one_worked}
use Rattle.px_app.proofs.TurnLemmas.{NoneHeard, none_heard, none_of}

-- it is no connection at that door
abbrev pub ComesNot : ℕ × Heard → Type 0
ComesNot (moment, heard.Accepted conv Control peer) = ⊥
ComesNot _ = Unit {0}

-- ---- nobody is an operator

stands_none : (bytes : List ℕ) → stands bytes None ≡ None
stands_none [] = refl
stands_none (b ∷ bytes) = stands_none bytes

piece_none : (here : Bool) (bytes : List ℕ) → (if here then stands bytes None else None) ≡ None
piece_none true bytes = stands_none bytes
piece_none false bytes = refl

abbrev no_stand : Stand
no_stand = None

closed_none : (here : Bool) → (if here then no_stand else no_stand) ≡ no_stand
closed_none true = refl
closed_none false = refl

on_none : (conv moment : ℕ) (what : Heard) → ComesNot (moment, what) → stand_on conv None what ≡ None
on_none conv moment (heard.Accepted number Control peer) not = absurd not
on_none conv moment (heard.Accepted number Proxy peer) not = refl
on_none conv moment (heard.Piece number Client bytes) not = piece_none (number == conv) bytes
on_none conv moment (heard.Piece number (Server server) bytes) not = refl
on_none conv moment (heard.Closed number Client) not = closed_none (number == conv)
on_none conv moment (heard.Closed number (Server server)) not = refl
on_none conv moment (heard.Dialled number server ok) not = refl
on_none conv moment heard.End not = refl

stand_none : (conv : ℕ) (trace : Trace) → All ComesNot (all_heard trace) → stand_from conv None trace ≡ None
stand_none conv [] all = refl
stand_none conv (steps.Heard moment what ∷ rest) all =
    ap (λ s. stand_from conv s rest) (on_none conv moment what (All-head ComesNot (moment, what) (all_heard rest) all))
    ∙ stand_none conv rest (All-tail ComesNot (moment, what) (all_heard rest) all)
stand_none conv (steps.Begun number ∷ rest) all = stand_none conv rest all
stand_none conv (steps.Asked number ask ∷ rest) all = stand_none conv rest all
stand_none conv (steps.Answered number ask reply ∷ rest) all = stand_none conv rest all
stand_none conv (steps.Said number what ∷ rest) all = stand_none conv rest all
stand_none conv (steps.Done flow ∷ rest) all = stand_none conv rest all

word_none : (trace : Trace) (what : Heard) → ((conv : ℕ) → operator_stand conv trace ≡ None) → word_of trace what ≡ nothing
word_none trace (heard.Accepted conv door peer) none = refl
word_none trace (heard.Piece conv Client bytes) none = ap (λ s. says_at conv s (calls conv trace).peer bytes) (none conv)
word_none trace (heard.Piece conv (Server server) bytes) none = refl
word_none trace (heard.Closed conv Client) none = ap (λ s. leaves_at conv s (calls conv trace).peer) (none conv)
word_none trace (heard.Closed conv (Server server)) none = refl
word_none trace (heard.Dialled conv server ok) none = refl
word_none trace heard.End none = refl

not_says : (conv : ℕ) (lines : List Line) → nothing ≡ says conv lines → ⊥
not_says conv lines is = cc

not_leaves : (conv : ℕ) → nothing ≡ leaves conv → ⊥
not_leaves conv is = cc

-- ---- the end

ends_more : (ended : Bool) (trace more : Trace) → ends_from ended (trace ++ more) ≡ ends_from (ends_from ended trace) more
ends_more ended [] more = refl
ends_more ended (step ∷ trace) more = ends_more (ends_by ended step) trace more

ends_still : (ended : Bool) (more : Trace) → NoneHeard more → ends_from ended more ≡ ended
ends_still ended [] none = refl
ends_still ended (steps.Heard moment what ∷ more) none = absurd none
ends_still ended (steps.Begun conv ∷ more) none = absurd none
ends_still ended (steps.Asked number ask ∷ more) none = ends_still ended more none
ends_still ended (steps.Answered number ask reply ∷ more) none = ends_still ended more none
ends_still ended (steps.Said number what ∷ more) none = ends_still ended more none
ends_still ended (steps.Done flow ∷ more) none = ends_still ended more none

ends_next : (trace more : Trace) (moment : ℕ) (what : Heard) → NoneHeard more → ends_heard ((trace ++ steps.Heard moment what ∷ []) ++ more) ≡ is_end what
ends_next trace more moment what none =
    ends_more false (trace ++ steps.Heard moment what ∷ []) more
    ∙ (ends_still (ends_heard (trace ++ steps.Heard moment what ∷ [])) more none ∙ ends_more false trace (steps.Heard moment what ∷ []))

ends_begun : (trace : Trace) (conv : ℕ) (more : Trace) → NoneHeard more → ends_heard ((trace ++ steps.Begun conv ∷ []) ++ more) ≡ ends_heard trace
ends_begun trace conv more none =
    ends_more false (trace ++ steps.Begun conv ∷ []) more
    ∙ (ends_still (ends_heard (trace ++ steps.Begun conv ∷ [])) more none ∙ ends_more false trace (steps.Begun conv ∷ []))

-- ---- a front of what is heard

front_has_all : {A : Type 0} (P : A → Type 0) (xs ys : List A) → All P (xs ++ ys) → All P xs
front_has_all P [] ys all = All-nil P
front_has_all P (x ∷ xs) ys all = All-cons P x xs (All-head P x (xs ++ ys) all) (front_has_all P xs ys (All-tail P x (xs ++ ys) all))

front_heard : (xs ys : Trace) → All ComesNot (all_heard (xs ++ ys)) → All ComesNot (all_heard xs)
front_heard xs ys all =
    let P : List (ℕ × Heard) → Type 0 = λ l. All ComesNot l in
    front_has_all ComesNot (all_heard xs) (all_heard ys) (subst P (flat_map-append heard_by xs ys) all)

-- ---- the run

module _ {S : Type 0} (answers : Answering S) (drops : List ℕ → S → S → Type 0) (names : S → List (List ℕ)) (due : Due) where
  -- one thing heard, which is no operator's
  turn_plain : (trace : Trace) (course : Course S) (moment : ℕ) (what : Heard) (more : List Step) (next : Trace) (turned : Course S) (over : Bool) → word_of trace what ≡ nothing →
      Turns answers drops names due trace course moment what more next turned over → (next ≡ (trace ++ steps.Heard moment what ∷ []) ++ more) × (over ≡ is_end what) × NoneHeard more
  turn_plain trace course moment what more next turned over none (of_conversation list word of) = (refl, refl, none_heard what list of)
  turn_plain trace course moment what more next turned over none (of_operator conv lines list now pending last outcome word came obeys) = absurd (not_says conv lines (sym none ∙ word))
  turn_plain trace course moment what more next turned over none (of_leaving conv word) = absurd (not_leaves conv (sym none ∙ word))

  -- what is told is the steps of conversations, and the run is over where the end was heard last
  pub worked_plain : (first : AnswererState S) (told trace : Trace) (course : Course S) (over : Bool) → Worked answers drops names due first told trace course over → All ComesNot (all_heard told) →
      (told ≡ trace) × (ends_heard told ≡ over)
  worked_plain first told trace course over not_begun all = (refl, refl)
  worked_plain first told trace course over (one_worked before next_told was next at turned saved moment what more ends old new worked turns tells own saves) all =
      let P : Trace → Type 0 = λ t. All ComesNot (all_heard t) in
      let heard_so_far = before ++ steps.Heard moment what ∷ [] in
      let early = front_heard before (steps.Heard moment what ∷ []) (front_heard heard_so_far more (subst P tells all)) in
      let so = worked_plain first before was at false worked early in
      let none = λ (conv : ℕ). ap (λ t. operator_stand conv t) (sym so.0) ∙ stand_none conv before early in
      let turn = turn_plain was at moment what more trace turned over (word_none was what none) turns in (
        tells ∙ (ap (λ t. (t ++ steps.Heard moment what ∷ []) ++ more) so.0 ∙ sym turn.0),
        ap ends_heard tells ∙ (ends_next before more moment what turn.2 ∙ sym turn.1),
      )
  worked_plain first told trace course over (one_begun before next_told was next at saved conv more old new worked own tells goes same saves) all =
      let P : Trace → Type 0 = λ t. All ComesNot (all_heard t) in
      let begun_so_far = before ++ steps.Begun conv ∷ [] in
      let early = front_heard before (steps.Begun conv ∷ []) (front_heard begun_so_far more (subst P tells all)) in
      let so = worked_plain first before was at false worked early in (
        tells ∙ (ap (λ t. (t ++ steps.Begun conv ∷ []) ++ more) so.0 ∙ sym goes),
        ap ends_heard tells ∙ (ends_begun before conv more (none_of conv more own) ∙ so.1),
      )

-- ---- generated flows

all_flat : {X A : Type 0} (P : A → Type 0) (f : X → List A) → ((x : X) → All P (f x)) → (xs : List X) → All P (flat_map f xs)
all_flat P f each [] = All-nil P
all_flat P f each (x ∷ xs) = All-append P (f x) (flat_map f xs) (each x) (all_flat P f each xs)

flow_plain : (i : ℕ) → All ComesNot (heard_of i)
flow_plain i =
    let pieces = map (heard_from (Server 0)) (pieces_of (answer_of i)) in
    All-cons ComesNot (heard_from Client (request_of i)) (dialled_by i ++ pieces) tt
    (All-append ComesNot (dialled_by i) pieces (all_if ComesNot (i == 0) (0, heard.Dialled 0 0 true) tt)
    (All-map ComesNot (heard_from (Server 0)) (pieces_of (answer_of i)) (λ k d less. tt)))

script_plain : (count : ℕ) → All ComesNot (script count)
script_plain count =
    let flows = flat_map heard_of (numbers_below count) in
    let close : ℕ × Heard = (0, heard.Closed 0 Client) in
    All-cons ComesNot (0, heard.Accepted 0 Proxy client) (flows ++ close ∷ []) tt
    (All-append ComesNot flows (close ∷ []) (all_flat ComesNot heard_of flow_plain (numbers_below count)) (All-cons ComesNot close [] tt (All-nil ComesNot)))

-- nobody comes at that door in a run that begins the script
pub hears_plain : (count : ℕ) (told : Trace) → Hears count told → All ComesNot (all_heard told)
hears_plain count told hears =
    let P : List (ℕ × Heard) → Type 0 = λ l. All ComesNot l in
    let all = All-append ComesNot (script count) (ends hears.0) (script_plain count) (All-replicate ComesNot hears.0 (0, heard.End) tt) in
    front_has_all ComesNot (all_heard told) hears.1.0 (subst P hears.1.1 all)
