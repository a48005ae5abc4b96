-- Lines, one behind the other.
use Rattle.std.proofs.Common.{◌≡◌, ◌≢◌, ◌<◌, ◌+◌, ℕ, suc, add-one, Bool, true, false, length, take, drop, get_or, List, [], ◌∷◌, ◌++◌, Option, Some, Result, Ok, Err, IfOk, OnOk, OnErr, refl, ap, sym, ◌∙◌, subst}
use Rattle.std.proofs.lemmas.List.{take-append-drop, take_more}
use Rattle.std.proofs.Math.Seq.{drop-cons}
use Rattle.px_message.specs.declared.flow.Flow.{Flow}
use Rattle.px_event.specs.Trace.{Trace}
use Rattle.px_core.specs.Answers.{Answering, AnswererState, Failing, FilesMeaning}
use Rattle.px_core.specs.Course.{Course}
use Rattle.px_core.specs.Due.{Due}
use Rattle.px_core.specs.Router.{IsNow}
use Rattle.px_view.specs.declared.desk.Line.{Line}
use Rattle.px_obey.specs.declared.outcome.Outcome.{Outcome}
use Rattle.px_obey.specs.declared.outcome.Outcome.TheVariants.{GoesOn, Leaves, Quits}
use Rattle.px_obey.specs.Obeyed.{BreaksLine, BreaksLines, ByOrders, FilesAfterOrders, ObeysAll, ObeysLine, ObeysLines, all_obeyed, ended_at, none_obeyed, one_obeyed, point}
use Rattle.px_obey.specs.Over.{AddsAnswers, BreaksAnswers, BreaksOver, GoesOver, StandingFor}
use Rattle.px_obey.proofs.ObeyLemmas.{after_by, breaks_both, goes_both, goes_map, goes_none}

-- behind these no line is obeyed
abbrev is_on : Outcome → Bool
is_on GoesOn = true
is_on _ = false

pub leaves_ends : Leaves ≢ GoesOn
leaves_ends same = let wrong_way : false ≡ true = ap is_on same in cc

pub quits_ends : Quits ≢ GoesOn
quits_ends same = let wrong_way : false ≡ true = ap is_on same in cc

-- the first lines, and one more
pub grown_at : {A : Type 0} (xs : List A) (i : ℕ) (x : A) → i < length xs → x ≡ get_or xs i x → take (i + 1) xs ≡ take i xs ++ x ∷ []
grown_at xs i x within is = take_more xs i x within ∙ ap (λ y. take i xs ++ y ∷ []) (sym is)

pub cut_at : {A : Type 0} (xs : List A) (i : ℕ) (x : A) → i < length xs → x ≡ get_or xs i x → xs ≡ take i xs ++ x ∷ drop (i + 1) xs
cut_at xs i x within is = sym (take-append-drop i xs) ∙ ap (λ l. take i xs ++ l) behind
  where
    behind : drop i xs ≡ x ∷ drop (i + 1) xs
    behind = rw add-one (drop-cons xs i x within ∙ ap (λ y. y ∷ drop (suc i) xs) (sym is))

pub on_ok_if : {T E Q : Type 0} (result : Result T E) (P : T → Type 0) → ((t : T) → P t → Q) → IfOk result P → OnOk result Q
on_ok_if (Ok t) P all p = all t p
on_ok_if (Err e) P all p = tt

module _ {S : Type 0} {answers : Answering S} {drops : List ℕ → S → S → Type 0} {names : S → List (List ℕ)} where
  pub goes_first : {At : StandingFor S} {moment : ℕ} {old : AnswererState S} {net : Option Trace} {taken : List Flow} (conv : ℕ) →
      GoesOver answers drops (λ due first more last. ObeysAll answers drops names due conv first [] more last) At At moment old old net net taken taken
  goes_first conv = goes_none (λ due course trace stands. none_obeyed)

  pub goes_next : {Before Between After : StandingFor S} {moment : ℕ} {old state new : AnswererState S} {net between after : Option Trace} {taken held new_taken : List Flow} (conv : ℕ) (front next : List Line) (one : Line)
      (outcome : Outcome) → outcome ≡ GoesOn → next ≡ front ++ one ∷ [] →
      GoesOver answers drops (λ due first more last. ObeysAll answers drops names due conv first front more last) Before Between moment old state net between taken held →
      GoesOver answers drops (λ due first more last. ObeysLine answers drops names due conv one first more last outcome) Between After moment state new between after held new_taken →
      GoesOver answers drops (λ due first more last. ObeysAll answers drops names due conv first next more last) Before After moment old new net after taken new_taken
  goes_next conv front next one outcome is grown g h = goes_both
      (λ due first middle last done more before line.
      let P : Outcome → Type 0 = λ o. ObeysLine answers drops names due conv one middle more last o in
      one_obeyed front next done (done ++ more) more one middle last before (subst P is line) grown refl) g h

  pub goes_ended : {Before Between After : StandingFor S} {moment : ℕ} {old state new : AnswererState S} {net between after : Option Trace} {taken held new_taken : List Flow} (conv : ℕ) (lines front rest : List Line) (one : Line)
      (outcome given : Outcome) → outcome ≡ given → given ≢ GoesOn → lines ≡ front ++ one ∷ rest →
      GoesOver answers drops (λ due first more last. ObeysAll answers drops names due conv first front more last) Before Between moment old state net between taken held →
      GoesOver answers drops (λ due first more last. ObeysLine answers drops names due conv one first more last outcome) Between After moment state new between after held new_taken →
      GoesOver answers drops (λ due first more last. ObeysLines answers drops names due conv first lines more last given) Before After moment old new net after taken new_taken
  goes_ended conv lines front rest one outcome given is ends split g h = goes_both
      (λ due first middle last done more before line.
      let P : Outcome → Type 0 = λ o. ObeysLine answers drops names due conv one middle more last o in
      ended_at front rest one done more (done ++ more) middle last given split before (subst P is line) ends refl) g h

  pub goes_all : {Before After : StandingFor S} {moment : ℕ} {old new : AnswererState S} {net after : Option Trace} {taken new_taken : List Flow} (conv : ℕ) (lines front : List Line) → front ≡ lines →
      GoesOver answers drops (λ due first more last. ObeysAll answers drops names due conv first front more last) Before After moment old new net after taken new_taken →
      GoesOver answers drops (λ due first more last. ObeysLines answers drops names due conv first lines more last GoesOn) Before After moment old new net after taken new_taken
  goes_all conv lines front whole g = goes_map
      (λ due first last more all. let P : List Line → Type 0 = λ l. ObeysAll answers drops names due conv first l more last in all_obeyed more last (subst P whole all)) g

  pub breaks_next : {fails : Failing S} {Before Between : StandingFor S} {moment : ℕ} {old state : AnswererState S} {files : FilesMeaning} {net between after : Option Trace} {taken held : List Flow} (conv : ℕ)
      (lines front rest : List Line) (one : Line) → lines ≡ front ++ one ∷ rest →
      GoesOver answers drops (λ due first more last. ObeysAll answers drops names due conv first front more last) Before Between moment old state net between taken held →
      BreaksOver answers fails drops (λ due first more trace course. BreaksLine answers drops names due conv one first more trace course) Between moment state files between after →
      BreaksOver answers fails drops (λ due first more trace course. BreaksLines answers drops names due conv first lines more trace course) Before moment old files net after
  breaks_next conv lines front rest one split g h = breaks_both
      (λ due first middle done more trace course before line. record {
        front = front;
        one = one;
        rest = rest;
        split = split;
        front_told = done;
        at = middle;
        obeyed = before;
        more = more;
        breaks = line;
        all = refl;
      }) g h

  -- all of it, as it is promised
  pub adds_answers : {Before After : StandingFor S} {moment : ℕ} {old new : AnswererState S} {net after : Option Trace} {taken new_taken : List Flow} (conv : ℕ) (given lines : List Line) (outcome : Outcome) → given ≡ lines →
      GoesOver answers drops (λ due first more last. ObeysLines answers drops names due conv first given more last outcome) Before After moment old new net after taken new_taken →
      (due : Due) (course : Course S) (trace : Trace) → Before due course trace → IsNow moment trace →
      AddsAnswers answers drops names due (After due) moment conv lines (point trace course old) new outcome net after
  adds_answers {old = old} conv given lines outcome is g due course trace stands now =
      let a = g.adds due course trace stands now in
      let P : List Line → Type 0 = λ l. ObeysLines answers drops names due conv (point trace course old) l a.more a.last outcome in
      record { last = a.last; is_now = a.is_now; more = a.more; does = subst P is a.does; stands = a.stands; at_moment = a.at_moment; tells = a.tells }

  pub breaks_answers : {fails : Failing S} {Before : StandingFor S} {moment : ℕ} {old : AnswererState S} {files : FilesMeaning} {net after : Option Trace} (conv : ℕ) (given lines : List Line) → given ≡ lines →
      BreaksOver answers fails drops (λ due first more trace course. BreaksLines answers drops names due conv first given more trace course) Before moment old files net after →
      (due : Due) (course : Course S) (trace told : Trace) → Before due course trace → IsNow moment trace → net ≡ Some told →
      BreaksAnswers answers fails drops names due conv lines (point trace course old) told after files
  breaks_answers {old = old} conv given lines same h due course trace told stands now is =
      let b = h.breaks due course trace told stands now is in
      let P : List Line → Type 0 = λ l. BreaksLines answers drops names due conv (point trace course old) l b.more b.trace b.course in
      record { more = b.more; trace = b.trace; course = b.course; breaks = subst P same b.breaks; is = b.is; served = b.served; follows = b.follows; leaves = b.leaves }

pub files_after : {S : Type 0} {answers : Answering S} {drops : List ℕ → S → S → Type 0} {T E B : Type 0} (result : Result T E) (fails : Failing S) (old new : AnswererState S) (P : T → Type 0) →
    ((t : T) → P t → ByOrders answers drops old new) → (B → FilesAfterOrders answers fails drops old new.files) → IfOk result P → OnErr result B → FilesAfterOrders answers fails drops old new.files
files_after (Ok t) fails old new P by after p b = after_by fails old new (by t p)
files_after (Err e) fails old new P by after p b = after b
