-- Clauses of a result joined, clauses on a list that began empty, and what an option has.
use Rattle.std.proofs.Common.{◌≡◌, ℕ, List, [], ◌++◌, Option, Some, ap, sym, ◌∙◌, subst, option_to_list, IfOk, OnOk}
use Rattle.std.specs.Prelude.{Result, Ok, Err}
use Rattle.std.specs.List.{flat_map}
use Rattle.px_event.specs.declared.ask.Ask.{Ask}
use Rattle.px_event.specs.declared.command.Command.{Command}
use Rattle.px_event.specs.declared.reply.Reply.{Reply}
use Rattle.px_event.specs.Layer.{Move, Replied, Standing, Goes, AsksOnly, asks_in}
use Rattle.px_core.specs.Conversation.{AllNamed, NamesOnly, AsksWhile}

pub same_some : {A : Type 0} (a b : A) → Some a ≡ Some b → a ≡ b
same_some a b is = cc

pub if_ok_both : {T E A : Type 0} (r : Result T E) (B P : T → Type 0) → ((t : T) → A → B t → P t) → OnOk r A → IfOk r B → IfOk r P
if_ok_both (Ok t) B P all a b = all t a b
if_ok_both (Err e) B P all a b = tt

pub if_ok_all : {T E A B : Type 0} (r : Result T E) (Q P : T → Type 0) → ((t : T) → A → Q t → B → P t) → OnOk r A → IfOk r Q → OnOk r B → IfOk r P
if_ok_all (Ok t) Q P all a q b = all t a q b
if_ok_all (Err e) Q P all a q b = tt

pub goes_from_empty : {C : Type 0} (standing : Standing C) (before after : C) (move : Move) (out given : List Command) → out ≡ [] →
    Goes standing before after move out given → Goes standing before after move [] given
goes_from_empty standing before after move out given empty goes =
    let P : List Command → Type 0 = λ l. Goes standing before after move l given in subst P empty goes

pub asks_from_empty : (awaits : Option Ask) (out given : List Command) → out ≡ [] → AsksOnly awaits out given → flat_map asks_in given ≡ option_to_list awaits
asks_from_empty awaits out given empty (more, grown, is) = ap (λ l. flat_map asks_in l) (grown ∙ ap (λ l. l ++ more) empty) ∙ is

pub named_from_empty : (number conv : ℕ) (out given : List Command) → out ≡ [] → number ≡ conv → NamesOnly number out given → AllNamed conv given
named_from_empty number conv out given empty is names =
    let P : List Command → Type 0 = AllNamed number in
    let Q : ℕ → Type 0 = λ n. AllNamed n given in
    subst Q is (subst P (sym (names.grown ∙ ap (λ l. l ++ names.more) empty)) names.named)

pub asks_while_from_empty : (was awaits : Option Ask) (out given : List Command) → out ≡ [] → AsksWhile was awaits out given → AsksWhile was awaits [] given
asks_while_from_empty was awaits out given empty asks = let P : List Command → Type 0 = λ l. AsksWhile was awaits l given in subst P empty asks

pub goes_moved : {C : Type 0} (standing : Standing C) (before after : C) (moment : ℕ) (reply said : Reply) (given : List Command) → reply ≡ said →
    Goes standing before after (Replied moment reply) [] given → Goes standing before after (Replied moment said) [] given
goes_moved standing before after moment reply said given is goes = let P : Reply → Type 0 = λ r. Goes standing before after (Replied moment r) [] given in subst P is goes

pub on_ok_of : {T E P : Type 0} (r : Result T E) → P → OnOk r P
on_ok_of (Ok t) p = p
on_ok_of (Err e) p = tt

pub on_ok_both : {T E A B P : Type 0} (r : Result T E) → (A → B → P) → OnOk r A → OnOk r B → OnOk r P
on_ok_both (Ok t) all a b = all a b
on_ok_both (Err e) all a b = tt

pub on_ok_map : {T E A P : Type 0} (r : Result T E) → (A → P) → OnOk r A → OnOk r P
on_ok_map (Ok t) all a = all a
on_ok_map (Err e) all a = tt
