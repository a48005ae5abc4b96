-- What commands with at most one ask or dial ask.
use Rattle.std.proofs.Common.{◌≡◌, ℕ, List, [], ◌∷◌, ◌++◌, Option, Some, None, refl, ap, sym, ◌∙◌, subst, option_to_list}
use Rattle.std.specs.List.{flat_map}
use Rattle.px_message.specs.declared.flow.Flow.{Flow}
use Rattle.px_event.specs.declared.ask.Ask.{Ask}
use Rattle.px_event.specs.declared.ask.Ask.TheVariants as asks
use Rattle.px_event.specs.declared.ask.Hook.{Hook}
use Rattle.px_event.specs.declared.command.Command.{Command}
use Rattle.px_event.specs.declared.command.Command.TheVariants as commands
use Rattle.px_event.specs.Layer.{asks_in}
use Rattle.px_event.specs.View.{Atom, about, flows, seen_of}
use Rattle.px_core.specs.declared.held.Question.{Question}
use Rattle.px_core.specs.Conversation.{AllNamed, IsHookOf}
use Rattle.px_core.specs.Held.{asked_from, dial_from, dial_of}

-- commands that ask nothing
pub record AsksNothing (question : Option Question) (dial : Option ℕ) (given : List Command) : Type 0 where
  pub asked : asked_from question given ≡ question
  pub dials : dial_from dial given ≡ dial
  pub sees : seen_of flows given ≡ []

pub quiet : (given : List Command) → flat_map asks_in given ≡ [] → (question : Option Question) (dial : Option ℕ) → AsksNothing question dial given
quiet [] none question dial = record { asked = refl; dials = refl; sees = refl }
quiet (commands.Send side text ∷ given) none question dial =
    let r = quiet given none question dial in record { asked = r.asked; dials = r.dials; sees = r.sees }
quiet (commands.Close side ∷ given) none question dial =
    let r = quiet given none question dial in record { asked = r.asked; dials = r.dials; sees = r.sees }
quiet (commands.Done flow ∷ given) none question dial =
    let r = quiet given none question dial in record { asked = r.asked; dials = r.dials; sees = r.sees }
quiet (commands.Dial server address inside ∷ given) none question dial =
    absurd (let no : asks.Dial server ∷ flat_map asks_in given ≡ [] = none in cc)
quiet (commands.Ask ask flow ∷ given) none question dial =
    absurd (let no : ask ∷ flat_map asks_in given ≡ [] = none in cc)

-- the dial that is awaited then
abbrev pub dial_after : Option Ask → Option ℕ → Option ℕ
dial_after (Some (asks.Dial server)) dial = Some server
dial_after _ dial = dial

-- the question is what is awaited, and its flow was asked about last
pub record IsTheQuestion (awaits : Option Ask) (given : List Command) (question : Question) : Type 0 where
  pub awaited : awaits ≡ Some question.ask
  pub hook : question.ask ≡ asks.Hook question.flow.id.index question.hook
  pub earlier : List Atom
  pub last : seen_of flows given ≡ earlier ++ about question.ask question.flow ∷ []

-- commands with at most one ask or dial, the one that is awaited then
pub record AsksOne (awaits : Option Ask) (dial : Option ℕ) (given : List Command) : Type 0 where
  pub dials : dial_from dial given ≡ dial_after awaits dial
  pub no_question : asked_from None given ≡ None → (flow : ℕ) (hook : Hook) → awaits ≡ Some (asks.Hook flow hook) → ⊥
  pub question : (question : Question) → asked_from None given ≡ Some question → IsTheQuestion awaits given question

head_tail : {A : Type 0} (a b : A) (xs ys : List A) → a ∷ xs ≡ b ∷ ys → (a ≡ b) × (xs ≡ ys)
head_tail a b xs ys e = (cc, cc)

on : (awaits : Option Ask) (dial : Option ℕ) (command : Command) (given : List Command) → AsksOne awaits dial given →
    dial_from dial (command ∷ given) ≡ dial_from dial given → asked_from None (command ∷ given) ≡ asked_from None given →
    seen_of flows (command ∷ given) ≡ seen_of flows given → AsksOne awaits dial (command ∷ given)
on awaits dial command given r d q s = record {
  dials = d ∙ r.dials;
  no_question = λ none. r.no_question (sym q ∙ none);
  question = λ question is. let t = r.question question (sym q ∙ is) in
      record { awaited = t.awaited; hook = t.hook; earlier = t.earlier; last = s ∙ t.last };
}

dial_one : (awaits : Option Ask) (dial : Option ℕ) (server : ℕ) (address : _) (inside : _) (given : List Command) →
    asks.Dial server ∷ flat_map asks_in given ≡ option_to_list awaits → AsksOne awaits dial (commands.Dial server address inside ∷ given)
dial_one None dial server address inside given is = absurd (let no : asks.Dial server ∷ flat_map asks_in given ≡ [] = is in cc)
dial_one (Some ask) dial server address inside given is =
    let parts = head_tail (asks.Dial server) ask (flat_map asks_in given) [] is in
    let r = quiet given parts.1 None (Some server) in
    record {
      dials = r.dials ∙ ap (λ a. dial_after (Some a) dial) parts.0;
      no_question = λ none flow hook same. let no : asks.Dial server ≡ asks.Hook flow hook = cc in cc;
      question = λ question some. absurd (let no : None ≡ Some question = sym r.asked ∙ some in cc);
    }

ask_one : (awaits : Option Ask) (dial : Option ℕ) (ask : Ask) (flow : Flow) (given : List Command) → IsHookOf flow.id.index ask →
    ask ∷ flat_map asks_in given ≡ option_to_list awaits → AsksOne awaits dial (commands.Ask ask flow ∷ given)
ask_one None dial ask flow given of is = absurd (let no : ask ∷ flat_map asks_in given ≡ [] = is in cc)
ask_one (Some other) dial (asks.Dial server) flow given of is = absurd of
ask_one (Some other) dial (asks.Hook index hook) flow given of is =
    let parts = head_tail (asks.Hook index hook) other (flat_map asks_in given) [] is in
    let q : Question = record { ask = asks.Hook index hook; hook = hook; flow = flow } in
    let r = quiet given parts.1 (Some q) dial in
    let here : IsTheQuestion (Some other) (commands.Ask (asks.Hook index hook) flow ∷ given) q = record {
      awaited = ap Some (sym parts.0);
      hook = ap (λ i. asks.Hook i hook) of;
      earlier = [];
      last = ap (λ l. about (asks.Hook index hook) flow ∷ l) r.sees;
    } in
    record {
      dials = r.dials ∙ ap (λ a. dial_after (Some a) dial) parts.0;
      no_question = λ none. absurd (let no : Some q ≡ None = sym r.asked ∙ none in cc);
      question = λ question some.
          let same : q ≡ question = some_one q question (sym r.asked ∙ some) in
          let P : Question → Type 0 = λ p. IsTheQuestion (Some other) (commands.Ask (asks.Hook index hook) flow ∷ given) p in
          subst P same here;
    }
  where
    some_one : (a b : Question) → Some a ≡ Some b → a ≡ b
    some_one a b e = cc

pub asks_one : (conv : ℕ) (awaits : Option Ask) (dial : Option ℕ) (given : List Command) → AllNamed conv given →
    flat_map asks_in given ≡ option_to_list awaits → AsksOne awaits dial given
asks_one conv None dial [] named is = record {
  dials = refl;
  no_question = λ none flow hook same. let no : None ≡ Some (asks.Hook flow hook) = same in cc;
  question = λ question some. absurd (let no : None ≡ Some question = some in cc);
}
asks_one conv (Some ask) dial [] named is = absurd (let no : [] ≡ ask ∷ [] = is in cc)
asks_one conv awaits dial (commands.Send side text ∷ given) named is =
    on awaits dial (commands.Send side text) given (asks_one conv awaits dial given named.1 is) refl refl refl
asks_one conv awaits dial (commands.Close side ∷ given) named is =
    on awaits dial (commands.Close side) given (asks_one conv awaits dial given named.1 is) refl refl refl
asks_one conv awaits dial (commands.Done flow ∷ given) named is =
    on awaits dial (commands.Done flow) given (asks_one conv awaits dial given named.1 is) refl refl refl
asks_one conv awaits dial (commands.Dial server address inside ∷ given) named is = dial_one awaits dial server address inside given is
asks_one conv awaits dial (commands.Ask ask flow ∷ given) named is = ask_one awaits dial ask flow given named.0.1 is

-- where no dial awaited its end
pub dial_now : (awaits : Option Ask) → dial_after awaits None ≡ dial_of awaits
dial_now None = refl
dial_now (Some (asks.Dial server)) = refl
dial_now (Some (asks.Hook flow hook)) = refl
