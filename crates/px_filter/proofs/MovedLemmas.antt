-- An expression hangs on the tokens of its text and not on their places.
use Rattle.std.proofs.Common.{◌≡◌, ℕ, suc, List, [], ◌∷◌, ◌++◌, map, Some, Ok, refl, sym, ap, subst}
use Rattle.px_filter.specs.Expression.{Expression, asked, negated, all_of, any_of}
use Rattle.px_filter.specs.Grammar.{IsBoth, IsChoice, IsChoices, IsUnary, alone, at, bare, group, more_boths, more_choices, more_unaries, negation, one_both, one_choice, one_unary, sought, status}
use Rattle.px_filter.specs.Parsing.{parse}
use Rattle.px_filter.specs.Tokens.{tokens_of}
use Rattle.px_filter.specs.declared.operator.Argued.TheVariants as argued
use Rattle.px_filter.specs.declared.operator.Operator.TheVariants as operators
use Rattle.px_filter.specs.declared.operator.Part.TheVariants as parts
use Rattle.px_filter.specs.declared.token.Token.{Token}
use Rattle.px_filter.specs.declared.token.Token.TheVariants as token
use Rattle.px_filter.specs.declared.token.Placed.{Placed}
use Rattle.px_filter.specs.declared.tree.Test.TheVariants as tests
use Rattle.px_filter.proofs.GrammarLemmas.{filter_read}
use Rattle.px_filter.proofs.SoundLemmas.{read_filter}

abbrev Same : List Placed → List Placed → Type 0
Same [] [] = Unit {0}
Same [] (u ∷ us) = ⊥
Same (t ∷ ts) [] = ⊥
Same (t ∷ ts) (u ∷ us) = (t.token ≡ u.token) × Same ts us

split : (ts vs us : List Placed) → Same (ts ++ vs) us → (a : List Placed) × (b : List Placed) × (us ≡ a ++ b) × Same ts a × Same vs b
split [] vs us h = ([], us, refl, tt, h)
split (t ∷ ts) vs [] h = absurd h
split (t ∷ ts) vs (u ∷ us) h =
    let r = split ts vs us h.1 in
    (u ∷ r.0, r.1, ap (λ l. u ∷ l) r.2, (h.0, r.3), r.4)

-- one token, and two
alone_moved : (P : List Placed → Type 0) (kind : Token) (us : List Placed) → ((p : ℕ) → P (at p kind ∷ [])) →
    (place : ℕ) → Same (at place kind ∷ []) us → P us
alone_moved P kind [] f place h = absurd h
alone_moved P kind (u ∷ []) f place h = subst (λ k. P (at u.place k ∷ [])) h.0 (f u.place)
alone_moved P kind (u ∷ v ∷ us) f place h = absurd h.1

front_moved : (P : List Placed → Type 0) (kind : Token) (ts us : List Placed) → ((p : ℕ) (vs : List Placed) → Same ts vs → P (at p kind ∷ vs)) →
    (place : ℕ) → Same (at place kind ∷ ts) us → P us
front_moved P kind ts [] f place h = absurd h
front_moved P kind ts (u ∷ us) f place h = subst (λ k. P (at u.place k ∷ us)) h.0 (f u.place us h.1)

mutual
  unary_moved : {depth : ℕ} {ts : List Placed} {e : Expression} → IsUnary depth ts e → (us : List Placed) → Same ts us → IsUnary depth us e
  unary_moved (negation {depth = d} {place = p} {ts = ts} {e = e} u) us h =
      front_moved (λ l. IsUnary (suc d) l (negated e)) token.Not ts us (λ q vs same. negation (unary_moved u vs same)) p h
  unary_moved (group {depth = d} {place = p} {ts = ts} {es = es} q k) us h =
      front_moved (λ l. IsUnary (suc d) l (all_of es)) token.Open (ts ++ (at q token.Close ∷ [])) us
      (λ r vs same. let cut = split ts (at q token.Close ∷ []) vs same in
      subst (λ l. IsUnary (suc d) (at r token.Open ∷ l) (all_of es)) (sym cut.2)
      (alone_moved (λ l. IsUnary (suc d) (at r token.Open ∷ (cut.0 ++ l)) (all_of es)) token.Close cut.1
      (λ x. group x (choices_moved k cut.0 cut.3)) q cut.4))
      p h
  unary_moved (alone {depth = d} {place = p} {fact = fact}) us h =
      alone_moved (λ l. IsUnary d l (asked (tests.Fact fact))) (token.Operator (Some (operators.Alone fact))) us (λ q. alone) p h
  unary_moved (status {depth = d} {place = p} {behind = b} {code = code} {word = w} is) us h =
      let sign = token.Operator (Some (operators.Argued argued.Code)) in
      front_moved (λ l. IsUnary d l (asked (tests.Code code))) sign (at b (token.Word w) ∷ []) us
      (λ q vs same. alone_moved (λ l. IsUnary d (at q sign ∷ l) (asked (tests.Code code))) (token.Word w) vs
      (λ r. status {place = q} {behind = r} {word = w} is) b same) p h
  unary_moved (sought {depth = d} {place = p} {behind = b} {part = part} {word = w} is) us h =
      let sign = token.Operator (Some (operators.Argued (argued.Part part))) in
      front_moved (λ l. IsUnary d l (asked (tests.Part part w))) sign (at b (token.Word w) ∷ []) us
      (λ q vs same. alone_moved (λ l. IsUnary d (at q sign ∷ l) (asked (tests.Part part w))) (token.Word w) vs
      (λ r. sought {place = q} {behind = r} {part = part} {word = w} is) b same) p h
  unary_moved (bare {depth = d} {place = p} {word = w} is) us h =
      alone_moved (λ l. IsUnary d l (asked (tests.Part parts.Url w))) (token.Word w) us (λ q. bare is) p h

  both_moved : {depth : ℕ} {ts : List Placed} {es : List Expression} → IsBoth depth ts es → (us : List Placed) → Same ts us → IsBoth depth us es
  both_moved (one_unary u) us h = one_unary (unary_moved u us h)
  both_moved {depth} (more_unaries {ts = ts} {us = vs} {e = e} {es = es} p u b) us h =
      let cut = split ts (at p token.And ∷ vs) us h in
      subst (λ l. IsBoth depth l (e ∷ es)) (sym cut.2)
      (front_moved (λ l. IsBoth depth (cut.0 ++ l) (e ∷ es)) token.And vs cut.1
      (λ q ws same. more_unaries q (unary_moved u cut.0 cut.3) (both_moved b ws same)) p cut.4)

  choice_moved : {depth : ℕ} {ts : List Placed} {es : List Expression} → IsChoice depth ts es → (us : List Placed) → Same ts us → IsChoice depth us es
  choice_moved (one_both b) us h = one_both (both_moved b us h)
  choice_moved {depth} (more_boths {ts = ts} {us = vs} {es = es} {fs = fs} p b c) us h =
      let cut = split ts (at p token.Or ∷ vs) us h in
      subst (λ l. IsChoice depth l (all_of es ∷ fs)) (sym cut.2)
      (front_moved (λ l. IsChoice depth (cut.0 ++ l) (all_of es ∷ fs)) token.Or vs cut.1
      (λ q ws same. more_boths q (both_moved b cut.0 cut.3) (choice_moved c ws same)) p cut.4)

  choices_moved : {depth : ℕ} {ts : List Placed} {es : List Expression} → IsChoices depth ts es → (us : List Placed) → Same ts us → IsChoices depth us es
  choices_moved (one_choice c) us h = one_choice (choice_moved c us h)
  choices_moved {depth} (more_choices {ts = ts} {us = vs} {es = es} {fs = fs} c k) us h =
      let cut = split ts vs us h in
      subst (λ l. IsChoices depth l (any_of es ∷ fs)) (sym cut.2) (more_choices (choice_moved c cut.0 cut.3) (choices_moved k cut.1 cut.4))

same_of : (ts us : List Placed) → map (λ t. t.token) ts ≡ map (λ t. t.token) us → Same ts us
same_of [] [] h = tt
same_of [] (u ∷ us) h = absurd cc
same_of (t ∷ ts) [] h = absurd cc
same_of (t ∷ ts) (u ∷ us) h =
    let first : t.token ≡ u.token = cc in
    let rest : map (λ t. t.token) ts ≡ map (λ t. t.token) us = cc in
    (first, same_of ts us rest)

-- the same tokens, wherever they stand, are the same expression
pub moved : (text other : List ℕ) (e : Expression) → map (λ t. t.token) (tokens_of text) ≡ map (λ t. t.token) (tokens_of other) →
    parse text ≡ Ok e → parse other ≡ Ok e
moved text other e same h =
    let f = read_filter text e h in
    filter_read other e (f.0, choices_moved f.1 (tokens_of other) (same_of (tokens_of text) (tokens_of other) same), f.2)
