-- What `regex` says of a word, in the words of patterns.
use Rattle.std.proofs.Common.{◌≡◌, ◌≢◌, ◌<◌, ◌≤◌, ℕ, Bool, true, false, cond, List, get_or, length, Option, Some, None, IsSomeAnd, IfSome, is_some, inl, inr, refl, sym, ap, ◌∙◌, subst, arith}
use Rattle.std.proofs.lemmas.Bool.{le-leb, leb-true, cases_Bool}
use Rattle.std.proofs.Math.Dec.{leb}
use Rattle.std.specs.Str.{chars, is_utf8}
use Rattle.regex.specs.Patterns.{Re, find, Reads, Refuses, SameCaptures}
use Rattle.regex.proofs.ForCallers.{is_match_alike}
use Rattle.regex_hir.specs.Meaning.{meaning}
use Rattle.regex_hir.specs.declared.hir.Hir.{Hir}
use Rattle.regex_syntax.specs.Brackets.{Nested}
use Rattle.regex_syntax.specs.Grammar.{Names, group_count, read}
use Rattle.regex_syntax.specs.declared.Config.{Config}
use Rattle.regex_syntax.specs.declared.error.ErrorKind.{ErrorKind}
use Rattle.regex_syntax.specs.declared.error.ErrorKind.TheVariants.{OutOfMemory}
use Rattle.px_filter.specs.Pattern.{filter_config, within_limit, pattern_of, is_pattern, occurs, found, Seeks}

abbrev Read : Type 0
Read = Option (Nested Re × Names)

-- what a tree that was read in the word is to the pattern
abbrev Stands : Re → Option Re → Type 0
Stands tree pattern = (re : Re) × (pattern ≡ Some re) × SameCaptures tree re

limited : (re : Nested Re) (names : Names) → re.depth ≤ 250 → within_limit (Some (re, names)) ≡ Some re.value
limited re names h = let e : leb re.depth 250 ≡ true = le-leb re.depth 250 h in rw e refl

stands_read : (tree : Re) (given : Names) (o : Read) →
    IsSomeAnd o (λ (re, found). (re.depth ≤ 250) × SameCaptures tree re.value × (given ≡ found) × (group_count tree ≤ length given)) →
    Stands tree (within_limit o)
stands_read tree given None h = absurd h
stands_read tree given (Some (re, names)) h = (re.value, limited re names h.0, h.1)

stands_word : (tree : Re) (utf8 : Bool) (o : Option Re) → utf8 ≡ true → Stands tree o → Stands tree (cond utf8 o None)
stands_word tree true o e h = h
stands_word tree false o e h = cc

stands : (config : Config) (word : List ℕ) (hir : Hir) (names : Names) → config ≡ filter_config → is_utf8 word ≡ true →
    Reads config word hir names → Stands (meaning hir) (pattern_of word)
unfolding Reads
stands config word hir names same utf8 h =
    let read_by : Reads filter_config word hir names = subst (λ g. Reads g word hir names) same h in
    stands_word (meaning hir) (is_utf8 word) (within_limit (read filter_config (chars word))) utf8
    (stands_read (meaning hir) names (read filter_config (chars word)) read_by)

pub is_pattern_read : (config : Config) (source word : List ℕ) (hir : Hir) (names : Names) → config ≡ filter_config → source ≡ word →
    is_utf8 word ≡ true → Reads config source hir names → is_pattern word ≡ true
is_pattern_read config source word hir names same same_word utf8 h =
    let s = stands config word hir names same utf8 (subst (λ w. Reads config w hir names) same_word h) in
    ap is_some s.1

sought : (tree : Re) (o : Option Re) → Stands tree o → (text : List ℕ) → ((k : ℕ) → get_or text k 0 < 256) →
    is_some (find tree text 0) ≡ occurs o text
sought tree o s text bytes =
    is_match_alike s.2 text bytes false 0 ∙ ap (λ p. occurs p text) (sym s.1)

-- a search by a tree that was read in the word
pub seeks : (config : Config) (word : List ℕ) (hir : Hir) (names : Names) → config ≡ filter_config → is_utf8 word ≡ true →
    Reads config word hir names → Seeks (meaning hir) word
seeks config word hir names same utf8 h text bytes =
    sought (meaning hir) (pattern_of word) (stands config word hir names same utf8 h) text bytes

nested : (o : Read) → IfSome o (λ (re, _). 250 < re.depth) → within_limit o ≡ None
nested None h = refl
nested (Some (re, names)) h =
    elim (cases_Bool (leb re.depth 250)) [
      | inl within ↦ let le = leb-true re.depth 250 within in absurd (omega arith)
      | inr beyond ↦ (rw beyond refl)
    ]

no_pattern : (utf8 : Bool) (o : Option Re) → o ≡ None → is_some (cond utf8 o None) ≡ false
no_pattern true o e = ap is_some e
no_pattern false o e = refl

refusal : (word : List ℕ) (kind : ErrorKind) → kind ≢ OutOfMemory → Refuses filter_config word kind →
    within_limit (read filter_config (chars word)) ≡ None
unfolding Refuses
refusal word kind other h = elim h [
  | inl full ↦ absurd (other full)
  | inr refused ↦ elim refused [
    | inl none ↦ ap within_limit none
    | inr deep ↦ nested (read filter_config (chars word)) deep.1
  ]
]

pub is_no_pattern : (config : Config) (source word : List ℕ) (kind : ErrorKind) → config ≡ filter_config → source ≡ word →
    kind ≢ OutOfMemory → Refuses config source kind → is_pattern word ≡ false
is_no_pattern config source word kind same same_word other h =
    let by_word : Refuses config word kind = subst (λ w. Refuses config w kind) same_word h in
    let by_config : Refuses filter_config word kind = subst (λ g. Refuses g word kind) same by_word in
    no_pattern (is_utf8 word) (within_limit (read filter_config (chars word))) (refusal word kind other by_config)

-- a word that is no text
pub is_no_text : (word : List ℕ) → is_utf8 word ≡ false → is_pattern word ≡ false
is_no_text word e = ap (λ b. is_some (cond b (within_limit (read filter_config (chars word))) None)) e
