-- The words of the command line, case by case.
use Rattle.std.proofs.Common.{◌≡◌, ◌≢◌, ◌⊎◌, inl, inr, ℕ, ◌<◌, ◌≤◌, Bool, true, false, List, [], ◌∷◌, length, get_or, Option, Some, None, refl, sym, ap, ◌∙◌, subst, arith}
use Rattle.std.specs.Prelude.{bytes_eq, codes, not, MatchOption}
use Rattle.std.proofs.lemmas.Slice.Eq.{bytes_eq-Decides}
use Rattle.std.specs.Str.Parse.{digits_value}
use Rattle.px_message.specs.declared.flow.Flow.{Flow}
use Rattle.px_core.specs.Answers.{Answering, Failing}
use Rattle.px_gen.specs.Word.{IsCount}
use Rattle.px_gen.proofs.WordLemmas.{is_the_number}
use Rattle.px_options.specs.Options.{Settings}
use Rattle.px_words.specs.Converts.{ConvertsFile, Taken}
use Rattle.px_words.specs.Exports.{ExportsFile}
use Rattle.px_words.specs.Flows.{Fetched}
use Rattle.px_words.specs.Outside.{Outside}
use Rattle.px_words.specs.Picks.{Picked, PicksFile}
use Rattle.px_app.specs.Opened.{Opened}
use Rattle.px_app.specs.Serves.{ServesFile}
use Rattle.px_app.specs.Words.{IsGen, IsServe}

-- a list of two is its elements
pub two_are : {A : Type 0} (xs : List A) (a b : A) → 2 ≤ length xs → length xs < 3 → a ≡ get_or xs 0 a → b ≡ get_or xs 1 b → xs ≡ a ∷ b ∷ []
two_are [] a b low high ea eb = absurd (omega arith)
two_are (x ∷ []) a b low high ea eb = absurd (omega arith)
two_are (x ∷ y ∷ []) a b low high ea eb = cc
two_are (x ∷ y ∷ z ∷ xs) a b low high ea eb = absurd (omega arith)

-- and one of three
pub three_are : {A : Type 0} (xs : List A) (a b c : A) → 3 ≤ length xs → length xs < 4 → a ≡ get_or xs 0 a → b ≡ get_or xs 1 b → c ≡ get_or xs 2 c → xs ≡ a ∷ b ∷ c ∷ []
three_are [] a b c low high ea eb ec = absurd (omega arith)
three_are (x ∷ []) a b c low high ea eb ec = absurd (omega arith)
three_are (x ∷ y ∷ []) a b c low high ea eb ec = absurd (omega arith)
three_are (x ∷ y ∷ z ∷ []) a b c low high ea eb ec = cc
three_are (x ∷ y ∷ z ∷ w ∷ xs) a b c low high ea eb ec = absurd (omega arith)

-- and one of four
pub four_are : {A : Type 0} (xs : List A) (a b c d : A) → 4 ≤ length xs → length xs < 5 → a ≡ get_or xs 0 a → b ≡ get_or xs 1 b → c ≡ get_or xs 2 c → d ≡ get_or xs 3 d → xs ≡ a ∷ b ∷ c ∷ d ∷ []
four_are [] a b c d low high ea eb ec ed = absurd (omega arith)
four_are (x ∷ []) a b c d low high ea eb ec ed = absurd (omega arith)
four_are (x ∷ y ∷ []) a b c d low high ea eb ec ed = absurd (omega arith)
four_are (x ∷ y ∷ z ∷ []) a b c d low high ea eb ec ed = absurd (omega arith)
four_are (x ∷ y ∷ z ∷ w ∷ []) a b c d low high ea eb ec ed = cc
four_are (x ∷ y ∷ z ∷ w ∷ v ∷ xs) a b c d low high ea eb ec ed = absurd (omega arith)

same_first : (a b x y : List ℕ) → a ∷ b ∷ [] ≡ x ∷ y ∷ [] → a ≡ x
same_first a b x y e = cc

same_second : (a b x y : List ℕ) → a ∷ b ∷ [] ≡ x ∷ y ∷ [] → b ≡ y
same_second a b x y e = cc

pub same_first_of_three : (a b c x y z : List ℕ) → a ∷ b ∷ c ∷ [] ≡ x ∷ y ∷ z ∷ [] → a ≡ x
same_first_of_three a b c x y z e = cc

same_second_of_three : (a b c x y z : List ℕ) → a ∷ b ∷ c ∷ [] ≡ x ∷ y ∷ z ∷ [] → b ≡ y
same_second_of_three a b c x y z e = cc

same_third : (a b c x y z : List ℕ) → a ∷ b ∷ c ∷ [] ≡ x ∷ y ∷ z ∷ [] → c ≡ z
same_third a b c x y z e = cc

-- two words
abbrev pub AreTwo : List (List ℕ) → Type 0
AreTwo words = (a : List ℕ) × (b : List ℕ) × (words ≡ a ∷ b ∷ [])

not_two : (words : List (List ℕ)) → (length words < 2) ⊎ (3 ≤ length words) → AreTwo words → ⊥
not_two words other (a, b, is) = let two : length words ≡ 2 = ap length is in no two other
  where
    no : length words ≡ 2 → (length words < 2) ⊎ (3 ≤ length words) → ⊥
    no two (inl less) = omega arith
    no two (inr more) = omega arith

-- fewer words, or more, have no form
pub no_serve_count : (words : List (List ℕ)) → (length words < 2) ⊎ (3 ≤ length words) → (path : List ℕ) → ¬ (IsServe words path)
no_serve_count words other path is = not_two words other (_, path, is)

pub no_gen_count : (words : List (List ℕ)) → (length words < 2) ⊎ (3 ≤ length words) → (count : ℕ) → ¬ (IsGen words count)
no_gen_count words other count is = not_two words other (_, is.0, is.1)

-- the path and the number are the only ones
pub one_path : (words : List (List ℕ)) (path other : List ℕ) → IsServe words path → IsServe words other → path ≡ other
one_path words path other is too = same_second _ path _ other (sym is ∙ too)

pub one_count : (words : List (List ℕ)) (count other : ℕ) → IsGen words count → IsGen words other → count ≡ other
one_count words count other is too =
    let same : is.0 ≡ too.0 = same_second _ is.0 _ too.0 (sym is.1 ∙ too.1) in
    sym (is_the_number is.0 count is.2) ∙ (ap (λ (w : List ℕ). value w) same ∙ is_the_number too.0 other too.2)
  where
    value : List ℕ → ℕ
    value word = digits_value 10 word

-- two words behind the same one are the only ones
pub same_three : (words : List (List ℕ)) (name path text other more : List ℕ) → words ≡ name ∷ path ∷ text ∷ [] → words ≡ name ∷ other ∷ more ∷ [] → (path ≡ other) × (text ≡ more)
same_three words name path text other more is too =
    let both : name ∷ path ∷ text ∷ [] ≡ name ∷ other ∷ more ∷ [] = sym is ∙ too in
    (same_second_of_three _ path text _ other more both, same_third _ path text _ other more both)

-- and so are three
pub same_four : (words : List (List ℕ)) (name path text to other more last : List ℕ) → words ≡ name ∷ path ∷ text ∷ to ∷ [] → words ≡ name ∷ other ∷ more ∷ last ∷ [] →
    (path ≡ other) × ((text ≡ more) × (to ≡ last))
same_four words name path text to other more last is too =
    let both : name ∷ path ∷ text ∷ to ∷ [] ≡ name ∷ other ∷ more ∷ last ∷ [] = sym is ∙ too in (second both, (third both, fourth both))
  where
    second : name ∷ path ∷ text ∷ to ∷ [] ≡ name ∷ other ∷ more ∷ last ∷ [] → path ≡ other
    second e = cc

    third : name ∷ path ∷ text ∷ to ∷ [] ≡ name ∷ other ∷ more ∷ last ∷ [] → text ≡ more
    third e = cc

    fourth : name ∷ path ∷ text ∷ to ∷ [] ≡ name ∷ other ∷ more ∷ last ∷ [] → to ≡ last
    fourth e = cc

pub first_of_four : (a b c d x y z w : List ℕ) → a ∷ b ∷ c ∷ d ∷ [] ≡ x ∷ y ∷ z ∷ w ∷ [] → a ≡ x
first_of_four a b c d x y z w e = cc

other_words : codes "serve" ≡ codes "gen" → ⊥
other_words e = cc

-- no words are both
pub not_both_forms : (words : List (List ℕ)) (path : List ℕ) (count : ℕ) → IsServe words path → IsGen words count → ⊥
not_both_forms words path count is too = other_words (same_first _ path _ too.0 (sym is ∙ too.1))

-- the first word is another
pub other_command : (words : List (List ℕ)) (command path name : List ℕ) → words ≡ command ∷ path ∷ [] → command ≢ name → (word : List ℕ) → words ≡ name ∷ word ∷ [] → ⊥
other_command words command path name are other word is = other (same_first command path name word (sym are ∙ is))

-- a word that is compared, and is not another
pub same_word : (word text name : List ℕ) (other : Bool) → text ≡ word → other ≡ false → other ≡ not (bytes_eq text name) → word ≡ name
same_word word text name other same is compared = sym same ∙ (bytes_eq-Decides text name).0 (by (bytes_eq text name) (sym is ∙ compared))
  where
    by : (b : Bool) → false ≡ not b → b ≡ true
    by true e = refl
    by false e = absurd (cc)

-- one that is told apart is another
pub other_word : (word text name : List ℕ) (other : Bool) → text ≡ word → other ≡ true → other ≡ not (bytes_eq text name) → word ≡ name → ⊥
other_word word text name other same is compared equal =
    let told : bytes_eq text name ≡ true = (bytes_eq-Decides text name).1 (same ∙ equal) in
    let no : true ≡ false = sym is ∙ (compared ∙ ap not told) in cc

-- the number in the words is that of the second word
pub counted_by : (words : List (List ℕ)) (word : List ℕ) → words ≡ codes "gen" ∷ word ∷ [] → (read : Option ℕ) →
    MatchOption read ((n : ℕ) → ¬ (IsCount word n)) (λ n. IsCount word n) → MatchOption read ((count : ℕ) → ¬ (IsGen words count)) (λ count. IsGen words count)
counted_by words word are None none = λ count is. none count (let P : List ℕ → Type 0 = λ w. IsCount w count in subst P (same_second _ is.0 _ word (sym is.1 ∙ are)) is.2)
counted_by words word are (Some count) counts = (word, are, counts)

-- no words are of two forms
pub not_serve_three : (words : List (List ℕ)) (path name file text : List ℕ) → IsServe words path → words ≡ name ∷ file ∷ text ∷ [] → ⊥
not_serve_three words path name file text is too = let same : codes "serve" ∷ path ∷ [] ≡ name ∷ file ∷ text ∷ [] = sym is ∙ too in cc

pub not_three_gen : (words : List (List ℕ)) (name path text : List ℕ) (count : ℕ) → words ≡ name ∷ path ∷ text ∷ [] → IsGen words count → ⊥
not_three_gen words name path text count is too = let same : name ∷ path ∷ text ∷ [] ≡ codes "gen" ∷ too.0 ∷ [] = sym is ∙ too.1 in cc

pub not_serve_four : (words : List (List ℕ)) (path name file text to : List ℕ) → IsServe words path → words ≡ name ∷ file ∷ text ∷ to ∷ [] → ⊥
not_serve_four words path name file text to is too = let same : codes "serve" ∷ path ∷ [] ≡ name ∷ file ∷ text ∷ to ∷ [] = sym is ∙ too in cc

pub not_three_four : (words : List (List ℕ)) (name path text other file more to : List ℕ) → words ≡ name ∷ path ∷ text ∷ [] → words ≡ other ∷ file ∷ more ∷ to ∷ [] → ⊥
not_three_four words name path text other file more to is too = let same : name ∷ path ∷ text ∷ [] ≡ other ∷ file ∷ more ∷ to ∷ [] = sym is ∙ too in cc

pub not_four_gen : (words : List (List ℕ)) (name path text to : List ℕ) (count : ℕ) → words ≡ name ∷ path ∷ text ∷ to ∷ [] → IsGen words count → ⊥
not_four_gen words name path text to count is too = let same : name ∷ path ∷ text ∷ to ∷ [] ≡ codes "gen" ∷ too.0 ∷ [] = sym is ∙ too.1 in cc

first_of_three : (a b c x y z : List ℕ) → a ∷ b ∷ c ∷ [] ≡ x ∷ y ∷ z ∷ [] → a ≡ x
first_of_three a b c x y z e = cc

not_both : (words : List (List ℕ)) (name path text other file more : List ℕ) → (name ≡ other → ⊥) → words ≡ name ∷ path ∷ text ∷ [] → words ≡ other ∷ file ∷ more ∷ [] → ⊥
not_both words name path text other file more apart is too = apart (first_of_three name path text other file more (sym is ∙ too))

flows_convert : codes "flows" ≡ codes "convert" → ⊥
flows_convert e = cc

flows_har : codes "flows" ≡ codes "har" → ⊥
flows_har e = cc

convert_har : codes "convert" ≡ codes "har" → ⊥
convert_har e = cc

pub not_flows_convert : (words : List (List ℕ)) (path text file more : List ℕ) → words ≡ codes "flows" ∷ path ∷ text ∷ [] → words ≡ codes "convert" ∷ file ∷ more ∷ [] → ⊥
not_flows_convert words path text file more is too = not_both words _ path text _ file more flows_convert is too

pub not_flows_har : (words : List (List ℕ)) (path text file more : List ℕ) → words ≡ codes "flows" ∷ path ∷ text ∷ [] → words ≡ codes "har" ∷ file ∷ more ∷ [] → ⊥
not_flows_har words path text file more is too = not_both words _ path text _ file more flows_har is too

pub not_convert_har : (words : List (List ℕ)) (path text file more : List ℕ) → words ≡ codes "convert" ∷ path ∷ text ∷ [] → words ≡ codes "har" ∷ file ∷ more ∷ [] → ⊥
not_convert_har words path text file more is too = not_both words _ path text _ file more convert_har is too

-- the same of equal words
pub converts_at : {same out lost notes : Type 0} {before after : Outside} {status : ℕ} (path to other more : List ℕ) → (path ≡ other) × (to ≡ more) → (what : Taken) × ConvertsFile same out lost notes path to what before after status →
    (what : Taken) × ConvertsFile same out lost notes other more what before after status
converts_at {same = same} {out = out} {lost = lost} {notes = notes} {before = before} {after = after} {status = status} path to other more both converts =
    let P : List ℕ → Type 0 = λ p. (what : Taken) × ConvertsFile same out lost notes p to what before after status in
    let Q : List ℕ → Type 0 = λ t. (what : Taken) × ConvertsFile same out lost notes other t what before after status in
    subst Q both.1 (subst P both.0 converts)

pub picks_at : {same out lost notes : Type 0} {before after : Outside} {status : ℕ} (path text to other more last : List ℕ) → (path ≡ other) × ((text ≡ more) × (to ≡ last)) →
    (what : Picked) × PicksFile same out lost notes path text to what before after status → (what : Picked) × PicksFile same out lost notes other more last what before after status
picks_at {same = same} {out = out} {lost = lost} {notes = notes} {before = before} {after = after} {status = status} path text to other more last all picks =
    let P : List ℕ → Type 0 = λ p. (what : Picked) × PicksFile same out lost notes p text to what before after status in
    let Q : List ℕ → Type 0 = λ t. (what : Picked) × PicksFile same out lost notes other t to what before after status in
    let R : List ℕ → Type 0 = λ t. (what : Picked) × PicksFile same out lost notes other more t what before after status in
    subst R all.1.1 (subst Q all.1.0 (subst P all.0 picks))

pub exports_at : {same out notes : Type 0} {before after : Outside} {status : ℕ} (path text other more : List ℕ) → (path ≡ other) × (text ≡ more) → (what : Fetched) × ExportsFile same out notes path text what before after status →
    (what : Fetched) × ExportsFile same out notes other more what before after status
exports_at {same = same} {out = out} {notes = notes} {before = before} {after = after} {status = status} path text other more both exports =
    let P : List ℕ → Type 0 = λ p. (what : Fetched) × ExportsFile same out notes p text what before after status in
    let Q : List ℕ → Type 0 = λ t. (what : Fetched) × ExportsFile same out notes other t what before after status in
    subst Q both.1 (subst P both.0 exports)

-- a run that serves by a path serves by the same one
module _ {S : Type 0} {answers : Answering S} {drops : List ℕ → S → S → Type 0} {names : S → List (List ℕ)} {fails : Failing S} {key : List ℕ} {IsChain : Settings → List Flow → S → Type 0}
    {same net out save notes : Type 0} where
  pub serves_at : {before after : Outside} {status : ℕ} (path other : List ℕ) → path ≡ other →
      (opened : Opened) × ServesFile answers drops names fails key IsChain same net out save notes path opened before after status →
      (opened : Opened) × ServesFile answers drops names fails key IsChain same net out save notes other opened before after status
  serves_at {before = before} {after = after} {status = status} path other is serves =
      let P : List ℕ → Type 0 = λ p. (opened : Opened) × ServesFile answers drops names fails key IsChain same net out save notes p opened before after status in
      subst P is serves
