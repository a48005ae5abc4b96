-- Asks one behind the other.
use Rattle.std.proofs.Common.{◌≡◌, ◌∙◌, ℕ, zero, suc, ◌<◌, Bool, true, false, not, ◌==◌, ◌&&◌, ◌||◌, List, [], ◌∷◌, ◌++◌, length, map, take, Option, Some, None, refl, sym, ap, subst, append_assoc, arith, inl, inr}
use Rattle.std.specs.List.{slice_get}
use Rattle.std.specs.Prelude.{All}
use Rattle.std.proofs.lemmas.List.{append-nil, length-map}
use Rattle.std.proofs.lemmas.List.Elements.{All-append, All-cons, All-head, All-nil, All-tail}
use Rattle.std.proofs.lemmas.List.Folds.{list_any-append}
use Rattle.std.proofs.lemmas.Option.{none-some, same_Some, slice_get-map, slice_get_cases}
use Rattle.px_message.specs.declared.flow.Flow.{Flow}
use Rattle.px_message.specs.declared.request.Request.{Request}
use Rattle.px_message.specs.declared.response.Response.{Response}
use Rattle.px_replay.specs.declared.key.MatchKey.{MatchKey}
use Rattle.px_replay.specs.declared.options.KeyOptions.{KeyOptions}
use Rattle.px_replay.specs.declared.recorded.Recording.{Recording}
use Rattle.px_replay.specs.declared.replay.Extra.{Extra}
use Rattle.px_replay.specs.Key.{key_of}
use Rattle.px_replay.specs.Replayed.{AreReplayed, after_all, IsLeastPlace, MayGive, has_place, is_given, keys_in, places}
use Rattle.px_replay.specs.Replaying.{Replaying, after, is_free, may_answer, moment_of, place_of, recording, recordings, started, used_in, is_used, with_response}
use Rattle.px_replay.specs.Same.{is_same_key}
use Rattle.px_replay.proofs.KeyLemmas.{both_tests, key_decides}
use Rattle.px_replay.proofs.PlaceLemmas.{clash, first_passes, none_at_all, none_before, same_keys, under, used_after}

-- a place is used exactly where an answer so far has it
record Stands (s : Replaying) (answers : List (Option ℕ)) : Type 0 where
  used : (i : ℕ) (r : Recording) → slice_get s.recordings i ≡ Some r → r.used ≡ is_given i answers

-- a place that may give passes the test
passes : (s : Replaying) (answers : List (Option ℕ)) (key : MatchKey) (i : ℕ) (r : Recording) → Stands s answers → slice_get s.recordings i ≡ Some r →
    r.key ≡ key → (s.reuse || not (is_given i answers)) ≡ true → may_answer s.reuse key r ≡ true
passes s answers key i r stands at same free =
    let is_free : is_free s.reuse r ≡ true = ap (λ u. s.reuse || not u) (stands.used i r at) ∙ free in
    λ j. is_free j && (key_decides r.key key).1 same j

may_not : (s : Replaying) (answers : List (Option ℕ)) (key : MatchKey) (i : ℕ) → Stands s answers →
    ((r : Recording) → slice_get s.recordings i ≡ Some r → may_answer s.reuse key r ≡ false) → ¬ (MayGive s.reuse (keys_in s) answers key i)
may_not s answers key i stands fails may =
    let there = under (λ (r : Recording). r.key) s.recordings i key may.0 in
    clash _ (fails there.0 there.1) (passes s answers key i there.0 stands there.1 there.2 may.1)

least : (s : Replaying) (answers : List (Option ℕ)) (request : Request) (answer : Option ℕ) → Stands s answers → place_of s request ≡ answer →
    IsLeastPlace s.reuse (keys_in s) answers (key_of s.how request) answer
least s answers request None stands is =
    λ place. may_not s answers (key_of s.how request) place stands (λ r at. none_at_all _ s.recordings place r is at)
least s answers request (Some place) stands is =
    let key = key_of s.how request in
    let found = first_passes (may_answer s.reuse key) s.recordings place is in
    let tests = both_tests (is_free s.reuse found.0) (is_same_key found.0.key key) found.2 in
    let has : slice_get (keys_in s) place ≡ Some key =
    slice_get-map (λ (r : Recording). r.key) s.recordings place ∙ ap (λ o. option_key o) found.1
    ∙ ap Some ((key_decides found.0.key key).0 tests.1) in (
      (has, ap (λ u. s.reuse || not u) (sym (stands.used place found.0 found.1)) ∙ tests.0),
      λ other before. may_not s answers key other stands (λ r at. none_before _ s.recordings place other r is before at),
    )
  where
    option_key : Option Recording → Option MatchKey
    option_key None = None
    option_key (Some r) = Some r.key

-- the list stands for one answer more
goes_on : (s : Replaying) (answers : List (Option ℕ)) (answer : Option ℕ) → Stands s answers → Stands (after s answer) (answers ++ answer ∷ [])
goes_on s answers None stands = record {
  used = λ i r at. stands.used i r at ∙ or_none (is_given i answers) ∙ sym (list_any-append (has_place i) answers (None ∷ []));
}
  where
    or_none : (b : Bool) → b ≡ (b || false)
    or_none true = refl
    or_none false = refl
goes_on s answers (Some place) stands = record {
  used = λ i r at. used_after (λ n. is_given n answers) place s.recordings stands.used i r at
      ∙ ap (λ b. is_given i answers || b) (one (place == i)) ∙ sym (list_any-append (has_place i) answers (Some place ∷ []));
}
  where
    one : (b : Bool) → b ≡ (b || false)
    one true = refl
    one false = refl

keys_stay : (s : Replaying) (answer : Option ℕ) → keys_in (after s answer) ≡ keys_in s
keys_stay s None = refl
keys_stay s (Some place) = same_keys place s.recordings

-- what is to be shown of a list of asks, from a state on
abbrev Least : Replaying → List (Option ℕ) → List Request → Type 0
Least s earlier asked = (n : ℕ) (key : MatchKey) (answer : Option ℕ) → slice_get (map (key_of s.how) asked) n ≡ Some key →
    slice_get (places s asked) n ≡ Some answer → IsLeastPlace s.reuse (keys_in s) (earlier ++ take n (places s asked)) key answer

all_least : (asked : List Request) (s : Replaying) (earlier : List (Option ℕ)) → Stands s earlier → Least s earlier asked
all_least [] s earlier stands n key answer asks answers = absurd (none-some key asks)
all_least (request ∷ requests) s earlier stands zero key answer asks answers =
    let is_key : key_of s.how request ≡ key = same_Some _ key asks in
    let is : place_of s request ≡ answer = same_Some _ answer answers in
    let told = least s earlier request answer stands is in
    subst (λ k. IsLeastPlace s.reuse (keys_in s) (earlier ++ []) k answer) is_key
    (subst (λ e. IsLeastPlace s.reuse (keys_in s) e (key_of s.how request) answer) (sym (append-nil earlier)) told)
all_least (request ∷ requests) s earlier stands (suc n) key answer asks answers =
    by_answer (place_of s request) (goes_on s earlier (place_of s request) stands)
    (λ next more still. all_least requests next more still) asks answers
  where
    by_answer : (got : Option ℕ) → Stands (after s got) (earlier ++ got ∷ []) →
        ((next : Replaying) (more : List (Option ℕ)) → Stands next more → Least next more requests) →
        slice_get (map (key_of s.how) requests) n ≡ Some key → slice_get (places (after s got) requests) n ≡ Some answer →
        IsLeastPlace s.reuse (keys_in s) (earlier ++ (got ∷ take n (places (after s got) requests))) key answer
    by_answer None still rest asks answers =
        subst (λ e. IsLeastPlace s.reuse (keys_in s) e key answer) (append_assoc earlier (None ∷ []) (take n (places s requests)))
        (rest s (earlier ++ None ∷ []) still n key answer asks answers)
    by_answer (Some place) still rest asks answers =
        let next = after s (Some place) in
        subst (λ keys. IsLeastPlace s.reuse keys (earlier ++ (Some place ∷ take n (places next requests))) key answer) (keys_stay s (Some place))
        (subst (λ e. IsLeastPlace s.reuse (keys_in next) e key answer) (append_assoc earlier (Some place ∷ []) (take n (places next requests)))
        (rest next (earlier ++ Some place ∷ []) still n key answer asks answers))

as_many : (how : KeyOptions) (asked : List Request) (s : Replaying) → length (places s asked) ≡ length (map (key_of how) asked)
as_many how [] s = refl
as_many how (request ∷ requests) s = ap suc (as_many how requests (after s (place_of s request)))

-- ---- before the first ask

abbrev pub Unused : Recording → Type 0
Unused r = r.used ≡ false

one_unused : (key : MatchKey) (moment : ℕ) (response : Option Response) → All Unused (with_response key moment response)
one_unused key moment None = All-nil Unused
one_unused key moment (Some response) = All-cons Unused _ [] refl (All-nil Unused)

pub all_unused : (how : KeyOptions) (flows : List Flow) → All Unused (recordings how flows)
all_unused how [] = All-nil Unused
all_unused how (flow ∷ flows) =
    All-append Unused (recording how flow) (recordings how flows) (one_unused (key_of how flow.request) (moment_of flow.times) flow.response) (all_unused how flows)

at_unused : (rs : List Recording) → All Unused rs → (i : ℕ) (r : Recording) → slice_get rs i ≡ Some r → r.used ≡ false
at_unused [] all i r at = absurd (none-some r at)
at_unused (x ∷ xs) all zero r at = ap (λ (o : Recording). o.used) (sym (same_Some x r at)) ∙ All-head Unused x xs all
at_unused (x ∷ xs) all (suc i) r at = at_unused xs (All-tail Unused x xs all) i r at

before_all : (how : KeyOptions) (reuse : Bool) (extra : Extra) (flows : List Flow) → Stands (started how reuse extra flows) []
before_all how reuse extra flows = record { used = at_unused (recordings how flows) (all_unused how flows) }

pub replayed : (how : KeyOptions) (reuse : Bool) (extra : Extra) (flows : List Flow) (asked : List Request) →
    AreReplayed reuse (keys_in (started how reuse extra flows)) (map (key_of how) asked) (places (started how reuse extra flows) asked)
replayed how reuse extra flows asked =
    let s = started how reuse extra flows in
    record {
      each = as_many how asked s;
      least = all_least asked s [] (before_all how reuse extra flows);
    }

-- ---- after all asks

stands_after : (asked : List Request) (s : Replaying) (earlier : List (Option ℕ)) → Stands s earlier →
    Stands (after_all s asked) (earlier ++ places s asked)
stands_after [] s earlier stands = subst (Stands s) (sym (append-nil earlier)) stands
stands_after (request ∷ requests) s earlier stands =
    let answer = place_of s request in
    subst (Stands (after_all (after s answer) requests)) (append_assoc earlier (answer ∷ []) (places (after s answer) requests))
    (stands_after requests (after s answer) (earlier ++ answer ∷ []) (goes_on s earlier answer stands))

all_keys_stay : (asked : List Request) (s : Replaying) → keys_in (after_all s asked) ≡ keys_in s
all_keys_stay [] s = refl
all_keys_stay (request ∷ requests) s = all_keys_stay requests (after s (place_of s request)) ∙ keys_stay s (place_of s request)

as_long : (asked : List Request) (s : Replaying) → length (after_all s asked).recordings ≡ length s.recordings
as_long asked s =
    sym (length-map (after_all s asked).recordings (λ (r : Recording). r.key)) ∙ ap length (all_keys_stay asked s)
    ∙ length-map s.recordings (λ (r : Recording). r.key)

pub used_where_given : (how : KeyOptions) (reuse : Bool) (extra : Extra) (flows : List Flow) (asked : List Request) (place : ℕ) →
    place < length (recordings how flows) →
    is_used place (after_all (started how reuse extra flows) asked).recordings ≡ is_given place (places (started how reuse extra flows) asked)
used_where_given how reuse extra flows asked place within =
    let s = started how reuse extra flows in
    let stands = stands_after asked s [] (before_all how reuse extra flows) in
    elim (slice_get_cases (after_all s asked).recordings place).1 [
      | inl there ↦ ap used_in there.2 ∙ stands.used place there.0 there.2
      | inr past ↦ absurd (omega (arith, within, past.0, as_long asked s))
    ]
