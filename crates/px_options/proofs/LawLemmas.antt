-- The laws.
use Rattle.std.proofs.Common.{◌≡◌, ◌≢◌, ℕ, ◌+◌, Bool, true, false, List, [], ◌∷◌, Option, Some, None, Result, Ok, Err, IfErr, IfSome, IsErr, refl, sym, ap, subst, ◌∙◌}
use Rattle.px_filter.specs.Expression.{Expression}
use Rattle.px_filter.specs.Parsing.{parse}
use Rattle.px_filter.specs.declared.filter.FilterError.{FilterError}
use Rattle.px_map.specs.Block.{block_rule}
use Rattle.px_rule.specs.Rule.{body_rule, header_rule}
use Rattle.px_rule.specs.declared.cause.RuleCause.{RuleCause}
use Rattle.toml.specs.Data.{Data, Members, no_members, member, as_array, as_bool, as_integer, as_str}
use Rattle.toml.specs.Parse.{parse_document}
use Rattle.px_options.specs.Keys.{key_of}
use Rattle.px_options.specs.Laws.{followed}
use Rattle.px_options.specs.Lines as lines
use Rattle.px_options.specs.Mode.{ModeIs, mode_in, mode_of, or_bad_mode}
use Rattle.px_options.specs.Options.{IsNoTable, Says, Settings, first_refusal, options_by, options_of, or_others, refusal_at, refusal_of, refusal_of_key, settings_of, why}
use Rattle.px_options.specs.Replay.{extra_in, paths_in}
use Rattle.px_options.specs.Rules.{rule_and, rules_from, rules_of, texts_of, with_rule}
use Rattle.px_options.specs.Save.{filter_in, or_bad_filter, path_in, path_of}
use Rattle.px_options.specs.Values.{Place, address, address_in, from_one, from_zero, or_wrong, some_number, some_place}
use Rattle.px_options.specs.declared.error.OptionsError.{OptionsError}
use Rattle.px_options.specs.declared.error.OptionsError.TheVariants as error
use Rattle.px_options.specs.declared.key.Key.{Key}
use Rattle.px_options.specs.declared.key.Key.TheVariants as key

by_refusal : (r : Option OptionsError) (s : Settings) (e : OptionsError) → r ≡ Some e → options_by r s ≡ Err e
by_refusal r s e is = rw is refl

others_after : (r others : Option OptionsError) → or_others r None ≡ None → or_others r others ≡ others
others_after None others e = refl
others_after (Some x) others e = absurd (cc)

others_none : (r others : Option OptionsError) → or_others r others ≡ None → r ≡ None
others_none None others e = refl
others_none (Some x) others e = absurd (cc)

rest_none : (r others : Option OptionsError) → or_others r others ≡ None → others ≡ None
rest_none None others e = e
rest_none (Some x) others e = absurd (cc)

goes_on : (r others : Option OptionsError) (e : OptionsError) → r ≡ None → others ≡ Some e → or_others r others ≡ Some e
goes_on r others e a b = rw a b

found_first : (r others : Option OptionsError) (e : OptionsError) → r ≡ Some e → or_others r others ≡ Some e
found_first r others e a = rw a refl

first_of : (front : List (List ℕ × Data)) (name : List ℕ) (value : Data) (behind : Members) (e : OptionsError) → first_refusal (followed front no_members) ≡ None
    → refusal_of name value ≡ Some e → first_refusal (followed front (member name value behind)) ≡ Some e
first_of [] name value behind e fine bad = found_first (refusal_of name value) (first_refusal behind) e bad
first_of (pair ∷ front) name value behind e fine bad =
    let rest = first_refusal (followed front no_members) in
    goes_on (refusal_of pair.0 pair.1) (first_refusal (followed front (member name value behind))) e (others_none (refusal_of pair.0 pair.1) rest fine)
    (first_of front name value behind e (rest_none (refusal_of pair.0 pair.1) rest fine) bad)

pub first_bad_decides : (front : List (List ℕ × Data)) (name : List ℕ) (value : Data) (behind : Members) (e : OptionsError) →
    first_refusal (followed front no_members) ≡ None → refusal_of name value ≡ Some e → options_of (followed front (member name value behind)) ≡ Err e
first_bad_decides front name value behind e fine bad =
    let table = followed front (member name value behind) in
    by_refusal (first_refusal table) (settings_of table) e (first_of front name value behind e fine bad)

-- there is a refusal
abbrev Refused : Option OptionsError → Type 0
Refused r = (e : OptionsError) × (r ≡ Some e)

here_refused : (r others : Option OptionsError) (e : OptionsError) → r ≡ Some e → Refused (or_others r others)
here_refused r others e is = (e, found_first r others e is)

later_refused : (r others : Option OptionsError) → Refused others → Refused (or_others r others)
later_refused None others later = later
later_refused (Some x) others later = (x, refl)

bad_refused : (front : List (List ℕ × Data)) (name : List ℕ) (value : Data) (behind : Members) (e : OptionsError) → refusal_of name value ≡ Some e
    → Refused (first_refusal (followed front (member name value behind)))
bad_refused [] name value behind e bad = here_refused (refusal_of name value) (first_refusal behind) e bad
bad_refused (pair ∷ front) name value behind e bad =
    later_refused (refusal_of pair.0 pair.1) (first_refusal (followed front (member name value behind))) (bad_refused front name value behind e bad)

refused_by : (r : Option OptionsError) (s : Settings) → Refused r → IsErr (options_by r s)
refused_by r s (e, is) = rw is refl

pub bad_key_refused : (front : List (List ℕ × Data)) (name : List ℕ) (value : Data) (behind : Members) (e : OptionsError) → refusal_of name value ≡ Some e
    → IsErr (options_of (followed front (member name value behind)))
bad_key_refused front name value behind e bad =
    let table = followed front (member name value behind) in
    refused_by (first_refusal table) (settings_of table) (bad_refused front name value behind e bad)

pub says_one : (bytes : List ℕ) (a b : Result Settings OptionsError) → Says bytes a → Says bytes b → a ≡ b
says_one bytes a b (t, _, is_t, says_a) (u, _, is_u, says_b) =
    let same : t ≡ u = cc in sym says_a ∙ ap options_of same ∙ says_b

pub says_none : (bytes : List ℕ) (a : Result Settings OptionsError) → IsNoTable bytes → ¬ (Says bytes a)
says_none bytes a none (t, utf8, is_t, says) = let no : parse_document bytes ≡ None = none utf8 in absurd (cc)

-- a refusal that a table may have
abbrev is_of_table : OptionsError → Bool
is_of_table error.BadToml = false
is_of_table error.NoMemory = false
is_of_table other = true

abbrev OfTable : OptionsError → Type 0
OfTable e = is_of_table e ≡ true

wrong_of_table : {A : Type 0} (key : Key) (o : Option A) → IfErr (or_wrong key o) OfTable
wrong_of_table key None = refl
wrong_of_table key (Some a) = tt

some_of_table : (r : Result Place OptionsError) → IfErr r OfTable → IfErr (some_place r) OfTable
some_of_table (Ok place) h = tt
some_of_table (Err e) h = h

bad_mode_of_table : (m : Option ModeIs) → IfErr (or_bad_mode m) OfTable
bad_mode_of_table None = refl
bad_mode_of_table (Some m) = tt

mode_of_table : (key : Key) (text : Option (List ℕ)) → IfErr (mode_in key text) OfTable
mode_of_table key None = refl
mode_of_table key (Some text) = bad_mode_of_table (mode_of text)

with_of_table : {R : Type 0} (rule : R) (others : Result (List R) OptionsError) → IfErr others OfTable → IfErr (with_rule rule others) OfTable
with_of_table rule (Ok rules) h = tt
with_of_table rule (Err e) h = h

and_of_table : {R : Type 0} (key : Key) (n : ℕ) (text : List ℕ) (r : Result R RuleCause) (others : Result (List R) OptionsError) → IfErr others OfTable
    → IfErr (rule_and key n text r others) OfTable
and_of_table key n text (Ok rule) others h = with_of_table rule others h
and_of_table key n text (Err cause) others h = refl

from_of_table : {R : Type 0} (key : Key) (read : List ℕ → Result R RuleCause) (n : ℕ) (texts : List (List ℕ)) → IfErr (rules_from key read n texts) OfTable
from_of_table key read n [] = tt
from_of_table key read n (t ∷ ts) = and_of_table key n t (read t) (rules_from key read (n + 1) ts) (from_of_table key read (n + 1) ts)

rules_of_table : {R : Type 0} (key : Key) (read : List ℕ → Result R RuleCause) (texts : Option (List (List ℕ))) → IfErr (rules_of key read texts) OfTable
rules_of_table key read None = refl
rules_of_table key read (Some texts) = from_of_table key read 0 texts

path_of_table : (key : Key) (text : List ℕ) → IfErr (path_of key text) OfTable
path_of_table key [] = refl
path_of_table key (c ∷ cs) = tt

path_in_of_table : (key : Key) (text : Option (List ℕ)) → IfErr (path_in key text) OfTable
path_in_of_table key None = refl
path_in_of_table key (Some text) = path_of_table key text

filter_of_table : (key : Key) (text : List ℕ) (r : Result Expression FilterError) → IfErr (or_bad_filter key text r) OfTable
filter_of_table key text (Ok expression) = tt
filter_of_table key text (Err cause) = refl

filter_in_of_table : (key : Key) (text : Option (List ℕ)) → IfErr (filter_in key text) OfTable
filter_in_of_table key None = refl
filter_in_of_table key (Some text) = filter_of_table key text (parse text)

why_of_table : {A : Type 0} (r : Result A OptionsError) → IfErr r OfTable → IfSome (why r) OfTable
why_of_table (Ok a) h = tt
why_of_table (Err e) h = h

at_of_table : (k : Key) (d : Data) → IfSome (refusal_at k d) OfTable
at_of_table key.Anticache d = why_of_table (lines.anticache.reads d) (wrong_of_table key.Anticache (as_bool d))
at_of_table key.Anticomp d = why_of_table (lines.anticomp.reads d) (wrong_of_table key.Anticomp (as_bool d))
at_of_table key.BlockList d = why_of_table (lines.block_list.reads d) (rules_of_table key.BlockList block_rule (texts_of (as_array d)))
at_of_table key.ClientReplay d = why_of_table (lines.client_replay.reads d) (wrong_of_table key.ClientReplay (paths_in (texts_of (as_array d))))
at_of_table key.Control d = why_of_table (lines.control.reads d) (some_of_table (address key.Control d) (wrong_of_table key.Control (address_in (as_str d))))
at_of_table key.Events d = why_of_table (lines.events.reads d) (wrong_of_table key.Events (from_one (as_integer d)))
at_of_table key.Intercept d = why_of_table (lines.intercept.reads d) (filter_in_of_table key.Intercept (as_str d))
at_of_table key.Listen d = why_of_table (lines.listen.reads d) (wrong_of_table key.Listen (address_in (as_str d)))
at_of_table key.MapLocal d = why_of_table (lines.map_local.reads d) (rules_of_table key.MapLocal body_rule (texts_of (as_array d)))
at_of_table key.MapRemote d = why_of_table (lines.map_remote.reads d) (rules_of_table key.MapRemote body_rule (texts_of (as_array d)))
at_of_table key.Mode d = why_of_table (lines.mode.reads d) (mode_of_table key.Mode (as_str d))
at_of_table key.ModifyBody d = why_of_table (lines.modify_body.reads d) (rules_of_table key.ModifyBody body_rule (texts_of (as_array d)))
at_of_table key.ModifyHeaders d = why_of_table (lines.modify_headers.reads d) (rules_of_table key.ModifyHeaders header_rule (texts_of (as_array d)))
at_of_table key.SaveStreamFile d = why_of_table (lines.save_stream_file.reads d) (path_in_of_table key.SaveStreamFile (as_str d))
at_of_table key.SaveStreamFilter d = why_of_table (lines.save_stream_filter.reads d) (filter_in_of_table key.SaveStreamFilter (as_str d))
at_of_table key.ServerReplay d = why_of_table (lines.server_replay.reads d) (wrong_of_table key.ServerReplay (paths_in (texts_of (as_array d))))
at_of_table key.ServerReplayExtra d = why_of_table (lines.server_replay_extra.reads d) (wrong_of_table key.ServerReplayExtra (extra_in (as_str d)))
at_of_table key.ServerReplayIgnoreContent d = why_of_table (lines.server_replay_ignore_content.reads d) (wrong_of_table key.ServerReplayIgnoreContent (as_bool d))
at_of_table key.ServerReplayIgnoreHost d = why_of_table (lines.server_replay_ignore_host.reads d) (wrong_of_table key.ServerReplayIgnoreHost (as_bool d))
at_of_table key.ServerReplayIgnoreParams d = why_of_table (lines.server_replay_ignore_params.reads d) (wrong_of_table key.ServerReplayIgnoreParams (texts_of (as_array d)))
at_of_table key.ServerReplayIgnorePort d = why_of_table (lines.server_replay_ignore_port.reads d) (wrong_of_table key.ServerReplayIgnorePort (as_bool d))
at_of_table key.ServerReplayRefresh d = why_of_table (lines.server_replay_refresh.reads d) (wrong_of_table key.ServerReplayRefresh (as_bool d))
at_of_table key.ServerReplayReuse d = why_of_table (lines.server_replay_reuse.reads d) (wrong_of_table key.ServerReplayReuse (as_bool d))
at_of_table key.ServerReplayUseHeaders d = why_of_table (lines.server_replay_use_headers.reads d) (wrong_of_table key.ServerReplayUseHeaders (texts_of (as_array d)))
at_of_table key.Stickyauth d = why_of_table (lines.stickyauth.reads d) (filter_in_of_table key.Stickyauth (as_str d))
at_of_table key.Stickycookie d = why_of_table (lines.stickycookie.reads d) (filter_in_of_table key.Stickycookie (as_str d))
at_of_table key.StreamLargeBodies d = why_of_table (lines.stream_large_bodies.reads d) (wrong_of_table key.StreamLargeBodies (some_number (from_zero (as_integer d))))

key_of_table : (k : Option Key) (name : List ℕ) (d : Data) → IfSome (refusal_of_key k name d) OfTable
key_of_table None name d = refl
key_of_table (Some k) name d = at_of_table k d

others_of_table : (r others : Option OptionsError) → IfSome r OfTable → IfSome others OfTable → IfSome (or_others r others) OfTable
others_of_table None others here later = later
others_of_table (Some e) others here later = here

first_of_table : (ms : Members) → IfSome (first_refusal ms) OfTable
first_of_table no_members = tt
first_of_table (member name d ms) = others_of_table (refusal_of name d) (first_refusal ms) (key_of_table (key_of name) name d) (first_of_table ms)

by_of_table : (r : Option OptionsError) (s : Settings) → IfSome r OfTable → IfErr (options_by r s) OfTable
by_of_table None s h = tt
by_of_table (Some e) s h = h

pub never : (table : Members) (e : OptionsError) → is_of_table e ≡ false → options_of table ≢ Err e
never table e other is =
    let P : Result Settings OptionsError → Type 0 = λ r. IfErr r OfTable in
    let yes : is_of_table e ≡ true = subst P is (by_of_table (first_refusal table) (settings_of table) (first_of_table table)) in
    absurd (cc)
