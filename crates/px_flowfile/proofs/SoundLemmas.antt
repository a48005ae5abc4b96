-- The tree of a good value may be read wherever it has a text: by kinds, lines and tables.
use Rattle.std.proofs.Common.{◌≡◌, ◌∙◌, ℕ, zero, suc, ◌^◌, ◌-◌, ◌<◌, pos, min, Bool, true, false, ◌&&◌, nat_le, List, [], ◌∷◌, ◌++◌, length, Option, Some, None, refl, arith, codes, decimal, length-append}
use Rattle.std.proofs.lemmas.Bool.Decides.{nat_tests}
use Rattle.std.proofs.lemmas.Fmt.{IsAscii-decimal}
use Rattle.std.proofs.lemmas.Str.{IsAscii-append, IsUtf8-from_ascii}
use Rattle.std.specs.Str.{IsAscii, IsUtf8}
use Rattle.px_message.specs.Status.{is_status}
use Rattle.px_message.specs.declared.flow.FlowId.{FlowId}
use Rattle.px_message.specs.declared.flow.Replayed.{Replayed}
use Rattle.px_message.specs.declared.flow.Replayed.TheVariants as replayed
use Rattle.px_tnet.specs.Frame.{colon, framed, too_many}
use Rattle.px_tnet.specs.Kinds.{AreApart, tag_of}
use Rattle.px_tnet.specs.Tree.{Tree, dict, Pairs, no_pair, pair, keys}
use Rattle.px_tnet.specs.Written.{AreSound, AreSoundPairs, IsSound, IsSoundKey, kind_of, payload, written_pairs, written_trees}
use Rattle.px_flowfile.specs.Keys.{name_of}
use Rattle.px_flowfile.specs.Kind.{Kind, or_null}
use Rattle.px_flowfile.specs.Message.{content, each, field, headers, row_of, trailers}
use Rattle.px_flowfile.specs.Simple.{IsId, flow_id, id_text, moment, replay, status}
use Rattle.px_flowfile.specs.Table.{IsGoodBy, Line, dictionary, lines, text_key}
use Rattle.px_flowfile.specs.declared.held.Held.{Held}
use Rattle.px_flowfile.specs.declared.key.Key.{Key}
use Rattle.px_flowfile.specs.declared.key.Key.TheVariants as key
use Rattle.px_flowfile.proofs.ApartLemmas.{HasApart, lines_apart, none_strange}

-- the payload of a good value's tree is short: then the tree may be read
abbrev pub SoundAt : {A : Type 0} → ℕ → Kind A → Type 0
SoundAt {A} depth kind = (a : A) → kind.Good a → length (payload (kind.write a)) < too_many → IsSound (kind.write a) depth

abbrev pub SoundLine : {S : Type 0} → ℕ → Line S → Type 0
SoundLine {S} depth l = (s : S) → l.IsGood s → length (payload (l.write s)) < too_many → IsSound (l.write s) depth

abbrev pub AllSound : {S : Type 0} → ℕ → List (Line S) → Type 0
AllSound depth [] = Unit {0}
AllSound depth (l ∷ table) = SoundLine depth l × AllSound depth table

-- what stands in a frame, and behind it, is no longer than the whole
pub in_frame : (p : List ℕ) (tag : ℕ) (rest : List ℕ) → length (framed p tag ++ rest) < too_many → (length p < too_many) × (length rest < too_many)
in_frame p tag rest h =
    let a = length-append (framed p tag) rest in
    let b = length-append (decimal (length p)) (colon ∷ (p ++ (tag ∷ []))) in
    let c = length-append p (tag ∷ []) in
    (omega arith, omega arith)

-- ASCII, as a test
abbrev pub are_ascii : List ℕ → Bool
are_ascii [] = true
are_ascii (b ∷ bytes) = nat_le b 127 && are_ascii bytes

both_first : (a b : Bool) → (a && b) ≡ true → a ≡ true
both_first true b h = refl
both_first false b h = absurd (let e : false ≡ true = h in cc)

both_second : (a b : Bool) → (a && b) ≡ true → b ≡ true
both_second true b h = h
both_second false b h = absurd (let e : false ≡ true = h in cc)

is_ascii : (bytes : List ℕ) → are_ascii bytes ≡ true → IsAscii bytes
is_ascii [] h i = omega arith
is_ascii (b ∷ bytes) h zero = let small = both_first (nat_le b 127) (are_ascii bytes) h in grind (arith, nat_tests)
is_ascii (b ∷ bytes) h (suc i) = is_ascii bytes (both_second (nat_le b 127) (are_ascii bytes) h) i

pub ascii_is_utf8 : (bytes : List ℕ) → are_ascii bytes ≡ true → IsUtf8 bytes
ascii_is_utf8 bytes h = IsUtf8-from_ascii bytes (is_ascii bytes h)

name_is_text : (k : Key) → are_ascii (name_of k) ≡ true
name_is_text key.Flow = refl
name_is_text key.Version = refl
name_is_text key.Type = refl
name_is_text key.Id = refl
name_is_text key.ClientConn = refl
name_is_text key.ServerConn = refl
name_is_text key.Request = refl
name_is_text key.Response = refl
name_is_text key.Error = refl
name_is_text key.IsReplay = refl
name_is_text key.Marked = refl
name_is_text key.Websocket = refl
name_is_text key.Messages = refl
name_is_text key.FromClient = refl
name_is_text key.Text = refl
name_is_text key.Dropped = refl
name_is_text key.Address = refl
name_is_text key.Msg = refl
name_is_text key.Timestamp = refl
name_is_text key.HttpVersion = refl
name_is_text key.StatusCode = refl
name_is_text key.Reason = refl
name_is_text key.Headers = refl
name_is_text key.Content = refl
name_is_text key.Trailers = refl
name_is_text key.TimestampStart = refl
name_is_text key.TimestampEnd = refl
name_is_text key.Host = refl
name_is_text key.Port = refl
name_is_text key.Method = refl
name_is_text key.Scheme = refl
name_is_text key.Authority = refl
name_is_text key.Path = refl

lines_sound : {S : Type 0} (depth : ℕ) (table : List (Line S)) → AllSound depth table → (s : S) (behind : Pairs) → IsGoodBy table s
    → length (written_pairs (lines table s behind)) < too_many → AreSoundPairs behind depth → AreSoundPairs (lines table s behind) depth
lines_sound depth [] sounds s behind good short more = more
lines_sound depth (l ∷ table) sounds s behind good short more =
    let tag = tag_of (kind_of (l.write s)) in
    let whole = in_frame (name_of l.key) 59 (framed (payload (l.write s)) tag ++ written_pairs (lines table s behind)) short in
    let value = in_frame (payload (l.write s)) tag (written_pairs (lines table s behind)) whole.1 in (
      (whole.0, λ _. ascii_is_utf8 (name_of l.key) (name_is_text l.key)),
      sounds.0 s good.0 value.0,
      lines_sound depth table sounds.1 s behind good.1 value.1 more,
    )

-- a dictionary by a table, with other pairs behind it
pub dict_sound : {S : Type 0} (depth : ℕ) (table : List (Line S)) → AllSound depth table → (s : S) (behind : Pairs) → IsGoodBy table s
    → AreApart (keys (lines table s behind)) → length (written_pairs (lines table s behind)) < too_many → AreSoundPairs behind depth
    → IsSound (dict (lines table s behind)) (suc depth)
dict_sound depth table sounds s behind good apart short more = (short, apart, lines_sound depth table sounds s behind good short more)

pub dictionary_sound : {S : Type 0} (depth : ℕ) (table : List (Line S)) → HasApart table → AllSound depth table → SoundAt (suc depth) (dictionary table)
dictionary_sound depth table own sounds s good short =
    dict_sound depth table sounds s no_pair good (lines_apart table s no_pair own (none_strange table) tt) short tt

pub null_sound : {A : Type 0} (depth : ℕ) (kind : Kind A) → SoundAt depth kind → SoundAt depth (or_null kind)
null_sound depth kind sound None good short = tt
null_sound depth kind sound (Some a) good short = sound a good short

pub moment_sound : (depth : ℕ) → SoundAt depth moment
moment_sound depth m good short = omega arith

small_status : (n : ℕ) → is_status n ≡ true → n < 2 ^ 63
small_status n h = grind (arith, nat_tests)

pub status_sound : (depth : ℕ) → SoundAt depth status
status_sound depth n good short = small_status n good

id_is_ascii : (id : FlowId) → IsId id → IsAscii (id_text id)
id_is_ascii id small =
    IsAscii-append (decimal id.conv) (46 ∷ decimal id.index) (IsAscii-decimal id.conv (let h = small.0 in omega arith))
    (IsAscii-append (46 ∷ []) (decimal id.index) (is_ascii (46 ∷ []) refl) (IsAscii-decimal id.index (let h = small.1 in omega arith)))

pub id_sound : (depth : ℕ) → SoundAt depth flow_id
id_sound depth id small short = (short, IsUtf8-from_ascii (id_text id) (id_is_ascii id small))

pub replay_sound : (depth : ℕ) → SoundAt depth replay
replay_sound depth replayed.No good short = tt
replay_sound depth replayed.Request good short = (short, ascii_is_utf8 (codes "request") refl)
replay_sound depth replayed.Response good short = (short, ascii_is_utf8 (codes "response") refl)

field_sound : (depth : ℕ) → SoundAt (suc depth) field
field_sound depth f good short =
    let name = in_frame f.0 44 (framed f.1 44 ++ []) short in
    let value = in_frame f.1 44 [] name.1 in
    (short, (name.0, (value.0, tt)))

row_sound : {A : Type 0} (depth : ℕ) (kind : Kind A) → SoundAt depth kind → (xs : List A) → (each kind).Good xs
    → length (written_trees (row_of kind xs)) < too_many → AreSound (row_of kind xs) depth
row_sound depth kind sound [] good short = tt
row_sound depth kind sound (a ∷ xs) good short =
    let first = in_frame (payload (kind.write a)) (tag_of (kind_of (kind.write a))) (written_trees (row_of kind xs)) short in
    (sound a good.0 first.0, row_sound depth kind sound xs good.1 first.1)

pub each_sound : {A : Type 0} (depth : ℕ) (kind : Kind A) → SoundAt depth kind → SoundAt (suc depth) (each kind)
each_sound depth kind sound xs good short = (short, row_sound depth kind sound xs good short)

pub headers_sound : (depth : ℕ) → SoundAt (suc (suc depth)) headers
headers_sound depth = each_sound (suc depth) field (field_sound depth)

pub trailers_sound : (depth : ℕ) → SoundAt (suc (suc depth)) trailers
trailers_sound depth [] good short = tt
trailers_sound depth (f ∷ fs) good short = headers_sound depth (f ∷ fs) good short

content_by : (depth : ℕ) (streamed : Bool) (body : List ℕ) → length (payload (content.write (record { streamed = streamed; body = body }))) < too_many
    → IsSound (content.write (record { streamed = streamed; body = body })) depth
content_by depth true body short = tt
content_by depth false body short = short

pub content_sound : (depth : ℕ) → SoundAt depth content
content_sound depth held good short = content_by depth held.streamed held.body short
