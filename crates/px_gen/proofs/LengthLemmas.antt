-- How long a script is at most.
use Rattle.std.proofs.Common.{◌≡◌, ℕ, ◌+◌, ◌*◌, ◌<◌, ◌≤◌, Bool, true, false, get_or, List, [], ◌∷◌, length, map, decimal, arith, length-append}
use Rattle.std.specs.Prelude.{◌==◌, if◌then◌else◌}
use Rattle.std.specs.Int.{div_ceil}
use Rattle.std.specs.List.{flat_map}
use Rattle.std.proofs.lemmas.Fmt.{length-decimal-le}
use Rattle.std.proofs.lemmas.Grind.{div_ceil_times}
use Rattle.std.proofs.lemmas.List.{length-map}
use Rattle.std.proofs.lemmas.Nat.{mod_below}
use Rattle.std.proofs.lemmas.List.Concat.{length-flat_map}
use Rattle.std.proofs.lemmas.List.FromFn.{length-range_with_len, length-map-range_with_len}
use Rattle.std.proofs.lemmas.List.Sums.{sum_by-le}
use Rattle.px_event.specs.declared.heard.Heard.{Heard}
use Rattle.px_event.specs.declared.heard.Heard.TheVariants.{Closed, Dialled}
use Rattle.px_event.specs.declared.side.Side.TheVariants.{Client, Server}
use Rattle.px_gen.specs.Script.{answer_of, body_text, dialled_by, head_text, heard_from, heard_of, letter_at, numbers_below, piece_at, pieces_of, script, size_of}

small_size : (i : ℕ) → size_of i < 1000
unfolding size_of
small_size i = mod_below (7919 * i + 13) 1000 (omega arith)

head_length : (size : ℕ) → size < 1000 → length (head_text size) ≤ 40
unfolding head_text
head_length size small =
    let digits = length-decimal-le 3 size (omega arith) (omega arith) (omega arith) in
    let long : length (head_text size) ≡ 37 + length (decimal size) = grind (arith, length-append) in
    omega arith

body_length : (i size : ℕ) → length (body_text i size) ≡ size
body_length i size = length-map-range_with_len (letter_at i) 0 size

answer_length : (i : ℕ) → length (answer_of i) ≤ 1040
answer_length i =
    let small = small_size i in
    let head = head_length (size_of i) small in
    let body = body_length i (size_of i) in
    let long = length-append (head_text (size_of i)) (body_text i (size_of i)) in
    omega arith

pieces_length : (text : List ℕ) → length text ≤ 1040 → length (pieces_of text) ≤ 2
unfolding pieces_of
pieces_length text few =
    let count : length (pieces_of text) ≡ div_ceil (length text) 1000 = length-map-range_with_len (piece_at 1000 text) 0 (div_ceil (length text) 1000) in
    let bounds = div_ceil_times (length text) 1000 (omega arith) in
    omega (arith, count, bounds.1)

at_most_one : {A : Type 0} (is : Bool) (x : A) → length (if is then x ∷ [] else []) ≤ 1
at_most_one true x = omega arith
at_most_one false x = omega arith

flow_length : (i : ℕ) → length (heard_of i) ≤ 4
flow_length i =
    let pieces = pieces_length (answer_of i) (answer_length i) in
    let same = length-map (pieces_of (answer_of i)) (heard_from (Server 0)) in
    let one = at_most_one {A = ℕ × Heard} (i == 0) (0, Dialled 0 0 true) in
    let both = length-append (dialled_by i) (map (heard_from (Server 0)) (pieces_of (answer_of i))) in
    omega (arith, pieces, same, one, both)

flows_length : (count : ℕ) → length (flat_map heard_of (numbers_below count)) ≤ count * 4
flows_length count =
    let whole = length-flat_map heard_of (numbers_below count) in
    let many = length-range_with_len 0 count in
    let most = sum_by-le (λ i. length (heard_of i)) 4 (numbers_below count) (λ k d less. flow_length (get_or (numbers_below count) k d)) in
    omega arith

-- the client, its close, and four things at most for each flow
pub most_of_script : (count : ℕ) → length (script count) ≤ 4 * count + 2
most_of_script count =
    let flows = flows_length count in
    let both = length-append (flat_map heard_of (numbers_below count)) ((0, Closed 0 Client) ∷ []) in
    omega arith
