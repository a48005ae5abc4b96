use Rattle.std.proofs.Common.{◌∙◌, ℕ, ◌-◌, ◌≤◌, ◌++◌, List, length, take, drop, ap, arith}
use Rattle.px_frame.specs.Mask.{under_key}
use Rattle.px_frame.proofs.FrontLemmas.{payload_stands}
use Rattle.px_frame.proofs.MaskLemmas.{whole_tail}
use Rattle.px_frame.proofs.frame.read_payload.Goals as goal

pub returns : goal.returns
returns c =
    let head = c.args.head in
    let bytes = c.args.bytes.now in
    let same = whole_tail c.args.head.size c.args.bytes.now in
    let count = ap (λ (l : List ℕ). length l) same in
    let there : c.args.head.length ≤ length (drop c.args.head.size c.args.bytes.now) = omega arith in
    let tail = take (length bytes - head.size) (drop head.size bytes) in
    payload_stands head bytes c.in_ok-new.field-0 c.requires there
    (c.in_ok-new.ensures ∙ c.in_ok-push_under_key.ensures.ok
    ∙ ap (λ (l : List ℕ). l ++ under_key head.key (take head.length tail)) c.in_ok-payload.ensures.items
    ∙ ap (λ (t : List ℕ). under_key head.key (take head.length t)) same)
