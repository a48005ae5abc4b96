use Rattle.std.specs.Prelude.{◌==◌, codes, if◌then◌else◌, length}
use Rattle.std.proofs.Common.{◌≡◌, ◌∙◌, ℕ, List, Bool, true, false, ap, subst, sym}
use Rattle.serde_json.specs.Data.{member}
use Rattle.px_har.specs.Entry.{posted_value, request_end}
use Rattle.px_har.specs.Puts.{Ends, Grew, end_tokens}
use Rattle.px_har.proofs.PutLemmas.{◌▸◌, added, all, last}
use Rattle.px_har.proofs.request.put_rest.Goals as goal

pub returns-then-is_empty : goal.returns-then-is_empty
returns-then-is_empty c =
    let request = c.args.request.now in
    let is : (length request.body == 0) ≡ true = ap (λ (body : List ℕ). length body == 0) (sym c.bytes.ensures) ∙ sym c.is_empty.ensures ∙ c.if-is_empty.true in
    subst (λ (empty : Bool). Ends c.put_end.result c.args.writer.now c.put_end.new.writer
    (if empty then request_end request else (member (codes "postData") (posted_value request) (request_end request)))) (sym is) c.put_end.ensures

pub returns : goal.returns
returns c =
    let request = c.args.request.now in
    let is : (length request.body == 0) ≡ false = ap (λ (body : List ℕ). length body == 0) (sym c.bytes.ensures) ∙ sym c.is_empty.ensures ∙ c.if-is_empty.false in
    subst (λ (empty : Bool). Grew c.args.writer.now c.put_end-2.new.writer
    (end_tokens (if empty then request_end request else (member (codes "postData") (posted_value request) (request_end request))))) (sym is)
    (all (added c.in_ok-put_posted.ensures ▸ last c.in_ok-put_end.ensures))
