use Rattle.std.proofs.Common.{◌++◌, length, subst, arith, length-append, ◌≡◌}
use Rattle.px_text.specs.Prefix.{IsPrefixOf}
use Rattle.px_read.specs.Requests.{Requests, requests_within, request_list}
use Rattle.px_read.proofs.RequestListLemmas.{enough_requests, whole_grow}
use Rattle.px_read.proofs.laws.whole_requests_grow.Goals as goal

pub returns : goal.returns
returns c bytes more =
    let long = length-append bytes more in
    let same : requests_within (length (bytes ++ more)) bytes ≡ request_list bytes =
    enough_requests (length (bytes ++ more)) (length bytes) bytes (omega arith) (omega arith) in
    subst (λ (r : Requests). IsPrefixOf r.whole (request_list (bytes ++ more)).whole) same
    (whole_grow (length (bytes ++ more)) bytes more (omega arith))
