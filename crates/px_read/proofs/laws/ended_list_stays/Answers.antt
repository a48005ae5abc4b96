use Rattle.std.proofs.Common.{◌++◌, length, ◌≡◌, ◌∙◌, ap, arith, length-append}
use Rattle.px_read.specs.Requests.{Requests, requests_within, request_list, has_ended}
use Rattle.px_read.proofs.RequestListLemmas.{enough_requests}
use Rattle.px_read.proofs.RequestEndLemmas.{ended_stays}
use Rattle.px_read.proofs.laws.ended_list_stays.Goals as goal

pub returns : goal.returns
returns c bytes more ended =
    let long = length-append bytes more in
    let same : requests_within (length (bytes ++ more)) bytes ≡ request_list bytes =
    enough_requests (length (bytes ++ more)) (length bytes) bytes (omega arith) (omega arith) in
    ended_stays (length (bytes ++ more)) bytes more (omega arith)
    (ap (λ (r : Requests). has_ended r.last) same ∙ ended) ∙ same
