use Rattle.std.proofs.Common.{◌≡◌, ◌++◌, ℕ, List, codes, append_assoc}
use Rattle.px_write.specs.Error.{answer_head}
use Rattle.px_text.proofs.PrefixLemmas.{err_same, ok_same}
use Rattle.px_write.proofs.error.write_answer_head.Goals as goal

-- the head is the pieces that are written
answer_head-pieces : (status digits : List ℕ) →
    codes "HTTP/1.1 "
    ++ (status
    ++ (codes "\r\nServer: mitm\r\nConnection: close\r\nContent-Type: text/plain\r\nContent-Length: "
    ++ (digits ++ codes "\r\n\r\n")))
    ≡ answer_head status digits
answer_head-pieces status digits = simp append_assoc

pub returns-clause-ok : goal.returns-clause-ok
returns-clause-ok c =
    ok_same c.append.result _ _ _ _ (answer_head-pieces c.args.status.now c.args.length.now) c.append.ensures.ok

pub returns-clause-err : goal.returns-clause-err
returns-clause-err c =
    err_same c.append.result _ _ _ _ (answer_head-pieces c.args.status.now c.args.length.now) c.append.ensures.err
