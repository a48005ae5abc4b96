use Rattle.std.proofs.Common.{◌∙◌, ap}
use Rattle.px_tnet.specs.Tree.{blob}
use Rattle.px_flowfile.proofs.PutLemmas.{line_of}
use Rattle.px_flowfile.proofs.put_socket.put_message.Goals as goal

pub returns : goal.returns
returns c more =
    c.in_ok-put_truth-3.ensures more
    ∙ c.in_ok-put_moment.ensures _
    ∙ line_of _ _ _ _ _ c.in_ok-put_payload.ensures (ap blob c.in_ok-try_clone.ensures) _
    ∙ c.in_ok-put_truth-2.ensures _
    ∙ c.in_ok-put_truth.ensures _
