use Rattle.std.proofs.Common.{◌∙◌, ap}
use Rattle.px_tnet.specs.Tree.{dict, no_pair}
use Rattle.px_flowfile.proofs.PutLemmas.{all_put}
use Rattle.px_flowfile.proofs.put_socket.message_tree.Goals as goal

pub returns : goal.returns
returns c =
    c.dict_tree.ensures
    ∙ ap dict (all_put c.new-pairs.result.items c.put_message.new.pairs.items _ c.new-pairs.ensures.items (c.in_ok-put_message.ensures no_pair))
