use Rattle.std.proofs.Common.{◌∙◌, ap}
use Rattle.px_tnet.specs.Tree.{dict, no_pair}
use Rattle.px_flowfile.proofs.PutLemmas.{all_put, line_of}
use Rattle.px_flowfile.proofs.put_socket.socket_tree.Goals as goal

pub returns : goal.returns
returns c =
    c.dict_tree.ensures
    ∙ ap dict (all_put c.new-pairs.result.items c.put.new.pairs.items _ c.new-pairs.ensures.items
    (line_of _ _ _ _ _ c.in_ok-put.ensures c.in_ok-messages_tree.ensures no_pair))
