use Rattle.std.proofs.Common.{length}
use Rattle.px_mio.proofs.sockets.Sockets.bind.Given as goal

abbrev pub decreases-loop-address : goal.decreases-loop-address
decreases-loop-address g l = length l.addresses.items
