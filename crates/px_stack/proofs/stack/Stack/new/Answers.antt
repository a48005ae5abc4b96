use Rattle.std.proofs.Common.{ap, Some}
use Rattle.px_stack.specs.declared.stack.Stack.{Stack}
use Rattle.px_stack.proofs.StackLemmas.{stands_made, starts_there}
use Rattle.px_stack.proofs.stack.Stack.new.Goals as goal

pub returns-clause-stands : goal.returns-clause-stands
returns-clause-stands c =
    let made : Stack = record { alloc = c.args.alloc; conv = c.args.conv; client = Some c.in_ok-try_clone.field-0; mask_key = c.args.mask_key; child = c.in_ok-child.child } in
    stands_made made c.args.mode.now c.args.peer.now (ap (λ at. Some at) c.in_ok-try_clone.ensures) c.in_ok-child.ensures.first

pub returns-clause-start : goal.returns-clause-start
returns-clause-start c =
    let made : Stack = record { alloc = c.args.alloc; conv = c.args.conv; client = Some c.in_ok-try_clone.field-0; mask_key = c.args.mask_key; child = c.in_ok-child.child } in
    starts_there made c.args.mode.now c.args.peer.now c.in_ok-child.ensures.first
