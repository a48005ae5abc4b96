use Rattle.std.proofs.Common.{◌<◌, subst}
use Rattle.rand_chacha.specs.ChaCha.{key_of}
use Rattle.px_http.specs.declared.conversation.HttpConv.{HttpConv}
use Rattle.px_stream.specs.Anywhere.{Reaches}
use Rattle.px_stream.specs.Tells.{sequence_left}
use Rattle.px_stack.proofs.LetLemmas.{led_bound, led_given}
use Rattle.px_stack.proofs.stack.reach.Goals as goal

pub returns-clause-leads : goal.returns-clause-leads
returns-clause-leads c =
    let P : HttpConv → Type 0 = λ h. Reaches h.stream c.reach.new.self.stream c.args.moment c.args.rest c.args.out.now.items c.reach.new.out.items in
    led_given (key_of c.args.means.mask_key) c.args.http c.args.moment c.reach.new.self c.args.out.now.items c.reach.new.out.items c.follow.new.out.items c.follow.result c.args.rest
    (subst P c.deref_mut.ensures.value c.in_ok-reach.ensures.reaches) c.follow.ensures.follows

pub returns-clause-left : goal.returns-clause-left
returns-clause-left c =
    let P : HttpConv → Type 0 = λ h. Reaches h.stream c.reach.new.self.stream c.args.moment c.args.rest c.args.out.now.items c.reach.new.out.items in
    let Q : HttpConv → Type 0 = λ h. sequence_left c.reach.new.self.stream < sequence_left h.stream in
    led_bound (key_of c.args.means.mask_key) c.args.http c.args.moment c.reach.new.self c.args.out.now.items c.reach.new.out.items c.follow.new.out.items c.follow.result c.args.rest
    (subst P c.deref_mut.ensures.value c.in_ok-reach.ensures.reaches) c.requires.there (subst Q c.deref_mut.ensures.value c.in_ok-reach.ensures.left) c.follow.ensures.follows
