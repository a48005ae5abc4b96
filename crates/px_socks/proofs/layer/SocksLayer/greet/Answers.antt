use Rattle.std.proofs.Common.{◌∙◌, refl, sym, ap}
use Rattle.std.proofs.lemmas.Result.{on_ok_weaker}
use Rattle.px_socks.specs.declared.greeting.Greeting.TheVariants.{Methods}
use Rattle.px_socks.specs.declared.layer.Phase.TheVariants as phases
use Rattle.px_socks.specs.Greeting.{greeting_of}
use Rattle.px_socks.proofs.GreetingLemmas.{greetings_within}
use Rattle.px_socks.proofs.LayerLemmas.{greeting_goes}
use Rattle.px_socks.proofs.layer.SocksLayer.greet.Goals as goal

pub advance-requires : goal.advance-requires
advance-requires c =
    greetings_within c.args.self.now.unread c.in-Methods-true-default.free c.in-Methods-true-default.used
    (ap greeting_of (sym c.as_slice.ensures) ∙ (sym c.read_greeting.ensures ∙ c.in-Methods-true-default.is))

pub returns-in_ok-say_method-in-Methods-true-default : goal.returns-in_ok-say_method-in-Methods-true-default
returns-in_ok-say_method-in-Methods-true-default c =
    let read = ap greeting_of (sym c.as_slice.ensures) ∙ (sym c.read_greeting.ensures ∙ c.in-Methods-true-default.is) in
    let reads = read ∙ ap (λ free. Methods free c.in-Methods-true-default.used) c.in-Methods-true-default.free-test in
    record {
      advances = on_ok_weaker c.request.result
          (greeting_goes c.args.self.now (record c.args.self.now { unread = c.advance.new.self; phase = phases.Requesting }) c.request.new.self
          c.in-Methods-true-default.used c.args.out.now.items c.say_method.new.out.items c.request.new.out.items c.requires.greeting
          (greetings_within c.args.self.now.unread c.in-Methods-true-default.free c.in-Methods-true-default.used read) reads refl c.advance.ensures
          c.in_ok-say_method-in-Methods-true-default.ensures)
          c.request.ensures.advances;
    }
