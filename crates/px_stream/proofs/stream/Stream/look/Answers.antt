use Rattle.std.proofs.Common.{refl, sym}
use Rattle.px_stream.proofs.StepLemmas.{look_as}
use Rattle.px_stream.proofs.stream.Stream.look.Goals as goal

pub returns : goal.returns
returns c = record {
  terms = refl;
  at = refl;
  client = refl;
  looks = look_as c.args.self.now.terms c.args.self.now.at _ _ c.args.moment _ c.args.self.now.client_closed _ c.args.ready c.args.self.now.requests _ c.args.self.now.side _ c.args.out.now.items _ _ _
      c.now-now.ensures.parked c.now-now.ensures.moment c.now-now.ensures.client (sym c.enter.ensures) c.in_ok-phase.ensures.looks;
}
