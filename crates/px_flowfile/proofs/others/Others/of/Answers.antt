use Rattle.px_tnet.specs.View.{paired}
use Rattle.px_flowfile.proofs.OthersLemmas.{kept_are_others}
use Rattle.px_flowfile.proofs.others.Others.of.Goals as goal

pub invariant_of-result : goal.invariant_of-result
invariant_of-result c = record {
  are_others =
      kept_are_others c.in_ok-unknown_of.field-0.items c.as_slice.result.now (paired c.args.dict.now) c.as_slice.ensures c.in_ok-unknown_of.ensures
      c.requires;
}
