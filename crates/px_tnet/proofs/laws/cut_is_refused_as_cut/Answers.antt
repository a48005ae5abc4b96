use Rattle.std.proofs.Common.{inl, refl}
use Rattle.px_tnet.specs.Items.{most_deep}
use Rattle.px_tnet.specs.Kinds.{tag_of}
use Rattle.px_tnet.specs.declared.error.TnetError.TheVariants as error
use Rattle.px_tnet.proofs.FrameLemmas.{cut_frame}
use Rattle.px_tnet.proofs.OneLemmas.{one_cause}
use Rattle.px_tnet.proofs.laws.cut_is_refused_as_cut.Goals as goal

pub returns : goal.returns
returns c tree text front behind item split some =
    let cut = inl (refl, cut_frame item.1 (tag_of item.0) text front behind item.2 split some) in
    (cut, λ cause refused. one_cause most_deep front cause error.Cut refused cut)
