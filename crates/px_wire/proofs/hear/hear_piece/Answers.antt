use Rattle.std.proofs.Common.{◌≡◌, ◌∙◌, ◌++◌, ◌∷◌, ℕ, ap, sym, subst, Some}
use Rattle.px_event.specs.declared.side.Side.{Side}
use Rattle.px_event.specs.declared.heard.Heard.{Heard}
use Rattle.px_event.specs.declared.heard.Heard.TheVariants as heard
use Rattle.px_wire.specs.Stands.{StandsFor, idle}
use Rattle.px_wire.proofs.hear.hear_piece.Goals as goal

pub returns-clause-stands : goal.returns-clause-stands
returns-clause-stands g c = λ front back endpoint accepted conv side stands.
    let what = heard.Piece c.args.conv c.args.side c.in_ok-bytes.bytes in
    let same : heard.Piece c.args.conv c.args.side c.in_ok-bytes.bytes ≡ heard.Piece endpoint.conv endpoint.side c.args.bytes.now =
    ap (heard.Piece c.args.conv c.args.side) c.in_ok-bytes.ensures ∙ (ap (λ (n : ℕ). heard.Piece n c.args.side c.args.bytes.now) (sym conv) ∙ ap (λ (s : Side). heard.Piece endpoint.conv s c.args.bytes.now) (sym side)) in
    let S : Heard → Type 0 = λ h. StandsFor idle (Some h) (front ++ endpoint ∷ back) accepted c.args.moment (g.W.Wire.calls c.args.wire.now) in
    c.hear.ensures.piece front back endpoint accepted c.args.bytes.now same (subst S (sym same) stands)
