use Rattle.std.proofs.Common.{◌++◌, ap, sym, refl, ◌∙◌}
use Rattle.std.proofs.lemmas.List.{append-nil}
use Rattle.px_stream.specs.Goings.{sent_by}
use Rattle.px_stream.proofs.DialLemmas.{owes_none, leads_none}
use Rattle.px_stream.proofs.turning.turn_dial.Goals as goal

pub returns-in_default : goal.returns-in_default
returns-in_default c = record {
  gives = sym (ap (λ l. c.args.out.now.items ++ l)
      (owes_none (sent_by c.args.up) c.args.place.now c.args.flow c.args.at.now.dials c.args.up c.args.reply c.args.now.moment c.args.now.client_closed c.in_default.not-Dialled c.in_default.not-Refused)
      ∙ append-nil c.args.out.now.items);
  leads = rw c.give_up.ensures (leads_none c.args.place.now c.args.at.now c.args.flow (sent_by c.args.up) c.args.reply c.in_default.not-Dialled);
  content = rw c.give_up.ensures refl;
  up = rw c.give_up.ensures tt;
}
