use Rattle.std.proofs.Common.{inl, inr, refl}
use Rattle.px_options.specs.View.{settings}
use Rattle.px_app.specs.Loaded.{loaded, unloaded}
use Rattle.px_words.proofs.ToldLemmas.{told_none}
use Rattle.px_app.proofs.program.serve_flows.Goals as goal

pub returns-in-Ok : goal.returns-in-Ok
returns-in-Ok g c = (loaded c.args.resent.items, inl refl, record { so = c.serve_setup.ensures (settings c.args.options) c.args.flows.items c.in-Ok.ensures })

pub returns-in-Err : goal.returns-in-Err
returns-in-Err g c = (
  unloaded,
  inr refl,
  record {
    so = record {
      is = inl refl;
      net = refl;
      kept = refl;
      prints = told_none _ _ _ _ refl;
      notes = told_none _ _ _ _ refl;
    };
  },
)
