-- What a run serves by, by its options and by the flows of the files that they name.
use Rattle.std.specs.Prelude.{◌≡◌, List, None, option_map}
use Rattle.px_message.specs.declared.flow.Flow.{Flow}
use Rattle.px_options.specs.Options.{Settings}
use Rattle.px_options.specs.View.{mode_view, place}
use Rattle.px_app.specs.Opened.{AreRulesOf, BeginsWith}
use Rattle.px_app.specs.Saved.{saves_to_of}
use Rattle.px_app.specs.Serves.{saves_of}
use Rattle.px_app.specs.declared.setup.Setup.{Setup}

pub record IsSetupOf (settings : Settings) (flows : List Flow) (setup : Setup) : Type 0 where
  pub rules : AreRulesOf settings (record setup.rules { replay = None; cookies = None; auth = None })
  pub begins : BeginsWith settings flows setup.rules.replay setup.rules.cookies setup.rules.auth
  pub listen : place setup.listen ≡ settings.listen
  pub control : option_map place setup.control ≡ settings.control
  pub mode : mode_view setup.mode ≡ settings.mode
  pub saving : saves_to_of setup.saving ≡ saves_of settings
  pub events : setup.events ≡ settings.events
