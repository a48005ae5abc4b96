use Rattle.std.proofs.Common.{refl}
use Rattle.px_options.specs.declared.error.OptionsError.TheVariants as error
use Rattle.px_options.proofs.LawLemmas.{never}
use Rattle.px_options.proofs.laws.a_table_is_a_table.Goals as goal

pub returns-clause-toml : goal.returns-clause-toml
returns-clause-toml c table = never table error.BadToml refl

pub returns-clause-memory : goal.returns-clause-memory
returns-clause-memory c table = never table error.NoMemory refl
