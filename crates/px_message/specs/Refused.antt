-- Why a name, a value and a path are refused: the bytes come back, and are none; out of memory says nothing of them.
use Rattle.std.specs.Prelude.{◌≡◌, ℕ, List, false}
use Rattle.httparse.specs.Grammar.{is_token}
use Rattle.px_message.specs.Path.{is_path}
use Rattle.px_message.specs.Value.{is_value}
use Rattle.px_message.specs.declared.name.BadName.{BadName}
use Rattle.px_message.specs.declared.name.BadName.TheVariants as names
use Rattle.px_message.specs.declared.path.BadPath.{BadPath}
use Rattle.px_message.specs.declared.path.BadPath.TheVariants as paths
use Rattle.px_message.specs.declared.value.BadValue.{BadValue}
use Rattle.px_message.specs.declared.value.BadValue.TheVariants as values

abbrev pub IsNoName : List ℕ → BadName → Type 0
IsNoName bytes (names.Malformed back) = (back.items ≡ bytes) × (is_token bytes ≡ false)
IsNoName bytes names.NoMemory = Unit {0}

abbrev pub IsNoValue : List ℕ → BadValue → Type 0
IsNoValue bytes (values.Malformed back) = (back.items ≡ bytes) × (is_value bytes ≡ false)
IsNoValue bytes values.NoMemory = Unit {0}

abbrev pub IsNoPath : List ℕ → BadPath → Type 0
IsNoPath bytes (paths.Malformed back) = (back.items ≡ bytes) × (is_path bytes ≡ false)
IsNoPath bytes paths.NoMemory = Unit {0}
