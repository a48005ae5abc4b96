-- Why texts are refused; out of memory says nothing of them.
use Rattle.std.specs.Prelude.{◌≡◌, ℕ, List, false}
use Rattle.px_rule.specs.Pattern.{is_pattern}
use Rattle.px_rule.specs.declared.replacing.ReplacingError.{ReplacingError}
use Rattle.px_rule.specs.declared.replacing.ReplacingError.TheVariants as replacing

abbrev pub IsNoReplacing : List ℕ → ReplacingError → Type 0
IsNoReplacing pattern replacing.Pattern = is_pattern pattern ≡ false
IsNoReplacing pattern replacing.NoMemory = Unit {0}
