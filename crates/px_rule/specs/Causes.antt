-- The cause that a refused filter is.
use Rattle.px_filter.specs.declared.filter.FilterError.{FilterError}
use Rattle.px_filter.specs.declared.filter.FilterError.TheVariants as error
use Rattle.px_rule.specs.declared.cause.RuleCause.{RuleCause}
use Rattle.px_rule.specs.declared.cause.RuleCause.TheVariants as causes

-- out of memory is a cause of its own
abbrev pub filter_cause : FilterError → RuleCause
filter_cause error.NoMemory = causes.NoMemory
filter_cause other = causes.Filter other
