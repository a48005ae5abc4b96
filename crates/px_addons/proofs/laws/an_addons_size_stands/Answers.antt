use Rattle.px_addons.proofs.SizeLemmas.{size_of_rules, size_stands}
use Rattle.px_addons.proofs.laws.an_addons_size_stands.Goals as goal

pub returns-clause-stands : goal.returns-clause-stands
returns-clause-stands g c hook flow goes rules new_rules files new_files old new size given no_filter no_replay =
    size_stands _ _ _ hook flow rules new_rules old new files new_files goes size given no_filter no_replay

pub returns-clause-option : goal.returns-clause-option
returns-clause-option g c hook flow goes rules new_rules files new_files old new size given no_filter no_replay keep =
    size_of_rules _ _ _ hook flow rules new_rules old new files new_files goes size given no_filter no_replay keep
