-- The rules that the code holds.
use Rattle.std.specs.Prelude.{List, map, option_map, string_bytes}
use Rattle.px_filter.specs.View.{expression}
use Rattle.px_rule.specs.Rule.{Rule}
use Rattle.px_map.specs.Block.{BlockRule}
use Rattle.px_map.specs.declared.block.BlockRule as held_block
use Rattle.px_map.specs.declared.block.BlockRules.{BlockRules}
use Rattle.px_map.specs.declared.local.LocalRule.{LocalRule}
use Rattle.px_map.specs.declared.local.LocalRules.{LocalRules}
use Rattle.px_map.specs.declared.remote.RemoteRule.{RemoteRule}
use Rattle.px_map.specs.declared.remote.RemoteRules.{RemoteRules}

abbrev pub block_view : held_block.BlockRule → BlockRule
block_view r = record { filter = option_map expression r.filter; status = r.status }

abbrev pub block_views : BlockRules → List BlockRule
block_views rules = map block_view rules.rules.items

abbrev pub remote_view : RemoteRule → Rule
remote_view r = record { filter = option_map expression r.filter; subject = r.replacing.0; replacement = r.replacing.1 }

abbrev pub remote_views : RemoteRules → List Rule
remote_views rules = map remote_view rules.rules.items

abbrev pub local_view : LocalRule → Rule
local_view r = record { filter = option_map expression r.filter; subject = r.seeking; replacement = string_bytes r.path }

abbrev pub local_views : LocalRules → List Rule
local_views rules = map local_view rules.rules.items
