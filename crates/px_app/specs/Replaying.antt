-- Where a run stands with the requests that it sends again.
use Rattle.std.specs.Prelude.{◌≡◌, ◌&&◌, not, ℕ, nat_lt, Bool, List}
use Rattle.std.specs.List.{list_any}
use Rattle.px_message.specs.declared.flow.Flow.{Flow}
use Rattle.px_event.specs.Trace.{Always, BeforeEachHeard, Trace}
use Rattle.px_core.specs.Calls.{number_end}
use Rattle.px_app.specs.Replayed.{BeginsInTurn, NoneWaits, begun_count, is_going}
use Rattle.px_app.specs.declared.replaying.Replaying.{Replaying}

-- one of these flows is of a request that was sent again
abbrev pub is_resent : Flow → Bool
is_resent flow = not (nat_lt flow.id.conv number_end)

abbrev pub has_resent : List Flow → Bool
has_resent flows = list_any is_resent flows

-- it stands so behind these flows, which are finished
abbrev pub behind_flows : List Flow → Replaying → Replaying
behind_flows flows replaying = record replaying { going = replaying.going && not (has_resent flows) }

-- It counts those that have begun in what is told, and knows whether one is on its way.
pub record ReplaysStand (replaying : Replaying) (total : ℕ) (told : Trace) : Type 0 where
  pub begun : replaying.begun ≡ begun_count told
  pub going : replaying.going ≡ is_going told
  pub in_turn : Always (BeginsInTurn total) told
  pub none_waits : BeforeEachHeard (NoneWaits total) told
