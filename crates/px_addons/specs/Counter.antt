-- What a flow counter is.
use Rattle.std.specs.Prelude.{◌≡◌, ℕ, ◌+◌, ◌-◌, ◌^◌, min, map}
use Rattle.px_event.specs.declared.ask.Hook.{Hook}
use Rattle.px_event.specs.declared.ask.Hook.TheVariants as hooks
use Rattle.px_addons.specs.Moving.{Moves}

-- one request more, up to the greatest number of 64 bits
abbrev pub one_more : ℕ → ℕ
one_more count = min (count + 1) (2 ^ 64 - 1)

-- the count after a hook: each request is counted at its head
abbrev pub counted : Hook → ℕ → ℕ
counted hooks.RequestHead count = one_more count
counted hooks.RequestBody count = count
counted hooks.ResponseHead count = count
counted hooks.ResponseBody count = count
counted (hooks.WsMessage _) count = count

-- a flow counter changes no draft, and its state is its count
abbrev pub counts : Moves
counts hook old draft new after = (after ≡ draft) × (new ≡ map (counted hook) old)
