-- Why a host is refused.
use Rattle.std.specs.Prelude.{◌≡◌, ℕ, List}
use Rattle.px_message.specs.declared.host.BadHost.{BadHost}
use Rattle.px_message.specs.declared.host.BadHost.TheVariants.{Malformed, NoMemory}
use Rattle.px_message.specs.Host.{IsHost}

-- the bytes come back, and are no host; out of memory says nothing of them
abbrev pub IsRefused : List ℕ → BadHost → Type 0
IsRefused bytes (Malformed back) = (back.items ≡ bytes) × ¬ (IsHost bytes)
IsRefused bytes NoMemory = Unit {0}
