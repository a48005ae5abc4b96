-- The servers that are connected, by a test and in a list.
use Rattle.std.proofs.Common.{◌≡◌, ℕ, Bool, true, false, ◌==◌, ◌||◌, List, [], ◌∷◌, refl, ap, ◌∙◌}
use Rattle.std.specs.List.{list_any}
use Rattle.std.proofs.lemmas.List.Folds.{list_any-append}
use Rattle.px_event.specs.declared.side.Side.{Side}
use Rattle.px_event.specs.declared.side.Side.TheVariants.{Client, Server}
use Rattle.px_core.specs.Calls.{is_connected, connected_by}
use Rattle.px_core.specs.Held.{is_side, servers_by, AreServers}

pub servers_along : (servers : ℕ → Bool) (now was : List ℕ) → now ≡ was → AreServers servers was → AreServers servers now
servers_along servers now was same are number = ap (is_connected (Server number)) same ∙ are number

pub servers_same : (before after : ℕ → Bool) (connected : List ℕ) → ((number : ℕ) → before number ≡ after number) → AreServers before connected → AreServers after connected
servers_same before after connected same are number = are number ∙ same number

pub side_connected : (side : Side) (servers : ℕ → Bool) (connected : List ℕ) → AreServers servers connected → is_connected side connected ≡ is_side side servers
side_connected Client servers connected are = refl
side_connected (Server number) servers connected are = are number

either : (a b : Bool) → (a || (b || false)) ≡ (b || a)
either true true = refl
either true false = refl
either false true = refl
either false false = refl

-- once a dial has ended
pub servers_end : (server : ℕ) (ok : Bool) (servers : ℕ → Bool) (connected : List ℕ) → AreServers servers connected → AreServers (servers_by server ok servers) (connected_by server ok connected)
servers_end server true servers connected are number =
    list_any-append (λ other. other == number) connected (server ∷ [])
    ∙ (either (list_any (λ other. other == number) connected) (server == number) ∙ ap (λ b. (server == number) || b) (are number))
servers_end server false servers connected are number = are number
