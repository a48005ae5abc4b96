-- The dials of a trace whose servers are numbered by their order: no server is dialled twice, and one that was not dialled
-- has a number that is at least their count. So many of the calls connect at most.
use Rattle.std.proofs.Common.{◌≡◌, ◌≢◌, ◌∙◌, ℕ, ◌+◌, ◌<◌, ◌≤◌, Bool, true, false, cond, refl, ap, sym, subst, arith, List, [], ◌∷◌, ◌++◌, ◌==◌, ◌||◌, length}
use Rattle.std.specs.Prelude.{nat_le}
use Rattle.std.specs.List.{list_any, flat_map}
use Rattle.std.proofs.lemmas.Bool.{eq-eqb, ne_eqb}
use Rattle.std.proofs.lemmas.Bool.Decides.{nat_tests}
use Rattle.std.proofs.lemmas.List.Folds.{list_any-append}
use Rattle.std.proofs.lemmas.List.{append_assoc}
use Rattle.std.proofs.lemmas.Grind.{flat_map-append}
use Rattle.px_message.specs.declared.address.Address.{Address}
use Rattle.px_event.specs.declared.side.Side.TheVariants.{Server}
use Rattle.px_event.specs.declared.said.Said.{Said}
use Rattle.px_event.specs.declared.said.Said.TheVariants as said
use Rattle.px_event.specs.declared.step.Step.{Step}
use Rattle.px_event.specs.declared.step.Step.TheVariants as steps
use Rattle.px_event.specs.Trace.{Trace, Always, said_in}
use Rattle.px_event.specs.Trace as traces
use Rattle.px_app.specs.Servers.{server_of, dialled_in, CountsFrom, CountsServers}
use Rattle.px_wire.specs.Taken.{opens, is_opened, DialsOnce}

-- ---- numbers from one on

abbrev Has : ℕ → List ℕ → Bool
Has n xs = list_any (λ x. x == n) xs

-- those that count reach from the first to their end
pub counts_has : (n k : ℕ) (xs : List ℕ) → CountsFrom n xs → n ≤ k → k < n + length xs → Has k xs ≡ true
counts_has n k [] all above below = let no : ⊥ = omega arith in absurd no
counts_has n k (x ∷ xs) (here, all) above below = by (x == k) refl (counts_has (n + 1) k xs all)
  where
    by : (b : Bool) → (x == k) ≡ b → (n + 1 ≤ k → k < (n + 1) + length xs → Has k xs ≡ true) → (b || Has k xs) ≡ true
    by true is rest = refl
    by false is rest =
        let differs : n ≢ k = λ same. (let e : false ≡ true = sym is ∙ eq-eqb x k (here ∙ same) in cc) in
        rest (omega arith) (omega arith)

pub counts_end : (n : ℕ) (xs : List ℕ) (y : ℕ) → CountsFrom n (xs ++ y ∷ []) → y ≡ n + length xs
counts_end n [] y (here, all) = let e : n + length {A = ℕ} [] ≡ n = omega arith in here ∙ sym e
counts_end n (x ∷ xs) y (here, all) = let more = counts_end (n + 1) xs y all in omega arith

pub counts_below : (n k : ℕ) (xs : List ℕ) → CountsFrom n xs → n + length xs ≤ k → Has k xs ≡ false
counts_below n k [] all below = refl
counts_below n k (x ∷ xs) (here, all) below =
    let differs : (x == k) ≡ false = ne_eqb x k (λ same. (let no : ⊥ = omega arith in no)) in
    rw differs (counts_below (n + 1) k xs all (omega arith))

-- ---- the dials of a trace

server_opened : (conv server : ℕ) (mine : Bool) (what : Said) (number : ℕ) → (number == conv) ≡ mine → opens conv (Server server) (steps.Said number what) ≡ Has server (flat_map server_of (cond mine (what ∷ []) []))
server_opened conv server true (said.Dial other address) number is = rw is (either_none (other == server))
  where
    either_none : (b : Bool) → b ≡ (b || false)
    either_none true = refl
    either_none false = refl
server_opened conv server false (said.Dial other address) number is = rw is refl
server_opened conv server true (said.Send side text) number is = refl
server_opened conv server false (said.Send side text) number is = refl
server_opened conv server true (said.Close side) number is = refl
server_opened conv server false (said.Close side) number is = refl

step_opened : (conv server : ℕ) (step : Step) → opens conv (Server server) step ≡ Has server (flat_map server_of (said_in conv step))
step_opened conv server (steps.Heard moment what) = refl
step_opened conv server (steps.Begun number) = refl
step_opened conv server (steps.Asked number ask) = refl
step_opened conv server (steps.Answered number ask reply) = refl
step_opened conv server (steps.Said number what) = server_opened conv server (number == conv) what number refl
step_opened conv server (steps.Done flow) = refl

-- a server is opened by its dial
pub opened_is : (conv server : ℕ) (trace : Trace) → is_opened conv (Server server) trace ≡ Has server (dialled_in trace conv)
opened_is conv server [] = refl
opened_is conv server (step ∷ trace) =
    ap (λ (b : Bool). b || is_opened conv (Server server) trace) (step_opened conv server step)
    ∙ (ap (λ (b : Bool). Has server (flat_map server_of (said_in conv step)) || b) (opened_is conv server trace)
    ∙ (sym (list_any-append (λ x. x == server) (flat_map server_of (said_in conv step)) (dialled_in trace conv))
    ∙ ap (Has server) (sym (flat_map-append server_of (said_in conv step) (traces.said trace conv)))))

pub dialled_joined : (trace more : Trace) (conv : ℕ) → dialled_in (trace ++ more) conv ≡ dialled_in trace conv ++ dialled_in more conv
dialled_joined trace more conv = ap (flat_map server_of) (flat_map-append (said_in conv) trace more) ∙ flat_map-append server_of (traces.said trace conv) (traces.said more conv)

dial_last : (trace : Trace) (conv server : ℕ) (address : Address) → dialled_in (trace ++ steps.Said conv (said.Dial server address) ∷ []) conv ≡ dialled_in trace conv ++ server ∷ []
dial_last trace conv server address =
    dialled_joined trace (steps.Said conv (said.Dial server address) ∷ []) conv
    ∙ ap (λ (b : Bool). dialled_in trace conv ++ flat_map server_of (cond b (said.Dial server address ∷ []) [] ++ [])) (eq-eqb conv conv refl)

-- no server is dialled once more
pub dials_once : (trace : Trace) → Always CountsServers trace → DialsOnce trace
dials_once trace counts prefix rest conv server address is =
    let step = steps.Said conv (said.Dial server address) in
    let P : List ℕ → Type 0 = CountsFrom 0 in
    let all : CountsFrom 0 (dialled_in prefix conv ++ server ∷ []) =
    subst P (dial_last prefix conv server address) (counts.at (prefix ++ step ∷ []) rest (is ∙ sym (append_assoc prefix (step ∷ []) rest)) conv) in
    let number = counts_end 0 (dialled_in prefix conv) server all in
    let before : CountsFrom 0 (dialled_in prefix conv) = counts.at prefix (step ∷ rest) is conv in
    opened_is conv server prefix ∙ counts_below 0 server (dialled_in prefix conv) before (omega arith)

-- a server that was not dialled has a number from the count of dials on
pub not_dialled : (trace : Trace) (conv server : ℕ) → CountsServers trace → is_opened conv (Server server) trace ≡ false → length (dialled_in trace conv) ≤ server
not_dialled trace conv server counts never = by (nat_le (length (dialled_in trace conv)) server) refl
  where
    by : (b : Bool) → nat_le (length (dialled_in trace conv)) server ≡ b → length (dialled_in trace conv) ≤ server
    by true is = grind (arith, nat_tests)
    by false is =
        let less : server < length (dialled_in trace conv) = grind (arith, nat_tests) in
        let has : Has server (dialled_in trace conv) ≡ true = counts_has 0 server (dialled_in trace conv) (counts conv) (omega arith) (omega arith) in
        let e : false ≡ true = sym never ∙ (opened_is conv server trace ∙ has) in absurd (cc)
