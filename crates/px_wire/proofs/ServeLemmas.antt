-- Sides for which all is done that comes before reading.
use Rattle.std.proofs.Common.{◌≡◌, ◌∙◌, ◌⊎◌, inl, inr, ℕ, ◌+◌, Bool, true, false, refl, ap, sym, arith, List, [], ◌∷◌, ◌++◌, ◌||◌, length, None}
use Rattle.std.specs.List.{list_any}
use Rattle.std.proofs.lemmas.List.{append-nil, length-append}
use Rattle.px_wire.specs.declared.endpoint.Endpoint.{Endpoint}
use Rattle.px_wire.specs.Endpoints.{is_done, is_over}
use Rattle.px_wire.specs.Ledger.{Life}
use Rattle.px_wire.specs.Rules.{Each, IsServed}
use Rattle.px_wire.specs.Stands.{idle, Fits, AllFit}
use Rattle.px_wire.proofs.PutLemmas.{no_items}

-- neither of them
pub neither : (a b : Bool) → (a || b) ≡ false → (a ≡ false) × (b ≡ false)
neither false false is = (refl, refl)
neither true b is = let e : true ≡ false = is in cc
neither false true is = let e : true ≡ false = is in cc

-- a side whose socket goes on is served
pub served : (endpoint : Endpoint) (life : Life) → Fits idle None endpoint life → endpoint.is_over ≡ false → IsServed life
served endpoint life fits live = record {
  put = put_of (fits.blocked refl);
  heard = alive;
  shut = fits.unfinished refl;
  open_still = λ closing same. goes_on (sym (fits.closing) ∙ refl) closing (no_rest same);
}
  where
    alive : life.is_over ≡ false
    alive = sym fits.over ∙ live

    put_of : (endpoint.queue ≡ []) ⊎ (life.is_blocked ≡ true) → (life.taken ≡ life.said) ⊎ (life.is_blocked ≡ true)
    put_of (inl none) = inl (sym (fits.queued alive ∙ (ap (λ (q : List ℕ). life.taken ++ q) none ∙ append-nil life.taken)))
    put_of (inr is) = inr is

    no_rest : life.taken ≡ life.said → endpoint.queue ≡ []
    no_rest same =
        let e : length life.taken ≡ length (life.taken ++ endpoint.queue) = ap length (same ∙ fits.queued alive) in
        let f : length (life.taken ++ endpoint.queue) ≡ length life.taken + length endpoint.queue = length-append life.taken endpoint.queue in
        no_items endpoint.queue (omega arith)

    goes_on : life.is_closing ≡ endpoint.is_closing → life.is_closing ≡ true → endpoint.queue ≡ [] → ⊥
    goes_on is closing none =
        let c : endpoint.is_closing ≡ true = sym is ∙ closing in
        let e : is_done endpoint ≡ true = rw (c, none, live) refl in
        let wrong : true ≡ false = sym e ∙ fits.still refl in cc

-- so are all, where none is over
pub served_each : (endpoints : List Endpoint) (lives : List Life) → AllFit (Fits idle None) endpoints lives → list_any is_over endpoints ≡ false → Each IsServed lives
served_each [] [] fits live = tt
served_each [] (life ∷ lives) fits live = absurd fits
served_each (endpoint ∷ endpoints) [] fits live = absurd fits
served_each (endpoint ∷ endpoints) (life ∷ lives) fits live =
    let parts = neither endpoint.is_over (list_any is_over endpoints) live in
    (served endpoint life fits.0 parts.0, served_each endpoints lives fits.1 parts.1)

-- one among others of which none is over
pub alive_in : (front back : List Endpoint) (endpoint : Endpoint) → list_any is_over (front ++ endpoint ∷ back) ≡ false → endpoint.is_over ≡ false
alive_in [] back endpoint live = (neither endpoint.is_over (list_any is_over back) live).0
alive_in (first ∷ front) back endpoint live = alive_in front back endpoint (neither first.is_over (list_any is_over (front ++ endpoint ∷ back)) live).1
