-- What flushes take, call by call.
use Rattle.std.proofs.Common.{◌≡◌, ◌∙◌, inl, inr, ℕ, ◌<◌, ◌≤◌, refl, ap, sym, arith, subst, Bool, true, false, List, [], ◌∷◌, ◌++◌, ◌==◌, take, drop, length, Option, Some, None, append_assoc, take-append-drop}
use Rattle.std.proofs.lemmas.Bool.{eq-eqb, eqb-true}
use Rattle.std.proofs.lemmas.List.{append-nil}
use Rattle.std.proofs.lemmas.Grind.{flat_map-append}
use Rattle.px_wire.specs.declared.call.WireCall.{WireCall}
use Rattle.px_wire.specs.declared.call.WireCall.TheVariants as calls
use Rattle.px_wire.specs.declared.wire.Put.{Put}
use Rattle.px_wire.specs.declared.wire.Put.TheVariants as puts
use Rattle.px_wire.specs.declared.endpoint.Flushed.{Flushed}
use Rattle.px_wire.specs.declared.endpoint.Flushed.TheVariants as flushes
use Rattle.px_wire.specs.declared.endpoint.Endpoint.{Endpoint}
use Rattle.px_wire.specs.Calls.{Calls, Tells, LastIs, put_call}
use Rattle.px_wire.specs.Endpoints.{is_done, after_put}
use Rattle.px_wire.specs.Puts.{TookSo, FlushedSo, taken_from, taken_in}
use Rattle.px_wire.proofs.PutLemmas.{no_items}

-- nothing was put yet
pub took_none : (slot : ℕ) (queue : List ℕ) (told : Option Calls) → TookSo slot queue queue told told
took_none slot queue None = tt
took_none slot queue (Some list) = record { more = []; grown = sym (append-nil list); taken = refl }

more_taken : (slot : ℕ) (queue left later : List ℕ) (call : WireCall) (more : Calls) → taken_in slot more ++ left ≡ queue → taken_from slot call ++ later ≡ left
    → taken_in slot (more ++ call ∷ []) ++ later ≡ queue
more_taken slot queue left later call more so_far is =
    let last : taken_in slot (call ∷ []) ≡ taken_from slot call = append-nil (taken_from slot call) in
    let joined : taken_in slot (more ++ call ∷ []) ≡ taken_in slot more ++ taken_from slot call =
    flat_map-append (taken_from slot) more (call ∷ []) ∙ ap (λ (b : List ℕ). taken_in slot more ++ b) last in
    ap (λ (b : List ℕ). b ++ later) joined ∙ (append_assoc (taken_in slot more) (taken_from slot call) later ∙ (ap (λ (b : List ℕ). taken_in slot more ++ b) is ∙ so_far))

-- one call more
pub took_more : (slot : ℕ) (queue left later : List ℕ) (call : WireCall) (old mid new : Option Calls) → TookSo slot queue left old mid → Tells call mid new
    → taken_from slot call ++ later ≡ left → TookSo slot queue later old new
took_more slot queue left later call old None new took tells is = let P : Option Calls → Type 0 = λ n. TookSo slot queue later old n in subst P (sym tells) tt
took_more slot queue left later call None (Some mid) new took tells is = absurd took
took_more slot queue left later call (Some old) (Some mid) new took (inr lost) is = let P : Option Calls → Type 0 = λ n. TookSo slot queue later (Some old) n in subst P (sym lost) tt
took_more slot queue left later call (Some old) (Some mid) new took (inl grown) is =
    let P : Option Calls → Type 0 = λ n. TookSo slot queue later (Some old) n in
    subst P (sym grown) (record {
      more = took.more ++ call ∷ [];
      grown = ap (λ (ls : Calls). ls ++ call ∷ []) took.grown ∙ append_assoc old took.more (call ∷ []);
      taken = more_taken slot queue left later call took.more took.taken is;
    })

-- the call was the last
pub last_call : (call : WireCall) (mid new : Option Calls) → Tells call mid new → LastIs call new
last_call call None new tells = let P : Option Calls → Type 0 = λ n. LastIs call n in subst P (sym tells) tt
last_call call (Some mid) new (inl grown) = let P : Option Calls → Type 0 = λ n. LastIs call n in subst P (sym grown) (mid, refl)
last_call call (Some mid) new (inr lost) = let P : Option Calls → Type 0 = λ n. LastIs call n in subst P (sym lost) tt

-- the bytes that a `put` took
pub took_of : (slot count : ℕ) (queue : List ℕ) → taken_from slot (calls.Took slot (take count queue)) ++ drop count queue ≡ queue
took_of slot count queue = rw (eq-eqb slot slot refl) (take-append-drop count queue)

module _ (slot : ℕ) (queue : List ℕ) (endpoint : Endpoint) (put : Put) (old mid now : Option Calls) where
  slot_of : (made : ℕ → WireCall) (call : WireCall) → call ≡ made endpoint.slot → endpoint.slot ≡ slot → Tells call mid now → Tells (made slot) mid now
  slot_of made call is at tells =
      let T : WireCall → Type 0 = λ c. Tells c mid now in
      let S : ℕ → Type 0 = λ s. Tells (made s) mid now in
      subst S at (subst T is tells)

  -- a part was taken
  pub put_more : (new : Endpoint) (count : ℕ) → put ≡ puts.Took count → endpoint.slot ≡ slot → new ≡ after_put endpoint put → Tells (put_call endpoint.slot endpoint.queue put) mid now
      → TookSo slot queue endpoint.queue old mid → TookSo slot queue new.queue old now
  put_more new count is at made tells took =
      let call : put_call endpoint.slot endpoint.queue put ≡ calls.Took endpoint.slot (take count endpoint.queue) = ap (put_call endpoint.slot endpoint.queue) is in
      let left : new.queue ≡ drop count endpoint.queue = ap (λ (l : Endpoint). l.queue) (made ∙ ap (after_put endpoint) is) in
      let Q : List ℕ → Type 0 = λ q. TookSo slot queue q old now in
      subst Q (sym left) (took_more slot queue endpoint.queue (drop count endpoint.queue) (calls.Took slot (take count endpoint.queue)) old mid now took
      (slot_of (λ s. calls.Took s (take count endpoint.queue)) (put_call endpoint.slot endpoint.queue put) call at tells) (took_of slot count endpoint.queue))

  -- nothing more at present
  pub put_stopped : put ≡ puts.Blocked → 0 < length endpoint.queue → endpoint.slot ≡ slot → Tells (put_call endpoint.slot endpoint.queue put) mid now
      → TookSo slot queue endpoint.queue old mid → FlushedSo flushes.Blocked slot queue old now
  put_stopped is some at tells took =
      let told : Tells (calls.PutBlocked slot) mid now = slot_of (λ s. calls.PutBlocked s) (put_call endpoint.slot endpoint.queue put) (ap (put_call endpoint.slot endpoint.queue) is) at tells in
      (endpoint.queue, took_more slot queue endpoint.queue endpoint.queue (calls.PutBlocked slot) old mid now took told refl, some, last_call (calls.PutBlocked slot) mid now told)

  -- the socket failed
  pub put_failed : put ≡ puts.Broken → 0 < length endpoint.queue → endpoint.slot ≡ slot → Tells (put_call endpoint.slot endpoint.queue put) mid now
      → TookSo slot queue endpoint.queue old mid → FlushedSo flushes.Broken slot queue old now
  put_failed is some at tells took =
      let told : Tells (calls.PutBroke slot) mid now = slot_of (λ s. calls.PutBroke s) (put_call endpoint.slot endpoint.queue put) (ap (put_call endpoint.slot endpoint.queue) is) at tells in
      (endpoint.queue, took_more slot queue endpoint.queue endpoint.queue (calls.PutBroke slot) old mid now took told refl, some, last_call (calls.PutBroke slot) mid now told)

-- all was taken
pub put_whole : (slot : ℕ) (queue : List ℕ) (endpoint : Endpoint) (old now : Option Calls) → length endpoint.queue ≤ 0 → TookSo slot queue endpoint.queue old now → FlushedSo flushes.Empty slot queue old now
put_whole slot queue endpoint old now none took =
    let Q : List ℕ → Type 0 = λ q. TookSo slot queue q old now in subst Q (no_items endpoint.queue (omega arith)) took

-- the parts of what it is to be done with
done_parts : (endpoint : Endpoint) → is_done endpoint ≡ true → (endpoint.queue ≡ []) × (endpoint.is_over ≡ false)
done_parts endpoint is = by endpoint.is_closing refl (length endpoint.queue == 0) refl endpoint.is_over refl
  where
    by : (a : Bool) → endpoint.is_closing ≡ a → (b : Bool) → (length endpoint.queue == 0) ≡ b → (d : Bool) → endpoint.is_over ≡ d → (endpoint.queue ≡ []) × (endpoint.is_over ≡ false)
    by true x true y false z = (no_items endpoint.queue (let e : length endpoint.queue ≡ 0 = eqb-true (length endpoint.queue) 0 y in omega arith), z)
    by false x b y d z = let wrong : false ≡ true = rw x at is in cc
    by true x false y d z = let wrong : false ≡ true = rw (x, y) at is in cc
    by true x true y true z = let wrong : false ≡ true = rw (x, y, z) at is in cc

-- a slot was flushed, and then shut where it was done with
pub flushed_shut : (flushed : Flushed) (slot : ℕ) (queue : List ℕ) (endpoint : Endpoint) (old mid now : Option Calls) → FlushedSo flushed slot queue old mid
    → (flushed ≡ flushes.Blocked → 0 < length endpoint.queue) → (flushed ≡ flushes.Broken → endpoint.is_over ≡ true) → is_done endpoint ≡ true
    → Tells (calls.Shut slot) mid now → FlushedSo flushed slot queue old now
flushed_shut flushes.Empty slot queue endpoint old mid now so left over done tells = took_more slot queue [] [] (calls.Shut slot) old mid now so tells refl
flushed_shut flushes.Blocked slot queue endpoint old mid now so left over done tells =
    let none : length endpoint.queue ≡ 0 = ap length (done_parts endpoint done).0 in let some = left refl in absurd (omega arith)
flushed_shut flushes.Broken slot queue endpoint old mid now so left over done tells =
    let wrong : false ≡ true = sym (done_parts endpoint done).1 ∙ over refl in cc
