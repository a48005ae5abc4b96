-- The length of a request's body: none behind a CONNECT, and of any other request what its fields say.
use Rattle.std.proofs.Common.{ℕ, ◌≡◌, ◌≢◌, Bool, true, false, List, ap, inl, inr, Result, Ok}
use Rattle.std.specs.Prelude.{bytes_eq, if◌then◌else◌}
use Rattle.std.proofs.lemmas.Bool.{cases_Bool}
use Rattle.std.proofs.lemmas.Slice.Eq.{bytes_eq-Decides}
use Rattle.px_message.specs.Length.{request_length}
use Rattle.px_message.specs.declared.fault.Fault.{Fault}
use Rattle.px_message.specs.declared.length.Length.{Length}
use Rattle.px_message.specs.declared.length.Length.TheVariants as lengths
use Rattle.px_read.specs.Heads.{connect_method, request_body_length}

abbrev length_by : List (List ℕ × List ℕ) → Bool → Result Length Fault
length_by fields tunnel = if tunnel then Ok lengths.None else request_length fields

no_connect : (method : List ℕ) → method ≢ connect_method → bytes_eq method connect_method ≡ false
no_connect method other = elim (cases_Bool (bytes_eq method connect_method)) [
  | inl same ↦ absurd (other ((bytes_eq-Decides method connect_method).0 same))
  | inr differs ↦ differs
]

pub length_by_fields : (method : List ℕ) (fields : List (List ℕ × List ℕ)) → method ≢ connect_method
    → request_body_length method fields ≡ request_length fields
length_by_fields method fields other = ap (length_by fields) (no_connect method other)

pub length_of_connect : (method : List ℕ) (fields : List (List ℕ × List ℕ)) → bytes_eq method connect_method ≡ true
    → request_body_length method fields ≡ Ok lengths.None
length_of_connect method fields connects = ap (length_by fields) connects
