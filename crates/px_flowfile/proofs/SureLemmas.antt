-- Each kind of a flow's tables is sure.
use Rattle.std.proofs.Common.{◌≡◌, ◌∙◌, ℕ, ◌^◌, ◌<◌, ℤ, pos, nat_abs, Bool, false, List, [], refl, sym, ap, arith, inl, inr}
use Rattle.px_tnet.specs.Tree.{Tree, blob, int, bool, null, list, dict, Trees, no_tree, tree}
use Rattle.px_tnet.specs.Tree as of
use Rattle.px_flowfile.specs.Kind.{plain, shown}
use Rattle.px_flowfile.specs.Simple.{Any, truth, word, word_bytes, unused, moment, form, form_number}
use Rattle.px_flowfile.specs.declared.form.Form.{Form}
use Rattle.px_flowfile.specs.declared.form.Form.TheVariants as forms
use Rattle.px_flowfile.specs.declared.key.Key.{Key}
use Rattle.px_flowfile.specs.declared.error.FlowFileError.{FlowFileError}
use Rattle.px_flowfile.specs.declared.error.FlowFileError.TheVariants as error
use Rattle.px_flowfile.proofs.KindLaws.{Sure, sure_plain, sure_shown, shown_apart, shown_cause}

abbrev bytes_in : Tree → List ℕ
bytes_in (blob b) = b
bytes_in (of.text b) = b
bytes_in t = []

abbrev int_in : Tree → ℤ
int_in (int n) = n
int_in t = pos 0

abbrev bool_in : Tree → Bool
bool_in (bool b) = b
bool_in t = false

pub one_blob : (a b : List ℕ) → blob a ≡ blob b → a ≡ b
one_blob a b h = ap bytes_in h

pub one_text : (a b : List ℕ) → of.text a ≡ of.text b → a ≡ b
one_text a b h = ap bytes_in h

pub one_int : (a b : ℤ) → int a ≡ int b → a ≡ b
one_int a b h = ap int_in h

pub one_pos : (a b : ℕ) → pos a ≡ pos b → a ≡ b
one_pos a b h = ap nat_abs h

pub sure_bytes : (Good : List ℕ → Type 0) → Sure (plain blob Good)
sure_bytes Good = sure_plain blob Good one_blob

pub sure_truth : Sure truth
sure_truth = sure_plain bool Any (λ a b h. ap bool_in h)

pub sure_word : (name : List ℕ) → Sure (word name)
sure_word name = sure_shown of.text (λ _. name) Any one_text (λ a b _ _ _. refl)

pub sure_word_bytes : (name : List ℕ) → Sure (word_bytes name)
sure_word_bytes name = sure_shown blob (λ _. name) Any one_blob (λ a b _ _ _. refl)

pub sure_unused : Sure unused
sure_unused = record { one = λ t a b h g. refl; apart = λ name t a e h bad. bad.1 h.0 h.1; cause = λ name t e d h g. h.0 ∙ sym g.0 }

pub sure_moment : Sure moment
sure_moment = record {
  one = λ t a b h g. one_pos a b (one_int (pos a) (pos b) (sym h.0 ∙ g.0));
  apart = shown_apart int pos (λ m. m < 2 ^ 63) one_int;
  cause = shown_cause int pos (λ m. m < 2 ^ 63) one_int;
}

pub sure_number : (Good : ℕ → Type 0) → Sure (shown int pos Good)
sure_number Good = sure_shown int pos Good one_int (λ a b _ _ h. one_pos a b h)

one_form : (a b : Form) → form_number a ≡ form_number b → a ≡ b
one_form forms.First forms.First h = refl
one_form forms.Second forms.Second h = refl
one_form forms.First forms.Second h = absurd (let e : 1 ≡ 2 = one_pos 1 2 h in omega arith)
one_form forms.Second forms.First h = absurd (let e : 2 ≡ 1 = one_pos 2 1 h in omega arith)

form_apart : (name : Key) (t : Tree) (of_form : Form) (e : FlowFileError) → t ≡ int (form_number of_form) → ¬ (form.Refuses name t e)
form_apart name t of_form e h (inl bad) = bad.1 (form_number of_form) h
form_apart name t of_form e h (inr bad) = bad.3 of_form (one_int bad.0 (form_number of_form) (sym bad.1 ∙ h))

form_cause : (name : Key) (t : Tree) (e d : FlowFileError) → form.Refuses name t e → form.Refuses name t d → e ≡ d
form_cause name t e d (inl h) (inl g) = h.0 ∙ sym g.0
form_cause name t e d (inl h) (inr g) = absurd (h.1 g.0 g.1)
form_cause name t e d (inr h) (inl g) = absurd (g.1 h.0 h.1)
form_cause name t e d (inr h) (inr g) = h.2 ∙ ap (λ n. error.OtherVersion n) (one_int h.0 g.0 (sym h.1 ∙ g.1)) ∙ sym g.2

pub sure_form : Sure form
sure_form = record {
  one = λ t a b h g. one_form a b (one_int (form_number a) (form_number b) (sym h ∙ g));
  apart = form_apart;
  cause = form_cause;
}
