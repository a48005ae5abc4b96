use Rattle.std.proofs.Common.{refl}
use Rattle.std.specs.Fmt.{digits}
use Rattle.px_view.proofs.laws.rows_hold.Goals as goal

pub returns : goal.returns
unfolding digits
returns c = record {
  list = refl;
  quit = refl;
  other_word = refl;
  no_word = refl;
  word_more = refl;
  show = refl;
  entry = refl;
  entry_further = refl;
  entry_largest = refl;
  kill = refl;
  drop_word = refl;
  two_spaces = refl;
  no_number = refl;
  one_number = refl;
  three_numbers = refl;
  leading_zero = refl;
  sign = refl;
  too_large = refl;
  entry_no_place = refl;
  entry_word_more = refl;
  entry_one_number = refl;
  entry_no_digit = refl;
  entry_no_word = refl;
  entry_leading_zero = refl;
  entry_too_large = refl;
  show_word_more = refl;
  edit_method = refl;
  edit_set = refl;
  edit_body = refl;
  edit_nothing = refl;
  edit_no_change = refl;
  edit_other_change = refl;
  edit_word_more = refl;
  edit_one_number = refl;
  edit_two_spaces = refl;
}
