-- Lines and what they are, row by row.
use Rattle.std.specs.Prelude.{◌≡◌, [], codes, Ok, Err}
use Rattle.px_core.specs.declared.operation.Operation.TheVariants as operation
use Rattle.px_draft.specs.declared.edit.Edit.TheVariants as change
use Rattle.px_view.specs.declared.command.Order.TheVariants as order
use Rattle.px_view.specs.declared.command.CommandError.TheVariants as error
use Rattle.px_view.specs.Commands.{order_of}

pub record RowsHold : Type 0 where
  pub list : order_of (codes "list") ≡ Ok order.List
  pub quit : order_of (codes "quit") ≡ Ok order.Quit
  pub other_word : order_of (codes "lst") ≡ Err error.UnknownCommand
  pub no_word : order_of [] ≡ Err error.UnknownCommand
  pub word_more : order_of (codes "list x") ≡ Err error.UnknownCommand
  pub show : order_of (codes "show 1.2") ≡ Ok (order.Show record { conv = 1; index = 2 })
  pub entry : order_of (codes "entry 1.2 0") ≡ Ok (order.Entry record { conv = 1; index = 2 } 0)
  pub entry_further : order_of (codes "entry 1.2 65536") ≡ Ok (order.Entry record { conv = 1; index = 2 } 65536)
  pub entry_largest : order_of (codes "entry 1.2 18446744073709551615") ≡ Ok (order.Entry record { conv = 1; index = 2 } 18446744073709551615)
  pub kill : order_of (codes "kill 0.4294967295") ≡ Ok (order.Act (operation.Kill record { conv = 0; index = 4294967295 }))
  pub drop_word : order_of (codes "drop a") ≡ Ok (order.Act (operation.DropAddon (codes "a")))
  pub two_spaces : order_of (codes "show  1.2") ≡ Err error.UnknownCommand
  pub no_number : order_of (codes "show") ≡ Err error.UnknownCommand
  pub one_number : order_of (codes "show 1") ≡ Err error.BadNumber
  pub three_numbers : order_of (codes "show 1.2.3") ≡ Err error.BadNumber
  pub leading_zero : order_of (codes "show 00.0") ≡ Err error.BadNumber
  pub sign : order_of (codes "show +1.2") ≡ Err error.BadNumber
  pub too_large : order_of (codes "show 4294967296.0") ≡ Err error.BadNumber
  pub entry_no_place : order_of (codes "entry 1.2") ≡ Err error.UnknownCommand
  pub entry_word_more : order_of (codes "entry 1.2 0 0") ≡ Err error.UnknownCommand
  pub entry_one_number : order_of (codes "entry 1 0") ≡ Err error.BadNumber
  pub entry_no_digit : order_of (codes "entry 1.2 x") ≡ Err error.BadNumber
  pub entry_no_word : order_of (codes "entry 1.2 ") ≡ Err error.BadNumber
  pub entry_leading_zero : order_of (codes "entry 1.2 00") ≡ Err error.BadNumber
  pub entry_too_large : order_of (codes "entry 1.2 18446744073709551616") ≡ Err error.BadNumber
  pub show_word_more : order_of (codes "show 1.2 0") ≡ Err error.UnknownCommand
  pub edit_method : order_of (codes "edit 1.2 method PUT") ≡ Ok (order.Act (operation.Edit record { conv = 1; index = 2 } (change.Method (codes "PUT"))))
  pub edit_set : order_of (codes "edit 1.2 set A Yg==") ≡ Ok (order.Act (operation.Edit record { conv = 1; index = 2 } (change.Set (codes "A") (codes "Yg=="))))
  pub edit_body : order_of (codes "edit 1.2 body") ≡ Ok (order.Act (operation.Edit record { conv = 1; index = 2 } change.ClearBody))
  pub edit_nothing : order_of (codes "edit 1.2 more ") ≡ Ok (order.Act (operation.Edit record { conv = 1; index = 2 } (change.More [])))
  pub edit_no_change : order_of (codes "edit 1.2") ≡ Err error.UnknownCommand
  pub edit_other_change : order_of (codes "edit 1 path /") ≡ Err error.UnknownCommand
  pub edit_word_more : order_of (codes "edit 1 body x") ≡ Err error.UnknownCommand
  pub edit_one_number : order_of (codes "edit 1 body") ≡ Err error.BadNumber
  pub edit_two_spaces : order_of (codes "edit 1.2  body") ≡ Err error.UnknownCommand
