-- What is told of a program that can't listen.
use Rattle.std.specs.Prelude.{ℕ, List, [], ◌∷◌, ◌++◌, codes, decimal}
use Rattle.px_message.specs.declared.address.Address.{Address}
use Rattle.px_mio.specs.Listening.{text_of}
use Rattle.px_mio.specs.declared.listen_fault.ListenFault.{ListenFault}

-- the line that says where it can't listen, and why
abbrev pub cause_line : Address → ListenFault → List ℕ
cause_line address why =
    codes "cannot listen at " ++ (address.host ++ 58 ∷ (decimal address.port ++ (codes ": " ++ (text_of why ++ 10 ∷ []))))
