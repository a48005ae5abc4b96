-- Where a wire of real sockets listens, and why it does not.
use Rattle.std.specs.Prelude.{List, ℕ, codes, Option, None}
use Rattle.std.specs.declared.io.ErrorKind.{ErrorKind}
use Rattle.std.specs.declared.io.ErrorKind.TheVariants.{AddrInUse, AddrNotAvailable, PermissionDenied}
use Rattle.px_outside.specs.Net.{Listening, idle, failed, at}
use Rattle.px_mio.specs.declared.listening.Listening.{Listening as Where}
use Rattle.px_mio.specs.declared.listening.Listening.TheVariants.{Idle, Failed, At}
use Rattle.px_mio.specs.declared.listening.Refused.{Refused}
use Rattle.px_mio.specs.declared.listen_fault.ListenFault.{ListenFault}
use Rattle.px_mio.specs.declared.listen_fault.ListenFault.TheVariants.{InUse, NoSuchAddress, NotPermitted, NoSuchName, Other}

abbrev pub listening_of : Where → Listening
listening_of Idle = idle
listening_of (Failed refused) = failed
listening_of (At proxy control) = at proxy control

-- what was refused, where listening failed by a fault
abbrev pub refused_of : Where → Option Refused
refused_of (Failed refused) = refused
refused_of _ = None

-- the fault of an error of this kind, where a socket is bound
abbrev pub fault_of : ErrorKind → ListenFault
fault_of AddrInUse = InUse
fault_of AddrNotAvailable = NoSuchAddress
fault_of PermissionDenied = NotPermitted
fault_of _ = Other

-- a fault in words
abbrev pub text_of : ListenFault → List ℕ
text_of InUse = codes "address in use"
text_of NoSuchAddress = codes "no such address"
text_of NotPermitted = codes "not permitted"
text_of NoSuchName = codes "no such name"
text_of Other = codes "other fault"
