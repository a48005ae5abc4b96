-- What the chain of SOCKS may owe and where it may lead: its client alone hears of it, it dials what it asks for, and only that dial's answer opens.
use Rattle.std.specs.Prelude.{◌≡◌, ℕ, ◌+◌, ◌==◌, Bool, true, false, List, [], ◌∷◌, ◌++◌, drop, Option, Some, None, ⊤}
use Rattle.std.proofs.Common.{refl, sym, ap, ap₂, subst}
use Rattle.std.specs.List.{flat_map}
use Rattle.px_message.specs.declared.address.Address.{Address}
use Rattle.px_event.specs.declared.command.Command.{Command}
use Rattle.px_event.specs.declared.command.Command.TheVariants as commands
use Rattle.px_event.specs.declared.reply.Reply.{Reply}
use Rattle.px_event.specs.declared.reply.Reply.TheVariants as replies
use Rattle.px_event.specs.declared.side.Side.TheVariants.{Client, Server}
use Rattle.px_event.specs.Chain.{NotYet, Asks, Ends}
use Rattle.px_event.specs.Layer.{asks_in}
use Rattle.px_event.specs.View.{command_atoms, line, seen_of}
use Rattle.px_socks.specs.declared.greeting.Greeting.{Greeting}
use Rattle.px_socks.specs.declared.greeting.Greeting.TheVariants.{More, Methods, NotSocks}
use Rattle.px_socks.specs.Chain.{look, pass, pass_address, pass_by, pass_closed, pass_greeting, pass_open, pass_request, shut_client, turn, turn_dial}
use Rattle.px_socks.specs.Greeting.{greeting_of}
use Rattle.px_socks.specs.Request.{Heard, address_with, connect, more, refused, request_of}
use Rattle.px_socks.specs.Stages.{Sight, Stage, dialling, greeting, opened, over, requesting}

-- ---- what is owed: texts to the client, and its close

abbrev pub IsToClient : Command → Type 0
IsToClient (commands.Send Client text) = ⊤
IsToClient (commands.Close Client) = ⊤
IsToClient command = ⊥

abbrev pub AllToClient : List Command → Type 0
AllToClient [] = ⊤
AllToClient (command ∷ owed) = IsToClient command × AllToClient owed

pub to_client_both : (xs ys : List Command) → AllToClient xs → AllToClient ys → AllToClient (xs ++ ys)
to_client_both [] ys all rest = rest
to_client_both (x ∷ xs) ys (here, all) rest = (here, to_client_both xs ys all rest)

address_to_client : (used : ℕ) (address : Option Address) → AllToClient (pass_address used address).owed
address_to_client used None = (tt, (tt, tt))
address_to_client used (Some address) = tt

request_to_client : (used : ℕ) (heard : Heard) → AllToClient (pass_request used heard).owed
request_to_client used more = tt
request_to_client used (connect host port size) = address_to_client (used + size) (address_with host port (port == 0) refl)
request_to_client used (refused code) = (tt, (tt, tt))

greeting_to_client : (greeted : Greeting) (text : List ℕ) → AllToClient (pass_greeting greeted text).owed
greeting_to_client More text = tt
greeting_to_client (Methods true used) text = (tt, request_to_client used (request_of (drop used text)))
greeting_to_client (Methods false used) text = (tt, (tt, tt))
greeting_to_client NotSocks text = (tt, tt)

pub open_to_client : (stage : Stage) (text : List ℕ) → AllToClient (pass_open stage text).owed
open_to_client greeting text = greeting_to_client (greeting_of text) text
open_to_client (requesting used) text = request_to_client used (request_of (drop used text))
open_to_client (dialling used address) text = tt
open_to_client (opened used address) text = tt
open_to_client over text = tt

closed_to_client : (stage : Stage) → AllToClient (pass_closed stage).owed
closed_to_client greeting = tt
closed_to_client (requesting used) = tt
closed_to_client (dialling used address) = tt
closed_to_client (opened used address) = tt
closed_to_client over = tt

by_to_client : (closed : Bool) (stage : Stage) (text : List ℕ) → AllToClient (pass_by closed stage text).owed
by_to_client true stage text = closed_to_client stage
by_to_client false stage text = open_to_client stage text

pub pass_to_client : (stage : Stage) (seen : Sight) → AllToClient (pass stage seen).owed
pass_to_client stage seen = by_to_client seen.closed stage seen.client

shut_to_client : (closed : Bool) → AllToClient (shut_client closed)
shut_to_client true = tt
shut_to_client false = (tt, tt)

dial_to_client : (used : ℕ) (address : Address) (closed : Bool) (reply : Reply) → AllToClient (turn_dial used address closed reply).owed
dial_to_client used address closed replies.Dialled = (tt, tt)
dial_to_client used address closed (replies.Refused fault) = (tt, shut_to_client closed)
dial_to_client used address closed (replies.Go flow stream) = tt
dial_to_client used address closed (replies.Respond response) = tt
dial_to_client used address closed replies.Kill = tt
dial_to_client used address closed replies.Discard = tt

pub turn_to_client : (stage : Stage) (closed : Bool) (reply : Reply) → AllToClient (turn stage closed reply).owed
turn_to_client greeting closed reply = tt
turn_to_client (requesting used) closed reply = tt
turn_to_client (dialling used address) closed reply = dial_to_client used address closed reply
turn_to_client (opened used address) closed reply = tt
turn_to_client over closed reply = tt

-- So none of it is for a server, and it asks nothing.
says_servers_nothing : (server : ℕ) (command : Command) → IsToClient command → command_atoms (line (Server server)) command ≡ []
says_servers_nothing server (commands.Send Client text) is = refl
says_servers_nothing server (commands.Send (Server other) text) is = absurd is
says_servers_nothing server (commands.Close Client) is = refl
says_servers_nothing server (commands.Close (Server other)) is = absurd is
says_servers_nothing server (commands.Dial number address inside) is = absurd is
says_servers_nothing server (commands.Ask ask flow) is = absurd is
says_servers_nothing server (commands.Done flow) is = absurd is

pub to_client_silent : (server : ℕ) (owed : List Command) → AllToClient owed → seen_of (line (Server server)) owed ≡ []
to_client_silent server [] all = refl
to_client_silent server (command ∷ owed) (here, all) = ap₂ (λ xs ys. xs ++ ys) (says_servers_nothing server command here) (to_client_silent server owed all)

to_client_asks : (command : Command) → IsToClient command → asks_in command ≡ []
to_client_asks (commands.Send side text) is = refl
to_client_asks (commands.Close side) is = refl
to_client_asks (commands.Dial server address inside) is = absurd is
to_client_asks (commands.Ask ask flow) is = absurd is
to_client_asks (commands.Done flow) is = refl

pub to_client_asks_nothing : (owed : List Command) → AllToClient owed → flat_map asks_in owed ≡ []
to_client_asks_nothing [] all = refl
to_client_asks_nothing (command ∷ owed) (here, all) = ap₂ (λ xs ys. xs ++ ys) (to_client_asks command here) (to_client_asks_nothing owed all)

-- ---- where it leads

-- its own bytes may follow
abbrev pub IsOpened : Stage → Type 0
IsOpened (opened used address) = ⊤
IsOpened stage = ⊥

address_never_opens : (used : ℕ) (address : Option Address) → IsOpened (pass_address used address).stage → ⊥
address_never_opens used None is = is
address_never_opens used (Some address) is = is

request_never_opens : (used : ℕ) (heard : Heard) → IsOpened (pass_request used heard).stage → ⊥
request_never_opens used more is = is
request_never_opens used (connect host port size) is = address_never_opens (used + size) (address_with host port (port == 0) refl) is
request_never_opens used (refused code) is = is

greeting_never_opens : (greeted : Greeting) (text : List ℕ) → IsOpened (pass_greeting greeted text).stage → ⊥
greeting_never_opens More text is = is
greeting_never_opens (Methods true used) text is = request_never_opens used (request_of (drop used text)) is
greeting_never_opens (Methods false used) text is = is
greeting_never_opens NotSocks text is = is

open_never_opens : (stage : Stage) (text : List ℕ) → (IsOpened stage → ⊥) → IsOpened (pass_open stage text).stage → ⊥
open_never_opens greeting text apart is = greeting_never_opens (greeting_of text) text is
open_never_opens (requesting used) text apart is = request_never_opens used (request_of (drop used text)) is
open_never_opens (dialling used address) text apart is = is
open_never_opens (opened used address) text apart is = apart is
open_never_opens over text apart is = is

closed_never_opens : (stage : Stage) → (IsOpened stage → ⊥) → IsOpened (pass_closed stage).stage → ⊥
closed_never_opens greeting apart is = is
closed_never_opens (requesting used) apart is = is
closed_never_opens (dialling used address) apart is = is
closed_never_opens (opened used address) apart is = apart is
closed_never_opens over apart is = is

by_never_opens : (closed : Bool) (stage : Stage) (text : List ℕ) → (IsOpened stage → ⊥) → IsOpened (pass_by closed stage text).stage → ⊥
by_never_opens true stage text apart is = closed_never_opens stage apart is
by_never_opens false stage text apart is = open_never_opens stage text apart is

-- No bytes of the client and no close lead there: only its dial's answer does.
pub pass_never_opens : (stage : Stage) (seen : Sight) → (IsOpened stage → ⊥) → IsOpened (pass stage seen).stage → ⊥
pass_never_opens stage seen apart is = by_never_opens seen.closed stage seen.client apart is

-- an answer that leads there
pub record Opens (stage : Stage) (reply : Reply) (used : ℕ) (address : Address) : Type 0 where
  pub dialled : stage ≡ dialling used address
  pub connected : reply ≡ replies.Dialled

same_place : (used other : ℕ) (address another : Address) → opened used address ≡ opened other another → dialling used address ≡ dialling other another
same_place used other address another is = cc

never_opened : (used : ℕ) (address : Address) → over ≡ opened used address → ⊥
never_opened used address is = cc

dial_opens : (from : ℕ) (to : Address) (closed : Bool) (reply : Reply) (used : ℕ) (address : Address) →
    (turn_dial from to closed reply).stage ≡ opened used address → Opens (dialling from to) reply used address
dial_opens from to closed replies.Dialled used address is = record { dialled = same_place from used to address is; connected = refl }
dial_opens from to closed (replies.Refused fault) used address is = absurd (never_opened used address is)
dial_opens from to closed (replies.Go flow stream) used address is = absurd (never_opened used address is)
dial_opens from to closed (replies.Respond response) used address is = absurd (never_opened used address is)
dial_opens from to closed replies.Kill used address is = absurd (never_opened used address is)
dial_opens from to closed replies.Discard used address is = absurd (never_opened used address is)

pub turn_opens : (stage : Stage) (closed : Bool) (reply : Reply) (used : ℕ) (address : Address) → (IsOpened stage → ⊥) →
    (turn stage closed reply).stage ≡ opened used address → Opens stage reply used address
turn_opens greeting closed reply used address apart is = absurd (subst IsOpened (sym is) tt)
turn_opens (requesting other) closed reply used address apart is = absurd (subst IsOpened (sym is) tt)
turn_opens (dialling from to) closed reply used address apart is = dial_opens from to closed reply used address is
turn_opens (opened other another) closed reply used address apart is = absurd (apart tt)
turn_opens over closed reply used address apart is = absurd (never_opened used address is)

-- Where its server is dialled, that dial is found; and where one is found, its server is dialled.
pub dialling_asks : (stage : Stage) (seen : Sight) (used : ℕ) (address : Address) → (pass stage seen).stage ≡ dialling used address →
    look (pass stage seen).stage ≡ Asks (commands.Dial 0 address None)
dialling_asks stage seen used address is = ap look is

-- what is found where it asks
pub record IsDialled (stage : Stage) (ask : Command) : Type 0 where
  pub used : ℕ
  pub address : Address
  pub is : stage ≡ dialling used address
  pub asks : ask ≡ commands.Dial 0 address None

asked_is : (ask other : Command) → Asks ask ≡ Asks other → other ≡ ask
asked_is ask other is = cc

pub asks_dialling : (stage : Stage) (ask : Command) → look stage ≡ Asks ask → IsDialled stage ask
asks_dialling greeting ask is = absurd (let no : NotYet ≡ Asks ask = is in cc)
asks_dialling (requesting used) ask is = absurd (let no : NotYet ≡ Asks ask = is in cc)
asks_dialling (dialling used address) ask is = record { used = used; address = address; is = refl; asks = asked_is (commands.Dial 0 address None) ask is }
asks_dialling (opened used address) ask is = absurd (let no : Ends [] ≡ Asks ask = is in cc)
asks_dialling over ask is = absurd (let no : Ends [] ≡ Asks ask = is in cc)
