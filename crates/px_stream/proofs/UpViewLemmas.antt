-- What is sent to a server, as the views see it: an empty text is not seen, two are seen as one, and what is said to the client is in no order with it.
use Rattle.std.proofs.Common.{◌≡◌, ℕ, Bool, true, false, List, [], ◌∷◌, ◌++◌, map, refl, ap, sym, ◌∙◌, append_assoc}
use Rattle.std.specs.Prelude.{if◌then◌else◌}
use Rattle.std.proofs.lemmas.List.{append-nil}
use Rattle.px_message.specs.declared.request.Request.{Request}
use Rattle.px_read.specs.declared.head.ResponseHead.{ResponseHead}
use Rattle.px_event.specs.declared.command.Command.{Command}
use Rattle.px_event.specs.declared.command.Command.TheVariants as commands
use Rattle.px_event.specs.declared.side.Side.TheVariants.{Client, Server}
use Rattle.px_event.specs.Trace.{is_same_side}
use Rattle.px_event.specs.View.{Atom, View, byte, command_atoms, course, flows, line, order, questions, seen_of}
use Rattle.px_event.proofs.Seen.{seen_append}
use Rattle.px_exchange.specs.Requests.{is_http11}
use Rattle.px_exchange.specs.Texts.{interim_command, interim_commands, sends_on}
use Rattle.px_stream.specs.Comings.{sends_text}
use Rattle.px_stream.specs.Goings.{sends_to}

-- what a view has of a text to a server
abbrev pub server_atoms : View → ℕ → List ℕ → List Atom
server_atoms view server text = command_atoms view (commands.Send (Server server) text)

none_if : (b : Bool) → (let l : List Atom = if b then [] else [] in l) ≡ []
none_if true = refl
none_if false = refl

none_seen : (view : View) (server : ℕ) → server_atoms view server [] ≡ []
none_seen (line Client) server = refl
none_seen (line (Server other)) server = none_if (is_same_side (Server server) (Server other))
none_seen questions server = refl
none_seen course server = refl
none_seen flows server = refl
none_seen order server = refl

-- an empty text is not seen
pub to_seen : (view : View) (server : ℕ) (text : List ℕ) → seen_of view (sends_to server text) ≡ server_atoms view server text
to_seen view server [] = sym (none_seen view server)
to_seen view server (b ∷ text) = append-nil (server_atoms view server (b ∷ text))

bytes_both : (was text : List ℕ) → map byte (was ++ text) ≡ map byte was ++ map byte text
bytes_both [] text = refl
bytes_both (b ∷ was) text = ap (λ l. byte b ∷ l) (bytes_both was text)

both_if : (b : Bool) (was text : List ℕ) →
    (let l : List Atom = if b then map byte (was ++ text) else [] in l) ≡ (let l : List Atom = if b then map byte was else [] in l) ++ (let l : List Atom = if b then map byte text else [] in l)
both_if true was text = bytes_both was text
both_if false was text = refl

-- a text in two sends is seen as in one
pub atoms_both : (view : View) (server : ℕ) (was text : List ℕ) → server_atoms view server (was ++ text) ≡ server_atoms view server was ++ server_atoms view server text
atoms_both (line Client) server was text = refl
atoms_both (line (Server other)) server was text = both_if (is_same_side (Server server) (Server other)) was text
atoms_both questions server was text = refl
atoms_both course server was text = refl
atoms_both flows server was text = refl
atoms_both order server was text = refl

-- no server sees anything of these
abbrev pub IsForClient : List Command → Type 0
IsForClient rest = (server : ℕ) → seen_of (line (Server server)) rest ≡ []

none_for_client : IsForClient []
none_for_client server = refl

pub text_for_client : (text : List ℕ) → IsForClient (sends_text text)
text_for_client [] = λ server. refl
text_for_client (b ∷ text) = λ server. refl

heads_for_client : (heads : List ResponseHead) (server : ℕ) → seen_of (line (Server server)) (map interim_command heads) ≡ []
heads_for_client [] server = refl
heads_for_client (head ∷ heads) server = heads_for_client heads server

sends_for_client : (b : Bool) (heads : List ResponseHead) → IsForClient (sends_on b heads)
sends_for_client true heads = λ server. heads_for_client heads server
sends_for_client false heads = λ server. refl

pub interim_for_client : (message : Request) (heads : List ResponseHead) → IsForClient (interim_commands message heads)
interim_for_client message heads = sends_for_client (is_http11 message.version) heads

pub nothing_for_client : IsForClient []
nothing_for_client = none_for_client

-- so they may stand on either side of it
swapped : (view : View) (server : ℕ) (text : List ℕ) (rest : List Command) → IsForClient rest →
    seen_of view rest ++ server_atoms view server text ≡ server_atoms view server text ++ seen_of view rest
swapped (line Client) server text rest for = append-nil (seen_of (line Client) rest)
swapped (line (Server other)) server text rest for =
    let atoms : List Atom = server_atoms (line (Server other)) server text in
    ap (λ l. l ++ atoms) (for other) ∙ (sym (append-nil atoms) ∙ ap (λ l. atoms ++ l) (sym (for other)))
swapped questions server text rest for = append-nil (seen_of questions rest)
swapped course server text rest for = append-nil (seen_of course rest)
swapped flows server text rest for = append-nil (seen_of flows rest)
swapped order server text rest for = append-nil (seen_of order rest)

-- What was sent before to a server, beside what was said to the client, and what is sent now, are seen as one text.
pub up_more : (view : View) (server : ℕ) (was text : List ℕ) (rest : List Command) → IsForClient rest →
    seen_of view ((sends_to server was ++ rest) ++ sends_to server text) ≡ server_atoms view server (was ++ text) ++ seen_of view rest
up_more view server was text rest for =
    let one : List Atom = server_atoms view server was in
    let two : List Atom = server_atoms view server text in
    let said : List Atom = seen_of view rest in
    seen_append view (sends_to server was ++ rest) (sends_to server text)
    ∙ (ap (λ l. l ++ seen_of view (sends_to server text)) (seen_append view (sends_to server was) rest ∙ ap (λ l. l ++ said) (to_seen view server was))
    ∙ (ap (λ l. (one ++ said) ++ l) (to_seen view server text)
    ∙ (append_assoc one said two
    ∙ (ap (λ l. one ++ l) (swapped view server text rest for)
    ∙ (sym (append_assoc one two said)
    ∙ ap (λ l. l ++ said) (sym (atoms_both view server was text)))))))

-- as it is owed, in a text or with what is said to the client behind it
pub up_sent : (view : View) (server : ℕ) (text : List ℕ) (rest : List Command) → server_atoms view server text ++ seen_of view rest ≡ seen_of view (sends_to server text ++ rest)
up_sent view server text rest = ap (λ l. l ++ seen_of view rest) (sym (to_seen view server text)) ∙ sym (seen_append view (sends_to server text) rest)
