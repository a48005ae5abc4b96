-- What counts where there is no client: nothing of a client is heard, and what each view sees of what is said to servers follows from what it sees of
-- all that is said.
use Rattle.std.proofs.Common.{◌≡◌, ℕ, Bool, true, false, List, [], ◌∷◌, ◌++◌, map, refl, ap, sym, ◌∙◌, append_assoc}
use Rattle.std.specs.Prelude.{if◌then◌else◌}
use Rattle.std.specs.List.{flat_map}
use Rattle.std.proofs.lemmas.Grind.{flat_map-append}
use Rattle.std.proofs.lemmas.List.{append-nil, map-append}
use Rattle.px_event.specs.declared.command.Command.{Command}
use Rattle.px_event.specs.declared.command.Command.TheVariants as commands
use Rattle.px_event.specs.declared.event.Event.{Event}
use Rattle.px_event.specs.declared.event.Event.TheVariants as events
use Rattle.px_event.specs.declared.side.Side.TheVariants.{Client, Server}
use Rattle.px_event.specs.Chain.{Timed}
use Rattle.px_event.specs.Layer.{asks_in}
use Rattle.px_event.specs.Sides.{closes, piece_of}
use Rattle.px_event.specs.View.{Atom, View, line, questions, course, flows, order, byte, close, done, command_atoms, seen_of}
use Rattle.px_event.proofs.Seen.{seen_append}
use Rattle.px_chain.specs.Streams.{bytes_of, client_closed}
use Rattle.px_resend.specs.Heard.{all_of_servers, is_to_client, of_servers, timed_of_servers, to_servers}

-- ---- what is heard

pub all_longer : (prefix : List (Timed Event)) (event : Timed Event) → all_of_servers (prefix ++ event ∷ []) ≡ all_of_servers prefix ++ timed_of_servers event ∷ []
all_longer prefix event = map-append timed_of_servers prefix (event ∷ [])

-- an event brings nothing of a client
no_piece : (event : Event) → piece_of Client (of_servers event) ≡ []
no_piece events.Begun = refl
no_piece (events.Piece Client bytes) = refl
no_piece (events.Piece (Server number) bytes) = refl
no_piece (events.Closed Client) = refl
no_piece (events.Closed (Server number)) = refl
no_piece (events.Answered ask reply) = refl

no_close : (event : Event) → closes Client (of_servers event) ≡ false
no_close events.Begun = refl
no_close (events.Piece Client bytes) = refl
no_close (events.Piece (Server number) bytes) = refl
no_close (events.Closed Client) = refl
no_close (events.Closed (Server number)) = refl
no_close (events.Answered ask reply) = refl

-- so no byte of a client comes, and it does not close
pub no_bytes : (prefix : List (Timed Event)) → bytes_of Client (all_of_servers prefix) ≡ []
no_bytes [] = refl
no_bytes (event ∷ prefix) = rw (no_close event.value, no_piece event.value) (no_bytes prefix)

pub never_closed : (prefix : List (Timed Event)) → client_closed (all_of_servers prefix) ≡ false
never_closed [] = refl
never_closed (event ∷ prefix) = rw (no_close event.value) (never_closed prefix)

-- ---- what is said to servers

append_by : (dropped : Bool) (command : Command) (rest more : List Command) →
    (if dropped then (rest ++ more) else (command ∷ (rest ++ more))) ≡ (if dropped then rest else (command ∷ rest)) ++ more
append_by true command rest more = refl
append_by false command rest more = refl

pub servers_append : (a b : List Command) → to_servers (a ++ b) ≡ to_servers a ++ to_servers b
servers_append [] b = refl
servers_append (command ∷ rest) b =
    ap (λ l. if is_to_client command then l else (command ∷ l)) (servers_append rest b) ∙ append_by (is_to_client command) command (to_servers rest) (to_servers b)

-- one command and the others
servers_first : (command : Command) (rest : List Command) → to_servers (command ∷ rest) ≡ to_servers (command ∷ []) ++ to_servers rest
servers_first command rest = servers_append (command ∷ []) rest

-- ---- what a view sees of it

-- of a client's line the finished flows stay
abbrev done_in : Atom → List Atom
done_in (done flow) = done flow ∷ []
done_in atom = []

abbrev dones : List Atom → List Atom
dones atoms = flat_map done_in atoms

-- of the order of all, all but what is said to the client
abbrev unsaid_in : Atom → List Atom
unsaid_in (byte value) = []
unsaid_in (close Client) = []
unsaid_in atom = atom ∷ []

abbrev unsaid : List Atom → List Atom
unsaid atoms = flat_map unsaid_in atoms

-- and of the others all
abbrev stays_in : View → List Atom → List Atom
stays_in (line Client) atoms = dones atoms
stays_in order atoms = unsaid atoms
stays_in view atoms = atoms

no_dones : (text : List ℕ) → dones (map byte text) ≡ []
no_dones [] = refl
no_dones (value ∷ text) = no_dones text

none_unsaid : (text : List ℕ) → unsaid (map byte text) ≡ []
none_unsaid [] = refl
none_unsaid (value ∷ text) = none_unsaid text

stays_append : (view : View) (a b : List Atom) → stays_in view (a ++ b) ≡ stays_in view a ++ stays_in view b
stays_append (line Client) a b = flat_map-append done_in a b
stays_append (line (Server number)) a b = refl
stays_append questions a b = refl
stays_append course a b = refl
stays_append flows a b = refl
stays_append order a b = flat_map-append unsaid_in a b

one_to_client : (command : Command) → seen_of (line Client) (to_servers (command ∷ [])) ≡ dones (command_atoms (line Client) command)
one_to_client (commands.Send Client text) = sym (no_dones text)
one_to_client (commands.Send (Server number) text) = refl
one_to_client (commands.Close Client) = refl
one_to_client (commands.Close (Server number)) = refl
one_to_client (commands.Dial server address inside) = refl
one_to_client (commands.Ask ask flow) = refl
one_to_client (commands.Done flow) = refl

one_to_server : (number : ℕ) (command : Command) → seen_of (line (Server number)) (to_servers (command ∷ [])) ≡ command_atoms (line (Server number)) command
one_to_server number (commands.Send Client text) = refl
one_to_server number (commands.Send (Server other) text) = append-nil _
one_to_server number (commands.Close Client) = refl
one_to_server number (commands.Close (Server other)) = append-nil _
one_to_server number (commands.Dial server address inside) = refl
one_to_server number (commands.Ask ask flow) = refl
one_to_server number (commands.Done flow) = refl

one_seen : (view : View) (command : Command) → seen_of view (to_servers (command ∷ [])) ≡ stays_in view (command_atoms view command)
one_seen (line Client) command = one_to_client command
one_seen (line (Server number)) command = one_to_server number command
one_seen questions (commands.Send Client text) = refl
one_seen questions (commands.Send (Server number) text) = refl
one_seen questions (commands.Close Client) = refl
one_seen questions (commands.Close (Server number)) = refl
one_seen questions (commands.Dial server address inside) = refl
one_seen questions (commands.Ask ask flow) = refl
one_seen questions (commands.Done flow) = refl
one_seen course (commands.Send Client text) = refl
one_seen course (commands.Send (Server number) text) = refl
one_seen course (commands.Close Client) = refl
one_seen course (commands.Close (Server number)) = refl
one_seen course (commands.Dial server address inside) = refl
one_seen course (commands.Ask ask flow) = refl
one_seen course (commands.Done flow) = refl
one_seen flows (commands.Send Client text) = refl
one_seen flows (commands.Send (Server number) text) = refl
one_seen flows (commands.Close Client) = refl
one_seen flows (commands.Close (Server number)) = refl
one_seen flows (commands.Dial server address inside) = refl
one_seen flows (commands.Ask ask flow) = refl
one_seen flows (commands.Done flow) = refl
one_seen order (commands.Send Client text) = sym (none_unsaid text)
one_seen order (commands.Send (Server number) text) = refl
one_seen order (commands.Close Client) = refl
one_seen order (commands.Close (Server number)) = refl
one_seen order (commands.Dial server address inside) = refl
one_seen order (commands.Ask ask flow) = refl
one_seen order (commands.Done flow) = refl

none_stay : (view : View) → stays_in view [] ≡ []
none_stay (line Client) = refl
none_stay (line (Server number)) = refl
none_stay questions = refl
none_stay course = refl
none_stay flows = refl
none_stay order = refl

seen_to_servers : (view : View) (l : List Command) → seen_of view (to_servers l) ≡ stays_in view (seen_of view l)
seen_to_servers view [] = sym (none_stay view)
seen_to_servers view (command ∷ rest) =
    ap (seen_of view) (servers_first command rest)
    ∙ (seen_append view (to_servers (command ∷ [])) (to_servers rest)
    ∙ (ap (λ l. l ++ seen_of view (to_servers rest)) (one_seen view command)
    ∙ (ap (λ l. stays_in view (command_atoms view command) ++ l) (seen_to_servers view rest)
    ∙ sym (stays_append view (command_atoms view command) (seen_of view rest)))))

-- What a view sees of what is said to servers follows from what it sees of all.
pub servers_alike : (view : View) (a b : List Command) → seen_of view a ≡ seen_of view b → seen_of view (to_servers a) ≡ seen_of view (to_servers b)
servers_alike view a b same = seen_to_servers view a ∙ (ap (stays_in view) same ∙ sym (seen_to_servers view b))

-- ---- what is asked

one_asked : (command : Command) → flat_map asks_in (to_servers (command ∷ [])) ≡ asks_in command
one_asked (commands.Send Client text) = refl
one_asked (commands.Send (Server number) text) = refl
one_asked (commands.Close Client) = refl
one_asked (commands.Close (Server number)) = refl
one_asked (commands.Dial server address inside) = refl
one_asked (commands.Ask ask flow) = refl
one_asked (commands.Done flow) = refl

-- nothing is asked of a client
pub servers_asked : (l : List Command) → flat_map asks_in (to_servers l) ≡ flat_map asks_in l
servers_asked [] = refl
servers_asked (command ∷ rest) =
    ap (flat_map asks_in) (servers_first command rest)
    ∙ (flat_map-append asks_in (to_servers (command ∷ [])) (to_servers rest)
    ∙ (ap (λ l. l ++ flat_map asks_in (to_servers rest)) (one_asked command) ∙ ap (λ l. asks_in command ++ l) (servers_asked rest)))

-- ---- one command more

pub passed_one : (out now longer passed : List Command) (command : Command) → now ≡ out ++ to_servers passed → longer ≡ now ++ to_servers (command ∷ []) →
    longer ≡ out ++ to_servers (passed ++ command ∷ [])
passed_one out now longer passed command before is =
    is ∙ (ap (λ l. l ++ to_servers (command ∷ [])) before
    ∙ (append_assoc out (to_servers passed) (to_servers (command ∷ []))
    ∙ ap (λ l. out ++ l) (sym (servers_append passed (command ∷ [])))))
