-- The chain of a raw tunnel: one event more, and its laws.
use Rattle.std.proofs.Common.{◌≡◌, ℕ, ◌+◌, ◌==◌, Bool, true, false, if◌then◌else◌, List, [], ◌∷◌, ◌++◌, length, map, Option, Some, None, refl, ap, sym, ◌∙◌, append_assoc}
use Rattle.std.proofs.lemmas.List.{append-nil, map-append}
use Rattle.px_text.specs.Prefix.{IsPrefixOf}
use Rattle.px_event.specs.declared.side.Side.{Side}
use Rattle.px_event.specs.declared.side.Side.TheVariants.{Client, Server}
use Rattle.px_event.specs.declared.event.Event.{Event}
use Rattle.px_event.specs.declared.event.Event.TheVariants as events
use Rattle.px_event.specs.declared.event.Rests.{Rests}
use Rattle.px_event.specs.declared.command.Command.{Command}
use Rattle.px_event.specs.Chain.{Timed, NotYet, Asks, Ends}
use Rattle.px_event.specs.Laws.{IsSettled, Settles, SoFarGrows, owed_here, owed_over}
use Rattle.px_event.specs.Layer.{Move}
use Rattle.px_event.specs.Stands.{AwaitsWhatItAsks, EndsWhereItEnds, stop_of}
use Rattle.px_event.specs.View.{View, Atom, byte, line, questions, course, flows, order, seen_of}
use Rattle.px_event.proofs.Seen.{seen_append}
use Rattle.px_tunnel.specs.declared.tunnel.RawTunnel.{RawTunnel}
use Rattle.px_tunnel.specs.Tunnel.{no_rests, is_begun, has_begun, left_behind, brought, text_of, left_alone, first_of, alone, both_ways, sent_over, Stage, going, over, pass_by, pass, look, tunnel_chain}
use Rattle.px_tunnel.specs.Stands.{awaits_nothing, has_ended, kept_in, closing, left_over, IsAt, TunnelStands}

-- ---- one event more

pub text_append : (side : Side) (rests : Rests) (prefix : List (Timed Event)) (e : Timed Event) →
    text_of side rests (prefix ++ e ∷ []) ≡ text_of side rests prefix ++ brought side (left_over rests prefix) e.value
text_append side rests [] e = append-nil (brought side rests e.value)
text_append side rests (f ∷ prefix) e =
    ap (λ l. brought side rests f.value ++ l) (text_append side (left_behind rests f.value) prefix e)
    ∙ sym (append_assoc (brought side rests f.value) _ _)

pub left_append : (rests : Rests) (prefix : List (Timed Event)) (e : Timed Event) → left_over rests (prefix ++ e ∷ []) ≡ left_behind (left_over rests prefix) e.value
left_append rests [] e = refl
left_append rests (f ∷ prefix) e = left_append (left_behind rests f.value) prefix e

later_by : (first later longer last : Option Side) → first_of first later ≡ None → (later ≡ None → longer ≡ last) → first_of first longer ≡ last
later_by (Some side) later longer last is on = absurd (let no : Some side ≡ None = is in cc)
later_by None later longer last is on = on is

pub alone_append : (server : ℕ) (prefix : List (Timed Event)) (e : Timed Event) → alone server prefix ≡ None → alone server (prefix ++ e ∷ []) ≡ left_alone server e.value
alone_append server [] e is = first_none (left_alone server e.value)
  where
    first_none : (side : Option Side) → first_of side None ≡ side
    first_none (Some side) = refl
    first_none None = refl
alone_append server (f ∷ prefix) e is =
    later_by (left_alone server f.value) (alone server prefix) (alone server (prefix ++ e ∷ [])) (left_alone server e.value) is (λ none. alone_append server prefix e none)

none_left : (event : Event) → left_behind no_rests event ≡ no_rests
none_left events.Begun = refl
none_left (events.Piece side bytes) = refl
none_left (events.Closed side) = refl
none_left (events.Answered ask reply) = refl

still_none : (prefix : List (Timed Event)) → left_over no_rests prefix ≡ no_rests
still_none [] = refl
still_none (f ∷ prefix) = ap (λ r. left_over r prefix) (none_left f.value) ∙ still_none prefix

-- once it has begun nothing is left
pub begun_left : (rests : Rests) (prefix : List (Timed Event)) → has_begun prefix ≡ true → left_over rests prefix ≡ no_rests
begun_left rests [] is = absurd (let no : false ≡ true = is in cc)
begun_left rests (f ∷ prefix) is = by f.value is (λ on. begun_left rests prefix on)
  where
    by : (event : Event) → (if is_begun event then true else has_begun prefix) ≡ true → (has_begun prefix ≡ true → left_over rests prefix ≡ no_rests) →
        left_over (left_behind rests event) prefix ≡ no_rests
    by events.Begun is on = still_none prefix
    by (events.Piece side bytes) is on = on is
    by (events.Closed side) is on = on is
    by (events.Answered ask reply) is on = on is

-- ---- what a view has of bytes both ways

line_append : (xs ys : List ℕ) → map byte (xs ++ ys) ++ [] ≡ (map byte xs ++ []) ++ (map byte ys ++ [])
line_append xs ys = rw (append-nil (map byte (xs ++ ys)), append-nil (map byte xs), append-nil (map byte ys)) (map-append byte xs ys)

server_append : (same : Bool) (xs ys : List ℕ) →
    (if same then map byte (xs ++ ys) else []) ++ [] ≡ ((if same then map byte xs else []) ++ []) ++ ((if same then map byte ys else []) ++ [])
server_append true xs ys = line_append xs ys
server_append false xs ys = refl

pub both_append : (view : View) (server : ℕ) (up more_up down more_down : List ℕ) →
    seen_of view (both_ways server (up ++ more_up) (down ++ more_down)) ≡ seen_of view (both_ways server up down) ++ seen_of view (both_ways server more_up more_down)
both_append (line Client) server up more_up down more_down = line_append down more_down
both_append (line (Server number)) server up more_up down more_down = server_append (server == number) up more_up
both_append questions server up more_up down more_down = refl
both_append course server up more_up down more_down = refl
both_append flows server up more_up down more_down = refl
both_append order server up more_up down more_down = line_append down more_down

nothing_by : (same : Bool) → (if same then map byte [] else []) ++ [] ≡ []
nothing_by true = refl
nothing_by false = refl

pub both_nothing : (view : View) (server : ℕ) → seen_of view (both_ways server [] []) ≡ []
both_nothing (line Client) server = refl
both_nothing (line (Server number)) server = nothing_by (server == number)
both_nothing questions server = refl
both_nothing course server = refl
both_nothing flows server = refl
both_nothing order server = refl

-- what is owed over one event more, where no side had closed: what was owed, what the event brings both ways, and the close
owed_by : (server : ℕ) (rests : Rests) (prefix : List (Timed Event)) (side : Option Side) →
    (pass_by side (sent_over server rests prefix)).owed ++ owed_here (tunnel_chain server rests) (pass_by side (sent_over server rests prefix)).stage prefix
    ≡ sent_over server rests prefix ++ closing side
owed_by server rests prefix None = refl
owed_by server rests prefix (Some side) = append-nil _

pub owed_more : (view : View) (server : ℕ) (rests : Rests) (prefix : List (Timed Event)) (e : Timed Event) →
    seen_of view (owed_over (tunnel_chain server rests) going (prefix ++ e ∷ []))
    ≡ seen_of view (sent_over server rests prefix)
    ++ (seen_of view (both_ways server (brought Client (left_over rests prefix) e.value) (brought (Server server) (left_over rests prefix) e.value))
    ++ seen_of view (closing (alone server (prefix ++ e ∷ []))))
owed_more view server rests prefix e =
    let longer : List (Timed Event) = prefix ++ e ∷ [] in
    let close : List Command = closing (alone server longer) in
    let up : List ℕ = brought Client (left_over rests prefix) e.value in
    let down : List ℕ = brought (Server server) (left_over rests prefix) e.value in
    let more : List Atom = seen_of view (both_ways server up down) in
    let texts : sent_over server rests longer ≡ both_ways server (text_of Client rests prefix ++ up) (text_of (Server server) rests prefix ++ down) =
    ap (λ l. both_ways server l (text_of (Server server) rests longer)) (text_append Client rests prefix e)
    ∙ ap (λ l. both_ways server (text_of Client rests prefix ++ up) l) (text_append (Server server) rests prefix e) in
    ap (seen_of view) (owed_by server rests longer (alone server longer))
    ∙ (seen_append view (sent_over server rests longer) close
    ∙ (ap (λ l. l ++ seen_of view close) (ap (seen_of view) texts ∙ both_append view server (text_of Client rests prefix) up (text_of (Server server) rests prefix) down)
    ∙ append_assoc (seen_of view (sent_over server rests prefix)) more (seen_of view close)))

-- ---- the laws

settled_by : (server : ℕ) (rests : Rests) (prefix : List (Timed Event)) (side : Option Side) → alone server prefix ≡ side →
    IsSettled (tunnel_chain server rests) (pass_by side (sent_over server rests prefix)).stage prefix
settled_by server rests prefix None is = record { stays = rw is refl; owes_nothing = rw is refl }
settled_by server rests prefix (Some side) is = record { stays = refl; owes_nothing = refl }

settled_at : (server : ℕ) (rests : Rests) (stage : Stage) (prefix : List (Timed Event)) → IsSettled (tunnel_chain server rests) (pass server rests stage prefix).stage prefix
settled_at server rests going prefix = settled_by server rests prefix (alone server prefix) refl
settled_at server rests over prefix = record { stays = refl; owes_nothing = refl }

pub settles : (server : ℕ) (rests : Rests) → Settles (tunnel_chain server rests)
settles server rests = record { at = settled_at server rests }

grows_at : (server : ℕ) (rests : Rests) (view : View) (stage : Stage) (prefix : List (Timed Event)) (event : Timed Event) → look stage prefix ≡ NotYet →
    IsPrefixOf (seen_of view ((tunnel_chain server rests).so_far stage prefix)) (seen_of view (owed_over (tunnel_chain server rests) stage (prefix ++ event ∷ [])))
grows_at server rests view going prefix event is = (_, owed_more view server rests prefix event)
grows_at server rests view over prefix event is = (_, refl)

pub so_far_grows : (server : ℕ) (rests : Rests) (view : View) → SoFarGrows (tunnel_chain server rests) (seen_of view)
so_far_grows server rests view = record { grows = grows_at server rests view }

-- it asks nothing, and awaits nothing
asks_nothing : (stage : Stage) (prefix : List (Timed Event)) (ask : Command) → look stage prefix ≡ Asks ask → ⊥
asks_nothing going prefix ask asks = let no : NotYet ≡ Asks ask = asks in cc
asks_nothing over prefix ask asks = let no : Ends [] ≡ Asks ask = asks in cc

pub awaits_what_it_asks : (server : ℕ) (rests : Rests) → AwaitsWhatItAsks (tunnel_chain server rests) (IsAt server rests) awaits_nothing
awaits_what_it_asks server rests = record {
  free = λ state stage prefix ask at free asks. asks_nothing stage prefix ask asks;
  asks = λ state stage prefix ask at is. absurd (let no : None ≡ Some ask = is in cc);
}

-- it has ended exactly where the stage ends
ends_at : (server : ℕ) (rests : Rests) (state : RawTunnel) (stage : Stage) (prefix : List (Timed Event)) → IsAt server rests state stage prefix → state.closed ≡ true →
    (owed : List Command) × (look stage prefix ≡ Ends owed)
ends_at server rests state going prefix at is = absurd (let no : false ≡ true = sym at.goes_on ∙ is in cc)
ends_at server rests state over prefix at is = ([], refl)

there_at : (server : ℕ) (rests : Rests) (state : RawTunnel) (stage : Stage) (prefix : List (Timed Event)) (owed : List Command) → IsAt server rests state stage prefix →
    look stage prefix ≡ Ends owed → state.closed ≡ true
there_at server rests state going prefix owed at is = absurd (let no : NotYet ≡ Ends owed = is in cc)
there_at server rests state over prefix owed at is = at.ended

pub ends_where_it_ends : (server : ℕ) (rests : Rests) → EndsWhereItEnds (tunnel_chain server rests) (IsAt server rests) has_ended
ends_where_it_ends server rests = record { ends = ends_at server rests; there = there_at server rests }

-- it keeps what is left
kept_at : (server : ℕ) (rests : Rests) (state : RawTunnel) (stage : Stage) (prefix : List (Timed Event)) → IsAt server rests state stage prefix → state.rests ≡ left_over rests prefix
kept_at server rests state going prefix at = at.keeps
kept_at server rests state over prefix at = at.keeps

pub keeps_none : (made state : RawTunnel) (moves : List Move) (given : List Command) → TunnelStands made state moves given →
    has_begun (stop_of (tunnel_chain made.server made.rests) going moves).prefix ≡ true → kept_in state ≡ 0
keeps_none made state moves given stands begun =
    let stop = stop_of (tunnel_chain made.server made.rests) going moves in
    let none : state.rests ≡ no_rests = kept_at made.server made.rests state stop.stage stop.prefix stands.place ∙ begun_left made.rests stop.prefix begun in
    ap (λ r. length r.client + length r.server) none
