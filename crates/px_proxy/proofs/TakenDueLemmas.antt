-- What a wire took begins what is due: what was sent begins it, nothing is sent to a side that was not opened, and so the wire
-- took for each side what was sent to it. What is due is by the steps of conversations, beside which operators were answered.
use Rattle.std.proofs.Common.{◌≡◌, ◌∙◌, inl, inr, ℕ, ◌≤◌, false, refl, ap, sym, subst, arith, List, [], ◌∷◌, ◌++◌, length, Option, Some, None}
use Rattle.std.proofs.lemmas.List.{append-nil, append_assoc}
use Rattle.px_text.specs.Prefix.{IsPrefixOf}
use Rattle.px_message.specs.declared.address.Address.{Address}
use Rattle.px_message.specs.declared.flow.Flow.{Flow}
use Rattle.px_event.specs.declared.ask.Hook.{Hook}
use Rattle.px_event.specs.declared.reply.Reply.{Reply}
use Rattle.px_event.specs.declared.reply.Reply.TheVariants as replies
use Rattle.px_event.specs.declared.side.Side.{Side}
use Rattle.px_event.specs.declared.side.Side.TheVariants.{Client, Server}
use Rattle.px_event.specs.declared.step.Step.TheVariants as steps
use Rattle.px_event.specs.Layer.{Move}
use Rattle.px_event.specs.Trace.{Trace, Always, sent}
use Rattle.px_event.specs.View.{Atom, bytes_in, line, seen_of, seen_in}
use Rattle.px_event.proofs.Growth.{prefix_trans}
use Rattle.px_event.proofs.LineLemmas.{bytes_begin}
use Rattle.px_core.specs.Calls.{Calls as CallsOf, calls}
use Rattle.px_core.specs.Due.{Due, due_at, due_by, due_in, IsWithinDue, EndsMet}
use Rattle.px_core.specs.Answers.{Answering, FilesMeaning}
use Rattle.px_core.specs.Drafts.{ComesTo, edited_by}
use Rattle.px_core.specs.Unmarked.{all_unmarked}
use Rattle.px_core.specs.declared.answerer.Answer.{Answer}
use Rattle.px_core.specs.declared.answerer.Answer.TheVariants as answer
use Rattle.px_core.proofs.UnmarkedLemmas.{bytes_unmarked}
use Rattle.px_app.specs.Servers.{dialled_in, CountsServers}
use Rattle.px_chain.specs.Silent.{connects, connections, NoAnswer}
use Rattle.px_proxy.specs.TakenDue.{TakesWhatIsDue, AlwaysTakesWhatIsDue, is_operators}
use Rattle.px_proxy.proofs.SentLemmas.{seen_is_sent}
use Rattle.px_proxy.proofs.DialLemmas.{dials_once, not_dialled}
use Rattle.px_proxy.proofs.ChainLemmas.{no_verdict_connects}
use Rattle.px_proxy.proofs.BesideLemmas.{Beside, always_beside, beside_calls, beside_counts, beside_front, beside_sends, beside_sent}
use Rattle.px_proxy.proofs.CallLemmas.{HasNoClient, NoDialAnswered, connections_most, no_client}
use Rattle.px_wire.specs.Calls.{Calls, steps_of}
use Rattle.px_wire.specs.Rules.{Obeys}
use Rattle.px_wire.specs.Taken.{taken_for, is_opened, SendsToOpened}
use Rattle.px_wire.proofs.TakenLemmas.{steps_joined, front_obeys, taken_is_sent}

-- no byte is due to a server before so many calls connect
abbrev pub IsSilent : Due → Type 0
IsSilent due = (conv : ℕ) (peer : Option Address) (server : ℕ) (moves : List Move) → NoAnswer server moves → bytes_in (seen_of (line (Server server)) (due conv peer moves)) ≡ []

-- nor any to a client where there is none
abbrev pub IsUnsaid : Due → Type 0
IsUnsaid due = (conv : ℕ) (moves : List Move) → bytes_in (seen_of (line Client) (due conv None moves)) ≡ []

-- ---- prefixes

pub front_always : (P : Trace → Type 0) (prefix rest : Trace) → Always P (prefix ++ rest) → Always P prefix
front_always P prefix rest all = record { at = λ first more is. all.at first (more ++ rest) (ap (λ (t : Trace). t ++ rest) is ∙ append_assoc first more rest) }

pub always_all : (P : Trace → Type 0) (trace : Trace) → Always P trace → P trace
always_all P trace all = all.at trace [] (sym (append-nil trace))

-- no hook is answered as a dial is
abbrev pub ConnectsNone : {S : Type 0} → Answering S → Type 0
ConnectsNone {S} answers = (hook : Hook) (flow : Flow) (old : S) (old_files : FilesMeaning) (new : S) (new_files : FilesMeaning) (reply : Reply) →
    answers hook flow old old_files new new_files (answer.Reply reply) → connects reply ≡ 0

killed_connects : (reply : Reply) → reply ≡ replies.Kill → connects reply ≡ 0
killed_connects reply is = ap connects is

no_dial_answered : {S : Type 0} (answers : Answering S) → ConnectsNone answers → (due : Due) (trace : Trace) → Always (EndsMet answers due) trace → NoDialAnswered trace
no_dial_answered answers none due trace met prefix rest conv ask reply is =
    let step = steps.Answered conv ask reply in
    let m = met.at (prefix ++ step ∷ []) rest (is ∙ sym (append_assoc prefix (step ∷ []) rest)) prefix conv ask reply refl in
    by m.hook m.given m.comes (λ said is_said. none m.hook m.flow m.old m.old_files m.new m.new_files said (subst (answers m.hook m.flow m.old m.old_files m.new m.new_files) is_said m.answers_so))
  where
    by : (hook : Hook) (given : Answer) → ComesTo hook given reply → ((said : Reply) → given ≡ answer.Reply said → connects said ≡ 0) → connects reply ≡ 0
    by hook (answer.Reply said) comes here = ap connects (sym comes) ∙ here said refl
    by hook (answer.Wait draft) (inl (changes, comes)) here = ap connects comes ∙ no_verdict_connects draft.verdict (edited_by hook changes draft).flow draft.stream
    by hook (answer.Wait draft) (inr killed) here = killed_connects reply killed

-- marks are in no bytes
bytes_within : (a b : List Atom) → IsPrefixOf (all_unmarked a) (all_unmarked b) → IsPrefixOf (bytes_in a) (bytes_in b)
bytes_within a b within =
    let P : List ℕ → Type 0 = λ l. IsPrefixOf l (bytes_in b) in
    let Q : List ℕ → Type 0 = λ l. IsPrefixOf (bytes_in (all_unmarked a)) l in
    subst P (bytes_unmarked a) (subst Q (bytes_unmarked b) (bytes_begin (all_unmarked a) (all_unmarked b) within))

-- ---- nothing is sent to a side that was not opened

prefix_none : {A : Type 0} (xs ys : List A) → IsPrefixOf xs ys → ys ≡ [] → xs ≡ []
prefix_none [] ys before none = refl
prefix_none (x ∷ xs) ys before none = let e = sym none ∙ before.1 in absurd (cc)

module _ {S : Type 0} (answers : Answering S) (none_connects : ConnectsNone answers) (due : Due) (silent : IsSilent due) (unsaid : IsUnsaid due) where
  silent_at : (conv server : ℕ) (peer : Option (Option Address)) (moves : List Move) → NoAnswer server moves → bytes_in (seen_of (line (Server server)) (due_at due conv peer moves)) ≡ []
  silent_at conv server None moves none = refl
  silent_at conv server (Some peer) moves none = silent conv peer server moves none

  unsaid_at : (conv : ℕ) (peer : Option (Option Address)) (moves : List Move) → HasNoClient peer → bytes_in (seen_of (line Client) (due_at due conv peer moves)) ≡ []
  unsaid_at conv None moves none = refl
  unsaid_at conv (Some None) moves none = unsaid conv moves
  unsaid_at conv (Some (Some peer)) moves none = absurd none

  nothing_due : (trace : Trace) → CountsServers trace → NoDialAnswered trace → (conv : ℕ) (side : Side) → is_opened conv side trace ≡ false → bytes_in (due_in due (line side) conv trace) ≡ []
  nothing_due trace counts answered conv Client never = unsaid_at conv (calls conv trace).peer (calls conv trace).moves (no_client conv trace never)
  nothing_due trace counts answered conv (Server server) never =
      let few : connections (calls conv trace).moves ≤ length (dialled_in trace conv) = connections_most conv trace answered in
      let most : length (dialled_in trace conv) ≤ server = not_dialled trace conv server counts never in
      silent_at conv server (calls conv trace).peer (calls conv trace).moves (omega arith)

  pub sends_to_opened : (trace : Trace) → CountsServers trace → NoDialAnswered trace → IsWithinDue due trace → SendsToOpened trace
  sends_to_opened trace counts answered within conv side never =
      let told = bytes_within (seen_in (line side) conv trace) (due_in due (line side) conv trace) (within conv (line side) tt) in
      sym (seen_is_sent side conv trace)
      ∙ prefix_none (bytes_in (seen_in (line side) conv trace)) (bytes_in (due_in due (line side) conv trace)) told (nothing_due trace counts answered conv side never)

  always_sends : (trace : Trace) → Always CountsServers trace → Always (EndsMet answers due) trace → Always (IsWithinDue due) trace → Always SendsToOpened trace
  always_sends trace counts going within = record {
    at = λ prefix rest is.
        (let Q : Trace → Type 0 = Always (EndsMet answers due) in
        sends_to_opened prefix (counts.at prefix rest is) (no_dial_answered answers none_connects due prefix (front_always (EndsMet answers due) prefix rest (subst Q is going))) (within.at prefix rest is));
  }

  -- ---- what was taken

  -- what is due by the steps that are told is what is due by those of conversations
  due_beside : (told trace : Trace) → Beside [] told trace → (conv : ℕ) (side : Side) → bytes_in (due_in due (line side) conv told) ≡ bytes_in (due_in due (line side) conv trace)
  due_beside told trace b conv side = ap (λ (c : CallsOf). bytes_in (seen_of (line side) (due_by due conv c))) (beside_calls conv [] told trace b)

  -- what was sent to a number that is no operator's begins what is due
  sent_due : (told trace : Trace) → Beside [] told trace → IsWithinDue due trace → (conv : ℕ) (side : Side) → is_operators conv told ≡ false →
      IsPrefixOf (sent told conv side) (bytes_in (due_in due (line side) conv told))
  sent_due told trace b within conv side never =
      let seen : bytes_in (seen_in (line side) conv trace) ≡ sent told conv side = seen_is_sent side conv trace ∙ sym (beside_sent conv side told trace never b) in
      let P : List ℕ → Type 0 = λ l. IsPrefixOf l (bytes_in (due_in due (line side) conv told)) in
      let Q : List ℕ → Type 0 = λ l. IsPrefixOf (bytes_in (seen_in (line side) conv trace)) l in
      subst P seen (subst Q (sym (due_beside told trace b conv side)) (bytes_within (seen_in (line side) conv trace) (due_in due (line side) conv trace) (within conv (line side) tt)))

  taken_due : (list : Calls) (trace : Trace) → Obeys list → Beside [] (steps_of list) trace → Always CountsServers trace → Always (EndsMet answers due) trace → Always (IsWithinDue due) trace →
      TakesWhatIsDue due list
  taken_due list trace obeys b counts going within =
      let counted = always_beside CountsServers CountsServers beside_counts (steps_of list) trace b counts in
      let opened = always_beside SendsToOpened SendsToOpened beside_sends (steps_of list) trace b (always_sends trace counts going within) in
      let taken = taken_is_sent list obeys opened (dials_once (steps_of list) counted) in
      record {
        as_sent = taken;
        as_due = λ conv side never. prefix_trans (taken_for conv side list) (sent (steps_of list) conv side) (bytes_in (due_in due (line side) conv (steps_of list))) (taken conv side)
            (sent_due (steps_of list) trace b (always_all (IsWithinDue due) trace within) conv side never);
      }

  -- so the wire took for each side, after each call
  pub always_taken : (list : Calls) (trace : Trace) → Obeys list → Beside [] (steps_of list) trace → Always CountsServers trace → Always (EndsMet answers due) trace → Always (IsWithinDue due) trace →
      AlwaysTakesWhatIsDue due list
  always_taken list trace obeys b counts going within prefix rest is =
      let joined : steps_of list ≡ steps_of prefix ++ steps_of rest = ap steps_of is ∙ steps_joined prefix rest in
      let O : Calls → Type 0 = Obeys in
      let B : Trace → Type 0 = λ t. Beside [] t trace in
      let f = beside_front [] (steps_of prefix) (steps_of rest) trace (subst B joined b) in
      let C : Trace → Type 0 = Always CountsServers in
      let G : Trace → Type 0 = Always (EndsMet answers due) in
      let W : Trace → Type 0 = Always (IsWithinDue due) in
      taken_due prefix f.front (front_obeys prefix rest (subst O is obeys)) f.beside
      (front_always CountsServers f.front f.later (subst C f.is counts))
      (front_always (EndsMet answers due) f.front f.later (subst G f.is going))
      (front_always (IsWithinDue due) f.front f.later (subst W f.is within))
