-- A chain that counts the servers that were dialled and connected sends nothing to those behind them.
use Rattle.std.proofs.Common.{◌≡◌, ℕ, ◌+◌, ◌≤◌, List, [], ◌∷◌, ◌++◌, refl, ap, sym, ◌∙◌, arith}
use Rattle.px_event.specs.declared.command.Command.{Command}
use Rattle.px_event.specs.declared.event.Event.{Event}
use Rattle.px_event.specs.declared.reply.Reply.{Reply}
use Rattle.px_event.specs.declared.side.Side.TheVariants.{Server}
use Rattle.px_event.specs.Chain.{Stamp, Stamped, Timed, Look, NotYet, Asks, Ends, Turn, Reached, Stop, Chain, worked_off, at_its_step, never, reach, reach_by, walk, walk_by, found, found_at, found_with, owed_at}
use Rattle.px_event.specs.Layer.{Move, Took, Replied}
use Rattle.px_event.specs.Stands.{due_by, events_in, replies_in}
use Rattle.px_event.specs.View.{bytes_in, line, seen_of}
use Rattle.px_event.proofs.LineLemmas.{bytes_join}
use Rattle.px_event.proofs.Seen.{seen_append}
use Rattle.px_chain.specs.Silent.{connects, connections, NoAnswer}

-- nothing of this is sent to the server
abbrev pub IsSilent : ℕ → List Command → Type 0
IsSilent server owed = bytes_in (seen_of (line (Server server)) owed) ≡ []

pub silent_both : (server : ℕ) (xs ys : List Command) → IsSilent server xs → IsSilent server ys → IsSilent server (xs ++ ys)
silent_both server xs ys a b =
    ap bytes_in (seen_append (line (Server server)) xs ys)
    ∙ (bytes_join (seen_of (line (Server server)) xs) (seen_of (line (Server server)) ys)
    ∙ (ap (λ l. l ++ bytes_in (seen_of (line (Server server)) ys)) a ∙ b))

-- nor what is found, with what is owed behind an ask
pub silent_found : (server : ℕ) (behind : List Command) (l : Look Command) → IsSilent server behind → IsSilent server (found l) → IsSilent server (found_with behind l)
silent_found server behind NotYet silent is = refl
silent_found server behind (Asks ask) silent is = silent_both server (ask ∷ []) behind is silent
silent_found server behind (Ends owed) silent is = is

-- What is owed at once goes to so many servers at most, and leads to a stage of the kind at which no more were dialled.
pub record Counts {S : Type 0} (dials : S → ℕ) (kind : S → Type 0) (most : ℕ) (turned : Turn S Command) : Type 0 where
  pub silent : (server : ℕ) → most ≤ server → IsSilent server turned.owed
  pub few : dials turned.stage ≤ most
  pub stays : kind turned.stage

-- A chain whose stages of a kind count the servers that were dialled and connected: it sends nothing to those behind them, and one more
-- is counted where a dial is answered with its connection alone.
pub record CountsServers {S : Type 0} (chain : Chain S Event Reply Command) (dials : S → ℕ) (kind : S → Type 0) : Type 0 where
  pub passes : (stage : S) (prefix : List (Timed Event)) → kind stage → Counts dials kind (dials stage) (chain.pass stage prefix)
  pub looks : (stage : S) (prefix : List (Timed Event)) → kind stage → (server : ℕ) → dials stage ≤ server → IsSilent server (found (chain.look stage prefix))
  pub waits : (stage : S) (prefix : List (Timed Event)) → kind stage → (server : ℕ) → dials stage ≤ server → IsSilent server (chain.so_far stage prefix)
  pub behind : (stage : S) (prefix : List (Timed Event)) → kind stage → (server : ℕ) → dials stage ≤ server → IsSilent server (chain.behind stage prefix)
  pub turns : (stage : S) (prefix : List (Timed Event)) (ask : Command) (answer : Timed Reply) → kind stage → chain.look stage prefix ≡ Asks ask →
      Counts dials kind (dials stage + connects answer.value) (chain.turn stage prefix answer)

-- the connections among replies
abbrev connected : List (Stamped Reply) → ℕ
connected [] = 0
connected (r ∷ rs) = connects r.value + connected rs

connected_are : (step : ℕ) (moves : List Move) → connected (replies_in step moves) ≡ connections moves
connected_are step [] = refl
connected_are step (Took moment event ∷ moves) = connected_are (step + 1) moves
connected_are step (Replied moment reply ∷ moves) = ap (λ n. connects reply + n) (connected_are (step + 1) moves)

module _ {S : Type 0} (chain : Chain S Event Reply Command) (dials : S → ℕ) (kind : S → Type 0) (counts : CountsServers chain dials kind) (server : ℕ) where
  -- nothing was sent to the server, and so many connections do not reach it
  record Here (more : ℕ) (here : Reached S Event Command) : Type 0 where
    silent : IsSilent server here.before
    is_kind : kind here.stage
    few : dials here.stage + more ≤ server

  reach_by_silent : (more : ℕ) (l : Look Command) (further here : Reached S Event Command) → Here more further → Here more here → Here more (reach_by l further here)
  reach_by_silent more NotYet further here a b = a
  reach_by_silent more (Asks ask) further here a b = b
  reach_by_silent more (Ends owed) further here a b = b

  passed : (more : ℕ) (before : List Command) (stage : S) (prefix : List (Timed Event)) (rest : List (Stamped Event)) → IsSilent server before → kind stage → dials stage + more ≤ server →
      Here more (record { before = before ++ (chain.pass stage prefix).owed; stage = (chain.pass stage prefix).stage; prefix = prefix; rest = rest })
  passed more before stage prefix rest silent is few =
      let on = counts.passes stage prefix is in
      let fewer = on.few in
      record {
        silent = silent_both server before (chain.pass stage prefix).owed silent (on.silent server (omega arith));
        is_kind = on.stays;
        few = omega arith;
      }

  reach_silent : (more : ℕ) (last : Stamp) (before : List Command) (stage : S) (prefix : List (Timed Event)) (es : List (Stamped Event)) → IsSilent server before → kind stage →
      dials stage + more ≤ server → Here more (reach chain last before stage prefix es)
  reach_silent more last before stage prefix [] silent is few = passed more before stage prefix [] silent is few
  reach_silent more last before stage prefix (e ∷ es) silent is few =
      let on : Turn S Command = chain.pass stage prefix in
      let here = passed more before stage prefix (e ∷ es) silent is few in
      reach_by_silent more (chain.look on.stage prefix) _ _
      (reach_silent more last (before ++ on.owed) on.stage (prefix ++ worked_off last e ∷ []) es here.silent here.is_kind here.few) here

  there_silent : (before : List Command) (stage : S) (prefix : List (Timed Event)) → IsSilent server before → kind stage → dials stage ≤ server →
      IsSilent server (before ++ (chain.so_far stage prefix ++ found_at chain stage prefix))
  there_silent before stage prefix silent is few =
      silent_both server before (chain.so_far stage prefix ++ found_at chain stage prefix) silent
      (silent_both server (chain.so_far stage prefix) (found_at chain stage prefix) (counts.waits stage prefix is server few)
      (silent_found server (chain.behind stage prefix) (chain.look stage prefix) (counts.behind stage prefix is server few) (counts.looks stage prefix is server few)))

  asked_silent : (ask : Command) (stage : S) (prefix : List (Timed Event)) (owed : List Command) → chain.look stage prefix ≡ Asks ask → kind stage → dials stage ≤ server →
      IsSilent server owed → IsSilent server (chain.so_far stage prefix ++ ask ∷ (chain.behind stage prefix ++ owed))
  asked_silent ask stage prefix owed asked is few silent =
      let more = chain.behind stage prefix ++ owed in
      let one : IsSilent server (ask ∷ []) = ap (λ l. bytes_in (seen_of (line (Server server)) (found l))) (sym asked) ∙ counts.looks stage prefix is server few in
      let both : IsSilent server more = silent_both server (chain.behind stage prefix) owed (counts.behind stage prefix is server few) silent in
      silent_both server (chain.so_far stage prefix) (ask ∷ more) (counts.waits stage prefix is server few) (silent_both server (ask ∷ []) more one both)

  walk_by_silent : (l : Look Command) (on : Command → Stop S Event Reply Command) (stop : Stop S Event Reply Command) →
      ((ask : Command) → l ≡ Asks ask → IsSilent server (owed_at chain (on ask))) → IsSilent server (owed_at chain stop) → IsSilent server (owed_at chain (walk_by l on stop))
  walk_by_silent NotYet on stop asked here = here
  walk_by_silent (Asks ask) on stop asked here = asked ask refl
  walk_by_silent (Ends owed) on stop asked here = here

  walk_silent : (rs : List (Stamped Reply)) (last : Stamp) (before : List Command) (stage : S) (prefix : List (Timed Event)) (es : List (Stamped Event)) → IsSilent server before → kind stage →
      dials stage + connected rs ≤ server → IsSilent server (owed_at chain (walk chain rs last before stage prefix es))
  walk_silent [] last before stage prefix es silent is few =
      let here : Reached S Event Command = reach chain last before stage prefix es in
      let there = reach_silent 0 last before stage prefix es silent is few in
      let within = there.few in
      there_silent here.before here.stage here.prefix there.silent there.is_kind (omega arith)
  walk_silent (r ∷ rs) last before stage prefix es silent is few =
      let here : Reached S Event Command = reach chain last before stage prefix es in
      let there = reach_silent (connects r.value + connected rs) last before stage prefix es silent is few in
      let within = there.few in
      let at : Turn S Command = chain.turn here.stage here.prefix (at_its_step r) in
      walk_by_silent (chain.look here.stage here.prefix) _ _
      (λ ask asked.
      let turned = counts.turns here.stage here.prefix ask (at_its_step r) there.is_kind asked in
      let fewer = turned.few in
      let more : List Command = chain.so_far here.stage here.prefix ++ ask ∷ (chain.behind here.stage here.prefix ++ at.owed) in
      walk_silent rs r.stamp (here.before ++ more) at.stage here.prefix here.rest
      (silent_both server here.before more there.silent
      (asked_silent ask here.stage here.prefix at.owed asked there.is_kind (omega arith) (turned.silent server (omega arith))))
      turned.stays (omega arith))
      (there_silent here.before here.stage here.prefix there.silent there.is_kind (omega arith))

  -- From a stage of the kind nothing is due to a server that the answers do not reach.
  pub counted_from : (start : S) (moves : List Move) → kind start → dials start + connections moves ≤ server → IsSilent server (due_by chain start moves)
  counted_from start moves is few =
      let are = connected_are 1 moves in
      walk_silent (replies_in 1 moves) never [] start [] (events_in 1 moves) refl is (omega arith)

  -- From one that has no server nothing is due to a server whose dial was not answered with its connection.
  pub counted_silent : (start : S) (moves : List Move) → kind start → dials start ≡ 0 → NoAnswer server moves → IsSilent server (due_by chain start moves)
  counted_silent start moves is first none = counted_from start moves is (omega arith)
