-- Walks of a chain of which something is kept, with the events that are to come; and the events behind the one at which a server was connected.
use Rattle.std.proofs.Common.{◌≡◌, ℕ, Bool, true, false, List, [], ◌∷◌, ◌++◌, length, drop, refl, ap, sym, ◌∙◌, subst, append_assoc}
use Rattle.std.specs.Prelude.{◌||◌, if◌then◌else◌}
use Rattle.px_event.specs.declared.command.Command.{Command}
use Rattle.px_event.specs.declared.event.Event.{Event}
use Rattle.px_event.specs.declared.reply.Reply.{Reply}
use Rattle.px_event.specs.declared.side.Side.TheVariants.{Client, Server}
use Rattle.px_event.specs.Chain.{Stamp, Stamped, Timed, Look, NotYet, Asks, Ends, Turn, Reached, Stop, Chain, worked_off, at_its_step, reach, reach_by, walk, walk_by, found_at, owed_at}
use Rattle.px_event.specs.Sides.{closes, piece_of}
use Rattle.px_text.specs.Prefix.{IsPrefixOf}
use Rattle.px_chain.specs.Streams.{bytes_of}
use Rattle.px_turns.specs.Turns.{bytes_among}

-- ---- the events behind the one at which a server was connected

-- those that were worked off since, and those that were not, are these
abbrev pub Splits : List (Timed Event) → List (Stamped Event) → List (Stamped Event) → Type 0
Splits [] es all = es ≡ all
Splits (t ∷ ts) es [] = ⊥
Splits (t ∷ ts) es (a ∷ all) = (t.value ≡ a.value) × Splits ts es all

splits_one : (last : Stamp) (e : Stamped Event) (es all : List (Stamped Event)) → e ∷ es ≡ all → Splits (worked_off last e ∷ []) es all
splits_one last e es [] is = absurd (let no : e ∷ es ≡ [] = is in cc)
splits_one last e es (a ∷ all) is =
    let both : e ∷ es ≡ a ∷ all = is in
    let first : e ≡ a = cc in
    let rest : es ≡ all = cc in
    (ap (λ x. x.value) first, rest)

pub splits_more : (last : Stamp) (e : Stamped Event) (ts : List (Timed Event)) (es all : List (Stamped Event)) → Splits ts (e ∷ es) all → Splits (ts ++ worked_off last e ∷ []) es all
splits_more last e [] es all is = splits_one last e es all is
splits_more last e (t ∷ ts) es [] is = absurd is
splits_more last e (t ∷ ts) es (a ∷ all) is = (is.0, splits_more last e ts es all is.1)

cut_same : (cut : Bool) (piece xs ys : List ℕ) → IsPrefixOf xs ys → IsPrefixOf (if cut then [] else (piece ++ xs)) (if cut then [] else (piece ++ ys))
cut_same true piece xs ys is = ([], refl)
cut_same false piece xs ys (more, is) = (more, ap (λ l. piece ++ l) is ∙ sym (append_assoc piece xs more))

pub split_bytes : (server : ℕ) (ts : List (Timed Event)) (es all : List (Stamped Event)) → Splits ts es all → IsPrefixOf (bytes_of (Server server) ts) (bytes_among server all)
split_bytes server [] es all is = (bytes_among server all, refl)
split_bytes server (t ∷ ts) es [] is = absurd is
split_bytes server (t ∷ ts) es (a ∷ all) is =
    let P : Event → Type 0 = λ v. IsPrefixOf (bytes_of (Server server) (t ∷ ts))
    (if closes Client v || closes (Server server) v then [] else (piece_of (Server server) v ++ bytes_among server all)) in
    subst P is.0
    (cut_same (closes Client t.value || closes (Server server) t.value) (piece_of (Server server) t.value) (bytes_of (Server server) ts) (bytes_among server all) (split_bytes server ts es all is.1))

-- with one event more the same bytes come first
pub bytes_on : (server : ℕ) (ts : List (Timed Event)) (e : Timed Event) → IsPrefixOf (bytes_of (Server server) ts) (bytes_of (Server server) (ts ++ e ∷ []))
bytes_on server [] e = (bytes_of (Server server) (e ∷ []), refl)
bytes_on server (t ∷ ts) e =
    cut_same (closes Client t.value || closes (Server server) t.value) (piece_of (Server server) t.value) (bytes_of (Server server) ts) (bytes_of (Server server) (ts ++ e ∷ [])) (bytes_on server ts e)

pub drop_all : {A : Type 0} (xs : List A) → drop (length xs) xs ≡ []
drop_all [] = refl
drop_all (x ∷ xs) = drop_all xs

-- ---- a chain of which something is kept, with the events that are to come

pub record KeepsAll {S : Type 0} (chain : Chain S Event Reply Command) (holds : S → List (Timed Event) → List (Stamped Event) → List Command → Type 0) (all : List Command → Type 0) : Type 0 where
  pub passes : (stage : S) (prefix : List (Timed Event)) (es : List (Stamped Event)) (before : List Command) → holds stage prefix es before →
      holds (chain.pass stage prefix).stage prefix es (before ++ (chain.pass stage prefix).owed)
  pub hears : (last : Stamp) (stage : S) (prefix : List (Timed Event)) (e : Stamped Event) (es : List (Stamped Event)) (before : List Command) → holds stage prefix (e ∷ es) before →
      holds stage (prefix ++ worked_off last e ∷ []) es before
  pub turns : (stage : S) (prefix : List (Timed Event)) (es : List (Stamped Event)) (before : List Command) (ask : Command) (answer : Timed Reply) → chain.look stage prefix ≡ Asks ask → holds stage prefix es before →
      holds (chain.turn stage prefix answer).stage prefix es (before ++ (chain.so_far stage prefix ++ ask ∷ (chain.behind stage prefix ++ (chain.turn stage prefix answer).owed)))
  pub stops : (stage : S) (prefix : List (Timed Event)) (es : List (Stamped Event)) (before : List Command) → holds stage prefix es before → all (before ++ (chain.so_far stage prefix ++ found_at chain stage prefix))

module _ {S : Type 0} (chain : Chain S Event Reply Command) (holds : S → List (Timed Event) → List (Stamped Event) → List Command → Type 0) where
  abbrev pub Here : Reached S Event Command → Type 0
  Here here = holds here.stage here.prefix here.rest here.before

  reach_by_kept : (l : Look Command) (further here : Reached S Event Command) → Here further → Here here → Here (reach_by l further here)
  reach_by_kept NotYet further here a b = a
  reach_by_kept (Asks ask) further here a b = b
  reach_by_kept (Ends owed) further here a b = b

  pub reach_kept : (passes : (stage : S) (prefix : List (Timed Event)) (es : List (Stamped Event)) (before : List Command) → holds stage prefix es before →
      holds (chain.pass stage prefix).stage prefix es (before ++ (chain.pass stage prefix).owed))
      (hears : (last : Stamp) (stage : S) (prefix : List (Timed Event)) (e : Stamped Event) (es : List (Stamped Event)) (before : List Command) → holds stage prefix (e ∷ es) before →
      holds stage (prefix ++ worked_off last e ∷ []) es before)
      (last : Stamp) (before : List Command) (stage : S) (prefix : List (Timed Event)) (es : List (Stamped Event)) → holds stage prefix es before → Here (reach chain last before stage prefix es)
  reach_kept passes hears last before stage prefix [] is = passes stage prefix [] before is
  reach_kept passes hears last before stage prefix (e ∷ es) is =
      let on : Turn S Command = chain.pass stage prefix in
      let here = passes stage prefix (e ∷ es) before is in
      reach_by_kept (chain.look on.stage prefix) _ _
      (reach_kept passes hears last (before ++ on.owed) on.stage (prefix ++ worked_off last e ∷ []) es (hears last on.stage prefix e es (before ++ on.owed) here)) here

  module _ (all : List Command → Type 0) (keeps : KeepsAll chain holds all) where
    walk_by_kept : (l : Look Command) (on : Command → Stop S Event Reply Command) (stop : Stop S Event Reply Command) →
        ((ask : Command) → l ≡ Asks ask → all (owed_at chain (on ask))) → all (owed_at chain stop) → all (owed_at chain (walk_by l on stop))
    walk_by_kept NotYet on stop asked here = here
    walk_by_kept (Asks ask) on stop asked here = asked ask refl
    walk_by_kept (Ends owed) on stop asked here = here

    pub walk_kept : (rs : List (Stamped Reply)) (last : Stamp) (before : List Command) (stage : S) (prefix : List (Timed Event)) (es : List (Stamped Event)) → holds stage prefix es before →
        all (owed_at chain (walk chain rs last before stage prefix es))
    walk_kept [] last before stage prefix es is =
        let here : Reached S Event Command = reach chain last before stage prefix es in
        keeps.stops here.stage here.prefix here.rest here.before (reach_kept keeps.passes keeps.hears last before stage prefix es is)
    walk_kept (r ∷ rs) last before stage prefix es is =
        let here : Reached S Event Command = reach chain last before stage prefix es in
        let there = reach_kept keeps.passes keeps.hears last before stage prefix es is in
        let at : Turn S Command = chain.turn here.stage here.prefix (at_its_step r) in
        walk_by_kept (chain.look here.stage here.prefix) _ _
        (λ ask asked.
        walk_kept rs r.stamp (here.before ++ (chain.so_far here.stage here.prefix ++ ask ∷ (chain.behind here.stage here.prefix ++ at.owed))) at.stage here.prefix here.rest
        (keeps.turns here.stage here.prefix here.rest here.before ask (at_its_step r) asked there))
        (keeps.stops here.stage here.prefix here.rest here.before there)

-- what was owed before says nothing of where a walk stops
same_reach_by : {S : Type 0} (l : Look Command) (further here other there : Reached S Event Command) → further ≡ record other { before = further.before } → here ≡ record there { before = here.before } →
    reach_by l further here ≡ record (reach_by l other there) { before = (reach_by l further here).before }
same_reach_by NotYet further here other there a b = a
same_reach_by (Asks ask) further here other there a b = b
same_reach_by (Ends owed) further here other there a b = b

pub same_reach : {S : Type 0} (chain : Chain S Event Reply Command) (last : Stamp) (before other : List Command) (stage : S) (prefix : List (Timed Event)) (es : List (Stamped Event)) →
    reach chain last before stage prefix es ≡ record (reach chain last other stage prefix es) { before = (reach chain last before stage prefix es).before }
same_reach chain last before other stage prefix [] = refl
same_reach {S} chain last before other stage prefix (e ∷ es) =
    let on : Turn S Command = chain.pass stage prefix in
    same_reach_by (chain.look on.stage prefix) _ _ _ _
    (same_reach chain last (before ++ on.owed) (other ++ on.owed) on.stage (prefix ++ worked_off last e ∷ []) es) refl
