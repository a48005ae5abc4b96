-- The same events and replies in other steps, and in other pieces, owe the same but for the moments inside flows.
use Rattle.std.proofs.Common.{◌≡◌, ℕ, Bool, true, false, List, [], ◌∷◌, ◌++◌, map, refl, ap, sym, ◌∙◌, subst, append_assoc}
use Rattle.std.specs.Prelude.{if◌then◌else◌}
use Rattle.std.specs.List.{flat_map}
use Rattle.std.proofs.lemmas.Bool.{eqb-true}
use Rattle.std.proofs.lemmas.List.{map-append}
use Rattle.px_event.specs.declared.command.Command.{Command}
use Rattle.px_event.specs.declared.event.Event.{Event}
use Rattle.px_event.specs.declared.event.Event.TheVariants as events
use Rattle.px_event.specs.declared.reply.Reply.{Reply}
use Rattle.px_event.specs.declared.side.Side.{Side}
use Rattle.px_event.specs.declared.side.Side.TheVariants.{Client, Server}
use Rattle.px_event.specs.Alike.{FoundAlike}
use Rattle.px_event.specs.Chain.{Asks, at_its_step, Chain, due, Ends, found_with, Look, never, NotYet, owed_at, reach, reach_by, Reached, Stamp, Stamped, Stop, Timed, walk, walk_by, walk_from, worked_off}
use Rattle.px_event.specs.Trace.{is_same_side}
use Rattle.px_exchange.specs.declared.terms.Terms.{Terms}
use Rattle.px_cuts.specs.Alike.{is_like, PlacesAlike}
use Rattle.px_cuts.proofs.AlikeLaws.{more_alike, owes_alike, pass_alike, turn_alike, owed_alike}
use Rattle.px_chain.specs.Chain.{http_chain, IsOnward, pass}
use Rattle.px_chain.specs.Sights.{Standing, sight_over}
use Rattle.px_cuts.specs.Cuts.{EqualButForMoments, HttpStop, MayStand, NoneStrays, NothingStrays, SameStreams, as_piece, joined_onto, joined_pieces, no_moment, piece_at, retimed, values_of}
use Rattle.px_chain.specs.Stages.{Stage}
use Rattle.px_cuts.specs.Shown.{behind_over, look_over, passed_over, so_far_over}
use Rattle.px_cuts.proofs.CutLemmas.{joined_but_for_moments, stands}
use Rattle.px_cuts.proofs.EmptyLaws.{left_out}

-- ---- walks at other moments

found_owed : (behind behind' : List Command) (l m : Look Command) → EqualButForMoments behind behind' → FoundAlike EqualButForMoments l m →
    EqualButForMoments (found_with behind l) (found_with behind' m)
found_owed behind behind' NotYet NotYet behinds alike = refl
found_owed behind behind' NotYet (Asks b) behinds alike = absurd alike
found_owed behind behind' NotYet (Ends b) behinds alike = absurd alike
found_owed behind behind' (Asks a) NotYet behinds alike = absurd alike
found_owed behind behind' (Asks a) (Asks b) behinds alike = (is_like no_moment).joins (a ∷ []) (b ∷ []) behind behind' alike behinds
found_owed behind behind' (Asks a) (Ends b) behinds alike = absurd alike
found_owed behind behind' (Ends a) NotYet behinds alike = absurd alike
found_owed behind behind' (Ends a) (Asks b) behinds alike = absurd alike
found_owed behind behind' (Ends a) (Ends b) behinds alike = alike

-- what is found in both places, and what is made of it
data BothFind (l m : Look Command) : Type 0 where
  nothing : l ≡ NotYet → m ≡ NotYet → BothFind l m
  asks : (ask other : Command) → l ≡ Asks ask → m ≡ Asks other → EqualButForMoments (ask ∷ []) (other ∷ []) → BothFind l m
  ends : (owed other : List Command) → l ≡ Ends owed → m ≡ Ends other → BothFind l m

both_find : (l m : Look Command) → FoundAlike EqualButForMoments l m → BothFind l m
both_find NotYet NotYet alike = nothing refl refl
both_find NotYet (Asks b) alike = absurd alike
both_find NotYet (Ends b) alike = absurd alike
both_find (Asks a) NotYet alike = absurd alike
both_find (Asks a) (Asks b) alike = asks a b refl refl alike
both_find (Asks a) (Ends b) alike = absurd alike
both_find (Ends a) NotYet alike = absurd alike
both_find (Ends a) (Asks b) alike = absurd alike
both_find (Ends a) (Ends b) alike = ends a b refl refl

joins : (a b c d : List Command) → EqualButForMoments a b → EqualButForMoments c d → EqualButForMoments (a ++ c) (b ++ d)
joins a b c d same alike = (is_like no_moment).joins a b c d same alike

module _ (onward : Stage → Stage) (goes : IsOnward onward) (terms : Terms) where
  abbrev chain : Chain Standing Event Reply Command
  chain = http_chain onward terms

  abbrev Same : Standing → List (Timed Event) → Standing → List (Timed Event) → Type 0
  Same = PlacesAlike no_moment terms

  record ReachedAlike (here there : Reached Standing Event Command) : Type 0 where
    pub before : EqualButForMoments here.before there.before
    pub place : Same here.stage here.prefix there.stage there.prefix
    pub rest : values_of here.rest ≡ values_of there.rest

  -- the search where it stands
  abbrev here_at : List Command → Standing → List (Timed Event) → List (Stamped Event) → Reached Standing Event Command
  here_at before s f es = record { before = before ++ (pass terms s.stage (sight_over s f)).owed; stage = passed_over onward terms s f; prefix = f; rest = es }

  here_alike : (before other : List Command) (s : Standing) (f : List (Timed Event)) (t : Standing) (g : List (Timed Event)) (es xs : List (Stamped Event)) →
      EqualButForMoments before other → Same s f t g → values_of es ≡ values_of xs → ReachedAlike (here_at before s f es) (here_at other t g xs)
  here_alike before other s f t g es xs befores place same = record {
    before = joins before other _ _ befores (owed_alike no_moment onward goes terms s f t g place);
    place = pass_alike no_moment onward goes terms s f t g place;
    rest = same;
  }

  reach_by_alike : (l m : Look Command) (further here further' here' : Reached Standing Event Command) → BothFind l m →
      (l ≡ NotYet → ReachedAlike further further') → ReachedAlike here here' → ReachedAlike (reach_by l further here) (reach_by m further' here')
  reach_by_alike l m further here further' here' (nothing is is') on at =
      let P : Look Command → Look Command → Type 0 = λ a b. ReachedAlike (reach_by a further here) (reach_by b further' here') in
      subst (λ (a : Look Command). P a m) (sym is) (subst (λ (b : Look Command). P NotYet b) (sym is') (on is))
  reach_by_alike l m further here further' here' (asks ask other is is' same) on at =
      let P : Look Command → Look Command → Type 0 = λ a b. ReachedAlike (reach_by a further here) (reach_by b further' here') in
      subst (λ (a : Look Command). P a m) (sym is) (subst (λ (b : Look Command). P (Asks ask) b) (sym is') at)
  reach_by_alike l m further here further' here' (ends owed other is is') on at =
      let P : Look Command → Look Command → Type 0 = λ a b. ReachedAlike (reach_by a further here) (reach_by b further' here') in
      subst (λ (a : Look Command). P a m) (sym is) (subst (λ (b : Look Command). P (Ends owed) b) (sym is') at)

  reach_alike : (last last' : Stamp) (before other : List Command) (s : Standing) (f : List (Timed Event)) (t : Standing) (g : List (Timed Event)) (es xs : List (Stamped Event)) →
      EqualButForMoments before other → Same s f t g → values_of es ≡ values_of xs →
      ReachedAlike (reach chain last before s f es) (reach chain last' other t g xs)
  reach_alike last last' before other s f t g [] [] befores place same = here_alike before other s f t g [] [] befores place refl
  reach_alike last last' before other s f t g [] (x ∷ xs) befores place same = absurd (let none : [] ≡ x.value ∷ values_of xs = same in cc)
  reach_alike last last' before other s f t g (e ∷ es) [] befores place same = absurd (let none : e.value ∷ values_of es ≡ [] = same in cc)
  reach_alike last last' before other s f t g (e ∷ es) (x ∷ xs) befores place same =
      let both : e.value ∷ values_of es ≡ x.value ∷ values_of xs = same in
      let one : e.value ≡ x.value = cc in
      let others : values_of es ≡ values_of xs = cc in
      let at = here_alike before other s f t g (e ∷ es) (x ∷ xs) befores place same in
      let on = passed_over onward terms s f in
      let on' = passed_over onward terms t g in
      reach_by_alike (look_over terms on f) (look_over terms on' g) _ _ _ _
      (both_find (look_over terms on f) (look_over terms on' g) (owes_alike no_moment onward goes terms on f on' g at.place).look)
      (λ is. reach_alike last last' (before ++ (pass terms s.stage (sight_over s f)).owed) (other ++ (pass terms t.stage (sight_over t g)).owed) on (f ++ worked_off last e ∷ []) on' (g ++ worked_off last' x ∷ []) es xs at.before
      (more_alike no_moment onward goes terms on f on' g at.place is (worked_off last e) (worked_off last' x) one refl) others)
      at

  -- all that is owed where a search stopped
  abbrev owed_there : Reached Standing Event Command → List Command
  owed_there here = here.before ++ (so_far_over terms here.stage here.prefix ++ found_with (behind_over here.stage here.prefix) (look_over terms here.stage here.prefix))

  owed_alike_there : (here there : Reached Standing Event Command) → ReachedAlike here there → EqualButForMoments (owed_there here) (owed_there there)
  owed_alike_there here there at =
      let owes = owes_alike no_moment onward goes terms here.stage here.prefix there.stage there.prefix at.place in
      joins here.before there.before _ _ at.before
      (joins (so_far_over terms here.stage here.prefix) (so_far_over terms there.stage there.prefix) _ _ owes.so_far
      (found_owed (behind_over here.stage here.prefix) (behind_over there.stage there.prefix) (look_over terms here.stage here.prefix) (look_over terms there.stage there.prefix) owes.behind owes.look))

  walk_by_alike : (l m : Look Command) (on other : Command → Stop Standing Event Reply Command) (stop stop' : Stop Standing Event Reply Command) → BothFind l m →
      ((ask ask' : Command) → l ≡ Asks ask → EqualButForMoments (ask ∷ []) (ask' ∷ []) → EqualButForMoments (owed_at chain (on ask)) (owed_at chain (other ask'))) →
      EqualButForMoments (owed_at chain stop) (owed_at chain stop') →
      EqualButForMoments (owed_at chain (walk_by l on stop)) (owed_at chain (walk_by m other stop'))
  walk_by_alike l m on other stop stop' (nothing is is') asked at =
      let P : Look Command → Look Command → Type 0 = λ a b. EqualButForMoments (owed_at chain (walk_by a on stop)) (owed_at chain (walk_by b other stop')) in
      subst (λ (a : Look Command). P a m) (sym is) (subst (λ (b : Look Command). P NotYet b) (sym is') at)
  walk_by_alike l m on other stop stop' (asks ask ask' is is' same) asked at =
      let P : Look Command → Look Command → Type 0 = λ a b. EqualButForMoments (owed_at chain (walk_by a on stop)) (owed_at chain (walk_by b other stop')) in
      subst (λ (a : Look Command). P a m) (sym is) (subst (λ (b : Look Command). P (Asks ask) b) (sym is') (asked ask ask' is same))
  walk_by_alike l m on other stop stop' (ends owed owed' is is') asked at =
      let P : Look Command → Look Command → Type 0 = λ a b. EqualButForMoments (owed_at chain (walk_by a on stop)) (owed_at chain (walk_by b other stop')) in
      subst (λ (a : Look Command). P a m) (sym is) (subst (λ (b : Look Command). P (Ends owed) b) (sym is') at)

  -- Walks over the same values owe the same.
  pub walk_alike : (rs qs : List (Stamped Reply)) (last last' : Stamp) (before other : List Command) (s : Standing) (f : List (Timed Event)) (t : Standing) (g : List (Timed Event)) (es xs : List (Stamped Event)) →
      values_of rs ≡ values_of qs → EqualButForMoments before other → Same s f t g → values_of es ≡ values_of xs →
      EqualButForMoments (owed_at chain (walk chain rs last before s f es)) (owed_at chain (walk chain qs last' other t g xs))
  walk_alike [] [] last last' before other s f t g es xs replies befores place same =
      owed_alike_there (reach chain last before s f es) (reach chain last' other t g xs) (reach_alike last last' before other s f t g es xs befores place same)
  walk_alike [] (q ∷ qs) last last' before other s f t g es xs replies befores place same = absurd (let none : [] ≡ q.value ∷ values_of qs = replies in cc)
  walk_alike (r ∷ rs) [] last last' before other s f t g es xs replies befores place same = absurd (let none : r.value ∷ values_of rs ≡ [] = replies in cc)
  walk_alike (r ∷ rs) (q ∷ qs) last last' before other s f t g es xs replies befores place same =
      let both : r.value ∷ values_of rs ≡ q.value ∷ values_of qs = replies in
      let one : r.value ≡ q.value = cc in
      let others : values_of rs ≡ values_of qs = cc in
      let here = reach chain last before s f es in
      let there = reach chain last' other t g xs in
      let at = reach_alike last last' before other s f t g es xs befores place same in
      let owes = owes_alike no_moment onward goes terms here.stage here.prefix there.stage there.prefix at.place in
      walk_by_alike (look_over terms here.stage here.prefix) (look_over terms there.stage there.prefix) _ _ _ _
      (both_find (look_over terms here.stage here.prefix) (look_over terms there.stage there.prefix) owes.look)
      (λ ask ask' is alike.
      let turned = turn_alike no_moment onward goes terms here.stage here.prefix there.stage there.prefix at.place (at_its_step r) (at_its_step q) (record { value = one; moment = refl }) in
      walk_alike rs qs r.stamp q.stamp _ _ (chain.turn here.stage here.prefix (at_its_step r)).stage here.prefix (chain.turn there.stage there.prefix (at_its_step q)).stage there.prefix here.rest there.rest others
      (joins here.before there.before _ _ at.before (joins (so_far_over terms here.stage here.prefix) (so_far_over terms there.stage there.prefix) _ _ owes.so_far
      (joins (ask ∷ []) (ask' ∷ []) _ _ alike (joins (behind_over here.stage here.prefix) (behind_over there.stage there.prefix) _ _ owes.behind turned.owed))))
      turned.stage at.rest)
      (owed_alike_there here there at)

-- ---- pieces byte by byte

-- a piece as pieces of one byte
abbrev bytes_apart : Event → List Event
bytes_apart (events.Piece side bytes) = map (λ byte. events.Piece side (byte ∷ [])) bytes
bytes_apart event = event ∷ []

abbrev all_apart : List Event → List Event
all_apart [] = []
all_apart (event ∷ rest) = bytes_apart event ++ all_apart rest

same_side : (side other : Side) → is_same_side side other ≡ true → other ≡ side
same_side Client Client is = refl
same_side Client (Server b) is = absurd (let e : false ≡ true = is in cc)
same_side (Server a) Client is = absurd (let e : false ≡ true = is in cc)
same_side (Server a) (Server b) is = ap (λ n. Server n) (sym (eqb-true a b is))

-- of pieces that are joined the bytes are the same
piece_apart : (side other : Side) (bytes more : List ℕ) (rest : List Event) (own : Bool) → is_same_side side other ≡ own →
    all_apart (if own then events.Piece side (bytes ++ more) ∷ rest else events.Piece side bytes ∷ events.Piece other more ∷ rest)
    ≡ bytes_apart (events.Piece side bytes) ++ (bytes_apart (events.Piece other more) ++ all_apart rest)
piece_apart side other bytes more rest true is =
    let one : ℕ → Event = λ byte. events.Piece side (byte ∷ []) in
    ap (λ l. l ++ all_apart rest) (map-append one bytes more)
    ∙ (append_assoc (map one bytes) (map one more) (all_apart rest)
    ∙ ap (λ x. map one bytes ++ (map (λ byte. events.Piece x (byte ∷ [])) more ++ all_apart rest)) (sym (same_side side other is)))
piece_apart side other bytes more rest false is = refl

onto_apart : (event : Event) (rest : List Event) → all_apart (joined_onto event rest) ≡ bytes_apart event ++ all_apart rest
onto_apart (events.Piece side bytes) [] = refl
onto_apart (events.Piece side bytes) (events.Piece other more ∷ rest) = piece_apart side other bytes more rest (is_same_side side other) refl
onto_apart (events.Piece side bytes) (events.Begun ∷ rest) = refl
onto_apart (events.Piece side bytes) (events.Closed other ∷ rest) = refl
onto_apart (events.Piece side bytes) (events.Answered ask answer ∷ rest) = refl
onto_apart events.Begun rest = refl
onto_apart (events.Closed side) rest = refl
onto_apart (events.Answered ask answer) rest = refl

joined_apart : (values : List Event) → all_apart (joined_pieces values) ≡ all_apart values
joined_apart [] = refl
joined_apart (event ∷ rest) = onto_apart event (joined_pieces rest) ∙ ap (λ l. bytes_apart event ++ l) (joined_apart rest)

-- the same of events in their steps
abbrev single : Stamp → ℕ → Stamped (List ℕ)
single stamp byte = record { stamp = stamp; value = byte ∷ [] }

abbrev spread_at : Stamp → Event → List (Stamped Event)
spread_at stamp (events.Piece side bytes) = map (as_piece side) (map (single stamp) bytes)
spread_at stamp event = record { stamp = stamp; value = event } ∷ []

abbrev spread : List (Stamped Event) → List (Stamped Event)
spread [] = []
spread (e ∷ rest) = spread_at e.stamp e.value ++ spread rest

singles_are : (stamp : Stamp) (side : Side) (bytes : List ℕ) → values_of (map (as_piece side) (map (single stamp) bytes)) ≡ map (λ byte. events.Piece side (byte ∷ [])) bytes
singles_are stamp side [] = refl
singles_are stamp side (byte ∷ bytes) = ap (λ l. events.Piece side (byte ∷ []) ∷ l) (singles_are stamp side bytes)

spread_are_at : (stamp : Stamp) (event : Event) → values_of (spread_at stamp event) ≡ bytes_apart event
spread_are_at stamp (events.Piece side bytes) = singles_are stamp side bytes
spread_are_at stamp events.Begun = refl
spread_are_at stamp (events.Closed side) = refl
spread_are_at stamp (events.Answered ask answer) = refl

spread_are : (these : List (Stamped Event)) → values_of (spread these) ≡ all_apart (values_of these)
spread_are [] = refl
spread_are (e ∷ these) =
    map-append (λ (x : Stamped Event). x.value) (spread_at e.stamp e.value) (spread these)
    ∙ (ap (λ l. l ++ values_of (spread these)) (spread_are_at e.stamp e.value) ∙ ap (λ l. bytes_apart e.value ++ l) (spread_are these))

singles_join : (stamp : Stamp) (bytes : List ℕ) → flat_map (λ (x : Stamped (List ℕ)). x.value) (map (single stamp) bytes) ≡ bytes
singles_join stamp [] = refl
singles_join stamp (byte ∷ bytes) = ap (λ l. byte ∷ l) (singles_join stamp bytes)

module _ (onward : Stage → Stage) (goes : IsOnward onward) (terms : Terms) (start : Standing) (may : MayStand terms start []) (replies : List (Stamped Reply)) where
  abbrev due_over : List (Stamped Event) → List Command
  due_over events = due (http_chain onward terms) start events replies

  abbrev stop_over : List (Stamped Event) → HttpStop
  stop_over events = walk_from (http_chain onward terms) start events replies

  -- A piece owes what its bytes owe one by one, where with it nothing stray stands behind a response.
  bytes_owe : (before after : List (Stamped Event)) (stamp : Stamp) (side : Side) (bytes : List ℕ) → NoneStrays terms (stop_over before) (events.Piece side bytes) →
      EqualButForMoments (due_over (before ++ piece_at stamp side bytes ∷ after)) (due_over (before ++ (map (as_piece side) (map (single stamp) bytes) ++ after)))
  bytes_owe before after stamp side [] none = left_out onward goes terms start before after replies stamp side (stands no_moment onward goes terms start before replies may)
  bytes_owe before after stamp side (byte ∷ bytes) none =
      let joined : (byte ∷ []) ++ flat_map (λ (x : Stamped (List ℕ)). x.value) (map (single stamp) bytes) ≡ byte ∷ bytes = ap (λ l. byte ∷ l) (singles_join stamp bytes) in
      let with_all : NoneStrays terms (stop_over before) (events.Piece side ((byte ∷ []) ++ flat_map (λ (x : Stamped (List ℕ)). x.value) (map (single stamp) bytes))) =
      subst (λ l. NoneStrays terms (stop_over before) (events.Piece side l)) (sym joined) none in
      sym (joined_but_for_moments onward goes terms start may before after replies side stamp (single stamp byte) (map (single stamp) bytes) with_all
      ∙ ap (λ l. map (retimed no_moment) (due_over (before ++ piece_at stamp side l ∷ after))) joined)

  spread_owe_at : (before after : List (Stamped Event)) (stamp : Stamp) (event : Event) → NoneStrays terms (stop_over before) event →
      EqualButForMoments (due_over (before ++ record { stamp = stamp; value = event } ∷ after)) (due_over (before ++ (spread_at stamp event ++ after)))
  spread_owe_at before after stamp (events.Piece side bytes) none = bytes_owe before after stamp side bytes none
  spread_owe_at before after stamp events.Begun none = refl
  spread_owe_at before after stamp (events.Closed side) none = refl
  spread_owe_at before after stamp (events.Answered ask answer) none = refl

  -- Events owe what they owe byte by byte.
  pub spread_owe : (before these : List (Stamped Event)) → NothingStrays onward terms start replies before these → EqualButForMoments (due_over (before ++ these)) (due_over (before ++ spread these))
  spread_owe before [] none = refl
  spread_owe before (e ∷ these) none =
      ap (λ l. map (retimed no_moment) (due_over l)) (sym (append_assoc before (e ∷ []) these))
      ∙ (spread_owe (before ++ e ∷ []) these none.1
      ∙ (ap (λ l. map (retimed no_moment) (due_over l)) (append_assoc before (e ∷ []) (spread these))
      ∙ spread_owe_at before (spread these) e.stamp e.value none.0))

pub streams_owe : (onward : Stage → Stage) (goes : IsOnward onward) (terms : Terms) (start : Standing) → MayStand terms start [] → (these those : List (Stamped Event)) (replies answers : List (Stamped Reply)) →
    SameStreams these those → values_of replies ≡ values_of answers → NothingStrays onward terms start replies [] these → NothingStrays onward terms start answers [] those →
    EqualButForMoments (due (http_chain onward terms) start these replies) (due (http_chain onward terms) start those answers)
streams_owe onward goes terms start may these those replies answers same given none none' =
    spread_owe onward goes terms start may replies [] these none
    ∙ (walk_alike onward goes terms replies answers never never [] [] start [] start [] (spread these) (spread those) given refl (record { stages = refl; sights = refl; may = may; other_may = may })
    (spread_are these ∙ (sym (joined_apart (values_of these)) ∙ (ap (λ l. all_apart l) same ∙ (joined_apart (values_of those) ∙ sym (spread_are those)))))
    ∙ sym (spread_owe onward goes terms start may answers [] those none'))
