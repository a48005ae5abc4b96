-- However the network cuts the bytes into pieces, what is due is the same.
use Rattle.std.proofs.Common.{◌≡◌, ℕ, false, List, [], ◌∷◌, ◌++◌, map, refl, ap, sym, ◌∙◌, subst, append_assoc}
use Rattle.std.specs.List.{flat_map}
use Rattle.std.proofs.lemmas.List.{append-nil}
use Rattle.px_event.specs.declared.command.Command.{Command}
use Rattle.px_event.specs.declared.event.Event.{Event}
use Rattle.px_event.specs.declared.reply.Reply.{Reply}
use Rattle.px_event.specs.declared.side.Side.{Side}
use Rattle.px_event.specs.Alike.{MayCome}
use Rattle.px_event.specs.Chain.{due, later, never, Stamp, Stamped, walk_from}
use Rattle.px_event.specs.Trace.{is_same_side}
use Rattle.px_event.proofs.Likeness.{same_owed, same_stops, swapped, two_for_one}
use Rattle.px_event.proofs.Walk.{stopped}
use Rattle.px_read.proofs.AnswerLemmas.{answers_carry}
use Rattle.px_read.proofs.ItemLemmas.{request_carries}
use Rattle.px_read.proofs.LawLemmas.{chunk_laws}
use Rattle.px_exchange.specs.declared.terms.Terms.{Terms}
use Rattle.px_cuts.proofs.AlikeLaws.{alike, unhurried}
use Rattle.px_cuts.specs.Alike.{HeardEarly, IsCompared, is_like, PlacesAlike}
use Rattle.px_chain.specs.Chain.{http_chain, IsOnward}
use Rattle.px_cuts.proofs.PieceLemmas.{all_may_come, any_may_come, cut_early, equal, next_early, swap_early}
use Rattle.px_cuts.specs.Cuts.{AlikeSeen, EqualButForMoments, HttpStop, IsNoEarlier, IsNotParked, MayBeCut, MayBeHeard, MayStand, MayWaitFor, NoneGoesUp, NoneStrays, as_it_is, as_piece, no_byte, no_moment, piece_at, retimed}
use Rattle.px_event.specs.declared.event.Event.TheVariants as events
use Rattle.px_cuts.proofs.EmptyLaws.{empty_half}
use Rattle.px_cuts.proofs.StrayLaws.{may_follow_by}
use Rattle.px_chain.proofs.ChainLaws.{settles}
use Rattle.px_chain.specs.Sights.{Standing, sight_over}
use Rattle.px_chain.specs.Stages.{Stage}
use Rattle.px_cuts.proofs.ItemLaws.{ReadersStay}

-- the readers keep their laws
pub readers : ReadersStay
readers = record {
  request_head = λ bytes more. (request_carries chunk_laws bytes more).head;
  request = λ bytes more. (request_carries chunk_laws bytes more).stays;
  interim = λ asked_head closed bytes more. (answers_carry chunk_laws asked_head closed bytes more).begun;
  final_head = λ asked_head closed bytes more. (answers_carry chunk_laws asked_head closed bytes more).final.head;
  final = λ asked_head closed bytes more. (answers_carry chunk_laws asked_head closed bytes more).final.stays;
}

module _ (see : ℕ → ℕ) (onward : Stage → Stage) (goes : IsOnward onward) (terms : Terms) where
  pub compared : IsCompared see onward terms
  compared = record { alike = alike see onward goes terms; unhurried = λ event. unhurried see onward goes terms readers event }

  -- starts that show the same owe the same
  pub starts : (start other : Standing) (events : List (Stamped Event)) (replies : List (Stamped Reply)) → PlacesAlike see terms start [] other [] →
      AlikeSeen see (due (http_chain onward terms) start events replies) (due (http_chain onward terms) other events replies)
  starts start other events replies place =
      same_owed (http_chain onward terms) (AlikeSeen see) (is_like see) (PlacesAlike see terms) (alike see onward goes terms) (settles onward goes terms) replies never [] [] start [] other [] events refl place

  -- where a walk stops, its stage may stand
  pub stands : (start : Standing) (before : List (Stamped Event)) (replies : List (Stamped Reply)) → MayStand terms start [] →
      MayStand terms (walk_from (http_chain onward terms) start before replies).stage (walk_from (http_chain onward terms) start before replies).prefix
  stands start before replies may =
      (same_stops (http_chain onward terms) (AlikeSeen see) (is_like see) (PlacesAlike see terms) (alike see onward goes terms) (settles onward goes terms)
      replies never [] [] start [] start [] before refl (record { stages = refl; sights = refl; may = may; other_may = may })).place.may

  -- A piece in two halves, of which the second may follow the first.
  pub cut : (start : Standing) (before after : List (Stamped Event)) (replies : List (Stamped Reply)) (stamp first second : Stamp) (side : Side) (bytes more : List ℕ) →
      let w = walk_from (http_chain onward terms) start before replies in
      MayStand terms start [] → MayBeCut terms w side bytes more → MayCome (MayWaitFor see (piece_at second side more)) w.unused →
      see (later w.last first).moment ≡ see (later w.last stamp).moment → see (later w.last second).moment ≡ see (later w.last first).moment →
      AlikeSeen see (due (http_chain onward terms) start (before ++ piece_at first side bytes ∷ piece_at second side more ∷ after) replies)
      (due (http_chain onward terms) start (before ++ piece_at stamp side (bytes ++ more) ∷ after) replies)
  cut start before after replies stamp first second side bytes [] may follows waits whole half =
      let halves : List (Stamped Event) = before ++ piece_at first side bytes ∷ piece_at second side [] ∷ after in
      subst (λ l. AlikeSeen see (due (http_chain onward terms) start halves replies) (due (http_chain onward terms) start (before ++ piece_at stamp side l ∷ after) replies)) (sym (append-nil bytes))
      (empty_half see onward goes terms second side start before after replies first stamp bytes (stands start before replies may) waits whole half)
  cut start before after replies stamp first second side bytes (byte ∷ more) may follows waits whole half =
      let w = walk_from (http_chain onward terms) start before replies in
      let second_half : Stamped Event = piece_at second side (byte ∷ more) in
      two_for_one (http_chain onward terms) (AlikeSeen see) (is_like see) (settles onward goes terms) (PlacesAlike see terms) (alike see onward goes terms)
      (MayWaitFor see second_half) second_half (HeardEarly see onward terms second_half) (unhurried see onward goes terms readers second_half)
      start before after (piece_at first side bytes) (piece_at stamp side (bytes ++ byte ∷ more)) replies
      (λ is. record {
        place = cut_early see onward goes terms w first second stamp side bytes (byte ∷ more) (stands start before replies may) is
            (stopped (http_chain onward terms) (settles onward goes terms) replies never [] start [] before).settled.stays (λ none. (let e : byte ∷ more ≡ [] = none in cc)) (follows is) whole half;
        replies = waits;
      })

  pub swap : (start : Standing) (before after : List (Stamped Event)) (replies : List (Stamped Reply)) (first second : Stamp) (side other : Side) (bytes more : List ℕ) →
      let w = walk_from (http_chain onward terms) start before replies in
      MayStand terms start [] → is_same_side side other ≡ false → IsNotParked side w.stage.stage → IsNotParked other w.stage.stage → NoneGoesUp w.stage.stage → MayBeHeard side w.stage.stage → MayBeHeard other w.stage.stage →
      MayCome (MayWaitFor see (piece_at first side bytes)) w.unused → MayCome (MayWaitFor see (piece_at second other more)) w.unused →
      see (later w.last second).moment ≡ see (later w.last first).moment →
      AlikeSeen see (due (http_chain onward terms) start (before ++ piece_at first side bytes ∷ piece_at second other more ∷ after) replies)
      (due (http_chain onward terms) start (before ++ piece_at second other more ∷ piece_at first side bytes ∷ after) replies)
  swap start before after replies first second side other bytes more may two aside aside' none heard heard' waits waits' half =
      let w = walk_from (http_chain onward terms) start before replies in
      let one : Stamped Event = piece_at first side bytes in
      let next : Stamped Event = piece_at second other more in
      let standing = stands start before replies may in
      let settled = (stopped (http_chain onward terms) (settles onward goes terms) replies never [] start [] before).settled.stays in
      swapped (http_chain onward terms) (AlikeSeen see) (is_like see) (settles onward goes terms) (PlacesAlike see terms) (alike see onward goes terms)
      (λ a b c same alike. same ∙ sym alike)
      (MayWaitFor see next) (MayWaitFor see one) next one (HeardEarly see onward terms next) (HeardEarly see onward terms one)
      (unhurried see onward goes terms readers next) (unhurried see onward goes terms readers one)
      start before after replies w.stage _
      (λ is. (
        record { place = next_early see onward goes terms w first second side other bytes more standing is settled two aside' none heard' half; replies = waits' },
        record { place = swap_early see onward goes terms w first second side other bytes more standing is settled two aside none heard half; replies = waits },
      ))

-- a piece in two, at any moments
pub halves_owe : (onward : Stage → Stage) (goes : IsOnward onward) (terms : Terms) (start : Standing) → MayStand terms start [] → (before after : List (Stamped Event)) (replies : List (Stamped Reply)) (side : Side)
    (stamp first second : Stamp) (bytes more : List ℕ) → MayBeCut terms (walk_from (http_chain onward terms) start before replies) side bytes more →
    EqualButForMoments (due (http_chain onward terms) start (before ++ piece_at first side bytes ∷ piece_at second side more ∷ after) replies)
    (due (http_chain onward terms) start (before ++ piece_at stamp side (bytes ++ more) ∷ after) replies)
halves_owe onward goes terms start may before after replies side stamp first second bytes more follows =
    cut no_moment onward goes terms start before after replies stamp first second side bytes more may follows (any_may_come (piece_at second side more) _) refl refl

-- ---- any number of pieces

module _ (onward : Stage → Stage) (goes : IsOnward onward) (terms : Terms) (start : Standing) (may : MayStand terms start []) (before after : List (Stamped Event)) (replies : List (Stamped Reply)) (side : Side) where
  -- what is due with these events behind those
  abbrev due_with : List (Stamped Event) → List Command
  due_with events = due (http_chain onward terms) start (before ++ events) replies

  abbrev there : HttpStop
  there = walk_from (http_chain onward terms) start before replies

  -- with all these bytes nothing stray stands behind a response
  abbrev None_with : List ℕ → Type 0
  None_with bytes = NoneStrays terms there (events.Piece side bytes)

  -- so the next part of them may follow the first
  parts_follow : (first more rest : List ℕ) → None_with (first ++ (more ++ rest)) → MayBeCut terms there side first more
  parts_follow first more rest none hears = may_follow_by side first (more ++ rest) (sight_over there.stage there.prefix) more rest refl there.stage.stage (none hears)

  none_joined : (first more rest : List ℕ) → None_with (first ++ (more ++ rest)) → None_with ((first ++ more) ++ rest)
  none_joined first more rest none = subst None_with (sym (append_assoc first more rest)) none

  pub exactly_joined : (stamp : Stamp) (first : List ℕ) (rest : List (List ℕ)) → None_with (first ++ flat_map (λ bytes. bytes) rest) →
      MayCome (IsNoEarlier stamp) (walk_from (http_chain onward terms) start before replies).unused →
      due_with (map (piece_at stamp side) (first ∷ rest) ++ after) ≡ due_with (piece_at stamp side (first ++ flat_map (λ bytes. bytes) rest) ∷ after)
  exactly_joined stamp first [] none waits = ap (λ l. due_with (piece_at stamp side l ∷ after)) (sym (append-nil first))
  exactly_joined stamp first (more ∷ rest) none waits =
      let behind : List ℕ = flat_map (λ bytes. bytes) rest in
      equal _ _ (cut as_it_is onward goes terms start before (map (piece_at stamp side) rest ++ after) replies stamp stamp stamp side first more may (parts_follow first more behind none)
      (all_may_come (piece_at stamp side more) _ waits) refl refl)
      ∙ (exactly_joined stamp (first ++ more) rest (none_joined first more behind none) waits
      ∙ ap (λ l. due_with (piece_at stamp side l ∷ after)) (append_assoc first more behind))

  -- a piece in another step
  restamped : (stamp other : Stamp) (bytes : List ℕ) → EqualButForMoments (due_with (piece_at stamp side bytes ∷ after)) (due_with (piece_at other side (bytes ++ []) ∷ after))
  restamped stamp other bytes =
      ap (λ l. map (retimed no_moment) (due_with (piece_at stamp side l ∷ after))) (sym (append-nil bytes))
      ∙ (sym (halves_owe onward goes terms start may before after replies side stamp stamp stamp bytes [] (λ hears. no_byte refl))
      ∙ halves_owe onward goes terms start may before after replies side other stamp stamp bytes [] (λ hears. no_byte refl))

  pub joined_but_for_moments : (stamp : Stamp) (first : Stamped (List ℕ)) (rest : List (Stamped (List ℕ))) → None_with (first.value ++ flat_map (λ bytes. bytes.value) rest) →
      EqualButForMoments (due_with (map (as_piece side) (first ∷ rest) ++ after)) (due_with (piece_at stamp side (first.value ++ flat_map (λ bytes. bytes.value) rest) ∷ after))
  joined_but_for_moments stamp first [] none = restamped first.stamp stamp first.value
  joined_but_for_moments stamp first (more ∷ rest) none =
      let behind : List ℕ = flat_map (λ bytes. bytes.value) rest in
      halves_owe onward goes terms start may before (map (as_piece side) rest ++ after) replies side first.stamp first.stamp more.stamp first.value more.value (parts_follow first.value more.value behind none)
      ∙ (joined_but_for_moments stamp (record { stamp = first.stamp; value = first.value ++ more.value }) rest (none_joined first.value more.value behind none)
      ∙ ap (λ l. map (retimed no_moment) (due_with (piece_at stamp side l ∷ after))) (append_assoc first.value more.value behind))
