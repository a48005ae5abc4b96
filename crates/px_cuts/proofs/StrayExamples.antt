-- A stray byte behind a response: in one piece with it its side is closed, and where the piece is cut before that byte it is kept. Such a cut is what the premise of the
-- laws leaves out, and the one piece is what has something stray.
use Rattle.std.proofs.Common.{◌≡◌, ℕ, ◌==◌, Bool, true, false, List, [], ◌∷◌, ◌++◌, Option, Some, refl, ap, ◌∙◌}
use Rattle.std.specs.Prelude.{◌&&◌, if◌then◌else◌}
use Rattle.std.proofs.lemmas.Bool.{eq-eqb}
use Rattle.px_message.specs.declared.flow.Flow.{Flow}
use Rattle.px_event.specs.declared.event.Event.{Event}
use Rattle.px_event.specs.declared.event.Event.TheVariants as events
use Rattle.px_event.specs.declared.side.Side.TheVariants.{Server}
use Rattle.px_read.specs.Items.{Body, complete, answer_list}
use Rattle.px_read.specs.Laws.{is_decided}
use Rattle.px_read.specs.declared.head.ResponseHead.{ResponseHead as ReadResponse}
use Rattle.px_read.proofs.AnswerLemmas.{answers_carry}
use Rattle.px_read.proofs.LawLemmas.{chunk_laws}
use Rattle.px_exchange.specs.Endings.{read_persists, sent_persists}
use Rattle.px_exchange.specs.Requests.{is_head}
use Rattle.px_chain.specs.Keeping.{is_silent, keeps_side}
use Rattle.px_chain.specs.Sights.{Sight, answers_in, left_by_answers}
use Rattle.px_chain.specs.Stages.{At, Stage, all_sent, busy, response_body}
use Rattle.px_chain.proofs.KeepingLaws.{kept_nothing}
use Rattle.px_cuts.specs.Cuts.{MayFollow, has_byte, keeps_behind, keeps_by, no_byte, not_kept, of_other, strays_behind, strays_by}
use Rattle.px_cuts.specs.Shown.{hears}
use Rattle.px_cuts.proofs.BesideLaws.{not_both}
use Rattle.px_cuts.proofs.ComingLaws.{decided_begun}
use Rattle.px_cuts.proofs.FollowLaws.{left_with}
use Rattle.px_cuts.proofs.PlaceLaws.{make}

last_holds : (a b : Bool) → (a && b) ≡ true → b ≡ true
last_holds true b is = is
last_holds false b is = absurd (let e : false ≡ true = is in cc)

module _ (at : At) (flow : Flow) (own : ℕ) (most : Option ℕ) (client server : List ℕ) (byte : ℕ) (more : List ℕ) (told now : ℕ) (head : ReadResponse) (body : Body)
    (trailers : List (List ℕ × List ℕ)) (size : ℕ) where
  abbrev asked_head : Bool
  asked_head = is_head flow.request.method

  -- the response has come, and its body's hook was answered
  abbrev stage : Stage
  stage = busy at flow (response_body own all_sent most)

  abbrev seen : Sight
  seen = make client false server false told now

  -- bytes of its server that nobody asked for
  abbrev stray : Event
  stray = events.Piece (Server own) (byte ∷ more)

  abbrev seen_with_it : Sight
  seen_with_it = make client false (server ++ byte ∷ more) false told now

  module _ (whole : (answer_list asked_head false server).final ≡ complete head body trailers size) (kept : keeps_side flow.request seen head ≡ true) where
    abbrev persists : Bool
    persists = sent_persists flow.request && read_persists flow.request head

    -- Without them the side is kept.
    pub is_kept : keeps_behind stage seen ≡ true
    is_kept = ap (λ i. keeps_by flow.request seen i) whole ∙ kept

    -- they are heard behind what was seen
    same_side : (own == own) ≡ true
    same_side = eq-eqb own own refl

    pub is_heard : (hears (Some own) seen stray).server ≡ server ++ byte ∷ more
    is_heard = ap (λ b. server ++ (if b then byte ∷ more else [])) same_side

    -- the response is the same with them, and they stand behind it
    final_decided : is_decided (answer_list asked_head false server).final ≡ true
    final_decided = ap (λ i. is_decided i) whole

    pub same_response : (answer_list asked_head false (server ++ byte ∷ more)).final ≡ complete head body trailers size
    same_response = (answers_carry chunk_laws asked_head false server (byte ∷ more)).final.stays final_decided ∙ whole

    pub stands_behind : left_by_answers (answers_in flow.request seen_with_it) (server ++ byte ∷ more) ≡ byte ∷ more
    stands_behind =
        let carries = answers_carry chunk_laws asked_head false server (byte ∷ more) in
        left_with asked_head server (byte ∷ more) (carries.final.stays final_decided) (carries.begun (decided_begun (answer_list asked_head false server).final final_decided)).1
        ∙ ap (λ l. l ++ byte ∷ more) (kept_nothing flow.request seen head kept).empty

    -- With them it is closed.
    pub is_closed : keeps_side flow.request seen_with_it head ≡ false
    is_closed = ap (λ l. is_silent l false && persists) stands_behind

    -- So they may not be cut off,
    pub may_not_follow : MayFollow (Server own) (byte ∷ more) stage seen → ⊥
    may_not_follow (of_other is) = not_both (own == own) is same_side
    may_not_follow (no_byte is) = let e : byte ∷ more ≡ [] = is in cc
    may_not_follow (not_kept is) = not_both (keeps_behind stage seen) is is_kept

    -- and in one piece with the response they are stray.
    pub is_stray : strays_behind stage seen_with_it ≡ true
    is_stray =
        ap (λ i. strays_by flow.request seen_with_it i) same_response
        ∙ (ap (λ l. has_byte l && persists) stands_behind
        ∙ last_holds (is_silent (left_by_answers (answers_in flow.request seen) server) false) persists kept)
