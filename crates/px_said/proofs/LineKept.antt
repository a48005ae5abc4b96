-- Which side waits for a request: the one that is parked at its stage, while nothing was heard of it.
use Rattle.std.proofs.Common.{◌≡◌, ℕ, Bool, true, false, List, drop, Option, Some, None, refl, ap, sym, ◌∙◌, subst}
use Rattle.std.specs.Prelude.{◌&&◌}
use Rattle.px_message.specs.declared.request.Request.{Request}
use Rattle.px_event.specs.declared.event.Event.{Event}
use Rattle.px_event.specs.declared.reply.Reply.{Reply}
use Rattle.px_event.specs.declared.side.Side.TheVariants.{Server}
use Rattle.px_event.specs.Chain.{Timed}
use Rattle.px_read.specs.Items.{Answers, Body, complete}
use Rattle.px_read.specs.declared.head.ResponseHead.{ResponseHead}
use Rattle.px_exchange.specs.Endings.{read_persists, sent_persists}
use Rattle.px_exchange.specs.Places.{is_same_address, server_for}
use Rattle.px_exchange.specs.declared.place.Place.{Place}
use Rattle.px_chain.specs.Behind.{used_behind}
use Rattle.px_chain.specs.Chain.{parked_for, side_if}
use Rattle.px_chain.specs.Keeping.{is_silent, parks, unspoilt_by}
use Rattle.px_chain.specs.Sights.{Sight, UsedBytes, left_by_answers, sight_of, used_by_answers}
use Rattle.px_chain.specs.Stages.{At, Parked, side_parked}
use Rattle.px_chain.specs.Streams.{Since, bytes_of}
use Rattle.px_chain.proofs.UsedLaws.{answers_drop}
use Rattle.px_said.specs.ClosedForm.{Told, parked_behind, parked_if, still_parked, told_by}
use Rattle.px_said.specs.Lines.{answers_to, side_over}
use Rattle.px_said.proofs.ClosedFronts.{IsFront, IsSame}
use Rattle.px_said.proofs.ParkedFronts.{gone_on, still_same}
use Rattle.px_said.proofs.LineStages.{IsKept, Waiting, is_gone, is_parked, start_of}

-- ---- over more events

pub kept_on : (parked : Option Parked) (opened used : ℕ) (waiting : Waiting) (prefix later : List (Timed Event)) → IsFront prefix later → IsKept parked opened used waiting prefix → IsKept parked opened used waiting later
kept_on parked opened used waiting prefix later front (is_parked is) = is_parked is
kept_on parked opened used waiting prefix later front (is_gone none is) = is_gone none (gone_on waiting.parked waiting.opened waiting.used prefix later front is)

-- at first
pub kept_first : (parked : Option Parked) (opened used : ℕ) (prefix : List (Timed Event)) →
    IsKept parked opened used (record { parked = parked; opened = opened; used = used_behind false (side_parked parked) used }) prefix
kept_first None opened used prefix = is_gone refl refl
kept_first (Some parked) opened used prefix = is_parked refl

-- ---- at a stage

unspoilt_none : (silent : Bool) → unspoilt_by silent None ≡ None
unspoilt_none true = refl
unspoilt_none false = refl

none_for : (place : Place) (request : Request) (parked : Option Parked) (server : ℕ) → parked ≡ None → parked_for place request parked ≡ Some server → ⊥
none_for place request parked server none is = let no : None ≡ Some server = sym (ap (parked_for place request) none) ∙ is in cc

side_some : (to_it : Bool) (number server : ℕ) → side_if to_it number ≡ Some server → number ≡ server
side_some true number server is = cc
side_some false number server is = absurd (let no : None ≡ Some server = is in cc)

module _ (parked : Option Parked) (since : Since) (opened : ℕ) (used : UsedBytes) (up : ℕ) (prefix : List (Timed Event)) where
  -- what is seen of it
  abbrev pub parked_seen : Sight
  parked_seen = sight_of (side_parked parked) since opened used up prefix

  -- the side, unless its keeping has ended
  abbrev pub unspoilt_there : Option Parked
  unspoilt_there = unspoilt_by (is_silent parked_seen.server parked_seen.shut) parked

still_seen : (parked : Option Parked) (since : Since) (opened : ℕ) (used : UsedBytes) (up : ℕ) (prefix : List (Timed Event)) →
    still_parked prefix parked opened used.server ≡ unspoilt_there parked since opened used up prefix
still_seen None since opened used up prefix = sym (unspoilt_none _)
still_seen (Some parked) since opened used up prefix = if_same (is_silent (told_by prefix parked.server opened used.server).bytes (told_by prefix parked.server opened used.server).shut)
  where
    if_same : (silent : Bool) → parked_if silent parked ≡ unspoilt_by silent (Some parked)
    if_same true = refl
    if_same false = refl

module _ (parked : Option Parked) (since : Since) (opened : ℕ) (used : UsedBytes) (up : ℕ) (prefix : List (Timed Event)) (waiting : Waiting) where
  kept_still : IsKept parked opened used.server waiting prefix → still_parked prefix waiting.parked waiting.opened waiting.used ≡ unspoilt_there parked since opened used up prefix
  kept_still (is_parked is) = ap (λ (w : Waiting). still_parked prefix w.parked w.opened w.used) is ∙ still_seen parked since opened used up prefix
  kept_still (is_gone none is) =
      let seen = parked_seen parked since opened used up prefix in
      is ∙ sym (ap (unspoilt_by (is_silent seen.server seen.shut)) none ∙ unspoilt_none (is_silent seen.server seen.shut))

  -- it is the side that the request goes to
  pub kept_side : (place : Place) (at : At) (request : Request) (bytes from : ℕ) (left : List Reply) (events : List (Timed Event)) → IsSame prefix events → IsKept parked opened used.server waiting prefix →
      side_over place (start_of at waiting bytes from left) request events ≡ parked_for place request (unspoilt_there parked since opened used up prefix)
  kept_side place at request bytes from left events same keeps =
      ap (parked_for place request) (sym (still_same waiting.parked waiting.opened waiting.used prefix events same) ∙ kept_still keeps)

  -- where it goes to one, that one was heard behind so many events and bytes
  pub kept_served : (place : Place) (request : Request) (server : ℕ) → IsKept parked opened used.server waiting prefix →
      parked_for place request (unspoilt_there parked since opened used up prefix) ≡ Some server → (waiting.opened ≡ opened) × (waiting.used ≡ used.server)
  kept_served place request server (is_parked is) to = (ap (λ (w : Waiting). w.opened) is, ap (λ (w : Waiting). w.used) is)
  kept_served place request server (is_gone none is) to =
      let seen = parked_seen parked since opened used up prefix in
      absurd (none_for place request (unspoilt_there parked since opened used up prefix) server
      (ap (unspoilt_by (is_silent seen.server seen.shut)) none ∙ unspoilt_none (is_silent seen.server seen.shut)) to)

-- a reply forgets a side of which something was heard
pub kept_unspoilt : (parked : Option Parked) (since : Since) (opened : ℕ) (used : UsedBytes) (up : ℕ) (prefix : List (Timed Event)) (waiting : Waiting) → IsKept parked opened used.server waiting prefix →
    let there = unspoilt_there parked since opened used up prefix in
    IsKept there opened (used_behind false (side_parked there) used.server) waiting prefix
kept_unspoilt parked since opened used up prefix waiting (is_gone none is) =
    let seen = parked_seen parked since opened used up prefix in
    is_gone (ap (unspoilt_by (is_silent seen.server seen.shut)) none ∙ unspoilt_none (is_silent seen.server seen.shut)) is
kept_unspoilt None since opened used up prefix waiting (is_parked is) =
    is_gone (unspoilt_none _) (ap (λ (w : Waiting). still_parked prefix w.parked w.opened w.used) is)
kept_unspoilt (Some parked) since opened used up prefix waiting (is_parked is) =
    let told = told_by prefix parked.server opened used.server in
    by_silent (is_silent told.bytes told.shut) refl
  where
    by_silent : (silent : Bool) → is_silent (told_by prefix parked.server opened used.server).bytes (told_by prefix parked.server opened used.server).shut ≡ silent →
        IsKept (unspoilt_by silent (Some parked)) opened (used_behind false (side_parked (unspoilt_by silent (Some parked))) used.server) waiting prefix
    by_silent true tells = is_parked is
    by_silent false tells = is_gone refl (ap (λ (w : Waiting). still_parked prefix w.parked w.opened w.used) is ∙ ap (λ b. parked_if b parked) tells)

-- and of one that the request goes to nothing was
pub kept_silent : (parked : Option Parked) (since : Since) (opened : ℕ) (used : UsedBytes) (up : ℕ) (prefix : List (Timed Event)) (place : Place) (request : Request) (server : ℕ) →
    parked_for place request (unspoilt_there parked since opened used up prefix) ≡ Some server →
    let told = told_by prefix server opened used.server in is_silent told.bytes told.shut ≡ true
kept_silent None since opened used up prefix place request server to = absurd (none_for place request (unspoilt_there None since opened used up prefix) server (unspoilt_none _) to)
kept_silent (Some parked) since opened used up prefix place request server to =
    let told = told_by prefix parked.server opened used.server in
    by_silent (is_silent told.bytes told.shut) refl to
  where
    by_silent : (silent : Bool) → is_silent (told_by prefix parked.server opened used.server).bytes (told_by prefix parked.server opened used.server).shut ≡ silent →
        parked_for place request (unspoilt_by silent (Some parked)) ≡ Some server →
        is_silent (told_by prefix server opened used.server).bytes (told_by prefix server opened used.server).shut ≡ true
    by_silent true tells is =
        let same = side_some (is_same_address parked.address (server_for place request)) parked.server server is in
        let P : ℕ → Type 0 = λ n. is_silent (told_by prefix n opened used.server).bytes (told_by prefix n opened used.server).shut ≡ true in
        subst P same tells
    by_silent false tells is = absurd (none_for place request None server refl is)

-- ---- behind a whole response

and_right : (a b : Bool) → (a && b) ≡ true → b ≡ true
and_right true b is = is
and_right false b is = absurd (let no : false ≡ true = is in cc)

and_true : (a : Bool) → (a && true) ≡ false → a ≡ false
and_true true is = is
and_true false is = refl

-- how many bytes are used of a side that is kept, or of none
abbrev pub server_kept : Bool → ℕ → ℕ
server_kept true used = used
server_kept false used = 0

module _ (place : Place) (asked : Request) (side opened used : ℕ) (prefix : List (Timed Event)) where
  abbrev pub told_there : Told
  told_there = told_by prefix side opened used

  abbrev pub answers_there : Answers
  answers_there = answers_to asked told_there

  -- what waits then
  abbrev pub waits_behind : Waiting
  waits_behind = record { parked = parked_behind place asked answers_there.final side; opened = opened; used = used_by_answers answers_there used }

  abbrev pub silent_behind : Bool
  silent_behind = is_silent (left_by_answers answers_there told_there.bytes) told_there.shut

  abbrev pub this_side : Parked
  this_side = record { server = side; address = server_for place asked }

  module _ (head : ResponseHead) (body : Body) (trailers : List (List ℕ × List ℕ)) (size : ℕ) (whole : answers_there.final ≡ complete head body trailers size) where
    abbrev pub persists : Bool
    persists = sent_persists asked && read_persists asked head

    parked_is : waits_behind.parked ≡ parked_if persists this_side
    parked_is = ap (λ i. parked_behind place asked i side) whole

    pub behind_kept : (silent_behind && persists) ≡ true → IsKept (Some this_side) opened (used_by_answers answers_there used) waits_behind prefix
    behind_kept is =
        let there = parked_is ∙ ap (λ b. parked_if b this_side) (and_right silent_behind persists is) in
        is_parked (λ i. record { parked = there i; opened = opened; used = used_by_answers answers_there used })

    pub behind_gone : (silent_behind && persists) ≡ false → (none : ℕ) → IsKept None opened none waits_behind prefix
    behind_gone is none = is_gone refl (ap (λ p. still_parked prefix p opened (used_by_answers answers_there used)) parked_is ∙ by_persists persists is)
      where
        by_persists : (both : Bool) → (silent_behind && both) ≡ false → still_parked prefix (parked_if both this_side) opened (used_by_answers answers_there used) ≡ None
        by_persists false is = refl
        by_persists true is =
            let bytes = bytes_of (Server side) (drop opened prefix) in
            ap (λ l. parked_if (is_silent l told_there.shut) this_side) (sym (answers_drop answers_there told_there.bytes used bytes refl))
            ∙ ap (λ b. parked_if b this_side) (and_true silent_behind is)

    -- so it is at the stage behind it
    pub behind_parks : (at : At) (kept : Bool) → (silent_behind && persists) ≡ kept →
        IsKept (parks kept place at asked side).parked opened (server_kept kept (used_by_answers answers_there used)) waits_behind prefix
    behind_parks at true is = behind_kept is
    behind_parks at false is = behind_gone is 0
