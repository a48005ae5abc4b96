-- What is heard of an exchange up to where it ends: a prefix of the events begins it, and what was told by then is carried on.
use Rattle.std.proofs.Common.{◌≡◌, ℕ, zero, suc, ◌+◌, ◌≤◌, Bool, true, false, List, [], ◌∷◌, ◌++◌, length, drop, Option, Some, None, refl, ap, sym, ◌∙◌, subst, arith}
use Rattle.std.specs.Prelude.{◌&&◌, take}
use Rattle.px_text.specs.Least.{least}
use Rattle.px_text.specs.Prefix.{IsPrefixOf}
use Rattle.px_message.specs.declared.request.Request.{Request}
use Rattle.px_event.specs.declared.event.Event.{Event}
use Rattle.px_event.specs.declared.side.Side.TheVariants.{Server}
use Rattle.px_event.specs.Chain.{Timed}
use Rattle.px_read.specs.Items.{answer_list}
use Rattle.px_read.specs.Laws.{is_begun}
use Rattle.px_read.specs.declared.head.ResponseHead.{ResponseHead}
use Rattle.px_read.proofs.AnswerLemmas.{AnswersCarry}
use Rattle.px_exchange.specs.Finds.{is_relayed}
use Rattle.px_exchange.specs.Requests.{is_head}
use Rattle.px_parts.specs.Streamed.{response_streams}
use Rattle.px_parts.specs.Texts.{final_bytes, final_so_far}
use Rattle.px_parts.proofs.StreamedLemmas.{response-streams_on}
use Rattle.px_parts.proofs.TextLemmas.{final_text-grows}
use Rattle.px_exchange.specs.Flows.{response_of}
use Rattle.px_chain.specs.Coming.{framed_as}
use Rattle.px_said.specs.ClosedForm.{Told, told_by}
use Rattle.px_said.specs.Lines.{answers_to, comes_down, text_down, until}
use Rattle.px_said.proofs.ClosedFronts.{Grows, IsFront, IsSame, Waits, answers_grow, drop_on, front_behind, grows_behind, same_taken, side_grows}
use Rattle.px_said.proofs.ParkedFronts.{front_taken, least_behind}

-- ---- so many of the events

pub same_more : (n : ℕ) (prefix events : List (Timed Event)) → IsSame prefix events → length prefix ≤ n → IsSame prefix (take n events)
same_more zero [] [] is less = tt
same_more (suc n) [] [] is less = tt
same_more n [] (x ∷ events) is less = absurd is
same_more n (e ∷ prefix) [] is less = absurd is
same_more zero (e ∷ prefix) (x ∷ events) is less = absurd (omega (arith, less))
same_more (suc n) (e ∷ prefix) (x ∷ events) is less = (is.0, same_more n prefix events is.1 (omega (arith, less)))

-- ---- up to where something holds

module _ (test : ℕ → Bool) (went : ℕ) (prefix events : List (Timed Event)) (waits : Waits test went (length prefix)) where
  front_by : (found : Option ℕ) → least test went (length events + 1) ≡ found → IsFront prefix events → IsFront prefix (until found events)
  front_by None is front = front
  front_by (Some k) is front = front_taken prefix events k front (least_behind test went (length prefix) (length events + 1) k waits is)

  pub front_until : IsFront prefix events → IsFront prefix (until (least test went (length events + 1)) events)
  front_until front = front_by (least test went (length events + 1)) refl front

  same_by : (found : Option ℕ) → least test went (length events + 1) ≡ found → IsSame prefix events → IsSame prefix (until found events)
  same_by None is same = same
  same_by (Some k) is same = same_more k prefix events same (least_behind test went (length prefix) (length events + 1) k waits is)

  -- where all events are those of the prefix
  pub same_until : IsSame prefix events → IsSame prefix (until (least test went (length events + 1)) events)
  same_until same = same_by (least test went (length events + 1)) refl same

  -- and where it holds over the prefix
  pub same_ended : IsFront prefix events → least test went (length events + 1) ≡ Some (length prefix) → IsSame prefix (until (least test went (length events + 1)) events)
  same_ended front is = subst (λ found. IsSame prefix (until found events)) (sym is) (same_taken prefix events front)

-- ---- what was told

-- what more was told goes on with it
pub data GoesOn (told later : Told) : Type 0 where
  on_same : later ≡ told → GoesOn told later
  on_more : told.shut ≡ false → IsPrefixOf told.bytes later.bytes → GoesOn told later

on_by : (told later : Told) (shut : Bool) → told.shut ≡ shut → Grows told.bytes told.shut later.bytes later.shut → GoesOn told later
on_by told later true is grows =
    let both = grows.shuts is in
    on_same (λ i. record { bytes = both.1 i; shut = (both.0 ∙ sym is) i })
on_by told later false is grows = on_more is (grows.more, grows.grown)

pub told_on : (server opened used : ℕ) (prefix events : List (Timed Event)) → IsFront prefix events → GoesOn (told_by prefix server opened used) (told_by events server opened used)
told_on server opened used prefix events is =
    on_by (told_by prefix server opened used) (told_by events server opened used) (told_by prefix server opened used).shut refl
    (grows_behind used _ _ _ _ (side_grows (Server server) (drop opened prefix) (drop opened events) (front_behind opened prefix events is)))

pub answers_on : (request : Request) (server opened used : ℕ) (prefix events : List (Timed Event)) → IsFront prefix events →
    AnswersCarry (answers_to request (told_by prefix server opened used)) (answers_to request (told_by events server opened used))
answers_on request server opened used prefix events is = answers_grow (is_head request.method) server opened used prefix events is

-- ---- a response that is streamed stays so, and its text grows

both_true : (a b : Bool) → (a && b) ≡ true → (a ≡ true) × (b ≡ true)
both_true true b is = (refl, is)
both_true false b is = absurd (let no : false ≡ true = is in cc)

true_both : (a b : Bool) → a ≡ true → b ≡ true → (a && b) ≡ true
true_both true b first second = second
true_both false b first second = first

dropped_on : (n m : ℕ) (bytes more : List ℕ) → m ≡ n → (further : List ℕ) × (drop m (bytes ++ more) ≡ drop n bytes ++ further)
dropped_on n m bytes more is =
    let on = drop_on n bytes more in (on.0, ap (λ k. drop k (bytes ++ more)) is ∙ on.1)

streams_more : (status : ℕ) (asked_head : Bool) (told later : Told) (allowed : Option ℕ) → GoesOn told later →
    AnswersCarry (answer_list asked_head told.shut told.bytes) (answer_list asked_head later.shut later.bytes) → is_begun (answer_list asked_head told.shut told.bytes).final ≡ true →
    response_streams status asked_head told.shut allowed (final_bytes asked_head told.shut told.bytes) ≡ true →
    response_streams status asked_head later.shut allowed (final_bytes asked_head later.shut later.bytes) ≡ true
streams_more status asked_head told later allowed (on_same is) carry begun streams =
    ap (λ (t : Told). response_streams status asked_head t.shut allowed (final_bytes asked_head t.shut t.bytes)) is ∙ streams
streams_more status asked_head told later allowed (on_more shut (more, is)) carry begun streams =
    let used = (carry.begun begun).1 in
    let further = dropped_on (answer_list asked_head told.shut told.bytes).used (answer_list asked_head later.shut later.bytes).used told.bytes more used in
    let P : List ℕ → Type 0 = λ l. response_streams status asked_head later.shut allowed l ≡ true in
    let first : response_streams status asked_head false allowed (final_bytes asked_head told.shut told.bytes) ≡ true =
    ap (λ b. response_streams status asked_head b allowed (final_bytes asked_head told.shut told.bytes)) (sym shut) ∙ streams in
    subst P (sym (ap (λ l. drop (answer_list asked_head later.shut later.bytes).used l) is ∙ further.1))
    (response-streams_on status asked_head later.shut allowed (final_bytes asked_head told.shut told.bytes) further.0 first)

-- One that comes down does so over all that is heard of it.
pub comes_on : (allowed : Option ℕ) (asked_head : Bool) (told later : Told) (head : ResponseHead) → GoesOn told later →
    AnswersCarry (answer_list asked_head told.shut told.bytes) (answer_list asked_head later.shut later.bytes) → is_begun (answer_list asked_head told.shut told.bytes).final ≡ true →
    comes_down allowed asked_head told (Some head) ≡ true → comes_down allowed asked_head later (Some head) ≡ true
comes_on allowed asked_head told later head on carry begun is =
    let both = both_true (is_relayed head.code) _ is in
    true_both (is_relayed head.code) _ both.0 (streams_more head.code asked_head told later allowed on carry begun both.1)

pub text_grows : (request : Request) (told later : Told) (head : ResponseHead) → GoesOn told later → is_begun (answers_to request told).final ≡ true →
    IsPrefixOf (text_down request told (Some head)) (text_down request later (Some head))
text_grows request told later head (on_same is) begun =
    let P : Told → Type 0 = λ t. IsPrefixOf (text_down request told (Some head)) (text_down request t (Some head)) in
    subst P (sym is) ([], append_none (text_down request told (Some head)))
  where
    append_none : (text : List ℕ) → text ≡ text ++ []
    append_none [] = refl
    append_none (byte ∷ text) = ap (λ l. byte ∷ l) (append_none text)
text_grows request told later head (on_more shut (more, is)) begun =
    let sent = framed_as head (response_of head) in
    let asked_head = is_head request.method in
    let open_begun : is_begun (answer_list asked_head false told.bytes).final ≡ true = ap (λ b. is_begun (answer_list asked_head b told.bytes).final) (sym shut) ∙ begun in
    let P : List ℕ → Type 0 = λ l. IsPrefixOf (text_down request told (Some head)) (final_so_far sent asked_head later.shut l) in
    let Q : Bool → Type 0 = λ b. IsPrefixOf (final_so_far sent asked_head b told.bytes) (final_so_far sent asked_head later.shut (told.bytes ++ more)) in
    subst P (sym is) (subst Q (sym shut) (final_text-grows sent asked_head later.shut told.bytes more open_begun))
