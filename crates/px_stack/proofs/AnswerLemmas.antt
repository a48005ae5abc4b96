-- What has come of a server that has not answered: no head of a response stands in any part of it.
use Rattle.std.proofs.Common.{◌≡◌, ℕ, ◌+◌, Bool, true, false, List, [], ◌∷◌, ◌++◌, length, drop, refl, ap, sym, ◌∙◌, subst, append_assoc}
use Rattle.std.specs.Prelude.{zero, suc, ◌||◌, if◌then◌else◌, ⊤}
use Rattle.std.proofs.lemmas.List.{append-nil, drop-drop, drop_at}
use Rattle.px_text.specs.Prefix.{IsPrefixOf}
use Rattle.px_head.specs.Front.{response_front}
use Rattle.px_head.specs.declared.front.Front.{Front}
use Rattle.px_head.specs.declared.front.Front.TheVariants as front
use Rattle.px_event.specs.declared.event.Event.{Event}
use Rattle.px_event.specs.declared.side.Side.TheVariants.{Client, Server}
use Rattle.px_event.specs.Chain.{Timed}
use Rattle.px_event.specs.Layer.{Move}
use Rattle.px_read.specs.Items.{Answers, Item, answer_list, answers_behind, answers_within, bad_head, missing, response_item, response_told}
use Rattle.px_read.specs.Readings.{as_response, response_behind}
use Rattle.px_read.specs.declared.head.ResponseHead.{ResponseHead}
use Rattle.px_event.specs.Sides.{closes, piece_of}
use Rattle.px_chain.specs.Streams.{bytes_of}
use Rattle.px_tunnel.specs.Upstream.{awaited, granted, granting, granting_by, grants, is_success, refused}
use Rattle.px_tunnel.proofs.UpstreamLemmas.{awaited_before, granted_stays}
use Rattle.px_stack.specs.Chain.{text_of}
use Rattle.px_stack.specs.Laws.{drops}
use Rattle.px_stack.specs.Proxies.{DecidesNothing, HasNotAnswered, said_of}

-- ---- parts of a text that decides nothing

pub nothing_before : (text more : List ℕ) → DecidesNothing (text ++ more) → DecidesNothing text
nothing_before text more none skipped =
    let begins : IsPrefixOf (drop skipped text) (drop skipped (text ++ more)) = drops skipped text more in
    awaited_before (drop skipped text) begins.0 (ap (λ l. granting l false) (sym begins.1) ∙ none skipped)

pub nothing_within : (n : ℕ) (text : List ℕ) → DecidesNothing text → DecidesNothing (drop n text)
nothing_within n text none skipped = ap (λ l. granting l false) (drop-drop skipped n text) ∙ none (n + skipped)

pub nothing_behind : (text more : List ℕ) → DecidesNothing (text ++ more) → DecidesNothing more
nothing_behind text more none =
    subst DecidesNothing (drop_at text more (length text) refl) (nothing_within (length text) (text ++ more) none)

nothing_begun : (text longer : List ℕ) → IsPrefixOf text longer → DecidesNothing longer → DecidesNothing text
nothing_begun text longer (more, is) none = nothing_before text more (subst DecidesNothing is none)

-- such a text grants nothing, whether its side closed or not
pub grants_not : (text : List ℕ) (closed : Bool) (used : ℕ) → DecidesNothing text → granting text closed ≡ granted used → ⊥
grants_not text closed used none is =
    let no : granted used ≡ awaited = sym (granted_stays text [] closed false used is) ∙ awaited_more text (none 0) in cc
  where
    awaited_more : (text : List ℕ) → granting text false ≡ awaited → granting (text ++ []) false ≡ awaited
    awaited_more text is = ap (λ l. granting l false) (append-nil text) ∙ is

-- ---- what has come of a server

-- all of it, whatever closed
abbrev pub said_in : ℕ → List (Timed Event) → List ℕ
said_in server [] = []
said_in server (e ∷ prefix) = piece_of (Server server) e.value ++ said_in server prefix

pub said_more : (server : ℕ) (prefix : List (Timed Event)) (e : Timed Event) → said_in server (prefix ++ e ∷ []) ≡ said_in server prefix ++ piece_of (Server server) e.value
said_more server [] e = append-nil (piece_of (Server server) e.value)
said_more server (f ∷ prefix) e =
    ap (λ l. piece_of (Server server) f.value ++ l) (said_more server prefix e)
    ∙ sym (append_assoc (piece_of (Server server) f.value) (said_in server prefix) (piece_of (Server server) e.value))

cut_at : (cut : Bool) (piece rest all : List ℕ) → IsPrefixOf rest all → IsPrefixOf (if cut then [] else (piece ++ rest)) (piece ++ all)
cut_at true piece rest all begins = (piece ++ all, refl)
cut_at false piece rest all (more, is) = (more, ap (λ l. piece ++ l) is ∙ sym (append_assoc piece rest more))

text_begins : (server : ℕ) (prefix : List (Timed Event)) → IsPrefixOf (text_of server prefix) (said_in server prefix)
text_begins server [] = ([], refl)
text_begins server (e ∷ prefix) =
    cut_at (closes (Server server) e.value) (piece_of (Server server) e.value) (text_of server prefix) (said_in server prefix) (text_begins server prefix)

bytes_begin : (server : ℕ) (prefix : List (Timed Event)) → IsPrefixOf (bytes_of (Server server) prefix) (said_in server prefix)
bytes_begin server [] = ([], refl)
bytes_begin server (e ∷ prefix) =
    cut_at (closes Client e.value || closes (Server server) e.value) (piece_of (Server server) e.value) (bytes_of (Server server) prefix) (said_in server prefix) (bytes_begin server prefix)

said_behind : (server n : ℕ) (prefix : List (Timed Event)) → DecidesNothing (said_in server prefix) → DecidesNothing (said_in server (drop n prefix))
said_behind server zero prefix none = none
said_behind server (suc n) [] none = none
said_behind server (suc n) (e ∷ prefix) none =
    said_behind server n prefix (nothing_behind (piece_of (Server server) e.value) (said_in server prefix) none)

pub text_decides : (server opened : ℕ) (prefix : List (Timed Event)) → DecidesNothing (said_in server prefix) → DecidesNothing (text_of server (drop opened prefix))
text_decides server opened prefix none = nothing_begun _ _ (text_begins server (drop opened prefix)) (said_behind server opened prefix none)

pub bytes_decide : (server opened : ℕ) (prefix : List (Timed Event)) → DecidesNothing (said_in server prefix) → DecidesNothing (bytes_of (Server server) (drop opened prefix))
bytes_decide server opened prefix none = nothing_begun _ _ (bytes_begin server (drop opened prefix)) (said_behind server opened prefix none)

-- ---- no response is read of it

front_by : (found : Front) → granting_by found false ≡ awaited → found ≡ front.Nothing
front_by front.Nothing is = refl
front_by front.TooLong is = absurd (let no : refused ≡ awaited = is in cc)
front_by front.BadHead is = absurd (let no : refused ≡ awaited = is in cc)
front_by (front.Stands raw used) is = absurd (by (is_success raw.second) is)
  where
    by : (success : Bool) → grants success used ≡ awaited → ⊥
    by true same = let no : granted used ≡ awaited = same in cc
    by false same = let no : refused ≡ awaited = same in cc

-- no head stands there
abbrev pub IsWithoutHead : Item ResponseHead → Type 0
IsWithoutHead missing = ⊤
IsWithoutHead (bad_head fault) = ⊤
IsWithoutHead _ = ⊥

told_without : (asked_head closed : Bool) (bytes : List ℕ) (found : Front) → found ≡ front.Nothing →
    IsWithoutHead (let reading = as_response closed (response_behind found asked_head closed bytes) in response_told reading.marks reading.finish)
told_without asked_head closed bytes found is =
    let P : Front → Type 0 = λ f. IsWithoutHead (let reading = as_response closed (response_behind f asked_head closed bytes) in response_told reading.marks reading.finish) in
    subst P (sym is) (by closed)
  where
    by : (closed : Bool) → IsWithoutHead (let reading = as_response closed (response_behind front.Nothing asked_head closed bytes) in response_told reading.marks reading.finish)
    by true = tt
    by false = tt

within_without : (n : ℕ) (asked_head closed : Bool) (bytes : List ℕ) → response_front bytes ≡ front.Nothing → IsWithoutHead (answers_within n asked_head closed bytes).final
within_without zero asked_head closed bytes is = told_without asked_head closed bytes (response_front bytes) is
within_without (suc n) asked_head closed bytes is =
    let here : Answers = record { interim = []; used = 0; final = response_item asked_head closed bytes } in
    let P : Front → Type 0 = λ f. IsWithoutHead (answers_behind f (answers_within n asked_head closed) bytes here).final in
    subst P (sym is) (told_without asked_head closed bytes (response_front bytes) is)

pub answers_without : (asked_head closed : Bool) (bytes : List ℕ) → DecidesNothing bytes → IsWithoutHead (answer_list asked_head closed bytes).final
answers_without asked_head closed bytes none = within_without (length bytes) asked_head closed bytes (front_by (response_front bytes) (none 0))

-- ---- a server of which nothing has come

nothing_decides : (text : List ℕ) → text ≡ [] → DecidesNothing text
nothing_decides text is skipped = ap (λ l. granting (drop skipped l) false) is ∙ by skipped
  where
    by : (skipped : ℕ) → granting (drop skipped []) false ≡ awaited
    by zero = refl
    by (suc n) = refl

pub unheard : (server : ℕ) (moves : List Move) → said_of server moves ≡ [] → HasNotAnswered server moves
unheard server moves is = nothing_decides (said_of server moves) is
