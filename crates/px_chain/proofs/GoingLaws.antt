-- The text of a request that goes up: it grows with the client's bytes, depends on nothing else, and is the same where the flow's response comes or its
-- moments are noted; and how many bytes of it earlier asks owed stays where a conversation passes.
use Rattle.std.proofs.Common.{◌≡◌, ℕ, ◌≤◌, Bool, true, false, List, [], ◌∷◌, ◌++◌, length, drop, Option, Some, None, refl, ap, sym, ◌∙◌, arith, length-append}
use Rattle.std.specs.Prelude.{zero, suc}
use Rattle.std.proofs.lemmas.List.{append-nil}
use Rattle.px_text.specs.Prefix.{IsPrefixOf}
use Rattle.px_message.specs.declared.flow.Flow.{Flow}
use Rattle.px_message.specs.declared.request.Request.{Request}
use Rattle.px_event.specs.declared.event.Event.{Event}
use Rattle.px_event.specs.declared.side.Side.TheVariants.{Client}
use Rattle.px_event.specs.Chain.{Timed}
use Rattle.px_event.specs.Sides.{piece_of}
use Rattle.px_read.specs.Items.{request_item}
use Rattle.px_read.specs.Laws.{head_in, is_decided}
use Rattle.px_read.specs.declared.head.RequestHead.{RequestHead as ReadRequest}
use Rattle.px_read.proofs.ItemLemmas.{request_carries}
use Rattle.px_read.proofs.LawLemmas.{chunk_laws}
use Rattle.px_exchange.specs.declared.place.Place.{Place}
use Rattle.px_exchange.specs.declared.terms.Terms.{Terms}
use Rattle.px_exchange.specs.Places.{form_at}
use Rattle.px_parts.specs.Texts.{left_of}
use Rattle.px_parts.proofs.StreamedLemmas.{request-streams_on}
use Rattle.px_parts.proofs.TextLemmas.{left-added, request_text-grows, request_text-stays}
use Rattle.px_write.specs.declared.form.Form.{Form}
use Rattle.px_chain.specs.Chain.{passed, stands}
use Rattle.px_chain.specs.Going.{framed_up, goes_up, going_by, going_text, told_behind}
use Rattle.px_chain.specs.Sights.{Sight, Standing, request_in, sight_over, sight_with}
use Rattle.px_chain.specs.Stages.{Stage}
use Rattle.px_chain.specs.Streams.{bytes_of, client_closed}
use Rattle.px_chain.proofs.FrontLaws.{bytes_more, bytes_shut}

-- ---- it grows

going_more : (request : Request) (form : Form) (bytes more : List ℕ) (head : Option ReadRequest) → head_in (request_item bytes) ≡ head →
    IsPrefixOf (going_by (head_in (request_item bytes)) request form bytes) (going_by (head_in (request_item (bytes ++ more))) request form (bytes ++ more))
going_more request form bytes more None is = rw is (_, refl)
going_more request form bytes more (Some head) is =
    let later : head_in (request_item (bytes ++ more)) ≡ Some head = (request_carries chunk_laws bytes more).head head is in
    rw (is, later) (request_text-grows (framed_up head request) form bytes more)

going_grows : (request : Request) (form : Form) (bytes later : List ℕ) → IsPrefixOf bytes later →
    IsPrefixOf (going_by (head_in (request_item bytes)) request form bytes) (going_by (head_in (request_item later)) request form later)
going_grows request form bytes later (more, is) = rw is (going_more request form bytes more (head_in (request_item bytes)) refl)

-- Where more bytes of the client are seen, the text of the request that goes up begins with what it was.
pub going_text_grows : (place : Place) (flow : Flow) (seen later : Sight) → IsPrefixOf seen.client later.client →
    IsPrefixOf (going_text place flow seen) (going_text place flow later)
going_text_grows place flow seen later more = going_grows flow.request (form_at place) seen.client later.client more

going_stays : (request : Request) (form : Form) (bytes later : List ℕ) → IsPrefixOf bytes later → is_decided (request_item bytes) ≡ true →
    going_by (head_in (request_item later)) request form later ≡ going_by (head_in (request_item bytes)) request form bytes
going_stays request form bytes later (more, is) decided = rw is (stays_by request form bytes more (head_in (request_item bytes)) refl decided)
  where
    stays_by : (request : Request) (form : Form) (bytes more : List ℕ) (head : Option ReadRequest) → head_in (request_item bytes) ≡ head → is_decided (request_item bytes) ≡ true →
        going_by (head_in (request_item (bytes ++ more))) request form (bytes ++ more) ≡ going_by (head_in (request_item bytes)) request form bytes
    stays_by request form bytes more None is decided =
        let same : head_in (request_item (bytes ++ more)) ≡ None = ap head_in ((request_carries chunk_laws bytes more).stays decided) ∙ is in
        rw (is, same) refl
    stays_by request form bytes more (Some head) is decided =
        let later : head_in (request_item (bytes ++ more)) ≡ Some head = (request_carries chunk_laws bytes more).head head is in
        rw (is, later) (request_text-stays (framed_up head request) form bytes more decided)

-- Behind one that is whole or refused nothing more is told.
pub going_text_stays : (place : Place) (flow : Flow) (seen later : Sight) → IsPrefixOf seen.client later.client → is_decided (request_in seen) ≡ true →
    going_text place flow later ≡ going_text place flow seen
going_text_stays place flow seen later more decided = going_stays flow.request (form_at place) seen.client later.client more decided

-- It is told by the request and by the client's bytes.
pub going_text_by : (place : Place) (flow other : Flow) (seen later : Sight) → other.request ≡ flow.request → later.client ≡ seen.client →
    going_text place other later ≡ going_text place flow seen
going_text_by place flow other seen later same bytes =
    ap (λ request. going_by (head_in (request_item later.client)) request (form_at place) later.client) same
    ∙ ap (λ b. going_by (head_in (request_item b)) flow.request (form_at place) b) bytes

-- ---- it stays streamed

streams_more : (most : Option ℕ) (bytes later : List ℕ) → IsPrefixOf bytes later → goes_up most (record { client = bytes; closed = false; server = []; shut = false; told = 0; now = 0 }) ≡ true →
    goes_up most (record { client = later; closed = false; server = []; shut = false; told = 0; now = 0 }) ≡ true
streams_more most bytes later (more, is) streams = rw is (request-streams_on most bytes more streams)

-- What goes up stays so, however many more bytes of the client are seen.
pub goes_up_stays : (most : Option ℕ) (seen later : Sight) → IsPrefixOf seen.client later.client → goes_up most seen ≡ true → goes_up most later ≡ true
goes_up_stays most seen later more streams = streams_more most seen.client later.client more streams

-- ---- one event more

-- behind as many of the first, what is joined begins with what was there
pub drop_begins : {A : Type 0} (n : ℕ) (xs ys : List A) → IsPrefixOf (drop n xs) (drop n (xs ++ ys))
drop_begins zero xs ys = (ys, refl)
drop_begins (suc n) [] ys = (drop (suc n) ys, refl)
drop_begins (suc n) (x ∷ xs) ys = drop_begins n xs ys

-- With one event more, while the client has not closed, what is seen of it begins with what was seen.
pub client_on : (used : ℕ) (prefix : List (Timed Event)) (e : Timed Event) → client_closed prefix ≡ false →
    IsPrefixOf (drop used (bytes_of Client prefix)) (drop used (bytes_of Client (prefix ++ e ∷ [])))
client_on used prefix e open_client = rw (bytes_more Client prefix e open_client open_client) (drop_begins used (bytes_of Client prefix) (piece_of Client e.value))

client_grows_by : (used : ℕ) (prefix : List (Timed Event)) (e : Timed Event) (closed : Bool) → client_closed prefix ≡ closed →
    IsPrefixOf (drop used (bytes_of Client prefix)) (drop used (bytes_of Client (prefix ++ e ∷ [])))
client_grows_by used prefix e true is = ([], ap (drop used) (bytes_shut Client prefix e is) ∙ sym (append-nil (drop used (bytes_of Client prefix))))
client_grows_by used prefix e false is = client_on used prefix e is

-- behind its close nothing more is
pub client_grows : (used : ℕ) (prefix : List (Timed Event)) (e : Timed Event) → IsPrefixOf (drop used (bytes_of Client prefix)) (drop used (bytes_of Client (prefix ++ e ∷ [])))
client_grows used prefix e = client_grows_by used prefix e (client_closed prefix) refl

-- So is it in a sight with one event more.
pub client_with : (side : Option ℕ) (seen : Sight) (event : Event) (now : ℕ) → IsPrefixOf seen.client (sight_with side seen event now).client
client_with side seen event now = (piece_of Client event, refl)

-- so it is no shorter
pub going_text_longer : (place : Place) (flow : Flow) (seen later : Sight) → IsPrefixOf seen.client later.client → length (going_text place flow seen) ≤ length (going_text place flow later)
going_text_longer place flow seen later more =
    let grows = going_text_grows place flow seen later more in
    let size = ap length grows.1 ∙ length-append (going_text place flow seen) grows.0 in
    omega arith

-- What was not sent of it is what was left and what was added.
pub left_grows : (place : Place) (flow : Flow) (seen later : Sight) → IsPrefixOf seen.client later.client → seen.told ≤ length (going_text place flow seen) → later.told ≡ seen.told →
    left_of later.told (going_text place flow later)
    ≡ left_of seen.told (going_text place flow seen) ++ left_of (length (going_text place flow seen)) (going_text place flow later)
left_grows place flow seen later more within same =
    ap (λ n. left_of n (going_text place flow later)) same
    ∙ sym (left-added seen.told (going_text place flow seen) (going_text place flow later) (going_text_grows place flow seen later more) within)

-- ---- what earlier asks owed of it

-- It stays where a conversation passes.
pub told_passed : (onward : Stage → Stage) (terms : Terms) (place : Standing) (seen : Sight) → (passed onward terms place seen).told ≡ place.told
told_passed onward terms place seen = refl

-- A reply sets it to what was owed with its ask.
pub told_stood : (terms : Terms) (place : Standing) (moment : ℕ) (prefix : List (Timed Event)) (stage : Stage) →
    (stands terms place moment prefix stage).told ≡ told_behind terms.place place.stage (sight_over place prefix)
told_stood terms place moment prefix stage = refl
