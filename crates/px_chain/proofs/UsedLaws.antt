-- What a stage uses of the bytes that it sees had come, and what it leaves is what stands behind that.
use Rattle.std.proofs.Common.{◌≡◌, ℕ, ◌+◌, ◌≤◌, List, drop, length, refl, ap, ◌∙◌, arith}
use Rattle.std.proofs.lemmas.List.{drop-drop, length-drop}
use Rattle.px_message.specs.declared.request.Request.{Request}
use Rattle.px_read.specs.Items.{Answers, Body, Item, missing, part, complete, bad_head, bad_body}
use Rattle.px_read.proofs.AnswerLemmas.{AreWithin, answers_used}
use Rattle.px_read.proofs.ItemLemmas.{request_used}
use Rattle.px_read.proofs.LawLemmas.{chunk_laws}
use Rattle.px_exchange.specs.Requests.{is_head}
use Rattle.px_chain.specs.Sights.{Sight, answers_in, client_left, client_used, left_by, left_by_answers, request_in, server_left, server_used, used_by_answers, used_with}
use Rattle.px_chain.specs.Stages.{Stage, busy, coming_down, connection, given_body, given_head, idle, next, over, request_body, response_body, response_head, upgraded}

-- ---- what is left

pub left_drop : {H : Type 0} (item : Item H) (used : ℕ) (bytes : List ℕ) → left_by item (drop used bytes) ≡ drop (used_with item used) bytes
left_drop missing used bytes = refl
left_drop (part head body) used bytes = refl
left_drop (complete head body trailers size) used bytes = drop-drop size used bytes
left_drop (bad_head fault) used bytes = refl
left_drop (bad_body fault head body) used bytes = refl

pub client_drop : (stage : Stage) (seen : Sight) (used : ℕ) (bytes : List ℕ) → seen.client ≡ drop used bytes →
    client_left stage seen ≡ drop (client_used stage seen used) bytes
client_drop (idle at) seen used bytes is = is
client_drop (busy at flow (request_body given size)) seen used bytes is = ap (left_by (request_in seen)) is ∙ left_drop (request_in seen) used bytes
client_drop (busy at flow (connection how)) seen used bytes is = is
client_drop (busy at flow (response_head server sent)) seen used bytes is = is
client_drop (busy at flow (response_body server sent most)) seen used bytes is = is
client_drop (busy at flow (coming_down server sent)) seen used bytes is = is
client_drop (busy at flow (upgraded server)) seen used bytes is = is
client_drop (busy at flow given_head) seen used bytes is = is
client_drop (busy at flow given_body) seen used bytes is = is
client_drop (next at) seen used bytes is = is
client_drop over seen used bytes is = is

-- behind the responses to a request
pub answers_drop : (answers : Answers) (server : List ℕ) (used : ℕ) (bytes : List ℕ) → server ≡ drop used bytes →
    left_by_answers answers server ≡ drop (used_by_answers answers used) bytes
answers_drop answers server used bytes is =
    ap (λ l. left_by answers.final (drop answers.used l)) is
    ∙ (ap (λ l. left_by answers.final l) (drop-drop answers.used used bytes) ∙ left_drop answers.final (used + answers.used) bytes)

pub server_drop : (stage : Stage) (seen : Sight) (used : ℕ) (bytes : List ℕ) → seen.server ≡ drop used bytes →
    server_left stage seen ≡ drop (server_used stage seen used) bytes
server_drop (idle at) seen used bytes is = is
server_drop (busy at flow (request_body given size)) seen used bytes is = is
server_drop (busy at flow (connection how)) seen used bytes is = is
server_drop (busy at flow (response_head server sent)) seen used bytes is = is
server_drop (busy at flow (response_body server sent most)) seen used bytes is = answers_drop (answers_in flow.request seen) seen.server used bytes is
server_drop (busy at flow (coming_down server sent)) seen used bytes is = is
server_drop (busy at flow (upgraded server)) seen used bytes is = is
server_drop (busy at flow given_head) seen used bytes is = is
server_drop (busy at flow given_body) seen used bytes is = is
server_drop (next at) seen used bytes is = is
server_drop over seen used bytes is = is

-- ---- what is used had come

item_within : {H : Type 0} (item : Item H) (used come : ℕ) → used ≤ come →
    ((head : H) (body : Body) (trailers : List (List ℕ × List ℕ)) (size : ℕ) → item ≡ complete head body trailers size → used + size ≤ come) → used_with item used ≤ come
item_within missing used come within whole = within
item_within (part head body) used come within whole = within
item_within (complete head body trailers size) used come within whole = whole head body trailers size refl
item_within (bad_head fault) used come within whole = within
item_within (bad_body fault head body) used come within whole = within

-- of a whole request
pub request_within : (seen : Sight) (used : ℕ) (bytes : List ℕ) → seen.client ≡ drop used bytes → used ≤ length bytes → used_with (request_in seen) used ≤ length bytes
request_within seen used bytes is within =
    item_within (request_in seen) used (length bytes) within
    (λ head body trailers size there.
    let fits = (request_used chunk_laws seen.client head body trailers size there).1 in
    let same : length seen.client ≡ length (drop used bytes) = ap length is in
    let left = length-drop used bytes in
    omega arith)

pub client_within : (stage : Stage) (seen : Sight) (used : ℕ) (bytes : List ℕ) → seen.client ≡ drop used bytes → used ≤ length bytes →
    client_used stage seen used ≤ length bytes
client_within (idle at) seen used bytes is within = within
client_within (busy at flow (request_body given size)) seen used bytes is within = request_within seen used bytes is within
client_within (busy at flow (connection how)) seen used bytes is within = within
client_within (busy at flow (response_head server sent)) seen used bytes is within = within
client_within (busy at flow (response_body server sent most)) seen used bytes is within = within
client_within (busy at flow (coming_down server sent)) seen used bytes is within = within
client_within (busy at flow (upgraded server)) seen used bytes is within = within
client_within (busy at flow given_head) seen used bytes is within = within
client_within (busy at flow given_body) seen used bytes is within = within
client_within (next at) seen used bytes is within = within
client_within over seen used bytes is within = within

-- of the responses to a request
answers_within : (server : List ℕ) (answers : Answers) (used : ℕ) (bytes : List ℕ) → AreWithin (length server) answers →
    server ≡ drop used bytes → used ≤ length bytes → used_with answers.final (used + answers.used) ≤ length bytes
answers_within server answers used bytes fit is within =
    let same : length server ≡ length (drop used bytes) = ap length is in
    let left = length-drop used bytes in
    let interim = fit.used in
    item_within answers.final (used + answers.used) (length bytes) (omega arith)
    (λ head body trailers size there. let both = fit.final head body trailers size there in let fits = both.1 in omega arith)

pub seen_within : (request : Request) (seen : Sight) (used : ℕ) (bytes : List ℕ) → seen.server ≡ drop used bytes → used ≤ length bytes →
    used_by_answers (answers_in request seen) used ≤ length bytes
seen_within request seen used bytes is within =
    answers_within seen.server (answers_in request seen) used bytes
    (answers_used chunk_laws (length seen.server) (is_head request.method) seen.shut seen.server) is within

pub server_within : (stage : Stage) (seen : Sight) (used : ℕ) (bytes : List ℕ) → seen.server ≡ drop used bytes → used ≤ length bytes →
    server_used stage seen used ≤ length bytes
server_within (idle at) seen used bytes is within = within
server_within (busy at flow (request_body given size)) seen used bytes is within = within
server_within (busy at flow (connection how)) seen used bytes is within = within
server_within (busy at flow (response_head server sent)) seen used bytes is within = within
server_within (busy at flow (response_body server sent most)) seen used bytes is within = seen_within flow.request seen used bytes is within
server_within (busy at flow (coming_down server sent)) seen used bytes is within = within
server_within (busy at flow (upgraded server)) seen used bytes is within = within
server_within (busy at flow given_head) seen used bytes is within = within
server_within (busy at flow given_body) seen used bytes is within = within
server_within (next at) seen used bytes is within = within
server_within over seen used bytes is within = within
