-- Where both halves of passing have gone on already, a stage stays, or is given its response: nothing is owed, and the place is the same.
use Rattle.std.proofs.Common.{◌≡◌, ℕ, Bool, true, false, [], ◌++◌, Option, Some, None, refl, ap, sym, ◌∙◌, subst}
use Rattle.std.specs.Prelude.{⊤}
use Rattle.px_message.specs.declared.flow.Flow.{Flow}
use Rattle.px_message.specs.declared.response.Response.{Response}
use Rattle.px_event.specs.declared.command.Command.{Command}
use Rattle.px_event.specs.Chain.{Turn}
use Rattle.px_read.specs.Items.{Item, bad_body, bad_head, complete, missing, part}
use Rattle.px_read.specs.declared.head.RequestHead.{RequestHead as ReadRequest}
use Rattle.px_exchange.specs.declared.terms.Terms.{Terms}
use Rattle.px_chain.specs.Chain.{begin_up, come_down, end_by, end_up, goes_to, going_at, gone_by, gone_up, pass, pass_came, pass_given, pass_going, pass_kept, past_came, past_gone, past_kept, sequence, sight_begun, sight_come, sight_ended, sight_gone, sight_past}
use Rattle.px_chain.specs.Coming.{Came, came_in, streaming, streams_in}
use Rattle.px_chain.specs.Going.{whole_in}
use Rattle.px_chain.specs.Sights.{Sight, left_by, request_in}
use Rattle.px_chain.specs.Stages.{At, Doing, Stage, busy, coming_down, connection, given_body, given_head, idle, next, over, request_body, response_body, response_head, upgraded}
use Rattle.px_stream.specs.Passes.{IsCome, IsPassed}
use Rattle.px_stream.specs.Stands.{HasPlace}

-- the two steps behind the first, and what is left to see
abbrev pub both_by : Terms → Stage → Sight → Turn Stage Command
both_by terms to left =
    let up = end_up terms to left in
    let down = come_down terms up.stage (sight_ended to left) in
    record { owed = up.owed ++ down.owed; stage = down.stage }

abbrev pub left_both : Terms → Stage → Sight → Sight
left_both terms to left = sight_come (end_up terms to left).stage (sight_ended to left)

-- ---- it stays

pub record Stays (stage : Stage) (seen : Sight) (turn : Turn Stage Command) (past : Sight) : Type 0 where
  pub goes : turn ≡ goes_to stage
  pub left : past ≡ seen

stays_there : (stage : Stage) (seen : Sight) → Stays stage seen (goes_to stage) seen
stays_there stage seen = record { goes = refl; left = refl }

-- a response comes down no further
pub come_stays : (terms : Terms) (stage : Stage) (seen : Sight) → IsCome stage seen → Stays stage seen (come_down terms stage seen) (sight_come stage seen)
come_stays terms (idle at) seen is = stays_there (idle at) seen
come_stays terms (busy at flow (request_body given most)) seen is = stays_there (busy at flow (request_body given most)) seen
come_stays terms (busy at flow (connection how)) seen is = stays_there (busy at flow (connection how)) seen
come_stays terms (busy at flow (response_head server how)) seen is = stays_there (busy at flow (response_head server how)) seen
come_stays terms (busy at flow (response_body server how most)) seen is =
    let stage : Stage = busy at flow (response_body server how most) in
    let P : Bool → Type 0 = λ b. Stays stage seen (pass_kept b terms.place at flow server how most seen) (past_kept b (came_in (streaming flow) seen) seen) in
    subst P (sym is) (stays_there stage seen)
come_stays terms (busy at flow (coming_down server how)) seen is =
    let stage : Stage = busy at flow (coming_down server how) in
    let P : Option Came → Type 0 = λ c. Stays stage seen (pass_came terms.place at flow server how seen c) (past_came c seen) in
    subst P (sym is) (stays_there stage seen)
come_stays terms (busy at flow (upgraded server)) seen is = stays_there (busy at flow (upgraded server)) seen
come_stays terms (busy at flow given_head) seen is = stays_there (busy at flow given_head) seen
come_stays terms (busy at flow given_body) seen is = stays_there (busy at flow given_body) seen
come_stays terms (next at) seen is = stays_there (next at) seen
come_stays terms over seen is = stays_there over seen

-- nor is a request whole that goes up
both_stay : (terms : Terms) (at : At) (flow : Flow) (doing : Doing) (seen : Sight) → gone_by (going_at doing) (whole_in seen) ≡ None → IsCome (busy at flow doing) seen →
    Stays (busy at flow doing) seen (both_by terms (busy at flow doing) seen) (left_both terms (busy at flow doing) seen)
both_stay terms at flow doing seen gone come =
    let stage : Stage = busy at flow doing in
    let down : Stays stage seen (come_down terms stage seen) (sight_come stage seen) = come_stays terms stage seen come in
    let P : Option ℕ → Type 0 = λ g. (let up = end_by g terms.place at flow doing seen in let down = come_down terms up.stage (past_gone g seen) in
    Stays stage seen (record { owed = up.owed ++ down.owed; stage = down.stage }) (sight_come up.stage (past_gone g seen))) in
    let here : P None = record { goes = down.goes; left = down.left } in
    subst P (sym gone) here

-- all but one whose response is given already
abbrev pub NotGiven : Stage → Type 0
NotGiven (busy at flow (request_body (Some given) most)) = ⊥
NotGiven stage = ⊤

pub passed_stays : (terms : Terms) (stage : Stage) (seen : Sight) → NotGiven stage → IsPassed terms.place stage seen → Stays stage seen (pass terms stage seen) (sight_past terms stage seen)
passed_stays terms (idle at) seen other is = stays_there (idle at) seen
passed_stays terms (busy at flow (request_body None most)) seen other is =
    let stage : Stage = busy at flow (request_body None most) in
    let P : Bool → Type 0 = λ b. Stays stage seen (both_by terms (pass_going b terms.place at flow most seen) seen) (left_both terms (pass_going b terms.place at flow most seen) seen) in
    let here : P false = stays_there stage seen in
    subst P (sym is.gone) here
passed_stays terms (busy at flow (request_body (Some given) most)) seen other is = absurd other
passed_stays terms (busy at flow (connection how)) seen other is = stays_there (busy at flow (connection how)) seen
passed_stays terms (busy at flow (response_head server how)) seen other is = both_stay terms at flow (response_head server how) seen is.gone is.come
passed_stays terms (busy at flow (response_body server how most)) seen other is = both_stay terms at flow (response_body server how most) seen is.gone is.come
passed_stays terms (busy at flow (coming_down server how)) seen other is = both_stay terms at flow (coming_down server how) seen is.gone is.come
passed_stays terms (busy at flow (upgraded server)) seen other is = stays_there (busy at flow (upgraded server)) seen
passed_stays terms (busy at flow given_head) seen other is = stays_there (busy at flow given_head) seen
passed_stays terms (busy at flow given_body) seen other is = stays_there (busy at flow given_body) seen
passed_stays terms (next at) seen other is = stays_there (next at) seen
passed_stays terms over seen other is = stays_there over seen

-- ---- one whose response is given already

abbrev given_turn : Terms → At → Flow → Response → Option ℕ → Item ReadRequest → Sight → Turn Stage Command
given_turn terms at flow given most item seen = both_by terms (pass_given at flow given most item seen.now) (record seen { client = left_by item seen.client })

abbrev given_past : Terms → At → Flow → Response → Option ℕ → Item ReadRequest → Sight → Sight
given_past terms at flow given most item seen = left_both terms (pass_given at flow given most item seen.now) (record seen { client = left_by item seen.client })

-- where it stays, it leaves all of the sight
given_left : (terms : Terms) (at : At) (flow : Flow) (given : Response) (most : Option ℕ) (item : Item ReadRequest) (seen : Sight) →
    given_turn terms at flow given most item seen ≡ goes_to (busy at flow (request_body (Some given) most)) → given_past terms at flow given most item seen ≡ seen
given_left terms at flow given most missing seen is = refl
given_left terms at flow given most (part head body) seen is = refl
given_left terms at flow given most (complete head body trailers size) seen is =
    absurd (let no : given_head ≡ request_body (Some given) most = ap (λ (t : Turn Stage Command). doing_of t.stage) is in cc)
  where
    doing_of : Stage → Doing
    doing_of (busy at flow doing) = doing
    doing_of stage = given_head
given_left terms at flow given most (bad_head fault) seen is = refl
given_left terms at flow given most (bad_body fault head body) seen is = refl

-- So a stage that passes no more leaves all of a sight.
pub once_stays : (terms : Terms) (stage : Stage) (seen : Sight) → IsPassed terms.place stage seen → pass terms stage seen ≡ goes_to stage → Stays stage seen (pass terms stage seen) (sight_past terms stage seen)
once_stays terms (idle at) seen is once = passed_stays terms (idle at) seen tt is
once_stays terms (busy at flow (request_body None most)) seen is once = passed_stays terms (busy at flow (request_body None most)) seen tt is
once_stays terms (busy at flow (request_body (Some given) most)) seen is once = record { goes = once; left = given_left terms at flow given most (request_in seen) seen once }
once_stays terms (busy at flow (connection how)) seen is once = passed_stays terms (busy at flow (connection how)) seen tt is
once_stays terms (busy at flow (response_head server how)) seen is once = passed_stays terms (busy at flow (response_head server how)) seen tt is
once_stays terms (busy at flow (response_body server how most)) seen is once = passed_stays terms (busy at flow (response_body server how most)) seen tt is
once_stays terms (busy at flow (coming_down server how)) seen is once = passed_stays terms (busy at flow (coming_down server how)) seen tt is
once_stays terms (busy at flow (upgraded server)) seen is once = passed_stays terms (busy at flow (upgraded server)) seen tt is
once_stays terms (busy at flow given_head) seen is once = passed_stays terms (busy at flow given_head) seen tt is
once_stays terms (busy at flow given_body) seen is once = passed_stays terms (busy at flow given_body) seen tt is
once_stays terms (next at) seen is once = passed_stays terms (next at) seen tt is
once_stays terms over seen is once = passed_stays terms over seen tt is

-- ---- nothing is owed

-- the flow goes on, nothing is owed by that, and the place stays
pub record IsQuiet (stage : Stage) (seen : Sight) (turn : Turn Stage Command) (past : Sight) : Type 0 where
  pub same : sequence turn.stage ≡ turn.stage
  pub owes : turn.owed ≡ []
  pub place : (at : At) (closed : Bool) → HasPlace stage seen at closed → HasPlace turn.stage past at closed

stay_quiet : (stage : Stage) (seen : Sight) (turn : Turn Stage Command) (past : Sight) → sequence stage ≡ stage → Stays stage seen turn past → IsQuiet stage seen turn past
stay_quiet stage seen turn past goes stays =
    let here : IsQuiet stage seen (goes_to stage) seen = record { same = goes; owes = refl; place = λ at closed is. is } in
    subst (λ t. IsQuiet stage seen t past) (sym stays.goes) (subst (λ s. IsQuiet stage seen (goes_to stage) s) (sym stays.left) here)

given_quiet : (terms : Terms) (here : At) (flow : Flow) (given : Response) (most : Option ℕ) (item : Item ReadRequest) (seen : Sight) →
    IsQuiet (busy here flow (request_body (Some given) most)) seen (given_turn terms here flow given most item seen) (given_past terms here flow given most item seen)
given_quiet terms here flow given most missing seen = record { same = refl; owes = refl; place = λ at closed is. record { is_here = is.is_here; client = is.client } }
given_quiet terms here flow given most (part head body) seen = record { same = refl; owes = refl; place = λ at closed is. record { is_here = is.is_here; client = is.client } }
given_quiet terms here flow given most (complete head body trailers size) seen = record { same = refl; owes = refl; place = λ at closed is. record { is_here = is.is_here; client = is.client } }
given_quiet terms here flow given most (bad_head fault) seen = record { same = refl; owes = refl; place = λ at closed is. record { is_here = is.is_here; client = is.client } }
given_quiet terms here flow given most (bad_body fault head body) seen = record { same = refl; owes = refl; place = λ at closed is. record { is_here = is.is_here; client = is.client } }

-- So passing is quiet where it has gone on already.
pub passes_quiet : (terms : Terms) (stage : Stage) (seen : Sight) → sequence stage ≡ stage → IsPassed terms.place stage seen → IsQuiet stage seen (pass terms stage seen) (sight_past terms stage seen)
passes_quiet terms (idle at) seen goes is = stay_quiet (idle at) seen _ _ goes (passed_stays terms (idle at) seen tt is)
passes_quiet terms (busy at flow (request_body None most)) seen goes is =
    stay_quiet (busy at flow (request_body None most)) seen _ _ goes (passed_stays terms (busy at flow (request_body None most)) seen tt is)
passes_quiet terms (busy at flow (request_body (Some given) most)) seen goes is = given_quiet terms at flow given most (request_in seen) seen
passes_quiet terms (busy at flow (connection how)) seen goes is = stay_quiet (busy at flow (connection how)) seen _ _ goes (passed_stays terms (busy at flow (connection how)) seen tt is)
passes_quiet terms (busy at flow (response_head server how)) seen goes is =
    stay_quiet (busy at flow (response_head server how)) seen _ _ goes (passed_stays terms (busy at flow (response_head server how)) seen tt is)
passes_quiet terms (busy at flow (response_body server how most)) seen goes is =
    stay_quiet (busy at flow (response_body server how most)) seen _ _ goes (passed_stays terms (busy at flow (response_body server how most)) seen tt is)
passes_quiet terms (busy at flow (coming_down server how)) seen goes is =
    stay_quiet (busy at flow (coming_down server how)) seen _ _ goes (passed_stays terms (busy at flow (coming_down server how)) seen tt is)
passes_quiet terms (busy at flow (upgraded server)) seen goes is = stay_quiet (busy at flow (upgraded server)) seen _ _ goes (passed_stays terms (busy at flow (upgraded server)) seen tt is)
passes_quiet terms (busy at flow given_head) seen goes is = stay_quiet (busy at flow given_head) seen _ _ goes (passed_stays terms (busy at flow given_head) seen tt is)
passes_quiet terms (busy at flow given_body) seen goes is = stay_quiet (busy at flow given_body) seen _ _ goes (passed_stays terms (busy at flow given_body) seen tt is)
passes_quiet terms (next at) seen goes is = absurd (let no : idle at ≡ next at = goes in cc)
passes_quiet terms over seen goes is = stay_quiet over seen _ _ goes (passed_stays terms over seen tt is)

-- ---- the client's close and the moment stay

pub record KeepsClient (seen past : Sight) : Type 0 where
  pub closed : past.closed ≡ seen.closed
  pub now : past.now ≡ seen.now

came_keeps : (came : Option Came) (seen : Sight) → KeepsClient seen (past_came came seen)
came_keeps None seen = record { closed = refl; now = refl }
came_keeps (Some came) seen = record { closed = refl; now = refl }

kept_keeps : (streams : Bool) (came : Option Came) (seen : Sight) → KeepsClient seen (past_kept streams came seen)
kept_keeps true came seen = came_keeps came seen
kept_keeps false came seen = record { closed = refl; now = refl }

come_keeps : (stage : Stage) (seen : Sight) → KeepsClient seen (sight_come stage seen)
come_keeps (idle at) seen = record { closed = refl; now = refl }
come_keeps (busy at flow (request_body given most)) seen = record { closed = refl; now = refl }
come_keeps (busy at flow (connection how)) seen = record { closed = refl; now = refl }
come_keeps (busy at flow (response_head side how)) seen = record { closed = refl; now = refl }
come_keeps (busy at flow (response_body side how most)) seen = kept_keeps (streams_in flow most seen) (came_in (streaming flow) seen) seen
come_keeps (busy at flow (coming_down side how)) seen = came_keeps (came_in flow seen) seen
come_keeps (busy at flow (upgraded side)) seen = record { closed = refl; now = refl }
come_keeps (busy at flow given_head) seen = record { closed = refl; now = refl }
come_keeps (busy at flow given_body) seen = record { closed = refl; now = refl }
come_keeps (next at) seen = record { closed = refl; now = refl }
come_keeps over seen = record { closed = refl; now = refl }

gone_keeps : (g : Option ℕ) (seen : Sight) → KeepsClient seen (past_gone g seen)
gone_keeps None seen = record { closed = refl; now = refl }
gone_keeps (Some server) seen = record { closed = refl; now = refl }

end_keeps : (stage : Stage) (seen : Sight) → KeepsClient seen (sight_ended stage seen)
end_keeps (idle at) seen = record { closed = refl; now = refl }
end_keeps (busy at flow doing) seen = gone_keeps (gone_by (going_at doing) (whole_in seen)) seen
end_keeps (next at) seen = record { closed = refl; now = refl }
end_keeps over seen = record { closed = refl; now = refl }

begin_keeps : (stage : Stage) (seen : Sight) → KeepsClient seen (sight_begun stage seen)
begin_keeps (idle at) seen = record { closed = refl; now = refl }
begin_keeps (busy at flow (request_body None most)) seen = record { closed = refl; now = refl }
begin_keeps (busy at flow (request_body (Some given) most)) seen = record { closed = refl; now = refl }
begin_keeps (busy at flow (connection how)) seen = record { closed = refl; now = refl }
begin_keeps (busy at flow (response_head side how)) seen = record { closed = refl; now = refl }
begin_keeps (busy at flow (response_body side how most)) seen = record { closed = refl; now = refl }
begin_keeps (busy at flow (coming_down side how)) seen = record { closed = refl; now = refl }
begin_keeps (busy at flow (upgraded side)) seen = record { closed = refl; now = refl }
begin_keeps (busy at flow given_head) seen = record { closed = refl; now = refl }
begin_keeps (busy at flow given_body) seen = record { closed = refl; now = refl }
begin_keeps (next at) seen = record { closed = refl; now = refl }
begin_keeps over seen = record { closed = refl; now = refl }

keeps_both : (one two three : Sight) → KeepsClient one two → KeepsClient two three → KeepsClient one three
keeps_both one two three first second = record { closed = second.closed ∙ first.closed; now = second.now ∙ first.now }

pub gone_up_keeps : (terms : Terms) (stage : Stage) (seen : Sight) → KeepsClient seen (sight_gone terms stage seen)
gone_up_keeps terms stage seen =
    keeps_both seen (sight_begun stage seen) (sight_gone terms stage seen) (begin_keeps stage seen) (end_keeps (begin_up terms stage seen) (sight_begun stage seen))

pub past_keeps : (terms : Terms) (stage : Stage) (seen : Sight) → KeepsClient seen (sight_past terms stage seen)
past_keeps terms stage seen =
    keeps_both seen (sight_gone terms stage seen) (sight_past terms stage seen) (gone_up_keeps terms stage seen) (come_keeps (gone_up terms stage seen) (sight_gone terms stage seen))
