-- Where a stage passes, what is owed of a parked side of which a byte came stays as it is, and where a flow uses a side none is parked.
use Rattle.std.proofs.Common.{◌≡◌, ℕ, Bool, true, false, List, [], ◌++◌, Option, Some, None, refl, ap, sym, ◌∙◌}
use Rattle.std.specs.Prelude.{◌&&◌, ⊤}
use Rattle.std.proofs.lemmas.List.{append-nil}
use Rattle.px_message.specs.declared.flow.Flow.{Flow}
use Rattle.px_message.specs.declared.response.Response.{Response}
use Rattle.px_event.specs.declared.command.Command.{Command}
use Rattle.px_event.specs.Chain.{Turn}
use Rattle.px_read.specs.Items.{Item, bad_body, bad_head, complete, missing, part}
use Rattle.px_read.specs.declared.head.RequestHead.{RequestHead as ReadRequest}
use Rattle.px_exchange.specs.declared.place.Place.{Place}
use Rattle.px_exchange.specs.declared.terms.Terms.{Terms}
use Rattle.px_chain.specs.Chain.{behind_flow, begin_up, come_down, end_by, goes_up_by, going_at, gone, gone_by, keeps_came, parked_for, pass, pass_came, pass_given, pass_going, pass_kept, past_came, past_gone, past_kept, sequence, sight_begun, sight_come, sight_past}
use Rattle.px_chain.specs.Coming.{Came, came_in, goes_on_behind, streaming, streams_in}
use Rattle.px_chain.specs.Going.{goes_up, is_sent, sending_on, whole_in, with_whole}
use Rattle.px_chain.specs.Keeping.{is_silent, parks, shut_by_byte, shut_stray, strays, unspoilt_by}
use Rattle.px_chain.specs.Sights.{Sight, left_by, request_in}
use Rattle.px_chain.specs.Stages.{At, Doing, Parked, Sent, Stage, busy, coming_down, connection, given_body, given_head, going_up, idle, next, over, request_body, response_body, response_head, upgraded}
use Rattle.px_chain.proofs.KeepingLaws.{nothing_strays, silent_nothing}
use Rattle.px_stream.specs.Stands.{NoneParked, NoneParkedFor}
use Rattle.px_stream.proofs.SettledLemmas.{both_by, left_both}

-- ---- a flow that uses a side owes nothing of a parked one, nor does the next flow where that side is kept

abbrev pub IsOwn : Doing → Type 0
IsOwn (response_head server how) = ⊤
IsOwn (response_body server how most) = ⊤
IsOwn (coming_down server how) = ⊤
IsOwn doing = ⊥

own_gone : (doing : Doing) → IsOwn doing → IsOwn (gone doing)
own_gone (request_body given most) own = absurd own
own_gone (connection how) own = absurd own
own_gone (response_head server how) own = tt
own_gone (response_body server how most) own = tt
own_gone (coming_down server how) own = tt
own_gone (upgraded server) own = absurd own
own_gone given_head own = absurd own
own_gone given_body own = absurd own

behind_clear : (stays : Bool) (at : At) (past : Sight) → past.server ≡ [] → strays (sequence (behind_flow stays at)) past ≡ []
behind_clear true at past is = nothing_strays at.parked past is
behind_clear false at past is = refl

came_clear : (came : Option Came) (place : Place) (at : At) (flow : Flow) (server : ℕ) (how : Sent) (seen : Sight) →
    strays (sequence (pass_came place at flow server how seen came).stage) (past_came came seen) ≡ []
came_clear None place at flow server how seen = refl
came_clear (Some came) place at flow server how seen =
    behind_clear (is_sent how && goes_on_behind at.flow flow.request came) (parks (keeps_came at flow how seen came) place at flow.request server) (past_came (Some came) seen) refl

kept_clear : (streams : Bool) (place : Place) (at : At) (flow : Flow) (server : ℕ) (how : Sent) (most : Option ℕ) (seen : Sight) →
    strays (sequence (pass_kept streams place at flow server how most seen).stage) (past_kept streams (came_in (streaming flow) seen) seen) ≡ []
kept_clear true place at flow server how most seen = came_clear (came_in (streaming flow) seen) place at (streaming flow) server how seen
kept_clear false place at flow server how most seen = refl

come_clear : (terms : Terms) (at : At) (flow : Flow) (doing : Doing) (seen : Sight) → IsOwn doing →
    strays (sequence (come_down terms (busy at flow doing) seen).stage) (sight_come (busy at flow doing) seen) ≡ []
come_clear terms at flow (request_body given most) seen own = absurd own
come_clear terms at flow (connection how) seen own = absurd own
come_clear terms at flow (response_head server how) seen own = refl
come_clear terms at flow (response_body server how most) seen own = kept_clear (streams_in flow most seen) terms.place at flow server how most seen
come_clear terms at flow (coming_down server how) seen own = came_clear (came_in flow seen) terms.place at flow server how seen
come_clear terms at flow (upgraded server) seen own = absurd own
come_clear terms at flow given_head seen own = absurd own
come_clear terms at flow given_body seen own = absurd own

own_clear : (whole : Option ℕ) (terms : Terms) (at : At) (flow : Flow) (doing : Doing) (seen : Sight) → IsOwn doing →
    strays (sequence (come_down terms (end_by whole terms.place at flow doing seen).stage (past_gone whole seen)).stage) (sight_come (end_by whole terms.place at flow doing seen).stage (past_gone whole seen)) ≡ []
own_clear None terms at flow doing seen own = come_clear terms at flow doing seen own
own_clear (Some server) terms at flow doing seen own = come_clear terms at (with_whole flow seen.now) (gone doing) (past_gone (Some server) seen) (own_gone doing own)

-- ---- so what is owed of one stays where a stage passes

-- one behind the other, whatever is owed by passing
abbrev StraysPass : List Command → Turn Stage Command → Sight → Type 0
StraysPass before turn past = turn.owed ++ strays (sequence turn.stage) past ≡ before ++ turn.owed

nothing_both : (owed before later : List Command) → before ≡ [] → later ≡ [] → owed ++ later ≡ before ++ owed
nothing_both owed before later one two = ap (λ l. owed ++ l) two ∙ (append-nil owed ∙ ap (λ l. l ++ owed) (sym one))

same_stray : (parked : Option Parked) (seen later : Sight) → later.server ≡ seen.server → shut_stray parked later ≡ shut_stray parked seen ++ []
same_stray None seen later is = refl
same_stray (Some parked) seen later is = ap (λ l. shut_by_byte parked.server l) is ∙ sym (append-nil (shut_by_byte parked.server seen.server))

given_strays : (terms : Terms) (at : At) (flow : Flow) (given : Response) (most : Option ℕ) (item : Item ReadRequest) (seen : Sight) →
    let to = pass_given at flow given most item seen.now in
    let left = record seen { client = left_by {H = ReadRequest} item seen.client } in
    StraysPass (shut_stray at.parked seen) (both_by terms to left) (left_both terms to left)
given_strays terms at flow given most missing seen = same_stray at.parked seen (record seen { client = left_by {H = ReadRequest} missing seen.client }) refl
given_strays terms at flow given most (part head body) seen = same_stray at.parked seen (record seen { client = left_by (part head body) seen.client }) refl
given_strays terms at flow given most (complete head body trailers size) seen = same_stray at.parked seen (record seen { client = left_by (complete head body trailers size) seen.client }) refl
given_strays terms at flow given most (bad_head fault) seen = same_stray at.parked seen (record seen { client = left_by {H = ReadRequest} (bad_head fault) seen.client }) refl
given_strays terms at flow given most (bad_body fault head body) seen = same_stray at.parked seen (record seen { client = left_by (bad_body fault head body) seen.client }) refl

-- a request goes up to a side of which nothing came
side_strays : (silent : Bool) (o : Option ℕ) (terms : Terms) (at : At) (flow told : Flow) (seen : Sight) → is_silent seen.server seen.shut ≡ silent → parked_for terms.place flow.request (unspoilt_by silent at.parked) ≡ o →
    StraysPass (shut_stray at.parked seen) (both_by terms (goes_up_by o terms.place at told) seen) (left_both terms (goes_up_by o terms.place at told) seen)
side_strays silent None terms at flow told seen is there = same_stray at.parked seen seen refl
side_strays true (Some server) terms at flow told seen is there =
    nothing_both _ (shut_stray at.parked seen) _ (nothing_strays at.parked seen (silent_nothing seen.server seen.shut is).empty)
    (own_clear (gone_by (going_at (response_head server going_up)) (whole_in seen)) terms _ _ (response_head server going_up) seen tt)
side_strays false (Some server) terms at flow told seen is there = absurd (let no : None ≡ Some server = there in cc)

going_strays : (goes : Bool) (terms : Terms) (at : At) (flow : Flow) (most : Option ℕ) (seen : Sight) →
    StraysPass (shut_stray at.parked seen) (both_by terms (pass_going goes terms.place at flow most seen) seen) (left_both terms (pass_going goes terms.place at flow most seen) seen)
going_strays true terms at flow most seen =
    side_strays (is_silent seen.server seen.shut) (parked_for terms.place flow.request (unspoilt_by (is_silent seen.server seen.shut) at.parked)) terms at flow (sending_on flow) seen refl refl
going_strays false terms at flow most seen = same_stray at.parked seen seen refl

pub pass_strays : (terms : Terms) (stage : Stage) (seen : Sight) →
    (pass terms stage seen).owed ++ strays (sequence (pass terms stage seen).stage) (sight_past terms stage seen) ≡ strays stage seen ++ (pass terms stage seen).owed
pass_strays terms (idle at) seen = same_stray at.parked seen seen refl
pass_strays terms (busy at flow (request_body None most)) seen = going_strays (goes_up most seen) terms at flow most seen
pass_strays terms (busy at flow (request_body (Some given) most)) seen = given_strays terms at flow given most (request_in seen) seen
pass_strays terms (busy at flow (connection how)) seen = same_stray at.parked seen seen refl
pass_strays terms (busy at flow (response_head server how)) seen =
    nothing_both (pass terms (busy at flow (response_head server how)) seen).owed [] _ refl
    (own_clear (gone_by (going_at (response_head server how)) (whole_in seen)) terms at flow (response_head server how) seen tt)
pass_strays terms (busy at flow (response_body server how most)) seen =
    nothing_both (pass terms (busy at flow (response_body server how most)) seen).owed [] _ refl
    (own_clear (gone_by (going_at (response_body server how most)) (whole_in seen)) terms at flow (response_body server how most) seen tt)
pass_strays terms (busy at flow (coming_down server how)) seen =
    nothing_both (pass terms (busy at flow (coming_down server how)) seen).owed [] _ refl
    (own_clear (gone_by (going_at (coming_down server how)) (whole_in seen)) terms at flow (coming_down server how) seen tt)
pass_strays terms (busy at flow (upgraded server)) seen = refl
pass_strays terms (busy at flow given_head) seen = same_stray at.parked seen seen refl
pass_strays terms (busy at flow given_body) seen = same_stray at.parked seen seen refl
pass_strays terms (next at) seen = same_stray at.parked seen seen refl
pass_strays terms over seen = refl

-- ---- where a flow uses a side, none is parked

pub sequence_apart : (stage : Stage) → NoneParked stage → NoneParked (sequence stage)
sequence_apart (idle at) is = tt
sequence_apart (busy at flow doing) is = is
sequence_apart (next at) is = tt
sequence_apart over is = tt

behind_apart : (stays : Bool) (at : At) → NoneParked (behind_flow stays at)
behind_apart true at = tt
behind_apart false at = tt

came_apart : (came : Option Came) (place : Place) (at : At) (flow : Flow) (server : ℕ) (how : Sent) (seen : Sight) → at.parked ≡ None → NoneParked (pass_came place at flow server how seen came).stage
came_apart None place at flow server how seen is = is
came_apart (Some came) place at flow server how seen is =
    behind_apart (is_sent how && goes_on_behind at.flow flow.request came) (parks (keeps_came at flow how seen came) place at flow.request server)

kept_apart : (streams : Bool) (place : Place) (at : At) (flow : Flow) (server : ℕ) (how : Sent) (most : Option ℕ) (seen : Sight) → at.parked ≡ None →
    NoneParked (pass_kept streams place at flow server how most seen).stage
kept_apart true place at flow server how most seen is = came_apart (came_in (streaming flow) seen) place at (streaming flow) server how seen is
kept_apart false place at flow server how most seen is = is

come_apart : (terms : Terms) (at : At) (flow : Flow) (doing : Doing) (seen : Sight) → NoneParkedFor at doing → NoneParked (come_down terms (busy at flow doing) seen).stage
come_apart terms at flow (request_body given most) seen is = tt
come_apart terms at flow (connection how) seen is = tt
come_apart terms at flow (response_head server how) seen is = is
come_apart terms at flow (response_body server how most) seen is = kept_apart (streams_in flow most seen) terms.place at flow server how most seen is
come_apart terms at flow (coming_down server how) seen is = came_apart (came_in flow seen) terms.place at flow server how seen is
come_apart terms at flow (upgraded server) seen is = is
come_apart terms at flow given_head seen is = tt
come_apart terms at flow given_body seen is = tt

gone_apart : (at : At) (doing : Doing) → NoneParkedFor at doing → NoneParkedFor at (gone doing)
gone_apart at (request_body given most) is = tt
gone_apart at (connection how) is = tt
gone_apart at (response_head server how) is = is
gone_apart at (response_body server how most) is = is
gone_apart at (coming_down server how) is = is
gone_apart at (upgraded server) is = is
gone_apart at given_head is = tt
gone_apart at given_body is = tt

ends_apart : (whole : Option ℕ) (terms : Terms) (at : At) (flow : Flow) (doing : Doing) (seen : Sight) → NoneParkedFor at doing →
    NoneParked (come_down terms (end_by whole terms.place at flow doing seen).stage (past_gone whole seen)).stage
ends_apart None terms at flow doing seen is = come_apart terms at flow doing seen is
ends_apart (Some server) terms at flow doing seen is = come_apart terms at (with_whole flow seen.now) (gone doing) (past_gone (Some server) seen) (gone_apart at doing is)

both_apart : (terms : Terms) (to : Stage) (left : Sight) → NoneParked to → NoneParked (both_by terms to left).stage
both_apart terms (idle at) left is = tt
both_apart terms (busy at flow doing) left is = ends_apart (gone_by (going_at doing) (whole_in left)) terms at flow doing left is
both_apart terms (next at) left is = tt
both_apart terms over left is = tt

side_apart : (o : Option ℕ) (place : Place) (at : At) (flow : Flow) → NoneParked (goes_up_by o place at flow)
side_apart None place at flow = tt
side_apart (Some server) place at flow = refl

going_apart : (goes : Bool) (place : Place) (at : At) (flow : Flow) (most : Option ℕ) (seen : Sight) → NoneParked (pass_going goes place at flow most seen)
going_apart true place at flow most seen = side_apart (parked_for place flow.request (unspoilt_by (is_silent seen.server seen.shut) at.parked)) place at (sending_on flow)
going_apart false place at flow most seen = tt

given_apart : (at : At) (flow : Flow) (given : Response) (most : Option ℕ) (item : Item ReadRequest) (now : ℕ) → NoneParked (pass_given at flow given most item now)
given_apart at flow given most missing now = tt
given_apart at flow given most (part head body) now = tt
given_apart at flow given most (complete head body trailers size) now = tt
given_apart at flow given most (bad_head fault) now = tt
given_apart at flow given most (bad_body fault head body) now = tt

begin_apart : (terms : Terms) (stage : Stage) (seen : Sight) → NoneParked stage → NoneParked (begin_up terms stage seen)
begin_apart terms (idle at) seen is = tt
begin_apart terms (busy at flow (request_body None most)) seen is = going_apart (goes_up most seen) terms.place at flow most seen
begin_apart terms (busy at flow (request_body (Some given) most)) seen is = given_apart at flow given most (request_in seen) seen.now
begin_apart terms (busy at flow (connection how)) seen is = tt
begin_apart terms (busy at flow (response_head server how)) seen is = is
begin_apart terms (busy at flow (response_body server how most)) seen is = is
begin_apart terms (busy at flow (coming_down server how)) seen is = is
begin_apart terms (busy at flow (upgraded server)) seen is = is
begin_apart terms (busy at flow given_head) seen is = tt
begin_apart terms (busy at flow given_body) seen is = tt
begin_apart terms (next at) seen is = tt
begin_apart terms over seen is = tt

pub pass_apart : (terms : Terms) (stage : Stage) (seen : Sight) → NoneParked stage → NoneParked (pass terms stage seen).stage
pass_apart terms stage seen is = both_apart terms (begin_up terms stage seen) (sight_begun stage seen) (begin_apart terms stage seen is)
