-- The laws of the chain of a conversation: passing settles at once, and in each view what is owed while it waits only grows.
use Rattle.std.proofs.Common.{◌≡◌, ℕ, Bool, true, false, List, [], ◌∷◌, ◌++◌, drop, Option, Some, None, refl, ap, sym, ◌∙◌, append_assoc, subst}
use Rattle.std.specs.Prelude.{◌||◌, ◌&&◌, ◌==◌, if◌then◌else◌, is_some, map, ⊤}
use Rattle.std.proofs.lemmas.Grind.{flat_map-append}
use Rattle.std.proofs.lemmas.List.{append-nil, map-append}
use Rattle.px_text.specs.Prefix.{IsPrefixOf}
use Rattle.px_message.specs.declared.flow.Flow.{Flow}
use Rattle.px_message.specs.declared.request.Request.{Request}
use Rattle.px_message.specs.declared.response.Response.{Response}
use Rattle.px_message.specs.declared.version.Version.{Version}
use Rattle.px_message.specs.declared.version.Version.TheVariants as versions
use Rattle.px_event.specs.declared.command.Command.{Command}
use Rattle.px_event.specs.declared.command.Command.TheVariants as commands
use Rattle.px_event.specs.declared.event.Event.{Event}
use Rattle.px_event.specs.declared.side.Side.{Side}
use Rattle.px_event.specs.declared.side.Side.TheVariants.{Client, Server}
use Rattle.px_event.specs.Chain.{Timed, Look, NotYet, Asks, Ends, Turn, found_at}
use Rattle.px_event.specs.Laws.{IsSettled, Settles, SoFarGrows, owed_over}
use Rattle.px_event.specs.View.{View, seen_of, command_atoms, Atom, byte, course, flows, line, order, questions}
use Rattle.px_read.specs.Items.{Item, missing, part, complete, bad_head, bad_body, answer_list}
use Rattle.px_read.specs.Laws.{InterimGrow, FinalHeadStays, head_in, is_begun, is_decided}
use Rattle.px_read.specs.declared.head.RequestHead.{RequestHead as ReadRequest}
use Rattle.px_read.specs.declared.head.ResponseHead.{ResponseHead as ReadResponse}
use Rattle.px_read.proofs.AnswerLemmas.{answers_carry}
use Rattle.px_read.proofs.LawLemmas.{chunk_laws}
use Rattle.px_exchange.specs.declared.place.Place.{Place}
use Rattle.px_exchange.specs.declared.terms.Terms.{Terms}
use Rattle.px_exchange.specs.Finds.{or_leaves}
use Rattle.px_exchange.specs.Requests.{is_head}
use Rattle.px_exchange.specs.Texts.{interim_command, interim_commands}
use Rattle.px_parts.specs.Texts.{left_of}
use Rattle.px_parts.proofs.TextLemmas.{final_text-grows}
use Rattle.px_chain.specs.Chain.{IsOnward, begin_up, behind_flow, come_down, end_by, end_up, find, goes_to, goes_up_by, going_at, gone, gone_by, gone_up, http_chain, is_alone, is_sequence, keeps_came, leaving, look, parked_for, pass, pass_body, pass_came, pass_given, pass_going, pass_kept, passed, past_came, past_gone, past_kept, sequence, sight_begun, sight_come, sight_ended, sight_gone, sight_past, so_far, used_by_begin, used_by_came, used_by_coming, used_by_end, used_by_gone, used_by_kept, used_by_pass}
use Rattle.px_chain.specs.Keeping.{is_silent, parks, shut_by_byte, shut_stray, unspoilt, unspoilt_at, unspoilt_by}
use Rattle.px_chain.specs.Coming.{Came, came_in, coming_by, coming_text, framed_as, goes_on_behind, sends_coming, streaming, streams_in}
use Rattle.px_chain.specs.Going.{goes_up, going_text, is_sent, sending_on, sends_going, sends_up, whole_in, with_whole}
use Rattle.px_chain.specs.Sights.{Sight, Standing, UsedBytes, answers_in, bytes_over, left_by, request_in, shut_over, sight_over, used_with}
use Rattle.px_chain.specs.Stages.{At, Doing, Parked, Sent, Stage, all_sent, busy, coming_down, connection, given_body, given_head, going_up, idle, next, over, request_body, response_body, response_head, side_in, side_parked, upgraded}
use Rattle.px_chain.specs.Streams.{Since, bytes_of, client_closed, is_closed}
use Rattle.px_chain.proofs.FrontLaws.{DropMore, behind, none, bytes_more, bytes_shut, closed_stays, drop_more, open_behind}
use Rattle.px_chain.proofs.GoingLaws.{client_on, drop_begins, going_text_grows}
use Rattle.px_chain.proofs.KeepingLaws.{silent_nothing}
use Rattle.px_chain.proofs.SightLaws.{begin_uses, sight_passed}

-- ---- passing settles at once

-- in this sight the stage does not pass, and uses nothing
pub record StaysIn (terms : Terms) (stage : Stage) (seen : Sight) : Type 0 where
  pub goes : pass terms stage seen ≡ goes_to stage
  pub uses : (used : UsedBytes) → used_by_pass terms stage seen used ≡ used

-- its request does not begin to go up
record BeginStays (terms : Terms) (stage : Stage) (seen : Sight) : Type 0 where
  goes : begin_up terms stage seen ≡ stage
  left : sight_begun stage seen ≡ seen
  uses : (used : UsedBytes) → used_by_begin stage seen used ≡ used

-- no request that goes up is whole
abbrev IsUpTo : Stage → Sight → Type 0
IsUpTo (busy at flow doing) seen = gone_by (going_at doing) (whole_in seen) ≡ None
IsUpTo stage seen = ⊤

record EndStays (terms : Terms) (stage : Stage) (seen : Sight) : Type 0 where
  goes : end_up terms stage seen ≡ goes_to stage
  left : sight_ended stage seen ≡ seen
  uses : (used : UsedBytes) → used_by_end stage seen used ≡ used

-- no response that comes down is whole, and none begins to
record ComeStays (terms : Terms) (stage : Stage) (seen : Sight) : Type 0 where
  goes : come_down terms stage seen ≡ goes_to stage
  uses : (used : UsedBytes) → used_by_coming stage seen used ≡ used

up_to_stays : (terms : Terms) (stage : Stage) (seen : Sight) → IsUpTo stage seen → EndStays terms stage seen
up_to_stays terms (idle at) seen is = record { goes = refl; left = refl; uses = λ used. refl }
up_to_stays terms (busy at flow doing) seen is = record {
  goes = ap (λ g. end_by g terms.place at flow doing seen) is;
  left = ap (λ g. past_gone g seen) is;
  uses = λ used. ap (λ g. used_by_gone g seen used) is;
}
up_to_stays terms (next at) seen is = record { goes = refl; left = refl; uses = λ used. refl }
up_to_stays terms over seen is = record { goes = refl; left = refl; uses = λ used. refl }

-- a turn with what another one owes behind it
abbrev pub behind_turn : Turn Stage Command → Turn Stage Command → Turn Stage Command
behind_turn first second = record { owed = first.owed ++ second.owed; stage = second.stage }

-- So it stays.
stays_by : (terms : Terms) (stage : Stage) (seen : Sight) → BeginStays terms stage seen → EndStays terms stage seen → ComeStays terms stage seen → StaysIn terms stage seen
stays_by terms stage seen begins ends comes = record {
  goes = ap (λ to. behind_turn (end_up terms to (sight_begun stage seen)) (come_down terms (end_up terms to (sight_begun stage seen)).stage (sight_ended to (sight_begun stage seen)))) begins.goes
      ∙ (ap (λ s. behind_turn (end_up terms stage s) (come_down terms (end_up terms stage s).stage (sight_ended stage s))) begins.left
      ∙ (ap (λ up. behind_turn up (come_down terms up.stage (sight_ended stage seen))) ends.goes
      ∙ (ap (λ s. behind_turn (goes_to stage) (come_down terms stage s)) ends.left
      ∙ ap (λ down. behind_turn (goes_to stage) down) comes.goes)));
  uses = λ used.
      ap (λ to. used_by_coming (end_up terms to (sight_begun stage seen)).stage (sight_ended to (sight_begun stage seen)) (used_by_end to (sight_begun stage seen) (used_by_begin stage seen used))) begins.goes
      ∙ (ap (λ s. used_by_coming (end_up terms stage s).stage (sight_ended stage s) (used_by_end stage s (used_by_begin stage seen used))) begins.left
      ∙ (ap (λ u. used_by_coming (end_up terms stage seen).stage (sight_ended stage seen) (used_by_end stage seen u)) (begins.uses used)
      ∙ (ap (λ up. used_by_coming up.stage (sight_ended stage seen) (used_by_end stage seen used)) ends.goes
      ∙ (ap (λ s. used_by_coming stage s (used_by_end stage seen used)) ends.left
      ∙ (ap (λ u. used_by_coming stage seen u) (ends.uses used)
      ∙ comes.uses used)))));
}

-- ---- a request that began to go up begins no more

-- one that is not whole stays
given_still : (terms : Terms) (at : At) (flow : Flow) (response : Response) (size : Option ℕ) (seen : Sight) (item : Item ReadRequest) → request_in seen ≡ item →
    pass_given at flow response size item seen.now ≡ busy at flow (request_body (Some response) size) →
    ((used : UsedBytes) → (record used { client = used_with item used.client }) ≡ used) → (record seen { client = left_by item seen.client }) ≡ seen →
    BeginStays terms (pass_given at flow response size item seen.now) (sight_begun (busy at flow (request_body (Some response) size)) seen)
given_still terms at flow response size seen item is stays uses leaves =
    let stage : Stage = busy at flow (request_body (Some response) size) in
    let same : sight_begun stage seen ≡ seen = ap (λ i. record seen { client = left_by i seen.client }) is ∙ leaves in
    let there : BeginStays terms stage seen = record {
      goes = ap (λ i. pass_given at flow response size i seen.now) is ∙ stays;
      left = same;
      uses = λ used. ap (λ i. record used { client = used_with i used.client }) is ∙ uses used;
    } in
    subst (λ t. BeginStays terms t (sight_begun stage seen)) (sym stays) (subst (λ s. BeginStays terms stage s) (sym same) there)

given_twice : (terms : Terms) (at : At) (flow : Flow) (response : Response) (size : Option ℕ) (seen : Sight) (item : Item ReadRequest) → request_in seen ≡ item →
    BeginStays terms (pass_given at flow response size item seen.now) (sight_begun (busy at flow (request_body (Some response) size)) seen)
given_twice terms at flow response size seen missing is = given_still terms at flow response size seen missing is refl (λ used. refl) refl
given_twice terms at flow response size seen (part head body) is = given_still terms at flow response size seen (part head body) is refl (λ used. refl) refl
given_twice terms at flow response size seen (complete head body trailers used) is = record { goes = refl; left = refl; uses = λ used. refl }
given_twice terms at flow response size seen (bad_head fault) is = given_still terms at flow response size seen (bad_head fault) is refl (λ used. refl) refl
given_twice terms at flow response size seen (bad_body fault head body) is = given_still terms at flow response size seen (bad_body fault head body) is refl (λ used. refl) refl

up_still : (terms : Terms) (side : Option ℕ) (at : At) (flow : Flow) (seen : Sight) → BeginStays terms (goes_up_by side terms.place at flow) seen
up_still terms None at flow seen = record { goes = refl; left = refl; uses = λ used. refl }
up_still terms (Some server) at flow seen = record { goes = refl; left = refl; uses = λ used. refl }

going_twice : (terms : Terms) (at : At) (flow : Flow) (size : Option ℕ) (seen : Sight) (up : Bool) → goes_up size seen ≡ up → BeginStays terms (pass_going up terms.place at flow size seen) seen
going_twice terms at flow size seen true is = up_still terms (parked_for terms.place flow.request (unspoilt_at at seen).parked) at (sending_on flow) seen
going_twice terms at flow size seen false is = record { goes = ap (λ up. pass_going up terms.place at flow size seen) is; left = refl; uses = λ used. refl }

begin_twice : (terms : Terms) (stage : Stage) (seen : Sight) → BeginStays terms (begin_up terms stage seen) (sight_begun stage seen)
begin_twice terms (idle at) seen = record { goes = refl; left = refl; uses = λ used. refl }
begin_twice terms (busy at flow (request_body None size)) seen = going_twice terms at flow size seen (goes_up size seen) refl
begin_twice terms (busy at flow (request_body (Some response) size)) seen = given_twice terms at flow response size seen (request_in seen) refl
begin_twice terms (busy at flow (connection how)) seen = record { goes = refl; left = refl; uses = λ used. refl }
begin_twice terms (busy at flow (response_head side how)) seen = record { goes = refl; left = refl; uses = λ used. refl }
begin_twice terms (busy at flow (response_body side how most)) seen = record { goes = refl; left = refl; uses = λ used. refl }
begin_twice terms (busy at flow (coming_down side how)) seen = record { goes = refl; left = refl; uses = λ used. refl }
begin_twice terms (busy at flow (upgraded side)) seen = record { goes = refl; left = refl; uses = λ used. refl }
begin_twice terms (busy at flow given_head) seen = record { goes = refl; left = refl; uses = λ used. refl }
begin_twice terms (busy at flow given_body) seen = record { goes = refl; left = refl; uses = λ used. refl }
begin_twice terms (next at) seen = record { goes = refl; left = refl; uses = λ used. refl }
begin_twice terms over seen = record { goes = refl; left = refl; uses = λ used. refl }

-- ---- nor does one that is whole end once more

-- a flow that awaits no body of its request
not_begun : (g : Option ℕ) (terms : Terms) (at : At) (flow : Flow) (doing : Doing) (seen past : Sight) → BeginStays terms (busy at flow doing) seen → past ≡ past_gone g seen →
    gone_by (going_at doing) (whole_in seen) ≡ g → BeginStays terms (end_by g terms.place at flow doing seen).stage past
not_begun None terms at flow doing seen past begins same is = subst (λ s. BeginStays terms (busy at flow doing) s) (sym same) begins
not_begun (Some server) terms at flow (request_body given size) seen past begins same is = absurd (let e : None ≡ Some server = is in cc)
not_begun (Some server) terms at flow (connection how) seen past begins same is = record { goes = refl; left = refl; uses = λ used. refl }
not_begun (Some server) terms at flow (response_head side how) seen past begins same is = record { goes = refl; left = refl; uses = λ used. refl }
not_begun (Some server) terms at flow (response_body side how most) seen past begins same is = record { goes = refl; left = refl; uses = λ used. refl }
not_begun (Some server) terms at flow (coming_down side how) seen past begins same is = record { goes = refl; left = refl; uses = λ used. refl }
not_begun (Some server) terms at flow (upgraded side) seen past begins same is = record { goes = refl; left = refl; uses = λ used. refl }
not_begun (Some server) terms at flow given_head seen past begins same is = record { goes = refl; left = refl; uses = λ used. refl }
not_begun (Some server) terms at flow given_body seen past begins same is = record { goes = refl; left = refl; uses = λ used. refl }

end_begins : (terms : Terms) (stage : Stage) (seen : Sight) → BeginStays terms stage seen → BeginStays terms (end_up terms stage seen).stage (sight_ended stage seen)
end_begins terms (idle at) seen begins = begins
end_begins terms (busy at flow doing) seen begins =
    not_begun (gone_by (going_at doing) (whole_in seen)) terms at flow doing seen (sight_ended (busy at flow doing) seen) begins refl refl
end_begins terms (next at) seen begins = begins
end_begins terms over seen begins = begins

gone_up_to : (at : At) (flow : Flow) (doing : Doing) (seen : Sight) → IsUpTo (busy at flow (gone doing)) seen
gone_up_to at flow (request_body given size) seen = refl
gone_up_to at flow (connection how) seen = refl
gone_up_to at flow (response_head side how) seen = refl
gone_up_to at flow (response_body side how most) seen = refl
gone_up_to at flow (coming_down side how) seen = refl
gone_up_to at flow (upgraded side) seen = refl
gone_up_to at flow given_head seen = refl
gone_up_to at flow given_body seen = refl

end_twice_by : (g : Option ℕ) (terms : Terms) (at : At) (flow : Flow) (doing : Doing) (seen : Sight) → gone_by (going_at doing) (whole_in seen) ≡ g →
    IsUpTo (end_by g terms.place at flow doing seen).stage (past_gone g seen)
end_twice_by None terms at flow doing seen is = is
end_twice_by (Some server) terms at flow doing seen is = gone_up_to at (with_whole flow seen.now) doing (past_gone (Some server) seen)

end_twice : (terms : Terms) (stage : Stage) (seen : Sight) → IsUpTo (end_up terms stage seen).stage (sight_ended stage seen)
end_twice terms (idle at) seen = tt
end_twice terms (busy at flow doing) seen = end_twice_by (gone_by (going_at doing) (whole_in seen)) terms at flow doing seen refl
end_twice terms (next at) seen = tt
end_twice terms over seen = tt

-- ---- nor comes a response down once more

behind_twice : (stays : Bool) (terms : Terms) (at : At) (seen : Sight) → ComeStays terms (behind_flow stays at) seen
behind_twice true terms at seen = record { goes = refl; uses = λ used. refl }
behind_twice false terms at seen = record { goes = refl; uses = λ used. refl }

came_twice : (terms : Terms) (at : At) (flow : Flow) (side : ℕ) (how : Sent) (seen : Sight) (came : Option Came) → came_in flow seen ≡ came →
    ComeStays terms (pass_came terms.place at flow side how seen came).stage (past_came came seen)
came_twice terms at flow side how seen None is = record { goes = ap (pass_came terms.place at flow side how seen) is; uses = λ used. ap (λ c. used_by_came at flow how seen c used) is }
came_twice terms at flow side how seen (Some came) is =
    behind_twice (is_sent how && goes_on_behind at.flow flow.request came) terms (parks (keeps_came at flow how seen came) terms.place at flow.request side) (past_came (Some came) seen)

kept_twice : (terms : Terms) (at : At) (flow : Flow) (side : ℕ) (how : Sent) (most : Option ℕ) (seen : Sight) (streams : Bool) → streams_in flow most seen ≡ streams →
    ComeStays terms (pass_kept streams terms.place at flow side how most seen).stage (past_kept streams (came_in (streaming flow) seen) seen)
kept_twice terms at flow side how most seen true is = came_twice terms at (streaming flow) side how seen (came_in (streaming flow) seen) refl
kept_twice terms at flow side how most seen false is = record {
  goes = ap (λ s. pass_kept s terms.place at flow side how most seen) is;
  uses = λ used. ap (λ s. used_by_kept s at (streaming flow) how seen (came_in (streaming flow) seen) used) is;
}

come_twice : (terms : Terms) (stage : Stage) (seen : Sight) → ComeStays terms (come_down terms stage seen).stage (sight_come stage seen)
come_twice terms (idle at) seen = record { goes = refl; uses = λ used. refl }
come_twice terms (busy at flow (request_body given size)) seen = record { goes = refl; uses = λ used. refl }
come_twice terms (busy at flow (connection how)) seen = record { goes = refl; uses = λ used. refl }
come_twice terms (busy at flow (response_head side how)) seen = record { goes = refl; uses = λ used. refl }
come_twice terms (busy at flow (response_body side how most)) seen = kept_twice terms at flow side how most seen (streams_in flow most seen) refl
come_twice terms (busy at flow (coming_down side how)) seen = came_twice terms at flow side how seen (came_in flow seen) refl
come_twice terms (busy at flow (upgraded side)) seen = record { goes = refl; uses = λ used. refl }
come_twice terms (busy at flow given_head) seen = record { goes = refl; uses = λ used. refl }
come_twice terms (busy at flow given_body) seen = record { goes = refl; uses = λ used. refl }
come_twice terms (next at) seen = record { goes = refl; uses = λ used. refl }
come_twice terms over seen = record { goes = refl; uses = λ used. refl }

-- and where it comes down, no request begins to go up, and none that does is whole
record UpStays (terms : Terms) (stage : Stage) (seen : Sight) : Type 0 where
  begins : BeginStays terms stage seen
  up_to : IsUpTo stage seen

behind_ups : (stays : Bool) (terms : Terms) (at : At) (seen : Sight) → UpStays terms (behind_flow stays at) seen
behind_ups true terms at seen = record { begins = record { goes = refl; left = refl; uses = λ used. refl }; up_to = tt }
behind_ups false terms at seen = record { begins = record { goes = refl; left = refl; uses = λ used. refl }; up_to = tt }

came_ups : (terms : Terms) (at : At) (flow : Flow) (side : ℕ) (how : Sent) (seen : Sight) (came : Option Came) → gone_by (going_at (coming_down side how)) (whole_in seen) ≡ None →
    UpStays terms (pass_came terms.place at flow side how seen came).stage (past_came came seen)
came_ups terms at flow side how seen None is = record { begins = record { goes = refl; left = refl; uses = λ used. refl }; up_to = is }
came_ups terms at flow side how seen (Some came) is =
    behind_ups (is_sent how && goes_on_behind at.flow flow.request came) terms (parks (keeps_came at flow how seen came) terms.place at flow.request side) (past_came (Some came) seen)

body_goes : (side : ℕ) (how : Sent) (most : Option ℕ) → going_at (coming_down side how) ≡ going_at (response_body side how most)
body_goes side all_sent most = refl
body_goes side going_up most = refl

kept_ups : (streams : Bool) (terms : Terms) (at : At) (flow : Flow) (side : ℕ) (how : Sent) (most : Option ℕ) (seen : Sight) → UpStays terms (busy at flow (response_body side how most)) seen →
    UpStays terms (pass_kept streams terms.place at flow side how most seen).stage (past_kept streams (came_in (streaming flow) seen) seen)
kept_ups true terms at flow side how most seen stays =
    came_ups terms at (streaming flow) side how seen (came_in (streaming flow) seen) (ap (λ g. gone_by g (whole_in seen)) (body_goes side how most) ∙ stays.up_to)
kept_ups false terms at flow side how most seen stays = stays

come_ups : (terms : Terms) (stage : Stage) (seen : Sight) → UpStays terms stage seen → UpStays terms (come_down terms stage seen).stage (sight_come stage seen)
come_ups terms (idle at) seen stays = stays
come_ups terms (busy at flow (request_body given size)) seen stays = stays
come_ups terms (busy at flow (connection how)) seen stays = stays
come_ups terms (busy at flow (response_head side how)) seen stays = stays
come_ups terms (busy at flow (response_body side how most)) seen stays = kept_ups (streams_in flow most seen) terms at flow side how most seen stays
come_ups terms (busy at flow (coming_down side how)) seen stays = came_ups terms at flow side how seen (came_in flow seen) stays.up_to
come_ups terms (busy at flow (upgraded side)) seen stays = stays
come_ups terms (busy at flow given_head) seen stays = stays
come_ups terms (busy at flow given_body) seen stays = stays
come_ups terms (next at) seen stays = stays
come_ups terms over seen stays = stays

-- in one sight a stage that was passed to passes no more
pub passes_once : (terms : Terms) (stage : Stage) (seen : Sight) → StaysIn terms (pass terms stage seen).stage (sight_past terms stage seen)
passes_once terms stage seen =
    let begun : Stage = begin_up terms stage seen in
    let there : Stage = gone_up terms stage seen in
    let left : Sight = sight_gone terms stage seen in
    let ups = come_ups terms there left (record {
      begins = end_begins terms begun (sight_begun stage seen) (begin_twice terms stage seen);
      up_to = end_twice terms begun (sight_begun stage seen);
    }) in
    let to : Stage = (come_down terms there left).stage in
    let past : Sight = sight_come there left in
    stays_by terms to past ups.begins (up_to_stays terms to past ups.up_to) (come_twice terms there left)

sequence_stays : (terms : Terms) (stage : Stage) (seen : Sight) → StaysIn terms stage seen → StaysIn terms (sequence stage) seen
sequence_stays terms (idle at) seen stays = stays
sequence_stays terms (busy at flow doing) seen stays = stays
sequence_stays terms (next at) seen stays = record { goes = refl; uses = λ used. refl }
sequence_stays terms over seen stays = stays

sequence_twice : (stage : Stage) → sequence (sequence stage) ≡ sequence stage
sequence_twice (idle at) = refl
sequence_twice (busy at flow doing) = refl
sequence_twice (next at) = refl
sequence_twice over = refl

-- nor does the next flow where it begins there
pub onward_stays : (onward : Stage → Stage) → IsOnward onward → (terms : Terms) (stage : Stage) (seen : Sight) → StaysIn terms stage seen → StaysIn terms (onward stage) seen
onward_stays onward (is_alone is) terms stage seen stays = rw is stays
onward_stays onward (is_sequence is) terms stage seen stays = rw is (sequence_stays terms stage seen stays)

pub onward_twice : (onward : Stage → Stage) → IsOnward onward → (stage : Stage) → onward (onward stage) ≡ onward stage
onward_twice onward (is_alone is) stage = rw is refl
onward_twice onward (is_sequence is) stage = rw is (sequence_twice stage)

-- so its place stays
pub passed_twice : (onward : Stage → Stage) → IsOnward onward → (terms : Terms) (place : Standing) (seen : Sight) →
    passed onward terms (passed onward terms place seen) (sight_past terms place.stage seen) ≡ passed onward terms place seen
passed_twice onward goes terms place seen =
    let used : UsedBytes = used_by_pass terms place.stage seen place.used in
    let to : Stage = (pass terms place.stage seen).stage in
    let stays = onward_stays onward goes terms to (sight_past terms place.stage seen) (passes_once terms place.stage seen) in
    let first = ap (λ t. onward t.stage) stays.goes ∙ onward_twice onward goes to in
    let more = stays.uses used in
    λ i. record { stage = first i; since = place.since; opened = place.opened; used = more i; told = place.told }

settled_at : (onward : Stage → Stage) → IsOnward onward → (terms : Terms) (place : Standing) (prefix : List (Timed Event)) →
    IsSettled (http_chain onward terms) (passed onward terms place (sight_over place prefix)) prefix
settled_at onward goes terms place prefix =
    let seen : Sight = sight_over place prefix in
    let there : Standing = passed onward terms place seen in
    let same = sight_passed onward goes terms place prefix in
    let stays = onward_stays onward goes terms (pass terms place.stage seen).stage (sight_past terms place.stage seen) (passes_once terms place.stage seen) in
    record {
      stays = ap (λ s. passed onward terms there s) same ∙ passed_twice onward goes terms place seen;
      owes_nothing = ap (λ s. (pass terms there.stage s).owed) same ∙ ap (λ t. t.owed) stays.goes;
    }

-- In one sight passing settles at once.
pub settles : (onward : Stage → Stage) → IsOnward onward → (terms : Terms) → Settles (http_chain onward terms)
settles onward goes terms = record { at = λ place prefix. settled_at onward goes terms place prefix }

-- ---- what is found

-- where nothing is found, the client has not closed
open_by : (closed : Bool) (leaves : List Command) (l : Look Command) → or_leaves closed leaves l ≡ NotYet → closed ≡ false
open_by true leaves NotYet is = absurd (let e : Ends leaves ≡ NotYet = is in cc)
open_by false leaves l is = refl
open_by true leaves (Asks ask) is = absurd (let e : Asks ask ≡ NotYet = is in cc)
open_by true leaves (Ends owed) is = absurd (let e : Ends owed ≡ NotYet = is in cc)

pub open_still : (terms : Terms) (stage : Stage) (seen : Sight) → look terms stage seen ≡ NotYet → seen.closed ≡ false
open_still terms stage seen is = open_by seen.closed (leaving (unspoilt stage seen) seen) (find terms stage seen) is

-- ---- growth

prefix_self : {A : Type 0} (xs : List A) → IsPrefixOf xs xs
prefix_self xs = ([], sym (append-nil xs))

pub interim_grow : InterimGrow
interim_grow asked_head closed bytes more = (answers_carry chunk_laws asked_head closed bytes more).interim

-- What is seen of a server with one event more: the same, or more bytes of one that was open, and its close.
pub data HearsOn (shut : Bool) (bytes : List ℕ) (later_shut : Bool) (later : List ℕ) : Type 0 where
  hears_same : later_shut ≡ shut → later ≡ bytes → HearsOn shut bytes later_shut later
  hears_more : shut ≡ false → IsPrefixOf bytes later → HearsOn shut bytes later_shut later

heard_on : (side : Side) (used : ℕ) (prefix : List (Timed Event)) (e : Timed Event) (was : Bool) → is_closed Client prefix ≡ false → is_closed side prefix ≡ was →
    HearsOn (is_closed side prefix) (drop used (bytes_of side prefix)) (is_closed side (prefix ++ e ∷ [])) (drop used (bytes_of side (prefix ++ e ∷ [])))
heard_on side used prefix e true open_client is = hears_same (closed_stays side prefix e is ∙ sym is) (ap (drop used) (bytes_shut side prefix e is))
heard_on side used prefix e false open_client is = hears_more is (rw (bytes_more side prefix e open_client is) (drop_begins used (bytes_of side prefix) _))

hears_by : (side : Side) (used n : ℕ) (prefix : List (Timed Event)) (e : Timed Event) → is_closed Client prefix ≡ false → DropMore n prefix e →
    HearsOn (is_closed side (drop n prefix)) (drop used (bytes_of side (drop n prefix)))
    (is_closed side (drop n (prefix ++ e ∷ []))) (drop used (bytes_of side (drop n (prefix ++ e ∷ []))))
hears_by side used n prefix e open_client (behind is) =
    rw is (heard_on side used (drop n prefix) e (is_closed side (drop n prefix)) (open_behind n prefix open_client) refl)
hears_by side used n prefix e open_client (none was is) = rw (was, is) (hears_same refl refl)

pub hears_on : (side : ℕ) (opened used : ℕ) (prefix : List (Timed Event)) (e : Timed Event) → client_closed prefix ≡ false →
    HearsOn (shut_over (Some side) opened prefix) (drop used (bytes_over (Some side) opened prefix))
    (shut_over (Some side) opened (prefix ++ e ∷ [])) (drop used (bytes_over (Some side) opened (prefix ++ e ∷ [])))
hears_on side opened used prefix e open_client = hears_by (Server side) used opened prefix e open_client (drop_more opened prefix e)

-- then the interim responses begin with those that had come
pub answers_grow : (asked_head : Bool) (shut later_shut : Bool) (bytes later : List ℕ) → HearsOn shut bytes later_shut later →
    IsPrefixOf (answer_list asked_head shut bytes).interim (answer_list asked_head later_shut later).interim
answers_grow asked_head shut later_shut bytes later (hears_same closed same) = rw (closed, same) (prefix_self (answer_list asked_head shut bytes).interim)
answers_grow asked_head shut later_shut bytes later (hears_more closed (more, is)) = rw (closed, is) (interim_grow asked_head later_shut bytes more)

-- more interim responses are more commands
commands_by : (version : Version) (heads more : List ReadResponse) (request : Request) → request.version ≡ version →
    interim_commands request (heads ++ more) ≡ interim_commands request heads ++ interim_commands request more
commands_by versions.Http10 heads more request is = rw is refl
commands_by versions.Http11 heads more request is = rw is (map-append interim_command heads more)

pub commands_append : (request : Request) (heads more : List ReadResponse) →
    interim_commands request (heads ++ more) ≡ interim_commands request heads ++ interim_commands request more
commands_append request heads more = commands_by request.version heads more request refl

seen_more : (view : View) (xs ys : List Command) → seen_of view (xs ++ ys) ≡ seen_of view xs ++ seen_of view ys
seen_more view xs ys = flat_map-append (command_atoms view) xs ys

commands_grow : (view : View) (request : Request) (heads longer : List ReadResponse) (owed : List Command) → IsPrefixOf heads longer →
    IsPrefixOf (seen_of view (interim_commands request heads)) (seen_of view (interim_commands request longer ++ owed))
commands_grow view request heads longer owed (more, is) = (
  seen_of view (interim_commands request more) ++ seen_of view owed,
  seen_more view (interim_commands request longer) owed
      ∙ (ap (λ l. seen_of view (interim_commands request l) ++ seen_of view owed) is
      ∙ (ap (λ l. seen_of view l ++ seen_of view owed) (commands_append request heads more)
      ∙ (ap (λ l. l ++ seen_of view owed) (seen_more view (interim_commands request heads) (interim_commands request more))
      ∙ append_assoc (seen_of view (interim_commands request heads)) (seen_of view (interim_commands request more)) (seen_of view owed)))),
)

-- ---- of a response that is streamed

begun_by : {H : Type 0} (item : Item H) (head : H) → head_in item ≡ Some head → is_begun item ≡ true
begun_by item head is = ap (λ h. is_some h || is_decided item) is

final_head : FinalHeadStays
final_head asked_head closed bytes more head is = (answers_carry chunk_laws asked_head closed bytes more).final.head head is

coming_more : (response : Response) (message : Request) (closed : Bool) (bytes more : List ℕ) (head : Option ReadResponse) →
    head_in (answer_list (is_head message.method) false bytes).final ≡ head →
    IsPrefixOf (coming_by (Some response) head message false bytes)
    (coming_by (Some response) (head_in (answer_list (is_head message.method) closed (bytes ++ more)).final) message closed (bytes ++ more))
coming_more response message closed bytes more None is = (_, refl)
coming_more response message closed bytes more (Some head) is =
    rw (final_head (is_head message.method) closed bytes more head is)
    (final_text-grows (framed_as head response) (is_head message.method) closed bytes more
    (begun_by (answer_list (is_head message.method) false bytes).final head is))

coming_grows : (given : Option Response) (message : Request) (shut later_shut : Bool) (bytes later : List ℕ) → HearsOn shut bytes later_shut later →
    IsPrefixOf (coming_by given (head_in (answer_list (is_head message.method) shut bytes).final) message shut bytes)
    (coming_by given (head_in (answer_list (is_head message.method) later_shut later).final) message later_shut later)
coming_grows None message shut later_shut bytes later hears = ([], refl)
coming_grows (Some response) message shut later_shut bytes later (hears_same closed same) =
    rw (closed, same) (prefix_self (coming_by (Some response) (head_in (answer_list (is_head message.method) shut bytes).final) message shut bytes))
coming_grows (Some response) message shut later_shut bytes later (hears_more closed (more, is)) =
    rw (closed, is) (coming_more response message later_shut bytes more (head_in (answer_list (is_head message.method) false bytes).final) refl)

-- Where more bytes of a server are seen, the text of the response that is streamed begins with what it was.
pub coming_text_grows : (flow : Flow) (seen later : Sight) → HearsOn seen.shut seen.server later.shut later.server →
    IsPrefixOf (coming_text flow seen) (coming_text flow later)
coming_text_grows flow seen later hears = coming_grows flow.response flow.request seen.shut later.shut seen.server later.server hears

-- what is left of it behind so many bytes begins so too
pub left_prefix : (told : ℕ) (text later : List ℕ) → IsPrefixOf text later → IsPrefixOf (left_of told text) (left_of told later)
left_prefix told text later (more, is) = rw is (drop_begins told text more)

-- In each view its bytes begin with those that were seen.
text_prefix : (text later : List ℕ) (rest : List Atom) → IsPrefixOf text later → IsPrefixOf (map byte text ++ []) (map byte later ++ rest)
text_prefix text later rest (more, is) = (
  map byte more ++ rest,
  ap (λ l. map byte l ++ rest) is
      ∙ (ap (λ l. l ++ rest) (map-append byte text more)
      ∙ (append_assoc (map byte text) (map byte more) rest
      ∙ ap (λ l. l ++ (map byte more ++ rest)) (sym (append-nil (map byte text))))),
)

sends_grow : (view : View) (text later : List ℕ) (more : List Command) → IsPrefixOf text later →
    IsPrefixOf (seen_of view (commands.Send Client text ∷ [])) (seen_of view (commands.Send Client later ∷ more))
sends_grow (line Client) text later more grows = text_prefix text later (seen_of (line Client) more) grows
sends_grow (line (Server side)) text later more grows = (_, refl)
sends_grow questions text later more grows = (_, refl)
sends_grow course text later more grows = (_, refl)
sends_grow flows text later more grows = (_, refl)
sends_grow order text later more grows = text_prefix text later (seen_of order more) grows

-- a flow that stands stays where flows go on in sequence
busy_onward : (onward : Stage → Stage) → IsOnward onward → (at : At) (flow : Flow) (doing : Doing) → onward (busy at flow doing) ≡ busy at flow doing
busy_onward onward (is_alone is) at flow doing = ap (λ f. f (busy at flow doing)) is
busy_onward onward (is_sequence is) at flow doing = ap (λ f. f (busy at flow doing)) is

-- ---- what is owed first, where it passes and behind that

-- where it passes, and then while it waits, with more behind it
abbrev pub owed_on : (Stage → Stage) → Terms → Turn Stage Command → Sight → List Command → List Command
owed_on onward terms turned past rest = turned.owed ++ (so_far terms (onward turned.stage) past ++ rest)

-- The text of its request comes first, and then that of its response, whether that is whole or not.
pub came_first : (onward : Stage → Stage) → IsOnward onward → (terms : Terms) (at : At) (flow : Flow) (side : ℕ) (how : Sent) (seen past : Sight) (rest : List Command) (came : Option Came) →
    past ≡ past_came came seen → (more : List Command) × (owed_on onward terms (pass_came terms.place at flow side how seen came) past rest
    ≡ sends_up terms.place flow side how seen ++ (commands.Send Client (coming_text flow seen) ∷ more))
came_first onward goes terms at flow side how seen past rest None same = (
  rest,
  rw (busy_onward onward goes at flow (coming_down side how), same) (append_assoc (sends_up terms.place flow side how seen) (sends_coming flow seen) rest),
)
came_first onward goes terms at flow side how seen past rest (Some came) same = (_, append_assoc (sends_up terms.place flow side how seen) _ _)

pub kept_first : (onward : Stage → Stage) → IsOnward onward → (streams : Bool) (terms : Terms) (at : At) (flow : Flow) (side : ℕ) (how : Sent) (most : Option ℕ) (seen past : Sight) (rest : List Command) →
    past ≡ past_kept streams (came_in (streaming flow) seen) seen →
    (more : List Command) × (owed_on onward terms (pass_kept streams terms.place at flow side how most seen) past rest ≡ sends_up terms.place flow side how seen ++ more)
kept_first onward goes true terms at flow side how most seen past rest same =
    let first = came_first onward goes terms at (streaming flow) side how seen past rest (came_in (streaming flow) seen) same in (_, first.1)
kept_first onward goes false terms at flow side how most seen past rest same =
    (rest, rw (busy_onward onward goes at flow (response_body side how most), same) refl)

-- where the request is whole or not
abbrev pub passes_by : Option ℕ → Terms → At → Flow → Doing → Sight → Turn Stage Command
passes_by size terms at flow doing seen =
    let up = end_by (gone_by (going_at doing) size) terms.place at flow doing seen in
    behind_turn up (come_down terms up.stage (past_gone (gone_by (going_at doing) size) seen))

abbrev pub leaves_by : Option ℕ → Terms → At → Flow → Doing → Sight → Sight
leaves_by size terms at flow doing seen =
    let going = gone_by (going_at doing) size in sight_come (end_by going terms.place at flow doing seen).stage (past_gone going seen)

pub head_first : (onward : Stage → Stage) → IsOnward onward → (size : Option ℕ) (terms : Terms) (at : At) (flow : Flow) (side : ℕ) (how : Sent) (seen past : Sight) (rest : List Command) →
    past ≡ leaves_by size terms at flow (response_head side how) seen →
    owed_on onward terms (passes_by size terms at flow (response_head side how) seen) past rest
    ≡ sends_up terms.place flow side how seen ++ (interim_commands flow.request (answers_in flow.request seen).interim ++ rest)
head_first onward goes size terms at flow side all_sent seen past rest same = rw (busy_onward onward goes at flow (response_head side all_sent), same) refl
head_first onward goes None terms at flow side going_up seen past rest same = rw (busy_onward onward goes at flow (response_head side going_up), same) refl
head_first onward goes (Some n) terms at flow side going_up seen past rest same =
    rw (busy_onward onward goes at (with_whole flow seen.now) (response_head side all_sent), same) refl

pub body_first : (onward : Stage → Stage) → IsOnward onward → (size : Option ℕ) (terms : Terms) (at : At) (flow : Flow) (side : ℕ) (how : Sent) (most : Option ℕ) (seen past : Sight) (rest : List Command) →
    past ≡ leaves_by size terms at flow (response_body side how most) seen →
    (more : List Command) × (owed_on onward terms (passes_by size terms at flow (response_body side how most) seen) past rest ≡ sends_up terms.place flow side how seen ++ more)
body_first onward goes size terms at flow side all_sent most seen past rest same =
    kept_first onward goes (streams_in flow most seen) terms at flow side all_sent most seen past rest same
body_first onward goes None terms at flow side going_up most seen past rest same =
    kept_first onward goes (streams_in flow most seen) terms at flow side going_up most seen past rest same
body_first onward goes (Some n) terms at flow side going_up most seen past rest same = (_, refl)

pub coming_first : (onward : Stage → Stage) → IsOnward onward → (size : Option ℕ) (terms : Terms) (at : At) (flow : Flow) (side : ℕ) (how : Sent) (seen past : Sight) (rest : List Command) →
    past ≡ leaves_by size terms at flow (coming_down side how) seen →
    (more : List Command) × (owed_on onward terms (passes_by size terms at flow (coming_down side how) seen) past rest
    ≡ sends_up terms.place flow side how seen ++ (commands.Send Client (coming_text flow seen) ∷ more))
coming_first onward goes size terms at flow side all_sent seen past rest same = came_first onward goes terms at flow side all_sent seen past rest (came_in flow seen) same
coming_first onward goes None terms at flow side going_up seen past rest same = came_first onward goes terms at flow side going_up seen past rest (came_in flow seen) same
coming_first onward goes (Some n) terms at flow side going_up seen past rest same =
    let left : Sight = past_gone (Some side) seen in
    let whole : Flow = with_whole flow seen.now in
    let first = came_first onward goes terms at whole side all_sent left past rest (came_in whole left) same in
    (first.0, ap (λ l. sends_going terms.place flow side seen ++ l) first.1)

-- ---- what grows of a request and of its response

-- what is said to the client no server sees
abbrev pub IsUnseen : List Command → Type 0
IsUnseen owed = (server : ℕ) → seen_of (line (Server server)) owed ≡ []

map_unseen : (server : ℕ) (heads : List ReadResponse) → seen_of (line (Server server)) (map interim_command heads) ≡ []
map_unseen server [] = refl
map_unseen server (head ∷ heads) = map_unseen server heads

pub interim_unseen : (version : Version) (request : Request) (heads : List ReadResponse) → request.version ≡ version → IsUnseen (interim_commands request heads)
interim_unseen versions.Http10 request heads is server = rw is refl
interim_unseen versions.Http11 request heads is server = rw is (map_unseen server heads)

server_grows : (same : Bool) (text later : List ℕ) (seen rest : List Atom) → seen ≡ [] → IsPrefixOf text later →
    IsPrefixOf ((if same then map byte text else []) ++ seen) ((if same then map byte later else []) ++ rest)
server_grows true text later seen rest unseen grows = rw unseen (text_prefix text later rest grows)
server_grows false text later seen rest unseen grows = rw unseen (rest, refl)

pub up_grows : (view : View) (server : ℕ) (text later : List ℕ) (owed more : List Command) → IsPrefixOf text later → IsUnseen owed → IsPrefixOf (seen_of view owed) (seen_of view more) →
    IsPrefixOf (seen_of view (commands.Send (Server server) text ∷ owed)) (seen_of view (commands.Send (Server server) later ∷ more))
up_grows (line Client) server text later owed more grows unseen on = on
up_grows (line (Server other)) server text later owed more grows unseen on =
    server_grows (server == other) text later (seen_of (line (Server other)) owed) (seen_of (line (Server other)) more) (unseen other) grows
up_grows questions server text later owed more grows unseen on = on
up_grows course server text later owed more grows unseen on = on
up_grows flows server text later owed more grows unseen on = on
up_grows order server text later owed more grows unseen on = on

-- The text of the request grows for its server, and what is said to the client for all others.
pub both_grow : (view : View) (place : Place) (flow : Flow) (side : ℕ) (how : Sent) (seen later : Sight) (owed more : List Command) →
    IsPrefixOf seen.client later.client → later.told ≡ seen.told → IsUnseen owed → IsPrefixOf (seen_of view owed) (seen_of view more) →
    IsPrefixOf (seen_of view (sends_up place flow side how seen ++ owed)) (seen_of view (sends_up place flow side how later ++ more))
both_grow view place flow side all_sent seen later owed more grows same unseen on = on
both_grow view place flow side going_up seen later owed more grows same unseen on =
    up_grows view side (left_of seen.told (going_text place flow seen)) (left_of later.told (going_text place flow later)) owed more
    (rw same (left_prefix seen.told (going_text place flow seen) (going_text place flow later) (going_text_grows place flow seen later grows))) unseen on

-- ---- of a parked side of which a byte came

-- what is owed of it grows with its bytes
nothing_front : {A : Type 0} (xs ys : List A) → xs ++ ys ≡ [] → xs ≡ []
nothing_front [] ys is = refl
nothing_front (x ∷ xs) ys is = absurd (let e : x ∷ (xs ++ ys) ≡ [] = is in cc)

nothing_before : (shut later_shut : Bool) (bytes later : List ℕ) → HearsOn shut bytes later_shut later → later ≡ [] → bytes ≡ []
nothing_before shut later_shut bytes later (hears_same closed same) is = sym same ∙ is
nothing_before shut later_shut bytes later (hears_more closed (more, on)) is = nothing_front bytes more (sym on ∙ is)

-- of a side of which nothing came nothing is owed
silent_strays : (parked : Option Parked) (seen later : Sight) → ((side : ℕ) → side_parked parked ≡ Some side → HearsOn seen.shut seen.server later.shut later.server) →
    later.server ≡ [] → shut_stray parked seen ≡ []
silent_strays None seen later hears is = refl
silent_strays (Some parked) seen later hears is =
    ap (λ l. shut_by_byte parked.server l) (nothing_before seen.shut later.shut seen.server later.server (hears parked.server refl) is)

nothing_grows : (view : View) (owed : List Command) (more : List Atom) → owed ≡ [] → IsPrefixOf (seen_of view owed) more
nothing_grows view owed more is = subst (λ l. IsPrefixOf (seen_of view l) more) (sym is) (more, refl)

byte_grows : (view : View) (server front : ℕ) (seen more : List ℕ) (rest : List Command) → IsPrefixOf (front ∷ seen) more →
    IsPrefixOf (seen_of view (shut_by_byte server (front ∷ seen) ++ [])) (seen_of view ((shut_by_byte server more ++ []) ++ rest))
byte_grows view server front seen more rest (on, is) = rw is (seen_of view rest, seen_more view (shut_by_byte server (front ∷ seen) ++ []) rest)

bytes_grow_by : (view : View) (server : ℕ) (seen more : List ℕ) (rest : List Command) → IsPrefixOf seen more →
    IsPrefixOf (seen_of view (shut_by_byte server seen ++ [])) (seen_of view ((shut_by_byte server more ++ []) ++ rest))
bytes_grow_by view server [] more rest on = (_, refl)
bytes_grow_by view server (front ∷ seen) more rest on = byte_grows view server front seen more rest on

hears_prefix : (shut later_shut : Bool) (bytes later : List ℕ) → HearsOn shut bytes later_shut later → IsPrefixOf bytes later
hears_prefix shut later_shut bytes later (hears_same closed same) = ([], same ∙ sym (append-nil bytes))
hears_prefix shut later_shut bytes later (hears_more closed on) = on

pub stray_grows : (view : View) (parked : Option Parked) (seen later : Sight) (rest : List Command) →
    ((side : ℕ) → side_parked parked ≡ Some side → HearsOn seen.shut seen.server later.shut later.server) →
    IsPrefixOf (seen_of view (shut_stray parked seen ++ [])) (seen_of view ((shut_stray parked later ++ []) ++ rest))
stray_grows view None seen later rest hears = (_, refl)
stray_grows view (Some parked) seen later rest hears =
    bytes_grow_by view parked.server seen.server later.server rest (hears_prefix seen.shut later.shut seen.server later.server (hears parked.server refl))

-- a stage at which no flow uses a side
data IsResting (at : At) (to : Stage) : Type 0 where
  rests : (flow : Flow) (given : Option Response) (size : Option ℕ) → to ≡ busy at flow (request_body given size) → IsResting at to
  dials : (flow : Flow) (how : Sent) → to ≡ busy at flow (connection how) → IsResting at to
  gives : (flow : Flow) → to ≡ busy at flow given_head → IsResting at to

given_rests : (at : At) (flow : Flow) (response : Response) (size : Option ℕ) (item : Item ReadRequest) (now : ℕ) → IsResting at (pass_given at flow response size item now)
given_rests at flow response size missing now = rests _ _ _ refl
given_rests at flow response size (part head body) now = rests _ _ _ refl
given_rests at flow response size (complete head body trailers used) now = gives _ refl
given_rests at flow response size (bad_head fault) now = rests _ _ _ refl
given_rests at flow response size (bad_body fault head body) now = rests _ _ _ refl

-- a request that is streamed goes to no side that is not silent
going_rests : (up : Bool) (place : Place) (at : At) (flow : Flow) (size : Option ℕ) (seen : Sight) → is_silent seen.server seen.shut ≡ false →
    IsResting at (pass_going up place at flow size seen)
going_rests true place at flow size seen is =
    dials (sending_on flow) going_up (ap (λ silent. goes_up_by (parked_for place flow.request (unspoilt_by silent at.parked)) place at (sending_on flow)) is)
going_rests false place at flow size seen is = rests _ _ _ refl

body_rests : (place : Place) (at : At) (flow : Flow) (given : Option Response) (size : Option ℕ) (seen : Sight) → is_silent seen.server seen.shut ≡ false →
    IsResting at (pass_body place at flow given size seen)
body_rests place at flow None size seen is = going_rests (goes_up size seen) place at flow size seen is
body_rests place at flow (Some response) size seen is = given_rests at flow response size (request_in seen) seen.now

-- from there on nothing is owed but its close
abbrev pub passes_from : Terms → Stage → Sight → Turn Stage Command
passes_from terms to left = behind_turn (end_up terms to left) (come_down terms (end_up terms to left).stage (sight_ended to left))

record StraysOn (onward : Stage → Stage) (terms : Terms) (at : At) (to : Stage) (left : Sight) : Type 0 where
  owed : (passes_from terms to left).owed ≡ []
  so_far : (past : Sight) → so_far terms (onward (passes_from terms to left).stage) past ≡ shut_stray at.parked past ++ []
  past : sight_come (end_up terms to left).stage (sight_ended to left) ≡ left

strays_on : (onward : Stage → Stage) → IsOnward onward → (terms : Terms) (at : At) (to : Stage) (left : Sight) → IsResting at to → StraysOn onward terms at to left
strays_on onward goes terms at to left (rests flow given size is) = rw is (record {
  owed = refl;
  so_far = λ past. ap (λ s. so_far terms s past) (busy_onward onward goes at flow (request_body given size));
  past = refl;
})
strays_on onward goes terms at to left (dials flow how is) = rw is (record {
  owed = refl;
  so_far = λ past. ap (λ s. so_far terms s past) (busy_onward onward goes at flow (connection how));
  past = refl;
})
strays_on onward goes terms at to left (gives flow is) = rw is (record {
  owed = refl;
  so_far = λ past. ap (λ s. so_far terms s past) (busy_onward onward goes at flow given_head);
  past = refl;
})

body_grows : (silent : Bool) (onward : Stage → Stage) → IsOnward onward → (terms : Terms) (view : View) (at : At) (flow : Flow) (given : Option Response) (size : Option ℕ) (seen later past : Sight) (rest : List Command) →
    is_silent later.server later.shut ≡ silent →
    ((side : ℕ) → side_parked at.parked ≡ Some side → HearsOn seen.shut seen.server later.shut later.server) →
    past ≡ sight_past terms (busy at flow (request_body given size)) later →
    IsPrefixOf (seen_of view (shut_stray at.parked seen ++ [])) (seen_of view (owed_on onward terms (pass terms (busy at flow (request_body given size)) later) past rest))
body_grows true onward goes terms view at flow given size seen later past rest is hears same =
    nothing_grows view (shut_stray at.parked seen ++ []) _ (ap (λ l. l ++ []) (silent_strays at.parked seen later hears (silent_nothing later.server later.shut is).empty))
body_grows false onward goes terms view at flow given size seen later past rest is hears same =
    let stage : Stage = busy at flow (request_body given size) in
    let to : Stage = begin_up terms stage later in
    let left : Sight = sight_begun stage later in
    let on = strays_on onward goes terms at to left (body_rests terms.place at flow given size later is) in
    let bytes : past.server ≡ later.server = ap (λ s. s.server) (same ∙ on.past) ∙ (begin_uses stage later).server in
    let stray : shut_stray at.parked past ≡ shut_stray at.parked later = stray_by at.parked past later bytes in
    let owes : owed_on onward terms (pass terms stage later) past rest ≡ (shut_stray at.parked later ++ []) ++ rest =
    ap (λ l. l ++ (so_far terms (onward (passes_from terms to left).stage) past ++ rest)) on.owed
    ∙ (ap (λ l. l ++ rest) (on.so_far past) ∙ ap (λ l. (l ++ []) ++ rest) stray) in
    subst (λ l. IsPrefixOf (seen_of view (shut_stray at.parked seen ++ [])) (seen_of view l)) (sym owes) (stray_grows view at.parked seen later rest hears)
  where
    stray_by : (parked : Option Parked) (past later : Sight) → past.server ≡ later.server → shut_stray parked past ≡ shut_stray parked later
    stray_by None past later is = refl
    stray_by (Some parked) past later is = ap (λ l. shut_by_byte parked.server l) is

-- where it does not pass
stays_grow : (onward : Stage → Stage) (terms : Terms) (view : View) (at : At) (stage : Stage) (seen later past : Sight) (rest : List Command) →
    ((side : ℕ) → side_parked at.parked ≡ Some side → HearsOn seen.shut seen.server later.shut later.server) → past ≡ later →
    so_far terms (onward stage) later ≡ shut_stray at.parked later ++ [] →
    IsPrefixOf (seen_of view (shut_stray at.parked seen ++ [])) (seen_of view (owed_on onward terms (goes_to stage) past rest))
stays_grow onward terms view at stage seen later past rest hears same is =
    subst (λ l. IsPrefixOf (seen_of view (shut_stray at.parked seen ++ [])) (seen_of view l))
    (ap (λ l. l ++ rest) (sym is) ∙ ap (λ s. so_far terms (onward stage) s ++ rest) (sym same)) (stray_grows view at.parked seen later rest hears)

-- ---- one event more

pub doing_grows : (onward : Stage → Stage) → IsOnward onward → (terms : Terms) (view : View) (at : At) (flow : Flow) (doing : Doing) (seen later past : Sight) (rest : List Command) →
    ((side : ℕ) → side_in at doing ≡ Some side → HearsOn seen.shut seen.server later.shut later.server) →
    past ≡ sight_past terms (busy at flow doing) later → IsPrefixOf seen.client later.client → later.told ≡ seen.told →
    IsPrefixOf (seen_of view (so_far terms (busy at flow doing) seen)) (seen_of view (owed_on onward terms (pass terms (busy at flow doing) later) past rest))
doing_grows onward goes terms view at flow (request_body given size) seen later past rest hears same client told =
    body_grows (is_silent later.server later.shut) onward goes terms view at flow given size seen later past rest refl hears same
doing_grows onward goes terms view at flow (connection how) seen later past rest hears same client told =
    stays_grow onward terms view at (busy at flow (connection how)) seen later past rest hears same (ap (λ s. so_far terms s later) (busy_onward onward goes at flow (connection how)))
doing_grows onward goes terms view at flow (response_head side how) seen later past rest hears same client told =
    let heads : List ReadResponse = (answers_in flow.request seen).interim in
    let longer : List ReadResponse = (answers_in flow.request later).interim in
    rw (head_first onward goes (whole_in later) terms at flow side how later past rest same)
    (both_grow view terms.place flow side how seen later (interim_commands flow.request heads) (interim_commands flow.request longer ++ rest) client told
    (interim_unseen flow.request.version flow.request heads refl)
    (commands_grow view flow.request heads longer rest (answers_grow (is_head flow.request.method) seen.shut later.shut seen.server later.server (hears side refl))))
doing_grows onward goes terms view at flow (response_body side how most) seen later past rest hears same client told =
    let first = body_first onward goes (whole_in later) terms at flow side how most later past rest same in
    rw first.1 (subst (λ l. IsPrefixOf (seen_of view l) (seen_of view (sends_up terms.place flow side how later ++ first.0))) (append-nil (sends_up terms.place flow side how seen))
    (both_grow view terms.place flow side how seen later [] first.0 client told (λ server. refl) (_, refl)))
doing_grows onward goes terms view at flow (coming_down side how) seen later past rest hears same client told =
    let first = coming_first onward goes (whole_in later) terms at flow side how later past rest same in
    rw first.1 (both_grow view terms.place flow side how seen later (sends_coming flow seen) (commands.Send Client (coming_text flow later) ∷ first.0) client told (λ server. refl)
    (sends_grow view (coming_text flow seen) (coming_text flow later) first.0 (coming_text_grows flow seen later (hears side refl))))
doing_grows onward goes terms view at flow (upgraded side) seen later past rest hears same client told = (_, refl)
doing_grows onward goes terms view at flow given_head seen later past rest hears same client told =
    stays_grow onward terms view at (busy at flow given_head) seen later past rest hears same (ap (λ s. so_far terms s later) (busy_onward onward goes at flow given_head))
doing_grows onward goes terms view at flow given_body seen later past rest hears same client told =
    stays_grow onward terms view at (busy at flow given_body) seen later past rest hears same (ap (λ s. so_far terms s later) (busy_onward onward goes at flow given_body))

abbrev pub placed : Stage → Since → ℕ → UsedBytes → ℕ → Standing
placed stage since opened used told = record { stage = stage; since = since; opened = opened; used = used; told = told }

hears_at : (side : Option ℕ) (number opened used : ℕ) (prefix : List (Timed Event)) (e : Timed Event) → client_closed prefix ≡ false → side ≡ Some number →
    HearsOn (shut_over side opened prefix) (drop used (bytes_over side opened prefix)) (shut_over side opened (prefix ++ e ∷ [])) (drop used (bytes_over side opened (prefix ++ e ∷ [])))
hears_at side number opened used prefix e open_client is = rw is (hears_on number opened used prefix e open_client)

-- where no flow stands
idle_strays : (onward : Stage → Stage) → IsOnward onward → (terms : Terms) (at : At) (seen : Sight) → so_far terms (onward (idle at)) seen ≡ shut_stray at.parked seen ++ []
idle_strays onward (is_alone is) terms at seen = ap (λ f. so_far terms (f (idle at)) seen) is
idle_strays onward (is_sequence is) terms at seen = ap (λ f. so_far terms (f (idle at)) seen) is

next_strays : (onward : Stage → Stage) → IsOnward onward → (terms : Terms) (at : At) (seen : Sight) → so_far terms (onward (next at)) seen ≡ shut_stray at.parked seen ++ []
next_strays onward (is_alone is) terms at seen = ap (λ f. so_far terms (f (next at)) seen) is
next_strays onward (is_sequence is) terms at seen = ap (λ f. so_far terms (f (next at)) seen) is

grows_at : (onward : Stage → Stage) → IsOnward onward → (terms : Terms) (view : View) (stage : Stage) (since : Since) (opened : ℕ) (used : UsedBytes) (told : ℕ) (prefix : List (Timed Event)) (e : Timed Event) →
    client_closed prefix ≡ false →
    IsPrefixOf (seen_of view (so_far terms stage (sight_over (placed stage since opened used told) prefix)))
    (seen_of view (owed_over (http_chain onward terms) (placed stage since opened used told) (prefix ++ e ∷ [])))
grows_at onward goes terms view (idle at) since opened used told prefix e open_client =
    let place : Standing = placed (idle at) since opened used told in
    let later : Sight = sight_over place (prefix ++ e ∷ []) in
    let there : Standing = passed onward terms place later in
    stays_grow onward terms view at (idle at) (sight_over place prefix) later (sight_over there (prefix ++ e ∷ [])) (found_at (http_chain onward terms) there (prefix ++ e ∷ []))
    (λ side is. hears_at (side_parked at.parked) side opened used.server prefix e open_client is) (sight_passed onward goes terms place (prefix ++ e ∷ []))
    (idle_strays onward goes terms at later)
grows_at onward goes terms view (busy at flow doing) since opened used told prefix e open_client =
    let place : Standing = placed (busy at flow doing) since opened used told in
    let later : Sight = sight_over place (prefix ++ e ∷ []) in
    let there : Standing = passed onward terms place later in
    doing_grows onward goes terms view at flow doing (sight_over place prefix) later (sight_over there (prefix ++ e ∷ []))
    (found_at (http_chain onward terms) there (prefix ++ e ∷ []))
    (λ side is. hears_at (side_in at doing) side opened used.server prefix e open_client is)
    (sight_passed onward goes terms place (prefix ++ e ∷ [])) (client_on used.client prefix e open_client) refl
grows_at onward goes terms view (next at) since opened used told prefix e open_client =
    let place : Standing = placed (next at) since opened used told in
    let later : Sight = sight_over place (prefix ++ e ∷ []) in
    let there : Standing = passed onward terms place later in
    stays_grow onward terms view at (next at) (sight_over place prefix) later (sight_over there (prefix ++ e ∷ [])) (found_at (http_chain onward terms) there (prefix ++ e ∷ []))
    (λ side is. hears_at (side_parked at.parked) side opened used.server prefix e open_client is) (sight_passed onward goes terms place (prefix ++ e ∷ []))
    (next_strays onward goes terms at later)
grows_at onward goes terms view over since opened used told prefix e open_client = (_, refl)

-- In each view what is owed while it waits only grows.
pub so_far_grows : (onward : Stage → Stage) → IsOnward onward → (terms : Terms) (view : View) → SoFarGrows (http_chain onward terms) (seen_of view)
so_far_grows onward goes terms view = record {
  grows = λ place prefix e is.
      grows_at onward goes terms view place.stage place.since place.opened place.used place.told prefix e (open_still terms place.stage (sight_over place prefix) is);
}
