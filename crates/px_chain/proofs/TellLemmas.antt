-- What a server was sent so far, at a stage of a conversation: nothing; the beginning of the text of a request that goes up to it, as far as earlier asks owed it; or
-- all that it is ever sent. So it stays where the conversation passes, and hears more.
use Rattle.std.proofs.Common.{◌≡◌, ℕ, ◌≤◌, ◌<◌, Bool, true, false, List, [], ◌++◌, length, drop, map, Option, Some, None, refl, ap, sym, ◌∙◌, subst, arith, append_assoc}
use Rattle.std.specs.Prelude.{⊤, ◌≢◌, ◌==◌, ◌&&◌}
use Rattle.std.proofs.Math.Seq.{drop-append_seam}
use Rattle.std.proofs.lemmas.Bool.{eq-eqb, eqb-true}
use Rattle.std.proofs.lemmas.List.{append-nil}
use Rattle.px_text.specs.Prefix.{IsPrefixOf}
use Rattle.px_message.specs.declared.flow.Flow.{Flow}
use Rattle.px_message.specs.declared.request.Request.{Request}
use Rattle.px_message.specs.declared.response.Response.{Response}
use Rattle.px_event.specs.declared.command.Command.{Command}
use Rattle.px_event.specs.View.{byte, bytes_in}
use Rattle.px_event.proofs.Growth.{prefix_trans}
use Rattle.px_event.proofs.LineLemmas.{bytes_alone}
use Rattle.px_read.specs.Items.{Item, missing, part, complete, bad_head, bad_body}
use Rattle.px_read.specs.Laws.{head_in}
use Rattle.px_read.specs.declared.head.RequestHead.{RequestHead as ReadRequest}
use Rattle.px_read.specs.declared.head.ResponseHead.{ResponseHead as ReadResponse}
use Rattle.px_exchange.specs.declared.place.Place.{Place}
use Rattle.px_exchange.specs.declared.place.Place.TheVariants as places
use Rattle.px_exchange.specs.declared.ending.Used.{Used}
use Rattle.px_exchange.specs.declared.ending.Used.TheVariants.{NoServer}
use Rattle.px_exchange.specs.declared.terms.Terms.{Terms}
use Rattle.px_exchange.specs.Endings.{shut_unless, unless_kept}
use Rattle.px_exchange.specs.Places.{form_at, is_same_address, server_for}
use Rattle.px_exchange.specs.Texts.{interim_commands}
use Rattle.px_parts.specs.Texts.{left_of}
use Rattle.px_chain.specs.Chain.{IsOnward, begin_up, behind_flow, come_down, end_by, end_up, goes_up_by, going_at, gone_by, gone_up, is_alone, is_sequence, keeps_came, parked_for, pass, pass_came, pass_given, pass_going, pass_kept, past_came, past_gone, past_kept, sequence, side_if, sight_begun, sight_come, sight_ended, sight_gone, sight_past, so_far}
use Rattle.px_chain.specs.Keeping.{is_silent, keeps_side, parks, unspoilt_at, unspoilt_by}
use Rattle.px_chain.specs.Coming.{Came, came_by, came_in, finished_coming, goes_on_behind, sends_coming, streaming, streams_in}
use Rattle.px_chain.specs.Going.{framed_up, goes_up, going_by, going_text, is_sent, sending_on, sends_going, told_behind, told_doing, whole_by, whole_in}
use Rattle.px_chain.specs.Sent.{GoesToParked, IsSentOnce, going_on, nothing}
use Rattle.px_chain.specs.Sights.{Sight, answers_in, request_in, server_in}
use Rattle.px_chain.specs.Stages.{At, Doing, Parked, Sent, Stage, all_sent, busy, coming_down, connection, given_body, given_head, going_up, idle, next, over, request_body, response_body, response_head, side_parked, upgraded}
use Rattle.px_chain.proofs.CountedLemmas.{IsSilent}
use Rattle.px_chain.proofs.GoingLaws.{going_text_grows}
use Rattle.px_chain.proofs.OnceLemmas.{sent_join, sent_to}
use Rattle.px_chain.proofs.NotUp.{IsNotUp, IsNotUpBy, gone_not_up}
use Rattle.px_chain.proofs.SilentLemmas.{ServersBelow, SideBelow, came_silent, finished_down, for_below, so_far_silent, unspoilt_below, up_silent, waits_silent}

-- ---- no response of a server is whole

abbrev pub IsUnansweredBy : ℕ → ℕ → Flow → Sight → Type 0
IsUnansweredBy server side flow seen = (side == server) ≡ true → whole_by (answers_in flow.request seen).final ≡ None

abbrev pub IsUnanswered : ℕ → Stage → Sight → Type 0
IsUnanswered server (busy at flow (response_body side how most)) seen = IsUnansweredBy server side flow seen
IsUnanswered server (busy at flow (coming_down side how)) seen = IsUnansweredBy server side flow seen
IsUnanswered server stage seen = ⊤

came_whole : (given : Option Response) (item : Item ReadResponse) (came : Came) → came_by given item ≡ Some came → whole_by item ≡ None → ⊥
came_whole None item came is none = let e : None ≡ Some came = is in cc
came_whole (Some response) missing came is none = let e : None ≡ Some came = is in cc
came_whole (Some response) (part head body) came is none = let e : None ≡ Some came = is in cc
came_whole (Some response) (complete head body trailers size) came is none = let e : Some size ≡ None = none in cc
came_whole (Some response) (bad_head fault) came is none = let e : None ≡ Some came = is in cc
came_whole (Some response) (bad_body fault head body) came is none = let e : None ≡ Some came = is in cc

-- so one that came down whole is another's
not_its : (same : Bool) (server side : ℕ) (flow : Flow) (seen : Sight) (came : Came) → (side == server) ≡ same → came_in flow seen ≡ Some came → IsUnansweredBy server side flow seen →
    (side == server) ≡ false
not_its true server side flow seen came is there none = absurd (came_whole flow.response (answers_in flow.request seen).final came there (none is))
not_its false server side flow seen came is there none = is

not_server : (server side : ℕ) (flow : Flow) (seen : Sight) (came : Came) → came_in flow seen ≡ Some came → IsUnansweredBy server side flow seen → (side == server) ≡ false
not_server server side flow seen came there none = not_its (side == server) server side flow seen came refl there none

-- it stays so where a request goes up
unanswered_gone : (server : ℕ) (g : Option ℕ) (place : Place) (at : At) (flow : Flow) (doing : Doing) (seen : Sight) → IsUnanswered server (busy at flow doing) seen →
    IsUnanswered server (end_by g place at flow doing seen).stage (past_gone g seen)
unanswered_gone server None place at flow doing seen is = is
unanswered_gone server (Some to) place at flow (request_body given size) seen is = tt
unanswered_gone server (Some to) place at flow (connection how) seen is = tt
unanswered_gone server (Some to) place at flow (response_head side how) seen is = tt
unanswered_gone server (Some to) place at flow (response_body side how most) seen is = is
unanswered_gone server (Some to) place at flow (coming_down side how) seen is = is
unanswered_gone server (Some to) place at flow (upgraded side) seen is = tt
unanswered_gone server (Some to) place at flow given_head seen is = tt
unanswered_gone server (Some to) place at flow given_body seen is = tt

unanswered_ended : (server : ℕ) (terms : Terms) (stage : Stage) (seen : Sight) → IsUnanswered server stage seen → IsUnanswered server (end_up terms stage seen).stage (sight_ended stage seen)
unanswered_ended server terms (idle at) seen is = tt
unanswered_ended server terms (busy at flow doing) seen is = unanswered_gone server (gone_by (going_at doing) (whole_in seen)) terms.place at flow doing seen is
unanswered_ended server terms (next at) seen is = tt
unanswered_ended server terms over seen is = tt

up_unanswered : (server : ℕ) (side : Option ℕ) (place : Place) (at : At) (flow : Flow) (seen : Sight) → IsUnanswered server (goes_up_by side place at flow) seen
up_unanswered server None place at flow seen = tt
up_unanswered server (Some side) place at flow seen = tt

going_unanswered : (server : ℕ) (up : Bool) (place : Place) (at : At) (flow : Flow) (size : Option ℕ) (seen : Sight) → IsUnanswered server (pass_going up place at flow size seen) seen
going_unanswered server true place at flow size seen = up_unanswered server (parked_for place flow.request (unspoilt_at at seen).parked) place at (sending_on flow) seen
going_unanswered server false place at flow size seen = tt

given_unanswered : (server : ℕ) (at : At) (flow : Flow) (response : Response) (size : Option ℕ) (item : Item ReadRequest) (now : ℕ) (past : Sight) →
    IsUnanswered server (pass_given at flow response size item now) past
given_unanswered server at flow response size missing now past = tt
given_unanswered server at flow response size (part head body) now past = tt
given_unanswered server at flow response size (complete head body trailers used) now past = tt
given_unanswered server at flow response size (bad_head fault) now past = tt
given_unanswered server at flow response size (bad_body fault head body) now past = tt

unanswered_begun : (server : ℕ) (terms : Terms) (stage : Stage) (seen : Sight) → IsUnanswered server stage seen → IsUnanswered server (begin_up terms stage seen) (sight_begun stage seen)
unanswered_begun server terms (idle at) seen is = tt
unanswered_begun server terms (busy at flow (request_body None size)) seen is = going_unanswered server (goes_up size seen) terms.place at flow size seen
unanswered_begun server terms (busy at flow (request_body (Some response) size)) seen is =
    given_unanswered server at flow response size (request_in seen) seen.now (sight_begun (busy at flow (request_body (Some response) size)) seen)
unanswered_begun server terms (busy at flow (connection how)) seen is = tt
unanswered_begun server terms (busy at flow (response_head side how)) seen is = tt
unanswered_begun server terms (busy at flow (response_body side how most)) seen is = is
unanswered_begun server terms (busy at flow (coming_down side how)) seen is = is
unanswered_begun server terms (busy at flow (upgraded side)) seen is = tt
unanswered_begun server terms (busy at flow given_head) seen is = tt
unanswered_begun server terms (busy at flow given_body) seen is = tt
unanswered_begun server terms (next at) seen is = tt
unanswered_begun server terms over seen is = tt

unanswered_up : (server : ℕ) (terms : Terms) (stage : Stage) (seen : Sight) → IsUnanswered server stage seen → IsUnanswered server (gone_up terms stage seen) (sight_gone terms stage seen)
unanswered_up server terms stage seen is = unanswered_ended server terms (begin_up terms stage seen) (sight_begun stage seen) (unanswered_begun server terms stage seen is)

-- ---- what is so of the number of dials of a stage, and of the side that is parked there; at the end it counts for nothing

abbrev pub IsAt : (ℕ → Option Parked → Type 0) → Stage → Type 0
IsAt holds (idle at) = holds at.dials at.parked
IsAt holds (busy at flow doing) = holds at.dials at.parked
IsAt holds (next at) = holds at.dials at.parked
IsAt holds over = ⊤

module _ (holds : ℕ → Option Parked → Type 0) where
  -- where a side is used or closed none is parked, and behind a response of another server that one's may be
  module _ (closes : (dials : ℕ) (parked : Option Parked) → holds dials parked → holds dials None) (server : ℕ)
      (keeps : (dials : ℕ) (parked : Option Parked) (own : Parked) → (own.server == server) ≡ false → holds dials parked → holds dials (Some own)) where
    up_at : (side : Option ℕ) (place : Place) (at : At) (flow : Flow) → holds at.dials at.parked → IsAt holds (goes_up_by side place at flow)
    up_at None place at flow is = is
    up_at (Some side) place at flow is = closes at.dials at.parked is

    going_is_at : (up : Bool) (place : Place) (at : At) (flow : Flow) (size : Option ℕ) (seen : Sight) → holds at.dials at.parked → IsAt holds (pass_going up place at flow size seen)
    going_is_at true place at flow size seen is = up_at (parked_for place flow.request (unspoilt_at at seen).parked) place at (sending_on flow) is
    going_is_at false place at flow size seen is = is

    given_is_at : (at : At) (flow : Flow) (response : Response) (size : Option ℕ) (item : Item ReadRequest) (now : ℕ) → holds at.dials at.parked → IsAt holds (pass_given at flow response size item now)
    given_is_at at flow response size missing now is = is
    given_is_at at flow response size (part head body) now is = is
    given_is_at at flow response size (complete head body trailers used) now is = is
    given_is_at at flow response size (bad_head fault) now is = is
    given_is_at at flow response size (bad_body fault head body) now is = is

    begin_at : (terms : Terms) (stage : Stage) (seen : Sight) → IsAt holds stage → IsAt holds (begin_up terms stage seen)
    begin_at terms (idle at) seen is = is
    begin_at terms (busy at flow (request_body None size)) seen is = going_is_at (goes_up size seen) terms.place at flow size seen is
    begin_at terms (busy at flow (request_body (Some response) size)) seen is = given_is_at at flow response size (request_in seen) seen.now is
    begin_at terms (busy at flow (connection how)) seen is = is
    begin_at terms (busy at flow (response_head side how)) seen is = is
    begin_at terms (busy at flow (response_body side how most)) seen is = is
    begin_at terms (busy at flow (coming_down side how)) seen is = is
    begin_at terms (busy at flow (upgraded side)) seen is = is
    begin_at terms (busy at flow given_head) seen is = is
    begin_at terms (busy at flow given_body) seen is = is
    begin_at terms (next at) seen is = is
    begin_at terms over seen is = tt

    end_at_by : (g : Option ℕ) (place : Place) (at : At) (flow : Flow) (doing : Doing) (seen : Sight) → holds at.dials at.parked → IsAt holds (end_by g place at flow doing seen).stage
    end_at_by None place at flow doing seen is = is
    end_at_by (Some server) place at flow doing seen is = is

    end_at : (terms : Terms) (stage : Stage) (seen : Sight) → IsAt holds stage → IsAt holds (end_up terms stage seen).stage
    end_at terms (idle at) seen is = is
    end_at terms (busy at flow doing) seen is = end_at_by (gone_by (going_at doing) (whole_in seen)) terms.place at flow doing seen is
    end_at terms (next at) seen is = is
    end_at terms over seen is = tt

    behind_at : (stays keep : Bool) (place : Place) (at : At) (request : Request) (side : ℕ) → (side == server) ≡ false → holds at.dials at.parked →
        IsAt holds (behind_flow stays (parks (stays && keep) place at request side))
    behind_at true true place at request side other is = keeps at.dials at.parked _ other is
    behind_at true false place at request side other is = closes at.dials at.parked is
    behind_at false keep place at request side other is = tt

    came_at : (place : Place) (at : At) (flow : Flow) (side : ℕ) (how : Sent) (seen : Sight) (came : Option Came) → came_in flow seen ≡ came → IsUnansweredBy server side flow seen →
        holds at.dials at.parked → IsAt holds (pass_came place at flow side how seen came).stage
    came_at place at flow side how seen None there none is = is
    came_at place at flow side how seen (Some came) there none is =
        behind_at (is_sent how && goes_on_behind at.flow flow.request came) (keeps_side flow.request seen came.head) place at flow.request side (not_server server side flow seen came there none) is

    kept_at : (streams : Bool) (place : Place) (at : At) (flow : Flow) (side : ℕ) (how : Sent) (most : Option ℕ) (seen : Sight) → IsUnansweredBy server side flow seen → holds at.dials at.parked →
        IsAt holds (pass_kept streams place at flow side how most seen).stage
    kept_at true place at flow side how most seen none is = came_at place at (streaming flow) side how seen (came_in (streaming flow) seen) refl none is
    kept_at false place at flow side how most seen none is = is

    come_at : (terms : Terms) (stage : Stage) (seen : Sight) → IsUnanswered server stage seen → IsAt holds stage → IsAt holds (come_down terms stage seen).stage
    come_at terms (idle at) seen none is = is
    come_at terms (busy at flow (request_body given size)) seen none is = is
    come_at terms (busy at flow (connection how)) seen none is = is
    come_at terms (busy at flow (response_head side how)) seen none is = is
    come_at terms (busy at flow (response_body side how most)) seen none is = kept_at (streams_in flow most seen) terms.place at flow side how most seen none is
    come_at terms (busy at flow (coming_down side how)) seen none is = came_at terms.place at flow side how seen (came_in flow seen) refl none is
    come_at terms (busy at flow (upgraded side)) seen none is = is
    come_at terms (busy at flow given_head) seen none is = is
    come_at terms (busy at flow given_body) seen none is = is
    come_at terms (next at) seen none is = is
    come_at terms over seen none is = tt

    pub at_passed : (terms : Terms) (stage : Stage) (seen : Sight) → IsUnanswered server stage seen → IsAt holds stage → IsAt holds (pass terms stage seen).stage
    at_passed terms stage seen none is =
        come_at terms (gone_up terms stage seen) (sight_gone terms stage seen) (unanswered_up server terms stage seen none)
        (end_at terms (begin_up terms stage seen) (sight_begun stage seen) (begin_at terms stage seen is))

  at_sequence : (stage : Stage) → IsAt holds stage → IsAt holds (sequence stage)
  at_sequence (idle at) is = is
  at_sequence (busy at flow doing) is = is
  at_sequence (next at) is = is
  at_sequence over is = tt

  pub at_onward : (onward : Stage → Stage) → IsOnward onward → (stage : Stage) → IsAt holds stage → IsAt holds (onward stage)
  at_onward onward (is_alone same) stage is = rw same is
  at_onward onward (is_sequence same) stage is = rw same (at_sequence stage is)

-- ---- a server that is used up, or used

-- the parked side is of another server
abbrev pub IsOther : ℕ → Option Parked → Type 0
IsOther server None = ⊤
IsOther server (Some parked) = parked.server ≢ server

-- it was dialled, and is not parked
abbrev pub IsBehind : ℕ → ℕ → Option Parked → Type 0
IsBehind server dials parked = (server < dials) × IsOther server parked

-- another number is another server's
pub not_same : (own server : ℕ) → (own == server) ≡ false → own ≢ server
not_same own server other is = let e : true ≡ false = sym (eq-eqb own server is) ∙ other in cc

-- the side is parked that was, or none, or another server's
pub data IsFirst (server : ℕ) (first parked : Option Parked) : Type 0 where
  is_first : parked ≡ first → IsFirst server first parked
  is_none : parked ≡ None → IsFirst server first parked
  is_other : (own : Parked) → parked ≡ Some own → (own.server == server) ≡ false → IsFirst server first parked

-- so many servers were dialled at least, and the side is parked that the conversation began with, or none, or another server's
abbrev pub IsSince : ℕ → Option Parked → ℕ → ℕ → Option Parked → Type 0
IsSince server first least dials parked = (least ≤ dials) × IsFirst server first parked

-- a request goes to the side that is parked, where it goes to its address
side_if_there : (to_it : Bool) (parked side : ℕ) → side_if to_it parked ≡ Some side → (to_it ≡ true) × (parked ≡ side)
side_if_there true parked side is = (refl, (let e : Some parked ≡ Some side = is in cc))
side_if_there false parked side is = absurd (let e : None ≡ Some side = is in cc)

pub goes_to : (place : Place) (request : Request) (parked : Option Parked) (side : ℕ) (server : ℕ) → parked_for place request parked ≡ Some side → side ≡ server →
    GoesToParked place parked server request
goes_to place request None side server is same = absurd (let e : None ≡ Some side = is in cc)
goes_to place request (Some parked) side server is same =
    let there = side_if_there (is_same_address parked.address (server_for place request)) parked.server side is in
    record { side = parked; there = refl; number = there.1 ∙ same; address = there.0 }

-- which is no other
pub not_other : (place : Place) (request : Request) (parked : Option Parked) (server : ℕ) → GoesToParked place parked server request → IsOther server parked → ⊥
not_other place request None server goes other = let e : None ≡ Some goes.side = goes.there in cc
not_other place request (Some parked) server goes other =
    other (let e : Some parked ≡ Some goes.side = goes.there in let number : goes.side.server ≡ server = goes.number in cc)

-- and the one that the conversation began with
pub first_goes : (place : Place) (request : Request) (first parked : Option Parked) (server : ℕ) → IsFirst server first parked → GoesToParked place parked server request →
    GoesToParked place first server request
first_goes place request first parked server (is_first left) goes =
    record { side = goes.side; there = sym left ∙ goes.there; number = goes.number; address = goes.address }
first_goes place request first parked server (is_none left) goes = absurd (let e : None ≡ Some goes.side = sym left ∙ goes.there in cc)
first_goes place request first parked server (is_other own left other) goes =
    let same : Some own ≡ Some goes.side = sym left ∙ goes.there in
    let number : goes.side.server ≡ server = goes.number in
    absurd (not_same own.server server other (ap number_of same ∙ number))
  where
    number_of : Option Parked → ℕ
    number_of None = server
    number_of (Some parked) = parked.server

-- it goes there where it goes to a side whose keeping has not ended
pub unspoilt_goes : (silent : Bool) (place : Place) (request : Request) (parked : Option Parked) (server : ℕ) → GoesToParked place (unspoilt_by silent parked) server request →
    GoesToParked place parked server request
unspoilt_goes true place request parked server goes = goes
unspoilt_goes false place request parked server goes = absurd (let e : None ≡ Some goes.side = goes.there in cc)

unspoilt_for : (silent : Bool) (place : Place) (request : Request) (parked : Option Parked) (side : ℕ) → parked_for place request (unspoilt_by silent parked) ≡ Some side →
    parked_for place request parked ≡ Some side
unspoilt_for true place request parked side is = is
unspoilt_for false place request parked side is = absurd (let e : None ≡ Some side = is in cc)

-- how the request is framed says nothing of where it goes
framed_server : (place : Place) (head : ReadRequest) (request : Request) → server_for place (framed_up head request) ≡ server_for place request
framed_server places.Regular head request = refl
framed_server (places.Upstream proxy) head request = refl
framed_server (places.Fixed address inside) head request = refl

-- nor that it is streamed
streamed_server : (place : Place) (flow : Flow) → server_for place (sending_on flow).request ≡ server_for place flow.request
streamed_server places.Regular flow = refl
streamed_server (places.Upstream proxy) flow = refl
streamed_server (places.Fixed address inside) flow = refl

same_goes : (place : Place) (request other : Request) (parked : Option Parked) (server : ℕ) → server_for place other ≡ server_for place request → GoesToParked place parked server request →
    GoesToParked place parked server other
same_goes place request other parked server same goes = record {
  side = goes.side;
  there = goes.there;
  number = goes.number;
  address = ap (λ a. is_same_address goes.side.address a) same ∙ goes.address;
}

-- ---- the request of the stage goes up to the server

abbrev pub IsUpBy : ℕ → Option ℕ → Type 0
IsUpBy server None = ⊥
IsUpBy server (Some side) = (side == server) ≡ true

-- nothing was owed before of the text of a request that is awaited
abbrev pub IsUntold : Stage → ℕ → Type 0
IsUntold (busy at flow (request_body given size)) told = told ≡ 0
IsUntold stage told = ⊤

-- ---- what a server was sent so far

module _ (server : ℕ) (terms : Terms) (first : Option Parked) (least : ℕ) where
  -- all that it is ever sent
  abbrev pub IsAll : List ℕ → Type 0
  IsAll sent = IsSentOnce terms.place first least server sent

  -- of a request that goes up: as much as earlier asks owed
  pub record TellsBy (flow : Flow) (seen : Sight) (sent : List ℕ) : Type 0 where
    pub told : length sent ≡ seen.told
    pub begins : IsPrefixOf sent (going_text terms.place flow seen)
    pub goes_there : server < least → GoesToParked terms.place first server flow.request

  abbrev pub TellsAt : Stage → Sight → List ℕ → Type 0
  TellsAt (busy at flow doing) seen sent = IsUpBy server (going_at doing) × TellsBy flow seen sent
  TellsAt stage seen sent = ⊥

  pub data SaidAt (stage : Stage) (seen : Sight) (sent : List ℕ) : Type 0 where
    not_yet : sent ≡ [] → IsNotUp server stage → SaidAt stage seen sent
    in_part : IsAt (IsBehind server) stage → TellsAt stage seen sent → SaidAt stage seen sent
    was_said : IsAll sent → IsAt (IsBehind server) stage → IsNotUp server stage → SaidAt stage seen sent

  -- the text of a request that goes up, as far as it came
  text_by : (flow : Flow) (seen : Sight) (head : Option ReadRequest) → head_in (request_in seen) ≡ head → (server < least → GoesToParked terms.place first server flow.request) →
      IsAll (going_text terms.place flow seen)
  text_by flow seen None is there = nothing (ap (λ h. going_by h flow.request (form_at terms.place) seen.client) is)
  text_by flow seen (Some head) is there = going_on (record {
    request = framed_up head flow.request;
    heard = seen.client;
    text = ap (λ h. going_by h flow.request (form_at terms.place) seen.client) is;
    goes_there = λ before. same_goes terms.place flow.request (framed_up head flow.request) first server (framed_server terms.place head flow.request) (there before);
  })

  pub text_sent : (flow : Flow) (seen : Sight) → (server < least → GoesToParked terms.place first server flow.request) → IsAll (going_text terms.place flow seen)
  text_sent flow seen there = text_by flow seen (head_in (request_in seen)) refl there

  -- what was not sent of it is the rest
  pub rest_sent : (flow : Flow) (seen : Sight) (sent : List ℕ) → TellsBy flow seen sent → sent ++ left_of seen.told (going_text terms.place flow seen) ≡ going_text terms.place flow seen
  rest_sent flow seen sent tells =
      let text : List ℕ = going_text terms.place flow seen in
      let more : List ℕ = tells.begins.0 in
      let is : text ≡ sent ++ more = tells.begins.1 in
      ap (λ n. sent ++ drop n text) (sym tells.told)
      ∙ (ap (λ t. sent ++ drop (length sent) t) is ∙ (ap (λ l. sent ++ l) (drop-append_seam sent more) ∙ sym is))

  pub sends_said : (flow : Flow) (seen : Sight) (side : ℕ) → (side == server) ≡ true → sent_to server (sends_going terms.place flow side seen) ≡ left_of seen.told (going_text terms.place flow seen)
  sends_said flow seen side is =
      let text : List ℕ = left_of seen.told (going_text terms.place flow seen) in
      rw is (ap bytes_in (append-nil (map byte text)) ∙ bytes_alone text)

  -- with what the stage owes of it, and what says nothing to the server, it is all that came
  pub all_told : (flow : Flow) (seen : Sight) (side : ℕ) (sent : List ℕ) (more : List Command) → (side == server) ≡ true → IsSilent server more → TellsBy flow seen sent →
      sent ++ sent_to server (sends_going terms.place flow side seen ++ more) ≡ going_text terms.place flow seen
  all_told flow seen side sent more is silent tells =
      ap (λ l. sent ++ l) (sent_join server (sends_going terms.place flow side seen) more
      ∙ (ap (λ l. sent_to server (sends_going terms.place flow side seen) ++ l) silent
      ∙ (append-nil (sent_to server (sends_going terms.place flow side seen)) ∙ sends_said flow seen side is)))
      ∙ rest_sent flow seen sent tells

  -- behind what says nothing it is the same
  pub unsaid : (sent : List ℕ) (owed : List Command) → IsSilent server owed → sent ++ sent_to server owed ≡ sent
  unsaid sent owed silent = ap (λ l. sent ++ l) silent ∙ append-nil sent

  -- where no request goes up, here and there
  pub settled_said : (from to : Stage) (seen past : Sight) (sent : List ℕ) → (IsAt (IsBehind server) from → IsAt (IsBehind server) to) → IsNotUp server to → (TellsAt from seen sent → ⊥) →
      SaidAt from seen sent → SaidAt to past sent
  settled_said from to seen past sent on other rules_out (not_yet none up) = not_yet none other
  settled_said from to seen past sent on other rules_out (in_part used tells) = absurd (rules_out tells)
  settled_said from to seen past sent on other rules_out (was_said all used up) = was_said all (on used) other

  -- ---- a request begins to go up

  parked_begins : (same : Bool) (side : ℕ) (at : At) (flow : Flow) (size : Option ℕ) (seen : Sight) (sent : List ℕ) → (side == server) ≡ same → parked_for terms.place flow.request at.parked ≡ Some side →
      side < at.dials → seen.told ≡ 0 → IsSince server first least at.dials at.parked →
      SaidAt (busy at flow (request_body None size)) seen sent → SaidAt (goes_up_by (Some side) terms.place at (sending_on flow)) seen sent
  parked_begins false side at flow size seen sent is there below told since said =
      settled_said (busy at flow (request_body None size)) (goes_up_by (Some side) terms.place at (sending_on flow)) seen seen sent (λ used. (used.0, tt)) is (λ tells. tells.0) said
  parked_begins true side at flow size seen sent is there below told since (not_yet none up) =
      let number = eqb-true side server is in
      let text : List ℕ = going_text terms.place (sending_on flow) seen in
      in_part (omega arith, tt) (
        is,
        record {
          told = ap length none ∙ sym told;
          begins = (text, ap (λ s. s ++ text) (sym none));
          goes_there = λ before. same_goes terms.place flow.request (sending_on flow).request first server (streamed_server terms.place flow)
              (first_goes terms.place flow.request first at.parked server since.1 (goes_to terms.place flow.request at.parked side server there number));
        },
      )
  parked_begins true side at flow size seen sent is there below told since (in_part used tells) = absurd tells.0
  parked_begins true side at flow size seen sent is there below told since (was_said all used up) =
      absurd (not_other terms.place flow.request at.parked server (goes_to terms.place flow.request at.parked side server there (eqb-true side server is)) used.1)

  up_begins : (side : Option ℕ) (at : At) (flow : Flow) (size : Option ℕ) (seen : Sight) (sent : List ℕ) → parked_for terms.place flow.request (unspoilt_at at seen).parked ≡ side →
      SideBelow side at.dials → seen.told ≡ 0 → IsSince server first least at.dials at.parked →
      SaidAt (busy at flow (request_body None size)) seen sent → SaidAt (goes_up_by side terms.place at (sending_on flow)) seen sent
  up_begins None at flow size seen sent there below told since said =
      settled_said (busy at flow (request_body None size)) (busy at (sending_on flow) (connection going_up)) seen seen sent (λ used. used) tt (λ tells. tells.0) said
  up_begins (Some side) at flow size seen sent there below told since said =
      parked_begins (side == server) side at flow size seen sent refl (unspoilt_for (is_silent seen.server seen.shut) terms.place flow.request at.parked side there) below told since said

  going_begins : (up : Bool) (at : At) (flow : Flow) (size : Option ℕ) (seen : Sight) (sent : List ℕ) → SideBelow (side_parked at.parked) at.dials → seen.told ≡ 0 →
      IsSince server first least at.dials at.parked → SaidAt (busy at flow (request_body None size)) seen sent → SaidAt (pass_going up terms.place at flow size seen) seen sent
  going_begins true at flow size seen sent below told since said =
      let parked : Option Parked = (unspoilt_at at seen).parked in
      up_begins (parked_for terms.place flow.request parked) at flow size seen sent refl
      (for_below terms.place flow.request parked at.dials (unspoilt_below (is_silent seen.server seen.shut) at.parked at.dials below)) told since said
  going_begins false at flow size seen sent below told since said = said

  given_begins : (at : At) (flow : Flow) (response : Response) (size : Option ℕ) (item : Item ReadRequest) (now : ℕ) (seen past : Sight) (sent : List ℕ) →
      SaidAt (busy at flow (request_body (Some response) size)) seen sent → SaidAt (pass_given at flow response size item now) past sent
  given_begins at flow response size missing now seen past sent said = settled_said _ (busy at flow (request_body (Some response) size)) seen past sent (λ used. used) tt (λ tells. tells.0) said
  given_begins at flow response size (part head body) now seen past sent said = settled_said _ (busy at flow (request_body (Some response) size)) seen past sent (λ used. used) tt (λ tells. tells.0) said
  given_begins at flow response size (complete head body trailers used) now seen past sent said =
      settled_said (busy at flow (request_body (Some response) size)) (pass_given at flow response size (complete head body trailers used) now) seen past sent (λ used. used) tt (λ tells. tells.0) said
  given_begins at flow response size (bad_head fault) now seen past sent said = settled_said _ (busy at flow (request_body (Some response) size)) seen past sent (λ used. used) tt (λ tells. tells.0) said
  given_begins at flow response size (bad_body fault head body) now seen past sent said = settled_said _ (busy at flow (request_body (Some response) size)) seen past sent (λ used. used) tt (λ tells. tells.0) said

  begin_said : (stage : Stage) (seen : Sight) (sent : List ℕ) → IsUntold stage seen.told → ServersBelow stage → IsAt (IsSince server first least) stage →
      SaidAt stage seen sent → SaidAt (begin_up terms stage seen) (sight_begun stage seen) sent
  begin_said (idle at) seen sent told below since said = said
  begin_said (busy at flow (request_body None size)) seen sent told below since said = going_begins (goes_up size seen) at flow size seen sent below told since said
  begin_said (busy at flow (request_body (Some response) size)) seen sent told below since said =
      given_begins at flow response size (request_in seen) seen.now seen (sight_begun (busy at flow (request_body (Some response) size)) seen) sent said
  begin_said (busy at flow (connection how)) seen sent told below since said = said
  begin_said (busy at flow (response_head side how)) seen sent told below since said = said
  begin_said (busy at flow (response_body side how most)) seen sent told below since said = said
  begin_said (busy at flow (coming_down side how)) seen sent told below since said = said
  begin_said (busy at flow (upgraded side)) seen sent told below since said = said
  begin_said (busy at flow given_head) seen sent told below since said = said
  begin_said (busy at flow given_body) seen sent told below since said = said
  begin_said (next at) seen sent told below since said = said
  begin_said over seen sent told below since said = said

  -- ---- one that goes up is whole

  pub gone_from : (going size : Option ℕ) (side : ℕ) → gone_by going size ≡ Some side → going ≡ Some side
  gone_from None size side is = absurd (let e : None ≡ Some side = is in cc)
  gone_from (Some to) None side is = absurd (let e : None ≡ Some side = is in cc)
  gone_from (Some to) (Some size) side is = is

  end_said_by : (g : Option ℕ) (at : At) (flow : Flow) (doing : Doing) (seen : Sight) (sent : List ℕ) → gone_by (going_at doing) (whole_in seen) ≡ g → SaidAt (busy at flow doing) seen sent →
      SaidAt (end_by g terms.place at flow doing seen).stage (past_gone g seen) (sent ++ sent_to server (end_by g terms.place at flow doing seen).owed)
  end_said_by None at flow doing seen sent is said = subst (λ s. SaidAt (busy at flow doing) seen s) (sym (append-nil sent)) said
  end_said_by (Some side) at flow doing seen sent is (not_yet none up) =
      let there = gone_from (going_at doing) (whole_in seen) side is in
      not_yet (unsaid sent (sends_going terms.place flow side seen) (up_silent server terms.place flow side seen (subst (λ g. IsNotUpBy server g) there up)) ∙ none) (gone_not_up server doing)
  end_said_by (Some side) at flow doing seen sent is (in_part used (up, tells)) =
      let there = gone_from (going_at doing) (whole_in seen) side is in
      let told = ap (λ l. sent ++ l) (sends_said flow seen side (subst (λ g. IsUpBy server g) there up)) ∙ rest_sent flow seen sent tells in
      was_said (subst (λ s. IsAll s) (sym told) (text_sent flow seen tells.goes_there)) used (gone_not_up server doing)
  end_said_by (Some side) at flow doing seen sent is (was_said all used up) =
      let there = gone_from (going_at doing) (whole_in seen) side is in
      let same = unsaid sent (sends_going terms.place flow side seen) (up_silent server terms.place flow side seen (subst (λ g. IsNotUpBy server g) there up)) in
      was_said (subst (λ s. IsAll s) (sym same) all) used (gone_not_up server doing)

  end_said : (stage : Stage) (seen : Sight) (sent : List ℕ) → SaidAt stage seen sent → SaidAt (end_up terms stage seen).stage (sight_ended stage seen) (sent ++ sent_to server (end_up terms stage seen).owed)
  end_said (idle at) seen sent said = subst (λ s. SaidAt (idle at) seen s) (sym (append-nil sent)) said
  end_said (busy at flow doing) seen sent said = end_said_by (gone_by (going_at doing) (whole_in seen)) at flow doing seen sent refl said
  end_said (next at) seen sent said = subst (λ s. SaidAt (next at) seen s) (sym (append-nil sent)) said
  end_said over seen sent said = subst (λ s. SaidAt over seen s) (sym (append-nil sent)) said

  -- ---- a response comes down

  pub behind_not_up : (stays : Bool) (at : At) → IsNotUp server (behind_flow stays at)
  behind_not_up true at = tt
  behind_not_up false at = tt

  behind_used : (stays keep : Bool) (place : Place) (at : At) (request : Request) (side : ℕ) → (side == server) ≡ false → IsBehind server at.dials at.parked →
      IsAt (IsBehind server) (behind_flow stays (parks (stays && keep) place at request side))
  behind_used true true place at request side other used = (used.0, not_same side server other)
  behind_used true false place at request side other used = (used.0, tt)
  behind_used false keep place at request side other used = tt

  came_said : (at : At) (flow : Flow) (side : ℕ) (how : Sent) (seen : Sight) (sent : List ℕ) (came : Option Came) → came_in flow seen ≡ came → IsUnansweredBy server side flow seen →
      SaidAt (busy at flow (coming_down side how)) seen sent →
      SaidAt (pass_came terms.place at flow side how seen came).stage (past_came came seen) (sent ++ sent_to server (pass_came terms.place at flow side how seen came).owed)
  came_said at flow side how seen sent None there none said = subst (λ s. SaidAt (busy at flow (coming_down side how)) seen s) (sym (append-nil sent)) said
  came_said at flow side how seen sent (Some came) there none (not_yet empty up) =
      not_yet (unsaid sent (pass_came terms.place at flow side how seen (Some came)).owed (came_silent server terms.place at flow side how seen (Some came) up) ∙ empty)
      (behind_not_up (is_sent how && goes_on_behind at.flow flow.request came) (parks (keeps_came at flow how seen came) terms.place at flow.request side))
  came_said at flow side all_sent seen sent (Some came) there none (in_part used tells) = absurd tells.0
  came_said at flow side going_up seen sent (Some came) there none (in_part used (up, tells)) =
      let stays : Bool = is_sent going_up && goes_on_behind at.flow flow.request came in
      let rest : Used = unless_kept (keeps_came at flow going_up seen came) (server_in side seen) in
      let told = all_told flow seen side sent (finished_coming flow seen rest ++ shut_unless stays NoServer seen.closed) up (finished_down server flow rest seen stays) tells in
      was_said (subst (λ s. IsAll s) (sym told) (text_sent flow seen tells.goes_there)) tt tt
  came_said at flow side how seen sent (Some came) there none (was_said all used up) =
      let stays : Bool = is_sent how && goes_on_behind at.flow flow.request came in
      let same = unsaid sent (pass_came terms.place at flow side how seen (Some came)).owed (came_silent server terms.place at flow side how seen (Some came) up) in
      was_said (subst (λ s. IsAll s) (sym same) all)
      (behind_used stays (keeps_side flow.request seen came.head) terms.place at flow.request side (not_server server side flow seen came there none) used)
      (behind_not_up stays (parks (keeps_came at flow how seen came) terms.place at flow.request side))

  -- one that is streamed
  streaming_said : (at : At) (flow : Flow) (side : ℕ) (how : Sent) (most : Option ℕ) (seen : Sight) (sent : List ℕ) → SaidAt (busy at flow (response_body side how most)) seen sent →
      SaidAt (busy at (streaming flow) (coming_down side how)) seen sent
  streaming_said at flow side all_sent most seen sent (not_yet none up) = not_yet none tt
  streaming_said at flow side all_sent most seen sent (in_part used tells) = absurd tells.0
  streaming_said at flow side all_sent most seen sent (was_said all used up) = was_said all used tt
  streaming_said at flow side going_up most seen sent (not_yet none up) = not_yet none up
  streaming_said at flow side going_up most seen sent (in_part used (up, tells)) = in_part used (up, record { told = tells.told; begins = tells.begins; goes_there = tells.goes_there })
  streaming_said at flow side going_up most seen sent (was_said all used up) = was_said all used up

  kept_said : (streams : Bool) (at : At) (flow : Flow) (side : ℕ) (how : Sent) (most : Option ℕ) (seen : Sight) (sent : List ℕ) → IsUnansweredBy server side flow seen →
      SaidAt (busy at flow (response_body side how most)) seen sent →
      SaidAt (pass_kept streams terms.place at flow side how most seen).stage (past_kept streams (came_in (streaming flow) seen) seen)
      (sent ++ sent_to server (pass_kept streams terms.place at flow side how most seen).owed)
  kept_said true at flow side how most seen sent none said =
      came_said at (streaming flow) side how seen sent (came_in (streaming flow) seen) refl none (streaming_said at flow side how most seen sent said)
  kept_said false at flow side how most seen sent none said = subst (λ s. SaidAt (busy at flow (response_body side how most)) seen s) (sym (append-nil sent)) said

  come_said : (stage : Stage) (seen : Sight) (sent : List ℕ) → IsUnanswered server stage seen → SaidAt stage seen sent →
      SaidAt (come_down terms stage seen).stage (sight_come stage seen) (sent ++ sent_to server (come_down terms stage seen).owed)
  come_said (idle at) seen sent none said = subst (λ s. SaidAt (idle at) seen s) (sym (append-nil sent)) said
  come_said (busy at flow (request_body given size)) seen sent none said = subst (λ s. SaidAt (busy at flow (request_body given size)) seen s) (sym (append-nil sent)) said
  come_said (busy at flow (connection how)) seen sent none said = subst (λ s. SaidAt (busy at flow (connection how)) seen s) (sym (append-nil sent)) said
  come_said (busy at flow (response_head side how)) seen sent none said = subst (λ s. SaidAt (busy at flow (response_head side how)) seen s) (sym (append-nil sent)) said
  come_said (busy at flow (response_body side how most)) seen sent none said = kept_said (streams_in flow most seen) at flow side how most seen sent none said
  come_said (busy at flow (coming_down side how)) seen sent none said = came_said at flow side how seen sent (came_in flow seen) refl none said
  come_said (busy at flow (upgraded side)) seen sent none said = subst (λ s. SaidAt (busy at flow (upgraded side)) seen s) (sym (append-nil sent)) said
  come_said (busy at flow given_head) seen sent none said = subst (λ s. SaidAt (busy at flow given_head) seen s) (sym (append-nil sent)) said
  come_said (busy at flow given_body) seen sent none said = subst (λ s. SaidAt (busy at flow given_body) seen s) (sym (append-nil sent)) said
  come_said (next at) seen sent none said = subst (λ s. SaidAt (next at) seen s) (sym (append-nil sent)) said
  come_said over seen sent none said = subst (λ s. SaidAt over seen s) (sym (append-nil sent)) said

  -- ---- where it passes

  pub behind_sent : (sent : List ℕ) (xs ys : List Command) → (sent ++ sent_to server xs) ++ sent_to server ys ≡ sent ++ sent_to server (xs ++ ys)
  behind_sent sent xs ys = append_assoc sent (sent_to server xs) (sent_to server ys) ∙ ap (λ l. sent ++ l) (sym (sent_join server xs ys))

  pub pass_said : (stage : Stage) (seen : Sight) (sent : List ℕ) → IsUntold stage seen.told → ServersBelow stage → IsAt (IsSince server first least) stage → IsUnanswered server stage seen → SaidAt stage seen sent →
      SaidAt (pass terms stage seen).stage (sight_past terms stage seen) (sent ++ sent_to server (pass terms stage seen).owed)
  pass_said stage seen sent told below since none said =
      let begun : Stage = begin_up terms stage seen in
      let up : List Command = (end_up terms begun (sight_begun stage seen)).owed in
      let there : Stage = gone_up terms stage seen in
      let left : Sight = sight_gone terms stage seen in
      let down : List Command = (come_down terms there left).owed in
      let to : Stage = (come_down terms there left).stage in
      let past : Sight = sight_past terms stage seen in
      subst (λ s. SaidAt to past s) (behind_sent sent up down)
      (come_said there left (sent ++ sent_to server up) (unanswered_up server terms stage seen none) (end_said begun (sight_begun stage seen) sent (begin_said stage seen sent told below since said)))

  -- ---- one event more

  pub tells_more : (stage : Stage) (seen later : Sight) (sent : List ℕ) → IsPrefixOf seen.client later.client → later.told ≡ seen.told → TellsAt stage seen sent → TellsAt stage later sent
  tells_more (idle at) seen later sent more same tells = tells
  tells_more (busy at flow doing) seen later sent more same (up, tells) = (
    up,
    record {
      told = tells.told ∙ sym same;
      begins = prefix_trans sent (going_text terms.place flow seen) (going_text terms.place flow later) tells.begins (going_text_grows terms.place flow seen later more);
      goes_there = tells.goes_there;
    },
  )
  tells_more (next at) seen later sent more same tells = tells
  tells_more over seen later sent more same tells = tells

  pub hears_said : (stage : Stage) (seen later : Sight) (sent : List ℕ) → IsPrefixOf seen.client later.client → later.told ≡ seen.told → SaidAt stage seen sent → SaidAt stage later sent
  hears_said stage seen later sent more same (not_yet none up) = not_yet none up
  hears_said stage seen later sent more same (in_part used tells) = in_part used (tells_more stage seen later sent more same tells)
  hears_said stage seen later sent more same (was_said all used up) = was_said all used up

  -- ---- while it waits

  -- what was sent of a request that goes up, with what its stage owes
  pub waits_tell : (at : At) (flow : Flow) (doing : Doing) (seen : Sight) (sent : List ℕ) → IsUpBy server (going_at doing) → TellsBy flow seen sent →
      (sent ++ sent_to server (so_far terms (busy at flow doing) seen) ≡ going_text terms.place flow seen) × (told_doing terms.place flow doing seen ≡ length (going_text terms.place flow seen))
  waits_tell at flow (request_body given size) seen sent up tells = absurd up
  waits_tell at flow (connection how) seen sent up tells = absurd up
  waits_tell at flow (response_head side all_sent) seen sent up tells = absurd up
  waits_tell at flow (response_head side going_up) seen sent up tells =
      let heads : List Command = interim_commands flow.request (answers_in flow.request seen).interim in
      (all_told flow seen side sent heads up (waits_silent server flow.request (answers_in flow.request seen).interim) tells, refl)
  waits_tell at flow (response_body side all_sent most) seen sent up tells = absurd up
  waits_tell at flow (response_body side going_up most) seen sent up tells = (all_told flow seen side sent [] up refl tells, refl)
  waits_tell at flow (coming_down side all_sent) seen sent up tells = absurd up
  waits_tell at flow (coming_down side going_up) seen sent up tells = (all_told flow seen side sent (sends_coming flow seen) up refl tells, refl)
  waits_tell at flow (upgraded side) seen sent up tells = absurd up
  waits_tell at flow given_head seen sent up tells = absurd up
  waits_tell at flow given_body seen sent up tells = absurd up

  -- the sight behind an ask of the stage, where as much was owed
  abbrev pub told_on : Stage → Sight → Sight
  told_on stage seen = record seen { told = told_behind terms.place stage seen }

  pub waits_tell_at : (stage : Stage) (seen : Sight) (sent : List ℕ) → TellsAt stage seen sent → TellsAt stage (told_on stage seen) (sent ++ sent_to server (so_far terms stage seen))
  waits_tell_at (idle at) seen sent tells = absurd tells
  waits_tell_at (busy at flow doing) seen sent (up, tells) =
      let both = waits_tell at flow doing seen sent up tells in
      let text : List ℕ = going_text terms.place flow seen in
      (up, record { told = ap length both.0 ∙ sym both.1; begins = ([], ap (λ s. s) (sym both.0) ∙ sym (append-nil _)); goes_there = tells.goes_there })
  waits_tell_at (next at) seen sent tells = absurd tells
  waits_tell_at over seen sent tells = absurd tells

  pub waited_said : (stage : Stage) (seen : Sight) (sent : List ℕ) → SaidAt stage seen sent → SaidAt stage (told_on stage seen) (sent ++ sent_to server (so_far terms stage seen))
  waited_said stage seen sent (not_yet none up) = not_yet (unsaid sent (so_far terms stage seen) (so_far_silent server terms stage seen up) ∙ none) up
  waited_said stage seen sent (in_part used tells) = in_part used (waits_tell_at stage seen sent tells)
  waited_said stage seen sent (was_said all used up) =
      was_said (subst (λ s. IsAll s) (sym (unsaid sent (so_far terms stage seen) (so_far_silent server terms stage seen up))) all) used up

  tells_all : (stage : Stage) (seen : Sight) (sent : List ℕ) → TellsAt stage seen sent → IsAll (sent ++ sent_to server (so_far terms stage seen))
  tells_all (idle at) seen sent tells = absurd tells
  tells_all (busy at flow doing) seen sent (up, tells) =
      subst (λ s. IsAll s) (sym (waits_tell at flow doing seen sent up tells).0) (text_sent flow seen tells.goes_there)
  tells_all (next at) seen sent tells = absurd tells
  tells_all over seen sent tells = absurd tells

  -- so it is all, if nothing more is sent
  pub waited_all : (stage : Stage) (seen : Sight) (sent : List ℕ) → SaidAt stage seen sent → IsAll (sent ++ sent_to server (so_far terms stage seen))
  waited_all stage seen sent (not_yet none up) = nothing (unsaid sent (so_far terms stage seen) (so_far_silent server terms stage seen up) ∙ none)
  waited_all stage seen sent (in_part used tells) = tells_all stage seen sent tells
  waited_all stage seen sent (was_said all used up) = subst (λ s. IsAll s) (sym (unsaid sent (so_far terms stage seen) (so_far_silent server terms stage seen up))) all

  -- where the next flow begins
  sequence_said : (stage : Stage) (seen : Sight) (sent : List ℕ) → SaidAt stage seen sent → SaidAt (sequence stage) seen sent
  sequence_said (idle at) seen sent said = said
  sequence_said (busy at flow doing) seen sent said = said
  sequence_said (next at) seen sent (not_yet none up) = not_yet none tt
  sequence_said (next at) seen sent (in_part used tells) = absurd tells
  sequence_said (next at) seen sent (was_said all used up) = was_said all used tt
  sequence_said over seen sent said = said

  pub onward_said : (onward : Stage → Stage) → IsOnward onward → (stage : Stage) (seen : Sight) (sent : List ℕ) → SaidAt stage seen sent → SaidAt (onward stage) seen sent
  onward_said onward (is_alone same) stage seen sent said = rw same said
  onward_said onward (is_sequence same) stage seen sent said = rw same (sequence_said stage seen sent said)
