use Rattle.std.proofs.Common.{◌≡◌, ℕ, List, [], ◌∷◌, None, subst}
use Rattle.std.specs.Prelude.{IfOk}
use Rattle.px_event.specs.declared.ask.Hook.TheVariants.{ResponseHead, ResponseBody}
use Rattle.px_event.specs.declared.command.Command.{Command}
use Rattle.px_event.specs.declared.command.Command.TheVariants as commands
use Rattle.px_stream.specs.declared.phase.Asked.TheVariants as asked
use Rattle.px_stream.specs.declared.phase.Phase.TheVariants as phase
use Rattle.px_stream.specs.declared.phase.Wanted.TheVariants as ready
use Rattle.px_exchange.specs.Endings.{shut_server}
use Rattle.px_exchange.specs.Flows.{ask_of}
use Rattle.px_exchange.specs.Places.{dialled_for}
use Rattle.px_chain.specs.Chain.{given_at}
use Rattle.px_chain.specs.Stages.{At}
use Rattle.px_stream.specs.Looks.{FoundAtOnce, HeadFound}
use Rattle.px_stream.proofs.LookingLemmas.{at_once, besides, head_looked, nothing_given}
use Rattle.px_stream.proofs.looking.look.Goals as goal

pub returns-in-Idle : goal.returns-in-Idle
returns-in-Idle c =
    let P : At → Type 0 = λ at. IfOk c.look_for_head.result (λ next. (c.args.side.now ≡ c.args.side.now) × HeadFound c.args.terms.now at.flow c.args.requests.now c.look_for_head.new.requests c.args.now.moment
    c.args.now.parked c.args.now.client_closed c.args.out.now.items c.look_for_head.new.out.items next) in
    record {
      looks = rw c.in-Idle.is (subst P c.at.view_is (head_looked c.look_for_head.result c.args.side.now c.args.terms.now c.at.inside.flow c.args.requests.now c.look_for_head.new.requests c.args.now.moment
          c.args.now.parked c.args.now.client_closed c.args.out.now.items c.look_for_head.new.out.items c.look_for_head.ensures.gives c.look_for_head.ensures.phase c.look_for_head.ensures.reads));
    }

pub look_for_body-requires : goal.look_for_body-requires
look_for_body-requires c = record { reads = rw c.in-RequestBody.is at c.requires.may_look }

pub returns-in-RequestBody : goal.returns-in-RequestBody
returns-in-RequestBody c = record { looks = rw c.in-RequestBody.is (besides c.look_for_body.result c.args.side.now _ c.look_for_body.ensures.looks) }

pub returns-in-Connection : goal.returns-in-Connection
returns-in-Connection c =
    let Given : ℕ → List Command = λ server. commands.Dial server (dialled_for c.args.terms.now.place c.in-Connection.flow.request) None ∷ shut_server c.args.now.parked in
    let P : At → Type 0 = λ at. IfOk c.dial.result (λ next. (c.args.side.now ≡ c.args.side.now)
    × FoundAtOnce c.args.requests.now c.args.requests.now (Given at.dials) c.args.out.now.items c.dial.new.out.items (phase.Asked (asked.Connection c.in-Connection.flow at.dials c.in-Connection.up)) next) in
    record {
      looks = rw c.in-Connection.is (subst P c.at.view_is (at_once c.dial.result c.args.side.now c.args.requests.now (Given c.at.inside.dials) c.args.out.now.items c.dial.new.out.items
          (phase.Asked (asked.Connection c.in-Connection.flow c.at.inside.dials c.in-Connection.up)) c.dial.ensures.gives c.dial.ensures.phase));
    }

pub look_for_answer-requires : goal.look_for_answer-requires
look_for_answer-requires c = record { kept = rw c.in-ResponseHead.is at c.requires.may_look }

pub returns-in-ResponseHead : goal.returns-in-ResponseHead
returns-in-ResponseHead c = record { looks = rw c.in-ResponseHead.is c.look_for_answer.ensures.looks }

pub look_for_returned-requires : goal.look_for_returned-requires
look_for_returned-requires c = record { reads = rw c.in-ResponseBody.is at c.requires.may_look }

pub returns-in-ResponseBody : goal.returns-in-ResponseBody
returns-in-ResponseBody c = record { looks = rw c.in-ResponseBody.is c.look_for_returned.ensures.looks }

pub returns-in-GivenHead : goal.returns-in-GivenHead
returns-in-GivenHead c = record {
  looks = rw c.in-GivenHead.is (at_once c.ask_given_head.result c.args.side.now c.args.requests.now (ask_of (given_at c.in-GivenHead.flow c.args.now.moment) ResponseHead ∷ []) c.args.out.now.items
      c.ask_given_head.new.out.items (phase.Asked (asked.GivenHead (given_at c.in-GivenHead.flow c.args.now.moment))) c.ask_given_head.ensures.gives c.ask_given_head.ensures.phase);
}

pub returns-in-GivenBody : goal.returns-in-GivenBody
returns-in-GivenBody c = record {
  looks = rw c.in-GivenBody.is (at_once c.ask_given_body.result c.args.side.now c.args.requests.now (ask_of c.in-GivenBody.flow ResponseBody ∷ []) c.args.out.now.items
      c.ask_given_body.new.out.items (phase.Asked (asked.GivenBody c.in-GivenBody.flow)) c.ask_given_body.ensures.gives c.ask_given_body.ensures.phase);
}

pub returns-in-Connects : goal.returns-in-Connects
returns-in-Connects c = record { looks = rw c.in-Connects.is (nothing_given c.args.side.now c.args.requests.now c.args.out.now.items (phase.Ready (ready.Connects c.in-Connects.address))) }

pub returns-in-Upgraded : goal.returns-in-Upgraded
returns-in-Upgraded c = record { looks = rw c.in-Upgraded.is (nothing_given c.args.side.now c.args.requests.now c.args.out.now.items (phase.Ready (ready.Upgraded c.in-Upgraded.flow c.in-Upgraded.server))) }

pub returns-in-Over : goal.returns-in-Over
returns-in-Over c = record { looks = rw c.in-Over.is (nothing_given c.args.side.now c.args.requests.now c.args.out.now.items (phase.Ready ready.Over)) }
