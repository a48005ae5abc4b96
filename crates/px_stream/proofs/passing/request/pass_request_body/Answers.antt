use Rattle.std.proofs.Common.{sym, ◌∙◌}
use Rattle.px_stream.proofs.PassUpLemmas.{up_held, up_started}
use Rattle.px_stream.proofs.passing.request.pass_request_body.Goals as goal

pub returns-then-is_going : goal.returns-then-is_going
returns-then-is_going c =
    up_started c.args.place.now c.args.at.now c.start_up.new.at c.args.now.moment c.args.coming c.read_coming.new.coming c.in_ok-progress.progress c.args.requests.now c.read_coming.new.requests c.args.side.now c.start_up.new.side
    c.args.out.now.items c.start_up.new.out.items c.in_ok-progress.ensures.same c.in_ok-progress.ensures.read c.start_up.result (sym c.is_going.ensures ∙ c.if-is_going.true) c.start_up.ensures

pub returns : goal.returns
returns c =
    up_held c.args.place.now c.args.at.now c.args.now.moment c.args.coming c.read_coming.new.coming c.in_ok-progress.progress c.args.requests.now c.read_coming.new.requests c.args.side.now
    c.args.out.now.items c.in_ok-progress.ensures.same c.in_ok-progress.ensures.read (sym c.is_going.ensures ∙ c.if-is_going.false)
