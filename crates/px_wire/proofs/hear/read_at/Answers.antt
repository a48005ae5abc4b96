use Rattle.std.proofs.Common.{◌∙◌, ap, refl, inl, inr, None, nat_eq}
use Rattle.std.specs.Map.{set_value}
use Rattle.px_wire.specs.declared.wire.Got.{Got}
use Rattle.px_wire.specs.Endpoints.{after_get}
use Rattle.px_wire.specs.Holds.{endpoint_at}
use Rattle.px_wire.proofs.FindLemmas.{endpoint_of, still_there, whole}
use Rattle.px_wire.proofs.StepLemmas.{gave_place, blocked_place, over_place, close_lost}
use Rattle.px_wire.proofs.hear.read_at.Goals as goal

pub returns-in-Gave-clause-stands : goal.returns-in-Gave-clause-stands
returns-in-Gave-clause-stands g c = λ front back endpoint at turn stands.
    let p = gave_place c.args.slot front endpoint back c.args.table.now.endpoints c.read_in.new.endpoints c.args.table.now.accepted c.args.table.now.moment c.read_in.new.room c.read_in.result _ _ at
    (c.read_in.ensures.reads endpoint (endpoint_of c.args.table.now.endpoints c.args.slot front endpoint back at)) turn stands c.in-Gave.count c.in-Gave.is in
    c.hear_given.ensures.stands front back endpoint p.0 p.1

pub returns-in-Gave-clause-err : goal.returns-in-Gave-clause-err
returns-in-Gave-clause-err g c = λ front back endpoint at turn stands.
    let p = gave_place c.args.slot front endpoint back c.args.table.now.endpoints c.read_in.new.endpoints c.args.table.now.accepted c.args.table.now.moment c.read_in.new.room c.read_in.result _ _ at
    (c.read_in.ensures.reads endpoint (endpoint_of c.args.table.now.endpoints c.args.slot front endpoint back at)) turn stands c.in-Gave.count c.in-Gave.is in
    c.hear_given.ensures.err front back endpoint p.0 p.1

pub returns-in-Blocked-clause-stands : goal.returns-in-Blocked-clause-stands
returns-in-Blocked-clause-stands g c = λ front back endpoint at turn stands.
    let p = blocked_place c.args.slot front endpoint back c.args.table.now.endpoints c.read_in.new.endpoints c.args.table.now.accepted c.args.table.now.moment c.read_in.new.room c.read_in.result _ _ at
    (c.read_in.ensures.reads endpoint (endpoint_of c.args.table.now.endpoints c.args.slot front endpoint back at)) turn stands c.in-Blocked.is in
    record { endpoints = _; held = p.0.held; stands = p.1 }

pub returns-in-Blocked-clause-none : goal.returns-in-Blocked-clause-none
returns-in-Blocked-clause-none g c = λ endpoint at is.
    c.read_in.ensures.entries endpoint at ∙ ap (λ (got : Got). set_value (nat_eq c.args.slot) c.args.table.now.endpoints.by_slot.entries (after_get endpoint got)) c.in-Blocked.is

pub returns-in-Gave-clause-none : goal.returns-in-Gave-clause-none
returns-in-Gave-clause-none g c = λ endpoint at is. absurd (c.hear_given.ensures.some is)

pub returns-in-Gave-clause-kept : goal.returns-in-Gave-clause-kept
returns-in-Gave-clause-kept g c = λ past times since. c.hear_given.ensures.kept past times (c.read_in.ensures.kept past times since)

pub returns-in-Ended-clause-stands : goal.returns-in-Ended-clause-stands
returns-in-Ended-clause-stands g c = λ front back endpoint at turn stands.
    let p = over_place c.args.slot front endpoint back c.args.table.now.endpoints c.read_in.new.endpoints c.args.table.now.accepted c.args.table.now.moment c.read_in.new.room c.read_in.result _ _ at
    (c.read_in.ensures.reads endpoint (endpoint_of c.args.table.now.endpoints c.args.slot front endpoint back at)) turn stands (inl c.in-Ended.is) in
    c.hear_close.ensures.stands front back _ p.0 refl p.1

pub returns-in-Ended-clause-err : goal.returns-in-Ended-clause-err
returns-in-Ended-clause-err g c = λ front back endpoint at turn stands.
    let p = over_place c.args.slot front endpoint back c.args.table.now.endpoints c.read_in.new.endpoints c.args.table.now.accepted c.args.table.now.moment c.read_in.new.room c.read_in.result _ _ at
    (c.read_in.ensures.reads endpoint (endpoint_of c.args.table.now.endpoints c.args.slot front endpoint back at)) turn stands (inl c.in-Ended.is) in
    close_lost c.hear_close.result _ _ _ _ c.hear_close.ensures.table_err c.hear_close.ensures.calls_err
    (whole None (record c.args.table.now { endpoints = c.read_in.new.endpoints }) c.args.slot front _ back _ p.0 p.1)

pub returns-in-Ended-clause-none : goal.returns-in-Ended-clause-none
returns-in-Ended-clause-none g c = λ endpoint at is. absurd (c.hear_close.ensures.some is)

pub returns-in-Ended-clause-kept : goal.returns-in-Ended-clause-kept
returns-in-Ended-clause-kept g c = λ past times since. c.hear_close.ensures.kept past times (c.read_in.ensures.kept past times since)

pub returns-in-Broken-clause-stands : goal.returns-in-Broken-clause-stands
returns-in-Broken-clause-stands g c = λ front back endpoint at turn stands.
    let p = over_place c.args.slot front endpoint back c.args.table.now.endpoints c.read_in.new.endpoints c.args.table.now.accepted c.args.table.now.moment c.read_in.new.room c.read_in.result _ _ at
    (c.read_in.ensures.reads endpoint (endpoint_of c.args.table.now.endpoints c.args.slot front endpoint back at)) turn stands (inr c.in-Broken.is) in
    c.hear_close-in-Broken.ensures.stands front back _ p.0 refl p.1

pub returns-in-Broken-clause-err : goal.returns-in-Broken-clause-err
returns-in-Broken-clause-err g c = λ front back endpoint at turn stands.
    let p = over_place c.args.slot front endpoint back c.args.table.now.endpoints c.read_in.new.endpoints c.args.table.now.accepted c.args.table.now.moment c.read_in.new.room c.read_in.result _ _ at
    (c.read_in.ensures.reads endpoint (endpoint_of c.args.table.now.endpoints c.args.slot front endpoint back at)) turn stands (inr c.in-Broken.is) in
    close_lost c.hear_close-in-Broken.result _ _ _ _ c.hear_close-in-Broken.ensures.table_err c.hear_close-in-Broken.ensures.calls_err
    (whole None (record c.args.table.now { endpoints = c.read_in.new.endpoints }) c.args.slot front _ back _ p.0 p.1)

pub returns-in-Broken-clause-none : goal.returns-in-Broken-clause-none
returns-in-Broken-clause-none g c = λ endpoint at is. absurd (c.hear_close-in-Broken.ensures.some is)

pub returns-in-Broken-clause-kept : goal.returns-in-Broken-clause-kept
returns-in-Broken-clause-kept g c = λ past times since. c.hear_close-in-Broken.ensures.kept past times (c.read_in.ensures.kept past times since)

pub hear_given-requires-clause-there : goal.hear_given-requires-clause-there
hear_given-requires-clause-there g c =
    still_there (endpoint_at c.args.table.now.endpoints c.args.slot) (endpoint_at c.read_in.new.endpoints c.args.slot) (λ endpoint. after_get endpoint c.read_in.result) c.requires.there (λ endpoint at. (c.read_in.ensures.reads endpoint at).0.here)

pub hear_close-requires : goal.hear_close-requires
hear_close-requires g c = record {
  there = still_there (endpoint_at c.args.table.now.endpoints c.args.slot) (endpoint_at c.read_in.new.endpoints c.args.slot) (λ endpoint. after_get endpoint c.read_in.result) c.requires.there (λ endpoint at. (c.read_in.ensures.reads endpoint at).0.here);
}

pub hear_close-requires-in-Broken : goal.hear_close-requires-in-Broken
hear_close-requires-in-Broken g c = record {
  there = still_there (endpoint_at c.args.table.now.endpoints c.args.slot) (endpoint_at c.read_in.new.endpoints c.args.slot) (λ endpoint. after_get endpoint c.read_in.result) c.requires.there (λ endpoint at. (c.read_in.ensures.reads endpoint at).0.here);
}
