use Rattle.std.proofs.Common.{◌∙◌}
use Rattle.px_addons.proofs.chain.Chain.new.Goals as goal

pub returns-clause-quiet : goal.returns-clause-quiet
returns-clause-quiet g c none keep = record {
  no_rules = record {
    block = none.block;
    local = none.local;
    remote = none.remote;
    headers = none.headers;
    bodies = none.bodies;
    anticache = none.anticache;
    anticomp = none.anticomp;
    replay = c.take-replay.ensures.after;
    refresh = none.refresh;
    cookies = c.take-cookies.ensures.after;
    auth = c.take-auth.ensures.after;
    stream = none.stream;
    intercept = none.intercept;
  };
  quiet = record {
    unrecorded = c.take-replay.ensures.value ∙ none.replay;
    no_cookies = c.take-cookies.ensures.value ∙ none.cookies;
    no_auth = c.take-auth.ensures.value ∙ none.auth;
    keep = keep;
  };
}
