use Rattle.px_tnet.specs.View.{paired, pairs_view}
use Rattle.px_flowfile.specs.Kind.{or_null}
use Rattle.px_flowfile.specs.Message.{content, headers, reason, trailers}
use Rattle.px_flowfile.specs.Simple.{http_version, moment, status}
use Rattle.px_flowfile.specs.declared.key.Key.TheVariants as key
use Rattle.px_flowfile.proofs.BothLemmas.{told_as, told_both, told_end, told_err, told_line, if_ok_as}
use Rattle.px_flowfile.proofs.response.read_response.Goals as goal

pub returns-in-Err-clause-err : goal.returns-in-Err-clause-err
returns-in-Err-clause-err c =
    let pairs = pairs_view (paired c.args.dict.now) in
    let t0 = told_line key.HttpVersion http_version pairs c.version_at-version.result c.version_at-version.ensures.ok c.version_at-version.ensures.err in
    let t1 = told_line key.StatusCode status pairs c.status_at-status.result c.status_at-status.ensures.ok c.status_at-status.ensures.err in
    let t2 = told_line key.Reason reason pairs c.reason_at-reason.result c.reason_at-reason.ensures.ok c.reason_at-reason.ensures.err in
    let t3 = told_line key.Headers headers pairs c.headers_at-fields.result c.headers_at-fields.ensures.ok c.headers_at-fields.ensures.err in
    let t4 = told_line key.Content content pairs c.content_at-content.result c.content_at-content.ensures.ok c.content_at-content.ensures.err in
    let t5 = told_line key.Trailers trailers pairs c.trailers_at-trailers.result c.trailers_at-trailers.ensures.ok c.trailers_at-trailers.ensures.err in
    let t6 = told_line key.TimestampStart (or_null moment) pairs c.optional_moment_at-start.result c.optional_moment_at-start.ensures.ok c.optional_moment_at-start.ensures.err in
    let t7 = told_line key.TimestampEnd (or_null moment) pairs c.optional_moment_at-end.result c.optional_moment_at-end.ensures.ok c.optional_moment_at-end.ensures.err in
    let b7 = told_both c.both.result c.both.ensures t7 told_end in
    let b6 = told_both c.both-2.result c.both-2.ensures t6 b7 in
    let b5 = told_both c.both-3.result c.both-3.ensures t5 b6 in
    let b4 = told_both c.both-message.result c.both-message.ensures t4 b5 in
    let b3 = told_both c.both-4.result c.both-4.ensures t3 b4 in
    let b2 = told_both c.both-5.result c.both-5.ensures t2 b3 in
    let b1 = told_both c.both-6.result c.both-6.ensures t1 b2 in
    let b0 = told_both c.both-read.result c.both-read.ensures t0 b1 in
    told_err c.in-Err.e b0 c.in-Err.is

pub returns-in-Ok-clause-ok : goal.returns-in-Ok-clause-ok
returns-in-Ok-clause-ok c =
    let pairs = pairs_view (paired c.args.dict.now) in
    let t0 = told_line key.HttpVersion http_version pairs c.version_at-version.result c.version_at-version.ensures.ok c.version_at-version.ensures.err in
    let t1 = told_line key.StatusCode status pairs c.status_at-status.result c.status_at-status.ensures.ok c.status_at-status.ensures.err in
    let t2 = told_line key.Reason reason pairs c.reason_at-reason.result c.reason_at-reason.ensures.ok c.reason_at-reason.ensures.err in
    let t3 = told_line key.Headers headers pairs c.headers_at-fields.result c.headers_at-fields.ensures.ok c.headers_at-fields.ensures.err in
    let t4 = told_line key.Content content pairs c.content_at-content.result c.content_at-content.ensures.ok c.content_at-content.ensures.err in
    let t5 = told_line key.Trailers trailers pairs c.trailers_at-trailers.result c.trailers_at-trailers.ensures.ok c.trailers_at-trailers.ensures.err in
    let t6 = told_line key.TimestampStart (or_null moment) pairs c.optional_moment_at-start.result c.optional_moment_at-start.ensures.ok c.optional_moment_at-start.ensures.err in
    let t7 = told_line key.TimestampEnd (or_null moment) pairs c.optional_moment_at-end.result c.optional_moment_at-end.ensures.ok c.optional_moment_at-end.ensures.err in
    let b7 = told_both c.both.result c.both.ensures t7 told_end in
    let b6 = told_both c.both-2.result c.both-2.ensures t6 b7 in
    let b5 = told_both c.both-3.result c.both-3.ensures t5 b6 in
    let b4 = told_both c.both-message.result c.both-message.ensures t4 b5 in
    let b3 = told_both c.both-4.result c.both-4.ensures t3 b4 in
    let b2 = told_both c.both-5.result c.both-5.ensures t2 b3 in
    let b1 = told_both c.both-6.result c.both-6.ensures t1 b2 in
    let b0 = told_both c.both-read.result c.both-read.ensures t0 b1 in
    if_ok_as c.answered_of.result (λ r same. told_as _ _ b0 c.in-Ok.is same) c.answered_of.ensures.ok
