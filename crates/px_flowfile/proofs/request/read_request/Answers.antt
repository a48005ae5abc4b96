use Rattle.std.proofs.Common.{codes}
use Rattle.px_tnet.specs.View.{paired, pairs_view}
use Rattle.px_flowfile.specs.Kind.{or_null}
use Rattle.px_flowfile.specs.Message.{content, headers, host, method, path, trailers}
use Rattle.px_flowfile.specs.Simple.{http_version, moment, port, unused, word_bytes}
use Rattle.px_flowfile.specs.declared.key.Key.TheVariants as key
use Rattle.px_flowfile.proofs.RequestLemmas.{no_connect, no_zero}
use Rattle.px_flowfile.proofs.BothLemmas.{told_both, told_end, told_err, told_line, told_as, told_ok, if_ok_as}
use Rattle.px_flowfile.proofs.request.read_request.Goals as goal

pub returns-in-Err-clause-err : goal.returns-in-Err-clause-err
returns-in-Err-clause-err c =
    let pairs = pairs_view (paired c.args.dict.now) in
    let t0 = told_line key.HttpVersion http_version pairs c.version_at-version.result c.version_at-version.ensures.ok c.version_at-version.ensures.err in
    let t1 = told_line key.Headers headers pairs c.headers_at-fields.result c.headers_at-fields.ensures.ok c.headers_at-fields.ensures.err in
    let t2 = told_line key.Content content pairs c.content_at-content.result c.content_at-content.ensures.ok c.content_at-content.ensures.err in
    let t3 = told_line key.Trailers trailers pairs c.trailers_at-trailers.result c.trailers_at-trailers.ensures.ok c.trailers_at-trailers.ensures.err in
    let t4 = told_line key.TimestampStart moment pairs c.moment_at-start.result c.moment_at-start.ensures.ok c.moment_at-start.ensures.err in
    let t5 = told_line key.TimestampEnd (or_null moment) pairs c.optional_moment_at-end.result c.optional_moment_at-end.ensures.ok c.optional_moment_at-end.ensures.err in
    let t6 = told_line key.Host host pairs c.host_at-host.result c.host_at-host.ensures.ok c.host_at-host.ensures.err in
    let t7 = told_line key.Port port pairs c.port_at-port.result c.port_at-port.ensures.ok c.port_at-port.ensures.err in
    let t8 = told_line key.Method method pairs c.method_at-method.result c.method_at-method.ensures.ok c.method_at-method.ensures.err in
    let t9 = told_line key.Scheme (word_bytes (codes "http")) pairs c.scheme_at-scheme.result c.scheme_at-scheme.ensures.ok c.scheme_at-scheme.ensures.err in
    let t10 = told_line key.Authority unused pairs c.authority_at-authority.result c.authority_at-authority.ensures.ok c.authority_at-authority.ensures.err in
    let t11 = told_line key.Path path pairs c.path_at-path.result c.path_at-path.ensures.ok c.path_at-path.ensures.err in
    let b11 = told_both c.both.result c.both.ensures t11 told_end in
    let b10 = told_both c.both-2.result c.both-2.ensures t10 b11 in
    let b9 = told_both c.both-line.result c.both-line.ensures t9 b10 in
    let b8 = told_both c.both-3.result c.both-3.ensures t8 b9 in
    let b7 = told_both c.both-4.result c.both-4.ensures t7 b8 in
    let b6 = told_both c.both-target.result c.both-target.ensures t6 b7 in
    let b5 = told_both c.both-5.result c.both-5.ensures t5 b6 in
    let b4 = told_both c.both-moments.result c.both-moments.ensures t4 b5 in
    let b3 = told_both c.both-6.result c.both-6.ensures t3 b4 in
    let b2 = told_both c.both-7.result c.both-7.ensures t2 b3 in
    let b1 = told_both c.both-8.result c.both-8.ensures t1 b2 in
    let b0 = told_both c.both-read.result c.both-read.ensures t0 b1 in
    told_err c.in-Err.e b0 c.in-Err.is

pub returns-in-Ok-clause-ok : goal.returns-in-Ok-clause-ok
returns-in-Ok-clause-ok c =
    let pairs = pairs_view (paired c.args.dict.now) in
    let t0 = told_line key.HttpVersion http_version pairs c.version_at-version.result c.version_at-version.ensures.ok c.version_at-version.ensures.err in
    let t1 = told_line key.Headers headers pairs c.headers_at-fields.result c.headers_at-fields.ensures.ok c.headers_at-fields.ensures.err in
    let t2 = told_line key.Content content pairs c.content_at-content.result c.content_at-content.ensures.ok c.content_at-content.ensures.err in
    let t3 = told_line key.Trailers trailers pairs c.trailers_at-trailers.result c.trailers_at-trailers.ensures.ok c.trailers_at-trailers.ensures.err in
    let t4 = told_line key.TimestampStart moment pairs c.moment_at-start.result c.moment_at-start.ensures.ok c.moment_at-start.ensures.err in
    let t5 = told_line key.TimestampEnd (or_null moment) pairs c.optional_moment_at-end.result c.optional_moment_at-end.ensures.ok c.optional_moment_at-end.ensures.err in
    let t6 = told_line key.Host host pairs c.host_at-host.result c.host_at-host.ensures.ok c.host_at-host.ensures.err in
    let t7 = told_line key.Port port pairs c.port_at-port.result c.port_at-port.ensures.ok c.port_at-port.ensures.err in
    let t8 = told_line key.Method method pairs c.method_at-method.result c.method_at-method.ensures.ok c.method_at-method.ensures.err in
    let t9 = told_line key.Scheme (word_bytes (codes "http")) pairs c.scheme_at-scheme.result c.scheme_at-scheme.ensures.ok c.scheme_at-scheme.ensures.err in
    let t10 = told_line key.Authority unused pairs c.authority_at-authority.result c.authority_at-authority.ensures.ok c.authority_at-authority.ensures.err in
    let t11 = told_line key.Path path pairs c.path_at-path.result c.path_at-path.ensures.ok c.path_at-path.ensures.err in
    let b11 = told_both c.both.result c.both.ensures t11 told_end in
    let b10 = told_both c.both-2.result c.both-2.ensures t10 b11 in
    let b9 = told_both c.both-line.result c.both-line.ensures t9 b10 in
    let b8 = told_both c.both-3.result c.both-3.ensures t8 b9 in
    let b7 = told_both c.both-4.result c.both-4.ensures t7 b8 in
    let b6 = told_both c.both-target.result c.both-target.ensures t6 b7 in
    let b5 = told_both c.both-5.result c.both-5.ensures t5 b6 in
    let b4 = told_both c.both-moments.result c.both-moments.ensures t4 b5 in
    let b3 = told_both c.both-6.result c.both-6.ensures t3 b4 in
    let b2 = told_both c.both-7.result c.both-7.ensures t2 b3 in
    let b1 = told_both c.both-8.result c.both-8.ensures t1 b2 in
    let b0 = told_both c.both-read.result c.both-read.ensures t0 b1 in
    if_ok_as c.asked_of.result (λ r same. told_as _ _ b0 c.in-Ok.is same) c.asked_of.ensures.ok

pub asked_of-requires : goal.asked_of-requires
asked_of-requires c =
    let pairs = pairs_view (paired c.args.dict.now) in
    let t0 = told_line key.HttpVersion http_version pairs c.version_at-version.result c.version_at-version.ensures.ok c.version_at-version.ensures.err in
    let t1 = told_line key.Headers headers pairs c.headers_at-fields.result c.headers_at-fields.ensures.ok c.headers_at-fields.ensures.err in
    let t2 = told_line key.Content content pairs c.content_at-content.result c.content_at-content.ensures.ok c.content_at-content.ensures.err in
    let t3 = told_line key.Trailers trailers pairs c.trailers_at-trailers.result c.trailers_at-trailers.ensures.ok c.trailers_at-trailers.ensures.err in
    let t4 = told_line key.TimestampStart moment pairs c.moment_at-start.result c.moment_at-start.ensures.ok c.moment_at-start.ensures.err in
    let t5 = told_line key.TimestampEnd (or_null moment) pairs c.optional_moment_at-end.result c.optional_moment_at-end.ensures.ok c.optional_moment_at-end.ensures.err in
    let t6 = told_line key.Host host pairs c.host_at-host.result c.host_at-host.ensures.ok c.host_at-host.ensures.err in
    let t7 = told_line key.Port port pairs c.port_at-port.result c.port_at-port.ensures.ok c.port_at-port.ensures.err in
    let t8 = told_line key.Method method pairs c.method_at-method.result c.method_at-method.ensures.ok c.method_at-method.ensures.err in
    let t9 = told_line key.Scheme (word_bytes (codes "http")) pairs c.scheme_at-scheme.result c.scheme_at-scheme.ensures.ok c.scheme_at-scheme.ensures.err in
    let t10 = told_line key.Authority unused pairs c.authority_at-authority.result c.authority_at-authority.ensures.ok c.authority_at-authority.ensures.err in
    let t11 = told_line key.Path path pairs c.path_at-path.result c.path_at-path.ensures.ok c.path_at-path.ensures.err in
    let b11 = told_both c.both.result c.both.ensures t11 told_end in
    let b10 = told_both c.both-2.result c.both-2.ensures t10 b11 in
    let b9 = told_both c.both-line.result c.both-line.ensures t9 b10 in
    let b8 = told_both c.both-3.result c.both-3.ensures t8 b9 in
    let b7 = told_both c.both-4.result c.both-4.ensures t7 b8 in
    let b6 = told_both c.both-target.result c.both-target.ensures t6 b7 in
    let b5 = told_both c.both-5.result c.both-5.ensures t5 b6 in
    let b4 = told_both c.both-moments.result c.both-moments.ensures t4 b5 in
    let b3 = told_both c.both-6.result c.both-6.ensures t3 b4 in
    let b2 = told_both c.both-7.result c.both-7.ensures t2 b3 in
    let b1 = told_both c.both-8.result c.both-8.ensures t1 b2 in
    let b0 = told_both c.both-read.result c.both-read.ensures t0 b1 in
    let all = told_ok _ b0 c.in-Ok.is in
    record { method = no_connect pairs _ all.1.1.1.1.1.1.1.1.0; port = no_zero pairs _ all.1.1.1.1.1.1.1.0 }
