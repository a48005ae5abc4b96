use Rattle.std.proofs.Common.{codes}
use Rattle.px_tnet.specs.View.{paired, pairs_view}
use Rattle.px_flowfile.specs.Answered.{response_table}
use Rattle.px_flowfile.specs.Asked.{request_table}
use Rattle.px_flowfile.specs.Ends.{end_table, error_table}
use Rattle.px_flowfile.specs.Kind.{or_null}
use Rattle.px_flowfile.specs.Simple.{flow_id, replay, truth, word}
use Rattle.px_flowfile.specs.Sockets.{socket}
use Rattle.px_flowfile.specs.Table.{dictionary}
use Rattle.px_flowfile.specs.declared.key.Key.TheVariants as key
use Rattle.px_flowfile.proofs.BothLemmas.{told_as, told_both, told_end, told_err, told_line}
use Rattle.px_flowfile.proofs.flow.flow_by.Goals as goal

pub returns-in-Err-clause-err : goal.returns-in-Err-clause-err
returns-in-Err-clause-err c =
    let pairs = pairs_view (paired c.args.dict.now) in
    let t1 = told_line key.Type (word (codes "http")) pairs c.type_at-of_type.result c.type_at-of_type.ensures.ok c.type_at-of_type.ensures.err in
    let t2 = told_line key.Id flow_id pairs c.id_at-id.result c.id_at-id.ensures.ok c.id_at-id.ensures.err in
    let t3 = told_line key.ClientConn (or_null (dictionary end_table)) pairs c.end_at-client.result c.end_at-client.ensures.ok c.end_at-client.ensures.err in
    let t4 = told_line key.ServerConn (or_null (dictionary end_table)) pairs c.end_at-server.result c.end_at-server.ensures.ok c.end_at-server.ensures.err in
    let t5 = told_line key.Request (dictionary request_table) pairs c.request_at-request.result c.request_at-request.ensures.ok c.request_at-request.ensures.err in
    let t6 = told_line key.Response (or_null (dictionary response_table)) pairs c.response_at-response.result c.response_at-response.ensures.ok c.response_at-response.ensures.err in
    let t7 = told_line key.Error (or_null (dictionary error_table)) pairs c.error_at-error.result c.error_at-error.ensures.ok c.error_at-error.ensures.err in
    let t8 = told_line key.IsReplay replay pairs c.replay_at-replayed.result c.replay_at-replayed.ensures.ok c.replay_at-replayed.ensures.err in
    let t9 = told_line key.Marked truth pairs c.truth_at-marked.result c.truth_at-marked.ensures.ok c.truth_at-marked.ensures.err in
    let t10 = told_line key.Websocket (socket c.args.form) pairs c.socket_at-socket.result c.socket_at-socket.ensures.ok c.socket_at-socket.ensures.err in
    let b10 = told_both c.both.result c.both.ensures t10 told_end in
    let b9 = told_both c.both-2.result c.both-2.ensures t9 b10 in
    let b8 = told_both c.both-marks.result c.both-marks.ensures t8 b9 in
    let b7 = told_both c.both-3.result c.both-3.ensures t7 b8 in
    let b6 = told_both c.both-4.result c.both-4.ensures t6 b7 in
    let b5 = told_both c.both-messages.result c.both-messages.ensures t5 b6 in
    let b4 = told_both c.both-5.result c.both-5.ensures t4 b5 in
    let b3 = told_both c.both-6.result c.both-6.ensures t3 b4 in
    let b2 = told_both c.both-7.result c.both-7.ensures t2 b3 in
    let b1 = told_both c.both-read.result c.both-read.ensures t1 b2 in
    told_err c.in-Err.e b1 c.in-Err.is

pub returns-in-Ok-clause-ok : goal.returns-in-Ok-clause-ok
returns-in-Ok-clause-ok c =
    let pairs = pairs_view (paired c.args.dict.now) in
    let t1 = told_line key.Type (word (codes "http")) pairs c.type_at-of_type.result c.type_at-of_type.ensures.ok c.type_at-of_type.ensures.err in
    let t2 = told_line key.Id flow_id pairs c.id_at-id.result c.id_at-id.ensures.ok c.id_at-id.ensures.err in
    let t3 = told_line key.ClientConn (or_null (dictionary end_table)) pairs c.end_at-client.result c.end_at-client.ensures.ok c.end_at-client.ensures.err in
    let t4 = told_line key.ServerConn (or_null (dictionary end_table)) pairs c.end_at-server.result c.end_at-server.ensures.ok c.end_at-server.ensures.err in
    let t5 = told_line key.Request (dictionary request_table) pairs c.request_at-request.result c.request_at-request.ensures.ok c.request_at-request.ensures.err in
    let t6 = told_line key.Response (or_null (dictionary response_table)) pairs c.response_at-response.result c.response_at-response.ensures.ok c.response_at-response.ensures.err in
    let t7 = told_line key.Error (or_null (dictionary error_table)) pairs c.error_at-error.result c.error_at-error.ensures.ok c.error_at-error.ensures.err in
    let t8 = told_line key.IsReplay replay pairs c.replay_at-replayed.result c.replay_at-replayed.ensures.ok c.replay_at-replayed.ensures.err in
    let t9 = told_line key.Marked truth pairs c.truth_at-marked.result c.truth_at-marked.ensures.ok c.truth_at-marked.ensures.err in
    let t10 = told_line key.Websocket (socket c.args.form) pairs c.socket_at-socket.result c.socket_at-socket.ensures.ok c.socket_at-socket.ensures.err in
    let b10 = told_both c.both.result c.both.ensures t10 told_end in
    let b9 = told_both c.both-2.result c.both-2.ensures t9 b10 in
    let b8 = told_both c.both-marks.result c.both-marks.ensures t8 b9 in
    let b7 = told_both c.both-3.result c.both-3.ensures t7 b8 in
    let b6 = told_both c.both-4.result c.both-4.ensures t6 b7 in
    let b5 = told_both c.both-messages.result c.both-messages.ensures t5 b6 in
    let b4 = told_both c.both-5.result c.both-5.ensures t4 b5 in
    let b3 = told_both c.both-6.result c.both-6.ensures t3 b4 in
    let b2 = told_both c.both-7.result c.both-7.ensures t2 b3 in
    let b1 = told_both c.both-read.result c.both-read.ensures t1 b2 in
    told_as _ _ b1 c.in-Ok.is c.flow_of.ensures.parts
