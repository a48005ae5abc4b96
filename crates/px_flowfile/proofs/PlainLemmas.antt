-- A flow whose types guarantee their parts is loadable where it is plain.
use Rattle.std.proofs.Common.{◌≡◌, ℕ, suc, arith, ◌^◌, ◌<◌, true, List, [], ◌∷◌, Option, Some, None, IfSome}
use Rattle.std.specs.List.{All, AllPass}
use Rattle.std.proofs.lemmas.List.Elements.{All-head, All-tail}
use Rattle.px_message.specs.Valid.{is_field}
use Rattle.px_message.specs.declared.flow.Flow.{Flow}
use Rattle.px_message.specs.declared.flow.FlowError.{FlowError}
use Rattle.px_message.specs.declared.messages.WsRecord.{WsRecord}
use Rattle.px_message.specs.declared.response.Response.{Response}
use Rattle.px_flowfile.specs.Answered.{response_table}
use Rattle.px_flowfile.specs.Asked.{request_table}
use Rattle.px_flowfile.specs.Ends.{end_table, error_table}
use Rattle.px_flowfile.specs.FlowTable.{IsLoadable, answered_by, asked}
use Rattle.px_flowfile.specs.Kind.{or_null}
use Rattle.px_flowfile.specs.Message.{headers}
use Rattle.px_flowfile.specs.Plain.{IsPlain, IsValidRequest, IsValidResponse}
use Rattle.px_flowfile.specs.Simple.{IsId, moment}
use Rattle.px_flowfile.specs.Sockets.{messages}
use Rattle.px_flowfile.specs.Table.{IsGoodBy, dictionary}

pub fields_good : (fs : List (List ℕ × List ℕ)) → AllPass is_field fs → headers.Good fs
fields_good [] h = tt
fields_good (f ∷ fs) h = (h 0 f (omega arith), fields_good fs (λ k d within. h (suc k) d (omega (arith, within))))

request_good : (f : Flow) → IsValidRequest f.request → IsPlain f → IsGoodBy request_table (asked f)
request_good f r plain =
    (tt, (r.fields, (plain.request_body, (r.trailers, (plain.request_start, (plain.request_end, (r.host, (r.port, (r.method, (tt, (tt, (r.path, tt))))))))))))

response_good : (start end : Option ℕ) (r : Option Response) → IfSome r IsValidResponse → IfSome r (λ x. x.streamed ≡ true → x.body ≡ [])
    → (or_null moment).Good start → (or_null moment).Good end → (or_null (dictionary response_table)).Good (answered_by start end r)
response_good start end None valid body early before = tt
response_good start end (Some r) valid body early before =
    (tt, (valid.status, (valid.reason, (valid.fields, (body, (valid.trailers, (early, (before, tt))))))))

error_good : (e : Option FlowError) → IfSome e (λ x. x.moment < 2 ^ 63) → (or_null (dictionary error_table)).Good e
error_good None early = tt
error_good (Some e) early = (tt, (early, tt))

messages_good : (ms : List WsRecord) → All (λ m. m.moment < 2 ^ 63) ms → messages.Good ms
messages_good [] early = tt
messages_good (m ∷ ms) early =
    ((tt, (tt, (tt, (All-head (λ m. m.moment < 2 ^ 63) m ms early, (tt, tt))))), messages_good ms (All-tail (λ m. m.moment < 2 ^ 63) m ms early))

pub plain_is_loadable : (f : Flow) → IsId f.id → (or_null (dictionary end_table)).Good f.client → (or_null (dictionary end_table)).Good f.server
    → IsValidRequest f.request → IfSome f.response IsValidResponse → IsPlain f → IsLoadable f
plain_is_loadable f id client server request response plain = record {
  bare = plain.bare;
  good = (
    tt,
    (
      tt,
      (
        id,
        (
          client,
          (
            server,
            (
              request_good f request plain,
              (
                response_good f.times.response_start f.times.response_end f.response response plain.response_body plain.response_start plain.response_end,
                (error_good f.error plain.error, (tt, (tt, ((plain.no_messages, messages_good f.messages plain.messages), tt)))),
              ),
            ),
          ),
        ),
      ),
    ),
  );
}
