-- The tables of a flow are sure: a dictionary is read as one whole at most, or refused for one cause, and never both.
use Rattle.std.proofs.Common.{◌≡◌, ◌∙◌, ℕ, Option, Some, None, refl, sym, ap, codes, true}
use Rattle.px_message.proofs.FlowLemmas.{flow_eq}
use Rattle.px_message.proofs.RequestLemmas.{request_eq}
use Rattle.px_message.specs.Host.{IsHost}
use Rattle.px_message.specs.Path.{is_path}
use Rattle.px_message.specs.Status.{is_status}
use Rattle.px_message.specs.Value.{is_value}
use Rattle.px_message.specs.declared.address.Address.{Address}
use Rattle.px_message.specs.declared.flow.Flow.{Flow}
use Rattle.px_message.specs.declared.flow.FlowError.{FlowError}
use Rattle.px_message.specs.declared.request.Request.{Request}
use Rattle.px_message.specs.declared.response.Response.{Response}
use Rattle.px_tnet.specs.Tree.{Pairs}
use Rattle.px_flowfile.specs.Answered.{response_table}
use Rattle.px_flowfile.specs.Asked.{request_table}
use Rattle.px_flowfile.specs.Ends.{end_table, error_table, place}
use Rattle.px_flowfile.specs.FlowTable.{IsBare, answered, answered_by, asked, lines_of, socket_of}
use Rattle.px_flowfile.specs.Kind.{or_null}
use Rattle.px_flowfile.specs.Message.{IsMethod, content, headers, host, method, path, reason, trailers}
use Rattle.px_flowfile.specs.Simple.{Any, IsPort, bytes, flow_id, http_version, moment, port, replay, status, truth, unused, word, word_bytes}
use Rattle.px_flowfile.specs.Sockets.{socket}
use Rattle.px_flowfile.specs.Table.{Meets, dictionary}
use Rattle.px_flowfile.specs.declared.answered.Answered.{Answered}
use Rattle.px_flowfile.specs.declared.asked.Asked.{Asked}
use Rattle.px_flowfile.specs.declared.form.Form.{Form}
use Rattle.px_flowfile.specs.declared.held.Held.{Held}
use Rattle.px_flowfile.specs.declared.key.Key.TheVariants as key
use Rattle.px_flowfile.specs.declared.socket.Socket.{Socket}
use Rattle.px_flowfile.proofs.KindLaws.{AllSure, Sure, dictionary_no_null, one_at, sure_dictionary, sure_line, sure_or_null}
use Rattle.px_flowfile.proofs.SureLemmas.{sure_bytes, sure_moment, sure_number, sure_truth, sure_unused, sure_word, sure_word_bytes}
use Rattle.px_flowfile.proofs.SureMore.{null_no_int, sure_content, sure_headers, sure_id, sure_place, sure_replay, sure_trailers, sure_version}
use Rattle.px_flowfile.proofs.SureSockets.{sure_socket}

sure_optional : Sure (or_null moment)
sure_optional = sure_or_null moment sure_moment (λ a h. null_no_int _ h.0)

ends_sure : AllSure end_table
ends_sure = (sure_line key.Address place sure_place (λ (a : Address). a), tt)

pub sure_end : Sure (or_null (dictionary end_table))
sure_end = sure_or_null (dictionary end_table)
    (sure_dictionary end_table ends_sure (λ pairs a b h g. one_at key.Address place sure_place pairs a b h.0 g.0))
    (dictionary_no_null end_table ends_sure)

error_sure : AllSure error_table
error_sure = (
  sure_line key.Msg bytes (sure_bytes Any) (λ (e : FlowError). e.msg),
  (sure_line key.Timestamp moment sure_moment (λ (e : FlowError). e.moment), tt),
)

error_one : (pairs : Pairs) (a b : FlowError) → Meets error_table pairs a → Meets error_table pairs b → a ≡ b
error_one pairs a b h g =
    let msg = one_at key.Msg bytes (sure_bytes Any) pairs a.msg b.msg h.0 g.0 in
    let moments = one_at key.Timestamp moment sure_moment pairs a.moment b.moment h.1.0 g.1.0 in
    λ i. record { msg = msg i; moment = moments i }

pub sure_error : Sure (or_null (dictionary error_table))
sure_error = sure_or_null (dictionary error_table) (sure_dictionary error_table error_sure error_one) (dictionary_no_null error_table error_sure)

abbrev held : Request → Held
held r = record { streamed = r.streamed; body = r.body }

request_sure : AllSure request_table
request_sure = (
  sure_line key.HttpVersion http_version sure_version (λ (a : Asked). a.request.version),
  (
    sure_line key.Headers headers sure_headers (λ (a : Asked). a.request.fields),
    (
      sure_line key.Content content sure_content (λ (a : Asked). held a.request),
      (
        sure_line key.Trailers trailers sure_trailers (λ (a : Asked). a.request.trailers),
        (
          sure_line key.TimestampStart moment sure_moment (λ (a : Asked). a.start),
          (
            sure_line key.TimestampEnd (or_null moment) sure_optional (λ (a : Asked). a.end),
            (
              sure_line key.Host host (sure_bytes IsHost) (λ (a : Asked). a.request.host),
              (
                sure_line key.Port port (sure_number IsPort) (λ (a : Asked). a.request.port),
                (
                  sure_line key.Method method (sure_bytes IsMethod) (λ (a : Asked). a.request.method),
                  (
                    sure_line key.Scheme (word_bytes (codes "http")) (sure_word_bytes (codes "http")) (λ (_ : Asked). tt),
                    (
                      sure_line key.Authority unused sure_unused (λ (_ : Asked). tt),
                      (sure_line key.Path path (sure_bytes (λ p. is_path p ≡ true)) (λ (a : Asked). a.request.path), tt),
                    ),
                  ),
                ),
              ),
            ),
          ),
        ),
      ),
    ),
  ),
)

asked_one : (pairs : Pairs) (a b : Asked) → Meets request_table pairs a → Meets request_table pairs b → a ≡ b
asked_one pairs a b h g =
    let contents = one_at key.Content content sure_content pairs (held a.request) (held b.request) h.1.1.0 g.1.1.0 in
    let request : a.request ≡ b.request = request_eq a.request b.request
    (one_at key.Method method (sure_bytes IsMethod) pairs a.request.method b.request.method h.1.1.1.1.1.1.1.1.0 g.1.1.1.1.1.1.1.1.0)
    (one_at key.Host host (sure_bytes IsHost) pairs a.request.host b.request.host h.1.1.1.1.1.1.0 g.1.1.1.1.1.1.0)
    (one_at key.Port port (sure_number IsPort) pairs a.request.port b.request.port h.1.1.1.1.1.1.1.0 g.1.1.1.1.1.1.1.0)
    (one_at key.Path path (sure_bytes (λ p. is_path p ≡ true)) pairs a.request.path b.request.path h.1.1.1.1.1.1.1.1.1.1.1.0 g.1.1.1.1.1.1.1.1.1.1.1.0)
    (one_at key.HttpVersion http_version sure_version pairs a.request.version b.request.version h.0 g.0)
    (one_at key.Headers headers sure_headers pairs a.request.fields b.request.fields h.1.0 g.1.0)
    (ap (λ (x : Held). x.body) contents)
    (one_at key.Trailers trailers sure_trailers pairs a.request.trailers b.request.trailers h.1.1.1.0 g.1.1.1.0)
    (ap (λ (x : Held). x.streamed) contents) in
    let start = one_at key.TimestampStart moment sure_moment pairs a.start b.start h.1.1.1.1.0 g.1.1.1.1.0 in
    let end = one_at key.TimestampEnd (or_null moment) sure_optional pairs a.end b.end h.1.1.1.1.1.0 g.1.1.1.1.1.0 in
    λ i. record { request = request i; start = start i; end = end i }

pub sure_request : Sure (dictionary request_table)
sure_request = sure_dictionary request_table request_sure asked_one

abbrev kept : Response → Held
kept r = record { streamed = r.streamed; body = r.body }

response_sure : AllSure response_table
response_sure = (
  sure_line key.HttpVersion http_version sure_version (λ (a : Answered). a.response.version),
  (
    sure_line key.StatusCode status (sure_number (λ n. is_status n ≡ true)) (λ (a : Answered). a.response.status),
    (
      sure_line key.Reason reason (sure_bytes (λ v. is_value v ≡ true)) (λ (a : Answered). a.response.reason),
      (
        sure_line key.Headers headers sure_headers (λ (a : Answered). a.response.fields),
        (
          sure_line key.Content content sure_content (λ (a : Answered). kept a.response),
          (
            sure_line key.Trailers trailers sure_trailers (λ (a : Answered). a.response.trailers),
            (
              sure_line key.TimestampStart (or_null moment) sure_optional (λ (a : Answered). a.start),
              (sure_line key.TimestampEnd (or_null moment) sure_optional (λ (a : Answered). a.end), tt),
            ),
          ),
        ),
      ),
    ),
  ),
)

answered_one : (pairs : Pairs) (a b : Answered) → Meets response_table pairs a → Meets response_table pairs b → a ≡ b
answered_one pairs a b h g =
    let version = one_at key.HttpVersion http_version sure_version pairs a.response.version b.response.version h.0 g.0 in
    let code = one_at key.StatusCode status (sure_number (λ n. is_status n ≡ true)) pairs a.response.status b.response.status h.1.0 g.1.0 in
    let phrase = one_at key.Reason reason (sure_bytes (λ v. is_value v ≡ true)) pairs a.response.reason b.response.reason h.1.1.0 g.1.1.0 in
    let fields = one_at key.Headers headers sure_headers pairs a.response.fields b.response.fields h.1.1.1.0 g.1.1.1.0 in
    let contents = one_at key.Content content sure_content pairs (kept a.response) (kept b.response) h.1.1.1.1.0 g.1.1.1.1.0 in
    let behind = one_at key.Trailers trailers sure_trailers pairs a.response.trailers b.response.trailers h.1.1.1.1.1.0 g.1.1.1.1.1.0 in
    let start = one_at key.TimestampStart (or_null moment) sure_optional pairs a.start b.start h.1.1.1.1.1.1.0 g.1.1.1.1.1.1.0 in
    let end = one_at key.TimestampEnd (or_null moment) sure_optional pairs a.end b.end h.1.1.1.1.1.1.1.0 g.1.1.1.1.1.1.1.0 in
    λ i. record {
      response = record {
        version = version i;
        status = code i;
        reason = phrase i;
        fields = fields i;
        body = (contents i).body;
        trailers = behind i;
        streamed = (contents i).streamed;
      };
      start = start i;
      end = end i;
    }

pub sure_response : Sure (or_null (dictionary response_table))
sure_response = sure_or_null (dictionary response_table) (sure_dictionary response_table response_sure answered_one) (dictionary_no_null response_table response_sure)

pub flow_sure : (of_form : Form) → AllSure (lines_of of_form)
flow_sure of_form = (
  sure_line key.Type (word (codes "http")) (sure_word (codes "http")) (λ (_ : Flow). tt),
  (
    sure_line key.Id flow_id sure_id (λ (f : Flow). f.id),
    (
      sure_line key.ClientConn (or_null (dictionary end_table)) sure_end (λ (f : Flow). f.client),
      (
        sure_line key.ServerConn (or_null (dictionary end_table)) sure_end (λ (f : Flow). f.server),
        (
          sure_line key.Request (dictionary request_table) sure_request asked,
          (
            sure_line key.Response (or_null (dictionary response_table)) sure_response answered,
            (
              sure_line key.Error (or_null (dictionary error_table)) sure_error (λ (f : Flow). f.error),
              (
                sure_line key.IsReplay replay sure_replay (λ (f : Flow). f.replayed),
                (
                  sure_line key.Marked truth sure_truth (λ (f : Flow). f.marked),
                  (sure_line key.Websocket (socket of_form) (sure_socket of_form) socket_of, tt),
                ),
              ),
            ),
          ),
        ),
      ),
    ),
  ),
)

abbrev head_of : Option Answered → Option Response
head_of None = None
head_of (Some a) = Some a.response

abbrev start_of : Option Answered → Option ℕ
start_of None = None
start_of (Some a) = a.start

abbrev end_of : Option Answered → Option ℕ
end_of None = None
end_of (Some a) = a.end

back_head : (start end : Option ℕ) (r : Option Response) → head_of (answered_by start end r) ≡ r
back_head start end None = refl
back_head start end (Some r) = refl

back_start : (start end : Option ℕ) (r : Option Response) → (r ≡ None → start ≡ None) → start_of (answered_by start end r) ≡ start
back_start start end None none = sym (none refl)
back_start start end (Some r) none = refl

back_end : (start end : Option ℕ) (r : Option Response) → (r ≡ None → end ≡ None) → end_of (answered_by start end r) ≡ end
back_end start end None none = sym (none refl)
back_end start end (Some r) none = refl

pub flow_one : (of_form : Form) (pairs : Pairs) (f g : Flow) → IsBare f → IsBare g → Meets (lines_of of_form) pairs f
    → Meets (lines_of of_form) pairs g → f ≡ g
flow_one of_form pairs f g bare base h k =
    let whole = one_at key.Request (dictionary request_table) sure_request pairs (asked f) (asked g) h.1.1.1.1.0 k.1.1.1.1.0 in
    let answer = one_at key.Response (or_null (dictionary response_table)) sure_response pairs (answered f) (answered g) h.1.1.1.1.1.0 k.1.1.1.1.1.0 in
    let last = one_at key.Websocket (socket of_form) (sure_socket of_form) pairs (socket_of f) (socket_of g) h.1.1.1.1.1.1.1.1.1.0 k.1.1.1.1.1.1.1.1.1.0 in
    let ft = f.times in
    let gt = g.times in
    let start : ft.response_start ≡ gt.response_start =
    sym (back_start ft.response_start ft.response_end f.response bare.no_start) ∙ ap start_of answer
    ∙ back_start gt.response_start gt.response_end g.response base.no_start in
    let end : ft.response_end ≡ gt.response_end =
    sym (back_end ft.response_start ft.response_end f.response bare.no_end) ∙ ap end_of answer
    ∙ back_end gt.response_start gt.response_end g.response base.no_end in
    let response : f.response ≡ g.response =
    sym (back_head ft.response_start ft.response_end f.response) ∙ ap head_of answer ∙ back_head gt.response_start gt.response_end g.response in
    let times : ft ≡ gt = λ i. record {
      request_start = (whole i).start;
      request_end = (whole i).end;
      response_start = start i;
      response_end = end i;
    } in
    flow_eq f g
    (one_at key.Id flow_id sure_id pairs f.id g.id h.1.0 k.1.0)
    (one_at key.ClientConn (or_null (dictionary end_table)) sure_end pairs f.client g.client h.1.1.0 k.1.1.0)
    (one_at key.ServerConn (or_null (dictionary end_table)) sure_end pairs f.server g.server h.1.1.1.0 k.1.1.1.0)
    (ap (λ (a : Asked). a.request) whole)
    response
    (one_at key.Error (or_null (dictionary error_table)) sure_error pairs f.error g.error h.1.1.1.1.1.1.0 k.1.1.1.1.1.1.0)
    times
    (one_at key.IsReplay replay sure_replay pairs f.replayed g.replayed h.1.1.1.1.1.1.1.0 k.1.1.1.1.1.1.1.0)
    (one_at key.Marked truth sure_truth pairs f.marked g.marked h.1.1.1.1.1.1.1.1.0 k.1.1.1.1.1.1.1.1.0)
    (ap (λ (s : Socket). s.websocket) last)
    (bare.no_message ∙ sym base.no_message)
    (ap (λ (s : Socket). s.messages) last)
