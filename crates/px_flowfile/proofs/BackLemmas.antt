-- What is written by a table comes back from it.
use Rattle.std.proofs.Common.{◌≡◌, ◌∙◌, ℕ, ◌^◌, ◌-◌, ◌<◌, pos, min, Bool, true, false, if◌then◌else◌, List, [], ◌∷◌, Option, Some, None, refl, sym, ap, arith, inl, inr}
use Rattle.px_message.specs.declared.address.Address.{Address}
use Rattle.px_message.specs.declared.flow.Flow.{Flow}
use Rattle.px_message.specs.declared.flow.FlowError.{FlowError}
use Rattle.px_message.specs.declared.messages.WsRecord.{WsRecord}
use Rattle.px_tnet.specs.Tree.{int, Pairs, no_pair, pair}
use Rattle.px_flowfile.specs.Answered.{response_table}
use Rattle.px_flowfile.specs.Asked.{request_table}
use Rattle.px_flowfile.specs.Ends.{end_table, error_table}
use Rattle.px_flowfile.specs.FlowTable.{IsLoadable, IsLoadableBy, Loads, answered, asked, flow_table, is_known, socket_of, tree_by, unknown}
use Rattle.px_flowfile.specs.Kind.{Kind, or_null}
use Rattle.px_flowfile.specs.Message.{AreRead, content, each, field, headers, row_of, trailers}
use Rattle.px_flowfile.specs.Simple.{moment}
use Rattle.px_flowfile.specs.Sockets.{message_table, messages, second_socket, socket, socket_table}
use Rattle.px_flowfile.specs.Table.{IsGoodBy, Meets, dictionary, lines}
use Rattle.px_flowfile.specs.Unknown.{AreUnknown}
use Rattle.px_flowfile.specs.declared.answered.Answered.{Answered}
use Rattle.px_flowfile.specs.declared.asked.Asked.{Asked}
use Rattle.px_flowfile.specs.declared.form.Form.{Form}
use Rattle.px_flowfile.specs.declared.form.Form.TheVariants as forms
use Rattle.px_flowfile.specs.declared.held.Held.{Held}
use Rattle.px_flowfile.specs.declared.socket.Socket.{Socket}

-- a good value is read from its tree
pub Back : {A : Type 0} → Kind A → Type 0
Back {A} kind = (a : A) → kind.Good a → kind.Reads (kind.write a) a

pub moment_back : (m : ℕ) → m < 2 ^ 63 → moment.Reads (moment.write m) m
moment_back m small =
    let same : min m (2 ^ 63 - 1) ≡ m = omega arith in (ap (λ n. int (pos n)) same, small)

pub null_back : {A : Type 0} (kind : Kind A) → ((a : A) → kind.Good a → kind.Reads (kind.write a) a) → (a : Option A) → (or_null kind).Good a
    → (or_null kind).Reads ((or_null kind).write a) a
null_back kind back None good = refl
null_back kind back (Some a) good = back a good

row_back : {A : Type 0} (kind : Kind A) → ((a : A) → kind.Good a → kind.Reads (kind.write a) a) → (xs : List A) → (each kind).Good xs
    → AreRead kind (row_of kind xs) xs
row_back kind back [] good = tt
row_back kind back (a ∷ xs) good = (back a good.0, row_back kind back xs good.1)

pub each_back : {A : Type 0} (kind : Kind A) → ((a : A) → kind.Good a → kind.Reads (kind.write a) a) → (xs : List A) → (each kind).Good xs
    → (each kind).Reads ((each kind).write xs) xs
each_back kind back xs good = (row_of kind xs, refl, row_back kind back xs good)

pub headers_back : (fs : List (List ℕ × List ℕ)) → headers.Good fs → headers.Reads (headers.write fs) fs
headers_back fs good = each_back field (λ f is. (refl, is)) fs good

pub trailers_back : (fs : List (List ℕ × List ℕ)) → trailers.Good fs → trailers.Reads (trailers.write fs) fs
trailers_back [] good = inl (refl, refl)
trailers_back (f ∷ fs) good = inr (headers_back (f ∷ fs) good)

content_by : (streamed : Bool) (body : List ℕ) → content.Good (record { streamed = streamed; body = body })
    → content.Reads (content.write (record { streamed = streamed; body = body })) (record { streamed = streamed; body = body })
content_by true body good = inl (refl, refl, good refl)
content_by false body good = inr (refl, refl)

pub content_back : (held : Held) → content.Good held → content.Reads (content.write held) held
content_back held good = content_by held.streamed held.body good

pub request_back : (a : Asked) → IsGoodBy request_table a → Meets request_table (lines request_table a no_pair) a
request_back a g = (
  (refl, tt),
  (
    headers_back a.request.fields g.1.0,
    (
      content_back (record { streamed = a.request.streamed; body = a.request.body }) g.1.1.0,
      (
        trailers_back a.request.trailers g.1.1.1.0,
        (
          moment_back a.start g.1.1.1.1.0,
          (
            null_back moment moment_back a.end g.1.1.1.1.1.0,
            (
              (refl, g.1.1.1.1.1.1.0),
              (
                (refl, g.1.1.1.1.1.1.1.0),
                (
                  (refl, g.1.1.1.1.1.1.1.1.0),
                  (
                    (refl, tt),
                    (
                      ([], refl),
                      ((refl, g.1.1.1.1.1.1.1.1.1.1.1.0), tt),
                    ),
                  ),
                ),
              ),
            ),
          ),
        ),
      ),
    ),
  ),
)

pub response_back : (a : Answered) → IsGoodBy response_table a → Meets response_table (lines response_table a no_pair) a
response_back a g = (
  (refl, tt),
  (
    (refl, g.1.0),
    (
      (refl, g.1.1.0),
      (
        headers_back a.response.fields g.1.1.1.0,
        (
          content_back (record { streamed = a.response.streamed; body = a.response.body }) g.1.1.1.1.0,
          (
            trailers_back a.response.trailers g.1.1.1.1.1.0,
            (
              null_back moment moment_back a.start g.1.1.1.1.1.1.0,
              (null_back moment moment_back a.end g.1.1.1.1.1.1.1.0, tt),
            ),
          ),
        ),
      ),
    ),
  ),
)

end_back : (a : Address) → IsGoodBy end_table a → (dictionary end_table).Reads ((dictionary end_table).write a) a
end_back a g = (lines end_table a no_pair, refl, ((refl, g.0), tt))

error_back : (e : FlowError) → IsGoodBy error_table e → (dictionary error_table).Reads ((dictionary error_table).write e) e
error_back e g = (lines error_table e no_pair, refl, ((refl, tt), (moment_back e.moment g.1.0, tt)))

message_back : (m : WsRecord) → IsGoodBy message_table m → (dictionary message_table).Reads ((dictionary message_table).write m) m
message_back m g =
    (lines message_table m no_pair, refl, ((refl, tt), ((refl, tt), ((refl, tt), (moment_back m.moment g.1.1.1.0, ((refl, tt), tt))))))

messages_back : (ms : List WsRecord) → messages.Good ms → (dictionary socket_table).Reads ((dictionary socket_table).write ms) ms
messages_back ms good = (lines socket_table ms no_pair, refl, (each_back (dictionary message_table) message_back ms good, tt))

second_back : (websocket : Bool) (ms : List WsRecord) → second_socket.Good (record { websocket = websocket; messages = ms })
    → second_socket.Reads (second_socket.write (record { websocket = websocket; messages = ms })) (record { websocket = websocket; messages = ms })
second_back false ms good = inl (refl, refl, good.0 refl)
second_back true ms good = inr (refl, messages_back ms good.1)

socket_back : (of_form : Form) (s : Socket) → (socket of_form).Good s → (socket of_form).Reads ((socket of_form).write s) s
socket_back forms.First s good = (refl, good)
socket_back forms.Second s good = second_back s.websocket s.messages good

pub flow_back : (of_form : Form) (f : Flow) (others : Pairs) → IsGoodBy (flow_table of_form) f
    → Meets (flow_table of_form) (lines (flow_table of_form) f others) f
flow_back of_form f others g = (
  refl,
  (
    (refl, tt),
    (
      (refl, g.1.1.0),
      (
        null_back (dictionary end_table) end_back f.client g.1.1.1.0,
        (
          null_back (dictionary end_table) end_back f.server g.1.1.1.1.0,
          (
            (lines request_table (asked f) no_pair, refl, request_back (asked f) g.1.1.1.1.1.0),
            (
              null_back (dictionary response_table) (λ a good. (lines response_table a no_pair, refl, response_back a good)) (answered f) g.1.1.1.1.1.1.0,
              (
                null_back (dictionary error_table) error_back f.error g.1.1.1.1.1.1.1.0,
                (
                  refl,
                  (
                    (refl, tt),
                    (socket_back of_form (socket_of f) g.1.1.1.1.1.1.1.1.1.1.0, tt),
                  ),
                ),
              ),
            ),
          ),
        ),
      ),
    ),
  ),
)

by_test : (a b : Pairs) (test : Bool) → test ≡ false → (if test then a else b) ≡ b
by_test a b false h = refl
by_test a b true h = absurd (let e : true ≡ false = h in cc)

others_stay : (ps : Pairs) → AreUnknown ps → unknown ps ≡ ps
others_stay no_pair h = refl
others_stay (pair k v ps) h =
    by_test (unknown ps) (pair k v (unknown ps)) (is_known k.bytes) h.0 ∙ ap (pair k v) (others_stay ps h.1)

pub flow_comes_back : (of_form : Form) (f : Flow) (others : Pairs) → IsLoadableBy of_form f → AreUnknown others
    → Loads (tree_by of_form f others) f others
flow_comes_back of_form f others loadable strange = (
  lines (flow_table of_form) f others,
  of_form,
  refl,
  flow_back of_form f others loadable.good,
  loadable.bare,
  sym (others_stay others strange),
)

-- a flow without messages that is loadable by what is written is loadable by version 1
pub first_loadable : (f : Flow) → IsLoadable f → f.messages ≡ [] → IsLoadableBy forms.First f
first_loadable f loadable none =
    let g = loadable.good in record {
      bare = loadable.bare;
      good = (
        g.0,
        (g.1.0, (g.1.1.0, (g.1.1.1.0, (g.1.1.1.1.0, (g.1.1.1.1.1.0, (g.1.1.1.1.1.1.0, (g.1.1.1.1.1.1.1.0, (g.1.1.1.1.1.1.1.1.0, (g.1.1.1.1.1.1.1.1.1.0, (none, tt)))))))))),
      );
    }
