-- What was read by a table is good: it comes back from what is written of it.
use Rattle.std.proofs.Common.{◌≡◌, ◌∙◌, ℕ, Bool, true, false, List, [], ◌∷◌, length, Option, Some, None, IsSomeAnd, refl, sym, ap, arith, inl, inr}
use Rattle.px_message.specs.declared.address.Address.{Address}
use Rattle.px_message.specs.declared.flow.Flow.{Flow}
use Rattle.px_message.specs.declared.flow.FlowError.{FlowError}
use Rattle.px_message.specs.declared.messages.WsRecord.{WsRecord}
use Rattle.px_tnet.specs.Tree.{Tree, Pairs, Trees, no_tree, tree}
use Rattle.px_flowfile.specs.Answered.{response_table}
use Rattle.px_flowfile.specs.Asked.{request_table}
use Rattle.px_flowfile.specs.Ends.{end_table, error_table, place}
use Rattle.px_flowfile.specs.FlowTable.{IsLoadable, Loads, answered, asked, flow_table, socket_of}
use Rattle.px_flowfile.specs.Keys.{name_of}
use Rattle.px_flowfile.specs.Kind.{Kind, or_null}
use Rattle.px_flowfile.specs.Message.{AreRead, content, each, field, headers, host, method, path, reason, trailers}
use Rattle.px_flowfile.specs.Simple.{flow_id, moment, port, status}
use Rattle.px_flowfile.specs.Sockets.{message_table, messages, second_socket, socket, socket_table}
use Rattle.px_flowfile.specs.Table.{IsGoodBy, Line, Meets, dictionary, line, lookup}
use Rattle.px_flowfile.specs.declared.answered.Answered.{Answered}
use Rattle.px_flowfile.specs.declared.asked.Asked.{Asked}
use Rattle.px_flowfile.specs.declared.form.Form.{Form}
use Rattle.px_flowfile.specs.declared.form.Form.TheVariants as forms
use Rattle.px_flowfile.specs.declared.key.Key.{Key}
use Rattle.px_flowfile.specs.declared.key.Key.TheVariants as key
use Rattle.px_flowfile.specs.declared.socket.Socket.{Socket}

cons_is_nil : {A : Type 0} (x : A) (xs : List A) → ¬ ((x ∷ xs) ≡ [])
cons_is_nil x xs h = let e : length (x ∷ xs) ≡ 0 = ap length h in omega arith

-- what is read as a value of the kind is good
abbrev IsKept : {A : Type 0} → Kind A → Type 0
IsKept {A} kind = (t : Tree) (a : A) → kind.Reads t a → kind.Good a

good_at : {A : Type 0} (kind : Kind A) (a : A) (found : Option Tree) → IsKept kind → IsSomeAnd found (λ t. kind.Reads t a) → kind.Good a
good_at kind a (Some t) kept h = kept t a h
good_at kind a None kept h = absurd h

abbrev AllKept : {S : Type 0} → List (Line S) → Type 0
AllKept [] = Unit {0}
AllKept {S} (l ∷ table) = ((pairs : Pairs) (s : S) → l.Reads pairs s → l.IsGood s) × AllKept table

kept_line : {S A : Type 0} (k : Key) (kind : Kind A) → IsKept kind → (get : S → A) (pairs : Pairs) (s : S) → (line k kind get).Reads pairs s
    → (line k kind get).IsGood s
kept_line k kind kept get pairs s h = good_at kind (get s) (lookup (name_of k) pairs) kept h

meets_good : {S : Type 0} (table : List (Line S)) → AllKept table → (pairs : Pairs) (s : S) → Meets table pairs s → IsGoodBy table s
meets_good [] kept pairs s h = tt
meets_good (l ∷ table) kept pairs s h = (kept.0 pairs s h.0, meets_good table kept.1 pairs s h.1)

dictionary_kept : {S : Type 0} (table : List (Line S)) → AllKept table → IsKept (dictionary table)
dictionary_kept table kept t s h = meets_good table kept h.0 s h.2

null_kept : {A : Type 0} (kind : Kind A) → IsKept kind → IsKept (or_null kind)
null_kept kind kept t None h = tt
null_kept kind kept t (Some a) h = kept t a h

row_kept : {A : Type 0} (kind : Kind A) → IsKept kind → (trees : Trees) (xs : List A) → AreRead kind trees xs → (each kind).Good xs
row_kept kind kept no_tree [] h = tt
row_kept kind kept no_tree (x ∷ xs) h = absurd h
row_kept kind kept (tree t trees) [] h = absurd h
row_kept kind kept (tree t trees) (x ∷ xs) h = (kept t x h.0, row_kept kind kept trees xs h.1)

each_kept : {A : Type 0} (kind : Kind A) → IsKept kind → IsKept (each kind)
each_kept kind kept t xs h = row_kept kind kept h.0 xs h.2

headers_kept : IsKept headers
headers_kept = each_kept field (λ t f h. h.1)

none_good : (fs : List (List ℕ × List ℕ)) → fs ≡ [] → headers.Good fs
none_good [] none = tt
none_good (f ∷ fs) none = absurd (cons_is_nil f fs none)

trailers_kept : IsKept trailers
trailers_kept t fs (inl h) = none_good fs h.1
trailers_kept t fs (inr h) = headers_kept t fs h

content_kept : IsKept content
content_kept t held (inl h) = λ _. h.2
content_kept t held (inr h) = λ streamed. absurd (let e : true ≡ false = sym streamed ∙ h.1 in cc)

moment_kept : IsKept moment
moment_kept t m h = h.1

request_kept : AllKept request_table
request_kept = (
  (λ pairs a h. tt),
  (
    kept_line key.Headers headers headers_kept (λ (a : Asked). a.request.fields),
    (
      kept_line key.Content content content_kept (λ (a : Asked). record { streamed = a.request.streamed; body = a.request.body }),
      (
        kept_line key.Trailers trailers trailers_kept (λ (a : Asked). a.request.trailers),
        (
          kept_line key.TimestampStart moment moment_kept (λ (a : Asked). a.start),
          (
            kept_line key.TimestampEnd (or_null moment) (null_kept moment moment_kept) (λ (a : Asked). a.end),
            (
              kept_line key.Host host (λ t x h. h.1) (λ (a : Asked). a.request.host),
              (
                kept_line key.Port port (λ t x h. h.1) (λ (a : Asked). a.request.port),
                (
                  kept_line key.Method method (λ t x h. h.1) (λ (a : Asked). a.request.method),
                  (
                    (λ pairs a h. tt),
                    (
                      (λ pairs a h. tt),
                      (kept_line key.Path path (λ t x h. h.1) (λ (a : Asked). a.request.path), tt),
                    ),
                  ),
                ),
              ),
            ),
          ),
        ),
      ),
    ),
  ),
)

response_kept : AllKept response_table
response_kept = (
  (λ pairs a h. tt),
  (
    kept_line key.StatusCode status (λ t x h. h.1) (λ (a : Answered). a.response.status),
    (
      kept_line key.Reason reason (λ t x h. h.1) (λ (a : Answered). a.response.reason),
      (
        kept_line key.Headers headers headers_kept (λ (a : Answered). a.response.fields),
        (
          kept_line key.Content content content_kept (λ (a : Answered). record { streamed = a.response.streamed; body = a.response.body }),
          (
            kept_line key.Trailers trailers trailers_kept (λ (a : Answered). a.response.trailers),
            (
              kept_line key.TimestampStart (or_null moment) (null_kept moment moment_kept) (λ (a : Answered). a.start),
              (kept_line key.TimestampEnd (or_null moment) (null_kept moment moment_kept) (λ (a : Answered). a.end), tt),
            ),
          ),
        ),
      ),
    ),
  ),
)

end_kept : IsKept (or_null (dictionary end_table))
end_kept = null_kept (dictionary end_table) (dictionary_kept end_table (kept_line key.Address place (λ t x h. h.1) (λ (a : Address). a), tt))

error_kept : IsKept (or_null (dictionary error_table))
error_kept = null_kept (dictionary error_table) (dictionary_kept error_table (
  (λ pairs e h. tt),
  (kept_line key.Timestamp moment moment_kept (λ (e : FlowError). e.moment), tt),
))

message_kept : IsKept (dictionary message_table)
message_kept = dictionary_kept message_table (
  (λ pairs m h. tt),
  (
    (λ pairs m h. tt),
    (
      (λ pairs m h. tt),
      (kept_line key.Timestamp moment moment_kept (λ (m : WsRecord). m.moment), ((λ pairs m h. tt), tt)),
    ),
  ),
)

messages_kept : IsKept messages
messages_kept = each_kept (dictionary message_table) message_kept

none_sent : (ms : List WsRecord) → ms ≡ [] → messages.Good ms
none_sent [] none = tt
none_sent (m ∷ ms) none = absurd (cons_is_nil m ms none)

-- what either form tells of a WebSocket is good for the second
second_kept : (t : Tree) (s : Socket) → second_socket.Reads t s → second_socket.Good s
second_kept t s (inl h) = (λ _. h.2, none_sent s.messages h.2)
second_kept t s (inr h) = (
  λ no. absurd (let e : true ≡ false = sym h.0 ∙ no in cc),
  (dictionary_kept socket_table (kept_line key.Messages messages messages_kept (λ (ms : List WsRecord). ms), tt) t s.messages h.1).0,
)

socket_kept : (of_form : Form) (t : Tree) (s : Socket) → (socket of_form).Reads t s → second_socket.Good s
socket_kept forms.First t s h = (λ _. h.1, none_sent s.messages h.1)
socket_kept forms.Second t s h = second_kept t s h

socket_at : (of_form : Form) (s : Socket) (found : Option Tree) → IsSomeAnd found (λ t. (socket of_form).Reads t s) → second_socket.Good s
socket_at of_form s (Some t) h = socket_kept of_form t s h
socket_at of_form s None h = absurd h

flow_good : (of_form : Form) (pairs : Pairs) (f : Flow) → Meets (flow_table of_form) pairs f → IsGoodBy (flow_table forms.Second) f
flow_good of_form pairs f h = (
  tt,
  (
    tt,
    (
      kept_line key.Id flow_id (λ t x g. g.1) (λ (f : Flow). f.id) pairs f h.1.1.0,
      (
        kept_line key.ClientConn (or_null (dictionary end_table)) end_kept (λ (f : Flow). f.client) pairs f h.1.1.1.0,
        (
          kept_line key.ServerConn (or_null (dictionary end_table)) end_kept (λ (f : Flow). f.server) pairs f h.1.1.1.1.0,
          (
            kept_line key.Request (dictionary request_table) (dictionary_kept request_table request_kept) asked pairs f h.1.1.1.1.1.0,
            (
              kept_line key.Response (or_null (dictionary response_table))
                  (null_kept (dictionary response_table) (dictionary_kept response_table response_kept)) answered pairs f h.1.1.1.1.1.1.0,
              (
                kept_line key.Error (or_null (dictionary error_table)) error_kept (λ (f : Flow). f.error) pairs f h.1.1.1.1.1.1.1.0,
                (
                  tt,
                  (
                    tt,
                    (socket_at of_form (socket_of f) (lookup (name_of key.Websocket) pairs) h.1.1.1.1.1.1.1.1.1.1.0, tt),
                  ),
                ),
              ),
            ),
          ),
        ),
      ),
    ),
  ),
)

pub loaded_good : (t : Tree) (f : Flow) (others : Pairs) → Loads t f others → IsLoadable f
loaded_good t f others h = record { bare = h.4; good = flow_good h.1 h.0 f h.3 }
