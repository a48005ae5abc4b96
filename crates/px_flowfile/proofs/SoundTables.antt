-- The tree of a flow may be read wherever it has a text.
use Rattle.std.proofs.Common.{◌≡◌, ◌^◌, ◌<◌, ◌≤◌, ℕ, suc, Bool, true, false, List, length, refl, arith, codes}
use Rattle.px_message.specs.declared.address.Address.{Address}
use Rattle.px_message.specs.declared.flow.Flow.{Flow}
use Rattle.px_message.specs.declared.messages.WsRecord.{WsRecord}
use Rattle.px_tnet.specs.Frame.{too_many}
use Rattle.px_tnet.specs.Items.{most_deep}
use Rattle.px_tnet.specs.Tree.{Pairs}
use Rattle.px_tnet.specs.Written.{IsSound, IsTooLong, payload}
use Rattle.px_flowfile.specs.Answered.{response_table}
use Rattle.px_flowfile.specs.Asked.{request_table}
use Rattle.px_flowfile.specs.Ends.{end_table, error_table, place}
use Rattle.px_flowfile.specs.FlowTable.{IsLoadableBy, answered, asked, flow_table, socket_of, tree_by}
use Rattle.px_flowfile.specs.Simple.{form, moment}
use Rattle.px_flowfile.specs.Sockets.{message_table, messages, second_socket, socket, socket_table}
use Rattle.px_flowfile.specs.Table.{dictionary}
use Rattle.px_flowfile.specs.Unknown.{AreOthers, AreUnknown}
use Rattle.px_flowfile.specs.declared.form.Form.{Form}
use Rattle.px_flowfile.specs.declared.form.Form.TheVariants as forms
use Rattle.px_flowfile.proofs.ApartLemmas.{AreStrange, HasApart, lines_apart, unknown_strange}
use Rattle.px_flowfile.proofs.SoundLemmas.{AllSound, SoundAt, ascii_is_utf8, content_sound, dict_sound, dictionary_sound, each_sound, headers_sound, id_sound, in_frame, moment_sound, null_sound, replay_sound, status_sound, trailers_sound}

place_sound : (depth : ℕ) → SoundAt (suc depth) place
place_sound depth a good short =
    let host = in_frame a.host 44 _ short in
    (short, (host.0, ((let h = good.1.1 in omega arith), tt)))

end_sound : (depth : ℕ) → SoundAt (suc (suc depth)) (dictionary end_table)
end_sound depth = dictionary_sound (suc depth) end_table (refl, tt) (place_sound depth, tt)

error_sound : (depth : ℕ) → SoundAt (suc depth) (dictionary error_table)
error_sound depth = dictionary_sound depth error_table (refl, (refl, tt)) ((λ e good short. short), ((λ e good short. moment_sound depth e.moment good short), tt))

request_apart : HasApart request_table
request_apart =
    (refl, (refl, (refl, (refl, (refl, (refl, (refl, (refl, (refl, (refl, (refl, (refl, tt))))))))))))

request_lines : (depth : ℕ) → AllSound (suc (suc depth)) request_table
request_lines depth = (
  (λ a good short. short),
  (
    (λ a good short. headers_sound depth a.request.fields good short),
    (
      (λ a good short. content_sound (suc (suc depth)) (record { streamed = a.request.streamed; body = a.request.body }) good short),
      (
        (λ a good short. trailers_sound depth a.request.trailers good short),
        (
          (λ a good short. moment_sound (suc (suc depth)) a.start good short),
          (
            (λ a good short. null_sound (suc (suc depth)) moment (moment_sound (suc (suc depth))) a.end good short),
            (
              (λ a good short. short),
              (
                (λ a good short. let h = good.1 in omega arith),
                (
                  (λ a good short. short),
                  (
                    (λ a good short. short),
                    (
                      (λ a good short. short),
                      (
                        (λ a good short. short),
                        tt,
                      ),
                    ),
                  ),
                ),
              ),
            ),
          ),
        ),
      ),
    ),
  ),
)

request_sound : (depth : ℕ) → SoundAt (suc (suc (suc depth))) (dictionary request_table)
request_sound depth = dictionary_sound (suc (suc depth)) request_table request_apart (request_lines depth)

response_apart : HasApart response_table
response_apart = (refl, (refl, (refl, (refl, (refl, (refl, (refl, (refl, tt))))))))

response_lines : (depth : ℕ) → AllSound (suc (suc depth)) response_table
response_lines depth = (
  (λ a good short. short),
  (
    (λ a good short. status_sound (suc (suc depth)) a.response.status good short),
    (
      (λ a good short. short),
      (
        (λ a good short. headers_sound depth a.response.fields good short),
        (
          (λ a good short. content_sound (suc (suc depth)) (record { streamed = a.response.streamed; body = a.response.body }) good short),
          (
            (λ a good short. trailers_sound depth a.response.trailers good short),
            (
              (λ a good short. null_sound (suc (suc depth)) moment (moment_sound (suc (suc depth))) a.start good short),
              (
                (λ a good short. null_sound (suc (suc depth)) moment (moment_sound (suc (suc depth))) a.end good short),
                tt,
              ),
            ),
          ),
        ),
      ),
    ),
  ),
)

response_sound : (depth : ℕ) → SoundAt (suc (suc (suc depth))) (dictionary response_table)
response_sound depth = dictionary_sound (suc (suc depth)) response_table response_apart (response_lines depth)

message_sound : (depth : ℕ) → SoundAt (suc depth) (dictionary message_table)
message_sound depth = dictionary_sound depth message_table (refl, (refl, (refl, (refl, (refl, tt))))) (
  (λ m good short. tt),
  (
    (λ m good short. tt),
    (
      (λ m good short. short),
      (
        (λ m good short. moment_sound depth m.moment good short),
        ((λ m good short. tt), tt),
      ),
    ),
  ),
)

messages_sound : (depth : ℕ) → SoundAt (suc (suc (suc depth))) (dictionary socket_table)
messages_sound depth = dictionary_sound (suc (suc depth)) socket_table (refl, tt)
    ((λ ms good short. each_sound (suc depth) (dictionary message_table) (message_sound depth) ms good short), tt)

second_sound : (depth : ℕ) (websocket : Bool) (ms : List WsRecord) → messages.Good ms
    → length (payload (second_socket.write (record { websocket = websocket; messages = ms }))) < too_many
    → IsSound (second_socket.write (record { websocket = websocket; messages = ms })) (suc (suc (suc depth)))
second_sound depth false ms good short = tt
second_sound depth true ms good short = messages_sound depth ms (good, tt) short

socket_sound : (depth : ℕ) (of_form : Form) → SoundAt (suc (suc (suc depth))) (socket of_form)
socket_sound depth forms.First s good short = tt
socket_sound depth forms.Second s good short = second_sound depth s.websocket s.messages good.1 short

flow_apart : (of_form : Form) → HasApart (flow_table of_form)
flow_apart of_form = (refl, (refl, (refl, (refl, (refl, (refl, (refl, (refl, (refl, (refl, (refl, tt)))))))))))

form_sound : (depth : ℕ) → SoundAt depth form
form_sound depth forms.First good short = omega arith
form_sound depth forms.Second good short = omega arith

flow_lines : (depth : ℕ) (of_form : Form) → AllSound (suc (suc (suc depth))) (flow_table of_form)
flow_lines depth of_form = (
  (λ f good short. form_sound (suc (suc (suc depth))) of_form good short),
  (
    (λ f good short. (short, ascii_is_utf8 (codes "http") refl)),
    (
      (λ f good short. id_sound (suc (suc (suc depth))) f.id good short),
      (
        (λ f good short. null_sound (suc (suc (suc depth))) (dictionary end_table) (end_sound (suc depth)) f.client good short),
        (
          (λ f good short. null_sound (suc (suc (suc depth))) (dictionary end_table) (end_sound (suc depth)) f.server good short),
          (
            (λ f good short. request_sound depth (asked f) good short),
            (
              (λ f good short. null_sound (suc (suc (suc depth))) (dictionary response_table) (response_sound depth) (answered f) good short),
              (
                (λ f good short. null_sound (suc (suc (suc depth))) (dictionary error_table) (error_sound (suc (suc depth))) f.error good short),
                (
                  (λ f good short. replay_sound (suc (suc (suc depth))) f.replayed good short),
                  (
                    (λ f good short. tt),
                    (
                      (λ f good short. socket_sound depth of_form (socket_of f) good short),
                      tt,
                    ),
                  ),
                ),
              ),
            ),
          ),
        ),
      ),
    ),
  ),
)

-- it has a text, so its payload is short
short_enough : (n : ℕ) → ¬ (too_many ≤ n) → n < too_many
short_enough n h = omega arith

-- pairs that are unknown are so in both forms, which have the same keys
strange_to : (of_form : Form) (others : Pairs) → AreUnknown others → AreStrange (flow_table of_form) others
strange_to of_form others strange = unknown_strange others strange

pub flow_sound : (of_form : Form) (f : Flow) (others : Pairs) → IsLoadableBy of_form f → AreOthers others → ¬ (IsTooLong (tree_by of_form f others))
    → IsSound (tree_by of_form f others) most_deep
flow_sound of_form f others loadable strange short =
    dict_sound 63 (flow_table of_form) (flow_lines 60 of_form) f others loadable.good
    (lines_apart (flow_table of_form) f others (flow_apart of_form) (strange_to of_form others strange.unknown) strange.apart)
    (short_enough (length (payload (tree_by of_form f others))) short)
    strange.sound
