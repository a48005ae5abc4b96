-- Where no reply allows a size, what is due is what is due where nothing is streamed.
use Rattle.std.proofs.Common.{◌≡◌, ℕ, Bool, true, false, List, [], ◌∷◌, ◌++◌, Option, Some, None, refl, ap, ◌∙◌}
use Rattle.px_message.specs.declared.flow.Flow.{Flow}
use Rattle.px_message.specs.declared.response.Response.{Response}
use Rattle.px_event.specs.declared.command.Command.{Command}
use Rattle.px_event.specs.declared.event.Event.{Event}
use Rattle.px_event.specs.declared.reply.Reply.{Reply}
use Rattle.px_event.specs.declared.reply.Reply.TheVariants as reply
use Rattle.px_event.specs.Chain.{Asks, Chain, Ends, Look, NotYet, Reached, Stamp, Stamped, Stop, Timed, Turn, at_its_step, due, never, owed_at, reach, reach_by, stop_at, walk, walk_by, worked_off, found_with}
use Rattle.px_read.specs.Items.{Item, missing, part, complete, bad_head, bad_body}
use Rattle.px_read.specs.declared.head.RequestHead.{RequestHead as ReadRequest}
use Rattle.px_read.specs.declared.head.ResponseHead.{ResponseHead as ReadResponse}
use Rattle.px_exchange.specs.declared.asked.Judged.{Judged}
use Rattle.px_exchange.specs.declared.asked.Judged.TheVariants.{Refused, Accepted, Connects}
use Rattle.px_exchange.specs.declared.ending.Used.{Used}
use Rattle.px_exchange.specs.declared.terms.Terms.{Terms}
use Rattle.px_exchange.specs.Finds.{look_head, look_judged, or_leaves}
use Rattle.px_exchange.specs.Flows.{response_of, with_answer}
use Rattle.px_exchange.specs.Replies.{taken_at_request_head, taken_at_response_head}
use Rattle.px_exchange.specs.Requests.{expects, flow_of, judged}
use Rattle.px_chain.specs.Chain.{begin_up, behind, come_down, end_up, http_chain, leaving, look, pass, sight_begun, sight_ended, so_far, stands, turn, turn_answer, turn_answer_head, turn_head, turn_judged, turn_taken_answer, turn_taken_head, used_by_begin, used_by_coming, used_by_end, used_by_pass}
use Rattle.px_chain.specs.Coming.{allowed_by, told_with}
use Rattle.px_chain.specs.Going.{allowed_up_by}
use Rattle.px_chain.specs.Keeping.{unspoilt_at}
use Rattle.px_chain.specs.Sights.{Sight, Standing, UsedBytes, answers_in, request_in, server_in, server_parked, sight_over}
use Rattle.px_chain.specs.Stages.{At, Sent, Stage, busy, coming_down, connection, given_body, given_head, idle, next, over, request_body, response_body, response_head, upgraded}
use Rattle.px_chain.proofs.ChainLaws.{behind_turn}
use Rattle.px_cuts.specs.Cuts.{AllowNoSize, AllowsNoSize, all_kept}
use Rattle.px_cuts.proofs.PassLaws.{passes_begun}

-- what a reply allows that tells no size
up_none : (streams : Bool) (value : Reply) → AllowsNoSize value → allowed_up_by streams value ≡ allowed_up_by false value
up_none true (reply.Go flow most) none = none
up_none true (reply.Respond response) none = refl
up_none true reply.Kill none = refl
up_none true reply.Discard none = refl
up_none true reply.Dialled none = refl
up_none true (reply.Refused fault) none = refl
up_none false value none = refl

told_none : (given : Option Response) → told_with given None ≡ None
told_none None = refl
told_none (Some response) = refl

down_none : (streams : Bool) (value : Reply) → AllowsNoSize value → allowed_by streams value ≡ allowed_by false value
down_none true (reply.Go flow most) none = ap (λ m. told_with flow.response m) none ∙ told_none flow.response
down_none true (reply.Respond response) none = refl
down_none true reply.Kill none = refl
down_none true reply.Discard none = refl
down_none true reply.Dialled none = refl
down_none true (reply.Refused fault) none = refl
down_none false value none = refl

module _ (onward : Stage → Stage) (made : Terms) where
  abbrev kept : Terms
  kept = all_kept made

  -- ---- a stage

  begin_same : (stage : Stage) (seen : Sight) → begin_up made stage seen ≡ begin_up kept stage seen
  begin_same (idle at) seen = refl
  begin_same (busy at flow doing) seen = refl
  begin_same (next at) seen = refl
  begin_same over seen = refl

  end_same : (stage : Stage) (seen : Sight) → end_up made stage seen ≡ end_up kept stage seen
  end_same (idle at) seen = refl
  end_same (busy at flow doing) seen = refl
  end_same (next at) seen = refl
  end_same over seen = refl

  come_same : (stage : Stage) (seen : Sight) → come_down made stage seen ≡ come_down kept stage seen
  come_same (idle at) seen = refl
  come_same (busy at flow doing) seen = refl
  come_same (next at) seen = refl
  come_same over seen = refl

  begun_same : (to : Stage) (seen : Sight) → passes_begun made to seen ≡ passes_begun kept to seen
  begun_same to seen =
      ap (λ u. behind_turn u (come_down made u.stage (sight_ended to seen))) (end_same to seen)
      ∙ ap (λ d. behind_turn (end_up kept to seen) d) (come_same (end_up kept to seen).stage (sight_ended to seen))

  pass_same : (stage : Stage) (seen : Sight) → pass made stage seen ≡ pass kept stage seen
  pass_same stage seen =
      begun_same (begin_up made stage seen) (sight_begun stage seen) ∙ ap (λ to. passes_begun kept to (sight_begun stage seen)) (begin_same stage seen)

  used_same : (stage : Stage) (seen : Sight) (used : UsedBytes) → used_by_pass made stage seen used ≡ used_by_pass kept stage seen used
  used_same stage seen used =
      let left : Sight = sight_begun stage seen in
      let had : UsedBytes = used_by_begin stage seen used in
      ap (λ (t : Turn Stage Command). used_by_coming t.stage (sight_ended (begin_up made stage seen) left) (used_by_end (begin_up made stage seen) left had)) (end_same (begin_up made stage seen) left)
      ∙ ap (λ to. used_by_coming (end_up kept to left).stage (sight_ended to left) (used_by_end to left had)) (begin_same stage seen)

  judged_same : (index : ℕ) (head : ReadRequest) (j : Judged) (now : ℕ) (used : Used) (closed : Bool) → look_judged made index head j now used closed ≡ look_judged kept index head j now used closed
  judged_same index head (Refused fault) now used closed = refl
  judged_same index head (Accepted request) now used closed = refl
  judged_same index head (Connects address) now used closed = refl

  head_same : (index : ℕ) (item : Item ReadRequest) (now : ℕ) (used : Used) (closed : Bool) → look_head made index item now used closed ≡ look_head kept index item now used closed
  head_same index missing now used closed = refl
  head_same index (part head body) now used closed = judged_same index head (judged made.place head) now used closed
  head_same index (complete head body trailers size) now used closed = judged_same index head (judged made.place head) now used closed
  head_same index (bad_head fault) now used closed = refl
  head_same index (bad_body fault head body) now used closed = judged_same index head (judged made.place head) now used closed

  look_same : (stage : Stage) (seen : Sight) → look made stage seen ≡ look kept stage seen
  look_same (idle at) seen =
      let there : At = unspoilt_at at seen in
      ap (λ l. or_leaves seen.closed (leaving (idle there) seen) l) (head_same at.flow (request_in seen) seen.now (server_parked there.parked seen) seen.closed)
  look_same (busy at flow doing) seen = refl
  look_same (next at) seen = refl
  look_same over seen = refl

  so_far_same : (stage : Stage) (seen : Sight) → so_far made stage seen ≡ so_far kept stage seen
  so_far_same (idle at) seen = refl
  so_far_same (busy at flow doing) seen = refl
  so_far_same (next at) seen = refl
  so_far_same over seen = refl

  -- ---- a reply

  module _ (seen : Sight) (answer : Timed Reply) (none : AllowsNoSize answer.value) where
    asked_same : (at : At) (head : ReadRequest) (j : Judged) → turn_judged made at head j seen answer ≡ turn_judged kept at head j seen answer
    asked_same at head (Refused fault) = refl
    asked_same at head (Connects address) = refl
    asked_same at head (Accepted request) =
        ap (λ m. turn_taken_head at (flow_of made at.flow request seen.now) (expects head) m (taken_at_request_head request answer.value) answer.moment seen) (up_none made.streams answer.value none)

    idle_same : (at : At) (item : Item ReadRequest) → turn_head made at item seen answer ≡ turn_head kept at item seen answer
    idle_same at missing = refl
    idle_same at (part head body) = asked_same at head (judged made.place head)
    idle_same at (complete head body trailers used) = asked_same at head (judged made.place head)
    idle_same at (bad_head fault) = refl
    idle_same at (bad_body fault head body) = asked_same at head (judged made.place head)

    answer_head_same : (at : At) (flow : Flow) (own : ℕ) (how : Sent) (head : ReadResponse) → turn_answer_head made at flow own how head seen answer ≡ turn_answer_head kept at flow own how head seen answer
    answer_head_same at flow own how head =
        ap (λ m. turn_taken_answer at (with_answer flow (response_of head) seen.now) own how m (taken_at_response_head (response_of head) answer.value) answer.moment (server_in own seen) seen.closed)
        (down_none made.streams answer.value none)

    answer_same : (at : At) (flow : Flow) (own : ℕ) (how : Sent) (item : Item ReadResponse) → turn_answer made at flow own how item seen answer ≡ turn_answer kept at flow own how item seen answer
    answer_same at flow own how missing = refl
    answer_same at flow own how (part head body) = answer_head_same at flow own how head
    answer_same at flow own how (complete head body trailers size) = answer_head_same at flow own how head
    answer_same at flow own how (bad_head fault) = refl
    answer_same at flow own how (bad_body fault head body) = answer_head_same at flow own how head

    turn_same : (stage : Stage) → turn made stage seen answer ≡ turn kept stage seen answer
    turn_same (idle at) = idle_same (unspoilt_at at seen) (request_in seen)
    turn_same (busy at flow (request_body given most)) = refl
    turn_same (busy at flow (connection how)) = refl
    turn_same (busy at flow (response_head own how)) = answer_same (unspoilt_at at seen) flow own how (answers_in flow.request seen).final
    turn_same (busy at flow (response_body own how most)) = refl
    turn_same (busy at flow (coming_down own how)) = refl
    turn_same (busy at flow (upgraded own)) = refl
    turn_same (busy at flow given_head) = refl
    turn_same (busy at flow given_body) = refl
    turn_same (next at) = refl
    turn_same over = refl

  -- ---- the walk

  abbrev streams_on : Chain Standing Event Reply Command
  streams_on = http_chain onward made

  abbrev keeps_all : Chain Standing Event Reply Command
  keeps_all = http_chain onward kept

  abbrev turned_to : Standing → Turn Stage Command → UsedBytes → Turn Standing Command
  turned_to place turned used = record { owed = turned.owed; stage = record place { stage = onward turned.stage; used = used } }

  passes_same : (s : Standing) (f : List (Timed Event)) → streams_on.pass s f ≡ keeps_all.pass s f
  passes_same s f =
      let seen : Sight = sight_over s f in
      ap (λ t. turned_to s t (used_by_pass made s.stage seen s.used)) (pass_same s.stage seen)
      ∙ ap (λ u. turned_to s (pass kept s.stage seen) u) (used_same s.stage seen s.used)

  turns_same : (s : Standing) (f : List (Timed Event)) (answer : Timed Reply) → AllowsNoSize answer.value → streams_on.turn s f answer ≡ keeps_all.turn s f answer
  turns_same s f answer none =
      ap (λ (t : Turn Stage Command). (let on : Turn Standing Command = record { owed = t.owed; stage = stands made s answer.moment f (onward t.stage) } in on))
      (turn_same (sight_over s f) answer none s.stage)

  abbrev here_at : Stamp → List Command → List (Timed Event) → List (Stamped Event) → Turn Standing Command → Reached Standing Event Command
  here_at last before f es on = record { before = before ++ on.owed; stage = on.stage; prefix = f; rest = es }

  reach_same : (last : Stamp) (before : List Command) (s : Standing) (f : List (Timed Event)) (es : List (Stamped Event)) → reach streams_on last before s f es ≡ reach keeps_all last before s f es
  reach_same last before s f [] = ap (here_at last before f []) (passes_same s f)
  reach_same last before s f (e ∷ es) =
      let on : Turn Standing Command = keeps_all.pass s f in
      let longer : List (Timed Event) = f ++ worked_off last e ∷ [] in
      ap (λ (t : Turn Standing Command). reach_by (streams_on.look t.stage f) (reach streams_on last (before ++ t.owed) t.stage longer es) (here_at last before f (e ∷ es) t)) (passes_same s f)
      ∙ (ap (λ l. reach_by l (reach streams_on last (before ++ on.owed) on.stage longer es) (here_at last before f (e ∷ es) on)) (look_same on.stage.stage (sight_over on.stage f))
      ∙ ap (λ r. reach_by (keeps_all.look on.stage f) r (here_at last before f (e ∷ es) on)) (reach_same last (before ++ on.owed) on.stage longer es))

  walk_by_same : (l : Look Command) (on other : Command → Stop Standing Event Reply Command) (stop : Stop Standing Event Reply Command) → ((ask : Command) → on ask ≡ other ask) →
      walk_by l on stop ≡ walk_by l other stop
  walk_by_same NotYet on other stop each = refl
  walk_by_same (Asks ask) on other stop each = each ask
  walk_by_same (Ends owed) on other stop each = refl

  -- where a reply leads from there
  abbrev asked_on : Chain Standing Event Reply Command → List (Stamped Reply) → Stamped Reply → Reached Standing Event Command → Command → Stop Standing Event Reply Command
  asked_on chain rs r here ask =
      let on = chain.turn here.stage here.prefix (at_its_step r) in
      walk chain rs r.stamp (here.before ++ (chain.so_far here.stage here.prefix ++ ask ∷ (chain.behind here.stage here.prefix ++ on.owed))) on.stage here.prefix here.rest

  walk_same : (rs : List (Stamped Reply)) → AllowNoSize rs → (last : Stamp) (before : List Command) (s : Standing) (f : List (Timed Event)) (es : List (Stamped Event)) →
      walk streams_on rs last before s f es ≡ walk keeps_all rs last before s f es
  walk_same [] none last before s f es = ap (λ here. stop_at last here []) (reach_same last before s f es)
  walk_same (r ∷ rs) none last before s f es =
      let here : Reached Standing Event Command = reach keeps_all last before s f es in
      let on : Turn Standing Command = keeps_all.turn here.stage here.prefix (at_its_step r) in
      ap (λ (h : Reached Standing Event Command). walk_by (streams_on.look h.stage h.prefix) (asked_on streams_on rs r h) (stop_at last h (r ∷ rs))) (reach_same last before s f es)
      ∙ (ap (λ l. walk_by l (asked_on streams_on rs r here) (stop_at last here (r ∷ rs))) (look_same here.stage.stage (sight_over here.stage here.prefix))
      ∙ walk_by_same (keeps_all.look here.stage here.prefix) (asked_on streams_on rs r here) (asked_on keeps_all rs r here) (stop_at last here (r ∷ rs))
      (λ ask.
      let parts : List Command = streams_on.behind here.stage here.prefix in
      ap (λ (t : Turn Standing Command). walk streams_on rs r.stamp (here.before ++ (streams_on.so_far here.stage here.prefix ++ ask ∷ (parts ++ t.owed))) t.stage here.prefix here.rest)
      (turns_same here.stage here.prefix (at_its_step r) none.0)
      ∙ (ap (λ l. walk streams_on rs r.stamp (here.before ++ (l ++ ask ∷ (parts ++ on.owed))) on.stage here.prefix here.rest) (so_far_same here.stage.stage (sight_over here.stage here.prefix))
      ∙ walk_same rs none.1 r.stamp (here.before ++ (keeps_all.so_far here.stage here.prefix ++ ask ∷ (parts ++ on.owed))) on.stage here.prefix here.rest)))

  stop_same : (w : Stop Standing Event Reply Command) → owed_at streams_on w ≡ owed_at keeps_all w
  stop_same w =
      let seen : Sight = sight_over w.stage w.prefix in
      ap (λ l. w.before ++ (l ++ found_with (behind w.stage.stage seen) (look made w.stage.stage seen))) (so_far_same w.stage.stage seen)
      ∙ ap (λ l. w.before ++ (so_far kept w.stage.stage seen ++ found_with (behind w.stage.stage seen) l)) (look_same w.stage.stage seen)

  -- Where no reply allows a size, what is due is what is due where nothing is streamed.
  pub kept_owe : (start : Standing) (events : List (Stamped Event)) (replies : List (Stamped Reply)) → AllowNoSize replies →
      due streams_on start events replies ≡ due keeps_all start events replies
  kept_owe start events replies none =
      ap (owed_at streams_on) (walk_same replies none never [] start [] events) ∙ stop_same (walk keeps_all replies never [] start [] events)
