-- A flow that goes on: what the calls of its stream do, those of the request do, without what is said to a client.
use Rattle.std.proofs.Common.{◌≡◌, ◌≤◌, ◌<◌, true, ℕ, List, [], ◌∷◌, ◌++◌, map, refl, ap, sym, ◌∙◌, subst, arith, append_assoc}
use Rattle.std.specs.Prelude.{IfOk, Result, Ok, Err}
use Rattle.std.specs.Global.{Box}
use Rattle.std.specs.List.{flat_map}
use Rattle.std.proofs.lemmas.Grind.{flat_map-append}
use Rattle.px_message.specs.declared.request.Request.{Request}
use Rattle.px_message.specs.declared.version.Version.{Version}
use Rattle.px_message.specs.declared.version.Version.TheVariants as versions
use Rattle.px_event.specs.declared.command.Command.{Command}
use Rattle.px_event.specs.declared.event.Event.{Event}
use Rattle.px_event.specs.declared.reply.Reply.{Reply}
use Rattle.px_event.specs.Chain.{Timed, Look, NotYet, Asks, Ends, found, found_with}
use Rattle.px_event.specs.Laws.{owed_here, owed_over}
use Rattle.px_event.specs.Layer.{AsksOnly, asks_in}
use Rattle.px_event.specs.View.{View, seen_of}
use Rattle.px_event.proofs.Seen.{seen_append}
use Rattle.px_event.proofs.Steps.{Takes, onward, past_end, Resumes}
use Rattle.px_read.specs.declared.head.ResponseHead.{ResponseHead as ReadResponse}
use Rattle.px_exchange.specs.declared.terms.Terms.{Terms}
use Rattle.px_exchange.specs.Texts.{interim_command, interim_commands}
use Rattle.px_chain.specs.Chain.{http_chain, sequence, so_far, waits_at}
use Rattle.px_chain.specs.Sights.{Sight, Standing, answers_in, sight_over}
use Rattle.px_chain.specs.Stages.{all_sent, busy, coming_down, connection, given_body, given_head, going_up, idle, next, request_body, response_body, response_head, upgraded}
use Rattle.px_chain.specs.Stages as flows
use Rattle.px_stream.specs.declared.stream.Stream.{Stream}
use Rattle.px_stream.specs.Anywhere.{IsInSequence, ResumesAnywhere, Somewhere, TakesAnywhere}
use Rattle.px_stream.specs.Tells.{KeepsLittle, sequence_left}
use Rattle.px_stream.specs.Tells as streams
use Rattle.px_stream.specs.Stands.{IsAt, awaits, sent_at}
use Rattle.px_resend.specs.declared.child.Child.{Child}
use Rattle.px_resend.specs.declared.child.Child.TheVariants as children
use Rattle.px_resend.specs.Chain.{Stage, asks_head, asks_whole, flows_of, goes_on, over, resend_chain, waiting}
use Rattle.px_resend.specs.Heard.{all_of_servers, of_servers, to_servers}
use Rattle.px_resend.specs.Kept.{awaited_by, keeps_no_body, kept_by, left_by}
use Rattle.px_resend.specs.Laws.{same_unless}
use Rattle.px_resend.specs.Stands.{IsChild, IsSomewhere, IsUnparked, Keeps, KeepsBy}
use Rattle.px_resend.specs.Steps.{Adds, Follows, ResumesChild, TakesChild}
use Rattle.px_resend.proofs.FollowLemmas.{follows_asks, follows_at, follows_left}
use Rattle.px_resend.proofs.HeardLemmas.{all_longer, servers_alike, servers_append, servers_asked}
use Rattle.px_resend.proofs.OwedLemmas.{IsBusy, asked_there, waits_busy}
use Rattle.px_resend.proofs.ApartLemmas.{IsApart, StandsApart, busy_apart, none_behind, none_strays, passed_on, still_unparked, turned_on, unparked_apart}

-- ---- where a flow is kept

-- what was kept is its stream, so its flow goes on
pub record IsKept (terms : Terms) (boxed : Box Stream) (stage : Stage) (prefix : List (Timed Event)) : Type 0 where
  pub place : Standing
  pub is : stage ≡ goes_on place
  pub there : IsInSequence terms 0 boxed.value place (all_of_servers prefix)
  pub unparked : IsUnparked place.stage

same_box : (a b : Box Stream) → children.GoesOn a ≡ children.GoesOn b → a ≡ b
same_box a b is = cc

keeps_going : (terms : Terms) (boxed : Box Stream) (stage : Stage) (prefix : List (Timed Event)) → Keeps terms (children.GoesOn boxed) stage prefix →
    IsKept terms boxed stage prefix
keeps_going terms boxed waiting prefix is = absurd (let no : children.GoesOn boxed ≡ children.Waiting = is.0 in cc)
keeps_going terms boxed (asks_head flow) prefix is = absurd (let no : children.GoesOn boxed ≡ children.AsksHead flow = is in cc)
keeps_going terms boxed (asks_whole flow) prefix is = absurd (let no : children.GoesOn boxed ≡ children.AsksWhole flow = is in cc)
keeps_going terms boxed (goes_on place) prefix is =
    let P : Box Stream → Type 0 = λ b. IsInSequence terms 0 b.value place (all_of_servers prefix) in
    record { place = place; is = refl; there = subst P (sym (same_box boxed is.stream is.is)) is.there; unparked = is.unparked }
keeps_going terms boxed over prefix is = absurd is

kept_by_look : (l : Look Command) (terms : Terms) (boxed : Box Stream) (stage : Stage) (prefix : List (Timed Event)) → KeepsBy l terms (children.GoesOn boxed) stage prefix →
    Keeps terms (children.GoesOn boxed) stage prefix
kept_by_look NotYet terms boxed stage prefix is = is
kept_by_look (Asks ask) terms boxed stage prefix is = is
kept_by_look (Ends owed) terms boxed stage prefix is = absurd (let no : children.GoesOn boxed ≡ children.Over = is in cc)

is_kept : (terms : Terms) (recorded : Request) (boxed : Box Stream) (stage : Stage) (prefix : List (Timed Event)) → IsChild terms recorded (children.GoesOn boxed) stage prefix →
    IsKept terms boxed stage prefix
is_kept terms recorded boxed stage prefix is =
    keeps_going terms boxed stage prefix (kept_by_look ((resend_chain terms recorded).look stage prefix) terms boxed stage prefix is)

-- Where neither direction keeps a body, all that is kept is little.
pub flow_little : (terms : Terms) (recorded : Request) (child : Child) (boxed : Box Stream) (stage : Stage) (prefix : List (Timed Event)) → child ≡ children.GoesOn boxed →
    ((made : Terms) (place : Standing) (over : List (Timed Event)) → IsAt made boxed.value place over → streams.keeps_no_body boxed.value.phase ≡ true → KeepsLittle boxed.value) →
    IsChild terms recorded child stage prefix → keeps_no_body child ≡ true → kept_by child ≤ 133120
flow_little terms recorded child boxed stage prefix same little is keeps =
    let kept = is_kept terms recorded boxed stage prefix (subst (λ c. IsChild terms recorded c stage prefix) same is) in
    subst (λ c. kept_by c ≤ 133120) (sym same) (little terms kept.place (all_of_servers prefix) kept.there.is_at (ap keeps_no_body (sym same) ∙ keeps)).all

-- so its stream is somewhere
pub somewhere : (terms : Terms) (recorded : Request) (boxed : Box Stream) → IsSomewhere terms recorded (children.GoesOn boxed) → Somewhere boxed.value
somewhere terms recorded boxed (stage, prefix, is) =
    let kept = is_kept terms recorded boxed stage prefix is in
    (terms, 0, kept.place, all_of_servers prefix, kept.there)

-- the end was not found there
not_ended : (l : Look Command) (terms : Terms) (boxed : Box Stream) (stage : Stage) (prefix : List (Timed Event)) (owed : List Command) →
    KeepsBy l terms (children.GoesOn boxed) stage prefix → l ≡ Ends owed → ⊥
not_ended NotYet terms boxed stage prefix owed is ends = let no : NotYet ≡ Ends owed = ends in cc
not_ended (Asks ask) terms boxed stage prefix owed is ends = let no : Asks ask ≡ Ends owed = ends in cc
not_ended (Ends other) terms boxed stage prefix owed is ends = let no : children.GoesOn boxed ≡ children.Over = is in cc

-- so what is found is what the flow's chain finds
found_same : (terms : Terms) (recorded : Request) (boxed : Box Stream) (place : Standing) (prefix : List (Timed Event)) → IsChild terms recorded (children.GoesOn boxed) (goes_on place) prefix →
    (resend_chain terms recorded).look (goes_on place) prefix ≡ (flows_of terms recorded).look place (all_of_servers prefix)
found_same terms recorded boxed place prefix is =
    same_unless place.stage (sight_over place (all_of_servers prefix)) ((flows_of terms recorded).look place (all_of_servers prefix))
    (λ owed ends. not_ended ((resend_chain terms recorded).look (goes_on place) prefix) terms boxed (goes_on place) prefix owed is ends)

-- ---- interim responses are for a client, and so is what comes of a response that is streamed

interim_none : (heads : List ReadResponse) → to_servers (map interim_command heads) ≡ []
interim_none [] = refl
interim_none (head ∷ heads) = interim_none heads

interim_by : (version : Version) (request : Request) (heads : List ReadResponse) → request.version ≡ version → to_servers (interim_commands request heads) ≡ []
interim_by versions.Http10 request heads is = rw is refl
interim_by versions.Http11 request heads is = rw is (interim_none heads)

-- nothing of its request is owed while it waits: that was whole
waits_at_none : (terms : Terms) (stage : flows.Stage) (seen : Sight) → sent_at stage ≡ all_sent → to_servers (waits_at terms stage seen) ≡ []
waits_at_none terms (idle at) seen whole = refl
waits_at_none terms (busy at flow (request_body given most)) seen whole = refl
waits_at_none terms (busy at flow (connection how)) seen whole = refl
waits_at_none terms (busy at flow (response_head side all_sent)) seen whole = interim_by flow.request.version flow.request (answers_in flow.request seen).interim refl
waits_at_none terms (busy at flow (response_head side going_up)) seen whole = absurd (let no : going_up ≡ all_sent = whole in cc)
waits_at_none terms (busy at flow (response_body side all_sent most)) seen whole = refl
waits_at_none terms (busy at flow (response_body side going_up most)) seen whole = absurd (let no : going_up ≡ all_sent = whole in cc)
waits_at_none terms (busy at flow (coming_down side all_sent)) seen whole = refl
waits_at_none terms (busy at flow (coming_down side going_up)) seen whole = absurd (let no : going_up ≡ all_sent = whole in cc)
waits_at_none terms (busy at flow (upgraded side)) seen whole = refl
waits_at_none terms (busy at flow given_head) seen whole = refl
waits_at_none terms (busy at flow given_body) seen whole = refl
waits_at_none terms (next at) seen whole = refl
waits_at_none terms flows.over seen whole = refl

-- nor of a parked side
waits_none : (terms : Terms) (stage : flows.Stage) (seen : Sight) → sent_at stage ≡ all_sent → IsApart stage seen.server → to_servers (so_far terms stage seen) ≡ []
waits_none terms stage seen whole apart = ap (λ l. to_servers (l ++ waits_at terms stage seen)) (none_strays stage seen apart) ∙ waits_at_none terms stage seen whole

-- what a place owes to servers is what is found there, where no side is parked
pub owed_there : (terms : Terms) (recorded : Request) (place : Standing) (prefix : List (Timed Event)) → StandsApart place prefix →
    to_servers (owed_here (flows_of terms recorded) place prefix) ≡ to_servers (found ((flows_of terms recorded).look place prefix))
owed_there terms recorded place prefix apart =
    let unparked = still_unparked place prefix apart in
    let waits : List Command = so_far terms place.stage (sight_over place prefix) in
    let here : Look Command = (flows_of terms recorded).look place prefix in
    ap (λ behind. to_servers (waits ++ found_with behind here)) (none_behind place.stage (sight_over place prefix) unparked)
    ∙ (servers_append waits (found here)
    ∙ ap (λ l. l ++ to_servers (found here)) (waits_none terms place.stage (sight_over place prefix) unparked.whole apart.apart))

-- and so where it passes, behind what passing owes
pub owed_passed : (terms : Terms) (recorded : Request) (place : Standing) (prefix : List (Timed Event)) → StandsApart ((flows_of terms recorded).pass place prefix).stage prefix →
    to_servers (owed_over (flows_of terms recorded) place prefix)
    ≡ to_servers ((flows_of terms recorded).pass place prefix).owed ++ to_servers (found ((flows_of terms recorded).look ((flows_of terms recorded).pass place prefix).stage prefix))
owed_passed terms recorded place prefix apart =
    let passed = (flows_of terms recorded).pass place prefix in
    servers_append passed.owed (owed_here (flows_of terms recorded) passed.stage prefix) ∙ ap (λ l. to_servers passed.owed ++ l) (owed_there terms recorded passed.stage prefix apart)

module _ (terms : Terms) (recorded : Request) (boxed : Box Stream) (after : Box Stream) (child : Child) (given second : List Command) (follows : Follows after child second) where
  -- ---- an event

  -- what the two gave, one behind the other
  gave_behind : (view : View) (first found_there owed : List Command) → seen_of view (to_servers given) ≡ seen_of view (first ++ to_servers found_there) →
      seen_of view (to_servers found_there) ++ seen_of view second ≡ seen_of view owed → seen_of view (to_servers given ++ second) ≡ seen_of view (first ++ owed)
  gave_behind view first found_there owed one two =
      seen_append view (to_servers given) second
      ∙ (ap (λ l. l ++ seen_of view second) (one ∙ seen_append view first (to_servers found_there))
      ∙ (append_assoc (seen_of view first) (seen_of view (to_servers found_there)) (seen_of view second)
      ∙ (ap (λ l. seen_of view first ++ l) two ∙ sym (seen_append view first owed))))

  gave_both : (view : View) (so_far_there all first found_there owed : List Command) → to_servers so_far_there ≡ [] → to_servers all ≡ first ++ to_servers found_there →
      seen_of view so_far_there ++ seen_of view given ≡ seen_of view all → seen_of view (to_servers found_there) ++ seen_of view second ≡ seen_of view owed →
      seen_of view (to_servers given ++ second) ≡ seen_of view (first ++ owed)
  gave_both view so_far_there all first found_there owed none is one two =
      let both : seen_of view (so_far_there ++ given) ≡ seen_of view all = seen_append view so_far_there given ∙ one in
      let said : to_servers (so_far_there ++ given) ≡ to_servers given = servers_append so_far_there given ∙ ap (λ l. l ++ to_servers given) none in
      let there : seen_of view (to_servers given) ≡ seen_of view (first ++ to_servers found_there) =
      ap (seen_of view) (sym said) ∙ (servers_alike view (so_far_there ++ given) all both ∙ ap (seen_of view) is) in
      gave_behind view first found_there owed there two

  -- over these events of servers
  goes_to : (moment : ℕ) (event : Event) (place : Standing) (prefix : List (Timed Event)) (longer : List (Timed Event)) →
      longer ≡ all_of_servers (prefix ++ record { moment = moment; value = event } ∷ []) →
      IsChild terms recorded (children.GoesOn boxed) (goes_on place) prefix → IsUnparked place.stage →
      (flows_of terms recorded).look place (all_of_servers prefix) ≡ NotYet →
      IsInSequence terms 0 after.value ((flows_of terms recorded).pass place longer).stage longer →
      ((view : View) → seen_of view ((flows_of terms recorded).so_far place (all_of_servers prefix)) ++ seen_of view given
      ≡ seen_of view (owed_over (flows_of terms recorded) place longer)) →
      Takes (resend_chain terms recorded) (IsChild terms recorded) child moment event (to_servers given ++ second) (goes_on place) prefix
  goes_to moment event place prefix longer same is_child unparked is at gives =
      let e : Timed Event = record { moment = moment; value = event } in
      let chain = flows_of terms recorded in
      let more : List (Timed Event) = all_of_servers (prefix ++ e ∷ []) in
      let P : List (Timed Event) → Type 0 = λ p. IsInSequence terms 0 after.value (chain.pass place p).stage p in
      let on : Standing = (chain.pass place more).stage in
      let there : IsInSequence terms 0 after.value on more = subst P same at in
      let goes : IsBusy place.stage = waits_busy terms place.stage (sight_over place (all_of_servers prefix)) (found_same terms recorded boxed place prefix is_child ∙ is) in
      let still : StandsApart on more = passed_on terms place more (busy_apart place more goes unparked) in
      let next_there = follows_at terms recorded after child second on (prefix ++ e ∷ []) there (still_unparked on more still) follows in
      onward (found_same terms recorded boxed place prefix is_child ∙ is) next_there.there
      (λ view. gave_both view (chain.so_far place (all_of_servers prefix)) (owed_over chain place more) (to_servers (chain.pass place more).owed) (found (chain.look on more))
      (found ((resend_chain terms recorded).look (goes_on on) (prefix ++ e ∷ []))) (waits_none terms place.stage (sight_over place (all_of_servers prefix)) unparked.whole (unparked_apart place.stage _ goes unparked))
      (owed_passed terms recorded place more still) (gives view ∙ ap (λ p. seen_of view (owed_over chain place p)) same) (next_there.gives view))

  takes_there : (moment : ℕ) (event : Event) (place : Standing) (prefix : List (Timed Event)) → IsChild terms recorded (children.GoesOn boxed) (goes_on place) prefix → IsUnparked place.stage →
      Takes (http_chain sequence terms) (IsInSequence terms 0) after.value moment (of_servers event) given place (all_of_servers prefix) →
      Takes (resend_chain terms recorded) (IsChild terms recorded) child moment event (to_servers given ++ second) (goes_on place) prefix
  takes_there moment event place prefix is_child unparked (onward is at gives) =
      goes_to moment event place prefix (all_of_servers prefix ++ record { moment = moment; value = of_servers event } ∷ [])
      (sym (all_longer prefix (record { moment = moment; value = event }))) is_child unparked is at gives
  takes_there moment event place prefix is_child unparked (past_end owed is at gives) =
      absurd (not_ended ((resend_chain terms recorded).look (goes_on place) prefix) terms boxed (goes_on place) prefix owed is_child
      (found_same terms recorded boxed place prefix is_child ∙ is))

  going_takes : (moment : ℕ) (event : Event) →
      ((made : Terms) (ahead : ℕ) (place : Standing) (prefix : List (Timed Event)) → IsInSequence made ahead boxed.value place prefix →
      Takes (http_chain sequence made) (IsInSequence made ahead) after.value moment (of_servers event) given place prefix) →
      TakesChild terms recorded (children.GoesOn boxed) child moment event (to_servers given ++ second)
  going_takes moment event takes stage prefix is =
      let kept = is_kept terms recorded boxed stage prefix is in
      let P : Stage → Type 0 = λ s. IsChild terms recorded (children.GoesOn boxed) s prefix →
      Takes (resend_chain terms recorded) (IsChild terms recorded) child moment event (to_servers given ++ second) s prefix in
      subst P (sym kept.is)
      (λ there. takes_there moment event kept.place prefix there kept.unparked (takes terms 0 kept.place (all_of_servers prefix) kept.there)) is

  -- ---- a reply

  resumes_there : (moment : ℕ) (reply : Reply) (place : Standing) (prefix : List (Timed Event)) → IsChild terms recorded (children.GoesOn boxed) (goes_on place) prefix → IsUnparked place.stage →
      Resumes (http_chain sequence terms) (IsInSequence terms 0) after.value moment reply given place (all_of_servers prefix) →
      Resumes (resend_chain terms recorded) (IsChild terms recorded) child moment reply (to_servers given ++ second) (goes_on place) prefix
  resumes_there moment reply place prefix is_child unparked resumes =
      let answer : Timed Reply = record { moment = moment; value = reply } in
      let chain = flows_of terms recorded in
      let heard : List (Timed Event) = all_of_servers prefix in
      let turned = chain.turn place heard answer in
      let on : Standing = (chain.pass turned.stage heard).stage in
      let seen : Sight = sight_over place heard in
      let asked : (resend_chain terms recorded).look (goes_on place) prefix ≡ Asks resumes.ask = found_same terms recorded boxed place prefix is_child ∙ resumes.asked in
      let goes : IsBusy place.stage = (asked_there terms place.stage seen resumes.ask asked).0 in
      let still : StandsApart on heard = passed_on terms turned.stage heard (turned_on terms place heard answer goes (busy_apart place heard goes unparked)) in
      let next_there = follows_at terms recorded after child second on prefix resumes.place (still_unparked on heard still) follows in
      let passed : List Command = to_servers (chain.pass turned.stage heard).owed in
      let first : List Command = to_servers turned.owed in
      let here : List Command = found (chain.look on heard) in
      let owed : List Command = found ((resend_chain terms recorded).look (goes_on on) prefix) in
      let said : to_servers (turned.owed ++ owed_over chain turned.stage heard) ≡ (first ++ passed) ++ to_servers here =
      servers_append turned.owed (owed_over chain turned.stage heard)
      ∙ (ap (λ l. first ++ l) (owed_passed terms recorded turned.stage heard still) ∙ sym (append_assoc first passed (to_servers here))) in
      record {
        ask = resumes.ask;
        asked = asked;
        place = next_there.there;
        gives = λ view.
            gave_behind view (first ++ passed) here owed
            (servers_alike view given (turned.owed ++ owed_over chain turned.stage heard) (resumes.gives view) ∙ ap (seen_of view) said) (next_there.gives view)
            ∙ ap (seen_of view) (append_assoc first passed owed);
      }

  going_resumes : (moment : ℕ) (reply : Reply) →
      ((made : Terms) (ahead : ℕ) (place : Standing) (prefix : List (Timed Event)) → IsInSequence made ahead boxed.value place prefix →
      Resumes (http_chain sequence made) (IsInSequence made ahead) after.value moment reply given place prefix) →
      ResumesChild terms recorded (children.GoesOn boxed) child moment reply (to_servers given ++ second)
  going_resumes moment reply resumes stage prefix is =
      let kept = is_kept terms recorded boxed stage prefix is in
      let P : Stage → Type 0 = λ s. IsChild terms recorded (children.GoesOn boxed) s prefix →
      Resumes (resend_chain terms recorded) (IsChild terms recorded) child moment reply (to_servers given ++ second) s prefix in
      subst P (sym kept.is)
      (λ there. resumes_there moment reply kept.place prefix there kept.unparked (resumes terms 0 kept.place (all_of_servers prefix) kept.there)) is

-- ---- the calls, whose stream wrote to a list of its own

pub went : (out between longer given second : List Command) → between ≡ out ++ to_servers given → longer ≡ between ++ second → longer ≡ out ++ (to_servers given ++ second)
went out between longer given second passed grown = grown ∙ (ap (λ l. l ++ second) passed ∙ append_assoc out (to_servers given) second)

module _ (terms : Terms) (recorded : Request) (boxed after : Box Stream) (start given out between longer : List Command) (empty : start ≡ []) (passed : between ≡ out ++ to_servers given) where
  pub takes_all : {E : Type 0} (result : Result Child E) (moment : ℕ) (event : Event) (had : Stream) → had ≡ boxed.value →
      TakesAnywhere had after.value moment (of_servers event) start given → IfOk result (λ next. Adds (Follows after next) between longer) →
      IfOk result (λ next. Adds (TakesChild terms recorded (children.GoesOn boxed) next moment event) out longer)
  takes_all (Ok child) moment event had same takes adds =
      let P : Stream → Type 0 = λ s. TakesAnywhere s after.value moment (of_servers event) start given in
      let S : List Command → Type 0 = λ l. TakesAnywhere boxed.value after.value moment (of_servers event) l given in
      let there : TakesAnywhere boxed.value after.value moment (of_servers event) [] given = subst S empty (subst P same takes) in
      let L : List Command → Type 0 = λ l. (made : Terms) (ahead : ℕ) (place : Standing) (prefix : List (Timed Event)) → IsInSequence made ahead boxed.value place prefix →
      Takes (http_chain sequence made) (IsInSequence made ahead) after.value moment (of_servers event) l place prefix in
      record {
        more = to_servers given ++ adds.more;
        grown = went out between longer given adds.more passed adds.grown;
        holds = going_takes terms recorded boxed after child given adds.more adds.holds moment event (subst L (sym there.grown) there.takes);
      }
  takes_all (Err error) moment event had same takes adds = tt

  pub resumes_all : {E : Type 0} (result : Result Child E) (moment : ℕ) (reply : Reply) (had : Stream) → had ≡ boxed.value →
      ResumesAnywhere had after.value moment reply start given → IfOk result (λ next. Adds (Follows after next) between longer) →
      IfOk result (λ next. Adds (ResumesChild terms recorded (children.GoesOn boxed) next moment reply) out longer)
  resumes_all (Ok child) moment reply had same resumes adds =
      let P : Stream → Type 0 = λ s. ResumesAnywhere s after.value moment reply start given in
      let S : List Command → Type 0 = λ l. ResumesAnywhere boxed.value after.value moment reply l given in
      let there : ResumesAnywhere boxed.value after.value moment reply [] given = subst S empty (subst P same resumes) in
      let L : List Command → Type 0 = λ l. (made : Terms) (ahead : ℕ) (place : Standing) (prefix : List (Timed Event)) → IsInSequence made ahead boxed.value place prefix →
      Resumes (http_chain sequence made) (IsInSequence made ahead) after.value moment reply l place prefix in
      record {
        more = to_servers given ++ adds.more;
        grown = went out between longer given adds.more passed adds.grown;
        holds = going_resumes terms recorded boxed after child given adds.more adds.holds moment reply (subst L (sym there.grown) there.resumes);
      }
  resumes_all (Err error) moment reply had same resumes adds = tt

-- what its stream asked is asked, and nothing else
pub asks_all : {E : Type 0} (result : Result Child E) (after : Box Stream) (start given out between longer : List Command) → start ≡ [] → between ≡ out ++ to_servers given →
    AsksOnly (awaits after.value) start given → IfOk result (λ next. Adds (Follows after next) between longer) →
    IfOk result (λ next. AsksOnly (awaited_by next) out longer)
asks_all (Ok child) after start given out between longer empty passed (more, same, asked) adds = (
  to_servers given ++ adds.more,
  went out between longer given adds.more passed adds.grown,
  flat_map-append asks_in (to_servers given) adds.more
      ∙ (ap (λ l. l ++ flat_map asks_in adds.more) (servers_asked given ∙ (ap (flat_map asks_in) (same ∙ ap (λ l. l ++ more) empty) ∙ asked))
      ∙ follows_asks after child adds.more adds.holds),
)
asks_all (Err error) after start given out between longer empty passed asks adds = tt

-- and as many replies may be asked for as its stream says
pub takes_left : {E : Type 0} (result : Result Child E) (boxed after : Box Stream) (had : Stream) (between longer : List Command) → had ≡ boxed.value →
    sequence_left after.value ≤ sequence_left had → IfOk result (λ next. Adds (Follows after next) between longer) →
    IfOk result (λ next. left_by next ≤ left_by (children.GoesOn boxed))
takes_left (Ok child) boxed after had between longer same fewer adds =
    let here = follows_left after child adds.more adds.holds in
    let there : sequence_left had ≡ sequence_left boxed.value = ap (λ s. sequence_left s) same in
    omega arith
takes_left (Err error) boxed after had between longer same fewer adds = tt

pub resumes_left : {E : Type 0} (result : Result Child E) (boxed after : Box Stream) (had : Stream) (between longer : List Command) → had ≡ boxed.value →
    sequence_left after.value < sequence_left had → IfOk result (λ next. Adds (Follows after next) between longer) →
    IfOk result (λ next. left_by next < left_by (children.GoesOn boxed))
resumes_left (Ok child) boxed after had between longer same fewer adds =
    let here = follows_left after child adds.more adds.holds in
    let there : sequence_left had ≡ sequence_left boxed.value = ap (λ s. sequence_left s) same in
    omega arith
resumes_left (Err error) boxed after had between longer same fewer adds = tt
