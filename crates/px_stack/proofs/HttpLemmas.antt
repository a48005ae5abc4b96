-- What HTTP does with an event or a reply, and what follows it, is what the longer chain does there.
use Rattle.std.proofs.Common.{true, ◌≡◌, ℕ, ◌+◌, ◌<◌, ◌≤◌, List, [], ◌∷◌, ◌++◌, refl, ap, sym, ◌∙◌, subst, append_assoc, arith}
use Rattle.std.specs.Global.{Box}
use Rattle.px_event.specs.declared.command.Command.{Command}
use Rattle.px_event.specs.declared.event.Event.{Event}
use Rattle.px_event.specs.declared.reply.Reply.{Reply}
use Rattle.px_event.specs.Chain.{Timed, Look, NotYet, Asks, Ends, Turn}
use Rattle.px_event.specs.Laws.{owed_here, owed_over}
use Rattle.px_event.specs.View.{View, seen_of}
use Rattle.px_event.proofs.Seen.{seen_append}
use Rattle.px_event.proofs.Steps.{Takes, Resumes, onward, past_end}
use Rattle.px_exchange.specs.declared.place.Place.{Place}
use Rattle.px_exchange.specs.declared.terms.Terms.{Terms}
use Rattle.px_exchange.specs.Places.{terms_of}
use Rattle.px_chain.specs.Chain.{http_chain, sequence}
use Rattle.px_chain.specs.Sights.{IsWithin, Standing}
use Rattle.px_chain.proofs.FrontLaws.{now_here, now_more}
use Rattle.px_http.specs.declared.conversation.HttpConv.{HttpConv}
use Rattle.px_stream.specs.Anywhere.{IsInSequence, Somewhere}
use Rattle.px_stream.specs.Stands.{IsAt}
use Rattle.px_stream.specs.Tells.{KeepsLittle, keeps_no_body, sequence_left}
use Rattle.px_stack.specs.declared.child.Child.{Child}
use Rattle.px_stack.specs.declared.child.Child.TheVariants as children
use Rattle.px_stack.specs.Chain.{flows_at, stack_chain, turn_flows, follows_to}
use Rattle.px_stack.specs.Kept.{http_keeps_no_body, kept_by, left_by, tunnel_left}
use Rattle.px_stack.specs.Stages.{Stage, Visitor, asking, connecting, http, over, raw, reaching, socket, undecided}
use Rattle.px_stack.specs.Stands.{InTime, StaysInTime, IsChild, IsInFlows, IsSomewhere, Keeps, KeepsBy, ahead_at}
use Rattle.px_stack.specs.Steps.{Follows, IsPlain, ResumesChild, TakesChild}
use Rattle.px_stack.proofs.LedLemmas.{plain_turn}
use Rattle.px_stack.proofs.TimeLemmas.{in_time_more, in_time_turned}

-- ---- where HTTP is kept

-- what was kept is HTTP, so the stage is HTTP's, and the end was not found
pub record IsKept (conv : ℕ) (client : Visitor) (flows : HttpConv) (stage : Stage) (prefix : List (Timed Event)) : Type 0 where
  pub place : Place
  pub standing : Standing
  pub is : stage ≡ http place standing
  pub there : IsInFlows conv client place flows standing prefix
  pub in_time : InTime standing prefix

same_box : (a b : Box HttpConv) → children.Http a ≡ children.Http b → a ≡ b
same_box a b is = cc

keeps_http : (conv : ℕ) (client : Visitor) (boxed : Box HttpConv) (stage : Stage) (prefix : List (Timed Event)) →
    Keeps conv client (children.Http boxed) stage prefix → IsKept conv client boxed.value stage prefix
keeps_http conv client boxed (http place standing) prefix is =
    let P : Box HttpConv → Type 0 = λ b. IsInFlows conv client place b.value standing prefix in
    record { place = place; standing = standing; is = refl; there = subst P (sym (same_box boxed is.flows is.is)) is.there; in_time = is.in_time }
keeps_http conv client boxed (asking front) prefix is = absurd (let no : children.Http boxed ≡ children.Asking is.layer = is.is in cc)
keeps_http conv client boxed (connecting tunnel) prefix is = absurd (let no : children.Http boxed ≡ children.Connecting is.kept is.closed = is.is in cc)
keeps_http conv client boxed (reaching goal link since) prefix is = absurd (let no : children.Http boxed ≡ children.Reaching is.kept = is.is in cc)
keeps_http conv client boxed (undecided tunnel link since) prefix is = absurd (let no : children.Http boxed ≡ children.Undecided is.kept is.server = is.is in cc)
keeps_http conv client boxed (raw ends) prefix is = absurd (let no : children.Http boxed ≡ children.Raw is.kept = is.is in cc)
keeps_http conv client boxed (socket ends flow frames) prefix is = absurd (let no : children.Http boxed ≡ children.Socket is.layer = is.is in cc)
keeps_http conv client boxed over prefix is = absurd is

kept_by_look : (l : Look Command) (conv : ℕ) (client : Visitor) (boxed : Box HttpConv) (stage : Stage) (prefix : List (Timed Event)) →
    KeepsBy l conv client (children.Http boxed) stage prefix → Keeps conv client (children.Http boxed) stage prefix
kept_by_look NotYet conv client boxed stage prefix is = is
kept_by_look (Asks ask) conv client boxed stage prefix is = is
kept_by_look (Ends owed) conv client boxed stage prefix is = absurd (let no : children.Http boxed ≡ children.Over = is in cc)

pub is_kept : (conv : ℕ) (client : Visitor) (boxed : Box HttpConv) (stage : Stage) (prefix : List (Timed Event)) → IsChild conv client (children.Http boxed) stage prefix →
    IsKept conv client boxed.value stage prefix
is_kept conv client boxed stage prefix is =
    keeps_http conv client boxed stage prefix (kept_by_look ((stack_chain conv client).look stage prefix) conv client boxed stage prefix is)

-- Where neither direction keeps a body, all that is kept is little.
pub http_little : (conv : ℕ) (client : Visitor) (child : Child) (boxed : Box HttpConv) (stage : Stage) (prefix : List (Timed Event)) → child ≡ children.Http boxed →
    ((made : Terms) (place : Standing) (over : List (Timed Event)) → IsAt made boxed.value.stream place over → keeps_no_body boxed.value.stream.phase ≡ true → KeepsLittle boxed.value.stream) →
    IsChild conv client child stage prefix → http_keeps_no_body child ≡ true → kept_by child ≤ 133120
http_little conv client child boxed stage prefix same little is keeps =
    let kept = is_kept conv client boxed stage prefix (subst (λ c. IsChild conv client c stage prefix) same is) in
    subst (λ c. kept_by c ≤ 133120) (sym same) (little (terms_of conv client.address kept.place) kept.standing prefix kept.there.is_at (ap http_keeps_no_body (sym same) ∙ keeps)).all

-- so HTTP is somewhere
pub somewhere : (conv : ℕ) (client : Visitor) (boxed : Box HttpConv) → IsSomewhere conv client (children.Http boxed) → Somewhere boxed.value.stream
somewhere conv client boxed (stage, prefix, is) =
    let kept = is_kept conv client boxed stage prefix is in
    (terms_of conv client.address kept.place, ahead_at kept.place, kept.standing, prefix, kept.there)

-- the end was not found there
not_ended : (l : Look Command) (conv : ℕ) (client : Visitor) (boxed : Box HttpConv) (stage : Stage) (prefix : List (Timed Event)) (owed : List Command) →
    KeepsBy l conv client (children.Http boxed) stage prefix → l ≡ Ends owed → ⊥
not_ended NotYet conv client boxed stage prefix owed is ends = let no : NotYet ≡ Ends owed = ends in cc
not_ended (Asks ask) conv client boxed stage prefix owed is ends = let no : Asks ask ≡ Ends owed = ends in cc
not_ended (Ends other) conv client boxed stage prefix owed is ends = let no : children.Http boxed ≡ children.Over = is in cc

-- ---- the client closed since the open side was connected, over one event more and behind a reply

later : (conv : ℕ) (client : Visitor) (place : Place) (standing : Standing) (prefix : List (Timed Event)) (e : Timed Event) → IsWithin standing prefix → InTime standing prefix →
    StaysInTime (terms_of conv client.address place) ((flows_at conv client place).pass standing (prefix ++ e ∷ [])).stage (prefix ++ e ∷ [])
later conv client place standing prefix e within in_time = λ no_end. in_time_more standing prefix e within.opened in_time

turned_on : (conv : ℕ) (client : Visitor) (place : Place) (standing : Standing) (prefix : List (Timed Event)) (answer : Timed Reply) → InTime standing prefix →
    StaysInTime (terms_of conv client.address place) ((flows_at conv client place).pass ((flows_at conv client place).turn standing prefix answer).stage prefix).stage prefix
turned_on conv client place standing prefix answer in_time = in_time_turned (terms_of conv client.address place) standing prefix answer in_time

-- ---- an event

module _ (conv : ℕ) (client : Visitor) (boxed : Box HttpConv) (after : HttpConv) (child : Child) (moment : ℕ) (first second : List Command)
    (follows : Follows client.key moment after child second) where
  -- what the two gave, one behind the other
  behind_both : (view : View) (passing all last owed : List Command) → seen_of view all ++ seen_of view second ≡ seen_of view (last ++ owed) →
      seen_of view (passing ++ all) ++ seen_of view second ≡ seen_of view ((passing ++ last) ++ owed)
  behind_both view passing all last owed two =
      ap (λ l. l ++ seen_of view second) (seen_append view passing all)
      ∙ (append_assoc (seen_of view passing) (seen_of view all) (seen_of view second)
      ∙ (ap (λ l. seen_of view passing ++ l) two
      ∙ (sym (seen_append view passing (last ++ owed)) ∙ ap (seen_of view) (sym (append_assoc passing last owed)))))

  gave_both : (view : View) (so_far passing all last owed : List Command) →
      seen_of view so_far ++ seen_of view first ≡ seen_of view (passing ++ all) → seen_of view all ++ seen_of view second ≡ seen_of view (last ++ owed) →
      seen_of view so_far ++ seen_of view (first ++ second) ≡ seen_of view ((passing ++ last) ++ owed)
  gave_both view so_far passing all last owed one two =
      ap (λ l. seen_of view so_far ++ l) (seen_append view first second)
      ∙ (sym (append_assoc (seen_of view so_far) (seen_of view first) (seen_of view second))
      ∙ (ap (λ l. l ++ seen_of view second) one ∙ behind_both view passing all last owed two))

  takes_there : (event : Event) (place : Place) (standing : Standing) (prefix : List (Timed Event)) →
      IsWithin standing prefix → InTime standing prefix →
      ((owed : List Command) → (stack_chain conv client).look (http place standing) prefix ≡ Ends owed → ⊥) →
      Takes (flows_at conv client place) (IsInSequence (terms_of conv client.address place) (ahead_at place)) after.stream moment event first standing prefix →
      Takes (stack_chain conv client) (IsChild conv client) child moment event (first ++ second) (http place standing) prefix
  takes_there event place standing prefix within in_time goes (onward is at gives) =
      let e : Timed Event = record { moment = moment; value = event } in
      let longer : List (Timed Event) = prefix ++ e ∷ [] in
      let on = (flows_at conv client place).pass standing longer in
      let to : Turn Stage Command = follows_to conv client place on.stage longer in
      let next = follows conv client place on.stage longer refl (sym (now_more standing.since prefix e within.since)) at (later conv client place standing prefix e within in_time) in
      onward is next.there
      (λ view. gave_both view ((flows_at conv client place).so_far standing prefix) on.owed (owed_here (flows_at conv client place) on.stage longer) to.owed
      (owed_here (stack_chain conv client) to.stage longer) (gives view) (next.gives view))
  takes_there event place standing prefix within in_time goes (past_end owed is at gives) =
      absurd (goes owed is)

  pub http_takes : (event : Event) →
      ((made : Terms) (ahead : ℕ) (place : Standing) (prefix : List (Timed Event)) → IsInSequence made ahead boxed.value.stream place prefix →
      Takes (http_chain sequence made) (IsInSequence made ahead) after.stream moment event first place prefix) →
      TakesChild conv client (children.Http boxed) child moment event (first ++ second)
  http_takes event takes stage prefix is =
      let kept = is_kept conv client boxed stage prefix is in
      let P : Stage → Type 0 = λ s. IsChild conv client (children.Http boxed) s prefix → Takes (stack_chain conv client) (IsChild conv client) child moment event (first ++ second) s prefix in
      subst P (sym kept.is)
      (λ there. takes_there event kept.place kept.standing prefix kept.there.is_at.within kept.in_time
      (λ owed ends. not_ended ((stack_chain conv client).look (http kept.place kept.standing) prefix) conv client boxed (http kept.place kept.standing) prefix owed there ends)
      (takes (terms_of conv client.address kept.place) (ahead_at kept.place) kept.standing prefix kept.there)) is

  -- ---- a reply

  -- where the chain goes as the flows alone do
  abbrev Plain : Place → Standing → List (Timed Event) → Timed Reply → Type 0
  Plain place standing prefix answer = (stack_chain conv client).turn (http place standing) prefix answer ≡ turn_flows conv client place standing prefix answer

  resumes_there : (reply : Reply) (place : Place) (standing : Standing) (prefix : List (Timed Event)) → InTime standing prefix →
      Plain place standing prefix (record { moment = moment; value = reply }) →
      Resumes (flows_at conv client place) (IsInSequence (terms_of conv client.address place) (ahead_at place)) after.stream moment reply first standing prefix →
      Resumes (stack_chain conv client) (IsChild conv client) child moment reply (first ++ second) (http place standing) prefix
  resumes_there reply place standing prefix in_time plain resumes =
      let answer : Timed Reply = record { moment = moment; value = reply } in
      let turned = (flows_at conv client place).turn standing prefix answer in
      let on = (flows_at conv client place).pass turned.stage prefix in
      let all : List Command = owed_here (flows_at conv client place) on.stage prefix in
      let to : Turn Stage Command = follows_to conv client place on.stage prefix in
      let next = follows conv client place on.stage prefix refl (sym (now_here moment prefix)) resumes.place (turned_on conv client place standing prefix answer in_time) in
      let P : Turn Stage Command → Type 0 = λ t. IsChild conv client child ((stack_chain conv client).pass t.stage prefix).stage prefix in
      record {
        ask = resumes.ask;
        asked = resumes.asked;
        place = subst P (sym plain) next.there;
        gives = λ view.
            seen_append view first second
            ∙ (ap (λ l. l ++ seen_of view second) (resumes.gives view ∙ seen_append view turned.owed (on.owed ++ all))
            ∙ (append_assoc (seen_of view turned.owed) (seen_of view (on.owed ++ all)) (seen_of view second)
            ∙ (ap (λ l. seen_of view turned.owed ++ l) (behind_both view on.owed all to.owed (owed_here (stack_chain conv client) to.stage prefix) (next.gives view))
            ∙ (sym (seen_append view turned.owed _)
            ∙ ap (λ t. seen_of view (t.owed ++ owed_over (stack_chain conv client) t.stage prefix)) (sym plain)))));
      }

  pub http_resumes : (reply : Reply) → IsPlain boxed.value reply →
      ((made : Terms) (ahead : ℕ) (place : Standing) (prefix : List (Timed Event)) → IsInSequence made ahead boxed.value.stream place prefix →
      Resumes (http_chain sequence made) (IsInSequence made ahead) after.stream moment reply first place prefix) →
      ResumesChild conv client (children.Http boxed) child moment reply (first ++ second)
  http_resumes reply plain resumes stage prefix is =
      let kept = is_kept conv client boxed stage prefix is in
      let P : Stage → Type 0 = λ s. Resumes (stack_chain conv client) (IsChild conv client) child moment reply (first ++ second) s prefix in
      subst P (sym kept.is)
      (resumes_there reply kept.place kept.standing prefix kept.in_time
      (plain_turn conv client kept.place boxed.value kept.standing prefix moment reply kept.there plain)
      (resumes (terms_of conv client.address kept.place) (ahead_at kept.place) kept.standing prefix kept.there))

-- ---- how many replies may still be asked for

module _ (key : List ℕ) (boxed : Box HttpConv) (after : HttpConv) (child : Child) (moment : ℕ) (first second : List Command) (follows : Follows key moment after child second) where
  -- whatever the key: the bound does not hang on it
  abbrev keyed : Visitor → Visitor
  keyed client = record { address = client.address; key = key }

  places_left : (conv : ℕ) (client : Visitor) (place : Place) (standing : Standing) (prefix : List (Timed Event)) → IsInFlows conv client place boxed.value standing prefix →
      tunnel_left boxed.value.stream.terms.place ≡ tunnel_left place
  places_left conv client place standing prefix at = ap (λ t. tunnel_left t.place) at.is_at.is_in.terms

  takes_left_by : (conv : ℕ) (client : Visitor) (event : Event) (place : Place) (standing : Standing) (prefix : List (Timed Event)) →
      IsWithin standing prefix → InTime standing prefix →
      ((owed : List Command) → (stack_chain conv client).look (http place standing) prefix ≡ Ends owed → ⊥) → Takes (flows_at conv client place) (IsInSequence (terms_of conv client.address place) (ahead_at place)) after.stream moment event first standing prefix →
      left_by child ≤ sequence_left after.stream + tunnel_left place
  takes_left_by conv client event place standing prefix within in_time goes (onward is at gives) =
      let e : Timed Event = record { moment = moment; value = event } in
      (follows conv (keyed client) place ((flows_at conv client place).pass standing (prefix ++ e ∷ [])).stage (prefix ++ e ∷ []) refl
      (sym (now_more standing.since prefix e within.since)) at (later conv (keyed client) place standing prefix e within in_time)).left
  takes_left_by conv client event place standing prefix within in_time goes (past_end owed is at gives) =
      absurd (goes owed is)

  pub takes_left : (conv : ℕ) (client : Visitor) (event : Event) → IsSomewhere conv client (children.Http boxed) →
      ((made : Terms) (ahead : ℕ) (place : Standing) (prefix : List (Timed Event)) → IsInSequence made ahead boxed.value.stream place prefix →
      Takes (http_chain sequence made) (IsInSequence made ahead) after.stream moment event first place prefix) →
      sequence_left after.stream ≤ sequence_left boxed.value.stream → left_by child ≤ left_by (children.Http boxed)
  takes_left conv client event (stage, prefix, is) takes fewer =
      let kept = is_kept conv client boxed stage prefix is in
      let P : Stage → Type 0 = λ s. IsChild conv client (children.Http boxed) s prefix in
      let here = takes_left_by conv client event kept.place kept.standing prefix kept.there.is_at.within kept.in_time
      (λ owed ends. not_ended ((stack_chain conv client).look (http kept.place kept.standing) prefix) conv client boxed (http kept.place kept.standing) prefix owed (subst P kept.is is) ends)
      (takes (terms_of conv client.address kept.place) (ahead_at kept.place) kept.standing prefix kept.there) in
      let same = places_left conv client kept.place kept.standing prefix kept.there in
      omega arith

  pub resumes_left : (conv : ℕ) (client : Visitor) (reply : Reply) → IsSomewhere conv client (children.Http boxed) →
      ((made : Terms) (ahead : ℕ) (place : Standing) (prefix : List (Timed Event)) → IsInSequence made ahead boxed.value.stream place prefix →
      Resumes (http_chain sequence made) (IsInSequence made ahead) after.stream moment reply first place prefix) →
      sequence_left after.stream < sequence_left boxed.value.stream → left_by child < left_by (children.Http boxed)
  resumes_left conv client reply (stage, prefix, is) resumes fewer =
      let kept = is_kept conv client boxed stage prefix is in
      let resumed = resumes (terms_of conv client.address kept.place) (ahead_at kept.place) kept.standing prefix kept.there in
      let flows = flows_at conv client kept.place in
      let here = (follows conv (keyed client) kept.place (flows.pass (flows.turn kept.standing prefix (record { moment = moment; value = reply })).stage prefix).stage prefix refl (sym (now_here moment prefix)) resumed.place
      (turned_on conv (keyed client) kept.place kept.standing prefix (record { moment = moment; value = reply }) kept.in_time)).left in
      let same = places_left conv client kept.place kept.standing prefix kept.there in
      omega arith
