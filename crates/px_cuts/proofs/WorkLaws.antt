-- Where nothing is found behind passing, a piece is worked off: what is owed then, passing before it and behind it, is what is owed where
-- the piece was heard before the stage passed.
use Rattle.std.proofs.Common.{◌≡◌, ℕ, Bool, true, false, List, [], ◌++◌, Option, Some, None, refl, ap, sym, ◌∙◌, subst}
use Rattle.std.specs.Prelude.{◌&&◌, ⊤}
use Rattle.std.proofs.lemmas.List.{append-nil}
use Rattle.px_message.specs.declared.flow.Flow.{Flow}
use Rattle.px_message.specs.declared.response.Response.{Response}
use Rattle.px_event.specs.declared.command.Command.{Command}
use Rattle.px_event.specs.declared.event.Event.{Event}
use Rattle.px_event.specs.declared.event.Event.TheVariants as events
use Rattle.px_event.specs.declared.side.Side.{Side}
use Rattle.px_event.specs.declared.side.Side.TheVariants.{Client, Server}
use Rattle.px_event.specs.Chain.{Look, NotYet, Turn}
use Rattle.px_event.specs.Laws.{IsFound}
use Rattle.px_event.specs.Sides.{piece_of}
use Rattle.px_read.specs.Items.{Item, missing, part, complete, bad_head, bad_body, answer_list, request_item}
use Rattle.px_read.specs.declared.head.RequestHead.{RequestHead as ReadRequest}
use Rattle.px_exchange.specs.Flows.{with_body}
use Rattle.px_exchange.specs.Places.{is_same_address, server_for}
use Rattle.px_exchange.specs.Requests.{is_head}
use Rattle.px_exchange.specs.declared.terms.Terms.{Terms}
use Rattle.px_chain.specs.Chain.{IsOnward, alone, behind_flow, come_down, goes_to, goes_up_by, is_alone, is_sequence, keeps_came, look, parked_for, pass, pass_came, pass_given, pass_going, pass_kept, past_came, past_gone, past_kept, reached, sequence, side_if, sight_come, sight_past}
use Rattle.px_chain.specs.Coming.{Came, came_in, goes_on_behind, streaming, streams_in}
use Rattle.px_chain.specs.Keeping.{is_silent, parks, unspoilt_by}
use Rattle.px_chain.specs.Going.{goes_up, is_sent, sending_on, sends_going, whole_by, whole_in, with_whole}
use Rattle.px_chain.specs.Sights.{Sight, left_by, request_in}
use Rattle.px_chain.specs.Stages.{At, Doing, Parked, Sent, Stage, all_sent, busy, coming_down, connection, given_body, given_head, going_up, idle, next, over, request_body, response_body, response_head, side_of, side_parked, unparked, upgraded}
use Rattle.px_chain.proofs.GoingLaws.{goes_up_stays}
use Rattle.px_chain.proofs.ChainLaws.{behind_turn, leaves_by, passes_by}
use Rattle.px_cuts.specs.Alike.{MayBeFollowed, NoneBegins}
use Rattle.px_cuts.specs.Shown.{hears}
use Rattle.px_cuts.proofs.BesideLaws.{RequestSame, decided_request, not_both, whole_decided}
use Rattle.px_cuts.proofs.FollowLaws.{OwnAside, body_aside, coming_aside, rest_same, rests_aside}
use Rattle.px_cuts.proofs.ComingLaws.{streams_on}
use Rattle.px_cuts.proofs.PassLaws.{ComesWith, came_comes, came_ended, given_goes, given_left, kept_comes, left_begun, passes_begun, past_heard, tells_ended, text_heard}
use Rattle.px_cuts.proofs.PlaceLaws.{busy_on, make, now_at, over_on, sight_on}
use Rattle.px_cuts.proofs.ItemLaws.{ReadersStay}

-- what a stage may be worked off with
pub data MayWork (side : Side) (stage : Stage) (seen : Sight) : Type 0 where
  may_follow : MayBeFollowed side stage seen → MayWork side stage seen
  begins_not : NoneBegins stage seen → MayWork side stage seen

module _ (terms : Terms) (readers : ReadersStay) (side : Side) (bytes : List ℕ) where
  abbrev piece : Event
  piece = events.Piece side bytes

  -- This was owed where it passed to the first stage, which hears the piece in what was left and passes once more: so is all that is
  -- owed where it passes with the piece, and so it leads on, and leaves.
  pub record Works (onward : Stage → Stage) (owed : List Command) (first : Stage) (left : Sight) (whole : Turn Stage Command) (past : Sight) : Type 0 where
    pub owes : owed ++ (pass terms first (hears (side_of first) left piece)).owed ≡ whole.owed
    pub leads : onward (pass terms first (hears (side_of first) left piece)).stage ≡ onward whole.stage
    pub leaves : sight_on onward terms first (hears (side_of first) left piece) ≡ past

  -- what is left of a sight, by the stage that is led to
  abbrev left_at : Stage → Sight → Sight
  left_at first v = record v { now = now_at first v.now }

  -- at a stage that sees this
  abbrev pub WorksAt : (Stage → Stage) → Stage → Sight → Type 0
  WorksAt onward stage v =
      Works onward (pass terms stage v).owed (onward (pass terms stage v).stage) (sight_on onward terms stage v)
      (pass terms stage (hears (side_of stage) v piece)) (sight_on onward terms stage (hears (side_of stage) v piece))

  module _ (onward : Stage → Stage) (goes : IsOnward onward) where
    -- a stage that passes to itself, or to another one that passes so with the piece
    works_to : (at : At) (flow : Flow) (doing : Doing) (v : Sight) (whole : Turn Stage Command) (past : Sight) →
        pass terms (busy at flow doing) (hears (side_of (busy at flow doing)) v piece) ≡ whole → sight_on onward terms (busy at flow doing) (hears (side_of (busy at flow doing)) v piece) ≡ past →
        Works onward [] (onward (busy at flow doing)) (left_at (onward (busy at flow doing)) v) whole past
    works_to at flow doing v whole past passes leaves =
        let Q : Stage → Type 0 = λ first. Works onward [] first (left_at first v) whole past in
        let there : Q (busy at flow doing) = record { owes = ap (λ turned. turned.owed) passes; leads = ap (λ turned. onward turned.stage) passes; leaves = leaves } in
        subst Q (sym (busy_on onward goes at flow doing)) there

    works_stay : (at : At) (flow : Flow) (doing : Doing) (v : Sight) →
        Works onward [] (onward (busy at flow doing)) (left_at (onward (busy at flow doing)) v) (pass terms (busy at flow doing) (hears (side_of (busy at flow doing)) v piece))
        (sight_on onward terms (busy at flow doing) (hears (side_of (busy at flow doing)) v piece))
    works_stay at flow doing v = works_to at flow doing v _ _ refl refl

  -- stages without a flow
  idle_works : (onward : Stage → Stage) → IsOnward onward → (at : At) (v : Sight) → WorksAt onward (idle at) v
  idle_works onward (is_alone is) at v = subst (λ f. WorksAt f (idle at) v) (sym is) (record { owes = refl; leads = refl; leaves = refl })
  idle_works onward (is_sequence is) at v = subst (λ f. WorksAt f (idle at) v) (sym is) (record { owes = refl; leads = refl; leaves = refl })

  next_works : (onward : Stage → Stage) → IsOnward onward → (at : At) (v : Sight) → WorksAt onward (next at) v
  next_works onward (is_alone is) at v = subst (λ f. WorksAt f (next at) v) (sym is) (record { owes = refl; leads = refl; leaves = refl })
  next_works onward (is_sequence is) at v = subst (λ f. WorksAt f (next at) v) (sym is) (record { owes = refl; leads = refl; leaves = refl })

  over_works : (onward : Stage → Stage) → IsOnward onward → (v : Sight) → WorksAt onward over v
  over_works onward (is_alone is) v = subst (λ f. WorksAt f over v) (sym is) (record { owes = refl; leads = refl; leaves = refl })
  over_works onward (is_sequence is) v = subst (λ f. WorksAt f over v) (sym is) (record { owes = refl; leads = refl; leaves = refl })

  -- a flow that is finished passes no more
  abbrev Finished : (Stage → Stage) → Bool → At → List Command → Sight → Type 0
  Finished onward goes_on at owed v =
      let to : Stage = behind_flow goes_on at in
      Works onward owed (onward to) (left_at (onward to) v) (record { owed = owed; stage = to }) (left_at (onward to) (hears (side_of to) v piece))

  finished_alone : (goes_on : Bool) (at : At) (owed : List Command) (v : Sight) → Finished alone goes_on at owed v
  finished_alone true at owed v = record { owes = append-nil owed; leads = refl; leaves = refl }
  finished_alone false at owed v = record { owes = append-nil owed; leads = refl; leaves = refl }

  finished_sequence : (goes_on : Bool) (at : At) (owed : List Command) (v : Sight) → Finished sequence goes_on at owed v
  finished_sequence true at owed v = record { owes = append-nil owed; leads = refl; leaves = refl }
  finished_sequence false at owed v = record { owes = append-nil owed; leads = refl; leaves = refl }

  finished : (onward : Stage → Stage) → IsOnward onward → (goes_on : Bool) (at : At) (owed : List Command) (v : Sight) → Finished onward goes_on at owed v
  finished onward (is_alone is) goes_on at owed v = subst (λ f. Finished f goes_on at owed v) (sym is) (finished_alone goes_on at owed v)
  finished onward (is_sequence is) goes_on at owed v = subst (λ f. Finished f goes_on at owed v) (sym is) (finished_sequence goes_on at owed v)

  module _ (onward : Stage → Stage) (goes : IsOnward onward) where
    -- something is found at an end
    end_found : (past : Sight) → look terms (onward over) past ≡ NotYet → ⊥
    end_found past nothing =
        let P : Stage → Type 0 = λ s. look terms s past ≡ NotYet in
        let R : Look Command → Type 0 = IsFound in
        subst R (subst P (over_on onward goes) nothing) tt

    -- ---- a response that came down whole: where it comes down with the piece, it comes as without it
    module _ (at : At) (flow : Flow) (own : ℕ) (v : Sight) (came : Came) (stage : Stage) where
      abbrev turned : Turn Stage Command
      turned = pass_came terms.place at flow own all_sent v (Some came)

      abbrev past : Sight
      past = past_came (Some came) v

      whole_works : come_down terms stage v ≡ turned → sight_come stage v ≡ past → ComesWith terms readers side bytes (Some own) stage v →
          let more = hears (Some own) v piece in
          Works onward turned.owed (onward turned.stage) (left_at (onward turned.stage) past) (behind_turn (goes_to stage) (come_down terms stage more))
          (record (sight_come stage more) { now = now_at (onward (come_down terms stage more).stage) v.now })
      whole_works is left comes =
          let more : Sight = hears (Some own) v piece in
          let Q : Turn Stage Command → Sight → Type 0 = λ whole rest.
          Works onward turned.owed (onward turned.stage) (left_at (onward turned.stage) past) (behind_turn (goes_to stage) whole) (record rest { now = now_at (onward whole.stage) v.now }) in
          let goes_on : Bool = is_sent all_sent && goes_on_behind at.flow flow.request came in
          let there : Q turned (hears (side_of turned.stage) past piece) = finished onward goes goes_on (parks (keeps_came at flow all_sent v came) terms.place at flow.request own) turned.owed past in
          let same : come_down terms stage more ≡ turned = comes.stays ∙ is in
          let rest : sight_come stage more ≡ hears (side_of turned.stage) past piece =
          comes.leaves
          ∙ (ap (λ t. hears (side_of t.stage) (sight_come stage v) piece) is
          ∙ ap (λ l. hears (side_of turned.stage) l piece) left) in
          subst (λ whole. Q whole (sight_come stage more)) (sym same) (subst (λ l. Q turned l) (sym rest) there)

    -- ---- a response that comes down

    -- one that is streamed from here on: with the piece it is streamed as well
    streams_with : (flow : Flow) (most : Option ℕ) (own : ℕ) (client server : List ℕ) (shut : Bool) (told now : ℕ) → streams_in flow most (make client false server shut told now) ≡ true →
        streams_in flow most (hears (Some own) (make client false server shut told now) piece) ≡ true
    streams_with flow most own client server true told now is = is
    streams_with flow most own client server false told now is = streams_on flow.response flow.request most server (piece_of (Server own) piece) is

    module _ (at : At) (own : ℕ) (client server : List ℕ) (shut : Bool) (told now : ℕ) where
      abbrev seen : Sight
      seen = make client false server shut told now

      abbrev heard : Sight
      heard = hears (Some own) seen piece

      -- where its request was sent, or is not whole
      abbrev DownAt : Turn Stage Command → Sight → Turn Stage Command → Sight → Type 0
      DownAt on past whole left =
          Works onward on.owed (onward on.stage) (record past { now = now_at (onward on.stage) now }) whole (record left { now = now_at (onward whole.stage) now })

      -- behind a response that came whole the piece may follow
      abbrev OwnFollowed : Flow → Option Came → Type 0
      OwnFollowed flow None = ⊤
      OwnFollowed flow (Some came) = OwnAside side bytes flow.request own server shut

      -- with all sent
      came_all : (flow : Flow) (came : Option Came) → came_in flow seen ≡ came → OwnFollowed flow came →
          DownAt (pass_came terms.place at flow own all_sent seen came) (past_came came seen) (pass terms (busy at flow (coming_down own all_sent)) heard) (sight_past terms (busy at flow (coming_down own all_sent)) heard)
      came_all flow None is aside = works_stay onward goes at flow (coming_down own all_sent) seen
      came_all flow (Some came) is aside =
          let stage : Stage = busy at flow (coming_down own all_sent) in
          whole_works at flow own seen came stage (ap (λ c. pass_came terms.place at flow own all_sent seen c) is) (ap (λ c. past_came c seen) is)
          (came_comes terms readers side bytes at own client server shut told now all_sent flow (λ other at_it. aside) tt
          (tells_ended terms readers side bytes flow.request own server shut (came_ended flow.response (answer_list (is_head flow.request.method) shut server).final came is)))

      -- so it comes down as one of which that was told
      begun_same : (size : Option ℕ) (how : Sent) (flow : Flow) (most : Option ℕ) → streams_in flow most heard ≡ true →
          passes_by size terms at (streaming flow) (coming_down own how) heard ≡ passes_by size terms at flow (response_body own how most) heard
      begun_same size all_sent flow most on =
          sym (ap (λ b. behind_turn (goes_to (busy at flow (response_body own all_sent most))) (pass_kept b terms.place at flow own all_sent most heard)) on)
      begun_same None going_up flow most on =
          sym (ap (λ b. behind_turn (goes_to (busy at flow (response_body own going_up most))) (pass_kept b terms.place at flow own going_up most heard)) on)
      begun_same (Some size) going_up flow most on =
          let whole : Flow = with_whole flow now in
          sym (ap (λ b. behind_turn (record { owed = sends_going terms.place flow own heard; stage = busy at whole (response_body own all_sent most) })
          (pass_kept b terms.place at whole own all_sent most (past_gone (Some own) heard))) on)

      begun_left : (size : Option ℕ) (how : Sent) (flow : Flow) (most : Option ℕ) → streams_in flow most heard ≡ true →
          leaves_by size terms at (streaming flow) (coming_down own how) heard ≡ leaves_by size terms at flow (response_body own how most) heard
      begun_left size all_sent flow most on = sym (ap (λ b. past_kept b (came_in (streaming flow) heard) heard) on)
      begun_left None going_up flow most on = sym (ap (λ b. past_kept b (came_in (streaming flow) heard) heard) on)
      begun_left (Some size) going_up flow most on =
          let whole : Flow = with_whole flow now in
          sym (ap (λ b. past_kept b (came_in (streaming whole) (past_gone (Some own) heard)) (past_gone (Some own) heard)) on)

      -- the first stage passes as the one before it does
      begun_works : (how : Sent) (flow : Flow) (most : Option ℕ) → streams_in flow most heard ≡ true →
          pass terms (busy at (streaming flow) (coming_down own how)) heard ≡ pass terms (busy at flow (response_body own how most)) heard →
          sight_past terms (busy at (streaming flow) (coming_down own how)) heard ≡ sight_past terms (busy at flow (response_body own how most)) heard →
          DownAt (goes_to (busy at (streaming flow) (coming_down own how))) seen (pass terms (busy at flow (response_body own how most)) heard) (sight_past terms (busy at flow (response_body own how most)) heard)
      begun_works how flow most on passes leaves =
          works_to onward goes at (streaming flow) (coming_down own how) seen _ _ passes
          (ap (λ l. (let there : Sight = record l { now = now_at (onward (pass terms (busy at (streaming flow) (coming_down own how)) heard).stage) now } in there)) leaves
          ∙ ap (λ t. (let there : Sight = record (sight_past terms (busy at flow (response_body own how most)) heard) { now = now_at (onward t.stage) now } in there)) passes)

      kept_all_by : (flow : Flow) (most : Option ℕ) (came : Option Came) → OwnAside side bytes flow.request own server shut → streams_in flow most seen ≡ true → came_in (streaming flow) seen ≡ came →
          DownAt (pass_came terms.place at (streaming flow) own all_sent seen came) (past_came came seen)
          (pass terms (busy at flow (response_body own all_sent most)) heard) (sight_past terms (busy at flow (response_body own all_sent most)) heard)
      kept_all_by flow most None aside streams is =
          let on = streams_with flow most own client server shut told now streams in
          begun_works all_sent flow most on (begun_same None all_sent flow most on) (begun_left None all_sent flow most on)
      kept_all_by flow most (Some came) aside streams is =
          let stage : Stage = busy at flow (response_body own all_sent most) in
          whole_works at (streaming flow) own seen came stage
          (ap (λ b. pass_kept b terms.place at flow own all_sent most seen) streams ∙ ap (λ c. pass_came terms.place at (streaming flow) own all_sent seen c) is)
          (ap (λ b. past_kept b (came_in (streaming flow) seen) seen) streams ∙ ap (λ c. past_came c seen) is)
          (kept_comes terms readers side bytes at own client server shut told now all_sent flow most aside tt
          (tells_ended terms readers side bytes flow.request own server shut (came_ended (streaming flow).response (answer_list (is_head flow.request.method) shut server).final came is)))

      kept_all : (flow : Flow) (most : Option ℕ) (streams : Bool) → OwnAside side bytes flow.request own server shut → streams_in flow most seen ≡ streams →
          DownAt (pass_kept streams terms.place at flow own all_sent most seen) (past_kept streams (came_in (streaming flow) seen) seen)
          (pass terms (busy at flow (response_body own all_sent most)) heard) (sight_past terms (busy at flow (response_body own all_sent most)) heard)
      kept_all flow most true aside is = kept_all_by flow most (came_in (streaming flow) seen) aside is refl
      kept_all flow most false aside is = works_stay onward goes at flow (response_body own all_sent most) seen

      -- while it goes up and is not whole
      came_none : (flow : Flow) (came : Option Came) →
          look terms (onward (pass_came terms.place at flow own going_up seen came).stage) (record (past_came came seen) { now = now_at (onward (pass_came terms.place at flow own going_up seen came).stage) now }) ≡ NotYet →
          DownAt (pass_came terms.place at flow own going_up seen came) (past_came came seen) (pass terms (busy at flow (coming_down own going_up)) heard) (sight_past terms (busy at flow (coming_down own going_up)) heard)
      came_none flow None nothing = works_stay onward goes at flow (coming_down own going_up) seen
      came_none flow (Some came) nothing = absurd (end_found _ nothing)

      kept_none_by : (flow : Flow) (most : Option ℕ) (came : Option Came) → streams_in flow most seen ≡ true →
          look terms (onward (pass_came terms.place at (streaming flow) own going_up seen came).stage)
          (record (past_came came seen) { now = now_at (onward (pass_came terms.place at (streaming flow) own going_up seen came).stage) now }) ≡ NotYet →
          DownAt (pass_came terms.place at (streaming flow) own going_up seen came) (past_came came seen)
          (pass terms (busy at flow (response_body own going_up most)) heard) (sight_past terms (busy at flow (response_body own going_up most)) heard)
      kept_none_by flow most None streams nothing =
          let on = streams_with flow most own client server shut told now streams in
          begun_works going_up flow most on (begun_same (whole_in heard) going_up flow most on) (begun_left (whole_in heard) going_up flow most on)
      kept_none_by flow most (Some came) streams nothing = absurd (end_found _ nothing)

      kept_none : (flow : Flow) (most : Option ℕ) (streams : Bool) → streams_in flow most seen ≡ streams →
          look terms (onward (pass_kept streams terms.place at flow own going_up most seen).stage)
          (record (past_kept streams (came_in (streaming flow) seen) seen) { now = now_at (onward (pass_kept streams terms.place at flow own going_up most seen).stage) now }) ≡ NotYet →
          DownAt (pass_kept streams terms.place at flow own going_up most seen) (past_kept streams (came_in (streaming flow) seen) seen)
          (pass terms (busy at flow (response_body own going_up most)) heard) (sight_past terms (busy at flow (response_body own going_up most)) heard)
      kept_none flow most true is nothing = kept_none_by flow most (came_in (streaming flow) seen) is nothing
      kept_none flow most false is nothing = works_stay onward goes at flow (response_body own going_up most) seen

    -- ---- a request that goes up

    module _ (at : At) (own : ℕ) (client server : List ℕ) (shut : Bool) (told now : ℕ) where
      abbrev before : Sight
      before = make client false server shut told now

      abbrev behind : Sight
      behind = hears (Some own) before piece

      abbrev UpAt : Flow → Doing → Option ℕ → Option ℕ → Type 0
      UpAt flow doing size later =
          Works onward (passes_by size terms at flow doing before).owed (onward (passes_by size terms at flow doing before).stage)
          (record (leaves_by size terms at flow doing before) { now = now_at (onward (passes_by size terms at flow doing before).stage) now })
          (passes_by later terms at flow doing behind) (record (leaves_by later terms at flow doing behind) { now = now_at (onward (passes_by later terms at flow doing behind).stage) now })

      -- where it is whole, all else is as where it was sent
      gone_works : (flow : Flow) (to : Stage) → RequestSame terms.place flow client (piece_of Client piece) →
          let left = past_gone (Some own) before in
          let more = hears (Some own) left piece in
          Works onward (come_down terms to left).owed (onward (come_down terms to left).stage) (record (sight_come to left) { now = now_at (onward (come_down terms to left).stage) now })
          (behind_turn (goes_to to) (come_down terms to more)) (record (sight_come to more) { now = now_at (onward (come_down terms to more).stage) now }) →
          Works onward (sends_going terms.place flow own before ++ (come_down terms to left).owed) (onward (come_down terms to left).stage)
          (record (sight_come to left) { now = now_at (onward (come_down terms to left).stage) now })
          (behind_turn (record { owed = sends_going terms.place flow own behind; stage = to }) (come_down terms to (past_gone (Some own) behind)))
          (record (sight_come to (past_gone (Some own) behind)) { now = now_at (onward (come_down terms to (past_gone (Some own) behind)).stage) now })
      gone_works flow to same works =
          let left : Sight = past_gone (Some own) before in
          let more : Sight = hears (Some own) left piece in
          let G : List Command → Sight → Type 0 = λ owed p.
          Works onward (sends_going terms.place flow own before ++ (come_down terms to left).owed) (onward (come_down terms to left).stage)
          (record (sight_come to left) { now = now_at (onward (come_down terms to left).stage) now })
          (behind_turn (record { owed = owed; stage = to }) (come_down terms to p)) (record (sight_come to p) { now = now_at (onward (come_down terms to p).stage) now }) in
          let there : G (sends_going terms.place flow own before) more =
          record { owes = ap (λ l. sends_going terms.place flow own before ++ l) works.owes; leads = works.leads; leaves = works.leaves } in
          subst (λ owed. G owed (past_gone (Some own) behind)) (sym (text_heard terms readers side bytes at flow own client server shut told now same))
          (subst (λ p. G (sends_going terms.place flow own before) p) (sym (past_heard terms readers side bytes at flow own client server shut told now same)) there)

      whole_same : (flow : Flow) (size : ℕ) → whole_in before ≡ Some size → RequestSame terms.place flow client (piece_of Client piece)
      whole_same flow size is = decided_request terms.place flow client (piece_of Client piece) (whole_decided (request_item client) size is)

      -- it is whole with the piece too
      whole_on : (flow : Flow) (doing : Doing) (size : ℕ) → whole_in before ≡ Some size → UpAt flow doing (Some size) (Some size) → UpAt flow doing (Some size) (whole_in behind)
      whole_on flow doing size is works = subst (λ l. UpAt flow doing (Some size) l) (sym (ap (λ i. whole_by i) (whole_same flow size is).item ∙ is)) works

      abbrev to_of : Flow → Doing → Stage
      to_of flow doing = busy at (with_whole flow now) doing

      whole_aside : (flow : Flow) (came : Option Came) → came_in flow before ≡ came → ((came : Came) → came_in flow before ≡ Some came → OwnAside side bytes flow.request own server shut) →
          OwnFollowed at own client server shut told now flow came
      whole_aside flow None is aside = tt
      whole_aside flow (Some came) is aside = aside came is

      head_up : (flow : Flow) (size : Option ℕ) → whole_in before ≡ size → UpAt flow (response_head own going_up) size (whole_in behind)
      head_up flow None is = works_stay onward goes at flow (response_head own going_up) before
      head_up flow (Some size) is =
          whole_on flow (response_head own going_up) size is
          (gone_works flow (to_of flow (response_head own all_sent)) (whole_same flow size is) (works_stay onward goes at (with_whole flow now) (response_head own all_sent) (past_gone (Some own) before)))

      body_up : (flow : Flow) (most : Option ℕ) (size : Option ℕ) → OwnAside side bytes flow.request own server shut → whole_in before ≡ size →
          look terms (onward (passes_by size terms at flow (response_body own going_up most) before).stage)
          (record (leaves_by size terms at flow (response_body own going_up most) before) { now = now_at (onward (passes_by size terms at flow (response_body own going_up most) before).stage) now }) ≡ NotYet →
          UpAt flow (response_body own going_up most) size (whole_in behind)
      body_up flow most None aside is nothing = kept_none at own client server shut told now flow most (streams_in flow most before) refl nothing
      body_up flow most (Some size) aside is nothing =
          let whole : Flow = with_whole flow now in
          let left : Sight = past_gone (Some own) before in
          whole_on flow (response_body own going_up most) size is
          (gone_works flow (to_of flow (response_body own all_sent most)) (whole_same flow size is)
          (kept_all at own (left_by (request_item client) client) server shut told now whole most (streams_in whole most left) aside refl))

      coming_up : (flow : Flow) (size : Option ℕ) → ((came : Came) → came_in flow before ≡ Some came → OwnAside side bytes flow.request own server shut) → whole_in before ≡ size →
          look terms (onward (passes_by size terms at flow (coming_down own going_up) before).stage)
          (record (leaves_by size terms at flow (coming_down own going_up) before) { now = now_at (onward (passes_by size terms at flow (coming_down own going_up) before).stage) now }) ≡ NotYet →
          UpAt flow (coming_down own going_up) size (whole_in behind)
      coming_up flow None aside is nothing = came_none at own client server shut told now flow (came_in flow before) nothing
      coming_up flow (Some size) aside is nothing =
          let whole : Flow = with_whole flow now in
          let left : Sight = past_gone (Some own) before in
          whole_on flow (coming_down own going_up) size is
          (gone_works flow (to_of flow (coming_down own all_sent)) (whole_same flow size is)
          (came_all at own (left_by (request_item client) client) server shut told now whole (came_in whole left) refl (whole_aside flow (came_in whole left) refl aside)))

    -- ---- a request that may begin to go up

    module _ (at : At) (flow : Flow) (most : Option ℕ) (client server : List ℕ) (shut : Bool) (told now : ℕ) where
      abbrev v : Sight
      v = make client false server shut told now

      abbrev kept_stage : Stage
      kept_stage = busy at flow (request_body None most)

      abbrev KeptAt : Stage → Type 0
      KeptAt to =
          Works onward (passes_begun terms to v).owed (onward (passes_begun terms to v).stage) (record (left_begun terms to v) { now = now_at (onward (passes_begun terms to v).stage) v.now })
          (pass terms kept_stage (hears (side_of kept_stage) v piece)) (sight_on onward terms kept_stage (hears (side_of kept_stage) v piece))

      abbrev NothingAt : Stage → Type 0
      NothingAt to = look terms (onward (passes_begun terms to v).stage) (record (left_begun terms to v) { now = now_at (onward (passes_begun terms to v).stage) v.now }) ≡ NotYet

      -- a dial is found
      dials_found : NothingAt (goes_up_by None terms.place at (sending_on flow)) → ⊥
      dials_found nothing =
          let P : Stage → Type 0 = λ s. look terms s (record v { now = now_at s v.now }) ≡ NotYet in
          let R : Look Command → Type 0 = IsFound in
          subst R (subst P (busy_on onward goes at (sending_on flow) (connection going_up)) nothing) tt

      -- with the piece it begins to go up as without it, and to the same side
      abbrev up_of : Option ℕ → Stage
      up_of to = goes_up_by to terms.place at (sending_on flow)

      abbrev WorksTo : Stage → Sight → Type 0
      WorksTo to w =
          Works onward (passes_begun terms to v).owed (onward (passes_begun terms to v).stage) (record (left_begun terms to v) { now = now_at (onward (passes_begun terms to v).stage) v.now })
          (passes_begun terms to w) (record (left_begun terms to w) { now = now_at (onward (passes_begun terms to w).stage) v.now })

      works_to_side : (there : Bool) (own : ℕ) → NothingAt (up_of (side_if there own)) → WorksTo (up_of (side_if there own)) (hears (Some own) v piece)
      works_to_side true own nothing =
          head_up (unparked at) own client server shut told now (reached terms.place (sending_on flow)) (whole_in v) refl
      works_to_side false own nothing = absurd (dials_found nothing)

      works_parked : (parked : Option Parked) → NothingAt (up_of (parked_for terms.place flow.request parked)) →
          WorksTo (up_of (parked_for terms.place flow.request parked)) (hears (side_parked parked) v piece)
      works_parked None nothing = absurd (dials_found nothing)
      works_parked (Some parked) nothing = works_to_side (is_same_address parked.address (server_for terms.place flow.request)) parked.server nothing

      works_unspoilt : (silent : Bool) → NothingAt (up_of (parked_for terms.place flow.request (unspoilt_by silent at.parked))) →
          WorksTo (up_of (parked_for terms.place flow.request (unspoilt_by silent at.parked))) (hears (side_parked at.parked) v piece)
      works_unspoilt true nothing = works_parked at.parked nothing
      works_unspoilt false nothing = absurd (dials_found nothing)

      abbrev heard_kept : Sight
      heard_kept = hears (side_parked at.parked) v piece

      -- by whether it goes up, and to where
      abbrev WorksBy : Bool → Stage → Type 0
      WorksBy up to =
          let from : Stage = pass_going true terms.place at flow most v in
          Works onward (passes_begun terms from v).owed (onward (passes_begun terms from v).stage) (record (left_begun terms from v) { now = now_at (onward (passes_begun terms from v).stage) v.now })
          (passes_begun terms to heard_kept) (record (left_begun terms to heard_kept) { now = now_at (onward (passes_begun terms to heard_kept).stage) v.now })

      kept_works : (up : Bool) → goes_up most v ≡ up → MayWork side kept_stage v → NothingAt (pass_going up terms.place at flow most v) → KeptAt (pass_going up terms.place at flow most v)
      kept_works true is (may_follow follows) nothing =
          let aside = rests_aside side bytes kept_stage at.parked server shut client told now refl refl follows in
          let there : WorksBy true (pass_going true terms.place at flow most v) = works_unspoilt (is_silent server shut) nothing in
          let on : goes_up most heard_kept ≡ true = goes_up_stays most v heard_kept (piece_of Client piece, refl) is in
          let to : pass_going true terms.place at flow most heard_kept ≡ pass_going true terms.place at flow most v =
          ap (λ b. goes_up_by (parked_for terms.place flow.request (unspoilt_by b at.parked)) terms.place at (sending_on flow)) (rest_same side bytes at.parked server shut aside).silent in
          subst (λ b. WorksBy b (pass_going b terms.place at flow most heard_kept)) (sym on) (subst (λ s. WorksBy true s) (sym to) there)
      kept_works true is (begins_not none) nothing = absurd (not_both (goes_up most v) none is)
      kept_works false is work nothing = works_stay onward goes at flow (request_body None most) v

    -- ---- where a response is given

    module _ (at : At) (flow : Flow) (response : Response) (most : Option ℕ) (v : Sight) where
      abbrev given_stage : Stage
      given_stage = busy at flow (request_body (Some response) most)

      abbrev given_to : Item ReadRequest → Stage
      given_to item = pass_given at flow response most item v.now

      abbrev GivenAt : Stage → Sight → Type 0
      GivenAt to left = Works onward [] (onward to) (record left { now = now_at (onward to) v.now })
          (pass terms given_stage (hears (side_of given_stage) v piece)) (sight_on onward terms given_stage (hears (side_of given_stage) v piece))

      given_stays : GivenAt given_stage v
      given_stays = works_stay onward goes at flow (request_body (Some response) most) v

      given_by : (item : Item ReadRequest) → look terms (onward (given_to item)) (record v { client = left_by item v.client; now = now_at (onward (given_to item)) v.now }) ≡ NotYet →
          GivenAt (given_to item) (record v { client = left_by item v.client })
      given_by missing nothing = given_stays
      given_by (part head body) nothing = given_stays
      given_by (complete head body trailers used) nothing =
          let other : Flow = record (with_body flow body.content trailers v.now) { response = Some response } in
          let past : Sight = record v { client = left_by (complete head body trailers used) v.client } in
          let P : Stage → Type 0 = λ s. look terms s (record past { now = now_at s v.now }) ≡ NotYet in
          let R : Look Command → Type 0 = IsFound in
          absurd (subst R (subst P (busy_on onward goes at other given_head) nothing) tt)
      given_by (bad_head fault) nothing = given_stays
      given_by (bad_body fault head body) nothing = given_stays

      given_works : look terms (onward (pass terms given_stage v).stage) (sight_on onward terms given_stage v) ≡ NotYet → WorksAt onward given_stage v
      given_works nothing =
          let item = request_in v in
          let left : Sight = record v { client = left_by item v.client } in
          let goes_so = given_goes terms readers side bytes onward goes at flow response most item v.now left in
          let left_so = given_left terms readers side bytes onward goes at flow response most item v.now left in
          let N : Turn Stage Command → Sight → Type 0 = λ t x. look terms (onward t.stage) (record x { now = now_at (onward t.stage) v.now }) ≡ NotYet in
          let W : Turn Stage Command → Sight → Type 0 = λ t x. Works onward t.owed (onward t.stage) (record x { now = now_at (onward t.stage) v.now })
          (pass terms given_stage (hears (side_of given_stage) v piece)) (sight_on onward terms given_stage (hears (side_of given_stage) v piece)) in
          let there : N (goes_to (given_to item)) left =
          subst (λ x. N (goes_to (given_to item)) x) left_so (subst (λ t. N t (left_begun terms (given_to item) left)) goes_so nothing) in
          let works : W (goes_to (given_to item)) left = given_by item there in
          subst (λ t. W t (left_begun terms (given_to item) left)) (sym goes_so) (subst (λ x. W (goes_to (given_to item)) x) (sym left_so) works)

    body_of : (at : At) (flow : Flow) (own : ℕ) (how : Sent) (most : Option ℕ) (client server : List ℕ) (shut : Bool) (told now : ℕ) →
        MayWork side (busy at flow (response_body own how most)) (make client false server shut told now) → OwnAside side bytes flow.request own server shut
    body_of at flow own how most client server shut told now (may_follow follows) = body_aside side bytes at flow own how most client server shut told now follows
    body_of at flow own how most client server shut told now (begins_not none) = absurd none

    coming_of : (at : At) (flow : Flow) (own : ℕ) (how : Sent) (client server : List ℕ) (shut : Bool) (told now : ℕ) →
        MayWork side (busy at flow (coming_down own how)) (make client false server shut told now) → (came : Came) → came_in flow (make client false server shut told now) ≡ Some came →
        OwnAside side bytes flow.request own server shut
    coming_of at flow own how client server shut told now (may_follow follows) came is = coming_aside side bytes at flow own how client server shut told now follows came is
    coming_of at flow own how client server shut told now (begins_not none) came is = absurd none

    -- Where nothing is found behind passing, a piece is worked off.
    works_by : (stage : Stage) (client server : List ℕ) (shut : Bool) (told now : ℕ) → MayWork side stage (make client false server shut told now) →
        look terms (onward (pass terms stage (make client false server shut told now)).stage) (sight_on onward terms stage (make client false server shut told now)) ≡ NotYet →
        WorksAt onward stage (make client false server shut told now)
    works_by (idle at) client server shut told now work nothing = idle_works onward goes at (make client false server shut told now)
    works_by (busy at flow (request_body None most)) client server shut told now work nothing =
        kept_works at flow most client server shut told now (goes_up most (make client false server shut told now)) refl work nothing
    works_by (busy at flow (request_body (Some response) most)) client server shut told now work nothing =
        given_works at flow response most (make client false server shut told now) nothing
    works_by (busy at flow (connection how)) client server shut told now work nothing = works_stay onward goes at flow (connection how) (make client false server shut told now)
    works_by (busy at flow (response_head own all_sent)) client server shut told now work nothing = works_stay onward goes at flow (response_head own all_sent) (make client false server shut told now)
    works_by (busy at flow (response_head own going_up)) client server shut told now work nothing =
        head_up at own client server shut told now flow (whole_in (make client false server shut told now)) refl
    works_by (busy at flow (response_body own all_sent most)) client server shut told now work nothing =
        kept_all at own client server shut told now flow most (streams_in flow most (make client false server shut told now)) (body_of at flow own all_sent most client server shut told now work) refl
    works_by (busy at flow (response_body own going_up most)) client server shut told now work nothing =
        body_up at own client server shut told now flow most (whole_in (make client false server shut told now)) (body_of at flow own going_up most client server shut told now work) refl nothing
    works_by (busy at flow (coming_down own all_sent)) client server shut told now work nothing =
        let seen : Sight = make client false server shut told now in
        came_all at own client server shut told now flow (came_in flow seen) refl
        (whole_aside at own client server shut told now flow (came_in flow seen) refl (coming_of at flow own all_sent client server shut told now work))
    works_by (busy at flow (coming_down own going_up)) client server shut told now work nothing =
        coming_up at own client server shut told now flow (whole_in (make client false server shut told now)) (coming_of at flow own going_up client server shut told now work) refl nothing
    works_by (busy at flow (upgraded own)) client server shut told now work nothing = works_stay onward goes at flow (upgraded own) (make client false server shut told now)
    works_by (busy at flow given_head) client server shut told now work nothing = works_stay onward goes at flow given_head (make client false server shut told now)
    works_by (busy at flow given_body) client server shut told now work nothing = works_stay onward goes at flow given_body (make client false server shut told now)
    works_by (next at) client server shut told now work nothing = next_works onward goes at (make client false server shut told now)
    works_by over client server shut told now work nothing = over_works onward goes (make client false server shut told now)

    pub works : (stage : Stage) (v : Sight) → v.closed ≡ false → MayWork side stage v → look terms (onward (pass terms stage v).stage) (sight_on onward terms stage v) ≡ NotYet → WorksAt onward stage v
    works stage v open_client work nothing =
        let P : Bool → Type 0 = λ b. MayWork side stage (make v.client b v.server v.shut v.told v.now) →
        look terms (onward (pass terms stage (make v.client b v.server v.shut v.told v.now)).stage) (sight_on onward terms stage (make v.client b v.server v.shut v.told v.now)) ≡ NotYet →
        WorksAt onward stage (make v.client b v.server v.shut v.told v.now) in
        subst P (sym open_client) (works_by stage v.client v.server v.shut v.told v.now) work nothing
