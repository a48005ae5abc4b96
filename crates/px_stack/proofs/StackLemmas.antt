-- From what a child does to what its conversation does.
use Rattle.std.proofs.Common.{◌≡◌, ℕ, ◌≤◌, List, [], Option, Some, None, refl, ap, sym, ◌∙◌, subst, arith}
use Rattle.std.specs.Prelude.{IfOk, Result, Ok, Err}
use Rattle.rand_chacha.specs.ChaCha.{key_of}
use Rattle.px_message.specs.declared.address.Address.{Address}
use Rattle.px_event.specs.declared.command.Command.{Command}
use Rattle.px_event.specs.declared.event.Event.{Event}
use Rattle.px_event.specs.declared.reply.Reply.{Reply}
use Rattle.px_event.specs.Chain.{Timed}
use Rattle.px_event.specs.Layer.{AsksOnly, Goes, IsSound, Move, Took, Replied}
use Rattle.px_event.specs.Stands.{StandsAt, due_by, stop_of}
use Rattle.px_event.proofs.Steps.{Takes, onward, past_end, Resumes, begins as begins_at, resume_goes, take_goes}
use Rattle.px_exchange.specs.declared.mode.Mode.{Mode}
use Rattle.px_exchange.specs.declared.place.Place.{Place}
use Rattle.px_exchange.specs.declared.place.Place.TheVariants as places
use Rattle.px_exchange.specs.declared.terms.Terms.{Terms}
use Rattle.px_exchange.specs.Places.{place_of, terms_of}
use Rattle.px_chain.specs.Chain.{begin}
use Rattle.px_chain.specs.Stages.{At, idle}
use Rattle.px_http.specs.Stands.{ahead_of}
use Rattle.px_stream.specs.declared.stream.Stream.{Stream}
use Rattle.px_stream.specs.Anywhere.{IsInSequence}
use Rattle.px_stack.specs.declared.child.Child.{Child}
use Rattle.px_stack.specs.declared.stack.Stack.{Stack}
use Rattle.px_stack.specs.Chain.{begins, begins_by, first_at, stack_chain}
use Rattle.px_stack.specs.Kept.{awaited_by}
use Rattle.px_stack.specs.Modes.{mode_due}
use Rattle.px_stack.specs.Stack.{IsAt, StackStands, chain_of, start_by, start_of, visitor_of}
use Rattle.px_stack.specs.StackLaws.{settles_there}
use Rattle.px_stack.specs.Stages.{Stage, Visitor, http}
use Rattle.px_stack.specs.Stands.{IsChild, IsFirst, IsFirstHttp, IsHttp, IsSomewhere, ahead_at}
use Rattle.px_stack.specs.Steps.{Adds, ResumesChild, TakesChild}

-- ---- one that was made stands for itself

-- one server more than flows may have been there at most
few_ahead : (place : Place) → ahead_at place ≤ 1
few_ahead places.Regular = omega arith
few_ahead (places.Upstream proxy) = omega arith
few_ahead (places.Fixed address inside) = omega arith

-- where its flows are, before the first move
abbrev FirstIn : Stream → Terms → At → Type 0
FirstIn stream terms at = IsInSequence terms (ahead_of at) stream (begin (idle at)) []

module _ (conv : ℕ) (client : Visitor) (peer : Address) (known : client.address ≡ Some peer) (child : Child) where
  first_http : (place : Place) → IsFirstHttp conv peer place child → IsHttp conv client place (begin (idle first_at)) [] child
  first_http place first =
      let stream : Stream = first.flows.value.stream in
      let P : Terms → Type 0 = λ terms. FirstIn stream terms stream.at in
      let Q : At → Type 0 = λ at. FirstIn stream (terms_of conv client.address place) at in
      let terms : stream.terms ≡ terms_of conv client.address place = first.terms ∙ ap (λ a. terms_of conv a place) (sym known) in
      let there : FirstIn stream (terms_of conv client.address place) first_at = subst Q first.at (subst P terms first.stands.place) in
      record {
        flows = first.flows;
        is = first.is;
        there = record { is_at = there.is_at; few = record { few = omega arith; dials = omega arith }; small = few_ahead place };
        in_time = λ closed. closed;
      }

-- where it begins
first_starts : (conv : ℕ) (peer : Address) (child : Child) (to : Option Place) → IsFirst conv peer to child → start_by child ≡ begins_by to
first_starts conv peer child (Some place) first =
    ap start_by first.is
    ∙ (ap (λ t. http t.place (begin (idle first.flows.value.stream.at))) first.terms ∙ ap (λ at. http place (begin (idle at))) first.at)
first_starts conv peer child None first = ap start_by first.is

stands_first : (made : Stack) (peer : Address) → made.client ≡ Some peer → (to : Option Place) → IsFirst made.conv peer to made.child →
    StandsAt (chain_of made) (begins_by to) (IsAt made) made [] []
stands_first made peer known (Some place) first =
    let there : IsAt made made (begins_by (Some place)) [] =
    record { conv = refl; client = refl; mask_key = refl; child = first_http made.conv (visitor_of made) peer known made.child place first } in
    begins_at (chain_of made) (settles_there made) (begins_by (Some place)) (IsAt made) made there (λ view. refl)
stands_first made peer known None first =
    let there : IsAt made made (begins_by None) [] =
    record { conv = refl; client = refl; mask_key = refl; child = record { layer = first.layer; is = first.is; there = first.there } } in
    begins_at (chain_of made) (settles_there made) (begins_by None) (IsAt made) made there (λ view. refl)

pub starts_there : (made : Stack) (mode : Mode) (peer : Address) → IsFirst made.conv peer (place_of mode) made.child → start_of made ≡ begins mode
starts_there made mode peer first = first_starts made.conv peer made.child (place_of mode) first

pub stands_made : (made : Stack) (mode : Mode) (peer : Address) → made.client ≡ Some peer → IsFirst made.conv peer (place_of mode) made.child → StackStands made made [] []
stands_made made mode peer known first =
    let P : Stage → Type 0 = λ start. StandsAt (chain_of made) start (IsAt made) made [] [] in
    subst P (sym (starts_there made mode peer first)) (stands_first made peer known (place_of mode) first)

-- ---- one move more

-- who is at the other end, by the fields
visitor_as : (address address' : Option Address) (key key' : List ℕ) → address ≡ address' → key ≡ key' →
    (let a : Visitor = record { address = address; key = key_of key } in a) ≡ (let b : Visitor = record { address = address'; key = key_of key' } in b)
visitor_as address address' key key' p q = rw (p, q) refl

same_visitor : (state made : Stack) → state.client ≡ made.client → state.mask_key ≡ made.mask_key → visitor_of state ≡ visitor_of made
same_visitor state made client key = visitor_as state.client made.client state.mask_key made.mask_key client key

pub somewhere : (state : Stack) → IsSound StackStands state → IsSomewhere state.conv (visitor_of state) state.child
somewhere state (made, past, given, stands) =
    let stop = stop_of (chain_of made) (start_of made) past in
    let at : IsAt made state stop.stage stop.prefix = stands.place in
    let P : ℕ → Type 0 = λ conv. IsChild conv (visitor_of made) state.child stop.stage stop.prefix in
    let Q : Visitor → Type 0 = λ client. IsChild state.conv client state.child stop.stage stop.prefix in
    (stop.stage, stop.prefix, subst Q (sym (same_visitor state made at.client at.mask_key)) (subst P (sym at.conv) at.child))

-- the conversation with another child
abbrev pub with_child : Stack → Child → Stack
with_child before next = record before { child = next }

module _ (made before : Stack) (next : Child) (stage : Stage) (prefix : List (Timed Event)) (at : IsAt made before stage prefix) where
  next_at : (after : Stage) (over : List (Timed Event)) → IsChild made.conv (visitor_of made) next after over → IsAt made (with_child before next) after over
  next_at after over there = record { conv = at.conv; client = at.client; mask_key = at.mask_key; child = there }

  takes_as : (moment : ℕ) (event : Event) (more : List Command) → Takes (chain_of made) (IsChild made.conv (visitor_of made)) next moment event more stage prefix →
      Takes (chain_of made) (IsAt made) (with_child before next) moment event more stage prefix
  takes_as moment event more (onward is place gives) = onward is (next_at _ _ place) gives
  takes_as moment event more (past_end owed is place gives) = past_end owed is (next_at _ _ place) gives

  takes_at : (moment : ℕ) (event : Event) (more : List Command) → TakesChild before.conv (visitor_of before) before.child next moment event more →
      Takes (chain_of made) (IsAt made) (with_child before next) moment event more stage prefix
  takes_at moment event more takes =
      let P : ℕ → Type 0 = λ conv. TakesChild conv (visitor_of before) before.child next moment event more in
      let Q : Visitor → Type 0 = λ client. TakesChild made.conv client before.child next moment event more in
      let here : TakesChild made.conv (visitor_of made) before.child next moment event more =
      subst Q (same_visitor before made at.client at.mask_key) (subst P at.conv takes) in
      takes_as moment event more (here stage prefix at.child)

  resumes_at : (moment : ℕ) (reply : Reply) (more : List Command) → ResumesChild before.conv (visitor_of before) before.child next moment reply more →
      Resumes (chain_of made) (IsAt made) (with_child before next) moment reply more stage prefix
  resumes_at moment reply more resumes =
      let P : ℕ → Type 0 = λ conv. ResumesChild conv (visitor_of before) before.child next moment reply more in
      let Q : Visitor → Type 0 = λ client. ResumesChild made.conv client before.child next moment reply more in
      let here : ResumesChild made.conv (visitor_of made) before.child next moment reply more =
      subst Q (same_visitor before made at.client at.mask_key) (subst P at.conv resumes) in
      let on = here stage prefix at.child in
      record { ask = on.ask; asked = on.asked; place = next_at _ _ on.place; gives = on.gives }

-- the law of a `take`, and of a `resume`
pub take_stands : (before : Stack) (next : Child) (moment : ℕ) (event : Event) (out longer : List Command) →
    Adds (TakesChild before.conv (visitor_of before) before.child next moment event) out longer → Goes StackStands before (with_child before next) (Took moment event) out longer
take_stands before next moment event out longer adds =
    take_goes chain_of settles_there start_of IsAt before (with_child before next) moment event adds.more out longer adds.grown
    (λ made stage prefix settled at. takes_at made before next stage prefix at moment event adds.more adds.holds)

pub resume_stands : (before : Stack) (next : Child) (moment : ℕ) (reply : Reply) (out longer : List Command) →
    Adds (ResumesChild before.conv (visitor_of before) before.child next moment reply) out longer → Goes StackStands before (with_child before next) (Replied moment reply) out longer
resume_stands before next moment reply out longer adds =
    resume_goes chain_of settles_there start_of IsAt before (with_child before next) moment reply adds.more out longer adds.grown
    (λ made stage prefix settled at. resumes_at made before next stage prefix at moment reply adds.more adds.holds)

-- and where the child was taken out and put back
pub took : (before : Stack) (child next kept : Child) (moment : ℕ) (event : Event) (out longer : List Command) → child ≡ before.child → kept ≡ next →
    Adds (TakesChild before.conv (visitor_of before) child next moment event) out longer → Goes StackStands before (with_child before kept) (Took moment event) out longer
took before child next kept moment event out longer had put adds =
    let P : Child → Type 0 = λ c. Adds (TakesChild before.conv (visitor_of before) c next moment event) out longer in
    let Q : Child → Type 0 = λ c. Goes StackStands before (with_child before c) (Took moment event) out longer in
    subst Q (sym put) (take_stands before next moment event out longer (subst P had adds))

pub resumed : (before : Stack) (child next kept : Child) (moment : ℕ) (reply : Reply) (out longer : List Command) → child ≡ before.child → kept ≡ next →
    Adds (ResumesChild before.conv (visitor_of before) child next moment reply) out longer → Goes StackStands before (with_child before kept) (Replied moment reply) out longer
resumed before child next kept moment reply out longer had put adds =
    let P : Child → Type 0 = λ c. Adds (ResumesChild before.conv (visitor_of before) c next moment reply) out longer in
    let Q : Child → Type 0 = λ c. Goes StackStands before (with_child before c) (Replied moment reply) out longer in
    subst Q (sym put) (resume_stands before next moment reply out longer (subst P had adds))

pub asked : (kept next : Child) (out longer : List Command) → kept ≡ next → AsksOnly (awaited_by next) out longer → AsksOnly (awaited_by kept) out longer
asked kept next out longer put asks = subst (λ c. AsksOnly (awaited_by c) out longer) (sym put) asks

-- ---- what is due of one that was made

pub makes_due : {E : Type 0} (result : Result Stack E) (mode : Mode) (mask_key : List ℕ) (conv : ℕ) (peer : Address) → IfOk result (λ made. made.conv ≡ conv) →
    IfOk result (λ made. made.client ≡ Some peer) → IfOk result (λ made. made.mask_key ≡ mask_key) → IfOk result (λ made. start_of made ≡ begins mode) →
    IfOk result (λ made. (moves : List Move) → due_by (chain_of made) (start_of made) moves ≡ mode_due mode (key_of mask_key) conv (Some peer) moves)
makes_due (Ok made) mode mask_key conv peer number client key start = λ moves.
    let there : Visitor = record { address = Some peer; key = key_of mask_key } in
    ap (λ c. due_by (stack_chain c (visitor_of made)) (start_of made) moves) number
    ∙ (ap (λ at. due_by (stack_chain conv at) (start_of made) moves) (visitor_as made.client (Some peer) made.mask_key mask_key client key)
    ∙ ap (λ stage. due_by (stack_chain conv there) stage moves) start)
makes_due (Err failed) mode mask_key conv peer number client key start = tt
