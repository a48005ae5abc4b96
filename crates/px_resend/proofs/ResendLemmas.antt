-- From what a child does to what its conversation does.
use Rattle.std.proofs.Common.{◌≡◌, ℕ, List, [], Option, refl, ap, sym, ◌∙◌, subst}
use Rattle.px_message.specs.declared.address.Address.{Address}
use Rattle.px_message.specs.declared.request.Request.{Request}
use Rattle.px_event.specs.declared.command.Command.{Command}
use Rattle.px_event.specs.declared.event.Event.{Event}
use Rattle.px_event.specs.declared.reply.Reply.{Reply}
use Rattle.px_event.specs.Chain.{Timed}
use Rattle.px_event.specs.Layer.{AsksOnly, Goes, IsSound, Took, Replied}
use Rattle.px_event.specs.Stands.{stop_of}
use Rattle.px_event.proofs.Steps.{Takes, onward, past_end, Resumes, begins as begins_at, resume_goes, take_goes}
use Rattle.px_exchange.specs.declared.terms.Terms.{Terms}
use Rattle.px_resend.specs.declared.child.Child.{Child}
use Rattle.px_resend.specs.declared.child.Child.TheVariants as children
use Rattle.px_resend.specs.declared.resend.Resend.{Resend}
use Rattle.px_resend.specs.Chain.{Stage, terms_by, waiting}
use Rattle.px_resend.specs.Kept.{awaited_by}
use Rattle.px_resend.specs.Laws.{settles_there}
use Rattle.px_resend.specs.Stands.{IsAt, IsChild, IsSomewhere, ResendStands, chain_of, terms_in}
use Rattle.px_resend.specs.Steps.{Adds, ResumesChild, TakesChild}

-- one that was made stands for itself
pub stands_made : (made : Resend) → made.child ≡ children.Waiting → ResendStands made made [] []
stands_made made is =
    let there : IsAt made made waiting [] = record { conv = refl; proxy = refl; request = refl; child = (is, refl) } in
    begins_at (chain_of made) (settles_there made) waiting (IsAt made) made there (λ view. refl)

-- ---- one move more

terms_same : (conv conv' : ℕ) (proxy proxy' : Option Address) → conv ≡ conv' → proxy ≡ proxy' → terms_by conv proxy ≡ terms_by conv' proxy'
terms_same conv conv' proxy proxy' p q = ap (λ c. terms_by c proxy) p ∙ ap (terms_by conv') q

same_terms : (made state : Resend) (stage : Stage) (prefix : List (Timed Event)) → IsAt made state stage prefix → terms_in state ≡ terms_in made
same_terms made state stage prefix at = terms_same state.conv made.conv state.proxy made.proxy at.conv at.proxy

pub somewhere_there : (state : Resend) → IsSound ResendStands state → IsSomewhere (terms_in state) state.request state.child
somewhere_there state (made, past, given, stands) =
    let stop = stop_of (chain_of made) waiting past in
    let at : IsAt made state stop.stage stop.prefix = stands.place in
    let P : Terms → Type 0 = λ terms. IsChild terms made.request state.child stop.stage stop.prefix in
    let Q : Request → Type 0 = λ request. IsChild (terms_in state) request state.child stop.stage stop.prefix in
    (stop.stage, stop.prefix, subst Q (sym at.request) (subst P (sym (same_terms made state stop.stage stop.prefix at)) at.child))

-- the conversation with another child
abbrev pub with_child : Resend → Child → Resend
with_child before next = record before { child = next }

module _ (made before : Resend) (next : Child) (stage : Stage) (prefix : List (Timed Event)) (at : IsAt made before stage prefix) where
  next_at : (after : Stage) (over : List (Timed Event)) → IsChild (terms_in made) made.request next after over → IsAt made (with_child before next) after over
  next_at after over there = record { conv = at.conv; proxy = at.proxy; request = at.request; child = there }

  takes_as : (moment : ℕ) (event : Event) (more : List Command) → Takes (chain_of made) (IsChild (terms_in made) made.request) next moment event more stage prefix →
      Takes (chain_of made) (IsAt made) (with_child before next) moment event more stage prefix
  takes_as moment event more (onward is place gives) = onward is (next_at _ _ place) gives
  takes_as moment event more (past_end owed is place gives) = past_end owed is (next_at _ _ place) gives

  takes_at : (moment : ℕ) (event : Event) (more : List Command) → TakesChild (terms_in before) before.request before.child next moment event more →
      Takes (chain_of made) (IsAt made) (with_child before next) moment event more stage prefix
  takes_at moment event more takes =
      let P : Terms → Type 0 = λ terms. TakesChild terms before.request before.child next moment event more in
      let Q : Request → Type 0 = λ request. TakesChild (terms_in made) request before.child next moment event more in
      let here : TakesChild (terms_in made) made.request before.child next moment event more = subst Q at.request (subst P (same_terms made before stage prefix at) takes) in
      takes_as moment event more (here stage prefix at.child)

  resumes_at : (moment : ℕ) (reply : Reply) (more : List Command) → ResumesChild (terms_in before) before.request before.child next moment reply more →
      Resumes (chain_of made) (IsAt made) (with_child before next) moment reply more stage prefix
  resumes_at moment reply more resumes =
      let P : Terms → Type 0 = λ terms. ResumesChild terms before.request before.child next moment reply more in
      let Q : Request → Type 0 = λ request. ResumesChild (terms_in made) request before.child next moment reply more in
      let here : ResumesChild (terms_in made) made.request before.child next moment reply more = subst Q at.request (subst P (same_terms made before stage prefix at) resumes) in
      let on = here stage prefix at.child in
      record { ask = on.ask; asked = on.asked; place = next_at _ _ on.place; gives = on.gives }

-- the law of a `take`, and of a `resume`
take_stands : (before : Resend) (next : Child) (moment : ℕ) (event : Event) (out longer : List Command) →
    Adds (TakesChild (terms_in before) before.request before.child next moment event) out longer → Goes ResendStands before (with_child before next) (Took moment event) out longer
take_stands before next moment event out longer adds =
    take_goes chain_of settles_there (λ made. waiting) IsAt before (with_child before next) moment event adds.more out longer adds.grown
    (λ made stage prefix settled at. takes_at made before next stage prefix at moment event adds.more adds.holds)

resume_stands : (before : Resend) (next : Child) (moment : ℕ) (reply : Reply) (out longer : List Command) →
    Adds (ResumesChild (terms_in before) before.request before.child next moment reply) out longer →
    Goes ResendStands before (with_child before next) (Replied moment reply) out longer
resume_stands before next moment reply out longer adds =
    resume_goes chain_of settles_there (λ made. waiting) IsAt before (with_child before next) moment reply adds.more out longer adds.grown
    (λ made stage prefix settled at. resumes_at made before next stage prefix at moment reply adds.more adds.holds)

-- and where the child was taken out and put back
pub took : (before : Resend) (child next kept : Child) (moment : ℕ) (event : Event) (out longer : List Command) → child ≡ before.child → kept ≡ next →
    Adds (TakesChild (terms_in before) before.request child next moment event) out longer → Goes ResendStands before (with_child before kept) (Took moment event) out longer
took before child next kept moment event out longer had put adds =
    let P : Child → Type 0 = λ c. Adds (TakesChild (terms_in before) before.request c next moment event) out longer in
    let Q : Child → Type 0 = λ c. Goes ResendStands before (with_child before c) (Took moment event) out longer in
    subst Q (sym put) (take_stands before next moment event out longer (subst P had adds))

pub resumed : (before : Resend) (child next kept : Child) (moment : ℕ) (reply : Reply) (out longer : List Command) → child ≡ before.child → kept ≡ next →
    Adds (ResumesChild (terms_in before) before.request child next moment reply) out longer → Goes ResendStands before (with_child before kept) (Replied moment reply) out longer
resumed before child next kept moment reply out longer had put adds =
    let P : Child → Type 0 = λ c. Adds (ResumesChild (terms_in before) before.request c next moment reply) out longer in
    let Q : Child → Type 0 = λ c. Goes ResendStands before (with_child before c) (Replied moment reply) out longer in
    subst Q (sym put) (resume_stands before next moment reply out longer (subst P had adds))

pub asked : (kept next : Child) (out longer : List Command) → kept ≡ next → AsksOnly (awaited_by next) out longer → AsksOnly (awaited_by kept) out longer
asked kept next out longer put asks = subst (λ c. AsksOnly (awaited_by c) out longer) (sym put) asks
