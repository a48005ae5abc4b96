use Rattle.std.proofs.Common.{◌≡◌, ℕ, false, List, [], ◌∷◌, ◌++◌, Some, refl, sym, subst}
use Rattle.std.specs.Prelude.{OnOk, IfOk}
use Rattle.std.proofs.lemmas.Result.{on_ok_weaker}
use Rattle.px_event.specs.declared.command.Command.{Command}
use Rattle.px_event.specs.Chain.{found}
use Rattle.px_read.specs.Items.{Item, missing, bad_head, request_item}
use Rattle.px_read.specs.Laws.{head_in}
use Rattle.px_read.specs.Marks.{Mark, asks, marks_of}
use Rattle.px_read.specs.Reader.{request, Reads, IsNext, to_come}
use Rattle.px_read.specs.declared.head.RequestHead.{RequestHead}
use Rattle.px_read.specs.declared.part.Part.{Part}
use Rattle.px_read.specs.declared.part.Part.TheVariants as given
use Rattle.px_stream.specs.declared.phase.Phase.{Phase}
use Rattle.px_exchange.specs.Endings.{shut_server}
use Rattle.px_exchange.specs.Finds.{look_head, or_leaves}
use Rattle.px_stream.specs.Looks.{head_phase}
use Rattle.px_stream.proofs.ReadLemmas.{head_shown}
use Rattle.px_stream.proofs.HeadLemmas.{always, gives_at, phase_at, gives_missing, shows_missing}
use Rattle.px_stream.proofs.LookingLemmas.{fault_kept, head_kept, missing_kept}
use Rattle.px_stream.proofs.looking.request.look_for_head.Goals as goal

pub returns-in-Request-clause-gives : goal.returns-in-Request-clause-gives
returns-in-Request-clause-gives c = λ fed reads.
    let next : IsNext (given.Request c.in-Request.head) (to_come c.args.requests.now) = rw c.in-Request.is at c.in_ok-head.ensures.next in
    let shown : head_in (request_item fed) ≡ Some c.in-Request.head = head_shown (given.Request c.in-Request.head) fed c.args.requests.now reads next in
    let P : List Command → Type 0 = λ l. OnOk c.look_at_head.result (c.look_at_head.new.out.items ≡ c.args.out.now.items ++ l) in
    subst P (gives_at c.args.terms.now c.args.index (request_item fed) c.in-Request.head c.args.now.moment c.args.now.parked c.args.now.client_closed shown) c.look_at_head.ensures.gives

pub returns-in-Request-clause-phase : goal.returns-in-Request-clause-phase
returns-in-Request-clause-phase c = λ fed reads.
    let next : IsNext (given.Request c.in-Request.head) (to_come c.args.requests.now) = rw c.in-Request.is at c.in_ok-head.ensures.next in
    let shown : head_in (request_item fed) ≡ Some c.in-Request.head = head_shown (given.Request c.in-Request.head) fed c.args.requests.now reads next in
    let P : Phase → Type 0 = λ p. IfOk c.look_at_head.result (λ next. next ≡ p) in
    subst P (phase_at c.args.terms.now c.args.index (request_item fed) c.in-Request.head c.args.now.moment c.args.now.client_closed shown) c.look_at_head.ensures.phase

pub returns-in-Request-clause-reads : goal.returns-in-Request-clause-reads
returns-in-Request-clause-reads c = λ fed reads.
    let next : IsNext (given.Request c.in-Request.head) (to_come c.args.requests.now) = rw c.in-Request.is at c.in_ok-head.ensures.next in
    let shown : head_in (request_item fed) ≡ Some c.in-Request.head = head_shown (given.Request c.in-Request.head) fed c.args.requests.now reads next in
    let P : Part → Type 0 = λ got. Reads request ([] ++ marks_of got) fed false c.next.new.self in
    let after : Reads request (asks c.in-Request.head ∷ []) fed false c.next.new.self = subst P c.in-Request.is (c.in_ok-head.ensures.reads request [] fed false reads) in
    on_ok_weaker c.look_at_head.result
    (λ behind. head_kept c.args.terms.now.place fed c.in-Request.head c.next.new.self c.look_at_head.new.requests _ shown refl after behind) c.look_at_head.ensures.reads

pub returns-in-Bad-clause-gives : goal.returns-in-Bad-clause-gives
returns-in-Bad-clause-gives c = λ fed reads.
    let next : IsNext (given.Bad c.in-Bad.fault) (to_come c.args.requests.now) = rw c.in-Bad.is at c.in_ok-head.ensures.next in
    let shown : request_item fed ≡ bad_head c.in-Bad.fault = head_shown (given.Bad c.in-Bad.fault) fed c.args.requests.now reads next in
    let P : Item RequestHead → Type 0 = λ item. OnOk c.refuse_head.result (c.refuse_head.new.out.items ≡ c.args.out.now.items
    ++ found (or_leaves c.args.now.client_closed (shut_server c.args.now.parked) (look_head c.args.terms.now c.args.index item c.args.now.moment c.args.now.parked c.args.now.client_closed))) in
    subst P (sym shown) c.refuse_head.ensures.gives

pub returns-in-Bad-clause-phase : goal.returns-in-Bad-clause-phase
returns-in-Bad-clause-phase c = λ fed reads.
    let next : IsNext (given.Bad c.in-Bad.fault) (to_come c.args.requests.now) = rw c.in-Bad.is at c.in_ok-head.ensures.next in
    let shown : request_item fed ≡ bad_head c.in-Bad.fault = head_shown (given.Bad c.in-Bad.fault) fed c.args.requests.now reads next in
    let P : Item RequestHead → Type 0 = λ item. IfOk c.refuse_head.result (λ next. next ≡ head_phase c.args.terms.now c.args.index item c.args.now.moment c.args.now.client_closed) in
    subst P (sym shown) c.refuse_head.ensures.phase

pub returns-in-Bad-clause-reads : goal.returns-in-Bad-clause-reads
returns-in-Bad-clause-reads c = λ fed reads.
    let next : IsNext (given.Bad c.in-Bad.fault) (to_come c.args.requests.now) = rw c.in-Bad.is at c.in_ok-head.ensures.next in
    let shown : request_item fed ≡ bad_head c.in-Bad.fault = head_shown (given.Bad c.in-Bad.fault) fed c.args.requests.now reads next in
    let P : Part → Type 0 = λ got. Reads request ([] ++ marks_of got) fed false c.next.new.self in
    let after : Reads request [] fed false c.next.new.self = subst P c.in-Bad.is (c.in_ok-head.ensures.reads request [] fed false reads) in
    always c.refuse_head.result (fault_kept c.args.terms.now.place fed c.in-Bad.fault c.next.new.self shown after)

pub returns : goal.returns
returns c =
    let got : Part = c.in_ok-head.field-0 in
    let gone : (fed : List ℕ) → Reads request [] fed false c.args.requests.now → (request_item fed ≡ missing) × (marks_of got ≡ []) =
    λ fed reads. shows_missing got (request_item fed) (head_shown got fed c.args.requests.now reads c.in_ok-head.ensures.next) c.in_default.not-Request c.in_default.not-Bad in
    record {
      gives = λ fed reads.
          let P : List Command → Type 0 = λ l. OnOk c.wait_for_head.result (c.wait_for_head.new.out.items ≡ c.args.out.now.items ++ l) in
          subst P (sym (gives_missing c.args.terms.now c.args.index (request_item fed) c.args.now.moment c.args.now.parked c.args.now.client_closed (gone fed reads).0)) c.wait_for_head.ensures.gives;
      phase = λ fed reads.
          let P : Item RequestHead → Type 0 = λ item. IfOk c.wait_for_head.result (λ next. next ≡ head_phase c.args.terms.now c.args.index item c.args.now.moment c.args.now.client_closed) in
          subst P (sym (gone fed reads).0) c.wait_for_head.ensures.phase;
      reads = λ fed reads.
          let P : List Mark → Type 0 = λ l. Reads request l fed false c.next.new.self in
          always c.wait_for_head.result (missing_kept c.args.terms.now.place fed c.next.new.self (gone fed reads).0 (subst P (gone fed reads).1 (c.in_ok-head.ensures.reads request [] fed false reads)));
    }
