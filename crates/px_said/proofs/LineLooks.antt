-- What is found where a conversation stands whose replies go on over any size: in each view what it says is what is left of all that is said, or begins it.
use Rattle.std.proofs.Common.{◌≡◌, ℕ, Bool, true, false, List, [], ◌∷◌, ◌++◌, Option, Some, None, refl, ap, sym, ◌∙◌, subst}
use Rattle.std.proofs.lemmas.List.{append-nil}
use Rattle.px_text.specs.Prefix.{IsPrefixOf}
use Rattle.px_message.specs.declared.flow.Flow.{Flow}
use Rattle.px_event.specs.declared.command.Command.{Command}
use Rattle.px_event.specs.declared.event.Event.{Event}
use Rattle.px_event.specs.Chain.{Timed, Look, NotYet, Asks, Ends, found}
use Rattle.px_event.specs.View.{View, seen_of}
use Rattle.px_message.specs.declared.fault.Fault.{Fault}
use Rattle.px_read.specs.Items.{Body, Item, missing, part, complete, bad_head, bad_body}
use Rattle.px_read.specs.Laws.{head_in}
use Rattle.px_read.specs.declared.head.RequestHead.{RequestHead as ReadRequest}
use Rattle.px_read.proofs.ItemLemmas.{Carries}
use Rattle.px_exchange.specs.declared.asked.Judged.{Judged}
use Rattle.px_exchange.specs.declared.asked.Judged.TheVariants.{Refused, Accepted, Connects}
use Rattle.px_exchange.specs.declared.ending.Used.{Used}
use Rattle.px_exchange.specs.declared.terms.Terms.{Terms}
use Rattle.px_exchange.specs.Finds.{look_body, look_head, look_judged, or_leaves}
use Rattle.px_exchange.specs.Requests.{is_head, judged}
use Rattle.px_said.specs.ClosedForm.{fault_said, is_whole, said}
use Rattle.px_said.specs.Lines.{AllGoOn, Start, fault_in, said_head, said_start}
use Rattle.px_said.proofs.ClosedLooks.{IsLast}
use Rattle.px_said.proofs.ClosedQuiet.{refused_said, said_join, says_fault}

-- ---- what is found, and what is left

-- Behind these texts what is found says what is left: an end says all of it, a question begins it, and where nothing is found over all events nothing is left.
abbrev pub Tells : Type 0 → List Command → Look Command → List Command → Type 0
Tells over_all texts NotYet left =
    ((view : View) → IsPrefixOf (seen_of view texts) (seen_of view left)) × (over_all → (view : View) → seen_of view texts ≡ seen_of view left)
Tells over_all texts (Asks ask) left =
    ((view : View) → IsPrefixOf (seen_of view (texts ++ said (ask ∷ []))) (seen_of view left)) × (AllGoOn false (ask ∷ []) [] → ⊥)
Tells over_all texts (Ends owed) left = (view : View) → seen_of view (texts ++ said owed) ≡ seen_of view left

-- what a stage owes so far, with what it finds
pub record Here (over_all : Type 0) (closed : Bool) (look : Look Command) (so_far left : List Command) : Type 0 where
  pub begins : (view : View) → IsPrefixOf (seen_of view (said (so_far ++ found look))) (seen_of view left)
  pub is_all : closed ≡ false → IsLast over_all look → (view : View) → seen_of view (said (so_far ++ found look)) ≡ seen_of view left
  pub asks : (ask : Command) → look ≡ Asks ask → AllGoOn false (ask ∷ []) [] → ⊥

-- what it says behind those texts
more_said : (so_far more texts : List Command) → said so_far ≡ texts → (view : View) → seen_of view (texts ++ said more) ≡ seen_of view (said (so_far ++ more))
more_said so_far more texts is view = ap (seen_of view) (ap (λ l. l ++ said more) (sym is) ∙ sym (said_join so_far more))

alone_said : (so_far more texts : List Command) → said so_far ≡ texts → said more ≡ [] → (view : View) → seen_of view texts ≡ seen_of view (said (so_far ++ more))
alone_said so_far more texts is none view =
    ap (seen_of view) (sym (append-nil texts) ∙ ap (λ l. texts ++ l) (sym none)) ∙ more_said so_far more texts is view

begins_so : (view : View) (a b left : List Command) → seen_of view a ≡ seen_of view b → IsPrefixOf (seen_of view a) (seen_of view left) → IsPrefixOf (seen_of view b) (seen_of view left)
begins_so view a b left is begins = (begins.0, begins.1 ∙ ap (λ l. l ++ begins.0) is)

same_begins : (view : View) (a left : List Command) → seen_of view a ≡ seen_of view left → IsPrefixOf (seen_of view a) (seen_of view left)
same_begins view a left is = ([], sym is ∙ sym (append-nil (seen_of view a)))

pub here_of : (over_all : Type 0) (closed : Bool) (leaving : List Command) (look : Look Command) (so_far texts left : List Command) →
    said so_far ≡ texts → said leaving ≡ [] → Tells over_all texts look left → Here over_all closed (or_leaves closed leaving look) so_far left
here_of over_all true leaving NotYet so_far texts left is none tells = record {
  begins = λ view. begins_so view texts (said (so_far ++ leaving)) left (alone_said so_far leaving texts is none view) (tells.0 view);
  is_all = λ no. absurd (let e : true ≡ false = no in cc);
  asks = λ ask no. absurd (let e : Ends leaving ≡ Asks ask = no in cc);
}
here_of over_all false leaving NotYet so_far texts left is none tells = record {
  begins = λ view. begins_so view texts (said (so_far ++ [])) left (alone_said so_far [] texts is refl view) (tells.0 view);
  is_all = λ no over_it view. sym (alone_said so_far [] texts is refl view) ∙ tells.1 over_it view;
  asks = λ ask no. absurd (let e : NotYet ≡ Asks ask = no in cc);
}
here_of over_all closed leaving (Asks ask) so_far texts left is none tells = record {
  begins = λ view. begins_so view (texts ++ said (ask ∷ [])) (said (so_far ++ ask ∷ [])) left (more_said so_far (ask ∷ []) texts is view) (tells.0 view);
  is_all = λ no never. absurd never;
  asks = λ other same goes. (let e : ask ≡ other = (let s : Asks ask ≡ Asks other = same in cc) in
      let P : Command → Type 0 = λ c. AllGoOn false (c ∷ []) [] in tells.1 (subst P (sym e) goes));
}
here_of over_all closed leaving (Ends owed) so_far texts left is none tells = record {
  begins = λ view. same_begins view (said (so_far ++ owed)) left (sym (more_said so_far owed texts is view) ∙ tells view);
  is_all = λ no last view. sym (more_said so_far owed texts is view) ∙ tells view;
  asks = λ ask no. absurd (let e : Ends owed ≡ Asks ask = no in cc);
}

-- ---- before a request is sent on

-- nothing was said before it
pub starts : (left : List Command) (view : View) → IsPrefixOf (seen_of view []) (seen_of view left)
starts left view = (seen_of view left, refl)

module _ (over_all : Type 0) (terms : Terms) (events : List (Timed Event)) (start : Start) (further : Start → List Command) where
  -- what is said of the request
  abbrev said_there : Item ReadRequest → List Command
  said_there item = said_start terms events start (head_in item) item further

  judged_tells : (index : ℕ) (head : ReadRequest) (made : Judged) (item : Item ReadRequest) (moment : ℕ) (used : Used) (closed : Bool) →
      Tells over_all [] (look_judged terms index head made moment used closed) (said_head terms events start head made item further)
  judged_tells index head (Refused fault) item moment used closed = λ view. ap (seen_of view) (refused_said fault (is_head head.method) used closed)
  judged_tells index head (Connects address) item moment used closed = λ view. refl
  judged_tells index head (Accepted message) item moment used closed = (starts _, λ goes. goes)

  asked_tells : (index : ℕ) (head : ReadRequest) (item : Item ReadRequest) (moment : ℕ) (used : Used) (closed : Bool) → head_in item ≡ Some head →
      Tells over_all [] (look_judged terms index head (judged terms.place head) moment used closed) (said_there item)
  asked_tells index head item moment used closed there =
      let P : Option ReadRequest → Type 0 = λ o.
      Tells over_all [] (look_judged terms index head (judged terms.place head) moment used closed) (said_start terms events start o item further) in
      subst P (sym there) (judged_tells index head (judged terms.place head) item moment used closed)

  pub head_tells : (index : ℕ) (item all : Item ReadRequest) (moment : ℕ) (used : Used) (closed : Bool) → Carries item all → (over_all → all ≡ item) →
      Tells over_all [] (look_head terms index item moment used closed) (said_there all)
  head_tells index missing all moment used closed carries same = (starts _, λ o view. ap (λ i. seen_of view (said_there i)) (sym (same o)))
  head_tells index (part head body) all moment used closed carries same = asked_tells index head all moment used closed (carries.head head refl)
  head_tells index (complete head body trailers size) all moment used closed carries same = asked_tells index head all moment used closed (carries.head head refl)
  head_tells index (bad_head fault) all moment used closed carries same = λ view.
      ap (seen_of view) (refused_said fault false used closed) ∙ ap (λ i. seen_of view (said_there i)) (sym (carries.stays refl))
  head_tells index (bad_body fault head body) all moment used closed carries same = asked_tells index head all moment used closed (carries.head head refl)

-- a request that is kept: what is left where it is at fault, and where it is never whole
pub body_tells : (over_all : Type 0) (flow : Flow) (item : Item ReadRequest) (left : List Command) (moment : ℕ) (used : Used) (closed : Bool) →
    ((fault : Fault) (head : ReadRequest) (body : Body) → item ≡ bad_body fault head body → left ≡ fault_said fault (is_head flow.request.method)) →
    (over_all → fault_in item ≡ None → is_whole item ≡ false → left ≡ []) →
    Tells over_all [] (look_body flow item moment used closed) left
body_tells over_all flow missing left moment used closed bad never = (starts left, λ o view. ap (seen_of view) (sym (never o refl refl)))
body_tells over_all flow (part head body) left moment used closed bad never = (starts left, λ o view. ap (seen_of view) (sym (never o refl refl)))
body_tells over_all flow (complete head body trailers size) left moment used closed bad never = (starts left, λ goes. goes)
body_tells over_all flow (bad_head fault) left moment used closed bad never = (starts left, λ o view. ap (seen_of view) (sym (never o refl refl)))
body_tells over_all flow (bad_body fault head body) left moment used closed bad never = λ view.
    ap (seen_of view) ((says_fault flow fault moment used closed).is ∙ sym (bad fault head body refl))
