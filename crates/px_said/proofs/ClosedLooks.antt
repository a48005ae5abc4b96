-- What is found where a conversation stands whose replies go on: what it says is what is left of all that is said, or begins it.
use Rattle.std.proofs.Common.{◌≡◌, ℕ, Bool, true, false, List, [], ◌∷◌, ◌++◌, Option, Some, refl, ap, sym, ◌∙◌, subst}
use Rattle.std.specs.Prelude.{⊤, if◌then◌else◌, not}
use Rattle.std.proofs.lemmas.List.{append-nil}
use Rattle.px_text.specs.Prefix.{IsPrefixOf}
use Rattle.px_message.specs.declared.fault.Fault.TheVariants.{BadResponse}
use Rattle.px_message.specs.declared.flow.Flow.{Flow}
use Rattle.px_message.specs.declared.response.Response.{Response}
use Rattle.px_event.specs.declared.ask.Hook.{Hook}
use Rattle.px_event.specs.declared.ask.Hook.TheVariants.{ResponseHead}
use Rattle.px_event.specs.declared.command.Command.{Command}
use Rattle.px_event.specs.declared.event.Event.{Event}
use Rattle.px_event.specs.Chain.{Timed, Turn, Look, NotYet, Asks, Ends, found}
use Rattle.px_event.proofs.Growth.{prefix_behind}
use Rattle.px_read.specs.Items.{Item, missing, part, complete, bad_head, bad_body}
use Rattle.px_read.specs.Laws.{head_in}
use Rattle.px_read.specs.declared.head.RequestHead.{RequestHead as ReadRequest}
use Rattle.px_read.specs.declared.head.ResponseHead.{ResponseHead as ReadResponse}
use Rattle.px_read.proofs.ItemLemmas.{Carries}
use Rattle.px_exchange.specs.declared.asked.Judged.{Judged}
use Rattle.px_exchange.specs.declared.asked.Judged.TheVariants.{Refused, Accepted, Connects}
use Rattle.px_exchange.specs.declared.ending.Used.{Used}
use Rattle.px_exchange.specs.declared.terms.Terms.{Terms}
use Rattle.px_exchange.specs.Endings.{ends_by_fault}
use Rattle.px_exchange.specs.Finds.{is_relayed, look_answer, look_answer_head, look_body, look_head, look_judged, look_returned, or_leaves}
use Rattle.px_exchange.specs.Flows.{ask_of, response_of, with_answer}
use Rattle.px_exchange.specs.Requests.{is_head, judged}
use Rattle.px_said.specs.ClosedForm.{GoesOn, Point, is_whole, said, said_asked, said_final, said_headed, said_item, said_judged, said_relayed, said_returned, said_whole}
use Rattle.px_chain.specs.Stages.{Stage}
use Rattle.px_said.proofs.ClosedQuiet.{refused_said, said_join, says_fault}

-- ---- nothing asked

pub asks_nothing : (closed : Bool) (leaving : List Command) (ask : Command) → or_leaves closed leaving NotYet ≡ Asks ask → ⊥
asks_nothing true leaving ask is = let no : Ends leaving ≡ Asks ask = is in cc
asks_nothing false leaving ask is = let no : NotYet ≡ Asks ask = is in cc

pub ends_ask : (owed : List Command) (ask : Command) → Ends owed ≡ Asks ask → ⊥
ends_ask owed ask is = cc

pub asks_same : (one ask : Command) → Asks one ≡ Asks ask → one ≡ ask
asks_same one ask is = cc

-- what a reply brings, behind what was owed behind the ask
abbrev pub behind_these : List Command → Turn Stage Command → Turn Stage Command
behind_these parts turned = record turned { owed = parts ++ turned.owed }

-- ---- what is found, and what is left

-- What is found says what is left: an end says all of it, a question begins it, and where nothing is found over all events nothing is left.
abbrev pub Tells : Type 0 → Look Command → List Command → Type 0
Tells over_all NotYet left = over_all → left ≡ []
Tells over_all (Asks ask) left = IsPrefixOf (said (ask ∷ [])) left × (GoesOn false (ask ∷ []) [] → ⊥)
Tells over_all (Ends owed) left = said owed ≡ left

-- nothing comes behind what is found there
abbrev pub IsLast : Type 0 → Look Command → Type 0
IsLast over_all NotYet = over_all
IsLast over_all (Asks ask) = ⊥
IsLast over_all (Ends owed) = ⊤

-- what a stage owes so far, with what it finds
pub record Here (over_all : Type 0) (closed : Bool) (look : Look Command) (so_far left : List Command) : Type 0 where
  pub begins : IsPrefixOf (said (so_far ++ found look)) left
  pub is_all : closed ≡ false → IsLast over_all look → said (so_far ++ found look) ≡ left
  pub asks : (ask : Command) → look ≡ Asks ask → GoesOn false (ask ∷ []) [] → ⊥

prefix_same : (a b : List Command) → a ≡ b → IsPrefixOf a b
prefix_same a b is = ([], sym is ∙ sym (append-nil a))

more_said : (so_far more texts behind : List Command) → said so_far ≡ texts → said more ≡ behind → said (so_far ++ more) ≡ texts ++ behind
more_said so_far more texts behind is more_is = said_join so_far more ∙ (ap (λ l. l ++ said more) is ∙ ap (λ l. texts ++ l) more_is)

-- where what it owes so far is all that is said before what is found
pub here_with : (over_all : Type 0) (closed : Bool) (leaving : List Command) (look : Look Command) (so_far texts left : List Command) →
    said so_far ≡ texts → said leaving ≡ [] → Tells over_all look left → Here over_all closed (or_leaves closed leaving look) so_far (texts ++ left)
here_with over_all true leaving NotYet so_far texts left is none tells = record {
  begins = (left, ap (λ l. l ++ left) (sym (more_said so_far leaving texts [] is none ∙ append-nil texts)));
  is_all = λ no. absurd (let e : true ≡ false = no in cc);
  asks = λ ask no. absurd (let e : Ends leaving ≡ Asks ask = no in cc);
}
here_with over_all false leaving NotYet so_far texts left is none tells = record {
  begins = (left, ap (λ l. l ++ left) (sym (more_said so_far [] texts [] is refl ∙ append-nil texts)));
  is_all = λ no over_it. more_said so_far [] texts [] is refl ∙ ap (λ l. texts ++ l) (sym (tells over_it));
  asks = λ ask no. absurd (let e : NotYet ≡ Asks ask = no in cc);
}
here_with over_all closed leaving (Asks ask) so_far texts left is none tells = record {
  begins = let P : List Command → Type 0 = λ l. IsPrefixOf l (texts ++ left) in
      subst P (sym (more_said so_far (ask ∷ []) texts (said (ask ∷ [])) is refl)) (prefix_behind texts (said (ask ∷ [])) left tells.0);
  is_all = λ no never. absurd never;
  asks = λ other same goes. (let e : ask ≡ other = (let s : Asks ask ≡ Asks other = same in cc) in
      let P : Command → Type 0 = λ c. GoesOn false (c ∷ []) [] in tells.1 (subst P (sym e) goes));
}
here_with over_all closed leaving (Ends owed) so_far texts left is none tells =
    let all = more_said so_far owed texts left is tells in record {
      begins = prefix_same (said (so_far ++ owed)) (texts ++ left) all;
      is_all = λ no last. all;
      asks = λ ask no. absurd (let e : Ends owed ≡ Asks ask = no in cc);
    }

-- where nothing is found
pub here_waiting : (over_all : Type 0) (closed : Bool) (leaving so_far texts left : List Command) →
    said so_far ≡ texts → said leaving ≡ [] → IsPrefixOf texts left → (over_all → left ≡ texts) →
    Here over_all closed (or_leaves closed leaving NotYet) so_far left
here_waiting over_all true leaving so_far texts left is none begins whole = record {
  begins = let P : List Command → Type 0 = λ l. IsPrefixOf l left in subst P (sym (more_said so_far leaving texts [] is none ∙ append-nil texts)) begins;
  is_all = λ no. absurd (let e : true ≡ false = no in cc);
  asks = λ ask no. absurd (let e : Ends leaving ≡ Asks ask = no in cc);
}
here_waiting over_all false leaving so_far texts left is none begins whole = record {
  begins = let P : List Command → Type 0 = λ l. IsPrefixOf l left in subst P (sym (more_said so_far [] texts [] is refl ∙ append-nil texts)) begins;
  is_all = λ no over_it. more_said so_far [] texts [] is refl ∙ (append-nil texts ∙ sym (whole over_it));
  asks = λ ask no. absurd (let e : NotYet ≡ Asks ask = no in cc);
}

-- ---- what each message tells: the item that is seen, and the one of all events

asks_hook : (over_all : Type 0) (flow : Flow) (hook : Hook) (left : List Command) → Tells over_all (Asks (ask_of flow hook)) left
asks_hook over_all flow hook left = ((left, refl), λ goes. goes)

module _ (over_all : Type 0) where
  module _ (terms : Terms) (events : List (Timed Event)) (point : Point) (further : Point → List Command) where
    judged_tells : (index : ℕ) (head : ReadRequest) (made : Judged) (item : Item ReadRequest) (moment : ℕ) (used : Used) (closed : Bool) →
        Tells over_all (look_judged terms index head made moment used closed) (said_judged terms events point head made item further)
    judged_tells index head (Refused fault) item moment used closed = refused_said fault (is_head head.method) used closed
    judged_tells index head (Connects address) item moment used closed = refl
    judged_tells index head (Accepted message) item moment used closed = ((_, refl), λ goes. goes)

    asked_tells : (index : ℕ) (head : ReadRequest) (item : Item ReadRequest) (moment : ℕ) (used : Used) (closed : Bool) → head_in item ≡ Some head →
        Tells over_all (look_judged terms index head (judged terms.place head) moment used closed) (said_item terms events point item further)
    asked_tells index head item moment used closed there =
        let P : Option ReadRequest → Type 0 = λ o.
        Tells over_all (look_judged terms index head (judged terms.place head) moment used closed) (said_asked terms events point o item further) in
        subst P (sym there) (judged_tells index head (judged terms.place head) item moment used closed)

    pub head_tells : (index : ℕ) (item all : Item ReadRequest) (moment : ℕ) (used : Used) (closed : Bool) → Carries item all → (over_all → all ≡ item) →
        Tells over_all (look_head terms index item moment used closed) (said_item terms events point all further)
    head_tells index missing all moment used closed carries same = λ o. ap (λ (i : Item ReadRequest). said_item terms events point i further) (same o)
    head_tells index (part head body) all moment used closed carries same = asked_tells index head all moment used closed (carries.head head refl)
    head_tells index (complete head body trailers size) all moment used closed carries same = asked_tells index head all moment used closed (carries.head head refl)
    head_tells index (bad_head fault) all moment used closed carries same =
        refused_said fault false used closed ∙ ap (λ (i : Item ReadRequest). said_item terms events point i further) (sym (carries.stays refl))
    head_tells index (bad_body fault head body) all moment used closed carries same = asked_tells index head all moment used closed (carries.head head refl)

    pub body_tells : (flow : Flow) (item all : Item ReadRequest) (moment : ℕ) (used : Used) (closed : Bool) → Carries item all → (over_all → all ≡ item) →
        Tells over_all (look_body flow item moment used closed) (said_whole terms events point flow.request all further)
    body_tells flow missing all moment used closed carries same = λ o. ap (λ (i : Item ReadRequest). said_whole terms events point flow.request i further) (same o)
    body_tells flow (part head body) all moment used closed carries same = λ o. ap (λ (i : Item ReadRequest). said_whole terms events point flow.request i further) (same o)
    body_tells flow (complete head body trailers size) all moment used closed carries same = ((_, refl), λ goes. goes)
    body_tells flow (bad_head fault) all moment used closed carries same = λ o. ap (λ (i : Item ReadRequest). said_whole terms events point flow.request i further) (same o)
    body_tells flow (bad_body fault head body) all moment used closed carries same =
        (says_fault flow fault moment used closed).is
        ∙ ap (λ (i : Item ReadRequest). said_whole terms events point flow.request i further) (sym (carries.stays refl))

  module _ (flow : Flow) (used : Used) (behind : Response → List Command) where
    relays_tell : (head : ReadResponse) (relays : Bool) (returned : List Command) (moment : ℕ) (closed : Bool) →
        Tells over_all
        (if not relays then Ends (ends_by_fault flow BadResponse moment used closed) else Asks (ask_of (with_answer flow (response_of head) moment) ResponseHead))
        (said_relayed relays flow.request returned)
    relays_tell head true returned moment closed = ((returned, refl), λ goes. goes)
    relays_tell head false returned moment closed = (says_fault flow BadResponse moment used closed).is

    headed_tells : (head : ReadResponse) (item : Item ReadResponse) (moment : ℕ) (closed : Bool) → head_in item ≡ Some head →
        Tells over_all (look_answer_head flow head moment used closed) (said_final flow.request item behind)
    headed_tells head item moment closed there =
        let P : Option ReadResponse → Type 0 = λ o. Tells over_all (look_answer_head flow head moment used closed) (said_headed flow.request o item behind) in
        subst P (sym there) (relays_tell head (is_relayed head.code) (said_returned flow.request item behind) moment closed)

    pub answer_tells : (item all : Item ReadResponse) (moment : ℕ) (closed : Bool) → Carries item all → (over_all → all ≡ item) →
        Tells over_all (look_answer flow item moment used closed) (said_final flow.request all behind)
    answer_tells missing all moment closed carries same = λ o. ap (λ (i : Item ReadResponse). said_final flow.request i behind) (same o)
    answer_tells (part head body) all moment closed carries same = headed_tells head all moment closed (carries.head head refl)
    answer_tells (complete head body trailers size) all moment closed carries same = headed_tells head all moment closed (carries.head head refl)
    answer_tells (bad_head fault) all moment closed carries same =
        (says_fault flow fault moment used closed).is ∙ ap (λ (i : Item ReadResponse). said_final flow.request i behind) (sym (carries.stays refl))
    answer_tells (bad_body fault head body) all moment closed carries same = headed_tells head all moment closed (carries.head head refl)

    pub returned_tells : (item all : Item ReadResponse) (moment : ℕ) (closed : Bool) → Carries item all → (over_all → all ≡ item) →
        Tells over_all (look_returned flow item moment used closed) (said_returned flow.request all behind)
    returned_tells missing all moment closed carries same = λ o. ap (λ (i : Item ReadResponse). said_returned flow.request i behind) (same o)
    returned_tells (part head body) all moment closed carries same = λ o. ap (λ (i : Item ReadResponse). said_returned flow.request i behind) (same o)
    returned_tells (complete head body trailers size) all moment closed carries same = ((_, refl), λ goes. goes)
    returned_tells (bad_head fault) all moment closed carries same = λ o. ap (λ (i : Item ReadResponse). said_returned flow.request i behind) (same o)
    returned_tells (bad_body fault head body) all moment closed carries same =
        (says_fault flow fault moment used closed).is ∙ ap (λ (i : Item ReadResponse). said_returned flow.request i behind) (sym (carries.stays refl))

-- ---- where nothing is found, no message is whole

pub none_found : (closed : Bool) (leaving : List Command) (look : Look Command) → or_leaves closed leaving look ≡ NotYet → look ≡ NotYet
none_found closed leaving NotYet is = refl
none_found closed leaving (Asks ask) is = is
none_found closed leaving (Ends owed) is = is

judged_found : (terms : Terms) (index : ℕ) (head : ReadRequest) (made : Judged) (moment : ℕ) (used : Used) (closed : Bool) → look_judged terms index head made moment used closed ≡ NotYet → ⊥
judged_found terms index head (Refused fault) moment used closed is = cc
judged_found terms index head (Connects address) moment used closed is = cc
judged_found terms index head (Accepted message) moment used closed is = cc

pub no_request : (terms : Terms) (index : ℕ) (item : Item ReadRequest) (moment : ℕ) (used : Used) (closed : Bool) → look_head terms index item moment used closed ≡ NotYet → is_whole item ≡ false
no_request terms index missing moment used closed is = refl
no_request terms index (part head body) moment used closed is = refl
no_request terms index (complete head body trailers size) moment used closed is = absurd (judged_found terms index head (judged terms.place head) moment used closed is)
no_request terms index (bad_head fault) moment used closed is = refl
no_request terms index (bad_body fault head body) moment used closed is = refl

pub no_body : (flow : Flow) (item : Item ReadRequest) (moment : ℕ) (used : Used) (closed : Bool) → look_body flow item moment used closed ≡ NotYet → is_whole item ≡ false
no_body flow missing moment used closed is = refl
no_body flow (part head body) moment used closed is = refl
no_body flow (complete head body trailers size) moment used closed is = absurd (cc)
no_body flow (bad_head fault) moment used closed is = refl
no_body flow (bad_body fault head body) moment used closed is = refl

relays_found : (flow : Flow) (head : ReadResponse) (moment : ℕ) (used : Used) (closed relays : Bool) →
    (if not relays then Ends (ends_by_fault flow BadResponse moment used closed) else Asks (ask_of (with_answer flow (response_of head) moment) ResponseHead)) ≡ NotYet → ⊥
relays_found flow head moment used closed true is = cc
relays_found flow head moment used closed false is = cc

pub no_answer : (flow : Flow) (item : Item ReadResponse) (moment : ℕ) (used : Used) (closed : Bool) → look_answer flow item moment used closed ≡ NotYet → is_whole item ≡ false
no_answer flow missing moment used closed is = refl
no_answer flow (part head body) moment used closed is = refl
no_answer flow (complete head body trailers size) moment used closed is = absurd (relays_found flow head moment used closed (is_relayed head.code) is)
no_answer flow (bad_head fault) moment used closed is = refl
no_answer flow (bad_body fault head body) moment used closed is = refl

pub no_return : (flow : Flow) (item : Item ReadResponse) (moment : ℕ) (used : Used) (closed : Bool) → look_returned flow item moment used closed ≡ NotYet → is_whole item ≡ false
no_return flow missing moment used closed is = refl
no_return flow (part head body) moment used closed is = refl
no_return flow (complete head body trailers size) moment used closed is = absurd (cc)
no_return flow (bad_head fault) moment used closed is = refl
no_return flow (bad_body fault head body) moment used closed is = refl
