-- What has come of another proxy that is asked for a tunnel, over one event more, and what it says.
use Rattle.std.proofs.Common.{◌≡◌, ℕ, ◌≤◌, Bool, true, false, List, [], ◌∷◌, ◌++◌, length, drop, refl, ap, sym, ◌∙◌, subst, append_assoc}
use Rattle.std.specs.Prelude.{◌||◌, if◌then◌else◌}
use Rattle.std.proofs.lemmas.List.{append-nil, drop-append-le}
use Rattle.px_event.specs.declared.event.Event.{Event}
use Rattle.px_event.specs.declared.event.Event.TheVariants as events
use Rattle.px_event.specs.declared.side.Side.{Side}
use Rattle.px_event.specs.declared.side.Side.TheVariants.{Client, Server}
use Rattle.px_event.specs.Chain.{Timed}
use Rattle.px_event.specs.Trace.{is_same_side}
use Rattle.px_event.specs.Sides.{closes, piece_of}
use Rattle.px_chain.specs.Streams.{bytes_of, client_closed, is_closed}
use Rattle.px_tunnel.specs.declared.upstream.ProxyAnswer.{ProxyAnswer}
use Rattle.px_tunnel.specs.declared.upstream.ProxyAnswer.TheVariants as answer
use Rattle.px_tunnel.specs.declared.upstream.UpstreamTunnel.{UpstreamTunnel}
use Rattle.px_tunnel.specs.Reaching.{HasHeard, rest_of}
use Rattle.px_tunnel.specs.Upstream.{Granting, awaited, granted, granting, refused, said_by}
use Rattle.px_tunnel.proofs.UpstreamLemmas.{close_refuses}
use Rattle.px_stack.specs.declared.reaching.ProxySays.{ProxySays}
use Rattle.px_stack.specs.declared.reaching.ProxySays.TheVariants as told
use Rattle.px_stack.specs.Chain.{answer_of, closed_of, text_of}
use Rattle.px_stack.specs.Reached.{HearsProxy, says_answer, says_close, says_of}
use Rattle.px_stack.specs.Stages.{Link}

-- ---- one event more

-- a close brings no bytes
close_brings_none : (side : Side) (event : Event) → closes side event ≡ true → piece_of side event ≡ []
close_brings_none side events.Begun is = refl
close_brings_none side (events.Piece from bytes) is = absurd (let no : false ≡ true = is in cc)
close_brings_none side (events.Closed from) is = refl
close_brings_none side (events.Answered ask reply) is = refl

last_text : (server : ℕ) (event : Event) (c : Bool) → closes (Server server) event ≡ c → (if c then [] else (piece_of (Server server) event ++ [])) ≡ piece_of (Server server) event
last_text server event true is = sym (close_brings_none (Server server) event is)
last_text server event false is = append-nil (piece_of (Server server) event)

text_by : (c : Bool) (more : Bool) (piece rest rest' last : List ℕ) → (c || more) ≡ false → (more ≡ false → rest' ≡ rest ++ last) →
    (if c then [] else (piece ++ rest')) ≡ (if c then [] else (piece ++ rest)) ++ last
text_by true more piece rest rest' last unshut on = absurd (let no : true ≡ false = unshut in cc)
text_by false more piece rest rest' last unshut on = ap (λ l. piece ++ l) (on unshut) ∙ sym (append_assoc piece rest last)

text_more : (server : ℕ) (prefix : List (Timed Event)) (e : Timed Event) → closed_of server prefix ≡ false →
    text_of server (prefix ++ e ∷ []) ≡ text_of server prefix ++ piece_of (Server server) e.value
text_more server [] e unshut = last_text server e.value (closes (Server server) e.value) refl
text_more server (f ∷ prefix) e unshut =
    text_by (closes (Server server) f.value) (closed_of server prefix) (piece_of (Server server) f.value) (text_of server prefix) (text_of server (prefix ++ e ∷ []))
    (piece_of (Server server) e.value) unshut (text_more server prefix e)

last_shut : (c : Bool) → (c || false) ≡ c
last_shut true = refl
last_shut false = refl

shut_by : (c more more' last : Bool) → (c || more) ≡ false → (more ≡ false → more' ≡ last) → (c || more') ≡ last
shut_by true more more' last unshut on = absurd (let no : true ≡ false = unshut in cc)
shut_by false more more' last unshut on = on unshut

shut_more : (server : ℕ) (prefix : List (Timed Event)) (e : Timed Event) → closed_of server prefix ≡ false → closed_of server (prefix ++ e ∷ []) ≡ closes (Server server) e.value
shut_more server [] e unshut = last_shut (closes (Server server) e.value)
shut_more server (f ∷ prefix) e unshut =
    shut_by (closes (Server server) f.value) (closed_of server prefix) (closed_of server (prefix ++ e ∷ [])) (closes (Server server) e.value) unshut (shut_more server prefix e)

-- of a side that is asked
module _ (link : Link) (prefix : List (Timed Event)) (e : Timed Event) (opened : link.opened ≤ length prefix)
    (unshut : closed_of link.server (drop link.opened prefix) ≡ false) where
  pub heard_more : text_of link.server (drop link.opened (prefix ++ e ∷ [])) ≡ text_of link.server (drop link.opened prefix) ++ piece_of (Server link.server) e.value
  heard_more = ap (text_of link.server) (drop-append-le link.opened prefix (e ∷ []) opened) ∙ text_more link.server (drop link.opened prefix) e unshut

  pub closed_more : closed_of link.server (drop link.opened (prefix ++ e ∷ [])) ≡ closes (Server link.server) e.value
  closed_more = ap (closed_of link.server) (drop-append-le link.opened prefix (e ∷ []) opened) ∙ shut_more link.server (drop link.opened prefix) e unshut

  pub answer_more : answer_of link (prefix ++ e ∷ [])
      ≡ granting (text_of link.server (drop link.opened prefix) ++ piece_of (Server link.server) e.value) (closes (Server link.server) e.value)
  answer_more =
      ap (λ t. granting t (closed_of link.server (drop link.opened (prefix ++ e ∷ [])))) heard_more
      ∙ ap (granting (text_of link.server (drop link.opened prefix) ++ piece_of (Server link.server) e.value)) closed_more

-- ---- while the client has not closed, it is what is heard of any side

open_first : (c more : Bool) → (if c then true else (if c then false else more)) ≡ false → (c ≡ false) × (more ≡ false)
open_first true more is = absurd (let no : true ≡ false = is in cc)
open_first false more is = (refl, is)

same_by : (client shut : Bool) (piece rest rest' : List ℕ) → client ≡ false → rest' ≡ rest → (if client || shut then [] else (piece ++ rest')) ≡ (if shut then [] else (piece ++ rest))
same_by true shut piece rest rest' is on = absurd (let no : true ≡ false = is in cc)
same_by false true piece rest rest' is on = refl
same_by false false piece rest rest' is on = ap (λ l. piece ++ l) on

pub same_text : (server : ℕ) (prefix : List (Timed Event)) → client_closed prefix ≡ false → bytes_of (Server server) prefix ≡ text_of server prefix
same_text server [] open_still = refl
same_text server (e ∷ prefix) open_still =
    let parts = open_first (closes Client e.value) (client_closed prefix) open_still in
    same_by (closes Client e.value) (closes (Server server) e.value) (piece_of (Server server) e.value) (text_of server prefix) (bytes_of (Server server) prefix) parts.0
    (same_text server prefix parts.1)

same_close_by : (client shut more more' : Bool) → client ≡ false → more' ≡ more → (if shut then true else (if client then false else more')) ≡ (shut || more)
same_close_by client true more more' is on = refl
same_close_by true false more more' is on = absurd (let no : true ≡ false = is in cc)
same_close_by false false more more' is on = on

pub same_close : (server : ℕ) (prefix : List (Timed Event)) → client_closed prefix ≡ false → is_closed (Server server) prefix ≡ closed_of server prefix
same_close server [] open_still = refl
same_close server (e ∷ prefix) open_still =
    let parts = open_first (closes Client e.value) (client_closed prefix) open_still in
    same_close_by (closes Client e.value) (closes (Server server) e.value) (closed_of server prefix) (is_closed (Server server) prefix) parts.0 (same_close server prefix parts.1)

-- ---- what it says

pub says_nothing : (found : Granting) (shut : Bool) → told.Nothing ≡ says_of found shut → found ≡ awaited
says_nothing awaited shut is = refl
says_nothing (granted used) shut is = absurd (let no : told.Nothing ≡ told.Yes = is in cc)
says_nothing refused shut is = absurd (let no : told.Nothing ≡ told.No shut = is in cc)

pub says_yes : (found : Granting) (shut : Bool) → told.Yes ≡ says_of found shut → (used : ℕ) × (found ≡ granted used)
says_yes awaited shut is = absurd (let no : told.Yes ≡ told.Nothing = is in cc)
says_yes (granted used) shut is = (used, refl)
says_yes refused shut is = absurd (let no : told.Yes ≡ told.No shut = is in cc)

same_shut : (a b : Bool) → told.No a ≡ told.No b → a ≡ b
same_shut a b is = cc

pub says_no : (found : Granting) (shut said : Bool) → told.No said ≡ says_of found shut → (found ≡ refused) × (said ≡ shut)
says_no awaited shut said is = absurd (let no : told.No said ≡ told.Nothing = is in cc)
says_no (granted used) shut said is = absurd (let no : told.No said ≡ told.Yes = is in cc)
says_no refused shut said is = (refl, same_shut said shut is)

-- Where it grants, no close did: what was awaited before a close is refused.
pub grants_open : (text piece : List ℕ) (shut : Bool) (used : ℕ) → granting text false ≡ awaited → (shut ≡ true → piece ≡ []) → granting (text ++ piece) shut ≡ granted used → shut ≡ false
grants_open text piece false used before empty is = refl
grants_open text piece true used before empty is =
    let same : text ++ piece ≡ text = ap (λ l. text ++ l) (empty refl) ∙ append-nil text in
    absurd (let no : refused ≡ granted used = sym (ap (λ t. granting t true) same ∙ close_refuses text before) ∙ is in cc)

pub closing_piece : (server : ℕ) (event : Event) → closes (Server server) event ≡ true → piece_of (Server server) event ≡ []
closing_piece server event is = close_brings_none (Server server) event is

-- nothing is awaited behind a close
pub awaits_open : (text piece : List ℕ) (shut : Bool) → granting text false ≡ awaited → (shut ≡ true → piece ≡ []) → granting (text ++ piece) shut ≡ awaited → shut ≡ false
awaits_open text piece false before empty is = refl
awaits_open text piece true before empty is =
    let same : text ++ piece ≡ text = ap (λ l. text ++ l) (empty refl) ∙ append-nil text in
    absurd (let no : refused ≡ awaited = sym (ap (λ t. granting t true) same ∙ close_refuses text before) ∙ is in cc)

-- ---- what is heard of it

module _ (server : ℕ) where
  -- an event that is not the proxy's says nothing
  pub hears_nothing : (asked : UpstreamTunnel) (event : Event) → piece_of (Server server) event ≡ [] → closes (Server server) event ≡ false →
      HearsProxy server asked asked event told.Nothing
  hears_nothing asked event none unshut text heard =
      let same : text ++ piece_of (Server server) event ≡ text = ap (λ l. text ++ l) none ∙ append-nil text in
      let stays : granting (text ++ piece_of (Server server) event) false ≡ awaited = ap (λ t. granting t false) same ∙ heard.awaits in
      let P : List ℕ → Type 0 = λ t. HasHeard asked t in
      record {
        says_is = sym (ap (λ b. says_of (granting (text ++ piece_of (Server server) event) b) b) unshut ∙ ap (λ g. says_of g false) stays);
        nothing = λ is. subst P (sym same) heard;
        yes = λ used is. absurd (let no : awaited ≡ granted used = sym stays ∙ is in cc);
      }

  -- its close
  pub hears_close : (asked : UpstreamTunnel) (event : Event) → piece_of (Server server) event ≡ [] → (shut : Bool) → closes (Server server) event ≡ shut →
      HearsProxy server asked asked event (says_close shut)
  hears_close asked event none false is text heard = hears_nothing asked event none is text heard
  hears_close asked event none true is text heard =
      let same : text ++ piece_of (Server server) event ≡ text = ap (λ l. text ++ l) none ∙ append-nil text in
      let refuses : granting (text ++ piece_of (Server server) event) true ≡ refused = ap (λ t. granting t true) same ∙ close_refuses text heard.awaits in
      let stays : granting (text ++ piece_of (Server server) event) false ≡ awaited = ap (λ t. granting t false) same ∙ heard.awaits in
      record {
        says_is = sym (ap (λ b. says_of (granting (text ++ piece_of (Server server) event) b) b) is ∙ ap (λ g. says_of g true) refuses);
        nothing = λ said. absurd (let no : told.No true ≡ told.Nothing = said in cc);
        yes = λ used at. absurd (let no : awaited ≡ granted used = sym stays ∙ at in cc);
      }

  answer_says : (found : Granting) → says_answer (said_by found) ≡ says_of found false
  answer_says awaited = refl
  answer_says (granted used) = refl
  answer_says refused = refl

  says_awaited : (told_of : ProxyAnswer) → says_answer told_of ≡ told.Nothing → told_of ≡ answer.Awaited
  says_awaited answer.Awaited is = refl
  says_awaited answer.Granted is = absurd (let no : told.Yes ≡ told.Nothing = is in cc)
  says_awaited answer.Refused is = absurd (let no : told.No false ≡ told.Nothing = is in cc)

  -- a piece of its text
  pub hears_piece : (before after : UpstreamTunnel) (side : Side) (bytes : List ℕ) (told_of : ProxyAnswer) → is_same_side side (Server server) ≡ true →
      ((text : List ℕ) → HasHeard before text → told_of ≡ said_by (granting (text ++ bytes) false)) →
      ((text : List ℕ) → HasHeard before text → told_of ≡ answer.Awaited → HasHeard after (text ++ bytes)) →
      ((text : List ℕ) → HasHeard before text → (used : ℕ) → granting (text ++ bytes) false ≡ granted used → rest_of after ≡ drop used (text ++ bytes)) →
      HearsProxy server before after (events.Piece side bytes) (says_answer told_of)
  hears_piece before after side bytes told_of is answers awaits grants text heard =
      let brings : piece_of (Server server) (events.Piece side bytes) ≡ bytes = ap (λ b. if b then bytes else []) is in
      let P : List ℕ → Type 0 = λ piece. HasHeard after (text ++ piece) in
      record {
        says_is = ap says_answer (answers text heard) ∙ (answer_says (granting (text ++ bytes) false) ∙ ap (λ piece. says_of (granting (text ++ piece) false) false) (sym brings));
        nothing = λ said. subst P (sym brings) (awaits text heard (says_awaited told_of said));
        yes = λ used at. grants text heard used (ap (λ piece. granting (text ++ piece) false) (sym brings) ∙ at) ∙ ap (λ piece. drop used (text ++ piece)) (sym brings);
      }

  pub hears_others : (asked : UpstreamTunnel) (side : Side) (bytes : List ℕ) → is_same_side side (Server server) ≡ false →
      HearsProxy server asked asked (events.Piece side bytes) told.Nothing
  hears_others asked side bytes is = hears_nothing asked (events.Piece side bytes) (ap (λ b. if b then bytes else []) is) refl

-- ---- by the event

-- what is no close closes nothing
pub unshut_others : (side : Side) (event : Event) → ((from : Side) → event ≡ events.Closed from → ⊥) → closes side event ≡ false
unshut_others side events.Begun none = refl
unshut_others side (events.Piece from bytes) none = refl
unshut_others side (events.Closed from) none = absurd (none from refl)
unshut_others side (events.Answered ask reply) none = refl

-- what a function said
pub said_as : (server : ℕ) (before after : UpstreamTunnel) (event : Event) (says known : ProxySays) → says ≡ known → HearsProxy server before after event known →
    HearsProxy server before after event says
said_as server before after event says known is hears = let P : ProxySays → Type 0 = λ s. HearsProxy server before after event s in subst P (sym is) hears
