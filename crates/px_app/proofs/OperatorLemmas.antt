-- Operators of a run: where their lines stand, one thing heard further, and what is heard of them.
use Rattle.std.proofs.Common.{◌≡◌, ◌≢◌, ℕ, Bool, true, false, ◌==◌, ◌&&◌, not, if◌then◌else◌, List, [], ◌∷◌, ◌++◌, Option, Some, None, is_some, refl, ap, sym, ◌∙◌, subst, eq-eqb, eqb-true}
use Rattle.std.specs.List.{list_any}
use Rattle.std.proofs.lemmas.Bool.{and_parts, eqb-false, ne_eqb, not-true}
use Rattle.px_message.specs.declared.address.Address.{Address}
use Rattle.px_event.specs.declared.heard.Heard.{Heard}
use Rattle.px_event.specs.declared.heard.Heard.TheVariants as heard
use Rattle.px_event.specs.declared.said.Said.{Said}
use Rattle.px_event.specs.declared.said.Said.TheVariants as said
use Rattle.px_event.specs.declared.side.Door.TheVariants.{Control, Proxy}
use Rattle.px_event.specs.declared.side.Side.TheVariants.{Client, Server}
use Rattle.px_event.specs.declared.step.Step.{Step}
use Rattle.px_event.specs.declared.step.Step.TheVariants as steps
use Rattle.px_event.specs.Trace.{Trace}
use Rattle.px_core.specs.declared.news.News.{News}
use Rattle.px_core.specs.declared.news.News.TheVariants as news
use Rattle.px_core.specs.Calls.{Calls, addressed, begins, calls, calls_from, calls_on, dial_ends, dials, hears_by, is_connected, is_dialling, no_calls, takes}
use Rattle.px_view.specs.declared.desk.Line.{Line}
use Rattle.px_view.specs.declared.desk.Line.TheVariants as line
use Rattle.px_view.specs.Desk.{Stand, fresh, is_feed, is_full, stand_of, stands, told, without_return}
use Rattle.px_app.specs.Operators.{nothing, says, leaves, leaves_at, operator_stand, says_at, stand_by_step, stand_from, stand_on, word_of}
use Rattle.px_app.specs.Operating.{OperatorsStand, accepted_by, is_open, spoken_of, stand_in}
use Rattle.px_app.specs.declared.operators.Operators.{Operators}
use Rattle.px_app.specs.declared.operators.Spoken.TheVariants as spoken
use Rattle.px_app.proofs.TurnLemmas.{NoneHeard}

-- ---- where lines stand, some steps further

stand_from_more : (conv : ℕ) (stand : Stand) (front more : Trace) → stand_from conv stand (front ++ more) ≡ stand_from conv (stand_from conv stand front) more
stand_from_more conv stand [] more = refl
stand_from_more conv stand (step ∷ front) more = stand_from_more conv (stand_by_step conv stand step) front more

stand_quiet : (conv : ℕ) (stand : Stand) (more : Trace) → NoneHeard more → stand_from conv stand more ≡ stand
stand_quiet conv stand [] none = refl
stand_quiet conv stand (steps.Heard moment what ∷ more) none = absurd none
stand_quiet conv stand (steps.Begun number ∷ more) none = absurd none
stand_quiet conv stand (steps.Asked number ask ∷ more) none = stand_quiet conv stand more none
stand_quiet conv stand (steps.Answered number ask reply ∷ more) none = stand_quiet conv stand more none
stand_quiet conv stand (steps.Said number what ∷ more) none = stand_quiet conv stand more none
stand_quiet conv stand (steps.Done flow ∷ more) none = stand_quiet conv stand more none

-- one thing heard, and steps in which nothing is
pub stand_heard : (conv : ℕ) (trace : Trace) (moment : ℕ) (what : Heard) (more : Trace) → NoneHeard more →
    operator_stand conv ((trace ++ steps.Heard moment what ∷ []) ++ more) ≡ stand_on conv (operator_stand conv trace) what
stand_heard conv trace moment what more none =
    let there : Trace = trace ++ steps.Heard moment what ∷ [] in
    stand_from_more conv None there more ∙ (stand_quiet conv (stand_from conv None there) more none ∙ stand_from_more conv None trace (steps.Heard moment what ∷ []))

-- a conversation that begins, and steps in which nothing is heard
pub stand_begun : (conv : ℕ) (trace : Trace) (number : ℕ) (more : Trace) → NoneHeard more → operator_stand conv ((trace ++ steps.Begun number ∷ []) ++ more) ≡ operator_stand conv trace
stand_begun conv trace number more none =
    let there : Trace = trace ++ steps.Begun number ∷ [] in
    stand_from_more conv None there more ∙ (stand_quiet conv (stand_from conv None there) more none ∙ stand_from_more conv None trace (steps.Begun number ∷ []))

-- ---- a conversation that has begun stays so

some_if : (test : Bool) (one other : Calls) → is_some one.peer ≡ true → is_some other.peer ≡ true → is_some (if test then one else other).peer ≡ true
some_if true one other a b = a
some_if false one other a b = b

begun_takes : (moment : ℕ) (c : Calls) (what : News) → is_some c.peer ≡ true → is_some (takes moment c what).peer ≡ true
begun_takes moment c (news.Begun peer) is = some_if (is_some c.peer) c _ is refl
begun_takes moment c (news.Event side event) is = some_if (is_some c.peer) _ c (some_if (is_connected side c.connected) _ c is is) is
begun_takes moment c (news.Dialled server ok) is = some_if (is_dialling server c.dial) (dial_ends moment server ok c) c is is

begun_hears : (conv moment : ℕ) (c : Calls) (what : Option (ℕ × News)) → is_some c.peer ≡ true → is_some (hears_by conv moment c what).peer ≡ true
begun_hears conv moment c None is = is
begun_hears conv moment c (Some (number, what)) is = some_if (number == conv) (takes moment c what) c (begun_takes moment c what is) is

begun_dials : (what : Said) (c : Calls) → is_some c.peer ≡ true → is_some (dials what c).peer ≡ true
begun_dials (said.Send side bytes) c is = is
begun_dials (said.Close side) c is = is
begun_dials (said.Dial server address) c is = is

begun_on : (conv : ℕ) (c : Calls) (step : Step) → is_some c.peer ≡ true → is_some (calls_on conv c step).peer ≡ true
begun_on conv c (steps.Heard moment what) is = begun_hears conv moment c (addressed what) is
begun_on conv c (steps.Begun number) is = some_if (number == conv) (begins c.moment None c) c (some_if (is_some c.peer) c _ is refl) is
begun_on conv c (steps.Asked number ask) is = is
begun_on conv c (steps.Answered number ask reply) is = some_if (number == conv) _ c is is
begun_on conv c (steps.Said number what) is = some_if (number == conv) (dials what c) c (begun_dials what c is) is
begun_on conv c (steps.Done flow) is = is

begun_from : (conv : ℕ) (c : Calls) (more : Trace) → is_some c.peer ≡ true → is_some (calls_from conv c more).peer ≡ true
begun_from conv c [] is = is
begun_from conv c (step ∷ more) is = begun_from conv (calls_on conv c step) more (begun_on conv c step is)

pub calls_from_more : (conv : ℕ) (c : Calls) (front more : Trace) → calls_from conv c (front ++ more) ≡ calls_from conv (calls_from conv c front) more
calls_from_more conv c [] more = refl
calls_from_more conv c (step ∷ front) more = calls_from_more conv (calls_on conv c step) front more

none_by : {A : Type 0} (o : Option A) → (is_some o ≡ true → ⊥) → o ≡ None
none_by None never = refl
none_by (Some x) never = absurd (never refl)

not_some : {A : Type 0} (o : Option A) → o ≡ None → is_some o ≡ true → ⊥
not_some None is some = absurd (cc)
not_some (Some x) is some = absurd (cc)

-- where it has not begun, it had not before
pub not_begun : (conv : ℕ) (trace more : Trace) → (calls conv (trace ++ more)).peer ≡ None → (calls conv trace).peer ≡ None
not_begun conv trace more none = none_by (calls conv trace).peer (λ begun.
    not_some (calls conv (trace ++ more)).peer none (ap (λ (c : Calls). is_some c.peer) (calls_from_more conv no_calls trace more) ∙ begun_from conv (calls conv trace) more begun))

-- ---- lines that are too long

-- whether the line is too long
abbrev pub is_long : Line → Bool
is_long (line.Text text) = false
is_long line.TooLong = true

pub stands_none : (bytes : List ℕ) → stands bytes None ≡ None
stands_none [] = refl
stands_none (b ∷ bytes) = stands_none bytes

long_on : (b : ℕ) (bytes kept : List ℕ) (feed full : Bool) → ((text : List ℕ) → is_some (stands bytes (Some text)) ≡ not (list_any is_long (told bytes (Some text)))) →
    is_some (stands bytes (if feed then fresh else (if full then None else Some (kept ++ b ∷ []))))
    ≡ not (list_any is_long ((if feed then line.Text (without_return kept) ∷ [] else (if full then line.TooLong ∷ [] else [])) ++ told bytes (if feed then fresh else (if full then None else Some (kept ++ b ∷ [])))))
long_on b bytes kept true full each = each []
long_on b bytes kept false true each = ap is_some (stands_none bytes)
long_on b bytes kept false false each = each (kept ++ b ∷ [])

-- of a connection more may come exactly where none of its lines is too long
pub goes_on_by : (bytes kept : List ℕ) → is_some (stands bytes (Some kept)) ≡ not (list_any is_long (told bytes (Some kept)))
goes_on_by [] kept = refl
goes_on_by (b ∷ bytes) kept = long_on b bytes kept (is_feed b) (is_full kept) (goes_on_by bytes)

pub goes_on_so : (bytes : List ℕ) (stand : Stand) → is_some stand ≡ true → is_some (stands bytes stand) ≡ not (list_any is_long (told bytes stand))
goes_on_so bytes None some = absurd (cc)
goes_on_so bytes (Some kept) some = goes_on_by bytes kept

-- ---- what is heard of operators

-- what is known of a connection that is an operator's
pub record IsOperator (operators : Operators) (trace : Trace) (conv : ℕ) : Type 0 where
  pub opened : is_open operators conv ≡ true
  pub none : (calls conv trace).peer ≡ None
  pub stand : stand_of operators.desk conv ≡ operator_stand conv trace
  pub some : is_some (stand_of operators.desk conv) ≡ true

pub no_peer : (peer : Option (Option Address)) (known : Bool) → known ≡ is_some peer → not known ≡ true → peer ≡ None
no_peer None known is never = refl
no_peer (Some p) known is never = absurd (let yes : known ≡ false = not-true known never in cc)

-- it is one where the test says so
pub operator_by : (operators : Operators) (trace : Trace) (conv : ℕ) (known : Bool) → OperatorsStand operators trace → known ≡ is_some (calls conv trace).peer → (is_open operators conv && not known) ≡ true →
    IsOperator operators trace conv
operator_by operators trace conv known they is test =
    let parts = and_parts (is_open operators conv) (not known) test in
    let none = no_peer (calls conv trace).peer known is parts.1 in
    record {
      opened = parts.0;
      none = none;
      stand = sym (ap (λ (b : Bool). if b then stand_of operators.desk conv else None) parts.0) ∙ they.at conv none;
      some = they.go_on conv parts.0;
    }

says_is : (conv : ℕ) (stand there : Stand) (peer : Option (Option Address)) (bytes : List ℕ) → peer ≡ None → there ≡ stand → is_some there ≡ true → says_at conv stand peer bytes ≡ says conv (told bytes there)
says_is conv None there peer bytes none same some = absurd (let never : is_some there ≡ false = ap is_some same in cc)
says_is conv (Some kept) there None bytes none same some = ap (λ s. says conv (told bytes s)) (sym same)
says_is conv (Some kept) there (Some p) bytes none same some = absurd (cc)

leaves_is : (conv : ℕ) (stand there : Stand) (peer : Option (Option Address)) → peer ≡ None → there ≡ stand → is_some there ≡ true → leaves_at conv stand peer ≡ leaves conv
leaves_is conv None there peer none same some = absurd (let never : is_some there ≡ false = ap is_some same in cc)
leaves_is conv (Some kept) there None none same some = refl
leaves_is conv (Some kept) there (Some p) none same some = absurd (cc)

pub operator_says : (operators : Operators) (trace : Trace) (conv : ℕ) (bytes : List ℕ) → IsOperator operators trace conv →
    word_of trace (heard.Piece conv Client bytes) ≡ says conv (told bytes (stand_of operators.desk conv))
operator_says operators trace conv bytes is = says_is conv (operator_stand conv trace) (stand_of operators.desk conv) (calls conv trace).peer bytes is.none is.stand is.some

pub operator_leaves : (operators : Operators) (trace : Trace) (conv : ℕ) → IsOperator operators trace conv → word_of trace (heard.Closed conv Client) ≡ leaves conv
operator_leaves operators trace conv is = leaves_is conv (operator_stand conv trace) (stand_of operators.desk conv) (calls conv trace).peer is.none is.stand is.some

silent_says : (conv : ℕ) (stand : Stand) (peer : Option (Option Address)) (bytes : List ℕ) (opened known : Bool) (there : Stand) → known ≡ is_some peer →
    (peer ≡ None → (if opened then there else None) ≡ stand) → (opened && not known) ≡ false → says_at conv stand peer bytes ≡ nothing
silent_says conv None None bytes opened known there is at test = refl
silent_says conv None (Some p) bytes opened known there is at test = refl
silent_says conv (Some kept) (Some p) bytes opened known there is at test = refl
silent_says conv (Some kept) None bytes true true there is at test = absurd (cc)
silent_says conv (Some kept) None bytes true false there is at test = absurd (cc)
silent_says conv (Some kept) None bytes false known there is at test = absurd (let never : None ≡ Some kept = at refl in cc)

silent_leaves : (conv : ℕ) (stand : Stand) (peer : Option (Option Address)) (opened known : Bool) (there : Stand) → known ≡ is_some peer →
    (peer ≡ None → (if opened then there else None) ≡ stand) → (opened && not known) ≡ false → leaves_at conv stand peer ≡ nothing
silent_leaves conv None None opened known there is at test = refl
silent_leaves conv None (Some p) opened known there is at test = refl
silent_leaves conv (Some kept) (Some p) opened known there is at test = refl
silent_leaves conv (Some kept) None true true there is at test = absurd (cc)
silent_leaves conv (Some kept) None true false there is at test = absurd (cc)
silent_leaves conv (Some kept) None false known there is at test = absurd (let never : None ≡ Some kept = at refl in cc)

-- ---- what the test says of something heard

no_piece : (test : Bool) (conv : ℕ) (bytes : List ℕ) (other : Heard) → (if test then spoken.Says conv bytes else spoken.Nothing (heard.Piece conv Client bytes)) ≡ spoken.Nothing other → test ≡ false
no_piece true conv bytes other is = absurd (cc)
no_piece false conv bytes other is = refl

no_close : (test : Bool) (conv : ℕ) (other : Heard) → (if test then spoken.Leaves conv else spoken.Nothing (heard.Closed conv Client)) ≡ spoken.Nothing other → test ≡ false
no_close true conv other is = absurd (cc)
no_close false conv other is = refl

-- what the test says is nothing to operators is nothing to them behind the trace
pub nothing_said : (operators : Operators) (known : ℕ → Bool) (trace : Trace) (what : Heard) → OperatorsStand operators trace → ((conv : ℕ) → known conv ≡ is_some (calls conv trace).peer) →
    spoken_of (λ conv. is_open operators conv && not (known conv)) what ≡ spoken.Nothing what → word_of trace what ≡ nothing
nothing_said operators known trace (heard.Accepted conv door peer) they is none = refl
nothing_said operators known trace (heard.Piece conv Client bytes) they is none =
    silent_says conv (operator_stand conv trace) (calls conv trace).peer bytes (is_open operators conv) (known conv) (stand_of operators.desk conv) (is conv) (they.at conv)
    (no_piece (is_open operators conv && not (known conv)) conv bytes (heard.Piece conv Client bytes) none)
nothing_said operators known trace (heard.Piece conv (Server number) bytes) they is none = refl
nothing_said operators known trace (heard.Closed conv Client) they is none =
    silent_leaves conv (operator_stand conv trace) (calls conv trace).peer (is_open operators conv) (known conv) (stand_of operators.desk conv) (is conv) (they.at conv)
    (no_close (is_open operators conv && not (known conv)) conv (heard.Closed conv Client) none)
nothing_said operators known trace (heard.Closed conv (Server number)) they is none = refl
nothing_said operators known trace (heard.Dialled conv server ok) they is none = refl
nothing_said operators known trace heard.End they is none = refl

piece_same : (test : Bool) (conv : ℕ) (bytes : List ℕ) (other : Heard) → (if test then spoken.Says conv bytes else spoken.Nothing (heard.Piece conv Client bytes)) ≡ spoken.Nothing other → heard.Piece conv Client bytes ≡ other
piece_same true conv bytes other is = absurd (cc)
piece_same false conv bytes other is = cc

close_same : (test : Bool) (conv : ℕ) (other : Heard) → (if test then spoken.Leaves conv else spoken.Nothing (heard.Closed conv Client)) ≡ spoken.Nothing other → heard.Closed conv Client ≡ other
close_same true conv other is = absurd (cc)
close_same false conv other is = cc

-- what is nothing to operators is handed on
pub nothing_same : (is_operator : ℕ → Bool) (what other : Heard) → spoken_of is_operator what ≡ spoken.Nothing other → what ≡ other
nothing_same is_operator (heard.Accepted conv door peer) other is = cc
nothing_same is_operator (heard.Piece conv Client bytes) other is = piece_same (is_operator conv) conv bytes other is
nothing_same is_operator (heard.Piece conv (Server number) bytes) other is = cc
nothing_same is_operator (heard.Closed conv Client) other is = close_same (is_operator conv) conv other is
nothing_same is_operator (heard.Closed conv (Server number)) other is = cc
nothing_same is_operator (heard.Dialled conv server ok) other is = cc
nothing_same is_operator heard.End other is = cc

pub nothing_again : (is_operator : ℕ → Bool) (what other : Heard) → spoken_of is_operator what ≡ spoken.Nothing other → spoken_of is_operator other ≡ spoken.Nothing other
nothing_again is_operator what other is =
    let P : Heard → Type 0 = λ w. spoken_of is_operator w ≡ spoken.Nothing other in subst P (nothing_same is_operator what other is) is

-- bytes of an operator
pub record IsSaidBy (is_operator : ℕ → Bool) (what : Heard) (conv : ℕ) (bytes : List ℕ) : Type 0 where
  pub same : heard.Piece conv Client bytes ≡ what
  pub test : is_operator conv ≡ true

said_if : (is_operator : ℕ → Bool) (test : Bool) (number : ℕ) (text : List ℕ) (conv : ℕ) (bytes : List ℕ) → is_operator number ≡ test →
    (if test then spoken.Says number text else spoken.Nothing (heard.Piece number Client text)) ≡ spoken.Says conv bytes → IsSaidBy is_operator (heard.Piece number Client text) conv bytes
said_if is_operator true number text conv bytes by is =
    let at : number ≡ conv = cc in let these : text ≡ bytes = cc in
    record { same = ap (λ (n : ℕ). heard.Piece n Client bytes) (sym at) ∙ ap (λ (t : List ℕ). heard.Piece number Client t) (sym these); test = ap is_operator (sym at) ∙ by }
said_if is_operator false number text conv bytes by is = absurd (cc)

pub is_said_by : (is_operator : ℕ → Bool) (what : Heard) (conv : ℕ) (bytes : List ℕ) → spoken_of is_operator what ≡ spoken.Says conv bytes → IsSaidBy is_operator what conv bytes
is_said_by is_operator (heard.Accepted number door peer) conv bytes is = absurd (cc)
is_said_by is_operator (heard.Piece number Client text) conv bytes is = said_if is_operator (is_operator number) number text conv bytes refl is
is_said_by is_operator (heard.Piece number (Server other) text) conv bytes is = absurd (cc)
is_said_by is_operator (heard.Closed number Client) conv bytes is = absurd (closed_not (is_operator number) is)
  where
    closed_not : (test : Bool) → (if test then spoken.Leaves number else spoken.Nothing (heard.Closed number Client)) ≡ spoken.Says conv bytes → ⊥
    closed_not true never = absurd (cc)
    closed_not false never = absurd (cc)
is_said_by is_operator (heard.Closed number (Server other)) conv bytes is = absurd (cc)
is_said_by is_operator (heard.Dialled number server ok) conv bytes is = absurd (cc)
is_said_by is_operator heard.End conv bytes is = absurd (cc)

-- an operator leaves
pub record IsLeftBy (is_operator : ℕ → Bool) (what : Heard) (conv : ℕ) : Type 0 where
  pub same : heard.Closed conv Client ≡ what
  pub test : is_operator conv ≡ true

left_if : (is_operator : ℕ → Bool) (test : Bool) (number conv : ℕ) → is_operator number ≡ test →
    (if test then spoken.Leaves number else spoken.Nothing (heard.Closed number Client)) ≡ spoken.Leaves conv → IsLeftBy is_operator (heard.Closed number Client) conv
left_if is_operator true number conv by is =
    let at : number ≡ conv = cc in record { same = ap (λ (n : ℕ). heard.Closed n Client) (sym at); test = ap is_operator (sym at) ∙ by }
left_if is_operator false number conv by is = absurd (cc)

pub is_left_by : (is_operator : ℕ → Bool) (what : Heard) (conv : ℕ) → spoken_of is_operator what ≡ spoken.Leaves conv → IsLeftBy is_operator what conv
is_left_by is_operator (heard.Accepted number door peer) conv is = absurd (cc)
is_left_by is_operator (heard.Piece number Client text) conv is = absurd (piece_not (is_operator number) is)
  where
    piece_not : (test : Bool) → (if test then spoken.Says number text else spoken.Nothing (heard.Piece number Client text)) ≡ spoken.Leaves conv → ⊥
    piece_not true never = absurd (cc)
    piece_not false never = absurd (cc)
is_left_by is_operator (heard.Piece number (Server other) text) conv is = absurd (cc)
is_left_by is_operator (heard.Closed number Client) conv is = left_if is_operator (is_operator number) number conv refl is
is_left_by is_operator (heard.Closed number (Server other)) conv is = absurd (cc)
is_left_by is_operator (heard.Dialled number server ok) conv is = absurd (cc)
is_left_by is_operator heard.End conv is = absurd (cc)

-- ---- operators stand, one thing heard further

-- one connection changed, and the others are what they were
pub record Changes (conv : ℕ) (before after : Operators) : Type 0 where
  pub others : (other : ℕ) → other ≢ conv → is_open after other ≡ is_open before other
  pub other_stands : (other : ℕ) → other ≢ conv → stand_of after.desk other ≡ stand_of before.desk other

-- where the trace goes: one thing heard, and steps in which nothing is
pub record Hears (trace : Trace) (moment : ℕ) (what : Heard) (next : Trace) : Type 0 where
  pub added : Trace
  pub is_next : next ≡ (trace ++ steps.Heard moment what ∷ []) ++ added
  pub quiet : NoneHeard added

stand_next : (conv : ℕ) (trace : Trace) (moment : ℕ) (what : Heard) (next : Trace) → Hears trace moment what next → operator_stand conv next ≡ stand_on conv (operator_stand conv trace) what
stand_next conv trace moment what next h = ap (operator_stand conv) h.is_next ∙ stand_heard conv trace moment what h.added h.quiet

begun_next : (conv : ℕ) (trace : Trace) (moment : ℕ) (what : Heard) (next : Trace) → Hears trace moment what next → (calls conv next).peer ≡ None → (calls conv trace).peer ≡ None
begun_next conv trace moment what next h none =
    let there : Trace = trace ++ steps.Heard moment what ∷ [] in
    not_begun conv trace (steps.Heard moment what ∷ []) (not_begun conv there h.added (sym (ap (λ (t : Trace). (calls conv t).peer) h.is_next) ∙ none))

pub stand_open : (operators : Operators) (conv : ℕ) → is_open operators conv ≡ true → stand_in operators conv ≡ stand_of operators.desk conv
stand_open operators conv is = ap (λ (b : Bool). if b then stand_of operators.desk conv else None) is

closed_so : (b : Bool) (stand : Stand) → b ≢ true → (if b then stand else None) ≡ None
closed_so true stand never = absurd (never refl)
closed_so false stand never = refl

pub stand_closed : (operators : Operators) (conv : ℕ) → is_open operators conv ≢ true → stand_in operators conv ≡ None
stand_closed operators conv never = closed_so (is_open operators conv) (stand_of operators.desk conv) never

stand_same : (before after : Operators) (conv : ℕ) → is_open after conv ≡ is_open before conv → stand_of after.desk conv ≡ stand_of before.desk conv → stand_in after conv ≡ stand_in before conv
stand_same before after conv opened same =
    ap (λ (b : Bool). if b then stand_of after.desk conv else None) opened ∙ ap (λ (s : Stand). if is_open before conv then s else None) same

-- what is heard moves the lines of this connection alone
abbrev MovesOne : ℕ → Heard → Type 0
MovesOne number what = (other : ℕ) (stand : Stand) → other ≢ number → stand_on other stand what ≡ stand

module _ (before after : Operators) (trace : Trace) (moment : ℕ) (what : Heard) (next : Trace) (hears : Hears trace moment what next) (they : OperatorsStand before trace) (number : ℕ)
    (changes : Changes number before after) (moves : MovesOne number what)
    (here : (calls number trace).peer ≡ None → stand_in after number ≡ stand_on number (operator_stand number trace) what) (goes_on : is_open after number ≡ true → is_some (stand_of after.desk number) ≡ true) where
  at_here : (conv : ℕ) (test : Bool) → (number == conv) ≡ test → (calls conv next).peer ≡ None → stand_in after conv ≡ operator_stand conv next
  at_here conv true is none =
      let same : number ≡ conv = eqb-true number conv is in
      let P : ℕ → Type 0 = λ n. (calls n next).peer ≡ None → stand_in after n ≡ operator_stand n next in
      subst P same (λ not_there. here (begun_next number trace moment what next hears not_there) ∙ sym (stand_next number trace moment what next hears)) none
  at_here conv false is none =
      let apart : conv ≢ number = λ same. eqb-false number conv is (sym same) in
      stand_same before after conv (changes.others conv apart) (changes.other_stands conv apart)
      ∙ (they.at conv (begun_next conv trace moment what next hears none) ∙ (sym (moves conv (operator_stand conv trace) apart) ∙ sym (stand_next conv trace moment what next hears)))

  go_on_here : (conv : ℕ) (test : Bool) → (number == conv) ≡ test → is_open after conv ≡ true → is_some (stand_of after.desk conv) ≡ true
  go_on_here conv true is opened =
      let same : number ≡ conv = eqb-true number conv is in
      let P : ℕ → Type 0 = λ n. is_open after n ≡ true → is_some (stand_of after.desk n) ≡ true in
      subst P same goes_on opened
  go_on_here conv false is opened =
      let apart : conv ≢ number = λ same. eqb-false number conv is (sym same) in
      ap is_some (changes.other_stands conv apart) ∙ they.go_on conv (sym (changes.others conv apart) ∙ opened)

  changed_on : OperatorsStand after next
  changed_on = record {
    at = λ conv none. at_here conv (number == conv) refl none;
    go_on = λ conv opened. go_on_here conv (number == conv) refl opened;
  }

-- what an apart number tests
apart_test : (number other : ℕ) → other ≢ number → (number == other) ≡ false
apart_test number other apart = ne_eqb number other (λ same. apart (sym same))

if_apart : (number other : ℕ) (one stand : Stand) → other ≢ number → (if number == other then one else stand) ≡ stand
if_apart number other one stand apart = ap (λ (b : Bool). if b then one else stand) (apart_test number other apart)

if_same : (number : ℕ) (one stand : Stand) → (if number == number then one else stand) ≡ one
if_same number one stand = ap (λ (b : Bool). if b then one else stand) (eq-eqb number number refl)

-- a connection was accepted at the control door, and is open
pub opened_on : (before after : Operators) (trace : Trace) (moment number : ℕ) (peer : Address) (next : Trace) → Hears trace moment (heard.Accepted number Control peer) next → OperatorsStand before trace →
    Changes number before after → is_open after number ≡ true → stand_of after.desk number ≡ fresh → OperatorsStand after next
opened_on before after trace moment number peer next hears they changes opened is_fresh =
    changed_on before after trace moment (heard.Accepted number Control peer) next hears they number changes
    (λ other stand apart. if_apart number other fresh stand apart)
    (λ none. stand_open after number opened ∙ (is_fresh ∙ sym (if_same number fresh (operator_stand number trace))))
    (λ _. ap is_some is_fresh)

-- it was closed
pub closed_on : (before after : Operators) (trace : Trace) (moment number : ℕ) (next : Trace) → Hears trace moment (heard.Closed number Client) next → OperatorsStand before trace →
    Changes number before after → is_open after number ≢ true → OperatorsStand after next
closed_on before after trace moment number next hears they changes closed =
    changed_on before after trace moment (heard.Closed number Client) next hears they number changes
    (λ other stand apart. if_apart number other None stand apart)
    (λ none. stand_closed after number closed ∙ sym (if_same number None (operator_stand number trace)))
    (λ opened. absurd (closed opened))

module _ (before after : Operators) (trace : Trace) (moment number : ℕ) (bytes : List ℕ) (next : Trace) (hears : Hears trace moment (heard.Piece number Client bytes) next) (they : OperatorsStand before trace)
    (changes : Changes number before after) where
  -- it said something, and more may come
  pub said_on : is_open after number ≡ true → stand_of after.desk number ≡ stands bytes (operator_stand number trace) → is_some (stand_of after.desk number) ≡ true → OperatorsStand after next
  said_on opened is some =
      changed_on before after trace moment (heard.Piece number Client bytes) next hears they number changes
      (λ other stand apart. if_apart number other (stands bytes stand) stand apart)
      (λ none. stand_open after number opened ∙ (is ∙ sym (if_same number (stands bytes (operator_stand number trace)) (operator_stand number trace))))
      (λ _. some)

  -- a line of it was too long, and it was closed
  pub stopped_on : is_open after number ≢ true → stands bytes (operator_stand number trace) ≡ None → OperatorsStand after next
  stopped_on closed is =
      changed_on before after trace moment (heard.Piece number Client bytes) next hears they number changes
      (λ other stand apart. if_apart number other (stands bytes stand) stand apart)
      (λ none. stand_closed after number closed ∙ sym (if_same number (stands bytes (operator_stand number trace)) (operator_stand number trace) ∙ is))
      (λ opened. absurd (closed opened))

-- ---- what is of no operator

says_none : (conv : ℕ) (stand : Stand) (peer : Option (Option Address)) (bytes : List ℕ) → peer ≡ None → says_at conv stand peer bytes ≡ nothing → stand ≡ None
says_none conv None peer bytes none is = refl
says_none conv (Some kept) None bytes none is = absurd (cc)
says_none conv (Some kept) (Some p) bytes none is = absurd (cc)

leaves_none : (conv : ℕ) (stand : Stand) (peer : Option (Option Address)) → peer ≡ None → leaves_at conv stand peer ≡ nothing → stand ≡ None
leaves_none conv None peer none is = refl
leaves_none conv (Some kept) None none is = absurd (cc)
leaves_none conv (Some kept) (Some p) none is = absurd (cc)

stays_if : (test : Bool) (one stand : Stand) → (test ≡ true → one ≡ stand) → (if test then one else stand) ≡ stand
stays_if true one stand is = is refl
stays_if false one stand is = refl

module _ (trace : Trace) (conv : ℕ) (none : (calls conv trace).peer ≡ None) where
  piece_stays : (number : ℕ) (bytes : List ℕ) → word_of trace (heard.Piece number Client bytes) ≡ nothing → (number == conv) ≡ true → stands bytes (operator_stand conv trace) ≡ operator_stand conv trace
  piece_stays number bytes is test =
      let P : ℕ → Type 0 = λ n. says_at n (operator_stand n trace) (calls n trace).peer bytes ≡ nothing in
      let silent = says_none conv (operator_stand conv trace) (calls conv trace).peer bytes none (subst P (eqb-true number conv test) is) in
      ap (stands bytes) silent ∙ (stands_none bytes ∙ sym silent)

  close_stays : (number : ℕ) → word_of trace (heard.Closed number Client) ≡ nothing → (number == conv) ≡ true → None ≡ operator_stand conv trace
  close_stays number is test =
      let P : ℕ → Type 0 = λ n. leaves_at n (operator_stand n trace) (calls n trace).peer ≡ nothing in
      sym (leaves_none conv (operator_stand conv trace) (calls conv trace).peer none (subst P (eqb-true number conv test) is))

  -- it moves the lines of nobody who has not begun
  nothing_moves : (what : Heard) → accepted_by what ≡ None → word_of trace what ≡ nothing → stand_on conv (operator_stand conv trace) what ≡ operator_stand conv trace
  nothing_moves (heard.Accepted number Control peer) quiet is = absurd (cc)
  nothing_moves (heard.Accepted number Proxy peer) quiet is = refl
  nothing_moves (heard.Piece number Client bytes) quiet is = stays_if (number == conv) (stands bytes (operator_stand conv trace)) (operator_stand conv trace) (piece_stays number bytes is)
  nothing_moves (heard.Piece number (Server other) bytes) quiet is = refl
  nothing_moves (heard.Closed number Client) quiet is = stays_if (number == conv) None (operator_stand conv trace) (close_stays number is)
  nothing_moves (heard.Closed number (Server other)) quiet is = refl
  nothing_moves (heard.Dialled number server ok) quiet is = refl
  nothing_moves heard.End quiet is = refl

-- operators stay as they are
-- a conversation without a client begins, of whatever number
pub begun_on_alone : (operators : Operators) (trace : Trace) (number : ℕ) (more : Trace) → NoneHeard more → OperatorsStand operators trace → OperatorsStand operators ((trace ++ steps.Begun number ∷ []) ++ more)
begun_on_alone operators trace number more none they = record {
  at = λ conv never.
      let before = not_begun conv trace (steps.Begun number ∷ []) (not_begun conv (trace ++ steps.Begun number ∷ []) more never) in
      they.at conv before ∙ sym (stand_begun conv trace number more none);
  go_on = they.go_on;
}

pub stayed_on : (operators : Operators) (trace : Trace) (moment : ℕ) (what : Heard) (next : Trace) → Hears trace moment what next → OperatorsStand operators trace → accepted_by what ≡ None → word_of trace what ≡ nothing →
    OperatorsStand operators next
stayed_on operators trace moment what next hears they quiet is = record {
  at = λ conv none.
      let before = begun_next conv trace moment what next hears none in
      they.at conv before ∙ (sym (nothing_moves trace conv before what quiet is) ∙ sym (stand_next conv trace moment what next hears));
  go_on = they.go_on;
}

-- what becomes of operators behind what is of none of them: a connection that was accepted at their door is open
pub record Opens (conv : ℕ) (before after : Operators) : Type 0 where
  pub changes : Changes conv before after
  pub opened : is_open after conv ≡ true
  pub is_fresh : stand_of after.desk conv ≡ fresh

abbrev pub Welcomes : Option ℕ → Operators → Operators → Type 0
Welcomes None before after = after ≡ before
Welcomes (Some conv) before after = Opens conv before after

stayed_so : (before after : Operators) (trace : Trace) (moment : ℕ) (what : Heard) (next : Trace) → Hears trace moment what next → OperatorsStand before trace → accepted_by what ≡ None → word_of trace what ≡ nothing →
    after ≡ before → OperatorsStand after next
stayed_so before after trace moment what next hears they quiet is same =
    let P : Operators → Type 0 = λ o. OperatorsStand o next in subst P (sym same) (stayed_on before trace moment what next hears they quiet is)

pub welcomed_on : (before after : Operators) (trace : Trace) (moment : ℕ) (what : Heard) (next : Trace) → Hears trace moment what next → OperatorsStand before trace → word_of trace what ≡ nothing →
    Welcomes (accepted_by what) before after → OperatorsStand after next
welcomed_on before after trace moment (heard.Accepted number Control peer) next hears they is opens = opened_on before after trace moment number peer next hears they opens.changes opens.opened opens.is_fresh
welcomed_on before after trace moment (heard.Accepted number Proxy peer) next hears they is same = stayed_so before after trace moment (heard.Accepted number Proxy peer) next hears they refl is same
welcomed_on before after trace moment (heard.Piece number side bytes) next hears they is same = stayed_so before after trace moment (heard.Piece number side bytes) next hears they refl is same
welcomed_on before after trace moment (heard.Closed number side) next hears they is same = stayed_so before after trace moment (heard.Closed number side) next hears they refl is same
welcomed_on before after trace moment (heard.Dialled number server ok) next hears they is same = stayed_so before after trace moment (heard.Dialled number server ok) next hears they refl is same
welcomed_on before after trace moment heard.End next hears they is same = stayed_so before after trace moment heard.End next hears they refl is same
