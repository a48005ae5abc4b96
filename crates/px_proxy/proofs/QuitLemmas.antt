-- A run that was over by something else than the end was ended by an operator's order.
use Rattle.std.proofs.Common.{◌≡◌, ◌∙◌, ℕ, Bool, true, false, refl, ap, sym, subst, List, [], ◌∷◌, ◌++◌}
use Rattle.std.specs.Prelude.{Ok, Option, Some, None}
use Rattle.px_message.specs.declared.address.Address.{Address}
use Rattle.px_event.specs.declared.heard.Heard.{Heard}
use Rattle.px_event.specs.declared.heard.Heard.TheVariants as heard
use Rattle.px_event.specs.declared.side.Side.TheVariants.{Client, Server}
use Rattle.px_event.specs.declared.step.Step.{Step}
use Rattle.px_event.specs.declared.step.Step.TheVariants as steps
use Rattle.px_event.specs.Trace.{Trace}
use Rattle.px_core.specs.Answers.{Answering, AnswererState}
use Rattle.px_core.specs.Calls.{calls}
use Rattle.px_core.specs.Course.{Course}
use Rattle.px_core.specs.Due.{Due}
use Rattle.px_core.specs.Run.{AllTellable}
use Rattle.px_obey.specs.declared.outcome.Outcome.{Outcome}
use Rattle.px_obey.specs.declared.outcome.Outcome.TheVariants.{GoesOn}
use Rattle.px_obey.specs.Obeyed as obeyed
use Rattle.px_obey.specs.Obeyed.{ObeysLine, ObeysLines, Point, outcome_of}
use Rattle.px_view.specs.Commands.{order_of}
use Rattle.px_view.specs.Desk.{Stand}
use Rattle.px_view.specs.declared.command.Order.{Order}
use Rattle.px_view.specs.declared.command.Order.TheVariants as order
use Rattle.px_view.specs.declared.desk.Line.{Line}
use Rattle.px_view.specs.declared.desk.Line.TheVariants as line
use Rattle.px_app.specs.Operators.{nothing, says, leaves, operator_stand, says_at, leaves_at, word_of}
use Rattle.px_app.specs.Statuses.{ends_by, ends_from, ends_heard, is_end}
use Rattle.px_app.specs.Worked.{Turns, Worked, is_quit, of_conversation, of_operator, of_leaving, not_begun, one_worked, one_begun}
use Rattle.px_app.proofs.TurnLemmas.{NoneHeard, turns_adds}
use Rattle.px_proxy.specs.Quits.{QuitsLast}
use Rattle.px_proxy.proofs.BesideLemmas.{Beside, beside_word, worked_beside}

-- ---- what was heard last

ends_more : (ended : Bool) (trace more : Trace) → ends_from ended (trace ++ more) ≡ ends_from (ends_from ended trace) more
ends_more ended [] more = refl
ends_more ended (step ∷ trace) more = ends_more (ends_by ended step) trace more

ends_quiet : (ended : Bool) (more : Trace) → NoneHeard more → ends_from ended more ≡ ended
ends_quiet ended [] none = refl
ends_quiet ended (steps.Heard moment what ∷ more) none = absurd none
ends_quiet ended (steps.Begun number ∷ more) none = absurd none
ends_quiet ended (steps.Asked number ask ∷ more) none = ends_quiet ended more none
ends_quiet ended (steps.Answered number ask reply ∷ more) none = ends_quiet ended more none
ends_quiet ended (steps.Said number what ∷ more) none = ends_quiet ended more none
ends_quiet ended (steps.Done flow ∷ more) none = ends_quiet ended more none

ends_last : (trace : Trace) (moment : ℕ) (what : Heard) (more : List Step) → NoneHeard more → ends_heard ((trace ++ steps.Heard moment what ∷ []) ++ more) ≡ is_end what
ends_last trace moment what more none =
    ends_more false (trace ++ steps.Heard moment what ∷ []) more
    ∙ (ends_quiet (ends_heard (trace ++ steps.Heard moment what ∷ [])) more none ∙ ends_more false trace (steps.Heard moment what ∷ []))

tellable : (more : Trace) → NoneHeard more → AllTellable more
tellable [] none = tt
tellable (steps.Heard moment what ∷ more) none = absurd none
tellable (steps.Begun number ∷ more) none = absurd none
tellable (steps.Asked number ask ∷ more) none = (tt, tellable more none)
tellable (steps.Answered number ask reply ∷ more) none = (tt, tellable more none)
tellable (steps.Said number what ∷ more) none = (tt, tellable more none)
tellable (steps.Done flow ∷ more) none = (tt, tellable more none)

-- ---- whose lines they are

-- lines are told by bytes of the same number
record IsPieceOf (conv : ℕ) (what : Heard) : Type 0 where
  pub bytes : List ℕ
  pub is : what ≡ heard.Piece conv Client bytes

nothing_says : (conv : ℕ) (lines : List Line) → nothing ≡ says conv lines → ⊥
nothing_says conv lines is = cc

leaves_says : (number conv : ℕ) (lines : List Line) → leaves number ≡ says conv lines → ⊥
leaves_says number conv lines is = cc

same_sayer : (number conv : ℕ) (mine lines : List Line) → says number mine ≡ says conv lines → number ≡ conv
same_sayer number conv mine lines is = cc

says_number : (number conv : ℕ) (bytes : List ℕ) (lines : List Line) (stand : Stand) (peer : Option (Option Address)) → says_at number stand peer bytes ≡ says conv lines → number ≡ conv
says_number number conv bytes lines None peer is = absurd (nothing_says conv lines is)
says_number number conv bytes lines (Some kept) (Some at) is = absurd (nothing_says conv lines is)
says_number number conv bytes lines (Some kept) None is = same_sayer number conv _ lines is

leaves_nobody : (number conv : ℕ) (lines : List Line) (stand : Stand) (peer : Option (Option Address)) → leaves_at number stand peer ≡ says conv lines → ⊥
leaves_nobody number conv lines None peer is = nothing_says conv lines is
leaves_nobody number conv lines (Some kept) (Some at) is = nothing_says conv lines is
leaves_nobody number conv lines (Some kept) None is = leaves_says number conv lines is

piece_of : (trace : Trace) (what : Heard) (conv : ℕ) (lines : List Line) → word_of trace what ≡ says conv lines → IsPieceOf conv what
piece_of trace (heard.Accepted number door peer) conv lines is = absurd (nothing_says conv lines is)
piece_of trace (heard.Piece number Client bytes) conv lines is =
    record { bytes = bytes; is = ap (λ (n : ℕ). heard.Piece n Client bytes) (says_number number conv bytes lines (operator_stand number trace) (calls number trace).peer is) }
piece_of trace (heard.Piece number (Server server) bytes) conv lines is = absurd (nothing_says conv lines is)
piece_of trace (heard.Closed number Client) conv lines is = absurd (leaves_nobody number conv lines (operator_stand number trace) (calls number trace).peer is)
piece_of trace (heard.Closed number (Server server)) conv lines is = absurd (nothing_says conv lines is)
piece_of trace (heard.Dialled number server ok) conv lines is = absurd (nothing_says conv lines is)
piece_of trace heard.End conv lines is = absurd (nothing_says conv lines is)

-- ---- the order

-- one of the lines is the order to quit
record HasQuit (lines : List Line) : Type 0 where
  pub front : List Line
  pub text : List ℕ
  pub rest : List Line
  pub split : lines ≡ front ++ line.Text text ∷ rest
  pub orders : order_of text ≡ Ok order.Quit

goes_on_quits : is_quit GoesOn ≡ true → ⊥
goes_on_quits is = let wrong : false ≡ true = is in cc

is_quit_order : (one : Order) → is_quit (outcome_of one) ≡ true → one ≡ order.Quit
is_quit_order order.Quit is = refl
is_quit_order order.List is = absurd (goes_on_quits is)
is_quit_order (order.Show id) is = absurd (goes_on_quits is)
is_quit_order (order.Entry id from) is = absurd (goes_on_quits is)
is_quit_order (order.Act operation) is = absurd (goes_on_quits is)

module _ {S : Type 0} (answers : Answering S) (drops : List ℕ → S → S → Type 0) (names : S → List (List ℕ)) (due : Due) where
  line_quits : (conv : ℕ) (lines front rest : List Line) (one : Line) (at last : Point S) (more : List Step) (outcome : Outcome) → lines ≡ front ++ one ∷ rest →
      ObeysLine answers drops names due conv one at more last outcome → is_quit outcome ≡ true → HasQuit lines
  line_quits conv lines front rest one at last more outcome split (obeyed.by_order text said here there caused given orders obeys) is =
      record { front = front; text = text; rest = rest; split = split; orders = orders ∙ ap Ok (is_quit_order said is) }
  line_quits conv lines front rest one at last more outcome split (obeyed.no_order text error here orders) is = absurd (goes_on_quits is)
  line_quits conv lines front rest one at last more outcome split (obeyed.too_long here) is = absurd (let wrong : false ≡ true = is in cc)

  lines_quit : (conv : ℕ) (first : Point S) (lines : List Line) (more : List Step) (last : Point S) (outcome : Outcome) → ObeysLines answers drops names due conv first lines more last outcome →
      is_quit outcome ≡ true → HasQuit lines
  lines_quit conv first lines more last outcome (obeyed.all_obeyed told there all) is = absurd (goes_on_quits is)
  lines_quit conv first lines more last outcome (obeyed.ended_at front rest one told steps_of next_told at there how split all obeys other joined) is =
      line_quits conv lines front rest one at there steps_of how split obeys is

  -- what was told before it, and what was heard, in place of the steps of conversations
  quits_behind : (told trace : Trace) (moment : ℕ) (what : Heard) (more : List Step) (conv : ℕ) (lines : List Line) → Beside [] told trace → word_of trace what ≡ says conv lines → NoneHeard more →
      HasQuit lines → QuitsLast ((told ++ steps.Heard moment what ∷ []) ++ more)
  quits_behind told trace moment what more conv lines b word none has =
      let piece = piece_of trace what conv lines word in
      let P : Heard → Type 0 = λ w. word_of told w ≡ says conv lines in
      record {
        before = told;
        moment = moment;
        conv = conv;
        bytes = piece.bytes;
        behind = more;
        is = ap (λ (w : Heard). (told ++ steps.Heard moment w ∷ []) ++ more) piece.is;
        none_heard = tellable more none;
        front = has.front;
        text = has.text;
        rest = has.rest;
        lines = subst P piece.is (beside_word told trace what b ∙ word) ∙ ap (says conv) has.split;
        orders = has.orders;
      }

  turn_quits : (told trace : Trace) (course : Course S) (moment : ℕ) (what : Heard) (more : List Step) (next : Trace) (turned : Course S) (over : Bool) → Beside [] told trace → NoneHeard more →
      Turns answers drops names due trace course moment what more next turned over → over ≡ true → is_end what ≡ false → QuitsLast ((told ++ steps.Heard moment what ∷ []) ++ more)
  turn_quits told trace course moment what more next turned over b none (of_conversation list word of) is goes_on = let wrong : true ≡ false = sym is ∙ goes_on in absurd (cc)
  turn_quits told trace course moment what more next turned over b none (of_operator conv lines list now pending last outcome word came obeys) is goes_on =
      quits_behind told trace moment what list conv lines b word none (lines_quit conv _ lines list last outcome obeys is)
  turn_quits told trace course moment what more next turned over b none (of_leaving conv word) is goes_on = let wrong : false ≡ true = is in absurd (cc)

  pub quits_last : (first : AnswererState S) (told trace : Trace) (course : Course S) (over : Bool) → Worked answers drops names due first told trace course over → over ≡ true → ends_heard told ≡ false →
      QuitsLast told
  quits_last first told trace course over not_begun is goes_on = let wrong : false ≡ true = is in absurd (cc)
  quits_last first told trace course over (one_worked before now behind next from turned saved moment what more is_over old new worked turns joined same is_saved) is goes_on =
      let a = turns_adds answers drops names due behind from moment what more next turned is_over turns in
      let P : Trace → Type 0 = QuitsLast in
      subst P (sym joined) (turn_quits before behind from moment what more next turned is_over (worked_beside answers drops names due first before behind from false worked) a.quiet_told turns is
      (sym (ends_last before moment what more a.quiet_told) ∙ (ap ends_heard (sym joined) ∙ goes_on)))
  quits_last first told trace course over (one_begun before now behind next from saved conv more old new worked own joined also same is_saved) is goes_on = let wrong : false ≡ true = is in absurd (cc)
