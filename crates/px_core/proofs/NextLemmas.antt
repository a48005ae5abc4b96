-- What a step changes of the calls of each conversation: of one it adds a call at most, and of all others nothing.
use Rattle.std.proofs.Common.{◌≡◌, ◌≢◌, ◌⊎◌, inl, inr, ℕ, Bool, true, false, ◌==◌, List, [], ◌∷◌, ◌++◌, Option, Some, None, refl, ap, sym, ◌∙◌, subst, append_assoc, is_some}
use Rattle.std.specs.Prelude.{if◌then◌else◌}
use Rattle.std.proofs.lemmas.Bool.Decides.{eqb_tells}
use Rattle.px_message.specs.declared.address.Address.{Address}
use Rattle.px_event.specs.declared.ask.Ask.{Ask}
use Rattle.px_event.specs.declared.reply.Reply.{Reply}
use Rattle.px_event.specs.declared.command.Command.{Command}
use Rattle.px_event.specs.declared.event.Event.TheVariants as events
use Rattle.px_event.specs.declared.heard.Heard.{Heard}
use Rattle.px_event.specs.declared.step.Step.TheVariants as steps
use Rattle.px_event.specs.Layer.{Move, Took, Standing}
use Rattle.px_event.specs.Trace.{Trace}
use Rattle.px_event.specs.View.{View, IsTold, seen_of, seen_in}
use Rattle.px_core.specs.declared.news.News.{News}
use Rattle.px_core.specs.declared.news.News.TheVariants as news
use Rattle.px_core.specs.Calls.{Calls, begins, calls, calls_of, takes, moved, addressed, is_connected, is_dialling, dial_ends}
use Rattle.px_core.specs.Due.{Due, due_in}
use Rattle.px_core.specs.Held.{AllOf}
use Rattle.px_core.specs.Unmarked.{all_unmarked}
use Rattle.px_core.specs.Hooks.{open_hook}
use Rattle.px_core.specs.Router.{over, IsOver}
use Rattle.px_core.specs.Runs.{has}
use Rattle.px_core.proofs.BegunLemmas.{calls_begun, calls_begun_other, hook_begun, seen_begun}
use Rattle.px_core.proofs.CallLemmas.{others_calls, others_seen}
use Rattle.px_core.proofs.HearLemmas.{seen_heard, calls_heard, calls_heard_other, calls_heard_none}
use Rattle.px_core.proofs.HookLemmas.{hook_heard, others_hook}
use Rattle.px_core.proofs.ServedLemmas.{due_same, due_there}

-- a state that has ended is over by its calls, so no call changes what is due
pub ended_stays : {C : Type 0} (standing : Standing C) (made_due : C → List Move → List Command) (ended : C → Bool) (is_over : C → List Move → Bool) →
    ((made state : C) (moves : List Move) (given : List Command) → standing made state moves given → ended state ≡ is_over made moves) →
    ((made : C) (moves : List Move) → is_over made moves ≡ true → (more : List Move) (view : View) → seen_of view (made_due made (moves ++ more)) ≡ seen_of view (made_due made moves)) →
    (made state : C) (moves : List Move) (given : List Command) → standing made state moves given → ended state ≡ true → (more : List Move) (view : View) →
    seen_of view (made_due made (moves ++ more)) ≡ seen_of view (made_due made moves)
ended_stays standing made_due ended is_over exact stays made state moves given stands end more view =
    stays made moves (sym (exact made state moves given stands) ∙ end) more view

-- nothing of the conversation is new
pub record Same (conv : ℕ) (trace next : Trace) : Type 0 where
  pub moves : calls_of conv next ≡ calls_of conv trace
  pub peer : (calls conv next).peer ≡ (calls conv trace).peer
  pub dial : (calls conv next).dial ≡ (calls conv trace).dial
  pub connected : (calls conv next).connected ≡ (calls conv trace).connected
  pub sees : (view : View) → IsTold view → seen_in view conv next ≡ seen_in view conv trace
  pub hook : open_hook conv next ≡ open_hook conv trace

pub same_by : (conv moment : ℕ) (trace next : Trace) → calls conv next ≡ record (calls conv trace) { moment = moment } →
    ((view : View) → IsTold view → seen_in view conv next ≡ seen_in view conv trace) → open_hook conv next ≡ open_hook conv trace → Same conv trace next
same_by conv moment trace next on sees hook = record {
  moves = ap (λ (c : Calls). c.moves) on;
  peer = ap (λ (c : Calls). c.peer) on;
  dial = ap (λ (c : Calls). c.dial) on;
  connected = ap (λ (c : Calls). c.connected) on;
  sees = sees;
  hook = hook;
}

pub other_same : (conv other moment : ℕ) (trace more : Trace) (heard : Heard) (what : News) → addressed heard ≡ Some (conv, what) → AllOf conv more → conv ≢ other →
    Same other trace ((trace ++ steps.Heard moment heard ∷ []) ++ more)
other_same conv other moment trace more heard what is all apart =
    same_by other moment trace ((trace ++ steps.Heard moment heard ∷ []) ++ more)
    (others_calls conv other (trace ++ steps.Heard moment heard ∷ []) more all apart ∙ calls_heard_other other conv trace moment heard what is apart)
    (λ view told. others_seen view conv other (trace ++ steps.Heard moment heard ∷ []) more all apart ∙ seen_heard view other trace moment heard)
    (others_hook conv other (trace ++ steps.Heard moment heard ∷ []) more all apart ∙ hook_heard other trace moment heard)

pub begun_same : (conv other : ℕ) (trace more : Trace) → AllOf conv more → conv ≢ other → Same other trace ((trace ++ steps.Begun conv ∷ []) ++ more)
begun_same conv other trace more all apart =
    let there : Trace = trace ++ steps.Begun conv ∷ [] in
    let on : calls other (there ++ more) ≡ calls other trace = others_calls conv other there more all apart ∙ calls_begun_other other conv trace apart in
    record {
      moves = ap (λ (c : Calls). c.moves) on;
      peer = ap (λ (c : Calls). c.peer) on;
      dial = ap (λ (c : Calls). c.dial) on;
      connected = ap (λ (c : Calls). c.connected) on;
      sees = λ view told. others_seen view conv other there more all apart ∙ seen_begun view other conv trace;
      hook = others_hook conv other there more all apart ∙ hook_begun other conv trace;
    }

pub none_same : (conv moment : ℕ) (trace : Trace) (heard : Heard) → addressed heard ≡ None → Same conv trace (trace ++ steps.Heard moment heard ∷ [])
none_same conv moment trace heard is =
    same_by conv moment trace (trace ++ steps.Heard moment heard ∷ []) (calls_heard_none conv trace moment heard is) (λ view told. seen_heard view conv trace moment heard)
    (hook_heard conv trace moment heard)

-- at most one call is new, and its client stays where it is
abbrev pub IsGrown : Calls → Calls → Type 0
IsGrown before after =
    ((after.moves ≡ before.moves) ⊎ ((move : Move) × (after.moves ≡ before.moves ++ move ∷ []))) × ((peer : Option Address) → before.peer ≡ Some peer → after.peer ≡ Some peer)

begins_grown : (moment : ℕ) (at : Option Address) (c : Calls) → IsGrown c (begins moment at c)
begins_grown moment at c = by (is_some c.peer) refl
  where
    by : (b : Bool) → is_some c.peer ≡ b → IsGrown c (if b then c else record c { peer = Some at; moves = c.moves ++ Took moment events.Begun ∷ [] })
    by true some = (inl refl, λ peer is. is)
    by false none = (inr (_, refl), λ peer is. absurd (let no : true ≡ false = sym (ap is_some is) ∙ none in cc))

takes_grown : (moment : ℕ) (c : Calls) (what : News) → IsGrown c (takes moment c what)
takes_grown moment c (news.Begun at) = begins_grown moment (Some at) c
takes_grown moment c (news.Event side event) = by (is_some c.peer) (is_connected side c.connected)
  where
    by : (b d : Bool) → IsGrown c (if b then (if d then moved (Took moment event) c else c) else c)
    by true true = (inr (_, refl), λ peer is. is)
    by true false = (inl refl, λ peer is. is)
    by false true = (inl refl, λ peer is. is)
    by false false = (inl refl, λ peer is. is)
takes_grown moment c (news.Dialled server ok) = by (is_dialling server c.dial)
  where
    by : (b : Bool) → IsGrown c (if b then dial_ends moment server ok c else c)
    by true = (inr (_, refl), λ peer is. is)
    by false = (inl refl, λ peer is. is)

pub heard_grown : (conv : ℕ) (trace : Trace) (moment : ℕ) (heard : Heard) → IsGrown (calls conv trace) (calls conv (trace ++ steps.Heard moment heard ∷ []))
heard_grown conv trace moment heard = by (addressed heard) refl
  where
    P : Calls → Type 0
    P = IsGrown (calls conv trace)

    here : (what : News) → addressed heard ≡ Some (conv, what) → IsGrown (calls conv trace) (calls conv (trace ++ steps.Heard moment heard ∷ []))
    here what is = subst P (sym (calls_heard conv trace moment heard what is)) (takes_grown moment (calls conv trace) what)

    of : (number : ℕ) (what : News) → addressed heard ≡ Some (number, what) → ((number == conv) ≡ true) × (number ≡ conv) ⊎ ((number == conv) ≡ false) × (number ≢ conv) →
        IsGrown (calls conv trace) (calls conv (trace ++ steps.Heard moment heard ∷ []))
    of number what is (inl same) = here what (is ∙ ap (λ n. Some (n, what)) same.1)
    of number what is (inr apart) = subst P (sym (calls_heard_other conv number trace moment heard what is apart.1)) (inl refl, λ peer is. is)

    by : (a : Option (ℕ × News)) → addressed heard ≡ a → IsGrown (calls conv trace) (calls conv (trace ++ steps.Heard moment heard ∷ []))
    by None is = subst P (sym (calls_heard_none conv trace moment heard is)) (inl refl, λ peer is. is)
    by (Some (number, what)) is = of number what is (eqb_tells number conv)

pub begun_grown : (conv number : ℕ) (trace : Trace) → IsGrown (calls conv trace) (calls conv (trace ++ steps.Begun number ∷ []))
begun_grown conv number trace = by (eqb_tells number conv)
  where
    P : Calls → Type 0
    P = IsGrown (calls conv trace)

    by : ((number == conv) ≡ true) × (number ≡ conv) ⊎ ((number == conv) ≡ false) × (number ≢ conv) → IsGrown (calls conv trace) (calls conv (trace ++ steps.Begun number ∷ []))
    by (inl same) =
        let Q : ℕ → Type 0 = λ n. IsGrown (calls conv trace) (calls conv (trace ++ steps.Begun n ∷ [])) in
        subst Q (sym same.1) (subst P (sym (calls_begun conv trace)) (begins_grown (calls conv trace).moment None (calls conv trace)))
    by (inr apart) = subst P (sym (calls_begun_other conv number trace apart.1)) (inl refl, λ peer is. is)

pub no_answer_heard : (moment conv : ℕ) (heard : Heard) (ask : Ask) (reply : Reply) → steps.Answered conv ask reply ≡ steps.Heard moment heard → ⊥
no_answer_heard moment conv heard ask reply e = cc

-- where nothing of an ended conversation changes what is due
pub over_grown : (due : Due) (conv : ℕ) (trace next : Trace) → IsOver due conv trace → IsGrown (calls conv trace) (calls conv next) → (view : View) →
    all_unmarked (due_in due view conv next) ≡ all_unmarked (due_in due view conv trace)
over_grown due conv trace next w (inl same, stays) view =
    ap (λ l. all_unmarked (seen_of view l)) (due_same due conv (calls conv next) (calls conv trace) (stays w.peer w.begun ∙ sym w.begun) same)
over_grown due conv trace next w (inr (move, is), stays) view =
    ap all_unmarked (due_there due conv next w.peer (stays w.peer w.begun) view) ∙ (ap (λ l. all_unmarked (seen_of view (due conv w.peer l))) is ∙ w.stays view (move ∷ []))

over_stays : (due : Due) (conv : ℕ) (trace next : Trace) (w : IsOver due conv trace) → IsGrown (calls conv trace) (calls conv next) → (view : View) (more : List Move) →
    all_unmarked (seen_of view (due conv w.peer (calls_of conv next ++ more))) ≡ all_unmarked (due_in due view conv trace)
over_stays due conv trace next w (inl same, stays) view more = ap (λ l. all_unmarked (seen_of view (due conv w.peer (l ++ more)))) same ∙ w.stays view more
over_stays due conv trace next w (inr (move, is), stays) view more =
    ap (λ l. all_unmarked (seen_of view (due conv w.peer (l ++ more)))) is
    ∙ (ap (λ l. all_unmarked (seen_of view (due conv w.peer l))) (append_assoc (calls_of conv trace) (move ∷ []) more) ∙ w.stays view (move ∷ more))

pub over_next : (due : Due) (conv : ℕ) (trace next : Trace) → IsOver due conv trace → IsGrown (calls conv trace) (calls conv next) →
    ((view : View) → IsTold view → seen_in view conv next ≡ seen_in view conv trace) → open_hook conv next ≡ open_hook conv trace → IsOver due conv next
over_next due conv trace next w grown sees hook = record {
  peer = w.peer;
  begun = grown.1 w.peer w.begun;
  told = λ view told. ap all_unmarked (sees view told) ∙ (w.told view told ∙ sym (over_grown due conv trace next w grown view));
  stays = λ view more. over_stays due conv trace next w grown view more ∙ sym (over_grown due conv trace next w grown view);
  hook = hook ∙ w.hook;
}
