-- The client is told that its tunnel stands, and what follows is decided, or it has closed.
use Rattle.std.proofs.Common.{◌≡◌, ℕ, Bool, true, false, List, [], ◌∷◌, ◌++◌, ap, sym, ◌∙◌, subst, refl}
use Rattle.std.specs.Prelude.{IfOk, Result, Ok, Err}
use Rattle.px_event.specs.declared.command.Command.{Command}
use Rattle.px_event.specs.declared.command.Command.TheVariants as commands
use Rattle.px_event.specs.declared.event.Event.{Event}
use Rattle.px_event.specs.declared.side.Side.TheVariants.{Client}
use Rattle.px_event.specs.Chain.{Timed, Ends}
use Rattle.px_event.specs.Laws.{owed_over}
use Rattle.px_event.specs.View.{View, seen_of}
use Rattle.px_event.proofs.Seen.{seen_append}
use Rattle.px_exchange.specs.declared.ending.Used.TheVariants.{ByServer}
use Rattle.px_exchange.specs.Endings.{shut_server}
use Rattle.px_exchange.specs.Texts.{connected_text}
use Rattle.px_chain.specs.Streams.{Since, client_closed}
use Rattle.px_stack.specs.declared.child.Child.{Child}
use Rattle.px_stack.specs.declared.child.Child.TheVariants as children
use Rattle.px_stack.specs.declared.child.Opening.{Opening}
use Rattle.px_stack.specs.Chain.{closes_all, stack_chain}
use Rattle.px_stack.specs.Stages.{Link, Stage, Tunnel, Visitor, undecided}
use Rattle.px_stack.specs.Steps.{Adds, Arrives, Decides, MayDecide, Tells, TellsThere}
use Rattle.px_stack.proofs.OpenedLemmas.{arrives_over, goes_closed, opening_as}
use Rattle.px_stack.proofs.RelayLemmas.{given_twice}

-- what a place owes behind something else
pub behind_sent : (conv : ℕ) (client : Visitor) (view : View) (sent more : List Command) (stage : Stage) (prefix : List (Timed Event)) →
    seen_of view more ≡ seen_of view (owed_over (stack_chain conv client) stage prefix) →
    seen_of view (sent ++ more) ≡ seen_of view (sent ++ owed_over (stack_chain conv client) stage prefix)
behind_sent conv client view sent more stage prefix gives =
    seen_append view sent more ∙ (ap (λ l. seen_of view sent ++ l) gives ∙ sym (seen_append view sent (owed_over (stack_chain conv client) stage prefix)))

module _ (conv : ℕ) (client : Visitor) (kept : Opening) (server : ℕ) (rest : List ℕ) (moment : ℕ) (next : Child) where
  told_as : (more : List Command) (tunnel : Tunnel) (link : Link) (since : Since) (prefix : List (Timed Event)) →
      Arrives conv client next more (undecided tunnel link since) prefix → TellsThere conv client next (commands.Send Client connected_text ∷ more) (undecided tunnel link since) prefix
  told_as more tunnel link since prefix to = record {
    there = to.there;
    gives = λ view. behind_sent conv client view (commands.Send Client connected_text ∷ []) more (undecided tunnel link since) prefix (to.gives view);
  }

  tells_on : (closed : Bool) (more : List Command) → closed ≡ false → Decides conv client kept server rest moment next more →
      Tells conv client kept server rest closed moment next (commands.Send Client connected_text ∷ more)
  tells_on closed more open_still decides tunnel link since prefix at =
      let P : Bool → Type 0 = λ b. MayDecide tunnel link since prefix kept server rest b moment in
      told_as more tunnel link since prefix (decides tunnel link since prefix (subst P open_still at))

  tells_over : (closed : Bool) → closed ≡ true → next ≡ children.Over →
      Tells conv client kept server rest closed moment next (commands.Send Client connected_text ∷ shut_server (ByServer server false))
  tells_over closed gone ended tunnel link since prefix at =
      let tail : List Command = shut_server (ByServer server false) in
      let closed_there : client_closed prefix ≡ true = at.client ∙ gone in
      told_as tail tunnel link since prefix
      (arrives_over conv client next tail tunnel link since prefix (goes_closed tunnel link since prefix closed_there)
      (opening_as link prefix false true at.unshut closed_there ∙ ap (λ n. Ends (closes_all n false true)) (sym at.opened.same)) ended)

module _ (conv : ℕ) (client : Visitor) (kept : Opening) (server : ℕ) (rest : List ℕ) (closed : Bool) (moment : ℕ) (out mid longer : List Command) (text : List ℕ)
    (is : text ≡ connected_text) (sent : mid ≡ out ++ commands.Send Client text ∷ []) where
  sent_so : mid ≡ out ++ commands.Send Client connected_text ∷ []
  sent_so = sent ∙ ap (λ t. out ++ commands.Send Client t ∷ []) is

  pub told_decided : {E : Type 0} → closed ≡ false → (result : Result Child E) → IfOk result (λ next. Adds (Decides conv client kept server rest moment next) mid longer) →
      IfOk result (λ next. Adds (Tells conv client kept server rest closed moment next) out longer)
  told_decided open_still (Ok next) decides = record {
    more = commands.Send Client connected_text ∷ decides.more;
    grown = given_twice out mid longer (commands.Send Client connected_text ∷ []) decides.more sent_so decides.grown;
    holds = tells_on conv client kept server rest moment next closed decides.more open_still decides.holds;
  }
  told_decided open_still (Err error) decides = tt

  pub told_over : closed ≡ true → longer ≡ mid ++ shut_server (ByServer server false) → Adds (Tells conv client kept server rest closed moment children.Over) out longer
  told_over gone gave = record {
    more = commands.Send Client connected_text ∷ shut_server (ByServer server false);
    grown = given_twice out mid longer (commands.Send Client connected_text ∷ []) (shut_server (ByServer server false)) sent_so gave;
    holds = tells_over conv client kept server rest moment children.Over closed gone refl;
  }
