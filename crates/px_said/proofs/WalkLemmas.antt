-- What is due from a place on is what is due by the time that the walk comes by another, and then what is due from there on.
use Rattle.std.proofs.Common.{◌≡◌, List, [], ◌++◌, refl, ap, sym, ◌∙◌, append_assoc, ℕ, zero, suc, ◌+◌, ◌≤◌, ◌∷◌, length, arith}
use Rattle.std.proofs.lemmas.List.{append-nil}
use Rattle.px_event.specs.declared.command.Command.{Command}
use Rattle.px_event.specs.declared.command.Command.TheVariants as commands
use Rattle.px_event.specs.declared.event.Event.{Event}
use Rattle.px_event.specs.declared.reply.Reply.{Reply}
use Rattle.px_event.specs.Chain.{Asks, Chain, Ends, Look, Stamped, Stop, owed_at, stop_at, walk, walk_by, NotYet, Reached, Stamp, Timed, at_its_step, reach, reach_by, worked_off}
use Rattle.px_exchange.specs.declared.terms.Terms.{Terms}
use Rattle.px_chain.specs.Chain.{http_chain, sequence, is_sequence}
use Rattle.px_said.specs.ClosedForm.{first_flows, flows_behind}
use Rattle.px_chain.specs.Sights.{Standing}
use Rattle.px_said.specs.Walks.{ComesBy, IsOneReplyOn, Walk, behind_reply, due_by_reply, due_from, goes_on, is_there, reached_from, due_by_passing, heard_on, hears, passed_on, passes}
use Rattle.px_event.proofs.Walk.{walk_on, walk_is}
use Rattle.px_chain.proofs.ChainLaws.{settles}

-- ---- what was owed before is owed in front

module _ {S E R A : Type 0} (chain : Chain S E R A) (a : List A) where
  abbrev pub with_these : Reached S E A → Reached S E A
  with_these here = record here { before = a ++ here.before }

  pub reach_by_behind : (l : Look A) (further here other there : Reached S E A) → further ≡ with_these other → here ≡ with_these there →
      reach_by l further here ≡ with_these (reach_by l other there)
  reach_by_behind NotYet further here other there on at = on
  reach_by_behind (Asks ask) further here other there on at = at
  reach_by_behind (Ends owed) further here other there on at = at

  pub reach_behind : (last : Stamp) (before : List A) (s : S) (f : List (Timed E)) (es : List (Stamped E)) →
      reach chain last (a ++ before) s f es ≡ with_these (reach chain last before s f es)
  reach_behind last before s f [] =
      let on = chain.pass s f in
      ap (λ b. record { before = b; stage = on.stage; prefix = f; rest = [] }) (append_assoc a before on.owed)
  reach_behind last before s f (e ∷ es) =
      let on = chain.pass s f in
      let joined = append_assoc a before on.owed in
      reach_by_behind (chain.look on.stage f) _ _ _ _
      (ap (λ b. reach chain last b on.stage (f ++ worked_off last e ∷ []) es) joined
      ∙ reach_behind last (before ++ on.owed) on.stage (f ++ worked_off last e ∷ []) es)
      (ap (λ b. record { before = b; stage = on.stage; prefix = f; rest = e ∷ es }) joined)

  pub walk_by_behind : (l : Look A) (onward other : A → Stop S E R A) (stop there : Stop S E R A) →
      ((ask : A) → owed_at chain (onward ask) ≡ a ++ owed_at chain (other ask)) → owed_at chain stop ≡ a ++ owed_at chain there →
      owed_at chain (walk_by l onward stop) ≡ a ++ owed_at chain (walk_by l other there)
  walk_by_behind NotYet onward other stop there on at = at
  walk_by_behind (Asks ask) onward other stop there on at = on ask
  walk_by_behind (Ends owed) onward other stop there on at = at

  pub walk_behind : (rs : List (Stamped R)) (last : Stamp) (before : List A) (s : S) (f : List (Timed E)) (es : List (Stamped E)) →
      owed_at chain (walk chain rs last (a ++ before) s f es) ≡ a ++ owed_at chain (walk chain rs last before s f es)
  walk_behind [] last before s f es =
      let here = reach chain last before s f es in
      ap (λ h. owed_at chain (stop_at last h [])) (reach_behind last before s f es) ∙ append_assoc a here.before _
  walk_behind (r ∷ rs) last before s f es =
      let here = reach chain last before s f es in
      let on = chain.turn here.stage here.prefix (at_its_step r) in
      ap (λ h. owed_at chain (walk_on chain (r ∷ rs) last h)) (reach_behind last before s f es)
      ∙ walk_by_behind (chain.look here.stage here.prefix) _ _ _ _
      (λ ask.
      let more = chain.so_far here.stage here.prefix ++ ask ∷ (chain.behind here.stage here.prefix ++ on.owed) in
      ap (λ b. owed_at chain (walk chain rs r.stamp b on.stage here.prefix here.rest)) (append_assoc a here.before more)
      ∙ walk_behind rs r.stamp (here.before ++ more) on.stage here.prefix here.rest)
      (append_assoc a here.before _)

-- ---- all flows of what is due

more_behind : (more so_many : ℕ) (command : Command) → so_many + 1 ≤ suc more → so_many ≤ flows_behind more command
more_behind more so_many (commands.Done flow) less = omega (arith, less)
more_behind more so_many (commands.Ask asked flow) less = omega (arith, less)
more_behind more so_many (commands.Dial server address inside) less = omega (arith, less)
more_behind more so_many (commands.Send side text) less = omega (arith, less)
more_behind more so_many (commands.Close side) less = omega (arith, less)

-- of as many flows as there are commands it is all
pub all_flows : (flows : ℕ) (due : List Command) → length due ≤ flows → first_flows flows due ≡ due
all_flows zero [] less = refl
all_flows zero (command ∷ due) less = absurd (omega (arith, less))
all_flows (suc more) [] less = refl
all_flows (suc more) (command ∷ due) less =
    ap (λ l. command ∷ l) (all_flows (flows_behind more command) due (more_behind more (length due) command (omega (arith, less))))

-- ---- from place to place

module _ (terms : Terms) where
  abbrev chain : Chain Standing Event Reply Command
  chain = http_chain sequence terms

  -- with these replies
  abbrev due_with : Walk → List (Stamped Reply) → List Command
  due_with here replies = owed_at chain (walk chain replies here.last [] here.place here.prefix here.coming)

  by_look : (l : Look Command) (ask : Command) (onward : Command → Stop Standing Event Reply Command) (stop : Stop Standing Event Reply Command) → l ≡ Asks ask →
      owed_at chain (walk_by l onward stop) ≡ owed_at chain (onward ask)
  by_look l ask onward stop is = ap (λ k. owed_at chain (walk_by k onward stop)) is

  one_reply : (here next : Walk) (due : List Command) → IsOneReplyOn terms here next due → due_from terms here ≡ due ++ due_from terms next
  one_reply here next due one =
      let there = reached_from terms here in
      let on = chain.turn there.stage there.prefix (record { moment = one.reply.stamp.moment; value = one.reply.value }) in
      let owed = due_by_reply terms here one.ask one.reply in
      let behind = behind_reply terms here one.reply one.replies in
      ap (due_with here) one.answers
      ∙ (by_look (chain.look there.stage there.prefix) one.ask _ _ one.asks
      ∙ (ap (λ b. owed_at chain (walk chain one.replies one.reply.stamp b on.stage there.prefix there.rest)) (sym (append-nil owed))
      ∙ (walk_behind chain owed one.replies one.reply.stamp [] on.stage there.prefix there.rest
      ∙ (ap (λ l. l ++ due_from terms behind) (sym one.owes) ∙ ap (λ w. due ++ due_from terms w) (sym one.leads)))))

  -- where it passes
  reach_passed : (last : Stamp) (s : Standing) (f : List (Timed Event)) (es : List (Stamped Event)) →
      let on = chain.pass s f in
      reach chain last [] s f es ≡ with_these chain on.owed (reach chain last [] on.stage f es)
  reach_passed last s f [] =
      let on = chain.pass s f in
      let settled = (settles sequence (is_sequence refl) terms).at s f in
      λ i. record { before = (sym (append-nil on.owed) ∙ ap (λ l. on.owed ++ l) (sym settled.owes_nothing)) i; stage = sym settled.stays i; prefix = f; rest = [] }
  reach_passed last s f (e ∷ es) =
      let on = chain.pass s f in
      let again = chain.pass on.stage f in
      let settled = (settles sequence (is_sequence refl) terms).at s f in
      let here : Reached Standing Event Command = record { before = on.owed; stage = on.stage; prefix = f; rest = e ∷ es } in
      let there : Reached Standing Event Command = record { before = []; stage = on.stage; prefix = f; rest = e ∷ es } in
      let further : Reached Standing Event Command = reach chain last [] on.stage (f ++ worked_off last e ∷ []) es in
      let first : reach chain last [] s f (e ∷ es) ≡ with_these chain on.owed (reach_by (chain.look on.stage f) further there) =
      ap (λ b. reach_by (chain.look on.stage f) (reach chain last b on.stage (f ++ worked_off last e ∷ []) es) here) (sym (append-nil on.owed))
      ∙ reach_by_behind chain on.owed (chain.look on.stage f) _ _ _ _
      (reach_behind chain on.owed last [] on.stage (f ++ worked_off last e ∷ []) es)
      (ap (λ b. (let it : Reached Standing Event Command = record { before = b; stage = on.stage; prefix = f; rest = e ∷ es } in it)) (sym (append-nil on.owed))) in
      let P : List Command → Standing → Reached Standing Event Command = λ owed stage.
      reach_by (chain.look stage f) (reach chain last owed stage (f ++ worked_off last e ∷ []) es) (record { before = owed; stage = stage; prefix = f; rest = e ∷ es }) in
      first ∙ ap (with_these chain on.owed) (λ i. P (sym settled.owes_nothing i) (sym settled.stays i))

  -- what is due behind what was owed by a search
  owed_with : (owed : List Command) (rs : List (Stamped Reply)) (last : Stamp) (there : Reached Standing Event Command) →
      owed_at chain (walk_on chain rs last (with_these chain owed there)) ≡ owed ++ owed_at chain (walk_on chain rs last there)
  owed_with owed [] last there = append_assoc owed there.before _
  owed_with owed (r ∷ rs) last there =
      let on = chain.turn there.stage there.prefix (at_its_step r) in
      walk_by_behind chain owed (chain.look there.stage there.prefix) _ _ _ _
      (λ ask.
      let more = chain.so_far there.stage there.prefix ++ ask ∷ (chain.behind there.stage there.prefix ++ on.owed) in
      ap (λ b. owed_at chain (walk chain rs r.stamp b on.stage there.prefix there.rest)) (append_assoc owed there.before more)
      ∙ walk_behind chain owed rs r.stamp (there.before ++ more) on.stage there.prefix there.rest)
      (append_assoc owed there.before _)

  by_passing : (here : Walk) → due_from terms here ≡ due_by_passing terms here ++ due_from terms (passed_on terms here)
  by_passing here =
      let on = chain.pass here.place here.prefix in
      ap (owed_at chain) (walk_is chain here.replies here.last [] here.place here.prefix here.coming)
      ∙ (ap (λ r. owed_at chain (walk_on chain here.replies here.last r)) (reach_passed here.last here.place here.prefix here.coming)
      ∙ (owed_with on.owed here.replies here.last (reach chain here.last [] on.stage here.prefix here.coming)
      ∙ ap (λ w. on.owed ++ owed_at chain w) (sym (walk_is chain here.replies here.last [] on.stage here.prefix here.coming))))

  by_hearing : (here : Walk) (event : Stamped Event) (rest : List (Stamped Event)) → here.coming ≡ event ∷ rest → chain.look (passed_on terms here).place here.prefix ≡ NotYet →
      due_from terms here ≡ due_by_passing terms here ++ due_from terms (heard_on terms here event rest)
  by_hearing here event rest comes none =
      let on = chain.pass here.place here.prefix in
      let longer : List (Timed Event) = here.prefix ++ worked_off here.last event ∷ [] in
      let stops : Reached Standing Event Command = record { before = [] ++ on.owed; stage = on.stage; prefix = here.prefix; rest = event ∷ rest } in
      let one : reach chain here.last [] here.place here.prefix (event ∷ rest) ≡ with_these chain on.owed (reach chain here.last [] on.stage longer rest) =
      ap (λ l. reach_by l (reach chain here.last on.owed on.stage longer rest) stops) none
      ∙ (ap (λ b. reach chain here.last b on.stage longer rest) (sym (append-nil on.owed))
      ∙ reach_behind chain on.owed here.last [] on.stage longer rest) in
      ap (λ es. due_from terms (record here { coming = es })) comes
      ∙ (ap (owed_at chain) (walk_is chain here.replies here.last [] here.place here.prefix (event ∷ rest))
      ∙ (ap (λ r. owed_at chain (walk_on chain here.replies here.last r)) one
      ∙ (owed_with on.owed here.replies here.last (reach chain here.last [] on.stage longer rest)
      ∙ ap (λ w. on.owed ++ owed_at chain w) (sym (walk_is chain here.replies here.last [] on.stage longer rest)))))

  pub due_along : (here there : Walk) (due : List Command) → ComesBy terms here there due → due_from terms here ≡ due ++ due_from terms there
  due_along _ _ _ (is_there here) = refl
  due_along _ _ _ (passes here there more further) =
      by_passing here ∙ (ap (λ l. due_by_passing terms here ++ l) (due_along (passed_on terms here) there more further)
      ∙ sym (append_assoc (due_by_passing terms here) more (due_from terms there)))
  due_along _ _ _ (hears here there event rest more comes none further) =
      by_hearing here event rest comes none ∙ (ap (λ l. due_by_passing terms here ++ l) (due_along (heard_on terms here event rest) there more further)
      ∙ sym (append_assoc (due_by_passing terms here) more (due_from terms there)))
  due_along _ _ _ (goes_on here next there owed more one further) =
      one_reply here next owed one ∙ (ap (λ l. owed ++ l) (due_along next there more further) ∙ sym (append_assoc owed more (due_from terms there)))
