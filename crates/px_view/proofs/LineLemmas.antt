-- The lines of a connection: how they are cut, what they are, and what is kept.
use Rattle.std.proofs.Common.{◌≡◌, ◌∙◌, ℕ, suc, ◌+◌, ◌<◌, Bool, true, false, List, [], ◌∷◌, ◌++◌, length, Some, None, refl, sym, ap, subst, arith, append_assoc, append-nil, length-append, inl, inr}
use Rattle.std.specs.List.{concat}
use Rattle.std.specs.Option.{IfSome}
use Rattle.std.proofs.lemmas.Bool.{leb-false, lt-leb, eqb-true}
use Rattle.std.proofs.lemmas.Grind.{common_steps}
use Rattle.std.proofs.lemmas.List.Elements.{All-head, All-tail}
use Rattle.px_view.specs.declared.desk.Line.{Line}
use Rattle.px_view.specs.declared.desk.Line.TheVariants as line
use Rattle.px_view.specs.Desk.{Stand, fresh, is_feed, is_full, limit, stand_by, stands, told, told_by}
use Rattle.px_view.specs.DeskLaws.{LinesAreCutFree, NoFeed, LinesAreWhole, IsBehindFeed, LittleIsKept}

-- ---- cuts

told_both : (a b : List ℕ) (stand : Stand) → told (a ++ b) stand ≡ told a stand ++ told b (stands a stand)
told_both [] b stand = refl
told_both (x ∷ a) b stand =
    ap (λ (l : List Line). told_by stand x ++ l) (told_both a b (stand_by stand x))
    ∙ sym (append_assoc (told_by stand x) (told a (stand_by stand x)) (told b (stands a (stand_by stand x))))

stands_both : (a b : List ℕ) (stand : Stand) → stands (a ++ b) stand ≡ stands b (stands a stand)
stands_both [] b stand = refl
stands_both (x ∷ a) b stand = stands_both a b (stand_by stand x)

pub cut_free : LinesAreCutFree
cut_free [] stand = record { lines = refl; place = refl }
cut_free (piece ∷ pieces) stand = let rest = cut_free pieces (stands piece stand) in record {
  lines = ap (λ (l : List Line). told piece stand ++ l) rest.lines ∙ sym (told_both piece (concat pieces) stand);
  place = rest.place ∙ sym (stands_both piece (concat pieces) stand);
}

-- ---- one line

told_none : (bytes : List ℕ) → told bytes None ≡ []
told_none [] = refl
told_none (b ∷ bytes) = told_none bytes

stands_none : (bytes : List ℕ) → stands bytes None ≡ None
stands_none [] = refl
stands_none (b ∷ bytes) = stands_none bytes

-- a byte that is kept
pub record IsPushed (kept : List ℕ) (b : ℕ) : Type 0 where
  pub lines : told_by (Some kept) b ≡ []
  pub place : stand_by (Some kept) b ≡ Some (kept ++ b ∷ [])

pushed : (kept : List ℕ) (b : ℕ) → is_feed b ≡ false → is_full kept ≡ false → IsPushed kept b
pushed kept b other room = record { lines = rw (other, room) refl; place = rw (other, room) refl }

-- a byte that makes the line too long
pub record IsStopped (kept : List ℕ) (b : ℕ) : Type 0 where
  pub lines : told_by (Some kept) b ≡ line.TooLong ∷ []
  pub place : stand_by (Some kept) b ≡ None

stopped : (kept : List ℕ) (b : ℕ) → is_feed b ≡ false → is_full kept ≡ true → IsStopped kept b
stopped kept b other full = record { lines = rw (other, full) refl; place = rw (other, full) refl }

has_room : (kept : List ℕ) → length kept < 1023 → is_full kept ≡ false
has_room kept small = lt-leb 1023 (length kept) small

longer : (kept : List ℕ) (b : ℕ) → length (kept ++ b ∷ []) ≡ length kept + 1
longer kept b = length-append kept (b ∷ [])

-- text without a line feed, behind what is kept
pub record Runs (text kept more : List ℕ) : Type 0 where
  pub lines : told (text ++ more) (Some kept) ≡ told more (Some (kept ++ text))
  pub place : stands (text ++ more) (Some kept) ≡ stands more (Some (kept ++ text))

runs : (text kept more : List ℕ) → NoFeed text → length kept + length text < limit → Runs text kept more
runs [] kept more none small = record {
  lines = ap (λ (l : List ℕ). told more (Some l)) (sym (append-nil kept));
  place = ap (λ (l : List ℕ). stands more (Some l)) (sym (append-nil kept));
}
runs (b ∷ text) kept more none small =
    let step = pushed kept b (All-head (λ x. is_feed x ≡ false) b text none) (has_room kept (omega arith)) in
    let rest = runs text (kept ++ b ∷ []) more (All-tail (λ x. is_feed x ≡ false) b text none) (omega (arith, longer kept b)) in
    let joined = append_assoc kept (b ∷ []) text in
    record {
      lines =
          ap (λ (l : List Line). l ++ told (text ++ more) (stand_by (Some kept) b)) step.lines
          ∙ ap (told (text ++ more)) step.place ∙ rest.lines ∙ ap (λ (l : List ℕ). told more (Some l)) joined;
      place = ap (stands (text ++ more)) step.place ∙ rest.place ∙ ap (λ (l : List ℕ). stands more (Some l)) joined;
    }

-- text that is too long, behind what is kept
pub record Stops (text kept more : List ℕ) : Type 0 where
  pub lines : told (text ++ more) (Some kept) ≡ line.TooLong ∷ []
  pub place : stands (text ++ more) (Some kept) ≡ None

stops_by : (b : ℕ) (text kept more : List ℕ) (full : Bool) → is_full kept ≡ full → NoFeed (b ∷ text) → length kept < limit
    → length kept + suc (length text) ≡ limit
    → ((next : List ℕ) → NoFeed text → length next < limit → length next + length text ≡ limit → Stops text next more)
    → Stops (b ∷ text) kept more
stops_by b text kept more true is none small whole then =
    let step = stopped kept b (All-head (λ x. is_feed x ≡ false) b text none) is in
    record {
      lines =
          ap (λ (l : List Line). l ++ told (text ++ more) (stand_by (Some kept) b)) step.lines
          ∙ ap (λ s. line.TooLong ∷ told (text ++ more) s) step.place ∙ ap (λ (l : List Line). line.TooLong ∷ l) (told_none (text ++ more));
      place = ap (stands (text ++ more)) step.place ∙ stands_none (text ++ more);
    }
stops_by b text kept more false is none small whole then =
    let step = pushed kept b (All-head (λ x. is_feed x ≡ false) b text none) is in
    let below = leb-false 1023 (length kept) is in
    let rest = then (kept ++ b ∷ []) (All-tail (λ x. is_feed x ≡ false) b text none)
    (omega (arith, longer kept b)) (omega (arith, longer kept b)) in
    record {
      lines =
          ap (λ (l : List Line). l ++ told (text ++ more) (stand_by (Some kept) b)) step.lines
          ∙ ap (told (text ++ more)) step.place ∙ rest.lines;
      place = ap (stands (text ++ more)) step.place ∙ rest.place;
    }

stops : (text kept more : List ℕ) → NoFeed text → length kept < limit → length kept + length text ≡ limit → Stops text kept more
stops [] kept more none small whole = absurd (omega arith)
stops (b ∷ text) kept more none small whole =
    stops_by b text kept more (is_full kept) refl none small whole (λ next clear below is. stops text next more clear below is)

pub are_whole : LinesAreWhole
are_whole text more none = record {
  whole = λ small. (runs text [] (10 ∷ more) none (omega arith)).lines;
  behind = λ small. (runs text [] (10 ∷ more) none (omega arith)).place;
  waits = λ small. ap (λ (l : List ℕ). told l fresh) (sym (append-nil text)) ∙ (runs text [] [] none (omega arith)).lines;
  kept = λ small. ap (λ (l : List ℕ). stands l fresh) (sym (append-nil text)) ∙ (runs text [] [] none (omega arith)).place;
  long = λ whole. (stops text [] more none (omega arith) (omega arith)).lines;
  last = λ whole. (stops text [] more none (omega arith) (omega arith)).place;
}

-- ---- what is kept

no_feed_more : (kept : List ℕ) (b : ℕ) → NoFeed kept → is_feed b ≡ false → NoFeed (kept ++ b ∷ [])
no_feed_more kept b none other = λ k d below. grind (arith, common_steps)

-- a line feed leaves nothing
behind_feed : (b : ℕ) (all : List ℕ) → is_feed b ≡ true → IsBehindFeed [] (all ++ b ∷ [])
behind_feed b all is = record {
  front = all ++ b ∷ [];
  parts = sym (append-nil (all ++ b ∷ []));
  ends = inr (all, ap (λ x. all ++ x ∷ []) (eqb-true b 10 is));
  none = λ k d below. absurd (omega arith);
  short = omega arith;
}

-- any other byte stands behind what was kept
behind_more : (b : ℕ) (kept all : List ℕ) → is_feed b ≡ false → is_full kept ≡ false → IsBehindFeed kept all → IsBehindFeed (kept ++ b ∷ []) (all ++ b ∷ [])
behind_more b kept all other room is =
    let below = leb-false 1023 (length kept) room in
    record {
      front = is.front;
      parts = ap (λ (l : List ℕ). l ++ b ∷ []) is.parts ∙ append_assoc is.front kept (b ∷ []);
      ends = is.ends;
      none = no_feed_more kept b is.none other;
      short = omega (arith, longer kept b);
    }

abbrev Keeps : List ℕ → Stand → List ℕ → Type 0
Keeps bytes stand all = IfSome (stands bytes stand) (λ left. IsBehindFeed left all)

keeps_none : (bytes all : List ℕ) → Keeps bytes None all
keeps_none bytes all = subst (λ s. IfSome s (λ left. IsBehindFeed left all)) (sym (stands_none bytes)) tt

keeps_by : (b : ℕ) (bytes all kept : List ℕ) (feed full : Bool) → is_feed b ≡ feed → is_full kept ≡ full → IsBehindFeed kept all
    → ((next more : List ℕ) → IsBehindFeed next more → Keeps bytes (Some next) (more ++ bytes))
    → Keeps bytes (stand_by (Some kept) b) ((all ++ b ∷ []) ++ bytes)
keeps_by b bytes all kept true full feed is_so is then =
    let to : stand_by (Some kept) b ≡ fresh = rw feed refl in
    subst (λ s. Keeps bytes s ((all ++ b ∷ []) ++ bytes)) (sym to) (then [] (all ++ b ∷ []) (behind_feed b all feed))
keeps_by b bytes all kept false true feed is_so is then =
    subst (λ s. Keeps bytes s ((all ++ b ∷ []) ++ bytes)) (sym (stopped kept b feed is_so).place) (keeps_none bytes ((all ++ b ∷ []) ++ bytes))
keeps_by b bytes all kept false false feed is_so is then =
    subst (λ s. Keeps bytes s ((all ++ b ∷ []) ++ bytes)) (sym (pushed kept b feed is_so).place)
    (then (kept ++ b ∷ []) (all ++ b ∷ []) (behind_more b kept all feed is_so is))

keeps : (bytes all kept : List ℕ) → IsBehindFeed kept all → Keeps bytes (Some kept) (all ++ bytes)
keeps [] all kept is = subst (λ (l : List ℕ). IsBehindFeed kept l) (sym (append-nil all)) is
keeps (b ∷ bytes) all kept is =
    subst (λ (l : List ℕ). Keeps bytes (stand_by (Some kept) b) l) (append_assoc all (b ∷ []) bytes)
    (keeps_by b bytes all kept (is_feed b) (is_full kept) refl refl is (λ next more h. keeps bytes more next h))

pub little_kept : LittleIsKept
little_kept bytes =
    keeps bytes [] [] (record { front = []; parts = refl; ends = inl refl; none = λ k d below. absurd (omega arith); short = omega arith })
