-- The lives of one side among all lives: none, or one of which something holds, and what a call makes of that.
use Rattle.std.proofs.Common.{◌≡◌, ◌⊎◌, inl, inr, ◌∙◌, ℕ, Bool, true, false, refl, ap, List, [], ◌∷◌, ◌++◌, ◌||◌}
use Rattle.std.specs.List.{list_any, find, flat_map}
use Rattle.std.proofs.lemmas.List.{append-nil}
use Rattle.px_event.specs.declared.side.Side.{Side}
use Rattle.px_wire.specs.Ledger.{Life, change_first, move_first, drop_first, is_life_of}
use Rattle.px_wire.specs.Rules.{Either, FirstIs}
use Rattle.px_wire.specs.Taken.{listed, taken_by}

abbrev pub NoneOwn : (Life → Bool) → List Life → Type 0
NoneOwn own lives = list_any own lives ≡ false

-- exactly one life is the side's, and it is so
abbrev pub OneOwn : (Life → Bool) → (Life → Type 0) → List Life → Type 0
OneOwn own P [] = ⊥
OneOwn own P (life ∷ lives) = Either (own life) (P life × NoneOwn own lives) (OneOwn own P lives)

module _ (own : Life → Bool) where
  head_of : (life : Life) (lives : List Life) → NoneOwn own (life ∷ lives) → own life ≡ false
  head_of life lives none = by (own life) refl
    where
      by : (b : Bool) → own life ≡ b → own life ≡ false
      by true is = let e : true ≡ false = rw is at none in absurd (cc)
      by false is = is

  tail_of : (life : Life) (lives : List Life) → NoneOwn own (life ∷ lives) → NoneOwn own lives
  tail_of life lives none = let is = head_of life lives none in rw is at none

  none_of : (life : Life) (lives : List Life) → own life ≡ false → NoneOwn own lives → NoneOwn own (life ∷ lives)
  none_of life lives is none = rw is none

  -- ---- the first that passes is changed

  pub own_changed : (test : Life → Bool) (f : Life → Life) → ((life : Life) → own (f life) ≡ own life) → (lives : List Life) → list_any own (change_first test f lives) ≡ list_any own lives
  own_changed test f same [] = refl
  own_changed test f same (life ∷ lives) = by (test life) refl (own_changed test f same lives)
    where
      by : (b : Bool) → test life ≡ b → list_any own (change_first test f lives) ≡ list_any own lives → list_any own (change_first test f (life ∷ lives)) ≡ list_any own (life ∷ lives)
      by true is rest = rw is (ap (λ (b : Bool). b || list_any own lives) (same life))
      by false is rest = rw is (ap (λ (b : Bool). own life || b) rest)

  module _ (P : Life → Type 0) (test : Life → Bool) (f : Life → Life) (same : (life : Life) → own (f life) ≡ own life) where
    now_here : (life : Life) (lives : List Life) → own life ≡ true → P (f life) → NoneOwn own lives → OneOwn own P (f life ∷ lives)
    now_here life lives is p none = let now : own (f life) ≡ true = same life ∙ is in rw now (p, none)

    still_there : (life : Life) (lives : List Life) → own life ≡ false → OneOwn own P lives → OneOwn own P (f life ∷ lives)
    still_there life lives is p = let now : own (f life) ≡ false = same life ∙ is in rw now p

    pub one_changed : ((life : Life) → own life ≡ true → test life ≡ true → P life → P (f life)) → (lives : List Life) → OneOwn own P lives → OneOwn own P (change_first test f lives)
    one_changed keeps [] one = absurd one
    one_changed keeps (life ∷ lives) one = by (test life) refl (own life) refl (λ there. one_changed keeps lives there)
      where
        by : (b : Bool) → test life ≡ b → (o : Bool) → own life ≡ o → (OneOwn own P lives → OneOwn own P (change_first test f lives)) → OneOwn own P (change_first test f (life ∷ lives))
        by true hit true mine rest = let here : P life × NoneOwn own lives = rw mine at one in rw hit (now_here life lives mine (keeps life mine hit here.0) here.1)
        by true hit false mine rest = let there : OneOwn own P lives = rw mine at one in rw hit (still_there life lives mine there)
        by false hit true mine rest =
            let here : P life × NoneOwn own lives = rw mine at one in
            rw (hit, mine) (here.0, own_changed test f same lives ∙ here.1)
        by false hit false mine rest = let there : OneOwn own P lives = rw mine at one in rw (hit, mine) (rest there)

    -- the same, where the first that passes is known to be so
    pub first_changed : (Q : Life → Type 0) → ((life : Life) → Q life → P life → P (f life)) → (lives : List Life) → FirstIs test Q lives → OneOwn own P lives → OneOwn own P (change_first test f lives)
    first_changed Q keeps [] first one = absurd one
    first_changed Q keeps (life ∷ lives) first one = by (test life) refl (own life) refl (λ q there. first_changed Q keeps lives q there)
      where
        by : (b : Bool) → test life ≡ b → (o : Bool) → own life ≡ o → (FirstIs test Q lives → OneOwn own P lives → OneOwn own P (change_first test f lives))
            → OneOwn own P (change_first test f (life ∷ lives))
        by true hit true mine rest =
            let here : P life × NoneOwn own lives = rw mine at one in
            let q : Q life = rw hit at first in
            rw hit (now_here life lives mine (keeps life q here.0) here.1)
        by true hit false mine rest = let there : OneOwn own P lives = rw mine at one in rw hit (still_there life lives mine there)
        by false hit true mine rest =
            let here : P life × NoneOwn own lives = rw mine at one in
            rw (hit, mine) (here.0, own_changed test f same lives ∙ here.1)
        by false hit false mine rest =
            let there : OneOwn own P lives = rw mine at one in
            let q : FirstIs test Q lives = rw hit at first in
            rw (hit, mine) (rest q there)

    -- the side's own life is changed
    pub own_one_changed : (Q : Life → Type 0) → ((life : Life) → Q life → P (f life)) → (lives : List Life) → OneOwn own Q lives → OneOwn own P (change_first own f lives)
    own_one_changed Q keeps [] one = absurd one
    own_one_changed Q keeps (life ∷ lives) one = by (own life) refl (λ there. own_one_changed Q keeps lives there)
      where
        by : (o : Bool) → own life ≡ o → (OneOwn own Q lives → OneOwn own P (change_first own f lives)) → OneOwn own P (change_first own f (life ∷ lives))
        by true mine rest = let here : Q life × NoneOwn own lives = rw mine at one in rw mine (now_here life lives mine (keeps life here.0) here.1)
        by false mine rest = let there : OneOwn own Q lives = rw mine at one in rw (mine, mine) (rest there)

  -- ---- one more

  pub none_added : (lives : List Life) (new : Life) → NoneOwn own lives → own new ≡ false → NoneOwn own (lives ++ new ∷ [])
  none_added [] new none other = rw other refl
  none_added (life ∷ lives) new none other = none_of life (lives ++ new ∷ []) (head_of life lives none) (none_added lives new (tail_of life lives none) other)

  pub one_added : (P : Life → Type 0) (lives : List Life) (new : Life) → OneOwn own P lives → own new ≡ false → OneOwn own P (lives ++ new ∷ [])
  one_added P [] new one other = absurd one
  one_added P (life ∷ lives) new one other = by (own life) refl (λ there. one_added P lives new there other)
    where
      by : (o : Bool) → own life ≡ o → (OneOwn own P lives → OneOwn own P (lives ++ new ∷ [])) → OneOwn own P ((life ∷ lives) ++ new ∷ [])
      by true mine rest = let here : P life × NoneOwn own lives = rw mine at one in rw mine (here.0, none_added lives new here.1 other)
      by false mine rest = let there : OneOwn own P lives = rw mine at one in rw mine (rest there)

  pub new_added : (P : Life → Type 0) (lives : List Life) (new : Life) → NoneOwn own lives → own new ≡ true → P new → OneOwn own P (lives ++ new ∷ [])
  new_added P [] new none mine p = rw mine (p, refl)
  new_added P (life ∷ lives) new none mine p =
      let other : own life ≡ false = head_of life lives none in
      rw other (new_added P lives new (tail_of life lives none) mine p)

  -- ---- the first that passes is changed, and goes behind all others

  module _ (test : Life → Bool) (f : Life → Life) (same : (life : Life) → own (f life) ≡ own life) where
    pub none_moved : (lives : List Life) → NoneOwn own lives → NoneOwn own (move_first test f lives)
    none_moved [] none = none
    none_moved (life ∷ lives) none = by (test life) refl (none_moved lives (tail_of life lives none))
      where
        by : (b : Bool) → test life ≡ b → NoneOwn own (move_first test f lives) → NoneOwn own (move_first test f (life ∷ lives))
        by true hit rest = rw hit (none_added lives (f life) (tail_of life lives none) (same life ∙ head_of life lives none))
        by false hit rest = rw hit (none_of life (move_first test f lives) (head_of life lives none) rest)

    pub one_moved : (P : Life → Type 0) → ((life : Life) → own life ≡ true → test life ≡ true → P life → P (f life)) → (lives : List Life) → OneOwn own P lives → OneOwn own P (move_first test f lives)
    one_moved P keeps [] one = absurd one
    one_moved P keeps (life ∷ lives) one = by (test life) refl (own life) refl (λ there. one_moved P keeps lives there)
      where
        by : (b : Bool) → test life ≡ b → (o : Bool) → own life ≡ o → (OneOwn own P lives → OneOwn own P (move_first test f lives)) → OneOwn own P (move_first test f (life ∷ lives))
        by true hit true mine rest =
            let here : P life × NoneOwn own lives = rw mine at one in
            rw hit (new_added P lives (f life) here.1 (same life ∙ mine) (keeps life mine hit here.0))
        by true hit false mine rest =
            let there : OneOwn own P lives = rw mine at one in
            rw hit (one_added P lives (f life) there (same life ∙ mine))
        by false hit true mine rest =
            let here : P life × NoneOwn own lives = rw mine at one in
            rw (hit, mine) (here.0, none_moved lives here.1)
        by false hit false mine rest = let there : OneOwn own P lives = rw mine at one in rw (hit, mine) (rest there)

-- ---- what was taken, and the first that passes is dropped

module _ (conv : ℕ) (side : Side) where
  not_taken : (life : Life) → is_life_of conv side life ≡ false → taken_by conv side life ≡ []
  not_taken life other = rw other refl

  is_taken : (life : Life) → is_life_of conv side life ≡ true → taken_by conv side life ≡ life.taken
  is_taken life mine = rw mine refl

  pub none_taken : (lives : List Life) → NoneOwn (is_life_of conv side) lives → flat_map (taken_by conv side) lives ≡ []
  none_taken [] none = refl
  none_taken (life ∷ lives) none =
      ap (λ (l : List ℕ). l ++ flat_map (taken_by conv side) lives) (not_taken life (head_of (is_life_of conv side) life lives none))
      ∙ none_taken lives (tail_of (is_life_of conv side) life lives none)

  -- the side's own life, and all bytes taken in these
  abbrev pub OneTaken : (Life → Type 0) → List Life → Type 0
  OneTaken P lives = (life : Life) × P life × (flat_map (taken_by conv side) lives ≡ life.taken)

  pub one_taken : (P : Life → Type 0) (lives : List Life) → OneOwn (is_life_of conv side) P lives → OneTaken P lives
  one_taken P [] one = absurd one
  one_taken P (life ∷ lives) one = by (is_life_of conv side life) refl (λ there. one_taken P lives there)
    where
      by : (o : Bool) → is_life_of conv side life ≡ o → (OneOwn (is_life_of conv side) P lives → OneTaken P lives) → OneTaken P (life ∷ lives)
      by true mine more =
          let here : P life × NoneOwn (is_life_of conv side) lives = rw mine at one in
          (life, here.0, ap (λ (l : List ℕ). l ++ flat_map (taken_by conv side) lives) (is_taken life mine) ∙ (ap (λ (l : List ℕ). life.taken ++ l) (none_taken lives here.1) ∙ append-nil life.taken))
      by false mine more =
          let there : OneOwn (is_life_of conv side) P lives = rw mine at one in
          let rest = more there in
          (rest.0, rest.1, ap (λ (l : List ℕ). l ++ flat_map (taken_by conv side) lives) (not_taken life mine) ∙ rest.2)

  -- the bytes taken in the life that is dropped
  abbrev pub dropped : (Life → Bool) → List Life → List ℕ
  dropped test lives = flat_map (taken_by conv side) (listed (find test lives))

  pub none_dropped : (test : Life → Bool) (lives : List Life) → NoneOwn (is_life_of conv side) lives → NoneOwn (is_life_of conv side) (drop_first test lives) × (dropped test lives ≡ [])
  none_dropped test [] none = (refl, refl)
  none_dropped test (life ∷ lives) none = by (test life) refl (none_dropped test lives (tail_of (is_life_of conv side) life lives none))
    where
      by : (b : Bool) → test life ≡ b → NoneOwn (is_life_of conv side) (drop_first test lives) × (dropped test lives ≡ [])
          → NoneOwn (is_life_of conv side) (drop_first test (life ∷ lives)) × (dropped test (life ∷ lives) ≡ [])
      by true hit rest = rw hit (tail_of (is_life_of conv side) life lives none, ap (λ (l : List ℕ). l ++ []) (not_taken life (head_of (is_life_of conv side) life lives none)))
      by false hit rest = rw hit (none_of (is_life_of conv side) life (drop_first test lives) (head_of (is_life_of conv side) life lives none) rest.0, rest.1)

  -- another life was dropped, or the side's own
  abbrev pub OneDropped : (Life → Type 0) → (Life → Bool) → List Life → Type 0
  OneDropped P test lives =
      (OneOwn (is_life_of conv side) P (drop_first test lives) × (dropped test lives ≡ []))
      ⊎ (NoneOwn (is_life_of conv side) (drop_first test lives) × ((life : Life) × P life × (dropped test lives ≡ life.taken)))

  pub one_dropped : (P : Life → Type 0) (test : Life → Bool) (lives : List Life) → OneOwn (is_life_of conv side) P lives → OneDropped P test lives
  one_dropped P test [] one = absurd one
  one_dropped P test (life ∷ lives) one = by (test life) refl (is_life_of conv side life) refl (λ there. one_dropped P test lives there)
    where
      behind : is_life_of conv side life ≡ false → test life ≡ false → OneDropped P test lives → OneDropped P test (life ∷ lives)
      behind mine hit (inl there) = inl (let one : OneOwn (is_life_of conv side) P (life ∷ drop_first test lives) = rw mine there.0 in rw hit one, rw hit there.1)
      behind mine hit (inr there) =
          inr (
            let none : NoneOwn (is_life_of conv side) (life ∷ drop_first test lives) = none_of (is_life_of conv side) life (drop_first test lives) mine there.0 in rw hit none,
            (there.1.0, there.1.1, rw hit there.1.2),
          )

      by : (b : Bool) → test life ≡ b → (o : Bool) → is_life_of conv side life ≡ o → (OneOwn (is_life_of conv side) P lives → OneDropped P test lives) → OneDropped P test (life ∷ lives)
      by true hit true mine rest =
          let here : P life × NoneOwn (is_life_of conv side) lives = rw mine at one in
          inr (rw hit here.1, (life, here.0, rw hit (ap (λ (l : List ℕ). l ++ []) (is_taken life mine) ∙ append-nil life.taken)))
      by true hit false mine rest =
          let there : OneOwn (is_life_of conv side) P lives = rw mine at one in
          inl (rw hit there, rw hit (ap (λ (l : List ℕ). l ++ []) (not_taken life mine)))
      by false hit true mine rest =
          let here : P life × NoneOwn (is_life_of conv side) lives = rw mine at one in
          inl (rw (hit, mine) (here.0, (none_dropped test lives here.1).0), rw hit (none_dropped test lives here.1).1)
      by false hit false mine rest =
          let there : OneOwn (is_life_of conv side) P lives = rw mine at one in
          behind mine hit (rest there)
