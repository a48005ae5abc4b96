-- What the state of a reader stands for.
use Rattle.std.specs.Prelude.{◌≡◌, ◌⊎◌, List, ◌∷◌, map, reverse, Result, Ok, Err, MatchResult}
use Rattle.px_filter.specs.Expression.{Expression}
use Rattle.px_filter.specs.Reading.{Level, Frame, bang, paren, State}
use Rattle.px_filter.specs.View.{view, views}
use Rattle.px_filter.specs.declared.filter.FilterError.{FilterError}
use Rattle.px_filter.specs.declared.filter.FilterError.TheVariants as refusals
use Rattle.px_filter.specs.declared.tree.Tree.{Tree}
use Rattle.px_filter.specs.declared.state.Level as kept_level
use Rattle.px_filter.specs.declared.state.Frame as kept_frame
use Rattle.px_filter.specs.declared.state.Frame.TheVariants as kept
use Rattle.px_filter.specs.declared.state.State as kept_state

abbrev pub level_view : kept_level.Level → Level
level_view l = record { choices = views l.choices.items; boths = views l.boths.items; unaries = views l.unaries.items }

abbrev pub frame_view : kept_frame.Frame → Frame
frame_view kept.Not = bang
frame_view (kept.Paren level) = paren (level_view level)

-- the innermost is the last that is kept
abbrev pub frames_view : List kept_frame.Frame → List Frame
frames_view frames = reverse (map frame_view frames)

abbrev pub state_view : kept_state.State → State
state_view s = record { frames = frames_view s.frames.items; level = level_view s.level; awaits = s.awaits }

-- the innermost is no negation
abbrev pub IsNoNegation : List Frame → Type 0
IsNoNegation (bang ∷ frames) = ⊥
IsNoNegation _ = Unit {0}

-- the answer is what is due, or memory ran out
abbrev pub Meets : Result Expression FilterError → Result Tree FilterError → Type 0
Meets due answer = MatchResult answer (λ tree. due ≡ Ok (view tree)) (λ e. (e ≡ refusals.NoMemory) ⊎ (due ≡ Err e))
