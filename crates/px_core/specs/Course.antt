-- What changes the state of an answerer, and what files mean, beside its answers; and what an operator did to flows.
--
-- Between two steps something else may change what an answerer answers by: what finished is put at a file's end, or an addon is taken away. And an
-- operator may mark a flow, or change, let go on or kill one that waits. A course says where the answerer began, each such change in its order and each
-- such operation in its order, with the trace behind which it was made.
use Rattle.std.specs.Prelude.{◌≡◌, ◌==◌, ◌&&◌, ℕ, Bool, false, List, [], ◌∷◌, ◌++◌}
use Rattle.std.specs.List.{list_any}
use Rattle.px_event.specs.Trace.{Trace}
use Rattle.px_core.specs.Answers.{AnswererState, FilesMeaning}
use Rattle.px_core.specs.declared.operation.Operation.{Operation}
use Rattle.px_core.specs.declared.operation.Operation.TheVariants as operations

-- behind a trace the one became the other
pub record Change (S : Type 0) : Type 0 where
  pub behind : Trace
  pub old : AnswererState S
  pub new : AnswererState S

-- what an operator did to a flow, behind a trace
pub record Operated : Type 0 where
  pub behind : Trace
  pub operation : Operation

pub record Course (S : Type 0) : Type 0 where
  pub first : AnswererState S
  pub changes : List (Change S)
  pub operations : List Operated

-- nothing else changed it, and no operator did anything
abbrev pub begins_at : {S : Type 0} → AnswererState S → Course S
begins_at first = record { first = first; changes = []; operations = [] }

abbrev pub change : {S : Type 0} → Trace → AnswererState S → AnswererState S → Change S
change trace old new = record { behind = trace; old = old; new = new }

-- one change more
abbrev pub with_change : {S : Type 0} → Course S → Trace → AnswererState S → AnswererState S → Course S
with_change course trace old new = record { first = course.first; changes = course.changes ++ change trace old new ∷ []; operations = course.operations }

abbrev pub operated : Trace → Operation → Operated
operated trace operation = record { behind = trace; operation = operation }

-- one operation more
abbrev pub with_operation : {S : Type 0} → Course S → Trace → Operation → Course S
with_operation course trace operation = record { first = course.first; changes = course.changes; operations = course.operations ++ operated trace operation ∷ [] }

-- it marks the flow of this conversation and index
abbrev pub is_mark_of : ℕ → ℕ → Operation → Bool
is_mark_of conv index (operations.Mark id) = (id.conv == conv) && (id.index == index)
is_mark_of conv index _ = false

-- one of these does
abbrev pub is_marked : List Operated → ℕ → ℕ → Bool
is_marked made conv index = list_any (λ o. is_mark_of conv index o.operation) made

-- each change is so
abbrev pub AllAre : {S : Type 0} → (Change S → Type 0) → List (Change S) → Type 0
AllAre Is [] = Unit {0}
AllAre Is (change ∷ changes) = Is change × AllAre Is changes

-- a course of which the other has the changes first, and the operations
pub record IsFrontOf {S : Type 0} (course prefix : Course S) : Type 0 where
  pub same : prefix.first ≡ course.first
  pub later : List (Change S)
  pub split : course.changes ≡ prefix.changes ++ later
  pub later_operations : List Operated
  pub split_operations : course.operations ≡ prefix.operations ++ later_operations

-- own states that are so become such ones
abbrev pub KeepsOwn : {S : Type 0} → (S → Type 0) → Change S → Type 0
KeepsOwn is change = is change.old.own → is change.new.own

-- what becomes of files is as this relation says
abbrev pub MovesFiles : {S : Type 0} → (FilesMeaning → FilesMeaning → Type 0) → Change S → Type 0
MovesFiles goes change = goes change.old.files change.new.files
