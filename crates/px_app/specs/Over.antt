-- What a run appended over its trace, and what became of files.
--
-- When all steps that follow from something heard, or from the beginning of a conversation without a client, are said, the flows that finished in them are printed and
-- saved, before the next thing is heard or begins. So each rest of the trace has one change of files, which appends what has become due there. Between them an operator may take an addon away, which changes no
-- file.
use Rattle.std.specs.Prelude.{◌≡◌, ◌≤◌, ℕ, List, [], ◌∷◌, ◌++◌, map, Option}
use Rattle.std.specs.List.{flat_map}
use Rattle.px_text.specs.Prefix.{IsPrefixOf}
use Rattle.px_message.specs.declared.flow.Flow.{Flow}
use Rattle.px_event.specs.declared.ask.Hook.{Hook}
use Rattle.px_event.specs.declared.step.Step.TheVariants as steps
use Rattle.px_event.specs.Trace.{Trace}
use Rattle.px_outside.specs.Sink.{WritesPart}
use Rattle.px_core.specs.declared.answerer.Answer.{Answer}
use Rattle.px_core.specs.Answers.{Answering, AnswererState, Failing, FilesMeaning}
use Rattle.px_core.specs.Course.{Change, Course, Operated}
use Rattle.px_core.specs.Run.{done_of}
use Rattle.px_app.specs.Listed.{listed}
use Rattle.px_app.specs.Saved.{Appending, ArePut, BrokeAppending, Came, SavesTo, saved}
use Rattle.px_words.specs.Appends.{Append, put}
use Rattle.px_app.specs.declared.printing.Printing.{Printing}
use Rattle.px_app.specs.declared.printing.Printing.TheVariants.{Whole, Failed}

-- where a trace rests: behind the last step of each thing heard, and of each conversation that began with no one heard; these are its prefixes that end so
abbrev pub rests : Trace → Trace → List Trace
rests prefix [] = prefix ∷ []
rests prefix (steps.Heard moment what ∷ rest) = prefix ∷ rests (prefix ++ steps.Heard moment what ∷ []) rest
rests prefix (steps.Begun conv ∷ rest) = prefix ∷ rests (prefix ++ steps.Begun conv ∷ []) rest
rests prefix (step ∷ rest) = rests (prefix ++ step ∷ []) rest

abbrev pub rests_of : Trace → List Trace
rests_of [] = []
rests_of (step ∷ rest) = rests (step ∷ []) rest

-- the course of an answerer that began so, by these changes, and by what operators did to flows
abbrev pub course_from : {S : Type 0} → AnswererState S → List (Change S) → List Operated → Course S
course_from first changes operations = record { first = first; changes = changes; operations = operations }

-- the flows that a trace finishes
abbrev pub finished_in : Trace → List Flow
finished_in trace = flat_map done_of trace

-- The changes of a run that saves, behind which traces it saved, and what they appended in sum: in each of them what is due of the flows that are finished there was
-- appended, up to a write or an append that failed, or to out of memory; behind that nothing is appended. Where an addon is taken away nothing is.
pub data SavedOver {S : Type 0} (to : Option SavesTo) : Printing → List (Change S) → List Trace → List Append → Type 0 where
  nothing_yet : SavedOver to Whole [] [] []
  all_saved : (changes next : List (Change S)) (placed next_placed : List Trace) (one : Change S) (made more all : List Append) → SavedOver to Whole changes placed made → one.new.own ≡ one.old.own →
      Appending to one.old.files more one.new.files → all ≡ made ++ more → all ≡ map put (saved to (finished_in one.behind)) → next ≡ changes ++ one ∷ [] → next_placed ≡ placed ++ one.behind ∷ [] →
      SavedOver to Whole next next_placed all
  is_cut : (changes next : List (Change S)) (placed next_placed : List Trace) (one : Change S) (made more all : List Append) → SavedOver to Whole changes placed made → one.new.own ≡ one.old.own →
      Appending to one.old.files more one.new.files → all ≡ made ++ more → ArePut (saved to (finished_in one.behind)) all → next ≡ changes ++ one ∷ [] → next_placed ≡ placed ++ one.behind ∷ [] →
      SavedOver to Failed next next_placed all
  is_broken : (changes next : List (Change S)) (placed next_placed : List Trace) (one : Change S) (made more all : List Append) → SavedOver to Whole changes placed made → one.new.own ≡ one.old.own →
      BrokeAppending to one.old.files more one.new.files → all ≡ made ++ more → IsPrefixOf all (map put (saved to (finished_in one.behind))) → next ≡ changes ++ one ∷ [] →
      next_placed ≡ placed ++ one.behind ∷ [] → SavedOver to Failed next next_placed all
  stays_cut : (changes next : List (Change S)) (placed next_placed : List Trace) (one : Change S) (made : List Append) → SavedOver to Failed changes placed made → one.new ≡ one.old → next ≡ changes ++ one ∷ [] →
      next_placed ≡ placed ++ one.behind ∷ [] → SavedOver to Failed next next_placed made
  drops_one : (reached : Printing) (changes next : List (Change S)) (placed : List Trace) (one : Change S) (made : List Append) → SavedOver to reached changes placed made → one.new.files ≡ one.old.files →
      next ≡ changes ++ one ∷ [] → SavedOver to reached next placed made

-- How far a run came at a rest of its trace, whose sink began so.
pub record Reaches {S : Type 0} (to : Option SavesTo) (reached : Printing) (changes : List (Change S)) (made : List Append) (trace : Trace) (start now : Option (List ℕ)) : Type 0 where
  pub placed : List Trace
  pub saved_so : SavedOver to reached changes placed made
  pub at_rests : placed ≡ rests_of trace
  pub came : Came reached to (finished_in trace) start now made

-- At any moment: a change stands at each rest of a prefix, and a beginning of the lines is printed.
pub record ReachesPart {S : Type 0} (to : Option SavesTo) (changes : List (Change S)) (made : List Append) (trace : Trace) (start now : Option (List ℕ)) : Type 0 where
  pub reached : Printing
  pub placed : List Trace
  pub saved_so : SavedOver to reached changes placed made
  pub later : List Trace
  pub at_rests : rests_of trace ≡ placed ++ later
  pub part : WritesPart (listed trace) start now

-- Answers, appends and addons that are taken away, in turn, each from the state and the files that the one before left.
pub data Goes {S : Type 0} (answers : Answering S) (drops : List ℕ → S → S → Type 0) (to : Option SavesTo) (first : AnswererState S) : AnswererState S → Type 0 where
  goes_none : Goes answers drops to first first
  goes_answer : (old new : AnswererState S) (hook : Hook) (flow : Flow) (given : Answer) → Goes answers drops to first old → answers hook flow old.own old.files new.own new.files given →
      Goes answers drops to first new
  goes_append : (old new : AnswererState S) (made : List Append) → Goes answers drops to first old → new.own ≡ old.own → Appending to old.files made new.files → Goes answers drops to first new
  goes_drop : (old new : AnswererState S) (name : List ℕ) → Goes answers drops to first old → drops name old.own new.own → new.files ≡ old.files → Goes answers drops to first new

-- What files mean behind them: all were made, or the last of them ran out of memory.
pub data LeavesBehind {S : Type 0} (answers : Answering S) (drops : List ℕ → S → S → Type 0) (fails : Failing S) (to : Option SavesTo) (first : AnswererState S) (files : FilesMeaning) : Type 0 where
  left_whole : (last : AnswererState S) → Goes answers drops to first last → files ≡ last.files → LeavesBehind answers drops fails to first files
  left_by_answer : (last : AnswererState S) (hook : Hook) (flow : Flow) → Goes answers drops to first last → fails hook flow last.own last.files files → LeavesBehind answers drops fails to first files
  left_by_append : (last : AnswererState S) (made : List Append) → Goes answers drops to first last → BrokeAppending to last.files made files → LeavesBehind answers drops fails to first files

-- Answers, and those that ran out of memory, never lessen the count of appends that failed.
pub record KeepsLosses {S : Type 0} (answers : Answering S) (fails : Failing S) : Type 0 where
  pub given_so : (hook : Hook) (flow : Flow) (old : S) (old_files : FilesMeaning) (new : S) (new_files : FilesMeaning) (given : Answer) →
      answers hook flow old old_files new new_files given → old_files.losses ≤ new_files.losses
  pub failed_so : (hook : Hook) (flow : Flow) (old : S) (old_files new_files : FilesMeaning) → fails hook flow old old_files new_files → old_files.losses ≤ new_files.losses
