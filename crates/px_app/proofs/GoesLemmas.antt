-- Answers, appends and addons that are taken away, in turn, and what they leave of files.
use Rattle.std.proofs.Common.{◌≡◌, ℕ, List, Option, refl, sym, subst}
use Rattle.px_message.specs.declared.flow.Flow.{Flow}
use Rattle.px_event.specs.declared.ask.Hook.{Hook}
use Rattle.px_core.specs.declared.answerer.Answer.{Answer}
use Rattle.px_core.specs.Answers.{Answering, AnswererState, ByAnswers, Failing, FilesAfter, FilesMeaning, after_answers, after_failure, by_answer, by_none}
use Rattle.px_core.specs.Kind.{KeepsFiles}
use Rattle.px_app.specs.Over.{Goes, LeavesBehind, goes_answer, goes_append, goes_drop, goes_none, left_by_answer, left_by_append, left_whole}
use Rattle.px_app.specs.Saved.{Appending, BrokeAppending, SavesTo}
use Rattle.px_words.specs.Appends.{Append}

module _ {S : Type 0} (answers : Answering S) (drops : List ℕ → S → S → Type 0) (to : Option SavesTo) where
  pub goes_by : (first last : AnswererState S) → ByAnswers answers first last → Goes answers drops to first last
  goes_by first last (by_none at) = goes_none
  goes_by first last (by_answer start old new hook flow given more is) = goes_answer old last hook flow given (goes_by first old more) is

  -- one behind the other
  pub goes_both : (first between last : AnswererState S) → Goes answers drops to first between → Goes answers drops to between last → Goes answers drops to first last
  goes_both first between last before goes_none = before
  goes_both first between last before (goes_answer old new hook flow given more is) =
      goes_answer old last hook flow given (goes_both first between old before more) is
  goes_both first between last before (goes_append old new made more own appends) = goes_append old last made (goes_both first between old before more) own appends
  goes_both first between last before (goes_drop old new name more dropped files) = goes_drop old last name (goes_both first between old before more) dropped files

  -- one answer more
  pub goes_answered : (first old new : AnswererState S) (hook : Hook) (flow : Flow) (given : Answer) → Goes answers drops to first old →
      answers hook flow old.own old.files new.own new.files given → Goes answers drops to first new
  goes_answered first old new hook flow given before is = goes_answer old new hook flow given before is

  -- answers more
  pub goes_more : (first between last : AnswererState S) → Goes answers drops to first between → ByAnswers answers between last → Goes answers drops to first last
  goes_more first between last before by = goes_both first between last before (goes_by between last by)

  -- an addon less
  pub goes_dropped : (first old new : AnswererState S) (name : List ℕ) → Goes answers drops to first old → drops name old.own new.own → new.files ≡ old.files → Goes answers drops to first new
  goes_dropped first old new name before dropped files = goes_drop old new name before dropped files

  -- appends more, from which on the own state is as it was
  pub goes_appended : (first old new : AnswererState S) (made : List Append) → Goes answers drops to first old → new.own ≡ old.own → Appending to old.files made new.files →
      Goes answers drops to first new
  goes_appended first old new made before own appends = goes_append old new made before own appends

  -- appends more, said of the files they leave
  pub goes_on_files : (first old : AnswererState S) (made : List Append) (files : FilesMeaning) → Goes answers drops to first old → Appending to old.files made files →
      Goes answers drops to first (record { own = old.own; files = files })
  goes_on_files first old made files before appends = goes_append old (record { own = old.own; files = files }) made before refl appends

module _ {S : Type 0} (answers : Answering S) (drops : List ℕ → S → S → Type 0) (fails : Failing S) (to : Option SavesTo) where
  pub leaves_whole : (first last : AnswererState S) → Goes answers drops to first last → LeavesBehind answers drops fails to first last.files
  leaves_whole first last before = left_whole last before refl

  -- behind what went on, answers of which the last may have run out of memory
  pub leaves_by : (first between : AnswererState S) (files : FilesMeaning) → Goes answers drops to first between → FilesAfter answers fails between files →
      LeavesBehind answers drops fails to first files
  leaves_by first between files before (after_answers last by same) = left_whole last (goes_more answers drops to first between last before by) same
  leaves_by first between files before (after_failure last hook flow by is) = left_by_answer last hook flow (goes_more answers drops to first between last before by) is

  -- or appends behind which it ran out
  pub leaves_broke : (first last : AnswererState S) (made : List Append) (files : FilesMeaning) → Goes answers drops to first last → BrokeAppending to last.files made files →
      LeavesBehind answers drops fails to first files
  leaves_broke first last made files before broke = left_by_append last made before broke

  -- what is left behind what went on before
  pub leaves_both : (first between : AnswererState S) (files : FilesMeaning) → Goes answers drops to first between → LeavesBehind answers drops fails to between files →
      LeavesBehind answers drops fails to first files
  leaves_both first between files before (left_whole last more same) = left_whole last (goes_both answers drops to first between last before more) same
  leaves_both first between files before (left_by_answer last hook flow more is) = left_by_answer last hook flow (goes_both answers drops to first between last before more) is
  leaves_both first between files before (left_by_append last made more broke) = left_by_append last made (goes_both answers drops to first between last before more) broke

-- ---- what is kept of them

module _ {S : Type 0} (answers : Answering S) (drops : List ℕ → S → S → Type 0) (fails : Failing S) (is : S → Type 0) (goes : FilesMeaning → FilesMeaning → Type 0)
    (keeps : KeepsFiles answers fails is goes) (stays : (name : List ℕ) (old new : S) → is old → drops name old new → is new) (to : Option SavesTo)
    (by_appends : (first : FilesMeaning) (made : List Append) (now : FilesMeaning) → Appending to first made now → goes first now)
    (by_broken : (first : FilesMeaning) (made : List Append) (now : FilesMeaning) → BrokeAppending to first made now → goes first now) where
  record GoneBy (first last : AnswererState S) : Type 0 where
    so : is last.own
    goes_so : goes first.files last.files

  gone_by : (first last : AnswererState S) → is first.own → Goes answers drops to first last → GoneBy first last
  gone_by first last so goes_none = record { so = so; goes_so = keeps.same first.files }
  gone_by first last so (goes_answer old new hook flow given before answered) =
      let k = gone_by first old so before in
      record {
        so = keeps.stays hook flow old.own old.files last.own last.files given k.so answered;
        goes_so = keeps.on first.files old.files last.files k.goes_so (keeps.given_so hook flow old.own old.files last.own last.files given k.so answered);
      }
  gone_by first last so (goes_append old new made before own appends) =
      let k = gone_by first old so before in
      record { so = subst is (sym own) k.so; goes_so = keeps.on first.files old.files last.files k.goes_so (by_appends old.files made last.files appends) }
  gone_by first last so (goes_drop old new name before dropped files) =
      let k = gone_by first old so before in
      record { so = stays name old.own last.own k.so dropped; goes_so = subst (goes first.files) (sym files) k.goes_so }

  -- from a state that is so files change as the relation says
  pub gone_behind : (first : AnswererState S) (files : FilesMeaning) → is first.own → LeavesBehind answers drops fails to first files → goes first.files files
  gone_behind first files so (left_whole last before same) = subst (goes first.files) (sym same) ((gone_by first last so before).goes_so)
  gone_behind first files so (left_by_answer last hook flow before failed) =
      let k = gone_by first last so before in
      keeps.on first.files last.files files k.goes_so (keeps.failed_so hook flow last.own last.files files k.so failed)
  gone_behind first files so (left_by_append last made before broke) =
      let k = gone_by first last so before in
      keeps.on first.files last.files files k.goes_so (by_broken last.files made files broke)
