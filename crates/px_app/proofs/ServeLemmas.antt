-- What is told of a run that serves, as its options say it, by how serving and the status's line went.
use Rattle.std.proofs.Common.{◌≡◌, ◌≢◌, ◌≤◌, ◌⊎◌, inl, ℕ, List, Option, None, ◌++◌, ◌∙◌, sym, subst}
use Rattle.px_message.specs.declared.flow.Flow.{Flow}
use Rattle.px_event.specs.Trace.{Trace}
use Rattle.px_outside.specs.Count.{Rose}
use Rattle.px_outside.specs.Sink.{Writes, WritesPart}
use Rattle.px_core.specs.Answers.{Answering, Failing, FilesMeaning}
use Rattle.px_core.specs.Kind.{KeepsKind}
use Rattle.px_exchange.specs.declared.mode.Mode.{Mode}
use Rattle.px_options.specs.Options.{Settings}
use Rattle.px_options.specs.View.{mode_view}
use Rattle.px_resend.specs.Due.{most_replayed}
use Rattle.px_app.specs.Dues.{run_due}
use Rattle.px_app.specs.Lines.{line_of}
use Rattle.px_app.specs.Listed.{listed}
use Rattle.px_words.specs.Outside.{Outside}
use Rattle.px_app.specs.Printed.{Ends, Has, at_end}
use Rattle.px_app.specs.Promises.{Prints}
use Rattle.px_app.specs.Saved.{SavesTo}
use Rattle.px_app.specs.Serves.{Served, saves_of}
use Rattle.px_app.specs.Serving.{Ran}
use Rattle.px_app.specs.Statuses.{code_of}
use Rattle.px_app.specs.declared.printing.Printing.{Printing}
use Rattle.px_app.specs.declared.printing.Printing.TheVariants.{Failed}
use Rattle.px_app.specs.declared.status.Status.{Status}
use Rattle.px_app.specs.declared.status.Status.TheVariants.{NoMemory, OutputFailed}
use Rattle.px_app.proofs.AtOnceLemmas.{WaitsNot}
use Rattle.px_app.proofs.CodeLemmas.{causes_of, code_by, ended_or, not_eight, other_says, seven_says, zero_says}
use Rattle.px_app.proofs.EndLemmas.{printed_part, printed_whole}
use Rattle.px_app.proofs.OutputLemmas.{has_of, outputs_at}
use Rattle.px_app.proofs.PromiseLemmas.{promises_in, promises_of}
use Rattle.px_app.proofs.RanLemmas.{replays_by}
use Rattle.px_app.proofs.RunLemmas.{same_mode}
use Rattle.px_app.proofs.SetupLemmas.{ends_by, ends_so}

-- How the status's line was printed behind what was printed so far: the status that is answered with its number, and what the sink has.
pub record LineGoes (printing : Printing) (status ended : Status) (code : ℕ) (mid now : Option (List ℕ)) (first old later : ℕ) : Type 0 where
  pub is : (ended ≡ at_end printing status) ⊎ (ended ≡ NoMemory)
  pub code_is : code ≡ code_of ended
  pub memory : status ≡ NoMemory → (ended ≡ NoMemory) × (now ≡ mid)
  pub prints : (start : Option (List ℕ)) (text : List ℕ) → Has printing text start mid → Ends printing (text ++ line_of (code_of ended)) start now old later ended
  pub still : printing ≡ Failed → now ≡ mid
  pub from_first : first ≤ old

module _ {S : Type 0} (answers : Answering S) (drops : List ℕ → S → S → Type 0) (names : S → List (List ℕ)) (fails : Failing S) (is : S → Type 0) (keeps : KeepsKind answers is WaitsNot)
    (stays : (name : List ℕ) (old new : S) → is old → drops name old new → is new) where
  module _ (before after : Outside) (printing : Printing) (status ended : Status) (code : ℕ) (mid : Option (List ℕ)) (first old later : ℕ)
      (line : LineGoes printing status ended code mid after.written first old later) (out_failed save_failed : Type 0) (failed : printing ≡ Failed → out_failed ⊎ save_failed)
      (rose : Rose first later → out_failed) where
    number : (code ≡ code_of (at_end printing status)) ⊎ (code ≡ 8)
    number = code_by printing status ended code line.is line.code_is

    -- a beginning of the lines is printed, and all of them where nothing failed
    prints_so : (trace : Trace) → (status ≢ NoMemory → Has printing (listed trace) before.written mid) → WritesPart (listed trace) before.written mid →
        Prints (out_failed ⊎ save_failed) code trace before.written after.written
    prints_so trace has part = record {
      begun =
          let P : ℕ → Type 0 = λ n. WritesPart (listed trace ++ line_of n) before.written after.written in
          subst P (sym line.code_is)
          (printed_part status ended printing (listed trace) before.written mid after.written old later has part (λ memory. (line.memory memory).1)
          (λ here. line.prints before.written (listed trace) here));
      whole = λ well.
          let P : ℕ → Type 0 = λ n. Writes (listed trace ++ line_of n) before.written after.written in
          subst P (sym line.code_is)
          (printed_whole (out_failed ⊎ save_failed) ended printing (listed trace) before.written mid after.written first old later
          (has (other_says printing status code number (not_eight code _ well))) (λ here. line.prints before.written (listed trace) here)
          line.from_first failed (λ risen. inl (rose risen)) (ended_or ended code _ line.code_is well));
    }

    -- what is told of the run
    pub served_so : (settings : Settings) (mode : Mode) (key : List ℕ) (resent : List Flow) (chain : S) (read : FilesMeaning) (to : Option SavesTo) (budget : ℕ) (told : Trace) →
        mode_view mode ≡ settings.mode →
        to ≡ saves_of settings → budget ≡ settings.events → (settings.intercept ≡ None → is chain) → status ≢ OutputFailed →
        Ran answers drops names fails (run_due mode key resent) (record { own = chain; files = read }) to budget status printing after.files (most_replayed resent) before.written mid told →
        Served answers drops names fails key out_failed save_failed settings chain resent read before after code told
    served_so settings mode key resent chain read to budget told in_mode saves events lets not ran =
        let run = ran.run in
        let well = λ (other : code ≢ 8). other_says printing status code number other in
        record {
          trace = run.trace;
          changes = run.changes;
          operations = run.operations;
          over = run.over;
          promises = λ wanted wants. promises_in (same_mode mode wanted (in_mode ∙ wants))
              (promises_of answers drops names fails is keeps stays settings.intercept mode key resent _ to budget status printing after.files before.written mid told code well lets
              (replays_by (most_replayed resent) (code_of status) code told (causes_of printing status code number) ran.replays) run);
          outputs = outputs_at (out_failed ⊎ save_failed) run.changes (saves_of settings) code run.trace before.written mid after.written saves run.made run.part printing
              (λ other. run.reaches (well other)) line.still failed (λ zero. (zero_says printing status code number zero).1) (λ seven. (seven_says printing status code number not seven).1);
          ends = ends_by events (ends_so printing status code number not budget run.over told run.is_end);
          prints = prints_so run.trace (λ other. has_of (run.reaches other)) run.part.part;
        }
