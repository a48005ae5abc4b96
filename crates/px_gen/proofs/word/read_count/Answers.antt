use Rattle.std.proofs.Common.{sym, ap, ◌∙◌, arith, decimal}
use Rattle.std.proofs.lemmas.Bool.{both_ways}
use Rattle.px_gen.proofs.WordLemmas.{is_digits, is_the_number}
use Rattle.px_gen.proofs.word.read_count.Goals as goal

pub returns-in_default : goal.returns-in_default
returns-in_default c = record { read = λ n is. c.in_default.ensures.cases (is_digits c.args.word.now n is) }

pub returns-then-count-gt-MOST_FLOWS : goal.returns-then-count-gt-MOST_FLOWS
returns-then-count-gt-MOST_FLOWS c = record {
  read = λ n is.
      let same = is_the_number c.args.word.now n is in
      let most = is.1 in
      omega (arith, c.in-Some.ensures.cases.1);
}

pub returns-then-not-is_written : goal.returns-then-not-is_written
returns-then-not-is_written c = record {
  read = λ n is.
      let same = c.in-Some.ensures.cases.1 ∙ is_the_number c.args.word.now n is in
      both_ways c.is_written.result c.if-not-is_written.true (c.is_written.ensures.1 (is.0 ∙ ap decimal (sym same)));
}
