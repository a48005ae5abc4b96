-- What an operator is answered.
use Rattle.std.specs.Prelude.{ℕ, List, [], ◌∷◌, ◌++◌, codes}
use Rattle.px_view.specs.declared.answer.OperatorAnswer.{OperatorAnswer}
use Rattle.px_view.specs.declared.answer.OperatorAnswer.TheVariants as answer
use Rattle.px_view.specs.Line.{id_text}

abbrev pub answer_words : OperatorAnswer → List ℕ
answer_words (answer.Waiting id) = id_text id ++ codes " waiting"
answer_words (answer.Going id) = id_text id ++ codes " going"
answer_words answer.End = codes "end"
answer_words answer.Done = codes "ok"
answer_words answer.NoSuchFlow = codes "no such flow"
answer_words answer.NotWaiting = codes "not waiting"
answer_words answer.NotThere = codes "not there"
answer_words answer.BadValue = codes "bad value"
answer_words answer.NoSuchAddon = codes "no such addon"
answer_words answer.UnknownCommand = codes "unknown command"
answer_words answer.BadNumber = codes "bad number"
answer_words answer.LineTooLong = codes "line too long"
answer_words answer.Bye = codes "bye"

-- a line of its own
abbrev pub answer_text : OperatorAnswer → List ℕ
answer_text given = answer_words given ++ 10 ∷ []
