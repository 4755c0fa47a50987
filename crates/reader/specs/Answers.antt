-- The numbers of an answer, or of a refusal, as the calls of reading say them. Assumes nothing: these are definitions.
use Rattle.std.specs.Prelude.{Result, Ok, Err}
use Rattle.meaning.specs.Calls.{Counts, counts}
use Rattle.meaning.specs.Refused.{number_of}
use Rattle.meaning.specs.declared.refusals.Refusal.{Refusal}
use Rattle.reader_basic.specs.declared.Answer.{Answer}

abbrev pub answer_of : Result Answer Refusal → Counts
answer_of (Ok a) = counts 0 a.used a.count
answer_of (Err r) = counts (number_of r) 0 0
