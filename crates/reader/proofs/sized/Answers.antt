-- `reader::sized` meets its contract. Assumes nothing.
use mathlib.Core.Path.{refl}
use Rattle.meaning.proofs.RefusalLaws.{number_not_0}
use Rattle.reader_basic.proofs.Answers.{handed}
use Rattle.reader.proofs.Frames.{size_done, size_refused}
use Rattle.reader.proofs.sized.Goals as goal

pub returns-in_err-whole : goal.returns-in_err-whole
returns-in_err-whole c =
    rw (handed _ _ c.from_residual.ensures) (size_refused _ _ _ _ c.in_err-whole.ensures (number_not_0 _))

pub returns : goal.returns
returns c =
    size_done _ _ _ _ c.in_ok-whole.ensures refl
