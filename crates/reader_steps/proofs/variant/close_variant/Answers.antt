-- `reader_steps::variant::close_variant` meets its contract. Assumes nothing.
use Rattle.std.proofs.Common.{refl}
use Rattle.meaning.proofs.RefusalLaws.{number_not_0}
use Rattle.reader_basic.proofs.Answers.{handed_on, told_by}
use Rattle.reader_steps.proofs.Variants.{variant_stop, variant_end}
use Rattle.reader_steps.proofs.variant.close_variant.Goals as goal

pub returns-in_err-read : goal.returns-in_err-read
returns-in_err-read c =
    λ o end n l d. handed_on _ _ c.from_residual.ensures (variant_stop o c.args.part.now c.args.lead c.args.place end n l _ _ (rw c.in_err-read.was at d) (number_not_0 _))

pub returns : goal.returns
returns c =
    λ o end n l d. told_by c.done.ensures (variant_end o c.args.part.now c.args.lead c.args.place end n l _ _ (rw c.in_ok-read.was at d) _ _
    c.requires.1 refl c.emit-m.ensures.counted c.emit-m.ensures.written)
