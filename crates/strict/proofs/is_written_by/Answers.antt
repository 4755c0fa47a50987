-- `is_written_by` meets its contract. Assumes nothing.
use mathlib.Core.Path.{◌≡◌, refl, sym, ap, ◌∙◌}
use mathlib.Core.Bool.{true, false}
use native.Mathlib.Omega.{arith}
use Rattle.meaning.proofs.RefusalLaws.{number_not_0}
use Rattle.signature.specs.declared.shapes.Shape.{Shape}
use Rattle.signature.proofs.TreeLaws.{front}
use Rattle.strict_sizes.proofs.TableLaws.{front_placed}
use Rattle.strict.proofs.Wholes.{inside_frame, walk_is, whole_as, whole_refused, whole_other}
use Rattle.strict.proofs.is_written_by.Goals as goal

pub value-written-requires : goal.value-written-requires
value-written-requires c = (front_placed _ _ c.requires.1 (front _ c.requires.0) _ c.shape_in-shape.ensures, inside_frame c.requires.2 c.new-depths.ensures)

pub returns-then-written : goal.returns-then-written
returns-then-written c =
    let passes : c.value-written.result ≡ true = grind (arith, c.if-written.true) in
    whole_as _ _ _ (λ n. walk_is _ _ n (front _ c.requires.0) c.requires.2 _ c.new-depths.ensures _ (ap (λ (s : Shape). s.at) c.shape_in-shape.ensures) _
    (sym passes ∙ c.value-written.ensures))

pub returns-in-Err : goal.returns-in-Err
returns-in-Err c =
    let fails : c.value-written.result ≡ false = grind (arith, c.if-written.false) in
    whole_refused _ _ _ (λ n. walk_is _ _ n (front _ c.requires.0) c.requires.2 _ c.new-depths.ensures _ (ap (λ (s : Shape). s.at) c.shape_in-shape.ensures) _
    (sym fails ∙ c.value-written.ensures)) _ c.in-Err.ensures (number_not_0 c.in-Err.refusal)

pub returns-in-Ok : goal.returns-in-Ok
returns-in-Ok c =
    let fails : c.value-written.result ≡ false = grind (arith, c.if-written.false) in
    whole_other _ _ _ (λ n. walk_is _ _ n (front _ c.requires.0) c.requires.2 _ c.new-depths.ensures _ (ap (λ (s : Shape). s.at) c.shape_in-shape.ensures) _
    (sym fails ∙ c.value-written.ensures)) _ c.in-Ok.ensures refl
