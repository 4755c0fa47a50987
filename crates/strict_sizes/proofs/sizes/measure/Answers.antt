-- `measure` meets its contract. Assumes nothing.
use mathlib.Core.Path.{sym, ◌∙◌}
use native.Mathlib.Omega.{arith}
use Rattle.signature.proofs.ShapeLaws.{number_most}
use Rattle.strict_sizes.proofs.TableLaws.{measure_bool, measure_number, measure_none}
use Rattle.strict_sizes.proofs.sizes.measure.Goals as goal

pub pack-requires-in-Number : goal.pack-requires-in-Number
pack-requires-in-Number c =
    omega (
      arith,
      number_most c.args.text.now c.args.at _ _ c.requires.0.shapes.few
          (sym c.letter_at-kind.ensures ∙ c.in-Number.is),
    )

pub returns-in-Boolean : goal.returns-in-Boolean
returns-in-Boolean c =
    measure_bool _ _ _ (sym c.letter_at-kind.ensures ∙ c.in-Boolean.is) c.pack.ensures

pub returns-in-Number : goal.returns-in-Number
returns-in-Number c =
    measure_number _ _ _ _ _ (sym c.letter_at-kind.ensures ∙ c.in-Number.is) (number_most c.args.text.now
    c.args.at _ _ c.requires.0.shapes.few (sym c.letter_at-kind.ensures
    ∙ c.in-Number.is)) c.pack-in-Number.ensures

pub returns-in_default : goal.returns-in_default
returns-in_default c =
    measure_none _ _ _ c.letter_at-kind.ensures c.in_default.not-Boolean c.in_default.not-Number c.in_default.not-OpenStructure
