-- `readings` meets its contract.
use mathlib.Core.Path.{refl}
use native.Mathlib.Omega.{arith}
use Rattle.std.proofs.lemmas.Result.{err_from_is_err_and}
use Rattle.editor_steps.proofs.ClosingLaws.{closes_refused}
use Rattle.editor_steps.proofs.ReadingsLaws.{each_laid, each_body, each_counted, each_whole, each_stands, each_near, each_closes, each_found}
use Rattle.editor_steps.proofs.readings.readings.Goals as goal

pub elements_of-all-requires : goal.elements_of-all-requires
elements_of-all-requires c = each_body c.requires

pub returns-then-all-number : goal.returns-then-all-number
returns-then-all-number c =
    record { is = λ u s k fx t. each_counted c.requires c.elements_of-all.ensures c.args.aim.big s fx t _ _ _ _ _ _ c.if-all-number.true refl refl }

pub from_nth-rest-requires : goal.from_nth-rest-requires
from_nth-rest-requires c = (each_whole c.requires c.elements_of-all.ensures c.if-all-number.false, omega (arith, c.if-all-number.false))

pub first_element-start-requires : goal.first_element-start-requires
first_element-start-requires c = each_stands c.requires c.elements_of-all.ensures c.if-all-number.false c.from_nth-rest.ensures

pub overflow_add-place : goal.overflow_add-place
overflow_add-place c =
    omega (arith, each_near c.requires c.elements_of-all.ensures c.if-all-number.false c.from_nth-rest.ensures c.first_element-start.ensures)

pub reading-requires : goal.reading-requires
reading-requires c = each_laid c.requires

pub returns-in_err-walk : goal.returns-in_err-walk
returns-in_err-walk c =
    let p = err_from_is_err_and c.from_residual.result c.from_residual.ensures.1 in
    rw (p.1, p.2) (record {
      is = λ u s k fx t.
          each_found c.requires c.elements_of-all.ensures c.args.aim.big s fx t c.if-all-number.false c.from_nth-rest.ensures c.first_element-start.ensures
          _ _ _ _ _ _ (c.in_err-walk.ensures.is u s k _ _ fx t) (closes_refused _ _ _ _ _ _);
    })

pub close_element-requires : goal.close_element-requires
close_element-requires c =
    each_closes c.requires c.elements_of-all.ensures c.if-all-number.false c.from_nth-rest.ensures c.first_element-start.ensures c.args.aim _ _ _ c.in_ok-walk.ensures

pub returns : goal.returns
returns c =
    record {
      is = λ u s k fx t.
          each_found c.requires c.elements_of-all.ensures c.args.aim.big s fx t c.if-all-number.false c.from_nth-rest.ensures c.first_element-start.ensures
          _ _ _ _ _ _ (c.in_ok-walk.ensures.is u s k _ _ fx t) c.close_element.ensures;
    }
