-- `readings_written` meets its contract. Assumes nothing.
use mathlib.Core.Path.{◌≡◌, refl, ap, ◌∙◌}
use mathlib.Core.Bool.{Bool, ◌&&◌, ◌||◌}
use lib.Dec.{eqb}
use lib.ListN.{length}
use Rattle.std.proofs.Common.{rules, tests}
use Rattle.strict_basic.specs.Basics.{reading_of, reading_test}
use Rattle.strict_basic.proofs.ElementLaws.{reading_is}
use Rattle.strict_basic.proofs.basic.readings_written.Goals as goal

pub returns : goal.returns
unfolding reading_test
returns c = λ d o. c.elements_written.ensures (reading_test c.args.number) d (record {
  aligned = refl;
  same = λ l b h.
      let q : b ≡ (eqb (length l) 0 || (c.args.room && eqb (length l) c.args.number)) = search (rules, tests) in
      q ∙ reading_is c.args.room c.args.number (length l) ∙ ap (λ (r : Bool). reading_of r c.args.number (length l)) o;
})
