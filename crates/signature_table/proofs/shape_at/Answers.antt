-- `shape_at` meets its contract: a law for each letter. Assumes nothing.
use mathlib.Core.Path.{refl, sym, ◌∙◌}
use mathlib.Core.Logic.{⊎_elim, inl, inr}
use Prim.Native.Nat.{◌+◌}
use native.Mathlib.Omega.{arith}
use lib.ListN.{get_or}
use borrow.Author.Tests.{ne_eqb}
use Rattle.meaning.specs.TypeText.{basic_among}
use Rattle.signature.specs.Places.{letter_by, letter_of}
use Rattle.signature.specs.Shapes.{shape_of}
use Rattle.signature.specs.declared.Letter.TheVariants.{Boolean, Number, Text, Variant}
use Rattle.signature.proofs.Letters.{letter_some, no_letter, begins_maybe, begins_array, begins_structure}
use Rattle.signature.proofs.ShapeLaws.{shape_code, shape_none, shape_maybe}
use Rattle.signature_table.proofs.shape_at.Goals as goal

pub array_shape-requires : goal.array_shape-requires
array_shape-requires c = (c.requires, begins_array _ _ (c.requires.inside, c.in-97.is))

pub structure_shape-requires : goal.structure_shape-requires
structure_shape-requires c = (c.requires, begins_structure _ _ (c.requires.inside, c.in-40.is))

pub returns-in-98 : goal.returns-in-98
unfolding shape_of letter_by basic_among
returns-in-98 c =
    c.pack.ensures ∙ (⊎_elim (λ e. shape_code c.args.text.now c.args.at 98 Boolean c.requires.few c.requires.inside e refl refl)
    (λ e. shape_code c.args.text.now c.args.at 121 (Number 121 1) c.requires.few c.requires.inside e refl refl) c.in-98.is)

pub returns-in-110 : goal.returns-in-110
unfolding shape_of letter_by basic_among
returns-in-110 c =
    c.pack-in-110.ensures ∙ (⊎_elim (λ e. shape_code c.args.text.now c.args.at 110 (Number 110 2) c.requires.few c.requires.inside e refl refl)
    (λ e. shape_code c.args.text.now c.args.at 113 (Number 113 2) c.requires.few c.requires.inside e refl refl) c.in-110.is)

pub returns-in-105 : goal.returns-in-105
unfolding shape_of letter_by basic_among
returns-in-105 c =
    c.pack-in-105.ensures ∙ (⊎_elim (λ e. shape_code c.args.text.now c.args.at 105 (Number 105 4) c.requires.few c.requires.inside e refl refl)
    (λ e. shape_code c.args.text.now c.args.at 117 (Number 117 4) c.requires.few c.requires.inside e refl refl) c.in-105.is)

pub returns-in-120 : goal.returns-in-120
unfolding shape_of letter_by basic_among
returns-in-120 c =
    c.pack-in-120.ensures ∙ (⊎_elim (λ e. shape_code c.args.text.now c.args.at 100 (Number 100 8) c.requires.few c.requires.inside e refl refl)
    (λ w. ⊎_elim (λ e. shape_code c.args.text.now c.args.at 116 (Number 116 8) c.requires.few c.requires.inside e refl refl)
    (λ e. shape_code c.args.text.now c.args.at 120 (Number 120 8) c.requires.few c.requires.inside e refl refl) w) c.in-120.is)

pub returns-in-115 : goal.returns-in-115
unfolding shape_of letter_by basic_among
returns-in-115 c =
    c.pack-in-115.ensures ∙ (⊎_elim (λ e. shape_code c.args.text.now c.args.at 103 (Text 103) c.requires.few c.requires.inside e refl refl)
    (λ w. ⊎_elim (λ e. shape_code c.args.text.now c.args.at 111 (Text 111) c.requires.few c.requires.inside e refl refl)
    (λ e. shape_code c.args.text.now c.args.at 115 (Text 115) c.requires.few c.requires.inside e refl refl) w) c.in-115.is)

pub returns-in-118 : goal.returns-in-118
unfolding shape_of letter_by basic_among
returns-in-118 c =
    c.pack-in-118.ensures ∙ shape_code c.args.text.now c.args.at 118 Variant c.requires.few c.requires.inside c.in-118.is refl refl

pub returns-in-109 : goal.returns-in-109
returns-in-109 c =
    c.loosened.ensures ∙ shape_maybe c.args.text.now c.args.at c.seen.result c.requires.few
    (begins_maybe _ _ (c.requires.inside, c.in-109.is)) (c.seen.ensures (c.args.at + 1) (omega arith) c.requires.table)

pub returns-in_default : goal.returns-in_default
returns-in_default c =
    let code = get_or c.args.text.now c.args.at 0 in
    shape_none c.args.text.now c.args.at (letter_of code) c.requires.few (sym (letter_some c.args.text.now c.args.at c.requires.inside))
    (no_letter (c.args.at + 1) code (ne_eqb code 98 (λ e. c.in_default.in_default-own.rest.0.0.0.0.0.0.0.0.1 (inl e)))
    (ne_eqb code 121 (λ e. c.in_default.in_default-own.rest.0.0.0.0.0.0.0.0.1 (inr e)))
    (ne_eqb code 110 (λ e. c.in_default.in_default-own.rest.0.0.0.0.0.0.0.1 (inl e)))
    (ne_eqb code 113 (λ e. c.in_default.in_default-own.rest.0.0.0.0.0.0.0.1 (inr e)))
    (ne_eqb code 105 (λ e. c.in_default.in_default-own.rest.0.0.0.0.0.0.1 (inl e)))
    (ne_eqb code 117 (λ e. c.in_default.in_default-own.rest.0.0.0.0.0.0.1 (inr e)))
    (ne_eqb code 120 (λ e. c.in_default.in_default-own.rest.0.0.0.0.0.1 (inr (inr e))))
    (ne_eqb code 116 (λ e. c.in_default.in_default-own.rest.0.0.0.0.0.1 (inr (inl e))))
    (ne_eqb code 100 (λ e. c.in_default.in_default-own.rest.0.0.0.0.0.1 (inl e)))
    (ne_eqb code 115 (λ e. c.in_default.in_default-own.rest.0.0.0.0.1 (inr (inr e))))
    (ne_eqb code 111 (λ e. c.in_default.in_default-own.rest.0.0.0.0.1 (inr (inl e))))
    (ne_eqb code 103 (λ e. c.in_default.in_default-own.rest.0.0.0.0.1 (inl e)))
    (ne_eqb code 118 c.in_default.in_default-own.rest.0.0.0.1)
    (ne_eqb code 109 c.in_default.in_default-own.rest.0.0.1)
    (ne_eqb code 97 c.in_default.in_default-own.rest.0.1)
    (ne_eqb code 40 c.in_default.in_default-own.rest.1))
