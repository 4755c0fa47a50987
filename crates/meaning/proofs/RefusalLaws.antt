-- A refusal has a number of its own, and none has 0. Assumes nothing.
use Rattle.std.proofs.Common.{◌≡◌, ℕ, eqb, sym, ap, ◌∙◌, refl, arith}
use Rattle.std.specs.Prelude.{Result, Ok, Err}
use Rattle.meaning.specs.Choice.{pick}
use Rattle.meaning.specs.Refused.{number_of, refusal_in}
use Rattle.meaning.specs.declared.refusals.Refusal.{Refusal}
use Rattle.meaning.specs.declared.refusals.Refusal.TheVariants.{TypeRefused, OverLimit, OutOfBounds, PaddingNotZero, NulInText, NotUtf8, MaybeEndNotZero, NoSeparator, VariantTypeRefused, StructuresTooDeep, ArraysTooDeep, ContainersTooDeep, RoomTooSmall, NotWritten, NoSuchReading, NoValue, NotHexadecimal}

pub number_not_0 : (r : Refusal) → number_of r ≡ 0 → ⊥
number_not_0 TypeRefused h = absurd (omega arith)
number_not_0 OverLimit h = absurd (omega arith)
number_not_0 OutOfBounds h = absurd (omega arith)
number_not_0 PaddingNotZero h = absurd (omega arith)
number_not_0 NulInText h = absurd (omega arith)
number_not_0 NotUtf8 h = absurd (omega arith)
number_not_0 MaybeEndNotZero h = absurd (omega arith)
number_not_0 NoSeparator h = absurd (omega arith)
number_not_0 VariantTypeRefused h = absurd (omega arith)
number_not_0 StructuresTooDeep h = absurd (omega arith)
number_not_0 ArraysTooDeep h = absurd (omega arith)
number_not_0 ContainersTooDeep h = absurd (omega arith)
number_not_0 RoomTooSmall h = absurd (omega arith)
number_not_0 NotWritten h = absurd (omega arith)
number_not_0 NoSuchReading h = absurd (omega arith)
number_not_0 NoValue h = absurd (omega arith)
number_not_0 NotHexadecimal h = absurd (omega arith)

-- the refusal that has a number
abbrev refusal_by : ℕ → Refusal
refusal_by n =
    pick (eqb n 1) TypeRefused
    (pick (eqb n 2) OverLimit
    (pick (eqb n 3) OutOfBounds
    (pick (eqb n 4) PaddingNotZero
    (pick (eqb n 5) NulInText
    (pick (eqb n 6) NotUtf8
    (pick (eqb n 7) MaybeEndNotZero
    (pick (eqb n 8) NoSeparator
    (pick (eqb n 9) VariantTypeRefused
    (pick (eqb n 10) StructuresTooDeep
    (pick (eqb n 11) ArraysTooDeep
    (pick (eqb n 12) ContainersTooDeep
    (pick (eqb n 13) RoomTooSmall
    (pick (eqb n 15) NotWritten
    (pick (eqb n 16) NoSuchReading
    (pick (eqb n 17) NoValue
    NotHexadecimal)))))))))))))))

refusal_by_number : (r : Refusal) → refusal_by (number_of r) ≡ r
refusal_by_number TypeRefused = refl
refusal_by_number OverLimit = refl
refusal_by_number OutOfBounds = refl
refusal_by_number PaddingNotZero = refl
refusal_by_number NulInText = refl
refusal_by_number NotUtf8 = refl
refusal_by_number MaybeEndNotZero = refl
refusal_by_number NoSeparator = refl
refusal_by_number VariantTypeRefused = refl
refusal_by_number StructuresTooDeep = refl
refusal_by_number ArraysTooDeep = refl
refusal_by_number ContainersTooDeep = refl
refusal_by_number RoomTooSmall = refl
refusal_by_number NotWritten = refl
refusal_by_number NoSuchReading = refl
refusal_by_number NoValue = refl
refusal_by_number NotHexadecimal = refl

pub number_one : (a b : Refusal) → number_of a ≡ number_of b → a ≡ b
number_one a b h = sym (refusal_by_number a) ∙ ap refusal_by h ∙ refusal_by_number b

-- a call without a value is told by its number
pub refusal_one : {A : Type 0} → ((a b : A) → a ≡ b) → (x y : Result A Refusal) → refusal_in x ≡ refusal_in y → x ≡ y
refusal_one one (Ok a) (Ok b) h = ap Ok (one a b)
refusal_one one (Ok a) (Err r) h = absurd (number_not_0 r (sym h))
refusal_one one (Err r) (Ok a) h = absurd (number_not_0 r h)
refusal_one one (Err r) (Err s) h = ap Err (number_one r s h)
