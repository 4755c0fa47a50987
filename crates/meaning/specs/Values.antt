-- The values of a type. Assumes nothing: these are definitions.
use Rattle.std.specs.Prelude.{List, Bool, ℕ, zero, suc}
use Rattle.std.proofs.Math.Option.{Option}
use Rattle.meaning.specs.Types.{Basic, bool, number, text, Tree, Fields, basic, variant, maybe, array, dictionary, structure, last, next}

-- a number is its bits in its own width, a text its bytes
abbrev pub BasicValue : Basic → Type 0
BasicValue bool = Bool
BasicValue (number n) = ℕ
BasicValue (text c) = List ℕ

-- `Held` is what a variant holds
abbrev mutual
  pub ValueOver : Type 0 → Tree → Type 0
  ValueOver Held (basic b) = BasicValue b
  ValueOver Held variant = Held
  ValueOver Held (maybe t) = Option (ValueOver Held t)
  ValueOver Held (array t) = List (ValueOver Held t)
  ValueOver Held (dictionary b t) = List (BasicValue b × ValueOver Held t)
  ValueOver Held (structure ts) = FieldsOver Held ts

  pub FieldsOver : Type 0 → Fields → Type 0
  FieldsOver Held (last t) = ValueOver Held t
  FieldsOver Held (next t ts) = ValueOver Held t × FieldsOver Held ts

-- values with at most so many variants one inside another: a variant holds a type and a value of it
abbrev pub Value : ℕ → Tree → Type 0
Value zero = ValueOver ⊥
Value (suc n) = ValueOver ((t : Tree) × Value n t)
