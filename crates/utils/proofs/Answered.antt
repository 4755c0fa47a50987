-- What a leaf answers with is told by what it is read as. Assumes nothing.
use Rattle.std.proofs.Common.{◌≡◌, ℕ, ap, sym, refl}
use Rattle.std.specs.Prelude.{Result, Ok, Err}
use Rattle.std.specs.Result.{result_unwrap_or}
use Rattle.meaning.specs.declared.refusals.Refusal.{Refusal}
use Rattle.meaning.specs.Refused.{refusal_in}
use Rattle.meaning.proofs.RefusalLaws.{number_not_0, number_one}
use Rattle.utils.specs.Checks.{Checked, checked}

pub checked_refusal : (x : Result ℕ Refusal) → (checked x).refusal ≡ refusal_in x
checked_refusal (Ok n) = refl
checked_refusal (Err r) = refl

pub checked_one : (x y : Result ℕ Refusal) → checked x ≡ checked y → x ≡ y
checked_one (Ok a) (Ok b) h = ap Ok (ap (λ (c : Checked). c.value) h)
checked_one (Ok a) (Err r) h = absurd (number_not_0 r (sym (ap (λ (c : Checked). c.refusal) h)))
checked_one (Err r) (Ok a) h = absurd (number_not_0 r (ap (λ (c : Checked). c.refusal) h))
checked_one (Err r) (Err s) h = ap Err (number_one r s (ap (λ (c : Checked). c.refusal) h))

-- the value of a leaf's answer, 0 where it is refused
pub checked_value : (x : Result ℕ Refusal) → result_unwrap_or x 0 ≡ (checked x).value
checked_value (Ok n) = refl
checked_value (Err r) = refl
