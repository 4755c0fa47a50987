-- `reader_steps::codes::number_width` meets its contract. Assumes nothing.
use Rattle.std.proofs.Common.{◌≡◌, inl, inr, ⊎_elim, refl, arith}
use Rattle.meaning.specs.Letters.{number_letter}
use Rattle.meaning.specs.TypeText.{basic_among}
use Rattle.meaning.specs.Types.{Number, byte, int16, uint16, int32, uint32, int64, uint64, double}
use Rattle.signature.specs.Places.{letter_by}
use Rattle.reader_steps.proofs.Characters.{no_number}
use Rattle.reader_steps.proofs.codes.number_width.Goals as goal

pub returns-in-121 : goal.returns-in-121
unfolding letter_by basic_among
returns-in-121 c = rw c.in-121.is (refl, λ q. omega arith)

pub returns-in-110 : goal.returns-in-110
unfolding letter_by basic_among
returns-in-110 c = ⊎_elim (λ e. rw e (refl, λ q. omega arith)) (λ e. rw e (refl, λ q. omega arith)) c.in-110.is

pub returns-in-105 : goal.returns-in-105
unfolding letter_by basic_among
returns-in-105 c = ⊎_elim (λ e. rw e (refl, λ q. omega arith)) (λ e. rw e (refl, λ q. omega arith)) c.in-105.is

pub returns-in-120 : goal.returns-in-120
unfolding letter_by basic_among
returns-in-120 c = ⊎_elim (λ e. rw e (refl, λ q. omega arith)) (λ w. ⊎_elim (λ e. rw e (refl, λ q. omega arith)) (λ e. rw e (refl, λ q. omega arith)) w) c.in-120.is

pub returns-in_default : goal.returns-in_default
returns-in_default c = no_number c.args.code none
  where
    none : (n : Number) → c.args.code ≡ number_letter n → ⊥
    none byte e = c.in_default.in_default-own.rest.0.0.0.1 e
    none int16 e = c.in_default.in_default-own.rest.0.0.1 (inl e)
    none uint16 e = c.in_default.in_default-own.rest.0.0.1 (inr e)
    none int32 e = c.in_default.in_default-own.rest.0.1 (inl e)
    none uint32 e = c.in_default.in_default-own.rest.0.1 (inr e)
    none int64 e = c.in_default.in_default-own.rest.1 (inr (inr e))
    none uint64 e = c.in_default.in_default-own.rest.1 (inr (inl e))
    none double e = c.in_default.in_default-own.rest.1 (inl e)
