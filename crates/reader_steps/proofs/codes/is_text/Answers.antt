-- `reader_steps::codes::is_text` meets its contract. Assumes nothing.
use Rattle.std.proofs.Common.{◌≡◌, inl, inr, ⊎_elim}
use Rattle.meaning.specs.Letters.{text_letter}
use Rattle.meaning.specs.TypeText.{basic_among}
use Rattle.meaning.specs.Types.{Text, string, object_path, signature}
use Rattle.signature.specs.Places.{letter_by}
use Rattle.reader_steps.proofs.Characters.{no_text}
use Rattle.reader_steps.proofs.codes.is_text.Goals as goal

pub returns-in-115 : goal.returns-in-115
unfolding letter_by basic_among
returns-in-115 c = ⊎_elim (λ e. rw e) (λ w. ⊎_elim (λ e. rw e) (λ e. rw e) w) c.in-115.is

pub returns-in_default : goal.returns-in_default
returns-in_default c = no_text c.args.code none
  where
    none : (x : Text) → c.args.code ≡ text_letter x → ⊥
    none string e = c.in_default.in_default-own.rest.1 (inr (inr e))
    none object_path e = c.in_default.in_default-own.rest.1 (inr (inl e))
    none signature e = c.in_default.in_default-own.rest.1 (inl e)
