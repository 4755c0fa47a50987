-- A law for each way out of the small functions: basic values, keys, and types of one letter. Assumes nothing.
use mathlib.Core.Path.{◌≡◌, refl, sym, ap, ◌∙◌}
use mathlib.Core.List.{List, [], ◌∷◌}
use mathlib.Core.Bool.{Bool, true, false, false≢true}
use Prim.Native.Nat.{ℕ, ◌+◌, ◌-◌, ◌≤◌}
use native.Mathlib.Omega.{arith}
use lib.Dec.{eqb}
use lib.ListN.{length, take, drop, get_or}
use borrow.Author.Tests.{le-leb, lt-leb, eq-eqb, ne_eqb, eqb-true}
use Rattle.meaning.specs.Depths.{Depths}
use Rattle.meaning.specs.Texts.{text_refusal}
use Rattle.meaning_writing.specs.Shapes.{part}
use Rattle.meaning_writing.specs.Strict.{basic_written, child_written, basic_test}
use Rattle.meaning.proofs.PaddingLaws.{by1}
use Rattle.signature.specs.declared.Letter.{Letter}
use Rattle.signature.specs.declared.Letter.TheVariants.{End, Bad, Boolean, Number, Text, Variant, Maybe, Array, OpenStructure, CloseStructure, OpenEntry, CloseEntry}
use Rattle.strict_basic.specs.Basics.{text_written, letter_written, letter_extent, letter_test, is_basic, LoneType, lone_variant}
use Rattle.strict_ends.specs.Ends.{Begins, NoStart, Laid}
use Rattle.std.specs.Prelude.{Result, Ok, Err, is_ok}
use Rattle.std.proofs.lemmas.List.{get_or_at, take_all, take-append-le}
use Rattle.std.specs.List.{IsLastAndRest}
use Rattle.meaning.specs.Refused.{number_of, refusal_in}
use Rattle.meaning.proofs.RefusalLaws.{number_not_0}
use Rattle.meaning.specs.declared.refusals.Refusal.{Refusal}
use mathlib.Core.Option.{some}
use Rattle.meaning.specs.Types.{Basic, bool, number, text, variant}
use Rattle.meaning.specs.Letters.{number_letter}
use Rattle.meaning.specs.TypeText.{type_of, basic_among}
use Rattle.meaning.proofs.Tests.{both_true}
use Rattle.meaning.proofs.TypeLaws.{aligns_most, number_aligned}
use Rattle.signature.specs.Places.{Child, basic_kind, letter_at, letter_by, letter_of, child_at}
use Rattle.signature.proofs.Letters.{alone, lone_child, child_lone, letter_some}
use Rattle.signature.proofs.Children.{child_found}
use Rattle.signature.proofs.Answers.{judge_found}
use Rattle.signature.proofs.Dispatch.{is_boolean, is_number, is_text_lem, is_variant}
use Rattle.signature.proofs.TreeLaws.{Front, front}
use Rattle.strict_ends.specs.declared.Extent.{Extent}

pub text_empty : (l : List ℕ) → length l ≡ 0 → false ≡ text_written l
unfolding basic_written
text_empty l h = rw (lt-leb 1 (length l) (omega arith))

-- a call is done where its refusal's number is 0
done_by : (r : Result (Unit {0}) Refusal) → is_ok r ≡ eqb (refusal_in r) 0
done_by (Ok a) = refl
done_by (Err r) = sym (ne_eqb (number_of r) 0 (number_not_0 r))

-- a text and the byte behind it
module _ (l t : List ℕ) (x : ℕ) (is : IsLastAndRest l x t) where
  kept : take (length l - 1) l ≡ t
  kept = let n : length l - 1 ≡ length t = omega (arith, is.1) in ap (λ (i : ℕ). take i l) n ∙ ap (take (length t)) is.0 ∙ take-append-le (length t) t (x ∷ []) (omega arith) ∙ take_all (length t) t (omega arith)

  last : get_or l (length l - 1) 1 ≡ x
  last = ap (λ (y : List ℕ). get_or y (length l - 1) 1) is.0 ∙ get_or_at t x [] 1 (length l - 1) (omega (arith, is.1))

  pub text_open : (x ≡ 0 → ⊥) → false ≡ text_written l
  unfolding basic_written
  text_open g = rw (le-leb 1 (length l) (omega (arith, is.1)), ne_eqb (get_or l (length l - 1) 1) 0 (λ z. g (sym last ∙ z)))

  pub text_ends : x ≡ 0 → (r : Result (Unit {0}) Refusal) → refusal_in r ≡ text_refusal t → is_ok r ≡ text_written l
  unfolding basic_written
  text_ends g r e =
      done_by r ∙ ap (λ (n : ℕ). eqb n 0) (e ∙ ap text_refusal (sym kept))
      ∙ rw (le-leb 1 (length l) (omega (arith, is.1)), eq-eqb (get_or l (length l - 1) 1) 0 (last ∙ g))

-- ---- basic types by their letter

pub letter_test_lem : (b : Basic) → letter_test (basic_kind b) ≡ basic_test b
unfolding letter_test basic_test basic_written
letter_test_lem bool = refl
letter_test_lem (number c) = refl
letter_test_lem (text c) = refl

pub letter_accepts : (k : Letter) (d : Depths) (l : List ℕ) → letter_written k l ≡ (letter_test k).accepts d l
unfolding letter_test
letter_accepts k d l = refl

pub letter_laid : (b : Basic) → Laid (letter_extent (basic_kind b))
letter_laid bool = record { aligned = by1; small = omega arith }
letter_laid (number c) = record { aligned = number_aligned c; small = omega (arith, aligns_most (number_aligned c)) }
letter_laid (text c) = record { aligned = by1; small = omega arith }

pub key_small : (b : Basic) → (letter_extent (basic_kind b)).size ≤ 8
key_small bool = omega arith
key_small (number c) = aligns_most (number_aligned c)
key_small (text c) = omega arith

pub laid_as : {x y : Extent} → x ≡ y → Laid y → Laid x
laid_as e h = rw e h

-- a key
module _ (k : Letter) (l : List ℕ) (s e : ℕ) (x : Extent) (hx : x ≡ letter_extent k) where
  same : x.alignment ≡ (letter_extent k).alignment
  same = ap (λ (y : Extent). y.alignment) hx

  pub key_not : NoStart l s 0 e x.alignment → (d : Depths) → false ≡ child_written (letter_test k) d l s 0 e
  unfolding letter_test
  key_not w d = sym (w.is (letter_test k) d (sym same))

  pub key_on : (at : ℕ) → Begins l s 0 e x.alignment at → (b : Bool) → b ≡ letter_written k (take (e - at) (drop at l)) → (d : Depths) → b ≡ child_written (letter_test k) d l s 0 e
  unfolding letter_test part
  key_on at w b g d = g ∙ sym (w.is (letter_test k) d (sym same))

-- ---- a text of one letter

module _ (l : List ℕ) (n : length l ≡ 1) where
  lone_front : (k : Letter) → letter_at l 0 ≡ k → alone k ≡ true → (lone_child (0 + 1) k).found ≡ true → (lone_child (0 + 1) k).next ≡ 1 → Front l
  lone_front k h a f x =
      let c = child_lone l 0 k (omega arith) h a in
      let y = ap (λ (z : Child). z.found) c ∙ f in
      front l (sym (judge_found l (child_found l 0 y)) ∙ eq-eqb (child_at l 0).next (length l) (ap (λ (z : Child). z.next) c ∙ x ∙ sym n))

  pub lone_bool : (k : Letter) → k ≡ letter_at l 0 → letter_at l 0 ≡ Boolean → LoneType l k
  lone_bool k q h =
      let f = lone_front Boolean h refl refl (omega arith) in
      record { it = bool; type = f.type ∙ ap some (is_boolean l 0 _ _ f.start h).0; same = q ∙ h }

  pub lone_number : (k : Letter) (c w : ℕ) → k ≡ letter_at l 0 → letter_at l 0 ≡ Number c w → LoneType l k
  lone_number k c w q h =
      let f = lone_front (Number c w) h refl refl (omega arith) in
      let m = is_number l 0 _ _ c w f.start h in
      record { it = number m.it; type = f.type ∙ ap some m.type; same = q ∙ h ∙ ap (λ (x : ℕ). Number x w) m.code_is ∙ ap (Number (number_letter m.it)) m.width_is }

  pub lone_text : (k : Letter) (c : ℕ) → k ≡ letter_at l 0 → letter_at l 0 ≡ Text c → LoneType l k
  lone_text k c q h =
      let f = lone_front (Text c) h refl refl (omega arith) in
      let m = is_text_lem l 0 _ _ c f.start h in
      record { it = text m.it; type = f.type ∙ ap some m.type; same = q ∙ h ∙ ap Text m.code_is }

  pub lone_by : (k : Letter) → k ≡ letter_at l 0 → is_basic k ≡ true → LoneType l k
  lone_by End q h = absurd (false≢true h)
  lone_by Bad q h = absurd (false≢true h)
  lone_by Boolean q h = lone_bool Boolean q (sym q)
  lone_by (Number c w) q h = lone_number (Number c w) c w q (sym q)
  lone_by (Text c) q h = lone_text (Text c) c q (sym q)
  lone_by Variant q h = absurd (false≢true h)
  lone_by Maybe q h = absurd (false≢true h)
  lone_by Array q h = absurd (false≢true h)
  lone_by OpenStructure q h = absurd (false≢true h)
  lone_by CloseStructure q h = absurd (false≢true h)
  lone_by OpenEntry q h = absurd (false≢true h)
  lone_by CloseEntry q h = absurd (false≢true h)

  variant_lone : get_or l 0 0 ≡ 118 → type_of l ≡ some variant
  unfolding letter_by basic_among
  variant_lone q =
      let h : letter_at l 0 ≡ Variant = letter_some l 0 (omega (arith, n)) ∙ ap letter_of q in
      let f = lone_front Variant h refl refl (omega arith) in
      f.type ∙ ap some (is_variant l 0 _ _ f.start h).0

pub lone_variant_lem : (l : List ℕ) → lone_variant l ≡ true → type_of l ≡ some variant
lone_variant_lem l h =
    let b = both_true (eqb (length l) 1) (eqb (get_or l 0 0) 118) h in
    variant_lone l (eqb-true (length l) 1 b.0) (eqb-true (get_or l 0 0) 118 b.1)

-- ---- what is repeated
