-- Laws of what events are written as, for the code that writes them: the frame by it, its alignment and fixed size, and that it takes
-- events. Assumes nothing.
use mathlib.Core.Path.{◌≡◌, refl, sym, ap, ◌∙◌}
use mathlib.Core.List.{List, [], ◌∷◌}
use mathlib.Core.Option.{none, some}
use mathlib.Core.Bool.{Bool}
use Prim.Native.Nat.{ℕ, ◌<◌}
use native.Mathlib.Omega.{arith}
use lib.ListN.{length}
use Rattle.meaning.specs.Limits.{most_variants}
use Rattle.meaning.specs.Refusals.{type_refused}
use Rattle.meaning.specs.Depths.{Depths, none_open}
use Rattle.meaning.specs.Types.{Basic, Tree, alignment, fixed}
use Rattle.meaning.specs.TypeText.{type_of}
use Rattle.meaning.specs.Values.{Value}
use Rattle.meaning.specs.Written.{Piece, basic_piece, piece, written}
use Rattle.meaning_writing.specs.Writing.{Built, built, fault, Builder, mapped, followed, build_both, build_basic, build, framed, frame_built, frame_typed, frame_writing}
use Rattle.meaning_writing.specs.Emitting.{entry_of, emit_entry, emit_basic, emit, frame_emitted}
use Rattle.meaning.proofs.RoundTrip.{all_good}
use Rattle.meaning_writing.proofs.ShownLaws.{Starts, shown_length}
use Rattle.meaning_writing.proofs.BuildsBack.{basic_starts, all_build}
use Rattle.meaning_writing.proofs.BuildsSound.{Right, basic_sound, all_sound}
use Rattle.meaning_writing.proofs.Emitted.{emitted}
use Rattle.meaning_writing.proofs.WritingSteps.{Shorter}

-- ---- the frame

pub frame_untyped : (type : List ℕ) (big : Bool) (numbers texts : List ℕ) → type_of type ≡ none → frame_writing type big numbers texts ≡ framed type_refused []
unfolding frame_writing frame_typed
frame_untyped type big numbers texts e = rw e

-- THE FRAME that is written, in one pass
pub frame_emitted_lem : (type : List ℕ) (big : Bool) (numbers texts : List ℕ) (t : Tree) → type_of type ≡ some t → frame_writing type big numbers texts ≡ frame_emitted (emit texts big most_variants t none_open numbers)
unfolding frame_writing frame_typed
frame_emitted_lem type big numbers texts t e = rw e (rw (emitted texts big most_variants t none_open numbers) (go (build texts most_variants t none_open numbers)))
  where
    go : (x : Built (Value most_variants t)) → frame_built big t x ≡ frame_emitted (mapped (λ v. piece big most_variants t v) x)
    go (built v []) = unfold frame_built frame_emitted mapped written in refl
    go (built v (k ∷ r)) = unfold frame_built frame_emitted mapped in refl
    go (fault n) = unfold frame_built frame_emitted mapped in refl

-- ---- what a piece was made of

pub record BuiltAs {A : Type 0} (p : A → Piece) (x : Built A) (c : Piece) (r : List ℕ) : Type 0 where
  pub value : A
  pub built_is : x ≡ built value r
  pub piece_is : c ≡ p value

built_as : {A : Type 0} (p : A → Piece) (x : Built A) (c : Piece) (r : List ℕ) → mapped p x ≡ built c r → BuiltAs p x c r
built_as {A} p x c r h = go x refl h
  where
    go : (y : Built A) → x ≡ y → mapped p y ≡ built c r → BuiltAs p x c r
    go (built v s) e i = unfold mapped in (let a : c ≡ p v = cc in let b : s ≡ r = cc in record { value = v; built_is = e ∙ ap (λ (q : List ℕ). built v q) b; piece_is = a })
    go (fault n) e i = unfold mapped in absurd (let z : ◌≡◌ {A = ℕ} 0 1 = cc in omega arith)

module _ (texts : List ℕ) (big : Bool) (n : ℕ) (t : Tree) (d : Depths) (l : List ℕ) where
  pub emit_built : (c : Piece) (r : List ℕ) → emit texts big n t d l ≡ built c r → BuiltAs (λ v. piece big n t v) (build texts n t d l) c r
  emit_built c r h = built_as (λ v. piece big n t v) (build texts n t d l) c r (sym (emitted texts big n t d l) ∙ h)

  pub emit_alignment : (c : Piece) (r : List ℕ) → emit texts big n t d l ≡ built c r → c.alignment ≡ alignment t
  emit_alignment c r h = let i = emit_built c r h in rw i.piece_is (all_good 0 big n t i.value).alignment_is

  pub emit_fixed : (c : Piece) (r : List ℕ) → emit texts big n t d l ≡ built c r → c.fixed ≡ fixed t
  emit_fixed c r h = let i = emit_built c r h in rw i.piece_is (all_good 0 big n t i.value).fixed_is

-- ---- it takes events

right_shorter : {A : Type 0} (texts : List ℕ) (p : A → Piece) (starts : (v : A) (k : ℕ) → Starts ((p v).events k)) (d : Depths) (l : List ℕ) (v : A) (r : List ℕ) → Right texts p d l v r → length r < length l
right_shorter texts p starts d l v r i =
    let e = starts v 0 in
    let n : 0 < length ((p v).events 0) = rw e.is (omega arith) in
    omega (arith, shown_length texts (i.shows 0))

pub emit_shorter : (texts : List ℕ) (big : Bool) (n : ℕ) (t : Tree) (d : Depths) → Shorter (emit texts big n t d)
emit_shorter texts big n t d l c r h =
    let i = emit_built texts big n t d l c r h in
    right_shorter texts (piece big n t) (all_build texts big n t).starts d l i.value r (rw i.built_is at (all_sound texts big n t d l))

pub basic_shorter : (texts : List ℕ) (big : Bool) (b : Basic) (d : Depths) → Shorter (emit_basic texts big b d)
unfolding emit_basic
basic_shorter texts big b d l c r h =
    let i = built_as (basic_piece big b) (build_basic texts b l) c r h in
    right_shorter texts (basic_piece big b) (basic_starts texts big b) d l i.value r (rw i.built_is at (basic_sound texts big b d l))

-- a dictionary's entry
pub entry_shorter : (a : ℕ) (fx : Bool) (key value : Builder Piece) (d : Depths) → Shorter (key d) → Shorter (value d) → Shorter (emit_entry a fx key value d)
unfolding emit_entry build_both
entry_shorter a fx key value d hk hv l c r h = first (key d l) refl h
  where
    second : (k : Piece) (m : List ℕ) → key d l ≡ built k m → (x : Built Piece) → value d m ≡ x → mapped (entry_of a fx) (mapped {B = Piece × Piece} (λ w. (k, w)) x) ≡ built c r → length r < length l
    second k m e (built w s) f g = unfold mapped in (let q : s ≡ r = cc in let i = hk l k m e in let j = hv m w s f in rw q at (lower i j))
      where
        lower : length m < length l → length s < length m → length s < length l
        lower i j = omega arith
    second k m e (fault n) f g = unfold mapped in absurd (let z : ◌≡◌ {A = ℕ} 0 1 = cc in omega arith)

    first : (x : Built Piece) → key d l ≡ x → mapped (entry_of a fx) (followed {B = Piece × Piece} x (λ v s. mapped (λ w. (v, w)) (value d s))) ≡ built c r → length r < length l
    first (built k m) e g = unfold followed in second k m e (value d m) refl g
    first (fault n) e g = unfold followed mapped in absurd (let z : ◌≡◌ {A = ℕ} 0 1 = cc in omega arith)
