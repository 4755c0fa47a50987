-- The count of variants that makes writing end is large enough: more variants change no writing. Assumes nothing.
use mathlib.Core.Path.{◌≡◌, refl, ap}
use mathlib.Core.List.{List}
use mathlib.Core.Option.{Option, none, some}
use mathlib.Core.Bool.{Bool, true, false}
use Prim.Native.Nat.{ℕ, zero, suc, ◌+◌, ◌≤◌}
use native.Mathlib.Omega.{arith}
use lib.Dec.{eqb}
use lib.ListN.{length}
use borrow.Author.Tests.{eqb-true}
use Rattle.meaning.specs.Choice.{pick}
use Rattle.meaning.specs.Limits.{most_variants}
use Rattle.meaning.specs.Depths as Depth
use Rattle.meaning.specs.Depths.{Depths, depth_refusal, opened, none_open}
use Rattle.meaning.specs.Types.{Tree, Fields, basic, variant, maybe, array, dictionary, structure, last, next, alignment, largest_alignment, fixed, all_fixed, entry_alignment, entry_fixed}
use Rattle.meaning.specs.Letters.{signature_letter, variant_letter, maybe_letter, nothing_letter, array_letter, dictionary_letter, structure_letter}
use Rattle.meaning.specs.TypeText.{type_of}
use Rattle.meaning.specs.Written.{Piece, maybe_piece, array_piece, structure_piece}
use Rattle.meaning_writing.specs.Writing.{Built, built, fault, Builder, mapped, followed, when, unrefused, when_shallow, on_event, on_plain, sealed, maybe_by, build_maybe, build_many, build_array, build_both, build_structure, variant_by, on_text, build_variant}
use Rattle.meaning_writing.specs.Emitting.{itself, one_piece, more_pieces, entry_of, variant_of, emit_maybe, emit_array, emit_entry, emit_structure, emit_last, emit_next, emit_basic, emit_variant, emit_over, emit_fields, emit}
use Rattle.meaning.proofs.DepthLaws.{limits}

-- what two builders build at one depth
abbrev SameBuilt : {A : Type 0} → (List ℕ → Built A) → (List ℕ → Built A) → Type 0
SameBuilt b c = (l : List ℕ) → b l ≡ c l

one : {A : Type 0} {b c : List ℕ → Built A} → SameBuilt b c → b ≡ c
one h = λ i l. h l i

module _ (b c : Builder Piece) (d : Depths) where
  same_maybe : (a : ℕ) (fx : Bool) → SameBuilt (b (opened Depth.maybe d)) (c (opened Depth.maybe d)) → SameBuilt (emit_maybe a fx b d) (emit_maybe a fx c d)
  unfolding emit_maybe build_maybe maybe_by when_shallow
  same_maybe a fx h l = λ i.
      mapped (maybe_piece a fx itself) (on_event l (λ k p n r.
      when (eqb n 0) (pick (eqb k nothing_letter) (built none r)
      (when (eqb k maybe_letter) (unrefused (depth_refusal (opened Depth.maybe d)) (mapped some (one h i r)))))))

  same_array : (kind a : ℕ) (fx : Bool) → SameBuilt (b (opened Depth.array d)) (c (opened Depth.array d)) → SameBuilt (emit_array kind a fx b d) (emit_array kind a fx c d)
  unfolding emit_array build_array when_shallow
  same_array kind a fx h l = λ i.
      mapped (array_piece kind a fx) (on_plain kind l (λ r. unrefused (depth_refusal (opened Depth.array d)) (sealed (build_many (length l) (one h i) r))))

  same_entry : (a : ℕ) (fx : Bool) (key : Builder Piece) → SameBuilt (b d) (c d) → SameBuilt (emit_entry a fx key b d) (emit_entry a fx key c d)
  unfolding emit_entry build_both
  same_entry a fx key h l = λ i. mapped (entry_of a fx) (followed (key d l) (λ v r. mapped (λ w. (v, w)) (one h i r)))

  same_last : SameBuilt (b d) (c d) → SameBuilt (emit_last b d) (emit_last c d)
  unfolding emit_last
  same_last h l = ap (mapped one_piece) (h l)

  same_next : (f g : Builder (List Piece)) → SameBuilt (b d) (c d) → SameBuilt (f d) (g d) → SameBuilt (emit_next b f d) (emit_next c g d)
  unfolding emit_next build_both
  same_next f g h k l = λ i. mapped more_pieces (followed (h l i) (λ v r. mapped (λ w. (v, w)) (one k i r)))

same_structure : (f g : Builder (List Piece)) (d : Depths) (a : ℕ) (fx : Bool) → SameBuilt (f (opened Depth.structure d)) (g (opened Depth.structure d)) → SameBuilt (emit_structure a fx f d) (emit_structure a fx g d)
unfolding emit_structure build_structure when_shallow
same_structure f g d a fx h l = λ i.
    mapped (structure_piece a fx) (on_plain structure_letter l (λ r. unrefused (depth_refusal (opened Depth.structure d)) (sealed (one h i r))))

-- behind a depth that is not refused
same_shallow : {A : Type 0} (d : Depths) (f g : Depths → Built A) → (depth_refusal d ≡ 0 → f d ≡ g d) → when_shallow d f ≡ when_shallow d g
unfolding when_shallow unrefused
same_shallow d f g h = go (eqb (depth_refusal d) 0) refl
  where
    go : (x : Bool) → eqb (depth_refusal d) 0 ≡ x → pick x (f d) (fault (depth_refusal d)) ≡ pick x (g d) (fault (depth_refusal d))
    go true q = h (eqb-true (depth_refusal d) 0 q)
    go false q = refl

module _ (texts : List ℕ) (big : Bool) (b c : Tree → Builder Piece) (d : Depths) (h : (t : Tree) → depth_refusal (opened Depth.variant d) ≡ 0 → SameBuilt (b t (opened Depth.variant d)) (c t (opened Depth.variant d))) where
  same_by : (r : List ℕ) (o : Option Tree) → variant_by {F = λ t. Piece} b d r o ≡ variant_by {F = λ t. Piece} c d r o
  unfolding variant_by
  same_by r none = refl
  same_by r (some t) = same_shallow (opened Depth.variant d) _ _ (λ z. ap (λ (x : Built Piece). sealed (mapped {B = (t : Tree) × Piece} (λ v. (t, v)) x)) (h t z r))

  same_variant : SameBuilt (emit_variant texts big b d) (emit_variant texts big c d)
  unfolding emit_variant build_variant
  same_variant l = λ i. mapped variant_of (on_plain variant_letter l (λ q. on_text texts signature_letter q (λ s r. same_by r (type_of s) i)))

-- every type, by builders of variants that are the same wherever v variants are open
module _ (texts : List ℕ) (big : Bool) (b c : Builder Piece) (v : ℕ) (h : (d : Depths) → d.variant ≡ v → SameBuilt (b d) (c d)) where
  mutual
    unfolding emit_over

    same_over : (t : Tree) (d : Depths) → d.variant ≡ v → SameBuilt (emit_over texts big b t d) (emit_over texts big c t d)
    same_over (basic x) d g = λ l. refl
    same_over variant d g = h d g
    same_over (maybe t) d g = same_maybe (emit_over texts big b t) (emit_over texts big c t) d (alignment t) (fixed t) (same_over t (opened Depth.maybe d) g)
    same_over (array t) d g = same_array (emit_over texts big b t) (emit_over texts big c t) d array_letter (alignment t) (fixed t) (same_over t (opened Depth.array d) g)
    same_over (dictionary x t) d g =
        let a : ℕ = entry_alignment x t in
        let fx : Bool = entry_fixed x t in
        same_array (emit_entry a fx (emit_basic texts big x) (emit_over texts big b t)) (emit_entry a fx (emit_basic texts big x) (emit_over texts big c t)) d dictionary_letter a fx
        (same_entry (emit_over texts big b t) (emit_over texts big c t) (opened Depth.array d) a fx (emit_basic texts big x) (same_over t (opened Depth.array d) g))
    same_over (structure ts) d g = same_structure (emit_fields texts big b ts) (emit_fields texts big c ts) d (largest_alignment ts) (all_fixed ts) (same_fields ts (opened Depth.structure d) g)

    same_fields : (ts : Fields) (d : Depths) → d.variant ≡ v → SameBuilt (emit_fields texts big b ts d) (emit_fields texts big c ts d)
    same_fields (last t) d g = same_last (emit_over texts big b t) (emit_over texts big c t) d (same_over t d g)
    same_fields (next t ts) d g =
        same_next (emit_over texts big b t) (emit_over texts big c t) d (emit_fields texts big b ts) (emit_fields texts big c ts) (same_over t d g) (same_fields ts d g)

-- with v variants open, as many more as make 65 with them are enough
pub emit_same : (texts : List ℕ) (big : Bool) (n m v : ℕ) (t : Tree) (d : Depths) → d.variant ≡ v → depth_refusal d ≡ 0 → most_variants ≤ n + v → most_variants ≤ m + v → SameBuilt (emit texts big n t d) (emit texts big m t d)
unfolding emit
emit_same texts big zero m v t d g z p q = absurd (omega (arith, (limits d.structure d.array d.variant d.maybe z).total))
emit_same texts big (suc n) zero v t d g z p q = absurd (omega (arith, (limits d.structure d.array d.variant d.maybe z).total))
emit_same texts big (suc n) (suc m) v t d g z p q =
    same_over texts big (emit_variant texts big (λ u. emit texts big n u)) (emit_variant texts big (λ u. emit texts big m u)) v
    (λ d' g'. same_variant texts big (λ u. emit texts big n u) (λ u. emit texts big m u) d' (λ u z'.
    emit_same texts big n m (v + 1) u (opened Depth.variant d') (ap (λ (x : ℕ). x + 1) g') z' (omega arith) (omega arith))) t d g

-- MORE VARIANTS CHANGE NO WRITING
pub emit_enough : (texts : List ℕ) (big : Bool) (n : ℕ) (t : Tree) (l : List ℕ) → most_variants ≤ n → emit texts big n t none_open l ≡ emit texts big most_variants t none_open l
unfolding depth_refusal
emit_enough texts big n t l h = emit_same texts big n most_variants 0 t none_open refl refl (omega arith) (omega arith) l
