-- A value of a type that is fixed in size is written in just that size. Assumes nothing.
use mathlib.Core.Path.{◌≡◌, refl, ap, ◌∙◌}
use mathlib.Core.List.{List, []}
use mathlib.Core.Bool.{Bool, true, false}
use Prim.Native.Nat.{ℕ, zero, suc, ◌+◌}
use native.Mathlib.Omega.{arith}
use lib.ListN.{length, length-append, length-replicate}
use Rattle.meaning.specs.Choice.{pick}
use Rattle.meaning.specs.Numbers.{bytes}
use Rattle.meaning.specs.Padding.{padding, zeros}
use Rattle.meaning.specs.Types.{Basic, bool, number, text, Tree, Fields, basic, variant, maybe, array, dictionary, structure, last, next, number_width, alignment, largest_alignment, fixed, all_fixed, rounded, fixed_size, fields_end}
use Rattle.meaning.specs.Values.{BasicValue, ValueOver, FieldsOver, Value}
use Rattle.meaning.specs.Written.{Piece, stop, layout, basic_piece, structure_bytes, structure_piece, variant_piece, piece_over, pieces_over, piece, written}
use Rattle.meaning.proofs.NumberLaws.{length_bytes, length_ordered}
use Rattle.meaning.proofs.LayoutLaws.{length_layout}
use Rattle.meaning.proofs.Tests.{impossible, both_true}

basic_size_lem : (big : Bool) (b : Basic) (v : BasicValue b) → fixed (basic b) ≡ true → length (basic_piece big b v).bytes ≡ fixed_size (basic b)
unfolding basic_piece fixed fixed_size
basic_size_lem big bool v h = refl
basic_size_lem big (number n) v h = length_ordered big (bytes (number_width n) v) ∙ length_bytes (number_width n) v
basic_size_lem big (text c) v h = impossible h

-- only basic types and structures are fixed, and their pieces have their alignment
aligned_so : (big : Bool) {Held : Type 0} (held : Held → Piece) (t : Tree) (v : ValueOver Held t) → fixed t ≡ true → (piece_over big held t v).alignment ≡ alignment t
unfolding piece_over fixed alignment basic_piece structure_piece
aligned_so big held (basic bool) v h = refl
aligned_so big held (basic (number n)) v h = refl
aligned_so big held (basic (text c)) v h = impossible h
aligned_so big held variant v h = impossible h
aligned_so big held (maybe t) v h = impossible h
aligned_so big held (array t) v h = impossible h
aligned_so big held (dictionary b t) v h = impossible h
aligned_so big held (structure ts) v h = refl

-- one child more, laid out from the place k
stop_so : (k a : ℕ) (c : Piece) (n : ℕ) → c.alignment ≡ a → length c.bytes ≡ n → stop k c ≡ rounded k a + n
unfolding stop
stop_so k a c n ha hn = rw (ha, hn)

structure_size : (a : ℕ) (fx : Bool) (e : ℕ) (cs : List Piece) → fx ≡ true → 0 + length (layout 0 cs) ≡ e → length (structure_piece a fx cs).bytes ≡ pick fx (rounded e a) 0
unfolding structure_piece structure_bytes
structure_size a true e cs h g =
    let n : length (layout 0 cs) ≡ e = omega arith in
    length-append (layout 0 cs) (zeros (padding (length (layout 0 cs)) a)) ∙ rw (length-replicate, n)
structure_size a false e cs h g = impossible h

last_end_lem : {s e : ℕ} → s ≡ e → s + length (layout s []) ≡ e
unfolding layout
last_end_lem h = omega arith

module _ (big : Bool) {Held : Type 0} (held : Held → Piece) where
  mutual
    unfolding piece_over fixed fixed_size

    size_over : (t : Tree) (v : ValueOver Held t) → fixed t ≡ true → length (piece_over big held t v).bytes ≡ fixed_size t
    size_over (basic b) v h = basic_size_lem big b v h
    size_over variant v h = impossible h
    size_over (maybe t) v h = impossible h
    size_over (array t) v h = impossible h
    size_over (dictionary b t) v h = impossible h
    size_over (structure ts) v h = structure_size (largest_alignment ts) (all_fixed ts) (fields_end 0 ts) (pieces_over big held ts v) h (end_over ts v 0 h)

    end_over : (ts : Fields) (v : FieldsOver Held ts) (k : ℕ) → all_fixed ts ≡ true → k + length (layout k (pieces_over big held ts v)) ≡ fields_end k ts
    end_over (last t) v k h = length_layout k (piece_over big held t v) [] ∙ last_end_lem (stop_so k (alignment t) (piece_over big held t v) (fixed_size t) (aligned_so big held t v h) (size_over t v h))
    end_over (next t ts) v k h =
        let b = both_true (fixed t) (all_fixed ts) h in
        let c : Piece = piece_over big held t v.0 in
        let s : stop k c ≡ rounded k (alignment t) + fixed_size t = stop_so k (alignment t) c (fixed_size t) (aligned_so big held t v.0 b.0) (size_over t v.0 b.0) in
        length_layout k c (pieces_over big held ts v.1) ∙ end_over ts v.1 (stop k c) b.1 ∙ ap (λ (x : ℕ). fields_end x ts) s

-- A VALUE OF A FIXED TYPE IS `fixed_size` BYTES LONG
pub fixed_size_lem : (big : Bool) (n : ℕ) (t : Tree) (v : Value n t) → fixed t ≡ true → length (written big n t v) ≡ fixed_size t
unfolding written piece
fixed_size_lem big zero t v h = size_over big (λ x. absurd x) t v h
fixed_size_lem big (suc n) t v h = size_over big (λ x. variant_piece x.0 (piece big n x.0 x.1)) t v h
