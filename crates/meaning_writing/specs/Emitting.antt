-- What events are written as, in one pass: the builders of Writing at pieces in place of values. The code's contracts cite it; it is
-- proved to be the written form of the value that the events spell. Assumes nothing: these are definitions.
use Rattle.std.specs.Prelude.{List, [], ◌∷◌, Bool, ℕ, zero, suc}
use Rattle.meaning.specs.Refusals.{containers_too_deep, no_value}
use Rattle.meaning.specs.Types.{Basic, Tree, Fields, basic, variant, maybe, array, dictionary, structure, last, next, alignment, largest_alignment, fixed, all_fixed, entry_alignment, entry_fixed}
use Rattle.meaning.specs.Letters.{array_letter, dictionary_letter}
use Rattle.meaning.specs.Written.{Piece, basic_piece, maybe_piece, array_piece, structure_piece, entry_piece, variant_piece}
use Rattle.meaning_writing.specs.Writing.{Built, built, fault, Builder, mapped, build_maybe, build_array, build_both, build_structure, build_basic, build_variant, Framed, framed, limited}

-- what is held in a maybe, in an entry, in fields and in a variant is a piece already
abbrev pub itself : Piece → Piece
itself c = c

abbrev pub one_piece : Piece → List Piece
one_piece c = c ∷ []

abbrev pub more_pieces : Piece × List Piece → List Piece
more_pieces x = x.0 ∷ x.1

abbrev pub entry_of : ℕ → Bool → Piece × Piece → Piece
entry_of a fx x = entry_piece a fx (x.0 ∷ x.1 ∷ [])

abbrev pub variant_of : (t : Tree) × Piece → Piece
variant_of x = variant_piece x.0 x.1

unfoldable pub emit_maybe : ℕ → Bool → Builder Piece → Builder Piece
emit_maybe a fx child d l = mapped (maybe_piece a fx itself) (build_maybe child d l)

unfoldable pub emit_array : ℕ → ℕ → Bool → Builder Piece → Builder Piece
emit_array kind a fx child d l = mapped (array_piece kind a fx) (build_array kind child d l)

unfoldable pub emit_entry : ℕ → Bool → Builder Piece → Builder Piece → Builder Piece
emit_entry a fx key value d l = mapped (entry_of a fx) (build_both key value d l)

unfoldable pub emit_structure : ℕ → Bool → Builder (List Piece) → Builder Piece
emit_structure a fx fields d l = mapped (structure_piece a fx) (build_structure fields d l)

unfoldable pub emit_last : Builder Piece → Builder (List Piece)
emit_last child d l = mapped one_piece (child d l)

unfoldable pub emit_next : Builder Piece → Builder (List Piece) → Builder (List Piece)
emit_next child rest d l = mapped more_pieces (build_both child rest d l)

module _ (texts : List ℕ) (big : Bool) where
  unfoldable pub emit_basic : Basic → Builder Piece
  emit_basic b d l = mapped (basic_piece big b) (build_basic texts b l)

  unfoldable pub emit_variant : (Tree → Builder Piece) → Builder Piece
  emit_variant child d l = mapped variant_of (build_variant texts child d l)

  module _ (variants : Builder Piece) where
    unfoldable mutual
      pub emit_over : Tree → Builder Piece
      emit_over (basic b) = emit_basic b
      emit_over variant = variants
      emit_over (maybe t) = emit_maybe (alignment t) (fixed t) (emit_over t)
      emit_over (array t) = emit_array array_letter (alignment t) (fixed t) (emit_over t)
      emit_over (dictionary b t) =
          emit_array dictionary_letter (entry_alignment b t) (entry_fixed b t)
          (emit_entry (entry_alignment b t) (entry_fixed b t) (emit_basic b) (emit_over t))
      emit_over (structure ts) = emit_structure (largest_alignment ts) (all_fixed ts) (emit_fields ts)

      pub emit_fields : Fields → Builder (List Piece)
      emit_fields (last t) = emit_last (emit_over t)
      emit_fields (next t ts) = emit_next (emit_over t) (emit_fields ts)

  -- with at most so many variants one inside another
  unfoldable pub emit : ℕ → Tree → Builder Piece
  emit zero t = emit_over (λ d l. fault containers_too_deep) t
  emit (suc n) t = emit_over (emit_variant (λ u. emit n u)) t

-- the frame of a piece; numbers left over are 17
unfoldable pub frame_emitted : Built Piece → Framed
frame_emitted (built c []) = limited c.bytes
frame_emitted (built c (k ∷ r)) = framed no_value []
frame_emitted (fault n) = framed n []
