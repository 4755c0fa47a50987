-- The struct that holds a table's slice and its width, as the walks of its functions see it: its machine value, and what it owns.
-- The struct is Copy: what it owns is had twice, one copy stays whole, and the other is taken apart into what the slice and the width own.
-- Assumes nothing.
use mathlib.Core.Path.{◌≡◌}
use Prim.Native.Nat.{ℕ}
use mathlib.Core.List.{List, [], ◌∷◌}
use lib.ListN.{length}
use seplogic.Ra.Ura.{Ura}
use mir.Syntax.{named}
use mir.Val.{Val}
use base.Logic.{ent, sep}
use base.Fml.{Lft, Fml}
use types.Logic.{Logic, sem}
use contract.Lifetimes.{Lfts}
use types.Kit.{‵, ◌⊛◌, given, ◌$◌, ◌∵◌, !, qed, move, drop, use1, split, learn, frame, done}
use denote.RattleType.{RattleType}
use denote.Laws.{Is}
use denote.Builtin.{u8}
use denote.Ref.{Bor, NamedLft}
use denote.Signature.{named_lft}
use denote.Slice.{slice_val, ShrSlice}
use denote.Enum.Laws as EL
use denote.Struct.Declared.{Declared}
use denote.Struct.Laws as LL
use denote.Struct.Rest.{all_own, field_own, rest, own_open, own_out}
use denote.Struct.Values.{Values}
use Rattle.framing_offset_size.specs.declared.FramingOffsetSize.{FramingOffsetSize}
use Rattle.framing_offset_size.specs.contracts.FramingOffsetSize as S
use Rattle.framing_offset_size.proofs.FramingOffsetSize.TheLaws as S'
use Rattle.framing_offsets.specs.declared.table.FramingOffsets.{FramingOffsets}
use Rattle.framing_offsets.specs.contracts.table.FramingOffsets as T
use Rattle.framing_offsets.proofs.table.FramingOffsets.TheLaws as T'

-- the struct's type, over a signature's one lifetime
abbrev pub B : Lfts 1 → RattleType
B κs = T.the_row (named_lft 1 0 tt κs)

abbrev pub slice_at : Lft → RattleType
slice_at κ = ShrSlice (named 0) κ u8

-- the machine values of a slice, of a width and of the struct
abbrev pub slice_of : Bor (List ℕ) → Val
slice_of s = slice_val s.ref_ptr (length s.now)

abbrev pub size_of : FramingOffsetSize → Val
size_of z = EL.val S.the_type S'.the_laws z

module _ (κ : Lft) where
  abbrev pub α : NamedLft
  α = named_lft 1 0 tt (κ, tt)

  abbrev pub D : Declared
  D = T.the_type α

  abbrev pub L : LL.Laws D
  L = T'.the_laws α

  abbrev pub mach_of : FramingOffsets → Val
  mach_of d = LL.val D L d

  -- the struct has its type where its fields have theirs
  pub made_is : (s : Bor (List ℕ)) (z : FramingOffsetSize) → Is (slice_at κ) s (slice_of s ∷ []) → Is S.the_row z (size_of z ∷ [])
      → Is (B (κ, tt)) (record { table = s; size = z }) (mach_of (record { table = s; size = z }) ∷ [])
  made_is s z p q = LL.owes D L (record { table = s; size = z }) (p, (q, tt))

  module _ (d : FramingOffsets) where
    -- what is known of the fields of a struct that has its type
    pub size_is : Is (B (κ, tt)) d (mach_of d ∷ []) → Is S.the_row d.size (size_of d.size ∷ [])
    size_is p = (LL.owed D L d (mach_of d ∷ []) p).1.0

    abbrev pub Own : Fml
    Own = (B (κ, tt)).own_val d (mach_of d ∷ [])

    abbrev pub TableOwn : Fml
    TableOwn = (slice_at κ).own_val d.table (slice_of d.table ∷ [])

    abbrev fields : Values D.parts
    fields = (d.table, (d.size, tt))

    pub held_twice : {M : Type 1} {𝓤 : Ura M} (𝓛 : Logic 𝓤) → ent 𝓤 (sem 𝓛 Own) (sep 𝓤 (sem 𝓛 Own) (sem 𝓛 Own))
    held_twice 𝓛 = (LL.copy D (T'.the_copy α) 𝓛).twice d (mach_of d ∷ [])

    -- of two copies of what the struct owns, one is opened for its slice
    pub table_out : {M : Type 1} {𝓤 : Ura M} (𝓛 : Logic 𝓤) → ent 𝓤 (sem 𝓛 Own) (sep 𝓤 (sem 𝓛 TableOwn) (sem 𝓛 Own))
    table_out 𝓛 =
        qed 𝓛 (‵ Own ∷ []) ∵ use1 𝓛 (‵ Own ⊛ ‵ Own) (held_twice 𝓛) $ split ! $
        use1 𝓛 (given (mach_of d ∷ [] ≡ mach_of d ∷ []) (‵ (all_own D.parts L fields))) (own_open 𝓛 D L fields (mach_of d)) $
        learn ! (λ _. use1 𝓛 (‵ (field_own D.parts L 0 d.table) ⊛ ‵ (rest D.parts L 0 fields)) (own_out 𝓛 D.parts L 0 fields) $ split ! $
        move ! (1 ∷ []) $ drop ! $ frame ! $ done !)
