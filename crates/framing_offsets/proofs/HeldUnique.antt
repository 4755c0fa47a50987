-- Each function over the struct that holds a table leaves one answer. This is said of what a caller is handed by it, `ensured`: two answers
-- that both have it are the same. Assumes nothing.
use mathlib.Core.Path.{◌≡◌, sym, ◌∙◌}
use mathlib.Core.List.{List}
use Prim.Native.Nat.{ℕ}
use lib.ListN.{length}
use seplogic.Ra.Ura.{Ura}
use base.Logic.{SProp, ent, sep, via, fst∗, snd∗, ex_e}
use base.Fml.{Lft}
use prog.Memory.{Memory}
use prog.Routine.{Routine}
use types.Logic.{Logic, sem}
use contract.Monad.{Fun, fact, fact_i, fact_use}
use denote.Ref.{Bor}
use denote.Triple.Clauses.{ensured, lasts}
use Rattle.meaning.specs.Offsets.{encoded_width}
use Rattle.std.specs.Prelude.{Result}
use Rattle.meaning.specs.declared.refusals.Refusal.{Refusal}
use Rattle.utils.specs.Checks.{checked}
use Rattle.utils.proofs.Answered.{checked_one}
use Rattle.framing_offset_size.specs.Widths.{width_of, last_offset_in}
use Rattle.framing_offset_size.specs.declared.FramingOffsetSize.{FramingOffsetSize}
use Rattle.framing_offset_size.proofs.Unique.{same_width}
use Rattle.framing_offsets.specs.Tables.{count_from, offset_in}
use Rattle.framing_offsets.specs.Held.{held_table, table_bytes}
use Rattle.framing_offsets.specs.declared.table.FramingOffsets.{FramingOffsets}
use Rattle.framing_offsets.specs.contracts.table.FramingOffsets.new as new
use Rattle.framing_offsets.specs.contracts.table.FramingOffsets.from_encoded_array as encoded
use Rattle.framing_offsets.specs.contracts.table.FramingOffsets.count as count
use Rattle.framing_offsets.specs.contracts.table.FramingOffsets.first as first
use Rattle.framing_offsets.specs.contracts.table.FramingOffsets.next as next
use Rattle.framing_offsets.specs.contracts.table.FramingOffsets.last as last

module _ {M : Type 1} {𝓤 : Ura M} (𝓛 : Logic 𝓤) (mem : Memory → SProp 𝓤) (run : Routine → Fun 𝓤) (κ : Lft) where
  -- from what each of two answers tells, what they tell together
  both : {P Q : SProp 𝓤} (φ ψ χ : Type 0) → ent 𝓤 P (fact 𝓤 φ) → ent 𝓤 Q (fact 𝓤 ψ) → (φ → ψ → χ) → ent 𝓤 (sep 𝓤 P Q) (fact 𝓤 χ)
  both {P} {Q} φ ψ χ p q f = fact_use 𝓤 φ (via 𝓤 P (fst∗ 𝓤 P Q) p) (λ a. fact_use 𝓤 ψ (via 𝓤 Q (snd∗ 𝓤 P Q) q) (λ b. fact_i 𝓤 χ (sep 𝓤 P Q) (f a b)))

  module _ (d : FramingOffsets) where
    abbrev count_ensured : ℕ → SProp 𝓤
    count_ensured r = ensured 𝓛 count.ended (count.clauses 𝓛 mem run) (κ, tt) (d, tt) tt r

    count_tells : (r : ℕ) → ent 𝓤 (count_ensured r) (fact 𝓤 (r ≡ count_from (width_of d.size) 0 d.table.now))
    count_tells r = ex_e 𝓤 _ (λ ws. snd∗ 𝓤 (sem 𝓛 (lasts count.ended (κ, tt) (d, tt) ws)) (fact 𝓤 (r ≡ count_from (width_of d.size) 0 d.table.now)))

    pub count_unique : (r r' : ℕ) → ent 𝓤 (sep 𝓤 (count_ensured r) (count_ensured r')) (fact 𝓤 (r ≡ r'))
    count_unique r r' = both _ _ (r ≡ r') (count_tells r) (count_tells r') (λ a b. a ∙ sym b)

  module _ (d : FramingOffsets) where
    abbrev first_ensured : Result ℕ Refusal → SProp 𝓤
    first_ensured r = ensured 𝓛 first.ended (first.clauses 𝓛 mem run) (κ, tt) (d, tt) tt r

    first_tells : (r : Result ℕ Refusal) → ent 𝓤 (first_ensured r) (fact 𝓤 (checked r ≡ offset_in (held_table (width_of d.size) d.table.now) 0 d.table.now))
    first_tells r = ex_e 𝓤 _ (λ ws. snd∗ 𝓤 (sem 𝓛 (lasts first.ended (κ, tt) (d, tt) ws)) (fact 𝓤 (checked r ≡ offset_in (held_table (width_of d.size) d.table.now) 0 d.table.now)))

    pub first_unique : (r r' : Result ℕ Refusal) → ent 𝓤 (sep 𝓤 (first_ensured r) (first_ensured r')) (fact 𝓤 (r ≡ r'))
    first_unique r r' = both _ _ (r ≡ r') (first_tells r) (first_tells r') (λ a b. checked_one r r' (a ∙ sym b))

  module _ (d : FramingOffsets) (i : ℕ) where
    abbrev next_ensured : Result ℕ Refusal → SProp 𝓤
    next_ensured r = ensured 𝓛 next.ended (next.clauses 𝓛 mem run) (κ, tt) (d, (i, tt)) tt r

    next_tells : (r : Result ℕ Refusal) → ent 𝓤 (next_ensured r) (fact 𝓤 (checked r ≡ offset_in (held_table (width_of d.size) d.table.now) i d.table.now))
    next_tells r = ex_e 𝓤 _ (λ ws. snd∗ 𝓤 (sem 𝓛 (lasts next.ended (κ, tt) (d, (i, tt)) ws)) (fact 𝓤 (checked r ≡ offset_in (held_table (width_of d.size) d.table.now) i d.table.now)))

    pub next_unique : (r r' : Result ℕ Refusal) → ent 𝓤 (sep 𝓤 (next_ensured r) (next_ensured r')) (fact 𝓤 (r ≡ r'))
    next_unique r r' = both _ _ (r ≡ r') (next_tells r) (next_tells r') (λ a b. checked_one r r' (a ∙ sym b))

  module _ (d : FramingOffsets) where
    abbrev last_ensured : Result ℕ Refusal → SProp 𝓤
    last_ensured r = ensured 𝓛 last.ended (last.clauses 𝓛 mem run) (κ, tt) (d, tt) tt r

    last_tells : (r : Result ℕ Refusal) → ent 𝓤 (last_ensured r) (fact 𝓤 (checked r ≡ last_offset_in (width_of d.size) d.table.now))
    last_tells r = ex_e 𝓤 _ (λ ws. snd∗ 𝓤 (sem 𝓛 (lasts last.ended (κ, tt) (d, tt) ws)) (fact 𝓤 (checked r ≡ last_offset_in (width_of d.size) d.table.now)))

    pub last_unique : (r r' : Result ℕ Refusal) → ent 𝓤 (sep 𝓤 (last_ensured r) (last_ensured r')) (fact 𝓤 (r ≡ r'))
    last_unique r r' = both _ _ (r ≡ r') (last_tells r) (last_tells r') (λ a b. checked_one r r' (a ∙ sym b))

  module _ (s : Bor (List ℕ)) (z : FramingOffsetSize) where
    abbrev new_ensured : FramingOffsets → SProp 𝓤
    new_ensured r = ensured 𝓛 new.ended (new.clauses 𝓛 mem run) (κ, tt) (s, (z, tt)) tt r

    abbrev Made : FramingOffsets → Type 0
    Made r = (r.table ≡ s) × (r.size ≡ z)

    new_tells : (r : FramingOffsets) → ent 𝓤 (new_ensured r) (fact 𝓤 (Made r))
    new_tells r = ex_e 𝓤 _ (λ ws. snd∗ 𝓤 (sem 𝓛 (lasts new.ended (κ, tt) (s, (z, tt)) ws)) (fact 𝓤 (Made r)))

    made_same : (r r' : FramingOffsets) → Made r → Made r' → r ≡ r'
    made_same r r' a b =
        let tables = a.0 ∙ sym b.0 in
        let sizes = a.1 ∙ sym b.1 in
        λ i. record { table = tables i; size = sizes i }

    pub new_unique : (r r' : FramingOffsets) → ent 𝓤 (sep 𝓤 (new_ensured r) (new_ensured r')) (fact 𝓤 (r ≡ r'))
    new_unique r r' = both _ _ (r ≡ r') (new_tells r) (new_tells r') (made_same r r')

  -- of a slice that is handed back a clause sees its elements
  module _ (s : Bor (List ℕ)) where
    abbrev encoded_ensured : FramingOffsets → SProp 𝓤
    encoded_ensured r = ensured 𝓛 encoded.ended (encoded.clauses 𝓛 mem run) (κ, tt) (s, tt) tt r

    abbrev Found : FramingOffsets → Type 0
    Found r = (r.table.now ≡ table_bytes s.now) × (width_of r.size ≡ encoded_width (length s.now))

    encoded_tells : (r : FramingOffsets) → ent 𝓤 (encoded_ensured r) (fact 𝓤 (Found r))
    encoded_tells r = ex_e 𝓤 _ (λ ws. snd∗ 𝓤 (sem 𝓛 (lasts encoded.ended (κ, tt) (s, tt) ws)) (fact 𝓤 (Found r)))

    pub encoded_unique : (r r' : FramingOffsets) → ent 𝓤 (sep 𝓤 (encoded_ensured r) (encoded_ensured r')) (fact 𝓤 ((r.table.now ≡ r'.table.now) × (r.size ≡ r'.size)))
    encoded_unique r r' = both _ _ _ (encoded_tells r) (encoded_tells r') (λ a b. (a.0 ∙ sym b.0, same_width r.size r'.size a.1 b.1))
