-- A law for each way into a container and out of it before its child: the event, the depth, the type. Assumes nothing.
use mathlib.Core.Path.{◌≡◌, refl, ap, sym, ◌∙◌}
use mathlib.Core.List.{List}
use mathlib.Core.Option.{none, some}
use mathlib.Core.Bool.{Bool, true, false}
use native.Mathlib.Omega.{arith}
use Prim.Native.Nat.{ℕ, ◌+◌, ◌≤◌}
use lib.Dec.{eqb}
use lib.ListN.{length, drop, get_or, length-drop}
use borrow.Author.Tests.{eqb-true, eqb-false}
use Rattle.meaning.specs.Depths as Depth
use Rattle.meaning.specs.Depths.{Depths, Opened, opened}
use Rattle.meaning.specs.Types.{Tree}
use Rattle.meaning.specs.TypeText.{type_of}
use Rattle.meaning.specs.Written.{Piece, maybe_piece, array_piece, structure_piece}
use Rattle.meaning_writing.specs.Writing.{Built, fault, Builder, mapped, sealed, when_shallow, build_maybe, build_many, build_array, build_structure, variant_by, build_variant}
use Rattle.meaning_writing.specs.Emitting.{itself, emit_maybe, emit_array, emit_structure, emit_variant}
use Rattle.meaning_writing.specs.EventsAt.{PlainAt, NotPlain, short, other, carrying}
use Rattle.meaning_writing.proofs.WritingSteps.{Shorter, on_plain_at, on_plain_not, mapped_built, mapped_fault, shallow_open, shallow_fault, maybe_end, maybe_carries, maybe_nothing, maybe_other, maybe_present, many_enough}
use Rattle.meaning.proofs.Bounds.{total_most}
use Rattle.container_depths.specs.Opening.{depths_of, Raises}
use Rattle.container_depths.specs.declared.ContainerDepths.{ContainerDepths}
use Rattle.container_depths.specs.Opening.{Raised}
use Rattle.container_depths.proofs.Levels.{raised_to, raised_shallow}
use Rattle.writer_basic.specs.Wrote.{Taken, Untaken, Done, around_child, around_value}
use Rattle.writer_basic.specs.declared.Context.{Context}
use Rattle.writer_basic.specs.Wrote.{Shallow}
use Rattle.writer_basic.specs.Wrote.{Answer}
use Rattle.writer_store.proofs.Puts.{puts_none}
use Rattle.writer_basic.proofs.Answers.{answer, wrong, single, taken_on, untaken_fault, untaken_real}

-- ---- depths

pub few_variants : {c : Context} → Shallow c → c.depths.variant ≤ 64
few_variants {c} w = omega (arith, total_most (depths_of c.depths) w.is)

module _ (x : Opened) (d : ContainerDepths) (r : Raised) (h : Raises (depths_of d) (opened x (depths_of d)) r) where
  pub raised_in : (big : Bool) → r.refusal ≡ 0 → Shallow (record { big = big; depths = r.depths })
  raised_in big z = record { is = raised_shallow x d r h z }

  pub opened_in : {A : Type 0} (f : Depths → Built A) → r.refusal ≡ 0 → when_shallow (opened x (depths_of d)) f ≡ f (depths_of r.depths)
  opened_in f z = shallow_open (opened x (depths_of d)) f (sym h.refusal ∙ z) ∙ ap f (sym (raised_to x d r h z))

  pub opened_not : {A : Type 0} (f : Depths → Built A) → (r.refusal ≡ 0 → ⊥) → when_shallow (opened x (depths_of d)) f ≡ fault r.refusal
  opened_not f z = shallow_fault (opened x (depths_of d)) f (λ q. z (h.refusal ∙ q)) ∙ ap fault (sym h.refusal)

-- ---- a maybe, over any child

module _ (a : ℕ) (fx : Bool) (child : Builder Piece) (d : ContainerDepths) (ns : List ℕ) (i start top : ℕ) (l s : List ℕ) where
  pub maybe_empty : PlainAt 78 ns i → Done (emit_maybe a fx child (depths_of d) (drop i ns)) ns i start top l l s s (answer 0 (i + 3) 0)
  unfolding emit_maybe maybe_piece
  maybe_empty p =
      single (maybe_piece a fx itself none) ns i start top 0 l l s (mapped_built (maybe_piece a fx itself) _ none _ (maybe_nothing child (depths_of d) ns i p.whole p.carries p.kind_is)) p.whole (omega arith)
      (λ q. sym (puts_none l start))

  pub maybe_neither : (l' s' : List ℕ) → NotPlain 78 ns i → NotPlain 109 ns i → Done (emit_maybe a fx child (depths_of d) (drop i ns)) ns i start top l l' s s' (answer 17 0 0)
  unfolding emit_maybe
  maybe_neither l' s' p q = wrong (mapped_fault _ _ 17 (go p q)) (λ e. omega arith)
    where
      payload : (b : Bool) → eqb (get_or ns (i + 2) 0) 0 ≡ b → i + 3 ≤ length ns → (get_or ns i 0 ≡ 78 → ⊥) → (get_or ns i 0 ≡ 109 → ⊥) → build_maybe child (depths_of d) (drop i ns) ≡ fault 17
      payload true e h f g = maybe_other child (depths_of d) ns i h (eqb-true (get_or ns (i + 2) 0) 0 e) f g
      payload false e h f g = maybe_carries child (depths_of d) ns i h (eqb-false (get_or ns (i + 2) 0) 0 e)

      go : NotPlain 78 ns i → NotPlain 109 ns i → build_maybe child (depths_of d) (drop i ns) ≡ fault 17
      go (short h) q = maybe_end child (depths_of d) ns i h
      go (carrying h e f) q = maybe_carries child (depths_of d) ns i h f
      go (other h e) (short g) = absurd (omega arith)
      go (other h e) (carrying g f k) = maybe_carries child (depths_of d) ns i h k
      go (other h e) (other g f) = payload (eqb (get_or ns (i + 2) 0) 0) refl h e f

  module _ (p : PlainAt 109 ns i) (r : Raised) (u : Raises (depths_of d) (opened Depth.maybe (depths_of d)) r) where
    pub maybe_deep : (l' s' : List ℕ) → (r.refusal ≡ 0 → ⊥) → Done (emit_maybe a fx child (depths_of d) (drop i ns)) ns i start top l l' s s' (answer r.refusal 0 0)
    unfolding emit_maybe
    maybe_deep l' s' z = wrong (mapped_fault _ _ _ (maybe_present child (depths_of d) ns i p.whole p.carries p.kind_is ∙ opened_not Depth.maybe d r u _ z)) z

    pub maybe_on : (l' s' : List ℕ) (q : Answer) → r.refusal ≡ 0 → Done (around_child a fx (child (depths_of r.depths) (drop (i + 3) ns))) ns i start top l l' s s' q
        → Done (emit_maybe a fx child (depths_of d) (drop i ns)) ns i start top l l' s s' q
    unfolding emit_maybe around_child
    maybe_on l' s' q z g = rw (maybe_present child (depths_of d) ns i p.whole p.carries p.kind_is ∙ opened_in Depth.maybe d r u _ z) g

-- ---- an array, over any element

module _ (kind a : ℕ) (fx : Bool) (child : Builder Piece) (d : ContainerDepths) (ns : List ℕ) (i start top : ℕ) (l s : List ℕ) where
  pub array_not : (l' s' : List ℕ) → NotPlain kind ns i → Done (emit_array kind a fx child (depths_of d) (drop i ns)) ns i start top l l' s s' (answer 17 0 0)
  unfolding emit_array build_array
  array_not l' s' p = wrong (mapped_fault _ _ 17 (on_plain_not _ p)) (λ e. omega arith)

  module _ (p : PlainAt kind ns i) (r : Raised) (u : Raises (depths_of d) (opened Depth.array (depths_of d)) r) where
    pub array_deep : (l' s' : List ℕ) → (r.refusal ≡ 0 → ⊥) → Done (emit_array kind a fx child (depths_of d) (drop i ns)) ns i start top l l' s s' (answer r.refusal 0 0)
    unfolding emit_array build_array
    array_deep l' s' z = wrong (mapped_fault _ _ _ (on_plain_at _ p ∙ opened_not Depth.array d r u _ z)) z

    pub array_on : (l' s' : List ℕ) (q : Answer) → r.refusal ≡ 0 → Shorter (child (depths_of r.depths))
        → Done (mapped (array_piece kind a fx) (sealed (build_many (length (drop (i + 3) ns)) (child (depths_of r.depths)) (drop (i + 3) ns)))) ns i start top l l' s s' q
        → Done (emit_array kind a fx child (depths_of d) (drop i ns)) ns i start top l l' s s' q
    unfolding emit_array
    array_on l' s' q z sh g =
        let e = many_enough (child (depths_of r.depths)) sh (length (drop i ns)) (length (drop (i + 3) ns)) (drop (i + 3) ns) (rw (length-drop i ns, length-drop (i + 3) ns) (omega arith)) (omega arith) in
        let y : build_array kind child (depths_of d) (drop i ns) ≡ sealed (build_many (length (drop i ns)) (child (depths_of r.depths)) (drop (i + 3) ns)) = (unfold build_array in on_plain_at _ p ∙ opened_in Depth.array d r u _ z) in
        let k : build_array kind child (depths_of d) (drop i ns) ≡ sealed (build_many (length (drop (i + 3) ns)) (child (depths_of r.depths)) (drop (i + 3) ns)) = y ∙ ap sealed e in
        rw k g

-- ---- a structure, over any fields

module _ (a : ℕ) (fx : Bool) (fields : Builder (List Piece)) (d : ContainerDepths) (ns : List ℕ) (i start top : ℕ) (l s : List ℕ) where
  pub structure_not : (l' s' : List ℕ) → NotPlain 40 ns i → Done (emit_structure a fx fields (depths_of d) (drop i ns)) ns i start top l l' s s' (answer 17 0 0)
  unfolding emit_structure build_structure
  structure_not l' s' p = wrong (mapped_fault _ _ 17 (on_plain_not _ p)) (λ e. omega arith)

  module _ (p : PlainAt 40 ns i) (r : Raised) (u : Raises (depths_of d) (opened Depth.structure (depths_of d)) r) where
    pub structure_deep : (l' s' : List ℕ) → (r.refusal ≡ 0 → ⊥) → Done (emit_structure a fx fields (depths_of d) (drop i ns)) ns i start top l l' s s' (answer r.refusal 0 0)
    unfolding emit_structure build_structure
    structure_deep l' s' z = wrong (mapped_fault _ _ _ (on_plain_at _ p ∙ opened_not Depth.structure d r u _ z)) z

    pub structure_on : (l' s' : List ℕ) (q : Answer) → r.refusal ≡ 0 → Done (mapped (structure_piece a fx) (sealed (fields (depths_of r.depths) (drop (i + 3) ns)))) ns i start top l l' s s' q
        → Done (emit_structure a fx fields (depths_of d) (drop i ns)) ns i start top l l' s s' q
    unfolding emit_structure
    structure_on l' s' q z g =
        let y : build_structure fields (depths_of d) (drop i ns) ≡ sealed (fields (depths_of r.depths) (drop (i + 3) ns)) = (unfold build_structure in on_plain_at _ p ∙ opened_in Depth.structure d r u _ z) in
        rw y g

-- ---- a variant, over any value

module _ (texts : List ℕ) (big : Bool) (child : Tree → Builder Piece) (d : ContainerDepths) (ns : List ℕ) (i start top : ℕ) (l s : List ℕ) where
  pub variant_not : (l' s' : List ℕ) → NotPlain 118 ns i → Done (emit_variant texts big child (depths_of d) (drop i ns)) ns i start top l l' s s' (answer 17 0 0)
  unfolding emit_variant build_variant
  variant_not l' s' p = wrong (mapped_fault _ _ 17 (on_plain_not _ p)) (λ e. omega arith)

  module _ (p : PlainAt 118 ns i) where
    pub variant_text_lem : (n : ℕ) (l' s' : List ℕ) → Untaken texts 103 ns (i + 3) n → Done (emit_variant texts big child (depths_of d) (drop i ns)) ns i start top l l' s s' (answer n 0 0)
    unfolding emit_variant build_variant
    variant_text_lem n l' s' u = wrong (mapped_fault _ _ n (on_plain_at _ p ∙ untaken_fault _ u)) (untaken_real u)

    module _ (part : List ℕ) (t : Taken texts 103 ns (i + 3) part) where
      pub variant_type_lem : (l' s' : List ℕ) → type_of part ≡ none → Done (emit_variant texts big child (depths_of d) (drop i ns)) ns i start top l l' s s' (answer 9 0 0)
      unfolding emit_variant build_variant variant_by
      variant_type_lem l' s' e =
          let k : variant_by child (depths_of d) (drop (i + 3 + 3) ns) (type_of part) ≡ fault 9 = rw e in
          wrong (mapped_fault _ _ 9 (on_plain_at _ p ∙ taken_on _ t ∙ k)) (λ e. omega arith)

      module _ (u : Tree) (e : type_of part ≡ some u) (r : Raised) (h : Raises (depths_of d) (opened Depth.variant (depths_of d)) r) where
        pub variant_deep : (l' s' : List ℕ) → (r.refusal ≡ 0 → ⊥) → Done (emit_variant texts big child (depths_of d) (drop i ns)) ns i start top l l' s s' (answer r.refusal 0 0)
        unfolding emit_variant build_variant variant_by
        variant_deep l' s' z =
            let k : variant_by child (depths_of d) (drop (i + 3 + 3) ns) (type_of part) ≡ fault r.refusal = rw e (opened_not Depth.variant d r h _ z) in
            wrong (mapped_fault _ _ _ (on_plain_at _ p ∙ taken_on _ t ∙ k)) z

        pub variant_on : (l' s' : List ℕ) (q : Answer) → r.refusal ≡ 0 → Done (around_value u (child u (depths_of r.depths) (drop (i + 6) ns))) ns i start top l l' s s' q
            → Done (emit_variant texts big child (depths_of d) (drop i ns)) ns i start top l l' s s' q
        unfolding emit_variant around_value
        variant_on l' s' q z g =
            let y : i + 3 + 3 ≡ i + 6 = omega arith in
            let k : variant_by child (depths_of d) (drop (i + 3 + 3) ns) (some u) ≡ sealed (mapped {B = (t : Tree) × Piece} (λ v. (u, v)) (child u (depths_of r.depths) (drop (i + 3 + 3) ns))) =
            (unfold variant_by in opened_in Depth.variant d r h _ z) in
            let o : build_variant texts child (depths_of d) (drop i ns) ≡ variant_by child (depths_of d) (drop (i + 3 + 3) ns) (type_of part) = (unfold build_variant in on_plain_at _ p ∙ taken_on _ t) in
            let m : build_variant texts child (depths_of d) (drop i ns) ≡ variant_by child (depths_of d) (drop (i + 3 + 3) ns) (some u) = o ∙ ap (λ x. variant_by child (depths_of d) (drop (i + 3 + 3) ns) x) e in
            let n : build_variant texts child (depths_of d) (drop i ns) ≡ sealed (mapped {B = (t : Tree) × Piece} (λ v. (u, v)) (child u (depths_of r.depths) (drop (i + 6) ns))) = rw y at (m ∙ k) in
            rw n g
