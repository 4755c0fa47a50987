-- A law for each way out of the walk over a variant, and what its callees ask. Assumes nothing.
use mathlib.Core.Path.{◌≡◌, refl, sym, ap, ◌∙◌, subst}
use mathlib.Core.List.{List, [], ◌∷◌, ◌++◌}
use mathlib.Core.Option.{Option, none, some}
use mathlib.Core.Bool.{Bool, true, false, false≢true}
use Prim.Native.Nat.{ℕ, zero, suc, ◌+◌, ◌-◌, ◌≤◌, ◌<◌}
use native.Mathlib.Omega.{arith}
use lib.Dec.{eqb}
use lib.ListN.{length, take, drop, length-take, length-drop}
use borrow.Author.Tests.{eq-eqb, ne_eqb}
use Rattle.meaning.specs.Choice.{pick}
use Rattle.meaning.specs.Padding.{zeros}
use Rattle.meaning.specs.Depths as Depth
use Rattle.meaning.specs.Depths.{Depths, opened}
use Rattle.meaning.specs.Types.{Tree, variant}
use Rattle.meaning.specs.TypeText.{type_of}
use Rattle.meaning.specs.Written.{deeper}
use Rattle.meaning.specs.Reading.{separator}
use Rattle.meaning_writing.specs.Strict as strict
use Rattle.meaning_writing.specs.Strict.{Test, typed_written, variant_written, test_of}
use Rattle.meaning_writing.specs.Readings.{MaybeNumber}
use Rattle.meaning_writing.specs.Edited as edited
use Rattle.meaning_writing.specs.Edited.{Editor, count_typed, spot_typed, edited_typed, editor_of}
use Rattle.meaning_writing.proofs.StrictSteps.{test_variant}
use Rattle.meaning_writing.proofs.EditedSteps.{editor_variant}
use Rattle.meaning.proofs.Bounds.{total_most}
use Rattle.container_depths.specs.Opening.{depths_of, Raises}
use Rattle.container_depths.specs.declared.ContainerDepths.{ContainerDepths}
use Rattle.container_depths.specs.Opening.{Raised}
use Rattle.signature.specs.Places.{is_type}
use Rattle.signature.specs.Trees.{tree_at}
use Rattle.signature.proofs.Answers.{judged_none}
use Rattle.signature.proofs.TreeLaws.{Front}
use Rattle.strict_sizes.specs.Items.{tree_test}
use Rattle.editor_steps.specs.Walked.{Walked}
use Rattle.editor_steps.specs.Walks.{tree_editor, Walks, most, Ready, variant_test, variant_editor}
use Rattle.editor_steps.specs.Closing.{edits, Fits, Closes}
use Rattle.editor_steps.proofs.WalkLaws.{fits_here, through_closed}
use Rattle.editor_steps.proofs.Values.{Deeper, deeper_true, deepens, most_small}

-- a text that is one type, by its table
module _ (d : ContainerDepths) (p : ℕ) (l : List ℕ) (w : Ready (variant_test d) d p l) (s : ℕ) (hs : s ≡ separator l) where
  fuel : 65 - d.variant ≡ suc (64 - d.variant)
  fuel = let v = total_most (depths_of d) w.shallow in omega arith

  abbrev test : Tree → Test
  test u = test_of (64 - d.variant) u

  accepted : pick (eqb s 0) false (typed_written test (depths_of d) l s (type_of (drop s l))) ≡ true
  unfolding strict.variant_test variant_written
  accepted = sym (ap (λ (x : Test). x.accepts (depths_of d) l) (ap (λ (m : ℕ). test_of m variant) fuel ∙ test_variant (64 - d.variant)) ∙ rw (← hs)) ∙ w.written

  pub some_separator : s ≡ 0 → ⊥
  some_separator z = false≢true (sym (rw (eq-eqb s 0 z)) ∙ accepted)

  pub separator_positive : 0 < s
  separator_positive = go s refl
    where
      go : (n : ℕ) → s ≡ n → 0 < s
      go zero q = absurd (some_separator q)
      go (suc n) q = omega arith

  typed : typed_written test (depths_of d) l s (type_of (drop s l)) ≡ true
  typed = sym (rw (ne_eqb s 0 some_separator)) ∙ accepted

  record Held : Type 0 where
    it : Tree
    is : type_of (drop s l) ≡ some it
    opens : deeper (opened Depth.variant (depths_of d)) (λ e. (test it).accepts e (take (s - 1) l)) ≡ true

  held : Held
  unfolding typed_written
  held = go (type_of (drop s l)) refl typed
    where
      go : (o : Option Tree) → type_of (drop s l) ≡ o → typed_written test (depths_of d) l s o ≡ true → Held
      go none q h = absurd (false≢true h)
      go (some t) q h = record { it = t; is = q; opens = h }

  module _ (big : Bool) where
    abbrev editor : Tree → Editor
    editor u = editor_of big (64 - d.variant) u

    editor_is : variant_editor big d ≡ edited.variant_editor editor
    editor_is = ap (λ (m : ℕ). editor_of big m variant) fuel ∙ editor_variant big (64 - d.variant)

    pub variant_untyped : (sig : List ℕ) → sig ≡ drop s l → is_type sig ≡ false → 0 ≡ (variant_editor big d).count l
    unfolding edited.variant_editor count_typed
    variant_untyped sig q h = sym (ap (λ (e : Editor). e.count l) editor_is ∙ rw (← hs, ← q, judged_none sig h))

  module _ (r : Raised) (u : Raises (depths_of d) (opened Depth.variant (depths_of d)) r) where
    pub variant_deeper : Deeper Depth.variant d r
    variant_deeper = deepens Depth.variant d r u (deeper_true (opened Depth.variant (depths_of d)) (λ e. (test held.it).accepts e (take (s - 1) l)) held.opens).0

    level_is : 64 - d.variant ≡ 65 - r.depths.variant
    level_is = omega (arith, ap (λ (x : Depths). x.variant) variant_deeper.to)

    module _ (sig : List ℕ) (q : sig ≡ drop s l) (f : Front sig) (at : ℕ) (ha : at ≡ 0) (end : ℕ) (he : end ≡ s - 1) where
      its : type_of (drop s l) ≡ some (tree_at sig at)
      its = ap type_of (sym q) ∙ f.type ∙ ap (λ (j : ℕ). some (tree_at sig j)) (sym ha)

      its_open : deeper (opened Depth.variant (depths_of d)) (λ e. (test (tree_at sig at)).accepts e (take (s - 1) l)) ≡ true
      unfolding typed_written
      its_open = subst (λ (o : Option Tree). typed_written test (depths_of d) l s o ≡ true) its typed

      pub typed_ready : s ≤ length l → Ready (tree_test r.depths.variant sig at) r.depths p (take end l)
      typed_ready less = record {
        shallow = variant_deeper.shallow;
        near = (let n = length-take end l in omega (arith, w.near));
        written =
            ap (λ (n : ℕ). (test_of n (tree_at sig at)).accepts (depths_of r.depths) (take end l)) (sym level_is)
            ∙ ap (λ (y : Depths). (test (tree_at sig at)).accepts y (take end l)) variant_deeper.to
            ∙ ap (λ (n : ℕ). (test (tree_at sig at)).accepts (opened Depth.variant (depths_of d)) (take n l)) he
            ∙ (deeper_true (opened Depth.variant (depths_of d)) (λ e. (test (tree_at sig at)).accepts e (take (s - 1) l)) its_open).1;
      }

      module _ (big : Bool) (i : ℕ) (x : MaybeNumber) (out out₁ : List ℕ) (v : Walked) (k : Walks (tree_editor big r.depths.variant sig at) (depths_of r.depths) p (take end l) i x (most r.depths) out out₁ v) where
        abbrev inner : Editor
        inner = tree_editor big r.depths.variant sig at

        from_zero : Walks inner (depths_of r.depths) (p + 0) (take end l) i x (most r.depths) out out₁ v
        from_zero = let y : p + 0 ≡ p = omega arith in rw y k

        pub variant_fits : edits v ≡ true → Fits p 0 v
        variant_fits y = fits_here inner (depths_of r.depths) p 0 (take end l) i x (most r.depths) out out₁ v from_zero (omega (arith, most_small r.depths)) y

        inner_is : editor big (tree_at sig at) ≡ inner
        inner_is = ap (λ (n : ℕ). editor_of big n (tree_at sig at)) level_is

        counted : (variant_editor big d).count l ≡ inner.count (take end l)
        unfolding edited.variant_editor count_typed
        counted =
            ap (λ (e : Editor). e.count l) (editor_is big) ∙ rw (← hs, its) (ap (λ (e : Editor). e.count (take (s - 1) l)) inner_is) ∙ ap (λ (n : ℕ). inner.count (take n l)) (sym he)

        spotted : (variant_editor big d).spot (depths_of d) p l i ≡ inner.spot (depths_of r.depths) (p + 0) (take end l) i
        unfolding edited.variant_editor spot_typed
        spotted =
            let y : p ≡ p + 0 = omega arith in
            ap (λ (e : Editor). e.spot (depths_of d) p l i) (editor_is big) ∙ rw (← hs, its) (ap (λ (e : Editor). e.spot (opened Depth.variant (depths_of d)) p (take (s - 1) l) i) inner_is)
            ∙ ap (λ (n : ℕ). inner.spot (opened Depth.variant (depths_of d)) p (take n l) i) (sym he)
            ∙ ap (λ (e : Depths). inner.spot e p (take end l) i) (sym variant_deeper.to) ∙ ap (λ (j : ℕ). inner.spot (depths_of r.depths) j (take end l) i) y

        changed : (variant_editor big d).edited l i x ≡ ([] ++ inner.edited (take end l) i x) ++ (zeros 1 ++ sig)
        unfolding edited.variant_editor edited_typed
        changed =
            ap (λ (e : Editor). e.edited l i x) (editor_is big) ∙ rw (← hs, its) (ap (λ (e : Editor). e.edited (take (s - 1) l) i x ++ (0 ∷ drop s l)) inner_is)
            ∙ ap (λ (n : ℕ). inner.edited (take n l) i x ++ (0 ∷ drop s l)) (sym he) ∙ ap (λ (z : List ℕ). inner.edited (take end l) i x ++ (0 ∷ z)) (sym q)

        pub variant_closed : (out₂ : List ℕ) (r' : Walked) → Closes p 0 (zeros 1 ++ sig) 65537 v out₁ out₂ r' → Walks (variant_editor big d) (depths_of d) p l i x (most d) out out₂ r'
        variant_closed out₂ r' y =
            through_closed (variant_editor big d) (depths_of d) p l i inner (depths_of r.depths) 0 (take end l) i x (most d) (most r.depths) out out₁ out₂ v r'
            [] (zeros 1 ++ sig) 65537 y from_zero refl counted (λ n. spotted) (λ n m. changed) refl (omega (arith, variant_deeper.falls))

pub signature_short : {t : Test} {d : ContainerDepths} {p : ℕ} (s : ℕ) (l : List ℕ) → Ready t d p l → length (take (length l - s) (drop s l)) ≤ 65536
signature_short s l w = let a = length-take (length l - s) (drop s l) in let b = length-drop s l in omega (arith, w.near)
