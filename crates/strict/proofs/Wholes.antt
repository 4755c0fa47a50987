-- A law for each way out of the public call and of the walk over a whole frame. Assumes nothing.
use mathlib.Core.Path.{◌≡◌, refl, sym, ap, ◌∙◌}
use mathlib.Core.List.{List}
use mathlib.Core.Bool.{Bool, true, false}
use Prim.Native.Nat.{ℕ, ◌≤◌, ◌<◌}
use lib.Dec.{eqb}
use lib.ListN.{length}
use borrow.Author.Tests.{le-leb, lt-leb, eq-eqb, ne_eqb, eqb-true}
use Rattle.meaning.specs.Choice.{pick}
use Rattle.meaning.specs.Depths.{Depths, depth_refusal, none_open}
use Rattle.meaning.specs.TypeText.{type_of}
use Rattle.meaning.specs.Calls.{frame_reading, Counts, counts, sized, size}
use Rattle.meaning_writing.specs.Strict.{is_written}
use Rattle.container_depths.specs.Opening.{depths_of}
use Rattle.container_depths.specs.declared.ContainerDepths.{ContainerDepths}
use Rattle.signature.specs.Places.{is_type}
use Rattle.signature.proofs.Answers.{judged_none}
use Rattle.signature.proofs.TreeLaws.{Front}
use Rattle.strict_sizes.specs.Items.{tree_test}
use Rattle.strict_cycle.specs.Walks.{Inside}
use Rattle.meaning_writing.specs.IsWritten.{written_as, unwritten, written_refusal}

-- ---- the walk

pub inside_frame : {len : ℕ} {d : ContainerDepths} → len ≤ 65536 → depths_of d ≡ none_open → Inside len d
inside_frame h e = record { in_frame = h; shallow = rw e (unfold depth_refusal in refl) }

module _ (type frame : List ℕ) (n : ℕ) where
  pub walk_untyped : is_type type ≡ false → 1 ≡ written_as frame n (type_of type)
  unfolding written_as
  walk_untyped h = rw (judged_none type h)

  module _ (f : Front type) where
    pub walk_long : 65536 < length frame → 2 ≡ written_as frame n (type_of type)
    unfolding written_as
    walk_long h = rw (f.type, lt-leb (length frame) 65536 h)

    pub walk_is : length frame ≤ 65536 → (d : ContainerDepths) → depths_of d ≡ none_open → (x : ℕ) → x ≡ 0 → (b : Bool) → b ≡ (tree_test d.variant type x).accepts (depths_of d) frame
        → pick b 0 n ≡ written_as frame n (type_of type)
    unfolding written_as is_written
    walk_is h d e x ex b g =
        let v : d.variant ≡ 0 = ap (λ (x : Depths). x.variant) e in
        let w = g ∙ ap (λ (D : Depths). (tree_test d.variant type x).accepts D frame) e ∙ ap (λ (n : ℕ). (tree_test n type x).accepts none_open frame) v ∙ ap (λ (n : ℕ). (tree_test 0 type n).accepts none_open frame) ex in
        sym (rw (f.type, le-leb (length frame) 65536 h) (ap (λ (x : Bool). pick x 0 n) (sym w)))

-- ---- the whole call: what the walk does not accept is what reading refuses, or else not written

module _ (type : List ℕ) (big : Bool) (frame : List ℕ) where
  abbrev o : ℕ
  o = (frame_reading type big 0 frame).refusal

  pub whole_as : {r : ℕ} → ((n : ℕ) → r ≡ written_as frame n (type_of type)) → r ≡ written_refusal type big frame
  unfolding written_refusal
  whole_as h = h (unwritten o)

  module _ (h : (n : ℕ) → n ≡ written_as frame n (type_of type)) (s : Counts) (q : s ≡ size type big 0 frame) where
    same : s.refusal ≡ o
    unfolding size sized
    same = go (eqb o 0) refl (ap (λ (x : Counts). x.refusal) q)
      where
        go : (c : Bool) → eqb o 0 ≡ c → s.refusal ≡ (pick c (counts 0 (frame_reading type big 0 frame).used (length (frame_reading type big 0 frame).events)) (counts o 0 0)).refusal → s.refusal ≡ o
        go true p y = y ∙ sym (eqb-true o 0 p)
        go false p y = y

    whole_is : written_refusal type big frame ≡ unwritten o
    unfolding written_refusal
    whole_is = sym (h (unwritten o))

    pub whole_refused : (s.refusal ≡ 0 → ⊥) → s.refusal ≡ written_refusal type big frame
    unfolding unwritten
    whole_refused y = sym (whole_is ∙ rw (← same) (rw (ne_eqb s.refusal 0 y)))

    pub whole_other : s.refusal ≡ 0 → 15 ≡ written_refusal type big frame
    unfolding unwritten
    whole_other y = sym (whole_is ∙ rw (← same) (rw (eq-eqb s.refusal 0 y)))
