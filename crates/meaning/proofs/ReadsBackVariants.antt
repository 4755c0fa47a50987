-- What was written reads as it was meant: variants. Assumes nothing.
use mathlib.Core.Path.{◌≡◌, refl, ◌∙◌}
use mathlib.Core.List.{List, [], ◌∷◌, ◌++◌, append-nil, append_assoc}
use mathlib.Core.Bool.{Bool, false}
use Prim.Native.Nat.{ℕ, zero, suc, ◌+◌, ◌-◌, ◌%◌, ◌≤◌, ◌<◌}
use native.Mathlib.Omega.{arith}
use native.Mathlib.Numerals.{add-one}
use lib.Dec.{T, eqb}
use lib.ListN.{length, drop, get_or, length-append, length-replicate}
use lib.Seq.{drop_at, get_or-append-add, get_or-append_seam}
use borrow.Author.Tests.{eq-eqb, ne_eqb}
use Rattle.meaning.specs.Padding.{padding, zeros, Aligns}
use Rattle.meaning.specs.Texts.{text_refusal}
use Rattle.meaning.specs.Depths as Depth
use Rattle.meaning.specs.Depths.{Depths, depth_refusal, opened}
use Rattle.meaning.specs.Types.{Tree}
use Rattle.meaning.specs.TypeText.{type_text}
use Rattle.meaning.specs.Events.{text_event}
use Rattle.meaning.specs.Written.{Piece, fits, deeper, enclosing, variant_piece}
use Rattle.meaning.specs.Outcome.{done}
use Rattle.meaning.specs.Reading.{Reader, child, text_as, last_nul, separator, remaining, variant_value, variant_type, variant_typed, variant_body, variant_in, read_variant}
use Rattle.meaning.proofs.Tests.{both_left, both_right}
use Rattle.meaning.proofs.PaddingLaws.{by8, divides_eight}
use Rattle.meaning.proofs.FitLaws.{variant_fits}
use Rattle.meaning.proofs.OutcomeLaws.{chain_done, enclosed_done, within_done, behind_padding_lem, child_between}
use Rattle.meaning.proofs.TypeTextLaws.{plain, plain_at, plain_type_text, type_text_positive, type_text_no_nul, type_text_utf8, type_text_without_final_nul, type_of_type_text}
use Rattle.meaning.proofs.ReadsBack.{behind_aligned, Reads, Good, reads_here}

-- the search for the last nul, from the end
last_nul_hit : (i : ℕ) (l : List ℕ) → get_or l i 1 ≡ 0 → last_nul (i + 1) l ≡ i + 1
unfolding last_nul
last_nul_hit i l h = rw add-one (rw (eq-eqb (get_or l i 1) 0 h))

last_nul_miss : (i : ℕ) (l : List ℕ) → eqb (get_or l i 1) 0 ≡ false → last_nul (i + 1) l ≡ last_nul i l
unfolding last_nul
last_nul_miss i l h = rw add-one (rw h)

-- behind it stand letters that are none
last_nul_behind : (x y : List ℕ) (i : ℕ) → T (plain y) → last_nul (length x + 1 + i) (x ++ (0 ∷ y)) ≡ length x + 1
last_nul_behind x y zero p =
    let e : length x + 1 + 0 ≡ length x + 1 = omega arith in
    rw e (last_nul_hit (length x) (x ++ (0 ∷ y)) (get_or-append_seam x 0 y 1))
last_nul_behind x y (suc i) p =
    let e : length x + 1 + suc i ≡ length x + suc i + 1 = omega arith in
    let f : length x + suc i ≡ length x + 1 + i = omega arith in
    let m : eqb (get_or (x ++ (0 ∷ y)) (length x + suc i) 1) 0 ≡ false = rw (get_or-append-add x (0 ∷ y) (suc i) 1) (plain_at y i p) in
    rw e (last_nul_miss (length x + suc i) (x ++ (0 ∷ y)) m ∙ rw f (last_nul_behind x y i p))

pub separator_at : (x y : List ℕ) → T (plain y) → 0 < length y → separator (x ++ (0 ∷ y)) ≡ length x + 1
separator_at x y p h =
    let e : length (x ++ (0 ∷ y)) - 1 ≡ length x + 1 + (length y - 1) = simp length-append (omega arith) in
    rw e (last_nul_behind x y (length y - 1) p)

text_plain : (t : Tree) → text_refusal (type_text t) ≡ 0
unfolding text_refusal
text_plain t = rw (type_text_no_nul t, type_text_utf8 t)

-- a variant at k, behind the padding p: its value, of which read makes a piece, and its type's text
module _ (position : ℕ) (read : Tree → Reader) (t : Tree) {a : ℕ} {fx : Bool} (c : Piece) (al : Aligns a) (g : Good position (read t) a fx c) where
  module _ (d : Depths) (k p : ℕ) (f₁ : length (type_text t) ≤ 255) (f₂ : T (deeper (opened Depth.variant d) (fits c))) (s : length c.bytes ≤ 65536) (hp : p ≡ padding (position + k) 8) where
    abbrev whole : List ℕ
    whole = c.bytes ++ (0 ∷ type_text t)

    abbrev part : List ℕ
    part = zeros p ++ whole

    abbrev sep : ℕ
    sep = length c.bytes + 1

    value_read : variant_typed read d k part p sep 0 ≡ done (length whole) (c.events (k + p))
    unfolding variant_typed variant_type variant_value
    value_read =
        let b : List ℕ = c.bytes in
        let h : part ≡ (zeros p ++ (b ++ (0 ∷ []))) ++ type_text t = simp append_assoc in
        let dr : drop (p + sep) part ≡ type_text t = rw h (drop_at (zeros p ++ (b ++ (0 ∷ []))) (type_text t) (p + sep) (simp (length-append, length-replicate) (omega arith))) in
        let d' : Depths = opened Depth.variant d in
        let here : (position + (k + p)) % a ≡ 0 = divides_eight al (position + (k + p)) (behind_aligned position by8 k p hp) in
        let e : p + length b ≡ p + (sep - 1) = omega arith in
        let n : length part - p - length b ≡ length whole - length b = simp (length-append, length-replicate) (omega arith) in
        let r : child (read t d') k part p (p + (sep - 1)) ≡ done (length b) (c.events (k + p)) =
        child_between (read t d') k (zeros p) b (0 ∷ type_text t) p (p + (sep - 1)) (length-replicate p 0) e
        ∙ reads_here position al g d' (k + p) (both_right (eqb (depth_refusal d') 0) (fits c d') f₂) s here in
        rw (dr, type_of_type_text t f₁)
        (within_done d' (k + p) (variant_value read d k part p sep t) (both_left (eqb (depth_refusal d') 0) (fits c d') f₂)
        (chain_done (child (read t d') k part p (p + (sep - 1))) (remaining (length part - p)) (length b) (length whole - length b) (length whole) (c.events (k + p)) [] (c.events (k + p)) r
        (rw n) (omega (arith, length-append b (0 ∷ type_text t))) (rw append-nil)))

    variant_read : variant_in read d k part p ≡ done (length whole) (enclosing 118 (k + p) (length whole) (text_event 103 (k + p + sep) (type_text t) ∷ c.events (k + p)))
    unfolding variant_in variant_body text_as
    variant_read =
        let dp : drop p part ≡ whole = drop_at (zeros p) whole p (length-replicate p 0) in
        let sp : separator (drop p part) ≡ sep = rw dp (separator_at c.bytes (type_text t) (plain_type_text t) (type_text_positive t)) in
        let h : part ≡ (zeros p ++ (c.bytes ++ (0 ∷ []))) ++ type_text t = simp append_assoc in
        let dr : drop (p + sep) part ≡ type_text t = rw h (drop_at (zeros p ++ (c.bytes ++ (0 ∷ []))) (type_text t) (p + sep) (simp (length-append, length-replicate) (omega arith))) in
        let m : k + (p + sep) ≡ k + p + sep = omega arith in
        rw (sp, ne_eqb sep 0 (λ h. omega arith), dr, type_text_without_final_nul t, eq-eqb (text_refusal (type_text t)) 0 (text_plain t), m)
        (enclosed_done 118 (k + p) (length whole) (length whole) _ (text_event 103 (k + p + sep) (type_text t) ∷ c.events (k + p))
        (chain_done (done 0 (text_event 103 (k + p + sep) (type_text t) ∷ [])) (variant_typed read d k part p sep) 0 (length whole) (length whole)
        (text_event 103 (k + p + sep) (type_text t) ∷ []) (c.events (k + p)) (text_event 103 (k + p + sep) (type_text t) ∷ c.events (k + p)) refl value_read (omega arith) refl) refl)

  variant_reads : Reads position (read_variant position read) (variant_piece t c)
  unfolding variant_piece read_variant
  variant_reads d k p u q r f s tl hp hu hq =
      let b : ℕ = length (c.bytes ++ (0 ∷ type_text t)) in
      let h = variant_fits t c d f in
      let s' : length c.bytes ≤ 65536 = omega (arith, length-append c.bytes (0 ∷ type_text t)) in
      rw (tl, append-nil, hq) (behind_padding_lem position 8 k p u b (c.bytes ++ (0 ∷ type_text t)) (variant_in read d k (zeros p ++ (c.bytes ++ (0 ∷ type_text t)))) _ hp (variant_read d k p h.short h.held s' hp) hu)

  pub variant_good : Good position (read_variant position read) 8 false (variant_piece t c)
  unfolding variant_piece
  variant_good = record { reads = variant_reads; alignment_is = refl; fixed_is = refl; solid = λ t. absurd t }
