-- Arrays of what takes one event, and of readings: what is repeated takes events and has its alignment, and a law for each way out of a
-- reading. Assumes nothing.
use mathlib.Core.Path.{◌≡◌, refl, sym, ap, subst, ◌∙◌}
use mathlib.Core.List.{List, []}
use mathlib.Core.Option.{Option, none, some}
use mathlib.Core.Bool.{Bool, true}
use native.Mathlib.Omega.{arith}
use Prim.Native.Nat.{ℕ, ◌+◌, ◌%◌, ◌≤◌}
use lib.ListN.{length, drop, get_or}
use Rattle.meaning.specs.Depths as Depth
use Rattle.meaning.specs.Depths.{Depths, opened, none_open}
use Rattle.meaning.specs.Padding.{padding}
use Rattle.meaning.specs.Letters.{number_letter, text_letter}
use Rattle.meaning.specs.Numbers.{bytes}
use Rattle.meaning.specs.Types.{Number as NumberType, Text as TextType, Basic, number, text, basic, maybe, number_width, basic_alignment, basic_fixed, alignment, fixed}
use Rattle.meaning.specs.Values.{BasicValue}
use Rattle.meaning.specs.Written.{Piece, basic_piece, maybe_piece}
use Rattle.meaning.proofs.PaddingLaws.{by_alignment, padding_none}
use Rattle.meaning_writing.specs.Writing.{Built, built, fault, mapped, build_basic, build_maybe}
use Rattle.meaning_writing.specs.Emitting.{itself, emit_basic, emit_maybe, emit_over, emit}
use Rattle.meaning_writing.specs.EventsAt.{PlainAt}
use Rattle.meaning_writing.proofs.WritingSteps.{Shorter}
use Rattle.meaning_writing.proofs.EmitLaws.{basic_shorter, emit_shorter}
use Rattle.meaning_writing.proofs.PieceLaws.{basic_alignment_lem as piece_alignment, basic_fixed_lem as piece_fixed}
use Rattle.meaning.proofs.NumberLaws.{length_bytes}
use Rattle.container_depths.specs.Opening.{depths_of, Raises}
use Rattle.container_depths.specs.declared.ContainerDepths.{ContainerDepths}
use Rattle.container_depths.specs.Opening.{Raised}
use Rattle.signature.specs.declared.Letter.TheVariants.{Number, Text}
use Rattle.writer_store.specs.Stores.{cap, sum}
use Rattle.writer_basic.specs.Wrote.{key_basic, IsKey, Says, Done, marks_of, DoneAll, around_child, Run, RowAt, many_of, key_of}
use Rattle.writer_basic.specs.declared.Spot.{Spot}
use Rattle.writer_basic.specs.Wrote.{Answer}
use Rattle.writer_ends.proofs.EndLaws.{kept_not}
use Rattle.writer_basic.proofs.Answers.{made_of, Bounds, bounds, length_ordered, key_number, key_text, key_aligned, aligns_small, basic_number, basic_text}
use Rattle.writer_basic.proofs.Openings.{maybe_on}
use Rattle.writer_basic.proofs.Rows.{run, many_at, Left, left_stop, left_next}

-- ---- basic pieces

module _ (texts : List ℕ) (big : Bool) (b : Basic) (D : Depths) (l : List ℕ) (c : Piece) (r : List ℕ) (e : emit_basic texts big b D l ≡ built c r) where
  pub basic_has : (c.alignment ≡ basic_alignment b) × (c.fixed ≡ basic_fixed b)
  unfolding emit_basic
  basic_has = go (build_basic texts b l) e
    where
      go : (x : Built (BasicValue b)) → mapped (basic_piece big b) x ≡ built c r → (c.alignment ≡ basic_alignment b) × (c.fixed ≡ basic_fixed b)
      go (built v q) f = unfold mapped in (let z : c ≡ basic_piece big b v = cc in rw z (piece_alignment big b v, piece_fixed big b v))
      go (fault n) f = unfold mapped in absurd (let z : ◌≡◌ {A = ℕ} 0 1 = cc in omega arith)

pub basic_alignment_lem : (texts : List ℕ) (big : Bool) (b : Basic) (D : Depths) (l : List ℕ) (a : ℕ) → a ≡ basic_alignment b → (c : Piece) (r : List ℕ) → emit_basic texts big b D l ≡ built c r → c.alignment ≡ a
basic_alignment_lem texts big b D l a h c r e = (basic_has texts big b D l c r e).0 ∙ sym h

-- ---- readings

-- what a maybe of a basic type is written as
pub emit_reading : (texts : List ℕ) (big : Bool) (b : Basic) → emit texts big 0 (maybe (basic b)) ≡ emit_maybe (basic_alignment b) (basic_fixed b) (emit_basic texts big b)
unfolding emit emit_over alignment fixed
emit_reading texts big b = refl

pub reading_shorter : (texts : List ℕ) (big : Bool) (b : Basic) (D : Depths) → basic_fixed b ≡ true → Shorter (emit_maybe (basic_alignment b) true (emit_basic texts big b) D)
reading_shorter texts big b D f =
    let e : emit texts big 0 (maybe (basic b)) ≡ emit_maybe (basic_alignment b) true (emit_basic texts big b) = emit_reading texts big b ∙ ap (λ (x : Bool). emit_maybe (basic_alignment b) x (emit_basic texts big b)) f in
    rw (← e) (emit_shorter texts big 0 (maybe (basic b)) D)

pub reading_alignment : (texts : List ℕ) (big : Bool) (b : Basic) (D : Depths) (l : List ℕ) (a : ℕ) → a ≡ basic_alignment b → (c : Piece) (r : List ℕ) → emit_maybe (basic_alignment b) true (emit_basic texts big b) D l ≡ built c r → c.alignment ≡ a
unfolding emit_maybe
reading_alignment texts big b D l a h c r e = go (build_maybe (emit_basic texts big b) D l) e ∙ sym h
  where
    piece_alignment : (o : Option Piece) → (maybe_piece (basic_alignment b) true itself o).alignment ≡ basic_alignment b
    piece_alignment none = unfold maybe_piece in refl
    piece_alignment (some v) = unfold maybe_piece in refl

    go : (x : Built (Option Piece)) → mapped (maybe_piece (basic_alignment b) true itself) x ≡ built c r → c.alignment ≡ basic_alignment b
    go (built v q) f = unfold mapped in (let z : c ≡ maybe_piece (basic_alignment b) true itself v = cc in rw z (piece_alignment v))
    go (fault n) f = unfold mapped in absurd (let z : ◌≡◌ {A = ℕ} 0 1 = cc in omega arith)

-- a present one, whose number is fixed: nothing stands behind it
held_whole : {x : Built Piece} {ns : List ℕ} (a i start top : ℕ) {l l' s : List ℕ} {r : Answer} → Done x ns (i + 3) start top l l' s s r → Done (around_child a true x) ns i start top l l' s s r
unfolding around_child maybe_piece
held_whole {x} {ns} a i start top {l} {l'} {s} {r} d = record { says = go x d.says }
  where
    go : (y : Built Piece) → Says y ns (i + 3) start top l l' s s r → Says (mapped (maybe_piece a true itself) (mapped some y)) ns i start top l l' s s r
    go (built c rest) f = unfold mapped maybe_piece in (record { refusal = f.refusal; behind = f.behind; forward = omega (arith, f.forward); within = f.within; size = f.size; stored = f.stored })
    go (fault n) f = unfold mapped in f

pub reading_on : (texts : List ℕ) (big : Bool) (b : Basic) (d : ContainerDepths) (ns : List ℕ) (i start top : ℕ) (l l' s : List ℕ) (r : Answer) → PlainAt 109 ns i → (u : Raised) → Raises (depths_of d) (opened Depth.maybe (depths_of d)) u → u.refusal ≡ 0
    → ((d : Depths) (top : ℕ) (s : List ℕ) → Done (emit_basic texts big b d (drop (i + 3) ns)) ns (i + 3) start top l l' s s r)
    → Done (emit_maybe (basic_alignment b) true (emit_basic texts big b) (depths_of d) (drop i ns)) ns i start top l l' s s r
reading_on texts big b d ns i start top l l' s r p u h z g =
    maybe_on (basic_alignment b) true (emit_basic texts big b) d ns i start top l s p u h l' s r z (held_whole (basic_alignment b) i start top (g (depths_of u.depths) top s))

-- ---- by the letter

pub number_alignment : (c w : ℕ) → IsKey (Number c w) → w ≡ basic_alignment (key_basic (Number c w))
number_alignment c w k = key_number c w k (λ b. w ≡ basic_alignment b) (λ n x y. y)

pub number_fixed : (c w : ℕ) → IsKey (Number c w) → basic_fixed (key_basic (Number c w)) ≡ true
number_fixed c w k = key_number c w k (λ b. basic_fixed b ≡ true) (λ n x y. refl)

pub text_alignment : (c : ℕ) → IsKey (Text c) → 1 ≡ basic_alignment (key_basic (Text c))
text_alignment c k = key_text c k (λ b. 1 ≡ basic_alignment b) (λ n x. refl)

pub unpadded : (k : ℕ) → padding k 1 ≡ 0
unfolding padding
unpadded k = omega arith

-- a number is as long as its width
number_long : (texts : List ℕ) (big : Bool) (n : NumberType) (D : Depths) (l : List ℕ) (c : Piece) (r : List ℕ) → emit_basic texts big (number n) D l ≡ built c r → length c.bytes ≡ number_width n
unfolding emit_basic
number_long texts big n D l c r e = go (build_basic texts (number n) l) e
  where
    long : (v : ℕ) → length (basic_piece big (number n) v).bytes ≡ number_width n
    long v = unfold basic_piece in (length_ordered big (bytes (number_width n) v) ∙ length_bytes (number_width n) v)

    go : (x : Built ℕ) → mapped (basic_piece big (number n)) x ≡ built c r → length c.bytes ≡ number_width n
    go (built v q) f = unfold mapped in (let z : c ≡ basic_piece big (number n) v = cc in rw z (long v))
    go (fault n) f = unfold mapped in absurd (let z : ◌≡◌ {A = ℕ} 0 1 = cc in omega arith)

-- what `number` answers
abbrev pub NumberSays : ℕ → ℕ → Bool → List ℕ → ℕ → ℕ → List ℕ → List ℕ → Answer → Type 0
NumberSays c w big ns i start l l' r =
    (n : NumberType) (texts : List ℕ) (d : Depths) (top : ℕ) (s : List ℕ) → c ≡ number_letter n → w ≡ number_width n → Done (emit_basic texts big (number n) d (drop i ns)) ns i start top l l' s s r

module _ (c w : ℕ) (key : IsKey (Number c w)) (big : Bool) (ns : List ℕ) (i start : ℕ) (l l' : List ℕ) (r : Answer) (f : NumberSays c w big ns i start l l' r) where
  pub number_done : (texts : List ℕ) (d : Depths) (top : ℕ) (s : List ℕ) → Done (emit_basic texts big (key_basic (Number c w)) d (drop i ns)) ns i start top l l' s s r
  number_done texts d top s = basic_number (Number c w) texts big d ns i start top l l' s r c w refl key f

  pub number_bounds : r.refusal ≡ 0 → Bounds ns i r.next r.size
  number_bounds z = bounds z (number_done [] none_open 0 [])

  pub number_size : r.refusal ≡ 0 → r.size ≡ w
  number_size z = key_number c w key (λ b. r.size ≡ w)
      (λ n x y. let m = made_of z (f n [] none_open 0 [] x y) in
      omega (arith, m.facts.size, number_long [] big n none_open (drop i ns) m.piece m.rest m.is, y, aligns_small (key_aligned c w key)))

-- ---- numbers in a row: they are as long as their alignment

pub record NumbersLeft (c w : ℕ) (big : Bool) (ns : List ℕ) (i base : ℕ) (l₀ : List ℕ) (e k : ℕ) (l : List ℕ) : Type 0 where
  pub even : k % w ≡ 0
  pub left : (texts : List ℕ) (d : Depths) (top : ℕ) (s : List ℕ) → Left true (emit_basic texts big (key_basic (Number c w)) d) ns i base top l₀ s e k 0 l s
  pub within : e ≤ length ns
  pub small : k ≤ cap
  pub same : length l ≡ length l₀

module _ (c w : ℕ) (key : IsKey (Number c w)) (big : Bool) (ns : List ℕ) (i base : ℕ) (l₀ : List ℕ) where
  module _ (e k : ℕ) (l : List ℕ) (v : NumbersLeft c w big ns i base l₀ e k l) (h : e + 3 ≤ length ns) (z : get_or ns e 0 ≡ 41 → ⊥) (start : ℕ) (l₂ : List ℕ) (r : Answer)
      (f : NumberSays c w big ns e start l l₂ r) where
    pub numbers_stop : (texts : List ℕ) (d : Depths) (top : ℕ) (s : List ℕ) → (r.refusal ≡ 0 → ⊥)
        → DoneAll (marks_of true) (many_at (emit_basic texts big (key_basic (Number c w)) d) ns i) ns i base top 0 0 l₀ l₂ s s (run r.refusal 0 0 0)
    numbers_stop texts d top s y = left_stop true _ ns i base top l₀ s e k 0 l s (v.left texts d top s) h z start 0 l l₂ s r (number_done c w key big ns e start l l₂ r f texts d 0 s) y

    even_on : (q : ℕ) → q ≡ sum k w → q % w ≡ 0
    even_on q e = rw e (by_alignment (λ w. k % w ≡ 0 → sum k w % w ≡ 0) (λ h. omega arith) (λ h. omega arith) (λ h. omega arith) (λ h. omega arith) (key_aligned c w key) v.even)

    pub numbers_on : (q : ℕ) → r.refusal ≡ 0 → start ≡ sum base k → q ≡ sum k r.size → length l₂ ≡ length l₀ → NumbersLeft c w big ns i base l₀ r.next q l₂
    numbers_on q y hs hq n₂ =
        let g = number_bounds c w key big ns e start l l₂ r f y in
        record {
          even = even_on q (hq ∙ ap (λ (x : ℕ). sum k x) (number_size c w key big ns e start l l₂ r f y));
          left = λ texts d top s. left_next true _ ns i base top l₀ s e k 0 l s (v.left texts d top s) h z start (sum top 0) l₂ s r
              (number_done c w key big ns e start l l₂ r f texts d (sum top 0) s) w q 0 l₂ s
              (basic_shorter texts big (key_basic (Number c w)) d) (basic_alignment_lem texts big (key_basic (Number c w)) d (drop e ns) w (number_alignment c w key))
              (padding_none (key_aligned c w key) k v.even) y hs refl hq (kept_not top 0 q l₂ s) n₂ n₂ refl refl;
          within = g.within;
          small = omega (arith, hq);
          same = n₂;
        }

-- ---- texts in a row

pub text_done : (c : ℕ) → IsKey (Text c) → (texts : List ℕ) (ns : List ℕ) (i start : ℕ) (l l' : List ℕ) (r : Answer)
    → ((n : TextType) (big : Bool) (d : Depths) (top : ℕ) (s : List ℕ) → c ≡ text_letter n → Done (emit_basic texts big (text n) d (drop i ns)) ns i start top l l' s s r)
    → (big : Bool) (d : Depths) (top : ℕ) (s : List ℕ) → Done (emit_basic texts big (key_basic (Text c)) d (drop i ns)) ns i start top l l' s s r
text_done c key texts ns i start l l' r f big d top s = basic_text (Text c) texts big d ns i start top l l' s r c refl key f

-- ---- a width that is known

module _ {u w : ℕ} (h : w ≡ u) (c : ℕ) where
  pub key_width : IsKey (Number c w) → IsKey (Number c u)
  key_width k = rw h at k

  pub row_width : (big : Bool) (ns : List ℕ) (p : Spot) (l l' : List ℕ) (r : Run)
      → ((texts : List ℕ) (d : Depths) (s : List ℕ) → RowAt (marks_of true) (many_of (key_of texts big (Number c u) d)) ns p l l' s s r)
      → (texts : List ℕ) (d : Depths) (s : List ℕ) → RowAt (marks_of true) (many_of (key_of texts big (Number c w) d)) ns p l l' s s r
  row_width big ns p l l' r k = subst (λ x. (texts : List ℕ) (d : Depths) (s : List ℕ) → RowAt (marks_of true) (many_of (key_of texts big (Number c x) d)) ns p l l' s s r) (sym h) k
