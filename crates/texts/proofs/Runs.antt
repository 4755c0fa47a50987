-- Runs of letters of one byte, and a text judged letter by letter. Assumes nothing.
use mathlib.Core.Path.{◌≡◌, refl, sym, ◌∙◌}
use mathlib.Core.List.{List, [], ◌∷◌}
use Prim.Native.Nat.{ℕ, zero, suc, ◌+◌, ◌-◌, ◌≤◌, ◌<◌}
use native.Mathlib.Omega.{arith}
use lib.ListN.{length, drop, get_or}
use Rattle.meaning.specs.Texts.{no_nul, Wanted, wanted, letter, following, after_byte, utf8_from, utf8, text_refusal}
use Rattle.meaning.proofs.TextSteps.{nul_next, utf8_next, following_ascii, following_two, following_three, after_letter, after_inside, text_whole}
use Rattle.texts.specs.Letters.{Plain, PlainByte, Two, Three}
use Rattle.std.specs.List.{All, AllWithin}
use Rattle.std.proofs.Common.{get_or-drop, get_or-take, length-take, length-drop, take}
use Rattle.std.proofs.lemmas.List.Elements.{All-get_or}

pub plain_begin : (l : List ℕ) (i : ℕ) → i ≤ length l → Plain l i i
plain_begin l i h = record { from = omega arith; to = h; nul = refl; letters = refl }

pub plain_next : (l : List ℕ) (i j : ℕ) → Plain l i j → j < length l → 1 ≤ get_or l j 0 → get_or l j 0 ≤ 127 → Plain l i (j + 1)
plain_next l i j p h low high =
    let f = p.from in
    record {
      from = omega arith;
      to = omega arith;
      nul = p.nul ∙ nul_next l j h (λ z. omega arith);
      letters = p.letters ∙ utf8_next l j h letter ∙ rw (after_letter letter (get_or l j 0) refl ∙ following_ascii (get_or l j 0) high);
    }

-- one run behind another
pub plain_on : (l : List ℕ) (i j k : ℕ) → Plain l i j → Plain l j k → Plain l i k
plain_on l i j k p q =
    let f = p.from in
    let g = q.from in
    record { from = omega arith; to = q.to; nul = p.nul ∙ q.nul; letters = p.letters ∙ q.letters }

-- bytes of what is left from i on are bytes of the whole
pub bytes_rest : (l : List ℕ) (i n : ℕ) → AllWithin PlainByte (drop i l) 0 n → AllWithin PlainByte l i (i + n)
bytes_rest l i n a k d low high =
    let e : i + (k - i) ≡ k = omega arith in
    let p : PlainByte (get_or (drop i l) (k - i) d) = a (k - i) d (omega arith) (omega arith) in
    grind (arith, get_or-drop)

pub bytes_all : (l : List ℕ) (i n : ℕ) → i + n ≤ length l → All PlainByte (take n (drop i l)) → AllWithin PlainByte l i (i + n)
bytes_all l i n h a = bytes_rest l i n (λ k d low high.
    let p = All-get_or PlainByte (take n (drop i l)) k d (simp (length-take, length-drop) (omega arith)) a in
    grind (arith, get_or-take))

-- such bytes are a run
pub bytes_run : (l : List ℕ) (i n : ℕ) → i + n ≤ length l → AllWithin PlainByte l i (i + n) → Plain l i (i + n)
bytes_run l i zero h a =
    let e : i + 0 ≡ i = omega arith in
    rw e (plain_begin l i (omega arith))
bytes_run l i (suc n) h a =
    let e : i + suc n ≡ i + n + 1 = omega arith in
    rw e (plain_next l i (i + n) (bytes_run l i n (omega arith) (λ k d low high. a k d low (omega arith))) (omega arith) (a (i + n) 0 (omega arith) (omega arith)).0 (a (i + n) 0 (omega arith) (omega arith)).1)

-- to the end: the last w bytes, and in front of them w bytes that may overlap
pub bytes_last : (l : List ℕ) (i w : ℕ) → w ≤ length l → i ≤ length l → length l ≤ i + w → AllWithin PlainByte l (length l - w) (length l - w + w) → Plain l i (length l)
bytes_last l i w hw hi he a =
    let e : i + (length l - i) ≡ length l = omega arith in
    rw e at (bytes_run l i (length l - i) (omega arith) (λ k d low high. a k d (omega arith) (omega arith)))

pub bytes_ends : (l : List ℕ) (w : ℕ) → w ≤ length l → length l ≤ w + w → AllWithin PlainByte l 0 (0 + w) → AllWithin PlainByte l (length l - w) (length l - w + w) → Plain l 0 (length l)
bytes_ends l w hw he p q =
    plain_on l 0 (0 + w) (length l) (bytes_run l 0 w (omega arith) p) (bytes_last l (0 + w) w hw (omega arith) (omega arith) q)

-- between two letters only the count counts
pub letter_ends : (s : Wanted) (l : List ℕ) → s.count ≡ 0 → utf8_from s l ≡ utf8_from letter l
unfolding utf8_from
letter_ends s [] e = rw e
letter_ends s (x ∷ l) e = rw (after_letter s x e, after_letter letter x refl)

-- a byte that a letter still wants
more_wanted : (l : List ℕ) (j n : ℕ) → j < length l → (128 ≤ get_or l j 0) × (get_or l j 0 ≤ 191) → utf8_from (wanted (n + 1) 128 191) (drop j l) ≡ utf8_from (wanted n 128 191) (drop (j + 1) l)
more_wanted l j n h a =
    let e : n + 1 - 1 ≡ n = omega arith in
    utf8_next l j h (wanted (n + 1) 128 191) ∙ rw (after_inside (wanted (n + 1) 128 191) (get_or l j 0) (λ z. omega arith) a.0 a.1, e)

nul_by : (l : List ℕ) (j : ℕ) → j < length l → 128 ≤ get_or l j 0 → no_nul (drop j l) ≡ no_nul (drop (j + 1) l)
nul_by l j h a = nul_next l j h (λ z. omega arith)

pub plain_two_bytes : (l : List ℕ) (i : ℕ) → i + 1 < length l → Two (get_or l i 0) (get_or l (i + 1) 0) → Plain l i (i + 2)
plain_two_bytes l i h t =
    let a = t.first in
    let e : i + 1 + 1 ≡ i + 2 = omega arith in
    record {
      from = omega arith;
      to = omega arith;
      nul = rw (← e) (nul_next l i (omega arith) (λ z. omega (arith, a.0)) ∙ nul_by l (i + 1) (omega arith) t.second.0);
      letters =
          rw (← e)
          (utf8_next l i (omega arith) letter
          ∙ rw (after_letter letter (get_or l i 0) refl ∙ following_two (get_or l i 0) a.0 a.1)
          (more_wanted l (i + 1) 0 (omega arith) t.second ∙ letter_ends (wanted 0 128 191) (drop (i + 1 + 1) l) refl));
    }

pub plain_three_bytes : (l : List ℕ) (i : ℕ) → i + 2 < length l → Three (get_or l i 0) (get_or l (i + 1) 0) (get_or l (i + 2) 0) → Plain l i (i + 3)
plain_three_bytes l i h t =
    let a = t.first in
    let e : i + 2 + 1 ≡ i + 3 = omega arith in
    let f : i + 1 + 1 ≡ i + 2 = omega arith in
    let n : no_nul (drop (i + 1) l) ≡ no_nul (drop (i + 2) l) = rw (← f) (nul_by l (i + 1) (omega arith) t.second.0) in
    let w : utf8_from (wanted 2 128 191) (drop (i + 1) l) ≡ utf8_from (wanted 1 128 191) (drop (i + 2) l) = rw (← f) (more_wanted l (i + 1) 1 (omega arith) t.second) in
    record {
      from = omega arith;
      to = omega arith;
      nul = rw (← e) (nul_next l i (omega arith) (λ z. omega (arith, a.0)) ∙ n ∙ nul_by l (i + 2) (omega arith) t.third.0);
      letters =
          rw (← e)
          (utf8_next l i (omega arith) letter
          ∙ rw (after_letter letter (get_or l i 0) refl ∙ following_three (get_or l i 0) (omega (arith, a.0)) (λ z. omega (arith, a.0)) (λ z. omega (arith, a.1)) (omega (arith, a.1)))
          (w ∙ more_wanted l (i + 2) 0 (omega arith) t.third ∙ letter_ends (wanted 0 128 191) (drop (i + 2 + 1) l) refl));
    }

-- a letter by what its first byte wants: its first two bytes, then of three and of four bytes
pub record Opens (l : List ℕ) (i : ℕ) (s : Wanted) : Type 0 where
  pub wants : s ≡ following (get_or l i 0)
  pub first : 128 ≤ get_or l i 0
  pub second : 128 ≤ get_or l (i + 1) 0
  pub from : s.low ≤ get_or l (i + 1) 0
  pub to : get_or l (i + 1) 0 ≤ s.high

opened : (l : List ℕ) (i n : ℕ) (s : Wanted) → i + 2 < length l → Opens l i s → s.count ≡ n + 1 → utf8_from letter (drop i l) ≡ utf8_from (wanted n 128 191) (drop (i + 2) l)
opened l i n s h o e =
    let two : i + 1 + 1 ≡ i + 2 = omega arith in
    let less : s.count - 1 ≡ n = omega arith in
    rw (← two)
    (utf8_next l i (omega arith) letter
    ∙ rw (after_letter letter (get_or l i 0) refl ∙ sym o.wants)
    (utf8_next l (i + 1) (omega arith) s ∙ rw (after_inside s (get_or l (i + 1) 0) (λ z. omega (arith, e)) o.from o.to, less)))

opened_nul : (l : List ℕ) (i : ℕ) {s : Wanted} → i + 2 < length l → Opens l i s → no_nul (drop i l) ≡ no_nul (drop (i + 2) l)
opened_nul l i h o =
    let two : i + 1 + 1 ≡ i + 2 = omega arith in
    rw (← two) (nul_by l i (omega arith) o.first ∙ nul_by l (i + 1) (omega arith) o.second)

pub wanted_three : (l : List ℕ) (i : ℕ) (s : Wanted) → i + 2 < length l → Opens l i s → s.count ≡ 2 → (128 ≤ get_or l (i + 2) 0) × (get_or l (i + 2) 0 ≤ 191) → Plain l i (i + 3)
wanted_three l i s h o e a =
    let three : i + 2 + 1 ≡ i + 3 = omega arith in
    record {
      from = omega arith;
      to = omega arith;
      nul = rw (← three) (opened_nul l i h o ∙ nul_by l (i + 2) h a.0);
      letters = rw (← three) (opened l i 1 s h o e ∙ more_wanted l (i + 2) 0 h a ∙ letter_ends (wanted 0 128 191) (drop (i + 2 + 1) l) refl);
    }

pub wanted_four : (l : List ℕ) (i : ℕ) (s : Wanted) → i + 3 < length l → Opens l i s → s.count ≡ 3 → (128 ≤ get_or l (i + 2) 0) × (get_or l (i + 2) 0 ≤ 191)
    → (128 ≤ get_or l (i + 3) 0) × (get_or l (i + 3) 0 ≤ 191) → Plain l i (i + 4)
wanted_four l i s h o e a b =
    let three : i + 2 + 1 ≡ i + 3 = omega arith in
    let four : i + 3 + 1 ≡ i + 4 = omega arith in
    let n : no_nul (drop (i + 2) l) ≡ no_nul (drop (i + 3) l) = rw (← three) (nul_by l (i + 2) (omega arith) a.0) in
    let w : utf8_from (wanted 2 128 191) (drop (i + 2) l) ≡ utf8_from (wanted 1 128 191) (drop (i + 3) l) = rw (← three) (more_wanted l (i + 2) 1 (omega arith) a) in
    record {
      from = omega arith;
      to = omega arith;
      nul = rw (← four) (opened_nul l i (omega arith) o ∙ n ∙ nul_by l (i + 3) h b.0);
      letters = rw (← four) (opened l i 2 s (omega arith) o e ∙ w ∙ more_wanted l (i + 3) 0 h b ∙ letter_ends (wanted 0 128 191) (drop (i + 3 + 1) l) refl);
    }

-- how far a text is judged: what is left from i on, where a letter wants s, answers for all
pub record Judged (l : List ℕ) (s : Wanted) (i : ℕ) : Type 0 where
  pub to : i ≤ length l
  pub nul : no_nul l ≡ no_nul (drop i l)
  pub letters : utf8 l ≡ utf8_from s (drop i l)

pub judged_begin : (l : List ℕ) (s : Wanted) (i : ℕ) → s ≡ letter → Plain l 0 i → Judged l s i
unfolding utf8
judged_begin l s i e p = record { to = p.to; nul = p.nul; letters = rw e p.letters }

pub judged_next : (l : List ℕ) (s : Wanted) (i : ℕ) {s' : Wanted} → Judged l s i → i < length l → (get_or l i 0 ≡ 0 → ⊥) → s' ≡ after_byte s (get_or l i 0)
    → Judged l s' (i + 1)
judged_next l s i h p z e =
    record { to = omega arith; nul = h.nul ∙ nul_next l i p z; letters = h.letters ∙ utf8_next l i p s ∙ rw e }

pub judged_plain : (l : List ℕ) (s : Wanted) (i j : ℕ) → s.count ≡ 0 → Judged l s i → Plain l i j → Judged l s j
judged_plain l s i j e h p =
    record {
      to = p.to;
      nul = h.nul ∙ p.nul;
      letters = h.letters ∙ letter_ends s (drop i l) e ∙ p.letters ∙ sym (letter_ends s (drop j l) e);
    }

-- a text that is one run
pub plain_whole : (l : List ℕ) → Plain l 0 (length l) → text_refusal l ≡ 0
plain_whole l p =
    let j = judged_begin l letter (length l) refl p in
    text_whole l letter (length l) (omega arith) j.nul j.letters refl
