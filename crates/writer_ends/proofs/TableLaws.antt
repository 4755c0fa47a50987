-- Tables of offsets from the ends that are kept: what the loops that turn them round and store them keep. Assumes nothing.
use Prim.Native.Nat.{ℕ, suc, ◌+◌, ◌-◌, ◌*◌, ◌≤◌, ◌<◌}
use mathlib.Core.Path.{◌≡◌, refl, sym, ap, ◌∙◌}
use mathlib.Core.List.{List, [], ◌∷◌, ◌++◌, reverse, reverse-cons, append_assoc, append-nil}
use native.Mathlib.Omega.{arith}
use native.Mathlib.Nat.{mul-le-mul_left, mul-le-mul_right, add-mul}
use native.Mathlib.Numerals.{add-one}
use native.Mathlib.Decide.{dec_lt}
use lib.ListN.{length, take, drop, get_or, set, length-reverse, get_or-append}
use Rattle.std.specs.List.{SwappedAt}
use lib.Seq.{take-set-le, drop-cons, get_or_at, drop-length, take-suc, take-length}
use Rattle.meaning.specs.Numbers.{bytes}
use Rattle.meaning.specs.Offsets.{table, back_table}
use Rattle.meaning.proofs.NumberLaws.{length_bytes}
use Rattle.meaning.proofs.LayoutLaws.{length_table, length_back_table, back_table_cons, table_append, back_table_reverse}
use Rattle.writer_store.specs.Stores.{puts}
use Rattle.writer_ends.specs.Ends.{tail, end_at, Stored, EndAt, Swapped, Turned, TableRoom, TableFrom}
use Rattle.writer_store.proofs.Puts.{length_puts}
use Rattle.writer_ends.proofs.EndLaws.{end_near, end_far, end_as, puts_stored}

-- ---- ends are turned round: i in front and from j on they are, those between are as they were

-- the ends stand inside
pub record Standing (top count : ℕ) (l s : List ℕ) : Type 0 where
  pub inside : 2 * (top + count - 128) ≤ length l
  pub ready : 128 ≤ length s

pub record TurnLeft (top count : ℕ) (l₀ s₀ : List ℕ) (i : ℕ) (l s : List ℕ) : Type 0 where
  pub order : i + i ≤ count
  pub same : length l ≡ length l₀
  pub sames : length s ≡ length s₀
  pub left : Standing top count l₀ s₀ → (k : ℕ) → k < i → end_at l s (top + k) ≡ end_at l₀ s₀ (top + (count - 1 - k))
  pub right : Standing top count l₀ s₀ → (k : ℕ) → count ≤ i + k → k < count → end_at l s (top + k) ≡ end_at l₀ s₀ (top + (count - 1 - k))
  pub middle : Standing top count l₀ s₀ → (k : ℕ) → i ≤ k → i + k < count → end_at l s (top + k) ≡ end_at l₀ s₀ (top + k)
  pub below : Standing top count l₀ s₀ → (k : ℕ) → k < top → end_at l s k ≡ end_at l₀ s₀ k
  pub front : Standing top count l₀ s₀ → (place : ℕ) → place + 2 * (top + count - 128) ≤ length l₀ → take place l ≡ take place l₀

-- both in the tail, where their bytes are exchanged
module _ (i j at to : ℕ) (l s : List ℕ) (h : 128 ≤ i) (g : i < j) (t : tail j ≤ length l) (ha : at ≡ length l - tail i) (ht : to ≡ length l - tail j) where
  module _ (l₁ l₂ : List ℕ) (n : length l₁ ≡ length l) (m : length l₂ ≡ length l₁) (p : SwappedAt l l₁ at to) (q : SwappedAt l₁ l₂ (at + 1) (to + 1)) where
    kept : (k : ℕ) → (k ≡ at → ⊥) → (k ≡ to → ⊥) → (k ≡ at + 1 → ⊥) → (k ≡ to + 1 → ⊥) → get_or l₂ k 0 ≡ get_or l k 0
    kept k a b c d = q.2 k 0 c d ∙ p.2 k 0 a b

    pub swapped_far : Swapped i j l l₂ s s
    swapped_far =
        let whole : length l₂ ≡ length l = m ∙ n in
        let a : get_or l₂ at 0 ≡ get_or l to 0 = q.2 at 0 (λ e. omega arith) (λ e. omega arith) ∙ p.0 0 in
        let b : get_or l₂ (at + 1) 0 ≡ get_or l (to + 1) 0 = q.0 0 ∙ p.2 (to + 1) 0 (λ e. omega arith) (λ e. omega arith) in
        let c : get_or l₂ to 0 ≡ get_or l at 0 = q.2 to 0 (λ e. omega arith) (λ e. omega arith) ∙ p.1 0 in
        let d : get_or l₂ (to + 1) 0 ≡ get_or l (at + 1) 0 = q.1 0 ∙ p.2 (at + 1) 0 (λ e. omega arith) (λ e. omega arith) in
        record {
          first = λ _ r. end_far l₂ s i h ∙ rw (whole, ← ha, a, b, ht) (sym (end_far l s j (omega arith)));
          last = λ _ r. end_far l₂ s j (omega arith) ∙ rw (whole, ← ht, c, d, ha) (sym (end_far l s i h));
          others = λ _ k u v w. end_as l l₂ s k whole (λ z. (kept _ (λ e. omega arith) (λ e. omega arith) (λ e. omega arith) (λ e. omega arith), kept _ (λ e. omega arith) (λ e. omega arith) (λ e. omega arith) (λ e. omega arith)));
          front = λ _ place y.
              ap (take place) (q.3 0) ∙ take-set-le place (set l₁ (at + 1) (get_or l₁ (to + 1) 0)) (to + 1) (get_or l₁ (at + 1) 0) (omega arith) ∙ take-set-le place l₁ (at + 1) (get_or l₁ (to + 1) 0) (omega arith)
              ∙ ap (take place) (p.3 0) ∙ take-set-le place (set l at (get_or l to 0)) to (get_or l at 0) (omega arith) ∙ take-set-le place l at (get_or l to 0) (omega arith);
        }

-- ---- a table is stored from the back: j ends are still to be stored

-- what is stored already, and the ends that are still to come
pub record BackStored (w at top : ℕ) (l₀ s : List ℕ) (j place : ℕ) (l es : List ℕ) : Type 0 where
  pub bytes_are : take place l ≡ take at l₀ ++ back_table w (drop j es)
  pub same : (i : ℕ) → i < top + j → end_at l s i ≡ end_at l₀ s i

pub record BackLeft (w at top count : ℕ) (l₀ s : List ℕ) (j place : ℕ) (l : List ℕ) : Type 0 where
  pub few : j ≤ count
  pub near : place + 4 * j ≤ at + 4 * count
  pub same : length l ≡ length l₀
  pub place_is : place + j * w ≡ at + count * w
  pub stored : (es : List ℕ) → TableRoom l₀ s at w top count es → BackStored w at top l₀ s j place l es

pub back_begin : (w at top count : ℕ) (l s : List ℕ) → BackLeft w at top count l s count at l
unfolding back_table
back_begin w at top count l s = record {
  few = omega arith;
  near = omega arith;
  same = refl;
  place_is = refl;
  stored = λ es q. record { bytes_are = let e : drop count es ≡ [] = (let z : length es ≡ count = q.many in rw (← z) (drop-length es)) in rw e (sym (append-nil (take at l))); same = λ i h. refl };
}

module _ {w at top count : ℕ} {l₀ s : List ℕ} {j place : ℕ} {l : List ℕ} (b : BackLeft w at top count l₀ s j place l) where
  module _ (j' x : ℕ) (l' : List ℕ) (h : 0 < j) (hj : j' ≡ j - 1) (a : EndAt (top + j') l s x) (e : l' ≡ puts l place (bytes w x)) where
    product : j * w ≡ w + j' * w
    product = let z : j ≡ suc j' = omega arith in rw z (omega arith)

    module _ (es : List ℕ) (q : TableRoom l₀ s at w top count es) where
      narrow : w ≤ 2
      narrow = q.narrow (omega (arith, b.few))

      fits : place + length (bytes w x) + 2 * (top + j' - 128) ≤ length l
      fits =
          let n = length_bytes w x in
          let z : count ≡ j + (count - j) = omega (arith, b.few) in
          let y : count * w ≡ j * w + (count - j) * w = ap (λ (k : ℕ). k * w) z ∙ add-mul j (count - j) w in
          let v : (count - j) * w ≤ (count - j) * 2 = mul-le-mul_left (count - j) narrow in
          omega (arith, n, y, v, product, b.place_is, b.same, q.before, q.behind, narrow)

      one : Stored l s l' s place (bytes w x) (top + j') []
      one = puts_stored l s place (bytes w x) (top + j') fits l' e

      next_is : x ≡ get_or es j' 0
      next_is = a.is (omega (arith, q.before, b.same, b.few)) q.ready ∙ (b.stored es q).same (top + j') (omega arith) ∙ q.has j' (omega (arith, q.many, b.few))

      pub back_stored : BackStored w at top l₀ s j' (place + w) l' es
      back_stored =
          let u = b.stored es q in
          let z : j ≡ suc j' = omega arith in
          let n : place + length (bytes w x) ≡ place + w = ap (λ (k : ℕ). place + k) (length_bytes w x) in
          let d : drop j' es ≡ get_or es j' 0 ∷ drop j es = rw z (drop-cons es j' 0 (omega (arith, q.many, b.few))) in
          let y : take (place + w) l' ≡ take place l ++ bytes w x = rw n at one.bytes_are in
          record {
            bytes_are = y ∙ rw (u.bytes_are, d, ← next_is, back_table_cons w x (drop j es)) (append_assoc (take at l₀) (back_table w (drop j es)) (bytes w x));
            same = λ i g. one.same i g ∙ u.same i (omega arith);
          }

    pub back_next : w ≤ 4 → BackLeft w at top count l₀ s j' (place + w) l'
    back_next g = record {
      few = omega (arith, b.few);
      near = omega (arith, b.near);
      same = ap length e ∙ length_puts (bytes w x) l place ∙ b.same;
      place_is = omega (arith, b.place_is, product);
      stored = λ es q. back_stored es q;
    }

  pub back_done : (0 < j → ⊥) → TableFrom (back_table w) at w top count l₀ l s s
  back_done h = record {
    stored = λ es q.
        let u = b.stored es q in
        let z : j ≡ 0 = omega arith in
        let n : at + length (back_table w es) ≡ place = omega (arith, length_back_table w es, ap (λ (k : ℕ). k * w) q.many, b.place_is, ap (λ (k : ℕ). k * w) z) in
        record {
          bytes_are = rw n (u.bytes_are ∙ rw z);
          same = λ i g. u.same i (omega arith);
          has = λ i g. absurd (omega arith);
        };
  }

-- ---- in order, where all stand in their slice: j ends are stored

table_one : (w e : ℕ) → table w (e ∷ []) ≡ bytes w e
unfolding table
table_one w e = append-nil (bytes w e)

pub record FrontLeft (w at top count : ℕ) (l₀ s : List ℕ) (j place : ℕ) (l : List ℕ) : Type 0 where
  pub few : j ≤ count
  pub near : place ≤ at + 4 * j
  pub same : length l ≡ length l₀
  pub place_is : place ≡ at + j * w
  pub stored : (es : List ℕ) → TableRoom l₀ s at w top count es → take place l ≡ take at l₀ ++ table w (take j es)

pub front_begin : (w at top count : ℕ) (l s : List ℕ) → FrontLeft w at top count l s 0 at l
unfolding table
front_begin w at top count l s = record { few = omega arith; near = omega arith; same = refl; place_is = omega arith; stored = λ es q. sym (append-nil (take at l)) }

module _ {w at top count : ℕ} {l₀ s : List ℕ} {j place : ℕ} {l : List ℕ} (b : FrontLeft w at top count l₀ s j place l) (near : top + count ≤ 128) where
  module _ (x : ℕ) (l' : List ℕ) (h : j < count) (a : x ≡ get_or s (top + j) 0) (e : l' ≡ puts l place (bytes w x)) where
    module _ (es : List ℕ) (q : TableRoom l₀ s at w top count es) where
      front_inside : place + length (bytes w x) + 2 * (0 - 128) ≤ length l
      front_inside = let n = length_bytes w x in let v : (j + 1) * w ≤ count * w = mul-le-mul_right w (omega arith) in omega (arith, n, v, add-mul j 1 w, b.place_is, b.same, q.behind)

      front_is : x ≡ get_or es j 0
      front_is = a ∙ sym (end_near l₀ s (top + j) (omega arith)) ∙ q.has j (omega (arith, q.many))

      front_stored : take (place + w) l' ≡ take at l₀ ++ table w (take (j + 1) es)
      front_stored =
          let n : place + length (bytes w x) ≡ place + w = ap (λ (k : ℕ). place + k) (length_bytes w x) in
          let y : take (place + w) l' ≡ take place l ++ bytes w x = rw n at (puts_stored l s place (bytes w x) 0 front_inside l' e).bytes_are in
          let z : j < length es = omega (arith, q.many) in
          y ∙ rw (b.stored es q, add-one j, take-suc es j 0 z, table_append w (take j es) (get_or es j 0 ∷ []), table_one w (get_or es j 0), ← front_is) (append_assoc (take at l₀) (table w (take j es)) (bytes w x))

    pub front_next : w ≤ 4 → FrontLeft w at top count l₀ s (j + 1) (place + w) l'
    front_next g = record {
      few = omega arith;
      near = omega (arith, b.near);
      same = ap length e ∙ length_puts (bytes w x) l place ∙ b.same;
      place_is = omega (arith, b.place_is, add-mul j 1 w);
      stored = λ es q. front_stored es q;
    }

  pub front_done : (j < count → ⊥) → TableFrom (table w) at w top count l₀ l s s
  front_done h = record {
    stored = λ es q.
        let z : j ≡ length es = omega (arith, q.many, b.few) in
        let n : at + length (table w es) ≡ place = omega (arith, length_table w es, b.place_is, ap (λ (k : ℕ). k * w) z) in
        record {
          bytes_are = rw n (b.stored es q ∙ rw (z, take-length es));
          same = λ i g. end_near l s i (omega arith) ∙ sym (end_near l₀ s i (omega arith));
          has = λ i g. absurd (omega arith);
        };
  }

-- ---- in order: turned round, and from the back

reverse_at : (es : List ℕ) (i : ℕ) → i < length es → get_or (reverse es) i 0 ≡ get_or es (length es - 1 - i) 0
reverse_at [] i h = absurd (omega arith)
reverse_at (e ∷ es) i h = rw (reverse-cons e es) (go (dec_lt i (length es)) (λ g. reverse_at es i g))
  where
    go : Dec (i < length es) → (i < length es → get_or (reverse es) i 0 ≡ get_or es (length es - 1 - i) 0) → get_or (reverse es ++ (e ∷ [])) i 0 ≡ get_or (e ∷ es) (suc (length es) - 1 - i) 0
    go (yes g) ih =
        let z : suc (length es) - 1 - i ≡ suc (length es - 1 - i) = omega arith in
        get_or-append (reverse es) (e ∷ []) 0 i (omega (arith, length-reverse es)) ∙ ih g ∙ rw z
    go (no g) ih =
        let z : suc (length es) - 1 - i ≡ 0 = omega arith in
        rw z (get_or_at (reverse es) e [] 0 i (omega (arith, length-reverse es)))

pub table_turned : {w at top count : ℕ} {l l₁ l₂ s s₁ : List ℕ} → Turned top count l l₁ s s₁ → length l₁ ≡ length l → length s₁ ≡ length s → TableFrom (back_table w) at w top count l₁ l₂ s₁ s₁ → TableFrom (table w) at w top count l l₂ s s₁
table_turned {w} {at} {top} {count} {l} {l₁} {l₂} {s} {s₁} t n m f = record { stored = λ es q. by es q (f.stored (reverse es) (turned_room es q)) }
  where
    turned_room : (es : List ℕ) → TableRoom l s at w top count es → TableRoom l₁ s₁ at w top count (reverse es)
    turned_room es q = record {
      many = length-reverse es ∙ q.many;
      has = λ i g.
          let h : i < length es = omega (arith, length-reverse es) in
          let z : length es - 1 - i ≡ count - 1 - i = omega (arith, q.many) in
          t.each (omega (arith, q.before)) q.ready i (omega (arith, q.many)) ∙ q.has (count - 1 - i) (omega (arith, q.many)) ∙ sym (reverse_at es i h ∙ ap (λ (k : ℕ). get_or es k 0) z);
      before = omega (arith, q.before);
      behind = omega (arith, q.behind);
      narrow = q.narrow;
      ready = omega (arith, q.ready);
    }

    by : (es : List ℕ) → TableRoom l s at w top count es → Stored l₁ s₁ l₂ s₁ at (back_table w (reverse es)) top [] → Stored l s l₂ s₁ at (table w es) top []
    by es q u = record {
      bytes_are = rw (← back_table_reverse w es) (u.bytes_are ∙ rw (t.front (omega (arith, q.before)) q.ready at q.before));
      same = λ i g. u.same i g ∙ t.below (omega (arith, q.before)) q.ready i g;
      has = λ i g. absurd (omega arith);
    }
