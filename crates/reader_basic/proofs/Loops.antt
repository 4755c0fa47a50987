-- What the loops over elements keep: elements that are fixed, and elements up to the ends of a table. Assumes nothing.
use mathlib.Core.Path.{◌≡◌, refl, ap, ◌∙◌}
use mathlib.Core.List.{List, [], ◌∷◌, append_assoc}
use mathlib.Core.Bool.{Bool, true, false, ◌&&◌, false≢true}
use Prim.Native.Nat.{ℕ, zero, suc, ◌+◌, ◌-◌, ◌*◌, ◌%◌, ◌≤◌, ◌<◌}
use native.Mathlib.Omega.{arith}
use native.Mathlib.Numerals.{add-one}
use native.Mathlib.Nat.{add_assoc, suc-mul, mul-le-mul_right, div-mul-le_self}
use lib.Dec.{leb, eqb}
use lib.ListN.{length, drop, get_or, drop_of_length-le}
use lib.Seq.{drop-cons}
use borrow.Author.Tests.{leb-true, le-leb, lt-leb}
use Rattle.meaning.specs.Choice.{pick}
use Rattle.meaning.specs.Offsets.{Table, none_above, table_from, table_of, ends_of, table_stands}
use Rattle.meaning.specs.Outcome.{Outcome, done, chain, passing}
use Rattle.meaning.specs.Reading.{further, elements, elements_to}
use Rattle.meaning.proofs.OffsetLaws.{encoded_width_positive}
use Rattle.framing_offsets.specs.Tables.{table_in, empty_table, EncodedArray, Encoded, offset_in}
use Rattle.utils.specs.Checks as leafs
use Rattle.reader_basic.specs.Answers.{Done}
use Rattle.reader_basic.specs.Parts.{Stands}
use Rattle.meaning.specs.Calls.{Counts}
use Rattle.reader_basic.proofs.Answers.{answer, plain, stopped, ended}
use Rattle.reader_basic.proofs.Rests.{Rest, rest_all, rest_on, rest_as, rest_chain, rest_end}
use Rattle.events.proofs.SliceLaws.{length_put_all}

pub kept : {o : Outcome} {end len n : ℕ} {l l' : List ℕ} {r : Counts} → Done o end len n l l' r → length l' ≡ length l
kept {o} {n = n} {l = l} d = ap length d.slice ∙ length_put_all o.events l n

-- ---- elements that are fixed

module _ (step : ℕ → ℕ → Outcome) (part : List ℕ) (lead n : ℕ) (l : List ℕ) where
  abbrev all : Outcome
  all = elements (length part) step (length part) lead

  -- what is left after u bytes
  pub record ElementsLeft (u count : ℕ) (out : List ℕ) : Type 0 where
    pub bound : lead + u ≤ length part
    pub same : length out ≡ length l
    pub more : ℕ
    pub enough : length part - (lead + u) ≤ more
    pub rest : Rest all (length part - lead) (length part - lead) n l u (elements more step (length part) (lead + u)) (length part - (lead + u)) (length part - (lead + u)) count out

  pub elements_begin : lead ≤ length part → ElementsLeft 0 n l
  elements_begin h = record {
    bound = omega arith;
    same = refl;
    more = length part;
    enough = omega arith;
    rest = (let e : lead + 0 ≡ lead = omega arith in rw e (rest_all all (length part - lead) (length part - lead) n l));
  }

  pub elements_none : (k j : ℕ) → length part ≤ j → elements k step (length part) j ≡ done 0 []
  unfolding elements
  elements_none zero j h = rw (le-leb (length part) j h)
  elements_none (suc k) j h = rw (le-leb (length part) j h)

  pub elements_more : (k j : ℕ) → j < length part → length part - j ≤ k → elements k step (length part) j ≡ chain (step j (length part)) (further (elements (k - 1) step (length part)) j)
  unfolding elements
  elements_more zero j h g = absurd (omega arith)
  elements_more (suc k) j h g = let e : suc k - 1 ≡ k = omega arith in rw (lt-leb (length part) j h, e)

  module _ (u count : ℕ) (out : List ℕ) (i : ElementsLeft u count out) where
    pub elements_end : length part ≤ lead + u → Done all (length part - lead) (length part - lead) n l out (answer 0 u count)
    elements_end h = rest_end i.rest (rw (elements_none i.more (lead + u) h) (plain 0 _ _ count out (omega arith) (omega arith)))

    module _ (h : lead + u < length part) (r : Counts) (out' : List ℕ) (d : Done (step (lead + u) (length part)) (length part - (lead + u)) (length part - (lead + u)) count out out' r) where
      pub elements_stop : (r.refusal ≡ 0 → ⊥) → Done all (length part - lead) (length part - lead) n l out' (answer r.refusal (u + r.used) r.count)
      elements_stop z = i.rest.whole out' r (rw (elements_more i.more (lead + u) h i.enough) (stopped _ _ _ _ count out out' _ _ r z (omega arith) d))

      pub elements_next : r.refusal ≡ 0 → 0 < r.used → ElementsLeft (u + r.used) r.count out'
      elements_next z p =
          let f = d.fits in
          let g : lead + u + r.used ≡ lead + (u + r.used) = omega arith in
          let en = i.enough in
          record {
            bound = omega arith;
            same = kept d ∙ i.same;
            more = i.more - 1;
            enough = omega arith;
            rest = rw (← g) (rest_on i.rest (rest_as (elements_more i.more (lead + u) h i.enough)
                (rest_chain _ _ (length part - (lead + u + r.used)) _ _ (length part - (lead + u + r.used)) count out out' _ (further (elements (i.more - 1) step (length part)) (lead + u)) r z (omega arith) (omega arith) d)));
          }

-- ---- elements that are not fixed, and then the table

-- what is passed behind a chain is passed behind what goes on
abbrev then : (ℕ → Outcome) → ℕ → ℕ → Outcome
then f t u = chain (f u) (passing t)

chain_passing : (o : Outcome) (f : ℕ → Outcome) (t : ℕ) → chain (chain o f) (passing t) ≡ chain o (then f t)
unfolding chain
chain_passing o f t = go (eqb o.refusal 0) (eqb (f o.used).refusal 0) refl refl
  where
    go : (x y : Bool) → eqb o.refusal 0 ≡ x → eqb (f o.used).refusal 0 ≡ y → chain (chain o f) (passing t) ≡ chain o (then f t)
    go true true p q = rw (p, q) (rw (add_assoc o.used (f o.used).used t, append_assoc o.events (f o.used).events []))
    go true false p q = rw (p, q)
    go false y p q = rw p (rw p)

module _ (step : ℕ → ℕ → Outcome) (part : List ℕ) (lead b n : ℕ) (l ends : List ℕ) where
  abbrev these : Outcome
  these = chain (elements_to step lead ends lead) (passing (length part - b))

  -- what is left after u bytes and i elements
  pub record FramedLeft (i u count : ℕ) (out : List ℕ) : Type 0 where
    pub bound : lead + u ≤ b
    pub same : length out ≡ length l
    pub index : i ≤ length ends
    pub rest : Rest these (length part - lead) (length part - lead) n l u (chain (elements_to step lead (drop i ends) (lead + u)) (passing (length part - b))) (length part - (lead + u)) (length part - (lead + u)) count out

  pub framed_begin : lead ≤ b → FramedLeft 0 0 n l
  framed_begin h = record {
    bound = omega arith;
    same = refl;
    index = omega arith;
    rest = (let e : lead + 0 ≡ lead = omega arith in rw e (rest_all these (length part - lead) (length part - lead) n l));
  }

  to_none : (i j : ℕ) → length ends ≤ i → elements_to step lead (drop i ends) j ≡ done 0 []
  to_none i j h = let e : drop i ends ≡ [] = drop_of_length-le ends h in rw e (unfold elements_to in refl)

  to_more : (i j : ℕ) → i < length ends → elements_to step lead (drop i ends) j ≡ chain (step j (lead + get_or ends i 0)) (further (elements_to step lead (drop (i + 1) ends)) j)
  unfolding elements_to
  to_more i j h = rw (add-one, drop-cons ends i 0 h)

  module _ (i u count : ℕ) (out : List ℕ) (v : FramedLeft i u count out) (hb : b ≤ length part) where
    pub framed_end : length ends ≤ i → Done these (length part - lead) (length part - lead) n l out (answer 0 (u + (length part - b)) count)
    framed_end h =
        let w = v.bound in
        v.rest.whole out (answer 0 (length part - b) count)
        (rw (to_none i (lead + u) h) (ended _ 0 _ 0 count (length part - b) (length part - b) out out (done 0 []) (passing (length part - b)) (answer 0 0 count) refl refl (omega arith) (omega arith) (omega arith) (plain 0 0 0 count out (omega arith) (omega arith))))

    module _ (h : i < length ends) (r : Counts) (out' : List ℕ) (below : get_or ends i 0 ≤ b - lead)
        (d : Done (step (lead + u) (lead + get_or ends i 0)) (lead + get_or ends i 0 - (lead + u)) (length part - (lead + u)) count out out' r) where
      left : chain (elements_to step lead (drop i ends) (lead + u)) (passing (length part - b)) ≡ chain (step (lead + u) (lead + get_or ends i 0)) (then (further (elements_to step lead (drop (i + 1) ends)) (lead + u)) (length part - b))
      left = rw (to_more i (lead + u) h) (chain_passing (step (lead + u) (lead + get_or ends i 0)) (further (elements_to step lead (drop (i + 1) ends)) (lead + u)) (length part - b))

      pub framed_stop : (r.refusal ≡ 0 → ⊥) → Done these (length part - lead) (length part - lead) n l out' (answer r.refusal (u + r.used) r.count)
      framed_stop z = v.rest.whole out' r (rw left (stopped _ _ _ _ count out out' _ _ r z (omega arith) d))

      pub framed_next : r.refusal ≡ 0 → FramedLeft (i + 1) (u + r.used) r.count out'
      framed_next z =
          let f = d.ends z in
          let w = v.bound in
          let g : lead + u + r.used ≡ lead + (u + r.used) = omega arith in
          record {
            bound = omega arith;
            same = kept d ∙ v.same;
            index = omega arith;
            rest = rw (← g) (rest_on v.rest (rest_as left
                (rest_chain _ _ (length part - (lead + u + r.used)) _ _ (length part - (lead + u + r.used)) count out out' _ (then (further (elements_to step lead (drop (i + 1) ends)) (lead + u)) (length part - b)) r z (omega arith) (omega arith) d)));
          }

-- ---- what the loops ask

-- a table that was found stands
standing : (l : List ℕ) → table_stands (table_of l) l ≡ true → Stands (table_of l) l
unfolding table_of table_from table_stands
standing l h = go (leb (table_of l).start (length l)) (eqb ((length l - (table_of l).start) % (table_of l).width) 0) (none_above (table_of l).start (ends_of (table_of l) l)) refl refl h
  where
    go : (x y z : Bool) → leb (table_of l).start (length l) ≡ x → none_above (table_of l).start (ends_of (table_of l) l) ≡ z → (x && (y && z)) ≡ true → Stands (table_of l) l
    go true true true p q a = record { start = leb-true _ _ p; count = refl; width = encoded_width_positive (length l); below = q }
    go true true false p q a = absurd (false≢true a)
    go true false z p q a = absurd (false≢true a)
    go false y z p q a = absurd (false≢true a)

pub stands_by : (l : List ℕ) (e : EncodedArray) → Encoded l e → e.refusal ≡ 0 → Stands (table_in e.offsets) l
stands_by l e t y = go (table_stands (table_of l) l) refl
  where
    go : (b : Bool) → table_stands (table_of l) l ≡ b → Stands (table_in e.offsets) l
    go true q = rw (t.table ∙ ap (λ (x : Bool). pick x (table_of l) empty_table) q) (standing l q)
    go false q = let w : e.refusal ≡ 3 = t.refusal ∙ ap (λ (x : Bool). pick x 0 3) q in absurd (omega arith)

none_above_lem : (n : ℕ) (es : List ℕ) → none_above n es ≡ true → (i : ℕ) → get_or es i 0 ≤ n
unfolding none_above
none_above_lem n [] h i = omega arith
none_above_lem n (e ∷ es) h i = go (leb e n) (none_above n es) refl refl h i (λ a. none_above_lem n es a)
  where
    go : (x y : Bool) → leb e n ≡ x → none_above n es ≡ y → (x && y) ≡ true → (i : ℕ) → (none_above n es ≡ true → (j : ℕ) → get_or es j 0 ≤ n) → get_or (e ∷ es) i 0 ≤ n
    go true true p q a zero f = leb-true e n p
    go true true p q a (suc i) f = f q i
    go true false p q a i f = absurd (false≢true a)
    go false y p q a i f = absurd (false≢true a)

-- what a table gives where it stands
module _ {t : Table} {l : List ℕ} (s : Stands t l) (i : ℕ) where
  pub ends_below : get_or (ends_of t l) i 0 ≤ t.start
  ends_below = none_above_lem t.start (ends_of t l) s.below i

  pub next_end : (r : leafs.Checked) → i < t.count → r ≡ offset_in t i l → r.value ≡ get_or (ends_of t l) i 0
  unfolding offset_in
  next_end r h q =
      let c = s.count in
      let b = s.start in
      let m = mul-le-mul_right t.width h in
      let a : t.start + i * t.width + t.width ≤ length l = omega (arith, div-mul-le_self (length l - t.start) t.width, suc-mul i t.width, ap (λ (x : ℕ). x * t.width) c) in
      ap (λ x. x.value) q ∙ rw (lt-leb t.count i h, le-leb (t.start + i * t.width + t.width) (length l) a)
