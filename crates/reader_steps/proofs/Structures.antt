-- A law for each way out of the readers of a structure and its fields, and what the loop over them keeps. Assumes nothing.
use Rattle.std.proofs.Common.{◌≡◌, ℕ, zero, suc, ◌+◌, ◌-◌, ◌^◌, ◌<◌, ◌≤◌, Bool, true, false, ◌&&◌, ◌||◌, eqb, leb, List, [], ◌∷◌, length, get_or, take, drop, sym, refl, ap, ◌∙◌, append-nil, add-zero, add_assoc, arith, get_or-drop, eqb-true, leb-false, leb-true}
use mathlib.Core.Path.{subst⁻¹}
use Rattle.meaning.specs.Choice.{pick}
use Rattle.meaning.specs.Depths as Depth
use Rattle.meaning.specs.Depths.{Depths}
use Rattle.meaning.specs.Numbers.{value}
use Rattle.meaning.specs.Offsets.{encoded_width}
use Rattle.meaning.specs.Events.{event, opening}
use Rattle.meaning.specs.Types.{Tree, Fields, last, next, fixed, all_fixed, largest_alignment}
use Rattle.meaning.specs.Outcome.{Outcome, done, refused, after, chain, passing, closing_at, enclosed}
use Rattle.meaning.specs.Reading.{child, further, end_padding, offset_stands, field_offset, fields_in, read_tree, read_variant, reading, structure_body, structure_in}
use Rattle.meaning.proofs.OffsetLaws.{encoded_width_1, encoded_width_2, encoded_width_4}
use Rattle.utils.specs.Checks as leaf
use Rattle.signature.specs.Places.{letter_at}
use Rattle.signature.specs.Shapes.{Shaped, shape_in}
use Rattle.signature.specs.declared.Letter.TheVariants.{End, OpenStructure, CloseStructure}
use Rattle.signature.specs.Trees.{tree_at, fields_at, Rowed, Described}
use Rattle.signature.specs.declared.shapes.Shape.{Shape}
use Rattle.signature.proofs.Letters.{letter_end}
use Rattle.signature.proofs.TreeLaws.{LastField, NextField, last_field_of, next_field_of, structure_tree, structure_fixed, structure_alignment}
use Rattle.events.specs.Slices.{next_event, put}
use Rattle.reader_basic.specs.Answers.{Done, From, Between}
use Rattle.reader_steps.specs.Openings.{Inner, Deeper, Opens}
use Rattle.reader_steps.specs.Children.{Ends, ends_at, ends_missing, field_ends}
use Rattle.reader_steps.specs.Places.{reader_of, readers_of, body_in, inside_of, fields_of}
use Rattle.reader_basic.specs.Parts.{offset_answer}
use Rattle.meaning.specs.Calls.{Counts}
use Rattle.reader_basic.specs.declared.Context.{Context}
use Rattle.reader_basic.proofs.Answers.{answer, refusing, stopped, after_event}
use Rattle.reader_basic.proofs.Rests.{Rest, rest_all, rest_on, rest_as, rest_chain, rest_end}
use Rattle.reader_steps.proofs.Characters.{code_close, mark_code, rowed_typed, typed_within}
use Rattle.reader_steps.proofs.Entries.{child_ordered, Padded, Passed}
use Rattle.reader_steps.proofs.Deepening.{told, too_deep, within_open}
use Rattle.reader_basic.proofs.Loops.{kept}

-- ---- the readers of fields

reader_is : (position : ℕ) (big : Bool) (nested : ℕ) (t : Tree) → nested ≤ 64
    → read_tree position big (read_variant position (λ u. reading position big (64 - nested) u)) t ≡ reader_of position big nested t
unfolding reading
reader_is position big nested t h = let e : 65 - nested ≡ suc (64 - nested) = omega arith in rw e

module _ (position : ℕ) (big : Bool) (nested : ℕ) (h : nested ≤ 64) (fx : Bool) (a place : ℕ) (part : List ℕ) (lead w : ℕ) (d : Depths) where
  last_is : (t : Tree) (end j : ℕ) → fields_in position fx a place part lead w d (readers_of position big nested (last t)) end j
      ≡ chain (end_padding position fx a place part j (child (reader_of position big nested t d) place part j end)) (passing (length part - end))
  unfolding fields_in read_tree
  last_is t end j = rw (← reader_is position big nested t h)

  next_is : (t : Tree) (ts : Fields) (end j : ℕ) → fields_in position fx a place part lead w d (readers_of position big nested (next t ts)) end j
      ≡ pick (fixed t) (chain (child (reader_of position big nested t d) place part j end) (further (fields_in position fx a place part lead w d (readers_of position big nested ts) end) j))
      (pick (offset_stands lead w end)
      (chain (child (reader_of position big nested t d) place part j (lead + field_offset lead w end part)) (further (fields_in position fx a place part lead w d (readers_of position big nested ts) (end - w)) j))
      (refused 3 (place + lead)))
  unfolding fields_in read_tree
  next_is t (last u) end j = rw (← reader_is position big nested t h)
  next_is t (next u us) end j = rw (← reader_is position big nested t h)

-- ---- behind the last field

-- nothing is passed
pass_none : (o : Outcome) (end len n : ℕ) (l l' : List ℕ) (r : Counts) (k : ℕ) → k ≡ 0 → Done o end len n l l' r → Done (chain o (passing k)) end len n l l' r
unfolding chain
pass_none o end len n l l' r k e d = go (eqb o.refusal 0) refl
  where
    go : (b : Bool) → eqb o.refusal 0 ≡ b → Done (pick b (after o.used o.events (done k [])) o) end len n l l' r
    go true q = record {
      refusal = d.refusal ∙ eqb-true o.refusal 0 q;
      used = omega (arith, d.used);
      fits = d.fits;
      ends = d.ends;
      count = rw (append-nil o.events) d.count;
      slice = rw (append-nil o.events) d.slice;
    }
    go false q = d

-- the structure is fixed: padding; or it is not: the table, which the last field ends before
module _ (read : ℕ → List ℕ → Outcome) (position : ℕ) (fx : Bool) (a place : ℕ) (part : List ℕ) (j end n : ℕ) (l l' : List ℕ) (r s : Counts)
    (c : Between (child read place part j end) part j end n l l' r) where
  pub closed_by_padding : fx ≡ true → end ≡ length part → Padded position a place part j r s
      → From (chain (end_padding position fx a place part j (child read place part j end)) (passing (length part - end))) part j n l l' s
  closed_by_padding h i p =
      rw h
      (pass_none (end_padding position true a place part j (child read place part j end)) (length part - j) (length part - j) n l l' s (length part - end) (omega arith)
      (p (child read place part j end) (end - j) (length part - j) n l l' refl c))

  pub closed_by_table : fx ≡ false → end ≤ length part → Passed r (length part - end) s
      → From (chain (end_padding position fx a place part j (child read place part j end)) (passing (length part - end))) part j n l l' s
  unfolding end_padding
  closed_by_table h i p =
      rw h (p (child read place part j end) (length part - j) (end - j) (length part - j) n l l' (λ z. let g = child_ordered read place part j end c z in let f = c.ends z in omega arith) (omega arith) c)

-- ---- the loop over fields

-- of the whole, u bytes and the fields in front of place i of the text are passed, and the table ends at an end
pub record FieldsLeft (position : ℕ) (big : Bool) (nested : ℕ) (text : List ℕ) (at : ℕ) (fx : Bool) (a place : ℕ) (part : List ℕ) (lead w : ℕ) (d : Depths) (n : ℕ) (l : List ℕ)
    (i end u m : ℕ) (l₁ : List ℕ) : Type 0 where
  pub rowed : Rowed text i
  pub all : fx ≡ true → all_fixed (fields_at text i) ≡ true
  pub whole : fx ≡ true → end ≡ length part
  pub inside : end ≤ length part
  pub within : lead + u ≤ length part
  pub kept : length l₁ ≡ length l
  pub rest : Rest (fields_in position fx a place part lead w d (readers_of position big nested (fields_at text at)) (length part) lead) (length part - lead) (length part - lead) n l u
      (fields_in position fx a place part lead w d (readers_of position big nested (fields_at text i)) end (lead + u)) (length part - (lead + u)) (length part - (lead + u)) m l₁

-- the next field is read from a place to a stop, and then the others, with the table up to another end
pub record Turn (position : ℕ) (big : Bool) (nested : ℕ) (text : List ℕ) (fx : Bool) (a place : ℕ) (part : List ℕ) (lead w : ℕ) (d : Depths) (i end j : ℕ) (f : Shape) (stop end' : ℕ) : Type 0 where
  pub is : fields_in position fx a place part lead w d (readers_of position big nested (fields_at text i)) end j
      ≡ chain (child (reader_of position big nested (tree_at text f.at) d) place part j stop) (further (fields_in position fx a place part lead w d (readers_of position big nested (fields_at text f.next)) end') j)
  pub whole : fx ≡ true → end' ≡ length part
  pub inside : end' ≤ length part

pub fields_begin : (position : ℕ) (big : Bool) (nested : ℕ) (text : List ℕ) (at : ℕ) (fx : Bool) (a place : ℕ) (part : List ℕ) (lead w : ℕ) (d : Depths) (n : ℕ) (l : List ℕ)
    → Rowed text at → fx ≡ all_fixed (fields_at text at) → lead ≤ length part → FieldsLeft position big nested text at fx a place part lead w d n l at (length part) 0 n l
fields_begin position big nested text at fx a place part lead w d n l g e h = record {
  rowed = g;
  all = λ z. sym e ∙ z;
  whole = λ z. refl;
  inside = omega arith;
  within = omega arith;
  kept = refl;
  rest = rw (add-zero lead) (rest_all _ _ _ _ _);
}

-- an offset that stands, and one that does not
pub record OffsetThere (lead w end : ℕ) (part : List ℕ) (o : leaf.Checked) : Type 0 where
  pub stands : offset_stands lead w end ≡ true
  pub is : o.value ≡ field_offset lead w end part
  pub start : lead ≤ end
  pub room : w ≤ end

module _ (lead w end : ℕ) (part : List ℕ) (o : leaf.Checked) (q : o ≡ offset_answer lead w end part) where
  pub offset_missing : (o.refusal ≡ 0 → ⊥) → offset_stands lead w end ≡ false
  unfolding offset_answer
  offset_missing z = go (offset_stands lead w end) (ap (λ x. x.refusal) q)
    where
      go : (b : Bool) → o.refusal ≡ (pick b (leaf.passed (field_offset lead w end part)) (leaf.failed 3)).refusal → b ≡ false
      go true e = absurd (z e)
      go false e = refl

  pub offset_three : (o.refusal ≡ 0 → ⊥) → o.refusal ≡ 3
  unfolding offset_answer
  offset_three z = go (offset_stands lead w end) (ap (λ x. x.refusal) q)
    where
      go : (b : Bool) → o.refusal ≡ (pick b (leaf.passed (field_offset lead w end part)) (leaf.failed 3)).refusal → o.refusal ≡ 3
      go true e = absurd (z e)
      go false e = e

  pub offset_there : o.refusal ≡ 0 → OffsetThere lead w end part o
  unfolding offset_answer offset_stands
  offset_there z = go (leb lead end) (leb w end) (eqb end lead || leb (lead + w) end) refl refl refl (ap (λ x. x.refusal) q) (ap (λ x. x.value) q)
    where
      go : (a b c : Bool) → leb lead end ≡ a → leb w end ≡ b → (eqb end lead || leb (lead + w) end) ≡ c
          → o.refusal ≡ (pick (a && (b && c)) (leaf.passed (field_offset lead w end part)) (leaf.failed 3)).refusal
          → o.value ≡ (pick (a && (b && c)) (leaf.passed (field_offset lead w end part)) (leaf.failed 3)).value → OffsetThere lead w end part o
      go true true true x y t e f = record { stands = rw (x, y, t); is = f; start = leb-true lead end x; room = leb-true w end y }
      go true true false x y t e f = absurd (omega arith)
      go true false c x y t e f = absurd (omega arith)
      go false b c x y t e f = absurd (omega arith)

-- an offset of at most four bytes is small
value_take_below : (w : ℕ) (l : List ℕ) → ((i : ℕ) → get_or l i 0 < 256) → value (take w l) < 256 ^ w
unfolding value
value_take_below zero l b = omega arith
value_take_below (suc w) [] b = omega (arith, value_take_below w [] b)
value_take_below (suc w) (x ∷ l) b =
    let h = b 0 in
    omega (arith, value_take_below w l (λ i. b (suc i)))

power_most : (w : ℕ) → w ≤ 4 → 256 ^ w ≤ 4294967296
power_most zero h = omega arith
power_most (suc zero) h = omega arith
power_most (suc (suc zero)) h = omega arith
power_most (suc (suc (suc zero))) h = omega arith
power_most (suc (suc (suc (suc zero)))) h = omega arith
power_most (suc (suc (suc (suc (suc w))))) h = absurd (omega arith)

pub offset_small : (lead w end : ℕ) (part : List ℕ) (o : leaf.Checked) → ((i : ℕ) → get_or part i 0 < 256) → w ≤ 4 → OffsetThere lead w end part o → o.value < 4294967296
unfolding field_offset
offset_small lead w end part o b h s = rw s.is (go (eqb end lead))
  where
    go : (q : Bool) → pick q 0 (value (take w (drop (end - w) part))) < 4294967296
    go true = omega arith
    go false =
        let c : (i : ℕ) → get_or (drop (end - w) part) i 0 < 256 = λ i. rw (get_or-drop (end - w) part i 0) (b (end - w + i)) in
        omega (arith, value_take_below w (drop (end - w) part) c, power_most w h)

pub width_small : (n : ℕ) → n ≤ 65536 → encoded_width n ≤ 4
width_small n h = go (leb n 255) (leb n 65535) refl refl
  where
    go : (x y : Bool) → leb n 255 ≡ x → leb n 65535 ≡ y → encoded_width n ≤ 4
    go true y p q = omega (arith, encoded_width_1 n (leb-true n 255 p))
    go false true p q = omega (arith, encoded_width_2 n (leb-false n 255 p) (leb-true n 65535 q))
    go false false p q = omega (arith, encoded_width_4 n (leb-false n 65535 q) (omega arith))

-- where a field ends, by the answer of the leaf
module _ (lead w end : ℕ) (part : List ℕ) (fx : Bool) where
  pub ends_fixed : fx ≡ true → ends_at end 0 ≡ field_ends lead w fx end part
  unfolding field_ends
  ends_fixed h = rw h

  module _ (v : ℕ) (y : v ≡ w) (o : leaf.Checked) (q : o ≡ offset_answer lead v end part) (h : fx ≡ false) where
    pub ends_missing_lem : (o.refusal ≡ 0 → ⊥) → ends_missing o.refusal ≡ field_ends lead w fx end part
    unfolding field_ends
    ends_missing_lem z =
        let s : offset_stands lead w end ≡ false = rw y at (offset_missing lead v end part o q z) in
        ap ends_missing (offset_three lead v end part o q z) ∙ rw (h, s)

    pub ends_there : o.refusal ≡ 0 → ends_at (lead + o.value) v ≡ field_ends lead w fx end part
    unfolding field_ends
    ends_there z =
        let s = offset_there lead w end part o (rw y at q) z in
        rw (h, s.stands, y, s.is)

-- the table reaches before an offset that is there
pub ends_room : (lead w end : ℕ) (part : List ℕ) (fx : Bool) (o : Ends) → o ≡ field_ends lead w fx end part → o.refusal ≡ 0 → o.width ≤ end
unfolding field_ends offset_stands
ends_room lead w end part fx o q z = go fx (leb lead end) (leb w end) (eqb end lead || leb (lead + w) end) refl q
  where
    go : (f a b c : Bool) → leb w end ≡ b → o ≡ pick f (ends_at end 0) (pick (a && (b && c)) (ends_at (lead + field_offset lead w end part) w) (ends_missing 3)) → o.width ≤ end
    go true a b c h e = let v : o.width ≡ 0 = ap (λ (x : Ends). x.width) e in omega arith
    go false true true true h e = let v : o.width ≡ w = ap (λ (x : Ends). x.width) e in omega (arith, leb-true w end h)
    go false true true false h e = let v : o.refusal ≡ 3 = ap (λ (x : Ends). x.refusal) e in absurd (omega arith)
    go false true false c h e = let v : o.refusal ≡ 3 = ap (λ (x : Ends). x.refusal) e in absurd (omega arith)
    go false false b c h e = let v : o.refusal ≡ 3 = ap (λ (x : Ends). x.refusal) e in absurd (omega arith)

others : (p q : Bool) → (p && q) ≡ true → q ≡ true
others true q h = h
others false q h = let z : ◌≡◌ {A = ℕ} 0 1 = cc in absurd (omega arith)

module _ {position : ℕ} {big : Bool} {nested : ℕ} {text : List ℕ} {at : ℕ} {fx : Bool} {a place : ℕ} {part : List ℕ} {lead w : ℕ} {d : Depths} {n : ℕ} {l : List ℕ} {i end u m : ℕ} {l₁ : List ℕ}
    (e : FieldsLeft position big nested text at fx a place part lead w d n l i end u m l₁) (k : nested ≤ 64) {shapes : List ℕ} {f : Shape} where
  -- through the last field
  pub fields_last : (l₂ : List ℕ) (r : Counts) → LastField text shapes i f
      → Done (chain (end_padding position fx a place part (lead + u) (child (reader_of position big nested (tree_at text f.at) d) place part (lead + u) end)) (passing (length part - end)))
      (length part - (lead + u)) (length part - (lead + u)) m l₁ l₂ r
      → Done (fields_in position fx a place part lead w d (readers_of position big nested (fields_at text at)) (length part) lead) (length part - lead) (length part - lead) n l l₂
      (answer r.refusal (u + r.used) r.count)
  fields_last l₂ r g c =
      e.rest.whole l₂ r (rw (g.fields, last_is position big nested k fx a place part lead w d (tree_at text f.at) end (lead + u)) c)

  module _ (g : NextField text shapes i f) where
    -- by where it ends
    module _ (o : Ends) (q : o ≡ field_ends lead w f.fixed end part) where
      ended_fixed : f.fixed ≡ true → o ≡ ends_at end 0
      unfolding field_ends
      ended_fixed h = q ∙ ap (λ (x : Bool). field_ends lead w x end part) h

      ended_there : f.fixed ≡ false → offset_stands lead w end ≡ true → o ≡ ends_at (lead + field_offset lead w end part) w
      unfolding field_ends
      ended_there h s = q ∙ ap (λ (x : Bool). field_ends lead w x end part) h ∙ rw s

      ended_missing : f.fixed ≡ false → offset_stands lead w end ≡ false → o ≡ ends_missing 3
      unfolding field_ends
      ended_missing h s = q ∙ ap (λ (x : Bool). field_ends lead w x end part) h ∙ rw s

      field_is : (b : Bool) → f.fixed ≡ b → fields_in position fx a place part lead w d (readers_of position big nested (fields_at text i)) end (lead + u)
          ≡ pick b (chain (child (reader_of position big nested (tree_at text f.at) d) place part (lead + u) end) (further (fields_in position fx a place part lead w d (readers_of position big nested (fields_at text f.next)) end) (lead + u)))
          (pick (offset_stands lead w end)
          (chain (child (reader_of position big nested (tree_at text f.at) d) place part (lead + u) (lead + field_offset lead w end part)) (further (fields_in position fx a place part lead w d (readers_of position big nested (fields_at text f.next)) (end - w)) (lead + u)))
          (refused 3 (place + lead)))
      field_is b h =
          ap (λ ts. fields_in position fx a place part lead w d (readers_of position big nested ts) end (lead + u)) g.fields
          ∙ next_is position big nested k fx a place part lead w d (tree_at text f.at) (fields_at text f.next) end (lead + u)
          ∙ rw (sym g.same_fixed ∙ h)

      -- it has no offset
      pub fields_no_offset : (o.refusal ≡ 0 → ⊥)
          → Done (fields_in position fx a place part lead w d (readers_of position big nested (fields_at text at)) (length part) lead) (length part - lead) (length part - lead) n l l₁ (answer o.refusal u m)
      fields_no_offset z = go f.fixed (offset_stands lead w end) refl refl
        where
          go : (b c : Bool) → f.fixed ≡ b → offset_stands lead w end ≡ c
              → Done (fields_in position fx a place part lead w d (readers_of position big nested (fields_at text at)) (length part) lead) (length part - lead) (length part - lead) n l l₁ (answer o.refusal u m)
          go true c h s = absurd (z (ap (λ (x : Ends). x.refusal) (ended_fixed h)))
          go false true h s = absurd (z (ap (λ (x : Ends). x.refusal) (ended_there h s)))
          go false false h s =
              let y : o.refusal ≡ 3 = ap (λ (x : Ends). x.refusal) (ended_missing h s) in
              subst⁻¹ (λ (x : ℕ). Done (fields_in position fx a place part lead w d (readers_of position big nested (fields_at text at)) (length part) lead) (length part - lead) (length part - lead) n l l₁ (answer x u m)) y
              (rest_end e.rest (rw (field_is false h, s) (refusing 3 (place + lead) (length part - (lead + u)) (length part - (lead + u)) m l₁ (λ x. omega arith))))

      -- or it ends there
      pub field_turn : o.refusal ≡ 0 → Turn position big nested text fx a place part lead w d i end (lead + u) f o.child (end - o.width)
      unfolding all_fixed
      field_turn z = go f.fixed (offset_stands lead w end) refl refl
        where
          turned : (stop end' : ℕ) → o.child ≡ stop → end - o.width ≡ end' → Turn position big nested text fx a place part lead w d i end (lead + u) f stop end'
              → Turn position big nested text fx a place part lead w d i end (lead + u) f o.child (end - o.width)
          turned stop end' p q t = rw (p, q) t

          go : (b c : Bool) → f.fixed ≡ b → offset_stands lead w end ≡ c → Turn position big nested text fx a place part lead w d i end (lead + u) f o.child (end - o.width)
          go true c h s =
              let y = ended_fixed h in
              let v : o.width ≡ 0 = ap (λ (x : Ends). x.width) y in
              let t = e.inside in
              turned end end (ap (λ (x : Ends). x.child) y) (omega arith) (record { is = field_is true h; whole = e.whole; inside = t })
          go false true h s =
              let y = ended_there h s in
              let v : o.width ≡ w = ap (λ (x : Ends). x.width) y in
              let t = e.inside in
              turned (lead + field_offset lead w end part) (end - w) (ap (λ (x : Ends). x.child) y) (ap (λ (x : ℕ). end - x) v)
              (record {
                is = field_is false h ∙ rw s;
                whole = λ t.
                    let b : all_fixed (next (tree_at text f.at) (fields_at text f.next)) ≡ true = ap all_fixed (sym g.fields) ∙ e.all t in
                    let c : ◌≡◌ {A = Bool} false true = rw (sym g.same_fixed ∙ h) at b in
                    let y : ◌≡◌ {A = ℕ} 0 1 = cc in absurd (omega arith);
                inside = omega arith;
              })
          go false false h s =
              let y : o.refusal ≡ 3 = ap (λ (x : Ends). x.refusal) (ended_missing h s) in
              absurd (omega arith)

    -- the field is read: refused, or done and the others are left
    module _ {stop end' : ℕ} (t : Turn position big nested text fx a place part lead w d i end (lead + u) f stop end') (l₂ : List ℕ) (r : Counts)
        (c : Done (child (reader_of position big nested (tree_at text f.at) d) place part (lead + u) stop) (stop - (lead + u)) (length part - (lead + u)) m l₁ l₂ r) where
      pub fields_stop : (r.refusal ≡ 0 → ⊥)
          → Done (fields_in position fx a place part lead w d (readers_of position big nested (fields_at text at)) (length part) lead) (length part - lead) (length part - lead) n l l₂
          (answer r.refusal (u + r.used) r.count)
      fields_stop z =
          let len = length part - (lead + u) in
          e.rest.whole l₂ r
          (rw t.is
          (stopped len (stop - (lead + u)) len len m l₁ l₂ (child (reader_of position big nested (tree_at text f.at) d) place part (lead + u) stop)
          (further (fields_in position fx a place part lead w d (readers_of position big nested (fields_at text f.next)) end') (lead + u)) r z (omega arith) c))

      pub fields_next : r.refusal ≡ 0 → FieldsLeft position big nested text at fx a place part lead w d n l f.next end' (u + r.used) r.count l₂
      unfolding all_fixed
      fields_next z =
          let len = length part - (lead + u) in
          let len₂ = length part - (lead + (u + r.used)) in
          let q = c.fits in
          let b = e.within in
          let p = add_assoc lead u r.used in
          record {
            rowed = g.rowed;
            all = λ x.
                let y : all_fixed (next (tree_at text f.at) (fields_at text f.next)) ≡ true = ap all_fixed (sym g.fields) ∙ e.all x in
                others (fixed (tree_at text f.at)) (all_fixed (fields_at text f.next)) y;
            whole = t.whole;
            inside = t.inside;
            within = omega arith;
            kept = kept c ∙ e.kept;
            rest = rest_on e.rest
                (rest_as t.is
                (rw (← p)
                (rest_chain len (stop - (lead + u)) (length part - (lead + u + r.used)) len len (length part - (lead + u + r.used)) m l₁ l₂
                (child (reader_of position big nested (tree_at text f.at) d) place part (lead + u) stop)
                (further (fields_in position fx a place part lead w d (readers_of position big nested (fields_at text f.next)) end') (lead + u)) r z (omega arith) (omega arith) c)));
          }

-- the field at a place, by the place behind it and the character that stands there
module _ (l t : List ℕ) (i : ℕ) (w : Rowed l i) (z : Shaped l t) {x : ℕ} (e : x ≡ (shape_in l t i).next) where
  behind_is : (letter_at l x ≡ CloseStructure → ⊥) → NextField l t i (shape_in l t i)
  behind_is h = next_field_of l t i w z (shape_in l t i) refl (letter_at l x) (ap (λ (y : ℕ). letter_at l y) e) h

  pub behind_within : x < length l
  behind_within = go (leb (length l) x) refl
    where
      go : (b : Bool) → leb (length l) x ≡ b → x < length l
      go false h = leb-false (length l) x h
      go true h =
          let n = behind_is (λ q. let y : End ≡ CloseStructure = sym (letter_end l x (leb-true (length l) x h)) ∙ q in let k : ◌≡◌ {A = ℕ} 0 1 = cc in omega arith) in
          omega (arith, typed_within (rowed_typed n.rowed), e)

  pub last_by : get_or l x 0 ≡ 41 → LastField l t i (shape_in l t i)
  last_by h = last_field_of l t i w z (shape_in l t i) refl (letter_at l x) (ap (λ (y : ℕ). letter_at l y) e) (code_close l x behind_within h)

  pub next_by : (get_or l x 0 ≡ 41 → ⊥) → NextField l t i (shape_in l t i)
  next_by h = behind_is (λ q. h (mark_code l x CloseStructure 41 q refl))

-- ---- the ways out of structure
module _ {text shapes : List ℕ} {s : Shape} (t : Described text shapes s) (e : letter_at text s.at ≡ OpenStructure) (part : List ℕ) (lead place : ℕ) (c : Context) (n : ℕ) (l : List ℕ) where
  pub structure_deep : {r : Inner} → Opens Depth.structure c r → (r.refusal ≡ 0 → ⊥) → From (inside_of c (tree_at text s.at) place part lead) part lead n l l (answer r.refusal 0 n)
  unfolding body_in structure_in
  structure_deep o z = rw (structure_tree t e) (too_deep (place + lead) _ _ _ n l o z)

  pub structure_on : {c' : Context} → Deeper Depth.structure c c' → (m : ℕ) (l₁ l' : List ℕ) (a : Counts) → m ≡ next_event n → l₁ ≡ put l n (event 40 (place + lead) 0)
      → From (chain (fields_of c' text s place part lead) (closing_at (place + lead))) part lead m l₁ l' a
      → From (inside_of c (tree_at text s.at) place part lead) part lead n l l' a
  unfolding body_in structure_in structure_body enclosed
  structure_on {c'} d m l₁ l' a p q g =
      let v : c'.depths.variant ≡ c.depths.variant = ap (λ (x : Depths). x.variant) d.depths in
      rw (structure_tree t e)
      (rw (
        within_open d (place + lead) (structure_body c.position (largest_alignment (fields_at text (s.at + 1))) (all_fixed (fields_at text (s.at + 1))) (readers_of c.position c.big c.depths.variant (fields_at text (s.at + 1))) place part lead),
        ← structure_fixed t e,
        ← structure_alignment t e,
        ← v,
        ← d.position,
        ← d.big,
      )
      (after_event _ _ n m l l₁ l' (opening 40 (place + lead)) _ a p q g))

  -- a refusal among the fields closes nothing
  pub structure_stop : {c' : Context} → Deeper Depth.structure c c' → (m : ℕ) (l₁ l' : List ℕ) (a b : Counts) → m ≡ next_event n → l₁ ≡ put l n (event 40 (place + lead) 0) → a ≡ b → (b.refusal ≡ 0 → ⊥)
      → From (fields_of c' text s place part lead) part lead m l₁ l' b → From (inside_of c (tree_at text s.at) place part lead) part lead n l l' a
  structure_stop {c'} d m l₁ l' a b p q e z g =
      let len = length part - lead in
      structure_on d m l₁ l' a p q (told e (stopped len len len len m l₁ l' (fields_of c' text s place part lead) (closing_at (place + lead)) b z (omega arith) g))
