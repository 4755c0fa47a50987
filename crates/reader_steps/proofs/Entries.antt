-- A law for each way out of the readers of a dictionary's entry: its conclusion has the form of the need, and its premises are what the
-- code knows there. Assumes nothing.
use Rattle.framing_offset_size.proofs.WidthLaws.{last_offset_in_is, last_none}
use Rattle.std.proofs.Common.{◌≡◌, ℕ, ◌+◌, ◌-◌, ◌<◌, ◌≤◌, Bool, true, false, eqb, leb, List, [], length, take, drop, sym, refl, ap, ◌∙◌, arith, length-drop, length-take, eq-eqb, ne_eqb, eqb-true, le-leb, leb-false, leb-true}
use borrow.Author.Tests.{lt-leb, eqb-false}
use Rattle.meaning.specs.Choice.{pick}
use Rattle.meaning.specs.Depths.{Depths}
use Rattle.meaning.specs.Offsets.{encoded_width, last_offset}
use Rattle.meaning.specs.Outcome.{Outcome, refused, after, chain, passing}
use Rattle.meaning.specs.Reading.{Reader, Step, child, further, pad, end_padding, value_from, fixed_key, value_before, key_to, text_key, entry_from, read_entry, entry_step, child_step}
use Rattle.meaning.specs.Padding.{Aligns}
use Rattle.meaning.proofs.OffsetSteps.{own_width}
use Rattle.de.specs.Parts.{padding_at}
use Rattle.framing_offset_size.specs.Widths.{last_offset_in}
use Rattle.utils.specs.Checks as leafs
use Rattle.reader_basic.specs.Answers.{Done, Between}
use Rattle.reader_steps.specs.Children.{Ends, key_end, key_ends, ends_at, ends_missing}
use Rattle.signature.specs.Trees.{tree_at}
use Rattle.reader_steps.specs.Places.{value_at, value_in, step_in, fixed_key_in, text_key_in, Repeated}
use Rattle.reader_basic.specs.Parts.{key_reader, Inside}
use Rattle.meaning.specs.Calls.{Counts}
use Rattle.reader_basic.specs.declared.Context.{Context}
use Rattle.container_depths.specs.Opening.{depths_of}
use Rattle.signature.specs.declared.items.Item.{Item}
use Rattle.reader_basic.proofs.Answers.{answer, refusing, after_bytes, both, stopped, ended_refused}
use Rattle.reader_basic.proofs.Leaves.{Pads, pads_at}

-- ---- children

-- a child whose end is before its place is refused
pub child_before : (R : ℕ → List ℕ → Outcome) (place : ℕ) (part : List ℕ) (j e : ℕ) → e < j → child R place part j e ≡ refused 3 (place + j)
unfolding child
child_before R place part j e h = rw (lt-leb j e h)

-- so the end of a child that is done is not before its place
pub child_ordered : (R : ℕ → List ℕ → Outcome) (place : ℕ) (part : List ℕ) (j e : ℕ) {end len n : ℕ} {l l' : List ℕ} {r : Counts}
    → Done (child R place part j e) end len n l l' r → r.refusal ≡ 0 → j ≤ e
child_ordered R place part j e {r = r} d z = go (leb j e) refl
  where
    go : (b : Bool) → leb j e ≡ b → j ≤ e
    go true p = leb-true j e p
    go false p =
        let q : r.refusal ≡ 3 = d.refusal ∙ ap (λ o. o.refusal) (child_before R place part j e (leb-false j e p)) in
        absurd (omega arith)

-- what the padding at the end of what is fixed answers, from the answer of its last child
abbrev pub Padded : ℕ → ℕ → ℕ → List ℕ → ℕ → Counts → Counts → Type 0
Padded position a place part j r s =
    (o : Outcome) (end len n : ℕ) (l l' : List ℕ) → len ≡ length part - j → Done o end len n l l' r → Done (end_padding position true a place part j o) len len n l l' s

-- what an answer is with so many bytes passed behind it
abbrev pub Passed : Counts → ℕ → Counts → Type 0
Passed r more s =
    (o : Outcome) (end end' len n : ℕ) (l l' : List ℕ) → (r.refusal ≡ 0 → r.used + more ≤ end) → end ≤ len → Done o end' len n l l' r → Done (chain o (passing more)) end len n l l' s

-- ---- a key that is fixed, and the value

module _ (position a : ℕ) (fx : Bool) (key value : Reader) (d : Depths) (place : ℕ) (part : List ℕ) (b j e n : ℕ) (l l₁ : List ℕ) (k : Counts)
    (c : Done (child (key d) place part j e) (e - j) (length part - j) n l l₁ k) where
  pub fixed_key_stop : (k.refusal ≡ 0 → ⊥) → Done (fixed_key position a fx key value d place part b j e) (e - j) (length part - j) n l l₁ k
  unfolding fixed_key
  fixed_key_stop z =
      stopped (e - j) (e - j) (length part - j) (length part - j) n l l₁ (child (key d) place part j e) (further (value_from position a fx key value d place part b e) j) k z (omega arith) c

  module _ (z : k.refusal ≡ 0) (l' : List ℕ) (v : Counts)
      (w : Done (child (value d) place part (j + k.used) e) (e - (j + k.used)) (length part - (j + k.used)) k.count l₁ l' v) where
    pub fixed_key_padded : (s : Counts) → fx ≡ true → e ≡ length part → Padded position a place part (j + k.used) v s
        → Done (fixed_key position a fx key value d place part b j e) (e - j) (length part - j) n l l' (answer s.refusal (k.used + s.used) s.count)
    unfolding fixed_key value_from
    fixed_key_padded s h i p =
        let f = c.fits in
        let len = length part - (j + k.used) in
        let g = p (child (value d) place part (j + k.used) e) (e - (j + k.used)) len k.count l₁ l' refl w in
        both (e - j) (e - j) len (length part - j) (length part - j) len n l l₁ l'
        (child (key d) place part j e) (further (value_from position a fx key value d place part b e) j) k s z (omega arith) (omega arith) c (rw h g)

    pub fixed_key_value : fx ≡ false
        → Done (fixed_key position a fx key value d place part b j e) (e - j) (length part - j) n l l' (answer v.refusal (k.used + v.used) v.count)
    unfolding fixed_key value_from end_padding
    fixed_key_value h =
        let f = c.fits in
        let q = c.ends z in
        let len = length part - (j + k.used) in
        let end = e - (j + k.used) in
        both (e - j) (e - j) end (length part - j) (length part - j) len n l l₁ l'
        (child (key d) place part j e) (further (value_from position a fx key value d place part b e) j) k v z (omega arith) (omega arith) c (rw h w)

-- ---- a text, the value, and the key's offset

-- what is read as the last offset of an entry
pub record KeyEnd (part : List ℕ) (j e : ℕ) (r : leafs.Checked) : Type 0 where
  pub there : r.refusal ≡ 0
  pub end : r.value ≡ last_offset (encoded_width (e - j)) (take (e - j) (drop j part))

pub key_end_lem : (part : List ℕ) (j e w : ℕ) (r : leafs.Checked) → j ≤ e → e ≤ length part → w ≡ encoded_width (e - j) → r ≡ last_offset_in w (take (e - j) (drop j part)) → KeyEnd part j e r
key_end_lem part j e w r h i p q = go (eqb (e - j) 0) refl
  where
    m : length (take (e - j) (drop j part)) ≡ e - j
    m = simp (length-take, length-drop) (omega arith)

    go : (b : Bool) → eqb (e - j) 0 ≡ b → KeyEnd part j e r
    go true x =
        let y = eqb-true (e - j) 0 x in
        let t : eqb (length (take (e - j) (drop j part))) 0 ≡ true = eq-eqb _ _ (m ∙ y) in
        record { there = ap (λ s. s.refusal) (q ∙ last_offset_in_is w (take (e - j) (drop j part))) ∙ rw t; end = ap (λ s. s.value) (q ∙ last_offset_in_is w (take (e - j) (drop j part))) ∙ rw t (sym (last_none (encoded_width (e - j)) (take (e - j) (drop j part)) (m ∙ y))) }
    go false x =
        let y = eqb-false (e - j) 0 x in
        let t : eqb (length (take (e - j) (drop j part))) 0 ≡ false = ne_eqb _ _ (λ o. y (sym m ∙ o)) in
        let u = own_width (e - j) (omega arith) in
        let v : leb w (length (take (e - j) (drop j part))) ≡ true = le-leb w (length (take (e - j) (drop j part))) (omega (arith, m)) in
        record { there = ap (λ s. s.refusal) (q ∙ last_offset_in_is w (take (e - j) (drop j part))) ∙ rw (t, v); end = ap (λ s. s.value) (q ∙ last_offset_in_is w (take (e - j) (drop j part))) ∙ rw (t, v) (rw p) }

-- where the key ends, by the answer of the leaf
module _ (part : List ℕ) (b j e : ℕ) where
  pub key_ends_before : e < j → ends_missing 3 ≡ key_ends part b j e
  unfolding key_ends
  key_ends_before h = rw (lt-leb j e h)

  module _ (h : j ≤ e) (i : e ≤ b) (x : ℕ) (q : x ≡ last_offset (encoded_width (e - j)) (take (e - j) (drop j part))) where
    pub key_ends_past : b - j < x → ends_missing 3 ≡ key_ends part b j e
    unfolding key_ends
    key_ends_past s =
        let y : b < j + x = omega arith in
        rw (le-leb j e h, ← q, lt-leb (j + x) b y)

    pub key_ends_there : (w : ℕ) → w ≡ encoded_width (e - j) → x ≤ b - j → ends_at (j + x) w ≡ key_ends part b j e
    unfolding key_ends
    key_ends_there w p s =
        let y : j + x ≤ b = omega arith in
        rw (p, le-leb j e h, ← q, le-leb (j + x) b y)

-- where the key ends, and the value behind it
pub record KeyThere (part : List ℕ) (b j e : ℕ) (o : Ends) : Type 0 where
  pub ordered : j ≤ e
  pub width : o.width ≡ encoded_width (e - j)
  pub end : o.child ≡ key_end part j e
  pub within : o.child ≤ b

module _ (part : List ℕ) (b j e : ℕ) (o : Ends) (q : o ≡ key_ends part b j e) where
  pub key_there : o.refusal ≡ 0 → KeyThere part b j e o
  unfolding key_ends
  key_there z = go (leb j e) (leb (key_end part j e) b) refl refl
    where
      go : (x y : Bool) → leb j e ≡ x → leb (key_end part j e) b ≡ y → KeyThere part b j e o
      go true true f g =
          let p : o ≡ ends_at (key_end part j e) (encoded_width (e - j)) = q ∙ rw (f, g) in
          let v : o.child ≡ key_end part j e = ap (λ (s : Ends). s.child) p in
          let w : o.width ≡ encoded_width (e - j) = ap (λ (s : Ends). s.width) p in
          record { ordered = leb-true j e f; width = w; end = v; within = omega (arith, leb-true (key_end part j e) b g) }
      go true false f g = let p : o ≡ ends_missing 3 = q ∙ rw (f, g) in let y : o.refusal ≡ 3 = ap (λ (s : Ends). s.refusal) p in absurd (omega arith)
      go false y f g = let p : o ≡ ends_missing 3 = q ∙ rw f in let x : o.refusal ≡ 3 = ap (λ (s : Ends). s.refusal) p in absurd (omega arith)

  module _ (position a : ℕ) (fx : Bool) (key value : Reader) (d : Depths) (place n : ℕ) (l : List ℕ) where
    pub text_key_missing : (o.refusal ≡ 0 → ⊥) → Between (text_key position a fx key value d place part b j e) part j e n l l (answer o.refusal 0 n)
    unfolding key_ends text_key key_to
    text_key_missing z = go (leb j e) (leb (key_end part j e) b) refl refl
      where
        go : (x y : Bool) → leb j e ≡ x → leb (key_end part j e) b ≡ y → Between (text_key position a fx key value d place part b j e) part j e n l l (answer o.refusal 0 n)
        go true true f g = let p : o ≡ ends_at (key_end part j e) (encoded_width (e - j)) = q ∙ rw (f, g) in absurd (z (ap (λ (s : Ends). s.refusal) p))
        go true false f g =
            let y : o ≡ ends_missing 3 = q ∙ rw (f, g) in
            let p : o.refusal ≡ 3 = ap (λ (s : Ends). s.refusal) y in
            rw (p, f, g) (refusing 3 (place + j) (e - j) (length part - j) n l (λ o. omega arith))
        go false y f g =
            let y : o ≡ ends_missing 3 = q ∙ rw f in
            let p : o.refusal ≡ 3 = ap (λ (s : Ends). s.refusal) y in
            rw (p, f) (refusing 3 (place + j) (e - j) (length part - j) n l (λ o. omega arith))

module _ (position a : ℕ) (fx : Bool) (key value : Reader) (d : Depths) (place : ℕ) {part : List ℕ} {b j e : ℕ} {o : Ends} (t : KeyThere part b j e o) (n : ℕ) (l : List ℕ) (i : e ≤ b) (g : b ≤ length part)
    (l₁ : List ℕ) (k : Counts) (c : Done (child (key d) place part j o.child) (o.child - j) (length part - j) n l l₁ k) where
  text_key_is : text_key position a fx key value d place part b j e ≡ chain (child (key d) place part j o.child) (further (value_before position a fx key value d place part b e o.width) j)
  unfolding text_key key_to
  text_key_is =
      let y : key_end part j e ≤ b = omega (arith, t.end, t.within) in
      rw (t.end, t.width, le-leb j e t.ordered) (rw (le-leb (key_end part j e) b y))

  pub text_key_stop : (k.refusal ≡ 0 → ⊥) → Between (text_key position a fx key value d place part b j e) part j e n l l₁ k
  text_key_stop z =
      rw text_key_is
      (stopped (e - j) (o.child - j) (length part - j) (length part - j) n l l₁ (child (key d) place part j o.child) (further (value_before position a fx key value d place part b e o.width) j) k z (omega arith) c)

  module _ (z : k.refusal ≡ 0) where
    pub text_key_narrow : e < j + k.used + o.width → Between (text_key position a fx key value d place part b j e) part j e n l l₁ (answer 3 k.used k.count)
    unfolding value_before
    text_key_narrow y =
        let x : value_before position a fx key value d place part b e o.width (j + k.used) ≡ refused 3 (place + (j + k.used)) = rw (lt-leb (j + k.used + o.width) e y) in
        rw text_key_is
        (ended_refused (e - j) (o.child - j) (length part - j) (length part - j) n 3 (place + (j + k.used)) l l₁ (child (key d) place part j o.child)
        (further (value_before position a fx key value d place part b e o.width) j) k z x (λ o. omega arith) c.fits c)

    pub text_key_value : j + k.used + o.width ≤ e → (l' : List ℕ) (v r : Counts)
        → Done (child (value d) place part (j + k.used) (e - o.width)) (e - o.width - (j + k.used)) (length part - (j + k.used)) k.count l₁ l' v → Passed v o.width r
        → Between (text_key position a fx key value d place part b j e) part j e n l l' (answer r.refusal (k.used + r.used) r.count)
    unfolding value_before
    text_key_value y l' v r u p =
        let f = c.fits in
        let end = e - (j + k.used) in
        let len = length part - (j + k.used) in
        rw text_key_is
        (both (e - j) (o.child - j) end (length part - j) (length part - j) len n l l₁ l' (child (key d) place part j o.child)
        (further (value_before position a fx key value d place part b e o.width) j) k r z (omega arith) (omega arith) c
        (rw (le-leb (j + k.used + o.width) e y)
        (p (child (value d) place part (j + k.used) (e - o.width)) end (e - o.width - (j + k.used)) len k.count l₁ l' (λ x. let h = u.ends x in omega arith) (omega arith) u)))

-- ---- a step: a child, or an entry behind its padding

-- an entry that is refused where it ends in its own padding, or ends behind it
behind_padding_lem : (part : List ℕ) (j e u n : ℕ) (l l' : List ℕ) (o : Outcome) (r : Counts) → u ≤ length part - j → (e < j + u → o.refusal ≡ 3)
    → Done o (e - (j + u)) (length part - (j + u)) n l l' r → Done (after u [] o) (e - j) (length part - j) n l l' (answer r.refusal (u + r.used) r.count)
behind_padding_lem part j e u n l l' o r h i d = go (leb (j + u) e) refl
  where
    go : (b : Bool) → leb (j + u) e ≡ b → Done (after u [] o) (e - j) (length part - j) n l l' (answer r.refusal (u + r.used) r.count)
    go true p =
        let q = leb-true (j + u) e p in
        after_bytes u (e - j) (e - (j + u)) (length part - j) (length part - (j + u)) n l l' o r (omega arith) (omega arith) d
    go false p =
        let q = i (leb-false (j + u) e p) in
        let f = d.fits in
        let g = d.refusal in
        record { refusal = d.refusal; used = ap (λ (x : ℕ). u + x) d.used; fits = omega arith; ends = λ z. absurd (omega arith); count = d.count; slice = d.slice }

module _ (position a : ℕ) (fk fx : Bool) (key value : Reader) (d : Depths) (place : ℕ) (part : List ℕ) (b j e n : ℕ) (l : List ℕ) (p : leafs.Checked)
    (s : Aligns a) (f : position + place + j ≤ 18446744073709551615) (h : j ≤ length part) (q : p ≡ padding_at (position + place) j a part) where
  pads : Pads (pad position a (place + j) (drop j part)) (length part - j) p
  pads = pads_at position place j a part p s f h q

  entry_missing : (p.refusal ≡ 0 → ⊥) → Done (entry_step position a fk fx key value d place part b j e) (e - j) (length part - j) n l l (answer p.refusal 0 n)
  unfolding entry_step read_entry chain
  entry_missing z = rw (pads.missing z) (rw (ne_eqb p.refusal 0 z) (refusing p.refusal pads.place (e - j) (length part - j) n l z))

  module _ (z : p.refusal ≡ 0) (l' : List ℕ) (r : Counts) where
    entry_behind : (e < j + p.value → (entry_from position a fx key value d place part b fk e (j + p.value)).refusal ≡ 3)
        → Done (entry_from position a fx key value d place part b fk e (j + p.value)) (e - (j + p.value)) (length part - (j + p.value)) n l l' r
        → Done (entry_step position a fk fx key value d place part b j e) (e - j) (length part - j) n l l' (answer r.refusal (p.value + r.used) r.count)
    unfolding entry_step read_entry chain
    entry_behind i c = rw (pads.there z) (behind_padding_lem part j e p.value n l l' (entry_from position a fx key value d place part b fk e (j + p.value)) r pads.fits i c)

    entry_keyed : fk ≡ true → Done (fixed_key position a fx key value d place part b (j + p.value) e) (e - (j + p.value)) (length part - (j + p.value)) n l l' r
        → Done (entry_step position a fk fx key value d place part b j e) (e - j) (length part - j) n l l' (answer r.refusal (p.value + r.used) r.count)
    unfolding entry_from fixed_key chain
    entry_keyed k c =
        entry_behind (λ i. rw k (rw (child_before (key d) place part (j + p.value) e i))) (rw k c)

    entry_text : fk ≡ false → Done (text_key position a fx key value d place part b (j + p.value) e) (e - (j + p.value)) (length part - (j + p.value)) n l l' r
        → Done (entry_step position a fk fx key value d place part b j e) (e - j) (length part - j) n l l' (answer r.refusal (p.value + r.used) r.count)
    unfolding entry_from text_key
    entry_text k c =
        entry_behind (λ i. rw k (rw (lt-leb (j + p.value) e i))) (rw k c)

-- by a test
picked : (q : Bool) (s t : Step) (d : Depths) (place : ℕ) (part : List ℕ) (b j e end len n : ℕ) (l l' : List ℕ) (r : Counts) → q ≡ true
    → Done (s d place part b j e) end len n l l' r → Done (pick q s t d place part b j e) end len n l l' r
picked q s t d place part b j e end len n l l' r h c = rw h c

other : (q : Bool) (s t : Step) (d : Depths) (place : ℕ) (part : List ℕ) (b j e end len n : ℕ) (l l' : List ℕ) (r : Counts) → q ≡ false
    → Done (t d place part b j e) end len n l l' r → Done (pick q s t d place part b j e) end len n l l' r
other q s t d place part b j e end len n l l' r h c = rw h c

-- an element of an array is a child
pub step_child : (c : Context) (text : List ℕ) (i : Item) (place : ℕ) (part : List ℕ) (b j e n : ℕ) (l l' : List ℕ) (r : Counts) → i.entry ≡ false
    → Between (child (value_in c (tree_at text i.child.at)) place part j e) part j e n l l' r → Between (step_in c text i place part b j e) part j e n l l' r
unfolding child_step
step_child c text i place part b j e n l l' r h g =
    other i.entry (entry_step c.position i.alignment i.keyed i.fixed (key_reader c.position c.big i.key) (value_at c (tree_at text i.child.at)))
    (child_step (value_at c (tree_at text i.child.at))) (depths_of c.depths) place part b j e (e - j) (length part - j) n l l' r h g

-- an entry of a dictionary whose padding was judged
pub record EntryPadded (c : Context) (text shapes : List ℕ) (i : Item) (place : ℕ) (part : List ℕ) (j : ℕ) (p : leafs.Checked) : Type 0 where
  pub repeated : Repeated text shapes i
  pub entry : i.entry ≡ true
  pub inside : Inside (length part) place c
  pub starts : j ≤ length part
  pub padding : p ≡ padding_at (c.position + place) j i.alignment part

pub entry_padded : (c : Context) (part : List ℕ) (place j : ℕ) {text shapes : List ℕ} {i : Item} {p : leafs.Checked} → Repeated text shapes i → i.entry ≡ true → Inside (length part) place c → j ≤ length part
    → p ≡ padding_at (c.position + place) j i.alignment part → EntryPadded c text shapes i place part j p
entry_padded c part place j r e w h q = record { repeated = r; entry = e; inside = w; starts = h; padding = q }

module _ {c : Context} {text shapes : List ℕ} {i : Item} {place : ℕ} {part : List ℕ} {j : ℕ} {p : leafs.Checked} (s : EntryPadded c text shapes i place part j p) where
  abbrev keys : Reader
  keys = key_reader c.position c.big i.key

  abbrev values : Reader
  values = value_at c (tree_at text i.child.at)

  near : c.position + place + j ≤ 18446744073709551615
  near = omega (arith, s.inside.in_frame, s.inside.near, s.starts)

  -- where it begins
  pub entry_within : j + p.value ≤ length part
  entry_within = let w = (pads_at c.position place j i.alignment part p s.repeated.aligned near s.starts s.padding).fits in let x = s.starts in omega arith

  module _ (b e n : ℕ) (l : List ℕ) where
    as_entry : (l' : List ℕ) (r : Counts) → Between (entry_step c.position i.alignment i.keyed i.fixed keys values (depths_of c.depths) place part b j e) part j e n l l' r
        → Between (step_in c text i place part b j e) part j e n l l' r
    as_entry l' r g =
        picked i.entry (entry_step c.position i.alignment i.keyed i.fixed keys values) (child_step values) (depths_of c.depths) place part b j e (e - j) (length part - j) n l l' r s.entry g

    pub step_unpadded : (p.refusal ≡ 0 → ⊥) → Between (step_in c text i place part b j e) part j e n l l (answer p.refusal 0 n)
    step_unpadded z =
        as_entry l _ (entry_missing c.position i.alignment i.keyed i.fixed keys values (depths_of c.depths) place part b j e n l p s.repeated.aligned near s.starts s.padding z)

    module _ (z : p.refusal ≡ 0) (l' : List ℕ) (r : Counts) where
      pub step_keyed : i.keyed ≡ true → Between (fixed_key_in c text i place part b (j + p.value) e) part (j + p.value) e n l l' r
          → Between (step_in c text i place part b j e) part j e n l l' (answer r.refusal (p.value + r.used) r.count)
      step_keyed k g =
          as_entry l' _ (entry_keyed c.position i.alignment i.keyed i.fixed keys values (depths_of c.depths) place part b j e n l p s.repeated.aligned near s.starts s.padding z l' r k g)

      pub step_text : i.keyed ≡ false → Between (text_key_in c text i place part b (j + p.value) e) part (j + p.value) e n l l' r
          → Between (step_in c text i place part b j e) part j e n l l' (answer r.refusal (p.value + r.used) r.count)
      step_text k g =
          as_entry l' _ (entry_text c.position i.alignment i.keyed i.fixed keys values (depths_of c.depths) place part b j e n l p s.repeated.aligned near s.starts s.padding z l' r k g)
