-- What is repeated in an array or a dictionary: it takes events, it has its alignment, and an entry is a key and a value in a row.
-- Assumes nothing.
use mathlib.Core.Path.{◌≡◌, refl, ap, sym, subst, subst⁻¹, ◌∙◌}
use mathlib.Core.List.{List, [], ◌∷◌}
use mathlib.Core.Bool.{Bool, true, false}
use native.Mathlib.Omega.{arith}
use Prim.Native.Nat.{ℕ, ◌+◌, ◌-◌, ◌≤◌, ◌%◌}
use lib.ListN.{length, drop}
use Rattle.meaning.specs.Depths.{Depths}
use Rattle.meaning.specs.Padding.{padding, zeros}
use Rattle.meaning.specs.Types.{Basic, text, basic, maybe, basic_alignment, basic_fixed, alignment, fixed}
use Rattle.meaning.specs.Written.{Piece, stop, unless, field_ends, entry_piece}
use Rattle.meaning_writing.specs.Writing.{Built, built, fault, Builder, mapped, build_both, build_many}
use Rattle.meaning_writing.specs.Emitting.{entry_of, emit_basic, emit_maybe, emit_entry, emit}
use Rattle.meaning_writing.proofs.EmitLaws.{emit_alignment, emit_shorter, basic_shorter, entry_shorter}
use Rattle.meaning.specs.Padding.{Aligns}
use Rattle.meaning.proofs.PaddingLaws.{by_alignment, padding_none}
use Rattle.meaning_writing.proofs.WritingSteps.{Shorter, both_second, both_fault, mapped_built, mapped_fault}
use Rattle.writer_store.specs.Stores.{cap, sum, puts}
use Rattle.writer_ends.specs.Ends.{Kept}
use Rattle.signature.specs.Places.{basic_kind}
use Rattle.signature.specs.declared.Letter.{Letter}
use Rattle.signature.specs.declared.Letter.TheVariants.{Text}
use Rattle.signature.proofs.Dispatch.{is_text_lem}
use Rattle.signature.proofs.TreeLaws.{described_kind}
use Rattle.writer_basic.specs.Wrote.{key_basic, IsKey, Done, marks_of, MadeAll, DoneAll, Structured}
use Rattle.writer_cycle.proofs.ItemLaws.{emit_basic_lem, emit_maybe_lem, key_of, is_key}
use Rattle.signature.specs.Trees.{tree_at}
use Rattle.writer_cycle.specs.Places.{value_of, item_of, Repeated}
use Rattle.writer_basic.specs.Wrote.{Answer}
use Rattle.writer_basic.specs.Wrote.{Run}
use Rattle.signature.specs.declared.items.Item.{Item}
use Rattle.writer_store.proofs.Puts.{puts_none}
use Rattle.writer_basic.proofs.NumberRows.{basic_has}
use Rattle.writer_ends.proofs.EndLaws.{kept_not}
use Rattle.writer_basic.proofs.Answers.{made_of, fault_of, wrong}
use Rattle.writer_basic.proofs.Rows.{run, none_more, says_on, fields_steady}

-- ---- items

pub item_alone : (texts : List ℕ) (big : Bool) (n : ℕ) (signature : List ℕ) (i : Item) → i.entry ≡ false → item_of texts big n signature i ≡ value_of texts big n (tree_at signature i.child.at)
unfolding item_of
item_alone texts big n signature i e = rw e

pub item_paired : (texts : List ℕ) (big : Bool) (n : ℕ) (signature : List ℕ) (i : Item) → i.entry ≡ true
    → item_of texts big n signature i ≡ emit_entry i.alignment i.fixed (emit_basic texts big (key_basic i.key)) (value_of texts big n (tree_at signature i.child.at))
unfolding item_of
item_paired texts big n signature i e = rw e

pub item_shorter : (texts : List ℕ) (big : Bool) (n : ℕ) (signature : List ℕ) (i : Item) (D : Depths) → Shorter (item_of texts big n signature i D)
item_shorter texts big n signature i D = go i.entry refl
  where
    go : (b : Bool) → i.entry ≡ b → Shorter (item_of texts big n signature i D)
    go true e = subst⁻¹ (λ (x : Builder Piece). Shorter (x D)) (item_paired texts big n signature i e)
        (entry_shorter i.alignment i.fixed _ _ D (basic_shorter texts big (key_basic i.key) D) (emit_shorter texts big (65 - n) (tree_at signature i.child.at) D))
    go false e = subst⁻¹ (λ (x : Builder Piece). Shorter (x D)) (item_alone texts big n signature i e) (emit_shorter texts big (65 - n) (tree_at signature i.child.at) D)

entry_alignment_lem : (a : ℕ) (fx : Bool) (key value : Builder Piece) (D : Depths) (l : List ℕ) (c : Piece) (r : List ℕ) → emit_entry a fx key value D l ≡ built c r → c.alignment ≡ a
unfolding emit_entry entry_piece
entry_alignment_lem a fx key value D l c r e = go (build_both key value D l) e
  where
    go : (x : Built (Piece × Piece)) → mapped (entry_of a fx) x ≡ built c r → c.alignment ≡ a
    go (built v q) f = unfold mapped in (let z : c ≡ entry_of a fx v = cc in rw z)
    go (fault n) f = unfold mapped in absurd (let z : ◌≡◌ {A = ℕ} 0 1 = cc in omega arith)

pub item_alignment : (texts : List ℕ) (big : Bool) (n : ℕ) (signature shapes : List ℕ) (i : Item) → Repeated signature shapes i → (D : Depths) (l : List ℕ) (c : Piece) (r : List ℕ) → item_of texts big n signature i D l ≡ built c r → c.alignment ≡ i.alignment
item_alignment texts big n signature shapes i h D l c r e = go i.entry refl
  where
    go : (b : Bool) → i.entry ≡ b → c.alignment ≡ i.alignment
    go true f = entry_alignment_lem i.alignment i.fixed _ _ D l c r (sym (ap (λ (x : Builder Piece). x D l) (item_paired texts big n signature i f)) ∙ e)
    go false f = emit_alignment texts big (65 - n) (tree_at signature i.child.at) D l c r (sym (ap (λ (x : Builder Piece). x D l) (item_alone texts big n signature i f)) ∙ e) ∙ sym (h.alone f)

-- ---- an entry

abbrev pub two : Piece × Piece → List Piece
two x = x.0 ∷ x.1 ∷ []

pub entry_structured : (a : ℕ) (fx : Bool) → Structured a fx (entry_piece a fx)
unfolding entry_piece
entry_structured a fx = record { bytes_are = λ cs. refl }

module _ (a : ℕ) (fx : Bool) (key value : Builder Piece) (D : Depths) (ns : List ℕ) (i : ℕ) where
  abbrev pub paired : Built (List Piece)
  paired = mapped two (build_both key value D (drop i ns))

  pub entry_as_lem : mapped (entry_piece a fx) paired ≡ emit_entry a fx key value D (drop i ns)
  unfolding emit_entry
  entry_as_lem = go (build_both key value D (drop i ns))
    where
      go : (x : Built (Piece × Piece)) → mapped (entry_piece a fx) (mapped two x) ≡ mapped (entry_of a fx) x
      go (built v q) = unfold mapped in refl
      go (fault n) = unfold mapped in refl

  pub entry_key_fault : (n : ℕ) → key D (drop i ns) ≡ fault n → emit_entry a fx key value D (drop i ns) ≡ fault n
  unfolding emit_entry
  entry_key_fault n e = mapped_fault (entry_of a fx) _ n (both_fault key value D (drop i ns) n e)

  module _ (c : Piece) (x : ℕ) (e : key D (drop i ns) ≡ built c (drop x ns)) where
    pub entry_value_fault : (n : ℕ) → value D (drop x ns) ≡ fault n → emit_entry a fx key value D (drop i ns) ≡ fault n
    unfolding emit_entry
    entry_value_fault n f = mapped_fault (entry_of a fx) _ n (both_second key value D (drop i ns) c (drop x ns) e ∙ mapped_fault _ _ n f)

    pub paired_made : (g : Piece) (r : List ℕ) → value D (drop x ns) ≡ built g r → paired ≡ built (c ∷ g ∷ []) r
    paired_made g r f = mapped_built two _ (c, g) r (both_second key value D (drop i ns) c (drop x ns) e ∙ mapped_built _ _ g r f)

pub kept_few : (top end : ℕ) (skip : Bool) (l l' s s' : List ℕ) (r : ℕ) → Kept top 0 end skip l l' s s' r → r ≤ cap
kept_few top end skip l l' s s' r k = go skip refl
  where
    go : (b : Bool) → skip ≡ b → r ≤ cap
    go true e = omega (arith, (k.skips e).0)
    go false e = omega (arith, k.counts e)

-- the key and the value in a row
module _ (key value : Builder Piece) (D : Depths) (ns : List ℕ) (i start top : ℕ) (l l₁ l₂ l₃ l₄ s s₂ s₃ : List ℕ) (k v : Answer) (ak av p start' top' size count : ℕ) (fk : Bool)
    (dk : Done (key D (drop i ns)) ns i start top l l₁ s s k) (zk : k.refusal ≡ 0) (kept : Kept top 0 k.size fk l₁ l₂ s s₂ count) (al : Aligns ak)
    (hk : (c : Piece) (r : List ℕ) → key D (drop i ns) ≡ built c r → (c.alignment ≡ ak) × (c.fixed ≡ fk)) (hv : (c : Piece) (r : List ℕ) → value D (drop k.next ns) ≡ built c r → c.alignment ≡ av)
    (hp : p ≡ padding k.size av) (h₃ : l₃ ≡ puts l₂ (start + k.size) (zeros (padding k.size av))) (hs : start' ≡ sum start (k.size + p)) (ht : top' ≡ sum top count)
    (dv : Done (value D (drop k.next ns)) ns k.next start' top' l₃ l₄ s₂ s₃ v) (zv : v.refusal ≡ 0) (hz : size ≡ sum (k.size + p) v.size)
    (small : start ≤ cap) (few : top ≤ cap) (n₁ : length l₁ ≡ length l) (n₂ : length l₂ ≡ length l) (n₄ : length l₄ ≡ length l) (m₂ : length s₂ ≡ length s) (m₃ : length s₃ ≡ length s) where
  pub entry_row : DoneAll field_ends (paired 0 true key value D ns i) ns i start top 0 0 l l₄ s s₃ (run 0 v.next size count)
  unfolding mapped field_ends
  entry_row =
      let mk = made_of zk dk in
      let mv = made_of zv dv in
      let fkm = mk.facts in
      let fvm = mv.facts in
      let none : MadeAll field_ends [] (drop v.next ns) ns v.next start top size count l₄ l₄ s₃ s₃ (run 0 v.next size count) = none_more field_ends ns v.next start top size count l₄ s₃ refl fvm.within (omega arith) (kept_few top k.size fk l₁ l₂ s s₂ count kept) in
      let second : MadeAll field_ends (mv.piece ∷ []) (drop v.next ns) ns k.next start top k.size count l₂ l₄ s₂ s₃ (run 0 v.next size count) =
      says_on field_ends fields_steady mv.piece mv.rest ns av k.next start top k.size count p size count start' top' true l₂ l₃ l₄ l₄ l₄ s₂ s₃ s₃ s₃ v (run 0 v.next size count)
      (hv mv.piece mv.rest mv.is) hp (h₃ ∙ ap (λ (y : ℕ). puts l₂ (start + k.size) (zeros y)) (sym hp)) hs ht fvm hz (kept_not top count size l₄ s₃) (omega (arith, fkm.size)) (kept_few top k.size fk l₁ l₂ s s₂ count kept)
      (n₄ ∙ sym n₂) (n₄ ∙ sym n₂) (m₃ ∙ sym m₂) (m₃ ∙ sym m₂)
      (built [] (drop v.next ns)) (λ cs rest' u. (let y : cs ≡ [] = sym (ap (λ (x : Built (List Piece)). elim x [ built v w ↦ v | fault n ↦ [] ]) u) in rw y)) none in
      let pk : 0 ≡ padding 0 ak = sym (padding_none al 0 (zero-mod ak al)) in
      let a₁ : l ≡ puts l (start + 0) (zeros 0) = sym (puts_none l (start + 0)) in
      let first = says_on field_ends fields_steady mk.piece mk.rest ns ak i start top 0 0 0 k.size count start top fk l l l₁ l₂ l₄ s s s₂ s₃ k (run 0 v.next size count)
      (hk mk.piece mk.rest mk.is).0 pk a₁ (omega arith) (omega arith) fkm (omega (arith, fkm.size)) kept (omega arith) (omega arith) n₁ n₂ refl m₂
      (built (mv.piece ∷ []) (drop v.next ns))
      (λ cs rest' u. (let y : cs ≡ mv.piece ∷ [] = sym (ap (λ (x : Built (List Piece)). elim x [ built v w ↦ v | fault n ↦ [] ]) u) in rw (y, (hk mk.piece mk.rest mk.is).1))) second in
      rw (paired_made 0 true key value D ns i mk.piece k.next (mk.is ∙ ap (built mk.piece) fkm.behind) mv.piece (drop v.next ns) (mv.is ∙ ap (built mv.piece) fvm.behind))
      (record { says = first })
    where
      zero-mod : (x : ℕ) → Aligns x → 0 % x ≡ 0
      zero-mod x h = by_alignment (λ x. 0 % x ≡ 0) refl refl refl refl h

-- ---- the ways out of entry

module _ (texts : List ℕ) (big : Bool) (n : ℕ) (signature : List ℕ) (it : Item) (D : Depths) (ns : List ℕ) (i start top : ℕ) (l l' s s' : List ℕ) (r : Answer) where
  pub item_as_value : it.entry ≡ false → Done (value_of texts big n (tree_at signature it.child.at) D (drop i ns)) ns i start top l l' s s' r → Done (item_of texts big n signature it D (drop i ns)) ns i start top l l' s s' r
  item_as_value e g = subst⁻¹ (λ (b : Builder Piece). Done (b D (drop i ns)) ns i start top l l' s s' r) (item_alone texts big n signature it e) g

  pub item_as_entry : it.entry ≡ true → Done (mapped (entry_piece it.alignment it.fixed) (paired it.alignment it.fixed (emit_basic texts big (key_basic it.key)) (value_of texts big n (tree_at signature it.child.at)) D ns i)) ns i start top l l' s s' r
      → Done (item_of texts big n signature it D (drop i ns)) ns i start top l l' s s' r
  item_as_entry e g =
      subst⁻¹ (λ (b : Builder Piece). Done (b D (drop i ns)) ns i start top l l' s s' r) (item_paired texts big n signature it e)
      (subst (λ (x : Built Piece). Done x ns i start top l l' s s' r) (entry_as_lem it.alignment it.fixed _ _ D ns i) g)

  pub item_key_stop : it.entry ≡ true → Done (emit_basic texts big (key_basic it.key) D (drop i ns)) ns i start top l l' s s' r → (r.refusal ≡ 0 → ⊥) → Done (item_of texts big n signature it D (drop i ns)) ns i start top l l' s s' r
  item_key_stop e d z = wrong (ap (λ (b : Builder Piece). b D (drop i ns)) (item_paired texts big n signature it e) ∙ entry_key_fault it.alignment it.fixed _ _ D ns i r.refusal (fault_of z d)) z

  pub item_value_stop : (start₁ top₁ : ℕ) (l₁ l₂ s₁ : List ℕ) (k : Answer) → it.entry ≡ true → Done (emit_basic texts big (key_basic it.key) D (drop i ns)) ns i start₁ top₁ l₁ l₂ s₁ s₁ k → k.refusal ≡ 0 → (start₂ top₂ : ℕ) (l₃ s₃ : List ℕ)
      → Done (value_of texts big n (tree_at signature it.child.at) D (drop k.next ns)) ns k.next start₂ top₂ l₃ l' s₃ s' r → (r.refusal ≡ 0 → ⊥) → Done (item_of texts big n signature it D (drop i ns)) ns i start top l l' s s' r
  item_value_stop start₁ top₁ l₁ l₂ s₁ k e dk zk start₂ top₂ l₃ s₃ dv z =
      let m = made_of zk dk in
      wrong (ap (λ (b : Builder Piece). b D (drop i ns)) (item_paired texts big n signature it e)
      ∙ entry_value_fault it.alignment it.fixed _ _ D ns i m.piece k.next (m.is ∙ ap (built m.piece) m.facts.behind) r.refusal (fault_of z dv)) z

pair_made : (key value : Builder Piece) (D : Depths) (l : List ℕ) (c g : Piece) (q p : List ℕ) → key D l ≡ built c q → value D q ≡ built g p → build_both key value D l ≡ built (c, g) p
pair_made key value D l c g q p f k = both_second key value D l c q f ∙ mapped_built _ _ g p k

pair_fault : (key value : Builder Piece) (D : Depths) (l : List ℕ) (c : Piece) (q : List ℕ) (n : ℕ) → key D l ≡ built c q → value D q ≡ fault n → build_both key value D l ≡ fault n
pair_fault key value D l c q n f k = both_second key value D l c q f ∙ mapped_fault _ _ n k

ends_none : (c g : Piece) → c.fixed ≡ true → field_ends 0 (c ∷ g ∷ []) ≡ []
unfolding field_ends
ends_none c g y = ap (λ (b : Bool). unless b (stop 0 c) []) y

piece_fixed : (texts : List ℕ) (big : Bool) (b : Basic) (D : Depths) (l : List ℕ) (c : Piece) (r : List ℕ) → emit_basic texts big b D l ≡ built c r → basic_fixed b ≡ true → c.fixed ≡ true
piece_fixed texts big b D l c r e h = let q = basic_has texts big b D l c r e in q.1 ∙ h

pub entry_no_ends : (a : ℕ) (fx : Bool) (texts : List ℕ) (big : Bool) (b : Basic) (value : Builder Piece) (D : Depths) (ns : List ℕ) (i : ℕ) → basic_fixed b ≡ true → (cs : List Piece) (r : List ℕ)
    → paired a fx (emit_basic texts big b) value D ns i ≡ built cs r → field_ends 0 cs ≡ []
entry_no_ends a fx texts big b value D ns i h cs r e = first (emit_basic texts big b D (drop i ns)) refl
  where
    pairs : (c g : Piece) (p : List ℕ) → built (c ∷ g ∷ []) p ≡ built cs r → c.fixed ≡ true → field_ends 0 cs ≡ []
    pairs c g p m y = let z : c ∷ g ∷ [] ≡ cs = cc in rw (← z) (ends_none c g y)

    second : (c : Piece) (q : List ℕ) → emit_basic texts big b D (drop i ns) ≡ built c q → (x : Built Piece) → value D q ≡ x → field_ends 0 cs ≡ []
    second c q f (built g p) k = pairs c g p (sym (mapped_built two _ (c, g) p (pair_made (emit_basic texts big b) value D (drop i ns) c g q p f k)) ∙ e) (piece_fixed texts big b D (drop i ns) c q f h)
    second c q f (fault n) k =
        absurd (let m : fault n ≡ built cs r = sym (mapped_fault two _ n (pair_fault (emit_basic texts big b) value D (drop i ns) c q n f k)) ∙ e in let z : ◌≡◌ {A = ℕ} 0 1 = cc in omega arith)

    first : (x : Built Piece) → emit_basic texts big b D (drop i ns) ≡ x → field_ends 0 cs ≡ []
    first (built c q) f = second c q f (value D q) refl
    first (fault n) f = absurd (let m : fault n ≡ built cs r = sym (mapped_fault two _ n (both_fault (emit_basic texts big b) value D (drop i ns) n f)) ∙ e in let z : ◌≡◌ {A = ℕ} 0 1 = cc in omega arith)

pub entry_key : (texts : List ℕ) (big : Bool) (b : Basic) (D : Depths) (l : List ℕ) {c : Piece} {r : List ℕ} (keyed : Bool) → keyed ≡ basic_fixed b → emit_basic texts big b D l ≡ built c r → (c.alignment ≡ basic_alignment b) × (c.fixed ≡ keyed)
entry_key texts big b D l {c} {r} keyed h e = let q = basic_has texts big b D l c r e in (q.0, q.1 ∙ sym h)

-- ---- elements that take one event, and readings

module _ (texts : List ℕ) (big : Bool) (n : ℕ) (signature : List ℕ) (it : Item) (D : Depths) (e : it.entry ≡ false) (b : Basic) (f : ℕ) (l₀ ns : List ℕ) (i base top : ℕ) (l l' s s' : List ℕ) (r : Run) where
  pub items_basic : (fx : Bool) → tree_at signature it.child.at ≡ basic b → it.fixed ≡ fx → DoneAll (marks_of fx) (build_many f (emit_basic texts big b D) l₀) ns i base top 0 0 l l' s s' r
      → DoneAll (marks_of it.fixed) (build_many f (item_of texts big n signature it D) l₀) ns i base top 0 0 l l' s s' r
  items_basic fx t h g =
      let q : item_of texts big n signature it ≡ emit_basic texts big b = item_alone texts big n signature it e ∙ ap (λ u. value_of texts big n u) t ∙ emit_basic_lem texts big (65 - n) b in
      subst⁻¹ (λ (x : Builder Piece). DoneAll (marks_of it.fixed) (build_many f (x D) l₀) ns i base top 0 0 l l' s s' r) q (subst⁻¹ (λ (x : Bool). DoneAll (marks_of x) (build_many f (emit_basic texts big b D) l₀) ns i base top 0 0 l l' s s' r) h g)

  pub items_reading : tree_at signature it.child.at ≡ maybe (basic b) → basic_fixed b ≡ true → it.fixed ≡ false → DoneAll (marks_of false) (build_many f (emit_maybe (basic_alignment b) true (emit_basic texts big b) D) l₀) ns i base top 0 0 l l' s s' r
      → DoneAll (marks_of it.fixed) (build_many f (item_of texts big n signature it D) l₀) ns i base top 0 0 l l' s s' r
  unfolding alignment fixed
  items_reading t w h g =
      let m : emit texts big (65 - n) (maybe (basic b)) ≡ emit_maybe (basic_alignment b) true (emit_basic texts big b) =
      emit_maybe_lem texts big (65 - n) (basic b) ∙ ap (λ (x : Builder Piece). emit_maybe (basic_alignment b) (basic_fixed b) x) (emit_basic_lem texts big (65 - n) b) ∙ ap (λ (x : Bool). emit_maybe (basic_alignment b) x (emit_basic texts big b)) w in
      let q : item_of texts big n signature it ≡ emit_maybe (basic_alignment b) true (emit_basic texts big b) = item_alone texts big n signature it e ∙ ap (λ u. value_of texts big n u) t ∙ m in
      subst⁻¹ (λ (x : Builder Piece). DoneAll (marks_of it.fixed) (build_many f (x D) l₀) ns i base top 0 0 l l' s s' r) q (subst⁻¹ (λ (x : Bool). DoneAll (marks_of x) (build_many f (emit_maybe (basic_alignment b) true (emit_basic texts big b) D) l₀) ns i base top 0 0 l l' s s' r) h g)

-- an element that is a text
pub record TextItem (text : List ℕ) (it : Item) (k : Letter) : Type 0 where
  pub key : IsKey k
  pub loose : basic_fixed (key_basic k) ≡ false
  pub tree : tree_at text it.child.at ≡ basic (key_basic k)
  pub same_fixed : it.fixed ≡ false

pub text_item : (signature shapes : List ℕ) (it : Item) → Repeated signature shapes it → it.entry ≡ false → (c : ℕ) → it.child.kind ≡ Text c → TextItem signature it (Text c)
unfolding fixed
text_item signature shapes it h e c q =
    let m = is_text_lem signature it.child.at _ _ c h.child.typed.found (sym (described_kind h.child) ∙ q) in
    let k : Text c ≡ basic_kind (text m.it) = ap Text m.code_is in
    let b : key_basic (Text c) ≡ text m.it = ap key_basic k ∙ key_of (text m.it) in
    let t : tree_at signature it.child.at ≡ basic (key_basic (Text c)) = m.type ∙ ap basic (sym b) in
    record { key = subst⁻¹ IsKey k (is_key (text m.it)); loose = ap basic_fixed b; tree = t; same_fixed = h.loose e ∙ ap fixed t ∙ ap basic_fixed b }
