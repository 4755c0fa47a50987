-- The fields of a structure: the field at a place, and what the loop over fields keeps. Assumes nothing.
use mathlib.Core.Path.{◌≡◌, refl, ap, sym, ◌∙◌}
use mathlib.Core.List.{List, [], ◌∷◌}
use mathlib.Core.Bool.{Bool, true, false, ◌&&◌, false≢true}
use native.Mathlib.Omega.{arith}
use Prim.Native.Nat.{ℕ, ◌+◌, ◌-◌, ◌≤◌}
use lib.Dec.{eqb}
use lib.ListN.{length, drop}
use Rattle.meaning.specs.Depths.{Depths}
use Rattle.meaning.specs.Padding.{padding, zeros}
use Rattle.meaning.specs.Types.{Tree, Fields, last, next, alignment, fixed, all_fixed}
use Rattle.meaning.specs.Written.{Piece, stop, unless, field_ends}
use Rattle.meaning.specs.Choice.{pick}
use Rattle.meaning_writing.specs.Writing.{Built, built, fault, mapped, followed, when, on_event, on_plain, sealed, build_both}
use Rattle.meaning_writing.specs.Emitting.{one_piece, more_pieces, emit_last, emit_next, emit_fields}
use Rattle.meaning_writing.proofs.EmitLaws.{emit_alignment, emit_fixed}
use Rattle.meaning_writing.proofs.WritingSteps.{both_second, both_fault, mapped_built, mapped_fault}
use Rattle.signature.specs.Places.{letter_at}
use Rattle.signature.specs.Shapes.{Shaped, shape_in}
use Rattle.signature.specs.Trees.{tree_at, fields_at, Rowed, Described}
use Rattle.signature.specs.declared.Letter.{Letter}
use Rattle.signature.specs.declared.Letter.TheVariants.{End, Bad, Boolean, Number, Text, Variant, Maybe, Array, OpenStructure, CloseStructure, OpenEntry, CloseEntry}
use Rattle.signature.specs.declared.shapes.Shape.{Shape}
use Rattle.signature.proofs.TreeLaws.{LastField, NextField, last_field_of, next_field_of}
use Rattle.writer_store.specs.Stores.{cap, sum, puts}
use Rattle.writer_ends.specs.Ends.{Kept}
use Rattle.writer_basic.specs.Wrote.{Done, MadeAll, DoneAll}
use Rattle.writer_cycle.specs.Places.{value_of, fields_of}
use Rattle.writer_basic.specs.Wrote.{Answer}
use Rattle.writer_basic.specs.Wrote.{Run}
use Rattle.writer_ends.proofs.EndLaws.{kept_not}
use Rattle.writer_basic.proofs.Answers.{made_of, fault_of}
use Rattle.writer_cycle.proofs.ItemLaws.{emit_over_lem}
use Rattle.writer_basic.proofs.Rows.{run, wrongs, none_more, says_on, fields_steady}

-- ---- the field at a place, last or not

abbrev closing : Letter → Bool
closing End = false
closing Bad = false
closing Boolean = false
closing (Number c w) = false
closing (Text c) = false
closing Variant = false
closing Maybe = false
closing Array = false
closing OpenStructure = false
closing CloseStructure = true
closing OpenEntry = false
closing CloseEntry = false

-- a letter closes a structure, or does not
closes : {A : Type 0} (b : Letter) → (b ≡ CloseStructure → A) → ((b ≡ CloseStructure → ⊥) → A) → A
closes CloseStructure f g = f refl
closes End f g = g (λ e. false≢true (ap closing e))
closes Bad f g = g (λ e. false≢true (ap closing e))
closes Boolean f g = g (λ e. false≢true (ap closing e))
closes (Number c w) f g = g (λ e. false≢true (ap closing e))
closes (Text c) f g = g (λ e. false≢true (ap closing e))
closes Variant f g = g (λ e. false≢true (ap closing e))
closes Maybe f g = g (λ e. false≢true (ap closing e))
closes Array f g = g (λ e. false≢true (ap closing e))
closes OpenStructure f g = g (λ e. false≢true (ap closing e))
closes OpenEntry f g = g (λ e. false≢true (ap closing e))
closes CloseEntry f g = g (λ e. false≢true (ap closing e))

pub record FieldHere (text shapes : List ℕ) (i : ℕ) (f : Shape) : Type 0 where
  pub shape : Described text shapes f
  pub starts : f.at ≡ i

pub field_here : (text shapes : List ℕ) (i : ℕ) → Rowed text i → Shaped text shapes → (f : Shape) → f ≡ shape_in text shapes i → (b : Letter) → b ≡ letter_at text f.next → FieldHere text shapes i f
field_here text shapes i w z f q b e = closes b (λ h. record { shape = (last_field_of text shapes i w z f q b e h).shape; starts = ap (λ (x : Shape). x.at) q }) (λ h. record { shape = (next_field_of text shapes i w z f q b e h).shape; starts = ap (λ (x : Shape). x.at) q })

-- ---- what the loop over fields keeps

pub record FieldsLeft (texts : List ℕ) (big : Bool) (nested : ℕ) (D : Depths) (text : List ℕ) (at : ℕ) (ns : List ℕ) (i base top : ℕ) (l₀ s₀ : List ℕ) (f e k j : ℕ) (l s : List ℕ) : Type 0 where
  pub rowed : Rowed text f
  pub within : e ≤ length ns
  pub small : k ≤ cap
  pub few : j ≤ cap
  pub same : length l ≡ length l₀
  pub sames : length s ≡ length s₀
  pub whole : (l'' s'' : List ℕ) (r : Run) → DoneAll field_ends (fields_of texts big nested (fields_at text f) D (drop e ns)) ns e base top k j l l'' s s'' r
      → DoneAll field_ends (fields_of texts big nested (fields_at text at) D (drop i ns)) ns i base top 0 0 l₀ l'' s₀ s'' r

-- ---- what fields are written as, one step

module _ (texts : List ℕ) (big : Bool) (nested : ℕ) (h : nested ≤ 64) (D : Depths) where
  last_is : (t : Tree) (l : List ℕ) → fields_of texts big nested (last t) D l ≡ mapped one_piece (value_of texts big nested t D l)
  unfolding emit_fields emit_last
  last_is t l = ap (λ b. mapped one_piece (b D l)) (emit_over_lem texts big nested t h)

  next_is : (t : Tree) (ts : Fields) (l : List ℕ) → fields_of texts big nested (next t ts) D l ≡ mapped more_pieces (build_both (value_of texts big nested t) (fields_of texts big nested ts) D l)
  unfolding emit_fields emit_next
  next_is t ts l = ap (λ b. mapped more_pieces (build_both b (fields_of texts big nested ts) D l)) (emit_over_lem texts big nested t h)

  joined_on : (c : Piece) (y : Built (List Piece)) → mapped more_pieces (mapped {B = Piece × List Piece} (λ w. (c, w)) y) ≡ mapped (λ vs. c ∷ vs) y
  unfolding mapped
  joined_on c (built cs r) = refl
  joined_on c (fault n) = refl

  module _ (t : Tree) (l : List ℕ) where
    pub last_fault : (n : ℕ) → value_of texts big nested t D l ≡ fault n → fields_of texts big nested (last t) D l ≡ fault n
    last_fault n e = last_is t l ∙ mapped_fault one_piece _ n e

    pub last_made : (c : Piece) (r : List ℕ) → value_of texts big nested t D l ≡ built c r → fields_of texts big nested (last t) D l ≡ built (c ∷ []) r
    last_made c r e = last_is t l ∙ mapped_built one_piece _ c r e

    pub next_fault : (ts : Fields) (n : ℕ) → value_of texts big nested t D l ≡ fault n → fields_of texts big nested (next t ts) D l ≡ fault n
    next_fault ts n e = next_is t ts l ∙ mapped_fault more_pieces _ n (both_fault (value_of texts big nested t) (fields_of texts big nested ts) D l n e)

    pub next_made : (ts : Fields) (c : Piece) (r : List ℕ) → value_of texts big nested t D l ≡ built c r → fields_of texts big nested (next t ts) D l ≡ mapped (λ vs. c ∷ vs) (fields_of texts big nested ts D r)
    next_made ts c r e = next_is t ts l ∙ ap (mapped more_pieces) (both_second (value_of texts big nested t) (fields_of texts big nested ts) D l c r e) ∙ joined_on c (fields_of texts big nested ts D r)

  -- there is a field more, so that the end before it is kept unless it is fixed
  abbrev Ends : List Piece → Type 0
  Ends cs = (k : ℕ) (c : Piece) → field_ends k (c ∷ cs) ≡ unless c.fixed (stop k c) (field_ends (stop k c) cs)

  alone_ends : (x : Built Piece) (cs : List Piece) (r : List ℕ) → mapped one_piece x ≡ built cs r → Ends cs
  unfolding mapped field_ends
  alone_ends (built g q) cs r e k c = let z : cs ≡ g ∷ [] = sym (ap (λ (y : Built (List Piece)). elim y [ built v w ↦ v | fault n ↦ [] ]) e) in rw z
  alone_ends (fault n) cs r e k c = absurd (let z : ◌≡◌ {A = ℕ} 0 1 = cc in omega arith)

  cons_ends : (g : Piece) (x : Built (List Piece)) (cs : List Piece) (r : List ℕ) → mapped (λ vs. g ∷ vs) x ≡ built cs r → Ends cs
  unfolding mapped field_ends
  cons_ends g (built gs q) cs r e k c = let z : cs ≡ g ∷ gs = sym (ap (λ (y : Built (List Piece)). elim y [ built v w ↦ v | fault n ↦ [] ]) e) in rw z
  cons_ends g (fault n) cs r e k c = absurd (let z : ◌≡◌ {A = ℕ} 0 1 = cc in omega arith)

  pub fields_ends : (ts : Fields) (l : List ℕ) (cs : List Piece) (r : List ℕ) → fields_of texts big nested ts D l ≡ built cs r → Ends cs
  fields_ends (last t) l cs r e = alone_ends (value_of texts big nested t D l) cs r (sym (last_is t l) ∙ e)
  fields_ends (next t ts) l cs r e = go (value_of texts big nested t D l) refl
    where
      go : (x : Built Piece) → value_of texts big nested t D l ≡ x → Ends cs
      go (built g q) f = cons_ends g (fields_of texts big nested ts D q) cs r (sym (next_made t l ts g q f) ∙ e)
      go (fault n) f = absurd (let p : fault n ≡ built cs r = sym (next_fault t l ts n f) ∙ e in let z : ◌≡◌ {A = ℕ} 0 1 = cc in omega arith)

  -- ---- the loop

  pub fields_begin : (text : List ℕ) (at : ℕ) (ns : List ℕ) (i base top : ℕ) (l s : List ℕ) → Rowed text at → i ≤ length ns → FieldsLeft texts big nested D text at ns i base top l s at i 0 0 l s
  fields_begin text at ns i base top l s w n = record { rowed = w; within = n; small = omega arith; few = omega arith; same = refl; sames = refl; whole = λ l'' s'' r d. d }

  module _ (text shapes : List ℕ) (at : ℕ) (ns : List ℕ) (i base top : ℕ) (l₀ s₀ : List ℕ) (f e k j : ℕ) (l s : List ℕ) (v : FieldsLeft texts big nested D text at ns i base top l₀ s₀ f e k j l s)
      (g : Shape) (start tops : ℕ) (l₁ l₂ s₁ : List ℕ) (r : Answer) (d : Done (value_of texts big nested (tree_at text g.at) D (drop e ns)) ns e start tops l₁ l₂ s s₁ r) where
    abbrev Whole : List ℕ → List ℕ → Run → Type 0
    Whole l'' s'' x = DoneAll field_ends (fields_of texts big nested (fields_at text at) D (drop i ns)) ns i base top 0 0 l₀ l'' s₀ s'' x

    pub fields_stop : (b : Letter) → (b ≡ CloseStructure → LastField text shapes f g) → ((b ≡ CloseStructure → ⊥) → NextField text shapes f g) → (r.refusal ≡ 0 → ⊥) → Whole l₂ s₁ (run r.refusal 0 0 0)
    fields_stop b here there y = closes b (λ h. last (here h)) (λ h. next (there h))
      where
        last : LastField text shapes f g → Whole l₂ s₁ (run r.refusal 0 0 0)
        last w = v.whole l₂ s₁ _ (wrongs (ap (λ ts. fields_of texts big nested ts D (drop e ns)) w.fields ∙ last_fault (tree_at text g.at) (drop e ns) r.refusal (fault_of y d)) y)

        next : NextField text shapes f g → Whole l₂ s₁ (run r.refusal 0 0 0)
        next w = v.whole l₂ s₁ _ (wrongs (ap (λ ts. fields_of texts big nested ts D (drop e ns)) w.fields ∙ next_fault (tree_at text g.at) (drop e ns) (fields_at text g.next) r.refusal (fault_of y d)) y)

    module _ (p q : ℕ) (z : r.refusal ≡ 0) (ha : g.alignment ≡ alignment (tree_at text g.at)) (hp : p ≡ padding k g.alignment) (h₀ : l₁ ≡ puts l (base + k) (zeros (padding k g.alignment))) (hs : start ≡ sum base (k + p)) (ht : tops ≡ sum top j)
        (hq : q ≡ sum (k + p) r.size) (n₂ : length l₂ ≡ length l₀) (m₁ : length s₁ ≡ length s₀) where
      h₁ : l₁ ≡ puts l (base + k) (zeros p)
      h₁ = h₀ ∙ ap (λ (y : ℕ). puts l (base + k) (zeros y)) (sym hp)

      pub fields_last : LastField text shapes f g → Whole l₂ s₁ (run 0 r.next q j)
      unfolding mapped field_ends
      fields_last w =
          let t = made_of z d in
          let m = t.facts in
          let al : t.piece.alignment ≡ g.alignment = emit_alignment texts big (65 - nested) (tree_at text g.at) D (drop e ns) t.piece t.rest t.is ∙ sym ha in
          let none : MadeAll field_ends [] (drop r.next ns) ns r.next base top q j l₂ l₂ s₁ s₁ (run 0 r.next q j) = none_more field_ends ns r.next base top q j l₂ s₁ refl m.within (omega arith) v.few in
          let is : fields_of texts big nested (fields_at text f) D (drop e ns) ≡ built (t.piece ∷ []) (drop r.next ns) =
          ap (λ ts. fields_of texts big nested ts D (drop e ns)) w.fields ∙ last_made (tree_at text g.at) (drop e ns) t.piece t.rest t.is ∙ ap (built (t.piece ∷ [])) m.behind in
          v.whole l₂ s₁ _
          (rw is
          (record {
            says = says_on field_ends fields_steady t.piece t.rest ns g.alignment e base top k j p q j start tops true l l₁ l₂ l₂ l₂ s s₁ s₁ s₁ r (run 0 r.next q j) al hp h₁ hs ht m hq (kept_not top j q l₂ s₁) v.small v.few
                (n₂ ∙ sym v.same) (n₂ ∙ sym v.same) (m₁ ∙ sym v.sames) (m₁ ∙ sym v.sames) (built [] (drop r.next ns)) (λ cs rest' u. (let y : cs ≡ [] = sym (ap (λ (x : Built (List Piece)). elim x [ built v w ↦ v | fault n ↦ [] ]) u) in rw y)) none;
          }))

      pub fields_next : (o : ℕ) (l₃ s₂ : List ℕ) → NextField text shapes f g → Kept top j q g.fixed l₂ l₃ s₁ s₂ o → length l₃ ≡ length l₀ → length s₂ ≡ length s₀
          → FieldsLeft texts big nested D text at ns i base top l₀ s₀ g.next r.next q o l₃ s₂
      fields_next o l₃ s₂ w kp n₃ m₂ =
          let t = made_of z d in
          let m = t.facts in
          let al : t.piece.alignment ≡ g.alignment = emit_alignment texts big (65 - nested) (tree_at text g.at) D (drop e ns) t.piece t.rest t.is ∙ sym ha in
          let fx : t.piece.fixed ≡ g.fixed = emit_fixed texts big (65 - nested) (tree_at text g.at) D (drop e ns) t.piece t.rest t.is ∙ sym w.same_fixed in
          let is : fields_of texts big nested (fields_at text f) D (drop e ns) ≡ mapped (λ vs. t.piece ∷ vs) (fields_of texts big nested (fields_at text g.next) D (drop r.next ns)) =
          ap (λ ts. fields_of texts big nested ts D (drop e ns)) w.fields ∙ next_made (tree_at text g.at) (drop e ns) (fields_at text g.next) t.piece (drop r.next ns) (t.is ∙ ap (built t.piece) m.behind) in
          record {
            rowed = w.rowed;
            within = m.within;
            small = omega arith;
            few = count_small g.fixed refl;
            same = n₃;
            sames = m₂;
            whole = λ l'' s'' x y. v.whole l'' s'' x
                (rw is
                (record {
                  says = says_on field_ends fields_steady t.piece t.rest ns g.alignment e base top k j p q o start tops g.fixed l l₁ l₂ l₃ l'' s s₁ s₂ s'' r x al hp h₁ hs ht m hq kp v.small v.few
                      (n₂ ∙ sym v.same) (n₃ ∙ sym v.same) (m₁ ∙ sym v.sames) (m₂ ∙ sym v.sames) (fields_of texts big nested (fields_at text g.next) D (drop r.next ns))
                      (λ cs rest' u. fields_ends (fields_at text g.next) (drop r.next ns) cs rest' u k t.piece ∙ ap (λ (b : Bool). unless b (stop k t.piece) (field_ends (stop k t.piece) cs)) fx) y.says;
                }));
          }
        where
          count_small : (b : Bool) → g.fixed ≡ b → o ≤ cap
          count_small true u = omega (arith, (kp.skips u).0, v.few)
          count_small false u = omega (arith, kp.counts u)

-- ---- a structure that is fixed in size keeps no end

module _ (texts : List ℕ) (big : Bool) (nested : ℕ) (h : nested ≤ 64) (D : Depths) where
  no_ends : (ts : Fields) → all_fixed ts ≡ true → (l : List ℕ) (cs : List Piece) (r : List ℕ) (k : ℕ) → fields_of texts big nested ts D l ≡ built cs r → field_ends k cs ≡ []
  unfolding all_fixed
  no_ends (last t) f l cs r k e = go (value_of texts big nested t D l) refl
    where
      go : (x : Built Piece) → value_of texts big nested t D l ≡ x → field_ends k cs ≡ []
      go (built g q) i = let p : built (g ∷ []) q ≡ built cs r = sym (last_made texts big nested h D t l g q i) ∙ e in let z : g ∷ [] ≡ cs = cc in rw (← z) (unfold field_ends in refl)
      go (fault n) i = absurd (let p : fault n ≡ built cs r = sym (last_fault texts big nested h D t l n i) ∙ e in let z : ◌≡◌ {A = ℕ} 0 1 = cc in omega arith)
  no_ends (next t ts) f l cs r k e = go (λ q gs p j m. no_ends ts (both (fixed t) (all_fixed ts) f).1 q gs p j m) (value_of texts big nested t D l) refl
    where
      both : (x y : Bool) → (x && y) ≡ true → (x ≡ true) × (y ≡ true)
      both true y q = (refl, q)
      both false y q = absurd (false≢true q)

      tail : (g : Piece) (q : List ℕ) → g.fixed ≡ true → (x : Built (List Piece)) → fields_of texts big nested ts D q ≡ x → mapped (λ vs. g ∷ vs) x ≡ built cs r → ((gs : List Piece) (p : List ℕ) (j : ℕ) → fields_of texts big nested ts D q ≡ built gs p → field_ends j gs ≡ []) → field_ends k cs ≡ []
      tail g q y (built gs p) i m ih = unfold mapped in (let z : g ∷ gs ≡ cs = cc in rw (← z) (fields_ends texts big nested h D ts q gs p i k g ∙ ap (λ (b : Bool). unless b (stop k g) (field_ends (stop k g) gs)) y ∙ ih gs p (stop k g) i))
      tail g q y (fault n) i m ih = unfold mapped in absurd (let z : ◌≡◌ {A = ℕ} 0 1 = cc in omega arith)

      go : ((q : List ℕ) (gs : List Piece) (p : List ℕ) (j : ℕ) → fields_of texts big nested ts D q ≡ built gs p → field_ends j gs ≡ []) → (x : Built Piece) → value_of texts big nested t D l ≡ x → field_ends k cs ≡ []
      go ih (built g q) i =
          tail g q (emit_fixed texts big (65 - nested) t D l g q i ∙ (both (fixed t) (all_fixed ts) f).0) (fields_of texts big nested ts D q) refl (sym (next_made texts big nested h D t l ts g q i) ∙ e)
          (λ gs p j m. ih q gs p j m)
      go ih (fault n) i = absurd (let p : fault n ≡ built cs r = sym (next_fault texts big nested h D t l ts n i) ∙ e in let z : ◌≡◌ {A = ℕ} 0 1 = cc in omega arith)

  pub sealed_no_ends : (ts : Fields) → all_fixed ts ≡ true → (l : List ℕ) (cs : List Piece) (r : List ℕ) → sealed (fields_of texts big nested ts D l) ≡ built cs r → field_ends 0 cs ≡ []
  unfolding sealed
  sealed_no_ends ts f l cs r e = go (fields_of texts big nested ts D l) refl e
    where
      shut : (gs : List Piece) (b : Bool) (q : List ℕ) → pick b (built gs q) (fault 17) ≡ built cs r → gs ≡ cs
      shut gs true q i = cc
      shut gs false q i = absurd (let z : ◌≡◌ {A = ℕ} 0 1 = cc in omega arith)

      plain : (gs : List Piece) (q : List ℕ) → on_plain 41 q (λ z. built gs z) ≡ built cs r → gs ≡ cs
      plain gs [] i = unfold on_plain on_event in absurd (let z : ◌≡◌ {A = ℕ} 0 1 = cc in omega arith)
      plain gs (a ∷ []) i = unfold on_plain on_event in absurd (let z : ◌≡◌ {A = ℕ} 0 1 = cc in omega arith)
      plain gs (a ∷ b ∷ []) i = unfold on_plain on_event in absurd (let z : ◌≡◌ {A = ℕ} 0 1 = cc in omega arith)
      plain gs (a ∷ b ∷ c ∷ q) i = unfold on_plain on_event when in shut gs (eqb a 41 && eqb c 0) q i

      go : (x : Built (List Piece)) → fields_of texts big nested ts D l ≡ x → followed x (λ v m. on_plain 41 m (λ z. built v z)) ≡ built cs r → field_ends 0 cs ≡ []
      go (built gs q) i m = unfold followed in (let z = plain gs q m in rw (← z) (no_ends ts f l gs q 0 i))
      go (fault n) i m = unfold followed in absurd (let z : ◌≡◌ {A = ℕ} 0 1 = cc in omega arith)
