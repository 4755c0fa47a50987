-- A law for each way out of the reader of variants. Assumes nothing.
use Rattle.std.proofs.Common.{◌≡◌, ℕ, ◌+◌, ◌-◌, ◌≤◌, Bool, true, false, eqb, List, [], ◌∷◌, ◌++◌, length, drop, sym, refl, ap, ◌∙◌, append_assoc, arith, drop_of_length-le, eq-eqb, ne_eqb, eqb-true}
use mathlib.Core.Option.{some}
use Rattle.std.specs.Bool.{then_some}
use Rattle.std.specs.Prelude.{IfSome}
use Rattle.meaning.specs.Choice.{pick}
use Rattle.meaning.specs.Depths as Depth
use Rattle.meaning.specs.Depths.{Depths}
use Rattle.meaning.specs.Texts.{without_final_nul, text_refusal, no_nul, utf8, utf8_from, after_byte, following}
use Rattle.meaning.specs.Types.{Tree, byte, int16, uint16, int32, uint32, int64, uint64, double, string, object_path, signature, Basic, bool, number, text, basic}
use Rattle.meaning.specs.Letters.{basic_letter}
use Rattle.meaning.specs.TypeText.{type_of, type_text}
use Rattle.meaning.specs.Events.{Event, event, text_event, opening, closing}
use Rattle.meaning.specs.Outcome.{Outcome, done, refused, after, chain, closing_at, enclosed}
use Rattle.meaning.specs.Reading.{Reader, child, text_as, separator, remaining, variant_value, variant_type, variant_typed, variant_body, variant_in, reading}
use Rattle.meaning.proofs.TypeTextLaws.{type_of_type_text}
use Rattle.container_depths.specs.Opening.{depths_of}
use Rattle.signature.specs.Places.{is_type, letter_at, basic_kind}
use Rattle.signature.specs.Steps.{key_alignment}
use Rattle.signature.specs.Trees.{tree_at}
use Rattle.signature.specs.declared.Letter.{Letter}
use Rattle.signature.specs.declared.Letter.TheVariants.{End}
use Rattle.signature.proofs.Answers.{judged_none}
use Rattle.signature.proofs.Letters.{Key, key_at}
use Rattle.events.specs.Slices.{next_event, put, put_all, advance}
use Rattle.reader_basic.specs.Answers.{Done, From}
use Rattle.reader_basic.specs.Parts.{key_reader}
use Rattle.meaning.specs.Calls.{Counts}
use Rattle.reader_basic.specs.declared.Context.{Context}
use Rattle.reader_basic.proofs.Answers.{answer, refusing, single, after_event, both, stopped, ended}
use Rattle.reader_steps.specs.Openings.{Inner, Deeper, Opens}
use Rattle.reader_steps.specs.Children.{OnlyBasic, only_letter, HoldsBasic}
use Rattle.reader_steps.specs.Places.{reader_of, body_in, value_at, value_in, inside_of, variant_tree}
use Rattle.reader_steps.proofs.Deepening.{too_deep, within_open, same_inside}
use Rattle.reader_steps.proofs.Readers.{reading_basic}
use Rattle.reader_steps.proofs.ItemLaws.{key_reader_lem}

-- ---- events in front of a chain

after_chain : (es : List Event) (o : Outcome) (f : ℕ → Outcome) → chain (after 0 es o) f ≡ after 0 es (chain o f)
unfolding chain
after_chain es o f = go (eqb o.refusal 0) refl
  where
    go : (b : Bool) → eqb o.refusal 0 ≡ b
        → pick b (after (0 + o.used) (es ++ o.events) (f (0 + o.used))) (after 0 es o) ≡ after 0 es (pick b (after o.used o.events (f o.used)) o)
    go true h =
        let z : 0 + o.used ≡ o.used = omega arith in
        let y : 0 + (o.used + (f o.used).used) ≡ o.used + (f o.used).used = omega arith in
        rw (z, y, append_assoc es o.events (f o.used).events)
    go false h = refl

-- ---- the first events

-- the event of a variant, and that of its type's text
abbrev front : ℕ → ℕ → List ℕ → Outcome
front at from letters = after 0 (opening 118 at ∷ []) (text_as 103 from letters)

module _ (at from : ℕ) (letters : List ℕ) (n m : ℕ) (l l₁ : List ℕ) (p : m ≡ next_event n) (q : l₁ ≡ put l n (event 118 at 0)) where
  pub type_text_refused : (k : ℕ) → k ≡ text_refusal letters → (k ≡ 0 → ⊥) → Done (front at from letters) 0 0 n l l₁ (answer k 0 m)
  unfolding text_as
  type_text_refused k e y =
      after_event 0 0 n m l l₁ l₁ (opening 118 at) (text_as 103 from letters) (answer k 0 m) p q
      (rw (ne_eqb (text_refusal letters) 0 (λ w. y (e ∙ w)), ← e) (refusing k from 0 0 m l₁ y))

  pub type_text_there : (g : ℕ) (l₂ : List ℕ) → text_refusal letters ≡ 0 → g ≡ next_event m → l₂ ≡ put l₁ m (event 103 from (length letters)) → Done (front at from letters) 0 0 n l l₂ (answer 0 0 g)
  unfolding text_as put_all advance put
  type_text_there g l₂ e a b =
      after_event 0 0 n m l l₁ l₂ (opening 118 at) (text_as 103 from letters) (answer 0 0 g) p q
      (rw (eq-eqb (text_refusal letters) 0 e) (record { refusal = refl; used = refl; fits = omega arith; ends = λ w. omega arith; count = a; slice = b }))

-- ---- the last event

module _ (o : Outcome) (part : List ℕ) (lead place end n : ℕ) (l l₁ : List ℕ) (r : Counts) (h : Done o end (length part - lead) n l l₁ r) where
  pub variant_stop : (r.refusal ≡ 0 → ⊥) → From (chain (chain o (remaining (length part - lead))) (closing_at (place + lead))) part lead n l l₁ r
  variant_stop z =
      let len = length part - lead in
      stopped len len len len n l l₁ (chain o (remaining len)) (closing_at (place + lead)) r z (omega arith) (stopped len end len len n l l₁ o (remaining len) r z (omega arith) h)

  pub variant_end : (m : ℕ) (l' : List ℕ) → lead ≤ length part → r.refusal ≡ 0 → m ≡ next_event r.count → l' ≡ put l₁ r.count (event 41 (place + length part) 0)
      → From (chain (chain o (remaining (length part - lead))) (closing_at (place + lead))) part lead n l l' (answer 0 (length part - lead) m)
  variant_end m l' i z a b =
      let f = h.fits in
      let len = length part - lead in
      let g : Done (chain o (remaining len)) len len n l l₁ (answer 0 len r.count) = ended len end len len n (len - r.used) len l l₁ o (remaining len) r z refl (omega arith) (omega arith) (omega arith) h in
      let pl : place + lead + len ≡ place + length part = omega arith in
      let ad : len + 0 ≡ len = omega arith in
      let w = both len len 0 len len 0 n l l₁ l' _ (closing_at (place + lead)) (answer 0 len r.count) (answer 0 0 m) refl (omega arith) (omega arith) g
      (single 0 0 0 r.count m l₁ l' (closing (place + lead + len)) (omega arith) (omega arith) a (rw pl b)) in
      rw ad at w

-- ---- a variant

module _ (part : List ℕ) (lead place : ℕ) (c : Context) (n : ℕ) (l : List ℕ) (s : ℕ) (hs : s ≡ separator (drop lead part)) where
  abbrev letters : List ℕ
  letters = without_final_nul (drop (lead + s) part)

  abbrev typed : ℕ → Outcome
  typed = variant_typed (λ u. reading c.position c.big (64 - c.depths.variant) u) (depths_of c.depths) place part lead s

  pub variant_none : s ≡ 0 → From (inside_of c variant_tree place part lead) part lead n l l (answer 8 0 n)
  unfolding body_in variant_in
  variant_none z = rw (eq-eqb (separator (drop lead part)) 0 (sym hs ∙ z)) (refusing 8 (place + lead) _ _ n l (λ w. omega arith))

  module _ (z : s ≡ 0 → ⊥) (l₁ : List ℕ) (h : Counts) (f : Done (front (place + lead) (place + (lead + s)) letters) 0 0 n l l₁ h) where
    variant_is : inside_of c variant_tree place part lead ≡ chain (chain (front (place + lead) (place + (lead + s)) letters) typed) (closing_at (place + lead))
    unfolding body_in variant_in variant_body enclosed
    variant_is =
        let e : eqb (separator (drop lead part)) 0 ≡ false = ne_eqb _ 0 (λ w. z (hs ∙ w)) in
        rw (e, ← hs)
        (sym (ap (λ (o : Outcome). chain o (closing_at (place + lead))) (after_chain (opening 118 (place + lead) ∷ []) (text_as 103 (place + (lead + s)) letters) typed)
        ∙ after_chain (opening 118 (place + lead) ∷ []) (chain (text_as 103 (place + (lead + s)) letters) typed) (closing_at (place + lead))))

    pub variant_text_lem : (h.refusal ≡ 0 → ⊥) → From (inside_of c variant_tree place part lead) part lead n l l₁ h
    variant_text_lem y =
        let len = length part - lead in
        rw variant_is
        (stopped len len len len n l l₁ (chain (front (place + lead) (place + (lead + s)) letters) typed) (closing_at (place + lead)) h y (omega arith)
        (stopped len 0 len 0 n l l₁ (front (place + lead) (place + (lead + s)) letters) typed h y (omega arith) f))

    module _ (y : h.refusal ≡ 0) where
      -- the text is one, so its event stands there
      judged : text_refusal letters ≡ 0
      unfolding text_as
      judged = go (eqb (text_refusal letters) 0) refl (sym f.refusal ∙ y)
        where
          go : (b : Bool) → eqb (text_refusal letters) 0 ≡ b → (pick b (done 0 (text_event 103 (place + (lead + s)) letters ∷ [])) (refused (text_refusal letters) (place + (lead + s)))).refusal ≡ 0 → text_refusal letters ≡ 0
          go true e w = eqb-true (text_refusal letters) 0 e
          go false e w = w

      -- what is behind it answers the whole
      on : (l' : List ℕ) (r : Counts) → From (chain (typed 0) (closing_at (place + lead))) part lead h.count l₁ l' r → From (inside_of c variant_tree place part lead) part lead n l l' r
      unfolding text_as chain
      on l' r g =
          let u : h.used ≡ 0 = (let w = f.fits in omega arith) in
          let len = length part - lead in
          let w = both len 0 len len 0 len n l l₁ l' (front (place + lead) (place + (lead + s)) letters) (λ (x : ℕ). chain (typed x) (closing_at (place + lead))) h r y (omega arith) (omega arith) f (rw u g) in
          let q : r.used ≡ h.used + r.used = omega arith in
          rw (variant_is ∙ rejoined)
          (record { refusal = w.refusal; used = q ∙ w.used; fits = (let x = w.fits in omega arith); ends = λ v. (let x = w.ends v in omega arith); count = w.count; slice = w.slice })
        where
          rejoined : chain (chain (front (place + lead) (place + (lead + s)) letters) typed) (closing_at (place + lead)) ≡ chain (front (place + lead) (place + (lead + s)) letters) (λ (x : ℕ). chain (typed x) (closing_at (place + lead)))
          rejoined = rw (eq-eqb (text_refusal letters) 0 judged)
              (after_chain (opening 118 (place + lead) ∷ text_event 103 (place + (lead + s)) letters ∷ []) (typed 0) (closing_at (place + lead)))

      pub variant_type_lem : is_type (drop (lead + s) part) ≡ false → From (inside_of c variant_tree place part lead) part lead n l l₁ (answer 9 0 h.count)
      unfolding variant_typed variant_type
      variant_type_lem q =
          let len = length part - lead in
          on l₁ (answer 9 0 h.count)
          (stopped len len len len h.count l₁ l₁ (typed 0) (closing_at (place + lead)) (answer 9 0 h.count) (λ w. omega arith) (omega arith)
          (rw (judged_none (drop (lead + s) part) q) (refusing 9 (place + (lead + s)) len len h.count l₁ (λ w. omega arith))))

      module _ (T : Tree) (t : type_of (drop (lead + s) part) ≡ some T) where
        pub variant_deep : {r : Inner} → Opens Depth.variant c r → (r.refusal ≡ 0 → ⊥) → From (inside_of c variant_tree place part lead) part lead n l l₁ (answer r.refusal 0 h.count)
        unfolding variant_typed variant_type
        variant_deep {r} o w =
            let len = length part - lead in
            on l₁ (answer r.refusal 0 h.count)
            (stopped len len len len h.count l₁ l₁ (typed 0) (closing_at (place + lead)) (answer r.refusal 0 h.count) w (omega arith) (rw t (too_deep (place + lead) _ len len h.count l₁ o w)))

        -- the value, of a reader that is the type's, up to a stop
        module _ {c' : Context} (d : Deeper Depth.variant c c') (v : c.depths.variant ≤ 64) where
          read_inside : reading c.position c.big (64 - c.depths.variant) T ≡ value_at c' T
          read_inside =
              let w : 64 - c.depths.variant ≡ 65 - c'.depths.variant = omega (arith, ap (λ (x : Depths). x.variant) d.depths) in
              ap (λ (x : ℕ). reading c.position c.big x T) w ∙ same_inside d (λ p b x. reader_of p b x T) c'.depths.variant refl

          valued : typed 0 ≡ chain (child (value_in c' T) place part lead (lead + (s - 1))) (remaining (length part - lead))
          unfolding variant_typed variant_type variant_value
          valued =
              rw t
              (within_open d (place + lead) (variant_value (λ u. reading c.position c.big (64 - c.depths.variant) u) (depths_of c.depths) place part lead s T)
              ∙ ap (λ (x : Reader). chain (child (x (depths_of c'.depths)) place part lead (lead + (s - 1))) (remaining (length part - lead))) read_inside)

          pub variant_closed : (read : ℕ → List ℕ → Outcome) (stop : ℕ) → value_in c' T ≡ read → stop ≡ lead + (s - 1) → (l' : List ℕ) (r : Counts)
              → From (chain (chain (child read place part lead stop) (remaining (length part - lead))) (closing_at (place + lead))) part lead h.count l₁ l' r
              → From (inside_of c variant_tree place part lead) part lead n l l' r
          variant_closed read stop e i l' r g = on l' r (rw (valued, e, ← i) g)

-- ---- a type of one basic letter

basic_text : (b : Basic) → text_refusal (basic_letter b ∷ []) ≡ 0
unfolding text_refusal no_nul utf8 utf8_from after_byte following
basic_text bool = refl
basic_text (number byte) = refl
basic_text (number int16) = refl
basic_text (number uint16) = refl
basic_text (number int32) = refl
basic_text (number uint32) = refl
basic_text (number int64) = refl
basic_text (number uint64) = refl
basic_text (number double) = refl
basic_text (text string) = refl
basic_text (text object_path) = refl
basic_text (text signature) = refl

basic_letters : (b : Basic) → without_final_nul (basic_letter b ∷ []) ≡ basic_letter b ∷ []
unfolding without_final_nul
basic_letters bool = refl
basic_letters (number byte) = refl
basic_letters (number int16) = refl
basic_letters (number uint16) = refl
basic_letters (number int32) = refl
basic_letters (number uint32) = refl
basic_letters (number int64) = refl
basic_letters (number uint64) = refl
basic_letters (number double) = refl
basic_letters (text string) = refl
basic_letters (text object_path) = refl
basic_letters (text signature) = refl

-- what is known of it
pub record BasicType (l : List ℕ) (kind : Letter) : Type 0 where
  pub it : Basic
  pub letter : kind ≡ basic_kind it
  pub type : type_of l ≡ some (basic it)
  pub text : text_refusal (without_final_nul l) ≡ 0
  pub one : length (without_final_nul l) ≡ 1

pub basic_type : (l : List ℕ) (kind : Letter) → kind ≡ only_letter l → (key_alignment kind ≡ 0 → ⊥) → BasicType l kind
unfolding only_letter type_text
basic_type l kind e k = go (eqb (length l) 1) refl
  where
    known : length l ≡ 1 → kind ≡ letter_at l 0 → (y : Key l 0) → BasicType l kind
    known h q y =
        let b = y.it in
        let i : l ≡ basic_letter b ∷ [] = y.goes.is ∙ ap (λ (x : List ℕ). basic_letter b ∷ x) (let w : length l ≤ 1 = omega arith in drop_of_length-le l w) in
        record {
          it = b;
          letter = q ∙ y.kind;
          type = ap type_of i ∙ type_of_type_text (basic b) (omega arith);
          text = ap (λ (x : List ℕ). text_refusal (without_final_nul x)) i ∙ ap text_refusal (basic_letters b) ∙ basic_text b;
          one = ap (λ (x : List ℕ). length (without_final_nul x)) i ∙ ap length (basic_letters b);
        }

    go : (b : Bool) → eqb (length l) 1 ≡ b → BasicType l kind
    go true h =
        let q : kind ≡ letter_at l 0 = e ∙ rw h in
        known (eqb-true (length l) 1 h) q (key_at l 0 (λ w. k (ap key_alignment q ∙ w)))
    go false h = let q : kind ≡ End = e ∙ rw h in absurd (k (ap key_alignment q))

module _ {l : List ℕ} {kind : Letter} (b : BasicType l kind) where
  pub basic_reader : (c : Context) → value_in c (basic b.it) ≡ key_reader c.position c.big kind (depths_of c.depths)
  basic_reader c =
      ap (λ (x : Reader). x (depths_of c.depths)) (reading_basic c.position c.big (65 - c.depths.variant) b.it ∙ key_reader_lem c.position c.big b.it ∙ ap (key_reader c.position c.big) (sym b.letter))

-- the ways out of a variant of one
module _ (part : List ℕ) (lead place : ℕ) (c : Context) (n : ℕ) (l : List ℕ) (from : ℕ) (kind : Letter) (h : HoldsBasic part lead from kind)
    (m : ℕ) (l₁ : List ℕ) (p : m ≡ next_event n) (q : l₁ ≡ put l n (event 118 (place + lead) 0)) (g : ℕ) (l₂ : List ℕ) (a : g ≡ next_event m) (b : l₂ ≡ put l₁ m (event 103 (place + from) 1)) where
  abbrev nul : ℕ
  nul = separator (drop lead part)

  held : BasicType (drop (lead + nul) part) kind
  held = basic_type (drop (lead + nul) part) kind (h.one ∙ ap (λ (x : ℕ). only_letter (drop x part)) h.type) h.basic

  some_nul : nul ≡ 0 → ⊥
  some_nul z = let x = h.there in let y = h.type in omega arith

  first : Done (front (place + lead) (place + (lead + nul)) (without_final_nul (drop (lead + nul) part))) 0 0 n l l₂ (answer 0 0 g)
  first =
      type_text_there (place + lead) (place + (lead + nul)) (without_final_nul (drop (lead + nul) part)) n m l l₁ p q g l₂ held.text a
      (b ∙ ap (λ (x : ℕ). put l₁ m (event 103 (place + x) 1)) h.type ∙ ap (λ (x : ℕ). put l₁ m (event 103 (place + (lead + nul)) x)) (sym held.one))

  pub basic_deep : {r : Inner} → Opens Depth.variant c r → (r.refusal ≡ 0 → ⊥) → From (inside_of c variant_tree place part lead) part lead n l l₂ (answer r.refusal 0 g)
  basic_deep o w = variant_deep part lead place c n l nul refl some_nul l₂ (answer 0 0 g) first refl (basic held.it) held.type o w

  pub basic_closed : {c' : Context} → Deeper Depth.variant c c' → c.depths.variant ≤ 64 → (l' : List ℕ) (r : Counts)
      → From (chain (chain (child (key_reader c'.position c'.big kind (depths_of c'.depths)) place part lead (from - 1)) (remaining (length part - lead))) (closing_at (place + lead))) part lead g l₂ l' r
      → From (inside_of c variant_tree place part lead) part lead n l l' r
  basic_closed {c'} d v l' r w =
      let x = h.there in
      let y = h.type in
      variant_closed part lead place c n l nul refl some_nul l₂ (answer 0 0 g) first refl (basic held.it) held.type d v _ (from - 1) (basic_reader held c') (omega arith) l' r w

-- ---- the only letter

module _ (l : List ℕ) where
  pub only_one : length l ≡ 1 → letter_at l 0 ≡ only_letter l
  unfolding only_letter
  only_one h = rw (eq-eqb (length l) 1 h)

-- ---- what the readers of a variant ask

pub holds_basic : (part : List ℕ) (lead s : ℕ) (kind : Letter) → s ≡ separator (drop lead part) → (s ≡ 0 → ⊥) → lead + s ≤ length part → kind ≡ only_letter (drop (lead + s) part) → (key_alignment kind ≡ 0 → ⊥)
    → HoldsBasic part lead (lead + s) kind
holds_basic part lead s kind e z h k b = record { type = ap (λ (x : ℕ). lead + x) e; there = omega (arith, z); inside = h; one = k; basic = b }

pub same_value : (c : Context) (t u : List ℕ) (x : ℕ) → t ≡ u → x ≡ 0 → value_in c (tree_at u 0) ≡ value_in c (tree_at t x)
same_value c t u x e f = rw (e, f)

-- a character, where a test says that it is one
pub only_by : (l : List ℕ) (c : ℕ) (b : Bool) → (b ≡ true → OnlyBasic l c) → IfSome (then_some b c) (OnlyBasic l)
only_by l c true f = f refl
only_by l c false f = tt
