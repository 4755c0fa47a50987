-- Children in a row: one and then the others, and what the loop over elements keeps. Assumes nothing.
use Prim.Native.Nat.{ℕ, suc, ◌+◌, ◌-◌, ◌≤◌, ◌<◌, min}
use mathlib.Core.Path.{◌≡◌, refl, sym, ap, ◌∙◌}
use mathlib.Core.List.{List, [], ◌∷◌, ◌++◌, append-nil, append_assoc}
use mathlib.Core.Bool.{Bool, true, false}
use native.Mathlib.Omega.{arith}
use native.Mathlib.Decide.{dec_lt}
use lib.ListN.{length, drop, get_or, length-append, length-replicate, length-drop}
use Rattle.meaning.specs.Padding.{padding, zeros}
use Rattle.meaning.specs.Written.{Piece, stop, layout, ends, unless, field_ends}
use Rattle.meaning_writing.specs.Writing.{Built, built, fault, mapped, build_many}
use Rattle.meaning_writing.proofs.WritingSteps.{Shorter, numbers_at, many_end, many_closes, many_fault, many_more, many_enough}
use Rattle.meaning.proofs.LayoutLaws.{layout_cons, length_layout, layout_none}
use Rattle.writer_store.specs.Stores.{cap, sum, puts}
use Rattle.writer_ends.specs.Ends.{Stored, Room, Kept}
use Rattle.writer_basic.specs.Wrote.{Made, Done, marks_of, MadeAll, SaysAll, DoneAll}
use Rattle.writer_basic.specs.Wrote.{Answer}
use Rattle.std.specs.Prelude.{Result, IsErr, IsErrAnd}
use Rattle.meaning.specs.Refused.{number_of}
use Rattle.meaning.specs.declared.refusals.Refusal.{Refusal}
use Rattle.writer_basic.specs.Wrote.{Run, run_in}
use Rattle.writer_basic.specs.declared.Row.{Row}
use Rattle.writer_store.proofs.Puts.{length_puts, puts_none}
use Rattle.writer_ends.proofs.EndLaws.{puts_stored, stored_none, stored_then, room_in}
use Rattle.writer_basic.proofs.Answers.{handed, made_of, fault_of}

abbrev pub run : ℕ → ℕ → ℕ → ℕ → Run
run k n u m = record { refusal = k; next = n; size = u; count = m }

-- ---- layouts and ends

-- how many ends are kept does not depend on where the row stands
abbrev pub Steady : (ℕ → List Piece → List ℕ) → Type 0
Steady m = (k k' : ℕ) (cs : List Piece) → length (m k cs) ≡ length (m k' cs)

ends_steady : Steady ends
unfolding ends
ends_steady k k' [] = refl
ends_steady k k' (c ∷ cs) = ap suc (ends_steady (stop k c) (stop k' c) cs)

pub marks_steady : (fx : Bool) → Steady (marks_of fx)
marks_steady true k k' cs = refl
marks_steady false k k' cs = ends_steady k k' cs

pub fields_steady : Steady field_ends
unfolding field_ends
fields_steady k k' [] = refl
fields_steady k k' (c ∷ []) = refl
fields_steady k k' (c ∷ g ∷ cs) = go c.fixed (fields_steady (stop k c) (stop k' c) (g ∷ cs))
  where
    go : (b : Bool) → length (field_ends (stop k c) (g ∷ cs)) ≡ length (field_ends (stop k' c) (g ∷ cs))
        → length (unless b (stop k c) (field_ends (stop k c) (g ∷ cs))) ≡ length (unless b (stop k' c) (field_ends (stop k' c) (g ∷ cs)))
    go true h = h
    go false h = ap suc h

pub marks_cons : (fx : Bool) (k : ℕ) (c : Piece) (cs : List Piece) → marks_of fx k (c ∷ cs) ≡ unless fx (stop k c) (marks_of fx (stop k c) cs)
unfolding ends
marks_cons true k c cs = refl
marks_cons false k c cs = refl

pub marks_nil : (fx : Bool) (k : ℕ) → marks_of fx k [] ≡ []
unfolding ends
marks_nil true k = refl
marks_nil false k = refl

-- ---- what a run says of what it answers

pub record IsRow (m : ℕ → List Piece → List ℕ) (x : Built (List Piece)) (ns : List ℕ) (i base top k j : ℕ) (l l' s s' : List ℕ) (r : Run) : Type 0 where
  pub pieces : List Piece
  pub rest : List ℕ
  pub is : x ≡ built pieces rest
  pub facts : MadeAll m pieces rest ns i base top k j l l' s s' r

module _ {m : ℕ → List Piece → List ℕ} {ns : List ℕ} {i base top k j : ℕ} {l l' s s' : List ℕ} {r : Run} where
  pub row_of : {x : Built (List Piece)} → r.refusal ≡ 0 → DoneAll m x ns i base top k j l l' s s' r → IsRow m x ns i base top k j l l' s s' r
  row_of {x} z d = go x refl d.says
    where
      go : (y : Built (List Piece)) → x ≡ y → SaysAll m y ns i base top k j l l' s s' r → IsRow m x ns i base top k j l l' s s' r
      go (built cs rest) e d = record { pieces = cs; rest = rest; is = e; facts = d }
      go (fault n) e d = absurd (d.real (sym d.refusal ∙ z))

  pub stop_of : {x : Built (List Piece)} → (r.refusal ≡ 0 → ⊥) → DoneAll m x ns i base top k j l l' s s' r → x ≡ fault r.refusal
  stop_of {x} z d = go x d.says
    where
      go : (y : Built (List Piece)) → SaysAll m y ns i base top k j l l' s s' r → y ≡ fault r.refusal
      go (built cs rest) d = absurd (z d.refusal)
      go (fault n) d = rw d.refusal

pub wrongs : {m : ℕ → List Piece → List ℕ} {x : Built (List Piece)} {ns : List ℕ} {i base top k j : ℕ} {l l' s s' : List ℕ} {r : Run} → x ≡ fault r.refusal → (r.refusal ≡ 0 → ⊥) → DoneAll m x ns i base top k j l l' s s' r
wrongs e z = rw e (record { says = record { refusal = refl; real = z } })

pub stopped_on : {m : ℕ → List Piece → List ℕ} {x : Built (List Piece)} {ns : List ℕ} {i base top k j : ℕ} {l l' s s' : List ℕ} (r : Result Row Refusal) (e : Refusal) → IsErr r × IsErrAnd r (λ x. x ≡ e)
    → DoneAll m x ns i base top k j l l' s s' (run (number_of e) 0 0 0) → DoneAll m x ns i base top k j l l' s s' (run_in r)
stopped_on r e h d = rw (handed r e h) d

pub record RowBounds (ns : List ℕ) (i n u v : ℕ) : Type 0 where
  pub small : u ≤ cap
  pub few : v ≤ cap
  pub forward : i ≤ n
  pub within : n ≤ length ns

pub row_bounds : {m : ℕ → List Piece → List ℕ} {x : Built (List Piece)} {ns : List ℕ} {i base top k j : ℕ} {l l' s s' : List ℕ} {r : Run} → r.refusal ≡ 0 → DoneAll m x ns i base top k j l l' s s' r → RowBounds ns i r.next r.size r.count
row_bounds z d = let f = row_of z d in record { small = omega (arith, f.facts.size); few = omega (arith, f.facts.count); forward = f.facts.forward; within = f.facts.within }

-- ---- no child more

pub none_more : (m : ℕ → List Piece → List ℕ) (ns : List ℕ) (e base top k j : ℕ) (l s : List ℕ) → m k [] ≡ [] → e ≤ length ns → k ≤ cap → j ≤ cap → MadeAll m [] (drop e ns) ns e base top k j l l s s (run 0 e k j)
none_more m ns e base top k j l s n h hk hj =
    let q = ap length n in
    record {
      refusal = refl;
      behind = refl;
      forward = omega arith;
      within = h;
      size = rw (layout_none k) (omega arith);
      count = omega (arith, q);
      stored = λ z. rw (layout_none k, n) (stored_none l s (base + k) (top + j));
    }

-- ---- one child, and then the others

module _ (m : ℕ → List Piece → List ℕ) (steady : Steady m) (c : Piece) (rest ns : List ℕ) (a e base top k j p q o start tops : ℕ) (skip : Bool) (l l₁ l₂ l₃ l'' s s₁ s₂ s'' : List ℕ) (r : Answer) (w : Run)
    (ha : c.alignment ≡ a) (hp : p ≡ padding k a) (h₁ : l₁ ≡ puts l (base + k) (zeros p)) (hs : start ≡ sum base (k + p)) (ht : tops ≡ sum top j)
    (d : Made c rest ns e start tops l₁ l₂ s s₁ r) (hq : q ≡ sum (k + p) r.size) (kp : Kept top j q skip l₂ l₃ s₁ s₂ o) (hk : k ≤ cap) (hj : j ≤ cap)
    (n₂ : length l₂ ≡ length l) (n₃ : length l₃ ≡ length l) (m₁ : length s₁ ≡ length s) (m₂ : length s₂ ≡ length s) where
  stop_is : stop k c ≡ k + p + length c.bytes
  unfolding stop
  stop_is = rw (ha, hp)

  far : (stop k c < cap → ⊥) → q ≡ cap
  far z = omega (arith, stop_is, d.size)

  near : stop k c < cap → q ≡ stop k c
  near h = omega (arith, stop_is, d.size)

  split : {P : Type 0} → (skip ≡ true → P) → (skip ≡ false → P) → P
  split {P} f h = go skip refl
    where
      go : (b : Bool) → skip ≡ b → P
      go true z = f z
      go false z = h z

  module _ (cs : List Piece) (rest' : List ℕ) (g : MadeAll m cs rest' ns r.next base top q o l₃ l'' s₂ s'' w) (u : m k (c ∷ cs) ≡ unless skip (stop k c) (m (stop k c) cs)) where
    size_on : w.size ≡ min (k + length (layout k (c ∷ cs))) cap
    size_on = go (dec_lt (stop k c) cap)
      where
        go : Dec (stop k c < cap) → w.size ≡ min (k + length (layout k (c ∷ cs))) cap
        go (yes h) = let e = near h in let z : w.size ≡ min (stop k c + length (layout (stop k c) cs)) cap = rw e at g.size in omega (arith, length_layout k c cs)
        go (no h) = let e = far h in omega (arith, g.size, length_layout k c cs)

    -- the ends that are kept, where this one is among them and where it is not
    more : skip ≡ true → (o ≡ j) × (length (m k (c ∷ cs)) ≡ length (m q cs))
    more z = ((kp.skips z).0, ap length u ∙ (rw z (steady (stop k c) q cs)))

    more' : skip ≡ false → (o ≡ sum j 1) × (length (m k (c ∷ cs)) ≡ suc (length (m q cs)))
    more' z = (kp.counts z, ap length u ∙ (rw z (ap suc (steady (stop k c) q cs))))

    count_on : w.count ≡ min (j + length (m k (c ∷ cs))) cap
    count_on = split (λ z. omega (arith, g.count, (more z).0, (more z).1)) (λ z. omega (arith, g.count, (more' z).0, (more' z).1))

    module _ (h : Room l s base (k + length (layout k (c ∷ cs))) (top + (j + length (m k (c ∷ cs))))) where
      at_stop : q ≡ stop k c
      at_stop = near (omega (arith, length_layout k c cs, h.inside, h.limit))

      start_is : start ≡ base + k + p
      start_is = omega (arith, length_layout k c cs, stop_is, h.inside, h.limit)

      tops_are : tops ≡ top + j
      tops_are = omega (arith, h.inside, h.limit)

      gap_stored : Stored l s l₁ s (base + k) (zeros p) (top + j) []
      gap_stored = puts_stored l s (base + k) (zeros p) (top + j) (omega (arith, length-replicate {A = ℕ} p 0, length_layout k c cs, stop_is, h.inside)) l₁ h₁

      gap_length : length l₁ ≡ length l
      gap_length = ap length h₁ ∙ length_puts (zeros p) l (base + k)

      child_stored : Stored l₁ s l₂ s₁ start c.bytes tops []
      child_stored = d.stored (room_in h gap_length refl (omega (arith, length_layout k c cs, stop_is, start_is)) (omega (arith, length_layout k c cs, stop_is)) (omega (arith, tops_are)))

      here : Stored l s l₂ s₁ (base + k) (zeros p ++ c.bytes) (top + j) []
      here = stored_then gap_stored (rw (length-replicate {A = ℕ} p 0) start_is) (tops_are ∙ omega arith) child_stored

      here_length : length (zeros p ++ c.bytes) ≡ p + length c.bytes
      here_length = length-append (zeros p) c.bytes ∙ ap (λ (x : ℕ). x + length c.bytes) (length-replicate {A = ℕ} p 0)

      rest_most_lem : (base + (q + length (layout q cs)) ≤ base + (k + length (layout k (c ∷ cs)))) × (q + length (layout q cs) ≤ k + length (layout k (c ∷ cs)))
      rest_most_lem = let e : q + length (layout q cs) ≡ k + length (layout k (c ∷ cs)) = rw at_stop (sym (length_layout k c cs)) in (omega arith, omega arith)

      rest_stored : (f : top + (o + length (m q cs)) ≤ top + (j + length (m k (c ∷ cs)))) → Stored l₃ s₂ l'' s'' (base + q) (layout q cs) (top + o) (m q cs)
      rest_stored f = g.stored (room_in h n₃ m₂ rest_most_lem.0 rest_most_lem.1 f)

      layout_is : zeros p ++ c.bytes ++ layout q cs ≡ layout k (c ∷ cs)
      layout_is =
          let v : padding k c.alignment ≡ p = rw (ha, hp) in
          rw (layout_cons k c cs, v, at_stop) (append_assoc (zeros p) c.bytes (layout (stop k c) cs))

      skipped : skip ≡ true → Stored l s l'' s'' (base + k) (layout k (c ∷ cs)) (top + j) (m k (c ∷ cs))
      skipped z =
          let x = more z in
          let y = kp.skips z in
          let f : m k (c ∷ cs) ≡ m q cs = u ∙ (rw (z, at_stop)) in
          let v : Stored l₂ s₁ l'' s'' (base + q) (layout q cs) (top + o) (m q cs) = rw (← y.1.0, ← y.1.1) (rest_stored (omega (arith, x.0, x.1))) in
          rw (f, ← layout_is) (stored_then here (omega (arith, here_length, at_stop, stop_is)) (omega (arith, x.0)) v)

      marked : skip ≡ false → Stored l s l'' s'' (base + k) (layout k (c ∷ cs)) (top + j) (m k (c ∷ cs))
      marked z =
          let x = more' z in
          let y : o ≡ j + 1 = omega (arith, x.0, x.1, h.inside, h.limit) in
          let f : m k (c ∷ cs) ≡ (q ∷ []) ++ m q cs = u ∙ (rw (z, at_stop)) in
          let n = length_layout k c cs in
          let kept : Stored l₂ s₁ l₃ s₂ (base + q) [] (top + j) (q ∷ []) = kp.keeps z (base + q) (omega (arith, n, at_stop, x.1, n₂, h.inside)) (omega (arith, m₁, h.ready)) (omega (arith, n, at_stop, x.1, h.inside, h.limit)) in
          let both : Stored l s l₃ s₂ (base + k) (zeros p ++ c.bytes ++ []) (top + j) ([] ++ (q ∷ [])) = stored_then here (omega (arith, here_length, at_stop, stop_is)) (omega arith) kept in
          let one : Stored l s l₃ s₂ (base + k) (zeros p ++ c.bytes) (top + j) (q ∷ []) = rw (append-nil (zeros p ++ c.bytes)) at both in
          rw (f, ← layout_is) (stored_then one (omega (arith, here_length, at_stop, stop_is)) (omega (arith, y)) (rest_stored (omega (arith, x.0, x.1, y))))

      stored_on : Stored l s l'' s'' (base + k) (layout k (c ∷ cs)) (top + j) (m k (c ∷ cs))
      stored_on = split skipped marked

    made_on : MadeAll m (c ∷ cs) rest' ns e base top k j l l'' s s'' w
    made_on = record {
      refusal = g.refusal;
      behind = g.behind;
      forward = omega (arith, g.forward, d.forward);
      within = g.within;
      size = size_on;
      count = count_on;
      stored = stored_on;
    }

  pub says_on : (y : Built (List Piece)) → ((cs : List Piece) (rest' : List ℕ) → y ≡ built cs rest' → m k (c ∷ cs) ≡ unless skip (stop k c) (m (stop k c) cs))
      → SaysAll m y ns r.next base top q o l₃ l'' s₂ s'' w → SaysAll m (mapped (λ vs. c ∷ vs) y) ns e base top k j l l'' s s'' w
  unfolding mapped
  says_on (built cs rest') u g = made_on cs rest' g (u cs rest' refl)
  says_on (fault n) u g = g

-- ---- the loop over elements

module _ (b : List ℕ → Built Piece) (ns : List ℕ) where
  -- the elements from number e on
  abbrev pub many_at : ℕ → Built (List Piece)
  many_at e = build_many (length (drop e ns)) b (drop e ns)

  pub many_short : (e : ℕ) → length ns < e + 3 → many_at e ≡ fault 17
  many_short e h = many_end b (length (drop e ns)) (drop e ns) (rw (length-drop e ns) (omega arith))

  module _ (e : ℕ) (h : e + 3 ≤ length ns) where
    steps : length (drop e ns) ≡ suc (length ns - e - 1)
    steps = length-drop e ns ∙ omega arith

    pub many_shut : get_or ns e 0 ≡ 41 → many_at e ≡ built [] (drop e ns)
    many_shut z = rw (steps, numbers_at ns e h) (many_closes b (length ns - e - 1) (get_or ns e 0) (get_or ns (e + 1) 0) (get_or ns (e + 2) 0) (drop (e + 3) ns) z)

    pub many_wrong : (n : ℕ) → (get_or ns e 0 ≡ 41 → ⊥) → b (drop e ns) ≡ fault n → many_at e ≡ fault n
    many_wrong n z f = rw (steps, numbers_at ns e h) (many_fault b (length ns - e - 1) (get_or ns e 0) (get_or ns (e + 1) 0) (get_or ns (e + 2) 0) (drop (e + 3) ns) n z (ap b (sym (numbers_at ns e h)) ∙ f))

    pub many_turn : Shorter b → (v : Piece) (x : ℕ) → (get_or ns e 0 ≡ 41 → ⊥) → b (drop e ns) ≡ built v (drop x ns) → e < x → x ≤ length ns → many_at e ≡ mapped (λ vs. v ∷ vs) (many_at x)
    many_turn sh v x z f g y =
        rw (steps, numbers_at ns e h)
        (many_more b (length ns - e - 1) (get_or ns e 0) (get_or ns (e + 1) 0) (get_or ns (e + 2) 0) (drop (e + 3) ns) v (drop x ns) z (ap b (sym (numbers_at ns e h)) ∙ f)
        ∙ ap (mapped (λ vs. v ∷ vs)) (many_enough b sh (length ns - e - 1) (length (drop x ns)) (drop x ns) (rw (length-drop x ns) (omega arith)) (omega arith)))

pub record Left (fx : Bool) (b : List ℕ → Built Piece) (ns : List ℕ) (i base top : ℕ) (l₀ s₀ : List ℕ) (e k j : ℕ) (l s : List ℕ) : Type 0 where
  pub within : e ≤ length ns
  pub small : k ≤ cap
  pub few : j ≤ cap
  pub same : length l ≡ length l₀
  pub sames : length s ≡ length s₀
  pub whole : (l'' s'' : List ℕ) (r : Run) → DoneAll (marks_of fx) (many_at b ns e) ns e base top k j l l'' s s'' r → DoneAll (marks_of fx) (many_at b ns i) ns i base top 0 0 l₀ l'' s₀ s'' r

pub left_all : (fx : Bool) (b : List ℕ → Built Piece) (ns : List ℕ) (i base top : ℕ) (l s : List ℕ) → i ≤ length ns → Left fx b ns i base top l s i 0 0 l s
left_all fx b ns i base top l s h = record { within = h; small = omega arith; few = omega arith; same = refl; sames = refl; whole = λ l'' s'' r d. d }

module _ (fx : Bool) (b : List ℕ → Built Piece) (ns : List ℕ) (i base top : ℕ) (l₀ s₀ : List ℕ) (e k j : ℕ) (l s : List ℕ) (v : Left fx b ns i base top l₀ s₀ e k j l s) where
  pub left_short : length ns < e + 3 → DoneAll (marks_of fx) (many_at b ns i) ns i base top 0 0 l₀ l s₀ s (run 17 0 0 0)
  left_short h = v.whole l s _ (wrongs (many_short b ns e h) (λ z. omega arith))

  pub left_shut : e + 3 ≤ length ns → get_or ns e 0 ≡ 41 → DoneAll (marks_of fx) (many_at b ns i) ns i base top 0 0 l₀ l s₀ s (run 0 e k j)
  left_shut h z = v.whole l s _ (rw (many_shut b ns e h z) (record { says = none_more (marks_of fx) ns e base top k j l s (marks_nil fx k) v.within v.small v.few }))

  module _ (h : e + 3 ≤ length ns) (z : get_or ns e 0 ≡ 41 → ⊥) (start tops : ℕ) (l₁ l₂ s₁ : List ℕ) (r : Answer) (d : Done (b (drop e ns)) ns e start tops l₁ l₂ s s₁ r) where
    pub left_stop : (r.refusal ≡ 0 → ⊥) → DoneAll (marks_of fx) (many_at b ns i) ns i base top 0 0 l₀ l₂ s₀ s₁ (run r.refusal 0 0 0)
    left_stop y = v.whole l₂ s₁ _ (wrongs (many_wrong b ns e h r.refusal z (fault_of y d)) y)

    pub left_on : (a p q o : ℕ) (l₃ s₂ : List ℕ) → Shorter b → ((c : Piece) (rest : List ℕ) → b (drop e ns) ≡ built c rest → c.alignment ≡ a) → r.refusal ≡ 0 → p ≡ padding k a
        → l₁ ≡ puts l (base + k) (zeros (padding k a)) → start ≡ sum base (k + p) → tops ≡ sum top j → q ≡ sum (k + p) r.size → Kept top j q fx l₂ l₃ s₁ s₂ o
        → length l₂ ≡ length l₀ → length l₃ ≡ length l₀ → length s₁ ≡ length s₀ → length s₂ ≡ length s₀
        → Left fx b ns i base top l₀ s₀ r.next q o l₃ s₂
    left_on a p q o l₃ s₂ sh al y hp h₀ hs ht hq kp n₂ n₃ m₁ m₂ =
        let t = made_of y d in
        let f = t.facts in
        let h₁ : l₁ ≡ puts l (base + k) (zeros p) = h₀ ∙ ap (λ (y : ℕ). puts l (base + k) (zeros y)) (sym hp) in
        record {
          within = f.within;
          small = omega arith;
          few = count_small fx refl;
          same = n₃;
          sames = m₂;
          whole = λ l'' s'' w g. v.whole l'' s'' w
              (rw (many_turn b ns e h sh t.piece r.next z (t.is ∙ ap (built t.piece) f.behind) f.forward f.within)
              (record {
                says = says_on (marks_of fx) (marks_steady fx) t.piece t.rest ns a e base top k j p q o start tops fx l l₁ l₂ l₃ l'' s s₁ s₂ s'' r w
                    (al t.piece t.rest t.is) hp h₁ hs ht f hq kp v.small v.few (n₂ ∙ sym v.same) (n₃ ∙ sym v.same) (m₁ ∙ sym v.sames) (m₂ ∙ sym v.sames)
                    (many_at b ns r.next) (λ cs rest' u. marks_cons fx k t.piece cs) g.says;
              }));
        }
      where
        count_small : (x : Bool) → fx ≡ x → o ≤ cap
        count_small true u = omega (arith, (kp.skips u).0, v.few)
        count_small false u = omega (arith, kp.counts u)

  -- a child that needs no padding
  module _ (h : e + 3 ≤ length ns) (z : get_or ns e 0 ≡ 41 → ⊥) (start tops : ℕ) (l₂ s₁ : List ℕ) (r : Answer) (d : Done (b (drop e ns)) ns e start tops l l₂ s s₁ r) where
    pub left_next : (a q o : ℕ) (l₃ s₂ : List ℕ) → Shorter b → ((c : Piece) (rest : List ℕ) → b (drop e ns) ≡ built c rest → c.alignment ≡ a) → padding k a ≡ 0 → r.refusal ≡ 0
        → start ≡ sum base k → tops ≡ sum top j → q ≡ sum k r.size → Kept top j q fx l₂ l₃ s₁ s₂ o
        → length l₂ ≡ length l₀ → length l₃ ≡ length l₀ → length s₁ ≡ length s₀ → length s₂ ≡ length s₀
        → Left fx b ns i base top l₀ s₀ r.next q o l₃ s₂
    left_next a q o l₃ s₂ sh al n y hs ht hq kp n₂ n₃ m₁ m₂ =
        left_on h z start tops l l₂ s₁ r d a 0 q o l₃ s₂ sh al y (sym n) (rw n (sym (puts_none l (base + k)))) (omega (arith, hs)) ht (omega (arith, hq)) kp n₂ n₃ m₁ m₂
