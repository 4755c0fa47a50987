-- What is kept of a line stands for the line: the bytes that it spells, whatever follows, and the type. Assumes nothing.
use mathlib.Core.Path.{◌≡◌, refl, sym, ap, ◌∙◌}
use mathlib.Core.List.{List, [], ◌∷◌, ◌++◌, append_assoc, append-nil}
use mathlib.Core.Option.{Option, none, some}
use mathlib.Core.Bool.{Bool, true, false}
use Prim.Native.Nat.{ℕ, ◌+◌, ◌*◌}
use native.Mathlib.Omega.{arith}
use lib.Dec.{ltb, leb}
use lib.ListN.{length, take}
use lib.Seq.{take_all}
use borrow.Author.Tests.{lt-ltb, le-leb, lt-leb, leb-true, leb-false}
use Rattle.meaning.specs.Choice.{pick}
use Rattle.meaning.specs.TypeText.{type_of}
use Rattle.meaning.specs.Calls.{counts, size, sized, frame_of as frame_behind, frame_reading}
use Rattle.numerals.specs.Hexadecimal.{digit, has_byte, before, bytes_of, bytes_behind}
use Rattle.lines.specs.Lines.{more, stored, Keeps}
use Rattle.numerals.proofs.ByteLaws.{before_none, before_before}
use Rattle.lines.proofs.GatherLaws.{keeps_none, keeps_more}
use Rattle.lines.specs.Frames.{frame_answer}
use Rattle.listing.specs.States.{frame_by}

abbrev pub nonempty : List ℕ → Bool
nonempty [] = false
nonempty (b ∷ l) = true

pub nonempty_behind : (p : List ℕ) (b : ℕ) → true ≡ nonempty (p ++ (b ∷ []))
nonempty_behind [] b = refl
nonempty_behind (a ∷ p) b = refl

-- the bytes of a line that has spelled `front` so far, where q follows
unfoldable pub rest_by : Bool → Bool → ℕ → List ℕ → List ℕ → Option (List ℕ)
rest_by spoilt odd half front q = pick spoilt none (pick odd (before front (bytes_behind half q)) (before front (bytes_of q)))

module _ (half b : ℕ) (front q : List ℕ) where
  rest_other : (x y : Bool) → ltb (digit b) 16 ≡ false → rest_by x y half front (b ∷ q) ≡ none
  unfolding rest_by bytes_of bytes_behind before
  rest_other true y h = refl
  rest_other false true h = rw h
  rest_other false false h = rw h

  rest_first : (x : Bool) → ltb (digit b) 16 ≡ true → rest_by x false half front (b ∷ q) ≡ rest_by x true (digit b) front q
  unfolding rest_by bytes_of
  rest_first true h = refl
  rest_first false h = rw h

  rest_second : (x : Bool) → ltb (digit b) 16 ≡ true → rest_by x true half front (b ∷ q) ≡ rest_by x false 16 (front ++ ((16 * half + digit b) ∷ [])) q
  unfolding rest_by bytes_behind
  rest_second true h = refl
  rest_second false h = rw h (before_before front ((16 * half + digit b) ∷ []) (bytes_of q))

-- The frame's line p, by what is kept of it: the count of its bytes, a waiting digit, whether it is spoilt, and the memory.
pub record Spells (p : List ℕ) (kept half : ℕ) (spoilt : Bool) (frame : List ℕ) : Type 0 where
  pub front : List ℕ
  pub keeps : Keeps 16384 front kept frame
  pub rest : (q : List ℕ) → bytes_of (p ++ q) ≡ rest_by spoilt (ltb half 16) half front q
  pub seen : has_byte spoilt half kept ≡ nonempty p

pub spells_none : (frame : List ℕ) → length frame ≡ 16384 → Spells [] 0 16 false frame
unfolding rest_by has_byte
spells_none frame h =
    record { front = []; keeps = keeps_none 16384 frame h; rest = λ q. before_none (bytes_of q); seen = refl }

any : (x : Bool) → pick x true true ≡ true
any true = refl
any false = refl

module _ {p : List ℕ} {kept half : ℕ} {spoilt : Bool} {frame : List ℕ} (s : Spells p kept half spoilt frame) (b : ℕ) where
  -- one byte more
  behind : (q : List ℕ) → bytes_of (p ++ (b ∷ []) ++ q) ≡ rest_by spoilt (ltb half 16) half s.front (b ∷ q)
  behind q = ap bytes_of (append_assoc p (b ∷ []) q) ∙ s.rest (b ∷ q)

  pub spells_other : ltb (digit b) 16 ≡ false → Spells (p ++ (b ∷ [])) kept half true frame
  unfolding rest_by has_byte
  spells_other h = record {
    front = s.front;
    keeps = s.keeps;
    rest = λ q. behind q ∙ rest_other half b s.front q spoilt (ltb half 16) h;
    seen = nonempty_behind p b;
  }

  pub spells_first : ltb (digit b) 16 ≡ true → ltb half 16 ≡ false → Spells (p ++ (b ∷ [])) kept (digit b) spoilt frame
  unfolding has_byte
  spells_first h k = record {
    front = s.front;
    keeps = s.keeps;
    rest = λ q. behind q
        ∙ ap (λ (y : Bool). rest_by spoilt y half s.front (b ∷ q)) k
        ∙ rest_first half b s.front q spoilt h
        ∙ ap (λ (y : Bool). rest_by spoilt y (digit b) s.front q) (sym h);
    seen = ap (λ (y : Bool). pick spoilt true (pick y true (ltb 0 kept))) h ∙ any spoilt ∙ nonempty_behind p b;
  }

  pub spells_second : ltb (digit b) 16 ≡ true → ltb half 16 ≡ true → Spells (p ++ (b ∷ [])) (more 16384 kept) 16 spoilt (stored 16384 frame kept (16 * half + digit b))
  unfolding more has_byte
  spells_second h k = record {
    front = s.front ++ ((16 * half + digit b) ∷ []);
    keeps = keeps_more (16 * half + digit b) s.keeps;
    rest = λ q. behind q
        ∙ ap (λ (y : Bool). rest_by spoilt y half s.front (b ∷ q)) k
        ∙ rest_second half b s.front q spoilt h;
    seen = ap (λ (y : Bool). pick spoilt true y) (some_kept (ltb kept 16384)) ∙ any spoilt ∙ nonempty_behind p b;
  }
    where
      some_kept : (x : Bool) → ltb 0 (pick x (kept + 1) 16385) ≡ true
      some_kept true = lt-ltb 0 (kept + 1) (omega arith)
      some_kept false = refl

-- the type text that is kept is the same type
pub same_type : {p : List ℕ} {letters : ℕ} {text : List ℕ} → Keeps 256 p letters text → type_of (take letters text) ≡ type_of p
unfolding type_of
same_type {p} {letters} {text} k = go (leb (length p) 256) refl
  where
    go : (x : Bool) → leb (length p) 256 ≡ x → type_of (take letters text) ≡ type_of p
    go true t = ap type_of (k.holds (leb-true (length p) 256 t))
    go false t =
        let many = leb-false (length p) 256 t in
        let e = k.long many in
        let r = k.room in
        let all : take letters text ≡ text = take_all letters text (omega arith) in
        rw (all, lt-leb (length text) 255 (omega arith), lt-leb (length p) 255 (omega arith))

pub same_size : (t u frame : List ℕ) → type_of t ≡ type_of u → size t false 0 frame ≡ size u false 0 frame
unfolding size frame_reading
same_size t u frame e = ap (λ x. sized (frame_behind false 0 frame x)) e

-- the answer to a frame's line, from what is kept of it
pub same_frame : {p : List ℕ} {kept half : ℕ} {spoilt : Bool} {frame : List ℕ} (s : Spells p kept half spoilt frame) (t u : List ℕ) → type_of t ≡ type_of u → frame_by spoilt (ltb half 16) (leb kept 16384) (size t false 0 (take kept frame)) ≡ frame_answer u (bytes_of p)
unfolding frame_answer frame_by rest_by bytes_of bytes_behind before
same_frame {p} {kept} {half} {spoilt} {frame} s t u e =
    go spoilt (ltb half 16) ∙ ap (λ (x : Option (List ℕ)). frame_answer u x) (sym (s.rest []) ∙ ap bytes_of (append-nil p))
  where
    even : (x : Bool) → leb (length s.front) 16384 ≡ x → pick (leb kept 16384) (size t false 0 (take kept frame)) (counts 2 0 0) ≡ pick x (size u false 0 s.front) (counts 2 0 0)
    even true h =
        let few = leb-true (length s.front) 16384 h in
        let k = s.keeps.short few in
        rw (le-leb kept 16384 (omega arith)) (ap (λ (l : List ℕ). size t false 0 l) (s.keeps.holds few) ∙ same_size t u s.front e)
    even false h =
        let k = s.keeps.long (leb-false (length s.front) 16384 h) in
        rw (lt-leb kept 16384 (omega arith))

    go : (x y : Bool) → frame_by x y (leb kept 16384) (size t false 0 (take kept frame)) ≡ frame_answer u (rest_by x y half s.front [])
    go true y = refl
    go false true = refl
    go false false = even (leb (length s.front) 16384) refl ∙ ap (λ (l : List ℕ). frame_answer u (some l)) (sym (append-nil s.front))
