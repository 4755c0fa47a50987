-- Texts stored one behind another. Assumes nothing.
use mathlib.Core.Path.{◌≡◌, refl, sym, subst, ap, ap₂, ◌∙◌}
use mathlib.Core.List.{List, [], ◌∷◌, ◌++◌}
use mathlib.Core.Bool.{Bool, true, false}
use Prim.Native.Nat.{ℕ, suc, ◌+◌, ◌≤◌, ◌<◌}
use native.Mathlib.Nat.{add-zero}
use native.Mathlib.Omega.{arith}
use lib.ListN.{length, set, length-append}
use lib.Seq.{sets, length-sets}
use borrow.Author.Tests.{le-leb, lt-leb, leb-true}
use Rattle.meaning.specs.Choice.{pick}
use Rattle.numerals.specs.Storing.{Puts, Stores, has_room}

sets_append : (t u l : List ℕ) (i : ℕ) → sets l i (t ++ u) ≡ sets (sets l i t) (i + length t) u
sets_append [] u l i = ap (λ (k : ℕ). sets l k u) (sym (add-zero i))
sets_append (b ∷ t) u l i =
    let e : suc i + length t ≡ i + suc (length t) = omega arith in
    sets_append t u (set l i b) (suc i) ∙ ap (λ (k : ℕ). sets (sets (set l i b) (suc i) t) k u) e

pub puts_none : (l : List ℕ) (at : ℕ) → Puts l l at [] at
puts_none l at = record { next = sym (add-zero at); slice = refl }

pub puts_as : {l m : List ℕ} {at r : ℕ} {t u : List ℕ} → t ≡ u → Puts l m at t r → Puts l m at u r
puts_as {l} {m} {at} {r} e p = subst (λ (t : List ℕ). Puts l m at t r) e p

pub puts_then : {l m n : List ℕ} {at r s : ℕ} {t u : List ℕ} → Puts l m at t r → Puts m n r u s → Puts l n at (t ++ u) s
puts_then {l} {m} {n} {at} {r} {s} {t} {u} p q = record {
  next = let h = p.next in let k = q.next in simp length-append (omega arith);
  slice = q.slice ∙ ap₂ (λ (x : List ℕ) (k : ℕ). sets x k u) p.slice p.next ∙ sym (sets_append t u l at);
}

pub puts_byte : {l m : List ℕ} {at r : ℕ} {t : List ℕ} (b : ℕ) → Puts l m at t r → Puts l (set m r b) at (t ++ (b ∷ [])) (r + 1)
puts_byte {l} {m} {at} {r} b p = puts_then p (record { next = refl; slice = refl })

-- a text of at most n bytes leaves room for k more
pub puts_fits : {l m : List ℕ} {at r : ℕ} {t : List ℕ} (n k : ℕ) → Puts l m at t r → length t ≤ n → at + n + k ≤ length l → r + k ≤ length m
puts_fits {l} {m} {at} {r} {t} n k p h f =
    let e : length m ≡ length l = ap length p.slice ∙ length-sets l at t in let i = p.next in omega arith

-- where a text has room, and where it has none
room : (l : List ℕ) (at : ℕ) (t : List ℕ) → at + length t ≤ length l → has_room l at t ≡ true
room l at t h = le-leb (at + length t) (length l) h

module _ {l m : List ℕ} {at r : ℕ} {t : List ℕ} where
  pub stores_room : at + length t ≤ length l → Puts l m at t r → Stores l m at t r
  stores_room h p = record {
    next = p.next ∙ ap (λ (x : Bool). pick x (at + length t) at) (sym (room l at t h));
    slice = p.slice ∙ ap (λ (x : Bool). pick x (sets l at t) l) (sym (room l at t h));
  }

  pub stores_puts : at + length t ≤ length l → Stores l m at t r → Puts l m at t r
  stores_puts h s = record {
    next = s.next ∙ ap (λ (x : Bool). pick x (at + length t) at) (room l at t h);
    slice = s.slice ∙ ap (λ (x : Bool). pick x (sets l at t) l) (room l at t h);
  }

pub stores_none : (l : List ℕ) (at : ℕ) (t : List ℕ) → length l < at + length t → Stores l l at t at
stores_none l at t h = record {
  next = ap (λ (x : Bool). pick x (at + length t) at) none;
  slice = ap (λ (x : Bool). pick x (sets l at t) l) none;
}
  where
    none : false ≡ has_room l at t
    none = sym (lt-leb (at + length t) (length l) h)

-- a place in the slice stays in it
pub stores_within : {l m : List ℕ} {at r : ℕ} {t : List ℕ} → at ≤ length l → Stores l m at t r → r ≤ length l
stores_within {l} {m} {at} {r} {t} h s = go (has_room l at t) refl s.next
  where
    go : (x : Bool) → has_room l at t ≡ x → r ≡ pick x (at + length t) at → r ≤ length l
    go true e n = let k = leb-true (at + length t) (length l) e in omega arith
    go false e n = omega arith
