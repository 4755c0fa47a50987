-- A child's spot: what is asked there, and what is answered. Assumes nothing.
use Prim.Native.Nat.{ℕ, ◌≤◌}
use mathlib.Core.Path.{◌≡◌, subst}
use mathlib.Core.List.{List}
use mathlib.Core.Bool.{Bool}
use lib.ListN.{drop}
use Rattle.meaning.specs.Depths.{Depths}
use Rattle.meaning.specs.Types.{Tree}
use Rattle.meaning_writing.specs.Emitting.{emit}
use Rattle.signature.specs.declared.items.Item.{Item}
use Rattle.writer_store.specs.Stores.{cap}
use Rattle.writer_basic.specs.Wrote.{Done, Placed}
use Rattle.writer_basic.specs.Wrote.{Answer}
use Rattle.writer_basic.specs.declared.Spot.{Spot}
use Rattle.writer_cycle.specs.Places.{item_of}

abbrev pub spot : ℕ → ℕ → ℕ → Spot
spot n a t = record { next = n; start = a; top = t }

module _ {e a t : ℕ} {p : Spot} (h : p ≡ spot e a t) where
  pub placed_as : {n : ℕ} → e ≤ n → a ≤ cap → t ≤ cap → Placed n p
  placed_as x y z = rw h (record { within = x; near = y; few = z })

  pub value_as : (texts : List ℕ) (big : Bool) (m : ℕ) (u : Tree) (D : Depths) {ns l l' s s' : List ℕ} {r : Answer}
      → Done (emit texts big m u D (drop p.next ns)) ns p.next p.start p.top l l' s s' r → Done (emit texts big m u D (drop e ns)) ns e a t l l' s s' r
  value_as texts big m u D {ns} {l} {l'} {s} {s'} {r} d = subst (λ (q : Spot). Done (emit texts big m u D (drop q.next ns)) ns q.next q.start q.top l l' s s' r) h d

  pub item_as : (texts : List ℕ) (big : Bool) (n : ℕ) (text : List ℕ) (i : Item) (D : Depths) {ns l l' s s' : List ℕ} {r : Answer}
      → Done (item_of texts big n text i D (drop p.next ns)) ns p.next p.start p.top l l' s s' r → Done (item_of texts big n text i D (drop e ns)) ns e a t l l' s s' r
  item_as texts big n text i D {ns} {l} {l'} {s} {s'} {r} d = subst (λ (q : Spot). Done (item_of texts big n text i D (drop q.next ns)) ns q.next q.start q.top l l' s s' r) h d
