-- What rides along in one number: taken apart, and with one more container open. Assumes nothing.
use Rattle.std.proofs.Common.{◌≡◌, ℕ, ◌+◌, ◌*◌, ◌/◌, ◌%◌, ◌<◌, ◌≤◌, Bool, true, false, List, length, sym, subst, arith, leb, leb-true, leb-false, refl}
use mathlib.Core.Path.{subst⁻¹}
use Rattle.meaning.specs.Depths as Depth
use Rattle.meaning.specs.Depths.{Depths, Opened, depths, total, depth_refusal, opened}
use Rattle.meaning.proofs.DepthLaws as limit
use Rattle.meaning.specs.Types.{Tree}
use Rattle.meaning.specs.Reading.{child_step, elements}
use Rattle.framing_offsets.specs.declared.OffsetTable.{OffsetTable}
use Rattle.container_depths.specs.Opening.{depths_of}
use Rattle.reader_basic.specs.Answers.{Done}
use Rattle.reader_basic.specs.Parts.{Inside, number_by, reading_by, elements_by}
use Rattle.meaning.specs.Calls.{Counts}
use Rattle.reader_steps.specs.Places.{reader_of, value_in}
use Rattle.reader_basic.specs.declared.Context.{Context}
use Rattle.reader_steps.specs.Rides.{open_in, context_of, Begins}
use Rattle.reader_steps.specs.Openings.{Deeper, Opens, inner, inside}
use Rattle.std.specs.Prelude.{Ok, Err}
use Rattle.meaning.specs.Choice.{pick}
use Rattle.meaning.specs.declared.refusals.Refusal.TheVariants.{ContainersTooDeep}

-- ---- numbers

fourth_byte : (p k t low : ℕ) → p ≡ 16777216 * (256 * k + t) + low → low < 16777216 → t < 256 → p / 16777216 % 256 ≡ t
fourth_byte p k t low e h i = omega arith

by_bytes : (d x y z s a v m : ℕ) → d ≡ 256 * x + s → x ≡ 256 * y + a → y ≡ 256 * z + v → z ≡ m → d ≡ s + 256 * a + 65536 * v + 16777216 * m
by_bytes d x y z s a v m e f g h = omega arith

folded : (d s a v m : ℕ) → d ≡ s + 256 * a + 65536 * v + 16777216 * m → d * 16843009 ≡ 16777216 * (256 * (a + 257 * v + 65793 * m) + (s + a + v + m)) + (65793 * s + 65792 * a + 65536 * v)
folded d s a v m e = omega arith

-- the sum of four bytes is the fourth byte of their number by a one in each
bytes_sum : (d : ℕ) → d < 4294967296 → d % 256 + d / 256 % 256 + d / 65536 % 256 + d / 16777216 % 256 < 255
    → d * 16843009 / 16777216 % 256 ≡ d % 256 + d / 256 % 256 + d / 65536 % 256 + d / 16777216 % 256
bytes_sum d h i = go (d % 256) (d / 256 % 256) (d / 65536 % 256) (d / 16777216 % 256)
    (by_bytes d (d / 256) (d / 65536) (d / 16777216) (d % 256) (d / 256 % 256) (d / 65536 % 256) (d / 16777216 % 256) (omega arith) (omega arith) (omega arith) (omega arith)) i
  where
    go : (s a v m : ℕ) → d ≡ s + 256 * a + 65536 * v + 16777216 * m → s + a + v + m < 255 → d * 16843009 / 16777216 % 256 ≡ s + a + v + m
    go s a v m e f =
        fourth_byte (d * 16843009) (a + 257 * v + 65793 * m) (s + a + v + m) (65793 * s + 65792 * a + 65536 * v) (folded d s a v m e) (omega arith) (omega arith)

same_depths : {s a v m s' a' v' m' : ℕ} → s ≡ s' → a ≡ a' → v ≡ v' → m ≡ m' → depths s a v m ≡ depths s' a' v' m'
same_depths e f g h = rw (e, f, g, h)

-- each of four numbers is at most their sum
each_small : (s a v m : ℕ) → s + a + v + m ≤ 64 → (s ≤ 64) × ((a ≤ 64) × ((v ≤ 64) × (m ≤ 64)))
each_small s a v m h = (omega arith, (omega arith, (omega arith, omega arith)))

-- one more in one of four bytes
module _ (d : ℕ) where
  more_first : d % 256 ≤ 64 → depths_of (open_in (d + 1)) ≡ opened Depth.structure (depths_of (open_in d))
  more_first h = same_depths (omega arith) (omega arith) (omega arith) (omega arith)

  more_second : d / 256 % 256 ≤ 64 → depths_of (open_in (d + 256)) ≡ opened Depth.array (depths_of (open_in d))
  more_second h = same_depths (omega arith) (omega arith) (omega arith) (omega arith)

  more_third : d / 65536 % 256 ≤ 64 → depths_of (open_in (d + 65536)) ≡ opened Depth.variant (depths_of (open_in d))
  more_third h = same_depths (omega arith) (omega arith) (omega arith) (omega arith)

  more_fourth : d / 16777216 % 256 ≤ 64 → depths_of (open_in (d + 16777216)) ≡ opened Depth.maybe (depths_of (open_in d))
  more_fourth h = same_depths (omega arith) (omega arith) (omega arith) (omega arith)

room_for : (r more : ℕ) → more ≤ 72057594037927936 → r ≤ 18446744073709551615 → r / 4294967296 / 16777216 % 256 ≤ 64 → r + more ≤ 18446744073709551615
room_for r more f h i = omega arith

-- ---- a number that begins

module _ (position : ℕ) (h : position ≤ 65536) where
  pub begins_big : (big : Bool) → big ≡ true → Begins position big (position + 2147483648)
  unfolding context_of
  begins_big big e =
      let order : (position + 2147483648) / 2147483648 % 2 ≡ 1 = omega arith in
      let none : (position + 2147483648) / 4294967296 ≡ 0 = omega arith in
      record { at = omega arith; order = rw order (sym e); none = rw none }

  pub begins_little : (big : Bool) → big ≡ false → Begins position big position
  unfolding context_of
  begins_little big e =
      let order : position / 2147483648 % 2 ≡ 0 = omega arith in
      let none : position / 4294967296 ≡ 0 = omega arith in
      record { at = omega arith; order = rw order (sym e); none = rw none }

-- ---- one more container

-- what is known of a number whose containers are within the limits
pub record Shallow (r : ℕ) : Type 0 where
  pub structure : r / 4294967296 % 256 ≤ 32
  pub array : r / 4294967296 / 256 % 256 ≤ 32
  pub total : r / 4294967296 % 256 + r / 4294967296 / 256 % 256 + r / 4294967296 / 65536 % 256 + r / 4294967296 / 16777216 % 256 ≤ 64

pub shallow : (r : ℕ) → depth_refusal (depths_of (context_of r).depths) ≡ 0 → Shallow r
unfolding context_of
shallow r h = let w = limit.limits _ _ _ _ h in record { structure = w.structure; array = w.array; total = w.total }

pub full_by : (r : ℕ) → r ≤ 18446744073709551615 → Shallow r → r / 4294967296 * 16843009 / 16777216 % 256 ≡ total (depths_of (context_of r).depths)
unfolding context_of
full_by r f w = bytes_sum (r / 4294967296) (omega arith) (omega (arith, w.total))

moved : (x : Opened) (r k : ℕ) → depths_of (open_in (r / 4294967296 + k)) ≡ opened x (depths_of (open_in (r / 4294967296))) → depth_refusal (opened x (depths_of (open_in (r / 4294967296)))) ≡ 0
    → Deeper x (context_of r) (context_of (r + 4294967296 * k))
unfolding context_of
moved x r k e z =
    let order : (r + 4294967296 * k) / 2147483648 % 2 ≡ r / 2147483648 % 2 = omega arith in
    let counts : (r + 4294967296 * k) / 4294967296 ≡ r / 4294967296 + k = omega arith in
    record { position = omega arith; big = rw order; depths = rw counts e; shallow = rw (counts, e) z }

refuses : (x : Opened) (r k : ℕ) → k ≡ depth_refusal (opened x (depths_of (context_of r).depths)) → (k ≡ 0 → ⊥) → Opens x (context_of r) (record { refusal = k; ride = 0 })
refuses x r k e z = record { refusal = e; deeper = λ q. absurd (z q) }

opens : (x : Opened) (r r' : ℕ) → 0 ≡ depth_refusal (opened x (depths_of (context_of r).depths)) → Deeper x (context_of r) (context_of r') → Opens x (context_of r) (record { refusal = 0; ride = r' })
opens x r r' e d = record { refusal = e; deeper = λ q. d }

-- the number does not wrap
pub fits_more : (r more : ℕ) → more ≤ 72057594037927936 → r ≤ 18446744073709551615 → Shallow r → r + more ≤ 18446744073709551615
fits_more r more g f w = room_for r more g f (each_small _ _ _ _ w.total).1.1.1

module _ (r : ℕ) (w : Shallow r) where
  abbrev counts : ℕ
  counts = r / 4294967296

  pub maybe_full : 64 ≤ total (depths_of (context_of r).depths) → Opens Depth.maybe (context_of r) (record { refusal = 12; ride = 0 })
  unfolding context_of
  maybe_full h = refuses Depth.maybe r 12 (sym (limit.over_total _ _ _ _ w.structure w.array (omega arith))) (λ q. omega arith)

  pub maybe_more : total (depths_of (context_of r).depths) < 64 → Opens Depth.maybe (context_of r) (record { refusal = 0; ride = r + 72057594037927936 })
  unfolding context_of
  maybe_more h =
      let z = limit.within_limits (counts % 256) (counts / 256 % 256) (counts / 65536 % 256) (counts / 16777216 % 256 + 1) w.structure w.array (omega arith) in
      opens Depth.maybe r (r + 72057594037927936) (sym z)
      (moved Depth.maybe r 16777216 (more_fourth counts (each_small _ _ _ _ w.total).1.1.1) z)

  pub variant_full : 64 ≤ total (depths_of (context_of r).depths) → Opens Depth.variant (context_of r) (record { refusal = 12; ride = 0 })
  unfolding context_of
  variant_full h = refuses Depth.variant r 12 (sym (limit.over_total _ _ _ _ w.structure w.array (omega arith))) (λ q. omega arith)

  pub variant_more : total (depths_of (context_of r).depths) < 64 → Opens Depth.variant (context_of r) (record { refusal = 0; ride = r + 281474976710656 })
  unfolding context_of
  variant_more h =
      let z = limit.within_limits (counts % 256) (counts / 256 % 256) (counts / 65536 % 256 + 1) (counts / 16777216 % 256) w.structure w.array (omega arith) in
      opens Depth.variant r (r + 281474976710656) (sym z)
      (moved Depth.variant r 65536 (more_third counts (each_small _ _ _ _ w.total).1.1.0) z)

  pub array_over : 32 ≤ r / 1099511627776 % 256 → Opens Depth.array (context_of r) (record { refusal = 11; ride = 0 })
  unfolding context_of
  array_over h = refuses Depth.array r 11 (sym (limit.over_array _ _ _ _ w.structure (omega arith))) (λ q. omega arith)

  pub array_full : r / 1099511627776 % 256 < 32 → 64 ≤ total (depths_of (context_of r).depths) → Opens Depth.array (context_of r) (record { refusal = 12; ride = 0 })
  unfolding context_of
  array_full g h = refuses Depth.array r 12 (sym (limit.over_total _ _ _ _ w.structure (omega arith) (omega arith))) (λ q. omega arith)

  pub array_more : r / 1099511627776 % 256 < 32 → total (depths_of (context_of r).depths) < 64 → Opens Depth.array (context_of r) (record { refusal = 0; ride = r + 1099511627776 })
  unfolding context_of
  array_more g h =
      let z = limit.within_limits (counts % 256) (counts / 256 % 256 + 1) (counts / 65536 % 256) (counts / 16777216 % 256) w.structure (omega arith) (omega arith) in
      opens Depth.array r (r + 1099511627776) (sym z)
      (moved Depth.array r 256 (more_second counts (each_small _ _ _ _ w.total).1.0) z)

  pub structure_over : 32 ≤ r / 4294967296 % 256 → Opens Depth.structure (context_of r) (record { refusal = 10; ride = 0 })
  unfolding context_of
  structure_over h = refuses Depth.structure r 10 (sym (limit.over_structure _ _ _ _ (omega arith))) (λ q. omega arith)

  pub structure_full : r / 4294967296 % 256 < 32 → 64 ≤ total (depths_of (context_of r).depths) → Opens Depth.structure (context_of r) (record { refusal = 12; ride = 0 })
  unfolding context_of
  structure_full g h = refuses Depth.structure r 12 (sym (limit.over_total _ _ _ _ (omega arith) w.array (omega arith))) (λ q. omega arith)

  pub structure_more : r / 4294967296 % 256 < 32 → total (depths_of (context_of r).depths) < 64 → Opens Depth.structure (context_of r) (record { refusal = 0; ride = r + 4294967296 })
  unfolding context_of
  structure_more g h =
      let z = limit.within_limits (counts % 256 + 1) (counts / 256 % 256) (counts / 65536 % 256) (counts / 16777216 % 256) (omega arith) w.array (omega arith) in
      opens Depth.structure r (r + 4294967296) (sym z)
      (moved Depth.structure r 1 (more_first counts (each_small _ _ _ _ w.total).0) z)

-- one more where fewer are open than may be
pub opens_by : {x : Opened} (r one : ℕ) → (64 ≤ total (depths_of (context_of r).depths) → Opens x (context_of r) (record { refusal = 12; ride = 0 }))
    → (total (depths_of (context_of r).depths) < 64 → Opens x (context_of r) (record { refusal = 0; ride = r + one })) → Opens x (context_of r) (inner (inside r one))
opens_by {x} r one f g = go (leb 64 (total (depths_of (context_of r).depths))) refl
  where
    go : (b : Bool) → leb 64 (total (depths_of (context_of r).depths)) ≡ b → Opens x (context_of r) (inner (pick b (Err ContainersTooDeep) (Ok (r + one))))
    go true h = f (leb-true 64 _ h)
    go false h = g (leb-false 64 _ h)

-- ---- a context and a position that were taken from a number

pub inside_as : {k c : Context} {len place : ℕ} → k ≡ c → Inside len place c → Inside len place k
inside_as {len = len} {place} e w = subst⁻¹ (λ (x : Context). Inside len place x) e w

module _ {k c : Context} (e : k ≡ c) (code w place : ℕ) (part : List ℕ) {end len n : ℕ} {l l' : List ℕ} {r : Counts} where
  pub number_as : ((d : Depths) → Done (number_by k code w d place part) end len n l l' r) → (d : Depths) → Done (number_by c code w d place part) end len n l l' r
  number_as g d = subst (λ (x : Context). Done (number_by x code w d place part) end len n l l' r) e (g d)

  pub readings_as : (lead b : ℕ) (t : OffsetTable) → Done (elements_by (child_step (reading_by k code w) (depths_of k.depths) place part b) t part lead) end len n l l' r
      → Done (elements_by (child_step (reading_by c code w) (depths_of c.depths) place part b) t part lead) end len n l l' r
  readings_as lead b t g = subst (λ (x : Context). Done (elements_by (child_step (reading_by x code w) (depths_of x.depths) place part b) t part lead) end len n l l' r) e g

pub numbers_as : {k c : Context} → k ≡ c → (code w place : ℕ) (part : List ℕ) (lead : ℕ) {end len n : ℕ} {l l' : List ℕ} {r : Counts}
    → ((d : Depths) (b : ℕ) → Done (elements (length part) (child_step (number_by k code w) d place part b) (length part) lead) end len n l l' r)
    → (d : Depths) (b : ℕ) → Done (elements (length part) (child_step (number_by c code w) d place part b) (length part) lead) end len n l l' r
numbers_as e code w place part lead {end} {len} {n} {l} {l'} {r} g d b =
    subst (λ (x : Context). Done (elements (length part) (child_step (number_by x code w) d place part b) (length part) lead) end len n l l' r) e (g d b)

-- a reading at the position and in the order that a number begins with
pub begun : {position : ℕ} {big : Bool} {ride : ℕ} → Begins position big ride → (t : Tree) (place : ℕ) (part : List ℕ) {end len n : ℕ} {l l' : List ℕ} {r : Counts}
    → Done (value_in (context_of ride) t place part) end len n l l' r → Done (reader_of position big (context_of ride).depths.variant t (depths_of (context_of ride).depths) place part) end len n l l' r
begun {position} {big} {ride} b t place part {end} {len} {n} {l} {l'} {r} d =
    subst (λ (x : Bool). Done (reader_of position x (context_of ride).depths.variant t (depths_of (context_of ride).depths) place part) end len n l l' r) b.order
    (subst (λ (x : ℕ). Done (reader_of x (context_of ride).big (context_of ride).depths.variant t (depths_of (context_of ride).depths) place part) end len n l l' r) b.at d)
