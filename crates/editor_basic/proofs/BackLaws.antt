-- Offsets written in front of those that are written already. Assumes nothing.
use mathlib.Core.Path.{◌≡◌, refl, sym, ap, ◌∙◌}
use mathlib.Core.List.{List, [], ◌∷◌, ◌++◌, append_assoc, append-nil}
use mathlib.Core.Bool.{Bool, true, false}
use Prim.Native.Nat.{ℕ, ◌+◌, ◌-◌, ◌*◌, ◌≤◌, ◌<◌}
use native.Mathlib.Omega.{arith}
use lib.ListN.{length, set}
use Rattle.meaning.specs.Numbers.{bytes}
use Rattle.meaning.specs.Offsets.{back_table}
use Rattle.meaning.specs.Padding.{padding}
use Rattle.meaning.specs.Written.{Piece, stop, unless, field_ends}
use Rattle.meaning.proofs.LayoutLaws.{length_back_table, field_ends_one}
use Rattle.meaning_writing.proofs.PieceLaws.{field_ends_more}
use Rattle.editor_basic.specs.Puts.{over}
use Rattle.editor_basic.proofs.PutLaws.{over_none, over_append, length_over, set_over}
use Rattle.editor_basic.specs.declared.fields.Row.{Row}
use Rattle.editor_basic.specs.declared.fields.Field.{Field}
use Rattle.editor_basic.specs.Rows.{fields_in, row_pieces, StandingRow, behind_field, found_field, FirstField}
use Rattle.editor_basic.proofs.StepLaws.{stop_stride}
use Rattle.meaning.specs.Types.{Fields, last, next}
use Rattle.meaning.proofs.PaddingLaws.{padding_small}
use Rattle.signature.specs.Trees.{fields_at}
use Rattle.strict_sizes.proofs.TableLaws.{field_place}

pub mul-add : (a b w : ℕ) → (a + b) * w ≡ a * w + b * w
mul-add a b w = omega arith

-- ---- in front of what is put already

over_apart : (out : List ℕ) (at spot : ℕ) (x y : List ℕ) → spot + length x ≤ at → over (over out at y) spot x ≡ over (over out spot x) at y
unfolding over
over_apart out at spot [] y h = refl
over_apart out at spot (b ∷ x) y h =
    ap (λ (z : List ℕ). over z (spot + 1) x) (set_over out at spot b y (omega arith)) ∙ over_apart (set out spot b) at (spot + 1) x y (omega arith)

pub over_front : (out : List ℕ) (at spot : ℕ) (x y : List ℕ) → spot + length x ≡ at → over (over out at y) spot x ≡ over out spot (x ++ y)
over_front out at spot x y h = over_apart out at spot x y (omega arith) ∙ over_append out spot x y at (sym h)

-- ---- one end, unless a field is fixed

pub end_none : (fx : Bool) (out : List ℕ) (below w e : ℕ) → fx ≡ true
    → (out ≡ over out below (back_table w (unless fx e []))) × (below + length (unless fx e []) * w ≡ below)
unfolding back_table
end_none fx out below w e h = rw h (sym (over_none out below), omega arith)

pub end_one : (fx : Bool) (out out' : List ℕ) (below first w e : ℕ) → fx ≡ false → first + w ≡ below → out' ≡ over out first (bytes w e)
    → (out' ≡ over out first (back_table w (unless fx e []))) × (first + length (unless fx e []) * w ≡ below)
unfolding back_table
end_one fx out out' below first w e h g o = rw h (o, omega arith)

pub end_room : (fx : Bool) (below w e : ℕ) → fx ≡ false → length (unless fx e []) * w ≤ below → w ≤ below
end_room fx below w e h g = let y : length (unless false e []) * w ≤ below = rw h at g in omega arith

-- ---- the ends of fields, one in front of another: `put` stands from `first` on, and `left` is yet to stand in front of it

pub record Sinking (before : List ℕ) (w below : ℕ) (all out : List ℕ) (first : ℕ) (left : List ℕ) : Type 0 where
  pub put : List ℕ
  pub out_is : out ≡ over before first put
  pub whole : back_table w left ++ put ≡ back_table w all
  pub place : first + length all * w ≡ below + length left * w
  pub kept : length out ≡ length before

pub sinking_begin : (before : List ℕ) (w below : ℕ) (all : List ℕ) → Sinking before w below all before below all
sinking_begin before w below all =
    record { put = []; out_is = sym (over_none before below); whole = append-nil (back_table w all); place = refl; kept = refl }

back_append : (w : ℕ) (fx : Bool) (e : ℕ) (es : List ℕ) → back_table w (unless fx e es) ≡ back_table w es ++ back_table w (unless fx e [])
unfolding back_table
back_append w true e es = sym (append-nil (back_table w es))
back_append w false e es = refl

pub more_length : (fx : Bool) (e : ℕ) (es : List ℕ) → length (unless fx e es) ≡ length es + length (unless fx e [])
more_length true e es = omega arith
more_length false e es = omega arith

module _ {before : List ℕ} {w below : ℕ} {all out : List ℕ} {first : ℕ} {left : List ℕ} (s : Sinking before w below all out first left) where
  -- one more end
  pub sinking_next : (fx : Bool) (e : ℕ) (es out' : List ℕ) (spot : ℕ) → left ≡ unless fx e es → out' ≡ over out spot (back_table w (unless fx e [])) → spot + length (unless fx e []) * w ≡ first
      → Sinking before w below all out' spot es
  sinking_next fx e es out' spot h o p =
      let n = length_back_table w (unless fx e []) in
      let m : length left * w ≡ length es * w + length (unless fx e []) * w = ap (λ (i : ℕ). i * w) (ap length h ∙ more_length fx e es) ∙ mul-add (length es) (length (unless fx e [])) w in
      record {
        put = back_table w (unless fx e []) ++ s.put;
        out_is = o ∙ ap (λ (z : List ℕ). over z spot (back_table w (unless fx e []))) s.out_is ∙ over_front before first spot (back_table w (unless fx e [])) s.put (omega arith);
        whole =
            sym (append_assoc (back_table w es) (back_table w (unless fx e [])) s.put)
            ∙ ap (λ (z : List ℕ). z ++ s.put) (sym (ap (λ (z : List ℕ). back_table w z) h ∙ back_append w fx e es))
            ∙ s.whole;
        place = omega (arith, s.place);
        kept = ap length o ∙ length_over out spot (back_table w (unless fx e [])) ∙ s.kept;
      }

  pub sinking_room : (fx : Bool) (e : ℕ) (es : List ℕ) → left ≡ unless fx e es → length all * w ≤ below → length (unless fx e []) * w ≤ first
  sinking_room fx e es h g =
      let m : length left * w ≡ length es * w + length (unless fx e []) * w = ap (λ (i : ℕ). i * w) (ap length h ∙ more_length fx e es) ∙ mul-add (length es) (length (unless fx e [])) w in
      omega (arith, s.place)

  pub sinking_end : left ≡ [] → (out ≡ over before first (back_table w all)) × (first + length all * w ≡ below)
  unfolding back_table
  sinking_end h =
      let none : length left * w ≡ 0 = ap (λ (z : List ℕ). length z * w) h ∙ omega arith in
      let p : back_table w [] ++ s.put ≡ back_table w all = rw h at s.whole in
      (s.out_is ∙ ap (λ (z : List ℕ). over before first z) p, omega (arith, s.place, none))

-- ---- a loop that writes the ends of fields: what is left of them is yet to stand in front

pub record EndsLeft (text tables : List ℕ) (row : Row) (l before : List ℕ) (w below to : ℕ) (out : List ℕ) (rest : Row) (first place : ℕ) : Type 0 where
  pub stands : StandingRow text tables rest l
  pub near : place + row.place + 8 * row.at ≤ to + rest.place + 8 * rest.at
  pub sinks : Sinking before w below (field_ends to (fields_in text row l)) out first (field_ends place (fields_in text rest l))

pub ends_begin : (text tables : List ℕ) (row : Row) (l before : List ℕ) (w below to : ℕ) → StandingRow text tables row l → EndsLeft text tables row l before w below to before row below to
ends_begin text tables row l before w below to z =
    record { stands = z; near = omega arith; sinks = sinking_begin before w below (field_ends to (fields_in text row l)) }

pub some_pieces : (l : List ℕ) (b w : ℕ) (ts : Fields) (k e : ℕ) → 0 < length (row_pieces l b w ts k e)
unfolding row_pieces
some_pieces l b w (last t) k e = omega arith
some_pieces l b w (next t ts) k e = omega arith

module _ {text tables : List ℕ} {row : Row} {l before : List ℕ} {w below to : ℕ} {out : List ℕ} {rest : Row} {first place : ℕ} (s : EndsLeft text tables row l before w below to out rest first place)
    {f : Field} (g : FirstField text tables rest l f) where
  pub ends_last : f.last ≡ true → (out ≡ over before first (back_table w (field_ends to (fields_in text row l)))) × (first + length (field_ends to (fields_in text row l)) * w ≡ below)
  ends_last h = sinking_end s.sinks (ap (λ (z : List Piece). field_ends place z) (g.alone h) ∙ field_ends_one place (found_field f l))

  module _ (pad : ℕ) (p : pad ≡ padding place f.alignment) where
    pub ends_most : place + pad + (f.stop - f.start) < to + 100000
    ends_most =
        let i = field_place text tables rest.at s.stands.rowed s.stands.table.shapes in
        omega (arith, padding_small g.aligned place, s.near, g.after, g.order, g.inside, s.stands.short)

    module _ (h : f.last ≡ false) where
      abbrev behind : List Piece
      behind = fields_in text (behind_field rest f) l

      pub ends_are : field_ends place (fields_in text rest l) ≡ unless f.fixed (place + pad + (f.stop - f.start)) (field_ends (place + pad + (f.stop - f.start)) behind)
      ends_are =
          let m = g.rest h in
          let k : stop place (found_field f l) ≡ place + pad + (f.stop - f.start) =
          stop_stride l f.alignment f.fixed f.start f.stop (fields_in text rest l) behind m.pieces g.inside place ∙ omega arith in
          ap (λ (z : List Piece). field_ends place z) m.pieces
          ∙ field_ends_more place (found_field f l) behind (some_pieces l rest.body rest.width (fields_at text f.next) f.stop f.left)
          ∙ ap (λ (n : ℕ). unless f.fixed n (field_ends n behind)) k

      pub ends_room : length (field_ends to (fields_in text row l)) * w ≤ below → length (unless f.fixed (place + pad + (f.stop - f.start)) []) * w ≤ first
      ends_room = sinking_room s.sinks f.fixed (place + pad + (f.stop - f.start)) (field_ends (place + pad + (f.stop - f.start)) behind) ends_are

      pub ends_next : (e : Row) (out' : List ℕ) (spot : ℕ) → e ≡ behind_field rest f
          → out' ≡ over out spot (back_table w (unless f.fixed (place + pad + (f.stop - f.start)) []))
          → spot + length (unless f.fixed (place + pad + (f.stop - f.start)) []) * w ≡ first
          → EndsLeft text tables row l before w below to out' e spot (place + pad + (f.stop - f.start))
      ends_next e out' spot q o n =
          let m = g.rest h in
          rw q (record {
            stands = m.stands;
            near = omega (arith, padding_small g.aligned place, s.near, g.after, g.order, m.onward, p);
            sinks = sinking_next s.sinks f.fixed (place + pad + (f.stop - f.start)) (field_ends (place + pad + (f.stop - f.start)) behind) out' spot ends_are o n;
          })
