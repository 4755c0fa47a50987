-- Laws of the fields of a structure from one of them on: the first of them, and those behind it. Assumes nothing.
use mathlib.Core.Path.{◌≡◌, refl, sym, ap, ◌∙◌}
use mathlib.Core.List.{List, [], ◌∷◌, ◌++◌}
use mathlib.Core.Bool.{Bool, true, false, false≢true}
use Prim.Native.Nat.{ℕ, suc, ◌+◌, ◌-◌, ◌*◌, ◌≤◌, ◌<◌}
use native.Mathlib.Omega.{arith}
use lib.Dec.{leb}
use lib.ListN.{length, take, drop}
use borrow.Author.Tests.{leb-true}
use Rattle.meaning.specs.Padding.{padding, zeros}
use Rattle.meaning.specs.Types.{Tree, Fields, last, next, alignment, fixed, fixed_size}
use Rattle.meaning.specs.Written.{Piece, layout}
use Rattle.meaning.proofs.Tests.{both_true}
use Rattle.meaning_writing.specs.Shapes.{part, behind_padding, last_end, one_more, field_end, offsets_left}
use Rattle.meaning_writing.specs.Edited.{found_piece}
use Rattle.meaning_writing.proofs.StrictSteps.{test_size}
use Rattle.meaning.proofs.PaddingLaws.{padding_small}
use Rattle.signature.specs.Trees.{tree_at, fields_at}
use Rattle.signature.specs.Shapes.{shape_in}
use Rattle.signature.specs.declared.shapes.Shape as shapes
use Rattle.signature.proofs.TreeLaws.{described_alignment, described_fixed, LastField, NextField}
use Rattle.strict_ends.specs.Ends.{Laid, shaped, end_of}
use Rattle.strict_sizes.specs.Sizes.{offsets_in, extent_in}
use Rattle.strict_sizes.specs.Items.{Placed}
use Rattle.strict_ends.specs.declared.Extent.{Extent}
use Rattle.strict_sizes.proofs.TableLaws.{placed_known, field_described, field_place}
use Rattle.editor_basic.specs.Puts.{over}
use Rattle.editor_basic.proofs.PutLaws.{over_none}
use Rattle.editor_basic.proofs.ShapeLaws.{Same, same_last, same_next}
use Rattle.editor_basic.proofs.StepLaws.{stride, total_next, bytes_next}
use Rattle.editor_basic.specs.declared.fields.Row.{Row}
use Rattle.editor_basic.specs.declared.fields.Field.{Field}
use Rattle.editor_basic.specs.Rows.{type_shape, field_piece, last_stop, next_stop, row_pieces, between, row_rises, fields_in, StandingRow, behind_field, field_of, type_at, FirstField}

-- ---- a field by its shape and the table

module _ (text tables : List ℕ) (r : Row) (l : List ℕ) (z : StandingRow text tables r l) (s : shapes.Shape) (hs : s ≡ shape_in text tables r.at) where
  pub here_placed : Placed text tables s
  here_placed = record { shape = field_described text tables r.at z.rowed z.table.shapes s hs; table = z.table }

-- how it lies, as its type says
pub record Lies (t : Tree) (x : Extent) : Type 0 where
  pub laid : Laid x
  pub same_alignment : x.alignment ≡ alignment t
  pub same_fixed : x.fixed ≡ fixed t
  pub same_size : x.fixed ≡ true → x.size ≡ fixed_size t

pub placed_lies : {text tables : List ℕ} {s : shapes.Shape} (p : Placed text tables s) (x : Extent) → x ≡ extent_in tables s → Lies (tree_at text s.at) x
placed_lies {text} {tables} {s} p x e =
    let k = placed_known p in
    let f = described_fixed p.shape in
    rw e (record {
      laid = k.laid;
      same_alignment = described_alignment p.shape;
      same_fixed = f;
      same_size = λ h. sym (k.same_size 0 h) ∙ test_size 65 (tree_at text s.at) (sym f ∙ h);
    })

module _ (t : Tree) (x : Extent) (h : Lies t x) where
  lies_same : Same (shaped x) (type_shape t)
  lies_same = record { same_alignment = h.same_alignment; same_fixed = h.same_fixed; same_size = h.same_size }

  pub last_stop_lem : (b k : ℕ) → last_end x.fixed (end_of x k) b ≡ last_stop t b k
  last_stop_lem = same_last lies_same

  pub next_stop_lem : (l : List ℕ) (w e k : ℕ) → field_end x.fixed l w e (end_of x k) ≡ next_stop t l w e k
  next_stop_lem = same_next lies_same

-- ---- the first of some fields

-- an offset less, unless a field is fixed
left_room : (fx : Bool) (n w e : ℕ) {m : ℕ} → m ≡ one_more fx n → m * w ≤ e → (offsets_left fx w e ≤ e) × (n * w ≤ offsets_left fx w e)
left_room true n w e h g = (omega arith, rw h at g)
left_room false n w e h g = let q = rw h at g in (omega arith, omega arith)

pub count_is : (ts : Fields) (t : Tree) (us : Fields) → ts ≡ next t us → offsets_in ts ≡ one_more (fixed t) (offsets_in us)
unfolding offsets_in
count_is ts t us q = ap (λ (z : Fields). offsets_in z) q

-- a field that has one has room for it
pub offset_room : (ts : Fields) (t : Tree) (us : Fields) (fx : Bool) (w e : ℕ) → ts ≡ next t us → fx ≡ fixed t → offsets_in ts * w ≤ e → fx ≡ false → w ≤ e
offset_room ts t us fx w e q p g f =
    let n : offsets_in ts ≡ suc (offsets_in us) = count_is ts t us q ∙ ap (λ (b : Bool). one_more b (offsets_in us)) (sym p ∙ f) in
    let y : suc (offsets_in us) * w ≤ e = rw n at g in
    omega arith

module _ (text tables : List ℕ) (r : Row) (l : List ℕ) (z : StandingRow text tables r l) (s : shapes.Shape) (here : s.at ≡ r.at) (x : Extent) (h : Lies (tree_at text s.at) x) (start : ℕ) (hs : start ≡ r.place + padding r.place x.alignment) where
  abbrev its : Tree
  its = tree_at text s.at

  its_is : its ≡ type_at text r
  its_is = ap (tree_at text) here

  start_is : start ≡ behind_padding r.place (type_shape its)
  start_is = hs ∙ ap (λ (a : ℕ). r.place + padding r.place a) h.same_alignment

  piece_is : (stop : ℕ) → field_piece its l r.place stop ≡ found_piece x.alignment x.fixed (part start stop l)
  piece_is stop = rw (h.same_alignment, h.same_fixed, start_is)

  module _ (stop : ℕ) (b : between l r.body r.width its r.place stop ≡ true) where
    low_high : (start ≤ stop) × (stop ≤ length l)
    low_high =
        let y = both_true (leb (behind_padding r.place (type_shape its)) stop) (leb stop (length l)) b in
        (omega (arith, start_is, leb-true (behind_padding r.place (type_shape its)) stop y.0), leb-true stop (length l) y.1)

  pub field_last : (stop behind : ℕ) → LastField text tables r.at s → stop ≡ last_end x.fixed (end_of x r.place) r.body
      → FirstField text tables r l (field_of true x start stop behind r.end)
  unfolding row_pieces row_rises
  field_last stop behind f e =
      let q : stop ≡ last_stop its r.body r.place = e ∙ last_stop_lem its x h r.body r.place in
      let u : row_rises l r.body r.width (last its) r.place r.end ≡ true = ap (λ (ts : Fields). row_rises l r.body r.width ts r.place r.end) (sym f.fields) ∙ z.up in
      let m = low_high stop (ap (λ (n : ℕ). between l r.body r.width its r.place n) q ∙ u) in
      record {
        aligned = h.laid.aligned;
        same_alignment = h.same_alignment ∙ ap alignment its_is;
        same_fixed = h.same_fixed ∙ ap fixed its_is;
        start_is = start_is ∙ ap (λ (t : Tree). behind_padding r.place (type_shape t)) its_is;
        after = omega (arith, hs);
        order = m.0;
        inside = m.1;
        final = λ y. record {
          fields = f.fields ∙ ap (λ (t : Tree). last t) its_is;
          stop_is = q ∙ ap (λ (t : Tree). last_stop t r.body r.place) its_is;
        };
        alone = λ y. ap (λ (ts : Fields). row_pieces l r.body r.width ts r.place r.end) f.fields
            ∙ ap (λ (c : Piece). c ∷ []) (ap (λ (n : ℕ). field_piece its l r.place n) (sym q) ∙ piece_is stop);
        rest = λ y. absurd (false≢true (sym y));
      }

  pub field_next : (stop left : ℕ) → NextField text tables r.at s → stop ≡ field_end x.fixed l r.width r.end (end_of x r.place) → left ≡ offsets_left x.fixed r.width r.end
      → FirstField text tables r l (field_of false x start stop s.next left)
  unfolding row_pieces row_rises
  field_next stop left f e g =
      let q : stop ≡ next_stop its l r.width r.end r.place = e ∙ next_stop_lem its x h l r.width r.end r.place in
      let o : left ≡ offsets_left (fixed its) r.width r.end = g ∙ ap (λ (y : Bool). offsets_left y r.width r.end) h.same_fixed in
      let u : row_rises l r.body r.width (next its (fields_at text s.next)) r.place r.end ≡ true =
      ap (λ (ts : Fields). row_rises l r.body r.width ts r.place r.end) (sym f.fields) ∙ z.up in
      let b = both_true (between l r.body r.width its r.place (next_stop its l r.width r.end r.place))
      (row_rises l r.body r.width (fields_at text s.next) (next_stop its l r.width r.end r.place) (offsets_left (fixed its) r.width r.end)) u in
      let m = low_high stop (ap (λ (n : ℕ). between l r.body r.width its r.place n) q ∙ b.0) in
      let n = left_room (fixed its) (offsets_in (fields_at text s.next)) r.width r.end (count_is (fields_at text r.at) its (fields_at text s.next) f.fields) z.room in
      record {
        aligned = h.laid.aligned;
        same_alignment = h.same_alignment ∙ ap alignment its_is;
        same_fixed = h.same_fixed ∙ ap fixed its_is;
        start_is = start_is ∙ ap (λ (t : Tree). behind_padding r.place (type_shape t)) its_is;
        after = omega (arith, hs);
        order = m.0;
        inside = m.1;
        final = λ y. absurd (false≢true y);
        alone = λ y. absurd (false≢true y);
        rest = λ y. record {
          fields = f.fields ∙ ap (λ (t : Tree). next t (fields_at text s.next)) its_is;
          stop_is = q ∙ ap (λ (t : Tree). next_stop t l r.width r.end r.place) its_is;
          left_is = o ∙ ap (λ (t : Tree). offsets_left (fixed t) r.width r.end) its_is;
          pieces = ap (λ (ts : Fields). row_pieces l r.body r.width ts r.place r.end) f.fields
              ∙ rw (← q, ← o) (ap (λ (c : Piece). c ∷ row_pieces l r.body r.width (fields_at text s.next) stop left) (piece_is stop));
          stands = record {
            rowed = f.rowed;
            table = z.table;
            short = z.short;
            wide = z.wide;
            inside = m.1;
            body_inside = z.body_inside;
            end_inside = omega (arith, z.end_inside, n.0, o);
            room = rw o n.1;
            up = rw (q, o) b.1;
          };
          onward = f.onward;
          within = f.within;
        };
      }

-- ---- a loop that lays fields out anew: what is left of them makes the whole

pub record RowLeft (text tables : List ℕ) (row : Row) (l before : List ℕ) (at to : ℕ) (out : List ℕ) (rest : Row) (spot place : ℕ) : Type 0 where
  pub stands : StandingRow text tables rest l
  pub near : place + row.place + 8 * row.at ≤ to + rest.place + 8 * rest.at
  pub total : place + length (layout place (fields_in text rest l)) ≡ to + length (layout to (fields_in text row l))
  pub bytes : over out spot (layout place (fields_in text rest l)) ≡ over before at (layout to (fields_in text row l))
  pub even : spot + to ≡ at + place
  pub kept : length out ≡ length before

pub row_begin : (text tables : List ℕ) (row : Row) (l before : List ℕ) (at to : ℕ) → StandingRow text tables row l → RowLeft text tables row l before at to before row at to
row_begin text tables row l before at to z =
    record { stands = z; near = omega arith; total = refl; bytes = refl; even = omega arith; kept = refl }

module _ {text tables : List ℕ} {row : Row} {l before : List ℕ} {at to : ℕ} {out : List ℕ} {rest : Row} {spot place : ℕ} (w : RowLeft text tables row l before at to out rest spot place)
    {f : Field} (g : FirstField text tables rest l f) where
  module _ (pad : ℕ) (p : pad ≡ padding place f.alignment) where
    -- what a turn adds up
    pub row_most : place + (pad + (f.stop - f.start)) < to + 100000
    row_most =
        let i = field_place text tables rest.at w.stands.rowed w.stands.table.shapes in
        omega (arith, padding_small g.aligned place, w.near, g.after, g.order, g.inside, w.stands.short)

    module _ (out' : List ℕ) (o : out' ≡ over out spot (zeros pad ++ take (f.stop - f.start) (drop f.start l))) where
      pub row_last : f.last ≡ true
          → (out' ≡ over before at (layout to (fields_in text row l)))
          × (place + (pad + (f.stop - f.start)) ≡ to + length (layout to (fields_in text row l)))
          × (place + (pad + (f.stop - f.start)) < to + 100000)
      unfolding layout
      row_last h =
          let x = bytes_next l f.alignment f.fixed f.start f.stop (fields_in text rest l) [] (g.alone h) g.inside place out _ spot (spot + stride l f.alignment f.fixed f.start f.stop (fields_in text rest l) [] (g.alone h) g.inside place) pad w.bytes p refl in
          let y = total_next l f.alignment f.fixed f.start f.stop (fields_in text rest l) [] (g.alone h) g.inside place in
          (o ∙ sym (over_none (over out spot (zeros pad ++ take (f.stop - f.start) (drop f.start l))) _) ∙ x, omega (arith, w.total, p), row_most)

      pub row_next : (e : Row) → f.last ≡ false → e ≡ behind_field rest f → length out' ≡ length out
          → RowLeft text tables row l before at to out' e (spot + (pad + (f.stop - f.start))) (place + (pad + (f.stop - f.start)))
      row_next e h q n =
          let m = g.rest h in
          let cs = fields_in text rest l in
          let ds = fields_in text (behind_field rest f) l in
          let k : pad + (f.stop - f.start) ≡ padding place f.alignment + (f.stop - f.start) = rw p in
          rw (q, k) (record {
            stands = m.stands;
            near = omega (arith, padding_small g.aligned place, w.near, g.after, g.order, m.onward);
            total = total_next l f.alignment f.fixed f.start f.stop cs ds m.pieces g.inside place ∙ w.total;
            bytes = rw o (bytes_next l f.alignment f.fixed f.start f.stop cs ds m.pieces g.inside place out _ spot _ pad w.bytes p refl);
            even = omega (arith, w.even);
            kept = n ∙ w.kept;
          })
