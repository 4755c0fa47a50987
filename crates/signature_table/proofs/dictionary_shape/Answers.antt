-- `dictionary_shape` meets its contract: a law of ShapeLaws or of signature's Children for each way out. Assumes nothing.
use mathlib.Core.Path.{refl, sym, ap, ◌∙◌}
use Prim.Native.Nat.{ℕ, ◌+◌}
use native.Mathlib.Omega.{arith}
use Rattle.signature.specs.Places.{letter_at}
use Rattle.signature.specs.declared.Letter.TheVariants.{CloseEntry}
use Rattle.meaning.proofs.TypeLaws.{aligns_most}
use Rattle.signature.specs.Steps.{key_alignment}
use Rattle.signature.proofs.Letters.{not_cut, closes_entry}
use Rattle.signature.proofs.Children.{entry_no_key, entry_no_value, entry_open}
use Rattle.signature.proofs.ShapeLaws.{known, absent, key_most, fits, no_dictionary, shape_dictionary}
use Rattle.signature_table.proofs.dictionary_shape.Goals as goal

pub overflow_add-at : goal.overflow_add-at
overflow_add-at c =
    omega (arith, c.requires.0.inside, c.requires.0.few)

pub returns-then-first-eq0 : goal.returns-then-first-eq0
returns-then-first-eq0 c =
    no_dictionary c.args.text.now c.args.at c.requires.0.few c.requires.1 c.requires.2
    (entry_no_key c.args.text.now c.args.at c.requires.0.few c.requires.1 c.requires.2
    (sym (c.key_alignment-first.ensures ∙ ap key_alignment c.letter_at-key.ensures) ∙ c.if-first-eq0.true))

pub overflow_add-at-2 : goal.overflow_add-at-2
overflow_add-at-2 c =
    omega (arith, c.requires.0.inside, c.requires.0.few)

pub seen-value-requires : goal.seen-value-requires
seen-value-requires c =
    (c.requires.0.few, c.requires.0.room)

pub returns-then-value-eq0 : goal.returns-then-value-eq0
returns-then-value-eq0 c =
    no_dictionary c.args.text.now c.args.at c.requires.0.few c.requires.1 c.requires.2
    (entry_no_value c.args.text.now c.args.at c.requires.0.few c.requires.1 c.requires.2
    (λ z. c.if-first-eq0.false ((c.key_alignment-first.ensures ∙ ap key_alignment c.letter_at-key.ensures) ∙ z))
    (absent c.args.text.now (c.args.at + 3) c.seen-value.result
    (c.seen-value.ensures (c.args.at + 1) (omega arith) c.requires.0.table) c.if-value-eq0.true))

pub pack-requires : goal.pack-requires
pack-requires c =
    let k = (known c.args.text.now (c.args.at + 3) c.seen-value.result
    (c.seen-value.ensures (c.args.at + 1) (omega arith) c.requires.0.table) c.if-value-eq0.false) in
    let m = key_most c.args.text.now (c.args.at + 2)
    (λ z. c.if-first-eq0.false ((c.key_alignment-first.ensures ∙ ap key_alignment c.letter_at-key.ensures) ∙ z)) in
    let e = (c.key_alignment-first.ensures ∙ ap key_alignment c.letter_at-key.ensures) in (
      fits c.args.text.now c.next_of-next.result CloseEntry 125 c.requires.0.few
          (closes_entry _ _ (c.stands.ensures.here c.if-stands.true)) refl,
      omega
          (arith, c.max-alignment.ensures, c.alignment_of.ensures, k.alignment, aligns_most k.stands.aligns),
    )

pub returns-then-stands : goal.returns-then-stands
returns-then-stands c =
    let k = (known c.args.text.now (c.args.at + 3) c.seen-value.result
    (c.seen-value.ensures (c.args.at + 1) (omega arith) c.requires.0.table) c.if-value-eq0.false) in
    c.pack.ensures ∙ rw (c.next_of-next.ensures, c.max-alignment.ensures, c.alignment_of.ensures)
    (rw (c.key_alignment-first.ensures ∙ ap key_alignment c.letter_at-key.ensures)
    (shape_dictionary c.args.text.now c.args.at c.requires.0.few c.requires.1 c.requires.2 c.seen-value.result k
    (λ z. c.if-first-eq0.false ((c.key_alignment-first.ensures ∙ ap key_alignment c.letter_at-key.ensures) ∙ z))
    (sym (ap (λ (x : ℕ). letter_at c.args.text.now x) c.next_of-next.ensures) ∙ closes_entry _ _ (c.stands.ensures.here c.if-stands.true))))

pub returns-else-stands : goal.returns-else-stands
returns-else-stands c =
    let k = (known c.args.text.now (c.args.at + 3) c.seen-value.result
    (c.seen-value.ensures (c.args.at + 1) (omega arith) c.requires.0.table) c.if-value-eq0.false) in
    no_dictionary c.args.text.now c.args.at c.requires.0.few c.requires.1 c.requires.2
    (entry_open c.args.text.now c.args.at c.requires.0.few c.requires.1 c.requires.2
    (λ z. c.if-first-eq0.false ((c.key_alignment-first.ensures ∙ ap key_alignment c.letter_at-key.ensures) ∙ z)) k.stands
    (λ q. not_cut c.args.text.now c.next_of-next.result CloseEntry 125 refl (c.stands.ensures.not c.if-stands.false)
    (ap (λ (x : ℕ). letter_at c.args.text.now x) (c.next_of-next.ensures ∙ k.next) ∙ q)))
