-- `repeated` meets its contract. Assumes nothing.
use native.Mathlib.Omega.{arith}
use Rattle.strict_sizes.proofs.TableLaws.{placed_at}
use Rattle.strict_sizes.proofs.ItemLaws.{found_placed, found_entry, found_element, entry_keyed, entry_is, element_is}
use Rattle.strict_sizes.proofs.items.repeated.Goals as goal

pub extent_in-lies-requires : goal.extent_in-lies-requires
extent_in-lies-requires c = (
  c.requires.0.table.room,
  placed_at (found_placed c.args.text.now c.args.tables.now
      c.args.array c.requires.0 c.requires.1 _ c.item_of-found.ensures),
)

pub entry_size-requires : goal.entry_size-requires
entry_size-requires c =
    let k = (entry_keyed _ c.requires.0.table (found_entry c.args.text.now
    c.args.tables.now c.args.array c.requires.0
    c.requires.1 _ c.item_of-found.ensures c.if-found.true) _ c.extent_in-lies.ensures) in (
      k.key,
      k.key_most,
      k.value,
      omega (arith, k.value_most),
      k.aligned,
    )

pub returns-then-found : goal.returns-then-found
returns-then-found c =
    entry_is _ c.requires.0.table (found_entry c.args.text.now
    c.args.tables.now c.args.array
    c.requires.0 c.requires.1 _
    c.item_of-found.ensures c.if-found.true) _ c.extent_in-lies.ensures _ c.entry_size.ensures

pub any_in-any-requires : goal.any_in-any-requires
any_in-any-requires c = (
  c.requires.0.table.room,
  placed_at (found_placed c.args.text.now c.args.tables.now
      c.args.array c.requires.0 c.requires.1 _
      c.item_of-found.ensures),
)

pub returns : goal.returns
returns c =
    element_is _ c.requires.0.table (found_element c.args.text.now
    c.args.tables.now c.args.array
    c.requires.0 c.requires.1 _
    c.item_of-found.ensures c.if-found.false) _ c.extent_in-lies.ensures _
    c.any_in-any.ensures _ c.repeats_of-repeats.ensures
