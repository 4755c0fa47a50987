-- `signature::items::item_of` meets its contract. Assumes nothing.
use mathlib.Core.Path.{◌∙◌}
use Rattle.signature.specs.declared.Letter.TheVariants.{OpenEntry}
use borrow.Enum.Refused.{opened}
use Rattle.signature.proofs.Letters.{apart_from}
use Rattle.signature.proofs.ItemLaws.{item_far, item_entry, item_element}
use Rattle.signature.proofs.items.item_of.Goals as goal

pub returns-then-at-gt-LONGEST_TYPE : goal.returns-then-at-gt-LONGEST_TYPE
returns-then-at-gt-LONGEST_TYPE c = c.element_item.ensures ∙ item_far _ _ _ c.if-at-gt-LONGEST_TYPE.true _ c.unpack.ensures

pub returns-in-OpenEntry : goal.returns-in-OpenEntry
returns-in-OpenEntry c =
    c.entry_item.ensures ∙ item_entry _ _ _ c.if-at-gt-LONGEST_TYPE.false _ _ c.letter_at-inner.ensures c.letter_at-second.ensures
    c.in-OpenEntry.is _ c.shape_in-value.ensures

pub returns : goal.returns
returns c =
    c.element_item-2.ensures ∙ item_element _ _ _ c.if-at-gt-LONGEST_TYPE.false _ _ c.letter_at-inner.ensures c.letter_at-second.ensures
    (apart_from OpenEntry _ (opened c.in_default.in_default-own.keys2)) _ c.shape_in-element.ensures
