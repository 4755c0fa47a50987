-- The number of each refusal, and what a call that may be refused comes to: a refusal's number, 0 where it is done. Assumes nothing: these
-- are definitions.
use Rattle.std.specs.Prelude.{ℕ, Result, Ok, Err}
use Rattle.meaning.specs.Refusals as number
use Rattle.meaning.specs.declared.refusals.Refusal.{Refusal}
use Rattle.meaning.specs.declared.refusals.Refusal.TheVariants as refusal

abbrev pub number_of : Refusal → ℕ
number_of refusal.TypeRefused = number.type_refused
number_of refusal.OverLimit = number.over_limit
number_of refusal.OutOfBounds = number.out_of_bounds
number_of refusal.PaddingNotZero = number.padding_not_zero
number_of refusal.NulInText = number.nul_in_text
number_of refusal.NotUtf8 = number.not_utf8
number_of refusal.MaybeEndNotZero = number.maybe_end_not_zero
number_of refusal.NoSeparator = number.no_separator
number_of refusal.VariantTypeRefused = number.variant_type_refused
number_of refusal.StructuresTooDeep = number.structures_too_deep
number_of refusal.ArraysTooDeep = number.arrays_too_deep
number_of refusal.ContainersTooDeep = number.containers_too_deep
number_of refusal.RoomTooSmall = number.room_too_small
number_of refusal.NotWritten = number.not_written
number_of refusal.NoSuchReading = number.no_such_reading
number_of refusal.NoValue = number.no_value
number_of refusal.NotHexadecimal = number.not_hexadecimal

-- of a call: 0 where it is done
abbrev pub refusal_in : {A : Type 0} → Result A Refusal → ℕ
refusal_in (Ok a) = 0
refusal_in (Err r) = number_of r
