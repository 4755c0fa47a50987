-- The numbers of the refusals, as document 01's table has them; 0 is done. Assumes nothing: these are definitions.
use Rattle.std.specs.Prelude.{ℕ}

abbrev pub type_refused : ℕ
type_refused = 1

-- frame, new frame or position over its limit, or used length over the buffer
abbrev pub over_limit : ℕ
over_limit = 2

-- value, offset or padding past its part
abbrev pub out_of_bounds : ℕ
out_of_bounds = 3

abbrev pub padding_not_zero : ℕ
padding_not_zero = 4

abbrev pub nul_in_text : ℕ
nul_in_text = 5

abbrev pub not_utf8 : ℕ
not_utf8 = 6

-- byte after a present maybe not 0
abbrev pub maybe_end_not_zero : ℕ
maybe_end_not_zero = 7

-- variant without separator
abbrev pub no_separator : ℕ
no_separator = 8

abbrev pub variant_type_refused : ℕ
variant_type_refused = 9

abbrev pub structures_too_deep : ℕ
structures_too_deep = 10

abbrev pub arrays_too_deep : ℕ
arrays_too_deep = 11

abbrev pub containers_too_deep : ℕ
containers_too_deep = 12

-- lent room too small for the complete answer
abbrev pub room_too_small : ℕ
room_too_small = 13

-- 14 is not used

-- edit: the frame reads, but is no written form
abbrev pub not_written : ℕ
not_written = 15

abbrev pub no_such_reading : ℕ
no_such_reading = 16

-- number or events spell no value of the type; padding leaf: bad alignment
abbrev pub no_value : ℕ
no_value = 17

-- lister: line is not pairs of hexadecimal digits
abbrev pub not_hexadecimal : ℕ
not_hexadecimal = 18
