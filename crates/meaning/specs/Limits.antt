-- The limits of document 01, each by its name. Assumes nothing: these are definitions.
use Rattle.std.specs.Prelude.{ℕ}

-- a frame has at most 65,536 bytes and a position of 0 to 65,536
abbrev pub largest_frame : ℕ
largest_frame = 65536

-- a type is one complete type, 1 to 255 characters
abbrev pub longest_type : ℕ
longest_type = 255

-- containers open one inside another: structures; arrays and dictionaries; all of them, with variants and maybes
abbrev pub most_structures : ℕ
most_structures = 32

abbrev pub most_arrays : ℕ
most_arrays = 32

abbrev pub most_containers : ℕ
most_containers = 64

-- variants that reading may look at one inside another: 64 are read, and the next is judged up to its depth
abbrev pub most_variants : ℕ
most_variants = 65

-- numbers have 64 bits
abbrev pub largest_number : ℕ
largest_number = 18446744073709551615
