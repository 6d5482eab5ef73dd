-- The numbers of a store's file. Assumes nothing: these are definitions.
use Rattle.std.specs.Prelude.{◌≡◌, ℕ, ◌/◌, ◌%◌, List, length, Ok, Err, vec_items, Result, Vec}
use Rattle.std.specs.declared.alloc.Global.{Global}
use Rattle.byte_reading.specs.Bytes.{low_first}
use Rattle.rows.specs.Rows.{chunks}
use Rattle.storefile.specs.declared.StoreFileError.{StoreFileError}
use Rattle.storefile.specs.declared.StoreFileError.TheVariants.{NotWholeNumbers, OutOfMemory}

abbrev pub number_bytes : ℕ
number_bytes = 8

abbrev pub first_number : List ℕ → ℕ
first_number bs = low_first 8 0 bs

-- as many numbers as there are whole ones
abbrev pub numbers_in : List ℕ → List ℕ
numbers_in bs = chunks first_number number_bytes (length bs / number_bytes) bs

abbrev pub StoreRead : List ℕ → Result (Vec ℕ Global) StoreFileError → Type 0
StoreRead bs (Ok rows) = (length bs % number_bytes ≡ 0) × (vec_items rows ≡ numbers_in bs)
StoreRead bs (Err NotWholeNumbers) = length bs % number_bytes ≡ 0 → ⊥
StoreRead bs (Err (OutOfMemory _)) = length bs % number_bytes ≡ 0
