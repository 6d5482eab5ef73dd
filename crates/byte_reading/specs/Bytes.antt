-- Numbers that are written in bytes. Assumes nothing: these are definitions.
use Rattle.std.specs.Prelude.{ℕ, zero, suc, ◌+◌, ◌*◌, List, slice_index}

-- the number of n bytes from a place on, low byte first; a byte that is not there reads as 0
abbrev pub low_first : ℕ → ℕ → List ℕ → ℕ
low_first zero at bs = 0
low_first (suc n) at bs = slice_index bs at + 256 * low_first n (at + 1) bs
