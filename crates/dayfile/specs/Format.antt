-- The bytes of a day's file: the head, and the commands one behind the other. Assumes nothing: these are definitions.
use Rattle.std.specs.Prelude.{ℕ, ◌+◌, ◌*◌, Bool, cond, ◌&&◌, ◌||◌, List, length, drop, Some, None, Option, ◌==◌, nat_le, slice_index}
use Rattle.script.specs.Allowed.{source_line}
use Rattle.rows.specs.Rows.{chunks}
use Rattle.script.specs.declared.source.SourceLine.{SourceLine}
use Rattle.house.specs.Deeds.{Deed, write, give, build, forget, bring}
use Rattle.entry.specs.declared.asking.Asking.{Asking}
use Rattle.house.specs.declared.size.HouseSize.{HouseSize}
use Rattle.byte_reading.specs.Bytes.{low_first}

abbrev pub byte : List ℕ → ℕ → ℕ
byte bs at = slice_index bs at

abbrev pub line_bytes : ℕ
line_bytes = 13

abbrev pub asking_bytes : ℕ
asking_bytes = 12

-- a line: its kind, then three numbers of four bytes
abbrev pub line_in_bytes : List ℕ → SourceLine
line_in_bytes bs = source_line (byte bs 0) (low_first 4 0 (drop 1 bs)) (low_first 4 0 (drop 5 bs)) (low_first 4 0 (drop 9 bs))

-- an asking: the item in four bytes, the answer in eight
abbrev pub asking_in_bytes : List ℕ → Asking
asking_in_bytes bs = record { item = low_first 4 0 bs; answer = low_first 8 0 (drop 4 bs) }

abbrev pub lines_in_bytes : ℕ → List ℕ → List SourceLine
lines_in_bytes n bs = chunks line_in_bytes line_bytes n bs

abbrev pub askings_in_bytes : ℕ → List ℕ → List Asking
askings_in_bytes n bs = chunks asking_in_bytes asking_bytes n bs

-- what follows an entry's lines: a count of askings, the askings, and the result
abbrev pub after_lines : List ℕ → List ℕ
after_lines bs = drop (2 + line_bytes * byte bs 1) bs

-- how long a command is, from its kind, which is 0 to 4, and the counts in it
abbrev pub size_in : List ℕ → Option ℕ
size_in bs =
    cond (byte bs 0 == 0) (Some 11)
    (cond (byte bs 0 == 1) (Some (4 + line_bytes * byte bs 3))
    (cond (byte bs 0 == 2) (Some 3)
    (cond (byte bs 0 == 3) (Some 2)
    (cond (byte bs 0 == 4) (Some (11 + line_bytes * byte bs 1 + asking_bytes * byte (after_lines bs) 0)) None))))

abbrev pub fitting : ℕ → Option ℕ → Option ℕ
fitting most None = None
fitting most (Some n) = cond (nat_le n most) (Some n) None

-- how long a command is, if its kind is known and all of it is there
abbrev pub whole_size : List ℕ → Option ℕ
whole_size bs = fitting (length bs) (size_in bs)

-- an entry from elsewhere: a count of lines, the lines, a count of askings, the askings, the result
abbrev pub import_in : List ℕ → Deed
import_in bs =
    bring (lines_in_bytes (byte bs 1) (drop 2 bs)) (askings_in_bytes (byte (after_lines bs) 0) (drop 1 (after_lines bs)))
    (low_first 8 0 (drop (1 + asking_bytes * byte (after_lines bs) 0) (after_lines bs)))

-- the command that these bytes begin with, where all of it is there
abbrev pub deed_in : List ℕ → Deed
deed_in bs =
    cond (byte bs 0 == 0) (write (byte bs 1) (byte bs 2) (low_first 8 0 (drop 3 bs)))
    (cond (byte bs 0 == 1) (give (byte bs 1) (byte bs 2) (lines_in_bytes (byte bs 3) (drop 4 bs)))
    (cond (byte bs 0 == 2) (build (byte bs 1) (byte bs 2))
    (cond (byte bs 0 == 3) (forget (byte bs 1))
    (import_in bs))))

-- a command that carries lines: one that gives a script, or an entry from elsewhere
abbrev pub carries_lines : List ℕ → Bool
carries_lines bs = byte bs 0 == 1 || nat_le 4 (byte bs 0)

abbrev pub head_bytes : ℕ
head_bytes = 3

abbrev pub within : ℕ → ℕ → ℕ → Bool
within least most n = nat_le least n && nat_le n most

-- the head: desks, items of each desk, and room, one byte each, which the program serves up to these bounds
abbrev pub head_in : List ℕ → Option HouseSize
head_in bs =
    cond (nat_le head_bytes (length bs) && (within 1 8 (byte bs 0) && (within 1 16 (byte bs 1) && within 0 16 (byte bs 2))))
    (Some (record { desks = byte bs 0; items = byte bs 1; room = byte bs 2 })) None
