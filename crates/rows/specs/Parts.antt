-- The parts that an iterator over a row still has to give. Assumes nothing: these are definitions.
use Rattle.std.specs.Prelude.{List}
use Rattle.rows.specs.Rows.{chunks}
use Rattle.rows.specs.declared.row_parts.RowParts.{RowParts}

-- each is the rest of the row from its first number on
abbrev pub parts_left : {N : Type 0} → RowParts N → List (List N)
parts_left s = chunks (λ xs. xs) s.size s.left s.rest.now
