-- How the list of the items that a build ran stands in a lent row. Assumes nothing: these are definitions.
use Rattle.std.specs.Prelude.{ℕ, ◌+◌, List, ◌∷◌, ◌++◌, length, drop}

-- the row with a list, behind its length, in its first places
abbrev pub listed : List ℕ → List ℕ → List ℕ
listed ran row = length ran ∷ (ran ++ drop (1 + length ran) row)
