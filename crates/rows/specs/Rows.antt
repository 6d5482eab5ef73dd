-- How lists stand in a row of numbers. Assumes nothing: these are definitions.
use Rattle.std.specs.Prelude.{◌≡◌, ℕ, zero, suc, ◌+◌, ◌-◌, ◌*◌, ◌<◌, min, List, [], ◌∷◌, ◌++◌, length, drop, replicate, slice_index, slice_index_or, slice_set}
use Rattle.std.specs.List.{flat_map}

-- the row with these numbers from a place on; what would lie past its end is left out
unfoldable pub written_at : List ℕ → ℕ → List ℕ → List ℕ
written_at row at [] = row
written_at row at (n ∷ ns) = written_at (slice_set row at n) (at + 1) ns

-- pieces of one length that stand one behind the other, each read from its first number on
unfoldable pub chunks : {A X : Type 0} → (List A → X) → ℕ → ℕ → List A → List X
chunks read size zero xs = []
chunks read size (suc n) xs = read xs ∷ chunks read size n (drop size xs)

-- a counted list in a row: a count, of which one above the most is read as the most, and then so many pieces
abbrev pub counted : {X : Type 0} → (List ℕ → X) → ℕ → ℕ → List ℕ → List X
counted read size most xs = chunks read size (min (slice_index xs 0) most) (drop 1 xs)

-- as many numbers, of which those that are not used are 0
abbrev pub padded : ℕ → List ℕ → List ℕ
padded n xs = xs ++ replicate (n - length xs) 0

-- how a counted list is written down
abbrev pub counted_out : {X : Type 0} → (X → List ℕ) → ℕ → ℕ → List X → List ℕ
counted_out out size most ys = padded (1 + size * most) (length ys ∷ flat_map out ys)

-- there are n pieces, and each call at the number of one gives that piece, of this size
abbrev pub Gives : {P : Type 0} → (P → List ℕ) → (ℕ → P → Type 0) → ℕ → ℕ → List P → Type 0
Gives {P} out Call size n pieces =
    (length pieces ≡ n) × ((i : ℕ) (piece : P) → i < n → Call i piece → (slice_index_or pieces i piece ≡ piece) × (length (out piece) ≡ size))
