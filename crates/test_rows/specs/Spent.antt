-- What comes of one thing after the other. Assumes nothing: these are definitions.
use Rattle.std.specs.Prelude.{◌≡◌, ℕ, ◌<◌, List, [], ◌∷◌, length, take, slice_index_or}

-- `Did x s t` says that x leads from s to t
pub data Spent {X S : Type 0} (Did : X → S → S → Type 0) : List X → S → S → Type 0 where
  none : {s : S} → Spent Did [] s s
  more : {x : X} {xs : List X} {s t u : S} → Did x s t → Spent Did xs t u → Spent Did (x ∷ xs) s u

-- the first i lead from s to some t, and the next one goes otherwise from there, to u
pub record StopsAt {X S : Type 0} (Did Otherwise : X → S → S → Type 0) (xs : List X) (i : ℕ) (s u : S) : Type 0 where
  pub x : X
  pub t : S
  pub before : Spent Did (take i xs) s t
  pub inside : i < length xs
  pub here : slice_index_or xs i x ≡ x
  pub other : Otherwise x t u
