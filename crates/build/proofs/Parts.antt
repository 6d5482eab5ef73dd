-- The parts of a row that an iterator still has to give, as pieces of a list. Assumes nothing.
use Rattle.std.proofs.Common.{◌≡◌, ℕ, ◌+◌, ◌<◌, ◌≤◌, List, [], ◌∷◌, map, length, get_or, drop, sym, ap, ◌∙◌, arith}
use Rattle.std.proofs.lemmas.List.{drop_more, length-drop}

module _ {X : Type 0} (read : List ℕ → X) (es : List X) (i : ℕ) {parts : List (List ℕ)} (left : map read parts ≡ drop i es) where
  pub no_more_pieces : parts ≡ [] → length es ≤ i
  no_more_pieces none = omega (arith, ap length (ap (map read) (sym none) ∙ left), length-drop i es)

  module _ {part : List ℕ} {more : List (List ℕ)} (next : parts ≡ part ∷ more) where
    here : read part ∷ map read more ≡ drop i es
    here = ap (map read) (sym next) ∙ left

    -- the next part is the next piece
    pub piece_there : (d : X) → (i < length es) × (read part ≡ get_or es i d)
    piece_there d =
        let inside : i < length es = omega (arith, ap length here, length-drop i es) in
        (inside, let h = drop_more es i d inside in let e = here in cc)

    -- and those behind it are left
    pub more_pieces : map read more ≡ drop (i + 1) es
    more_pieces =
        let inside : i < length es = omega (arith, ap length here, length-drop i es) in
        let h = drop_more es i (read part) inside in
        let e = here in cc
