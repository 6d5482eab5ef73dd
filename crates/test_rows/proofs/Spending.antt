-- One thing more after the others, or one that goes otherwise. Assumes nothing.
use Rattle.std.proofs.Common.{◌≡◌, ℕ, ◌+◌, ◌<◌, List, [], ◌∷◌, ◌++◌, length, get_or, take, sym, ap, ◌∙◌, subst}
use Rattle.std.proofs.lemmas.List.{get_or_default, take_more}
use Rattle.test_rows.specs.Spent.{Spent, StopsAt, none, more}

module _ {X S : Type 0} (Did : X → S → S → Type 0) where
  pub spent_last : {xs : List X} (x : X) {s t u : S} → Spent Did xs s t → Did x t u → Spent Did (xs ++ x ∷ []) s u
  spent_last x none did = more did none
  spent_last x (more first rest) did = more first (spent_last x rest did)

  -- and so in a list of which the first i are done
  pub spent_more :
      (xs : List X) (i : ℕ) (y : X) {x : X} {s t u : S} → i < length xs → get_or xs i y ≡ x → Spent Did (take i xs) s t → Did x t u
      → Spent Did (take (i + 1) xs) s u
  spent_more xs i y {x = x} {s = s} {u = u} inside is spent did =
      subst (λ xs. Spent Did xs s u) (ap (λ x. take i xs ++ x ∷ []) (sym is) ∙ sym (take_more xs i y inside)) (spent_last x spent did)

  pub stops_at :
      (Otherwise : X → S → S → Type 0) (xs : List X) (i : ℕ) (y : X) {s t u : S} → i < length xs → Spent Did (take i xs) s t → Otherwise (get_or xs i y) t u
      → StopsAt Did Otherwise xs i s u
  stops_at Otherwise xs i y {t = t} inside before other =
      record { x = get_or xs i y; t = t; before = before; inside = inside; here = get_or_default xs i (get_or xs i y) y inside; other = other }
