-- What the marks of a build say of single items. Assumes nothing: these are definitions.
use Rattle.std.specs.Prelude.{◌≡◌, ℕ, zero, suc, ◌⊎◌, List, [], ◌∷◌, slice_index_or}
use Rattle.script.specs.Rule.{Value}
use Rattle.theory.specs.Items.{Item, item, written}
use Rattle.clean.specs.declared.mark.Mark.{Mark}
use Rattle.clean.specs.declared.mark.Mark.TheVariants.{Unseen, Open, Known}

abbrev pub mark_of : List Mark → ℕ → Mark
mark_of ms k = slice_index_or ms k Unseen

abbrev pub IsOpen : List Mark → ℕ → Type 0
IsOpen ms k = mark_of ms k ≡ Open

abbrev pub IsKnown : List Mark → ℕ → Value → Type 0
IsKnown ms k v = mark_of ms k ≡ Known v

abbrev pub one_if_unseen : Mark → ℕ → ℕ
one_if_unseen Unseen n = suc n
one_if_unseen Open n = n
one_if_unseen (Known v) n = n

-- how many of the first n items are unseen
unfoldable pub unseen : ℕ → List Mark → ℕ
unseen zero ms = 0
unseen (suc n) [] = 0
unseen (suc n) (m ∷ ms) = one_if_unseen m (unseen n ms)

-- nothing is left to be done for item j: it is written, or not there, or its value is known
pub data Settled (d : List Item) (ms : List Mark) (j : ℕ) : Type 0 where
  by_hand : {v : Value} → item d j ≡ written v → Settled d ms j
  by_mark : {v : Value} → IsKnown ms j v → Settled d ms j

abbrev pub Seen : List Item → List Mark → ℕ → Type 0
Seen d ms j = Settled d ms j ⊎ IsOpen ms j
