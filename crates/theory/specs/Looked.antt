-- Which items a clean build looks at, computed by marking them. Assumes nothing: these are definitions.
use Rattle.std.specs.Prelude.{ℕ, zero, suc, Bool, true, false, cond, List, [], ◌∷◌, ◌++◌, length, replicate, slice_index_or, slice_set}
use Rattle.script.specs.Rule.{task_of}
use Rattle.theory.specs.Clean.{clean}
use Rattle.theory.specs.Items.{Item, item, made, written}
use Rattle.theory.specs.Traces.{asked_for}

-- an item that is not there needs no mark: it asks for nothing
abbrev pub is_marked : List Bool → ℕ → Bool
is_marked ms j = slice_index_or ms j true

-- the items that an item's script asks for
unfoldable pub asked_by : List Item → Item → List ℕ
asked_by d (written v) = []
asked_by d (made s) = asked_for (λ j. clean d j) (task_of s)

-- what waits, from the first on that is not marked
unfoldable pub unmarked : List Bool → List ℕ → List ℕ
unmarked ms [] = []
unmarked ms (x ∷ xs) = cond (is_marked ms x) (unmarked ms xs) (x ∷ xs)

abbrev pub by_first : {A : Type 0} → List ℕ → A → (ℕ → List ℕ → A) → A
by_first [] none some = none
by_first (x ∷ xs) none some = some x xs

-- the marks after what waits, and what that asks for, and so on, is marked; n is the count of items that have no mark
unfoldable pub mark : ℕ → List Item → List Bool → List ℕ → List Bool
mark zero d ms waiting = ms
mark (suc n) d ms waiting = by_first (unmarked ms waiting) ms (λ j js. mark n d (slice_set ms j true) (asked_by d (item d j) ++ js))

unfoldable pub looked : List Item → ℕ → List Bool
looked d k = mark (length d) d (replicate (length d) false) (k ∷ [])
