-- What the runs of a desk's items leave fits the row of an entry. Assumes nothing.
use Rattle.std.proofs.Common.{ℕ, ◌+◌, ◌*◌, ◌≤◌, Bool, true, false, cond, eqb, List, [], ◌∷◌, length, get_or, drop, sym, subst, ⊎_elim, arith}
use Rattle.std.specs.List.{AllByRecursion}
use Rattle.std.proofs.lemmas.List.{get_or_past}
use Rattle.std.proofs.lemmas.Bool.{cases_lt}
use Rattle.rows.proofs.Counted.{counted_at}
use Rattle.script.specs.Layout.{max_lines}
use Rattle.script.specs.Rows.{script_in}
use Rattle.script.specs.Rule.{Script, Value}
use Rattle.script.proofs.Lines.{script_short}
use Rattle.entry.specs.Rows.{Fitting}
use Rattle.entry.proofs.Askings.{askings_few}
use Rattle.theory.specs.Items.{Item, item, made, written}
use Rattle.items.specs.Rows.{first_item, item_size, items_in, max_items}
use Rattle.build.specs.Leaves.{left_all, left_from, script_of}
use Rattle.build.specs.Scratch.{state_of}
use Rattle.build.specs.declared.scratch.Scratch.{Scratch}
use Rattle.build.specs.declared.scratch.State.{State}
use Rattle.build.specs.declared.scratch.State.TheVariants.{Found, Open, Ran, Unseen}

short_item : (b : Bool) (v : Value) (row : List ℕ) → length (script_of (cond b (written v) (made (script_in row)))) ≤ max_lines
short_item true v row = omega arith
short_item false v row = script_short row

short_scripts : (xs : List ℕ) (j : ℕ) → length (script_of (item (items_in xs) j)) ≤ max_lines
short_scripts xs j =
    let short : Item → Type 0 = λ i. length (script_of i) ≤ max_lines in
    ⊎_elim
    (λ inside.
    let row = drop (1 + item_size * j) xs in
    subst short (sym (counted_at first_item item_size max_items xs j (written 0) inside)) (short_item (eqb (get_or row 0 0) 0) (get_or row 1 0) (drop 1 row)))
    (λ past. subst short (sym (get_or_past (items_in xs) j (written 0) past)) (omega arith))
    (cases_lt j (length (items_in xs)))

from_fits : (s : Script) (t : State) → length s ≤ max_lines → Fitting (left_from s t)
from_fits s Unseen h = (omega arith, omega arith)
from_fits s Open h = (omega arith, omega arith)
from_fits s (Found v) h = (omega arith, omega arith)
from_fits s (Ran v row) h = (h, askings_few row)

pub left_fits : (xs : List ℕ) (σ : Scratch) (js : List ℕ) → AllByRecursion Fitting (left_all (items_in xs) σ js)
left_fits xs σ [] = tt
left_fits xs σ (j ∷ js) = (from_fits _ (state_of σ j) (short_scripts xs j), left_fits xs σ js)
