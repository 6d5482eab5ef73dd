-- What a build leaves, from what its scratch says. Assumes nothing: these are definitions.
use Rattle.std.specs.Prelude.{ℕ, Bool, true, false, List, [], ◌∷◌, map, Some, None, Option}
use Rattle.script.specs.Rule.{Script}
use Rattle.script.specs.declared.refusal.Refusal.{Refusal}
use Rattle.entry.specs.Entry.{Entry, no_entry}
use Rattle.entry.specs.Rows.{askings_in}
use Rattle.store.specs.Faults.{add_fault}
use Rattle.store.specs.Rows.{added}
use Rattle.items.specs.Listing.{listed}
use Rattle.theory.specs.Items.{Item, item, made, written}
use Rattle.theory.specs.Reference.{passing}
use Rattle.build.specs.Scratch.{state_of}
use Rattle.build.specs.declared.scratch.Scratch.{Scratch}
use Rattle.build.specs.declared.scratch.State.{State}
use Rattle.build.specs.declared.scratch.State.TheVariants.{Found, Open, Ran, Unseen}

abbrev pub is_run : State → Bool
is_run Unseen = false
is_run Open = false
is_run (Found v) = false
is_run (Ran v row) = true

-- the items below n that were run, by rising number
abbrev pub ran_list : Scratch → ℕ → List ℕ
ran_list σ n = passing (λ j. is_run (state_of σ j)) 0 n

-- an item that is not made has no lines
abbrev pub script_of : Item → Script
script_of (written v) = []
script_of (made s) = s

abbrev pub left_from : Script → State → Entry
left_from s Unseen = no_entry
left_from s Open = no_entry
left_from s (Found v) = no_entry
left_from s (Ran v row) = record { script = s; asked = askings_in row; result = v }

-- the entries that the runs of these items left
abbrev pub left_of : List Item → Scratch → ℕ → Entry
left_of d σ j = left_from (script_of (item d j)) (state_of σ j)

abbrev pub left_all : List Item → Scratch → List ℕ → List Entry
left_all d σ js = map (left_of d σ) js

-- the list with its length in front; the rest of the row stays
abbrev pub told : List ℕ → List ℕ → List ℕ
told ran list = listed list ran

-- the entries one after the other, each behind those that are kept
unfoldable pub added_all : List ℕ → List Entry → List ℕ
added_all rows [] = rows
added_all rows (e ∷ es) = added_all (added rows e) es

-- the same, but what finds no room is left out
abbrev pub unless_fault : Option Refusal → List ℕ → List ℕ → List ℕ
unless_fault None rows more = more
unless_fault (Some f) rows more = rows

abbrev pub kept_one : List ℕ → Entry → List ℕ
kept_one rows e = unless_fault (add_fault rows) rows (added rows e)

unfoldable pub kept_all : List ℕ → List Entry → List ℕ
kept_all rows [] = rows
kept_all rows (e ∷ es) = kept_all (kept_one rows e) es
