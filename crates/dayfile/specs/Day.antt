-- Which commands stand in a day's file, and where reading stops. Assumes nothing: these are definitions.
use Rattle.std.specs.Prelude.{◌≡◌, ℕ, ◌+◌, ◌<◌, ◌≤◌, List, [], ◌∷◌, map, length, drop, Some, None, Ok, Err, vec_items, Option, Result}
use Rattle.script.specs.declared.refusal.Refusal.{Refusal}
use Rattle.script.specs.declared.refusal.Refusal.TheVariants.{Unreadable}
use Rattle.house.specs.Deeds.{Deed, deed_of}
use Rattle.house.specs.declared.command.Command.{Command}
use Rattle.dayfile.specs.Format.{deed_in, head_bytes, head_in, whole_size}
use Rattle.dayfile.specs.declared.day.Day.{Day}
use Rattle.dayfile.specs.declared.day.DayError.{DayError}
use Rattle.dayfile.specs.declared.day.DayError.TheVariants.{HouseRefused, OutOfMemory}

-- from a place of the file on: one whole command behind the other up to the end, or to the first that is not whole or whose kind is unknown
pub data Reads (bs : List ℕ) : ℕ → List Deed → Option Refusal → Type 0 where
  ends : {at : ℕ} → length bs ≤ at → Reads bs at [] None
  stops : {at : ℕ} → at < length bs → whole_size (drop at bs) ≡ None → Reads bs at [] (Some (Unreadable at))
  goes_on : {at n : ℕ} {ds : List Deed} {e : Option Refusal} → whole_size (drop at bs) ≡ Some n → Reads bs (at + n) ds e → Reads bs at (deed_in (drop at bs) ∷ ds) e

-- the commands of a file begin behind its head
abbrev pub Reading : List ℕ → List Command → Option Refusal → Type 0
Reading bs cs e = Reads bs head_bytes (map deed_of cs) e

abbrev pub DayRead : List ℕ → Result Day DayError → Type 0
DayRead bs (Ok d) = (head_in bs ≡ Some d.size) × Reading bs (vec_items d.commands) d.stopped
DayRead bs (Err HouseRefused) = head_in bs ≡ None
DayRead bs (Err (OutOfMemory _)) = head_in bs ≡ None → ⊥
