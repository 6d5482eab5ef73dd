-- What is printed of a day. Assumes nothing: these are definitions.
use Rattle.std.specs.Prelude.{◌≡◌, ℕ, suc, Bool, true, false, List, [], ◌∷◌, ◌++◌, map, length, Some, None, vec_items, codes, decimal, Option}
use Rattle.std.specs.List.{flat_map}
use Rattle.script.specs.Refusals.{refused_text}
use Rattle.script.specs.declared.refusal.Refusal.{Refusal}
use Rattle.theory.specs.Clean.{Out, ring, value}
use Rattle.house.specs.Deeds.{Deed, bring, build, deed_of, forget, give, write}
use Rattle.house.specs.declared.size.HouseSize.{HouseSize}
use Rattle.days.specs.Goes.{Told, built, fine, refused}
use Rattle.days.specs.House.{new_house}
use Rattle.days.specs.Outcomes.{WholeDay}
use Rattle.dayfile.specs.Day.{Reads}
use Rattle.dayfile.specs.declared.day.Day.{Day}
use Rattle.dayfile.specs.Format.{head_bytes, head_in}

abbrev pub line_end : List ℕ
line_end = 10 ∷ []

-- the command's number in the file, and why it is refused
abbrev pub refusal_text : ℕ → Refusal → List ℕ
refusal_text n f = codes "deed " ++ (decimal n ++ (codes " " ++ (refused_text f ++ line_end)))

abbrev pub item_text : ℕ → List ℕ
item_text j = codes " " ++ decimal j

-- the desk, the item and the answer
abbrev pub opening_text : ℕ → ℕ → Out → List ℕ
opening_text x k (value v) = codes "build " ++ (decimal x ++ (codes " " ++ (decimal k ++ (codes " value " ++ (decimal v ++ codes " ran")))))
opening_text x k ring = codes "build " ++ (decimal x ++ (codes " " ++ (decimal k ++ codes " ring ran")))

-- and the list
abbrev pub build_text : ℕ → ℕ → Out → List ℕ → List ℕ
build_text x k o ran = opening_text x k o ++ (flat_map item_text ran ++ line_end)

-- a build's line; only builds tell an answer
abbrev pub built_text : Deed → Out → List ℕ → List ℕ
built_text (write x k v) o ran = []
built_text (give x k ls) o ran = []
built_text (build x k) o ran = build_text x k o ran
built_text (forget i) o ran = []
built_text (bring ls qs v) o ran = []

-- what is printed of the command with number n; one that is done prints nothing
abbrev pub told_text : ℕ → Deed → Told → List ℕ
told_text n d fine = []
told_text n d (refused f) = refusal_text n f
told_text n d (built o ran) = built_text d o ran

-- whether anything is printed of a command
abbrev pub prints : Deed → Told → Bool
prints d fine = false
prints d (refused f) = true
prints (write x k v) (built o ran) = false
prints (give x k ls) (built o ran) = false
prints (build x k) (built o ran) = true
prints (forget i) (built o ran) = false
prints (bring ls qs v) (built o ran) = false

unfoldable pub tolds_text : ℕ → List Deed → List Told → List ℕ
tolds_text n [] ts = []
tolds_text n (d ∷ ds) [] = []
tolds_text n (d ∷ ds) (t ∷ ts) = told_text n d t ++ tolds_text (suc n) ds ts

-- a command that could not be read ends the day
abbrev pub stop_text : ℕ → Option Refusal → List ℕ
stop_text n None = []
stop_text n (Some f) = refusal_text n f

-- the bytes of a day were read as its format says, its commands went as a whole day of a new house, and this is what is printed of them
pub record Printed (z : HouseSize) (bs text : List ℕ) : Type 0 where
  pub deeds : List Deed
  pub stopped : Option Refusal
  pub reads : Reads bs head_bytes deeds stopped
  pub tolds : List Told
  pub whole : WholeDay (new_house z) deeds tolds
  pub shown : text ≡ tolds_text 0 deeds tolds ++ stop_text (length deeds) stopped

abbrev pub ByHead : Option HouseSize → (bs text : List ℕ) → Type 0
ByHead None bs text = text ≡ codes "house refused" ++ line_end
ByHead (Some z) bs text = Printed z bs text

-- from the bytes of a day to what is printed
abbrev pub DayText : (bs text : List ℕ) → Type 0
DayText bs text = ByHead (head_in bs) bs text

-- what is printed of a day that was read
pub record PerformedText (d : Day) (text : List ℕ) : Type 0 where
  pub tolds : List Told
  pub whole : WholeDay (new_house d.size) (map deed_of (vec_items d.commands)) tolds
  pub shown : text ≡ tolds_text 0 (map deed_of (vec_items d.commands)) tolds ++ stop_text (length (map deed_of (vec_items d.commands))) d.stopped
