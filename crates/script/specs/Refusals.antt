-- The number and the place that each refusal is told with. Assumes nothing.
use Rattle.std.specs.Prelude.{ℕ, List, ◌++◌, codes, decimal}
use Rattle.script.specs.Layout.{max_lines, max_askings}
use Rattle.script.specs.declared.refusal.Refusal.{Refusal}
use Rattle.script.specs.declared.refusal.Refusal.TheVariants.{Unreadable, NoSuchDesk, NoSuchItem, TooManyLines, UnknownKind, NoSuchRegister, SkipsTooMany, NoSuchEntry, TooManyAskings, NotHonest, StoreFull, StoreTooShort, StoreOverfull, ListTooShort}

abbrev pub number_of : Refusal → ℕ
number_of (Unreadable at) = 1
number_of (NoSuchDesk desk) = 2
number_of (NoSuchItem item) = 3
number_of TooManyLines = 4
number_of (UnknownKind line) = 5
number_of (NoSuchRegister line) = 6
number_of (SkipsTooMany line) = 7
number_of (NoSuchEntry entry) = 8
number_of TooManyAskings = 9
number_of (NotHonest asking) = 10
number_of (StoreFull room) = 11
number_of (StoreTooShort n) = 12
number_of (StoreOverfull count) = 13
number_of (ListTooShort n) = 14

abbrev pub place_of : Refusal → ℕ
place_of (Unreadable at) = at
place_of (NoSuchDesk desk) = desk
place_of (NoSuchItem item) = item
place_of TooManyLines = max_lines
place_of (UnknownKind line) = line
place_of (NoSuchRegister line) = line
place_of (SkipsTooMany line) = line
place_of (NoSuchEntry entry) = entry
place_of TooManyAskings = max_askings
place_of (NotHonest asking) = asking
place_of (StoreFull room) = room
place_of (StoreTooShort n) = n
place_of (StoreOverfull count) = count
place_of (ListTooShort n) = n

-- how a refusal is told of: its number and its place
abbrev pub refused_text : Refusal → List ℕ
refused_text f = codes "refused " ++ (decimal (number_of f) ++ (codes " at " ++ decimal (place_of f)))
