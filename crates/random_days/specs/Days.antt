-- How large a day is, and where in it a fault lies. Assumes nothing: these are definitions.
use Rattle.std.specs.Prelude.{◌≡◌, ◌≢◌, ℕ, zero, suc, ◌+◌, ◌<◌, ◌≤◌, ◌⊎◌, List, length, vec_items}
use Rattle.entry.specs.Layout.{entry_size}
use Rattle.house.specs.New.{NewHouse}
use Rattle.house.specs.declared.owned.House.{House}
use Rattle.house.specs.declared.size.HouseSize.{HouseSize}
use Rattle.house.specs.declared.size.Place.{Place}
use Rattle.random_days.specs.Counted.{More}
use Rattle.random_days.specs.Drafted.{drafted}
use Rattle.random_days.specs.Drawn.{DrawnFirst, ExpectedOf, FirstBy, KindBy, PlacedBy, RowBy, RowOf, first_seed}
use Rattle.random_days.specs.Entries.{first_entries}
use Rattle.random_days.specs.Faultless.{AllFaultless}
use Rattle.random_days.specs.Performed.{PerformedRight, PerformedWrong}
use Rattle.random_days.specs.Seeds.{number_at}
use Rattle.random_days.specs.Spoiled.{asked_in}
use Rattle.random_days.specs.declared.counter.Counter.{Counter}
use Rattle.random_days.specs.declared.days.Wrong.{Wrong}
use Rattle.random_days.specs.declared.drafts.Draft.{Draft}
use Rattle.random_days.specs.declared.fault.Fault.{Fault}
use Rattle.random_days.specs.declared.fault.Fault.TheVariants.{NotHonest}
use Rattle.store.specs.Rows.{count_of}

-- the house of a day
pub record DaySize (z : HouseSize) : Type 0 where
  pub some_desk : 1 ≤ z.desks
  pub desks : z.desks ≤ 8
  pub some_item : 1 ≤ z.items
  pub items : z.items ≤ 40
  pub room : z.room ≤ 100

-- how many commands a day has: those that fill the items of its desks, and 20 to 80 more
abbrev pub IsDayCount : ℕ → Type 0
IsDayCount n = (21 ≤ n) × (n ≤ 400)

-- the first command of an item, drawn by a seed of the pool
abbrev pub ForeseenFirst : House → (pool scripts : ℕ) → Draft → (old new : List ℕ) → Type 0
ForeseenFirst house pool scripts draft old new = (place : Place) × DrawnFirst house.size.items place draft old new × FirstBy scripts (first_seed pool place) place draft.kind old new

-- a later command, drawn by a seed, of which the rules of the house as it is say what is expected
pub record ForeseenLater (house : House) (scripts : ℕ) (draft : Draft) (old new : List ℕ) : Type 0 where
  pub seed : ℕ
  pub expected : ExpectedOf house.size (vec_items house.rows) (number_at seed 2) draft.kind draft.expected
  pub kind : KindBy (number_at seed 1) draft.kind
  pub kept : RowOf (number_at seed 2) draft.kind old new
  pub place : PlacedBy house.size (number_at (number_at seed 0) 2) draft.kind
  pub row : RowBy house.size (vec_items house.rows) scripts (number_at seed 2) draft.kind draft.expected old new

abbrev pub Foreseen : House → (pool scripts : ℕ) → Draft → (old new : List ℕ) → Type 0
Foreseen house pool scripts draft old new = ForeseenFirst house pool scripts draft old new ⊎ ForeseenLater house scripts draft old new

-- a row with room for an entry that names no asking yet
abbrev pub Blank : List ℕ → Type 0
Blank row = (entry_size ≤ length row) × (asked_in row ≡ 0)

-- a command drawn for the one house, made of the draft and its row and performed right, after which the house is the other
pub record RightStep (before after : House) : Type 0 where
  pub size : after.size ≡ before.size
  pub draft : Draft
  pub pool : ℕ
  pub scripts : ℕ
  pub row : List ℕ
  pub blank : List ℕ
  pub is_blank : Blank blank
  pub foreseen : Foreseen before pool scripts draft blank row
  pub right : PerformedRight before.size (drafted draft.kind row) draft (vec_items before.desks) (vec_items before.rows) (vec_items before.ran) (vec_items after.desks) (vec_items after.rows) (vec_items after.ran)

-- a command drawn for the house and made so, and what was wrong after it
pub record WrongStep (before : House) (fault : Fault) : Type 0 where
  pub draft : Draft
  pub pool : ℕ
  pub scripts : ℕ
  pub row : List ℕ
  pub blank : List ℕ
  pub is_blank : Blank blank
  pub foreseen : Foreseen before pool scripts draft blank row
  pub wrong : PerformedWrong before.size (drafted draft.kind row) draft fault (vec_items before.desks) (vec_items before.rows) (vec_items before.ran)

-- a house of a day after so many commands, each performed right
abbrev pub AfterCommands : ℕ → House → Type 0
AfterCommands zero house = NewHouse house.size house × DaySize house.size
AfterCommands (suc n) house = (before : House) × AfterCommands n before × RightStep before house

-- every entry of a store replays
abbrev pub HonestStore : House → Type 0
HonestStore house = AllFaultless (first_entries (count_of (vec_items house.rows)) (vec_items house.rows))

-- a fault of a command bears its number, from 0 on, and one that is found at the end the count of commands; the commands before it were right, and what the fault says is so
pub record FaultAt (commands commands₁ : Counter) (wrong : Wrong) : Type 0 where
  pub house : House
  pub reached : AfterCommands wrong.deed house
  pub at_end : wrong.fault ≡ NotHonest → IsDayCount wrong.deed × More wrong.deed commands commands₁ × (¬ HonestStore house)
  pub at_command : wrong.fault ≢ NotHonest → (wrong.deed < 400) × More (wrong.deed + 1) commands commands₁
  pub said : wrong.fault ≢ NotHonest → WrongStep house wrong.fault

-- on a day with no fault all commands were right, and the entries at its end replay
pub record FaultlessDay (commands commands₁ : Counter) : Type 0 where
  pub count : ℕ
  pub house : House
  pub in_day : IsDayCount count
  pub reached : AfterCommands count house
  pub honest : HonestStore house
  pub counted : More count commands commands₁
