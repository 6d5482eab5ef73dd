-- What a command told, what it left, and what was right or wrong in it. Assumes nothing: these are definitions.
use Rattle.std.specs.Prelude.{◌≡◌, ◌≢◌, false, ℕ, ◌+◌, ◌-◌, ◌*◌, ◌^◌, ◌≤◌, List, length, min}
use Rattle.clean.specs.Builds.{says}
use Rattle.house.specs.Deeds.{Deed}
use Rattle.house.specs.Desks.{desk_in, desk_size}
use Rattle.house.specs.Performed.{PerformedSo}
use Rattle.house.specs.declared.perform.Told.{Told}
use Rattle.house.specs.declared.perform.Told.TheVariants.{Done, Refused, Ring, Value}
use Rattle.house.specs.declared.size.HouseSize.{HouseSize}
use Rattle.random_days.specs.Entries.{first_entries}
use Rattle.random_days.specs.Judged.{Meets, SameAnswer, told_of}
use Rattle.random_days.specs.Lists.{due_of, list_of}
use Rattle.random_days.specs.declared.beside.Beside.{Beside}
use Rattle.random_days.specs.declared.drafts.Draft.{Draft}
use Rattle.random_days.specs.declared.drafts.Kind.{Kind}
use Rattle.random_days.specs.declared.drafts.Kind.TheVariants.{Write, Script, Build, Remove, Import}
use Rattle.random_days.specs.declared.fault.Fault.{Fault}
use Rattle.random_days.specs.declared.fault.Fault.TheVariants.{ToldOtherwise, MoreThanRoom, RefusedWithChange, DoneOtherwise, AnsweredWithoutBuild, AnotherAnswer, RanMore, KeptOtherwise, RanAgain, NotHonest}
use Rattle.store.specs.Rows.{count_of, room_of}
use Rattle.theory.specs.Clean.{clean}

-- the entries that were there stand as they were
abbrev pub SameEntries : (rows rows₁ : List ℕ) → Type 0
SameEntries rows rows₁ = first_entries (count_of rows) rows₁ ≡ first_entries (count_of rows) rows

-- one more entry than there are; a count that is full stays full
abbrev pub one_more : ℕ → ℕ
one_more n = min (n + 1) (2 ^ 64 - 1)

-- what a command that is done leaves alone, and by how much the store grows or shrinks; a build is not done but answered
abbrev pub DoneSo : Kind → (desks rows ran desks₁ rows₁ ran₁ : List ℕ) → Type 0
DoneSo (Write place v) desks rows ran desks₁ rows₁ ran₁ = (ran₁ ≡ ran) × (rows₁ ≡ rows)
DoneSo (Script place) desks rows ran desks₁ rows₁ ran₁ = (ran₁ ≡ ran) × (rows₁ ≡ rows)
DoneSo (Build place) desks rows ran desks₁ rows₁ ran₁ = ⊥
DoneSo (Remove i) desks rows ran desks₁ rows₁ ran₁ = (ran₁ ≡ ran) × (desks₁ ≡ desks) × (one_more (count_of rows₁) ≡ count_of rows)
DoneSo Import desks rows ran desks₁ rows₁ ran₁ = (ran₁ ≡ ran) × (desks₁ ≡ desks) × SameEntries rows rows₁ × (count_of rows₁ ≡ one_more (count_of rows))

-- a build keeps what it ran as far as there is room
abbrev pub KeptSo : HouseSize → (desks rows desks₁ rows₁ ran₁ : List ℕ) → Type 0
KeptSo z desks rows desks₁ rows₁ ran₁ = (desks₁ ≡ desks) × SameEntries rows rows₁ × (count_of rows₁ ≡ min (due_of rows ran₁) z.room)

-- what is left after each answer
abbrev pub LeftSo : HouseSize → Kind → Told → (desks rows ran desks₁ rows₁ ran₁ : List ℕ) → Type 0
LeftSo z kind (Refused f) desks rows ran desks₁ rows₁ ran₁ = (desks₁ ≡ desks) × (rows₁ ≡ rows) × (ran₁ ≡ ran)
LeftSo z kind Done desks rows ran desks₁ rows₁ ran₁ = DoneSo kind desks rows ran desks₁ rows₁ ran₁
LeftSo z kind (Value v) desks rows ran desks₁ rows₁ ran₁ = KeptSo z desks rows desks₁ rows₁ ran₁
LeftSo z kind Ring desks rows ran desks₁ rows₁ ran₁ = KeptSo z desks rows desks₁ rows₁ ran₁

-- at a desk that is there, an answer is the clean build's
abbrev pub CleanAt : HouseSize → Kind → Told → (desks : List ℕ) → Type 0
CleanAt z (Build place) told desks = desk_size z.items * (place.desk + 1) ≤ length desks → SameAnswer told (told_of (says (clean (desk_in z desks place.desk) place.item)))
CleanAt z kind told desks = ⊥

-- only a build is answered
abbrev pub AnsweredSo : HouseSize → Kind → Told → (desks : List ℕ) → Type 0
AnsweredSo z kind (Refused f) desks = Unit {0}
AnsweredSo z kind Done desks = Unit {0}
AnsweredSo z kind told desks = CleanAt z kind told desks

-- a build made once more: the same answer, the desks and the store stay, and nothing is run
pub record BuiltAgain (z : HouseSize) (deed : Deed) (told : Told) (desks rows ran desks₁ rows₁ ran₁ : List ℕ) : Type 0 where
  pub again : Told
  pub performed : PerformedSo z deed desks rows ran again desks₁ rows₁ ran₁
  pub same : SameAnswer told again
  pub at_desks : desks₁ ≡ desks
  pub at_store : rows₁ ≡ rows
  pub ran_nothing : length (list_of ran₁) ≡ 0

-- nothing more is done
abbrev pub SameRows : (desks₁ rows₁ ran₁ desks₂ rows₂ ran₂ : List ℕ) → Type 0
SameRows desks₁ rows₁ ran₁ desks₂ rows₂ ran₂ = (desks₂ ≡ desks₁) × (rows₂ ≡ rows₁) × (ran₂ ≡ ran₁)

-- a build that kept all that it ran is made once more, and no other
abbrev pub AgainIfKept : HouseSize → Deed → Told → (rows desks₁ rows₁ ran₁ desks₂ rows₂ ran₂ : List ℕ) → Type 0
AgainIfKept z deed told rows desks₁ rows₁ ran₁ desks₂ rows₂ ran₂ = (count_of rows₁ ≡ due_of rows ran₁ → BuiltAgain z deed told desks₁ rows₁ ran₁ desks₂ rows₂ ran₂) × (count_of rows₁ ≢ due_of rows ran₁ → SameRows desks₁ rows₁ ran₁ desks₂ rows₂ ran₂)

-- what comes after each answer
abbrev pub AfterSo : HouseSize → Deed → Told → (rows desks₁ rows₁ ran₁ desks₂ rows₂ ran₂ : List ℕ) → Type 0
AfterSo z deed (Refused f) rows desks₁ rows₁ ran₁ desks₂ rows₂ ran₂ = SameRows desks₁ rows₁ ran₁ desks₂ rows₂ ran₂
AfterSo z deed Done rows desks₁ rows₁ ran₁ desks₂ rows₂ ran₂ = SameRows desks₁ rows₁ ran₁ desks₂ rows₂ ran₂
AfterSo z deed told rows desks₁ rows₁ ran₁ desks₂ rows₂ ran₂ = AgainIfKept z deed told rows desks₁ rows₁ ran₁ desks₂ rows₂ ran₂

-- a command performed once on the house as it was, with its desks, store and list after that, and all that was judged of it
pub record PerformedRight (z : HouseSize) (deed : Deed) (draft : Draft) (desks rows ran desks₂ rows₂ ran₂ : List ℕ) : Type 0 where
  pub told : Told
  pub desks₁ : List ℕ
  pub rows₁ : List ℕ
  pub ran₁ : List ℕ
  pub performed : PerformedSo z deed desks rows ran told desks₁ rows₁ ran₁
  pub meets : Meets draft.expected told
  pub room : room_of rows₁ ≡ z.room
  pub in_room : count_of rows₁ ≤ z.room
  pub left : LeftSo z draft.kind told desks rows ran desks₁ rows₁ ran₁
  pub answered : AnsweredSo z draft.kind told desks₁
  pub after : AfterSo z deed told rows desks₁ rows₁ ran₁ desks₂ rows₂ ran₂

-- what each fault says of a command; of those that the clean build beside it tells, only that the command was answered
abbrev pub WrongSo : Fault → HouseSize → Draft → Told → (desks rows ran desks₁ rows₁ ran₁ : List ℕ) → Type 0
WrongSo ToldOtherwise z draft told desks rows ran desks₁ rows₁ ran₁ = ¬ Meets draft.expected told
WrongSo MoreThanRoom z draft told desks rows ran desks₁ rows₁ ran₁ = ¬ ((room_of rows₁ ≡ z.room) × (count_of rows₁ ≤ z.room))
WrongSo RefusedWithChange z draft told desks rows ran desks₁ rows₁ ran₁ = ¬ LeftSo z draft.kind told desks rows ran desks₁ rows₁ ran₁
WrongSo DoneOtherwise z draft told desks rows ran desks₁ rows₁ ran₁ = ¬ LeftSo z draft.kind told desks rows ran desks₁ rows₁ ran₁
WrongSo AnsweredWithoutBuild z draft told desks rows ran desks₁ rows₁ ran₁ = SameAnswer told told
WrongSo AnotherAnswer z draft told desks rows ran desks₁ rows₁ ran₁ = SameAnswer told told
WrongSo RanMore z draft told desks rows ran desks₁ rows₁ ran₁ = SameAnswer told told
WrongSo KeptOtherwise z draft told desks rows ran desks₁ rows₁ ran₁ = ¬ LeftSo z draft.kind told desks rows ran desks₁ rows₁ ran₁
WrongSo RanAgain z draft told desks rows ran desks₁ rows₁ ran₁ = SameAnswer told told × (count_of rows₁ ≡ due_of rows ran₁)
WrongSo NotHonest z draft told desks rows ran desks₁ rows₁ ran₁ = ⊥

-- the same of a build, with the clean build beside it
abbrev pub WrongBuilt : Beside → Fault → HouseSize → (desks rows desks₁ rows₁ ran₁ : List ℕ) → Type 0
WrongBuilt beside AnotherAnswer z desks rows desks₁ rows₁ ran₁ = beside.agrees ≡ false
WrongBuilt beside RanMore z desks rows desks₁ rows₁ ran₁ = beside.within ≡ false
WrongBuilt beside KeptOtherwise z desks rows desks₁ rows₁ ran₁ = ¬ KeptSo z desks rows desks₁ rows₁ ran₁
WrongBuilt beside fault z desks rows desks₁ rows₁ ran₁ = ⊥

-- a command performed once on the house as it was, and what was wrong after it
pub record PerformedWrong (z : HouseSize) (deed : Deed) (draft : Draft) (fault : Fault) (desks rows ran : List ℕ) : Type 0 where
  pub told : Told
  pub desks₁ : List ℕ
  pub rows₁ : List ℕ
  pub ran₁ : List ℕ
  pub performed : PerformedSo z deed desks rows ran told desks₁ rows₁ ran₁
  pub wrong : WrongSo fault z draft told desks rows ran desks₁ rows₁ ran₁
