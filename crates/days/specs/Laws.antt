-- What a house promises, whatever is done at its desks. Each is a statement. Assumes nothing: these are definitions.
use Rattle.std.specs.Prelude.{◌≡◌, ℕ, ◌<◌, ◌≤◌, List, [], ◌∷◌, ◌++◌, length, slice_index_or}
use Rattle.script.specs.declared.refusal.Refusal.{Refusal}
use Rattle.entry.specs.Entry.{AllHonest}
use Rattle.theory.specs.Clean.{Out}
use Rattle.house.specs.Deeds.{Deed, build}
use Rattle.days.specs.Goes.{Day, Goes, Told, built, fine, refused}
use Rattle.days.specs.House.{House, alone, desk}
use Rattle.days.specs.Own.{own}

-- every command and every day has an outcome
abbrev pub GoesTotal : Type 0
GoesTotal = (h : House) (d : Deed) → (t : Told) × (g : House) × Goes h d t g

abbrev pub DayTotal : Type 0
DayTotal = (h : House) (ds : List Deed) → (ts : List Told) × (l : House) × Day h ds ts l

-- and just one
abbrev pub GoesOne : Type 0
GoesOne = (h g g' : House) (d : Deed) (t t' : Told) → Goes h d t g → Goes h d t' g' → (t ≡ t') × (g ≡ g')

abbrev pub DayOne : Type 0
DayOne = (h l l' : House) (ds : List Deed) (ts ts' : List Told) → Day h ds ts l → Day h ds ts' l' → (ts ≡ ts') × (l ≡ l')

abbrev pub RefusalChangesNothing : Type 0
RefusalChangesNothing = (h g : House) (d : Deed) (f : Refusal) → Goes h d (refused f) g → g ≡ h

-- an honest store stays honest, whatever is done
abbrev pub StaysHonest : Type 0
StaysHonest = (h g : House) (d : Deed) (t : Told) → AllHonest h.store → Goes h d t g → AllHonest g.store

-- a store that holds no more than it has room for goes on so, and its room stays
abbrev pub StaysWithin : Type 0
StaysWithin = (h g : House) (d : Deed) (t : Told) → length h.store ≤ h.room → Goes h d t g → (length g.store ≤ g.room) × (g.room ≡ h.room)

-- what is told apart from the list
abbrev pub answer_only : Told → Told
answer_only fine = fine
answer_only (refused f) = refused f
answer_only (built o ran) = built o []

-- a build of item k at desk x, after a beginning of the day
pub record RightBuild (start : House) (before : List Deed) (x k : ℕ) (t : Told) : Type 0 where
  pub tolds : List Told
  -- the house when the build begins, and when it has ended
  pub moment : House
  pub after : House
  pub came : Day start before tolds moment
  pub honest : AllHonest moment.store
  pub within : length moment.store ≤ moment.room
  -- the desk holds what its own edits left, and nothing else
  pub items : desk moment x ≡ own x before (desk start x)
  -- so the list and what is kept are those of the build over these items and the store of that moment
  pub goes : Goes moment (build x k) t after
  -- and the answer is that of a house of this one desk with an empty store
  pub as_alone : x < length start.desks → (t' : Told) (g : House) → Goes (alone start (own x before (desk start x))) (build 0 k) t' g → answer_only t ≡ answer_only t'

-- every build of a day is so
abbrev pub NeverStale : House → List Deed → List Told → Type 0
NeverStale start ds ts = (before after : List Deed) (x k : ℕ) → ds ≡ before ++ build x k ∷ after → RightBuild start before x k (slice_index_or ts (length before) fine)

-- at every moment of a day all entries are honest, and there are no more than the store has room for
pub record KeptWell (start : House) (before : List Deed) : Type 0 where
  pub tolds : List Told
  pub moment : House
  pub came : Day start before tolds moment
  pub honest : AllHonest moment.store
  pub within : length moment.store ≤ start.room

abbrev pub EverHonest : House → List Deed → Type 0
EverHonest start ds = (before after : List Deed) → ds ≡ before ++ after → KeptWell start before

-- the promise over every day that begins with an empty store
abbrev pub EveryDay : Type 0
EveryDay = (start l : House) (ds : List Deed) (ts : List Told) → start.store ≡ [] → Day start ds ts l → NeverStale start ds ts × EverHonest start ds

-- other things done at the other desks, and another store with whatever entries, never change an answer
abbrev pub DesksApart : Type 0
DesksApart =
    (h h' g g' l l' : House) (ds ds' : List Deed) (ts ts' : List Told) (x k : ℕ) (o o' : Out) (ran ran' : List ℕ) →
    own x ds (desk h x) ≡ own x ds' (desk h' x) →
    Day h ds ts g → Day h' ds' ts' g' →
    Goes g (build x k) (built o ran) l → Goes g' (build x k) (built o' ran') l' → o ≡ o'
