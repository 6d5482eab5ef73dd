-- What holds of builds over a store. Each is a statement. Assumes nothing: these are definitions.
use Rattle.std.specs.Prelude.{◌≡◌, ℕ, ◌+◌, ◌≤◌, List, [], length, slice_set}
use Rattle.script.specs.Rule.{Value}
use Rattle.entry.specs.Entry.{AllHonest, Entry, Honest}
use Rattle.theory.specs.Build.{Built, In}
use Rattle.theory.specs.Clean.{Makes, Out, Reached}
use Rattle.theory.specs.Items.{Item}
use Rattle.theory.specs.Reference.{built_of}

-- answer, list and store after a build are each one
abbrev pub OneBuild : Type 0
OneBuild =
    (d : List Item) (es : List Entry) (room k : ℕ) (o o' : Out) (ran ran' : List ℕ) (fs fs' : List Entry) →
    Built d es room k o ran fs → Built d es room k o' ran' fs' → (o ≡ o') × (ran ≡ ran') × (fs ≡ fs')

-- where there was room for all that a build left, building the same item again runs nothing
abbrev pub SecondRunsNothing : Type 0
SecondRunsNothing =
    (d : List Item) (es fs gs : List Entry) (room k : ℕ) (o o' : Out) (ran ran' : List ℕ) →
    Built d es room k o ran fs → length es + length ran ≤ room → Built d fs room k o' ran' gs → ran' ≡ []

-- an item was built with room for all that the build left, and then item m is rewritten and comes to the value that it
-- had: building the first item again runs only what is looked at in building item m
abbrev pub CutShort : Type 0
CutShort =
    (d : List Item) (i : Item) (m k : ℕ) (v : Value) (es fs gs : List Entry) (room : ℕ) (o o' : Out) (ran ran' : List ℕ) (j : ℕ) →
    Built d es room k o ran fs → length es + length ran ≤ room →
    Makes d m v → Makes (slice_set d m i) m v →
    Built (slice_set d m i) fs room k o' ran' gs → In j ran' → Reached (slice_set d m i) m j

-- a build leaves an honest store honest
abbrev pub StaysHonest : Type 0
StaysHonest =
    (d : List Item) (es fs : List Entry) (room k : ℕ) (o : Out) (ran : List ℕ) →
    AllHonest es → Built d es room k o ran fs → AllHonest fs

-- a build leaves no more entries than there is room for
abbrev pub StaysWithin : Type 0
StaysWithin =
    (d : List Item) (es fs : List Entry) (room k : ℕ) (o : Out) (ran : List ℕ) →
    length es ≤ room → Built d es room k o ran fs → length fs ≤ room

-- an honest entry names at most as many askings as its script has lines
abbrev pub FewAskings : Type 0
FewAskings = (e : Entry) → Honest e → length e.asked ≤ length e.script

-- every build has an outcome
abbrev pub BuildsExist : Type 0
BuildsExist = (d : List Item) (es : List Entry) (room k : ℕ) → (o : Out) × (ran : List ℕ) × (fs : List Entry) × Built d es room k o ran fs

-- the build that computes gives it
abbrev pub ReferenceFits : Type 0
ReferenceFits =
    (d : List Item) (es : List Entry) (room k : ℕ) →
    Built d es room k (built_of d es room k).answer (built_of d es room k).ran (built_of d es room k).store
