-- One desk worked out: what is written, what is built, and what each build answers, runs and leaves. Assumes nothing: these are definitions.
use Rattle.std.specs.Prelude.{◌≡◌, ℕ, List, [], ◌∷◌, length, slice_set}
use Rattle.script.specs.Rule.{Value}
use Rattle.script.specs.declared.line.Line.TheVariants.{Ask, AskAt, Number, Sum, Unless, Give}
use Rattle.entry.specs.Entry.{Entry}
use Rattle.theory.specs.Build.{Built}
use Rattle.theory.specs.Clean.{Out, ring, value}
use Rattle.theory.specs.Items.{Item, made, written}

-- a number that is written into an item
pub record Writing : Type 0 where
  pub into : ℕ
  pub number : Value

-- one build: what is written before it, the item, what it answers and runs, and how many entries are kept after it
pub record Row : Type 0 where
  pub before : List Writing
  pub item : ℕ
  pub answer : Out
  pub ran : List ℕ
  pub kept : ℕ

unfoldable pub rewritten : List Item → List Writing → List Item
rewritten d [] = d
rewritten d (w ∷ ws) = rewritten (slice_set d w.into (written w.number)) ws

-- the builds of the rows go as told, one after the other, each over the store that the one before left
pub data AsTold (room : ℕ) : List Item → List Entry → List Row → Type 0 where
  over : {d : List Item} {es : List Entry} → AsTold room d es []
  next : {d : List Item} {es fs : List Entry} {r : Row} {rs : List Row} →
      Built (rewritten d r.before) es room r.item r.answer r.ran fs → length fs ≡ r.kept →
      AsTold room (rewritten d r.before) fs rs → AsTold room d es (r ∷ rs)

abbrev pub desk : List Item
desk =
    written 5
    ∷ written 3
    -- the sum of items 0 and 1
    ∷ made (Ask 0 0 ∷ Ask 1 1 ∷ Sum 2 0 1 ∷ Give 2 ∷ [])
    -- 8 if item 2 is 8, otherwise item 4
    ∷ made (Ask 0 2 ∷ Number 1 8 ∷ Unless 0 1 1 ∷ Ask 0 4 ∷ Give 0 ∷ [])
    ∷ made (Ask 0 3 ∷ Give 0 ∷ [])
    -- the item whose number item 1 holds
    ∷ made (Ask 0 1 ∷ AskAt 0 0 ∷ Give 0 ∷ [])
    -- an item that is not there
    ∷ made (Ask 0 900 ∷ Give 0 ∷ [])
    -- itself
    ∷ made (Ask 0 7 ∷ Give 0 ∷ [])
    ∷ []

abbrev pub rows : List Row
rows =
    record { before = []; item = 2; answer = value 8; ran = 2 ∷ []; kept = 1 }
    ∷ record { before = []; item = 5; answer = value 8; ran = 3 ∷ 5 ∷ []; kept = 3 }
    ∷ record { before = []; item = 5; answer = value 8; ran = []; kept = 3 }
    -- item 3 is not run: its entry needs item 2 to be 8, and the sum is 8 again
    ∷ record { before = record { into = 0; number = 4 } ∷ record { into = 1; number = 4 } ∷ []; item = 5; answer = value 8; ran = 2 ∷ 4 ∷ 5 ∷ []; kept = 4 }
    ∷ record { before = []; item = 5; answer = value 8; ran = 4 ∷ 5 ∷ []; kept = 4 }
    ∷ record { before = record { into = 0; number = 1 } ∷ []; item = 3; answer = ring; ran = 2 ∷ []; kept = 4 }
    ∷ record { before = []; item = 5; answer = ring; ran = 2 ∷ []; kept = 4 }
    ∷ record { before = []; item = 6; answer = value 0; ran = 6 ∷ []; kept = 4 }
    ∷ record { before = []; item = 7; answer = ring; ran = []; kept = 4 }
    ∷ []

abbrev pub room : ℕ
room = 4

-- from an empty store
abbrev pub WorkedDay : Type 0
WorkedDay = AsTold room desk [] rows
