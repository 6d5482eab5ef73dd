-- When an entry may stand for a run, and what a build over a store answers, runs and leaves. Assumes nothing: these are definitions.
use Rattle.std.specs.Prelude.{◌≡◌, ℕ, ◌-◌, ◌<◌, List, [], ◌∷◌, ◌++◌, length, take, slice_index_or}
use Rattle.script.specs.Rule.{Script, Value, task_of}
use Rattle.entry.specs.Entry.{Entry, no_asking, no_entry}
use Rattle.theory.specs.Clean.{Makes, Out, Reached, Runs, clean}
use Rattle.theory.specs.Items.{Item, item, made}

-- the answer that an entry names at place i is the value of the item that it names there
abbrev pub RightAt : List Item → Entry → ℕ → Type 0
RightAt d e i = Makes d (slice_index_or e.asked i no_asking).item (slice_index_or e.asked i no_asking).answer

-- every answer that it remembers is still the answer
abbrev pub Usable : List Item → Entry → Type 0
Usable d e = (i : ℕ) → i < length e.asked → RightAt d e i

-- the store holds an entry of item j's own script that is usable, so that the script need not be run
pub record Saved (d : List Item) (es : List Entry) (j : ℕ) : Type 0 where
  pub place : ℕ
  pub kept : place < length es
  pub its : item d j ≡ made (slice_index_or es place no_entry).script
  pub usable : Usable d (slice_index_or es place no_entry)

pub data Rising : List ℕ → Type 0 where
  none : Rising []
  one : {j : ℕ} → Rising (j ∷ [])
  more : {j k : ℕ} {ks : List ℕ} → j < k → Rising (k ∷ ks) → Rising (j ∷ k ∷ ks)

pub data In (j : ℕ) : List ℕ → Type 0 where
  here : {ks : List ℕ} → In j (j ∷ ks)
  there : {k : ℕ} {ks : List ℕ} → In j ks → In j (k ∷ ks)

-- an item that a build of item k has to run: looked at, made by a script, with a value, and with no entry that saves the run
pub record Due (d : List Item) (es : List Entry) (k j : ℕ) : Type 0 where
  pub looked : Reached d k j
  pub script : Script
  pub is_made : item d j ≡ made script
  pub gave : Value
  pub has : Makes d j gave
  pub unsaved : Saved d es j → ⊥

-- the entry that a run of item j leaves
pub record Left (d : List Item) (j : ℕ) (e : Entry) : Type 0 where
  pub its : item d j ≡ made e.script
  pub ran : Runs d (task_of e.script) e.asked e.result

pub data EachLeft (d : List Item) : List ℕ → List Entry → Type 0 where
  no_more : EachLeft d [] []
  and_one : {j : ℕ} {js : List ℕ} {e : Entry} {es : List Entry} → Left d j e → EachLeft d js es → EachLeft d (j ∷ js) (e ∷ es)

-- all that a build of item k of the desk d may answer, run and leave, over a store es with room for so many entries
pub record Built (d : List Item) (es : List Entry) (room k : ℕ) (o : Out) (ran : List ℕ) (fs : List Entry) : Type 0 where
  pub answer : o ≡ clean d k
  pub rising : Rising ran
  pub all_due : (j : ℕ) → In j ran → Due d es k j
  pub due_all : (j : ℕ) → Due d es k j → In j ran
  pub new : List Entry
  pub left : EachLeft d ran new
  pub store : fs ≡ es ++ take (room - length es) new
