-- What each step of the recursion promises, where the entries are honest and the scratch is sound. Assumes nothing: these are definitions.
use Rattle.std.specs.Prelude.{◌≡◌, ℕ, suc, Bool, true, false, List, Some, None, Option, Ok, Err, Result}
use Rattle.script.specs.Rule.{Script, done, task_of}
use Rattle.entry.specs.Entry.{Entry}
use Rattle.entry.specs.Rows.{askings_in}
use Rattle.entry.specs.declared.asking.Asking.{Asking}
use Rattle.theory.specs.Build.{Saved, Usable}
use Rattle.theory.specs.Clean.{Makes, Reached}
use Rattle.theory.specs.Items.{Item, item, made}
use Rattle.build.specs.Scratch.{state_of}
use Rattle.build.specs.Sound.{Ended, Held, IfReady, Looked, Settled, Walked, Went}
use Rattle.build.specs.declared.lent.Lent.{Lent}
use Rattle.build.specs.declared.making.Gave.{Gave}
use Rattle.items.specs.declared.ring.Ring.{Ring}
use Rattle.build.specs.declared.scratch.Scratch.{Scratch}
use Rattle.build.specs.declared.scratch.State.TheVariants.{Open, Unseen}

-- a ring leaves the item open
abbrev pub EndsOpen : List Item → List Entry → Scratch → ℕ → Scratch → Type 0
EndsOpen d es σ j σ₁ = Ended d es (Reached d j) σ σ₁ × (state_of σ₁ j ≡ Open)

-- and a script waiting
abbrev pub EndsWaiting : List Item → List Entry → Script → Scratch → Scratch → Type 0
EndsWaiting d es s σ σ₁ = Ended d es (Looked d (task_of s)) σ σ₁ × Held d σ₁ (task_of s)

-- a value is the item's, and the item is settled
abbrev pub Evaluated : List Item → List Entry → Scratch → ℕ → Result ℕ Ring → Scratch → Type 0
Evaluated d es σ j (Ok v) σ₁ = Went d es (Reached d j) σ σ₁ × Makes d j v × Settled d σ₁ j
Evaluated d es σ j (Err r) σ₁ = EndsOpen d es σ j σ₁

-- the same of an item with this script that was not seen
abbrev pub MadeSo : Lent → Script → ℕ → Scratch → ℕ → Result ℕ Ring → Scratch → Type 0
MadeSo x s depth σ j r σ₁ = IfReady x σ (suc depth) (λ d es. item d j ≡ made s → state_of σ j ≡ Unseen → Evaluated d es σ j r σ₁)

-- an entry's answers are all right, and then it is the run; or one is not; or the script waits
abbrev pub AgreedSo : List Item → List Entry → Entry → Scratch → Result Bool Ring → Scratch → Type 0
AgreedSo d es e σ (Ok true) σ₁ = Went d es (Looked d (task_of e.script)) σ σ₁ × Usable d e × Walked d σ₁ (task_of e.script) e.asked (done e.result)
AgreedSo d es e σ (Ok false) σ₁ = Went d es (Looked d (task_of e.script)) σ σ₁ × (Usable d e → ⊥)
AgreedSo d es e σ (Err r) σ₁ = EndsWaiting d es e.script σ σ₁

-- an entry saves the items of this script; or none does; or the script waits
abbrev pub RecalledSo : List Item → List Entry → Script → Scratch → Result (Option ℕ) Ring → Scratch → Type 0
RecalledSo d es s σ (Ok (Some v)) σ₁ =
    Went d es (Looked d (task_of s)) σ σ₁ × ((j : ℕ) → item d j ≡ made s → Saved d es j) × ((qs : List Asking) × Walked d σ₁ (task_of s) qs (done v))
RecalledSo d es s σ (Ok None) σ₁ = Went d es (Looked d (task_of s)) σ σ₁ × ((j : ℕ) → item d j ≡ made s → Saved d es j → ⊥)
RecalledSo d es s σ (Err r) σ₁ = EndsWaiting d es s σ σ₁

-- the run, with its askings and its result; or the script waits
abbrev pub RanSo : List Item → List Entry → Script → Scratch → Result Gave Ring → Scratch → Type 0
RanSo d es s σ (Ok g) σ₁ = Went d es (Looked d (task_of s)) σ σ₁ × Walked d σ₁ (task_of s) (askings_in g.askings) (done g.value)
RanSo d es s σ (Err r) σ₁ = EndsWaiting d es s σ σ₁
