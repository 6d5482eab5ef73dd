-- What holds of values, runs, reach and rings. Each is a statement. Assumes nothing: these are definitions.
use Rattle.std.specs.Prelude.{◌≡◌, ℕ, ◌<◌, List, length, slice_index_or}
use Rattle.script.specs.Rule.{Task, Value}
use Rattle.entry.specs.Entry.{Entry, Honest, no_asking}
use Rattle.entry.specs.declared.asking.Asking.{Asking}
use Rattle.theory.specs.Build.{RightAt, Usable}
use Rattle.theory.specs.Clean.{Makes, Reached, Runs, clean, ring, value}
use Rattle.theory.specs.Items.{Item, item, made}
use Rattle.theory.specs.Rings.{Needs}

-- the bounded build and the unbounded one are one, and a ring is told exactly where no value can come about
abbrev pub BoundEnough : Type 0
BoundEnough =
    (d : List Item) (k : ℕ) →
    ((v : Value) → (clean d k ≡ value v → Makes d k v) × (Makes d k v → clean d k ≡ value v))
    × (clean d k ≡ ring → (v : Value) → Makes d k v → ⊥)
    × (((v : Value) → Makes d k v → ⊥) → clean d k ≡ ring)

-- an item has one value, and its script one run
abbrev pub OneValue : Type 0
OneValue =
    ((d : List Item) (k : ℕ) (v w : Value) → Makes d k v → Makes d k w → v ≡ w)
    × ((d : List Item) (t : Task) (ps qs : List Asking) (v w : Value) → Runs d t ps v → Runs d t qs w → (ps ≡ qs) × (v ≡ w))

-- an honest entry that is usable gives the value: this is why it may be believed
abbrev pub HonestUsable : Type 0
HonestUsable =
    (d : List Item) (k : ℕ) (e : Entry) → item d k ≡ made e.script → Honest e → Usable d e → Makes d k e.result

-- the askings of an honest entry of the item's own script, looked at in order as long as they agree, are looked at by a
-- clean build of the item too
abbrev pub LooksNoFurther : Type 0
LooksNoFurther =
    (d : List Item) (k i : ℕ) (e : Entry) → item d k ≡ made e.script → Honest e → i < length e.asked →
    ((j : ℕ) → j < i → RightAt d e j) →
    Reached d k (slice_index_or e.asked i no_asking).item

-- where an item has a value, so has everything that its clean build looks at, and so has everything that a test of an
-- honest entry looks at
abbrev pub NoNewRing : Type 0
NoNewRing =
    ((d : List Item) (k j : ℕ) (v : Value) → Makes d k v → Reached d k j → (w : Value) × Makes d j w)
    × ((d : List Item) (k i : ℕ) (v : Value) (e : Entry) → Makes d k v → item d k ≡ made e.script → Honest e → i < length e.asked →
    ((j : ℕ) → j < i → RightAt d e j) →
    (w : Value) × Makes d (slice_index_or e.asked i no_asking).item w)

-- a ring is told exactly where some item that is looked at needs itself
abbrev pub RingExactly : Type 0
RingExactly =
    (d : List Item) (k : ℕ) →
    (clean d k ≡ ring → (j : ℕ) × Reached d k j × Needs d j j)
    × ((j : ℕ) → Reached d k j → Needs d j j → clean d k ≡ ring)
