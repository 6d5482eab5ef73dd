-- Reach and needs; an item that needs itself has no value. Assumes nothing.
use Rattle.std.proofs.Common.{◌≡◌, ℕ, List}
use Rattle.script.specs.Rule.{Script, Value, task_of}
use Rattle.theory.specs.Clean.{Asks, Makes, Reached, itself, on}
use Rattle.theory.specs.Items.{Item, item, made}
use Rattle.theory.specs.Rings.{Needs, Stuck, by_way, directly}
use Rattle.theory.proofs.Stuck.{stuck_none}

-- what holds of an item, and of all that is asked for by an item of which it holds, holds of all that is looked at
pub reached_all : {d : List Item} {k j : ℕ} (P : ℕ → Type 0) → ((i m : ℕ) (s : Script) → P i → item d i ≡ made s → Asks d (task_of s) m → P m) → P k → Reached d k j → P j
reached_all P closed p itself = p
reached_all P closed p (on {i = i} {j = j} {s = s} r e a) = closed i j s (reached_all P closed p r) e a

pub reached_join : {d : List Item} {k i j : ℕ} → Reached d k i → Reached d i j → Reached d k j
reached_join {d} {k} r = reached_all (λ j. Reached d k j) (λ i m s b e a. on b e a) r

pub reached_needs : {d : List Item} {i m j : ℕ} {s : Script} → Reached d i m → item d m ≡ made s → Asks d (task_of s) j → Needs d i j
reached_needs itself e a = directly e a
reached_needs (on r f b) e a = by_way (reached_needs r f b) e a

pub needs_reached : {d : List Item} {i j : ℕ} → Needs d i j → Reached d i j
needs_reached (directly e a) = on itself e a
needs_reached (by_way n e a) = on (needs_reached n) e a

-- the first asking on the way
pub first_asking : {d : List Item} {i j : ℕ} → Needs d i j → Stuck d (λ m. Reached d m j) i
first_asking {j = j} (directly {s = s} e a) = record { script = s; next = j; is_made = e; asked = a; again = itself }
first_asking (by_way n e a) =
    let f = first_asking n in
    record { script = f.script; next = f.next; is_made = f.is_made; asked = f.asked; again = on f.again e a }

-- an item that needs itself asks for an item that needs itself
round : {d : List Item} (k : ℕ) → Needs d k k → Stuck d (λ m. Needs d m m) k
round k n =
    let f = first_asking n in
    record { script = f.script; next = f.next; is_made = f.is_made; asked = f.asked; again = reached_needs f.again f.is_made f.asked }

pub no_ring : {d : List Item} {k : ℕ} {v : Value} → Makes d k v → Needs d k k → ⊥
no_ring {d} m n = stuck_none (λ j. Needs d j j) round m n
