-- The clean build finds exactly the values that there are, and goes by its own answers. Assumes nothing.
use Rattle.std.proofs.Common.{◌≡◌, ℕ, suc, ◌+◌, ◌<◌, List, length, sym, ap, ◌∙◌, ⊎_elim, arith}
use Rattle.script.specs.Rule.{Script, Task, Value, task_of}
use Rattle.entry.specs.declared.asking.Asking.{Asking}
use Rattle.theory.specs.Clean.{Asks, Makes, Reached, Runs, clean, deep, out_of, ring, run, value}
use Rattle.theory.specs.Items.{Item, item, made, written}
use Rattle.theory.specs.Rings.{Needs, Stuck}
use Rattle.theory.proofs.Needs.{no_ring}
use Rattle.theory.proofs.Outs.{cases_out, deep_keeps, deep_suc}
use Rattle.theory.proofs.Rings.{clean_ring}
use Rattle.theory.proofs.Sound.{deep_makes, run_runs, run_stuck}
use Rattle.theory.proofs.Stuck.{stuck_none}
use Rattle.theory.proofs.Values.{makes_unique, reached_value}

pub clean_makes : (d : List Item) (k : ℕ) (v : Value) → clean d k ≡ value v → Makes d k v
unfolding clean
clean_makes d k v e = deep_makes d (length d + 1) k v e

pub ring_makes_none : (d : List Item) (k : ℕ) (v : Value) → clean d k ≡ ring → Makes d k v → ⊥
ring_makes_none d k v e m = let (j, r, n) = clean_ring d k e in no_ring (reached_value m r).1 n

pub makes_clean : {d : List Item} {k : ℕ} {v : Value} → Makes d k v → clean d k ≡ value v
makes_clean {d} {k} {v} m =
    ⊎_elim
    (λ h. h.1 ∙ ap value (makes_unique (clean_makes d k h.0 h.1) m))
    (λ h. absurd (ring_makes_none d k v h m))
    (cases_out (clean d k))

pub none_clean_ring : (d : List Item) (k : ℕ) → ((v : Value) → Makes d k v → ⊥) → clean d k ≡ ring
none_clean_ring d k none =
    ⊎_elim
    (λ h. absurd (none h.0 (clean_makes d k h.0 h.1)))
    (λ h. h)
    (cases_out (clean d k))

-- one that needs itself on the way makes a ring
pub needs_ring : {d : List Item} {k j : ℕ} → Reached d k j → Needs d j j → clean d k ≡ ring
needs_ring {d} {k} r n = none_clean_ring d k (λ v m. no_ring (reached_value m r).1 n)

-- items that each ask for another of them are rings
pub stuck_ring : {d : List Item} (P : ℕ → Type 0) → ((j : ℕ) → P j → Stuck d P j) → (k : ℕ) → P k → clean d k ≡ ring
stuck_ring {d} P stuck k p = none_clean_ring d k (λ v m. stuck_none P stuck m p)

-- every depth above the count of items is deep enough
pub deep_enough : (d : List Item) (n k : ℕ) → length d < n → deep n d k ≡ clean d k
unfolding clean
deep_enough d n k h =
    ⊎_elim
    (λ e. deep_keeps d (length d + 1) n (omega arith) k e.0 e.1 ∙ sym e.1)
    (λ e.
    ⊎_elim
    (λ o. absurd (ring_makes_none d k o.0 e (deep_makes d n k o.0 o.1)))
    (λ o. o ∙ sym e)
    (cases_out (deep n d k)))
    (cases_out (deep (length d + 1) d k))

-- the clean build answers each asking with what the clean build of that item answers
pub clean_out : (d : List Item) (k : ℕ) → clean d k ≡ out_of (λ j. clean d j) (item d k)
unfolding clean
clean_out d k = sym (deep_enough d (suc (length d + 1)) k (omega arith)) ∙ deep_suc (length d + 1) d k

pub clean_written : (d : List Item) (k : ℕ) {v : Value} → item d k ≡ written v → clean d k ≡ value v
clean_written d k is = clean_out d k ∙ ap (out_of (λ j. clean d j)) is

pub clean_made : (d : List Item) (k : ℕ) {s : Script} → item d k ≡ made s → clean d k ≡ run (λ j. clean d j) (task_of s)
clean_made d k is = clean_out d k ∙ ap (out_of (λ j. clean d j)) is

-- a task over the clean answers comes to a value only by its run, and to a ring only at an asking for a ring
pub clean_runs : (d : List Item) (t : Task) (v : Value) → run (λ j. clean d j) t ≡ value v → (qs : List Asking) × Runs d t qs v
clean_runs d t v e = run_runs d (λ j. clean d j) (clean_makes d) t v e

pub clean_stuck : (d : List Item) (t : Task) → run (λ j. clean d j) t ≡ ring → (j : ℕ) × Asks d t j × (clean d j ≡ ring)
clean_stuck d t e = run_stuck d (λ j. clean d j) (clean_makes d) t e
