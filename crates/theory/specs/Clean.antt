-- The clean build: every script is run, nothing is remembered. Assumes nothing: these are definitions.
use Rattle.std.specs.Prelude.{◌≡◌, ℕ, zero, suc, ◌+◌, List, [], ◌∷◌, length}
use Rattle.script.specs.Rule.{Script, Task, Value, asks, done, task_of}
use Rattle.entry.specs.declared.asking.Asking.{Asking}
use Rattle.theory.specs.Items.{Item, item, made, written}

-- what an item comes to
pub data Out : Type 0 where
  value : Value → Out
  -- the item is needed for itself
  ring : Out

abbrev pub then : Out → (Value → Out) → Out
then (value v) f = f v
then ring f = ring

-- a task run with answers from f; it stops at the first answer that is a ring
unfoldable pub run : (ℕ → Out) → Task → Out
run f (done v) = value v
run f (asks k c) = then (f k) (λ v. run f (c v))

abbrev pub out_of : (ℕ → Out) → Item → Out
out_of f (written v) = value v
out_of f (made s) = run f (task_of s)

-- item k with askings at most n deep
unfoldable pub deep : ℕ → List Item → ℕ → Out
deep zero d k = ring
deep (suc n) d k = out_of (λ j. deep n d j) (item d k)

-- no chain of different items is longer than that
unfoldable pub clean : List Item → ℕ → Out
clean d k = deep (length d + 1) d k

-- the same without a bound: how a value comes about, and with which askings a task runs to its end
mutual
  pub data Makes (d : List Item) : ℕ → Value → Type 0 where
    as_written : {k : ℕ} {v : Value} → item d k ≡ written v → Makes d k v
    by_script : {k : ℕ} {v : Value} {s : Script} {qs : List Asking} → item d k ≡ made s → Runs d (task_of s) qs v → Makes d k v

  pub data Runs (d : List Item) : Task → List Asking → Value → Type 0 where
    ends : {v : Value} → Runs d (done v) [] v
    goes : {k : ℕ} {a v : Value} {c : Value → Task} {qs : List Asking} → Makes d k a → Runs d (c a) qs v → Runs d (asks k c) (record { item = k; answer = a } ∷ qs) v

-- item j is asked for while a task runs
pub data Asks (d : List Item) : Task → ℕ → Type 0 where
  now : {k : ℕ} {c : Value → Task} → Asks d (asks k c) k
  later : {k j : ℕ} {a : Value} {c : Value → Task} → Makes d k a → Asks d (c a) j → Asks d (asks k c) j

-- item j is looked at when item k is built clean
pub data Reached (d : List Item) (k : ℕ) : ℕ → Type 0 where
  itself : Reached d k k
  on : {i j : ℕ} {s : Script} → Reached d k i → item d i ≡ made s → Asks d (task_of s) j → Reached d k j
