-- An item that is evaluated without being made: written, or known. Assumes nothing.
use Rattle.std.proofs.Common.{◌≡◌, ℕ, ◌<◌, ◌≤◌, ◌⊎◌, List, length, Ok, sym, ◌∙◌, ⊎_elim, arith}
use Rattle.script.specs.Rule.{Script, Value}
use Rattle.entry.specs.Entry.{Entry}
use Rattle.entry.specs.declared.asking.Asking.{Asking}
use Rattle.rows.proofs.Counted.{count_in}
use Rattle.items.specs.Rows.{first_item, item_size, items_in, max_items}
use Rattle.theory.specs.Clean.{Makes, as_written, by_script}
use Rattle.theory.specs.Items.{Item, item, made, written}
use Rattle.theory.proofs.Rings.{made_there}
use Rattle.build.specs.Made.{Evaluated}
use Rattle.build.specs.Scratch.{state_of}
use Rattle.build.specs.Sound.{Known, Ready, by_entry, by_hand, by_run}
use Rattle.build.specs.declared.scratch.Scratch.{Scratch}
use Rattle.build.specs.declared.scratch.State.{State}
use Rattle.build.specs.declared.scratch.State.TheVariants.{Found, Ran, Unseen}
use Rattle.build.proofs.Grows.{went_none}
use Rattle.build.proofs.States.{unseen_some}
use Rattle.build.proofs.Walks.{walked_runs}

pub few_items : (xs : List ℕ) → length (items_in xs) ≤ max_items
few_items xs = rw (count_in first_item item_size max_items) (omega arith)

-- an item that is made is one of the first 256
pub made_below : (xs : List ℕ) (j : ℕ) {s : Script} → item (items_in xs) j ≡ made s → j < max_items
made_below xs j is = omega (arith, made_there (items_in xs) j is, few_items xs)

pub known_makes : {d : List Item} {σ : Scratch} {j : ℕ} {qs : List Asking} {v : Value} → Known d σ j qs v → Makes d j v
known_makes k = by_script k.is_made (walked_runs k.walked)

module _ {d : List Item} {es : List Entry} {σ : Scratch} {depth : ℕ} (ready : Ready d es σ depth) (j : ℕ) where
  pub is_written : {v : Value} → item d j ≡ written v → Evaluated d es σ j (Ok v) σ
  is_written e = (went_none ready.sound, as_written e, by_hand e)

  is_found : {v : Value} → state_of σ j ≡ Found v → Evaluated d es σ j (Ok v) σ
  is_found {v} e = (went_none ready.sound, known_makes (ready.sound.found j v e).1.1, by_entry e)

  is_ran : {v : Value} {row : List ℕ} → state_of σ j ≡ Ran v row → Evaluated d es σ j (Ok v) σ
  is_ran {v} {row} e = (went_none ready.sound, known_makes (ready.sound.ran j v row e).1, by_run e)

  -- an entry gave the value, or a run did
  pub is_known : {v : Value} (t : State) → t ≡ state_of σ j → (t ≡ Found v) ⊎ ((row : List ℕ) × (t ≡ Ran v row)) → Evaluated d es σ j (Ok v) σ
  is_known t is known = ⊎_elim (λ e. is_found (sym is ∙ e)) (λ r. is_ran (sym is ∙ r.1)) known

  -- the depth lasts
  pub deep_enough : {s : Script} → depth ≡ 0 → item d j ≡ made s → state_of σ j ≡ Unseen → ⊥
  deep_enough none is un = omega (arith, unseen_some σ (length d) j (made_there d j is) un, ready.deep)
