-- A build whose item was evaluated, and whose list and entries were written. Assumes nothing.
use Rattle.std.proofs.Common.{◌≡◌, ℕ, ◌+◌, ◌-◌, ◌<◌, ◌≤◌, Bool, true, false, cond, ltb, List, ◌++◌, length, take, drop, Some, None, Option, Ok, Err, Result, sym, refl, ap, ◌∙◌, subst, inl, inr, ⊎_elim, arith}
use Rattle.std.proofs.lemmas.List.{length-map}
use Rattle.std.proofs.lemmas.Bool.{cond-true, lt-ltb, ltb-false}
use Rattle.rows.proofs.Chunks.{length_chunks}
use Rattle.script.specs.Allowed.{or_else}
use Rattle.script.specs.declared.refusal.Refusal.{Refusal}
use Rattle.entry.specs.Entry.{AllHonest, Entry}
use Rattle.entry.specs.Layout.{entry_size}
use Rattle.entry.specs.Rows.{entry_in}
use Rattle.store.specs.Faults.{store_fault}
use Rattle.store.specs.Rows.{count_of, entries_in, entry_at, room_of}
use Rattle.theory.specs.Build.{Built}
use Rattle.theory.specs.Clean.{Out, ring, value}
use Rattle.theory.specs.Items.{Item}
use Rattle.theory.proofs.Bound.{makes_clean}
use Rattle.theory.proofs.Passing.{passing_in, passing_rising}
use Rattle.items.specs.Rows.{items_in, max_items}
use Rattle.build.specs.Build.{WentSo, says}
use Rattle.build.specs.Faults.{build_fault, item_fault, list_fault}
use Rattle.build.specs.Leaves.{is_run, kept_all, left_all, left_of, ran_list, told}
use Rattle.build.specs.Made.{Evaluated}
use Rattle.build.specs.Scratch.{fresh, state_of}
use Rattle.build.specs.Sound.{Ready, Waiting}
use Rattle.items.specs.declared.ring.Ring.{Ring}
use Rattle.build.specs.declared.scratch.Scratch.{Scratch}
use Rattle.build.specs.declared.scratch.State.TheVariants.{Open}
use Rattle.build.proofs.Ends.{ends, fresh_ready, open_ring}
use Rattle.build.proofs.Evaluates.{few_items}
use Rattle.build.proofs.Fits.{left_fits}
use Rattle.build.proofs.States.{fresh_unseen, open_seen}
use Rattle.build.proofs.Stores.{Fine, stored}

-- nothing is refused: each of the parts is in order
or_none : (a b : Option Refusal) → or_else a b ≡ None → (a ≡ None) × (b ≡ None)
or_none None b e = (refl, e)
or_none (Some x) b e = absurd (grind arith)

none_unless : {A : Type 0} (b : Bool) (x : A) (o : Option A) → cond b (Some x) o ≡ None → (b ≡ false) × (o ≡ None)
none_unless true x o e = absurd (grind arith)
none_unless false x o e = (refl, e)

pub no_fault : (items rows ran : List ℕ) (k : ℕ) → build_fault items rows ran k ≡ None → Fine rows × (length (items_in items) < length ran)
no_fault items rows ran k e =
    let n = length (items_in items) in
    let (item, others) = or_none (item_fault n k) (or_else (store_fault rows) (list_fault n ran)) e in
    let (store, list) = or_none (store_fault rows) (list_fault n ran) others in
    let (long, more) = none_unless (ltb (length rows) (entry_at (room_of rows))) _ _ store in
    let (within, rest) = none_unless (ltb (room_of rows) (count_of rows)) _ _ more in
    let (room, none) = none_unless (ltb (length ran) (n + 1)) _ _ list in
    (record { long = ltb-false _ _ long; within = ltb-false _ _ within }, omega (arith, ltb-false (length ran) (n + 1) room))

-- where nothing is refused the row of the list has room for all items, so the list is in it
pub all_listed :
    (items rows ran : List ℕ) (k : ℕ) {count : ℕ} {list ran₁ : List ℕ} →
    build_fault items rows ran k ≡ None → count ≡ length (items_in items) → ran₁ ≡ cond (ltb count (length ran)) list ran → ran₁ ≡ list
all_listed items rows ran k {count} fault all listed = listed ∙ cond-true _ _ _ (lt-ltb count (length ran) (omega (arith, all, (no_fault items rows ran k fault).1)))

-- what the recursion found, as an outcome
abbrev pub outcome : Result ℕ Ring → Out
outcome (Ok v) = value v
outcome (Err r) = ring

module _ (d : List Item) (es : List Entry) (k : ℕ) (σ : Scratch) (room : ℕ) (fs : List Entry) (store : fs ≡ es ++ take (room - length es) (left_all d σ (ran_list σ (length d)))) where
  built_by : (r : Result ℕ Ring) → Evaluated d es fresh k r σ → (b : Built d es room k (outcome r) (ran_list σ (length d)) fs) × (b.new ≡ left_all d σ (ran_list σ (length d)))
  built_by (Ok v) (went, makes, settled) =
      ends went.grown (λ j e. absurd (open_seen (went.closed j e) (fresh_unseen j))) (inl settled) room (value v) fs (sym (makes_clean makes)) store
  built_by (Err r) (ended, last) =
      let wait : (j : ℕ) → state_of σ j ≡ Open → Waiting d σ j = λ j e. ⊎_elim (λ before. absurd (open_seen before (fresh_unseen j))) (λ w. w) (ended.stopped j e) in
      ends ended.grown wait (inr last) room ring fs (sym (open_ring ended.grown wait k last)) store

-- the recursion began with a fresh scratch and depth for all items
begun :
    (d : List Item) {es : List Entry} {σ : Scratch} {depth : ℕ} (k : ℕ) (r : Result ℕ Ring) (σ₁ : Scratch) → σ ≡ fresh → depth ≡ length d + 1 → length d ≤ max_items →
    (Ready d es σ depth → Evaluated d es σ k r σ₁) → AllHonest es → Evaluated d es fresh k r σ₁
begun d {es} {σ} {depth} k r σ₁ new deep few evaluated honest =
    let one : Ready d es fresh depth → Evaluated d es fresh k r σ₁ = subst (λ x. Ready d es x depth → Evaluated d es x k r σ₁) new evaluated in
    let two : Ready d es fresh (length d + 1) → Evaluated d es fresh k r σ₁ = subst (λ x. Ready d es fresh x → Evaluated d es fresh k r σ₁) deep one in
    two (fresh_ready honest few)

pub finished :
    (items rows ran : List ℕ) (k : ℕ) (r : Result ℕ Ring) (σ : Scratch) (rows₁ ran₁ : List ℕ) {count : ℕ} {σ₀ : Scratch} →
    build_fault items rows ran k ≡ None → count ≡ length (items_in items) → σ₀ ≡ fresh →
    (Ready (items_in items) (entries_in rows) σ₀ (count + 1) → Evaluated (items_in items) (entries_in rows) σ₀ k r σ) →
    ran₁ ≡ told ran (ran_list σ count) →
    rows₁ ≡ kept_all rows (left_all (items_in items) σ (ran_list σ count)) →
    WentSo items rows ran k (says (outcome r)) rows₁ ran₁
finished items rows ran k r σ rows₁ ran₁ fault all start evaluated listed kept =
    let d = items_in items in
    let n = length d in
    let list = ran_list σ n in
    let test : ℕ → Bool = λ j. is_run (state_of σ j) in
    let new = left_all d σ list in
    let right = begun d k r σ start (ap (λ m. m + 1) all) (few_items items) evaluated in
    let so = stored rows new rows₁ (left_fits items σ list) (no_fault items rows ran k fault).0 (kept ∙ ap (λ m. kept_all rows (left_all d σ (ran_list σ m))) all) in
    let store : entries_in rows₁ ≡ entries_in rows ++ take (room_of rows - length (entries_in rows)) new
    = so.entries ∙ ap (λ m. entries_in rows ++ take (room_of rows - m) new) (sym (length_chunks entry_in entry_size (count_of rows) (drop 2 rows))) in
    record {
      out = outcome r;
      list = list;
      new = new;
      said = refl;
      listed = record {
        row = listed ∙ ap (λ m. told ran (ran_list σ m)) all;
        rising = passing_rising test 0 n;
        below = λ j i. omega (arith, (passing_in test 0 n j i).2);
      };
      many = length-map list (left_of d σ);
      stored = so;
      built = λ h. (built_by d (entries_in rows) k σ (room_of rows) (entries_in rows₁) store r (right h)).0;
      these = λ h. (built_by d (entries_in rows) k σ (room_of rows) (entries_in rows₁) store r (right h)).1;
    }
