-- Two desks that differ in one item, which has one value at both: all values are the same. Assumes nothing.
use Rattle.std.proofs.Common.{◌≡◌, ℕ, ◌⊎◌, List, set, sym, ◌∙◌, subst, inl, inr, ⊎_elim}
use Rattle.std.proofs.lemmas.List.{get_or-set_other}
use Rattle.std.proofs.lemmas.Bool.{cases_eq}
use Rattle.script.specs.Rule.{Task, Value}
use Rattle.entry.specs.Entry.{Entry}
use Rattle.entry.specs.declared.asking.Asking.{Asking}
use Rattle.theory.specs.Build.{Saved}
use Rattle.theory.specs.Clean.{Asks, Makes, Reached, Runs, as_written, by_script, ends, goes, itself, later, now, on}
use Rattle.theory.specs.Items.{Item, item, written}
use Rattle.theory.proofs.Values.{makes_unique}

module _ {d e : List Item} (m : ℕ) (v : Value) (old : Makes d m v) (new : Makes e m v) (same : (k : ℕ) → (k ≡ m → ⊥) → item e k ≡ item d k) where
  at_edited : {k : ℕ} {w : Value} → Makes d k w → ((k ≡ m → ⊥) → Makes e k w) → Makes e k w
  at_edited {k} {w} n elsewhere =
      ⊎_elim
      (λ is.
      let at_m = subst (λ x. Makes d x w) is n in
      subst (λ x. Makes e x w) (sym is) (subst (λ x. Makes e m x) (makes_unique old at_m) new))
      elsewhere
      (cases_eq k m)

  mutual
    pub makes_same : {k : ℕ} {w : Value} → Makes d k w → Makes e k w
    makes_same {k} (as_written is) = at_edited (as_written is) (λ other. as_written (same k other ∙ is))
    makes_same {k} (by_script is r) = let rest = runs_same r in at_edited (by_script is r) (λ other. by_script (same k other ∙ is) rest)

    runs_same : {t : Task} {qs : List Asking} {w : Value} → Runs d t qs w → Runs e t qs w
    runs_same ends = ends
    runs_same (goes n r) = goes (makes_same n) (runs_same r)

  pub asks_same : {t : Task} {j : ℕ} → Asks d t j → Asks e t j
  asks_same now = now
  asks_same (later n a) = later (makes_same n) (asks_same a)

  pub saved_same : {es : List Entry} {j : ℕ} → (j ≡ m → ⊥) → Saved d es j → Saved e es j
  saved_same {j = j} other s = record { place = s.place; kept = s.kept; its = same j other ∙ s.its; usable = λ i h. makes_same (s.usable i h) }

  -- what is looked at from an item stays so, but for what is looked at from the one that differs
  pub reached_same : {k j : ℕ} → Reached d k j → Reached d m j ⊎ Reached e k j
  reached_same itself = inr itself
  reached_same (on {i = i} r is a) =
      ⊎_elim
      (λ b. inl (on b is a))
      (λ b.
      ⊎_elim
      (λ at_m. inl (on (subst (λ x. Reached d m x) (sym at_m) itself) is a))
      (λ other. inr (on b (same i other ∙ is) (asks_same a)))
      (cases_eq i m))
      (reached_same r)

-- an edit touches no other item
pub edit_elsewhere : (d : List Item) (i : Item) (m k : ℕ) → (k ≡ m → ⊥) → item (set d m i) k ≡ item d k
edit_elsewhere d i m k other = get_or-set_other d m k i (written 0) other
