-- An entry's answers are tested in order, as long as they are right. Assumes nothing.
use Rattle.std.proofs.Common.{◌≡◌, ℕ, ◌+◌, ◌<◌, ◌≤◌, min, List, [], ◌∷◌, ◌++◌, map, length, get_or, take, drop, Bool, true, false, Ok, Result, sym, ap, ◌∙◌, subst, ⊎_elim, arith}
use Rattle.std.specs.List.{AllByRecursion}
use Rattle.std.specs.Result.{IsErr}
use Rattle.std.proofs.ByRecursion.{All-push}
use Rattle.std.proofs.lemmas.List.{get_or_default, take_all, take_more}
use Rattle.std.proofs.lemmas.Bool.{cases_eq}
use Rattle.rows.specs.Rows.{chunks}
use Rattle.rows.proofs.Chunks.{map_chunks}
use Rattle.rows.proofs.Counted.{count_in}
use Rattle.script.specs.Layout.{max_askings, script_size}
use Rattle.script.specs.Rule.{Value, asks, task_of}
use Rattle.entry.specs.Entry.{Entry, Honest, no_asking}
use Rattle.entry.specs.Layout.{asking_size}
use Rattle.entry.specs.Rows.{askings_in, entry_in, first_asking}
use Rattle.entry.specs.declared.asking.Asking.{Asking}
use Rattle.theory.specs.Along.{Along}
use Rattle.theory.specs.Build.{RightAt, Usable}
use Rattle.theory.specs.Clean.{Asks, Makes, now}
use Rattle.theory.specs.Items.{Item}
use Rattle.theory.proofs.Along.{along_asks, runs_along}
use Rattle.theory.proofs.Entries.{honest_asks, honest_runs}
use Rattle.theory.proofs.Values.{makes_unique}
use Rattle.build.specs.Made.{AgreedSo, EndsOpen, Evaluated}
use Rattle.build.specs.Sound.{Looked, Ready, Settled, Sound, Went}
use Rattle.items.specs.declared.ring.Ring.{Ring}
use Rattle.build.specs.declared.scratch.Scratch.{Scratch}
use Rattle.build.proofs.Grows.{asked_looked, by_ring, ended_join, ready_grown, went_join, went_none}
use Rattle.build.proofs.Parts.{piece_there}
use Rattle.build.proofs.Walks.{all_keeps, later_keeps}

-- the parts that stand behind the count of askings are the entry's askings
pub asked_parts : (row : List ℕ) {askings rest : List ℕ} {n : ℕ} {ps : List (List ℕ)} → askings ≡ drop script_size row → rest ≡ drop 1 askings → n ≡ length (askings_in askings) → ps ≡ chunks (λ xs. xs) asking_size n rest → map first_asking ps ≡ (entry_in row).asked
asked_parts row {askings} {rest} {n} is behind many all =
    let count : n ≡ min (get_or askings 0 0) max_askings = many ∙ count_in first_asking asking_size max_askings askings in
    ap (map first_asking) all
    ∙ map_chunks first_asking asking_size n rest
    ∙ (λ i. chunks first_asking asking_size (count i) (behind i))
    ∙ ap askings_in is

-- the next part is the next asking
pub asking_there : (qs : List Asking) (i : ℕ) {parts more : List (List ℕ)} {part : List ℕ} (q : Asking) → map first_asking parts ≡ drop i qs → parts ≡ part ∷ more → q ≡ first_asking part → (i < length qs) × (get_or qs i q ≡ q)
asking_there qs i q left next is = let (inside, same) = piece_there first_asking qs i left next q in (inside, sym (is ∙ same))

-- the first i answers are right, and what they name is settled
pub record Trying (d : List Item) (es : List Entry) (e : Entry) (σ : Scratch) (i : ℕ) (σ₁ : Scratch) : Type 0 where
  pub went : Went d es (Looked d (task_of e.script)) σ σ₁
  pub right : (j : ℕ) → j < i → RightAt d e j
  pub settled : AllByRecursion (λ q. Settled d σ₁ q.item) (take i e.asked)

pub trying_none : {d : List Item} {es : List Entry} {e : Entry} {σ : Scratch} → Sound d es σ → Trying d es e σ 0 σ
trying_none s = record { went = went_none s; right = λ j h. absurd (omega arith); settled = tt }

module _ {d : List Item} {es : List Entry} {e : Entry} {σ σ₁ : Scratch} {depth i : ℕ} (ready : Ready d es σ depth) (honest : Honest e) (so_far : Trying d es e σ i σ₁) where
  pub trying_end : length e.asked ≤ i → AgreedSo d es e σ (Ok true) σ₁
  trying_end past =
      let usable : Usable d e = λ j h. so_far.right j (omega arith) in (
        so_far.went,
        usable,
        record {
          along = runs_along (honest_runs d e honest usable);
          settled = subst (λ qs. AllByRecursion (λ q. Settled d σ₁ q.item) qs) (take_all i e.asked past) so_far.settled;
        },
      )

  module _ (q : Asking) (there : (i < length e.asked) × (get_or e.asked i q ≡ q)) where
    same : get_or e.asked i no_asking ≡ q
    same = get_or_default e.asked i no_asking q there.0 ∙ there.1

    asked : Asks d (task_of e.script) q.item
    asked = subst (λ x. Asks d (task_of e.script) x.item) same (along_asks (honest_asks d e honest i there.0 so_far.right).1 now)

    again : Ready d es σ₁ depth
    again = ready_grown ready so_far.went.grown

    module _ {σ₂ : Scratch} where
      pub trying_ring : (Ready d es σ₁ depth → EndsOpen d es σ₁ q.item σ₂) → (r : Result Bool Ring) → IsErr r → AgreedSo d es e σ r σ₂
      trying_ring found r is_ring =
          let (ended, last) = found again in
          let (c, along) = honest_asks d e honest i there.0 so_far.right in
          by_ring (λ x. AgreedSo d es e σ x σ₂) r is_ring (λ _. (
            ended_join (asked_looked asked) so_far.went ended,
            record {
              asked = take i e.asked;
              next = q.item;
              then = c;
              walked = record {
                along = subst (λ x. Along d (task_of e.script) (take i e.asked) (asks x.item c)) same along;
                settled = all_keeps (later_keeps ended.grown.later) (take i e.asked) so_far.settled;
              };
              still = last;
            },
          ))

      pub trying_differs : (v : Value) → (Ready d es σ₁ depth → Evaluated d es σ₁ q.item (Ok v) σ₂) → (v ≡ q.answer → ⊥) → AgreedSo d es e σ (Ok false) σ₂
      trying_differs v found other =
          let (went, makes, settled) = found again in
          (went_join (asked_looked asked) so_far.went went, λ usable. other (makes_unique makes (subst (λ x. Makes d x.item x.answer) same (usable i there.0))))

      pub trying_more : (v : Value) → (Ready d es σ₁ depth → Evaluated d es σ₁ q.item (Ok v) σ₂) → v ≡ q.answer → Trying d es e σ (i + 1) σ₂
      trying_more v found agrees =
          let (went, makes, settled) = found again in
          record {
            went = went_join (asked_looked asked) so_far.went went;
            right = λ j h.
                ⊎_elim
                (λ at_i. subst (λ x. RightAt d e x) (sym at_i) (subst (λ x. Makes d x.item x.answer) (sym same) (subst (λ x. Makes d q.item x) agrees makes)))
                (λ other. so_far.right j (omega arith))
                (cases_eq j i);
            settled = subst (λ qs. AllByRecursion (λ x. Settled d σ₂ x.item) qs) (sym (take_more e.asked i q there.0 ∙ ap (λ x. take i e.asked ++ x ∷ []) there.1))
                (All-push (λ x. Settled d σ₂ x.item) (take i e.asked) q (all_keeps (later_keeps went.grown.later) (take i e.asked) so_far.settled) settled);
          }
