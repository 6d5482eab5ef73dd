-- The entries are gone through in order until one saves the script. Assumes nothing.
use Rattle.std.proofs.Common.{◌≡◌, ℕ, ◌+◌, ◌<◌, ◌≤◌, List, length, get_or, Bool, true, false, Some, None, Option, Ok, Result, sym, ap, ◌∙◌, subst, ⊎_elim, arith}
use Rattle.std.specs.Result.{IsErr}
use Rattle.std.proofs.lemmas.Bool.{cases_eq}
use Rattle.script.specs.Rule.{Script, Value, done, task_of}
use Rattle.entry.specs.Entry.{AllHonest, Entry, Honest, no_entry}
use Rattle.theory.specs.Build.{Usable}
use Rattle.theory.specs.Items.{Item, made}
use Rattle.theory.proofs.Values.{made_one}
use Rattle.build.specs.Made.{AgreedSo, EndsWaiting, RecalledSo}
use Rattle.build.specs.Sound.{Ended, Held, Looked, Ready, Sound, Walked, Went}
use Rattle.items.specs.declared.ring.Ring.{Ring}
use Rattle.build.specs.declared.scratch.Scratch.{Scratch}
use Rattle.build.proofs.Grows.{by_ring, ended_join, ready_grown, went_join, went_none}

-- how its answers are, by what the test is found to be
pub agreed_as : (d : List Item) (es : List Entry) (e : Entry) (σ σ₁ : Scratch) {x y : Bool} → x ≡ y → AgreedSo d es e σ (Ok x) σ₁ → AgreedSo d es e σ (Ok y) σ₁
agreed_as d es e σ σ₁ same r = subst (λ b. AgreedSo d es e σ (Ok b) σ₁) same r

-- none of the first i entries saves a run of the script
pub record Recalling (d : List Item) (es : List Entry) (s : Script) (σ : Scratch) (i : ℕ) (σ₁ : Scratch) : Type 0 where
  pub went : Went d es (Looked d (task_of s)) σ σ₁
  pub none : (p : ℕ) → p < i → s ≡ (get_or es p no_entry).script → Usable d (get_or es p no_entry) → ⊥

pub recalling_none : {d : List Item} {es : List Entry} {s : Script} {σ : Scratch} → Sound d es σ → Recalling d es s σ 0 σ
recalling_none sound = record { went = went_none sound; none = λ p h. absurd (omega arith) }

module _ {d : List Item} {es : List Entry} {s : Script} {σ σ₁ : Scratch} {depth i : ℕ} (ready : Ready d es σ depth) (so_far : Recalling d es s σ i σ₁) where
  pub recalling_end : length es ≤ i → RecalledSo d es s σ (Ok None) σ₁
  recalling_end past = (so_far.went, λ j is saved. so_far.none saved.place (omega (arith, saved.kept)) (made_one is saved.its) saved.usable)

  module _ (e : Entry) (there : (i < length es) × (e ≡ get_or es i no_entry)) where
    one_more : {σ₂ : Scratch} → Went d es (Looked d (task_of s)) σ σ₂ → (s ≡ e.script → Usable d e → ⊥) → Recalling d es s σ (i + 1) σ₂
    one_more went no_use = record {
      went = went;
      none = λ p h.
          ⊎_elim
          (λ at_i. λ its usable.
          let same = ap (λ x. get_or es x no_entry) at_i ∙ sym there.1 in
          no_use (its ∙ ap (λ x. x.script) same) (subst (λ x. Usable d x) same usable))
          (λ other. so_far.none p (omega arith))
          (cases_eq p i);
    }

    -- an entry of another script
    pub recalling_other : (s ≡ e.script → ⊥) → Recalling d es s σ (i + 1) σ₁
    recalling_other other = one_more so_far.went (λ its usable. other its)

    again : Ready d es σ₁ depth
    again = ready_grown ready so_far.went.grown

    honest : Honest e
    unfolding AllHonest
    honest = subst (λ x. Honest x) (sym there.1) (ready.honest i there.0)

    -- an entry of this script is tested
    module _ (its : s ≡ e.script) {σ₂ : Scratch} where
      went_on : Went d es (Looked d (task_of e.script)) σ₁ σ₂ → Went d es (Looked d (task_of s)) σ σ₂
      went_on went = went_join (λ j f. f) so_far.went (subst (λ x. Went d es (Looked d (task_of x)) σ₁ σ₂) (sym its) went)

      pub recalling_differs : (Ready d es σ₁ depth → Honest e → AgreedSo d es e σ₁ (Ok false) σ₂) → Recalling d es s σ (i + 1) σ₂
      recalling_differs test = let (went, unusable) = test again honest in one_more (went_on went) (λ _. unusable)

      pub recalling_ring : (Ready d es σ₁ depth → Honest e → EndsWaiting d es e.script σ₁ σ₂) → (r : Result (Option Value) Ring) → IsErr r → RecalledSo d es s σ r σ₂
      recalling_ring test r is_ring =
          let (ended, held) = test again honest in
          by_ring (λ x. RecalledSo d es s σ x σ₂) r is_ring (λ _. (ended_join (λ j f. f) so_far.went (subst (λ x. Ended d es (Looked d (task_of x)) σ₁ σ₂) (sym its) ended), subst (λ x. Held d σ₂ (task_of x)) (sym its) held))

      pub recalling_agrees : (v : Value) → v ≡ e.result → (Ready d es σ₁ depth → Honest e → AgreedSo d es e σ₁ (Ok true) σ₂) → RecalledSo d es s σ (Ok (Some v)) σ₂
      recalling_agrees v result test =
          let (went, usable, walked) = test again honest in (
            went_on went,
            (λ j is. record { place = i; kept = there.0; its = is ∙ ap made its ∙ ap (λ x. made x.script) there.1; usable = subst (λ x. Usable d x) there.1 usable }),
            (e.asked, (subst (λ x. Walked d σ₂ (task_of x) e.asked (done v)) (sym its) (subst (λ x. Walked d σ₂ (task_of e.script) e.asked (done x)) (sym result) walked))),
          )
