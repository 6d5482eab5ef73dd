-- Laws of the states in the scratch of a build, and of how many items were not seen. Assumes nothing.
use Rattle.std.proofs.Common.{◌≡◌, ℕ, zero, suc, ◌<◌, ◌≤◌, ◌⊎◌, List, length, replicate, sym, refl, ap, ◌∙◌, inl, inr, ⊎_elim, arith}
use Rattle.std.proofs.lemmas.List.{get_or_past, get_or-replicate, get_or-set_other, get_or-set_same}
use Rattle.std.proofs.lemmas.Bool.{cases_eq, cases_lt}
use Rattle.script.specs.Rule.{Value}
use Rattle.items.specs.Rows.{max_items}
use Rattle.build.specs.Scratch.{fresh, marked, one_unseen, state_of, unseen}
use Rattle.build.specs.Sound.{Later}
use Rattle.build.specs.declared.scratch.Scratch.{Scratch}
use Rattle.build.specs.declared.scratch.State.{State}
use Rattle.build.specs.declared.scratch.State.TheVariants.{Found, Open, Ran, Unseen}

pub open_seen : {t : State} → t ≡ Open → t ≡ Unseen → ⊥
open_seen p q = let z : ◌≡◌ {A = ℕ} 0 1 = cc in omega arith

pub found_seen : {t : State} {v : Value} → t ≡ Found v → t ≡ Unseen → ⊥
found_seen p q = let z : ◌≡◌ {A = ℕ} 0 1 = cc in omega arith

pub ran_seen : {t : State} {v : Value} {row : List ℕ} → t ≡ Ran v row → t ≡ Unseen → ⊥
ran_seen p q = let z : ◌≡◌ {A = ℕ} 0 1 = cc in omega arith

pub found_shut : {t : State} {v : Value} → t ≡ Found v → t ≡ Open → ⊥
found_shut p q = let z : ◌≡◌ {A = ℕ} 0 1 = cc in omega arith

pub ran_shut : {t : State} {v : Value} {row : List ℕ} → t ≡ Ran v row → t ≡ Open → ⊥
ran_shut p q = let z : ◌≡◌ {A = ℕ} 0 1 = cc in omega arith

pub cases_seen : (t : State) → (t ≡ Unseen) ⊎ (t ≡ Unseen → ⊥)
cases_seen Unseen = inl refl
cases_seen Open = inr (λ e. open_seen refl e)
cases_seen (Found v) = inr (λ e. found_seen refl e)
cases_seen (Ran v row) = inr (λ e. ran_seen refl e)

pub marked_same : (σ : Scratch) (j : ℕ) (t : State) → j < length σ.states → state_of (marked σ j t) j ≡ t
marked_same σ j t h = get_or-set_same σ.states j t Unseen h

pub marked_other : (σ : Scratch) (j : ℕ) (t : State) (i : ℕ) → (i ≡ j → ⊥) → state_of (marked σ j t) i ≡ state_of σ i
marked_other σ j t i other = get_or-set_other σ.states j i t Unseen other

pub fresh_unseen : (j : ℕ) → state_of fresh j ≡ Unseen
fresh_unseen j =
    ⊎_elim
    (λ h. get_or-replicate max_items j Unseen Unseen h)
    (λ h. get_or_past (replicate max_items Unseen) j Unseen h)
    (cases_lt j max_items)

-- what was seen stays so
pub later_unseen : {σ σ₁ : Scratch} → Later σ σ₁ → (j : ℕ) → state_of σ₁ j ≡ Unseen → state_of σ j ≡ Unseen
later_unseen {σ} later j e = ⊎_elim (λ un. un) (λ seen. sym (later.stays j seen) ∙ e) (cases_seen (state_of σ j))

one_later : (s t : State) → (t ≡ Unseen → s ≡ Unseen) → one_unseen t ≤ one_unseen s
one_later s Unseen back = omega (arith, ap one_unseen (back refl))
one_later s Open back = omega arith
one_later s (Found v) back = omega arith
one_later s (Ran v row) back = omega arith

seen_none : (t : State) → (t ≡ Unseen → ⊥) → one_unseen t ≡ 0
seen_none Unseen seen = absurd (seen refl)
seen_none Open seen = refl
seen_none (Found v) seen = refl
seen_none (Ran v row) seen = refl

module _ (σ σ₁ : Scratch) (back : (j : ℕ) → state_of σ₁ j ≡ Unseen → state_of σ j ≡ Unseen) where
  pub unseen_fewer : (n : ℕ) → unseen n σ₁ ≤ unseen n σ
  unfolding unseen
  unseen_fewer zero = omega arith
  unseen_fewer (suc n) = omega (arith, unseen_fewer n, one_later (state_of σ n) (state_of σ₁ n) (back n))

  pub unseen_less : (n j : ℕ) → j < n → state_of σ j ≡ Unseen → (state_of σ₁ j ≡ Unseen → ⊥) → unseen n σ₁ < unseen n σ
  unfolding unseen
  unseen_less zero j h un seen = absurd (omega arith)
  unseen_less (suc n) j h un seen =
      ⊎_elim
      (λ e. omega (arith, unseen_fewer n, ap one_unseen (ap (state_of σ) (sym e) ∙ un), seen_none (state_of σ₁ n) (λ z. seen (ap (state_of σ₁) e ∙ z))))
      (λ other. omega (arith, unseen_less n j (omega arith) un seen, one_later (state_of σ n) (state_of σ₁ n) (back n)))
      (cases_eq j n)

pub unseen_some : (σ : Scratch) (n j : ℕ) → j < n → state_of σ j ≡ Unseen → 0 < unseen n σ
unfolding unseen
unseen_some σ zero j h un = absurd (omega arith)
unseen_some σ (suc n) j h un =
    ⊎_elim
    (λ e. omega (arith, ap one_unseen (ap (state_of σ) (sym e) ∙ un)))
    (λ other. omega (arith, unseen_some σ n j (omega arith) un))
    (cases_eq j n)

one_most : (t : State) → one_unseen t ≤ 1
one_most Unseen = omega arith
one_most Open = omega arith
one_most (Found v) = omega arith
one_most (Ran v row) = omega arith

pub unseen_most : (σ : Scratch) (n : ℕ) → unseen n σ ≤ n
unfolding unseen
unseen_most σ zero = omega arith
unseen_most σ (suc n) = omega (arith, unseen_most σ n, one_most (state_of σ n))
