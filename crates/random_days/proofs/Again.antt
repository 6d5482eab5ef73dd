-- A build that did not keep all that it ran is not made once more. Assumes nothing.
use Rattle.std.proofs.Common.{◌≢◌, ℕ, List, refl}
use Rattle.house.specs.Deeds.{Deed}
use Rattle.house.specs.declared.perform.Told.{Told}
use Rattle.house.specs.declared.perform.Told.TheVariants.{Done, Refused, Ring, Value}
use Rattle.house.specs.declared.size.HouseSize.{HouseSize}
use Rattle.random_days.specs.Lists.{due_of}
use Rattle.random_days.specs.Performed.{AfterSo}
use Rattle.store.specs.Rows.{count_of}

-- where the rows stay, and not all was kept
pub once : (z : HouseSize) (deed : Deed) (told : Told) (rows desks₁ rows₁ ran₁ : List ℕ) → count_of rows₁ ≢ due_of rows ran₁ → AfterSo z deed told rows desks₁ rows₁ ran₁ desks₁ rows₁ ran₁
once z deed (Refused f) rows desks₁ rows₁ ran₁ other = (refl, refl, refl)
once z deed Done rows desks₁ rows₁ ran₁ other = (refl, refl, refl)
once z deed (Value v) rows desks₁ rows₁ ran₁ other = (λ all. absurd (other all), λ _. (refl, refl, refl))
once z deed Ring rows desks₁ rows₁ ran₁ other = (λ all. absurd (other all), λ _. (refl, refl, refl))
