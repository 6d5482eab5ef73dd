-- Days in rows: one command more at the end, and the day of the house that stands in the rows. Assumes nothing.
use Rattle.std.proofs.Common.{◌≡◌, ℕ, ◌+◌, ◌<◌, true, List, [], ◌∷◌, ◌++◌, map, length, get_or, take, is_err, Ok, Err, Result, Vec, sym, ap, ◌∙◌, subst, arith}
use Rattle.std.specs.declared.alloc.AllocError.{AllocError}
use Rattle.std.specs.declared.alloc.Global.{Global}
use Rattle.std.proofs.lemmas.List.{map_more, take-map}
use Rattle.entry.specs.Entry.{AllHonest}
use Rattle.store.specs.Rows.{entries_in}
use Rattle.house.specs.Deeds.{Deed, bring, build, deed_of, forget, give, write}
use Rattle.house.specs.Performed.{PerformedSo}
use Rattle.house.specs.declared.command.Command.{Command}
use Rattle.house.specs.declared.perform.Told as perform
use Rattle.house.specs.declared.size.HouseSize.{HouseSize}
use Rattle.days.specs.Goes.{Day, Told, next, over}
use Rattle.days.specs.Outcomes.{Listed, PerformedAll}
use Rattle.days.specs.Rows as rows
use Rattle.days.specs.Rows.{RowDay, Shaped, house_of, told_in}
use Rattle.days.specs.declared.outcome.Outcome.{Outcome}
use Rattle.days.proofs.BuildSteps.{build_goes}
use Rattle.days.proofs.Kept.{goes_honest}
use Rattle.days.proofs.Steps.{Stepped, bring_goes, forget_goes, give_goes, write_goes}

module _ {z : HouseSize} where
  pub one_more : {desks store ran desks₁ store₁ ran₁ desks₂ store₂ ran₂ : List ℕ} {ds : List Deed} {ts : List Told} (d : Deed) (r : perform.Told) → RowDay z desks store ran ds ts desks₁ store₁ ran₁ → PerformedSo z d desks₁ store₁ ran₁ r desks₂ store₂ ran₂ → RowDay z desks store ran (ds ++ d ∷ []) (ts ++ told_in r ran₂ ∷ []) desks₂ store₂ ran₂
  one_more d r rows.over last = rows.next r last rows.over
  one_more d r (rows.next s first more) last = rows.next s first (one_more d r more last)

  stepped : (d : Deed) {desks store ran desks₁ store₁ ran₁ : List ℕ} {r : perform.Told} → Shaped z desks → AllHonest (entries_in store) → PerformedSo z d desks store ran r desks₁ store₁ ran₁ → Stepped z d desks store ran r desks₁ store₁ ran₁
  stepped (write x k v) {desks} {store} {ran} shaped honest c = write_goes z desks store ran shaped x k v c
  stepped (give x k ls) {desks} {store} {ran} shaped honest c = give_goes z desks store ran shaped x k ls c
  stepped (build x k) {desks} {store} {ran} shaped honest c = build_goes z desks store ran shaped x k honest c
  stepped (forget i) {desks} {store} {ran} shaped honest c = forget_goes z desks store ran shaped i c
  stepped (bring ls qs v) {desks} {store} {ran} shaped honest c = bring_goes z desks store ran shaped ls qs v c

  day_of : {desks store ran desks₁ store₁ ran₁ : List ℕ} {ds : List Deed} {ts : List Told} → RowDay z desks store ran ds ts desks₁ store₁ ran₁ → Shaped z desks → AllHonest (entries_in store) → Day (house_of z desks store ran) ds ts (house_of z desks₁ store₁ ran₁) × Shaped z desks₁
  day_of rows.over shaped honest = (over, shaped)
  day_of (rows.next {d = d} r first more) shaped honest =
      let step = stepped d shaped honest first in
      let rest = day_of more step.shape (goes_honest honest step.goes) in
      (next step.goes rest.0, rest.1)

  pub performed : {desks store ran desks₁ store₁ ran₁ : List ℕ} {ds : List Deed} {ts : List Told} → RowDay z desks store ran ds ts desks₁ store₁ ran₁ → PerformedAll z ds desks store ran ts desks₁ store₁ ran₁
  performed day = record { in_rows = day; day = day_of day }

  module _ {desks store ran : List ℕ} where
    -- the next command of the list
    pub later : (commands : List Command) (i : ℕ) (x : Command) (r : perform.Told) {ts : List Told} {desks₁ store₁ ran₁ desks₂ store₂ ran₂ : List ℕ} → i < length commands → x ≡ get_or commands i x → RowDay z desks store ran (map deed_of (take i commands)) ts desks₁ store₁ ran₁ → PerformedSo z (deed_of x) desks₁ store₁ ran₁ r desks₂ store₂ ran₂ → RowDay z desks store ran (map deed_of (take (i + 1) commands)) (ts ++ told_in r ran₂ ∷ []) desks₂ store₂ ran₂
    later commands i x r {ts} {desks₂ = desks₂} {store₂} {ran₂} inside here so_far last =
        let more : map deed_of (take i commands) ++ deed_of x ∷ [] ≡ map deed_of (take (i + 1) commands) =
        ap (λ y. map deed_of (take i commands) ++ deed_of y ∷ []) here ∙ sym (map_more deed_of commands i x inside) in
        subst (λ ds. RowDay z desks store ran ds (ts ++ told_in r ran₂ ∷ []) desks₂ store₂ ran₂) more (one_more (deed_of x) r so_far last)

    -- memory was short after the first i commands
    pub stopped : (commands : List Command) (i : ℕ) (r : Result (Vec Outcome Global) AllocError) {ts : List Told} {desks₁ store₁ ran₁ : List ℕ} → is_err r ≡ true → RowDay z desks store ran (map deed_of (take i commands)) ts desks₁ store₁ ran₁ → Listed z (map deed_of commands) desks store ran r desks₁ store₁ ran₁
    stopped commands i (Ok outcomes) e day = absurd (grind arith)
    stopped commands i (Err error) {ts} {desks₁} {store₁} {ran₁} e day =
        (i, ts, performed (subst (λ ds. RowDay z desks store ran ds ts desks₁ store₁ ran₁) (sym (take-map deed_of i commands)) day))
