-- Laws of a build over a store: it is one, it leaves a good store, and built again it runs little. Assumes nothing.
use Rattle.std.proofs.Common.{◌≡◌, ℕ, ◌+◌, ◌-◌, ◌≤◌, List, [], ◌∷◌, ◌++◌, length, take, set, sym, refl, ap, ◌∙◌, subst, ⊎_elim, arith}
use Rattle.std.specs.List.{AllByRecursion}
use Rattle.std.proofs.ByRecursion.{All-append, All-from_get_or, All-get_or, All-take}
use Rattle.std.proofs.lemmas.List.{length-append, length-take}
use Rattle.std.proofs.lemmas.Bool.{cases_eq}
use Rattle.script.specs.Rule.{Value}
use Rattle.entry.specs.Entry.{AllHonest, Entry, Honest, no_entry}
use Rattle.theory.specs.Build.{Built, EachLeft, In, here}
use Rattle.theory.specs.Clean.{Makes, Out, Reached, itself}
use Rattle.theory.specs.Items.{Item}
use Rattle.theory.proofs.Edits.{edit_elsewhere, makes_same, reached_same, saved_same}
use Rattle.theory.proofs.Left.{each_left_honest, each_left_unique}
use Rattle.theory.proofs.Rising.{rising_unique}
use Rattle.theory.proofs.Saved.{built_saves}

pub build_one : {d : List Item} {es : List Entry} {room k : ℕ} {o o' : Out} {ran ran' : List ℕ} {fs fs' : List Entry} → Built d es room k o ran fs → Built d es room k o' ran' fs' → (o ≡ o') × (ran ≡ ran') × (fs ≡ fs')
build_one {d} {es} {room} {ran = ran} {ran' = ran'} b c =
    let same = rising_unique ran ran' b.rising c.rising (λ j i. c.due_all j (b.all_due j i)) (λ j i. b.due_all j (c.all_due j i)) in
    let new = each_left_unique b.left (subst (λ js. EachLeft d js c.new) (sym same) c.left) in
    (b.answer ∙ sym c.answer, same, b.store ∙ ap (λ x. es ++ take (room - length es) x) new ∙ sym c.store)

module _ {d : List Item} {es fs : List Entry} {room k : ℕ} {o : Out} {ran : List ℕ} (b : Built d es room k o ran fs) where
  pub build_honest : AllHonest es → AllHonest fs
  unfolding AllHonest
  build_honest old =
      let kept = All-append Honest es (take (room - length es) b.new) (All-from_get_or Honest es no_entry old) (All-take Honest (room - length es) b.new (each_left_honest b.left)) in
      λ i h. All-get_or Honest fs i no_entry h (subst (λ x. AllByRecursion Honest x) (sym b.store) kept)

  pub build_within : length es ≤ room → length fs ≤ room
  build_within h = omega (arith, ap length b.store, length-append es (take (room - length es) b.new), length-take (room - length es) b.new)

  module _ (room_for_all : length es + length ran ≤ room) where
    -- nothing is due any more
    pub second_none : {ran' : List ℕ} {gs : List Entry} {o' : Out} → Built d fs room k o' ran' gs → ran' ≡ []
    second_none {ran' = []} c = refl
    second_none {ran' = j ∷ js} c = let due = c.all_due j here in absurd (built_saves b room_for_all due.looked due.is_made due.has due.unsaved)

    -- after an edit that leaves the value, only what is looked at from the edited item can be due
    pub cut_short : (i : Item) (m : ℕ) (v : Value) → Makes d m v → Makes (set d m i) m v → {o' : Out} {ran' : List ℕ} {gs : List Entry} {j : ℕ} → Built (set d m i) fs room k o' ran' gs → In j ran' → Reached (set d m i) m j
    cut_short i m v old new {j = j} c member =
        let due = c.all_due j member in
        let back : (x : ℕ) → (x ≡ m → ⊥) → _ = λ x other. sym (edit_elsewhere d i m x other) in
        ⊎_elim
        (λ at_m. subst (λ x. Reached (set d m i) m x) (sym at_m) itself)
        (λ other.
        ⊎_elim
        (λ below. below)
        (λ looked.
        absurd
        (built_saves b room_for_all looked
        (back j other ∙ due.is_made)
        (makes_same m v new old back due.has)
        (λ saved. due.unsaved (saved_same m v old new (edit_elsewhere d i m) other saved))))
        (reached_same m v new old back due.looked))
        (cases_eq j m)
