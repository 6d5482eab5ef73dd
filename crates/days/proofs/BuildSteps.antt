-- A build that is performed in the rows goes as it goes in the house. Assumes nothing.
use Rattle.std.proofs.Common.{◌≡◌, ℕ, ◌+◌, ◌<◌, ◌≤◌, Bool, true, false, cond, ltb, List, [], ◌∷◌, length, drop, Some, None, Option, sym, refl, ap, ◌∙◌, subst, ⊎_elim, arith}
use Rattle.std.proofs.lemmas.List.{length-append, length-drop, take_at}
use Rattle.std.proofs.lemmas.Bool.{cases_lt, cond-false, cond-true, le-ltb, lt-ltb}
use Rattle.std.proofs.lemmas.Bool.Decides.{nat_tests}
use Rattle.script.specs.Allowed.{or_else}
use Rattle.script.specs.declared.refusal.Refusal.{Refusal}
use Rattle.script.specs.declared.refusal.Refusal.TheVariants.{ListTooShort, NoSuchDesk, NoSuchItem}
use Rattle.entry.specs.Entry.{AllHonest}
use Rattle.store.specs.Faults as in_store
use Rattle.store.specs.Rows.{entries_in, room_of}
use Rattle.store.proofs.Grows.{second_none}
use Rattle.theory.specs.Build.{Built, In, Rising, here, more, there}
use Rattle.theory.specs.Clean.{Out, ring, value}
use Rattle.build.specs.Build.{ByFault, WentSo, says}
use Rattle.build.specs.Faults as at_desk
use Rattle.build.specs.Leaves.{told}
use Rattle.house.specs.Deeds.{build}
use Rattle.house.specs.Desks.{desk_in, desk_part}
use Rattle.house.specs.Performed.{DeskBuilt, told_of}
use Rattle.house.specs.declared.perform.Told as perform
use Rattle.house.specs.declared.size.HouseSize.{HouseSize}
use Rattle.build.specs.declared.building.Answer.{Answer}
use Rattle.days.specs.Faults.{deed_fault, list_fault, place_fault, store_fault}
use Rattle.days.specs.Goes.{Goes, builds, built, refuses}
use Rattle.days.specs.House.{desk}
use Rattle.days.specs.Rows.{Shaped, desks_in, house_of, list_in, told_in}
use Rattle.days.proofs.Alike.{desks_many, no_desk, store_alike}
use Rattle.days.proofs.Shape.{desk_here, desk_there}
use Rattle.days.proofs.Steps.{Stepped, restocked}

-- a rising list of numbers below n, of which the first is j, has room between j and n
rising_room : (n j : ℕ) (ks : List ℕ) → Rising (j ∷ ks) → ((i : ℕ) → In i (j ∷ ks) → i < n) → j + length (j ∷ ks) ≤ n
rising_room n j [] up below = omega (arith, below j here)
rising_room n j (k ∷ ks) (more less up) below = let rest = rising_room n k ks up (λ i at. below i (there at)) in omega arith

rising_short : (n : ℕ) (ks : List ℕ) → Rising ks → ((i : ℕ) → In i ks → i < n) → length ks ≤ n
rising_short n [] up below = omega arith
rising_short n (k ∷ ks) up below = omega (arith, rising_room n k ks up below)

-- the list that was told is read back, and its row is as long as before
list_back : (ran list : List ℕ) → list_in (told ran list) ≡ list
list_back ran list = take_at list _ (length list) refl

length_told : (ran list : List ℕ) → length list < length ran → length (told ran list) ≡ length ran
length_told ran list room = omega (arith, length-append list (drop (1 + length list) ran), length-drop (1 + length list) ran)

told_build : (o : Out) (list ran : List ℕ) → list_in ran ≡ list → told_in (told_of (says o)) ran ≡ built o list
told_build (value v) list ran is = ap (built (value v)) is
told_build ring list ran is = ap (built ring) is

-- a promise by a test whose outcome is known
at_true : (A B : Type 0) {b : Bool} → b ≡ true → cond b A B → A
at_true A B e p = subst (λ t. cond t A B) e p

at_false : (A B : Type 0) {b : Bool} → b ≡ false → cond b A B → B
at_false A B e p = subst (λ t. cond t A B) e p

module _ (z : HouseSize) (desks rows ran : List ℕ) (shaped : Shaped z desks) (x k : ℕ) where
  module _ (inside : x < z.desks) where
    here_is : desk (house_of z desks rows ran) x ≡ desk_in z desks x
    here_is = desk_here z desks shaped x inside

    build_alike : at_desk.build_fault (desk_part z desks x) rows ran k ≡ deed_fault (house_of z desks rows ran) (build x k)
    build_alike =
        let place : at_desk.item_fault (length (desk_in z desks x)) k ≡ place_fault (house_of z desks rows ran) x k =
        ap (λ d. cond (ltb k (length d)) None (Some (NoSuchItem k))) (sym here_is)
        ∙ sym (cond-true _ _ _ (lt-ltb x (length (desks_in z desks)) (omega (arith, desks_many z desks)))) in
        let list : at_desk.list_fault (length (desk_in z desks x)) ran ≡ list_fault (house_of z desks rows ran) x =
        ap (λ d. cond (ltb (length ran) (length d + 1)) (Some (ListTooShort (length ran))) None) (sym here_is) in
        (λ i. or_else (place i) (or_else (store_alike z desks rows ran i) (list i)))

    went : {r : perform.Told} {a : Answer} {rows₁ ran₁ : List ℕ} → AllHonest (entries_in rows) → at_desk.build_fault (desk_part z desks x) rows ran k ≡ None → r ≡ told_of a → WentSo (desk_part z desks x) rows ran k a rows₁ ran₁ → Goes (house_of z desks rows ran) (build x k) (told_in r ran₁) (house_of z desks rows₁ ran₁)
    went {r} {a} {rows₁} {ran₁} honest fine tells_it w =
        let fits : length (desk_in z desks x) < length ran = let n = length (desk_in z desks x) in
        let last = second_none (in_store.store_fault rows) (at_desk.list_fault n ran) (second_none (at_desk.item_fault n k) _ fine) in grind (arith, nat_tests) in
        let short = rising_short (length (desk_in z desks x)) w.list w.listed.rising w.listed.below in
        let same : length ran₁ ≡ length ran = ap length w.listed.row ∙ length_told ran w.list (omega arith) in
        let says_it : told_in r ran₁ ≡ built w.out w.list =
        ap (λ t. told_in t ran₁) (tells_it ∙ ap told_of w.said) ∙ told_build w.out w.list ran₁ (ap list_in w.listed.row ∙ list_back ran w.list) in
        let goes = builds (sym build_alike ∙ fine) (subst (λ d. Built d (entries_in rows) (room_of rows) k w.out w.list (entries_in rows₁)) (sym here_is) (w.built honest)) in
        subst (λ t. Goes (house_of z desks rows ran) (build x k) t (house_of z desks rows₁ ran₁)) (sym says_it)
        (subst (Goes (house_of z desks rows ran) (build x k) (built w.out w.list)) (restocked z desks rows ran shaped rows₁ ran₁ _ refl w.stored.long w.stored.room same) goes)

    by_fault : {r : perform.Told} (a : Answer) (rows₁ ran₁ : List ℕ) (fault : Option Refusal) → at_desk.build_fault (desk_part z desks x) rows ran k ≡ fault → AllHonest (entries_in rows) → r ≡ told_of a → ByFault fault (desk_part z desks x) rows ran k a rows₁ ran₁ → Goes (house_of z desks rows ran) (build x k) (told_in r ran₁) (house_of z desks rows₁ ran₁)
    by_fault a rows₁ ran₁ None e honest tells_it w = went honest e tells_it w
    by_fault a rows₁ ran₁ (Some f) e honest tells_it w = rw (tells_it, w.0, w.1, w.2) (refuses (sym build_alike ∙ e))

  no_place : z.desks ≤ x → deed_fault (house_of z desks rows ran) (build x k) ≡ Some (NoSuchDesk x)
  no_place past = ap (λ f. or_else f (or_else (store_fault (house_of z desks rows ran)) (list_fault (house_of z desks rows ran) x))) (cond-false _ _ _ (le-ltb x (length (desks_in z desks)) (omega (arith, desks_many z desks))))

  -- a build at a desk that is there, or is not
  pub build_goes : {r : perform.Told} {desks₁ rows₁ ran₁ : List ℕ} → AllHonest (entries_in rows) → DeskBuilt z x k desks rows ran r desks₁ rows₁ ran₁ → Stepped z (build x k) desks rows ran r desks₁ rows₁ ran₁
  build_goes {rows₁ = rows₁} {ran₁} honest c =
      rw c.at_desks (record {
        goes =
            ⊎_elim
            (λ inside. by_fault inside c.answer rows₁ ran₁ _ refl honest c.tells (at_true _ _ (desk_there z desks shaped x inside) c.built))
            (λ past.
            let w = at_false _ _ (no_desk z desks rows ran shaped x past) c.built in
            rw (c.tells, w.0, w.1, w.2) (refuses (no_place past)))
            (cases_lt x z.desks);
        shape = shaped;
      })
