-- A desk holds what its own edits left. Assumes nothing.
use Rattle.std.proofs.Common.{◌≡◌, ℕ, ◌≤◌, ◌⊎◌, List, [], map, length, get_or, set, Some, None, Option, sym, refl, ap, ◌∙◌, inl, inr, ⊎_elim, arith}
use Rattle.std.proofs.lemmas.List.{get_or_past, get_or-set_other, get_or-set_same, set_past}
use Rattle.std.proofs.lemmas.Bool.{cases_eq, cases_lt, cond-false, cond-true, eq-eqb, ne_eqb}
use Rattle.std.proofs.lemmas.Bool.Decides.{nat_tests}
use Rattle.script.specs.Allowed.{counted_as, or_else, script_fault}
use Rattle.script.specs.declared.refusal.Refusal.{Refusal}
use Rattle.store.proofs.Grows.{second_none}
use Rattle.theory.specs.Items.{Item, made, written}
use Rattle.house.specs.Deeds.{Deed, bring, build, forget, give, write}
use Rattle.days.specs.Faults.{deed_fault, place_fault}
use Rattle.days.specs.Goes.{Day, Goes, Told, brings, builds, forgets, gives, next, over, refuses, writes}
use Rattle.days.specs.House.{House, desk, edited}
use Rattle.days.specs.Own.{own, own_after, own_edit}

-- a desk that is not there has no item to set
no_desk : (h : House) (x k : ℕ) (i : Item) → length h.desks ≤ x → set (desk h x) k i ≡ desk h x
no_desk h x k i past = set_past (desk h x) k i (omega (arith, ap length (get_or_past h.desks x [] past)))

-- what desk y comes to is what is made of it there, and other desks stay
seen_from : (h : House) (x y k : ℕ) (i : Item) (d : List Item) → (x ≡ y → d ≡ set (desk h y) k i) → ((x ≡ y → ⊥) → d ≡ desk h x) → d ≡ own_edit x y k None i (desk h x)
seen_from h x y k i d here elsewhere =
    ⊎_elim
    (λ same. here same ∙ ap (λ z. set (desk h z) k i) (sym same) ∙ sym (cond-true _ _ _ (eq-eqb x y same)))
    (λ other. elsewhere other ∙ sym (cond-false _ _ _ (ne_eqb x y other)))
    (cases_eq x y)

-- an edit shows at its own desk, and at no other
edit_shows : (h : House) (x y k : ℕ) (i : Item) → desk (edited h y k i) x ≡ own_edit x y k None i (desk h x)
edit_shows h x y k i =
    seen_from h x y k i _
    (λ same.
    ap (desk (edited h y k i)) same
    ∙ ⊎_elim
    (λ there. get_or-set_same h.desks y _ [] there)
    (λ past. ap (λ ds. get_or ds y []) (set_past h.desks y _ past) ∙ sym (no_desk h y k i past))
    (cases_lt y (length h.desks)))
    (λ other. get_or-set_other h.desks y x _ [] other)

-- an edit of an item that is not there sets nothing
edit_none : (h : House) (x y k : ℕ) (i : Item) (f : Refusal) → place_fault h y k ≡ Some f → desk h x ≡ own_edit x y k None i (desk h x)
edit_none h x y k i f e =
    let missing : (length h.desks ≤ y) ⊎ (length (desk h y) ≤ k) = grind (arith, nat_tests) in
    seen_from h x y k i _
    (λ same. ap (desk h) same ∙ sym (⊎_elim (no_desk h y k i) (set_past (desk h y) k i) missing))
    (λ other. refl)

-- of two checks one of which fails, the first that fails, or it passes and the second fails
which : (a b : Option Refusal) (f : Refusal) → or_else a b ≡ Some f → (a ≡ Some f) ⊎ (b ≡ Some f)
which a b f e = grind arith

-- a script that is not allowed changes nothing, at any desk
script_none : (h : House) (x y k : ℕ) (i : Item) (fault : Option Refusal) (f : Refusal) → (place_fault h y k ≡ Some f) ⊎ (fault ≡ Some f) → desk h x ≡ own_edit x y k fault i (desk h x)
script_none h x y k i None f (inl e) = edit_none h x y k i f e
script_none h x y k i None f (inr e) = absurd (grind arith)
script_none h x y k i (Some g) f e = refl

-- a script that is allowed
allowed : (x y k : ℕ) (i : Item) (d : List Item) (fault : Option Refusal) → fault ≡ None → own_edit x y k None i d ≡ own_edit x y k fault i d
allowed x y k i d None e = refl
allowed x y k i d (Some f) e = absurd (grind arith)

after_refusal : (h : House) (x : ℕ) (d : Deed) (f : Refusal) → deed_fault h d ≡ Some f → desk h x ≡ own_after x d (desk h x)
after_refusal h x (write y k v) f e = edit_none h x y k (written v) f e
after_refusal h x (give y k ls) f e = script_none h x y k (made (map counted_as ls)) (script_fault ls) f (which (place_fault h y k) (script_fault ls) f e)
after_refusal h x (build y k) f e = refl
after_refusal h x (forget i) f e = refl
after_refusal h x (bring ls qs v) f e = refl

pub goes_own : {h g : House} {d : Deed} {t : Told} (x : ℕ) → Goes h d t g → desk g x ≡ own_after x d (desk h x)
goes_own {h} {d = d} x (refuses {f = f} e) = after_refusal h x d f e
goes_own {h} x (writes {x = y} {k} {v} n) = edit_shows h x y k (written v)
goes_own {h} x (gives {x = y} {k} {ls} n) = edit_shows h x y k _ ∙ allowed x y k _ (desk h x) (script_fault ls) (second_none (place_fault h y k) (script_fault ls) n)
goes_own x (builds n b) = refl
goes_own x (forgets n) = refl
goes_own x (brings n) = refl

-- at every moment a desk holds what its own edits left
pub day_own : {h l : House} {ds : List Deed} {ts : List Told} (x : ℕ) → Day h ds ts l → desk l x ≡ own x ds (desk h x)
unfolding own
day_own x over = refl
day_own x (next {ds = ds} first more) = day_own x more ∙ ap (own x ds) (goes_own x first)
