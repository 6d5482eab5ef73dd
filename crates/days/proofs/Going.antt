-- Every command and every day has just one outcome. Assumes nothing.
use Rattle.std.proofs.Common.{◌≡◌, List, [], ◌∷◌, Some, None, Option, sym, refl, ap, subst, arith}
use Rattle.script.specs.declared.refusal.Refusal.{Refusal}
use Rattle.theory.specs.Reference.{built_of}
use Rattle.theory.proofs.Builds.{build_one}
use Rattle.theory.proofs.Reference.{reference_fits}
use Rattle.house.specs.Deeds.{Deed, bring, build, forget, give, write}
use Rattle.days.specs.Faults.{deed_fault}
use Rattle.days.specs.Goes.{Day, Goes, Told, brings, builds, built, fine, forgets, gives, next, over, refused, refuses, writes}
use Rattle.days.specs.House.{House, desk, with_store}

by_fault : (h : House) (d : Deed) (fault : Option Refusal) → deed_fault h d ≡ fault → (t : Told) × (g : House) × Goes h d t g
by_fault h d (Some f) e = (refused f, h, refuses e)
by_fault h (write x k v) None e = (fine, _, writes e)
by_fault h (give x k ls) None e = (fine, _, gives e)
by_fault h (build x k) None e =
    let b = built_of (desk h x) h.store h.room k in
    (built b.answer b.ran, with_store h b.store, builds e (reference_fits (desk h x) h.store k h.room))
by_fault h (forget i) None e = (fine, _, forgets e)
by_fault h (bring ls qs v) None e = (fine, _, brings e)

pub goes_total : (h : House) (d : Deed) → (t : Told) × (g : House) × Goes h d t g
goes_total h d = by_fault h d (deed_fault h d) refl

pub day_total : (h : House) (ds : List Deed) → (ts : List Told) × (l : House) × Day h ds ts l
day_total h [] = ([], h, over)
day_total h (d ∷ ds) =
    let first = goes_total h d in
    let rest = day_total first.1 ds in
    (first.0 ∷ rest.0, rest.1, next first.2 rest.2)

-- a command is refused or not, and for one reason
pub not_both : {o : Option Refusal} {f : Refusal} → o ≡ Some f → o ≡ None → ⊥
not_both {o} e n = grind arith

pub same_refusal : {o : Option Refusal} {f g : Refusal} → o ≡ Some f → o ≡ Some g → f ≡ g
same_refusal {o} e n = grind arith

pub goes_one : {h g g' : House} {d : Deed} {t t' : Told} → Goes h d t g → Goes h d t' g' → (t ≡ t') × (g ≡ g')
goes_one (refuses e) (refuses n) = (ap refused (same_refusal e n), refl)
goes_one (refuses e) (writes n) = absurd (not_both e n)
goes_one (refuses e) (gives n) = absurd (not_both e n)
goes_one (refuses e) (builds n b) = absurd (not_both e n)
goes_one (refuses e) (forgets n) = absurd (not_both e n)
goes_one (refuses e) (brings n) = absurd (not_both e n)
goes_one (writes n) (refuses e) = absurd (not_both e n)
goes_one (gives n) (refuses e) = absurd (not_both e n)
goes_one (builds n b) (refuses e) = absurd (not_both e n)
goes_one (forgets n) (refuses e) = absurd (not_both e n)
goes_one (brings n) (refuses e) = absurd (not_both e n)
goes_one (writes n) (writes m) = (refl, refl)
goes_one (gives n) (gives m) = (refl, refl)
goes_one {h} (builds n b) (builds m c) = let one = build_one b c in ((λ i. built (one.0 i) (one.1 i)), ap (with_store h) one.2)
goes_one (forgets n) (forgets m) = (refl, refl)
goes_one (brings n) (brings m) = (refl, refl)

pub day_one : {h l l' : House} {ds : List Deed} {ts ts' : List Told} → Day h ds ts l → Day h ds ts' l' → (ts ≡ ts') × (l ≡ l')
day_one over over = (refl, refl)
day_one {l' = l'} (next {ds = ds} a more) (next {ts = ts'} b more') =
    let first = goes_one a b in
    let rest = day_one more (subst (λ g. Day g ds ts' l') (sym first.1) more') in
    ((λ i. first.0 i ∷ rest.0 i), rest.1)

pub refused_same : {h g : House} {d : Deed} {f : Refusal} → Goes h d (refused f) g → g ≡ h
refused_same (refuses e) = refl
