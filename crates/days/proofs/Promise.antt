-- The promise over every day: at each moment the store is kept well, and each build answers as its desk would alone. Assumes nothing.
use Rattle.std.proofs.Common.{◌≡◌, ℕ, suc, ◌+◌, ◌<◌, ◌≤◌, cond, ltb, List, [], ◌∷◌, ◌++◌, length, get_or, Some, None, sym, refl, ap, ◌∙◌, subst, arith}
use Rattle.std.proofs.lemmas.List.{get_or_at, length-set}
use Rattle.std.proofs.lemmas.Bool.{cond-false, cond-true, le-ltb, lt-ltb}
use Rattle.script.specs.Allowed.{or_else}
use Rattle.script.specs.declared.refusal.Refusal.TheVariants.{ListTooShort, NoSuchItem, StoreTooShort}
use Rattle.entry.specs.Entry.{AllHonest}
use Rattle.store.specs.Rows.{entry_at}
use Rattle.theory.specs.Clean.{Out, clean}
use Rattle.theory.specs.Items.{Item}
use Rattle.house.specs.Deeds.{Deed, build}
use Rattle.days.specs.Faults.{deed_fault, list_fault, place_fault, store_fault}
use Rattle.days.specs.Goes.{Day, Goes, Told, brings, builds, built, fine, forgets, gives, next, over, refused, refuses, writes}
use Rattle.days.specs.House.{House, alone, desk}
use Rattle.days.specs.Laws.{KeptWell, RightBuild, answer_only}
use Rattle.days.proofs.Apart.{day_own}
use Rattle.days.proofs.Going.{not_both, same_refusal}
use Rattle.days.proofs.Kept.{goes_honest, goes_within}

-- what is lent of a house and how many desks it has
pub record SameSize (h g : House) : Type 0 where
  pub room : g.room ≡ h.room
  pub store_row : g.store_row ≡ h.store_row
  pub list_row : g.list_row ≡ h.list_row
  pub many : length g.desks ≡ length h.desks

goes_size : {h g : House} {d : Deed} {t : Told} → Goes h d t g → SameSize h g
goes_size (refuses e) = record { room = refl; store_row = refl; list_row = refl; many = refl }
goes_size {h} (writes {x = x} n) = record { room = refl; store_row = refl; list_row = refl; many = length-set h.desks x _ }
goes_size {h} (gives {x = x} n) = record { room = refl; store_row = refl; list_row = refl; many = length-set h.desks x _ }
goes_size (builds n b) = record { room = refl; store_row = refl; list_row = refl; many = refl }
goes_size (forgets n) = record { room = refl; store_row = refl; list_row = refl; many = refl }
goes_size (brings n) = record { room = refl; store_row = refl; list_row = refl; many = refl }

day_size : {h l : House} {ds : List Deed} {ts : List Told} → Day h ds ts l → SameSize h l
day_size over = record { room = refl; store_row = refl; list_row = refl; many = refl }
day_size (next first more) =
    let a = goes_size first in
    let b = day_size more in
    record { room = b.room ∙ a.room; store_row = b.store_row ∙ a.store_row; list_row = b.list_row ∙ a.list_row; many = b.many ∙ a.many }

-- what comes before a moment of the day, and what comes after
record Split (h : House) (ds es : List Deed) (ts : List Told) (l : House) : Type 0 where
  tolds : List Told
  later : List Told
  moment : House
  all : ts ≡ tolds ++ later
  many : length tolds ≡ length ds
  came : Day h ds tolds moment
  goes_on : Day moment es later l

split : (ds es : List Deed) {h l : House} {ts : List Told} → Day h (ds ++ es) ts l → Split h ds es ts l
split [] es {h} {ts = ts} day = record { tolds = []; later = ts; moment = h; all = refl; many = refl; came = over; goes_on = day }
split (d ∷ ds) es (next {t = t} first more) =
    let s = split ds es more in
    record {
      tolds = t ∷ s.tolds;
      later = s.later;
      moment = s.moment;
      all = ap (λ ts. t ∷ ts) s.all;
      many = ap suc s.many;
      came = next first s.came;
      goes_on = s.goes_on;
    }

day_honest : {h l : House} {ds : List Deed} {ts : List Told} → AllHonest h.store → Day h ds ts l → AllHonest l.store
day_honest honest over = honest
day_honest honest (next first more) = day_honest (goes_honest honest first) more

day_within : {h l : House} {ds : List Deed} {ts : List Told} → length h.store ≤ h.room → Day h ds ts l → length l.store ≤ l.room
day_within few over = few
day_within few (next first more) = day_within (goes_within few first).0 more

-- a store that holds no more than its room is refused only for its row
row_only : (h : House) → length h.store ≤ h.room → store_fault h ≡ cond (ltb h.store_row (entry_at h.room)) (Some (StoreTooShort h.store_row)) None
row_only h few = ap (λ f. cond (ltb h.store_row (entry_at h.room)) (Some (StoreTooShort h.store_row)) f) (cond-false _ _ _ (le-ltb h.room (length h.store) few))

module _ {start g : House} {x : ℕ} {d : List Item} (k : ℕ) (size : SameSize start g) (there : x < length start.desks) (items : desk g x ≡ d) (few : length g.store ≤ g.room) where
  -- a build at the desk is refused as it would be in a house of this one desk
  fault_alike : deed_fault g (build x k) ≡ deed_fault (alone start d) (build 0 k)
  fault_alike =
      let place : place_fault g x k ≡ place_fault (alone start d) 0 k =
      cond-true _ _ _ (lt-ltb x (length g.desks) (omega (arith, size.many)))
      ∙ ap (λ e. cond (ltb k (length e)) None (Some (NoSuchItem k))) items in
      let store : store_fault g ≡ store_fault (alone start d) =
      row_only g few
      ∙ (λ i. cond (ltb (size.store_row i) (entry_at (size.room i))) (Some (StoreTooShort (size.store_row i))) None)
      ∙ sym (row_only (alone start d) (omega arith)) in
      let list : list_fault g x ≡ list_fault (alone start d) 0 =
      (λ i. cond (ltb (size.list_row i) (length (items i) + 1)) (Some (ListTooShort (size.list_row i))) None) in
      (λ i. or_else (place i) (or_else (store i) (list i)))

  pub as_alone : {t t' : Told} {l l' : House} → Goes g (build x k) t l → Goes (alone start d) (build 0 k) t' l' → answer_only t ≡ answer_only t'
  as_alone (refuses e) (refuses n) = ap refused (same_refusal e (fault_alike ∙ n))
  as_alone (refuses e) (builds n b) = absurd (not_both e (fault_alike ∙ n))
  as_alone (builds n b) (refuses e) = absurd (not_both (fault_alike ∙ e) n)
  as_alone (builds n b) (builds m c) = ap (λ o. built o []) (b.answer ∙ ap (λ e. clean e k) items ∙ sym c.answer)

-- an empty store is honest, and has room
pub none_honest : (h : House) → h.store ≡ [] → AllHonest h.store
unfolding AllHonest
none_honest h none = λ i inside. absurd (omega (arith, ap length none))

none_fits : (h : House) → h.store ≡ [] → length h.store ≤ h.room
none_fits h none = omega (arith, ap length none)

module _ {start l : House} {ts : List Told} (none : start.store ≡ []) where
  pub kept_well : (before after : List Deed) → Day start (before ++ after) ts l → KeptWell start before
  kept_well before after day =
      let s = split before after day in
      record {
        tolds = s.tolds;
        moment = s.moment;
        came = s.came;
        honest = day_honest (none_honest start none) s.came;
        within = subst (λ r. length s.moment.store ≤ r) (day_size s.came).room (day_within (none_fits start none) s.came);
      }

  right_build : (before after : List Deed) (x k : ℕ) {tolds later : List Told} {moment : House} → ts ≡ tolds ++ later → length tolds ≡ length before → Day start before tolds moment → Day moment (build x k ∷ after) later l → RightBuild start before x k (get_or ts (length before) fine)
  right_build before after x k {tolds} {moment = moment} all many came (next {g = g} {t = t} {ts = later} first more) =
      let this : t ≡ get_or ts (length before) fine = sym (ap (λ us. get_or us (length before) fine) all ∙ get_or_at tolds t later fine (length before) many) in
      let within = day_within (none_fits start none) came in
      subst (RightBuild start before x k) this (record {
        tolds = tolds;
        moment = moment;
        after = g;
        came = came;
        honest = day_honest (none_honest start none) came;
        within = within;
        items = day_own x came;
        goes = first;
        as_alone = λ there t' g' other. as_alone k (day_size came) there (day_own x came) within first other;
      })

  pub never_stale : (before after : List Deed) (x k : ℕ) → Day start (before ++ build x k ∷ after) ts l → RightBuild start before x k (get_or ts (length before) fine)
  never_stale before after x k day = let s = split before (build x k ∷ after) day in right_build before after x k s.all s.many s.came s.goes_on

-- two builds of desks that hold the same
pub same_answer : {g g' l l' : House} {x k : ℕ} {o o' : Out} {ran ran' : List ℕ} → desk g x ≡ desk g' x → Goes g (build x k) (built o ran) l → Goes g' (build x k) (built o' ran') l' → o ≡ o'
same_answer {k = k} same (builds n b) (builds m c) = b.answer ∙ ap (λ d. clean d k) same ∙ sym c.answer
