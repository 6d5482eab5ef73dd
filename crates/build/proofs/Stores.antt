-- What entries one after the other do to a store's row. Assumes nothing.
use Rattle.std.proofs.Common.{◌≡◌, ℕ, zero, suc, ◌+◌, ◌-◌, ◌*◌, ◌<◌, ◌≤◌, min, List, [], ◌∷◌, ◌++◌, length, take, drop, sym, refl, ap, ◌∙◌, ⊎_elim, arith}
use Rattle.std.specs.List.{AllByRecursion}
use Rattle.std.proofs.ByRecursion.{All-take}
use Rattle.std.proofs.lemmas.List.{append_assoc, append-nil, length-take, take-take}
use Rattle.std.proofs.lemmas.Bool.{cases_lt, le-ltb, lt-ltb}
use Rattle.entry.specs.Entry.{Entry}
use Rattle.entry.specs.Layout.{entry_size}
use Rattle.entry.specs.Rows.{Fitting}
use Rattle.store.specs.Rows.{added, count_of, entries_in, entry_at, room_of}
use Rattle.build.specs.Build.{Stored, old_part}
use Rattle.build.specs.Leaves.{added_all, kept_all, kept_one}
use Rattle.build.proofs.Added.{count_added, entries_added, length_added, old_added, past_added, room_added}

-- a store whose row is long enough, with no more entries than room
pub record Fine (rows : List ℕ) : Type 0 where
  pub long : entry_at (room_of rows) ≤ length rows
  pub within : count_of rows ≤ room_of rows

-- rows₁ is rows with these entries behind its own
record More (rows : List ℕ) (es : List Entry) (rows₁ : List ℕ) : Type 0 where
  pub long : length rows₁ ≡ length rows
  pub count : count_of rows₁ ≡ count_of rows + length es
  pub room : room_of rows₁ ≡ room_of rows
  pub old : old_part (count_of rows) rows₁ ≡ old_part (count_of rows) rows
  pub past : (m : ℕ) → entry_at (count_of rows + length es) ≤ m → drop m rows₁ ≡ drop m rows
  pub entries : entries_in rows₁ ≡ entries_in rows ++ es

added_fine : (rows : List ℕ) (e : Entry) → Fitting e → Fine rows → count_of rows < room_of rows → Fine (added rows e)
added_fine rows e fits fine free =
    let long : entry_at (count_of rows + 1) ≤ length rows = omega (arith, fine.long) in
    let count = count_added rows e fits long in
    let room = room_added rows e fits long in
    record { long = omega (arith, fine.long, length_added rows e fits long); within = omega arith }

more_all : (rows : List ℕ) (es : List Entry) → AllByRecursion Fitting es → Fine rows → count_of rows + length es ≤ room_of rows → More rows es (added_all rows es)
unfolding added_all
more_all rows [] fits fine enough = record {
  long = refl;
  count = omega arith;
  room = refl;
  old = refl;
  past = λ m h. refl;
  entries = sym (append-nil (entries_in rows));
}
more_all rows (e ∷ es) fits fine enough =
    let long : entry_at (count_of rows + 1) ≤ length rows = omega (arith, fine.long) in
    let count = count_added rows e fits.0 long in
    let room = room_added rows e fits.0 long in
    let rest = more_all (added rows e) es fits.1 (added_fine rows e fits.0 fine (omega arith)) (omega arith) in
    let n = count_of rows in
    let shorter : (xs : List ℕ) → take (1 + entry_size * n) (old_part (count_of (added rows e)) xs) ≡ old_part n xs
    = λ xs. take-take (1 + entry_size * n) (1 + entry_size * count_of (added rows e)) (drop 1 xs) (omega arith) in
    record {
      long = rest.long ∙ length_added rows e fits.0 long;
      count = omega (arith, rest.count);
      room = rest.room ∙ room;
      old = sym (shorter (added_all (added rows e) es)) ∙ ap (take (1 + entry_size * n)) rest.old ∙ shorter (added rows e) ∙ old_added rows e fits.0 long;
      past = λ m h. rest.past m (omega arith) ∙ past_added rows e fits.0 long m (omega arith);
      entries = rest.entries ∙ ap (λ xs. xs ++ es) (entries_added rows e fits.0 long) ∙ append_assoc (entries_in rows) (e ∷ []) es;
    }

-- where there is room an entry is added, and else not
kept_free : (rows : List ℕ) (e : Entry) → Fine rows → count_of rows < room_of rows → kept_one rows e ≡ added rows e
kept_free rows e fine free =
    let some = lt-ltb (count_of rows) (room_of rows) free in
    let long = le-ltb (length rows) (entry_at (room_of rows)) fine.long in
    let within = le-ltb (room_of rows) (count_of rows) fine.within in
    rw (some, long, within) refl

kept_full : (rows : List ℕ) (e : Entry) → room_of rows ≤ count_of rows → kept_one rows e ≡ rows
kept_full rows e full = let none = le-ltb (count_of rows) (room_of rows) full in rw none refl

take_none : {A : Type 0} (m : ℕ) → take {A = A} m [] ≡ []
take_none zero = refl
take_none (suc m) = refl

kept_added : (rows : List ℕ) (es : List Entry) → AllByRecursion Fitting es → Fine rows → kept_all rows es ≡ added_all rows (take (room_of rows - count_of rows) es)
unfolding kept_all added_all
kept_added rows [] fits fine = ap (added_all rows) (sym (take_none (room_of rows - count_of rows)))
kept_added rows (e ∷ es) fits fine =
    ⊎_elim
    (λ free.
    let long : entry_at (count_of rows + 1) ≤ length rows = omega (arith, fine.long) in
    let count = count_added rows e fits.0 long in
    let room = room_added rows e fits.0 long in
    let less : room_of rows - count_of rows ≡ suc (room_of (added rows e) - count_of (added rows e)) = omega arith in
    ap (λ xs. kept_all xs es) (kept_free rows e fine free)
    ∙ kept_added (added rows e) es fits.1 (added_fine rows e fits.0 fine free)
    ∙ ap (λ m. added_all rows (take m (e ∷ es))) (sym less))
    (λ full.
    let none : room_of rows - count_of rows ≡ 0 = omega arith in
    ap (λ xs. kept_all xs es) (kept_full rows e full)
    ∙ kept_added rows es fits.1 fine
    ∙ ap (λ m. added_all rows (take m es)) none
    ∙ ap (λ m. added_all rows (take m (e ∷ es))) (sym none))
    (cases_lt (count_of rows) (room_of rows))

pub stored : (rows : List ℕ) (new : List Entry) (rows₁ : List ℕ) → AllByRecursion Fitting new → Fine rows → rows₁ ≡ kept_all rows new → Stored rows new rows₁
stored rows new rows₁ fits fine is =
    let m = room_of rows - count_of rows in
    let es = take m new in
    let few = length-take m new in
    let row = is ∙ kept_added rows new fits fine in
    let more = more_all rows es (All-take Fitting m new fits) fine (omega (arith, fine.within)) in
    let count : count_of rows₁ ≡ count_of rows + min m (length new) = ap count_of row ∙ more.count ∙ ap (λ k. count_of rows + k) few in
    let room : room_of rows₁ ≡ room_of rows = ap room_of row ∙ more.room in
    record {
      row = row;
      entries = ap entries_in row ∙ more.entries;
      long = ap length row ∙ more.long;
      room = room;
      count = count;
      within = omega (arith, fine.within);
      old = ap (old_part (count_of rows)) row ∙ more.old;
      past = ap (drop (entry_at (count_of rows₁))) row ∙ more.past (entry_at (count_of rows₁)) (omega arith);
    }
