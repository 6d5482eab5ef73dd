-- What a store that took a change holds: the entries, the room and the count. Assumes nothing.
use Rattle.std.proofs.Common.{◌≡◌, ℕ, ◌+◌, ◌-◌, ◌<◌, ◌≤◌, List, ◌++◌, length, take, set, Some, None, Option, refl, ◌∙◌, arith}
use Rattle.std.proofs.lemmas.List.{get_or_append_left, get_or-set_other, get_or-take, length-take-le}
use Rattle.std.proofs.lemmas.Bool.Decides.{nat_tests}
use Rattle.script.specs.Allowed.{or_else}
use Rattle.script.specs.declared.refusal.Refusal.{Refusal}
use Rattle.entry.specs.Entry.{Entry}
use Rattle.entry.specs.Rows.{Fitting}
use Rattle.store.specs.Faults.{add_fault, remove_fault}
use Rattle.store.specs.Rows.{Grown, Shrunk, added, count_of, entry_at, removed, room_of}
use Rattle.store.proofs.Entries.{count_added, count_removed, entries_added, entries_removed, length_added, length_removed}

-- the room stands before the entries, so it stays when something is laid over them
room_stays : (rows more : List ℕ) (at c : ℕ) → 2 ≤ at → at ≤ length rows → room_of (set (take at rows ++ more) 0 c) ≡ room_of rows
room_stays rows more at c low high =
    let front = length-take-le at rows high in
    get_or-set_other (take at rows ++ more) 0 1 c 0 (λ e. absurd (omega arith)) ∙ get_or_append_left (take at rows) more 0 1 (omega arith) ∙ get_or-take at rows 1 0 (omega arith)

pub room_added : (rows : List ℕ) (e : Entry) → entry_at (count_of rows) ≤ length rows → room_of (added rows e) ≡ room_of rows
room_added rows e long = room_stays rows _ (entry_at (count_of rows)) (count_of rows + 1) (omega arith) long

pub grown : (rows : List ℕ) (e : Entry) → Fitting e → add_fault rows ≡ None → Grown rows (added rows e) e
grown rows e fits fine =
    let room : (count_of rows < room_of rows) × (entry_at (room_of rows) ≤ length rows) = grind (arith, nat_tests) in
    let long : entry_at (count_of rows + 1) ≤ length rows = omega arith in
    let stays = room_added rows e (omega arith) in
    record {
      entries = entries_added rows e fits long;
      room = stays;
      within = rw (count_added rows e fits long, stays) (omega arith);
    }

pub grown_long : (rows : List ℕ) (e : Entry) → Fitting e → add_fault rows ≡ None → length (added rows e) ≡ length rows
grown_long rows e fits fine =
    let room : (count_of rows < room_of rows) × (entry_at (room_of rows) ≤ length rows) = grind (arith, nat_tests) in
    length_added rows e fits (omega arith)

pub shrunk : (rows : List ℕ) (i : ℕ) → remove_fault rows i ≡ None → Shrunk rows (removed rows i) i
shrunk rows i fine =
    let room : (i < count_of rows) × (count_of rows ≤ room_of rows) × (entry_at (room_of rows) ≤ length rows) = grind (arith, nat_tests) in
    let long : entry_at (count_of rows) ≤ length rows = omega arith in
    let stays = room_stays rows _ (entry_at i) (count_of rows - 1) (omega arith) (omega arith) in
    record {
      entries = entries_removed rows i room.0 long;
      room = stays;
      within = rw (count_removed rows i room.0 long, stays) (omega arith);
    }

pub shrunk_long : (rows : List ℕ) (i : ℕ) → remove_fault rows i ≡ None → length (removed rows i) ≡ length rows
shrunk_long rows i fine =
    let room : (i < count_of rows) × (count_of rows ≤ room_of rows) × (entry_at (room_of rows) ≤ length rows) = grind (arith, nat_tests) in
    length_removed rows i room.0 (omega arith)

-- of two checks that both pass, the second passes
pub second_none : (x y : Option Refusal) → or_else x y ≡ None → y ≡ None
second_none x y e = grind arith

pub or_else_assoc : (x y z : Option Refusal) → or_else (or_else x y) z ≡ or_else x (or_else y z)
or_else_assoc None y z = refl
or_else_assoc (Some x) y z = refl
