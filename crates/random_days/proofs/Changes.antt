-- Laws of entries of which one number is changed: what the rules tell of them. Assumes nothing.
use Rattle.std.proofs.Common.{◌≡◌, ℕ, zero, suc, ◌+◌, ◌*◌, ◌%◌, ◌^◌, ◌<◌, ◌≤◌, min, true, eqb, List, [], ◌∷◌, ◌++◌, length, get_or, take, drop, set, Some, None, sym, refl, ap, subst, ◌∙◌, arith}
use Rattle.std.proofs.lemmas.Bool.{and_parts}
use Rattle.std.proofs.lemmas.Bool.Decides.{nat_tests}
use Rattle.std.proofs.lemmas.List.{drop-drop, drop-set-add, get_or-drop, get_or-set_other, get_or-set_same, length-drop, take-take}
use Rattle.rows.specs.Rows.{chunks, written_at}
use Rattle.rows.proofs.Chunks.{chunk_at, chunks_more, chunks_same, length_chunks}
use Rattle.rows.proofs.Written.{drop_written}
use Rattle.script.specs.Allowed.{ScriptAllowed, script_fault, sources_in}
use Rattle.script.specs.Layout.{max_askings, script_size}
use Rattle.script.specs.Rows.{script_in}
use Rattle.script.specs.Rule.{Task, Value, asks, done, task_of}
use Rattle.script.specs.declared.refusal.Refusal.TheVariants.{NotHonest, TooManyAskings}
use Rattle.entry.specs.Entry.{Honest, no_asking, replays}
use Rattle.entry.specs.Layout.{asking_size, entry_size, result_at}
use Rattle.entry.specs.Replay.{difference, differs}
use Rattle.entry.specs.Rows.{askings_in, entry_in, first_asking}
use Rattle.entry.specs.declared.asking.Asking.{Asking}
use Rattle.entry.proofs.Askings.{first_local}
use Rattle.store.specs.Faults.{askings_fault, entry_fault}
use Rattle.random_days.specs.Recorded.{Believed}
use Rattle.random_days.specs.Spoiled.{EntryTold, ManyAskings, asked_in, asking_place, raised}
use Rattle.random_days.specs.declared.expected.Expected.{Expected}
use Rattle.random_days.specs.declared.expected.Expected.TheVariants.{Refused}
use Rattle.random_days.proofs.Faults.{none_script}
use Rattle.random_days.proofs.Fronts.{between_stays, take_less}
use Rattle.random_days.proofs.Records.{allowed_same, script_same}
use Rattle.random_days.proofs.Spoils.{written_one}

pub as_told : (expected : Expected) (n asking : ℕ) (new : List ℕ) → expected ≡ Refused (NotHonest n) → n ≡ asking → entry_fault new ≡ Some (NotHonest asking) → EntryTold expected new
as_told expected n asking new is same told = subst (λ e. EntryTold e new) (sym (is ∙ ap (λ k. Refused (NotHonest k)) same)) told

-- an entry that was honest, with another result, one asking more, or another item
other_result : (i : ℕ) (t : Task) (qs : List Asking) (w u : Value) → replays t qs w ≡ true → (u ≡ w → ⊥) → differs i t qs u ≡ Some (i + length qs)
unfolding differs replays
other_result i (done v) [] w u e other = let here : i + 0 ≡ i = omega arith in let no : v ≡ u → ⊥ = λ s. let same : v ≡ w = grind (arith, nat_tests) in other (sym s ∙ same) in rw here (grind (arith, nat_tests))
other_result i (done v) (q ∷ qs) w u e other = absurd (grind arith)
other_result i (asks k c) [] w u e other = absurd (grind arith)
other_result i (asks k c) (q ∷ qs) w u e other =
    let both = and_parts (eqb k q.item) _ e in
    rw both.0 (other_result (suc i) (c q.answer) qs w u both.1 other ∙ ap Some (omega arith))

one_asking_more : (i : ℕ) (t : Task) (qs : List Asking) (w : Value) (p : Asking) → replays t qs w ≡ true → differs i t (qs ++ p ∷ []) w ≡ Some (i + length qs)
unfolding differs replays
one_asking_more i (done v) [] w p e = ap Some (omega arith)
one_asking_more i (done v) (q ∷ qs) w p e = absurd (grind arith)
one_asking_more i (asks k c) [] w p e = absurd (grind arith)
one_asking_more i (asks k c) (q ∷ qs) w p e =
    let both = and_parts (eqb k q.item) _ e in
    rw both.0 (one_asking_more (suc i) (c q.answer) qs w p both.1 ∙ ap Some (omega arith))

other_item : (i : ℕ) (t : Task) (qs : List Asking) (w : Value) (j : ℕ) (p : Asking) → replays t qs w ≡ true → j < length qs → (p.item ≡ (get_or qs j no_asking).item → ⊥) → differs i t (set qs j p) w ≡ Some (i + j)
unfolding differs replays
other_item i (done v) [] w j p e h other = absurd (omega arith)
other_item i (done v) (q ∷ qs) w j p e h other = absurd (grind arith)
other_item i (asks k c) [] w j p e h other = absurd (omega arith)
other_item i (asks k c) (q ∷ qs) w zero p e h other =
    let both = and_parts (eqb k q.item) _ e in
    let same : k ≡ q.item = let one = both.0 in grind (arith, nat_tests) in
    let no : k ≡ p.item → ⊥ = λ s. other (sym s ∙ same) in
    let here : i + 0 ≡ i = omega arith in
    rw here (grind (arith, nat_tests))
other_item i (asks k c) (q ∷ qs) w (suc j) p e h other =
    let both = and_parts (eqb k q.item) _ e in
    rw both.0 (other_item (suc i) (c q.answer) qs w j p both.1 (omega arith) other ∙ ap Some (omega arith))

-- one item changed in a row is one asking changed
item_set : (n : ℕ) (xs : List ℕ) (j v : ℕ) → j < n → asking_size * n ≤ length xs → chunks first_asking asking_size n (set xs (asking_size * j) v) ≡ set (chunks first_asking asking_size n xs) j (record { item = v; answer = get_or xs (asking_size * j + 1) 0 })
unfolding chunks
item_set zero xs j v h long = absurd (omega arith)
item_set (suc n) xs zero v h long =
    let item : get_or (set xs 0 v) 0 0 ≡ v = get_or-set_same xs 0 v 0 (omega arith) in
    let answer : get_or (set xs 0 v) 1 0 ≡ get_or xs 1 0 = get_or-set_other xs 0 1 v 0 (omega arith) in
    let behind : drop 2 (set xs 0 v) ≡ drop 2 xs = sym (ap (drop 2) (written_one xs 0 v)) ∙ drop_written xs 0 (v ∷ []) 2 (omega arith) in
    (λ i. record { item = item i; answer = answer i } ∷ chunks first_asking asking_size n (behind i))
item_set (suc n) xs (suc j) v h long =
    let place : asking_size * suc j ≡ 2 + asking_size * j = omega arith in
    let item : get_or (set xs (asking_size * suc j) v) 0 0 ≡ get_or xs 0 0 = get_or-set_other xs (asking_size * suc j) 0 v 0 (omega arith) in
    let answer : get_or (set xs (asking_size * suc j) v) 1 0 ≡ get_or xs 1 0 = get_or-set_other xs (asking_size * suc j) 1 v 0 (omega arith) in
    let behind : drop 2 (set xs (asking_size * suc j) v) ≡ set (drop 2 xs) (asking_size * j) v = ap (λ m. drop 2 (set xs m v)) place ∙ drop-set-add 2 xs (asking_size * j) v in
    let later : get_or (drop 2 xs) (asking_size * j + 1) 0 ≡ get_or xs (asking_size * suc j + 1) 0 = get_or-drop 2 xs (asking_size * j + 1) 0 ∙ ap (λ m. get_or xs m 0) (omega arith) in
    let rest_long : asking_size * n ≤ length (drop 2 xs) = rw length-drop (omega arith) in
    (λ i. record { item = item i; answer = answer i } ∷ chunks first_asking asking_size n (behind i))
    ∙ ap (λ ys. first_asking xs ∷ ys) (item_set n (drop 2 xs) j v (omega arith) rest_long)
    ∙ ap (λ a. first_asking xs ∷ set (chunks first_asking asking_size n (drop 2 xs)) j (record { item = v; answer = a })) later

raised_other : (x : ℕ) → (x + 1) % 2 ^ 64 ≡ x → ⊥
raised_other x e = absurd (omega arith)

-- what is behind the script was changed
module _ (old new : List ℕ) (at v : ℕ) (room : entry_size ≤ length old) (is : new ≡ set old at v) (behind : script_size ≤ at) (inside : at < entry_size) where
  writes : new ≡ written_at old at (v ∷ [])
  writes = is ∙ sym (written_one old at v)

  front : take script_size new ≡ take script_size old
  front = ap (take script_size) writes ∙ take_less old at script_size (v ∷ []) (omega arith) behind

  there : get_or new at 0 ≡ v
  there = ap (λ xs. get_or xs at 0) is ∙ get_or-set_same old at v 0 (omega arith)

  elsewhere : (i : ℕ) → (i ≡ at → ⊥) → get_or new i 0 ≡ get_or old i 0
  elsewhere i other = ap (λ xs. get_or xs i 0) is ∙ get_or-set_other old at i v 0 other

-- the askings of a row that names no more than may be
named : (row : List ℕ) (n : ℕ) → get_or row script_size 0 ≡ n → n ≤ max_askings → askings_in (drop script_size row) ≡ chunks first_asking asking_size n (drop (script_size + 1) row)
named row n many few =
    let count : min (get_or (drop script_size row) 0 0) max_askings ≡ n = omega (arith, get_or-drop script_size row 0 0, many) in
    ap (λ m. chunks first_asking asking_size m (drop 1 (drop script_size row))) count ∙ ap (λ xs. chunks first_asking asking_size n xs) (drop-drop 1 script_size row)

not_honest_told : (new : List ℕ) (asking : ℕ) → ScriptAllowed (sources_in new) → asked_in new ≤ max_askings → difference (entry_in new) ≡ Some asking → entry_fault new ≡ Some (NotHonest asking)
not_honest_told new asking ok few differs_there =
    let none : script_fault (sources_in new) ≡ None = none_script (sources_in new) ok in
    let asked_none : askings_fault new ≡ None = grind (arith, nat_tests) in
    rw (none, asked_none, differs_there) refl

named_length : (row : List ℕ) → asked_in row ≤ max_askings → length (askings_in (drop script_size row)) ≡ asked_in row
named_length row few = ap length (named row (asked_in row) refl few) ∙ length_chunks first_asking asking_size (asked_in row) (drop (script_size + 1) row)

pub askings_told : (old new : List ℕ) → entry_size ≤ length old → Believed old → ManyAskings old new → entry_fault new ≡ Some TooManyAskings
askings_told old new room believed many =
    let same = front old new script_size (asked_in new) room many.1 (omega arith) (omega arith) in
    let none : script_fault (sources_in new) ≡ None = none_script (sources_in new) (allowed_same new old same believed.0) in
    let asked_many : askings_fault new ≡ Some TooManyAskings = let more = many.0 in grind (arith, nat_tests) in
    rw (none, asked_many) refl

pub result_told : (old new : List ℕ) → entry_size ≤ length old → Believed old → new ≡ raised result_at old → entry_fault new ≡ Some (NotHonest (asked_in old))
unfolding Honest
result_told old new room believed is =
    let n = asked_in old in
    let v = (get_or old result_at 0 + 1) % 2 ^ 64 in
    let at = script_size + 1 in
    let few = believed.1 in
    let same = front old new result_at v room is (omega arith) (omega arith) in
    let count : asked_in new ≡ n = elsewhere old new result_at v room is (omega arith) (omega arith) script_size (λ e. absurd (omega arith)) in
    let all : take 64 (drop at new) ≡ take 64 (drop at old) =
    ap (λ xs. take 64 (drop at xs)) (writes old new result_at v room is (omega arith) (omega arith)) ∙ between_stays old at 64 (v ∷ []) (omega arith) in
    let those : take (asking_size * n) (drop at new) ≡ take (asking_size * n) (drop at old) =
    sym (take-take (asking_size * n) 64 (drop at new) (omega arith)) ∙ ap (take (asking_size * n)) all ∙ take-take (asking_size * n) 64 (drop at old) (omega arith) in
    let askings : askings_in (drop script_size new) ≡ askings_in (drop script_size old) =
    named new n count few ∙ chunks_same first_asking asking_size first_local n (drop at new) (drop at old) those ∙ sym (named old n refl few) in
    let differing : difference (entry_in new) ≡ Some n =
    (λ j. differs 0 (task_of (script_same new old same j)) (askings j) (there old new result_at v room is (omega arith) (omega arith) j))
    ∙ other_result 0 (task_of (script_in old)) (askings_in (drop script_size old)) (get_or old result_at 0) v believed.2 (raised_other (get_or old result_at 0))
    ∙ ap Some (omega (arith, named_length old few)) in
    not_honest_told new n (allowed_same new old same believed.0) (omega (arith, count, few)) differing

pub count_told : (old new : List ℕ) → entry_size ≤ length old → Believed old → asked_in old < max_askings → new ≡ raised script_size old → entry_fault new ≡ Some (NotHonest (asked_in old))
unfolding Honest
count_told old new room believed less is =
    let n = asked_in old in
    let v = (n + 1) % 2 ^ 64 in
    let at = script_size + 1 in
    let few = believed.1 in
    let same = front old new script_size v room is (omega arith) (omega arith) in
    let count : asked_in new ≡ n + 1 = there old new script_size v room is (omega arith) (omega arith) ∙ omega arith in
    let behind : drop at new ≡ drop at old = ap (drop at) (writes old new script_size v room is (omega arith) (omega arith)) ∙ drop_written old script_size (v ∷ []) at (omega arith) in
    let result : get_or new result_at 0 ≡ get_or old result_at 0 = elsewhere old new script_size v room is (omega arith) (omega arith) result_at (λ e. absurd (omega arith)) in
    let q = first_asking (drop (asking_size * n) (drop at old)) in
    let askings : askings_in (drop script_size new) ≡ askings_in (drop script_size old) ++ q ∷ [] =
    named new (n + 1) count (omega arith) ∙ ap (chunks first_asking asking_size (n + 1)) behind
    ∙ chunks_more first_asking asking_size n (drop at old) ∙ ap (λ ys. ys ++ q ∷ []) (sym (named old n refl few)) in
    let differing : difference (entry_in new) ≡ Some n =
    (λ j. differs 0 (task_of (script_same new old same j)) (askings j) (result j))
    ∙ one_asking_more 0 (task_of (script_in old)) (askings_in (drop script_size old)) (get_or old result_at 0) q believed.2
    ∙ ap Some (omega (arith, named_length old few)) in
    not_honest_told new n (allowed_same new old same believed.0) (omega (arith, count, less)) differing

pub item_told : (old new : List ℕ) (asking : ℕ) → entry_size ≤ length old → Believed old → asking < asked_in old → new ≡ raised (asking_place asking) old → entry_fault new ≡ Some (NotHonest asking)
unfolding Honest
item_told old new asking room believed inside is =
    let n = asked_in old in
    let here = asking_place asking in
    let v = (get_or old here 0 + 1) % 2 ^ 64 in
    let at = script_size + 1 in
    let few = believed.1 in
    let same = front old new here v room is (omega arith) (omega arith) in
    let count : asked_in new ≡ n = elsewhere old new here v room is (omega arith) (omega arith) script_size (λ e. absurd (omega arith)) in
    let result : get_or new result_at 0 ≡ get_or old result_at 0 = elsewhere old new here v room is (omega arith) (omega arith) result_at (λ e. absurd (omega arith)) in
    let behind : drop at new ≡ set (drop at old) (asking_size * asking) v = ap (drop at) is ∙ drop-set-add at old (asking_size * asking) v in
    let long : asking_size * n ≤ length (drop at old) = rw length-drop (omega arith) in
    let p : Asking = record { item = v; answer = get_or (drop at old) (asking_size * asking + 1) 0 } in
    let askings : askings_in (drop script_size new) ≡ set (askings_in (drop script_size old)) asking p =
    named new n count few ∙ ap (chunks first_asking asking_size n) behind
    ∙ item_set n (drop at old) asking v inside long ∙ ap (λ ys. set ys asking p) (sym (named old n refl few)) in
    let item : (get_or (askings_in (drop script_size old)) asking no_asking).item ≡ get_or old here 0 =
    ap (λ ys. (get_or ys asking no_asking).item) (named old n refl few)
    ∙ ap (λ x. x.item) (chunk_at first_asking asking_size n (drop at old) asking no_asking inside)
    ∙ get_or-drop (asking_size * asking) (drop at old) 0 0 ∙ get_or-drop at old (asking_size * asking + 0) 0 ∙ ap (λ m. get_or old m 0) (omega arith) in
    let differing : difference (entry_in new) ≡ Some asking =
    (λ j. differs 0 (task_of (script_same new old same j)) (askings j) (result j))
    ∙ other_item 0 (task_of (script_in old)) (askings_in (drop script_size old)) (get_or old result_at 0) asking p believed.2 (omega (arith, named_length old few, inside)) (λ e. raised_other (get_or old here 0) (e ∙ item))
    ∙ ap Some (omega arith) in
    not_honest_told new asking (allowed_same new old same believed.0) (omega (arith, count, few)) differing
