-- Laws of entries that are recorded asking by asking. Assumes nothing.
use Rattle.std.proofs.Common.{◌≡◌, ℕ, ◌+◌, ◌*◌, ◌<◌, ◌≤◌, ◌&&◌, ◌++◌, min, List, [], ◌∷◌, length, get_or, take, drop, sym, refl, ap, subst, ◌∙◌, arith}
use Rattle.std.proofs.lemmas.Bool.{eq-eqb}
use Rattle.std.proofs.lemmas.List.{append_assoc, append-nil, drop-drop, drop-take, get_or-drop, get_or-set_same, get_or-take, take-take}
use Rattle.rows.specs.Rows.{chunks, written_at}
use Rattle.rows.proofs.Chunks.{chunks_more, chunks_none, chunks_same}
use Rattle.rows.proofs.Written.{drop_written, getD_written, length_written}
use Rattle.script.proofs.Lines.{script_take}
use Rattle.script.specs.Allowed.{ScriptAllowed, first_source, sources_in}
use Rattle.script.specs.Layout.{line_size, max_askings, max_lines, script_size}
use Rattle.script.specs.Rows.{script_in}
use Rattle.script.specs.Rule.{Script, Task, Value, asks, done, task_of}
use Rattle.machine.proofs.Steps.{rest_start}
use Rattle.machine.specs.Machine.{answered, rest, start}
use Rattle.machine.specs.declared.effect.Waiting.{Waiting}
use Rattle.machine.specs.declared.registers.Registers.{Registers}
use Rattle.entry.specs.Entry.{Honest, replays}
use Rattle.entry.specs.Layout.{asking_size, entry_size, result_at}
use Rattle.entry.specs.Rows.{askings_in, first_asking}
use Rattle.entry.specs.declared.asking.Asking.{Asking}
use Rattle.entry.proofs.Askings.{first_local}
use Rattle.random_days.specs.Recorded.{Believed}
use Rattle.random_days.proofs.Faults.{few_lines}
use Rattle.random_days.proofs.Fronts.{between_stays, take_less}
use Rattle.random_days.proofs.Pools.{before_stays}
use Rattle.random_days.proofs.Spoils.{written_one}

source_local : (xs : List ℕ) → first_source xs ≡ first_source (take line_size xs)
source_local xs =
    let same : (j : ℕ) → j < line_size → get_or (take line_size xs) j 0 ≡ get_or xs j 0 = λ j h. get_or-take line_size xs j 0 h in
    rw (same 0 (omega arith), same 1 (omega arith), same 2 (omega arith), same 3 (omega arith)) refl

-- a script is read from as many numbers as it has room for
pub script_same : (xs ys : List ℕ) → take script_size xs ≡ take script_size ys → script_in xs ≡ script_in ys
script_same xs ys e = script_take script_size xs (omega arith) ∙ ap (λ zs. script_in zs) e ∙ sym (script_take script_size ys (omega arith))

pub allowed_same : (xs ys : List ℕ) → take script_size xs ≡ take script_size ys → ScriptAllowed (sources_in ys) → ScriptAllowed (sources_in xs)
allowed_same xs ys e ok =
    let n = get_or ys 0 0 in
    let few : n ≤ max_lines = few_lines ys ok in
    let first : get_or xs 0 0 ≡ n = sym (get_or-take script_size xs 0 0 (omega arith)) ∙ ap (λ zs. get_or zs 0 0) e ∙ get_or-take script_size ys 0 0 (omega arith) in
    let all : take 128 (drop 1 xs) ≡ take 128 (drop 1 ys) = sym (drop-take 1 128 xs) ∙ ap (drop 1) e ∙ drop-take 1 128 ys in
    let those : take (line_size * n) (drop 1 xs) ≡ take (line_size * n) (drop 1 ys) =
    sym (take-take (line_size * n) 128 (drop 1 xs) (omega arith)) ∙ ap (take (line_size * n)) all ∙ take-take (line_size * n) 128 (drop 1 ys) (omega arith) in
    let same : sources_in xs ≡ sources_in ys =
    ap (λ m. chunks first_source line_size m (drop 1 xs)) first ∙ chunks_same first_source line_size source_local n (drop 1 xs) (drop 1 ys) those in
    subst ScriptAllowed (sym same) ok

-- the first i askings of a run are recorded, and the registers stand behind them
pub record Recorded (old : List ℕ) (i : ℕ) (g : Registers) (row : List ℕ) : Type 0 where
  pub long : length row ≡ length old
  pub front : take script_size row ≡ take script_size old
  pub count : get_or row script_size 0 ≡ i
  pub past : i ≤ g.next
  pub made : (qs : List Asking) (w : Value) → replays (task_of (script_in old)) (chunks first_asking asking_size i (drop (script_size + 1) row) ++ qs) w ≡ replays (rest (script_in old) g) qs w

pub recorded_none : (old : List ℕ) (g : Registers) → get_or old script_size 0 ≡ 0 → g ≡ start → Recorded old 0 g old
recorded_none old g none is =
    record {
      long = refl;
      front = refl;
      count = none;
      past = omega arith;
      made = λ qs w.
          ap (λ ys. replays (task_of (script_in old)) (ys ++ qs) w) (chunks_none first_asking asking_size (drop (script_size + 1) old))
          ∙ ap (λ t. replays t qs w) (sym (rest_start (script_in old)) ∙ ap (rest (script_in old)) (sym is));
    }

asked_more : (row : List ℕ) (i n k v : ℕ) {row₁ row₂ : List ℕ} → entry_size ≤ length row → i < max_askings → row₁ ≡ written_at row script_size (n ∷ []) → row₂ ≡ written_at row₁ (script_size + 1 + asking_size * i) (k ∷ v ∷ []) → chunks first_asking asking_size (i + 1) (drop (script_size + 1) row₂) ≡ chunks first_asking asking_size i (drop (script_size + 1) row) ++ record { item = k; answer = v } ∷ []
asked_more row i n k v {row₁} {row₂} room inside counts writes =
    let at = script_size + 1 in
    let here = script_size + 1 + asking_size * i in
    let ns : List ℕ = k ∷ v ∷ [] in
    let size : length row₁ ≡ length row = ap length counts ∙ length_written row script_size (n ∷ []) in
    let fits : here + length ns ≤ length row₁ = omega (arith, size) in
    let kept : take (asking_size * i) (drop at row₂) ≡ take (asking_size * i) (drop at row) =
    ap (λ xs. take (asking_size * i) (drop at xs)) writes ∙ between_stays row₁ at (asking_size * i) ns fits
    ∙ ap (λ xs. take (asking_size * i) (drop at xs)) counts ∙ ap (take (asking_size * i)) (drop_written row script_size (n ∷ []) at (omega arith)) in
    let read : (j : ℕ) → j < 2 → get_or (drop here (written_at row₁ here ns)) j 0 ≡ get_or ns j 0 = λ j h. get_or-drop here (written_at row₁ here ns) j 0 ∙ getD_written row₁ here ns j fits h in
    let asking : first_asking (drop here (written_at row₁ here ns)) ≡ record { item = k; answer = v } = rw (read 0 (omega arith), read 1 (omega arith)) refl in
    let last : first_asking (drop (asking_size * i) (drop at row₂)) ≡ record { item = k; answer = v } =
    ap first_asking (drop-drop (asking_size * i) at row₂ ∙ ap (drop here) writes) ∙ asking in
    chunks_more first_asking asking_size i (drop at row₂)
    ∙ (λ j. chunks_same first_asking asking_size first_local i (drop at row₂) (drop at row) kept j ++ last j ∷ [])

pub recorded_more : (old row : List ℕ) (i n k v at : ℕ) (g g₁ : Registers) (w : Waiting) {row₁ row₂ : List ℕ} → entry_size ≤ length old → i < max_askings → rest (script_in row) g ≡ asks k (λ u. rest (script_in row) (answered w u)) → g.next < w.registers.next → g₁ ≡ answered w v → row₁ ≡ written_at row script_size (n ∷ []) → row₂ ≡ written_at row₁ at (k ∷ v ∷ []) → n ≡ i + 1 → at ≡ script_size + 1 + asking_size * i → Recorded old i g row → Recorded old (i + 1) g₁ row₂
unfolding replays
recorded_more old row i n k v at g g₁ w {row₁} {row₂} room inside waits on answers counts writes counted place so_far =
    let s = script_in old in
    let here = script_size + 1 + asking_size * i in
    let ns : List ℕ = k ∷ v ∷ [] in
    let q : Asking = record { item = k; answer = v } in
    let same : row₂ ≡ written_at row₁ here ns = writes ∙ ap (λ m. written_at row₁ m ns) place in
    let size : length row₁ ≡ length row = ap length counts ∙ length_written row script_size (n ∷ []) in
    let long = so_far.long in
    let fits : here + length ns ≤ length row₁ = omega (arith, size, long) in
    let P : Script → Type 0 = λ t. rest t g ≡ asks k (λ u. rest t (answered w u)) in
    let waits_so : P s = subst P (script_same row old so_far.front) waits in
    record {
      long = ap length same ∙ length_written row₁ here ns ∙ size ∙ long;
      front =
          ap (take script_size) same ∙ take_less row₁ here script_size ns fits (omega arith)
          ∙ ap (take script_size) counts ∙ take_less row script_size script_size (n ∷ []) (omega (arith, long)) (omega arith) ∙ so_far.front;
      count =
          ap (λ xs. get_or xs script_size 0) same ∙ before_stays row₁ here script_size ns fits (omega arith)
          ∙ ap (λ xs. get_or xs script_size 0) (counts ∙ written_one row script_size n) ∙ get_or-set_same row script_size n 0 (omega (arith, long)) ∙ counted;
      past = let kept = so_far.past in let next : g₁.next ≡ w.registers.next = ap (λ x. x.next) answers in omega (arith, kept, next, on);
      made = λ qs u.
          ap (λ ys. replays (task_of s) (ys ++ qs) u) (asked_more row i n k v (omega (arith, long)) inside counts same)
          ∙ ap (λ ys. replays (task_of s) ys u) (append_assoc (chunks first_asking asking_size i (drop (script_size + 1) row)) (q ∷ []) qs)
          ∙ so_far.made (q ∷ qs) u
          ∙ ap (λ t. replays t (q ∷ qs) u) waits_so
          ∙ ap (λ b. b && replays (rest s (answered w v)) qs u) (eq-eqb k k refl)
          ∙ ap (λ x. replays (rest s x) qs u) (sym answers);
    }

pub recorded_end : (old row : List ℕ) (i v : ℕ) (g : Registers) {new : List ℕ} → entry_size ≤ length old → i ≤ max_askings → ScriptAllowed (sources_in old) → rest (script_in row) g ≡ done v → new ≡ written_at row result_at (v ∷ []) → Recorded old i g row → Believed new
unfolding replays Honest
recorded_end old row i v g {new} room inside ok ends writes so_far =
    let s = script_in old in
    let at = script_size + 1 in
    let long = so_far.long in
    let fits : result_at + 1 ≤ length row = omega (arith, long) in
    let front : take script_size new ≡ take script_size old = ap (take script_size) writes ∙ take_less row result_at script_size (v ∷ []) fits (omega arith) ∙ so_far.front in
    let script : script_in new ≡ s = script_same new old front in
    let ended : rest s g ≡ done v = subst (λ t. rest t g ≡ done v) (script_same row old so_far.front) ends in
    let given : get_or new result_at 0 ≡ v = ap (λ xs. get_or xs result_at 0) (writes ∙ written_one row result_at v) ∙ get_or-set_same row result_at v 0 (omega (arith, long)) in
    let many : get_or (drop script_size new) 0 0 ≡ i =
    get_or-drop script_size new 0 0 ∙ ap (λ xs. get_or xs script_size 0) writes ∙ before_stays row result_at script_size (v ∷ []) fits (omega arith) ∙ so_far.count in
    let all : take 64 (drop at new) ≡ take 64 (drop at row) = ap (λ xs. take 64 (drop at xs)) writes ∙ between_stays row at 64 (v ∷ []) fits in
    let those : take (asking_size * i) (drop at new) ≡ take (asking_size * i) (drop at row) =
    sym (take-take (asking_size * i) 64 (drop at new) (omega arith)) ∙ ap (take (asking_size * i)) all ∙ take-take (asking_size * i) 64 (drop at row) (omega arith) in
    let count : min (get_or (drop script_size new) 0 0) max_askings ≡ i = omega (arith, many) in
    let askings : askings_in (drop script_size new) ≡ chunks first_asking asking_size i (drop at row) ++ [] =
    ap (λ m. chunks first_asking asking_size m (drop 1 (drop script_size new))) count
    ∙ ap (λ xs. chunks first_asking asking_size i xs) (drop-drop 1 script_size new)
    ∙ chunks_same first_asking asking_size first_local i (drop at new) (drop at row) those
    ∙ sym (append-nil (chunks first_asking asking_size i (drop at row))) in
    let named : get_or new script_size 0 ≡ i = sym (get_or-drop script_size new 0 0) ∙ many in (
      allowed_same new old front ok,
      omega (arith, named),
      (λ j. replays (task_of (script j)) (askings j) (given j))
          ∙ so_far.made [] v
          ∙ ap (λ t. replays t [] v) ended
          ∙ eq-eqb v v refl,
    )

-- a row whose script is written anew still names as many askings, and has the same behind its entry
pub asked_stays : (old new : List ℕ) → drop script_size new ≡ drop script_size old → get_or new script_size 0 ≡ get_or old script_size 0
asked_stays old new e = sym (get_or-drop script_size new 0 0) ∙ ap (λ xs. get_or xs 0 0) e ∙ get_or-drop script_size old 0 0

pub later_stays : (old new : List ℕ) → drop script_size new ≡ drop script_size old → drop entry_size new ≡ drop entry_size old
later_stays old new e = sym (drop-drop 66 script_size new) ∙ ap (drop 66) e ∙ drop-drop 66 script_size old

-- no run both ends and waits
pub not_both : (t : Task) (v k : Value) (c : Value → Task) → t ≡ done v → t ≡ asks k c → ⊥
not_both t v k c ends waits = cc

-- nothing is written behind the entry
pub behind_written : (row : List ℕ) (at : ℕ) (ns : List ℕ) {new : List ℕ} → new ≡ written_at row at ns → at + length ns ≤ entry_size → drop entry_size new ≡ drop entry_size row
behind_written row at ns is inside = ap (drop entry_size) is ∙ drop_written row at ns entry_size inside
