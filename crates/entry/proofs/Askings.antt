-- Laws of askings and entries in their rows. Assumes nothing.
use Rattle.std.proofs.Common.{◌≡◌, ℕ, ◌+◌, ◌*◌, ◌<◌, ◌≤◌, List, ◌++◌, length, get_or, take, drop, sym, refl, ◌∙◌, arith}
use Rattle.std.proofs.lemmas.List.{get_or-take}
use Rattle.rows.proofs.Counted.{count_in, counted_at, counted_back, counted_take, length_counted}
use Rattle.script.specs.Layout.{max_askings}
use Rattle.entry.specs.Layout.{asking_size, askings_size}
use Rattle.entry.specs.Rows.{asking_out, askings_in, askings_out, first_asking}
use Rattle.entry.specs.declared.asking.Asking.{Asking}

pub length_asking : (q : Asking) → length (asking_out q) ≡ asking_size
length_asking q = refl

first_back : (q : Asking) (zs : List ℕ) → first_asking (asking_out q ++ zs) ≡ q
first_back q zs = refl

pub askings_few : (xs : List ℕ) → length (askings_in xs) ≤ max_askings
askings_few xs = rw (count_in first_asking asking_size max_askings) (omega arith)

-- what was read at its place is the asking there
pub read_there : (row : List ℕ) (i : ℕ) (q : Asking) → i < length (askings_in row) → q ≡ first_asking (drop (1 + asking_size * i) row) → get_or (askings_in row) i q ≡ q
read_there row i q inside is = counted_at first_asking asking_size max_askings row i q inside ∙ sym is

-- askings that are written down are read back, whatever follows them
pub askings_back : (qs : List Asking) (more : List ℕ) → length qs ≤ max_askings → askings_in (askings_out qs ++ more) ≡ qs
askings_back qs more few = counted_back asking_out asking_size length_asking first_asking first_back max_askings qs more few

pub length_askings_out : (qs : List Asking) → length qs ≤ max_askings → length (askings_out qs) ≡ askings_size
length_askings_out qs few = length_counted asking_out asking_size length_asking max_askings qs few

-- an asking is read from its own two numbers, and askings from as many as they have room for
pub first_local : (xs : List ℕ) → first_asking xs ≡ first_asking (take asking_size xs)
first_local xs =
    let of = sym (get_or-take asking_size xs 0 0 (omega arith)) in
    let answer = sym (get_or-take asking_size xs 1 0 (omega arith)) in
    λ i. record { item = of i; answer = answer i }

pub askings_take : (m : ℕ) (xs : List ℕ) → askings_size ≤ m → askings_in xs ≡ askings_in (take m xs)
askings_take m xs h = counted_take first_asking asking_size max_askings first_local m xs h
