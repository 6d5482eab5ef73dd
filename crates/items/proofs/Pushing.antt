-- A list in its row that takes one number more. Assumes nothing.
use Rattle.std.proofs.Common.{◌≡◌, ℕ, ◌+◌, ◌<◌, List, [], ◌∷◌, ◌++◌, length, get_or, drop, set, sym, refl, ap, ◌∙◌, add-one, arith}
use Rattle.std.proofs.lemmas.List.{append_assoc, drop_more, length-append, length-drop, length_push, set_at}
use Rattle.items.specs.Listing.{listed}

pub listed_none : (row : List ℕ) → 0 < length row → set row 0 0 ≡ listed [] row
listed_none [] h = absurd (omega arith)
listed_none (x ∷ xs) h = refl

pub room_behind : (list before : List ℕ) → length list + 1 < length (listed list before) → length list + 1 < length before
room_behind list before h = omega (arith, length-append list (drop (1 + length list) before), length-drop (1 + length list) before)

pub listed_push : (list before : List ℕ) (x : ℕ) → length list + 1 < length before → set (set (listed list before) 0 (length list + 1)) (length list + 1) x ≡ listed (list ++ x ∷ []) before
listed_push list before x h =
    let n = length list in
    let y = get_or before (1 + n) 0 in
    let rest = drop (1 + n + 1) before in
    let here : drop (1 + n) before ≡ y ∷ rest = drop_more before (1 + n) 0 (omega arith) in
    let next : 1 + n + 1 ≡ 1 + (n + 1) = omega arith in
    ap (λ k. set ((n + 1) ∷ (list ++ drop (1 + n) before)) k x) (add-one n)
    ∙ ap (λ xs. (n + 1) ∷ set (list ++ xs) n x) here
    ∙ ap (λ xs. (n + 1) ∷ xs) (set_at list y rest x n refl ∙ sym (append_assoc list (x ∷ []) rest))
    ∙ ap (λ k. (n + 1) ∷ ((list ++ x ∷ []) ++ drop k before)) next
    ∙ ap (λ m. m ∷ ((list ++ x ∷ []) ++ drop (1 + m) before)) (sym (length_push list x))
