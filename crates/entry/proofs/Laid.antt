-- An entry's row that is written part by part. Assumes nothing.
use Rattle.std.proofs.Common.{◌≡◌, ℕ, ◌+◌, ◌<◌, List, [], ◌∷◌, ◌++◌, length, get_or, take, drop, set, ap, ◌∙◌, arith}
use borrow.Rule.Slice.PartMut.{post_of, put_mid}
use Rattle.std.proofs.lemmas.List.{append_assoc, drop_all, drop_at, drop_more, length-append, length-drop, set_at, take_at}
use Rattle.script.specs.Layout.{script_size}
use Rattle.script.specs.Rows.{script_out}
use Rattle.script.proofs.Lines.{length_script_out}
use Rattle.entry.specs.Entry.{Entry}
use Rattle.entry.specs.Layout.{askings_size, entry_size, result_at}
use Rattle.entry.specs.Rows.{Fitting, askings_out, entry_out}
use Rattle.entry.proofs.Askings.{length_askings_out}

-- the two parts and the last number, written one behind the other over the whole row
parts : (row xs ys : List ℕ) (v : ℕ) → length row ≡ entry_size → length xs ≡ script_size → length ys ≡ askings_size → set (put_mid script_size askings_size (xs ++ post_of 0 script_size row) ys) result_at v ≡ xs ++ (ys ++ v ∷ [])
parts row xs ys v long long_xs long_ys =
    let rest = drop script_size row in
    let front : take script_size (xs ++ rest) ≡ xs = take_at xs rest script_size long_xs in
    let behind : drop script_size (xs ++ rest) ≡ rest = drop_at xs rest script_size long_xs in
    let one : askings_size < length rest = rw length-drop (omega arith) in
    let none : drop (askings_size + 1) rest ≡ [] = drop_all (askings_size + 1) rest (rw length-drop (omega arith)) in
    let last : drop askings_size rest ≡ get_or rest askings_size 0 ∷ [] = drop_more rest askings_size 0 one ∙ ap (λ zs. get_or rest askings_size 0 ∷ zs) none in
    let long_both : length (xs ++ ys) ≡ result_at = rw length-append (omega arith) in
    rw (front, behind, last, ← append_assoc)
    (set_at (xs ++ ys) (get_or rest askings_size 0) [] v result_at long_both ∙ append_assoc xs ys (v ∷ []))

-- the parts of an entry that fits, each written down, are the entry written down
pub laid : (e : Entry) → Fitting e → (row xs ys : List ℕ) → length row ≡ entry_size → xs ≡ script_out e.script → ys ≡ askings_out e.asked → set (put_mid script_size askings_size (xs ++ post_of 0 script_size row) ys) result_at e.result ≡ entry_out e
laid e fits row xs ys long script askings =
    let long_xs = ap length script ∙ length_script_out e.script fits.0 in
    let long_ys = ap length askings ∙ length_askings_out e.asked fits.1 in
    parts row xs ys e.result long long_xs long_ys ∙ (λ i. script i ++ (askings i ++ e.result ∷ []))
