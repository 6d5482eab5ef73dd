-- What a chain over the parts of a row gives. Assumes nothing.
use Rattle.std.proofs.Common.{◌≡◌, ℕ, List, map, length, Option, ap, ◌∙◌, subst}
use Rattle.std.specs.Iterator.{YieldsFirstRef}
use Rattle.std.proofs.lemmas.Iterator.{YieldsList}
use Rattle.std.proofs.lemmas.Iterator.Consumers.{YieldsList-from_first, YieldsList-from_shown}
use Rattle.rows.specs.Parts.{parts_left}
use Rattle.rows.specs.Rows.{chunks}
use Rattle.rows.specs.declared.row_parts.RowParts.{RowParts}
use Rattle.rows.proofs.Chunks.{map_chunks}

-- the source: the parts themselves
pub YieldsList-from_parts : {N : Type 0} {s : RowParts N} (ys : List (List N)) → parts_left s ≡ ys → YieldsList (YieldsFirstRef parts_left) (λ y. y.now) s ys
YieldsList-from_parts ys is = YieldsList-from_first (λ y. y.now) parts_left ys is

-- each part read gives the pieces
pub YieldsList-to_chunks : {S A N X : Type 0} {steps : S → Option A → S → Type 0} {v : A → X} {s : S} (read : List N → X) (size n : ℕ) (xs : List N) → YieldsList steps v s (map read (chunks (λ ys. ys) size n xs)) → YieldsList steps v s (chunks read size n xs)
YieldsList-to_chunks {steps = steps} {v = v} {s = s} read size n xs = subst (YieldsList steps v s) (map_chunks read size n xs)

-- the source, where each part is seen as what is read of it
pub YieldsList-read_parts : {N X : Type 0} (read : List N → X) (size n : ℕ) (xs : List N) {s : RowParts N} → parts_left s ≡ chunks (λ ys. ys) size n xs → YieldsList (YieldsFirstRef parts_left) (λ y. read y.now) s (chunks read size n xs)
YieldsList-read_parts read size n xs {s} is =
    subst (YieldsList (YieldsFirstRef parts_left) (λ y. read y.now) s) (ap (map read) is ∙ map_chunks read size n xs)
    (YieldsList-from_shown (YieldsFirstRef parts_left) (λ y. read y.now) (λ t. map read (parts_left t)) (λ t u k. ap (λ ys. length (map read ys)) k.0) (λ t x u k. ap (map read) k) s)
