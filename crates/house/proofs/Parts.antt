-- A desk's part of the row of all desks. Assumes nothing.
use Rattle.std.proofs.Common.{◌≡◌, ℕ, ◌+◌, ◌-◌, ◌*◌, ◌≤◌, Bool, true, false, cond, ltb, List, length, take, drop, Some, None, sym, refl, ap, ◌∙◌, mul-suc, add-one, arith}
use borrow.Rule.Slice.PartMut.{put_mid}
use Rattle.std.proofs.lemmas.List.{drop-drop}
use Rattle.std.proofs.lemmas.Bool.{and_parts, cond-false, cond-true, leb-true}
use Rattle.items.specs.Rows.{has_item, rewritten}
use Rattle.theory.specs.Items.{Item}
use Rattle.items.proofs.Placed.{told}
use Rattle.script.specs.declared.refusal.Refusal.TheVariants.{NoSuchItem}
use Rattle.house.specs.DeskFaults.{Stands, desk_fault}
use Rattle.house.specs.Desks.{desk_part, desk_size, has_desk, with_desk}
use Rattle.std.specs.declared.ops.Range.{Range}
use Rattle.house.specs.declared.size.HouseSize.{HouseSize}

module _ (z : HouseSize) (row : List ℕ) (x : ℕ) (start end : ℕ) (from : start ≡ desk_size z.items * x) (to : end ≡ desk_size z.items * (x + 1)) where
  next : desk_size z.items * (x + 1) ≡ desk_size z.items * x + desk_size z.items
  next = ap (λ m. desk_size z.items * m) (add-one x) ∙ mul-suc (desk_size z.items) x

  long : end - start ≡ desk_size z.items
  long = omega (arith, next)

  -- what lies between is the desk
  pub cut_out : take (end - start) (drop start row) ≡ desk_part z row x
  cut_out = rw (long, from) refl

  -- and another part laid there is the desk's
  pub laid_in : (part : List ℕ) → put_mid start (end - start) row part ≡ with_desk z row x part
  laid_in part = rw (long, from, drop-drop, ← next) refl

-- what a span that was told says
pub spanned : (z : HouseSize) (row : List ℕ) (x : ℕ) (s : Range ℕ) → Some s ≡ cond (has_desk z row x) (Some (record { start = desk_size z.items * x; end = desk_size z.items * (x + 1) })) None → (has_desk z row x ≡ true) × (s.start ≡ desk_size z.items * x) × (s.end ≡ desk_size z.items * (x + 1)) × (s.end ≤ length row)
spanned z row x s e =
    let is = told (has_desk z row x) s _ e in
    let to = ap (λ t. t.end) is.1 in
    let room = leb-true (desk_size z.items * (x + 1)) (length row) (and_parts (ltb x z.desks) _ is.0).1 in
    (is.0, ap (λ t. t.start) is.1, to, omega arith)

pub no_item : (z : HouseSize) (row : List ℕ) (x k : ℕ) → has_desk z row x ≡ true → has_item (desk_part z row x) k ≡ false → Some (NoSuchItem k) ≡ desk_fault z row x k
no_item z row x k desk item = sym (cond-true _ _ _ desk ∙ cond-false _ _ _ item)

pub both_there : (z : HouseSize) (row : List ℕ) (x k : ℕ) → has_desk z row x ≡ true → has_item (desk_part z row x) k ≡ true → None ≡ desk_fault z row x k
both_there z row x k desk item = sym (cond-true _ _ _ desk ∙ cond-true _ _ _ item)

-- an item of the desk that is written anew in the desk's part, under a test that holds
pub rewritten_in : (z : HouseSize) (row : List ℕ) (x k : ℕ) (s : Range ℕ) → Stands z row x k s → (b : Bool) (i : Item) {part : List ℕ} → b ≡ true → part ≡ cond b (rewritten (take (s.end - s.start) (drop s.start row)) k i) (take (s.end - s.start) (drop s.start row)) → put_mid s.start (s.end - s.start) row part ≡ with_desk z row x (rewritten (desk_part z row x) k i)
rewritten_in z row x k s there b i {part} holds is =
    laid_in z row x s.start s.end there.start there.end part
    ∙ ap (with_desk z row x) (is ∙ cond-true _ _ _ holds ∙ ap (λ xs. rewritten xs k i) (cut_out z row x s.start s.end there.start there.end))
