use Rattle.std.proofs.Common.{◌≡◌, ◌+◌, ◌<◌, [], ◌∷◌, ◌++◌, length, slice_index_or, slice_set, sym, subst}
use Rattle.items.specs.Listing.{listed}
use Rattle.items.proofs.Pushing.{listed_push, room_behind}
use Rattle.items.proofs.listing.push.Goals as goal

pub returns : goal.returns
returns c = λ list before is.
    let room = subst (λ row. slice_index_or row 0 0 + 1 < length row) is c.requires in
    subst
    (λ row. slice_set (slice_set row 0 (slice_index_or row 0 0 + 1)) (slice_index_or (slice_set row 0 (slice_index_or row 0 0 + 1)) 0 0) c.args.number ≡ listed (list ++ c.args.number ∷ []) before)
    (sym is)
    (listed_push list before c.args.number (room_behind list before room))
