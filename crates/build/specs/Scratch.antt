-- What the scratch of one build holds of each item. Assumes nothing: these are definitions.
use Rattle.std.specs.Prelude.{ℕ, zero, suc, ◌+◌, replicate, slice_index_or, slice_set}
use Rattle.items.specs.Rows.{max_items}
use Rattle.build.specs.declared.scratch.Scratch.{Scratch}
use Rattle.build.specs.declared.scratch.State.{State}
use Rattle.build.specs.declared.scratch.State.TheVariants.{Found, Open, Ran, Unseen}

abbrev pub fresh : Scratch
fresh = record { states = replicate max_items Unseen }

abbrev pub state_of : Scratch → ℕ → State
state_of σ j = slice_index_or σ.states j Unseen

abbrev pub marked : Scratch → ℕ → State → Scratch
marked σ j t = record { states = slice_set σ.states j t }

abbrev pub one_unseen : State → ℕ
one_unseen Unseen = 1
one_unseen Open = 0
one_unseen (Found v) = 0
one_unseen (Ran v row) = 0

-- how many of the first n items were not seen
unfoldable pub unseen : ℕ → Scratch → ℕ
unseen zero σ = 0
unseen (suc n) σ = unseen n σ + one_unseen (state_of σ n)
