-- The rows of two houses. Assumes nothing: this is a definition.
use Rattle.std.specs.Prelude.{◌≡◌, vec_items}
use Rattle.house.specs.declared.owned.House.{House}

abbrev pub SameRows : House → House → Type 0
SameRows h h₁ = (vec_items h.desks ≡ vec_items h₁.desks) × (vec_items h.rows ≡ vec_items h₁.rows) × (vec_items h.ran ≡ vec_items h₁.ran)
