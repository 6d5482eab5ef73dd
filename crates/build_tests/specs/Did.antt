-- How a desk in use is after what is done to it, where a build answered, listed and kept what it should. Assumes nothing: these are definitions.
use Rattle.std.specs.Prelude.{◌≡◌, ℕ, ◌+◌, ◌*◌, List, [], ◌∷◌, nat_lt, vec_items, if◌then◌else◌}
use Rattle.rows.specs.Rows.{written_at}
use Rattle.items.specs.Rows.{item_size, max_items}
use Rattle.store.specs.Rows.{count_of}
use Rattle.build.specs.Build.{BuiltSo}
use Rattle.build.specs.declared.building.Answer.{Answer}
use Rattle.test_rows.specs.Laid.{Lists, script_numbers}
use Rattle.build_tests.specs.declared.deeds.Deed.{Deed}
use Rattle.build_tests.specs.declared.deeds.Deed.TheVariants.{Write, Give, Build}
use Rattle.build_tests.specs.declared.desk.DeskInUse.{DeskInUse}

-- item k holds these numbers; an item past the 256th is not written
abbrev pub with_item : ℕ → List ℕ → List ℕ → List ℕ
with_item k numbers row = if nat_lt k max_items then written_at row (1 + item_size * k) numbers else row

-- a build of item k answers this, and the desk's items stay
abbrev pub BuildTold : ℕ → Answer → DeskInUse → DeskInUse → Type 0
BuildTold k told d d₁ =
    (d₁.desk ≡ d.desk) × BuiltSo (vec_items d.desk.row) (vec_items d.rows) (vec_items d.ran) k told (vec_items d₁.rows) (vec_items d₁.ran)

-- this was to be answered, these items listed and so many entries left
abbrev pub AsSaid : Answer → Answer → List ℕ → ℕ → DeskInUse → Type 0
AsSaid told answer list kept d₁ = (told ≡ answer) × Lists (vec_items d₁.ran) list × (count_of (vec_items d₁.rows) ≡ kept)

-- each goes as it says
abbrev pub Did : Deed → DeskInUse → DeskInUse → Type 0
Did (Write k v) d d₁ = (vec_items d₁.desk.row ≡ with_item k (0 ∷ v ∷ []) (vec_items d.desk.row)) × (d₁.rows ≡ d.rows) × (d₁.ran ≡ d.ran)
Did (Give k ls) d d₁ =
    (vec_items d₁.desk.row ≡ with_item k (1 ∷ script_numbers ls.now) (vec_items d.desk.row)) × (d₁.rows ≡ d.rows) × (d₁.ran ≡ d.ran)
Did (Build k answer list kept) d d₁ = (told : Answer) × BuildTold k told d d₁ × AsSaid told answer list.now kept d₁

-- only a build can go otherwise
abbrev pub Otherwise : Deed → DeskInUse → DeskInUse → Type 0
Otherwise (Write k v) d d₁ = ⊥
Otherwise (Give k ls) d d₁ = ⊥
Otherwise (Build k answer list kept) d d₁ = (told : Answer) × BuildTold k told d d₁ × (AsSaid told answer list.now kept d₁ → ⊥)
