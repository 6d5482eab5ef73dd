use Rattle.std.proofs.Common.{◌≡◌, ℕ, ◌<◌, List, get_or, take, rules, refl, arith, vec_items}
use Rattle.std.proofs.lemmas.List.{get_or-take}
use Rattle.script.specs.Allowed.{first_source}
use Rattle.script.specs.Layout.{line_size}
use Rattle.capi.proofs.Chains.{collected}
use Rattle.capi.proofs.pieces.read_lines.Goals as goal

first_local : (xs : List ℕ) → first_source xs ≡ first_source (take line_size xs)
first_local xs =
    let same : (j : ℕ) → j < line_size → get_or (take line_size xs) j 0 ≡ get_or xs j 0 = λ j h. get_or-take line_size xs j 0 h in
    rw (same 0 (omega arith), same 1 (omega arith), same 2 (omega arith), same 3 (omega arith)) refl

pub returns : goal.returns
returns c = collected first_source line_size first_local vec_items c.collect.result c.args.numbers.now (search rules) (search rules)
