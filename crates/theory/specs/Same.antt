-- Whether two scripts are line for line the same, computed. Assumes nothing: these are definitions.
use Rattle.std.specs.Prelude.{Bool, true, false, ◌&&◌, List, [], ◌∷◌, nat_eq}
use Rattle.script.specs.Rows.{line_out}
use Rattle.script.specs.Rule.{Script}
use Rattle.script.specs.declared.line.Line.{Line}

unfoldable pub same_by : {A : Type 0} → (A → A → Bool) → List A → List A → Bool
same_by same [] [] = true
same_by same [] (y ∷ ys) = false
same_by same (x ∷ xs) [] = false
same_by same (x ∷ xs) (y ∷ ys) = same x y && same_by same xs ys

-- lines are the same if they are written down alike
abbrev pub same_line : Line → Line → Bool
same_line l m = same_by nat_eq (line_out l) (line_out m)

abbrev pub same_script : Script → Script → Bool
same_script s r = same_by same_line s r
