use Rattle.std.proofs.Common.{◌≡◌, ℕ, ◌+◌, ◌*◌, ◌<◌, ◌≤◌, List, length, get_or, sym, refl, ap, ◌∙◌, arith}
use Rattle.std.proofs.lemmas.List.{take_all, take_more_same}
use Rattle.std.proofs.lemmas.Bool.{false≢true}
use Rattle.script.specs.Layout.{line_size}
use Rattle.script.specs.Rows.{line_at, script_in}
use Rattle.script.specs.declared.line.Line.{Line}
use Rattle.script.specs.declared.line.Line.TheVariants.{Give}
use Rattle.script.proofs.Lines.{script_at}
use Rattle.script_rows.proofs.comparing.same_script.Goals as goal

no_line : Line
no_line = Give 0

-- the same line at the same place of the two rows is the same line of the two scripts
same_at : (xs ys : List ℕ) (i : ℕ) (d : Line) → i < length (script_in xs) → i < length (script_in ys) → line_at xs (1 + line_size * i) ≡ line_at ys (1 + line_size * i) → get_or (script_in xs) i d ≡ get_or (script_in ys) i d
same_at xs ys i d h k same = script_at xs i d h ∙ same ∙ sym (script_at ys i d k)

at_same : (xs ys : List ℕ) (i : ℕ) (d : Line) → i < length (script_in xs) → script_in xs ≡ script_in ys → line_at xs (1 + line_size * i) ≡ line_at ys (1 + line_size * i)
at_same xs ys i d h same =
    let k : i < length (script_in ys) = rw same at h in
    sym (script_at xs i d h) ∙ ap (λ s. get_or s i d) same ∙ script_at ys i d k

pub returns-then-not-same_line : goal.returns-then-not-same_line
returns-then-not-same_line c =
    let inside : c.loop-index.index < length (script_in c.args.left.now) = omega (arith, c.line_count-count.ensures.value) in
    (λ no_way. absurd (false≢true no_way), λ same. c.if-not-same_line.ensures.1 (at_same c.args.left.now c.args.right.now _ no_line inside same))

pub loop-index-preserved : goal.loop-index-preserved
loop-index-preserved c =
    let inside : c.loop-index.index < length (script_in c.args.left.now) = omega (arith, c.line_count-count.ensures.value) in
    let across : c.loop-index.index < length (script_in c.args.right.now) = omega (arith, c.line_count.ensures.value, c.if-count-line_count.false) in
    let same = same_at c.args.left.now c.args.right.now _ no_line inside across (c.if-not-same_line.ensures.0 refl) in
    take_more_same _ _ _ no_line inside across c.loop-index.invariant same

pub returns : goal.returns
returns c =
    let left : length (script_in c.args.left.now) ≤ c.loop-index.index = omega (arith, c.line_count-count.ensures.value) in
    let right : length (script_in c.args.right.now) ≤ c.loop-index.index = omega (arith, c.line_count.ensures.value, c.if-count-line_count.false) in
    (λ _. sym (take_all _ _ left) ∙ c.loop-index.invariant ∙ take_all _ _ right, λ _. refl)
