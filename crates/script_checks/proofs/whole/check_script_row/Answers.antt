use Rattle.std.proofs.Common.{◌≡◌, ℕ, ◌+◌, ◌*◌, ◌<◌, ◌≤◌, List, length, get_or, drop, sym, refl, ap, ◌∙◌, arith}
use Rattle.std.proofs.lemmas.List.{drop-drop}
use Rattle.std.proofs.lemmas.Result.{err_from_is_err_and}
use Rattle.rows.proofs.Chunks.{chunk_at, length_chunks}
use Rattle.script.specs.Allowed.{first_source, line_fault, sources_in}
use Rattle.script.specs.Layout.{line_size}
use Rattle.script.specs.declared.source.SourceLine.{SourceLine}
use Rattle.script_checks.proofs.Faults.{allowed, over, pass, refused, stop, too_many}
use Rattle.script_checks.proofs.whole.check_script_row.Goals as goal

count : (row : List ℕ) → length (sources_in row) ≡ get_or row 0 0
count row = length_chunks first_source line_size _ _

-- what was read at its place is the line there
read_there : (row : List ℕ) (i : ℕ) (l : SourceLine) → i < length (sources_in row) → l ≡ first_source (drop (1 + line_size * i) row) → l ≡ get_or (sources_in row) i l
read_there row i l inside is =
    is ∙ sym (chunk_at first_source line_size _ (drop 1 row) i l (rw count at inside) ∙ ap first_source (drop-drop (line_size * i) 1 row))

pub returns-then-count-gt-MAX_LINES : goal.returns-then-count-gt-MAX_LINES
returns-then-count-gt-MAX_LINES c =
    let fault = too_many (sources_in c.args.script.now) (omega (arith, count c.args.script.now, c.number_after-count.ensures, c.if-count-gt-MAX_LINES.true)) in
    record { fault = fault; exactly = refused _ _ fault }

pub loop-index-init : goal.loop-index-init
loop-index-init c = record { few = omega (arith, count c.args.script.now, c.number_after-count.ensures); same = refl }

pub returns-in_err-check : goal.returns-in_err-check
returns-in_err-check c =
    let p = err_from_is_err_and c.from_residual.result c.from_residual.ensures.1 in
    let row = c.args.script.now in
    let inside : c.loop-index.index < length (sources_in row) = omega (arith, count row, c.number_after-count.ensures) in
    let here = c.in_err-check.ensures.fault ∙ ap (line_fault _) (read_there row _ _ inside c.read-line.ensures) in
    let fault = stop _ _ c.loop-index.invariant _ _ inside here in
    rw (p.1, p.2) (record { fault = fault; exactly = refused _ _ fault })

pub loop-index-preserved : goal.loop-index-preserved
loop-index-preserved c =
    let row = c.args.script.now in
    let inside : c.loop-index.index < length (sources_in row) = omega (arith, count row, c.number_after-count.ensures) in
    pass _ _ c.loop-index.invariant _ inside (c.in_ok-check.ensures.fault ∙ ap (line_fault _) (read_there row _ _ inside c.read-line.ensures))

pub returns : goal.returns
returns c =
    let past : length (sources_in c.args.script.now) ≤ c.loop-index.index = omega (arith, count c.args.script.now, c.number_after-count.ensures) in
    let fault = over _ _ c.loop-index.invariant past in
    record { fault = fault; exactly = allowed _ fault }
