-- Lines and askings that are lent one behind the other, as many as are whole. Assumes nothing: these are definitions.
use Rattle.std.specs.Prelude.{ℕ, ◌/◌, List, length}
use Rattle.rows.specs.Rows.{chunks}
use Rattle.script.specs.Allowed.{first_source}
use Rattle.script.specs.Layout.{line_size}
use Rattle.script.specs.declared.source.SourceLine.{SourceLine}
use Rattle.entry.specs.Layout.{asking_size}
use Rattle.entry.specs.Rows.{first_asking}
use Rattle.entry.specs.declared.asking.Asking.{Asking}

abbrev pub lines_from : List ℕ → List SourceLine
lines_from xs = chunks first_source line_size (length xs / line_size) xs

abbrev pub askings_from : List ℕ → List Asking
askings_from xs = chunks first_asking asking_size (length xs / asking_size) xs
