use Rattle.std.proofs.Common.{◌≡◌, ◌++◌, take, string_bytes}
use Rattle.std.specs.List.{flat_map}
use Rattle.report.specs.Text.{item_text}
use Rattle.report.proofs.lines.with_list.Given as goal

-- the items so far stand behind the line
abbrev pub invariant-loop-item : goal.invariant-loop-item
invariant-loop-item l = string_bytes l.line ≡ string_bytes l.initial.line ++ flat_map item_text (take l.item-index l.ran)
