-- What a command says, apart from where its parts lie in memory. Assumes nothing: these are definitions.
use Rattle.std.specs.Prelude.{ℕ, List, vec_items}
use Rattle.script.specs.Rule.{Value}
use Rattle.script.specs.declared.source.SourceLine.{SourceLine}
use Rattle.entry.specs.declared.asking.Asking.{Asking}
use Rattle.house.specs.declared.command.Command.{Command}
use Rattle.house.specs.declared.command.Command.TheVariants.{Write, Script, Build, Remove, Import}

pub data Deed : Type 0 where
  write : ℕ → ℕ → Value → Deed  -- at a desk, an item becomes this number
  give : ℕ → ℕ → List SourceLine → Deed  -- at a desk, an item is made by this script
  build : ℕ → ℕ → Deed  -- at a desk, build an item
  forget : ℕ → Deed  -- an entry of the store goes
  bring : List SourceLine → List Asking → Value → Deed  -- an entry from elsewhere: script, askings, result

abbrev pub deed_of : Command → Deed
deed_of (Write x k v) = write x k v
deed_of (Script x k ls) = give x k (vec_items ls)
deed_of (Build x k) = build x k
deed_of (Remove i) = forget i
deed_of (Import ls qs v) = bring (vec_items ls) (vec_items qs) v
