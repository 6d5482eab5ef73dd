-- The kinds of commands and their bytes. Assumes nothing: these are definitions.
use Rattle.std.specs.Prelude.{◌≡◌, ℕ, ◌<◌, Result, MatchResult}
use Rattle.dayfile.specs.declared.kind.Kind.{Kind}
use Rattle.dayfile.specs.declared.kind.Kind.TheVariants.{Build, Import, Remove, Script, Write}
use Rattle.dayfile.specs.declared.kind.UnknownKind.{UnknownKind}

-- the byte that names a kind
abbrev pub byte_of : Kind → ℕ
byte_of Write = 0
byte_of Script = 1
byte_of Build = 2
byte_of Remove = 3
byte_of Import = 4

-- the kind that the byte names, or none, above the last
abbrev pub Decodes : ℕ → Result Kind UnknownKind → Type 0
Decodes byte r = MatchResult r (λ kind. byte ≡ byte_of kind) (λ _. 4 < byte)
