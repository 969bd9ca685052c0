-- The diagnostics of the lines that failed.
use Rattle.std.specs.Prelude.{◌-◌, cond, List, [], ◌∷◌, ◌++◌, leb}
use Rattle.tokens.specs.declared.Token.{Token}
use Rattle.diag.specs.declared.Diagnostic.{Diagnostic}
use Rattle.diag.specs.Log.{error}
use Rattle.assembler.specs.Rows.{place_of}
use Rattle.assembler.specs.Entries.{Entry}
use Rattle.assembler.specs.EntryNumbers as entry

-- a failure's code and place
unfoldable pub line_error : Token → List Diagnostic
line_error t = cond (leb entry.failed t.kind) (error (t.kind - entry.failed) (place_of t) ∷ []) []

-- the diagnostics of all lines that failed
unfoldable pub line_errors : List Entry → List Diagnostic
unfolding line_error
line_errors [] = []
line_errors (e ∷ es) = line_error e.first ++ line_errors es
