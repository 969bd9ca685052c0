-- The diagnostics of the language as the records of the log.
use Rattle.std.specs.Prelude.{List, map}
use Rattle.language.specs.Assembly.{Diagnostic as Found}
use Rattle.diag.specs.declared.Span.{Span}
use Rattle.diag.specs.declared.Diagnostic.{Diagnostic}
unfoldable pub use Rattle.language.specs.Layout.{record_of}

-- the records of a list of diagnostics
unfoldable pub records_of : List (Found Span) → List Diagnostic
unfolding record_of
records_of ds = map record_of ds
