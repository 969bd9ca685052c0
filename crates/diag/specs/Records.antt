-- Paper 01, "The records": a diagnostic as five words, and a log as the words of one diagnostic behind the other.
use Rattle.std.specs.Prelude.{ℕ, zero, suc, ◌+◌, List, [], ◌∷◌, ◌++◌, get_or, drop}
use Rattle.diag.specs.declared.Diagnostic.{Diagnostic}

-- a record: code, place, related place
abbrev pub words : Diagnostic → List ℕ
words d = d.code ∷ d.span.start ∷ d.span.end ∷ d.related.start ∷ d.related.end ∷ []

-- the records of a list of diagnostics
unfoldable pub flat : List Diagnostic → List ℕ
flat [] = []
flat (d ∷ ds) = words d ++ flat ds

-- the diagnostic whose record begins at a word; a word past the end counts as 0
abbrev pub record_from : List ℕ → ℕ → Diagnostic
record_from w o = record {
  code = get_or w o 0;
  span = record { start = get_or w (o + 1) 0; end = get_or w (o + 2) 0 };
  related = record { start = get_or w (o + 3) 0; end = get_or w (o + 4) 0 };
}

-- the first n diagnostics that words hold
unfoldable pub records : ℕ → List ℕ → List Diagnostic
records zero w = []
records (suc n) w = record_from w 0 ∷ records n (drop 5 w)
