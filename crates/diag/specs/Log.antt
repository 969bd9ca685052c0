-- How the code keeps a log: no promise to callers cites this file. The words of a record are in Records.
use Rattle.std.specs.Prelude.{ℕ, ◌+◌, ◌-◌, ◌*◌, ◌/◌, cond, List, [], ◌∷◌, ◌++◌, leb, length, take, drop, replicate}
use Rattle.std.proofs.lemmas.List.Edits.{sets}
use Rattle.diag.specs.Sort.{sort_by}
use Rattle.diag.specs.declared.Span.{Span}
use Rattle.diag.specs.declared.Diagnostic.{Diagnostic}
unfoldable pub use Rattle.diag.specs.Records.{words, flat, record_from, records}

-- the place that stands for none
abbrev pub none : Span
none = record { start = 4294967295; end = 4294967295 }

-- an error at a place, with no related place
abbrev pub error : ℕ → Span → Diagnostic
error c p = record { code = c; span = p; related = none }

-- a diagnostic as it is, but for its related place
abbrev pub with_related : Diagnostic → Span → Diagnostic
with_related d p = record { code = d.code; span = d.span; related = p }

-- the record that is all zero
abbrev pub unused : Diagnostic
unused = record { code = 0; span = record { start = 0; end = 0 }; related = record { start = 0; end = 0 } }

-- the diagnostics that all whole records of a row of words hold, and the words behind these records
abbrev pub whole : List ℕ → List Diagnostic
whole w = records (length w / 5) w

abbrev pub behind : List ℕ → List ℕ
behind w = drop (5 * (length w / 5)) w

-- where a diagnostic starts
abbrev pub start_of : Diagnostic → ℕ
start_of d = d.span.start

-- diagnostics by where they start, equal starts in the order of the list
abbrev pub sort : List Diagnostic → List Diagnostic
sort ds = sort_by start_of ds

-- diagnostics of which those from s up to n were sorted
abbrev pub part_sorted : ℕ → ℕ → List Diagnostic → List Diagnostic
part_sorted s n ds = take s ds ++ (sort (drop s (take n ds)) ++ drop n ds)

-- the records of ds in front of zeros, n words in all
unfoldable pub padded : ℕ → List Diagnostic → List ℕ
unfolding flat
padded n ds = flat ds ++ replicate (n - 5 * length ds) 0

-- what a log of n words holds for a list of diagnostics: all of them, or none if it has fewer records (paper 01: refusal 5)
unfoldable pub log_after : ℕ → List Diagnostic → List ℕ
unfolding padded
log_after n ds = cond (leb (5 * length ds) n) (padded n ds) (replicate n 0)

-- a log that is being written: its words, and how many diagnostics it was given
pub record Log : Type 0 where
  pub row : List ℕ
  pub count : ℕ

-- the words w with the count n
abbrev pub logged : List ℕ → ℕ → Log
logged w n = record { row = w; count = n }

-- one diagnostic more: stored where a whole record is left, counted in any case
unfoldable pub appended : Log → Diagnostic → Log
appended l d = record {
  row = cond (leb (5 * l.count + 5) (length l.row)) (sets l.row (5 * l.count) (words d)) l.row;
  count = l.count + 1;
}

-- diagnostics appended one after another
unfoldable pub append_all : Log → List Diagnostic → Log
unfolding appended
append_all l [] = l
append_all l (d ∷ ds) = append_all (appended l d) ds
