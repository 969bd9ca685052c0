-- The beginning of a search: what it finds is what assembly finds, the diagnostics of the text.
use mathlib.Core.Path.{◌≡◌, refl, sym, ap, ◌∙◌}
use mathlib.Core.Bool.{false}
use mathlib.Core.List.{List, ◌++◌, map}
use Prim.Native.Nat.{ℕ, ◌≤◌}
use native.Mathlib.Omega.{arith}
use lib.ListN.{length}
use Rattle.chars.specs.Utf8.{decode}
use Rattle.lexer.specs.Tokens.{tokens}
use Rattle.tokens.specs.declared.Token.{Token}
use Rattle.parser.specs.Meaning.{token_of}
use Rattle.diag.specs.declared.Diagnostic.{Diagnostic}
use Rattle.assembler.specs.declared.Assembled.{Assembled}
use Rattle.assembler.specs.Rows.{rows}
use Rattle.assembler.specs.Entries.{Entry, entries}
use Rattle.assembler.specs.Entered.{entered}
use Rattle.assembler.specs.Failures.{line_errors}
use Rattle.assembler.specs.Declarations.{undeclared, declarations}
use Rattle.assembler.specs.Finals.{finals_errors, Laid}
use Rattle.assembler.specs.Rules.{no_rules, rule_errors}
use Rattle.assembler.specs.Assembled.{Tokenized, Outcome, row_diagnostics, words_from, marks_from}
use Rattle.assembler.proofs.Rows.{length-rows}
use Rattle.assembler.proofs.AssembledLaws.{row_mean, passes_laid}
use Rattle.diag_search.specs.declared.Pass.TheVariants.{Failures}
use Rattle.diag_search.specs.declared.Search.{Search}
use Rattle.diag_search.specs.Repeats.{name_errors}
use Rattle.diag_search.specs.Pending.{pending_in, passes_left}
use Rattle.diag_search.specs.Stands.{Started}
use Rattle.diag_search.proofs.RepeatLaws.{repeats}

-- the search at its beginning
abbrev beginning : ℕ → Assembled → Search
beginning count r = record { count = count; first = r.first; errors = r.errors; rules = r.rules; pass = Failures; at = 0; tally = record { rules = 0; cut = false } }

-- what the search at its beginning finds in a row
row_found : (text : List ℕ) (ts : List Token) (count : ℕ) (r : Assembled) → length ts ≡ count → count ≤ 0xffffffff → r.first ≡ declarations count undeclared (entries ts)
    → pending_in text ts (beginning count r) ≡ row_diagnostics text ts
unfolding pending_in row_diagnostics entries
row_found text ts count r size few e =
    let es : List Entry = entries ts in
    let first : r.first ≡ declarations (length ts) undeclared es = e ∙ ap (λ (n : ℕ). declarations n undeclared es) (sym size) in
    let rules : List Diagnostic = rule_errors no_rules es in
    let all : List ℕ = declarations (length ts) undeclared es in
    ap (λ (f : List ℕ). line_errors es ++ (name_errors ts f es ++ (finals_errors text ts f ++ rules))) first
    ∙ ap (λ (ds : List Diagnostic). line_errors es ++ (ds ++ (finals_errors text ts all ++ rules))) (sym (repeats ts (omega arith)))

pub started : (text : List ℕ) (count : ℕ) (w₀ w log₀ log : List ℕ) (r : Assembled) → Tokenized text count w₀ → Outcome text count w₀ w log₀ log r
    → Started text count w₀ w (record { count = count; first = r.first; errors = r.errors; rules = r.rules; pass = Failures; at = 0; tally = record { rules = 0; cut = false } })
started text count w₀ w log₀ log r p o =
    let laid : Laid count (words_from (length text)) (marks_from (length text)) w = passes_laid text count w₀ w p o.entered in
    let size : length (rows count w) ≡ count = length-rows count w (omega (arith, laid.tokens, laid.words, laid.marks)) in
    let row : rows count w ≡ entered (map token_of (tokens (decode text))) = o.entered.row ∙ ap entered p.row in
    let few : length (entered (map token_of (tokens (decode text)))) ≤ 0xffffffff = omega (arith, ap length row, laid.few) in
    record {
      many = refl;
      errors = o.errors;
      rules = o.rules;
      entered = o.entered;
      named = o.named;
      first = o.first;
      stands = record {
        laid = laid;
        names = o.named.listed;
        tally = omega arith;
        behind = λ e. absurd (let z : 3 ≡ 1 = ap passes_left e in omega arith);
        marks = λ e. absurd (let z : 3 ≡ 1 = ap passes_left e in omega arith);
      };
      whole = row_found text (rows count w) count r size (omega (arith, laid.few)) o.first ∙ ap (row_diagnostics text) row ∙ row_mean text few;
    }
