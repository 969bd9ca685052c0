-- Laws of a step over one line: what it took is the line's diagnostic.
use mathlib.Core.Path.{◌≡◌, ap, ◌∙◌}
use mathlib.Core.Bool.{Bool}
use mathlib.Core.List.{List, ◌++◌}
use Prim.Native.Nat.{ℕ, ◌≤◌}
use lib.ListN.{length, replicate}
use Rattle.diag.specs.declared.Span.{Span}
use Rattle.diag.specs.declared.Diagnostic.{Diagnostic}
use Rattle.diag.specs.declared.log.Log as D
use Rattle.diag.specs.Log.{logged, append_all}
use Rattle.diag.specs.Appends.{Appends}
use Rattle.tokens.specs.declared.Token.{Token}
use Rattle.parser.specs.Row.{peek}
use Rattle.assembler.specs.Rows.{place_of}
use Rattle.assembler.specs.Entries.{Entry, entry_at}
use Rattle.assembler.specs.Failures.{line_error}
use Rattle.assembler.specs.Finals.{name_at, final_error_at}
use Rattle.assembler.specs.declared.finals.Names.{Names}
use Rattle.assembler.specs.Marked.{row_of, Marked}
use Rattle.assembler.specs.Rules.{verdict, rule_error}
use Rattle.assembler.specs.declared.rules.Verdict.{Verdict}
use Rattle.assembler.proofs.FailureLaws.{line_error-one}
use Rattle.assembler.proofs.FinalLaws.{at_most_final}
use Rattle.assembler.proofs.RuleLaws.{one-rule}
use Rattle.diag_search.specs.declared.Search.{Search}
use Rattle.diag_search.specs.declared.Step.{Step}
use Rattle.diag_search.specs.Cursor.{stepped, taken}
use Rattle.diag_search.specs.Repeats.{name_error}
use Rattle.diag_search.proofs.Taken.{taken_is, given_log}
use Rattle.diag_search.proofs.NameLaws.{one_name}

module _ (r : Step) (q : Search) (g : List ℕ) (n : ℕ) (made : r ≡ stepped q g n) where
  took : (ds : List Diagnostic) → logged g n ≡ append_all (logged (replicate 5 0) 0) ds → length ds ≤ 1 → taken r ≡ ds
  took ds e h = ap taken made ∙ taken_is q g n ds e h

  pub took_failure : (ts : List Token) (i : ℕ) (t : Token) → t ≡ peek ts i → logged g n ≡ append_all (logged (replicate 5 0) 0) (line_error t) → taken r ≡ line_error (peek ts i)
  took_failure ts i t at e = took (line_error t) e (line_error-one t) ∙ ap line_error at

  pub took_name : (ts : List Token) (first : List ℕ) (x : Entry) → logged g n ≡ append_all (logged (replicate 5 0) 0) (name_error ts first x) → taken r ≡ name_error ts first x
  took_name ts first x e = took (name_error ts first x) e (one_name ts first x)

  -- what a step over a token of F's line took
  pub took_listed : (names : Names) (marks v : List ℕ) (d : Bool) (i : ℕ) (l₀ l : D.Log) → logged l₀.row.now l₀.count ≡ logged (replicate 5 0) 0 → g ≡ l.row.now → n ≡ l.count
      → ((qs before : List ℕ) → Marked names marks qs before
      → Appends l₀ l (final_error_at names.text.now (row_of names) d qs before i) × Marked names v qs (before ++ name_at i (peek (row_of names) i)))
      → (qs before : List ℕ) → Marked names marks qs before
      → (taken r ≡ final_error_at names.text.now (row_of names) d qs before i) × Marked names v qs (before ++ name_at i (peek (row_of names) i))
  took_listed names marks v d i l₀ l b eg en f qs before m =
      let x = f qs before m in
      let ds : List Diagnostic = final_error_at names.text.now (row_of names) d qs before i in
      (took ds (given_log l₀ l ds g n b x.0 eg en) (at_most_final names.text.now (row_of names) d qs before i), x.1)

  -- what a step over a rule took
  module _ (ts : List Token) (s : Search) (t : Token) (v : Verdict) (et : t ≡ peek ts s.at) (ev : v ≡ verdict s.tally.rules (entry_at ts s.at)) where
    pub took_rule : (p : Span) → p ≡ place_of t → logged g n ≡ append_all (logged (replicate 5 0) 0) (rule_error v s.tally.cut p)
        → taken r ≡ rule_error (verdict s.tally.rules (entry_at ts s.at)) s.tally.cut (place_of (peek ts s.at))
    took_rule p ep eg =
        took (rule_error v s.tally.cut p) eg (one-rule v s.tally.cut p) ∙ ap (λ (p : Span). rule_error v s.tally.cut p) (ep ∙ ap place_of et)
        ∙ ap (λ (v : Verdict). rule_error v s.tally.cut (place_of (peek ts s.at))) ev
