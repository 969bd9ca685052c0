-- The lines that are written, computed: each reads without a diagnostic, expands to its number and has 15 + 2 h bytes at most.
use Prim.Native.Nat.{ℕ, ◌+◌, ◌*◌, ◌≤◌, ◌<◌}
use native.Mathlib.Omega.{arith}
use mathlib.Core.Bool.{Bool, true, false, ◌&&◌}
use mathlib.Core.List.{List, [], ◌∷◌}
use mathlib.Core.Path.{◌≡◌, refl, ◌∙◌}
use borrow.Author.Tests.{eqb-true, leb-true}
use lib.Dec.{eqb, leb}
use lib.ListN.{length}
use Rattle.chars.specs.Utf8.{decode}
use Rattle.lexer.specs.Tokens.{Span}
use Rattle.lexer.proofs.Keywords.{all_below, all_below_lem}
use Rattle.language.specs.Lines.{read_lines}
use Rattle.language.specs.Assembly.{Diagnostic, diagnostics, body_of, kept, items, blank_of}
use Rattle.language.specs.Infer.{machine_of}
use Rattle.language.specs.Outcome.{admitted}
use Rattle.language.proofs.Counts.{rule_count, rules-length}
use Rattle.language.proofs.Every.{and_left, and_right}
use Rattle.longest.specs.Most.{rules_of, is_line, Reads, is_rule}
use Rattle.longest.specs.Line.{set_of, reads_of, same_of, parted, line_for, product_of, number_for}

abbrev none_of : List (Diagnostic Span) → Bool
none_of [] = true
none_of (d ∷ ds) = false

none_nil : (l : List (Diagnostic Span)) → none_of l ≡ true → l ≡ []
none_nil [] e = refl
none_nil (d ∷ ds) e = absurd (let z : ◌≡◌ {A = ℕ} 0 1 = cc in omega arith)

unfoldable pub count_of : List ℕ → ℕ
unfolding read_lines decode body_of kept rule_count
count_of t = rule_count (kept 0 ((body_of (read_lines (decode t))).rules))

pub count_rules : (t : List ℕ) → rules_of t ≡ count_of t
unfolding rules_of count_of machine_of
count_rules t = rules-length (blank_of (items (read_lines (decode t)))) (kept 0 ((body_of (read_lines (decode t))).rules))

test : ℕ → Bool
unfolding line_for set_of reads_of same_of parted number_for product_of read_lines decode diagnostics admitted count_of
test h =
    let l = line_for h in
    let ls = read_lines (decode l) in
    leb (length l) (15 + 2 * h) && (is_line l && (admitted l && (none_of (diagnostics ls) && (is_rule ls && eqb (count_of l) (number_for h)))))

tests : all_below test 41 ≡ true
unfolding test
tests = refl

module _ (h : ℕ) (a : h < 41) where
  passed : test h ≡ true
  passed = all_below_lem test 41 tests h a

  pub line_length : length (line_for h) ≤ 15 + 2 * h
  unfolding test
  line_length = leb-true (length (line_for h)) (15 + 2 * h) (and_left _ _ passed)

  pub line_one : is_line (line_for h) ≡ true
  unfolding test
  line_one = and_left _ _ (and_right (leb (length (line_for h)) (15 + 2 * h)) _ passed)

  pub line_reads : Reads (line_for h)
  unfolding test
  line_reads =
      let x = and_right (is_line (line_for h)) _ (and_right (leb (length (line_for h)) (15 + 2 * h)) _ passed) in
      record { is_admitted = and_left _ _ x; no_diagnostic = none_nil (diagnostics (read_lines (decode (line_for h)))) (and_left _ _ (and_right (admitted (line_for h)) _ x)) }

  pub line_rules : rules_of (line_for h) ≡ number_for h
  unfolding test
  line_rules =
      let x = and_right (is_line (line_for h)) _ (and_right (leb (length (line_for h)) (15 + 2 * h)) _ passed) in
      let y = and_right (none_of (diagnostics (read_lines (decode (line_for h))))) _ (and_right (admitted (line_for h)) _ x) in
      count_rules (line_for h) ∙ eqb-true (count_of (line_for h)) (number_for h) (and_right (is_rule (read_lines (decode (line_for h)))) _ y)

  pub line_rule : is_rule (read_lines (decode (line_for h))) ≡ true
  unfolding test
  line_rule =
      let x = and_right (is_line (line_for h)) _ (and_right (leb (length (line_for h)) (15 + 2 * h)) _ passed) in
      and_left _ _ (and_right (none_of (diagnostics (read_lines (decode (line_for h))))) _ (and_right (admitted (line_for h)) _ x))
