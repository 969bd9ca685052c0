-- No text of at most n bytes expands to more rules than the line that is written.
use Prim.Native.Nat.{ℕ, suc, ◌+◌, ◌-◌, ◌*◌, ◌/◌, ◌≤◌, ◌<◌}
use native.Mathlib.Omega.{arith}
use native.Mathlib.Nat.{le_trans}
use mathlib.Core.Bool.{Bool, true, false, ◌&&◌}
use mathlib.Core.List.{List, [], ◌∷◌}
use mathlib.Core.Path.{◌≡◌, refl, sym, ap, subst}
use borrow.Author.Tests.{leb-true, ltb-true, eqb-true, lt-ltb}
use lib.Dec.{eqb, leb, ltb}
use lib.ListN.{length}
use Rattle.chars.specs.Utf8.{decode, valid_up_to}
use Rattle.chars.proofs.Theorems.{valid_le}
use Rattle.lexer.specs.Tokens.{tokens}
use Rattle.lexer.proofs.Keywords.{all_below, all_below_lem}
use Rattle.language.specs.Lines.{lines, covering, read_lines}
use Rattle.language.specs.Assembly.{RuleLine, combinations, kept, verdict, expands, body_of}
use Rattle.language.proofs.Every.{and_left, and_right}
use Rattle.language.proofs.Counts.{Fits, by_verdict, kept_fits, rule_count}
use Rattle.longest.proofs.Weights.{weigh, tokens_weigh}
use Rattle.longest.proofs.ParseCosts.{over, reads_over, spare}
use Rattle.longest.proofs.Best.{reads_best}
use Rattle.longest.proofs.Rows.{rule_cost, rule_costs, lines_cost, body_cost}
use Rattle.longest.proofs.Written.{count_of, count_rules, line_length, line_one, line_reads, line_rule, line_rules}
use Rattle.longest.specs.Most.{rules_of, Most}
use Rattle.longest.specs.Line.{pairs, line_for, product_of, number_for}

-- the most rules of m bytes, a line feed behind each line counted
unfoldable pub limit : ℕ → ℕ
unfolding number_for product_of
limit m = elim (ltb m 16) [ true ↦ 0 | false ↦ number_for ((m - 16) / 2) ]

-- two lines never give more than one of their bytes together
sum_test : ℕ → ℕ → Bool
sum_test a b = elim (ltb (a + b) 98) [ true ↦ leb (limit a + limit b) (limit (a + b)) | false ↦ true ]

sums : all_below (λ (a : ℕ). all_below (sum_test a) 98) 98 ≡ true
unfolding sum_test limit
sums = refl

one_test : ℕ → Bool
one_test h = eqb (limit (16 + 2 * h)) (number_for h)

ones : all_below one_test 41 ≡ true
unfolding one_test limit
ones = refl

limit_sum : (a b : ℕ) → a + b < 98 → limit a + limit b ≤ limit (a + b)
unfolding sum_test
limit_sum a b h =
    let e : sum_test a b ≡ true = all_below_lem (sum_test a) 98 (all_below_lem (λ (a : ℕ). all_below (sum_test a) 98) 98 sums a (omega arith)) b (omega arith) in
    leb-true (limit a + limit b) (limit (a + b)) (rw (lt-ltb (a + b) 98 h, sum_test) at e)

limit_one : (h : ℕ) → h < 41 → limit (16 + 2 * h) ≡ number_for h
unfolding one_test
limit_one h a = eqb-true (limit (16 + 2 * h)) (number_for h) (all_below_lem one_test 41 ones h a)

limit_mono : (a b : ℕ) → a ≤ b → b < 98 → limit a ≤ limit b
limit_mono a b h k =
    let q : a + (b - a) ≡ b = omega arith in
    subst (λ (m : ℕ). limit a ≤ limit m) q (le_trans (omega arith) (limit_sum a (b - a) (omega arith)))

-- a rule with as many symbols written and moves as read sets
rule_limit : {P : Type 0} (l : RuleLine P) → Fits l → rule_cost (l.raw) < 98 → combinations (l.raw.read) ≤ limit (rule_cost (l.raw))
unfolding rule_cost spare
rule_limit l f h =
    let e : spare (l.raw) ≡ reads_over (l.raw.read) + 2 * over (length (l.raw.read)) = omega (arith, ap over (f.0), ap over (f.1)) in
    let b : combinations (l.raw.read) ≤ number_for (spare (l.raw)) = reads_best (l.raw.read) (spare (l.raw)) (omega arith) (omega (arith, e)) in
    rw (limit_one (spare (l.raw)) (omega arith)) b

expands_fits : {P : Type 0} (n : ℕ) (l : RuleLine P) → verdict n (l.raw) ≡ expands → Fits l
unfolding kept
expands_fits n l e = (rw (e, kept) at (kept_fits n (l ∷ []))).0

kept_limit : {P : Type 0} (n : ℕ) (ls : List (RuleLine P)) → rule_costs ls < 98 → rule_count (kept n ls) ≤ limit (rule_costs ls)
unfolding kept rule_count
kept_limit n [] h = omega arith
kept_limit n (l ∷ ls) h =
    let s : limit (rule_cost (l.raw)) + limit (rule_costs ls) ≤ limit (rule_cost (l.raw) + rule_costs ls) = limit_sum (rule_cost (l.raw)) (rule_costs ls) h in
    by_verdict (verdict n (l.raw))
    (λ e. rw (e, kept) (omega (arith, s, rule_limit l (expands_fits n l e) (omega arith), kept_limit (n + combinations (l.raw.read)) ls (omega arith))))
    (λ e. rw (e, kept) (omega (arith, s, kept_limit n ls (omega arith))))
    (λ e. rw (e, kept) (omega (arith, s, kept_limit n ls (omega arith))))

-- any text at all, admitted or not, of any number of lines
pub text_limit : (t : List ℕ) (n : ℕ) → length t ≤ n → n < 97 → rules_of t ≤ limit (suc n)
unfolding count_of read_lines valid_up_to
text_limit t n h k =
    let cs : List ℕ = decode t in
    let w : weigh (tokens cs) ≤ suc n = omega (arith, tokens_weigh cs, valid_le t) in
    let ls = lines covering (tokens cs) in
    let c : rule_costs ((body_of ls).rules) ≤ suc n = omega (arith, w, lines_cost covering (tokens cs), body_cost ls) in
    let x : count_of t ≤ limit (rule_costs ((body_of ls).rules)) = kept_limit 0 ((body_of ls).rules) (omega arith) in
    rw (count_rules t) (le_trans x (limit_mono (rule_costs ((body_of ls).rules)) (suc n) c (omega arith)))

pairs_test : ℕ → Bool
pairs_test i = eqb (limit (16 + i)) (number_for (pairs (15 + i))) && (ltb (pairs (15 + i)) 41 && leb (15 + 2 * pairs (15 + i)) (15 + i))

pair_tests : all_below pairs_test 82 ≡ true
unfolding pairs_test limit
pair_tests = refl

-- the line and the number for n bytes
pub the_most : (n : ℕ) → 15 ≤ n → n ≤ 96 → Most n (line_for (pairs n)) (number_for (pairs n))
unfolding pairs_test
the_most n a b =
    let i : ℕ = n - 15 in
    let q : 15 + i ≡ n = omega arith in
    let e : pairs_test i ≡ true = all_below_lem pairs_test 82 pair_tests i (omega arith) in
    let x = and_right (eqb (limit (16 + i)) (number_for (pairs (15 + i)))) _ e in
    let p : number_for (pairs (15 + i)) ≡ limit (16 + i) = sym (eqb-true (limit (16 + i)) (number_for (pairs (15 + i))) (and_left _ _ e)) in
    let low : pairs (15 + i) < 41 = ltb-true (pairs (15 + i)) 41 (and_left _ _ x) in
    let fit : 15 + 2 * pairs (15 + i) ≤ 15 + i = leb-true (15 + 2 * pairs (15 + i)) (15 + i) (and_right (ltb (pairs (15 + i)) 41) _ x) in
    subst (λ (m : ℕ). Most m (line_for (pairs m)) (number_for (pairs m))) q (record {
      short = omega (arith, line_length (pairs (15 + i)) low, fit);
      one_line = line_one (pairs (15 + i)) low;
      rule_line = line_rule (pairs (15 + i)) low;
      reads = line_reads (pairs (15 + i)) low;
      expands = line_rules (pairs (15 + i)) low;
      most = λ t h o r. rw p (subst (λ (m : ℕ). rules_of t ≤ limit m) (omega arith) (text_limit t (15 + i) h (omega arith)));
    })
