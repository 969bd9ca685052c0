-- Laws of the walk that counts: what a log is given is what it counts, and the counts so far with those of the
-- lines from here on are those of all lines.
use mathlib.Core.Path.{◌≡◌, refl, sym, ap, subst, ◌∙◌}
use mathlib.Core.Bool.{false}
use mathlib.Core.List.{List, [], ◌∷◌, ◌++◌}
use Prim.Native.Nat.{ℕ, ◌+◌, ◌*◌, ◌≤◌, ◌<◌}
use native.Mathlib.Omega.{arith}
use borrow.Author.Tests.{lt-leb, ne_eqb}
use lib.Dec.{leb}
use lib.ListN.{length, drop, length-append}
use Rattle.diag.specs.declared.Span.{Span}
use Rattle.diag.specs.declared.Diagnostic.{Diagnostic}
use Rattle.diag.specs.declared.log.Log.{Log}
use Rattle.diag.specs.Log.{logged, Log as Given}
use Rattle.tokens.specs.declared.Token.{Token}
use Rattle.parser.specs.Row.{peek}
use Rattle.parser.specs.Lines.{line_length}
use Rattle.assembler.specs.declared.rules.Tally.{Tally}
use Rattle.assembler.specs.declared.rules.Verdict.{Verdict}
use Rattle.assembler.specs.declared.rules.Verdict.TheVariants.{Other}
use Rattle.assembler.specs.Rows.{rows, place_of}
use Rattle.assembler.specs.Entries.{Entry, entry_at, behind, entries}
use Rattle.assembler.specs.Feeds.{AllFed, Fed}
use Rattle.assembler.specs.Failures.{line_error, line_errors}
use Rattle.assembler.specs.Declarations.{declares, declare, declarations, declaration_error, declaration_errors}
use Rattle.assembler.specs.Rules.{no_rules, verdict, after, rule_error, rule_errors, rule_count}
use Rattle.assembler.specs.Survey.{Surveyed}
use Rattle.assembler.proofs.Rows.{length-rows, entries_at, entries-step, entries-end, fed_here, fed_on}
use Rattle.assembler.proofs.FailureLaws.{line_error-one}
use Rattle.assembler.proofs.DeclarationLaws.{one_wrong}
use Rattle.assembler.proofs.RuleLaws.{one-rule, verdict-within, after-within}

-- ---- all lines: the walk has come to the line at the index i
pub record Surveying (count : ℕ) (work first₀ first : List ℕ) (s : Tally) (f d r i : ℕ) : Type 0 where
  pub declared : declarations count first (entries_at (rows count work) i) ≡ declarations count first₀ (entries (rows count work))
  pub rules : rule_count s (entries_at (rows count work) i) ≡ rule_count no_rules (entries (rows count work))
  pub failures : f + length (line_errors (entries_at (rows count work) i)) ≡ length (line_errors (entries (rows count work)))
  pub names : d + length (declaration_errors (rows count work) first (entries_at (rows count work) i)) ≡ length (declaration_errors (rows count work) first₀ (entries (rows count work)))
  pub wrong : r + length (rule_errors s (entries_at (rows count work) i)) ≡ length (rule_errors no_rules (entries (rows count work)))
  pub within : s.rules ≤ 262144
  pub few_failures : f ≤ i
  pub few_names : d ≤ i
  pub few_wrong : r ≤ i
  pub fed : AllFed (entries_at (rows count work) i)

-- a log that was given none
pub no_count : (l : Log) (w : List ℕ) → logged l.row.now l.count ≡ logged w 0 → l.count ≡ 0
no_count l w e = ap (λ (x : Given). x.count) e

pub surveying_start : (count : ℕ) (work first : List ℕ) (f d r : ℕ) → Fed (rows count work) → f ≡ 0 → d ≡ 0 → r ≡ 0 → Surveying count work first first no_rules f d r 0
unfolding entries
surveying_start count work first f d r fed ef ed er = record {
  declared = refl;
  rules = refl;
  failures = omega (arith, ef);
  names = omega (arith, ed);
  wrong = omega (arith, er);
  within = omega arith;
  few_failures = omega (arith, ef);
  few_names = omega (arith, ed);
  few_wrong = omega (arith, er);
  fed = fed;
}

-- n before one line's diagnostics, and those behind it
counted-on : (n n' k : ℕ) (ds es : List Diagnostic) → n + length (ds ++ es) ≡ k → n' ≡ n + length ds → n' + length es ≡ k
counted-on n n' k ds es h e = omega (arith, length-append ds es)

module _ (count : ℕ) (work first₀ first : List ℕ) (s : Tally) (f d r i : ℕ) (p : Surveying count work first₀ first s f d r i) (room : 4 * count ≤ length work) where
  abbrev ts : List Token
  ts = rows count work

  -- the line's first token says where it ends
  pub survey_fed : (t : Token) → i < count → t ≡ peek (rows count work) i → behind i t ≡ line_length (drop i (rows count work))
  survey_fed t h e = fed_here ts i p.fed (omega (arith, length-rows count work room)) t e

  pub survey-on : (t : Token) (x y z : ℕ) (first' : List ℕ) (v : Verdict) (q : Span) (s' : Tally) (j : ℕ) → i < count → t ≡ peek (rows count work) i → x ≡ f + length (line_error t)
      → first' ≡ declare count first (entry_at (rows count work) i) → y ≡ d + length (declaration_error (rows count work) first (entry_at (rows count work) i))
      → v ≡ verdict s.rules (entry_at (rows count work) i) → q ≡ place_of t → z ≡ r + length (rule_error v s.cut q) → s' ≡ after s v → j ≡ i + 1 + behind i t
      → Surveying count work first₀ first' s' x y z j
  unfolding declarations declaration_errors line_errors rule_errors rule_count
  survey-on t x y z first' v q s' j h et ex ef ey ev eq ez es ej =
      let many : length ts ≡ count = length-rows count work room in
      let here : i < length ts = omega arith in
      let e : Entry = entry_at ts i in
      let next : i + 1 + behind i (peek ts i) ≡ j = ap (λ (t : Token). i + 1 + behind i t) (sym et) ∙ sym ej in
      let v' : Verdict = verdict s.rules e in
      let lines : entries_at ts i ≡ e ∷ entries_at ts j = entries-step ts i here ∙ ap (λ (j : ℕ). e ∷ entries_at ts j) next in
      let rest : List Entry = entries_at ts j in
      let ef' : declare (length ts) first e ≡ first' = ap (λ (c : ℕ). declare c first e) many ∙ sym ef in
      let es' : after s v' ≡ s' = ap (after s) (sym ev) ∙ sym es in
      let ex' : x ≡ f + length (line_error e.first) = ex ∙ ap (λ (t : Token). f + length (line_error t)) et in
      let eq' : q ≡ place_of (peek ts i) = eq ∙ ap place_of et in
      let ez' : z ≡ r + length (rule_error v' s.cut (place_of e.first)) =
      ez ∙ ap (λ (v : Verdict). r + length (rule_error v s.cut q)) ev ∙ ap (λ (q : Span). r + length (rule_error v' s.cut q)) eq' in
      record {
        declared = ap (λ (g : List ℕ). declarations count g rest) ef ∙ ap (declarations count first) (sym lines) ∙ p.declared;
        rules = ap (λ (s : Tally). rule_count s rest) (sym es') ∙ ap (rule_count s) (sym lines) ∙ p.rules;
        failures = counted-on f x _ (line_error e.first) (line_errors rest) (ap (λ (l : List Entry). f + length (line_errors l)) (sym lines) ∙ p.failures) ex';
        names = subst (λ (g : List ℕ). y + length (declaration_errors ts g rest) ≡ length (declaration_errors ts first₀ (entries ts))) ef'
            (counted-on d y _ (declaration_error ts first e) (declaration_errors ts (declare (length ts) first e) rest)
            (ap (λ (l : List Entry). d + length (declaration_errors ts first l)) (sym lines) ∙ p.names) ey);
        wrong = subst (λ (s : Tally). z + length (rule_errors s rest) ≡ length (rule_errors no_rules (entries ts))) es'
            (counted-on r z _ (rule_error v' s.cut (place_of e.first)) (rule_errors (after s v') rest)
            (ap (λ (l : List Entry). r + length (rule_errors s l)) (sym lines) ∙ p.wrong) ez');
        within = subst (λ (s : Tally). s.rules ≤ 262144) es' (after-within s v' p.within (λ m h. verdict-within s.rules m e h));
        few_failures = omega (arith, p.few_failures, ex', line_error-one e.first, ej);
        few_names = omega (arith, p.few_names, ey, one_wrong ts first e, ej);
        few_wrong = omega (arith, p.few_wrong, ez', one-rule v' s.cut (place_of e.first), ej);
        fed = subst (λ (j : ℕ). AllFed (entries_at ts j)) next (fed_on ts i p.fed here);
      }

  none_left : count ≤ i → entries_at ts i ≡ []
  none_left h = entries-end ts i (omega (arith, length-rows count work room))

  -- a line that holds nothing, or a comment alone
  pub survey_blank : (t : Token) (j : ℕ) → i < count → t ≡ peek (rows count work) i → t.kind < 16 → j ≡ i + 1 + behind i t → Surveying count work first₀ first s f d r j
  unfolding line_error declares declare declaration_error verdict after rule_error
  survey_blank t j h et k ej =
      let k' : (peek (rows count work) i).kind < 16 = subst (λ (t : Token). t.kind < 16) et k in
      let low : leb 16 (peek (rows count work) i).kind ≡ false = lt-leb 16 (peek (rows count work) i).kind k' in
      let none : line_error t ≡ [] = rw (lt-leb 32 t.kind (omega arith)) in
      let v : Other ≡ verdict s.rules (entry_at (rows count work) i) = rw (ne_eqb (peek (rows count work) i).kind 27 (λ e. omega arith)) in
      survey-on t f d r first Other (place_of t) s j h et (omega (arith, ap length none)) (rw low) (omega (arith, ap length (undeclared-none low))) v refl (omega arith) refl ej
    where
      undeclared-none : leb 16 (peek (rows count work) i).kind ≡ false → declaration_error (rows count work) first (entry_at (rows count work) i) ≡ []
      undeclared-none e = rw e

  pub survey-end : count ≤ i → Surveyed count work first₀ first (record { rules = s.rules; failures = f; names = d; wrong = r })
  unfolding declarations declaration_errors line_errors rule_errors rule_count
  survey-end h = record {
    declared = sym (ap (declarations count first) (none_left h)) ∙ p.declared;
    rules = sym (ap (rule_count s) (none_left h)) ∙ p.rules;
    failures = nothing f ∙ sym (ap (λ (l : List Entry). f + length (line_errors l)) (none_left h)) ∙ p.failures;
    names = nothing d ∙ sym (ap (λ (l : List Entry). d + length (declaration_errors ts first l)) (none_left h)) ∙ p.names;
    wrong = nothing r ∙ sym (ap (λ (l : List Entry). r + length (rule_errors s l)) (none_left h)) ∙ p.wrong;
  }
    where
      nothing : (n : ℕ) → n ≡ n + 0
      nothing n = omega arith
