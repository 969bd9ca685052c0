-- Laws of a step of each pass: what it took and what is left is what was to be found.
use mathlib.Core.Path.{◌≡◌, refl, sym, ap, subst, ◌∙◌}
use mathlib.Core.Bool.{Bool, true, false}
use mathlib.Core.List.{List, [], ◌∷◌, ◌++◌, append_assoc}
use Prim.Native.Nat.{ℕ, ◌+◌, ◌-◌, ◌*◌, ◌≤◌, ◌<◌, ◌^◌}
use native.Mathlib.Omega.{arith}
use borrow.Author.Tests.{ltb-true, ltb-false}
use lib.Dec.{ltb}
use lib.ListN.{length}
use Rattle.diag.specs.declared.Diagnostic.{Diagnostic}
use Rattle.tokens.specs.declared.Token.{Token}
use Rattle.parser.specs.Row.{peek}
use Rattle.assembler.specs.Rows.{rows, place_of}
use Rattle.assembler.specs.declared.rules.Verdict.{Verdict}
use Rattle.assembler.specs.Entries.{Entry, entry_at, entries}
use Rattle.assembler.specs.Failures.{line_error, line_errors}
use Rattle.assembler.specs.Finals.{finals_errors}
use Rattle.assembler.specs.Rules.{verdict, rule_error, rule_errors}
use Rattle.assembler.proofs.Rows.{length-rows, entries-step, entries-end}
use Rattle.assembler.proofs.RuleLaws.{verdict-within, after-within}
use Rattle.diag_search.specs.declared.Pass.{Pass}
use Rattle.diag_search.specs.declared.Pass.TheVariants.{Failures, Names, Finals, Rules}
use Rattle.diag_search.specs.declared.Search.{Search}
use Rattle.diag_search.specs.declared.Step.{Step}
use Rattle.diag_search.specs.Cursor.{moved, next_line, ruled, onward, taken}
use Rattle.diag_search.specs.Repeats.{name_error, name_errors}
use Rattle.diag_search.specs.Pending.{lines_at, pending_in, pending, passes_left, left}
use Rattle.diag_search.specs.Stands.{Stands, Stepped}

-- ---- a search in a pass, by its number
pub here : (s : Search) (p : Pass) → s.pass ≡ p → moved s p s.at ≡ s
here s p e = ap (λ (p : Pass). moved s p s.at) (sym e)

-- ---- a step by what it took and where it leads
pub stepped_by : (text w₀ w : List ℕ) (s : Search) (r : Step) (q : Search) (ds : List Diagnostic) → taken r ≡ ds → r.search ≡ q → Stands text w q → pending text w₀ s ≡ ds ++ pending text w q
    → left q < left s → length w ≡ length w₀ → Stepped text w₀ w s r
stepped_by text w₀ w s r q ds took to st found less size = record {
  stands = subst (λ (q : Search). Stands text w q) (sym to) st;
  found = found ∙ ap (λ (q : Search). ds ++ pending text w q) (sym to) ∙ ap (λ (ds : List Diagnostic). ds ++ pending text w r.search) (sym took);
  less = subst (λ (q : Search). left q < left s) (sym to) less;
  size = size;
}

-- on to another pass
pub stepped-on : (text w₀ w : List ℕ) (s : Search) (r : Step) (p : Pass) (i : ℕ) → r ≡ onward s p i → Stands text w (moved s p i) → pending text w₀ s ≡ pending text w (moved s p i)
    → left (moved s p i) < left s → length w ≡ length w₀ → Stepped text w₀ w s r
unfolding taken
stepped-on text w₀ w s r p i e st found less size =
    stepped_by text w₀ w s r (moved s p i) [] (ap taken e) (ap (λ (r : Step). r.search) e) st found less size

-- what stands in another pass than that over F
pub stands_moved : (text w : List ℕ) (s : Search) (p : Pass) (i : ℕ) → Stands text w s → (p ≡ Finals → ⊥) → Stands text w (moved s p i)
stands_moved text w s p i st g = record {
  laid = st.laid;
  names = st.names;
  tally = st.tally;
  behind = λ e. absurd (g e);
  marks = λ e. absurd (g e);
}

-- ---- the rows of a search that stands
module _ (text w : List ℕ) (s : Search) (st : Stands text w s) where
  pub stands_room : 4 * s.count ≤ length w
  stands_room = omega (arith, st.laid.tokens, st.laid.words, st.laid.marks)

  pub stands_size : length (rows s.count w) ≡ s.count
  stands_size = length-rows s.count w stands_room

  pub stands_low : s.at < s.count → s.at + 2 < 2 ^ 64
  stands_low h = omega (arith, st.laid.few)

  abbrev ts : List Token
  ts = rows s.count w

  next_high : (i : ℕ) → i < next_line ts i
  next_high i = omega arith

  -- the line at the cursor, and those behind it
  lines-on : s.at < s.count → lines_at ts s.at ≡ entry_at ts s.at ∷ lines_at ts (next_line ts s.at)
  lines-on h = entries-step ts s.at (omega (arith, stands_size))

  lines_end : s.count ≤ s.at → lines_at ts s.at ≡ []
  lines_end h = entries-end ts s.at (omega (arith, stands_size))

  pub less-on : (p : Pass) (j : ℕ) → s.pass ≡ p → s.at < s.count → s.at < j → left (moved s p j) < left s
  unfolding left
  less-on p j e h g = ap_less (λ (m : ℕ). m * (s.count + 1)) e
    where
      ap_less : (f : ℕ → ℕ) → s.pass ≡ p → f (passes_left p) + (s.count - j) < f (passes_left s.pass) + (s.count - s.at)
      ap_less f e = let z : f (passes_left p) ≡ f (passes_left s.pass) = ap (λ (p : Pass). f (passes_left p)) (sym e) in omega arith

  -- ---- the pass over failed lines
  module _ (zero-pass : s.pass ≡ Failures) where
    pub failure-stepped : (r : Step) → s.at < s.count → taken r ≡ line_error (peek (rows s.count w) s.at) → r.search ≡ moved s Failures (next_line (rows s.count w) s.at) → Stepped text w w s r
    unfolding pending_in line_errors
    failure-stepped r h took to =
        let q : Search = moved s Failures (next_line ts s.at) in
        let x : List Diagnostic = line_error (peek ts s.at) in
        let rest : List Diagnostic = name_errors ts s.first (entries ts) ++ (finals_errors text ts s.first ++ rule_errors s.tally (entries ts)) in
        let found : pending text w s ≡ x ++ pending text w q =
        ap (pending text w) (sym (here s Failures zero-pass)) ∙ ap (λ (es : List Entry). line_errors es ++ rest) (lines-on h)
        ∙ append_assoc x (line_errors (lines_at ts (next_line ts s.at))) rest in
        stepped_by text w w s r q x took to (stands_moved text w s Failures (next_line ts s.at) st (λ e. absurd (let z : 3 ≡ 1 = ap passes_left e in omega arith))) found
        (less-on Failures (next_line ts s.at) zero-pass h (next_high s.at)) refl

    pub failures_stepped : (r : Step) → s.count ≤ s.at → r ≡ onward s Names 0 → Stepped text w w s r
    unfolding pending_in line_errors left entries
    failures_stepped r h e =
        let rest : List Diagnostic = name_errors ts s.first (entries ts) ++ (finals_errors text ts s.first ++ rule_errors s.tally (entries ts)) in
        let found : pending text w s ≡ pending text w (moved s Names 0) =
        ap (pending text w) (sym (here s Failures zero-pass)) ∙ ap (λ (es : List Entry). line_errors es ++ rest) (lines_end h) in
        stepped-on text w w s r Names 0 e (stands_moved text w s Names 0 st (λ e. absurd (let z : 2 ≡ 1 = ap passes_left e in omega arith))) found
        (subst (λ (p : Pass). 2 * (s.count + 1) + (s.count - 0) < passes_left p * (s.count + 1) + (s.count - s.at)) (sym zero-pass) (omega arith)) refl

  -- ---- the pass over declarations
  module _ (one-pass : s.pass ≡ Names) where
    pub name-stepped : (r : Step) → s.at < s.count → taken r ≡ name_error (rows s.count w) s.first (entry_at (rows s.count w) s.at)
        → r.search ≡ moved s Names (next_line (rows s.count w) s.at) → Stepped text w w s r
    unfolding pending_in name_errors
    name-stepped r h took to =
        let q : Search = moved s Names (next_line ts s.at) in
        let x : List Diagnostic = name_error ts s.first (entry_at ts s.at) in
        let rest : List Diagnostic = finals_errors text ts s.first ++ rule_errors s.tally (entries ts) in
        let found : pending text w s ≡ x ++ pending text w q =
        ap (pending text w) (sym (here s Names one-pass)) ∙ ap (λ (es : List Entry). name_errors ts s.first es ++ rest) (lines-on h)
        ∙ append_assoc x (name_errors ts s.first (lines_at ts (next_line ts s.at))) rest in
        stepped_by text w w s r q x took to (stands_moved text w s Names (next_line ts s.at) st (λ e. absurd (let z : 2 ≡ 1 = ap passes_left e in omega arith))) found
        (less-on Names (next_line ts s.at) one-pass h (next_high s.at)) refl

    pub names_done : s.count ≤ s.at → pending text w s ≡ finals_errors text (rows s.count w) s.first ++ rule_errors s.tally (entries (rows s.count w))
    unfolding pending_in name_errors
    names_done h =
        ap (pending text w) (sym (here s Names one-pass))
        ∙ ap (λ (es : List Entry). name_errors ts s.first es ++ (finals_errors text ts s.first ++ rule_errors s.tally (entries ts))) (lines_end h)

  -- ---- the pass over rules
  module _ (three : s.pass ≡ Rules) where
    pub rules-inside : 1 ≤ length (pending text w s) → s.at < s.count
    unfolding pending_in rule_errors
    rules-inside h = go (ltb s.at s.count) refl
      where
        go : (b : Bool) → ltb s.at s.count ≡ b → s.at < s.count
        go true e = ltb-true s.at s.count e
        go false e =
            let none : pending text w s ≡ [] = ap (pending text w) (sym (here s Rules three)) ∙ ap (λ (es : List Entry). rule_errors s.tally es) (lines_end (ltb-false s.at s.count e)) in
            absurd (omega (arith, ap length none))

    pub rule-stepped : (r : Step) → s.at < s.count
        → taken r ≡ rule_error (verdict s.tally.rules (entry_at (rows s.count w) s.at)) s.tally.cut (place_of (peek (rows s.count w) s.at))
        → r.search ≡ ruled (rows s.count w) s → Stepped text w w s r
    unfolding pending_in rule_errors left
    rule-stepped r h took to =
        let e : Entry = entry_at ts s.at in
        let v : Verdict = verdict s.tally.rules e in
        let x : List Diagnostic = rule_error v s.tally.cut (place_of (peek ts s.at)) in
        let found : pending text w s ≡ x ++ pending text w (ruled ts s) =
        ap (pending text w) (sym (here s Rules three)) ∙ ap (λ (es : List Entry). rule_errors s.tally es) (lines-on h) in
        let m = stands_moved text w s Rules (next_line ts s.at) st (λ e. absurd (let z : 0 ≡ 1 = ap passes_left e in omega arith)) in
        stepped_by text w w s r (ruled ts s) x took to
        (record {
          laid = m.laid;
          names = m.names;
          tally = after-within s.tally v st.tally (λ m h. verdict-within s.tally.rules m e h);
          behind = m.behind;
          marks = m.marks;
        }) found (less-on Rules (next_line ts s.at) three h (next_high s.at)) refl
