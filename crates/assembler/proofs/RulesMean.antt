-- The diagnostics of rules, and their number, are the language's.
use mathlib.Core.Path.{◌≡◌, refl, sym, ap, ◌∙◌}
use mathlib.Core.Bool.{Bool, true, false, cond, ◌&&◌}
use mathlib.Core.List.{List, [], ◌∷◌, ◌++◌}
use Rattle.std.specs.Prelude.{Option, None}
use Prim.Native.Nat.{ℕ, ◌+◌, ◌≤◌, ◌<◌, min}
use native.Mathlib.Omega.{arith}
use native.Mathlib.Nat.{min-eq_left, min-eq_right}
use borrow.Author.Tests.{lt-leb, eq-eqb, ne_eqb, leb-true, leb-false}
use lib.Dec.{eqb, leb}
use lib.ListN.{length}
use Rattle.diag.proofs.Cases.{by_test_lem}
use Rattle.diag.specs.declared.Span.{Span}
use Rattle.diag.specs.declared.Diagnostic.{Diagnostic}
use Rattle.diag.specs.Log.{error}
use Rattle.tokens.specs.declared.Token.{Token}
use Rattle.parser.specs.Row.{peek}
use Rattle.language.specs.Machine.{Located}
use Rattle.language.specs.Lines.{RawTransition, Item, machine_item, input_item, kind_item, output_item, tapes_item, states_item, final_item, input_alphabet_item, tape_alphabet_item, blank_item, start_item, transition_item, Line, blank_line, comment_line, item_line, error_line}
use Rattle.language.specs.Assembly as A
use Rattle.language.proofs.Columns
use Rattle.language.specs.Layout.{or_none}
use Rattle.language.proofs.Counts as L
use Rattle.assembler.specs.declared.rules.Tally.{Tally}
use Rattle.assembler.specs.declared.rules.Verdict.{Verdict}
use Rattle.assembler.specs.declared.rules.Verdict.TheVariants.{Other, WrongArity, TooMany, Expands}
use Rattle.assembler.specs.Rows.{place_of}
use Rattle.assembler.specs.Entries.{Entry}
use Rattle.assembler.specs.Rules.{combinations, same_arity, read_part, verdict, after, rule_error, rule_errors, rule_count, no_rules}
use Rattle.assembler.specs.Records.{record_of, records_of}
use Rattle.assembler.proofs.Means.{number, ItemMeans, AllMean, no_lines, one_line}

-- ---- a rule's entry: the counts of its lists, and the product of its read sets, cut off above the limit
pub record RuleMeans (e : Entry) (r : RawTransition Span) : Type 0 where
  pub reads : (peek e.rest 0).start ≡ length r.read
  pub writes : (peek e.rest 0).end ≡ length r.write
  pub dirs : (peek e.rest 0).value ≡ length r.dir
  pub product : combinations (read_part e) ≡ min (A.combinations r.read) 262145

arity_mean : (e : Entry) (r : RawTransition Span) → RuleMeans e r
    → same_arity (peek e.rest 0) ≡ eqb (length r.write) (length r.read) && eqb (length r.dir) (length r.read)
unfolding same_arity
arity_mean e r m = rw (m.reads, m.writes, m.dirs) (go (eqb (length r.write) (length r.read)) (eqb (length r.dir) (length r.read)))
  where
    go : (a b : Bool) → cond a b false ≡ (a && b)
    go true b = refl
    go false b = refl

-- the cut does not matter below the limit
cut_test : (n c : ℕ) → leb (n + min c 262145) 262144 ≡ leb (n + c) 262144
cut_test n c =
    by_test_lem (leb c 262145) (λ y. ap (λ (x : ℕ). leb (n + x) 262144) (min-eq_left {n = c} {m = 262145} (leb-true c 262145 y)))
    (λ x.
    let h : 262145 < c = leb-false c 262145 x in
    let z : min c 262145 ≡ 262145 = min-eq_right {n = 262145} {m = c} (omega arith) in
    lt-leb (n + min c 262145) 262144 (omega arith) ∙ sym (lt-leb (n + c) 262144 (omega arith)))

-- what becomes of a rule, as the language has it
abbrev verdict_of : ℕ → ℕ → A.Verdict → Verdict
verdict_of n c A.expands = Expands (n + c)
verdict_of n c A.wrong_arity = WrongArity
verdict_of n c A.too_many = TooMany

verdict_mean : (n : ℕ) (e : Entry) (r : RawTransition Span) → e.first.kind ≡ 27 → RuleMeans e r → verdict n e ≡ verdict_of n (A.combinations r.read) (A.verdict n r)
unfolding verdict A.verdict
verdict_mean n e r k m =
    let c : ℕ = A.combinations r.read in
    rw (eq-eqb e.first.kind 27 k, arity_mean e r m)
    (go (eqb (length r.write) (length r.read) && eqb (length r.dir) (length r.read)) (leb (n + c) 262144) refl)
  where
    go : (a b : Bool) → leb (n + A.combinations r.read) 262144 ≡ b
        → cond a (cond (leb (n + combinations (read_part e)) 262144) (Expands (n + combinations (read_part e))) TooMany) WrongArity
        ≡ verdict_of n (A.combinations r.read) (elim a [ false ↦ A.wrong_arity | true ↦ elim (leb (n + A.combinations r.read) 262144) [ true ↦ A.expands | false ↦ A.too_many ] ])
    go false b t = refl
    go true true t =
        let c : ℕ = A.combinations r.read in
        let h : n + c ≤ 262144 = leb-true (n + c) 262144 t in
        let e₁ : combinations (read_part e) ≡ c = m.product ∙ min-eq_left {n = c} {m = 262145} (omega arith) in
        rw (e₁, t)
    go true false t =
        let c : ℕ = A.combinations r.read in
        let f : leb (n + combinations (read_part e)) 262144 ≡ false = ap (λ (x : ℕ). leb (n + x) 262144) m.product ∙ cut_test n c ∙ t in
        rw (f, t)

-- ---- the rules among the lines
abbrev pub RulesOf : Entry → Item Span → Type 0
RulesOf e (transition_item r) = RuleMeans e r
RulesOf e (machine_item x) = Unit {0}
RulesOf e (kind_item x) = Unit {0}
RulesOf e (input_item x) = Unit {0}
RulesOf e (output_item x) = Unit {0}
RulesOf e (tapes_item x) = Unit {0}
RulesOf e (states_item x) = Unit {0}
RulesOf e (input_alphabet_item x) = Unit {0}
RulesOf e (tape_alphabet_item x) = Unit {0}
RulesOf e (blank_item x) = Unit {0}
RulesOf e (start_item x) = Unit {0}
RulesOf e (final_item x) = Unit {0}

other-verdict : (n : ℕ) (e : Entry) → (e.first.kind ≡ 27 → ⊥) → verdict n e ≡ Other
unfolding verdict
other-verdict n e h = rw (ne_eqb e.first.kind 27 h)

-- what a rule does to the count and to the diagnostics, and what another line does
record Same (s : Tally) (es : List Entry) (rs : List (A.RuleLine Span)) : Type 0 where
  errors : rule_errors s es ≡ records_of (A.rule_errors s.rules s.cut rs)
  count : rule_count s es ≡ s.rules + L.rule_count (A.kept s.rules rs)

module _ (s : Tally) (e : Entry) (es : List Entry) where
  other-same : (rs : List (A.RuleLine Span)) → (e.first.kind ≡ 27 → ⊥) → Same s es rs → Same s (e ∷ es) rs
  unfolding rule_errors rule_count after rule_error
  other-same rs h p = record { errors = rw (other-verdict s.rules e h) p.errors; count = rw (other-verdict s.rules e h) p.count }

  module _ (l : A.RuleLine Span) (rs : List (A.RuleLine Span)) (k : e.first.kind ≡ 27) (q : place_of e.first ≡ l.line) (m : RuleMeans e l.raw) (p : (s : Tally) → Same s es rs) where
    abbrev c : ℕ
    c = A.combinations l.raw.read

    language_errors : (v : A.Verdict) → A.verdict s.rules l.raw ≡ v → A.rule_errors s.rules s.cut (l ∷ rs) ≡ elim v [
      | A.expands ↦ A.rule_errors (s.rules + c) s.cut rs
      | A.wrong_arity ↦ A.diagnostic 10 l.line None ∷ A.rule_errors s.rules s.cut rs
      | A.too_many ↦ elim s.cut [ true ↦ A.rule_errors s.rules true rs | false ↦ A.diagnostic 9 l.line None ∷ A.rule_errors s.rules true rs ]
    ]
    unfolding A.rule_errors
    language_errors v d = ap (λ (v : A.Verdict). elim v [
      | A.expands ↦ A.rule_errors (s.rules + c) s.cut rs
      | A.wrong_arity ↦ A.diagnostic 10 l.line None ∷ A.rule_errors s.rules s.cut rs
      | A.too_many ↦ elim s.cut [ true ↦ A.rule_errors s.rules true rs | false ↦ A.diagnostic 9 l.line None ∷ A.rule_errors s.rules true rs ]
    ]) d

    language_kept : (v : A.Verdict) → A.verdict s.rules l.raw ≡ v → A.kept s.rules (l ∷ rs) ≡ elim v [ A.expands ↦ l ∷ A.kept (s.rules + c) rs | A.wrong_arity ↦ A.kept s.rules rs | A.too_many ↦ A.kept s.rules rs ]
    unfolding A.kept
    language_kept v d = ap (λ (v : A.Verdict). elim v [ A.expands ↦ l ∷ A.kept (s.rules + c) rs | A.wrong_arity ↦ A.kept s.rules rs | A.too_many ↦ A.kept s.rules rs ]) d

    step_errors : (v : Verdict) → verdict s.rules e ≡ v → rule_errors s (e ∷ es) ≡ rule_error v s.cut (place_of e.first) ++ rule_errors (after s v) es
    unfolding rule_errors
    step_errors v d = ap (λ (v : Verdict). rule_error v s.cut (place_of e.first) ++ rule_errors (after s v) es) d

    step_count : (v : Verdict) → verdict s.rules e ≡ v → rule_count s (e ∷ es) ≡ rule_count (after s v) es
    unfolding rule_count
    step_count v d = ap (λ (v : Verdict). rule_count (after s v) es) d

    expanded : A.verdict s.rules l.raw ≡ A.expands → verdict s.rules e ≡ Expands (s.rules + c) → Same s (e ∷ es) (l ∷ rs)
    unfolding rule_error after records_of L.rule_count
    expanded d v =
        let n : ℕ = s.rules + c in
        let r = p (record { rules = n; cut = s.cut }) in
        let z : n + L.rule_count (A.kept n rs) ≡ s.rules + (c + L.rule_count (A.kept n rs)) = omega arith in
        record {
          errors = step_errors (Expands n) v ∙ r.errors ∙ ap records_of (sym (language_errors A.expands d));
          count = step_count (Expands n) v ∙ r.count ∙ z ∙ ap (λ (x : List (A.RuleLine Span)). s.rules + L.rule_count x) (sym (language_kept A.expands d));
        }

    refused : A.verdict s.rules l.raw ≡ A.wrong_arity → verdict s.rules e ≡ WrongArity → Same s (e ∷ es) (l ∷ rs)
    unfolding rule_error after records_of record_of or_none
    refused d v = record {
      errors = step_errors WrongArity v ∙ ap (λ (x : Span). error 10 x ∷ rule_errors s es) q ∙ ap (λ (x : List Diagnostic). error 10 l.line ∷ x) (p s).errors ∙ ap records_of (sym (language_errors A.wrong_arity d));
      count = step_count WrongArity v ∙ (p s).count ∙ ap (λ (x : List (A.RuleLine Span)). s.rules + L.rule_count x) (sym (language_kept A.wrong_arity d));
    }

    cut_by : (b : Bool) → s.cut ≡ b
        → rule_error TooMany s.cut (place_of e.first) ++ records_of (A.rule_errors s.rules true rs)
        ≡ records_of (elim b [ true ↦ A.rule_errors s.rules true rs | false ↦ A.diagnostic 9 l.line None ∷ A.rule_errors s.rules true rs ])
    unfolding rule_error records_of record_of or_none
    cut_by true f = ap (λ (b : Bool). cond b [] (error 9 (place_of e.first) ∷ []) ++ records_of (A.rule_errors s.rules true rs)) f
    cut_by false f =
        ap (λ (b : Bool). cond b [] (error 9 (place_of e.first) ∷ []) ++ records_of (A.rule_errors s.rules true rs)) f
        ∙ ap (λ (x : Span). error 9 x ∷ records_of (A.rule_errors s.rules true rs)) q

    dropped : A.verdict s.rules l.raw ≡ A.too_many → verdict s.rules e ≡ TooMany → Same s (e ∷ es) (l ∷ rs)
    unfolding after
    dropped d v =
        let s' : Tally = record { rules = s.rules; cut = true } in
        let r = p s' in
        record {
          errors = step_errors TooMany v ∙ ap (λ (x : List Diagnostic). rule_error TooMany s.cut (place_of e.first) ++ x) r.errors ∙ first s.cut refl;
          count = step_count TooMany v ∙ r.count ∙ ap (λ (x : List (A.RuleLine Span)). s.rules + L.rule_count x) (sym (language_kept A.too_many d));
        }
      where
        first : (b : Bool) → s.cut ≡ b → rule_error TooMany s.cut (place_of e.first) ++ records_of (A.rule_errors s.rules true rs) ≡ records_of (A.rule_errors s.rules s.cut (l ∷ rs))
        first b f = cut_by b f ∙ ap records_of (sym (language_errors A.too_many d ∙ ap (λ (b : Bool). elim b [ true ↦ A.rule_errors s.rules true rs | false ↦ A.diagnostic 9 l.line None ∷ A.rule_errors s.rules true rs ]) f))

    rule-same : Same s (e ∷ es) (l ∷ rs)
    rule-same = go (A.verdict s.rules l.raw) refl
      where
        is : (v : A.Verdict) → A.verdict s.rules l.raw ≡ v → verdict s.rules e ≡ verdict_of s.rules c v
        is v d = verdict_mean s.rules e l.raw k m ∙ ap (verdict_of s.rules c) d

        go : (v : A.Verdict) → A.verdict s.rules l.raw ≡ v → Same s (e ∷ es) (l ∷ rs)
        go A.expands d = expanded d (is A.expands d)
        go A.wrong_arity d = refused d (is A.wrong_arity d)
        go A.too_many d = dropped d (is A.too_many d)

-- ---- all lines: the rules of the body are those of the lines, whatever comments are pending
module _ (X : Entry → Item Span → Type 0) (asks : (e : Entry) (i : Item Span) → X e i → RulesOf e i) (ts : List Token) where
  abbrev Comments : Type 0
  Comments = List (Located Span (List ℕ))

  item-same : (s : Tally) (e : Entry) (es : List Entry) (i : Item Span) (p : Span) (c : Option (Located Span (List ℕ))) (seen : Bool) (old block : Comments) (b : A.Body Span) → ItemMeans X e i p
      → ((s : Tally) → Same s es b.rules) → Same s (e ∷ es) (A.attach_item (Columns.parts i).rule seen old block p c b).rules
  unfolding A.attach_item A.add_header A.add_rule number
  item-same s e es (machine_item x) p c seen old block b m r = other-same s e es b.rules (λ z. omega (arith, m.kind)) (r s)
  item-same s e es (kind_item x) p c seen old block b m r = other-same s e es b.rules (λ z. omega (arith, m.kind)) (r s)
  item-same s e es (input_item x) p c seen old block b m r = other-same s e es b.rules (λ z. omega (arith, m.kind)) (r s)
  item-same s e es (output_item x) p c seen old block b m r = other-same s e es b.rules (λ z. omega (arith, m.kind)) (r s)
  item-same s e es (tapes_item x) p c seen old block b m r = other-same s e es b.rules (λ z. omega (arith, m.kind)) (r s)
  item-same s e es (states_item x) p c seen old block b m r = other-same s e es b.rules (λ z. omega (arith, m.kind)) (r s)
  item-same s e es (input_alphabet_item x) p c seen old block b m r = other-same s e es b.rules (λ z. omega (arith, m.kind)) (r s)
  item-same s e es (tape_alphabet_item x) p c seen old block b m r = other-same s e es b.rules (λ z. omega (arith, m.kind)) (r s)
  item-same s e es (blank_item x) p c seen old block b m r = other-same s e es b.rules (λ z. omega (arith, m.kind)) (r s)
  item-same s e es (start_item x) p c seen old block b m r = other-same s e es b.rules (λ z. omega (arith, m.kind)) (r s)
  item-same s e es (final_item x) p c seen old block b m r = other-same s e es b.rules (λ z. omega (arith, m.kind)) (r s)
  item-same s e es (transition_item x) p c seen old block b m r =
      rule-same s e es (record { raw = x; line = p; comment = c; leading = A.leads seen old block }) b.rules (omega (arith, m.kind)) m.place (asks e (transition_item x) m.more) r

  attached : (s : Tally) (es : List Entry) (ls : List (Line Span)) → AllMean X ts es ls → (seen : Bool) (old block : Comments) → Same s es (A.attach seen old block ls).rules
  unfolding A.attach A.at_end rule_errors rule_count A.rule_errors A.kept L.rule_count records_of
  attached s [] [] no_lines true old block = record { errors = refl; count = omega arith }
  attached s [] [] no_lines false old block = record { errors = refl; count = omega arith }
  attached s [] (l ∷ ls) m seen old block = elim m [ ]
  attached s (e ∷ es) [] m seen old block = elim m [ ]
  attached s (e ∷ es) (blank_line ∷ ls) (one_line h q m r) seen old block = other-same s e es (A.attach seen (old ++ block) [] ls).rules (λ z. omega arith) (attached s es ls r seen (old ++ block) [])
  attached s (e ∷ es) (comment_line c ∷ ls) (one_line h q m r) seen old block =
      other-same s e es (A.attach seen old (block ++ c ∷ []) ls).rules (λ z. omega arith) (attached s es ls r seen old (block ++ c ∷ []))
  attached s (e ∷ es) (error_line n p ∷ ls) (one_line h q m r) seen old block = other-same s e es (A.attach true [] [] ls).rules (λ z. omega (arith, m.0)) (attached s es ls r true [] [])
  attached s (e ∷ es) (item_line i p c ∷ ls) (one_line h q m r) seen old block = item-same s e es i p c seen old block (A.attach true [] [] ls) m (λ s. attached s es ls r true [] [])

  pub rule_errors_mean : (es : List Entry) (ls : List (Line Span)) → AllMean X ts es ls → rule_errors no_rules es ≡ records_of (A.rule_errors 0 false (A.body_of ls).rules)
  unfolding A.body_of
  rule_errors_mean es ls m = (attached no_rules es ls m false [] []).errors

  pub rule_count_mean : (es : List Entry) (ls : List (Line Span)) → AllMean X ts es ls → rule_count no_rules es ≡ L.rule_count (A.kept 0 (A.body_of ls).rules)
  unfolding A.body_of
  rule_count_mean es ls m = (attached no_rules es ls m false [] []).count ∙ omega arith
