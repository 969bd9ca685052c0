-- Laws of assembly as a whole: each pass leaves what the next one asks, and all together give the language's diagnostics.
use mathlib.Core.Path.{◌≡◌, refl, sym, ap, subst, ◌∙◌}
use mathlib.Core.Bool.{Bool, true, false, cond, ◌||◌}
use mathlib.Core.List.{List, [], ◌∷◌, ◌++◌, map}
use Prim.Native.Nat.{ℕ, suc, ◌+◌, ◌*◌, ◌≤◌, ◌<◌, ◌^◌}
use native.Mathlib.Omega.{arith}
use mir.Syntax.{w64}
use mir.Val.{Fits}
use lib.Dec.{eqb, ltb}
use lib.ListN.{length, get_or, take, drop, length-append, length-drop, length-map}
use lib.Seq.{take-take}
use Rattle.chars.specs.Utf8.{decode}
use Rattle.diag.specs.declared.Span.{Span as Place}
use Rattle.lexer.specs.Tokens.{tokens}
use Rattle.lexer.specs.Words.{onto}
use Rattle.lexer.proofs.Writes.{tokens_of_bytes}
use Rattle.lexer.proofs.Placed.{placed}
use Rattle.tokens.specs.declared.Token.{Token}
use Rattle.parser.specs.Views.{is_state}
use Rattle.parser.specs.Meaning.{token_of}
use Rattle.parser.proofs.Lexed.{tokens_lexed}
use Rattle.language.specs.Lines.{Line, read_lines, lines, covering}
use Rattle.language.specs.Assembly as A
use Rattle.language.specs.Infer.{machine_of}
use Rattle.language.proofs.Counts as C
use Rattle.diag.specs.declared.Diagnostic.{Diagnostic}
use Rattle.diag.specs.declared.log.Log as D
use Rattle.diag.specs.Log.{Log, logged, append_all}
use Rattle.diag.specs.Appends.{Appends}
use Rattle.diag.proofs.Appending.{appends_then, appends_count, appends_as, appends_nothing}
use Rattle.diag.proofs.Appended.{append_all-count}
use Rattle.assembler.specs.declared.Assembled.{Assembled}
use Rattle.assembler.specs.declared.rules.Tally.{Tally}
use Rattle.assembler.specs.Rows.{rows, place_of}
use Rattle.assembler.specs.Entries.{Entry, entries}
use Rattle.assembler.specs.Entered.{flat, entered_from, entered}
use Rattle.assembler.specs.Feeds.{Fed}
use Rattle.assembler.specs.Failures.{line_error, line_errors}
use Rattle.assembler.specs.Declarations.{undeclared, declare, declarations, declaration_error, declaration_errors}
use Rattle.assembler.specs.Finals.{name_at, names_from, names_of, final_error, final_errors, finals_errors, Interned, Laid, Kept}
use Rattle.assembler.specs.Rules.{verdict, after, rule_error, no_rules, rule_errors, rule_count}
use Rattle.assembler.specs.Records.{record_of, records_of}
use Rattle.assembler.specs.Assembled as S
use Rattle.assembler.proofs.Rows.{length-rows, entries_few}
use Rattle.assembler.proofs.RowWords.{rows-onto, length-onto}
use Rattle.assembler_names.proofs.NameLaws.{kept-rows}
use Rattle.assembler.proofs.MarkLaws.{kept_interned, kept_trans}
use Rattle.assembler.proofs.PartLaws.{part-rows, part-kept}
use Rattle.assembler.proofs.FailureLaws.{line_error-one}
use Rattle.assembler.proofs.DeclarationLaws.{one_wrong}
use Rattle.assembler.proofs.RuleLaws.{one-rule}
use Rattle.assembler.proofs.FinalLaws.{one-final, finals-none}
use Rattle.assembler.proofs.Means.{AllMean, records-append, line_errors_mean, declarations_mean, table_empty}
use Rattle.assembler.proofs.RulesMean.{RulesOf, rule_errors_mean, rule_count_mean}
use Rattle.assembler.proofs.FinalsMean.{NamesIn, finals_mean}
use Rattle.assembler.proofs.EntriesMean.{entries_mean}
use Rattle.assembler.proofs.FeedLaws.{entered_fed}

-- ---- rows and the words behind them
length-entered_from : (ps : List Token) (i : ℕ) (ts : List Token) → length (entered_from ps i ts) ≡ length ts
unfolding entered_from
length-entered_from ps i [] = refl
length-entered_from (p ∷ ps) i (t ∷ ts) = ap suc (length-entered_from ps (suc i) ts)
length-entered_from [] i (t ∷ ts) = ap suc (length-entered_from _ (suc i) ts)

pub length-entered : (ts : List Token) → length (entered ts) ≡ length ts
unfolding entered
length-entered ts = length-entered_from [] 0 ts

-- ---- entering the lines
module _ (text : List ℕ) (count : ℕ) (w₀ : List ℕ) (p : S.Tokenized text count w₀) where
  few : count ≤ length text + 1
  few = omega (arith, p.many, tokens_of_bytes text)

  pub enter_room : 4 * count ≤ length w₀
  enter_room = omega (arith, few, p.room)

  pub enter_few : count < 2 ^ 31
  enter_few = omega (arith, few, p.short)

  pub entered-lines : (w₁ : List ℕ) → w₁ ≡ onto (flat (entered (rows count w₀))) w₀ → S.Entered count w₀ w₁
  entered-lines w₁ e =
      let size : length (entered (rows count w₀)) ≡ count = length-entered (rows count w₀) ∙ length-rows count w₀ enter_room in
      record {
        row = ap (rows count) e ∙ rows-onto (entered (rows count w₀)) count w₀ size;
        size = ap length e ∙ length-onto (entered (rows count w₀)) w₀ (omega (arith, size, enter_room));
      }

-- ---- whether there may be states
or_nested : (a b c d : Bool) → (((a || b) || c) || d) ≡ cond a true (cond b true (cond c true d))
or_nested true b c d = refl
or_nested false true c d = refl
or_nested false false true d = refl
or_nested false false false d = refl

pub states_are : (count : ℕ) (first : List ℕ) (rules : ℕ) {q s f : Bool} → q ≡ ltb (get_or first 5 0) count → s ≡ ltb (get_or first 9 0) count → f ≡ ltb (get_or first 10 0) count
    → (((q || s) || f) || ltb 0 rules) ≡ S.has_states count first rules
unfolding S.has_states
states_are count first rules {q} {s} {f} is-q is-s is-f =
    or_nested q s f (ltb 0 rules)
    ∙ ap (λ (q : Bool). cond q true (cond s true (cond f true (ltb 0 rules)))) is-q
    ∙ ap (λ (s : Bool). cond (ltb (get_or first 5 0) count) true (cond s true (cond f true (ltb 0 rules)))) is-s
    ∙ ap (λ (f : Bool). cond (ltb (get_or first 5 0) count) true (cond (ltb (get_or first 9 0) count) true (cond f true (ltb 0 rules)))) is-f

-- ---- the row of first equal words
pub kept_fewer : (a b : ℕ) (u v : List ℕ) → a ≤ b → Kept b u v → Kept a u v
kept_fewer a b u v h k = record { front = sym (take-take a b v h) ∙ ap (take a) k.front ∙ take-take a b u h; size = k.size }

module _ (text : List ℕ) (count : ℕ) (w₀ : List ℕ) (laid : Laid count (S.words_from (length text)) (S.marks_from (length text)) w₀) where
  module _ (w₁ first : List ℕ) (wrong rules : ℕ) where
    pub all_named : Kept (S.words_from (length text)) w₀ w₁ → Interned text (rows count w₀) (S.words_from (length text)) w₁ → S.Named text count w₁ first wrong rules
    all_named k i =
        let row : rows count w₁ ≡ rows count w₀ = kept-rows count (S.words_from (length text)) w₀ w₁ k laid.tokens in
        let names : Interned text (rows count w₁) (S.words_from (length text)) w₁ = subst (λ (ts : List Token). Interned text ts (S.words_from (length text)) w₁) (sym row) i in
        record { listed = λ h. names; sound = λ e h. names }

-- ---- how many diagnostics the passes append
lines_few : (es : List Entry) → length (line_errors es) ≤ length es
unfolding line_errors
lines_few [] = omega arith
lines_few (e ∷ es) = omega (arith, length-append (line_error e.first) (line_errors es), line_error-one e.first, lines_few es)

declarations_few : (ts : List Token) (first : List ℕ) (es : List Entry) → length (declaration_errors ts first es) ≤ length es
unfolding declaration_errors
declarations_few ts first [] = omega arith
declarations_few ts first (e ∷ es) =
    omega (arith, length-append (declaration_error ts first e) (declaration_errors ts (declare (length ts) first e) es), one_wrong ts first e, declarations_few ts (declare (length ts) first e) es)

one_name : (i : ℕ) (u : Token) → length (name_at i u) ≤ 1
unfolding name_at
one_name i u = go (is_state u)
  where
    go : (b : Bool) → length {A = ℕ} (cond b (i ∷ []) []) ≤ 1
    go true = omega arith
    go false = omega arith

names_few : (i : ℕ) (us : List Token) → length (names_from i us) ≤ length us
unfolding names_from
names_few i [] = omega arith
names_few i (u ∷ us) = go (eqb u.kind 13) (names_few (suc i) us)
  where
    go : (b : Bool) → length (names_from (suc i) us) ≤ length us → length {A = ℕ} (elim b [ true ↦ [] | false ↦ name_at i u ++ names_from (suc i) us ]) ≤ suc (length us)
    go true h = omega arith
    go false h = omega (arith, length-append (name_at i u) (names_from (suc i) us), one_name i u)

finals_few_from : (text : List ℕ) (ts : List Token) (d : Bool) (qs before fs : List ℕ) → length (final_errors text ts d qs before fs) ≤ length fs
unfolding final_errors
finals_few_from text ts d qs before [] = omega arith
finals_few_from text ts d qs before (f ∷ fs) =
    omega (arith, length-append (final_error text ts d qs before f) (final_errors text ts d qs (before ++ f ∷ []) fs), one-final text ts d qs before f, finals_few_from text ts d qs (before ++ f ∷ []) fs)

finals_few : (text : List ℕ) (ts : List Token) (first : List ℕ) → length (finals_errors text ts first) ≤ length ts
unfolding finals_errors names_of
finals_few text ts first =
    let q : ℕ = get_or first 5 0 in
    let f : ℕ = get_or first 10 0 in
    omega (arith, finals_few_from text ts (ltb q (length ts)) (names_from (suc q) (drop (suc q) ts)) [] (names_from (suc f) (drop (suc f) ts)), names_few (suc f) (drop (suc f) ts), length-drop (suc f) ts)

rules-count : (s : Tally) (es : List Entry) → length (rule_errors s es) ≤ length es
unfolding rule_errors
rules-count s [] = omega arith
rules-count s (e ∷ es) =
    let v = verdict s.rules e in
    omega (arith, length-append (rule_error v s.cut (place_of e.first)) (rule_errors (after s v) es), one-rule v s.cut (place_of e.first), rules-count (after s v) es)

-- ---- F and the rules
pub all_fit : (text : List ℕ) (count : ℕ) (w : List ℕ) → Laid count (S.words_from (length text)) (S.marks_from (length text)) w → (m wrong : ℕ)
    → wrong ≡ length (rule_errors no_rules (entries (rows count w))) → m + 2 * count < 2 ^ 64 → Fits w64 (m + wrong)
all_fit text count w laid m wrong e h = record {
  fits = omega (arith, rules-count no_rules (entries (rows count w)), entries_few (rows count w), length-rows count w (omega (arith, laid.tokens, laid.words, laid.marks)));
}

module _ (text : List ℕ) (count : ℕ) (w₀ w₁ first : List ℕ)
    (laid : Laid count (S.words_from (length text)) (S.marks_from (length text)) w₀) (kept₁ : Kept (S.words_from (length text)) w₀ w₁) where
  row₁ : rows count w₁ ≡ rows count w₀
  row₁ = kept-rows count (S.words_from (length text)) w₀ w₁ kept₁ laid.tokens

  pub named_laid : Laid count (S.words_from (length text)) (S.marks_from (length text)) w₁
  named_laid = record { tokens = laid.tokens; words = laid.words; marks = omega (arith, laid.marks, kept₁.size); few = laid.few }

  size₁ : length (rows count w₁) ≡ count
  size₁ = length-rows count w₁ (omega (arith, laid.tokens, laid.words, laid.marks, kept₁.size))

  -- the words are cut into the tokens, the row of first equal words and the marks
  module _ (front words firsts marks : List ℕ) (f : front ≡ take (S.marks_from (length text)) w₁) (m : marks ≡ drop (S.marks_from (length text)) w₁)
      (t : words ≡ take (S.words_from (length text)) front) (g : firsts ≡ drop (S.words_from (length text)) front) where
    same-row : rows count words ≡ rows count w₀
    same-row = part-rows count (S.words_from (length text)) (S.marks_from (length text)) w₁ named_laid front words firsts marks f m t g ∙ row₁

    pub rules_fed : Fed (rows count w₀) → Fed (rows count words)
    rules_fed x = subst Fed (sym same-row) x

    pub rules_wrong : (wrong : ℕ) → wrong ≡ length (rule_errors no_rules (entries (rows count w₀))) → wrong ≡ length (rule_errors no_rules (entries (rows count words)))
    rules_wrong wrong counted = counted ∙ ap (λ (ts : List Token). length (rule_errors no_rules (entries ts))) (sym same-row)

    module _ (l l₁ : D.Log) (finals : Appends l l₁ (finals_errors text (rows count words) first)) where
      pub rules_few : l.count + 2 * count < 2 ^ 64 → l₁.count + count < 2 ^ 64
      rules_few h =
          omega (arith, appends_count l l₁ _ finals, finals_few text (rows count words) first, ap length same-row, ap length row₁, size₁)

      pub finals_and_rules : (v : List ℕ) → length v ≡ length marks → (wrong rules : ℕ) → wrong ≡ length (rule_errors no_rules (entries (rows count w₀)))
          → S.Named text count w₁ first (l.count + wrong) rules → (l₂ : D.Log) → Appends l₁ l₂ (rule_errors no_rules (entries (rows count words)))
          → Kept (S.words_from (length text)) w₀ (front ++ v) × S.Named text count (front ++ v) first l₂.count rules
          × Appends l l₂ (finals_errors text (rows count w₀) first ++ rule_errors no_rules (entries (rows count w₀)))
      finals_and_rules v size wrong rules counted named l₂ e =
          let a : ℕ = S.words_from (length text) in
          let b : ℕ = S.marks_from (length text) in
          let kept₂ : Kept b w₁ (front ++ v) = part-kept count a b w₁ named_laid front words firsts marks f m t g v size in
          let on : Interned text (rows count w₁) a w₁ → Interned text (rows count (front ++ v)) a (front ++ v) = λ i. kept_interned count a b w₁ (front ++ v) named_laid kept₂ text i in
          let none : l₂.count ≡ 0 → l.count + wrong ≡ 0 = λ z.
          omega (arith, appends_count l₁ l₂ _ e, rules_wrong wrong counted, appends_count l l₁ _ finals) in (
            kept_trans a w₀ w₁ (front ++ v) kept₁ (kept_fewer a b w₁ (front ++ v) (omega arith) kept₂),
            record { listed = λ h. on (named.listed h); sound = λ z h. on (named.sound (none z) h) },
            appends_as l l₂ _ _ (appends_then l l₁ l₂ _ _ finals e)
                (ap (λ (ts : List Token). finals_errors text ts first ++ rule_errors no_rules (entries ts)) same-row),
          )

-- without F there is no diagnostic of it
pub finals_unsaid : (text : List ℕ) (count : ℕ) (w first : List ℕ) (l : D.Log) → 4 * count ≤ length w → count ≤ get_or first 10 0 → Appends l l (finals_errors text (rows count w) first)
finals_unsaid text count w first l room h = appends_nothing l _ (finals-none text (rows count w) first (omega (arith, length-rows count w room)))

-- ---- all passes over the lines
module _ (text : List ℕ) (count : ℕ) (w₀ log₀ : List ℕ) (laid : Laid count (S.words_from (length text)) (S.marks_from (length text)) w₀) where
  abbrev ts : List Token
  ts = rows count w₀

  abbrev es : List Entry
  es = entries (rows count w₀)

  pub pass_room : 4 * count ≤ length w₀
  pass_room = omega (arith, laid.tokens, laid.words, laid.marks)

  all-size : length ts ≡ count
  all-size = length-rows count w₀ pass_room

  lines-count : length es ≤ count
  lines-count = omega (arith, entries_few ts, all-size)

  -- the log is written from its beginning
  module _ (l₀ l₁ : D.Log) (begins : logged l₀.row.now l₀.count ≡ logged log₀ 0) (e₁ : Appends l₀ l₁ (line_errors (entries (rows count w₀)))) where
    lines_low : l₁.count ≤ count
    lines_low = omega (arith, appends_count l₀ l₁ _ e₁, ap (λ (x : Log). x.count) begins, lines_few es, lines-count)

    pub declarations_room : l₁.count + count < 2 ^ 64
    declarations_room = omega (arith, lines_low, laid.few)

    module _ (l₂ : D.Log) (e₂ : Appends l₁ l₂ (declaration_errors (rows count w₀) undeclared (entries (rows count w₀)))) where
      pub finals_room : l₂.count + 2 * count < 2 ^ 64
      finals_room = omega (arith, appends_count l₁ l₂ _ e₂, declarations_few ts undeclared es, lines-count, lines_low, laid.few)

      pub diagnosed : (first : List ℕ) → first ≡ declarations count undeclared (entries (rows count w₀)) → (w₁ log : List ℕ) (l₃ : D.Log) (k r : ℕ) → k ≡ rule_count no_rules (entries (rows count w₀))
          → Kept (S.words_from (length text)) w₀ w₁ → S.Named text count w₁ first l₃.count k
          → Appends l₂ l₃ (finals_errors text (rows count w₀) first ++ rule_errors no_rules (entries (rows count w₀))) → r ≡ l₃.count → log ≡ l₃.row.now
          → S.Diagnosed text count w₀ w₁ log₀ log (record { first = first; rules = k; errors = r })
      unfolding S.row_diagnostics
      diagnosed first f₂ w₁ log l₃ k r c kept named p er el =
          let D' : List Diagnostic = declaration_errors ts undeclared es in
          let table : List ℕ = declarations (length ts) undeclared es in
          let same : first ≡ table = f₂ ∙ ap (λ (k : ℕ). declarations k undeclared es) (sym all-size) in
          let all : Appends l₀ l₃ (line_errors es ++ (D' ++ (finals_errors text ts first ++ rule_errors no_rules es))) =
          appends_then l₀ l₁ l₃ (line_errors es) _ e₁ (appends_then l₁ l₂ l₃ D' _ e₂ p) in
          record {
            kept = kept;
            named = subst (λ (n : ℕ). S.Named text count w₁ first n k) (sym er) named;
            first = f₂;
            rules = c;
            written =
                ap (λ (w : List ℕ). logged w r) el ∙ ap (logged l₃.row.now) er ∙ all.written
                ∙ ap (λ (x : Log). append_all x (line_errors es ++ (D' ++ (finals_errors text ts first ++ rule_errors no_rules es)))) begins
                ∙ ap (λ (f : List ℕ). append_all (logged log₀ 0) (line_errors es ++ (D' ++ (finals_errors text ts f ++ rule_errors no_rules es)))) same;
          }

-- ---- in the language's terms
abbrev E : List ℕ → List Token
E text = entered (map token_of (tokens (decode text)))

module _ (text : List ℕ) (few : length (entered (map token_of (tokens (decode text)))) ≤ 0xffffffff) where
  abbrev ls : List (Line Place)
  ls = lines covering (tokens (decode text))

  all_mean : AllMean (λ e k. RulesOf e k × NamesIn text (E text) e k) (E text) (entries (E text)) ls
  all_mean = entries_mean text (tokens (decode text)) (tokens_lexed text) (placed text)

  pub row_mean : S.row_diagnostics text (E text) ≡ records_of (A.diagnostics_of (read_lines (decode text)))
  unfolding S.row_diagnostics A.diagnostics_of read_lines
  row_mean =
      let a = line_errors_mean (λ e k. RulesOf e k × NamesIn text (E text) e k) (E text) (entries (E text)) ls all_mean in
      let d = declarations_mean (λ e k. RulesOf e k × NamesIn text (E text) e k) (E text) undeclared [] (entries (E text)) ls all_mean (table_empty (E text) few) in
      let f = finals_mean text (E text) (λ e k. RulesOf e k × NamesIn text (E text) e k) (λ e i x. x.1) few (entries (E text)) ls all_mean in
      let r = rule_errors_mean (λ e k. RulesOf e k × NamesIn text (E text) e k) (λ e i x. x.0) (E text) (entries (E text)) ls all_mean in
      let dl = A.declaration_errors [] (A.items ls) in
      let fl = A.final_errors (A.states_in (A.items ls)) [] (A.finals_in (A.items ls)) in
      let rl = A.rule_errors 0 false (A.body_of ls).rules in
      rw (a, d, f, r) (sym (records-append (A.line_errors ls) (dl ++ (fl ++ rl)) ∙ ap (λ (x : List Diagnostic). records_of (A.line_errors ls) ++ x)
      (records-append dl (fl ++ rl) ∙ ap (λ (x : List Diagnostic). records_of dl ++ x) (records-append fl rl))))

  rules_mean : rule_count no_rules (entries (E text)) ≡ length (machine_of (read_lines (decode text))).rules
  unfolding machine_of read_lines
  rules_mean =
      rule_count_mean (λ e k. RulesOf e k × NamesIn text (E text) e k) (λ e i x. x.0) (E text) (entries (E text)) ls all_mean ∙ sym (C.rules-length (A.blank_of (A.items ls)) (A.kept 0 (A.body_of ls).rules))

length-records : (ds : List (A.Diagnostic Place)) → length (records_of ds) ≡ length ds
unfolding records_of
length-records ds = length-map ds record_of

module _ (text : List ℕ) (count : ℕ) (w₀ w₁ : List ℕ) (p : S.Tokenized text count w₀) (e : S.Entered count w₀ w₁) where
  pub passes_laid : Laid count (S.words_from (length text)) (S.marks_from (length text)) w₁
  passes_laid = record {
    tokens = omega (arith, p.many, tokens_of_bytes text);
    words = omega (arith, p.many, tokens_of_bytes text);
    marks = omega (arith, p.many, tokens_of_bytes text, p.room, e.size);
    few = omega (arith, p.many, tokens_of_bytes text, p.short);
  }

  pub passes_room : 6 * length text + 6 ≤ length w₁
  passes_room = omega (arith, p.room, e.size)

  pub passes_fed : Fed (rows count w₁)
  passes_fed = subst Fed (sym e.row) (entered_fed (rows count w₀))

  pub outcome : (w₂ log₀ log : List ℕ) (r : Assembled) → S.Diagnosed text count w₁ w₂ log₀ log r → S.Outcome text count w₀ w₂ log₀ log r
  outcome w₂ log₀ log r d =
      let a : ℕ = S.words_from (length text) in
      let row₁ : rows count w₁ ≡ E text = e.row ∙ ap entered p.row in
      let row₂ : rows count w₂ ≡ rows count w₁ = kept-rows count a w₁ w₂ d.kept passes_laid.tokens in
      let size : length (E text) ≡ count = length-entered (map token_of (tokens (decode text))) ∙ length-map (tokens (decode text)) token_of ∙ sym p.many in
      let few : length (E text) ≤ 0xffffffff = omega (arith, passes_laid.few) in
      let found : S.row_diagnostics text (rows count w₁) ≡ records_of (A.diagnostics_of (read_lines (decode text))) = ap (S.row_diagnostics text) row₁ ∙ row_mean text few in
      let logged-is : logged log r.errors ≡ append_all (logged log₀ 0) (records_of (A.diagnostics_of (read_lines (decode text)))) = d.written ∙ ap (append_all (logged log₀ 0)) found in
      record {
        errors =
            ap (λ (x : Log). x.count) logged-is ∙ append_all-count (logged log₀ 0) (records_of (A.diagnostics_of (read_lines (decode text))))
            ∙ ap (λ (n : ℕ). 0 + n) (length-records (A.diagnostics_of (read_lines (decode text)))) ∙ nothing_more (length (A.diagnostics_of (read_lines (decode text))));
        written = logged-is;
        rules = d.rules ∙ ap (λ (ts : List Token). rule_count no_rules (entries ts)) row₁ ∙ rules_mean text few;
        entered = record { row = row₂ ∙ e.row; size = d.kept.size ∙ e.size };
        named = d.named;
        first = d.first ∙ ap (λ (ts : List Token). declarations count undeclared (entries ts)) (sym row₂);
      }
    where
      nothing_more : (n : ℕ) → 0 + n ≡ n
      nothing_more n = omega arith
