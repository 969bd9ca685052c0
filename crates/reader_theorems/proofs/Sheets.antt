-- The sections over the row of a text without diagnostics, and the head, are those of the language's machine.
use mathlib.Core.Path.{◌≡◌, refl, sym, ap, subst, ◌∙◌}
use mathlib.Core.List.{List, ◌++◌, append_assoc}
use Rattle.std.specs.Prelude.{None}
use Prim.Native.Nat.{ℕ, ◌+◌, ◌-◌, ◌*◌, ◌≤◌}
use native.Mathlib.Omega.{arith}
use lib.ListN.{length, get_or, length-append}
use lib.Seq.{sets}
use Rattle.chars.specs.Utf8.{decode}
use Rattle.lexer.specs.Tokens.{tokens}
use Rattle.tokens.specs.declared.Token.{Token}
use Rattle.language.specs.Machine.{Located, Machine}
use Rattle.language.specs.Lines.{Line, covering, read_lines}
use Rattle.language.specs.Assembly as A
use Rattle.language.proofs.Columns
use Rattle.language.specs.Infer as I
use Rattle.language.specs.Layout as L
use Rattle.language.specs.Outcome.{words_needed}
use Rattle.language.proofs.Every.{Every, every_any}
use Rattle.language.proofs.Counts.{Chosen, rule_count, flat-length, kept_fits, expand-words}
use Rattle.language.proofs.ReadCounts.{kept-within, read_chosen, read-sheet_length}
use Rattle.assembler.specs.Rows.{rows}
use Rattle.assembler.specs.Entries.{entries}
use Rattle.assembler.proofs.Means.{AllMean}
use Rattle.sheet.specs.Comments.{text_words, header, trailing}
use Rattle.sheet.specs.Rules.{rules, rule_lengths}
use Rattle.sheet_theorems.proofs.Shows.{Said, Shown}
use Rattle.sheet_theorems.proofs.TextShown.{no_rule_errors}
use Rattle.sheet_theorems.proofs.BodyShown.{header_shown, trailing_shown, rules_shown, lengths_shown, kept-all}
use Rattle.infer.specs.States.{first_state}
use Rattle.infer_theorems.proofs.StatesInferred.{first_state_lem}
use Rattle.infer_theorems.proofs.OfText.{states-count, symbols-count, places_count}
use Rattle.infer_symbols.specs.Alphabets.{gamma_codes, sigma_words, gamma_words}
use Rattle.diag.specs.declared.Span.{Span}
use Rattle.machine.specs.declared.Counts.{Counts}
use Rattle.machine.specs.declared.Head.{Head}
use Rattle.reader_head.specs.Heads.{blank_at, head_at}
use Rattle.reader_head.proofs.HeadMeans.{head-means}
use Rattle.reader_head.proofs.ItemSays.{said_says}
use Rattle.reader_theorems.proofs.Ties.{Tied, row_size, few, table}
use Rattle.reader_theorems.specs.Ready.{lines_of, Ready}
use Rattle.reader_theorems.specs.Sections.{Sections, sections_of, joined}
use Rattle.reader_theorems.proofs.Bounds.{comments_few, words_few}

-- two words a comment
comments-count : (l : List (Located Span (List ℕ))) → length (L.flat L.located_words l) ≡ length l * 2
comments-count l = flat-length L.located_words 2 l (every_any _ (λ c. refl) l)

module _ (text : List ℕ) (count : ℕ) (w first : List ℕ) (r : Ready text count w first) where
  abbrev ts : List Token
  ts = rows count w

  abbrev ls : List (Line Span)
  ls = lines_of text

  -- ---- rules
  all-kept : A.kept 0 (A.body_of (lines_of text)).rules ≡ (A.body_of (lines_of text)).rules
  all-kept = kept-all 0 (A.body_of (lines_of text)).rules (no_rule_errors (lines_of text) r.none_found)

  rules_few : rule_count (A.body_of (lines_of text)).rules ≤ 262144
  rules_few = omega (arith, kept-within 0 (A.body_of (lines_of text)).rules (omega arith), ap rule_count all-kept)

  -- ---- what the lines of the row show
  module _ (shown : Shown text (rows count w) 0 (lines_of text)) where
    rules_are : (b : ℕ) → rules b (rows count w) ≡ L.flat L.rule_words (A.expand_all b (A.kept 0 (A.body_of (lines_of text)).rules))
    rules_are b = rules_shown b ts ls shown ∙ ap (λ (rs : List (A.RuleLine Span)). L.flat L.rule_words (A.expand_all b rs)) (sym all-kept)

    lengths_are : rule_lengths (rows count w) ≡ L.rule_lengths (A.kept 0 (A.body_of (lines_of text)).rules)
    lengths_are = lengths_shown 0 ts ls shown ∙ ap L.rule_lengths (sym all-kept)

    pub rules-words : (b : ℕ) → length (rules b (rows count w)) ≡ rule_lengths (rows count w)
    unfolding read_lines
    rules-words b =
        ap length (rules_are b)
        ∙ expand-words b (A.kept 0 (A.body_of (lines_of text)).rules) (kept_fits 0 (A.body_of (lines_of text)).rules) (subst (Every Chosen) (sym all-kept) (read_chosen covering (tokens (decode text))))
        ∙ sym lengths_are

    pub lengths_few : rule_lengths (rows count w) ≤ 262144 * (11 + 7 * count) + 2 * count
    lengths_few = omega (arith, lengths_shown 0 ts ls shown, words_few ts ls shown rules_few, row_size text count w first r)

    pub header_few : length (L.flat text_words (header (rows count w))) ≤ 2 * count
    header_few = omega (arith, ap length (header_shown 0 ts ls shown), comments-count (A.body_of (lines_of text)).header, comments_few ts ls shown, row_size text count w first r)

    pub trailing_few : length (L.flat text_words (trailing (rows count w))) ≤ 2 * count
    trailing_few = omega (arith, ap length (trailing_shown 0 ts ls shown), comments-count (A.body_of (lines_of text)).trailing, comments_few ts ls shown, row_size text count w first r)

  -- ---- what its entries say
  module _ (said : AllMean (Said text (rows count w)) (rows count w) (entries (rows count w)) (lines_of text)) where
    pub head_is : (s : Span) (n : Counts) → (A.first (Columns.select λ p. p.start) (A.items (lines_of text)) ≡ None → s ≡ (L.head_of (I.machine_of (lines_of text))).start)
        → n ≡ (L.head_of (I.machine_of (lines_of text))).counts → head_at (rows count w) first s n ≡ L.head_of (I.machine_of (lines_of text))
    head_is s n z c =
        ap (λ (f : List ℕ). head_at (rows count w) f s n) (table text count w first r)
        ∙ head-means (Said text ts) (λ e i x. said_says text (omega (arith, r.short)) ts e i x) ts (omega (arith, row_size text count w first r, few text count w first r, r.short)) (entries ts) ls said s n z c

    pub blank_is : blank_at (rows count w) (get_or first 8 0) ≡ (I.machine_of (lines_of text)).blank
    unfolding head_at L.head_of
    blank_is = ap (λ (h : Head). h.blank) (head_is (L.head_of (I.machine_of ls)).start (L.head_of (I.machine_of ls)).counts (λ z. refl) refl)

-- ---- all of it
module _ (text : List ℕ) (count : ℕ) (w first : List ℕ) (r : Ready text count w first) (t : Tied text count w first) where
  abbrev m : Machine Span
  m = I.machine_of (lines_of text)

  abbrev b : ℕ
  b = blank_at (rows count w) (get_or first 8 0)

  abbrev s : Sections
  s = sections_of text (blank_at (rows count w) (get_or first 8 0)) (rows count w) first w

  states_are : s.states ≡ L.flat L.state_words m.states
  unfolding sections_of
  states_are = t.states

  sigma_are : s.sigma ≡ L.flat L.symbol_words m.sigma
  unfolding sections_of
  sigma_are = ap (λ (b : ℕ). sigma_words b (rows count w) first (gamma_codes text b (rows count w) first)) (blank_is text count w first r t.said) ∙ t.sigma

  gamma_are : s.gamma ≡ L.flat L.symbol_words m.gamma
  unfolding sections_of
  gamma_are = ap (λ (b : ℕ). gamma_words b (rows count w) first (gamma_codes text b (rows count w) first)) (blank_is text count w first r t.said) ∙ t.gamma

  finals_are : s.finals ≡ L.flat L.place_words m.finals
  unfolding sections_of
  finals_are = t.finals

  header_are : s.header ≡ L.flat L.located_words m.header
  unfolding sections_of I.machine_of
  header_are = header_shown 0 (rows count w) (lines_of text) t.shown

  trailing_are : s.trailing ≡ L.flat L.located_words m.trailing
  unfolding sections_of I.machine_of
  trailing_are = trailing_shown 0 (rows count w) (lines_of text) t.shown

  rule_words_lem : rules b (rows count w) ≡ L.flat L.rule_words m.rules
  unfolding I.machine_of
  rule_words_lem =
      rules_are text count w first r t.shown b
      ∙ ap (λ (b : ℕ). L.flat L.rule_words (A.expand_all b (A.kept 0 (A.body_of (lines_of text)).rules))) (blank_is text count w first r t.said)

  -- the sheet
  pub sheet_is : joined s ++ rules b (rows count w) ≡ L.sheet_words m
  unfolding L.sheet_words
  sheet_is =
      let R : List ℕ = rules b (rows count w) in
      append_assoc s.states _ R ∙ ap (λ (l : List ℕ). s.states ++ l) (append_assoc s.sigma _ R ∙ ap (λ (l : List ℕ). s.sigma ++ l) (append_assoc s.gamma _ R
      ∙ ap (λ (l : List ℕ). s.gamma ++ l) (append_assoc s.finals _ R ∙ ap (λ (l : List ℕ). s.finals ++ l) (append_assoc s.header s.trailing R))))
      ∙ rw (states_are, sigma_are, gamma_are, finals_are, header_are, trailing_are, rule_words_lem) refl

  pub needed_is : length (joined s) + rule_lengths (rows count w) ≡ words_needed (lines_of text)
  unfolding words_needed read_lines
  needed_is =
      omega (arith, rules-words text count w first r t.shown b, length-append (joined s) (rules b (rows count w)), ap length sheet_is, read-sheet_length (decode text))

  -- the head
  module _ (o : List ℕ) (room : length (L.sheet_words m) ≤ length o) where
    start_is : A.first (Columns.select λ p. p.start) (A.items (lines_of text)) ≡ None → first_state (sets o 0 (L.sheet_words m)) 0 (length s.states) ≡ (L.head_of m).start
    unfolding L.head_of L.sheet_words
    start_is z =
        let whole : 0 + length (L.sheet_words m) ≤ length o = omega (arith, room) in
        let n : length s.states ≡ 0 + length (L.flat L.state_words m.states) = omega (arith, ap length states_are) in
        ap (λ (n : ℕ). first_state (sets o 0 (L.sheet_words m)) 0 n) n ∙ first_state_lem (lines_of text) o _ 0 z whole

    pub head_of-sheet : (p : Span) (n : Counts)
        → p ≡ record { start = (first_state (sets o 0 (L.sheet_words m)) 0 (length s.states)).start; end = (first_state (sets o 0 (L.sheet_words m)) 0 (length s.states)).end }
        → n ≡ (L.head_of m).counts → head_at (rows count w) first p n ≡ L.head_of m
    head_of-sheet p n q c = head_is text count w first r t.said p n (λ z. q ∙ start_is z) c

  -- the counts
  pub states-three : length s.states ≡ 3 * length m.states
  states-three = omega (arith, ap length states_are, states-count m.states)

  pub sigma-three : length s.sigma ≡ 3 * length m.sigma
  sigma-three = omega (arith, ap length sigma_are, symbols-count m.sigma)

  pub gamma-three : length s.gamma ≡ 3 * length m.gamma
  gamma-three = omega (arith, ap length gamma_are, symbols-count m.gamma)

  pub finals_two : length s.finals ≡ 2 * length m.finals
  finals_two = omega (arith, ap length finals_are, places_count m.finals)

  pub header_two : length s.header ≡ 2 * length m.header
  header_two = omega (arith, ap length header_are, comments-count m.header)

  pub trailing_two : length s.trailing ≡ 2 * length m.trailing
  trailing_two = omega (arith, ap length trailing_are, comments-count m.trailing)
