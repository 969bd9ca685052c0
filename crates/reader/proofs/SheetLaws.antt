-- Laws of the sheet as the code writes it: sections and rules are the machine's sheet, and the head is its head.
use mathlib.Core.Path.{◌≡◌, refl, sym, ap, ap₂, subst, ◌∙◌}
use mathlib.Core.List.{List, [], ◌++◌, append-nil}
use Prim.Native.Nat.{ℕ, ◌+◌, ◌-◌, ◌*◌, ◌/◌, ◌≤◌, ◌<◌, ◌^◌}
use native.Mathlib.Omega.{arith}
use lib.ListN.{length, get_or, take, drop, replicate, length-append, length-take, length-drop, drop_of_length-le, take-append-drop}
use borrow.Author.Tests.{lt-ltb, le-ltb}
use lib.Seq.{sets, sets-eq, length-sets, length-take-le, take_at}
use borrow.Rule.Slice.PartMut.{put_mid}
use Rattle.diag.specs.declared.Span.{Span}
use Rattle.tokens.specs.declared.Token.{Token}
use Rattle.tokens.specs.Listed.{tokens_of}
use Rattle.language.specs.Layout as L
use Rattle.language.specs.Lines.{Line}
use Rattle.language.specs.Infer.{machine_of}
use Rattle.language.specs.Outcome.{sheet_too_short, refused, machine, zeros, filled, words_needed, ReadOutcome, read_machine}
use Rattle.assembler.specs.Rows.{rows}
use Rattle.assembler.specs.declared.Assembled.{Assembled}
use Rattle.sheet.specs.declared.put.Sheet.{Sheet}
use Rattle.sheet.specs.Puts.{Held, held, put, Puts}
use Rattle.sheet.specs.Rules.{rules, rule_lengths}
use Rattle.sheet.proofs.Puts.{holding, put_stored, ◌▹◌}
use Rattle.infer.specs.States.{first_state}
use Rattle.machine.specs.declared.Counts.{Counts}
use Rattle.machine.specs.declared.Head.{Head}
use Rattle.reader_head.specs.Heads.{blank_at, head_at}
use Rattle.reader_theorems.specs.Ready.{lines_of, Ready}
use Rattle.reader_theorems.specs.Sections.{Sections, sections_of, joined}
use Rattle.reader_theorems.proofs.Ties.{Tied, ties, few}
use Rattle.reader_theorems.proofs.Sheets as T
use Rattle.reader_answer.specs.declared.Refusal.TheVariants.{SheetTooShort}
use Rattle.std.specs.Prelude.{Ok, Err}
use Rattle.std.proofs.Common.{Bor}
use Rattle.reader_answer.specs.declared.Answer.TheVariants.{Machine}
use Rattle.reader_answer.specs.Answer.{read_in}
use Rattle.reader.specs.declared.sections.Source.{Source}
use Rattle.reader.specs.Sheet.{Assembles, work_of, Parted, sections_in, counts_of}
use Rattle.language.specs.Machine.{Machine as Spec}
use Rattle.reader.proofs.SectionLaws.{rows_same, tokens_few, lengths_few, joined_low}

-- ---- row 6, and the machine
module _ (ls : List (Line Span)) (log sheet : ℕ) where
  short_machine : sheet < words_needed ls → ◌≡◌ {A = ReadOutcome (List ℕ)} (record { reply = refused (sheet_too_short (words_needed ls)); log = zeros log; sheet = zeros sheet }) (read_machine ls log sheet)
  unfolding read_machine
  short_machine h = rw (read_machine, lt-ltb sheet (words_needed ls) h)

  long_machine : words_needed ls ≤ sheet
      → ◌≡◌ {A = ReadOutcome (List ℕ)} (record { reply = machine (L.head_of (machine_of ls)); log = zeros log; sheet = filled (L.sheet_words (machine_of ls)) sheet }) (read_machine ls log sheet)
  unfolding read_machine
  long_machine h = rw (read_machine, le-ltb sheet (words_needed ls) h)

-- words stored at the front, and zeros behind them
behind_cleared : (o ws : List ℕ) → length ws ≤ length o → take (length ws) (sets o 0 ws) ≡ ws
behind_cleared o ws h = ap (take (length ws)) (sets-eq ws o 0 (omega arith)) ∙ take_at ws (drop (0 + length ws) o) (length ws) refl

-- zeros behind the first words of a row
pub cleared_behind : (at : ℕ) (l ys : List ℕ) → at ≤ length l → ys ≡ replicate (length (take (length l - at) (drop at l))) 0 → put_mid at (length l - at) l ys ≡ take at l ++ zeros (length l - at)
cleared_behind at l ys h e =
    let long : length (drop at l) ≡ length l - at = length-drop at l in
    let whole : length (take (length l - at) (drop at l)) ≡ length l - at = omega (arith, length-take (length l - at) (drop at l), long) in
    let last : drop (length l - at) (drop at l) ≡ [] = drop_of_length-le (drop at l) (omega (arith, long)) in
    ap (λ r. take at l ++ (ys ++ r)) last ∙ ap (λ r. take at l ++ r) (append-nil ys ∙ e ∙ ap zeros whole)

-- ---- work in two parts
module _ (text : List ℕ) (count : ℕ) (w : List ℕ) (a : Assembled) (m : Assembles text count w a) where
  pub cut_fits : 4 * (length text + 1) ≤ length w
  cut_fits = omega (arith, m.ready.room)

  pub words_room : (n : ℕ) → n ≡ 4 * (length text + 1) → 4 * count ≤ n
  words_room n e = omega (arith, e, few text count w a.first m.ready)

-- as a source; where its words stand is all the same
module _ (text : Bor (List ℕ)) (words row : List ℕ) (count : ℕ) (a : Bor Assembled) (w : List ℕ) (m : Assembles text.now count w a.now) (front : words ≡ take (4 * (length text.now + 1)) w) (back : row ≡ drop (4 * (length text.now + 1)) w) where
  pub words_long : length words ≡ 4 * (length text.now + 1)
  words_long = ap length front ∙ length-take-le (4 * (length text.now + 1)) w (cut_fits text.now count w a.now m)

  abbrev pub source : Source
  source = record {
    text = text;
    tokens = record { words = record { ref_ptr = text.ref_ptr; now = words }; count = count; within = words_room text.now count w a.now m (length words) words_long };
    assembled = a;
  }

  pub parted : Parted source row
  parted = record {
    cut = words_long;
    assembles = subst (λ (w : List ℕ). Assembles text.now count w a.now) (sym (ap₂ (λ (a b : List ℕ). a ++ b) front back ∙ take-append-drop (4 * (length text.now + 1)) w)) m;
  }

-- ---- the sheet
module _ (s : Source) (row : List ℕ) (p : Parted s row) (b : ℕ) (blank : b ≡ blank_at (tokens_of s.tokens) (get_or s.assembled.now.first 8 0)) where
  abbrev text : List ℕ
  text = s.text.now

  abbrev count : ℕ
  count = s.tokens.count

  abbrev w : List ℕ
  w = work_of s row

  abbrev first : List ℕ
  first = s.assembled.now.first

  abbrev ts : List Token
  ts = tokens_of s.tokens

  abbrev ls : List (Line Span)
  ls = lines_of s.text.now

  abbrev made : Spec Span
  made = machine_of (lines_of s.text.now)

  abbrev x : Sections
  x = sections_in s b row

  abbrev declared : ℕ
  declared = blank_at (rows s.tokens.count (work_of s row)) (get_or s.assembled.now.first 8 0)

  r : Ready s.text.now s.tokens.count (work_of s row) s.assembled.now.first
  r = p.assembles.ready

  tied : Tied s.text.now s.tokens.count (work_of s row) s.assembled.now.first
  tied = ties text count w first r

  same : rows s.tokens.count (work_of s row) ≡ tokens_of s.tokens
  same = rows_same s row p

  same_blank : blank_at (rows s.tokens.count (work_of s row)) (get_or s.assembled.now.first 8 0) ≡ b
  same_blank = ap (λ (ts : List Token). blank_at ts (get_or first 8 0)) same ∙ sym blank

  same_sections : sections_of s.text.now (blank_at (rows s.tokens.count (work_of s row)) (get_or s.assembled.now.first 8 0)) (rows s.tokens.count (work_of s row)) s.assembled.now.first (work_of s row) ≡ sections_in s b row
  same_sections = ap₂ (λ (b : ℕ) (ts : List Token). sections_of text b ts first w) same_blank same

  same_rules : rules (blank_at (rows s.tokens.count (work_of s row)) (get_or s.assembled.now.first 8 0)) (rows s.tokens.count (work_of s row)) ≡ rules b (tokens_of s.tokens)
  same_rules = ap₂ rules same_blank same

  rules-length : length (rules b (tokens_of s.tokens)) ≡ rule_lengths (tokens_of s.tokens)
  rules-length = ap length (sym same_rules) ∙ T.rules-words text count w first r tied.shown declared ∙ ap rule_lengths same

  words_are : joined (sections_in s b row) ++ rules b (tokens_of s.tokens) ≡ L.sheet_words (machine_of (lines_of s.text.now))
  words_are = ap₂ (λ (x : Sections) (rs : List ℕ). joined x ++ rs) (sym same_sections) (sym same_rules) ∙ T.sheet_is text count w first r tied

  words_low : length (L.sheet_words (machine_of (lines_of s.text.now))) < 18446744073709551616
  words_low = omega (arith, ap length words_are, length-append (joined x) (rules b ts), rules-length, joined_low s row p b, lengths_few s row p, tokens_few s row p, r.short)

  module _ (o : List ℕ) (s₀ s₁ : Sheet) (new : ((held s₀).row ≡ o) × ((held s₀).at ≡ 0)) (m : Puts (joined (sections_in s b row)) s₀ s₁) where
    start : held s₀ ≡ holding o 0
    start = ap₂ holding new.0 new.1

    sections_held : held s₁ ≡ holding (sets o 0 (joined (sections_in s b row))) (0 + length (joined (sections_in s b row)))
    sections_held = m.puts ∙ ap (λ (h : Held). put h (joined x)) start ∙ put_stored (joined x) o 0 (omega (arith, joined_low s row p b, r.short))

    module _ (e : ℕ) (e-is : e ≡ (held s₁).at) (n : ℕ) (n-is : n ≡ rule_lengths (tokens_of s.tokens)) where
      end_is : e ≡ length (joined (sections_in s b row))
      end_is = omega (arith, e-is, ap (λ (h : Held). h.at) sections_held)

      pub needed_fits : e + n < 2 ^ 64
      needed_fits = omega (arith, end_is, n-is, joined_low s row p b, lengths_few s row p, tokens_few s row p, r.short)

      needed : e + n ≡ words_needed (lines_of s.text.now)
      needed = omega (arith, end_is, n-is, ap (λ (x : Sections). length (joined x)) same_sections, ap rule_lengths same, T.needed_is text count w first r tied)

      -- row 6
      pub too_short : length o < e + n → (o₁ o₂ : List ℕ) → o₁ ≡ (held s₁).row → o₂ ≡ replicate (length o₁) 0 → (l : ℕ)
          → read_in (Err (SheetTooShort (e + n))) (zeros l) o₂ ≡ read_machine (lines_of s.text.now) l (length o)
      unfolding read_machine
      too_short h o₁ o₂ row₁ q l =
          let z : o₂ ≡ zeros (length o) = q ∙ ap (λ (o : List ℕ). zeros (length o)) row₁ ∙ ap (λ (h : Held). zeros (length h.row)) sections_held ∙ ap zeros (length-sets o 0 (joined x)) in
          (λ j. record { reply = refused (sheet_too_short (needed j)); log = zeros l; sheet = z j }) ∙ short_machine ls l (length o) (omega (arith, needed))

      -- the whole sheet
      module _ (fits : e + n ≤ length o) (s₂ : Sheet) (u : Puts (rules b (tokens_of s.tokens)) s₁ s₂) (o₂ : List ℕ) (row₂ : o₂ ≡ (held s₂).row) where
        words_needed_lem : length (L.sheet_words (machine_of (lines_of s.text.now))) ≡ words_needed (lines_of s.text.now)
        words_needed_lem = omega (arith, ap length words_are, length-append (joined x) (rules b ts), rules-length, end_is, n-is, needed)

        words_fit : length (L.sheet_words (machine_of (lines_of s.text.now))) ≤ length o
        words_fit = omega (arith, words_needed_lem, needed, fits)

        sheet-set : o₂ ≡ sets o 0 (L.sheet_words (machine_of (lines_of s.text.now)))
        sheet-set =
            let all : Puts (joined x ++ rules b ts) s₀ s₂ = m ▹ u in
            let ws : List ℕ = L.sheet_words made in
            row₂ ∙ ap (λ (h : Held). h.row) (all.puts ∙ ap₂ put start words_are ∙ put_stored ws o 0 (omega (arith, words_low)))

        long_two : length o₂ ≡ length o
        long_two = ap length sheet-set ∙ length-sets o 0 (L.sheet_words made)

        -- there is room to clear behind it
        pub clear_room : e + n ≤ length o₂
        clear_room = omega (arith, fits, long_two)

        sheet-filled : (o₃ : List ℕ) → o₃ ≡ take (e + n) o₂ ++ zeros (length o₂ - (e + n)) → o₃ ≡ filled (L.sheet_words (machine_of (lines_of s.text.now))) (length o)
        sheet-filled o₃ q =
            let ws : List ℕ = L.sheet_words made in
            let k : e + n ≡ length ws = omega (arith, words_needed_lem, needed) in
            q ∙ ap (λ (k : ℕ). take k o₂ ++ zeros (length o₂ - k)) k ∙ ap (λ (m : ℕ). take (length ws) o₂ ++ zeros (m - length ws)) long_two
            ∙ ap (λ (l : List ℕ). take (length ws) l ++ zeros (length o - length ws)) sheet-set ∙ ap (λ (l : List ℕ). l ++ zeros (length o - length ws)) (behind_cleared o ws words_fit)

        -- the counts
        states_are : length (sections_in s b row).states ≡ 3 * length (machine_of (lines_of s.text.now)).states
        states_are = ap (λ (x : Sections). length x.states) (sym same_sections) ∙ T.states-three text count w first r tied

        counted : counts_of (sections_in s b row) s.assembled.now.rules ≡ (L.head_of (machine_of (lines_of s.text.now))).counts
        unfolding L.head_of
        counted =
            let c₁ : length x.states / 3 ≡ length made.states = omega (arith, states_are) in
            let c₂ : length x.sigma / 3 ≡ length made.sigma = omega (arith, ap (λ (x : Sections). length x.sigma) same_sections, T.sigma-three text count w first r tied) in
            let c₃ : length x.gamma / 3 ≡ length made.gamma = omega (arith, ap (λ (x : Sections). length x.gamma) same_sections, T.gamma-three text count w first r tied) in
            let c₄ : length x.finals / 2 ≡ length made.finals = omega (arith, ap (λ (x : Sections). length x.finals) same_sections, T.finals_two text count w first r tied) in
            let c₅ : length x.header / 2 ≡ length made.header = omega (arith, ap (λ (x : Sections). length x.header) same_sections, T.header_two text count w first r tied) in
            let c₆ : length x.trailing / 2 ≡ length made.trailing = omega (arith, ap (λ (x : Sections). length x.trailing) same_sections, T.trailing_two text count w first r tied) in
            λ j. record { states = c₁ j; sigma = c₂ j; gamma = c₃ j; finals = c₄ j; header = c₅ j; trailing = c₆ j; rules = p.assembles.rules j }

        -- the head, and the answer
        pub whole : (q : Span) (c : Counts) (h : Head) → c ≡ counts_of (sections_in s b row) s.assembled.now.rules → q ≡ first_state o₂ 0 (3 * c.states)
            → h ≡ head_at (tokens_of s.tokens) s.assembled.now.first q c → (o₃ : List ℕ) → o₃ ≡ take (e + n) o₂ ++ zeros (length o₂ - (e + n)) → (l : ℕ)
            → read_in (Ok (Machine h)) (zeros l) o₃ ≡ read_machine (lines_of s.text.now) l (length o)
        unfolding read_machine
        whole q c h c-is q-is h-is o₃ cleared l =
            let t : Sections = sections_of text declared (rows count w) first w in
            let end : 3 * c.states ≡ length t.states = omega (arith, ap (λ (c : Counts). c.states) c-is, states_are, ap (λ (x : Sections). length x.states) same_sections) in
            let place : q ≡ (first_state (sets o 0 (L.sheet_words made)) 0 (length t.states)) =
            q-is ∙ ap₂ (λ (l : List ℕ) (i : ℕ). first_state l 0 i) sheet-set end in
            let head : h ≡ L.head_of made =
            h-is ∙ ap (λ (ts : List Token). head_at ts first q c) (sym same) ∙ T.head_of-sheet text count w first r tied o words_fit q c place (c-is ∙ counted) in
            (λ j. record { reply = machine (head j); log = zeros l; sheet = sheet-filled o₃ cleared j }) ∙ long_machine ls l (length o) (omega (arith, needed, fits))
