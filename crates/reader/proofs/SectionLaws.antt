-- The sections of the sheet one behind the other: what each asks of those before it, and what they leave together.
use mathlib.Core.Path.{◌≡◌, refl, sym, ap, subst, ◌∙◌}
use mathlib.Core.Bool.{Bool, true, false}
use mathlib.Core.List.{List, ◌++◌}
use Prim.Native.Nat.{ℕ, ◌+◌, ◌-◌, ◌*◌, ◌/◌, ◌≤◌, ◌<◌, ◌^◌}
use native.Mathlib.Omega.{arith}
use lib.ListN.{length, get_or, take, drop, length-append, length-take, length-drop}
use lib.Seq.{get_or-take, get_or-append-add, take-append_seam, take-append-add, drop-append-add, drop_at}
use Rattle.tokens.specs.declared.Token.{Token}
use Rattle.tokens.specs.Listed.{tokens_of}
use Rattle.language.specs.Infer.{machine_of}
use Rattle.language.specs.Layout as L
use Rattle.language.proofs.ReadCounts.{rules-within}
use Rattle.machine.specs.declared.Counts.{Counts}
use Rattle.parser.specs.Row.{peek}
use Rattle.parser.specs.Views.{is_state}
use Rattle.assembler.specs.Rows.{rows}
use Rattle.assembler.specs.Feeds.{Fed, CommentsLast}
use Rattle.assembler.specs.Assembled.{has_states}
use Rattle.sheet.specs.Comments.{text_words, header, trailing}
use Rattle.sheet.specs.Rules.{rule_lengths}
use Rattle.sheet.specs.declared.put.Sheet.{Sheet}
use Rattle.sheet.specs.Puts.{Held, held, Puts}
use Rattle.sheet.proofs.Puts.{put_stored, puts_none, puts_as, ◌▹◌}
use Rattle.infer.specs.States.{Inside, section, state_section, final_section}
use Rattle.infer.proofs.Pages.{rows_front}
use Rattle.infer.proofs.Widths.{states_width, finals_width}
use Rattle.infer_symbols.specs.Alphabets.{gamma_codes, sigma_words, gamma_words}
use Rattle.infer_symbols.proofs.SymbolWidths.{sigma_width, gamma_width}
use Rattle.infer_theorems.proofs.CodesFit.{codes_fit}
use Rattle.reader_theorems.specs.Ready.{lines_of, Ready}
use Rattle.reader_theorems.specs.Sections.{Sections, sections_of, joined}
use Rattle.reader_theorems.proofs.Ties.{few, row_size, fed, last, scratch, no_section, ties}
use Rattle.reader_theorems.proofs.Sheets as T
use Rattle.reader.specs.declared.sections.Source.{Source}
use Rattle.reader.specs.Sheet.{work_of, Parted, sections_in, states_in, counts_of}

-- where words end that were stored
pub put_at : (ws : List ℕ) (s r : Sheet) → (held s).at + length ws < 18446744073709551616 → Puts ws s r → (held r).at ≡ (held s).at + length ws
put_at ws s r h u = ap (λ (h : Held). h.at) (u.puts ∙ put_stored ws s.row.now s.at h)

-- the ends of sections that stand one behind the other, in 32 bits
pub record Ordered (a₁ a₂ a₃ a₄ a₅ a₆ : ℕ) : Type 0 where
  pub states : (0 ≤ a₁) × (a₁ < 2 ^ 32)
  pub sigma : (a₁ ≤ a₂) × (a₂ < 2 ^ 32)
  pub gamma : (a₂ ≤ a₃) × (a₃ < 2 ^ 32)
  pub finals : (a₃ ≤ a₄) × (a₄ < 2 ^ 32)
  pub header : (a₄ ≤ a₅) × (a₅ < 2 ^ 32)
  pub trailing : (a₅ ≤ a₆) × (a₆ < 2 ^ 32)

-- what the sections leave in the sheet when they end at the indices a₁ to a₆, and how many members they then have
pub record Stored (s : Source) (row : List ℕ) (b : ℕ) (s₀ s₆ : Sheet) (a₁ a₂ a₃ a₄ a₅ a₆ : ℕ) : Type 0 where
  pub written : Puts (joined (sections_in s b row)) s₀ s₆
  pub ends : Ordered a₁ a₂ a₃ a₄ a₅ a₆
  pub counts : (m₁ m₂ m₃ m₄ m₅ m₆ n : ℕ) → m₁ ≡ (a₁ - 0) / 3 → m₂ ≡ (a₂ - a₁) / 3 → m₃ ≡ (a₃ - a₂) / 3 → m₄ ≡ (a₄ - a₃) / 2 → m₅ ≡ (a₅ - a₄) / 2 → m₆ ≡ (a₆ - a₅) / 2 → n ≡ s.assembled.now.rules
      → ◌≡◌ {A = Counts} (record { states = m₁; sigma = m₂; gamma = m₃; finals = m₄; header = m₅; trailing = m₆; rules = n }) (counts_of (sections_in s b row) s.assembled.now.rules)

module _ (s : Source) (row : List ℕ) (p : Parted s row) where
  abbrev text : List ℕ
  text = s.text.now

  abbrev size : ℕ
  size = length s.text.now + 1

  abbrev count : ℕ
  count = s.tokens.count

  abbrev w : List ℕ
  w = work_of s row

  abbrev first : List ℕ
  first = s.assembled.now.first

  abbrev ts : List Token
  ts = tokens_of s.tokens

  r : Ready s.text.now s.tokens.count (work_of s row) s.assembled.now.first
  r = p.assembles.ready

  -- ---- the two parts of work
  pub rows_same : rows s.tokens.count (work_of s row) ≡ tokens_of s.tokens
  rows_same =
      let words : List ℕ = s.tokens.words.now in
      sym (rows_front count (length words) w (omega (arith, s.tokens.within)) (omega (arith, length-append words row))) ∙ ap (rows count) (take-append_seam words row)

  pub row_long : 2 * (length s.text.now + 1) ≤ length row
  row_long = omega (arith, r.room, p.cut, length-append s.tokens.words.now row)

  pub tokens_few : s.tokens.count ≤ length s.text.now + 1
  tokens_few = few text count w first r

  pub tokens_size : length (tokens_of s.tokens) ≤ length s.text.now + 1
  tokens_size = omega (arith, ap length rows_same, row_size text count w first r, tokens_few)

  -- ---- the states, if there can be some
  module _ (b : Bool) (asked : b ≡ has_states s.tokens.count s.assembled.now.first s.assembled.now.rules) where
    said : has_states count first (length (machine_of (lines_of text)).rules) ≡ b
    said = ap (has_states count first) (sym p.assembles.rules) ∙ sym asked

    pub no_states : b ≡ false → (o : Sheet) → Puts (states_in s row) o o
    no_states n o = puts_as (ap (λ (ts : List Token). state_section size ts first w) (sym rows_same) ∙ no_section text count w first r (said ∙ n)) (puts_none o)

    module _ (firsts marks : List ℕ) (is-firsts : firsts ≡ take (length s.text.now + 1) row) (is-marks : marks ≡ drop (length s.text.now + 1) row) where
      firsts_long : length firsts ≡ size
      firsts_long = omega (arith, ap length is-firsts, length-take size row, row_long)

      pub firsts_few : s.tokens.count ≤ length firsts
      firsts_few = omega (arith, firsts_long, tokens_few)

      pub marks_long : length firsts ≤ length marks
      marks_long = omega (arith, firsts_long, ap length is-marks, length-drop size row, row_long)

      pub firsts_low : b ≡ true → Inside s.tokens.count (tokens_of s.tokens) firsts
      firsts_low y x h e =
          let words : List ℕ = s.tokens.words.now in
          let at : get_or firsts x 0 ≡ get_or w (4 * size + x) 0 =
          ap (λ (l : List ℕ). get_or l x 0) is-firsts ∙ get_or-take size row x 0 (omega (arith, h, tokens_few)) ∙ sym (get_or-append-add words row x 0)
          ∙ ap (λ (n : ℕ). get_or w (n + x) 0) p.cut in
          omega (arith, at, firsts_long, (scratch text count w first r (said ∙ y)).low x h (ap (λ (ts : List Token). is_state (peek ts x)) rows_same ∙ e))

      section_is : states_in s row ≡ section firsts (tokens_of s.tokens) s.assembled.now.first marks
      unfolding state_section
      section_is =
          let words : List ℕ = s.tokens.words.now in
          let five : 5 * size ≡ length words + size = omega (arith, p.cut) in
          let here : drop (4 * size) (take (5 * size) w) ≡ firsts =
          ap (λ (n : ℕ). drop (4 * size) (take n w)) five ∙ ap (drop (4 * size)) (take-append-add words row size) ∙ drop_at words (take size row) (4 * size) p.cut ∙ sym is-firsts in
          let behind : drop (5 * size) w ≡ marks = ap (λ (n : ℕ). drop n w) five ∙ drop-append-add words row size ∙ sym is-marks in
          rw (here, behind) refl

      pub states_put : {o o' : Sheet} → Puts (section firsts (tokens_of s.tokens) s.assembled.now.first marks) o o' → Puts (states_in s row) o o'
      states_put u = puts_as section_is u

  -- ---- the tokens
  pub tokens_fed : Fed (tokens_of s.tokens)
  tokens_fed = subst Fed rows_same (fed text count w first r)

  pub comments_last : CommentsLast (tokens_of s.tokens)
  comments_last = subst CommentsLast rows_same (last text count w first r)

  pub count_low : s.tokens.count < 2 ^ 32
  count_low = omega (arith, tokens_few, r.short)

  pub expand_small : 9 * s.tokens.count + 11 < 2 ^ 32
  expand_small = omega (arith, tokens_few, r.short)

  pub lengths_few : rule_lengths (tokens_of s.tokens) ≤ 262144 * (11 + 7 * s.tokens.count) + 2 * s.tokens.count
  lengths_few = omega (arith, ap rule_lengths rows_same, T.lengths_few text count w first r (ties text count w first r).shown)

  pub lengths_low : rule_lengths (tokens_of s.tokens) < 2 ^ 63
  lengths_low = omega (arith, lengths_few, tokens_few, r.short)

  pub lengths_fit : rule_lengths (tokens_of s.tokens) < 2 ^ 64
  lengths_fit = omega (arith, lengths_low)

  pub rules_low : s.assembled.now.rules < 2 ^ 32
  rules_low = omega (arith, p.assembles.rules, rules-within (lines_of text))

  -- ---- the codes of an undeclared Γ, and all sections
  module _ (b : ℕ) where
    code_count : length (gamma_codes s.text.now b (tokens_of s.tokens) s.assembled.now.first) ≤ 2 * (length s.text.now + 1)
    code_count = codes_fit text b ts first tokens_size

    pub codes_room : length (gamma_codes s.text.now b (tokens_of s.tokens) s.assembled.now.first) ≤ length row
    codes_room = omega (arith, code_count, row_long)

    abbrev x : Sections
    x = sections_in s b row

    pub joined_length : length (joined (sections_in s b row)) ≡ length (sections_in s b row).states + (length (sections_in s b row).sigma + (length (sections_in s b row).gamma + (length (sections_in s b row).finals + (length (sections_in s b row).header + length (sections_in s b row).trailing))))
    joined_length =
        omega (
          arith,
          length-append x.states (x.sigma ++ (x.gamma ++ (x.finals ++ (x.header ++ x.trailing)))),
          length-append x.sigma (x.gamma ++ (x.finals ++ (x.header ++ x.trailing))),
          length-append x.gamma (x.finals ++ (x.header ++ x.trailing)),
          length-append x.finals (x.header ++ x.trailing),
          length-append x.header x.trailing,
        )

    pub joined_low : length (joined (sections_in s b row)) ≤ 34 * (length s.text.now + 1) + 6
    unfolding sections_of
    joined_low =
        let cs : List ℕ = gamma_codes text b ts first in
        omega (
          arith,
          joined_length,
          states_width size ts first w,
          sigma_width b ts first cs,
          gamma_width b ts first cs,
          finals_width ts (get_or first 10 0),
          ap (λ (ts : List Token). length (L.flat text_words (header ts))) rows_same,
          T.header_few text count w first r (ties text count w first r).shown,
          ap (λ (ts : List Token). length (L.flat text_words (trailing ts))) rows_same,
          T.trailing_few text count w first r (ties text count w first r).shown,
          code_count,
          tokens_size,
          tokens_few,
        )

    module _ (s₀ s₁ s₂ s₃ s₄ s₅ s₆ : Sheet) (front : (held s₀).at ≡ 0) (cs : List ℕ) (codes : cs ≡ gamma_codes s.text.now b (tokens_of s.tokens) s.assembled.now.first)
        (u₁ : Puts (states_in s row) s₀ s₁)
        (u₂ : Puts (sigma_words b (tokens_of s.tokens) s.assembled.now.first cs) s₁ s₂)
        (u₃ : Puts (gamma_words b (tokens_of s.tokens) s.assembled.now.first cs) s₂ s₃)
        (u₄ : Puts (final_section (tokens_of s.tokens) (get_or s.assembled.now.first 10 0)) s₃ s₄)
        (u₅ : Puts (L.flat text_words (header (tokens_of s.tokens))) s₄ s₅)
        (u₆ : Puts (L.flat text_words (trailing (tokens_of s.tokens))) s₅ s₆) where
      v₁ : Puts x.states s₀ s₁
      unfolding sections_of
      v₁ = u₁

      v₂ : Puts x.sigma s₁ s₂
      unfolding sections_of
      v₂ = puts_as (ap (sigma_words b ts first) (sym codes)) u₂

      v₃ : Puts x.gamma s₂ s₃
      unfolding sections_of
      v₃ = puts_as (ap (gamma_words b ts first) (sym codes)) u₃

      v₄ : Puts x.finals s₃ s₄
      unfolding sections_of
      v₄ = u₄

      v₅ : Puts x.header s₄ s₅
      unfolding sections_of
      v₅ = u₅

      v₆ : Puts x.trailing s₅ s₆
      unfolding sections_of
      v₆ = u₆

      sections-written : Puts (joined (sections_in s b row)) s₀ s₆
      sections-written = v₁ ▹ v₂ ▹ v₃ ▹ v₄ ▹ v₅ ▹ v₆

      -- ---- where each ends
      low : length (joined x) < 4294967296
      low = omega (arith, joined_low, r.short)

      at₁ : (held s₁).at ≡ length x.states
      at₁ = omega (arith, front, put_at x.states s₀ s₁ (omega (arith, front, low, joined_length)) v₁)

      at₂ : (held s₂).at ≡ (held s₁).at + length x.sigma
      at₂ = put_at x.sigma s₁ s₂ (omega (arith, at₁, low, joined_length)) v₂

      at₃ : (held s₃).at ≡ (held s₂).at + length x.gamma
      at₃ = put_at x.gamma s₂ s₃ (omega (arith, at₁, at₂, low, joined_length)) v₃

      at₄ : (held s₄).at ≡ (held s₃).at + length x.finals
      at₄ = put_at x.finals s₃ s₄ (omega (arith, at₁, at₂, at₃, low, joined_length)) v₄

      at₅ : (held s₅).at ≡ (held s₄).at + length x.header
      at₅ = put_at x.header s₄ s₅ (omega (arith, at₁, at₂, at₃, at₄, low, joined_length)) v₅

      at₆ : (held s₆).at ≡ (held s₅).at + length x.trailing
      at₆ = put_at x.trailing s₅ s₆ (omega (arith, at₁, at₂, at₃, at₄, at₅, low, joined_length)) v₆

      module _ (a₁ a₂ a₃ a₄ a₅ a₆ : ℕ) (b₁ : a₁ ≡ (held s₁).at) (b₂ : a₂ ≡ (held s₂).at) (b₃ : a₃ ≡ (held s₃).at) (b₄ : a₄ ≡ (held s₄).at) (b₅ : a₅ ≡ (held s₅).at) (b₆ : a₆ ≡ (held s₆).at) where
        ordered : Ordered a₁ a₂ a₃ a₄ a₅ a₆
        ordered =
            let e₁ : a₁ ≡ length x.states = omega (arith, b₁, at₁) in
            let e₂ : a₂ ≡ a₁ + length x.sigma = omega (arith, b₁, b₂, at₂) in
            let e₃ : a₃ ≡ a₂ + length x.gamma = omega (arith, b₂, b₃, at₃) in
            let e₄ : a₄ ≡ a₃ + length x.finals = omega (arith, b₃, b₄, at₄) in
            let e₅ : a₅ ≡ a₄ + length x.header = omega (arith, b₄, b₅, at₅) in
            let e₆ : a₆ ≡ a₅ + length x.trailing = omega (arith, b₅, b₆, at₆) in
            record {
              states = (omega arith, omega (arith, e₁, low, joined_length));
              sigma = (omega (arith, e₂), omega (arith, e₁, e₂, low, joined_length));
              gamma = (omega (arith, e₃), omega (arith, e₁, e₂, e₃, low, joined_length));
              finals = (omega (arith, e₄), omega (arith, e₁, e₂, e₃, e₄, low, joined_length));
              header = (omega (arith, e₅), omega (arith, e₁, e₂, e₃, e₄, e₅, low, joined_length));
              trailing = (omega (arith, e₆), omega (arith, e₁, e₂, e₃, e₄, e₅, e₆, low, joined_length));
            }

        -- how many members each has
        counts_are : (m₁ m₂ m₃ m₄ m₅ m₆ n : ℕ) → m₁ ≡ (a₁ - 0) / 3 → m₂ ≡ (a₂ - a₁) / 3 → m₃ ≡ (a₃ - a₂) / 3 → m₄ ≡ (a₄ - a₃) / 2 → m₅ ≡ (a₅ - a₄) / 2 → m₆ ≡ (a₆ - a₅) / 2 → n ≡ s.assembled.now.rules
            → ◌≡◌ {A = Counts} (record { states = m₁; sigma = m₂; gamma = m₃; finals = m₄; header = m₅; trailing = m₆; rules = n }) (counts_of (sections_in s b row) s.assembled.now.rules)
        counts_are m₁ m₂ m₃ m₄ m₅ m₆ n e₁ e₂ e₃ e₄ e₅ e₆ q =
            let c₁ : m₁ ≡ length x.states / 3 = omega (arith, e₁, b₁, at₁) in
            let c₂ : m₂ ≡ length x.sigma / 3 = omega (arith, e₂, b₁, b₂, at₂) in
            let c₃ : m₃ ≡ length x.gamma / 3 = omega (arith, e₃, b₂, b₃, at₃) in
            let c₄ : m₄ ≡ length x.finals / 2 = omega (arith, e₄, b₃, b₄, at₄) in
            let c₅ : m₅ ≡ length x.header / 2 = omega (arith, e₅, b₄, b₅, at₅) in
            let c₆ : m₆ ≡ length x.trailing / 2 = omega (arith, e₆, b₅, b₆, at₆) in
            λ j. record { states = c₁ j; sigma = c₂ j; gamma = c₃ j; finals = c₄ j; header = c₅ j; trailing = c₆ j; rules = q j }

        pub stored : Stored s row b s₀ s₆ a₁ a₂ a₃ a₄ a₅ a₆
        stored = record { written = sections-written; ends = ordered; counts = counts_are }
