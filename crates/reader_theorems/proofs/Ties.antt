-- What the lines of a row and its sections are in the language's terms, for every text without diagnostics.
use mathlib.Core.Path.{◌≡◌, refl, sym, ap, ap₂, subst, ◌∙◌}
use mathlib.Core.Bool.{true, false}
use mathlib.Core.List.{List, [], map}
use Prim.Native.Nat.{ℕ, ◌+◌, ◌≤◌}
use native.Mathlib.Omega.{arith}
use lib.ListN.{length, get_or, length-map}
use Rattle.diag.proofs.Cases.{by_test_lem}
use Rattle.chars.specs.Utf8.{decode}
use Rattle.diag.specs.declared.Span.{Span as Place}
use Rattle.lexer.specs.Tokens.{tokens}
use Rattle.lexer.proofs.Writes.{tokens_of_bytes}
use Rattle.lexer.proofs.Placed.{placed}
use Rattle.tokens.specs.declared.Token.{Token}
use Rattle.parser.specs.Meaning.{token_of}
use Rattle.parser.proofs.Lexed.{tokens_lexed}
use Rattle.language.specs.Lines.{Item, Line, lines, covering, read_lines}
use Rattle.language.specs.Infer as I
use Rattle.language.specs.Layout as L
use Rattle.assembler.specs.Rows.{rows}
use Rattle.assembler.specs.Entries.{Entry, entries}
use Rattle.assembler.specs.Feeds.{Fed, CommentsLast}
use Rattle.assembler.specs.Declarations.{undeclared, declarations}
use Rattle.assembler.specs.Assembled.{has_states}
use Rattle.assembler.proofs.Means.{AllMean}
use Rattle.assembler.proofs.AssembledLaws.{length-entered}
use Rattle.assembler.proofs.FeedLaws.{entered_fed}
use Rattle.assembler.proofs.CommentLaws.{tokens_last, entered_last}
use Rattle.sheet_theorems.proofs.Shows.{Mentions, Said, Shown}
use Rattle.sheet_theorems.proofs.TextShown.{text_shown, text_said, no_rule_errors}
use Rattle.infer.specs.States.{Scratch, state_section, final_section}
use Rattle.infer_symbols.specs.Symbols.{blank_of}
use Rattle.infer_symbols.specs.Alphabets.{gamma_codes, sigma_words, gamma_words}
use Rattle.infer_theorems.proofs.OfText.{scratch_of_text, states_of_text, no_section_of_text, no_states_of_text, finals_of_text, sigma_of_text, gamma_of_text, blank_of_text}
use Rattle.reader_theorems.specs.Ready.{lines_of, Ready}

-- the lines of the row, its entries, and the sections of the inference
pub record Tied (text : List ℕ) (count : ℕ) (w first : List ℕ) : Type 0 where
  pub shown : Shown text (rows count w) 0 (lines_of text)
  pub said : AllMean (Said text (rows count w)) (rows count w) (entries (rows count w)) (lines_of text)
  pub states : state_section (length text + 1) (rows count w) first w ≡ L.flat L.state_words (I.machine_of (lines_of text)).states
  pub sigma : let b = (I.machine_of (lines_of text)).blank in sigma_words b (rows count w) first (gamma_codes text b (rows count w) first) ≡ L.flat L.symbol_words (I.machine_of (lines_of text)).sigma
  pub gamma : let b = (I.machine_of (lines_of text)).blank in gamma_words b (rows count w) first (gamma_codes text b (rows count w) first) ≡ L.flat L.symbol_words (I.machine_of (lines_of text)).gamma
  pub finals : final_section (rows count w) (get_or first 10 0) ≡ L.flat L.place_words (I.machine_of (lines_of text)).finals

module _ (text : List ℕ) (count : ℕ) (w first : List ℕ) (r : Ready text count w first) where
  abbrev ts : List Token
  ts = rows count w

  abbrev ls : List (Line Place)
  ls = lines_of text

  -- ---- the row
  pub row_size : length (rows count w) ≡ count
  row_size = ap length r.row ∙ length-entered (map token_of (tokens (decode text))) ∙ length-map (tokens (decode text)) token_of ∙ sym r.many

  pub few : count ≤ length text + 1
  few = omega (arith, r.many, tokens_of_bytes text)

  -- the lines of the row end at their line feeds
  pub fed : Fed (rows count w)
  fed = subst Fed (sym r.row) (entered_fed (map token_of (tokens (decode text))))

  -- a comment stands only in front of a line feed
  pub last : CommentsLast (rows count w)
  last = subst CommentsLast (sym r.row) (entered_last (map token_of (tokens (decode text))) (tokens_last (tokens (decode text)) (tokens_lexed text)))

  pub scratch : has_states count first (length (I.machine_of (lines_of text)).rules) ≡ true → Scratch (length text + 1) count w
  scratch y = scratch_of_text text count w few r.room (r.names y) fed

  pub table : first ≡ declarations (length (rows count w)) undeclared (entries (rows count w))
  table = r.declared ∙ ap (λ (n : ℕ). declarations n undeclared (entries (rows count w))) (sym row_size)

  -- ---- the lines
  said : AllMean (Said text (rows count w)) (rows count w) (entries (rows count w)) (lines_of text)
  unfolding read_lines
  said =
      subst (λ (ts : List Token). AllMean (Said text ts) ts (entries ts) (lines covering (tokens (decode text)))) (sym r.row) (text_said text (tokens (decode text)) (tokens_lexed text) (placed text))

  shown : Shown text (rows count w) 0 (lines_of text)
  unfolding read_lines
  shown =
      subst (λ (ts : List Token). Shown text ts 0 (lines covering (tokens (decode text)))) (sym r.row)
      (text_shown text (tokens (decode text)) (tokens_lexed text) (placed text) (omega (arith, r.short)) (no_rule_errors (lines covering (tokens (decode text))) r.none_found))

  says : (e : Entry) (i : Item Place) → Said text (rows count w) e i → Mentions text (rows count w) e.at i
  says e i x = x.0

  small : length (rows count w) ≤ 0xffffffff
  small = omega (arith, row_size, few, r.short)

  -- ---- the states
  -- where there can be none, nothing is stored
  module _ (none-there : has_states count first (length (I.machine_of (lines_of text)).rules) ≡ false) where
    lacks : has_states (length (rows count w)) (declarations (length (rows count w)) undeclared (entries (rows count w))) (length (I.machine_of (lines_of text)).rules) ≡ false
    lacks = ap₂ (λ (n : ℕ) (f : List ℕ). has_states n f (length (I.machine_of (lines_of text)).rules)) row_size (sym table) ∙ none-there

    pub no_section : state_section (length text + 1) (rows count w) first w ≡ []
    no_section =
        ap (λ (f : List ℕ). state_section (length text + 1) (rows count w) f w) table
        ∙ no_section_of_text text (Said text (rows count w)) (rows count w) says small said r.none_found lacks (length text + 1) w

    no_states : L.flat L.state_words (I.machine_of (lines_of text)).states ≡ []
    no_states = no_states_of_text text (Said text (rows count w)) (rows count w) says small said r.none_found lacks

  states : state_section (length text + 1) (rows count w) first w ≡ L.flat L.state_words (I.machine_of (lines_of text)).states
  states = by_test_lem (has_states count first (length (I.machine_of (lines_of text)).rules))
      (λ y. ap (λ (f : List ℕ). state_section (length text + 1) (rows count w) f w) table
      ∙ states_of_text text (Said text (rows count w)) (rows count w) says small said r.none_found (length text + 1) count w refl (r.names y) few (omega (arith, r.room)) (omega (arith, few, r.short)))
      (λ n. no_section n ∙ sym (no_states n))

  -- ---- all sections
  pub ties : Tied text count w first
  ties =
      let X : Entry → Item Place → Type 0 = Said text (rows count w) in
      let ts : List Token = rows count w in
      let firsts : List ℕ = declarations (length ts) undeclared (entries ts) in
      let b : ℕ = (I.machine_of (lines_of text)).blank in
      let blank : blank_of ts (get_or firsts 8 0) ≡ (I.machine_of (lines_of text)).blank = blank_of_text text X ts says small said r.none_found in
      record {
        shown = shown;
        said = said;
        states = states;
        sigma =
            ap (λ (f : List ℕ). sigma_words b ts f (gamma_codes text b ts f)) table ∙ ap (λ (b : ℕ). sigma_words b ts firsts (gamma_codes text b ts firsts)) (sym blank)
            ∙ sigma_of_text text X ts says small said r.none_found;
        gamma =
            ap (λ (f : List ℕ). gamma_words b ts f (gamma_codes text b ts f)) table ∙ ap (λ (b : ℕ). gamma_words b ts firsts (gamma_codes text b ts firsts)) (sym blank)
            ∙ gamma_of_text text X ts says small said r.none_found;
        finals = ap (λ (f : List ℕ). final_section ts (get_or f 10 0)) table ∙ finals_of_text text X ts says small said r.none_found;
      }
