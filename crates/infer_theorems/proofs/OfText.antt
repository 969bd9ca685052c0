-- For the row of a text without diagnostics: what the calls of the inference ask of work holds, and the sections that they store
-- are those of the language's machine.
use mathlib.Core.Path.{◌≡◌, refl, ap, ◌∙◌}
use mathlib.Core.Bool.{false}
use mathlib.Core.List.{List, [], ◌∷◌}
use Rattle.std.specs.Prelude.{Option, None, Some}
use Prim.Native.Nat.{ℕ, ◌+◌, ◌*◌, ◌≤◌, ◌<◌, ◌^◌}
use native.Mathlib.Omega.{arith}
use lib.ListN.{length, get_or}
use Rattle.chars.specs.Utf8.{decode}
use Rattle.diag.specs.declared.Span.{Span as Place}
use Rattle.lexer.specs.Tokens.{tokens}
use Rattle.tokens.specs.declared.Token.{Token}
use Rattle.parser.specs.Row.{peek}
use Rattle.language.specs.Machine.{State, Symbol}
use Rattle.language.specs.Lines.{Item, Line, covering, read_lines}
use Rattle.language.specs.Assembly as A
use Rattle.language.specs.Infer as I
use Rattle.language.specs.Layout as L
use Rattle.language.proofs.Every.{Every, every_any}
use Rattle.language.proofs.Counts.{Chosen, flat-length}
use Rattle.language.proofs.ReadCounts.{read_chosen}
use Rattle.assembler.specs.Rows.{rows}
use Rattle.assembler.specs.Entries.{Entry, entries}
use Rattle.assembler.specs.Feeds.{Fed}
use Rattle.assembler.specs.Finals.{Interned}
use Rattle.assembler.specs.Assembled.{has_states}
use Rattle.assembler.proofs.Rows.{length-rows}
use Rattle.assembler.proofs.Means.{AllMean}
use Rattle.assembler.proofs.MarkLaws.{first_low}
use Rattle.infer.specs.States.{Scratch, state_section, final_section}
use Rattle.infer_symbols.specs.Symbols.{blank_of}
use Rattle.infer_symbols.specs.Alphabets.{gamma_codes, gamma_words, sigma_words}
use Rattle.sheet_theorems.proofs.Shows.{Mentions}
use Rattle.infer_theorems.proofs.NameMarks.{state-word}
use Rattle.infer_theorems.proofs.Firsts.{firsts, input_at}
use Rattle.infer_theorems.proofs.StatesInferred.{Stateless, stateless, finals-inferred, section-inferred, none_stored, none-listed}
use Rattle.infer_theorems.proofs.AlphabetsInferred.{blank_inferred, gamma-inferred, sigma-inferred}
use Rattle.infer_theorems.proofs.InputInferred.{input_inferred}

-- ---- what the calls ask
module _ (text : List ℕ) (count : ℕ) (w : List ℕ) (few : count ≤ length text + 1) (room : 6 * length text + 6 ≤ length w) where
  -- the states: the row of first equal words stands at 4 · (length text + 1)
  pub scratch_of_text : Interned text (rows count w) (4 * (length text + 1)) w → Fed (rows count w) → Scratch (length text + 1) count w
  scratch_of_text names fed =
      let n : length (rows count w) ≡ count = length-rows count w (omega arith) in
      record {
        few = few;
        room = omega arith;
        fed = fed;
        low = λ x h e.
            let word = state-word (peek (rows count w) x) e in
            omega (arith, names.interned x (omega arith) word, first_low text (rows count w) x (omega arith) word);
      }

-- ---- the sections
module _ (text : List ℕ) (X : Entry → Item Place → Type 0) (ts : List Token) (says : (e : Entry) (i : Item Place) → X e i → Mentions text ts e.at i) (few : length ts ≤ 0xffffffff)
    (all : AllMean X ts (entries ts) (read_lines (decode text))) (fine : A.diagnostics_of (read_lines (decode text)) ≡ []) where
  abbrev ls : List (Line Place)
  ls = read_lines (decode text)

  abbrev first : List ℕ
  first = firsts text X ts says few ls all

  abbrev blank : ℕ
  blank = blank_of ts (get_or first 8 0)

  chosen : Every Chosen (A.body_of ls).rules
  unfolding read_lines
  chosen = read_chosen covering (tokens (decode text))

  same_blank : blank ≡ A.blank_of (A.items ls)
  same_blank = blank_inferred text X ts says few ls all

  pub states_of_text : (size count : ℕ) (w : List ℕ) → rows count w ≡ ts → Interned text ts (4 * size) w → count ≤ size → 6 * size ≤ length w → count < 2 ^ 31
      → state_section size ts first w ≡ L.flat L.state_words (I.machine_of ls).states
  states_of_text size count w row names narrow room short = section-inferred text X ts says few ls all fine chosen size count w row names narrow room

  -- where there can be none, nothing is stored, and the machine has none
  module _ (none-there : has_states (length ts) first (length (I.machine_of ls).rules) ≡ false) where
    lacks : Stateless (length ts) first (length (I.machine_of ls).rules)
    lacks = stateless (length ts) first (length (I.machine_of ls).rules) none-there

    pub no_section_of_text : (size : ℕ) (w : List ℕ) → state_section size ts first w ≡ []
    no_section_of_text size w = none_stored text X ts says few ls all fine chosen lacks size w

    pub no_states_of_text : L.flat L.state_words (I.machine_of ls).states ≡ []
    no_states_of_text = none-listed text X ts says few ls all fine chosen lacks

  pub finals_of_text : final_section ts (get_or first 10 0) ≡ L.flat L.place_words (I.machine_of ls).finals
  finals_of_text = finals-inferred text X ts says few ls all fine chosen

  pub sigma_of_text : sigma_words blank ts first (gamma_codes text blank ts first) ≡ L.flat L.symbol_words (I.machine_of ls).sigma
  sigma_of_text = ap (λ (b : ℕ). sigma_words b ts first (gamma_codes text b ts first)) same_blank ∙ sigma-inferred text X ts says few ls all fine chosen (input_inferred text ts (get_or first 2 0) (input_at text X ts says few ls all))

  pub gamma_of_text : gamma_words blank ts first (gamma_codes text blank ts first) ≡ L.flat L.symbol_words (I.machine_of ls).gamma
  gamma_of_text = ap (λ (b : ℕ). gamma_words b ts first (gamma_codes text b ts first)) same_blank ∙ gamma-inferred text X ts says few ls all fine chosen (input_inferred text ts (get_or first 2 0) (input_at text X ts says few ls all))

  -- the blank
  pub blank_of_text : blank_of ts (get_or first 8 0) ≡ (I.machine_of ls).blank
  unfolding I.machine_of
  blank_of_text = same_blank

-- ---- how many words the sections have
pub states-count : (l : List (State Place)) → length (L.flat L.state_words l) ≡ length l * 3
unfolding L.state_words
states-count l = flat-length L.state_words 3 l (every_any _ (λ s. refl) l)

pub symbols-count : (l : List (Symbol Place)) → length (L.flat L.symbol_words l) ≡ length l * 3
unfolding L.symbol_words
symbols-count l = flat-length L.symbol_words 3 l (every_any _ (λ s. three s s.declared_at) l)
  where
    three : (s : Symbol Place) (o : Option Place) → length (s.code ∷ elim o [ Some p ↦ L.place_words p | None ↦ 0 ∷ 0 ∷ [] ]) ≡ 3
    three s None = refl
    three s (Some p) = refl

pub places_count : (l : List Place) → length (L.flat L.place_words l) ≡ length l * 2
places_count l = flat-length L.place_words 2 l (every_any _ (λ p. refl) l)
