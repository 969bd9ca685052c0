-- The plain form in sections, from the head, the words of each section on, and the text.
use Rattle.std.specs.Prelude.{ℕ, Bool, List, ◌∷◌, map}
use Rattle.lexer.specs.Tokens.{Span}
use Rattle.machine.specs.declared.Head.{Head}
use Rattle.language.specs.Plain.{Piece, ◌⨾◌, say, end, only, verbatim, symbol, string, decimal, kind_name, decoder, name_set, symbol_set, final_names}
use Rattle.language.specs.Agreement.{groups, characters_at, string_at, state_in, text_in}
use Rattle.form_lists.specs.Places.{column}

-- machine, kind, input, output and tapes
unfoldable pub head_lines : List ℕ → Head → Piece
head_lines text h =
    say "machine " ⨾ string (string_at text h.name) ⨾ end
    ⨾ say "kind " ⨾ say (kind_name h.kind) ⨾ end
    ⨾ say "input " ⨾ string (string_at text h.input) ⨾ end
    ⨾ say "output " ⨾ decoder h.output ⨾ end
    ⨾ say "tapes = " ⨾ decimal h.tapes ⨾ end

-- Q, if declared
unfoldable pub states_line : List ℕ → Bool → ℕ → List ℕ → Piece
states_line text declared n states = only declared (say "Q = " ⨾ name_set (map (text_in text) (groups 3 n states)) ⨾ end)

-- Σ or Γ, by its letter, if declared
unfoldable pub symbols_line : ℕ → Bool → ℕ → List ℕ → Piece
symbols_line letter declared n symbols = only declared ((λ rest. letter ∷ rest) ⨾ say " = " ⨾ symbol_set (column 3 0 n symbols) ⨾ end)

-- the blank, if declared
unfoldable pub blank_line : Bool → ℕ → Piece
blank_line declared c = only declared (say "blank = " ⨾ symbol c ⨾ end)

-- the start, if declared
unfoldable pub start_line : List ℕ → Bool → Span → Piece
start_line text declared p = only declared (say "start = " ⨾ verbatim (characters_at text p) ⨾ end)

-- the final states
unfoldable pub finals_line : List ℕ → ℕ → List ℕ → Piece
finals_line text n states = say "F = " ⨾ name_set (final_names (map (state_in text) (groups 3 n states))) ⨾ end

-- all of them
unfoldable pub declared_lines : List ℕ → Head → List ℕ → List ℕ → List ℕ → Piece
unfolding states_line symbols_line blank_line start_line finals_line
declared_lines text h states sigma gamma =
    states_line text h.declared.states h.counts.states states
    ⨾ symbols_line 0x3A3 h.declared.input_alphabet h.counts.sigma sigma
    ⨾ symbols_line 0x393 h.declared.tape_alphabet h.counts.gamma gamma
    ⨾ blank_line h.declared.blank h.blank
    ⨾ start_line text h.declared.start h.start
    ⨾ finals_line text h.counts.states states
