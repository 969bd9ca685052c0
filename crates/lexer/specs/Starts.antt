-- Describes the code, and what the laws say of words: which characters begin one.
use Rattle.std.specs.Prelude.{ℕ, Bool, ◌||◌, eqb}
use Rattle.chars.specs.Class.{class_of}
use Rattle.lexer.specs.Tokens.{is_letter}

-- a word starts with a letter or `_`
unfoldable pub is_word_start : ℕ → Bool
unfolding class_of
is_word_start c = is_letter (class_of c) || eqb c 0x5F
