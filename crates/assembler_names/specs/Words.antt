-- What a text and its tokens are to the definitions.
use Rattle.std.specs.Prelude.{ℕ, ◌≤◌, List, length}
use Rattle.tokens.specs.declared.Token.{Token}
use Rattle.tokens.specs.Listed as listed
use Rattle.assembler_names.specs.declared.words.Words.{Words}
use Rattle.assembler_names.specs.Names.{FirstsOf}
use Rattle.assembler_names.specs.Order.{key_in, words_from}

-- the tokens
abbrev pub tokens_of : Words → List Token
tokens_of w = listed.tokens_of w.tokens

-- how many tokens there are
abbrev pub count_of : Words → ℕ
count_of w = length (tokens_of w)

-- a row has a word for each token
abbrev pub HasRoom : Words → List ℕ → Type 0
HasRoom w row = count_of w ≤ length row

-- the row of first equal words stands for the words before the token n
abbrev pub Firsts : Words → ℕ → List ℕ → Type 0
Firsts w n row = FirstsOf w.text.now (tokens_of w) n row

-- the row of first equal words stands for all words
abbrev pub AllFirsts : Words → List ℕ → Type 0
AllFirsts w row = Firsts w (count_of w) row

-- the number of the name of the token at an index
abbrev pub key_of : Words → ℕ → ℕ
key_of w = key_in w.text.now (tokens_of w)

-- the indices of the words
abbrev pub words_of : Words → List ℕ
words_of w = words_from 0 (tokens_of w)
