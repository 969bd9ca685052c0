-- Describes the code: what begins with a character that it has read.
use Rattle.std.specs.Prelude.{ℕ, List}
use Rattle.lexer.specs.Tokens.{Step}
use Rattle.lexer.specs.Places.{rest, Found, piece_of}
use Rattle.lexer.specs.declared.lex.Head.{Head}

-- the piece by the step that its first character and what follows it make
abbrev pub begins : Head → (ℕ → List ℕ → Step) → Found
begins h s = let r = rest h.text.now h.next in piece_of h.at h.next r (s h.c r)
