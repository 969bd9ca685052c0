-- Describes the code: where the names of a machine stand, and the words of a text. The theorems are about these.
use Rattle.std.specs.Prelude.{ℕ, ◌≡◌, List, Contains, Some}
use Rattle.lexer.specs.Tokens.{word, Token, Span, tokens}
use Rattle.language.specs.Machine.{Located, State, Rule, Machine}

-- the place of a name of a machine: of a state, of the state that a rule is for or of the one that it leads to, or of the start
pub data NamePlace (m : Machine Span) : Span → Type 0 where
  of_state : (s : State Span) → Contains m.states s → NamePlace m s.name.place
  of_from : (r : Rule Span) → Contains m.rules r → NamePlace m r.from.place
  of_to : (r : Rule Span) → Contains m.rules r → NamePlace m r.to.place
  of_start : (l : Located Span (List ℕ)) → m.start ≡ Some l → NamePlace m l.place

-- the place of a word of the text of characters cs, which is that of a token
pub record WordPlace (cs : List ℕ) (place : Span) : Type 0 where
  pub token : Token Span
  pub among : Contains (tokens cs) token
  pub name : List ℕ
  pub is_word : token.kind ≡ word name
  pub placed : token.place ≡ place
