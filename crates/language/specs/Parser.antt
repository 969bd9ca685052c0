-- Parsers of the tokens of a line, over places of any type P: Span when a text is read, Unit when places do not count.
use Prim.Native.Nat.{ℕ, zero, suc}
use Rattle.std.specs.Prelude.{Bool, true, false, eqb, length, Option, None, Some}
use mathlib.Core.List.{List, [], ◌∷◌}
use Rattle.lexer.specs.Tokens.{TokenKind, word, number, quoted, str, sign, comment, newline, unterminated_string, unterminated_quote, Token}
use Rattle.language.specs.Machine.{Located}

-- what a parser answers: a value and the tokens behind it, or a diagnostic's code and place
pub data Result (P A : Type 0) : Type 0 where
  ok : A → List (Token P) → Result P A
  fail : ℕ → P → Result P A

-- what reads tokens from the front of a list
abbrev pub Parser : Type 0 → Type 0 → Type 0
Parser P A = List (Token P) → Result P A

-- a result, and then a parser that may use its value
infixl 20 ◌>>=◌
unfoldable pub then : {P A B : Type 0} → Result P A → (A → Parser P B) → Result P B
then (ok a ts) f = f a ts
then (fail n p) f = fail n p

-- a parser, and then another that may use its value
unfoldable pub ◌>>=◌ : {P A B : Type 0} → Parser P A → (A → Parser P B) → Parser P B
unfolding then
◌>>=◌ p f = λ ts. then (p ts) f

-- a value, and no token taken
abbrev pub give : {P A : Type 0} → A → Parser P A
give a = λ ts. ok a ts

-- a value where the test holds
abbrev pub when : {A : Type 0} → Bool → A → Option A
when true a = Some a
when false a = None

-- the code for a token that does not fit: E002 for an unterminated string, else E001
unfoldable pub unexpected : TokenKind → ℕ
unexpected unterminated_string = 2
unexpected _ = 1

-- what a sign says
unfoldable pub sign_in : {A : Type 0} → (ℕ → Option A) → TokenKind → Option A
sign_in f (sign c) = f c
sign_in f _ = None

-- the sign c
unfoldable pub is_sign : ℕ → TokenKind → Option Bool
unfolding sign_in
is_sign c = sign_in (λ d. when (eqb d c) true)

-- behind an entry: a comma, and more follow, or the closing sign c
unfoldable pub goes_on : ℕ → TokenKind → Option Bool
unfolding sign_in
goes_on c = sign_in (λ d. elim (eqb d 0x2C) [ true ↦ Some true | false ↦ when (eqb d c) false ])

-- the token t taken for what its view says, or refused
unfoldable pub taken : {P A : Type 0} → Option A → (TokenKind → ℕ) → Token P → Parser P (Located P A)
taken (Some a) bad t ts = ok (record { value = a; place = t.place }) ts
taken None bad t ts = fail (bad t.kind) t.place

-- on behind the token t if it opened something, else from it
unfoldable pub branch : {P A : Type 0} → Option Bool → Parser P A → Parser P A → Token P → Parser P A
branch (Some b) inner other t ts = inner ts
branch None inner other t ts = other (t ∷ ts)

-- an entry, with those that follow it if more do
unfoldable pub go_on : {P A : Type 0} → Bool → Parser P (List A) → A → Parser P (List A)
unfolding ◌>>=◌
go_on true rest a = rest >>= λ more. give (a ∷ more)
go_on false rest a = give (a ∷ [])

-- `stop` is the place of what ends the line's tokens: its comment or its line feed
module _ {P : Type 0} (stop : P) where
  -- one token, seen through a view
  unfoldable pub one : {A : Type 0} → (TokenKind → Option A) → (TokenKind → ℕ) → Parser P (Located P A)
  unfolding taken
  one view bad [] = fail 1 stop
  one view bad (t ∷ ts) = taken (view t.kind) bad t ts

  -- the sign c
  unfoldable pub expect : ℕ → Parser P (Located P Bool)
  unfolding one is_sign unexpected
  expect c = one (is_sign c) unexpected

  -- the inner parser behind a sign c, if it stands there, and else the other
  unfoldable pub opened : {A : Type 0} → ℕ → Parser P A → Parser P A → Parser P A
  unfolding branch is_sign
  opened c inner other [] = other []
  opened c inner other (t ∷ ts) = branch (is_sign c t.kind) inner other t ts

  -- at most n entries parted by commas, up to the sign c
  unfoldable pub at_most : {A : Type 0} → ℕ → Parser P A → ℕ → Parser P (List A)
  unfolding one goes_on unexpected ◌>>=◌ go_on
  at_most zero p c = λ ts. fail 1 stop
  at_most (suc n) p c = do
    a ← p
    more ← one (goes_on c) unexpected
    go_on more.value (at_most n p c) a

  -- entries parted by commas, up to the sign c; each takes a token, so there are no more of them than tokens (proofs/Entries.antt: the bound drops out)
  unfoldable pub entries : {A : Type 0} → Parser P A → ℕ → Parser P (List A)
  unfolding at_most
  entries p c ts = at_most (length ts) p c ts

  -- one entry
  unfoldable pub single : {A : Type 0} → Parser P A → Parser P (List A)
  unfolding ◌>>=◌
  single p = p >>= λ a. give (a ∷ [])

  -- one entry, or several in parentheses
  unfoldable pub tuple : {A : Type 0} → Parser P A → Parser P (List A)
  unfolding opened entries single
  tuple p = opened 0x28 (entries p 0x29) (single p)

  -- a set in braces, which may be empty
  unfoldable pub set : {A : Type 0} → Parser P A → Parser P (List A)
  unfolding opened entries ◌>>=◌ expect
  set p = expect 0x7B >>= λ _. opened 0x7D (give []) (entries p 0x7D)
