-- Describes the code: tokens of one ASCII character, told by a table.
use Rattle.std.specs.Prelude.{◌≡◌, ℕ, zero, suc, ◌+◌, ◌*◌, ◌%◌, ◌<◌, cond, List, [], ◌∷◌, eqb, length, get_or, drop}
use Rattle.std.proofs.lemmas.List.Edits.{sets}
use Rattle.chars.specs.Utf8.{decode}
use Rattle.chars.specs.Class.{class_of}
use Rattle.chars.specs.declared.Class.TheVariants.{Letter, Digit, Space, Sign, Other}
use Rattle.lexer.specs.Words.{sign_number}
use Rattle.lexer.specs.KindWords as kinds
use Rattle.lexer.specs.Places.{Found, Tok, Gap, piece}

-- beside the kinds of tokens, what a character may begin: white space
abbrev pub blank : ℕ
blank = 16

-- what the table does not tell
abbrev pub untold : ℕ
untold = 17

-- a word that may go on
abbrev pub long_word : ℕ
long_word = 18

-- what a character of no class begins: a word, a quoted character, a string or a comment,
-- which the table does not tell, else a sign
unfoldable pub other_lead : ℕ → ℕ
unfolding sign_number
other_lead c = cond (eqb c 0x5F) kinds.word (cond (eqb c 0x27) kinds.quoted (cond (eqb c 0x22) untold (cond (eqb c 0x2F) untold (sign_number c))))

-- what a character begins: what one of no class does, a word, a number, a line feed, white space or a sign
unfoldable pub lead_of : ℕ → ℕ
unfolding class_of other_lead
lead_of c = cond (eqb c 10) kinds.newline (elim (class_of c) [ Letter ↦ kinds.word | Digit ↦ kinds.number | Space ↦ blank | Sign ↦ sign_number c | Other ↦ other_lead c ])

-- what each of the n characters from c on begins
unfoldable pub leads_from : ℕ → ℕ → List ℕ
unfolding lead_of
leads_from zero c = []
leads_from (suc n) c = lead_of c ∷ leads_from n (suc c)

-- the table: what each ASCII character begins
unfoldable pub leads : List ℕ
unfolding leads_from
leads = leads_from 128 0

-- an ASCII character that begins k stands at a place
pub record AsciiAt (t : List ℕ) (at k : ℕ) : Type 0 where
  pub inside : at < length t
  pub ascii : get_or t at 0 < 0x80
  pub lead : k ≡ lead_of (get_or t at 0)

-- the text ends at a place, or an ASCII character stands there of whose lead P holds
pub record EndsAt (P : ℕ → Type 0) (t : List ℕ) (at : ℕ) : Type 0 where
  pub ascii : at < length t → get_or t at 0 < 0x80
  pub lead : at < length t → P (lead_of (get_or t at 0))

-- a word begins at a place with an ASCII character
pub record WordAt (t : List ℕ) (at : ℕ) : Type 0 where
  pub inside : at < length t
  pub ascii : get_or t at 0 < 0x80
  pub lead : lead_of (get_or t at 0) ≡ kinds.word

-- the value of a token that is the character c alone and begins k
unfoldable pub quick_value : ℕ → ℕ → ℕ
quick_value k c = cond (eqb k kinds.number) (c % 16) (cond (eqb k kinds.newline) 0 c)

-- what stands at the place o, where it is the character c alone and begins k
unfoldable pub quick_piece : ℕ → ℕ → ℕ → Found
unfolding quick_value
quick_piece o k c = cond (eqb k blank) (Gap (o + 1)) (Tok k (o + 1) (quick_value k c) (o + 1))

-- what stands at a place is one ASCII character that begins k
pub record QuickAt (t : List ℕ) (at k : ℕ) : Type 0 where
  pub inside : at < length t
  pub seen : quick_piece at k (get_or t at 0) ≡ piece at (decode (drop at t))

-- the words of the comma that stands at a place as a token; none where no comma stands there
unfoldable pub comma_words : List ℕ → ℕ → List ℕ
comma_words t o = cond (eqb (get_or t o 0) 0x2C) (kinds.comma ∷ o ∷ (o + 1) ∷ 0x2C ∷ []) []

-- the word at a place as token number n, with the comma behind it, if one is there: what is written, where the
-- text goes on, how many tokens there are then
pub record WordPut (t : List ℕ) (at n : ℕ) (w w' : List ℕ) (at' n' : ℕ) : Type 0 where
  pub end : ℕ
  pub value : ℕ
  pub commas : ℕ
  pub token : Tok kinds.word end value end ≡ piece at (decode (drop at t))
  pub comma : 4 * commas ≡ length (comma_words t end)
  pub words : w' ≡ sets (sets w (4 * n) (kinds.word ∷ at ∷ end ∷ value ∷ [])) (4 * (n + 1)) (comma_words t end)
  pub place : at' ≡ end + commas
  pub count : n' ≡ n + 1 + commas
