-- An index of names: a table of slots, each 0 or 1 and the index of a first equal word, in
-- which a name is looked for from its hash on.
use Rattle.std.specs.Prelude.{ℕ, ◌+◌, ◌-◌, ◌*◌, ◌/◌, ◌%◌, ◌<◌, ◌≡◌, Bool, true, cond, List, [], ◌∷◌, eqb, ltb, length, get_or, take}
use Rattle.std.specs.Prelude.{Option, None, Some}
use Rattle.std.specs.Option.{unwrap_or}
use Rattle.lexer.specs.Places.{part}
use Rattle.tokens.specs.declared.Token.{Token}
use Rattle.parser.specs.Row.{peek}
use Rattle.assembler_names.specs.Names.{is_word, has_name, first_equal}

-- the hash h with a number behind it: the sum times a factor, modulo a prime below 2 to the 30th
abbrev pub step : ℕ → ℕ → ℕ
step h q = (h + q) * 663608941 % 1073741789

-- at most three bytes as one number
unfoldable pub rest_of : List ℕ → ℕ
rest_of [] = 0
rest_of (a ∷ []) = a
rest_of (a ∷ b ∷ []) = a + b * 256
rest_of (a ∷ b ∷ c ∷ []) = a + b * 256 + c * 65536
rest_of (a ∷ b ∷ c ∷ d ∷ r) = 0

-- the hash of bytes behind others whose hash is h: in steps of four bytes, and one of what is left
unfoldable pub hash_from : ℕ → List ℕ → ℕ
unfolding rest_of
hash_from h [] = step h (rest_of [])
hash_from h (a ∷ []) = step h (rest_of (a ∷ []))
hash_from h (a ∷ b ∷ []) = step h (rest_of (a ∷ b ∷ []))
hash_from h (a ∷ b ∷ c ∷ []) = step h (rest_of (a ∷ b ∷ c ∷ []))
hash_from h (a ∷ b ∷ c ∷ d ∷ r) = hash_from (step h (a + b * 256 + c * 65536 + d * 16777216)) r

-- the byte of a name of one byte
unfoldable pub letter_of : List ℕ → Option ℕ
letter_of [] = None
letter_of (c ∷ []) = Some c
letter_of (c ∷ d ∷ r) = None

-- the slot of its own that a name of one byte has, if it is one of so many letters
unfoldable pub own_slot : ℕ → List ℕ → Option ℕ
own_slot letters [] = None
own_slot letters (c ∷ []) = cond (ltb c letters) (Some c) None
own_slot letters (c ∷ d ∷ r) = None

-- all bytes but the last
abbrev pub front : List ℕ → List ℕ
front name = take (length name - 1) name

-- the last byte; 0 where there is none
abbrev pub final : List ℕ → ℕ
final name = get_or name (length name - 1) 0

-- where other names are looked for first, in a table with `span` places to begin: behind those of the letters, by the hash of all
-- bytes but the last, and names that differ only in the last near one another
unfoldable pub hashed_slot : ℕ → ℕ → List ℕ → ℕ
unfolding hash_from
hashed_slot letters span name = letters + hash_from 0 (front name) * (span - letters - 32) / 1073741824 + final name % 32

-- where a name is looked for first
unfoldable pub slot_in : ℕ → ℕ → List ℕ → ℕ
unfolding own_slot hashed_slot
slot_in letters span name = unwrap_or (own_slot letters name) (hashed_slot letters span name)

-- where the name of a token is looked for first
unfoldable pub slot_of : List ℕ → ℕ → ℕ → Token → ℕ
unfolding slot_in
slot_of text letters span t = slot_in letters span (part text t.start t.end)

-- the search for a name ends at a slot that holds v: it is empty, or its word has these characters
unfoldable pub stops : List ℕ → List Token → List ℕ → ℕ → Bool
unfolding has_name
stops text ts name v = cond (eqb v 0) true (has_name text name (peek ts (v - 1)))

-- what a slot that held v holds once the word x was looked for
unfoldable pub filled : ℕ → ℕ → ℕ
filled v x = cond (eqb v 0) (x + 1) v

-- the search for the token u gets to its first equal word: every slot before it is filled
pub record Reached (text : List ℕ) (ts : List Token) (letters span : ℕ) (slots : List ℕ) (u : Token) : Type 0 where
  pub steps : ℕ
  pub passed : (i : ℕ) → i < steps → get_or slots (slot_of text letters span u + i) 0 ≡ 0 → ⊥
  pub here : get_or slots (slot_of text letters span u + steps) 0 ≡ first_equal text u 0 ts + 1

-- the words before the token n are in the row of first equal words and in the table, which holds only
-- first equal words, and letters in their slots
pub record IndexOf (text : List ℕ) (ts : List Token) (letters span n : ℕ) (row slots : List ℕ) : Type 0 where
  pub names : (x : ℕ) → x < n → is_word (peek ts x) ≡ true → get_or row x 0 ≡ first_equal text (peek ts x) 0 ts
  pub held : (j : ℕ) → (get_or slots j 0 ≡ 0 → ⊥) → first_equal text (peek ts (get_or slots j 0 - 1)) 0 ts ≡ get_or slots j 0 - 1
  pub reached : (x : ℕ) → x < n → is_word (peek ts x) ≡ true → Reached text ts letters span slots (peek ts x)
  pub letter-word : (c : ℕ) → c < letters → (get_or slots c 0 ≡ 0 → ⊥) → is_word (peek ts (get_or slots c 0 - 1)) ≡ true
  pub letter-part : (c : ℕ) → c < letters → (get_or slots c 0 ≡ 0 → ⊥) → part text (peek ts (get_or slots c 0 - 1)).start (peek ts (get_or slots c 0 - 1)).end ≡ c ∷ []
