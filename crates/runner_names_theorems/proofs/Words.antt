-- Each name of the machine that a text is read as is a word of the text: what holds of all tokens holds of all names that the
-- parsers make of them, and to be a word of the text is such a thing.
use mathlib.Core.Path.{◌≡◌, refl, subst}
use Prim.Native.Nat.{ℕ, zero, suc, ◌<◌}
use native.Mathlib.Omega.{arith}
use mathlib.Core.Bool.{Bool, true, false, not}
use mathlib.Core.List.{List, [], ◌∷◌}
use lib.ListN.{length, get_or}
use Rattle.std.specs.Prelude.{Contains, All}
use Rattle.std.proofs.lemmas.List.Elements.{All-contains_itself}
use Rattle.lexer.specs.Text.{codes, same}
use Rattle.lexer.specs.Tokens.{TokenKind, word, number, quoted, str, sign, comment, newline, unterminated_string, unterminated_quote, Token, Span, tokens}
use Rattle.language.specs.Machine.{Located, Machine}
use Rattle.language.specs.Parser.{when}
use Rattle.language.specs.Lines.{state_in, symbol_in, string_in, ending_of, covering, read_lines}
use Rattle.language.specs.Infer.{machine_of}
use Rattle.language.proofs.Every.{Every, Maybe}
use Rattle.language.proofs.ParseHolds.{Any, any_maybe, Goods, GoodEnding, lines_good}
use Rattle.language.proofs.AssemblyHolds.{GoodRuleOf, GoodMachine, machine_good}
use Rattle.runner_names_theorems.specs.Names.{NamePlace, of_state, of_from, of_to, of_start, WordPlace}

-- ---- members

every_of_all : {A : Type 0} (p : A → Type 0) (l : List A) → All p l → Every p l
every_of_all p [] h = tt
every_of_all p (a ∷ l) h = (h 0 a (omega arith), every_of_all p l (λ k d i. h (suc k) d (omega arith)))

every_at : {A : Type 0} (p : A → Type 0) (l : List A) (i : ℕ) (d : A) → Every p l → i < length l → p (get_or l i d)
every_at p [] i d h low = absurd (omega arith)
every_at p (a ∷ l) zero d h low = h.0
every_at p (a ∷ l) (suc i) d h low = every_at p l i d h.1 (omega arith)

every_contains : {A : Type 0} (p : A → Type 0) (l : List A) (a : A) → Every p l → Contains l a → p a
every_contains p l a h c = subst p c.2 (every_at p l c.0 a h c.1)

-- ---- the names of a machine

-- what holds of all names of a machine holds of the name at a place
module _ (S : Goods Span) (m : Machine Span) (good : GoodMachine S m) where
  named : (place : Span) → NamePlace m place → (l : Located Span (List ℕ)) × S.name l × (l.place ≡ place)
  named _ (of_state s c) = (s.name, every_contains (λ s. S.name s.name) m.states s good.states_good c, refl)
  named _ (of_from r c) = (r.from, (every_contains (GoodRuleOf S) m.rules r good.rules_good c).from_good, refl)
  named _ (of_to r c) = (r.to, (every_contains (GoodRuleOf S) m.rules r good.rules_good c).to_good, refl)
  named _ (of_start l e) = (l, subst (Maybe S.name) e good.start_good, refl)

-- ---- what tokens give

when_maybe : {A : Type 0} (q : A → Type 0) (b : Bool) (a : A) → q a → Maybe q (when b a)
when_maybe q true a h = h
when_maybe q false a h = tt

any_ending : (k : TokenKind) → GoodEnding Any (ending_of k)
unfolding ending_of
any_ending (word w) = tt
any_ending (number w) = tt
any_ending (comment s) = tt
any_ending (str v) = tt
any_ending (quoted c) = tt
any_ending (sign c) = tt
any_ending newline = tt
any_ending unterminated_string = tt
any_ending unterminated_quote = tt

module _ (cs : List ℕ) where
  -- names are words of the text; of the rest nothing is asked
  abbrev words : Goods Span
  words = record { name = λ l. WordPlace cs l.place; text = Any; sym = Any; note = Any }

  name_view : (t : Token Span) (k : TokenKind) → t.kind ≡ k → Contains (tokens cs) t → Maybe (λ w. WordPlace cs t.place) (state_in k)
  unfolding state_in
  name_view t (word w) e m = when_maybe (λ w. WordPlace cs t.place) (not (same w (codes "_"))) w
      (record { token = t; among = m; name = w; is_word = e; placed = refl })
  name_view t (number w) e m = tt
  name_view t (comment s) e m = tt
  name_view t (str v) e m = tt
  name_view t (quoted c) e m = tt
  name_view t (sign c) e m = tt
  name_view t newline e m = tt
  name_view t unterminated_string e m = tt
  name_view t unterminated_quote e m = tt

  machine_words : GoodMachine words (machine_of (read_lines cs))
  unfolding read_lines
  machine_words =
      machine_good words (read_lines cs) (lines_good (Contains (tokens cs)) words
      (λ t h. name_view t t.kind refl h)
      (λ t h. any_maybe (symbol_in t.kind))
      (λ t h. any_maybe (string_in t.kind))
      (λ t h. any_ending t.kind)
      covering (tokens cs) (every_of_all (Contains (tokens cs)) (tokens cs) (All-contains_itself (tokens cs))))

  -- where a name of the machine of a text stands, there is a word
  pub name_word : (place : Span) → NamePlace (machine_of (read_lines cs)) place → WordPlace cs place
  name_word place h = let n = named words (machine_of (read_lines cs)) machine_words place h in subst (WordPlace cs) n.2 n.1
