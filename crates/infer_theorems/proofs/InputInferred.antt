-- The input's value that is read from the text is the language's: the characters behind a string's quote, up to its end, give the
-- token's value.
use mathlib.Core.Path.{◌≡◌, refl, sym, ap, subst, ◌∙◌}
use mathlib.Core.Bool.{Bool, true, false, not, ◌&&◌}
use mathlib.Core.List.{List, [], ◌∷◌}
use Rattle.std.specs.Prelude.{Option, None, Some}
use Prim.Native.Nat.{ℕ, zero, suc, ◌+◌, ◌-◌, min}
use native.Mathlib.Omega.{arith}
use borrow.Author.Tests.{eqb-true, eqb-false}
use lib.Dec.{eqb}
use lib.ListN.{length, take, drop}
use Rattle.diag.proofs.Cases.{by_test_lem}
use Rattle.chars.specs.declared.Class.{Class}
use Rattle.chars.specs.declared.Class.TheVariants.{Space, Letter, Digit, Sign, Other}
use Rattle.chars.specs.Class.{class_of}
use Rattle.chars.specs.Utf8.{decode, size, sizes}
use Rattle.chars.proofs.Laws.{points_next}
use Rattle.diag.specs.declared.Span.{Span as Place}
use Rattle.lexer.specs.Tokens.{TokenKind, word, number, quoted, str, sign, comment, newline, unterminated_string, unterminated_quote, Token as Lexed, line, trim_end, Inside, closed, unclosed, inside, Step, gap, tok, step, word_step, number_step, string_step, quoted_step, comment_step, slash_step, other_step, emit, tokens_from, tokens}
use Rattle.lexer.specs.Places.{rest}
use Rattle.lexer.specs.Words.{word_value, value, token_value}
use Rattle.lexer.proofs.Pieces.{by_class, step_class}
use Rattle.tokens.specs.declared.Token.{Token}
use Rattle.parser.specs.Row.{peek}
use Rattle.parser.specs.Meaning.{token_of}
use Rattle.language.specs.Machine.{Located}
use Rattle.language.specs.Content.{value_or}
use Rattle.language.specs.Lines.{Text, Item, machine_item, input_item, kind_item, output_item, tapes_item, states_item, final_item, input_alphabet_item, tape_alphabet_item, blank_item, start_item, transition_item, Line, blank_line, comment_line, item_line, error_line, state_in, symbol_in, string_in, Ending, line_feed, goes_by, remark, ending_of, covering, read_lines}
use Rattle.language.specs.Assembly as A
use Rattle.language.proofs.Columns
use Rattle.language.specs.Infer as I
use Rattle.language.proofs.Every.{Every, Maybe}
use Rattle.language.proofs.ParseHolds.{Any, any_maybe, Goods, GoodEnding, GoodItem, GoodLine, lines_good}
use Rattle.infer_symbols.specs.Input.{spelled, input_of}
use Rattle.infer_symbols.proofs.InputMean.{value_of, Ends, spell_mean}
use Rattle.sheet_theorems.proofs.Shows.{TextShows}
use Rattle.infer_theorems.proofs.Firsts.{At, nowhere, there}

-- ---- a step that is a string: a quote, and behind it the string's text
abbrev StrKind : ℕ → List ℕ → TokenKind → ℕ → ℕ → Type 0
StrKind c r (str v) a n = (c ≡ 0x22) × (a ≡ 1) × (inside false r ≡ closed v n)
StrKind c r (word w) a n = Unit {0}
StrKind c r (number w) a n = Unit {0}
StrKind c r (quoted q) a n = Unit {0}
StrKind c r (sign q) a n = Unit {0}
StrKind c r (comment s) a n = Unit {0}
StrKind c r newline a n = Unit {0}
StrKind c r unterminated_string a n = Unit {0}
StrKind c r unterminated_quote a n = Unit {0}

abbrev StrStep : ℕ → List ℕ → Step → Type 0
StrStep c r gap = Unit {0}
StrStep c r (tok k w a b n) = StrKind c r k a n

string_str : (c : ℕ) (r : List ℕ) → c ≡ 0x22 → StrStep c r (string_step r)
unfolding string_step
string_str c r e = go (inside false r) refl
  where
    go : (i : Inside) → inside false r ≡ i → StrStep c r (elim i [
      | closed v n ↦ tok (str v) (1 + sizes (take n r)) 1 1 n
      | unclosed ↦ let l = line r in tok unterminated_string (1 + sizes (trim_end l)) 0 0 (length l)
    ])
    go (closed v n) q = (e, refl, q)
    go unclosed q = tt

quoted_str : (c : ℕ) (r : List ℕ) → StrStep c r (quoted_step r)
unfolding quoted_step
quoted_str c [] = tt
quoted_str c (x ∷ []) = tt
quoted_str c (x ∷ q ∷ r) = go (not (eqb x 10) && eqb q 0x27)
  where
    go : (b : Bool) → StrStep c (x ∷ q ∷ r) (elim b [ true ↦ tok (quoted x) (2 + size x) 0 0 2 | false ↦ tok unterminated_quote 1 0 0 0 ])
    go true = tt
    go false = tt

slash_str : (c : ℕ) (r : List ℕ) → StrStep c r (slash_step r)
unfolding slash_step comment_step
slash_str c [] = tt
slash_str c (d ∷ r) = go (eqb d 0x2F)
  where
    go : (b : Bool) → StrStep c (d ∷ r) (elim b [ true ↦ comment_step r | false ↦ tok (sign 0x2F) 1 0 0 0 ])
    go true = tt
    go false = tt

word_str : (c : ℕ) (r : List ℕ) → StrStep c r (word_step c r)
unfolding word_step
word_str c r = tt

number_str : (c : ℕ) (r : List ℕ) → StrStep c r (number_step c r)
unfolding number_step
number_str c r = tt

other_str : (c : ℕ) (r : List ℕ) → StrStep c r (other_step c r)
unfolding other_step
other_str c r = by_test_lem (eqb c 0x5F) (λ e. rw (e, other_step) (word_str c r)) λ n.
    by_test_lem (eqb c 0x22) (λ e. rw (n, other_step) (rw e (string_str c r (eqb-true c 0x22 e)))) λ m.
    by_test_lem (eqb c 0x27) (λ e. rw (n, other_step) (rw (m, e) (quoted_str c r))) λ k.
    by_test_lem (eqb c 0x2F) (λ e. rw (n, other_step) (rw (m, k, e) (slash_str c r))) λ j. rw (n, other_step) (rw (m, k, j) tt)

class_str : (x : Class) (c : ℕ) (r : List ℕ) → StrStep c r (by_class x c r)
class_str Space c r = tt
class_str Letter c r = word_str c r
class_str Digit c r = number_str c r
class_str Sign c r = tt
class_str Other c r = other_str c r

step_str : (c : ℕ) (r : List ℕ) → StrStep c r (step c r)
unfolding step
step_str c r = by_test_lem (eqb c 10) (λ e. rw (e, step) tt) (λ e. subst (StrStep c r) (sym (step_class c r (eqb-false c 10 e) (class_of c) refl)) (class_str (class_of c) c r))

-- ---- the tokens of a text: behind the quote of a string its value is read
abbrev Spells : List ℕ → TokenKind → ℕ → Type 0
Spells text (str v) p = spelled false (rest text p) ≡ v
Spells text (word w) p = Unit {0}
Spells text (number w) p = Unit {0}
Spells text (quoted q) p = Unit {0}
Spells text (sign q) p = Unit {0}
Spells text (comment s) p = Unit {0}
Spells text newline p = Unit {0}
Spells text unterminated_string p = Unit {0}
Spells text unterminated_quote p = Unit {0}

abbrev SpellsAt : List ℕ → Lexed Place → Type 0
SpellsAt text x = Spells text x.kind x.inner.start

module _ (text : List ℕ) where
  kind_spells : (k : TokenKind) (c : ℕ) (r : List ℕ) (o a n : ℕ) → decode (drop (o + size c) text) ≡ r → StrKind c r k a n → Spells text k (o + a)
  unfolding size
  kind_spells (str v) c r o a n p h =
      let one : size c ≡ 1 = ap size h.0 in
      let at : o + a ≡ o + size c = omega (arith, h.1) in
      ap (λ (k : ℕ). spelled false (rest text k)) at ∙ ap (spelled false) p ∙ spell_mean false r (subst Ends (sym h.2) tt) ∙ ap value_of h.2
  kind_spells (word w) c r o a n p h = tt
  kind_spells (number w) c r o a n p h = tt
  kind_spells (quoted q) c r o a n p h = tt
  kind_spells (sign q) c r o a n p h = tt
  kind_spells (comment s) c r o a n p h = tt
  kind_spells newline c r o a n p h = tt
  kind_spells unterminated_string c r o a n p h = tt
  kind_spells unterminated_quote c r o a n p h = tt

  emit_spells : (s : Step) (c : ℕ) (r : List ℕ) (o : ℕ) (next : ℕ → List (Lexed Place)) → decode (drop (o + size c) text) ≡ r → StrStep c r s → ((n : ℕ) → Every (SpellsAt text) (next n)) → Every (SpellsAt text) (emit o s next)
  unfolding emit
  emit_spells gap c r o next p h k = k 0
  emit_spells (tok t w a b n) c r o next p h k = (kind_spells t c r o a n p h, k n)

  tokens_spell : (cs : List ℕ) (k o : ℕ) → decode (drop o text) ≡ cs → Every (SpellsAt text) (tokens_from k o cs)
  unfolding tokens_from
  tokens_spell [] k o p = (tt, tt)
  tokens_spell (c ∷ r) (suc k) o p = tokens_spell r k (o + size c) (points_next text o c r p)
  tokens_spell (c ∷ r) zero o p = emit_spells (step c r) c r o _ (points_next text o c r p) (step_str c r) (λ (n : ℕ). tokens_spell r n (o + size c) (points_next text o c r p))

  -- ---- so it is of the strings of its lines
  abbrev goods : Goods Place
  goods = record { name = Any; text = λ x. spelled false (rest text x.place.start) ≡ x.value; sym = Any; note = Any }

  text_view : (k : TokenKind) (p : Place) → Spells text k p.start → Maybe (λ s. goods.text (record { value = s; place = p })) (string_in k)
  unfolding string_in
  text_view (str v) p h = h
  text_view (word w) p h = tt
  text_view (number w) p h = tt
  text_view (quoted q) p h = tt
  text_view (sign q) p h = tt
  text_view (comment s) p h = tt
  text_view newline p h = tt
  text_view unterminated_string p h = tt
  text_view unterminated_quote p h = tt

  any_ending : (e : Ending) → GoodEnding Any e
  any_ending line_feed = tt
  any_ending goes_by = tt
  any_ending (remark s) = tt

  lines_spell : Every (GoodLine goods) (read_lines (decode text))
  unfolding read_lines tokens
  lines_spell =
      lines_good (SpellsAt text) goods (λ t _. any_maybe (state_in t.kind)) (λ t _. any_maybe (symbol_in t.kind)) (λ t h. text_view t.kind t.inner h) (λ t _. any_ending (ending_of t.kind)) covering (tokens (decode text))
      (tokens_spell (decode text) 0 0 refl)

  item_input : (i : Item Place) → GoodItem goods i → Maybe (λ x. goods.text x.value) (Columns.parts i).input
  item_input (input_item x) h = h
  item_input (machine_item x) h = tt
  item_input (kind_item x) h = tt
  item_input (output_item x) h = tt
  item_input (tapes_item x) h = tt
  item_input (states_item x) h = tt
  item_input (final_item x) h = tt
  item_input (input_alphabet_item x) h = tt
  item_input (tape_alphabet_item x) h = tt
  item_input (blank_item x) h = tt
  item_input (start_item x) h = tt
  item_input (transition_item x) h = tt

  first_input : (ls : List (Line Place)) → Every (GoodLine goods) ls → Maybe (λ (l : Located Place (Text Place)). goods.text l.value.value) (A.first (Columns.select λ p. p.input) (A.items ls))
  unfolding A.items A.first
  first_input [] h = tt
  first_input (blank_line ∷ ls) h = first_input ls h.1
  first_input (comment_line c ∷ ls) h = first_input ls h.1
  first_input (error_line n p ∷ ls) h = first_input ls h.1
  first_input (item_line i p c ∷ ls) h = go (Columns.parts i).input (item_input i h.0.0) (first_input ls h.1)
    where
      go : (o : Option (Text Place)) → Maybe (λ (x : Text Place). goods.text x.value) o → Maybe (λ (l : Located Place (Text Place)). goods.text l.value.value) (A.first (Columns.select λ p. p.input) (A.items ls))
          → Maybe (λ (l : Located Place (Text Place)). goods.text l.value.value) (elim o [ Some a ↦ Some (record { value = a; place = p }) | None ↦ A.first (Columns.select λ p. p.input) (A.items ls) ])
      go None k r = r
      go (Some x) k r = k

  -- where the token's text begins
  text_begins : (t : Token) (x : Text Place) (s : TextShows text t x) → t.start + t.value ≡ x.value.place.start
  unfolding token_of token_value
  text_begins t x s =
      let q : Lexed Place = s.token in
      let v : token_value q ≡ q.inner.start - q.place.start = ap (λ (k : TokenKind). elim k [
        | word w ↦ word_value w
        | number w ↦ min (value w) 256
        | quoted c ↦ c
        | sign c ↦ c
        | str u ↦ q.inner.start - q.place.start
        | comment u ↦ q.inner.start - q.place.start
        | newline ↦ 0
        | unterminated_string ↦ 0
        | unterminated_quote ↦ 0
      ]) s.spelled in
      ap (λ (t : Token). t.start + t.value) s.words ∙ omega (arith, v, s.placed.starts) ∙ ap (λ (p : Place). p.start) s.inner

  input_by : (ts : List Token) (d : ℕ) (o : Option (Located Place (Text Place))) → At ts d (TextShows text (peek ts (d + 1))) o → Maybe (λ (l : Located Place (Text Place)). goods.text l.value.value) o → input_of text ts d ≡ value_or (I.between (A.found o))
  unfolding input_of value_or I.between A.found
  input_by ts d None (nowhere h) g = rw h
  input_by ts d (Some l) (there {a = x} h s) g = rw h (ap (λ (k : ℕ). spelled false (rest text k)) (text_begins (peek ts (d + 1)) x s) ∙ g)

  -- the input's value
  pub input_inferred : (ts : List Token) (d : ℕ) → At ts d (TextShows text (peek ts (d + 1))) (A.first (Columns.select λ p. p.input) (A.items (read_lines (decode text))))
      → input_of text ts d ≡ value_or (I.between (A.found (A.first (Columns.select λ p. p.input) (A.items (read_lines (decode text))))))
  input_inferred ts d a = input_by ts d (A.first (Columns.select λ p. p.input) (A.items (read_lines (decode text)))) a (first_input (read_lines (decode text)) lines_spell)
