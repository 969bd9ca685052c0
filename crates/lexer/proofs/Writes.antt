-- The loop of `tokenize`: what is left to write, written behind what is there, gives the words of all tokens at the front.
use mathlib.Core.Path.{◌≡◌, refl, sym, ap, ◌∙◌}
use Prim.Native.Nat.{ℕ, zero, suc, ◌+◌, ◌-◌, ◌*◌, ◌≤◌, ◌<◌}
use native.Mathlib.Omega.{arith}
use native.Mathlib.Nat.{zero-add}
use mathlib.Core.List.{List, [], ◌∷◌, ◌++◌}
use lib.ListN.{length, get_or, take, drop}
use lib.Seq.{sets, sets-eq, length-sets}
use lib.Dec.{leb}
use borrow.Author.Tests.{eq-eqb, ne_eqb, le-leb, lt-leb}
use mir.Syntax.{w32}
use mir.Val.{Fits}
use Rattle.chars.specs.Utf8.{size, sizes, decode, valid_up_to}
use Rattle.chars.proofs.Encoding.{size-range}
use Rattle.chars.proofs.Laws.{points_next, points_le}
use Rattle.chars.proofs.Theorems.{valid_le}
use Rattle.lexer.specs.Tokens.{TokenKind, newline, Span, span, Token, token_at, Step, gap, tok, step, emit, tokens_from, tokens}
use Rattle.lexer.specs.Words.{token_words, flat, onto, tokenized}
use denote.Enum.Declared.{tag_of}
use Rattle.lexer.specs.Kinds.{kind_word}
use Rattle.lexer.specs.contracts.kind.TokenKind.{the_type}
use Rattle.lexer.specs.declared.kind.TokenKind.{TokenKind as Kind}
use Rattle.lexer.specs.declared.kind.TokenKind.TheVariants.{Word, Number, Quoted, Str, LParen, RParen, LBrace, RBrace, Comma, Eq, Star, Other, Comment, Newline, UnterminatedString, UnterminatedQuote}
use Rattle.lexer.specs.Places.{Found, Tok, Gap, End, piece_of, piece}
use Rattle.lexer.specs.Quick.{QuickAt, quick_value, quick_piece}
use Rattle.diag.proofs.Cases.{by_test_lem as by_test}
use Rattle.lexer.proofs.Pieces.{jump, jump_le}
use Rattle.lexer.proofs.Steps.{Fit, Fits as FitsStep, step_fits}

-- ---- the tokens of a list, a step at a time
abbrev last_token : ℕ → Token Span
last_token o = record { kind = newline; place = span o o; inner = span o o }

pub tokens-nil : (o : ℕ) → tokens_from 0 o [] ≡ last_token o ∷ []
unfolding tokens_from
tokens-nil o = refl

pub tokens-step : (o c : ℕ) (r : List ℕ) → tokens_from 0 o (c ∷ r) ≡ emit o (step c r) (λ (n : ℕ). tokens_from n (o + size c) r)
unfolding tokens_from
tokens-step o c r = refl

-- to pass over k characters is to start behind them
pub skip : (k o : ℕ) (cs : List ℕ) → tokens_from k o cs ≡ tokens_from 0 (o + sizes (take k cs)) (drop k cs)
unfolding tokens_from sizes
skip zero o cs = ap (λ (j : ℕ). tokens_from 0 j cs) (omega arith)
skip (suc k) o [] = ap (λ (j : ℕ). tokens_from 0 j []) (omega arith)
skip (suc k) o (c ∷ r) = skip k (o + size c) r ∙ ap (λ (j : ℕ). tokens_from 0 j (drop k r)) (omega arith)

-- no more characters, no more bytes
pub sizes-take : (i j : ℕ) (l : List ℕ) → i ≤ j → sizes (take i l) ≤ sizes (take j l)
unfolding sizes
sizes-take zero j l h = omega arith
sizes-take (suc i) zero l h = absurd (omega arith)
sizes-take (suc i) (suc j) [] h = omega arith
sizes-take (suc i) (suc j) (c ∷ l) h = omega (arith, sizes-take i j l (omega arith))

-- ---- what a piece says of the tokens from a place on
pub record Next (t : List ℕ) (o k e v m : ℕ) : Type 0 where
  pub token : Token Span
  pub here : tokens_from 0 o (decode (drop o t)) ≡ token ∷ tokens_from 0 m (decode (drop m t))
  pub words : token_words token ≡ k ∷ o ∷ e ∷ v ∷ []
  pub on : o < m
  pub inside : m ≤ length t
  pub end : e ≤ m

-- the tokens behind the character c at the place o, n characters further on
behind : (t : List ℕ) (o c n : ℕ) (r : List ℕ) → decode (drop o t) ≡ c ∷ r
    → tokens_from n (o + size c) r ≡ tokens_from 0 (o + size c + sizes (take n r)) (decode (drop (o + size c + sizes (take n r)) t))
behind t o c n r p =
    skip n (o + size c) r ∙ ap (tokens_from 0 (o + size c + sizes (take n r))) (sym (jump n t (o + size c) r (points_next t o c r p)))

behind-le : (t : List ℕ) (o c n : ℕ) (r : List ℕ) → decode (drop o t) ≡ c ∷ r → o + size c + sizes (take n r) ≤ length t
behind-le t o c n r p = jump_le n t (o + size c) r (points_next t o c r p) (points_le t o c r p)

-- a token's end is not beyond the characters that it takes
fit_end : (t : TokenKind) (c : ℕ) (r : List ℕ) (w a b n : ℕ) → Fit t (c ∷ r) w a b n → w ≤ size c + sizes (take n r)
unfolding sizes
fit_end t c r w a b n f = omega (arith, f.width, sizes-take f.last (suc n) (c ∷ r) f.within)

emitted : (s : Step) (t : List ℕ) (o c : ℕ) (r : List ℕ) (k e v m : ℕ) → decode (drop o t) ≡ c ∷ r → FitsStep (c ∷ r) s → step c r ≡ s
    → piece_of o (o + size c) r s ≡ Tok k e v m → Next t o k e v m
unfolding piece_of emit token_words
emitted gap t o c r k e v m p f q x = let z : ◌≡◌ {A = ℕ} 0 1 = cc in absurd (omega arith)
emitted (tok u w a b n) t o c r k e v m p f q x =
    let h = fit_end u c r w a b n f in
    let g : o + size c + sizes (take n r) ≡ m = cc in
    let i : o + w ≡ e = cc in
    record {
      token = token_at o u w a b;
      here =
          ap (tokens_from 0 o) p ∙ tokens-step o c r ∙ ap (λ (y : Step). emit o y (λ (j : ℕ). tokens_from j (o + size c) r)) q
          ∙ ap (λ (l : List (Token Span)). token_at o u w a b ∷ l) (behind t o c n r p ∙ ap (λ (j : ℕ). tokens_from 0 j (decode (drop j t))) g);
      words = cc;
      on = omega (arith, size-range c);
      inside = omega (arith, behind-le t o c n r p);
      end = omega arith;
    }

token_here : (cs t : List ℕ) (o k e v m : ℕ) → decode (drop o t) ≡ cs → piece o cs ≡ Tok k e v m → Next t o k e v m
unfolding piece
token_here [] t o k e v m p x = let z : ◌≡◌ {A = ℕ} 0 1 = cc in absurd (omega arith)
token_here (c ∷ r) t o k e v m p x = emitted (step c r) t o c r k e v m p (step_fits c r) refl x

-- a word's end is behind its place and inside the text
pub word_end_in : (t : List ℕ) (at e v : ℕ) → Tok 0 e v e ≡ piece at (decode (drop at t)) → (at < e) × (e ≤ length t)
word_end_in t at e v s = let x = token_here (decode (drop at t)) t at 0 e v e refl (sym s) in (x.on, x.inside)

-- white space: the tokens are those behind it
pub record Passed (t : List ℕ) (o m : ℕ) : Type 0 where
  pub here : tokens_from 0 o (decode (drop o t)) ≡ tokens_from 0 m (decode (drop m t))
  pub on : o < m
  pub inside : m ≤ length t

passed : (s : Step) (t : List ℕ) (o c : ℕ) (r : List ℕ) (m : ℕ) → decode (drop o t) ≡ c ∷ r → step c r ≡ s → piece_of o (o + size c) r s ≡ Gap m → Passed t o m
unfolding piece_of emit
passed (tok u w a b n) t o c r m p q x = let z : ◌≡◌ {A = ℕ} 0 1 = cc in absurd (omega arith)
passed gap t o c r m p q x =
    let g : o + size c ≡ m = cc in
    record {
      here =
          ap (tokens_from 0 o) p ∙ tokens-step o c r ∙ ap (λ (y : Step). emit o y (λ (j : ℕ). tokens_from j (o + size c) r)) q
          ∙ ap (tokens_from 0 (o + size c)) (sym (points_next t o c r p)) ∙ ap (λ (j : ℕ). tokens_from 0 j (decode (drop j t))) g;
      on = omega (arith, size-range c);
      inside = omega (arith, points_le t o c r p);
    }

gap_here : (cs t : List ℕ) (o m : ℕ) → decode (drop o t) ≡ cs → piece o cs ≡ Gap m → Passed t o m
unfolding piece
gap_here [] t o m p x = let z : ◌≡◌ {A = ℕ} 0 1 = cc in absurd (omega arith)
gap_here (c ∷ r) t o m p x = passed (step c r) t o c r m p refl x

not_end : (s : Step) (o n : ℕ) (r : List ℕ) → piece_of o n r s ≡ End → ⊥
unfolding piece_of
not_end gap o n r x = let z : ◌≡◌ {A = ℕ} 0 1 = cc in omega arith
not_end (tok u w a b k) o n r x = let z : ◌≡◌ {A = ℕ} 0 1 = cc in omega arith

end_here : (cs : List ℕ) (o : ℕ) → piece o cs ≡ End → cs ≡ []
unfolding piece
end_here [] o x = refl
end_here (c ∷ r) o x = absurd (not_end (step c r) o (o + size c) r x)

-- ---- the loop: w₀ is work at entry, w now; n tokens are written, and the text is read up to `at`
pub record State (t w₀ w : List ℕ) (at n : ℕ) : Type 0 where
  pub place : at ≤ length t
  pub few : n ≤ at
  pub long : length w ≡ length w₀
  pub count : n + length (tokens_from 0 at (decode (drop at t))) ≡ length (tokens (decode t))
  pub words : sets w (4 * n) (flat (tokens_from 0 at (decode (drop at t)))) ≡ sets w₀ 0 (flat (tokens (decode t)))

pub state_start_lem : (t w : List ℕ) → State t w w 0 0
unfolding tokens
state_start_lem t w = record { place = omega arith; few = omega arith; long = refl; count = omega arith; words = refl }

flat-cons : (x : Token Span) (xs : List (Token Span)) (k o e v : ℕ) → token_words x ≡ k ∷ o ∷ e ∷ v ∷ [] → flat (x ∷ xs) ≡ k ∷ o ∷ e ∷ v ∷ flat xs
unfolding flat
flat-cons x xs k o e v p = ap (λ (l : List ℕ). l ++ flat xs) p

pub length-flat : (l : List (Token Span)) → length (flat l) ≡ 4 * length l
unfolding flat
length-flat [] = refl
length-flat (x ∷ r) = omega (arith, length-flat r)

module _ (t w₀ w : List ℕ) (at n : ℕ) (r : Found) (st : State t w₀ w at n) (s : r ≡ piece at (decode (drop at t))) where
  module _ (k e v m : ℕ) (p : r ≡ Tok k e v m) where
    next : Next t at k e v m
    next = token_here (decode (drop at t)) t at k e v m refl (sym s ∙ p)

    pub end_fits : length t ≤ 0x400000 → Fits w32 e
    end_fits l = omega (arith, next.end, next.inside)

    pub token_falls : length t - m < length t - at
    token_falls = omega (arith, next.on, next.inside)

    pub token_room : 4 * length t + 4 ≤ length w₀ → 4 * n + 4 ≤ length w
    token_room h = omega (arith, st.few, st.long, st.place)

    pub state_token : (w' : List ℕ) → w' ≡ sets w (4 * n) (k ∷ at ∷ e ∷ v ∷ []) → State t w₀ w' m (n + 1)
    state_token w' q =
        let x = next.token in
        let xs : List (Token Span) = tokens_from 0 m (decode (drop m t)) in
        let o : 4 * (n + 1) ≡ suc (suc (suc (suc (4 * n)))) = omega arith in
        record {
          place = next.inside;
          few = omega (arith, st.few, next.on);
          long = ap length q ∙ length-sets w (4 * n) (k ∷ at ∷ e ∷ v ∷ []) ∙ st.long;
          count = omega (arith, st.count, ap (λ (l : List (Token Span)). length l) next.here);
          words = rw (o, q) (sym (ap (sets w (4 * n)) (ap flat next.here ∙ flat-cons x xs k at e v next.words)) ∙ st.words);
        }

  module _ (m : ℕ) (p : r ≡ Gap m) where
    gone : Passed t at m
    gone = gap_here (decode (drop at t)) t at m refl (sym s ∙ p)

    pub gap_falls : length t - m < length t - at
    gap_falls = omega (arith, gone.on, gone.inside)

    pub state_gap : State t w₀ w m n
    state_gap = record {
      place = gone.inside;
      few = omega (arith, st.few, gone.on);
      long = st.long;
      count = omega (arith, st.count, ap (λ (l : List (Token Span)). length l) gone.here);
      words = sym (ap (λ (l : List (Token Span)). sets w (4 * n) (flat l)) gone.here) ∙ st.words;
    }

  module _ (p : r ≡ End) where
    left : tokens_from 0 at (decode (drop at t)) ≡ last_token at ∷ []
    left = ap (tokens_from 0 at) (end_here (decode (drop at t)) at (sym s ∙ p)) ∙ tokens-nil at

    pub end_room : 4 * length t + 4 ≤ length w₀ → 4 * n + 4 ≤ length w
    end_room h = omega (arith, st.few, st.long, st.place)

    pub done_count : n + 1 ≡ length (tokens (decode t))
    done_count = omega (arith, st.count, ap (λ (l : List (Token Span)). length l) left)

    pub done_words : (w' : List ℕ) → 4 * length t + 4 ≤ length w₀ → w' ≡ sets w (4 * n) (13 ∷ at ∷ at ∷ 0 ∷ []) → w' ≡ onto (flat (tokens (decode t))) w₀
    unfolding onto flat token_words
    done_words w' h q =
        let ts : List (Token Span) = tokens (decode t) in
        let f : 0 + length (flat ts) ≤ length w₀ = omega (arith, length-flat ts, done_count, st.few, st.place) in
        q ∙ sym (ap (λ (l : List (Token Span)). sets w (4 * n) (flat l)) left) ∙ st.words ∙ sets-eq (flat ts) w₀ 0 f
        ∙ ap (λ (z : ℕ). flat ts ++ drop z w₀) (zero-add (length (flat ts)))

-- a character that is a piece alone, told by the table
quick_gap : (o k c : ℕ) → k ≡ 16 → quick_piece o k c ≡ Gap (o + 1)
unfolding quick_piece
quick_gap o k c e = rw (eq-eqb k 16 e)

quick_token : (o k c v : ℕ) → k < 16 → v ≡ quick_value k c → quick_piece o k c ≡ Tok k (o + 1) v (o + 1)
unfolding quick_piece
quick_token o k c v h e = rw (ne_eqb k 16 (λ (p : k ≡ 16). omega arith)) (cc)

module _ (t w₀ w : List ℕ) (at n k : ℕ) (st : State t w₀ w at n) (f : QuickAt t at k) where
  pub state_quick : k < 16 → (c v : ℕ) (w' : List ℕ) → c ≡ get_or t at 0 → v ≡ quick_value k c → w' ≡ sets w (4 * n) (k ∷ at ∷ (at + 1) ∷ v ∷ []) → State t w₀ w' (at + 1) (n + 1)
  state_quick h c v w' e q p =
      state_token t w₀ w at n (quick_piece at k (get_or t at 0)) st f.seen k (at + 1) v (at + 1)
      (quick_token at k (get_or t at 0) v h (q ∙ ap (quick_value k) e)) w' p

  pub state_blank : k ≡ 16 → State t w₀ w (at + 1) n
  state_blank h = state_gap t w₀ w at n (quick_piece at k (get_or t at 0)) st f.seen (at + 1) (quick_gap at k (get_or t at 0) h)

-- ---- how many tokens there are
emit_few : (s : Step) (o m : ℕ) (next : ℕ → List (Token Span)) → ((n : ℕ) → length (next n) ≤ m) → length (emit o s next) ≤ suc m
unfolding emit
emit_few gap o m next h = omega (arith, h 0)
emit_few (tok t w a b n) o m next h = omega (arith, h n)

pub tokens_few : (cs : List ℕ) (k o : ℕ) → length (tokens_from k o cs) ≤ length cs + 1
unfolding tokens_from
tokens_few [] k o = omega arith
tokens_few (c ∷ r) (suc k) o = omega (arith, tokens_few r k (o + size c))
tokens_few (c ∷ r) zero o =
    omega (arith, emit_few (step c r) o (length r + 1) (λ (n : ℕ). tokens_from n (o + size c) r) (λ (n : ℕ). tokens_few r n (o + size c)))

sizes-length : (cs : List ℕ) → length cs ≤ sizes cs
unfolding sizes
sizes-length [] = omega arith
sizes-length (c ∷ r) = omega (arith, size-range c, sizes-length r)

-- at most one for each byte, and the line feed at the end
pub tokens_of_bytes : (t : List ℕ) → length (tokens (decode t)) ≤ length t + 1
unfolding tokens valid_up_to
tokens_of_bytes t = omega (arith, tokens_few (decode t) 0 0, sizes-length (decode t), valid_le t)

-- ---- the whole call
module _ (t w : List ℕ) where
  pub refused_long : 0x400000 < length t → ◌≡◌ {A = ℕ × List ℕ} (0xffff_ffff_ffff_ffff, w) (tokenized t w)
  unfolding tokenized
  refused_long h = rw (lt-leb (length t) 0x400000 h)

  pub refused_short : length w < 6 * length t + 6 → ◌≡◌ {A = ℕ × List ℕ} (0xffff_ffff_ffff_ffff, w) (tokenized t w)
  unfolding tokenized
  refused_short h = rw (lt-leb (6 * length t + 6) (length w) h) (by_test (leb (length t) 0x400000) (λ e. rw e) (λ e. rw e))

  pub answered : (r : ℕ) (w' : List ℕ) → length t ≤ 0x400000 → 6 * length t + 6 ≤ length w → r ≡ length (tokens (decode t)) → w' ≡ onto (flat (tokens (decode t))) w
      → ◌≡◌ {A = ℕ × List ℕ} (r, w') (tokenized t w)
  unfolding tokenized
  answered r w' g h p q = rw (le-leb (length t) 0x400000 g, le-leb (6 * length t + 6) (length w) h) (λ i. (p i, q i))

-- the code's cast of a kind is its word
pub tag_word : (k : Kind) → tag_of the_type k ≡ kind_word k
tag_word Word = refl
tag_word Number = refl
tag_word Quoted = refl
tag_word Str = refl
tag_word LParen = refl
tag_word RParen = refl
tag_word LBrace = refl
tag_word RBrace = refl
tag_word Comma = refl
tag_word Eq = refl
tag_word Star = refl
tag_word Other = refl
tag_word Comment = refl
tag_word Newline = refl
tag_word UnterminatedString = refl
tag_word UnterminatedQuote = refl
