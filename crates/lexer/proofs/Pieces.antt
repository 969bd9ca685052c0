-- Laws of the pieces: what each way through the code of `lex` answers.
use mathlib.Core.Path.{◌≡◌, refl, sym, ap, ◌∙◌}
use Prim.Native.Nat.{ℕ, zero, suc, ◌+◌, ◌-◌, ◌≤◌, ◌<◌, min}
use native.Mathlib.Omega.{arith}
use mathlib.Core.Bool.{Bool, true, false, cond, ◌&&◌}
use mathlib.Core.Logic.{⊎_elim}
use mathlib.Core.List.{List, [], ◌∷◌, map}
use lib.Dec.{eqb}
use lib.ListN.{length, get_or, take, drop, take-append-drop}
use borrow.Author.Tests.{eq-eqb, ne_eqb, eqb-true}
use mir.Syntax.{w32, w64}
use mir.Val.{Fits}
use Rattle.chars.specs.Utf8.{size, sizes, Front, one, bad, none, front, decode, encode}
use Rattle.chars.specs.Decoded.{scalars, decoded_at}
use Rattle.chars.specs.Class.{class_of}
use Rattle.chars.specs.declared.Class.{Class}
use Rattle.chars.specs.declared.Class.TheVariants.{Letter, Digit, Space, Sign, Other}
use Rattle.std.specs.Prelude.{Option as Perhaps, Some, None}
use Rattle.chars.proofs.Tests.{and_both, lt-or-ge}
use Rattle.chars.proofs.Blocks.{ascii_decode}
use Rattle.chars.proofs.Short.{high_char}
use Rattle.chars.proofs.Encoding.{size-range}
use Rattle.chars.proofs.Laws.{decode-end, decode_bad, decode-none, front-decode, char_next, char_decode, none_decode, points_next, points_le}
use Rattle.chars.proofs.Theorems.{part_bytes, part-scalars, encode_injective}
use Rattle.lexer.specs.Text.{same}
use Rattle.lexer.specs.Tokens.{TokenKind, word, number, quoted, str, sign, comment, newline, unterminated_string, unterminated_quote, token_at, is_digit, is_ascii_digit, is_word_continue, is_whitespace, run, line, trim_cons, trim_end, indent, comment_text, Inside, closed, unclosed, inside, Step, gap, tok, word_step, number_step, string_step, quoted_step, comment_step, slash_step, other_step, step}
use Rattle.lexer.specs.Words.{keywords, keyword, position, value, sign_number, kind_number, word_value, token_value}
use Rattle.lexer.specs.Keywords.{keyword_bytes}
use Rattle.lexer.specs.Places.{starts_with, part, line_at, string_end, Found, Tok, Gap, End, piece_of, piece}
use Rattle.lexer.specs.declared.Line.{Line}
use Rattle.diag.proofs.Cases.{by_test_lem as by_test}
use Rattle.lexer.proofs.Scans.{run_true, run_false, sizes-nil, sizes-cons}
use Rattle.lexer.proofs.Keywords.{same_true, same_refl, tests_equal, part-inside}

-- ---- the first character
-- a text whose first byte is above ASCII begins with no ASCII character
starts_high : (t : List ℕ) (i c : ℕ) → i < length t → 0x80 ≤ get_or t i 0 → c < 0x80 → false ≡ starts_with c (decode (drop i t))
unfolding starts_with
starts_high t i c h l u = go (front (drop i t)) refl
  where
    go : (f : Front) → front (drop i t) ≡ f → false ≡ starts_with c (decode (drop i t))
    go (one x) e = sym (ap (starts_with c) (front-decode t i x e) ∙ ne_eqb x c (λ (z : x ≡ c). omega (arith, high_char t i h l x e)))
    go bad e = sym (ap (starts_with c) (decode_bad (drop i t) e))
    go none e = sym (ap (starts_with c) (decode-none (drop i t) e))

pub first_byte : (t : List ℕ) (i c x : ℕ) (b : Bool) → i < length t → c < 0x80 → x ≡ get_or t i 0 → b ≡ eqb x c → b ≡ starts_with c (decode (drop i t))
unfolding starts_with
first_byte t i c x b h u e p =
    ⊎_elim (λ (l : get_or t i 0 < 0x80). p ∙ ap (λ (y : ℕ). eqb y c) e ∙ sym (ap (starts_with c) (ascii_decode t i h l)))
    (λ (l : 0x80 ≤ get_or t i 0). p ∙ ne_eqb x c (λ (z : x ≡ c). omega arith) ∙ starts_high t i c h l u)
    (lt-or-ge (get_or t i 0) 0x80)

pub first-none : (t : List ℕ) (i c : ℕ) → length t ≤ i → false ≡ starts_with c (decode (drop i t))
unfolding starts_with
first-none t i c h = sym (ap (starts_with c) (decode-end t i h))

pub ruleset starts = (first_byte, first-none)

starts_inv : (c : ℕ) (cs : List ℕ) → starts_with c cs ≡ true → (r : List ℕ) × (cs ≡ c ∷ r)
unfolding starts_with
starts_inv c [] e = let z : ◌≡◌ {A = ℕ} 0 1 = cc in absurd (omega arith)
starts_inv c (x ∷ r) e = (r, ap (λ (y : ℕ). y ∷ r) (eqb-true x c e))

-- the character c stands at the place i: the characters, the place behind it
module _ (t : List ℕ) (i c : ℕ) (b : Bool) (e : b ≡ starts_with c (decode (drop i t))) (p : b ≡ true) where
  pub starts-rest : decode (drop i t) ≡ c ∷ decode (drop (i + size c) t)
  starts-rest =
      let w = starts_inv c (decode (drop i t)) (sym e ∙ p) in
      w.1 ∙ ap (λ (l : List ℕ). c ∷ l) (sym (points_next t i c w.0 w.1))

  pub starts_in : i + size c ≤ length t
  starts_in = let w = starts_inv c (decode (drop i t)) (sym e ∙ p) in points_le t i c w.0 w.1

-- ---- a token, from its parts
pub piece_tok : (o n : ℕ) (r : List ℕ) (t : TokenKind) (w a b k e v m : ℕ) → e ≡ o + w → v ≡ token_value (token_at o t w a b) → m ≡ n + sizes (take k r)
    → Tok (kind_number t) e v m ≡ piece_of o n r (tok t w a b k)
unfolding piece_of
piece_tok o n r t w a b k e v m p q g = cc

pub piece_of_lem : (o n : ℕ) (r : List ℕ) (s s' : Step) (x : Found) → s ≡ s' → x ≡ piece_of o n r s' → x ≡ piece_of o n r s
piece_of_lem o n r s s' x p q = q ∙ sym (ap (piece_of o n r) p)

-- the beginnings that the scans find
pub run_prefix : (f : ℕ → Bool) (cs : List ℕ) → take (length (run f cs)) cs ≡ run f cs
unfolding run
run_prefix f [] = refl
run_prefix f (c ∷ r) =
    by_test (f c)
    (λ e. rw (run_true f c r e) (ap (λ (l : List ℕ). c ∷ l) (run_prefix f r)))
    (λ e. rw (run_false f c r e))

pub line_prefix : (cs : List ℕ) → take (length (line cs)) cs ≡ line cs
unfolding line
line_prefix [] = refl
line_prefix (c ∷ r) = by_test (eqb c 10) (λ e. rw (e, line)) (λ e. rw (e, line) (ap (λ (l : List ℕ). c ∷ l) (line_prefix r)))

-- ---- a sign's kind
pub sign_of : (c k n : ℕ) → c ≡ k → n ≡ sign_number k → n ≡ sign_number c
sign_of c k n e p = p ∙ sym (ap sign_number e)

-- ---- a quoted character
no_bytes : (i : ℕ) → i ≡ i + 0
no_bytes i = omega arith

pub lone : (at : ℕ) (cs : List ℕ) → Tok 15 (at + 1) 0 (at + 1) ≡ piece_of at (at + 1) cs (tok unterminated_quote 1 0 0 0)
unfolding kind_number token_value sizes
lone at cs = piece_tok at (at + 1) cs unterminated_quote 1 0 0 0 (at + 1) 0 (at + 1) refl refl (no_bytes (at + 1))

quoted_lone : (x : ℕ) (r : List ℕ) → starts_with 0x27 r ≡ false → quoted_step (x ∷ r) ≡ tok unterminated_quote 1 0 0 0
unfolding quoted_step starts_with
quoted_lone x [] e = refl
quoted_lone x (q ∷ r) e = rw (e, quoted_step) (by_test (eqb x 10) (λ p. rw p) (λ p. rw p))

quoted_feed : (x : ℕ) (r : List ℕ) → x ≡ 10 → quoted_step (x ∷ r) ≡ tok unterminated_quote 1 0 0 0
unfolding quoted_step
quoted_feed x [] e = refl
quoted_feed x (q ∷ r) e = rw (eq-eqb x 10 e, quoted_step)

quoted-nil : quoted_step [] ≡ tok unterminated_quote 1 0 0 0
unfolding quoted_step
quoted-nil = refl

quoted_char : (x : ℕ) (r : List ℕ) → (x ≡ 10 → ⊥) → quoted_step (x ∷ 0x27 ∷ r) ≡ tok (quoted x) (2 + size x) 0 0 2
unfolding quoted_step
quoted_char x r f = rw (ne_eqb x 10 f, quoted_step)

module _ (t : List ℕ) (at : ℕ) (r : Perhaps (ℕ × ℕ)) (s : r ≡ decoded_at (at + 1) (front (drop (at + 1) t))) where
  pub quoted_none : r ≡ None → Tok 15 (at + 1) 0 (at + 1) ≡ piece_of at (at + 1) (decode (drop (at + 1) t)) (quoted_step (decode (drop (at + 1) t)))
  quoted_none e = piece_of_lem at (at + 1) _ _ _ _ (ap quoted_step (none_decode t (at + 1) r s e) ∙ quoted-nil) (lone at (decode (drop (at + 1) t)))

  module _ (c n : ℕ) (e : r ≡ Some (c, n)) where
    pub quoted-at_feed : c ≡ 10 → Tok 15 (at + 1) 0 (at + 1) ≡ piece_of at (at + 1) (decode (drop (at + 1) t)) (quoted_step (decode (drop (at + 1) t)))
    quoted-at_feed f =
        piece_of_lem at (at + 1) _ _ _ _ (ap quoted_step (char_decode t (at + 1) r s c n e) ∙ quoted_feed c (decode (drop n t)) f) (lone at (decode (drop (at + 1) t)))

    module _ (b : Bool) (p : b ≡ starts_with 0x27 (decode (drop n t))) where
      pub quoted-open : b ≡ false → Tok 15 (at + 1) 0 (at + 1) ≡ piece_of at (at + 1) (decode (drop (at + 1) t)) (quoted_step (decode (drop (at + 1) t)))
      quoted-open q =
          piece_of_lem at (at + 1) _ _ _ _ (ap quoted_step (char_decode t (at + 1) r s c n e) ∙ quoted_lone c (decode (drop n t)) (sym p ∙ q)) (lone at (decode (drop (at + 1) t)))

      pub quoted_fits : b ≡ true → length t < 0x10000000000000000 → Fits w64 (n + 1)
      unfolding size
      quoted_fits q h = omega (arith, starts_in t n 0x27 b p q)

      pub quoted_closed : b ≡ true → (c ≡ 10 → ⊥) → Tok 2 (n + 1) c (n + 1) ≡ piece_of at (at + 1) (decode (drop (at + 1) t)) (quoted_step (decode (drop (at + 1) t)))
      unfolding kind_number token_value sizes size
      quoted_closed q f =
          let u : List ℕ = decode (drop (n + 1) t) in
          let d : decode (drop (at + 1) t) ≡ c ∷ 0x27 ∷ u = char_decode t (at + 1) r s c n e ∙ ap (λ (l : List ℕ). c ∷ l) (starts-rest t n 0x27 b p q) in
          let m = char_next t (at + 1) r s c n e in
          rw d (piece_of_lem at (at + 1) (c ∷ 0x27 ∷ u) _ _ _ (quoted_char c u f)
          (piece_tok at (at + 1) (c ∷ 0x27 ∷ u) (quoted c) (2 + size c) 0 0 2 (n + 1) c (n + 1) (omega arith) refl (omega arith)))

-- ---- a string
string_inv : (b : Bool) (at : ℕ) (cs : List ℕ) (n : ℕ) → string_end b at cs ≡ Some n → (v : List ℕ) × (k : ℕ) × (inside b cs ≡ closed v k) × (n ≡ at + sizes (take k cs))
unfolding string_end
string_inv b at cs n e = go (inside b cs) refl
  where
    go : (x : Inside) → inside b cs ≡ x → (v : List ℕ) × (k : ℕ) × (inside b cs ≡ closed v k) × (n ≡ at + sizes (take k cs))
    go (closed v k) p = let q : Some (at + sizes (take k cs)) ≡ Some n = sym (rw (p, string_end)) ∙ e in (v, k, p, cc)
    go unclosed p = let q : None ≡ Some n = sym (rw (p, string_end)) ∙ e in let z : ◌≡◌ {A = ℕ} 0 1 = cc in absurd (omega arith)

string-open : (b : Bool) (at : ℕ) (cs : List ℕ) → string_end b at cs ≡ None → inside b cs ≡ unclosed
unfolding string_end
string-open b at cs e = go (inside b cs) refl
  where
    go : (x : Inside) → inside b cs ≡ x → inside b cs ≡ unclosed
    go (closed v k) p = let q : Some (at + sizes (take k cs)) ≡ None = sym (rw (p, string_end)) ∙ e in let z : ◌≡◌ {A = ℕ} 0 1 = cc in absurd (omega arith)
    go unclosed p = p

module _ (t : List ℕ) (at : ℕ) (r : Perhaps ℕ) (s : r ≡ string_end false (at + 1) (decode (drop (at + 1) t))) where
  pub string_token : (n : ℕ) → r ≡ Some n → Tok 3 n 1 n ≡ piece_of at (at + 1) (decode (drop (at + 1) t)) (string_step (decode (drop (at + 1) t)))
  unfolding string_step kind_number token_value
  string_token n e =
      let cs : List ℕ = decode (drop (at + 1) t) in
      let w = string_inv false (at + 1) cs n (sym s ∙ e) in
      let v : List ℕ = w.0 in
      let k : ℕ = w.1 in
      let p = w.3 in
      piece_of_lem at (at + 1) cs _ (tok (str v) (1 + sizes (take k cs)) 1 1 k) _ (rw (w.2, string_step))
      (piece_tok at (at + 1) cs (str v) (1 + sizes (take k cs)) 1 1 k n 1 n (omega arith) (omega arith) p)

  pub string-rest : (l : Line) → r ≡ None → l ≡ line_at (at + 1) (decode (drop (at + 1) t))
      → Tok 14 l.trimmed 0 l.end ≡ piece_of at (at + 1) (decode (drop (at + 1) t)) (string_step (decode (drop (at + 1) t)))
  unfolding string_step kind_number token_value line_at
  string-rest l e g =
      let cs : List ℕ = decode (drop (at + 1) t) in
      let p : l.trimmed ≡ at + 1 + sizes (trim_end (line cs)) = ap (λ (x : Line). x.trimmed) g in
      let q : l.end ≡ at + 1 + sizes (line cs) = ap (λ (x : Line). x.end) g in
      piece_of_lem at (at + 1) cs _ (tok unterminated_string (1 + sizes (trim_end (line cs))) 0 0 (length (line cs))) _ (rw (string-open false (at + 1) cs (sym s ∙ e), string_step))
      (piece_tok at (at + 1) cs unterminated_string (1 + sizes (trim_end (line cs))) 0 0 (length (line cs)) l.trimmed 0 l.end (omega arith) refl
      (q ∙ ap (λ (x : List ℕ). at + 1 + sizes x) (sym (line_prefix cs))))

-- ---- a comment
size_pos : (c : ℕ) (r : List ℕ) → sizes (c ∷ r) ≡ 0 → ⊥
size_pos c r e = omega (arith, sizes-cons c r, (size-range c).0)

no_sizes : (l : List ℕ) → sizes l ≡ 0 → l ≡ []
no_sizes [] e = refl
no_sizes (c ∷ r) e = absurd (size_pos c r e)

indent-none : (l : List ℕ) → sizes l ≡ 0 → indent l ≡ 0
unfolding indent
indent-none l e = ap indent (no_sizes l e)

-- a trimmed line, where it is not empty, begins as the text does
trim_head : (c : ℕ) (l : List ℕ) → (sizes (trim_cons c l) ≡ 0 → ⊥) → (m : List ℕ) × (trim_cons c l ≡ c ∷ m)
unfolding trim_cons is_whitespace
trim_head c [] f = by_test (is_whitespace c) (λ e. absurd (f (rw (e, trim_cons) sizes-nil))) (λ e. ([], rw (e, trim_cons)))
trim_head c (d ∷ r) f = (d ∷ r, refl)

indent-cons : (c : ℕ) (m : List ℕ) (b : Bool) → b ≡ eqb c 0x20 → indent (c ∷ m) ≡ cond b 1 0
unfolding indent
indent-cons c m true e = rw (← e, indent)
indent-cons c m false e = rw (← e, indent)

indent-head : (cs : List ℕ) (b : Bool) → (sizes (trim_end (line cs)) ≡ 0 → ⊥) → b ≡ starts_with 0x20 cs → indent (trim_end (line cs)) ≡ cond b 1 0
unfolding line trim_end starts_with
indent-head [] b f e = absurd (f sizes-nil)
indent-head (c ∷ r) b f e =
    by_test (eqb c 10)
    (λ p. absurd (f (rw (p, line) sizes-nil)))
    (λ p.
    let w = trim_head c (trim_end (line r)) (λ (z : sizes (trim_cons c (trim_end (line r))) ≡ 0). f (rw (p, line) z)) in
    rw (p, line) (ap indent w.1 ∙ indent-cons c w.0 b e))

module _ (t : List ℕ) (at : ℕ) (l : Line) (g : l ≡ line_at (at + 2) (decode (drop (at + 2) t))) where
  -- the token, where n bytes stand before the text
  comment_token : (n : ℕ) → indent (trim_end (line (decode (drop (at + 2) t)))) ≡ n
      → Tok 12 l.trimmed (2 + n) l.end ≡ piece_of at (at + 1) (0x2F ∷ decode (drop (at + 2) t)) (comment_step (decode (drop (at + 2) t)))
  unfolding comment_step kind_number token_value line_at sizes size
  comment_token n e =
      let r : List ℕ = decode (drop (at + 2) t) in
      let u : List ℕ = trim_end (line r) in
      let p : l.trimmed ≡ at + 2 + sizes u = ap (λ (x : Line). x.trimmed) g in
      let q : l.end ≡ at + 2 + sizes (line r) = ap (λ (x : Line). x.end) g in
      let o : sizes (take (length (line r)) r) ≡ sizes (line r) = ap sizes (line_prefix r) in
      piece_tok at (at + 1) (0x2F ∷ r) (comment (comment_text u)) (2 + sizes u) (2 + indent u) 0 (suc (length (line r))) l.trimmed (2 + n) l.end
      (omega arith) (omega arith) (omega arith)

  pub comment_empty : l.trimmed ≡ at + 2 → Tok 12 l.trimmed 2 l.end ≡ piece_of at (at + 1) (0x2F ∷ decode (drop (at + 2) t)) (comment_step (decode (drop (at + 2) t)))
  unfolding line_at
  comment_empty e =
      let r : List ℕ = decode (drop (at + 2) t) in
      let p : l.trimmed ≡ at + 2 + sizes (trim_end (line r)) = ap (λ (x : Line). x.trimmed) g in
      comment_token 0 (indent-none (trim_end (line r)) (omega arith))

  module _ (f : l.trimmed ≡ at + 2 → ⊥) (b : Bool) (h : b ≡ starts_with 0x20 (decode (drop (at + 2) t))) where
    indent_is : indent (trim_end (line (decode (drop (at + 2) t)))) ≡ cond b 1 0
    unfolding line_at
    indent_is =
        let r : List ℕ = decode (drop (at + 2) t) in
        let p : l.trimmed ≡ at + 2 + sizes (trim_end (line r)) = ap (λ (x : Line). x.trimmed) g in
        indent-head r b (λ (z : sizes (trim_end (line r)) ≡ 0). f (omega arith)) h

    pub comment_space : b ≡ true → Tok 12 l.trimmed 3 l.end ≡ piece_of at (at + 1) (0x2F ∷ decode (drop (at + 2) t)) (comment_step (decode (drop (at + 2) t)))
    comment_space e = comment_token 1 (indent_is ∙ ap (λ (x : Bool). cond x 1 0) e)

    pub comment-plain : b ≡ false → Tok 12 l.trimmed 2 l.end ≡ piece_of at (at + 1) (0x2F ∷ decode (drop (at + 2) t)) (comment_step (decode (drop (at + 2) t)))
    comment-plain e = comment_token 0 (indent_is ∙ ap (λ (x : Bool). cond x 1 0) e)

-- ---- a slash
slash-slash : (r : List ℕ) → slash_step (0x2F ∷ r) ≡ comment_step r
unfolding slash_step
slash-slash r = refl

slash_alone : (cs : List ℕ) → starts_with 0x2F cs ≡ false → slash_step cs ≡ tok (sign 0x2F) 1 0 0 0
unfolding slash_step starts_with
slash_alone [] e = refl
slash_alone (d ∷ r) e = rw (e, slash_step)

module _ (t : List ℕ) (at : ℕ) (b : Bool) (h : b ≡ starts_with 0x2F (decode (drop (at + 1) t))) where
  pub slash_in : b ≡ true → at + 1 < length t
  unfolding size
  slash_in e = omega (arith, starts_in t (at + 1) 0x2F b h e)

  pub slash-comment : (x : Found) → b ≡ true → x ≡ piece_of at (at + 1) (0x2F ∷ decode (drop (at + 2) t)) (comment_step (decode (drop (at + 2) t)))
      → x ≡ piece_of at (at + 1) (decode (drop (at + 1) t)) (slash_step (decode (drop (at + 1) t)))
  unfolding size
  slash-comment x e p =
      let o : at + 1 + 1 ≡ at + 2 = omega arith in
      let d : decode (drop (at + 1) t) ≡ 0x2F ∷ decode (drop (at + 2) t) = starts-rest t (at + 1) 0x2F b h e ∙ ap (λ (i : ℕ). 0x2F ∷ decode (drop i t)) o in
      rw d (p ∙ sym (ap (piece_of at (at + 1) (0x2F ∷ decode (drop (at + 2) t))) (slash-slash (decode (drop (at + 2) t)))))

  pub slash_sign : b ≡ false → Tok 11 (at + 1) 0x2F (at + 1) ≡ piece_of at (at + 1) (decode (drop (at + 1) t)) (slash_step (decode (drop (at + 1) t)))
  unfolding kind_number token_value sizes
  slash_sign e =
      piece_of_lem at (at + 1) _ _ _ _ (slash_alone (decode (drop (at + 1) t)) (sym h ∙ e))
      (piece_tok at (at + 1) (decode (drop (at + 1) t)) (sign 0x2F) 1 0 0 0 (at + 1) 0x2F (at + 1) refl refl (no_bytes (at + 1)))

-- ---- k characters on
pub jump : (k : ℕ) (t : List ℕ) (i : ℕ) (cs : List ℕ) → decode (drop i t) ≡ cs → decode (drop (i + sizes (take k cs)) t) ≡ drop k cs
unfolding sizes
jump zero t i cs p = ap (λ (j : ℕ). decode (drop j t)) (sym (no_bytes i)) ∙ p
jump (suc k) t i [] p = ap (λ (j : ℕ). decode (drop j t)) (sym (no_bytes i)) ∙ p
jump (suc k) t i (c ∷ r) p =
    let o : i + (size c + sizes (take k r)) ≡ i + size c + sizes (take k r) = omega arith in
    ap (λ (j : ℕ). decode (drop j t)) o ∙ jump k t (i + size c) r (points_next t i c r p)

pub jump_le : (k : ℕ) (t : List ℕ) (i : ℕ) (cs : List ℕ) → decode (drop i t) ≡ cs → i ≤ length t → i + sizes (take k cs) ≤ length t
unfolding sizes
jump_le zero t i cs p h = omega arith
jump_le (suc k) t i [] p h = omega arith
jump_le (suc k) t i (c ∷ r) p h = omega (arith, jump_le k t (i + size c) r (points_next t i c r p) (points_le t i c r p))

-- the bytes of the first k characters
pub jump_part : (k : ℕ) (t : List ℕ) (i : ℕ) (cs : List ℕ) → decode (drop i t) ≡ cs → i ≤ length t → part t i (i + sizes (take k cs)) ≡ encode (take k cs)
jump_part k t i cs p h =
    let n : ℕ = sizes (take k cs) in
    let o : i + n - i ≡ n = omega arith in
    sym (part-inside t i (i + n) (omega arith) (jump_le k t i cs p h)) ∙ ap (λ (j : ℕ). take j (drop i t)) o
    ∙ part_bytes (take k cs) (drop k cs) t i (p ∙ sym (take-append-drop k cs))

pub jump_scalars : (k : ℕ) (t : List ℕ) (i : ℕ) (cs : List ℕ) → decode (drop i t) ≡ cs → scalars (take k cs) ≡ true
jump_scalars k t i cs p = part-scalars (take k cs) (drop k cs) (drop i t) (p ∙ sym (take-append-drop k cs))

-- ---- keywords, as bytes and as characters
abbrev all_scalars : List (List ℕ) → Bool
all_scalars [] = true
all_scalars (k ∷ ks) = scalars k && all_scalars ks

keywords-scalars : all_scalars keywords ≡ true
unfolding scalars
keywords-scalars = refl

pub same-encode : (a b : List ℕ) → scalars a ≡ true → scalars b ≡ true → same (encode a) (encode b) ≡ same a b
same-encode a b s u =
    tests_equal (same (encode a) (encode b)) (same a b)
    (λ e. let p = encode_injective a b s u (same_true (encode a) (encode b) e) in rw p (same_refl b))
    (λ e. let p = same_true a b e in rw p (same_refl (encode b)))

position-bytes : (ks : List (List ℕ)) (n : ℕ) (w : List ℕ) → all_scalars ks ≡ true → scalars w ≡ true → position n (map encode ks) (encode w) ≡ position n ks w
unfolding position
position-bytes [] n w g s = refl
position-bytes (k ∷ ks) n w g s =
    let u = and_both (scalars k) (all_scalars ks) g in
    let e = same-encode k w u.0 s in
    by_test (same k w)
    (λ p. rw (p, position) (rw (e ∙ p, position)))
    (λ p. rw (p, position) (rw (e ∙ p, position) (position-bytes ks (suc n) w u.1 s)))

pub keyword_bytes_lem : (w : List ℕ) → scalars w ≡ true → position 1 keyword_bytes (encode w) ≡ keyword w
unfolding keyword_bytes keyword
keyword_bytes_lem w s = position-bytes keywords 1 w keywords-scalars s

position-le : (ks : List (List ℕ)) (n : ℕ) (w : List ℕ) → position n ks w ≤ n + length ks
unfolding position
position-le [] n w = omega arith
position-le (k ∷ ks) n w =
    by_test (same k w)
    (λ p. rw (p, position) (omega arith))
    (λ p. rw (p, position) (omega (arith, position-le ks (suc n) w)))

-- ---- a word
module _ (t : List ℕ) (at c next end : ℕ) (m : next ≡ at + size c) (d : decode (drop at t) ≡ c ∷ decode (drop next t)) (h : next ≤ length t)
    (g : end ≡ next + sizes (run is_word_continue (decode (drop next t)))) where
  tail : List ℕ
  tail = run is_word_continue (decode (drop next t))

  word_token : (v : ℕ) → v ≡ word_value (c ∷ tail) → Tok 0 end v end ≡ piece_of at next (decode (drop next t)) (word_step c (decode (drop next t)))
  unfolding tail word_step kind_number token_value
  word_token v e =
      let r : List ℕ = decode (drop next t) in
      piece_tok at next r (word (c ∷ tail)) (size c + sizes tail) 0 0 (length tail) end v end (omega arith) e
      (g ∙ ap (λ (l : List ℕ). next + sizes l) (sym (run_prefix is_word_continue r)))

  pub word-one : end ≡ next → Tok 0 end c end ≡ piece_of at next (decode (drop next t)) (word_step c (decode (drop next t)))
  unfolding tail word_value
  word-one e = word_token c (sym (ap (λ (l : List ℕ). word_value (c ∷ l)) (no_sizes tail (omega arith))))

  long_value : (l : List ℕ) → (sizes l ≡ 0 → ⊥) → word_value (c ∷ l) ≡ 0x110000 + keyword (c ∷ l)
  unfolding word_value sizes
  long_value [] f = absurd (f refl)
  long_value (x ∷ l) f = refl

  -- the word's bytes
  word-part : part t at end ≡ encode (c ∷ tail)
  unfolding tail sizes
  word-part =
      let r : List ℕ = decode (drop next t) in
      let k : ℕ = suc (length tail) in
      let p : take k (c ∷ r) ≡ c ∷ tail = ap (λ (l : List ℕ). c ∷ l) (run_prefix is_word_continue r) in
      let o : end ≡ at + sizes (take k (c ∷ r)) = omega (arith, ap sizes p) in
      rw o (jump_part k t at (c ∷ r) d (omega arith) ∙ ap encode p)

  word-scalars : scalars (c ∷ tail) ≡ true
  unfolding tail
  word-scalars =
      let r : List ℕ = decode (drop next t) in
      sym (ap scalars (ap (λ (l : List ℕ). c ∷ l) (run_prefix is_word_continue r))) ∙ jump_scalars (suc (length tail)) t at (c ∷ r) d

  pub word_long : (name : List ℕ) (k : ℕ) → (end ≡ next → ⊥) → name ≡ part t at end → k ≡ position 1 keyword_bytes name
      → Tok 0 end (0x110000 + k) end ≡ piece_of at next (decode (drop next t)) (word_step c (decode (drop next t)))
  unfolding tail
  word_long name k f p q =
      let e : k ≡ keyword (c ∷ tail) = q ∙ ap (position 1 keyword_bytes) (p ∙ word-part) ∙ keyword_bytes_lem (c ∷ tail) word-scalars in
      word_token (0x110000 + k) (ap (λ (x : ℕ). 0x110000 + x) e ∙ sym (long_value tail (λ (z : sizes tail ≡ 0). f (omega arith))))

pub word_fits : (name : List ℕ) (k : ℕ) → k ≡ position 1 keyword_bytes name → Fits w32 (0x110000 + k)
unfolding keyword_bytes
word_fits name k q = omega (arith, position-le keyword_bytes 1 name)

-- ---- a number
module _ (t : List ℕ) (at c next end v : ℕ) (m : next ≡ at + size c) (d : decode (drop at t) ≡ c ∷ decode (drop next t)) (p : is_ascii_digit c ≡ true) where
  pub number_token : end ≡ next + sizes (run is_ascii_digit (decode (drop next t))) → v ≡ min (value (run is_ascii_digit (decode (drop at t)))) 256
      → Tok 1 end v end ≡ piece_of at next (decode (drop next t)) (number_step c (decode (drop next t)))
  unfolding number_step kind_number token_value
  number_token g e =
      let r : List ℕ = decode (drop next t) in
      let w : List ℕ = run is_ascii_digit r in
      piece_tok at next r (number (c ∷ w)) (size c + sizes w) 0 0 (length w) end v end (omega arith)
      (e ∙ ap (λ (l : List ℕ). min (value l) 256) (ap (run is_ascii_digit) d ∙ run_true is_ascii_digit c r p))
      (g ∙ ap (λ (l : List ℕ). next + sizes l) (sym (run_prefix is_ascii_digit r)))

  -- the piece of a number, by a scan from its first digit on
  pub number_at : end ≡ at + sizes (run is_ascii_digit (decode (drop at t))) → v ≡ min (value (run is_ascii_digit (decode (drop at t)))) 256
      → Tok 1 end v end ≡ piece_of at next (decode (drop next t)) (number_step c (decode (drop next t)))
  number_at g e =
      let w : List ℕ = run is_ascii_digit (decode (drop next t)) in
      let q : run is_ascii_digit (decode (drop at t)) ≡ c ∷ w = ap (run is_ascii_digit) d ∙ run_true is_ascii_digit c (decode (drop next t)) p in
      let o : end ≡ at + (size c + sizes w) = g ∙ ap (λ (l : List ℕ). at + sizes l) q ∙ ap (λ (n : ℕ). at + n) (sizes-cons c w) in
      number_token (omega arith) e

-- ---- a character of no class, and the first character of any piece
pub step-word : (c : ℕ) (r : List ℕ) → c ≡ 0x5F → other_step c r ≡ word_step c r
unfolding other_step
step-word c r e = rw (eq-eqb c 0x5F e, other_step)

pub step_sign : (c : ℕ) (r : List ℕ) → (c ≡ 0x5F → ⊥) → (c ≡ 0x22 → ⊥) → (c ≡ 0x27 → ⊥) → (c ≡ 0x2F → ⊥) → other_step c r ≡ tok (sign c) (size c) 0 0 0
unfolding other_step
step_sign c r f g h k = rw (ne_eqb c 0x5F f, other_step) (rw (ne_eqb c 0x22 g, ne_eqb c 0x27 h, ne_eqb c 0x2F k))

pub sign_token : (at c next k : ℕ) (r : List ℕ) → next ≡ at + size c → k ≡ sign_number c → Tok k next c next ≡ piece_of at next r (tok (sign c) (size c) 0 0 0)
unfolding kind_number token_value sizes
sign_token at c next k r m e = rw e (piece_tok at next r (sign c) (size c) 0 0 0 next c next m refl (no_bytes next))

-- a character of one byte: the next stands one further on
one-next : (at c n next : ℕ) → next ≡ at + size c → c ≡ n → size n ≡ 1 → at + 1 ≡ next
one-next at c n next m e s = omega (arith, ap size e)

-- what a character that is no line feed begins, by its class
abbrev pub by_class : Class → ℕ → List ℕ → Step
by_class Space c r = gap
by_class Letter c r = word_step c r
by_class Digit c r = number_step c r
by_class Sign c r = tok (sign c) (size c) 0 0 0
by_class Other c r = other_step c r

pub step_class : (c : ℕ) (r : List ℕ) → (c ≡ 10 → ⊥) → (x : Class) → class_of c ≡ x → step c r ≡ by_class x c r
unfolding step
step_class c r f Space e = rw (ne_eqb c 10 f, step) (rw e)
step_class c r f Letter e = rw (ne_eqb c 10 f, step) (rw e)
step_class c r f Digit e = rw (ne_eqb c 10 f, step) (rw e)
step_class c r f Sign e = rw (ne_eqb c 10 f, step) (rw e)
step_class c r f Other e = rw (ne_eqb c 10 f, step) (rw e)

module _ (t : List ℕ) (at c next : ℕ) (m : next ≡ at + size c) where
  pub other_word : (x : Found) → c ≡ 0x5F → x ≡ piece_of at next (decode (drop next t)) (word_step c (decode (drop next t))) → x ≡ piece_of at next (decode (drop next t)) (other_step c (decode (drop next t)))
  other_word x e p = piece_of_lem at next _ _ _ x (step-word c (decode (drop next t)) e) p

  pub other_sign : (k : ℕ) → (c ≡ 0x5F → ⊥) → (c ≡ 0x22 → ⊥) → (c ≡ 0x27 → ⊥) → (c ≡ 0x2F → ⊥) → k ≡ sign_number c
      → Tok k next c next ≡ piece_of at next (decode (drop next t)) (other_step c (decode (drop next t)))
  other_sign k f g h i e = piece_of_lem at next _ _ _ _ (step_sign c (decode (drop next t)) f g h i) (sign_token at c next k (decode (drop next t)) m e)

  -- ---- a quote or a slash: the piece at the place behind a character of one byte
  moved : (x : Found) (s : List ℕ → Step) → at + 1 ≡ next → step c (decode (drop next t)) ≡ s (decode (drop next t))
      → x ≡ piece_of at (at + 1) (decode (drop (at + 1) t)) (s (decode (drop (at + 1) t))) → x ≡ piece_of at next (decode (drop next t)) (step c (decode (drop next t)))
  moved x s o q p = piece_of_lem at next _ _ _ x q (p ∙ ap (λ (j : ℕ). piece_of at j (decode (drop j t)) (s (decode (drop j t)))) o)

  pub from_string : (x : Found) → c ≡ 0x22 → x ≡ piece_of at (at + 1) (decode (drop (at + 1) t)) (string_step (decode (drop (at + 1) t)))
      → x ≡ piece_of at next (decode (drop next t)) (step c (decode (drop next t)))
  unfolding size step
  from_string x e p = moved x string_step (one-next at c 0x22 next m e refl) (ap (λ (y : ℕ). step y (decode (drop next t))) e) p

  pub from_quoted : (x : Found) → c ≡ 0x27 → x ≡ piece_of at (at + 1) (decode (drop (at + 1) t)) (quoted_step (decode (drop (at + 1) t)))
      → x ≡ piece_of at next (decode (drop next t)) (step c (decode (drop next t)))
  unfolding size step
  from_quoted x e p = moved x quoted_step (one-next at c 0x27 next m e refl) (ap (λ (y : ℕ). step y (decode (drop next t))) e) p

  pub from_slash : (x : Found) → c ≡ 0x2F → x ≡ piece_of at (at + 1) (decode (drop (at + 1) t)) (slash_step (decode (drop (at + 1) t)))
      → x ≡ piece_of at next (decode (drop next t)) (step c (decode (drop next t)))
  unfolding size step
  from_slash x e p = moved x slash_step (one-next at c 0x2F next m e refl) (ap (λ (y : ℕ). step y (decode (drop next t))) e) p

  -- ---- by class
  pub from_feed : c ≡ 10 → Tok 13 next 0 next ≡ piece_of at next (decode (drop next t)) (step c (decode (drop next t)))
  unfolding step kind_number token_value sizes size
  from_feed e =
      piece_of_lem at next _ _ (tok newline 1 0 0 0) _ (rw (eq-eqb c 10 e, step))
      (piece_tok at next (decode (drop next t)) newline 1 0 0 0 next 0 next (sym (one-next at c 10 next m e refl)) refl (no_bytes next))

  module _ (f : c ≡ 10 → ⊥) (k : Class) (e : k ≡ class_of c) where
    from_class : (x : Class) (y : Found) → k ≡ x → y ≡ piece_of at next (decode (drop next t)) (by_class x c (decode (drop next t)))
        → y ≡ piece_of at next (decode (drop next t)) (step c (decode (drop next t)))
    from_class x y p q = piece_of_lem at next _ _ _ y (step_class c (decode (drop next t)) f x (sym e ∙ p)) q

    pub from_space : k ≡ Space → Gap next ≡ piece_of at next (decode (drop next t)) (step c (decode (drop next t)))
    unfolding piece_of
    from_space p = from_class Space (Gap next) p refl

    pub from_letter : (y : Found) → k ≡ Letter → y ≡ piece_of at next (decode (drop next t)) (word_step c (decode (drop next t)))
        → y ≡ piece_of at next (decode (drop next t)) (step c (decode (drop next t)))
    from_letter y p q = from_class Letter y p q

    pub from_digit : (y : Found) → k ≡ Digit → y ≡ piece_of at next (decode (drop next t)) (number_step c (decode (drop next t)))
        → y ≡ piece_of at next (decode (drop next t)) (step c (decode (drop next t)))
    from_digit y p q = from_class Digit y p q

    pub from_sign : (n : ℕ) → k ≡ Sign → n ≡ sign_number c → Tok n next c next ≡ piece_of at next (decode (drop next t)) (step c (decode (drop next t)))
    from_sign n p q = from_class Sign (Tok n next c next) p (sign_token at c next n (decode (drop next t)) m q)

    pub from_other : (y : Found) → k ≡ Other → y ≡ piece_of at next (decode (drop next t)) (other_step c (decode (drop next t)))
        → y ≡ piece_of at next (decode (drop next t)) (step c (decode (drop next t)))
    from_other y p q = from_class Other y p q

-- a digit by its class
pub digit_by : (c : ℕ) (k : Class) → k ≡ class_of c → k ≡ Digit → is_ascii_digit c ≡ true
unfolding is_ascii_digit
digit_by c k e p = ap is_digit (sym e ∙ p)

pub class_by : (c : ℕ) (k x : Class) → k ≡ class_of c → k ≡ x → class_of c ≡ x
class_by c k x e p = sym e ∙ p

-- ---- the piece at a place
-- a quote
module _ (t : List ℕ) (at : ℕ) (b : Bool) (e : b ≡ starts_with 0x27 (decode (drop at t))) where
  pub quote_in : b ≡ true → at < length t
  unfolding size
  quote_in p = omega (arith, starts_in t at 0x27 b e p)

  pub piece-quoted : (y : Found) → b ≡ true → y ≡ piece_of at (at + 1) (decode (drop (at + 1) t)) (quoted_step (decode (drop (at + 1) t))) → y ≡ piece at (decode (drop at t))
  unfolding piece size step
  piece-quoted y p q = q ∙ sym (ap (piece at) (starts-rest t at 0x27 b e p))

module _ (t : List ℕ) (at : ℕ) (r : Perhaps (ℕ × ℕ)) (s : r ≡ decoded_at at (front (drop at t))) where
  pub piece_char : (c n : ℕ) (y : Found) → r ≡ Some (c, n) → y ≡ piece_of at n (decode (drop n t)) (step c (decode (drop n t))) → y ≡ piece at (decode (drop at t))
  unfolding piece
  piece_char c n y e p =
      p ∙ ap (λ (j : ℕ). piece_of at j (decode (drop n t)) (step c (decode (drop n t)))) (char_next t at r s c n e)
      ∙ sym (ap (piece at) (char_decode t at r s c n e))

  pub piece_none : r ≡ None → End ≡ piece at (decode (drop at t))
  unfolding piece
  piece_none e = sym (ap (piece at) (none_decode t at r s e))
