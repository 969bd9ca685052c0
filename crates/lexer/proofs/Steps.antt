-- What a step says: a token is as long as characters that it takes, and its text stands between characters of the text.
use mathlib.Core.Path.{◌≡◌, refl, sym, ap, subst, ◌∙◌}
use Prim.Native.Nat.{ℕ, suc, ◌+◌, ◌-◌, ◌≤◌}
use native.Mathlib.Omega.{arith}
use mathlib.Core.Bool.{Bool, true, false, ◌&&◌, not}
use mathlib.Core.List.{List, [], ◌∷◌, ◌++◌}
use Rattle.std.specs.Prelude.{Option, None, Some}
use lib.Dec.{eqb}
use lib.ListN.{length, take, drop, length-take}
use lib.Seq.{take-take}
use borrow.Author.Tests.{eqb-true, eqb-false}
use Rattle.chars.specs.Utf8.{size, sizes}
use Rattle.chars.specs.Class.{class_of}
use Rattle.chars.specs.declared.Class.{Class}
use Rattle.chars.specs.declared.Class.TheVariants.{Letter, Digit, Space, Sign, Other}
use Rattle.chars.proofs.Tests.{and_both}
use Rattle.chars.proofs.Theorems.{sizes-append}
use Rattle.lexer.specs.Tokens.{TokenKind, word, number, quoted, str, sign, comment, newline, unterminated_string, unterminated_quote, is_digit, is_ascii_digit, is_word_continue, is_whitespace, run, line, trim_cons, trim_end, indent, comment_text, escape, Inside, closed, unclosed, put, pass, inside, unescape, Step, gap, tok, word_step, number_step, string_step, quoted_step, comment_step, slash_step, other_step, step}
use Rattle.diag.proofs.Cases.{by_test_lem as by_test}
use Rattle.lexer.proofs.Scans.{run_true, run_false, inside_quote, inside-slash, inside-plain}
use Rattle.lexer.proofs.Pieces.{run_prefix, line_prefix, step_class, by_class}

-- what the characters of a token's text say of it
abbrev pub Says : TokenKind → List ℕ → Type 0
Says (word w) cs = cs ≡ w
Says (number w) cs = cs ≡ w
Says (quoted c) cs = cs ≡ 0x27 ∷ c ∷ 0x27 ∷ []
Says (str v) cs = unescape cs ≡ v
Says (sign c) cs = cs ≡ c ∷ []
Says (comment s) cs = cs ≡ s
Says newline cs = Unit {0}
Says unterminated_string cs = Unit {0}
Says unterminated_quote cs = Unit {0}

-- every character is an ASCII digit
abbrev pub digits : List ℕ → Bool
digits [] = true
digits (c ∷ r) = is_ascii_digit c && digits r

-- words and numbers are not empty, and numbers have digits only
abbrev pub Good : TokenKind → Type 0
Good (word []) = ⊥
Good (word (c ∷ w)) = Unit {0}
Good (number []) = ⊥
Good (number (c ∷ w)) = digits (c ∷ w) ≡ true
Good (quoted c) = Unit {0}
Good (str v) = Unit {0}
Good (sign c) = Unit {0}
Good (comment s) = Unit {0}
Good newline = Unit {0}
Good unterminated_string = Unit {0}
Good unterminated_quote = Unit {0}

-- the bytes before and behind a token's text: a string's quotes, a comment's slashes; none else
abbrev pub Sides : TokenKind → ℕ → ℕ → Type 0
Sides (str v) a b = (a ≡ 1) × (b ≡ 1)
Sides (comment s) a b = b ≡ 0
Sides (word w) a b = (a ≡ 0) × (b ≡ 0)
Sides (number w) a b = (a ≡ 0) × (b ≡ 0)
Sides (quoted c) a b = (a ≡ 0) × (b ≡ 0)
Sides (sign c) a b = (a ≡ 0) × (b ≡ 0)
Sides newline a b = (a ≡ 0) × (b ≡ 0)
Sides unterminated_string a b = (a ≡ 0) × (b ≡ 0)
Sides unterminated_quote a b = (a ≡ 0) × (b ≡ 0)

-- a token of w bytes at the front of cs, a bytes before its text and b behind it, n characters
-- behind its first: how many characters it takes
pub record Fit (t : TokenKind) (cs : List ℕ) (w a b n : ℕ) : Type 0 where
  -- characters up to its end, before its text, up to its text's end
  pub last : ℕ
  pub first : ℕ
  pub stop : ℕ
  pub width : w ≡ sizes (take last cs)
  pub before : a ≡ sizes (take first cs)
  pub behind : w - b ≡ sizes (take stop cs)
  pub order : first ≤ stop
  pub short : b ≤ w
  pub within : last ≤ suc n
  pub says : Says t (take (stop - first) (drop first cs))
  pub good : Good t
  pub sides : Sides t a b

abbrev pub Fits : List ℕ → Step → Type 0
Fits cs gap = Unit {0}
Fits cs (tok t w a b n) = Fit t cs w a b n

-- ---- a token whose text is all of it
whole : (t : TokenKind) (cs : List ℕ) (w k n : ℕ) → w ≡ sizes (take k cs) → k ≤ suc n → Says t (take k cs) → Good t → Sides t 0 0 → Fit t cs w 0 0 n
unfolding sizes
whole t cs w k n e h s g d =
    let z : k - 0 ≡ k = omega arith in
    record { last = k; first = 0; stop = k; width = e; before = refl; behind = omega arith; order = omega arith; short = omega arith; within = h; says = rw z s; good = g; sides = d }

run_fits : (t : TokenKind) (f : ℕ → Bool) (c : ℕ) (r : List ℕ) → Says t (c ∷ run f r) → Good t → Sides t 0 0
    → Fit t (c ∷ r) (size c + sizes (run f r)) 0 0 (length (run f r))
unfolding sizes
run_fits t f c r s g d =
    let p : take (suc (length (run f r))) (c ∷ r) ≡ c ∷ run f r = ap (λ (l : List ℕ). c ∷ l) (run_prefix f r) in
    whole t (c ∷ r) (size c + sizes (run f r)) (suc (length (run f r))) (length (run f r)) (sym (ap sizes p)) (omega arith) (rw p s) g d

one_fits : (t : TokenKind) (c : ℕ) (r : List ℕ) (w : ℕ) → w ≡ size c → Says t (c ∷ []) → Good t → Sides t 0 0 → Fit t (c ∷ r) w 0 0 0
unfolding sizes
one_fits t c r w e s g d = whole t (c ∷ r) w 1 0 (omega arith) (omega arith) s g d

pub word_fits : (c : ℕ) (r : List ℕ) → Fits (c ∷ r) (word_step c r)
unfolding word_step
word_fits c r = run_fits (word (c ∷ run is_word_continue r)) is_word_continue c r refl tt (refl, refl)

run-digits : (r : List ℕ) → digits (run is_ascii_digit r) ≡ true
unfolding run
run-digits [] = refl
run-digits (c ∷ r) = by_test (is_ascii_digit c) (λ e. rw (run_true is_ascii_digit c r e) (rw e (run-digits r))) (λ e. rw (run_false is_ascii_digit c r e))

pub number_fits : (c : ℕ) (r : List ℕ) → is_ascii_digit c ≡ true → Fits (c ∷ r) (number_step c r)
unfolding number_step
number_fits c r e = run_fits (number (c ∷ run is_ascii_digit r)) is_ascii_digit c r refl (rw e (run-digits r)) (refl, refl)

-- ---- a quoted character
quoted_fits : (r : List ℕ) → Fits (0x27 ∷ r) (quoted_step r)
unfolding quoted_step size sizes
quoted_fits [] = one_fits unterminated_quote 0x27 [] 1 refl tt tt (refl, refl)
quoted_fits (x ∷ []) = one_fits unterminated_quote 0x27 (x ∷ []) 1 refl tt tt (refl, refl)
quoted_fits (x ∷ q ∷ r) =
    by_test (not (eqb x 10) && eqb q 0x27)
    (λ e.
    let p = eqb-true q 0x27 (and_both (not (eqb x 10)) (eqb q 0x27) e).1 in
    rw (e, quoted_step) (whole (quoted x) (0x27 ∷ x ∷ q ∷ r) (2 + size x) 3 2 (omega (arith, ap size p)) (omega arith) (ap (λ (y : ℕ). 0x27 ∷ x ∷ y ∷ []) p) tt (refl, refl)))
    (λ e. rw (e, quoted_step) (one_fits unterminated_quote 0x27 (x ∷ q ∷ r) 1 refl tt tt (refl, refl)))

-- ---- a string
-- a string behind its quote, k characters with the closing one: that one, and the same string with nothing behind it
record Close (b : Bool) (r v : List ℕ) (k : ℕ) : Type 0 where
  inner : ℕ
  count : k ≡ suc inner
  ended : take (suc inner) r ≡ take inner r ++ (0x22 ∷ [])
  alone : inside b (take (suc inner) r) ≡ closed v k

pass_inv : (x : Inside) (v : List ℕ) (k : ℕ) → pass x ≡ closed v k → (j : ℕ) × (x ≡ closed v j) × (k ≡ suc j)
unfolding pass
pass_inv (closed u j) v k e = (j, cc, cc)
pass_inv unclosed v k e = let z : ◌≡◌ {A = ℕ} 0 1 = cc in absurd (omega arith)

put_inv : (c : ℕ) (x : Inside) (v : List ℕ) (k : ℕ) → put c x ≡ closed v k → (u : List ℕ) × (x ≡ closed u k) × (v ≡ c ∷ u)
unfolding put
put_inv c (closed u j) v k e = (u, cc, cc)
put_inv c unclosed v k e = let z : ◌≡◌ {A = ℕ} 0 1 = cc in absurd (omega arith)

not_closed : (x : Inside) (v : List ℕ) (k : ℕ) → x ≡ unclosed → x ≡ closed v k → ⊥
not_closed x v k p q = let z : ◌≡◌ {A = ℕ} 0 1 = cc in omega arith

-- a character in front of a string that goes on as f says
module _ (b' b : Bool) (c : ℕ) (f : Inside → Inside) (on : (m : List ℕ) → inside b (c ∷ m) ≡ f (inside b' m)) where
  close_more : (r v u : List ℕ) (k j : ℕ) → Close b' r u j → f (closed u j) ≡ closed v k → k ≡ suc j → Close b (c ∷ r) v k
  close_more r v u k j h e n = record {
    inner = suc h.inner;
    count = n ∙ ap suc h.count;
    ended = ap (λ (l : List ℕ). c ∷ l) h.ended;
    alone = on (take (suc h.inner) r) ∙ ap f h.alone ∙ e;
  }

inside-some : (c x : ℕ) (m : List ℕ) → escape c ≡ Some x → inside true (c ∷ m) ≡ put x (pass (inside false m))
unfolding inside
inside-some c x m e = rw (e, inside)

inside-none : (c : ℕ) (m : List ℕ) → escape c ≡ None → eqb c 10 ≡ false → inside true (c ∷ m) ≡ put 0x5C (put c (pass (inside false m)))
unfolding inside
inside-none c m e f = rw (e, inside) (rw f)

close : (b : Bool) (r v : List ℕ) (k : ℕ) → inside b r ≡ closed v k → Close b r v k
unfolding inside
close true [] v k e = absurd (not_closed unclosed v k refl e)
close false [] v k e = absurd (not_closed unclosed v k refl e)
close false (c ∷ r) v k e =
    by_test (eqb c 0x22)
    (λ q.
    let p = eqb-true c 0x22 q in
    let w : closed [] 1 ≡ closed v k = sym (inside_quote c r p) ∙ e in
    record { inner = 0; count = cc; ended = ap (λ (y : ℕ). y ∷ []) p; alone = inside_quote c [] p ∙ w })
    (λ q.
    by_test (eqb c 10)
    (λ f. absurd (not_closed (inside false (c ∷ r)) v k (rw (eqb-true c 10 f)) e))
    (λ f.
    by_test (eqb c 0x5C)
    (λ s.
    let on : (m : List ℕ) → inside false (c ∷ m) ≡ pass (inside true m) = λ (m : List ℕ). inside-slash c m (eqb-true c 0x5C s) in
    let w = pass_inv (inside true r) v k (sym (on r) ∙ e) in
    close_more true false c pass on r v v k w.0 (close true r v w.0 w.1) (ap pass (sym w.1) ∙ sym (on r) ∙ e) w.2)
    (λ s.
    let on : (m : List ℕ) → inside false (c ∷ m) ≡ put c (pass (inside false m)) = λ (m : List ℕ). inside-plain c m (eqb-false c 10 f) (eqb-false c 0x22 q) (eqb-false c 0x5C s) in
    let w = put_inv c (pass (inside false r)) v k (sym (on r) ∙ e) in
    let u = pass_inv (inside false r) w.0 k w.1 in
    close_more false false c (λ (x : Inside). put c (pass x)) on r v w.0 k u.0 (close false r w.0 u.0 u.1)
    (ap (λ (x : Inside). put c (pass x)) (sym u.1) ∙ sym (on r) ∙ e) u.2)))
close true (c ∷ r) v k e = go (escape c) refl (λ (u : List ℕ) (j : ℕ) (q : inside false r ≡ closed u j). close false r u j q)
  where
    go : (o : Option ℕ) → escape c ≡ o → ((u : List ℕ) (j : ℕ) → inside false r ≡ closed u j → Close false r u j) → Close true (c ∷ r) v k
    go (Some x) p ih =
        let on : (m : List ℕ) → inside true (c ∷ m) ≡ put x (pass (inside false m)) = λ (m : List ℕ). inside-some c x m p in
        let w = put_inv x (pass (inside false r)) v k (sym (on r) ∙ e) in
        let u = pass_inv (inside false r) w.0 k w.1 in
        close_more false true c (λ (y : Inside). put x (pass y)) on r v w.0 k u.0 (ih w.0 u.0 u.1)
        (ap (λ (y : Inside). put x (pass y)) (sym u.1) ∙ sym (on r) ∙ e) u.2
    go None p ih =
        by_test (eqb c 10)
        (λ f. absurd (not_closed (inside true (c ∷ r)) v k (rw (eqb-true c 10 f)) e))
        (λ f.
        let on : (m : List ℕ) → inside true (c ∷ m) ≡ put 0x5C (put c (pass (inside false m))) = λ (m : List ℕ). inside-none c m p f in
        let w = put_inv 0x5C (put c (pass (inside false r))) v k (sym (on r) ∙ e) in
        let x = put_inv c (pass (inside false r)) w.0 k w.1 in
        let u = pass_inv (inside false r) x.0 k x.1 in
        close_more false true c (λ (y : Inside). put 0x5C (put c (pass y))) on r v x.0 k u.0 (ih x.0 u.0 u.1)
        (ap (λ (y : Inside). put 0x5C (put c (pass y))) (sym u.1) ∙ sym (on r) ∙ e) u.2)

unescape_closed : (cs v : List ℕ) (k : ℕ) → inside false (cs ++ (0x22 ∷ [])) ≡ closed v k → unescape cs ≡ v
unfolding unescape
unescape_closed cs v k e = rw (e, unescape)

-- ---- a trimmed line
trim_front : (c : ℕ) (u r : List ℕ) → take (length u) r ≡ u → take (length (trim_cons c u)) (c ∷ r) ≡ trim_cons c u
unfolding trim_cons
trim_front c [] r e = by_test (is_whitespace c) (λ p. rw (p, trim_cons)) (λ p. rw (p, trim_cons))
trim_front c (d ∷ m) r e = ap (λ (l : List ℕ). c ∷ l) e

trim_prefix : (l : List ℕ) → take (length (trim_end l)) l ≡ trim_end l
unfolding trim_end
trim_prefix [] = refl
trim_prefix (c ∷ r) = trim_front c (trim_end r) r (trim_prefix r)

trim_short : (l : List ℕ) → length (trim_end l) ≤ length l
trim_short l = omega (arith, ap length (trim_prefix l), length-take (length (trim_end l)) l)

trimmed_prefix : (r : List ℕ) → take (length (trim_end (line r))) r ≡ trim_end (line r)
trimmed_prefix r =
    let m : ℕ = length (trim_end (line r)) in
    sym (take-take m (length (line r)) r (trim_short (line r))) ∙ ap (take m) (line_prefix r) ∙ trim_prefix (line r)

string_fits : (r : List ℕ) → Fits (0x22 ∷ r) (string_step r)
unfolding string_step sizes size
string_fits r = go (inside false r) refl
  where
    go : (x : Inside) → inside false r ≡ x → Fits (0x22 ∷ r) (string_step r)
    go (closed v n) e =
        let h = close false r v n e in
        let k : ℕ = h.inner in
        let p = h.count in
        let z : suc k - 1 ≡ k = omega arith in
        let q : sizes (take (suc k) r) ≡ sizes (take k r) + 1 = ap sizes h.ended ∙ sizes-append (take k r) (0x22 ∷ []) in
        let g : sizes (take n r) ≡ sizes (take (suc k) r) = ap (λ (j : ℕ). sizes (take j r)) p in
        rw (e, string_step)
        (record { last = suc n; first = 1; stop = suc k; width = refl; before = refl; behind = omega arith; order = omega arith; short = omega arith; within = omega arith; says = rw z (unescape_closed (take k r) v n (ap (inside false) (sym h.ended) ∙ h.alone)); good = tt; sides = (refl, refl) })
    go unclosed e =
        let m : ℕ = length (trim_end (line r)) in
        rw (e, string_step)
        (whole unterminated_string (0x22 ∷ r) (1 + sizes (trim_end (line r))) (suc m) (length (line r)) (omega (arith, ap sizes (trimmed_prefix r))) (omega (arith, trim_short (line r))) tt tt (refl, refl))

-- ---- a comment
-- a beginning t of r: its indent is that many bytes and characters, and its text stands behind them
record Indented (t r : List ℕ) : Type 0 where
  bytes : indent t ≡ sizes (take (indent t) r)
  text : take (length t - indent t) (drop (indent t) r) ≡ comment_text t
  fits : indent t ≤ length t

space_size : size 0x20 ≡ 1
unfolding size
space_size = refl

indented : (t r : List ℕ) → take (length t) r ≡ t → Indented t r
unfolding indent comment_text sizes
indented [] r e = record { bytes = refl; text = refl; fits = omega arith }
indented (x ∷ m) [] e = let z : ◌≡◌ {A = ℕ} 0 1 = cc in absurd (omega arith)
indented (x ∷ m) (y ∷ r) e =
    let p : y ≡ x = cc in
    let q : take (length m) r ≡ m = cc in
    by_test (eqb x 0x20)
    (λ s.
    let z : suc (length m) - 1 ≡ length m = omega arith in
    let o : indent (x ∷ m) ≡ 1 = rw (s, indent) in
    let u : comment_text (x ∷ m) ≡ m = rw (s, comment_text) in
    record { bytes = rw o (omega (arith, ap size (p ∙ eqb-true x 0x20 s), space_size)); text = rw (o, u, z) q; fits = rw o (omega arith) })
    (λ s.
    let z : suc (length m) - 0 ≡ suc (length m) = omega arith in
    let o : indent (x ∷ m) ≡ 0 = rw (s, indent) in
    let u : comment_text (x ∷ m) ≡ x ∷ m = rw (s, comment_text) in
    record { bytes = rw o; text = rw (o, u, z) e; fits = rw o (omega arith) })

comment_fits : (r : List ℕ) → Fits (0x2F ∷ 0x2F ∷ r) (comment_step r)
unfolding comment_step sizes size
comment_fits r =
    let t : List ℕ = trim_end (line r) in
    let h = indented t r (trimmed_prefix r) in
    let z : suc (suc (length t)) - suc (suc (indent t)) ≡ length t - indent t = omega arith in
    let q : sizes (take (length t) r) ≡ sizes t = ap sizes (trimmed_prefix r) in
    let o : 2 + indent t ≡ suc (suc (indent t)) = omega arith in
    record {
      last = suc (suc (length t));
      first = suc (suc (indent t));
      stop = suc (suc (length t));
      width = omega arith;
      before = omega (arith, h.bytes);
      behind = omega arith;
      order = omega (arith, h.fits);
      short = omega arith;
      within = omega (arith, trim_short (line r));
      says = rw z h.text;
      good = tt;
      sides = refl;
    }

slash_fits : (r : List ℕ) → Fits (0x2F ∷ r) (slash_step r)
unfolding slash_step size
slash_fits [] = one_fits (sign 0x2F) 0x2F [] 1 refl refl tt (refl, refl)
slash_fits (d ∷ r) =
    by_test (eqb d 0x2F)
    (λ e. rw (e, slash_step) (subst (λ (x : ℕ). Fits (0x2F ∷ x ∷ r) (comment_step r)) (sym (eqb-true d 0x2F e)) (comment_fits r)))
    (λ e. rw (e, slash_step) (one_fits (sign 0x2F) 0x2F (d ∷ r) 1 refl refl tt (refl, refl)))

sign_fits : (c : ℕ) (r : List ℕ) → Fits (c ∷ r) (tok (sign c) (size c) 0 0 0)
sign_fits c r = one_fits (sign c) c r (size c) refl refl tt (refl, refl)

other_fits : (c : ℕ) (r : List ℕ) → Fits (c ∷ r) (other_step c r)
unfolding other_step
other_fits c r =
    by_test (eqb c 0x5F) (λ e. rw (e, other_step) (word_fits c r)) λ n.
    by_test (eqb c 0x22) (λ e. rw (n, other_step) (rw e (at_code 0x22 (string_step r) e (string_fits r)))) λ m.
    by_test (eqb c 0x27) (λ e. rw (n, other_step) (rw (m, e) (at_code 0x27 (quoted_step r) e (quoted_fits r)))) λ k.
    by_test (eqb c 0x2F) (λ e. rw (n, other_step) (rw (m, k, e) (at_code 0x2F (slash_step r) e (slash_fits r)))) λ j.
    rw (n, other_step) (rw (m, k, j) (sign_fits c r))
  where
    at_code : (d : ℕ) (s : Step) → eqb c d ≡ true → Fits (d ∷ r) s → Fits (c ∷ r) s
    at_code d s e h = subst (λ (x : ℕ). Fits (x ∷ r) s) (sym (eqb-true c d e)) h

class_fits : (x : Class) (c : ℕ) (r : List ℕ) → class_of c ≡ x → Fits (c ∷ r) (by_class x c r)
unfolding is_ascii_digit
class_fits Space c r e = tt
class_fits Letter c r e = word_fits c r
class_fits Digit c r e = number_fits c r (ap is_digit e)
class_fits Sign c r e = sign_fits c r
class_fits Other c r e = other_fits c r

-- every step fits
pub step_fits : (c : ℕ) (r : List ℕ) → Fits (c ∷ r) (step c r)
unfolding step size
step_fits c r =
    by_test (eqb c 10)
    (λ e. rw (e, step) (one_fits newline c r 1 (sym (ap size (eqb-true c 10 e))) tt tt (refl, refl)))
    (λ e. subst (Fits (c ∷ r)) (sym (step_class c r (eqb-false c 10 e) (class_of c) refl)) (class_fits (class_of c) c r refl))
