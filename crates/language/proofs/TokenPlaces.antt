-- The characters at a token's place are its value: each step of the lexer takes its token from the front of what is left.
use Prim.Native.Nat.{ℕ, zero, suc, ◌+◌, ◌-◌}
use native.Mathlib.Omega.{arith}
use mathlib.Core.Bool.{Bool, true, false, ◌&&◌, not}
use mathlib.Core.List.{List, [], ◌∷◌, ◌++◌, append_assoc}
use Rattle.std.specs.Prelude.{Option, None, Some}
use mathlib.Core.Path.{◌≡◌, refl, ap, ◌∙◌, sym}
use borrow.Author.Tests.{eqb-true}
use lib.Dec.{eqb}
use lib.ListN.{length, take, drop, length-append}
use lib.Seq.{take_at, drop_at}
use Rattle.chars.specs.Utf8.{scalar, size, sizes, encode, decode}
use Rattle.chars.specs.Decoded.{scalars}
use Rattle.chars.specs.Class.{class_of}
use Rattle.chars.specs.declared.Class.{Class}
use Rattle.chars.specs.declared.Class.TheVariants.{Letter, Digit, Space, Sign, Other}
use Rattle.chars.proofs.Theorems.{encode-append, decode-encode, length-encode, sizes-append}
use Rattle.lexer.specs.Tokens.{TokenKind, word, number, quoted, str, sign, comment, newline, unterminated_string, unterminated_quote, Span, span, Token, run, line, trim_cons, trim_end, is_whitespace, indent, comment_text, escape, Inner, ends, breaks, escapes, stands, inner_of, Inside, closed, unclosed, put, pass, inside, unescape, Step, gap, tok, word_step, number_step, string_step, quoted_step, slash_step, other_step, step, emit, tokens_from, tokens, is_word_continue, is_ascii_digit}
use Rattle.language.specs.Agreement.{characters_at}
use Rattle.language.proofs.Every.{by_test, Every, and_left, and_right, and_both}

-- ---- places

-- the characters w stand in cs at the place p
pub record Stands (cs : List ℕ) (p : Span) (w : List ℕ) : Type 0 where
  pub before : List ℕ
  pub behind : List ℕ
  pub parts : cs ≡ before ++ (w ++ behind)
  pub start_is : p.start ≡ sizes before
  pub end_is : p.end ≡ sizes before + sizes w

scalars_middle : (a w b : List ℕ) → scalars (a ++ (w ++ b)) ≡ true → scalars w ≡ true
unfolding scalars
scalars_middle [] [] b h = refl
scalars_middle [] (c ∷ w) b h = and_both (scalar c) (scalars w) (and_left (scalar c) (scalars (w ++ b)) h) (scalars_middle [] w b (and_right (scalar c) (scalars (w ++ b)) h))
scalars_middle (c ∷ a) w b h = scalars_middle a w b (and_right (scalar c) (scalars (a ++ (w ++ b))) h)

-- the bytes at the place are theirs
pub stands_bytes : (cs : List ℕ) (p : Span) (w : List ℕ) → Stands cs p w → take (p.end - p.start) (drop p.start (encode cs)) ≡ encode w
stands_bytes cs p w h =
    let e : encode cs ≡ encode h.before ++ (encode w ++ encode h.behind) = ap encode h.parts ∙ encode-append h.before (w ++ h.behind) ∙ ap (λ l. encode h.before ++ l) (encode-append w h.behind) in
    let d : drop p.start (encode cs) ≡ encode w ++ encode h.behind = ap (drop p.start) e ∙ drop_at (encode h.before) (encode w ++ encode h.behind) p.start (length-encode h.before ∙ sym h.start_is) in
    let n : length (encode w) ≡ p.end - p.start = omega (arith, length-encode w, h.start_is, h.end_is) in
    ap (take (p.end - p.start)) d ∙ take_at (encode w) (encode h.behind) (p.end - p.start) n

-- and decode to them
pub stands_at : (cs : List ℕ) (p : Span) (w : List ℕ) → scalars cs ≡ true → Stands cs p w → characters_at (encode cs) p ≡ w
unfolding characters_at
stands_at cs p w s h = ap decode (stands_bytes cs p w h) ∙ decode-encode w (scalars_middle h.before w h.behind (ap scalars (sym h.parts) ∙ s))

-- ---- the front of a list

-- l begins with w
abbrev Front : List ℕ → List ℕ → Type 0
Front l w = (rest : List ℕ) × (l ≡ w ++ rest)

run-front : (test : ℕ → Bool) (l : List ℕ) → Front l (run test l)
unfolding run
run-front test [] = ([], refl)
run-front test (c ∷ r) =
    let f : Front r (run test r) = run-front test r in
    by_test (test c) (λ e. rw (e, run) (f.0, ap (λ l. c ∷ l) f.1)) (λ e. rw (e, run) (c ∷ r, refl))

line-front : (l : List ℕ) → Front l (line l)
unfolding line
line-front [] = ([], refl)
line-front (c ∷ r) =
    let f : Front r (line r) = line-front r in
    by_test (eqb c 10) (λ e. rw (e, line) (c ∷ r, refl)) (λ e. rw (e, line) (f.0, ap (λ l. c ∷ l) f.1))

cons-front : (c : ℕ) (r t : List ℕ) → Front r t → Front (c ∷ r) (trim_cons c t)
unfolding trim_cons
cons-front c r [] f = by_test (is_whitespace c) (λ e. rw (e, trim_cons) (c ∷ r, refl)) (λ e. rw (e, trim_cons) (r, refl))
cons-front c r (d ∷ u) f = (f.0, ap (λ l. c ∷ l) f.1)

trim_front : (l : List ℕ) → Front l (trim_end l)
unfolding trim_end
trim_front [] = ([], refl)
trim_front (c ∷ r) = cons-front c r (trim_end r) (trim_front r)

front_trans : (l m n : List ℕ) → Front l m → Front m n → Front l n
front_trans l m n f g = (g.0 ++ f.0, f.1 ∙ ap (λ x. x ++ f.0) g.1 ∙ append_assoc n g.0 f.0)

-- ---- strings

-- the quote behind `raw` closes it, and its value is v
abbrev pub Encloses : List ℕ → List ℕ → Type 0
Encloses raw v = inside false (raw ++ 0x22 ∷ []) ≡ closed v (suc (length raw))

-- then v is what the escapes of `raw` stand for
pub encloses_value : (raw v : List ℕ) → Encloses raw v → unescape raw ≡ v
unfolding unescape
encloses_value raw v e = rw (e, unescape)

-- what follows a string's quote closes with a quote behind `raw`, whatever stands behind that
record Closes (b : Bool) (r v : List ℕ) (n : ℕ) : Type 0 where
  raw : List ℕ
  rest : List ℕ
  split : r ≡ raw ++ 0x22 ∷ rest
  taken : n ≡ suc (length raw)
  again : (more : List ℕ) → inside b (raw ++ 0x22 ∷ more) ≡ closed v n

abbrev Closing : Bool → List ℕ → Inside → Type 0
Closing b r (closed v n) = Closes b r v n
Closing b r unclosed = Unit {0}

ends_quote : (c : ℕ) → inner_of c ≡ ends → c ≡ 0x22
unfolding inner_of
ends_quote c e = by_test (eqb c 0x22) (λ h. eqb-true c 0x22 h) (λ h. absurd (not_ends (eqb c 10) (eqb c 0x5C) (rw (h, inner_of) at e)))
  where
    not_ends : (a b : Bool) → elim a [ true ↦ breaks | false ↦ elim b [ true ↦ escapes | false ↦ stands ] ] ≡ ends → ⊥
    not_ends true b q = let z : ◌≡◌ {A = ℕ} 0 1 = cc in omega arith
    not_ends false true q = let z : ◌≡◌ {A = ℕ} 0 1 = cc in omega arith
    not_ends false false q = let z : ◌≡◌ {A = ℕ} 0 1 = cc in omega arith

escape_closing : (c : ℕ) (r : List ℕ) (x : Inside) → inner_of c ≡ escapes → Closing true r x → Closing false (c ∷ r) (pass x)
unfolding pass inside
escape_closing c r unclosed e h = tt
escape_closing c r (closed v n) e h = record {
  raw = c ∷ h.raw;
  rest = h.rest;
  split = ap (λ l. c ∷ l) h.split;
  taken = ap suc h.taken;
  again = λ more. rw (e, inside) (ap pass (h.again more));
}

stand_closing : (c : ℕ) (r : List ℕ) (x : Inside) → inner_of c ≡ stands → Closing false r x → Closing false (c ∷ r) (put c (pass x))
unfolding put pass inside
stand_closing c r unclosed e h = tt
stand_closing c r (closed v n) e h = record {
  raw = c ∷ h.raw;
  rest = h.rest;
  split = ap (λ l. c ∷ l) h.split;
  taken = ap suc h.taken;
  again = λ more. rw (e, inside) (ap (λ i. put c (pass i)) (h.again more));
}

escaped_closing : (d u : ℕ) (r : List ℕ) (x : Inside) → escape d ≡ Some u → Closing false r x → Closing true (d ∷ r) (put u (pass x))
unfolding put pass inside
escaped_closing d u r unclosed e h = tt
escaped_closing d u r (closed v n) e h = record {
  raw = d ∷ h.raw;
  rest = h.rest;
  split = ap (λ l. d ∷ l) h.split;
  taken = ap suc h.taken;
  again = λ more. rw (e, inside) (ap (λ i. put u (pass i)) (h.again more));
}

plain_closing : (d : ℕ) (r : List ℕ) (x : Inside) → escape d ≡ None → eqb d 10 ≡ false → Closing false r x → Closing true (d ∷ r) (put 0x5C (put d (pass x)))
unfolding put pass inside
plain_closing d r unclosed e f h = tt
plain_closing d r (closed v n) e f h = record {
  raw = d ∷ h.raw;
  rest = h.rest;
  split = ap (λ l. d ∷ l) h.split;
  taken = ap suc h.taken;
  again = λ more. rw (e, f, inside) (ap (λ i. put 0x5C (put d (pass i))) (h.again more));
}

by_inner : {X : Type 0} (i : Inner) → (i ≡ ends → X) → (i ≡ breaks → X) → (i ≡ escapes → X) → (i ≡ stands → X) → X
by_inner ends a b c d = a refl
by_inner breaks a b c d = b refl
by_inner escapes a b c d = c refl
by_inner stands a b c d = d refl

by_option : {A X : Type 0} (o : Option A) → ((a : A) → o ≡ Some a → X) → (o ≡ None → X) → X
by_option None f g = g refl
by_option (Some a) f g = f a refl

closes : (b : Bool) (r : List ℕ) → Closing b r (inside b r)
unfolding inside
closes true [] = tt
closes false [] = tt
closes false (c ∷ r) =
    let h : Closing false r (inside false r) = closes false r in
    let k : Closing true r (inside true r) = closes true r in
    by_inner (inner_of c)
    (λ e. rw (e, inside) (record { raw = []; rest = r; split = ap (λ x. x ∷ r) (ends_quote c e); taken = refl; again = λ more. refl }))
    (λ e. rw (e, inside) tt)
    (λ e. rw (e, inside) (escape_closing c r (inside true r) e k))
    (λ e. rw (e, inside) (stand_closing c r (inside false r) e h))
closes true (d ∷ r) =
    let h : Closing false r (inside false r) = closes false r in
    by_option (escape d)
    (λ u e. rw (e, inside) (escaped_closing d u r (inside false r) e h))
    (λ e. by_test (eqb d 10) (λ f. rw (e, f, inside) tt) (λ f. rw (e, f, inside) (plain_closing d r (inside false r) e f h)))

-- ---- steps

-- the characters raw stand in l behind a bytes, b bytes before the end of w bytes
record Within (l raw : List ℕ) (w a b : ℕ) : Type 0 where
  pre : List ℕ
  post : List ℕ
  split : l ≡ pre ++ (raw ++ post)
  a_is : a ≡ sizes pre
  w_is : w ≡ sizes pre + sizes raw + b

-- what a token of so many bytes says of the list that it is taken from
abbrev FitsKind : List ℕ → TokenKind → ℕ → ℕ → ℕ → Type 0
FitsKind l (word x) w a b = Within l x w 0 0
FitsKind l (number x) w a b = Within l x w 0 0
FitsKind l (comment s) w a b = Within l s w a b
FitsKind l (str v) w a b = (raw : List ℕ) × Encloses raw v × Within l raw w a b
FitsKind l (quoted c) w a b = Unit {0}
FitsKind l (sign c) w a b = Unit {0}
FitsKind l newline w a b = Unit {0}
FitsKind l unterminated_string w a b = Unit {0}
FitsKind l unterminated_quote w a b = Unit {0}

abbrev FitsStep : List ℕ → Step → Type 0
FitsStep l gap = Unit {0}
FitsStep l (tok k w a b n) = FitsKind l k w a b

run_fits : (test : ℕ → Bool) (c : ℕ) (r : List ℕ) → Within (c ∷ r) (c ∷ run test r) (size c + sizes (run test r)) 0 0
unfolding sizes
run_fits test c r = let f : Front r (run test r) = run-front test r in record { pre = []; post = f.0; split = ap (λ l. c ∷ l) f.1; a_is = refl; w_is = omega arith }

word_fits : (c : ℕ) (r : List ℕ) → FitsStep (c ∷ r) (word_step c r)
unfolding word_step
word_fits c r = run_fits is_word_continue c r

number_fits : (c : ℕ) (r : List ℕ) → FitsStep (c ∷ r) (number_step c r)
unfolding number_step
number_fits c r = run_fits is_ascii_digit c r

-- a string behind its quote
string_closed : (c : ℕ) (r : List ℕ) (v : List ℕ) (n : ℕ) → size c ≡ 1 → Closes false r v n → FitsStep (c ∷ r) (tok (str v) (1 + sizes (take n r)) 1 1 n)
unfolding sizes
string_closed c r v n one h =
    let back : take n r ≡ h.raw ++ 0x22 ∷ [] = ap (take n) (h.split ∙ sym (append_assoc h.raw (0x22 ∷ []) h.rest)) ∙ take_at (h.raw ++ 0x22 ∷ []) h.rest n (length-append h.raw (0x22 ∷ []) ∙ omega (arith, h.taken)) in (
      h.raw,
      h.again [] ∙ ap (closed v) h.taken,
      record {
        pre = c ∷ [];
        post = 0x22 ∷ h.rest;
        split = ap (λ l. c ∷ l) h.split;
        a_is = omega (arith, one);
        w_is = rw (back, sizes-append h.raw (0x22 ∷ [])) (omega (arith, one));
      },
    )

string_fits : (c : ℕ) (r : List ℕ) → size c ≡ 1 → FitsStep (c ∷ r) (string_step r)
unfolding string_step
string_fits c r one = go (inside false r) refl (closes false r)
  where
    go : (i : Inside) → inside false r ≡ i → Closing false r i → FitsStep (c ∷ r) (string_step r)
    go (closed v n) e h = rw (e, string_step) (string_closed c r v n one h)
    go unclosed e h = rw (e, string_step) tt

quoted_fits : (c : ℕ) (r : List ℕ) → FitsStep (c ∷ r) (quoted_step r)
unfolding quoted_step
quoted_fits c [] = tt
quoted_fits c (x ∷ []) = tt
quoted_fits c (x ∷ q ∷ r) = by_test (not (eqb x 10) && eqb q 0x27) (λ e. rw (e, quoted_step) tt) (λ e. rw (e, quoted_step) tt)

-- a comment's text behind its slashes and one space
indent_split : (t : List ℕ) → (pre : List ℕ) × (t ≡ pre ++ comment_text t) × (sizes pre ≡ indent t)
unfolding comment_text indent sizes
indent_split [] = ([], refl, refl)
indent_split (c ∷ r) = by_test (eqb c 0x20)
    (λ e. rw (e, comment_text, indent) (c ∷ [], refl, rw (eqb-true c 0x20 e) refl))
    (λ e. rw (e, comment_text, indent) ([], refl, refl))

comment_fits : (c d : ℕ) (r : List ℕ) (n : ℕ) → size c ≡ 1 → size d ≡ 1 → (let t : List ℕ = trim_end (line r) in FitsStep (c ∷ d ∷ r) (tok (comment (comment_text t)) (2 + sizes t) (2 + indent t) 0 n))
unfolding sizes
comment_fits c d r n one two =
    let t : List ℕ = trim_end (line r) in
    let f : Front r t = front_trans r (line r) t (line-front r) (trim_front (line r)) in
    let i : (pre : List ℕ) × (t ≡ pre ++ comment_text t) × (sizes pre ≡ indent t) = indent_split t in
    record {
      pre = c ∷ d ∷ i.0;
      post = f.0;
      split = ap (λ l. c ∷ d ∷ l) (f.1 ∙ ap (λ x. x ++ f.0) i.1 ∙ append_assoc i.0 (comment_text t) f.0);
      a_is = omega (arith, one, two, i.2);
      w_is = omega (arith, one, two, i.2, ap sizes i.1, sizes-append i.0 (comment_text t));
    }

slash_fits : (c : ℕ) (r : List ℕ) → size c ≡ 1 → FitsStep (c ∷ r) (slash_step r)
unfolding slash_step
slash_fits c [] one = tt
slash_fits c (d ∷ r) one = by_test (eqb d 0x2F)
    (λ e. rw (e, slash_step) (comment_fits c d r (suc (length (line r))) one (rw (eqb-true d 0x2F e) refl)))
    (λ e. rw (e, slash_step) tt)

other_fits : (c : ℕ) (r : List ℕ) → FitsStep (c ∷ r) (other_step c r)
unfolding other_step size
other_fits c r = by_test (eqb c 0x5F)
    (λ e. rw (e, other_step) (word_fits c r))
    (λ e. by_test (eqb c 0x22)
    (λ f. rw (e, f, other_step) (string_fits c r (rw (eqb-true c 0x22 f) refl)))
    (λ f. by_test (eqb c 0x27)
    (λ g. rw (e, f, g, other_step) (quoted_fits c r))
    (λ g. by_test (eqb c 0x2F)
    (λ h. rw (e, f, g, h, other_step) (slash_fits c r (rw (eqb-true c 0x2F h) refl)))
    (λ h. rw (e, f, g, h, other_step) tt))))

class_fits : (k : Class) (c : ℕ) (r : List ℕ) → FitsStep (c ∷ r) (elim k [
  | Space ↦ gap
  | Letter ↦ word_step c r
  | Digit ↦ number_step c r
  | Sign ↦ tok (sign c) (size c) 0 0 0
  | Other ↦ other_step c r
])
class_fits Space c r = tt
class_fits Letter c r = word_fits c r
class_fits Digit c r = number_fits c r
class_fits Sign c r = tt
class_fits Other c r = other_fits c r

step_fits : (c : ℕ) (r : List ℕ) → FitsStep (c ∷ r) (step c r)
unfolding step
step_fits c r = by_test (eqb c 10) (λ e. rw (e, step) tt) (λ e. rw (e, step) (class_fits (class_of c) c r))

-- ---- tokens

-- the characters at a token's place, or at its text's, are its value
abbrev pub Placed : List ℕ → Token Span → Type 0
Placed cs t = elim t.kind [
  | word w ↦ Stands cs t.place w
  | number w ↦ Stands cs t.place w
  | comment s ↦ Stands cs t.inner s
  | str v ↦ (raw : List ℕ) × Encloses raw v × Stands cs t.inner raw
  | quoted c ↦ Unit {0}
  | sign c ↦ Unit {0}
  | newline ↦ Unit {0}
  | unterminated_string ↦ Unit {0}
  | unterminated_quote ↦ Unit {0}
]

-- `pre` stands before the list l that is left, at the place o
module _ (cs pre l : List ℕ) (o : ℕ) (split : cs ≡ pre ++ l) (at : o ≡ sizes pre) where
  inner_stands : (raw : List ℕ) (w a b : ℕ) → Within l raw w a b → Stands cs (span (o + a) (o + w - b)) raw
  inner_stands raw w a b h = record {
    before = pre ++ h.pre;
    behind = h.post;
    parts = split ∙ ap (λ x. pre ++ x) h.split ∙ sym (append_assoc pre h.pre (raw ++ h.post));
    start_is = omega (arith, at, h.a_is, sizes-append pre h.pre);
    end_is = omega (arith, at, h.w_is, sizes-append pre h.pre);
  }

  whole_stands : (raw : List ℕ) (w : ℕ) → Within l raw w 0 0 → Stands cs (span o (o + w)) raw
  whole_stands raw w h = record {
    before = pre ++ h.pre;
    behind = h.post;
    parts = split ∙ ap (λ x. pre ++ x) h.split ∙ sym (append_assoc pre h.pre (raw ++ h.post));
    start_is = omega (arith, at, h.a_is, sizes-append pre h.pre);
    end_is = omega (arith, at, h.a_is, h.w_is, sizes-append pre h.pre);
  }

  placed : (k : TokenKind) (w a b : ℕ) → FitsKind l k w a b → Placed cs (record { kind = k; place = span o (o + w); inner = span (o + a) (o + w - b) })
  placed (word x) w a b h = whole_stands x w h
  placed (number x) w a b h = whole_stands x w h
  placed (comment s) w a b h = inner_stands s w a b h
  placed (str v) w a b h = (h.0, h.1, inner_stands h.0 w a b h.2)
  placed (quoted c) w a b h = tt
  placed (sign c) w a b h = tt
  placed newline w a b h = tt
  placed unterminated_string w a b h = tt
  placed unterminated_quote w a b h = tt

  emit_placed : (s : Step) (next : ℕ → List (Token Span)) → FitsStep l s → ((n : ℕ) → Every (Placed cs) (next n)) → Every (Placed cs) (emit o s next)
  unfolding emit
  emit_placed gap next h e = e 0
  emit_placed (tok k w a b n) next h e = (placed k w a b h, e n)

next-at : (pre : List ℕ) (c o : ℕ) → o ≡ sizes pre → o + size c ≡ sizes (pre ++ c ∷ [])
unfolding sizes
next-at pre c o e = omega (arith, e, sizes-append pre (c ∷ []))

from_placed : (cs pre l : List ℕ) (o k : ℕ) → cs ≡ pre ++ l → o ≡ sizes pre → Every (Placed cs) (tokens_from k o l)
unfolding tokens_from
from_placed cs pre [] o k split at = (tt, tt)
from_placed cs pre (c ∷ r) o (suc k) split at = from_placed cs (pre ++ c ∷ []) r (o + size c) k (split ∙ sym (append_assoc pre (c ∷ []) r)) (next-at pre c o at)
from_placed cs pre (c ∷ r) o zero split at =
    emit_placed cs pre (c ∷ r) o split at (step c r) (λ n. tokens_from n (o + size c) r) (step_fits c r)
    (λ n. from_placed cs (pre ++ c ∷ []) r (o + size c) n (split ∙ sym (append_assoc pre (c ∷ []) r)) (next-at pre c o at))

-- every token of a text stands at its place
pub tokens_placed : (cs : List ℕ) → Every (Placed cs) (tokens cs)
unfolding tokens
tokens_placed cs = from_placed cs [] cs 0 0 refl refl
