-- The lines over the row mean the lines of the language: a line's tokens end where the row's
-- line ends, and each line means what it says.
use mathlib.Core.Path.{◌≡◌, refl, sym, ap, subst, ◌∙◌}
use Prim.Native.Nat.{ℕ, zero, suc, ◌+◌, ◌≤◌, ◌<◌}
use native.Mathlib.Omega.{arith}
use mathlib.Core.Bool.{Bool, true, false}
use mathlib.Core.Logic.{inl, inr}
use mathlib.Core.List.{List, [], ◌∷◌, ◌++◌, map}
use lib.Dec.{eqb}
use lib.ListN.{length, drop, length-drop, length-map}
use lib.Seq.{drop-append-le, drop-drop}
use Rattle.lexer.specs.Tokens.{TokenKind, word, number, quoted, str, sign, comment, newline, unterminated_string, unterminated_quote, Span, Token}
use Rattle.lexer.specs.Words.{kind_number, token_words, flat}
use Rattle.language.specs.Lines.{Line, Ending, line_feed, goes_by, remark, ending_of, in_front, rows, line_from, line_of, lines, covering}
use Rattle.language.proofs.Every.{Every}
use Rattle.parser.specs.Row.{tokens_in}
use Rattle.parser.specs.Lines.{line, line_length, line_end}
use Rattle.parser.specs.Meaning.{token_of, Sound, Closed, AllLexed, LineAt}
use Rattle.tokens.specs.declared.Token.{Token as Words}
use Rattle.parser.proofs.Simulates.{Stops, Goes}
use Rattle.parser.proofs.ItemLines.{goes_kind, feed_kind, note_of, Means, line_means_lem}

-- the first line of some tokens: its own tokens, what ends them, and the tokens of the other
-- lines, `next` further than its line feed
record Cut (l : List (Token Span)) (junk : List Words) : Type 0 where
  body : List (Token Span)
  z : Token Span
  more : List (Token Span)
  rest : List (Token Span)
  next : ℕ
  whole : l ≡ body ++ (z ∷ more)
  sound : Every Sound body
  goes : Every Goes body
  ends : Stops z.kind
  closed : Closed (ending_of z.kind) more
  first : rows l ≡ record { body = body; stop = z.place; comment = note_of (ending_of z.kind) z.inner } ∷ rows rest
  others : rest ≡ drop (suc next) l
  short : next < length l
  counts : line_length (map token_of l ++ junk) ≡ next

remark_kind : (k : TokenKind) (s : List ℕ) → ending_of k ≡ remark s → k ≡ comment s
unfolding ending_of
remark_kind (comment t) s e = let q : t ≡ s = cc in ap comment q
remark_kind newline s e = absurd (let z : ◌≡◌ {A = ℕ} 0 1 = cc in omega arith)
remark_kind (word w) s e = absurd (let z : ◌≡◌ {A = ℕ} 0 1 = cc in omega arith)
remark_kind (number w) s e = absurd (let z : ◌≡◌ {A = ℕ} 0 1 = cc in omega arith)
remark_kind (quoted c) s e = absurd (let z : ◌≡◌ {A = ℕ} 0 1 = cc in omega arith)
remark_kind (str t) s e = absurd (let z : ◌≡◌ {A = ℕ} 0 1 = cc in omega arith)
remark_kind (sign c) s e = absurd (let z : ◌≡◌ {A = ℕ} 0 1 = cc in omega arith)
remark_kind unterminated_string s e = absurd (let z : ◌≡◌ {A = ℕ} 0 1 = cc in omega arith)
remark_kind unterminated_quote s e = absurd (let z : ◌≡◌ {A = ℕ} 0 1 = cc in omega arith)

-- a token in front of a row
counts_feed : (t : Token Span) (r : List Words) → t.kind ≡ newline → line_length (token_of t ∷ r) ≡ 0
unfolding line_length token_of kind_number
counts_feed t r e = ap (λ (k : TokenKind). elim (eqb (kind_number k) 13) [ true ↦ 0 | false ↦ suc (line_length r) ]) e

counts-on : (t : Token Span) (r : List Words) → eqb (kind_number t.kind) 13 ≡ false → line_length (token_of t ∷ r) ≡ suc (line_length r)
unfolding line_length token_of kind_number
counts-on t r e = ap (λ (b : Bool). elim b [ true ↦ 0 | false ↦ suc (line_length r) ]) e

cut : (l : List (Token Span)) (junk : List Words) → AllLexed l → 1 ≤ length l → Cut l junk
unfolding rows in_front kind_number
cut [] junk a h = absurd (omega arith)
cut (t ∷ l) junk a h = by (λ h. cut l junk a.1 h) (ending_of t.kind) refl
  where
    by : (1 ≤ length l → Cut l junk) → (e : Ending) → ending_of t.kind ≡ e → Cut (t ∷ l) junk
    by onward line_feed e = record {
      body = [];
      z = t;
      more = l;
      rest = l;
      next = 0;
      whole = refl;
      sound = tt;
      goes = tt;
      ends = inl (feed_kind t.kind e);
      closed = a.0.closed;
      first = ap (λ (x : Ending). in_front x t (rows l)) e ∙ ap (λ (x : Ending). record { body = []; stop = t.place; comment = note_of x t.inner } ∷ rows l) (sym e);
      others = refl;
      short = omega arith;
      counts = counts_feed t (map token_of l ++ junk) (feed_kind t.kind e);
    }
    by onward goes_by e = goes_on l refl
      where
        goes_on : (m : List (Token Span)) → l ≡ m → Cut (t ∷ l) junk
        goes_on [] q = absurd (subst (λ (m : List (Token Span)). Closed goes_by m) q (subst (λ (x : Ending). Closed x l) e a.0.closed))
        goes_on (u ∷ m) q =
            let c : Cut l junk = onward (omega (arith, ap length q)) in
            record {
              body = t ∷ c.body;
              z = c.z;
              more = c.more;
              rest = c.rest;
              next = suc c.next;
              whole = ap (λ (x : List (Token Span)). t ∷ x) c.whole;
              sound = (a.0.sound, c.sound);
              goes = (e, c.goes);
              ends = c.ends;
              closed = c.closed;
              first = ap (λ (x : Ending). in_front x t (rows l)) e ∙ ap (in_front goes_by t) c.first;
              others = c.others;
              short = omega (arith, c.short);
              counts = counts-on t (map token_of l ++ junk) (goes_kind t.kind e).1 ∙ ap suc c.counts;
            }
    by onward (remark s) e = stops l refl (subst (λ (x : Ending). Closed x l) e a.0.closed)
      where
        stops : (m : List (Token Span)) → l ≡ m → Closed (remark s) m → Cut (t ∷ l) junk
        stops [] q c = absurd c
        stops (u ∷ m) q c =
            let k : t.kind ≡ comment s = remark_kind t.kind s e in
            let n : eqb (kind_number t.kind) 13 ≡ false = ap (λ (x : TokenKind). eqb (kind_number x) 13) k in
            record {
              body = [];
              z = t;
              more = l;
              rest = m;
              next = 1;
              whole = refl;
              sound = tt;
              goes = tt;
              ends = inr (s, k);
              closed = a.0.closed;
              first =
                  ap (λ (x : Ending). in_front x t (rows l)) e ∙
                  ap (λ (x : List (Token Span)). in_front (remark s) t (rows x)) q ∙
                  ap (λ (x : Ending). in_front (remark s) t (in_front x u (rows m))) c ∙
                  ap (λ (x : Ending). record { body = []; stop = t.place; comment = note_of x t.inner } ∷ rows m) (sym e);
              others = sym (ap (drop 1) q);
              short = omega (arith, ap length q);
              counts =
                  counts-on t (map token_of l ++ junk) n ∙
                  ap (λ (x : List (Token Span)). suc (line_length (map token_of x ++ junk))) q ∙ ap suc (counts_feed u (map token_of m ++ junk) (feed_kind u.kind c));
            }

all-behind : (i : ℕ) (l : List (Token Span)) → AllLexed l → AllLexed (drop i l)
all-behind zero l a = a
all-behind (suc i) [] a = tt
all-behind (suc i) (t ∷ l) a = all-behind i l a.1

drop-map : {A B : Type 0} (f : A → B) (i : ℕ) (l : List A) → drop i (map f l) ≡ map f (drop i l)
drop-map f zero l = refl
drop-map f (suc i) [] = refl
drop-map f (suc i) (x ∷ l) = drop-map f i l

-- the statement, for the tokens at the front of a row
pub line_at : (ts : List (Token Span)) (junk : List Words) (i : ℕ) → AllLexed ts → i < length ts → LineAt ts (map token_of ts ++ junk) i
unfolding lines line_of line_end
line_at ts junk i a h =
    let c : Cut (drop i ts) junk = cut (drop i ts) junk (all-behind i ts a) (omega (arith, length-drop i ts)) in
    let m : Means ts (line (map token_of ts ++ junk) i) (line_from covering c.body c.z.place (note_of (ending_of c.z.kind) c.z.inner)) =
    line_means_lem ts junk c.z c.more c.ends c.closed i c.body (record { here = c.whole; sound = c.sound; goes = c.goes }) in
    let d : drop i (map token_of ts ++ junk) ≡ map token_of (drop i ts) ++ junk =
    drop-append-le i (map token_of ts) junk (omega (arith, length-map ts token_of)) ∙ ap (λ (x : List Words). x ++ junk) (drop-map token_of i ts) in
    let n : line_length (drop i (map token_of ts ++ junk)) ≡ c.next = ap line_length d ∙ c.counts in
    let s : i + c.next + 1 ≡ i + suc c.next = omega arith in
    let o : drop (i + c.next + 1) ts ≡ c.rest = ap (λ (x : ℕ). drop x ts) s ∙ sym (drop-drop (suc c.next) i ts) ∙ sym c.others in
    record {
      means = ap (map (λ r. line_of covering r)) c.first ∙ rw (n, o) (ap (λ (x : Line Span). x ∷ lines covering c.rest) (sym m.same));
      counted = m.counted;
      within = rw n (omega (arith, c.short, length-drop i ts));
    }

-- ---- the row that the lexer writes
pub tokens-flat : (ts : List (Token Span)) (rest : List ℕ) → tokens_in (flat ts ++ rest) ≡ map token_of ts ++ tokens_in rest
unfolding flat token_words tokens_in token_of
tokens-flat [] rest = refl
tokens-flat (t ∷ ts) rest = ap (λ (x : List Words). token_of t ∷ x) (tokens-flat ts rest)

-- the statement, for the words that the lexer writes, whatever stands behind them
pub line-rule : (ts : List (Token Span)) (rest : List ℕ) (i : ℕ) → AllLexed ts → i < length ts → LineAt ts (tokens_in (flat ts ++ rest)) i
line-rule ts rest i a h = rw (tokens-flat ts rest) (line_at ts (tokens_in rest) i a h)
