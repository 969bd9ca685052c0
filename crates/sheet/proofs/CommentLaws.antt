-- Laws of the comments between two indices, and of what is pending.
use Rattle.std.proofs.Common.{◌≡◌, ℕ, zero, suc, ◌+◌, ◌-◌, ◌*◌, ◌^◌, ◌<◌, ◌≤◌, Bool, true, false, cond, eqb, List, [], ◌∷◌, ◌++◌, length, take, drop, sym, refl, ap, ◌∙◌, subst, append_assoc, add-one, arith, length-drop, drop_of_length-le, length-take, get_or-drop, drop-cons, le-ltb, lt-ltb, eq-eqb, ne_eqb, eqb-true, le-leb, w64, Fits, Option, None, Some}
use Rattle.std.specs.Prelude.{is_some, unwrap_or}
use native.Mathlib.Decide.{dec_lt}
use borrow.Author.Tests.{lt-leb}
use lib.ListN.{get_or-eq_default}
use lib.Seq.{take-nil}
use Rattle.diag.proofs.Cases.{by_test_lem}
use Rattle.tokens.specs.declared.Token.{Token}
use Rattle.tokens.specs.declared.Tokens.{Tokens}
use Rattle.tokens.specs.Listed.{tokens_of}
use Rattle.tokens.proofs.Rows.{length-rows}
use Rattle.parser.specs.Row.{ended, peek}
use Rattle.parser.specs.Lines.{line_length}
use Rattle.diag.specs.declared.Span.{Span}
use Rattle.language.specs.Layout.{flat, place_words}
use Rattle.language.proofs.Counts.{flat_append}
use Rattle.assembler.specs.Entries.{behind, entries}
use Rattle.assembler.specs.Feeds.{AllFed, Fed, CommentsLast}
use Rattle.assembler.proofs.Rows.{entries_at, entries-step, entries-end, fed_here, fed_on}
use Rattle.assembler.proofs.EntriesMean.{length_by}
use Rattle.sheet.specs.declared.comments.Pending.{Pending}
use Rattle.sheet.specs.Comments.{text_of, text_words, comments_in, between, next, nothing, passed, passed_all, begins, header_of, header_from, header, trailing}
use Rattle.sheet.specs.declared.put.Sheet.{Sheet}
use Rattle.sheet.specs.Puts.{Puts}
use Rattle.sheet.proofs.Puts.{puts_none, puts_as, ◌▹◌, Left, left_start, left_on, left_end, left_last}

-- ---- the tokens
pub many : (t : Tokens) → length (tokens_of t) ≡ t.count
many t = length-rows t.count t.words.now t.within

pub inside : (t : Tokens) (i : ℕ) → i < t.count → i < length (tokens_of t)
inside t i h = omega (arith, many t)

pub past : (t : Tokens) (i : ℕ) → t.count ≤ i → length (tokens_of t) ≤ i
past t i h = omega (arith, many t)

-- ---- one token
pub comments-one : (t : Token) → t.kind ≡ 12 → comments_in (t ∷ []) ≡ t ∷ []
unfolding comments_in
comments-one t h = rw (eq-eqb t.kind 12 h, comments_in)

pub comments_no : (t : Token) → (t.kind ≡ 12 → ⊥) → comments_in (t ∷ []) ≡ []
unfolding comments_in
comments_no t h = rw (ne_eqb t.kind 12 h, comments_in)

module _ (t : Token) (s : Sheet) where
  pub comment_put : (r : Sheet) (p : Span) → t.kind ≡ 12 → p ≡ text_of t → Puts (place_words p) s r → Puts (flat text_words (comments_in (t ∷ []))) s r
  unfolding flat
  comment_put r p h q u = puts_as (ap (flat text_words) (comments-one t h) ∙ ap place_words (sym q)) u

  pub comment-none : (t.kind ≡ 12 → ⊥) → Puts (flat text_words (comments_in (t ∷ []))) s s
  unfolding flat
  comment-none h = puts_as (ap (flat text_words) (comments_no t h)) (puts_none s)

-- ---- the comments between two indices
pub comments-append : (xs ys : List Token) → comments_in (xs ++ ys) ≡ comments_in xs ++ comments_in ys
unfolding comments_in
comments-append [] ys = refl
comments-append (t ∷ ts) ys = go (eqb t.kind 12) (comments-append ts ys)
  where
    go : (b : Bool) → comments_in (ts ++ ys) ≡ comments_in ts ++ comments_in ys
        → elim b [ true ↦ t ∷ comments_in (ts ++ ys) | false ↦ comments_in (ts ++ ys) ] ≡ elim b [ true ↦ t ∷ comments_in ts | false ↦ comments_in ts ] ++ comments_in ys
    go true e = ap (λ (l : List Token). t ∷ l) e
    go false e = e

module _ (ts : List Token) (i j : ℕ) where
  pub between_none : j ≤ i → between ts i j ≡ []
  unfolding between comments_in
  between_none h = let e : j - i ≡ 0 = omega arith in rw e

  -- past the row there is none
  between_past : length ts ≤ i → between ts i j ≡ []
  unfolding between comments_in
  between_past h = rw (drop_of_length-le ts {i = i} h, take-nil {A = Token} (j - i))

pub between-on : (ts : List Token) (i j : ℕ) → i < j → between ts i j ≡ comments_in (peek ts i ∷ []) ++ between ts (i + 1) j
unfolding between
between-on ts i j h = go (dec_lt i (length ts))
  where
    go : Dec (i < length ts) → between ts i j ≡ comments_in (peek ts i ∷ []) ++ between ts (i + 1) j
    go (yes q) =
        let e : j - i ≡ suc (j - (i + 1)) = omega arith in
        let f : drop i ts ≡ peek ts i ∷ drop (i + 1) ts = drop-cons ts i ended q ∙ ap (λ (k : ℕ). peek ts i ∷ drop k ts) (sym (add-one i)) in
        ap (λ (l : List Token). comments_in (take (j - i) l)) f ∙ ap (λ (k : ℕ). comments_in (take k (peek ts i ∷ drop (i + 1) ts))) e
        ∙ comments-append (peek ts i ∷ []) (take (j - (i + 1)) (drop (i + 1) ts))
    go (no q) =
        let past : peek ts i ≡ ended = get_or-eq_default ts ended {n = i} (omega arith) in
        between_past ts i j (omega arith) ∙ sym (ap (λ (t : Token). comments_in (t ∷ []) ++ between ts (i + 1) j) past ∙ between_past ts (i + 1) j (omega arith))

-- no more than there are tokens
comments_few : (l : List Token) → length (comments_in l) ≤ length l
unfolding comments_in
comments_few [] = omega arith
comments_few (t ∷ ts) = go (eqb t.kind 12) (comments_few ts)
  where
    go : (b : Bool) → length (comments_in ts) ≤ length ts → length {A = Token} (elim b [ true ↦ t ∷ comments_in ts | false ↦ comments_in ts ]) ≤ length (t ∷ ts)
    go true h = omega arith
    go false h = omega arith

pub between_few : (ts : List Token) (i j : ℕ) → length (between ts i j) ≤ length ts - i
unfolding between
between_few ts i j = omega (arith, comments_few (take (j - i) (drop i ts)), length-take (j - i) (drop i ts), length-drop i ts)

-- two words each
pub length_texts : (cs : List Token) → length (flat text_words cs) ≡ 2 * length cs
unfolding flat
length_texts [] = refl
length_texts (c ∷ cs) = omega (arith, length_texts cs)

-- the count has come to the index i
pub record Counting (ts : List Token) (from to n i : ℕ) : Type 0 where
  pub counted : n + length (between ts i to) ≡ length (between ts from to)

pub counting_start : (ts : List Token) (from to : ℕ) → Counting ts from to 0 from
counting_start ts from to = record { counted = omega arith }

module _ (ts : List Token) (from to n i : ℕ) (g : Counting ts from to n i) where
  module _ (t : Token) (h : i < to) (here : t ≡ peek ts i) where
    here-on : between ts i to ≡ comments_in (t ∷ []) ++ between ts (i + 1) to
    here-on = between-on ts i to h ∙ ap (λ (x : Token). comments_in (x ∷ []) ++ between ts (i + 1) to) (sym here)

    pub counting_on : t.kind ≡ 12 → Counting ts from to (n + 1) (i + 1)
    counting_on e = record { counted = omega (arith, g.counted, ap length (here-on ∙ ap (λ (l : List Token). l ++ between ts (i + 1) to) (comments-one t e))) }

    pub counting_over : (t.kind ≡ 12 → ⊥) → Counting ts from to n (i + 1)
    counting_over e = record { counted = omega (arith, g.counted, ap length (here-on ∙ ap (λ (l : List Token). l ++ between ts (i + 1) to) (comments_no t e))) }

    pub counting_fits : t.kind ≡ 12 → length ts < 2 ^ 64 → Fits w64 (n + 1)
    counting_fits e f = record { fits = omega (arith, (counting_on e).counted, between_few ts from to) }

  pub counted_all : to ≤ i → n ≡ length (between ts from to)
  counted_all h = omega (arith, g.counted, ap length (between_none ts i to h))

-- the walk has come to the index i
abbrev pub Gathering : List Token → ℕ → ℕ → Sheet → Sheet → ℕ → Type 0
Gathering ts from to first now i = Left (flat text_words (between ts i to)) now (flat text_words (between ts from to)) first

module _ (ts : List Token) (from to : ℕ) (first now : Sheet) (i : ℕ) (g : Gathering ts from to first now i) where
  pub gather-on : (t : Token) (then : Sheet) → i < to → t ≡ peek ts i → Puts (flat text_words (comments_in (t ∷ []))) now then → Gathering ts from to first then (i + 1)
  gather-on t then h here u =
      left_on
      (ap (flat text_words) (between-on ts i to h ∙ ap (λ (x : Token). comments_in (x ∷ []) ++ between ts (i + 1) to) (sym here))
      ∙ flat_append text_words (comments_in (t ∷ [])) (between ts (i + 1) to))
      g u

  pub gathered : to ≤ i → Puts (flat text_words (between ts from to)) first now
  unfolding flat
  gathered h = left_end (ap (flat text_words) (between_none ts i to h)) g

-- ---- tokens among which no comment stands
between_split : (ts : List Token) (n i to : ℕ) → i + n ≤ to → between ts i to ≡ between ts i (i + n) ++ between ts (i + n) to
between_split ts zero i to h =
    let z : i + 0 ≡ i = omega arith in
    ap (λ (k : ℕ). between ts k to) (sym z) ∙ ap (λ (l : List Token). l ++ between ts (i + 0) to) (sym (between_none ts i (i + 0) (omega arith)))
between_split ts (suc n) i to h =
    let z : i + 1 + n ≡ i + suc n = omega arith in
    let c : List Token = comments_in (peek ts i ∷ []) in
    between-on ts i to (omega arith) ∙ ap (λ (l : List Token). c ++ l) (between_split ts n (i + 1) to (omega arith) ∙ ap (λ (k : ℕ). between ts (i + 1) k ++ between ts k to) z)
    ∙ sym (append_assoc c (between ts (i + 1) (i + suc n)) (between ts (i + suc n) to)) ∙ ap (λ (l : List Token). l ++ between ts (i + suc n) to) (sym (between-on ts i (i + suc n) (omega arith)))

quiet_run : (ts : List Token) (n i to : ℕ) → i + n ≤ to → ((k : ℕ) → k < n → eqb (peek ts (i + k)).kind 12 ≡ false) → between ts (i + n) to ≡ between ts i to
unfolding comments_in
quiet_run ts zero i to h q = let z : i + 0 ≡ i = omega arith in ap (λ (k : ℕ). between ts k to) z
quiet_run ts (suc n) i to h q =
    let z : i + suc n ≡ i + n + 1 = omega arith in
    let none : comments_in (peek ts (i + n) ∷ []) ≡ [] = rw (q n (omega arith), comments_in) in
    ap (λ (k : ℕ). between ts k to) z ∙ sym (between-on ts (i + n) to (omega arith) ∙ ap (λ (l : List Token). l ++ between ts (i + n + 1) to) none)
    ∙ quiet_run ts n i to (omega arith) (λ k g. q k (omega arith))

-- before its line feed a line has none
no_feed : (ws : List Token) (k : ℕ) → k < line_length ws → eqb (peek ws k).kind 13 ≡ false
unfolding line_length
no_feed [] k h = absurd (omega arith)
no_feed (w ∷ ws) k h = go (eqb w.kind 13) refl k h (λ k h. no_feed ws k h)
  where
    go : (b : Bool) → eqb w.kind 13 ≡ b → (k : ℕ) → k < elim b [ true ↦ 0 | false ↦ suc (line_length ws) ] → ((k : ℕ) → k < line_length ws → eqb (peek ws k).kind 13 ≡ false)
        → eqb (peek (w ∷ ws) k).kind 13 ≡ false
    go true e k h more = absurd (omega arith)
    go false e zero h more = e
    go false e (suc k) h more = more k (omega arith)

-- the line of a declaration has no comment but at its end
line_quiet : (ts : List Token) (i : ℕ) (t : Token) → t ≡ peek ts i → i < length ts → behind i t ≡ line_length (drop i ts) → CommentsLast ts → 16 ≤ t.kind
    → between ts i t.value ≡ between ts (t.value - 1) t.value
unfolding behind
line_quiet ts i t e h f last high = go (line_length (drop i ts)) refl
  where
    reach : behind i t ≡ t.value - i
    reach = rw (le-leb 16 t.kind high)

    some-tokens : line_length (drop i ts) ≡ 0 → eqb t.kind 13 ≡ true
    some-tokens z = by_test_lem (eqb t.kind 13) (λ y. y) λ n.
        let one : line_length (t ∷ drop (suc i) ts) ≡ suc (line_length (drop (suc i) ts)) = length_by t (drop (suc i) ts) false n in
        let same : drop i ts ≡ t ∷ drop (suc i) ts = drop-cons ts i ended h ∙ ap (λ (t : Token). t ∷ drop (suc i) ts) (sym e) in
        absurd (omega (arith, ap line_length same, one, z))

    go : (b : ℕ) → line_length (drop i ts) ≡ b → between ts i t.value ≡ between ts (t.value - 1) t.value
    go zero z = absurd (omega (arith, eqb-true t.kind 13 (some-tokens z)))
    go (suc n) z =
        let v : t.value - 1 ≡ i + n = omega (arith, f, reach, z) in
        let free : (k : ℕ) → k < n → eqb (peek ts (i + k)).kind 12 ≡ false =
        λ k g. by_test_lem (eqb (peek ts (i + k)).kind 12)
        (λ y.
        let q : suc (i + k) ≡ i + suc k = omega arith in
        let feed : eqb (peek ts (i + suc k)).kind 13 ≡ true = ap (λ (j : ℕ). eqb (peek ts j).kind 13) (sym q) ∙ last (i + k) y in
        let none : eqb (peek ts (i + suc k)).kind 13 ≡ false =
        ap (λ (x : Token). eqb x.kind 13) (sym (get_or-drop i ts (suc k) ended)) ∙ no_feed (drop i ts) (suc k) (omega (arith, z)) in
        cc)
        (λ n. n) in
        sym (ap (λ (k : ℕ). between ts k t.value) v ∙ quiet_run ts n i t.value (omega (arith, f, reach, z)) free)

-- the comments before a declaration, and its own
module _ (ts : List Token) (from i end : ℕ) (h : from ≤ i) (low : i < end) (quiet : between ts i end ≡ between ts (end - 1) end) where
  declared_split : flat text_words (between ts from end) ≡ flat text_words (between ts from i) ++ flat text_words (between ts (end - 1) end)
  declared_split =
      let z : from + (i - from) ≡ i = omega arith in
      ap (flat text_words) (between_split ts (i - from) from end (omega arith) ∙ ap (λ (k : ℕ). between ts from k ++ between ts k end) z ∙ ap (λ (l : List Token). between ts from i ++ l) quiet)
      ∙ flat_append text_words (between ts from i) (between ts (end - 1) end)

  pub declared_put : (s p r : Sheet) → Puts (flat text_words (between ts from i)) s p → Puts (flat text_words (between ts (end - 1) end)) p r → Puts (flat text_words (between ts from end)) s r
  declared_put s p r u v = puts_as declared_split (u ▹ v)

-- ---- lines that end at their line feeds, from the index i on
pub record Feeding (ts : List Token) (i : ℕ) : Type 0 where
  pub fed : AllFed (entries_at ts i)
  pub last : CommentsLast ts

pub feeding_start : (ts : List Token) → Fed ts → CommentsLast ts → Feeding ts 0
unfolding entries
feeding_start ts f l = record { fed = f; last = l }

module _ (ts : List Token) (i : ℕ) (f : Feeding ts i) (t : Token) (e : t ≡ peek ts i) (h : i < length ts) where
  -- the line's first token says where it ends
  pub feeding_here : behind i t ≡ line_length (drop i ts)
  feeding_here = fed_here ts i f.fed h t e

  -- the line of a declaration has no comment but at its end
  pub feeding_quiet : 16 ≤ t.kind → between ts i t.value ≡ between ts (t.value - 1) t.value
  feeding_quiet high = line_quiet ts i t e h feeding_here f.last high

  pub feeding_on : (j : ℕ) → j ≡ i + 1 + behind i t → Feeding ts j
  feeding_on j z =
      let next : i + 1 + behind i (peek ts i) ≡ j = ap (λ (t : Token). i + 1 + behind i t) (sym e) ∙ sym z in
      record { fed = subst (λ (j : ℕ). AllFed (entries_at ts j)) next (fed_on ts i f.fed h); last = f.last }

-- ---- what is pending
module _ (p : Pending) (i : ℕ) (t : Token) (j : ℕ) (behind_it : j ≡ next i t) where
  pub passed-item : 16 ≤ t.kind → record { from = Some j; block = j } ≡ passed p i t
  unfolding passed
  passed-item h = rw (le-leb 16 t.kind h, behind_it)

  pub passed-comment : t.kind < 16 → t.kind ≡ 12 → p ≡ passed p i t
  unfolding passed
  passed-comment h g = rw (lt-leb 16 t.kind h, eq-eqb t.kind 12 g)

  pub passed_blank : t.kind < 16 → (t.kind ≡ 12 → ⊥) → record { from = p.from; block = j } ≡ passed p i t
  unfolding passed
  passed_blank h g = rw (lt-leb 16 t.kind h, ne_eqb t.kind 12 g, behind_it)

-- ---- the header comments of one line
module _ (ts : List Token) (p : Pending) (t : Token) where
  header-other : t.kind < 16 → header_of ts p t ≡ []
  unfolding header_of
  header-other h = rw (lt-ltb t.kind 16 h)

  header-declaration : 16 ≤ t.kind → t.kind < 27 → header_of ts p t ≡ between ts (begins p) t.value
  unfolding header_of
  header-declaration h g = rw (le-ltb t.kind 16 h, lt-ltb t.kind 27 g)

  header-rule : t.kind ≡ 27 → header_of ts p t ≡ cond (is_some p.from) [] (between ts 0 p.block)
  unfolding header_of
  header-rule h = rw (le-ltb t.kind 16 (omega arith), le-ltb t.kind 27 (omega arith), eq-eqb t.kind 27 h)

  header-failed : 27 ≤ t.kind → (t.kind ≡ 27 → ⊥) → header_of ts p t ≡ []
  unfolding header_of
  header-failed h g = rw (le-ltb t.kind 16 (omega arith), le-ltb t.kind 27 h, ne_eqb t.kind 27 g)

  -- what is stored for the line
  module _ (s : Sheet) where
    none_put : header_of ts p t ≡ [] → Puts (flat text_words (header_of ts p t)) s s
    unfolding flat
    none_put e = puts_as (ap (flat text_words) e) (puts_none s)

    pub header_low : t.kind < 16 → Puts (flat text_words (header_of ts p t)) s s
    header_low h = none_put (header-other h)

    pub header_high : 27 ≤ t.kind → (t.kind ≡ 27 → ⊥) → Puts (flat text_words (header_of ts p t)) s s
    header_high h g = none_put (header-failed h g)

    pub header-later : t.kind ≡ 27 → is_some p.from ≡ true → Puts (flat text_words (header_of ts p t)) s s
    header-later h g = none_put (header-rule h ∙ ap (λ (b : Bool). cond b [] (between ts 0 p.block)) g)

  module _ (s r : Sheet) where
    pub header-declared : (from : ℕ) → 16 ≤ t.kind → t.kind < 27 → from ≡ begins p → Puts (flat text_words (between ts from t.value)) s r → Puts (flat text_words (header_of ts p t)) s r
    header-declared from h g e u = puts_as (ap (flat text_words) (header-declaration h g ∙ ap (λ (k : ℕ). between ts k t.value) (sym e))) u

    pub header-first : t.kind ≡ 27 → is_some p.from ≡ false → Puts (flat text_words (between ts 0 p.block)) s r → Puts (flat text_words (header_of ts p t)) s r
    header-first h g u = puts_as (ap (flat text_words) (header-rule h ∙ ap (λ (b : Bool). cond b [] (between ts 0 p.block)) g)) u

-- ---- all lines: the walk has come to the line at the index i

-- a line, and those behind it
pub lines-on : (ts : List Token) (i j : ℕ) (t : Token) → i < length ts → t ≡ peek ts i → j ≡ next i t
    → entries_at ts i ≡ record { at = i; first = t; rest = drop (suc i) ts } ∷ entries_at ts j
lines-on ts i j t h e f =
    entries-step ts i h
    ∙ ap (λ (t : Token). record { at = i; first = t; rest = drop (suc i) ts } ∷ entries_at ts (next i t)) (sym e)
    ∙ ap (λ (k : ℕ). record { at = i; first = t; rest = drop (suc i) ts } ∷ entries_at ts k) (sym f)

-- the header: what is left of it is what the lines from here on put there
abbrev pub Heading : List Token → Sheet → Sheet → Pending → ℕ → Type 0
Heading ts first now p i = Left (flat text_words (header_from ts p (entries_at ts i))) now (flat text_words (header ts)) first

pub heading_start : (ts : List Token) (s : Sheet) → Heading ts s s nothing 0
unfolding header entries
heading_start ts s = left_start refl

abbrev pub Passing : List Token → Pending → ℕ → Type 0
Passing ts p i = passed_all p (entries_at ts i) ≡ passed_all nothing (entries ts)

pub passing_start : (ts : List Token) → Passing ts nothing 0
unfolding entries
passing_start _ = refl

module _ (ts : List Token) (p : Pending) (i : ℕ) where
  module _ (t : Token) (h : i < length ts) (here : t ≡ peek ts i) (p' : Pending) (j : ℕ) (q : p' ≡ passed p i t) (f : j ≡ next i t) where
    pub passing_on : Passing ts p i → Passing ts p' j
    unfolding passed_all
    passing_on w = ap (λ (p : Pending). passed_all p (entries_at ts j)) q ∙ sym (ap (passed_all p) (lines-on ts i j t h here f)) ∙ w

    pub heading_on : (first now then : Sheet) → Heading ts first now p i → Puts (flat text_words (header_of ts p t)) now then → Heading ts first then p' j
    unfolding header_from
    heading_on first now then w u =
        left_on
        (ap (flat text_words) (ap (header_from ts p) (lines-on ts i j t h here f) ∙ ap (λ (x : Pending). header_of ts p t ++ header_from ts x (entries_at ts j)) (sym q))
        ∙ flat_append text_words (header_of ts p t) (header_from ts p' (entries_at ts j)))
        w u

  module _ (h : length ts ≤ i) where
    lines_end : entries_at ts i ≡ []
    lines_end = entries-end ts i h

    pub passing_end : Passing ts p i → p ≡ passed_all nothing (entries ts)
    unfolding passed_all
    passing_end w = sym (ap (passed_all p) lines_end) ∙ w

    rest_is : (b : Bool) → is_some p.from ≡ b → flat text_words (header_from ts p (entries_at ts i)) ≡ flat text_words (cond b [] (between ts 0 (length ts)))
    unfolding header_from
    rest_is b e = ap (flat text_words) (ap (header_from ts p) lines_end ∙ ap (λ (b : Bool). cond b [] (between ts 0 (length ts))) e)

    module _ (first now : Sheet) (w : Heading ts first now p i) where
      pub heading_seen : is_some p.from ≡ true → Puts (flat text_words (header ts)) first now
      unfolding flat
      heading_seen e = left_end (rest_is true e) w

      pub heading_last : (then : Sheet) (n : ℕ) → is_some p.from ≡ false → n ≡ length ts → Puts (flat text_words (between ts 0 n)) now then → Puts (flat text_words (header ts)) first then
      heading_last then n e f u =
          left_last w (puts_as (rest_is false e ∙ ap (λ (k : ℕ). flat text_words (between ts 0 k)) (sym f)) u)

-- the trailing comments
module _ (ts : List Token) (p : Pending) (all-passed : p ≡ passed_all nothing (entries ts)) where
  trailing_is : (o : Option ℕ) → p.from ≡ o → trailing ts ≡ cond (is_some o) (between ts (unwrap_or o 0) (length ts)) []
  unfolding trailing
  trailing_is o e =
      ap (λ (p : Pending). cond (is_some p.from) (between ts (begins p) (length ts)) []) (sym all-passed)
      ∙ ap (λ (o : Option ℕ). cond (is_some o) (between ts (unwrap_or o 0) (length ts)) []) e

  pub trailing-none : (s : Sheet) → p.from ≡ None → Puts (flat text_words (trailing ts)) s s
  unfolding flat
  trailing-none s e = puts_as (ap (flat text_words) (trailing_is None e)) (puts_none s)

  pub trailing-all : (s r : Sheet) (n from : ℕ) → p.from ≡ Some from → n ≡ length ts → Puts (flat text_words (between ts from n)) s r → Puts (flat text_words (trailing ts)) s r
  trailing-all s r n from e f u =
      puts_as (ap (flat text_words) (trailing_is (Some from) e) ∙ ap (λ (k : ℕ). flat text_words (between ts from k)) (sym f)) u
