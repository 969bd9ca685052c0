-- Lists: the members that are left of a section's records, and what is still to be written of them.
use mathlib.Core.Path.{◌≡◌, refl, sym, ap, subst, ◌∙◌}
use Prim.Native.Nat.{ℕ, zero, suc, ◌+◌, ◌*◌, ◌≤◌, ◌<◌}
use native.Mathlib.Omega.{arith}
use native.Mathlib.Numerals.{add-one}
use mathlib.Core.Bool.{true}
use mathlib.Core.List.{List, [], ◌∷◌, map}
use lib.Dec.{ltb}
use lib.ListN.{get_or, take, drop}
use borrow.Author.Tests.{lt-ltb}
use Rattle.chars.specs.Utf8.{scalar, encode}
use Rattle.chars.specs.Decoded.{scalars}
use Rattle.chars.proofs.Tests.{and_both}
use Rattle.language.specs.Machine.{Dir}
use Rattle.language.specs.Plain.{Piece, ◌⨾◌, say, only, each, commas, verbatim, symbol, dir_code, direction, end, comment, comment_line}
use Rattle.language.specs.Agreement.{groups, place_at, dir_of, characters_at, text_in}
use Rattle.diag.specs.declared.Span.{Span}
use Rattle.emit.specs.declared.Output.{Output}
use Rattle.emit.specs.Appends.{Appends}
use Rattle.form_strings.specs.Writes.{Writes}
use Rattle.form_lists.specs.Places.{Every, Utf8At, NameIn, column}
use Rattle.sheet_view.proofs.Directions.{letter_ascii}
use Rattle.sheet_view.proofs.Records.{left, left-all, left-next, left-none, word_in}
use Rattle.emit.proofs.Chain.{◌▹◌, goes_start, goes_on, goes_end}
use Rattle.form_strings.proofs.Chain.{ascii, known, Goes}

-- ---- records that are left

-- the place that a record begins with
pub place_in : (k j : ℕ) (ws : List ℕ) → 1 < k → place_at (take k (drop j ws)) 0 ≡ place_at ws j
place_in k j ws h =
    let e : j + 0 ≡ j = omega arith in
    let f : j + 1 ≡ suc j = omega arith in
    let p : get_or (take k (drop j ws)) 0 0 ≡ get_or ws j 0 = word_in k j 0 ws (omega arith) ∙ ap (λ m. get_or ws m 0) e in
    let q : get_or (take k (drop j ws)) 1 0 ≡ get_or ws (suc j) 0 = word_in k j 1 ws h ∙ ap (λ m. get_or ws m 0) f in
    rw (p, q)

-- ---- members that are left of a list

-- what is left to write of a list of which i members are written
pub more : {A : Type 0} → (A → Piece) → ℕ → List A → Piece
more show zero l = commas show l
more show (suc i) l = each (λ a. say ", " ⨾ show a) l

commas-each : {A : Type 0} (show : A → Piece) (a : A) (l : List A) (rest : List ℕ) → commas show (a ∷ l) rest ≡ show a (each (λ b. say ", " ⨾ show b) l rest)
unfolding commas each
commas-each show a [] rest = refl
commas-each show a (b ∷ l) rest = ap (λ r. show a (say ", " r)) (commas-each show b l rest)

pub more_start : {A : Type 0} (show : A → Piece) (l : List A) (rest : List ℕ) → more show 0 l rest ≡ commas show l rest
unfolding more
more_start show l rest = refl

pub more_next : {A : Type 0} (show : A → Piece) (i : ℕ) (a : A) (l : List A) (rest : List ℕ) → more show i (a ∷ l) rest ≡ only (ltb 0 i) (say ", ") (show a (more show (i + 1) l rest))
unfolding more each
more_next show zero a l rest = commas-each show a l rest
more_next show (suc i) a l rest = rw (lt-ltb 0 (suc i) (omega arith), add-one (suc i))

pub more_none : {A : Type 0} (show : A → Piece) (i : ℕ) (rest : List ℕ) → more show i [] rest ≡ rest
unfolding more commas each
more_none show zero rest = refl
more_none show (suc i) rest = refl

-- a member is written, and the list goes on behind it
pub more_on : {A : Type 0} (show : A → Piece) (i : ℕ) (a : A) (l all : List A) {o x r o₀ : Output} {p₀ : Piece}
    → all ≡ a ∷ l → Goes (more show i all) o p₀ o₀ → Writes (only (ltb 0 i) (say ", ")) o x → Writes (show a) x r → Goes (more show (i + 1) l) r p₀ o₀
more_on show i a l all e g u v = goes_on (λ rest. ap (λ m. more show i m rest) e ∙ more_next show i a l rest) g (u ▹ v)

-- ---- names and comments

-- the records from the i-th of n on
pub rest_all : (k n : ℕ) (ws : List ℕ) → left k n 0 (k * 0) ws ≡ groups k n ws
rest_all k n ws = let e : k * 0 ≡ 0 = omega arith in rw e (left-all k n ws)

pub rest_of : (k n i : ℕ) (ws : List ℕ) → i < n → left k n i (k * i) ws ≡ take k (drop (k * i) ws) ∷ left k n (i + 1) (k * (i + 1)) ws
rest_of k n i ws h =
    let e : k * i + k ≡ k * (i + 1) = omega arith in
    left-next k n i (k * i) ws h ∙ ap (λ m. take k (drop (k * i) ws) ∷ left k n (i + 1) m ws) e

-- what is left of the records holds UTF-8
pub record Names (text : List ℕ) (k n i : ℕ) (ws : List ℕ) : Type 0 where
  pub names : Every (NameIn text) (left k n i (k * i) ws)

-- the characters that the records from the i-th on tell of
pub texts : List ℕ → ℕ → ℕ → ℕ → List ℕ → List (List ℕ)
texts text k n i ws = map (text_in text) (left k n i (k * i) ws)

module _ (text : List ℕ) (k n : ℕ) (ws : List ℕ) where
  pub names-all : Every (NameIn text) (groups k n ws) → Names text k n 0 ws
  names-all h = record { names = subst (Every (NameIn text)) (sym (rest_all k n ws)) h }

  texts_all : texts text k n 0 ws ≡ map (text_in text) (groups k n ws)
  unfolding texts
  texts_all = ap (map (text_in text)) (rest_all k n ws)

  texts_none : (i : ℕ) → n ≤ i → texts text k n i ws ≡ []
  unfolding texts
  texts_none i h = ap (map (text_in text)) (left-none k n i (k * i) ws h)

  module _ (i : ℕ) (h : i < n) where
    pub names-next : Names text k n i ws → Names text k n (i + 1) ws
    names-next e = record { names = (subst (Every (NameIn text)) (rest_of k n i ws h) e.names).1 }

    module _ (wide : 1 < k) (q : Span) (at : q ≡ place_at ws (k * i)) where
      here : place_at (take k (drop (k * i) ws)) 0 ≡ q
      here = place_in k (k * i) ws wide ∙ sym at

      pub names_here : Names text k n i ws → Utf8At text q
      names_here e = subst (Utf8At text) here (subst (Every (NameIn text)) (rest_of k n i ws h) e.names).0

      texts_next : texts text k n i ws ≡ characters_at text q ∷ texts text k n (i + 1) ws
      unfolding texts text_in
      texts_next = ap (map (text_in text)) (rest_of k n i ws h) ∙ ap (λ p. characters_at text p ∷ texts text k n (i + 1) ws) here

      module _ (o a : Output) (p₀ : Piece) (o₀ : Output) where
        pub lines-on : (r : Output) → Goes (each comment_line (texts text k n i ws)) o p₀ o₀ → Writes (comment (characters_at text q)) o a → Appends (10 ∷ []) a r
            → Goes (each comment_line (texts text k n (i + 1) ws)) r p₀ o₀
        unfolding each encode
        lines-on r g u v = goes_on (λ rest. ap (λ l. each comment_line l rest) texts_next) g (u ▹ known {p = end} (10 ∷ []) (λ rest. refl) v)

        pub list_on : (r : Output) → Goes (more verbatim i (texts text k n i ws)) o p₀ o₀ → Writes (only (ltb 0 i) (say ", ")) o a
            → Writes (verbatim (characters_at text q)) a r → Goes (more verbatim (i + 1) (texts text k n (i + 1) ws)) r p₀ o₀
        list_on r g u v = more_on verbatim i (characters_at text q) (texts text k n (i + 1) ws) (texts text k n i ws) texts_next g u v

  pub lines_start : (o : Output) → Goes (each comment_line (texts text k n 0 ws)) o (each comment_line (map (text_in text) (groups k n ws))) o
  lines_start o = goes_start (λ rest. ap (λ l. each comment_line l rest) texts_all)

  pub lines_end : (i : ℕ) (o : Output) (p₀ : Piece) (o₀ : Output) → n ≤ i → Goes (each comment_line (texts text k n i ws)) o p₀ o₀ → Writes p₀ o₀ o
  unfolding each
  lines_end i o p₀ o₀ h g = goes_end (λ rest. ap (λ l. each comment_line l rest) (texts_none i h)) g

  pub list-start : (o : Output) → Goes (more verbatim 0 (texts text k n 0 ws)) o (commas verbatim (map (text_in text) (groups k n ws))) o
  unfolding more
  list-start o = goes_start (λ rest. ap (λ l. commas verbatim l rest) texts_all)

  pub list-end : (i : ℕ) (o : Output) (p₀ : Piece) (o₀ : Output) → n ≤ i → Goes (more verbatim i (texts text k n i ws)) o p₀ o₀ → Writes p₀ o₀ o
  list-end i o p₀ o₀ h g = goes_end (λ rest. ap (λ l. more verbatim i l rest) (texts_none i h) ∙ more_none verbatim i rest) g

-- ---- symbols and moves

-- a move is its letter
pub moved : (d : Dir) {b : ℕ} {o r : Output} → b ≡ dir_code d → Appends (b ∷ []) o r → Writes (direction d) o r
moved d e a = known (dir_code d ∷ []) (λ rest. ascii (dir_code d) rest (letter_ascii d)) (rw e at a)

-- the words at o of the records that are left
pub codes : ℕ → ℕ → ℕ → ℕ → List ℕ → List ℕ
codes k o n i ws = map (λ r. get_or r o 0) (left k n i (k * i) ws)

-- what the records from the i-th on have there is scalar values
pub record Codes (k o n i : ℕ) (ws : List ℕ) : Type 0 where
  pub valid : scalars (codes k o n i ws) ≡ true

module _ (k o n : ℕ) (ws : List ℕ) where
  codes-column : codes k o n 0 ws ≡ column k o n ws
  unfolding codes
  codes-column = ap (map (λ r. get_or r o 0)) (rest_all k n ws)

  pub codes_all : scalars (column k o n ws) ≡ true → Codes k o n 0 ws
  codes_all h = record { valid = ap scalars codes-column ∙ h }

  codes-none : (i : ℕ) → n ≤ i → codes k o n i ws ≡ []
  unfolding codes
  codes-none i h = ap (map (λ r. get_or r o 0)) (left-none k n i (k * i) ws h)

  module _ (i : ℕ) (h : i < n) (low : o < k) (c : ℕ) (at : c ≡ get_or ws (k * i + o) 0) where
    codes-next : codes k o n i ws ≡ c ∷ codes k o n (i + 1) ws
    unfolding codes
    codes-next = ap (map (λ r. get_or r o 0)) (rest_of k n i ws h) ∙ rw (word_in k (k * i) o ws low, ← at)

    both : Codes k o n i ws → (scalar c ≡ true) × (scalars (codes k o n (i + 1) ws) ≡ true)
    unfolding scalars
    both e = and_both (scalar c) (scalars (codes k o n (i + 1) ws)) (sym (ap scalars codes-next) ∙ e.valid)

    pub codes_here : Codes k o n i ws → scalar c ≡ true
    codes_here e = (both e).0

    pub codes-left : Codes k o n i ws → Codes k o n (i + 1) ws
    codes-left e = record { valid = (both e).1 }

    module _ (f a r : Output) (p₀ : Piece) (o₀ : Output) (u : Writes (only (ltb 0 i) (say ", ")) f a) where
      pub symbols-on : Goes (more symbol i (codes k o n i ws)) f p₀ o₀ → Writes (symbol c) a r → Goes (more symbol (i + 1) (codes k o n (i + 1) ws)) r p₀ o₀
      symbols-on g v = more_on symbol i c (codes k o n (i + 1) ws) (codes k o n i ws) codes-next g u v

      pub moves-on : Goes (more direction i (map dir_of (codes k o n i ws))) f p₀ o₀ → Writes (direction (dir_of c)) a r
          → Goes (more direction (i + 1) (map dir_of (codes k o n (i + 1) ws))) r p₀ o₀
      moves-on g v = more_on direction i (dir_of c) (map dir_of (codes k o n (i + 1) ws)) (map dir_of (codes k o n i ws)) (ap (map dir_of) codes-next) g u v

  pub symbols-start : (f : Output) → Goes (more symbol 0 (codes k o n 0 ws)) f (commas symbol (column k o n ws)) f
  unfolding more
  symbols-start f = goes_start (λ rest. ap (λ l. commas symbol l rest) codes-column)

  pub symbols-end : (i : ℕ) (f : Output) (p₀ : Piece) (o₀ : Output) → n ≤ i → Goes (more symbol i (codes k o n i ws)) f p₀ o₀ → Writes p₀ o₀ f
  symbols-end i f p₀ o₀ h g = goes_end (λ rest. ap (λ l. more symbol i l rest) (codes-none i h) ∙ more_none symbol i rest) g

  pub moves-start : (f : Output) → Goes (more direction 0 (map dir_of (codes k o n 0 ws))) f (commas direction (map dir_of (column k o n ws))) f
  unfolding more
  moves-start f = goes_start (λ rest. ap (λ l. commas direction (map dir_of l) rest) codes-column)

  pub moves-end : (i : ℕ) (f : Output) (p₀ : Piece) (o₀ : Output) → n ≤ i → Goes (more direction i (map dir_of (codes k o n i ws))) f p₀ o₀ → Writes p₀ o₀ f
  moves-end i f p₀ o₀ h g = goes_end (λ rest. ap (λ l. more direction i (map dir_of l) rest) (codes-none i h) ∙ more_none direction i rest) g
