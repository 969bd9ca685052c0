-- What closes a return of a function of the head: whether a line is declared is whether its index is that of a token.
use Rattle.std.proofs.Common.{◌≡◌, refl, ℕ, ◌+◌, ◌-◌, ◌<◌, ◌≤◌, Bool, true, false, cond, ltb, Option, Some, None, List, length, get_or, sym, ap, ◌∙◌, le-leb, arith}
use borrow.Author.Tests.{lt-leb, lt-ltb, le-ltb}
use Rattle.assembler.specs.Declarations.{line}
use Rattle.assembler.proofs.FirstLines.{there-inside, there_is, none-outside, asked_is}
use Rattle.std.specs.Option.{is_some}
use Rattle.tokens.specs.declared.Token.{Token}
use Rattle.parser.specs.Row.{peek}
use Rattle.diag.specs.declared.Span.{Span}
use Rattle.machine.specs.declared.Kind.{Kind}
use Rattle.machine.specs.declared.Kind.TheVariants.{Transducer}
use Rattle.machine.specs.declared.Decoder.TheVariants.{Word}
use Rattle.machine.specs.declared.Decoder.{Decoder}
use Rattle.machine.specs.declared.Declared.{Declared}
use Rattle.machine.specs.declared.SourceMap.{SourceMap}
use Rattle.machine.specs.declared.Counts.{Counts}
use Rattle.machine.specs.declared.Head.{Head}
use Rattle.language.specs.Layout.{no_place}
use Rattle.sheet.specs.Rules.{resolve}
use Rattle.reader_head.specs.Heads.{said, place_at, text_of, text_at, kind_of, kind_at, decoder_of, decoder_at, tapes_at, blank_at, start_at, declared_in, map_in, head_at}

-- ---- what is said, by the line of a first declaration
module _ (ts : List Token) (f n : ℕ) (o : Option ℕ) (told : o ≡ line n f) (size : n ≡ length ts) where
  pub said-there : (i j : ℕ) (t : Token) → o ≡ Some i → t ≡ peek ts (i + j) → Some t ≡ said ts f j
  unfolding said
  said-there i j t is at =
      let same : i ≡ f = there_is n f told is in
      let low : f < length ts = omega (arith, there-inside n f told is, size) in
      let e : t ≡ peek ts (f + j) = at ∙ ap (λ (k : ℕ). peek ts (k + j)) same in
      rw (said, lt-ltb f (length ts) low) (ap (λ (t : Token). Some t) e)

  pub said-absent : (j : ℕ) → o ≡ None → None ≡ said ts f j
  unfolding said
  said-absent j is =
      let high : length ts ≤ f = omega (arith, none-outside n f told is, size) in
      rw (said, le-ltb f (length ts) high)

  module _ (b : Bool) (asked : b ≡ is_some o) (s r : Span) where
    among : b ≡ ltb f (length ts)
    among = asked_is n f told asked ∙ ap (λ (n : ℕ). ltb f n) size

    pub start-there : b ≡ true → r ≡ place_at ts f 2 → r ≡ start_at ts f s
    unfolding start_at
    start-there y p = p ∙ sym (ap (λ (b : Bool). cond b (place_at ts f 2) s) (sym among ∙ y))

    pub start-absent : b ≡ false → s ≡ start_at ts f s
    unfolding start_at
    start-absent x = sym (ap (λ (b : Bool). cond b (place_at ts f 2) s) (sym among ∙ x))

pub ruleset said_laws = (said-there, said-absent, start-there, start-absent)

-- ---- what is said of a line
module _ (ts : List Token) (f j : ℕ) (o : Option Token) (e : o ≡ said ts f j) where
  -- a token of a line that is there
  there : (t : Token) → o ≡ Some t → (ltb f (length ts) ≡ true) × (t ≡ peek ts (f + j))
  unfolding said
  there t is = go (ltb f (length ts)) refl
    where
      go : (b : Bool) → ltb f (length ts) ≡ b → (ltb f (length ts) ≡ true) × (t ≡ peek ts (f + j))
      go true y = (y, let z : Some t ≡ Some (peek ts (f + j)) = sym is ∙ e ∙ ap (λ b. cond b (Some (peek ts (f + j))) None) y in cc)
      go false x = let z : Some t ≡ None = sym is ∙ e ∙ ap (λ b. cond b (Some (peek ts (f + j))) None) x in cc

  -- a line that is not
  absent : o ≡ None → ltb f (length ts) ≡ false
  unfolding said
  absent is = go (ltb f (length ts)) refl
    where
      go : (b : Bool) → ltb f (length ts) ≡ b → ltb f (length ts) ≡ false
      go false x = x
      go true y = let z : None ≡ Some (peek ts (f + j)) = sym is ∙ e ∙ ap (λ b. cond b (Some (peek ts (f + j))) None) y in cc

  pub place-there : (t : Token) → o ≡ Some t → ◌≡◌ {A = Span} (record { start = t.start; end = t.end }) (place_at ts f j)
  unfolding place_at
  place-there t is = let p = there t is in rw (place_at, p.0, ← p.1)

  pub place-absent : o ≡ None → no_place ≡ place_at ts f j
  unfolding place_at
  place-absent is = rw (place_at, absent is)

-- each part, by the token that says it
module _ (ts : List Token) (f : ℕ) (o : Option Token) where
  module _ (e : o ≡ said ts f 1) where
    pub text-there : (t : Token) (r : Span) → o ≡ Some t → r ≡ text_of t → r ≡ text_at ts f
    unfolding text_at
    text-there t r is p = let q = there ts f 1 o e t is in rw (text_at, q.0, ← q.1) p

    pub text-absent : o ≡ None → no_place ≡ text_at ts f
    unfolding text_at
    text-absent is = rw (text_at, absent ts f 1 o e is)

    pub kind-there : (t : Token) (r : Kind) → o ≡ Some t → r ≡ kind_of t.value → r ≡ kind_at ts f
    unfolding kind_at
    kind-there t r is p = let q = there ts f 1 o e t is in rw (kind_at, q.0, ← q.1) p

    pub kind-absent : o ≡ None → Transducer ≡ kind_at ts f
    unfolding kind_at
    kind-absent is = rw (kind_at, absent ts f 1 o e is)

  module _ (e : o ≡ said ts f 2) where
    pub blank-there : (t : Token) (r : ℕ) → o ≡ Some t → r ≡ resolve 0x2423 t → r ≡ blank_at ts f
    unfolding blank_at
    blank-there t r is p = let q = there ts f 2 o e t is in rw (blank_at, q.0, ← q.1) p

    pub blank-absent : o ≡ None → 0x2423 ≡ blank_at ts f
    unfolding blank_at
    blank-absent is = rw (blank_at, absent ts f 2 o e is)

    pub tapes-there : (t : Token) → o ≡ Some t → t.value ≤ 255 → t.value ≡ tapes_at ts f
    unfolding tapes_at
    tapes-there t is g = let q = there ts f 2 o e t is in rw (tapes_at, q.0, ← q.1, le-leb t.value 255 g)

    pub tapes_many : (t : Token) → o ≡ Some t → 255 < t.value → 1 ≡ tapes_at ts f
    unfolding tapes_at
    tapes_many t is g = let q = there ts f 2 o e t is in rw (tapes_at, q.0, ← q.1, lt-leb t.value 255 g)

    pub tapes-absent : o ≡ None → 1 ≡ tapes_at ts f
    unfolding tapes_at
    tapes-absent is = rw (tapes_at, absent ts f 2 o e is)

module _ (ts : List Token) (f b : ℕ) (o : Option Token) (e : o ≡ said ts f 1) where
  pub decoder-there : (t u : Token) (r : Decoder) → o ≡ Some t → u ≡ peek ts (f + 2) → r ≡ decoder_of b t.value u → r ≡ decoder_at b ts f
  unfolding decoder_at
  decoder-there t u r is g p = let q = there ts f 1 o e t is in rw (decoder_at, q.0, ← q.1, ← g) p

  pub decoder-absent : o ≡ None → Word ≡ decoder_at b ts f
  unfolding decoder_at
  decoder-absent is = rw (decoder_at, absent ts f 1 o e is)

pub ruleset parts = (
  place-there,
  place-absent,
  text-there,
  text-absent,
  kind-there,
  kind-absent,
  blank-there,
  blank-absent,
  tapes-there,
  tapes_many,
  tapes-absent,
  decoder-there,
  decoder-absent,
)

-- ---- all parts
pub declared_in_lem : (n : ℕ) (first : List ℕ) (a b c d e : Bool) → a ≡ ltb (get_or first 5 0) n → b ≡ ltb (get_or first 6 0) n → c ≡ ltb (get_or first 7 0) n
    → d ≡ ltb (get_or first 9 0) n → e ≡ ltb (get_or first 8 0) n
    → ◌≡◌ {A = Declared} (record { states = a; input_alphabet = b; tape_alphabet = c; start = d; blank = e }) (declared_in n first)
unfolding declared_in
declared_in_lem n first a b c d e p q r s t = rw (p, q, r, s, t)

pub ruleset declarations = (declared_in_lem, asked_is)

pub map_in_lem : (ts : List Token) (first : List ℕ) (a b c d e : Span) → a ≡ place_at ts (get_or first 1 0) 0 → b ≡ place_at ts (get_or first 2 0) 1 → c ≡ place_at ts (get_or first 4 0) 2
    → d ≡ place_at ts (get_or first 9 0) 2 → e ≡ place_at ts (get_or first 5 0) 0 → ◌≡◌ {A = SourceMap} (record { kind = a; input = b; tapes = c; start = d; states = e }) (map_in ts first)
unfolding map_in
map_in_lem ts first a b c d e p q r s t = rw (p, q, r, s, t)

module _ (ts : List Token) (first : List ℕ) where
  pub head_in : (s : Span) (k : Counts) (b t n : ℕ) (o : Decoder) (name input start : Span) (kind : Kind) (d : Declared) (m : SourceMap)
      → n ≡ length ts
      → b ≡ blank_at ts (get_or first 8 0)
      → d ≡ declared_in n first
      → m ≡ map_in ts first
      → o ≡ decoder_at b ts (get_or first 3 0)
      → name ≡ text_at ts (get_or first 0 0)
      → input ≡ text_at ts (get_or first 2 0)
      → kind ≡ kind_at ts (get_or first 1 0)
      → t ≡ tapes_at ts (get_or first 4 0)
      → start ≡ start_at ts (get_or first 9 0) s
      → ◌≡◌ {A = Head} (record { output = o; name = name; input = input; kind = kind; tapes = t; blank = b; declared = d; start = start; map = m; counts = k }) (head_at ts first s k)
  unfolding head_at
  head_in s k b t n o name input start kind d m e₀ e₁ e₂ e₃ e₄ e₅ e₆ e₇ e₈ e₉ =
      let e : d ≡ declared_in (length ts) first = e₂ ∙ ap (λ (j : ℕ). declared_in j first) e₀ in
      rw (e₄, e, e₃, e₅, e₆, e₇, e₈, e₉, e₁)
