-- The head over the row is that of the machine which the lines stand for, if the tokens
-- behind each entry say what its item declares.
use Rattle.std.proofs.Common.{◌≡◌, ℕ, suc, ◌+◌, ◌≤◌, cond, ltb, leb, List, ◌++◌, length, get_or, sym, ap, ◌∙◌, arith, get_or-drop}
use Rattle.std.specs.Prelude.{Option, None, Some, unwrap_or, option_to_list, is_some}
use Rattle.tokens.specs.declared.Token.{Token}
use Rattle.machine.specs.declared.Kind.{Kind}
use Rattle.machine.specs.declared.Kind.TheVariants.{Transducer}
use Rattle.parser.specs.Row.{ended, peek}
use Rattle.language.specs.Machine.{Located}
use Rattle.language.specs.Lines.{RawSymbol, raw_blank, RawDecoder, raw_word, Text, Item, Line}
use Rattle.language.specs.Assembly as A
use Rattle.language.proofs.Columns
use Rattle.language.specs.Infer.{place_of, head, resolve_decoder, tapes_of, between, machine_of}
use Rattle.language.specs.Layout as L
use Rattle.assembler.specs.Rows as R
use Rattle.assembler.specs.Entries.{Entry, entry_at}
use Rattle.assembler.specs.Declarations.{undeclared, declarations}
use Rattle.assembler.proofs.Means.{AllMean}
use Rattle.sheet.specs.Rules.{resolve}
use Rattle.diag.specs.declared.Span.{Span}
use Rattle.machine.specs.declared.Counts.{Counts}
use Rattle.reader_head.specs.Heads.{place_at, text_of, text_at, kind_of, kind_at, decoder_of, decoder_at, tapes_at, blank_at, start_at, declared_in, map_in, head_at}
use Rattle.sheet_theorems.proofs.Declared.{fills, Declared, absent, present, declared-part}

-- what the tokens behind an entry say of the parts that its item has
pub record Says (e : Entry) (p : Columns.Parts Span) : Type 0 where
  pub machine : (x : Text Span) → p.machine ≡ Some x → text_of (peek e.rest 0) ≡ x.value.place
  pub kind : (x : Kind) → p.kind ≡ Some x → kind_of (peek e.rest 0).value ≡ x
  pub input : (x : Text Span) → p.input ≡ Some x → (text_of (peek e.rest 0) ≡ x.value.place) × (R.place_of (peek e.rest 0) ≡ x.place)
  pub output : (x : RawDecoder) → p.output ≡ Some x → (b : ℕ) → decoder_of b (peek e.rest 0).value (peek e.rest 1) ≡ resolve_decoder b x
  pub tapes : (x : Located Span ℕ) → p.tapes ≡ Some x → (cond (leb (peek e.rest 1).value 255) (peek e.rest 1).value 1 ≡ tapes_of (Some x)) × (R.place_of (peek e.rest 1) ≡ x.place)
  pub blank : (x : RawSymbol) → p.blank ≡ Some x → resolve 0x2423 (peek e.rest 1) ≡ A.resolve 0x2423 x
  pub start : (x : Located Span (List ℕ)) → p.start ≡ Some x → R.place_of (peek e.rest 1) ≡ x.place

-- the tokens behind the first of the line at f
module _ (ts : List Token) (f : ℕ) (e : Entry) (q : e ≡ entry_at ts f) where
  second : peek e.rest 0 ≡ peek ts (f + 1)
  second =
      let n : suc f + 0 ≡ f + 1 = omega arith in
      ap (λ (e : Entry). peek e.rest 0) q ∙ get_or-drop (suc f) ts 0 ended ∙ ap (peek ts) n

  third : peek e.rest 1 ≡ peek ts (f + 2)
  third =
      let n : suc f + 1 ≡ f + 2 = omega arith in
      ap (λ (e : Entry). peek e.rest 1) q ∙ get_or-drop (suc f) ts 1 ended ∙ ap (peek ts) n

module _ (X : Entry → Item Span → Type 0) (says : (e : Entry) (i : Item Span) → X e i → Says e (Columns.parts i)) (ts : List Token) (is : List (Located Span (Item Span))) (f : ℕ) where
  -- whether a part is declared
  flag : {B : Type 0} (part : Columns.Parts Span → Option B) → Declared X ts part f is → ltb f (length ts) ≡ is_some (A.first (Columns.select part) is)
  flag part (absent h g) = rw (h, g)
  flag part (present e i p a h q m o g) = rw (h, g)

  flag-found : {B : Type 0} (part : Columns.Parts Span → Option B) → Declared X ts part f is → ltb f (length ts) ≡ is_some (A.found (A.first (Columns.select part) is))
  unfolding A.found
  flag-found part (absent h g) = rw (h, g)
  flag-found part (present e i p a h q m o g) = rw (h, g)

  -- the place of a whole declaration
  whole : {B : Type 0} (part : Columns.Parts Span → Option B) → Declared X ts part f is → place_at ts f 0 ≡ L.or_none (place_of (A.first (Columns.select part) is))
  unfolding place_at L.or_none place_of
  whole part (absent h g) = rw (place_at, h, g)
  whole part (present e i p a h q m o g) =
      let n : f + 0 ≡ f = omega arith in
      let here : R.place_of (peek ts f) ≡ p = ap (λ (e : Entry). R.place_of e.first) (sym q) ∙ m.place in
      rw (place_at, h, g, n) here

  -- the place between a string's quotes
  text : (part : Columns.Parts Span → Option (Text Span))
      → ((e : Entry) (p : Columns.Parts Span) (x : Text Span) → Says e p → part p ≡ Some x → text_of (peek e.rest 0) ≡ x.value.place)
      → Declared X ts part f is → text_at ts f ≡ L.place_or_none (between (A.found (A.first (Columns.select part) is)))
  unfolding text_at L.place_or_none between A.found
  text part say (absent h g) = rw (text_at, h, g)
  text part say (present e i p a h q m o g) = rw (text_at, h, g, ← second ts f e q) (say e (Columns.parts i) a (says e i m.more) o)

  kind-means : Declared X ts (λ p. p.kind) f is → kind_at ts f ≡ unwrap_or (A.found (A.first (Columns.select λ p. p.kind) is)) Transducer
  unfolding kind_at A.found
  kind-means (absent h g) = rw (kind_at, h, g)
  kind-means (present e i p a h q m o g) = rw (kind_at, h, g, ← second ts f e q) ((says e i m.more).kind a o)

  output-means : (b : ℕ) → Declared X ts (λ p. p.output) f is → decoder_at b ts f ≡ resolve_decoder b (unwrap_or (A.found (A.first (Columns.select λ p. p.output) is)) raw_word)
  unfolding decoder_at A.found resolve_decoder
  output-means b (absent h g) = rw (decoder_at, h, g)
  output-means b (present e i p a h q m o g) = rw (decoder_at, h, g, ← second ts f e q, ← third ts f e q) ((says e i m.more).output a o b)

  tapes-means : Declared X ts (λ p. p.tapes) f is → tapes_at ts f ≡ tapes_of (A.found (A.first (Columns.select λ p. p.tapes) is))
  unfolding tapes_at tapes_of A.found
  tapes-means (absent h g) = rw (tapes_at, h, g)
  tapes-means (present e i p a h q m o g) = rw (tapes_at, h, g, ← third ts f e q) ((says e i m.more).tapes a o).0

  blank_means : Declared X ts (λ p. p.blank) f is → blank_at ts f ≡ A.resolve 0x2423 (unwrap_or (A.found (A.first (Columns.select λ p. p.blank) is)) raw_blank)
  unfolding blank_at A.found A.resolve
  blank_means (absent h g) = rw (blank_at, h, g)
  blank_means (present e i p a h q m o g) = rw (blank_at, h, g, ← third ts f e q) ((says e i m.more).blank a o)

  -- the places of values
  input_place_lem : Declared X ts (λ p. p.input) f is → place_at ts f 1 ≡ L.or_none (place_of (A.found (A.first (Columns.select λ p. p.input) is)))
  unfolding place_at L.or_none place_of A.found
  input_place_lem (absent h g) = rw (place_at, h, g)
  input_place_lem (present e i p a h q m o g) = rw (place_at, h, g, ← second ts f e q) ((says e i m.more).input a o).1

  tapes-place : Declared X ts (λ p. p.tapes) f is → place_at ts f 2 ≡ L.or_none (place_of (A.found (A.first (Columns.select λ p. p.tapes) is)))
  unfolding place_at L.or_none place_of A.found
  tapes-place (absent h g) = rw (place_at, h, g)
  tapes-place (present e i p a h q m o g) = rw (place_at, h, g, ← third ts f e q) ((says e i m.more).tapes a o).1

  start-place : Declared X ts (λ p. p.start) f is → place_at ts f 2 ≡ L.or_none (place_of (A.found (A.first (Columns.select λ p. p.start) is)))
  unfolding place_at L.or_none place_of A.found
  start-place (absent h g) = rw (place_at, h, g)
  start-place (present e i p a h q m o g) = rw (place_at, h, g, ← third ts f e q) ((says e i m.more).start a o)

  -- the start's name, or that of the first state
  start-means : (s : Span) (names : List (Located Span (List ℕ))) → (A.first (Columns.select λ p. p.start) is ≡ None → s ≡ L.place_or_none (head (option_to_list (A.found (A.first (Columns.select λ p. p.start) is)) ++ names)))
      → Declared X ts (λ p. p.start) f is → start_at ts f s ≡ L.place_or_none (head (option_to_list (A.found (A.first (Columns.select λ p. p.start) is)) ++ names))
  unfolding start_at place_at L.place_or_none head A.found
  start-means s names z (absent h g) = rw (start_at, h) (z g)
  start-means s names z (present e i p a h q m o g) = rw (start_at, place_at, h, g, ← third ts f e q) ((says e i m.more).start a o)

-- ---- all of it
module _ (X : Entry → Item Span → Type 0) (says : (e : Entry) (i : Item Span) → X e i → Says e (Columns.parts i)) (ts : List Token) (few : length ts ≤ 0xffffffff) (es : List Entry)
    (ls : List (Line Span)) (all : AllMean X ts es ls) where
  abbrev firsts : List ℕ
  firsts = declarations (length ts) undeclared es

  -- given the place of the first state, where no start is declared, and the section counts
  pub head-means : (s : Span) (n : Counts)
      → (A.first (Columns.select λ p. p.start) (A.items ls) ≡ None → s ≡ (L.head_of (machine_of ls)).start)
      → n ≡ (L.head_of (machine_of ls)).counts
      → head_at ts firsts s n ≡ L.head_of (machine_of ls)
  unfolding head_at declared_in map_in L.head_of machine_of A.blank_of A.states_in
  head-means s n z c =
      let is = A.items ls in
      let m = declared-part X ts (λ p. p.machine) 0 (omega arith) (λ i. (fills i).0) few es ls all in
      let k = declared-part X ts (λ p. p.kind) 1 (omega arith) (λ i. (fills i).1) few es ls all in
      let x = declared-part X ts (λ p. p.input) 2 (omega arith) (λ i. (fills i).2) few es ls all in
      let o = declared-part X ts (λ p. p.output) 3 (omega arith) (λ i. (fills i).3) few es ls all in
      let t = declared-part X ts (λ p. p.tapes) 4 (omega arith) (λ i. (fills i).4) few es ls all in
      let q = declared-part X ts (λ p. p.states) 5 (omega arith) (λ i. (fills i).5) few es ls all in
      let sig = declared-part X ts (λ p. p.sigma) 6 (omega arith) (λ i. (fills i).6) few es ls all in
      let gam = declared-part X ts (λ p. p.gamma) 7 (omega arith) (λ i. (fills i).7) few es ls all in
      let b = declared-part X ts (λ p. p.blank) 8 (omega arith) (λ i. (fills i).8) few es ls all in
      let st = declared-part X ts (λ p. p.start) 9 (omega arith) (λ i. (fills i).9) few es ls all in
      let blank : blank_at ts (get_or firsts 8 0) ≡ A.blank_of is = blank_means X says ts is (get_or firsts 8 0) b in
      let e₁ : text_at ts (get_or firsts 0 0) ≡ (L.head_of (machine_of ls)).name = text X says ts is (get_or firsts 0 0) (λ p. p.machine) (λ e p x y h. y.machine x h) m in
      let e₂ : text_at ts (get_or firsts 2 0) ≡ (L.head_of (machine_of ls)).input = text X says ts is (get_or firsts 2 0) (λ p. p.input) (λ e p x y h. (y.input x h).0) x in
      let e₃ : kind_at ts (get_or firsts 1 0) ≡ (L.head_of (machine_of ls)).kind = kind-means X says ts is (get_or firsts 1 0) k in
      let e₄ : decoder_at (blank_at ts (get_or firsts 8 0)) ts (get_or firsts 3 0) ≡ (L.head_of (machine_of ls)).output =
      ap (λ (b : ℕ). decoder_at b ts (get_or firsts 3 0)) blank ∙ output-means X says ts is (get_or firsts 3 0) (A.blank_of is) o in
      let e₅ : tapes_at ts (get_or firsts 4 0) ≡ (L.head_of (machine_of ls)).tapes = tapes-means X says ts is (get_or firsts 4 0) t in
      let e₆ : ltb (get_or firsts 5 0) (length ts) ≡ (L.head_of (machine_of ls)).declared.states = flag-found X says ts is (get_or firsts 5 0) (λ p. p.states) q in
      let e₇ : ltb (get_or firsts 6 0) (length ts) ≡ (L.head_of (machine_of ls)).declared.input_alphabet = flag-found X says ts is (get_or firsts 6 0) (λ p. p.sigma) sig in
      let e₈ : ltb (get_or firsts 7 0) (length ts) ≡ (L.head_of (machine_of ls)).declared.tape_alphabet = flag-found X says ts is (get_or firsts 7 0) (λ p. p.gamma) gam in
      let e₉ : ltb (get_or firsts 9 0) (length ts) ≡ (L.head_of (machine_of ls)).declared.start = flag-found X says ts is (get_or firsts 9 0) (λ p. p.start) st in
      let f₁ : ltb (get_or firsts 8 0) (length ts) ≡ (L.head_of (machine_of ls)).declared.blank = flag X says ts is (get_or firsts 8 0) (λ p. p.blank) b in
      let f₂ : start_at ts (get_or firsts 9 0) s ≡ (L.head_of (machine_of ls)).start = start-means X says ts is (get_or firsts 9 0) s _ z st in
      let f₃ : place_at ts (get_or firsts 1 0) 0 ≡ (L.head_of (machine_of ls)).map.kind = whole X says ts is (get_or firsts 1 0) (λ p. p.kind) k in
      let f₄ : place_at ts (get_or firsts 2 0) 1 ≡ (L.head_of (machine_of ls)).map.input = input_place_lem X says ts is (get_or firsts 2 0) x in
      let f₅ : place_at ts (get_or firsts 4 0) 2 ≡ (L.head_of (machine_of ls)).map.tapes = tapes-place X says ts is (get_or firsts 4 0) t in
      let f₆ : place_at ts (get_or firsts 9 0) 2 ≡ (L.head_of (machine_of ls)).map.start = start-place X says ts is (get_or firsts 9 0) st in
      let f₇ : place_at ts (get_or firsts 5 0) 0 ≡ (L.head_of (machine_of ls)).map.states = whole X says ts is (get_or firsts 5 0) (λ p. p.states) q in
      λ j. record {
        name = e₁ j;
        input = e₂ j;
        kind = e₃ j;
        output = e₄ j;
        tapes = e₅ j;
        blank = blank j;
        declared = record { states = e₆ j; input_alphabet = e₇ j; tape_alphabet = e₈ j; start = e₉ j; blank = f₁ j };
        start = f₂ j;
        map = record { kind = f₃ j; input = f₄ j; tapes = f₅ j; start = f₆ j; states = f₇ j };
        counts = c j;
      }
