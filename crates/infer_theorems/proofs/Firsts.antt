-- The first declarations of a row: each is absent from the language's lines too, or its line shows what the language's first item
-- declares.
use mathlib.Core.Path.{◌≡◌, sym, ap, subst, ◌∙◌}
use mathlib.Core.Bool.{true, false}
use mathlib.Core.List.{List}
use Rattle.std.specs.Prelude.{Option, None, Some}
use Prim.Native.Nat.{ℕ, ◌+◌, ◌≤◌, ◌<◌}
use native.Mathlib.Omega.{arith}
use lib.Dec.{eqb, ltb}
use lib.ListN.{length, get_or}
use Rattle.diag.specs.declared.Span.{Span as Place}
use Rattle.tokens.specs.declared.Token.{Token}
use Rattle.parser.specs.Row.{peek}
use Rattle.language.specs.Machine.{Located}
use Rattle.language.specs.Lines.{RawSymbol, Text, Item, machine_item, input_item, kind_item, output_item, tapes_item, states_item, final_item, input_alphabet_item, tape_alphabet_item, blank_item, start_item, transition_item, Line}
use Rattle.language.specs.Assembly as A
use Rattle.language.proofs.Columns
use Rattle.assembler.specs.Entries.{Entry, entries}
use Rattle.assembler.specs.Declarations.{undeclared, declarations}
use Rattle.assembler.specs.Finals.{names_of}
use Rattle.assembler.proofs.Means.{number, AllMean}
use Rattle.assembler.proofs.FinalsMean.{AllNames}
use Rattle.sheet.specs.Rules.{resolve}
use Rattle.sheet_theorems.proofs.Declared.{Agrees, fills, Declared, absent, present, declared-part}
use Rattle.sheet_theorems.proofs.Shows.{range, StateShows, TextShows, SymbolsShow, Mentions}

-- the first item with a part, whose line is at f: there is none, or P holds of what it declares
pub data At {B : Type 0} (ts : List Token) (f : ℕ) (P : B → Type 0) : Option (Located Place B) → Type 0 where
  nowhere : ltb f (length ts) ≡ false → At ts f P None
  there : {a : B} {p : Place} → ltb f (length ts) ≡ true → P a → At ts f P (Some (record { value = a; place = p }))

-- what the line at i says of each part of its item
pub record Mentioned (text : List ℕ) (ts : List Token) (i : ℕ) (p : Columns.Parts Place) : Type 0 where
  pub input : (x : Text Place) → p.input ≡ Some x → TextShows text (peek ts (i + 1)) x
  pub states : (q : List (Located Place (List ℕ))) → p.states ≡ Some q → AllNames text ts (names_of ts i) q
  pub sigma : (s : List (Located Place RawSymbol)) → p.sigma ≡ Some s → SymbolsShow (range ts (i + 1) (peek ts i).value) s
  pub gamma : (s : List (Located Place RawSymbol)) → p.gamma ≡ Some s → SymbolsShow (range ts (i + 1) (peek ts i).value) s
  pub blank : (s : RawSymbol) → p.blank ≡ Some s → (b : ℕ) → resolve b (peek ts (i + 2)) ≡ A.resolve b s
  pub start : (x : Located Place (List ℕ)) → p.start ≡ Some x → StateShows text (peek ts (i + 2)) x
  pub finals : (q : List (Located Place (List ℕ))) → p.finals ≡ Some q → AllNames text ts (names_of ts i) q

no : {B X : Type 0} (b : B) → None ≡ Some b → X
no b e = absurd (let z : ◌≡◌ {A = ℕ} 0 1 = cc in omega arith)

some_of : {B : Type 0} (a b : B) → Some a ≡ Some b → a ≡ b
some_of a b e = cc

mentioned : (text : List ℕ) (ts : List Token) (i : ℕ) (k : Item Place) → Mentions text ts i k → Mentioned text ts i (Columns.parts k)
mentioned text ts i (machine_item x) m = record { input = λ y e. no y e; states = λ y e. no y e; sigma = λ y e. no y e; gamma = λ y e. no y e; blank = λ y e. no y e; start = λ y e. no y e; finals = λ y e. no y e }
mentioned text ts i (kind_item x) m = record { input = λ y e. no y e; states = λ y e. no y e; sigma = λ y e. no y e; gamma = λ y e. no y e; blank = λ y e. no y e; start = λ y e. no y e; finals = λ y e. no y e }
mentioned text ts i (output_item x) m = record { input = λ y e. no y e; states = λ y e. no y e; sigma = λ y e. no y e; gamma = λ y e. no y e; blank = λ y e. no y e; start = λ y e. no y e; finals = λ y e. no y e }
mentioned text ts i (tapes_item x) m = record { input = λ y e. no y e; states = λ y e. no y e; sigma = λ y e. no y e; gamma = λ y e. no y e; blank = λ y e. no y e; start = λ y e. no y e; finals = λ y e. no y e }
mentioned text ts i (transition_item x) m = record { input = λ y e. no y e; states = λ y e. no y e; sigma = λ y e. no y e; gamma = λ y e. no y e; blank = λ y e. no y e; start = λ y e. no y e; finals = λ y e. no y e }
mentioned text ts i (input_item x) m = record { input = λ y e. subst (TextShows text (peek ts (i + 1))) (some_of x y e) m; states = λ y e. no y e; sigma = λ y e. no y e; gamma = λ y e. no y e; blank = λ y e. no y e; start = λ y e. no y e; finals = λ y e. no y e }
mentioned text ts i (states_item x) m = record { input = λ y e. no y e; states = λ y e. subst (AllNames text ts (names_of ts i)) (some_of x y e) m; sigma = λ y e. no y e; gamma = λ y e. no y e; blank = λ y e. no y e; start = λ y e. no y e; finals = λ y e. no y e }
mentioned text ts i (input_alphabet_item x) m = record { input = λ y e. no y e; states = λ y e. no y e; sigma = λ y e. subst (SymbolsShow (range ts (i + 1) (peek ts i).value)) (some_of x y e) m; gamma = λ y e. no y e; blank = λ y e. no y e; start = λ y e. no y e; finals = λ y e. no y e }
mentioned text ts i (tape_alphabet_item x) m = record { input = λ y e. no y e; states = λ y e. no y e; sigma = λ y e. no y e; gamma = λ y e. subst (SymbolsShow (range ts (i + 1) (peek ts i).value)) (some_of x y e) m; blank = λ y e. no y e; start = λ y e. no y e; finals = λ y e. no y e }
mentioned text ts i (blank_item x) m = record { input = λ y e. no y e; states = λ y e. no y e; sigma = λ y e. no y e; gamma = λ y e. no y e; blank = λ y e b. m b ∙ ap (A.resolve b) (some_of x y e); start = λ y e. no y e; finals = λ y e. no y e }
mentioned text ts i (start_item x) m = record { input = λ y e. no y e; states = λ y e. no y e; sigma = λ y e. no y e; gamma = λ y e. no y e; blank = λ y e. no y e; start = λ y e. subst (StateShows text (peek ts (i + 2))) (some_of x y e) m; finals = λ y e. no y e }
mentioned text ts i (final_item x) m = record { input = λ y e. no y e; states = λ y e. no y e; sigma = λ y e. no y e; gamma = λ y e. no y e; blank = λ y e. no y e; start = λ y e. no y e; finals = λ y e. subst (AllNames text ts (names_of ts i)) (some_of x y e) m }

module _ (text : List ℕ) (X : Entry → Item Place → Type 0) (ts : List Token) (says : (e : Entry) (i : Item Place) → X e i → Mentions text ts e.at i) (few : length ts ≤ 0xffffffff) (ls : List (Line Place))
    (all : AllMean X ts (entries ts) ls) where
  abbrev pub firsts : List ℕ
  firsts = declarations (length ts) undeclared (entries ts)

  declared : {B : Type 0} (part : Columns.Parts Place → Option B) (k : ℕ) → k < 11 → ((i : Item Place) → Agrees (part (Columns.parts i)) (eqb (number i) k)) → Declared X ts part (get_or firsts k 0) (A.items ls)
  declared part k low agrees = declared-part X ts part k low agrees few (entries ts) ls all

  looked : {B : Type 0} (part : Columns.Parts Place → Option B) (f : ℕ) (P : B → Type 0) → ((p : Columns.Parts Place) → Mentioned text ts f p → (a : B) → part p ≡ Some a → P a)
      → Declared X ts part f (A.items ls) → At ts f P (A.first (Columns.select part) (A.items ls))
  looked {B} part f P of (absent h g) = subst (At ts f P) (sym g) (nowhere h)
  looked {B} part f P of (present e i p a h q m o g) =
      let at : e.at ≡ f = ap (λ (e : Entry). e.at) q in
      let here : Mentioned text ts f (Columns.parts i) = subst (λ (n : ℕ). Mentioned text ts n (Columns.parts i)) at (mentioned text ts e.at i (says e i m.more)) in
      subst (At ts f P) (sym g) (there h (of (Columns.parts i) here a o))

  pub input_at : At ts (get_or firsts 2 0) (TextShows text (peek ts (get_or firsts 2 0 + 1))) (A.first (Columns.select λ p. p.input) (A.items ls))
  input_at = looked (λ p. p.input) (get_or firsts 2 0) (TextShows text (peek ts (get_or firsts 2 0 + 1))) (λ p m a e. m.input a e) (declared (λ p. p.input) 2 (omega arith) (λ i. (fills i).2))

  pub states-at : At ts (get_or firsts 5 0) (AllNames text ts (names_of ts (get_or firsts 5 0))) (A.first (Columns.select λ p. p.states) (A.items ls))
  states-at = looked (λ p. p.states) (get_or firsts 5 0) (AllNames text ts (names_of ts (get_or firsts 5 0))) (λ p m a e. m.states a e) (declared (λ p. p.states) 5 (omega arith) (λ i. (fills i).5))

  pub sigma-at : let f = get_or firsts 6 0 in At ts f (SymbolsShow (range ts (f + 1) (peek ts f).value)) (A.first (Columns.select λ p. p.sigma) (A.items ls))
  sigma-at = let f = get_or firsts 6 0 in looked (λ p. p.sigma) f (SymbolsShow (range ts (f + 1) (peek ts f).value)) (λ p m a e. m.sigma a e) (declared (λ p. p.sigma) 6 (omega arith) (λ i. (fills i).6))

  pub gamma-at : let f = get_or firsts 7 0 in At ts f (SymbolsShow (range ts (f + 1) (peek ts f).value)) (A.first (Columns.select λ p. p.gamma) (A.items ls))
  gamma-at = let f = get_or firsts 7 0 in looked (λ p. p.gamma) f (SymbolsShow (range ts (f + 1) (peek ts f).value)) (λ p m a e. m.gamma a e) (declared (λ p. p.gamma) 7 (omega arith) (λ i. (fills i).7))

  pub blank_at_lem : let f = get_or firsts 8 0 in At ts f (λ (s : RawSymbol). (b : ℕ) → resolve b (peek ts (f + 2)) ≡ A.resolve b s) (A.first (Columns.select λ p. p.blank) (A.items ls))
  blank_at_lem = let f = get_or firsts 8 0 in looked (λ p. p.blank) f (λ (s : RawSymbol). (b : ℕ) → resolve b (peek ts (f + 2)) ≡ A.resolve b s) (λ p m a e. m.blank a e) (declared (λ p. p.blank) 8 (omega arith) (λ i. (fills i).8))

  pub start_at_lem : At ts (get_or firsts 9 0) (StateShows text (peek ts (get_or firsts 9 0 + 2))) (A.first (Columns.select λ p. p.start) (A.items ls))
  start_at_lem = looked (λ p. p.start) (get_or firsts 9 0) (StateShows text (peek ts (get_or firsts 9 0 + 2))) (λ p m a e. m.start a e) (declared (λ p. p.start) 9 (omega arith) (λ i. (fills i).9))

  pub finals_at_lem : At ts (get_or firsts 10 0) (AllNames text ts (names_of ts (get_or firsts 10 0))) (A.first (Columns.select λ p. p.finals) (A.items ls))
  finals_at_lem = looked (λ p. p.finals) (get_or firsts 10 0) (AllNames text ts (names_of ts (get_or firsts 10 0))) (λ p m a e. m.finals a e) (declared (λ p. p.finals) 10 (omega arith) (λ i. (fills i).10))
