-- The blank and the sections of Σ and Γ are the language's.
use mathlib.Core.Path.{◌≡◌, refl, sym, ap, ap₂, subst, ◌∙◌}
use mathlib.Core.Bool.{Bool, true, false, cond, ◌||◌}
use mathlib.Core.List.{List, [], ◌∷◌, ◌++◌, map, append-nil}
use Rattle.std.specs.Prelude.{Option, None, Some, unwrap_or}
use Prim.Native.Nat.{ℕ, ◌+◌, ◌≤◌}
use borrow.Author.Tests.{eq-eqb}
use lib.Dec.{eqb, ltb}
use lib.ListN.{length, get_or, drop}
use Rattle.diag.proofs.Cases.{by_test_lem}
use Rattle.diag.specs.declared.Span.{Span as Place}
use Rattle.tokens.specs.declared.Token.{Token}
use Rattle.parser.specs.Row.{peek}
use Rattle.parser.specs.Views.{is_symbol}
use Rattle.language.specs.Machine.{Located, Symbol}
use Rattle.language.specs.Content.{value_or}
use Rattle.language.specs.Lines.{RawSymbol, raw_blank, Item, Line}
use Rattle.language.specs.Assembly as A
use Rattle.language.proofs.Columns
use Rattle.language.specs.Infer as I
use Rattle.language.specs.Layout as L
use Rattle.language.proofs.Every.{Every}
use Rattle.language.proofs.Counts.{Fits, Chosen, kept_fits, flat_append}
use Rattle.language.proofs.FirstUse as U
use Rattle.language.proofs.LineUses.{lines_use, candidates_of_lines, candidates_from_lines}
use Rattle.assembler.specs.Entries.{Entry, entries}
use Rattle.assembler.proofs.Means.{AllMean}
use Rattle.sheet.specs.Rules.{resolve}
use Rattle.infer_symbols.specs.Symbols.{range, blank_of, symbols, symbols_in, is_blank, has_blank, rules_symbols, codes_of}
use Rattle.infer_symbols.specs.Input.{input_of}
use Rattle.infer_symbols.specs.Alphabets.{listed_words, inferred_words, other_words, line_codes, candidates, gamma_codes, declared_gamma, gamma_words, inferred_sigma, sigma_words}
use Rattle.infer_symbols.proofs.CodesMean.{codes_mean, less_mean}
use Rattle.sheet_theorems.proofs.Shows.{SymbolsShow, no_symbols, no_symbol, one_symbol, Mentions}
use Rattle.infer_theorems.proofs.Firsts.{At, nowhere, there, firsts, sigma-at, gamma-at, blank_at_lem}
use Rattle.infer_theorems.proofs.RuleLines.{RulesAt, rules-at}
use Rattle.infer_theorems.proofs.RuleSymbols.{rules-fresh}
use Rattle.infer_theorems.proofs.StatesInferred.{all-kept}

abbrev Set : Type 0
Set = List (Located Place RawSymbol)

-- ---- the symbols of a set
module _ (b : ℕ) where
  symbols_yes : (t : Token) (ts : List Token) → is_symbol t ≡ true → symbols (t ∷ ts) ≡ t ∷ symbols ts
  unfolding symbols
  symbols_yes t ts e = rw e

  symbols_no : (t : Token) (ts : List Token) → is_symbol t ≡ false → symbols (t ∷ ts) ≡ symbols ts
  unfolding symbols
  symbols_no t ts e = rw e

  listed_mean : (ts : List Token) (ss : Set) → SymbolsShow ts ss → L.flat (listed_words b) (symbols ts) ≡ L.flat L.symbol_words (map (I.listed b) ss)
  unfolding symbols L.flat L.symbol_words I.listed
  listed_mean [] [] no_symbols = refl
  listed_mean [] (s ∷ ss) m = elim m [ ]
  listed_mean (t ∷ ts) ss (no_symbol e r) = ap (L.flat (listed_words b)) (symbols_no t ts e) ∙ listed_mean ts ss r
  listed_mean (t ∷ ts) (s ∷ ss) (one_symbol e c r) =
      ap (L.flat (listed_words b)) (symbols_yes t ts e)
      ∙ ap₂ (λ (x y : List ℕ). x ++ y) (ap₂ (λ (n : ℕ) (p : List ℕ). n ∷ p) (c.code b) c.place) (listed_mean ts ss r)

  codes_are : (ts : List Token) (ss : Set) → SymbolsShow ts ss → codes_of b (symbols ts) ≡ map (λ x. A.resolve b x.value) ss
  unfolding symbols
  codes_are [] [] no_symbols = refl
  codes_are [] (s ∷ ss) m = elim m [ ]
  codes_are (t ∷ ts) ss (no_symbol e r) = ap (codes_of b) (symbols_no t ts e) ∙ codes_are ts ss r
  codes_are (t ∷ ts) (s ∷ ss) (one_symbol e c r) = ap (codes_of b) (symbols_yes t ts e) ∙ ap₂ (λ (n : ℕ) (l : List ℕ). n ∷ l) (c.code b) (codes_are ts ss r)

  -- its codes as symbols of the language
  listed-codes : (ss : Set) → map (λ s. s.code) (map (I.listed b) ss) ≡ map (λ x. A.resolve b x.value) ss
  unfolding I.listed
  listed-codes [] = refl
  listed-codes (s ∷ ss) = ap (λ (l : List ℕ). A.resolve b s.value ∷ l) (listed-codes ss)

  blank_by : (t : Token) (ts : List Token) (x : Bool) → is_blank b t ≡ x → has_blank b (t ∷ ts) ≡ (x || has_blank b ts)
  unfolding has_blank
  blank_by t ts x e = ap (λ (x : Bool). elim x [ true ↦ true | false ↦ has_blank b ts ]) e ∙ go x
    where
      go : (x : Bool) → elim x [ true ↦ true | false ↦ has_blank b ts ] ≡ (x || has_blank b ts)
      go true = refl
      go false = refl

  blank_no : (t : Token) → is_symbol t ≡ false → is_blank b t ≡ false
  unfolding is_blank
  blank_no t e = rw e

  blank_yes : (t : Token) → is_symbol t ≡ true → is_blank b t ≡ eqb (resolve b t) b
  unfolding is_blank
  blank_yes t e = rw e

  has_mean : (ts : List Token) (ss : Set) → SymbolsShow ts ss → has_blank b ts ≡ I.member eqb (map (λ x. A.resolve b x.value) ss) b
  unfolding has_blank I.member
  has_mean [] [] no_symbols = refl
  has_mean [] (s ∷ ss) m = elim m [ ]
  has_mean (t ∷ ts) ss (no_symbol e r) = blank_by t ts false (blank_no t e) ∙ has_mean ts ss r
  has_mean (t ∷ ts) (s ∷ ss) (one_symbol e c r) = blank_by t ts (eqb (A.resolve b s.value) b) (blank_yes t e ∙ ap (λ (n : ℕ). eqb n b) (c.code b)) ∙ ap (λ (x : Bool). eqb (A.resolve b s.value) b || x) (has_mean ts ss r)

  -- inferred symbols
  inferred_mean : (cs : List ℕ) → L.flat inferred_words cs ≡ L.flat L.symbol_words (map I.inferred cs)
  unfolding L.flat L.symbol_words I.inferred
  inferred_mean [] = refl
  inferred_mean (c ∷ cs) = ap (λ (l : List ℕ). (c ∷ 0 ∷ 0 ∷ []) ++ l) (inferred_mean cs)

  inferred-codes : (cs : List ℕ) → map (λ s. s.code) (map (I.inferred {P = Place}) cs) ≡ cs
  unfolding I.inferred
  inferred-codes [] = refl
  inferred-codes (c ∷ cs) = ap (λ (l : List ℕ). c ∷ l) (inferred-codes cs)

  -- a declared Γ
  gamma_mean : (ts : List Token) (ss : Set) → SymbolsShow ts ss → L.flat (listed_words b) (symbols ts) ++ cond (has_blank b ts) [] (inferred_words b) ≡ L.flat L.symbol_words (I.with_blank b (map (I.listed b) ss))
  unfolding I.with_blank L.flat L.symbol_words I.inferred
  gamma_mean ts ss r =
      let g : List (Symbol Place) = map (I.listed b) ss in
      let has : I.member eqb (map (λ s. s.code) g) b ≡ has_blank b ts = ap (λ (l : List ℕ). I.member eqb l b) (listed-codes ss) ∙ sym (has_mean ts ss r) in
      ap (λ (l : List ℕ). l ++ cond (has_blank b ts) [] (inferred_words b)) (listed_mean ts ss r) ∙ go g (has_blank b ts) ∙ ap (λ (x : Bool). L.flat L.symbol_words (elim x [ true ↦ g | false ↦ g ++ I.inferred b ∷ [] ])) (sym has)
    where
      go : (g : List (Symbol Place)) (x : Bool) → L.flat L.symbol_words g ++ cond x [] (inferred_words b) ≡ L.flat L.symbol_words (elim x [ true ↦ g | false ↦ g ++ I.inferred b ∷ [] ])
      go g true = append-nil (L.flat L.symbol_words g)
      go g false = sym (flat_append L.symbol_words g (I.inferred b ∷ []))

  -- Σ as Γ less the blank
  other_yes : (t : Token) → eqb (resolve b t) b ≡ true → other_words b t ≡ []
  unfolding other_words
  other_yes t e = rw e

  other_no : (t : Token) → eqb (resolve b t) b ≡ false → other_words b t ≡ inferred_words (resolve b t)
  unfolding other_words
  other_no t e = rw e

  less_there : (c : ℕ) (cs : List ℕ) → eqb c b ≡ true → I.less b (c ∷ cs) ≡ I.less b cs
  unfolding I.less
  less_there c cs e = rw (e, I.less)

  less_other : (c : ℕ) (cs : List ℕ) → eqb c b ≡ false → I.less b (c ∷ cs) ≡ c ∷ I.less b cs
  unfolding I.less
  less_other c cs e = rw (e, I.less)

  others_mean : (us : List Token) → L.flat (other_words b) us ≡ L.flat inferred_words (I.less b (codes_of b us))
  unfolding L.flat I.less
  others_mean [] = refl
  others_mean (t ∷ us) = by_test_lem (eqb (resolve b t) b)
      (λ y. ap (λ (l : List ℕ). l ++ L.flat (other_words b) us) (other_yes t y) ∙ others_mean us ∙ ap (L.flat inferred_words) (sym (less_there (resolve b t) (codes_of b us) y)))
      (λ n. ap₂ (λ (l m : List ℕ). l ++ m) (other_no t n) (others_mean us) ∙ ap (L.flat inferred_words) (sym (less_other (resolve b t) (codes_of b us) n)))

  -- the blank at the end changes nothing of it
  less_blank : (cs : List ℕ) → I.less b (cs ++ b ∷ []) ≡ I.less b cs
  unfolding I.less
  less_blank [] = less_there b [] (eq-eqb b b refl)
  less_blank (c ∷ cs) = by_test_lem (eqb c b) (λ y. less_there c (cs ++ b ∷ []) y ∙ less_blank cs ∙ sym (less_there c cs y)) (λ n. less_other c (cs ++ b ∷ []) n ∙ ap (λ (l : List ℕ). c ∷ l) (less_blank cs) ∙ sym (less_other c cs n))

  code-append : (g : List (Symbol Place)) → map (λ s. s.code) (g ++ I.inferred b ∷ []) ≡ map (λ s. s.code) g ++ b ∷ []
  unfolding I.inferred
  code-append [] = refl
  code-append (s ∷ g) = ap (λ (l : List ℕ). s.code ∷ l) (code-append g)

  less_with : (g : List (Symbol Place)) → I.less b (map (λ s. s.code) (I.with_blank b g)) ≡ I.less b (map (λ s. s.code) g)
  unfolding I.with_blank
  less_with g = go (I.member eqb (map (λ s. s.code) g) b)
    where
      go : (x : Bool) → I.less b (map (λ (s : Symbol Place). s.code) (elim x [ true ↦ g | false ↦ g ++ I.inferred b ∷ [] ])) ≡ I.less b (map (λ s. s.code) g)
      go true = refl
      go false = ap (I.less b) (code-append g) ∙ less_blank (map (λ s. s.code) g)

-- ---- the sections
module _ (text : List ℕ) (X : Entry → Item Place → Type 0) (ts : List Token) (says : (e : Entry) (i : Item Place) → X e i → Mentions text ts e.at i) (few : length ts ≤ 0xffffffff) (ls : List (Line Place))
    (all : AllMean X ts (entries ts) ls) where
  abbrev first : List ℕ
  first = firsts text X ts says few ls all

  abbrev is : List (Located Place (Item Place))
  is = A.items ls

  -- the blank
  pub blank_inferred : blank_of ts (get_or first 8 0) ≡ A.blank_of is
  unfolding blank_of A.blank_of
  blank_inferred = go (A.first (Columns.select λ p. p.blank) is) (blank_at_lem text X ts says few ls all)
    where
      f : ℕ
      f = get_or first 8 0

      go : (o : Option (Located Place RawSymbol)) → At ts f (λ (s : RawSymbol). (b : ℕ) → resolve b (peek ts (f + 2)) ≡ A.resolve b s) o
          → cond (ltb f (length ts)) (resolve 0x2423 (peek ts (f + 2))) 0x2423 ≡ A.resolve 0x2423 (unwrap_or (A.found o) raw_blank)
      go None (nowhere h) = unfold A.resolve A.found in rw h
      go (Some l) (there h s) = unfold A.found in rw h (s 0x2423)

  module _ (fine : A.diagnostics_of ls ≡ []) (chosen : Every Chosen (A.body_of ls).rules) (same-input : input_of text ts (get_or first 2 0) ≡ value_or (I.between (A.found (A.first (Columns.select λ p. p.input) is)))) where
    abbrev b : ℕ
    b = A.blank_of is

    abbrev rules : List (A.RuleLine Place)
    rules = (A.body_of ls).rules

    abbrev input : List ℕ
    input = value_or (I.between (A.found (A.first (Columns.select λ p. p.input) is)))

    abbrev used : List ℕ
    used = codes_of b (rules_symbols ts (entries ts))

    rules_are : RulesAt text ts (entries ts) rules
    rules_are = rules-at text X ts says (entries ts) ls all

    fits : Every Fits rules
    fits = subst (Every Fits) (all-kept ls fine) (kept_fits 0 rules)

    -- what an undeclared Γ holds besides the blank
    abbrev line_of : ℕ → Set → Type 0
    line_of f s = SymbolsShow (range ts (f + 1) (peek ts f).value) s

    declared-fresh : (s : Set) → line_of (get_or first 6 0) s → I.fresh eqb (eqb b) (line_codes b ts (get_or first 6 0) ++ used) ≡ I.fresh eqb (eqb b) (map (λ x. A.resolve b x.value) s ++ lines_use b rules)
    unfolding symbols_in
    declared-fresh s r =
        let p : List ℕ = map (λ x. A.resolve b x.value) s in
        let k : ℕ → Bool = U.after (eqb b) p in
        ap (λ (l : List ℕ). I.fresh eqb (eqb b) (l ++ used)) (codes_are b (range ts (get_or first 6 0 + 1) (peek ts (get_or first 6 0)).value) s r)
        ∙ U.fresh-behind (eqb b) p used
        ∙ ap (λ (l : List ℕ). I.fresh eqb (eqb b) p ++ l) (ap (I.fresh eqb k) (sym (append-nil used)) ∙ rules-fresh b text ts (entries ts) rules rules_are fits chosen k [] ∙ ap (I.fresh eqb k) (append-nil (lines_use b rules)))
        ∙ sym (U.fresh-behind (eqb b) p (lines_use b rules))

    by_sigma : (o : Option (Located Place Set)) → At ts (get_or first 6 0) (line_of (get_or first 6 0)) o
        → I.fresh eqb (eqb b) (candidates text b ts first) ≡ I.fresh eqb (eqb b) (candidates_of_lines b rules fits chosen (A.found o) input)
    unfolding candidates A.found
    by_sigma None (nowhere h) = rw h (ap (λ (l : List ℕ). I.fresh eqb (eqb b) (used ++ l)) same-input ∙ rules-fresh b text ts (entries ts) rules rules_are fits chosen (eqb b) input)
    by_sigma (Some l) (there {a = s} h r) = rw h (declared-fresh s r)

    abbrev sigma : Option Set
    sigma = A.found (A.first (Columns.select λ p. p.sigma) is)

    abbrev wanted : List ℕ
    wanted = I.candidates b sigma (A.expand_all b (A.kept 0 rules)) input

    codes-inferred : gamma_codes text b ts first ≡ b ∷ I.fresh eqb (eqb b) wanted
    unfolding gamma_codes
    codes-inferred =
        codes_mean b (candidates text b ts first)
        ∙ ap (λ (l : List ℕ). b ∷ l) (by_sigma (A.first (Columns.select λ p. p.sigma) is) (sigma-at text X ts says few ls all) ∙ sym (candidates_from_lines b rules fits chosen sigma input)
        ∙ ap (λ (rs : List (A.RuleLine Place)). I.fresh eqb (eqb b) (I.candidates b sigma (A.expand_all b rs) input)) (sym (all-kept ls fine)))

    -- Γ
    by_gamma : (o : Option (Located Place Set)) → At ts (get_or first 7 0) (line_of (get_or first 7 0)) o
        → gamma_words b ts first (gamma_codes text b ts first) ≡ L.flat L.symbol_words (I.infer_gamma b (A.found o) wanted)
    unfolding gamma_words declared_gamma symbols_in I.infer_gamma A.found
    by_gamma None (nowhere h) = rw h (inferred_mean b (gamma_codes text b ts first) ∙ ap (λ (l : List ℕ). L.flat L.symbol_words (map (I.inferred {P = Place}) l)) codes-inferred)
    by_gamma (Some l) (there {a = g} h r) = rw h (gamma_mean b (range ts (get_or first 7 0 + 1) (peek ts (get_or first 7 0)).value) g r)

    pub gamma-inferred : gamma_words b ts first (gamma_codes text b ts first) ≡ L.flat L.symbol_words (I.machine_of ls).gamma
    unfolding I.machine_of
    gamma-inferred = by_gamma (A.first (Columns.select λ p. p.gamma) is) (gamma-at text X ts says few ls all)

    -- Σ
    others_by : (o : Option (Located Place Set)) → At ts (get_or first 7 0) (line_of (get_or first 7 0)) o
        → inferred_sigma b ts (get_or first 7 0) (gamma_codes text b ts first) ≡ L.flat L.symbol_words (map (I.inferred {P = Place}) (I.less b (map (λ s. s.code) (I.infer_gamma {P = Place} b (A.found o) wanted))))
    unfolding inferred_sigma symbols_in I.infer_gamma A.found
    others_by None (nowhere h) = rw h
        (ap (λ (cs : List ℕ). L.flat inferred_words (drop 1 cs)) codes-inferred ∙ inferred_mean b (I.fresh eqb (eqb b) wanted)
        ∙ ap (λ (cs : List ℕ). L.flat L.symbol_words (map (I.inferred {P = Place}) cs)) (sym (less_mean b wanted) ∙ ap (I.less b) (sym (inferred-codes b (b ∷ I.fresh eqb (eqb b) wanted)))))
    others_by (Some l) (there {a = g} h r) = rw h
        (let us : List Token = range ts (get_or first 7 0 + 1) (peek ts (get_or first 7 0)).value in
        others_mean b (symbols us) ∙ inferred_mean b (I.less b (codes_of b (symbols us)))
        ∙ ap (λ (cs : List ℕ). L.flat L.symbol_words (map (I.inferred {P = Place}) cs)) (ap (I.less b) (codes_are b us g r ∙ sym (listed-codes b g)) ∙ sym (less_with b (map (I.listed b) g))))

    abbrev symbols_of : List (Symbol Place)
    symbols_of = I.infer_gamma b (A.found (A.first (Columns.select λ p. p.gamma) is)) wanted

    sigma_by : (o : Option (Located Place Set)) → At ts (get_or first 6 0) (line_of (get_or first 6 0)) o
        → sigma_words b ts first (gamma_codes text b ts first) ≡ L.flat L.symbol_words (I.infer_sigma b (A.found o) symbols_of)
    unfolding sigma_words symbols_in I.infer_sigma A.found
    sigma_by None (nowhere h) = rw h (others_by (A.first (Columns.select λ p. p.gamma) is) (gamma-at text X ts says few ls all))
    sigma_by (Some l) (there {a = s} h r) = rw h (listed_mean b (range ts (get_or first 6 0 + 1) (peek ts (get_or first 6 0)).value) s r)

    pub sigma-inferred : sigma_words b ts first (gamma_codes text b ts first) ≡ L.flat L.symbol_words (I.machine_of ls).sigma
    unfolding I.machine_of
    sigma-inferred = sigma_by (A.first (Columns.select λ p. p.sigma) is) (sigma-at text X ts says few ls all)
