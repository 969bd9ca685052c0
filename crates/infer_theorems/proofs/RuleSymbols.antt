-- The symbols of a rule's tokens in the order of first use are those that its rule line uses; a `*` uses what is read.
use mathlib.Core.Path.{◌≡◌, refl, sym, ap, ap₂, ◌∙◌}
use mathlib.Core.Bool.{Bool, true, false, cond, ◌||◌}
use mathlib.Core.List.{List, [], ◌∷◌, ◌++◌, map, append-nil, append_assoc}
use Rattle.std.specs.Prelude.{Option, None, Some}
use Prim.Native.Nat.{ℕ, suc, ◌+◌}
use native.Mathlib.Omega.{arith}
use borrow.Author.Tests.{eqb-true, eq-eqb}
use lib.Dec.{eqb}
use lib.ListN.{length, drop, length-map}
use Rattle.diag.proofs.Cases.{by_test_lem}
use Rattle.diag.specs.declared.Span.{Span as Place}
use Rattle.tokens.specs.declared.Token.{Token}
use Rattle.parser.specs.Row.{peek}
use Rattle.parser.specs.Views.{is_symbol}
use Rattle.language.specs.Machine.{Located}
use Rattle.language.specs.Lines.{RawSymbol}
use Rattle.language.specs.Assembly as A
use Rattle.language.specs.Infer as I
use Rattle.language.proofs.Every.{or_left, or_right, Every, Filled, every_map}
use Rattle.language.proofs.Facts.{map_option}
use Rattle.language.proofs.Counts.{Fits, Chosen}
use Rattle.language.proofs.FirstUse as U
use Rattle.language.proofs.LineUses.{line_uses, lines_use}
use Rattle.assembler.specs.Entries.{Entry}
use Rattle.sheet.specs.Rules.{resolve}
use Rattle.infer_symbols.specs.declared.glyphs.Walk.{Walk}
use Rattle.infer_symbols.specs.declared.glyphs.Walk.TheVariants.{Outside, Open, Behind}
use Rattle.infer_symbols.specs.Symbols.{range, symbols, takes, walked, firsts, others, further, outside, rule_symbols, rules_symbols, codes_of}
use Rattle.infer_symbols.proofs.CodesMean.{fresh_there, fresh_new}
use Rattle.sheet_theorems.proofs.Shows.{WritesShow, no_writes, no_write, write_back, one-write, ReadsShow, no_reads, no_read, opens, closes, alone, member, MentionsShow}
use Rattle.infer_theorems.proofs.RuleLines.{RulesAt, no_rules_lem, no_rule, one-rule}

map-append : {A B : Type 0} (f : A → B) (l m : List A) → map f (l ++ m) ≡ map f l ++ map f m
map-append f [] m = refl
map-append f (a ∷ l) m = ap (λ x. f a ∷ x) (map-append f l m)

-- ---- tokens that are no symbols
open_no : (t : Token) → eqb t.kind 6 ≡ true → is_symbol t ≡ false
unfolding is_symbol
open_no t e = let q : t.kind ≡ 6 = eqb-true t.kind 6 e in rw q

close_no : (t : Token) → eqb t.kind 7 ≡ true → is_symbol t ≡ false
unfolding is_symbol
close_no t e = let q : t.kind ≡ 7 = eqb-true t.kind 7 e in rw q

module _ (b : ℕ) where
  abbrev code : Located Place RawSymbol → ℕ
  code s = A.resolve b s.value

  abbrev sets : List (List (Located Place RawSymbol)) → List (List ℕ)
  sets ss = map (map code) ss

  -- ---- the first of each set
  -- whether a set is open, and what is left of the sets
  abbrev is_inside : Walk → Bool
  is_inside s = elim s [ Outside ↦ false | Open ↦ true | Behind ↦ true ]

  abbrev left_of : Walk → List (List ℕ) → List (List ℕ)
  left_of s ss = elim s [ Outside ↦ ss | Open ↦ ss | Behind ↦ drop 1 ss ]

  firsts_by : (s : Walk) (t : Token) (ts : List Token) (x : Bool) (s' : Walk) → takes s t ≡ x → walked s t ≡ s' → codes_of b (firsts s (t ∷ ts)) ≡ cond x (resolve b t ∷ []) [] ++ codes_of b (firsts s' ts)
  unfolding firsts
  firsts_by s t ts x s' e f = ap₂ (λ (x : Bool) (s : Walk). map (resolve b) (cond x (t ∷ []) [] ++ firsts s ts)) e f ∙ map-append (resolve b) (cond x (t ∷ []) []) (firsts s' ts) ∙ ap (λ (l : List ℕ). l ++ codes_of b (firsts s' ts)) (go x)
    where
      go : (x : Bool) → map (resolve b) (cond x (t ∷ []) []) ≡ cond x (resolve b t ∷ []) []
      go true = refl
      go false = refl

  takes_no : (s : Walk) (t : Token) → is_symbol t ≡ false → takes s t ≡ false
  unfolding takes
  takes_no Outside t e = e
  takes_no Open t e = e
  takes_no Behind t e = refl

  walked-open : (s : Walk) (t : Token) → eqb t.kind 6 ≡ true → walked s t ≡ Open
  unfolding walked
  walked-open s t e = rw e

  walked_close : (s : Walk) (t : Token) → eqb t.kind 6 ≡ false → eqb t.kind 7 ≡ true → walked s t ≡ Outside
  unfolding walked
  walked_close s t e f = rw (e, f)

  walked-symbol : (s : Walk) (t : Token) → eqb t.kind 6 ≡ false → eqb t.kind 7 ≡ false → is_symbol t ≡ true → walked s t ≡ elim s [ Outside ↦ Outside | Open ↦ Behind | Behind ↦ Behind ]
  unfolding walked
  walked-symbol Outside t e f g = rw (e, f)
  walked-symbol Open t e f g = rw (e, f, g)
  walked-symbol Behind t e f g = rw (e, f)

  walked-other : (s : Walk) (t : Token) → eqb t.kind 6 ≡ false → eqb t.kind 7 ≡ false → is_symbol t ≡ false → walked s t ≡ s
  unfolding walked
  walked-other Outside t e f g = rw (e, f)
  walked-other Open t e f g = rw (e, f, g)
  walked-other Behind t e f g = rw (e, f)

  firsts_mean : (s : Walk) (ts : List Token) (ss : List (List (Located Place RawSymbol))) → ReadsShow (is_inside s) ts ss → codes_of b (firsts s ts) ≡ U.firsts (left_of s (sets ss))
  unfolding firsts takes
  firsts_mean Outside [] [] no_reads = refl
  firsts_mean Outside [] (l ∷ ss) m = elim m [ ]
  firsts_mean Open [] (l ∷ ss) m = elim m [ ]
  firsts_mean Behind [] (l ∷ ss) m = elim m [ ]
  firsts_mean Open [] [] m = elim m [ ]
  firsts_mean Behind [] [] m = elim m [ ]
  firsts_mean Outside (t ∷ ts) ss (no_read e f g r) = firsts_by Outside t ts false Outside (takes_no Outside t g) (walked-other Outside t e f g) ∙ firsts_mean Outside ts ss r
  firsts_mean Open (t ∷ ts) ss (no_read e f g r) = firsts_by Open t ts false Open (takes_no Open t g) (walked-other Open t e f g) ∙ firsts_mean Open ts ss r
  firsts_mean Behind (t ∷ ts) ss (no_read e f g r) = firsts_by Behind t ts false Behind (takes_no Behind t g) (walked-other Behind t e f g) ∙ firsts_mean Behind ts ss r
  firsts_mean Outside (t ∷ ts) ss (opens e r) = firsts_by Outside t ts false Open (takes_no Outside t (open_no t e)) (walked-open Outside t e) ∙ firsts_mean Open ts ss r
  firsts_mean Behind (t ∷ ts) ([] ∷ ss) (closes e f r) = firsts_by Behind t ts false Outside refl (walked_close Behind t e f) ∙ firsts_mean Outside ts ss r
  firsts_mean Open (t ∷ ts) ([] ∷ ss) (closes e f r) = firsts_by Open t ts false Outside (takes_no Open t (close_no t f)) (walked_close Open t e f) ∙ firsts_mean Outside ts ss r
  firsts_mean Outside (t ∷ ts) ((s ∷ []) ∷ ss) (alone e f g c r) =
      firsts_by Outside t ts true Outside g (walked-symbol Outside t e f g) ∙ ap₂ (λ (x : ℕ) (l : List ℕ). x ∷ l) (c.code b) (firsts_mean Outside ts ss r)
  firsts_mean Behind (t ∷ ts) ((s ∷ l) ∷ ss) (member e f g c r) = firsts_by Behind t ts false Behind refl (walked-symbol Behind t e f g) ∙ firsts_mean Behind ts (l ∷ ss) r
  firsts_mean Open (t ∷ ts) ((s ∷ l) ∷ ss) (member e f g c r) =
      firsts_by Open t ts true Behind g (walked-symbol Open t e f g) ∙ ap₂ (λ (x : ℕ) (l : List ℕ). x ∷ l) (c.code b) (firsts_mean Behind ts (l ∷ ss) r)

  -- ---- the further members
  abbrev head_set : List (List ℕ) → List ℕ
  head_set [] = []
  head_set (l ∷ ss) = l

  furthers_split : (ss : List (List ℕ)) → U.furthers ss ≡ U.furthers (drop 1 ss) ++ drop 1 (head_set ss)
  furthers_split [] = refl
  furthers_split ([] ∷ ss) = sym (append-nil (U.furthers ss))
  furthers_split ((a ∷ s) ∷ ss) = refl

  others-on : (seen : Bool) (t : Token) (ts : List Token) → eqb t.kind 7 ≡ false → (x : Bool) → is_symbol t ≡ x
      → codes_of b (others seen (t ∷ ts)) ≡ cond seen (cond x (resolve b t ∷ []) []) [] ++ codes_of b (others (cond seen true x) ts)
  unfolding others symbols
  others-on seen t ts e x f =
      ap (λ (z : Bool). codes_of b (elim z [ true ↦ [] | false ↦ cond seen (symbols (t ∷ [])) [] ++ others (cond seen true (is_symbol t)) ts ])) e
      ∙ ap (λ (z : Bool). codes_of b (cond seen (cond z (t ∷ []) [] ++ []) [] ++ others (cond seen true z) ts)) f
      ∙ map-append (resolve b) (cond seen (cond x (t ∷ []) [] ++ []) []) (others (cond seen true x) ts) ∙ ap (λ (l : List ℕ). l ++ codes_of b (others (cond seen true x) ts)) (go seen x)
    where
      go : (seen x : Bool) → map (resolve b) (cond seen (cond x (t ∷ []) [] ++ []) []) ≡ cond seen (cond x (resolve b t ∷ []) []) []
      go true true = refl
      go true false = refl
      go false true = refl
      go false false = refl

  others_stop : (seen : Bool) (t : Token) (ts : List Token) → eqb t.kind 7 ≡ true → codes_of b (others seen (t ∷ ts)) ≡ []
  unfolding others
  others_stop seen t ts e = ap (λ (z : Bool). codes_of b (elim z [ true ↦ [] | false ↦ cond seen (symbols (t ∷ [])) [] ++ others (cond seen true (is_symbol t)) ts ])) e

  others_mean : (seen : Bool) (ts : List Token) (ss : List (List (Located Place RawSymbol))) → ReadsShow true ts ss → codes_of b (others seen ts) ≡ cond seen (head_set (sets ss)) (drop 1 (head_set (sets ss)))
  others_mean true (t ∷ ts) ss (no_read e f g r) = others-on true t ts f false g ∙ others_mean true ts ss r
  others_mean false (t ∷ ts) ss (no_read e f g r) = others-on false t ts f false g ∙ others_mean false ts ss r
  others_mean seen [] ss m = elim m [ ]
  others_mean true (t ∷ ts) ([] ∷ ss) (closes e f r) = others_stop true t ts f
  others_mean false (t ∷ ts) ([] ∷ ss) (closes e f r) = others_stop false t ts f
  others_mean true (t ∷ ts) ((s ∷ l) ∷ ss) (member e f g c r) = others-on true t ts f true g ∙ ap₂ (λ (x : ℕ) (l : List ℕ). x ∷ l) (c.code b) (others_mean true ts (l ∷ ss) r)
  others_mean false (t ∷ ts) ((s ∷ l) ∷ ss) (member e f g c r) = others-on false t ts f true g ∙ others_mean true ts (l ∷ ss) r

  further_by : (t : Token) (ts : List Token) (x : Bool) → eqb t.kind 6 ≡ x → codes_of b (further (t ∷ ts)) ≡ codes_of b (further ts) ++ codes_of b (cond x (others false ts) [])
  unfolding further
  further_by t ts x e = ap (λ (x : Bool). codes_of b (further ts ++ cond x (others false ts) [])) e ∙ map-append (resolve b) (further ts) (cond x (others false ts) [])

  further_mean : (i : Bool) (ts : List Token) (ss : List (List (Located Place RawSymbol))) → ReadsShow i ts ss → codes_of b (further ts) ≡ U.furthers (cond i (drop 1 (sets ss)) (sets ss))
  unfolding further
  further_mean false [] [] no_reads = refl
  further_mean i [] (s ∷ ss) m = elim m [ ]
  further_mean true [] [] m = elim m [ ]
  further_mean i (t ∷ ts) ss (no_read e f g r) = further_by t ts false e ∙ append-nil (codes_of b (further ts)) ∙ further_mean i ts ss r
  further_mean false (t ∷ ts) ss (opens e r) = further_by t ts true e ∙ ap₂ (λ (l m : List ℕ). l ++ m) (further_mean true ts ss r) (others_mean false ts ss r) ∙ sym (furthers_split (sets ss))
  further_mean true (t ∷ ts) ([] ∷ ss) (closes e f r) = further_by t ts false e ∙ append-nil (codes_of b (further ts)) ∙ further_mean false ts ss r
  further_mean false (t ∷ ts) ((s ∷ []) ∷ ss) (alone e f g c r) = further_by t ts false e ∙ ap (λ (l : List ℕ). l ++ []) (further_mean false ts ss r)
  further_mean true (t ∷ ts) ((s ∷ l) ∷ ss) (member e f g c r) = further_by t ts false e ∙ append-nil (codes_of b (further ts)) ∙ further_mean true ts (l ∷ ss) r

  -- ---- what is written
  abbrev written : List (Option ℕ) → List ℕ
  written [] = []
  written (None ∷ ws) = written ws
  written (Some v ∷ ws) = v ∷ written ws

  abbrev codes : List (Located Place (Option RawSymbol)) → List (Option ℕ)
  codes ws = map (λ w. map_option (A.resolve b) w.value) ws

  symbols_by : (t : Token) (ts : List Token) (x : Bool) → is_symbol t ≡ x → codes_of b (symbols (t ∷ ts)) ≡ cond x (resolve b t ∷ []) [] ++ codes_of b (symbols ts)
  unfolding symbols
  symbols_by t ts x e = ap (λ (x : Bool). codes_of b (cond x (t ∷ []) [] ++ symbols ts)) e ∙ go x
    where
      go : (x : Bool) → codes_of b (cond x (t ∷ []) [] ++ symbols ts) ≡ cond x (resolve b t ∷ []) [] ++ codes_of b (symbols ts)
      go true = refl
      go false = refl

  writes_mean : (ts : List Token) (ws : List (Located Place (Option RawSymbol))) → WritesShow ts ws → codes_of b (symbols ts) ≡ written (codes ws)
  unfolding symbols
  writes_mean [] [] no_writes = refl
  writes_mean [] (w ∷ ws) m = elim m [ ]
  writes_mean (t ∷ ts) ws (no_write e r) = symbols_by t ts false e ∙ writes_mean ts ws r
  writes_mean (t ∷ ts) ws (write_back {ws = more} e r) = symbols_by t ts false e ∙ writes_mean ts more r
  writes_mean (t ∷ ts) ws (one-write {ws = more} e c r) = symbols_by t ts true e ∙ ap₂ (λ (x : ℕ) (l : List ℕ). x ∷ l) (c.code b) (writes_mean ts more r)

  -- ---- a `*` adds nothing to what is read
  abbrev Known : (ℕ → Bool) → List ℕ → Type 0
  Known known c = (y : ℕ) → I.member eqb c y ≡ true → known y ≡ true

  stars : (c : List ℕ) (ws : List (Option ℕ)) (known : ℕ → Bool) (r : List ℕ) → length ws ≡ length c → Known known c → I.fresh eqb known (U.outs c ws ++ r) ≡ I.fresh eqb known (written ws ++ r)
  unfolding I.member
  stars [] [] known r n k = refl
  stars [] (w ∷ ws) known r n k = absurd (omega arith)
  stars (a ∷ c) [] known r n k = absurd (omega arith)
  stars (a ∷ c) (None ∷ ws) known r n k =
      fresh_there known a (U.outs c ws ++ r) (k a (or_left (eqb a a) (I.member eqb c a) (eq-eqb a a refl))) ∙ stars c ws known r (omega arith) (λ y e. k y (or_right (eqb a y) (I.member eqb c y) e))
  stars (a ∷ c) (Some v ∷ ws) known r n k = by_test_lem (known v)
      (λ y. fresh_there known v (U.outs c ws ++ r) y ∙ stars c ws known r (omega arith) (λ y e. k y (or_right (eqb a y) (I.member eqb c y) e)) ∙ sym (fresh_there known v (written ws ++ r) y))
      (λ x. fresh_new known v (U.outs c ws ++ r) x
      ∙ ap (λ (l : List ℕ). v ∷ l) (stars c ws (U.also v known) r (omega arith) (λ y e. or_right (eqb v y) (known y) (k y (or_right (eqb a y) (I.member eqb c y) e))))
      ∙ sym (fresh_new known v (written ws ++ r) x))

  -- behind p, where each of c is known or one of p
  stars_behind : (p c : List ℕ) (ws : List (Option ℕ)) (known : ℕ → Bool) (r : List ℕ) → length ws ≡ length c → ((y : ℕ) → I.member eqb c y ≡ true → (known y || I.member eqb p y) ≡ true)
      → I.fresh eqb known (p ++ (U.outs c ws ++ r)) ≡ I.fresh eqb known (p ++ (written ws ++ r))
  unfolding I.member
  stars_behind [] c ws known r n k = stars c ws known r n (λ y e. drop_false (known y) (k y e))
    where
      drop_false : (a : Bool) → (a || false) ≡ true → a ≡ true
      drop_false true e = refl
      drop_false false e = e
  stars_behind (x ∷ p) c ws known r n k = by_test_lem (known x)
      (λ y. fresh_there known x (p ++ (U.outs c ws ++ r)) y ∙ stars_behind p c ws known r n (λ z e. there z y (eqb x z) refl (k z e)) ∙ sym (fresh_there known x (p ++ (written ws ++ r)) y))
      (λ m. fresh_new known x (p ++ (U.outs c ws ++ r)) m ∙ ap (λ (l : List ℕ). x ∷ l) (stars_behind p c ws (U.also x known) r n (λ z e. turn (known z) (eqb x z) (I.member eqb p z) (k z e))) ∙ sym (fresh_new known x (p ++ (written ws ++ r)) m))
    where
      there : (z : ℕ) → known x ≡ true → (q : Bool) → eqb x z ≡ q → (known z || (q || I.member eqb p z)) ≡ true → (known z || I.member eqb p z) ≡ true
      there z y true q e = or_left (known z) (I.member eqb p z) (ap known (sym (eqb-true x z q)) ∙ y)
      there z y false q e = e

      turn : (a b c : Bool) → (a || (b || c)) ≡ true → ((b || a) || c) ≡ true
      turn true true c e = refl
      turn true false c e = refl
      turn false true c e = refl
      turn false false c e = e

  -- ---- one rule
  abbrev short_uses : A.RuleLine Place → List ℕ
  short_uses l = U.firsts (sets l.raw.read) ++ (written (codes l.raw.write) ++ U.furthers (sets l.raw.read))

  rule-codes : (text : List ℕ) (ts : List Token) (e : Entry) (l : A.RuleLine Place) → eqb e.first.kind 27 ≡ true → MentionsShow text ts e.at l.raw → codes_of b (rule_symbols ts e) ≡ short_uses l
  unfolding rule_symbols
  rule-codes text ts e l h m =
      let q : Token = peek ts (e.at + 3) in
      let reads : List Token = range ts (e.at + 4) q.start in
      let writes : List Token = range ts q.end q.value in
      rw h (map-append (resolve b) (firsts outside reads) (symbols writes ++ further reads)
      ∙ ap₂ (λ (x y : List ℕ). x ++ y) (firsts_mean Outside reads l.raw.read m.reads)
      (map-append (resolve b) (symbols writes) (further reads) ∙ ap₂ (λ (x y : List ℕ). x ++ y) (writes_mean writes l.raw.write m.writes) (further_mean false reads l.raw.read m.reads)))

  rule-none : (ts : List Token) (e : Entry) → eqb e.first.kind 27 ≡ false → codes_of b (rule_symbols ts e) ≡ []
  unfolding rule_symbols
  rule-none ts e h = rw h

  firsts-length : (ss : List (List ℕ)) → Every Filled ss → length (U.firsts ss) ≡ length ss
  firsts-length [] h = refl
  firsts-length ([] ∷ ss) h = absurd h.0
  firsts-length ((a ∷ s) ∷ ss) h = ap suc (firsts-length ss h.1)

  line-fresh : (l : A.RuleLine Place) → Fits l → Every Filled (sets l.raw.read) → (known : ℕ → Bool) (r : List ℕ) → I.fresh eqb known (short_uses l ++ r) ≡ I.fresh eqb known (line_uses b l ++ r)
  line-fresh l fits filled known r =
      let c : List ℕ = U.firsts (sets l.raw.read) in
      let ws : List (Option ℕ) = codes l.raw.write in
      let u : List ℕ = U.furthers (sets l.raw.read) in
      let n : length ws ≡ length c = length-map l.raw.write _ ∙ fits.0 ∙ sym (length-map l.raw.read (map code)) ∙ sym (firsts-length (sets l.raw.read) filled) in
      let split : (x : List ℕ) → (c ++ (x ++ u)) ++ r ≡ c ++ (x ++ (u ++ r)) = λ x. append_assoc c (x ++ u) r ∙ ap (λ (z : List ℕ). c ++ z) (append_assoc x u r) in
      ap (I.fresh eqb known) (split (written ws)) ∙ sym (stars_behind c c ws known (u ++ r) n (λ y e. or_right (known y) (I.member eqb c y) e)) ∙ ap (I.fresh eqb known) (sym (split (U.outs c ws)))

  -- ---- all rules
  filled : (s : List (Located Place RawSymbol)) → Filled s → Filled (map code s)
  filled (x ∷ s) k = tt
  filled [] k = absurd k

  pub rules-fresh : (text : List ℕ) (ts : List Token) (es : List Entry) (rs : List (A.RuleLine Place)) → RulesAt text ts es rs → Every Fits rs → Every Chosen rs → (known : ℕ → Bool) (r : List ℕ)
      → I.fresh eqb known (codes_of b (rules_symbols ts es) ++ r) ≡ I.fresh eqb known (lines_use b rs ++ r)
  unfolding rules_symbols
  rules-fresh text ts [] [] no_rules_lem f h known r = refl
  rules-fresh text ts [] (x ∷ rs) m f h known r = elim m [ ]
  rules-fresh text ts (e ∷ es) rs (no_rule k q) f h known r =
      ap (λ (l : List ℕ). I.fresh eqb known (l ++ r)) (map-append (resolve b) (rule_symbols ts e) (rules_symbols ts es) ∙ ap (λ (l : List ℕ). l ++ codes_of b (rules_symbols ts es)) (rule-none ts e k))
      ∙ rules-fresh text ts es rs q f h known r
  rules-fresh text ts (e ∷ es) (x ∷ rs) (one-rule k m q) f h known r =
      let rest : List ℕ = codes_of b (rules_symbols ts es) in
      let u : List ℕ = line_uses b x in
      ap (λ (l : List ℕ). I.fresh eqb known (l ++ r)) (map-append (resolve b) (rule_symbols ts e) (rules_symbols ts es) ∙ ap (λ (l : List ℕ). l ++ rest) (rule-codes text ts e x k m))
      ∙ ap (I.fresh eqb known) (append_assoc (short_uses x) rest r)
      ∙ line-fresh x f.0 (every_map Filled Filled (map code) filled x.raw.read h.0) known (rest ++ r)
      ∙ U.fresh-behind known u (rest ++ r)
      ∙ ap (λ (l : List ℕ). I.fresh eqb known u ++ l) (rules-fresh text ts es rs q f.1 h.1 (U.after known u) r)
      ∙ sym (U.fresh-behind known u (lines_use b rs ++ r)) ∙ ap (I.fresh eqb known) (sym (append_assoc u (lines_use b rs) r))
