-- The diagnostics of F are the language's.
use mathlib.Core.Path.{◌≡◌, refl, sym, ap, subst, ◌∙◌}
use mathlib.Core.Bool.{Bool, true, false, cond}
use mathlib.Core.List.{List, [], ◌∷◌, ◌++◌}
use Rattle.std.specs.Prelude.{Option, None, Some, unwrap_or}
use Prim.Native.Nat.{ℕ, suc, ◌+◌, ◌≤◌, ◌<◌}
use native.Mathlib.Omega.{arith}
use borrow.Author.Tests.{leb-true, lt-ltb, le-ltb, le-leb, ltb-true, eqb-true, eqb-false}
use lib.Dec.{eqb, leb, ltb}
use lib.ListN.{length, get_or, drop, set, length-set, drop_of_length-le}
use lib.Seq.{get_or-set_same, get_or-set_other}
use Rattle.diag.proofs.Cases.{by_test_lem}
use Rattle.diag.specs.declared.Span.{Span}
use Rattle.diag.specs.declared.Diagnostic.{Diagnostic}
use Rattle.diag.specs.Log.{error, with_related}
use Rattle.lexer.specs.Tokens.{TokenKind, word, Token as Lexed}
use Rattle.lexer.specs.Text.{same}
use Rattle.lexer.specs.Places.{part, chars_at}
use Rattle.lexer.proofs.Placed.{Shape, Placed, same_names}
use Rattle.lexer.proofs.Steps.{Says}
use Rattle.tokens.specs.declared.Token.{Token}
use Rattle.parser.specs.Row.{peek}
use Rattle.parser.specs.Meaning.{token_of}
use Rattle.language.specs.Machine.{Located}
use Rattle.language.specs.Lines.{Item, machine_item, input_item, kind_item, output_item, tapes_item, states_item, final_item, input_alphabet_item, tape_alphabet_item, blank_item, start_item, transition_item, Line, blank_line, comment_line, item_line, error_line}
use Rattle.language.specs.Assembly as A
use Rattle.language.proofs.Columns
use Rattle.language.specs.Layout.{or_none}
use Rattle.assembler.specs.Rows.{place_of}
use Rattle.assembler.specs.Entries.{Entry}
use Rattle.assembler.specs.Names.{same_name}
use Rattle.assembler.specs.Declarations.{declares, name_of, undeclared, declare, declarations}
use Rattle.assembler.specs.Finals.{names_from, names_of, listed, unknown_error, final_error, final_errors, finals_errors}
use Rattle.assembler.specs.Records.{record_of, records_of}
use Rattle.assembler.proofs.Means.{number, AllMean, no_lines, one_line, records-append}

-- ---- a name in the row: a word of the text that stands at a token's place
pub record NameIs (text : List ℕ) (w : Token) (l : Located Span (List ℕ)) : Type 0 where
  pub token : Lexed Span
  pub placed : Placed text token
  pub spelled : token.kind ≡ word l.value
  pub place : token.place ≡ l.place
  pub words : w ≡ token_of token

module _ (text : List ℕ) (w : Token) (l : Located Span (List ℕ)) (n : NameIs text w l) where
  name_inner : n.token.inner ≡ n.token.place
  name_inner = subst (λ (k : TokenKind). Shape k n.token.place n.token.inner) n.spelled n.placed.shape

  name_chars : chars_at text n.token.inner ≡ l.value
  name_chars = subst (λ (k : TokenKind). Says k (chars_at text n.token.inner)) n.spelled n.placed.says

  name-part : part text w.start w.end ≡ part text n.token.inner.start n.token.inner.end
  unfolding token_of
  name-part = ap (λ (w : Token). part text w.start w.end) n.words ∙ ap (λ (p : Span). part text p.start p.end) (sym name_inner)

  pub name-place : place_of w ≡ l.place
  unfolding token_of
  name-place = ap place_of n.words ∙ n.place

pub names_same : (text : List ℕ) (a b : Token) (x y : Located Span (List ℕ)) → NameIs text a x → NameIs text b y → same_name text a b ≡ same x.value y.value
unfolding same_name
names_same text a b x y m n =
    ap (λ (p : List ℕ). same p (part text b.start b.end)) (name-part text a x m) ∙ ap (same (part text m.token.inner.start m.token.inner.end)) (name-part text b y n)
    ∙ same_names text m.token n.token m.placed n.placed
    ∙ ap (λ (p : List ℕ). same p (chars_at text n.token.inner)) (name_chars text a x m) ∙ ap (same x.value) (name_chars text b y n)

-- names at indices of the row
pub data AllNames (text : List ℕ) (ts : List Token) : List ℕ → List (Located Span (List ℕ)) → Type 0 where
  no_names : AllNames text ts [] []
  one_name : {j : ℕ} {js : List ℕ} {l : Located Span (List ℕ)} {ls : List (Located Span (List ℕ))} → NameIs text (peek ts j) l → AllNames text ts js ls → AllNames text ts (j ∷ js) (l ∷ ls)

module _ (text : List ℕ) (ts : List Token) where
  names_snoc : (js : List ℕ) (ls : List (Located Span (List ℕ))) (j : ℕ) (l : Located Span (List ℕ)) → AllNames text ts js ls → NameIs text (peek ts j) l → AllNames text ts (js ++ j ∷ []) (ls ++ l ∷ [])
  names_snoc [] [] j l no_names n = one_name n no_names
  names_snoc [] (x ∷ ls) j l m n = elim m [ ]
  names_snoc (k ∷ js) [] j l m n = elim m [ ]
  names_snoc (k ∷ js) (x ∷ ls) j l (one_name m r) n = one_name m (names_snoc js ls j l r n)

  -- where a name is listed first
  abbrev ListedMeans : Option ℕ → Option Span → Type 0
  ListedMeans None None = Unit {0}
  ListedMeans None (Some p) = ⊥
  ListedMeans (Some j) None = ⊥
  ListedMeans (Some j) (Some p) = place_of (peek ts j) ≡ p

  module _ (x : ℕ) (f : Located Span (List ℕ)) (name : NameIs text (peek ts x) f) where
    listed_by : (j : ℕ) (js : List ℕ) (b : Bool) → same_name text (peek ts j) (peek ts x) ≡ b → listed text ts x (j ∷ js) ≡ elim b [ true ↦ Some j | false ↦ listed text ts x js ]
    unfolding listed
    listed_by j js b e = ap (λ (b : Bool). elim b [ true ↦ Some j | false ↦ listed text ts x js ]) e

    language_by : (l : Located Span (List ℕ)) (ls : List (Located Span (List ℕ))) (b : Bool) → same l.value f.value ≡ b → A.listed_at f.value (l ∷ ls) ≡ elim b [ true ↦ Some l.place | false ↦ A.listed_at f.value ls ]
    unfolding A.listed_at
    language_by l ls b e = ap (λ (b : Bool). elim b [ true ↦ Some l.place | false ↦ A.listed_at f.value ls ]) e

    listed_mean : (js : List ℕ) (ls : List (Located Span (List ℕ))) → AllNames text ts js ls → ListedMeans (listed text ts x js) (A.listed_at f.value ls)
    unfolding listed A.listed_at
    listed_mean [] [] no_names = tt
    listed_mean [] (l ∷ ls) m = elim m [ ]
    listed_mean (j ∷ js) [] m = elim m [ ]
    listed_mean (j ∷ js) (l ∷ ls) (one_name m r) =
        let s : same_name text (peek ts j) (peek ts x) ≡ same l.value f.value = names_same text (peek ts j) (peek ts x) l f m name in
        by_test_lem (same l.value f.value)
        (λ y.
        let a : listed text ts x (j ∷ js) ≡ Some j = listed_by j js true (s ∙ y) in
        let b : A.listed_at f.value (l ∷ ls) ≡ Some l.place = language_by l ls true y in
        rw (a, b) (name-place text (peek ts j) l m))
        (λ n.
        let a : listed text ts x (j ∷ js) ≡ listed text ts x js = listed_by j js false (s ∙ n) in
        let b : A.listed_at f.value (l ∷ ls) ≡ A.listed_at f.value ls = language_by l ls false n in
        rw (a, b) (listed_mean js ls r))

  -- Q, declared or not
  abbrev pub StatesMean : Bool → List ℕ → Option (List (Located Span (List ℕ))) → Type 0
  StatesMean d qs None = d ≡ false
  StatesMean d qs (Some q) = (d ≡ true) × AllNames text ts qs q

  -- ---- one name of F
  module _ (d : Bool) (qs : List ℕ) (q : Option (List (Located Span (List ℕ)))) (states : StatesMean d qs q) where
    module _ (x : ℕ) (f : Located Span (List ℕ)) (name : NameIs text (peek ts x) f) where
      unknown_by : (b : Bool) (o : Option ℕ) → d ≡ b → listed text ts x qs ≡ o → unknown_error text ts d qs x ≡ cond b (elim o [ Some j ↦ [] | None ↦ error 3 (place_of (peek ts x)) ∷ [] ]) []
      unfolding unknown_error
      unknown_by b o e l =
          ap (λ (b : Bool). cond b (elim (listed text ts x qs) [ Some j ↦ [] | None ↦ error 3 (place_of (peek ts x)) ∷ [] ]) []) e
          ∙ ap (λ (o : Option ℕ). cond b (elim o [ Some j ↦ [] | None ↦ error 3 (place_of (peek ts x)) ∷ [] ]) []) l

      missing : error 3 (place_of (peek ts x)) ≡ record_of (A.diagnostic 3 f.place None)
      unfolding record_of or_none
      missing = ap (error 3) (name-place text (peek ts x) f name)

      unknown_mean : unknown_error text ts d qs x ≡ records_of (A.unknown_error q f)
      unfolding A.unknown_error records_of
      unknown_mean = go q states
        where
          language : (q : List (Located Span (List ℕ))) (o : Option Span) → A.listed_at f.value q ≡ o → A.unknown_error (Some q) f ≡ elim o [ Some p ↦ [] | None ↦ A.diagnostic 3 f.place None ∷ [] ]
          language q o e = ap (λ (o : Option Span). elim o [ Some p ↦ [] | None ↦ A.diagnostic 3 f.place None ∷ [] ]) e

          found : (q : List (Located Span (List ℕ))) (a : Option ℕ) (b : Option Span) → d ≡ true → listed text ts x qs ≡ a → A.listed_at f.value q ≡ b → ListedMeans a b
              → unknown_error text ts d qs x ≡ records_of (A.unknown_error (Some q) f)
          found q None None y e g m = unknown_by true None y e ∙ ap (λ (x : Diagnostic). x ∷ []) missing ∙ ap records_of (sym (language q None g))
          found q None (Some p) y e g m = absurd m
          found q (Some j) None y e g m = absurd m
          found q (Some j) (Some p) y e g m = unknown_by true (Some j) y e ∙ ap records_of (sym (language q (Some p) g))

          go : (q : Option (List (Located Span (List ℕ)))) → StatesMean d qs q → unknown_error text ts d qs x ≡ records_of (A.unknown_error q f)
          go None m = unknown_by false (listed text ts x qs) m refl
          go (Some q) m = found q (listed text ts x qs) (A.listed_at f.value q) m.0 refl refl (listed_mean x f name qs q m.1)

      error_by : (before : List ℕ) (o : Option ℕ) → listed text ts x before ≡ o
          → final_error text ts d qs before x ≡ elim o [ Some j ↦ with_related (error 11 (place_of (peek ts x))) (place_of (peek ts j)) ∷ [] | None ↦ unknown_error text ts d qs x ]
      unfolding final_error
      error_by before o e = ap (λ (o : Option ℕ). elim o [ Some j ↦ with_related (error 11 (place_of (peek ts x))) (place_of (peek ts j)) ∷ [] | None ↦ unknown_error text ts d qs x ]) e

      language_error : (before : List (Located Span (List ℕ))) (o : Option Span) → A.listed_at f.value before ≡ o
          → A.final_error q before f ≡ elim o [ Some p ↦ A.diagnostic 11 f.place (Some p) ∷ [] | None ↦ A.unknown_error q f ]
      unfolding A.final_error
      language_error before o e = ap (λ (o : Option Span). elim o [ Some p ↦ A.diagnostic 11 f.place (Some p) ∷ [] | None ↦ A.unknown_error q f ]) e

      again : (j : ℕ) (p : Span) → place_of (peek ts j) ≡ p → with_related (error 11 (place_of (peek ts x))) (place_of (peek ts j)) ≡ record_of (A.diagnostic 11 f.place (Some p))
      unfolding record_of or_none
      again j p m = ap (λ (a : Span). with_related (error 11 a) (place_of (peek ts j))) (name-place text (peek ts x) f name) ∙ ap (with_related (error 11 f.place)) m

      name_mean : (before : List ℕ) (listed_names : List (Located Span (List ℕ))) → AllNames text ts before listed_names → final_error text ts d qs before x ≡ records_of (A.final_error q listed_names f)
      unfolding records_of
      name_mean before ns all = go (listed text ts x before) (A.listed_at f.value ns) refl refl (listed_mean x f name before ns all)
        where
          go : (a : Option ℕ) (b : Option Span) → listed text ts x before ≡ a → A.listed_at f.value ns ≡ b → ListedMeans a b → final_error text ts d qs before x ≡ records_of (A.final_error q ns f)
          go None None e g m = error_by before None e ∙ unknown_mean ∙ ap records_of (sym (language_error ns None g))
          go None (Some p) e g m = absurd m
          go (Some j) None e g m = absurd m
          go (Some j) (Some p) e g m = error_by before (Some j) e ∙ ap (λ (x : Diagnostic). x ∷ []) (again j p m) ∙ ap records_of (sym (language_error ns (Some p) g))

    -- ---- all names of F
    names_mean : (before fs : List ℕ) (bs ls : List (Located Span (List ℕ))) → AllNames text ts before bs → AllNames text ts fs ls → final_errors text ts d qs before fs ≡ records_of (A.final_errors q bs ls)
    unfolding final_errors A.final_errors records_of
    names_mean before [] bs [] b no_names = refl
    names_mean before [] bs (f ∷ ls) b m = elim m [ ]
    names_mean before (x ∷ fs) bs [] b m = elim m [ ]
    names_mean before (x ∷ fs) bs (f ∷ ls) b (one_name n r) =
        ap (λ (l : List Diagnostic). l ++ final_errors text ts d qs (before ++ x ∷ []) fs) (name_mean x f n before bs b)
        ∙ ap (λ (l : List Diagnostic). records_of (A.final_error q bs f) ++ l) (names_mean (before ++ x ∷ []) fs (bs ++ f ∷ []) ls (names_snoc before bs x f b n) r)
        ∙ sym (records-append (A.final_error q bs f) (A.final_errors q (bs ++ f ∷ []) ls))

-- ---- the first declaration of a name
module _ (n : ℕ) (k : ℕ) (low : k < 11) where
  stays : (first : List ℕ) (e : Entry) → ltb (get_or first k 0) n ≡ true → get_or (declare n first e) k 0 ≡ get_or first k 0
  unfolding declare
  stays first e h = go (declares e.first) (ltb (get_or first (name_of e.first) 0) n) refl
    where
      go : (a b : Bool) → ltb (get_or first (name_of e.first) 0) n ≡ b → get_or (cond a (cond b first (set first (name_of e.first) e.at)) first) k 0 ≡ get_or first k 0
      go false b t = refl
      go true true t = refl
      go true false t =
          get_or-set_other first (name_of e.first) k e.at 0 (λ z. let q : true ≡ false = sym h ∙ ap (λ (m : ℕ). ltb (get_or first m 0) n) z ∙ t in let o : ◌≡◌ {A = ℕ} 0 1 = cc in omega arith)

  all_stays : (first : List ℕ) (es : List Entry) → ltb (get_or first k 0) n ≡ true → get_or (declarations n first es) k 0 ≡ get_or first k 0
  unfolding declarations
  all_stays first [] h = refl
  all_stays first (e ∷ es) h =
      let s = stays first e h in
      all_stays (declare n first e) es (ap (λ (m : ℕ). ltb m n) s ∙ h) ∙ s

  -- a line that does not declare it
  passes : (first : List ℕ) (e : Entry) → (declares e.first ≡ true → name_of e.first ≡ k → ⊥) → get_or (declare n first e) k 0 ≡ get_or first k 0
  unfolding declare
  passes first e h = go (declares e.first) refl (ltb (get_or first (name_of e.first) 0) n)
    where
      go : (a : Bool) → declares e.first ≡ a → (b : Bool) → get_or (cond a (cond b first (set first (name_of e.first) e.at)) first) k 0 ≡ get_or first k 0
      go false q b = refl
      go true q true = refl
      go true q false = get_or-set_other first (name_of e.first) k e.at 0 (λ z. h q (sym z))

  -- a line that declares it first
  lands : (first : List ℕ) (e : Entry) → length first ≡ 11 → declares e.first ≡ true → name_of e.first ≡ k → ltb (get_or first k 0) n ≡ false → get_or (declare n first e) k 0 ≡ e.at
  unfolding declare
  lands first e s d m t =
      rw (d, m, t) (get_or-set_same first k e.at 0 (omega arith))

declare-length : (n : ℕ) (first : List ℕ) (e : Entry) → length (declare n first e) ≡ length first
unfolding declare
declare-length n first e = go (declares e.first) (ltb (get_or first (name_of e.first) 0) n)
  where
    go : (a b : Bool) → length (cond a (cond b first (set first (name_of e.first) e.at)) first) ≡ length first
    go false b = refl
    go true true = refl
    go true false = length-set first (name_of e.first) e.at

-- ---- the names of the first Q and the first F
module _ (text : List ℕ) (ts : List Token) where
  abbrev Names : Type 0
  Names = List (Located Span (List ℕ))

  abbrev pub NamesIn : Entry → Item Span → Type 0
  NamesIn e (states_item q) = AllNames text ts (names_from (suc e.at) e.rest) q
  NamesIn e (final_item q) = AllNames text ts (names_from (suc e.at) e.rest) q
  NamesIn e _ = Unit {0}

  -- a part of an item that the items of number k alone have: the names in their entry
  abbrev Selects : ℕ → (Columns.Parts Span → Option Names) → Type 0
  Selects k part = (e : Entry) (i : Item Span) → NamesIn e i → StatesMean text ts (eqb (number i) k) (names_from (suc e.at) e.rest) (part (Columns.parts i))

  selects : (e : Entry) (i : Item Span) → NamesIn e i
      → StatesMean text ts (eqb (number i) 5) (names_from (suc e.at) e.rest) (Columns.parts i).states
      × StatesMean text ts (eqb (number i) 10) (names_from (suc e.at) e.rest) (Columns.parts i).finals
  unfolding number
  selects e (states_item q) n = ((refl, n), refl)
  selects e (final_item q) n = (refl, (refl, n))
  selects e _ n = (refl, refl)

  -- the index where the search for the first such item ends
  data Looked (start final : ℕ) : Option (Located Span Names) → Type 0 where
    absent : final ≡ start → Looked start final None
    present : {l : Located Span Names} → final < length ts → AllNames text ts (names_of ts final) l.value → Looked start final (Some l)

  names_of_lem : (a : ℕ) (rest : List Token) (l : Names) → rest ≡ drop (suc a) ts → AllNames text ts (names_from (suc a) rest) l → AllNames text ts (names_of ts a) l
  unfolding names_of
  names_of_lem a rest l e n = subst (λ (r : List Token). AllNames text ts (names_from (suc a) r) l) e n

  looked_from : (start start' final : ℕ) (o : Option (Located Span Names)) → start ≡ start' → Looked start final o → Looked start' final o
  looked_from start start' final o e l = subst (λ (s : ℕ). Looked s final o) e l

  module _ (X : Entry → Item Span → Type 0) (asks : (e : Entry) (i : Item Span) → X e i → NamesIn e i) (k : ℕ) (low : k < 11) (part : Columns.Parts Span → Option Names) (selects : Selects k part) where
    first_by : (i : Located Span (Item Span)) (is : List (Located Span (Item Span))) (o : Option Names) → part (Columns.parts i.value) ≡ o
        → A.first (Columns.select part) (i ∷ is) ≡ elim o [ Some a ↦ Some (record { value = a; place = i.place }) | None ↦ A.first (Columns.select part) is ]
    unfolding A.first
    first_by i is o e = ap (λ (o : Option Names). elim o [ Some a ↦ Some (record { value = a; place = i.place }) | None ↦ A.first (Columns.select part) is ]) e

    declares-kind : (e : Entry) (m : ℕ) → e.first.kind ≡ 16 + m → m < 11 → declares e.first ≡ true
    unfolding declares
    declares-kind e m h l = rw (le-leb 16 e.first.kind (omega arith), lt-ltb e.first.kind 27 (omega arith))

    declares-within : (e : Entry) → declares e.first ≡ true → (16 ≤ e.first.kind) × (e.first.kind < 27)
    unfolding declares
    declares-within e h =
        by_test_lem (leb 16 e.first.kind)
        (λ y. let z : ltb e.first.kind 27 ≡ true = rw y at h in (leb-true 16 e.first.kind y, ltb-true e.first.kind 27 z))
        (λ n. let z : false ≡ true = rw n at h in absurd (let o : ◌≡◌ {A = ℕ} 0 1 = cc in omega arith))

    -- where the search ends that began at `first`, and went on over the entry e and the entries es
    abbrev Ends : List ℕ → Entry → List Entry → Option (Located Span Names) → Type 0
    Ends first e es o = Looked (get_or first k 0) (get_or (declarations (length ts) (declare (length ts) first e) es) k 0) o

    lookup : (first : List ℕ) (es : List Entry) (ls : List (Line Span)) → AllMean X ts es ls → length first ≡ 11 → ltb (get_or first k 0) (length ts) ≡ false
        → Looked (get_or first k 0) (get_or (declarations (length ts) first es) k 0) (A.first (Columns.select part) (A.items ls))
    unfolding declarations A.items A.first
    lookup first [] [] no_lines s f = absent refl
    lookup first [] (l ∷ ls) m s f = elim m [ ]
    lookup first (e ∷ es) [] m s f = elim m [ ]
    lookup first (e ∷ es) (blank_line ∷ ls) (one_line h q m r) s f =
        let p : get_or (declare (length ts) first e) k 0 ≡ get_or first k 0 = passes (length ts) k low first e (λ d z. omega (arith, declares-within e d)) in
        looked_from _ _ _ _ p (lookup (declare (length ts) first e) es ls r (declare-length (length ts) first e ∙ s) (ap (λ (m : ℕ). ltb m (length ts)) p ∙ f))
    lookup first (e ∷ es) (comment_line c ∷ ls) (one_line h q m r) s f =
        let p : get_or (declare (length ts) first e) k 0 ≡ get_or first k 0 = passes (length ts) k low first e (λ d z. omega (arith, declares-within e d)) in
        looked_from _ _ _ _ p (lookup (declare (length ts) first e) es ls r (declare-length (length ts) first e ∙ s) (ap (λ (m : ℕ). ltb m (length ts)) p ∙ f))
    lookup first (e ∷ es) (error_line n x ∷ ls) (one_line h q m r) s f =
        let p : get_or (declare (length ts) first e) k 0 ≡ get_or first k 0 = passes (length ts) k low first e (λ d z. omega (arith, declares-within e d, m.0)) in
        looked_from _ _ _ _ p (lookup (declare (length ts) first e) es ls r (declare-length (length ts) first e ∙ s) (ap (λ (m : ℕ). ltb m (length ts)) p ∙ f))
    lookup first (e ∷ es) (item_line i x c ∷ ls) (one_line h q m r) s f =
        line (part (Columns.parts i)) refl (selects e i (asks e i m.more))
        (λ p. looked_from _ _ _ _ p (lookup (declare (length ts) first e) es ls r (declare-length (length ts) first e ∙ s) (ap (λ (m : ℕ). ltb m (length ts)) p ∙ f)))
      where
        line : (o : Option Names) → part (Columns.parts i) ≡ o → StatesMean text ts (eqb (number i) k) (names_from (suc e.at) e.rest) o
            → (get_or (declare (length ts) first e) k 0 ≡ get_or first k 0 → Ends first e es (A.first (Columns.select part) (A.items ls)))
            → Ends first e es (A.first (Columns.select part) (record { value = i; place = x } ∷ A.items ls))
        line None g d again =
            let o : number i ≡ k → ⊥ = eqb-false (number i) k d in
            subst (Ends first e es) (sym (first_by (record { value = i; place = x }) (A.items ls) None g)) (again (passes (length ts) k low first e (λ d z. o (omega (arith, m.kind)))))
        line (Some l) g (y, n) again =
            let z : number i ≡ k = eqb-true (number i) k y in
            let lands_here : get_or (declare (length ts) first e) k 0 ≡ e.at = lands (length ts) k low first e s (declares-kind e (number i) m.kind (omega arith)) (omega (arith, m.kind)) f in
            let final : get_or (declarations (length ts) (declare (length ts) first e) es) k 0 ≡ e.at =
            all_stays (length ts) k low (declare (length ts) first e) es (ap (λ (m : ℕ). ltb m (length ts)) lands_here ∙ lt-ltb e.at (length ts) h) ∙ lands_here in
            let rest : e.rest ≡ drop (suc e.at) ts = ap (λ (e : Entry). e.rest) q in
            let all : AllNames text ts (names_of ts e.at) l = names_of_lem e.at e.rest l rest n in
            subst (Ends first e es) (sym (first_by (record { value = i; place = x }) (A.items ls) (Some l) g))
            (present (omega (arith, final)) (subst (λ (n : ℕ). AllNames text ts (names_of ts n) l) (sym final) all))

  -- ---- the diagnostics of F
  no_such : (n : ℕ) → length ts ≤ n → names_of ts n ≡ []
  unfolding names_of names_from
  no_such n h = ap (names_from (suc n)) (drop_of_length-le ts {i = suc n} (omega arith))

  states_looked : (final : ℕ) (o : Option (Located Span Names)) → length ts ≤ 0xffffffff → Looked 0xffffffff final o → StatesMean text ts (ltb final (length ts)) (names_of ts final) (A.found o)
  unfolding A.found
  states_looked final None h (absent e) = le-ltb final (length ts) (omega arith)
  states_looked final (Some l) h (present g all) = (lt-ltb final (length ts) g, all)

  finals_looked : (final : ℕ) (o : Option (Located Span Names)) → length ts ≤ 0xffffffff → Looked 0xffffffff final o → AllNames text ts (names_of ts final) (unwrap_or (A.found o) [])
  unfolding A.found
  finals_looked final None h (absent e) = subst (λ (l : List ℕ). AllNames text ts l []) (sym (no_such final (omega arith))) no_names
  finals_looked final (Some l) h (present g all) = all

  pub finals_mean : (X : Entry → Item Span → Type 0) → ((e : Entry) (i : Item Span) → X e i → NamesIn e i) → length ts ≤ 0xffffffff → (es : List Entry) (ls : List (Line Span)) → AllMean X ts es ls
      → finals_errors text ts (declarations (length ts) undeclared es) ≡ records_of (A.final_errors (A.states_in (A.items ls)) [] (A.finals_in (A.items ls)))
  unfolding finals_errors A.states_in A.finals_in
  finals_mean X asks h es ls all =
      let first : List ℕ = declarations (length ts) undeclared es in
      let none_yet : (k : ℕ) → ltb 0xffffffff (length ts) ≡ false = λ k. le-ltb 0xffffffff (length ts) h in
      let q : Looked 0xffffffff (get_or first 5 0) (A.first (Columns.select λ p. p.states) (A.items ls)) = lookup X asks 5 (omega arith) (λ p. p.states) (λ e i n. (selects e i n).0) undeclared es ls all refl (none_yet 5) in
      let f : Looked 0xffffffff (get_or first 10 0) (A.first (Columns.select λ p. p.finals) (A.items ls)) = lookup X asks 10 (omega arith) (λ p. p.finals) (λ e i n. (selects e i n).1) undeclared es ls all refl (none_yet 10) in
      names_mean text ts (ltb (get_or first 5 0) (length ts)) (names_of ts (get_or first 5 0)) (A.found (A.first (Columns.select λ p. p.states) (A.items ls)))
      (states_looked (get_or first 5 0) (A.first (Columns.select λ p. p.states) (A.items ls)) h q) [] (names_of ts (get_or first 10 0)) [] (unwrap_or (A.found (A.first (Columns.select λ p. p.finals) (A.items ls))) []) no_names
      (finals_looked (get_or first 10 0) (A.first (Columns.select λ p. p.finals) (A.items ls)) h f)
