-- Laws of the steps of the pass over F: the names that it has come by are those that are marked.
use mathlib.Core.Path.{◌≡◌, refl, sym, ap, subst, ◌∙◌}
use mathlib.Core.Bool.{Bool}
use mathlib.Core.List.{List, [], ◌∷◌, ◌++◌, append-nil, append_assoc}
use Prim.Native.Nat.{ℕ, zero, suc, ◌+◌, ◌-◌, ◌*◌, ◌≤◌, ◌<◌}
use native.Mathlib.Omega.{arith}
use native.Mathlib.Numerals.{add-one}
use lib.Dec.{ltb}
use lib.ListN.{length, get_or, take, drop, length-drop}
use lib.Seq.{get_or-drop}
use Rattle.diag.specs.declared.Diagnostic.{Diagnostic}
use Rattle.tokens.specs.declared.Token.{Token}
use Rattle.parser.specs.Row.{peek, ended}
use Rattle.assembler.specs.Rows.{rows}
use Rattle.assembler.specs.Entries.{entries}
use Rattle.assembler.specs.Assembled.{words_from, marks_from}
use Rattle.assembler.specs.Finals.{name_at, names_from, names_of, final_error_at, final_errors, finals_errors, Marks, Interned, Kept}
use Rattle.assembler.specs.Rules.{rule_errors}
use Rattle.assembler.proofs.MarkLaws.{kept_laid, kept_row, kept_interned}
use Rattle.assembler.proofs.FinalLaws.{errors_on, names_stop, names-on, names-end}
use Rattle.diag_search.specs.declared.Pass.{Pass}
use Rattle.diag_search.specs.declared.Pass.TheVariants.{Names, Finals, Rules}
use Rattle.diag_search.specs.declared.Search.{Search}
use Rattle.diag_search.specs.declared.Step.{Step}
use Rattle.diag_search.specs.Cursor.{moved, onward, taken}
use Rattle.diag_search.specs.Pending.{names_in, names_before, finals_at, pending_in, pending, passes_left, left}
use Rattle.diag_search.specs.Stands.{Stands, Stepped}
use Rattle.diag_search.proofs.Steps.{here, stepped_by, stepped-on, stands_moved, stands_size, names_done, less-on}

-- ---- the names before an index
names_more : (i k : ℕ) (l : List Token) → k < length l → names_in i (take (suc k) l) ≡ names_in i (take k l) ++ name_at (i + k) (get_or l k ended)
unfolding names_in
names_more i k [] h = absurd (omega arith)
names_more i zero (t ∷ l) h = append-nil (name_at i t) ∙ ap (λ (j : ℕ). name_at j t) (omega arith)
names_more i (suc k) (t ∷ l) h =
    let e : suc i + k ≡ i + suc k = omega arith in
    ap (λ (r : List ℕ). name_at i t ++ r) (names_more (suc i) k l (omega arith) ∙ ap (λ (j : ℕ). names_in (suc i) (take k l) ++ name_at j (get_or l k ended)) e)
    ∙ sym (append_assoc (name_at i t) (names_in (suc i) (take k l)) (name_at (i + suc k) (get_or l k ended)))

-- none before the first token of the line
before-first : (ts : List Token) (f : ℕ) → names_before ts f (suc f) ≡ []
unfolding names_before names_in
before-first ts f = let e : suc f - suc f ≡ 0 = omega arith in ap (λ (k : ℕ). names_in (suc f) (take k (drop (suc f) ts))) e

-- one token more
before_on : (ts : List Token) (f i : ℕ) → f < i → i < length ts → names_before ts f (suc i) ≡ names_before ts f i ++ name_at i (peek ts i)
unfolding names_before
before_on ts f i h g =
    let k : ℕ = i - suc f in
    let l : List Token = drop (suc f) ts in
    let e : suc i - suc f ≡ suc k = omega arith in
    let z : suc f + k ≡ i = omega arith in
    let at : get_or l k ended ≡ peek ts i = get_or-drop (suc f) ts k ended ∙ ap (peek ts) z in
    ap (λ (k : ℕ). names_in (suc f) (take k l)) e ∙ names_more (suc f) k l (omega (arith, length-drop (suc f) ts))
    ∙ ap (λ (j : ℕ). names_in (suc f) (take k l) ++ name_at j (get_or l k ended)) z ∙ ap (λ (t : Token). names_in (suc f) (take k l) ++ name_at i t) at

-- ---- the diagnostics of F from an index on
finals-first : (text : List ℕ) (ts : List Token) (first : List ℕ) → finals_at text ts first (suc (get_or first 10 0)) ≡ finals_errors text ts first
unfolding finals_at finals_errors names_of
finals-first text ts first =
    let q : ℕ = get_or first 5 0 in
    let f : ℕ = get_or first 10 0 in
    ap (λ (before : List ℕ). final_errors text ts (ltb q (length ts)) (names_of ts q) before (names_from (suc f) (drop (suc f) ts))) (before-first ts f)

finals-none : (text : List ℕ) (ts : List Token) (first : List ℕ) (i : ℕ) → names_from i (drop i ts) ≡ [] → finals_at text ts first i ≡ []
unfolding finals_at final_errors
finals-none text ts first i e =
    let q : ℕ = get_or first 5 0 in
    ap (λ (l : List ℕ). final_errors text ts (ltb q (length ts)) (names_of ts q) (names_before ts (get_or first 10 0) i) l) e

finals-on : (text : List ℕ) (ts : List Token) (first : List ℕ) (i : ℕ) → get_or first 10 0 < i → i < length ts → ((peek ts i).kind ≡ 13 → ⊥)
    → finals_at text ts first i
    ≡ final_error_at text ts (ltb (get_or first 5 0) (length ts)) (names_of ts (get_or first 5 0)) (names_before ts (get_or first 10 0) i) i ++ finals_at text ts first (suc i)
unfolding finals_at
finals-on text ts first i h g k =
    let q : ℕ = get_or first 5 0 in
    let f : ℕ = get_or first 10 0 in
    let d : Bool = ltb q (length ts) in
    let rest : List ℕ = names_from (suc i) (drop (suc i) ts) in
    let before : List ℕ = names_before ts f i in
    ap (final_errors text ts d (names_of ts q) before) (names-on ts i g k) ∙ errors_on text ts d (names_of ts q) before rest i
    ∙ ap (λ (b : List ℕ). final_error_at text ts d (names_of ts q) before i ++ final_errors text ts d (names_of ts q) b rest) (sym (before_on ts f i h g))

-- ---- entering the pass
module _ (text w₀ : List ℕ) (s : Search) (st : Stands text w₀ s) where
  abbrev a : ℕ
  a = words_from (length text)

  abbrev b : ℕ
  b = marks_from (length text)

  abbrev c : ℕ
  c = s.count

  abbrev q : ℕ
  q = get_or s.first 5 0

  abbrev f : ℕ
  f = get_or s.first 10 0

  -- a cursor on F's line: what stands there
  stands_finals : (w : List ℕ) (i : ℕ) → Kept b w₀ w → f < i → Marks text (rows c w₀) a b w (names_of (rows c w₀) q) (names_before (rows c w₀) f i) → Stands text w (moved s Finals i)
  stands_finals w i k h m = record {
    laid = kept_laid c a b w₀ w st.laid k;
    names = λ g. kept_interned c a b w₀ w st.laid k text (st.names g);
    tally = st.tally;
    behind = λ e. h;
    marks = λ e. subst (λ (r : List Token). Marks text r a b w (names_of r q) (names_before r f i)) (sym (kept_row c a b w₀ w st.laid k)) m;
  }

  -- a row that was kept in front has the same diagnostics still to be found
  pending-kept : (w : List ℕ) (i : ℕ) → Kept b w₀ w → pending text w₀ (moved s Finals i) ≡ pending text w (moved s Finals i)
  pending-kept w i k = ap (λ (r : List Token). pending_in text r (moved s Finals i)) (sym (kept_row c a b w₀ w st.laid k))

  -- without F there is nothing to tell
  pub finals-passed : (r : Step) (y : ℕ) → s.pass ≡ Names → s.count ≤ s.at → y ≡ get_or s.first 10 0 → s.count ≤ y → r ≡ onward s Rules 0 → Stepped text w₀ w₀ s r
  unfolding pending_in left entries
  finals-passed r y one h ey g e =
      let ts : List Token = rows c w₀ in
      let none : names_from (suc f) (drop (suc f) ts) ≡ [] = names-end ts (suc f) (omega (arith, stands_size text w₀ s st)) in
      let found : pending text w₀ s ≡ pending text w₀ (moved s Rules 0) =
      names_done text w₀ s st one h ∙ ap (λ (ds : List Diagnostic). ds ++ rule_errors s.tally (entries ts)) (sym (finals-first text ts s.first) ∙ finals-none text ts s.first (suc f) none) in
      stepped-on text w₀ w₀ s r Rules 0 e (stands_moved text w₀ s Rules 0 st (λ e. absurd (let z : 0 ≡ 1 = ap passes_left e in omega arith))) found
      (subst (λ (p : Pass). 0 * (c + 1) + (c - 0) < passes_left p * (c + 1) + (c - s.at)) (sym one) (omega arith)) refl

  -- where there is F its names are known
  pub finals-names : get_or s.first 10 0 < s.count → Interned text (rows s.count w₀) (words_from (length text)) w₀
  finals-names h = st.names h

  pub listed-names : s.pass ≡ Finals → s.at < s.count → Interned text (rows s.count w₀) (words_from (length text)) w₀
  listed-names two h = st.names (omega (arith, st.behind two))

  pub finals-entered : (w : List ℕ) (r : Step) (x y : ℕ) → s.pass ≡ Names → s.count ≤ s.at → x ≡ get_or s.first 5 0 → y ≡ get_or s.first 10 0
      → Kept (marks_from (length text)) w₀ w → Marks text (rows s.count w₀) (words_from (length text)) (marks_from (length text)) w (names_of (rows s.count w₀) x) []
      → r ≡ onward s Finals (y + 1) → Stepped text w₀ w s r
  unfolding pending_in left
  finals-entered w r x y one h ex ey k m e =
      let i : ℕ = suc f in
      let j : y + 1 ≡ i = add-one y ∙ ap suc ey in
      let ts : List Token = rows c w₀ in
      let m₂ : Marks text ts a b w (names_of ts q) [] = subst (λ (x : ℕ). Marks text ts a b w (names_of ts x) []) ex m in
      let m₃ : Marks text ts a b w (names_of ts q) (names_before ts f i) = subst (λ (l : List ℕ). Marks text ts a b w (names_of ts q) l) (sym (before-first ts f)) m₂ in
      let found : pending text w₀ s ≡ pending text w (moved s Finals i) =
      names_done text w₀ s st one h ∙ ap (λ (ds : List Diagnostic). ds ++ rule_errors s.tally (entries ts)) (sym (finals-first text ts s.first)) ∙ pending-kept w i k in
      stepped-on text w₀ w s r Finals i (e ∙ ap (onward s Finals) j) (stands_finals w i k (omega arith) m₃) found
      (subst (λ (p : Pass). 1 * (c + 1) + (c - i) < passes_left p * (c + 1) + (c - s.at)) (sym one) (omega arith)) k.size

  -- ---- in the pass
  module _ (two : s.pass ≡ Finals) where
    ended-stepped : (r : Step) → names_from s.at (drop s.at (rows s.count w₀)) ≡ [] → r ≡ onward s Rules 0 → Stepped text w₀ w₀ s r
    unfolding pending_in left entries
    ended-stepped r none e =
        let ts : List Token = rows c w₀ in
        let found : pending text w₀ s ≡ pending text w₀ (moved s Rules 0) =
        ap (pending text w₀) (sym (here s Finals two)) ∙ ap (λ (ds : List Diagnostic). ds ++ rule_errors s.tally (entries ts)) (finals-none text ts s.first s.at none) in
        stepped-on text w₀ w₀ s r Rules 0 e (stands_moved text w₀ s Rules 0 st (λ e. absurd (let z : 0 ≡ 1 = ap passes_left e in omega arith))) found
        (subst (λ (p : Pass). 0 * (c + 1) + (c - 0) < passes_left p * (c + 1) + (c - s.at)) (sym two) (omega arith)) refl

    pub finals-stepped : (r : Step) → s.count ≤ s.at → r ≡ onward s Rules 0 → Stepped text w₀ w₀ s r
    finals-stepped r h e = ended-stepped r (names-end (rows c w₀) s.at (omega (arith, stands_size text w₀ s st))) e

    pub newline_stepped : (r : Step) (t : Token) → s.at < s.count → t ≡ peek (rows s.count w₀) s.at → t.kind ≡ 13 → r ≡ onward s Rules 0 → Stepped text w₀ w₀ s r
    newline_stepped r t h et k e =
        ended-stepped r (names_stop (rows c w₀) s.at (omega (arith, stands_size text w₀ s st)) (ap (λ (t : Token). t.kind) (sym et) ∙ k)) e

    pub listed-stepped : (w : List ℕ) (r : Step) (t : Token) (declared : Bool) → s.at < s.count → t ≡ peek (rows s.count w₀) s.at → (t.kind ≡ 13 → ⊥) → declared ≡ ltb (get_or s.first 5 0) s.count
        → Kept (marks_from (length text)) w₀ w → r.search ≡ moved s Finals (s.at + 1)
        → ((qs before : List ℕ) → Marks text (rows s.count w₀) (words_from (length text)) (marks_from (length text)) w₀ qs before
        → (taken r ≡ final_error_at text (rows s.count w₀) declared qs before s.at)
        × Marks text (rows s.count w₀) (words_from (length text)) (marks_from (length text)) w qs (before ++ name_at s.at (peek (rows s.count w₀) s.at))) → Stepped text w₀ w s r
    unfolding pending_in
    listed-stepped w r t declared h et k said kept to all =
        let ts : List Token = rows c w₀ in
        let i : ℕ = suc s.at in
        let size : length ts ≡ c = stands_size text w₀ s st in
        let low : s.at < length ts = omega arith in
        let before : List ℕ = names_before ts f s.at in
        let d : Bool = ltb q (length ts) in
        let ds : List Diagnostic = final_error_at text ts d (names_of ts q) before s.at in
        let p = all (names_of ts q) before (st.marks two) in
        let same : declared ≡ d = said ∙ ap (ltb q) (sym size) in
        let took : taken r ≡ ds = p.0 ∙ ap (λ (d : Bool). final_error_at text ts d (names_of ts q) before s.at) same in
        let m : Marks text ts a b w (names_of ts q) (names_before ts f i) = subst (λ (l : List ℕ). Marks text ts a b w (names_of ts q) l) (sym (before_on ts f s.at (st.behind two) low)) p.1 in
        let rest : List Diagnostic = rule_errors s.tally (entries ts) in
        let found : pending text w₀ s ≡ ds ++ pending text w (moved s Finals i) =
        ap (pending text w₀) (sym (here s Finals two))
        ∙ ap (λ (l : List Diagnostic). l ++ rest) (finals-on text ts s.first s.at (st.behind two) low (λ z. k (ap (λ (t : Token). t.kind) et ∙ z)))
        ∙ append_assoc ds (finals_at text ts s.first i) rest ∙ ap (λ (l : List Diagnostic). ds ++ l) (pending-kept w i kept) in
        stepped_by text w₀ w s r (moved s Finals i) ds took (to ∙ ap (moved s Finals) (add-one s.at)) (stands_finals w i kept (omega (arith, st.behind two)) m) found
        (less-on text w₀ s st Finals i two h (omega arith)) kept.size
