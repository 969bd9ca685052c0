-- Laws of the pass over F: one token of a set, and the walks over the sets of Q and F.
use mathlib.Core.Path.{◌≡◌, refl, sym, ap, subst, ◌∙◌}
use mathlib.Core.Bool.{Bool, true, false, cond}
use mathlib.Core.List.{List, [], ◌∷◌, ◌++◌, append-nil, append_assoc}
use Prim.Native.Nat.{ℕ, suc, ◌+◌, ◌-◌, ◌≤◌, ◌<◌, ◌^◌}
use native.Mathlib.Omega.{arith}
use native.Mathlib.Numerals.{add-one}
use borrow.Author.Tests.{eq-eqb, ne_eqb}
use lib.Dec.{eqb, ltb}
use lib.ListN.{length, get_or, drop, set, drop_of_length-le, length-append}
use lib.Seq.{drop-cons}
use Rattle.std.specs.Prelude.{Option, None, Some}
use Rattle.diag.specs.declared.Span.{Span}
use Rattle.diag.specs.declared.Diagnostic.{Diagnostic}
use Rattle.diag.specs.declared.log.Log.{Log}
use Rattle.diag.specs.Log.{error, with_related}
use Rattle.diag.specs.Appends.{Appends}
use Rattle.diag.proofs.Appending.{appends_none, appends_then, appends_count, appends_as, appends_nothing}
use Rattle.tokens.specs.declared.Token.{Token}
use Rattle.diag.proofs.Cases.{by_test_lem}
use Rattle.parser.specs.Row.{peek, ended}
use Rattle.parser.specs.Views.{is_state}
use Rattle.assembler.specs.Rows.{place_of}
use Rattle.assembler.specs.Names.{is_word}
use Rattle.assembler.specs.Finals.{name_at, names_from, names_of, listed, unknown_error, final_error, final_error_at, final_errors, finals_errors}
use Rattle.assembler.specs.declared.finals.Names.{Names}
use Rattle.assembler.specs.Marked.{row_of, Marked}
use Rattle.assembler.proofs.Passes.{at_most_one}
use Rattle.assembler.proofs.MarkLaws.{size_of, mark_inside, state-marked, again_marks, first_marks, final_again, final-first}

-- ---- one token
name-state : (i : ℕ) (t : Token) → is_state t ≡ true → name_at i t ≡ i ∷ []
unfolding name_at
name-state i t h = rw h

name-other : (i : ℕ) (t : Token) → is_state t ≡ false → name_at i t ≡ []
unfolding name_at
name-other i t h = rw h

-- a state's name is a word
state-word : (t : Token) → is_state t ≡ true → is_word t ≡ true
unfolding is_state
state-word t h = by_test_lem (eqb t.kind 0) (λ y. y) (λ n. let z : false ≡ true = rw n at h in cc)

module _ (names : Names) (i : ℕ) (low : i < names.tokens.count) (t : Token) (at : t ≡ peek (row_of names) i) (x : Bool) (test : x ≡ is_state t) where
  tested : (y : Bool) → x ≡ y → is_state (peek (row_of names) i) ≡ y
  tested y k = ap is_state (sym at) ∙ sym test ∙ k

  pub is_word_lem : x ≡ true → is_word (peek (row_of names) i) ≡ true
  is_word_lem k = state-word (peek (row_of names) i) (tested true k)

  pub state-inside : x ≡ true → (marks : List ℕ) → names.tokens.count ≤ length marks → get_or names.firsts.now i 0 < length marks
  state-inside k marks room = mark_inside names i low (is_word_lem k) marks room

  pub state-step : x ≡ true → (marks : List ℕ) → names.tokens.count ≤ length marks → (qs : List ℕ) → Marked names marks qs []
      → Marked names (set marks (get_or names.firsts.now i 0) 1) (qs ++ name_at i (peek (row_of names) i)) []
  state-step k marks room qs p = rw (name-state i (peek (row_of names) i) (tested true k)) (state-marked names i low (is_word_lem k) marks room qs p)

  pub state_skip : x ≡ false → (marks qs before : List ℕ) → Marked names marks qs [] → Marked names marks (qs ++ name_at i (peek (row_of names) i)) []
  state_skip k marks qs before p = rw (name-other i (peek (row_of names) i) (tested false k), append-nil) p

  -- a token that is no name is passed over in F's line
  pub final_skip : (d : Bool) (l : Log) (marks : List ℕ) → x ≡ false → (qs before : List ℕ) → Marked names marks qs before
      → Appends l l (final_error_at names.text.now (row_of names) d qs before i) × Marked names marks qs (before ++ name_at i (peek (row_of names) i))
  unfolding final_error_at
  final_skip d l marks k qs before p =
      (appends_nothing l _ (rw (tested false k)), rw (name-other i (peek (row_of names) i) (tested false k), append-nil) p)

  pub final-step : (d : Bool) (l l' : Log) (marks v : List ℕ) → x ≡ true
      → ((qs before : List ℕ) → Marked names marks qs before → Appends l l' (final_error names.text.now (row_of names) d qs before i) × Marked names v qs (before ++ i ∷ []))
      → (qs before : List ℕ) → Marked names marks qs before
      → Appends l l' (final_error_at names.text.now (row_of names) d qs before i) × Marked names v qs (before ++ name_at i (peek (row_of names) i))
  unfolding final_error_at
  final-step d l l' marks v k f qs before p =
      let r = f qs before p in
      (rw (tested true k) r.0, rw (name-state i (peek (row_of names) i) (tested true k)) r.1)

-- a name of F: listed already, or listed now
module _ (names : Names) (i : ℕ) (low : i < names.tokens.count) (word : is_word (peek (row_of names) i) ≡ true) (t : Token) (at : t ≡ peek (row_of names) i)
    (marks : List ℕ) (room : names.tokens.count ≤ length marks) (m : ℕ) (mark : m ≡ get_or marks (get_or names.firsts.now i 0) 0) (d : Bool) (l l' : Log) where
  pub name_again : 2 ≤ m → Appends l l' (with_related (error 11 (place_of t)) (place_of (peek (row_of names) (m - 2))) ∷ [])
      → (qs before : List ℕ) → Marked names marks qs before → Appends l l' (final_error names.text.now (row_of names) d qs before i) × Marked names marks qs (before ++ i ∷ [])
  name_again h e qs before p = (
    appends_as l l' _ _ e (ap (λ (t : Token). with_related (error 11 (place_of t)) (place_of (peek (row_of names) (m - 2))) ∷ []) at ∙ final_again names i low word marks room m mark qs before p d h),
    again_marks names i low word marks room m mark qs before p h,
  )

  name-new : (ds : List Diagnostic) → m < 2 → Appends l l' ds → ds ≡ cond (cond d (eqb m 0) false) (error 3 (place_of (peek (row_of names) i)) ∷ []) []
      → (qs before : List ℕ) → Marked names marks qs before
      → Appends l l' (final_error names.text.now (row_of names) d qs before i) × Marked names (set marks (get_or names.firsts.now i 0) (i + 2)) qs (before ++ i ∷ [])
  name-new ds h e q qs before p =
      (appends_as l l' _ _ e (q ∙ final-first names i low word marks room m mark qs before p d h), first_marks names i low word marks room m mark qs before p h)

  -- Q lacks it
  pub name_unknown : (p : Span) (x : Diagnostic) → m < 2 → d ≡ true → m ≡ 0 → p ≡ place_of t → x ≡ error 3 p → Appends l l' (x ∷ [])
      → (qs before : List ℕ) → Marked names marks qs before
      → Appends l l' (final_error names.text.now (row_of names) d qs before i) × Marked names (set marks (get_or names.firsts.now i 0) (i + 2)) qs (before ++ i ∷ [])
  name_unknown p x h y z q r e =
      name-new (x ∷ []) h e (ap (λ (x : Diagnostic). x ∷ []) (r ∙ ap (error 3) (q ∙ ap place_of at)) ∙ rw (y, eq-eqb m 0 z))

-- Q has it, or there is no Q
pub no_error : (d : Bool) (m : ℕ) → (m ≡ 0 → ⊥) → cond d (eqb m 0) false ≡ false
no_error true m h = ne_eqb m 0 h
no_error false m h = refl

pub name_known : (names : Names) (i : ℕ) → i < names.tokens.count → is_word (peek (row_of names) i) ≡ true → (t : Token) → t ≡ peek (row_of names) i
    → (marks : List ℕ) → names.tokens.count ≤ length marks → (m : ℕ) → m ≡ get_or marks (get_or names.firsts.now i 0) 0 → (d : Bool) (l : Log) → m < 2 → cond d (eqb m 0) false ≡ false
    → (qs before : List ℕ) → Marked names marks qs before
    → Appends l l (final_error names.text.now (row_of names) d qs before i) × Marked names (set marks (get_or names.firsts.now i 0) (i + 2)) qs (before ++ i ∷ [])
name_known names i low word t at marks room m mark d l h y = name-new names i low word t at marks room m mark d l l [] h (appends_none l) (rw y)

-- ---- the names of a set, one token more
module _ (ts : List Token) (i : ℕ) (low : i < length ts) where
  here : drop i ts ≡ peek ts i ∷ drop (suc i) ts
  here = drop-cons ts i ended low

  pub names_stop : (peek ts i).kind ≡ 13 → names_from i (drop i ts) ≡ []
  unfolding names_from
  names_stop k = ap (names_from i) here ∙ rw (eq-eqb (peek ts i).kind 13 k, names_from)

  pub names-on : ((peek ts i).kind ≡ 13 → ⊥) → names_from i (drop i ts) ≡ name_at i (peek ts i) ++ names_from (suc i) (drop (suc i) ts)
  unfolding names_from
  names-on k = ap (names_from i) here ∙ rw (ne_eqb (peek ts i).kind 13 k, names_from)

pub names-end : (ts : List Token) (i : ℕ) → length ts ≤ i → names_from i (drop i ts) ≡ []
unfolding names_from
names-end ts i h = ap (names_from i) (drop_of_length-le ts {i = i} h)

-- ---- the walk over Q's set has come to the index i
pub record Marking (names : Names) (all marks : List ℕ) (i : ℕ) : Type 0 where
  pub done : List ℕ
  pub left : done ++ names_from i (drop i (row_of names)) ≡ all
  pub marked : Marked names marks done []

pub marking_start : (names : Names) (marks : List ℕ) (q : ℕ) → Marked names marks [] [] → Marking names (names_of (row_of names) q) marks (q + 1)
unfolding names_of
marking_start names marks q p = record { done = []; left = ap (λ (k : ℕ). names_from k (drop k (row_of names))) (add-one q); marked = p }

module _ (names : Names) (all marks : List ℕ) (i : ℕ) (p : Marking names all marks i) where
  abbrev row : List Token
  row = row_of names

  marking_done : names_from i (drop i row) ≡ [] → Marked names marks all []
  marking_done e = subst (λ (l : List ℕ). Marked names marks l []) (sym (append-nil p.done) ∙ ap (λ (l : List ℕ). p.done ++ l) (sym e) ∙ p.left) p.marked

  pub marking_stop : (t : Token) → i < names.tokens.count → t ≡ peek (row_of names) i → t.kind ≡ 13 → Marked names marks all []
  marking_stop t h e k = marking_done (names_stop row i (omega (arith, size_of names)) (ap (λ (t : Token). t.kind) (sym e) ∙ k))

  pub marking_end : names.tokens.count ≤ i → Marked names marks all []
  marking_end h = marking_done (names-end row i (omega (arith, size_of names)))

  pub marking_on : (t : Token) (v : List ℕ) → i < names.tokens.count → t ≡ peek (row_of names) i → (t.kind ≡ 13 → ⊥)
      → ((qs : List ℕ) → Marked names marks qs [] → Marked names v (qs ++ name_at i (peek (row_of names) i)) []) → Marking names all v (i + 1)
  marking_on t v h e k f = record {
    done = p.done ++ name_at i (peek row i);
    left =
        append_assoc p.done (name_at i (peek row i)) (names_from (i + 1) (drop (i + 1) row)) ∙ ap (λ (j : ℕ). p.done ++ (name_at i (peek row i) ++ names_from j (drop j row))) (add-one i)
        ∙ ap (λ (l : List ℕ). p.done ++ l) (sym (names-on row i (omega (arith, size_of names)) (λ z. k (ap (λ (t : Token). t.kind) e ∙ z)))) ∙ p.left;
    marked = f p.done p.marked;
  }

-- ---- the walk over F's set has come to the index i; `start` says what held before it
pub one-final : (text : List ℕ) (ts : List Token) (d : Bool) (qs before : List ℕ) (i : ℕ) → length (final_error text ts d qs before i) ≤ 1
unfolding final_error unknown_error
one-final text ts d qs before i = one (listed text ts i before) (listed text ts i qs)
  where
    one : (o q : Option ℕ)
        → length {A = Diagnostic} (elim o [ Some j ↦ with_related (error 11 (place_of (peek ts i))) (place_of (peek ts j)) ∷ [] | None ↦ cond d (elim q [ Some j ↦ [] | None ↦ error 3 (place_of (peek ts i)) ∷ [] ]) [] ]) ≤ 1
    one (Some j) q = omega arith
    one None (Some k) = at_most_one d [] [] (omega arith) (omega arith)
    one None None = at_most_one d (error 3 (place_of (peek ts i)) ∷ []) [] (omega arith) (omega arith)

pub at_most_final : (text : List ℕ) (ts : List Token) (d : Bool) (qs before : List ℕ) (i : ℕ) → length (final_error_at text ts d qs before i) ≤ 1
unfolding final_error_at
at_most_final text ts d qs before i = at_most_one (is_state (peek ts i)) (final_error text ts d qs before i) [] (one-final text ts d qs before i) (omega arith)

pub errors_on : (text : List ℕ) (ts : List Token) (d : Bool) (qs before fs : List ℕ) (i : ℕ)
    → final_errors text ts d qs before (name_at i (peek ts i) ++ fs) ≡ final_error_at text ts d qs before i ++ final_errors text ts d qs (before ++ name_at i (peek ts i)) fs
unfolding final_errors final_error_at name_at
errors_on text ts d qs before fs i = go (is_state (peek ts i))
  where
    go : (x : Bool) → final_errors text ts d qs before (cond x (i ∷ []) [] ++ fs) ≡ cond x (final_error text ts d qs before i) [] ++ final_errors text ts d qs (before ++ cond x (i ∷ []) []) fs
    go true = refl
    go false = ap (λ (l : List ℕ). final_errors text ts d qs l fs) (sym (append-nil before))

pub record Listing (names : Names) (d : Bool) (qs : List ℕ) (all : List Diagnostic) (l₀ l : Log) (marks : List ℕ) (i : ℕ) : Type 0 where
  pub before : List ℕ
  pub done : List Diagnostic
  pub given : Appends l₀ l done
  pub whole : done ++ final_errors names.text.now (row_of names) d qs before (names_from i (drop i (row_of names))) ≡ all
  pub marked : Marked names marks qs before
  pub few : length done ≤ i

pub listing_start : (names : Names) (d e : Bool) (qs : List ℕ) (l : Log) (marks : List ℕ) (f : ℕ) → d ≡ e → Marked names marks qs []
    → Listing names d qs (final_errors names.text.now (row_of names) e qs [] (names_of (row_of names) f)) l l marks (f + 1)
unfolding names_of
listing_start names d e qs l marks f said p = record {
  before = [];
  done = [];
  given = appends_none l;
  whole =
      ap (λ (k : ℕ). final_errors names.text.now (row_of names) d qs [] (names_from k (drop k (row_of names)))) (add-one f)
      ∙ ap (λ (d : Bool). final_errors names.text.now (row_of names) d qs [] (names_of (row_of names) f)) said;
  marked = p;
  few = omega arith;
}

module _ (names : Names) (d : Bool) (qs : List ℕ) (all : List Diagnostic) (l₀ l : Log) (marks : List ℕ) (i : ℕ) (p : Listing names d qs all l₀ l marks i) where
  abbrev ts : List Token
  ts = row_of names

  abbrev text : List ℕ
  text = names.text.now

  finished : names_from i (drop i ts) ≡ [] → Appends l₀ l all
  unfolding final_errors
  finished e = appends_as l₀ l p.done all p.given (sym (append-nil p.done) ∙ ap (λ (l : List ℕ). p.done ++ final_errors text ts d qs p.before l) (sym e) ∙ p.whole)

  pub listing_stop : (t : Token) → i < names.tokens.count → t ≡ peek (row_of names) i → t.kind ≡ 13 → Appends l₀ l all
  listing_stop t h e k = finished (names_stop ts i (omega (arith, size_of names)) (ap (λ (t : Token). t.kind) (sym e) ∙ k))

  pub listing-end : names.tokens.count ≤ i → Appends l₀ l all
  listing-end h = finished (names-end ts i (omega (arith, size_of names)))

  pub listing_room : i < names.tokens.count → l₀.count + names.tokens.count < 2 ^ 64 → l.count + 1 < 2 ^ 64
  listing_room h g = omega (arith, p.few, appends_count l₀ l p.done p.given)

  pub listing-on : (t : Token) (v : List ℕ) (l' : Log) → i < names.tokens.count → t ≡ peek (row_of names) i → (t.kind ≡ 13 → ⊥)
      → ((qs before : List ℕ) → Marked names marks qs before
      → Appends l l' (final_error_at names.text.now (row_of names) d qs before i) × Marked names v qs (before ++ name_at i (peek (row_of names) i)))
      → Listing names d qs all l₀ l' v (i + 1)
  listing-on t v l' h e k f =
      let r = f qs p.before p.marked in
      let more : List ℕ = p.before ++ name_at i (peek ts i) in
      let ds : List Diagnostic = final_error_at text ts d qs p.before i in
      let rest : List ℕ = names_from (suc i) (drop (suc i) ts) in
      record {
        before = more;
        done = p.done ++ ds;
        given = appends_then l₀ l l' p.done ds p.given r.0;
        whole =
            append_assoc p.done ds (final_errors text ts d qs more (names_from (i + 1) (drop (i + 1) ts)))
            ∙ ap (λ (j : ℕ). p.done ++ (ds ++ final_errors text ts d qs more (names_from j (drop j ts)))) (add-one i)
            ∙ ap (λ (x : List Diagnostic). p.done ++ x) (sym (errors_on text ts d qs p.before rest i))
            ∙ ap (λ (l : List ℕ). p.done ++ final_errors text ts d qs p.before l) (sym (names-on ts i (omega (arith, size_of names)) (λ z. k (ap (λ (t : Token). t.kind) e ∙ z))))
            ∙ p.whole;
        marked = r.1;
        few = omega (arith, p.few, length-append p.done ds, at_most_final text ts d qs p.before i);
      }

-- ---- all of F
pub finals_of_lem : (names : Names) (first : List ℕ) (q f : ℕ) → q ≡ get_or first 5 0 → f ≡ get_or first 10 0
    → final_errors names.text.now (row_of names) (ltb q names.tokens.count) (names_of (row_of names) q) [] (names_of (row_of names) f) ≡ finals_errors names.text.now (row_of names) first
unfolding finals_errors
finals_of_lem names first q f eq ef =
    let ts : List Token = row_of names in
    let text : List ℕ = names.text.now in
    ap (λ (n : ℕ). final_errors text ts (ltb q n) (names_of ts q) [] (names_of ts f)) (sym (size_of names))
    ∙ ap (λ (q : ℕ). final_errors text ts (ltb q (length ts)) (names_of ts q) [] (names_of ts f)) eq
    ∙ ap (λ (f : ℕ). final_errors text ts (ltb (get_or first 5 0) (length ts)) (names_of ts (get_or first 5 0)) [] (names_of ts f)) ef

-- without F there is nothing to tell
pub finals-none : (text : List ℕ) (ts : List Token) (first : List ℕ) → length ts ≤ get_or first 10 0 → [] ≡ finals_errors text ts first
unfolding finals_errors final_errors names_of names_from
finals-none text ts first h =
    let n : names_of ts (get_or first 10 0) ≡ [] = ap (names_from (suc (get_or first 10 0))) (drop_of_length-le ts {i = suc (get_or first 10 0)} (omega arith)) in
    ap (λ (ns : List ℕ). final_errors text ts (ltb (get_or first 5 0) (length ts)) (names_of ts (get_or first 5 0)) [] ns) (sym n)
