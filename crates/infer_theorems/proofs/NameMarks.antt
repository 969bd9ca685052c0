-- Names by their marks: what the walk over names adds to the sheet are the language's states, each marked as final or not.
use mathlib.Core.Path.{◌≡◌, refl, sym, ap, ap₂, subst, ◌∙◌}
use mathlib.Core.Bool.{Bool, true, false, cond, ◌||◌, ◌&&◌, not, false≢true}
use mathlib.Core.List.{List, [], ◌∷◌, ◌++◌, append-nil, append_assoc}
use Prim.Native.Nat.{ℕ, zero, suc, ◌+◌, ◌*◌, ◌≤◌, ◌<◌}
use native.Mathlib.Omega.{arith}
use native.Mathlib.Decide.{dec_lt}
use borrow.Author.Tests.{lt-ltb, le-ltb}
use lib.Dec.{eqb}
use lib.ListN.{length, get_or, drop, set, replicate, get_or-append, get_or-replicate, length-replicate, length-set, length-append, get_or-eq_default}
use lib.Seq.{get_or-set_same, get_or-set_other}
use Rattle.diag.proofs.Cases.{by_test_lem}
use Rattle.diag.specs.declared.Span.{Span}
use Rattle.lexer.specs.Text.{same}
use Rattle.tokens.specs.declared.Token.{Token}
use Rattle.parser.specs.Row.{peek, ended}
use Rattle.parser.specs.Views.{is_state}
use Rattle.language.specs.Machine.{Located}
use Rattle.language.specs.Infer as I
use Rattle.language.specs.Layout as L
use Rattle.assembler.specs.Names.{same_name, is_word, first_equal}
use Rattle.assembler_names.specs.Names.{FirstsOf}
use Rattle.assembler_names.proofs.NameLaws.{part_of, name-part, part-name, first_low, first_part, first-same}
use Rattle.assembler.specs.Finals.{name_at, names_from, names_of}
use Rattle.assembler.proofs.FinalsMean.{NameIs, name-place, names_same, AllNames, no_names, one_name}
use Rattle.infer.specs.Page.{indices_from, indices_in}
use Rattle.infer.specs.States.{mark_of, unmarked, list_final, list_finals, name_words, name_adds, name_marks, names_add, finals}

-- ---- states among indices
-- a state is a word
pub state-word : (t : Token) → is_state t ≡ true → is_word t ≡ true
unfolding is_state
state-word t e = go (eqb t.kind 0) refl
  where
    go : (b : Bool) → eqb t.kind 0 ≡ b → eqb t.kind 0 ≡ true
    go true q = q
    go false q = absurd (false≢true (sym (ap (λ (b : Bool). cond b (not (eqb t.value 0x5F)) false) q) ∙ e))

-- a state stands inside the row
pub state_low : (ts : List Token) (x : ℕ) → is_state (peek ts x) ≡ true → x < length ts
unfolding is_state
state_low ts x e = go (dec_lt x (length ts))
  where
    go : Dec (x < length ts) → x < length ts
    go (yes h) = h
    go (no h) = absurd (false≢true (sym (ap is_state (get_or-eq_default ts ended {n = x} (omega arith))) ∙ e))

-- the indices at which states stand
unfoldable pub states_of : List Token → List ℕ → List ℕ
states_of ts [] = []
states_of ts (x ∷ xs) = cond (is_state (peek ts x)) (x ∷ []) [] ++ states_of ts xs

pub data AllStates (ts : List Token) : List ℕ → Type 0 where
  no_states : AllStates ts []
  one_state : {x : ℕ} {xs : List ℕ} → is_state (peek ts x) ≡ true → AllStates ts xs → AllStates ts (x ∷ xs)

module _ (ts : List Token) where
  pub states-append : (xs ys : List ℕ) → states_of ts (xs ++ ys) ≡ states_of ts xs ++ states_of ts ys
  unfolding states_of
  states-append [] ys = refl
  states-append (x ∷ xs) ys = ap (λ (l : List ℕ). cond (is_state (peek ts x)) (x ∷ []) [] ++ l) (states-append xs ys) ∙ sym (append_assoc (cond (is_state (peek ts x)) (x ∷ []) []) (states_of ts xs) (states_of ts ys))

  pub states-all : (xs : List ℕ) → AllStates ts xs → states_of ts xs ≡ xs
  unfolding states_of
  states-all [] no_states = refl
  states-all (x ∷ xs) (one_state e r) = rw e (ap (λ (l : List ℕ). x ∷ l) (states-all xs r))

  pub all_append : (xs ys : List ℕ) → AllStates ts xs → AllStates ts ys → AllStates ts (xs ++ ys)
  all_append [] ys no_states q = q
  all_append (x ∷ xs) ys (one_state e r) q = one_state e (all_append xs ys r q)

  pub all-states : (xs : List ℕ) → AllStates ts (states_of ts xs)
  unfolding states_of
  all-states [] = no_states
  all-states (x ∷ xs) = go (all-states xs) (is_state (peek ts x)) refl
    where
      go : AllStates ts (states_of ts xs) → (b : Bool) → is_state (peek ts x) ≡ b → AllStates ts (cond b (x ∷ []) [] ++ states_of ts xs)
      go r true e = one_state e r
      go r false e = r

  pub states_yes : (x : ℕ) (xs : List ℕ) → is_state (peek ts x) ≡ true → states_of ts (x ∷ xs) ≡ x ∷ states_of ts xs
  unfolding states_of
  states_yes x xs e = rw e

  pub states_no : (x : ℕ) (xs : List ℕ) → is_state (peek ts x) ≡ false → states_of ts (x ∷ xs) ≡ states_of ts xs
  unfolding states_of
  states_no x xs e = rw e

  -- the names of a line are the states among its indices
  from_names : (us : List Token) (i : ℕ) → us ≡ drop i ts → states_of ts (indices_from i us) ≡ names_from i us
  unfolding states_of indices_from names_from name_at
  from_names [] i e = refl
  from_names (u ∷ us) i e =
      let here : peek ts i ≡ u = at_head i ts u us e in
      by_test_lem (eqb u.kind 13) (λ y. rw (y, indices_from, names_from))
      (λ n. rw (n, indices_from, names_from) (ap₂ (λ (t : Token) (l : List ℕ). cond (is_state t) (i ∷ []) [] ++ l) here (from_names us (suc i) (rest_is i ts u us e))))
    where
      at_head : (i : ℕ) (ts : List Token) (u : Token) (us : List Token) → (u ∷ us) ≡ drop i ts → peek ts i ≡ u
      at_head zero ts u us e = ap (λ (l : List Token). peek l 0) (sym e)
      at_head (suc i) [] u us e = absurd (omega (arith, ap length e))
      at_head (suc i) (t ∷ ts) u us e = at_head i ts u us e

      rest_is : (i : ℕ) (ts : List Token) (u : Token) (us : List Token) → (u ∷ us) ≡ drop i ts → us ≡ drop (suc i) ts
      rest_is zero [] u us e = absurd (omega (arith, ap length e))
      rest_is zero (t ∷ ts) u us e = ap (drop 1) e
      rest_is (suc i) [] u us e = absurd (omega (arith, ap length e))
      rest_is (suc i) (t ∷ ts) u us e = rest_is i ts u us e

  pub line-names : (f : ℕ) → states_of ts (indices_in ts f) ≡ names_of ts f
  unfolding indices_in names_of
  line-names f = from_names (drop (suc f) ts) (suc f) refl

-- ---- one name
module _ (firsts : List ℕ) (ts : List Token) (ms : List ℕ) (x : ℕ) where
  abbrev mark : ℕ
  mark = mark_of firsts ms x

  module _ (repeats : Bool) where
    adds_no : is_state (peek ts x) ≡ false → name_adds firsts ts repeats ms x ≡ []
    unfolding name_adds
    adds_no e = rw e

    adds_new : (m : ℕ) → is_state (peek ts x) ≡ true → mark ≡ m → m < 2 → name_adds firsts ts repeats ms x ≡ name_words (peek ts x) m
    unfolding name_adds
    adds_new m e f h = rw (e, f, lt-ltb m 2 h)

    adds_again : is_state (peek ts x) ≡ true → 2 ≤ mark → name_adds firsts ts repeats ms x ≡ cond repeats (name_words (peek ts x) 0) []
    unfolding name_adds
    adds_again e h = rw (e, le-ltb mark 2 h)

  marks_no : is_state (peek ts x) ≡ false → name_marks firsts ts ms x ≡ ms
  unfolding name_marks
  marks_no e = rw e

  marks_new : (m : ℕ) → is_state (peek ts x) ≡ true → mark ≡ m → m < 2 → name_marks firsts ts ms x ≡ set ms (get_or firsts x 0) (m + 2)
  unfolding name_marks
  marks_new m e f h = rw (e, f, lt-ltb m 2 h)

  marks_again : is_state (peek ts x) ≡ true → 2 ≤ mark → name_marks firsts ts ms x ≡ ms
  unfolding name_marks
  marks_again e h = rw (e, le-ltb mark 2 h)

  list_no : is_state (peek ts x) ≡ false → list_final firsts ts ms x ≡ ms
  unfolding list_final
  list_no e = rw e

  list_yes : is_state (peek ts x) ≡ true → list_final firsts ts ms x ≡ set ms (get_or firsts x 0) 1
  unfolding list_final
  list_yes e = rw e

-- other tokens add nothing
pub adds_states : (firsts : List ℕ) (ts : List Token) (repeats : Bool) (ms xs : List ℕ) → names_add firsts ts repeats ms xs ≡ names_add firsts ts repeats ms (states_of ts xs)
unfolding names_add states_of
adds_states firsts ts repeats ms [] = refl
adds_states firsts ts repeats ms (x ∷ xs) = by_test_lem (is_state (peek ts x))
    (λ y. ap (λ (l : List ℕ). name_adds firsts ts repeats ms x ++ l) (adds_states firsts ts repeats (name_marks firsts ts ms x) xs) ∙ ap (names_add firsts ts repeats ms) (sym (states_yes ts x xs y)))
    (λ n. ap₂ (λ (l v : List ℕ). l ++ names_add firsts ts repeats v xs) (adds_no firsts ts ms x repeats n) (marks_no firsts ts ms x n) ∙ adds_states firsts ts repeats ms xs ∙ ap (names_add firsts ts repeats ms) (sym (states_no ts x xs n)))

pub lists_states : (firsts : List ℕ) (ts : List Token) (ms xs : List ℕ) → list_finals firsts ts ms xs ≡ list_finals firsts ts ms (states_of ts xs)
unfolding list_finals states_of
lists_states firsts ts ms [] = refl
lists_states firsts ts ms (x ∷ xs) = by_test_lem (is_state (peek ts x))
    (λ y. lists_states firsts ts (list_final firsts ts ms x) xs ∙ ap (list_finals firsts ts ms) (sym (states_yes ts x xs y)))
    (λ n. ap (λ (v : List ℕ). list_finals firsts ts v xs) (list_no firsts ts ms x n) ∙ lists_states firsts ts ms xs ∙ ap (list_finals firsts ts ms) (sym (states_no ts x xs n)))

-- ---- marks
module _ (text : List ℕ) (ts : List Token) where
  -- the name at x is one of those at some indices
  abbrev pub among : List ℕ → ℕ → Bool
  among l x = I.member (λ (j k : ℕ). same_name text (peek ts j) (peek ts k)) l x

  among_same : (l : List ℕ) (x y : ℕ) → part_of text (peek ts x) ≡ part_of text (peek ts y) → among l x ≡ among l y
  unfolding I.member same_name
  among_same [] x y e = refl
  among_same (j ∷ l) x y e = ap₂ (λ (p : List ℕ) (b : Bool). same (part_of text (peek ts j)) p || b) e (among_same l x y e)

  among_last : (l : List ℕ) (i x : ℕ) → among (l ++ i ∷ []) x ≡ (same_name text (peek ts i) (peek ts x) || among l x)
  unfolding I.member
  among_last [] i x = refl
  among_last (j ∷ l) i x = ap (λ (b : Bool). same_name text (peek ts j) (peek ts x) || b) (among_last l i x) ∙ turn (same_name text (peek ts j) (peek ts x)) (same_name text (peek ts i) (peek ts x)) (among l x)
    where
      turn : (a b c : Bool) → (a || (b || c)) ≡ (b || (a || c))
      turn true true c = refl
      turn true false c = refl
      turn false true c = refl
      turn false false c = refl

  -- names of the row are the language's
  among_mean : (js : List ℕ) (ls : List (Located Span (List ℕ))) (x : ℕ) (l : Located Span (List ℕ)) → AllNames text ts js ls → NameIs text (peek ts x) l → among js x ≡ I.member I.same_name ls l
  unfolding I.member
  among_mean [] [] x l no_names n = refl
  among_mean [] (m ∷ ls) x l a n = elim a [ ]
  among_mean (j ∷ js) [] x l a n = elim a [ ]
  among_mean (j ∷ js) (m ∷ ls) x l (one_name a r) n = ap₂ (λ (b c : Bool). b || c) (names_same text (peek ts j) (peek ts x) m l a n) (among_mean js ls x l r n)

  -- the mark of a name: 1 if it is one of fs, and 2 more if it is one of those seen
  abbrev marking : List ℕ → List ℕ → ℕ → ℕ
  marking fs seen x = L.flag (among fs x) + 2 * L.flag (among seen x)

  pub record Marked (firsts ms fs seen : List ℕ) : Type 0 where
    pub names : FirstsOf text ts (length ts) firsts
    pub room : length ts ≤ length ms
    pub marks : (x : ℕ) → x < length ts → is_word (peek ts x) ≡ true → mark_of firsts ms x ≡ marking fs seen x

  module _ (firsts ms fs seen : List ℕ) (m : Marked firsts ms fs seen) where
    -- a mark set
    sets : (i : ℕ) → i < length ts → is_word (peek ts i) ≡ true → (k : ℕ) (new : ℕ → ℕ)
        → ((x : ℕ) → part_of text (peek ts i) ≡ part_of text (peek ts x) → new x ≡ k) → ((x : ℕ) → same_name text (peek ts i) (peek ts x) ≡ false → new x ≡ marking fs seen x)
        → (x : ℕ) → x < length ts → is_word (peek ts x) ≡ true → mark_of firsts (set ms (get_or firsts i 0) k) x ≡ new x
    sets i low word k new equal other x h e =
        let here : get_or firsts i 0 ≡ first_equal text (peek ts i) 0 ts = m.names.first i low word in
        let at : get_or firsts x 0 ≡ first_equal text (peek ts x) 0 ts = m.names.first x h e in
        by_test_lem (same_name text (peek ts i) (peek ts x))
        (λ s.
        let p : part_of text (peek ts i) ≡ part_of text (peek ts x) = name-part text (peek ts i) (peek ts x) s in
        let one : get_or firsts x 0 ≡ get_or firsts i 0 = at ∙ sym (here ∙ first-same text (peek ts i) (peek ts x) 0 ts p) in
        ap (λ (j : ℕ). get_or (set ms (get_or firsts i 0) k) j 0) one ∙ get_or-set_same ms (get_or firsts i 0) k 0 (omega (arith, here, first_low text ts i low word, m.room)) ∙ sym (equal x p))
        (λ s.
        let apart : get_or firsts x 0 ≡ get_or firsts i 0 → ⊥ = λ z.
        let p : part_of text (peek ts i) ≡ part_of text (peek ts x) = sym (first_part text ts i low word) ∙ ap (λ (k : ℕ). part_of text (peek ts k)) (sym here ∙ sym z ∙ at) ∙ first_part text ts x h e in
        let o : ◌≡◌ {A = ℕ} 0 1 = (let t = part-name text (peek ts i) (peek ts x) p in cc) in omega arith in
        get_or-set_other ms (get_or firsts i 0) (get_or firsts x 0) k 0 apart ∙ m.marks x h e ∙ sym (other x s))

    set_marked : (i : ℕ) → i < length ts → is_word (peek ts i) ≡ true → (k : ℕ) (fs' seen' : List ℕ)
        → ((x : ℕ) → part_of text (peek ts i) ≡ part_of text (peek ts x) → marking fs' seen' x ≡ k) → ((x : ℕ) → same_name text (peek ts i) (peek ts x) ≡ false → marking fs' seen' x ≡ marking fs seen x)
        → Marked firsts (set ms (get_or firsts i 0) k) fs' seen'
    set_marked i low word k fs' seen' equal other =
        record { names = m.names; room = omega (arith, m.room, length-set ms (get_or firsts i 0) k); marks = sets i low word k (marking fs' seen') equal other }

    module _ (i : ℕ) (state : is_state (peek ts i) ≡ true) where
      low : i < length ts
      low = state_low ts i state

      word : is_word (peek ts i) ≡ true
      word = state-word (peek ts i) state

      mark_is : mark_of firsts ms i ≡ marking fs seen i
      mark_is = m.marks i low word

      same_part : (x : ℕ) → part_of text (peek ts i) ≡ part_of text (peek ts x) → same_name text (peek ts i) (peek ts x) ≡ true
      same_part x p = part-name text (peek ts i) (peek ts x) p

      -- a name met for the first time
      marked_new : among seen i ≡ false → (k : ℕ) → k ≡ L.flag (among fs i) → Marked firsts (set ms (get_or firsts i 0) (k + 2)) fs (i ∷ seen)
      unfolding I.member
      marked_new new k e = set_marked i low word (k + 2) fs (i ∷ seen)
          (λ x p. ap₂ (λ (a b : Bool). L.flag a + 2 * L.flag b) (among_same fs x i (sym p)) (ap (λ (b : Bool). b || among seen x) (same_part x p)) ∙ ap (λ (n : ℕ). n + 2) (sym e))
          (λ x s. ap (λ (b : Bool). L.flag (among fs x) + 2 * L.flag (b || among seen x)) s)

      -- a name met before
      marked_again : among seen i ≡ true → Marked firsts ms fs (i ∷ seen)
      unfolding I.member
      marked_again old = record {
        names = m.names;
        room = m.room;
        marks = λ x h g. m.marks x h g ∙ ap (λ (b : Bool). L.flag (among fs x) + 2 * L.flag b) (by_test_lem (same_name text (peek ts i) (peek ts x))
            (λ y. among_same seen x i (sym (name-part text (peek ts i) (peek ts x) y)) ∙ old ∙ ap (λ (b : Bool). b || among seen x) (sym y))
            (λ n. ap (λ (b : Bool). b || among seen x) (sym n)));
      }

      -- a name that F lists
      marked-final : ((x : ℕ) → among seen x ≡ false) → Marked firsts (set ms (get_or firsts i 0) 1) (fs ++ i ∷ []) seen
      marked-final none = set_marked i low word 1 (fs ++ i ∷ []) seen
          (λ x p. ap₂ (λ (a b : Bool). L.flag a + 2 * L.flag b) (among_last fs i x ∙ ap (λ (b : Bool). b || among fs x) (same_part x p)) (none x))
          (λ x s. ap (λ (b : Bool). L.flag b + 2 * L.flag (among seen x)) (among_last fs i x ∙ ap (λ (b : Bool). b || among fs x) s))

-- ---- the words of states
-- a state of the language, in words
state_words_lem : (text : List ℕ) (t : Token) (l : Located Span (List ℕ)) (f : Bool) → NameIs text t l → name_words t (L.flag f) ≡ L.state_words (record { name = l; final = f })
unfolding L.state_words
state_words_lem text t l f n =
    ap₂ (λ (a b : ℕ). a ∷ b ∷ L.flag f ∷ []) (ap (λ (p : Span). p.start) (name-place text t l n)) (ap (λ (p : Span). p.end) (name-place text t l n))

not_known : (a b : Bool) → b ≡ false → (a && not b) ≡ a
not_known true false e = refl
not_known false false e = refl
not_known a true e = absurd (false≢true (sym e))

is_known : (a b : Bool) → b ≡ true → (a && not b) ≡ false
is_known true true e = refl
is_known false b e = refl
is_known true false e = absurd (false≢true e)

module _ (text : List ℕ) (ts : List Token) (firsts fs : List ℕ) (F : List (Located Span (List ℕ))) (finals_are : AllNames text ts fs F) where
  abbrev Names : Type 0
  Names = List (Located Span (List ℕ))

  abbrev is_final : Located Span (List ℕ) → Bool
  is_final = I.member I.same_name F

  abbrev seen_in : Names → Located Span (List ℕ) → Bool
  seen_in S = I.member I.same_name S

  fresh_there : (S : Names) (l : Located Span (List ℕ)) (ls : Names) → seen_in S l ≡ true → I.fresh I.same_name (seen_in S) (l ∷ ls) ≡ I.fresh I.same_name (seen_in S) ls
  unfolding I.fresh
  fresh_there S l ls e = rw (e, I.fresh)

  fresh_new : (S : Names) (l : Located Span (List ℕ)) (ls : Names) → seen_in S l ≡ false → I.fresh I.same_name (seen_in S) (l ∷ ls) ≡ l ∷ I.fresh I.same_name (seen_in (l ∷ S)) ls
  unfolding I.fresh I.member
  fresh_new S l ls e = rw (e, I.fresh)

  marked-on : (S : Names) (l : Located Span (List ℕ)) (ls : Names) (f : Bool) → (is_final l && not (seen_in S l)) ≡ f
      → L.flat L.state_words (I.marked is_final (seen_in S) (l ∷ ls)) ≡ L.state_words (record { name = l; final = f }) ++ L.flat L.state_words (I.marked is_final (seen_in (l ∷ S)) ls)
  unfolding I.marked L.flat I.member
  marked-on S l ls f e = ap (λ (b : Bool). L.state_words (record { name = l; final = b }) ++ L.flat L.state_words (I.marked is_final (λ y. I.same_name l y || seen_in S y) ls)) e

  -- what one name adds
  module _ (ms seen : List ℕ) (S : Names) (m : Marked text ts firsts ms fs seen) (seen_are : AllNames text ts seen S) (x : ℕ) (l : Located Span (List ℕ)) (state : is_state (peek ts x) ≡ true) (name : NameIs text (peek ts x) l) where
    seen_is : among text ts seen x ≡ seen_in S l
    seen_is = among_mean text ts seen S x l seen_are name

    final_is : among text ts fs x ≡ is_final l
    final_is = among_mean text ts fs F x l finals_are name

    low_mark : seen_in S l ≡ false → mark firsts ts ms x ≡ L.flag (is_final l)
    low_mark e = mark_is text ts firsts ms fs seen m x state ∙ ap₂ (λ (a b : Bool). L.flag a + 2 * L.flag b) final_is (seen_is ∙ e) ∙ plain (is_final l)
      where
        plain : (a : Bool) → L.flag a + 2 * 0 ≡ L.flag a
        plain true = refl
        plain false = refl

    high_mark : seen_in S l ≡ true → 2 ≤ mark firsts ts ms x
    high_mark e = omega (arith, mark_is text ts firsts ms fs seen m x state ∙ ap (λ (b : Bool). L.flag (among text ts fs x) + 2 * L.flag b) (seen_is ∙ e))

    flag_low : (b : Bool) → L.flag b < 2
    flag_low true = omega arith
    flag_low false = omega arith

    new_words : (repeats : Bool) → seen_in S l ≡ false → name_adds firsts ts repeats ms x ≡ L.state_words (record { name = l; final = is_final l })
    new_words repeats e = adds_new firsts ts ms x repeats (L.flag (is_final l)) state (low_mark e) (flag_low (is_final l)) ∙ state_words_lem text (peek ts x) l (is_final l) name

    new_marks : seen_in S l ≡ false → Marked text ts firsts (name_marks firsts ts ms x) fs (x ∷ seen)
    new_marks e = subst (λ (v : List ℕ). Marked text ts firsts v fs (x ∷ seen)) (sym (marks_new firsts ts ms x (L.flag (is_final l)) state (low_mark e) (flag_low (is_final l))))
        (marked_new text ts firsts ms fs seen m x state (seen_is ∙ e) (L.flag (is_final l)) (ap (λ (b : Bool). L.flag b) (sym final_is)))

    old_marks : seen_in S l ≡ true → name_marks firsts ts ms x ≡ ms
    old_marks e = marks_again firsts ts ms x state (high_mark e)

  -- each name once
  pub once_mean : (xs seen : List ℕ) (ls S : Names) (ms : List ℕ) → AllStates ts xs → AllNames text ts xs ls → AllNames text ts seen S → Marked text ts firsts ms fs seen
      → names_add firsts ts false ms xs ≡ L.flat L.state_words (I.marked is_final (seen_in S) (I.fresh I.same_name (seen_in S) ls))
  unfolding names_add I.fresh I.marked L.flat
  once_mean [] seen [] S ms a no_names b m = refl
  once_mean [] seen (l ∷ ls) S ms a n b m = elim n [ ]
  once_mean (x ∷ xs) seen [] S ms a n b m = elim n [ ]
  once_mean (x ∷ xs) seen (l ∷ ls) S ms (one_state s a) (one_name n r) b m = by_test_lem (seen_in S l)
      (λ y.
      ap₂ (λ (l v : List ℕ). l ++ names_add firsts ts false v xs) (adds_again firsts ts ms x false s (high_mark ms seen S m b x l s n y)) (old_marks ms seen S m b x l s n y)
      ∙ once_mean xs seen ls S ms a r b m ∙ ap (λ (q : Names). L.flat L.state_words (I.marked is_final (seen_in S) q)) (sym (fresh_there S l ls y)))
      (λ z.
      ap₂ (λ (p q : List ℕ). p ++ q) (new_words ms seen S m b x l s n false z) (once_mean xs (x ∷ seen) ls (l ∷ S) (name_marks firsts ts ms x) a r (one_name n b) (new_marks ms seen S m b x l s n z))
      ∙ sym (marked-on S l (I.fresh I.same_name (seen_in (l ∷ S)) ls) (is_final l) (not_known (is_final l) (seen_in S l) z)) ∙ ap (λ (q : Names). L.flat L.state_words (I.marked is_final (seen_in S) q)) (sym (fresh_new S l ls z)))

  -- each name as often as Q has it
  pub each_mean : (xs seen : List ℕ) (ls S : Names) (ms : List ℕ) → AllStates ts xs → AllNames text ts xs ls → AllNames text ts seen S → Marked text ts firsts ms fs seen
      → names_add firsts ts true ms xs ≡ L.flat L.state_words (I.marked is_final (seen_in S) ls)
  unfolding names_add I.marked L.flat
  each_mean [] seen [] S ms a no_names b m = refl
  each_mean [] seen (l ∷ ls) S ms a n b m = elim n [ ]
  each_mean (x ∷ xs) seen [] S ms a n b m = elim n [ ]
  each_mean (x ∷ xs) seen (l ∷ ls) S ms (one_state s a) (one_name n r) b m = by_test_lem (seen_in S l)
      (λ y.
      ap₂ (λ (p v : List ℕ). p ++ names_add firsts ts true v xs) (adds_again firsts ts ms x true s (high_mark ms seen S m b x l s n y) ∙ state_words_lem text (peek ts x) l false n) (old_marks ms seen S m b x l s n y)
      ∙ ap (λ (q : List ℕ). L.state_words (record { name = l; final = false }) ++ q) (each_mean xs (x ∷ seen) ls (l ∷ S) ms a r (one_name n b) (marked_again text ts firsts ms fs seen m x s (seen_is ms seen S m b x l s n ∙ y)))
      ∙ sym (marked-on S l ls false (is_known (is_final l) (seen_in S l) y)))
      (λ z.
      ap₂ (λ (p q : List ℕ). p ++ q) (new_words ms seen S m b x l s n true z) (each_mean xs (x ∷ seen) ls (l ∷ S) (name_marks firsts ts ms x) a r (one_name n b) (new_marks ms seen S m b x l s n z))
      ∙ sym (marked-on S l ls (is_final l) (not_known (is_final l) (seen_in S l) z)))

-- ---- the marks of F
module _ (text : List ℕ) (ts : List Token) (firsts : List ℕ) where
  listing : (xs fs ms : List ℕ) → AllStates ts xs → Marked text ts firsts ms fs [] → Marked text ts firsts (list_finals firsts ts ms xs) (fs ++ xs) []
  unfolding list_finals I.member
  listing [] fs ms no_states m = subst (λ (l : List ℕ). Marked text ts firsts ms l []) (sym (append-nil fs)) m
  listing (x ∷ xs) fs ms (one_state s a) m =
      let one : Marked text ts firsts (list_final firsts ts ms x) (fs ++ x ∷ []) [] = subst (λ (v : List ℕ). Marked text ts firsts v (fs ++ x ∷ []) []) (sym (list_yes firsts ts ms x s)) (marked-final text ts firsts ms fs [] m x s (λ y. refl)) in
      subst (λ (l : List ℕ). Marked text ts firsts (list_finals firsts ts (list_final firsts ts ms x) xs) l []) (append_assoc fs (x ∷ []) xs) (listing xs (fs ++ x ∷ []) (list_final firsts ts ms x) a one)

  -- no name is marked
  module _ (ms : List ℕ) (names : FirstsOf text ts (length ts) firsts) (room : length ts ≤ length ms) where
    -- the marks once they are cleared
    abbrev none-marked : List ℕ
    none-marked = unmarked (length ts) ms

    unmarked-at : (k : ℕ) → k < length ts → get_or none-marked k 0 ≡ 0
    unfolding unmarked
    unmarked-at k h = get_or-append (replicate (length ts) 0) (drop (length ts) ms) 0 k (omega (arith, length-replicate {A = ℕ} (length ts) 0)) ∙ get_or-replicate (length ts) k 0 0 h

    clear : Marked text ts firsts none-marked [] []
    unfolding I.member unmarked
    clear = record {
      names = names;
      room = omega (arith, length-append (replicate (length ts) 0) (drop (length ts) ms), length-replicate {A = ℕ} (length ts) 0);
      marks = λ x h e. ap (λ (j : ℕ). get_or none-marked j 0) (names.first x h e) ∙ unmarked-at (first_equal text (peek ts x) 0 ts) (first_low text ts x h e);
    }

    pub finals-marked : (first : List ℕ) → Marked text ts firsts (finals firsts ts first ms) (names_of ts (get_or first 10 0)) []
    unfolding finals
    finals-marked first =
        let f : ℕ = get_or first 10 0 in
        let here : Marked text ts firsts (list_finals firsts ts none-marked (states_of ts (indices_in ts f))) (states_of ts (indices_in ts f)) [] = listing (states_of ts (indices_in ts f)) [] none-marked (all-states ts (indices_in ts f)) clear in
        subst (λ (l : List ℕ). Marked text ts firsts (list_finals firsts ts none-marked (indices_in ts f)) l []) (line-names ts f)
        (subst (λ (v : List ℕ). Marked text ts firsts v (states_of ts (indices_in ts f)) []) (sym (lists_states firsts ts none-marked (indices_in ts f))) here)
