-- Laws of stored cases.
use Rattle.std.proofs.Common.{◌≡◌, ℕ, zero, suc, ◌+◌, ◌-◌, ◌*◌, ◌/◌, ◌<◌, ◌≤◌, Bool, true, false, eqb, leb, List, [], ◌∷◌, ◌++◌, length, get_or, take, drop, replicate, sym, refl, ap, ◌∙◌, subst, arith, length-drop, drop_of_length-le, length-take, take_all, get_or-take, get_or-drop, le-ltb, lt-ltb, eq-eqb, ne_eqb, le-leb, leb-true, leb-false, eqb-true}
use mathlib.Core.Bool.{false≢true}
use Rattle.std.specs.Bool.{MatchBool}
use Rattle.std.specs.List.{starts_with, enumerate_from, AllWithin, HoldsAt}
use Rattle.std.specs.Simd.{first_chunks}
use Rattle.std.proofs.lemmas.Bool.Decides.{Decides-eqb}
use Rattle.std.proofs.lemmas.List.{get_or_default, get_or_past}
use Rattle.std.proofs.lemmas.List.FromFn.{length-enumerate_from, get_or-enumerate_from}
use Rattle.std.proofs.lemmas.List.Prefix.{front_from_reads, front_reads}
use Rattle.std.proofs.lemmas.Slice.Eq.{starts_is}
use Rattle.chars.proofs.Tests.{and_both}
use borrow.Author.Tests.{lt-leb, eqb-false}
use borrow.Author.Rules.{rules}
use Rattle.language.specs.Outcome.{leaves_work_number, ReadOutcome, read_outcome, reply_words, reply_number, WriteOutcome, WriteReply, write_outcome, write_words, at_front, write_given}
use Rattle.diag.proofs.Cases.{by_test_lem as by_test}
use Rattle.std.specs.Prelude.{Result}
use Rattle.reader_answer.specs.declared.Refusal.{Refusal}
use Rattle.reader_answer.specs.declared.Answer.{Answer}
use Rattle.reader_answer.specs.Answer.{reply_in, read_in, leaves_work}
use Rattle.replay.specs.Case.{word_at, marked, wanted, holds_from, left, rows_left, work_left, output_left, output_at, agrees, form_agrees, Within, lengths_fit, reading_agrees, writing_agrees}

-- ---- a word

-- the byte j of the block i of four bytes each
block_byte : (k i j : ℕ) (s d : List ℕ) → i < k → j < 4 → get_or (get_or (first_chunks 4 k s) i d) j 0 ≡ get_or s (4 * i + j) 0
block_byte zero i j s d h g = absurd (omega arith)
block_byte (suc k) zero j s d h g = let e : j ≡ 4 * 0 + j = omega arith in get_or-take 4 s j 0 g ∙ ap (λ (m : ℕ). get_or s m 0) e
block_byte (suc k) (suc i) j s d h g =
    let e : 4 + (4 * i + j) ≡ 4 * suc i + j = omega arith in
    block_byte k i j (drop 4 s) d (omega arith) g ∙ get_or-drop 4 s (4 * i + j) 0 ∙ ap (λ (m : ℕ). get_or s m 0) e

module _ (c : List ℕ) (i : ℕ) (blocks : List (List ℕ)) (len : length blocks ≡ length c / 4) where
  pub word_out : length blocks ≤ i → 0 ≡ word_at c i
  unfolding word_at
  word_out h =
      let k : length c / 4 ≤ i = omega arith in
      rw (le-ltb i (length c / 4) k)

  module _ (row : List ℕ) (is : blocks ≡ first_chunks 4 (length c / 4) c) (h : i < length blocks) (at : row ≡ get_or blocks i row) where
    byte : (j m : ℕ) → j < 4 → 4 * i + j ≡ m → get_or row j 0 ≡ get_or c m 0
    byte j m g e =
        ap (λ (r : List ℕ). get_or r j 0) (at ∙ ap (λ (l : List (List ℕ)). get_or l i row) is)
        ∙ block_byte (length c / 4) i j c row (omega arith) g
        ∙ ap (λ (k : ℕ). get_or c k 0) e

    pub word_in : (n : ℕ) → n ≡ get_or row 0 0 + get_or row 1 0 * 256 + get_or row 2 0 * 65536 + get_or row 3 0 * 16777216 → n ≡ word_at c i
    unfolding word_at
    word_in n e =
        let k : i < length c / 4 = omega arith in
        rw (lt-ltb i (length c / 4) k, ← byte 0 (4 * i) (omega arith) (omega arith), ← byte 1 (4 * i + 1) (omega arith) refl, ← byte 2 (4 * i + 2) (omega arith) refl, ← byte 3 (4 * i + 3) (omega arith) refl) (omega (arith, e))

-- ---- a word that is to stand in a row
module _ (before c : List ℕ) (from m i : ℕ) where
  pub wanted-before : m ≡ 4294967295 → get_or before i 0 ≡ wanted before c from m i
  unfolding wanted
  wanted-before e = rw (eq-eqb m 4294967295 e)

  module _ (f : m ≡ 4294967295 → ⊥) (n : ℕ) (e : n ≡ m) where
    pub wanted_stored : (w : ℕ) → i < n → w ≡ word_at c (from + i) → w ≡ wanted before c from m i
    unfolding wanted
    wanted_stored w h q =
        let k : i < m = omega arith in
        rw (ne_eqb m 4294967295 f, lt-ltb i m k) q

    pub wanted-none : n ≤ i → 0 ≡ wanted before c from m i
    unfolding wanted
    wanted-none h =
        let k : m ≤ i = omega arith in
        rw (ne_eqb m 4294967295 f, le-ltb i m k)

-- ---- a row

-- what `all` tells of a list
abbrev Told : {X : Type 0} → (X → Type 0) → List X → Bool → Type 0
Told P xs r = MatchBool r (AllWithin P xs 0 (length xs)) ((k : ℕ) × (k < length xs) × HoldsAt (λ x. P x → ⊥) xs k)

-- a test that is not true
refuted : (b : Bool) → (b ≡ true → ⊥) → false ≡ b
refuted true f = absurd (f refl)
refuted false f = refl

module _ (f : ℕ → ℕ) where
  holds_each : (i : ℕ) (row : List ℕ) → holds_from f i row ≡ true → (j : ℕ) → j < length row → get_or row j 0 ≡ f (i + j)
  unfolding holds_from
  holds_each i [] e j h = absurd (omega arith)
  holds_each i (x ∷ xs) e zero h =
      let z : i + 0 ≡ i = omega arith in
      rw z (eqb-true x (f i) (and_both (eqb x (f i)) (holds_from f (suc i) xs) e).0)
  holds_each i (x ∷ xs) e (suc j) h =
      let s : i + suc j ≡ suc i + j = omega arith in
      rw s (holds_each (suc i) xs (and_both (eqb x (f i)) (holds_from f (suc i) xs) e).1 j (omega arith))

  holds_all : (i : ℕ) (row : List ℕ) → ((j : ℕ) → j < length row → get_or row j 0 ≡ f (i + j)) → holds_from f i row ≡ true
  unfolding holds_from
  holds_all i [] e = refl
  holds_all i (x ∷ xs) e =
      let z : i + 0 ≡ i = omega arith in
      let p : x ≡ f i = rw z at (e 0 (omega arith)) in
      let rest = holds_all (suc i) xs (λ j h.
      let s : i + suc j ≡ suc i + j = omega arith in
      rw s at (e (suc j) (omega arith))) in
      rw (eq-eqb x (f i) p) rest

  -- a row that holds the words of f from the front has each of them
  each : (row : List ℕ) → holds_from f 0 row ≡ true → (j : ℕ) → j < length row → get_or row j 0 ≡ f j
  each row e j h =
      let z : 0 + j ≡ j = omega arith in
      ap (λ (k : ℕ). get_or row j 0) z ∙ holds_each 0 row e j h ∙ ap f z

  whole : (row : List ℕ) → ((j : ℕ) → j < length row → get_or row j 0 ≡ f j) → holds_from f 0 row ≡ true
  whole row e = holds_all 0 row (λ j h.
      let z : j ≡ 0 + j = omega arith in
      e j h ∙ ap f z)

  -- what `all` tells of the places and words of a row
  told : (row : List ℕ) (r : Bool) → Told (λ (p : ℕ × ℕ). p.1 ≡ f p.0) (enumerate_from 0 row) r → r ≡ holds_from f 0 row
  told row true h = sym (holds_all 0 row (λ j g.
      let n = length-enumerate_from 0 row in
      let p : get_or (enumerate_from 0 row) j (0, 0) ≡ (0 + j, get_or row j 0) = get_or-enumerate_from 0 row j (0, 0) g in
      subst (λ (q : ℕ × ℕ). q.1 ≡ f q.0) p (h j (0, 0) (omega arith) (omega (arith, n)))))
  told row false h = refuted (holds_from f 0 row) (λ e.
      let n = length-enumerate_from 0 row in
      let g : h.0 < length row = omega (arith, n, h.1) in
      let p : get_or (enumerate_from 0 row) h.0 (0, 0) ≡ (0 + h.0, get_or row h.0 0) = get_or-enumerate_from 0 row h.0 (0, 0) g in
      subst (λ (q : ℕ × ℕ). q.1 ≡ f q.0 → ⊥) p (h.2 (0, 0)) (holds_each 0 row e h.0 g))

module _ (before c : List ℕ) (from m : ℕ) (row : List ℕ) (n : ℕ) (e : n ≡ marked m) where
  pub left_short : length row < n → false ≡ left before c from m row
  unfolding left
  left_short h =
      let k : length row < marked m = omega arith in
      rw (lt-leb (marked m) (length row) k)

  pub left_told : n ≤ length row → (r : Bool) → Told (λ (p : ℕ × ℕ). p.1 ≡ wanted before c from m p.0) (enumerate_from 0 row) r → r ≡ left before c from m row
  unfolding left
  left_told h r q =
      let k : marked m ≤ length row = omega arith in
      rw (le-leb (marked m) (length row) k) (told (wanted before c from m) row r q)

-- ---- an output

-- the end of a text, as it is cut
pub text_from : (c : List ℕ) (k : ℕ) → take (length c - k) (drop k c) ≡ drop k c
text_from c k = take_all (length c - k) (drop k c) (simp length-drop (omega arith))

module _ (stored row : List ℕ) (s : Bool) (es : s ≡ starts_with eqb row stored) where
  begins : (s ≡ true → row ≡ stored ++ drop (length stored) row) × ((rest : List ℕ) → row ≡ stored ++ rest → s ≡ true)
  begins = starts_is Decides-eqb row stored s es

  kept : ℕ → ℕ
  kept i = get_or stored i 165

  -- what stands behind the bytes that are stored
  abbrev rest : List ℕ
  rest = take (length row - length stored) (drop (length stored) row)

  pub output_other : s ≡ false → false ≡ output_left stored row
  unfolding output_left kept
  output_other z = refuted (output_left stored row) (λ e.
      let v = and_both (leb (length stored) (length row)) (holds_from kept 0 row) e in
      let h = leb-true (length stored) (length row) v.0 in
      let front = front_from_reads 0 row stored h (λ i g. each kept row v.1 i (omega (arith, g, h)) ∙ get_or_default stored i 165 0 g) in
      absurd (false≢true (sym z ∙ begins.1 (drop (length stored) row) front)))

  module _ (t : s ≡ true) (h : length stored ≤ length row) where
    behind : (j : ℕ) → length stored ≤ j → get_or rest (j - length stored) 0 ≡ get_or row j 0
    behind j g =
        let z : length stored + (j - length stored) ≡ j = omega arith in
        ap (λ (l : List ℕ). get_or l (j - length stored) 0) (text_from row (length stored))
        ∙ get_or-drop (length stored) row (j - length stored) 0
        ∙ ap (λ (k : ℕ). get_or row k 0) z

    length_behind : length rest ≡ length row - length stored
    length_behind = ap length (text_from row (length stored)) ∙ length-drop (length stored) row

    held : ((j : ℕ) → length stored ≤ j → j < length row → get_or row j 0 ≡ 165) → true ≡ output_left stored row
    unfolding output_left kept
    held f =
        rw (le-leb (length stored) (length row) h) (sym (whole kept row (λ j g.
        by_test (leb (length stored) j)
        (λ b. f j (leb-true (length stored) j b) g ∙ sym (get_or_past stored j 165 (leb-true (length stored) j b)))
        (λ b. front_reads 0 row stored (drop (length stored) row) (begins.0 t) j (leb-false (length stored) j b) ∙ get_or_default stored j 0 165 (leb-false (length stored) j b)))))

    refused : (j : ℕ) → length stored ≤ j → j < length row → (get_or row j 0 ≡ 165 → ⊥) → false ≡ output_left stored row
    unfolding output_left kept
    refused j g k f = refuted (output_left stored row) (λ e.
        let v = and_both (leb (length stored) (length row)) (holds_from kept 0 row) e in
        f (each kept row v.1 j k ∙ get_or_past stored j 165 g))

    pub output_told : (r : Bool) → Told (λ (b : ℕ). b ≡ 165) rest r → r ≡ output_left stored row
    output_told true q =
        let l = length_behind in
        held (λ j g k. sym (behind j g) ∙ q (j - length stored) 0 (omega arith) (omega (arith, l, g, k)))
    output_told false q =
        let l = length_behind in
        let z : length stored + q.0 - length stored ≡ q.0 = omega arith in
        refused (length stored + q.0) (omega arith) (omega (arith, l, q.1, h)) (λ e.
        q.2 0 (ap (λ (i : ℕ). get_or rest i 0) (sym z) ∙ behind (length stored + q.0) (omega arith) ∙ e))

-- ---- the rows of a case
module _ (before c log sheet : List ℕ) (m : ℕ) (e : m ≡ word_at c 6) where
  pub rows-first : (v : Bool) → v ≡ left before c 48 m log → v ≡ false → false ≡ rows_left before c log sheet
  unfolding rows_left
  rows-first v q f = rw (← e, ← q, f)

  pub rows_both : (v w : Bool) (n k : ℕ) → v ≡ left before c 48 m log → v ≡ true → n ≡ marked m → k ≡ word_at c 7 → w ≡ left before c (48 + n) k sheet → w ≡ rows_left before c log sheet
  unfolding rows_left
  rows_both v w n k q t a b r = rw (← e, ← q, t, ← a, ← b) r

-- ---- work
module _ (n : ℕ) (before c work : List ℕ) where
  pub work_kept : (v : Bool) → 1 ≤ n → n ≤ 2 → v ≡ left before c 0 4294967295 work → v ≡ work_left n before c work
  unfolding work_left
  work_kept v h g q =
      by_test (eqb n 1)
      (λ e. rw e q)
      (λ e.
      let f : n ≡ 1 → ⊥ = eqb-false n 1 e in
      let z : n ≡ 2 = omega arith in
      rw (e, eq-eqb n 2 z) q)

  pub work_free : (n ≡ 1 → ⊥) → (n ≡ 2 → ⊥) → true ≡ work_left n before c work
  unfolding work_left
  work_free f g = rw (ne_eqb n 1 f, ne_eqb n 2 g)

-- ---- a row filled with the front of another
pub fronted : (before w : List ℕ) (n : ℕ) → n ≤ length before → w ≡ take n before → w ≡ take (length w) before
fronted before w n h e =
    let k : length w ≡ n = ap length e ∙ simp length-take (omega arith) in
    rw k e

pub soiled_read : (before c text work work' log log' sheet sheet' : List ℕ) (r : Bool) → length work ≤ length before → work' ≡ take (length work) before → log' ≡ take (length log) before → sheet' ≡ take (length sheet) before → r ≡ agrees before c (read_outcome text (length work') log' sheet') → r ≡ agrees before c (read_outcome text (length work) (take (length log) before) (take (length sheet) before))
soiled_read before c text work work' log log' sheet sheet' r h ew el es q =
    let k : length work' ≡ length work = ap length ew ∙ simp length-take (omega arith) in
    rw (k, el, es) at q

-- ---- an answer

-- what stands before a call is untouched
untouched : (before c work : List ℕ) → work ≡ take (length work) before → left before c 0 4294967295 work ≡ true
unfolding left
untouched before c work e =
    rw (le-leb 0 (length work) (omega arith)) (whole (wanted before c 0 4294967295) work (λ j h.
    ap (λ (r : List ℕ). get_or r j 0) e ∙ get_or-take (length work) before j 0 h ∙ wanted-before before c 0 4294967295 j refl))

module _ (before c : List ℕ) (a : Result Answer Refusal) (row log sheet : List ℕ) (o : ReadOutcome (List ℕ)) (q : row ≡ reply_words (reply_in a)) (e : read_in a log sheet ≡ o) (u : Bool) (eu : u ≡ left before c 9 36 row) where
  answer_of : u ≡ left before c 9 36 (reply_words o.reply)
  answer_of = eu ∙ ap (left before c 9 36) q ∙ ap (λ (x : ReadOutcome (List ℕ)). left before c 9 36 (reply_words x.reply)) e

  pub agrees-answer : u ≡ false → false ≡ agrees before c o
  unfolding agrees
  agrees-answer f = rw (← answer_of, f)

  module _ (t : u ≡ true) (v : Bool) (ev : v ≡ rows_left before c log sheet) where
    rows_of : v ≡ agrees before c o
    unfolding agrees
    rows_of = rw (← answer_of, t) (ev ∙ ap (λ (x : ReadOutcome (List ℕ)). rows_left before c x.log x.sheet) e)

    pub agrees-rows : v ≡ false → false ≡ agrees before c o
    agrees-rows f = sym f ∙ rows_of

    pub agrees-work : v ≡ true → (w : Bool) (n : ℕ) (work work' : List ℕ) → w ≡ work_left n before c work' → n ≡ get_or row 0 0 → (leaves_work a ≡ true → work' ≡ work) → work ≡ take (length work) before → w ≡ agrees before c o
    unfolding work_left reply_words
    agrees-work p w n work work' ew en f d =
        let m : n ≡ reply_number (reply_in a) = en ∙ ap (λ (r : List ℕ). get_or r 0 0) q in
        let k : w ≡ true = ew ∙ by_test (leaves_work_number n)
        (λ y. rw y (rw (f (rw m at y)) (untouched before c work d)))
        (λ y. rw y) in
        k ∙ sym p ∙ rows_of

-- ---- a form
module _ (c : List ℕ) (end : ℕ) (row : List ℕ) (n m : ℕ) (em : m ≡ word_at c 8) (en : n ≡ marked m) where
  stored : n ≡ marked (word_at c 8)
  stored = en ∙ ap marked em

  pub output-before : end < n → false ≡ output_at c end row
  unfolding output_at
  output-before h = rw (← stored, lt-ltb end n h)

  pub output_there : n ≤ end → (r : Bool) → r ≡ output_left (take (end - (end - n)) (drop (end - n) c)) row → r ≡ output_at c end row
  unfolding output_at
  output_there h r q = let k : end - (end - n) ≡ n = omega arith in rw (← stored, le-ltb end n h) (rw k at q)

pub soiled_form : (before c text work work' log log' sheet sheet' out out' : List ℕ) (end : ℕ) (r : Bool) → length work ≤ length before → work' ≡ take (length work) before → log' ≡ take (length log) before → sheet' ≡ take (length sheet) before → out' ≡ replicate (length out) 165 → r ≡ form_agrees before c end (write_outcome text (length work') log' sheet' out') → r ≡ form_agrees before c end (write_outcome text (length work) (take (length log) before) (take (length sheet) before) (replicate (length out) 165))
soiled_form before c text work work' log log' sheet sheet' out out' end r h ew el es eo q =
    let k : length work' ≡ length work = ap length ew ∙ simp length-take (omega arith) in
    rw (k, el, es, eo) at q

-- a row of 36 words holds the answer's alone
at_front_lem : (r : WriteReply) (row : List ℕ) → length row ≡ 36 → at_front (write_words r) row ≡ write_words r
at_front_lem r row e =
    let h : 36 ≤ length row = omega arith in
    let k : length row ≤ 36 = omega arith in
    ap (λ (b : Bool). elim b [ true ↦ write_words r ++ drop 36 row | false ↦ row ]) (le-leb 36 (length row) h) ∙ rw (drop_of_length-le row k)

-- what an exported writing call gives
abbrev Given : Type 0
Given = ℕ × List ℕ × List ℕ × List ℕ × List ℕ

module _ (before c : List ℕ) (end n : ℕ) (row row' log sheet out : List ℕ) (o : WriteOutcome (List ℕ)) (e : (n, row', log, sheet, out) ≡ write_given o row) (l : length row ≡ 36) (u : Bool) (eu : u ≡ left before c 45 3 row') where
  form_row : u ≡ left before c 45 3 (write_words o.reply)
  unfolding write_given
  form_row = eu ∙ ap (λ (g : Given). left before c 45 3 g.1) e ∙ ap (left before c 45 3) (at_front_lem o.reply row l)

  pub form-answer : u ≡ false → false ≡ form_agrees before c end o
  unfolding form_agrees
  form-answer f = rw (← form_row, f)

  module _ (t : u ≡ true) (v : Bool) (ev : v ≡ rows_left before c log sheet) where
    form-rows_of : v ≡ rows_left before c o.log o.sheet
    unfolding write_given
    form-rows_of = ev ∙ ap (λ (g : Given). rows_left before c g.2 g.3) e

    pub form-rows : v ≡ false → false ≡ form_agrees before c end o
    unfolding form_agrees
    form-rows f = rw (← form_row, t, ← form-rows_of, f)

    module _ (p : v ≡ true) (w : Bool) (ew : w ≡ output_at c end out) where
      form-output_of : w ≡ form_agrees before c end o
      unfolding form_agrees write_given
      form-output_of = rw (← form_row, t, ← form-rows_of, p) (ew ∙ ap (λ (g : Given). output_at c end g.4) e)

      pub form-output : w ≡ false → false ≡ form_agrees before c end o
      form-output f = sym f ∙ form-output_of

      pub form-work : w ≡ true → (x : Bool) (work work' : List ℕ) → x ≡ work_left n before c work' → (leaves_work_number n ≡ true → work' ≡ work) → work ≡ take (length work) before → x ≡ form_agrees before c end o
      unfolding work_left
      form-work g x work work' ex f d =
          let k : x ≡ true = ex ∙ by_test (leaves_work_number n)
          (λ y. rw y (rw (f y) (untouched before c work d)))
          (λ y. rw y) in
          k ∙ sym g ∙ form-output_of

-- ---- a case

-- whether the lengths fit
module _ (c : List ℕ) where
  pub fits_work : (w : ℕ) → w ≡ word_at c 2 → 40960 < w → false ≡ lengths_fit c
  unfolding lengths_fit
  fits_work w ew h = rw (← ew, lt-leb w 40960 h)

  module _ (w l : ℕ) (ew : w ≡ word_at c 2) (hw : w ≤ 40960) (el : l ≡ word_at c 3) where
    pub fits_log : 16384 < l → false ≡ lengths_fit c
    unfolding lengths_fit
    fits_log h = rw (← ew, ← el, le-leb w 40960 hw, lt-leb l 16384 h)

    module _ (s : ℕ) (hl : l ≤ 16384) (es : s ≡ word_at c 4) where
      pub fits_sheet : 16384 < s → false ≡ lengths_fit c
      unfolding lengths_fit
      fits_sheet h = rw (← ew, ← el, ← es, le-leb w 40960 hw, le-leb l 16384 hl, lt-leb s 16384 h)

      module _ (hs : s ≤ 16384) (n : ℕ) (en : n ≡ word_at c 1) (r : Bool) (test : r ≡ leb n (length c)) where
        pub fits_text : r ≡ lengths_fit c
        unfolding lengths_fit
        fits_text = rw (← ew, ← el, ← es, ← en, le-leb w 40960 hw, le-leb l 16384 hl, le-leb s 16384 hs) test

        pub fits_within : r ≡ true → Within c
        fits_within e =
            let t = leb-true n (length c) (sym test ∙ e) in
            record { work = omega arith; log = omega arith; sheet = omega arith; text = omega arith }

  pub fits_never : false ≡ true → Within c
  fits_never e = absurd (false≢true e)

-- the calls
module _ (before c : List ℕ) (k : Bool) (ek : k ≡ lengths_fit c) where
  pub read_unfit : k ≡ false → false ≡ reading_agrees before c
  unfolding reading_agrees
  read_unfit e = rw (← ek, e)

  pub write_unfit : k ≡ false → false ≡ writing_agrees before c
  unfolding writing_agrees
  write_unfit e = rw (← ek, e)

  module _ (yes : k ≡ true) where
    pub write_long : (o : ℕ) → o ≡ word_at c 5 → 65536 < o → false ≡ writing_agrees before c
    unfolding writing_agrees
    write_long o eo h = rw (← ek, yes, ← eo, lt-leb o 65536 h)

    module _ (w l s n : ℕ) (ew : w ≡ word_at c 2) (el : l ≡ word_at c 3) (es : s ≡ word_at c 4) (en : n ≡ word_at c 1) (within : Within c) (r : Bool) (work log sheet : List ℕ) (a : w ≤ length work) (b : l ≤ length log) (d : s ≤ length sheet) where
      a' : length (take w work) ≡ w
      a' = simp length-take (omega arith)

      b' : length (take l log) ≡ l
      b' = simp length-take (omega arith)

      d' : length (take s sheet) ≡ s
      d' = simp length-take (omega arith)

      pub case_read : r ≡ agrees before c (read_outcome (take (length c - (length c - n)) (drop (length c - n) c)) (length (take w work)) (take (length (take l log)) before) (take (length (take s sheet)) before)) → r ≡ reading_agrees before c
      unfolding reading_agrees
      case_read q = rw (← ek, yes, ← ew, ← el, ← es, ← en) (rw (text_from c (length c - n), a', b', d') at q)

      pub case_written : (o : ℕ) (out : List ℕ) → o ≡ word_at c 5 → o ≤ 65536 → o ≤ length out → r ≡ form_agrees before c (length c - n) (write_outcome (drop (length c - n) c) (length (take w work)) (take (length (take l log)) before) (take (length (take s sheet)) before) (replicate (length (take o out)) 165)) → r ≡ writing_agrees before c
      unfolding writing_agrees
      case_written o out eo ho f q =
          let f' : length (take o out) ≡ o = simp length-take (omega arith) in
          rw (← ek, yes, ← eo, le-leb o 65536 ho, ← ew, ← el, ← es, ← en) (rw (a', b', d', f') at q)

-- ---- what functions without a proof file are proved by
pub ruleset fits = (rules, fits_work, fits_log, fits_sheet, fits_text, fits_within, fits_never)

pub ruleset soiled = (rules, fronted, soiled_read, soiled_form)
