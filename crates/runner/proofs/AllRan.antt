-- The runs one after the other: what ran so far stands at the front of the answers, and the others go on from the cells that it
-- left and from what it left of the allowance.
use Prim.Native.Nat.{ℕ, zero, suc, ◌+◌, ◌-◌, ◌*◌, ◌≤◌, ◌<◌}
use native.Mathlib.Omega.{arith}
use mathlib.Core.List.{List, [], ◌∷◌, ◌++◌, map, append-nil, append_assoc}
use mathlib.Core.Path.{◌≡◌, refl, sym, ap, ap₂, subst, ◌∙◌}
use lib.ListN.{length, get_or, take, drop, set, take-append-drop, drop_of_length-le}
use lib.Seq.{length-take-le, drop-drop}
use Rattle.std.proofs.lemmas.List.{drop_more}
use Rattle.running.specs.Run.{Ended, run_on}
use Rattle.running.specs.Batch.{runnable_of, entry_texts, content_of_text, entry_words, stop_number, preceded, Runs, runs, runs_of, answers_in}
use Rattle.running.proofs.Batches.{run_on_used}

-- ---- two words of an answer

-- the answers with an entry's two words behind k
abbrev pub with_answer : ℕ → ℕ → ℕ → List ℕ → List ℕ
with_answer k a b l = set (set l k a) (suc k) b

taken : (k a b : ℕ) (l : List ℕ) → suc (suc k) ≤ length l → take (suc (suc k)) (with_answer k a b l) ≡ take k l ++ (a ∷ b ∷ [])
taken zero a b [] h = absurd (omega arith)
taken zero a b (x ∷ []) h = absurd (omega arith)
taken zero a b (x ∷ y ∷ l) h = refl
taken (suc k) a b [] h = absurd (omega arith)
taken (suc k) a b (x ∷ l) h = ap (λ r. x ∷ r) (taken k a b l (omega arith))

behind_answer : (k a b : ℕ) (l : List ℕ) → drop (suc (suc k)) (with_answer k a b l) ≡ drop (suc (suc k)) l
behind_answer zero a b [] = refl
behind_answer zero a b (x ∷ []) = refl
behind_answer zero a b (x ∷ y ∷ l) = refl
behind_answer (suc k) a b [] = refl
behind_answer (suc k) a b (x ∷ l) = behind_answer k a b l

-- two rows that are alike behind k are so behind more
alike_behind : (k : ℕ) (l m : List ℕ) → drop k l ≡ drop k m → drop (suc (suc k)) l ≡ drop (suc (suc k)) m
alike_behind k l m e =
    let two : k + 2 ≡ suc (suc k) = omega arith in
    ap (λ n. drop n l) (sym two) ∙ sym (drop-drop 2 k l) ∙ ap (drop 2) e ∙ drop-drop 2 k m ∙ ap (λ n. drop n m) two

-- ---- what ran so far

-- k words of answers, what is left to run with what is left of the allowance, the cells and the answers as they are
pub record Ran (allowance : ℕ) (ts : List (List ℕ)) (cells answers : List ℕ)
    (k : ℕ) (rest : List (List ℕ)) (left : ℕ) (cells' answers' : List ℕ) : Type 0 where
  pub within : left ≤ allowance
  pub behind : drop k answers' ≡ drop k answers
  pub so_far : runs_of allowance ts cells
      ≡ preceded (take k answers') (runs allowance (map runnable_of rest) ((allowance - left) ∷ []) cells')

module _ (allowance : ℕ) (ts : List (List ℕ)) (cells answers : List ℕ) where
  -- nothing
  pub ran_none : Ran allowance ts cells answers 0 ts allowance cells answers
  unfolding runs_of
  ran_none = record {
    within = omega arith;
    behind = refl;
    so_far = (let e : 0 ≡ allowance - allowance = omega arith in ap (λ c. runs allowance (map runnable_of ts) (c ∷ []) cells) e);
  }

  -- one more
  module _ (k : ℕ) (t : List ℕ) (rest : List (List ℕ)) (left : ℕ) (cells' answers' : List ℕ)
      (before : Ran allowance ts cells answers k (t ∷ rest) left cells' answers') (room : suc (suc k) ≤ length answers')
      (stop steps : ℕ) (cells'' : List ℕ) where
    abbrev e : Ended
    e = run_on (content_of_text t) left cells'

    module _ (stopped : stop ≡ stop_number e.stop) (counted : steps ≡ e.steps) (left_cells : cells'' ≡ e.last.cells) where
      -- a run takes no more than is left
      pub steps_within : steps ≤ left
      steps_within = omega (arith, run_on_used (content_of_text t) left cells', counted)

      next : runs allowance (map runnable_of (t ∷ rest)) ((allowance - left) ∷ []) cells'
          ≡ preceded (stop ∷ steps ∷ []) (runs allowance (map runnable_of rest) ((allowance - (left - steps)) ∷ []) cells'')
      unfolding runs runnable_of
      next =
          let l : allowance - (allowance - left) ≡ left = omega (arith, before.within) in
          let c : (allowance - left) + e.steps ≡ allowance - (left - steps) = omega (arith, before.within, steps_within, counted) in
          let one : List ℕ → ℕ → List ℕ → Runs = λ w n cs. preceded w (runs allowance (map runnable_of rest) (n ∷ []) cs) in
          ap (λ n. let r = run_on (content_of_text t) n cells' in one (entry_words r) ((allowance - left) + r.steps) r.last.cells) l
          ∙ ap (λ n. one (entry_words e) n e.last.cells) c
          ∙ ap (λ w. one w (allowance - (left - steps)) e.last.cells) (ap₂ (λ a b. a ∷ b ∷ []) (sym stopped) (sym counted))
          ∙ ap (λ cs. one (stop ∷ steps ∷ []) (allowance - (left - steps)) cs) (sym left_cells)

      pub ran_more : Ran allowance ts cells answers (suc (suc k)) rest (left - steps) cells'' (with_answer k stop steps answers')
      ran_more = record {
        within = omega (arith, before.within);
        behind = behind_answer k stop steps answers' ∙ alike_behind k answers' answers before.behind;
        so_far =
            (let r = runs allowance (map runnable_of rest) ((allowance - (left - steps)) ∷ []) cells'' in
            before.so_far ∙ ap (preceded (take k answers')) next
            ∙ ap (λ w. record { answers = w; counters = r.counters; cells = r.cells })
            (sym (append_assoc (take k answers') (stop ∷ steps ∷ []) r.answers) ∙ ap (λ w. w ++ r.answers) (sym (taken k stop steps answers' room))));
      }

  -- all
  module _ (k left : ℕ) (cells' answers' : List ℕ) (done : Ran allowance ts cells answers k [] left cells' answers')
      (room : k ≤ length answers') where
    ended : runs_of allowance ts cells ≡ record { answers = take k answers'; counters = (allowance - left) ∷ []; cells = cells' }
    unfolding runs
    ended = done.so_far ∙ ap (λ w. record { answers = w; counters = (allowance - left) ∷ []; cells = cells' }) (append-nil (take k answers'))

    pub ran_cells : cells' ≡ (runs_of allowance ts cells).cells
    ran_cells = sym (ap (λ r. r.cells) ended)

    pub ran_answers : answers' ≡ answers_in (runs_of allowance ts cells).answers answers
    ran_answers =
        let n : length (take k answers') ≡ k = length-take-le k answers' room in
        sym (take-append-drop k answers') ∙ ap (λ d. take k answers' ++ d) (done.behind ∙ ap (λ m. drop m answers) (sym n))
        ∙ sym (ap (λ r. answers_in r.answers answers) ended)

-- ---- over the lengths

-- the next text ran, and its answer was stored
module _ (allowance : ℕ) (ns texts cells answers : List ℕ) (i : ℕ) (rest : List ℕ) (left : ℕ) (cells' answers' : List ℕ)
    (before : Ran allowance (entry_texts ns texts) cells answers (2 * i) (entry_texts (drop i ns) rest) left cells' answers')
    (more : i < length ns) (text behind : List ℕ) (front : text ≡ take (get_or ns i 0) rest)
    (back : behind ≡ drop (get_or ns i 0) rest) (e : Ended) (ran : e ≡ run_on (content_of_text text) left cells') where
  abbrev ts : List (List ℕ)
  ts = entry_texts (drop (i + 1) ns) behind

  parted : entry_texts (drop i ns) rest ≡ text ∷ ts
  unfolding entry_texts
  parted = ap (λ l. entry_texts l rest) (drop_more ns i 0 more)
      ∙ ap₂ (λ t b. t ∷ entry_texts (drop (i + 1) ns) b) (sym front) (sym back)

  at_text : Ran allowance (entry_texts ns texts) cells answers (2 * i) (text ∷ ts) left cells' answers'
  at_text = subst (λ l. Ran allowance (entry_texts ns texts) cells answers (2 * i) l left cells' answers') parted before

  -- it took no more than was left
  pub run_within : e.steps ≤ left
  run_within = omega (arith, ap (λ x. x.steps) ran, run_on_used (content_of_text text) left cells')

  -- its answer is stored, by the number of its stop
  pub run_next : (stop : ℕ) → stop ≡ stop_number e.stop → 2 * length ns ≤ length answers'
      → Ran allowance (entry_texts ns texts) cells answers (2 * (i + 1)) ts (left - e.steps) e.last.cells
      (set (set answers' (2 * i) stop) (2 * i + 1) e.steps)
  run_next stop told room =
      let two : suc (suc (2 * i)) ≡ 2 * (i + 1) = omega arith in
      let one : suc (2 * i) ≡ 2 * i + 1 = omega arith in
      let made : ℕ → ℕ → Type 0 = λ k m. Ran allowance (entry_texts ns texts) cells answers k ts (left - e.steps) e.last.cells
      (set (set answers' (2 * i) stop) m e.steps) in
      subst (λ k. made k (2 * i + 1)) two (subst (made (suc (suc (2 * i)))) one
      (ran_more allowance (entry_texts ns texts) cells answers (2 * i) text ts left cells' answers' at_text (omega arith)
      stop e.steps e.last.cells (told ∙ ap (λ x. stop_number x.stop) ran) (ap (λ x. x.steps) ran) (ap (λ x. x.last.cells) ran)))

-- none is left
module _ (allowance : ℕ) (ns texts cells answers : List ℕ) (i : ℕ) (rest : List ℕ) (left : ℕ) (cells' answers' : List ℕ)
    (before : Ran allowance (entry_texts ns texts) cells answers (2 * i) (entry_texts (drop i ns) rest) left cells' answers')
    (all : length ns ≤ i) where
  none : entry_texts (drop i ns) rest ≡ []
  unfolding entry_texts
  none = ap (λ l. entry_texts l rest) (drop_of_length-le ns all)

  pub run_last : Ran allowance (entry_texts ns texts) cells answers (2 * i) [] left cells' answers'
  run_last = subst (λ l. Ran allowance (entry_texts ns texts) cells answers (2 * i) l left cells' answers') none before
