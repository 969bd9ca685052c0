-- A machine that is not refused starts: the configuration, and that its heads stand.
use mathlib.Core.Path.{◌≡◌, ap, ap₂, sym, subst, ◌∙◌}
use Prim.Native.Nat.{ℕ, ◌+◌, ◌*◌, ◌≤◌}
use native.Mathlib.Omega.{arith}
use mathlib.Core.Bool.{true}
use mathlib.Core.List.{List, ◌++◌}
use lib.ListN.{length, drop, replicate, length-replicate}
use lib.Seq.{sets, drop_at}
use Rattle.machine.specs.declared.Head.{Head}
use Rattle.language.specs.Content.{Content}
use Rattle.language.specs.Layout.{head_of}
use Rattle.language.specs.Agreement.{string_at}
use Rattle.language.specs.Outcome.{admitted}
use Rattle.form_theorems.specs.Read.{machine_in}
use Rattle.running.specs.Tape.{half, tape_cells, cell_at, blank_tapes, Configuration, initial}
use Rattle.running.specs.Run.{run_from, run_on}
use Rattle.running.specs.Fit.{Fit}
use Rattle.running.specs.Batch.{content_of_text}
use Rattle.runner_tapes.specs.Shown.{heads_of}
use Rattle.runner_tapes.proofs.Kept.{start_stands}
use Rattle.runner_names_theorems.specs.Names.{NamePlace}
use Rattle.runner_loop.specs.declared.Standing.{Standing}
use Rattle.runner_loop.specs.declared.Ended.{Ended}
use Rattle.runner_loop.specs.Runs.{configuration_of, ended_of}
use Rattle.runner_loop.specs.Steps.{AtWork}
use Rattle.runner_loop.proofs.Content.{Says, head_says, head_named}

-- ---- the start

module _ (t : List ℕ) (ok : admitted t ≡ true) (head : Head) (e : head ≡ head_of (machine_in t)) (cells : List ℕ)
    (fits : Fit (content_of_text t) (length cells)) where
  abbrev says : Says t head (content_of_text t)
  says = head_says t ok head e

  -- no more tapes than three
  pub few_tapes : head.tapes ≤ 3
  few_tapes = subst (λ n. n ≤ 3) says.tapes fits.few_tapes

  module _ (h : ℕ) (k : h ≡ half (length cells) head.tapes) (s : Standing) (from : s.state ≡ head.start)
      (at : heads_of head.tapes s.heads ≡ replicate head.tapes h) where
    pub start_is : (blanks last : List ℕ) → blanks ≡ blank_tapes (half (length cells) head.tapes) head.tapes head.blank cells
        → last ≡ sets blanks h (string_at t head.input)
        → configuration_of t head.tapes s last ≡ initial (content_of_text t) cells
    unfolding initial
    start_is blanks last b l =
        let z : 2 * h * 0 + h ≡ h = omega arith in
        rw (says.tapes, says.blank, says.input, says.start, from, at, l, b, ← k, z)

    pub start_works : AtWork t head.tapes (length cells) s
    start_works = record {
      is_admitted = ok;
      heads = rw (← k) (start_stands head.tapes h s.heads
          (subst (λ n. 1 ≤ n) says.tapes fits.some_tape)
          few_tapes
          (subst (λ n. 1 ≤ n) (sym k) (subst (λ n. 1 ≤ half (length cells) n) says.tapes fits.room))
          at);
      state = λ n. subst (NamePlace (machine_in t)) (sym from) (head_named t ok head e (λ z. n (from ∙ z)));
    }

-- blank tapes made blank are the same
blank_twice : (h tapes blank : ℕ) (cells : List ℕ)
    → blank_tapes h tapes blank (blank_tapes h tapes blank cells) ≡ blank_tapes h tapes blank cells
unfolding blank_tapes
blank_twice h tapes blank cells =
    let n : ℕ = tape_cells h tapes in
    ap (λ l. replicate n blank ++ l) (drop_at (replicate n blank) (drop n cells) n (length-replicate n blank))

-- and a machine starts on them as on the cells before
module _ (h tapes blank : ℕ) (cells blanks : List ℕ) (k : h ≡ half (length cells) tapes)
    (b : blanks ≡ blank_tapes h tapes blank cells) (same : length blanks ≡ length cells) where
  pub are_blank : blanks ≡ blank_tapes (half (length blanks) tapes) tapes blank blanks
  are_blank =
      let q : h ≡ half (length blanks) tapes = k ∙ ap (λ n. half n tapes) (sym same) in
      b ∙ sym (blank_twice h tapes blank cells) ∙ ap₂ (λ x l. blank_tapes x tapes blank l) q (sym b)

  pub starts_there : (m : Content) → m.tapes ≡ tapes → m.blank ≡ blank → initial m blanks ≡ initial m cells
  unfolding initial
  starts_there m t u =
      let q : half (length blanks) m.tapes ≡ half (length cells) m.tapes = ap (λ n. half n m.tapes) same in
      let r : half (length cells) m.tapes ≡ h = ap (half (length cells)) t ∙ sym k in
      let l : blank_tapes h m.tapes m.blank blanks ≡ blank_tapes h m.tapes m.blank cells =
      ap₂ (λ x y. blank_tapes h x y blanks) t u ∙ ap (blank_tapes h tapes blank) b ∙ blank_twice h tapes blank cells
      ∙ ap₂ (λ x y. blank_tapes h x y cells) (sym t) (sym u) in
      let from : ℕ → List ℕ → Configuration =
      λ x y. record { state = m.start; heads = replicate m.tapes x; cells = sets y (cell_at x 0 x) m.input } in
      ap (λ x. from x (blank_tapes x m.tapes m.blank blanks)) (q ∙ r) ∙ ap (from h) l
      ∙ ap (λ x. from x (blank_tapes x m.tapes m.blank cells)) (sym r)

  -- and runs as there
  pub runs_there : (m : Content) → m.tapes ≡ tapes → m.blank ≡ blank → (n : ℕ) → run_on m n blanks ≡ run_on m n cells
  unfolding run_on
  runs_there m t u n = ap₂ (λ x c. run_from m (half x m.tapes) n c) same (starts_there m t u)

-- a run from the start, by rules of the same text, is the run of an entry
pub entry_is : (t : List ℕ) (ok : admitted t ≡ true) (head : Head) → head ≡ head_of (machine_in t) → (t' : List ℕ) → t' ≡ t
    → (tapes : ℕ) → tapes ≡ head.tapes → (from : Standing) (cells mid : List ℕ) → length mid ≡ length cells
    → configuration_of t head.tapes from mid ≡ initial (content_of_text t) cells
    → (left : ℕ) (r : Ended) (last : List ℕ)
    → ended_of t' tapes r last ≡ run_from (content_of_text t') (half (length mid) tapes) left (configuration_of t' tapes from mid)
    → ended_of t head.tapes r last ≡ run_on (content_of_text t) left cells
unfolding run_on
entry_is t ok head e t' p tapes q from cells mid n start left r last i =
    let m = content_of_text t in
    let j : ended_of t head.tapes r last ≡ run_from m (half (length mid) head.tapes) left (configuration_of t head.tapes from mid) =
    rw (p, q) at i in
    j ∙ ap₂ (λ k c. run_from m (half k head.tapes) left c) n start
    ∙ ap (λ k. run_from m (half (length cells) k) left (initial m cells)) (sym (head_says t ok head e).tapes)
