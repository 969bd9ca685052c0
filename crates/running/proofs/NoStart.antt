-- A machine without a start is stuck at once: its start is the empty name, and no state and no rule has that name.
use Prim.Native.Nat.{ℕ}
use mathlib.Core.Bool.{Bool, true, false}
use mathlib.Core.List.{List, [], ◌∷◌}
use Rattle.std.specs.Prelude.{None, find}
use mathlib.Core.Path.{◌≡◌, refl, ap, sym, subst, ◌∙◌}
use lib.ListN.{length}
use Rattle.chars.specs.Utf8.{decode}
use Rattle.lexer.specs.Text.{same}
use Rattle.language.specs.Content.{StateContent, RuleContent, Content}
use Rattle.language.specs.Lines.{read_lines}
use Rattle.language.specs.Outcome.{admitted}
use Rattle.language.proofs.Every.{Every, every_impl}
use Rattle.language.proofs.Facts.{facts_of, content_facts}
use Rattle.language.proofs.PlainLex.{IsWord}
use Rattle.language.proofs.ParseSound.{GoodName}
use Rattle.language.proofs.AssemblySound.{GoodRule}
use Rattle.language.proofs.ContentSound.{GoodContent, content_good}
use Rattle.language.proofs.RoundTrip.{admitted_fine, read_good}
use Rattle.running.specs.Tape.{half, initial}
use Rattle.running.specs.Step.{is_final, scanned, matches}
use Rattle.running.specs.Run.{stuck, stops, due_in, due, stopped, run_on}
use Rattle.running.specs.Batch.{content_of_text}
use Rattle.running.proofs.Runs.{run_rests}

-- what an admitted text stands for is well formed
pub text_good : (t : List ℕ) → admitted t ≡ true → GoodContent (content_of_text t)
unfolding content_of_text
text_good t h =
    let ls = read_lines (decode t) in
    subst GoodContent (sym (content_facts ls)) (content_good (facts_of ls) (read_good (decode t) (admitted_fine t h)))

find_none : {A : Type 0} (p : A → Bool) (l : List A) → Every (λ a. p a ≡ false) l → find p l ≡ None
find_none p [] h = refl
find_none p (a ∷ l) h = rw h.0 (find_none p l h.1)

-- a word is not the empty name
no_name : (w : List ℕ) → IsWord w → same [] w ≡ false
no_name [] h = absurd h
no_name (c ∷ w) h = refl

no_rule : (symbols : List ℕ) (r : RuleContent) → GoodRule r → matches [] symbols r ≡ false
unfolding matches
no_rule symbols r g = rw (no_name r.from g.rule_from.name-word)

no_state : (states : List StateContent) → Every (λ s. GoodName s.name) states → is_final states [] ≡ false
unfolding is_final
no_state states g =
    let nobody = find_none (λ s. same [] s.name) states (every_impl _ _ (λ s h. no_name s.name h.name-word) states g) in
    rw (nobody, is_final)

-- and nothing is due without a state's name but to stop as stuck
pub due_nowhere : (m : Content) (symbols : List ℕ) → GoodContent m → due_in m [] symbols ≡ stops stuck
unfolding due_in
due_nowhere m symbols g =
    let nobody = find_none (matches [] symbols) m.rules (every_impl _ _ (no_rule symbols) m.rules g.c_rules) in
    rw (no_state m.states g.c_states, due_in, nobody)

-- where an admitted text has no start its run stops as stuck, with no step, on the cells of a start
pub no_start : (t : List ℕ) → admitted t ≡ true → (content_of_text t).start ≡ [] → (n : ℕ) (cells : List ℕ)
    → run_on (content_of_text t) n cells ≡ stopped stuck (initial (content_of_text t) cells)
unfolding run_on initial due
no_start t h e n cells =
    let m = content_of_text t in
    let c = initial m cells in
    let k = half (length cells) m.tapes in
    let symbols = scanned k 0 c.heads c.cells in
    run_rests m k n c stuck (ap (λ q. due_in m q symbols) e ∙ due_nowhere m symbols (text_good t h))
