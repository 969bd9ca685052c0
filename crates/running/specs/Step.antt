-- Paper 02, request 2: what a step asks and does. The first rule in list order whose state and symbols match is applied.
use Rattle.std.specs.Prelude.{ℕ, suc, ◌+◌, ◌-◌, ◌*◌, Bool, true, false, ◌&&◌, List, [], ◌∷◌, map, eqb, ltb, get_or, set}
use Rattle.std.specs.Prelude.{Option, None, Some, option_map, option_and_then, find}
use Rattle.lexer.specs.Text.{same}
use Rattle.language.specs.Machine.{Dir, left, right, stay}
use Rattle.language.specs.Content.{StateContent, RuleContent}
use Rattle.running.specs.Tape.{cell_at, Configuration}

-- whether the state of a name is final; of equal names the first decides
unfoldable pub is_final : List StateContent → List ℕ → Bool
is_final states q = elim (find (λ s. same q s.name) states) [ Some s ↦ s.final | None ↦ false ]

-- the symbols under the heads, from tape k on
unfoldable pub scanned : ℕ → ℕ → List ℕ → List ℕ → List ℕ
scanned h k [] cells = []
scanned h k (a ∷ heads) cells = get_or cells (cell_at h k a) 0 ∷ scanned h (suc k) heads cells

-- whether a rule is for a state and symbols, by name and by code
unfoldable pub matches : List ℕ → List ℕ → RuleContent → Bool
matches q symbols r = same q r.from && same symbols (map (λ a. a.read) r.actions)

-- a head's offset after a move, none where it would leave its tape
unfoldable pub move : ℕ → Dir → ℕ → Option ℕ
move h left a = elim (eqb a 0) [ true ↦ None | false ↦ Some (a - 1) ]
move h right a = elim (ltb (a + 1) (2 * h)) [ true ↦ Some (a + 1) | false ↦ None ]
move h stay a = Some a

-- all heads after their moves, none where one would leave its tape
unfoldable pub moved : ℕ → List Dir → List ℕ → Option (List ℕ)
unfolding move
moved h [] heads = Some []
moved h (d ∷ ds) [] = Some []
moved h (d ∷ ds) (a ∷ heads) = option_and_then (λ b. option_map (λ bs. b ∷ bs) (moved h ds heads)) (move h d a)

-- the cells with a symbol written under each head, from tape k on
unfoldable pub written_under : ℕ → ℕ → List ℕ → List ℕ → List ℕ → List ℕ
written_under h k [] heads cells = cells
written_under h k (s ∷ symbols) [] cells = cells
written_under h k (s ∷ symbols) (a ∷ heads) cells = written_under h (suc k) symbols heads (set cells (cell_at h k a) s)

-- the heads that a rule moves to, none where one would leave its tape
unfoldable pub moved_by : ℕ → RuleContent → Configuration → Option (List ℕ)
unfolding moved
moved_by h r c = moved h (map (λ a. a.dir) r.actions) c.heads

-- a rule applied: its state, the heads that it moves to, and its symbols written where the heads were
unfoldable pub applied : ℕ → RuleContent → List ℕ → Configuration → Configuration
unfolding written_under
applied h r heads c = record {
  state = r.to;
  heads = heads;
  cells = written_under h 0 (map (λ a. a.write) r.actions) c.heads c.cells;
}
