-- The whole form: its sections stand one after the other, each from its words of the sheet.
use mathlib.Core.Path.{◌≡◌, refl, sym, ap, ap₂, subst, ◌∙◌}
use Prim.Native.Nat.{ℕ, ◌<◌}
use mathlib.Core.Bool.{Bool, true, false}
use mathlib.Core.List.{List, [], map, map-map}
use Rattle.chars.specs.Utf8.{scalar, encode}
use Rattle.machine.specs.declared.Counts.{Counts}
use Rattle.machine.specs.declared.Head.{Head}
use Rattle.language.specs.Plain.{Piece, ◌⨾◌, say, end, only, each, name_set, comment_line, rule_lines, pieces, plain}
use Rattle.language.specs.Agreement.{Answer, groups, records, state_in, text_in, rule_in, content_of_answer}
use Rattle.emit.specs.Output.{appended}
use Rattle.emit.specs.declared.Output.{Output}
use Rattle.emit.specs.Appends.{held}
use Rattle.emit.proofs.Appends.{appended-nil}
use Rattle.form_strings.specs.Writes.{Writes}
use Rattle.sheet_view.specs.Sections.{sigma_from, gamma_from, header_from, trailing_from, rules_from}
use Rattle.sheet_view.specs.declared.sections.Sections.{Sections}
use Rattle.form.specs.declared.Machine.{Machine}
use Rattle.form.specs.Machines.{answer_of}
use Rattle.form.specs.Sections.{head_lines, states_line, symbols_line, blank_line, start_line, finals_line, declared_lines}
use Rattle.emit.proofs.Chain.{alike, ◌▹◌}

-- the sections of the machine's sheet are those that its form is made of
module _ (m : Machine) (s : Sections) (e : (s.counts ≡ m.head.counts) × (s.states.now ≡ m.sheet.now)) where
  abbrev counts : Counts
  counts = (answer_of m).head.counts

  abbrev sheet : List ℕ
  sheet = m.sheet.now

  -- a section as it is cut from the one and from the other
  cut : (from : Counts → List ℕ → List ℕ) → from s.counts s.states.now ≡ from counts sheet
  cut from = ap₂ from e.0 e.1

  pub sigma_same : sigma_from s.counts s.states.now ≡ sigma_from counts sheet
  sigma_same = cut sigma_from

  pub gamma_same : gamma_from s.counts s.states.now ≡ gamma_from counts sheet
  gamma_same = cut gamma_from

  pub header_same : header_from s.counts s.states.now ≡ header_from counts sheet
  header_same = cut header_from

  pub trailing_same : trailing_from s.counts s.states.now ≡ trailing_from counts sheet
  trailing_same = cut trailing_from

  pub rules_same : rules_from s.counts s.states.now ≡ rules_from counts sheet
  rules_same = cut rules_from

-- the letters Σ and Γ
pub sigma-scalar : scalar 0x3A3 ≡ true
unfolding scalar
sigma-scalar = refl

pub gamma-scalar : scalar 0x393 ≡ true
unfolding scalar
gamma-scalar = refl

pub declared-written : (text : List ℕ) (h : Head) (states sigma gamma : List ℕ) (o a b c d x r : Output)
    → Writes (states_line text h.declared.states h.counts.states states) o a
    → Writes (symbols_line 0x3A3 h.declared.input_alphabet h.counts.sigma sigma) a b
    → Writes (symbols_line 0x393 h.declared.tape_alphabet h.counts.gamma gamma) b c
    → Writes (blank_line h.declared.blank h.blank) c d
    → Writes (start_line text h.declared.start h.start) d x
    → Writes (finals_line text h.counts.states states) x r
    → Writes (declared_lines text h states sigma gamma) o r
unfolding declared_lines
declared-written text h states sigma gamma o a b c d x r w₁ w₂ w₃ w₄ w₅ w₆ = w₁ ▹ w₂ ▹ w₃ ▹ w₄ ▹ w₅ ▹ w₆

-- the names of the states
states-same : (b : Bool) (text : List ℕ) (gs : List (List ℕ)) (rest : List ℕ)
    → only b (say "Q = " ⨾ name_set (map (λ s. s.name) (map (state_in text) gs)) ⨾ end) rest ≡ only b (say "Q = " ⨾ name_set (map (text_in text) gs) ⨾ end) rest
unfolding state_in text_in
states-same true text gs rest = ap (λ l. say "Q = " (name_set l (end rest))) (map-map (λ s. s.name) (state_in text) gs)
states-same false text gs rest = refl

-- the sections make the form
module _ (a : Answer) where
  abbrev n : Counts
  n = a.head.counts

  abbrev sections : Piece
  sections =
      each comment_line (map (text_in a.text) (groups 2 n.header (header_from n a.sheet)))
      ⨾ head_lines a.text a.head
      ⨾ declared_lines a.text a.head a.sheet (sigma_from n a.sheet) (gamma_from n a.sheet)
      ⨾ each rule_lines (map (rule_in a.text) (records n.rules (rules_from n a.sheet)))
      ⨾ each comment_line (map (text_in a.text) (groups 2 n.trailing (trailing_from n a.sheet)))

  pieces-same : (rest : List ℕ) → pieces (content_of_answer a) rest ≡ sections rest
  unfolding pieces content_of_answer head_lines declared_lines
  pieces-same rest =
      ap (λ r. each comment_line (map (text_in a.text) (groups 2 n.header (header_from n a.sheet))) (head_lines a.text a.head r))
      (states-same a.head.declared.states a.text (groups 3 n.states a.sheet) _)

  pub form-written : (header trailing rows : List ℕ) (o b c d x r : Output) → header ≡ header_from n a.sheet → trailing ≡ trailing_from n a.sheet
      → rows ≡ rules_from n a.sheet
      → Writes (each comment_line (map (text_in a.text) (groups 2 n.header header))) o b
      → Writes (head_lines a.text a.head) b c
      → Writes (declared_lines a.text a.head a.sheet (sigma_from n a.sheet) (gamma_from n a.sheet)) c d
      → Writes (each rule_lines (map (rule_in a.text) (records n.rules rows))) d x
      → Writes (each comment_line (map (text_in a.text) (groups 2 n.trailing trailing))) x r
      → Writes (pieces (content_of_answer a)) o r
  form-written header trailing rows o b c d x r e₁ e₂ e₃ w₁ w₂ w₃ w₄ w₅ =
      let v₁ = subst (λ l. Writes (each comment_line (map (text_in a.text) (groups 2 n.header l))) o b) e₁ w₁ in
      let v₄ = subst (λ l. Writes (each rule_lines (map (rule_in a.text) (records n.rules l))) d x) e₃ w₄ in
      let v₅ = subst (λ l. Writes (each comment_line (map (text_in a.text) (groups 2 n.trailing l))) x r) e₂ w₅ in
      alike pieces-same (v₁ ▹ w₂ ▹ w₃ ▹ v₄ ▹ v₅)

-- what is lent is the form at the end, and what was counted its length
pub form-held : (a : Answer) (o r : Output) → r.at < 18446744073709551616 → Writes (pieces (content_of_answer a)) o r → held r ≡ appended (held o) (encode (plain (content_of_answer a)))
unfolding plain encode
form-held a o r h w = sym (appended-nil (held r) h) ∙ w.put []
