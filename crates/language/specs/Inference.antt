-- spec.rs, `infer`, as a function of a machine: the source's MachineSpec holds what a Content holds. Reading calls it on what
-- parser.rs, `assemble`, leaves. Request 9 says of it that doing it twice is doing it once.
use Rattle.std.specs.Prelude.{ℕ, Bool, true, false, ◌&&◌, ◌||◌, List, [], ◌∷◌, ◌++◌, ◌≡◌, map, eqb, Option, None, Some, unwrap_or}
use Rattle.chars.specs.Utf8.{decode}
use Rattle.lexer.specs.Text.{same}
use Rattle.language.specs.Machine.{Located}
use Rattle.language.specs.Content.{StateContent, RuleContent, Content, value_or, content_of}
use Rattle.language.specs.Lines.{input_alphabet_item, tape_alphabet_item, start_item, Line, read_lines}
use Rattle.language.specs.Assembly.{items, first, found, resolve, blank_of, states_in, finals_in}
use Rattle.language.specs.Infer.{same_name, member, fresh, nothing, marked, less, machine_of}
use Rattle.language.specs.Outcome.{admitted}

-- ---- states

-- a name of no characters, which is never listed
unfoldable pub is_empty : List ℕ → Bool
is_empty [] = true
is_empty (c ∷ w) = false

-- a list where its flag says that it is declared, none otherwise
unfoldable pub if_declared : {A : Type 0} → Bool → List A → List A
if_declared true l = l
if_declared false l = []

-- a list where a flag says that something is not declared, none otherwise
unfoldable pub if_undeclared : {A : Type 0} → Bool → List A → List A
if_undeclared true l = []
if_undeclared false l = l

-- from and to of each rule
unfoldable pub rule_names : List RuleContent → List (List ℕ)
rule_names [] = []
rule_names (r ∷ rs) = r.from ∷ r.to ∷ rule_names rs

-- some state of the list has this name and is final
unfoldable pub is_final_in : List StateContent → List ℕ → Bool
is_final_in [] w = false
is_final_in (s ∷ ss) w = (s.final && same s.name w) || is_final_in ss w

-- a name as a state, final where some old state of the name is
unfoldable pub state_of : List StateContent → List ℕ → StateContent
unfolding is_final_in
state_of old w = record { name = w; final = is_final_in old w }

-- Q: left alone if declared, else the names that are mentioned and then the old ones, each once
unfoldable pub infer_states_of : Bool → List (List ℕ) → List StateContent → List StateContent
unfolding fresh is_empty state_of
infer_states_of true mentions old = old
infer_states_of false mentions old = map (state_of old) (fresh same is_empty (mentions ++ map (λ s. s.name) old))

-- the name of the first state, empty where there is none
unfoldable pub first_name : List StateContent → List ℕ
first_name [] = []
first_name (s ∷ ss) = s.name

-- q0: left alone if declared, else the first state of Q
unfoldable pub infer_start_of : Bool → List ℕ → List StateContent → List ℕ
unfolding first_name
infer_start_of true start states = start
infer_start_of false start states = first_name states

-- ---- symbols

-- the characters of the rules: all reads of each, then all its writes
unfoldable pub rule_glyphs : List RuleContent → List ℕ
rule_glyphs [] = []
rule_glyphs (r ∷ rs) = map (λ a. a.read) r.actions ++ (map (λ a. a.write) r.actions ++ rule_glyphs rs)

-- a declared Γ: it only gains the blank, as its last, and only if it lacks it
unfoldable pub add_blank : ℕ → List ℕ → List ℕ
unfolding member
add_blank b gamma = elim (member eqb gamma b) [ true ↦ gamma | false ↦ gamma ++ b ∷ [] ]

-- Γ: if not declared, the blank, then what is used, the old ones and the input, each once
unfoldable pub infer_gamma_of : Bool → ℕ → List ℕ → List ℕ → List ℕ → List ℕ
unfolding fresh add_blank
infer_gamma_of true b used old input = add_blank b old
infer_gamma_of false b used old input = b ∷ fresh eqb (eqb b) (used ++ (old ++ input))

-- Σ: left alone if declared, else Γ less the blank
unfoldable pub infer_sigma_of : Bool → ℕ → List ℕ → List ℕ → List ℕ
unfolding less
infer_sigma_of true b sigma gamma = sigma
infer_sigma_of false b sigma gamma = less b gamma

-- ---- the machine

-- the names that a machine mentions: a declared start, then the rules'
unfoldable pub mentions_of : Content → List (List ℕ)
unfolding if_declared rule_names
mentions_of m = if_declared m.declared.start (m.start ∷ []) ++ rule_names m.rules

-- the characters that a machine uses: a declared Σ, then the rules'
unfoldable pub used_of : Content → List ℕ
unfolding if_declared rule_glyphs
used_of m = if_declared m.declared.input_alphabet m.sigma ++ rule_glyphs m.rules

-- `infer`: the sets that are not declared are completed, all else stays
unfoldable pub infer : Content → Content
unfolding infer_states_of infer_start_of infer_gamma_of infer_sigma_of mentions_of used_of if_undeclared
infer m =
    let d = m.declared in
    let states = infer_states_of d.states (mentions_of m) m.states in
    let gamma = infer_gamma_of d.tape_alphabet m.blank (used_of m) m.gamma (if_undeclared d.input_alphabet m.input) in
    record {
      name = m.name;
      input = m.input;
      kind = m.kind;
      output = m.output;
      tapes = m.tapes;
      blank = m.blank;
      declared = d;
      start = infer_start_of d.start m.start states;
      states = states;
      sigma = infer_sigma_of d.input_alphabet m.blank m.sigma gamma;
      gamma = gamma;
      header = m.header;
      trailing = m.trailing;
      rules = m.rules;
    }

-- ---- what `infer` is called on

-- the states before inference: Q's, of each name the first final if F lists it; if there is no Q, those of F
unfoldable pub assembled_states : {P : Type 0} →
    Option (List (Located P (List ℕ))) → List (Located P (List ℕ)) → List StateContent
unfolding marked member
assembled_states (Some q) finals =
    map (λ s. record { name = s.name.value; final = s.final }) (marked (member same_name finals) nothing q)
assembled_states None finals = map (λ f. record { name = f.value; final = true }) finals

-- parser.rs, `assemble`: a machine before it is inferred, its undeclared start, Σ and Γ empty; other parts are the machine's
unfoldable pub assembled : {P : Type 0} → List (Line P) → Content
unfolding items first found blank_of resolve states_in finals_in fresh assembled_states value_or content_of machine_of
assembled ls =
    let is = items ls in
    let b = blank_of is in
    let m = content_of (machine_of ls) in
    let start = found (first (λ i. elim i [ start_item q ↦ Some q | _ ↦ None ]) is) in
    let sigma = found (first (λ i. elim i [ input_alphabet_item s ↦ Some s | _ ↦ None ]) is) in
    let gamma = found (first (λ i. elim i [ tape_alphabet_item s ↦ Some s | _ ↦ None ]) is) in
    record {
      name = m.name;
      input = m.input;
      kind = m.kind;
      output = m.output;
      tapes = m.tapes;
      blank = b;
      declared = m.declared;
      start = value_or start;
      states = assembled_states (states_in is) (fresh same_name nothing (finals_in is));
      sigma = map (λ s. resolve b s.value) (unwrap_or sigma []);
      gamma = map (λ s. resolve b s.value) (unwrap_or gamma []);
      header = m.header;
      trailing = m.trailing;
      rules = m.rules;
    }

-- ---- the claims

-- inferring twice is inferring once, of every machine as a value
abbrev pub InferTwice : Type 0
InferTwice = (m : Content) → infer (infer m) ≡ infer m

-- the machine that an admitted text stands for is inferred from what assembly leaves
abbrev pub ReadInfers : Type 0
ReadInfers = (t : List ℕ) → admitted t ≡ true →
    content_of (machine_of (read_lines (decode t))) ≡ infer (assembled (read_lines (decode t)))

-- inferring again on the machine of an admitted text changes nothing
abbrev pub ReadInferred : Type 0
ReadInferred = (t : List ℕ) → admitted t ≡ true →
    infer (content_of (machine_of (read_lines (decode t)))) ≡ content_of (machine_of (read_lines (decode t)))
