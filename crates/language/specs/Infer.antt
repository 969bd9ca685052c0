-- spec.rs, `infer`: what is not declared is inferred, and the machine is whole.
use Rattle.std.specs.Prelude.{ℕ, Bool, true, false, ◌&&◌, ◌||◌, not, List, [], ◌∷◌, ◌++◌, map, flat_map, eqb, leb, Option, None, Some, unwrap_or, option_to_list, option_map, is_some}
use Rattle.lexer.specs.Text.{same}
use Rattle.machine.specs.declared.Kind.TheVariants.{Transducer}
use Rattle.machine.specs.declared.Decoder.{Decoder}
use Rattle.machine.specs.declared.Decoder.TheVariants.{Word, Unary, Binary}
use Rattle.language.specs.Machine.{Located, State, Rule, Symbol, Machine}
use Rattle.language.specs.Lines.{RawSymbol, RawDecoder, raw_word, raw_unary, raw_binary, Text, machine_item, input_item, kind_item, output_item, tapes_item, states_item, input_alphabet_item, tape_alphabet_item, blank_item, start_item, Line}
use Rattle.language.specs.Content.{value_or}
use Rattle.language.specs.Assembly.{items, first, found, resolve, blank_of, states_in, finals_in, body_of, kept, expand_all}

-- a place, where something is there
unfoldable pub place_of : {P A : Type 0} → Option (Located P A) → Option P
place_of o = option_map (λ l. l.place) o

-- two names are the same characters
abbrev pub same_name : {P : Type 0} → Located P (List ℕ) → Located P (List ℕ) → Bool
same_name a b = same a.value b.value

-- x is one of a list
unfoldable pub member : {A : Type 0} → (A → A → Bool) → List A → A → Bool
member is [] x = false
member is (y ∷ l) x = is y x || member is l x

-- the entries of a list at their first mention, those left out that are known already
unfoldable pub fresh : {A : Type 0} → (A → A → Bool) → (A → Bool) → List A → List A
fresh is known [] = []
fresh is known (x ∷ l) = elim (known x) [ true ↦ fresh is known l | false ↦ x ∷ fresh is (λ y. is x y || known y) l ]

-- nothing is known
abbrev pub nothing : {A : Type 0} → A → Bool
nothing x = false

-- ---- states

-- the names that the rules mention: from and to of each
unfoldable pub mentions : {P : Type 0} → List (Rule P) → List (Located P (List ℕ))
mentions rs = flat_map (λ r. r.from ∷ r.to ∷ []) rs

-- undeclared states: a declared start, from and to of each rule, then F
unfoldable pub infer_states : {P : Type 0} → Option (Located P (List ℕ)) → List (Rule P) → List (Located P (List ℕ)) → List (Located P (List ℕ))
unfolding fresh mentions
infer_states start rules finals = fresh same_name nothing (option_to_list start ++ mentions rules ++ finals)

-- states that F lists are final; of a name that Q repeats only the first
unfoldable pub marked : {P : Type 0} → (Located P (List ℕ) → Bool) → (Located P (List ℕ) → Bool) → List (Located P (List ℕ)) → List (State P)
marked final known [] = []
marked final known (q ∷ qs) = record { name = q; final = final q && not (known q) } ∷ marked final (λ y. same_name q y || known y) qs

-- the first of a list
unfoldable pub head : {A : Type 0} → List A → Option A
head [] = None
head (a ∷ l) = Some a

-- ---- symbols

-- a symbol that is inferred
unfoldable pub inferred : {P : Type 0} → ℕ → Symbol P
inferred c = record { code = c; declared_at = None }

-- a symbol that a set lists
unfoldable pub listed : {P : Type 0} → ℕ → Located P RawSymbol → Symbol P
unfolding resolve
listed b s = record { code = resolve b s.value; declared_at = Some s.place }

-- the characters that the rules use: all reads of each, then all its writes
unfoldable pub used : {P : Type 0} → List (Rule P) → List ℕ
used [] = []
used (r ∷ rs) = map (λ a. a.read.value) r.actions ++ (map (λ a. a.write.value) r.actions ++ used rs)

-- what an undeclared Γ holds besides the blank: a declared Σ and what the rules use; or what they use and the input
unfoldable pub candidates : {P : Type 0} → ℕ → Option (List (Located P RawSymbol)) → List (Rule P) → List ℕ → List ℕ
unfolding resolve used
candidates b (Some s) rules input = map (λ x. resolve b x.value) s ++ used rules
candidates b None rules input = used rules ++ input

-- a declared Γ without the blank gets it last
unfoldable pub with_blank : {P : Type 0} → ℕ → List (Symbol P) → List (Symbol P)
unfolding member inferred
with_blank b g = elim (member eqb (map (λ s. s.code) g) b) [ true ↦ g | false ↦ g ++ inferred b ∷ [] ]

-- undeclared Γ: the blank, then the others at their first mention
unfoldable pub infer_gamma : {P : Type 0} → ℕ → Option (List (Located P RawSymbol)) → List ℕ → List (Symbol P)
unfolding listed inferred with_blank fresh
infer_gamma b (Some g) cs = with_blank b (map (listed b) g)
infer_gamma b None cs = map inferred (b ∷ fresh eqb (eqb b) cs)

-- a list of characters less one
unfoldable pub less : ℕ → List ℕ → List ℕ
less b [] = []
less b (c ∷ cs) = elim (eqb c b) [ true ↦ less b cs | false ↦ c ∷ less b cs ]

-- undeclared Σ: Γ less the blank
unfoldable pub infer_sigma : {P : Type 0} → ℕ → Option (List (Located P RawSymbol)) → List (Symbol P) → List (Symbol P)
unfolding listed inferred less
infer_sigma b (Some s) gamma = map (listed b) s
infer_sigma b None gamma = map inferred (less b (map (λ s. s.code) gamma))

-- ---- the machine

-- an output once the blank is known
unfoldable pub resolve_decoder : ℕ → RawDecoder → Decoder
unfolding resolve
resolve_decoder b raw_word = Word
resolve_decoder b (raw_unary s) = Unary (resolve b s)
resolve_decoder b (raw_binary o) = Binary o

-- the tapes declared, 1 if none or too many are
unfoldable pub tapes_of : {P : Type 0} → Option (Located P ℕ) → ℕ
tapes_of None = 1
tapes_of (Some n) = elim (leb n.value 255) [ true ↦ n.value | false ↦ 1 ]

-- a string between its quotes
unfoldable pub between : {P : Type 0} → Option (Text P) → Option (Located P (List ℕ))
between o = option_map (λ t. t.value) o

-- the machine of a list of lines
unfoldable pub machine_of : {P : Type 0} → List (Line P) → Machine P
unfolding items first found blank_of states_in finals_in body_of kept expand_all place_of member fresh infer_states marked head candidates infer_gamma infer_sigma resolve_decoder tapes_of between value_or
machine_of ls =
    let is = items ls in
    let body = body_of ls in
    let b = blank_of is in
    let rules = expand_all b (kept 0 body.rules) in
    let input = found (first (λ i. elim i [ input_item s ↦ Some s | _ ↦ None ]) is) in
    let tapes = found (first (λ i. elim i [ tapes_item n ↦ Some n | _ ↦ None ]) is) in
    let start = found (first (λ i. elim i [ start_item q ↦ Some q | _ ↦ None ]) is) in
    let finals = fresh same_name nothing (finals_in is) in
    let names = unwrap_or (states_in is) (infer_states start rules finals) in
    let sigma = found (first (λ i. elim i [ input_alphabet_item s ↦ Some s | _ ↦ None ]) is) in
    let gamma = found (first (λ i. elim i [ tape_alphabet_item s ↦ Some s | _ ↦ None ]) is) in
    let symbols = infer_gamma b gamma (candidates b sigma rules (value_or (between input))) in
    record {
      name = between (found (first (λ i. elim i [ machine_item s ↦ Some s | _ ↦ None ]) is));
      input = between input;
      kind = unwrap_or (found (first (λ i. elim i [ kind_item k ↦ Some k | _ ↦ None ]) is)) Transducer;
      output = resolve_decoder b (unwrap_or (found (first (λ i. elim i [ output_item o ↦ Some o | _ ↦ None ]) is)) raw_word);
      tapes = tapes_of tapes;
      blank = b;
      declared = record {
        states = is_some (states_in is);
        input_alphabet = is_some sigma;
        tape_alphabet = is_some gamma;
        start = is_some start;
        blank = is_some (first (λ i. elim i [ blank_item b ↦ Some b | _ ↦ None ]) is);
      };
      start = head (option_to_list start ++ names);
      map = record {
        kind = place_of (first (λ i. elim i [ kind_item k ↦ Some k | _ ↦ None ]) is);
        input = place_of input;
        tapes = place_of tapes;
        start = place_of start;
        states = place_of (first (λ i. elim i [ states_item q ↦ Some q | _ ↦ None ]) is);
      };
      states = marked (member same_name finals) nothing names;
      sigma = infer_sigma b sigma symbols;
      gamma = symbols;
      finals = map (λ f. f.place) finals;
      header = body.header;
      trailing = body.trailing;
      rules = rules;
    }
