-- What a description says without places, and the content that inference makes of it: places play no part in what a machine is.
use Prim.Native.Nat.{ℕ, ◌+◌}
use mathlib.Core.Bool.{Bool, true, false, ◌&&◌, ◌||◌, not}
use mathlib.Core.List.{List, [], ◌∷◌, ◌++◌, map, map-map}
use Rattle.std.specs.Prelude.{Option, None, Some, unwrap_or, option_to_list, is_some}
use mathlib.Core.Path.{◌≡◌, refl, ap, ap₂, ◌∙◌, sym}
use lib.Dec.{eqb, leb}
use Rattle.lexer.specs.Text.{same}
use Rattle.machine.specs.declared.Kind.{Kind}
use Rattle.machine.specs.declared.Kind.TheVariants.{Transducer}
use Rattle.language.specs.Machine.{Located, Action, Rule, Symbol}
use Rattle.language.specs.Content.{StateContent, ActionContent, RuleContent, Content, value_or, values, rule_content, content_of}
use Rattle.language.specs.Lines.{RawSymbol, raw_blank, RawDecoder, raw_word, Item, Line}
use Rattle.language.specs.Assembly.{Body, items, first, found, resolve, blank_of, states_in, finals_in, body_of, kept, expand_all}
use Rattle.language.proofs.Columns.{select}
use Rattle.language.specs.Infer.{same_name, member, fresh, nothing, mentions, infer_states, marked, head, inferred, listed, used, candidates, with_blank, infer_gamma, less, infer_sigma, resolve_decoder, tapes_of, between, machine_of}
use Rattle.language.proofs.Every.{by_test}

abbrev pub map_option : {A B : Type 0} → (A → B) → Option A → Option B
map_option g None = None
map_option g (Some a) = Some (g a)

-- what the lines of a description say, places left out
pub record Facts : Type 0 where
  pub name : Option (List ℕ)
  pub input : Option (List ℕ)
  pub kind : Option Kind
  pub output : Option RawDecoder
  pub tapes : Option ℕ
  pub states : Option (List (List ℕ))
  pub finals : List (List ℕ)
  pub sigma : Option (List RawSymbol)
  pub gamma : Option (List RawSymbol)
  pub blank : Option RawSymbol
  pub start : Option (List ℕ)
  pub header : List (List ℕ)
  pub trailing : List (List ℕ)
  pub rules : List RuleContent

-- ---- inference without places

unfoldable pub mentions_c : List RuleContent → List (List ℕ)
mentions_c [] = []
mentions_c (r ∷ rs) = r.from ∷ r.to ∷ mentions_c rs

unfoldable pub marked_c : (List ℕ → Bool) → (List ℕ → Bool) → List (List ℕ) → List StateContent
marked_c final known [] = []
marked_c final known (q ∷ qs) = record { name = q; final = final q && not (known q) } ∷ marked_c final (λ y. same q y || known y) qs

unfoldable pub used_c : List RuleContent → List ℕ
used_c [] = []
used_c (r ∷ rs) = map (λ a. a.read) r.actions ++ (map (λ a. a.write) r.actions ++ used_c rs)

unfoldable pub candidates_c : ℕ → Option (List RawSymbol) → List RuleContent → List ℕ → List ℕ
unfolding resolve used_c
candidates_c b (Some s) rules input = map (resolve b) s ++ used_c rules
candidates_c b None rules input = used_c rules ++ input

unfoldable pub with_blank_c : ℕ → List ℕ → List ℕ
unfolding member
with_blank_c b g = elim (member eqb g b) [ true ↦ g | false ↦ g ++ b ∷ [] ]

unfoldable pub gamma_c : ℕ → Option (List RawSymbol) → List ℕ → List ℕ
unfolding with_blank_c resolve fresh
gamma_c b (Some g) cs = with_blank_c b (map (resolve b) g)
gamma_c b None cs = b ∷ fresh eqb (eqb b) cs

unfoldable pub sigma_c : ℕ → Option (List RawSymbol) → List ℕ → List ℕ
unfolding less resolve
sigma_c b (Some s) gamma = map (resolve b) s
sigma_c b None gamma = less b gamma

unfoldable pub tapes_c : Option ℕ → ℕ
tapes_c None = 1
tapes_c (Some n) = elim (leb n 255) [ true ↦ n | false ↦ 1 ]

unfoldable pub blank_c : Option RawSymbol → ℕ
unfolding resolve
blank_c o = resolve 0x2423 (unwrap_or o raw_blank)

unfoldable pub names_c : Facts → List (List ℕ)
unfolding fresh mentions_c
names_c f = unwrap_or f.states (fresh same nothing (option_to_list f.start ++ mentions_c f.rules ++ fresh same nothing f.finals))

unfoldable pub start_c : Option (List ℕ) → List (List ℕ) → List ℕ
start_c (Some w) names = w
start_c None [] = []
start_c None (w ∷ names) = w

-- the content of a description
unfoldable pub content_from : Facts → Content
unfolding member fresh marked_c candidates_c gamma_c sigma_c tapes_c blank_c names_c start_c resolve_decoder
content_from f =
    let b = blank_c f.blank in
    let symbols = gamma_c b f.gamma (candidates_c b f.sigma f.rules (unwrap_or f.input [])) in
    record {
      name = unwrap_or f.name [];
      input = unwrap_or f.input [];
      kind = unwrap_or f.kind Transducer;
      output = resolve_decoder b (unwrap_or f.output raw_word);
      tapes = tapes_c f.tapes;
      blank = b;
      declared = record { states = is_some f.states; input_alphabet = is_some f.sigma; tape_alphabet = is_some f.gamma; start = is_some f.start; blank = is_some f.blank };
      start = start_c f.start (names_c f);
      states = marked_c (member same (fresh same nothing f.finals)) nothing (names_c f);
      sigma = sigma_c b f.sigma symbols;
      gamma = symbols;
      header = f.header;
      trailing = f.trailing;
      rules = f.rules;
    }

-- what items and the rules with their comments say
unfoldable pub facts_from : {P : Type 0} → List (Located P (Item P)) → Body P → Facts
unfolding first found blank_of states_in finals_in kept expand_all rule_content values
facts_from is body = record {
  name = map_option (λ t. t.value.value) (found (first (select λ p. p.machine) is));
  input = map_option (λ t. t.value.value) (found (first (select λ p. p.input) is));
  kind = found (first (select λ p. p.kind) is);
  output = found (first (select λ p. p.output) is);
  tapes = map_option (λ t. t.value) (found (first (select λ p. p.tapes) is));
  states = map_option values (states_in is);
  finals = values (finals_in is);
  sigma = map_option values (found (first (select λ p. p.sigma) is));
  gamma = map_option values (found (first (select λ p. p.gamma) is));
  blank = found (first (select λ p. p.blank) is);
  start = map_option (λ t. t.value) (found (first (select λ p. p.start) is));
  header = values body.header;
  trailing = values body.trailing;
  rules = map rule_content (expand_all (blank_of is) (kept 0 body.rules));
}

-- what the lines say
unfoldable pub facts_of : {P : Type 0} → List (Line P) → Facts
unfolding items body_of facts_from
facts_of ls = facts_from (items ls) (body_of ls)

-- ---- the machine's content is that of its facts

abbrev Name : Type 0 → Type 0
Name P = Located P (List ℕ)

pub map-append : {A B : Type 0} (f : A → B) (l r : List A) → map f (l ++ r) ≡ map f l ++ map f r
map-append f [] r = refl
map-append f (a ∷ l) r = ap (λ t. f a ∷ t) (map-append f l r)

some-values : {A B : Type 0} (f : A → B) (o : Option A) → is_some o ≡ is_some (map_option f o)
some-values f None = refl
some-values f (Some a) = refl

codes-inferred : (P : Type 0) (l : List ℕ) → map (λ s. s.code) (map (inferred {P = P}) l) ≡ l
unfolding inferred
codes-inferred P [] = refl
codes-inferred P (c ∷ l) = ap (λ t. c ∷ t) (codes-inferred P l)

module _ {P : Type 0} where
  pub fresh-values : (known : List ℕ → Bool) (l : List (Name P)) → map (λ n. n.value) (fresh same_name (λ n. known n.value) l) ≡ fresh same known (map (λ n. n.value) l)
  unfolding fresh
  fresh-values known [] = refl
  fresh-values known (x ∷ l) = by_test (known x.value)
      (λ e. rw (e, fresh) (fresh-values known l))
      (λ e. rw (e, fresh) (ap (λ t. x.value ∷ t) (fresh-values (λ y. same x.value y || known y) l)))

  member-values : (l : List (Name P)) (n : Name P) → member same_name l n ≡ member same (map (λ n. n.value) l) n.value
  unfolding member
  member-values [] n = refl
  member-values (x ∷ l) n = ap (λ b. same x.value n.value || b) (member-values l n)

  marked-values : (f : Name P → Bool) (g : List ℕ → Bool) → ((n : Name P) → f n ≡ g n.value) → (known : List ℕ → Bool) (l : List (Name P))
      → map (λ s. record { name = s.name.value; final = s.final }) (marked f (λ n. known n.value) l) ≡ marked_c g known (map (λ n. n.value) l)
  unfolding marked marked_c
  marked-values f g e known [] = refl
  marked-values f g e known (q ∷ l) =
      ap₂ (λ (b : Bool) (t : List StateContent). record { name = q.value; final = b && not (known q.value) } ∷ t) (e q) (marked-values f g e (λ y. same q.value y || known y) l)

  mentions-values : (rs : List (Rule P)) → map (λ n. n.value) (mentions rs) ≡ mentions_c (map rule_content rs)
  unfolding mentions mentions_c rule_content
  mentions-values [] = refl
  mentions-values (r ∷ rs) = ap (λ t. r.from.value ∷ r.to.value ∷ t) (mentions-values rs)

  used-values : (rs : List (Rule P)) → used rs ≡ used_c (map rule_content rs)
  unfolding used used_c rule_content
  used-values [] = refl
  used-values (r ∷ rs) =
      ap₂ (λ (x y : List ℕ). x ++ y)
      (sym (map-map (λ (a : ActionContent). a.read) (λ (a : Action P). record { read = a.read.value; write = a.write.value; dir = a.dir }) r.actions))
      (ap₂ (λ (x y : List ℕ). x ++ y)
      (sym (map-map (λ (a : ActionContent). a.write) (λ (a : Action P). record { read = a.read.value; write = a.write.value; dir = a.dir }) r.actions))
      (used-values rs))

  option_values : (o : Option (Name P)) → map (λ n. n.value) (option_to_list o) ≡ option_to_list (map_option (λ n. n.value) o)
  option_values None = refl
  option_values (Some n) = refl

  pub symbols-values : (b : ℕ) (l : List (Located P RawSymbol)) → map (λ x. resolve b x.value) l ≡ map (resolve b) (values l)
  unfolding values
  symbols-values b l = sym (map-map (resolve b) (λ x. x.value) l)

  candidates-values : (b : ℕ) (o : Option (List (Located P RawSymbol))) (rs : List (Rule P)) (i : List ℕ) → candidates b o rs i ≡ candidates_c b (map_option values o) (map rule_content rs) i
  unfolding candidates candidates_c
  candidates-values b None rs i = ap (λ t. t ++ i) (used-values rs)
  candidates-values b (Some s) rs i = ap₂ (λ (x y : List ℕ). x ++ y) (symbols-values b s) (used-values rs)

  codes-listed : (b : ℕ) (l : List (Located P RawSymbol)) → map (λ s. s.code) (map (listed b) l) ≡ map (resolve b) (values l)
  unfolding listed
  codes-listed b l = map-map (λ s. s.code) (listed b) l ∙ symbols-values b l

  blank_values : (b : ℕ) (g : List (Symbol P)) → map (λ s. s.code) (with_blank b g) ≡ with_blank_c b (map (λ s. s.code) g)
  unfolding with_blank with_blank_c
  blank_values b g = by_test (member eqb (map (λ s. s.code) g) b) (λ e. rw (e, with_blank, with_blank_c)) (λ e. rw (e, with_blank, with_blank_c) (map-append (λ s. s.code) g (inferred b ∷ [])))

  gamma-values : (b : ℕ) (o : Option (List (Located P RawSymbol))) (cs : List ℕ) → map (λ s. s.code) (infer_gamma b o cs) ≡ gamma_c b (map_option values o) cs
  unfolding infer_gamma gamma_c
  gamma-values b None cs = codes-inferred P (b ∷ fresh eqb (eqb b) cs)
  gamma-values b (Some g) cs = blank_values b (map (listed b) g) ∙ ap (with_blank_c b) (codes-listed b g)

  sigma-values : (b : ℕ) (o : Option (List (Located P RawSymbol))) (g : List (Symbol P)) → map (λ s. s.code) (infer_sigma b o g) ≡ sigma_c b (map_option values o) (map (λ s. s.code) g)
  unfolding infer_sigma sigma_c
  sigma-values b None g = codes-inferred P (less b (map (λ s. s.code) g))
  sigma-values b (Some s) g = codes-listed b s

  names-values : (q : Option (List (Name P))) (start : Option (Name P)) (rs : List (Rule P)) (finals : List (Name P))
      → values (unwrap_or q (infer_states start rs (fresh same_name nothing finals)))
      ≡ unwrap_or (map_option values q) (fresh same nothing (option_to_list (map_option (λ t. t.value) start) ++ mentions_c (map rule_content rs) ++ fresh same nothing (values finals)))
  unfolding infer_states values
  names-values (Some q) start rs finals = refl
  names-values None start rs finals =
      fresh-values nothing (option_to_list start ++ mentions rs ++ fresh same_name nothing finals)
      ∙ ap (fresh same nothing) (map-append (λ n. n.value) (option_to_list start ++ mentions rs) (fresh same_name nothing finals)
      ∙ ap₂ (λ (x y : List (List ℕ)). x ++ y)
      (map-append (λ n. n.value) (option_to_list start) (mentions rs) ∙ ap₂ (λ (x y : List (List ℕ)). x ++ y) (option_values start) (mentions-values rs))
      (fresh-values nothing finals))

  start-values : (start : Option (Name P)) (names : List (Name P)) → value_or (head (option_to_list start ++ names)) ≡ start_c (map_option (λ t. t.value) start) (values names)
  unfolding head value_or start_c values
  start-values (Some w) names = refl
  start-values None [] = refl
  start-values None (w ∷ names) = refl

  text_values : (o : Option (Located P (Name P))) → value_or (between o) ≡ unwrap_or (map_option (λ t. t.value.value) o) []
  unfolding value_or between
  text_values None = refl
  text_values (Some t) = refl

  tapes-values : (o : Option (Located P ℕ)) → tapes_of o ≡ tapes_c (map_option (λ t. t.value) o)
  unfolding tapes_of tapes_c
  tapes-values None = refl
  tapes-values (Some t) = refl

  some-found : {A : Type 0} (o : Option (Located P A)) → is_some o ≡ is_some (found o)
  unfolding found
  some-found None = refl
  some-found (Some a) = refl

  pub states-values : (names : List (Name P)) (finals : List (Name P))
      → map (λ s. record { name = s.name.value; final = s.final }) (marked (member same_name (fresh same_name nothing finals)) nothing names) ≡ marked_c (member same (fresh same nothing (values finals))) nothing (values names)
  unfolding values
  states-values names finals = marked-values (member same_name (fresh same_name nothing finals)) (member same (fresh same nothing (values finals)))
      (λ n. member-values (fresh same_name nothing finals) n ∙ ap (λ l. member same l n.value) (fresh-values nothing finals)) nothing names

  pub content_facts : (ls : List (Line P)) → content_of (machine_of ls) ≡ content_from (facts_of ls)
  unfolding content_of machine_of content_from facts_of names_c
  content_facts ls =
      let is = items ls in
      let body = body_of ls in
      let b = blank_of is in
      let rules = expand_all b (kept 0 body.rules) in
      let input = found (first (select λ p. p.input) is) in
      let start = found (first (select λ p. p.start) is) in
      let names = unwrap_or (states_in is) (infer_states start rules (fresh same_name nothing (finals_in is))) in
      let sigma = found (first (select λ p. p.sigma) is) in
      let gamma = found (first (select λ p. p.gamma) is) in
      let symbols : map (λ s. s.code) (infer_gamma b gamma (candidates b sigma rules (value_or (between input)))) ≡ gamma_c b (map_option values gamma) (candidates_c b (map_option values sigma) (map rule_content rules) (unwrap_or (map_option (λ t. t.value.value) input) []))
      = gamma-values b gamma _ ∙ ap (gamma_c b (map_option values gamma)) (candidates-values b sigma rules _ ∙ ap (candidates_c b (map_option values sigma) (map rule_content rules)) (text_values input)) in
      let states-eq = names-values (states_in is) start rules (finals_in is) in
      λ i. record {
        name = text_values (found (first (select λ p. p.machine) is)) i;
        input = text_values input i;
        kind = unwrap_or (found (first (select λ p. p.kind) is)) Transducer;
        output = resolve_decoder b (unwrap_or (found (first (select λ p. p.output) is)) raw_word);
        tapes = tapes-values (found (first (select λ p. p.tapes) is)) i;
        blank = b;
        declared = record {
          states = some-values values (states_in is) i;
          input_alphabet = some-values values sigma i;
          tape_alphabet = some-values values gamma i;
          start = some-values (λ t. t.value) start i;
          blank = some-found (first (select λ p. p.blank) is) i;
        };
        start = (start-values start names ∙ ap (start_c (map_option (λ t. t.value) start)) states-eq) i;
        states = (states-values names (finals_in is) ∙ ap (marked_c (member same (fresh same nothing (values (finals_in is)))) nothing) states-eq) i;
        sigma = (sigma-values b sigma (infer_gamma b gamma (candidates b sigma rules (value_or (between input)))) ∙ ap (sigma_c b (map_option values sigma)) symbols) i;
        gamma = symbols i;
        header = values body.header;
        trailing = values body.trailing;
        rules = map rule_content rules;
      }
