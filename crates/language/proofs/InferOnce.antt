-- Reading infers as `infer` does: what a text stands for is `infer` of what assembly leaves. So inferring on a read machine changes nothing.
use Prim.Native.Nat.{ℕ}
use mathlib.Core.Bool.{Bool, true, false, ◌&&◌, ◌||◌, not}
use mathlib.Core.List.{List, [], ◌∷◌, ◌++◌, map, append-nil}
use Rattle.std.specs.Prelude.{Option, None, Some, unwrap_or, option_to_list, is_some}
use mathlib.Core.Path.{◌≡◌, refl, ap, ap₂, ◌∙◌, sym}
use lib.Dec.{eqb}
use Rattle.std.proofs.Math.Bool.{and-true}
use Rattle.chars.specs.Utf8.{decode}
use Rattle.lexer.specs.Text.{same}
use Rattle.machine.specs.declared.Kind.TheVariants.{Transducer}
use Rattle.language.specs.Machine.{Located}
use Rattle.language.specs.Content.{StateContent, RuleContent, Content, value_or, values}
use Rattle.language.specs.Lines.{RawSymbol, raw_word, Line, read_lines}
use Rattle.language.specs.Assembly.{items, first, found, resolve, blank_of, states_in, finals_in}
use Rattle.language.specs.Infer.{same_name, member, fresh, nothing, resolve_decoder}
use Rattle.language.specs.Inference.{is_empty, if_declared, if_undeclared, rule_names, rule_glyphs, is_final_in, state_of, infer_states_of, first_name, infer_start_of, add_blank, infer_gamma_of, infer_sigma_of, mentions_of, used_of, infer, assembled_states, assembled, ReadInfers, ReadInferred}
use Rattle.language.proofs.Columns.{select}
use Rattle.language.proofs.Every.{by_test, Every, Maybe, every_append, every_impl}
use Rattle.language.proofs.Facts.{Facts, map_option, mentions_c, marked_c, used_c, candidates_c, with_blank_c, gamma_c, sigma_c, tapes_c, blank_c, names_c, start_c, content_from, facts_of, fresh-values, symbols-values, states-values, content_facts}
use Rattle.language.proofs.InferAgain.{fresh_every}
use Rattle.language.proofs.InferTwice.{infer-infer}
use Rattle.language.proofs.ParseSound.{GoodName}
use Rattle.language.proofs.AssemblySound.{GoodRule, GoodFacts}
use Rattle.language.proofs.RoundTrip.{admitted_fine, read_good}

abbrev Names : Type 0
Names = List (List ℕ)

-- a state that F lists
abbrev final_state : List ℕ → StateContent
final_state w = record { name = w; final = true }

-- the states as assembly leaves them: a declared Q with its marks, or what F lists
unfoldable pub states_left : Option Names → Names → List StateContent
unfolding marked_c member
states_left (Some q) finals = marked_c (member same finals) nothing q
states_left None finals = map final_state finals

-- the machine as assembly leaves it, before inference (parser.rs, what `assemble` hands to `analyze`)
unfoldable pub assembled_c : Facts → Content
unfolding states_left fresh tapes_c blank_c resolve resolve_decoder
assembled_c f =
    let b = blank_c f.blank in
    record {
      name = unwrap_or f.name [];
      input = unwrap_or f.input [];
      kind = unwrap_or f.kind Transducer;
      output = resolve_decoder b (unwrap_or f.output raw_word);
      tapes = tapes_c f.tapes;
      blank = b;
      declared = record { states = is_some f.states; input_alphabet = is_some f.sigma; tape_alphabet = is_some f.gamma; start = is_some f.start; blank = is_some f.blank };
      start = unwrap_or f.start [];
      states = states_left f.states (fresh same nothing f.finals);
      sigma = map (resolve b) (unwrap_or f.sigma []);
      gamma = map (resolve b) (unwrap_or f.gamma []);
      header = f.header;
      trailing = f.trailing;
      rules = f.rules;
    }

-- ---- names

mentioned-is : (rs : List RuleContent) → rule_names rs ≡ mentions_c rs
unfolding rule_names mentions_c
mentioned-is [] = refl
mentioned-is (r ∷ rs) = ap (λ t. r.from ∷ r.to ∷ t) (mentioned-is rs)

used-is : (rs : List RuleContent) → rule_glyphs rs ≡ used_c rs
unfolding rule_glyphs used_c
used-is [] = refl
used-is (r ∷ rs) = ap (λ t. map (λ a. a.read) r.actions ++ (map (λ a. a.write) r.actions ++ t)) (used-is rs)

started : (o : Option (List ℕ)) → if_declared (is_some o) (unwrap_or o [] ∷ []) ≡ option_to_list o
unfolding if_declared
started None = refl
started (Some w) = refl

final-names : (D : Names) → map (λ s. s.name) (map final_state D) ≡ D
final-names [] = refl
final-names (w ∷ D) = ap (λ t. w ∷ t) (final-names D)

final-member : (D : Names) (w : List ℕ) → is_final_in (map final_state D) w ≡ member same D w
unfolding is_final_in member
final-member [] w = refl
final-member (x ∷ D) w = ap (λ b. same x w || b) (final-member D w)

-- tests that agree on the members leave the same
fresh-agree : (p q : List ℕ → Bool) (l : Names) → Every (λ w. p w ≡ q w) l → fresh same p l ≡ fresh same q l
unfolding fresh
fresh-agree p q [] h = refl
fresh-agree p q (x ∷ l) h = by_test (p x)
    (λ e. rw (e, fresh) (rw (sym h.0 ∙ e, fresh) (fresh-agree p q l h.1)))
    (λ e. rw (e, fresh) (rw (sym h.0 ∙ e, fresh) (ap (λ t. x ∷ t) (fresh-agree (λ y. same x y || p y) (λ y. same x y || q y) l (every_impl (λ w. p w ≡ q w) (λ w. (same x w || p w) ≡ (same x w || q w)) (λ w k. ap (λ b. same x w || b) k) l h.1)))))

-- marks on names without repeats
marked-map : (f known : List ℕ → Bool) (l : Names) → marked_c f known (fresh same known l) ≡ map (λ w. record { name = w; final = f w }) (fresh same known l)
unfolding marked_c fresh
marked-map f known [] = refl
marked-map f known (x ∷ l) = by_test (known x)
    (λ e. rw (e, fresh) (marked-map f known l))
    (λ e. rw (e, fresh) (ap₂ (λ (b : Bool) (t : List StateContent). record { name = x; final = b } ∷ t) (ap (λ b. f x && not b) e ∙ and-true (f x)) (marked-map f (λ y. same x y || known y) l)))

state-ext : (D : Names) (l : Names) → map (state_of (map final_state D)) l ≡ map (λ w. record { name = w; final = member same D w }) l
unfolding state_of
state-ext D [] = refl
state-ext D (w ∷ l) = ap₂ (λ (b : Bool) (t : List StateContent). record { name = w; final = b } ∷ t) (final-member D w) (state-ext D l)

states-read : (q : Option Names) (xs D : Names) → Every (λ w. is_empty w ≡ false) (xs ++ D) → infer_states_of (is_some q) xs (states_left q D) ≡ marked_c (member same D) nothing (unwrap_or q (fresh same nothing (xs ++ D)))
unfolding infer_states_of states_left
states-read (Some q) xs D h = refl
states-read None xs D h =
    ap (λ l. map (state_of (map final_state D)) (fresh same is_empty (xs ++ l))) (final-names D)
    ∙ (ap (map (state_of (map final_state D))) (fresh-agree is_empty nothing (xs ++ D) h)
    ∙ (state-ext D (fresh same nothing (xs ++ D)) ∙ sym (marked-map (member same D) nothing (xs ++ D))))

-- ---- start and symbols

start-read : (o : Option (List ℕ)) (g known : List ℕ → Bool) (names : Names) → infer_start_of (is_some o) (unwrap_or o []) (marked_c g known names) ≡ start_c o names
unfolding infer_start_of marked_c start_c first_name
start-read (Some w) g known names = refl
start-read None g known [] = refl
start-read None g known (w ∷ names) = refl

added-is : (b : ℕ) (g : List ℕ) → add_blank b g ≡ with_blank_c b g
unfolding add_blank with_blank_c
added-is b g = refl

gamma-read : (b : ℕ) (g s : Option (List RawSymbol)) (rs : List RuleContent) (input : List ℕ)
    → infer_gamma_of (is_some g) b (if_declared (is_some s) (map (resolve b) (unwrap_or s [])) ++ used_c rs) (map (resolve b) (unwrap_or g [])) (if_undeclared (is_some s) input) ≡ gamma_c b g (candidates_c b s rs input)
unfolding infer_gamma_of if_declared if_undeclared gamma_c candidates_c
gamma-read b (Some g) s rs input = added-is b (map (resolve b) g)
gamma-read b None (Some s) rs input = ap (λ l. b ∷ fresh eqb (eqb b) l) (append-nil (map (resolve b) s ++ used_c rs))
gamma-read b None None rs input = refl

sigma-read : (b : ℕ) (s : Option (List RawSymbol)) (g : List ℕ) → infer_sigma_of (is_some s) b (map (resolve b) (unwrap_or s [])) g ≡ sigma_c b s g
unfolding infer_sigma_of sigma_c
sigma-read b (Some s) g = refl
sigma-read b None g = refl

-- ---- no name that is read is empty

word-filled : (w : List ℕ) → GoodName w → is_empty w ≡ false
unfolding is_empty
word-filled [] g = absurd (g.name-word)
word-filled (c ∷ w) g = refl

start-filled : (o : Option (List ℕ)) → Maybe GoodName o → Every (λ w. is_empty w ≡ false) (option_to_list o)
start-filled None h = tt
start-filled (Some w) h = (word-filled w h, tt)

rules-filled : (rs : List RuleContent) → Every GoodRule rs → Every (λ w. is_empty w ≡ false) (mentions_c rs)
unfolding mentions_c
rules-filled [] h = tt
rules-filled (r ∷ rs) h = (word-filled r.from h.0.rule_from, (word-filled r.to h.0.rule_to, rules-filled rs h.1))

-- ---- reading

-- what the facts of a text give is `infer` of what assembly leaves
pub facts-inferred : (f : Facts) → GoodFacts f → infer (assembled_c f) ≡ content_from f
unfolding infer assembled_c content_from names_c mentions_of used_of
facts-inferred f k =
    let b = blank_c f.blank in
    let D = fresh same nothing f.finals in
    let xs = option_to_list f.start ++ mentions_c f.rules in
    let filled : Every (λ w. is_empty w ≡ false) (xs ++ D) =
    every_append (λ w. is_empty w ≡ false) xs D (every_append (λ w. is_empty w ≡ false) (option_to_list f.start) (mentions_c f.rules) (start-filled f.start k.f_start) (rules-filled f.rules k.f_rules))
    (fresh_every (λ w. is_empty w ≡ false) nothing f.finals (every_impl GoodName (λ w. is_empty w ≡ false) word-filled f.finals k.f_finals)) in
    let mentions-eq : mentions_of (assembled_c f) ≡ xs = ap₂ (λ (x y : Names). x ++ y) (started f.start) (mentioned-is f.rules) in
    let glyphs-eq : used_of (assembled_c f) ≡ if_declared (is_some f.sigma) (map (resolve b) (unwrap_or f.sigma [])) ++ used_c f.rules = ap (λ t. if_declared (is_some f.sigma) (map (resolve b) (unwrap_or f.sigma [])) ++ t) (used-is f.rules) in
    let states-eq : (infer (assembled_c f)).states ≡ (content_from f).states = ap (λ l. infer_states_of (is_some f.states) l (states_left f.states D)) mentions-eq ∙ states-read f.states xs D filled in
    let gamma-eq : (infer (assembled_c f)).gamma ≡ (content_from f).gamma
    = ap (λ l. infer_gamma_of (is_some f.gamma) b l (map (resolve b) (unwrap_or f.gamma [])) (if_undeclared (is_some f.sigma) (unwrap_or f.input []))) glyphs-eq
    ∙ gamma-read b f.gamma f.sigma f.rules (unwrap_or f.input []) in
    λ i. record {
      name = unwrap_or f.name [];
      input = unwrap_or f.input [];
      kind = (content_from f).kind;
      output = (content_from f).output;
      tapes = (content_from f).tapes;
      blank = b;
      declared = (content_from f).declared;
      start = (ap (infer_start_of (is_some f.start) (unwrap_or f.start [])) states-eq ∙ start-read f.start (member same D) nothing (names_c f)) i;
      states = states-eq i;
      sigma = (ap (infer_sigma_of (is_some f.sigma) b (map (resolve b) (unwrap_or f.sigma []))) gamma-eq ∙ sigma-read b f.sigma (content_from f).gamma) i;
      gamma = gamma-eq i;
      header = f.header;
      trailing = f.trailing;
      rules = f.rules;
    }

-- ---- what assembly leaves, places left out

module _ {P : Type 0} where
  value-left : (o : Option (Located P (List ℕ))) → value_or o ≡ unwrap_or (map_option (λ t. t.value) o) []
  unfolding value_or
  value-left None = refl
  value-left (Some w) = refl

  symbols-left : (b : ℕ) (o : Option (List (Located P RawSymbol))) → map (λ s. resolve b s.value) (unwrap_or o []) ≡ map (resolve b) (unwrap_or (map_option values o) [])
  symbols-left b None = refl
  symbols-left b (Some l) = symbols-values b l

  finals-left : (l : List (Located P (List ℕ))) → map (λ f. record { name = f.value; final = true }) l ≡ map final_state (map (λ n. n.value) l)
  finals-left [] = refl
  finals-left (f ∷ l) = ap (λ t. record { name = f.value; final = true } ∷ t) (finals-left l)

  states-left : (q : Option (List (Located P (List ℕ)))) (finals : List (Located P (List ℕ))) → assembled_states q (fresh same_name nothing finals) ≡ states_left (map_option values q) (fresh same nothing (values finals))
  unfolding assembled_states states_left values
  states-left (Some q) finals = states-values q finals
  states-left None finals = finals-left (fresh same_name nothing finals) ∙ ap (map final_state) (fresh-values nothing finals)

  assembled-facts : (ls : List (Line P)) → assembled ls ≡ assembled_c (facts_of ls)
  unfolding assembled assembled_c facts_of content_from
  assembled-facts ls =
      let is = items ls in
      let b = blank_of is in
      let m = content_facts ls in
      λ i. record {
        name = (m i).name;
        input = (m i).input;
        kind = (m i).kind;
        output = (m i).output;
        tapes = (m i).tapes;
        blank = b;
        declared = (m i).declared;
        start = value-left (found (first (select λ p. p.start) is)) i;
        states = states-left (states_in is) (finals_in is) i;
        sigma = symbols-left b (found (first (select λ p. p.sigma) is)) i;
        gamma = symbols-left b (found (first (select λ p. p.gamma) is)) i;
        header = (m i).header;
        trailing = (m i).trailing;
        rules = (m i).rules;
      }

-- ---- the theorems

pub read-infers : ReadInfers
read-infers t h =
    let ls = read_lines (decode t) in
    content_facts ls ∙ (sym (facts-inferred (facts_of ls) (read_good (decode t) (admitted_fine t h))) ∙ ap infer (sym (assembled-facts ls)))

pub read-inferred : ReadInferred
read-inferred t h =
    let left = assembled (read_lines (decode t)) in
    ap infer (read-infers t h) ∙ (infer-infer left ∙ sym (read-infers t h))
