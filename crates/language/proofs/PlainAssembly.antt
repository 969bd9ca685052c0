-- The lines of a plain form say what was written, and give no diagnostic.
use Prim.Native.Nat.{ℕ, suc, ◌+◌, ◌*◌, ◌≤◌, ◌<◌}
use mathlib.Core.Bool.{Bool, true, false, ◌||◌, false≢true}
use mathlib.Core.List.{List, [], ◌∷◌, ◌++◌, map, map-map, append-nil, append_assoc}
use Rattle.std.specs.Prelude.{Option, None, Some, unwrap_or}
use mathlib.Core.Path.{◌≡◌, refl, ap, ap₂, ◌∙◌, sym, subst}
use native.Mathlib.Omega.{arith}
use borrow.Author.Tests.{eq-eqb, ne_eqb, le-leb}
use lib.ListN.{length, length-map}
use Rattle.lexer.specs.Text.{same}
use Rattle.language.specs.Machine.{Located}
use Rattle.language.specs.Content.{ActionContent, RuleContent, Content, optional, values, rule_content}
use Rattle.language.specs.Parser.{when}
use Rattle.language.specs.Lines.{glyph, RawTransition, Item, machine_item, input_item, kind_item, output_item, tapes_item, states_item, final_item, input_alphabet_item, tape_alphabet_item, blank_item, start_item, transition_item, Line, blank_line}
use Rattle.language.specs.Assembly as A
use Rattle.language.specs.Assembly.{items, first, found, blank_of, states_in, finals_in, RuleLine, Body, add_header, add_rule, attach, body_of, combinations, expands, verdict, kept, choices, actions, rule_of, dressed, expand, expand_all, line_errors, is_number, declared_at, tapes_error, declaration_error, declaration_errors, listed_at, unknown_error, final_error, final_errors, rule_errors, diagnostics_of}
use Rattle.language.proofs.Columns.{Parts, parts, select}
use Rattle.language.specs.Infer.{member, fresh, nothing}
use Rattle.language.specs.Plain.{final_names}
use Rattle.language.proofs.Every.{by_test, or_left, or_right, and_both, Every, every_impl, every_append}
use Rattle.language.proofs.PlainParse.{U, loc, maybe_loc, text, declaration, only_line, raw_decoder, raw_of, rule_line, comment_lines, rule_lines, plain_lines}
use Rattle.language.proofs.Facts.{map_option, marked_c, facts_from, facts_of, map-append}
use Rattle.language.proofs.InferAgain.{plain_facts, keep, finals_keep, names_marked, same_refl, same-eq, member_self}

-- ---- items

abbrev item : Item U → Located U (Item U)
item i = loc i

abbrev only_item : Bool → Item U → List (Located U (Item U)) → List (Located U (Item U))
only_item true i is = item i ∷ is
only_item false i is = is

abbrev rule_items : List RuleContent → List (Located U (Item U))
rule_items [] = []
rule_items (r ∷ l) = item (transition_item (raw_of r)) ∷ rule_items l

-- the items of a plain form
plain_items : Content → List (Located U (Item U))
plain_items m =
    item (machine_item (text m.name))
    ∷ item (kind_item m.kind)
    ∷ item (input_item (text m.input))
    ∷ item (output_item (raw_decoder m.output))
    ∷ item (tapes_item (loc m.tapes))
    ∷ only_item m.declared.states (states_item (map loc (map (λ s. s.name) m.states)))
    (only_item m.declared.input_alphabet (input_alphabet_item (map (λ c. loc (glyph c)) m.sigma))
    (only_item m.declared.tape_alphabet (tape_alphabet_item (map (λ c. loc (glyph c)) m.gamma))
    (only_item m.declared.blank (blank_item (glyph m.blank))
    (only_item m.declared.start (start_item (loc m.start))
    (item (final_item (map loc (final_names m.states))) ∷ rule_items m.rules)))))

items-comments : (l : List (List ℕ)) (ls : List (Line U)) → items (comment_lines l ls) ≡ items ls
unfolding items comment_lines
items-comments [] ls = refl
items-comments (s ∷ l) ls = items-comments l ls

items-only : (b : Bool) (i : Item U) (ls : List (Line U)) (is : List (Located U (Item U))) → items ls ≡ is → items (only_line b (declaration i) ls) ≡ only_item b i is
unfolding items
items-only true i ls is e = ap (λ t. item i ∷ t) e
items-only false i ls is e = e

items-rules : (l : List RuleContent) (ls : List (Line U)) → items ls ≡ [] → items (rule_lines l ls) ≡ rule_items l
unfolding items rule_lines
items-rules [] ls e = e
items-rules (r ∷ l) ls e = items-comments r.leading (rule_line r ∷ rule_lines l ls) ∙ ap (λ t. item (transition_item (raw_of r)) ∷ t) (items-rules l ls e)

items-plain : (m : Content) → items (plain_lines m) ≡ plain_items m
unfolding plain_lines plain_items items
items-plain m =
    items-comments m.header _
    ∙ ap (λ t. item (machine_item (text m.name)) ∷ item (kind_item m.kind) ∷ item (input_item (text m.input)) ∷ item (output_item (raw_decoder m.output)) ∷ item (tapes_item (loc m.tapes)) ∷ t)
    (items-only m.declared.states _ _ _ (items-only m.declared.input_alphabet _ _ _ (items-only m.declared.tape_alphabet _ _ _ (items-only m.declared.blank _ _ _ (items-only m.declared.start _ _ _
    (ap (λ t. item (final_item (map loc (final_names m.states))) ∷ t) (items-rules m.rules _ (items-comments m.trailing (blank_line ∷ [])))))))))

-- ---- the first item with a part

module _ {A : Type 0} (part : Parts U → Option A) where
  pass : (b : Bool) (i : Item U) (is : List (Located U (Item U))) → part (parts i) ≡ None → first (select part) (only_item b i is) ≡ first (select part) is
  unfolding first
  pass true i is e = rw (e, first)
  pass false i is e = refl

  stop : (b : Bool) (i : Item U) (is : List (Located U (Item U))) (a : A) → part (parts i) ≡ Some a → first (select part) is ≡ None → found (first (select part) (only_item b i is)) ≡ when b a
  unfolding first found
  stop true i is a e h = rw (e, first)
  stop false i is a e h = rw h

  no_rule : ((r : RawTransition U) → part (parts (transition_item r)) ≡ None) → (l : List RuleContent) → first (select part) (rule_items l) ≡ None
  unfolding first
  no_rule e [] = refl
  no_rule e (r ∷ l) = rw (e (raw_of r), first) (no_rule e l)

module _ (m : Content) where
  declared-states : found (first (select λ p. p.states) (plain_items m)) ≡ when m.declared.states (map loc (map (λ s. s.name) m.states))
  unfolding plain_items first
  declared-states = stop (λ p. p.states) m.declared.states _ _ _ refl
      (pass (λ p. p.states) m.declared.input_alphabet _ _ refl ∙ (pass (λ p. p.states) m.declared.tape_alphabet _ _ refl ∙ (pass (λ p. p.states) m.declared.blank _ _ refl
      ∙ (pass (λ p. p.states) m.declared.start _ _ refl ∙ no_rule (λ p. p.states) (λ r. refl) m.rules))))

  declared-sigma : found (first (select λ p. p.sigma) (plain_items m)) ≡ when m.declared.input_alphabet (map (λ c. loc (glyph c)) m.sigma)
  unfolding plain_items first
  declared-sigma = ap found (pass (λ p. p.sigma) m.declared.states _ _ refl) ∙ stop (λ p. p.sigma) m.declared.input_alphabet _ _ _ refl
      (pass (λ p. p.sigma) m.declared.tape_alphabet _ _ refl ∙ (pass (λ p. p.sigma) m.declared.blank _ _ refl ∙ (pass (λ p. p.sigma) m.declared.start _ _ refl ∙ no_rule (λ p. p.sigma) (λ r. refl) m.rules)))

  declared_gamma_lem : found (first (select λ p. p.gamma) (plain_items m)) ≡ when m.declared.tape_alphabet (map (λ c. loc (glyph c)) m.gamma)
  unfolding plain_items first
  declared_gamma_lem = ap found (pass (λ p. p.gamma) m.declared.states _ _ refl ∙ pass (λ p. p.gamma) m.declared.input_alphabet _ _ refl) ∙ stop (λ p. p.gamma) m.declared.tape_alphabet _ _ _ refl
      (pass (λ p. p.gamma) m.declared.blank _ _ refl ∙ (pass (λ p. p.gamma) m.declared.start _ _ refl ∙ no_rule (λ p. p.gamma) (λ r. refl) m.rules))

  declared_blank : found (first (select λ p. p.blank) (plain_items m)) ≡ when m.declared.blank (glyph m.blank)
  unfolding plain_items first
  declared_blank = ap found (pass (λ p. p.blank) m.declared.states _ _ refl ∙ (pass (λ p. p.blank) m.declared.input_alphabet _ _ refl ∙ pass (λ p. p.blank) m.declared.tape_alphabet _ _ refl))
      ∙ stop (λ p. p.blank) m.declared.blank _ _ _ refl (pass (λ p. p.blank) m.declared.start _ _ refl ∙ no_rule (λ p. p.blank) (λ r. refl) m.rules)

  declared-start : found (first (select λ p. p.start) (plain_items m)) ≡ when m.declared.start (loc m.start)
  unfolding plain_items first
  declared-start = ap found (pass (λ p. p.start) m.declared.states _ _ refl ∙ (pass (λ p. p.start) m.declared.input_alphabet _ _ refl ∙ (pass (λ p. p.start) m.declared.tape_alphabet _ _ refl
      ∙ pass (λ p. p.start) m.declared.blank _ _ refl))) ∙ stop (λ p. p.start) m.declared.start _ _ _ refl (no_rule (λ p. p.start) (λ r. refl) m.rules)

  declared-finals : finals_in (plain_items m) ≡ map loc (final_names m.states)
  unfolding plain_items first finals_in
  declared-finals = ap (λ o. unwrap_or (found o) []) (pass (λ p. p.finals) m.declared.states _ _ refl ∙ (pass (λ p. p.finals) m.declared.input_alphabet _ _ refl ∙ (pass (λ p. p.finals) m.declared.tape_alphabet _ _ refl
      ∙ (pass (λ p. p.finals) m.declared.blank _ _ refl ∙ pass (λ p. p.finals) m.declared.start _ _ refl))))

-- ---- comments and rules

values_back : {A : Type 0} (l : List A) → values (map loc l) ≡ l
unfolding values
values_back [] = refl
values_back (a ∷ l) = ap (λ t. a ∷ t) (values_back l)

-- a rule's line as it is attached
abbrev attached : RuleContent → RuleLine U
attached r = record { raw = raw_of r; line = tt; comment = maybe_loc r.comment; leading = map loc r.leading }

attach-comments : (seen : Bool) (old block : List (Located U (List ℕ))) (l : List (List ℕ)) (ls : List (Line U)) → attach seen old block (comment_lines l ls) ≡ attach seen old (block ++ map loc l) ls
unfolding attach comment_lines
attach-comments seen old block [] ls = ap (λ t. attach seen old t ls) (sym (append-nil block))
attach-comments seen old block (s ∷ l) ls = attach-comments seen old (block ++ loc s ∷ []) l ls ∙ ap (λ t. attach seen old t ls) (append_assoc block (loc s ∷ []) (map loc l))

attach-only : (b : Bool) (i : Item U) (ls : List (Line U)) → (parts i).rule ≡ None → attach true [] [] (only_line b (declaration i) ls) ≡ attach true [] [] ls
unfolding attach
attach-only true i ls e = rw e
attach-only false i ls e = refl

add_rules : List (RuleLine U) → Body U → Body U
add_rules rs b = record { header = b.header; rules = rs ++ b.rules; trailing = b.trailing }

attach-rules : (l : List RuleContent) (ls : List (Line U)) → attach true [] [] (rule_lines l ls) ≡ add_rules (map attached l) (attach true [] [] ls)
unfolding attach rule_lines add_rules
attach-rules [] ls = refl
attach-rules (r ∷ l) ls = attach-comments true [] [] r.leading (rule_line r ∷ rule_lines l ls) ∙ ap (add_rule (attached r)) (attach-rules l ls)

attach-end : (l : List (List ℕ)) → attach true [] [] (comment_lines l (blank_line ∷ [])) ≡ record { header = []; rules = []; trailing = map loc l }
unfolding attach
attach-end l = attach-comments true [] [] l (blank_line ∷ []) ∙ ap (λ t. record { header = []; rules = []; trailing = t }) (append-nil (map loc l))

body_plain : (m : Content) → body_of (plain_lines m) ≡ record { header = map loc m.header; rules = map attached m.rules; trailing = map loc m.trailing }
unfolding body_of plain_lines attach add_rules
body_plain m =
    attach-comments false [] [] m.header _
    ∙ (ap (add_header (map loc m.header ++ []))
    (attach-only m.declared.states _ _ refl ∙ (attach-only m.declared.input_alphabet _ _ refl ∙ (attach-only m.declared.tape_alphabet _ _ refl ∙ (attach-only m.declared.blank _ _ refl ∙ (attach-only m.declared.start _ _ refl
    ∙ (attach-rules m.rules (comment_lines m.trailing (blank_line ∷ [])) ∙ ap (add_rules (map attached m.rules)) (attach-end m.trailing)))))))
    ∙ ap₂ (λ h r. record { header = h; rules = r; trailing = map loc m.trailing }) (append-nil (map loc m.header ++ []) ∙ append-nil (map loc m.header)) (append-nil (map attached m.rules)))

-- ---- each rule stands for itself

one_each : (l : List ActionContent) → combinations (map (λ a. loc (glyph a.read) ∷ []) l) ≡ 1
unfolding combinations
one_each [] = refl
one_each (a ∷ l) = ap (λ n. 1 * n) (one_each l)

reads-one : (r : RuleContent) → combinations (raw_of r).read ≡ 1
unfolding raw_of
reads-one r = one_each r.actions

verdict-one : (n : ℕ) (r : RuleContent) → suc n ≤ 262144 → verdict n (raw_of r) ≡ expands
unfolding verdict raw_of
verdict-one n r h =
    let w : length (map (λ a. loc (Some (glyph a.write))) r.actions) ≡ length (map (λ a. loc (glyph a.read) ∷ []) r.actions) = length-map r.actions _ ∙ sym (length-map r.actions _) in
    let d : length (map (λ a. loc a.dir) r.actions) ≡ length (map (λ a. loc (glyph a.read) ∷ []) r.actions) = length-map r.actions _ ∙ sym (length-map r.actions _) in
    rw (and_both _ _ (eq-eqb _ _ w) (eq-eqb _ _ d), verdict) (rw (one_each r.actions) (rw (le-leb (n + 1) 262144 (omega arith))))

kept-all : (l : List RuleContent) (n : ℕ) → n + length l ≤ 262144 → kept n (map attached l) ≡ map attached l
unfolding kept
kept-all [] n h = refl
kept-all (r ∷ l) n h =
    rw (verdict-one n r (omega arith), kept) (rw (reads-one r) (ap (λ t. attached r ∷ t) (kept-all l (n + 1) (omega arith))))

quiet_rules : (l : List RuleContent) (n : ℕ) → n + length l ≤ 262144 → rule_errors n false (map attached l) ≡ []
unfolding rule_errors
quiet_rules [] n h = refl
quiet_rules (r ∷ l) n h = rw (verdict-one n r (omega arith), rule_errors) (rw (reads-one r) (quiet_rules l (n + 1) (omega arith)))

choices-one : (l : List ActionContent) → choices (map (λ a. loc (glyph a.read) ∷ []) l) ≡ map (λ a. loc (glyph a.read)) l ∷ []
unfolding choices
choices-one [] = refl
choices-one (a ∷ l) = ap (λ t. map (λ r. loc (glyph a.read) ∷ r) t ++ []) (choices-one l)

actions_back : (b : ℕ) (l : List ActionContent)
    → map (λ a. record { read = a.read.value; write = a.write.value; dir = a.dir }) (actions b (map (λ a. loc (glyph a.read)) l) (map (λ a. loc (Some (glyph a.write))) l) (map (λ a. loc a.dir) l)) ≡ l
unfolding actions
actions_back b [] = refl
actions_back b (a ∷ l) = ap (λ t. a ∷ t) (actions_back b l)

optional_back : (o : Option (List ℕ)) → optional (maybe_loc o) ≡ o
unfolding optional
optional_back None = refl
optional_back (Some s) = refl

expand_back : (b : ℕ) (r : RuleContent) → map rule_content (expand b (attached r)) ≡ r ∷ []
unfolding expand raw_of dressed rule_of rule_content
expand_back b r =
    ap (λ t. map rule_content (dressed b (attached r) t)) (choices-one r.actions)
    ∙ (λ i. record { from = r.from; to = r.to; comment = optional_back r.comment i; leading = values_back r.leading i; actions = actions_back b r.actions i } ∷ [])

expand_all_lem : (b : ℕ) (l : List RuleContent) → map rule_content (expand_all b (map attached l)) ≡ l
unfolding expand_all
expand_all_lem b [] = refl
expand_all_lem b (r ∷ l) = map-append rule_content (expand b (attached r)) (expand_all b (map attached l)) ∙ ap₂ (λ x y. x ++ y) (expand_back b r) (expand_all_lem b l)

-- ---- what the lines say

when-values : {A B C : Type 0} (f : B → C) (g : A → B) (h : A → C) → ((a : A) → f (g a) ≡ h a) → (b : Bool) (a : A) → map_option f (when b (g a)) ≡ when b (h a)
when-values f g h e true a = ap Some (e a)
when-values f g h e false a = refl

glyph_values : (l : List ℕ) → values (map (λ c. loc (glyph c)) l) ≡ map glyph l
unfolding values
glyph_values l = map-map (λ x. x.value) (λ c. loc (glyph c)) l

fields : (m : Content) → length m.rules ≤ 262144 → facts_from (plain_items m) (record { header = map loc m.header; rules = map attached m.rules; trailing = map loc m.trailing }) ≡ plain_facts m
unfolding facts_from plain_facts plain_items first states_in
fields m h = λ i. record {
  name = Some m.name;
  input = Some m.input;
  kind = Some m.kind;
  output = Some (raw_decoder m.output);
  tapes = Some m.tapes;
  states = (ap (map_option values) (declared-states m) ∙ when-values values (map loc) (λ l. l) values_back m.declared.states (map (λ s. s.name) m.states)) i;
  finals = (ap values (declared-finals m) ∙ values_back (final_names m.states)) i;
  sigma = (ap (map_option values) (declared-sigma m) ∙ when-values values (map (λ c. loc (glyph c))) (map glyph) glyph_values m.declared.input_alphabet m.sigma) i;
  gamma = (ap (map_option values) (declared_gamma_lem m) ∙ when-values values (map (λ c. loc (glyph c))) (map glyph) glyph_values m.declared.tape_alphabet m.gamma) i;
  blank = declared_blank m i;
  start = (ap (map_option (λ t. t.value)) (declared-start m) ∙ when-values (λ t. t.value) loc (λ w. w) (λ w. refl) m.declared.start m.start) i;
  header = values_back m.header i;
  trailing = values_back m.trailing i;
  rules = (ap (λ t. map rule_content (expand_all (blank_of (plain_items m)) t)) (kept-all m.rules 0 (omega arith)) ∙ expand_all_lem (blank_of (plain_items m)) m.rules) i;
}

pub facts_plain : (m : Content) → length m.rules ≤ 262144 → facts_of (plain_lines m) ≡ plain_facts m
unfolding facts_of
facts_plain m h = ap₂ facts_from (items-plain m) (body_plain m) ∙ fields m h

-- ---- no line fails

errors_comments : (l : List (List ℕ)) (ls : List (Line U)) → line_errors (comment_lines l ls) ≡ line_errors ls
unfolding line_errors comment_lines
errors_comments [] ls = refl
errors_comments (s ∷ l) ls = errors_comments l ls

errors_only : (b : Bool) (i : Item U) (ls : List (Line U)) → line_errors (only_line b (declaration i) ls) ≡ line_errors ls
unfolding line_errors
errors_only true i ls = refl
errors_only false i ls = refl

errors_rules : (l : List RuleContent) (ls : List (Line U)) → line_errors (rule_lines l ls) ≡ line_errors ls
unfolding line_errors rule_lines
errors_rules [] ls = refl
errors_rules (r ∷ l) ls = errors_comments r.leading (rule_line r ∷ rule_lines l ls) ∙ errors_rules l ls

quiet_lines : (m : Content) → line_errors (plain_lines m) ≡ []
unfolding plain_lines line_errors
quiet_lines m =
    errors_comments m.header _
    ∙ (errors_only m.declared.states _ _ ∙ (errors_only m.declared.input_alphabet _ _ ∙ (errors_only m.declared.tape_alphabet _ _ ∙ (errors_only m.declared.blank _ _ ∙ (errors_only m.declared.start _ _
    ∙ (errors_rules m.rules _ ∙ errors_comments m.trailing (blank_line ∷ [])))))))

-- ---- no name is declared twice: the numbers of the names ascend

abbrev Under : ℕ → Option ℕ → Type 0
Under n None = Unit {0}
Under n (Some k) = k < n

abbrev AllUnder : ℕ → List (Located U (Item U)) → Type 0
AllUnder n is = Every (λ i. Under n (A.declaration i.value)) is

under_number : (n : ℕ) (o : Option ℕ) → Under n o → is_number n o ≡ false
under_number n None h = refl
under_number n (Some k) h = ne_eqb k n (λ e. omega arith)

under_more : (n : ℕ) (o : Option ℕ) → Under n o → Under (suc n) o
under_more n None h = tt
under_more n (Some k) h = omega arith

not-declared : (n : ℕ) (before : List (Located U (Item U))) → AllUnder n before → declared_at n before ≡ None
unfolding declared_at
not-declared n [] h = refl
not-declared n (i ∷ is) h = rw (under_number n (A.declaration i.value) h.0, declared_at) (not-declared n is h.1)

-- no error, where the names before have numbers below n
abbrev Quiet : ℕ → List (Located U (Item U)) → Type 0
Quiet n is = (before : List (Located U (Item U))) → AllUnder n before → declaration_errors before is ≡ []

under_last : (n k : ℕ) (i : Item U) → A.declaration i ≡ Some k → k < n → Under n (A.declaration i)
under_last n k i e h = subst (Under n) (sym e) h

error-none : (n : ℕ) (i : Item U) (before : List (Located U (Item U))) → A.declaration i ≡ Some n → tapes_error (parts i).tapes ≡ [] → AllUnder n before → declaration_error before (item i) ≡ []
unfolding declaration_error
error-none n i before e t h = rw (e, declaration_error) (rw (not-declared n before h) t)

quiet_put : (n : ℕ) (i : Item U) (is : List (Located U (Item U))) → A.declaration i ≡ Some n → tapes_error (parts i).tapes ≡ [] → Quiet (suc n) is → Quiet n (item i ∷ is)
unfolding declaration_errors
quiet_put n i is e t q before h =
    ap₂ (λ x y. x ++ y) (error-none n i before e t h)
    (q (before ++ item i ∷ []) (every_append (λ i. Under (suc n) (A.declaration i.value)) before (item i ∷ [])
    (every_impl (λ i. Under n (A.declaration i.value)) (λ i. Under (suc n) (A.declaration i.value)) (λ i g. under_more n (A.declaration i.value) g) before h)
    (under_last (suc n) n i e (omega arith), tt)))

quiet_only : (b : Bool) (n : ℕ) (i : Item U) (is : List (Located U (Item U))) → A.declaration i ≡ Some n → tapes_error (parts i).tapes ≡ [] → Quiet (suc n) is → Quiet n (only_item b i is)
quiet_only true n i is e t q before h = quiet_put n i is e t q before h
quiet_only false n i is e t q before h = q before (every_impl (λ i. Under n (A.declaration i.value)) (λ i. Under (suc n) (A.declaration i.value)) (λ i g. under_more n (A.declaration i.value) g) before h)

quiet_rule_items : (n : ℕ) (l : List RuleContent) → Quiet n (rule_items l)
unfolding declaration_errors A.declaration
quiet_rule_items n [] before h = refl
quiet_rule_items n (r ∷ l) before h = quiet_rule_items n l (before ++ item (transition_item (raw_of r)) ∷ []) (every_append (λ i. Under n (A.declaration i.value)) before (item (transition_item (raw_of r)) ∷ []) h (tt, tt))

few_tapes : (n : ℕ) → n < 256 → tapes_error {P = U} (Some (loc n)) ≡ []
unfolding tapes_error
few_tapes n h = rw (le-leb n 255 (omega arith), tapes_error)

quiet_declarations : (m : Content) → m.tapes < 256 → declaration_errors [] (plain_items m) ≡ []
unfolding plain_items A.declaration tapes_error
quiet_declarations m h =
    quiet_put 0 _ _ refl refl (quiet_put 1 _ _ refl refl (quiet_put 2 _ _ refl refl (quiet_put 3 _ _ refl refl (quiet_put 4 _ _ refl (few_tapes m.tapes h)
    (quiet_only m.declared.states 5 _ _ refl refl (quiet_only m.declared.input_alphabet 6 _ _ refl refl (quiet_only m.declared.tape_alphabet 7 _ _ refl refl
    (quiet_only m.declared.blank 8 _ _ refl refl (quiet_only m.declared.start 9 _ _ refl refl (quiet_put 10 _ _ refl refl (quiet_rule_items 11 m.rules)))))))))))
    [] tt

-- ---- F repeats no name and lists none outside Q

unlisted : (known : List ℕ → Bool) (x : List ℕ) → known x ≡ false → (l : List (Located U (List ℕ))) → Every (λ y. known y.value ≡ true) l → listed_at x l ≡ None
unfolding listed_at
unlisted known x e [] h = refl
unlisted known x e (y ∷ l) h = by_test (same y.value x)
    (λ t. absurd (false≢true (sym (ap known (same-eq y.value x t) ∙ e) ∙ h.0)))
    (λ t. rw (t, listed_at) (unlisted known x e l h.1))

known_name : (names : List (List ℕ)) (x : List ℕ) → member same names x ≡ true → unknown_error {P = U} (Some (map loc names)) (loc x) ≡ []
unfolding unknown_error member
known_name [] x e = absurd (false≢true e)
known_name (y ∷ l) x e = by_test (same y x) (λ t. rw (t, unknown_error)) (λ t. rw (t, unknown_error) (known_name l x (rw t at e)))

in_Q : (b : Bool) (names : List (List ℕ)) (x : List ℕ) → member same names x ≡ true → unknown_error {P = U} (when b (map loc names)) (loc x) ≡ []
unfolding unknown_error
in_Q true names x e = known_name names x e
in_Q false names x e = refl

one_name : (q : Option (List (Located U (List ℕ)))) (x : List ℕ) (before : List (Located U (List ℕ))) → listed_at x before ≡ None → unknown_error q (loc x) ≡ [] → final_error q before (loc x) ≡ []
unfolding final_error
one_name q x before e u = rw (e, final_error) u

quiet_names : (q : Option (List (Located U (List ℕ)))) (f known : List ℕ → Bool) (before : List (Located U (List ℕ))) (l : List (List ℕ))
    → Every (λ y. known y.value ≡ true) before → Every (λ x. unknown_error q (loc x) ≡ []) l → final_errors q before (map loc (keep f (fresh same known l))) ≡ []
unfolding final_errors keep fresh
quiet_names q f known before [] h u = refl
quiet_names q f known before (x ∷ l) h u =
    let more : Every (λ y. (same x y.value || known y.value) ≡ true) before
    = every_impl (λ y. known y.value ≡ true) (λ y. (same x y.value || known y.value) ≡ true) (λ y e. or_right (same x y.value) (known y.value) e) before h in
    by_test (known x)
    (λ e. rw (e, fresh) (quiet_names q f known before l h u.1))
    (λ e. rw (e, fresh) (by_test (f x)
    (λ g. rw (g, keep) (ap₂ (λ a b. a ++ b) (one_name q x before (unlisted known x e before h) u.0)
    (quiet_names q f (λ y. same x y || known y) (before ++ loc x ∷ []) l
    (every_append (λ y. (same x y.value || known y.value) ≡ true) before (loc x ∷ []) more (or_left (same x x) (known x) (same_refl x), tt))
    u.1)))
    (λ g. rw (g, keep) (quiet_names q f (λ y. same x y || known y) before l more u.1))))

quiet_finals : (b : Bool) (f : List ℕ → Bool) (names : List (List ℕ)) → final_errors {P = U} (when b (map loc names)) [] (map loc (keep f (fresh same nothing names))) ≡ []
quiet_finals b f names = quiet_names (when b (map loc names)) f nothing [] names tt
    (every_impl (λ x. member same names x ≡ true) (λ x. unknown_error (when b (map loc names)) (loc x) ≡ []) (λ x e. in_Q b names x e) names (member_self names))

-- ---- nothing to report

-- what a plain form asks of a content, so that it gives no diagnostic
pub record Assembles (m : Content) : Type 0 where
  pub tapes-byte : m.tapes < 256
  pub few_rules : length m.rules ≤ 262144
  pub test : List ℕ → Bool
  pub names : List (List ℕ)
  pub marks : m.states ≡ marked_c test nothing names

pub quiet_plain : (m : Content) → Assembles m → diagnostics_of (plain_lines m) ≡ []
unfolding diagnostics_of states_in
quiet_plain m h =
    let few : 0 + length m.rules ≤ 262144 = omega (arith, h.few_rules) in
    ap₂ (λ x y. x ++ y) (quiet_lines m)
    (ap₂ (λ x y. x ++ y) (ap (declaration_errors []) (items-plain m) ∙ quiet_declarations m h.tapes-byte)
    (ap₂ (λ x y. x ++ y)
    (ap (λ is. final_errors (states_in is) [] (finals_in is)) (items-plain m)
    ∙ (ap₂ (λ q f. final_errors q [] f) (declared-states m) (declared-finals m)
    ∙ (ap (λ s. final_errors (when m.declared.states (map loc (map (λ s. s.name) s))) [] (map loc (final_names s))) h.marks
    ∙ (ap₂ (λ n f. final_errors (when m.declared.states (map loc n)) [] (map loc f)) (names_marked h.test nothing h.names) (finals_keep h.test nothing h.names)
    ∙ quiet_finals m.declared.states h.test h.names))))
    (ap (λ b. rule_errors 0 false b.rules) (body_plain m) ∙ quiet_rules m.rules 0 few)))
