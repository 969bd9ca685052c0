-- What holds of each line's names, strings and comments holds of the rules, the comments and the machine that they make.
use Prim.Native.Nat.{ℕ}
use mathlib.Core.Bool.{Bool, true, false, ◌||◌}
use mathlib.Core.List.{List, [], ◌∷◌, ◌++◌}
use Rattle.std.specs.Prelude.{Option, None, Some, unwrap_or, option_to_list}
use mathlib.Core.Path.{◌≡◌, refl, sym, subst}
use Rattle.language.specs.Machine.{Located, Rule, Machine}
use Rattle.language.specs.Lines.{RawSymbol, RawTransition, Text, Item, machine_item, input_item, kind_item, output_item, tapes_item, states_item, final_item, input_alphabet_item, tape_alphabet_item, blank_item, start_item, transition_item, Line, blank_line, comment_line, item_line, error_line}
use Rattle.language.specs.Assembly.{items, first, found, blank_of, states_in, finals_in, RuleLine, Body, add_header, add_rule, at_end, leads, unled, attach_item, attach, body_of, kept, choices, rule_of, dressed, expand, expand_all}
use Rattle.language.proofs.Columns.{Parts, parts, select}
use Rattle.language.specs.Infer.{same_name, member, fresh, nothing, mentions, infer_states, marked, head, between, machine_of}
use Rattle.language.proofs.Every.{by_test, Every, Maybe, every_append, every_any, every_map}
use Rattle.language.proofs.ParseHolds.{Goods, GoodRaw, GoodDecoder, GoodItem, GoodLine}
use Rattle.language.proofs.Counts.{kept_every}

module _ {P : Type 0} (S : Goods P) where
  -- ---- declarations

  -- what an item has in its columns
  pub record GoodParts (p : Parts P) : Type 0 where
    pub machine-part : Maybe (λ x. S.text x.value) p.machine
    pub input_part : Maybe (λ x. S.text x.value) p.input
    pub output-part : Maybe (GoodDecoder S) p.output
    pub states-part : Maybe (Every S.name) p.states
    pub sigma-part : Maybe (Every (λ s. S.sym s.value)) p.sigma
    pub gamma-part : Maybe (Every (λ s. S.sym s.value)) p.gamma
    pub blank_part : Maybe S.sym p.blank
    pub start-part : Maybe S.name p.start
    pub finals-part : Maybe (Every S.name) p.finals
    pub rule-part : Maybe (GoodRaw S) p.rule

  good_parts : {p : Parts P} → Maybe (λ x. S.text x.value) p.machine → Maybe (λ x. S.text x.value) p.input → Maybe (GoodDecoder S) p.output → Maybe (Every S.name) p.states
      → Maybe (Every (λ s. S.sym s.value)) p.sigma → Maybe (Every (λ s. S.sym s.value)) p.gamma → Maybe S.sym p.blank → Maybe S.name p.start → Maybe (Every S.name) p.finals
      → Maybe (GoodRaw S) p.rule → GoodParts p
  good_parts a b c d e f g h i j = record {
    machine-part = a;
    input_part = b;
    output-part = c;
    states-part = d;
    sigma-part = e;
    gamma-part = f;
    blank_part = g;
    start-part = h;
    finals-part = i;
    rule-part = j;
  }

  parts_good : (i : Item P) → GoodItem S i → GoodParts (parts i)
  parts_good (machine_item x) h = good_parts h tt tt tt tt tt tt tt tt tt
  parts_good (input_item x) h = good_parts tt h tt tt tt tt tt tt tt tt
  parts_good (kind_item x) h = good_parts tt tt tt tt tt tt tt tt tt tt
  parts_good (output_item x) h = good_parts tt tt h tt tt tt tt tt tt tt
  parts_good (tapes_item x) h = good_parts tt tt tt tt tt tt tt tt tt tt
  parts_good (states_item x) h = good_parts tt tt tt h tt tt tt tt tt tt
  parts_good (input_alphabet_item x) h = good_parts tt tt tt tt h tt tt tt tt tt
  parts_good (tape_alphabet_item x) h = good_parts tt tt tt tt tt h tt tt tt tt
  parts_good (blank_item x) h = good_parts tt tt tt tt tt tt h tt tt tt
  parts_good (start_item x) h = good_parts tt tt tt tt tt tt tt h tt tt
  parts_good (final_item x) h = good_parts tt tt tt tt tt tt tt tt h tt
  parts_good (transition_item x) h = good_parts tt tt tt tt tt tt tt tt tt h

  pub items_good : (ls : List (Line P)) → Every (GoodLine S) ls → Every (λ i. GoodItem S i.value) (items ls)
  unfolding items
  items_good [] g = tt
  items_good (blank_line ∷ ls) g = items_good ls g.1
  items_good (comment_line c ∷ ls) g = items_good ls g.1
  items_good (error_line n p ∷ ls) g = items_good ls g.1
  items_good (item_line i p c ∷ ls) g = (g.0.0, items_good ls g.1)

  -- what is found first is good if every item's part is
  pub found_good : {A : Type 0} (good : A → Type 0) (part : Parts P → Option A) → ((p : Parts P) → GoodParts p → Maybe good (part p)) → (is : List (Located P (Item P)))
      → Every (λ i. GoodItem S i.value) is → Maybe good (found (first (select part) is))
  unfolding first found
  found_good good part e [] g = tt
  found_good good part e (i ∷ is) g = by_part (part (parts i.value)) refl (e (parts i.value) (parts_good i.value g.0)) (found_good good part e is g.1)
    where
      by_part : (o : Option _) → part (parts i.value) ≡ o → Maybe good (part (parts i.value)) → Maybe good (found (first (select part) is)) → Maybe good (found (first (select part) (i ∷ is)))
      by_part None q h k = rw (q, first) k
      by_part (Some a) q h k = rw (q, first) (subst (Maybe good) q h)

  -- ---- rules and comments

  abbrev Notes : List (Located P (List ℕ)) → Type 0
  Notes cs = Every S.note cs

  pub record GoodRuleLine (l : RuleLine P) : Type 0 where
    pub raw_good : GoodRaw S l.raw
    pub comment_good : Maybe S.note l.comment
    pub leading_good : Notes l.leading

  pub record GoodBody (b : Body P) : Type 0 where
    pub header_good : Notes b.header
    pub rules_good : Every GoodRuleLine b.rules
    pub trailing_good : Notes b.trailing

  option_notes : (c : Option (Located P (List ℕ))) → Maybe S.note c → Notes (option_to_list c)
  option_notes None h = tt
  option_notes (Some c) h = (h, tt)

  leads_notes : (seen : Bool) (old block : List (Located P (List ℕ))) → Notes old → Notes block → Notes (leads seen old block)
  unfolding leads
  leads_notes true old block h k = every_append S.note old block h k
  leads_notes false old block h k = k

  unled_notes : (seen : Bool) (old : List (Located P (List ℕ))) → Notes old → Notes (unled seen old)
  unfolding unled
  unled_notes true old h = tt
  unled_notes false old h = h

  end_good : (seen : Bool) (cs : List (Located P (List ℕ))) → Notes cs → GoodBody (at_end seen cs)
  unfolding at_end
  end_good true cs h = record { header_good = tt; rules_good = tt; trailing_good = h }
  end_good false cs h = record { header_good = h; rules_good = tt; trailing_good = tt }

  header_added : (cs : List (Located P (List ℕ))) (b : Body P) → Notes cs → GoodBody b → GoodBody (add_header cs b)
  unfolding add_header
  header_added cs b h g = record { header_good = every_append S.note cs b.header h g.header_good; rules_good = g.rules_good; trailing_good = g.trailing_good }

  item_good : (o : Option (RawTransition P)) (seen : Bool) (old block : List (Located P (List ℕ))) (p : P) (c : Option (Located P (List ℕ))) (b : Body P)
      → Maybe (GoodRaw S) o → Notes old → Notes block → Maybe S.note c → GoodBody b → GoodBody (attach_item o seen old block p c b)
  unfolding attach_item add_rule
  item_good None seen old block p c b r h k n g =
      header_added (old ++ block ++ option_to_list c) b (every_append S.note (old ++ block) (option_to_list c) (every_append S.note old block h k) (option_notes c n)) g
  item_good (Some raw) seen old block p c b r h k n g =
      header_added (unled seen old) (add_rule (record { raw = raw; line = p; comment = c; leading = leads seen old block }) b) (unled_notes seen old h) (record {
        header_good = g.header_good;
        rules_good = (record { raw_good = r; comment_good = n; leading_good = leads_notes seen old block h k }, g.rules_good);
        trailing_good = g.trailing_good;
      })

  attach_good : (seen : Bool) (old block : List (Located P (List ℕ))) (ls : List (Line P)) → Notes old → Notes block → Every (GoodLine S) ls → GoodBody (attach seen old block ls)
  unfolding attach
  attach_good seen old block [] h k g = end_good seen (old ++ block) (every_append S.note old block h k)
  attach_good seen old block (blank_line ∷ ls) h k g = attach_good seen (old ++ block) [] ls (every_append S.note old block h k) tt g.1
  attach_good seen old block (comment_line c ∷ ls) h k g = attach_good seen old (block ++ c ∷ []) ls h (every_append S.note block (c ∷ []) k (g.0, tt)) g.1
  attach_good seen old block (error_line n p ∷ ls) h k g = attach_good true [] [] ls tt tt g.1
  attach_good seen old block (item_line i p c ∷ ls) h k g =
      item_good (parts i).rule seen old block p c (attach true [] [] ls) (parts_good i g.0.0).rule-part h k g.0.1 (attach_good true [] [] ls tt tt g.1)

  -- the rules and comments of good lines are good
  pub body_good : (ls : List (Line P)) → Every (GoodLine S) ls → GoodBody (body_of ls)
  unfolding body_of
  body_good ls g = attach_good false [] [] ls tt tt g

  -- ---- inference

  fresh_good : (known : Located P (List ℕ) → Bool) (l : List (Located P (List ℕ))) → Every S.name l → Every S.name (fresh same_name known l)
  unfolding fresh
  fresh_good known [] h = tt
  fresh_good known (x ∷ l) h = by_test (known x) (λ e. rw (e, fresh) (fresh_good known l h.1)) (λ e. rw (e, fresh) (h.0, fresh_good (λ y. same_name x y || known y) l h.1))

  marked_good : (final known : Located P (List ℕ) → Bool) (l : List (Located P (List ℕ))) → Every S.name l → Every (λ s. S.name s.name) (marked final known l)
  unfolding marked
  marked_good final known [] h = tt
  marked_good final known (q ∷ l) h = (h.0, marked_good final (λ y. same_name q y || known y) l h.1)

  -- a rule's names and comments
  pub record GoodRuleOf (r : Rule P) : Type 0 where
    pub from_good : S.name r.from
    pub to_good : S.name r.to
    pub comment_good : Maybe S.note r.comment
    pub leading_good : Notes r.leading

  dressed_good : (b : ℕ) (l : RuleLine P) (cs : List (List (Located P RawSymbol))) → GoodRuleLine l → Every GoodRuleOf (dressed b l cs)
  unfolding dressed rule_of
  dressed_good b l [] g = tt
  dressed_good b l (c ∷ cs) g = (
    record { from_good = g.raw_good.from_good; to_good = g.raw_good.to_good; comment_good = g.comment_good; leading_good = g.leading_good },
    every_map (λ c. Unit {0}) GoodRuleOf (rule_of b l None []) (λ c _. record { from_good = g.raw_good.from_good; to_good = g.raw_good.to_good; comment_good = tt; leading_good = tt }) cs (every_any (λ c. Unit {0}) (λ c. tt) cs),
  )

  expand_good : (b : ℕ) (ls : List (RuleLine P)) → Every GoodRuleLine ls → Every GoodRuleOf (expand_all b ls)
  unfolding expand_all expand
  expand_good b [] g = tt
  expand_good b (l ∷ ls) g = every_append GoodRuleOf (expand b l) (expand_all b ls) (dressed_good b l (choices l.raw.read) g.0) (expand_good b ls g.1)

  mentions_good : (rs : List (Rule P)) → Every GoodRuleOf rs → Every S.name (mentions rs)
  unfolding mentions
  mentions_good [] g = tt
  mentions_good (r ∷ rs) g = (g.0.from_good, (g.0.to_good, mentions_good rs g.1))

  option_names : (o : Option (Located P (List ℕ))) → Maybe S.name o → Every S.name (option_to_list o)
  option_names None h = tt
  option_names (Some q) h = (h, tt)

  else_good : {A : Type 0} (good : A → Type 0) (o : Option A) (a : A) → Maybe good o → good a → good (unwrap_or o a)
  else_good good None a h k = k
  else_good good (Some b) a h k = h

  head_good : (l : List (Located P (List ℕ))) → Every S.name l → Maybe S.name (head l)
  unfolding head
  head_good [] h = tt
  head_good (q ∷ l) h = h.0

  between_good : (o : Option (Text P)) → Maybe (λ x. S.text x.value) o → Maybe S.text (between o)
  unfolding between
  between_good None h = tt
  between_good (Some x) h = h

  -- a machine's strings, names and comments
  pub record GoodMachine (m : Machine P) : Type 0 where
    pub name_good : Maybe S.text m.name
    pub input_good : Maybe S.text m.input
    pub start_good : Maybe S.name m.start
    pub states_good : Every (λ s. S.name s.name) m.states
    pub header_good : Notes m.header
    pub trailing_good : Notes m.trailing
    pub rules_good : Every GoodRuleOf m.rules

  pub kept_good : (ls : List (Line P)) → Every (GoodLine S) ls → Every GoodRuleLine (kept 0 (body_of ls).rules)
  kept_good ls g = kept_every GoodRuleLine GoodRuleLine (λ n l h e. h) 0 (body_of ls).rules (body_good ls g).rules_good

  -- the machine of good lines is good
  pub machine_good : (ls : List (Line P)) → Every (GoodLine S) ls → GoodMachine (machine_of ls)
  unfolding machine_of states_in finals_in infer_states
  machine_good ls g =
      let is : List (Located P (Item P)) = items ls in
      let gi : Every (λ i. GoodItem S i.value) is = items_good ls g in
      let rules : List (Rule P) = expand_all (blank_of is) (kept 0 (body_of ls).rules) in
      let gr : Every GoodRuleOf rules = expand_good (blank_of is) (kept 0 (body_of ls).rules) (kept_good ls g) in
      let start : Option (Located P (List ℕ)) = found (first (select λ p. p.start) is) in
      let gs : Maybe S.name start = found_good S.name (λ p. p.start) (λ p k. k.start-part) is gi in
      let finals : List (Located P (List ℕ)) = fresh same_name nothing (finals_in is) in
      let gf : Every S.name finals = fresh_good nothing (finals_in is) (else_good (Every S.name) (found (first (select λ p. p.finals) is)) [] (found_good (Every S.name) (λ p. p.finals) (λ p k. k.finals-part) is gi) tt) in
      let mentioned : List (Located P (List ℕ)) = option_to_list start ++ mentions rules ++ finals in
      let gm : Every S.name mentioned = every_append S.name (option_to_list start ++ mentions rules) finals (every_append S.name (option_to_list start) (mentions rules) (option_names start gs) (mentions_good rules gr)) gf in
      let names : List (Located P (List ℕ)) = unwrap_or (states_in is) (infer_states start rules finals) in
      let gn : Every S.name names = else_good (Every S.name) (states_in is) (infer_states start rules finals) (found_good (Every S.name) (λ p. p.states) (λ p k. k.states-part) is gi) (fresh_good nothing mentioned gm) in
      record {
        name_good = between_good (found (first (select λ p. p.machine) is)) (found_good (λ x. S.text x.value) (λ p. p.machine) (λ p k. k.machine-part) is gi);
        input_good = between_good (found (first (select λ p. p.input) is)) (found_good (λ x. S.text x.value) (λ p. p.input) (λ p k. k.input_part) is gi);
        start_good = head_good (option_to_list start ++ names) (every_append S.name (option_to_list start) names (option_names start gs) gn);
        states_good = marked_good (member same_name finals) nothing names gn;
        header_good = (body_good ls g).header_good;
        trailing_good = (body_good ls g).trailing_good;
        rules_good = gr;
      }
