-- The rules among the lines of a row: each has an entry of its own, and shows the language's rule line.
use mathlib.Core.Path.{◌≡◌}
use mathlib.Core.Bool.{Bool, true, false}
use mathlib.Core.List.{List, [], ◌∷◌, ◌++◌}
use Rattle.std.specs.Prelude.{Option}
use Prim.Native.Nat.{ℕ}
use native.Mathlib.Omega.{arith}
use borrow.Author.Tests.{eq-eqb, ne_eqb}
use lib.Dec.{eqb}
use Rattle.diag.specs.declared.Span.{Span as Place}
use Rattle.tokens.specs.declared.Token.{Token}
use Rattle.language.specs.Machine.{Located}
use Rattle.language.specs.Lines.{Item, machine_item, input_item, kind_item, output_item, tapes_item, states_item, final_item, input_alphabet_item, tape_alphabet_item, blank_item, start_item, transition_item, Line, blank_line, comment_line, item_line, error_line}
use Rattle.language.specs.Assembly as A
use Rattle.language.proofs.Columns
use Rattle.assembler.specs.Entries.{Entry}
use Rattle.assembler.proofs.Means.{number, ItemMeans, AllMean, no_lines, one_line}
use Rattle.sheet_theorems.proofs.Shows.{MentionsShow, Mentions}

-- the entries of rules, each with its rule line
pub data RulesAt (text : List ℕ) (ts : List Token) : List Entry → List (A.RuleLine Place) → Type 0 where
  no_rules_lem : RulesAt text ts [] []
  no_rule : {e : Entry} {es : List Entry} {rs : List (A.RuleLine Place)} → eqb e.first.kind 27 ≡ false → RulesAt text ts es rs → RulesAt text ts (e ∷ es) rs
  one-rule : {e : Entry} {es : List Entry} {r : A.RuleLine Place} {rs : List (A.RuleLine Place)} → eqb e.first.kind 27 ≡ true → MentionsShow text ts e.at r.raw → RulesAt text ts es rs
      → RulesAt text ts (e ∷ es) (r ∷ rs)

abbrev Comments : Type 0
Comments = List (Located Place (List ℕ))

module _ (text : List ℕ) (X : Entry → Item Place → Type 0) (ts : List Token) (says : (e : Entry) (i : Item Place) → X e i → Mentions text ts e.at i) where
  -- an item before the rest
  item-at : (e : Entry) (es : List Entry) (i : Item Place) (p : Place) → ItemMeans X e i p → (seen : Bool) (old block : Comments) (c : Option (Located Place (List ℕ))) (b : A.Body Place)
      → RulesAt text ts es b.rules → RulesAt text ts (e ∷ es) (A.attach_item (Columns.parts i).rule seen old block p c b).rules
  unfolding A.attach_item A.add_header A.add_rule number
  item-at e es (transition_item r) p m seen old block c b q = one-rule (eq-eqb e.first.kind 27 m.kind) (says e (transition_item r) m.more) q
  item-at e es (machine_item x) p m seen old block c b q = no_rule (ne_eqb e.first.kind 27 (λ z. omega (arith, m.kind))) q
  item-at e es (kind_item x) p m seen old block c b q = no_rule (ne_eqb e.first.kind 27 (λ z. omega (arith, m.kind))) q
  item-at e es (input_item x) p m seen old block c b q = no_rule (ne_eqb e.first.kind 27 (λ z. omega (arith, m.kind))) q
  item-at e es (output_item x) p m seen old block c b q = no_rule (ne_eqb e.first.kind 27 (λ z. omega (arith, m.kind))) q
  item-at e es (tapes_item x) p m seen old block c b q = no_rule (ne_eqb e.first.kind 27 (λ z. omega (arith, m.kind))) q
  item-at e es (states_item x) p m seen old block c b q = no_rule (ne_eqb e.first.kind 27 (λ z. omega (arith, m.kind))) q
  item-at e es (input_alphabet_item x) p m seen old block c b q = no_rule (ne_eqb e.first.kind 27 (λ z. omega (arith, m.kind))) q
  item-at e es (tape_alphabet_item x) p m seen old block c b q = no_rule (ne_eqb e.first.kind 27 (λ z. omega (arith, m.kind))) q
  item-at e es (blank_item x) p m seen old block c b q = no_rule (ne_eqb e.first.kind 27 (λ z. omega (arith, m.kind))) q
  item-at e es (start_item x) p m seen old block c b q = no_rule (ne_eqb e.first.kind 27 (λ z. omega (arith, m.kind))) q
  item-at e es (final_item x) p m seen old block c b q = no_rule (ne_eqb e.first.kind 27 (λ z. omega (arith, m.kind))) q

  attached : (es : List Entry) (ls : List (Line Place)) → AllMean X ts es ls → (seen : Bool) (old block : Comments) → RulesAt text ts es (A.attach seen old block ls).rules
  unfolding A.attach A.at_end
  attached [] [] no_lines true old block = no_rules_lem
  attached [] [] no_lines false old block = no_rules_lem
  attached [] (l ∷ ls) m seen old block = elim m [ ]
  attached (e ∷ es) [] m seen old block = elim m [ ]
  attached (e ∷ es) (blank_line ∷ ls) (one_line h q m r) seen old block = no_rule (ne_eqb e.first.kind 27 (λ z. omega (arith, m))) (attached es ls r seen (old ++ block) [])
  attached (e ∷ es) (comment_line c ∷ ls) (one_line h q m r) seen old block = no_rule (ne_eqb e.first.kind 27 (λ z. omega (arith, m))) (attached es ls r seen old (block ++ c ∷ []))
  attached (e ∷ es) (error_line n p ∷ ls) (one_line h q m r) seen old block = no_rule (ne_eqb e.first.kind 27 (λ z. omega (arith, m.0))) (attached es ls r true [] [])
  attached (e ∷ es) (item_line i p c ∷ ls) (one_line h q m r) seen old block = item-at e es i p m seen old block c (A.attach true [] [] ls) (attached es ls r true [] [])

  pub rules-at : (es : List Entry) (ls : List (Line Place)) → AllMean X ts es ls → RulesAt text ts es (A.body_of ls).rules
  unfolding A.body_of
  rules-at es ls all = attached es ls all false [] []
