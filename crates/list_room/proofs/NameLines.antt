-- The names in a text's items, and so those that are declared, listed and used by rules, have no more bytes than its words.
use Prim.Native.Nat.{ℕ, ◌+◌, ◌≤◌}
use native.Mathlib.Omega.{arith}
use mathlib.Core.Bool.{Bool, true, false}
use mathlib.Core.List.{List, [], ◌∷◌, ◌++◌, map}
use Rattle.std.specs.Prelude.{Option, None, Some, unwrap_or}
use mathlib.Core.Path.{◌≡◌, refl}
use Rattle.lexer.specs.Tokens.{Token}
use Rattle.language.specs.Machine.{Located}
use Rattle.language.specs.Parser.{Result, ok, fail}
use Rattle.language.specs.Lines.{RawTransition, Item, machine_item, input_item, kind_item, output_item, tapes_item, states_item, final_item, input_alphabet_item, tape_alphabet_item, blank_item, start_item, transition_item, Line, blank_line, comment_line, item_line, error_line, item, Row, Ending, line_feed, goes_by, remark, ending_of, in_front, rows, last_place, finished, empty_line, line_from, line_of, lines}
use Rattle.language.specs.Assembly.{items, first, found, states_in, finals_in, RuleLine, Body, add_header, add_rule, at_end, attach_item, attach, body_of, combinations, verdict, kept}
use Rattle.language.proofs.Columns.{Parts, parts, select}
use Rattle.language.proofs.Every.{Maybe}
use Rattle.language.proofs.Counts.{by_verdict}
use Rattle.list_room.proofs.NameTokens.{total, kind_bytes, word_bytes}
use Rattle.list_room.proofs.NameParsers.{name_bytes, raw_bytes, item_bytes, Paid, item_spends}

-- what is at most m is at most n
more_pays : {A : Type 0} (cost : A → ℕ) (m n : ℕ) (o : Option A) → m ≤ n → Maybe (λ a. cost a ≤ m) o → Maybe (λ a. cost a ≤ n) o
more_pays cost m n None h k = tt
more_pays cost m n (Some a) h k = omega (arith, h, k)

module _ {P : Type 0} where
  -- ---- lines

  abbrev row_bytes : Row P → ℕ
  row_bytes r = word_bytes r.body

  front_pays : (e : Ending) (t : Token P) (rs : List (Row P)) → total row_bytes (in_front e t rs) ≤ kind_bytes t.kind + total row_bytes rs
  unfolding in_front total
  front_pays line_feed t rs = omega arith
  front_pays goes_by t [] = omega arith
  front_pays goes_by t (r ∷ rs) = omega arith
  front_pays (remark s) t [] = omega arith
  front_pays (remark s) t (r ∷ rs) = omega arith

  rows_pay : (ts : List (Token P)) → total row_bytes (rows ts) ≤ word_bytes ts
  unfolding rows total
  rows_pay [] = omega arith
  rows_pay (t ∷ ts) = omega (arith, front_pays (ending_of t.kind) t (rows ts), rows_pay ts)

  -- the bytes of the names in a line's item
  abbrev pub line_bytes : Line P → ℕ
  line_bytes blank_line = 0
  line_bytes (comment_line c) = 0
  line_bytes (item_line i p c) = item_bytes i
  line_bytes (error_line n p) = 0

  finished_pays : (n : ℕ) (p : P) (c : Option (Located P (List ℕ))) (r : Result P (Item P)) → Paid item_bytes n r → line_bytes (finished p c r) ≤ n
  unfolding finished total
  finished_pays n p c (ok i []) h = omega (arith, h)
  finished_pays n p c (ok i (t ∷ ts)) h = omega arith
  finished_pays n p c (fail x q) h = omega arith

  empty_pays : (c : Option (Located P (List ℕ))) → line_bytes (empty_line c) ≤ 0
  unfolding empty_line
  empty_pays None = omega arith
  empty_pays (Some c) = omega arith

  module _ (◌⋯◌ : P → P → P) where
    from_pays : (ts : List (Token P)) (stop : P) (c : Option (Located P (List ℕ))) → line_bytes (line_from ◌⋯◌ ts stop c) ≤ word_bytes ts
    unfolding line_from total
    from_pays [] stop c = empty_pays c
    from_pays (t ∷ ts) stop c =
        let h : line_bytes (line_from ◌⋯◌ (t ∷ ts) stop c) ≤ 0 + word_bytes (t ∷ ts) = finished_pays (0 + word_bytes (t ∷ ts)) (◌⋯◌ t.place (last_place t.place ts)) c (item stop (t ∷ ts)) ((item_spends stop).spends (t ∷ ts)) in
        omega (arith, h)

    of_rows : (rs : List (Row P)) → total line_bytes (map (line_of ◌⋯◌) rs) ≤ total row_bytes rs
    unfolding total line_of
    of_rows [] = omega arith
    of_rows (r ∷ rs) = omega (arith, from_pays r.body r.stop r.comment, of_rows rs)

    pub lines_pay : (ts : List (Token P)) → total line_bytes (lines ◌⋯◌ ts) ≤ word_bytes ts
    unfolding lines
    lines_pay ts = omega (arith, of_rows (rows ts), rows_pay ts)

  -- ---- items

  -- an item's parts take no more than n
  record PartsPay (n : ℕ) (p : Parts P) : Type 0 where
    states_part : Maybe (λ q. total name_bytes q ≤ n) p.states
    start_part : Maybe (λ q. name_bytes q ≤ n) p.start
    finals_part : Maybe (λ q. total name_bytes q ≤ n) p.finals
    rule_part : Maybe (λ r. raw_bytes r ≤ n) p.rule

  none_pay : {n : ℕ} {p : Parts P} → p.states ≡ None → p.start ≡ None → p.finals ≡ None → p.rule ≡ None → PartsPay n p
  none_pay a b c d = record { states_part = rw a tt; start_part = rw b tt; finals_part = rw c tt; rule_part = rw d tt }

  parts_pay : (i : Item P) → PartsPay (item_bytes i) (parts i)
  parts_pay (machine_item x) = none_pay refl refl refl refl
  parts_pay (input_item x) = none_pay refl refl refl refl
  parts_pay (kind_item x) = none_pay refl refl refl refl
  parts_pay (output_item x) = none_pay refl refl refl refl
  parts_pay (tapes_item x) = none_pay refl refl refl refl
  parts_pay (states_item x) = record { states_part = omega arith; start_part = tt; finals_part = tt; rule_part = tt }
  parts_pay (final_item x) = record { states_part = tt; start_part = tt; finals_part = omega arith; rule_part = tt }
  parts_pay (input_alphabet_item x) = none_pay refl refl refl refl
  parts_pay (tape_alphabet_item x) = none_pay refl refl refl refl
  parts_pay (blank_item x) = none_pay refl refl refl refl
  parts_pay (start_item x) = record { states_part = tt; start_part = omega arith; finals_part = tt; rule_part = tt }
  parts_pay (transition_item x) = record { states_part = tt; start_part = tt; finals_part = tt; rule_part = omega arith }

  abbrev located_bytes : Located P (Item P) → ℕ
  located_bytes i = item_bytes i.value

  items_pay : (ls : List (Line P)) → total located_bytes (items ls) ≤ total line_bytes ls
  unfolding items total
  items_pay [] = omega arith
  items_pay (blank_line ∷ ls) = omega (arith, items_pay ls)
  items_pay (comment_line c ∷ ls) = omega (arith, items_pay ls)
  items_pay (error_line n p ∷ ls) = omega (arith, items_pay ls)
  items_pay (item_line i p c ∷ ls) = omega (arith, items_pay ls)

  found_pays : {A : Type 0} (cost : A → ℕ) (part : Parts P → Option A) → ((i : Item P) → Maybe (λ a. cost a ≤ item_bytes i) (part (parts i))) → (is : List (Located P (Item P)))
      → Maybe (λ a. cost a ≤ total located_bytes is) (found (first (select part) is))
  unfolding first found total
  found_pays cost part e [] = tt
  found_pays cost part e (i ∷ is) = by_part (part (parts i.value)) refl (e i.value) (found_pays cost part e is)
    where
      by_part : (o : Option _) → part (parts i.value) ≡ o → Maybe (λ a. cost a ≤ item_bytes i.value) (part (parts i.value)) → Maybe (λ a. cost a ≤ total located_bytes is) (found (first (select part) is))
          → Maybe (λ a. cost a ≤ item_bytes i.value + total located_bytes is) (found (first (select part) (i ∷ is)))
      by_part None q h k = rw (q, first) (more_pays cost (total located_bytes is) (item_bytes i.value + total located_bytes is) (found (first (select part) is)) (omega arith) k)
      by_part (Some a) q h k = rw (q, first) (let g : Maybe (λ a. cost a ≤ item_bytes i.value) (Some a) = rw q at h in omega (arith, g))

  or_none_pays : (n : ℕ) (o : Option (List (Located P (List ℕ)))) → Maybe (λ q. total name_bytes q ≤ n) o → total name_bytes (unwrap_or o []) ≤ n
  unfolding total
  or_none_pays n None h = omega arith
  or_none_pays n (Some q) h = h

  module _ (ls : List (Line P)) where
    pub states_pay : Maybe (λ q. total name_bytes q ≤ total line_bytes ls) (states_in (items ls))
    unfolding states_in
    states_pay = more_pays (total name_bytes) _ _ (found (first (select λ p. p.states) (items ls))) (items_pay ls) (found_pays (total name_bytes) (λ p. p.states) (λ i. (parts_pay i).states_part) (items ls))

    pub start_pays : Maybe (λ q. name_bytes q ≤ total line_bytes ls) (found (first (select λ p. p.start) (items ls)))
    start_pays = more_pays name_bytes _ _ (found (first (select λ p. p.start) (items ls))) (items_pay ls) (found_pays name_bytes (λ p. p.start) (λ i. (parts_pay i).start_part) (items ls))

    pub finals_pay : total name_bytes (finals_in (items ls)) ≤ total line_bytes ls
    unfolding finals_in
    finals_pay = or_none_pays _ (found (first (select λ p. p.finals) (items ls)))
        (more_pays (total name_bytes) _ _ (found (first (select λ p. p.finals) (items ls))) (items_pay ls) (found_pays (total name_bytes) (λ p. p.finals) (λ i. (parts_pay i).finals_part) (items ls)))

  -- ---- rules

  abbrev pub rule_line_bytes : RuleLine P → ℕ
  rule_line_bytes l = raw_bytes l.raw

  item_attached : (n : ℕ) (o : Option (RawTransition P)) (seen : Bool) (old block : List (Located P (List ℕ))) (p : P) (c : Option (Located P (List ℕ))) (b : Body P)
      → Maybe (λ r. raw_bytes r ≤ n) o → total rule_line_bytes (attach_item o seen old block p c b).rules ≤ n + total rule_line_bytes b.rules
  unfolding attach_item add_header add_rule total
  item_attached n None seen old block p c b h = omega arith
  item_attached n (Some r) seen old block p c b h = omega (arith, h)

  end_attached : (seen : Bool) (cs : List (Located P (List ℕ))) → total rule_line_bytes (at_end seen cs).rules ≤ 0
  unfolding at_end total
  end_attached true cs = omega arith
  end_attached false cs = omega arith

  attached_pay : (seen : Bool) (old block : List (Located P (List ℕ))) (ls : List (Line P)) → total rule_line_bytes (attach seen old block ls).rules ≤ total line_bytes ls
  unfolding attach total
  attached_pay seen old block [] = end_attached seen (old ++ block)
  attached_pay seen old block (blank_line ∷ ls) = omega (arith, attached_pay seen (old ++ block) [] ls)
  attached_pay seen old block (comment_line c ∷ ls) = omega (arith, attached_pay seen old (block ++ c ∷ []) ls)
  attached_pay seen old block (error_line n p ∷ ls) = omega (arith, attached_pay true [] [] ls)
  attached_pay seen old block (item_line i p c ∷ ls) =
      omega (arith, item_attached (item_bytes i) (parts i).rule seen old block p c (attach true [] [] ls) (parts_pay i).rule_part, attached_pay true [] [] ls)

  kept_pay : (n : ℕ) (rs : List (RuleLine P)) → total rule_line_bytes (kept n rs) ≤ total rule_line_bytes rs
  unfolding kept total
  kept_pay n [] = omega arith
  kept_pay n (l ∷ ls) = by_verdict (verdict n l.raw)
      (λ e. rw (e, kept) (omega (arith, kept_pay (n + combinations l.raw.read) ls)))
      (λ e. rw (e, kept) (omega (arith, kept_pay n ls)))
      (λ e. rw (e, kept) (omega (arith, kept_pay n ls)))

  pub rules_pay : (ls : List (Line P)) → total rule_line_bytes (kept 0 (body_of ls).rules) ≤ total line_bytes ls
  unfolding body_of
  rules_pay ls = omega (arith, kept_pay 0 (attach false [] [] ls).rules, attached_pay false [] [] ls)
