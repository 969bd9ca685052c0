-- How many comments, and words of rules, a text without diagnostics has: no more than its tokens allow.
use mathlib.Core.Path.{◌≡◌, refl, ap}
use mathlib.Core.Bool.{Bool, true, false}
use mathlib.Core.List.{List, [], ◌∷◌, ◌++◌}
use Rattle.std.specs.Prelude.{Option, None, Some, option_to_list}
use Prim.Native.Nat.{ℕ, zero, suc, ◌+◌, ◌-◌, ◌*◌, ◌≤◌}
use native.Mathlib.Omega.{arith}
use native.Mathlib.Nat.{mul-le-mul_left, mul-le-mul_right}
use lib.Dec.{eqb}
use lib.ListN.{length, drop, length-append, length-drop}
use Rattle.diag.specs.declared.Span.{Span as Place}
use Rattle.tokens.specs.declared.Token.{Token}
use Rattle.parser.specs.Row.{peek}
use Rattle.language.specs.Machine.{Located}
use Rattle.language.specs.Lines.{RawTransition, Item, machine_item, input_item, kind_item, output_item, tapes_item, states_item, final_item, input_alphabet_item, tape_alphabet_item, blank_item, start_item, transition_item, Line, blank_line, comment_line, item_line, error_line}
use Rattle.language.specs.Assembly as A
use Rattle.language.proofs.Columns
use Rattle.language.specs.Layout as L
use Rattle.language.proofs.Every.{Every}
use Rattle.language.proofs.Counts.{rule_count}
use Rattle.assembler.specs.Entries.{behind}
use Rattle.assembler.proofs.EntriesMean.{lines_end, lines-on}
use Rattle.sheet.specs.Wheels.{members, read_sets}
use Rattle.sheet.specs.Rules.{first_entry, sets_of}
use Rattle.sheet_theorems.proofs.Shows.{Both, no_members, members as more-members, RuleShows, ItemShows, Shown}

-- ---- comments
-- how many comments lead rules
leading : List (A.RuleLine Place) → ℕ
leading [] = 0
leading (r ∷ rs) = length r.leading + leading rs

comments : A.Body Place → ℕ
unfolding leading
comments b = length b.header + length b.trailing + leading b.rules

abbrev Notes : Type 0
Notes = List (Located Place (List ℕ))

end_few : (seen : Bool) (cs : Notes) → comments (A.at_end seen cs) ≤ length cs
unfolding comments leading A.at_end
end_few true cs = omega arith
end_few false cs = omega arith

option_few : (c : Option (Located Place (List ℕ))) → length (option_to_list c) ≤ 1
option_few None = omega arith
option_few (Some c) = omega arith

led_few : (seen : Bool) (old block : Notes) → length (A.unled seen old) + length (A.leads seen old block) ≤ length old + length block
unfolding A.unled A.leads
led_few true old block = omega (arith, length-append old block)
led_few false old block = omega arith

item_few : (r : Option (RawTransition Place)) (seen : Bool) (old block : Notes) (p : Place) (c : Option (Located Place (List ℕ))) (b : A.Body Place)
    → comments (A.attach_item r seen old block p c b) ≤ length old + length block + 1 + comments b
unfolding A.attach_item A.add_header A.add_rule comments leading
item_few None seen old block p c b =
    omega (arith, length-append (old ++ block ++ option_to_list c) b.header, length-append (old ++ block) (option_to_list c), length-append old block, option_few c)
item_few (Some r) seen old block p c b = omega (arith, length-append (A.unled seen old) b.header, led_few seen old block)

attach_few : (seen : Bool) (old block : Notes) (ls : List (Line Place)) → comments (A.attach seen old block ls) ≤ length old + length block + length ls
unfolding A.attach
attach_few seen old block [] = omega (arith, end_few seen (old ++ block), length-append old block)
attach_few seen old block (blank_line ∷ ls) = omega (arith, attach_few seen (old ++ block) [] ls, length-append old block)
attach_few seen old block (comment_line c ∷ ls) = omega (arith, attach_few seen old (block ++ c ∷ []) ls, length-append block (c ∷ []))
attach_few seen old block (error_line n p ∷ ls) = omega (arith, attach_few true [] [] ls)
attach_few seen old block (item_line i p c ∷ ls) = omega (arith, item_few (Columns.parts i).rule seen old block p c (A.attach true [] [] ls), attach_few true [] [] ls)

-- ---- what rules read
sets_few : (n : ℕ) (ts : List Token) → length (read_sets n ts) ≤ length ts
unfolding read_sets
sets_few zero ts = omega arith
sets_few (suc n) [] = omega arith
sets_few (suc n) (t ∷ r) = go (eqb t.kind 6) (sets_few n (drop k r)) (sets_few n (drop 1 r))
  where
    k : ℕ
    k = 2 * length (members r) + 1

    go : (b : Bool) → length (read_sets n (drop k r)) ≤ length (drop k r) → length (read_sets n (drop 1 r)) ≤ length (drop 1 r)
        → length {A = List Token} (elim b [ true ↦ members r ∷ read_sets n (drop k r) | false ↦ (t ∷ []) ∷ read_sets n (drop 1 r) ]) ≤ suc (length r)
    go true h g = omega (arith, length-drop k r)
    go false h g = omega (arith, length-drop 1 r)

both_length : {X Y : Type 0} {R : X → Y → Type 0} {l : List X} {m : List Y} → Both R l m → length l ≡ length m
both_length no_members = refl
both_length (more-members r b) = ap suc (both_length b)

rule_narrow : (ts : List Token) (i : ℕ) (r : RawTransition Place) → RuleShows ts i r → length r.read ≤ length ts
unfolding sets_of
rule_narrow ts i r m =
    omega (arith, both_length m.read, sets_few (peek ts (i + 1)).start (drop (first_entry ts (i + 4)) ts), length-drop (first_entry ts (i + 4)) ts)

abbrev Narrow : ℕ → A.RuleLine Place → Type 0
Narrow n l = length l.raw.read ≤ n

item_narrow : {text : List ℕ} (ts : List Token) (i : ℕ) (k : Item Place) (q : Place) (c o : Option (Located Place (List ℕ))) (p : Place) (seen : Bool) (old block : Notes) (b : A.Body Place) → ItemShows text ts i k q o
    → Every (Narrow (length ts)) b.rules → Every (Narrow (length ts)) (A.attach_item (Columns.parts k).rule seen old block p c b).rules
unfolding A.attach_item A.add_header A.add_rule
item_narrow ts i (transition_item r) q c o p seen old block b m h = (rule_narrow ts i r m.rule, h)
item_narrow ts i (machine_item x) q c o p seen old block b m h = h
item_narrow ts i (kind_item x) q c o p seen old block b m h = h
item_narrow ts i (input_item x) q c o p seen old block b m h = h
item_narrow ts i (output_item x) q c o p seen old block b m h = h
item_narrow ts i (tapes_item x) q c o p seen old block b m h = h
item_narrow ts i (states_item x) q c o p seen old block b m h = h
item_narrow ts i (input_alphabet_item x) q c o p seen old block b m h = h
item_narrow ts i (tape_alphabet_item x) q c o p seen old block b m h = h
item_narrow ts i (blank_item x) q c o p seen old block b m h = h
item_narrow ts i (start_item x) q c o p seen old block b m h = h
item_narrow ts i (final_item x) q c o p seen old block b m h = h

end_narrow : (n : ℕ) (seen : Bool) (cs : Notes) → Every (Narrow n) (A.at_end seen cs).rules
unfolding A.at_end
end_narrow n true cs = tt
end_narrow n false cs = tt

attach_narrow : {text : List ℕ} (ts : List Token) (i : ℕ) (seen : Bool) (old block : Notes) (ls : List (Line Place)) → Shown text ts i ls
    → Every (Narrow (length ts)) (A.attach seen old block ls).rules
unfolding A.attach
attach_narrow ts i seen old block [] (lines_end e) = end_narrow (length ts) seen (old ++ block)
attach_narrow ts i seen old block (blank_line ∷ ls) (lines-on h m s) = attach_narrow ts (i + 1 + behind i (peek ts i)) seen (old ++ block) [] ls s
attach_narrow ts i seen old block (comment_line c ∷ ls) (lines-on h m s) = attach_narrow ts (i + 1 + behind i (peek ts i)) seen old (block ++ c ∷ []) ls s
attach_narrow ts i seen old block (error_line n p ∷ ls) (lines-on h m s) = attach_narrow ts (i + 1 + behind i (peek ts i)) true [] [] ls s
attach_narrow ts i seen old block (item_line k p c ∷ ls) (lines-on h m s) =
    item_narrow ts i k p c c p seen old block (A.attach true [] [] ls) m (attach_narrow ts (i + 1 + behind i (peek ts i)) true [] [] ls s)

lengths_few : (n : ℕ) (rs : List (A.RuleLine Place)) → Every (Narrow n) rs → L.rule_lengths rs ≤ rule_count rs * L.rule_length n 0 + 2 * leading rs
unfolding L.rule_lengths rule_count leading
lengths_few n [] h = omega arith
lengths_few n (r ∷ rs) h =
    let k : ℕ = A.combinations r.raw.read in
    let one : k * (11 + 7 * length r.raw.read + 2 * 0) ≤ k * (11 + 7 * n + 2 * 0) = mul-le-mul_left k (omega (arith, h.0)) in
    omega (arith, one, lengths_few n rs h.1)

-- ---- a text
lines_few : {text : List ℕ} (ts : List Token) (i : ℕ) (ls : List (Line Place)) → Shown text ts i ls → i + length ls ≤ length ts
lines_few ts i [] (lines_end e) = omega arith
lines_few ts i (l ∷ ls) (lines-on h m s) = omega (arith, lines_few ts (i + 1 + behind i (peek ts i)) ls s)

module _ {text : List ℕ} (ts : List Token) (ls : List (Line Place)) (s : Shown text ts 0 ls) where
  pub comments_few : length (A.body_of ls).header + length (A.body_of ls).trailing ≤ length ts
  unfolding A.body_of comments
  comments_few = omega (arith, attach_few false [] [] ls, lines_few ts 0 ls s)

  pub words_few : rule_count (A.body_of ls).rules ≤ 262144 → L.rule_lengths (A.body_of ls).rules ≤ 262144 * (11 + 7 * length ts) + 2 * length ts
  unfolding A.body_of comments
  words_few h =
      let n : ℕ = length ts in
      let all : rule_count (A.body_of ls).rules * (11 + 7 * n + 2 * 0) ≤ 262144 * (11 + 7 * n + 2 * 0) = mul-le-mul_right (11 + 7 * n + 2 * 0) h in
      omega (arith, all, lengths_few n (A.body_of ls).rules (attach_narrow ts 0 false [] [] ls s), attach_few false [] [] ls, lines_few ts 0 ls s)
