-- Laws of the pass that enters the lines.
use Rattle.std.specs.Prelude.{Err}
use mathlib.Core.Path.{◌≡◌, refl, sym, ap, subst, ◌∙◌}
use mathlib.Core.List.{List, ◌++◌}
use Prim.Native.Nat.{ℕ, ◌+◌, ◌-◌, ◌*◌, ◌≤◌, ◌<◌}
use native.Mathlib.Omega.{arith}
use Prim.Native.Nat.{◌^◌}
use mir.Syntax.{w32, w64}
use mir.Val.{Fits}
use lib.ListN.{length, take, drop, set, length-drop, length-set, take-append-drop}
use lib.Seq.{sets, drop-set-add, take-set-le}
use Rattle.lexer.specs.Words.{onto}
use Rattle.tokens.specs.declared.Token.{Token}
use Rattle.parser.specs.declared.Parts.{Parts}
use Rattle.parser.specs.declared.ItemKind.{ItemKind}
use Rattle.parser.specs.declared.ItemKind.TheVariants.{Machine, Kind, Input, Output, Tapes, States, InputAlphabet, TapeAlphabet, Blank, Start, Final, Transition}
use Rattle.parser.specs.declared.Item.{Item}
use Rattle.parser.specs.declared.Failure.{Failure}
use Rattle.parser.specs.Lines.{Answer, Empty, Comment, Read, line, line_end, code_number}
use Rattle.assembler.specs.Rows.{rows}
use Rattle.assembler.specs.Entered.{words_of, flat, item_number, item_entry, failed_entry, counts_of, parts_of, PartsFit, with_parts, enter_as, enter_line, enter_at}
use Rattle.assembler.proofs.Rows.{length-rows}
use Rattle.assembler.proofs.RowWords.{rows-onto, onto-rows, onto-onto, put-onto}
use Rattle.assembler.proofs.Inside.{PartsIn, ItemIn, LineIn, line_in, line_end_in}

-- ---- the parts that functions take
-- ---- stores in a row
-- a store behind the first i tokens
behind-first : (ts : List Token) (i k : ℕ) (t : Token) → take i ts ++ set (drop i ts) k t ≡ set ts (i + k) t
behind-first ts i k t =
    ap (λ (r : List Token). take i ts ++ r) (sym (drop-set-add i ts k t)) ∙ ap (λ (l : List Token). l ++ drop i (set ts (i + k) t)) (sym (take-set-le i ts (i + k) t (omega arith)))
    ∙ take-append-drop i (set ts (i + k) t)

-- one token
put_row : (n i : ℕ) (w v : List ℕ) (t : Token) → 4 * n ≤ length w → i < n → v ≡ sets w (4 * i) (words_of t) → v ≡ onto (flat (set (rows n w) i t)) w
put_row n i w v t h l e =
    e ∙ ap (λ (x : List ℕ). sets x (4 * i) (words_of t)) (sym (onto-rows n w h)) ∙ put-onto (rows n w) w i t (omega (arith, length-rows n w h))

row_after : (n i : ℕ) (w v : List ℕ) (t : Token) → 4 * n ≤ length w → v ≡ onto (flat (set (rows n w) i t)) w → rows n v ≡ set (rows n w) i t
row_after n i w v t h e = ap (rows n) e ∙ rows-onto (set (rows n w) i t) n w (length-set (rows n w) i t ∙ length-rows n w h)

-- a second token over a row that one was stored in
put_more : (n i k : ℕ) (w v u : List ℕ) (a : List Token) (t : Token) → 4 * n ≤ length w → i < n → length a ≡ n → v ≡ onto (flat a) w → u ≡ sets v (4 * i) (words_of t) → u ≡ onto (flat (set a i t)) w
put_more n i k w v u a t h l e p q = q ∙ ap (λ (x : List ℕ). sets x (4 * i) (words_of t)) p ∙ put-onto a w i t (omega arith)

pub parts_put : (n i : ℕ) (w v u : List ℕ) (q : Parts) → 4 * n ≤ length w → i + 3 < n → v ≡ sets w (4 * (i + 1)) (words_of (counts_of q)) → u ≡ sets v (4 * (i + 3)) (words_of (parts_of i q))
    → u ≡ onto (flat (set (set (rows n w) (i + 1) (counts_of q)) (i + 3) (parts_of i q))) w
parts_put n i w v u q h l e d =
    put_more n (i + 3) 0 w v u (set (rows n w) (i + 1) (counts_of q)) (parts_of i q) h l (length-set (rows n w) (i + 1) (counts_of q) ∙ length-rows n w h)
    (put_row n (i + 1) w v (counts_of q) h (omega arith) e) d

-- ---- an item entered
number_low : (k : ItemKind) → item_number k ≤ 11
unfolding item_number
number_low Machine = omega arith
number_low Kind = omega arith
number_low Input = omega arith
number_low Output = omega arith
number_low Tapes = omega arith
number_low States = omega arith
number_low InputAlphabet = omega arith
number_low TapeAlphabet = omega arith
number_low Blank = omega arith
number_low Start = omega arith
number_low Final = omega arith
number_low Transition = omega arith

pub number_fits : (m : ℕ) (k : ItemKind) → m ≡ item_number k → Fits w32 (16 + m)
number_fits m k e = record { fits = omega (arith, number_low k) }

pub entry_of : (i m : ℕ) (x : Item) (w v : List ℕ) → m ≡ item_number x.kind
    → v ≡ sets w (4 * i) (words_of (record { kind = 16 + m; start = x.span.start; end = x.span.end; value = i + x.newline })) → v ≡ sets w (4 * i) (words_of (item_entry i x))
unfolding item_entry
entry_of i m x w v e s = rw (← e) s

pub ruleset items = (number_fits, entry_of)

number-rule : (k : ItemKind) → item_number k ≡ 11 → k ≡ Transition
unfolding item_number
number-rule Machine e = absurd (omega arith)
number-rule Kind e = absurd (omega arith)
number-rule Input e = absurd (omega arith)
number-rule Output e = absurd (omega arith)
number-rule Tapes e = absurd (omega arith)
number-rule States e = absurd (omega arith)
number-rule InputAlphabet e = absurd (omega arith)
number-rule TapeAlphabet e = absurd (omega arith)
number-rule Blank e = absurd (omega arith)
number-rule Start e = absurd (omega arith)
number-rule Final e = absurd (omega arith)
number-rule Transition e = refl

pub rule_number : (k : ItemKind) → k ≡ Transition → item_number k ≡ 11
unfolding item_number
rule_number k e = ap item_number e

pub other_number : (k : ItemKind) → (k ≡ Transition → ⊥) → item_number k ≡ 11 → ⊥
other_number k h e = h (number-rule k e)

-- only a rule has parts
pub parts-other : (k : ItemKind) (i : ℕ) (q : Parts) (ts : List Token) → (item_number k ≡ 11 → ⊥) → with_parts k i q ts ≡ ts
unfolding item_number with_parts
parts-other Machine i q ts h = refl
parts-other Kind i q ts h = refl
parts-other Input i q ts h = refl
parts-other Output i q ts h = refl
parts-other Tapes i q ts h = refl
parts-other States i q ts h = refl
parts-other InputAlphabet i q ts h = refl
parts-other TapeAlphabet i q ts h = refl
parts-other Blank i q ts h = refl
parts-other Start i q ts h = refl
parts-other Final i q ts h = refl
parts-other Transition i q ts h = absurd (h refl)

module _ (n i : ℕ) (w : List ℕ) (room : 4 * n ≤ length w) (low : i < n) (few : n < 2 ^ 31) where
  abbrev rest : List Token
  rest = drop i (rows n w)

  rest-length : length rest ≡ n - i
  rest-length = length-drop i (rows n w) ∙ ap (λ (k : ℕ). k - i) (length-rows n w room)

  -- the line of an item, entered
  module _ (x : Item) (read : line (drop i (rows n w)) 0 ≡ Read x) where
    item-inside : ItemIn rest x
    item-inside = subst (LineIn rest) read (line_in rest)

    pub newline_low : i + x.newline < 2 ^ 32
    newline_low = omega (arith, item-inside.newline, rest-length)

    -- the parts of an item that is a rule are stored
    module _ (m : ℕ) (number : m ≡ item_number x.kind) (rule : m ≡ 11) where
      is_rule : x.kind ≡ Transition
      is_rule = number-rule x.kind (sym number ∙ rule)

      parts-inside : PartsIn rest x.end x.parts
      parts-inside = item-inside.parts is_rule

      pub rule_room : i + 3 < n
      rule_room = omega (arith, item-inside.low, parts-inside.long, rest-length)

      pub rule_fits : PartsFit i x.parts
      rule_fits =
          let p = parts-inside in
          let l = rest-length in
          record {
            reads = omega (arith, p.reads);
            writes = omega (arith, p.writes);
            dirs = omega (arith, p.dirs);
            to = omega (arith, p.to);
            write = omega (arith, p.write);
            dir = omega (arith, p.dir);
          }

    -- the entry of an item is stored
    module _ (v : List ℕ) (stored : v ≡ sets w (4 * i) (words_of (item_entry i x))) where
      with_entry : v ≡ onto (flat (set (rows n w) i (item_entry i x))) w
      with_entry = put_row n i w v (item_entry i x) room low stored

      module _ (m : ℕ) (number : m ≡ item_number x.kind) where
        -- a declaration
        pub item-entered : (m ≡ 11 → ⊥) → v ≡ onto (flat (enter_at i (rows n w))) w
        unfolding enter_line enter_as
        item-entered h =
            let e : i + 0 ≡ i = omega arith in
            let h' : item_number x.kind ≡ 11 → ⊥ = λ z. h (number ∙ z) in
            let one : enter_at i (rows n w) ≡ set (rows n w) i (item_entry i x) =
            ap (λ (l : Answer). take i (rows n w) ++ enter_as l i (drop i (rows n w))) read
            ∙ ap (λ (ts : List Token). take i (rows n w) ++ ts) (parts-other x.kind i x.parts (set (drop i (rows n w)) 0 (item_entry i x)) h')
            ∙ behind-first (rows n w) i 0 (item_entry i x) ∙ ap (λ (k : ℕ). set (rows n w) k (item_entry i x)) e in
            with_entry ∙ ap (λ (ts : List Token). onto (flat ts) w) (sym one)

        -- a rule
        pub rule-entered : (u : List ℕ) → m ≡ 11 → u ≡ onto (flat (set (set (rows n v) (i + 1) (counts_of x.parts)) (i + 3) (parts_of i x.parts))) v → u ≡ onto (flat (enter_at i (rows n w))) w
        unfolding enter_line enter_as with_parts
        rule-entered u rule p =
            let ts : List Token = rows n w in
            let q : Parts = x.parts in
            let a : List Token = set ts i (item_entry i x) in
            let b : List Token = set (set a (i + 1) (counts_of q)) (i + 3) (parts_of i q) in
            let e : i + 0 ≡ i = omega arith in
            let now : rows n v ≡ a = row_after n i w v (item_entry i x) room with_entry in
            let size : length b ≡ length a = length-set (set a (i + 1) (counts_of q)) (i + 3) (parts_of i q) ∙ length-set a (i + 1) (counts_of q) in
            let three : set (set (set (drop i ts) 0 (item_entry i x)) 1 (counts_of q)) 3 (parts_of i q) ≡ drop i b =
            ap (λ (l : List Token). set (set l 1 (counts_of q)) 3 (parts_of i q)) (sym (drop-set-add i ts 0 (item_entry i x)) ∙ ap (λ (k : ℕ). drop i (set ts k (item_entry i x))) e)
            ∙ ap (λ (l : List Token). set l 3 (parts_of i q)) (sym (drop-set-add i a 1 (counts_of q))) ∙ sym (drop-set-add i (set a (i + 1) (counts_of q)) 3 (parts_of i q)) in
            let front : take i ts ≡ take i b =
            sym (take-set-le i (set a (i + 1) (counts_of q)) (i + 3) (parts_of i q) (omega arith) ∙ take-set-le i a (i + 1) (counts_of q) (omega arith) ∙ take-set-le i ts i (item_entry i x) (omega arith)) in
            let all : enter_at i ts ≡ b =
            ap (λ (l : Answer). take i ts ++ enter_as l i (drop i ts)) read ∙ ap (λ (k : ItemKind). take i ts ++ with_parts k i q (set (drop i ts) 0 (item_entry i x))) (is_rule m number rule)
            ∙ ap (λ (l : List Token). take i ts ++ l) three ∙ ap (λ (l : List Token). l ++ drop i b) front ∙ take-append-drop i b in
            p ∙ ap (λ (l : List Token). onto (flat (set (set l (i + 1) (counts_of q)) (i + 3) (parts_of i q))) v) now
            ∙ ap (onto (flat b)) with_entry ∙ onto-onto b a w size ∙ ap (λ (l : List Token). onto (flat l) w) (sym all)

  -- the line of a failure, entered
  module _ (bad : Failure) (read : line (drop i (rows n w)) 0 ≡ Err bad) where
    pub code_fits : Fits w32 (32 + code_number bad.code)
    code_fits = let z : code_number bad.code ≤ 11 = subst (LineIn rest) read (line_in rest) in record { fits = omega arith }

    module _ (m : ℕ) (size : m ≡ line_end (drop i (rows n w)) 0) where
      pub size-sum : Fits w64 (i + m)
      size-sum = record { fits = omega (arith, line_end_in rest, rest-length) }

      pub size_fits : Fits w32 (i + m)
      size_fits = record { fits = omega (arith, line_end_in rest, rest-length) }

      pub failed-entered : (v : List ℕ) (k : ℕ) → k ≡ code_number bad.code → v ≡ sets w (4 * i) (words_of (record { kind = 32 + k; start = bad.span.start; end = bad.span.end; value = i + m })) → v ≡ onto (flat (enter_at i (rows n w))) w
      unfolding enter_line enter_as failed_entry
      failed-entered v k number stored =
          let t : Token = record { kind = 32 + code_number bad.code; start = bad.span.start; end = bad.span.end; value = i + m } in
          let e : i + 0 ≡ i = omega arith in
          let one : enter_at i (rows n w) ≡ set (rows n w) i t =
          ap (λ (l : Answer). take i (rows n w) ++ enter_as l i (drop i (rows n w))) read
          ∙ ap (λ (k : ℕ). take i (rows n w) ++ set (drop i (rows n w)) 0 (failed_entry i (code_number bad.code) bad.span k)) (sym size)
          ∙ behind-first (rows n w) i 0 t ∙ ap (λ (k : ℕ). set (rows n w) k t) e in
          put_row n i w v t room low (rw number at stored) ∙ ap (λ (ts : List Token). onto (flat ts) w) (sym one)

-- ---- a line with nothing to enter
module _ (n i : ℕ) (w : List ℕ) (l : Answer) (read : l ≡ line (drop i (rows n w)) 0) (room : 4 * n ≤ length w) where
  pub blank_entered : l ≡ Empty → w ≡ onto (flat (enter_at i (rows n w))) w
  unfolding enter_line enter_as
  blank_entered e =
      sym (ap (λ (x : Answer). onto (flat (take i (rows n w) ++ enter_as x i (drop i (rows n w)))) w) (sym read ∙ e)
      ∙ ap (λ (ts : List Token). onto (flat ts) w) (take-append-drop i (rows n w)) ∙ onto-rows n w room)

  pub comment-entered : (k : ℕ) → l ≡ Comment k → w ≡ onto (flat (enter_at i (rows n w))) w
  unfolding enter_line enter_as
  comment-entered k e =
      sym (ap (λ (x : Answer). onto (flat (take i (rows n w) ++ enter_as x i (drop i (rows n w)))) w) (sym read ∙ e)
      ∙ ap (λ (ts : List Token). onto (flat ts) w) (take-append-drop i (rows n w)) ∙ onto-rows n w room)

  pub line_is : (x : Answer) → l ≡ x → line (drop i (rows n w)) 0 ≡ x
  line_is x e = sym read ∙ e

pub ruleset failures = (code_fits, size-sum, size_fits)

pub ruleset nothing = (blank_entered, comment-entered)
