-- Laws of the row as its lines are entered one after another.
use Rattle.std.specs.Prelude.{Err}
use mathlib.Core.Path.{◌≡◌, refl, sym, ap, subst, ◌∙◌}
use mathlib.Core.List.{List, [], ◌∷◌, ◌++◌, append-nil, append_assoc}
use Prim.Native.Nat.{ℕ, zero, suc, ◌+◌, ◌*◌, ◌≤◌, ◌<◌}
use native.Mathlib.Omega.{arith}
use borrow.Author.Tests.{le-leb}
use lib.ListN.{length, take, drop, set, length-append, length-take, length-drop, length-set, drop_of_length-le}
use native.Mathlib.Nat.{add-zero}
use lib.Seq.{get_or-append-add, drop-set-lt, take-append-add, drop-append-add, length-take-le, drop-cons, take_all}
use Rattle.lexer.specs.Words.{onto}
use Rattle.tokens.specs.declared.Token.{Token}
use Rattle.parser.specs.declared.Parts.{Parts}
use Rattle.parser.specs.declared.ItemKind.{ItemKind}
use Rattle.parser.specs.declared.ItemKind.TheVariants.{Machine, Kind, Input, Output, Tapes, States, InputAlphabet, TapeAlphabet, Blank, Start, Final, Transition}
use Rattle.parser.specs.declared.Item.{Item}
use Rattle.parser.specs.Row.{peek, ended}
use Rattle.parser.specs.Lines.{Answer, Empty, Comment, Read, line, line_end, code_number}
use Rattle.assembler.specs.Rows.{rows}
use Rattle.assembler.specs.Entries.{behind}
use Rattle.assembler.specs.Entered.{flat, item_entry, item_number, failed_entry, counts_of, parts_of, with_parts, enter_as, enter_line, enter_at, entered_from, entered}
use Rattle.assembler.proofs.Rows.{length-rows}
use Rattle.assembler.proofs.RowWords.{rows-onto, onto-rows, onto-onto, length-onto}
use Rattle.assembler.proofs.Inside.{LineIn, line_in}

-- ---- a line that is entered is as long as it was
parts-length : (k : ItemKind) (i : ℕ) (q : Parts) (ts : List Token) → length (with_parts k i q ts) ≡ length ts
unfolding with_parts
parts-length Machine i q ts = refl
parts-length Kind i q ts = refl
parts-length Input i q ts = refl
parts-length Output i q ts = refl
parts-length Tapes i q ts = refl
parts-length States i q ts = refl
parts-length InputAlphabet i q ts = refl
parts-length TapeAlphabet i q ts = refl
parts-length Blank i q ts = refl
parts-length Start i q ts = refl
parts-length Final i q ts = refl
parts-length Transition i q ts = length-set (set ts 1 (counts_of q)) 3 (parts_of i q) ∙ length-set ts 1 (counts_of q)

as_length : (l : Answer) (i : ℕ) (ts : List Token) → length (enter_as l i ts) ≡ length ts
unfolding enter_as
as_length Empty i ts = refl
as_length (Comment k) i ts = refl
as_length (Read x) i ts = parts-length x.kind i x.parts (set ts 0 (item_entry i x)) ∙ length-set ts 0 (item_entry i x)
as_length (Err bad) i ts = length-set ts 0 (failed_entry i (code_number bad.code) bad.span (line_end ts 0))

pub enter-length : (i : ℕ) (ts : List Token) → length (enter_line i ts) ≡ length ts
unfolding enter_line
enter-length i ts = as_length (line ts 0) i ts

-- ---- and nothing behind it changes
-- the parts of a rule stand among its first four tokens
parts-drop : (k : ItemKind) (i : ℕ) (q : Parts) (ts : List Token) (n : ℕ) → (k ≡ Transition → 3 < n) → drop n (with_parts k i q ts) ≡ drop n ts
unfolding with_parts
parts-drop Machine i q ts n h = refl
parts-drop Kind i q ts n h = refl
parts-drop Input i q ts n h = refl
parts-drop Output i q ts n h = refl
parts-drop Tapes i q ts n h = refl
parts-drop States i q ts n h = refl
parts-drop InputAlphabet i q ts n h = refl
parts-drop TapeAlphabet i q ts n h = refl
parts-drop Blank i q ts n h = refl
parts-drop Start i q ts n h = refl
parts-drop Final i q ts n h = refl
parts-drop Transition i q ts n h =
    let l : 3 < n = h refl in
    drop-set-lt n (set ts 1 (counts_of q)) 3 (parts_of i q) l ∙ drop-set-lt n ts 1 (counts_of q) (omega arith)

-- the first token of an item's line is its entry
pub parts_first : (k : ItemKind) (i : ℕ) (q : Parts) (t : Token) (ts : List Token) → peek (with_parts k i q (t ∷ ts)) 0 ≡ t
unfolding with_parts
parts_first Machine i q t ts = refl
parts_first Kind i q t ts = refl
parts_first Input i q t ts = refl
parts_first Output i q t ts = refl
parts_first Tapes i q t ts = refl
parts_first States i q t ts = refl
parts_first InputAlphabet i q t ts = refl
parts_first TapeAlphabet i q t ts = refl
parts_first Blank i q t ts = refl
parts_first Start i q t ts = refl
parts_first Final i q t ts = refl
parts_first Transition i q t ts = refl

-- the tokens behind an item's entry are those up to its line feed
pub entry_behind : (i : ℕ) (x : Item) → behind i (item_entry i x) ≡ x.newline
unfolding behind item_entry
entry_behind i x = rw (le-leb 16 (16 + item_number x.kind) (omega arith)) (omega arith)

as_drop : (l : Answer) (i : ℕ) (t : Token) (ts : List Token) → LineIn (t ∷ ts) l
    → drop (behind i (peek (enter_as l i (t ∷ ts)) 0)) (drop 1 (enter_as l i (t ∷ ts))) ≡ drop (behind i (peek (enter_as l i (t ∷ ts)) 0)) ts
unfolding enter_as
as_drop Empty i t ts h = refl
as_drop (Comment k) i t ts h = refl
as_drop (Read x) i t ts h =
    let e : Token = item_entry i x in
    let l : List Token = with_parts x.kind i x.parts (e ∷ ts) in
    let first : behind i (peek l 0) ≡ x.newline = ap (behind i) (parts_first x.kind i x.parts e ts) ∙ entry_behind i x in
    let long : x.kind ≡ Transition → 3 < suc x.newline = λ k. omega (arith, (h.parts k).long, h.behind) in
    ap (λ (n : ℕ). drop n (drop 1 l)) first ∙ dropped l x.newline ∙ parts-drop x.kind i x.parts (e ∷ ts) (suc x.newline) long ∙ ap (λ (n : ℕ). drop n ts) (sym first)
  where
    dropped : (l : List Token) (n : ℕ) → drop n (drop 1 l) ≡ drop (suc n) l
    dropped [] zero = refl
    dropped [] (suc n) = refl
    dropped (t ∷ l) n = refl
as_drop (Err bad) i t ts h = refl

pub enter-drop : (i : ℕ) (t : Token) (ts : List Token)
    → drop (behind i (peek (enter_line i (t ∷ ts)) 0)) (drop 1 (enter_line i (t ∷ ts))) ≡ drop (behind i (peek (enter_line i (t ∷ ts)) 0)) ts
unfolding enter_line
enter-drop i t ts = as_drop (line (t ∷ ts) 0) i t ts (line_in (t ∷ ts))

-- ---- the rest of the row
left_over : (b i : ℕ) (m ts : List Token) → length m ≡ length ts → entered_from (take b m) i ts ≡ take b m ++ entered_from [] (i + b) (drop b ts)
unfolding entered_from
left_over zero i m ts e = ap (λ (k : ℕ). entered_from [] k ts) (omega arith)
left_over (suc b) i [] [] e = refl
left_over (suc b) i [] (t ∷ ts) e = absurd (omega arith)
left_over (suc b) i (x ∷ m) [] e = absurd (omega arith)
left_over (suc b) i (x ∷ m) (t ∷ ts) e =
    let z : suc i + b ≡ i + suc b = omega arith in
    ap (λ (l : List Token). x ∷ l) (left_over b (suc i) m ts (omega arith) ∙ ap (λ (k : ℕ). take b m ++ entered_from [] k (drop b ts)) z)

-- one line more
pub entered-one : (i : ℕ) (t : Token) (ts : List Token)
    → entered_from [] i (t ∷ ts)
    ≡ take (suc (behind i (peek (enter_line i (t ∷ ts)) 0))) (enter_line i (t ∷ ts))
    ++ entered_from [] (i + suc (behind i (peek (enter_line i (t ∷ ts)) 0))) (drop (suc (behind i (peek (enter_line i (t ∷ ts)) 0))) (enter_line i (t ∷ ts)))
unfolding entered_from
entered-one i t ts = go (enter_line i (t ∷ ts)) (enter-length i (t ∷ ts)) (enter-drop i t ts)
  where
    go : (l : List Token) → length l ≡ suc (length ts) → drop (behind i (peek l 0)) (drop 1 l) ≡ drop (behind i (peek l 0)) ts
        → peek l 0 ∷ entered_from (take (behind i (peek l 0)) (drop 1 l)) (suc i) ts
        ≡ take (suc (behind i (peek l 0))) l ++ entered_from [] (i + suc (behind i (peek l 0))) (drop (suc (behind i (peek l 0))) l)
    go [] e d = absurd (omega arith)
    go (x ∷ l) e d =
        let b : ℕ = behind i x in
        let z : suc i + b ≡ i + suc b = omega arith in
        ap (λ (r : List Token). x ∷ r)
        (left_over b (suc i) l ts (omega arith) ∙ ap (λ (k : ℕ). take b l ++ entered_from [] k (drop b ts)) z ∙ ap (λ (r : List Token). take b l ++ entered_from [] (i + suc b) r) (sym d))

-- ---- the pass has come to the line at the index i
abbrev through : ℕ → List Token → List Token
through i ts = take i ts ++ entered_from [] i (drop i ts)

through_start : (ts : List Token) → through 0 ts ≡ entered ts
unfolding entered
through_start ts = refl

through_end : (i : ℕ) (ts : List Token) → length ts ≤ i → through i ts ≡ ts
unfolding entered_from
through_end i ts h = ap (λ (r : List Token). take i ts ++ entered_from [] i r) (drop_of_length-le ts {i = i} h) ∙ append-nil (take i ts) ∙ take_all i ts h

through_step : (i : ℕ) (ts : List Token) → i < length ts → through (i + 1 + behind i (peek (enter_at i ts) i)) (enter_at i ts) ≡ through i ts
through_step i ts h =
    let a : List Token = take i ts in
    let la : length a ≡ i = length-take-le i ts (omega arith) in
    let rest : drop i ts ≡ peek ts i ∷ drop (suc i) ts = drop-cons ts i ended h in
    let l : List Token = enter_line i (drop i ts) in
    let first : peek (a ++ l) i ≡ peek l 0 = ap (λ (k : ℕ). peek (a ++ l) k) (sym la ∙ sym (add-zero (length a))) ∙ get_or-append-add a l 0 ended in
    let b : ℕ = behind i (peek l 0) in
    let next : i + 1 + behind i (peek (a ++ l) i) ≡ length a + suc b = ap (λ (t : Token). i + 1 + behind i t) first ∙ omega (arith, la) in
    let one : entered_from [] i (drop i ts) ≡ take (suc b) l ++ entered_from [] (i + suc b) (drop (suc b) l) =
    subst (λ (r : List Token). entered_from [] i r ≡ take (suc (behind i (peek (enter_line i r) 0))) (enter_line i r) ++ entered_from [] (i + suc (behind i (peek (enter_line i r) 0))) (drop (suc (behind i (peek (enter_line i r) 0))) (enter_line i r)))
    (sym rest) (entered-one i (peek ts i) (drop (suc i) ts)) in
    ap (λ (k : ℕ). through k (a ++ l)) next
    ∙ ap (λ (x : List Token). x ++ entered_from [] (length a + suc b) (drop (length a + suc b) (a ++ l))) (take-append-add a l (suc b))
    ∙ ap (λ (x : List Token). (a ++ take (suc b) l) ++ entered_from [] (length a + suc b) x) (drop-append-add a l (suc b))
    ∙ append_assoc a (take (suc b) l) (entered_from [] (length a + suc b) (drop (suc b) l))
    ∙ ap (λ (k : ℕ). a ++ (take (suc b) l ++ entered_from [] (k + suc b) (drop (suc b) l))) la
    ∙ ap (λ (x : List Token). a ++ x) (sym one)

pub record Entering (count : ℕ) (w₀ w : List ℕ) (i : ℕ) : Type 0 where
  pub words : w ≡ onto (flat (rows count w)) w₀
  pub whole : take i (rows count w) ++ entered_from [] i (drop i (rows count w)) ≡ entered (rows count w₀)
  pub size : length w ≡ length w₀

pub entering_start : (count : ℕ) (w : List ℕ) → 4 * count ≤ length w → Entering count w w 0
entering_start count w h = record { words = sym (onto-rows count w h); whole = through_start (rows count w); size = refl }

module _ (count : ℕ) (w₀ w : List ℕ) (i : ℕ) (p : Entering count w₀ w i) (room : 4 * count ≤ length w₀) where
  pub entering_on : (v : List ℕ) (t : Token) (j : ℕ) → i < count → v ≡ onto (flat (enter_at i (rows count w))) w → t ≡ peek (rows count v) i → j ≡ i + 1 + behind i t → Entering count w₀ v j
  entering_on v t j h e et ej =
      let ts : List Token = rows count w in
      let here : length ts ≡ count = length-rows count w (omega (arith, p.size)) in
      let l : List Token = enter_at i ts in
      let len : length l ≡ count = omega (arith, length-append (take i ts) (enter_line i (drop i ts)), enter-length i (drop i ts), length-take i ts, length-drop i ts) in
      let now : rows count v ≡ l = ap (rows count) e ∙ rows-onto l count w len in
      let next : i + 1 + behind i (peek l i) ≡ j = ap (λ (t : Token). i + 1 + behind i t) (sym (et ∙ ap (λ (r : List Token). peek r i) now)) ∙ sym ej in
      record {
        words = e ∙ ap (onto (flat l)) p.words ∙ onto-onto l ts w₀ (len ∙ sym here) ∙ ap (λ (r : List Token). onto (flat r) w₀) (sym now);
        whole = ap (through j) now ∙ ap (λ (k : ℕ). through k l) (sym next) ∙ through_step i ts (omega arith) ∙ p.whole;
        size = ap length e ∙ length-onto l w (omega (arith, p.size)) ∙ p.size;
      }

  pub entering_end : count ≤ i → w ≡ onto (flat (entered (rows count w₀))) w₀
  entering_end h =
      let here : length (rows count w) ≡ count = length-rows count w (omega (arith, p.size)) in
      p.words ∙ ap (λ (r : List Token). onto (flat r) w₀) (sym (through_end i (rows count w) (omega arith)) ∙ p.whole)
