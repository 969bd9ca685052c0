-- Each line of an entered row ends at the first line feed from its first token on: entering
-- puts a line feed nowhere, and over none.
use Rattle.std.specs.Prelude.{Err}
use mathlib.Core.Path.{◌≡◌, refl, sym, ap, subst, ◌∙◌}
use mathlib.Core.Bool.{Bool, true, false}
use mathlib.Core.List.{List, [], ◌∷◌, ◌++◌}
use Prim.Native.Nat.{ℕ, zero, suc, ◌+◌, ◌≤◌}
use native.Mathlib.Omega.{arith}
use borrow.Author.Tests.{ne_eqb}
use lib.Dec.{eqb}
use lib.ListN.{length, take, drop, set, length-drop, drop_of_length-le}
use lib.Seq.{get_or-set_other}
use Rattle.diag.proofs.Cases.{by_test_lem}
use Rattle.tokens.specs.declared.Token.{Token}
use Rattle.parser.specs.declared.Parts.{Parts}
use Rattle.parser.specs.declared.ItemKind.{ItemKind}
use Rattle.parser.specs.declared.ItemKind.TheVariants.{Machine, Kind, Input, Output, Tapes, States, InputAlphabet, TapeAlphabet, Blank, Start, Final, Transition}
use Rattle.parser.specs.Row.{peek, ended}
use Rattle.parser.specs.Lines.{Answer, Empty, Comment, Read, line, line_end, line_length, code_number}
use Rattle.assembler.specs.Entries.{behind, entries_from, entries}
use Rattle.assembler.specs.Feeds.{AllFed, Fed}
use Rattle.assembler.specs.Entered.{item_entry, failed_entry, counts_of, parts_of, with_parts, enter_as, enter_line, entered_from, entered}
use Rattle.assembler.proofs.Rows.{entries_skip}
use Rattle.assembler.proofs.Inside.{LineIn, line_in}
use Rattle.assembler.proofs.EnteredLaws.{enter-length, entered-one}
use Rattle.assembler.proofs.EntriesMean.{length_by, end_is, line-behind}

-- ---- a token that is no line feed, stored over one that is none
set_feeds : (ws : List Token) (k : ℕ) (u : Token) → eqb (peek ws k).kind 13 ≡ false → eqb u.kind 13 ≡ false → line_length (set ws k u) ≡ line_length ws
unfolding line_length
set_feeds [] k u e h = refl
set_feeds (w ∷ ws) zero u e h = ap (λ (b : Bool). elim b [ true ↦ 0 | false ↦ suc (line_length ws) ]) (h ∙ sym e)
set_feeds (w ∷ ws) (suc k) u e h = ap (λ (n : ℕ). elim (eqb w.kind 13) [ true ↦ 0 | false ↦ suc n ]) (set_feeds ws k u e h)

parts_feeds : (k : ItemKind) (i : ℕ) (q : Parts) (ws : List Token) → (k ≡ Transition → (eqb (peek ws 1).kind 13 ≡ false) × (eqb (peek ws 3).kind 13 ≡ false)) → line_length (with_parts k i q ws) ≡ line_length ws
unfolding with_parts
parts_feeds Machine i q ws h = refl
parts_feeds Kind i q ws h = refl
parts_feeds Input i q ws h = refl
parts_feeds Output i q ws h = refl
parts_feeds Tapes i q ws h = refl
parts_feeds States i q ws h = refl
parts_feeds InputAlphabet i q ws h = refl
parts_feeds TapeAlphabet i q ws h = refl
parts_feeds Blank i q ws h = refl
parts_feeds Start i q ws h = refl
parts_feeds Final i q ws h = refl
parts_feeds Transition i q ws h =
    let p = h refl in
    let three : peek (set ws 1 (counts_of q)) 3 ≡ peek ws 3 = get_or-set_other ws 1 3 (counts_of q) ended (λ e. absurd (omega arith)) in
    set_feeds (set ws 1 (counts_of q)) 3 (parts_of i q) (ap (λ (t : Token). eqb t.kind 13) three ∙ p.1) refl ∙ set_feeds ws 1 (counts_of q) p.0 refl

-- ---- a line that is entered
as_feeds : (l : Answer) (i : ℕ) (t : Token) (ts : List Token) → LineIn (t ∷ ts) l → eqb t.kind 13 ≡ false → line_length (enter_as l i (t ∷ ts)) ≡ line_length (t ∷ ts)
unfolding enter_as
as_feeds Empty i t ts h e = refl
as_feeds (Comment k) i t ts h e = refl
as_feeds (Read x) i t ts h e =
    parts_feeds x.kind i x.parts (item_entry i x ∷ ts) (λ k. let p = h.parts k in (p.free 1 (omega arith) (omega (arith, p.long)), p.free 3 (omega arith) (omega (arith, p.long))))
    ∙ set_feeds (t ∷ ts) 0 (item_entry i x) e (ne_eqb (item_entry i x).kind 13 (λ z. high z))
  where
    high : (item_entry i x).kind ≡ 13 → ⊥
    high z = omega arith
as_feeds (Err bad) i t ts h e = set_feeds (t ∷ ts) 0 (failed_entry i (code_number bad.code) bad.span (line_end (t ∷ ts) 0)) e (ne_eqb (failed_entry i (code_number bad.code) bad.span (line_end (t ∷ ts) 0)).kind 13 (λ z. high z))
  where
    high : (failed_entry i (code_number bad.code) bad.span (line_end (t ∷ ts) 0)).kind ≡ 13 → ⊥
    high z = omega arith

enter_feeds : (i : ℕ) (t : Token) (ts : List Token) → line_length (enter_line i (t ∷ ts)) ≡ line_length (t ∷ ts)
unfolding enter_line line
enter_feeds i t ts =
    by_test_lem (eqb t.kind 13) (λ y. ap (λ (l : Answer). line_length (enter_as l i (t ∷ ts))) (blank y)) (λ n. as_feeds (line (t ∷ ts) 0) i t ts (line_in (t ∷ ts)) n)
  where
    blank : eqb t.kind 13 ≡ true → line (t ∷ ts) 0 ≡ Empty
    blank y = rw y

-- ---- the rest of the row behind it
front_feeds : (l r : List Token) → (line_length l ≡ length l → r ≡ []) → line_length (take (suc (line_length l)) l ++ r) ≡ line_length l
unfolding line_length
front_feeds [] r h = ap line_length (h refl)
front_feeds (x ∷ l) r h = go (eqb x.kind 13) refl (front_feeds l r)
  where
    go : (b : Bool) → eqb x.kind 13 ≡ b → ((line_length l ≡ length l → r ≡ []) → line_length (take (suc (line_length l)) l ++ r) ≡ line_length l)
        → line_length (take (suc (line_length (x ∷ l))) (x ∷ l) ++ r) ≡ line_length (x ∷ l)
    go true e more = let z : line_length (x ∷ l) ≡ 0 = length_by x l true e in ap (λ (n : ℕ). line_length (take (suc n) (x ∷ l) ++ r)) z ∙ length_by x r true e ∙ sym z
    go false e more =
        let z : line_length (x ∷ l) ≡ suc (line_length l) = length_by x l false e in
        ap (λ (n : ℕ). line_length (take (suc n) (x ∷ l) ++ r)) z ∙ length_by x (take (suc (line_length l)) l ++ r) false e ∙ ap suc (more (λ y. h (z ∙ ap suc y))) ∙ sym z

row_feeds : (i : ℕ) (t : Token) (ts : List Token) → behind i (peek (enter_line i (t ∷ ts)) 0) ≡ line_length (entered_from [] i (t ∷ ts))
unfolding entered_from enter_line
row_feeds i t ts =
    let l : List Token = enter_line i (t ∷ ts) in
    let b : ℕ = behind i (peek l 0) in
    let e : b ≡ line_length l = line-behind i t ts (line (t ∷ ts) 0) (line_in (t ∷ ts)) ∙ end_is (t ∷ ts) ∙ sym (enter_feeds i t ts) in
    let r : List Token = entered_from [] (i + suc b) (drop (suc b) l) in
    let none : line_length l ≡ length l → r ≡ [] = λ z. ap (entered_from [] (i + suc b)) (drop_of_length-le l {i = suc b} (omega arith)) in
    e ∙ sym (front_feeds l r none) ∙ ap (λ (n : ℕ). line_length (take (suc n) l ++ r)) (sym e) ∙ ap line_length (sym (entered-one i t ts))

skip_left : (b i : ℕ) (m ts : List Token) → length m ≡ length ts → drop b (entered_from (take b m) i ts) ≡ entered_from [] (i + b) (drop b ts)
unfolding entered_from
skip_left zero i m ts e = ap (λ (k : ℕ). entered_from [] k ts) (omega arith)
skip_left (suc b) i [] [] e = refl
skip_left (suc b) i [] (t ∷ ts) e = absurd (omega arith)
skip_left (suc b) i (x ∷ m) [] e = absurd (omega arith)
skip_left (suc b) i (x ∷ m) (t ∷ ts) e =
    let z : suc i + b ≡ i + suc b = omega arith in
    skip_left b (suc i) m ts (omega arith) ∙ ap (λ (k : ℕ). entered_from [] k (drop b ts)) z

-- n is at least the number of tokens that are left
all_fed : (n i : ℕ) (ts : List Token) → length ts ≤ n → AllFed (entries_from 0 i (entered_from [] i ts))
unfolding entries_from entered_from
all_fed zero i [] h = tt
all_fed zero i (t ∷ ts) h = absurd (omega arith)
all_fed (suc n) i [] h = tt
all_fed (suc n) i (t ∷ ts) h =
    let l : List Token = enter_line i (t ∷ ts) in
    let b : ℕ = behind i (peek l 0) in
    let m : List Token = drop 1 l in
    let size : length m ≡ length ts = omega (arith, length-drop 1 l, enter-length i (t ∷ ts)) in
    let rest : List Token = entered_from (take b m) (suc i) ts in
    let next : entries_from b (suc i) rest ≡ entries_from 0 (suc i + b) (entered_from [] (suc i + b) (drop b ts)) = entries_skip b (suc i) rest ∙ ap (entries_from 0 (suc i + b)) (skip_left b (suc i) m ts size) in
    (row_feeds i t ts, subst AllFed (sym next) (all_fed n (suc i + b) (drop b ts) (omega (arith, length-drop b ts))))

pub entered_fed : (ts : List Token) → Fed (entered ts)
unfolding entered entries
entered_fed ts = all_fed (length ts) 0 ts (omega arith)
