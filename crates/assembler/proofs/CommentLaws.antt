-- A line feed stands behind each comment of an entered row: it does in the tokens of a text, entering puts a
-- comment nowhere, and nothing over a line feed.
use Rattle.std.specs.Prelude.{Err}
use mathlib.Core.Path.{◌≡◌, refl, sym, subst}
use mathlib.Core.Bool.{Bool, true, false, cond}
use mathlib.Core.List.{List, [], ◌∷◌, map}
use Prim.Native.Nat.{ℕ, zero, suc, ◌≤◌}
use native.Mathlib.Omega.{arith}
use borrow.Author.Tests.{ne_eqb, eqb-true}
use lib.Dec.{eqb}
use lib.ListN.{length, take, drop, set}
use Rattle.diag.proofs.Cases.{by_test_lem}
use Rattle.lexer.specs.Tokens.{TokenKind, word, number, quoted, str, sign, comment, newline, unterminated_string, unterminated_quote, Span, Token as Lexed}
use Rattle.lexer.specs.Words.{kind_number, sign_number}
use Rattle.tokens.specs.declared.Token.{Token}
use Rattle.parser.specs.declared.Parts.{Parts}
use Rattle.parser.specs.declared.ItemKind.{ItemKind}
use Rattle.parser.specs.declared.ItemKind.TheVariants.{Machine, Kind, Input, Output, Tapes, States, InputAlphabet, TapeAlphabet, Blank, Start, Final, Transition}
use Rattle.parser.specs.Row.{peek}
use Rattle.parser.specs.Lines.{Answer, Empty, Comment, Read, line, line_end, code_number}
use Rattle.parser.specs.Meaning.{token_of, Closed, AllLexed}
use Rattle.language.specs.Lines.{line_feed, ending_of}
use Rattle.assembler.specs.Entries.{behind}
use Rattle.assembler.specs.Feeds.{CommentsLast}
use Rattle.assembler.specs.Entered.{item_entry, failed_entry, counts_of, parts_of, with_parts, enter_as, enter_line, entered_from, entered}
use Rattle.assembler.proofs.Inside.{LineIn, line_in}

-- ---- the tokens of a text
low : (b : Bool) (x y : ℕ) → x ≤ 11 → y ≤ 11 → cond b x y ≤ 11
low true x y h g = h
low false x y h g = g

sign_low : (c : ℕ) → sign_number c ≤ 11
unfolding sign_number
sign_low c =
    low (eqb c 0x28) 4 _ (omega arith) (low (eqb c 0x29) 5 _ (omega arith) (low (eqb c 0x7B) 6 _ (omega arith) (low (eqb c 0x7D) 7 _ (omega arith)
    (low (eqb c 0x2C) 8 _ (omega arith) (low (eqb c 0x3D) 9 _ (omega arith) (low (eqb c 0x2A) 10 11 (omega arith) (omega arith)))))))

feed_kind : (k : TokenKind) → ending_of k ≡ line_feed → eqb (kind_number k) 13 ≡ true
unfolding ending_of kind_number
feed_kind newline e = refl
feed_kind (comment s) e = cc
feed_kind (word w) e = cc
feed_kind (number w) e = cc
feed_kind (quoted c) e = cc
feed_kind (str s) e = cc
feed_kind (sign c) e = cc
feed_kind unterminated_string e = cc
feed_kind unterminated_quote e = cc

next_feeds : (k : TokenKind) (ts : List (Lexed Span)) → Closed (ending_of k) ts → eqb (kind_number k) 12 ≡ true → eqb (peek (map token_of ts) 0).kind 13 ≡ true
unfolding ending_of kind_number token_of
next_feeds (comment s) [] c e = absurd c
next_feeds (comment s) (u ∷ us) c e = feed_kind u.kind c
next_feeds newline ts c e = cc
next_feeds (word w) ts c e = cc
next_feeds (number w) ts c e = cc
next_feeds (quoted x) ts c e = cc
next_feeds (str s) ts c e = cc
next_feeds (sign x) ts c e = absurd (omega (arith, sign_low x, eqb-true (sign_number x) 12 e))
next_feeds unterminated_string ts c e = cc
next_feeds unterminated_quote ts c e = cc

pub tokens_last : (ts : List (Lexed Span)) → AllLexed ts → CommentsLast (map token_of ts)
unfolding token_of
tokens_last [] a i e = refl
tokens_last (t ∷ ts) a zero e = next_feeds t.kind ts a.0.closed e
tokens_last (t ∷ ts) a (suc i) e = tokens_last ts a.1 i e

-- ---- a row, and one that has comments only where it has them, and line feeds wherever it has them
abbrev Alike : Token → Token → Type 0
Alike a b = (eqb b.kind 12 ≡ true → eqb a.kind 12 ≡ true) × (eqb a.kind 13 ≡ true → eqb b.kind 13 ≡ true)

abbrev Like : List Token → List Token → Type 0
Like [] [] = Unit {0}
Like [] (b ∷ bs) = ⊥
Like (a ∷ us) [] = ⊥
Like (a ∷ us) (b ∷ bs) = Alike a b × Like us bs

like_refl : (ts : List Token) → Like ts ts
like_refl [] = tt
like_refl (t ∷ ts) = ((λ e. e, λ e. e), like_refl ts)

like_set : (us bs : List Token) (k : ℕ) (u : Token) → Like us bs → eqb (peek us k).kind 13 ≡ false → eqb u.kind 12 ≡ false → Like us (set bs k u)
like_set [] [] k u l h g = tt
like_set [] (b ∷ bs) k u l h g = absurd l
like_set (a ∷ us) [] k u l h g = absurd l
like_set (a ∷ us) (b ∷ bs) zero u l h g = ((λ e. cc, λ e. cc), l.1)
like_set (a ∷ us) (b ∷ bs) (suc k) u l h g = (l.0, like_set us bs k u l.1 h g)

like_take : (n : ℕ) (us bs : List Token) → Like us bs → Like (take (length (take n bs)) us) (take n bs)
like_take zero us bs l = tt
like_take (suc n) [] [] l = tt
like_take (suc n) [] (b ∷ bs) l = absurd l
like_take (suc n) (a ∷ us) [] l = absurd l
like_take (suc n) (a ∷ us) (b ∷ bs) l = (l.0, like_take n us bs l.1)

like_first : (a : Token) (us bs : List Token) → Like (a ∷ us) bs → Alike a (peek bs 0)
like_first a us [] l = absurd l
like_first a us (b ∷ bs) l = l.0

like_rest : (a : Token) (us bs : List Token) → Like (a ∷ us) bs → Like us (drop 1 bs)
like_rest a us [] l = absurd l
like_rest a us (b ∷ bs) l = l.1

like_peek : (us bs : List Token) → Like us bs → (i : ℕ) → Alike (peek us i) (peek bs i)
like_peek [] [] l i = (λ e. e, λ e. e)
like_peek [] (b ∷ bs) l i = absurd l
like_peek (a ∷ us) [] l i = absurd l
like_peek (a ∷ us) (b ∷ bs) l zero = l.0
like_peek (a ∷ us) (b ∷ bs) l (suc i) = like_peek us bs l.1 i

-- ---- a line that is entered
parts_like : (k : ItemKind) (i : ℕ) (q : Parts) (us ws : List Token) → Like us ws → (k ≡ Transition → (eqb (peek us 1).kind 13 ≡ false) × (eqb (peek us 3).kind 13 ≡ false)) → Like us (with_parts k i q ws)
unfolding with_parts
parts_like Machine i q us ws l h = l
parts_like Kind i q us ws l h = l
parts_like Input i q us ws l h = l
parts_like Output i q us ws l h = l
parts_like Tapes i q us ws l h = l
parts_like States i q us ws l h = l
parts_like InputAlphabet i q us ws l h = l
parts_like TapeAlphabet i q us ws l h = l
parts_like Blank i q us ws l h = l
parts_like Start i q us ws l h = l
parts_like Final i q us ws l h = l
parts_like Transition i q us ws l h =
    let p = h refl in
    like_set us (set ws 1 (counts_of q)) 3 (parts_of i q) (like_set us ws 1 (counts_of q) l p.0 refl) p.1 refl

as_like : (l : Answer) (i : ℕ) (t : Token) (ts : List Token) → LineIn (t ∷ ts) l → eqb t.kind 13 ≡ false → Like (t ∷ ts) (enter_as l i (t ∷ ts))
unfolding enter_as
as_like Empty i t ts h e = like_refl (t ∷ ts)
as_like (Comment k) i t ts h e = like_refl (t ∷ ts)
as_like (Read x) i t ts h e =
    parts_like x.kind i x.parts (t ∷ ts) (item_entry i x ∷ ts)
    (like_set (t ∷ ts) (t ∷ ts) 0 (item_entry i x) (like_refl (t ∷ ts)) e (ne_eqb (item_entry i x).kind 12 (λ z. high z)))
    (λ k. let p = h.parts k in (p.free 1 (omega arith) (omega (arith, p.long)), p.free 3 (omega arith) (omega (arith, p.long))))
  where
    high : (item_entry i x).kind ≡ 12 → ⊥
    high z = omega arith
as_like (Err bad) i t ts h e =
    like_set (t ∷ ts) (t ∷ ts) 0 (failed_entry i (code_number bad.code) bad.span (line_end (t ∷ ts) 0)) (like_refl (t ∷ ts)) e (ne_eqb (failed_entry i (code_number bad.code) bad.span (line_end (t ∷ ts) 0)).kind 12 (λ z. high z))
  where
    high : (failed_entry i (code_number bad.code) bad.span (line_end (t ∷ ts) 0)).kind ≡ 12 → ⊥
    high z = omega arith

enter_like : (i : ℕ) (t : Token) (ts : List Token) → Like (t ∷ ts) (enter_line i (t ∷ ts))
unfolding enter_line line
enter_like i t ts =
    by_test_lem (eqb t.kind 13) (λ y. subst (λ (l : Answer). Like (t ∷ ts) (enter_as l i (t ∷ ts))) (sym (blank y)) (like_refl (t ∷ ts)))
    (λ n. as_like (line (t ∷ ts) 0) i t ts (line_in (t ∷ ts)) n)
  where
    blank : eqb t.kind 13 ≡ true → line (t ∷ ts) 0 ≡ Empty
    blank y = rw y

-- ---- all lines
like_from : (ps : List Token) (i : ℕ) (ts : List Token) → Like (take (length ps) ts) ps → Like ts (entered_from ps i ts)
unfolding entered_from
like_from [] i [] h = tt
like_from (p ∷ ps) i [] h = absurd h
like_from (p ∷ ps) i (t ∷ ts) h = (h.0, like_from ps (suc i) ts h.1)
like_from [] i (t ∷ ts) h =
    let l : List Token = enter_line i (t ∷ ts) in
    let e : Like (t ∷ ts) l = enter_like i t ts in
    let left : List Token = take (behind i (peek l 0)) (drop 1 l) in
    (like_first t ts l e, like_from left (suc i) ts (like_take (behind i (peek l 0)) ts (drop 1 l) (like_rest t ts l e)))

pub entered_last : (ts : List Token) → CommentsLast ts → CommentsLast (entered ts)
unfolding entered
entered_last ts f i e =
    let l : Like ts (entered_from [] 0 ts) = like_from [] 0 ts tt in
    (like_peek ts (entered_from [] 0 ts) l (suc i)).1 (f i ((like_peek ts (entered_from [] 0 ts) l i).0 e))
