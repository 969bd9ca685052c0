-- Laws of the words of a rule.
use Rattle.std.proofs.Common.{◌≡◌, ℕ, ◌+◌, ◌*◌, ◌^◌, ◌<◌, ◌≤◌, Bool, true, false, cond, eqb, List, [], ◌∷◌, ◌++◌, map, length, get_or, drop, sym, ap, ◌∙◌, add-one, arith, drop_of_length-le, drop-cons}
use lib.ListN.{length-map}
use Rattle.tokens.specs.declared.Token.{Token}
use Rattle.parser.specs.Row.{peek}
use Rattle.diag.specs.declared.Span.{Span}
use Rattle.language.specs.Layout.{flat}
use Rattle.sheet.specs.declared.rules.Rule.{Rule}
use Rattle.sheet.specs.declared.put.Sheet.{Sheet}
use Rattle.sheet.specs.Puts.{Puts}
use Rattle.sheet.specs.Comments.{text_words, between}
use Rattle.sheet.specs.Rules.{resolve, written, move_of, first_entry, rule_at, tape_words, tapes_words, places_words, head_words, rule_words, Placed}
use Rattle.sheet.proofs.CommentLaws.{between_few}
use Rattle.sheet.proofs.Puts.{puts_as, ◌▹◌, Left, left_on, left_end}

-- ---- a rule's line
pub entry_small : (ts : List Token) (r i : ℕ) → r ≡ first_entry ts i → i < 2 ^ 32 → r ≤ 2 ^ 32
unfolding first_entry
entry_small ts r i e h = go (eqb (peek ts i).kind 4) e
  where
    go : (b : Bool) → r ≡ cond b (i + 1) i → r ≤ 2 ^ 32
    go true f = omega arith
    go false f = omega arith

pub rule_is : (ts : List Token) (i n : ℕ) (q : Token) (w d : ℕ) → q ≡ peek ts (i + 3) → w ≡ first_entry ts q.end → d ≡ first_entry ts q.value
    → record { line = i; to = q.start; write = w; dir = d; tapes = n } ≡ rule_at ts i n
unfolding rule_at
rule_is ts i n q w d e f g = rw (← e, f, g)

-- ---- one tape
pub tape_put : (b : ℕ) (r w d : Token) (x y z : ℕ) (s p : Sheet) → x ≡ resolve b r → y ≡ written b r w → z ≡ move_of d
    → Puts (x ∷ r.start ∷ r.end ∷ y ∷ w.start ∷ w.end ∷ z ∷ []) s p → Puts (tape_words b r w d) s p
unfolding tape_words
tape_put b r w d x y z s p e f g u =
    let same : tape_words b r w d ≡ x ∷ r.start ∷ r.end ∷ y ∷ w.start ∷ w.end ∷ z ∷ [] = rw (e, f, g) in puts_as same u

-- ---- the tapes: what is left from the tape t on
abbrev pub Taping : List Token → ℕ → Rule → List ℕ → Sheet → Sheet → ℕ → Type 0
Taping ts blank r members first now t =
    Left (tapes_words blank ts (r.write + 2 * t) (r.dir + 2 * t) (map (peek ts) (drop t members))) now (tapes_words blank ts r.write r.dir (map (peek ts) members)) first

module _ (ts : List Token) (blank : ℕ) (r : Rule) (members : List ℕ) (first : Sheet) where
  module _ (now : Sheet) (t : ℕ) (g : Taping ts blank r members first now t) where
    pub taping_on : (x w d : Token) (then : Sheet) → t < length members → x ≡ peek ts (get_or members t 0) → w ≡ peek ts (r.write + 2 * t) → d ≡ peek ts (r.dir + 2 * t)
        → Puts (tape_words blank x w d) now then → Taping ts blank r members first then (t + 1)
    unfolding tapes_words
    taping_on x w d then h ex ew ed u =
        let rest : List Token = map (peek ts) (drop (t + 1) members) in
        let e : r.write + 2 * t + 2 ≡ r.write + 2 * (t + 1) = omega arith in
        let f : r.dir + 2 * t + 2 ≡ r.dir + 2 * (t + 1) = omega arith in
        let one : drop t members ≡ get_or members t 0 ∷ drop (t + 1) members =
        drop-cons members t 0 h ∙ ap (λ (k : ℕ). get_or members t 0 ∷ drop k members) (sym (add-one t)) in
        let tape : tape_words blank (peek ts (get_or members t 0)) (peek ts (r.write + 2 * t)) (peek ts (r.dir + 2 * t)) ≡ tape_words blank x w d = rw (ex, ew, ed) in
        left_on
        (ap (λ (l : List ℕ). tapes_words blank ts (r.write + 2 * t) (r.dir + 2 * t) (map (peek ts) l)) one
        ∙ ap (λ (l : List ℕ). l ++ tapes_words blank ts (r.write + 2 * t + 2) (r.dir + 2 * t + 2) rest) tape
        ∙ ap (λ (k : ℕ). tape_words blank x w d ++ tapes_words blank ts k (r.dir + 2 * t + 2) rest) e
        ∙ ap (λ (k : ℕ). tape_words blank x w d ++ tapes_words blank ts (r.write + 2 * (t + 1)) k rest) f)
        g u

    pub taped : length members ≤ t → Puts (tapes_words blank ts r.write r.dir (map (peek ts) members)) first now
    unfolding tapes_words
    taped h =
        let none : drop t members ≡ [] = drop_of_length-le members {i = t} h in
        left_end (ap (λ (l : List ℕ). tapes_words blank ts (r.write + 2 * t) (r.dir + 2 * t) (map (peek ts) l)) none) g

-- ---- a rule up to its tapes
pub head_put : (ts : List Token) (r : Rule) (c : Span) (k : ℕ) (from to line : Token) (s p : Sheet) → from ≡ peek ts (r.line + 2) → to ≡ peek ts r.to → line ≡ peek ts r.line
    → Puts ((11 + 7 * r.tapes + 2 * k) ∷ from.start ∷ from.end ∷ to.start ∷ to.end ∷ line.start ∷ line.end ∷ c.start ∷ c.end ∷ r.tapes ∷ k ∷ []) s p
    → Puts (head_words ts r c r.tapes k) s p
unfolding head_words places_words
head_put ts r c k from to line s p e f g u = rw (← e, ← f, ← g) u

-- ---- a rule
module _ (ts : List Token) (r : Rule) (lead k : ℕ) (leads : k ≡ length (between ts lead r.line)) where
  pub rule-size : (count : ℕ) → length ts ≡ count → Placed count r → 11 + 7 * r.tapes + 2 * k < 2 ^ 32
  rule-size count n p = omega (arith, leads, between_few ts lead r.line, n, p.few, p.small)

  pub rule_put : (blank : ℕ) (c : Span) (members : List ℕ) (s a b e : Sheet) → length members ≡ r.tapes → Puts (head_words ts r c r.tapes k) s a
      → Puts (tapes_words blank ts r.write r.dir (map (peek ts) members)) a b → Puts (flat text_words (between ts lead r.line)) b e
      → Puts (rule_words blank ts r c (between ts lead r.line) (map (peek ts) members)) s e
  unfolding rule_words
  rule_put blank c members s a b e n u v w =
      let arity : length (map (peek ts) members) ≡ r.tapes = length-map members (peek ts) ∙ n in
      let same : head_words ts r c (length (map (peek ts) members)) (length (between ts lead r.line)) ≡ head_words ts r c r.tapes k = rw (arity, ← leads) in
      puts_as same u ▹ (v ▹ w)
