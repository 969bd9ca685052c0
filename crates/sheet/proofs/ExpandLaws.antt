-- Laws of the expansion: the inner loop turns the wheels from the last, the outer writes the rule of each choice.
use Rattle.std.proofs.Common.{◌≡◌, ℕ, zero, suc, ◌+◌, ◌*◌, ◌^◌, ◌<◌, ◌≤◌, Bool, true, false, cond, eqb, List, [], ◌∷◌, ◌++◌, map, length, take, drop, sym, refl, ap, ◌∙◌, add-one, arith, length-take-le, drop_of_length-le, drop-cons, drop-drop, le-ltb, lt-ltb}
use Rattle.std.specs.Prelude.{None, Some}
use lib.ListN.{length-map}
use native.Mathlib.Decide.{dec_lt}
use Rattle.tokens.specs.declared.Token.{Token}
use Rattle.parser.specs.Row.{ended, peek}
use Rattle.diag.specs.declared.Span.{Span}
use Rattle.language.specs.Assembly.{choices}
use Rattle.language.specs.Layout.{flat, no_place}
use Rattle.sheet.specs.declared.rules.Rule.{Rule}
use Rattle.sheet.specs.declared.put.Sheet.{Sheet}
use Rattle.sheet.specs.Puts.{Puts}
use Rattle.sheet.specs.Comments.{between}
use Rattle.sheet.specs.Turns.{rest, full, left, turned, later}
use Rattle.sheet.specs.Wheels.{members, read_sets, first_member, goes_on, next_entry, entries_of, wheel, choices_behind}
use Rattle.sheet.specs.Rules.{first_entry, rule_at, sets_of, own_place, rule_words, Placed, entries_read, dressed, expanded}
use Rattle.sheet.proofs.Puts.{puts_as, ◌▹◌, Left, left_on, left_end}
use Rattle.sheet.proofs.Turns.{left-all, left_turned}
use Rattle.sheet.proofs.CommentLaws.{between_none}
use Rattle.sheet.proofs.WheelLaws.{members_step}

-- ---- entries are wheels
pub wheels_are : (ts : List Token) (e c : ℕ) → (wheel ts).from e c ≡ (wheel ts).value c ∷ rest (wheel ts) e c
unfolding goes_on
wheels_are ts e c = go (eqb (peek ts e).kind 6)
  where
    go : (b : Bool) → cond b (members (drop c ts)) (peek ts c ∷ [])
        ≡ peek ts c ∷ cond (cond b (eqb (peek ts (c + 1)).kind 8) false) (cond b (members (drop (c + 2) ts)) (peek ts (c + 2) ∷ [])) []
    go true = members_step ts c
    go false = refl

-- the present choice, and those behind it
pub choices-on : (ts : List Token) (es cs : List ℕ) → length cs ≡ length es → left (wheel ts) es cs ≡ map (peek ts) cs ∷ choices_behind ts es cs
unfolding choices_behind
choices-on ts es cs h = left_turned (wheel ts) (wheels_are ts) es cs h

-- ---- what is left to store are the rules of the choices behind the one at which the wheels stand
abbrev pub plain : ℕ → List Token → Rule → List Token → List ℕ
plain blank ts r = rule_words blank ts r no_place []

pub record Choosing (ts : List Token) (blank : ℕ) (r : Rule) (es cs₀ cs : List ℕ) (first now : Sheet) : Type 0 where
  pub size : length cs ≡ length es
  pub left : Left (flat (plain blank ts r) (choices_behind ts es cs)) now (flat (plain blank ts r) (choices_behind ts es cs₀)) first

module _ (ts : List Token) (es cs : List ℕ) where
  -- the next choice, and those behind it
  choices_next : (cs' : List ℕ) → length cs' ≡ length es → turned (wheel ts) es cs (length es) ≡ Some cs' → choices_behind ts es cs ≡ map (peek ts) cs' ∷ choices_behind ts es cs'
  unfolding choices_behind later
  choices_next cs' h e = ap (later (wheel ts) es) e ∙ choices-on ts es cs' h

  choices_none : turned (wheel ts) es cs (length es) ≡ None → choices_behind ts es cs ≡ []
  unfolding choices_behind later
  choices_none e = ap (later (wheel ts) es) e

  pub choices_fewer : (cs' : List ℕ) → length cs' ≡ length es → turned (wheel ts) es cs (length es) ≡ Some cs' → length (choices_behind ts es cs') < length (choices_behind ts es cs)
  choices_fewer cs' h e = omega (arith, ap length (choices_next cs' h e))

module _ (ts : List Token) (blank : ℕ) (r : Rule) (es cs₀ cs : List ℕ) (first now : Sheet) (g : Choosing ts blank r es cs₀ cs first now) where
  pub choosing_on : (cs' : List ℕ) (then : Sheet) → length cs' ≡ length es → turned (wheel ts) es cs (length es) ≡ Some cs'
      → Puts (rule_words blank ts r no_place (between ts r.line r.line) (map (peek ts) cs')) now then → Choosing ts blank r es cs₀ cs' first then
  unfolding flat
  choosing_on cs' then h e u =
      let one : plain blank ts r (map (peek ts) cs') ≡ rule_words blank ts r no_place (between ts r.line r.line) (map (peek ts) cs') =
      ap (λ (l : List Token). rule_words blank ts r no_place l (map (peek ts) cs')) (sym (between_none ts r.line r.line (omega arith))) in
      record { size = h; left = left_on (ap (flat (plain blank ts r)) (choices_next ts es cs cs' h e)) g.left (puts_as one u) }

  pub chosen : turned (wheel ts) es cs (length es) ≡ None → Puts (flat (plain blank ts r) (choices_behind ts es cs₀)) first now
  unfolding flat
  chosen e = left_end (ap (flat (plain blank ts r)) (choices_none ts es cs e)) g.left

-- ---- a line
-- the sets of the entries
pub sets_are : (ts : List Token) (n i : ℕ) → read_sets n (drop i ts) ≡ map (full (wheel ts)) (entries_of ts n i)
unfolding read_sets entries_of first_member next_entry
sets_are ts zero i = refl
sets_are ts (suc n) i = go (dec_lt i (length ts)) (sets_are ts n (next_entry ts i))
  where
    t : Token
    t = peek ts i

    r : List Token
    r = drop (i + 1) ts

    one : (b : Bool) → elim b [ true ↦ members r ∷ read_sets n (drop (2 * length (members r) + 1) r) | false ↦ (t ∷ []) ∷ read_sets n (drop 1 r) ]
        ≡ cond b (members (drop (cond b (i + 1) i) ts)) (peek ts (cond b (i + 1) i) ∷ []) ∷ read_sets n (drop (cond b (i + 1 + 2 * length (members r) + 1) (i + 2)) ts)
    one true =
        let e : i + 1 + (2 * length (members r) + 1) ≡ i + 1 + 2 * length (members r) + 1 = omega arith in
        ap (λ (l : List Token). members r ∷ read_sets n l) (drop-drop (2 * length (members r) + 1) (i + 1) ts ∙ ap (λ (k : ℕ). drop k ts) e)
    one false =
        let e : i + 1 + 1 ≡ i + 2 = omega arith in
        ap (λ (l : List Token). (t ∷ []) ∷ read_sets n l) (drop-drop 1 (i + 1) ts ∙ ap (λ (k : ℕ). drop k ts) e)

    first : i < length ts → read_sets (suc n) (drop i ts) ≡ full (wheel ts) i ∷ read_sets n (drop (next_entry ts i) ts)
    first h =
        ap (read_sets (suc n)) (drop-cons ts i ended h ∙ ap (λ (k : ℕ). t ∷ drop k ts) (sym (add-one i))) ∙ one (eqb t.kind 6)

    go : Dec (i < length ts) → read_sets n (drop (next_entry ts i) ts) ≡ map (full (wheel ts)) (entries_of ts n (next_entry ts i))
        → read_sets (suc n) (drop i ts) ≡ map (full (wheel ts)) (entries_of ts (suc n) i)
    go (yes h) ih =
        let e : entries_of ts (suc n) i ≡ i ∷ entries_of ts n (next_entry ts i) = rw (lt-ltb i (length ts) h, entries_of) in
        first h ∙ ap (λ (ls : List (List Token)). full (wheel ts) i ∷ ls) ih ∙ sym (ap (map (full (wheel ts))) e)
    go (no h) ih =
        let past : length ts ≤ i = omega arith in
        let e : entries_of ts (suc n) i ≡ [] = rw (le-ltb i (length ts) past, entries_of) in
        ap (read_sets (suc n)) (drop_of_length-le ts {i = i} past) ∙ sym (ap (map (full (wheel ts))) e)

-- all choices of a rule: the first, and those behind it
pub choices_of : (ts : List Token) (i : ℕ) → choices (sets_of ts i)
    ≡ map (peek ts) (map (first_member ts) (entries_read ts i)) ∷ choices_behind ts (entries_read ts i) (map (first_member ts) (entries_read ts i))
unfolding sets_of entries_read
choices_of ts i =
    let es : List ℕ = entries_read ts i in
    ap choices (sets_are ts (peek ts (i + 1)).start (first_entry ts (i + 4))) ∙ sym (left-all (wheel ts) (wheels_are ts) es)
    ∙ choices-on ts es (map (first_member ts) es) (length-map es (first_member ts))

pub arity_of : (ts : List Token) (i : ℕ) → length (sets_of ts i) ≡ length (entries_read ts i)
unfolding sets_of entries_read
arity_of ts i = ap length (sets_are ts (peek ts (i + 1)).start (first_entry ts (i + 4))) ∙ length-map (entries_read ts i) (full (wheel ts))

pub entries_are : (ts : List Token) (line i : ℕ) (q : Token) → q ≡ peek ts (line + 1) → i ≡ first_entry ts (line + 4) → entries_of ts q.start i ≡ entries_read ts line
unfolding entries_read
entries_are ts line i q e f = rw (e, f)

-- what writing its rules asks for
module _ (ts : List Token) (line n count : ℕ) (r : Rule) (is_rule : r ≡ rule_at ts line n) (few : n ≤ count) where
  pub line_fits : r.write ≤ 2 ^ 32 → r.dir ≤ 2 ^ 32 → line < count → 9 * count + 11 < 2 ^ 32
      → (Placed count r) × ((l : List ℕ) → count ≤ length l → length (take n l) ≡ r.tapes)
  unfolding rule_at
  line_fits w d h s = (
    record { line = rw is_rule h; few = rw is_rule few; small = s; write = w; dir = d },
    λ l room. length-take-le n l (omega arith) ∙ sym (ap (λ (r : Rule). r.tapes) is_rule),
  )

-- a line's words: its first rule, and those of the choices behind
module _ (ts : List Token) (line n count : ℕ) (entries members : List ℕ) (e : take n entries ≡ entries_read ts line) (few : n ≤ count) (room : count ≤ length entries) where
  many_sets : n ≡ length (entries_read ts line)
  many_sets = sym (length-take-le n entries (omega arith)) ∙ ap length e

  module _ (r : Rule) (is_rule : r ≡ rule_at ts line n) where
    line_is : r.line ≡ line
    unfolding rule_at
    line_is = ap (λ (r : Rule). r.line) is_rule

    pub line_put : (blank lead : ℕ) (c : Span) (s a z : Sheet) → take n members ≡ map (first_member ts) (entries_read ts line) → c ≡ own_place ts line
        → Puts (rule_words blank ts r c (between ts lead r.line) (map (peek ts) (take n members))) s a
        → Puts (flat (rule_words blank ts r no_place []) (choices_behind ts (take n entries) (take n members))) a z → Puts (expanded blank ts lead line) s z
    unfolding expanded dressed
    line_put blank lead c s a z f own u v =
        let es : List ℕ = entries_read ts line in
        let cs : List ℕ = map (first_member ts) es in
        let same : rule_at ts line (length (sets_of ts line)) ≡ r = ap (rule_at ts line) (arity_of ts line ∙ sym many_sets) ∙ sym is_rule in
        let at : r.line ≡ line = line_is in
        let one : rule_words blank ts r (own_place ts line) (between ts lead line) (map (peek ts) cs) ≡ rule_words blank ts r c (between ts lead r.line) (map (peek ts) (take n members)) =
        rw (at, ← f, ← own) in
        let more : flat (plain blank ts r) (choices_behind ts es cs) ≡ flat (plain blank ts r) (choices_behind ts (take n entries) (take n members)) = rw (e, f) in
        puts_as
        (ap (λ (r : Rule). dressed blank ts r (own_place ts line) (between ts lead line) (choices (sets_of ts line))) same
        ∙ ap (dressed blank ts r (own_place ts line) (between ts lead line)) (choices_of ts line)
        ∙ ap (λ (l : List ℕ). l ++ flat (plain blank ts r) (choices_behind ts es cs)) one
        ∙ ap (λ (l : List ℕ). rule_words blank ts r c (between ts lead r.line) (map (peek ts) (take n members)) ++ l) more)
        (u ▹ v)
