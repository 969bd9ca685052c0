-- As many rules are appended, and as many words needed, as the products of the read sets say: each choice gives one rule, of one length.
use Prim.Native.Nat.{ℕ, suc, ◌+◌, ◌*◌}
use native.Mathlib.Omega.{arith}
use mathlib.Core.Bool.{Bool, ◌&&◌}
use mathlib.Core.List.{List, [], ◌∷◌, ◌++◌, map, append_assoc}
use Rattle.std.specs.Prelude.{Option, None, Some}
use mathlib.Core.Path.{◌≡◌, refl, ap, ap₂, ◌∙◌, sym}
use borrow.Author.Tests.{eqb-true}
use lib.Dec.{eqb}
use lib.ListN.{length, length-append, length-map}
use Rattle.lexer.specs.Tokens.{Span}
use Rattle.language.specs.Machine.{Located, Dir, Action, Rule, State, Symbol, Machine}
use Rattle.language.specs.Lines.{RawSymbol}
use Rattle.language.specs.Assembly.{RuleLine, combinations, Verdict, expands, wrong_arity, too_many, verdict, kept, each_front, choices, actions, rule_of, dressed, expand, expand_all}
use Rattle.language.specs.Layout.{place_words, located_words, flat, state_words, symbol_words, action_words, rule_length, rule_words, sheet_words, rule_lengths, sheet_length}
use Rattle.language.proofs.Every.{by_test, Every, Filled, every_append, every_any, every_map, and_left, and_right}

-- ---- choices

each-length : {A : Type 0} (s : List A) (ls : List (List A)) → length (each_front s ls) ≡ length s * length ls
unfolding each_front
each-length [] ls = omega arith
each-length (a ∷ s) ls = rw (length-append (map (λ l. a ∷ l) ls) (each_front s ls), length-map ls (λ l. a ∷ l), each-length s ls) (omega arith)

-- one choice for each combination
pub choices-length : {A : Type 0} (ss : List (List A)) → length (choices ss) ≡ combinations ss
unfolding choices combinations
choices-length [] = refl
choices-length (s ∷ ss) = each-length s (choices ss) ∙ ap (λ n. length s * n) (choices-length ss)

-- each with an entry for each list
each_every : {A : Type 0} (p q : List A → Type 0) → ((a : A) (l : List A) → q l → p (a ∷ l)) → (s : List A) (ls : List (List A)) → Every q ls → Every p (each_front s ls)
unfolding each_front
each_every p q e [] ls h = tt
each_every p q e (a ∷ s) ls h = every_append p (map (λ l. a ∷ l) ls) (each_front s ls) (every_map q p (λ l. a ∷ l) (e a) ls h) (each_every p q e s ls h)

pub choices-wide : {A : Type 0} (ss : List (List A)) → Every (λ l. length l ≡ length ss) (choices ss)
unfolding choices
choices-wide [] = (refl, tt)
choices-wide (s ∷ ss) = each_every (λ l. length l ≡ suc (length ss)) (λ l. length l ≡ length ss) (λ a l h. ap suc h) s (choices ss) (choices-wide ss)

dressed-length : {P : Type 0} (b : ℕ) (l : RuleLine P) (cs : List (List (Located P RawSymbol))) → length (dressed b l cs) ≡ length cs
unfolding dressed
dressed-length b l [] = refl
dressed-length b l (c ∷ cs) = ap suc (length-map cs (rule_of b l None []))

-- as many rules as combinations
pub expand-length : {P : Type 0} (b : ℕ) (l : RuleLine P) → length (expand b l) ≡ combinations l.raw.read
unfolding expand
expand-length b l = dressed-length b l (choices l.raw.read) ∙ choices-length l.raw.read

-- how many rules a list of lines stands for
unfoldable pub rule_count : {P : Type 0} → List (RuleLine P) → ℕ
unfolding combinations
rule_count [] = 0
rule_count (l ∷ ls) = combinations l.raw.read + rule_count ls

pub rules-length : {P : Type 0} (b : ℕ) (ls : List (RuleLine P)) → length (expand_all b ls) ≡ rule_count ls
unfolding expand_all rule_count
rules-length b [] = refl
rules-length b (l ∷ ls) = length-append (expand b l) (expand_all b ls) ∙ ap₂ (λ m n. m + n) (expand-length b l) (rules-length b ls)

-- a rule that has a choice for each tape is no empty set of rules
pub choices-filled : {A : Type 0} (ss : List (List A)) → Every Filled ss → Filled (choices ss)
unfolding choices each_front
choices-filled [] h = tt
choices-filled ((a ∷ s) ∷ ss) h = front-filled a (choices ss) (each_front s (choices ss)) (choices-filled ss h.1)
  where
    front-filled : {A : Type 0} (a : A) (ls more : List (List A)) → Filled ls → Filled (map (λ l. a ∷ l) ls ++ more)
    front-filled a (l ∷ ls) more h = tt
    front-filled a [] more h = elim h [ ]
choices-filled ([] ∷ ss) h = absurd h.0

-- ---- lines that fit

-- as many written and as many moves as read
abbrev pub Fits : {P : Type 0} → RuleLine P → Type 0
Fits l = (length l.raw.write ≡ length l.raw.read) × (length l.raw.dir ≡ length l.raw.read)

verdict_fits : {P : Type 0} (n : ℕ) (l : RuleLine P) → verdict n l.raw ≡ expands → Fits l
unfolding verdict
verdict_fits n l e =
    let w : Bool = eqb (length l.raw.write) (length l.raw.read) in
    let d : Bool = eqb (length l.raw.dir) (length l.raw.read) in
    by_test (w && d) (λ h. (eqb-true _ _ (and_left w d h), eqb-true _ _ (and_right w d h))) (λ h. absurd (never (sym (rw (h, verdict) at e))))
  where
    never : expands ≡ wrong_arity → ⊥
    never q = let z : ◌≡◌ {A = ℕ} 0 1 = cc in omega arith

-- to go by a verdict and keep what it said
pub by_verdict : {X : Type 0} (v : Verdict) → (v ≡ expands → X) → (v ≡ wrong_arity → X) → (v ≡ too_many → X) → X
by_verdict expands f g h = f refl
by_verdict wrong_arity f g h = g refl
by_verdict too_many f g h = h refl

-- what holds of each line that expands holds of those that are kept
pub kept_every : {P : Type 0} (p q : RuleLine P → Type 0) → ((n : ℕ) (l : RuleLine P) → p l → verdict n l.raw ≡ expands → q l)
    → (n : ℕ) (ls : List (RuleLine P)) → Every p ls → Every q (kept n ls)
unfolding kept
kept_every p q f n [] h = tt
kept_every p q f n (l ∷ ls) h = by_verdict (verdict n l.raw)
    (λ e. rw (e, kept) (f n l h.0 e, kept_every p q f (n + combinations l.raw.read) ls h.1))
    (λ e. rw (e, kept) (kept_every p q f n ls h.1))
    (λ e. rw (e, kept) (kept_every p q f n ls h.1))

pub kept_fits : {P : Type 0} (n : ℕ) (ls : List (RuleLine P)) → Every Fits (kept n ls)
kept_fits n ls = kept_every (λ l. Unit {0}) Fits (λ n l h e. verdict_fits n l e) n ls (every_any (λ l. Unit {0}) (λ l. tt) ls)

-- ---- words

pub flat-length : {A : Type 0} (words : A → List ℕ) (k : ℕ) (l : List A) → Every (λ a. length (words a) ≡ k) l → length (flat words l) ≡ length l * k
unfolding flat
flat-length words k [] h = omega arith
flat-length words k (a ∷ l) h = rw (length-append (words a) (flat words l), h.0, flat-length words k l h.1) (omega arith)

pub flat_append : {A : Type 0} (words : A → List ℕ) (l m : List A) → flat words (l ++ m) ≡ flat words l ++ flat words m
unfolding flat
flat_append words [] m = refl
flat_append words (a ∷ l) m = ap (λ r. words a ++ r) (flat_append words l m) ∙ sym (append_assoc (words a) (flat words l) (flat words m))

action_length : (a : Action Span) → length (action_words a) ≡ 7
unfolding action_words
action_length a = refl

pub rule_length_lem : (r : Rule Span) → length (rule_words r) ≡ rule_length (length r.actions) (length r.leading)
unfolding rule_words
rule_length_lem r = rw (length-append (flat action_words r.actions) (flat located_words r.leading), flat-length action_words 7 r.actions (every_any _ action_length r.actions), flat-length located_words 2 r.leading (every_any _ (λ l. refl) r.leading)) (omega arith)

actions-length : {P : Type 0} (b : ℕ) (rs : List (Located P RawSymbol)) (ws : List (Located P (Option RawSymbol))) (ds : List (Located P Dir))
    → length ws ≡ length rs → length ds ≡ length rs → length (actions b rs ws ds) ≡ length rs
unfolding actions
actions-length b [] ws ds e f = refl
actions-length b (r ∷ rs) [] ds e f = e
actions-length b (r ∷ rs) (w ∷ ws) [] e f = f
actions-length b (r ∷ rs) (w ∷ ws) (d ∷ ds) e f = ap suc (actions-length b rs ws ds (omega arith) (omega arith))

-- the words of the rules of one line: the comments go to the first
module _ (b : ℕ) (l : RuleLine Span) (fits : Fits l) where
  choice-length : (c : Option (Located Span (List ℕ))) (k : List (Located Span (List ℕ))) (rs : List (Located Span RawSymbol)) → length rs ≡ length l.raw.read
      → length (rule_words (rule_of b l c k rs)) ≡ rule_length (length l.raw.read) (length k)
  unfolding rule_of
  choice-length c k rs e =
      rule_length_lem (rule_of b l c k rs)
      ∙ ap (λ n. rule_length n (length k)) (actions-length b rs l.raw.write l.raw.dir (fits.0 ∙ sym e) (fits.1 ∙ sym e) ∙ e)

  dressed-words : (cs : List (List (Located Span RawSymbol))) → Filled cs → Every (λ c. length c ≡ length l.raw.read) cs
      → length (flat rule_words (dressed b l cs)) ≡ length cs * rule_length (length l.raw.read) 0 + 2 * length l.leading
  unfolding dressed flat
  dressed-words (c ∷ cs) f h =
      let first : ℕ = length (rule_words (rule_of b l l.comment l.leading c)) in
      rw (
        length-append (rule_words (rule_of b l l.comment l.leading c)) (flat rule_words (map (rule_of b l None []) cs)),
        choice-length l.comment l.leading c h.0,
        flat-length rule_words (rule_length (length l.raw.read) 0) (map (rule_of b l None []) cs) (every_map (λ c. length c ≡ length l.raw.read) (λ r. length (rule_words r) ≡ rule_length (length l.raw.read) 0) (rule_of b l None []) (choice-length None []) cs h.1),
        length-map cs (rule_of b l None []),
      ) (omega arith)
  dressed-words [] f h = absurd f

-- read sets that are not empty
abbrev pub Chosen : {P : Type 0} → RuleLine P → Type 0
Chosen l = Every Filled l.raw.read

pub expand-words : (b : ℕ) (ls : List (RuleLine Span)) → Every Fits ls → Every Chosen ls → length (flat rule_words (expand_all b ls)) ≡ rule_lengths ls
unfolding expand_all rule_lengths expand flat
expand-words b [] f h = refl
expand-words b (l ∷ ls) f h =
    rw (
      flat_append rule_words (expand b l) (expand_all b ls),
      length-append (flat rule_words (expand b l)) (flat rule_words (expand_all b ls)),
      dressed-words b l f.0 (choices l.raw.read) (choices-filled l.raw.read h.0) (choices-wide l.raw.read),
      choices-length l.raw.read,
      expand-words b ls f.1 h.1,
    ) refl

section-three : (l : List (State Span)) → length (flat state_words l) ≡ length l * 3
unfolding state_words
section-three l = flat-length state_words 3 l (every_any _ (λ s. refl) l)

pub symbol-length : (s : Symbol Span) → length (symbol_words s) ≡ 3
unfolding symbol_words
symbol-length s = placed s.declared_at
  where
    placed : (o : Option Span) → length (s.code ∷ elim o [ Some p ↦ place_words p | None ↦ 0 ∷ 0 ∷ [] ]) ≡ 3
    placed None = refl
    placed (Some p) = refl

-- the sheet of a machine whose rules are those of the lines has the words that the counts say
pub sheet_length_lem : (m : Machine Span) (b : ℕ) (ls : List (RuleLine Span)) → m.rules ≡ expand_all b ls → Every Fits ls → Every Chosen ls → length (sheet_words m) ≡ sheet_length m ls
unfolding sheet_words sheet_length
sheet_length_lem m b ls e f h =
    rw (
      length-append (flat state_words m.states) _,
      length-append (flat symbol_words m.sigma) _,
      length-append (flat symbol_words m.gamma) _,
      length-append (flat place_words m.finals) _,
      length-append (flat located_words m.header) _,
      length-append (flat located_words m.trailing) (flat rule_words m.rules),
      section-three m.states,
      flat-length symbol_words 3 m.sigma (every_any _ symbol-length m.sigma),
      flat-length symbol_words 3 m.gamma (every_any _ symbol-length m.gamma),
      flat-length place_words 2 m.finals (every_any _ (λ p. refl) m.finals),
      flat-length located_words 2 m.header (every_any _ (λ l. refl) m.header),
      flat-length located_words 2 m.trailing (every_any _ (λ l. refl) m.trailing),
      ap (λ rs. length (flat rule_words rs)) e ∙ expand-words b ls f h,
    ) (omega arith)
