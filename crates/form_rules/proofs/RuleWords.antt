-- Rules: the words of a record give what the rule's content gives, and records are taken one after the other.
use mathlib.Core.Path.{◌≡◌, refl, sym, ap, ap₂, subst, ◌∙◌}
use Prim.Native.Nat.{ℕ, ◌+◌, ◌-◌, ◌*◌, ◌≤◌, ◌<◌}
use mathlib.Core.List.{List, [], ◌∷◌, map, map-map}
use lib.ListN.{get_or, take, drop}
use Rattle.chars.specs.Utf8.{encode}
use Rattle.language.specs.Content.{ActionContent}
use Rattle.language.specs.Plain.{Piece, say, end, each, commas, verbatim, symbol, direction, comment_line, own_comment, rule, rule_lines}
use Rattle.language.specs.Agreement.{groups, records, place_at, dir_of, action_in, characters_at, comment_at, text_in, rule_in}
use Rattle.diag.specs.declared.Span.{Span}
use Rattle.emit.specs.declared.Output.{Output}
use Rattle.emit.specs.Appends.{Appends}
use Rattle.form_strings.specs.Writes.{Writes}
use Rattle.form_rules.specs.Rules.{rule_left, rule_right}
use Rattle.form_lists.specs.Places.{Every, column}
use Rattle.form_rules.specs.Formed.{RuleFormed}
use Rattle.sheet_view.proofs.Records.{records-start, records-next, records-end}
use Rattle.emit.proofs.Chain.{alike, ◌▹◌, goes_start, goes_on, goes_end}
use Rattle.form_strings.proofs.Chain.{known, Goes}

-- ---- the members of a list by a function of each

pub commas-map : {A B : Type 0} (show : B → Piece) (f : A → B) (l : List A) (rest : List ℕ) → commas (λ a. show (f a)) l rest ≡ commas show (map f l) rest
unfolding commas
commas-map show f [] rest = refl
commas-map show f (a ∷ []) rest = refl
commas-map show f (a ∷ b ∷ l) rest = ap (λ r. show (f a) (say ", " r)) (commas-map show f (b ∷ l) rest)

module _ (n : ℕ) (ws : List ℕ) where
  actions : List ActionContent
  actions = map action_in (groups 7 n ws)

  reads : (rest : List ℕ) → commas (λ a. symbol a.read) actions rest ≡ commas symbol (column 7 0 n ws) rest
  unfolding actions action_in
  reads rest = commas-map symbol (λ a. a.read) actions rest ∙ ap (λ l. commas symbol l rest) (map-map (λ a. a.read) action_in (groups 7 n ws))

  writes : (rest : List ℕ) → commas (λ a. symbol a.write) actions rest ≡ commas symbol (column 7 3 n ws) rest
  unfolding actions action_in
  writes rest = commas-map symbol (λ a. a.write) actions rest ∙ ap (λ l. commas symbol l rest) (map-map (λ a. a.write) action_in (groups 7 n ws))

  moves : (rest : List ℕ) → commas (λ a. direction a.dir) actions rest ≡ commas direction (map dir_of (column 7 6 n ws)) rest
  unfolding actions action_in
  moves rest = commas-map direction (λ a. a.dir) actions rest ∙ ap (λ l. commas direction l rest) (map-map (λ a. a.dir) action_in (groups 7 n ws) ∙ sym (map-map dir_of (λ r. get_or r 6 0) (groups 7 n ws)))

-- ---- one rule

module _ (text ws : List ℕ) where
  named : (i : ℕ) (q : Span) (o r : Output) → q ≡ place_at ws i → Writes (verbatim (characters_at text q)) o r → Writes (verbatim (characters_at text (place_at ws i))) o r
  named i q o r e w = subst (λ p. Writes (verbatim (characters_at text p)) o r) e w

  module _ (n : ℕ) (acts : List ℕ) (arity : n ≡ get_or ws 9 0) (cut : acts ≡ drop 11 ws) where
    pub left-written : (q : Span) (o a b c d r : Output) → q ≡ place_at ws 1 → Appends (0xCE ∷ 0xB4 ∷ 0x28 ∷ []) o a → Writes (verbatim (characters_at text q)) a b
        → Appends (0x2C ∷ 0x20 ∷ 0x28 ∷ []) b c → Writes (commas symbol (column 7 0 n acts)) c d → Appends (0x29 ∷ 0x29 ∷ []) d r → Writes (rule_left (rule_in text ws)) o r
    unfolding rule_left rule_in actions encode
    left-written q o a b c d r e w₁ w₂ w₃ w₄ w₅ =
        let f : Writes (commas (λ x. symbol x.read) (actions (get_or ws 9 0) (drop 11 ws))) c d =
        alike (λ rest. reads (get_or ws 9 0) (drop 11 ws) rest ∙ sym (ap₂ (λ m l. commas symbol (column 7 0 m l) rest) arity cut)) w₄ in
        known {p = say "δ("} (0xCE ∷ 0xB4 ∷ 0x28 ∷ []) (λ rest. refl) w₁ ▹ named 1 q a b e w₂
        ▹ known {p = say ", ("} (0x2C ∷ 0x20 ∷ 0x28 ∷ []) (λ rest. refl) w₃ ▹ f ▹ known {p = say "))"} (0x29 ∷ 0x29 ∷ []) (λ rest. refl) w₅

    pub right-written : (q : Span) (o a b c d x y r : Output) → q ≡ place_at ws 3 → Appends (0x20 ∷ 0x3D ∷ 0x20 ∷ 0x28 ∷ []) o a → Writes (verbatim (characters_at text q)) a b
        → Appends (0x2C ∷ 0x20 ∷ 0x28 ∷ []) b c → Writes (commas symbol (column 7 3 n acts)) c d → Appends (0x29 ∷ 0x2C ∷ 0x20 ∷ 0x28 ∷ []) d x
        → Writes (commas direction (map dir_of (column 7 6 n acts))) x y → Appends (0x29 ∷ 0x29 ∷ []) y r → Writes (rule_right (rule_in text ws)) o r
    unfolding rule_right rule_in actions encode
    right-written q o a b c d x y r e w₁ w₂ w₃ w₄ w₅ w₆ w₇ =
        let f : Writes (commas (λ z. symbol z.write) (actions (get_or ws 9 0) (drop 11 ws))) c d =
        alike (λ rest. writes (get_or ws 9 0) (drop 11 ws) rest ∙ sym (ap₂ (λ m l. commas symbol (column 7 3 m l) rest) arity cut)) w₄ in
        let g : Writes (commas (λ z. direction z.dir) (actions (get_or ws 9 0) (drop 11 ws))) x y =
        alike (λ rest. moves (get_or ws 9 0) (drop 11 ws) rest ∙ sym (ap₂ (λ m l. commas direction (map dir_of (column 7 6 m l)) rest) arity cut)) w₆ in
        known {p = say " = ("} (0x20 ∷ 0x3D ∷ 0x20 ∷ 0x28 ∷ []) (λ rest. refl) w₁ ▹ named 3 q a b e w₂
        ▹ known {p = say ", ("} (0x2C ∷ 0x20 ∷ 0x28 ∷ []) (λ rest. refl) w₃ ▹ f ▹ known {p = say "), ("} (0x29 ∷ 0x2C ∷ 0x20 ∷ 0x28 ∷ []) (λ rest. refl) w₅ ▹ g
        ▹ known {p = say "))"} (0x29 ∷ 0x29 ∷ []) (λ rest. refl) w₇

  module _ (k : ℕ) (tail : List ℕ) (many : k ≡ get_or ws 10 0) (cut : tail ≡ drop (11 + 7 * get_or ws 9 0) ws) where
    pub lines-written : (q : Span) (o a b c d r : Output) → q ≡ place_at ws 7 → Writes (each comment_line (map (text_in text) (groups 2 k tail))) o a
        → Writes (rule_left (rule_in text ws)) a b → Writes (rule_right (rule_in text ws)) b c → Writes (own_comment (comment_at text q)) c d → Appends (10 ∷ []) d r
        → Writes (rule_lines (rule_in text ws)) o r
    unfolding rule_lines rule rule_left rule_right rule_in encode
    lines-written q o a b c d r e w₁ w₂ w₃ w₄ w₅ =
        let f : Writes (each comment_line (map (text_in text) (groups 2 (get_or ws 10 0) (drop (11 + 7 * get_or ws 9 0) ws)))) o a =
        alike (λ rest. ap₂ (λ m l. each comment_line (map (text_in text) (groups 2 m l)) rest) (sym many) (sym cut)) w₁ in
        f ▹ w₂ ▹ w₃ ▹ subst (λ p. Writes (own_comment (comment_at text p)) c d) e w₄ ▹ known {p = end} (10 ∷ []) (λ rest. refl) w₅

-- ---- rules one after the other

-- the records from the i-th of n on are well formed
pub record Formed (text : List ℕ) (n i : ℕ) (ws : List ℕ) : Type 0 where
  pub formed : Every (RuleFormed text) (records (n - i) ws)

module _ (text : List ℕ) (n : ℕ) (ws : List ℕ) where
  pub formed-all : Every (RuleFormed text) (records n ws) → Formed text n 0 ws
  formed-all h = record { formed = subst (Every (RuleFormed text)) (sym (records-start n ws)) h }

  pub rules-start : (o : Output) → Goes (each rule_lines (map (rule_in text) (records (n - 0) ws))) o (each rule_lines (map (rule_in text) (records n ws))) o
  rules-start o = goes_start (λ rest. ap (λ l. each rule_lines (map (rule_in text) l) rest) (records-start n ws))

  pub rules-end : (i : ℕ) (o : Output) (p₀ : Piece) (o₀ : Output) → n ≤ i → Goes (each rule_lines (map (rule_in text) (records (n - i) ws))) o p₀ o₀ → Writes p₀ o₀ o
  unfolding each
  rules-end i o p₀ o₀ h g = goes_end (λ rest. ap (λ l. each rule_lines (map (rule_in text) l) rest) (records-end n i ws h)) g

  module _ (i : ℕ) (h : i < n) (r : List ℕ) (e : r ≡ take (get_or ws 0 0) ws) where
    left_next : records (n - i) ws ≡ r ∷ records (n - (i + 1)) (drop (get_or ws 0 0) ws)
    left_next = records-next n i ws h ∙ rw (← e)

    pub formed_here : Formed text n i ws → RuleFormed text r
    formed_here f = (subst (Every (RuleFormed text)) left_next f.formed).0

    module _ (k : ℕ) (ws' : List ℕ) (p : k ≡ get_or ws 0 0) (q : ws' ≡ drop k ws) where
      others : drop (get_or ws 0 0) ws ≡ ws'
      others = sym (q ∙ ap (λ m. drop m ws) p)

      pub formed-next : Formed text n i ws → Formed text n (i + 1) ws'
      formed-next f = record { formed = subst (λ l. Every (RuleFormed text) (records (n - (i + 1)) l)) others (subst (Every (RuleFormed text)) left_next f.formed).1 }

      pub rules-on : (o a : Output) (p₀ : Piece) (o₀ : Output) → Goes (each rule_lines (map (rule_in text) (records (n - i) ws))) o p₀ o₀ → Writes (rule_lines (rule_in text r)) o a
          → Goes (each rule_lines (map (rule_in text) (records (n - (i + 1)) ws'))) a p₀ o₀
      unfolding each
      rules-on o a p₀ o₀ g w =
          goes_on (λ rest. ap (λ l. each rule_lines (map (rule_in text) l) rest) (left_next ∙ ap (λ l. r ∷ records (n - (i + 1)) l) others)) g w
