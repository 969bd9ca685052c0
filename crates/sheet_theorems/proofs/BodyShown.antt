-- Header, trailing comments, rules and their lengths are the language's, for a row whose lines show the language's lines.
use mathlib.Core.Path.{◌≡◌, refl, sym, ap, subst, ◌∙◌}
use mathlib.Core.Bool.{Bool, true, false, cond}
use mathlib.Core.List.{List, [], ◌∷◌, ◌++◌, append-nil}
use Prim.Native.Nat.{ℕ, ◌+◌, ◌-◌, ◌*◌, ◌≤◌, ◌<◌}
use native.Mathlib.Omega.{arith}
use borrow.Author.Tests.{le-leb, lt-leb, lt-ltb, le-ltb, eq-eqb, ne_eqb}
use lib.ListN.{length, take, drop}
use lib.Seq.{take-add, drop-drop}
use Rattle.std.specs.Prelude.{None, Some, is_some, unwrap_or, Option, option_to_list}
use Rattle.diag.specs.declared.Span.{Span as Place}
use Rattle.tokens.specs.declared.Token.{Token}
use Rattle.parser.specs.Row.{peek}
use Rattle.language.specs.Machine.{Located}
use Rattle.language.specs.Lines.{RawTransition, Item, machine_item, input_item, kind_item, output_item, tapes_item, states_item, final_item, input_alphabet_item, tape_alphabet_item, blank_item, start_item, transition_item, Line, blank_line, comment_line, item_line, error_line}
use Rattle.language.specs.Assembly as A
use Rattle.language.proofs.Columns
use Rattle.language.specs.Layout as L
use Rattle.language.proofs.Counts.{flat_append}
use Rattle.assembler.specs.Entries.{Entry, entry_at, behind, entries}
use Rattle.assembler.proofs.Rows.{entries_at, entries-step, entries-end}
use Rattle.assembler.proofs.Means.{number}
use Rattle.assembler.proofs.EntriesMean.{lines_end, lines-on}
use Rattle.sheet.specs.declared.comments.Pending.{Pending}
use Rattle.sheet.specs.Comments.{text_words, comments_in, between, next, nothing, passed, passed_all, lead_from, begins, header_of, header_from, header, trailing}
use Rattle.sheet.specs.Rules.{expanded, line_rules, rules_from, rules, line_length, lengths_from, rule_lengths}
use Rattle.sheet.proofs.CommentLaws.{comments-append, comments-one, comments_no, between_none, between-on}
use Rattle.sheet_theorems.proofs.Shows.{CommentShows, ItemShows, Shown}
use Rattle.sheet_theorems.proofs.RulesShown.{line_shown, leading_shown}

abbrev Comments : Type 0
Comments = List (Located Place (List ℕ))

-- ---- comments between indices
pub between_join : (ts : List Token) (a b c : ℕ) → a ≤ b → b ≤ c → between ts a c ≡ between ts a b ++ between ts b c
unfolding between
between_join ts a b c h g =
    let e : c - a ≡ (b - a) + (c - b) = omega arith in
    let f : a + (b - a) ≡ b = omega arith in
    ap (λ (k : ℕ). comments_in (take k (drop a ts))) e ∙ ap comments_in (take-add (b - a) (c - b) (drop a ts))
    ∙ comments-append (take (b - a) (drop a ts)) (take (c - b) (drop (b - a) (drop a ts)))
    ∙ ap (λ (l : List Token). comments_in (take (b - a) (drop a ts)) ++ comments_in (take (c - b) l)) (drop-drop (b - a) a ts ∙ ap (λ (k : ℕ). drop k ts) f)

-- the words of the comments between indices
abbrev words_in : List Token → ℕ → ℕ → List ℕ
words_in ts a b = L.flat text_words (between ts a b)

words_join : (ts : List Token) (a b c : ℕ) → a ≤ b → b ≤ c → words_in ts a c ≡ words_in ts a b ++ words_in ts b c
words_join ts a b c h g = ap (L.flat text_words) (between_join ts a b c h g) ∙ flat_append text_words (between ts a b) (between ts b c)

words-none : (ts : List Token) (a b : ℕ) → b ≤ a → words_in ts a b ≡ []
unfolding L.flat
words-none ts a b h = ap (L.flat text_words) (between_none ts a b h)

-- a token that is no comment adds nothing
words-other : (ts : List Token) (i j : ℕ) → i < j → ((peek ts i).kind ≡ 12 → ⊥) → words_in ts i j ≡ words_in ts (i + 1) j
words-other ts i j h g = ap (L.flat text_words) (between-on ts i j h ∙ ap (λ (l : List Token). l ++ between ts (i + 1) j) (comments_no (peek ts i) g))

words-comment : (ts : List Token) (i j : ℕ) → i < j → (peek ts i).kind ≡ 12 → words_in ts i j ≡ text_words (peek ts i) ++ words_in ts (i + 1) j
unfolding L.flat
words-comment ts i j h g = ap (L.flat text_words) (between-on ts i j h ∙ ap (λ (l : List Token). l ++ between ts (i + 1) j) (comments-one (peek ts i) g))

-- ---- what is pending in the row and in the language
-- if no item or failed line came earlier, all that is pending begins with the row
begins_first : (p : Pending) → is_some p.from ≡ false → begins p ≡ 0
begins_first p = go p.from
  where
    go : (o : Option ℕ) → is_some o ≡ false → unwrap_or o 0 ≡ 0
    go None h = refl
    go (Some k) h = let z : ◌≡◌ {A = ℕ} 0 1 = cc in absurd (omega (arith, z))

pub record Pends (ts : List Token) (p : Pending) (i : ℕ) (seen : Bool) (old block : Comments) : Type 0 where
  pub seen_is : is_some p.from ≡ seen
  pub low : begins p ≤ p.block
  pub high : p.block ≤ i
  pub olds : L.flat text_words (between ts (begins p) p.block) ≡ L.flat L.located_words old
  pub blocks : L.flat text_words (between ts p.block i) ≡ L.flat L.located_words block

pub pends_start : (ts : List Token) → Pends ts nothing 0 false [] []
unfolding L.flat
pends_start ts = record { seen_is = refl; low = omega arith; high = omega arith; olds = words-none ts 0 0 (omega arith); blocks = words-none ts 0 0 (omega arith) }

module _ (ts : List Token) (p : Pending) (i : ℕ) (seen : Bool) (old block : Comments) (g : Pends ts p i seen old block) where
  -- all that is pending
  pends_all : words_in ts (begins p) i ≡ L.flat L.located_words (old ++ block)
  pends_all =
      words_join ts (begins p) p.block i g.low g.high ∙ ap (λ (l : List ℕ). l ++ words_in ts p.block i) g.olds
      ∙ ap (λ (l : List ℕ). L.flat L.located_words old ++ l) g.blocks ∙ sym (flat_append L.located_words old block)

  pends_blank : (peek ts i).kind ≡ 13 → Pends ts (passed p i (peek ts i)) (next i (peek ts i)) seen (old ++ block) []
  unfolding passed behind L.flat
  pends_blank h =
      let k₁ : (peek ts i).kind < 16 = omega arith in
      let k₂ : (peek ts i).kind ≡ 12 → ⊥ = λ z. omega arith in
      let one : words_in ts i (i + 1) ≡ [] = words-other ts i (i + 1) (omega arith) k₂ ∙ words-none ts (i + 1) (i + 1) (omega arith) in
      let all : words_in ts (begins p) (i + 1) ≡ L.flat L.located_words (old ++ block) =
      words_join ts (begins p) i (i + 1) (omega (arith, g.low, g.high)) (omega arith) ∙ ap (λ (l : List ℕ). words_in ts (begins p) i ++ l) one ∙ append-nil (words_in ts (begins p) i) ∙ pends_all in
      let step : i + 1 + 0 ≡ i + 1 = omega arith in
      rw (lt-leb 16 (peek ts i).kind k₁, ne_eqb (peek ts i).kind 12 k₂, step)
      (record { seen_is = g.seen_is; low = omega (arith, g.low, g.high); high = omega arith; olds = all; blocks = words-none ts (i + 1) (i + 1) (omega arith) })

  pends_comment : (c : Located Place (List ℕ)) → CommentShows ts i c → Pends ts (passed p i (peek ts i)) (next i (peek ts i)) seen old (block ++ c ∷ [])
  unfolding passed behind L.flat
  pends_comment c m =
      let k₁ : (peek ts i).kind < 16 = omega (arith, m.kind) in
      let feed : (peek ts (i + 1)).kind ≡ 12 → ⊥ = λ z. omega (arith, m.feed) in
      let one : words_in ts i (i + 2) ≡ L.located_words c =
      words-comment ts i (i + 2) (omega arith) m.kind ∙ ap (λ (l : List ℕ). text_words (peek ts i) ++ l) (words-other ts (i + 1) (i + 2) (omega arith) feed ∙ words-none ts (i + 1 + 1) (i + 2) (omega arith))
      ∙ append-nil (text_words (peek ts i)) ∙ m.text in
      let all : words_in ts p.block (i + 2) ≡ L.flat L.located_words (block ++ c ∷ []) =
      words_join ts p.block i (i + 2) g.high (omega arith) ∙ ap (λ (l : List ℕ). l ++ words_in ts i (i + 2)) g.blocks ∙ ap (λ (l : List ℕ). L.flat L.located_words block ++ l) (one ∙ sym (append-nil (L.located_words c)))
      ∙ sym (flat_append L.located_words block (c ∷ [])) in
      let step : i + 1 + 1 ≡ i + 2 = omega arith in
      rw (lt-leb 16 (peek ts i).kind k₁, eq-eqb (peek ts i).kind 12 m.kind, step)
      (record { seen_is = g.seen_is; low = g.low; high = omega (arith, g.high); olds = g.olds; blocks = all })

-- behind an item or a failed line nothing is pending
pub pends_after : (ts : List Token) (p : Pending) (i : ℕ) → 16 ≤ (peek ts i).kind → Pends ts (passed p i (peek ts i)) (next i (peek ts i)) true [] []
unfolding passed L.flat
pends_after ts p i h =
    let j : ℕ = next i (peek ts i) in
    rw (le-leb 16 (peek ts i).kind h)
    (record { seen_is = refl; low = omega arith; high = omega arith; olds = words-none ts j j (omega arith); blocks = words-none ts j j (omega arith) })

-- ---- the body
-- the trailing comments, where p is pending behind all lines
abbrev trailing_of : List Token → Pending → List Token
trailing_of ts p = cond (is_some p.from) (between ts (begins p) (length ts)) []

-- what the lines from the index i on give, and a body of the language
pub record Tied (b : ℕ) (ts : List Token) (p : Pending) (i : ℕ) (body : A.Body Place) : Type 0 where
  pub header_is : L.flat text_words (header_from ts p (entries_at ts i)) ≡ L.flat L.located_words body.header
  pub trailing_is : L.flat text_words (trailing_of ts (passed_all p (entries_at ts i))) ≡ L.flat L.located_words body.trailing
  pub rules_are : rules_from b ts p (entries_at ts i) ≡ L.flat L.rule_words (A.expand_all b body.rules)
  pub lengths_are : lengths_from ts p (entries_at ts i) ≡ L.rule_lengths body.rules

-- no line is left
module _ (b : ℕ) (ts : List Token) (p : Pending) (i : ℕ) (old block : Comments) (end : i ≡ length ts) where
  none_left : entries_at ts i ≡ []
  none_left = entries-end ts i (omega arith)

  rest-words : (seen : Bool) → Pends ts p i seen old block → words_in ts (begins p) (length ts) ≡ L.flat L.located_words (old ++ block)
  rest-words seen g = ap (words_in ts (begins p)) (sym end) ∙ pends_all ts p i seen old block g

  tied_end : (seen : Bool) → Pends ts p i seen old block → Tied b ts p i (A.at_end seen (old ++ block))
  unfolding A.at_end header_from passed_all rules_from lengths_from A.expand_all L.rule_lengths L.flat
  tied_end true g = record {
    header_is = ap (λ (es : List Entry). L.flat text_words (header_from ts p es)) none_left ∙ ap (λ (s : Bool). L.flat text_words (cond s [] (between ts 0 (length ts)))) g.seen_is;
    trailing_is = ap (λ (es : List Entry). L.flat text_words (trailing_of ts (passed_all p es))) none_left ∙ ap (λ (s : Bool). L.flat text_words (cond s (between ts (begins p) (length ts)) [])) g.seen_is
        ∙ rest-words true g;
    rules_are = ap (rules_from b ts p) none_left;
    lengths_are = ap (lengths_from ts p) none_left;
  }
  tied_end false g = record {
    header_is = ap (λ (es : List Entry). L.flat text_words (header_from ts p es)) none_left ∙ ap (λ (s : Bool). L.flat text_words (cond s [] (between ts 0 (length ts)))) g.seen_is
        ∙ ap (λ (k : ℕ). words_in ts k (length ts)) (sym (begins_first p g.seen_is)) ∙ rest-words false g;
    trailing_is = ap (λ (es : List Entry). L.flat text_words (trailing_of ts (passed_all p es))) none_left ∙ ap (λ (s : Bool). L.flat text_words (cond s (between ts (begins p) (length ts)) [])) g.seen_is;
    rules_are = ap (rules_from b ts p) none_left;
    lengths_are = ap (lengths_from ts p) none_left;
  }

-- one line more
module _ (b : ℕ) (ts : List Token) (p : Pending) (i : ℕ) (h : i < length ts) (body : A.Body Place) (rest : Tied b ts (passed p i (peek ts i)) (next i (peek ts i)) body) where
  abbrev t : Token
  t = peek ts i

  abbrev p' : Pending
  p' = passed p i t

  abbrev es : List Entry
  es = entries_at ts (next i t)

  step : entries_at ts i ≡ entry_at ts i ∷ es
  step = entries-step ts i h

  -- its header comments
  header-on : (hs : Comments) → L.flat text_words (header_of ts p t) ≡ L.flat L.located_words hs → L.flat text_words (header_from ts p (entries_at ts i)) ≡ L.flat L.located_words (hs ++ body.header)
  unfolding header_from
  header-on hs e =
      ap (λ (es : List Entry). L.flat text_words (header_from ts p es)) step ∙ flat_append text_words (header_of ts p t) (header_from ts p' es)
      ∙ ap (λ (l : List ℕ). l ++ L.flat text_words (header_from ts p' es)) e ∙ ap (λ (l : List ℕ). L.flat L.located_words hs ++ l) rest.header_is
      ∙ sym (flat_append L.located_words hs body.header)

  trailing-on : L.flat text_words (trailing_of ts (passed_all p (entries_at ts i))) ≡ L.flat L.located_words body.trailing
  unfolding passed_all
  trailing-on = ap (λ (es : List Entry). L.flat text_words (trailing_of ts (passed_all p es))) step ∙ rest.trailing_is

  rules-on : rules_from b ts p (entries_at ts i) ≡ line_rules b ts p i t ++ L.flat L.rule_words (A.expand_all b body.rules)
  unfolding rules_from
  rules-on = ap (rules_from b ts p) step ∙ ap (λ (l : List ℕ). line_rules b ts p i t ++ l) rest.rules_are

  lengths_on : lengths_from ts p (entries_at ts i) ≡ line_length ts p i t + L.rule_lengths body.rules
  unfolding lengths_from
  lengths_on = ap (lengths_from ts p) step ∙ ap (λ (n : ℕ). line_length ts p i t + n) rest.lengths_are

  -- a line that is no rule's
  tied_other : (hs : Comments) → (t.kind ≡ 27 → ⊥) → L.flat text_words (header_of ts p t) ≡ L.flat L.located_words hs → Tied b ts p i (A.add_header hs body)
  unfolding A.add_header line_rules line_length
  tied_other hs k e = record {
    header_is = header-on hs e;
    trailing_is = trailing-on;
    rules_are = rules-on ∙ ap (λ (x : Bool). cond x (expanded b ts (lead_from p) i) [] ++ L.flat L.rule_words (A.expand_all b body.rules)) (ne_eqb t.kind 27 k);
    lengths_are = lengths_on ∙ rw (ne_eqb t.kind 27 k) (omega arith);
  }

  -- a rule's line
  module _ {text : List ℕ} (r : RawTransition Place) (q : Place) (c : Option (Located Place (List ℕ))) (m : ItemShows text ts i (transition_item r) q c) (hs lead : Comments)
      (heads : L.flat text_words (header_of ts p t) ≡ L.flat L.located_words hs) (leads : words_in ts (lead_from p) i ≡ L.flat L.located_words lead) where
    abbrev line : A.RuleLine Place
    line = record { raw = r; line = q; comment = c; leading = lead }

    is_rule : t.kind ≡ 27
    unfolding number
    is_rule = m.kind

    rule_words_lem : line_rules b ts p i t ≡ L.flat L.rule_words (A.expand b line)
    unfolding line_rules
    rule_words_lem =
        ap (λ (x : Bool). cond x (expanded b ts (lead_from p) i) []) (eq-eqb t.kind 27 is_rule) ∙ line_shown b ts (lead_from p) i r m.rule q m.line c lead m.own leads

    rule_length_lem : line_length ts p i t ≡ A.combinations r.read * L.rule_length (length r.read) 0 + 2 * length lead
    unfolding line_length
    rule_length_lem =
        rw (eq-eqb t.kind 27 is_rule, m.rule.product, m.rule.reads, leading_shown b ts (lead_from p) i r m.rule q m.line c lead m.own leads)

    tied_rule : Tied b ts p i (A.add_header hs (A.add_rule line body))
    unfolding A.add_header A.add_rule A.expand_all L.rule_lengths
    tied_rule = record {
      header_is = header-on hs heads;
      trailing_is = trailing-on;
      rules_are = rules-on ∙ ap (λ (l : List ℕ). l ++ L.flat L.rule_words (A.expand_all b body.rules)) rule_words_lem
          ∙ sym (flat_append L.rule_words (A.expand b line) (A.expand_all b body.rules));
      lengths_are = lengths_on ∙ ap (λ (n : ℕ). n + L.rule_lengths body.rules) rule_length_lem;
    }

-- ---- items
-- a declaration, or a rule
data Kinded : Item Place → Type 0 where
  declares : {k : Item Place} → number k < 11 → (Columns.parts k).rule ≡ None → Kinded k
  rule : (r : RawTransition Place) → Kinded (transition_item r)

kinded : (k : Item Place) → Kinded k
unfolding number
kinded (machine_item x) = declares {k = machine_item x} (omega arith) refl
kinded (kind_item x) = declares {k = kind_item x} (omega arith) refl
kinded (input_item x) = declares {k = input_item x} (omega arith) refl
kinded (output_item x) = declares {k = output_item x} (omega arith) refl
kinded (tapes_item x) = declares {k = tapes_item x} (omega arith) refl
kinded (states_item x) = declares {k = states_item x} (omega arith) refl
kinded (input_alphabet_item x) = declares {k = input_alphabet_item x} (omega arith) refl
kinded (tape_alphabet_item x) = declares {k = tape_alphabet_item x} (omega arith) refl
kinded (blank_item x) = declares {k = blank_item x} (omega arith) refl
kinded (start_item x) = declares {k = start_item x} (omega arith) refl
kinded (final_item x) = declares {k = final_item x} (omega arith) refl
kinded (transition_item r) = rule r

-- the header comments of each line
module _ (ts : List Token) (p : Pending) (i : ℕ) where
  header_low : (peek ts i).kind < 16 → L.flat text_words (header_of ts p (peek ts i)) ≡ []
  unfolding header_of L.flat
  header_low h = rw (lt-ltb (peek ts i).kind 16 h)

  header-failed : 32 ≤ (peek ts i).kind → L.flat text_words (header_of ts p (peek ts i)) ≡ []
  unfolding header_of L.flat
  header-failed h = rw (le-ltb (peek ts i).kind 16 (omega arith), le-ltb (peek ts i).kind 27 (omega arith), ne_eqb (peek ts i).kind 27 (λ z. omega arith))

  module _ (seen : Bool) (old block : Comments) (g : Pends ts p i seen old block) where
    header-declared : {text : List ℕ} (k : Item Place) (q : Place) (c : Option (Located Place (List ℕ))) → number k < 11 → ItemShows text ts i k q c
        → L.flat text_words (header_of ts p (peek ts i)) ≡ L.flat L.located_words (old ++ block ++ option_to_list c)
    unfolding header_of
    header-declared k q c n m =
        let t : Token = peek ts i in
        rw (le-ltb t.kind 16 (omega (arith, m.kind)), lt-ltb t.kind 27 (omega (arith, m.kind)))
        (words_join ts (begins p) i t.value (omega (arith, g.low, g.high)) (omega (arith, m.low))
        ∙ ap (λ (l : List ℕ). l ++ words_in ts i t.value) (pends_all ts p i seen old block g)
        ∙ ap (λ (l : List ℕ). L.flat L.located_words (old ++ block) ++ l) (words-other ts i t.value m.low (λ z. omega (arith, m.kind)) ∙ m.comment)
        ∙ sym (flat_append L.located_words (old ++ block) (option_to_list c)))

header-rule : (ts : List Token) (p : Pending) (i : ℕ) (seen : Bool) (old block : Comments) → Pends ts p i seen old block → (peek ts i).kind ≡ 27
    → L.flat text_words (header_of ts p (peek ts i)) ≡ L.flat L.located_words (A.unled seen old)
unfolding header_of A.unled L.flat
header-rule ts p i true old block g k =
    rw (le-ltb (peek ts i).kind 16 (omega arith), le-ltb (peek ts i).kind 27 (omega arith), eq-eqb (peek ts i).kind 27 k, g.seen_is)
header-rule ts p i false old block g k =
    rw (le-ltb (peek ts i).kind 16 (omega arith), le-ltb (peek ts i).kind 27 (omega arith), eq-eqb (peek ts i).kind 27 k, g.seen_is)
    (ap (λ (k : ℕ). words_in ts k p.block) (sym (begins_first p g.seen_is)) ∙ g.olds)

-- where the comments that lead a rule begin, as a test
lead_by : (p : Pending) → lead_from p ≡ cond (is_some p.from) (begins p) p.block
unfolding lead_from
lead_by p = go p.from
  where
    go : (o : Option ℕ) → unwrap_or o p.block ≡ cond (is_some o) (unwrap_or o 0) p.block
    go None = refl
    go (Some k) = refl

lead-rule : (ts : List Token) (p : Pending) (i : ℕ) (seen : Bool) (old block : Comments) → Pends ts p i seen old block
    → words_in ts (lead_from p) i ≡ L.flat L.located_words (A.leads seen old block)
unfolding lead_from A.leads
lead-rule ts p i true old block g = ap (λ (k : ℕ). words_in ts k i) (lead_by p) ∙ ap (λ (s : Bool). words_in ts (cond s (begins p) p.block) i) g.seen_is ∙ pends_all ts p i true old block g
lead-rule ts p i false old block g = ap (λ (k : ℕ). words_in ts k i) (lead_by p) ∙ ap (λ (s : Bool). words_in ts (cond s (begins p) p.block) i) g.seen_is ∙ g.blocks

item_tied : {text : List ℕ} (b : ℕ) (ts : List Token) (p : Pending) (i : ℕ) (seen : Bool) (old block : Comments) (k : Item Place) (q : Place) (c : Option (Located Place (List ℕ))) (body : A.Body Place)
    → i < length ts → Pends ts p i seen old block → ItemShows text ts i k q c → Kinded k → Tied b ts (passed p i (peek ts i)) (next i (peek ts i)) body
    → Tied b ts p i (A.attach_item (Columns.parts k).rule seen old block q c body)
unfolding A.attach_item number
item_tied b ts p i seen old block k q c body h g m (declares n e) rest =
    subst (λ (x : Option (RawTransition Place)). Tied b ts p i (A.attach_item x seen old block q c body)) (sym e)
    (tied_other b ts p i h body rest (old ++ block ++ option_to_list c) (λ z. omega (arith, m.kind)) (header-declared ts p i seen old block g k q c n m))
item_tied b ts p i seen old block k q c body h g m (rule r) rest =
    tied_rule b ts p i h body rest r q c m (A.unled seen old) (A.leads seen old block) (header-rule ts p i seen old block g (kind-rule m)) (lead-rule ts p i seen old block g)
  where
    kind-rule : {text : List ℕ} → ItemShows text ts i (transition_item r) q c → (peek ts i).kind ≡ 27
    kind-rule m = m.kind

-- ---- all lines
pub tied : {text : List ℕ} (b : ℕ) (ts : List Token) (i : ℕ) (ls : List (Line Place)) (p : Pending) (seen : Bool) (old block : Comments) → Shown text ts i ls → Pends ts p i seen old block
    → Tied b ts p i (A.attach seen old block ls)
unfolding A.attach A.add_header L.flat
tied b ts i [] p seen old block (lines_end e) g = tied_end b ts p i old block e seen g
tied b ts i (blank_line ∷ ls) p seen old block (lines-on h m s) g =
    tied_other b ts p i h (A.attach seen (old ++ block) [] ls) (tied b ts (next i (peek ts i)) ls (passed p i (peek ts i)) seen (old ++ block) [] s (pends_blank ts p i seen old block g m)) []
    (λ z. omega arith) (header_low ts p i (omega arith))
tied b ts i (comment_line c ∷ ls) p seen old block (lines-on h m s) g =
    tied_other b ts p i h (A.attach seen old (block ++ c ∷ []) ls)
    (tied b ts (next i (peek ts i)) ls (passed p i (peek ts i)) seen old (block ++ c ∷ []) s (pends_comment ts p i seen old block g c m)) [] (λ z. omega (arith, m.kind))
    (header_low ts p i (omega (arith, m.kind)))
tied b ts i (error_line n q ∷ ls) p seen old block (lines-on h m s) g =
    tied_other b ts p i h (A.attach true [] [] ls) (tied b ts (next i (peek ts i)) ls (passed p i (peek ts i)) true [] [] s (pends_after ts p i (omega arith))) [] (λ z. omega arith)
    (header-failed ts p i m)
tied b ts i (item_line k q c ∷ ls) p seen old block (lines-on h m s) g =
    item_tied b ts p i seen old block k q c (A.attach true [] [] ls) h g m (kinded k)
    (tied b ts (next i (peek ts i)) ls (passed p i (peek ts i)) true [] [] s (pends_after ts p i (omega (arith, m.kind))))

-- ---- the sections
module _ {text : List ℕ} (b : ℕ) (ts : List Token) (ls : List (Line Place)) (s : Shown text ts 0 ls) where
  whole : Tied b ts nothing 0 (A.body_of ls)
  unfolding A.body_of
  whole = tied b ts 0 ls nothing false [] [] s (pends_start ts)

  pub header_shown : L.flat text_words (header ts) ≡ L.flat L.located_words (A.body_of ls).header
  unfolding header entries
  header_shown = whole.header_is

  pub trailing_shown : L.flat text_words (trailing ts) ≡ L.flat L.located_words (A.body_of ls).trailing
  unfolding trailing entries
  trailing_shown = whole.trailing_is

  pub rules_shown : rules b ts ≡ L.flat L.rule_words (A.expand_all b (A.body_of ls).rules)
  unfolding rules entries
  rules_shown = whole.rules_are

  pub lengths_shown : rule_lengths ts ≡ L.rule_lengths (A.body_of ls).rules
  unfolding rule_lengths entries
  lengths_shown = whole.lengths_are

-- ---- with no diagnostic of rules all expand
pub kept-all : (n : ℕ) (rs : List (A.RuleLine Place)) → A.rule_errors n false rs ≡ [] → A.kept n rs ≡ rs
unfolding A.rule_errors A.kept
kept-all n [] e = refl
kept-all n (r ∷ rs) e = go (A.verdict n r.raw) e (λ f. kept-all (n + A.combinations r.raw.read) rs f)
  where
    go : (v : A.Verdict) → ◌≡◌ {A = List (A.Diagnostic Place)} (elim v [
      | A.expands ↦ A.rule_errors (n + A.combinations r.raw.read) false rs
      | A.wrong_arity ↦ A.diagnostic 10 r.line None ∷ A.rule_errors n false rs
      | A.too_many ↦ A.diagnostic 9 r.line None ∷ A.rule_errors n true rs
    ]) [] → (A.rule_errors (n + A.combinations r.raw.read) false rs ≡ [] → A.kept (n + A.combinations r.raw.read) rs ≡ rs)
        → elim v [ A.expands ↦ r ∷ A.kept (n + A.combinations r.raw.read) rs | A.wrong_arity ↦ A.kept n rs | A.too_many ↦ A.kept n rs ] ≡ r ∷ rs
    go A.expands f ih = ap (λ (l : List (A.RuleLine Place)). r ∷ l) (ih f)
    go A.wrong_arity f ih = absurd (let z : ◌≡◌ {A = ℕ} 0 1 = cc in omega arith)
    go A.too_many f ih = absurd (let z : ◌≡◌ {A = ℕ} 0 1 = cc in omega arith)
