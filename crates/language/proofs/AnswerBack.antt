-- An answer gives back the machine: its sections are as long as the head's counts, and the characters at each place are the machine's.
use Prim.Native.Nat.{ℕ, ◌+◌, ◌*◌, ◌<◌}
use native.Mathlib.Omega.{arith}
use mathlib.Core.Bool.{Bool, true, false, not}
use mathlib.Core.List.{List, [], ◌∷◌, ◌++◌, map, map-map, append_assoc, append-nil}
use Rattle.std.specs.Prelude.{Option, None, Some}
use mathlib.Core.Path.{◌≡◌, refl, ap, ap₂, ◌∙◌, sym}
use borrow.Author.Tests.{ne_eqb}
use lib.Dec.{eqb}
use lib.ListN.{length, get_or, take, drop, length-append}
use lib.Seq.{take_at, drop_at, drop-append-add}
use Rattle.chars.specs.Utf8.{sizes, encode, decode, valid_up_to}
use Rattle.chars.specs.Decoded.{scalars}
use Rattle.lexer.specs.Text.{codes, same}
use Rattle.chars.proofs.Theorems.{sizes-append, length-encode, decode-scalars, valid_whole}
use Rattle.lexer.specs.Tokens.{TokenKind, Token, Span, unescape, tokens, word, number, quoted, str, sign, comment, newline, unterminated_string, unterminated_quote}
use Rattle.language.specs.Machine.{Located, Dir, left, right, stay, State, Action, Rule, Symbol, Machine}
use Rattle.language.specs.Content.{StateContent, ActionContent, RuleContent, Content, value_or, optional, values, rule_content, content_of}
use Rattle.language.specs.Parser.{when}
use Rattle.language.specs.Lines.{state_in, symbol_in, string_in, ending_of, covering, read_lines}
use Rattle.language.specs.Infer.{machine_of}
use Rattle.language.specs.Layout.{place_or_none, place_words, located_words, flat, head_of, flag, state_words, symbol_words, dir_number, action_words, rule_length, rule_words, sheet_words}
use Rattle.language.specs.Agreement.{groups, records, at, dir_of, action_in, characters_at, string_at, comment_at, text_in, rule_in, content_of_answer}
use Rattle.language.specs.Agreement as A
use Rattle.language.proofs.Every.{Every, Maybe, every_any, map_ext}
use Rattle.language.proofs.ParseHolds.{Any, any_maybe, Goods, GoodEnding, lines_good}
use Rattle.language.proofs.AssemblyHolds.{GoodRuleOf, GoodMachine, machine_good}
use Rattle.language.proofs.Counts.{flat-length, rule_length_lem, symbol-length}
use Rattle.language.proofs.TokenPlaces.{Stands, stands_at, Encloses, encloses_value, Placed, tokens_placed}

-- ---- sections

-- records of k words each, n of them in a row
module _ {A : Type 0} (words : A → List ℕ) (k : ℕ) (wide : (a : A) → length (words a) ≡ k) where
  pub groups_back : (l : List A) (rest : List ℕ) → groups k (length l) (flat words l ++ rest) ≡ map words l
  unfolding groups flat
  groups_back [] rest = refl
  groups_back (a ∷ l) rest =
      let e : words a ++ flat words l ++ rest ≡ words a ++ (flat words l ++ rest) = append_assoc (words a) (flat words l) rest in
      ap₂ (λ x y. x ∷ y)
      (ap (take k) e ∙ take_at (words a) (flat words l ++ rest) k (wide a))
      (ap (groups k (length l)) (ap (drop k) e ∙ drop_at (words a) (flat words l ++ rest) k (wide a)) ∙ groups_back l rest)

  pub drop-section : (l : List A) (rest : List ℕ) (n : ℕ) → n ≡ k * length l → drop n (flat words l ++ rest) ≡ rest
  drop-section l rest n e = drop_at (flat words l) rest n (flat-length words k l (every_any _ wide l) ∙ omega (arith, e))

first : (r : Rule Span) (rest : List ℕ) → get_or (rule_words r ++ rest) 0 0 ≡ rule_length (length r.actions) (length r.leading)
unfolding rule_words
first r rest = refl

-- rules, each behind its length
pub records_back : (rs : List (Rule Span)) (rest : List ℕ) → records (length rs) (flat rule_words rs ++ rest) ≡ map rule_words rs
unfolding records flat
records_back [] rest = refl
records_back (r ∷ rs) rest =
    let e : rule_words r ++ flat rule_words rs ++ rest ≡ rule_words r ++ (flat rule_words rs ++ rest) = append_assoc (rule_words r) (flat rule_words rs) rest in
    let n : get_or (rule_words r ++ (flat rule_words rs ++ rest)) 0 0 ≡ rule_length (length r.actions) (length r.leading) = first r (flat rule_words rs ++ rest) in
    let size : length (rule_words r) ≡ rule_length (length r.actions) (length r.leading) = rule_length_lem r in
    ap₂ (λ x y. x ∷ y)
    (ap (λ l. take (get_or l 0 0) l) e ∙ ap (λ m. take m (rule_words r ++ (flat rule_words rs ++ rest))) n ∙ take_at (rule_words r) (flat rule_words rs ++ rest) _ size)
    (ap (λ l. records (length rs) (drop (get_or l 0 0) l)) e ∙ ap (λ m. records (length rs) (drop m (rule_words r ++ (flat rule_words rs ++ rest)))) n
    ∙ ap (records (length rs)) (drop_at (rule_words r) (flat rule_words rs ++ rest) _ size) ∙ records_back rs rest)

-- ---- members

map_every : {A B : Type 0} (p : A → Type 0) (f g : A → B) → ((a : A) → p a → f a ≡ g a) → (l : List A) → Every p l → map f l ≡ map g l
map_every p f g e [] h = refl
map_every p f g e (a ∷ l) h = ap₂ (λ x y. x ∷ y) (e a h.0) (map_every p f g e l h.1)

-- what stands at the places of names, strings and comments
abbrev pub placed_in : List ℕ → Goods Span
placed_in cs = record {
  name = λ l. Stands cs l.place l.value;
  text = λ l. (raw : List ℕ) × Encloses raw l.value × Stands cs l.place raw;
  sym = Any;
  note = λ l. Stands cs l.place l.value;
}

flag_back : (b : Bool) → eqb (flag b) 1 ≡ b
flag_back true = refl
flag_back false = refl

dir_back : (d : Dir) → dir_of (dir_number d) ≡ d
dir_back left = refl
dir_back right = refl
dir_back stay = refl

action_back : (a : Action Span) → action_in (action_words a) ≡ record { read = a.read.value; write = a.write.value; dir = a.dir }
unfolding action_in action_words
action_back a = ap (λ d. record { read = a.read.value; write = a.write.value; dir = d }) (dir_back a.dir)

action_length : (a : Action Span) → length (action_words a) ≡ 7
unfolding action_words
action_length a = refl

-- the eleven words before a rule's tapes
abbrev lead : Rule Span → List ℕ
lead r = rule_length (length r.actions) (length r.leading) ∷ place_words r.from.place ++ place_words r.to.place ++ place_words r.line ++ place_words (place_or_none r.comment) ++ length r.actions ∷ length r.leading ∷ []

pub state-length : (s : State Span) → length (state_words s) ≡ 3
unfolding state_words
state-length s = refl

-- the words of a rule's leading comments
pub leading_words : (r : Rule Span) → groups 2 (length r.leading) (drop (11 + 7 * length r.actions) (rule_words r)) ≡ map located_words r.leading
unfolding rule_words
leading_words r =
    let acts : List ℕ = flat action_words r.actions in
    let notes : List ℕ = flat located_words r.leading in
    let behind : drop (11 + 7 * length r.actions) (rule_words r) ≡ notes = drop-append-add (lead r) (acts ++ notes) (7 * length r.actions) ∙ drop-section action_words 7 action_length r.actions notes (7 * length r.actions) refl in
    ap (groups 2 (length r.leading)) (behind ∙ sym (append-nil notes)) ∙ groups_back located_words 2 (λ l. refl) r.leading []

-- two contents with equal parts
content_of_lem : (m : Content) {name name' input input' start start' : List ℕ} {states states' : List StateContent} {sigma sigma' gamma gamma' : List ℕ} {header header' trailing trailing' : List (List ℕ)} {rules rules' : List RuleContent}
    → name ≡ name' → input ≡ input' → start ≡ start' → states ≡ states' → sigma ≡ sigma' → gamma ≡ gamma' → header ≡ header' → trailing ≡ trailing' → rules ≡ rules'
    → ◌≡◌ {A = Content} (record { name = name; input = input; kind = m.kind; output = m.output; tapes = m.tapes; blank = m.blank; declared = m.declared; start = start; states = states; sigma = sigma; gamma = gamma; header = header; trailing = trailing; rules = rules })
    (record { name = name'; input = input'; kind = m.kind; output = m.output; tapes = m.tapes; blank = m.blank; declared = m.declared; start = start'; states = states'; sigma = sigma'; gamma = gamma'; header = header'; trailing = trailing'; rules = rules' })
content_of_lem m a b c d e f g h i = cc

-- the text: the bytes of cs, which are fewer than the number that stands for no place
module _ (cs : List ℕ) (valid : scalars cs ≡ true) (short : sizes cs < 4294967295) where
  name_back : (l : Located Span (List ℕ)) → Stands cs l.place l.value → characters_at (encode cs) l.place ≡ l.value
  name_back l h = stands_at cs l.place l.value valid h

  state_back : (s : State Span) → Stands cs s.name.place s.name.value → A.state_in (encode cs) (state_words s) ≡ record { name = s.name.value; final = s.final }
  unfolding A.state_in state_words
  state_back s h = ap₂ (λ n f. record { name = n; final = f }) (name_back s.name h) (flag_back s.final)

  text_back : (l : Located Span (List ℕ)) → Stands cs l.place l.value → text_in (encode cs) (located_words l) ≡ l.value
  unfolding text_in
  text_back l h = name_back l h

  string_back : (o : Option (Located Span (List ℕ))) → Maybe (placed_in cs).text o → string_at (encode cs) (place_or_none o) ≡ value_or o
  unfolding string_at place_or_none value_or characters_at decode unescape
  string_back None h = refl
  string_back (Some l) h = ap unescape (stands_at cs l.place h.0 valid h.2) ∙ encloses_value h.0 l.value h.1

  start_back : (o : Option (Located Span (List ℕ))) → Maybe (placed_in cs).name o → characters_at (encode cs) (place_or_none o) ≡ value_or o
  unfolding place_or_none value_or characters_at decode
  start_back None h = refl
  start_back (Some l) h = name_back l h

  starts_below : (p : Span) (w : List ℕ) → Stands cs p w → p.start < 4294967295
  starts_below p w h = omega (arith, short, h.start_is, ap sizes h.parts, sizes-append h.before (w ++ h.behind))

  comment_back : (o : Option (Located Span (List ℕ))) → Maybe (placed_in cs).note o → comment_at (encode cs) (place_or_none o) ≡ optional o
  unfolding comment_at place_or_none optional
  comment_back None h = refl
  comment_back (Some l) h =
      let below : l.place.start < 4294967295 = starts_below l.place l.value h in
      let off : eqb l.place.start 4294967295 ≡ false = ne_eqb l.place.start 4294967295 (λ q. omega (arith, below, q)) in
      rw (off, comment_at) (ap Some (name_back l h))

  rule_back : (r : Rule Span) → GoodRuleOf (placed_in cs) r → rule_in (encode cs) (rule_words r) ≡ rule_content r
  unfolding rule_in rule_words rule_content values
  rule_back r h =
      let acts : List ℕ = flat action_words r.actions in
      let notes : List ℕ = flat located_words r.leading in
      let from : characters_at (encode cs) r.from.place ≡ r.from.value = name_back r.from h.from_good in
      let to : characters_at (encode cs) r.to.place ≡ r.to.value = name_back r.to h.to_good in
      let own : comment_at (encode cs) (place_or_none r.comment) ≡ optional r.comment = comment_back r.comment h.comment_good in
      let tapes : map action_in (groups 7 (length r.actions) (acts ++ notes)) ≡ map (λ a. record { read = a.read.value; write = a.write.value; dir = a.dir }) r.actions =
      ap (map action_in) (groups_back action_words 7 action_length r.actions notes) ∙ map-map action_in action_words r.actions ∙ map_ext action_back r.actions in
      let led : map (text_in (encode cs)) (groups 2 (length r.leading) (drop (11 + 7 * length r.actions) (rule_words r))) ≡ values r.leading =
      ap (map (text_in (encode cs))) (leading_words r)
      ∙ map-map (text_in (encode cs)) located_words r.leading
      ∙ map_every (placed_in cs).note (λ l. text_in (encode cs) (located_words l)) (λ l. l.value) text_back r.leading h.leading_good in
      rule_of_lem from to own led tapes
    where
      rule_of_lem : {f f' t t' : List ℕ} {c c' : Option (List ℕ)} {l l' : List (List ℕ)} {a a' : List ActionContent} → f ≡ f' → t ≡ t' → c ≡ c' → l ≡ l' → a ≡ a'
          → ◌≡◌ {A = RuleContent} (record { from = f; to = t; comment = c; leading = l; actions = a }) (record { from = f'; to = t'; comment = c'; leading = l'; actions = a' })
      rule_of_lem p q u v w = cc

  -- ---- the whole answer

  module _ (m : Machine Span) (good : GoodMachine (placed_in cs) m) (rest : List ℕ) where
    unfoldable pub rule_words_on : List ℕ
    rule_words_on = flat rule_words m.rules ++ rest

    unfoldable pub trailing_on : List ℕ
    trailing_on = flat located_words m.trailing ++ rule_words_on

    unfoldable pub header_on : List ℕ
    header_on = flat located_words m.header ++ trailing_on

    unfoldable pub gamma_on : List ℕ
    gamma_on = flat symbol_words m.gamma ++ (flat place_words m.finals ++ header_on)

    unfoldable pub sigma_on : List ℕ
    sigma_on = flat symbol_words m.sigma ++ gamma_on

    pub sections : sheet_words m ++ rest ≡ flat state_words m.states ++ sigma_on
    unfolding sheet_words sigma_on gamma_on header_on trailing_on rule_words_on
    sections = simp append_assoc

    pub sigma-at : drop (3 * length m.states) (sheet_words m ++ rest) ≡ sigma_on
    sigma-at = ap (drop (3 * length m.states)) sections ∙ drop-section state_words 3 state-length m.states sigma_on (3 * length m.states) refl

    gamma-at : drop (3 * length m.sigma) (drop (3 * length m.states) (sheet_words m ++ rest)) ≡ gamma_on
    unfolding sigma_on
    gamma-at = ap (drop (3 * length m.sigma)) sigma-at ∙ drop-section symbol_words 3 symbol-length m.sigma gamma_on (3 * length m.sigma) refl

    pub header_at : drop (3 * length m.gamma + 2 * length m.finals) (drop (3 * length m.sigma) (drop (3 * length m.states) (sheet_words m ++ rest))) ≡ header_on
    unfolding gamma_on
    header_at =
        let n : ℕ = 3 * length m.gamma + 2 * length m.finals in
        ap (drop n) (gamma-at ∙ sym (append_assoc (flat symbol_words m.gamma) (flat place_words m.finals) header_on))
        ∙ drop_at (flat symbol_words m.gamma ++ flat place_words m.finals) header_on n (length-append (flat symbol_words m.gamma) (flat place_words m.finals) ∙ omega (arith, flat-length symbol_words 3 m.gamma (every_any _ symbol-length m.gamma), flat-length place_words 2 m.finals (every_any _ (λ p. refl) m.finals)))

    pub trailing_at : drop (2 * length m.header) (drop (3 * length m.gamma + 2 * length m.finals) (drop (3 * length m.sigma) (drop (3 * length m.states) (sheet_words m ++ rest)))) ≡ trailing_on
    unfolding header_on
    trailing_at = ap (drop (2 * length m.header)) header_at ∙ drop-section located_words 2 (λ l. refl) m.header trailing_on (2 * length m.header) refl

    pub rules-at : drop (2 * length m.trailing) (drop (2 * length m.header) (drop (3 * length m.gamma + 2 * length m.finals) (drop (3 * length m.sigma) (drop (3 * length m.states) (sheet_words m ++ rest))))) ≡ rule_words_on
    unfolding trailing_on
    rules-at = ap (drop (2 * length m.trailing)) trailing_at ∙ drop-section located_words 2 (λ l. refl) m.trailing rule_words_on (2 * length m.trailing) refl

    notes_back : (l : List (Located Span (List ℕ))) (more : List ℕ) → Every (placed_in cs).note l → map (text_in (encode cs)) (groups 2 (length l) (flat located_words l ++ more)) ≡ values l
    unfolding values
    notes_back l more h =
        ap (map (text_in (encode cs))) (groups_back located_words 2 (λ l. refl) l more)
        ∙ map-map (text_in (encode cs)) located_words l
        ∙ map_every (placed_in cs).note (λ l. text_in (encode cs) (located_words l)) (λ l. l.value) text_back l h

    codes_back : (l : List (Symbol Span)) (more : List ℕ) → map (λ ws. at ws 0) (groups 3 (length l) (flat symbol_words l ++ more)) ≡ map (λ s. s.code) l
    unfolding symbol_words
    codes_back l more = ap (map (λ ws. at ws 0)) (groups_back symbol_words 3 symbol-length l more) ∙ map-map (λ ws. at ws 0) symbol_words l

    -- the answer stands for the machine
    pub answer_back : content_of_answer (record { head = head_of m; sheet = sheet_words m ++ rest; text = encode cs }) ≡ content_of m
    unfolding content_of_answer head_of content_of sigma_on gamma_on header_on trailing_on rule_words_on
    answer_back = content_of_lem (content_of m)
        (string_back m.name good.name_good)
        (string_back m.input good.input_good)
        (start_back m.start good.start_good)
        (ap (λ l. map (A.state_in (encode cs)) (groups 3 (length m.states) l)) sections
        ∙ ap (map (A.state_in (encode cs))) (groups_back state_words 3 state-length m.states sigma_on)
        ∙ map-map (A.state_in (encode cs)) state_words m.states
        ∙ map_every (λ s. Stands cs s.name.place s.name.value) (λ s. A.state_in (encode cs) (state_words s)) (λ s. record { name = s.name.value; final = s.final }) state_back m.states good.states_good)
        (ap (λ l. map (λ ws. at ws 0) (groups 3 (length m.sigma) l)) sigma-at ∙ codes_back m.sigma gamma_on)
        (ap (λ l. map (λ ws. at ws 0) (groups 3 (length m.gamma) l)) gamma-at ∙ codes_back m.gamma (flat place_words m.finals ++ header_on))
        (ap (λ l. map (text_in (encode cs)) (groups 2 (length m.header) l)) header_at ∙ notes_back m.header trailing_on good.header_good)
        (ap (λ l. map (text_in (encode cs)) (groups 2 (length m.trailing) l)) trailing_at ∙ notes_back m.trailing rule_words_on good.trailing_good)
        (ap (λ l. map (rule_in (encode cs)) (records (length m.rules) l)) rules-at
        ∙ ap (map (rule_in (encode cs))) (records_back m.rules rest)
        ∙ map-map (rule_in (encode cs)) rule_words m.rules
        ∙ map_every (GoodRuleOf (placed_in cs)) (λ r. rule_in (encode cs) (rule_words r)) rule_content rule_back m.rules good.rules_good)

-- ---- every text that is read

when_maybe : {A : Type 0} (q : A → Type 0) (b : Bool) (a : A) → q a → Maybe q (when b a)
when_maybe q true a h = h
when_maybe q false a h = tt

module _ (cs : List ℕ) (place inner : Span) where
  abbrev token : TokenKind → Token Span
  token k = record { kind = k; place = place; inner = inner }

  name_view : (k : TokenKind) → Placed cs (token k) → Maybe (λ w. Stands cs place w) (state_in k)
  unfolding state_in
  name_view (word w) h = when_maybe (λ w. Stands cs place w) (not (same w (codes "_"))) w h
  name_view (number w) h = tt
  name_view (comment s) h = tt
  name_view (str v) h = tt
  name_view (quoted c) h = tt
  name_view (sign c) h = tt
  name_view newline h = tt
  name_view unterminated_string h = tt
  name_view unterminated_quote h = tt

  text_view : (k : TokenKind) → Placed cs (token k) → Maybe (λ v. (placed_in cs).text (record { value = v; place = inner })) (string_in k)
  unfolding string_in
  text_view (word w) h = tt
  text_view (number w) h = tt
  text_view (comment s) h = tt
  text_view (str v) h = h
  text_view (quoted c) h = tt
  text_view (sign c) h = tt
  text_view newline h = tt
  text_view unterminated_string h = tt
  text_view unterminated_quote h = tt

  note_view : (k : TokenKind) → Placed cs (token k) → GoodEnding (λ s. Stands cs inner s) (ending_of k)
  unfolding ending_of
  note_view (word w) h = tt
  note_view (number w) h = tt
  note_view (comment s) h = h
  note_view (str v) h = tt
  note_view (quoted c) h = tt
  note_view (sign c) h = tt
  note_view newline h = tt
  note_view unterminated_string h = tt
  note_view unterminated_quote h = tt

-- the names, strings and comments of a text stand where the machine says
pub machine_placed : (cs : List ℕ) → GoodMachine (placed_in cs) (machine_of (read_lines cs))
unfolding read_lines
machine_placed cs =
    machine_good (placed_in cs) (read_lines cs) (lines_good (Placed cs) (placed_in cs)
    (λ t h. name_view cs t.place t.inner t.kind h)
    (λ t h. any_maybe (symbol_in t.kind))
    (λ t h. text_view cs t.place t.inner t.kind h)
    (λ t h. note_view cs t.place t.inner t.kind h)
    covering (tokens cs) (tokens_placed cs))

-- the answer to a UTF-8 text, whatever stands behind the words of its sheet, stands for the machine that the text describes
pub answer_of_text : (t rest : List ℕ) → valid_up_to t ≡ length t → length t < 4294967295
    → content_of_answer (record { head = head_of (machine_of (read_lines (decode t))); sheet = sheet_words (machine_of (read_lines (decode t))) ++ rest; text = t }) ≡ content_of (machine_of (read_lines (decode t)))
answer_of_text t rest valid short =
    let m : Machine Span = machine_of (read_lines (decode t)) in
    ap (λ x. content_of_answer (record { head = head_of m; sheet = sheet_words m ++ rest; text = x })) (sym (valid_whole t valid))
    ∙ answer_back (decode t) (decode-scalars t) (omega (arith, short, sym (length-encode (decode t)), ap length (valid_whole t valid))) m (machine_placed (decode t)) rest
