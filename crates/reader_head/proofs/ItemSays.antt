-- The tokens behind an entry say of the head what its item declares: the line parser took each of them for what was due.
use Rattle.machine.specs.declared.Kind.{Kind as MachineKind}
use Rattle.machine.specs.declared.Kind.TheVariants.{Transducer}
use Rattle.machine.specs.declared.BitOrder.TheVariants.{Lsb}
use Rattle.machine.specs.declared.Decoder.TheVariants.{Unary, Binary}
use Rattle.parser.proofs.Lists.{done_same}
use Rattle.parser.specs.Lines.{Done, Read}
use Rattle.std.proofs.Common.{◌≡◌, ℕ, suc, ◌+◌, ◌^◌, ◌<◌, ◌≤◌, min, Bool, true, false, cond, eqb, leb, List, [], map, length, sym, refl, ap, ◌∙◌, subst, arith, get_or-drop}
use Rattle.std.specs.Prelude.{Option, None, Some}
use Rattle.diag.proofs.Cases.{by_test_lem}
use Rattle.diag.specs.declared.Span.{Span as Place}
use Rattle.lexer.specs.Tokens.{TokenKind, word, number, quoted, str, sign, comment, newline, unterminated_string, unterminated_quote, Token as Lexed}
use Rattle.lexer.specs.Words.{word_value, value, kind_number, token_value}
use Rattle.lexer.proofs.Placed.{Placed, All, all-at}
use Rattle.tokens.specs.declared.Token.{Token}
use Rattle.parser.specs.declared.ItemKind.{ItemKind}
use Rattle.parser.specs.declared.ItemKind.TheVariants.{Machine, Kind, Input, Output, Tapes, States, InputAlphabet, TapeAlphabet, Blank, Start, Final, Transition}
use Rattle.parser.specs.declared.Item.{Item as Found}
use Rattle.parser.specs.Row.{peek, ended}
use Rattle.parser.specs.Views.{is_kind, is_choice, is_state, is_symbol}
use Rattle.parser.specs.Lines as P
use Rattle.parser.specs.Meaning.{token_of, nothing, at, or_else, located, text_of, decoder_at, item_means, SoundAs, Sound, AllLexed}
use Rattle.parser.proofs.Tables.{Codes}
use Rattle.parser.proofs.Views.{is_some, sees_string, sees_number, sees_symbol}
use Rattle.parser.proofs.Keywords.{codes_of_lem, sees_kind, output_rows, output-rule, sees_output, sees_order}
use Rattle.language.specs.Machine.{Located}
use Rattle.language.specs.Lines.{RawSymbol, raw_blank, RawDecoder, raw_word, raw_unary, raw_binary, OutputWord, word_output, unary_output, binary_output, Text, Item, meaning_of, string_in, word_in, number_in, symbol_in, state_in, kinds, outputs, orders}
use Rattle.language.specs.Assembly as A
use Rattle.language.proofs.Columns
use Rattle.language.specs.Infer.{tapes_of, resolve_decoder}
use Rattle.assembler.specs.Entries.{Entry}
use Rattle.assembler.proofs.Braces.{one_done}
use Rattle.assembler.proofs.Inside.{then_done, LineIn, line_in}
use Rattle.assembler.proofs.EntriesMean.{Tokens, sound_all, lexed_sound, peek-map}
use Rattle.sheet.specs.Rules.{resolve}
use Rattle.sheet_theorems.proofs.Shows.{Said}
use Rattle.sheet_theorems.proofs.TokensShow.{symbol-code}
use Rattle.sheet_theorems.proofs.ItemTaken.{Taken as ValueTaken, item-taken}
use Rattle.sheet_theorems.proofs.LineTokens.{by_rule}
use Rattle.reader_head.specs.Heads as H
use Rattle.reader_head.specs.Heads.{kind_of, order_of, decoder_of}
use Rattle.assembler.specs.Rows as R
use Rattle.reader_head.proofs.HeadMeans as HM
use Rattle.reader_head.proofs.TokenSays.{string_says, found_row, kind_says, order_says, output_of, output_says, number_says}

-- ---- a line that holds an item: what was parsed
-- a value of one token, at the index v
module _ (ts : List Token) (f : Token → Bool) (v : ℕ) (x : Found) where
  pub record Taken : Type 0 where
    pub seen : f (peek ts v) ≡ true
    pub value : x.value ≡ v
    pub end : x.end ≡ v + 1
    pub newline : v + 1 ≤ x.newline

  taken : x.end ≤ x.newline → ValueTaken (P.one f) ts v x → Taken
  taken h t = let o = one_done f ts v x.end t.count t.read in record { seen = o.1; value = t.value; end = o.0; newline = omega (arith, o.0) }

-- the output: a word, and for unary and binary one token more
module _ (ts : List Token) (x : Found) where
  pub record OutputTaken : Type 0 where
    pub choice : is_choice 0x110014 0x110016 (peek ts 1) ≡ true
    pub value : x.value ≡ 1
    pub end : 2 ≤ x.end
    pub newline : 2 ≤ x.newline
    pub unary : eqb (peek ts 1).value 0x110015 ≡ true → (is_symbol (peek ts 2) ≡ true) × (x.end ≡ 3) × (3 ≤ x.newline)
    pub binary : eqb (peek ts 1).value 0x110015 ≡ false → eqb (peek ts 1).value 0x110016 ≡ true → (is_choice 0x110017 0x110018 (peek ts 2) ≡ true) × (x.end ≡ 3) × (3 ≤ x.newline)

  output-taken : x.end ≤ x.newline → ValueTaken P.output ts 1 x → OutputTaken
  unfolding P.output
  output-taken h t =
      then_done (P.one (is_choice 0x110014 0x110016) ts 1)
      (λ j _. cond (eqb (peek ts 1).value 0x110015) (P.one is_symbol ts j) (cond (eqb (peek ts 1).value 0x110016) (P.one (is_choice 0x110017 0x110018) ts j) (Done j 1)))
      x.end t.count t.read λ a n p q.
      let c = one_done (is_choice 0x110014 0x110016) ts 1 a n p in
      let two : a ≡ 2 = omega (arith, c.0) in
      let third : (f : Token → Bool) → P.one f ts a ≡ Done x.end t.count → (f (peek ts 2) ≡ true) × (x.end ≡ 3) × (3 ≤ x.newline) = λ f e.
      let o = one_done f ts a x.end t.count e in (ap (λ (k : ℕ). f (peek ts k)) (sym two) ∙ o.1, omega (arith, o.0), omega (arith, o.0)) in
      let high : 2 ≤ x.end =
      by_test_lem (eqb (peek ts 1).value 0x110015) (λ y. omega (arith, (third is_symbol (rw y at q)).1)) λ m.
      by_test_lem (eqb (peek ts 1).value 0x110016) (λ y. omega (arith, (third (is_choice 0x110017 0x110018) (rw (m, y) at q)).1)) λ k.
      let z : Done a 1 ≡ Done x.end t.count = rw (m, k) at q in
      let w : a ≡ x.end = (done_same z).0 in
      omega arith in
      record {
        choice = c.1;
        value = t.value;
        end = high;
        newline = omega arith;
        unary = λ y. third is_symbol (rw y at q);
        binary = λ m y. third (is_choice 0x110017 0x110018) (rw (m, y) at q);
      }

-- ---- the tokens of a text
sound_at : (l : Tokens) (i : ℕ) → AllLexed l → i < length l → Sound (at l i)
sound_at l i a h = all-at Sound l i nothing (sound_all l (lexed_sound l a)) h

-- what a view says, where it says something
with_some : {B X : Type 0} (o : Option B) → is_some o ≡ true → ((b : B) → o ≡ Some b → X) → X
with_some None e f = absurd (let z : ◌≡◌ {A = ℕ} 0 1 = cc in omega arith)
with_some (Some b) e f = f b refl

never : {B X : Type 0} (b : B) → None ≡ Some b → X
never b e = absurd (let z : ◌≡◌ {A = ℕ} 0 1 = cc in omega arith)

-- ---- what one token says, by its kind
module _ (p q : Place) where
  abbrev words : TokenKind → Token
  words k = token_of (record { kind = k; place = p; inner = q })

  word_token : {B C : Type 0} (t : List (List ℕ × B)) (F : ℕ → C) (G : B → C) → ((w : List ℕ) (b : B) → Codes w → meaning_of t w ≡ Some b → F (word_value w) ≡ G b)
      → (k : TokenKind) (b : B) → SoundAs k p → word_in t k ≡ Some b → F (words k).value ≡ G b
  unfolding token_of kind_number token_value word_in
  word_token t F G says (word w) b s e = says w b (codes_of_lem w p s) e
  word_token t F G says (number w) b s e = never b e
  word_token t F G says (quoted c) b s e = never b e
  word_token t F G says (str v) b s e = never b e
  word_token t F G says (sign c) b s e = never b e
  word_token t F G says (comment v) b s e = never b e
  word_token t F G says newline b s e = never b e
  word_token t F G says unterminated_string b s e = never b e
  word_token t F G says unterminated_quote b s e = never b e

  number_token : (k : TokenKind) (n : ℕ) (r : Place) → number_in k ≡ Some n → cond (leb (words k).value 255) (words k).value 1 ≡ tapes_of (Some (record { value = n; place = r }))
  unfolding token_of kind_number token_value number_in
  number_token (number w) n r e = let z : min (value w) 18446744073709551615 ≡ n = cc in number_says w r ∙ ap (λ (n : ℕ). tapes_of (Some (record { value = n; place = r }))) z
  number_token (word w) n r e = never n e
  number_token (quoted c) n r e = never n e
  number_token (str v) n r e = never n e
  number_token (sign c) n r e = never n e
  number_token (comment v) n r e = never n e
  number_token newline n r e = never n e
  number_token unterminated_string n r e = never n e
  number_token unterminated_quote n r e = never n e

-- the words of an output by their values
abbrev is_unary : OutputWord → Bool
is_unary word_output = false
is_unary unary_output = true
is_unary binary_output = false

abbrev is_binary : OutputWord → Bool
is_binary word_output = false
is_binary unary_output = false
is_binary binary_output = true

unary_value : (w : List ℕ) (o : OutputWord) → Codes w → meaning_of outputs w ≡ Some o → eqb (word_value w) 0x110015 ≡ is_unary o
unary_value w o c e = found_row (λ v. eqb v 0x110015) is_unary output_rows (word_value w) o (refl, (refl, (refl, tt))) (output-rule w c ∙ e)

binary_value : (w : List ℕ) (o : OutputWord) → Codes w → meaning_of outputs w ≡ Some o → eqb (word_value w) 0x110016 ≡ is_binary o
binary_value w o c e = found_row (λ v. eqb v 0x110016) is_binary output_rows (word_value w) o (refl, (refl, (refl, tt))) (output-rule w c ∙ e)

-- the decoder of a word and the third token
abbrev decoded_as : List (Lexed Place) → OutputWord → RawDecoder
decoded_as l word_output = raw_word
decoded_as l unary_output = raw_unary (located symbol_in raw_blank (at l 2)).value
decoded_as l binary_output = raw_binary (located (word_in orders) Lsb (at l 2)).value

decoder_is : (l : List (Lexed Place)) (o : OutputWord) → word_in outputs (at l 1).kind ≡ Some o → decoder_at l 1 ≡ decoded_as l o
unfolding decoder_at
decoder_is l o q = by_word (located (word_in outputs) word_output (at l 1)).value ∙ ap (decoded_as l) (ap (or_else word_output) q)
  where
    by_word : (o : OutputWord) → elim o [ word_output ↦ raw_word | unary_output ↦ raw_unary (located symbol_in raw_blank (at l 2)).value | binary_output ↦ raw_binary (located (word_in orders) Lsb (at l 2)).value ] ≡ decoded_as l o
    by_word word_output = refl
    by_word unary_output = refl
    by_word binary_output = refl

-- ---- the tokens behind an entry, as the row shows them
module _ (text : List ℕ) (short : length text < 2 ^ 32) (e : Entry) (l : Tokens) (x : Found) (lexed : AllLexed l) (placed : All (Placed text) l) (low : x.end ≤ length l)
    (plain : (r : ℕ) → suc r ≤ x.newline → peek e.rest r ≡ token_of (at l (suc r))) where
  abbrev W : List Token
  W = map token_of l

  -- a token that was taken
  module _ (f : Token → Bool) (v : ℕ) (t : Taken W f (suc v) x) where
    inside : suc v < length l
    inside = omega (arith, t.end)

    seen : f (token_of (at l (suc v))) ≡ true
    seen = ap f (sym (peek-map l (suc v))) ∙ t.seen

    token : peek e.rest v ≡ token_of (at l (suc v))
    token = plain v (omega (arith, t.newline))

    value_is : at l x.value ≡ at l (suc v)
    value_is = ap (at l) t.value

  text_taken : Taken W (is_kind 3) 1 x → (y : Text Place) → Some (text_of (at l x.value)) ≡ Some y
      → (H.text_of (peek e.rest 0) ≡ y.value.place) × (R.place_of (peek e.rest 0) ≡ y.place)
  unfolding token_of
  text_taken t y h =
      let z : text_of (at l x.value) ≡ y = cc in
      let s : is_some (string_in (at l 1).kind) ≡ true = sym (sees_string (at l 1).kind (at l 1).place (at l 1).inner (sound_at l 1 lexed (inside (is_kind 3) 0 t))) ∙ seen (is_kind 3) 0 t in
      let y-is : text_of (at l 1) ≡ y = ap text_of (sym (value_is (is_kind 3) 0 t)) ∙ z in
      with_some (string_in (at l 1).kind) s (λ v q. (
        ap (λ (w : Token). H.text_of w) (token (is_kind 3) 0 t)
            ∙ string_says text (at l 1).kind (at l 1).place (at l 1).inner (all-at (Placed text) l 1 nothing placed (inside (is_kind 3) 0 t)) short v q
            ∙ ap (λ (y : Text Place). y.value.place) y-is,
        ap R.place_of (token (is_kind 3) 0 t) ∙ ap (λ (y : Text Place). y.place) y-is,
      ))

  kind-taken : Taken W (is_choice 0x110010 0x110013) 1 x → (y : MachineKind) → Some (located (word_in kinds) Transducer (at l x.value)).value ≡ Some y → kind_of (peek e.rest 0).value ≡ y
  kind-taken t y h =
      let c = is_choice 0x110010 0x110013 in
      let z : (located (word_in kinds) Transducer (at l x.value)).value ≡ y = cc in
      let i = inside c 0 t in
      let s : is_some (word_in kinds (at l 1).kind) ≡ true = sym (sees_kind (at l 1).kind (at l 1).place (at l 1).inner (sound_at l 1 lexed i)) ∙ seen c 0 t in
      with_some (word_in kinds (at l 1).kind) s (λ k q.
      ap (λ (w : Token). kind_of w.value) (token c 0 t)
      ∙ word_token (at l 1).place (at l 1).inner kinds kind_of (λ k. k) kind_says (at l 1).kind k (sound_at l 1 lexed i) q
      ∙ sym (ap (or_else Transducer) q) ∙ sym (ap (λ (t : Lexed Place). or_else Transducer (word_in kinds t.kind)) (value_is c 0 t)) ∙ z)

  tapes-taken : Taken W (is_kind 1) 2 x → (y : Located Place ℕ) → Some (located number_in 0 (at l x.value)) ≡ Some y
      → (cond (leb (peek e.rest 1).value 255) (peek e.rest 1).value 1 ≡ tapes_of (Some y)) × (R.place_of (peek e.rest 1) ≡ y.place)
  unfolding token_of
  tapes-taken t y h =
      let z : located number_in 0 (at l x.value) ≡ y = cc in
      let i = inside (is_kind 1) 1 t in
      let y-is : located number_in 0 (at l 2) ≡ y = ap (located number_in 0) (sym (value_is (is_kind 1) 1 t)) ∙ z in
      let s : is_some (number_in (at l 2).kind) ≡ true = sym (sees_number (at l 2).kind (at l 2).place (at l 2).inner (sound_at l 2 lexed i)) ∙ seen (is_kind 1) 1 t in
      with_some (number_in (at l 2).kind) s (λ n q. (
        ap (λ (w : Token). cond (leb w.value 255) w.value 1) (token (is_kind 1) 1 t)
            ∙ number_token (at l 2).place (at l 2).inner (at l 2).kind n (at l 2).place q
            ∙ sym (ap (λ (o : Option ℕ). tapes_of (Some (record { value = or_else 0 o; place = (at l 2).place }))) q) ∙ ap (λ (y : Located Place ℕ). tapes_of (Some y)) y-is,
        ap R.place_of (token (is_kind 1) 1 t) ∙ ap (λ (y : Located Place ℕ). y.place) y-is,
      ))

  blank_taken : Taken W is_symbol 2 x → (y : RawSymbol) → Some (located symbol_in raw_blank (at l x.value)).value ≡ Some y → resolve 0x2423 (peek e.rest 1) ≡ A.resolve 0x2423 y
  blank_taken t y h =
      let z : (located symbol_in raw_blank (at l x.value)).value ≡ y = cc in
      let i = inside is_symbol 1 t in
      let s : is_some (symbol_in (at l 2).kind) ≡ true = sym (sees_symbol (at l 2).kind (at l 2).place (at l 2).inner (sound_at l 2 lexed i)) ∙ seen is_symbol 1 t in
      with_some (symbol_in (at l 2).kind) s (λ b q.
      ap (resolve 0x2423) (token is_symbol 1 t)
      ∙ symbol-code (at l 2).kind (at l 2).place (at l 2).inner b 0x2423 (all-at (Placed text) l 2 nothing placed i).good q
      ∙ ap (A.resolve 0x2423) (sym (ap (or_else raw_blank) q) ∙ sym (ap (λ (t : Lexed Place). or_else raw_blank (symbol_in t.kind)) (value_is is_symbol 1 t)) ∙ z))

  start-taken : Taken W is_state 2 x → (y : Located Place (List ℕ)) → Some (located state_in [] (at l x.value)) ≡ Some y → R.place_of (peek e.rest 1) ≡ y.place
  unfolding token_of
  start-taken t y h =
      let z : located state_in [] (at l x.value) ≡ y = cc in
      ap R.place_of (token is_state 1 t) ∙ sym (ap (λ (t : Lexed Place). t.place) (value_is is_state 1 t)) ∙ ap (λ (y : Located Place (List ℕ)). y.place) z

  -- the output: a word, and for unary and binary one token more
  module _ (t : OutputTaken W x) (b : ℕ) where
    first_in : 1 < length l
    first_in = omega (arith, t.end)

    first_word : peek e.rest 0 ≡ token_of (at l 1)
    first_word = plain 0 (omega (arith, t.newline))

    outputs-say : (o : OutputWord) → word_in outputs (at l 1).kind ≡ Some o → decoder_of b (peek e.rest 0).value (peek e.rest 1) ≡ output_of b (peek e.rest 1) o
    outputs-say o q =
        ap (λ (w : Token). decoder_of b w.value (peek e.rest 1)) first_word
        ∙ word_token (at l 1).place (at l 1).inner outputs (λ v. decoder_of b v (peek e.rest 1)) (output_of b (peek e.rest 1)) (output_says b (peek e.rest 1)) (at l 1).kind o
        (sound_at l 1 lexed first_in) q

    -- which word a token is, by its value
    value_test : (n : ℕ) (G : OutputWord → Bool) → ((w : List ℕ) (o : OutputWord) → Codes w → meaning_of outputs w ≡ Some o → eqb (word_value w) n ≡ G o)
        → (o : OutputWord) → word_in outputs (at l 1).kind ≡ Some o → eqb (peek W 1).value n ≡ G o
    value_test n G says o q =
        ap (λ (w : Token). eqb w.value n) (peek-map l 1)
        ∙ word_token (at l 1).place (at l 1).inner outputs (λ v. eqb v n) G says (at l 1).kind o (sound_at l 1 lexed first_in) q

    decoder_says : (o : OutputWord) → word_in outputs (at l 1).kind ≡ Some o → output_of b (peek e.rest 1) o ≡ resolve_decoder b (decoder_at l 1)
    unfolding decoder_at resolve_decoder
    decoder_says word_output q = sym (ap (resolve_decoder b) (decoder_is l word_output q))
    decoder_says unary_output q =
        let u = t.unary (value_test 0x110015 is_unary unary_value unary_output q) in
        let i : 2 < length l = omega (arith, u.1) in
        let s : is_some (symbol_in (at l 2).kind) ≡ true =
        sym (sees_symbol (at l 2).kind (at l 2).place (at l 2).inner (sound_at l 2 lexed i)) ∙ ap is_symbol (sym (peek-map l 2)) ∙ u.0 in
        with_some (symbol_in (at l 2).kind) s (λ c r.
        ap (λ (w : Token). Unary (resolve b w)) (plain 1 (omega (arith, u.2)))
        ∙ ap Unary (symbol-code (at l 2).kind (at l 2).place (at l 2).inner c b (all-at (Placed text) l 2 nothing placed i).good r ∙ ap (A.resolve b) (sym (ap (or_else raw_blank) r)))
        ∙ sym (ap (resolve_decoder b) (decoder_is l unary_output q)))
    decoder_says binary_output q =
        let u = t.binary (value_test 0x110015 is_unary unary_value binary_output q) (value_test 0x110016 is_binary binary_value binary_output q) in
        let i : 2 < length l = omega (arith, u.1) in
        let s : is_some (word_in orders (at l 2).kind) ≡ true =
        sym (sees_order (at l 2).kind (at l 2).place (at l 2).inner (sound_at l 2 lexed i)) ∙ ap (is_choice 0x110017 0x110018) (sym (peek-map l 2)) ∙ u.0 in
        with_some (word_in orders (at l 2).kind) s (λ c r.
        ap (λ (w : Token). Binary (order_of w.value)) (plain 1 (omega (arith, u.2)))
        ∙ ap Binary (word_token (at l 2).place (at l 2).inner orders order_of (λ o. o) order_says (at l 2).kind c (sound_at l 2 lexed i) r ∙ sym (ap (or_else Lsb) r))
        ∙ sym (ap (resolve_decoder b) (decoder_is l binary_output q)))

    output_says_all : (y : RawDecoder) → Some (decoder_at l x.value) ≡ Some y → decoder_of b (peek e.rest 0).value (peek e.rest 1) ≡ resolve_decoder b y
    output_says_all y h =
        let z : decoder_at l x.value ≡ y = cc in
        let s : is_some (word_in outputs (at l 1).kind) ≡ true =
        sym (sees_output (at l 1).kind (at l 1).place (at l 1).inner (sound_at l 1 lexed first_in)) ∙ ap (is_choice 0x110014 0x110016) (sym (peek-map l 1)) ∙ t.choice in
        with_some (word_in outputs (at l 1).kind) s (λ o q. outputs-say o q ∙ decoder_says o q ∙ ap (λ (v : ℕ). resolve_decoder b (decoder_at l v)) (sym t.value) ∙ ap (resolve_decoder b) z)

  -- ---- by the item's kind
  module _ (read : P.line W 0 ≡ Read x) where
    behind : x.end ≤ x.newline
    behind = (subst (LineIn W) read (line_in W)).behind

    says_as : (k : ItemKind) → x.kind ≡ k → HM.Says e (Columns.parts (item_means l k x.value x.end x.parts))
    unfolding item_means
    says_as Machine q = let t = taken W (is_kind 3) 1 x behind (item-taken W x read Machine q) in record { machine = λ y h. (text_taken t y h).0; kind = λ y h. never y h; input = λ y h. never y h; output = λ y h. never y h; tapes = λ y h. never y h; blank = λ y h. never y h; start = λ y h. never y h }
    says_as Kind q = let t = taken W (is_choice 0x110010 0x110013) 1 x behind (item-taken W x read Kind q) in record { machine = λ y h. never y h; kind = kind-taken t; input = λ y h. never y h; output = λ y h. never y h; tapes = λ y h. never y h; blank = λ y h. never y h; start = λ y h. never y h }
    says_as Input q = let t = taken W (is_kind 3) 1 x behind (item-taken W x read Input q) in record { machine = λ y h. never y h; kind = λ y h. never y h; input = text_taken t; output = λ y h. never y h; tapes = λ y h. never y h; blank = λ y h. never y h; start = λ y h. never y h }
    says_as Output q = let t = output-taken W x behind (item-taken W x read Output q) in record { machine = λ y h. never y h; kind = λ y h. never y h; input = λ y h. never y h; output = λ y h b. output_says_all t b y h; tapes = λ y h. never y h; blank = λ y h. never y h; start = λ y h. never y h }
    says_as Tapes q = let t = taken W (is_kind 1) 2 x behind (item-taken W x read Tapes q) in record { machine = λ y h. never y h; kind = λ y h. never y h; input = λ y h. never y h; output = λ y h. never y h; tapes = tapes-taken t; blank = λ y h. never y h; start = λ y h. never y h }
    says_as States q = record { machine = λ y h. never y h; kind = λ y h. never y h; input = λ y h. never y h; output = λ y h. never y h; tapes = λ y h. never y h; blank = λ y h. never y h; start = λ y h. never y h }
    says_as InputAlphabet q = record { machine = λ y h. never y h; kind = λ y h. never y h; input = λ y h. never y h; output = λ y h. never y h; tapes = λ y h. never y h; blank = λ y h. never y h; start = λ y h. never y h }
    says_as TapeAlphabet q = record { machine = λ y h. never y h; kind = λ y h. never y h; input = λ y h. never y h; output = λ y h. never y h; tapes = λ y h. never y h; blank = λ y h. never y h; start = λ y h. never y h }
    says_as Blank q = let t = taken W is_symbol 2 x behind (item-taken W x read Blank q) in record { machine = λ y h. never y h; kind = λ y h. never y h; input = λ y h. never y h; output = λ y h. never y h; tapes = λ y h. never y h; blank = blank_taken t; start = λ y h. never y h }
    says_as Start q = let t = taken W is_state 2 x behind (item-taken W x read Start q) in record { machine = λ y h. never y h; kind = λ y h. never y h; input = λ y h. never y h; output = λ y h. never y h; tapes = λ y h. never y h; blank = λ y h. never y h; start = start-taken t }
    says_as Final q = record { machine = λ y h. never y h; kind = λ y h. never y h; input = λ y h. never y h; output = λ y h. never y h; tapes = λ y h. never y h; blank = λ y h. never y h; start = λ y h. never y h }
    says_as Transition q = record { machine = λ y h. never y h; kind = λ y h. never y h; input = λ y h. never y h; output = λ y h. never y h; tapes = λ y h. never y h; blank = λ y h. never y h; start = λ y h. never y h }

-- a rule says nothing of the head, so that its changed tokens do not matter
rule_says : (e : Entry) (l : Tokens) (x : Found) → x.kind ≡ Transition → HM.Says e (Columns.parts (item_means l x.kind x.value x.end x.parts))
unfolding item_means
rule_says e l x q =
    subst (λ (k : ItemKind). HM.Says e (Columns.parts (item_means l k x.value x.end x.parts))) (sym q)
    (record { machine = λ y h. never y h; kind = λ y h. never y h; input = λ y h. never y h; output = λ y h. never y h; tapes = λ y h. never y h; blank = λ y h. never y h; start = λ y h. never y h })

-- the tokens behind an entry say of the head what its item declares
pub said_says : (text : List ℕ) → length text < 2 ^ 32 → (ts : List Token) (e : Entry) (k : Item Place) → Said text ts e k → HM.Says e (Columns.parts k)
said_says text short ts e k s =
    let m = s.1 in
    let x = m.found in
    let here : (r : ℕ) → peek e.rest r ≡ peek ts (e.at + suc r) = λ r.
    let z : suc e.at + r ≡ e.at + suc r = omega arith in ap (λ (e : Entry). peek e.rest r) s.2 ∙ get_or-drop (suc e.at) ts r ended ∙ ap (peek ts) z in
    subst (λ (k : Item Place). HM.Says e (Columns.parts k)) m.means
    (by_rule x.kind (rule_says e m.tokens x)
    (λ n p. says_as text short e m.tokens x m.lexed m.placed m.low (λ r h. here r ∙ m.plain n r h) m.read x.kind refl))
