-- The rules of a line are the language's, word by word.
use mathlib.Core.Path.{◌≡◌, refl, sym, ap, ◌∙◌}
use mathlib.Core.List.{List, [], ◌∷◌, ◌++◌, map}
use Rattle.std.specs.Prelude.{Option, None}
use Prim.Native.Nat.{ℕ, suc, ◌+◌, ◌*◌}
use native.Mathlib.Omega.{arith}
use lib.ListN.{length}
use Rattle.diag.specs.declared.Span.{Span}
use Rattle.tokens.specs.declared.Token.{Token}
use Rattle.parser.specs.Row.{peek}
use Rattle.language.specs.Machine.{Located, Dir, Action}
use Rattle.language.specs.Lines.{RawSymbol, RawTransition}
use Rattle.language.specs.Assembly as A
use Rattle.language.specs.Layout as L
use Rattle.assembler.specs.Rows.{place_of}
use Rattle.sheet.specs.Comments.{text_words, between}
use Rattle.sheet.specs.Rules.{written, move_of, first_entry, rule_at, sets_of, own_place, tape_words, tapes_words, places_words, head_words, rule_words, dressed, expanded}
use Rattle.sheet_theorems.proofs.Shows.{Both, no_members, members, SymbolShows, WriteShows, MoveShows, every_second, RuleShows}
use Rattle.sheet.proofs.CommentLaws.{length_texts}

-- ---- lists that correspond
module _ {X Y : Type 0} (R : X → Y → Type 0) where
  pub both_append : {l : List X} {m : List Y} {l' : List X} {m' : List Y} → Both R l m → Both R l' m' → Both R (l ++ l') (m ++ m')
  both_append no_members q = q
  both_append (members r p) q = members r (both_append p q)

  pub both_length : {l : List X} {m : List Y} → Both R l m → length l ≡ length m
  both_length no_members = refl
  both_length (members r p) = ap suc (both_length p)

-- corresponding sets have corresponding choices, as long as the sets are many
module _ {X Y : Type 0} (R : X → Y → Type 0) where
  abbrev pub Long : ℕ → List X → List Y → Type 0
  Long n l m = Both R l m × (length m ≡ n)

  both_front : (n : ℕ) {a : X} {b : Y} {ls : List (List X)} {ms : List (List Y)} → R a b → Both (Long n) ls ms → Both (Long (suc n)) (map (λ l. a ∷ l) ls) (map (λ m. b ∷ m) ms)
  both_front n r no_members = no_members
  both_front n r (members p q) = members (members r p.0, ap suc p.1) (both_front n r q)

  both_each : (n : ℕ) {s : List X} {t : List Y} {ls : List (List X)} {ms : List (List Y)} → Both R s t → Both (Long n) ls ms → Both (Long (suc n)) (A.each_front s ls) (A.each_front t ms)
  unfolding A.each_front
  both_each n no_members q = no_members
  both_each n (members r p) q = both_append (Long (suc n)) (both_front n r q) (both_each n p q)

  pub both_choices : {ss : List (List X)} {ts : List (List Y)} → Both (Both R) ss ts → Both (Long (length ts)) (A.choices ss) (A.choices ts)
  unfolding A.choices
  both_choices no_members = members (no_members, refl) no_members
  both_choices (members {m = ts} p q) = both_each (length ts) p (both_choices q)

-- ---- the tapes
tape_shown : (b : ℕ) (t : Token) (s : Located Span RawSymbol) (w : Token) (x : Located Span (Option RawSymbol)) (d : Token) (y : Located Span Dir) → SymbolShows t s → WriteShows w x
    → MoveShows d y → tape_words b t w d ≡ L.action_words (record {
      read = record { value = A.resolve b s.value; place = s.place };
      write = record { value = A.written b s.value x.value; place = x.place };
      dir = y.value;
    })
unfolding tape_words L.action_words
tape_shown b t s w x d y p q r =
    let read : ℕ = A.resolve b s.value in
    let write : ℕ = A.written b s.value x.value in
    ap (λ (n : ℕ). n ∷ t.start ∷ t.end ∷ written b t w ∷ w.start ∷ w.end ∷ move_of d ∷ []) (p.code b)
    ∙ ap (λ (l : List ℕ). read ∷ l ++ written b t w ∷ w.start ∷ w.end ∷ move_of d ∷ []) p.place
    ∙ ap (λ (n : ℕ). read ∷ s.place.start ∷ s.place.end ∷ n ∷ w.start ∷ w.end ∷ move_of d ∷ []) (q.code b t s.value (p.code b))
    ∙ ap (λ (l : List ℕ). read ∷ s.place.start ∷ s.place.end ∷ write ∷ l ++ move_of d ∷ []) q.place
    ∙ ap (λ (n : ℕ). read ∷ s.place.start ∷ s.place.end ∷ write ∷ x.place.start ∷ x.place.end ∷ n ∷ []) r

pub tapes_shown : (b : ℕ) (ts : List Token) (w d : ℕ) (rs : List Token) (ss : List (Located Span RawSymbol)) (xs : List (Located Span (Option RawSymbol))) (ys : List (Located Span Dir))
    → Both SymbolShows rs ss → Both WriteShows (every_second ts w xs) xs → Both MoveShows (every_second ts d ys) ys → length xs ≡ length ss → length ys ≡ length ss
    → tapes_words b ts w d rs ≡ L.flat L.action_words (A.actions b ss xs ys)
unfolding tapes_words every_second L.flat A.actions
tapes_shown b ts w d [] [] [] [] no_members p q h g = refl
tapes_shown b ts w d [] (s ∷ ss) xs ys m p q h g = elim m [ ]
tapes_shown b ts w d (r ∷ rs) [] xs ys m p q h g = elim m [ ]
tapes_shown b ts w d [] [] (x ∷ xs) ys no_members p q h g = absurd (omega arith)
tapes_shown b ts w d [] [] [] (y ∷ ys) no_members p q h g = absurd (omega arith)
tapes_shown b ts w d (r ∷ rs) (s ∷ ss) [] ys (members e es) p q h g = absurd (omega arith)
tapes_shown b ts w d (r ∷ rs) (s ∷ ss) (x ∷ xs) [] (members e es) p q h g = absurd (omega arith)
tapes_shown b ts w d (r ∷ rs) (s ∷ ss) (x ∷ xs) (y ∷ ys) (members e es) (members p ps) (members q qs) h g =
    ap (λ (l : List ℕ). l ++ tapes_words b ts (w + 2) (d + 2) rs) (tape_shown b r s (peek ts w) x (peek ts d) y e p q)
    ∙ ap (λ (l : List ℕ). L.action_words (record {
      read = record { value = A.resolve b s.value; place = s.place };
      write = record { value = A.written b s.value x.value; place = x.place };
      dir = y.value;
    }) ++ l) (tapes_shown b ts (w + 2) (d + 2) rs ss xs ys es ps qs (omega arith) (omega arith))

actions-length : (b : ℕ) (ss : List (Located Span RawSymbol)) (xs : List (Located Span (Option RawSymbol))) (ys : List (Located Span Dir)) → length xs ≡ length ss → length ys ≡ length ss
    → length (A.actions b ss xs ys) ≡ length ss
unfolding A.actions
actions-length b [] xs ys h g = refl
actions-length b (s ∷ ss) [] ys h g = absurd (omega arith)
actions-length b (s ∷ ss) (x ∷ xs) [] h g = absurd (omega arith)
actions-length b (s ∷ ss) (x ∷ xs) (y ∷ ys) h g = ap suc (actions-length b ss xs ys (omega arith) (omega arith))

-- ---- a rule
length-located : (cs : List (Located Span (List ℕ))) → length (L.flat L.located_words cs) ≡ 2 * length cs
unfolding L.flat
length-located [] = refl
length-located (c ∷ cs) = omega (arith, length-located cs)

module _ (b : ℕ) (ts : List Token) (i : ℕ) (r : RawTransition Span) (m : RuleShows ts i r) (n : ℕ) (p : Span) (line : L.place_words (place_of (peek ts i)) ≡ L.place_words p)
    (c : Option (Located Span (List ℕ))) (cs : List (Located Span (List ℕ))) where
  abbrev rule_line : A.RuleLine Span
  rule_line = record { raw = r; line = p; comment = c; leading = cs }

  module _ (own : Option (Located Span (List ℕ))) (o : Span) (lead : List (Located Span (List ℕ))) (ls : List Token) (rs : List Token) (ss : List (Located Span RawSymbol))
      (same-own : L.place_words o ≡ L.place_words (L.place_or_none own)) (same-lead : L.flat text_words ls ≡ L.flat L.located_words lead) (same_read : Both SymbolShows rs ss)
      (arity : length ss ≡ length r.read) where
    abbrev made : List (Action Span)
    made = A.actions b ss r.write r.dir

    same_length : length made ≡ length rs
    same_length = actions-length b ss r.write r.dir (m.writes ∙ sym arity) (m.dirs ∙ sym arity) ∙ sym (both_length SymbolShows same_read)

    few : length ls ≡ length lead
    few = omega (arith, length_texts ls, length-located lead, ap length same-lead)

    head_shown : head_words ts (rule_at ts i n) o (length rs) (length ls)
        ≡ L.rule_length (length made) (length lead) ∷ L.place_words r.from.place ++ L.place_words r.to.place ++ L.place_words p ++ L.place_words (L.place_or_none own)
        ++ length made ∷ length lead ∷ []
    unfolding head_words places_words rule_at
    head_shown =
        let q : Token = peek ts (peek ts (i + 3)).start in
        ap (λ (l : List ℕ). L.rule_length (length rs) (length ls) ∷ l ++ L.place_words (place_of q) ++ L.place_words (place_of (peek ts i)) ++ L.place_words o ++ length rs ∷ length ls ∷ []) m.from
        ∙ ap (λ (l : List ℕ). L.rule_length (length rs) (length ls) ∷ L.place_words r.from.place ++ l ++ L.place_words (place_of (peek ts i)) ++ L.place_words o ++ length rs ∷ length ls ∷ []) m.to
        ∙ ap (λ (l : List ℕ). L.rule_length (length rs) (length ls) ∷ L.place_words r.from.place ++ L.place_words r.to.place ++ l ++ L.place_words o ++ length rs ∷ length ls ∷ []) line
        ∙ ap (λ (l : List ℕ). L.rule_length (length rs) (length ls) ∷ L.place_words r.from.place ++ L.place_words r.to.place ++ L.place_words p ++ l ++ length rs ∷ length ls ∷ []) same-own
        ∙ ap (λ (k : ℕ). L.rule_length (length rs) k ∷ L.place_words r.from.place ++ L.place_words r.to.place ++ L.place_words p ++ L.place_words (L.place_or_none own) ++ length rs ∷ k ∷ []) few
        ∙ ap (λ (k : ℕ). L.rule_length k (length lead) ∷ L.place_words r.from.place ++ L.place_words r.to.place ++ L.place_words p ++ L.place_words (L.place_or_none own) ++ k ∷ length lead ∷ []) (sym same_length)

    pub rule_shown : rule_words b ts (rule_at ts i n) o ls rs ≡ L.rule_words (A.rule_of b rule_line own lead ss)
    unfolding rule_words L.rule_words A.rule_of rule_at
    rule_shown =
        let q : Token = peek ts (i + 3) in
        let tapes : tapes_words b ts (first_entry ts q.end) (first_entry ts q.value) rs ≡ L.flat L.action_words made =
        tapes_shown b ts (first_entry ts q.end) (first_entry ts q.value) rs ss r.write r.dir same_read m.write m.dir (m.writes ∙ sym arity) (m.dirs ∙ sym arity) in
        ap (λ (l : List ℕ). l ++ (tapes_words b ts (first_entry ts q.end) (first_entry ts q.value) rs ++ L.flat text_words ls)) head_shown
        ∙ ap (λ (l : List ℕ). (L.rule_length (length made) (length lead) ∷ L.place_words r.from.place ++ L.place_words r.to.place ++ L.place_words p ++ L.place_words (L.place_or_none own)
        ++ length made ∷ length lead ∷ []) ++ (l ++ L.flat text_words ls)) tapes
        ∙ ap (λ (l : List ℕ). (L.rule_length (length made) (length lead) ∷ L.place_words r.from.place ++ L.place_words r.to.place ++ L.place_words p ++ L.place_words (L.place_or_none own)
        ++ length made ∷ length lead ∷ []) ++ (L.flat L.action_words made ++ l)) same-lead

  more_shown : (rss : List (List Token)) (sss : List (List (Located Span RawSymbol))) → Both (Long SymbolShows (length r.read)) rss sss
      → L.flat (rule_words b ts (rule_at ts i n) L.no_place []) rss ≡ L.flat L.rule_words (map (A.rule_of b rule_line None []) sss)
  unfolding L.flat L.place_or_none
  more_shown [] [] no_members = refl
  more_shown [] (ss ∷ sss) m = elim m [ ]
  more_shown (rs ∷ rss) [] m = elim m [ ]
  more_shown (rs ∷ rss) (ss ∷ sss) (members e es) =
      ap (λ (l : List ℕ). l ++ L.flat (rule_words b ts (rule_at ts i n) L.no_place []) rss) (rule_shown None L.no_place [] [] rs ss refl refl e.0 e.1)
      ∙ ap (λ (l : List ℕ). L.rule_words (A.rule_of b rule_line None [] ss) ++ l) (more_shown rss sss es)

  dressed_shown : (o : Span) (ls : List Token) (rss : List (List Token)) (sss : List (List (Located Span RawSymbol))) → L.place_words o ≡ L.place_words (L.place_or_none c)
      → L.flat text_words ls ≡ L.flat L.located_words cs → Both (Long SymbolShows (length r.read)) rss sss → dressed b ts (rule_at ts i n) o ls rss ≡ L.flat L.rule_words (A.dressed b rule_line sss)
  unfolding dressed A.dressed L.flat
  dressed_shown o ls [] [] p q no_members = refl
  dressed_shown o ls [] (ss ∷ sss) p q m = elim m [ ]
  dressed_shown o ls (rs ∷ rss) [] p q m = elim m [ ]
  dressed_shown o ls (rs ∷ rss) (ss ∷ sss) p q (members e es) =
      ap (λ (l : List ℕ). l ++ L.flat (rule_words b ts (rule_at ts i n) L.no_place []) rss) (rule_shown c o cs ls rs ss p q e.0 e.1)
      ∙ ap (λ (l : List ℕ). L.rule_words (A.rule_of b rule_line c cs ss) ++ l) (more_shown rss sss es)

-- the rules of a line
module _ (b : ℕ) (ts : List Token) (l i : ℕ) (r : RawTransition Span) (m : RuleShows ts i r) (p : Span) (line : L.place_words (place_of (peek ts i)) ≡ L.place_words p)
    (c : Option (Located Span (List ℕ))) (cs : List (Located Span (List ℕ))) (own : L.place_words (own_place ts i) ≡ L.place_words (L.place_or_none c))
    (lead : L.flat text_words (between ts l i) ≡ L.flat L.located_words cs) where
  pub line_shown : expanded b ts l i ≡ L.flat L.rule_words (A.expand b (record { raw = r; line = p; comment = c; leading = cs }))
  unfolding expanded A.expand
  line_shown =
      dressed_shown b ts i r m (length (sets_of ts i)) p line c cs (own_place ts i) (between ts l i) (A.choices (sets_of ts i)) (A.choices r.read) own lead (both_choices SymbolShows m.read)

  pub leading_shown : length (between ts l i) ≡ length cs
  leading_shown = omega (arith, length_texts (between ts l i), length-located cs, ap length lead)
