-- Inferring again changes nothing: the content of what a plain form says is the content that was written.
use Prim.Native.Nat.{ℕ}
use mathlib.Core.Bool.{Bool, true, false, ◌&&◌, ◌||◌, not, false≢true}
use mathlib.Core.List.{List, [], ◌∷◌, ◌++◌, map}
use Rattle.std.specs.Prelude.{Option, None, Some, unwrap_or, option_to_list, is_some}
use mathlib.Core.Path.{◌≡◌, refl, ap, ap₂, ◌∙◌, sym, fun_ext}
use borrow.Author.Tests.{eqb-true, eq-eqb}
use lib.Dec.{eqb, leb}
use Rattle.std.proofs.Math.Bool.{and-true, and-false}
use Rattle.lexer.specs.Text.{same}
use Rattle.machine.specs.declared.Decoder.{Decoder}
use Rattle.machine.specs.declared.Decoder.TheVariants.{Word, Unary, Binary}
use Rattle.language.specs.Content.{StateContent, RuleContent, Content}
use Rattle.language.specs.Parser.{when}
use Rattle.language.specs.Lines.{RawSymbol, glyph}
use Rattle.language.specs.Assembly.{resolve}
use Rattle.language.specs.Infer.{member, fresh, nothing, resolve_decoder}
use Rattle.language.specs.Plain.{final_names}
use Rattle.language.proofs.Every.{by_test, or_left, or_right, Every, All, every_impl}
use Rattle.language.proofs.PlainParse.{raw_decoder}
use Rattle.language.proofs.Fresh as F
use Rattle.language.proofs.Facts.{Facts, mentions_c, marked_c, used_c, candidates_c, with_blank_c, gamma_c, sigma_c, tapes_c, blank_c, names_c, start_c, content_from}

-- ---- equality of names

pub same_refl : (w : List ℕ) → same w w ≡ true
same_refl [] = refl
same_refl (c ∷ w) = rw (eq-eqb c c refl) (same_refl w)

pub same-eq : (v w : List ℕ) → same v w ≡ true → v ≡ w
same-eq [] [] e = refl
same-eq [] (y ∷ w) e = absurd (false≢true e)
same-eq (x ∷ v) [] e = absurd (false≢true e)
same-eq (x ∷ v) (y ∷ w) e = by_test (eqb x y) (λ t. ap₂ (λ a b. a ∷ b) (eqb-true x y t) (same-eq v w (rw t at e))) (λ t. absurd (false≢true (rw t at e)))

-- ---- lists of names

abbrev Names : Type 0
Names = List (List ℕ)

abbrev Test : Type 0
Test = List ℕ → Bool

-- the members that pass the test
unfoldable pub keep : Test → Names → Names
keep p [] = []
keep p (x ∷ l) = elim (p x) [ true ↦ x ∷ keep p l | false ↦ keep p l ]

-- known by p or in l
abbrev grow : Test → Names → Test
grow p l = λ y. member same l y || p y

or_known : (a c : Bool) → (a ≡ true → c ≡ true) → (a || c) ≡ c
or_known true c e = sym (e refl)
or_known false c e = refl

-- a known name makes nothing more known
known_more : (p : Test) (x : List ℕ) → p x ≡ true → (λ y. same x y || p y) ≡ p
known_more p x h = fun_ext (λ y. or_known (same x y) (p y) (λ e. ap p (sym (same-eq x y e)) ∙ h))

fresh-append : (p : Test) (l r : Names) → fresh same p (l ++ r) ≡ fresh same p l ++ fresh same (grow p l) r
fresh-append = F.fresh-append same same_refl same-eq

fresh_known : (p : Test) (l r : Names) → All p l → fresh same p (l ++ r) ≡ fresh same p r
fresh_known = F.fresh_known same same_refl same-eq

-- what q leaves out p leaves out too
fresh_under : (p q : Test) → ((y : List ℕ) → q y ≡ true → p y ≡ true) → (l : Names) → fresh same p (fresh same q l) ≡ fresh same p l
fresh_under = F.fresh_under same same_refl same-eq

fresh-fresh : (p : Test) (l : Names) → fresh same p (fresh same p l) ≡ fresh same p l
fresh-fresh p l = fresh_under p p (λ y e. e) l

keep_all : (p : Test) (l : Names) → All p l → keep p l ≡ l
unfolding keep
keep_all p [] h = refl
keep_all p (x ∷ l) h = rw (h.0, keep) (ap (λ t. x ∷ t) (keep_all p l h.1))

keep_append : (p : Test) (l r : Names) → keep p (l ++ r) ≡ keep p l ++ keep p r
unfolding keep
keep_append p [] r = refl
keep_append p (x ∷ l) r = by_test (p x) (λ e. rw (e, keep) (ap (λ t. x ∷ t) (keep_append p l r))) (λ e. rw (e, keep) (keep_append p l r))

pub fresh_every : (q : List ℕ → Type 0) (p : Test) (l : Names) → Every q l → Every q (fresh same p l)
fresh_every = F.fresh_every same same_refl same-eq

pub keep_every : (q : List ℕ → Type 0) (p : Test) (l : Names) → Every q l → Every q (keep p l)
unfolding keep
keep_every q p [] h = tt
keep_every q p (x ∷ l) h = by_test (p x) (λ e. rw (e, keep) (h.0, keep_every q p l h.1)) (λ e. rw (e, keep) (keep_every q p l h.1))

pub member_self : (l : Names) → All (member same l) l
member_self = F.member_self same same_refl same-eq

-- ---- F in state order gives the same states

-- states from the mentions xs and then from D; and from xs and those of D in state order
infer_stable : (xs D : Names) → fresh same nothing (xs ++ keep (member same D) (fresh same nothing (xs ++ D))) ≡ fresh same nothing (xs ++ D)
infer_stable xs D =
    let K : Test = grow nothing xs in
    let known : All K xs = every_impl (λ a. member same xs a ≡ true) (λ a. K a ≡ true) (λ a e. or_left (member same xs a) false e) xs (member_self xs) in
    let first : Names = fresh same nothing xs in
    fresh-append nothing xs (keep (member same D) (fresh same nothing (xs ++ D)))
    ∙ ap (λ t. first ++ t)
    (ap (λ t. fresh same K (keep (member same D) t)) (fresh-append nothing xs D)
    ∙ (ap (fresh same K) (keep_append (member same D) first (fresh same K D))
    ∙ (fresh_known K (keep (member same D) first) (keep (member same D) (fresh same K D)) (keep_every (λ a. K a ≡ true) (member same D) first (fresh_every (λ a. K a ≡ true) nothing xs known))
    ∙ (ap (fresh same K) (keep_all (member same D) (fresh same K D) (fresh_every (λ a. member same D a ≡ true) K D (member_self D)))
    ∙ fresh-fresh K D))))
    ∙ sym (fresh-append nothing xs D)

-- the final states in state order are the first mentions that F lists
pub finals_keep : (f known : Test) (l : Names) → final_names (marked_c f known l) ≡ keep f (fresh same known l)
unfolding final_names marked_c keep fresh
finals_keep f known [] = refl
finals_keep f known (q ∷ l) =
    let rest = finals_keep f (λ y. same q y || known y) l in
    by_test (known q)
    (λ e. let again = rest ∙ ap (λ k. keep f (fresh same k l)) (known_more known q e) in rw (e, fresh) (by_test (f q) (λ g. rw g again) (λ g. rw g again)))
    (λ e. rw (e, fresh) (by_test (f q) (λ g. rw (g, keep) (ap (λ t. q ∷ t) rest)) (λ g. rw (g, keep) rest)))

pub names_marked : (f known : Test) (l : Names) → map (λ s. s.name) (marked_c f known l) ≡ l
unfolding marked_c
names_marked f known [] = refl
names_marked f known (q ∷ l) = ap (λ t. q ∷ t) (names_marked f (λ y. same q y || known y) l)

marked_ext : (f g known : Test) (l : Names) → Every (λ q. f q ≡ g q) l → marked_c f known l ≡ marked_c g known l
unfolding marked_c
marked_ext f g known [] h = refl
marked_ext f g known (q ∷ l) h =
    ap₂ (λ (b : Bool) (t : List StateContent). record { name = q; final = b && not (known q) } ∷ t) h.0 (marked_ext f g (λ y. same q y || known y) l h.1)

-- ---- members

member_keep : (f : Test) (l : Names) (x : List ℕ) → member same (keep f l) x ≡ (member same l x && f x)
unfolding member keep
member_keep f [] x = refl
member_keep f (y ∷ l) x = by_test (same y x)
    (λ e. by_test (f y)
    (λ g. rw (g, keep) (rw (e, sym (ap f (same-eq y x e)) ∙ g)))
    (λ g. rw (g, keep) (member_keep f l x ∙ (ap (λ b. member same l x && b) (sym (ap f (same-eq y x e)) ∙ g) ∙ (and-false (member same l x) ∙ rw (e, sym (ap f (same-eq y x e)) ∙ g))))))
    (λ e. by_test (f y) (λ g. rw (g, keep) (rw e (member_keep f l x))) (λ g. rw (g, keep) (rw e (member_keep f l x))))

member-fresh : (p : Test) (l : Names) (x : List ℕ) → member same (fresh same p l) x ≡ (member same l x && not (p x))
unfolding member fresh
member-fresh p [] x = refl
member-fresh p (y ∷ l) x = by_test (same y x)
    (λ e. by_test (p y)
    (λ g. rw (g, fresh) (member-fresh p l x ∙ (ap (λ b. member same l x && not b) (sym (ap p (same-eq y x e)) ∙ g) ∙ (and-false (member same l x) ∙ rw (e, sym (ap p (same-eq y x e)) ∙ g)))))
    (λ g. rw (g, fresh) (rw (e, sym (ap p (same-eq y x e)) ∙ g))))
    (λ e. by_test (p y)
    (λ g. rw (g, fresh) (rw e (member-fresh p l x)))
    (λ g. rw (g, fresh) (rw e (member-fresh (λ z. same y z || p z) l x ∙ rw e))))

-- F in state order marks the same states
final_again : (f : Test) (l : Names) → Every (λ q. member same (fresh same nothing (final_names (marked_c f nothing l))) q ≡ f q) l
final_again f l = every_impl (λ q. member same l q ≡ true) (λ q. member same (fresh same nothing (final_names (marked_c f nothing l))) q ≡ f q) (λ q e.
    ap (λ t. member same (fresh same nothing t) q) (finals_keep f nothing l)
    ∙ (member-fresh nothing (keep f (fresh same nothing l)) q ∙ (and-true (member same (keep f (fresh same nothing l)) q)
    ∙ (member_keep f (fresh same nothing l) q ∙ ap (λ b. b && f q) (member-fresh nothing l q ∙ (and-true (member same l q) ∙ e)))))) l (member_self l)

pub states_again : (f : Test) (l : Names) → marked_c (member same (fresh same nothing (final_names (marked_c f nothing l)))) nothing l ≡ marked_c f nothing l
states_again f l = marked_ext (member same (fresh same nothing (final_names (marked_c f nothing l)))) f nothing l (final_again f l)

-- ---- what a plain form says

unfoldable pub plain_facts : Content → Facts
unfolding final_names
plain_facts m = record {
  name = Some m.name;
  input = Some m.input;
  kind = Some m.kind;
  output = Some (raw_decoder m.output);
  tapes = Some m.tapes;
  states = when m.declared.states (map (λ s. s.name) m.states);
  finals = final_names m.states;
  sigma = when m.declared.input_alphabet (map glyph m.sigma);
  gamma = when m.declared.tape_alphabet (map glyph m.gamma);
  blank = when m.declared.blank (glyph m.blank);
  start = when m.declared.start m.start;
  header = m.header;
  trailing = m.trailing;
  rules = m.rules;
}

some-when : {A : Type 0} (b : Bool) (a : A) → is_some (when b a) ≡ b
some-when true a = refl
some-when false a = refl

glyphs_back : (b : ℕ) (l : List ℕ) → map (resolve b) (map glyph l) ≡ l
unfolding resolve
glyphs_back b [] = refl
glyphs_back b (c ∷ l) = ap (λ t. c ∷ t) (glyphs_back b l)

blank_again : (o : Option RawSymbol) → blank_c (when (is_some o) (glyph (blank_c o))) ≡ blank_c o
unfolding blank_c
blank_again None = refl
blank_again (Some s) = refl

decoder_again : (b : ℕ) (d : Decoder) → resolve_decoder b (raw_decoder d) ≡ d
unfolding resolve_decoder
decoder_again b Word = refl
decoder_again b (Unary c) = refl
decoder_again b (Binary o) = refl

tapes_few : (n : ℕ) → leb n 255 ≡ true → tapes_c (Some n) ≡ n
unfolding tapes_c
tapes_few n e = rw (e, tapes_c)

tapes_many : (n : ℕ) → leb n 255 ≡ false → tapes_c (Some n) ≡ 1
unfolding tapes_c
tapes_many n e = rw (e, tapes_c)

tapes_again : (o : Option ℕ) → tapes_c (Some (tapes_c o)) ≡ tapes_c o
unfolding tapes_c
tapes_again None = refl
tapes_again (Some n) = by_test (leb n 255) (λ e. ap (λ t. tapes_c (Some t)) (tapes_few n e)) (λ e. ap (λ t. tapes_c (Some t)) (tapes_many n e) ∙ sym (tapes_many n e))

sigma_again : (b : ℕ) (o : Option (List RawSymbol)) (g : List ℕ) → sigma_c b (when (is_some o) (map glyph (sigma_c b o g))) g ≡ sigma_c b o g
unfolding sigma_c
sigma_again b None g = refl
sigma_again b (Some s) g = glyphs_back b (map (resolve b) s)

candidates_again : (b : ℕ) (o : Option (List RawSymbol)) (g : List ℕ) (rs : List RuleContent) (i : List ℕ) → candidates_c b (when (is_some o) (map glyph (sigma_c b o g))) rs i ≡ candidates_c b o rs i
unfolding candidates_c sigma_c
candidates_again b None g rs i = refl
candidates_again b (Some s) g rs i = ap (λ t. t ++ used_c rs) (glyphs_back b (map (resolve b) s))

member_last : (b : ℕ) (l : List ℕ) → member eqb (l ++ b ∷ []) b ≡ true
unfolding member
member_last b [] = or_left (eqb b b) false (eq-eqb b b refl)
member_last b (c ∷ l) = or_right (eqb c b) (member eqb (l ++ b ∷ []) b) (member_last b l)

with_there : (b : ℕ) (l : List ℕ) → member eqb l b ≡ true → with_blank_c b l ≡ l
unfolding with_blank_c
with_there b l e = rw (e, with_blank_c)

with_last : (b : ℕ) (l : List ℕ) → member eqb l b ≡ false → with_blank_c b l ≡ l ++ b ∷ []
unfolding with_blank_c
with_last b l e = rw (e, with_blank_c)

with_again : (b : ℕ) (l : List ℕ) → with_blank_c b (with_blank_c b l) ≡ with_blank_c b l
with_again b l = by_test (member eqb l b)
    (λ e. ap (with_blank_c b) (with_there b l e))
    (λ e. ap (with_blank_c b) (with_last b l e) ∙ (with_there b (l ++ b ∷ []) (member_last b l) ∙ sym (with_last b l e)))

gamma_again : (b : ℕ) (o : Option (List RawSymbol)) (cs : List ℕ) → gamma_c b (when (is_some o) (map glyph (gamma_c b o cs))) cs ≡ gamma_c b o cs
unfolding gamma_c
gamma_again b None cs = refl
gamma_again b (Some g) cs = ap (with_blank_c b) (glyphs_back b (with_blank_c b (map (resolve b) g))) ∙ with_again b (map (resolve b) g)

start_again : (o : Option (List ℕ)) (names : Names) → start_c (when (is_some o) (start_c o names)) names ≡ start_c o names
unfolding start_c
start_again None names = refl
start_again (Some w) names = refl

fresh_inner : (xs l : Names) → fresh same nothing (xs ++ fresh same nothing l) ≡ fresh same nothing (xs ++ l)
fresh_inner xs l =
    fresh-append nothing xs (fresh same nothing l)
    ∙ (ap (λ t. fresh same nothing xs ++ t) (fresh_under (grow nothing xs) nothing (λ y e. absurd (false≢true e)) l) ∙ sym (fresh-append nothing xs l))

-- states, declared or not
names-inferred : (xs D : Names) → let names = fresh same nothing (xs ++ D) in fresh same nothing (xs ++ fresh same nothing (final_names (marked_c (member same D) nothing names))) ≡ names
names-inferred xs D =
    let names = fresh same nothing (xs ++ D) in
    fresh_inner xs (final_names (marked_c (member same D) nothing names))
    ∙ (ap (λ t. fresh same nothing (xs ++ t)) (finals_keep (member same D) nothing names ∙ ap (keep (member same D)) (fresh-fresh nothing (xs ++ D))) ∙ infer_stable xs D)

names_again : (q : Option Names) (start : Option (List ℕ)) (ms D : Names) → let names = unwrap_or q (fresh same nothing (option_to_list start ++ ms ++ D)) in
    unwrap_or (when (is_some q) (map (λ s. s.name) (marked_c (member same D) nothing names))) (fresh same nothing (option_to_list (when (is_some start) (start_c start names)) ++ ms ++ fresh same nothing (final_names (marked_c (member same D) nothing names)))) ≡ names
unfolding start_c
names_again (Some q) start ms D = names_marked (member same D) nothing q
names_again None None ms D = names-inferred ms D
names_again None (Some w) ms D = names-inferred (w ∷ ms) D

-- the facts of a content that was inferred give it again
pub infer_again : (f : Facts) → content_from (plain_facts (content_from f)) ≡ content_from f
unfolding content_from plain_facts names_c
infer_again f =
    let b = blank_c f.blank in
    let D = fresh same nothing f.finals in
    let cs = candidates_c b f.sigma f.rules (unwrap_or f.input []) in
    let G = gamma_c b f.gamma cs in
    let again = plain_facts (content_from f) in
    let b-eq : blank_c again.blank ≡ b = blank_again f.blank in
    let names : names_c again ≡ names_c f = names_again f.states f.start (mentions_c f.rules) D in
    let gamma : gamma_c (blank_c again.blank) again.gamma (candidates_c (blank_c again.blank) again.sigma again.rules (unwrap_or again.input [])) ≡ G
    = ap (λ x. gamma_c x again.gamma (candidates_c x again.sigma again.rules (unwrap_or f.input []))) b-eq
    ∙ (ap (gamma_c b again.gamma) (candidates_again b f.sigma G f.rules (unwrap_or f.input [])) ∙ gamma_again b f.gamma cs) in
    λ i. record {
      name = unwrap_or f.name [];
      input = unwrap_or f.input [];
      kind = (content_from f).kind;
      output = decoder_again (blank_c again.blank) (content_from f).output i;
      tapes = tapes_again f.tapes i;
      blank = b-eq i;
      declared = record {
        states = some-when (is_some f.states) (map (λ s. s.name) (content_from f).states) i;
        input_alphabet = some-when (is_some f.sigma) (map glyph (content_from f).sigma) i;
        tape_alphabet = some-when (is_some f.gamma) (map glyph G) i;
        start = some-when (is_some f.start) (content_from f).start i;
        blank = some-when (is_some f.blank) (glyph b) i;
      };
      start = (ap (start_c again.start) names ∙ start_again f.start (names_c f)) i;
      states = (ap (marked_c (member same (fresh same nothing again.finals)) nothing) names ∙ states_again (member same D) (names_c f)) i;
      sigma = (ap₂ (λ x y. sigma_c x again.sigma y) b-eq gamma ∙ sigma_again b f.sigma G) i;
      gamma = gamma i;
      header = f.header;
      trailing = f.trailing;
      rules = f.rules;
    }
