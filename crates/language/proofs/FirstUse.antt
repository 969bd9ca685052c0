-- What the rules of a line use, in the order of first use, read off the line: the first choice's reads and writes, then for each tape from the last to the first the further members of its set.
use Prim.Native.Nat.{ℕ}
use native.Mathlib.Omega.{arith}
use mathlib.Core.Bool.{Bool, true, false, ◌||◌, false≢true}
use mathlib.Core.List.{List, [], ◌∷◌, ◌++◌, map, append_assoc}
use Rattle.std.specs.Prelude.{Option, None, Some}
use mathlib.Core.Path.{◌≡◌, refl, ap, ◌∙◌, sym, subst}
use borrow.Author.Tests.{eqb-true, eq-eqb}
use lib.Dec.{eqb}
use lib.ListN.{length}
use Rattle.language.specs.Assembly.{each_front, choices}
use Rattle.language.specs.Infer.{member, fresh}
use Rattle.language.proofs.Every.{by_test, Every, All, Filled, or_left, or_right, or_else, every_append, every_impl}

-- ---- mentions that add nothing

abbrev pub Test : Type 0
Test = ℕ → Bool

-- everything that k knows is known
abbrev Knows : Test → Test → Type 0
Knows known k = (x : ℕ) → k x ≡ true → known x ≡ true

-- one more entry is known
abbrev pub also : ℕ → Test → Test
also x known = λ y. eqb x y || known y

-- l without entries that k knows
data Less (k : Test) : List ℕ → List ℕ → Type 0 where
  done : Less k [] []
  keep : {x : ℕ} {l m : List ℕ} → Less k l m → Less k (x ∷ l) (x ∷ m)
  skip : {x : ℕ} {l m : List ℕ} → k x ≡ true → Less k l m → Less k (x ∷ l) m

less-fresh : (k known : Test) (l m r : List ℕ) → Knows known k → Less k l m → fresh eqb known (l ++ r) ≡ fresh eqb known (m ++ r)
unfolding fresh
less-fresh k known l m r e done = refl
less-fresh k known l m r e (keep {x = x} {l = l'} {m = m'} h) = by_test (known x)
    (λ t. rw (t, fresh) (less-fresh k known l' m' r e h))
    (λ t. rw (t, fresh) (ap (λ y. x ∷ y) (less-fresh k (also x known) l' m' r (λ y g. or_right (eqb x y) (known y) (e y g)) h)))
less-fresh k known l m r e (skip {x = x} {l = l'} {m = m'} g h) = rw (e x g, fresh) (less-fresh k known l' m' r e h)

less-same : (k : Test) (l : List ℕ) → Less k l l
less-same k [] = done
less-same k (x ∷ l) = keep (less-same k l)

less_none : (k : Test) (l : List ℕ) → All k l → Less k l []
less_none k [] h = done
less_none k (x ∷ l) h = skip h.0 (less_none k l h.1)

less-append : (k : Test) (l m l' m' : List ℕ) → Less k l m → Less k l' m' → Less k (l ++ l') (m ++ m')
less-append k l m l' m' done h = h
less-append k l m l' m' (keep {l = a} {m = b} g) h = keep (less-append k a b l' m' g h)
less-append k l m l' m' (skip {l = a} {m = b} t g) h = skip t (less-append k a b l' m' g h)

-- what is known behind a list
unfoldable pub after : Test → List ℕ → Test
after known [] = known
after known (x ∷ l) = elim (known x) [ true ↦ after known l | false ↦ after (also x known) l ]

pub fresh-behind : (known : Test) (p r : List ℕ) → fresh eqb known (p ++ r) ≡ fresh eqb known p ++ fresh eqb (after known p) r
unfolding fresh after
fresh-behind known [] r = refl
fresh-behind known (x ∷ p) r = by_test (known x)
    (λ t. rw (t, fresh, after) (fresh-behind known p r))
    (λ t. rw (t, fresh, after) (ap (λ y. x ∷ y) (fresh-behind (also x known) p r)))

after_known : (known : Test) (p : List ℕ) (y : ℕ) → known y ≡ true → after known p y ≡ true
unfolding after
after_known known [] y h = h
after_known known (x ∷ p) y h = by_test (known x)
    (λ t. rw (t, after) (after_known known p y h))
    (λ t. rw (t, after) (after_known (also x known) p y (or_right (eqb x y) (known y) h)))

after-member : (known : Test) (p : List ℕ) → Knows (after known p) (member eqb p)
unfolding after member
after-member known [] y h = absurd (false≢true h)
after-member known (x ∷ p) y h = by_test (known x)
    (λ t. rw (t, after) (by_test (eqb x y) (λ q. after_known known p y (subst (λ z. known z ≡ true) (eqb-true x y q) t)) (λ q. after-member known p y (or_else (eqb x y) (member eqb p y) h q))))
    (λ t. rw (t, after) (by_test (eqb x y) (λ q. after_known (also x known) p y (or_left (eqb x y) (known y) q)) (λ q. after-member (also x known) p y (or_else (eqb x y) (member eqb p y) h q))))

-- behind p the lists l and m mention the same for the first time
abbrev Same : List ℕ → List ℕ → List ℕ → Type 0
Same p l m = (known : Test) (r : List ℕ) → fresh eqb known (p ++ (l ++ r)) ≡ fresh eqb known (p ++ (m ++ r))

-- entries that p holds can go
less-behind : (p l m : List ℕ) → Less (member eqb p) l m → Same p l m
less-behind p l m h known r = fresh-behind known p (l ++ r) ∙ (ap (λ y. fresh eqb known p ++ y) (less-fresh (member eqb p) (after known p) l m r (after-member known p) h) ∙ sym (fresh-behind known p (m ++ r)))

-- what holds behind p holds behind a list that holds p's entries
under : (p q l m : List ℕ) → All (member eqb q) p → Same p l m → Same q l m
under p q l m h s known r =
    let k : Test = after known q in
    let gone : (n : List ℕ) → fresh eqb k (p ++ n) ≡ fresh eqb k n = λ n. less-fresh (member eqb q) k p [] n (after-member known q) (less_none (member eqb q) p h) in
    fresh-behind known q (l ++ r)
    ∙ (ap (λ y. fresh eqb known q ++ y) (sym (gone (l ++ r)) ∙ (s k r ∙ gone (m ++ r)))
    ∙ sym (fresh-behind known q (m ++ r)))

less-members : (k : Test) (l m : List ℕ) → Less k l m → All (member eqb l) m
unfolding member
less-members k l m done = tt
less-members k l m (keep {x = x} {l = a} {m = b} h) =
    (or_left (eqb x x) (member eqb a x) (eq-eqb x x refl), every_impl (λ y. member eqb a y ≡ true) (λ y. member eqb (x ∷ a) y ≡ true) (λ y e. or_right (eqb x y) (member eqb a y) e) b (less-members k a b h))
less-members k l m (skip {x = x} {l = a} {m = b} t h) =
    every_impl (λ y. member eqb a y ≡ true) (λ y. member eqb (x ∷ a) y ≡ true) (λ y e. or_right (eqb x y) (member eqb a y) e) b (less-members k a b h)

front-all : (q : Test) (l m : List ℕ) → All q (l ++ m) → All q l
front-all q [] m h = tt
front-all q (x ∷ l) m h = (h.0, front-all q l m h.1)

back_all : (q : Test) (l m : List ℕ) → All q (l ++ m) → All q m
back_all q [] m h = h
back_all q (x ∷ l) m h = back_all q l m h.1

-- ---- choices

-- what is written where a is read: `none` is `*`
abbrev pub out : ℕ → Option ℕ → ℕ
out a None = a
out a (Some w) = w

abbrev pub outs : List ℕ → List (Option ℕ) → List ℕ
outs [] ws = []
outs (a ∷ c) [] = []
outs (a ∷ c) (w ∷ ws) = out a w ∷ outs c ws

-- the reads and then the writes of each choice
abbrev pub spread : List (Option ℕ) → List (List ℕ) → List ℕ
spread ws [] = []
spread ws (c ∷ cs) = c ++ outs c ws ++ spread ws cs

-- the first choice of each tape
abbrev pub firsts : List (List ℕ) → List ℕ
firsts [] = []
firsts ([] ∷ ss) = firsts ss
firsts ((a ∷ s) ∷ ss) = a ∷ firsts ss

-- the further members, from the last tape to the first
abbrev pub furthers : List (List ℕ) → List ℕ
furthers [] = []
furthers ([] ∷ ss) = furthers ss
furthers ((a ∷ s) ∷ ss) = furthers ss ++ s

spread_append : (ws : List (Option ℕ)) (l m : List (List ℕ)) → spread ws (l ++ m) ≡ spread ws l ++ spread ws m
spread_append ws [] m = refl
spread_append ws (c ∷ l) m = ap (λ y. c ++ outs c ws ++ y) (spread_append ws l m) ∙ sym (append_assoc (c ++ outs c ws) (spread ws l) (spread ws m))

-- the choices that take a on the first tape
abbrev with : ℕ → List (List ℕ) → List (List ℕ)
with a cs = map (λ l. a ∷ l) cs

-- q knows what a tape's write adds
abbrev Wrote : Test → Option ℕ → Type 0
Wrote q None = Unit {0}
Wrote q (Some v) = q v ≡ true

module _ (a : ℕ) (w : Option ℕ) (ws : List (Option ℕ)) where
  -- once a and what it writes are known, the first tape adds nothing
  first-less : (k : Test) → k a ≡ true → k (out a w) ≡ true → (cs : List (List ℕ)) → Less k (spread (w ∷ ws) (with a cs)) (spread ws cs)
  first-less k e f [] = done
  first-less k e f (c ∷ cs) = less-append k (a ∷ (c ++ (out a w ∷ outs c ws))) (c ++ outs c ws) (spread (w ∷ ws) (with a cs)) (spread ws cs)
      (skip e (less-append k c c (out a w ∷ outs c ws) (outs c ws) (less-same k c) (skip f (less-same k (outs c ws)))))
      (first-less k e f cs)

  out_known : (q : Test) (o : Option ℕ) → Wrote q o → also a q (out a o) ≡ true
  out_known q None h = or_left (eqb a a) (q a) (eq-eqb a a refl)
  out_known q (Some v) h = or_right (eqb a v) (q v) h

  -- all that a choice with a uses is a, or known from the other tapes
  block_known : (q : Test) → Wrote q w → (cs : List (List ℕ)) → All q (spread ws cs) → All (also a q) (spread (w ∷ ws) (with a cs))
  block_known q o [] h = tt
  block_known q o (c ∷ cs) h =
      let grow : (l : List ℕ) → All q l → All (also a q) l = λ l g. every_impl (λ y. q y ≡ true) (λ y. also a q y ≡ true) (λ y e. or_right (eqb a y) (q y) e) l g in
      let here : All q (c ++ outs c ws) = front-all q (c ++ outs c ws) (spread ws cs) h in
      every_append (λ y. also a q y ≡ true) (a ∷ (c ++ (out a w ∷ outs c ws))) (spread (w ∷ ws) (with a cs))
      (or_left (eqb a a) (q a) (eq-eqb a a refl), every_append (λ y. also a q y ≡ true) c (out a w ∷ outs c ws) (grow c (front-all q c (outs c ws) here)) (out_known q w o, grow (outs c ws) (back_all q c (outs c ws) here)))
      (block_known q o cs (back_all q (c ++ outs c ws) (spread ws cs) h))

-- the further members of the first tape, where q knows what the other tapes use
tail-fresh : (w : Option ℕ) (ws : List (Option ℕ)) (c : List ℕ) (cs : List (List ℕ)) (q : Test) → Wrote q w → All q (spread ws (c ∷ cs)) → (s : List ℕ) (known : Test) (r : List ℕ) → Knows known q
    → fresh eqb known (spread (w ∷ ws) (each_front s (c ∷ cs)) ++ r) ≡ fresh eqb known (s ++ r)
unfolding each_front fresh
tail-fresh w ws c cs q o h [] known r e = refl
tail-fresh w ws c cs q o h (a ∷ s) known r e =
    let rest : List ℕ = c ++ (out a w ∷ outs c ws) ++ spread (w ∷ ws) (with a cs) in
    let more : List ℕ = spread (w ∷ ws) (each_front s (c ∷ cs)) in
    let split : spread (w ∷ ws) (with a (c ∷ cs) ++ each_front s (c ∷ cs)) ++ r ≡ a ∷ (rest ++ (more ++ r)) =
    ap (λ y. y ++ r) (spread_append (w ∷ ws) (with a (c ∷ cs)) (each_front s (c ∷ cs))) ∙ append_assoc (a ∷ rest) more r in
    let known-rest : All (also a q) rest = (block_known a w ws q o (c ∷ cs) h).1 in
    let gone : (k : Test) → Knows k (also a q) → fresh eqb k (rest ++ (more ++ r)) ≡ fresh eqb k (more ++ r) = λ k g. less-fresh (also a q) k rest [] (more ++ r) g (less_none (also a q) rest known-rest) in
    ap (fresh eqb known) split ∙ by_test (known a)
    (λ t. rw (t, fresh) (gone known (λ y g. by_test (eqb a y) (λ x. subst (λ z. known z ≡ true) (eqb-true a y x) t) (λ x. e y (or_else (eqb a y) (q y) g x))) ∙ tail-fresh w ws c cs q o h s known r e))
    (λ t. rw (t, fresh) (ap (λ y. a ∷ y) (gone (also a known) (λ y g. by_test (eqb a y) (λ x. or_left (eqb a y) (known y) x) (λ x. or_right (eqb a y) (known y) (e y (or_else (eqb a y) (q y) g x))))
    ∙ tail-fresh w ws c cs q o h s (also a known) r (λ y g. or_right (eqb a y) (known y) (e y g)))))

-- the first of all choices is the first of each tape
record Begins (ss : List (List ℕ)) : Type 0 where
  others : List (List ℕ)
  begins : choices ss ≡ firsts ss ∷ others

-- behind the first choice's reads and writes the others use the further members, from the last tape to the first
record Uses (ss : List (List ℕ)) (ws : List (Option ℕ)) : Type 0 where
  begin : Begins ss
  uses : Same (firsts ss ++ outs (firsts ss) ws) (spread ws begin.others) (furthers ss)

member-front : (l m : List ℕ) (x : ℕ) → member eqb l x ≡ true → member eqb (l ++ m) x ≡ true
unfolding member
member-front [] m x h = absurd (false≢true h)
member-front (y ∷ l) m x h = by_test (eqb y x) (λ t. or_left (eqb y x) (member eqb (l ++ m) x) t) (λ t. or_right (eqb y x) (member eqb (l ++ m) x) (member-front l m x (or_else (eqb y x) (member eqb l x) h t)))

member_middle : (l m : List ℕ) (x : ℕ) → member eqb (l ++ x ∷ m) x ≡ true
unfolding member
member_middle [] m x = or_left (eqb x x) (member eqb m x) (eq-eqb x x refl)
member_middle (y ∷ l) m x = or_right (eqb y x) (member eqb (l ++ x ∷ m) x) (member_middle l m x)

abbrev any : Test
any x = true

-- one tape more, before the others
module _ (a : ℕ) (s : List ℕ) (w : Option ℕ) (ss : List (List ℕ)) (ws : List (Option ℕ)) (u : Uses ss ws) where
  abbrev c : List ℕ
  c = firsts ss

  abbrev cs : List (List ℕ)
  cs = u.begin.others

  -- what the first choice uses
  abbrev p : List ℕ
  p = a ∷ (c ++ (out a w ∷ outs c ws))

  -- what the other choices with a use, and those without
  abbrev b : List ℕ
  b = spread (w ∷ ws) (with a cs)

  abbrev e : List ℕ
  e = spread (w ∷ ws) (each_front s (c ∷ cs))

  out_in : member eqb p (out a w) ≡ true
  out_in = member_middle (a ∷ c) (outs c ws) (out a w)

  with_a : Same p b (furthers ss)
  unfolding member
  with_a known r =
      less-behind p b (spread ws cs) (first-less a w ws (member eqb p) (or_left (eqb a a) (member eqb (c ++ (out a w ∷ outs c ws)) a) (eq-eqb a a refl)) out_in cs) known r
      ∙ under (c ++ outs c ws) p (spread ws cs) (furthers ss) (less-members any p (c ++ outs c ws) (skip refl (less-append any c c (out a w ∷ outs c ws) (outs c ws) (less-same any c) (skip refl (less-same any (outs c ws)))))) u.uses known r

  wrote : (o : Option ℕ) → w ≡ o → Wrote (member eqb (p ++ b)) o
  wrote None h = tt
  wrote (Some v) h = subst (λ x. member eqb (p ++ b) (out a x) ≡ true) h (member-front p b (out a w) out_in)

  without_a : (known : Test) (r : List ℕ) → fresh eqb known (p ++ b ++ (e ++ r)) ≡ fresh eqb known (p ++ b ++ (s ++ r))
  without_a known r =
      fresh-behind known (p ++ b) (e ++ r)
      ∙ (ap (λ y. fresh eqb known (p ++ b) ++ y) (tail-fresh w ws c cs (member eqb (p ++ b)) (wrote w refl) (less-members any (p ++ b) (spread ws (c ∷ cs)) (first-less a w ws any refl refl (c ∷ cs))) s (after known (p ++ b)) r (after-member known (p ++ b)))
      ∙ sym (fresh-behind known (p ++ b) (s ++ r)))

  one-tape : Uses ((a ∷ s) ∷ ss) (w ∷ ws)
  unfolding choices each_front
  one-tape = record {
    begin = record { others = with a cs ++ each_front s (c ∷ cs); begins = ap (each_front (a ∷ s)) u.begin.begins };
    uses = λ known r.
        ap (λ y. fresh eqb known (p ++ y)) (ap (λ y. y ++ r) (spread_append (w ∷ ws) (with a cs) (each_front s (c ∷ cs))) ∙ append_assoc b e r)
        ∙ (ap (fresh eqb known) (sym (append_assoc p b (e ++ r)))
        ∙ (without_a known r
        ∙ (ap (fresh eqb known) (append_assoc p b (s ++ r))
        ∙ (with_a known (s ++ r)
        ∙ ap (λ y. fresh eqb known (p ++ y)) (sym (append_assoc (furthers ss) s r))))));
  }

all-tapes : (ss : List (List ℕ)) (ws : List (Option ℕ)) → Every Filled ss → length ws ≡ length ss → Uses ss ws
unfolding choices
all-tapes [] ws h n = record { begin = record { others = []; begins = refl }; uses = λ known r. refl }
all-tapes ((a ∷ s) ∷ ss) (w ∷ ws) h n = one-tape a s w ss ws (all-tapes ss ws h.1 (omega arith))
all-tapes ((a ∷ s) ∷ ss) [] h n = absurd (omega arith)
all-tapes ([] ∷ ss) ws h n = absurd h.0

-- the uses of all choices, in the order of first use
pub first_use : (ss : List (List ℕ)) (ws : List (Option ℕ)) → Every Filled ss → length ws ≡ length ss → (known : ℕ → Bool) (r : List ℕ)
    → fresh eqb known (spread ws (choices ss) ++ r) ≡ fresh eqb known (firsts ss ++ (outs (firsts ss) ws ++ (furthers ss ++ r)))
first_use ss ws h n known r =
    let u : Uses ss ws = all-tapes ss ws h n in
    let f : List ℕ = firsts ss ++ outs (firsts ss) ws in
    ap (λ cs. fresh eqb known (spread ws cs ++ r)) u.begin.begins
    ∙ (ap (fresh eqb known) (append_assoc f (spread ws u.begin.others) r)
    ∙ (u.uses known r ∙ ap (fresh eqb known) (append_assoc (firsts ss) (outs (firsts ss) ws) (furthers ss ++ r))))
