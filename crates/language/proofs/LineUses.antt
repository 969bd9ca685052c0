-- Inference may read rule lines in place of expanded rules: the rules of a line mention its two states, and use its symbols in the order of first use.
use Prim.Native.Nat.{ℕ}
use native.Mathlib.Omega.{arith}
use mathlib.Core.Bool.{Bool, true, ◌||◌}
use mathlib.Core.List.{List, [], ◌∷◌, ◌++◌, map, append_assoc, append-nil}
use Rattle.std.specs.Prelude.{Option, None, Some, option_to_list}
use mathlib.Core.Path.{◌≡◌, refl, ap, ap₂, ◌∙◌, sym}
use lib.Dec.{eqb}
use lib.ListN.{length, length-map}
use Rattle.language.specs.Machine.{Located, Dir, Rule}
use Rattle.language.specs.Lines.{RawSymbol}
use Rattle.language.specs.Assembly.{resolve, RuleLine, choices, written, actions, rule_of, dressed, expand, expand_all}
use Rattle.language.specs.Infer.{same_name, fresh, nothing, mentions, infer_states, used, candidates}
use Rattle.language.proofs.Every.{by_test, Every, Filled, every_map, or_left, or_right}
use Rattle.language.proofs.Facts.{map_option}
use Rattle.language.proofs.InferAgain.{same_refl}
use Rattle.language.proofs.AssemblyPlaces.{choices_natural}
use Rattle.language.proofs.Counts.{Fits, Chosen, choices-wide, choices-filled}
use Rattle.language.proofs.FirstUse.{out, outs, spread, firsts, furthers, first_use, after, fresh-behind}

-- ---- symbols

written_is : (b : ℕ) (r : RawSymbol) (w : Option RawSymbol) → written b r w ≡ out (resolve b r) (map_option (resolve b) w)
unfolding written
written_is b r None = refl
written_is b r (Some w) = refl

module _ {P : Type 0} (b : ℕ) where
  -- the character that a symbol stands for
  abbrev code : Located P RawSymbol → ℕ
  code s = resolve b s.value

  abbrev writes : List (Located P (Option RawSymbol)) → List (Option ℕ)
  writes ws = map (λ w. map_option (resolve b) w.value) ws

  -- what the rules of a line use, in the order of first use
  abbrev pub line_uses : RuleLine P → List ℕ
  line_uses l =
      let sets : List (List ℕ) = map (map code) l.raw.read in
      firsts sets ++ (outs (firsts sets) (writes l.raw.write) ++ furthers sets)

  abbrev pub lines_use : List (RuleLine P) → List ℕ
  lines_use [] = []
  lines_use (l ∷ ls) = line_uses l ++ lines_use ls

  actions-read : (rs : List (Located P RawSymbol)) (ws : List (Located P (Option RawSymbol))) (ds : List (Located P Dir)) → length ws ≡ length rs → length ds ≡ length rs
      → map (λ a. a.read.value) (actions b rs ws ds) ≡ map code rs
  unfolding actions
  actions-read [] ws ds e f = refl
  actions-read (r ∷ rs) [] ds e f = absurd (omega arith)
  actions-read (r ∷ rs) (w ∷ ws) [] e f = absurd (omega arith)
  actions-read (r ∷ rs) (w ∷ ws) (d ∷ ds) e f = ap (λ l. code r ∷ l) (actions-read rs ws ds (omega arith) (omega arith))

  actions-write : (rs : List (Located P RawSymbol)) (ws : List (Located P (Option RawSymbol))) (ds : List (Located P Dir)) → length ws ≡ length rs → length ds ≡ length rs
      → map (λ a. a.write.value) (actions b rs ws ds) ≡ outs (map code rs) (writes ws)
  unfolding actions
  actions-write [] ws ds e f = refl
  actions-write (r ∷ rs) [] ds e f = absurd (omega arith)
  actions-write (r ∷ rs) (w ∷ ws) [] e f = absurd (omega arith)
  actions-write (r ∷ rs) (w ∷ ws) (d ∷ ds) e f = ap₂ (λ x l. x ∷ l) (written_is b r.value w.value) (actions-write rs ws ds (omega arith) (omega arith))

  used-append : (l m : List (Rule P)) → used (l ++ m) ≡ used l ++ used m
  unfolding used
  used-append [] m = refl
  used-append (r ∷ l) m =
      let x : List ℕ = map (λ a. a.read.value) r.actions in
      let y : List ℕ = map (λ a. a.write.value) r.actions in
      ap (λ z. x ++ (y ++ z)) (used-append l m) ∙ sym (append_assoc x (y ++ used l) (used m) ∙ ap (λ z. x ++ z) (append_assoc y (used l) (used m)))

  module _ (l : RuleLine P) (fits : Fits l) where
    abbrev Wide : List (Located P RawSymbol) → Type 0
    Wide c = length c ≡ length l.raw.read

    -- the rules of some choices, whatever their comments
    rule_uses : (o : Option (Located P (List ℕ))) (k : List (Located P (List ℕ))) (c : List (Located P RawSymbol)) → Wide c → (rest : List (Rule P))
        → used (rule_of b l o k c ∷ rest) ≡ map code c ++ outs (map code c) (writes l.raw.write) ++ used rest
    unfolding used rule_of
    rule_uses o k c h rest =
        ap₂ (λ x y. x ++ (y ++ used rest)) (actions-read c l.raw.write l.raw.dir (fits.0 ∙ sym h) (fits.1 ∙ sym h)) (actions-write c l.raw.write l.raw.dir (fits.0 ∙ sym h) (fits.1 ∙ sym h))
        ∙ sym (append_assoc (map code c) (outs (map code c) (writes l.raw.write)) (used rest))

    more_use : (cs : List (List (Located P RawSymbol))) → Every Wide cs → used (map (rule_of b l None []) cs) ≡ spread (writes l.raw.write) (map (map code) cs)
    unfolding used
    more_use [] h = refl
    more_use (c ∷ cs) h = rule_uses None [] c h.0 (map (rule_of b l None []) cs) ∙ ap (λ z. map code c ++ outs (map code c) (writes l.raw.write) ++ z) (more_use cs h.1)

    dressed_use : (cs : List (List (Located P RawSymbol))) → Every Wide cs → used (dressed b l cs) ≡ spread (writes l.raw.write) (map (map code) cs)
    unfolding dressed used
    dressed_use [] h = refl
    dressed_use (c ∷ cs) h = rule_uses l.comment l.leading c h.0 (map (rule_of b l None []) cs) ∙ ap (λ z. map code c ++ outs (map code c) (writes l.raw.write) ++ z) (more_use cs h.1)

    -- one line
    line_use : Chosen l → (known : ℕ → Bool) (r : List ℕ) → fresh eqb known (used (expand b l) ++ r) ≡ fresh eqb known (line_uses l ++ r)
    unfolding expand
    line_use h known r =
        let sets : List (List ℕ) = map (map code) l.raw.read in
        let ws : List (Option ℕ) = writes l.raw.write in
        ap (λ x. fresh eqb known (x ++ r)) (dressed_use (choices l.raw.read) (choices-wide l.raw.read) ∙ ap (spread ws) (sym (choices_natural code l.raw.read)))
        ∙ (first_use sets ws (every_map Filled Filled (map code) filled l.raw.read h) (length-map l.raw.write _ ∙ (fits.0 ∙ sym (length-map l.raw.read (map code)))) known r
        ∙ ap (fresh eqb known) (sym (append_assoc (firsts sets) (outs (firsts sets) ws ++ furthers sets) r ∙ ap (λ z. firsts sets ++ z) (append_assoc (outs (firsts sets) ws) (furthers sets) r))))
      where
        filled : (s : List (Located P RawSymbol)) → Filled s → Filled (map code s)
        filled (x ∷ s) k = tt
        filled [] k = absurd k

  -- all lines
  pub lines_use_lem : (ls : List (RuleLine P)) → Every Fits ls → Every Chosen ls → (known : ℕ → Bool) (r : List ℕ) → fresh eqb known (used (expand_all b ls) ++ r) ≡ fresh eqb known (lines_use ls ++ r)
  unfolding expand_all used
  lines_use_lem [] f h known r = refl
  lines_use_lem (l ∷ ls) f h known r =
      ap (λ x. fresh eqb known (x ++ r)) (used-append (expand b l) (expand_all b ls))
      ∙ (ap (fresh eqb known) (append_assoc (used (expand b l)) (used (expand_all b ls)) r)
      ∙ (line_use l f.0 h.0 known (used (expand_all b ls) ++ r)
      ∙ (fresh-behind known (line_uses l) (used (expand_all b ls) ++ r)
      ∙ (ap (λ x. fresh eqb known (line_uses l) ++ x) (lines_use_lem ls f.1 h.1 (after known (line_uses l)) r)
      ∙ (sym (fresh-behind known (line_uses l) (lines_use ls ++ r)) ∙ ap (fresh eqb known) (sym (append_assoc (line_uses l) (lines_use ls) r)))))))

-- ---- states

-- the names that are known
abbrev Known : Type 0 → Type 0
Known P = Located P (List ℕ) → Bool

module _ {P : Type 0} where
  -- the states that the lines mention: from and to of each
  abbrev pub line_mentions : List (RuleLine P) → List (Located P (List ℕ))
  line_mentions [] = []
  line_mentions (l ∷ ls) = l.raw.from ∷ l.raw.to ∷ line_mentions ls

  abbrev also_name : Located P (List ℕ) → Known P → Known P
  also_name q known = λ y. same_name q y || known y

  mentions-append : (l m : List (Rule P)) → mentions (l ++ m) ≡ mentions l ++ mentions m
  unfolding mentions
  mentions-append [] m = refl
  mentions-append (r ∷ l) m = ap (λ z. r.from ∷ r.to ∷ z) (mentions-append l m)

  module _ (b : ℕ) (l : RuleLine P) where
    -- the rules behind the first mention nothing new
    again : (cs : List (List (Located P RawSymbol))) (known : Known P) (r : List (Located P (List ℕ))) → known l.raw.from ≡ true → known l.raw.to ≡ true
        → fresh same_name known (mentions (map (rule_of b l None []) cs) ++ r) ≡ fresh same_name known r
    unfolding mentions rule_of fresh
    again [] known r f t = refl
    again (c ∷ cs) known r f t = rw (f, fresh) (rw (t, fresh) (again cs known r f t))

    -- the first rule mentions both
    both : (known : Known P) (more r : List (Located P (List ℕ))) → ((k : Known P) → k l.raw.from ≡ true → k l.raw.to ≡ true → fresh same_name k more ≡ fresh same_name k r)
        → fresh same_name known (l.raw.from ∷ l.raw.to ∷ more) ≡ fresh same_name known (l.raw.from ∷ l.raw.to ∷ r)
    unfolding fresh
    both known more r e =
        let f : Located P (List ℕ) = l.raw.from in
        let t : Located P (List ℕ) = l.raw.to in
        let second : (k : Known P) → k f ≡ true → fresh same_name k (t ∷ more) ≡ fresh same_name k (t ∷ r) =
        λ k g. by_test (k t) (λ h. rw (h, fresh) (e k g h)) (λ h. rw (h, fresh) (ap (λ z. t ∷ z) (e (also_name t k) (or_right (same_name t f) (k f) g) (or_left (same_name t t) (k t) (same_refl t.value))))) in
        by_test (known f) (λ g. rw (g, fresh) (second known g)) (λ g. rw (g, fresh) (ap (λ z. f ∷ z) (second (also_name f known) (or_left (same_name f f) (known f) (same_refl f.value)))))

    line-mentions : Chosen l → (known : Known P) (r : List (Located P (List ℕ))) → fresh same_name known (mentions (expand b l) ++ r) ≡ fresh same_name known (l.raw.from ∷ l.raw.to ∷ r)
    unfolding expand
    line-mentions h known r = from_choices (choices l.raw.read) (choices-filled l.raw.read h)
      where
        from_choices : (cs : List (List (Located P RawSymbol))) → Filled cs → fresh same_name known (mentions (dressed b l cs) ++ r) ≡ fresh same_name known (l.raw.from ∷ l.raw.to ∷ r)
        from_choices (c ∷ cs) k = unfold mentions dressed rule_of in (both known (mentions (map (rule_of b l None []) cs) ++ r) r (λ known f t. again cs known r f t))
        from_choices [] k = absurd k

  -- all lines
  pub lines-mention : (b : ℕ) (ls : List (RuleLine P)) → Every Chosen ls → (known : Known P) (r : List (Located P (List ℕ))) → fresh same_name known (mentions (expand_all b ls) ++ r) ≡ fresh same_name known (line_mentions ls ++ r)
  unfolding expand_all mentions
  lines-mention b [] h known r = refl
  lines-mention b (l ∷ ls) h known r =
      let rest : List (Located P (List ℕ)) = mentions (expand_all b ls) ++ r in
      ap (λ x. fresh same_name known (x ++ r)) (mentions-append (expand b l) (expand_all b ls))
      ∙ (ap (fresh same_name known) (append_assoc (mentions (expand b l)) (mentions (expand_all b ls)) r)
      ∙ (line-mentions b l h.0 known rest ∙ both b l known rest (line_mentions ls ++ r) (λ k f t. lines-mention b ls h.1 k r)))

-- ---- inference

module _ {P : Type 0} (b : ℕ) (ls : List (RuleLine P)) (fits : Every Fits ls) (chosen : Every Chosen ls) where
  -- undeclared states, from the lines
  pub states_from_lines : (start : Option (Located P (List ℕ))) (finals : List (Located P (List ℕ))) → infer_states start (expand_all b ls) finals ≡ fresh same_name nothing (option_to_list start ++ line_mentions ls ++ finals)
  unfolding infer_states fresh
  states_from_lines None finals = lines-mention b ls chosen nothing finals
  states_from_lines (Some q) finals = ap (λ z. q ∷ z) (lines-mention b ls chosen (λ y. same_name q y || nothing y) finals)

  -- what an undeclared Γ holds besides the blank, from the lines
  abbrev pub candidates_of_lines : Option (List (Located P RawSymbol)) → List ℕ → List ℕ
  candidates_of_lines (Some s) input = map (λ x. resolve b x.value) s ++ lines_use b ls
  candidates_of_lines None input = lines_use b ls ++ input

  pub candidates_from_lines : (sigma : Option (List (Located P RawSymbol))) (input : List ℕ) → fresh eqb (eqb b) (candidates b sigma (expand_all b ls) input) ≡ fresh eqb (eqb b) (candidates_of_lines sigma input)
  unfolding candidates
  candidates_from_lines None input = lines_use_lem b ls fits chosen (eqb b) input
  candidates_from_lines (Some s) input =
      let p : List ℕ = map (λ x. resolve b x.value) s in
      let behind : fresh eqb (after (eqb b) p) (used (expand_all b ls)) ≡ fresh eqb (after (eqb b) p) (lines_use b ls) =
      ap (fresh eqb (after (eqb b) p)) (sym (append-nil (used (expand_all b ls)))) ∙ (lines_use_lem b ls fits chosen (after (eqb b) p) [] ∙ ap (fresh eqb (after (eqb b) p)) (append-nil (lines_use b ls))) in
      fresh-behind (eqb b) p (used (expand_all b ls)) ∙ (ap (λ z. fresh eqb (eqb b) p ++ z) behind ∙ sym (fresh-behind (eqb b) p (lines_use b ls)))
