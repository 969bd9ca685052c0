-- A machine's names: those of its states have together three times the bytes of the text's words at most, and the two of each
-- rule no more than those words.
use Prim.Native.Nat.{ℕ, ◌+◌, ◌*◌, ◌≤◌, ◌<◌}
use native.Mathlib.Omega.{arith}
use mathlib.Core.Bool.{Bool, ◌||◌}
use mathlib.Core.List.{List, [], ◌∷◌, ◌++◌}
use Rattle.std.specs.Prelude.{Option, None, Some, unwrap_or, option_to_list}
use mathlib.Core.Path.{◌≡◌, refl}
use lib.ListN.{length}
use Rattle.lexer.specs.Tokens.{Span, tokens}
use Rattle.language.specs.Machine.{Located, Dir, Rule, Machine}
use Rattle.language.specs.Lines.{RawSymbol, Line, Item, state_in, symbol_in, string_in, Ending, line_feed, goes_by, remark, ending_of, lines, covering, read_lines}
use Rattle.language.specs.Assembly.{items, first, found, blank_of, states_in, finals_in, RuleLine, body_of, kept, choices, actions, rule_of, dressed, expand, expand_all}
use Rattle.language.proofs.Columns.{select}
use Rattle.language.specs.Infer.{same_name, member, fresh, nothing, infer_states, marked, head, machine_of}
use Rattle.language.proofs.Every.{by_test, Every, Maybe, Filled, every_any, every_append, every_impl, every_map}
use Rattle.language.proofs.ParseHolds.{Any, Goods, GoodEnding, any_maybe, lines_good}
use Rattle.language.proofs.AssemblyHolds.{GoodRuleLine, kept_good}
use Rattle.language.proofs.Counts.{Fits, Chosen, choices-wide, kept_every, kept_fits}
use Rattle.language.proofs.ReadCounts.{read_chosen}
use Rattle.language.proofs.LineUses.{line_mentions, states_from_lines}
use Rattle.list_room.proofs.NameTokens.{total}
use Rattle.list_room.proofs.NameParsers.{name_bytes}
use Rattle.list_room.proofs.NameLines.{line_bytes, states_pay, start_pays, finals_pay, rule_line_bytes, rules_pay}

-- ---- states

pub total_append : {A : Type 0} (f : A → ℕ) (l m : List A) → total f (l ++ m) ≡ total f l + total f m
unfolding total
total_append f [] m = omega arith
total_append f (a ∷ l) m = omega (arith, total_append f l m)

filled_length : {A : Type 0} (l : List A) → Filled l → 0 < length l
filled_length (a ∷ l) h = omega arith
filled_length [] h = absurd h

module _ {P : Type 0} where
  fresh_pays : (known : Located P (List ℕ) → Bool) (l : List (Located P (List ℕ))) → total name_bytes (fresh same_name known l) ≤ total name_bytes l
  unfolding fresh total
  fresh_pays known [] = omega arith
  fresh_pays known (x ∷ l) = by_test (known x)
      (λ e. rw (e, fresh) (omega (arith, fresh_pays known l)))
      (λ e. rw (e, fresh) (omega (arith, fresh_pays (λ y. same_name x y || known y) l)))

  marked_pays : (final known : Located P (List ℕ) → Bool) (l : List (Located P (List ℕ))) → total (λ s. name_bytes s.name) (marked final known l) ≡ total name_bytes l
  unfolding marked total
  marked_pays final known [] = refl
  marked_pays final known (q ∷ l) = omega (arith, marked_pays final (λ y. same_name q y || known y) l)

  mentions_pay : (ls : List (RuleLine P)) → total name_bytes (line_mentions ls) ≡ total rule_line_bytes ls
  unfolding total
  mentions_pay [] = refl
  mentions_pay (l ∷ ls) = omega (arith, mentions_pay ls)

  option_pays : (n : ℕ) (o : Option (Located P (List ℕ))) → Maybe (λ q. name_bytes q ≤ n) o → total name_bytes (option_to_list o) ≤ n
  unfolding total
  option_pays n None h = omega arith
  option_pays n (Some q) h = omega (arith, h)

  else_pays : (m n : ℕ) (o : Option (List (Located P (List ℕ)))) (l : List (Located P (List ℕ))) → m ≤ n → Maybe (λ q. total name_bytes q ≤ m) o → total name_bytes l ≤ n → total name_bytes (unwrap_or o l) ≤ n
  else_pays m n None l h k g = g
  else_pays m n (Some q) l h k g = omega (arith, h, k)

  head_pays : (n : ℕ) (l : List (Located P (List ℕ))) → total name_bytes l ≤ n → Maybe (λ q. name_bytes q ≤ n) (head l)
  unfolding head total
  head_pays n [] h = tt
  head_pays n (q ∷ l) h = omega (arith, h)

  -- ---- rules

  -- a rule's names have n bytes at most, and it has a tape
  abbrev pub Small : ℕ → Rule P → Type 0
  Small n r = (name_bytes r.from + name_bytes r.to ≤ n) × Filled r.actions

  actions_filled : (b : ℕ) (rs : List (Located P RawSymbol)) (ws : List (Located P (Option RawSymbol))) (ds : List (Located P Dir)) (k : ℕ) → length rs ≡ k → length ws ≡ k → length ds ≡ k → 0 < k → Filled (actions b rs ws ds)
  unfolding actions
  actions_filled b [] ws ds k e f g h = absurd (let z : 0 ≡ k = e in omega (arith, z, h))
  actions_filled b (r ∷ rs) [] ds k e f g h = absurd (let z : 0 ≡ k = f in omega (arith, z, h))
  actions_filled b (r ∷ rs) (w ∷ ws) [] k e f g h = absurd (let z : 0 ≡ k = g in omega (arith, z, h))
  actions_filled b (r ∷ rs) (w ∷ ws) (d ∷ ds) k e f g h = tt

  -- a line's names have n bytes at most, and it fits on a tape at least
  abbrev SmallLine : ℕ → RuleLine P → Type 0
  SmallLine n l = (rule_line_bytes l ≤ n) × Fits l × Filled l.raw.read

  module _ (b n : ℕ) (l : RuleLine P) (small : SmallLine n l) where
    choice_small : (c : Option (Located P (List ℕ))) (k : List (Located P (List ℕ))) (rs : List (Located P RawSymbol)) → length rs ≡ length l.raw.read → Small n (rule_of b l c k rs)
    unfolding rule_of
    choice_small c k rs e = (small.0, actions_filled b rs l.raw.write l.raw.dir (length l.raw.read) e small.1.0 small.1.1 (filled_length l.raw.read small.2))

    dressed_small : (cs : List (List (Located P RawSymbol))) → Every (λ c. length c ≡ length l.raw.read) cs → Every (Small n) (dressed b l cs)
    unfolding dressed
    dressed_small [] h = tt
    dressed_small (c ∷ cs) h =
        (choice_small l.comment l.leading c h.0, every_map (λ c. length c ≡ length l.raw.read) (Small n) (rule_of b l None []) (choice_small None []) cs h.1)

    expand_small : Every (Small n) (expand b l)
    unfolding expand
    expand_small = dressed_small (choices l.raw.read) (choices-wide l.raw.read)

  all_small : (b n : ℕ) (ls : List (RuleLine P)) → Every (SmallLine n) ls → Every (Small n) (expand_all b ls)
  unfolding expand_all
  all_small b n [] h = tt
  all_small b n (l ∷ ls) h = every_append (Small n) (expand b l) (expand_all b ls) (expand_small b n l h.0) (all_small b n ls h.1)

  lines_small : (n : ℕ) (ls : List (RuleLine P)) → Every Fits ls → Every (λ l. Filled l.raw.read) ls → total rule_line_bytes ls ≤ n → Every (SmallLine n) ls
  unfolding total
  lines_small n [] f g h = tt
  lines_small n (l ∷ ls) f g h = ((omega (arith, h), f.0, g.0), lines_small n ls f.1 g.1 (omega (arith, h)))

-- ---- a text's machine

-- nothing is asked of names, strings, symbols and comments
abbrev free : Goods Span
free = record { name = Any; text = Any; sym = Any; note = Any }

any_ending : (e : Ending) → GoodEnding Any e
any_ending line_feed = tt
any_ending goes_by = tt
any_ending (remark s) = tt

-- each rule has a tape
read_taped : (cs : List ℕ) → Every (λ l. Filled l.raw.read) (kept 0 (body_of (read_lines cs)).rules)
unfolding read_lines
read_taped cs =
    every_impl (GoodRuleLine free) (λ l. Filled l.raw.read) (λ l g. g.raw_good.read_good.0) (kept 0 (body_of (lines covering (tokens cs))).rules)
    (kept_good free (lines covering (tokens cs)) (lines_good Any free (λ t _. any_maybe (state_in t.kind)) (λ t _. any_maybe (symbol_in t.kind)) (λ t _. any_maybe (string_in t.kind)) (λ t _. any_ending (ending_of t.kind)) covering (tokens cs) (every_any Any (λ t. tt) (tokens cs))))

read_kept : (cs : List ℕ) → Every Chosen (kept 0 (body_of (read_lines cs)).rules)
unfolding read_lines
read_kept cs = kept_every Chosen Chosen (λ n l h e. h) 0 (body_of (lines covering (tokens cs))).rules (read_chosen covering (tokens cs))

-- the names of a machine, where those of its text have n bytes
pub record SmallMachine (n : ℕ) (m : Machine Span) : Type 0 where
  pub states_small : total (λ s. name_bytes s.name) m.states ≤ 3 * n
  pub start_small : Maybe (λ q. name_bytes q ≤ 4 * n) m.start
  pub rules_small : Every (Small n) m.rules

-- the machine of a text is small
pub machine_small : (cs : List ℕ) → SmallMachine (total line_bytes (read_lines cs)) (machine_of (read_lines cs))
unfolding machine_of infer_states
machine_small cs =
    let ls : List (Line Span) = read_lines cs in
    let is : List (Located Span (Item Span)) = items ls in
    let n : ℕ = total line_bytes ls in
    let b : ℕ = blank_of is in
    let ks : List (RuleLine Span) = kept 0 (body_of ls).rules in
    let fits : Every Fits ks = kept_fits 0 (body_of ls).rules in
    let chosen : Every Chosen ks = read_kept cs in
    let start : Option (Located Span (List ℕ)) = found (first (select λ p. p.start) is) in
    let finals : List (Located Span (List ℕ)) = fresh same_name nothing (finals_in is) in
    let inferred : List (Located Span (List ℕ)) = infer_states start (expand_all b ks) finals in
    let names : List (Located Span (List ℕ)) = unwrap_or (states_in is) inferred in
    let s : total name_bytes (option_to_list start) ≤ n = option_pays n start (start_pays ls) in
    let f : total name_bytes finals ≤ total name_bytes (finals_in is) = fresh_pays nothing (finals_in is) in
    let from_lines : inferred ≡ fresh same_name nothing (option_to_list start ++ line_mentions ks ++ finals) = states_from_lines b ks fits chosen start finals in
    let small : total name_bytes (fresh same_name nothing (option_to_list start ++ line_mentions ks ++ finals)) ≤ total name_bytes (option_to_list start ++ line_mentions ks ++ finals) =
    fresh_pays nothing (option_to_list start ++ line_mentions ks ++ finals) in
    let mentioned : total name_bytes inferred ≤ 3 * n =
    rw from_lines (omega (arith, small, total_append name_bytes (option_to_list start ++ line_mentions ks) finals, total_append name_bytes (option_to_list start) (line_mentions ks), s, mentions_pay ks, rules_pay ls, f, finals_pay ls)) in
    let named : total name_bytes names ≤ 3 * n = else_pays n (3 * n) (states_in is) inferred (omega arith) (states_pay ls) mentioned in
    record {
      states_small = rw (marked_pays (member same_name finals) nothing names) named;
      start_small = head_pays (4 * n) (option_to_list start ++ names) (omega (arith, total_append name_bytes (option_to_list start) names, s, named));
      rules_small = all_small b n ks (lines_small n ks fits (read_taped cs) (rules_pay ls));
    }
