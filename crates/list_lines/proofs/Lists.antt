-- Lists: what is still to be printed of a section's records, whose words are what is left of its words.
use mathlib.Core.Path.{◌≡◌, refl, sym, ap, ap₂, ◌∙◌}
use Prim.Native.Nat.{ℕ, zero, suc, ◌+◌, ◌-◌, ◌/◌, ◌≤◌, ◌<◌, min}
use native.Mathlib.Omega.{arith}
use native.Mathlib.Numerals.{add-one}
use mathlib.Core.Bool.{Bool, true, false, ◌||◌}
use mathlib.Core.List.{List, [], ◌∷◌, ◌++◌}
use lib.Dec.{eqb, ltb}
use lib.ListN.{length, take, drop, length-append}
use lib.Seq.{get_or-take, take-append_seam, drop-append_seam}
use borrow.Author.Tests.{lt-ltb}
use Rattle.machine.specs.declared.Counts.{Counts}
use Rattle.language.specs.Plain.{Piece, ◌⨾◌, only, each, direction, dir_code}
use Rattle.language.specs.Machine.{Dir}
use Rattle.language.specs.Agreement.{groups, records, at, place_at, dir_of}
use Rattle.sheet_view.proofs.Records.{groups-next, groups-end, records-next, records-end}
use Rattle.emit.specs.declared.Output.{Output}
use Rattle.emit.specs.Appends.{Appends}
use Rattle.list_lines.specs.Listing.{number, named, parted, names, codes, moves, diagnostic, transition}
use Rattle.list_lines.specs.Puts.{Puts}
use Rattle.emit.proofs.Chain.{◌▹◌, goes_start, goes_on, goes_end}
use Rattle.list_lines.proofs.Chain.{said, Goes}

-- ---- members that are left of a list

-- a byte
abbrev pub one : ℕ → Piece
one b = λ rest. b ∷ rest

-- what is left to print of a list of which i members are printed
pub more : ℕ → ℕ → List Piece → Piece
more sep zero ps = parted sep ps
more sep (suc i) ps = each (λ p. one sep ⨾ p) ps

parted-each : (sep : ℕ) (p : Piece) (ps : List Piece) (rest : List ℕ) → parted sep (p ∷ ps) rest ≡ p (each (λ q. one sep ⨾ q) ps rest)
unfolding parted each
parted-each sep p [] rest = refl
parted-each sep p (q ∷ ps) rest = ap (λ r. p (sep ∷ r)) (parted-each sep q ps rest)

more_next : (sep i : ℕ) (p : Piece) (ps : List Piece) (rest : List ℕ) → more sep i (p ∷ ps) rest ≡ only (ltb 0 i) (one sep) (p (more sep (i + 1) ps rest))
unfolding more each
more_next sep zero p ps rest = parted-each sep p ps rest
more_next sep (suc i) p ps rest = rw (lt-ltb 0 (suc i) (omega arith), add-one (suc i))

more_none : (sep i : ℕ) (rest : List ℕ) → more sep i [] rest ≡ rest
unfolding more parted each
more_none sep zero rest = refl
more_none sep (suc i) rest = refl

pub list_start : (sep : ℕ) {all ps : List Piece} {o : Output} → all ≡ ps → Goes (more sep 0 all) o (parted sep ps) o
unfolding more
list_start sep e = goes_start (λ rest. ap (λ l. parted sep l rest) e)

pub list_on : (sep i : ℕ) (p : Piece) (ps all : List Piece) {o x r o₀ : Output} {p₀ : Piece}
    → all ≡ p ∷ ps → Goes (more sep i all) o p₀ o₀ → Puts (only (ltb 0 i) (one sep)) o x → Puts p x r → Goes (more sep (i + 1) ps) r p₀ o₀
list_on sep i p ps all e g u v = goes_on (λ rest. ap (λ l. more sep i l rest) e ∙ more_next sep i p ps rest) g (u ▹ v)

pub list_end : (sep i : ℕ) (ps : List Piece) {o o₀ : Output} {p₀ : Piece} → ps ≡ [] → Goes (more sep i ps) o p₀ o₀ → Puts p₀ o₀ o
list_end sep i ps e g = goes_end (λ rest. ap (λ l. more sep i l rest) e ∙ more_none sep i rest) g

-- ---- codes and moves

module _ (sep k o n i : ℕ) (ws : List ℕ) where
  pub codes-on : i < n → o < k → {f a r o₀ : Output} {p₀ : Piece} → Goes (more sep i (codes o (groups k (n - i) ws))) f p₀ o₀ → Puts (only (ltb 0 i) (one sep)) f a
      → Puts (number (at ws o)) a r → Goes (more sep (i + 1) (codes o (groups k (n - (i + 1)) (drop k ws)))) r p₀ o₀
  unfolding codes
  codes-on h low g u v =
      list_on sep i (number (at ws o)) (codes o (groups k (n - (i + 1)) (drop k ws))) _
      (ap (codes o) (groups-next k n i ws h) ∙ ap (λ m. number m ∷ codes o (groups k (n - (i + 1)) (drop k ws))) (get_or-take k ws o 0 low)) g u v

  pub codes-end : n ≤ i → {f o₀ : Output} {p₀ : Piece} → Goes (more sep i (codes o (groups k (n - i) ws))) f p₀ o₀ → Puts p₀ o₀ f
  unfolding codes
  codes-end h g = list_end sep i _ (ap (codes o) (groups-end k n i ws h)) g

module _ (sep n i : ℕ) (ws : List ℕ) where
  pub moves-on : i < n → {f a r o₀ : Output} {p₀ : Piece} → Goes (more sep i (moves (groups 7 (n - i) ws))) f p₀ o₀ → Puts (only (ltb 0 i) (one sep)) f a
      → Puts (direction (dir_of (at ws 6))) a r → Goes (more sep (i + 1) (moves (groups 7 (n - (i + 1)) (drop 7 ws)))) r p₀ o₀
  unfolding moves
  moves-on h g u v =
      list_on sep i (direction (dir_of (at ws 6))) (moves (groups 7 (n - (i + 1)) (drop 7 ws))) _
      (ap moves (groups-next 7 n i ws h) ∙ ap (λ m. direction (dir_of m) ∷ moves (groups 7 (n - (i + 1)) (drop 7 ws))) (get_or-take 7 ws 6 0 (omega arith))) g u v

  pub moves-end : n ≤ i → {f o₀ : Output} {p₀ : Piece} → Goes (more sep i (moves (groups 7 (n - i) ws))) f p₀ o₀ → Puts p₀ o₀ f
  unfolding moves
  moves-end h g = list_end sep i _ (ap moves (groups-end 7 n i ws h)) g

-- a move
pub moved : (d : Dir) {b : ℕ} {o r : Output} → b ≡ dir_code d → Appends (b ∷ []) o r → Puts (direction d) o r
moved d e a = said (rw e at a)

-- ---- names

-- whether a name is due
pub due_last : (all b : Bool) → b ≡ true → (all || b) ≡ true
due_last true b e = refl
due_last false b e = e

pub not_due : (all b : Bool) → all ≡ false → b ≡ false → (all || b) ≡ false
not_due all b e h = rw (e, h)

module _ (text : List ℕ) (all : Bool) (n i printed : ℕ) (ws : List ℕ) where
  -- the name of the state that is next, and those behind it
  here : Piece
  here = named text (place_at ws 0)

  abbrev behind : List Piece
  behind = names text all (groups 3 (n - (i + 1)) (drop 3 ws))

  abbrev row : ℕ → List Piece → List Piece
  row v shown = elim (all || eqb v 1) [ true ↦ shown | false ↦ behind ]

  names-next : i < n → names text all (groups 3 (n - i) ws) ≡ elim (all || eqb (at ws 2) 1) [ true ↦ here ∷ behind | false ↦ behind ]
  unfolding names here
  names-next h =
      let p : place_at (take 3 ws) 0 ≡ place_at ws 0 = ap₂ (λ a b. record { start = a; end = b }) (get_or-take 3 ws 0 0 (omega arith)) (get_or-take 3 ws 1 0 (omega arith)) in
      ap (names text all) (groups-next 3 n i ws h) ∙ ap₂ row (get_or-take 3 ws 2 0 (omega arith)) (ap (λ s. named text s ∷ behind) p)

  module _ (h : i < n) {o o₀ : Output} {p₀ : Piece} (g : Goes (more 0x20 printed (names text all (groups 3 (n - i) ws))) o p₀ o₀) where
    pub names-on : (all || eqb (at ws 2) 1) ≡ true → {x r : Output} → Puts (only (ltb 0 printed) (one 0x20)) o x → Puts (named text (place_at ws 0)) x r
        → Goes (more 0x20 (printed + 1) (names text all (groups 3 (n - (i + 1)) (drop 3 ws)))) r p₀ o₀
    unfolding here
    names-on t u v = list_on 0x20 printed here behind _ (names-next h ∙ ap (λ b. elim b [ true ↦ here ∷ behind | false ↦ behind ]) t) g u v

    pub names-pass : (all || eqb (at ws 2) 1) ≡ false → Goes (more 0x20 printed (names text all (groups 3 (n - (i + 1)) (drop 3 ws)))) o p₀ o₀
    names-pass t =
        let e : names text all (groups 3 (n - i) ws) ≡ behind = names-next h ∙ ap (λ b. elim b [ true ↦ here ∷ behind | false ↦ behind ]) t in
        rw e at g

  pub names-end : n ≤ i → {o o₀ : Output} {p₀ : Piece} → Goes (more 0x20 printed (names text all (groups 3 (n - i) ws))) o p₀ o₀ → Puts p₀ o₀ o
  unfolding names
  names-end h g = list_end 0x20 printed _ (ap (names text all) (groups-end 3 n i ws h)) g

-- ---- transitions

module _ (text : List ℕ) (n i : ℕ) (ws : List ℕ) where
  pub rules-on : i < n → {o r o₀ : Output} {p₀ : Piece} → Goes (each (transition text) (records (n - i) ws)) o p₀ o₀ → Puts (transition text (take (at ws 0) ws)) o r
      → Goes (each (transition text) (records (n - (i + 1)) (drop (at ws 0) ws))) r p₀ o₀
  unfolding each
  rules-on h g u = goes_on (λ rest. ap (λ l. each (transition text) l rest) (records-next n i ws h)) g u

  pub rules-end : n ≤ i → {o o₀ : Output} {p₀ : Piece} → Goes (each (transition text) (records (n - i) ws)) o p₀ o₀ → Puts p₀ o₀ o
  unfolding each
  rules-end h g = goes_end (λ rest. ap (λ l. each (transition text) l rest) (records-end n i ws h)) g

-- ---- diagnostics

-- at most k records of five words
log_left : ℕ → List ℕ → List (List ℕ)
log_left k ws = groups 5 (min k (length ws / 5)) ws

log-next : (k : ℕ) (x ws : List ℕ) → length x ≡ 5 → log_left (k + 1) (x ++ ws) ≡ x ∷ log_left k ws
unfolding log_left groups
log-next k x ws five =
    let long : length (x ++ ws) ≡ length x + length ws = length-append x ws in
    let count : min (k + 1) (length (x ++ ws) / 5) ≡ suc (min k (length ws / 5)) = omega (arith, long, five) in
    let first : take 5 (x ++ ws) ≡ x = rw five at (take-append_seam x ws) in
    let rest : drop 5 (x ++ ws) ≡ ws = rw five at (drop-append_seam x ws) in
    rw (count, first, rest)

module _ (text : List ℕ) (k : ℕ) (ws : List ℕ) {o o₀ : Output} {p₀ : Piece} where
  pub log-on : (k' : ℕ) (x ws' : List ℕ) {r : Output} → ws ≡ x ++ ws' → length x ≡ 5 → k' + 1 ≡ k → Goes (each (diagnostic text) (groups 5 (min k (length ws / 5)) ws)) o p₀ o₀
      → Puts (diagnostic text x) o r → Goes (each (diagnostic text) (groups 5 (min k' (length ws' / 5)) ws')) r p₀ o₀
  unfolding each log_left
  log-on k' x ws' e five less g u = goes_on (λ rest. ap (λ l. each (diagnostic text) l rest) (ap₂ log_left (sym less) e ∙ log-next k' x ws' five)) g u

  pub log-end : (0 < k → length ws < 5) → Goes (each (diagnostic text) (groups 5 (min k (length ws / 5)) ws)) o p₀ o₀ → Puts p₀ o₀ o
  unfolding each groups
  log-end none g = let e : min k (length ws / 5) ≡ 0 = grind arith in goes_end (λ rest. rw e) g
