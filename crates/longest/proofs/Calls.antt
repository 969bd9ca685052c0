-- The call by its test: a refusal for a length that is not answered, else the line at the front, which keeps the promise.
use Rattle.std.proofs.Common.{ℕ, ◌≤◌, ◌<◌, ◌≡◌, refl, sym, ap, ap₂, ◌∙◌, Bool, true, false, cond, ◌&&◌, leb, leb-true, List, ◌++◌, length, take, drop, Result, Ok, Err, IfOk, arith}
use Rattle.std.proofs.lemmas.Bool.{and_parts}
use Rattle.std.proofs.lemmas.List.{take_at}
use Rattle.emit.specs.Output.{output, appended}
use Rattle.emit.proofs.Appends.{appended-front}
use Rattle.longest.specs.declared.BestLine.{BestLine}
use Rattle.longest.specs.declared.LongestRefusal.{LongestRefusal}
use Rattle.longest.specs.declared.LongestRefusal.TheVariants.{OutOfRange}
use Rattle.longest.specs.Line.{pairs, line_for, number_for}
use Rattle.longest.specs.Most.{Most}
use Rattle.longest.specs.Call.{is_answered, lined, longest}
use Rattle.longest.proofs.Written.{line_length}
use Rattle.longest.proofs.Theorem.{the_most}

-- what the test says
pub record Answered (n room : ℕ) : Type 0 where
  pub least : 15 ≤ n
  pub most : n ≤ 96
  pub fits : n ≤ room

pub answered : (n room : ℕ) → is_answered n room ≡ true → Answered n room
answered n room e =
    let a = and_parts (leb 15 n) (leb n 96 && leb n room) e in
    let b = and_parts (leb n 96) (leb n room) a.1 in
    record { least = leb-true 15 n a.0; most = leb-true n 96 b.0; fits = leb-true n room b.1 }

module _ (n : ℕ) (row : List ℕ) where
  abbrev refused : Result BestLine LongestRefusal × List ℕ
  refused = (Err OutOfRange, row)

  abbrev line : List ℕ
  line = line_for (pairs n)

  pub outcome_by : (x : Bool) → is_answered n (length row) ≡ x → longest n row ≡ cond x (lined line (number_for (pairs n)) row) refused
  unfolding longest
  outcome_by x e = ap (λ (b : Bool). cond b (lined line (number_for (pairs n)) row) refused) e

  pub refused_by : is_answered n (length row) ≡ false → refused ≡ longest n row
  refused_by e = sym (outcome_by false e)

  -- a length that is answered
  module _ (e : is_answered n (length row) ≡ true) where
    known : Answered n (length row)
    known = answered n (length row) e

    pub line_fits : length line ≤ n
    line_fits = omega (arith, line_length (pairs n) (omega (arith, known.most)), known.least)

    module _ (s : length row < 18446744073709551616) (after : List ℕ) (end k : ℕ) (p : output after end ≡ appended (output row 0) line) (q : k ≡ number_for (pairs n)) where
      front : output after end ≡ output (line ++ drop (length line) row) (length line)
      front = p ∙ appended-front row line s (omega (arith, line_fits, known.fits))

      end_is : end ≡ length line
      end_is = ap (λ o. o.at) front

      after_is : after ≡ line ++ drop (length line) row
      after_is = ap (λ o. o.row) front

      pub line_written : (Ok (record { length = end; rules = k }), after) ≡ longest n row
      line_written =
          let made : ℕ → ℕ → List ℕ → Result BestLine LongestRefusal × List ℕ = λ m r w. (Ok (record { length = m; rules = r }), w) in
          ap₂ (λ (m : ℕ) (w : List ℕ). made m k w) end_is after_is
          ∙ (ap (λ (r : ℕ). lined line r row) q
          ∙ sym (outcome_by true e))

      line_taken : take end after ≡ line
      line_taken = ap₂ take end_is after_is ∙ take_at line (drop (length line) row) (length line) refl

      pub line_most : Most n (take end after) k
      line_most = rw (line_taken, q) (the_most n known.least known.most)

-- whatever is answered, the line is short
pub answer_short : (n : ℕ) (row : List ℕ) → IfOk (longest n row).0 (λ l. l.length ≤ 96)
answer_short n row = go (is_answered n (length row)) refl
  where
    go : (x : Bool) → is_answered n (length row) ≡ x → IfOk (longest n row).0 (λ l. l.length ≤ 96)
    go true e = rw (outcome_by n row true e) (omega (arith, line_fits n row e, (answered n (length row) e).most))
    go false e = rw (outcome_by n row false e) tt
