-- The definition makes the same test.
use Rattle.std.proofs.Common.{◌≡◌, ℕ, Bool, true, false, ◌&&◌, eqb}
use mathlib.Core.Path.{sym, ◌∙◌}
use Rattle.emit.specs.declared.Output.{Output}
use Rattle.lexer.specs.Tokens.{span}
use Rattle.language.specs.Plain.{say}
use Rattle.list_lines.specs.Listing.{place, related}
use Rattle.list_lines.specs.Puts.{Puts}
use Rattle.list_lines.proofs.Chain.{said}
use Rattle.list_lines.proofs.related.Goals as goal

module _ (a b : ℕ) (t : Bool) (q : t ≡ (eqb a 4294967295 && eqb b 4294967295)) {o r : Output} where
  is_none : t ≡ true → Puts (say "none none") o r → Puts (related (span a b)) o r
  unfolding related
  is_none e u = let c : (eqb a 4294967295 && eqb b 4294967295) ≡ true = sym q ∙ e in rw (related, c) u

  is_place : t ≡ false → Puts (place (span a b)) o r → Puts (related (span a b)) o r
  unfolding related
  is_place e u = let c : (eqb a 4294967295 && eqb b 4294967295) ≡ false = sym q ∙ e in rw (related, c) u

pub returns-then-eq : goal.returns-then-eq
returns-then-eq c = is_none _ _ _ c.eq.ensures c.if-eq.true (said c.bytes.ensures)

pub returns : goal.returns
returns c = is_place _ _ _ c.eq.ensures c.if-eq.false c.place.ensures
