-- The number of a name is told by the byte where it starts.
use Rattle.std.proofs.Common.{ap, sym, ◌∙◌, get_or, refl}
use Rattle.runner_rules.specs.Firsts.{first_at}
use Rattle.runner_rules.proofs.search.Rules.known_next.Goals as goal

pub returns : goal.returns
returns c =
    let numbers = c.args.self.now.numbers.now in
    let same = sym c.if-name-before.false in
    record {
      at_name = refl;
      named = c.requires.state;
      number = c.requires.known.number ∙ ap (λ i. get_or numbers i 0) same;
      first = c.requires.known.first ∙ ap (λ i. first_at c.args.self.now.firsts.now (get_or numbers i 0)) same;
    }
