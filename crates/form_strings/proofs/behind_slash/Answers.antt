-- An escape is in ASCII, and written as it stands.
use Rattle.std.proofs.Common.{arith, rules, sym, ◌∙◌}
use Rattle.form_strings.proofs.Chain.{chain, known}
use Rattle.form_strings.proofs.Strings.{escape_ascii, escape-written, slashes}
use Rattle.form_strings.proofs.behind_slash.Goals as goal

pub overflow_cast-c : goal.overflow_cast-c
overflow_cast-c c = let low = escape_ascii c.args.c (sym c.is_escape.ensures ∙ c.if-is_escape.true) in omega (arith, low)

pub returns-then-is_escape : goal.returns-then-is_escape
returns-then-is_escape c =
    let low = escape_ascii c.args.c (sym c.is_escape.ensures ∙ c.if-is_escape.true) in
    let is = escape-written c.args.c (sym c.is_escape.ensures ∙ c.if-is_escape.true) in
    search (rules, chain, slashes)
