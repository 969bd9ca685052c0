use Rattle.std.proofs.Common.{ap, ◌∙◌, eqb}
use Rattle.language.specs.Infer.{member}
use Rattle.infer_symbols.proofs.CodeLaws.{any-member, taken-few}
use Rattle.infer_symbols.proofs.codes.Codes.contains.Goals as goal

pub returns : goal.returns
returns c = λ h. c.contains.ensures.value ∙ any-member _ _ ∙ ap (λ l. member eqb l c.args.c) (taken-few _ _ _ c.min-n.ensures h.low)
