-- What the form asks of an answer, and every answer to an admitted text has: symbols are scalar values, names and comments are
-- UTF-8, strings are whole.
use Rattle.std.specs.Prelude.{ℕ, true, List, [], ◌∷◌, ◌≡◌}
use Rattle.chars.specs.Utf8.{scalar}
use Rattle.chars.specs.Decoded.{scalars}
use Rattle.form_strings.specs.Strings.{Whole}
use Rattle.machine.specs.declared.Decoder.{Decoder}
use Rattle.machine.specs.declared.Decoder.TheVariants.{Word, Unary, Binary}
use Rattle.machine.specs.declared.Counts.{Counts}
use Rattle.machine.specs.declared.Head.{Head}
use Rattle.language.specs.Agreement.{Answer, groups, records, characters_at}
use Rattle.sheet_view.specs.Sections.{sigma_from, gamma_from, header_from, trailing_from, rules_from}
use Rattle.form_lists.specs.Places.{Every, Utf8At, NameIn, column}
use Rattle.form_rules.specs.Formed.{RuleFormed, formed_one as rule_one, names_one}
use Rattle.std.specs.Coded.{×_prop, Unit-prop}
use Rattle.std.proofs.Props.{props}

-- the symbol that a decoder counts
abbrev pub DecoderFormed : Decoder → Type 0
DecoderFormed Word = Unit {0}
DecoderFormed (Unary c) = scalar c ≡ true
DecoderFormed (Binary o) = Unit {0}

-- what the form asks of the head
pub record HeadFormed (text : List ℕ) (h : Head) : Type 0 where
  pub name : Whole (characters_at text h.name)
  pub input : Whole (characters_at text h.input)
  pub output : DecoderFormed h.output

-- what it asks of all that may be declared: states, Σ, Γ, blank and start
pub record DeclaredFormed (text : List ℕ) (h : Head) (states sigma gamma : List ℕ) : Type 0 where
  pub names : Every (NameIn text) (groups 3 h.counts.states states)
  pub sigma_codes : h.declared.input_alphabet ≡ true → scalars (column 3 0 h.counts.sigma sigma) ≡ true
  pub gamma_codes : h.declared.tape_alphabet ≡ true → scalars (column 3 0 h.counts.gamma gamma) ≡ true
  pub blank : scalar h.blank ≡ true
  pub start : Utf8At text h.start

-- what it asks of header comments, trailing comments and rules
pub record BodyFormed (text : List ℕ) (n : Counts) (header trailing rules : List ℕ) : Type 0 where
  pub header_texts : Every (NameIn text) (groups 2 n.header header)
  pub trailing_texts : Every (NameIn text) (groups 2 n.trailing trailing)
  pub rule_records : Every (RuleFormed text) (records n.rules rules)

-- a well-formed answer (crates/form_theorems: every answer to an admitted text is one)
pub record WellFormed (a : Answer) : Type 0 where
  pub head_part : HeadFormed a.text a.head
  pub declared_part : DeclaredFormed a.text a.head a.sheet (sigma_from a.head.counts a.sheet) (gamma_from a.head.counts a.sheet)
  pub body_part : BodyFormed a.text a.head.counts
      (header_from a.head.counts a.sheet) (trailing_from a.head.counts a.sheet) (rules_from a.head.counts a.sheet)

-- a decoder can be well formed in one way only
decoder_one : (d : Decoder) → IsProp (DecoderFormed d)
decoder_one Word = Unit-prop
decoder_one (Unary c) = hlevel props
decoder_one (Binary o) = Unit-prop

-- rules can be well formed in one way only
rules_one : (text : List ℕ) (l : List (List ℕ)) → IsProp (Every (RuleFormed text) l)
rules_one text [] = Unit-prop
rules_one text (ws ∷ l) = ×_prop (rule_one text ws) (rules_one text l)

-- an answer can be well formed in one way only
pub formed_one : (a : Answer) → IsProp (WellFormed a)
formed_one a = hlevel (props, decoder_one, names_one, rules_one)
