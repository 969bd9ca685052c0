-- What two machines that agree have in common (paper 01, "Plain form"): everything but places.
use Rattle.std.specs.Prelude.{ℕ, Bool, List, [], map, Option, option_map, unwrap_or}
use Rattle.machine.specs.declared.Kind.{Kind}
use Rattle.machine.specs.declared.Decoder.{Decoder}
use Rattle.machine.specs.declared.Declared.{Declared}
use Rattle.language.specs.Machine.{Located, Dir, Rule, Machine}

-- a state's name, and whether it is final
pub record StateContent : Type 0 where
  pub name : List ℕ
  pub final : Bool

-- code points read and written on one tape, and the move
pub record ActionContent : Type 0 where
  pub read : ℕ
  pub write : ℕ
  pub dir : Dir

-- a rule; one without a comment differs from one with an empty comment
pub record RuleContent : Type 0 where
  pub from : List ℕ
  pub to : List ℕ
  pub comment : Option (List ℕ)
  pub leading : List (List ℕ)
  pub actions : List ActionContent

-- a machine as the characters that it stands for; an undeclared name or input is empty, and so is the start where there is no state
pub record Content : Type 0 where
  pub name : List ℕ
  pub input : List ℕ
  pub kind : Kind
  pub output : Decoder
  pub tapes : ℕ
  pub blank : ℕ
  pub declared : Declared
  pub start : List ℕ
  pub states : List StateContent
  pub sigma : List ℕ
  pub gamma : List ℕ
  pub header : List (List ℕ)
  pub trailing : List (List ℕ)
  pub rules : List RuleContent

-- the value of a located list, empty where there is none
unfoldable pub value_or : {P : Type 0} → Option (Located P (List ℕ)) → List ℕ
value_or o = unwrap_or (option_map (λ l. l.value) o) []

-- an optional value without its place
unfoldable pub optional : {P : Type 0} → Option (Located P (List ℕ)) → Option (List ℕ)
optional o = option_map (λ l. l.value) o

-- the values of a list
unfoldable pub values : {P A : Type 0} → List (Located P A) → List A
values ls = map (λ l. l.value) ls

-- a rule without its places
unfoldable pub rule_content : {P : Type 0} → Rule P → RuleContent
unfolding optional values
rule_content r = record {
  from = r.from.value;
  to = r.to.value;
  comment = optional r.comment;
  leading = values r.leading;
  actions = map (λ a. record { read = a.read.value; write = a.write.value; dir = a.dir }) r.actions;
}

-- a machine without its places
unfoldable pub content_of : {P : Type 0} → Machine P → Content
unfolding value_or values rule_content
content_of m = record {
  name = value_or m.name;
  input = value_or m.input;
  kind = m.kind;
  output = m.output;
  tapes = m.tapes;
  blank = m.blank;
  declared = m.declared;
  start = value_or m.start;
  states = map (λ s. record { name = s.name.value; final = s.final }) m.states;
  sigma = map (λ s. s.code) m.sigma;
  gamma = map (λ s. s.code) m.gamma;
  header = values m.header;
  trailing = values m.trailing;
  rules = map rule_content m.rules;
}
