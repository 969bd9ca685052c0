-- An item in columns, of which it fills one, so that laws of what items declare are said once for all columns.
use mathlib.Core.List.{List}
use Rattle.std.specs.Prelude.{ℕ, Option, None, Some}
use Rattle.machine.specs.declared.Kind.{Kind}
use Rattle.language.specs.Machine.{Located}
use Rattle.language.specs.Lines.{RawSymbol, RawDecoder, RawTransition, Text, Item, machine_item, input_item, kind_item, output_item, tapes_item, states_item, final_item, input_alphabet_item, tape_alphabet_item, blank_item, start_item, transition_item}

-- what an item declares, or the rule that it is
pub record Parts (P : Type 0) : Type 0 where
  pub machine : Option (Text P)
  pub kind : Option Kind
  pub input : Option (Text P)
  pub output : Option RawDecoder
  pub tapes : Option (Located P ℕ)
  pub states : Option (List (Located P (List ℕ)))
  pub sigma : Option (List (Located P RawSymbol))
  pub gamma : Option (List (Located P RawSymbol))
  pub blank : Option RawSymbol
  pub start : Option (Located P (List ℕ))
  pub finals : Option (List (Located P (List ℕ)))
  pub rule : Option (RawTransition P)

-- the columns of an item
abbrev pub parts : {P : Type 0} → Item P → Parts P
parts i = record {
  machine = elim i [ machine_item s ↦ Some s | _ ↦ None ];
  kind = elim i [ kind_item k ↦ Some k | _ ↦ None ];
  input = elim i [ input_item s ↦ Some s | _ ↦ None ];
  output = elim i [ output_item o ↦ Some o | _ ↦ None ];
  tapes = elim i [ tapes_item n ↦ Some n | _ ↦ None ];
  states = elim i [ states_item q ↦ Some q | _ ↦ None ];
  sigma = elim i [ input_alphabet_item s ↦ Some s | _ ↦ None ];
  gamma = elim i [ tape_alphabet_item s ↦ Some s | _ ↦ None ];
  blank = elim i [ blank_item b ↦ Some b | _ ↦ None ];
  start = elim i [ start_item q ↦ Some q | _ ↦ None ];
  finals = elim i [ final_item q ↦ Some q | _ ↦ None ];
  rule = elim i [ transition_item r ↦ Some r | _ ↦ None ];
}

-- a column of an item
abbrev pub select : {P A : Type 0} → (Parts P → Option A) → Item P → Option A
select part i = part (parts i)
