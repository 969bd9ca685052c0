-- Plain forms of two machines, computed: one with every kind of line, and the machine of the empty text.
use mathlib.Core.Bool.{true, false}
use mathlib.Core.List.{[], ◌∷◌}
use Rattle.std.specs.Prelude.{None, Some}
use mathlib.Core.Path.{◌≡◌, refl}
use Rattle.lexer.specs.Text.{codes}
use Rattle.machine.specs.declared.Kind.TheVariants.{Acceptor, Transducer}
use Rattle.machine.specs.declared.Decoder.TheVariants.{Word, Unary}
use Rattle.language.specs.Machine.{left, right, stay}
use Rattle.language.specs.Content.{Content}
use Rattle.language.specs.Plain.{plain}

every : Content
every = record {
  name = codes "a \"b\" \\ c";
  input = codes "0\n\t1";
  kind = Acceptor;
  output = Unary 0x31;
  tapes = 205;
  blank = 0x27;
  declared = record { states = true; input_alphabet = true; tape_alphabet = true; start = true; blank = true };
  start = codes "a";
  states = record { name = codes "a"; final = true } ∷ record { name = codes "b'"; final = false } ∷ record { name = codes "c"; final = true } ∷ [];
  sigma = codes "01";
  gamma = codes "01'";
  header = codes "head" ∷ [] ∷ codes " two" ∷ [];
  trailing = codes "end" ∷ [] ∷ [];
  rules = record {
    from = codes "a";
    to = codes "b'";
    comment = Some (codes "go");
    leading = codes "lead" ∷ [] ∷ [];
    actions = record { read = 0x30; write = 0x31; dir = right } ∷ record { read = 0x27; write = 0x3B; dir = left } ∷ [];
  }
      ∷ record { from = codes "a"; to = codes "a"; comment = Some []; leading = []; actions = record { read = 0x5F; write = 0x2423; dir = stay } ∷ [] }
      ∷ record { from = codes "c"; to = codes "a"; comment = None; leading = []; actions = record { read = 0x20; write = 0x2A; dir = stay } ∷ [] }
      ∷ [];
}

every_plain : plain every ≡ codes
    "// head\n//\n//  two\nmachine \"a \\\"b\\\" \\\\ c\"\nkind acceptor\ninput \"0\\n\\t1\"\noutput unary '1'\ntapes = 205\nQ = {a, b', c}\nΣ = {'0', '1'}\nΓ = {'0', '1', '''}\nblank = '''\nstart = a\nF = {a, c}\n// lead\n//\nδ(a, ('0', ''')) = (b', ('1', ';'), (R, L)) // go\nδ(a, ('_')) = (a, ('␣'), (N)) //\nδ(c, (' ')) = (a, ('*'), (N))\n// end\n//\n"
unfolding plain every
every_plain = refl

empty : Content
empty = record {
  name = [];
  input = [];
  kind = Transducer;
  output = Word;
  tapes = 1;
  blank = 0x2423;
  declared = record { states = false; input_alphabet = false; tape_alphabet = false; start = false; blank = false };
  start = [];
  states = [];
  sigma = [];
  gamma = 0x2423 ∷ [];
  header = [];
  trailing = [];
  rules = [];
}

empty_plain : plain empty ≡ codes "machine \"\"\nkind transducer\ninput \"\"\noutput word\ntapes = 1\nF = {}\n"
unfolding plain empty
empty_plain = refl
