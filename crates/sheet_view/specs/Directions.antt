-- The direction, as the code has it, in the definition's terms.
use Rattle.language.specs.Machine.{Dir, left, right, stay}
use Rattle.sheet_view.specs.declared.direction.Direction.{Direction}
use Rattle.sheet_view.specs.declared.direction.Direction.TheVariants.{Left, Right, Stay}

-- what a direction is in the definition
abbrev pub dir_in : Direction → Dir
dir_in Left = left
dir_in Right = right
dir_in Stay = stay
