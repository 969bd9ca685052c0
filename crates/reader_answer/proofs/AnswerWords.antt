-- A head and an answer in words.
use Rattle.std.proofs.Common.{◌≡◌, refl, Bool, true, false, [], ◌∷◌, slice_index_or}
use mir.Val.{bool_byte}
use Rattle.language.specs.Layout.{flag, decoder_words}
use Rattle.machine.specs.declared.BitOrder.TheVariants.{Lsb, Msb}
use Rattle.machine.specs.declared.Decoder.{Decoder}
use Rattle.machine.specs.declared.Decoder.TheVariants.{Word, Unary, Binary}

-- a flag as a number
pub flag_is : (b : Bool) → bool_byte b ≡ flag b
flag_is true = refl
flag_is false = refl

-- a decoder has two words
pub two_words : (d : Decoder) → decoder_words d ≡ slice_index_or (decoder_words d) 0 0 ∷ slice_index_or (decoder_words d) 1 0 ∷ []
two_words Word = refl
two_words (Unary c) = refl
two_words (Binary Lsb) = refl
two_words (Binary Msb) = refl
