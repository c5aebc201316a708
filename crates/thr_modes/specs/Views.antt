-- What values of the code say: codings, and the vectors of a macro block (own). pf is the pixel format.
use Rattle.std.specs.Prelude.{ℕ, map, take}
use Rattle.thr_modes.specs.declared.alphabet.ModeCoding.{ModeCoding}
use Rattle.thr_modes.specs.declared.alphabet.ModeCoding.TheVariants.{Ranked as RankedCoding, Plain as PlainCoding}
use Rattle.thr_modes.specs.declared.component.VectorCoding.{VectorCoding}
use Rattle.thr_modes.specs.declared.component.VectorCoding.TheVariants.{Prefixed as PrefixedCoding, Fixed as FixedCoding}
use Rattle.thr_modes.specs.declared.motion.MacroVectors.{MacroVectors}
use Rattle.thr_modes.specs.declared.motion.Remembered.{Remembered}
use Rattle.thr_modes.specs.Forms.{ModeForm, Ranked, Plain, VectorForm, Prefixed, Fixed}
use Rattle.thr_modes.specs.Vectors.{offset_of}
use Rattle.thr_modes.specs.Motion.{Motion, Memory, chroma_count}

-- chroma vectors past those of the macro block's blocks say nothing
unfoldable pub motion_of : ℕ → MacroVectors → Motion
motion_of pf vectors = record { luma = map offset_of vectors.luma; chroma = take (chroma_count pf) (map offset_of vectors.chroma) }

unfoldable pub memory_of : Remembered → Memory
memory_of remembered = record { last1 = offset_of remembered.last1; last2 = offset_of remembered.last2 }

abbrev pub mode_form : ModeCoding → ModeForm
mode_form (RankedCoding alphabet) = Ranked alphabet
mode_form PlainCoding = Plain

abbrev pub vector_form : VectorCoding → VectorForm
vector_form PrefixedCoding = Prefixed
vector_form FixedCoding = Fixed
