-- What the meanings, table numbers and parts of the code are (own).
use Rattle.thr_token.specs.declared.meaning.Meaning.{Meaning as CodeMeaning}
use Rattle.thr_token.specs.declared.meaning.Meaning.TheVariants.{EndRun as CodeEndRun, ZeroRun as CodeZeroRun, Value as CodeValue}
use Rattle.thr_token.specs.declared.trees.TableNumbers.{TableNumbers as CodeNumbers}
use Rattle.thr_token.specs.declared.writing.Part.{Part as CodePart}
use Rattle.thr_token.specs.declared.writing.Part.TheVariants.{Dc as CodeDc, Ac as CodeAc}
use Rattle.thr_token.specs.Tokens.{Meaning, EndRun, ZeroRun, Value}
use Rattle.thr_token.specs.Coefficients.{TableNumbers}
use Rattle.thr_token.specs.WrittenTokens.{Part, Dc, Ac}

abbrev pub as_meaning : CodeMeaning → Meaning
as_meaning (CodeEndRun blocks) = EndRun blocks
as_meaning (CodeZeroRun zeros) = ZeroRun zeros
as_meaning (CodeValue zeros value) = Value zeros value

abbrev pub as_numbers : CodeNumbers → TableNumbers
as_numbers numbers = record { luma = numbers.luma; chroma = numbers.chroma }

abbrev pub as_part : CodePart → Part
as_part CodeDc = Dc
as_part CodeAc = Ac
