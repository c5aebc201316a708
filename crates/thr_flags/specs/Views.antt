-- What the code's kinds of strings are (own).
use Rattle.thr_flags.specs.declared.runs.RunCode.{RunCode}
use Rattle.thr_flags.specs.declared.runs.RunCode.TheVariants.{Long as LongCode, Short as ShortCode}
use Rattle.thr_flags.specs.RunStrings.{RunForm, Long, Short}

abbrev pub run_form : RunCode → RunForm
run_form LongCode = Long
run_form ShortCode = Short
