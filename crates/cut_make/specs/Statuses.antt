-- Statuses of a film that is written (own).
use Rattle.std.specs.Prelude.{◌≡◌, ◌⊎◌}
use Rattle.cut_report.specs.declared.status.Status.{Status}
use Rattle.cut_report.specs.declared.status.Status.TheVariants.{WriteFault, NoMem}

-- while bytes are made and written
abbrev pub IsWriting : Status → Type 0
IsWriting status = (status ≡ WriteFault) ⊎ (status ≡ NoMem)
