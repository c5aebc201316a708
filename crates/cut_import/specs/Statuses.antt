-- Statuses of an import (own).
use Rattle.std.specs.Prelude.{◌≡◌, ◌⊎◌, ℕ}
use Rattle.y4m_io.specs.declared.fault.Y4mFault.{Y4mFault}
use Rattle.y4m_io.specs.declared.fault.Y4mFault.TheVariants.{Bad, ReadFault as ReadFailed, NoMem as NoRoom}
use Rattle.y4m_io.specs.declared.fault.Y4mWhy.{Y4mWhy}
use Rattle.cut_report.specs.declared.status.Status.{Status}
use Rattle.cut_report.specs.declared.status.Status.TheVariants.{BadY4m, NoMem, ReadFault, WriteFault}

-- the status of an input that was not read on
abbrev pub departure_status : Y4mFault → Status
departure_status (Bad frame why) = BadY4m frame why
departure_status ReadFailed = ReadFault
departure_status NoRoom = NoMem

-- the input departs from its form
abbrev pub IsDeparture : Status → Type 0
IsDeparture status = (frame : ℕ) × (why : Y4mWhy) × (status ≡ BadY4m frame why)

-- while pictures are read, coded and written in turn
abbrev pub IsImporting : Status → Type 0
IsImporting status = (status ≡ ReadFault) ⊎ ((status ≡ WriteFault) ⊎ ((status ≡ NoMem) ⊎ IsDeparture status))

-- while frames are coded and written
abbrev pub IsWriting : Status → Type 0
IsWriting status = (status ≡ WriteFault) ⊎ (status ≡ NoMem)
