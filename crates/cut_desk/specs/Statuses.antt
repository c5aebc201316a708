-- What a status says of the desk that a command had (own).
use Rattle.std.specs.Prelude.{⊤, Result, Ok, Err}
use Rattle.vid_desk.specs.Meaning.{Meaning}
use Rattle.vid_desk.specs.declared.fault.DeskFault.{DeskFault}
use Rattle.vid_desk.specs.declared.fault.DeskFault.TheVariants.{Failed, NoMem as NoRoom}
use Rattle.cut_report.specs.declared.status.Status.{Status}
use Rattle.cut_report.specs.declared.status.Status.TheVariants.{Done, Usage, NoFile, BadSource, BadList, Range, ReadFault, WriteFault, NoMem, BadY4m, TooLong, SameName, Changed, InPointNotKey, NotYet}
use Rattle.cut_desk.specs.Outputs.{LeavesOutputs}

-- the status of a fault of a call that reads
abbrev pub reading_status : DeskFault → Status
reading_status Failed = ReadFault
reading_status NoRoom = NoMem

-- the status of a fault of a call that writes
abbrev pub writing_status : DeskFault → Status
writing_status Failed = WriteFault
writing_status NoRoom = NoMem

-- the status of a command that was done or refused
abbrev pub status_in : Result ⊤ Status → Status
status_in (Ok _) = Done
status_in (Err status) = status

-- statuses that no input is the cause of: the desk failed, or no memory was found
abbrev pub IsOutside : Status → Type 0
IsOutside ReadFault = ⊤
IsOutside WriteFault = ⊤
IsOutside NoMem = ⊤
IsOutside Done = ⊥
IsOutside Usage = ⊥
IsOutside Changed = ⊥
IsOutside SameName = ⊥
IsOutside (BadList line why) = ⊥
IsOutside (Range line) = ⊥
IsOutside (NoFile input) = ⊥
IsOutside (BadSource source what) = ⊥
IsOutside (TooLong input bytes) = ⊥
IsOutside InPointNotKey = ⊥
IsOutside (BadY4m frame why) = ⊥
IsOutside NotYet = ⊥

-- what a status says of the outputs: those that come before the step that creates one leave them. Inputs are read before
-- it, so a fault of reading is one of these; writing begins with it; and memory may be wanted before it and after it
abbrev pub LeavesOutputsAt : Status → Meaning → Meaning → Type 0
LeavesOutputsAt Usage old new = LeavesOutputs old new
LeavesOutputsAt Changed old new = LeavesOutputs old new
LeavesOutputsAt SameName old new = LeavesOutputs old new
LeavesOutputsAt (BadList line why) old new = LeavesOutputs old new
LeavesOutputsAt (Range line) old new = LeavesOutputs old new
LeavesOutputsAt (NoFile input) old new = LeavesOutputs old new
LeavesOutputsAt (BadSource source what) old new = LeavesOutputs old new
LeavesOutputsAt (TooLong input bytes) old new = LeavesOutputs old new
LeavesOutputsAt InPointNotKey old new = LeavesOutputs old new
LeavesOutputsAt (BadY4m frame why) old new = LeavesOutputs old new
LeavesOutputsAt NotYet old new = LeavesOutputs old new
LeavesOutputsAt ReadFault old new = LeavesOutputs old new
LeavesOutputsAt Done old new = ⊤
LeavesOutputsAt WriteFault old new = ⊤
LeavesOutputsAt NoMem old new = ⊤
