-- Statuses that come while a source is exported (own).
use Rattle.std.specs.Prelude.{⊤}
use Rattle.src_index.specs.declared.fault.SourceFault.{SourceFault}
use Rattle.src_index.specs.declared.fault.SourceFault.TheVariants.{Bad, Page, Link, TooLong as LongFile, ReadFault as ReadFailed, Changed as IsAnother, NoMem as NoMemory}
use Rattle.cut_report.specs.declared.status.Status.{Status}
use Rattle.cut_report.specs.declared.status.Status.TheVariants.{Done, Usage, NoFile, BadSource, BadList, Range, ReadFault, WriteFault, NoMem, BadY4m, TooLong, SameName, Changed, InPointNotKey, NotYet}

-- the status of a packet that was not read again: the faults of judging come no more
abbrev pub reread_status : SourceFault → Status
reread_status ReadFailed = ReadFault
reread_status NoMemory = NoMem
reread_status IsAnother = Changed
reread_status (Bad link packet fault) = Changed
reread_status (Page at fault) = Changed
reread_status (Link at fault) = Changed
reread_status (LongFile bytes) = Changed

-- while a packet is read again and decoded
abbrev pub IsRereading : Status → Type 0
IsRereading ReadFault = ⊤
IsRereading NoMem = ⊤
IsRereading Changed = ⊤
IsRereading WriteFault = ⊥
IsRereading Done = ⊥
IsRereading Usage = ⊥
IsRereading SameName = ⊥
IsRereading (NoFile input) = ⊥
IsRereading (BadSource source what) = ⊥
IsRereading (BadList line why) = ⊥
IsRereading (Range line) = ⊥
IsRereading (TooLong input bytes) = ⊥
IsRereading InPointNotKey = ⊥
IsRereading (BadY4m frame why) = ⊥
IsRereading NotYet = ⊥

-- while bytes are written
abbrev pub IsWriting : Status → Type 0
IsWriting WriteFault = ⊤
IsWriting NoMem = ⊤
IsWriting ReadFault = ⊥
IsWriting Changed = ⊥
IsWriting Done = ⊥
IsWriting Usage = ⊥
IsWriting SameName = ⊥
IsWriting (NoFile input) = ⊥
IsWriting (BadSource source what) = ⊥
IsWriting (BadList line why) = ⊥
IsWriting (Range line) = ⊥
IsWriting (TooLong input bytes) = ⊥
IsWriting InPointNotKey = ⊥
IsWriting (BadY4m frame why) = ⊥
IsWriting NotYet = ⊥

-- while frames are read, decoded and written in turn
abbrev pub IsExporting : Status → Type 0
IsExporting ReadFault = ⊤
IsExporting WriteFault = ⊤
IsExporting NoMem = ⊤
IsExporting Changed = ⊤
IsExporting Done = ⊥
IsExporting Usage = ⊥
IsExporting SameName = ⊥
IsExporting (NoFile input) = ⊥
IsExporting (BadSource source what) = ⊥
IsExporting (BadList line why) = ⊥
IsExporting (Range line) = ⊥
IsExporting (TooLong input bytes) = ⊥
IsExporting InPointNotKey = ⊥
IsExporting (BadY4m frame why) = ⊥
IsExporting NotYet = ⊥
