-- Why a packet was not read again (own).
use Rattle.std.specs.Prelude.{⊤}
use Rattle.src_index.specs.declared.fault.SourceFault.{SourceFault}
use Rattle.src_index.specs.declared.fault.SourceFault.TheVariants.{Bad, Page, Link, TooLong, ReadFault, Changed, NoMem}

-- a read failed, the file is another, or no memory was found
abbrev pub IsReading : SourceFault → Type 0
IsReading ReadFault = ⊤
IsReading Changed = ⊤
IsReading NoMem = ⊤
IsReading (Bad link packet fault) = ⊥
IsReading (Page at fault) = ⊥
IsReading (Link at fault) = ⊥
IsReading (TooLong bytes) = ⊥

-- the file is another, or no memory was found
abbrev pub IsGathering : SourceFault → Type 0
IsGathering Changed = ⊤
IsGathering NoMem = ⊤
IsGathering ReadFault = ⊥
IsGathering (Bad link packet fault) = ⊥
IsGathering (Page at fault) = ⊥
IsGathering (Link at fault) = ⊥
IsGathering (TooLong bytes) = ⊥
