-- How a refusal stands to the checks that were made (private).
use Rattle.std.specs.Prelude.{◌≡◌, ⊤, ℕ, Result, Ok, Err}
use Rattle.vid_base.specs.declared.fault.PacketFault.{PacketFault}
use Rattle.vid_base.specs.Reading.{and_then}
use Rattle.src_index.specs.declared.fault.Fault.{Fault}
use Rattle.src_index.specs.declared.fault.Fault.TheVariants.{InPacket, InPage, InLink}
use Rattle.src_index.specs.declared.fault.SourceFault.{SourceFault}
use Rattle.src_index.specs.declared.fault.SourceFault.TheVariants.{Bad as BadPacket, Page, Link, ReadFault as ReadFailed, NoMem as NoMemory}
use Rattle.src_index.specs.Checks.{fault_at}
use Rattle.src_index.specs.declared.fault.Refusal.{Refusal}
use Rattle.src_index.specs.declared.fault.Refusal.TheVariants.{Bad, ReadFault, NoMem}

-- it names the check that fails, or is want of memory
abbrev pub RefusesAs : {A : Type 0} → Refusal → Result A Fault → Type 0
RefusesAs (Bad fault) checks = checks ≡ Err fault
RefusesAs ReadFault checks = ⊥
RefusesAs NoMem checks = ⊤

-- the same of the check of a packet with a number, whose fault shows on the page at a byte
abbrev pub RefusesPacket : {A : Type 0} → ℕ → ℕ → Refusal → Result A PacketFault → Type 0
RefusesPacket at number refusal check = RefusesAs refusal (and_then check Ok (fault_at at number))

-- what is told of a refusal
abbrev pub source_fault : Refusal → SourceFault
source_fault (Bad (InPacket link packet at fault)) = BadPacket link packet fault
source_fault (Bad (InPage at fault)) = Page at fault
source_fault (Bad (InLink at fault)) = Link at fault
source_fault ReadFault = ReadFailed
source_fault NoMem = NoMemory
