-- Numbers and names of the faults of links (own).
use Rattle.std.specs.Prelude.{ℕ, List, codes}
use Rattle.ogg_link.specs.declared.fault.LinkFault.{LinkFault}
use Rattle.ogg_link.specs.declared.fault.LinkFault.TheVariants.{MissingPage, BadContinued, BadGranule, NoTrack, HeadersNotAlone, UnfinishedPacket, DataAfterEnd, Chained}

-- the number of a fault, 34 to 41
abbrev pub number_of : LinkFault → ℕ
number_of MissingPage = 34
number_of BadContinued = 35
number_of BadGranule = 36
number_of NoTrack = 37
number_of HeadersNotAlone = 38
number_of UnfinishedPacket = 39
number_of DataAfterEnd = 40
number_of Chained = 41

-- the characters of a fault's name
abbrev pub name_of : LinkFault → List ℕ
name_of MissingPage = codes "MissingPage"
name_of BadContinued = codes "BadContinued"
name_of BadGranule = codes "BadGranule"
name_of NoTrack = codes "NoTrack"
name_of HeadersNotAlone = codes "HeadersNotAlone"
name_of UnfinishedPacket = codes "UnfinishedPacket"
name_of DataAfterEnd = codes "DataAfterEnd"
name_of Chained = codes "Chained"
