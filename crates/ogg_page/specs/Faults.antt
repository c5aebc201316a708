-- Numbers and names of the faults of pages (own).
use Rattle.std.specs.Prelude.{ℕ, List, codes}
use Rattle.ogg_page.specs.declared.fault.PageFault.{PageFault}
use Rattle.ogg_page.specs.declared.fault.PageFault.TheVariants.{NotAPage, PageVersion, Checksum, Truncated}

-- the number of a fault, 30 to 33
abbrev pub number_of : PageFault → ℕ
number_of NotAPage = 30
number_of PageVersion = 31
number_of Checksum = 32
number_of Truncated = 33

-- the characters of a fault's name
abbrev pub name_of : PageFault → List ℕ
name_of NotAPage = codes "NotAPage"
name_of PageVersion = codes "PageVersion"
name_of Checksum = codes "Checksum"
name_of Truncated = codes "Truncated"
