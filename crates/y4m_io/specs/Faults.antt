-- The names of the whys of a departure (own).
use Rattle.std.specs.Prelude.{ℕ, List, codes}
use Rattle.y4m_io.specs.declared.fault.Y4mWhy.{Y4mWhy}
use Rattle.y4m_io.specs.declared.fault.Y4mWhy.TheVariants.{Magic, Field, Size, Rate, Aspect, Colour, Interlace, Line, Frame, Short, Empty, TooMany}

-- the characters of a why's name
abbrev pub name_of : Y4mWhy → List ℕ
name_of Magic = codes "Magic"
name_of Field = codes "Field"
name_of Size = codes "Size"
name_of Rate = codes "Rate"
name_of Aspect = codes "Aspect"
name_of Colour = codes "Colour"
name_of Interlace = codes "Interlace"
name_of Line = codes "Line"
name_of Frame = codes "Frame"
name_of Short = codes "Short"
name_of Empty = codes "Empty"
name_of TooMany = codes "TooMany"
