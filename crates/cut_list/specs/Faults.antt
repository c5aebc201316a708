-- The names of the whys of a bad line (own).
use Rattle.std.specs.Prelude.{ℕ, List, codes}
use Rattle.cut_list.specs.declared.fault.Why.{Why}
use Rattle.cut_list.specs.declared.fault.Why.TheVariants.{Head, Word, Number, EmptySlice, TooMany, NoItem}

-- the characters of a why's name
abbrev pub name_of : Why → List ℕ
name_of Head = codes "Head"
name_of Word = codes "Word"
name_of Number = codes "Number"
name_of EmptySlice = codes "EmptySlice"
name_of TooMany = codes "TooMany"
name_of NoItem = codes "NoItem"
