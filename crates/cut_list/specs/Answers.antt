-- How an answer stands to what a text says (own).
use Rattle.std.specs.Prelude.{◌≡◌, ℕ, ◌+◌, ⊤, List, length, Option, Some, Result, Err}
use Rattle.cut_list.specs.EditList.{BadLine, bad_from, list_or_bad, slices_from}
use Rattle.cut_list.specs.Slices.{Slice}
use Rattle.cut_list.specs.declared.fault.ListFault.{ListFault}
use Rattle.cut_list.specs.declared.fault.ListFault.TheVariants.{Bad, NoMem}

-- a fault is the bad line that was found, or want of memory
abbrev pub IsBad : ListFault → Result (List Slice) BadLine → Type 0
IsBad (Bad line why) said = said ≡ Err (record { line = line; why = why })
IsBad NoMem said = ⊤

-- the same of one line, or of some
abbrev pub IsBadLine : ListFault → Option BadLine → Type 0
IsBadLine (Bad line why) found = found ≡ Some (record { line = line; why = why })
IsBadLine NoMem found = ⊤

-- what the lines behind the head say
abbrev pub said_behind_head : List (List ℕ) → Result (List Slice) BadLine
said_behind_head lines = list_or_bad (length lines + 2) (bad_from 2 lines) (slices_from 2 lines)
