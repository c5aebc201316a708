-- Whether bytes are a page that was read before (own).
use Rattle.std.specs.Prelude.{ℕ, Bool, false, ◌&&◌, List, Result, Ok, Err, ◌==◌}
use Rattle.std.specs.Str.{bytes_eq}
use Rattle.ogg_page.specs.declared.fault.PageFault.{PageFault}
use Rattle.ogg_page.specs.Page.{Page, page_at_front, number_at}

-- a page that was read has this checksum field and these lacing values; a fault is of none
abbrev pub has_marks : Result Page PageFault → ℕ → ℕ → List ℕ → Bool
has_marks (Ok page) field checksum lacing = field == checksum && bytes_eq page.lacing lacing
has_marks (Err fault) field checksum lacing = false

-- the bytes begin with a page without a fault that has this checksum field and these lacing values
abbrev pub same_page : List ℕ → ℕ → List ℕ → Bool
same_page bytes checksum lacing = has_marks (page_at_front bytes) (number_at 4 22 bytes) checksum lacing
