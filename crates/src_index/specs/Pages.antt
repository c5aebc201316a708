-- The kept pages as marks (private).
use Rattle.std.specs.Prelude.{ℕ, List, [], take, drop, map}
use Rattle.src_index.specs.declared.pages.Mark.{Mark}
use Rattle.src_index.specs.declared.pages.Pages.{Pages}
use Rattle.src_index.specs.declared.pages.Kept.{Kept}
use Rattle.src_index.specs.Index.{PageMark}

-- a page, by the lacing values of all pages
abbrev pub mark_of : List ℕ → Mark → PageMark
mark_of lacing mark = record { at = mark.at; checksum = mark.checksum; lacing = take mark.count (drop mark.first lacing) }

-- the pages
abbrev pub marks_of : Pages → List PageMark
marks_of pages = map (mark_of pages.lacing.items) pages.marks.items

abbrev pub kept_mark : Kept → PageMark
kept_mark kept = record { at = kept.at; checksum = kept.checksum; lacing = kept.lacing.now }

abbrev pub no_mark : PageMark
no_mark = record { at = 0; checksum = 0; lacing = [] }
