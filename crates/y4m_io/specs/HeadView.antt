-- What the program has of a head that was read (private).
use Rattle.y4m_io.specs.declared.head_line.HeadRead.{HeadRead as Read}
use Rattle.y4m_io.specs.HeadLine.{HeadRead}

abbrev pub head_read : Read → HeadRead
head_read r = record { head = r.head; size = r.size }
