-- The head that is written for the pictures of a Theora stream (own).
use Rattle.thr_ident.specs.declared.ident.Ident.{Ident}
use Rattle.y4m_io.specs.declared.head.Head.{Head}

-- the picture's size, the rate of frames, the aspect of samples and the pixel format are those of the identification header
abbrev pub head_of_ident : Ident → Head
head_of_ident i = record { w = i.picw; h = i.pich; frn = i.frn; frd = i.frd; parn = i.parn; pard = i.pard; pf = i.pf }
