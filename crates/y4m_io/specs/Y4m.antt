-- YUV4MPEG2 as it is written (own): a head, and for each picture a line and its planes.
use Rattle.std.specs.Prelude.{ℕ, List, ◌++◌, codes, decimal, ◌==◌, if◌then◌else◌}
use Rattle.std.specs.List.{flat_map}
use Rattle.y4m_io.specs.declared.head.Head.{Head}
use Rattle.y4m_io.specs.Pictures.{Samples}
use Rattle.y4m_io.specs.Parts.{line_feed}

-- the name of a pixel format
abbrev pub colour_of : ℕ → List ℕ
colour_of pf = if pf == 0 then codes "420jpeg" else if pf == 2 then codes "422" else codes "444"

-- the line of a head: size, rate, progressive, aspect, format
unfoldable pub head_text : Head → List ℕ
head_text h =
    codes "YUV4MPEG2 W" ++ decimal h.w ++ codes " H" ++ decimal h.h
    ++ codes " F" ++ decimal h.frn ++ codes ":" ++ decimal h.frd
    ++ codes " Ip A" ++ decimal h.parn ++ codes ":" ++ decimal h.pard
    ++ codes " C" ++ colour_of h.pf ++ line_feed

-- the line before each picture
abbrev pub frame_line : List ℕ
frame_line = codes "FRAME" ++ line_feed

-- a picture: that line, and the planes Y, Cb and Cr
unfoldable pub frame_text : Samples → List ℕ
frame_text p = frame_line ++ p.y ++ p.cb ++ p.cr

-- a head and pictures
unfoldable pub y4m_of : Head → List Samples → List ℕ
y4m_of head pictures = head_text head ++ flat_map frame_text pictures
