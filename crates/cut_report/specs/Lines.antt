-- The lines that are printed, and the numbers with which the program ends (own).
use Rattle.std.specs.Prelude.{ℕ, ◌*◌, Bool, List, [], ◌++◌, codes, decimal, ◌==◌, if◌then◌else◌}
use Rattle.vid_base.specs.Faults.{name_of as packet_fault}
use Rattle.ogg_page.specs.Faults.{name_of as page_fault}
use Rattle.ogg_link.specs.Faults.{name_of as link_fault}
use Rattle.cut_list.specs.Faults.{name_of as why_name}
use Rattle.y4m_io.specs.Faults.{name_of as departure_name}
use Rattle.thr_ident.specs.declared.ident.Ident.{Ident}
use Rattle.cut_report.specs.Parts.{line_feed}
use Rattle.cut_report.specs.declared.status.SourceWhat.{SourceWhat}
use Rattle.cut_report.specs.declared.status.SourceWhat.TheVariants.{Packet, Page, Link}
use Rattle.cut_report.specs.declared.status.Status.{Status}
use Rattle.cut_report.specs.declared.status.Status.TheVariants.{Done, Usage, NoFile, BadSource, BadList, Range, ReadFault, WriteFault, NoMem, BadY4m, TooLong, SameName, Changed, InPointNotKey, NotYet}

-- the number with which the program ends
abbrev pub number_of : Status → ℕ
number_of Done = 0
number_of Usage = 2
number_of (NoFile input) = 3
number_of (BadSource source what) = 4
number_of (BadList line why) = 5
number_of (Range line) = 6
number_of ReadFault = 8
number_of WriteFault = 9
number_of NoMem = 10
number_of (BadY4m frame why) = 11
number_of (TooLong input bytes) = 14
number_of SameName = 15
number_of Changed = 16
number_of InPointNotKey = 18
number_of NotYet = 19

-- the line of a fault of that name at that byte of a source
unfoldable pub byte_text : ℕ → ℕ → List ℕ → List ℕ
byte_text source at name = codes "fault 4 source " ++ decimal source ++ codes " byte " ++ decimal at ++ codes " " ++ name ++ line_feed

-- the line of a source that has this fault at this place
unfoldable pub source_text : ℕ → SourceWhat → List ℕ
source_text source (Packet link packet fault) = codes "fault 4 source " ++ decimal source ++ codes " link " ++ decimal link ++ codes " packet " ++ decimal packet ++ codes " " ++ packet_fault fault ++ line_feed
source_text source (Page at fault) = byte_text source at (page_fault fault)
source_text source (Link at fault) = byte_text source at (link_fault fault)

-- the line of a status; none where all was done
unfoldable pub fault_text : Status → List ℕ
fault_text Done = []
fault_text Usage = codes "fault 2 usage" ++ line_feed
fault_text (NoFile input) = codes "fault 3 input " ++ decimal input ++ codes " missing" ++ line_feed
fault_text (BadSource source what) = source_text source what
fault_text (BadList line why) = codes "fault 5 line " ++ decimal line ++ codes " " ++ why_name why ++ line_feed
fault_text (Range line) = codes "fault 6 line " ++ decimal line ++ line_feed
fault_text ReadFault = codes "fault 8 read" ++ line_feed
fault_text WriteFault = codes "fault 9 write" ++ line_feed
fault_text NoMem = codes "fault 10 memory" ++ line_feed
fault_text (BadY4m frame why) = codes "fault 11 frame " ++ decimal frame ++ codes " " ++ departure_name why ++ line_feed
fault_text (TooLong input bytes) = codes "fault 14 input " ++ decimal input ++ codes " bytes " ++ decimal bytes ++ line_feed
fault_text SameName = codes "fault 15 name" ++ line_feed
fault_text Changed = codes "fault 16 changed" ++ line_feed
fault_text InPointNotKey = codes "fault 18 key" ++ line_feed
fault_text NotYet = codes "fault 19 form" ++ line_feed

-- the name of a pixel format (Theora I, 4.4)
abbrev pub pixels_of : ℕ → List ℕ
pixels_of pf = if pf == 0 then codes "420" else if pf == 2 then codes "422" else codes "444"

-- the line of a link with this header, so many frames and so many key frames
unfoldable pub link_text : ℕ → Ident → ℕ → ℕ → List ℕ
link_text link ident frames keys =
    codes "link " ++ decimal link
    ++ codes " picture " ++ decimal ident.picw ++ codes "x" ++ decimal ident.pich
    ++ codes " coded " ++ decimal (16 * ident.fmbw) ++ codes "x" ++ decimal (16 * ident.fmbh)
    ++ codes " pixels " ++ pixels_of ident.pf
    ++ codes " rate " ++ decimal ident.frn ++ codes ":" ++ decimal ident.frd
    ++ codes " frames " ++ decimal frames ++ codes " keys " ++ decimal keys ++ line_feed

-- the line of a file that is seekable, or not
unfoldable pub seekable_text : Bool → List ℕ
seekable_text seekable = (if seekable then codes "seekable yes" else codes "seekable no") ++ line_feed

-- the line of a run, which is copied or coded: frames `first` to `past` - 1 of a source
unfoldable pub run_text : Bool → ℕ → ℕ → ℕ → List ℕ
run_text copied src first past =
    (if copied then codes "copy " else codes "code ") ++ decimal src ++ codes " " ++ decimal first ++ codes " " ++ decimal past ++ line_feed

-- the line that says how many frames are copied and how many coded
unfoldable pub total_text : ℕ → ℕ → List ℕ
total_text copied coded = codes "copied " ++ decimal copied ++ codes " coded " ++ decimal coded ++ line_feed

-- the line of frame i of an output, which was coded from frame n of a source: the greatest and the summed difference of its
-- samples from those wanted
unfoldable pub frame_text : ℕ → ℕ → ℕ → ℕ → ℕ → List ℕ
frame_text i src n max sum =
    codes "coded " ++ decimal i ++ codes " source " ++ decimal src ++ codes " frame " ++ decimal n ++ codes " max " ++ decimal max ++ codes " sum " ++ decimal sum ++ line_feed

-- the lines that say how many frames were exported, imported or made, and how many bytes were made
unfoldable pub exported_text : ℕ → List ℕ
exported_text count = codes "exported " ++ decimal count ++ line_feed

unfoldable pub imported_text : ℕ → List ℕ
imported_text count = codes "imported " ++ decimal count ++ line_feed

unfoldable pub made_text : ℕ → ℕ → List ℕ
made_text count bytes = codes "made " ++ decimal count ++ codes " bytes " ++ decimal bytes ++ line_feed
