-- The index of a source, the text of a check by it, and the status of a file that gives none (private).
use Rattle.std.specs.Prelude.{◌≡◌, ◌≤◌, ℕ, Bool, List, ◌++◌, length, filter, Ok, Some}
use Rattle.thr_ident.specs.declared.ident.Ident.{Ident}
use Rattle.thr_ident.specs.Ident.{ident_of, header_of}
use Rattle.src_index.specs.Index.{Index, frame_count, keys_of}
use Rattle.src_index.specs.Loading.{IsIndexed, longest}
use Rattle.src_index.specs.declared.fault.Fault.TheVariants.{InPage, InLink}
use Rattle.src_index.specs.declared.fault.SourceFault.{SourceFault}
use Rattle.src_index.specs.declared.fault.SourceFault.TheVariants.{Bad, Page as PageFault, Link as LinkFault, TooLong as LongFile, ReadFault as ReadFailed, Changed as IsAnother, NoMem as NoMemory}
use Rattle.cut_report.specs.declared.status.SourceWhat.TheVariants.{Packet}
use Rattle.cut_report.specs.declared.status.Status.{Status}
use Rattle.cut_report.specs.declared.status.Status.TheVariants.{BadSource, ReadFault, NoMem, TooLong, Changed}
use Rattle.cut_app.specs.Causes.{one_source, what_of}
use Rattle.vid_desk.specs.Meaning.{File}
use Rattle.cut_desk.specs.Inputs.{contents}
use Rattle.cut_report.specs.Lines.{link_text, seekable_text}

-- how many marks of key frames there are
abbrev pub marked : List Bool → ℕ
marked keys = length (filter (λ key. key) keys)

-- the line of the link, and the line that says whether the file is seekable
pub record IsIndexText (index : Index) (text : List ℕ) : Type 0 where
  pub ident : Ident
  pub header : ident_of index.ident ≡ Ok (header_of ident)
  pub text_is : text ≡ link_text 1 ident (frame_count index) (marked (keys_of index)) ++ seekable_text index.seekable

-- the file of that name is there, it is not too long, and this is its index
pub record HasIndex (files : List File) (name : List ℕ) (index : Index) : Type 0 where
  pub bytes : List ℕ
  pub there : contents files name ≡ Some bytes
  pub short : length bytes ≤ longest
  pub indexed : IsIndexed bytes index

-- the status of an input, counted in the order of the words, that gives no source
abbrev pub refusal_status : ℕ → SourceFault → Status
refusal_status input (Bad link packet fault) = BadSource one_source (Packet link packet fault)
refusal_status input (PageFault at fault) = BadSource one_source (what_of (InPage at fault))
refusal_status input (LinkFault at fault) = BadSource one_source (what_of (InLink at fault))
refusal_status input (LongFile size) = TooLong input size
refusal_status input NoMemory = NoMem
refusal_status input ReadFailed = ReadFault
refusal_status input IsAnother = Changed
