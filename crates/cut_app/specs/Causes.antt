-- When each status comes, over inputs that are told (own).
use Rattle.std.specs.Prelude.{◌≡◌, ⊤, ℕ, true, false, List, [], ◌∷◌, Option, Some, None, Ok, Err, ◌⊎◌, All}
use Rattle.vid_desk.specs.Meaning.{File}
use Rattle.src_index.specs.declared.fault.Fault.{Fault}
use Rattle.src_index.specs.declared.fault.Fault.TheVariants.{InPacket, InPage, InLink}
use Rattle.src_index.specs.Loading.{longest}
use Rattle.cut_list.specs.EditList.{list_of}
use Rattle.cut_list.specs.Slices.{Slices}
use Rattle.cut_plan.specs.declared.run.Run.{Run}
use Rattle.cut_desk.specs.Inputs.{longest_list, First, IsMissing, IsTooLong, IsWithin, Limited}
use Rattle.cut_desk.specs.Statuses.{IsOutside}
use Rattle.cut_slice.specs.Cause.{Caused}
use Rattle.cut_report.specs.declared.status.SourceWhat.{SourceWhat}
use Rattle.cut_report.specs.declared.status.SourceWhat.TheVariants.{Packet, Page, Link}
use Rattle.cut_report.specs.declared.status.Status.{Status}
use Rattle.cut_report.specs.declared.status.Status.TheVariants.{Done, Usage, NoFile, BadSource, BadList, Range, ReadFault, WriteFault, NoMem, BadY4m, TooLong, SameName, Changed, InPointNotKey, NotYet}
use Rattle.cut_app.specs.Forms.{Form}
use Rattle.cut_app.specs.Forms.Form.{Checking, Cutting, Exporting, Importing, Making, Planning}
use Rattle.cut_app.specs.Exports.{Export, is_same}
use Rattle.cut_app.specs.Found.{IsFound}
use Rattle.cut_app.specs.Imports.{Import, DepartsAt, IsWhole, is_over}
use Rattle.cut_app.specs.Makes.{MakeCaused}
use Rattle.cut_app.specs.Plans.{HasRuns, IsRead, Plan, plan_over}

-- the first check that fails, as a status names it
abbrev pub what_of : Fault → SourceWhat
what_of (InPacket link packet at fault) = Packet link packet fault
what_of (InPage at fault) = Page at fault
what_of (InLink at fault) = Link at fault

-- the one source of a command
abbrev pub one_source : ℕ
one_source = 1

-- an input that is a list, and how many bytes it may have
abbrev pub list_input : List ℕ → Limited
list_input name = record { name = name; most = longest_list }

-- an input that is a source, and how many bytes it may have
abbrev pub source_input : List ℕ → Limited
source_input name = record { name = name; most = longest }

-- judging finds no fault in that source
abbrev pub IsSound : List File → List ℕ → Type 0
IsSound files name = (packets : List (List ℕ)) × IsFound files name (Ok packets)

-- judging finds this fault in that source
abbrev pub HasFault : List File → SourceWhat → List ℕ → Type 0
HasFault files what name = (fault : Fault) × (what ≡ what_of fault) × IsFound files name (Err fault)

-- none of these sources is too long, and the first of them, counted from 1 in the order of the words, in which judging finds
-- a fault has this one
abbrev pub IsBad : List File → List (List ℕ) → ℕ → SourceWhat → Type 0
IsBad files sources source what = All (λ name. IsWithin files (source_input name)) sources × First (IsSound files) (HasFault files what) 1 sources source

-- the cause of each status of a check; want of memory has none, and a desk's counts show the faults of reading and writing
abbrev pub CheckCaused : List ℕ → List File → Status → Type 0
CheckCaused file files Done = IsSound files file
CheckCaused file files (NoFile input) = IsMissing files (file ∷ []) input
CheckCaused file files (BadSource source what) = IsBad files (file ∷ []) source what
CheckCaused file files (TooLong input size) = IsTooLong files (source_input file ∷ []) input size
CheckCaused file files ReadFault = ⊤
CheckCaused file files WriteFault = ⊤
CheckCaused file files NoMem = ⊤
CheckCaused file files Usage = ⊥
CheckCaused file files Changed = ⊥
CheckCaused file files SameName = ⊥
CheckCaused file files (BadList line why) = ⊥
CheckCaused file files (Range line) = ⊥
CheckCaused file files InPointNotKey = ⊥
CheckCaused file files (BadY4m frame why) = ⊥
CheckCaused file files NotYet = ⊥

-- the cause of each status of an export: the names are looked at before anything is looked for
abbrev pub ExportCaused : Export → List File → Status → Type 0
ExportCaused export files Done = (is_same export ≡ false) × IsSound files export.file
ExportCaused export files SameName = is_same export ≡ true
ExportCaused export files (NoFile input) = (is_same export ≡ false) × IsMissing files (export.file ∷ []) input
ExportCaused export files (TooLong input size) = (is_same export ≡ false) × IsTooLong files (source_input export.file ∷ []) input size
ExportCaused export files (BadSource source what) = (is_same export ≡ false) × IsBad files (export.file ∷ []) source what
ExportCaused export files ReadFault = ⊤
ExportCaused export files WriteFault = ⊤
ExportCaused export files NoMem = ⊤
ExportCaused export files Usage = ⊥
ExportCaused export files Changed = ⊥
ExportCaused export files (BadList line why) = ⊥
ExportCaused export files (Range line) = ⊥
ExportCaused export files InPointNotKey = ⊥
ExportCaused export files (BadY4m frame why) = ⊥
ExportCaused export files NotYet = ⊥

-- the cause of each status of an import: the names are looked at before anything is looked for
abbrev pub ImportCaused : Import → List File → Status → Type 0
ImportCaused import files Done = (is_over import ≡ false) × IsWhole files import.y4m
ImportCaused import files SameName = is_over import ≡ true
ImportCaused import files (NoFile input) = (is_over import ≡ false) × IsMissing files (import.y4m ∷ []) input
ImportCaused import files (BadY4m frame why) = (is_over import ≡ false) × DepartsAt files import.y4m frame why
ImportCaused import files ReadFault = ⊤
ImportCaused import files WriteFault = ⊤
ImportCaused import files NoMem = ⊤
ImportCaused import files Usage = ⊥
ImportCaused import files (BadSource source what) = ⊥
ImportCaused import files (BadList line why) = ⊥
ImportCaused import files (Range line) = ⊥
ImportCaused import files (TooLong input size) = ⊥
ImportCaused import files Changed = ⊥
ImportCaused import files InPointNotKey = ⊥
ImportCaused import files NotYet = ⊥

-- the cause of each status of a plan: the source is judged before the list is read
abbrev pub PlanCaused : Plan → List File → Status → Type 0
PlanCaused plan files Done = (runs : List Run) × HasRuns files plan runs
PlanCaused plan files (NoFile input) = IsMissing files (plan.list ∷ plan.source ∷ []) input
PlanCaused plan files (TooLong input size) = IsTooLong files (list_input plan.list ∷ source_input plan.source ∷ []) input size
PlanCaused plan files (BadSource source what) = IsWithin files (list_input plan.list) × IsBad files (plan.source ∷ []) source what
PlanCaused plan files (BadList line why) = (text : List ℕ) × (packets : List (List ℕ)) × IsRead files plan text packets × (list_of text ≡ Err (record { line = line; why = why }))
PlanCaused plan files (Range line) = (text : List ℕ) × (packets : List (List ℕ)) × (slices : Slices) × IsRead files plan text packets × (list_of text ≡ Ok slices) × (plan_over packets slices ≡ Err line)
PlanCaused plan files ReadFault = ⊤
PlanCaused plan files WriteFault = ⊤
PlanCaused plan files NoMem = ⊤
PlanCaused plan files Usage = ⊥
PlanCaused plan files SameName = ⊥
PlanCaused plan files Changed = ⊥
PlanCaused plan files InPointNotKey = ⊥
PlanCaused plan files (BadY4m frame why) = ⊥
PlanCaused plan files NotYet = ⊥

-- the cause of each status of a command
abbrev pub FormCaused : Form → List File → Status → Type 0
FormCaused (Checking file) files status = CheckCaused file files status
FormCaused (Exporting export) files status = ExportCaused export files status
FormCaused (Importing import) files status = ImportCaused import files status
FormCaused (Making make) files status = MakeCaused status
FormCaused (Planning plan) files status = PlanCaused plan files status
FormCaused (Cutting cut) files status = Caused cut files status

-- the same of words, which may have no form; then they are Usage, or no memory was found to say so
abbrev pub CausedBy : Option Form → List File → Status → Type 0
CausedBy None files status = (status ≡ Usage) ⊎ (status ≡ NoMem)
CausedBy (Some form) files status = FormCaused form files status

-- no other status has a cause, but for those that no input is the cause of
abbrev pub IsOnly : Option Form → List File → Status → Type 0
IsOnly form files status = (other : Status) → CausedBy form files other → IsOutside status ⊎ (IsOutside other ⊎ (status ≡ other))
