-- What a status says of the outputs stays where its line is told. The top call cites these.
use Rattle.std.proofs.Common.{◌≡◌, List, Some, inl, inr, ap, ◌∙◌}
use Rattle.vid_desk.specs.Meaning.{File, Meaning}
use Rattle.cut_desk.specs.Outputs.{LeavesOutputs}
use Rattle.cut_desk.specs.Statuses.{LeavesOutputsAt}
use Rattle.cut_report.specs.declared.status.Status.{Status}
use Rattle.cut_report.specs.declared.status.Status.TheVariants.{Done, Usage, NoFile, BadSource, BadList, Range, ReadFault, WriteFault, NoMem, BadY4m, TooLong, SameName, Changed, InPointNotKey, NotYet}
use Rattle.cut_app.specs.Forms.{Form}
use Rattle.cut_app.specs.Forms.Form.{Checking, Cutting, Exporting, Importing, Making, Planning}
use Rattle.cut_app.specs.Exports.{LeavesUntil}
use Rattle.cut_app.specs.Imports.{LeavesWhileRead}
use Rattle.cut_app.specs.Commands.{CreatesWhenGiven, LeavesBy, Tells}

-- outputs that were left before a line was told are left
left_told : (old mid new : Meaning) → new ≡ record mid { said = new.said; write_faults = new.write_faults } → LeavesOutputs old mid → LeavesOutputs old new
left_told old mid new kept left =
    let outputs : new.outputs ≡ mid.outputs = ap {A = Meaning} (λ m. m.outputs) kept in
    let named : new.named ≡ mid.named = ap {A = Meaning} (λ m. m.named) kept in
    (outputs ∙ left.0, named ∙ left.1)

-- a line that is told asks nothing of the outputs
pub created_told : (old mid new : Meaning) (form : Form) (files : List File) → new ≡ record mid { said = new.said; write_faults = new.write_faults } → CreatesWhenGiven old mid (Some form) files → CreatesWhenGiven old new (Some form) files
created_told old mid new (Checking file) files kept left = left_told old mid new kept left
created_told old mid new (Exporting export) files kept created = elim created [
  | inl left ↦ inl (left_told old mid new kept left)
  | inr given ↦ inr given
]
created_told old mid new (Importing import) files kept created = elim created [
  | inl left ↦ inl (left_told old mid new kept left)
  | inr given ↦ inr given
]
created_told old mid new (Making make) files kept given = tt
created_told old mid new (Planning plan) files kept left = left_told old mid new kept left
created_told old mid new (Cutting cut) files kept created = elim created [
  | inl left ↦ inl (left_told old mid new kept left)
  | inr given ↦ inr given
]

-- what a status says of the outputs stays over the telling
left_at : (old mid new : Meaning) (status : Status) → new ≡ record mid { said = new.said; write_faults = new.write_faults } → LeavesOutputsAt status old mid → LeavesOutputsAt status old new
left_at old mid new Done kept left = tt
left_at old mid new WriteFault kept left = tt
left_at old mid new NoMem kept left = tt
left_at old mid new Usage kept left = left_told old mid new kept left
left_at old mid new Changed kept left = left_told old mid new kept left
left_at old mid new SameName kept left = left_told old mid new kept left
left_at old mid new (BadList line why) kept left = left_told old mid new kept left
left_at old mid new (Range line) kept left = left_told old mid new kept left
left_at old mid new (NoFile input) kept left = left_told old mid new kept left
left_at old mid new (BadSource source what) kept left = left_told old mid new kept left
left_at old mid new (TooLong input size) kept left = left_told old mid new kept left
left_at old mid new InPointNotKey kept left = left_told old mid new kept left
left_at old mid new (BadY4m frame why) kept left = left_told old mid new kept left
left_at old mid new NotYet kept left = left_told old mid new kept left
left_at old mid new ReadFault kept left = left_told old mid new kept left

left_until : (old mid new : Meaning) (status : Status) → new ≡ record mid { said = new.said; write_faults = new.write_faults } → LeavesUntil status old mid → LeavesUntil status old new
left_until old mid new Done kept left = tt
left_until old mid new WriteFault kept left = tt
left_until old mid new NoMem kept left = tt
left_until old mid new ReadFault kept left = tt
left_until old mid new Changed kept left = tt
left_until old mid new Usage kept left = left_told old mid new kept left
left_until old mid new SameName kept left = left_told old mid new kept left
left_until old mid new (BadList line why) kept left = left_told old mid new kept left
left_until old mid new (Range line) kept left = left_told old mid new kept left
left_until old mid new (NoFile input) kept left = left_told old mid new kept left
left_until old mid new (BadSource source what) kept left = left_told old mid new kept left
left_until old mid new (TooLong input size) kept left = left_told old mid new kept left
left_until old mid new InPointNotKey kept left = left_told old mid new kept left
left_until old mid new (BadY4m frame why) kept left = left_told old mid new kept left
left_until old mid new NotYet kept left = left_told old mid new kept left

left_while : (old mid new : Meaning) (status : Status) → new ≡ record mid { said = new.said; write_faults = new.write_faults } → LeavesWhileRead status old mid → LeavesWhileRead status old new
left_while old mid new Done kept left = tt
left_while old mid new WriteFault kept left = tt
left_while old mid new NoMem kept left = tt
left_while old mid new ReadFault kept left = tt
left_while old mid new Changed kept left = left_told old mid new kept left
left_while old mid new Usage kept left = left_told old mid new kept left
left_while old mid new SameName kept left = left_told old mid new kept left
left_while old mid new (BadList line why) kept left = left_told old mid new kept left
left_while old mid new (Range line) kept left = left_told old mid new kept left
left_while old mid new (NoFile input) kept left = left_told old mid new kept left
left_while old mid new (BadSource source what) kept left = left_told old mid new kept left
left_while old mid new (TooLong input size) kept left = left_told old mid new kept left
left_while old mid new InPointNotKey kept left = left_told old mid new kept left
left_while old mid new (BadY4m frame why) kept left = tt
left_while old mid new NotYet kept left = left_told old mid new kept left

left_by : (old mid new : Meaning) (form : Form) (status : Status) → new ≡ record mid { said = new.said; write_faults = new.write_faults } → LeavesBy (Some form) status old mid → LeavesBy (Some form) status old new
left_by old mid new (Checking file) status kept left = left_at old mid new status kept left
left_by old mid new (Exporting export) status kept left = left_until old mid new status kept left
left_by old mid new (Importing import) status kept left = left_while old mid new status kept left
left_by old mid new (Making make) status kept left = left_at old mid new status kept left
left_by old mid new (Planning plan) status kept left = left_at old mid new status kept left
left_by old mid new (Cutting cut) status kept left = left_at old mid new status kept left

-- want of memory says nothing of the outputs
no_memory : (old new : Meaning) (form : Form) → LeavesBy (Some form) NoMem old new
no_memory old new (Checking file) = tt
no_memory old new (Exporting export) = tt
no_memory old new (Importing import) = tt
no_memory old new (Making make) = tt
no_memory old new (Planning plan) = tt
no_memory old new (Cutting cut) = tt

pub before_told : (old mid new : Meaning) (form : Form) (status told : Status) → new ≡ record mid { said = new.said; write_faults = new.write_faults } → Tells mid new status told → LeavesBy (Some form) status old mid → LeavesBy (Some form) told old new
before_told old mid new form status told kept tells left = elim tells [
  | inl same ↦ rw same.0 (left_by old mid new form status kept left)
  | inr none ↦ rw none.0 (no_memory old new form)
]

pub before_done : (old new : Meaning) (form : Form) → LeavesBy (Some form) Done old new
before_done old new (Checking file) = tt
before_done old new (Exporting export) = tt
before_done old new (Importing import) = tt
before_done old new (Making make) = tt
before_done old new (Planning plan) = tt
before_done old new (Cutting cut) = tt
