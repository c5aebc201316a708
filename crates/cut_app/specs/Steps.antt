-- The steps of the commands that read inputs: why each is refused (private).
use Rattle.std.specs.Prelude.{◌≡◌, ⊤, ℕ, ◌<◌, List, [], ◌∷◌, length, Err}
use Rattle.vid_desk.specs.Meaning.{File}
use Rattle.src_index.specs.declared.fault.Fault.{Fault}
use Rattle.src_index.specs.Loading.{IsJudged, longest}
use Rattle.cut_list.specs.EditList.{list_of}
use Rattle.cut_list.specs.Slices.{Slices}
use Rattle.cut_plan.specs.Runs.{plan_of}
use Rattle.src_index.specs.Index.{Index, frame_count, keys_of}
use Rattle.cut_desk.specs.Inputs.{IsMissing, IsTooLong}
use Rattle.cut_report.specs.declared.status.Status.{Status}
use Rattle.cut_report.specs.declared.status.Status.TheVariants.{Done, Usage, NoFile, BadSource, BadList, Range, ReadFault, WriteFault, NoMem, BadY4m, TooLong, SameName, Changed, InPointNotKey, NotYet}
use Rattle.cut_app.specs.Causes.{list_input, source_input, what_of, one_source}
use Rattle.cut_app.specs.Imports.{DepartsAt}
use Rattle.cut_app.specs.Plans.{Plan}

-- statuses that come before a command has its text
abbrev pub IsReading : Status → Type 0
IsReading (NoFile input) = ⊤
IsReading (BadSource source what) = ⊤
IsReading (BadList line why) = ⊤
IsReading (Range line) = ⊤
IsReading (TooLong input size) = ⊤
IsReading ReadFault = ⊤
IsReading NoMem = ⊤
IsReading Done = ⊥
IsReading Usage = ⊥
IsReading SameName = ⊥
IsReading Changed = ⊥
IsReading WriteFault = ⊥
IsReading InPointNotKey = ⊥
IsReading (BadY4m frame why) = ⊥
IsReading NotYet = ⊥

-- why the inputs of a plan are not taken
abbrev pub RefusesInputs : List File → Plan → Status → Type 0
RefusesInputs files plan (NoFile input) = IsMissing files (plan.list ∷ plan.source ∷ []) input
RefusesInputs files plan (TooLong input size) = IsTooLong files (list_input plan.list ∷ source_input plan.source ∷ []) input size
RefusesInputs files plan ReadFault = ⊤
RefusesInputs files plan NoMem = ⊤
RefusesInputs files plan (BadSource source what) = ⊥
RefusesInputs files plan (BadList line why) = ⊥
RefusesInputs files plan (Range line) = ⊥
RefusesInputs files plan Done = ⊥
RefusesInputs files plan Usage = ⊥
RefusesInputs files plan SameName = ⊥
RefusesInputs files plan Changed = ⊥
RefusesInputs files plan WriteFault = ⊥
RefusesInputs files plan InPointNotKey = ⊥
RefusesInputs files plan (BadY4m frame why) = ⊥
RefusesInputs files plan NotYet = ⊥

-- why these bytes of an input, counted in the order of the words, give no source
abbrev pub RefusesSource : ℕ → List ℕ → Status → Type 0
RefusesSource number bytes (BadSource source what) = (source ≡ one_source) × ((fault : Fault) × (what ≡ what_of fault) × IsJudged longest bytes (Err fault))
RefusesSource number bytes (TooLong input size) = (input ≡ number) × (size ≡ length bytes) × (longest < length bytes)
RefusesSource number bytes ReadFault = ⊤
RefusesSource number bytes NoMem = ⊤
RefusesSource number bytes (NoFile input) = ⊥
RefusesSource number bytes (BadList line why) = ⊥
RefusesSource number bytes (Range line) = ⊥
RefusesSource number bytes Done = ⊥
RefusesSource number bytes Usage = ⊥
RefusesSource number bytes SameName = ⊥
RefusesSource number bytes Changed = ⊥
RefusesSource number bytes WriteFault = ⊥
RefusesSource number bytes InPointNotKey = ⊥
RefusesSource number bytes (BadY4m frame why) = ⊥
RefusesSource number bytes NotYet = ⊥

-- why a text gives no list
abbrev pub RefusesList : List ℕ → Status → Type 0
RefusesList text (BadList line why) = list_of text ≡ Err (record { line = line; why = why })
RefusesList text ReadFault = ⊤
RefusesList text NoMem = ⊤
RefusesList text (NoFile input) = ⊥
RefusesList text (BadSource source what) = ⊥
RefusesList text (Range line) = ⊥
RefusesList text (TooLong input size) = ⊥
RefusesList text Done = ⊥
RefusesList text Usage = ⊥
RefusesList text SameName = ⊥
RefusesList text Changed = ⊥
RefusesList text WriteFault = ⊥
RefusesList text InPointNotKey = ⊥
RefusesList text (BadY4m frame why) = ⊥
RefusesList text NotYet = ⊥

-- why slices have no runs over the source of this index
abbrev pub RefusesRange : Index → Slices → Status → Type 0
RefusesRange index slices (Range line) = plan_of (frame_count index ∷ []) (keys_of index ∷ []) slices ≡ Err line
RefusesRange index slices NoMem = ⊤
RefusesRange index slices ReadFault = ⊥
RefusesRange index slices (NoFile input) = ⊥
RefusesRange index slices (BadSource source what) = ⊥
RefusesRange index slices (BadList line why) = ⊥
RefusesRange index slices (TooLong input size) = ⊥
RefusesRange index slices Done = ⊥
RefusesRange index slices Usage = ⊥
RefusesRange index slices SameName = ⊥
RefusesRange index slices Changed = ⊥
RefusesRange index slices WriteFault = ⊥
RefusesRange index slices InPointNotKey = ⊥
RefusesRange index slices (BadY4m frame why) = ⊥
RefusesRange index slices NotYet = ⊥

-- why an input that is looked for, read and coded is refused; want of memory has no cause in it, and a desk's counts show the
-- faults of reading and writing
abbrev pub RefusesFilm : List File → List ℕ → Status → Type 0
RefusesFilm files name (NoFile input) = IsMissing files (name ∷ []) input
RefusesFilm files name (BadY4m frame why) = DepartsAt files name frame why
RefusesFilm files name ReadFault = ⊤
RefusesFilm files name WriteFault = ⊤
RefusesFilm files name NoMem = ⊤
RefusesFilm files name Done = ⊥
RefusesFilm files name Usage = ⊥
RefusesFilm files name (BadSource source what) = ⊥
RefusesFilm files name (BadList line why) = ⊥
RefusesFilm files name (Range line) = ⊥
RefusesFilm files name (TooLong input size) = ⊥
RefusesFilm files name SameName = ⊥
RefusesFilm files name Changed = ⊥
RefusesFilm files name InPointNotKey = ⊥
RefusesFilm files name NotYet = ⊥

-- statuses that come while an input is looked for, read and coded
abbrev pub IsFilming : Status → Type 0
IsFilming (NoFile input) = ⊤
IsFilming (BadY4m frame why) = ⊤
IsFilming ReadFault = ⊤
IsFilming WriteFault = ⊤
IsFilming NoMem = ⊤
IsFilming Done = ⊥
IsFilming Usage = ⊥
IsFilming (BadSource source what) = ⊥
IsFilming (BadList line why) = ⊥
IsFilming (Range line) = ⊥
IsFilming (TooLong input size) = ⊥
IsFilming SameName = ⊥
IsFilming Changed = ⊥
IsFilming InPointNotKey = ⊥
IsFilming NotYet = ⊥
