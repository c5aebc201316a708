-- Why an input gives no source, and what that is to a check and to a plan. The commands cite these.
use Rattle.std.proofs.Common.{◌≡◌, ℕ, ◌≤◌, List, [], ◌∷◌, length, All, Some, Err, refl, inl, inr}
use Rattle.std.proofs.lemmas.List.Elements.{All-cons, All-nil}
use Rattle.vid_desk.specs.Meaning.{File}
use Rattle.src_index.specs.declared.fault.Fault.TheVariants.{InPacket, InPage, InLink}
use Rattle.src_index.specs.declared.fault.SourceFault.{SourceFault}
use Rattle.src_index.specs.declared.fault.SourceFault.TheVariants.{Bad, Page, Link, TooLong as LongFile, ReadFault as ReadFailed, Changed as IsAnother, NoMem as NoMemory}
use Rattle.src_index.specs.Loading.{Answers, longest}
use Rattle.cut_desk.specs.Inputs.{contents, longest_list, IsThere, IsWithin}
use Rattle.cut_desk.proofs.InputLemmas.{there_of}
use Rattle.cut_report.specs.declared.status.Status.{Status}
use Rattle.cut_report.specs.declared.status.Status.TheVariants.{Done, Usage, NoFile, BadSource, BadList, Range, ReadFault, WriteFault, NoMem, BadY4m, TooLong, SameName, Changed, InPointNotKey, NotYet}
use Rattle.cut_report.specs.declared.status.SourceWhat.{SourceWhat}
use Rattle.cut_app.specs.Causes.{list_input, source_input, CheckCaused, IsBad, PlanCaused}
use Rattle.cut_app.specs.Index.{refusal_status}
use Rattle.cut_app.specs.Plans.{Plan}
use Rattle.cut_app.specs.Steps.{IsReading, RefusesSource}

-- the status of a fault says why there is no source
pub refused_source : (input : ℕ) (bytes : List ℕ) (fault : SourceFault) → ¬ (fault ≡ IsAnother) → Answers longest (Err fault) bytes → RefusesSource input bytes (refusal_status input fault)
refused_source input bytes (Bad link packet fault) never judged = (refl, (InPacket link packet judged.0 fault, refl, judged.1))
refused_source input bytes (Page at fault) never judged = (refl, (InPage at fault, refl, judged))
refused_source input bytes (Link at fault) never judged = (refl, (InLink at fault, refl, judged))
refused_source input bytes (LongFile size) never judged = (refl, judged.0, judged.1)
refused_source input bytes ReadFailed never judged = tt
refused_source input bytes IsAnother never judged = absurd (never refl)
refused_source input bytes NoMemory never judged = tt

-- it is one of those that come before a command has its text
pub refused_reading : (input : ℕ) (fault : SourceFault) → ¬ (fault ≡ IsAnother) → IsReading (refusal_status input fault)
refused_reading input (Bad link packet fault) never = tt
refused_reading input (Page at fault) never = tt
refused_reading input (Link at fault) never = tt
refused_reading input (LongFile size) never = tt
refused_reading input ReadFailed never = tt
refused_reading input IsAnother never = absurd (never refl)
refused_reading input NoMemory never = tt

-- the one source of these bytes is the first bad one
bad_source : (files : List File) (name bytes : List ℕ) (source : ℕ) (what : SourceWhat) → contents files name ≡ Some bytes → RefusesSource 1 bytes (BadSource source what) → IsBad files (name ∷ []) source what
bad_source files name bytes source what there refuses =
    (All-cons (λ n. IsWithin files (source_input n)) name [] (bytes, there, refuses.1.2.0) (All-nil (λ n. IsWithin files (source_input n))), inl (refuses.0, (refuses.1.0, refuses.1.1, record { bytes = bytes; there = there; judged = refuses.1.2 })))

-- a refusal of the one input is a cause of a check
pub check_refused : (files : List File) (file bytes : List ℕ) (status : Status) → contents files file ≡ Some bytes → RefusesSource 1 bytes status → CheckCaused file files status
check_refused files file bytes (BadSource source what) there refuses = bad_source files file bytes source what there refuses
check_refused files file bytes (TooLong input size) there refuses =
    (All-cons (λ limited. IsThere files limited.name) (source_input file) [] (there_of files file bytes there) (All-nil (λ limited. IsThere files limited.name)), inl (refuses.0, (bytes, there, refuses.1, refuses.2)))
check_refused files file bytes ReadFault there refuses = tt
check_refused files file bytes NoMem there refuses = tt
check_refused files file bytes (NoFile input) there refuses = absurd refuses
check_refused files file bytes (BadList line why) there refuses = absurd refuses
check_refused files file bytes (Range line) there refuses = absurd refuses
check_refused files file bytes Done there refuses = absurd refuses
check_refused files file bytes Usage there refuses = absurd refuses
check_refused files file bytes SameName there refuses = absurd refuses
check_refused files file bytes Changed there refuses = absurd refuses
check_refused files file bytes WriteFault there refuses = absurd refuses
check_refused files file bytes InPointNotKey there refuses = absurd refuses
check_refused files file bytes (BadY4m frame why) there refuses = absurd refuses
check_refused files file bytes NotYet there refuses = absurd refuses

-- both inputs of a plan are there
pub both_there : (files : List File) (plan : Plan) (text bytes : List ℕ) → contents files plan.list ≡ Some text → contents files plan.source ≡ Some bytes
    → All (λ limited. IsThere files limited.name) (list_input plan.list ∷ source_input plan.source ∷ [])
both_there files plan text bytes list source =
    All-cons (λ limited. IsThere files limited.name) (list_input plan.list) (source_input plan.source ∷ []) (there_of files plan.list text list)
    (All-cons (λ limited. IsThere files limited.name) (source_input plan.source) [] (there_of files plan.source bytes source) (All-nil (λ limited. IsThere files limited.name)))

-- a refusal of the second input is a cause of a plan
pub plan_refused : (files : List File) (plan : Plan) (text bytes : List ℕ) (status : Status) → contents files plan.list ≡ Some text → length text ≤ longest_list → contents files plan.source ≡ Some bytes → RefusesSource 2 bytes status → PlanCaused plan files status
plan_refused files plan text bytes (BadSource source what) list short there refuses = ((text, list, short), bad_source files plan.source bytes source what there refuses)
plan_refused files plan text bytes (TooLong input size) list short there refuses = (both_there files plan text bytes list there, inr ((text, list, short), inl (refuses.0, (bytes, there, refuses.1, refuses.2))))
plan_refused files plan text bytes ReadFault list short there refuses = tt
plan_refused files plan text bytes NoMem list short there refuses = tt
plan_refused files plan text bytes (NoFile input) list short there refuses = absurd refuses
plan_refused files plan text bytes (BadList line why) list short there refuses = absurd refuses
plan_refused files plan text bytes (Range line) list short there refuses = absurd refuses
plan_refused files plan text bytes Done list short there refuses = absurd refuses
plan_refused files plan text bytes Usage list short there refuses = absurd refuses
plan_refused files plan text bytes SameName list short there refuses = absurd refuses
plan_refused files plan text bytes Changed list short there refuses = absurd refuses
plan_refused files plan text bytes WriteFault list short there refuses = absurd refuses
plan_refused files plan text bytes InPointNotKey list short there refuses = absurd refuses
plan_refused files plan text bytes (BadY4m frame why) list short there refuses = absurd refuses
plan_refused files plan text bytes NotYet list short there refuses = absurd refuses
