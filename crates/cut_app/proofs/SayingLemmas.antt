-- Text said in parts. The commands cite these.
use Rattle.std.proofs.Common.{◌≡◌, ℕ, ◌≤◌, List, [], ◌++◌, Option, Some, None, Err, inl, inr, refl, ap, sym, ◌∙◌, append_assoc, arith}
use Rattle.std.proofs.lemmas.List.{append-nil}
use Rattle.std.specs.Option.{option_map}
use Rattle.vid_desk.specs.Meaning.{Meaning, ToldFiles, Says}
use Rattle.vid_desk.specs.declared.fault.DeskFault.{DeskFault}
use Rattle.vid_desk.specs.declared.fault.DeskFault.TheVariants.{Failed, NoMem as NoRoom}
use Rattle.cut_desk.specs.Statuses.{writing_status}
use Rattle.cut_report.specs.Lines.{fault_text}
use Rattle.cut_report.specs.declared.status.Status.{Status}
use Rattle.cut_report.specs.declared.status.Status.TheVariants.{Done, Usage, NoFile, BadSource, BadList, Range, ReadFault, WriteFault, NoMem, BadY4m, TooLong, SameName, Changed, InPointNotKey, NotYet}
use Rattle.cut_app.specs.Forms.{Form}
use Rattle.cut_app.specs.Texts.{BreaksOff, HasSaid, IsFirstPart, IsTextOf, SaysLine, SaysOn, StopsAt}
use Rattle.cut_app.specs.Commands.{Tells}

-- text behind text
abbrev with_text : Option (List ℕ) → List ℕ → Option (List ℕ)
with_text told came = option_map (λ text. text ++ came) told

twice : (told : Option (List ℕ)) (first came : List ℕ) → with_text (with_text told first) came ≡ with_text told (first ++ came)
twice None first came = refl
twice (Some text) first came = ap (λ t. Some t) (append_assoc text first came)

none : (told : Option (List ℕ)) → with_text told [] ≡ told
none None = refl
none (Some text) = ap (λ t. Some t) (append-nil text)

-- what was said first, and then
pub said_twice : (old mid new : Meaning) (first came : List ℕ) → HasSaid old mid first → HasSaid mid new came → HasSaid old new (first ++ came)
said_twice old mid new first came one two = two ∙ ap (λ told. with_text told came) one ∙ twice old.said first came

-- nothing was said
pub said_nothing : (old new : Meaning) → new.said ≡ old.said → HasSaid old new []
said_nothing old new same = same ∙ sym (none old.said)

-- what was said since nothing was
pub said_since : (old mid new : Meaning) (came : List ℕ) → mid.said ≡ old.said → HasSaid mid new came → HasSaid old new came
said_since old mid new came same said = said ∙ ap (λ told. with_text told came) same

-- a text that was not said to its end
pub stops_saying : (old mid new : Meaning) (form : Form) (text : List ℕ) (fault : DeskFault) → mid.said ≡ old.said → Says mid new text (Err fault) → ToldFiles old (λ files. IsTextOf form files old.outputs new.outputs text) → StopsAt form old new (writing_status fault)
stops_saying old mid new form text Failed same said is = (
  said.0,
  said_since old mid new said.0 same (ap {A = Meaning} (λ m. m.said) said.3),
  inr (λ files told. (said.1, rw (← said.2) (is files told))),
)
stops_saying old mid new form text NoRoom same said is = ap {A = Meaning} (λ m. m.said) said ∙ same

-- what was said of its text by a command that was refused
said_first : (old new : Meaning) (form : Form) (status : Status) → StopsAt form old new status → (first : List ℕ) × HasSaid old new first × IsFirstPart old new.outputs form first
said_first old new form WriteFault stops = stops
said_first old new form Done stops = ([], said_nothing old new stops, inl refl)
said_first old new form Usage stops = ([], said_nothing old new stops, inl refl)
said_first old new form Changed stops = ([], said_nothing old new stops, inl refl)
said_first old new form SameName stops = ([], said_nothing old new stops, inl refl)
said_first old new form (BadList line why) stops = ([], said_nothing old new stops, inl refl)
said_first old new form (Range line) stops = ([], said_nothing old new stops, inl refl)
said_first old new form (NoFile input) stops = ([], said_nothing old new stops, inl refl)
said_first old new form (BadSource source what) stops = ([], said_nothing old new stops, inl refl)
said_first old new form ReadFault stops = ([], said_nothing old new stops, inl refl)
said_first old new form NoMem stops = ([], said_nothing old new stops, inl refl)
said_first old new form (TooLong input size) stops = ([], said_nothing old new stops, inl refl)
said_first old new form InPointNotKey stops = ([], said_nothing old new stops, inl refl)
said_first old new form (BadY4m frame why) stops = ([], said_nothing old new stops, inl refl)
said_first old new form NotYet stops = ([], said_nothing old new stops, inl refl)

-- a command that broke off and then said a line, or a first part of it
breaks : (old mid new : Meaning) (form : Form) (status : Status) (line : List ℕ) → StopsAt form old mid status → new.outputs ≡ mid.outputs → SaysLine mid new line → BreaksOff old new form line
breaks old mid new form status line stops outputs says =
    let first = said_first old mid form status stops in
    elim says [
      | inl whole ↦ record { first = first.0; came = line; rest = []; line_is = sym (append-nil line); said = said_twice old mid new first.0 line first.1 whole; part = rw outputs first.2 }
      | inr part ↦ record { first = first.0; came = part.0; rest = part.1; line_is = part.2; said = said_twice old mid new first.0 part.0 first.1 part.3; part = rw outputs first.2 }
    ]

-- a line that is said since nothing was
line_since : (old mid new : Meaning) (line : List ℕ) → mid.said ≡ old.said → old.write_faults ≤ mid.write_faults → SaysLine mid new line → SaysLine old new line
line_since old mid new line same later says = elim says [
  | inl whole ↦ inl (said_since old mid new line same whole)
  | inr part ↦ inr (part.0, part.1, part.2, said_since old mid new part.0 same part.3, omega (arith, part.4))
]

says_status : (old mid new : Meaning) (form : Form) (status : Status) → StopsAt form old mid status → (status ≡ Done → ⊥) → old.write_faults ≤ mid.write_faults → new.outputs ≡ mid.outputs → SaysLine mid new (fault_text status) → SaysOn form old new status
says_status old mid new form WriteFault stops not_done later outputs says = breaks old mid new form WriteFault (fault_text WriteFault) stops outputs says
says_status old mid new form NoMem stops not_done later outputs says = breaks old mid new form NoMem (fault_text NoMem) stops outputs says
says_status old mid new form Done stops not_done later outputs says = absurd (not_done refl)
says_status old mid new form Usage stops not_done later outputs says = line_since old mid new (fault_text Usage) stops later says
says_status old mid new form Changed stops not_done later outputs says = line_since old mid new (fault_text Changed) stops later says
says_status old mid new form SameName stops not_done later outputs says = line_since old mid new (fault_text SameName) stops later says
says_status old mid new form (BadList line why) stops not_done later outputs says = line_since old mid new (fault_text (BadList line why)) stops later says
says_status old mid new form (Range line) stops not_done later outputs says = line_since old mid new (fault_text (Range line)) stops later says
says_status old mid new form (NoFile input) stops not_done later outputs says = line_since old mid new (fault_text (NoFile input)) stops later says
says_status old mid new form (BadSource source what) stops not_done later outputs says = line_since old mid new (fault_text (BadSource source what)) stops later says
says_status old mid new form ReadFault stops not_done later outputs says = line_since old mid new (fault_text ReadFault) stops later says
says_status old mid new form (TooLong input size) stops not_done later outputs says = line_since old mid new (fault_text (TooLong input size)) stops later says
says_status old mid new form InPointNotKey stops not_done later outputs says = line_since old mid new (fault_text InPointNotKey) stops later says
says_status old mid new form (BadY4m frame why) stops not_done later outputs says = line_since old mid new (fault_text (BadY4m frame why)) stops later says
says_status old mid new form NotYet stops not_done later outputs says = line_since old mid new (fault_text NotYet) stops later says

-- a refusal that was told
pub says_told : (old mid new : Meaning) (form : Form) (status told : Status) → StopsAt form old mid status → (status ≡ Done → ⊥) → old.write_faults ≤ mid.write_faults → new.outputs ≡ mid.outputs → Tells mid new status told → SaysOn form old new told
says_told old mid new form status told stops not_done later outputs tells = elim tells [
  | inl same ↦ rw same.0 (says_status old mid new form status stops not_done later outputs same.1)
  | inr none ↦
      let first = said_first old mid form status stops in
      rw none.0 (record { first = first.0; came = []; rest = fault_text NoMem; line_is = refl; said = said_twice old mid new first.0 [] first.1 none.1; part = rw outputs first.2 })
]
