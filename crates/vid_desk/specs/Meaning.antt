-- What lies outside a program: inputs, outputs and printed text, as far as a desk tells them, and its five counts (own).
use Rattle.std.specs.Prelude.{◌≡◌, ℕ, ◌+◌, ◌-◌, ◌^◌, ◌<◌, ◌≤◌, List, [], ◌∷◌, ◌++◌, length, min, max, ⊤, zero, suc, Option, Some, Result, Ok, Err, IfSome, IsErrOf, slice_get}
use Rattle.std.specs.Option.{option_map, option_map_or}
use Rattle.std.specs.Str.{bytes_eq}
use Rattle.std.specs.List.{position_from}
use Rattle.vid_desk.specs.declared.fault.DeskFault.{DeskFault}
use Rattle.vid_desk.specs.declared.fault.DeskFault.TheVariants.{Failed, NoMem}

-- a name and its bytes
pub record File : Type 0 where
  pub name : List ℕ
  pub bytes : List ℕ

-- what a desk tells: the files, the text said, the names looked for and the names asked for as outputs; and its counts
pub record Meaning : Type 0 where
  pub inputs : Option (List File)
  pub outputs : Option (List File)
  pub said : Option (List ℕ)
  pub sought : Option (List (List ℕ))
  pub named : Option (List (List ℕ))
  pub read_faults : ℕ
  pub write_faults : ℕ
  pub asked : ℕ
  pub found : ℕ
  pub made : ℕ

-- where the first file of that name stands
abbrev pub place_of : List File → List ℕ → Option ℕ
place_of files name = position_from (λ file. bytes_eq file.name name) 0 files

-- the bytes of the file at a place
abbrev pub bytes_at : List File → ℕ → List ℕ
bytes_at files id = option_map_or (λ file. file.bytes) (slice_get files id) []

-- the name of the file at a place
abbrev pub name_at : List File → ℕ → List ℕ
name_at files id = option_map_or (λ file. file.name) (slice_get files id) []

-- a list with one more at its end, where it is told
abbrev pub with_last : {A : Type 0} → Option (List A) → A → Option (List A)
with_last told x = option_map (λ xs. xs ++ x ∷ []) told

-- the files with more bytes at the end of the one at a place
abbrev pub with_more : List File → ℕ → List ℕ → List File
with_more [] id came = []
with_more (file ∷ files) zero came = record file { bytes = file.bytes ++ came } ∷ files
with_more (file ∷ files) (suc id) came = file ∷ with_more files id came

-- a fact of all inputs, where they are told
abbrev pub ToldFiles : Meaning → (List File → Type 0) → Type 0
ToldFiles m P = (files : List File) → m.inputs ≡ Some files → P files

-- a fact of the bytes of an input, where the inputs are told
abbrev pub Told : Meaning → ℕ → (List ℕ → Type 0) → Type 0
Told m id P = (files : List File) → m.inputs ≡ Some files → P (bytes_at files id)

-- a count of faults rose: it has grown, or stands at its end
abbrev pub Rose : ℕ → ℕ → Type 0
Rose before now = min (before + 1) (2 ^ 64 - 1) ≤ now

-- a count stays at its end once it is there
abbrev pub Stands : ℕ → ℕ → Type 0
Stands before now = now ≤ max before (2 ^ 64 - 1)

-- a count of faults never falls, and Failed comes only where it rose
pub record HasCause {A : Type 0} (before now : ℕ) (result : Result A DeskFault) : Type 0 where
  pub later : before ≤ now
  pub failed : IsErrOf result Failed → Rose before now

-- the causes of a call that reads inputs and writes outputs which were found and made before: it changes no input,
-- finds and makes none, lets no count of faults fall, and where its answer says that a read or a write failed, that count rose
pub record Causes (old new : Meaning) (ReadFailed WriteFailed : Type 0) : Type 0 where
  pub inputs : new.inputs ≡ old.inputs
  pub found : new.found ≡ old.found
  pub made : new.made ≡ old.made
  pub reads : old.read_faults ≤ new.read_faults
  pub writes : old.write_faults ≤ new.write_faults
  pub read_failed : ReadFailed → Rose old.read_faults new.read_faults
  pub write_failed : WriteFailed → Rose old.write_faults new.write_faults

-- reads change nothing but the count of their faults and the bytes asked for
abbrev pub with_reads : Meaning → Meaning → Type 0
with_reads old new = new ≡ record old { read_faults = new.read_faults; asked = new.asked }

-- the names after a call that was asked for one more
abbrev pub named_after : {A : Type 0} → Option (List (List ℕ)) → List ℕ → Result A DeskFault → Option (List (List ℕ))
named_after names name (Ok _) = with_last names name
named_after names name (Err Failed) = with_last names name
named_after names name (Err NoMem) = names

-- find: the name was looked for, but where no memory was found
abbrev pub Finds : Meaning → Meaning → List ℕ → Result (Option ℕ) DeskFault → Type 0
Finds old new name result = new ≡ record old {
  sought = named_after old.sought name result;
  read_faults = new.read_faults;
  found = new.found;
}

-- find: the answer is the first input of that name, and its id was given
abbrev pub Found : Meaning → List ℕ → Option ℕ → Type 0
Found m name answer = ToldFiles m (λ files. answer ≡ place_of files name) × IfSome answer (λ id. id < m.found)

-- create: an empty output of that name at the end; after Failed the name alone was asked for, and without memory nothing
abbrev pub Creates : Meaning → Meaning → List ℕ → Result ℕ DeskFault → Type 0
Creates old new name (Ok id) =
    (new ≡ record old {
      outputs = with_last old.outputs (record { name = name; bytes = [] });
      named = with_last old.named name;
      write_faults = new.write_faults;
      made = new.made;
    })
    × (id < new.made) × ((files : List File) → old.outputs ≡ Some files → id ≡ length files)
Creates old new name (Err Failed) = new ≡ record old { named = with_last old.named name; write_faults = new.write_faults; made = new.made }
Creates old new name (Err NoMem) = new ≡ record old { write_faults = new.write_faults; made = new.made }

-- these bytes came to the end of one output
abbrev pub Appended : Meaning → Meaning → ℕ → List ℕ → Type 0
Appended old new id came = new ≡ record old {
  outputs = option_map (λ files. with_more files id came) old.outputs;
  write_faults = new.write_faults;
}

-- append: all of the piece came; after Failed a first part of it, and without memory nothing
abbrev pub Appends : Meaning → Meaning → ℕ → List ℕ → Result ⊤ DeskFault → Type 0
Appends old new id piece (Ok _) = Appended old new id piece
Appends old new id piece (Err Failed) = (came : List ℕ) × (rest : List ℕ) × (piece ≡ came ++ rest) × Appended old new id came
Appends old new id piece (Err NoMem) = new ≡ record old { write_faults = new.write_faults }

-- these bytes came to the end of the text said
abbrev pub Said : Meaning → Meaning → List ℕ → Type 0
Said old new came = new ≡ record old { said = option_map (λ text. text ++ came) old.said; write_faults = new.write_faults }

-- say: all of the piece came; after Failed a first part of it, and without memory nothing
abbrev pub Says : Meaning → Meaning → List ℕ → Result ⊤ DeskFault → Type 0
Says old new piece (Ok _) = Said old new piece
Says old new piece (Err Failed) = (came : List ℕ) × (rest : List ℕ) × (piece ≡ came ++ rest) × Said old new came
Says old new piece (Err NoMem) = new ≡ record old { write_faults = new.write_faults }

-- reads were made, and these bytes came to the end of one output
abbrev pub Grown : Meaning → Meaning → ℕ → List ℕ → Type 0
Grown old new out came = new ≡ record old {
  outputs = option_map (λ files. with_more files out came) old.outputs;
  read_faults = new.read_faults;
  write_faults = new.write_faults;
  asked = new.asked;
}
