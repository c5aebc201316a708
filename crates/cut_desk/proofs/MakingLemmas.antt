-- Bytes that come to an output one after another. Copying cites these.
use Rattle.std.proofs.Common.{◌≡◌, ℕ, ◌≤◌, List, [], ◌∷◌, ◌++◌, length, Option, Some, None, Err, refl, ap, sym, ◌∙◌, arith, inr}
use Rattle.std.specs.Option.{option_map}
use Rattle.vid_desk.specs.Meaning.{File, Meaning, with_last, with_more, Appends}
use Rattle.vid_desk.specs.declared.fault.DeskFault.{DeskFault}
use Rattle.vid_desk.specs.declared.fault.DeskFault.TheVariants.{Failed, NoMem}
use Rattle.vid_desk.proofs.FileLemmas.{with_more-last, with_more-nil, with_more-twice}
use Rattle.cut_desk.specs.Making.{Adds, IsMaking}
use Rattle.cut_desk.specs.Outputs.{Makes, MakesAtMost}

-- bytes for the last output
last_more : (outputs : Option (List File)) (id : ℕ) (name bytes came : List ℕ) → ((files : List File) → outputs ≡ Some files → id ≡ length files)
    → option_map (λ files. with_more files id came) (with_last outputs (record { name = name; bytes = bytes })) ≡ with_last outputs (record { name = name; bytes = bytes ++ came })
last_more None id name bytes came place = refl
last_more (Some files) id name bytes came place =
    let e : id ≡ length files = place files refl in
    ap (λ fs. Some fs) (ap (λ i. with_more (files ++ record { name = name; bytes = bytes } ∷ []) i came) e ∙ with_more-last files (record { name = name; bytes = bytes }) came)

abbrev with_output : Meaning → Option (List File) → Option (List (List ℕ)) → ℕ → ℕ → Meaning
with_output m outputs named write_faults made = record m { outputs = outputs; named = named; write_faults = write_faults; made = made }

-- more bytes
pub making_more : (start now next : Meaning) (id : ℕ) (name bytes came : List ℕ) → IsMaking start now id name bytes → Adds now next id came → IsMaking start next id name (bytes ++ came)
making_more start now next id name bytes came making adds =
    let named = with_last start.named name in
    record {
      outside =
          adds.appended
          ∙ ap {A = Meaning} {B = Meaning} (λ m. record m { outputs = option_map (λ files. with_more files id came) m.outputs; write_faults = next.write_faults }) making.outside
          ∙ ap {B = Meaning} (λ outputs. with_output start outputs named next.write_faults now.made) (last_more start.outputs id name bytes came making.place)
          ∙ ap {B = Meaning} (λ made. with_output start (with_last start.outputs (record { name = name; bytes = bytes ++ came })) named next.write_faults made) (sym adds.made);
      place = making.place;
      room = omega (arith, making.room, adds.made);
      later = omega (arith, making.later, adds.later);
    }

outputs_none : (outputs : Option (List File)) (id : ℕ) → option_map (λ files. with_more files id []) outputs ≡ outputs
outputs_none None id = refl
outputs_none (Some files) id = ap (λ fs. Some fs) (with_more-nil files id)

-- nothing came
pub adds_none : (old new : Meaning) (id : ℕ) → new ≡ record old { write_faults = new.write_faults } → old.write_faults ≤ new.write_faults → Adds old new id []
adds_none old new id kept later = record {
  appended = kept ∙ ap {B = Meaning} (λ outputs. record old { outputs = outputs; write_faults = new.write_faults }) (sym (outputs_none old.outputs id));
  made = ap {A = Meaning} (λ m. m.made) kept;
  later = later;
}

outputs_twice : (outputs : Option (List File)) (id : ℕ) (came next : List ℕ) → option_map (λ files. with_more files id next) (option_map (λ files. with_more files id came) outputs) ≡ option_map (λ files. with_more files id (came ++ next)) outputs
outputs_twice None id came next = refl
outputs_twice (Some files) id came next = ap (λ fs. Some fs) (with_more-twice files id came next)

-- bytes came, and then others
pub adds_twice : (a b c : Meaning) (id : ℕ) (came next : List ℕ) → Adds a b id came → Adds b c id next → Adds a c id (came ++ next)
adds_twice a b c id came next first second = record {
  appended =
      second.appended
      ∙ ap {A = Meaning} {B = Meaning} (λ m. record m { outputs = option_map (λ files. with_more files id next) m.outputs; write_faults = c.write_faults }) first.appended
      ∙ ap {B = Meaning} (λ outputs. record a { outputs = outputs; write_faults = c.write_faults }) (outputs_twice a.outputs id came next);
  made = second.made ∙ first.made;
  later = omega (arith, first.later, second.later);
}

-- what an append left
pub adds_part : (old new : Meaning) (id : ℕ) (piece : List ℕ) (fault : DeskFault) → Appends old new id piece (Err fault) → old.write_faults ≤ new.write_faults → (came : List ℕ) × Adds old new id came
adds_part old new id piece Failed appends later = (appends.0, record { appended = appends.3; made = ap {A = Meaning} (λ m. m.made) appends.3; later = later })
adds_part old new id piece NoMem appends later = ([], adds_none old new id appends later)

-- bytes came, and then a part of others
pub adds_onto : (a b c : Meaning) (id : ℕ) (came : List ℕ) → Adds a b id came → ((next : List ℕ) × Adds b c id next) → (all : List ℕ) × Adds a c id all
adds_onto a b c id came first part = (came ++ part.0, adds_twice a b c id came part.0 first part.1)

-- an output that is being made was created, and holds these bytes
pub makes_of : (start now : Meaning) (id : ℕ) (name bytes : List ℕ) → IsMaking start now id name bytes → Makes start now name bytes
makes_of start now id name bytes making = record { outputs = ap {A = Meaning} (λ m. m.outputs) making.outside; asked_for = ap {A = Meaning} (λ m. m.named) making.outside }

-- a part of what was to come
pub made_part : (start now next : Meaning) (id : ℕ) (name bytes : List ℕ) → IsMaking start now id name bytes → ((came : List ℕ) × Adds now next id came) → MakesAtMost start next name
made_part start now next id name bytes making part = inr (bytes ++ part.0, makes_of start next id name (bytes ++ part.0) (making_more start now next id name bytes part.0 making part.1))

pub makes_is : (start now : Meaning) (id : ℕ) (name bytes all : List ℕ) → IsMaking start now id name bytes → bytes ≡ all → Makes start now name all
makes_is start now id name bytes all making e = rw (← e) (makes_of start now id name bytes making)
