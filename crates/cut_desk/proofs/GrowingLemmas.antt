-- Bytes that come to an output between reads, one after another. Commands that read and write in turn cite these.
use Rattle.std.proofs.Common.{◌≡◌, ℕ, ◌<◌, ◌≤◌, List, [], ◌∷◌, ◌++◌, length, Option, Some, None, Ok, Err, refl, ap, sym, ◌∙◌, arith, inl, inr}
use Rattle.std.specs.Option.{option_map}
use Rattle.vid_desk.specs.Meaning.{File, Meaning, Appended, Appends, Creates, Grown, with_last, with_more, with_reads}
use Rattle.vid_desk.specs.declared.fault.DeskFault.{DeskFault}
use Rattle.vid_desk.specs.declared.fault.DeskFault.TheVariants.{Failed, NoMem}
use Rattle.vid_desk.proofs.FileLemmas.{with_more-last}
use Rattle.vid_desk.proofs.MeaningLemmas.{grown_append, grown_count, grown_reads, grown_twice}
use Rattle.cut_desk.specs.Growing.{Grows, IsGrowing, ReadsAndMakes}
use Rattle.cut_desk.specs.Outputs.{Makes, MakesAtMost}

-- nothing came
pub grows_none : (m : Meaning) (id : ℕ) → Grows m m id []
grows_none m id = record { grown = grown_reads m m id refl; read_later = omega arith; write_later = omega arith }

-- inputs were read
pub grows_reads : (old new : Meaning) (id : ℕ) → with_reads old new → old.read_faults ≤ new.read_faults → Grows old new id []
grows_reads old new id kept later = record { grown = grown_reads old new id kept; read_later = later; write_later = omega (arith, ap {A = Meaning} (λ m. m.write_faults) kept) }

-- a piece came whole
pub grows_piece : (old new : Meaning) (id : ℕ) (piece : List ℕ) → Appended old new id piece → old.write_faults ≤ new.write_faults → Grows old new id piece
grows_piece old new id piece appended later = record { grown = grown_append old new id piece appended; read_later = omega (arith, ap {A = Meaning} (λ m. m.read_faults) appended); write_later = later }

-- what an append left
pub grows_part : (old new : Meaning) (id : ℕ) (piece : List ℕ) (fault : DeskFault) → Appends old new id piece (Err fault) → old.write_faults ≤ new.write_faults → (came : List ℕ) × Grows old new id came
grows_part old new id piece Failed appends later = (appends.0, grows_piece old new id appends.0 appends.3 later)
grows_part old new id piece NoMem appends later = ([], record { grown = grown_count old new id appends; read_later = omega (arith, ap {A = Meaning} (λ m. m.read_faults) appends); write_later = later })

-- bytes came, and then others
pub grows_twice : (a b c : Meaning) (id : ℕ) (came next : List ℕ) → Grows a b id came → Grows b c id next → Grows a c id (came ++ next)
grows_twice a b c id came next first second = record {
  grown = grown_twice a b c id came next first.grown second.grown;
  read_later = omega (arith, first.read_later, second.read_later);
  write_later = omega (arith, first.write_later, second.write_later);
}

-- bytes came after reads
pub grows_behind : (a b c : Meaning) (id : ℕ) (came : List ℕ) → Grows a b id [] → Grows b c id came → Grows a c id came
grows_behind a b c id came first second = grows_twice a b c id [] came first second

-- bytes came, and then some
pub grows_onto : (a b c : Meaning) (id : ℕ) (came : List ℕ) → Grows a b id came → ((next : List ℕ) × Grows b c id next) → (all : List ℕ) × Grows a c id all
grows_onto a b c id came first part = (came ++ part.0, grows_twice a b c id came part.0 first part.1)

-- bytes for the last output
last_more : (outputs : Option (List File)) (id : ℕ) (name bytes came : List ℕ) → ((files : List File) → outputs ≡ Some files → id ≡ length files)
    → option_map (λ files. with_more files id came) (with_last outputs (record { name = name; bytes = bytes })) ≡ with_last outputs (record { name = name; bytes = bytes ++ came })
last_more None id name bytes came place = refl
last_more (Some files) id name bytes came place =
    let e : id ≡ length files = place files refl in
    ap (λ fs. Some fs) (ap (λ i. with_more (files ++ record { name = name; bytes = bytes } ∷ []) i came) e ∙ with_more-last files (record { name = name; bytes = bytes }) came)

abbrev with_output : Meaning → Meaning → Option (List File) → List ℕ → ℕ → Meaning
with_output start now outputs name made = record start { outputs = outputs; named = with_last start.named name; read_faults = now.read_faults; write_faults = now.write_faults; asked = now.asked; made = made }

-- an output was created
pub growing_new : (start now : Meaning) (id : ℕ) (name : List ℕ) → Creates start now name (Ok id) → start.write_faults ≤ now.write_faults → IsGrowing start now id name []
growing_new start now id name creates later =
    let reads : now.read_faults ≡ start.read_faults = ap {A = Meaning} (λ m. m.read_faults) creates.0 in
    let asked : now.asked ≡ start.asked = ap {A = Meaning} (λ m. m.asked) creates.0 in
    record {
      outside =
          creates.0
          ∙ ap {B = Meaning} (λ r. record start { outputs = with_last start.outputs (record { name = name; bytes = [] }); named = with_last start.named name; read_faults = r; write_faults = now.write_faults; made = now.made }) (sym reads)
          ∙ ap {B = Meaning} (λ a. record start { outputs = with_last start.outputs (record { name = name; bytes = [] }); named = with_last start.named name; read_faults = now.read_faults; write_faults = now.write_faults; asked = a; made = now.made }) (sym asked);
      place = creates.2;
      room = creates.1;
      read_later = omega (arith, reads);
      write_later = later;
    }

-- more bytes
pub growing_more : (start now next : Meaning) (id : ℕ) (name bytes came : List ℕ) → IsGrowing start now id name bytes → Grows now next id came → IsGrowing start next id name (bytes ++ came)
growing_more start now next id name bytes came growing grows =
    let made : next.made ≡ now.made = ap {A = Meaning} (λ m. m.made) grows.grown in
    record {
      outside =
          grows.grown
          ∙ ap {A = Meaning} {B = Meaning} (λ m. record m { outputs = option_map (λ files. with_more files id came) m.outputs; read_faults = next.read_faults; write_faults = next.write_faults; asked = next.asked }) growing.outside
          ∙ ap {B = Meaning} (λ outputs. with_output start next outputs name now.made) (last_more start.outputs id name bytes came growing.place)
          ∙ ap {B = Meaning} (λ made. with_output start next (with_last start.outputs (record { name = name; bytes = bytes ++ came })) name made) (sym made);
      place = growing.place;
      room = omega (arith, growing.room, made);
      read_later = omega (arith, growing.read_later, grows.read_later);
      write_later = omega (arith, growing.write_later, grows.write_later);
    }

-- an output that grows was created, and holds these bytes
pub makes_grown : (start now : Meaning) (id : ℕ) (name bytes : List ℕ) → IsGrowing start now id name bytes → Makes start now name bytes
makes_grown start now id name bytes growing = record { outputs = ap {A = Meaning} (λ m. m.outputs) growing.outside; asked_for = ap {A = Meaning} (λ m. m.named) growing.outside }

-- some bytes more
pub grown_at_most : (start now next : Meaning) (id : ℕ) (name bytes : List ℕ) → IsGrowing start now id name bytes → ((came : List ℕ) × Grows now next id came) → MakesAtMost start next name
grown_at_most start now next id name bytes growing part = inr (bytes ++ part.0, makes_grown start next id name (bytes ++ part.0) (growing_more start now next id name bytes part.0 growing part.1))

-- nothing else changed
pub growing_same : (start now : Meaning) (id : ℕ) (name bytes : List ℕ) → IsGrowing start now id name bytes → ReadsAndMakes start now
growing_same start now id name bytes growing =
    let outputs : now.outputs ≡ with_last start.outputs (record { name = name; bytes = bytes }) = ap {A = Meaning} (λ m. m.outputs) growing.outside in
    let named : now.named ≡ with_last start.named name = ap {A = Meaning} (λ m. m.named) growing.outside in
    growing.outside
    ∙ ap {B = Meaning} (λ o. record start { outputs = o; named = with_last start.named name; read_faults = now.read_faults; write_faults = now.write_faults; asked = now.asked; made = now.made }) (sym outputs)
    ∙ ap {B = Meaning} (λ o. record start { outputs = now.outputs; named = o; read_faults = now.read_faults; write_faults = now.write_faults; asked = now.asked; made = now.made }) (sym named)
