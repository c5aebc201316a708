-- Pictures of an input one after another, and what is said of them. The calls of `importing` cite these.
use Rattle.std.proofs.Common.{◌≡◌, ◌∙◌, ℕ, ◌+◌, ◌≤◌, List, [], ◌∷◌, ◌++◌, length, Option, None, refl, ap, sym, subst, arith, append_assoc, length-append}
use Rattle.std.proofs.lemmas.List.{append-nil}
use Rattle.vid_base.specs.declared.shape.Shape.{Shape}
use Rattle.vid_desk.specs.Meaning.{File, Meaning, Told, bytes_at, with_last, with_reads}
use Rattle.thr_frame.specs.Rebuilt.{Pair}
use Rattle.y4m_io.specs.declared.fault.Y4mWhy.{Y4mWhy}
use Rattle.y4m_io.specs.declared.head.Head.{Head}
use Rattle.y4m_io.specs.Pictures.{Samples}
use Rattle.y4m_io.specs.Progress.{Follow, FollowBad, IsStart, Progress}
use Rattle.y4m_io.specs.Reading.{Departure, HasBadHead}
use Rattle.y4m_io.proofs.ReadingLemmas.{started_is}
use Rattle.cut_desk.specs.Growing.{Grows}
use Rattle.cut_desk.specs.Outputs.{Makes}
use Rattle.cut_desk.proofs.GrowingLemmas.{grows_reads, grows_twice}
use Rattle.cut_import.specs.declared.importer.Importer.{Importer}
use Rattle.cut_import.specs.Imported.{AreCodes, Codes, StandFirst, import_shape}
use Rattle.cut_import.specs.Importers.{CodesAll, FollowFirst, Stays}
use Rattle.cut_import.proofs.CodeLemmas.{Join, codes_none}

-- what follows later follows behind the pictures that were read
abbrev pub Leads : List ℕ → Progress → Progress → List Samples → Type 0
Leads bytes first now read = (more : List Samples) (bad : Option Departure) → Follow now bytes more bad → Follow first bytes (read ++ more) bad

-- pictures that were read follow first
pub read_first : (bytes : List ℕ) (first now : Progress) (read : List Samples) → now.bad ≡ None → now.head ≡ first.head → now.frames ≡ length read → Leads bytes first now read → FollowFirst bytes first read
read_first bytes first now read sound same count leads = record {
  at = now.at;
  goes_on = λ more bad goes.
      let here : FollowBad None now bytes more bad = rw (same, count) goes in
      leads more bad (subst (λ (b : Option Y4mWhy). FollowBad b now bytes more bad) (sym sound) here);
}

-- what follows after a picture follows behind it
abbrev pub Behind : List ℕ → Progress → Progress → Samples → Type 0
Behind bytes now next picture = (more : List Samples) (bad : Option Departure) → Follow next bytes more bad → Follow now bytes (picture ∷ more) bad

-- one picture more
pub leads_more : (bytes : List ℕ) (first now next : Progress) (read : List Samples) (picture : Samples) → Leads bytes first now read → Behind bytes now next picture
    → Leads bytes first next (read ++ picture ∷ [])
leads_more bytes first now next read picture leads gives = λ more bad follow.
    subst (λ (ps : List Samples). Follow first bytes ps bad) (sym (append_assoc read (picture ∷ []) more)) (leads (picture ∷ more) bad (gives more bad follow))

-- none more
pub leads_end : (bytes : List ℕ) (first now : Progress) (read : List Samples) (bad : Option Departure) → Leads bytes first now read → Follow now bytes [] bad → Follow first bytes read bad
leads_end bytes first now read bad leads follow = subst (λ (ps : List Samples). Follow first bytes ps bad) (append-nil read) (leads [] bad follow)

-- a packet of an importer that is for the same stream
pub codes_stay : (old now : Importer) (state : Option Pair) (n : ℕ) (picture : Samples) (packet : List ℕ) → Stays old now → (codes : Codes now.encoder.shape now.qi now.keys state n picture packet)
    → (moved : Codes old.encoder.shape old.qi old.keys state n picture packet) × (moved.next ≡ codes.next)
codes_stay old now state n picture packet stays codes =
    (record { key = rw stays.keys at codes.key; short = codes.short; near = rw (stays.shape, stays.qi) at codes.near; next = codes.next; steps = rw stays.shape at codes.steps }, refl)

-- the packets of all pictures that were read
pub join_end : (s : Shape) (qi keys n : ℕ) (first now : Option Pair) (read : List Samples) (coded : List (List ℕ)) → Join s qi keys first now n read coded → AreCodes s qi keys first 0 read coded
join_end s qi keys n first now read coded join =
    subst (λ (ps : List Samples). AreCodes s qi keys first 0 ps coded) (append-nil read)
    (subst (λ (qs : List (List ℕ)). AreCodes s qi keys first 0 (read ++ []) qs) (append-nil coded) (join [] [] (codes_none s qi keys n now)))

-- reads bring nothing to an output
pub grows_before : (a b c : Meaning) (id : ℕ) (came : List ℕ) → Grows a b id came → with_reads b c → b.read_faults ≤ c.read_faults → Grows a c id came
grows_before a b c id came grows kept later = subst (λ (t : List ℕ). Grows a c id t) (append-nil came) (grows_twice a b c id came [] grows (grows_reads b c id kept later))

-- one more was read
pub length_more : (read : List Samples) (picture : Samples) (frames : ℕ) → frames ≡ length read → frames + 1 ≡ length (read ++ picture ∷ [])
length_more read picture frames count = omega (arith, count, length-append read (picture ∷ []))

-- pictures that follow the head first stand first in the text
pub stand_first : (bytes : List ℕ) (p : Progress) (pictures : List Samples) → IsStart bytes p → FollowFirst bytes p pictures → StandFirst bytes p.head pictures
stand_first bytes p pictures start first = record { at = first.at; goes_on = λ more bad goes. started_is bytes p (pictures ++ more) bad start (first.goes_on more bad goes) }

-- no picture was read
pub none_first : (bytes : List ℕ) (p : Progress) → IsStart bytes p → FollowFirst bytes p []
none_first bytes p start = read_first bytes p p [] start.bad refl start.frames (λ more bad follow. follow)

-- a head that was read is no departure
pub no_bad_head : (bytes : List ℕ) (p : Progress) (why : Y4mWhy) → IsStart bytes p → HasBadHead bytes why → ⊥
no_bad_head bytes p why start bad =
    let clash = sym start.head ∙ bad in cc

-- what was made since inputs were read
pub makes_reads : (old mid new : Meaning) (name bytes : List ℕ) → with_reads old mid → Makes mid new name bytes → Makes old new name bytes
makes_reads old mid new name bytes kept makes = record {
  outputs = makes.outputs ∙ ap (λ (o : Option (List File)). with_last o (record { name = name; bytes = bytes })) (ap {A = Meaning} (λ m. m.outputs) kept);
  asked_for = makes.asked_for ∙ ap (λ (o : Option (List (List ℕ))). with_last o name) (ap {A = Meaning} (λ m. m.named) kept);
}

-- of an importer that has given the pages of its headers away: what it codes, where it is that of a head
pub codes_head : (i : Importer) (head : Head) (qi keys : ℕ) (pictures : List Samples) (packets : List (List ℕ)) → i.encoder.shape ≡ import_shape head qi → i.qi ≡ qi → i.keys ≡ keys → i.encoder.state ≡ None
    → CodesAll i pictures packets → AreCodes (import_shape head qi) qi keys None 0 pictures packets
codes_head i head qi keys pictures packets shape same_qi same_keys state codes = rw (shape, same_qi, same_keys, state) at codes

-- the same of one that has given pages away
pub codes_kept : (old now : Importer) (pictures : List Samples) (packets : List (List ℕ)) → now ≡ record old { mux = record old.mux { ready = [] } } → CodesAll now pictures packets → CodesAll old pictures packets
codes_kept old now pictures packets kept codes = subst (λ (i : Importer). CodesAll i pictures packets) kept codes

-- before a picture is read none follows first
pub none_read_first : (m : Meaning) (p : Progress) → p.frames ≡ 0 → p.bad ≡ None → Told m p.input (λ bytes. FollowFirst bytes p [])
none_read_first m p start sound = λ files told. read_first (bytes_at files p.input) p p [] sound refl start (λ more bad follow. follow)
