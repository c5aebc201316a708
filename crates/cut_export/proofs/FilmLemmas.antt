-- Frames decoded and written one after another. The calls of `film` and `exporting` cite these.
use Rattle.std.proofs.Common.{◌≡◌, ◌∙◌, ℕ, ◌+◌, ◌<◌, List, [], ◌∷◌, ◌++◌, length, map, take, drop, get_or, Option, Some, None, Result, Ok, Err, refl, ap, sym, subst, arith, inl, inr}
use Rattle.std.specs.List.{flat_map}
use Rattle.std.specs.Result.{IsErrOf, IsOk}
use Rattle.std.proofs.lemmas.Grind.{flat_map-append}
use Rattle.std.proofs.lemmas.List.{append-nil, drop_more, get_or-drop, length-drop, map-append, take-append-drop, take_all, take_more}
use Rattle.vid_base.specs.declared.shape.Shape.{Shape}
use Rattle.vid_base.specs.declared.fault.PacketFault.{PacketFault}
use Rattle.vid_base.specs.Reading.{◌>>=◌}
use Rattle.vid_desk.specs.Meaning.{Creates, HasCause, Meaning, Rose}
use Rattle.vid_desk.specs.declared.fault.DeskFault.{DeskFault}
use Rattle.vid_desk.specs.declared.fault.DeskFault.TheVariants.{Failed, NoMem as NoRoom}
use Rattle.vid_plane.specs.Frames.{IsFrameOf}
use Rattle.vid_plane.specs.declared.frame.Frame.{Frame}
use Rattle.thr_ident.specs.declared.ident.Ident.{Ident}
use Rattle.thr_ident.specs.Ident.{header_of, ident_of}
use Rattle.thr_ident.specs.Shape.{shape_of as announced_shape}
use Rattle.thr_ident.proofs.ShapeLemmas.{announced}
use Rattle.thr_setup.specs.Setup.{Contents, setup_of}
use Rattle.thr_frame.specs.Rebuilt.{Pair}
use Rattle.thr_frame.specs.Step.{frames_from, state_after, step}
use Rattle.thr_frame.proofs.FramesLemmas.{frames_join, state_join}
use Rattle.src_index.specs.Index.{Index, frame_count}
use Rattle.src_index.specs.Judge.{Judged, Verdict}
use Rattle.src_index.specs.Gather.{IsIndexOf}
use Rattle.src_index.specs.Loading.{IsIndexed, IsLoadedFrom}
use Rattle.src_index.specs.Track.{frame_at, frames_of}
use Rattle.src_index.proofs.FaultlessLemmas.{faultless_decode, judged_faultless}
use Rattle.src_index.proofs.IndexLemmas.{index_count}
use Rattle.src_index.proofs.VerdictLemmas.{one_verdict}
use Rattle.y4m_io.specs.Pictures.{samples_of}
use Rattle.y4m_io.specs.Heads.{head_of_ident}
use Rattle.y4m_io.specs.Crop.{crop_of, shape_of}
use Rattle.y4m_io.specs.Y4m.{frame_text, head_text, y4m_of}
use Rattle.cut_report.specs.declared.status.Status.{Status}
use Rattle.cut_report.specs.declared.status.Status.TheVariants.{Changed, ReadFault, WriteFault}
use Rattle.cut_desk.specs.Growing.{Grows}
use Rattle.cut_desk.specs.Outputs.{MakesAtMost}
use Rattle.cut_desk.specs.Statuses.{writing_status}
use Rattle.cut_export.specs.Statuses.{IsExporting}
use Rattle.cut_export.specs.Exported.{IsExport}
use Rattle.cut_export.specs.declared.film.Film.{Film}
use Rattle.cut_export.specs.Films.{FilmIsFar, IsFar, IsFilmOf, Shows, Stays}

-- before the first frame
pub far_none : (ident : Ident) (setup : Contents) (s : Shape) (packets : List (List ℕ)) → IsFar ident setup s packets 0 None []
unfolding state_after frames_from
far_none ident setup s packets = record { frames = []; behind = refl; decoded = refl; text_is = refl }

text_more : (ident : Ident) (frames : List Frame) (frame : Frame) → flat_map frame_text (map (crop_of ident) (frames ++ frame ∷ [])) ≡ flat_map frame_text (map (crop_of ident) frames) ++ frame_text (crop_of ident frame)
text_more ident frames frame =
    ap (flat_map frame_text) (map-append (crop_of ident) frames (frame ∷ []))
    ∙ flat_map-append frame_text (map (crop_of ident) frames) (crop_of ident frame ∷ [])
    ∙ ap (λ t. flat_map frame_text (map (crop_of ident) frames) ++ t) (append-nil (frame_text (crop_of ident frame)))

-- one frame more
pub far_more : (ident : Ident) (setup : Contents) (s : Shape) (packets : List (List ℕ)) (n : ℕ) (state : Option Pair) (pair : Pair) (text : List ℕ) → n < length packets → step setup s state (get_or packets n []) ≡ Ok pair
    → IsFar ident setup s packets n state text → IsFar ident setup s packets (n + 1) (Some pair) (text ++ frame_text (crop_of ident pair.prev))
unfolding state_after frames_from
far_more ident setup s packets n state pair text below steps far =
    let packet : List ℕ = get_or packets n [] in
    let more : take (n + 1) packets ≡ take n packets ++ packet ∷ [] = take_more packets n [] below in
    record {
      frames = far.frames ++ pair.prev ∷ [];
      behind =
          ap (state_after setup s None) more ∙ state_join setup s None (take n packets) (packet ∷ [])
          ∙ ap (λ (x : Result (Option Pair) PacketFault). x >>= (λ middle. state_after setup s middle (packet ∷ []))) far.behind
          ∙ ap (λ (x : Result Pair PacketFault). x >>= (λ next. state_after setup s (Some next) [])) steps;
      decoded =
          ap (frames_from setup s None) more ∙ frames_join setup s None (take n packets) (packet ∷ [])
          ∙ ap (λ (x : Result (Option Pair) PacketFault). x >>= (λ middle. frames_from setup s None (take n packets) >>= (λ fs. frames_from setup s middle (packet ∷ []) >>= (λ gs. Ok (fs ++ gs))))) far.behind
          ∙ ap (λ (x : Result (List Frame) PacketFault). x >>= (λ fs. frames_from setup s state (packet ∷ []) >>= (λ gs. Ok (fs ++ gs)))) far.decoded
          ∙ ap (λ (x : Result Pair PacketFault). (x >>= (λ next. frames_from setup s (Some next) [] >>= (λ frames. Ok (next.prev ∷ frames)))) >>= (λ gs. Ok (far.frames ++ gs))) steps;
      text_is = ap (λ t. t ++ frame_text (crop_of ident pair.prev)) far.text_is ∙ sym (text_more ident far.frames pair.prev);
    }

-- the next packet can be decoded, where all can
pub far_steps : (ident : Ident) (setup : Contents) (s : Shape) (packets : List (List ℕ)) (n : ℕ) (state : Option Pair) (text : List ℕ) → n < length packets → IsOk (state_after setup s None packets)
    → IsFar ident setup s packets n state text → IsOk (step setup s state (get_or packets n []))
unfolding state_after
far_steps ident setup s packets n state text below ok far =
    let packet : List ℕ = get_or packets n [] in
    let rest : List (List ℕ) = drop (n + 1) packets in
    let parts : packets ≡ take n packets ++ packet ∷ rest = sym (take-append-drop n packets) ∙ ap (λ d. take n packets ++ d) (drop_more packets n [] below) in
    let behind : state_after setup s None packets ≡ (step setup s state packet >>= (λ next. state_after setup s (Some next) rest)) =
    ap (state_after setup s None) parts ∙ state_join setup s None (take n packets) (packet ∷ rest)
    ∙ ap (λ (x : Result (Option Pair) PacketFault). x >>= (λ middle. state_after setup s middle (packet ∷ rest))) far.behind in
    first (step setup s state packet) (λ next. state_after setup s (Some next) rest) (subst IsOk behind ok)
  where
    first : (x : Result Pair PacketFault) (next : Pair → Result (Option Pair) PacketFault) → IsOk (x >>= next) → IsOk x
    first (Ok pair) next ok = refl
    first (Err fault) next ok = ok

-- a packet by its number among the frames
pub packet_is : (packets : List (List ℕ)) (n : ℕ) → frame_at packets n ≡ get_or (frames_of packets) n []
packet_is packets n = let e : n + 3 ≡ 3 + n = omega arith in ap (λ k. get_or packets k []) e ∙ sym (get_or-drop 3 packets n [])

-- of an input that is told, the packets have this index
pub index_by : (bytes : List ℕ) (packets : List (List ℕ)) (index : Index) → IsIndexed bytes index → Judged bytes (Ok packets) → IsIndexOf bytes packets index
index_by bytes packets index indexed judged =
    let one : ◌≡◌ {A = Verdict} (Ok indexed.packets) (Ok packets) = one_verdict bytes (Ok indexed.packets) (Ok packets) indexed.judged judged in
    let same : indexed.packets ≡ packets = cc in
    subst (λ (p : List (List ℕ)). IsIndexOf bytes p index) same indexed.index_of

-- how many frames there are
pub count_is : (bytes : List ℕ) (packets : List (List ℕ)) (index : Index) → IsIndexOf bytes packets index → length (frames_of packets) ≡ frame_count index
count_is bytes packets index of = omega (arith, index_count bytes packets index of, length-drop 3 packets)

-- all packets of a source can be decoded
pub film_decodes : (bytes : List ℕ) (packets : List (List ℕ)) (index : Index) (film : Film) → Judged bytes (Ok packets) → IsIndexOf bytes packets index → IsFilmOf index film
    → IsOk (state_after film.decoder.setup film.decoder.shape None (frames_of packets))
film_decodes bytes packets index film judged of made =
    let faultless = judged_faultless bytes packets judged in
    subst (λ (s : Shape). IsOk (state_after film.decoder.setup s None (frames_of packets))) (sym made.shape)
    (faultless_decode packets (header_of film.ident) film.decoder.setup faultless.0 faultless.1 (ap ident_of (sym of.ident) ∙ made.header) (ap setup_of (sym of.setup) ∙ made.tables))

-- a frame that was read, decoded and written
pub film_more : (old read shown new : Film) (packets : List (List ℕ)) (n : ℕ) (text : List ℕ) → Stays old read → read.decoder.state ≡ old.decoder.state → Shows read shown → Stays read shown → Stays shown new → new.decoder.state ≡ shown.decoder.state
    → n < length (frames_of packets) → read.packet.items ≡ frame_at packets n → FilmIsFar old packets n text → FilmIsFar new packets (n + 1) (text ++ frame_text (samples_of shown.picture))
film_more old read shown new packets n text first same shows then last kept below packet far =
    let far_read : FilmIsFar read packets n text = rw (first.ident, first.setup, first.shape, same) far in
    let is : read.packet.items ≡ get_or (frames_of packets) n [] = packet ∙ packet_is packets n in
    let steps : step read.decoder.setup read.decoder.shape read.decoder.state (get_or (frames_of packets) n []) ≡ Ok shows.pair = rw is at shows.steps in
    let one = far_more read.ident read.decoder.setup read.decoder.shape (frames_of packets) n read.decoder.state shows.pair text below steps far_read in
    rw (last.ident, last.setup, last.shape, kept, then.ident, then.setup, then.shape, shows.state, shows.picture) one

-- a packet that was read again can be decoded
pub film_steps : (bytes : List ℕ) (packets : List (List ℕ)) (index : Index) (old read : Film) (n : ℕ) (text : List ℕ) → Judged bytes (Ok packets) → IsIndexOf bytes packets index → IsFilmOf index read → Stays old read → read.decoder.state ≡ old.decoder.state
    → n < frame_count index → read.packet.items ≡ frame_at packets n → FilmIsFar old packets n text → IsOk (step read.decoder.setup read.decoder.shape read.decoder.state read.packet.items)
film_steps bytes packets index old read n text judged of made first same below packet far =
    let far_read : FilmIsFar read packets n text = rw (first.ident, first.setup, first.shape, same) far in
    let is : read.packet.items ≡ get_or (frames_of packets) n [] = packet ∙ packet_is packets n in
    rw is (far_steps read.ident read.decoder.setup read.decoder.shape (frames_of packets) n read.decoder.state text (omega (arith, below, count_is bytes packets index of)) (film_decodes bytes packets index read judged of made) far_read)

-- all frames were written, behind the head
pub exported : (bytes : List ℕ) (packets : List (List ℕ)) (index : Index) (film : Film) (text : List ℕ) → IsIndexOf bytes packets index → IsFilmOf index film → FilmIsFar film packets (frame_count index) text
    → IsExport packets (head_text (head_of_ident film.ident) ++ text)
unfolding y4m_of
exported bytes packets index film text of made far =
    let whole : take (frame_count index) (frames_of packets) ≡ frames_of packets = take_all (frame_count index) (frames_of packets) (omega (arith, count_is bytes packets index of)) in
    record {
      ident = film.ident;
      setup = film.decoder.setup;
      frames = far.frames;
      header = ap ident_of (sym of.ident) ∙ made.header;
      tables = ap setup_of (sym of.setup) ∙ made.tables;
      decoded = rw (whole, made.shape) at far.decoded;
      text_is = ap (λ t. head_text (head_of_ident film.ident) ++ t) far.text_is;
    }

-- frames lie in the shape of the picture's header
pub film_frame : (ident : Ident) (s : Shape) (f : Frame) → s ≡ announced_shape (header_of ident) → IsFrameOf s f → IsFrameOf (shape_of ident) f
film_frame ident s f is of = subst (λ (t : Shape). IsFrameOf t f) (is ∙ sym (announced (shape_of ident) (header_of ident) refl refl refl)) of

-- a film stays the same twice
pub stays_twice : (a b c : Film) → Stays a b → Stays b c → Stays a c
stays_twice a b c first second = record { ident = second.ident ∙ first.ident; setup = second.setup ∙ first.setup; shape = second.shape ∙ first.shape }

-- what reads and pieces for an output leave
pub grown_inputs : (old new : Meaning) (id : ℕ) (came : List ℕ) → Grows old new id came → new.inputs ≡ old.inputs
grown_inputs old new id came grows = ap {A = Meaning} (λ m. m.inputs) grows.grown

pub grown_found : (old new : Meaning) (id : ℕ) (came : List ℕ) → Grows old new id came → new.found ≡ old.found
grown_found old new id came grows = ap {A = Meaning} (λ m. m.found) grows.grown

pub grown_made : (old new : Meaning) (id : ℕ) (came : List ℕ) → Grows old new id came → new.made ≡ old.made
grown_made old new id came grows = ap {A = Meaning} (λ m. m.made) grows.grown

-- an index stays that of its input while the inputs stay
pub loaded_over : (old new : Meaning) (index : Index) → new.inputs ≡ old.inputs → IsLoadedFrom old index.input index → IsLoadedFrom new index.input index
loaded_over old new index same loaded = (refl, λ files told. loaded.1 files (sym same ∙ told))

-- the status of a fault of writing
pub writing_only : (status : Status) (fault : DeskFault) → status ≡ writing_status fault → IsExporting status
writing_only status Failed is = rw is tt
writing_only status NoRoom is = rw is tt

pub writing_not_changed : {A : Type 0} (status : Status) (fault : DeskFault) → status ≡ writing_status fault → IsErrOf {T = A} (Err status) Changed → ⊥
writing_not_changed status Failed is e = cc
writing_not_changed status NoRoom is e = cc

pub writing_not_read : {A : Type 0} (status : Status) (fault : DeskFault) → status ≡ writing_status fault → IsErrOf {T = A} (Err status) ReadFault → ⊥
writing_not_read status Failed is e = cc
writing_not_read status NoRoom is e = cc

pub writing_rose : {A B : Type 0} (before now : ℕ) (status : Status) (fault : DeskFault) → status ≡ writing_status fault → HasCause {A = B} before now (Err fault) → IsErrOf {T = A} (Err status) WriteFault → Rose before now
writing_rose before now status Failed is cause e = cause.failed refl
writing_rose before now status NoRoom is cause e = absurd cc

-- an output was not created
pub created_none : (old new : Meaning) (name : List ℕ) (fault : DeskFault) → Creates old new name (Err fault) → MakesAtMost old new name
created_none old new name Failed creates = inl (record { outputs = ap {A = Meaning} (λ m. m.outputs) creates; asked_for = inr (ap {A = Meaning} (λ m. m.named) creates) })
created_none old new name NoRoom creates = inl (record { outputs = ap {A = Meaning} (λ m. m.outputs) creates; asked_for = inl (ap {A = Meaning} (λ m. m.named) creates) })
