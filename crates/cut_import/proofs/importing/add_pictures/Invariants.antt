use Rattle.std.proofs.Common.{◌≡◌, ◌-◌, ◌^◌, ◌≤◌, ◌++◌, List, ℕ, Option, None, length}
use Rattle.vid_desk.specs.Meaning.{Told}
use Rattle.ogg_mux.specs.Muxing.{rest_of}
use Rattle.y4m_io.specs.Pictures.{IsPictureOf, Samples, samples_of}
use Rattle.y4m_io.specs.Progress.{Follow, IsOfInput, StaysIn, progress_of}
use Rattle.y4m_io.specs.Reading.{Departure}
use Rattle.cut_desk.specs.Growing.{Grows}
use Rattle.cut_import.specs.Importers.{IsAt, IsImporter, Stays}
use Rattle.cut_import.proofs.CodeLemmas.{Join}
use Rattle.cut_import.proofs.importing.add_pictures.Given as goal

-- the pictures so far were read and coded, and of their pages those that were ready came to the output
abbrev pub invariant-pictures : goal.invariant-pictures
invariant-pictures g l = record {
  read : List Samples;
  coded : List (List ℕ);
  came : List ℕ;
  grows : Grows (g.D.Desk.sees l.fn.desk) (g.D.Desk.sees l.desk) l.id came;
  pages : (more : List (List ℕ)) → came ++ rest_of l.importer.mux more ≡ rest_of l.fn.importer.mux (coded ++ more);
  join : Join l.fn.importer.encoder.shape l.fn.importer.qi l.fn.importer.keys l.fn.importer.encoder.state l.importer.encoder.state l.frames read coded;
  count : l.frames ≡ length read;
  made : IsImporter l.importer;
  at : IsAt l.frames l.importer;
  stays : Stays l.fn.importer l.importer;
  behind : (progress_of l.y4m).frames ≡ l.frames;
  few : l.frames ≤ 2 ^ 24;
  same : StaysIn (progress_of l.fn.y4m) (progress_of l.y4m);
  sound : (progress_of l.y4m).bad ≡ None;
  of_input : IsOfInput (g.D.Desk.sees l.desk) (progress_of l.y4m);
  shown : IsPictureOf l.y4m.head.w l.y4m.head.h l.y4m.head.pf (samples_of l.picture);
  follows : Told (g.D.Desk.sees l.fn.desk) (progress_of l.fn.y4m).input (λ bytes. (more : List Samples) (bad : Option Departure) → Follow (progress_of l.y4m) bytes more bad → Follow (progress_of l.fn.y4m) bytes (read ++ more) bad);
}

abbrev pub decreases-pictures : goal.decreases-pictures
decreases-pictures g l = 2 ^ 24 - l.frames
