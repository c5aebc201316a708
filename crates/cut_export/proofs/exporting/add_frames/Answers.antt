use Rattle.std.proofs.Common.{◌≡◌, ◌∙◌, ◌++◌, ℕ, [], refl, subst, arith}
use Rattle.src_index.specs.Index.{frame_count}
use Rattle.cut_desk.proofs.GrowingLemmas.{grows_none, grows_onto, grows_twice}
use Rattle.cut_export.specs.Films.{FilmIsFar}
use Rattle.cut_export.proofs.FilmLemmas.{far_none, grown_found, grown_inputs, grown_made, loaded_over, stays_twice}
use Rattle.cut_export.proofs.exporting.add_frames.Goals as goal

pub frames-init : goal.frames-init
frames-init g c = record {
  came = [];
  grows = grows_none (g.D.Desk.sees c.args.desk.now) c.args.id;
  film_of = c.requires.film;
  stays = record { ident = refl; setup = refl; shape = refl };
  far = λ files told packets judged. rw c.requires.state (far_none _ _ _ _);
}

pub add_frame-requires-clause-id : goal.add_frame-requires-clause-id
add_frame-requires-clause-id g c = omega (arith, c.requires.id, grown_made _ _ c.args.id _ c.frames.invariant.grows)

pub add_frame-requires-clause-input : goal.add_frame-requires-clause-input
add_frame-requires-clause-input g c = omega (arith, c.requires.input, grown_found _ _ c.args.id _ c.frames.invariant.grows)

pub add_frame-requires-clause-made : goal.add_frame-requires-clause-made
add_frame-requires-clause-made g c = loaded_over (g.D.Desk.sees c.args.desk.now) (g.D.Desk.sees c.frames.desk) c.args.source.now (grown_inputs _ _ c.args.id _ c.frames.invariant.grows) c.requires.made

pub returns-in-Err-clause-part : goal.returns-in-Err-clause-part
returns-in-Err-clause-part g c = grows_onto _ _ _ c.args.id c.frames.invariant.came c.frames.invariant.grows c.in-Err.ensures.part

pub returns-in-Err-clause-stays : goal.returns-in-Err-clause-stays
returns-in-Err-clause-stays g c = stays_twice _ _ _ c.frames.invariant.stays c.in-Err.ensures.stays

pub returns-in-Err-clause-never : goal.returns-in-Err-clause-never
returns-in-Err-clause-never g c = λ files told err.
    let indexed = c.requires.made.1 files told in
    c.in-Err.ensures.never files (grown_inputs _ _ c.args.id _ c.frames.invariant.grows ∙ told) indexed.packets indexed.judged c.frames.invariant.came (c.frames.invariant.far files told indexed.packets indexed.judged) err

pub returns-in-Err-clause-read : goal.returns-in-Err-clause-read
returns-in-Err-clause-read g c = λ err. omega (arith, c.in-Err.ensures.read err, c.frames.invariant.grows.read_later)

pub returns-in-Err-clause-write : goal.returns-in-Err-clause-write
returns-in-Err-clause-write g c = λ err. omega (arith, c.in-Err.ensures.write err, c.frames.invariant.grows.write_later)

pub frames-preserved : goal.frames-preserved
frames-preserved g c =
    let added = c.in-Ok.ensures.added in
    record {
      came = c.frames.invariant.came ++ added.0;
      grows = grows_twice _ _ _ c.args.id _ _ c.frames.invariant.grows added.1;
      film_of = c.in-Ok.ensures.film;
      stays = stays_twice _ _ _ c.frames.invariant.stays c.in-Ok.ensures.stays;
      far = λ files told packets judged. added.2 files (grown_inputs _ _ c.args.id _ c.frames.invariant.grows ∙ told) packets judged c.frames.invariant.came (c.frames.invariant.far files told packets judged);
    }

pub returns-clause-added : goal.returns-clause-added
returns-clause-added g c =
    let all : c.frames.n ≡ frame_count c.args.source.now = omega arith in (
      c.frames.invariant.came,
      c.frames.invariant.grows,
      λ files told packets judged. subst (λ (n : ℕ). FilmIsFar c.frames.film packets n c.frames.invariant.came) all (c.frames.invariant.far files told packets judged),
    )
