use Rattle.std.proofs.Common.{◌≡◌, ◌∙◌, ◌+◌, ◌++◌, ◌≤◌, List, ℕ, length, refl, ap, sym, subst, arith, length-append}
use Rattle.y4m_io.specs.Y4m.{frame_text}
use Rattle.cut_desk.specs.Making.{Adds}
use Rattle.cut_desk.proofs.MakingLemmas.{adds_none, adds_twice}
use Rattle.cut_make.specs.Makers.{AddsPart, frame_of, frames_text}
use Rattle.cut_make.proofs.FilmLemmas.{frames_begin, frames_more}
use Rattle.cut_make.proofs.PartLemmas.{part_behind}
use Rattle.cut_make.proofs.making.add_frames.Goals as goal

pub frames-init : goal.frames-init
frames-init g c = record {
  adds = adds_none (g.D.Desk.sees c.args.desk.now) (g.D.Desk.sees c.args.desk.now) c.args.id refl (omega arith);
  size = refl;
  few = omega arith;
  ready = c.requires.maker;
  same = refl;
}

pub returns-in-Err-clause-part : goal.returns-in-Err-clause-part
returns-in-Err-clause-part g c =
    let film = c.args.maker.now.film in
    let below : c.frames.n + 1 ≤ film.frames = omega arith in
    let later = frames_begin film (c.frames.n + 1) film.frames below in
    let part : AddsPart (g.D.Desk.sees c.frames.desk) (g.D.Desk.sees c.add_frame.new.desk) c.args.id (frame_text (frame_of film c.frames.n)) = rw c.frames.invariant.same at c.in-Err.ensures.part in
    part_behind (g.D.Desk.sees c.args.desk.now) (g.D.Desk.sees c.frames.desk) (g.D.Desk.sees c.add_frame.new.desk) c.args.id (frames_text film c.frames.n) (frame_text (frame_of film c.frames.n)) later.0 (frames_text film film.frames) c.frames.invariant.adds part
    (later.1 ∙ ap (λ t. t ++ later.0) (frames_more film c.frames.n))

pub frames-preserved : goal.frames-preserved
frames-preserved g c =
    let film = c.args.maker.now.film in
    let more : frames_text film (c.frames.n + 1) ≡ frames_text film c.frames.n ++ frame_text (frame_of film c.frames.n) = frames_more film c.frames.n in
    let added : Adds (g.D.Desk.sees c.frames.desk) (g.D.Desk.sees c.add_frame.new.desk) c.args.id (frame_text (frame_of film c.frames.n)) = rw c.frames.invariant.same at c.in-Ok.ensures.added in
    let count : c.in-Ok.count ≡ length (frame_text (frame_of film c.frames.n)) = rw c.frames.invariant.same at c.in-Ok.ensures.bytes in
    record {
      adds = subst (λ (t : List ℕ). Adds (g.D.Desk.sees c.args.desk.now) (g.D.Desk.sees c.add_frame.new.desk) c.args.id t) (sym more)
          (adds_twice (g.D.Desk.sees c.args.desk.now) (g.D.Desk.sees c.frames.desk) (g.D.Desk.sees c.add_frame.new.desk) c.args.id (frames_text film c.frames.n) (frame_text (frame_of film c.frames.n)) c.frames.invariant.adds added);
      size = omega (arith, ap length more, length-append (frames_text film c.frames.n) (frame_text (frame_of film c.frames.n)), c.frames.invariant.size, count);
      few = omega (arith, c.frames.invariant.few, c.in-Ok.ensures.few);
      ready = c.in-Ok.ensures.maker;
      same = c.in-Ok.ensures.film ∙ c.frames.invariant.same;
    }
