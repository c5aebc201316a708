use Rattle.std.proofs.Common.{◌≡◌, ◌∙◌, ◌++◌, List, ℕ, [], length, refl, ap, sym, subst, arith, length-append}
use Rattle.std.proofs.lemmas.List.{append-nil}
use Rattle.y4m_io.specs.Generator.{generated_head}
use Rattle.y4m_io.specs.Y4m.{head_text}
use Rattle.cut_desk.specs.Making.{Adds, IsMaking}
use Rattle.cut_desk.specs.Outputs.{Makes}
use Rattle.cut_desk.proofs.MakingLemmas.{adds_none, making_more, makes_of}
use Rattle.cut_make.specs.Films.{film_text}
use Rattle.cut_make.specs.Makers.{AddsPart, frames_text}
use Rattle.cut_make.proofs.FilmLemmas.{film_is}
use Rattle.cut_make.proofs.PartLemmas.{making_new, making_part, part_behind}
use Rattle.cut_make.proofs.making.make.Goals as goal

pub returns-in-Err-add_head-clause-part : goal.returns-in-Err-add_head-clause-part
returns-in-Err-add_head-clause-part g c =
    let film = c.args.film.now in
    let head : List ℕ = head_text (generated_head film.w film.h) in
    let created : IsMaking (g.D.Desk.sees c.args.desk.now) (g.D.Desk.sees c.create.new.self) c.in-Ok-create.id c.args.out.now [] = making_new _ _ c.in-Ok-create.id c.args.out.now c.in-Ok-create.ensures.made c.create.ensures.cause.later in
    let part : AddsPart (g.D.Desk.sees c.create.new.self) (g.D.Desk.sees c.add_head.new.desk) c.in-Ok-create.id head = rw c.in-Ok.ensures.film at c.in-Err-add_head.ensures.part in
    let whole : AddsPart (g.D.Desk.sees c.create.new.self) (g.D.Desk.sees c.add_head.new.desk) c.in-Ok-create.id (film_text film) =
    part_behind _ (g.D.Desk.sees c.create.new.self) _ c.in-Ok-create.id [] head (frames_text film film.frames) (film_text film) (adds_none _ (g.D.Desk.sees c.create.new.self) c.in-Ok-create.id refl (omega arith)) part (film_is film) in
    making_part (g.D.Desk.sees c.args.desk.now) (g.D.Desk.sees c.create.new.self) (g.D.Desk.sees c.add_head.new.desk) c.in-Ok-create.id c.args.out.now [] (film_text film) created whole

pub returns-in-Ok-add_frames-clause-written : goal.returns-in-Ok-add_frames-clause-written
returns-in-Ok-add_frames-clause-written g c =
    let film = c.args.film.now in
    let head : List ℕ = head_text (generated_head film.w film.h) in
    let created : IsMaking (g.D.Desk.sees c.args.desk.now) (g.D.Desk.sees c.create.new.self) c.in-Ok-create.id c.args.out.now [] = making_new _ _ c.in-Ok-create.id c.args.out.now c.in-Ok-create.ensures.made c.create.ensures.cause.later in
    let first : Adds (g.D.Desk.sees c.create.new.self) (g.D.Desk.sees c.add_head.new.desk) c.in-Ok-create.id head = rw c.in-Ok.ensures.film at c.in-Ok-add_head.ensures.added in
    let frames : Adds (g.D.Desk.sees c.add_head.new.desk) (g.D.Desk.sees c.add_frames.new.desk) c.in-Ok-create.id (frames_text film film.frames) = rw (c.in-Ok-add_head.ensures.film, c.in-Ok.ensures.film) at c.in-Ok-add_frames.ensures.added in
    let made = makes_of _ _ c.in-Ok-create.id c.args.out.now _ (making_more _ _ _ c.in-Ok-create.id c.args.out.now _ (frames_text film film.frames) (making_more _ _ _ c.in-Ok-create.id c.args.out.now [] head created first) frames) in
    subst (λ (t : List ℕ). Makes (g.D.Desk.sees c.args.desk.now) (g.D.Desk.sees c.add_frames.new.desk) c.args.out.now t) (sym (film_is film)) made

pub returns-in-Ok-add_frames-clause-bytes : goal.returns-in-Ok-add_frames-clause-bytes
returns-in-Ok-add_frames-clause-bytes g c =
    let film = c.args.film.now in
    let head : List ℕ = head_text (generated_head film.w film.h) in
    let first : c.in-Ok-add_head.bytes ≡ length head = rw c.in-Ok.ensures.film at c.in-Ok-add_head.ensures.bytes in
    let frames : c.in-Ok-add_frames.bytes ≡ length (frames_text film film.frames) = rw (c.in-Ok-add_head.ensures.film, c.in-Ok.ensures.film) at c.in-Ok-add_frames.ensures.bytes in
    omega (arith, first, frames, ap length (film_is film), length-append head (frames_text film film.frames))

pub returns-clause-part : goal.returns-clause-part
returns-clause-part g c =
    let film = c.args.film.now in
    let head : List ℕ = head_text (generated_head film.w film.h) in
    let created : IsMaking (g.D.Desk.sees c.args.desk.now) (g.D.Desk.sees c.create.new.self) c.in-Ok-create.id c.args.out.now [] = making_new _ _ c.in-Ok-create.id c.args.out.now c.in-Ok-create.ensures.made c.create.ensures.cause.later in
    let first : Adds (g.D.Desk.sees c.create.new.self) (g.D.Desk.sees c.add_head.new.desk) c.in-Ok-create.id head = rw c.in-Ok.ensures.film at c.in-Ok-add_head.ensures.added in
    let frames : AddsPart (g.D.Desk.sees c.add_head.new.desk) (g.D.Desk.sees c.add_frames.new.desk) c.in-Ok-create.id (frames_text film film.frames) = rw (c.in-Ok-add_head.ensures.film, c.in-Ok.ensures.film) at c.in-Err-add_frames.ensures.part in
    let whole : AddsPart (g.D.Desk.sees c.create.new.self) (g.D.Desk.sees c.add_frames.new.desk) c.in-Ok-create.id (film_text film) =
    part_behind _ (g.D.Desk.sees c.add_head.new.desk) _ c.in-Ok-create.id head (frames_text film film.frames) [] (film_text film) first frames (film_is film ∙ sym (append-nil (head ++ frames_text film film.frames))) in
    making_part (g.D.Desk.sees c.args.desk.now) (g.D.Desk.sees c.create.new.self) (g.D.Desk.sees c.add_frames.new.desk) c.in-Ok-create.id c.args.out.now [] (film_text film) created whole
