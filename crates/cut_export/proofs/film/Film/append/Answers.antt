use Rattle.std.proofs.Common.{◌≡◌, ◌++◌, List, ℕ, sym, subst}
use Rattle.std.proofs.lemmas.List.{append_assoc}
use Rattle.y4m_io.specs.Pictures.{samples_of}
use Rattle.y4m_io.specs.Y4m.{frame_line, frame_text}
use Rattle.cut_desk.specs.Growing.{Grows}
use Rattle.cut_desk.proofs.GrowingLemmas.{grows_onto, grows_twice}
use Rattle.cut_export.proofs.film.Film.append.Goals as goal

pub returns-in-Ok-add_both-clause-added : goal.returns-in-Ok-add_both-clause-added
unfolding frame_text
returns-in-Ok-add_both-clause-added g c =
    let p = samples_of c.args.self.now.picture in
    let joined : frame_line ++ c.deref.result.now ++ (c.deref-2.result.now ++ c.deref-3.result.now) ≡ frame_text p =
    rw (c.deref.ensures.value, c.deref-2.ensures.value, c.deref-3.ensures.value) (sym (append_assoc (frame_line ++ p.y) p.cb p.cr)) in
    subst (λ (text : List ℕ). Grows (g.D.Desk.sees c.args.desk.now) (g.D.Desk.sees c.add_both-2.new.desk) c.args.id text) joined
    (grows_twice _ _ _ c.args.id _ _ c.in-Ok.ensures.added c.in-Ok-add_both.ensures.added)

pub returns-in-Err-add_both-clause-part : goal.returns-in-Err-add_both-clause-part
returns-in-Err-add_both-clause-part g c = grows_onto _ _ _ c.args.id _ c.in-Ok.ensures.added c.in-Err-add_both.ensures.part
