use Rattle.std.proofs.Common.{◌≡◌, ◌∙◌, ◌+◌, ◌++◌, ap, arith, length, append_assoc}
use Rattle.std.proofs.lemmas.Grind.{common_steps}
use Rattle.y4m_io.specs.Pictures.{samples_of}
use Rattle.y4m_io.specs.Y4m.{frame_text}
use Rattle.y4m_io.proofs.PictureLemmas.{luma_most, chroma_most}
use Rattle.y4m_io.proofs.writing.write_frame.Goals as goal

pub overflow_add-len-3 : goal.overflow_add-len-3
overflow_add-len-3 c =
    let p = c.args.p.now in
    search (arith, luma_most p.w p.h p.pf c.requires.size, chroma_most p.w p.h p.pf c.requires.size, c.requires.whole.y)

pub returns-in_err-try_reserve-clause-full : goal.returns-in_err-try_reserve-clause-full
unfolding frame_text
returns-in_err-try_reserve-clause-full c =
    let p = c.args.p.now in
    let long : length (frame_text (samples_of p)) ≡ 6 + length p.y.items + length p.cb.items + length p.cr.items = grind (arith, common_steps) in
    grind (arith, common_steps, long)

pub returns-clause-written : goal.returns-clause-written
unfolding frame_text
returns-clause-written c =
    let p = c.args.p.now in
    let y = c.add-2.ensures.items ∙ ap (λ l. c.add.new.out.items ++ l) c.deref.ensures.value in
    let cb = c.add-3.ensures.items ∙ ap (λ l. c.add-2.new.out.items ++ l) c.deref-2.ensures.value in
    let cr = c.add-4.ensures.items ∙ ap (λ l. c.add-3.new.out.items ++ l) c.deref-3.ensures.value in
    rw (cr, cb, y, c.add.ensures.items, c.in_ok-try_reserve.ensures.items) (simp append_assoc)
