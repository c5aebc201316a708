use Rattle.std.proofs.Common.{◌≡◌, ◌-◌, ◌++◌, length, arith, ap, sym, ◌∙◌}
use Rattle.std.proofs.lemmas.List.{append-nil}
use Rattle.vid_base.specs.Bits.{digits, zeros, to_byte}
use Rattle.vid_base.proofs.WriterLemmas.{filled, view_length, whole_length}
use Rattle.vid_base.proofs.writer.BitWriter.finish.Goals as goal

pub returns-then-self-gt0 : goal.returns-then-self-gt0
returns-then-self-gt0 c =
    let wanting : 8 - c.self.inside.count ≡ to_byte (length c.args.self) = view_length c.self.inside.bytes.items c.self.inside.count c.self.inside.part c.args.self c.self.view_is (omega arith) (omega arith) in
    rw (← wanting, c.add_byte.ensures.items) (filled c.self.inside.bytes.items c.self.inside.count c.self.inside.part (omega arith) ∙ ap (λ s. s ++ zeros (8 - c.self.inside.count)) c.self.view_is)

pub returns-else-self-gt0 : goal.returns-else-self-gt0
unfolding zeros digits
returns-else-self-gt0 c =
    let none : c.self.inside.count ≡ 0 = omega arith in
    let is_all = rw none at c.self.view_is in
    let wanting : to_byte (length c.args.self) ≡ 0 = whole_length c.self.inside.bytes.items c.args.self (sym (append-nil _) ∙ is_all) in
    rw wanting (sym (append-nil _) ∙ is_all ∙ sym (append-nil _))
