use Rattle.std.proofs.Common.{ap, sym, ◌∙◌, None, Some}
use Rattle.vid_desk.specs.Entry.{file_of}
use Rattle.vid_desk.proofs.FileLemmas.{last_of-map}
use Rattle.vid_desk.proofs.mem.MemDesk.output.Goals as goal

pub returns-in-None : goal.returns-in-None
returns-in-None c =
    let found = rw c.deref.ensures.value at c.in-None.ensures in
    record { value = last_of-map file_of c.self.inside.outputs.items c.args.name.now None c.args.self.now.outputs (ap (λ m. m.outputs) (sym c.self.view_is)) found }

pub returns-in-Some : goal.returns-in-Some
returns-in-Some c =
    let found = rw c.deref.ensures.value at c.in-Some.ensures in
    record { value = ap (λ bytes. Some bytes) c.deref-in-Some.ensures.value ∙ last_of-map file_of c.self.inside.outputs.items c.args.name.now (Some c.in-Some.output.now) c.args.self.now.outputs (ap (λ m. m.outputs) (sym c.self.view_is)) found }
