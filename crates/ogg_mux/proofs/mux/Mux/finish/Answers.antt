use Rattle.std.proofs.Common.{◌∙◌, ap, []}
use Rattle.ogg_mux.specs.Muxing.{rest_of}
use Rattle.ogg_mux.proofs.MuxLemmas.{finish_rest}
use Rattle.ogg_mux.proofs.mux.Mux.finish.Goals as goal

pub returns-clause-all : goal.returns-clause-all
returns-clause-all c =
    let i = c.self.inside in
    c.in_ok-write_last.ensures.written
    ∙ finish_rest (record { serial = i.serial; shift = i.shift; base = i.base; frames = i.frames; key = i.key; held = i.held; ready = i.ready.items; finished = i.finished })
    ∙ ap (λ m. rest_of m []) c.self.view_is
