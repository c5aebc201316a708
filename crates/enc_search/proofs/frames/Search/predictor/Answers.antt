use Rattle.std.proofs.Common.{◌∙◌}
use Rattle.thr_modes.specs.Vectors.{offset_of}
use Rattle.thr_recon.specs.Predicted.{shown, predicted}
use Rattle.enc_search.specs.Views.{refs_of}
use Rattle.enc_search.proofs.LumaLemmas.{flat_luma, led_luma}
use Rattle.enc_search.proofs.frames.Search.predictor.Goals as goal

pub returns-then-mode-eq-INTRA : goal.returns-then-mode-eq-INTRA
unfolding shown
returns-then-mode-eq-INTRA c = flat_luma (refs_of c.args.self.now.frames) c.args.mode (offset_of c.args.vector) c.args.block c.if-mode-eq-INTRA.true

pub returns : goal.returns
unfolding predicted offset_of
returns c = c.predict.ensures ∙ rw c.reference.ensures.value (led_luma (refs_of c.args.self.now.frames) c.args.mode (offset_of c.args.vector) c.args.block c.if-mode-eq-INTRA.false)
