use Rattle.std.proofs.Common.{◌∙◌, Result, Ok, ap, sym}
use Rattle.vid_base.specs.declared.fault.PacketFault.{PacketFault}
use Rattle.vid_base.specs.Reading.{◌>>=◌}
use Rattle.thr_setup.specs.Setup.{contents}
use Rattle.thr_frame.specs.CodedFrame.{CodedFrame}
use Rattle.thr_frame.specs.Rebuilt.{Pair, pair_in}
use Rattle.thr_frame.specs.Step.{behind}
use Rattle.thr_frame.specs.Decoding.{decoded}
use Rattle.enc_frame.proofs.showing.show.Goals as goal

pub returns-clause-value : goal.returns-clause-value
unfolding decoded
returns-clause-value c =
    let shown : CodedFrame → Result Pair PacketFault = λ f. Ok (behind (contents c.args.setup.now) c.args.geom.now (pair_in c.args.store.now) f) in
    ap (λ (x : Result CodedFrame PacketFault). x >>= shown) c.parse.ensures.value ∙ ap (λ (p : Pair). Ok p) (sym c.rebuild_frame.ensures.pair)
