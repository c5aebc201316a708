use Rattle.std.proofs.Common.{◌≡◌, ◌∙◌, ◌++◌, false, true, List, ℕ, Option, Some, is_some, map, ap, subst, sym}
use Rattle.vid_plane.specs.declared.frame.Frame.{Frame}
use Rattle.thr_setup.specs.Setup.{contents}
use Rattle.thr_modes.specs.Vectors.{offset_of}
use Rattle.thr_frame.specs.Rebuilt.{Pair}
use Rattle.thr_frame.specs.Step.{state_of}
use Rattle.enc_frame.specs.Drafted.{IsDraft}
use Rattle.enc_frame.specs.Encoding.{Encoding, added}
use Rattle.enc_frame.specs.Near.{Near}
use Rattle.enc_frame.proofs.AddedLemmas.{added_is}
use Rattle.enc_frame.proofs.NearLemmas.{near_inter}
use Rattle.enc_frame.proofs.StateLemmas.{state_some}
use Rattle.enc_frame.proofs.encoder.Encoder.inter.Goals as goal

pub returns-clause-near : goal.returns-clause-near
returns-clause-near c =
    let e = c.self.inside in
    let target = c.args.target.now in
    let qi = c.args.qi in
    let out = c.args.out.now.items in
    let items = c.in_ok-packet.packet.items in
    let modes = c.in_ok-choice.choice.modes.items in
    let vectors = map offset_of c.in_ok-choice.choice.vectors.items in
    let whole : added out c.take.new.out.items ≡ items = added_is out c.take.new.out.items items (c.in_ok-take.ensures.appended ∙ ap (λ (l : List ℕ). out ++ l) c.deref-4.ensures.value) in
    let refs : Pair = record { prev = c.prev-prev.result.now; golden = c.golden-golden.result.now } in
    let draft : IsDraft (contents e.setup) e.geom refs target false qi modes vectors items = rw (c.deref.ensures.value, c.deref-2.ensures.value) at c.in_ok-packet.ensures.draft in
    let near = near_inter (contents e.setup) e.geom refs target qi modes vectors items draft c.in_ok-choice.ensures.searched in
    let some = subst (λ (v : Encoding). is_some v.state ≡ true) (sym c.self.view_is) c.requires.state in
    let own : Some refs ≡ state_of e.store =
    ap (λ (f : Frame). let p : Pair = record { prev = f; golden = c.golden-golden.result.now } in Some p) c.prev-prev.ensures ∙ ap (λ (f : Frame). let p : Pair = record { prev = e.store.prev; golden = f } in Some p) c.golden-golden.ensures ∙ sym (state_some e.store some) in
    rw whole (subst (λ (v : Encoding). Near v.setup v.shape v.state target qi items) c.self.view_is (subst (λ (state : Option Pair). Near (contents e.setup) e.geom state target qi items) own near))
