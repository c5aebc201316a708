use Rattle.std.proofs.Common.{◌≡◌, ◌∙◌, ◌++◌, true, List, ℕ, Option, length, map, replicate, ap, subst}
use Rattle.vid_geom.specs.MacroBlocks.{macro_blocks}
use Rattle.thr_setup.specs.Setup.{contents}
use Rattle.thr_modes.specs.Vectors.{offset_of}
use Rattle.thr_frame.specs.CodedFrame.{intra_mode}
use Rattle.thr_frame.specs.Rebuilt.{Pair}
use Rattle.thr_frame.specs.Step.{is_key, state_of}
use Rattle.enc_frame.specs.Drafted.{IsDraft}
use Rattle.enc_frame.specs.Encoding.{Encoding, Leads, added}
use Rattle.enc_frame.specs.Near.{Near}
use Rattle.enc_frame.proofs.AddedLemmas.{added_is}
use Rattle.enc_frame.proofs.NearLemmas.{near_key}
use Rattle.enc_frame.proofs.StateLemmas.{leads_always}
use Rattle.enc_frame.proofs.encoder.Encoder.key.Goals as goal

pub returns-clause-near : goal.returns-clause-near
returns-clause-near c = λ state.
    let e = c.self.inside in
    let target = c.args.target.now in
    let qi = c.args.qi in
    let out = c.args.out.now.items in
    let items = c.in_ok-packet.packet.items in
    let modes = e.whole.modes.items in
    let vectors = map offset_of e.whole.vectors.items in
    let whole : added out c.take.new.out.items ≡ items = added_is out c.take.new.out.items items (c.in_ok-take.ensures.appended ∙ ap (λ (l : List ℕ). out ++ l) c.deref-4.ensures.value) in
    let refs : Pair = record { prev = target; golden = target } in
    let draft : IsDraft (contents e.setup) e.geom refs target true qi modes vectors items = rw (c.deref.ensures.value, c.deref-2.ensures.value) at c.in_ok-packet.ensures.draft in
    rw whole (subst (λ (v : Encoding). Near v.setup v.shape state target qi items) c.self.view_is (near_key (contents e.setup) e.geom refs state target qi modes vectors items draft c.self.invariant.2.modes))

pub returns-clause-step : goal.returns-clause-step
returns-clause-step c = λ state.
    let e = c.self.inside in
    let out = c.args.out.now.items in
    let items = c.in_ok-packet.packet.items in
    let whole : added out c.take.new.out.items ≡ items = added_is out c.take.new.out.items items (c.in_ok-take.ensures.appended ∙ ap (λ (l : List ℕ). out ++ l) c.deref-4.ensures.value) in
    let own : Leads (contents e.setup) e.geom (state_of e.store) items c.take.new.self.state = rw c.deref-4.ensures.value at c.in_ok-take.ensures.leads in
    rw whole (subst (λ (v : Encoding). Leads v.setup v.shape state items c.take.new.self.state) c.self.view_is (leads_always (contents e.setup) e.geom (state_of e.store) state items c.take.new.self.state c.in_ok-packet.ensures.draft.is own))
