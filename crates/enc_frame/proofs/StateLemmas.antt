-- A packet with bytes taken from a state: what it says there, and which state it leads to. The calls of `Encoder` cite these.
use Rattle.std.proofs.Common.{◌≡◌, ◌∙◌, ◌&&◌, not, ℕ, ◌<◌, Bool, true, false, List, [], ◌∷◌, Option, Some, None, Result, Ok, Err, is_some, refl, sym, ap, length, arith, if◌then◌else◌}
use Rattle.vid_base.specs.declared.shape.Shape.{Shape}
use Rattle.vid_base.specs.declared.fault.PacketFault.{PacketFault}
use Rattle.vid_base.specs.declared.fault.PacketFault.TheVariants.{FirstNotKey}
use Rattle.vid_base.specs.Reading.{◌>>=◌}
use Rattle.vid_plane.specs.Frames.{References}
use Rattle.thr_setup.specs.Setup.{Contents}
use Rattle.thr_frame.specs.CodedFrame.{CodedFrame}
use Rattle.thr_frame.specs.Parsed.{coded_in, frame_in, needs_frame, packet_in}
use Rattle.thr_frame.specs.Rebuilt.{Pair, pair_in}
use Rattle.thr_frame.specs.Step.{behind, is_key, next_state, pair_of, state_of, step}
use Rattle.thr_frame.specs.Decoding.{decoded}
use Rattle.thr_frame.specs.Ready.{IsStore}
use Rattle.thr_frame.proofs.IntraLemmas.{key_step}
use Rattle.enc_frame.specs.Encoding.{Leads}

-- what a packet says where it does not need a frame that is not there
pub frame_says : (setup : Contents) (s : Shape) (started : Bool) (packet : List ℕ) (c : CodedFrame) → (not started && needs_frame packet) ≡ false → 0 < length packet → coded_in setup s packet ≡ Ok c
    → frame_in setup s started packet ≡ Ok (Some c)
unfolding frame_in packet_in
frame_says setup s started [] c has some says = absurd (omega arith)
frame_says setup s started (byte ∷ bytes) c has some says = rw (has, says) refl

-- what a state tells of the frames that it is of
state_started : (r : References) → is_some (state_of r) ≡ r.started
state_started r = go r.started
  where
    go : (b : Bool) → is_some (if b then Some (pair_in r) else None) ≡ b
    go true = refl
    go false = refl

state_pair : (s : Shape) (r : References) → IsStore s r → pair_of s (state_of r) ≡ pair_in r
state_pair s r is = go r.started is.fresh
  where
    go : (b : Bool) → (b ≡ false → pair_in r ≡ pair_of s None) → pair_of s (if b then Some (pair_in r) else None) ≡ pair_in r
    go true h = refl
    go false h = sym (h refl)

pub state_some : (r : References) → is_some (state_of r) ≡ true → state_of r ≡ Some (pair_in r)
state_some r some = go r.started (sym (state_started r) ∙ some)
  where
    go : (b : Bool) → b ≡ true → (if b then Some (pair_in r) else None) ≡ Some (pair_in r)
    go true e = refl
    go false e = absurd cc

-- a frame is there where one is needed
pub has_frame : (r : References) (needs : Bool) → (needs ≡ true → is_some (state_of r) ≡ true) → (not r.started && needs) ≡ false
has_frame r true h = ap (λ b. not b && true) (sym (state_started r) ∙ h refl)
has_frame r false h = none (not r.started)
  where
    none : (b : Bool) → (b && false) ≡ false
    none true = refl
    none false = refl

-- what a packet says was decoded
record Said (setup : Contents) (s : Shape) (refs : Pair) (packet : List ℕ) (next : Pair) : Type 0 where
  coded : CodedFrame
  says : coded_in setup s packet ≡ Ok coded
  shows : behind setup s refs coded ≡ next

said : (setup : Contents) (s : Shape) (refs : Pair) (packet : List ℕ) (next : Pair) → decoded setup s refs packet ≡ Ok next → Said setup s refs packet next
unfolding decoded
said setup s refs packet next e = go (coded_in setup s packet) refl e
  where
    go : (x : Result CodedFrame PacketFault) → coded_in setup s packet ≡ x → (x >>= (λ c. Ok (behind setup s refs c))) ≡ Ok next → Said setup s refs packet next
    go (Ok c) was h = record { coded = c; says = was; shows = cc }
    go (Err f) was h = absurd cc

-- the state behind it
pub leads : (setup : Contents) (s : Shape) (r q : References) (packet : List ℕ) → IsStore s r → 0 < length packet → (not r.started && needs_frame packet) ≡ false
    → decoded setup s (pair_in r) packet ≡ Ok (pair_in q) → q.started ≡ true → Leads setup s (state_of r) packet (state_of q)
unfolding step
leads setup s r q packet is some has e started =
    let d = said setup s (pair_in r) packet (pair_in q) e in
    let says : frame_in setup s (is_some (state_of r)) packet ≡ Ok (Some d.coded) = frame_says setup s (is_some (state_of r)) packet d.coded (ap (λ b. not b && needs_frame packet) (state_started r) ∙ has) some d.says in
    record {
      pair = pair_in q;
      steps = ap (λ (x : Result (Option CodedFrame) PacketFault). x >>= (λ coded. Ok (next_state setup s (state_of r) coded))) says ∙ ap (λ (p : Pair). Ok (behind setup s p d.coded)) (state_pair s r is) ∙ ap (λ (p : Pair). Ok p) d.shows;
      becomes = rw started refl;
    }

-- a key packet leads there from every state
pub leads_always : (setup : Contents) (s : Shape) (a b : Option Pair) (packet : List ℕ) (next : Option Pair) → is_key packet ≡ true → Leads setup s a packet next → Leads setup s b packet next
leads_always setup s a b packet next key l = record { pair = l.pair; steps = key_step setup s b a packet key ∙ l.steps; becomes = l.becomes }
