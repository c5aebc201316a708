-- Head, motion and residue, one behind the other, are a frame, and their bytes are a packet that says it. `write_residue`, `write_fields`
-- and `write_packet` cite these.
use Rattle.std.proofs.Common.{◌≡◌, ◌∙◌, ℕ, ◌+◌, ◌/◌, ◌<◌, ◌≤◌, ◌^◌, Bool, true, false, not, List, [], ◌∷◌, ◌++◌, length, Ok, Err, refl, ap, sym, arith, append_assoc, length-append}
use Rattle.std.specs.Prelude.{◌==◌, ℤ}
use Rattle.std.specs.List.{All}
use Rattle.std.proofs.lemmas.Bool.Decides.{nat_tests}
use Rattle.std.proofs.lemmas.List.{length-replicate}
use Rattle.std.proofs.lemmas.List.Elements.{All-head}
use Rattle.vid_base.specs.declared.shape.Shape.{Shape}
use Rattle.vid_base.specs.declared.fault.PacketFault.TheVariants.{Ended}
use Rattle.vid_base.specs.Bits.{bit_of, bits_of, to_byte, zeros}
use Rattle.vid_base.specs.Reading.{◌>>=◌, one_bit}
use Rattle.vid_base.specs.Writing.{ReadsBack}
use Rattle.vid_base.proofs.DigitLemmas.{length-bits_of, length-zeros}
use Rattle.vid_geom.specs.CodedOrder.{order_of}
use Rattle.thr_setup.specs.Setup.{Contents}
use Rattle.thr_modes.specs.Vectors.{Offset}
use Rattle.thr_token.specs.Coefficients.{coefficients}
use Rattle.thr_dc.specs.Frames.{with_planes}
use Rattle.thr_dc.specs.Prediction.{undone}
use Rattle.thr_frame.specs.FrameHead.{head_of, head_with}
use Rattle.thr_frame.specs.QuantiserPlaces.{places_of, rounds}
use Rattle.thr_frame.specs.CodedFrame.{CodedFrame, kinds_of}
use Rattle.thr_frame.specs.Parsed.{coded_in, fields_of, is_inter, joined_fields, motion_of, needs_frame, parsed, residue_of, with_dc_values}
use Rattle.thr_frame.specs.Step.{is_key}
use Rattle.thr_frame.proofs.KeyLemmas.{head_intra, intra_is}
use Rattle.thr_frame.proofs.StepLemmas.{both}
use Rattle.enc_packet.specs.WholeFrame.{whole_frame, whole_residue}
use Rattle.enc_packet.proofs.MotionLemmas.{all_coded, any_coded}

-- the coefficients: there is one quantiser index, so no block says which is its own
pub residue_back : (setup : Contents) (s : Shape) (flags : List Bool) (values : List (List ℤ)) (counts : List ℕ) (old new : List Bool) → flags ≡ all_coded s
    → ReadsBack (coefficients setup.forest s flags) (values, counts) old new → ReadsBack (residue_of setup s 1 flags) (whole_residue s values counts) old new
unfolding residue_of places_of rounds
residue_back setup s flags values counts old new all tokens =
    let long : length flags ≡ length (order_of s) = ap length all ∙ length-replicate (length (order_of s)) true in
    record {
      more = tokens.more;
      added = tokens.added;
      reads = λ rest. rw (any_coded s flags all, tokens.reads rest, long) refl;
    }

-- all fields
pub fields_back : (setup : Contents) (s : Shape) (intra : Bool) (qi : ℕ) (flags : List Bool) (modes : List ℕ) (vectors : List Offset) (values : List (List ℤ)) (counts : List ℕ) (old one two new : List Bool)
    → flags ≡ all_coded s → ReadsBack head_of (head_with intra (qi ∷ [])) old one → ReadsBack (motion_of s intra) (record { flags = flags; modes = modes; vectors = vectors }) one two
    → ReadsBack (residue_of setup s 1 flags) (whole_residue s values counts) two new
    → ReadsBack (fields_of setup s) (whole_frame s intra qi modes vectors values counts) old new
unfolding fields_of
fields_back setup s intra qi flags modes vectors values counts old one two new all head motion residue = record {
  more = head.more ++ (motion.more ++ residue.more);
  added = rw (residue.added, motion.added, head.added) (simp append_assoc);
  reads = λ rest.
      rw (append_assoc head.more (motion.more ++ residue.more) rest, head.reads ((motion.more ++ residue.more) ++ rest), append_assoc motion.more residue.more rest, motion.reads (residue.more ++ rest), residue.reads rest, all) refl;
}

-- a packet of these bits, and 0 bits up to a whole byte, says the frame
pub packet_says : (setup : Contents) (s : Shape) (intra : Bool) (qi : ℕ) (modes : List ℕ) (vectors : List Offset) (values plain : List (List ℤ)) (counts : List ℕ) (bits : List Bool) (packet : List ℕ) (k : ℕ)
    → ReadsBack (fields_of setup s) (whole_frame s intra qi modes vectors values counts) [] bits → bits_of packet ≡ bits ++ zeros k
    → with_planes undone s (all_coded s) (kinds_of s modes) values ≡ plain → coded_in setup s packet ≡ Ok (whole_frame s intra qi modes vectors plain counts)
unfolding coded_in parsed with_dc_values
packet_says setup s intra qi modes vectors values plain counts bits packet k back is undo = rw (is, back.added, back.reads (zeros k), undo) refl

-- such a packet has a byte, since none says nothing
nothing_said : (setup : Contents) (s : Shape) → coded_in setup s [] ≡ Err Ended
unfolding coded_in parsed fields_of head_of bits_of one_bit
nothing_said setup s = refl

pub some_bytes : (setup : Contents) (s : Shape) (packet : List ℕ) (c : CodedFrame) → coded_in setup s packet ≡ Ok c → 0 < length packet
some_bytes setup s [] c e = let none = nothing_said setup s in cc
some_bytes setup s (byte ∷ bytes) c e = omega arith

-- and its first two bits tell whether the frame is intra
pub needs_is : (setup : Contents) (s : Shape) (packet : List ℕ) (c : CodedFrame) → All (λ byte. byte < 256) packet → coded_in setup s packet ≡ Ok c → needs_frame packet ≡ not c.intra
needs_is setup s packet c small e = sym (twice (needs_frame packet)) ∙ ap not (sym (intra_is setup s packet c small e))
  where
    twice : (b : Bool) → not (not b) ≡ b
    twice true = refl
    twice false = refl

first_zero : (setup : Contents) (s : Shape) (byte : ℕ) (bytes : List ℕ) (c : CodedFrame) → coded_in setup s (byte ∷ bytes) ≡ Ok c → bit_of 7 byte ≡ false
unfolding coded_in parsed fields_of
first_zero setup s byte bytes c e =
    let whole = both (parsed setup s (bits_of (byte ∷ bytes))) (λ read. Ok read.0) c e in
    let fields = both (fields_of setup s (bits_of (byte ∷ bytes))) (λ read. Ok (with_dc_values s read.0, read.1)) whole.value whole.was in
    let head = both (head_of (bits_of (byte ∷ bytes))) (λ head. motion_of s head.0.intra head.1 >>= (λ motion. residue_of setup s (length head.0.qis) motion.0.flags motion.1 >>= (λ residue. Ok (joined_fields head.0 motion.0 residue.0, residue.1)))) fields.value fields.was in
    (head_intra byte bytes head.value head.was).0

key_byte : (byte : ℕ) → byte < 256 → bit_of 7 byte ≡ false → (byte / 64 == 0) ≡ not (is_inter byte)
key_byte byte small first = grind (arith, nat_tests)

pub key_is : (setup : Contents) (s : Shape) (packet : List ℕ) (c : CodedFrame) → All (λ byte. byte < 256) packet → coded_in setup s packet ≡ Ok c → is_key packet ≡ c.intra
key_is setup s [] c small e = sym (intra_is setup s [] c small e)
key_is setup s (byte ∷ bytes) c small e =
    key_byte byte (All-head (λ byte. byte < 256) byte bytes small) (first_zero setup s byte bytes c e) ∙ sym (intra_is setup s (byte ∷ bytes) c small e)

-- fewer bytes than 2^30
pub packet_few : (bits : List Bool) (packet : List ℕ) → bits_of packet ≡ bits ++ zeros (to_byte (length bits)) → length bits + 8 ≤ 2 ^ 33 → length packet < 2 ^ 30
packet_few bits packet is few = omega (arith, length-bits_of packet, ap length is, length-append bits (zeros (to_byte (length bits))), length-zeros (to_byte (length bits)))
