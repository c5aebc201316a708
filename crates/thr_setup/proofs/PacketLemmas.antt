-- Bits as bytes and back, and that a setup's packet is read as the setup, whatever follows. The writers cite these.
use Rattle.std.proofs.Common.{Fits, w8, get_or, ◌≡◌, ℕ, zero, suc, ◌+◌, ◌*◌, ◌/◌, ◌<◌, Bool, List, [], ◌∷◌, ◌++◌, length, length-append, Ok, All, refl, ap, sym, ◌∙◌, arith, append_assoc}
use Rattle.std.proofs.lemmas.List.Elements.{All-head, All-tail}
use Rattle.std.proofs.lemmas.Grind.{get_or_default_zero}
use Rattle.vid_base.specs.Bits.{bits_of, byte_bits, number, number_from, zeros, to_byte}
use Rattle.vid_base.proofs.DigitLemmas.{ap-two, bits_of-append, digits-byte, length-zeros}
use Rattle.vid_base.proofs.NumberLemmas.{number-digits, digits-number_from}
use Rattle.thr_quant.specs.Limits.{limits_of, limits_bits}
use Rattle.thr_quant.specs.Ramps.{ramps_of, ramps_bits}
use Rattle.thr_huff.specs.Trees.{forest_at, forest_bits}
use Rattle.thr_setup.specs.Setup.{Contents, bytes_of, setup_name, fields_of, fields_bits, filled, packet_of, setup_of}

-- where each field reads back, so do all
pub fields_of-fields_bits : (s : Contents) (rest : List Bool)
    → ((after : List Bool) → limits_of (limits_bits s.limits ++ after) ≡ Ok (s.limits, after))
    → ((after : List Bool) → ramps_of (ramps_bits s.ramps ++ after) ≡ Ok (s.ramps, after))
    → ((after : List Bool) → forest_at (forest_bits s.forest ++ after) ≡ Ok (s.forest, after))
    → fields_of (fields_bits s ++ rest) ≡ Ok (s, rest)
unfolding fields_of fields_bits
fields_of-fields_bits s rest limits ramps forest =
    simp append_assoc (rw (limits _, ramps _, forest _) refl)

-- a byte from its bits
byte-number : (b : ℕ) → b < 256 → number (byte_bits b) ≡ b
unfolding number
byte-number b h = ap (number_from 0) (sym (digits-byte b)) ∙ number-digits 8 0 b h ∙ omega arith

-- bytes from their bits
pub bytes_of-bits_of : (bytes : List ℕ) → All (λ b. b < 256) bytes → bytes_of (bits_of bytes) ≡ bytes
unfolding bytes_of bits_of
bytes_of-bits_of [] small = refl
bytes_of-bits_of (b ∷ bytes) small =
    ap-two (λ x xs. x ∷ xs) (byte-number b (All-head (λ v. v < 256) b bytes small)) (bytes_of-bits_of bytes (All-tail (λ v. v < 256) b bytes small))

pub packed : (bytes : List ℕ) → ((i : ℕ) → Fits w8 (get_or bytes i 0)) → bytes_of (bits_of bytes) ≡ bytes
packed bytes fits = bytes_of-bits_of bytes (λ k d h. rw (get_or_default_zero bytes k d h) (omega (arith, fits k)))

-- bits from their bytes, where they fill them
pub bits_of-bytes_of : (n : ℕ) (bits : List Bool) → length bits ≡ 8 * n → bits_of (bytes_of bits) ≡ bits
unfolding bytes_of bits_of number
bits_of-bytes_of n [] e = refl
bits_of-bytes_of n (a ∷ []) e = absurd (omega arith)
bits_of-bytes_of n (a ∷ b ∷ []) e = absurd (omega arith)
bits_of-bytes_of n (a ∷ b ∷ c ∷ []) e = absurd (omega arith)
bits_of-bytes_of n (a ∷ b ∷ c ∷ d ∷ []) e = absurd (omega arith)
bits_of-bytes_of n (a ∷ b ∷ c ∷ d ∷ f ∷ []) e = absurd (omega arith)
bits_of-bytes_of n (a ∷ b ∷ c ∷ d ∷ f ∷ g ∷ []) e = absurd (omega arith)
bits_of-bytes_of n (a ∷ b ∷ c ∷ d ∷ f ∷ g ∷ h ∷ []) e = absurd (omega arith)
bits_of-bytes_of zero (a ∷ b ∷ c ∷ d ∷ f ∷ g ∷ h ∷ i ∷ bits) e = absurd (omega arith)
bits_of-bytes_of (suc n) (a ∷ b ∷ c ∷ d ∷ f ∷ g ∷ h ∷ i ∷ bits) e =
    ap-two (λ front others. front ++ others)
    (sym (digits-byte (number (a ∷ b ∷ c ∷ d ∷ f ∷ g ∷ h ∷ i ∷ []))) ∙ digits-number_from 0 (a ∷ b ∷ c ∷ d ∷ f ∷ g ∷ h ∷ i ∷ []))
    (bits_of-bytes_of n bits (omega arith))

-- bits that are filled fill their bytes
pub length-filled : (bits : List Bool) → (n : ℕ) × (length (filled bits) ≡ 8 * n)
length-filled bits = ((length bits + 7) / 8, omega (arith, length-append bits (zeros (to_byte (length bits))), length-zeros (to_byte (length bits))))

-- the bits of a packet behind its name
pub bits-filled : (bits : List Bool) → bits_of (bytes_of (filled bits)) ≡ filled bits
bits-filled bits = let whole = length-filled bits in bits_of-bytes_of whole.0 (filled bits) whole.1

-- a packet reads back, whatever follows it
pub setup_of-packet : (s : Contents) (rest : List ℕ) → ((after : List Bool) → fields_of (fields_bits s ++ after) ≡ Ok (s, after)) → setup_of (packet_of s ++ rest) ≡ Ok s
unfolding setup_of packet_of
setup_of-packet s rest back =
    let bits : bits_of (bytes_of (filled (fields_bits s)) ++ rest) ≡ fields_bits s ++ (zeros (to_byte (length (fields_bits s))) ++ bits_of rest) =
    bits_of-append (bytes_of (filled (fields_bits s))) rest ∙ ap (λ b. b ++ bits_of rest) (bits-filled (fields_bits s)) ∙ append_assoc (fields_bits s) (zeros (to_byte (length (fields_bits s)))) (bits_of rest) in
    rw (bits, back (zeros (to_byte (length (fields_bits s))) ++ bits_of rest)) refl

-- the bytes behind the name, one behind the other
pub packet-appended : (s : Contents) (old named new fields : List ℕ) → named ≡ old ++ setup_name → new ≡ named ++ fields → bytes_of (bits_of fields) ≡ fields → bits_of fields ≡ filled (fields_bits s)
    → new ≡ old ++ packet_of s
unfolding packet_of
packet-appended s old named new fields e f packed bits =
    f ∙ ap-two (λ a b. a ++ b) e (sym packed ∙ ap bytes_of bits) ∙ append_assoc old setup_name (bytes_of (filled (fields_bits s)))
