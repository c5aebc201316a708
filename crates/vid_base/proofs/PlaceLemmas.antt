-- What is left behind a place of the bytes: how long it is, and its first bits. The reader cites these.
use Rattle.std.proofs.Common.{◌≡◌, ℕ, suc, ◌+◌, ◌-◌, ◌*◌, ◌/◌, ◌%◌, ◌^◌, ◌<◌, ◌≤◌, Bool, List, [], ◌∷◌, ◌++◌, length, drop, get_or, refl, ap, sym, ◌∙◌, arith, add-one, append_assoc}
use Rattle.std.proofs.Math.Seq.{drop-cons}
use Rattle.std.proofs.Math.Nat.{mod-eq_of_lt}
use Rattle.std.proofs.Math.Pow.{pow-lt}
use Rattle.std.proofs.lemmas.List.{length-drop, drop-append-le}
use Rattle.vid_base.specs.Bits.{bit_of, byte_bits, bits_of, digits}
use Rattle.vid_base.specs.Places.{left_at}
use Rattle.vid_base.proofs.DigitLemmas.{digits-byte, digits-cat, digits-mod, drop-digits, length-digits, length-bits_of}

-- where a byte is there, its bits come first
pub bits_of-drop : (bytes : List ℕ) (at : ℕ) → at < length bytes → bits_of (drop at bytes) ≡ byte_bits (get_or bytes at 0) ++ bits_of (drop (at + 1) bytes)
unfolding bits_of
bits_of-drop bytes at h = rw (add-one) (rw (drop-cons bytes at 0) refl)

pub length-left_at : (bytes : List ℕ) (at shift : ℕ) → length (left_at bytes at shift) ≡ 8 * length bytes - (8 * at + shift)
unfolding left_at
length-left_at bytes at shift = omega (arith, length-drop shift (bits_of (drop at bytes)), length-bits_of (drop at bytes), length-drop at bytes)

-- a place and what is left behind it are all bits
pub same_end : (bytes : List ℕ) (at shift at' shift' : ℕ) → 8 * at + shift ≤ 8 * length bytes → 8 * at' + shift' ≤ 8 * length bytes
    → 8 * at' + shift' + length (left_at bytes at' shift') ≡ 8 * at + shift + length (left_at bytes at shift)
same_end bytes at shift at' shift' h k = omega (arith, length-left_at bytes at shift, length-left_at bytes at' shift')

-- behind a bit of a byte stand the byte's lower digits, and then the other bytes
left_is : (bytes : List ℕ) (at shift low : ℕ) → shift + low ≡ 8 → at < length bytes → left_at bytes at shift ≡ digits low (get_or bytes at 0) ++ bits_of (drop (at + 1) bytes)
unfolding left_at
left_is bytes at shift low e h =
    let all : byte_bits (get_or bytes at 0) ≡ digits (shift + low) (get_or bytes at 0) = sym (digits-byte (get_or bytes at 0)) ∙ ap (λ n. digits n (get_or bytes at 0)) (sym e) in
    ap (drop shift) (bits_of-drop bytes at h ∙ ap (λ d. d ++ bits_of (drop (at + 1) bytes)) all)
    ∙ drop-append-le shift (digits (shift + low) (get_or bytes at 0)) (bits_of (drop (at + 1) bytes)) (omega (arith, length-digits (shift + low) (get_or bytes at 0)))
    ∙ ap (λ d. d ++ bits_of (drop (at + 1) bytes)) (drop-digits shift low (get_or bytes at 0))

-- some of the digits that a byte still has, as a number
pub left_piece : (bytes : List ℕ) (at shift count low : ℕ) → shift + (count + low) ≡ 8 → at < length bytes
    → left_at bytes at shift ≡ digits count (get_or bytes at 0 / 2 ^ low % 2 ^ count) ++ (digits low (get_or bytes at 0) ++ bits_of (drop (at + 1) bytes))
left_piece bytes at shift count low e h =
    left_is bytes at shift (count + low) e h
    ∙ ap (λ d. d ++ bits_of (drop (at + 1) bytes)) (digits-cat count low (get_or bytes at 0) ∙ ap (λ d. d ++ digits low (get_or bytes at 0)) (sym (digits-mod count count (get_or bytes at 0 / 2 ^ low) (omega arith))))
    ∙ append_assoc (digits count (get_or bytes at 0 / 2 ^ low % 2 ^ count)) (digits low (get_or bytes at 0)) (bits_of (drop (at + 1) bytes))

-- the digits up to the byte's end
pub piece_to_end : (bytes : List ℕ) (at shift count : ℕ) → shift + count ≡ 8 → at < length bytes
    → left_at bytes at shift ≡ digits count (get_or bytes at 0 / 2 ^ 0 % 2 ^ count) ++ left_at bytes (at + 1) 0
unfolding left_at digits
piece_to_end bytes at shift count e h = left_piece bytes at shift count 0 (omega arith) h

-- digits after which the byte has more
pub piece_within : (bytes : List ℕ) (at shift count low : ℕ) → shift + (count + low) ≡ 8 → at < length bytes
    → left_at bytes at shift ≡ digits count (get_or bytes at 0 / 2 ^ low % 2 ^ count) ++ left_at bytes at (shift + count)
piece_within bytes at shift count low e h =
    left_piece bytes at shift count low e h
    ∙ ap (λ d. digits count (get_or bytes at 0 / 2 ^ low % 2 ^ count) ++ d) (sym (left_is bytes at (shift + count) low (omega arith) h))

-- the next bit of a byte
pub left_bit : (bytes : List ℕ) (at shift low : ℕ) → shift + (1 + low) ≡ 8 → at < length bytes → left_at bytes at shift ≡ bit_of low (get_or bytes at 0) ∷ (digits low (get_or bytes at 0) ++ bits_of (drop (at + 1) bytes))
unfolding digits
left_bit bytes at shift low e h = let one : 1 + low ≡ suc low = omega arith in left_is bytes at shift (1 + low) e h ∙ ap (λ n. digits n (get_or bytes at 0) ++ bits_of (drop (at + 1) bytes)) one

-- the last bit of a byte
pub bit_last : (bytes : List ℕ) (at shift : ℕ) → shift ≡ 7 → at < length bytes → left_at bytes at shift ≡ bit_of (7 - shift) (get_or bytes at 0) ∷ left_at bytes (at + 1) 0
unfolding left_at digits
bit_last bytes at shift e h = rw e (left_bit bytes at 7 0 (omega arith) h)

-- another bit of a byte
pub bit_within : (bytes : List ℕ) (at shift : ℕ) → shift < 7 → at < length bytes → left_at bytes at shift ≡ bit_of (7 - shift) (get_or bytes at 0) ∷ left_at bytes at (shift + 1)
bit_within bytes at shift k h =
    left_bit bytes at shift (7 - shift) (omega arith) h
    ∙ ap (λ d. bit_of (7 - shift) (get_or bytes at 0) ∷ d) (sym (left_is bytes at (shift + 1) (7 - shift) (omega arith) h))

-- where all bytes were read nothing is left
pub left_none : (bytes : List ℕ) (at shift : ℕ) → at ≡ length bytes → shift ≡ 0 → left_at bytes at shift ≡ []
left_none bytes at shift e f = go (left_at bytes at shift) (length-left_at bytes at shift ∙ omega arith)
  where
    go : (bits : List Bool) → length bits ≡ 0 → bits ≡ []
    go [] h = refl
    go (b ∷ bits) h = absurd (omega arith)

-- a shifted 1, in a number of k bits
pub one_shifted : (n k : ℕ) → n < k → 1 * 2 ^ n % 2 ^ k ≡ 2 ^ n
one_shifted n k h =
    let one : 1 * 2 ^ n ≡ 2 ^ n = omega arith in
    rw one (mod-eq_of_lt (pow-lt h))

pub sub_self : (n : ℕ) → n - n ≡ 0
sub_self n = omega arith

pub digits_none : (bits : List Bool) → digits 0 0 ++ bits ≡ bits
unfolding digits
digits_none bits = refl

pub pieces_start : (n : ℕ) → 0 < 2 ^ (n - n)
pieces_start n = rw (sub_self n) (omega arith)

-- so many bits are left behind the place exactly where they fit the bytes
pub room_left : (bytes : List ℕ) (at shift n : ℕ) → 8 * at + shift ≤ 8 * length bytes → n ≤ length (left_at bytes at shift) → 8 * at + shift + n ≤ 8 * length bytes
room_left bytes at shift n place enough = omega (arith, length-left_at bytes at shift)
