-- Words of eight bytes: their bits, and the bits of a packet that a word holds. The reader and the writers of numbers in bytes cite these.
use Rattle.std.proofs.Common.{◌≡◌, ℕ, zero, suc, ◌+◌, ◌-◌, ◌*◌, ◌/◌, ◌%◌, ◌^◌, ◌<◌, ◌≤◌, Bool, List, [], ◌∷◌, ◌++◌, length, take, drop, get_or, refl, ap, sym, ◌∙◌, inl, inr, arith}
use Rattle.std.proofs.Math.Seq.{take-append_seam, drop-append-add, drop-drop, drop-nil}
use Rattle.std.proofs.Math.Nat.{pow-suc}
use Rattle.std.proofs.Math.Pow.{pow_mono}
use Rattle.std.proofs.lemmas.Nat.{be_bytes_8, pow-add, shr-shr, shr_below}
use Rattle.std.proofs.lemmas.Bool.{cases_lt}
use Rattle.std.proofs.lemmas.List.{get_or-drop, get_or-take, get_or_past, length-drop, length-take, length-take-le, take-append-drop, take-append-le, drop-append-le}
use Rattle.std.specs.Int.{bytes_high_first, byte_at, from_be_bytes, w64}
use Rattle.vid_base.specs.Bits.{bits_of, byte_bits, digits, zeros}
use Rattle.vid_base.specs.Places.{left_at}
use Rattle.vid_base.proofs.DigitLemmas.{ap-two, length-digits, digits-cat, digits-mod, digits-shift, drop-digits, bits_of-byte, bits_of-append}

-- 256 is eight times two
bytes_worth : (k : ℕ) → 256 ^ k ≡ 2 ^ (8 * k)
bytes_worth zero = refl
bytes_worth (suc k) =
    let more : 8 * suc k ≡ 8 + 8 * k = omega arith in
    rw (more, pow-add 2 8 (8 * k), pow-suc 256 k, bytes_worth k) (omega arith)

-- a byte of a number, as bits count
byte-is : (k v : ℕ) → byte_at k v ≡ v / 2 ^ (8 * k) % 256
byte-is zero v = let whole : v / 2 ^ 0 ≡ v = omega arith in rw whole refl
byte-is (suc k) v = ap (λ w. v / w % 256) (bytes_worth (suc k))

-- the bits of a number's bytes are its digits
pub bits_of-bytes : (m v : ℕ) → bits_of (bytes_high_first m v) ≡ digits (8 * m) v
unfolding bits_of digits
bits_of-bytes zero v = refl
bits_of-bytes (suc m) v =
    let more : 8 * suc m ≡ 8 + 8 * m = omega arith in
    let first : bits_of (byte_at m v ∷ []) ≡ digits 8 (v / 2 ^ (8 * m)) = bits_of-byte (byte_at m v) ∙ ap (digits 8) (byte-is m v) ∙ digits-mod 8 8 (v / 2 ^ (8 * m)) (omega arith) in
    bits_of-append (byte_at m v ∷ []) (bytes_high_first m v)
    ∙ ap-two (λ a b. a ++ b) first (bits_of-bytes m v)
    ∙ sym (digits-cat 8 (8 * m) v)
    ∙ ap (λ n. digits n v) (sym more)

bytes_fit : (at n : ℕ) (bytes : List ℕ) → ((i : ℕ) → get_or bytes i 0 < 256) → (i : ℕ) → get_or (take n (drop at bytes)) i 0 < 256
bytes_fit at n bytes fit i = elim (cases_lt i n) [
  | inl within ↦ rw (get_or-take n (drop at bytes) i 0 within, get_or-drop at bytes i 0) (fit (at + i))
  | inr past ↦ rw (get_or_past (take n (drop at bytes)) i 0 (omega (arith, length-take n (drop at bytes)))) (omega arith)
]

-- the bits of eight bytes of a packet are the digits of their number
pub word-bits : (bytes eight : List ℕ) (at word : ℕ) → ((i : ℕ) → get_or bytes i 0 < 256) → at + 8 ≤ length bytes → eight ≡ take 8 (drop at bytes)
    → word ≡ from_be_bytes w64 eight → bits_of (take 8 (drop at bytes)) ≡ digits 64 word
word-bits bytes eight at word fit there e f =
    let eight_long : length (take 8 (drop at bytes)) ≡ 8 = length-take-le 8 (drop at bytes) (omega (arith, length-drop at bytes)) in
    let back : bytes_high_first 8 word ≡ take 8 (drop at bytes) = be_bytes_8 (take 8 (drop at bytes)) word eight_long (bytes_fit at 8 bytes fit) (f ∙ ap (from_be_bytes w64) e) in
    ap bits_of (sym back) ∙ bits_of-bytes 8 word

-- the bits behind a whole byte
pub bits-behind : (at : ℕ) (bytes : List ℕ) → bits_of (drop at bytes) ≡ drop (8 * at) (bits_of bytes)
unfolding bits_of
bits-behind zero bytes = refl
bits-behind (suc at) [] = sym (drop-nil (8 * suc at))
bits-behind (suc at) (b ∷ bytes) =
    let more : 8 * suc at ≡ 8 + 8 * at = omega arith in
    rw more (bits-behind at bytes ∙ sym (drop-append-add (byte_bits b) (bits_of bytes) (8 * at)))

-- what is left behind a place, counted in bits alone
pub left-is : (bytes : List ℕ) (at shift : ℕ) → left_at bytes at shift ≡ drop (8 * at + shift) (bits_of bytes)
unfolding left_at
left-is bytes at shift = ap (drop shift) (bits-behind at bytes) ∙ drop-drop shift (8 * at) (bits_of bytes)

-- the first of the digits that a number has behind its first few
pub word-front : (word shift n : ℕ) → shift < 8 → n ≤ 32 → digits n (word * 2 ^ shift % 2 ^ 64 / 2 ^ 1 / 2 ^ (63 - n)) ≡ take n (drop shift (digits 64 word))
word-front word shift n h k =
    let up : ℕ = word * 2 ^ shift % 2 ^ 64 in
    let parts : 64 ≡ n + (64 - n) = omega arith in
    let whole : 64 ≡ shift + (64 - shift) = omega arith in
    let turned : 64 ≡ (64 - shift) + shift = omega arith in
    let down : 1 + (63 - n) ≡ 64 - n = omega arith in
    let behind : drop shift (digits 64 word) ≡ digits (64 - shift) word = ap (λ m. drop shift (digits m word)) whole ∙ drop-digits shift (64 - shift) word in
    let shifted : digits 64 up ≡ drop shift (digits 64 word) ++ zeros shift =
    digits-mod 64 64 (word * 2 ^ shift) (omega arith) ∙ ap (λ m. digits m (word * 2 ^ shift)) turned ∙ digits-shift (64 - shift) shift word ∙ ap (λ bits. bits ++ zeros shift) (sym behind) in
    let halves : digits 64 up ≡ digits n (up / 2 ^ (64 - n)) ++ digits (64 - n) up = ap (λ m. digits m up) parts ∙ digits-cat n (64 - n) up in
    let front : take n (digits n (up / 2 ^ (64 - n)) ++ digits (64 - n) up) ≡ digits n (up / 2 ^ (64 - n)) =
    ap (λ m. take m (digits n (up / 2 ^ (64 - n)) ++ digits (64 - n) up)) (sym (length-digits n (up / 2 ^ (64 - n)))) ∙ take-append_seam (digits n (up / 2 ^ (64 - n))) (digits (64 - n) up) in
    ap (digits n) (shr-shr up 1 (63 - n) ∙ ap (λ m. up / 2 ^ m) down)
    ∙ sym front ∙ ap (take n) (sym halves ∙ shifted)
    ∙ take-append-le n (drop shift (digits 64 word)) (zeros shift) (omega (arith, length-drop shift (digits 64 word), length-digits 64 word))

-- and below the power of that length
pub word-small : (up n : ℕ) → up < 2 ^ 64 → n ≤ 32 → up / 2 ^ 1 / 2 ^ (63 - n) < 2 ^ n
word-small up n h k =
    let down : 1 + (63 - n) ≡ 64 - n = omega arith in
    let parts : n + (64 - n) ≡ 64 = omega arith in
    let bound : up < 2 ^ (n + (64 - n)) = rw parts h in
    rw (shr-shr up 1 (63 - n), down) (shr_below up n (64 - n) bound)

pub word-fits : (up n : ℕ) → up < 2 ^ 64 → n ≤ 32 → up / 2 ^ 1 / 2 ^ (63 - n) < 2 ^ 32
word-fits up n h k =
    let most : 2 ^ n ≤ 2 ^ 32 = pow_mono k in
    omega (arith, word-small up n h k)

-- a word that is there holds the first bits of what is left
pub left_word : (bytes : List ℕ) (at shift n word value at' shift' : ℕ) → at + 8 ≤ length bytes → shift < 8 → n ≤ 32
    → bits_of (take 8 (drop at bytes)) ≡ digits 64 word → digits n value ≡ take n (drop shift (digits 64 word)) → 8 * at' + shift' ≡ 8 * at + shift + n
    → left_at bytes at shift ≡ digits n value ++ left_at bytes at' shift'
unfolding left_at
left_word bytes at shift n word value at' shift' there h k e f place =
    let behind : List Bool = bits_of (drop 8 (drop at bytes)) in
    let first : bits_of (drop at bytes) ≡ digits 64 word ++ behind =
    ap bits_of (sym (take-append-drop 8 (drop at bytes))) ∙ bits_of-append (take 8 (drop at bytes)) (drop 8 (drop at bytes)) ∙ ap (λ bits. bits ++ behind) e in
    let moved : drop shift (bits_of (drop at bytes)) ≡ drop shift (digits 64 word) ++ behind =
    ap (drop shift) first ∙ drop-append-le shift (digits 64 word) behind (omega (arith, length-digits 64 word)) in
    let front : take n (drop shift (bits_of (drop at bytes))) ≡ digits n value =
    ap (take n) moved ∙ take-append-le n (drop shift (digits 64 word)) behind (omega (arith, length-drop shift (digits 64 word), length-digits 64 word)) ∙ sym f in
    let rest : drop n (drop shift (bits_of (drop at bytes))) ≡ left_at bytes at' shift' =
    ap (drop n) (left-is bytes at shift) ∙ drop-drop n (8 * at + shift) (bits_of bytes) ∙ ap (λ m. drop m (bits_of bytes)) (sym place) ∙ sym (left-is bytes at' shift') in
    sym (take-append-drop n (drop shift (bits_of (drop at bytes)))) ∙ ap-two (λ a b. a ++ b) front rest
