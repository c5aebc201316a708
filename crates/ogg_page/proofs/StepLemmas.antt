-- What one byte, and bytes one behind the other, make of a remainder. The functions of the checksum cite these.
use Rattle.std.proofs.Common.{◌≡◌, ℕ, zero, suc, Bool, false, ◌+◌, ◌-◌, ◌*◌, ◌/◌, ◌%◌, ◌^◌, ◌<◌, ◌≤◌, List, [], ◌∷◌, ◌++◌, length, length-append, take, drop, get_or, bit_xor, refl, ap, sym, ◌∙◌, subst, arith, append_assoc}
use Rattle.std.specs.Int.{w32, to_be_bytes, from_be_bytes}
use Rattle.std.proofs.lemmas.Nat.{be_bytes_4}
use Rattle.std.proofs.lemmas.List.{length-drop, drop-drop, drop_all, take_more, take-append-le, take-append-drop, drop-append-le, append-nil}
use Rattle.std.proofs.lemmas.List.Folds.{concat-append}
use Rattle.std.proofs.Math.Seq.{take-length, drop-cons}
use Rattle.std.specs.List.{concat}
use Rattle.std.specs.Simd.{first_chunks}
use Rattle.vid_base.specs.Bits.{byte_bits, bits_of, digits, zeros, number, number_from}
use Rattle.vid_base.proofs.DigitLemmas.{length-digits, length-zeros, digits-cat, digits-mod, digits-zero, digits-shift, digits-byte, bits_of-append, length-bits_of, ap-two}
use Rattle.vid_base.proofs.NumberLemmas.{number-digits}
use Rattle.ogg_page.specs.Division.{divide, sum_of, remainder, GoesOn, zero_bytes, blanked, checksum_of}
use Rattle.ogg_page.proofs.SumLemmas.{sum_comm, sum_assoc, sum_fronts, zeros-sum, length-sum_right, padded-sum, digits-xor}
use Rattle.ogg_page.proofs.DivisionLemmas.{divide-front, divide-add, divide-sum, divide-zeros}

-- one byte: the upper byte goes out, and the table's entry comes in
pub GoesOn-byte : (crc b t : ℕ) → divide 8 (digits 8 (bit_xor (crc / 2 ^ 24) b) ++ zeros 32) ≡ digits 32 t → GoesOn crc (b ∷ []) (bit_xor (crc * 2 ^ 8 % 2 ^ 32) t)
unfolding bits_of
GoesOn-byte crc b t e = λ rest h.
    let front : sum_of (digits 32 crc) (byte_bits b ++ rest) ≡ digits 8 (bit_xor (crc / 2 ^ 24) b) ++ sum_of (digits 24 crc) rest =
    ap-two (λ d u. sum_of d (u ++ rest)) (digits-cat 8 24 crc) (sym (digits-byte b))
    ∙ sum_fronts (digits 8 (crc / 2 ^ 24)) (digits 8 b) (digits 24 crc) rest (length-digits 8 (crc / 2 ^ 24) ∙ sym (length-digits 8 b))
    ∙ ap (λ d. d ++ sum_of (digits 24 crc) rest) (sym (digits-xor 8 (crc / 2 ^ 24) b)) in
    let shifted : digits 32 (crc * 2 ^ 8 % 2 ^ 32) ≡ digits 24 crc ++ zeros 8 = digits-mod 32 32 (crc * 2 ^ 8) (omega arith) ∙ digits-shift 24 8 crc in
    let new : digits 32 (bit_xor (crc * 2 ^ 8 % 2 ^ 32) t) ≡ sum_of (digits 32 t) (digits 24 crc ++ zeros 8) =
    digits-xor 32 (crc * 2 ^ 8 % 2 ^ 32) t ∙ sum_comm (digits 32 (crc * 2 ^ 8 % 2 ^ 32)) (digits 32 t) ∙ ap (sum_of (digits 32 t)) shifted in
    let pad : sum_of (digits 24 crc ++ zeros 8) rest ≡ sum_of (digits 24 crc) rest = padded-sum (digits 24 crc) rest 8 (omega (arith, length-digits 24 crc)) in
    ap (divide 8) front
    ∙ divide-front 8 (digits 8 (bit_xor (crc / 2 ^ 24) b)) (sum_of (digits 24 crc) rest) (length-digits 8 (bit_xor (crc / 2 ^ 24) b)) (omega (arith, length-sum_right (digits 24 crc) rest))
    ∙ ap (λ d. sum_of d (sum_of (digits 24 crc) rest)) e
    ∙ ap (sum_of (digits 32 t)) (sym pad)
    ∙ sym (sum_assoc (digits 32 t) (digits 24 crc ++ zeros 8) rest)
    ∙ ap (λ d. sum_of d rest) (sym new)

-- bytes one behind the other
pub GoesOn-append : (crc mid next : ℕ) (xs ys : List ℕ) → GoesOn crc xs mid → GoesOn mid ys next → GoesOn crc (xs ++ ys) next
GoesOn-append crc mid next xs ys g h = λ rest long.
    let count : 8 * length (xs ++ ys) ≡ 8 * length xs + 8 * length ys = omega (arith, length-append xs ys) in
    rw (count, bits_of-append xs ys, append_assoc (bits_of xs) (bits_of ys) rest)
    (divide-add (8 * length xs) (8 * length ys) _
    ∙ ap (divide (8 * length ys)) (g (bits_of ys ++ rest) (omega (arith, length-append (bits_of ys) rest)))
    ∙ h rest long)

-- from 0 the whole division is gone through
pub remainder-GoesOn : (bytes : List ℕ) (next : ℕ) → next < 2 ^ 32 → GoesOn 0 bytes next → number (remainder (bits_of bytes)) ≡ next
unfolding remainder number
remainder-GoesOn bytes next small g =
    let enough : 32 ≤ length (zeros 32) = omega (arith, length-zeros 32) in
    let start : sum_of (digits 32 0) (bits_of bytes ++ zeros 32) ≡ bits_of bytes ++ zeros 32 =
    ap (λ d. sum_of d (bits_of bytes ++ zeros 32)) (digits-zero 32) ∙ zeros-sum 32 _ (omega (arith, length-append (bits_of bytes) (zeros 32))) in
    let end : sum_of (digits 32 next) (zeros 32) ≡ digits 32 next = sum_comm (digits 32 next) (zeros 32) ∙ zeros-sum 32 (digits 32 next) (omega (arith, length-digits 32 next)) in
    rw (length-bits_of bytes)
    (ap (number_from 0) (ap (divide (8 * length bytes)) (sym start) ∙ g (zeros 32) enough ∙ end) ∙ number-digits 32 0 next small ∙ omega arith)

-- a slice from a place on
pub GoesOn-tail : (crc next k : ℕ) (xs : List ℕ) → GoesOn crc (take (length xs - k) (drop k xs)) next → GoesOn crc (drop k xs) next
GoesOn-tail crc next k xs g =
    let all : take (length xs - k) (drop k xs) ≡ drop k xs = ap (λ n. take n (drop k xs)) (sym (length-drop k xs)) ∙ take-length (drop k xs) in
    rw all at g

-- no byte
pub GoesOn-nil : (crc : ℕ) → GoesOn crc [] crc
unfolding divide bits_of
GoesOn-nil crc = λ rest h. refl

-- 0 before bits is nothing
from_nothing : (bits : List Bool) → 32 ≤ length bits → sum_of (digits 32 0) bits ≡ bits
from_nothing bits h = ap (λ d. sum_of d bits) (digits-zero 32) ∙ zeros-sum 32 bits h

zeros-add : (m n : ℕ) → zeros (m + n) ≡ zeros m ++ zeros n
unfolding zeros
zeros-add zero n = let e : 0 + n ≡ n = omega arith in ap zeros e
zeros-add (suc m) n = let e : suc m + n ≡ suc (m + n) = omega arith in rw e (ap (λ bs. false ∷ bs) (zeros-add m n))

length-zero_bytes : (n : ℕ) → length (zero_bytes n) ≡ n
unfolding zero_bytes
length-zero_bytes zero = refl
length-zero_bytes (suc n) = ap (λ k. suc k) (length-zero_bytes n)

bits_of-zero_bytes : (n : ℕ) → bits_of (zero_bytes n) ≡ zeros (8 * n)
unfolding zero_bytes bits_of zeros
bits_of-zero_bytes zero = refl
bits_of-zero_bytes (suc n) = let e : 8 * suc n ≡ 8 + 8 * n = omega arith in ap (λ bs. byte_bits 0 ++ bs) (bits_of-zero_bytes n) ∙ sym (zeros-add 8 (8 * n)) ∙ ap zeros (sym e)

-- what is left of a byte with bytes of 0 behind it
left_alone : (p t n : ℕ) → GoesOn 0 (p ∷ zero_bytes n) t → divide (8 + 8 * n) (byte_bits p ++ zeros (8 * n + 32)) ≡ digits 32 t
unfolding bits_of
left_alone p t n g =
    let count : 8 * length (p ∷ zero_bytes n) ≡ 8 + 8 * n = omega (arith, length-zero_bytes n) in
    let bits : bits_of (zero_bytes n) ++ zeros 32 ≡ zeros (8 * n + 32) = ap (λ bs. bs ++ zeros 32) (bits_of-zero_bytes n) ∙ sym (zeros-add (8 * n) 32) in
    let all : sum_of (digits 32 0) (byte_bits p ++ zeros (8 * n + 32)) ≡ byte_bits p ++ zeros (8 * n + 32) = from_nothing (byte_bits p ++ zeros (8 * n + 32)) (omega (arith, length-zeros (8 * n + 32))) in
    (λ i. divide (sym count i) (sym all i))
    ∙ ap (λ bs. divide (8 * length (p ∷ zero_bytes n)) (sum_of (digits 32 0) (byte_bits p ++ bs))) (sym bits)
    ∙ g (zeros 32) (omega (arith, length-zeros 32))
    ∙ sum_comm (digits 32 t) (zeros 32) ∙ zeros-sum 32 (digits 32 t) (omega (arith, length-digits 32 t))

-- nothing before bits is nothing
nothing-sum : (bits : List Bool) → sum_of [] bits ≡ bits
unfolding sum_of
nothing-sum bits = refl

-- one byte in front of others: what is left of it with zeros in their place comes in
pub GoesOn-front : (p t u : ℕ) (ys : List ℕ) → GoesOn 0 (p ∷ zero_bytes (length ys)) t → GoesOn 0 ys u → GoesOn 0 (p ∷ ys) (bit_xor u t)
unfolding bits_of
GoesOn-front p t u ys g h = λ rest long.
    let n : ℕ = 8 * length ys in
    let ds : List Bool = byte_bits p in
    let others : List Bool = bits_of ys ++ rest in
    let count : 8 * length (p ∷ ys) ≡ 8 + n = omega arith in
    let enough : n + 32 ≤ length others = omega (arith, long, length-append (bits_of ys) rest, length-bits_of ys) in
    let apart : ds ++ others ≡ sum_of (ds ++ zeros (n + 32)) (zeros 8 ++ others) =
    sym (sum_fronts ds (zeros 8) (zeros (n + 32)) others (sym (length-zeros 8)) ∙ ap-two (λ a b. a ++ b) (sum_comm ds (zeros 8) ∙ zeros-sum 8 ds (omega arith)) (zeros-sum (n + 32) others enough)) in
    let right : divide (8 + n) (zeros 8 ++ others) ≡ sum_of (digits 32 u) rest =
    divide-add 8 n (zeros 8 ++ others) ∙ ap (divide n) (divide-zeros 8 others ∙ sym (from_nothing others (omega (arith, enough)))) ∙ h rest long in
    ap (divide (8 * length (p ∷ ys))) (from_nothing (ds ++ others) (omega (arith, enough)))
    ∙ (λ i. divide (count i) (apart i))
    ∙ divide-sum (8 + n) (ds ++ zeros (n + 32)) (zeros 8 ++ others) (omega (arith, length-zeros (n + 32))) (omega (arith, enough, length-append (zeros 8) others, length-zeros 8))
    ∙ ap-two (λ a b. sum_of a b) (left_alone p t (length ys) g) right
    ∙ sym (sum_assoc (digits 32 t) (digits 32 u) rest)
    ∙ ap (λ d. sum_of d rest) (sum_comm (digits 32 t) (digits 32 u) ∙ sym (digits-xor 32 u t))

byte_digits : (v : ℕ) → byte_bits (v % 2 ^ 8) ≡ digits 8 v
byte_digits v = sym (digits-byte (v % 2 ^ 8)) ∙ digits-mod 8 8 v (omega arith)

-- a number as four bytes has the bits that it has as a number
word_bits : (v : ℕ) → bits_of (to_be_bytes w32 v) ≡ digits 32 v
unfolding bits_of
word_bits v =
    ap-two (λ a b. a ++ b) (byte_digits (v / 2 ^ 24)) (ap-two (λ a b. a ++ b) (byte_digits (v / 2 ^ 16)) (ap-two (λ a b. a ++ b) (byte_digits (v / 2 ^ 8)) (byte_digits v)))
    ∙ ap (λ d. digits 8 (v / 2 ^ 24) ++ (digits 8 (v / 2 ^ 16) ++ d)) (sym (digits-cat 8 8 v))
    ∙ ap (λ d. digits 8 (v / 2 ^ 24) ++ d) (sym (digits-cat 8 16 v))
    ∙ sym (digits-cat 8 24 v)

-- what is left goes into the first four bytes
pub GoesOn-word : (crc next : ℕ) (four more : List ℕ) → length four ≡ 4 → ((i : ℕ) → get_or four i 0 < 256)
    → GoesOn 0 (to_be_bytes w32 (bit_xor crc (from_be_bytes w32 four)) ++ more) next → GoesOn crc (four ++ more) next
GoesOn-word crc next four more h small g = λ rest long.
    let w : ℕ = from_be_bytes w32 four in
    let v : ℕ = bit_xor crc w in
    let behind : List Bool = bits_of more ++ rest in
    let count : 8 * length (four ++ more) ≡ 8 * length (to_be_bytes w32 v ++ more) = omega (arith, length-append four more, h) in
    let old : bits_of (four ++ more) ++ rest ≡ digits 32 w ++ behind =
    ap (λ bs. bs ++ rest) (bits_of-append four more ∙ ap (λ bs. bs ++ bits_of more) (ap bits_of (sym (be_bytes_4 four w h small refl)) ∙ word_bits w)) ∙ append_assoc (digits 32 w) (bits_of more) rest in
    let new : bits_of (to_be_bytes w32 v ++ more) ++ rest ≡ digits 32 v ++ behind =
    ap (λ bs. bs ++ rest) (bits_of-append (to_be_bytes w32 v) more ∙ ap (λ bs. bs ++ bits_of more) (word_bits v)) ∙ append_assoc (digits 32 v) (bits_of more) rest in
    let sum : sum_of (digits 32 crc) (digits 32 w ++ behind) ≡ digits 32 v ++ behind =
    ap (λ d. sum_of d (digits 32 w ++ behind)) (sym (append-nil (digits 32 crc))) ∙ sum_fronts (digits 32 crc) (digits 32 w) [] behind (length-digits 32 crc ∙ sym (length-digits 32 w))
    ∙ ap-two (λ a b. a ++ b) (sym (digits-xor 32 crc w)) (nothing-sum behind) in
    (λ i. divide (count i) (sum_of (digits 32 crc) (old i)))
    ∙ ap (divide (8 * length (to_be_bytes w32 v ++ more))) (sum ∙ sym (from_nothing (digits 32 v ++ behind) (omega (arith, length-append (digits 32 v) behind, length-digits 32 v))) ∙ ap (sum_of (digits 32 0)) (sym new))
    ∙ g rest long

-- one byte more
pub GoesOn-more : (crc mid next i : ℕ) (bytes : List ℕ) → i < length bytes → GoesOn crc (take i bytes) mid → GoesOn mid (get_or bytes i 0 ∷ []) next → GoesOn crc (take (i + 1) bytes) next
GoesOn-more crc mid next i bytes lt g h = rw (take_more bytes i 0 lt) (GoesOn-append crc mid next (take i bytes) (get_or bytes i 0 ∷ []) g h)

-- one list of bytes more
pub GoesOn-list : (crc mid next i : ℕ) (lists : List (List ℕ)) → i < length lists → GoesOn crc (concat (take i lists)) mid → GoesOn mid (get_or lists i []) next → GoesOn crc (concat (take (i + 1) lists)) next
GoesOn-list crc mid next i lists lt g h =
    let more : concat (take (i + 1) lists) ≡ concat (take i lists) ++ get_or lists i [] =
    ap concat (take_more lists i [] lt) ∙ concat-append (take i lists) (get_or lists i [] ∷ []) ∙ ap (λ t. concat (take i lists) ++ t) (append-nil (get_or lists i [])) in
    rw more (GoesOn-append crc mid next (concat (take i lists)) (get_or lists i []) g h)

-- bytes in arrays, and those behind them
chunks_whole : (n k : ℕ) (xs : List ℕ) → concat (first_chunks n k xs) ++ drop (k * n) xs ≡ xs
chunks_whole n zero xs = let e : 0 * n ≡ 0 = omega arith in rw e refl
chunks_whole n (suc k) xs =
    let e : suc k * n ≡ n + k * n = omega arith in
    append_assoc (take n xs) (concat (first_chunks n k (drop n xs))) (drop (suc k * n) xs)
    ∙ ap (λ t. take n xs ++ (concat (first_chunks n k (drop n xs)) ++ t)) (ap (λ m. drop m xs) e ∙ sym (drop-drop (k * n) n xs))
    ∙ ap (λ t. take n xs ++ t) (chunks_whole n k (drop n xs)) ∙ take-append-drop n xs

-- eight a step and then one a step
pub GoesOn-chunks : (crc mid next k : ℕ) (xs : List ℕ) → GoesOn crc (concat (first_chunks 8 k xs)) mid → GoesOn mid (drop (k * 8) xs) next → GoesOn crc xs next
GoesOn-chunks crc mid next k xs g h =
    subst (λ bytes. GoesOn crc bytes next) (chunks_whole 8 k xs) (GoesOn-append crc mid next (concat (first_chunks 8 k xs)) (drop (k * 8) xs) g h)

-- n of the elements, from place i on
abbrev pub listed : ℕ → ℕ → List ℕ → List ℕ
listed zero i xs = []
listed (suc n) i xs = get_or xs i 0 ∷ listed n (i + 1) xs

listed_from : (n i : ℕ) (xs : List ℕ) → i + n ≡ length xs → drop i xs ≡ listed n i xs
listed_from zero i xs h = drop_all i xs (omega arith)
listed_from (suc n) i xs h = drop-cons xs i 0 (omega arith) ∙ ap (λ t. get_or xs i 0 ∷ t) (let e : suc i ≡ i + 1 = omega arith in ap (λ k. drop k xs) e ∙ listed_from n (i + 1) xs (omega arith))

-- bytes by their places
pub all_listed : (n : ℕ) (xs : List ℕ) → length xs ≡ n → xs ≡ listed n 0 xs
all_listed n xs h = listed_from n 0 xs (omega arith)

-- the first four of bytes
abbrev pub four_of : List ℕ → List ℕ
four_of xs = get_or xs 0 0 ∷ get_or xs 1 0 ∷ get_or xs 2 0 ∷ get_or xs 3 0 ∷ []

four_small : (xs : List ℕ) → ((i : ℕ) → get_or xs i 0 < 256) → (i : ℕ) → get_or (four_of xs) i 0 < 256
four_small xs h zero = h 0
four_small xs h (suc zero) = h 1
four_small xs h (suc (suc zero)) = h 2
four_small xs h (suc (suc (suc zero))) = h 3
four_small xs h (suc (suc (suc (suc i)))) = omega arith

-- eight bytes: what is left of each, behind so many others, comes in
pub GoesOn-eight : (crc a b c d e f g h : ℕ) (xs word : List ℕ) → length xs ≡ 8 → ((i : ℕ) → get_or xs i 0 < 256) → word ≡ to_be_bytes w32 (bit_xor crc (from_be_bytes w32 (four_of xs)))
    → GoesOn 0 (get_or word 0 0 ∷ zero_bytes 7) a → GoesOn 0 (get_or word 1 0 ∷ zero_bytes 6) b → GoesOn 0 (get_or word 2 0 ∷ zero_bytes 5) c → GoesOn 0 (get_or word 3 0 ∷ zero_bytes 4) d
    → GoesOn 0 (get_or xs 4 0 ∷ zero_bytes 3) e → GoesOn 0 (get_or xs 5 0 ∷ zero_bytes 2) f → GoesOn 0 (get_or xs 6 0 ∷ zero_bytes 1) g → GoesOn 0 (get_or xs 7 0 ∷ zero_bytes 0) h
    → GoesOn crc xs (bit_xor (bit_xor (bit_xor (bit_xor (bit_xor (bit_xor (bit_xor h g) f) e) d) c) b) a)
unfolding zero_bytes
GoesOn-eight crc a b c d e f g h xs word long small is ga gb gc gd ge gf gg gh =
    let next : ℕ = bit_xor (bit_xor (bit_xor (bit_xor (bit_xor (bit_xor (bit_xor h g) f) e) d) c) b) a in
    let more : List ℕ = get_or xs 4 0 ∷ get_or xs 5 0 ∷ get_or xs 6 0 ∷ get_or xs 7 0 ∷ [] in
    let w : ℕ → ℕ = λ i. get_or word i 0 in
    let x : ℕ → ℕ = λ i. get_or xs i 0 in
    let from_six : GoesOn 0 (x 6 ∷ x 7 ∷ []) (bit_xor h g) = GoesOn-front (x 6) g h (x 7 ∷ []) gg gh in
    let from_four : GoesOn 0 more (bit_xor (bit_xor (bit_xor h g) f) e) =
    GoesOn-front (x 4) e (bit_xor (bit_xor h g) f) (x 5 ∷ x 6 ∷ x 7 ∷ []) ge (GoesOn-front (x 5) f (bit_xor h g) (x 6 ∷ x 7 ∷ []) gf from_six) in
    let last : ℕ = bit_xor (bit_xor (bit_xor h g) f) e in
    let from_two : GoesOn 0 (w 2 ∷ w 3 ∷ more) (bit_xor (bit_xor last d) c) =
    GoesOn-front (w 2) c (bit_xor last d) (w 3 ∷ more) gc (GoesOn-front (w 3) d last more gd from_four) in
    let looked_up : GoesOn 0 (four_of word ++ more) next =
    GoesOn-front (w 0) a (bit_xor (bit_xor (bit_xor last d) c) b) (w 1 ∷ w 2 ∷ w 3 ∷ more) ga (GoesOn-front (w 1) b (bit_xor (bit_xor last d) c) (w 2 ∷ w 3 ∷ more) gb from_two) in
    subst (λ bytes. GoesOn crc bytes next) (sym (all_listed 8 xs long))
    (GoesOn-word crc next (four_of xs) more refl (four_small xs small) (subst (λ bytes. GoesOn 0 (bytes ++ more) next) (ap four_of is) looked_up))

-- what follows the header of a page follows it still when the field is blanked
pub blanked-append : (header rest : List ℕ) → 26 ≤ length header → blanked (header ++ rest) ≡ blanked header ++ rest
blanked-append header rest h =
    let front : take 22 (header ++ rest) ≡ take 22 header = take-append-le 22 header rest (omega arith) in
    let back : drop 26 (header ++ rest) ≡ drop 26 header ++ rest = drop-append-le 26 header rest h in
    rw (front, back) (sym (append_assoc (take 22 header ++ (0 ∷ 0 ∷ 0 ∷ 0 ∷ [])) (drop 26 header) rest))

-- the division of a whole page
pub checksum-GoesOn : (page : List ℕ) (next : ℕ) → next < 2 ^ 32 → GoesOn 0 (blanked page) next → checksum_of page ≡ next
unfolding checksum_of
checksum-GoesOn page next small g = remainder-GoesOn (blanked page) next small g
