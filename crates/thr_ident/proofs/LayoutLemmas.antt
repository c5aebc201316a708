-- The bytes of a header have each field at its place. `write_ident` cites this.
use Rattle.std.proofs.Common.{◌≡◌, ℕ, ◌+◌, ◌*◌, ◌^◌, ◌<◌, Bool, List, [], ◌∷◌, ◌++◌, length, length-append, take, drop, refl, ap, sym, ◌∙◌, arith, append_assoc}
use Rattle.std.proofs.Math.Seq.{take-append_seam, drop-append_seam}
use Rattle.std.specs.Int.{bytes_high_first}
use Rattle.vid_base.specs.Bits.{bits_of, digits, number}
use Rattle.vid_base.proofs.DigitLemmas.{length-digits, digits-joined, bits_of-byte, bits_of-append, length-bits_of}
use Rattle.vid_base.proofs.NumberLemmas.{number-digits}
use Rattle.vid_base.proofs.WordLemmas.{bits_of-bytes}
use Rattle.thr_ident.specs.Header.{Header, field_at, header_in, header_bytes, Fits}

-- the field behind other bits
field-digits : (k n v : ℕ) (bytes : List ℕ) (front rest : List Bool) → bits_of bytes ≡ front ++ (digits n v ++ rest) → length front ≡ k → v < 2 ^ n → field_at k n bytes ≡ v
unfolding field_at number
field-digits k n v bytes front rest e at h =
    let behind : drop k (bits_of bytes) ≡ digits n v ++ rest = ap (λ i. drop i (bits_of bytes)) (sym at) ∙ ap (drop (length front)) e ∙ drop-append_seam front (digits n v ++ rest) in
    let all : take n (digits n v ++ rest) ≡ digits n v = ap (λ i. take i (digits n v ++ rest)) (sym (length-digits n v)) ∙ take-append_seam (digits n v) rest in
    ap (λ bits. number (take n bits)) behind ∙ ap number all ∙ number-digits n 0 v h ∙ omega arith

-- a field of whole bytes
field-bytes : (k m v : ℕ) (front rest : List ℕ) → length front ≡ k → v < 2 ^ (8 * m) → field_at (8 * k) (8 * m) (front ++ (bytes_high_first m v ++ rest)) ≡ v
field-bytes k m v front rest at h =
    field-digits (8 * k) (8 * m) v (front ++ (bytes_high_first m v ++ rest)) (bits_of front) (bits_of rest)
    (bits_of-append front (bytes_high_first m v ++ rest) ∙ ap (λ d. bits_of front ++ d) (bits_of-append (bytes_high_first m v) rest ∙ ap (λ d. d ++ bits_of rest) (bits_of-bytes m v)))
    (length-bits_of front ∙ ap (λ n. 8 * n) at)
    h

-- a field of one byte
field-byte : (k v : ℕ) (front rest : List ℕ) → length front ≡ k → v < 2 ^ 8 → field_at (8 * k) 8 (front ++ v ∷ rest) ≡ v
field-byte k v front rest at h =
    field-digits (8 * k) 8 v (front ++ v ∷ rest) (bits_of front) (bits_of rest)
    (bits_of-append front (v ∷ rest) ∙ ap (λ d. bits_of front ++ d) (bits_of-append (v ∷ []) rest ∙ ap (λ d. d ++ bits_of rest) (bits_of-byte v)))
    (length-bits_of front ∙ ap (λ n. 8 * n) at)
    h

-- the last two bytes as digits of four fields
end-digits : (q s p r : ℕ) → s < 2 ^ 5 → p < 2 ^ 2 → r < 2 ^ 3 → digits 16 (q * 2 ^ 10 + s * 2 ^ 5 + p * 2 ^ 3 + r) ≡ digits 6 q ++ (digits 5 s ++ (digits 2 p ++ digits 3 r))
end-digits q s p r hs hp hr =
    let nested : q * 2 ^ 10 + s * 2 ^ 5 + p * 2 ^ 3 + r ≡ ((q * 2 ^ 5 + s) * 2 ^ 2 + p) * 2 ^ 3 + r = omega arith in
    ap (digits 16) nested
    ∙ digits-joined 13 3 ((q * 2 ^ 5 + s) * 2 ^ 2 + p) r hr
    ∙ ap (λ d. d ++ digits 3 r) (digits-joined 11 2 (q * 2 ^ 5 + s) p hp ∙ ap (λ d. d ++ digits 2 p) (digits-joined 6 5 q s hs))
    ∙ append_assoc (digits 6 q ++ digits 5 s) (digits 2 p) (digits 3 r)
    ∙ append_assoc (digits 6 q) (digits 5 s) (digits 2 p ++ digits 3 r)

-- bits with those of the last two bytes
end-bits : (q s p r : ℕ) (front rest : List ℕ) → s < 2 ^ 5 → p < 2 ^ 2 → r < 2 ^ 3
    → bits_of (front ++ (bytes_high_first 2 (q * 2 ^ 10 + s * 2 ^ 5 + p * 2 ^ 3 + r) ++ rest)) ≡ bits_of front ++ (digits 6 q ++ (digits 5 s ++ (digits 2 p ++ (digits 3 r ++ bits_of rest))))
end-bits q s p r front rest hs hp hr =
    let w = q * 2 ^ 10 + s * 2 ^ 5 + p * 2 ^ 3 + r in
    bits_of-append front (bytes_high_first 2 w ++ rest)
    ∙ ap (λ d. bits_of front ++ d) (bits_of-append (bytes_high_first 2 w) rest ∙ ap (λ d. d ++ bits_of rest) (bits_of-bytes 2 w ∙ end-digits q s p r hs hp hr)
    ∙ simp append_assoc)

-- the four fields of the last two bytes
record Ends (bytes : List ℕ) (q s p r : ℕ) : Type 0 where
  qual : field_at 320 6 bytes ≡ q
  shift : field_at 326 5 bytes ≡ s
  pf : field_at 331 2 bytes ≡ p
  reserved : field_at 333 3 bytes ≡ r

end-fields : (q s p r : ℕ) (front rest : List ℕ) → length front ≡ 40 → q < 2 ^ 6 → s < 2 ^ 5 → p < 2 ^ 2 → r < 2 ^ 3
    → Ends (front ++ (bytes_high_first 2 (q * 2 ^ 10 + s * 2 ^ 5 + p * 2 ^ 3 + r) ++ rest)) q s p r
end-fields q s p r front rest at hq hs hp hr =
    let bytes = front ++ (bytes_high_first 2 (q * 2 ^ 10 + s * 2 ^ 5 + p * 2 ^ 3 + r) ++ rest) in
    let f = bits_of front in
    let z = bits_of rest in
    let e : bits_of bytes ≡ f ++ (digits 6 q ++ (digits 5 s ++ (digits 2 p ++ (digits 3 r ++ z)))) = end-bits q s p r front rest hs hp hr in
    let e_shift : bits_of bytes ≡ (f ++ digits 6 q) ++ (digits 5 s ++ (digits 2 p ++ (digits 3 r ++ z))) = e ∙ sym (append_assoc f (digits 6 q) (digits 5 s ++ (digits 2 p ++ (digits 3 r ++ z)))) in
    let e_pf : bits_of bytes ≡ ((f ++ digits 6 q) ++ digits 5 s) ++ (digits 2 p ++ (digits 3 r ++ z)) = e_shift ∙ sym (append_assoc (f ++ digits 6 q) (digits 5 s) (digits 2 p ++ (digits 3 r ++ z))) in
    let e_reserved : bits_of bytes ≡ (((f ++ digits 6 q) ++ digits 5 s) ++ digits 2 p) ++ (digits 3 r ++ z) = e_pf ∙ sym (append_assoc ((f ++ digits 6 q) ++ digits 5 s) (digits 2 p) (digits 3 r ++ z)) in
    let n : length f ≡ 320 = length-bits_of front ∙ ap (λ k. 8 * k) at in
    let n_shift : length (f ++ digits 6 q) ≡ 326 = omega (arith, length-append f (digits 6 q), length-digits 6 q) in
    let n_pf : length ((f ++ digits 6 q) ++ digits 5 s) ≡ 331 = omega (arith, length-append (f ++ digits 6 q) (digits 5 s), length-digits 5 s) in
    let n_reserved : length (((f ++ digits 6 q) ++ digits 5 s) ++ digits 2 p) ≡ 333 = omega (arith, length-append ((f ++ digits 6 q) ++ digits 5 s) (digits 2 p), length-digits 2 p) in
    record {
      qual = field-digits 320 6 q bytes f (digits 5 s ++ (digits 2 p ++ (digits 3 r ++ z))) e n hq;
      shift = field-digits 326 5 s bytes (f ++ digits 6 q) (digits 2 p ++ (digits 3 r ++ z)) e_shift n_shift hs;
      pf = field-digits 331 2 p bytes ((f ++ digits 6 q) ++ digits 5 s) (digits 3 r ++ z) e_pf n_pf hp;
      reserved = field-digits 333 3 r bytes (((f ++ digits 6 q) ++ digits 5 s) ++ digits 2 p) z e_reserved n_reserved hr;
    }

-- the header whose bytes stand there is read, whatever follows them
pub header_in-bytes : (h : Header) (rest : List ℕ) → Fits h → header_in (header_bytes h ++ rest) ≡ h
unfolding header_in header_bytes
header_in-bytes h rest fits =
    let bytes = header_bytes h ++ rest in
    let ends = end-fields h.qual h.shift h.pf h.reserved (take 40 bytes) rest refl fits.qual fits.shift fits.pf fits.reserved in
    λ i. record {
      vmaj = field-byte 7 h.vmaj (take 7 bytes) (drop 8 bytes) refl fits.vmaj i;
      vmin = field-byte 8 h.vmin (take 8 bytes) (drop 9 bytes) refl fits.vmin i;
      vrev = field-byte 9 h.vrev (take 9 bytes) (drop 10 bytes) refl fits.vrev i;
      fmbw = field-bytes 10 2 h.fmbw (take 10 bytes) (drop 12 bytes) refl fits.fmbw i;
      fmbh = field-bytes 12 2 h.fmbh (take 12 bytes) (drop 14 bytes) refl fits.fmbh i;
      picw = field-bytes 14 3 h.picw (take 14 bytes) (drop 17 bytes) refl fits.picw i;
      pich = field-bytes 17 3 h.pich (take 17 bytes) (drop 20 bytes) refl fits.pich i;
      picx = field-byte 20 h.picx (take 20 bytes) (drop 21 bytes) refl fits.picx i;
      picy = field-byte 21 h.picy (take 21 bytes) (drop 22 bytes) refl fits.picy i;
      frn = field-bytes 22 4 h.frn (take 22 bytes) (drop 26 bytes) refl fits.frn i;
      frd = field-bytes 26 4 h.frd (take 26 bytes) (drop 30 bytes) refl fits.frd i;
      parn = field-bytes 30 3 h.parn (take 30 bytes) (drop 33 bytes) refl fits.parn i;
      pard = field-bytes 33 3 h.pard (take 33 bytes) (drop 36 bytes) refl fits.pard i;
      cs = field-byte 36 h.cs (take 36 bytes) (drop 37 bytes) refl fits.cs i;
      nombr = field-bytes 37 3 h.nombr (take 37 bytes) (drop 40 bytes) refl fits.nombr i;
      qual = ends.qual i;
      shift = ends.shift i;
      pf = ends.pf i;
      reserved = ends.reserved i;
    }

-- a header has 42 bytes
pub length-header_bytes : (h : Header) → length (header_bytes h) ≡ 42
unfolding header_bytes
length-header_bytes h = refl
