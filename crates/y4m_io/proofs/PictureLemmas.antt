-- Sizes of pictures, and when two are one. The calls of `picture`, `crop` and `writing` cite these, and crates above.
use Rattle.std.proofs.Common.{◌≡◌, ℕ, ◌+◌, ◌*◌, ◌/◌, ◌≤◌, List, refl, sym, subst, arith}
use Rattle.std.proofs.lemmas.Bool.Decides.{nat_tests}
use Rattle.std.proofs.lemmas.Nat.{mul-le}
use Rattle.y4m_io.specs.Pictures.{Samples, chroma_columns, chroma_rows, IsPicture, IsPictureOf, IsSize}

pub chroma_columns_most : (w pf : ℕ) → chroma_columns w pf ≤ w
chroma_columns_most w pf = grind (arith, nat_tests)

pub chroma_rows_most : (h pf : ℕ) → chroma_rows h pf ≤ h
chroma_rows_most h pf = grind (arith, nat_tests)

-- a picture has at most so many samples of luma
pub luma_most : (w h pf : ℕ) → IsSize w h pf → h * w ≤ 33554432
luma_most w h pf size =
    let across : w ≤ 16 * ((w + 15) / 16) = omega arith in
    let up : h ≤ 16 * ((h + 15) / 16) = omega arith in
    let most : h * w ≤ (16 * ((h + 15) / 16)) * (16 * ((w + 15) / 16)) = mul-le h w (16 * ((h + 15) / 16)) (16 * ((w + 15) / 16)) up across in
    let e : (16 * ((h + 15) / 16)) * (16 * ((w + 15) / 16)) ≡ 256 * (((w + 15) / 16) * ((h + 15) / 16)) = grind arith in
    omega (arith, size.small)

-- and no more of chroma
pub chroma_most : (w h pf : ℕ) → IsSize w h pf → chroma_rows h pf * chroma_columns w pf ≤ 33554432
chroma_most w h pf size =
    let most : chroma_rows h pf * chroma_columns w pf ≤ h * w = mul-le (chroma_rows h pf) (chroma_columns w pf) h w (chroma_rows_most h pf) (chroma_columns_most w pf) in
    omega (arith, luma_most w h pf size)

-- pictures with the same size, format and samples are one
same_fields : (w w2 h h2 pf pf2 : ℕ) (y y2 cb cb2 cr cr2 : List ℕ) → w ≡ w2 → h ≡ h2 → pf ≡ pf2 → y ≡ y2 → cb ≡ cb2 → cr ≡ cr2
    → (let p : Samples = record { w = w; h = h; pf = pf; y = y; cb = cb; cr = cr } in p) ≡ (let q : Samples = record { w = w2; h = h2; pf = pf2; y = y2; cb = cb2; cr = cr2 } in q)
same_fields w w2 h h2 pf pf2 y y2 cb cb2 cr cr2 a b c d e f = rw (a, b, c, d, e, f) refl

pub same_samples : (p q : Samples) → p.w ≡ q.w → p.h ≡ q.h → p.pf ≡ q.pf → p.y ≡ q.y → p.cb ≡ q.cb → p.cr ≡ q.cr → p ≡ q
same_samples p q a b c d e f = same_fields p.w q.w p.h q.h p.pf q.pf p.y q.y p.cb q.cb p.cr q.cr a b c d e f

-- what has a sample at each place of a size is a picture
pub is_picture : (w h pf : ℕ) (p : Samples) → IsSize w h pf → IsPictureOf w h pf p → IsPicture p
is_picture w h pf p size of = record {
  size = subst (λ (n : ℕ). IsSize n p.h p.pf) (sym of.width) (subst (λ (n : ℕ). IsSize w n p.pf) (sym of.height) (subst (λ (n : ℕ). IsSize w h n) (sym of.format) size));
  whole = subst (λ (n : ℕ). IsPictureOf n p.h p.pf p) (sym of.width) (subst (λ (n : ℕ). IsPictureOf w n p.pf p) (sym of.height) (subst (λ (n : ℕ). IsPictureOf w h n p) (sym of.format) of));
}
