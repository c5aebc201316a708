-- Pictures of a film one after another, their sizes, and the text that they make. The calls of `maker` and `making` cite these.
use Rattle.std.proofs.Common.{◌≡◌, ◌∙◌, ℕ, ◌+◌, ◌*◌, ◌/◌, ◌^◌, ◌≤◌, List, [], ◌∷◌, ◌++◌, length, map, take, drop, refl, ap, sym, arith, zero-add, length-append, lit≤}
use Rattle.std.specs.List.{flat_map, range_with_len}
use Rattle.std.proofs.lemmas.Grind.{flat_map-append}
use Rattle.std.proofs.lemmas.List.{append-nil, take-append-drop}
use Rattle.std.proofs.lemmas.List.FromFn.{map-range_with_len_more, take-map-range_with_len}
use Rattle.std.proofs.lemmas.Nat.{mul-le}
use Rattle.y4m_io.specs.Generator.{generated, generated_frames, generated_head}
use Rattle.y4m_io.specs.declared.picture.Picture.{Picture}
use Rattle.y4m_io.specs.Pictures.{IsPicture, IsSize, Samples, samples_of}
use Rattle.y4m_io.specs.Y4m.{frame_text, head_text, y4m_of}
use Rattle.y4m_io.proofs.PictureLemmas.{chroma_most, luma_most}
use Rattle.cut_make.specs.declared.film.Film.{Film}
use Rattle.cut_make.specs.Films.{IsFilm, film_text}
use Rattle.cut_make.specs.Makers.{frame_of, frames_text}

-- pictures of a film have a size
pub film_size : (film : Film) → IsFilm film → IsSize film.w film.h 0
film_size film is =
    let across : (film.w + 15) / 16 ≤ 64 = omega (arith, is.narrow) in
    let up : (film.h + 15) / 16 ≤ 64 = omega (arith, is.low) in
    let most : ((film.w + 15) / 16) * ((film.h + 15) / 16) ≤ 64 * 64 = mul-le ((film.w + 15) / 16) ((film.h + 15) / 16) 64 64 across up in
    record { wide = is.wide; high = is.high; small = omega (arith, most); format = (lit≤ tt, λ e. cc) }

-- how many bytes a frame has at most
pub frame_most : (p : Samples) → IsPicture p → length (frame_text p) ≤ 2 ^ 27
unfolding frame_text
frame_most p is =
    simp length-append (omega (arith, is.whole.y, is.whole.cb, is.whole.cr, luma_most p.w p.h p.pf is.size, chroma_most p.w p.h p.pf is.size))

-- a picture that was made has the size of the film
pub shown_width : (p : Picture) (start n w h : ℕ) → samples_of p ≡ generated start n w h → p.w ≡ w
unfolding generated
shown_width p start n w h is = ap {A = Samples} (λ s. s.w) is

pub shown_height : (p : Picture) (start n w h : ℕ) → samples_of p ≡ generated start n w h → p.h ≡ h
unfolding generated
shown_height p start n w h is = ap {A = Samples} (λ s. s.h) is

pub shown_format : (p : Picture) (start n w h : ℕ) → samples_of p ≡ generated start n w h → p.pf ≡ 0
unfolding generated
shown_format p start n w h is = ap {A = Samples} (λ s. s.pf) is

-- one picture more
pub frames_more : (film : Film) (n : ℕ) → frames_text film (n + 1) ≡ frames_text film n ++ frame_text (frame_of film n)
frames_more film n =
    ap (flat_map frame_text) (map-range_with_len_more (frame_of film) 0 n n (zero-add n))
    ∙ flat_map-append frame_text (map (frame_of film) (range_with_len 0 n)) (frame_of film n ∷ [])
    ∙ ap (λ t. frames_text film n ++ t) (append-nil (frame_text (frame_of film n)))

-- all pictures begin with the first n
pub frames_begin : (film : Film) (n m : ℕ) → n ≤ m → (rest : List ℕ) × (frames_text film m ≡ frames_text film n ++ rest)
frames_begin film n m below =
    let all : List Samples = generated_frames film.start m film.w film.h in
    let rest : List Samples = drop n all in (
      flat_map frame_text rest,
      ap (flat_map frame_text) (sym (take-append-drop n all)) ∙ flat_map-append frame_text (take n all) rest
          ∙ ap (λ (ps : List Samples). flat_map frame_text ps ++ flat_map frame_text rest) (take-map-range_with_len (frame_of film) 0 m n below),
    )

-- a film is its head and all its pictures
pub film_is : (film : Film) → film_text film ≡ head_text (generated_head film.w film.h) ++ frames_text film film.frames
unfolding y4m_of
film_is film = refl
