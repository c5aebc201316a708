-- The bits that modes are written as, and that they are read as these modes. The writer of modes cites these.
use Rattle.std.proofs.Common.{◌≡◌, ◌∙◌, ℕ, zero, suc, ◌+◌, ◌<◌, ◌≤◌, Bool, true, false, cond, List, [], ◌∷◌, ◌++◌, length, drop, get_or, All, Ok, Some, slice_get, refl, ap, sym, arith, append_assoc}
use Rattle.std.proofs.lemmas.List.{append-nil, drop_all}
use Rattle.std.proofs.lemmas.Option.{same_Some}
use Rattle.std.proofs.Math.Seq.{drop-cons}
use Rattle.vid_base.specs.Bits.{digits}
use Rattle.vid_base.specs.Reading.{field}
use Rattle.vid_base.specs.Writing.{ReadsBack}
use Rattle.vid_base.specs.declared.shape.Shape.{Shape}
use Rattle.vid_base.proofs.NumberLemmas.{take-digits}
use Rattle.thr_modes.specs.Forms.{Plain}
use Rattle.thr_modes.specs.InOrder.{each}
use Rattle.thr_modes.specs.LumaFlags.{macro_flags, some_coded}
use Rattle.thr_modes.specs.Modes.{coding_of, mode_in, macro_mode, modes_of, ZeroWhereUncoded}
use Rattle.thr_modes.specs.Written.{mode_code, modes_code}
use Rattle.thr_modes.proofs.EachLemmas.{drop_at}

-- one mode more
pub written_more : (lumas : List (List Bool)) (modes : List ℕ) (m : ℕ) (luma old now new all : List Bool) → slice_get lumas m ≡ Some luma → m < length modes → new ≡ now ++ mode_code luma (get_or modes m 0)
    → now ++ modes_code (drop m lumas) (drop m modes) ≡ old ++ all → new ++ modes_code (drop (m + 1) lumas) (drop (m + 1) modes) ≡ old ++ all
unfolding modes_code
written_more lumas modes m luma old now new all h within e inv =
    let next : suc m ≡ m + 1 = omega arith in
    let there : drop m modes ≡ get_or modes m 0 ∷ drop (m + 1) modes = drop-cons modes m 0 within ∙ ap (λ k. get_or modes m 0 ∷ drop k modes) next in
    let whole = rw (drop_at lumas m luma h, there) at inv in
    rw e (append_assoc now (mode_code luma (get_or modes m 0)) (modes_code (drop (m + 1) lumas) (drop (m + 1) modes)) ∙ whole)

-- no mode more
pub written_all : (lumas : List (List Bool)) (modes : List ℕ) (m : ℕ) (old now all : List Bool) → length lumas ≤ m → now ++ modes_code (drop m lumas) (drop m modes) ≡ old ++ all → now ≡ old ++ all
unfolding modes_code
written_all lumas modes m old now all h inv =
    let whole = rw (drop_all m lumas h) at inv in sym (append-nil now) ∙ whole

-- further bits behind further bits
pub memory_more : (old now new : List Bool) → ((more : List Bool) × (now ≡ old ++ more)) → ((more : List Bool) × (new ≡ now ++ more)) → (more : List Bool) × (new ≡ old ++ more)
memory_more old now new a b = (a.0 ++ b.0, b.1 ∙ ap (λ bits. bits ++ b.0) a.1 ∙ append_assoc old a.0 b.0)

-- a mode is read back
mode_back : (luma : List Bool) (mode : ℕ) (rest : List Bool) → mode < 8 → (some_coded luma ≡ false → mode ≡ 0) → macro_mode Plain luma (mode_code luma mode ++ rest) ≡ Ok (mode, rest)
unfolding macro_mode mode_in mode_code
mode_back luma mode rest small none = go (some_coded luma) refl
  where
    go : (coded : Bool) → some_coded luma ≡ coded → cond coded (field 3 (cond coded (digits 3 mode) [] ++ rest)) (Ok (0, cond coded (digits 3 mode) [] ++ rest)) ≡ Ok (mode, rest)
    go true e = rw (take-digits 3 mode rest small) refl
    go false e = ap (λ k. Ok (k, rest)) (sym (none e))

-- all modes are read back
pub modes_back : (lumas : List (List Bool)) (modes : List ℕ) (rest : List Bool) → length modes ≡ length lumas → All (λ mode. mode < 8) modes → ZeroWhereUncoded lumas modes
    → each (macro_mode Plain) lumas (modes_code lumas modes ++ rest) ≡ Ok (modes, rest)
unfolding each modes_code
modes_back [] [] rest long small none = refl
modes_back [] (mode ∷ modes) rest long small none = absurd (omega arith)
modes_back (luma ∷ lumas) [] rest long small none = absurd (omega arith)
modes_back (luma ∷ lumas) (mode ∷ modes) rest long small none =
    let first : macro_mode Plain luma (mode_code luma mode ++ (modes_code lumas modes ++ rest)) ≡ Ok (mode, modes_code lumas modes ++ rest) =
    mode_back luma mode (modes_code lumas modes ++ rest) (small zero 0 (omega arith)) (λ e. same_Some mode 0 (none zero luma refl e)) in
    rw (append_assoc (mode_code luma mode) (modes_code lumas modes) rest, first, modes_back lumas modes rest (omega arith) (λ k d h. small (suc k) d (omega arith)) (λ k l. none (suc k) l)) refl

-- from the scheme on
pub modes_read_back : (s : Shape) (flags : List Bool) (modes : List ℕ) (old now new : List Bool) → length modes ≡ length (macro_flags s flags) → All (λ mode. mode < 8) modes → ZeroWhereUncoded (macro_flags s flags) modes
    → now ≡ old ++ digits 3 7 → new ≡ now ++ modes_code (macro_flags s flags) modes → ReadsBack (modes_of s flags) modes old new
unfolding modes_of coding_of
modes_read_back s flags modes old now new long small none a b =
    let code : List Bool = modes_code (macro_flags s flags) modes in record {
      more = digits 3 7 ++ code;
      added = b ∙ ap (λ bits. bits ++ code) a ∙ append_assoc old (digits 3 7) code;
      reads = λ rest. rw (append_assoc (digits 3 7) code rest, take-digits 3 7 (code ++ rest) (omega arith)) (modes_back (macro_flags s flags) modes rest long small none);
    }
