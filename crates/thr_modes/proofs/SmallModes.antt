-- Modes that were read are below 8, and 0 where no luma block is coded. The readers of modes cite these.
use Rattle.std.proofs.Common.{◌≡◌, ◌∙◌, ℕ, zero, suc, ◌-◌, ◌^◌, ◌<◌, ◌≤◌, ◌==◌, nat_lt, Bool, true, false, cond, List, [], ◌∷◌, length, map, take, drop, get_or, All, Option, Some, None, unwrap_or, Result, Ok, Err, IfOk, refl, ap, sym, arith}
use Rattle.std.specs.List.{position, list_any, list_all}
use Rattle.std.proofs.lemmas.Bool.{ltb-false}
use Rattle.std.proofs.lemmas.Bool.Decides.{nat_tests}
use Rattle.std.proofs.lemmas.List.{length-take-le}
use Rattle.std.proofs.lemmas.List.Quantifiers.{position-Some}
use Rattle.vid_base.specs.declared.fault.PacketFault.{PacketFault}
use Rattle.vid_base.specs.declared.fault.PacketFault.TheVariants.{BadAlphabet}
use Rattle.vid_base.specs.Bits.{take_bits, number}
use Rattle.vid_base.specs.Items.{items}
use Rattle.vid_base.specs.Reading.{field, or_ended, ◌>>=◌}
use Rattle.vid_base.proofs.NumberLemmas.{number-lt}
use Rattle.thr_modes.specs.Forms.{ModeForm, Ranked, Plain}
use Rattle.thr_modes.specs.InOrder.{each}
use Rattle.thr_modes.specs.LumaFlags.{some_coded}
use Rattle.thr_modes.specs.Modes.{alphabets, mode_with, by_rank, own_alphabet, coding_of, rank_in, mode_in, macro_mode, ZeroWhereUncoded}
use Rattle.thr_modes.proofs.OkLemmas.{after_any, after_ok, Long, more_long}

-- a field is below the power of its width
abbrev Below : ℕ → ℕ × List Bool → Type 0
Below most read = read.0 < most

field_small : (n : ℕ) (bits : List Bool) → IfOk (field n bits) (Below (2 ^ n))
unfolding take_bits number
field_small n bits = go (nat_lt (length bits) n) refl
  where
    go : (few : Bool) → nat_lt (length bits) n ≡ few → IfOk (or_ended (cond few None (Some (number (take n bits), drop n bits)))) (Below (2 ^ n))
    go true e = tt
    go false e =
        let long : length (take n bits) ≡ n = length-take-le n bits (ltb-false (length bits) n e) in
        rw long at (number-lt (take n bits))

-- so many items are as many
items_long : {A F : Type 0} (item : List Bool → Result (A × List Bool) F) (n : ℕ) (bits : List Bool) → IfOk (items item n bits) (Long n)
unfolding items
items_long item zero bits = refl
items_long item (suc n) bits =
    after_any (Long (suc n)) (item bits) (λ first. items item n first.1 >>= (λ others. Ok (first.0 ∷ others.0, others.1))) (λ first. more_long n first.0 (items item n first.1) (items_long item n first.1))

-- modes by rank that are below 8
abbrev AreSmall : List ℕ → Type 0
AreSmall alphabet = (k : ℕ) → get_or alphabet k 0 < 8

tested_small : (alphabet : List ℕ) → list_all (λ mode. nat_lt mode 8) alphabet ≡ true → AreSmall alphabet
tested_small [] e k = omega arith
tested_small (mode ∷ alphabet) e zero = grind (arith, nat_tests)
tested_small (mode ∷ alphabet) e (suc k) = tested_small alphabet (grind (arith, nat_tests)) k

fixed_small : (j : ℕ) → AreSmall (get_or alphabets j [])
fixed_small zero = tested_small (get_or alphabets 0 []) refl
fixed_small (suc zero) = tested_small (get_or alphabets 1 []) refl
fixed_small (suc (suc zero)) = tested_small (get_or alphabets 2 []) refl
fixed_small (suc (suc (suc zero))) = tested_small (get_or alphabets 3 []) refl
fixed_small (suc (suc (suc (suc zero)))) = tested_small (get_or alphabets 4 []) refl
fixed_small (suc (suc (suc (suc (suc zero))))) = tested_small (get_or alphabets 5 []) refl
fixed_small (suc (suc (suc (suc (suc (suc j)))))) = λ k. omega arith

found_small : (ranks : List ℕ) (rank : ℕ) → length ranks ≡ 8 → mode_with ranks rank ≤ 8
found_small ranks rank long = go (position (λ other. other == rank) ranks) refl
  where
    go : (found : Option ℕ) → position (λ other. other == rank) ranks ≡ found → unwrap_or found 8 ≤ 8
    go None e = omega arith
    go (Some place) e = let within = (position-Some (λ other. other == rank) ranks place 0 e).0 in omega arith

found_all : (ranks list : List ℕ) (k : ℕ) → length ranks ≡ 8 → get_or (map (mode_with ranks) list) k 0 ≤ 8
found_all ranks [] k long = omega arith
found_all ranks (rank ∷ list) zero long = found_small ranks rank long
found_all ranks (rank ∷ list) (suc k) long = found_all ranks list k long

no_gap : (alphabet : List ℕ) → ((k : ℕ) → get_or alphabet k 0 ≤ 8) → list_any (λ mode. mode == 8) alphabet ≡ false → AreSmall alphabet
no_gap [] most e k = omega arith
no_gap (mode ∷ alphabet) most e zero = let m : mode ≤ 8 = most zero in grind (arith, nat_tests)
no_gap (mode ∷ alphabet) most e (suc k) = no_gap alphabet (λ j. most (suc j)) (grind (arith, nat_tests)) k

abbrev ReadsSmall : List ℕ × List Bool → Type 0
ReadsSmall read = AreSmall read.0

own_small : (bits : List Bool) → IfOk (own_alphabet bits) ReadsSmall
unfolding own_alphabet
own_small bits =
    after_ok (Long 8) ReadsSmall (items (field 3) 8 bits) (λ ranks. cond (list_any (λ mode. mode == 8) (by_rank ranks.0)) (Err BadAlphabet) (Ok (by_rank ranks.0, ranks.1))) (items_long (field 3) 8 bits)
    (λ ranks long. go ranks (list_any (λ mode. mode == 8) (by_rank ranks.0)) long refl)
  where
    go : (ranks : List ℕ × List Bool) (gap : Bool) → length ranks.0 ≡ 8 → list_any (λ mode. mode == 8) (by_rank ranks.0) ≡ gap → IfOk {E = PacketFault} (cond gap (Err BadAlphabet) (Ok (by_rank ranks.0, ranks.1))) ReadsSmall
    go ranks true long e = tt
    go ranks false long e = no_gap (by_rank ranks.0) (λ k. found_all ranks.0 (0 ∷ 1 ∷ 2 ∷ 3 ∷ 4 ∷ 5 ∷ 6 ∷ 7 ∷ []) k long) e

-- a coding that gives modes below 8
abbrev pub IsSmallCoding : ModeForm → Type 0
IsSmallCoding (Ranked alphabet) = AreSmall alphabet
IsSmallCoding Plain = Unit {0}

abbrev pub ReadsCoding : ModeForm × List Bool → Type 0
ReadsCoding read = IsSmallCoding read.0

pub coding_small : (scheme : ℕ) (bits : List Bool) → IfOk (coding_of scheme bits) ReadsCoding
unfolding coding_of
coding_small scheme bits = go (scheme == 0) (scheme == 7)
  where
    go : (own plain : Bool) → IfOk (cond own (own_alphabet bits >>= (λ alphabet. Ok (Ranked alphabet.0, alphabet.1))) (cond plain (Ok (Plain, bits)) (Ok (Ranked (get_or alphabets (scheme - 1) []), bits)))) ReadsCoding
    go true plain = after_ok ReadsSmall ReadsCoding (own_alphabet bits) (λ alphabet. Ok (Ranked alphabet.0, alphabet.1)) (own_small bits) (λ alphabet small. small)
    go false true = tt
    go false false = fixed_small (scheme - 1)

mode_small : (coding : ModeForm) (bits : List Bool) → IsSmallCoding coding → IfOk (mode_in coding bits) (Below 8)
unfolding mode_in
mode_small (Ranked alphabet) bits small = after_any (Below 8) (rank_in 7 bits) (λ rank. Ok (get_or alphabet rank.0 0, rank.1)) (λ rank. small rank.0)
mode_small Plain bits small = field_small 3 bits

-- the mode of a macro block
abbrev IsMode : List Bool → ℕ × List Bool → Type 0
IsMode luma read = (read.0 < 8) × (some_coded luma ≡ false → read.0 ≡ 0)

macro_small : (coding : ModeForm) (luma : List Bool) (bits : List Bool) → IsSmallCoding coding → IfOk (macro_mode coding luma bits) (IsMode luma)
unfolding macro_mode
macro_small coding luma bits small = go (some_coded luma) refl
  where
    coded : (read : Result (ℕ × List Bool) PacketFault) → some_coded luma ≡ true → IfOk read (Below 8) → IfOk read (IsMode luma)
    coded (Ok mode) e below = (below, λ none. cc)
    coded (Err fault) e below = tt

    go : (some : Bool) → some_coded luma ≡ some → IfOk (cond some (mode_in coding bits) (Ok (0, bits))) (IsMode luma)
    go true e = coded (mode_in coding bits) e (mode_small coding bits small)
    go false e = (omega arith, λ none. refl)

-- the modes of all macro blocks
pub record AreModes (lumas : List (List Bool)) (modes : List ℕ) : Type 0 where
  pub small : All (λ mode. mode < 8) modes
  pub zero_where_uncoded : ZeroWhereUncoded lumas modes

abbrev pub ReadsModes : List (List Bool) → List ℕ × List Bool → Type 0
ReadsModes lumas read = AreModes lumas read.0

more_modes : (luma : List Bool) (lumas : List (List Bool)) (first : ℕ × List Bool) (read : Result (List ℕ × List Bool) PacketFault) → IsMode luma first → IfOk read (ReadsModes lumas)
    → IfOk (read >>= (λ others. Ok (first.0 ∷ others.0, others.1))) (ReadsModes (luma ∷ lumas))
more_modes luma lumas first (Err fault) is are = tt
more_modes luma lumas first (Ok others) is are = record { small = all; zero_where_uncoded = none }
  where
    all : All (λ mode. mode < 8) (first.0 ∷ others.0)
    all zero d h = is.0
    all (suc k) d h = are.small k d (omega arith)

    none : ZeroWhereUncoded (luma ∷ lumas) (first.0 ∷ others.0)
    none zero other e uncoded = ap Some (is.1 (ap some_coded (sym (let same : other ≡ luma = cc in same)) ∙ uncoded))
    none (suc m) other e uncoded = are.zero_where_uncoded m other e uncoded

pub modes_small : (coding : ModeForm) (lumas : List (List Bool)) (bits : List Bool) → IsSmallCoding coding → IfOk (each (macro_mode coding) lumas bits) (ReadsModes lumas)
unfolding each
modes_small coding [] bits small = record { small = λ k d h. absurd (omega arith); zero_where_uncoded = λ m luma e uncoded. cc }
modes_small coding (luma ∷ lumas) bits small =
    after_ok (IsMode luma) (ReadsModes (luma ∷ lumas)) (macro_mode coding luma bits) (λ first. each (macro_mode coding) lumas first.1 >>= (λ others. Ok (first.0 ∷ others.0, others.1))) (macro_small coding luma bits small)
    (λ first is. more_modes luma lumas first (each (macro_mode coding) lumas first.1) is (modes_small coding lumas first.1 small))

-- from the scheme on
pub read_are : (scheme : ℕ) (coding : ModeForm) (lumas : List (List Bool)) (modes : List ℕ) (bits left rest : List Bool) → coding_of scheme bits ≡ Ok (coding, left) → each (macro_mode coding) lumas left ≡ Ok (modes, rest) → AreModes lumas modes
read_are scheme coding lumas modes bits left rest e f =
    let small = rw e at (coding_small scheme bits) in
    rw f at (modes_small coding lumas left small)
