-- The flags of a frame as those of its superblocks: one superblock more of each string, and that the strings say the flags.
use Rattle.std.proofs.Common.{arith, ◌≡◌, ◌∙◌, ◌+◌, ◌*◌, ◌-◌, ◌<◌, ◌≤◌, ℕ, zero, suc, Bool, true, false, not, ◌&&◌, List, [], ◌∷◌, ◌++◌, length, get_or, take, drop, map, Some, slice_get, sym, ap, refl, append_assoc, length-append, Ok}
use Rattle.std.specs.List.{All, filter, list_any}
use Rattle.std.specs.Prelude.{replicate, sum}
use Rattle.std.proofs.lemmas.Bool.{false≢true}
use Rattle.std.proofs.lemmas.List.{append-nil, drop-drop, drop_at, drop_more, length-drop, length-map, length-take, map-append, nil_from_length, take-append-drop, take_all, take_at, take_more}
use Rattle.std.proofs.lemmas.List.Elements.{All-cons, All-head, All-map, All-nil, All-tail, filter-append}
use Rattle.std.proofs.lemmas.List.Sums.{count_by-le-length, length-filter, sum_by-cons}
use Rattle.std.proofs.lemmas.Option.{get_or_from_slice_get, slice_get_within}
use Rattle.vid_base.specs.declared.shape.Shape.{Shape}
use Rattle.vid_geom.specs.declared.block.Block.{Block}
use Rattle.vid_geom.specs.Squares.{joined}
use Rattle.vid_geom.specs.CodedOrder.{order_of, superblocks}
use Rattle.vid_geom.proofs.ListLemmas.{filter-map, joined-append}
use Rattle.thr_flags.specs.RunStrings.{Long, Short}
use Rattle.vid_base.specs.Writing.{ReadsBack}
use Rattle.thr_flags.specs.Writing.{AddsString, most_bits}
use Rattle.thr_flags.specs.Flags.{count_whole, flags_of, partial_blocks, sizes_of, spread}
use Rattle.thr_flags.specs.WrittenFlags.{fully_in, is_partial, partly_in, parts, parts_of, single_in}
use Rattle.thr_flags.proofs.FlagLemmas.{get_or-lengths, length-sizes_of, size_at}

-- the flags of a superblock stand at its places
part_in : (lists : List (List Block)) (flags : List Bool) (k : ℕ) → k < length lists
    → slice_get (parts (map length lists) flags) k ≡ Some (take (length (get_or lists k [])) (drop (length (joined (take k lists))) flags))
unfolding parts joined
part_in [] flags k h = absurd (omega arith)
part_in (blocks ∷ lists) flags zero h = refl
part_in (blocks ∷ lists) flags (suc k) h =
    part_in lists (drop (length blocks) flags) k (omega arith)
    ∙ ap (λ l. Some (take (length (get_or lists k [])) l)) (drop-drop (length (joined (take k lists))) (length blocks) flags ∙ ap (λ n. drop n flags) (sym (length-append blocks (joined (take k lists)))))

pub part_at : (s : Shape) (flags : List Bool) (k first past : ℕ) → k < length (superblocks s) → first ≡ length (joined (take k (superblocks s))) → past ≡ length (joined (take (k + 1) (superblocks s)))
    → slice_get (parts (sizes_of s) flags) k ≡ Some (take (past - first) (drop first flags))
unfolding sizes_of
part_at s flags k first past h e f =
    let size : past - first ≡ length (get_or (superblocks s) k []) = omega (arith, size_at s k first past h e f, get_or-lengths (superblocks s) k) in
    rw (size, e) (part_in (superblocks s) flags k h)

pub length-parts : (sizes : List ℕ) (flags : List Bool) → length (parts sizes flags) ≡ length sizes
unfolding parts
length-parts [] flags = refl
length-parts (n ∷ sizes) flags = ap suc (length-parts sizes (drop n flags))

-- all superblocks were taken
pub all_parts : (s : Shape) (flags : List Bool) (k : ℕ) → length (superblocks s) ≤ k → take k (parts (sizes_of s) flags) ≡ parts (sizes_of s) flags
all_parts s flags k h = take_all k (parts (sizes_of s) flags) (omega (arith, length-parts (sizes_of s) flags, length-sizes_of s))

-- no superblock has more than 16 flags
small_parts : (sizes : List ℕ) (flags : List Bool) → All (λ n. n ≤ 16) sizes → All (λ part. length part ≤ 16) (parts sizes flags)
unfolding parts
small_parts [] flags small = All-nil (λ part. length part ≤ 16)
small_parts (n ∷ sizes) flags small =
    All-cons (λ part. length part ≤ 16) (take n flags) (parts sizes (drop n flags)) (omega (arith, length-take n flags, All-head (λ n. n ≤ 16) n sizes small)) (small_parts sizes (drop n flags) (All-tail (λ n. n ≤ 16) n sizes small))

pub small_superblocks : (s : Shape) (flags : List Bool) → All (λ blocks. length blocks ≤ 16) (superblocks s) → All (λ part. length part ≤ 16) (parts (sizes_of s) flags)
unfolding sizes_of
small_superblocks s flags small = small_parts (map length (superblocks s)) flags (All-map (λ n. n ≤ 16) length (superblocks s) small)

-- one part more
take_next : {X : Type 0} (xs : List X) (k : ℕ) (x : X) → slice_get xs k ≡ Some x → take (k + 1) xs ≡ take k xs ++ x ∷ []
take_next xs k x h = take_more xs k x (slice_get_within xs k x h) ∙ ap (λ y. take k xs ++ y ∷ []) (get_or_from_slice_get xs k x x h)

pub partly_next : (parts : List (List Bool)) (k : ℕ) (part : List Bool) → slice_get parts k ≡ Some part → partly_in (take (k + 1) parts) ≡ partly_in (take k parts) ++ is_partial part ∷ []
unfolding partly_in
partly_next parts k part h = ap (map is_partial) (take_next parts k part h) ∙ map-append is_partial (take k parts) (part ∷ [])

pub fully_next : (parts : List (List Bool)) (k : ℕ) (part : List Bool) → slice_get parts k ≡ Some part → is_partial part ≡ false → fully_in (take (k + 1) parts) ≡ fully_in (take k parts) ++ get_or part 0 false ∷ []
unfolding fully_in
fully_next parts k part h e =
    let more = filter-append (λ p. not (is_partial p)) (take k parts) (part ∷ []) in
    ap (λ l. map (λ p. get_or p 0 false) (filter (λ p. not (is_partial p)) l)) (take_next parts k part h)
    ∙ ap (map (λ p. get_or p 0 false)) (rw e at more)
    ∙ map-append (λ p. get_or p 0 false) (filter (λ p. not (is_partial p)) (take k parts)) (part ∷ [])

pub fully_same : (parts : List (List Bool)) (k : ℕ) (part : List Bool) → slice_get parts k ≡ Some part → is_partial part ≡ true → fully_in (take (k + 1) parts) ≡ fully_in (take k parts)
unfolding fully_in
fully_same parts k part h e =
    let more = filter-append (λ p. not (is_partial p)) (take k parts) (part ∷ []) in
    ap (λ l. map (λ p. get_or p 0 false) (filter (λ p. not (is_partial p)) l)) (take_next parts k part h)
    ∙ ap (map (λ p. get_or p 0 false)) (rw e at more ∙ append-nil (filter (λ p. not (is_partial p)) (take k parts)))

pub single_next : (parts : List (List Bool)) (k : ℕ) (part : List Bool) → slice_get parts k ≡ Some part → is_partial part ≡ true → single_in (take (k + 1) parts) ≡ single_in (take k parts) ++ part
unfolding single_in joined
single_next parts k part h e =
    let more = filter-append is_partial (take k parts) (part ∷ []) in
    ap (λ l. joined (filter is_partial l)) (take_next parts k part h)
    ∙ ap joined (rw e at more) ∙ joined-append (filter is_partial (take k parts)) (part ∷ [])
    ∙ ap (λ l. single_in (take k parts) ++ l) (append-nil part)

pub single_same : (parts : List (List Bool)) (k : ℕ) (part : List Bool) → slice_get parts k ≡ Some part → is_partial part ≡ false → single_in (take (k + 1) parts) ≡ single_in (take k parts)
unfolding single_in
single_same parts k part h e =
    let more = filter-append is_partial (take k parts) (part ∷ []) in
    ap (λ l. joined (filter is_partial l)) (take_next parts k part h) ∙ ap joined (rw e at more ∙ append-nil (filter is_partial (take k parts)))

-- what stands behind a place of the third string
pub single_split : (parts : List (List Bool)) (k i : ℕ) (part : List Bool) → slice_get parts k ≡ Some part → is_partial part ≡ true → i < length part
    → single_in parts ≡ (single_in (take k parts) ++ take i part) ++ get_or part i false ∷ (drop (i + 1) part ++ single_in (drop (k + 1) parts))
unfolding single_in
single_split parts k i part h e l =
    let rest : List Bool = single_in (drop (k + 1) parts) in
    let whole : part ≡ take i part ++ get_or part i false ∷ drop (i + 1) part = sym (take-append-drop i part) ∙ ap (λ z. take i part ++ z) (drop_more part i false l) in
    ap (λ l. joined (filter is_partial l)) (sym (take-append-drop (k + 1) parts))
    ∙ ap joined (filter-append is_partial (take (k + 1) parts) (drop (k + 1) parts)) ∙ joined-append (filter is_partial (take (k + 1) parts)) (filter is_partial (drop (k + 1) parts))
    ∙ ap (λ z. z ++ rest) (single_next parts k part h e ∙ ap (λ z. single_in (take k parts) ++ z) whole ∙ sym (append_assoc (single_in (take k parts)) (take i part) (get_or part i false ∷ drop (i + 1) part)))
    ∙ append_assoc (single_in (take k parts) ++ take i part) (get_or part i false ∷ drop (i + 1) part) rest

-- values of which none is uncoded are all coded
all_coded : (part : List Bool) → list_any not part ≡ false → part ≡ replicate (length part) true
all_coded [] h = refl
all_coded (true ∷ part) h = ap (λ z. true ∷ z) (all_coded part h)
all_coded (false ∷ part) h = absurd (false≢true (sym h))

none_coded : (part : List Bool) → list_any (λ v. v) part ≡ false → part ≡ replicate (length part) false
none_coded [] h = refl
none_coded (true ∷ part) h = absurd (false≢true (sym h))
none_coded (false ∷ part) h = ap (λ z. false ∷ z) (none_coded part h)

-- a superblock that is not partly coded has one flag for all its blocks
one_flag : (part : List Bool) → is_partial part ≡ false → part ≡ replicate (length part) (get_or part 0 false)
unfolding is_partial
one_flag [] h = refl
one_flag (true ∷ part) h = ap (λ z. true ∷ z) (all_coded part h)
one_flag (false ∷ part) h = go (list_any (λ v. v) part) refl h
  where
    go : (b : Bool) → list_any (λ v. v) part ≡ b → (b && true) ≡ false → false ∷ part ≡ replicate (suc (length part)) false
    go true e i = absurd (false≢true (sym i))
    go false e i = ap (λ z. false ∷ z) (none_coded part e)

-- each other superblock has an entry in the second string
pub length-fully_in : (parts : List (List Bool)) → length (fully_in parts) ≡ count_whole (partly_in parts)
unfolding fully_in partly_in
length-fully_in parts =
    let others : List (List Bool) = filter (λ p. not (is_partial p)) parts in
    length-map others (λ p. get_or p 0 false) ∙ sym (length-map others is_partial) ∙ ap length (sym (filter-map not is_partial parts)) ∙ length-filter not (map is_partial parts)

length-first : (sizes : List ℕ) (n : ℕ) (flags : List Bool) → length flags ≡ sum (n ∷ sizes) → (length (take n flags) ≡ n) × (length (drop n flags) ≡ sum sizes)
length-first sizes n flags h = (omega (arith, length-take n flags, sum_by-cons (λ x. x) n sizes), omega (arith, length-drop n flags, sum_by-cons (λ x. x) n sizes))

-- each block of a partly coded superblock has an entry in the third
pub length-single_in : (sizes : List ℕ) (flags : List Bool) → length flags ≡ sum sizes → length (single_in (parts sizes flags)) ≡ partial_blocks sizes (partly_in (parts sizes flags))
unfolding single_in partly_in parts partial_blocks joined
length-single_in [] flags h = refl
length-single_in (n ∷ sizes) flags h =
    let rest : List (List Bool) = parts sizes (drop n flags) in
    go rest (is_partial (take n flags)) refl (length-single_in sizes (drop n flags) (length-first sizes n flags h).1)
  where
    go : (rest : List (List Bool)) (b : Bool) → is_partial (take n flags) ≡ b → length (single_in rest) ≡ partial_blocks sizes (partly_in rest) → length (single_in (take n flags ∷ rest)) ≡ partial_blocks (n ∷ sizes) (partly_in (take n flags ∷ rest))
    go rest true e i = rw e (omega (arith, length-append (take n flags) (single_in rest), (length-first sizes n flags h).0))
    go rest false e i = rw e (omega (arith, i))

-- the three strings say the flags
pub spread_parts : (sizes : List ℕ) (flags : List Bool) → length flags ≡ sum sizes → spread sizes (partly_in (parts sizes flags)) (fully_in (parts sizes flags)) (single_in (parts sizes flags)) ≡ flags
unfolding single_in partly_in fully_in parts spread joined
spread_parts [] flags h = sym (nil_from_length flags h)
spread_parts (n ∷ sizes) flags h = go (is_partial (take n flags)) refl (spread_parts sizes (drop n flags) (length-first sizes n flags h).1)
  where
    part : List Bool
    part = take n flags

    rest : List (List Bool)
    rest = parts sizes (drop n flags)

    long : length (take n flags) ≡ n
    long = (length-first sizes n flags h).0

    go : (b : Bool) → is_partial (take n flags) ≡ b → spread sizes (partly_in (parts sizes (drop n flags))) (fully_in (parts sizes (drop n flags))) (single_in (parts sizes (drop n flags))) ≡ drop n flags
        → spread (n ∷ sizes) (partly_in (parts (n ∷ sizes) flags)) (fully_in (parts (n ∷ sizes) flags)) (single_in (parts (n ∷ sizes) flags)) ≡ flags
    go true e i = rw (e, take_at part (single_in rest) n long, drop_at part (single_in rest) n long, i) (take-append-drop n flags)
    go false e i = rw (e, i) (ap (λ z. z ++ drop n flags) (ap (λ k. replicate k (get_or part 0 false)) (sym long) ∙ sym (one_flag part e)) ∙ take-append-drop n flags)

sum-lengths : (lists : List (List Block)) → sum (map length lists) ≡ length (joined lists)
unfolding joined
sum-lengths [] = refl
sum-lengths (blocks ∷ lists) = omega (arith, sum_by-cons (λ x. x) (length blocks) (map length lists), length-append blocks (joined lists), sum-lengths lists)

sum-sizes_of : (s : Shape) → sum (sizes_of s) ≡ length (order_of s)
unfolding sizes_of order_of
sum-sizes_of s = sum-lengths (superblocks s)

length-partly_in : (s : Shape) (flags : List Bool) → length (superblocks s) ≡ length (partly_in (parts (sizes_of s) flags))
unfolding partly_in sizes_of
length-partly_in s flags = sym (length-map (parts (sizes_of s) flags) is_partial ∙ length-parts (sizes_of s) flags ∙ length-map (superblocks s) length)

-- three strings one behind the other are read as the flags
pub flags_back : (s : Shape) (flags : List Bool) (old first second new : List Bool) → length flags ≡ length (order_of s)
    → AddsString Long (partly_in (parts_of s flags)) old first
    → AddsString Long (fully_in (parts_of s flags)) first second
    → AddsString Short (single_in (parts_of s flags)) second new
    → ReadsBack (flags_of s) flags old new
unfolding flags_of
flags_back s flags old first second new h a b c =
    let whole : length flags ≡ sum (sizes_of s) = h ∙ sym (sum-sizes_of s) in
    let n = sym (length-fully_in (parts (sizes_of s) flags)) in
    let m = sym (length-single_in (sizes_of s) flags whole) in
    record {
      more = a.more ++ b.more ++ c.more;
      added = c.added ∙ ap (λ z. z ++ c.more) (b.added ∙ ap (λ z. z ++ b.more) a.added ∙ append_assoc old a.more b.more) ∙ append_assoc old (a.more ++ b.more) c.more;
      reads = λ rest.
          let bits : (a.more ++ b.more ++ c.more) ++ rest ≡ a.more ++ (b.more ++ (c.more ++ rest)) = append_assoc (a.more ++ b.more) c.more rest ∙ append_assoc a.more b.more (c.more ++ rest) in
          rw (bits, length-partly_in s flags, a.reads (b.more ++ (c.more ++ rest)), n, b.reads (c.more ++ rest), m, c.reads rest) (ap (λ z. Ok (z, rest)) (spread_parts (sizes_of s) flags whole));
    }

-- the strings of the flags have few values, and so few bits
parted : (sizes : List ℕ) (flags : List Bool) → length (single_in (parts sizes flags)) ≤ length flags
unfolding single_in parts joined
parted [] flags = omega arith
parted (n ∷ sizes) flags = go (is_partial (take n flags)) refl (parted sizes (drop n flags))
  where
    rest : List (List Bool)
    rest = parts sizes (drop n flags)

    go : (b : Bool) → is_partial (take n flags) ≡ b → length (single_in rest) ≤ length (drop n flags) → length (single_in (take n flags ∷ rest)) ≤ length flags
    go true e i = rw e (omega (arith, i, length-append (take n flags) (single_in rest), length-append (take n flags) (drop n flags), ap length (take-append-drop n flags)))
    go false e i = rw e (omega (arith, i, length-append (take n flags) (drop n flags), ap length (take-append-drop n flags)))

pub flags_few : (s : Shape) (flags : List Bool) (a b c d : ℕ) → length flags ≡ length (order_of s)
    → b ≤ a + most_bits (length (partly_in (parts_of s flags))) → c ≤ b + most_bits (length (fully_in (parts_of s flags))) → d ≤ c + most_bits (length (single_in (parts_of s flags)))
    → d ≤ a + (3 + 4 * length (superblocks s) + 2 * length (order_of s))
flags_few s flags a b c d h x y z =
    omega (arith, h, x, y, z, length-partly_in s flags, length-fully_in (parts (sizes_of s) flags), count_by-le-length not (partly_in (parts (sizes_of s) flags)), parted (sizes_of s) flags)
