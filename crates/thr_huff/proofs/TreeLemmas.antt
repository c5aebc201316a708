-- Sizes of the codes of a tree and of its parts, and that what was written for a tree is read as the tree. Reading and writing trees cite these.
use Rattle.std.proofs.Common.{◌≡◌, ◌≤◌, ◌<◌, ◌+◌, ◌-◌, ◌^◌, ℕ, zero, suc, Bool, true, false, nat_lt, List, [], ◌∷◌, ◌++◌, map, length, length-append, Some, Ok, Err, refl, ap, sym, ◌∙◌, arith, lit<, append_assoc, All}
use Rattle.std.proofs.lemmas.List.{length-map}
use Rattle.std.proofs.lemmas.List.Elements.{All-nil, All-cons, All-head, All-tail, All-append, All-map, All-weaker}
use Rattle.std.proofs.lemmas.Bool.{lt-ltb}
use Rattle.vid_base.specs.Bits.{digits}
use Rattle.vid_base.specs.Reading.{GivesOrNoMem}
use Rattle.vid_base.specs.declared.fault.Refusal.{Refusal}
use Rattle.vid_base.specs.declared.fault.Refusal.TheVariants.{Bad, NoMem}
use Rattle.vid_base.proofs.DigitLemmas.{length-digits}
use Rattle.vid_base.proofs.NumberLemmas.{take-digits}
use Rattle.thr_huff.specs.declared.code.Code.{Code}
use Rattle.thr_huff.specs.CodeTree.{CodeTree, Token, Fork}
use Rattle.thr_huff.specs.Codes.{codes_of, longer, code_of, code_bits}
use Rattle.thr_huff.specs.Trees.{tree_at, tree_bits, FitsLevels, IsTree}
use Rattle.thr_huff.proofs.CodeLemmas.{code_of-short}

-- what holds of each element of a list holds in its parts
all_left : {X : Type 0} (P : X → Type 0) (xs ys : List X) → All P (xs ++ ys) → All P xs
all_left P [] ys h = All-nil P
all_left P (x ∷ xs) ys h = All-cons P x xs (All-head P x (xs ++ ys) h) (all_left P xs ys (All-tail P x (xs ++ ys) h))

all_right : {X : Type 0} (P : X → Type 0) (xs ys : List X) → All P (xs ++ ys) → All P ys
all_right P [] ys h = h
all_right P (x ∷ xs) ys h = all_right P xs ys (All-tail P x (xs ++ ys) h)

all_before : {X Y : Type 0} (P : X → Type 0) (f : Y → X) (ys : List Y) → All P (map f ys) → All (λ y. P (f y)) ys
all_before P f [] h = All-nil (λ y. P (f y))
all_before P f (y ∷ ys) h = All-cons (λ z. P (f z)) y ys (All-head P (f y) (map f ys) h) (all_before P f ys (All-tail P (f y) (map f ys) h))

-- what holds of all codes of a branch holds of those of its trees with their bit in front, and the other way round
pub each_left : (P : List Bool × ℕ → Type 0) (left right : CodeTree) → All P (codes_of (Fork left right)) → All (λ code. P (longer false code)) (codes_of left)
unfolding codes_of
each_left P left right h = all_before P (longer false) (codes_of left) (all_left P (map (longer false) (codes_of left)) (map (longer true) (codes_of right)) h)

pub each_right : (P : List Bool × ℕ → Type 0) (left right : CodeTree) → All P (codes_of (Fork left right)) → All (λ code. P (longer true code)) (codes_of right)
unfolding codes_of
each_right P left right h = all_before P (longer true) (codes_of right) (all_right P (map (longer false) (codes_of left)) (map (longer true) (codes_of right)) h)

each_of : (P : List Bool × ℕ → Type 0) (left right : CodeTree) → All (λ code. P (longer false code)) (codes_of left) → All (λ code. P (longer true code)) (codes_of right) → All P (codes_of (Fork left right))
unfolding codes_of
each_of P left right l r =
    All-append P (map (longer false) (codes_of left)) (map (longer true) (codes_of right)) (All-map P (longer false) (codes_of left) l) (All-map P (longer true) (codes_of right) r)

-- a branch has the leaves of both of its trees, and each tree has one
pub length-codes_of : (left right : CodeTree) → length (codes_of (Fork left right)) ≡ length (codes_of left) + length (codes_of right)
unfolding codes_of
length-codes_of left right =
    omega (arith, length-append (map (longer false) (codes_of left)) (map (longer true) (codes_of right)), length-map (codes_of left) (longer false), length-map (codes_of right) (longer true))

some_leaf : (tree : CodeTree) → 0 < length (codes_of tree)
unfolding codes_of
some_leaf (Token token) = lit< tt
some_leaf (Fork left right) = omega (arith, length-codes_of left right, some_leaf left)

pub fewer_left : (left right : CodeTree) → length (codes_of left) < length (codes_of (Fork left right))
fewer_left left right = omega (arith, length-codes_of left right, some_leaf right)

pub fewer_right : (left right : CodeTree) → length (codes_of right) < length (codes_of (Fork left right))
fewer_right left right = omega (arith, length-codes_of left right, some_leaf left)

-- where no code of a branch has more than 32 bits, those of its trees have less
shorter : (n : ℕ) (b : Bool) (tree : CodeTree) → All (λ code. length (longer b code).0 < suc n) (codes_of tree) → All (λ code. length code.0 < n) (codes_of tree)
shorter n b tree = All-weaker (λ (code : List Bool × ℕ). length (longer b code).0 < suc n) (λ code. length code.0 < n) (λ code k. omega arith) (codes_of tree)

short_left : (n : ℕ) (left right : CodeTree) → All (λ code. length code.0 < suc n) (codes_of (Fork left right)) → All (λ code. length code.0 < n) (codes_of left)
short_left n left right h = shorter n false left (each_left (λ code. length code.0 < suc n) left right h)

short_right : (n : ℕ) (left right : CodeTree) → All (λ code. length code.0 < suc n) (codes_of (Fork left right)) → All (λ code. length code.0 < n) (codes_of right)
short_right n left right h = shorter n true right (each_right (λ code. length code.0 < suc n) left right h)

wider : (tree : CodeTree) → All (λ code. length code.0 < 32) (codes_of tree) → All (λ code. length code.0 < 33) (codes_of tree)
wider tree = All-weaker (λ (code : List Bool × ℕ). length code.0 < 32) (λ code. length code.0 < 33) (λ code k. omega arith) (codes_of tree)

pub within_left : (left right : CodeTree) → All (λ code. length code.0 < 33) (codes_of (Fork left right)) → All (λ code. length code.0 < 33) (codes_of left)
within_left left right h = wider left (short_left 32 left right h)

pub within_right : (left right : CodeTree) → All (λ code. length code.0 < 33) (codes_of (Fork left right)) → All (λ code. length code.0 < 33) (codes_of right)
within_right left right h = wider right (short_right 32 left right h)

-- so that one bit more may stand in front of a code of either tree
pub room_left : (left right : CodeTree) (token : ℕ) (code : Code) → All (λ code. length code.0 < 33) (codes_of (Fork left right)) → Some (code_bits code) ≡ code_of (codes_of left) token → code.len < 32
room_left left right token code short e =
    omega (arith, length-digits code.len code.bits, code_of-short 32 (codes_of left) token (code_bits code) (short_left 32 left right short) (sym e))

pub room_right : (left right : CodeTree) (token : ℕ) (code : Code) → All (λ code. length code.0 < 33) (codes_of (Fork left right)) → Some (code_bits code) ≡ code_of (codes_of right) token → code.len < 32
room_right left right token code short e =
    omega (arith, length-digits code.len code.bits, code_of-short 32 (codes_of right) token (code_bits code) (short_right 32 left right short) (sym e))

-- a leaf fits one level
pub fits_leaf : (n token : ℕ) → 0 < n → token < 32 → FitsLevels n (Token token)
unfolding codes_of
fits_leaf n token h k = record {
  short = All-cons (λ (code : List Bool × ℕ). length code.0 < n) ([], token) [] h (All-nil _);
  tokens = All-cons (λ (code : List Bool × ℕ). code.1 < 32) ([], token) [] k (All-nil _);
}

-- a branch needs one level more than its trees
longer_within : (m n : ℕ) (b : Bool) (tree : CodeTree) → m < n → All (λ code. length code.0 < m) (codes_of tree) → All (λ code. length (longer b code).0 < n) (codes_of tree)
longer_within m n b tree lt = All-weaker (λ (code : List Bool × ℕ). length code.0 < m) (λ code. length (longer b code).0 < n) (λ code k. omega arith) (codes_of tree)

pub fits_fork : (m n : ℕ) (left right : CodeTree) → m < n → FitsLevels m left → FitsLevels m right → FitsLevels n (Fork left right)
fits_fork m n left right lt l r = record {
  short = each_of (λ code. length code.0 < n) left right (longer_within m n false left lt l.short) (longer_within m n true right lt r.short);
  tokens = each_of (λ code. code.1 < 32) left right l.tokens r.tokens;
}

parts_left : (n : ℕ) (left right : CodeTree) → FitsLevels (suc n) (Fork left right) → FitsLevels n left
parts_left n left right fits = record { short = short_left n left right fits.short; tokens = each_left (λ code. code.1 < 32) left right fits.tokens }

parts_right : (n : ℕ) (left right : CodeTree) → FitsLevels (suc n) (Fork left right) → FitsLevels n right
parts_right n left right fits = record { short = short_right n left right fits.short; tokens = each_right (λ code. code.1 < 32) left right fits.tokens }

-- a tree of at most 33 levels and 32 leaves is one that a setup header can hold, and the other way round
pub is_tree : (tree : CodeTree) → length (codes_of tree) ≤ 32 → FitsLevels 33 tree → IsTree tree
is_tree tree few fits = record {
  few = few;
  short = All-weaker (λ (code : List Bool × ℕ). length code.0 < 33) (λ code. length code.0 ≤ 32) (λ code k. omega arith) (codes_of tree) fits.short;
  tokens = fits.tokens;
}

pub fits_levels : (tree : CodeTree) → IsTree tree → FitsLevels 33 tree
fits_levels tree is = record {
  short = All-weaker (λ (code : List Bool × ℕ). length code.0 ≤ 32) (λ code. length code.0 < 33) (λ code k. omega arith) (codes_of tree) is.short;
  tokens = is.tokens;
}

-- the writes at a leaf, one behind the other
pub written_leaf : (old : List Bool) (token : ℕ) → (old ++ digits 1 1) ++ digits 5 token ≡ old ++ tree_bits (Token token)
unfolding digits tree_bits
written_leaf old token = append_assoc old (digits 1 1) (digits 5 token)

-- the writes at a branch, one behind the other
pub written_fork : (old : List Bool) (left right : CodeTree) → ((old ++ digits 1 0) ++ tree_bits left) ++ tree_bits right ≡ old ++ tree_bits (Fork left right)
unfolding digits tree_bits
written_fork old left right = append_assoc (old ++ digits 1 0) (tree_bits left) (tree_bits right) ∙ append_assoc old (digits 1 0) (tree_bits left ++ tree_bits right)

-- a tree has a level
some_level : (tree : CodeTree) → All (λ code. length code.0 < 0) (codes_of tree) → ⊥
unfolding codes_of
some_level (Token token) h = let none : 0 < 0 = All-head (λ (code : List Bool × ℕ). length code.0 < 0) ([], token) [] h in omega arith
some_level (Fork left right) h =
    some_level left (short_left 0 left right (All-weaker (λ (code : List Bool × ℕ). length code.0 < 0) (λ code. length code.0 < 1) (λ code k. omega arith) (codes_of (Fork left right)) h))

-- what was written for a tree is read as the tree, whatever follows
pub tree_at-tree_bits : (tree : CodeTree) (levels leaves : ℕ) (rest : List Bool) → FitsLevels levels tree → leaves + length (codes_of tree) ≤ 32 → tree_at levels leaves (tree_bits tree ++ rest) ≡ Ok (tree, rest)
unfolding tree_at tree_bits codes_of
tree_at-tree_bits tree zero leaves rest fits few = absurd (some_level tree fits.short)
tree_at-tree_bits (Token token) (suc levels) leaves rest fits few =
    let small : token < 2 ^ 5 = All-head (λ (code : List Bool × ℕ). code.1 < 32) ([], token) [] fits.tokens in
    let room : nat_lt leaves 32 ≡ true = lt-ltb leaves 32 (omega arith) in
    rw (room, take-digits 5 token rest small) refl
tree_at-tree_bits (Fork left right) (suc levels) leaves rest fits few =
    let both : length (codes_of (Fork left right)) ≡ length (codes_of left) + length (codes_of right) = length-codes_of left right in
    rw (
      append_assoc (tree_bits left) (tree_bits right) rest,
      tree_at-tree_bits left levels leaves (tree_bits right ++ rest) (parts_left levels left right fits) (omega arith),
      tree_at-tree_bits right levels (leaves + length (codes_of left)) rest (parts_right levels left right fits) (omega arith),
    ) refl

-- a refusal of the left tree is one of the branch
pub refused_left : {X : Type 0} (view : X → CodeTree) (refusal : Refusal) (levels leaves : ℕ) (bits behind left : List Bool) → 0 < levels → bits ≡ false ∷ behind
    → GivesOrNoMem view (Err refusal) left (tree_at (levels - 1) leaves behind) → GivesOrNoMem view (Err refusal) left (tree_at levels leaves bits)
unfolding tree_at
refused_left view NoMem levels leaves bits behind left h e read = tt
refused_left view (Bad fault) zero leaves bits behind left h e read = absurd (omega arith)
refused_left view (Bad fault) (suc levels) leaves bits behind left h e read =
    let one : suc levels - 1 ≡ levels = omega arith in
    let failed : tree_at levels leaves behind ≡ Err fault = sym (ap (λ n. tree_at n leaves behind) one) ∙ read in
    rw (e, failed) refl

-- a refusal of the right tree is one of the branch
pub refused_right : {X : Type 0} (view : X → CodeTree) (refusal : Refusal) (levels leaves some : ℕ) (tree : CodeTree) (bits behind between left : List Bool) → 0 < levels → bits ≡ false ∷ behind
    → tree_at (levels - 1) leaves behind ≡ Ok (tree, between) → some ≡ leaves + length (codes_of tree)
    → GivesOrNoMem view (Err refusal) left (tree_at (levels - 1) some between) → GivesOrNoMem view (Err refusal) left (tree_at levels leaves bits)
unfolding tree_at
refused_right view NoMem levels leaves some tree bits behind between left h e first count read = tt
refused_right view (Bad fault) zero leaves some tree bits behind between left h e first count read = absurd (omega arith)
refused_right view (Bad fault) (suc levels) leaves some tree bits behind between left h e first count read =
    let one : suc levels - 1 ≡ levels = omega arith in
    let there : tree_at levels leaves behind ≡ Ok (tree, between) = sym (ap (λ n. tree_at n leaves behind) one) ∙ first in
    let failed : tree_at levels (leaves + length (codes_of tree)) between ≡ Err fault = sym (ap (λ n. tree_at n some between) one ∙ ap (λ n. tree_at levels n between) count) ∙ read in
    rw (e, there, failed) refl
