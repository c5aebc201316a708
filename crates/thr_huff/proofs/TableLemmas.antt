-- What a table says of the next bits is what a walk finds. The look-up in a tree and the books cite these.
use Rattle.std.proofs.Common.{◌≡◌, ◌≤◌, ◌<◌, ◌-◌, ℕ, zero, suc, Bool, true, false, cond, List, [], ◌∷◌, ◌++◌, length, take, drop, Option, Some, None, refl, ap, sym, ◌∙◌, arith, add-one}
use Rattle.std.specs.Prelude.{option_map}
use Rattle.std.proofs.lemmas.List.{take-append-drop, length-take}
use Rattle.vid_base.specs.Bits.{digits, bit_of, take_bits, number_in}
use Rattle.vid_base.proofs.DigitLemmas.{length-digits}
use Rattle.vid_base.proofs.NumberLemmas.{peeked-digits, taken-some, taken-none}
use Rattle.thr_huff.specs.declared.book.Entry.{Entry}
use Rattle.thr_huff.specs.CodeTree.{CodeTree, Token, Fork}
use Rattle.thr_huff.specs.Codes.{codes_of, longer, begins_with, front_code, front_token}
use Rattle.thr_huff.specs.Tables.{deeper, entry_of}
use Rattle.thr_huff.proofs.CodeLemmas.{front_code-end, front_code-left, front_code-right, find-test, mapped}

abbrev entry_for : List Bool × ℕ → Entry
entry_for code = record { token = code.1; len = length code.0 }

pub entry_of-leaf : (token : ℕ) (bits : List Bool) → Some (record { token = token; len = 0 }) ≡ entry_of (codes_of (Token token)) bits
unfolding entry_of codes_of front_code begins_with
entry_of-leaf token bits = refl

pub entry_of-none : (left right : CodeTree) (n window : ℕ) → n ≡ 0 → None ≡ entry_of (codes_of (Fork left right)) (digits n window)
unfolding entry_of digits
entry_of-none left right n window e = rw (e, front_code-end left right) refl

one_deeper : (bit : Bool) (found : Option (List Bool × ℕ)) → option_map deeper (option_map entry_for found) ≡ option_map entry_for (option_map (longer bit) found)
one_deeper bit None = refl
one_deeper bit (Some code) = ap (λ n. Some (record { token = code.1; len = n })) (add-one (length code.0))

entry_of-branch : (bit : Bool) (left right : CodeTree) (bits : List Bool) → option_map deeper (entry_of (codes_of (cond bit right left)) bits) ≡ entry_of (codes_of (Fork left right)) (bit ∷ bits)
unfolding entry_of
entry_of-branch true left right bits = one_deeper true (front_code (codes_of right) bits) ∙ ap (option_map entry_for) (sym (front_code-right left right bits))
entry_of-branch false left right bits = one_deeper false (front_code (codes_of left) bits) ∙ ap (option_map entry_for) (sym (front_code-left left right bits))

-- an entry of the side to which the highest digit leads
pub entry_of-side : (bit : Bool) (left right : CodeTree) (n window : ℕ) (found : Option Entry) → 0 < n → bit_of (n - 1) window ≡ bit
    → found ≡ entry_of (codes_of (cond bit right left)) (digits (n - 1) window) → option_map deeper found ≡ entry_of (codes_of (Fork left right)) (digits n window)
unfolding digits
entry_of-side bit left right zero window found h b e = absurd (omega arith)
entry_of-side bit left right (suc n) window found h b e =
    let one : suc n - 1 ≡ n = omega arith in
    let head : bit_of n window ≡ bit = ap (λ k. bit_of k window) (sym one) ∙ b in
    let below : found ≡ entry_of (codes_of (cond bit right left)) (digits n window) = e ∙ ap (λ k. entry_of (codes_of (cond bit right left)) (digits k window)) one in
    rw (below, head) (entry_of-branch bit left right (digits n window))

lone : (token : ℕ) (bits : List Bool) → front_code (codes_of (Token token)) bits ≡ Some ([], token)
unfolding codes_of front_code begins_with
lone token bits = refl

-- a code at the front of some bits stays there when more follow
front_code-more : (tree : CodeTree) (front more : List Bool) (code : List Bool × ℕ) → front_code (codes_of tree) front ≡ Some code → front_code (codes_of tree) (front ++ more) ≡ Some code
front_code-more (Token token) front more code e = lone token (front ++ more) ∙ sym (lone token front) ∙ e
front_code-more (Fork left right) [] more code e = let none : front_code (codes_of (Fork left right)) [] ≡ None = front_code-end left right in cc
front_code-more (Fork left right) (false ∷ front) more code e =
    let found = mapped (longer false) (front_code (codes_of left) front) code (sym (front_code-left left right front) ∙ e) in
    front_code-left left right (front ++ more) ∙ ap (option_map (longer false)) (front_code-more left front more found.0 found.1) ∙ ap Some found.2
front_code-more (Fork left right) (true ∷ front) more code e =
    let found = mapped (longer true) (front_code (codes_of right) front) code (sym (front_code-right left right front) ∙ e) in
    front_code-right left right (front ++ more) ∙ ap (option_map (longer true)) (front_code-more right front more found.0 found.1) ∙ ap Some found.2

begins_with-length : (code bits : List Bool) → begins_with code bits ≡ true → length code ≤ length bits
unfolding begins_with
begins_with-length [] bits e = omega arith
begins_with-length (c ∷ code) [] e = cc
begins_with-length (false ∷ code) (false ∷ bits) e = omega (arith, begins_with-length code bits e)
begins_with-length (false ∷ code) (true ∷ bits) e = cc
begins_with-length (true ∷ code) (false ∷ bits) e = cc
begins_with-length (true ∷ code) (true ∷ bits) e = omega (arith, begins_with-length code bits e)

-- the code of an entry stands at the front of the bits, and there are enough of them
entered : (tree : CodeTree) (bits : List Bool) (window : ℕ) (entry : Entry) → Some entry ≡ entry_of (codes_of tree) (digits 8 window) → Some window ≡ number_in (take_bits 8 bits)
    → (code : List Bool × ℕ) × (entry_for code ≡ entry) × (front_code (codes_of tree) bits ≡ Some code) × (length code.0 ≤ 8)
unfolding entry_of front_code
entered tree bits window entry e peek =
    let found = mapped entry_for (front_code (codes_of tree) (digits 8 window)) entry (sym e) in
    let front : digits 8 window ≡ take 8 bits = peeked-digits 8 window bits (sym peek) in
    let there : front_code (codes_of tree) (take 8 bits) ≡ Some found.0 = ap (front_code (codes_of tree)) (sym front) ∙ found.1 in
    let passed : begins_with found.0.0 (digits 8 window) ≡ true = find-test (λ code. begins_with code.0 (digits 8 window)) (codes_of tree) found.0 found.1 in (
      found.0,
      found.2,
      ap (front_code (codes_of tree)) (sym (take-append-drop 8 bits)) ∙ front_code-more tree (take 8 bits) (drop 8 bits) found.0 there,
      omega (arith, begins_with-length found.0.0 (digits 8 window) passed, length-digits 8 window),
    )

-- so an entry's token is the one that a walk finds
pub by_entry : (tree : CodeTree) (bits rest : List Bool) (window v : ℕ) (entry : Entry) → Some entry ≡ entry_of (codes_of tree) (digits 8 window) → Some window ≡ number_in (take_bits 8 bits)
    → take_bits entry.len bits ≡ Some (v, rest) → front_token (codes_of tree) bits ≡ Some (entry.token, rest)
unfolding front_token
by_entry tree bits rest window v entry e peek read =
    let code = entered tree bits window entry e peek in
    let behind : drop entry.len bits ≡ rest = (taken-some entry.len v bits rest read).1 in
    let size : length code.0.0 ≡ entry.len = ap (λ x. x.len) code.1 in
    let token : code.0.1 ≡ entry.token = ap (λ x. x.token) code.1 in
    rw code.2 (rw (size, token, behind) refl)

-- and its code can be taken
pub enough : (tree : CodeTree) (bits : List Bool) (window : ℕ) (entry : Entry) → Some entry ≡ entry_of (codes_of tree) (digits 8 window) → Some window ≡ number_in (take_bits 8 bits)
    → take_bits entry.len bits ≡ None → ⊥
enough tree bits window entry e peek none =
    let code = entered tree bits window entry e peek in
    let size : length code.0.0 ≡ entry.len = ap (λ x. x.len) code.1 in
    omega (arith, taken-none entry.len bits none, size, code.3, ap length (peeked-digits 8 window bits (sym peek)), length-digits 8 window, length-take 8 bits)

-- an entry has at most eight bits
pub short_entry : (tree : CodeTree) (bits : List Bool) (window : ℕ) (entry : Entry) → Some entry ≡ entry_of (codes_of tree) (digits 8 window) → Some window ≡ number_in (take_bits 8 bits) → entry.len ≤ 8
short_entry tree bits window entry e peek =
    let code = entered tree bits window entry e peek in
    let size : length code.0.0 ≡ entry.len = ap (λ x. x.len) code.1 in
    omega (arith, size, code.3)
