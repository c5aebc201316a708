-- More bytes at the end of one file of a list; cited by `MemDesk`, and by those who append more than once.
use Rattle.std.proofs.Common.{◌≡◌, ℕ, zero, suc, ◌<◌, Bool, true, false, cond, List, [], ◌∷◌, ◌++◌, length, map, reverse, find, bytes_eq, get_or, set, Option, Some, option_map, append_assoc, refl, ap, sym, ◌∙◌, arith}
use Rattle.std.proofs.lemmas.List.{append-nil, map-append, reverse-append}
use Rattle.vid_desk.specs.Meaning.{File, with_more}
use Rattle.vid_desk.specs.Memory.{last_of}

-- no bytes more change nothing
pub with_more-nil : (files : List File) (id : ℕ) → with_more files id [] ≡ files
with_more-nil [] id = refl
with_more-nil (file ∷ files) zero = rw append-nil refl
with_more-nil (file ∷ files) (suc id) = ap (λ others. file ∷ others) (with_more-nil files id)

-- bytes after bytes came one behind the other
pub with_more-twice : (files : List File) (id : ℕ) (came next : List ℕ) → with_more (with_more files id came) id next ≡ with_more files id (came ++ next)
with_more-twice [] id came next = refl
with_more-twice (file ∷ files) zero came next = rw append_assoc refl
with_more-twice (file ∷ files) (suc id) came next = ap (λ others. file ∷ others) (with_more-twice files id came next)

-- the bytes of the last file grow, and the files before it stay
pub with_more-last : (files : List File) (file : File) (came : List ℕ) → with_more (files ++ file ∷ []) (length files) came ≡ files ++ record file { bytes = file.bytes ++ came } ∷ []
with_more-last [] file came = refl
with_more-last (first ∷ files) file came = ap (λ others. first ∷ others) (with_more-last files file came)

-- how many files there are stays
pub length-with_more : (files : List File) (id : ℕ) (came : List ℕ) → length (with_more files id came) ≡ length files
length-with_more [] id came = refl
length-with_more (file ∷ files) zero came = refl
length-with_more (file ∷ files) (suc id) came = ap (λ n. suc n) (length-with_more files id came)

-- where one element is replaced by one that shows more bytes, the list shows them
pub map-set_more : {A : Type 0} (view : A → File) (xs : List A) (id : ℕ) (x d : A) (came : List ℕ) → id < length xs → view x ≡ record (view (get_or xs id d)) { bytes = (view (get_or xs id d)).bytes ++ came } → map view (set xs id x) ≡ with_more (map view xs) id came
map-set_more view [] id x d came h e = absurd (omega arith)
map-set_more view (y ∷ ys) zero x d came h e = ap (λ file. file ∷ map view ys) e
map-set_more view (y ∷ ys) (suc id) x d came h e = ap (λ others. view y ∷ others) (map-set_more view ys id x d came (omega arith) e)

-- the elements' files from the last one on
reverse-map : {A : Type 0} (view : A → File) (xs : List A) → reverse (map view xs) ≡ map view (reverse xs)
reverse-map view [] = refl
reverse-map view (x ∷ xs) =
    reverse-append (view x ∷ []) (map view xs) ∙ ap (λ files. files ++ view x ∷ []) (reverse-map view xs)
    ∙ sym (map-append view (reverse xs) (x ∷ [])) ∙ ap (λ ys. map view ys) (sym (reverse-append (x ∷ []) xs))

-- the first file that passes a test is that of the first element whose file passes
find-map : {A : Type 0} (view : A → File) (test : File → Bool) (xs : List A) → find test (map view xs) ≡ option_map view (find (λ x. test (view x)) xs)
find-map view test [] = refl
find-map view test (x ∷ xs) = elim (test (view x)) as (λ b. cond b (Some (view x)) (find test (map view xs)) ≡ option_map view (cond b (Some x) (find (λ y. test (view y)) xs))) [ true ↦ refl | false ↦ find-map view test xs ]

-- the bytes of the last file of a name are those of the last element whose file has it
pub last_of-map : {A : Type 0} (view : A → File) (xs : List A) (name : List ℕ) (last : Option A) (files : List File) → files ≡ map view xs → last ≡ find (λ x. bytes_eq (view x).name name) (reverse xs) → option_map (λ file. file.bytes) (option_map view last) ≡ last_of files name
last_of-map view xs name last files same found =
    ap (λ file. option_map (λ f. f.bytes) file) (ap (λ x. option_map view x) found ∙ sym (find-map view (λ f. bytes_eq f.name name) (reverse xs)) ∙ ap (λ fs. find (λ f. bytes_eq f.name name) fs) (sym (reverse-map view xs)))
    ∙ ap (λ fs. last_of fs name) (sym same)
