-- What stays told, and what one output gained, over calls one after another; cited by those who call a desk.
use Rattle.std.proofs.Common.{◌≡◌, ℕ, List, [], ◌++◌, Option, Some, None, refl, ap, sym, ◌∙◌}
use Rattle.std.specs.Option.{option_map}
use Rattle.vid_desk.specs.Meaning.{File, Meaning, Appended, Grown, with_more, with_reads}
use Rattle.vid_desk.proofs.FileLemmas.{with_more-nil, with_more-twice}

-- inputs that are told stay told over reads
pub still : (old new : Meaning) (files : List File) → with_reads old new → old.inputs ≡ Some files → new.inputs ≡ Some files
still old new files kept told = ap {A = Meaning} (λ m. m.inputs) kept ∙ told

-- a look at an input's length, or a read that asked for bytes, is a read
pub reads_one : (a b : Meaning) (asked : ℕ) → b ≡ record a { read_faults = b.read_faults; asked = asked } → with_reads a b
reads_one a b asked kept = kept ∙ ap {A = ℕ} {B = Meaning} (λ k. record a { read_faults = b.read_faults; asked = k }) (sym (ap {A = Meaning} (λ m. m.asked) kept))

-- reads after reads are reads
pub reads_twice : (a b c : Meaning) → with_reads a b → with_reads b c → with_reads a c
reads_twice a b c first next = next ∙ ap {A = Meaning} {B = Meaning} (λ m. record m { read_faults = c.read_faults; asked = c.asked }) first

-- the outputs where one of them gained no bytes
outputs-nil : (outputs : Option (List File)) (out : ℕ) → option_map (λ files. with_more files out []) outputs ≡ outputs
outputs-nil None out = refl
outputs-nil (Some files) out = ap (λ others. Some others) (with_more-nil files out)

-- the outputs where one of them gained bytes twice
outputs-twice : (outputs : Option (List File)) (out : ℕ) (came next : List ℕ) → option_map (λ files. with_more files out next) (option_map (λ files. with_more files out came) outputs) ≡ option_map (λ files. with_more files out (came ++ next)) outputs
outputs-twice None out came next = refl
outputs-twice (Some files) out came next = ap (λ others. Some others) (with_more-twice files out came next)

-- a meaning with these outputs and counts
abbrev with_outputs : Meaning → Option (List File) → ℕ → ℕ → ℕ → Meaning
with_outputs m outputs read_faults write_faults asked = record m { outputs = outputs; read_faults = read_faults; write_faults = write_faults; asked = asked }

-- what an output gained by two calls
pub grown_twice : (a b c : Meaning) (out : ℕ) (came next : List ℕ) → Grown a b out came → Grown b c out next → Grown a c out (came ++ next)
grown_twice a b c out came next first second =
    second
    ∙ ap {A = Meaning} {B = Meaning} (λ m. with_outputs m (option_map (λ files. with_more files out next) m.outputs) c.read_faults c.write_faults c.asked) first
    ∙ ap {B = Meaning} (λ outputs. with_outputs a outputs c.read_faults c.write_faults c.asked) (outputs-twice a.outputs out came next)

-- reads give an output nothing
pub grown_reads : (a b : Meaning) (out : ℕ) → with_reads a b → Grown a b out []
grown_reads a b out kept =
    let writes : b.write_faults ≡ a.write_faults = ap {A = Meaning} (λ m. m.write_faults) kept in
    kept
    ∙ ap {B = Meaning} (λ w. with_outputs a a.outputs b.read_faults w b.asked) (sym writes)
    ∙ ap {B = Meaning} (λ outputs. with_outputs a outputs b.read_faults b.write_faults b.asked) (sym (outputs-nil a.outputs out))

-- an append gives an output what came
pub grown_append : (a b : Meaning) (out : ℕ) (came : List ℕ) → Appended a b out came → Grown a b out came
grown_append a b out came appended =
    let reads : b.read_faults ≡ a.read_faults = ap {A = Meaning} (λ m. m.read_faults) appended in
    let asks : b.asked ≡ a.asked = ap {A = Meaning} (λ m. m.asked) appended in
    let outputs : Option (List File) = option_map (λ files. with_more files out came) a.outputs in
    appended
    ∙ ap {B = Meaning} (λ r. with_outputs a outputs r b.write_faults a.asked) (sym reads)
    ∙ ap {B = Meaning} (λ k. with_outputs a outputs b.read_faults b.write_faults k) (sym asks)

-- a call that at most counted a fault of writing gives an output nothing
pub grown_count : (a b : Meaning) (out : ℕ) → b ≡ record a { write_faults = b.write_faults } → Grown a b out []
grown_count a b out kept =
    grown_append a b out [] (kept ∙ ap {B = Meaning} (λ outputs. with_outputs a outputs a.read_faults b.write_faults a.asked) (sym (outputs-nil a.outputs out)))
