-- What loading finds in a file (private).
use Rattle.std.specs.Prelude.{ℕ, List, Result, Ok, Err}
use Rattle.src_index.specs.declared.fault.Refusal.{Refusal}
use Rattle.src_index.specs.Index.{Index}
use Rattle.src_index.specs.Loading.{IsIndexed}
use Rattle.src_index.specs.Judging.{Fails}

abbrev pub Finds : Result Index Refusal → List ℕ → Type 0
Finds (Ok index) bytes = IsIndexed bytes index
Finds (Err refusal) bytes = Fails refusal bytes
