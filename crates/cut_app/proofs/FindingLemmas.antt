-- What judging finds in an input is one thing. The causes of commands that judge cite this.
use Rattle.std.proofs.Common.{◌≡◌, ℕ, List}
use Rattle.vid_desk.specs.Meaning.{File}
use Rattle.src_index.specs.Judge.{Verdict}
use Rattle.src_index.proofs.VerdictLemmas.{one_verdict}
use Rattle.cut_app.specs.Found.{IsFound}

-- judging a file finds one thing
pub one_finding : (files : List File) (file : List ℕ) (v w : Verdict) → IsFound files file v → IsFound files file w → v ≡ w
one_finding files file v w first second =
    let same : first.bytes ≡ second.bytes = cc (first.there, second.there) in
    one_verdict second.bytes v w (rw same at first.judged.1) second.judged.1
