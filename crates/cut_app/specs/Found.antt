-- What judging finds in an input (own).
use Rattle.std.specs.Prelude.{◌≡◌, ℕ, List, Some}
use Rattle.vid_desk.specs.Meaning.{File}
use Rattle.src_index.specs.Judge.{Verdict}
use Rattle.src_index.specs.Loading.{IsJudged, longest}
use Rattle.cut_desk.specs.Inputs.{contents}

-- the file of that name is there, it is not too long, and judging it finds this
pub record IsFound (files : List File) (name : List ℕ) (verdict : Verdict) : Type 0 where
  pub bytes : List ℕ
  pub there : contents files name ≡ Some bytes
  pub judged : IsJudged longest bytes verdict
