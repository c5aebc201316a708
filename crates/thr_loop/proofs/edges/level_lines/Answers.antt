use Rattle.std.proofs.Common.{ap, get_or, ◌∙◌, ◌+◌, ◌-◌}
use Rattle.vid_plane.proofs.PictureLemmas.{get_or-run_of}
use Rattle.thr_loop.proofs.edges.level_lines.Goals as goal

pub returns : goal.returns
returns c =
    let p = c.args.plane.now in
    let x = c.args.x in
    let y = c.args.y in record {
      first = λ k h. ap (λ xs. get_or xs k 0) c.row8.ensures.value ∙ get_or-run_of p x (y - 2) 8 k h;
      second = λ k h. ap (λ xs. get_or xs k 0) c.row8-2.ensures.value ∙ get_or-run_of p x (y - 1) 8 k h;
      third = λ k h. ap (λ xs. get_or xs k 0) c.row8-3.ensures.value ∙ get_or-run_of p x y 8 k h;
      fourth = λ k h. ap (λ xs. get_or xs k 0) c.row8-4.ensures.value ∙ get_or-run_of p x (y + 1) 8 k h;
    }
