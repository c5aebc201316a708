use Rattle.std.proofs.Common.{◌≡◌, ◌-◌, ◌∙◌, ap, length, take, drop, arith}
use Rattle.std.proofs.lemmas.Grind.{common_steps}
use Rattle.std.proofs.lemmas.List.{length-drop}
use Rattle.vid_base.specs.Bits.{bits_of}
use Rattle.vid_base.proofs.DigitLemmas.{length-bits_of}
use Rattle.vid_base.proofs.WordLemmas.{bits-behind}
use Rattle.thr_ident.proofs.header.behind_name.Goals as goal

pub returns-clause-left : goal.returns-clause-left
returns-clause-left c =
    let rest : take (length c.args.bytes.now - 7) (drop 7 c.args.bytes.now) ≡ drop 7 c.args.bytes.now = grind (arith, common_steps) in
    c.new.ensures.left ∙ ap bits_of rest ∙ bits-behind 7 c.args.bytes.now

pub returns-clause-count : goal.returns-clause-count
returns-clause-count c =
    let rest : take (length c.args.bytes.now - 7) (drop 7 c.args.bytes.now) ≡ drop 7 c.args.bytes.now = grind (arith, common_steps) in
    omega (arith, ap length (c.new.ensures.left ∙ ap bits_of rest), length-bits_of (drop 7 c.args.bytes.now), length-drop 7 c.args.bytes.now)
