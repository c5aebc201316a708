use Rattle.std.proofs.Common.{ℕ, List, ◌++◌, sym, subst, arith}
use Rattle.ogg_page.specs.Division.{GoesOn, blanked}
use Rattle.ogg_page.proofs.StepLemmas.{GoesOn-append, blanked-append, checksum-GoesOn}
use Rattle.ogg_page.proofs.crc.checksum_of_parts.Goals as goal

pub returns : goal.returns
returns c =
    let rest : List ℕ = c.args.lacing.now ++ c.args.body.now in
    let all : GoesOn 0 (blanked c.args.header.now ++ rest) c.after-2.result =
    GoesOn-append 0 c.from_header.result c.after-2.result (blanked c.args.header.now) rest c.from_header.ensures
    (GoesOn-append c.from_header.result c.after.result c.after-2.result c.args.lacing.now c.args.body.now c.after.ensures c.after-2.ensures) in
    sym (checksum-GoesOn (c.args.header.now ++ rest) c.after-2.result (omega arith) (subst (λ bytes. GoesOn 0 bytes c.after-2.result) (sym (blanked-append c.args.header.now rest (omega arith))) all))
