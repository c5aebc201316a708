use Rattle.std.proofs.Common.{◌≡◌, ◌-◌}
use Rattle.thr_ident.specs.Comment.{after_texts}
use Rattle.thr_ident.proofs.comment.skip_texts.Given as goal

-- the texts that are left end where all end
abbrev pub invariant-texts : goal.invariant-texts
invariant-texts l = after_texts (l.count - l.counter) l.rest ≡ after_texts l.count l.fn.bytes
