use Rattle.std.proofs.Common.{refl}
use Rattle.vid_base.specs.Rules.{first_fault}
use Rattle.thr_ident.specs.Comment.{comment_of, comment_rules, after_comments, after_texts, after_text, length_in, comment_bytes, own_comment}
use Rattle.thr_ident.proofs.comment.own_comment.Goals as goal

pub returns-clause-bytes : goal.returns-clause-bytes
unfolding own_comment comment_bytes
returns-clause-bytes c = refl

pub returns-clause-accepted : goal.returns-clause-accepted
unfolding comment_of comment_rules first_fault after_comments after_texts after_text length_in own_comment comment_bytes
returns-clause-accepted c = refl
