use Rattle.y4m_io.specs.Generator.{generated_head}
use Rattle.y4m_io.specs.Y4m.{head_text}
use Rattle.cut_make.proofs.PartLemmas.{part_none}
use Rattle.cut_make.proofs.maker.Maker.add_head.Goals as goal

pub returns-then-is_err-clause-part : goal.returns-then-is_err-clause-part
returns-then-is_err-clause-part g c = part_none (g.D.Desk.sees c.args.desk.now) c.args.id (head_text (generated_head c.args.self.now.film.w c.args.self.now.film.h))
