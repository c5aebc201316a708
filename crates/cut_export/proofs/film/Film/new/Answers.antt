use Rattle.y4m_io.proofs.CropLemmas.{size_of_ident}
use Rattle.cut_export.proofs.film.Film.new.Goals as goal

pub new-requires-2 : goal.new-requires-2
new-requires-2 c = size_of_ident c.ident.result.now
