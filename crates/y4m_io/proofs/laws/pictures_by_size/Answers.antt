use Rattle.y4m_io.proofs.PictureLemmas.{is_picture}
use Rattle.y4m_io.proofs.laws.pictures_by_size.Goals as goal

pub returns : goal.returns
returns c = is_picture
