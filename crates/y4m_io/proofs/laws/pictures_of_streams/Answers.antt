use Rattle.y4m_io.proofs.CropLemmas.{size_of_ident, frame_of_ident}
use Rattle.y4m_io.proofs.laws.pictures_of_streams.Goals as goal

pub returns-clause-size : goal.returns-clause-size
returns-clause-size c = size_of_ident

pub returns-clause-frame : goal.returns-clause-frame
returns-clause-frame c = frame_of_ident
