use Rattle.src_index.proofs.IndexLemmas.{index_count, index_keys, index_quantisers, index_short}
use Rattle.src_index.proofs.laws.indexes.Goals as goal

pub returns-clause-count : goal.returns-clause-count
returns-clause-count c = index_count

pub returns-clause-keys : goal.returns-clause-keys
returns-clause-keys c = index_keys

pub returns-clause-quantisers : goal.returns-clause-quantisers
returns-clause-quantisers c = index_quantisers

pub returns-clause-short : goal.returns-clause-short
returns-clause-short c = index_short
