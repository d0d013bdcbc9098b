-- The law `GenuineMeans` as its carrier's contract.
-- Proved in proofs/Genuine.antt.
use Rattle.checks.proofs.Genuine.{genuine_means}
use Rattle.checks.proofs.genuine_is_each_tag_good.Goals as goal

pub returns : goal.returns
returns c = genuine_means
