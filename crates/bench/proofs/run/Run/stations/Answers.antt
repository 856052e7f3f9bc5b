use Rattle.std.proofs.Common.{vec_items, sym, ◌∙◌}
use Rattle.bench.proofs.Facts.{stations-in}
use Rattle.bench.proofs.run.Run.stations.Goals as goal

pub returns-clause-count : goal.returns-clause-count
returns-clause-count c = c.min.ensures ∙ sym (stations-in c.args.self.now.layout (vec_items c.args.self.now.steps) c.args.self.now.shape)
