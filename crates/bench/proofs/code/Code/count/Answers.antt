use Rattle.std.proofs.Common.{sym, ◌∙◌}
use Rattle.bench.proofs.Lasting.{length-programs}
use Rattle.bench.proofs.code.Code.count.Goals as goal

pub returns-clause-count : goal.returns-clause-count
returns-clause-count c = c.program_count.ensures.count ∙ sym (length-programs _ _ c.args.self.shape)
