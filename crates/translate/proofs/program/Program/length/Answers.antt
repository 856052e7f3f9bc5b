use Rattle.std.proofs.Common.{sym, ◌∙◌}
use Rattle.translate.proofs.Lengths.{program-length}
use Rattle.translate.proofs.program.Program.length.Goals as goal

pub returns-clause-length : goal.returns-clause-length
returns-clause-length c =
    let p = c.args.self.now in
    c.block_address.ensures.address ∙ sym (program-length p.cycle p.rows.now p.number)
