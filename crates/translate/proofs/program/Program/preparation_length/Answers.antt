use Rattle.std.proofs.Common.{sym}
use Rattle.translate.proofs.Kept.{prepared-length}
use Rattle.translate.proofs.program.Program.preparation_length.Goals as goal

pub returns-else-is_line-clause-length : goal.returns-else-is_line-clause-length
returns-else-is_line-clause-length c =
    let p = c.args.self.now in
    sym (prepared-length p.rows.now p.number c.keep_count.result (sym c.if-is_line.ensures) c.keep_count.ensures.kept)
