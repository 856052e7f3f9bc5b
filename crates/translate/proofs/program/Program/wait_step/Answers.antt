use Rattle.std.proofs.Common.{◌≡◌, length, arith}
use Rattle.std.proofs.lemmas.Bool.{le-ltb}
use Rattle.translate.specs.Programs.{first_date_of}
use Rattle.translate.proofs.Dates.{first-top}
use Rattle.translate.proofs.program.Program.wait_step.Goals as goal

pub returns-in-None : goal.returns-in-None
returns-in-None c =
    let p = c.args.self.now in
    let late = c.in-None.ensures in
    let end : first_date_of p c.args.end ≡ p.cycle = omega (arith, first-top p.cycle p.rows.now p.number c.args.end (length p.rows.now)) in
    rw (end, le-ltb p.cycle p.cycle (omega arith))
