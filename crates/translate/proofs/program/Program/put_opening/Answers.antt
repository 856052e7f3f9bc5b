use Rattle.std.proofs.Common.{[], ◌∷◌, sym, subst, arith}
use Rattle.netcode.specs.declared.step.Step.{Step}
use Rattle.netcode.specs.declared.step.Step.TheVariants.{Halt}
use Rattle.translate.specs.Programs.{preparation_of, wait_of, Writes}
use Rattle.translate.proofs.Whole.{opened-later}
use Rattle.translate.proofs.Writing.{writes_append}
use Rattle.translate.proofs.program.Program.put_opening.Goals as goal

pub put_wait-requires : goal.put_wait-requires
put_wait-requires c =
    let p = c.args.self.now in
    let w = c.put_preparation.ensures in
    let end = w.end in
    let room = w.room in
    let long = (opened-later p.cycle p.rows.now p.number (sym c.if-not-has_date.ensures)).1 in
    let asked = c.requires in
    omega arith

pub returns-then-not-has_date : goal.returns-then-not-has_date
returns-then-not-has_date c =
    let p = c.args.self.now in
    let wait = subst (λ (s : Step). Writes c.put_preparation.new.code c.put_wait.new.self (s ∷ Halt ∷ [])) c.wait_step.ensures c.put_wait.ensures in
    subst (Writes c.args.code.now c.put_wait.new.self) (sym (opened-later p.cycle p.rows.now p.number (sym c.if-not-has_date.ensures)).0)
    (writes_append c.args.code.now c.put_preparation.new.code c.put_wait.new.self (preparation_of p) (wait_of p 0 0 ∷ Halt ∷ []) c.put_preparation.ensures wait)
