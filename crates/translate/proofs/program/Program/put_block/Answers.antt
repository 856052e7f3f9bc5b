use Rattle.std.proofs.Common.{◌≡◌, true, false, [], ◌∷◌, length, sym, ap, ◌∙◌, subst, add-one, arith}
use Rattle.netcode.specs.declared.step.Step.{Step}
use Rattle.netcode.specs.declared.step.Step.TheVariants.{Halt}
use Rattle.translate.specs.declared.code.Code.{Code}
use Rattle.translate.specs.Programs.{wait_of, opening_length_of, Writes}
use Rattle.translate.specs.Translation.{is_due, row_code}
use Rattle.translate.proofs.DueRows.{tail-is, writes-due, writes-other, length-due, length-other}
use Rattle.translate.proofs.Lengths.{rows_few, row-length}
use Rattle.translate.proofs.program.Program.put_block.Goals as goal
use Rattle.translate.proofs.program.Program.put_block.Goals.{then-is_due, else-is_due}

pub put_row-requires-clause-near : goal.put_row-requires-clause-near
put_row-requires-clause-near c =
    let p = c.args.self.now in
    let few = rows_few p.cycle p.rows.now p.number c.args.date (length p.rows.now) 0 in
    let most = p.bounded.few in
    let near = c.requires.near in
    let left = c.loop-number.invariant.left in
    omega arith

pub put_row-requires-clause-room : goal.put_row-requires-clause-room
put_row-requires-clause-room c =
    let p = c.args.self.now in
    let l = c.loop-number in
    let due = length-due p.cycle p.rows.now p.number (opening_length_of p) c.args.date l.number (length p.rows.now) c.loop-number-test.true (sym c.if-is_due.ensures) in
    let left = l.invariant.left in
    let room = l.invariant.room in
    let asked = c.requires.room in
    omega arith

pub loop-number-preserved : goal.loop-number-preserved
loop-number-preserved c =
    let p = c.args.self.now in
    let l = c.loop-number in
    let n = length p.rows.now in
    let t = c.loop-number-test.true in
    let o = opening_length_of p in
    let left = l.invariant.left in
    elim c.if-is_due.branch [
      | then-is_due w ↦
          let q : is_due p.cycle p.rows.now p.number c.args.date l.number ≡ true = sym w.if-is_due.ensures in
          let row = row_code p.cycle p.rows.now p.number o c.args.date l.number l.code.end in
          let put = subst (λ (code : Code). Writes l.code code row) (sym w.code-is) w.put_row.ensures in
          let due = length-due p.cycle p.rows.now p.number o c.args.date l.number n t q in
          let end = put.end in
          let long = row-length p.cycle p.rows.now p.number o c.args.date l.number l.code.end in
          record {
            whole = λ last w. l.invariant.whole last (writes-due p.cycle p.rows.now p.number o c.args.date l.number n l.code c.if-is_due.code last t q put w);
            left = omega arith;
            room = put.room ∙ l.invariant.room;
          }
      | else-is_due w ↦
          let q : is_due p.cycle p.rows.now p.number c.args.date l.number ≡ false = sym w.if-is_due.ensures in
          let other = length-other p.cycle p.rows.now p.number o c.args.date l.number n t q in
          rw w.code-is record {
            whole = λ last w. l.invariant.whole last (writes-other p.cycle p.rows.now p.number o c.args.date l.number n l.code last t q w);
            left = omega arith;
            room = l.invariant.room;
          }
    ]

pub returns : goal.returns
returns c =
    let p = c.args.self.now in
    let l = c.loop-number in
    let o = opening_length_of p in
    let wait = subst (λ (s : Step). Writes l.code c.put_wait.new.self (s ∷ Halt ∷ [])) (c.wait_step.ensures ∙ ap (wait_of p c.args.date) (add-one c.args.date)) c.put_wait.ensures in
    l.invariant.whole c.put_wait.new.self
    (subst (Writes l.code c.put_wait.new.self) (sym (tail-is p.cycle p.rows.now p.number o c.args.date l.number (length p.rows.now) l.code.end (omega arith))) wait)
