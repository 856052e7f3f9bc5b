use Rattle.std.proofs.Common.{rules, [], ◌∷◌, length, sym, ap, subst, arith}
use Rattle.netcode.specs.declared.step.Step.TheVariants.{Clear}
use Rattle.translate.specs.Programs.{kept_to, Writes}
use Rattle.translate.proofs.Kept.{keep_of, give_of, keeps-made, prepared, prepared-room}
use Rattle.translate.proofs.Writing.{writes_append}
use Rattle.translate.proofs.program.Program.put_preparation.Goals as goal

pub put-requires : goal.put-requires
put-requires c =
    let p = c.args.self.now in
    let w = c.put_kept.ensures keep_of (λ n k s e. search rules) in
    let end = w.end in
    let room = w.room in
    let all = prepared-room p.rows.now p.number (sym c.if-is_line.ensures) in
    let asked = c.requires in
    omega arith

pub put_kept-requires-2-clause-room : goal.put_kept-requires-2-clause-room
put_kept-requires-2-clause-room c =
    let p = c.args.self.now in
    let w = c.put_kept.ensures keep_of (λ n k s e. search rules) in
    let first = w.end in
    let then = c.put.ensures.end in
    let room = w.room in
    let left = c.put.ensures.room in
    let all = prepared-room p.rows.now p.number (sym c.if-is_line.ensures) in
    let few = ap length (keeps-made p.rows.now p.number (length p.rows.now)) in
    let asked = c.requires in
    omega arith

pub returns : goal.returns
returns c =
    let p = c.args.self.now in
    let n = length p.rows.now in
    let keeps = kept_to keep_of p.rows.now p.number n in
    let gives = kept_to give_of p.rows.now p.number n in
    subst (Writes c.args.code.now c.put_kept-2.new.code) (sym (prepared p.rows.now p.number (sym c.if-is_line.ensures)))
    (writes_append c.args.code.now c.put_kept.new.code c.put_kept-2.new.code keeps (Clear ∷ gives) (c.put_kept.ensures keep_of (λ n k s e. search rules))
    (writes_append c.put_kept.new.code c.put.new.self c.put_kept-2.new.code (Clear ∷ []) gives c.put.ensures (c.put_kept-2.ensures give_of (λ n k s e. search rules))))
