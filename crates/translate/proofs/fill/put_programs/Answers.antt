use Rattle.std.proofs.Common.{ℕ, ◌+◌, ◌-◌, List, map, length, take, drop, set, sym, ap, ◌∙◌, ap₂, arith, length-set}
use Rattle.netcode.specs.declared.step.Step.{Step}
use Rattle.netcode.specs.Layouts.{program_count}
use Rattle.translate.specs.Stores.{stored, steps_of}
use Rattle.translate.specs.Translation.{program_code, programs_from}
use Rattle.translate.proofs.Fills.{none, length_more, steps-more, lengths-more, stored-part, length-part}
use Rattle.translate.proofs.Writing.{length-stored}
use borrow.Rule.Slice.PartMut.{put_mid}
use Rattle.translate.proofs.fill.put_programs.Goals as goal

pub put-length-requires : goal.put-length-requires
put-length-requires c =
    let l = c.loop-number in
    let more = length_more c.args.head.cycle c.args.rows.now l.number (program_count c.args.head.stations) (omega arith) in
    let room = l.invariant.room in
    let left = length-part l.steps l.at in
    let code = ap length c.new.ensures.code in
    omega arith

pub overflow_add-at : goal.overflow_add-at
overflow_add-at c =
    let l = c.loop-number in
    let more = length_more c.args.head.cycle c.args.rows.now l.number (program_count c.args.head.stations) (omega arith) in
    let room = l.invariant.room in
    let e = c.put-length.ensures.end ∙ ap length c.new.ensures.code in
    omega arith

pub loop-number-preserved : goal.loop-number-preserved
loop-number-preserved c =
    let l = c.loop-number in
    let rows = c.args.rows.now in
    let n = program_count c.args.head.stations in
    let rest = programs_from c.args.head.cycle rows (l.number + 1) (n - (l.number + 1)) in
    let w = c.put-length.ensures in
    let code = c.new.ensures.code in
    let end = w.end ∙ ap length code in
    let more = length_more c.args.head.cycle rows l.number n (omega arith) in
    let long = l.invariant.long in
    let room = l.invariant.room in
    let whole = ap (put_mid l.at (length l.steps - l.at) l.steps) (w.list ∙ ap (stored (take (length l.steps - l.at) (drop l.at l.steps)) 0) code) ∙ stored-part l.steps (program_code c.args.head.cycle rows l.number) l.at (omega arith) in
    let same = ap length whole ∙ length-stored l.steps l.at (program_code c.args.head.cycle rows l.number) in
    record {
      list = l.invariant.list ∙ steps-more c.args.head.cycle rows l.number n l.at l.steps (omega arith)
          ∙ ap₂ (λ (xs : List Step) (k : ℕ). stored xs (l.at + k) (steps_of rest))
          (sym whole) (sym end);
      lengths = l.invariant.lengths ∙ lengths-more c.args.head.cycle rows l.number n l.lengths (omega arith)
          ∙ ap (λ (k : ℕ). stored (set l.lengths l.number k) (l.number + 1) (map length rest)) (sym end);
      long = length-set l.lengths l.number _ ∙ long;
      room = omega arith;
    }

pub returns : goal.returns
returns c =
    let l = c.loop-number in
    let z = none c.args.head.cycle c.args.rows.now l.number (program_count c.args.head.stations) (omega arith) in
    record {
      list = sym (l.invariant.list ∙ ap (λ (ps : List (List Step)). stored l.steps l.at (steps_of ps)) z);
      lengths = sym (l.invariant.lengths ∙ ap (λ (ps : List (List Step)). stored l.lengths l.number (map length ps)) z);
    }
