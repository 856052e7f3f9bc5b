use Rattle.std.proofs.Common.{length, ap, arith}
use Rattle.netcode.specs.Layouts.{program_count}
use Rattle.translate.proofs.Fills.{length_more, length_none}
use Rattle.translate.proofs.fill.all_lengths.Goals as goal

pub loop-number-preserved : goal.loop-number-preserved
loop-number-preserved c =
    let l = c.loop-number in
    let m = length_more c.args.head.cycle c.args.rows.now l.number (program_count c.args.head.stations) (omega arith) in
    let k = c.length-sum.ensures in
    let e = k.length in
    let code = ap length c.new.ensures.code in
    let cycle = c.new.ensures.cycle in
    let f = k.few in
    let s = c.requires.short in
    let i0 = l.invariant.0 in
    let i1 = l.invariant.1 in
    (omega arith, omega arith)

pub returns : goal.returns
returns c =
    let l = c.loop-number in
    let m = length_none c.args.head.cycle c.args.rows.now l.number (program_count c.args.head.stations) (omega arith) in
    let i0 = l.invariant.0 in
    omega arith
