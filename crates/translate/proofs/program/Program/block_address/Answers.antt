use Rattle.std.proofs.Common.{refl, ap, ◌∙◌, add-one, arith}
use Rattle.translate.specs.Programs.{early_steps, address_of, opening_length_of}
use Rattle.translate.proofs.Earliest.{begins, goes, ends}
use Rattle.translate.proofs.Early.{early-none, early-step, early-skip, early-few}
use Rattle.translate.proofs.Lengths.{address-none, address-skip, address_more}
use Rattle.translate.proofs.program.Program.block_address.Goals as goal

pub overflow_add-place : goal.overflow_add-place
overflow_add-place c =
    let p = c.args.self.now in
    let few = c.opening_length.ensures.few in
    let steps = c.steps_before.ensures in
    let early = early-few p.cycle p.rows.now p.number p.bounded.few c.args.date in
    omega arith

pub loop-init : goal.loop-init
loop-init c =
    let p = c.args.self.now in
    let o = c.opening_length.ensures in
    let few = o.few in
    let d = c.dates-items.ensures in
    let b = begins p c.args.date c.into_iter-iterator.result c.dates-items.result c.into_iter-iterator.ensures.into_iter_gives d.program d.until d.from in
    let steps = c.steps_before.ensures in
    let first = ap (early_steps p.number p.rows.now) b.from ∙ early-none p.number p.rows.now in
    let none = ap (address_of p) b.from ∙ address-none p.cycle p.rows.now p.number (opening_length_of p) in
    let length = o.length in
    let from = b.from in
    record { can = tt; finite = tt; same = b.program; until = b.last; at = omega arith; few = omega arith; within = omega arith }

pub overflow_add-place-in-loop : goal.overflow_add-place-in-loop
overflow_add-place-in-loop c =
    let p = c.args.self.now in
    let few = c.loop.invariant.few in
    let within = c.loop.invariant.within in
    let early = early-few p.cycle p.rows.now p.number p.bounded.few c.args.date in
    omega arith

pub loop-preserved : goal.loop-preserved
loop-preserved c =
    let p = c.args.self.now in
    let l = c.loop in
    let d = c.in-Some.field-0 in
    let g = goes p c.args.date l.iterator' c.next.new.self d l.invariant.same l.invariant.until c.in-Some.ensures.steps in
    let first = g.is.first in
    let late = g.is.late in
    let early = g.is.early in
    let from = g.next in
    let few = l.invariant.few in
    let at = l.invariant.at in
    let skip = address-skip p.cycle p.rows.now p.number (opening_length_of p) l.iterator'.from d late (omega arith) in
    let next = address_more p.cycle p.rows.now p.number (opening_length_of p) d _ g.is.own refl in
    let one = ap (address_of p) (from ∙ add-one d) in
    let past = early-skip p.cycle p.rows.now p.number l.iterator'.from d late (omega arith) in
    let more = ap (early_steps p.number p.rows.now) from ∙ early-step p.cycle p.rows.now p.number d in
    record { can = tt; finite = tt; same = g.program; until = g.last; at = omega arith; few = omega arith; within = omega arith }

pub returns-clause-address : goal.returns-clause-address
returns-clause-address c =
    let p = c.args.self.now in
    let l = c.loop in
    let last = ends p c.args.date l.iterator' c.next.new.self l.invariant.same l.invariant.until c.in-None.ensures.steps in
    let skip = address-skip p.cycle p.rows.now p.number (opening_length_of p) l.iterator'.from c.args.date l.invariant.within last in
    let past = early-skip p.cycle p.rows.now p.number l.iterator'.from c.args.date l.invariant.within last in
    let at = l.invariant.at in
    omega arith

pub returns-clause-few : goal.returns-clause-few
returns-clause-few c =
    let p = c.args.self.now in
    let few = c.loop.invariant.few in
    let within = c.loop.invariant.within in
    let early = early-few p.cycle p.rows.now p.number p.bounded.few c.args.date in
    omega arith
