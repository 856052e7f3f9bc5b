use Rattle.std.proofs.Common.{ℕ, ◌+◌, length, sym, ap, subst, arith}
use Rattle.translate.specs.Programs.{opening_of, opening_length_of, address_of, Writes}
use Rattle.translate.specs.Translation.{code_to}
use Rattle.translate.proofs.Earliest.{begins, goes, ends}
use Rattle.translate.proofs.Lengths.{address-none, opening-length, rows-length, rows_few}
use Rattle.translate.proofs.Whole.{opening-few, opening-room, address-next, address-room, writes-begun, writes-block, writes-whole}
use Rattle.translate.proofs.program.Program.put_all.Goals as goal

pub put_opening-requires : goal.put_opening-requires
put_opening-requires c =
    let p = c.args.self.now in
    let empty = c.requires.empty in
    let room = c.requires.room in
    omega (arith, opening-room p.cycle p.rows.now p.number)

pub loop-date-init : goal.loop-date-init
loop-date-init c =
    let p = c.args.self.now in
    let w = c.put_opening.ensures in
    let end = w.end in
    let empty = c.requires.empty in
    let long = opening-length p.cycle p.rows.now p.number in
    let none = address-none p.cycle p.rows.now p.number (opening_length_of p) in
    let few = opening-few p.cycle p.rows.now p.number p.bounded.few in
    let d = c.dates-date-items.ensures in
    let b = begins p p.cycle c.into_iter-date-iterator.result c.dates-date-items.result c.into_iter-date-iterator.ensures.into_iter_gives d.program d.until d.from in
    let from = b.from in
    let at = ap (address_of p) from in
    record {
      can = tt;
      finite = tt;
      same = b.program;
      until = b.last;
      written = subst (λ (k : ℕ). Writes c.args.code.now c.put_opening.new.code (code_to p.cycle p.rows.now p.number (opening_of p) k)) (sym from) (writes-begun p.cycle p.rows.now p.number c.args.code.now c.put_opening.new.code w);
      end = omega arith;
      few = omega arith;
      within = omega arith;
    }

pub put_block-requires-clause-room : goal.put_block-requires-clause-room
put_block-requires-clause-room c =
    let p = c.args.self.now in
    let l = c.loop-date in
    let date = c.in-Some.date in
    let g = goes p p.cycle l.date-iterator c.next.new.self date l.invariant.same l.invariant.until c.in-Some.ensures.steps in
    let early = g.is.early in
    let next = address-next p.cycle p.rows.now p.number l.date-iterator.from date g.is.late g.is.first g.is.own in
    let room = address-room p.cycle p.rows.now p.number (date + 1) (omega arith) in
    let asked = c.requires.room in
    let end = l.invariant.end in
    let same = l.invariant.written.room in
    omega arith

pub loop-date-preserved : goal.loop-date-preserved
loop-date-preserved c =
    let p = c.args.self.now in
    let l = c.loop-date in
    let date = c.in-Some.date in
    let g = goes p p.cycle l.date-iterator c.next.new.self date l.invariant.same l.invariant.until c.in-Some.ensures.steps in
    let w = c.put_block.ensures in
    let long = rows-length p.cycle p.rows.now p.number (opening_length_of p) date (length p.rows.now) 0 l.code.end in
    let most = rows_few p.cycle p.rows.now p.number date (length p.rows.now) 0 in
    let next = address-next p.cycle p.rows.now p.number l.date-iterator.from date g.is.late g.is.first g.is.own in
    let late = g.is.late in
    let early = g.is.early in
    let from = g.next in
    let at = ap (address_of p) from in
    let end = l.invariant.end in
    let few = l.invariant.few in
    let rows = p.bounded.few in
    let after = w.end in
    record {
      can = tt;
      finite = tt;
      same = g.program;
      until = g.last;
      written = subst (λ (k : ℕ). Writes c.args.code.now c.put_block.new.code (code_to p.cycle p.rows.now p.number (opening_of p) k)) (sym from)
          (writes-block p.cycle p.rows.now p.number c.args.code.now l.code c.put_block.new.code l.date-iterator.from date late g.is.first g.is.own l.invariant.end l.invariant.written w);
      end = omega arith;
      few = omega arith;
      within = omega arith;
    }

pub returns : goal.returns
returns c =
    let p = c.args.self.now in
    let l = c.loop-date in
    writes-whole p.cycle p.rows.now p.number c.args.code.now l.code l.date-iterator.from l.invariant.within
    (ends p p.cycle l.date-iterator c.next.new.self l.invariant.same l.invariant.until c.in-None.ensures.steps) l.invariant.written
