use Rattle.wire.proofs.Groups.{groups-more}
use Rattle.wire.proofs.writer.number_bytes.Goals as goal

pub loop-rest-preserved : goal.loop-rest-preserved
loop-rest-preserved c =
    let i = c.loop-rest.invariant in
    let m = groups-more _ c.loop-rest.bytes.items c.push.new.self.items c.loop-rest.rest i.same i.left c.loop-rest-test.true c.push.ensures.items in
    record { same = m.0; few = m.1; left = m.2 }
