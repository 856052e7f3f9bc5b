use Rattle.std.proofs.Common.{arith}
use Rattle.translate.proofs.Writing.{writes_test}
use Rattle.translate.proofs.code.Code.put_tests.Goals as goal

pub loop-test-preserved : goal.loop-test-preserved
loop-test-preserved c =
    let l = c.loop-test in
    let ts = c.args.tests.now in
    let w = c.put.ensures in
    let end = l.invariant.end in
    let after = w.end in
    record {
      written = writes_test c.args.self.now l.self c.put.new.self ts l.test-index c.args.to c.loop-test-test.true l.invariant.written w;
      end = omega arith;
    }
