use Rattle.std.proofs.Common.{◌≡◌, drop}
use Rattle.judge.specs.Verdict.{first_unavailable, test_needs}
use Rattle.judge.proofs.Unavailables.{needs_after}
use Rattle.judge.proofs.availability.Reads.require_tests.Given as goal

-- The tests so far miss nothing, so the search goes on with those after them.
abbrev pub invariant-loop-test : goal.invariant-loop-test
invariant-loop-test l =
    first_unavailable l.self.above.now (test_needs l.self.station l.self.date l.self.condition)
    ≡ first_unavailable l.self.above.now (needs_after l.self.station l.self.date l.after (drop l.test-index l.test-items))
