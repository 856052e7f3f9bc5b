use Rattle.std.proofs.Common.{◌≡◌, ◌+◌, take}
use Rattle.translate.specs.Programs.{Writes}
use Rattle.translate.specs.Translation.{tests_code}
use Rattle.translate.proofs.code.Code.put_tests.Given as goal

-- The tests so far are written.
abbrev pub invariant-loop-test : goal.invariant-loop-test
invariant-loop-test l = record {
  written : Writes l.initial.self l.self (tests_code (take l.test-index l.tests) l.to);
  end : l.self.end ≡ l.initial.self.end + l.test-index;
}
