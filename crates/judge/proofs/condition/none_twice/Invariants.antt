use Rattle.std.proofs.Common.{◌≡◌, drop}
use Rattle.sheet.specs.Rows.{tests_of}
use Rattle.judge.specs.Tests.{none_twice}
use Rattle.judge.proofs.condition.none_twice.Given as goal

-- The variables so far don't stand again, so the question is of the tests from here on.
abbrev pub invariant-loop-i : goal.invariant-loop-i
invariant-loop-i l = none_twice (tests_of l.fn.c) ≡ none_twice (drop l.i l.t-items)
