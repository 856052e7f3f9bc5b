use Rattle.std.proofs.Common.{◌≡◌, ◌+◌, ◌*◌, ◌≤◌, ◌∷◌, ◌++◌, length, take}
use Rattle.sheet.specs.Rows.{tests_of}
use Rattle.sheet.specs.Forms.{tests_numbers}
use Rattle.sheet.proofs.writing.append_condition.Given as goal

-- The count and the tests so far stand after what stood there.
abbrev pub invariant-loop-test : goal.invariant-loop-test
invariant-loop-test l = record {
  same : l.numbers.items ≡ l.fn.numbers.items ++ length (tests_of l.fn.condition) ∷ tests_numbers (take l.test-index (tests_of l.fn.condition));
  few : length l.numbers.items ≤ 10 + 3 * l.test-index;
}
