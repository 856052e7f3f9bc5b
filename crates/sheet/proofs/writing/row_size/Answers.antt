use Rattle.std.proofs.Common.{arith}
use Rattle.sheet.proofs.Sizes.{spelled-few}
use Rattle.sheet.proofs.writing.row_size.Goals as goal

pub returns-clause-few : goal.returns-clause-few
returns-clause-few c = omega (arith, c.numbers_size.ensures, spelled-few c.as_slice.result.now)
