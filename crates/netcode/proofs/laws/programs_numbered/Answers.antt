use Rattle.std.proofs.Common.{arith}
use Rattle.netcode.proofs.laws.programs_numbered.Goals as goal

pub returns : goal.returns
returns c = λ station. (omega arith, omega arith, omega arith, omega arith, λ h. omega arith)
