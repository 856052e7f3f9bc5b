use Rattle.judge.proofs.Bitwise.{exist-all, exist-below}
use Rattle.std.proofs.Common.{arith}
use Rattle.judge.proofs.fields.listeners_exist.Goals as goal

pub returns-then-stations-ge32 : goal.returns-then-stations-ge32
returns-then-stations-ge32 c = exist-all c.args.listeners c.args.stations (omega arith) (omega arith)

pub returns-else-stations-ge32 : goal.returns-else-stations-ge32
returns-else-stations-ge32 c = exist-below c.args.listeners c.args.stations
