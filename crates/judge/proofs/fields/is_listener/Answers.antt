use Rattle.judge.proofs.Bitwise.{listens-none}
use Rattle.std.proofs.Common.{arith}
use Rattle.judge.proofs.fields.is_listener.Goals as goal

pub returns-else-station-lt32 : goal.returns-else-station-lt32
returns-else-station-lt32 c = listens-none c.args.listeners c.args.station (omega arith) (omega arith)
