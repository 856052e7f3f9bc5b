use Rattle.std.proofs.Common.{◌≡◌, ◌-◌}
use Rattle.judge.specs.Verdict.{first_unavailable, listener_needs}
use Rattle.judge.proofs.availability.require_at_listeners.Given as goal

-- At the listeners so far nothing is missing, so the search goes on with the rest.
abbrev pub invariant-loop-n : goal.invariant-loop-n
invariant-loop-n l =
    first_unavailable l.above (listener_needs l.s l.stations 0)
    ≡ first_unavailable l.above (listener_needs l.s (l.stations - l.n) l.n)
