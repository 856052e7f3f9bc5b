use Rattle.std.specs.Prelude.{List}
use Rattle.netcode.specs.declared.step.Step.{Step}
use Rattle.netcode.specs.declared.layout.Programs.{Programs}
use Rattle.netcode.specs.Layouts.{cuts}

-- The programs that an iterator has still to give.
abbrev pub programs_left : Programs → List (List Step)
programs_left programs = cuts programs.lengths.now programs.steps.now
