use Rattle.std.proofs.Common.{◌≡◌, ◌≤◌, ◌∷◌, length, ◌∙◌, rules, arith}
use Rattle.std.specs.List.{flat_map}
use Rattle.netcode.specs.Layouts.{programs_of}
use Rattle.netcode.specs.Programs.{programs_left}
use Rattle.programs.specs.Files.{program_numbers}
use Rattle.programs.proofs.Lengths.{short-cuts}
use Rattle.programs.proofs.Puttings.{put_then}
use Rattle.programs.proofs.save.put_programs.Goals as goal

pub loop-program-init : goal.loop-program-init
loop-program-init c =
    let e : programs_left c.into_iter-program-iterator.result ≡ programs_of c.args.layout.now c.args.steps.now = search rules in
    let n : length (programs_left c.into_iter-program-iterator.result) ≤ 16 = search rules in
    (rw e, rw e (short-cuts _ c.args.steps.now c.requires.0), omega arith)

pub loop-program-preserved : goal.loop-program-preserved
loop-program-preserved c =
    let e : programs_left c.loop-program.program-iterator ≡ c.in-Some.program.now ∷ programs_left c.next.new.self = search rules in
    let i = rw e at c.loop-program.invariant in (
      i.0 ∙ put_then _ _ (program_numbers c.in-Some.program.now) (flat_map program_numbers (programs_left c.next.new.self)) _ _ c.put_program-end.ensures.put,
      i.1.1,
      omega (arith, i.2, c.put_program-end.ensures.near),
    )
