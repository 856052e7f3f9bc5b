-- What the facts of a run's programs say.
use Rattle.std.proofs.Common.{◌≡◌, ◌≤◌, min, Bool, true, false, List, length, is_some, Some, None, Option, arith}
use Rattle.std.proofs.lemmas.Bool.{true≢false}
use Rattle.fault.specs.declared.refusal.Fault.{Fault}
use Rattle.fault.specs.declared.place.StepPlace.{StepPlace}
use Rattle.netcode.specs.declared.step.Step.{Step}
use Rattle.netcode.specs.declared.step.Layout.{Layout}
use Rattle.netcode.specs.Layouts.{station_of, programs_of}
use Rattle.netcode.specs.Rules.{first_broken}
use Rattle.netcode.specs.Laws.{LawfulBefore, Verdict}
use Rattle.netcode.proofs.Verdicts.{judged-programs}
use Rattle.bench.proofs.Lasting.{length-programs}

-- Programs without a fault keep the rules.
unbroken : (ps : List (List Step)) (o : Option (Fault StepPlace)) → is_some o ≡ false → Verdict ps o → LawfulBefore ps (length ps)
unbroken ps None h v = v
unbroken ps (Some fault) h v = let z : ◌≡◌ {A = Bool} true false = h in absurd (true≢false z)

pub programs-lawful : (programs : List (List Step)) → is_some (first_broken 0 programs) ≡ false → LawfulBefore programs (length programs)
programs-lawful programs h = unbroken programs _ h (judged-programs programs)

pub programs-few : (layout : Layout) (steps : List Step) → length layout.lengths ≡ 16 → length (programs_of layout steps) ≤ 16
programs-few layout steps s = rw (length-programs layout steps s) (omega arith)

pub stations-in : (layout : Layout) (steps : List Step) → length layout.lengths ≡ 16 → station_of (length (programs_of layout steps)) ≡ min layout.stations 8
stations-in layout steps s = rw (length-programs layout steps s) (omega arith)
