use Rattle.std.proofs.Common.{◌≡◌, List, None, vec_items, ap, ◌∙◌, ap₂, arith}
use Rattle.netcode.specs.declared.step.Layout.{Layout}
use Rattle.netcode.specs.declared.step.Step.{Step}
use Rattle.netcode.specs.Layouts.{programs_of}
use Rattle.netcode.specs.Rules.{first_broken}
use Rattle.rehearsal.proofs.Sheets.{held, unbroken}
use Rattle.rehearsal.proofs.runs.started.Goals as goal

pub unwrap-requires : goal.unwrap-requires
unwrap-requires c =
    let e : first_broken 0 (programs_of c.layout-layout.result (vec_items c.close-steps.result.1)) ≡ None =
    ap₂ (λ (x : Layout) (y : List Step). first_broken 0 (programs_of x y)) c.layout-layout.ensures (ap vec_items c.close-steps.ensures.1) ∙ unbroken c.args.sheet c.requires in
    grind arith

pub returns : goal.returns
returns c =
    let made = rw c.unwrap.ensures at c.make.ensures in
    let layout = made.1 ∙ c.layout-layout.ensures in
    let steps = ap vec_items made.2 ∙ ap vec_items c.close-steps.ensures.1 in
    record { programs = ap₂ programs_of layout steps ∙ held c.args.sheet c.requires; state = made.3 }
