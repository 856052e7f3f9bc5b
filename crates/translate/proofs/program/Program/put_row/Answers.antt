use Rattle.std.proofs.Common.{◌≡◌, ◌+◌, [], ◌∷◌, length, ap, ◌∙◌, ap₂, subst, arith}
use Rattle.sheet.specs.Rows.{tests_of}
use Rattle.netcode.specs.declared.step.Step.{Step}
use Rattle.netcode.specs.declared.step.Step.TheVariants.{Halt}
use Rattle.translate.specs.Programs.{wait_of, Writes}
use Rattle.translate.specs.Translation.{end_of, tests_in, tests_code, act}
use Rattle.translate.proofs.Lengths.{tests-in}
use Rattle.translate.proofs.Writing.{writes_append}
use Rattle.translate.proofs.program.Program.put_row.Goals as goal

pub returns : goal.returns
returns c =
    let p = c.args.self.now in
    let code = c.args.code.now in
    let ts = tests_in c.args.row in
    let same : c.as_slice.result.now ≡ ts = c.as_slice.ensures.value ∙ c.tests-tests.ensures ∙ ap tests_of c.condition.ensures ∙ tests-in c.args.row in
    let long : c.len.result ≡ length ts = c.len.ensures.value ∙ ap length (c.tests-tests.ensures ∙ ap tests_of c.condition.ensures ∙ tests-in c.args.row) in
    let to : code.end + c.len.result + 3 ≡ code.end + (length ts + 3) = omega arith in
    let tests = subst (Writes code c.put_tests.new.self) (ap₂ tests_code same to) c.put_tests.ensures.code in
    let wait = wait_of p c.args.date (end_of c.args.row) in
    let waits = subst (λ (s : Step). Writes c.put_tests.new.self c.put.new.self (s ∷ [])) (c.wait_step-wait.ensures ∙ ap (wait_of p c.args.date) c.end_of.ensures) c.put.ensures in
    let does = act p.number c.args.number c.args.row in
    let acts = subst (λ (s : Step). Writes c.put.new.self c.put-2.new.self (s ∷ [])) c.act.ensures c.put-2.ensures in
    writes_append code c.put_tests.new.self c.put-3.new.self (tests_code ts (code.end + (length ts + 3))) (wait ∷ does ∷ Halt ∷ []) tests
    (writes_append c.put_tests.new.self c.put.new.self c.put-3.new.self (wait ∷ []) (does ∷ Halt ∷ []) waits
    (writes_append c.put.new.self c.put-2.new.self c.put-3.new.self (does ∷ []) (Halt ∷ []) acts c.put-3.ensures))
