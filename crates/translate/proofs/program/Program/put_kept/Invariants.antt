use Rattle.std.proofs.Common.{◌≡◌, ℕ, ◌+◌, length}
use Rattle.sheet.specs.declared.row.Keep.{Keep}
use Rattle.netcode.specs.declared.step.Step.{Step}
use Rattle.translate.specs.Programs.{kept_to, Writes}
use Rattle.translate.specs.Translation.{keeps_to}
use Rattle.translate.proofs.program.Program.put_kept.Given as goal

-- The steps of the rows so far are written.
abbrev pub invariant-loop-number : goal.invariant-loop-number
invariant-loop-number g l = record {
  end : l.code.end ≡ l.initial.code.end + length (keeps_to l.self.rows.now l.self.number l.number);
  room : length l.code.steps.now ≡ length l.initial.code.steps.now;
  written : (made : ℕ → Keep → Step) → ((n : ℕ) (k : Keep) (s : Step) → goal.F-post g l.step n k s → s ≡ made n k) → Writes l.initial.code l.code (kept_to made l.self.rows.now l.self.number l.number);
}
