use Rattle.std.proofs.Common.{◌≡◌, ℕ, ◌+◌, [], ◌∷◌, length, None, sym, refl, ap, ◌∙◌, subst, arith}
use Rattle.sheet.specs.Rows.{row_at}
use Rattle.translate.specs.declared.code.Code.{Code}
use Rattle.translate.specs.Programs.{kept_in, kept_to, Writes}
use Rattle.translate.proofs.Kept.{kept-none, writes-row, writes-no_row, kept-length-none, kept-length-more, kept-length-same, kept-length-few}
use Rattle.translate.proofs.Writing.{writes_none}
use Rattle.translate.proofs.program.Program.put_kept.Goals as goal
use Rattle.translate.proofs.program.Program.put_kept.Goals.{in-Some, in_default}

pub loop-number-init : goal.loop-number-init
loop-number-init g c =
    let p = c.args.self.now in
    record {
      end = sym (ap (λ (k : ℕ). c.args.code.now.end + k) (kept-length-none p.rows.now p.number) ∙ omega arith);
      room = refl;
      written = λ made h. subst (Writes c.args.code.now c.args.code.now) (sym (kept-none made p.rows.now p.number)) (writes_none c.args.code.now);
    }

pub put-requires : goal.put-requires
put-requires g c =
    let p = c.args.self.now in
    let l = c.loop-number in
    let end = l.invariant.end in
    let room = l.invariant.room in
    let more = kept-length-more p.rows.now p.number l.number c.in-Some.keep c.in-Some.ensures in
    let few = kept-length-few p.rows.now p.number (l.number + 1) (length p.rows.now) (omega arith) in
    let asked = c.requires.room in
    omega arith

pub loop-number-preserved : goal.loop-number-preserved
loop-number-preserved g c =
    let p = c.args.self.now in
    let l = c.loop-number in
    let end = l.invariant.end in
    elim c.match-kept.branch [
      | in-Some w ↦
          let put = subst (λ (code : Code). Writes l.code code (w.step.result ∷ [])) (sym w.code-is) w.put.ensures in
          let after = put.end in
          let more = kept-length-more p.rows.now p.number l.number w.in-Some.keep w.in-Some.ensures in
          record {
            end = omega arith;
            room = put.room ∙ l.invariant.room;
            written = λ made h.
                writes-row made p.rows.now p.number c.args.code.now l.code c.match-kept.code l.number w.in-Some.keep w.step.result w.in-Some.ensures (h l.number w.in-Some.keep w.step.result w.step.ensures)
                (l.invariant.written made h) put;
          }
      | in_default w ↦
          let none : kept_in p.number (row_at p.rows.now l.number) ≡ None = sym w.in_default.ensures in
          let same = kept-length-same p.rows.now p.number l.number none in
          rw w.code-is record {
            end = omega arith;
            room = l.invariant.room;
            written = λ made h. writes-no_row made p.rows.now p.number c.args.code.now l.code l.number none (l.invariant.written made h);
          }
    ]

pub returns : goal.returns
returns g c =
    let p = c.args.self.now in
    let n : c.loop-number.number ≡ length p.rows.now = omega arith in
    λ made h. subst (λ (k : ℕ). Writes c.args.code.now c.loop-number.code (kept_to made p.rows.now p.number k)) n (c.loop-number.invariant.written made h)
