use Rattle.std.proofs.Common.{◌≡◌, ℕ, ◌+◌, ◌-◌, ◌++◌, List, set, drop, replicate, sym, ap, ◌∙◌, arith, length-set, Bor}
use Rattle.std.proofs.lemmas.List.{set-append_left}
use Rattle.std.proofs.lemmas.Result.{err_from_is_err_and}
use Rattle.wire.specs.Numbers.{number_at, after_number}
use Rattle.netcode.specs.Layouts.{program_count}
use Rattle.programs.specs.Files.{one_program}
use Rattle.programs.specs.Stores.{storing_program}
use Rattle.programs.proofs.Stored.{programs-more, programs-refused}
use Rattle.programs.proofs.load.read_programs.Goals as goal

pub returns-in_err-length-clause-value : goal.returns-in_err-length-clause-value
returns-in_err-length-clause-value c =
    let p = err_from_is_err_and c.from_residual.result c.from_residual.ensures.1 in
    let l = c.loop-length in
    let bs = c.args.reader.now.bytes.now in
    let at-bytes = ap (λ (r : Bor (List ℕ)). storing_program l.list l.before (one_program (number_at r.now) (after_number r.now) c.args.room l.before l.reader.pos)) l.invariant.1 in
    rw (p.1, p.2)
    (programs-refused (number_at bs) (after_number bs) c.args.room (program_count c.args.stations - l.length-index) _ l.length-index l.list l.before l.reader.pos _
    (omega arith) (c.in_err-length.ensures.value ∙ at-bytes)
    ∙ sym l.invariant.0)

pub loop-length-preserved : goal.loop-length-preserved
loop-length-preserved c =
    let v = c.in_ok-length.ensures in
    let l = c.loop-length in
    let bs = c.args.reader.now.bytes.now in
    let rest : List ℕ = drop (program_count c.args.stations) (replicate 16 0) in
    let at-bytes = ap (λ (r : Bor (List ℕ)). storing_program l.list l.before (one_program (number_at r.now) (after_number r.now) c.args.room l.before l.reader.pos)) l.invariant.1 in
    let m : program_count c.args.stations - (l.length-index + 1) ≡ (program_count c.args.stations - l.length-index) - 1 = omega arith in
    let s : set (l.length-items ++ rest) l.length-index c.in_ok-length.field-0 ≡ set l.length-items l.length-index c.in_ok-length.field-0 ++ rest =
    set-append_left l.length-items rest l.length-index c.in_ok-length.field-0 (omega arith) in (
      l.invariant.0
          ∙ rw (m, ← s) (programs-more (number_at bs) (after_number bs) c.args.room (program_count c.args.stations - l.length-index) (l.length-items ++ rest) l.length-index l.list l.before l.reader.pos _ _ _ (omega arith) (v.value ∙ at-bytes)),
      v.same ∙ l.invariant.1,
      omega (arith, l.invariant.2),
      simp length-set l.invariant.3,
    )
