use Rattle.std.proofs.Common.{[], Err, sym, ap, ◌∙◌}
use Rattle.fault.specs.declared.place.BytesPlace.{BytesPlace}
use Rattle.fault.specs.declared.refusal.Fault.{Fault}
use Rattle.programs.proofs.Saves.{short-file, whole-file}
use Rattle.programs.proofs.save.write.Goals as goal

pub returns-then-out-needed : goal.returns-then-out-needed
returns-then-out-needed c =
    let e = short-file c.args.layout.now c.args.steps.now c.args.out.now [] (c.put_file-needed.new.out, c.put_file-needed.result) (sym c.if-not-layout_within.ensures) c.put_file-needed.ensures.put c.if-out-needed.true in
    record { end = ap (λ (f : Fault BytesPlace). Err f) c.too_short.ensures ∙ e.0; bytes = e.1 }

pub returns : goal.returns
returns c =
    let e = whole-file c.args.layout.now c.args.steps.now c.args.out.now [] (c.put_file-needed.new.out, c.put_file-needed.result) (c.put_file.new.out, c.put_file.result) (sym c.if-not-layout_within.ensures) c.put_file-needed.ensures.put c.if-out-needed.false c.put_file.ensures.put in
    record { end = e.0; bytes = e.1 }
