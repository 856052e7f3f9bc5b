use Rattle.std.proofs.Common.{◌≡◌, ◌++◌, ◌∙◌}
use Rattle.sheet.specs.Parts.{inputs_numbers}
use Rattle.programs.specs.Stores.{putting}
use Rattle.programs.proofs.Puttings.{put_then}
use Rattle.programs.proofs.encode.put_call.Goals as goal

pub returns-clause-put : goal.returns-clause-put
returns-clause-put c =
    let first = c.args.first.now in
    let last = c.args.last.now in
    let inputs = inputs_numbers c.args.inputs in
    let e : putting c.put_numbers-inputs_at.new.out c.put_numbers-inputs_at.result inputs ≡ (c.put_numbers-rest.new.out, c.put_numbers-rest.result) =
    rw (c.as_slice.ensures.value ∙ c.numbers.ensures) at c.put_numbers-rest.ensures.put in
    put_then c.args.out.now c.args.at first (inputs ++ last) _ _ c.put_numbers-inputs_at.ensures.put
    ∙ put_then _ _ inputs last _ _ e
    ∙ c.put_numbers.ensures.put
