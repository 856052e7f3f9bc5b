use Rattle.std.proofs.Common.{ap, ◌∙◌, arith}
use Rattle.std.proofs.lemmas.Result.{err_from_is_err_and}
use Rattle.plant.proofs.Pairs.{read-stops, read-trails, read_all}
use Rattle.plant.proofs.script.Script.read.Goals as goal

pub returns-in_err-end : goal.returns-in_err-end
returns-in_err-end c =
    let p = err_from_is_err_and c.from_residual-in_err-end.result c.from_residual-in_err-end.ensures.1 in
    rw (p.1, p.2)
    (read-stops c.args.bytes.now _ _ _ _ _ _ c.new-reader.ensures.bytes c.new-reader.ensures.start c.in_ok-count.ensures.value
    (c.pos-start.ensures ∙ c.number.ensures.next) (ap (λ x. x.now) c.number.ensures.same ∙ c.new-reader.ensures.bytes) c.pos-start.ensures
    _ c.in_err-end.ensures)

pub returns-then-end-bytes : goal.returns-then-end-bytes
returns-then-end-bytes c =
    read-trails c.args.bytes.now _ _ _ _ _ _ c.new-reader.ensures.bytes c.new-reader.ensures.start c.in_ok-count.ensures.value
    (c.pos-start.ensures ∙ c.number.ensures.next) (ap (λ x. x.now) c.number.ensures.same ∙ c.new-reader.ensures.bytes) c.pos-start.ensures
    _ c.in_ok-end.ensures (omega (arith, c.if-end-bytes.true))

pub returns : goal.returns
returns c =
    read_all c.args.bytes.now _ _ _ _ c.pos-start.result _ c.new-reader.ensures.bytes c.new-reader.ensures.start c.in_ok-count.ensures.value
    (c.pos-start.ensures ∙ c.number.ensures.next) (ap (λ x. x.now) c.number.ensures.same ∙ c.new-reader.ensures.bytes) c.pos-start.ensures
    _ c.in_ok-end.ensures (omega (arith, c.if-end-bytes.false))
