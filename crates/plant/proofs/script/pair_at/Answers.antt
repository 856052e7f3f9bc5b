use Rattle.std.proofs.Common.{sym, ◌∙◌}
use Rattle.std.proofs.lemmas.List.{take_rest}
use Rattle.plant.proofs.Pairs.{pair-found}
use Rattle.plant.proofs.script.pair_at.Goals as goal

pub returns-in_err-owner : goal.returns-in_err-owner
returns-in_err-owner c =
    c.from_residual-in_err-owner.ensures
    ∙ pair-found c.args.bytes.now _ c.args.pos _
    (c.new-reader.ensures.bytes ∙ c.in_ok-get.ensures.lookup.0.2 ∙ take_rest c.args.bytes.now c.args.pos) c.new-reader.ensures.start
    c.read_pair.result _ _ c.read_pair.ensures.value c.read_pair.ensures.next (sym c.in_err-owner.was ∙ c.ok.ensures.value)

pub returns : goal.returns
returns c =
    pair-found c.args.bytes.now _ c.args.pos _
    (c.new-reader.ensures.bytes ∙ c.in_ok-get.ensures.lookup.0.2 ∙ take_rest c.args.bytes.now c.args.pos) c.new-reader.ensures.start
    c.read_pair.result c.pos.result _ c.read_pair.ensures.value (c.pos.ensures ∙ c.read_pair.ensures.next) (sym c.in_ok-owner.was ∙ c.ok.ensures.value)
