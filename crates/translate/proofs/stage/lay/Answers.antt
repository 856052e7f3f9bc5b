use Rattle.std.proofs.Common.{ℕ, ◌≤◌, List, length, Ok, Result, sym, ap, ◌∙◌, arith}
use Rattle.std.proofs.lemmas.Bool.{le-ltb, cond-false}
use Rattle.fault.specs.declared.place.BytesPlace.{BytesPlace}
use Rattle.fault.specs.declared.refusal.Fault.{Fault}
use Rattle.netcode.specs.declared.step.Layout.{Layout}
use Rattle.translate.specs.Stores.{steps_of, needed}
use Rattle.translate.specs.Translation.{translated}
use Rattle.translate.proofs.Fills.{stored-laid, lengths-laid}
use Rattle.translate.proofs.stage.lay.Goals as goal

pub returns : goal.returns
returns c =
    let h = c.args.head in
    let rows = c.args.rows.now in
    let n = c.all_lengths-count.ensures in
    let room : needed h rows ≤ length c.args.steps.now = omega arith in
    let f = le-ltb (length c.args.steps.now) (needed h rows) room in
    let e = c.put_programs-lengths.ensures in
    let ok : List ℕ → Result Layout (Fault BytesPlace) = λ ls. Ok record { stations = h.stations; lengths = ls } in
    record {
      layout = ap ok (e.lengths ∙ lengths-laid h rows) ∙ sym (cond-false _ _ _ f);
      list = e.list ∙ stored-laid c.args.steps.now (steps_of (translated h rows)) room ∙ sym (cond-false _ _ _ f);
    }
