use Rattle.std.proofs.Common.{length, vec_len, sym, ap, ◌∙◌}
use Rattle.stages.specs.declared.stage.Accepted.{Accepted}
use Rattle.stages.specs.Views.{accepted_head, accepted_rows}
use Rattle.translate.specs.Translation.{translated}
use Rattle.semantics.proofs.Kept.{run-promise}
use Rattle.rehearsal.proofs.Sheets.{sheet-of, nothing-against}
use Rattle.rehearsal.proofs.Served.{ran}
use Rattle.rehearsal.proofs.runs.run_sheet.Goals as goal

pub returns : goal.returns
returns g c =
    let m = g.P.Plant.model in
    let sheet = c.args.sheet in
    let h = accepted_head sheet in
    let rows = accepted_rows sheet in
    let start = g.P.Plant.meaning c.args.plant.now in
    let t = c.in_ok-translate.ensures in
    let f = c.in_default.ensures in
    let known = f.means.good (f.value ∙ sym f.value) in
    let programs = c.started-run.ensures.programs ∙ ap (λ (a : Accepted). translated (accepted_head a) (accepted_rows a)) t.1 in (
      nothing-against m h rows (vec_len c.args.steps) (length c.args.replies.now) (length c.args.requests.now) f.value c.if-replies-requests.false t.0,
      ran m h rows start (g.P.Plant.meaning c.serve_all.new.plant) c.args.requests.now c.args.replies.now c.serve_all.new.replies c.started-run.result c.serve_all.new.self c.serve_all.result
          programs c.started-run.ensures.state c.serve_all.ensures.programs c.serve_all.ensures.served c.if-replies-requests.false
          (run-promise m g.P.Plant.apart h rows (sheet-of sheet) known start),
    )
