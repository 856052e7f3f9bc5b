use Rattle.plant.proofs.ScriptForms.{script-back, script-one-form}
use Rattle.plant.proofs.script.scripts_stand.Goals as goal

pub returns : goal.returns
returns c = record { back = script-back; one = script-one-form }
