use Rattle.std.proofs.Common.{length}
use Rattle.programs.specs.Files.{file_in}
use Rattle.programs.proofs.Fitting.{file-fits, file-read}
use Rattle.programs.proofs.file.read.Goals as goal

pub returns : goal.returns
returns c =
    let bs = c.args.bytes.now in
    let xs = c.args.steps.now in
    let e = file-read xs _ _ _ _ (file_in bs (length xs)) (file-fits bs (length xs)) c.in_ok-read_file.ensures c.read_file-2.ensures in
    record { layout = e.0; list = e.1 }
