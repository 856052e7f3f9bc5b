-- Programs that stand one after the other are cut apart again.
use Rattle.std.proofs.Common.{◌≡◌, ℕ, List, [], ◌∷◌, ◌++◌, map, length, take, drop, refl, ap, ◌∙◌, ap₂, append_assoc}
use lib.ListN.{length-map}
use Rattle.std.proofs.lemmas.List.{take_at, drop_at}
use Rattle.netcode.specs.declared.step.Step.{Step}
use Rattle.netcode.specs.Layouts.{cuts, programs_of, program_count}
use Rattle.sheet.specs.declared.row.Head.{Head}
use Rattle.sheet.specs.declared.row.Row.{Row}
use Rattle.translate.specs.Translation.{translated}
use Rattle.translate.specs.Stores.{steps_of, layout_for}

cut_apart : (ps : List (List Step)) (rest : List Step) → cuts (map length ps) (steps_of ps ++ rest) ≡ ps
cut_apart [] rest = refl
cut_apart (p ∷ ps) rest =
    let e = append_assoc p (steps_of ps) rest in
    ap₂ (λ (x : List Step) (xs : List (List Step)). x ∷ xs)
    (ap (take (length p)) e ∙ take_at p (steps_of ps ++ rest) _ refl)
    (ap (λ (xs : List Step). cuts (map length ps) (drop (length p) xs)) e
    ∙ ap (cuts (map length ps)) (drop_at p (steps_of ps ++ rest) _ refl)
    ∙ cut_apart ps rest)

pub cut-back : (h : Head) (rows : List Row) (rest : List Step) → length (translated h rows) ≡ program_count h.stations
    → programs_of (layout_for h rows) (steps_of (translated h rows) ++ rest) ≡ translated h rows
cut-back h rows rest n =
    ap (λ (ns : List ℕ). cuts ns (steps_of (translated h rows) ++ rest))
    (take_at (map length (translated h rows)) _ (program_count h.stations) (length-map (translated h rows) length ∙ n))
    ∙ cut_apart (translated h rows) rest
