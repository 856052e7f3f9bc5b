-- The programs of an accepted sheet keep the rules of programs.
use Rattle.std.proofs.Common.{◌≡◌, ℕ, zero, suc, ◌+◌, ◌-◌, ◌<◌, ◌≤◌, Bool, true, false, cond, eqb, List, [], ◌∷◌, ◌++◌, map, length, get_or, sym, refl, ap, ◌∙◌, subst, add-zero, zero-add, arith}
use Rattle.std.proofs.lemmas.List.{length-map, get_or-map, get_or_at, map-append, length-append}
use Rattle.sheet.specs.declared.row.Head.{Head}
use Rattle.sheet.specs.declared.row.Inputs.{Inputs}
use Rattle.sheet.specs.declared.row.Inputs.TheVariants.{Nothing, Single, Pair}
use Rattle.sheet.specs.declared.row.Row.{Row}
use Rattle.sheet.specs.declared.row.Row.TheVariants.{Keep as keep_row, Call as call_row, Send as send_row}
use Rattle.sheet.specs.Rows.{row_at}
use Rattle.netcode.specs.declared.step.Step.{Step}
use Rattle.netcode.specs.declared.step.Step.TheVariants.{Halt, Send, Receive}
use Rattle.netcode.specs.Steps.{step_in, no_step}
use Rattle.netcode.specs.Layouts.{program_count, station_of}
use Rattle.netcode.specs.Laws.{InputsWithin, Within, Lawful, program_in, LawfulBefore}
use Rattle.netcode.proofs.Verdicts.{rules-stand}
use Rattle.schedule.specs.Program.{Step as PlannedStep}
use Rattle.schedule.specs.Machine.{program}
use Rattle.schedule.specs.Lawful.{ActOk, StepOk, ProgramOk}
use Rattle.schedule.proofs.Kept.{program-ok}
use Rattle.translate.specs.Schedules.{keep_count, input_count, first_input, second_input, as_row, rows_of, row_total, keeps_of, concrete}
use Rattle.translate.specs.Translation.{act, program_code, programs_from, translated}
use Rattle.translate.specs.Laws.{Sheet, ProgramsLawful}
use Rattle.translate.proofs.Maps.{program-maps}
use Rattle.translate.proofs.Judging.{ordered, judged, limits}

inputs-ok : (i : Inputs) → (0 < input_count i → first_input i < 64) → (1 < input_count i → second_input i < 64) → InputsWithin i
inputs-ok Nothing f s = tt
inputs-ok (Single a) f s = f (omega arith)
inputs-ok (Pair a b) f s = (f (omega arith), s (omega arith))

-- What a program does of a row has fields within their limits.
act-ok : (len a p k : ℕ) (rows : List Row) (row : Row) → row_at rows (keep_count rows + k) ≡ row → ActOk (rows_of rows) (keep_count rows) k → Within len a (act p (keep_count rows + k) row)
act-ok len a p k rows row e ok = go row ok.row (subst (λ (x : Row). ((as_row x).sends ≡ false → (as_row x).work < 256) × (0 < (as_row x).count → (as_row x).one < 64) × (1 < (as_row x).count → (as_row x).two < 64) × ((as_row x).out < 64) × (1 ≤ (as_row x).dur) × ((as_row x).dur ≤ 65535)) e (ok.work, ok.first, ok.second, ok.output, ok.long, ok.short))
  where
    go : (x : Row) → keep_count rows + k < 128
        → ((as_row x).sends ≡ false → (as_row x).work < 256) × (0 < (as_row x).count → (as_row x).one < 64) × (1 < (as_row x).count → (as_row x).two < 64) × ((as_row x).out < 64) × (1 ≤ (as_row x).dur) × ((as_row x).dur ≤ 65535)
        → Within len a (act p (keep_count rows + k) x)
    go (keep_row q) l f = tt
    go (call_row c) l (w, i, j, o, d, s) = (l, w refl, inputs-ok c.inputs i j, o, (d, s))
    go (send_row c) l (w, i, j, o, d, s) = on (eqb c.station (station_of p))
      where
        on : (b : Bool) → Within len a (cond b (Send (keep_count rows + k) c.variable c.duration) (Receive c.variable c.duration))
        on true = (l, o, (d, s))
        on false = (o, (d, s))

step_ok : (len a p : ℕ) (rows : List Row) (x : PlannedStep) → StepOk (rows_of rows) (keep_count rows) len a x → Within len a (concrete rows p x)
step_ok len a p rows (PlannedStep.test t b) ok = ok
step_ok len a p rows (PlannedStep.future m b) ok = ((ok.0, ok.1), ok.2)
step_ok len a p rows PlannedStep.halt ok = tt
step_ok len a p rows (PlannedStep.act k) ok = act-ok len a p k rows (row_at rows (keep_count rows + k)) refl ok
step_ok len a p rows (PlannedStep.keep x m) ok = ok
step_ok len a p rows PlannedStep.clear ok = tt
step_ok len a p rows (PlannedStep.give m x w) ok = ok

map-lawful : (rows : List Row) (p : ℕ) (q : List PlannedStep) → ProgramOk (rows_of rows) (keep_count rows) q → Lawful (map (concrete rows p) q)
map-lawful rows p q ok =
    let l : length (map (concrete rows p) q) ≡ length q = length-map q (concrete rows p) in
    let x = ok.long in
    let y = ok.short in
    record {
      some = omega arith;
      few = omega arith;
      steps = λ a b.
          let m : a < length q = omega arith in
          subst (λ (s : Step). Within (length (map (concrete rows p) q)) a s) (sym (get_or-map (concrete rows p) q a PlannedStep.halt no_step m))
          (subst (λ (n : ℕ). Within n a (concrete rows p (get_or q a PlannedStep.halt))) (sym l) (step_ok (length q) a p rows (get_or q a PlannedStep.halt) (ok.steps a m)));
      halts = last ok.last;
    }
  where
    last : (front : List PlannedStep) × (q ≡ front ++ (PlannedStep.halt ∷ [])) → step_in (map (concrete rows p) q) (length (map (concrete rows p) q) - 1) ≡ Halt
    last (front, e) =
        let f = map (concrete rows p) front in
        let g : map (concrete rows p) q ≡ f ++ (Halt ∷ []) = ap (map (concrete rows p)) e ∙ map-append (concrete rows p) front (PlannedStep.halt ∷ []) in
        ap (λ (xs : List Step). step_in xs (length xs - 1)) g
        ∙ get_or_at f Halt [] no_step (length (f ++ (Halt ∷ [])) - 1) (omega (arith, length-append f (Halt ∷ [])))

pub program-lawful : (h : Head) (rows : List Row) → Sheet h rows → (p : ℕ) → Lawful (program_code h.cycle rows p)
program-lawful h rows s p =
    let j = judged h rows s.rules in
    let l = limits h rows s.rules s.within s.counted in
    subst Lawful (sym (program-maps h.cycle rows p (ordered h rows s.rules)))
    (map-lawful rows p (program (rows_of rows) (row_total rows) h.cycle (keeps_of rows) (keep_count rows) p)
    (program-ok (rows_of rows) (row_total rows) h.cycle (keeps_of rows) (keep_count rows) h.stations h.variables l j.long j.inside p))

programs-many : (cycle : ℕ) (rows : List Row) (m p : ℕ) → length (programs_from cycle rows p m) ≡ m
unfolding programs_from
programs-many cycle rows zero p = refl
programs-many cycle rows (suc m) p = ap suc (programs-many cycle rows m (suc p))

programs-at : (cycle : ℕ) (rows : List Row) (m p k : ℕ) → k < m → program_in (programs_from cycle rows p m) k ≡ program_code cycle rows (p + k)
unfolding programs_from
programs-at cycle rows zero p k l = absurd (omega arith)
programs-at cycle rows (suc m) p zero l = ap (program_code cycle rows) (sym (add-zero p))
programs-at cycle rows (suc m) p (suc k) l = let e : suc p + k ≡ p + suc k = omega arith in programs-at cycle rows m (suc p) k (omega arith) ∙ ap (program_code cycle rows) e

pub each-program : (h : Head) (rows : List Row) (p : ℕ) → p < program_count h.stations → program_in (translated h rows) p ≡ program_code h.cycle rows p
each-program h rows p l = programs-at h.cycle rows (program_count h.stations) 0 p l ∙ ap (program_code h.cycle rows) (zero-add p)

pub lawful-all : (h : Head) (rows : List Row) → Sheet h rows → LawfulBefore (translated h rows) (length (translated h rows))
lawful-all h rows s p l =
    let m : p < program_count h.stations = omega (arith, programs-many h.cycle rows (program_count h.stations) 0) in
    subst Lawful (sym (each-program h rows p m)) (program-lawful h rows s p)

pub programs-lawful : ProgramsLawful
programs-lawful = record {
  count = λ h rows. programs-many h.cycle rows (program_count h.stations) 0;
  each = each-program;
  lawful = program-lawful;
  unbroken = λ h rows s. rules-stand.all_lawful (translated h rows) (lawful-all h rows s);
}
