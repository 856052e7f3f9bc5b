-- What writing a file answers and leaves.
use Rattle.std.proofs.Common.{◌≡◌, ℕ, ◌<◌, ◌≤◌, true, List, length, Ok, sym, ap, ◌∙◌, zero-add, arith}
use Rattle.std.proofs.lemmas.Bool.{lt-ltb, le-ltb}
use Rattle.wire.specs.Bytes.{spelled}
use Rattle.sheet.specs.Sheets.{too_short}
use Rattle.netcode.specs.declared.step.Step.{Step}
use Rattle.netcode.specs.declared.step.Layout.{Layout}
use Rattle.programs.specs.Files.{file_numbers, file_bytes, file_of, layout_within, laid_on, end_of_file, written_file}
use Rattle.programs.specs.Stores.{putting}
use Rattle.programs.proofs.Puttings.{put-end, put-over}

ends : (out : List ℕ) (ns : List ℕ) (p : List ℕ × ℕ) → putting out 0 ns ≡ p → p.1 ≡ length (spelled ns)
ends out ns p e = sym (ap (λ (q : List ℕ × ℕ). q.1) e) ∙ put-end out 0 ns ∙ zero-add (length (spelled ns))

lies : (out : List ℕ) (ns : List ℕ) (p : List ℕ × ℕ) → length (spelled ns) ≤ length out → putting out 0 ns ≡ p → p.0 ≡ laid_on (spelled ns) out
lies out ns p h e = sym (ap (λ (q : List ℕ × ℕ). q.0) e) ∙ put-over out 0 ns (omega arith) ∙ rw (zero-add (length (spelled ns)))

-- Too little room.
pub short-file : (layout : Layout) (steps : List Step) (out zs : List ℕ) (p : List ℕ × ℕ) → layout_within layout ≡ true
    → putting zs 0 (file_numbers (file_of layout steps)) ≡ p → length out < p.1
    → (too_short p.1 ≡ end_of_file layout steps (length out)) × (out ≡ written_file layout steps out)
short-file layout steps out zs p w e h =
    let n = ends zs (file_numbers (file_of layout steps)) p e in
    let l = lt-ltb (length out) (length (file_bytes (file_of layout steps))) (omega arith) in
    (rw (w, l, n), rw (w, l))

-- Room enough.
pub whole-file : (layout : Layout) (steps : List Step) (out zs : List ℕ) (p q : List ℕ × ℕ) → layout_within layout ≡ true
    → putting zs 0 (file_numbers (file_of layout steps)) ≡ p → p.1 ≤ length out
    → putting out 0 (file_numbers (file_of layout steps)) ≡ q
    → (Ok q.1 ≡ end_of_file layout steps (length out)) × (q.0 ≡ written_file layout steps out)
whole-file layout steps out zs p q w e h f =
    let n = ends zs (file_numbers (file_of layout steps)) p e in
    let m = ends out (file_numbers (file_of layout steps)) q f in
    let l = le-ltb (length out) (length (file_bytes (file_of layout steps))) (omega arith) in
    (rw (w, l, m), rw (w, l) (lies out (file_numbers (file_of layout steps)) q (omega arith) f))
