-- Writing numbers one after the other.
use Rattle.std.proofs.Common.{◌≡◌, ℕ, ◌+◌, ◌≤◌, List, [], ◌∷◌, ◌++◌, length, take, drop, sym, refl, ap, ◌∙◌, append_assoc, add-zero, add_assoc, arith, length-append, length-drop, take-append-drop, length-take}
use Rattle.std.proofs.lemmas.List.{length-take-le, take_at, drop_at, drop-drop}
use Rattle.std.proofs.lemmas.Bool.{le-ltb}
use Rattle.wire.specs.Bytes.{bytes_of, spelled}
use Rattle.programs.specs.Stores.{written, putting}

-- Writing one part and then the other.
pub put-parts : (out : List ℕ) (at : ℕ) (ns ms : List ℕ) → putting out at (ns ++ ms) ≡ putting (putting out at ns).0 (putting out at ns).1 ms
put-parts out at [] ms = refl
put-parts out at (n ∷ ns) ms = put-parts (written out at n) (at + length (bytes_of n)) ns ms

pub put_then : (out : List ℕ) (at : ℕ) (ns ms out' : List ℕ) (at' : ℕ) → putting out at ns ≡ (out', at')
    → putting out at (ns ++ ms) ≡ putting out' at' ms
put_then out at ns ms out' at' e = put-parts out at ns ms ∙ ap (λ (p : List ℕ × ℕ). putting p.0 p.1 ms) e

-- Where numbers end that are written from `at` on.
pub put-end : (out : List ℕ) (at : ℕ) (ns : List ℕ) → (putting out at ns).1 ≡ at + length (spelled ns)
put-end out at [] = sym (add-zero at)
put-end out at (n ∷ ns) = put-end (written out at n) (at + length (bytes_of n)) ns ∙ rw length-append (add_assoc at (length (bytes_of n)) (length (spelled ns)))

written-here : (out : List ℕ) (at n : ℕ) → at + length (bytes_of n) ≤ length out
    → written out at n ≡ take at out ++ (bytes_of n ++ drop (at + length (bytes_of n)) out)
written-here out at n h = rw (le-ltb (length out) (at + length (bytes_of n)) h)

-- Bytes in the place of others.
abbrev over : List ℕ → ℕ → List ℕ → List ℕ
over out at new = take at out ++ (new ++ drop (at + length new) out)

over-length : (out : List ℕ) (at : ℕ) (new : List ℕ) → at + length new ≤ length out → length (over out at new) ≡ length out
over-length out at new h =
    omega (arith, length-append (take at out) (new ++ drop (at + length new) out), length-append new (drop (at + length new) out), length-take at out, length-drop (at + length new) out)

over-front : (out : List ℕ) (at : ℕ) (new : List ℕ) → at + length new ≤ length out → take (at + length new) (over out at new) ≡ take at out ++ new
over-front out at new h =
    let l : length (take at out) ≡ at = length-take-le at out (omega arith) in
    ap (take (at + length new)) (sym (append_assoc (take at out) new (drop (at + length new) out)))
    ∙ take_at (take at out ++ new) (drop (at + length new) out) (at + length new) (omega (arith, length-append (take at out) new))

over-back : (out : List ℕ) (at : ℕ) (new : List ℕ) (k : ℕ) → at + length new ≤ length out
    → drop (at + length new + k) (over out at new) ≡ drop (at + length new + k) out
over-back out at new k h =
    let l : length (take at out) ≡ at = length-take-le at out (omega arith) in
    sym (drop-drop k (at + length new) (over out at new))
    ∙ ap (drop k) (ap (drop (at + length new)) (sym (append_assoc (take at out) new (drop (at + length new) out)))
    ∙ drop_at (take at out ++ new) (drop (at + length new) out) (at + length new) (omega (arith, length-append (take at out) new)))
    ∙ drop-drop k (at + length new) out

put_two : (out : List ℕ) (at : ℕ) (xs ys : List ℕ) → at + length xs + length ys ≤ length out
    → take (at + length xs) (over out at xs) ++ (ys ++ drop (at + length xs + length ys) (over out at xs))
    ≡ take at out ++ ((xs ++ ys) ++ drop (at + length (xs ++ ys)) out)
put_two out at xs ys h =
    let p : at + length (xs ++ ys) ≡ at + length xs + length ys = omega (arith, length-append xs ys) in
    rw (over-front out at xs (omega arith), over-back out at xs (length ys) (omega arith), p)
    (append_assoc (take at out) xs (ys ++ drop (at + length xs + length ys) out)
    ∙ ap (λ (zs : List ℕ). take at out ++ zs) (sym (append_assoc xs ys (drop (at + length xs + length ys) out))))

-- Where there is room, the numbers stand in the place of what was there.
pub put-over : (out : List ℕ) (at : ℕ) (ns : List ℕ) → at + length (spelled ns) ≤ length out
    → (putting out at ns).0 ≡ take at out ++ (spelled ns ++ drop (at + length (spelled ns)) out)
put-over out at [] h = rw (add-zero at) (sym (take-append-drop at out))
put-over out at (n ∷ ns) h =
    let g : at + length (bytes_of n) + length (spelled ns) ≤ length out = omega (arith, length-append (bytes_of n) (spelled ns)) in
    ap (λ (o : List ℕ). (putting o (at + length (bytes_of n)) ns).0) (written-here out at n (omega arith))
    ∙ put-over (over out at (bytes_of n)) (at + length (bytes_of n)) ns (rw (over-length out at (bytes_of n) (omega arith)) g)
    ∙ put_two out at (bytes_of n) (spelled ns) g
