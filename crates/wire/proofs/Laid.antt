-- Numbers written one after the other.
use Rattle.std.proofs.Common.{◌≡◌, ℕ, ◌+◌, ◌<◌, ◌≤◌, List, [], ◌∷◌, ◌++◌, length, get_or, take, drop, Ok, sym, refl, ap, ◌∙◌, append_assoc, append-nil, arith, length-append, length-drop, take-append-drop, length-take}
use Rattle.std.proofs.lemmas.List.{drop-drop, drop_at, take_at, take_more, drop_more}
use Rattle.std.proofs.lemmas.Bool.{le-ltb}
use Rattle.wire.specs.Bytes.{bytes_of, spelled, end_of, placed}

pub spelled-append : (ns ms : List ℕ) → spelled (ns ++ ms) ≡ spelled ns ++ spelled ms
spelled-append [] ms = refl
spelled-append (n ∷ ns) ms = ap (λ (xs : List ℕ). bytes_of n ++ xs) (spelled-append ns ms) ∙ sym (append_assoc (bytes_of n) (spelled ns) (spelled ms))

-- The numbers up to and with the one at `i`.
pub spelled-more : (ns : List ℕ) (i : ℕ) → i < length ns → spelled (take (i + 1) ns) ≡ spelled (take i ns) ++ bytes_of (get_or ns i 0)
spelled-more ns i h =
    ap spelled (take_more ns i 0 h) ∙ spelled-append (take i ns) (get_or ns i 0 ∷ []) ∙ ap (λ (xs : List ℕ). spelled (take i ns) ++ xs) (append-nil (bytes_of (get_or ns i 0)))

-- The bytes of what is written so far and those that are still to come.
pub spelled-split : (ns : List ℕ) (i : ℕ) → length (spelled (take i ns)) + length (spelled (drop i ns)) ≡ length (spelled ns)
spelled-split ns i =
    sym (length-append (spelled (take i ns)) (spelled (drop i ns))) ∙ ap length (sym (spelled-append (take i ns) (drop i ns))) ∙ ap (λ (xs : List ℕ). length (spelled xs)) (take-append-drop i ns)

pub spelled-first : (ns : List ℕ) (i : ℕ) → i < length ns → length (bytes_of (get_or ns i 0)) + length (spelled (drop (i + 1) ns)) ≡ length (spelled (drop i ns))
spelled-first ns i h = sym (ap (λ (xs : List ℕ). length (spelled xs)) (drop_more ns i 0 h) ∙ length-append (bytes_of (get_or ns i 0)) (spelled (drop (i + 1) ns)))

-- Bytes put after other bytes that were put.
pub placed-more : (out : List ℕ) (at : ℕ) (xs ys : List ℕ) → at + length xs + length ys ≤ length out
    → placed (take at out ++ (xs ++ drop (at + length xs) out)) (at + length xs) ys
    ≡ take at out ++ ((xs ++ ys) ++ drop (at + length (xs ++ ys)) out)
placed-more out at xs ys h =
    let a : length (take at out) ≡ at = length-take at out ∙ omega arith in
    let f : length (take at out ++ xs) ≡ at + length xs = length-append (take at out) xs ∙ omega arith in
    let o : length (take at out ++ (xs ++ drop (at + length xs) out)) ≡ length out =
    length-append (take at out) (xs ++ drop (at + length xs) out)
    ∙ omega (arith, length-append xs (drop (at + length xs) out), length-drop (at + length xs) out) in
    let g = append_assoc (take at out) xs (drop (at + length xs) out) in
    let t : take (at + length xs) (take at out ++ (xs ++ drop (at + length xs) out)) ≡ take at out ++ xs =
    ap (take (at + length xs)) (sym g) ∙ take_at (take at out ++ xs) (drop (at + length xs) out) (at + length xs) f in
    let d : drop (at + length xs) (take at out ++ (xs ++ drop (at + length xs) out)) ≡ drop (at + length xs) out =
    ap (drop (at + length xs)) (sym g) ∙ drop_at (take at out ++ xs) (drop (at + length xs) out) (at + length xs) f in
    let e : drop (at + length xs + length ys) (take at out ++ (xs ++ drop (at + length xs) out)) ≡ drop (at + length (xs ++ ys)) out =
    sym (drop-drop (length ys) (at + length xs) (take at out ++ (xs ++ drop (at + length xs) out)))
    ∙ ap (drop (length ys)) d ∙ drop-drop (length ys) (at + length xs) out
    ∙ ap (λ (k : ℕ). drop k out) (omega (arith, length-append xs ys)) in
    rw (le-ltb (length (take at out ++ (xs ++ drop (at + length xs) out))) (at + length xs + length ys) (omega arith), t, e)
    (append_assoc (take at out) xs (ys ++ drop (at + length (xs ++ ys)) out)
    ∙ ap (λ (zs : List ℕ). take at out ++ zs) (sym (append_assoc xs ys (drop (at + length (xs ++ ys)) out))))

pub end-room : (room at : ℕ) (xs : List ℕ) → at + length xs ≤ room → end_of room at xs ≡ Ok (at + length xs)
end-room room at xs h = rw (le-ltb room (at + length xs) h)

pub placed-room : (out : List ℕ) (at : ℕ) (xs : List ℕ) → at + length xs ≤ length out
    → placed out at xs ≡ take at out ++ (xs ++ drop (at + length xs) out)
placed-room out at xs h = rw (le-ltb (length out) (at + length xs) h)

-- Two parts put one after the other.
pub placed-two : (out : List ℕ) (at : ℕ) (xs ys mid last : List ℕ) → at + length xs + length ys ≤ length out
    → mid ≡ placed out at xs → last ≡ placed mid (at + length xs) ys
    → last ≡ take at out ++ ((xs ++ ys) ++ drop (at + length (xs ++ ys)) out)
placed-two out at xs ys mid last h e f =
    f ∙ ap (λ (zs : List ℕ). placed zs (at + length xs) ys) (e ∙ placed-room out at xs (omega arith)) ∙ placed-more out at xs ys h
