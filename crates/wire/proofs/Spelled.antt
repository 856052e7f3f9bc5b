-- Lists of numbers in bytes: reading them one after the other, and the bytes that they are written as.
use Rattle.std.proofs.Common.{◌≡◌, ℕ, ◌+◌, ◌-◌, ◌^◌, ◌<◌, ◌≤◌, true, List, [], ◌∷◌, ◌++◌, length, take, drop, Ok, Err, Result, sym, refl, ap, ◌∙◌, subst, append_assoc, add-zero, arith, length-append, take-append-drop, length-take, get_or-drop}
use Rattle.std.proofs.lemmas.List.{drop-drop, drop_at, drop-take}
use Rattle.std.specs.List.{AllByRecursion}
use Rattle.fault.specs.declared.refusal.Fault.{Fault}
use Rattle.fault.specs.declared.refusal.Refusal.{Refusal}
use Rattle.fault.specs.declared.place.Offset.{Offset}
use Rattle.wire.specs.Numbers.{numeral, value_of, next_of, number_at, after_number, fault_at}
use Rattle.wire.specs.Bytes.{bytes_of, spelled, Bytes}
use Rattle.wire.proofs.Forms.{reads-back, one_form, number_fits, number-local}

-- Reading number after number from `pos` gives the numbers `ns`, and leads to `end`.
abbrev pub Reads : (ℕ → Result ℕ (Fault Offset)) → (ℕ → ℕ) → ℕ → List ℕ → ℕ → Type 0
Reads num aft pos [] end = pos ≡ end
Reads num aft pos (n ∷ ns) end = (num pos ≡ Ok n) × Reads num aft (aft pos) ns end

pub reads_more : (num : ℕ → Result ℕ (Fault Offset)) (aft : ℕ → ℕ) (pos : ℕ) (ns : List ℕ) (mid : ℕ) (ms : List ℕ) (end : ℕ)
    → Reads num aft pos ns mid → Reads num aft mid ms end → Reads num aft pos (ns ++ ms) end
reads_more num aft pos [] mid ms end h g = subst (λ (p : ℕ). Reads num aft p ms end) (sym h) g
reads_more num aft pos (n ∷ ns) mid ms end h g = (h.0, reads_more num aft (aft pos) ns mid ms end h.1 g)

pub reads-parts : (num : ℕ → Result ℕ (Fault Offset)) (aft : ℕ → ℕ) (pos : ℕ) (ns ms : List ℕ) (end : ℕ)
    → Reads num aft pos (ns ++ ms) end → (mid : ℕ) × Reads num aft pos ns mid × Reads num aft mid ms end
reads-parts num aft pos [] ms end h = (pos, refl, h)
reads-parts num aft pos (n ∷ ns) ms end h = go (reads-parts num aft (aft pos) ns ms end h.1)
  where
    go : ((mid : ℕ) × Reads num aft (aft pos) ns mid × Reads num aft mid ms end)
        → (mid : ℕ) × ((num pos ≡ Ok n) × Reads num aft (aft pos) ns mid) × Reads num aft mid ms end
    go (mid, a, b) = (mid, (h.0, a), b)

-- Numbers of 32 bits.
abbrev pub Words : List ℕ → Type 0
Words ns = AllByRecursion (λ n. n < 2 ^ 32) ns

first-number : (bs : List ℕ) (pos n : ℕ) (rest : List ℕ) → n < 2 ^ 32 → drop pos bs ≡ bytes_of n ++ rest
    → (number_at bs pos ≡ Ok n) × (after_number bs pos ≡ pos + length (bytes_of n)) × (drop (pos + length (bytes_of n)) bs ≡ rest)
first-number bs pos n rest h e =
    let q : numeral 4 true (drop pos bs) ≡ Ok (n, length (bytes_of n)) = ap (numeral 4 true) e ∙ reads-back n rest h in
    (ap (value_of pos) q, ap (next_of pos) q, sym (drop-drop (length (bytes_of n)) pos bs) ∙ ap (drop (length (bytes_of n))) e ∙ drop_at (bytes_of n) rest _ refl)

-- What was written is read.
pub spelled-reads : (bs : List ℕ) (pos : ℕ) (ns rest : List ℕ) → Words ns → drop pos bs ≡ spelled ns ++ rest
    → Reads (number_at bs) (after_number bs) pos ns (pos + length (spelled ns))
spelled-reads bs pos [] rest w e = sym (add-zero pos)
spelled-reads bs pos (n ∷ ns) rest w e =
    let f = first-number bs pos n (spelled ns ++ rest) w.0 (e ∙ append_assoc (bytes_of n) (spelled ns) rest) in
    let ih = spelled-reads bs (pos + length (bytes_of n)) ns rest w.1 f.2 in
    let p : pos + length (bytes_of n ++ spelled ns) ≡ pos + length (bytes_of n) + length (spelled ns) = omega (arith, length-append (bytes_of n) (spelled ns)) in
    (f.0, subst (λ (a : ℕ). Reads (number_at bs) (after_number bs) a ns (pos + length (bytes_of n ++ spelled ns))) (sym f.1) (subst (λ (z : ℕ). Reads (number_at bs) (after_number bs) (pos + length (bytes_of n)) ns z) (sym p) ih))

-- A number that was read, by its count of bytes.
read_number : (bs : List ℕ) (pos n : ℕ) (r : Result (ℕ × ℕ) Refusal) → numeral 4 true (drop pos bs) ≡ r → value_of pos r ≡ Ok n
    → (k : ℕ) × (numeral 4 true (drop pos bs) ≡ Ok (n, k)) × (after_number bs pos ≡ pos + k)
read_number bs pos n (Ok vk) q e =
    let p : vk.0 ≡ n = cc in
    (vk.1, q ∙ ap (λ (v : ℕ). Ok (v, vk.1)) p, ap (next_of pos) q)
read_number bs pos n (Err x) q e = absurd (no e)
  where
    no : ◌≡◌ {A = Result ℕ (Fault Offset)} (Err (fault_at x pos)) (Ok n) → ⊥
    no z = let w : ◌≡◌ {A = ℕ} 0 1 = cc in omega arith

bytes_after : (bs : List ℕ) (pos : ℕ) → Bytes bs → Bytes (drop pos bs)
bytes_after bs pos b i = rw (get_or-drop pos bs i 0) (b (pos + i))

split : (bs : List ℕ) (pos k n : ℕ) → take k (drop pos bs) ≡ bytes_of n → drop pos bs ≡ bytes_of n ++ drop (pos + k) bs
split bs pos k n e = sym (take-append-drop k (drop pos bs)) ∙ ap (λ (xs : List ℕ). xs ++ drop k (drop pos bs)) e ∙ ap (λ (xs : List ℕ). bytes_of n ++ xs) (drop-drop k pos bs)

-- What reading one number says of the bytes.
pub number_spelled : (bs : List ℕ) (pos n : ℕ) → Bytes bs → number_at bs pos ≡ Ok n
    → (drop pos bs ≡ bytes_of n ++ drop (after_number bs pos) bs) × (after_number bs pos ≡ pos + length (bytes_of n)) × (n < 2 ^ 32)
number_spelled bs pos n b e = go (read_number bs pos n (numeral 4 true (drop pos bs)) refl e)
  where
    go : ((k : ℕ) × (numeral 4 true (drop pos bs) ≡ Ok (n, k)) × (after_number bs pos ≡ pos + k))
        → (drop pos bs ≡ bytes_of n ++ drop (after_number bs pos) bs) × (after_number bs pos ≡ pos + length (bytes_of n)) × (n < 2 ^ 32)
    go (k, q, a) =
        let t = one_form (drop pos bs) n k (bytes_after bs pos b) q in
        let f = number_fits (drop pos bs) n k (bytes_after bs pos b) q in
        let l : k ≡ length (bytes_of n) = omega (arith, simp length-take at (ap length t), f.0) in
        (split bs pos k n t ∙ ap (λ (m : ℕ). bytes_of n ++ drop m bs) (sym a), a ∙ ap (λ (m : ℕ). pos + m) l, f.1)

-- What is read was written.
pub reads-spelled : (bs : List ℕ) (pos : ℕ) (ns : List ℕ) (end : ℕ) → Bytes bs → Reads (number_at bs) (after_number bs) pos ns end
    → (drop pos bs ≡ spelled ns ++ drop end bs) × (end ≡ pos + length (spelled ns)) × Words ns
reads-spelled bs pos [] end b h = (ap (λ (p : ℕ). drop p bs) h, sym h ∙ sym (add-zero pos), tt)
reads-spelled bs pos (n ∷ ns) end b h =
    let f = number_spelled bs pos n b h.0 in
    let ih = reads-spelled bs (after_number bs pos) ns end b h.1 in (
      f.0 ∙ ap (λ (xs : List ℕ). bytes_of n ++ xs) ih.0 ∙ sym (append_assoc (bytes_of n) (spelled ns) (drop end bs)),
      omega (arith, ih.1, f.1, length-append (bytes_of n) (spelled ns)),
      (f.2, ih.2),
    )

pub reads-onward : (bs : List ℕ) (pos : ℕ) (ns : List ℕ) (end : ℕ) → Reads (number_at bs) (after_number bs) pos ns end → pos ≤ end
reads-onward bs pos [] end h = omega arith
reads-onward bs pos (n ∷ ns) end h =
    go (read_number bs pos n (numeral 4 true (drop pos bs)) refl h.0) (reads-onward bs (after_number bs pos) ns end h.1)
  where
    go : ((k : ℕ) × (numeral 4 true (drop pos bs) ≡ Ok (n, k)) × (after_number bs pos ≡ pos + k)) → after_number bs pos ≤ end → pos ≤ end
    go (k, q, a) l = omega (arith, a)

-- The bytes from one position up to another.
abbrev pub cut : List ℕ → ℕ → ℕ → List ℕ
cut bs start end = take (end - start) (drop start bs)

-- The numbers that a part of the bytes holds are read from that part alone.
local-from : (bs : List ℕ) (start pos : ℕ) (ns : List ℕ) (end : ℕ) → start ≤ pos → Reads (number_at bs) (after_number bs) pos ns end
    → Reads (number_at (cut bs start end)) (after_number (cut bs start end)) (pos - start) ns (end - start)
local-from bs start pos [] end s h = ap (λ (p : ℕ). p - start) h
local-from bs start pos (n ∷ ns) end s h =
    go (read_number bs pos n (numeral 4 true (drop pos bs)) refl h.0) (reads-onward bs (after_number bs pos) ns end h.1)
    (λ l. local-from bs start (after_number bs pos) ns end l h.1)
  where
    go : ((k : ℕ) × (numeral 4 true (drop pos bs) ≡ Ok (n, k)) × (after_number bs pos ≡ pos + k)) → after_number bs pos ≤ end
        → (start ≤ after_number bs pos → Reads (number_at (cut bs start end)) (after_number (cut bs start end)) (after_number bs pos - start) ns (end - start))
        → Reads (number_at (cut bs start end)) (after_number (cut bs start end)) (pos - start) (n ∷ ns) (end - start)
    go (k, q, a) l ih =
        let f : end - start ≡ pos - start + (end - pos) = omega (arith, a) in
        let p : start + (pos - start) ≡ pos = omega arith in
        let c : drop (pos - start) (cut bs start end) ≡ take (end - pos) (drop pos bs) = rw (f, drop-take, drop-drop, p) in
        let r : numeral 4 true (drop (pos - start) (cut bs start end)) ≡ Ok (n, k) = ap (numeral 4 true) c ∙ number-local (drop pos bs) n k (end - pos) q (omega (arith, a)) in
        let t : after_number bs pos - start ≡ after_number (cut bs start end) (pos - start) = sym (ap (next_of (pos - start)) r ∙ omega (arith, a)) in
        (ap (value_of (pos - start)) r, subst (λ (x : ℕ). Reads (number_at (cut bs start end)) (after_number (cut bs start end)) x ns (end - start)) t (ih (omega (arith, a))))

pub reads_local : (bs : List ℕ) (pos : ℕ) (ns : List ℕ) (end : ℕ) → Reads (number_at bs) (after_number bs) pos ns end
    → Reads (number_at (cut bs pos end)) (after_number (cut bs pos end)) 0 ns (end - pos)
reads_local bs pos ns end h =
    let z : pos - pos ≡ 0 = omega arith in
    subst (λ (x : ℕ). Reads (number_at (cut bs pos end)) (after_number (cut bs pos end)) x ns (end - pos)) z (local-from bs pos pos ns end (omega arith) h)
