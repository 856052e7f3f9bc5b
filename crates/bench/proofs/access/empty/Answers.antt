use Rattle.std.proofs.Common.{◌≡◌, ℕ, zero, suc, ◌+◌, ◌-◌, ◌*◌, ◌≤◌, List, length, take, drop, replicate, set, None, Option, refl, sym, ap, ◌∙◌, add-one, arith, rules}
use lib.Seq.{paste}
use Rattle.std.proofs.lemmas.List.{length-take, length-drop}
use Rattle.std.proofs.lemmas.List.Edits.{paste_none, fill_from_more}
use Rattle.std.proofs.lemmas.Slice.{put_mid-paste}
use Rattle.semantics.specs.Machine.{emptied}
use Rattle.bench.proofs.access.empty.Goals as goal

emptied-pasted : (station n : ℕ) (places : List (Option ℕ)) → 64 * station + n ≤ length places → paste places (64 * station) (replicate n None) n ≡ emptied station n places
unfolding emptied
emptied-pasted station zero places h = sym (paste_none places (64 * station) (replicate 0 None))
emptied-pasted station (suc n) places h =
    ap (λ k. paste places (64 * station) (replicate k None) k) (sym (add-one n))
    ∙ sym (fill_from_more places (64 * station) n None (omega arith))
    ∙ ap (λ (ps : List (Option ℕ)). set ps (64 * station + n) None) (emptied-pasted station n places (omega arith))

pub returns : goal.returns
returns c =
    let a = 64 * c.args.station in
    let k = a + 64 - a in
    let places = c.args.places.now in
    let e : k ≡ 64 = omega arith in
    let n : length (take k (drop a places)) ≡ 64 = simp (length-take, length-drop) (omega arith) in
    let filled : c.fill.new.self ≡ replicate (length (take k (drop a places))) None = c.fill.ensures.after (λ y e. search rules) in
    put_mid-paste a k places c.fill.new.self (replicate 64 None) 64 (filled ∙ ap (λ (j : ℕ). replicate j None) n) (sym e) refl
    ∙ emptied-pasted c.args.station 64 places c.requires
