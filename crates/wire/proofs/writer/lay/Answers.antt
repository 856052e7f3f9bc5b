use Rattle.std.proofs.Common.{◌≡◌, ℕ, ◌+◌, ◌≤◌, List, ◌++◌, length, get_or, take, drop, Ok, Result, sym, ap, ◌∙◌, arith, length-append}
use Rattle.std.specs.Result.{result_unwrap_or}
use Rattle.wire.specs.Bytes.{spelled, bytes_of, end_of, placed}
use Rattle.wire.proofs.Laid.{spelled-more, spelled-split, spelled-first, placed-more, end-room}
use Rattle.wire.proofs.writer.lay.Goals as goal

pub loop-n-preserved : goal.loop-n-preserved
loop-n-preserved c =
    let ns = c.args.numbers.now in
    let i = c.loop-n.n-index in
    let at = c.args.at in
    let out = c.args.out.now in
    let xs = spelled (take i ns) in
    let ys = bytes_of (get_or ns i 0) in
    let e : spelled (take (i + 1) ns) ≡ xs ++ ys = spelled-more ns i c.loop-n-test.true in
    let room : at + length xs + length ys ≤ length out = omega (arith, spelled-split ns i, spelled-first ns i c.loop-n-test.true, c.requires) in
    let o : length c.loop-n.out ≡ length out = omega arith in
    let f = c.put_number.ensures in
    let g : end_of (length c.loop-n.out) c.loop-n.next ys ≡ Ok (c.loop-n.next + length ys) = end-room (length c.loop-n.out) c.loop-n.next ys (omega (arith, c.loop-n.invariant.0)) in
    let h : c.unwrap_or-next.result ≡ c.loop-n.next + length ys =
    c.unwrap_or-next.ensures ∙ ap (λ (r : Result ℕ ℕ). result_unwrap_or r c.loop-n.next) (f.end ∙ g) in
    let step : c.put_number.new.out ≡ placed (take at out ++ (xs ++ drop (at + length xs) out)) (at + length xs) ys =
    f.bytes ∙ ap (λ (zs : List ℕ). placed zs c.loop-n.next ys) c.loop-n.invariant.1 ∙ ap (λ (k : ℕ). placed (take at out ++ (xs ++ drop (at + length xs) out)) k ys) c.loop-n.invariant.0 in (
      omega (arith, h, c.loop-n.invariant.0, ap length e, length-append xs ys),
      step ∙ placed-more out at xs ys room ∙ ap (λ (zs : List ℕ). take at out ++ (zs ++ drop (at + length zs) out)) (sym e),
    )
