use Rattle.std.proofs.Common.{◌≡◌, ℕ, ◌+◌, ◌-◌, ◌*◌, ◌^◌, ◌<◌, ◌≤◌, List, ◌∷◌, ◌++◌, length, take}
use Rattle.std.proofs.Common.{drop, sym, ap, ◌∙◌, arith}
use Rattle.std.proofs.Math.ListN.{set}
use Rattle.std.specs.Int.{w128, to_le_bytes}
use borrow.Rule.Slice.PartMut.{put_mid}
use Rattle.scale_core.specs.Compact.{big_bytes, compact}
use Rattle.scale_core.specs.Number.{le_bytes}
use Rattle.scale_core.proofs.Fronts.{put_mid-front, take-to_le_bytes_16}
use Rattle.scale_core.proofs.Modes.{compact-big, length-compact-big}
use Rattle.scale_core.proofs.compact.put_big.Goals as goal

-- the buffer begins with the big mode once the count and the number's bytes are put into it
put_big : (n k : ℕ) (out part spelled : List ℕ) → 2 ^ 30 ≤ n → k ≡ big_bytes n → k ≤ 16 →
    0 < length out → part ≡ take k spelled → spelled ≡ to_le_bytes w128 n →
    put_mid 1 (k + 1 - 1) (set out 0 ((k - 4) * 4 + 3)) part ≡ compact n ++ drop (k + 1) out
put_big n k out part spelled big count small long front all =
    let first : 4 * (big_bytes n - 4) + 3 ≡ (k - 4) * 4 + 3 = omega (arith, count) in
    let rest : part ≡ le_bytes (big_bytes n) n = front ∙ ap (take k) all
    ∙ take-to_le_bytes_16 k n small ∙ ap (λ (j : ℕ). le_bytes j n) count in
    let is : compact n ≡ ((k - 4) * 4 + 3) ∷ part = compact-big n big
    ∙ ap (λ (x : ℕ). x ∷ le_bytes (big_bytes n) n) first
    ∙ ap (λ (xs : List ℕ). ((k - 4) * 4 + 3) ∷ xs) (sym rest) in
    put_mid-front out part (compact n) ((k - 4) * 4 + 3) k (k + 1 - 1) (k + 1) long is (omega arith)
    (omega arith)

pub returns-clause-len : goal.returns-clause-len
returns-clause-len c = omega (
  arith,
  length-compact-big c.args.value c.requires,
  c.big_bytes-count.ensures.exact,
)

pub returns-clause-bytes : goal.returns-clause-bytes
returns-clause-bytes c =
    put_big c.args.value c.big_bytes-count.result c.args.out.now c.copy_from_slice.new.self
    c.to_le_bytes.result c.requires c.big_bytes-count.ensures.exact
    c.big_bytes-count.ensures.most (omega arith)
    c.copy_from_slice.ensures.after c.to_le_bytes.ensures
