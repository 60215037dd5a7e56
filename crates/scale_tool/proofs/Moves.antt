-- Bytes that move in parts move as a whole.
use Rattle.std.proofs.Common.{◌≡◌, ℕ, ◌+◌, ◌≤◌, List, ◌++◌, length, take, drop, Option, Some}
use Rattle.std.proofs.Common.{None, append_assoc, sym, ◌∙◌, ap, arith}
use Rattle.std.proofs.Math.Seq.{take-add}
use Rattle.std.proofs.lemmas.List.{take_all, drop-drop, length-drop}
use Rattle.std.specs.Prelude.{IfSome}
use Rattle.std.specs.Io.KnownBytes.{IsAtEnd}
use Rattle.scale_tool.specs.Moved.{LeavesReader}

-- a part, and then a part
pub takes_next : (a b c : Option (List ℕ)) (x y z : List ℕ) (m n k : ℕ) → k ≡ m + n →
    LeavesReader a b x y m → LeavesReader b c y z n → LeavesReader a c x z k
takes_next None b c x y z m n k is p q = tt
takes_next (Some xs) None c x y z m n k is p q = absurd p
takes_next (Some xs) (Some ys) None x y z m n k is p q = absurd q
takes_next (Some xs) (Some ys) (Some zs) x y z m n k is p q = (
  q.0 ∙ ap (λ v. v ++ take n ys) p.0 ∙ append_assoc x (take m xs) (take n ys)
      ∙ ap (λ v. x ++ (take m xs ++ take n v)) p.1 ∙ ap (λ v. x ++ v) (sym (take-add m n xs))
      ∙ ap (λ v. x ++ take v xs) (sym is),
  q.1 ∙ ap (drop n) p.1 ∙ drop-drop n m xs ∙ ap (λ v. drop v xs) (sym is),
)

-- nothing is left: all was taken
pub takes_all : (a b : Option (List ℕ)) (old new : List ℕ) (m : ℕ) → LeavesReader a b old new m →
    IsAtEnd b → IfSome a (λ bytes. new ≡ old ++ bytes)
takes_all None b old new m p end = tt
takes_all (Some xs) None old new m p end = absurd p
takes_all (Some xs) (Some ys) old new m p end =
    let short : length xs ≤ m = omega (arith, length-drop m xs, ap length (sym p.1 ∙ end)) in
    p.0 ∙ ap (λ v. old ++ v) (take_all m xs short)
