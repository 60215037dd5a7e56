-- Whether a path's segments are joined to a text, as the text is read; and that no type has a path.
use Rattle.std.proofs.Common.{◌≡◌, ◌≢◌, ◌<◌, ◌≤◌, ◌+◌, ℕ, suc, List, ◌∷◌, ◌++◌, length, codes}
use Rattle.std.proofs.Common.{get_or, drop, sym, ap, ◌∙◌, ◌↔◌, add-one, drop-cons, Some}
use Rattle.std.specs.Prelude.{flat_map}
use Rattle.std.proofs.lemmas.List.{append_cancel_left}
use Rattle.types_core.specs.declared.type_info.TypeInfo.{TypeInfo}
use Rattle.scale_calls.specs.Lines.{joined_segments}
use Rattle.scale_calls.specs.Describing.{type_path}

-- what the segments after the first add
abbrev pub after_first : List (List ℕ) → List ℕ
after_first ss = flat_map (λ t. codes "::" ++ t) ss

-- a text that begins with the first segment is what all are joined to, if what follows is what the
-- others add
pub first_joined : (segments : List (List ℕ)) (first : List ℕ) (others : List (List ℕ))
    (text rest : List ℕ) → segments ≡ first ∷ others → text ≡ first ++ rest →
    (joined_segments segments ≡ text) ↔ (after_first others ≡ rest)
first_joined segments first others text rest are begins = (
  λ h. append_cancel_left first (after_first others) rest
      (sym (ap joined_segments are) ∙ h ∙ begins),
  λ h. ap joined_segments are ∙ ap (λ x. first ++ x) h ∙ sym begins,
)

-- what the segments from one on add
after_one : (others : List (List ℕ)) (i : ℕ) (x : List ℕ) → i < length others →
    x ≡ get_or others i x →
    after_first (drop i others) ≡ (codes "::" ++ x) ++ after_first (drop (i + 1) others)
after_one others i x inside item =
    ap after_first (drop-cons others i x inside)
    ∙ ap (λ y. (codes "::" ++ y) ++ after_first (drop (suc i) others)) (sym item)
    ∙ ap (λ n. (codes "::" ++ x) ++ after_first (drop n others)) (sym (add-one i))

-- one segment more
pub next_joined : (P : Type 0) (others : List (List ℕ)) (i : ℕ) (x rest after : List ℕ) →
    i < length others → x ≡ get_or others i x → rest ≡ (codes "::" ++ x) ++ after →
    P ↔ (after_first (drop i others) ≡ rest) → P ↔ (after_first (drop (i + 1) others) ≡ after)
next_joined P others i x rest after inside item begins before =
    let one = after_one others i x inside item in (
      λ p. append_cancel_left (codes "::" ++ x) (after_first (drop (i + 1) others)) after
          (sym one ∙ before.0 p ∙ begins),
      λ h. before.1 (one ∙ ap (λ y. (codes "::" ++ x) ++ y) h ∙ sym begins),
    )

-- no type between two positions has the path
abbrev pub HasNone : List TypeInfo → ℕ → ℕ → List ℕ → Type 0
HasNone r from to path = (j : ℕ) → from ≤ j → j < to → type_path r j ≢ Some path
