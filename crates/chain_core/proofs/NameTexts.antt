-- Names with a dot, and the first thing of a name.
use Rattle.std.proofs.Common.{◌≡◌, ◌≢◌, ℕ, suc, ◌+◌, ◌<◌, Bool, true, false, List, ◌∷◌, ◌++◌}
use Rattle.std.proofs.Common.{length, drop, get_or, Some, refl, ap, sym, ◌∙◌, add-one, drop-cons}
use Rattle.std.specs.Prelude.{if◌then◌else◌}
use Rattle.std.specs.Bool.{Decides}
use Rattle.std.specs.Str.{bytes_eq}
use Rattle.std.proofs.lemmas.List.{append_cancel_left}
use Rattle.std.proofs.lemmas.Slice.Eq.{bytes_eq-Decides}
use Rattle.chain_core.specs.Names.{entry_of, find, types_of}
use Rattle.chain_core.specs.Things.{dotted, name_text}
use Rattle.chain_core.specs.declared.names.NamedType.{NamedType}

-- what follows the dot is the inner name exactly if the text is the two names
pub after_dot : (r : Bool) (text outer inner rest after : List ℕ) → text ≡ outer ++ rest →
    rest ≡ 46 ∷ after → Decides r (after ≡ inner) → Decides r (text ≡ dotted outer inner)
after_dot r text outer inner rest after one two same = (
  λ yes. one ∙ ap (λ x. outer ++ x) (two ∙ ap (λ x. 46 ∷ x) (same.0 yes)),
  λ e. same.1 (let tails : 46 ∷ after ≡ 46 ∷ inner = sym two
      ∙ append_cancel_left outer rest (46 ∷ inner) (sym one ∙ e) in cc),
)

-- without a dot behind the outer name it is not
pub no_dot : (text outer inner rest : List ℕ) → text ≡ outer ++ rest →
    ((after : List ℕ) → rest ≢ 46 ∷ after) → Decides false (text ≡ dotted outer inner)
no_dot text outer inner rest one none = (
  λ no. absurd cc,
  λ e. absurd (none inner (append_cancel_left outer rest (46 ∷ inner) (sym one ∙ e))),
)

-- two tests of one fact are the same
pub one_test : (a b : Bool) (P : Type 0) → Decides a P → Decides b P → a ≡ b
one_test true true P h k = refl
one_test true false P h k = sym (k.1 (h.0 refl))
one_test false true P h k = h.1 (k.0 refl)
one_test false false P h k = refl

-- the search goes on with the next thing, if this one has another name
find_step : (ts : List NamedType) (i : ℕ) (name : List ℕ) (t : NamedType) → i < length ts →
    t ≡ get_or ts i t → find (types_of (drop i ts)) name
    ≡ (if bytes_eq name (name_text t.section t.path) then Some (entry_of t)
    else find (types_of (drop (suc i) ts)) name)
find_step ts i name t inside is =
    ap (λ xs. find (types_of xs) name)
    (drop-cons ts i t inside ∙ ap (λ x. x ∷ drop (suc i) ts) (sym is))

-- this thing has the name
pub found_here : (ts : List NamedType) (i : ℕ) (name : List ℕ) (t : NamedType) → i < length ts →
    t ≡ get_or ts i t → Decides true (name ≡ name_text t.section t.path) →
    find (types_of (drop i ts)) name ≡ Some (entry_of t)
found_here ts i name t inside is same =
    let e = one_test _ true _ (bytes_eq-Decides name (name_text t.section t.path)) same in
    find_step ts i name t inside is ∙ rw e refl

-- this thing has another name
pub found_later : (ts : List NamedType) (i : ℕ) (name : List ℕ) (t : NamedType) → i < length ts →
    t ≡ get_or ts i t → Decides false (name ≡ name_text t.section t.path) →
    find (types_of (drop (i + 1) ts)) name ≡ find (types_of (drop i ts)) name
found_later ts i name t inside is same =
    let e = one_test _ false _ (bytes_eq-Decides name (name_text t.section t.path)) same in
    rw add-one (sym (find_step ts i name t inside is ∙ rw e refl))
