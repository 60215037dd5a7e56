-- The laws of values.
use Rattle.std.proofs.Common.{◌≡◌, ℕ, ◌≤◌, max, ◌⊎◌, List, ◌++◌, Ok, Err, refl, sym, ap, ◌∙◌, arith}
use Rattle.std.proofs.Common.{inl, inr}
use Rattle.std.specs.Prelude.{◌≢◌}
use Rattle.std.proofs.lemmas.List.{append_cancel_right}
use Rattle.scale_core.specs.Read.{Read}
use Rattle.scale_core.proofs.Results.{Takes, Extends, done_is}
use Rattle.types_core.specs.declared.type_info.TypeInfo.{TypeInfo}
use Rattle.grammar_core.specs.Tree.{Tree, levels}
use Rattle.grammar_core.specs.Grammar.{Val}
use Rattle.grammar_core.specs.Reading.{value_at, Refusal, truncated}
use Rattle.grammar_core.specs.Laws.{ValueStands, ValueFails, ValueIsRead, ReadIsValue}
use Rattle.grammar_core.specs.Laws.{ValuesArePrefixFree}
use Rattle.grammar_core.specs.Laws.{ValueOrFault, ValueOrFaultNotBoth, FaultsAreStable}
use Rattle.grammar_core.proofs.Complete.{value_again}
use Rattle.grammar_core.proofs.Sound.{value_takes}
use Rattle.grammar_core.proofs.Stable.{value_extends}

-- a value for whose levels there is room is read from its bytes, whatever follows them
pub value_is_read : ValueIsRead
value_is_read = value_again

-- a value that was taken from the front, and for which there is room, stands there
stands_of : (r : List TypeInfo) (room t : ℕ) (b : List ℕ) (read : Read Refusal Tree) (v : Tree)
    (rest : List ℕ) → Takes (λ v c. Val r t v c × (levels v ≤ room)) b read → read ≡ Ok (v, rest) →
    ValueStands r room t b v rest
stands_of r room t b (Err e) v rest h eq = absurd cc
stands_of r room t b (Ok x) v rest h eq =
    let same = done_is {E = Refusal} x (v, rest) eq in (
      h.0,
      rw (← ap (λ (p : Tree × List ℕ). p.1) same) h.1,
      rw (← ap (λ (p : Tree × List ℕ). p.0) same) h.2.0,
      rw (← ap (λ (p : Tree × List ℕ). p.0) same) h.2.1,
    )

-- what is read is a value that stands on the front of the input and for which there is room
pub read_is_value : ReadIsValue
read_is_value r room t b v rest e =
    stands_of r room t b (value_at r room t b) v rest (value_takes r room t b) e

-- two values of a type whose bytes are fronts of one list are the same, and so are their bytes
pub prefix_free : ValuesArePrefixFree
prefix_free r t v w a b rest more h k e =
    let room = max (levels v) (levels w) in
    let one = value_again r room t v a rest h (omega arith) in
    let two = value_again r room t w b more k (omega arith) in
    let same = done_is {E = Refusal} (v, rest) (w, more)
    (sym one ∙ ap (value_at r room t) e ∙ two) in (
      ap (λ (p : Tree × List ℕ). p.0) same,
      append_cancel_right a b rest (e
          ∙ ap (λ (x : List ℕ). b ++ x) (sym (ap (λ (p : Tree × List ℕ). p.1) same))),
    )

-- by what is read, a value stands on the front of the input, or the input is refused
either : (r : List TypeInfo) (room t : ℕ) (b : List ℕ) (read : Read Refusal Tree) →
    value_at r room t b ≡ read → ((v : Tree) × (rest : List ℕ) × ValueStands r room t b v rest)
    ⊎ ((reason : Refusal) × (left : List ℕ) × ValueFails r room t b reason left)
either r room t b (Ok x) e = inl (x.0, x.1, read_is_value r room t b x.0 x.1 e)
either r room t b (Err x) e = inr (x.0, x.1, e)

-- of each input, a value stands on the front, or it is refused
pub value_or_fault : ValueOrFault
value_or_fault r room t b = either r room t b (value_at r room t b) refl

-- no input has a value on its front and is refused as well
pub not_both : ValueOrFaultNotBoth
not_both r room t b v rest reason left h k =
    let one = value_again r room t v h.0 rest h.2 h.3 in
    let two : value_at r room t (h.0 ++ rest) ≡ Err (reason, left) = rw (← h.1) k in
    absurd cc

-- a fault that is no cut stays where reading of a longer input extends that of a shorter one
stable_of : (more : List ℕ) (read read' : Read Refusal Tree) (reason : Refusal) (left : List ℕ) →
    Extends truncated more read read' → reason ≢ truncated → read ≡ Err (reason, left) →
    read' ≡ Err (reason, left ++ more)
stable_of more read read' reason left h ne e = (rw e at h) ne

-- a fault that is no cut stays the fault of every longer input
pub stable : FaultsAreStable
stable r room t b more reason left ne e =
    stable_of more (value_at r room t b) (value_at r room t (b ++ more)) reason left
    (value_extends r room t b more) ne e
