-- An open run that lacks nothing becomes the next node.
use Rattle.std.proofs.Common.{◌≡◌, ◌+◌, ◌≤◌, ◌<◌, ◌^◌, ◌++◌, ◌∷◌, ◌∙◌, Bool, true, false, Option}
use Rattle.std.proofs.Common.{Some, None}
use Rattle.std.proofs.Common.{Ok, List, [], ℕ, length, drop, ap, sym, subst, refl, arith}
use Rattle.std.specs.Prelude.{IfSome, slice_range}
use Rattle.std.proofs.lemmas.List.{append-nil, length-drop}
use Rattle.std.specs.Str.{is_utf8}
use Rattle.std.proofs.lemmas.Option.{same_Some}
use Rattle.types_core.specs.Bits.{bits_bytes}
use Rattle.types_core.proofs.BitWords.{bits_cover}
use Rattle.types_core.specs.declared.type_id.TypeId.{TypeId}
use Rattle.widths_core.specs.RunBytes.{run_bytes}
use Rattle.widths_core.specs.declared.run_kind.RunKind.{RunKind}
use Rattle.widths_core.specs.declared.run_kind.RunKind.TheVariants as kind
use Rattle.grammar_core.specs.Preorder as head
use Rattle.grammar_core.specs.Tree as tree
use Rattle.grammar_core.specs.Preorder.{Head}
use Rattle.grammar_core.specs.Runs.{IsRun, run_form, run_leaf}
use Rattle.value_core.specs.Building.{IsBuilding, IsOpenAt, IsOpenRun, pieces_shown}
use Rattle.node_core.specs.Leaves.{run_content, run_content_of}
use Rattle.value_core.specs.Built.{IsClean, IsCleanRun, head_text_bytes}
use Rattle.value_core.specs.Refusals.{missing_at, bad_bytes, bad_text}
use Rattle.value_core.specs.Walked.{Walked, advanced, next_type, next_of}
use Rattle.node_core.specs.Shown.{IsInPool, all_kept, head_shown, kept_bytes}
use Rattle.node_core.specs.declared.node.Node.{Node}
use Rattle.node_core.specs.declared.open_run.OpenRun.{OpenRun}
use Rattle.value_core.proofs.Adding.{kept_snoc, leaf_added, open_whole}
use Rattle.value_core.proofs.Ahead.{type_wanted}
use Rattle.value_core.proofs.NextLeaf.{run_next}

-- where nothing is wrong with the bytes of a run, they are one of its kind
pub is_run : (k : RunKind) (n : ℕ) (s : List ℕ) → bad_bytes k s ≡ None → IsClean k n s → IsRun k n s
is_run kind.Text n s e clean = by (is_utf8 s) refl where
  by : (b : Bool) → is_utf8 s ≡ b → is_utf8 s ≡ true
  by true f = f
  by false f = let no = rw f at e in absurd cc
is_run kind.Bytes n s e clean = tt
is_run (kind.ByteArray m) n s e clean = tt
is_run (kind.Bits f) n s e clean = clean

-- the node of a run shows its bytes in the pool, and keeps as many
pub record IsRunNode (pool : List ℕ) (k : RunKind) (len start : ℕ) : Type 0 where
  pub shows : head_shown pool 0 (run_content_of k len start)
      ≡ head.leaf (run_leaf k (len, slice_range pool start (start + run_bytes k len)))
  pub inside : start + run_bytes k len ≤ length pool → IsInPool pool (run_content_of k len start)
  pub kept : kept_bytes (run_content_of k len start) ≡ run_bytes k len

-- the node of a run shows the bytes of the run in the pool, and keeps as many
run_node : (pool : List ℕ) (k : RunKind) (len start : ℕ) → len < 2 ^ 32 →
    IsRunNode pool k len start
run_node pool kind.Text len start few = record { shows = refl; inside = λ h. h; kept = refl }
run_node pool kind.Bytes len start few = record { shows = refl; inside = λ h. h; kept = refl }
run_node pool (kind.ByteArray n) len start few =
    record { shows = refl; inside = λ h. h; kept = refl }
run_node pool (kind.Bits f) len start few = let cover = bits_cover f len in
    record {
      shows = ap (λ (n : ℕ). head.leaf
          (tree.bits n (slice_range pool start (start + bits_bytes f len))))
          (omega (arith, cover.0));
      inside = λ h. (h, omega (arith, few, cover.0));
      kept = refl;
    }

-- a run has as many bytes of text as it has bytes
run_text_bytes : (k : RunKind) (x : ℕ × List ℕ) →
    head_text_bytes (head.leaf (run_leaf k x)) ≡ length x.1
run_text_bytes kind.Text x = refl
run_text_bytes kind.Bytes x = refl
run_text_bytes (kind.ByteArray n) x = refl
run_text_bytes (kind.Bits f) x = refl

-- what holds where a run is open holds of one that is
if_open : {A : Type 0} (run : Option A) (t : A) (P : Type 0) → run ≡ Some t → IfSome run (λ x. P) →
    P
if_open (Some x) t P e h = h
if_open None t P e h = absurd cc

-- its bytes lie in the pool already, as the last there
pub run_ended : (ty : ℕ) (w : Walked) (pool : List ℕ) (ns : List Node) (text_len : ℕ)
    (run : Option OpenRun) (o : OpenRun) (t : TypeId) →
    IsBuilding ty w pool ns text_len → IsOpenRun w pool (all_kept ns) run → run ≡ Some o →
    IfSome (pieces_shown pool run)
    (λ x. (k : RunKind) × (missing_at (pieces_shown pool run) (next_of w) ≡ Ok (k, 0))) →
    bad_text (pieces_shown pool run) ≡ None → IsCleanRun (pieces_shown pool run) →
    IfSome (next_type w) (λ x. t.0 ≡ x) →
    IsBuilding ty (advanced w) pool
    (ns ++ record { ty = t; children = 0; content = run_content o } ∷ [])
    (text_len + run_bytes o.kind o.len)
    × (all_kept (ns ++ record { ty = t; children = 0; content = run_content o } ∷ [])
    ≡ length pool)
run_ended ty w pool ns text_len run o t b h is whole fault clean told =
    let place : IsOpenAt w pool (all_kept ns) o.kind o.start o.len =
    subst (IsOpenRun w pool (all_kept ns)) is h in
    let next = type_wanted w (run_form o.kind) t.0 place.is_next told in
    let lacks = if_open (pieces_shown pool run)
    (record { kind = o.kind; len = o.len; bytes = drop o.start pool })
    ((k : RunKind) × (missing_at (pieces_shown pool run) (next_of w) ≡ Ok (k, 0)))
    (ap (pieces_shown pool) is) whole in
    let all = open_whole w pool (all_kept ns) o lacks.0 place (subst (λ (x : Option OpenRun).
    missing_at (pieces_shown pool x) (next_of w) ≡ Ok (lacks.0, 0)) is lacks.1) in
    let s = drop o.start pool in
    let valid = is_run o.kind o.len s (subst
    (λ (x : Option OpenRun). bad_text (pieces_shown pool x) ≡ None) is fault) (subst
    (λ (x : Option OpenRun). IsCleanRun (pieces_shown pool x)) is clean) in
    let size = run_bytes o.kind o.len in
    let long : length s ≡ size = omega (arith, all.0, length-drop o.start pool) in
    let l = run_next w o.kind o.len s place.is_next valid place.are_bytes long place.spelled
    place.fits in
    let n : Node = record { ty = t; children = 0; content = run_content o } in
    let node = run_node pool o.kind o.len o.start place.spelled in (
      rw (← append-nil pool) (leaf_added ty w pool [] ns n text_len size
          (head.leaf (run_leaf o.kind (o.len, s))) b l (same_Some t.0 l.ty (next ∙ l.next))
          (rw append-nil
          (node.shows ∙ ap (λ (x : List ℕ). head.leaf (run_leaf o.kind (o.len, x))) all.1))
          (rw append-nil (node.inside (omega (arith, all.0))))
          (sym (run_text_bytes o.kind (o.len, s) ∙ long))
          (omega (arith, place.behind, all.0, node.kept))),
      omega (arith, kept_snoc ns n, place.behind, all.0, node.kept),
    )
