-- A value of which nothing is missing.
use Rattle.std.proofs.Common.{◌≡◌, ℕ, ◌+◌, ◌≤◌, List, [], ◌∷◌, ◌++◌, length, map, true, Some, None}
use Rattle.std.proofs.Common.{Option, refl, sym, ap, subst, ◌∙◌, arith, inl}
use Rattle.std.proofs.lemmas.Simd.{map-map}
use Rattle.std.specs.Prelude.{is_none}
use Rattle.types_core.specs.declared.type_info.TypeInfo.{TypeInfo}
use Rattle.grammar_core.specs.Tree as tree
use Rattle.grammar_core.specs.Tree.{Tree, Trees, none, and, text_bytes, all_text_bytes}
use Rattle.grammar_core.specs.Preorder.{Head, preorder, all_preorder}
use Rattle.grammar_core.specs.Parts.{times, first_of}
use Rattle.grammar_core.specs.Cells.{Cell, cells}
use Rattle.node_core.specs.Shown.{seen, cells_shown, tree_shown, type_shown, head_shown, all_kept}
use Rattle.node_core.specs.Shown.{IsWhole}
use Rattle.value_core.specs.Spine.{OpenNode, Spine}
use Rattle.value_core.specs.Walked.{OpenPart, Walked}
use Rattle.value_core.specs.Built.{Pieces, entries_shown, head_text_bytes}
use Rattle.grammar_core.specs.Preorder.{Entry}
use Rattle.value_core.specs.Built.{entries_text_bytes, finished}
use Rattle.value_core.specs.Building.{IsBuilding}
use Rattle.value_core.specs.Refusals.{is_whole_in}
use Rattle.node_core.specs.declared.node.Node.{Node}
use Rattle.node_core.proofs.CellsOf.{bare_heads, cells_preorder, seen_is}
use Rattle.value_core.proofs.Spines.{spine_length, spine_is_whole}

-- the bytes of text of these nodes
abbrev pub heads_text : List Head → ℕ
heads_text [] = 0
heads_text (h ∷ hs) = head_text_bytes h + heads_text hs

-- the bytes of text of two lists of nodes joined are as many as of both together
pub heads_text-append : (hs ks : List Head) → heads_text (hs ++ ks) ≡ heads_text hs + heads_text ks
heads_text-append [] ks = omega arith
heads_text-append (h ∷ hs) ks = omega (arith, heads_text-append hs ks)

mutual
  pub text_of_preorder : (v : Tree) → heads_text (preorder v) ≡ text_bytes v
  text_of_preorder (tree.leaf l) = omega arith
  text_of_preorder (tree.branch k vs) = omega (arith, text_of_all_preorder vs)

  pub text_of_all_preorder : (vs : Trees) → heads_text (all_preorder vs) ≡ all_text_bytes vs
  text_of_all_preorder none = refl
  text_of_all_preorder (and v vs) =
      omega (
        arith,
        heads_text-append (preorder v) (all_preorder vs),
        text_of_preorder v,
        text_of_all_preorder vs,
      )

-- the bytes of text are as many, whether nodes are shown with their types or by themselves
pub text_of_entries : (pool : List ℕ) (ns : List Node) →
    entries_text_bytes (entries_shown pool ns) ≡ heads_text (bare_heads (cells_shown pool ns))
text_of_entries pool [] = refl
text_of_entries pool (n ∷ ns) = omega (arith, text_of_entries pool ns)

-- where the nodes are those of a value, their texts are its texts
text_of_value : (r : List TypeInfo) (t : ℕ) (v : Tree) (pool : List ℕ) (ns : List Node) →
    cells_shown pool ns ≡ cells r t v → entries_text_bytes (entries_shown pool ns) ≡ text_bytes v
text_of_value r t v pool ns e = text_of_entries pool ns
    ∙ ap (λ (cs : List Cell). heads_text (bare_heads cs)) e ∙ ap heads_text (cells_preorder r t v)
    ∙ text_of_preorder v

-- the nodes are those of a value of the type
pub record IsFinished (types : List TypeInfo) (ty : ℕ) (pool : List ℕ) (ns : List Node)
    (text_len : ℕ) : Type 0 where
  pub whole : IsWhole types pool ns
  pub type_is : type_shown ns ≡ ty
  pub texts : text_len ≡ text_bytes (tree_shown pool ns)
  pub fits : all_kept ns ≤ length pool

-- where nothing of a value that is being built is missing, it is whole, by the fields of its walk
finished_by : (ty : ℕ) (types : List TypeInfo) (limit : ℕ) (fs : List OpenPart) (pool : List ℕ)
    (ns : List Node) (text_len : ℕ) →
    IsBuilding ty (record { types = types; limit = limit; frames = fs }) pool ns text_len →
    is_whole_in fs ≡ true → IsFinished types ty pool ns text_len
finished_by ty types limit [] pool ns text_len b e = absurd cc
finished_by ty types limit (f ∷ g ∷ fs) pool ns text_len b e = absurd cc
finished_by ty types limit (f ∷ []) pool ns text_len b e = by b.opens refl where
  none_of : (x : Option ℕ) → is_none x ≡ true → x ≡ None
  none_of None e = refl
  none_of (Some x) e = absurd cc

  by : (os : List OpenNode) → b.opens ≡ os → IsFinished types ty pool ns text_len
  by [] o =
      let spine : Spine types b.room ty [] (f ∷ []) (cells_shown pool ns) b.own =
      subst (λ (x : List OpenNode). Spine types b.room ty x (f ∷ []) (cells_shown pool ns)
      b.own) o b.spine in
      let v = spine_is_whole types b.room ty f (cells_shown pool ns) b.own spine
      (none_of (first_of f.left) e) in
      let is = seen_is types pool ns ty v.0 v.1 in
      record {
        whole = record {
          nodes = v.1 ∙ sym (rw (is.0, is.1) refl);
          inside = b.inside;
          value =
              rw (is.0, is.1) (b.own, b.are_bytes, v.2);
        };
        type_is = is.0;
        texts = b.texts ∙ text_of_value types ty v.0 pool ns v.1 ∙ ap text_bytes (sym is.1);
        fits = b.fits;
      }
  by (x ∷ os) o = absurd (omega (
    arith,
    ap length o,
    spine_length types b.room ty b.opens (f ∷ []) (cells_shown pool ns) b.own b.spine,
  ))

-- where nothing of a value that is being built is missing, its nodes are those of a whole value
pub is_finished : (ty : ℕ) (w : Walked) (pool : List ℕ) (ns : List Node) (text_len : ℕ) →
    IsBuilding ty w pool ns text_len → is_whole_in w.frames ≡ true →
    IsFinished w.types ty pool ns text_len
is_finished ty w pool ns text_len b e = finished_by ty w.types w.limit w.frames pool ns text_len b e

-- nodes shown with their types are, by themselves, what each node shows
heads_are : (pool : List ℕ) (ns : List Node) →
    map (λ (e : Entry). e.head) (entries_shown pool ns)
    ≡ map (λ (n : Node). head_shown pool n.children n.content) ns
heads_are pool ns = map-map (λ (e : Entry). e.head) _ ns

-- what is seen of the value that is handed out
pub seen_finished : (run : Option Pieces) (turns ty : ℕ) (w : Walked) (pool : List ℕ)
    (ns : List Node) → type_shown ns ≡ ty →
    seen w.types pool ns ≡ finished
    (record { ty = ty; walk = w; entries = entries_shown pool ns; run = run; turns = turns })
seen_finished run turns ty w pool ns e = rw (e, heads_are pool ns) refl

-- nothing is there yet
pub nothing_built : (ty : ℕ) (types : List TypeInfo) (limit : ℕ) →
    IsBuilding ty (record {
      types = types;
      limit = limit;
      frames =
          record { node = 0; left = times 1 ty } ∷ [];
    }) [] [] 0
nothing_built ty types limit =
    record {
      room = limit + 1;
      level = omega arith;
      own = [];
      are_bytes = tt;
      opens = [];
      spine =
          inl (refl, refl, refl);
      inside = tt;
      texts = refl;
      fits = omega arith;
    }
