-- The nodes whose children come next, by the form that is next.
use Rattle.std.proofs.Common.{◌≡◌, ℕ, ◌+◌, ◌<◌, ◌≤◌, ◌^◌, ◌⊎◌, true, List, [], ◌∷◌, length, Option}
use Rattle.std.proofs.Common.{Some, None, refl, sym, ap, ◌∙◌, arith, inl, inr}
use Rattle.std.specs.Prelude.{option_map, is_some}
use Rattle.std.proofs.lemmas.Option.{same_Some}
use Rattle.scale_core.specs.Number.{AreBytes}
use Rattle.scale_core.specs.Compact.{compact}
use Rattle.scale_core.proofs.Modes.{are_compact}
use Rattle.types_core.specs.declared.definition.Arm.{Arm}
use Rattle.graph_core.specs.Types.{field_types}
use Rattle.widths_core.specs.Arms.{arm_of}
use Rattle.widths_core.specs.Classes.{is_finite}
use Rattle.widths_core.specs.Layouts.{Layout, layout}
use Rattle.widths_core.specs.Layouts as layout
use Rattle.grammar_core.specs.Begun.{BranchOpens}
use Rattle.grammar_core.specs.Parts.{Part, each, how_many_left}
use Rattle.grammar_core.specs.Preorder as head
use Rattle.grammar_core.specs.Tree as tree
use Rattle.grammar_core.specs.declared.form.Form.{Form}
use Rattle.grammar_core.specs.declared.form.Form.TheVariants as form
use Rattle.grammar_core.specs.declared.form.Next.TheVariants as next
use Rattle.value_core.specs.Built.{Built, IsNextOpen, arm_in, next_layout, type_or_0, with_arm}
use Rattle.value_core.specs.Built.{with_open}
use Rattle.value_core.specs.Opened.{OpensFields, OpensArm, OpensElements, IsListNext}
use Rattle.value_core.specs.Walked.{Walked, next_of, next_type}
use Rattle.value_core.proofs.Forms.{wanted}

-- where fields are next and these parts are opened, a node with as many children may open
pub fields_next : (w : Walked) (p : Part) → next_of w ≡ next.Wants form.Fields → OpensFields w p →
    IsNextOpen w (head.branch tree.fields (how_many_left p)) p
fields_next w p e o =
    let k = wanted w form.Fields e in
    let same : k.ty ≡ o.ty = same_Some k.ty o.ty (sym k.is_next ∙ o.next) in
    record {
      ty = o.ty;
      next = o.next;
      room = k.room;
      kind = tree.fields;
      head_is = refl;
      own = [];
      are_bytes = tt;
      finite = rw (← same) k.finite;
      opens = (o.members, o.laid, refl, o.part_is);
    }

-- an array of this length or a sequence, whose elements these are
pub list_next : (w : Walked) (n : ℕ) (p : Part) → n < 2 ^ 32 → IsListNext w n →
    OpensElements w n p → IsNextOpen w (head.branch tree.list n) p
list_next w n p h e o =
    let k = ready e in
    let own = opened o.laid in
    record {
      ty = o.ty;
      next = o.next;
      room = k.0;
      kind = tree.list;
      head_is = ap (head.branch tree.list) (sym (ap how_many_left o.part_is));
      own = own.0;
      are_bytes = own.1;
      finite = k.1;
      opens = own.2;
    } where
      ready_for : (f : Form) → next_of w ≡ next.Wants f → (length w.frames ≤ w.limit + 1)
          × (is_finite w.types o.ty ≡ true)
      ready_for f e =
          let k = wanted w f e in
          let same : k.ty ≡ o.ty = same_Some k.ty o.ty (sym k.is_next ∙ o.next) in
          (k.room, rw (← same) k.finite)

      ready : IsListNext w n → (length w.frames ≤ w.limit + 1) × (is_finite w.types o.ty ≡ true)
      ready (inl e) = ready_for (form.Array n) e
      ready (inr e) = ready_for form.Sequence e

      opened : (layout w.types o.ty ≡ layout.array n o.element)
          ⊎ (layout w.types o.ty ≡ layout.sequence o.element) → (c : List ℕ) × AreBytes c
          × BranchOpens (layout w.types o.ty) tree.list c p
      opened (inl laid) = ([], tt, (n, o.element, inl (laid, refl), o.part_is))
      opened (inr laid) = (
        compact n,
        are_compact n,
        (n, o.element, inr (laid, (omega (arith, h), refl)), o.part_is),
      )

-- two pairs that are the same answer are the same
pair_is : (x y : ℕ × Part) → Some x ≡ Some y → x ≡ y
pair_is x y e = cc

-- the arm that was found
pub arm_next : (w : Walked) (index q : ℕ) (p : Part) → index < 256 →
    next_of w ≡ next.Wants form.Arm → OpensArm w index (Some (q, p)) →
    IsNextOpen w (head.branch (tree.arm q) (how_many_left p)) p
arm_next w index q p h e o = by (arm_of o.arms index) refl o.found_is where
  by : (found : Option (ℕ × Arm)) → arm_of o.arms index ≡ found →
      ◌≡◌ {A = Option (ℕ × Part)} (Some (q, p))
      (option_map (λ x. (x.0, each (field_types x.1.fields))) found) →
      IsNextOpen w (head.branch (tree.arm q) (how_many_left p)) p
  by None f is = absurd cc
  by (Some a) f is =
      let k = wanted w form.Arm e in
      let same : k.ty ≡ o.ty = same_Some k.ty o.ty (sym k.is_next ∙ o.next) in
      let both = pair_is (q, p) (a.0, each (field_types a.1.fields)) is in
      let position : q ≡ a.0 = ap (λ (x : ℕ × Part). x.0) both in
      let part : p ≡ each (field_types a.1.fields) = ap (λ (x : ℕ × Part). x.1) both in
      record {
        ty = o.ty;
        next = o.next;
        room = k.room;
        kind = tree.arm q;
        head_is = refl;
        own = index ∷ [];
        are_bytes = (h, tt);
        finite = rw (← same) k.finite;
        opens = (o.arms, index, a.1, o.laid, rw position f, refl, part);
      }

-- ---- what is opened, by the layout of the next type

-- what is next is laid out as the next type is
pub laid_next : (b : Built) (t : ℕ) → next_type b.walk ≡ Some t →
    next_layout b ≡ layout b.walk.types t
laid_next b t e = ap (λ (o : Option ℕ). layout b.walk.types (type_or_0 o)) e

-- an arm was found where the next layout has one
abbrev arm_opening : ℕ × Arm → ℕ × Part
arm_opening x = (x.0, each (field_types x.1.fields))

-- the arm that the next type opens for an index is the one that its layout has for it
arm_is : (b : Built) (index : ℕ) (found : Option (ℕ × Part)) → OpensArm b.walk index found →
    found ≡ option_map arm_opening (arm_in (next_layout b) index)
arm_is b index found o = o.found_is
    ∙ sym (ap (λ (f : Layout). option_map arm_opening (arm_in f index))
    (laid_next b o.ty o.next ∙ o.laid))

-- a node opened with the arm that the next type opens for an index is the value with this arm
pub with_arm_is : (b : Built) (index q : ℕ) (p : Part) → OpensArm b.walk index (Some (q, p)) →
    with_open b (head.branch (tree.arm q) (how_many_left p)) p ≡ with_arm b index
with_arm_is b index q p o = by (arm_in (next_layout b) index) refl (arm_is b index (Some (q, p)) o)
  where
    by : (found : Option (ℕ × Arm)) → arm_in (next_layout b) index ≡ found →
        ◌≡◌ {A = Option (ℕ × Part)} (Some (q, p)) (option_map arm_opening found) →
        with_open b (head.branch (tree.arm q) (how_many_left p)) p ≡ with_arm b index
    by None f is = absurd cc
    by (Some x) f is =
        let both = pair_is (q, p) (arm_opening x) is in
        rw f (ap (λ (y : ℕ × Part).
        with_open b (head.branch (tree.arm y.0) (how_many_left y.1)) y.1)
        both)

-- the next type opens an arm for an index exactly where its layout has one
pub arm_found : (b : Built) (index : ℕ) (found : Option (ℕ × Part)) → OpensArm b.walk index found →
    is_some (arm_in (next_layout b) index) ≡ is_some found
arm_found b index found o = sym (ap is_some (arm_is b index found o)
    ∙ mapped (arm_in (next_layout b) index))
  where
    mapped : (x : Option (ℕ × Arm)) → is_some (option_map arm_opening x) ≡ is_some x
    mapped None = refl
    mapped (Some x) = refl
