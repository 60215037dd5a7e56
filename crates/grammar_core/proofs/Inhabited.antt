-- A finite type has a value, unless a definition can be reached whose values are left out.
use Rattle.std.proofs.Common.{◌≡◌, ℕ, zero, suc, ◌+◌, ◌<◌, ◌⊎◌, Bool, true, false, cond, List, []}
use Rattle.std.proofs.Common.{◌∷◌, ◌++◌, length, Option, Some, None, refl, sym, ap, subst, ◌∙◌}
use Rattle.std.proofs.Common.{arith, inl, inr}
use Rattle.std.specs.Prelude.{◌==◌, ◌||◌, flat_map, ◌*◌, ◌/◌, ◌%◌, min}
use Rattle.std.specs.List.{list_all, list_any, AllByRecursion}
use Rattle.std.specs.Str.{is_utf8, chars}
use Rattle.std.proofs.lemmas.Bool.{eqb-true, eq-eqb}
use Rattle.scale_core.specs.Number.{AreBytes}
use Rattle.scale_core.specs.Compact.{compact, IsCompact}
use Rattle.scale_core.specs.declared.compact.Target.{Target}
use Rattle.scale_core.specs.declared.compact.Target.TheVariants as target
use Rattle.scale_core.proofs.Numbers.{both_bytes}
use Rattle.types_core.specs.declared.definition.Arm.{Arm}
use Rattle.types_core.specs.Bits.{bits_bytes}
use Rattle.types_core.specs.Kinds.{kind_of, width_bytes}
use Rattle.types_core.specs.declared.bits.BitForm.{BitForm}
use Rattle.types_core.specs.declared.kind.IntegerWidth.{IntegerWidth}
use Rattle.types_core.specs.declared.kind.IntegerWidth.TheVariants as width
use Rattle.types_core.specs.declared.kind.PrimitiveKind.{PrimitiveKind}
use Rattle.types_core.specs.declared.kind.PrimitiveKind.TheVariants as K
use Rattle.types_core.specs.declared.definition.TypeDef.{TypeDef}
use Rattle.types_core.specs.declared.definition.TypeDef.TheVariants as Def
use Rattle.types_core.specs.declared.type_info.TypeInfo.{TypeInfo}
use Rattle.types_core.specs.Fits.{FitsType, FitsArm, FitsDefinition}
use Rattle.graph_core.specs.Types.{shape, ids, field_types}
use Rattle.widths_core.specs.Arms.{arm_from, live_arms}
use Rattle.graph_core.specs.References.{references}
use Rattle.widths_core.specs.Targets.{target_of}
use Rattle.widths_core.specs.Reach.{IsAmong, here, there, IsPlain}
use Rattle.widths_core.specs.Classes.{finite_within, finite_step, holds_at, is_empty}
use Rattle.widths_core.specs.Layouts.{Plain, layout, sized_layout, kind_layout, sequence_layout}
use Rattle.widths_core.specs.Layouts.{array_layout, is_byte, bits_layout, compact_layout}
use Rattle.widths_core.specs.Layouts as layout
use Rattle.widths_core.specs.declared.run_kind.RunKind.{RunKind}
use Rattle.widths_core.specs.declared.run_kind.RunKind.TheVariants as kind
use Rattle.widths_core.proofs.Ranks.{and_parts, or_parts}
use Rattle.grammar_core.specs.Tree.{Leaf, Tree, leaf, branch, fields, arm, list, Trees, none, and}
use Rattle.grammar_core.specs.Tree.{how_many}
use Rattle.grammar_core.specs.Ways.{Way, of_no_byte, of_width, of_compact, of_run, SpelledBy}
use Rattle.grammar_core.specs.Ways.{way_of}
use Rattle.grammar_core.specs.Runs.{SpellsRun, run_leaf}
use Rattle.grammar_core.specs.Grammar.{Val, Vals, Each}
use Rattle.grammar_core.specs.Laws.{FiniteHasValue}

abbrev IsInhabited : List TypeInfo → ℕ → Type 0
IsInhabited r t = (v : Tree) × (b : List ℕ) × AreBytes b × Val r t v b

-- ---- lists of values

-- types of which a test holds have values in a row, where each of them has one if it holds
all_values : (r : List TypeInfo) (f : ℕ → Bool) (ts : List ℕ) →
    ((t : ℕ) → IsAmong t ts → f t ≡ true → IsInhabited r t) → list_all f ts ≡ true → (vs : Trees)
    × (b : List ℕ) × AreBytes b × Vals r ts vs b
unfolding Val
all_values r f [] h e = (none, [], tt, refl)
all_values r f (t ∷ ts) h e =
    let p = and_parts (f t) (list_all f ts) e in
    let one = h t (inl refl) p.0 in
    let rest = all_values r f ts (λ u m. h u (inr m)) p.1 in (
      and one.0 rest.0,
      one.1 ++ rest.1,
      both_bytes one.1 rest.1 one.2 rest.2,
      (one.1, rest.1, refl, one.3, rest.3),
    )

-- a type that has a value has any number of values in a row
repeated : (r : List TypeInfo) (t n : ℕ) → IsInhabited r t →
    (vs : Trees) × (b : List ℕ) × AreBytes b
    × (how_many vs ≡ n) × Each r t vs b
unfolding Val
repeated r t zero h = (none, [], tt, refl, refl)
repeated r t (suc n) h =
    let rest = repeated r t n h in (
      and h.0 rest.0,
      h.1 ++ rest.1,
      both_bytes h.1 rest.1 h.2 rest.2,
      ap (λ (k : ℕ). suc k) rest.3,
      (h.1, rest.1, refl, h.3, rest.4),
    )

-- ---- arms

-- what is among the first of two lists is among both joined
among_left : (u : ℕ) (xs ys : List ℕ) → IsAmong u xs → IsAmong u (xs ++ ys)
among_left u [] ys h = absurd h
among_left u (x ∷ xs) ys (inl e) = inl e
among_left u (x ∷ xs) ys (inr h) = inr (among_left u xs ys h)

-- what is among the second of two lists is among both joined
among_right : (u : ℕ) (xs ys : List ℕ) → IsAmong u ys → IsAmong u (xs ++ ys)
among_right u [] ys h = h
among_right u (x ∷ xs) ys h = inr (among_right u xs ys h)

-- where neither one nor the other of two tests holds, each of them fails
pub or_false : (a b : Bool) → (a || b) ≡ false → (a ≡ false) × (b ≡ false)
or_false true b e = absurd cc
or_false false b e = (refl, e)

-- a live arm of which p holds: it is the first of its index
record Live (p : Arm → Bool) (arms : List Arm) (seen : List ℕ) (j : ℕ) : Type 0 where
  pub arm : Arm
  pub position : ℕ
  pub holds : p arm ≡ true
  pub is : arm_from j arms arm.index ≡ Some (position, arm)
  pub new : list_any (λ s. s == arm.index) seen ≡ false
  pub refers : (u : ℕ) → IsAmong u (field_types arm.fields) →
      IsAmong u (flat_map (λ a. field_types a.fields) arms)
  pub byte : arm.index < 256

-- a live arm is live also where an arm of another index stands before the list
live_after_another : (p : Arm → Bool) (x : Arm) (arms : List Arm) (seen : List ℕ) (j : ℕ)
    (l : Live p arms seen (j + 1)) → (x.index == l.arm.index) ≡ false → Live p (x ∷ arms) seen j
live_after_another p x arms seen j l e = record {
  arm = l.arm;
  position = l.position;
  holds = l.holds;
  is = rw e l.is;
  new = l.new;
  refers = λ u m. among_right u (field_types x.fields) (flat_map (λ a. field_types a.fields) arms)
      (l.refers u m);
  byte = l.byte;
}

-- a test holds or fails
bool_cases : (b : Bool) → (b ≡ true) ⊎ (b ≡ false)
bool_cases true = inl refl
bool_cases false = inr refl

-- where a test holds of some arm that counts, there is a live arm of which it holds
live : (p : Arm → Bool) (arms : List Arm) (seen : List ℕ) (j : ℕ) → AllByRecursion FitsArm arms →
    list_any p (live_arms seen arms) ≡ true → Live p arms seen j
live p [] seen j fits e = absurd cc
live p (x ∷ arms) seen j fits e =
    go (list_any (λ s. s == x.index) seen) refl e (λ more k. live p arms more (j + 1) fits.1 k)
  where
    seen_before : list_any (λ s. s == x.index) seen ≡ true → Live p arms seen (j + 1) →
        Live p (x ∷ arms) seen j
    seen_before g l = elim (bool_cases (x.index == l.arm.index)) [
      | inl same ↦ let yes : list_any (λ s. s == l.arm.index) seen ≡ true =
          rw (← eqb-true x.index l.arm.index same) g in let both = sym yes ∙ l.new in absurd cc
      | inr ne ↦ live_after_another p x arms seen j l ne
    ]

    fresh : Live p arms (x.index ∷ seen) (j + 1) → Live p (x ∷ arms) seen j
    fresh l = let parts = or_false (x.index == l.arm.index) (list_any (λ s. s == l.arm.index) seen)
        l.new in
        live_after_another p x arms seen j (record {
          arm = l.arm;
          position = l.position;
          holds = l.holds;
          is =
              l.is;
          new = parts.1;
          refers = l.refers;
          byte = l.byte;
        }) parts.0

    go : (b : Bool) → list_any (λ s. s == x.index) seen ≡ b →
        list_any p (cond b (live_arms seen arms) (x ∷ live_arms (x.index ∷ seen) arms)) ≡ true →
        ((more : List ℕ) → list_any p (live_arms more arms) ≡ true → Live p arms more (j + 1)) →
        Live p (x ∷ arms) seen j
    go true g k r = seen_before g (r seen k)
    go false g k r = elim (or_parts (p x) (list_any p (live_arms (x.index ∷ seen) arms)) k) [
      | inl px ↦ record {
        arm = x;
        position = j;
        holds = px;
        is = rw (eq-eqb x.index x.index refl) refl;
        new = g;
        refers = λ u m. among_left u (field_types x.fields)
            (flat_map (λ a. field_types a.fields) arms) m;
        byte = fits.0.2;
      }
      | inr later ↦ fresh (r (x.index ∷ seen) later)
    ]

-- ---- the least value of each definition

-- so many bytes that are 0
zeros : ℕ → List ℕ
zeros zero = []
zeros (suc k) = 0 ∷ zeros k

-- bytes that are 0 are bytes
zeros-bytes : (k : ℕ) → AreBytes (zeros k)
unfolding zeros
zeros-bytes zero = tt
zeros-bytes (suc k) = (omega arith, zeros-bytes k)

-- there are as many bytes 0 as were asked for
length-zeros : (k : ℕ) → length (zeros k) ≡ k
unfolding zeros
length-zeros zero = refl
length-zeros (suc k) = ap (λ (n : ℕ). suc n) (length-zeros k)

-- the compact spelling of 0 is made of bytes
zero-bytes : AreBytes (compact 0)
unfolding compact
zero-bytes = (omega arith, tt)

-- the number 0 has its compact spelling where the target is u32
u32_zero : IsCompact target.U32 0 (compact 0)
u32_zero = (omega arith, refl)

-- no bytes at all are UTF-8
no_text : is_utf8 [] ≡ true
unfolding is_utf8 chars lib.Utf8.encode
no_text = refl

-- the number 0 has a compact spelling whatever the target
zero_of : (m : Target) → (b : List ℕ) × AreBytes b × IsCompact m 0 b
zero_of target.Unit = ([], tt, (refl, refl))
zero_of target.U8 = (compact 0, zero-bytes, (omega arith, refl))
zero_of _ = (compact 0, zero-bytes, (omega arith, refl))

-- bytes 0 are not refused in this way
abbrev IsZeroTaken : Way → Type 0
IsZeroTaken (of_width k make fault) = fault (zeros k) ≡ None
IsZeroTaken _ = ◌≡◌ {A = ℕ} 0 0

-- nor by any kind
zero_taken : (p : Plain) → IsZeroTaken (way_of p)
unfolding zeros
zero_taken layout.bool = refl
zero_taken _ = refl

-- no bits need no words
no_words : (f : BitForm) → bits_bytes f 0 ≡ 0
no_words f = go f.store where
  go : (w : IntegerWidth) → (0 / (8 * width_bytes w) + min 1 (0 % (8 * width_bytes w)))
      * width_bytes w ≡ 0
  go width.Bits8 = refl
  go width.Bits16 = refl
  go width.Bits32 = refl
  go width.Bits64 = refl
  go width.Bits128 = refl

-- the length 0, or that of an array, stands before as many bytes 0, which are a run
least_run : (k : RunKind) → (x : ℕ × List ℕ) × (b : List ℕ) × AreBytes b × SpellsRun k x.0 x.1 b
least_run kind.Text = (
  (0, []),
  compact 0 ++ [],
  both_bytes (compact 0) [] zero-bytes tt,
  (compact 0, u32_zero, refl, no_text, refl),
)
least_run kind.Bytes = (
  (0, []),
  compact 0 ++ [],
  both_bytes (compact 0) [] zero-bytes tt,
  (compact 0, u32_zero, refl, tt, refl),
)
least_run (kind.ByteArray n) = (
  (n, zeros n),
  zeros n,
  zeros-bytes n,
  ([], (refl, refl), length-zeros n, tt, refl),
)
least_run (kind.Bits f) = (
  (0, []),
  compact 0 ++ [],
  both_bytes (compact 0) [] zero-bytes tt,
  (compact 0, u32_zero, sym (no_words f), refl, refl),
)

-- the least leaf of each way, and the bytes that spell it
least_leaf : (w : Way) → IsZeroTaken w → (l : Leaf) × (b : List ℕ) × AreBytes b × SpelledBy w l b
least_leaf (of_no_byte u) h = (u, [], tt, (refl, refl))
least_leaf (of_width k make fault) h =
    (make (zeros k), zeros k, zeros-bytes k, (length-zeros k, refl, h))
least_leaf (of_compact m make) h = let z = zero_of m in (make 0, z.0, z.1, (0, refl, z.2))
least_leaf (of_run k) h = let x = least_run k in (run_leaf k x.0, x.1, x.2, (x.0, refl, x.3))

-- what is laid out as a kind has its least leaf as a value
plain_value : (r : List TypeInfo) (t : ℕ) (p : Plain) → layout r t ≡ layout.plain p →
    IsInhabited r t
unfolding Val
plain_value r t p e =
    let v = least_leaf (way_of p) (zero_taken p) in (leaf v.0, v.1, v.2, (p, e, v.3))

-- what is laid out as a primitive type, of whatever kind, has a value
kind_value : (r : List TypeInfo) (t : ℕ) (k : PrimitiveKind) → layout r t ≡ kind_layout k →
    IsInhabited r t
kind_value r t K.Bool e = plain_value r t _ e
kind_value r t _ e = plain_value r t _ e

-- what is laid out as a sequence, of whatever elements, has a value
sequence_value : (r : List TypeInfo) (t u : ℕ) (b byte : Bool) →
    layout r t ≡ sequence_layout u b byte → IsInhabited r t
unfolding Val
sequence_value r t u true byte e = plain_value r t _ e
sequence_value r t u false true e = plain_value r t _ e
sequence_value r t u false false e = (
  branch list none,
  compact 0 ++ [],
  both_bytes (compact 0) [] zero-bytes tt,
  inr (u, compact 0, [], e, u32_zero, refl, refl),
)

-- what is laid out as an array has a value, if it is of u8 or there are as many elements
array_value : (r : List TypeInfo) (t n u : ℕ) (byte : Bool) → layout r t ≡ array_layout n u byte →
    (byte ≡ false → (vs : Trees) × (b : List ℕ) × AreBytes b × (how_many vs ≡ n) × Each r u vs b) →
    IsInhabited r t
unfolding Val
array_value r t n u true e each = plain_value r t _ e
array_value r t n u false e each = let all = each refl in
    (branch list all.0, all.1, all.2, inl (n, u, e, all.3, all.4))

-- what is laid out as a compact has a value if it has a target
compact_of : (r : List TypeInfo) (t : ℕ) (o : Option Target) → (o ≡ None → ⊥) →
    layout r t ≡ compact_layout o → IsInhabited r t
compact_of r t None left e = absurd (left refl)
compact_of r t (Some m) left e = plain_value r t _ e

-- what is laid out as bits has a value if they are read
bits_of : (r : List TypeInfo) (t : ℕ) (o : Option BitForm) → (o ≡ None → ⊥) →
    layout r t ≡ bits_layout o → IsInhabited r t
bits_of r t None left e = absurd (left refl)
bits_of r t (Some f) left e = plain_value r t _ e

-- by its definition's layout, a finite type has a value if those it needs do and none is left out
sized_value : (r : List TypeInfo) (k t : ℕ) (d : TypeDef) → FitsDefinition d → IsPlain r t →
    shape r t ≡ Some d → ((u : ℕ) → IsAmong u (references d) → finite_within r k u ≡ true →
    IsInhabited r u) → layout r t ≡ sized_layout r d → finite_step (finite_within r k) d ≡ true →
    IsInhabited r t
unfolding Val
sized_value r k t (Def.Composite fs) fits plain is child e h = let all =
    all_values r (finite_within r k) (field_types fs) child h in
    (branch fields all.0, all.1, all.2, (field_types fs, e, all.3))
sized_value r k t (Def.Variant arms) fits plain is child e h =
    let l = live (λ a. list_all (finite_within r k) (field_types a.fields)) arms [] 0 fits.1 h in
    let all = all_values r (finite_within r k) (field_types l.arm.fields)
    (λ u m. child u (l.refers u m)) l.holds in (
      branch (arm l.position) all.0,
      l.arm.index ∷ all.1,
      (l.byte, all.2),
      (arms, l.arm.index, l.arm, all.1, e, l.is, refl, all.3),
    )
sized_value r k t (Def.Sequence u) fits plain is child e h =
    sequence_value r t u.0 (is_empty r u.0) (is_byte (shape r u.0)) e
sized_value r k t (Def.Array zero u) fits plain is child e h =
    array_value r t zero u.0 (is_byte (shape r u.0)) e (λ is. (none, [], tt, refl, refl))
sized_value r k t (Def.Array (suc n) u) fits plain is child e h =
    array_value r t (suc n) u.0 (is_byte (shape r u.0)) e
    (λ is. repeated r u.0 (suc n) (child u.0 (inl refl) h))
sized_value r k t (Def.Tuple ts) fits plain is child e h = let all =
    all_values r (finite_within r k) (ids ts) child h in
    (branch fields all.0, all.1, all.2, (ids ts, e, all.3))
sized_value r k t (Def.Primitive p) fits plain is child e h = kind_value r t (kind_of p) e
sized_value r k t (Def.Compact u) fits plain is child e h =
    compact_of r t (target_of r u.0) (λ none. plain t (Def.Compact u) here is none) e
sized_value r k t (Def.BitSequence store order bits) fits plain is child e h =
    bits_of r t bits (λ none. plain t (Def.BitSequence store order bits) here is none) e

-- ---- by rank

-- where a test holds at a number, a definition stands there of which it holds
shape_of : (r : List TypeInfo) (p : TypeDef → Bool) (t : ℕ) → holds_at r p t ≡ true → (d : TypeDef)
    × (shape r t ≡ Some d) × (p d ≡ true)
shape_of [] p t e = absurd cc
shape_of (x ∷ r) p zero e = (x.shape, refl, e)
shape_of (x ∷ r) p (suc t) e = shape_of r p t e

-- where all types of a registry fit, each definition in it fits
fits_at : (r : List TypeInfo) (t : ℕ) (d : TypeDef) → AllByRecursion FitsType r →
    shape r t ≡ Some d → FitsDefinition d
fits_at [] t d h e = absurd cc
fits_at (x ∷ r) zero d h e = let is : x.shape ≡ d = cc in subst FitsDefinition is h.0.2
fits_at (x ∷ r) (suc t) d h e = fits_at r t d h.1 e

-- a finite type, empty or not, has a value if those it needs do and none is left out
some_value : (r : List TypeInfo) (k t : ℕ) (d : TypeDef) → FitsDefinition d → IsPlain r t →
    shape r t ≡ Some d → ((u : ℕ) → IsAmong u (references d) → finite_within r k u ≡ true →
    IsInhabited r u) → finite_step (finite_within r k) d ≡ true → (b : Bool) → is_empty r t ≡ b →
    IsInhabited r t
unfolding layout
some_value r k t d fits plain is child h true e = plain_value r t layout.empty (rw e refl)
some_value r k t d fits plain is child h false e =
    sized_value r k t d fits plain is child (rw (e, is) refl) h

-- in a registry that fits, what is finite by k levels has a value if it leads to nothing left out
value_within : (r : List TypeInfo) → AllByRecursion FitsType r → (k t : ℕ) →
    finite_within r k t ≡ true → IsPlain r t → IsInhabited r t
unfolding finite_within
value_within r fits zero t e plain = absurd cc
value_within r fits (suc k) t e plain =
    let s = shape_of r (finite_step (finite_within r k)) t e in
    some_value r k t s.0 (fits_at r t s.0 fits s.1) plain s.1
    (λ u m f. value_within r fits k u f (λ w d reach. plain w d (there s.1 m reach))) s.2
    (is_empty r t) refl

-- a finite type has a value, unless it leads to a definition whose values are left out
pub finite_has_value : FiniteHasValue
finite_has_value r t fits finite plain = value_within r fits.1 finite.0 t finite.1 plain
