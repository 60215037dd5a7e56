-- As many bytes as a node needs are its own, and none is left over; or they are enough to refuse
-- it.
use Rattle.std.proofs.Common.{◌≡◌, ℕ, ◌^◌, Bool, true, false, cond, List, [], ◌∷◌}
use Rattle.std.proofs.Common.{length, Option, Some, None, Ok, Err, refl, arith}
use Rattle.std.specs.Prelude.{◌≢◌, nat_lt, not}
use Rattle.std.specs.Str.{bytes_eq}
use Rattle.scale_core.specs.Compact.{compact, target_bytes}
use Rattle.scale_core.specs.Read.{Read, bytes_at, mode_len, mode_number, mode_from, checked_mode}
use Rattle.scale_core.specs.Read.{is_too_long, integer_at, compact_at}
use Rattle.scale_core.specs.declared.compact.Target.{Target}
use Rattle.scale_core.specs.declared.compact.Target.TheVariants as target
use Rattle.scale_core.specs.declared.fault.Reason.{Reason}
use Rattle.scale_core.specs.declared.fault.Reason.TheVariants as scale
use Rattle.types_core.specs.declared.definition.Arm.{Arm}
use Rattle.types_core.specs.Kinds.{kind_of}
use Rattle.types_core.specs.declared.kind.PrimitiveKind.{PrimitiveKind}
use Rattle.types_core.specs.declared.kind.PrimitiveKind.TheVariants as K
use Rattle.widths_core.specs.Arms.{arm_of}
use Rattle.widths_core.specs.Layouts.{Plain, Layout, kind_layout}
use Rattle.widths_core.specs.Layouts as layout
use Rattle.grammar_core.specs.Tree.{Leaf}
use Rattle.grammar_core.specs.Reading.{layout_at, as_leaf, Refusal, basic}
use Rattle.grammar_core.specs.Ways.{Way, of_no_byte, of_width, of_compact, of_run, way_of, read_by}
use Rattle.grammar_core.specs.Ways.{leaf_of, leaf_by, judged_leaf}
use Rattle.grammar_core.specs.declared.form.Form.{Form}
use Rattle.grammar_core.specs.declared.form.Form.TheVariants as form
use Rattle.value_core.proofs.Forms.{HasForm}
use Rattle.outcome_core.specs.Machine.{is_cut}
use Rattle.form_core.specs.Needs.{compact_need, kind_need, AreOwn, HasBytes, IsNoTextKind}
use Rattle.grammar_core.specs.Reading.{leaf_own}
use Rattle.outcome_core.specs.Reported.{arm_own, arms_own, length_own, own_at}
use Rattle.outcome_core.proofs.ByFault.{IsJudged, Judges, judges}
use Rattle.outcome_core.proofs.ShortestCompacts.{whole_bytes}

-- nothing is left, or the refusal does not wait for more bytes
abbrev pub IsTakenWhole : {X : Type 0} → Read Refusal X → Type 0
IsTakenWhole (Ok x) = x.1 ≡ []
IsTakenWhole (Err e) = is_cut e.0 ≡ false

-- the same of a part
abbrev pub IsDefinite : {X : Type 0} → Read Reason X → Type 0
IsDefinite (Ok x) = x.1 ≡ []
IsDefinite (Err e) = e.0 ≢ scale.Truncated

-- a compact that is there whole leaves nothing, or is refused for good
checked_settled : (m : Target) (at form : List ℕ) (n : ℕ) → IsDefinite (checked_mode m at n form [])
checked_settled m at form n =
    by (not (bytes_eq (compact n) form)) (nat_lt n (256 ^ target_bytes m)) where
      by : (long fits : Bool) →
          IsDefinite {X = ℕ} (cond long (Err (scale.CompactNotShortest, at))
          (cond fits (Ok (n, [])) (Err (scale.CompactTooLarge, at))))
      by true fits = λ e. absurd cc
      by false true = refl
      by false false = λ e. absurd cc

-- just as many bytes as a compact integer needs leave nothing, or are refused for good
integer_settled : (m : Target) (first : ℕ) (rest : List ℕ) →
    length (first ∷ rest) ≡ compact_need m first → IsDefinite (integer_at m (first ∷ rest))
integer_settled m first rest h = by (is_too_long m first) refl where
  by : (long : Bool) → is_too_long m first ≡ long →
      IsDefinite (cond long (Err (scale.CompactTooLarge, first ∷ rest))
      (mode_from m (first ∷ rest) (bytes_at (mode_len first) (first ∷ rest))))
  by true e = λ no. absurd cc
  by false e = rw (whole_bytes (mode_len first) (first ∷ rest) (rw e at h))
      (checked_settled m (first ∷ rest) (first ∷ rest) (mode_number (first ∷ rest)))

-- the same of a compact, if its target is not nothing
pub compact_settled : (m : Target) (first : ℕ) (rest : List ℕ) → m ≢ target.Unit →
    length (first ∷ rest) ≡ compact_need m first → IsDefinite (compact_at m (first ∷ rest))
unfolding compact_at
compact_settled target.Unit first rest ne h = absurd (ne refl)
compact_settled m first rest ne h = integer_settled m first rest h

-- a reason other than that bytes are missing does not wait for more
pub basic_whole : (e : Reason) → e ≢ scale.Truncated → is_cut (basic e) ≡ false
basic_whole scale.Truncated h = absurd (h refl)
basic_whole _ h = refl

-- a leaf of what leaves nothing leaves nothing, and a refusal for good stays one
leaf_of_settled : {X : Type 0} (make : X → Leaf) (read : Read Reason X) → IsDefinite read →
    IsDefinite (leaf_of make read)
leaf_of_settled make (Ok x) h = h
leaf_of_settled make (Err e) h = h

-- so many bytes that are there leave nothing, or are refused for good
width_settled : (k : ℕ) (make : List ℕ → Leaf) (fault : List ℕ → Option Reason) (b : List ℕ) →
    IsJudged k (fault b) → length b ≡ k → IsDefinite (leaf_by b make fault (bytes_at k b))
width_settled k make fault b h len = rw (whole_bytes k b len) (by (fault b) h) where
  by : (f : Option Reason) → IsJudged k f → IsDefinite (judged_leaf b (make b) [] f)
  by None j = refl
  by (Some e) j = j.0

-- just the bytes that a leaf needs, which is no run
abbrev pub HasWay : Way → List ℕ → Type 0
HasWay (of_width k make fault) b = length b ≡ k
HasWay (of_compact m make) b = IsDefinite (compact_at m b)
HasWay _ b = ⊥

-- just as many bytes as a leaf needs leave nothing, or are refused for good, whatever its way
way_settled : (w : Way) (b : List ℕ) → Judges w b → HasWay w b → IsDefinite (read_by w b)
way_settled (of_no_byte l) b j h = absurd h
way_settled (of_width k make fault) b j h = width_settled k make fault b j h
way_settled (of_compact m make) b j h = leaf_of_settled make (compact_at m b) h
way_settled (of_run k) b j h = absurd h

-- the same of a leaf as a node
leaf_whole : (read : Read Reason Leaf) → IsDefinite read → IsTakenWhole (leaf_own (as_leaf read))
leaf_whole (Ok x) h = h
leaf_whole (Err e) h = basic_whole e.0 h

-- the bytes that a leaf needs are enough to read or refuse it, by its kind
plain_whole : (p : Plain) (b : List ℕ) → HasWay (way_of p) b →
    IsTakenWhole (own_at (layout.plain p) b)
unfolding own_at layout_at
plain_whole p b h =
    leaf_whole (read_by (way_of p) b) (way_settled (way_of p) b (judges p b) h)

-- the same of a sequence by its length
length_whole : (t : ℕ) (read : Read Reason ℕ) → IsDefinite read → IsTakenWhole (length_own t read)
length_whole t (Ok n) h = h
length_whole t (Err e) h = basic_whole e.0 h

-- the one byte of an index is enough to find the arm or refuse it
arms_whole : (arms : List Arm) (b : List ℕ) → length b ≡ 1 → IsTakenWhole (arms_own arms b)
arms_whole arms [] h = absurd (omega (arith, h))
arms_whole arms (x ∷ y ∷ b) h = absurd (omega (arith, h))
arms_whole arms (x ∷ []) h = by (arm_of arms x) where
  by : (found : Option (ℕ × Arm)) → IsTakenWhole (arm_own (x ∷ []) found [])
  by None = refl
  by (Some a) = refl

-- the layouts of nodes that have bytes of their own, other than those of runs
abbrev pub NeedsThese : Form → List ℕ → Type 0
NeedsThese (form.Primitive p) b = IsNoTextKind (kind_of p) × AreOwn (form.Primitive p) b
NeedsThese (form.Compact m) b = (m ≢ target.Unit) × AreOwn (form.Compact m) b
NeedsThese form.Bytes b = ⊥
NeedsThese (form.Bits f) b = ⊥
NeedsThese f b = HasBytes f × AreOwn f b

-- the bytes that a primitive kind needs are enough to read or refuse it, if it is no text
kind_whole : (k : PrimitiveKind) (b : List ℕ) (first : ℕ) → IsNoTextKind k →
    length b ≡ kind_need k first → IsTakenWhole (own_at (kind_layout k) b)
kind_whole K.Str b first n h = absurd n
kind_whole _ b first n h = plain_whole _ b h

-- the target of 32 bits is not nothing
pub u32_is : target.U32 ≢ target.Unit
u32_is = λ e. absurd cc

-- the bytes that a compact needs leave nothing, or are refused, whatever its first one is
pub settled_at : (m : Target) (b : List ℕ) → m ≢ target.Unit → (first : ℕ) (rest : List ℕ) →
    b ≡ first ∷ rest → length b ≡ compact_need m first → IsDefinite (compact_at m b)
settled_at m b ne first rest is len = rw is (compact_settled m first rest ne (rw is at len))

-- the bytes that a form needs are enough to read or refuse the node, and none is left
pub form_whole : (f : Form) (lay : Layout) (b : List ℕ) → HasForm f lay → NeedsThese f b →
    IsTakenWhole (own_at lay b)
unfolding own_at
form_whole form.Empty lay b h k = absurd k.0
form_whole (form.Primitive p) lay b h k = rw h (kind_whole (kind_of p) b k.1.0 k.0 k.1.3)
form_whole (form.Compact m) lay b h k =
    rw h (plain_whole (layout.compact m) b (settled_at m b k.0 k.1.0 k.1.1 k.1.2 k.1.3))
form_whole form.Fields lay b h k = absurd k.0
form_whole form.Arm lay b h k = rw h.1 (arms_whole h.0 b k.1.3)
form_whole (form.Array n) lay b h k = absurd k.0
form_whole (form.ByteArray n) lay b h k = absurd k.0
form_whole form.Bytes lay b h k = absurd k
form_whole (form.Bits f) lay b h k = absurd k
form_whole form.Sequence lay b h k =
    rw h.1 (length_whole h.0 (compact_at target.U32 b)
    (settled_at target.U32 b u32_is k.1.0 k.1.1 k.1.2 k.1.3))
form_whole form.Count lay b h k =
    rw h (plain_whole layout.counted b
    (settled_at target.U32 b u32_is k.1.0 k.1.1 k.1.2 k.1.3))
