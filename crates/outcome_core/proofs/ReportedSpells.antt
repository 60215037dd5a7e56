-- The nodes that a reading adds spell the bytes before where it ends.
use Rattle.std.proofs.Common.{◌≡◌, ℕ, zero, suc, List, [], ◌∷◌, ◌++◌, Option, Some, None, Ok}
use Rattle.std.proofs.Common.{Err, refl, sym, ap, flat_map, subst, ◌∙◌, append_assoc}
use Rattle.std.proofs.lemmas.Grind.{flat_map-append}
use Rattle.std.proofs.lemmas.List.{append-nil}
use Rattle.scale_core.specs.Number.{AreBytes}
use Rattle.scale_core.proofs.Numbers.{front_bytes, rest_bytes}
use Rattle.types_core.specs.declared.type_info.TypeInfo.{TypeInfo}
use Rattle.graph_core.specs.Types.{shape}
use Rattle.grammar_core.specs.Parts.{Part, each, times}
use Rattle.grammar_core.specs.Preorder as head
use Rattle.grammar_core.specs.Preorder.{Head, head_of}
use Rattle.grammar_core.specs.Spelled.{own_bytes}
use Rattle.grammar_core.specs.Tree.{Tree, levels}
use Rattle.grammar_core.specs.Tree as tree
use Rattle.grammar_core.proofs.Spelled.{encoded_is_value}
use Rattle.grammar_core.specs.Preorder.{Entry}
use Rattle.outcome_core.specs.Met.{met_layout}
use Rattle.grammar_core.specs.Reading.{Own}
use Rattle.outcome_core.specs.Reported.{entry, own_at}
use Rattle.outcome_core.specs.Reported.{Reported, reported, after, then, all_reported}
use Rattle.outcome_core.specs.Reported.{times_reported, opened_reported}
use Rattle.outcome_core.specs.Reported.{own_reported, reported_at}
use Rattle.grammar_core.proofs.Spelled.{branch_own}
use Rattle.outcome_core.proofs.Owns.{IsOpened, own_opened}

-- the bytes of these nodes, one after the other
abbrev pub entry_bytes : List TypeInfo → List Entry → List ℕ
entry_bytes r xs = flat_map (λ (e : Entry). own_bytes (shape r e.ty) e.head) xs

-- they stand before what is left, or of the node that is refused
abbrev pub HoldsBytes : List TypeInfo → List ℕ → Reported → Type 0
HoldsBytes r b (reported xs (Ok rest)) = b ≡ entry_bytes r xs ++ rest
HoldsBytes r b (reported xs (Err e)) = b ≡ entry_bytes r xs ++ e.1

-- the bytes of nodes, and then those of others, are those of all of them
both_fronts : (r : List TypeInfo) (xs ys : List Entry) (rest : List ℕ) →
    entry_bytes r xs ++ (entry_bytes r ys ++ rest) ≡ entry_bytes r (xs ++ ys) ++ rest
both_fronts r xs ys rest = sym (append_assoc (entry_bytes r xs) (entry_bytes r ys) rest)
    ∙ ap (λ (c : List ℕ). c ++ rest)
    (sym (flat_map-append (λ (e : Entry). own_bytes (shape r e.ty) e.head) xs ys))

-- nodes in front whose bytes stand in front leave it true that nodes spell what was read
after_bytes : (r : List TypeInfo) (b c : List ℕ) (xs : List Entry) (y : Reported) →
    b ≡ entry_bytes r xs ++ c → HoldsBytes r c y → HoldsBytes r b (after xs y)
after_bytes r b c xs (reported ys (Ok rest)) is h =
    is ∙ ap (λ (z : List ℕ). entry_bytes r xs ++ z) h
    ∙ both_fronts r xs ys rest
after_bytes r b c xs (reported ys (Err e)) is h = is ∙ ap (λ (z : List ℕ). entry_bytes r xs ++ z) h
    ∙ both_fronts r xs ys e.1

-- of two readings, one after the other, the nodes spell what was read, if those of each do
then_bytes : (r : List TypeInfo) (b : List ℕ) (y : Reported) (f : List ℕ → Reported) → AreBytes b →
    HoldsBytes r b y → ((c : List ℕ) → AreBytes c → HoldsBytes r c (f c)) →
    HoldsBytes r b (then y f)
then_bytes r b (reported xs (Err e)) f are h k = h
then_bytes r b (reported xs (Ok rest)) f are h k =
    after_bytes r b rest xs (f rest) h
    (k rest (rest_bytes (entry_bytes r xs) rest (subst AreBytes h are)))

abbrev ChildReports : List TypeInfo → (ℕ → List ℕ → Reported) → Type 0
ChildReports r child = (t : ℕ) (b : List ℕ) → AreBytes b → HoldsBytes r b (child t b)

-- values of these types have nodes that spell what was read, if each value has
all_bytes : (r : List TypeInfo) (child : ℕ → List ℕ → Reported) → ChildReports r child →
    (ts b : List ℕ) →
    AreBytes b → HoldsBytes r b (all_reported child ts b)
all_bytes r child h [] b are = refl
all_bytes r child h (t ∷ ts) b are =
    then_bytes r b (child t b) (all_reported child ts) are (h t b are) (all_bytes r child h ts)

-- the same for values of one type
times_bytes : (r : List TypeInfo) (child : ℕ → List ℕ → Reported) → ChildReports r child →
    (n t : ℕ) (b : List ℕ) → AreBytes b → HoldsBytes r b (times_reported child n t b)
times_bytes r child h zero t b are = refl
times_bytes r child h (suc n) t b are =
    then_bytes r b (child t b) (times_reported child n t) are (h t b are)
    (times_bytes r child h n t)

-- the same for the parts that a node opens, if it opens any
opened_bytes : (r : List TypeInfo) (child : ℕ → List ℕ → Reported) → ChildReports r child →
    (p : Option Part) (b : List ℕ) → AreBytes b → HoldsBytes r b (opened_reported child p b)
opened_bytes r child h None b are = refl
opened_bytes r child h (Some (each ts)) b are = all_bytes r child h ts b are
opened_bytes r child h (Some (times n t)) b are = times_bytes r child h n t b are

-- ---- a node's own bytes

-- those before the rest are the node's
abbrev OwnReports : List TypeInfo → ℕ → List ℕ → Own → Type 0
OwnReports r t b (Ok x) = b ≡ own_bytes (shape r t) x.0.0 ++ x.1
OwnReports r t b (Err e) = Unit {0}

-- what a node's own bytes open spells them
opened_reports : (r : List TypeInfo) (t : ℕ) (b : List ℕ) (o : Own) → AreBytes b →
    IsOpened r t b o → OwnReports r t b o
opened_reports r t b (Err e) are k = tt
opened_reports r t b (Ok ((head.leaf l, None), rest)) are k =
    let front = front_bytes k.0 rest (subst AreBytes k.2 are) in
    k.2 ∙ ap (λ (c : List ℕ). c ++ rest)
    (sym (encoded_is_value r t (tree.leaf l) k.0 front k.1) ∙ append-nil _)
opened_reports r t b (Ok ((head.leaf l, Some p), rest)) are k = absurd k
opened_reports r t b (Ok ((head.branch kind n, None), rest)) are k = absurd k
opened_reports r t b (Ok ((head.branch kind n, Some p), rest)) are k =
    k.4 ∙ ap (λ (c : List ℕ). c ++ rest) (sym (rw k.3 (branch_own r t kind k.0 p k.2)))

-- a node's own bytes and then its parts: all nodes spell what was read, if those of parts do
own_bytes_reported : (r : List TypeInfo) (child : ℕ → List ℕ → Reported) → ChildReports r child →
    (t : ℕ) (b : List ℕ) (read : Own) → AreBytes b → OwnReports r t b read →
    HoldsBytes r b (own_reported child t b read)
own_bytes_reported r child h t b (Err e) are k = refl
own_bytes_reported r child h t b (Ok x) are k =
    let rest = rest_bytes (own_bytes (shape r t) x.0.0) x.1 (subst AreBytes k are) in
    let front : b ≡ entry_bytes r (entry t x.0.0 ∷ []) ++ x.1 = k
    ∙ ap (λ (c : List ℕ). c ++ x.1) (sym (append-nil (own_bytes (shape r t) x.0.0))) in
    after_bytes r b x.1 (entry t x.0.0 ∷ []) (opened_reported child x.0.1 x.1) front
    (opened_bytes r child h x.0.1 x.1 rest)

-- ---- a value

-- the nodes that a reading adds spell the bytes before where it ends
pub reported_spells : (r : List TypeInfo) (room t : ℕ) (b : List ℕ) → AreBytes b →
    HoldsBytes r b (reported_at r room t b)
unfolding reported_at
reported_spells r zero t b are = refl
reported_spells r (suc room) t b are =
    own_bytes_reported r (reported_at r room) (reported_spells r room) t b
    (own_at (met_layout r t) b) are
    (opened_reports r t b (own_at (met_layout r t) b) are (own_opened r t (met_layout r t) b refl))
