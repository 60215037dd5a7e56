-- What was added before a fault is a begun tree.
use Rattle.std.proofs.Common.{◌≡◌, ℕ, zero, suc, ◌≤◌, true, List, [], ◌∷◌, ◌++◌, Some, None, Ok}
use Rattle.std.proofs.Common.{Err, refl, sym, ap, ◌∙◌, append_assoc, arith}
use Rattle.types_core.specs.declared.type_info.TypeInfo.{TypeInfo}
use Rattle.grammar_core.specs.Tree.{Branch, Tree, Trees, none, and, levels, most_levels}
use Rattle.grammar_core.specs.Preorder.{Head, preorder, all_preorder}
use Rattle.grammar_core.specs.Preorder as head
use Rattle.grammar_core.specs.Grammar.{Val}
use Rattle.grammar_core.specs.Parts.{Part, each, times, first_of, left_after, how_many_left}
use Rattle.grammar_core.specs.Reading.{value_at, Refusal}
use Rattle.grammar_core.proofs.Proved.{read_is_value}
use Rattle.grammar_core.specs.Preorder.{Entry}
use Rattle.grammar_core.specs.Reading.{Own}
use Rattle.outcome_core.specs.Reported.{entry, shown, own_at, Ending, Fault, Reported, reported}
use Rattle.outcome_core.specs.Reported.{after, then, all_reported, times_reported, part_reported}
use Rattle.outcome_core.specs.Reported.{own_reported, reported_at}
use Rattle.grammar_core.specs.Begun.{BranchOpens, FirstValues, IsOpenAs, nothing, open_branch}
use Rattle.grammar_core.specs.Begun.{Grows}
use Rattle.outcome_core.specs.Begins.{Begins, FaultIsBegun}
use Rattle.outcome_core.specs.Met.{met_layout}
use Rattle.widths_core.specs.Classes.{is_finite}
use Rattle.widths_core.specs.Layouts.{layout}
use Rattle.outcome_core.proofs.Owns.{IsOpened, own_opened}
use Rattle.outcome_core.proofs.Reports.{shown-append, reported_agrees}
use Rattle.outcome_core.proofs.Fed.{value_of}

-- where the reading ends in a fault, the fact holds of what was added and of the fault
abbrev pub HoldsAtFault : (List Entry → Fault → Type 0) → List Entry → Ending → Type 0
HoldsAtFault P xs (Ok rest) = Unit {0}
HoldsAtFault P xs (Err e) = P xs e

abbrev pub EndsReported : (List Entry → Fault → Type 0) → Reported → Type 0
EndsReported P (reported xs end) = HoldsAtFault P xs end

-- a fact of what was added before a fault carries over where nodes stand in front
after_ends : (P Q : List Entry → Fault → Type 0) (before : List Entry) (y : Reported) →
    EndsReported P y →
    ((xs : List Entry) (e : Fault) → P xs e → Q (before ++ xs) e) → EndsReported Q (after before y)
after_ends P Q before (reported xs (Ok rest)) h f = tt
after_ends P Q before (reported xs (Err e)) h f = f xs e h

-- where it ends well, there is a value
pub record Read_value (r : List TypeInfo) (room t : ℕ) (b : List ℕ) (xs : List Entry)
    (rest : List ℕ) : Type 0 where
  pub v : Tree
  pub c : List ℕ
  pub is : b ≡ c ++ rest
  pub val : Val r t v c
  pub low : levels v ≤ room
  pub shows : shown xs ≡ preorder v

abbrev ReadsOneValue : List TypeInfo → ℕ → ℕ → List ℕ → Reported → Type 0
ReadsOneValue r room t b y = (xs : List Entry) (rest : List ℕ) → y ≡ reported xs (Ok rest) →
    Read_value r room t b xs rest

-- where the reading ends well, its nodes are those of a value on the front of the bytes
reported_value : (r : List TypeInfo) (room t : ℕ) (b : List ℕ) →
    ReadsOneValue r room t b (reported_at r room t b)
reported_value r room t b xs rest is =
    let v = value_of (value_at r room t b) (reported_at r room t b) xs rest
    (reported_agrees r room t b)
    is in
    let st = read_is_value r room t b v.0 rest v.1 in
    record { v = v.0; c = st.0; is = st.1; val = st.2; low = st.3; shows = v.2 }

pub record PartBegins (r : List TypeInfo) (room : ℕ) (p : Part) (b : List ℕ) (xs : List Entry)
    (e : Fault) : Type 0 where
  pub vs : Trees
  pub b1 : List ℕ
  pub left : Part
  pub ty : ℕ
  pub b2 : List ℕ
  pub ys : List Entry
  pub firsts : FirstValues r p vs b1 left
  pub next : first_of left ≡ Some ty
  pub is : b ≡ b1 ++ b2
  pub begins : Begins r room ty b2 ys e
  pub low : most_levels vs ≤ room
  pub shows : shown xs ≡ all_preorder vs ++ shown ys

abbrev ChildBegins : List TypeInfo → ℕ → Type 0
ChildBegins r room = (t : ℕ) (b : List ℕ) →
    EndsReported (Begins r room t b) (reported_at r room t b)

-- the nodes of a value, and then those of others and of a begun tree, are joined in order
shows_more : (xs ys zs : List Entry) (v : Tree) (vs : Trees) → shown xs ≡ preorder v →
    shown ys ≡ all_preorder vs ++ shown zs →
    shown (xs ++ ys) ≡ (preorder v ++ all_preorder vs) ++ shown zs
shows_more xs ys zs v vs h k = shown-append xs ys
    ∙ rw (h, k) (sym (append_assoc (preorder v) (all_preorder vs) (shown zs)))

-- where a value of the next type, or the parts after it, end in a fault, values stand before a part
-- that is begun
then_begins : (r : List TypeInfo) (room : ℕ) (p : Part) (t : ℕ) (b : List ℕ)
    (others : List ℕ → Reported) → first_of p ≡ Some t → ChildBegins r room →
    ((c : List ℕ) → EndsReported (PartBegins r room (left_after p) c) (others c)) →
    EndsReported (PartBegins r room p b) (then (reported_at r room t b) others)
then_begins r room p t b others first h m =
    by (reported_at r room t b) (h t b) (reported_value r room t b) where
      next : (xs : List Entry) (rest : List ℕ) → Read_value r room t b xs rest →
          (ys : List Entry) (e : Fault) → PartBegins r room (left_after p) rest ys e →
          PartBegins r room p b (xs ++ ys) e
      next xs rest k ys e s = record {
        vs = and k.v s.vs;
        b1 = k.c ++ s.b1;
        left = s.left;
        ty = s.ty;
        b2 = s.b2;
        ys = s.ys;
        firsts = (t, k.c, s.b1, first, refl, k.val, s.firsts);
        next = s.next;
        is = rw (k.is, s.is) (sym (append_assoc k.c s.b1 s.b2));
        begins = s.begins;
        low = omega (arith, k.low, s.low);
        shows = shows_more xs ys s.ys k.v s.vs k.shows s.shows;
      }

      by : (y : Reported) → EndsReported (Begins r room t b) y → ReadsOneValue r room t b y →
          EndsReported (PartBegins r room p b) (then y others)
      by (reported xs (Err e)) w k =
          record {
            vs = none;
            b1 = [];
            left = p;
            ty = t;
            b2 = b;
            ys = xs;
            firsts = (refl, refl);
            next = first;
            is = refl;
            begins = w;
            low = omega arith;
            shows = refl;
          }
      by (reported xs (Ok rest)) w k =
          after_ends (PartBegins r room (left_after p) rest) (PartBegins r room p b) xs
          (others rest) (m rest) (next xs rest (k xs rest refl))

-- where parts of these types end in a fault, values stand before a part that is begun
all_begin : (r : List TypeInfo) (room : ℕ) → ChildBegins r room → (ts : List ℕ) (b : List ℕ) →
    EndsReported (PartBegins r room (each ts) b) (all_reported (reported_at r room) ts b)
all_begin r room h [] b = tt
all_begin r room h (t ∷ ts) b =
    then_begins r room (each (t ∷ ts)) t b (all_reported (reported_at r room) ts) refl h
    (all_begin r room h ts)

-- the same for elements of one type, of which fewer came than there are to be
times_begin : (r : List TypeInfo) (room : ℕ) → ChildBegins r room → (n t : ℕ) (b : List ℕ) →
    EndsReported (PartBegins r room (times n t) b) (times_reported (reported_at r room) n t b)
times_begin r room h zero t b = tt
times_begin r room h (suc n) t b =
    then_begins r room (times (suc n) t) t b (times_reported (reported_at r room) n t) refl h
    (times_begin r room h n t)

-- the same for the parts of a node
part_begins : (r : List TypeInfo) (room : ℕ) → ChildBegins r room → (p : Part) (b : List ℕ) →
    EndsReported (PartBegins r room p b) (part_reported (reported_at r room) p b)
part_begins r room h (each ts) b = all_begin r room h ts b
part_begins r room h (times n t) b = times_begin r room h n t b

-- the node itself is not there
bare : (r : List TypeInfo) (room t : ℕ) (b : List ℕ) (e : Refusal × List ℕ) →
    reported_at r room t b ≡ reported [] (Err (e, b)) → Begins r room t b [] (e, b)
unfolding Grows
bare r room t b e h = record {
  tree = nothing;
  own = [];
  next = t;
  below = room;
  part = tt;
  is =
      refl;
  grows = (refl, refl);
  shows = refl;
  meets = h;
}

-- parts that end in a fault are a begun node of theirs, after its own bytes
branch_begins : (r : List TypeInfo) (room t : ℕ) (kind : Branch) (n : ℕ) (c : List ℕ) (p : Part)
    (b rest : List ℕ) → is_finite r t ≡ true → BranchOpens (layout r t) kind c p →
    n ≡ how_many_left p → b ≡ c ++ rest → (xs : List Entry) (e : Fault) →
    PartBegins r room p rest xs e →
    Begins r (suc room) t b (entry t (head.branch kind n) ∷ xs) e
unfolding Grows
branch_begins r room t kind n c p b rest fin opens count is xs e s =
    let h = s.begins in
    let o : IsOpenAs r kind t n s.vs (c ++ s.b1) s.left =
    (p, c, s.b1, opens, count, refl, s.firsts) in
    record {
      tree = open_branch kind n s.vs h.tree;
      own = (c ++ s.b1) ++ h.own;
      next = h.next;
      below = h.below;
      part = tt;
      is = rw (is, s.is, h.is) (simp append_assoc);
      grows = (s.left, s.ty, c ++ s.b1, h.own, fin, o, s.low, s.next, refl, h.part, h.grows);
      shows = ap (λ (ns : List Head). head.branch kind n ∷ ns)
          (s.shows ∙ ap (λ (ns : List Head). all_preorder s.vs ++ ns) h.shows);
      meets = h.meets;
    }

-- by what a node's own bytes open, what was added before a fault is a begun tree
own_begins : (r : List TypeInfo) (room t : ℕ) → ChildBegins r room → (b : List ℕ) (o : Own) →
    IsOpened r t b o →
    reported_at r (suc room) t b ≡ own_reported (reported_at r room) t b o →
    EndsReported (Begins r (suc room) t b) (own_reported (reported_at r room) t b o)
own_begins r room t h b (Err e) k is = bare r (suc room) t b e is
own_begins r room t h b (Ok ((head.leaf l, None), rest)) k is = tt
own_begins r room t h b (Ok ((head.leaf l, Some p), rest)) k is = absurd k
own_begins r room t h b (Ok ((head.branch kind n, None), rest)) k is = absurd k
own_begins r room t h b (Ok ((head.branch kind n, Some p), rest)) k is =
    after_ends (PartBegins r room p rest) (Begins r (suc room) t b)
    (entry t (head.branch kind n) ∷ []) (part_reported (reported_at r room) p rest)
    (part_begins r room h p rest) (branch_begins r room t kind n k.0 p b rest k.1 k.2 k.3 k.4)

-- what was added before a fault is a begun tree, at every depth
reported_begins : (r : List TypeInfo) (room t : ℕ) (b : List ℕ) →
    EndsReported (Begins r room t b) (reported_at r room t b)
unfolding reported_at
reported_begins r zero t b = bare r zero t b _ refl
reported_begins r (suc room) t b =
    own_begins r room t (λ u c. reported_begins r room u c) b (own_at (met_layout r t) b)
    (own_opened r t (met_layout r t) b refl) refl

-- the same for nodes and a fault that are known to be what the reading reports
begins_of : (r : List TypeInfo) (room t : ℕ) (b : List ℕ) (xs : List Entry) (e : Fault)
    (y : Reported) →
    EndsReported (Begins r room t b) y → y ≡ reported xs (Err e) → Begins r room t b xs e
begins_of r room t b xs e y h is = (rw is at h)

-- what was added before a fault is a begun tree whose missing node fails on what is left
pub fault_is_begun : FaultIsBegun
fault_is_begun r room t b xs e is =
    begins_of r room t b xs e (reported_at r room t b) (reported_begins r room t b) is
