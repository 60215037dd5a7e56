-- Records that were added one after the other, and the tree that their nodes are.
use Rattle.std.proofs.Common.{◌≡◌, ℕ, zero, suc, ◌+◌, ◌<◌, ◌⊎◌, Bool, true, false, List, [], ◌∷◌}
use Rattle.std.proofs.Common.{◌++◌}
use Rattle.std.proofs.Common.{length, take, get_or, map, Option, Some, None, Ok, Err, refl, sym, ap}
use Rattle.std.proofs.Common.{◌∙◌}
use Rattle.std.proofs.Common.{append-nil, append_assoc, arith, add-one, subst, inl, inr}
use Rattle.std.specs.Prelude.{Result, ◌==◌, if◌then◌else◌}
use Rattle.std.proofs.lemmas.Bool.{eqb-true}
use Rattle.std.proofs.lemmas.List.{map-append, length-map}
use Rattle.growth_core.specs.Evidence.{evidence}
use Rattle.types_core.specs.declared.definition.Arm.{Arm}
use Rattle.types_core.specs.declared.definition.Field.{Field}
use Rattle.types_core.specs.declared.type_info.TypeInfo.{TypeInfo}
use Rattle.graph_core.specs.Types.{field_types}
use Rattle.grammar_core.specs.Cells.{fields_part}
use Rattle.grammar_core.specs.Parts.{how_many_left}
use Rattle.grammar_core.specs.Preorder as head
use Rattle.grammar_core.specs.Preorder.{Head, tree_of}
use Rattle.grammar_core.specs.Spelled.{index_of}
use Rattle.grammar_core.specs.Tree as tree
use Rattle.grammar_core.specs.declared.form.Form.{Form}
use Rattle.grammar_core.specs.declared.form.Form.TheVariants as form
use Rattle.node_core.specs.Shown.{Seen}
use Rattle.value_core.specs.Built.{Built, arm_in, finished, next_layout, with_found}
use Rattle.grammar_core.specs.Preorder.{Entry}
use Rattle.value_core.specs.Built.{with_index}
use Rattle.value_core.specs.Opened.{next_shape}
use Rattle.value_core.specs.Refusals.{Adds, Finishes, Opens, in_range, indexed_fault, is_complete}
use Rattle.value_core.specs.Refusals.{placed_fault, suits_arm_at}
use Rattle.value_core.specs.Refusals.{suits_fields_of, wanted_of}
use Rattle.value_core.specs.declared.build_fault.BuildFault.{BuildFault}
use Rattle.value_core.specs.declared.build_fault.BuildFault.TheVariants as fault
use Rattle.record_core.specs.Records.{record_head, tree_read}
use Rattle.record_core.specs.Replayed.{ReadsRecords, ended, ended_at, earlier_fault, has_only_own}
use Rattle.record_core.specs.Replayed.{judged_node}
use Rattle.record_core.specs.Replayed.{own_fault, record_fault, replay, start_with}
use Rattle.record_core.specs.Replayed.{fault_or_later, with_node, with_record}
use Rattle.record_core.specs.declared.record.Record.{Record}
use Rattle.record_core.specs.declared.replaying.RecordFault.TheVariants as records

-- ---- one record after the other

-- where the first record passed, no fault was its own, and the rest gave what all gave
passed : (o : Option BuildFault) (x : Result Built (ℕ × BuildFault)) (b : Built) →
    fault_or_later o x ≡ Ok b → (o ≡ None) × (x ≡ Ok b)
passed None (Ok c) b e = (refl, e)
passed None (Err x) b e = absurd cc
passed (Some f) x b e = absurd cc

-- after records that passed, one more passes if it has no fault
next_by : (types : List TypeInfo) (pool : List ℕ) (rs : List Record) (b0 b : Built) (i : ℕ)
    (d : Record) →
    replay types pool (take i rs) b0 ≡ Ok b → i < length rs →
    record_fault types pool (get_or rs i d) b ≡ None →
    replay types pool (take (suc i) rs) b0 ≡ Ok (with_record types pool (get_or rs i d) b)
next_by types pool [] b0 b i d e h sound = absurd (omega arith)
next_by types pool (r ∷ rs) b0 b zero d e h sound =
    let same : b0 ≡ b = cc in
    let none : record_fault types pool r b0 ≡ None = ap (record_fault types pool r) same ∙ sound in
    rw none (ap (λ (c : Built). Ok (with_record types pool r c)) same)
next_by types pool (r ∷ rs) b0 b (suc i) d e h sound =
    let first = passed (record_fault types pool r b0)
    (replay types pool (take i rs) (with_record types pool r b0)) b e
    in
    let later = next_by types pool rs (with_record types pool r b0) b i d first.1 (omega arith)
    sound
    in
    rw (first.0, later) refl

-- the same, with the next position written as a sum
pub replay_next : (types : List TypeInfo) (pool : List ℕ) (rs : List Record) (b0 b : Built) (i : ℕ)
    (d : Record) →
    replay types pool (take i rs) b0 ≡ Ok b → i < length rs →
    record_fault types pool (get_or rs i d) b ≡ None →
    replay types pool (take (i + 1) rs) b0 ≡ Ok (with_record types pool (get_or rs i d) b)
replay_next types pool rs b0 b i d e h sound =
    ap (λ (n : ℕ). replay types pool (take n rs) b0) (add-one i)
    ∙ next_by types pool rs b0 b i d e h sound

-- after records that passed, one with a fault is where all stop
pub replay_stop : (types : List TypeInfo) (pool : List ℕ) (rs : List Record) (b0 b : Built) (i : ℕ)
    (d : Record) (f : BuildFault) → replay types pool (take i rs) b0 ≡ Ok b → i < length rs →
    record_fault types pool (get_or rs i d) b ≡ Some f → replay types pool rs b0 ≡ Err (i, f)
replay_stop types pool [] b0 b i d f e h stop = absurd (omega arith)
replay_stop types pool (r ∷ rs) b0 b zero d f e h stop =
    let same : b0 ≡ b = cc in
    let some : record_fault types pool r b0 ≡ Some f = ap (record_fault types pool r) same ∙ stop in
    rw some refl
replay_stop types pool (r ∷ rs) b0 b (suc i) d f e h stop =
    let first = passed (record_fault types pool r b0)
    (replay types pool (take i rs) (with_record types pool r b0)) b e
    in
    let later = replay_stop types pool rs (with_record types pool r b0) b i d f first.1
    (omega arith) stop
    in
    rw (first.0, later) refl

-- ---- what a call of the builder did

-- where a call succeeded, there was no fault, and the node is there
pub added : (o : Option BuildFault) (w old new : Built) (r : Result (Unit {0}) BuildFault) →
    Adds o w old new r → ((e : BuildFault) → r ≡ Err e → ⊥) → (o ≡ None) × (new ≡ w)
added None w old new (Ok u) h ok = (refl, h)
added None w old new (Err e) h ok = absurd (ok e refl)
added (Some f) w old new (Ok u) h ok = absurd h
added (Some f) w old new (Err e) h ok = absurd (ok e refl)

-- where it failed, that was the fault, or an allocation failed
pub failed : (o : Option BuildFault) (w old new : Built) (e : BuildFault) →
    Adds o w old new (Err e) → (o ≡ Some e) ⊎ (e ≡ fault.OutOfMemory evidence)
failed None w old new e h = inr h.0
failed (Some f) w old new e h = inl (ap Some (sym h.0))

-- where a builder was created, nothing forbade it, and it is the empty one
pub opened : (o : Option BuildFault) (first b : Built) → Opens o first (Ok b) → (o ≡ None)
    × (b ≡ first)
opened None first b h = (refl, h)
opened (Some f) first b h = absurd h

-- a record that is rejected is reported, and so is a failed allocation
pub stopped : (o : Option BuildFault) (x : Result Seen (ℕ × BuildFault)) (at : ℕ) (e : BuildFault) →
    o ≡ None → (x ≡ Err (at, e)) ⊎ (e ≡ fault.OutOfMemory evidence) →
    ReadsRecords o x (Err (records.Record at e))
stopped None x at e none h = h
stopped (Some f) x at e none h = absurd cc

-- the end of the records: the value, or that a node is missing
pub whole : (o : Option BuildFault) (n : ℕ) (b : Built) (v : Seen) → o ≡ None →
    Finishes (is_complete b) (finished b) b (Ok v) → ReadsRecords o (ended n (Ok b)) (Ok v)
whole None n b v none h = by (is_complete b) h where
  by : (yes : Bool) → Finishes yes (finished b) b (Ok v) →
      ended_at n yes b ≡ Ok v
  by true h = ap Ok (sym h)
  by false h = absurd h
whole (Some f) n b v none h = absurd cc

-- where the builder says that a node is missing, that is reported after the last record
pub missing : (o : Option BuildFault) (n : ℕ) (b : Built) (e : BuildFault × Built) → o ≡ None →
    Finishes (is_complete b) (finished b) b (Err e) →
    ReadsRecords o (ended n (Ok b)) (Err (records.Record n e.0))
missing None n b e none h = by (is_complete b) h where
  by : (yes : Bool) → Finishes yes (finished b) b (Err e) →
      (ended_at n yes b ≡ Err (n, e.0))
      ⊎ (e.0 ≡ fault.OutOfMemory evidence)
  by true h = absurd h
  by false h = inl (ap (λ (f : BuildFault). Err (n, f)) (sym h.0))
missing (Some f) n b e none h = absurd cc

-- ---- the nodes that are added

abbrev heads : Built → List Head
heads b = map (λ (e : Entry). e.head) b.entries

-- a value with one node more
record HasNode (old new : Built) (h : Head) : Type 0 where
  pub shows : heads new ≡ heads old ++ h ∷ []
  pub types : new.walk.types ≡ old.walk.types
  pub ty : new.ty ≡ old.ty

-- a node was added at the end
one_more : (es : List Entry) (e : Entry) → map (λ (x : Entry). x.head) (es ++ e ∷ [])
    ≡ map (λ (x : Entry). x.head) es ++ e.head ∷ []
one_more es e = map-append (λ (x : Entry). x.head) es (e ∷ [])

-- what is not out of range holds
in_range_is : (p : Bool) → in_range p ≡ None → p ≡ true
in_range_is true e = refl
in_range_is false e = absurd cc

-- where a builder does not reject a node, the form that it wants suits it
suited : (suits : Form → Option BuildFault) (w : Result Form BuildFault) →
    ◌≡◌ {A = Option BuildFault} (elim w [ Ok f ↦ suits f | Err e ↦ Some e ]) None →
    (f : Form) × (suits f ≡ None)
suited suits (Ok f) e = (f, e)
suited suits (Err x) e = absurd cc

-- where so many fields are not rejected, the next type has as many
fields_suit : (b : Built) (n : ℕ) (f : Form) → suits_fields_of b n f ≡ None →
    how_many_left (fields_part (next_layout b)) ≡ n
fields_suit b n form.Fields e =
    eqb-true (how_many_left (fields_part (next_layout b))) n (in_range_is _ e)
fields_suit b n _ e = absurd cc

-- where an arm is not rejected, its place and its number of fields are not
arm_suits : (o : Option BuildFault) (f : Form) → suits_arm_at o f ≡ None → o ≡ None
arm_suits o form.Arm e = e
arm_suits o _ e = absurd cc

-- the types of fields are as many as the fields
field_count : (fs : List Field) → length (field_types fs) ≡ length fs
field_count fs = length-map fs _

-- the arm at a position with so many fields is added
found_node : (b : Built) (q n : ℕ) (found : Option (ℕ × Arm)) → placed_fault q n found ≡ None →
    HasNode b (with_found b found) (head.branch (tree.arm q) n)
found_node b q n None e = absurd cc
found_node b q n (Some x) e = by (x.0 == q) refl e where
  by : (same : Bool) → (x.0 == q) ≡ same →
      (if same then in_range (length x.1.fields == n) else Some fault.NoSuchVariant) ≡ None →
      HasNode b (with_found b (Some x)) (head.branch (tree.arm q) n)
  by false s e = absurd cc
  by true s e =
      let place : x.0 ≡ q = eqb-true x.0 q s in
      let count : length (field_types x.1.fields) ≡ n =
      field_count x.1.fields ∙ eqb-true (length x.1.fields) n (in_range_is _ e) in
      record {
        shows = one_more b.entries _
            ∙ ap (λ (h : Head). heads b ++ h ∷ [])
            (ap (λ (k : ℕ). head.branch (tree.arm k) (length (field_types x.1.fields))) place
            ∙ ap (head.branch (tree.arm q)) count);
        types = refl;
        ty = refl;
      }

-- the same of the index of the arm
index_node : (b : Built) (q n : ℕ) (index : Option ℕ) → indexed_fault b q n index ≡ None →
    HasNode b (with_index b index) (head.branch (tree.arm q) n)
index_node b q n None e = absurd cc
index_node b q n (Some i) e = found_node b q n (arm_in (next_layout b) i) e

-- a node that the builder does not reject is added at the end
node_added : (h : Head) (b : Built) → judged_node h b ≡ None → HasNode b (with_node h b) h
node_added (head.leaf l) b e = record { shows = one_more b.entries _; types = refl; ty = refl }
node_added (head.branch tree.fields n) b e =
    let f = suited (suits_fields_of b n) (wanted_of b) e in record {
      shows = one_more b.entries _
          ∙ ap (λ (k : ℕ). heads b ++ head.branch tree.fields k ∷ []) (fields_suit b n f.0 f.1);
      types = refl;
      ty = refl;
    }
node_added (head.branch (tree.arm q) n) b e =
    let index = index_of (next_shape b.walk) q in
    let f = suited (suits_arm_at (indexed_fault b q n index)) (wanted_of b) e in
    index_node b q n index (arm_suits (indexed_fault b q n index) f.0 f.1)
node_added (head.branch tree.list n) b e =
    record { shows = one_more b.entries _; types = refl; ty = refl }

-- a record without fault of its own is judged as its node
second : (o p : Option BuildFault) → earlier_fault o p ≡ None → p ≡ None
second None p e = e
second (Some f) p e = absurd cc

-- the nodes of a value that records were added to are those that were there and theirs
pub record ShowsAll (old new : Built) (hs : List Head) : Type 0 where
  pub shows : heads new ≡ heads old ++ hs
  pub types : new.walk.types ≡ old.walk.types
  pub ty : new.ty ≡ old.ty

-- where all records passed, the nodes are theirs
all_shown : (types : List TypeInfo) (pool : List ℕ) (rs : List Record) (b0 b : Built) →
    replay types pool rs b0 ≡ Ok b →
    ShowsAll b0 b (map (record_head types pool) rs)
all_shown types pool [] b0 b e =
    let same : b0 ≡ b = cc in
    subst (λ (c : Built). ShowsAll b0 c []) same
    (record { shows = sym (append-nil (heads b0)); types = refl; ty = refl })
all_shown types pool (r ∷ rs) b0 b e =
    let first = passed (record_fault types pool r b0)
    (replay types pool rs (with_record types pool r b0)) b e
    in
    let one = node_added (record_head types pool r) b0
    (second (own_fault types pool r) _ (second (in_range (has_only_own r)) _ first.0)) in
    let more = all_shown types pool rs (with_record types pool r b0) b first.1 in
    record {
      shows = more.shows ∙ ap (λ (hs : List Head). hs ++ map (record_head types pool) rs) one.shows
          ∙ append_assoc (heads b0) (record_head types pool r ∷ [])
          (map (record_head types pool) rs);
      types = more.types ∙ one.types;
      ty = more.ty ∙ one.ty;
    }

-- the value that is finished after all records is the tree that they are
pub tree_is : (types : List TypeInfo) (pool : List ℕ) (rs : List Record) (root depth : ℕ)
    (b : Built) (v : Seen) → replay types pool rs (start_with types root depth) ≡ Ok b →
    Finishes (is_complete b) (finished b) b (Ok v) →
    v ≡ record { types = types; ty = root; tree = tree_read types pool rs }
tree_is types pool rs root depth b v e h =
    let all = all_shown types pool rs (start_with types root depth) b e in
    given (is_complete b) h ∙ rw (all.shows, all.types, all.ty) refl
  where
    given : (yes : Bool) → Finishes yes (finished b) b (Ok v) → v ≡ finished b
    given true h = h
    given false h = absurd h
