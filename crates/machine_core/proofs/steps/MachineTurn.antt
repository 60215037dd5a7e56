-- Adding a node to a value that is built is a turn of the machine, and the closing of what is
-- whole.
use Rattle.std.proofs.Common.{◌≡◌, ℕ, zero, suc, ◌+◌, ◌-◌, ◌≤◌, true, List, [], ◌∷◌, ◌++◌, length}
use Rattle.std.proofs.Common.{map, Option, Some, None, Ok, refl, sym, ap, subst, ◌∙◌, arith}
use Rattle.std.proofs.lemmas.List.{length-map}
use Rattle.types_core.specs.declared.type_info.TypeInfo.{TypeInfo}
use Rattle.widths_core.specs.Classes.{is_finite}
use Rattle.widths_core.specs.Layouts.{Layout, layout}
use Rattle.value_core.specs.Built.{Built, next_layout, settled_in, settled, with_leaf, with_open}
use Rattle.value_core.specs.Built.{type_or_0}
use Rattle.grammar_core.specs.Parts.{Part, each, times, first_of, left_after}
use Rattle.grammar_core.specs.Preorder.{Head}
use Rattle.value_core.specs.Walked.{OpenPart, first_in, next_type, next_of, advanced_in}
use Rattle.grammar_core.specs.declared.form.Form.{Form}
use Rattle.grammar_core.specs.declared.form.Next.TheVariants as next
use Rattle.value_core.proofs.Forms.{wanted}
use Rattle.value_core.proofs.Closing.{advanced_length}
use Rattle.outcome_core.specs.Met.{met_layout}
use Rattle.machine_core.specs.NodeAdds.{IsAdded, with_own}
use Rattle.machine_core.specs.Running.{state_of}
use Rattle.outcome_core.specs.Reported.{entry, own_at, reported, after, part_reported, reported_at}
use Rattle.outcome_core.specs.Reported.{rest_reported}
use Rattle.outcome_core.specs.Machine.{TurnLeads}
use Rattle.outcome_core.proofs.Owns.{own_extends, SpellsNode}
use Rattle.outcome_core.proofs.Reports.{after-nil}
use Rattle.outcome_core.proofs.MachineTurns.{IsFirstOf, each_first, times_first, own_leaf}
use Rattle.outcome_core.proofs.MachineTurns.{own_opens}

-- what is next: the innermost open part, its next type, and the levels left below it
pub record AtNext (b : Built) : Type 0 where
  pub ty : ℕ
  pub top : OpenPart
  pub around : List OpenPart
  pub room : ℕ
  pub frames : b.walk.frames ≡ top ∷ around
  pub first : first_of top.left ≡ Some ty
  pub rooms : b.walk.limit + 2 - length b.walk.frames ≡ suc room
  pub bound : length b.walk.frames ≤ b.walk.limit + 1
  pub laid : met_layout b.walk.types ty ≡ next_layout b
  pub next_is : next_type b.walk ≡ Some ty

-- where a type is next, the innermost open part is there, and the type is its first
pub top_of : (fs : List OpenPart) (t : ℕ) → first_in fs ≡ Some t → (f : OpenPart)
    × (rest : List OpenPart) × (fs ≡ f ∷ rest) × (first_of f.left ≡ Some t)
top_of [] t h = absurd cc
top_of (f ∷ fs) t h = (f, fs, refl, h)

-- a finite type is met with its own layout
met_is_laid : (r : List TypeInfo) (t : ℕ) → is_finite r t ≡ true → met_layout r t ≡ layout r t
unfolding met_layout
met_is_laid r t h = rw h refl

-- where a form is wanted, the next type, its room and its layout are known
pub at_next : (b : Built) (f : Form) → next_of b.walk ≡ next.Wants f → AtNext b
at_next b f h =
    let w = wanted b.walk f h in
    let top = top_of b.walk.frames w.ty w.is_next in
    record {
      ty = w.ty;
      top = top.0;
      around = top.1;
      room = b.walk.limit + 1 - length b.walk.frames;
      frames = top.2;
      first = top.3;
      rooms = omega (arith, w.room);
      bound = w.room;
      laid = met_is_laid b.walk.types w.ty w.finite
          ∙ ap (λ (o : Option ℕ). layout b.walk.types (type_or_0 o)) (sym w.is_next);
      next_is = w.is_next;
    }

-- what is first of the pending parts is the first of the innermost, and then what it leaves
pub first_is : (r : List TypeInfo) (room t : ℕ) (p : Part) (ps : List Part) → first_of p ≡ Some t →
    IsFirstOf r room t (p ∷ ps) (left_after p ∷ ps)
first_is r room t (each []) ps h = absurd cc
first_is r room t (each (u ∷ us)) ps h = let same : u ≡ t = cc in
    subst (λ (v : ℕ). IsFirstOf r room v (each (u ∷ us) ∷ ps) (each us ∷ ps)) same
    (each_first r room u us ps)
first_is r room t (times zero u) ps h = absurd cc
first_is r room t (times (suc n) u) ps h = let same : u ≡ t = cc in
    subst (λ (v : ℕ). IsFirstOf r room v (times (suc n) u ∷ ps) (times n u ∷ ps)) same
    (times_first r room n u ps)

abbrev pub open_parts : List OpenPart → List Part
open_parts fs = map (λ f. f.left) fs

-- ---- the closing of what is whole

-- a part that has nothing left reads nothing
part_whole : (r : List TypeInfo) (room : ℕ) (p : Part) (b : List ℕ) → first_of p ≡ None →
    part_reported (reported_at r room) p b ≡ reported [] (Ok b)
part_whole r room (each []) b h = refl
part_whole r room (each (t ∷ ts)) b h = absurd cc
part_whole r room (times zero t) b h = refl
part_whole r room (times (suc n) t) b h = absurd cc

-- a pending part that has nothing left may be dropped
pub whole_reported : (r : List TypeInfo) (room : ℕ) (p : Part) (ps : List Part) (b : List ℕ) →
    first_of p ≡ None → rest_reported r room (p ∷ ps) b ≡ rest_reported r (suc room) ps b
unfolding rest_reported
whole_reported r room p ps b h =
    rw (part_whole r room p b h) (after-nil (rest_reported r (suc room) ps b))

-- with room for so many parts at most
pub record SettlesInRoom (r : List TypeInfo) (all : ℕ) (fs gs : List OpenPart) : Type 0 where
  pub reports : (b : List ℕ) →
      rest_reported r (all - length fs) (map (λ f. f.left) fs) b ≡ rest_reported r (all - length gs)
      (map (λ f. f.left) gs) b
  pub fewer : length gs ≤ length fs

-- closing a part that has nothing left, before closing others, keeps what is still read
settle_on : (r : List TypeInfo) (all : ℕ) (f g : OpenPart) (fs hs : List OpenPart) →
    suc (suc (length fs)) ≤ all → first_of f.left ≡ None → SettlesInRoom r all (g ∷ fs) hs →
    SettlesInRoom r all (f ∷ g ∷ fs) hs
settle_on r all f g fs hs le h s = record {
  reports = λ b. whole_reported r (all - suc (suc (length fs))) f.left
      (g.left ∷ map (λ f. f.left) fs) b h
      ∙ ap (λ (k : ℕ). rest_reported r k (g.left ∷ map (λ f. f.left) fs) b)
      (one_more all (length fs) le) ∙ s.reports b;
  fewer = omega (arith, s.fewer);
} where
  one_more : (all n : ℕ) → suc (suc n) ≤ all → suc (all - suc (suc n)) ≡ all - suc n
  one_more all n h = omega (arith, h)

-- closing what is whole keeps what is still read, if it does around the innermost part
settle_by : (r : List TypeInfo) (all : ℕ) (f g : OpenPart) (fs : List OpenPart) →
    suc (suc (length fs)) ≤ all → SettlesInRoom r all (g ∷ fs) (settled_in (g ∷ fs)) →
    (o : Option ℕ) →
    first_of f.left ≡ o → SettlesInRoom r all (f ∷ g ∷ fs)
    (elim o [ Some t ↦ f ∷ g ∷ fs | None ↦ settled_in (g ∷ fs) ])
settle_by r all f g fs le s (Some t) e = record { reports = λ b. refl; fewer = omega arith }
settle_by r all f g fs le s None e = settle_on r all f g fs (settled_in (g ∷ fs)) le e s

-- closing what is whole keeps what is still read, and leaves no more open
pub settles : (r : List TypeInfo) (all : ℕ) (fs : List OpenPart) → length fs ≤ all →
    SettlesInRoom r all fs (settled_in fs)
settles r all [] le = record { reports = λ b. refl; fewer = omega arith }
settles r all (f ∷ []) le = record { reports = λ b. refl; fewer = omega arith }
settles r all (f ∷ g ∷ fs) le =
    settle_by r all f g fs le (settles r all (g ∷ fs) (omega (arith, le))) (first_of f.left) refl

-- a turn of the machine, and then the closing
pub leads_settled : (b s : Built) (own : List ℕ) → s.walk.types ≡ b.walk.types →
    length s.walk.frames ≤ s.walk.limit + 2 → TurnLeads b.walk.types (state_of b) (state_of s) own →
    TurnLeads b.walk.types (state_of b) (state_of (settled s)) own
leads_settled b s own same le h =
    let c = settles b.walk.types (s.walk.limit + 2) s.walk.frames le in
    let old = length-map s.walk.frames (λ (f : OpenPart). f.left) in
    let new = length-map (settled_in s.walk.frames) (λ (f : OpenPart). f.left) in
    record {
      reports = λ more. h.reports more ∙ ap (after s.entries) (c.reports more);
      level = omega (arith, h.level, c.fewer, old, new, le);
      paid = omega (arith, h.paid, c.fewer, old, new);
    }

-- ---- a node that is added

-- the parts that are left after the next node
parts_after : (b : Built) (n : AtNext b) →
    open_parts (advanced_in b.walk.frames) ≡ left_after n.top.left ∷ open_parts n.around
parts_after b n = rw n.frames refl

-- the pending parts are what the innermost has left and then those around it
pub parts_are : (b : Built) (n : AtNext b) →
    open_parts b.walk.frames ≡ n.top.left ∷ open_parts n.around
parts_are b n = rw n.frames refl

-- the machine's state, spelled out
pub state_is : (b : Built) (n : AtNext b) →
    state_of b ≡ record {
      nodes = b.entries;
      room = suc n.room;
      pending =
          n.top.left ∷ open_parts n.around;
    }
state_is b n = rw (n.rooms, parts_are b n) refl

-- own bytes that leave nothing spell the node of the next type, whatever follows them
spells : (b : Built) (n : AtNext b) (own : List ℕ) (x : Head × Option Part) →
    own_at (next_layout b) own ≡ Ok (x, []) → SpellsNode b.walk.types n.ty x own
spells b n own x h more =
    let here : own_at (met_layout b.walk.types n.ty) own ≡ Ok (x, []) =
    ap (λ (f : Layout). own_at f own) n.laid ∙ h in
    (rw here at (own_extends (met_layout b.walk.types n.ty) own more))

-- the entry of the next node has the type that the walk says is next
entry_is : (b : Built) (n : AtNext b) (h : Head) →
    entry n.ty h ≡ entry (type_or_0 (next_type b.walk)) h
entry_is b n h = ap (λ (o : Option ℕ). entry (type_or_0 o) h) (sym n.next_is)

-- to add a node without children is a turn of the machine by its own bytes
leaf_leads : (b : Built) (n : AtNext b) (own : List ℕ) (h : Head) →
    own_at (next_layout b) own ≡ Ok ((h, None), []) →
    TurnLeads b.walk.types (state_of b) (state_of (with_leaf b h)) own
leaf_leads b n own h is =
    let before : Built = record {
      ty = b.ty;
      walk =
          record { types = b.walk.types; limit = b.walk.limit; frames = advanced_in b.walk.frames };
      entries = b.entries ++ entry (type_or_0 (next_type b.walk)) h ∷ [];
      run = b.run;
      turns =
          b.turns;
    } in
    let rooms : b.walk.limit + 2 - length (advanced_in b.walk.frames) ≡ suc n.room =
    ap (λ (k : ℕ). b.walk.limit + 2 - k) (advanced_length b.walk.frames) ∙ n.rooms in
    let after_is : state_of before
    ≡ record {
      nodes = b.entries ++ entry n.ty h ∷ [];
      room = suc n.room;
      pending =
          left_after n.top.left ∷ open_parts n.around;
    } =
    rw (rooms, parts_after b n, entry_is b n h) refl in
    let one = own_leaf b.walk.types b.entries n.room n.ty (n.top.left ∷ open_parts n.around)
    (left_after n.top.left ∷ open_parts n.around) h own
    (first_is b.walk.types (suc n.room) n.ty n.top.left (open_parts n.around) n.first) refl
    (spells b n own (h, None) is) in
    leads_settled b before own refl (omega (arith, advanced_length b.walk.frames, n.bound))
    (rw (state_is b n, after_is) one)

-- to add a node that opens parts is a turn of the machine by its own bytes
open_leads : (b : Built) (n : AtNext b) (own : List ℕ) (h : Head) (p : Part) →
    own_at (next_layout b) own ≡ Ok ((h, Some p), []) →
    TurnLeads b.walk.types (state_of b) (state_of (with_open b h p)) own
open_leads b n own h p is =
    let opened_part : OpenPart = record { node = length b.entries; left = p } in
    let before : Built = record {
      ty = b.ty;
      walk =
          record {
            types = b.walk.types;
            limit = b.walk.limit;
            frames =
                opened_part ∷ advanced_in b.walk.frames;
          };
      entries =
          b.entries ++ entry (type_or_0 (next_type b.walk)) h ∷ [];
      run = b.run;
      turns =
          b.turns;
    } in
    let rooms : b.walk.limit + 2 - suc (length (advanced_in b.walk.frames)) ≡ n.room =
    omega (arith, advanced_length b.walk.frames, n.rooms) in
    let after_is : state_of before
    ≡ record {
      nodes = b.entries ++ entry n.ty h ∷ [];
      room = n.room;
      pending =
          p ∷ left_after n.top.left ∷ open_parts n.around;
    } =
    rw (rooms, parts_after b n, entry_is b n h) refl in
    let one = own_opens b.walk.types b.entries n.room n.ty (n.top.left ∷ open_parts n.around)
    (left_after n.top.left ∷ open_parts n.around) h p own
    (first_is b.walk.types (suc n.room) n.ty n.top.left (open_parts n.around) n.first) refl
    (spells b n own (h, Some p) is) in
    leads_settled b before own refl (omega (arith, advanced_length b.walk.frames, n.bound))
    (rw (state_is b n, after_is) one)

-- to add a node of either kind is a turn of the machine by its own bytes
own_leads : (b : Built) (n : AtNext b) (own : List ℕ) (x : Head × Option Part) →
    own_at (next_layout b) own ≡ Ok (x, []) →
    TurnLeads b.walk.types (state_of b) (state_of (with_own b x)) own
own_leads b n own (h, None) is = leaf_leads b n own h is
own_leads b n own (h, Some p) is = open_leads b n own h p is

-- the node that the bytes spell
pub added_leads : (b new : Built) (own : List ℕ) → AtNext b → IsAdded b new own →
    TurnLeads b.walk.types (state_of b) (state_of new) own
added_leads b new own n h =
    subst (λ (s : Built). TurnLeads b.walk.types (state_of b) (state_of s) own) (sym h.2)
    (own_leads b n own h.0 h.1)
