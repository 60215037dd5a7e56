-- The cycle of functions that writes a node and all that is below it, a section for each.
use Rattle.std.proofs.Common.{◌≡◌, [], ◌∷◌, ◌+◌, length, map, drop, rules, arith, inl, inr, refl}
use Rattle.std.proofs.Common.{ap, ap₂, sym, ◌∙◌, option_map, Bor, List, Some, get_or}
use Rattle.types_core.specs.declared.definition.Field.{Field}
use Rattle.std.specs.Slice.Iter.{iter_rest}
use Rattle.std.specs.Int.{w128}
use Rattle.std.proofs.lemmas.Int.{to_z-of_z}
use Rattle.std.proofs.lemmas.List.{length-map, drop_more}
use Rattle.std.proofs.Math.ListN.{drop_of_length-le}
use Rattle.std.proofs.lemmas.Result.{on_ok_weaker}
use Rattle.json.specs.Token.{key}
use Rattle.json.specs.Tree.{json_tokens, items_tokens, members_tokens}
use Rattle.serde_json.specs.Data.{no_members}
use Rattle.serde_json.specs.Written.{outline, items_outline, members_outline}
use Rattle.serde_json.specs.View.{items_of}
use Rattle.graph_core.specs.Types.{shape}
use Rattle.node_core.specs.Shown.{children_of}
use Rattle.json_core.specs.Json.{json_seen, fields_json}
use Rattle.token_core.specs.Tokens.{prints}
use Rattle.json_core.specs.Tokens.{data_at, members_at, members_in_order}
use Rattle.json_core.proofs.Children.{children_below, jsons}
use Rattle.json_core.proofs.Counts.{fields_count, arm_count, child_listed, child_below, child_data}
use Rattle.json_core.proofs.Ordered.{are_named, positions_are_named}
use Rattle.json_core.proofs.Ordered.{unnamed_json_is, in_order_json_is, sorted_json_is}
use Rattle.json_core.proofs.Reported.{bits_are, reported, text_is, bytes_are, found_is, fields_are}
use Rattle.json_core.proofs.Reported.{no_fields_json, arm_there, arm_is}
use Rattle.json_core.proofs.Turns.{in_order_turn, item_turn, array_whole, name_read, sorted_turn}
use Rattle.json_core.proofs.Turns.{object_whole, slice_within, next_named}
use Rattle.json_core.proofs.Turns.{member_whole, array_member_whole}
use Rattle.json_core.proofs.Turns.{no_field_left, no_item_left}
use Rattle.json_core.proofs.writing.+write.Goals as goal

-- ---- write_each: the children, one after the other, as the items of an array that began.
-- What is written so far and the items that are left are always the whole array.

pub write_each-children-init : goal.write_each-children-init
write_each-children-init g t c = record {
  can = tt;
  ends = tt;
  reported = search rules;
  below = rw (
    c.into_iter-child-iterator.ensures.into_iter_gives,
    c.children-child-items.ensures,
  ) (children_below c.args.node.now);
}

pub write_each-children-preserved : goal.write_each-children-preserved
write_each-children-preserved g t c =
    let child : c.children.child-iterator ≡ c.in-Some.child ∷ c.next.new.self = search rules in
    record {
      can = search rules;
      ends = search rules;
      reported = item_turn c.children.out c.write_node.new.out (json_seen c.in-Some.child)
          (items_of (map json_seen c.next.new.self)) c.in_ok-write_node.ensures
          ∙ ap (λ ss. prints c.children.out
          (items_tokens (items_outline (items_of (map json_seen ss)))))
          (sym child) ∙ c.children.invariant.reported;
      below = search rules;
    }

pub write_each-returns : goal.write_each-returns
write_each-returns g t c =
    let none : c.children.child-iterator ≡ [] = search rules in
    ap (λ ss. prints c.children.out (items_tokens (items_outline (items_of (map json_seen ss)))))
    (sym none) ∙ c.children.invariant.reported

-- ---- write_items: `write_each` between the brackets

pub write_items-returns : goal.write_items-returns
write_items-returns g t c =
    on_ok_weaker c.end_array.result (λ e. array_whole c.args.out.now c.begin_array.new.self
    c.write_each.new.out c.end_array.new.self
    (items_of (map json_seen (children_of c.args.node.now))) c.in_ok-begin_array.ensures
    c.in_ok-write_each.ensures e) c.end_array.ensures

-- ---- write_child: one child by its position, from the list or by steps past those before it

pub write_child-write_node-requires : goal.write_child-write_node-requires
write_child-write_node-requires g t c =
    let got = child_listed c.args.node.now c.args.listed.now c.args.position c.in-Some.child.now
    c.requires.listed (search rules) c.in-Some.ensures.lookup.1 in
    let h = child_below c.args.node.now c.args.position c.in-Some.child.now got in
    λ κs within. (omega (arith, h.1), within)

pub write_child-write_node-requires-in-None : goal.write_child-write_node-requires-in-None
write_child-write_node-requires-in-None g t c =
    let h = child_below c.args.node.now c.args.position c.child_at.result
    (sym c.child_at.ensures) in
    λ κs within. (omega (arith, h.1), within)

pub write_child-returns-in-Some : goal.write_child-returns-in-Some
write_child-returns-in-Some g t c =
    let got = child_listed c.args.node.now c.args.listed.now c.args.position c.in-Some.child.now
    c.requires.listed (search rules) c.in-Some.ensures.lookup.1 in
    rw (child_data c.args.node.now c.args.position c.in-Some.child.now got)
    c.write_node.ensures

pub write_child-returns-in-None : goal.write_child-returns-in-None
write_child-returns-in-None g t c =
    rw (child_data c.args.node.now c.args.position c.child_at.result (sym c.child_at.ensures))
    c.write_node-in-None.ensures

-- ---- write_in_order: each child after its field's name, where the names are in order.
-- Fields and children are read side by side, so as many of both are left after each turn.

pub write_in_order-members-init : goal.write_in_order-members-init
write_in_order-members-init g t c =
    let gives = c.into_iter-field-iterator.ensures.into_iter_gives in
    let first = c.zip-field-items.ensures.first in
    let second = c.zip-field-items.ensures.second in record {
      can = (tt, tt);
      ends = tt;
      named = rw (gives, first, c.iter.ensures.rest)
          (are_named c.args.fields.now _ c.requires.order);
      reported = rw (gives, first, second, c.iter.ensures.rest, c.children.ensures) refl;
      below = rw (gives, second, c.children.ensures)
          (children_below c.args.node.now);
    }

pub write_in_order-members-preserved : goal.write_in_order-members-preserved
write_in_order-members-preserved g t c =
    let fs = iter_rest c.next.new.self.a in
    let ss = c.next.new.self.b in
    let field : iter_rest c.members.field-iterator.a ≡ c.in-Some.field.now ∷ fs = search rules in
    let child : c.members.field-iterator.b ≡ c.in-Some.child ∷ ss = search rules in
    let n = c.as_str.result.now in
    let said : c.write_node.new.out
    ≡ prints (prints c.members.out (key n ∷ [])) (json_tokens (outline (json_seen c.in-Some.child)))
    = c.in_ok-write_node.ensures
    ∙ ap (λ w. prints w (json_tokens (outline (json_seen c.in-Some.child)))) c.in_ok-key.ensures in
    record {
      can = search rules;
      ends = search rules;
      named = search rules;
      reported = in_order_turn c.members.out c.write_node.new.out c.in-Some.field.now fs
          (json_seen c.in-Some.child) (map json_seen ss) n
          (ap Some c.as_str.ensures.same ∙ c.name_of-name.ensures) said
          ∙ ap₂ (λ gs us. prints c.members.out
          (members_tokens (members_outline (members_in_order gs (map json_seen us)))))
          (sym field) (sym child) ∙ c.members.invariant.reported;
      below = search rules;
    }

pub write_in_order-returns : goal.write_in_order-returns
write_in_order-returns g t c =
    let fs = c.args.fields.now in
    let ds = map json_seen (children_of c.args.node.now) in
    let rest = iter_rest c.members.field-iterator.a in
    let left = map json_seen c.members.field-iterator.b in
    let count : length fs ≡ length ds = c.requires.count
    ∙ sym (length-map (children_of c.args.node.now) json_seen) in
    let ending = c.in-None.ensures.steps in
    let none : members_in_order rest left ≡ no_members = elim ending [
      | inl h ↦ no_field_left rest left h.1.0
      | inr h ↦ no_item_left rest left (ap (λ l. length (map json_seen l)) h.1.0)
    ] in
    on_ok_weaker c.end_object.result (λ e. object_whole c.args.out.now c.begin_object.new.self
    c.members.out c.end_object.new.self (members_in_order fs ds) (members_in_order rest left)
    (fields_json fs (items_of ds)) c.in_ok-begin_object.ensures c.members.invariant.reported none e
    (in_order_json_is fs ds c.requires.order count)) c.end_object.ensures

-- ---- write_sorted: the same where the names are out of order.
-- A turn writes the field and the child that stand at the next position of the order.

pub write_sorted-members-init : goal.write_sorted-members-init
write_sorted-members-init g t c = record {
  named = positions_are_named c.args.fields.now _ c.requires.order;
  reported = refl;
}

pub write_sorted-members-preserved : goal.write_sorted-members-preserved
write_sorted-members-preserved g t c =
    let fs = c.args.fields.now in
    let ds = map json_seen (children_of c.args.node.now) in
    let order = c.args.order.now in
    let i = c.members.place-index in
    let p = get_or order i 0 in
    let n = c.as_str.result.now in
    let next = next_named fs order i c.members-test.true c.members.invariant.named in
    let said : c.write_child.new.out
    ≡ prints (prints c.members.out (key n ∷ [])) (json_tokens (outline (data_at ds p))) =
    c.in_ok-write_child.ensures
    ∙ ap (λ w. prints w (json_tokens (outline (data_at ds p)))) c.in_ok-key.ensures in
    record {
      named = next.1;
      reported = sorted_turn fs ds (drop (i + 1) order) p c.index-fields-position.result n
          (data_at ds p) c.members.out c.write_child.new.out next.0 c.index-fields-position.is
          (ap Some c.as_str.ensures.same ∙ c.name_of-name.ensures) refl said
          ∙ ap (λ ps. prints c.members.out (members_tokens (members_outline (members_at fs ds ps))))
          (sym (drop_more order i 0 c.members-test.true)) ∙ c.members.invariant.reported;
    }

pub write_sorted-bounds-fields-position : goal.write_sorted-bounds-fields-position
write_sorted-bounds-fields-position g t c =
    let next = next_named c.args.fields.now c.args.order.now c.members.place-index
    c.members-test.true c.members.invariant.named in
    slice_within c.args.fields.now (get_or c.args.order.now c.members.place-index 0) next.0.0
    next.0.1

pub write_sorted-name_of-name-requires : goal.write_sorted-name_of-name-requires
write_sorted-name_of-name-requires g t c =
    let next = next_named c.args.fields.now c.args.order.now c.members.place-index
    c.members-test.true c.members.invariant.named in
    name_read c.args.fields.now (get_or c.args.order.now c.members.place-index 0)
    c.index-fields-position.result next.0 c.index-fields-position.is

pub write_sorted-write_child-requires : goal.write_sorted-write_child-requires
write_sorted-write_child-requires g t c =
    let next = next_named c.args.fields.now c.args.order.now c.members.place-index
    c.members-test.true c.members.invariant.named in
    let within-fields = slice_within c.args.fields.now
    (get_or c.args.order.now c.members.place-index 0) next.0.0 next.0.1 in λ κs within. (
      omega arith,
      (
        within,
        (
          rw c.deref.ensures.value c.in_ok-children.ensures,
          omega (arith, within-fields, c.requires.count),
        ),
      ),
    )

pub write_sorted-returns : goal.write_sorted-returns
write_sorted-returns g t c =
    let fs = c.args.fields.now in
    let ds = map json_seen (children_of c.args.node.now) in
    let order = c.args.order.now in
    let i = c.members.place-index in
    let count : length fs ≡ length ds = c.requires.count
    ∙ sym (length-map (children_of c.args.node.now) json_seen) in
    let none : members_at fs ds (drop i order) ≡ no_members =
    ap (members_at fs ds) (drop_of_length-le order (omega (arith, c.members-test.false))) in
    on_ok_weaker c.end_object.result (λ e. object_whole c.args.out.now c.begin_object.new.self
    c.members.out c.end_object.new.self (members_at fs ds order) (members_at fs ds (drop i order))
    (fields_json fs (items_of ds)) c.in_ok-begin_object.ensures c.members.invariant.reported none e
    (sorted_json_is fs order ds c.requires.order count)) c.end_object.ensures

-- ---- write_fields: an array or an object, by what is known of the names

pub write_fields-returns-in-Unnamed : goal.write_fields-returns-in-Unnamed
write_fields-returns-in-Unnamed g t c =
    rw (unnamed_json_is c.args.fields.now (jsons (children_of c.args.node.now))
    (rw c.in-Unnamed.is at c.keys.ensures)) c.write_items.ensures

-- ---- write_arm: the same as the one member of an object, whose key is the arm's name

pub write_arm-returns-in-Unnamed : goal.write_arm-returns-in-Unnamed
write_arm-returns-in-Unnamed g t c =
    let ds = jsons (children_of c.args.node.now) in
    rw (
      ← c.as_str.ensures.same,
      unnamed_json_is c.args.arm.now.fields ds (rw c.in-Unnamed.is at c.keys.ensures),
    ) (on_ok_weaker c.end_array_member.result (λ e. array_member_whole c.args.out.now
    c.begin_array_member.new.self c.write_each.new.out c.end_array_member.new.self
    c.as_str.result.now ds c.in_ok-begin_array_member.ensures c.in_ok-write_each.ensures e)
    c.end_array_member.ensures)

pub write_arm-returns : goal.write_arm-returns
write_arm-returns g t c =
    rw (← c.as_str-2.ensures.same)
    (on_ok_weaker c.end_object.result (λ e. member_whole c.args.out.now c.begin_member.new.self
    c.write_fields.new.out c.end_object.new.self c.as_str-2.result.now
    (fields_json c.args.arm.now.fields (jsons (children_of c.args.node.now)))
    c.in_ok-begin_member.ensures c.in_ok-write_fields.ensures e) c.end_object.ensures)

-- ---- write_node: each kind of node. First what the calls require: a node reports enough for its
-- JSON, as `Reported` says of each layout; then the text, a kind each.

pub write_node-write_unsigned-requires : goal.write_node-write_unsigned-requires
write_node-write_unsigned-requires g t c =
    λ e. (reported c.args.node.now _ c.in-Unsigned.ensures.value c.in-Unsigned.ensures.same).0
    (sym c.integer_json.ensures ∙ e)

pub write_node-write_signed-requires : goal.write_node-write_signed-requires
write_node-write_signed-requires g t c =
    λ e. rw (to_z-of_z w128 c.in-Signed.n (search rules))
    ((reported c.args.node.now _ c.in-Signed.ensures.value c.in-Signed.ensures.same).0
    (sym c.integer_json-in-Signed.ensures ∙ e))

pub write_node-write_unsigned-requires-in-Compact :
    goal.write_node-write_unsigned-requires-in-Compact
write_node-write_unsigned-requires-in-Compact g t c =
    λ e. (reported c.args.node.now _ c.in-Compact.ensures.value c.in-Compact.ensures.same).0
    (sym c.compact_json.ensures ∙ e)

pub write_node-write_fields-requires : goal.write_node-write_fields-requires
write_node-write_fields-requires g t c =
    let s = c.args.node.now in
    let fs = c.in-Some.fields.now in
    let at = found_is c.composite_fields.ensures c.in-Some.is in λ κs within. (
      omega arith,
      (within, fields_count s fs c.in-Fields.ensures.value c.in-Fields.ensures.same at),
    )

pub write_node-unwrap-arm-requires : goal.write_node-unwrap-arm-requires
write_node-unwrap-arm-requires g t c = arm_there c.args.node.now _ c.defined_arm.result
    c.defined_arm.ensures (reported c.args.node.now _ c.in-Arm.ensures.value
    c.in-Arm.ensures.same)

pub write_node-write_arm-requires : goal.write_node-write_arm-requires
write_node-write_arm-requires g t c =
    let s = c.args.node.now in
    let a = c.unwrap-arm.result.now in
    let at = found_is c.defined_arm.ensures c.unwrap-arm.ensures in λ κs within. (
      omega arith,
      (
        within,
        arm_count s c.in-Arm.position a c.in-Arm.ensures.value c.in-Arm.ensures.same at,
      ),
    )

pub write_node-returns-in-Empty : goal.write_node-returns-in-Empty
write_node-returns-in-Empty g t c =
    rw (reported c.args.node.now _ c.in-Empty.ensures.value c.in-Empty.ensures.same)
    c.null.ensures

pub write_node-returns-in-Bool : goal.write_node-returns-in-Bool
write_node-returns-in-Bool g t c =
    rw (reported c.args.node.now _ c.in-Bool.ensures.value c.in-Bool.ensures.same)
    c.boolean.ensures

pub write_node-returns-in-Char : goal.write_node-returns-in-Char
write_node-returns-in-Char g t c =
    rw (reported c.args.node.now _ c.in-Char.ensures.value c.in-Char.ensures.same)
    c.write_char.ensures

pub write_node-returns-in-Text : goal.write_node-returns-in-Text
write_node-returns-in-Text g t c = rw (text_is c.args.node.now c.text.result
    c.unwrap.result c.text.ensures c.unwrap.ensures
    (reported c.args.node.now _ c.in-Text.ensures.value c.in-Text.ensures.same))
    c.string.ensures

pub write_node-returns-in-Bytes : goal.write_node-returns-in-Bytes
write_node-returns-in-Bytes g t c =
    rw (bytes_are c.args.node.now c.bytes.result c.unwrap-in-Bytes.result c.bytes.ensures
    c.unwrap-in-Bytes.ensures
    (reported c.args.node.now _ c.in-Bytes.ensures.value c.in-Bytes.ensures.same))
    c.write_bytes.ensures

pub write_node-returns-in-Unsigned : goal.write_node-returns-in-Unsigned
write_node-returns-in-Unsigned g t c = rw (
  (reported c.args.node.now _ c.in-Unsigned.ensures.value c.in-Unsigned.ensures.same).1,
  ← c.integer_json.ensures,
) c.write_unsigned.ensures

pub write_node-returns-in-Signed : goal.write_node-returns-in-Signed
write_node-returns-in-Signed g t c = rw (
  (reported c.args.node.now _ c.in-Signed.ensures.value c.in-Signed.ensures.same).1,
  ← c.integer_json-in-Signed.ensures,
) (rw (to_z-of_z w128 c.in-Signed.n (search rules)) at c.write_signed.ensures)

pub write_node-returns-in-Wide : goal.write_node-returns-in-Wide
write_node-returns-in-Wide g t c =
    rw (reported c.args.node.now _ c.in-Wide.ensures.value c.in-Wide.ensures.same)
    c.write_wide.ensures

pub write_node-returns-in-Compact : goal.write_node-returns-in-Compact
write_node-returns-in-Compact g t c = rw (
  (reported c.args.node.now _ c.in-Compact.ensures.value c.in-Compact.ensures.same).1,
  ← c.compact_json.ensures,
) c.write_unsigned-in-Compact.ensures

pub write_node-returns-in-Some : goal.write_node-returns-in-Some
write_node-returns-in-Some g t c =
    let s = c.args.node.now in
    let at = found_is c.composite_fields.ensures c.in-Some.is in
    rw (fields_are s c.in-Some.fields.now at
    (reported s _ c.in-Fields.ensures.value c.in-Fields.ensures.same)) c.write_fields.ensures

pub write_node-returns-in-None : goal.write_node-returns-in-None
write_node-returns-in-None g t c =
    let s = c.args.node.now in
    let at = sym c.composite_fields.ensures
    ∙ ap (option_map (λ (x : Bor (List Field)). x.now)) c.in-None.is in
    rw (
      reported s _ c.in-Fields.ensures.value c.in-Fields.ensures.same,
      no_fields_json (shape s.types s.ty) (jsons (children_of s)) at,
    ) c.write_items.ensures

pub write_node-returns-in-Arm : goal.write_node-returns-in-Arm
write_node-returns-in-Arm g t c =
    let s = c.args.node.now in
    let at = found_is c.defined_arm.ensures c.unwrap-arm.ensures in
    rw (arm_is s c.in-Arm.position c.unwrap-arm.result.now at
    (reported s _ c.in-Arm.ensures.value c.in-Arm.ensures.same)) c.write_arm.ensures

pub write_node-returns-in-List : goal.write_node-returns-in-List
write_node-returns-in-List g t c =
    rw (reported c.args.node.now _ c.in-List.ensures.value c.in-List.ensures.same)
    c.write_items-in-List.ensures

pub write_node-returns-in-Count : goal.write_node-returns-in-Count
write_node-returns-in-Count g t c =
    rw (reported c.args.node.now _ c.in-Count.ensures.value c.in-Count.ensures.same)
    c.write_count.ensures

pub write_node-returns-in-Bits : goal.write_node-returns-in-Bits
write_node-returns-in-Bits g t c =
    rw (
      bits_are c.args.node.now c.in-Bits.count c.words.result c.unwrap-in-Bits.result
          c.words.ensures c.unwrap-in-Bits.ensures
          (reported c.args.node.now _ c.in-Bits.ensures.value c.in-Bits.ensures.same),
      ← c.bit_form.ensures,
    ) c.write_bits.ensures
