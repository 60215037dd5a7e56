use Rattle.std.proofs.Common.{rules, ◌≡◌, FitsSigned, ap, subst, ◌∙◌, ℕ, ◌-◌, ◌*◌, [], ◌∷◌, arith}
use Rattle.node_core.proofs.SpelledNodes.{one_front, compact_front, char_front, starts_as}
use Rattle.node_core.proofs.SpelledNodes.{starts_bits, starts_bool, starts_bytes, starts_char}
use Rattle.node_core.proofs.SpelledNodes.{starts_text}
use Rattle.node_core.proofs.SpelledNodes.{starts_unsigned, starts_signed, starts_compact}
use Rattle.node_core.proofs.SpelledNodes.{starts_count, starts_arm, starts_list}
use Rattle.std.specs.Int.{w128, cast_unsigned}
use Rattle.std.proofs.lemmas.Int.{to_z-of_z}
use Rattle.graph_core.specs.Types.{shape}
use Rattle.node_core.specs.Shown.{IsInPool}
use Rattle.node_core.proofs.writing.put_node.Goals as goal

pub returns-in-Bool-clause-bytes : goal.returns-in-Bool-clause-bytes
returns-in-Bool-clause-bytes c =
    starts_as _ _ _ _ _ _ c.in-Bool.is
    (starts_bool _ (shape c.args.checked.now.types c.args.node.now.ty.0) c.args.pool.now
    c.args.node.now.children c.in-Bool.x
    (one_front c.args.out.now c.from.result (omega arith) ∙ ap (λ (x : ℕ). x ∷ []) c.from.ensures))

pub returns-in-Char-clause-bytes : goal.returns-in-Char-clause-bytes
returns-in-Char-clause-bytes c =
    starts_as _ _ _ _ _ _ c.in-Char.is
    (starts_char _ (shape c.args.checked.now.types c.args.node.now.ty.0) c.args.pool.now
    c.args.node.now.children c.in-Char.x
    (char_front c.copy_from_slice.new.self _ c.to_le_bytes.result c.from-in-Char.result
    c.in-Char.x c.copy_from_slice.ensures.after c.to_le_bytes.ensures c.from-in-Char.ensures))

pub returns-in-Text-clause-bytes : goal.returns-in-Text-clause-bytes
returns-in-Text-clause-bytes c =
    starts_as _ _ _ _ _ _ c.in-Text.is
    (starts_text _ (shape c.args.checked.now.types c.args.node.now.ty.0) c.args.pool.now
    c.args.node.now.children c.in-Text.len c.in-Text.start
    (subst (IsInPool c.args.pool.now) c.in-Text.is c.requires)
    (compact_front _ c.args.out.now c.from-in-Text.result c.put_compact.result c.in-Text.len
    c.put_compact.ensures.len c.put_compact.ensures.bytes c.from-in-Text.ensures))

pub returns-in-Bytes-clause-bytes : goal.returns-in-Bytes-clause-bytes
returns-in-Bytes-clause-bytes c =
    starts_as _ _ _ _ _ _ c.in-Bytes.is
    (starts_bytes _ (shape c.args.checked.now.types c.args.node.now.ty.0) c.args.pool.now
    c.args.node.now.children c.in-Bytes.len c.in-Bytes.start
    (subst (IsInPool c.args.pool.now) c.in-Bytes.is c.requires)
    c.put_length.ensures.bytes)

pub returns-in-Unsigned-clause-bytes : goal.returns-in-Unsigned-clause-bytes
returns-in-Unsigned-clause-bytes c =
    starts_as _ _ _ _ _ _ c.in-Unsigned.is
    (starts_unsigned _ (shape c.args.checked.now.types c.args.node.now.ty.0) c.args.pool.now
    c.args.node.now.children _ c.in-Unsigned.x c.put_integer.ensures.bytes
    c.from-in-Unsigned.ensures)

pub returns-in-Compact-clause-bytes : goal.returns-in-Compact-clause-bytes
returns-in-Compact-clause-bytes c =
    starts_as _ _ _ _ _ _ c.in-Compact.is
    (starts_compact _ (shape c.args.checked.now.types c.args.node.now.ty.0) c.args.pool.now
    c.args.node.now.children c.in-Compact.x
    (compact_front _ c.args.out.now c.from-in-Compact.result c.put_compact-in-Compact.result
    c.in-Compact.x c.put_compact-in-Compact.ensures.len c.put_compact-in-Compact.ensures.bytes
    c.from-in-Compact.ensures))

pub returns-in-Signed-clause-bytes : goal.returns-in-Signed-clause-bytes
returns-in-Signed-clause-bytes c =
    let same : c.from-in-Signed.result ≡ c.in-Signed.x = search rules in
    let fits : FitsSigned w128 c.from-in-Signed.result = search rules in
    starts_as _ _ _ _ _ _ c.in-Signed.is
    (starts_signed _ (shape c.args.checked.now.types c.args.node.now.ty.0) c.args.pool.now
    c.args.node.now.children _ _ c.in-Signed.x c.put_integer-in-Signed.ensures.bytes
    (c.cast_unsigned.ensures ∙ ap (cast_unsigned w128) (to_z-of_z w128 _ fits)) same)

pub returns-in-Arm-clause-bytes : goal.returns-in-Arm-clause-bytes
returns-in-Arm-clause-bytes c =
    starts_as _ _ _ _ _ _ c.in-Arm.is
    (starts_arm _ (shape c.args.checked.now.types c.args.node.now.ty.0) c.args.pool.now
    c.args.node.now.children c.in-Arm.position
    c.in-Arm.size c.put_index.ensures.bytes)

pub returns-in-List-clause-bytes : goal.returns-in-List-clause-bytes
returns-in-List-clause-bytes c =
    starts_as _ _ _ _ _ _ c.in-List.is
    (starts_list _ (shape c.args.checked.now.types c.args.node.now.ty.0) c.args.pool.now
    c.args.node.now.children c.in-List.size
    c.put_length-in-List.ensures.bytes)

pub returns-in-Count-clause-bytes : goal.returns-in-Count-clause-bytes
returns-in-Count-clause-bytes c =
    starts_as _ _ _ _ _ _ c.in-Count.is
    (starts_count _ (shape c.args.checked.now.types c.args.node.now.ty.0) c.args.pool.now
    c.args.node.now.children c.in-Count.count
    (compact_front _ c.args.out.now c.from-in-Count.result c.put_compact-in-Count.result
    c.in-Count.count c.put_compact-in-Count.ensures.len c.put_compact-in-Count.ensures.bytes
    c.from-in-Count.ensures))

pub returns-in-Bits-clause-bytes : goal.returns-in-Bits-clause-bytes
returns-in-Bits-clause-bytes c =
    starts_as _ _ _ _ _ _ c.in-Bits.is
    (starts_bits _ (shape c.args.checked.now.types c.args.node.now.ty.0) c.args.pool.now
    c.args.node.now.children c.in-Bits.unused c.in-Bits.len c.in-Bits.start
    (compact_front _ c.args.out.now c.from-in-Bits.result c.put_compact-in-Bits.result
    (8 * c.in-Bits.len - c.in-Bits.unused) c.put_compact-in-Bits.ensures.len
    c.put_compact-in-Bits.ensures.bytes (c.from-in-Bits.ensures ∙ c.bit_count.ensures)))
