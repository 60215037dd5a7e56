use Rattle.std.proofs.Common.{◌≡◌, length, Some, ◌+◌, ◌-◌, refl, sym, ap, ◌∙◌, arith}
use Rattle.graph_core.specs.Types.{shape}
use Rattle.graph_core.proofs.ReadingOn.{ahead_found, ahead_passed, ahead_opened, ahead_none}
use Rattle.graph_core.proofs.references.first_unknown.Goals as goal

pub returns-in-Some-clause-unknown : goal.returns-in-Some-clause-unknown
returns-in-Some-clause-unknown c =
    let r = c.args.graph.now.registry in
    let f = ahead_found r c.args.graph.now c.unknown_left.new.graph c.in-Some.to c.requires.begun
    c.in-Some.ensures in
    rw c.opened-opened.ensures (sym f.1)

pub returns-in-Some-clause-looks : goal.returns-in-Some-clause-looks
returns-in-Some-clause-looks c =
    (ahead_found c.args.graph.now.registry c.args.graph.now c.unknown_left.new.graph c.in-Some.to
    c.requires.begun c.in-Some.ensures).3

pub types-init : goal.types-init
types-init c = (
  ahead_passed c.args.graph.now.registry c.args.graph.now c.unknown_left.new.graph
      c.requires.begun c.in_default.ensures,
  c.unknown_left.ensures.on.place ∙ sym c.opened-opened.ensures,
)

pub returns-in-Some-unknown_left-clause-unknown : goal.returns-in-Some-unknown_left-clause-unknown
returns-in-Some-unknown_left-clause-unknown c =
    let r = c.args.graph.now.registry in
    let h = c.types.invariant.0 in
    let k = c.open.ensures.found in
    let e : shape r c.types.position ≡ Some k.0 = rw (← h.way.reading.types) k.1 in
    let way = ahead_opened r c.types.graph c.open.new.self c.types.position k.0 h e
    (sym c.types.invariant.1) c.open.ensures.opened in
    let f = ahead_found r c.open.new.self c.unknown_left-in-types.new.graph
    c.in-Some-unknown_left.to way c.in-Some-unknown_left.ensures in
    let place : c.open.new.self.cursor.types ≡ c.types.position + 1 =
    rw c.open.ensures.opened.cursor refl in
    let back : c.open.new.self.cursor.types - 1 ≡ c.types.position = omega (arith, place) in
    sym (rw back at f.1)

pub returns-in-Some-unknown_left-clause-looks : goal.returns-in-Some-unknown_left-clause-looks
returns-in-Some-unknown_left-clause-looks c =
    let r = c.args.graph.now.registry in
    let h = c.types.invariant.0 in
    let k = c.open.ensures.found in
    let e : shape r c.types.position ≡ Some k.0 = rw (← h.way.reading.types) k.1 in
    let way = ahead_opened r c.types.graph c.open.new.self c.types.position k.0 h e
    (sym c.types.invariant.1) c.open.ensures.opened in
    (ahead_found r c.open.new.self c.unknown_left-in-types.new.graph c.in-Some-unknown_left.to way
    c.in-Some-unknown_left.ensures).3

pub types-preserved : goal.types-preserved
types-preserved c =
    let r = c.args.graph.now.registry in
    let h = c.types.invariant.0 in
    let k = c.open.ensures.found in
    let e : shape r c.types.position ≡ Some k.0 = rw (← h.way.reading.types) k.1 in
    let way = ahead_opened r c.types.graph c.open.new.self c.types.position k.0 h e
    (sym c.types.invariant.1) c.open.ensures.opened in (
      ahead_passed r c.open.new.self c.unknown_left-in-types.new.graph way
          c.in_default-unknown_left.ensures,
      c.unknown_left-in-types.ensures.on.place ∙ rw c.open.ensures.opened.cursor refl,
    )

pub returns-clause-looks : goal.returns-clause-looks
returns-clause-looks c =
    (ahead_none c.args.graph.now.registry c.types.graph c.types.invariant.0
    (omega (
      arith,
      c.types-test.false,
      c.count-position-end.ensures,
      c.types.invariant.1,
      ap length c.unknown_left.ensures.on.types,
    ))).2
