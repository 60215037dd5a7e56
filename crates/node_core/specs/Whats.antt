-- What a node is, as callers see it.
use Rattle.grammar_core.specs.Tree.{Tree, leaf, branch, unit, bool, char, text, bytes, unsigned}
use Rattle.grammar_core.specs.Tree.{bits, signed, wide, compact, fields, arm, list, count}
use Rattle.node_core.specs.declared.what.What.{What}
use Rattle.node_core.specs.declared.what.What.TheVariants as what

abbrev pub what_of : Tree → What
what_of (leaf unit) = what.Empty
what_of (leaf (bool b)) = what.Bool b
what_of (leaf (char c)) = what.Char c
what_of (leaf (text s)) = what.Text
what_of (leaf (bytes s)) = what.Bytes
what_of (leaf (unsigned n)) = what.Unsigned n
what_of (leaf (signed z)) = what.Signed z
what_of (leaf (wide s)) = what.Wide s
what_of (leaf (compact n)) = what.Compact n
what_of (branch fields vs) = what.Fields
what_of (branch (arm q) vs) = what.Arm q
what_of (branch list vs) = what.List
what_of (leaf (count n)) = what.Count n
what_of (leaf (bits n s)) = what.Bits n
