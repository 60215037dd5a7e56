-- The forms of nodes with few bytes, `PlainForm` and `BytesForm`, as a `Form`.
use Rattle.types_core.specs.Kinds.{width_bytes}
use Rattle.types_core.specs.declared.kind.IntegerWidth.{IntegerWidth}
use Rattle.types_core.specs.declared.kind.IntegerWidth.TheVariants as width
use Rattle.types_core.specs.declared.kind.Signedness.{Signedness}
use Rattle.types_core.specs.declared.kind.Signedness.TheVariants as sign
use Rattle.types_core.specs.declared.primitive.Primitive.{Primitive}
use Rattle.types_core.specs.declared.primitive.Primitive.TheVariants as P
use Rattle.widths_core.specs.Layouts.{Plain}
use Rattle.widths_core.specs.Layouts as layout
use Rattle.grammar_core.specs.declared.form.Form.{Form}
use Rattle.grammar_core.specs.declared.form.Form.TheVariants as form
use Rattle.form_core.specs.declared.forms.PlainForm.{PlainForm}
use Rattle.form_core.specs.declared.forms.PlainForm.TheVariants as plain
use Rattle.form_core.specs.declared.forms.BytesForm.{BytesForm}
use Rattle.form_core.specs.declared.forms.BytesForm.TheVariants as bytes

-- the primitive types of integers
abbrev pub unsigned_of : IntegerWidth → Primitive
unsigned_of width.Bits8 = P.U8
unsigned_of width.Bits16 = P.U16
unsigned_of width.Bits32 = P.U32
unsigned_of width.Bits64 = P.U64
unsigned_of width.Bits128 = P.U128

abbrev pub signed_of : IntegerWidth → Primitive
signed_of width.Bits8 = P.I8
signed_of width.Bits16 = P.I16
signed_of width.Bits32 = P.I32
signed_of width.Bits64 = P.I64
signed_of width.Bits128 = P.I128

abbrev pub wide_of : Signedness → Primitive
wide_of sign.Unsigned = P.U256
wide_of sign.Signed = P.I256

abbrev pub form_of_plain : PlainForm → Form
form_of_plain plain.Bool = form.Primitive P.Bool
form_of_plain plain.Char = form.Primitive P.Char
form_of_plain (plain.Unsigned w) = form.Primitive (unsigned_of w)
form_of_plain (plain.Signed w) = form.Primitive (signed_of w)
form_of_plain (plain.Wide s) = form.Primitive (wide_of s)
form_of_plain (plain.Compact m) = form.Compact m
form_of_plain plain.Count = form.Count

abbrev pub form_of_bytes : BytesForm → Form
form_of_bytes (bytes.Plain p) = form_of_plain p
form_of_bytes bytes.Text = form.Primitive P.Str
form_of_bytes bytes.Bytes = form.Bytes
form_of_bytes (bytes.Bits f) = form.Bits f
form_of_bytes bytes.Arm = form.Arm
form_of_bytes bytes.Sequence = form.Sequence

-- how the bytes of a node without parts are laid out
abbrev pub plain_layout : PlainForm → Plain
plain_layout plain.Bool = layout.bool
plain_layout plain.Char = layout.char
plain_layout (plain.Unsigned w) = layout.unsigned (width_bytes w)
plain_layout (plain.Signed w) = layout.signed (width_bytes w)
plain_layout (plain.Wide s) = layout.wide
plain_layout (plain.Compact m) = layout.compact m
plain_layout plain.Count = layout.counted
