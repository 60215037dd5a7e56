use Rattle.std.proofs.Common.{◌≡◌, ◌++◌, ◌<◌, ◌^◌, rules, length, length-append}
use Rattle.types_core.specs.declared.type_info.TypeInfo.{TypeInfo}
use Rattle.std.specs.Prelude.{List}
use Rattle.types_core.specs.Fits.{FitsRegistry, FitsType}
use Rattle.scale_calls.proofs.Appended.{all_of_both}
use Rattle.scale_calls.proofs.metadata.extended.Goals as goal

pub from_types-requires : goal.from_types-requires
from_types-requires c =
    let old = c.into_types-types.result.items in
    let is : c.append.new.list.items ≡ old ++ c.args.more.items = search rules in
    let few : length (old ++ c.args.more.items) < 2 ^ 32 =
    rw (length-append, c.into_types-types.ensures.same) c.requires.few in
    let P : List TypeInfo → Type 0 = FitsRegistry in
    rw is (
      few,
      all_of_both FitsType old c.args.more.items c.into_types-types.ensures.fits.1
          c.requires.fits,
    )
