use Rattle.std.proofs.Common.{◌≡◌, ◌∙◌, ◌-◌, Bool, true, false, List, ℕ, length, take, drop, ap}
use Rattle.std.proofs.Common.{subst, refl}
use Rattle.std.specs.Str.{IsUtf8, is_utf8}
use Rattle.std.specs.Str.Lossy.{utf8_valid_len}
use Rattle.std.proofs.lemmas.List.{take_rest}
use Rattle.std.proofs.lemmas.Str.{IsUtf8-from_is_utf8, is_utf8-from_IsUtf8}
use Rattle.value_core.proofs.raw_builder.RawBuilder.bad_text.Goals as goal

-- bytes that are not UTF-8 fail the test for it
not_utf8 : (s : List ℕ) → (IsUtf8 s → ⊥) → is_utf8 s ≡ false
not_utf8 s h = by (is_utf8 s) refl where
  by : (b : Bool) → is_utf8 s ≡ b → is_utf8 s ≡ false
  by true e = absurd (h (IsUtf8-from_is_utf8 s e))
  by false e = e

pub returns-in-Ok : goal.returns-in-Ok
returns-in-Ok g c =
    let start = c.in_ok-open.open.start in
    let spelled : take (length c.as_slice.result.now - start) (drop start c.as_slice.result.now)
    ≡ drop start c.self.inside.pool.list.items = take_rest c.as_slice.result.now start
    ∙ ap (drop start) c.as_slice.ensures.value in
    let valid : is_utf8 (drop start c.self.inside.pool.list.items) ≡ true =
    is_utf8-from_IsUtf8 (drop start c.self.inside.pool.list.items)
    (subst IsUtf8 spelled c.in-Ok.ensures.cases.1) in
    rw (← c.self.view_is, c.in_ok-open.was, c.in-Text.is, valid) refl

pub returns-in-Err : goal.returns-in-Err
returns-in-Err g c =
    let start = c.in_ok-open.open.start in
    let spelled : take (length c.as_slice.result.now - start) (drop start c.as_slice.result.now)
    ≡ drop start c.self.inside.pool.list.items = take_rest c.as_slice.result.now start
    ∙ ap (drop start) c.as_slice.ensures.value in
    let invalid : is_utf8 (drop start c.self.inside.pool.list.items) ≡ false =
    not_utf8 (drop start c.self.inside.pool.list.items)
    (subst (λ (s : List ℕ). IsUtf8 s → ⊥) spelled c.in-Err.ensures.cases.0) in
    let len : c.valid_up_to.result ≡ utf8_valid_len (drop start c.self.inside.pool.list.items) =
    c.valid_up_to.ensures ∙ c.in-Err.ensures.valid_len ∙ ap utf8_valid_len spelled in
    rw (← c.self.view_is, c.in_ok-open.was, c.in-Text.is, invalid, len) refl
