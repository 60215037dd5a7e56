-- What follows from what a call says of its `Ok`.
use Rattle.std.proofs.Common.{◌≡◌, sym, subst}
use Rattle.std.specs.Prelude.{Result, Ok, Err, IfOk, IfErr, OnOk}
use Rattle.std.specs.Result.{IsErrAnd}

-- what is said of an answer where it is Ok may be replaced by what follows from it
pub map_ok : {X E : Type 0} (o : Result X E) (P Q : X → Type 0) → ((x : X) → P x → Q x) → IfOk o P →
    IfOk o Q
map_ok (Ok x) P Q f h = f x h
map_ok (Err e) P Q f h = h

-- what follows from all that is said of an Ok holds where the answer is Ok
pub on_ok : {X E : Type 0} (o : Result X E) (P : X → Type 0) (Q : Type 0) → ((x : X) → P x → Q) →
    IfOk o P → OnOk o Q
on_ok (Ok x) P Q f h = f x h
on_ok (Err e) P Q f h = h

-- what is handed on is what an error is
pub err_kept : {X E : Type 0} (r : Result X E) (o : E) (P : E → Type 0) →
    IsErrAnd r (λ s. s ≡ o) → P o → IfErr r P
err_kept (Ok x) o P e h = absurd e
err_kept (Err s) o P e h = subst P (sym e) h

-- what holds of an error holds of what is answered with it
pub err_is : {X E : Type 0} (r : Result X E) (o : E) (P : E → Type 0) → r ≡ Err o → P o →
    IfErr r P
err_is (Ok x) o P e h = absurd cc
err_is (Err s) o P e h = let is : s ≡ o = cc in subst P (sym is) h
