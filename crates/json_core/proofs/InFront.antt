-- A text is put to the front of memory.
use Rattle.std.proofs.Common.{◌≡◌, ℕ, ◌+◌, ◌*◌, List, [], ◌∷◌, ◌++◌, length, take, drop, inl}
use Rattle.std.proofs.Common.{ap, ap₂, sym, ◌∙◌, arith, length-append, take-append-drop}
use Rattle.std.proofs.Common.{get_or, Option, Some, option_map, Bor, Fits, w8}
use Rattle.hex.specs.Hex.{encode_lower, lower_digits}
use Rattle.hex.proofs.HexLemmas.{length-encode_with}
use Rattle.json.specs.Print.{quoted}
use Rattle.serde_json.specs.Written.{compact_text}
use Rattle.types_core.specs.declared.type_info.TypeInfo.{TypeInfo}
use Rattle.grammar_core.specs.Tree.{Tree, text, bytes}
use Rattle.grammar_core.specs.Tree.{leaf}
use Rattle.node_core.specs.Shown.{Seen, bytes_of, text_of}
use Rattle.token_core.specs.Places.{OnlyPlaced}
use Rattle.token_core.proofs.Outputs.{hex_string}
use Rattle.json_core.specs.Json.{json_of, json_text}
use Rattle.json_core.specs.Printed.{IsInFront, run_text}
use Rattle.json_core.proofs.Reported.{found_is}

-- what is placed first stands at the front
pub in_front : (s old new : List ℕ) (end : ℕ) → OnlyPlaced old new 0 s end → IsInFront s old new
in_front s old new end p =
    let long : end ≡ length s = omega (arith, p.placed.moved) in
    inl (
      omega (
        arith,
        long,
        ap length p.placed.bytes,
        ap length (take-append-drop end new),
        length-append (take end new) (drop end new),
        p.placed.len,
      ),
      sym (take-append-drop end new) ∙ ap₂ (λ (a b : List ℕ). a ++ b) p.placed.bytes p.rest
          ∙ ap (λ n. s ++ drop n old) long,
    )

-- the JSON text of a value that is a run of bytes is the text of the run
run_is_text : (r : List TypeInfo) (t : ℕ) (v : Tree) (s : List ℕ) → bytes_of v ≡ Some s →
    run_text s ≡ compact_text (json_of r t v)
unfolding json_of
run_is_text r t (leaf (bytes b)) s e = let same : b ≡ s = cc in ap run_text (sym same)
run_is_text r t _ s e = absurd cc

-- a run's text is three bytes, two for each of its own, and one
pub run_long : (bs : List ℕ) → ((i : ℕ) → Fits w8 (get_or bs i 0)) →
    2 * length bs + 4 ≡ length (run_text bs)
run_long bs h =
    let digits = length-encode_with lower_digits bs in
    let parts = length-append (encode_lower bs) (34 ∷ []) in
    let same : length (34 ∷ 48 ∷ 120 ∷ (encode_lower bs ++ 34 ∷ [])) ≡ length (run_text bs) =
    ap length (hex_string bs h) in
    omega (arith, digits, parts, same)

-- the JSON text of a tree that is a text is the text between quotes, escaped
text_is_quoted : (r : List TypeInfo) (t : ℕ) (v : Tree) (s : List ℕ) → text_of v ≡ Some s →
    quoted s ≡ compact_text (json_of r t v)
unfolding json_of
text_is_quoted r t (leaf (text b)) s e = let same : b ≡ s = cc in ap quoted (sym same)
text_is_quoted r t _ s e = absurd cc

-- and so it is of a value in which the text was found
pub found_quoted : (s value : Seen) (found : Option (Bor (List ℕ))) (x : Bor (List ℕ)) →
    option_map (λ y. y.now) found ≡ text_of s.tree → found ≡ Some x → s ≡ value →
    quoted x.now ≡ json_text value
found_quoted s value found x e is same =
    text_is_quoted s.types s.ty s.tree x.now
    (found_is e is) ∙ ap json_text same

-- the same of a run of bytes
pub found_run : (s value : Seen) (found : Option (Bor (List ℕ))) (x : Bor (List ℕ)) →
    option_map (λ y. y.now) found ≡ bytes_of s.tree → found ≡ Some x → s ≡ value →
    run_text x.now ≡ json_text value
found_run s value found x e is same =
    run_is_text s.types s.ty s.tree x.now
    (found_is e is) ∙ ap json_text same
