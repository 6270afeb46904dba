-- Names are distinct where each is new behind those before it.
use Rattle.std.proofs.Common.{◌≡◌, ◌∙◌, ap, sym, refl, ℕ, suc, ◌+◌, ◌<◌, length, get_or, drop, add-one, Bool, true, false, not, ◌&&◌, ◌||◌, List, [], ◌∷◌, ◌++◌, map, if◌then◌else◌}
use Rattle.std.specs.Prelude.{String}
use Rattle.std.specs.String.{string_bytes, string_eq}
use Rattle.std.specs.List.{list_any}
use Rattle.std.specs.Str.{bytes_eq}
use Rattle.std.proofs.lemmas.Slice.Eq.{bytes_eq-Decides}
use Rattle.std.proofs.lemmas.Bool.Decides.{same_from_decides}
use Rattle.std.proofs.lemmas.List.Folds.{list_any-append}
use Rattle.std.proofs.lemmas.Bool.{false≢true}
use Rattle.std.proofs.Math.Seq.{drop-cons}
use Rattle.qf_ir.specs.Texts.{is_text, with_text}
use Rattle.qf_ir.proofs.Codes.{inserted-texts}
use Rattle.qf_forms.specs.Complaints.{Stated, is_named, are_distinct}

-- no name is stated twice, and none of these names is stated
abbrev pub distinct_behind : List (List ℕ) → List Stated → Bool
distinct_behind names [] = true
distinct_behind names (s ∷ others) = not (list_any (is_text s.0) names) && distinct_behind (names ++ s.0 ∷ []) others

same-bytes : (a b : List ℕ) → bytes_eq a b ≡ bytes_eq b a
same-bytes a b =
    same_from_decides (bytes_eq a b) (bytes_eq b a) (bytes_eq-Decides a b)
    (λ e. sym ((bytes_eq-Decides b a).0 e), λ e. (bytes_eq-Decides b a).1 (sym e))

abbrev none_of : List (List ℕ) → List Stated → Bool
none_of names [] = true
none_of names (s ∷ others) = not (list_any (is_text s.0) names) && none_of names others

regroup : (a b c d : Bool) → (not (a || (b || false)) && (c && not d)) ≡ ((not a && c) && not (b || d))
regroup true b c d = refl
regroup false true true d = refl
regroup false true false d = refl
regroup false false c d = refl

none-more : (names : List (List ℕ)) (name : List ℕ) (stated : List Stated) → none_of (names ++ name ∷ []) stated ≡ (none_of names stated && not (list_any (is_named name) stated))
none-more names name [] = refl
none-more names name (s ∷ others) =
    ap (λ b. not b && none_of (names ++ name ∷ []) others) (list_any-append (is_text s.0) names (name ∷ []))
    ∙ ap (λ b. not (list_any (is_text s.0) names || (bytes_eq name s.0 || false)) && b) (none-more names name others)
    ∙ ap (λ b. not (list_any (is_text s.0) names || (b || false)) && (none_of names others && not (list_any (is_named name) others))) (same-bytes name s.0)
    ∙ regroup (list_any (is_text s.0) names) (bytes_eq s.0 name) (none_of names others) (list_any (is_named name) others)

turn : (a b c d : Bool) → (a && ((b && c) && d)) ≡ ((a && b) && (c && d))
turn true true c d = refl
turn true false c d = refl
turn false b c d = refl

behind-both : (names : List (List ℕ)) (stated : List Stated) → distinct_behind names stated ≡ (none_of names stated && are_distinct stated)
behind-both names [] = refl
behind-both names (s ∷ others) =
    ap (λ b. not (list_any (is_text s.0) names) && b) (behind-both (names ++ s.0 ∷ []) others)
    ∙ ap (λ b. not (list_any (is_text s.0) names) && (b && are_distinct others)) (none-more names s.0 others)
    ∙ turn (not (list_any (is_text s.0) names)) (none_of names others) (not (list_any (is_named s.0) others)) (are_distinct others)

none-of-none : (stated : List Stated) → none_of [] stated ≡ true
none-of-none [] = refl
none-of-none (s ∷ others) = none-of-none others

pub distinct-start : (stated : List Stated) → distinct_behind [] stated ≡ are_distinct stated
distinct-start stated = behind-both [] stated ∙ ap (λ b. b && are_distinct stated) (none-of-none stated)

-- ---- one name more

pub among : {Z : Type 0} (k : String Z) (ks : List (String Z)) → list_any (string_eq k) ks ≡ list_any (is_text (string_bytes k)) (map string_bytes ks)
among k [] = refl
among k (y ∷ ks) =
    ap (λ b. bytes_eq (string_bytes k) (string_bytes y) || b) (among k ks)
    ∙ ap (λ b. b || list_any (is_text (string_bytes k)) (map string_bytes ks)) (same-bytes (string_bytes k) (string_bytes y))

pub known-name : (names : List (List ℕ)) (s : Stated) (others : List Stated) → list_any (is_text s.0) names ≡ true → distinct_behind names (s ∷ others) ≡ false
known-name names s others held = ap (λ b. not b && distinct_behind (names ++ s.0 ∷ []) others) held

pub new-name : (names : List (List ℕ)) (s : Stated) (others : List Stated) → list_any (is_text s.0) names ≡ false
    → distinct_behind names (s ∷ others) ≡ distinct_behind (with_text names s.0) others
new-name names s others new =
    ap (λ b. not b && distinct_behind (names ++ s.0 ∷ []) others) new
    ∙ ap (λ (b : Bool). distinct_behind (if b then names else names ++ s.0 ∷ []) others) (sym new)

from-not : (b : Bool) → false ≡ not b → b ≡ true
from-not true e = refl
from-not false e = absurd (false≢true e)

from-not-true : (b : Bool) → true ≡ not b → b ≡ false
from-not-true true e = absurd (false≢true (sym e))
from-not-true false e = refl

pub held-name : {Z : Type 0} (k : String Z) (ks : List (String Z)) (s : Stated) (others : List Stated) (added all : Bool) → string_bytes k ≡ s.0 → added ≡ false
    → added ≡ not (list_any (string_eq k) ks) → distinct_behind (map string_bytes ks) (s ∷ others) ≡ all → false ≡ all
held-name k ks s others added all is is_false told inv =
    let held : list_any (string_eq k) ks ≡ true = from-not (list_any (string_eq k) ks) (sym is_false ∙ told) in
    let there = sym (among k ks ∙ ap (λ t. list_any (is_text t) (map string_bytes ks)) is) ∙ held in
    sym (known-name (map string_bytes ks) s others there) ∙ inv

pub added-name : {Z : Type 0} (k : String Z) (ks next : List (String Z)) (s : Stated) (others : List Stated) (added all : Bool) → string_bytes k ≡ s.0 → added ≡ true
    → added ≡ not (list_any (string_eq k) ks) → next ≡ (if list_any (string_eq k) ks then ks else ks ++ k ∷ []) → distinct_behind (map string_bytes ks) (s ∷ others) ≡ all
    → distinct_behind (map string_bytes next) others ≡ all
added-name k ks next s others added all is is_true told more inv =
    let new : list_any (string_eq k) ks ≡ false = from-not-true (list_any (string_eq k) ks) (sym is_true ∙ told) in
    let there = sym (among k ks ∙ ap (λ t. list_any (is_text t) (map string_bytes ks)) is) ∙ new in
    ap (λ ts. distinct_behind ts others) (ap (map string_bytes) more ∙ inserted-texts k ks s.0 is)
    ∙ sym (new-name (map string_bytes ks) s others there) ∙ inv

pub next_here : {X : Type 0} (xs : List X) (i : ℕ) (x : X) → i < length xs → x ≡ get_or xs i x → drop i xs ≡ x ∷ drop (i + 1) xs
next_here xs i x lt is = rw (add-one i) (drop-cons xs i x lt ∙ ap (λ y. y ∷ drop (suc i) xs) (sym is))
