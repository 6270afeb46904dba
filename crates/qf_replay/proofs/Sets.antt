-- Set cells that are worked out in another row and taken over are those that are set at once.
use Rattle.std.specs.Prelude.{◌≡◌, ℕ, ◌<◌, ◌==◌, pos, Bool, true, false, ◌||◌, List, [], ◌∷◌, length, slice_set, if◌then◌else◌}
use Rattle.std.proofs.Common.{refl, ap, sym, ◌∙◌, arith, get_or-set_same, get_or-set_other, ◌≢◌}
use Rattle.std.proofs.lemmas.List.{length-set, ext_get_or}
use Rattle.std.proofs.lemmas.Bool.Decides.{nat_tests}
use Rattle.qf_ir.specs.declared.cell.Cell.{Cell}
use Rattle.qf_ir.specs.declared.cell.Cell.TheVariants.{Int}
use Rattle.qf_ir.specs.declared.ast.Expr.{Expr}
use Rattle.qf_ir.specs.Value.{Cells, Values, cell_at, cell_value}
use Rattle.qf_ir.specs.Replay.{with_sets}
use Rattle.qf_replay.specs.Rows.{taken}

abbrev is_set : List (ℕ × Expr) → ℕ → Bool
is_set [] column = false
is_set (s ∷ sets) column = (s.0 == column) || is_set sets column

pub length-with_sets : (sets : List (ℕ × Expr)) (before : Cells) (point : Values) (cells : Cells) → length (with_sets sets before point cells) ≡ length cells
length-with_sets [] before point cells = refl
length-with_sets (s ∷ sets) before point cells =
    length-with_sets sets before point (slice_set cells s.0 (cell_value s.1 before point)) ∙ length-set cells s.0 (cell_value s.1 before point)

length-taken : (sets : List (ℕ × Expr)) (from cells : Cells) → length (taken sets from cells) ≡ length cells
length-taken [] from cells = refl
length-taken (s ∷ sets) from cells = length-taken sets from (slice_set cells s.0 (cell_at from s.0)) ∙ length-set cells s.0 (cell_at from s.0)

-- a write at a column, seen at a column
set-at : (cells : Cells) (i c : ℕ) (v : Cell) → c < length cells → cell_at (slice_set cells i v) c ≡ (if i == c then v else cell_at cells c)
set-at cells i c v within = by_test (i == c) refl
  where
    by_test : (b : Bool) → (i == c) ≡ b → cell_at (slice_set cells i v) c ≡ (if b then v else cell_at cells c)
    by_test true is = let same : i ≡ c = grind (arith, nat_tests) in rw (same, get_or-set_same)
    by_test false is = let other : c ≢ i = grind (arith, nat_tests) in rw get_or-set_other

-- a write before those of the rest, which win
write-first : (here rest : Bool) (all new old other : Cell) → all ≡ (if rest then all else (if here then new else other))
    → (if rest then all else (if here then new else old)) ≡ (if here || rest then all else old)
write-first true true all new old other is = refl
write-first true false all new old other is = sym is
write-first false true all new old other is = refl
write-first false false all new old other is = refl

-- a set column has its cell from the other row, another one keeps its own
taken-at : (sets : List (ℕ × Expr)) (from cells : Cells) (c : ℕ) → c < length cells → cell_at (taken sets from cells) c ≡ (if is_set sets c then cell_at from c else cell_at cells c)
taken-at [] from cells c within = refl
taken-at (s ∷ sets) from cells c within =
    let next = slice_set cells s.0 (cell_at from s.0) in
    taken-at sets from next c (omega (arith, length-set cells s.0 (cell_at from s.0)))
    ∙ ap (λ old. if is_set sets c then cell_at from c else old) (set-at cells s.0 c (cell_at from s.0) within)
    ∙ write-first (s.0 == c) (is_set sets c) (cell_at from c) (cell_at from s.0) (cell_at cells c) (cell_at from c) (same_here (s.0 == c) refl (is_set sets c))
  where
    same_here : (here : Bool) → (s.0 == c) ≡ here → (rest : Bool) → cell_at from c ≡ (if rest then cell_at from c else (if here then cell_at from s.0 else cell_at from c))
    same_here here is true = refl
    same_here false is false = refl
    same_here true is false = let same : c ≡ s.0 = grind (arith, nat_tests) in ap (cell_at from) same

-- a set column has its new cell whatever stood there
set-anyhow : (sets : List (ℕ × Expr)) (before : Cells) (point : Values) (left right : Cells) (c : ℕ) → c < length left → c < length right
    → cell_at (with_sets sets before point left) c ≡ (if is_set sets c then cell_at (with_sets sets before point right) c else cell_at left c)
set-anyhow [] before point left right c in_left in_right = refl
set-anyhow (s ∷ sets) before point left right c in_left in_right =
    let v = cell_value s.1 before point in
    let next = slice_set left s.0 v in
    let other = slice_set right s.0 v in
    let in_next : c < length next = omega (arith, length-set left s.0 v) in
    let in_other : c < length other = omega (arith, length-set right s.0 v) in
    set-anyhow sets before point next other c in_next in_other
    ∙ ap (λ old. if is_set sets c then cell_at (with_sets sets before point other) c else old) (set-at left s.0 c v in_left)
    ∙ write-first (s.0 == c) (is_set sets c) (cell_at (with_sets sets before point other) c) v (cell_at left c) (cell_at right c)
    (set-anyhow sets before point other other c in_other in_other
    ∙ ap (λ old. if is_set sets c then cell_at (with_sets sets before point other) c else old) (set-at right s.0 c v in_right))

pub taken-set : (sets : List (ℕ × Expr)) (before : Cells) (point : Values) (fresh cells : Cells) → length fresh ≡ length cells
    → taken sets (with_sets sets before point fresh) cells ≡ with_sets sets before point cells
taken-set sets before point fresh cells same =
    ext_get_or (Int (pos 0)) (taken sets (with_sets sets before point fresh) cells) (with_sets sets before point cells)
    (length-taken sets (with_sets sets before point fresh) cells ∙ sym (length-with_sets sets before point cells))
    (λ c within.
    let inside : c < length cells = omega (arith, length-taken sets (with_sets sets before point fresh) cells) in
    taken-at sets (with_sets sets before point fresh) cells c inside ∙ sym (set-anyhow sets before point cells fresh c inside (omega arith)))
