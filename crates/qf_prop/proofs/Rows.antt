-- The fold over the terms of a row and over the rows, a turn at a time.
use Rattle.std.specs.Prelude.{◌≡◌, ◌≢◌, ℕ, suc, zero, ◌+◌, ◌-◌, ◌<◌, ◌≤◌, Bool, true, false, cond, List, [], ◌∷◌, ◌++◌, length, reverse, fold, take, drop, ℤ, pos}
use Rattle.std.proofs.Common.{arith, refl, sym, ap, ◌∙◌, get_or, ⊎_elim, subst}
use Rattle.std.specs.Prelude.{◌⊎◌, ◌||◌, int_lt, slice_get, Some}
use Rattle.std.proofs.lemmas.Int.{ints}
use Rattle.std.proofs.lemmas.Bool.{ne_eqb}
use Rattle.std.proofs.lemmas.Bool.Decides.{nat_tests}
use Rattle.std.proofs.lemmas.List.{get_or-reverse, get_or_append_left, take-append-drop, length-append, length-reverse, take_all, at_drop_more}
use Rattle.std.proofs.Math.Seq.{get_or-append_right}
use Rattle.std.proofs.lemmas.List.Sums.{fold_more}
use Rattle.std.proofs.lemmas.List.Elements.{All-tail}
use Rattle.qf_base.specs.Values.{Bounds, Term}
use Rattle.qf_lin.specs.declared.inequality.Inequality.{Inequality}
use Rattle.qf_lin.specs.declared.inequality.System.{System}
use Rattle.qf_lin.specs.Inequalities.{with_bound, tight_bound, tightened, row_swept, swept, is_empty, factor_of, IsProper, IsSmall, NamesVars}
use Rattle.qf_lin.proofs.Sums.{factor_of-first}
use Rattle.std.proofs.lemmas.Option.{get_or_from_slice_get}
use Rattle.qf_prop.specs.Sweeps.{Fits, NamesFactor, row_at, no_row, number_at}

-- ---- the factor of a term's variable

pub proper_tail : (t : Term) (terms : List Term) → IsProper (t ∷ terms) → IsProper terms
proper_tail t terms h = (All-tail (λ u. u.0 ≢ pos 0) t terms h.0, λ i j d before within. h.1 (suc i) (suc j) d (omega arith) (omega arith))

pub factor_of-member : (terms : List Term) (i : ℕ) (d : Term) → IsProper terms → i < length terms → factor_of terms (get_or terms i d).1 ≡ (get_or terms i d).0
factor_of-member [] i d h within = absurd (omega arith)
factor_of-member (t ∷ terms) zero d h within = factor_of-first (t ∷ terms) t.1 0 h within refl
factor_of-member (t ∷ terms) (suc i) d h within =
    let rest = factor_of-member terms i d (proper_tail t terms h) (omega arith) in
    let apart : t.1 ≢ (get_or terms i d).1 = h.1 zero (suc i) d (omega arith) within in
    rw (ne_eqb t.1 (get_or terms i d).1 apart) (omega (arith, ints, rest))

pub factor_not_zero : (terms : List Term) (i : ℕ) (d : Term) → IsProper terms → i < length terms → factor_of terms (get_or terms i d).1 ≢ pos 0
factor_not_zero terms i d h within e = h.0 i d within (sym (factor_of-member terms i d h within) ∙ e)

-- ---- folds

pub fold_stays : (row : Inequality) (terms : List Term) (bounds : Bounds) → is_empty bounds ≡ true → fold (tightened row) bounds terms ≡ bounds
fold_stays row [] bounds e = refl
fold_stays row (t ∷ terms) bounds e =
    let same : tightened row bounds t ≡ bounds = ap (λ (b : Bool). cond b bounds (with_bound bounds t.1 (tight_bound row bounds t.1))) e in
    ap (λ (m : Bounds). fold (tightened row) m terms) same ∙ fold_stays row terms bounds e

pub fold_rows_stay : (rows : List Inequality) (bounds : Bounds) → is_empty bounds ≡ true → fold row_swept bounds rows ≡ bounds
fold_rows_stay [] bounds e = refl
fold_rows_stay (row ∷ rows) bounds e =
    ap (λ (m : Bounds). fold row_swept m rows) (fold_stays row row.terms bounds e) ∙ fold_rows_stay rows bounds e

fold_parts : {X Y : Type 0} (f : Y → X → Y) (a : Y) (xs ys : List X) → fold f a (xs ++ ys) ≡ fold f (fold f a xs) ys
fold_parts f a [] ys = refl
fold_parts f a (x ∷ xs) ys = fold_parts f (f a x) xs ys

-- where the bounds are empty after some terms, the rest changes nothing
pub row_ended : (row : Inequality) (bounds after : Bounds) (i : ℕ) → after ≡ fold (tightened row) bounds (take i row.terms) → is_empty after ≡ true → after ≡ row_swept bounds row
row_ended row bounds after i is e =
    let whole = ap (fold (tightened row) bounds) (sym (take-append-drop i row.terms)) ∙ fold_parts (tightened row) bounds (take i row.terms) (drop i row.terms) in
    let stays = ap (λ (m : Bounds). fold (tightened row) m (drop i row.terms)) (sym is) ∙ fold_stays row (drop i row.terms) after e in
    sym (whole ∙ stays)

pub sweep_ended : (rows : List Inequality) (bounds after : Bounds) (i : ℕ) → after ≡ fold row_swept bounds (take i (rows ++ reverse rows)) → is_empty after ≡ true → after ≡ swept rows bounds
sweep_ended rows bounds after i is e =
    let all = rows ++ reverse rows in
    let whole = ap (fold row_swept bounds) (sym (take-append-drop i all)) ∙ fold_parts row_swept bounds (take i all) (drop i all) in
    let stays = ap (λ (m : Bounds). fold row_swept m (drop i all)) (sym is) ∙ fold_rows_stay (drop i all) after e in
    sym (whole ∙ stays)

-- one term more
pub term_more : (row : Inequality) (bounds before after : Bounds) (i : ℕ) (t : Term) → i < length row.terms → t ≡ get_or row.terms i t → before ≡ fold (tightened row) bounds (take i row.terms) → is_empty before ≡ false → after ≡ with_bound before t.1 (tight_bound row before t.1) → after ≡ fold (tightened row) bounds (take (i + 1) row.terms)
term_more row bounds before after i t within is so_far nonempty here =
    let one : after ≡ tightened row before t = here ∙ sym (ap (λ (b : Bool). cond b before (with_bound before t.1 (tight_bound row before t.1))) nonempty) in
    one ∙ (ap (λ (m : Bounds). tightened row m t) so_far
    ∙ (ap (tightened row (fold (tightened row) bounds (take i row.terms))) is ∙ sym (fold_more (tightened row) bounds row.terms i t within)))

-- ---- the inequality of a turn

length-twice : (rows : List Inequality) → length (rows ++ reverse rows) ≡ length rows + length rows
length-twice rows = omega (arith, length-append rows (reverse rows), length-reverse rows)

turn_forth : (k n : ℕ) → k < n → number_at k n - 1 ≡ k
turn_forth k n h = grind (arith, nat_tests)

turn_back : (k n : ℕ) → n ≤ k → k < n + n → number_at k n - 1 ≡ n - 1 - (k - n)
turn_back k n h l = grind (arith, nat_tests)

forth_or_back : (k n : ℕ) → (k < n) ⊎ (n ≤ k)
forth_or_back k n = grind arith

pub row_of_turn : (rows : List Inequality) (k : ℕ) → k < length rows + length rows → get_or (rows ++ reverse rows) k no_row ≡ row_at rows (number_at k (length rows))
row_of_turn rows k h =
    ⊎_elim
    (λ (forth : k < length rows).
    get_or_append_left rows (reverse rows) no_row k forth ∙ ap (λ (i : ℕ). get_or rows i no_row) (sym (turn_forth k (length rows) forth)))
    (λ (back : length rows ≤ k).
    get_or-append_right rows (reverse rows) k no_row back
    ∙ (get_or-reverse rows (k - length rows) no_row (omega arith) ∙ ap (λ (i : ℕ). get_or rows i no_row) (sym (turn_back k (length rows) back h))))
    (forth_or_back k (length rows))

pub row_more : (rows : List Inequality) (bounds before after : Bounds) (k : ℕ) → k < length rows + length rows → before ≡ fold row_swept bounds (take k (rows ++ reverse rows)) → after ≡ row_swept before (row_at rows (number_at k (length rows))) → after ≡ fold row_swept bounds (take (k + 1) (rows ++ reverse rows))
row_more rows bounds before after k h so_far here =
    let all = rows ++ reverse rows in
    here ∙ (ap (λ (m : Bounds). row_swept m (row_at rows (number_at k (length rows)))) so_far
    ∙ (ap (row_swept (fold row_swept bounds (take k all))) (sym (row_of_turn rows k h)) ∙ sym (fold_more row_swept bounds all k no_row (omega (arith, length-twice rows)))))

pub all_turns : (rows : List Inequality) (bounds after : Bounds) (k : ℕ) → length rows + length rows ≤ k → after ≡ fold row_swept bounds (take k (rows ++ reverse rows)) → after ≡ swept rows bounds
all_turns rows bounds after k h is =
    is ∙ ap (fold row_swept bounds) (take_all k (rows ++ reverse rows) (omega (arith, length-twice rows)))

-- ---- whether some interval is empty

pub empty_more : (bounds : Bounds) (i : ℕ) (d : ℤ × ℤ) → i < length bounds → is_empty (drop i bounds) ≡ (int_lt (get_or bounds i d).1 (get_or bounds i d).0 || is_empty (drop (i + 1) bounds))
empty_more bounds i d h = at_drop_more is_empty bounds i d h

-- ---- a row and a term of a system that fits

pub row_is : (rows : List Inequality) (n : ℕ) (row : Inequality) → slice_get rows (n - 1) ≡ Some row → row ≡ row_at rows n
row_is rows n row e = sym (get_or_from_slice_get rows (n - 1) row no_row e)

pub row_fits : (system : System) (bounds : Bounds) (n : ℕ) → 0 < n → n ≤ length system.inequalities → Fits system bounds → NamesVars (row_at system.inequalities n).terms (length bounds) × IsProper (row_at system.inequalities n).terms × (is_empty bounds ≡ false → IsSmall (row_at system.inequalities n) bounds)
row_fits system bounds n first last fits =
    let within : n - 1 < length system.inequalities = omega arith in
    let row = row_at system.inequalities n in (
      subst (λ vars. NamesVars row.terms vars) (sym fits.vars) (fits.formed.named (n - 1) no_row within),
      fits.formed.proper (n - 1) no_row within,
      λ nonempty. ((fits.usable nonempty).rows (n - 1) no_row within).small,
    )

pub term_named : (system : System) (bounds : Bounds) (n i : ℕ) (t : Term) → 0 < n → n ≤ length system.inequalities → Fits system bounds → i < length (row_at system.inequalities n).terms → t ≡ get_or (row_at system.inequalities n).terms i t → NamesFactor (row_at system.inequalities n) t.1 (length bounds)
term_named system bounds n i t first last fits within is =
    let row = row_at system.inequalities n in
    let facts = row_fits system bounds n first last fits in
    let named = facts.0 i t within in
    let factor = factor_not_zero row.terms i t facts.1 within in
    subst (λ (u : Term). NamesFactor row u.1 (length bounds)) (sym is) (named.0, named.1, factor)
