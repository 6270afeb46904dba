-- Which complaint is about a row.
use Rattle.std.specs.Prelude.{◌≡◌, ◌≢◌, ℕ, zero, suc, ◌+◌, ◌<◌, Bool, true, false, not, ◌||◌, cond, List, [], ◌∷◌, ◌++◌, length, map, slice_get, slice_set, replicate, is_some, option_map, if◌then◌else◌}
use Rattle.std.specs.declared.option.Option.{Option}
use Rattle.std.specs.declared.option.Option.TheVariants.{Some, None}
use Rattle.std.specs.List.{list_any, position_from}
use Rattle.std.proofs.Common.{refl, ap, sym, ◌∙◌, arith, take, drop}
use Rattle.std.proofs.lemmas.Option.{slice_get-map, same_Some, slice_get_within, get_or_from_slice_get}
use Rattle.std.proofs.lemmas.List.{length-map, length-take, drop_more}
use Rattle.qf_base.specs.declared.names.RowName.{RowName}
use Rattle.qf_ir.specs.Plan.{Plan, RowExists}
use Rattle.qf_ir.specs.Replay.{same_row}
use Rattle.qf_forms.specs.Stated.{stated_by}
use Rattle.qf_forms.specs.declared.complaint.Complaint.{Complaint}
use Rattle.qf_goal.specs.declared.fault.GoalFault.{GoalFault}
use Rattle.qf_goal.specs.declared.fault.GoalFault.TheVariants.{UnknownRow, RepeatedRow}
use Rattle.qf_goal.specs.Asked.{is_row, row_exists, stated_fault, fault_of, or_else, first_fault}
use Rattle.qf_goal.specs.RowPlaces.{plan_rows, row_place, mark_of, marks_of, rows_in}
use Rattle.qf_goal.proofs.ListLemmas.{take-more}
use Rattle.qf_goal.proofs.RowLemmas.{length-rows, same_row-refl, same_row_is, row-at-place, place-of-row}

-- ---- places that pass a test

pub position-found : {X : Type 0} (p : X → Bool) (first : ℕ) (xs : List X) → is_some (position_from p first xs) ≡ list_any p xs
position-found p first [] = refl
position-found p first (x ∷ xs) =
    elim (p x) as (λ b. is_some (cond b (Some first) (position_from p (first + 1) xs)) ≡ (b || list_any p xs)) [ true ↦ refl | false ↦ position-found p (first + 1) xs ]

pub position-none : {X : Type 0} (p : X → Bool) (first : ℕ) (xs : List X) → list_any p xs ≡ false → position_from p first xs ≡ None
position-none p first [] none = refl
position-none p first (x ∷ xs) none =
    elim (p x) as (λ b. (b || list_any p xs) ≡ false → cond b (Some first) (position_from p (first + 1) xs) ≡ None)
    [ true ↦ λ none. absurd (cc) | false ↦ λ none. position-none p (first + 1) xs none ] none

-- an item behind the others is found where it passes and none before it does
pub position-push : {X : Type 0} (p : X → Bool) (first : ℕ) (xs : List X) (y : X) → list_any p xs ≡ false → p y ≡ true → position_from p first (xs ++ y ∷ []) ≡ Some (first + length xs)
position-push p first [] y none passes = let e : first ≡ first + 0 = omega arith in ap (λ b. cond b (Some first) None) passes ∙ ap Some e
position-push p first (x ∷ xs) y none passes =
    let e : first + 1 + length xs ≡ first + suc (length xs) = omega arith in
    elim (p x) as (λ b. (b || list_any p xs) ≡ false → cond b (Some first) (position_from p (first + 1) (xs ++ y ∷ [])) ≡ Some (first + suc (length xs)))
    [ true ↦ λ none. absurd (cc) | false ↦ λ none. position-push p (first + 1) xs y none passes ∙ ap Some e ] none

-- .. and an item that doesn't pass changes nothing
pub position-other : {X : Type 0} (p : X → Bool) (first : ℕ) (xs : List X) (y : X) → p y ≡ false → position_from p first (xs ++ y ∷ []) ≡ position_from p first xs
position-other p first [] y fails = ap (λ b. cond b (Some first) None) fails
position-other p first (x ∷ xs) y fails = ap (λ rest. cond (p x) (Some first) rest) (position-other p (first + 1) xs y fails)

-- ---- marks

-- all but one item have the same value
map-but-one : {X Y : Type 0} (f g : X → Y) (xs : List X) (place : ℕ) (x : X) → slice_get xs place ≡ Some x
    → ((k : ℕ) (y : X) → slice_get xs k ≡ Some y → k ≢ place → g y ≡ f y) → map g xs ≡ slice_set (map f xs) place (g x)
map-but-one f g [] place x at others = absurd (cc)
map-but-one {X} {Y} f g (y ∷ xs) zero x at others =
    let e : y ≡ x = cc in
    ap (λ z. g z ∷ map g xs) e ∙ ap (λ rest. g x ∷ rest) (all_same xs (λ k z is. others (suc k) z is (λ same. absurd (omega arith))))
  where
    all_same : (zs : List X) → ((k : ℕ) (z : X) → slice_get zs k ≡ Some z → g z ≡ f z) → map g zs ≡ map f zs
    all_same [] each = refl
    all_same (z ∷ zs) each = ap (λ v. v ∷ map g zs) (each 0 z refl) ∙ ap (λ rest. f z ∷ rest) (all_same zs (λ k w is. each (suc k) w is))
map-but-one f g (y ∷ xs) (suc place) x at others =
    ap (λ v. v ∷ map g xs) (others 0 y refl (λ same. absurd (omega arith)))
    ∙ ap (λ rest. f y ∷ rest) (map-but-one f g xs place x at (λ k z is apart. others (suc k) z is (λ same. apart (omega arith))))

-- without complaints there are no marks
pub no_marks : (plan : Plan) → marks_of plan [] ≡ replicate (plan.starts + plan.inserted) None
no_marks plan = none_of (plan_rows plan) ∙ ap (λ n. replicate n None) (length-rows plan)
  where
    none_of : (rows : List RowName) → map (mark_of []) rows ≡ replicate (length rows) None
    none_of [] = refl
    none_of (row ∷ rows) = ap (λ rest. None ∷ rest) (none_of rows)

-- the mark of a row
pub mark-at : (plan : Plan) (rows : List RowName) (row : RowName) → RowExists plan row → slice_get (marks_of plan rows) (row_place plan.starts row) ≡ Some (mark_of rows row)
mark-at plan rows row exists =
    slice_get-map (mark_of rows) (plan_rows plan) (row_place plan.starts row) ∙ ap (λ o. option_map (mark_of rows) o) (row-at-place plan row exists)

-- one more complaint
pub mark-more : (plan : Plan) (rows : List RowName) (row : RowName) → RowExists plan row → list_any (is_row row) rows ≡ false
    → marks_of plan (rows ++ row ∷ []) ≡ slice_set (marks_of plan rows) (row_place plan.starts row) (Some (length rows))
mark-more plan rows row exists fresh =
    map-but-one (mark_of rows) (mark_of (rows ++ row ∷ [])) (plan_rows plan) (row_place plan.starts row) row (row-at-place plan row exists) others
    ∙ ap (λ mark. slice_set (marks_of plan rows) (row_place plan.starts row) mark) (position-push (is_row row) 0 rows row fresh (same_row-refl row) ∙ ap Some here)
  where
    here : 0 + length rows ≡ length rows
    here = omega arith

    others : (k : ℕ) (other : RowName) → slice_get (plan_rows plan) k ≡ Some other → k ≢ row_place plan.starts row → mark_of (rows ++ row ∷ []) other ≡ mark_of rows other
    others k other at apart = position-other (is_row other) 0 rows row (by_test (same_row row other) refl)
      where
        by_test : (test : Bool) → same_row row other ≡ test → test ≡ false
        by_test true is = absurd (apart (sym (place-of-row plan k other at) ∙ ap (row_place plan.starts) (sym (same_row_is row other is))))
        by_test false is = refl

pub length-marks : (plan : Plan) (rows : List RowName) → length (marks_of plan rows) ≡ plan.starts + plan.inserted
length-marks plan rows = length-map (plan_rows plan) (mark_of rows) ∙ length-rows plan

-- a row is marked where an earlier complaint is about it
pub marked_is : (plan : Plan) (rows : List RowName) (row : RowName) (marks : List (Option ℕ)) (place : ℕ) (mark : Option ℕ) → RowExists plan row → place ≡ row_place plan.starts row
    → slice_get marks place ≡ Some mark → marks ≡ marks_of plan rows → is_some mark ≡ list_any (is_row row) rows
marked_is plan rows row marks place mark exists is_place at is =
    let same : mark ≡ mark_of rows row =
    same_Some _ _ (sym at ∙ ap (λ ms. slice_get ms place) is ∙ ap (λ p. slice_get (marks_of plan rows) p) is_place ∙ mark-at plan rows row exists) in
    ap is_some same ∙ position-found (is_row row) 0 rows

-- ---- faults

pub unknown_row : (plan : Plan) (earlier : List RowName) (number : ℕ) (complaint : Complaint) → row_exists plan complaint.row ≡ false
    → Some (UnknownRow number) ≡ fault_of plan earlier number complaint
unknown_row plan earlier number complaint missing = rw missing refl

pub repeated_row : (plan : Plan) (earlier : List RowName) (number : ℕ) (complaint : Complaint) → row_exists plan complaint.row ≡ true
    → list_any (is_row complaint.row) earlier ≡ true → Some (RepeatedRow number) ≡ fault_of plan earlier number complaint
repeated_row plan earlier number complaint there before = rw (there, before) refl

pub other_fault : (plan : Plan) (earlier : List RowName) (number : ℕ) (complaint : Complaint) (fault : Option GoalFault) → row_exists plan complaint.row ≡ true
    → list_any (is_row complaint.row) earlier ≡ false → fault ≡ stated_fault plan.columns number (stated_by complaint.wish) → fault ≡ fault_of plan earlier number complaint
other_fault plan earlier number complaint fault there fresh is = rw (there, fresh) is

-- a complaint without a fault is about a row of its own
pub fresh_row : (plan : Plan) (earlier : List RowName) (number : ℕ) (complaint : Complaint) → fault_of plan earlier number complaint ≡ None → list_any (is_row complaint.row) earlier ≡ false
fresh_row plan earlier number complaint none = by_test (list_any (is_row complaint.row) earlier) refl
  where
    by_test : (test : Bool) → list_any (is_row complaint.row) earlier ≡ test → test ≡ false
    by_test false is = refl
    by_test true is =
        absurd (elim (row_exists plan complaint.row) as (λ b. (if not b then Some (UnknownRow number) else if true then Some (RepeatedRow number)
        else stated_fault plan.columns number (stated_by complaint.wish)) ≡ None → ⊥) [ true ↦ λ e. cc | false ↦ λ e. cc ] (rw is at none))

-- one more complaint
pub marks_step : (plan : Plan) (complaints : List Complaint) (whole : Option GoalFault) (i place : ℕ) (complaint : Complaint) (marks next : List (Option ℕ)) → slice_get complaints i ≡ Some complaint
    → marks ≡ marks_of plan (take i (rows_in complaints)) → first_fault plan (take i (rows_in complaints)) (i + 1) (drop i complaints) ≡ whole
    → fault_of plan (take i (rows_in complaints)) (i + 1) complaint ≡ None → RowExists plan complaint.row
    → place ≡ row_place plan.starts complaint.row → next ≡ slice_set marks place (Some i)
    → (next ≡ marks_of plan (take (i + 1) (rows_in complaints))) × (first_fault plan (take (i + 1) (rows_in complaints)) (i + 1 + 1) (drop (i + 1) complaints) ≡ whole)
marks_step plan complaints whole i place complaint marks next at is left none exists is_place grown =
    let earlier : List RowName = take i (rows_in complaints) in
    let within : i < length complaints = slice_get_within complaints i complaint at in
    let more : take (i + 1) (rows_in complaints) ≡ earlier ++ complaint.row ∷ [] =
    take-more (rows_in complaints) i complaint.row (slice_get-map (λ (c : Complaint). c.row) complaints i ∙ ap (λ o. option_map (λ (c : Complaint). c.row) o) at) in
    let count : length earlier ≡ i = omega (arith, length-take i (rows_in complaints), length-map complaints (λ (c : Complaint). c.row)) in
    let opened : drop i complaints ≡ complaint ∷ drop (i + 1) complaints = drop_more complaints i complaint within ∙ ap (λ c. c ∷ drop (i + 1) complaints) (get_or_from_slice_get complaints i complaint complaint at) in (
      grown ∙ ap (λ ms. slice_set ms place (Some i)) is ∙ ap (λ p. slice_set (marks_of plan earlier) p (Some i)) is_place
          ∙ ap (λ n. slice_set (marks_of plan earlier) (row_place plan.starts complaint.row) (Some n)) (sym count)
          ∙ sym (mark-more plan earlier complaint.row exists (fresh_row plan earlier (i + 1) complaint none)) ∙ ap (marks_of plan) (sym more),
      ap (λ rows. first_fault plan rows (i + 1 + 1) (drop (i + 1) complaints)) more
          ∙ ap (λ fault. or_else fault (first_fault plan (earlier ++ complaint.row ∷ []) (i + 1 + 1) (drop (i + 1) complaints))) (sym none)
          ∙ ap (λ cs. first_fault plan earlier (i + 1) cs) (sym opened) ∙ left,
    )

-- the fault of the next complaint is the first one
pub fault_met : (plan : Plan) (complaints : List Complaint) (whole : Option GoalFault) (i : ℕ) (complaint : Complaint) (fault : GoalFault) → slice_get complaints i ≡ Some complaint
    → first_fault plan (take i (rows_in complaints)) (i + 1) (drop i complaints) ≡ whole
    → Some fault ≡ fault_of plan (take i (rows_in complaints)) (i + 1) complaint → whole ≡ Some fault
fault_met plan complaints whole i complaint fault at left is =
    let earlier : List RowName = take i (rows_in complaints) in
    let within : i < length complaints = slice_get_within complaints i complaint at in
    let opened : drop i complaints ≡ complaint ∷ drop (i + 1) complaints = drop_more complaints i complaint within ∙ ap (λ c. c ∷ drop (i + 1) complaints) (get_or_from_slice_get complaints i complaint complaint at) in
    sym left ∙ ap (λ cs. first_fault plan earlier (i + 1) cs) opened
    ∙ ap (λ f. or_else f (first_fault plan (earlier ++ complaint.row ∷ []) (i + 1 + 1) (drop (i + 1) complaints))) (sym is)
