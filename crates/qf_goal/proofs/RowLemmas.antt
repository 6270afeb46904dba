-- Rows and their places.
use Rattle.std.specs.Prelude.{◌≡◌, ℕ, zero, suc, ◌+◌, ◌-◌, ◌<◌, ◌≤◌, Bool, true, false, nat_lt, List, ◌++◌, length, slice_get, if◌then◌else◌}
use Rattle.std.specs.declared.option.Option.TheVariants.{Some}
use Rattle.std.proofs.Common.{refl, ap, sym, ◌∙◌, arith}
use Rattle.std.proofs.lemmas.Bool.Decides.{nat_tests}
use Rattle.std.proofs.lemmas.Option.{slice_get_within, same_Some}
use Rattle.std.proofs.lemmas.List.{length-append}
use Rattle.qf_base.specs.declared.names.RowName.{RowName}
use Rattle.qf_base.specs.declared.names.RowName.TheVariants.{Start, Inserted}
use Rattle.qf_ir.specs.Plan.{Plan, RowExists}
use Rattle.qf_ir.specs.Replay.{same_row}
use Rattle.qf_ir.specs.Repairs.{starts_from, inserts_from}
use Rattle.qf_goal.specs.Asked.{row_exists}
use Rattle.qf_goal.specs.RowPlaces.{plan_rows, row_place, row_at}

pub same_row-refl : (row : RowName) → same_row row row ≡ true
same_row-refl (Start k) = grind (arith, nat_tests)
same_row-refl (Inserted k) = grind (arith, nat_tests)

pub same_row_is : (a b : RowName) → same_row a b ≡ true → a ≡ b
same_row_is (Start k) (Start n) same = let e : k ≡ n = grind (arith, nat_tests) in ap (λ m. Start m) e
same_row_is (Start k) (Inserted n) same = absurd (cc)
same_row_is (Inserted k) (Start n) same = absurd (cc)
same_row_is (Inserted k) (Inserted n) same = let e : k ≡ n = grind (arith, nat_tests) in ap (λ m. Inserted m) e

pub row_exists_is : (plan : Plan) (row : RowName) → row_exists plan row ≡ true → RowExists plan row
row_exists_is plan (Start k) there = grind (arith, nat_tests)
row_exists_is plan (Inserted k) there = grind (arith, nat_tests)

pub length-starts : (first n : ℕ) → length (starts_from first n) ≡ n
length-starts first zero = refl
length-starts first (suc n) = ap suc (length-starts (first + 1) n)

pub length-inserts : (first n : ℕ) → length (inserts_from first n) ≡ n
length-inserts first zero = refl
length-inserts first (suc n) = ap suc (length-inserts (first + 1) n)

pub length-rows : (plan : Plan) → length (plan_rows plan) ≡ plan.starts + plan.inserted
length-rows plan = omega (arith, length-append (starts_from 1 plan.starts) (inserts_from 1 plan.inserted), length-starts 1 plan.starts, length-inserts 1 plan.inserted)

starts-get : (first n k : ℕ) (rest : List RowName) → k < n → slice_get (starts_from first n ++ rest) k ≡ Some (Start (first + k))
starts-get first zero k rest within = absurd (omega arith)
starts-get first (suc n) zero rest within = let e : first ≡ first + 0 = omega arith in ap (λ m. Some (Start m)) e
starts-get first (suc n) (suc k) rest within = let e : first + 1 + k ≡ first + suc k = omega arith in starts-get (first + 1) n k rest (omega arith) ∙ ap (λ m. Some (Start m)) e

past-starts : (first n k : ℕ) (rest : List RowName) → slice_get (starts_from first n ++ rest) (n + k) ≡ slice_get rest k
past-starts first zero k rest = let e : 0 + k ≡ k = omega arith in ap (λ m. slice_get rest m) e
past-starts first (suc n) k rest = let e : suc n + k ≡ suc (n + k) = omega arith in ap (λ m. slice_get (starts_from first (suc n) ++ rest) m) e ∙ past-starts (first + 1) n k rest

inserts-get : (first n k : ℕ) → k < n → slice_get (inserts_from first n) k ≡ Some (Inserted (first + k))
inserts-get first zero k within = absurd (omega arith)
inserts-get first (suc n) zero within = let e : first ≡ first + 0 = omega arith in ap (λ m. Some (Inserted m)) e
inserts-get first (suc n) (suc k) within = let e : first + 1 + k ≡ first + suc k = omega arith in inserts-get (first + 1) n k (omega arith) ∙ ap (λ m. Some (Inserted m)) e

-- a row stands at its place
pub row-at-place : (plan : Plan) (row : RowName) → RowExists plan row → slice_get (plan_rows plan) (row_place plan.starts row) ≡ Some row
row-at-place plan (Start k) exists =
    let e : 1 + (k - 1) ≡ k = omega arith in
    starts-get 1 plan.starts (k - 1) (inserts_from 1 plan.inserted) (omega arith) ∙ ap (λ m. Some (Start m)) e
row-at-place plan (Inserted k) exists =
    let e : 1 + (k - 1) ≡ k = omega arith in
    past-starts 1 plan.starts (k - 1) (inserts_from 1 plan.inserted) ∙ inserts-get 1 plan.inserted (k - 1) (omega arith) ∙ ap (λ m. Some (Inserted m)) e

-- the row of a place stands there
pub row-of-place : (plan : Plan) (place : ℕ) → place < plan.starts + plan.inserted → slice_get (plan_rows plan) place ≡ Some (row_at plan.starts place)
row-of-place plan place within = by_test (nat_lt place plan.starts) refl
  where
    by_test : (test : Bool) → nat_lt place plan.starts ≡ test → slice_get (plan_rows plan) place ≡ Some (if test then Start (place + 1) else Inserted (place - plan.starts + 1))
    by_test true is =
        let below : place < plan.starts = grind (arith, nat_tests) in
        let e : 1 + place ≡ place + 1 = omega arith in
        starts-get 1 plan.starts place (inserts_from 1 plan.inserted) below ∙ ap (λ m. Some (Start m)) e
    by_test false is =
        let past : plan.starts ≤ place = grind (arith, nat_tests) in
        let at : plan.starts + (place - plan.starts) ≡ place = omega arith in
        let e : 1 + (place - plan.starts) ≡ place - plan.starts + 1 = omega arith in
        ap (λ m. slice_get (plan_rows plan) m) (sym at)
        ∙ past-starts 1 plan.starts (place - plan.starts) (inserts_from 1 plan.inserted)
        ∙ inserts-get 1 plan.inserted (place - plan.starts) (omega arith) ∙ ap (λ m. Some (Inserted m)) e

place-of-row_at : (starts place : ℕ) → row_place starts (row_at starts place) ≡ place
place-of-row_at starts place = by_test (nat_lt place starts) refl
  where
    by_test : (test : Bool) → nat_lt place starts ≡ test → row_place starts (if test then Start (place + 1) else Inserted (place - starts + 1)) ≡ place
    by_test true is = omega arith
    by_test false is = let past : starts ≤ place = grind (arith, nat_tests) in omega arith

-- the place of the row that stands there
pub place-of-row : (plan : Plan) (place : ℕ) (row : RowName) → slice_get (plan_rows plan) place ≡ Some row → row_place plan.starts row ≡ place
place-of-row plan place row at =
    let within : place < plan.starts + plan.inserted = omega (arith, slice_get_within (plan_rows plan) place row at, length-rows plan) in
    let same : row_at plan.starts place ≡ row = same_Some _ _ (sym (row-of-place plan place within) ∙ at) in
    ap (row_place plan.starts) (sym same) ∙ place-of-row_at plan.starts place
