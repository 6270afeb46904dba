-- Domains that are read are of different parameters that the log has.
use Rattle.std.proofs.Common.{◌≡◌, ◌∙◌, ap, sym, refl, subst, ℕ, ℤ, ◌+◌, ◌^◌, ◌≤◌, Bool, true, false, ◌&&◌, ◌||◌, if◌then◌else◌, List, [], ◌∷◌, ◌++◌, Option, Some, None, Result, Ok, Err, arith}
use Rattle.std.specs.Prelude.{nat_eq, nat_lt, nat_le, IfOk, option_map, option_and_then}
use Rattle.std.specs.List.{list_any, AllByRecursion, IsDistinct}
use Rattle.std.proofs.lemmas.Bool.{false≢true}
use Rattle.std.proofs.lemmas.Bool.Decides.{nat_tests}
use Rattle.std.proofs.lemmas.Option.{none-some, same_Some}
use Rattle.std.proofs.lemmas.List.Folds.{list_any-append}
use Rattle.qf_csv.specs.Records.{Record}
use Rattle.qf_csv.specs.Numerals.{whole_of, is_plain, count_of}
use Rattle.qf_point.specs.declared.domains.DomainRow.{DomainRow}
use Rattle.qf_forms.specs.declared.fault.FormFault.{FormFault}
use Rattle.qf_forms.specs.declared.fault.FormFault.TheVariants as fault
use Rattle.qf_forms.specs.Domains.{Three, three_fields, param_of, bound_of, row_of, known_row, row_at, named_by, with_first, rows_from, IsKnown, params_of}
use Rattle.qf_forms.specs.Faults.{Gives}
use Rattle.qf_forms.proofs.Stating.{then-some, map-some, if-some}

least : (a b : Bool) → (a && b) ≡ true → a ≡ true
least true b e = refl
least false b e = absurd (false≢true e)

from-test : (n : ℕ) → nat_le 1 n ≡ true → 1 ≤ n
from-test n e = grind (arith, nat_tests)

count-known : (n k : ℕ) → (if nat_le 1 n && nat_lt n (2 ^ 32) then Some n else None) ≡ Some k → 1 ≤ k
count-known n k e =
    let there = if-some (nat_le 1 n && nat_lt n (2 ^ 32)) (Some n) k e in
    let first = least (nat_le 1 n) (nat_lt n (2 ^ 32)) there.0 in
    subst (λ (m : ℕ). 1 ≤ m) (same_Some n k there.1) (from-test n first)

count-least : (digits : List ℕ) (k : ℕ) → count_of digits ≡ Some k → 1 ≤ k
count-least digits k e =
    let there = if-some (is_plain digits) (option_and_then (λ (n : ℕ). if nat_le 1 n && nat_lt n (2 ^ 32) then Some n else None) (whole_of digits)) k e in
    then-some (1 ≤ k) (λ (n : ℕ). if nat_le 1 n && nat_lt n (2 ^ 32) then Some n else None) (whole_of digits) k (λ n _ is. count-known n k is) there.1

param-least : (field : List ℕ) (k : ℕ) → param_of field ≡ Some k → 1 ≤ k
param-least [] k e = absurd (none-some k e)
param-least (c ∷ digits) k e = count-least digits k (if-some _ (count_of digits) k e).1

abbrev made : ℕ → ℤ → ℤ → DomainRow
made k low high = record { param = k; lo = low; hi = high }

row-least : (t : Three) (row : DomainRow) → row_of t ≡ Some row → 1 ≤ row.param
row-least t row e =
    then-some (1 ≤ row.param) (λ (k : ℕ). option_and_then (λ low. option_map (λ high. made k low high) (bound_of t.2)) (bound_of t.1)) (param_of t.0) row
    (λ k param more. then-some (1 ≤ row.param) (λ low. option_map (λ high. made k low high) (bound_of t.2)) (bound_of t.1) row
    (λ low _ last. map-some (1 ≤ row.param) (λ high. made k low high) (bound_of t.2) row
    (λ high _ is. subst (λ (r : DomainRow). 1 ≤ r.param) is (param-least t.0 k param)) last) more) e

-- what is known of a record that is read
record Named (params : ℕ) (earlier : List ℕ) (row : DomainRow) : Type 0 where
  known : IsKnown params row
  new : list_any (nat_eq row.param) earlier ≡ false

not-past : (n params : ℕ) → nat_lt params n ≡ false → n ≤ params
not-past n params e = grind (arith, nat_tests)

row-named : (params n : ℕ) (earlier : List ℕ) (r row : DomainRow) (past seen : Bool) → 1 ≤ r.param → nat_lt params r.param ≡ past → list_any (nat_eq r.param) earlier ≡ seen
    → ◌≡◌ {A = Result DomainRow FormFault} (if past then Err (fault.UnknownParam n) else if seen then Err (fault.RepeatedParam n) else Ok r) (Ok row) → Named params earlier row
row-named params n earlier r row true seen least a b e = cc
row-named params n earlier r row false true least a b e = cc
row-named params n earlier r row false false least a b e =
    let same : r ≡ row = cc in
    subst (λ (x : DomainRow). Named params earlier x) same (record { known = (least, not-past r.param params a); new = b })

known-named : (params n : ℕ) (earlier : List ℕ) (o : Option DomainRow) (row : DomainRow) → ((r : DomainRow) → o ≡ Some r → 1 ≤ r.param) → known_row params n earlier o ≡ Ok row → Named params earlier row
known-named params n earlier None row least e = cc
known-named params n earlier (Some r) row least e = row-named params n earlier r row (nat_lt params r.param) (list_any (nat_eq r.param) earlier) (least r refl) refl refl e

at-named : (params n : ℕ) (earlier : List ℕ) (t : Option Three) (row : DomainRow) → row_at params n earlier t ≡ Ok row → Named params earlier row
at-named params n earlier None row e = cc
at-named params n earlier (Some fields) row e = known-named params n earlier (row_of fields) row (λ r is. row-least fields r is) e

first-ok : (first : Result DomainRow FormFault) (more : Result (List DomainRow) FormFault) (all : List DomainRow) → with_first first more ≡ Ok all
    → (row : DomainRow) × (rest : List DomainRow) × (first ≡ Ok row) × (more ≡ Ok rest) × (all ≡ row ∷ rest)
first-ok (Err f) more all e = cc
first-ok (Ok row) (Ok rest) all e = (row, rest, refl, refl, cc)
first-ok (Ok row) (Err f) all e = cc

-- what is known of records that are read behind these parameters
record AllNamed (params : ℕ) (earlier : List ℕ) (rows : List DomainRow) : Type 0 where
  known : AllByRecursion (IsKnown params) rows
  new : AllByRecursion (λ (row : DomainRow). list_any (nat_eq row.param) earlier ≡ false) rows
  once : IsDistinct nat_eq (params_of rows)

neither : (a b : Bool) → (a || (b || false)) ≡ false → (a ≡ false) × (b ≡ false)
neither true b e = absurd (false≢true (sym e))
neither false true e = absurd (false≢true (sym e))
neither false false e = (refl, refl)

turned : (n k : ℕ) → nat_eq n k ≡ false → nat_eq k n ≡ false
turned n k e = grind (arith, nat_tests)

apart : (k : ℕ) (earlier : List ℕ) (n : ℕ) → list_any (nat_eq n) (earlier ++ k ∷ []) ≡ false → (list_any (nat_eq n) earlier ≡ false) × (nat_eq k n ≡ false)
apart k earlier n e =
    let parts = neither (list_any (nat_eq n) earlier) (nat_eq n k) (sym (list_any-append (nat_eq n) earlier (k ∷ [])) ∙ e) in
    (parts.0, turned n k parts.1)

behind : (k : ℕ) (earlier : List ℕ) (rows : List DomainRow) → AllByRecursion (λ (row : DomainRow). list_any (nat_eq row.param) (earlier ++ k ∷ []) ≡ false) rows
    → AllByRecursion (λ (row : DomainRow). list_any (nat_eq row.param) earlier ≡ false) rows × AllByRecursion (λ n. nat_eq k n ≡ false) (params_of rows)
behind k earlier [] h = (tt, tt)
behind k earlier (row ∷ rows) h =
    let here = apart k earlier row.param h.0 in
    let more = behind k earlier rows h.1 in
    ((here.0, more.0), (here.1, more.1))

none-named : (params : ℕ) (earlier : List ℕ) → AllNamed params earlier []
unfolding IsDistinct
none-named params earlier = record { known = tt; new = tt; once = tt }

one-more : (params : ℕ) (earlier : List ℕ) (row : DomainRow) (rows : List DomainRow) → Named params earlier row → AllNamed params (earlier ++ row.param ∷ []) rows → AllNamed params earlier (row ∷ rows)
unfolding IsDistinct
one-more params earlier row rows first others =
    let more = behind row.param earlier rows others.new in
    record { known = (first.known, others.known); new = (first.new, more.0); once = (more.1, others.once) }

all-named : (params n : ℕ) (earlier : List ℕ) (rs : List Record) (rows : List DomainRow) → rows_from params n earlier rs ≡ Ok rows → AllNamed params earlier rows
all-named params n earlier [] [] e = none-named params earlier
all-named params n earlier [] (row ∷ rows) e = cc
all-named params n earlier (r ∷ rs) rows e =
    let first = row_at params n earlier (three_fields r) in
    let h = first-ok first (rows_from params (n + 1) (earlier ++ named_by first) rs) rows e in
    let there = ap (λ (o : Result DomainRow FormFault). rows_from params (n + 1) (earlier ++ named_by o) rs) (sym h.2) ∙ h.3 in
    rw h.4 (one-more params earlier h.0 h.1 (at-named params n earlier (three_fields r) h.0 h.2) (all-named params (n + 1) (earlier ++ h.0.param ∷ []) rs h.1 there))

pub known-read : (result : Result (List DomainRow) FormFault) (params : ℕ) (rs : List Record) → Gives result (rows_from params 1 [] rs) → IfOk result (λ rows. AllByRecursion (IsKnown params) rows)
known-read (Ok rows) params rs given = (all-named params 1 [] rs rows given).known
known-read (Err f) params rs given = tt

pub once-read : (result : Result (List DomainRow) FormFault) (params : ℕ) (rs : List Record) → Gives result (rows_from params 1 [] rs) → IfOk result (λ rows. IsDistinct nat_eq (params_of rows))
once-read (Ok rows) params rs given = (all-named params 1 [] rs rows given).once
once-read (Err f) params rs given = tt

pub none-distinct : IsDistinct nat_eq []
unfolding IsDistinct
none-distinct = tt
