-- Domains, parameter by parameter.
use Rattle.std.specs.Prelude.{◌≡◌, ◌≢◌, ℕ, ◌+◌, ◌<◌, ◌≤◌, ℤ, ◌≤ℤ◌, Bool, true, false, cond, not, ◌&&◌, int_le, int_lt, List, [], ◌∷◌, ◌++◌, length, slice_set, slice_get, if◌then◌else◌}
use Rattle.std.specs.declared.option.Option.{Option}
use Rattle.std.specs.declared.option.Option.TheVariants.{Some, None}
use Rattle.std.specs.FinSet as set
use Rattle.std.specs.Ordering.{nat_cmp}
use Rattle.std.proofs.Common.{zero, suc, refl, sym, ap, ◌∙◌, arith, take, drop, get_or}
use Rattle.std.proofs.lemmas.Int.{ints}
use Rattle.std.proofs.lemmas.Option.{none-some, get_or_from_slice_get, slice_get_within}
use Rattle.std.proofs.lemmas.List.{drop_more, take_more_set, append_assoc, append-nil, take_all}
use Rattle.qf_base.specs.Values.{Interval, Bounds}
use Rattle.qf_base.proofs.BoxLaws.{In-is_in, length-In}
use Rattle.qf_point.specs.Points.{In, is_in}
use Rattle.qf_point.specs.declared.domains.DomainRow.{DomainRow}
use Rattle.qf_point.specs.declared.domains.DomainFault.{DomainFault}
use Rattle.qf_point.specs.declared.domains.DomainFault.TheVariants.{Empty, TooLarge, MissesOld}
use Rattle.std.proofs.lemmas.Bool.{false≢true}
use Rattle.qf_point.specs.Domains.{AreSmall, HasSmallEnds, row_of, is_small, fault_of, domain_of, or_else, first_fault, domains_from, sliced_from}

no_fault : (k : ℕ) (a b c : Bool)
    → cond {A = Option DomainFault} a (Some (Empty k)) (cond (not b) (Some (TooLarge k)) (cond (not c) (Some (MissesOld k)) None)) ≡ None → c ≡ true
no_fault k a b true e = refl
no_fault k true b false e = absurd (none-some _ (sym e))
no_fault k false false false e = absurd (none-some _ (sym e))
no_fault k false true false e = absurd (none-some _ (sym e))

both_le : (lo old hi : ℤ) → (int_le lo old && int_le old hi) ≡ true → (lo ≤ℤ old) × (old ≤ℤ hi)
both_le lo old hi e = (grind (arith, ints), grind (arith, ints))

in_domain : (k : ℕ) (old : ℤ) (row : Option DomainRow) → fault_of k old row ≡ None → ((domain_of old row).0 ≤ℤ old) × (old ≤ℤ (domain_of old row).1)
in_domain k old None e = (omega (arith, ints), omega (arith, ints))
in_domain k old (Some row) e =
    both_le row.lo old row.hi
    (no_fault k (int_lt row.hi row.lo) (is_small row.lo && is_small row.hi) (int_le row.lo old && int_le old row.hi) e)

or_else-None : (a b : Option DomainFault) → or_else a b ≡ None → (a ≡ None) × (b ≡ None)
or_else-None None b e = (refl, e)
or_else-None (Some f) b e = absurd (none-some _ (sym e))

-- where no parameter has a fault, the old constants lie in the domains
pub domains_hold : (k : ℕ) (olds : List ℤ) (rows : List DomainRow) → first_fault k olds rows ≡ None → In (domains_from k olds rows) olds
domains_hold k [] rows e = tt
domains_hold k (old ∷ olds) rows e =
    let parts = or_else-None (fault_of k old (row_of rows k)) (first_fault (k + 1) olds rows) e in
    let here = in_domain k old (row_of rows k) parts.0 in
    (here.0, here.1, domains_hold (k + 1) olds rows parts.1)

small_ends : (k : ℕ) (a b c : Bool)
    → cond {A = Option DomainFault} a (Some (Empty k)) (cond (not b) (Some (TooLarge k)) (cond (not c) (Some (MissesOld k)) None)) ≡ None → b ≡ true
small_ends k a true c e = refl
small_ends k true false c e = absurd (none-some _ (sym e))
small_ends k false false c e = absurd (none-some _ (sym e))

both_small : (a b : Bool) → (a && b) ≡ true → (a ≡ true) × (b ≡ true)
both_small true b e = (refl, e)
both_small false b e = absurd (false≢true e)

ends_of : (k : ℕ) (old : ℤ) (row : Option DomainRow) → is_small old ≡ true → fault_of k old row ≡ None → (is_small (domain_of old row).0 ≡ true) × (is_small (domain_of old row).1 ≡ true)
ends_of k old None is e = (is, is)
ends_of k old (Some row) is e =
    both_small (is_small row.lo) (is_small row.hi)
    (small_ends k (int_lt row.hi row.lo) (is_small row.lo && is_small row.hi) (int_le row.lo old && int_le old row.hi) e)

-- where the old constants are small and no parameter has a fault, the ends of the domains are small
pub domains_small : (k : ℕ) (olds : List ℤ) (rows : List DomainRow) → first_fault k olds rows ≡ None → AreSmall olds → HasSmallEnds (domains_from k olds rows)
domains_small k [] rows e small = tt
domains_small k (old ∷ olds) rows e small =
    let parts = or_else-None (fault_of k old (row_of rows k)) (first_fault (k + 1) olds rows) e in
    (ends_of k old (row_of rows k) small.0 parts.0, domains_small (k + 1) olds rows parts.1 small.1)

-- one more parameter
put_step : (region next rest whole : Bounds) (i : ℕ) (w : Interval) → i < length region → next ≡ slice_set region i w
    → take i region ++ w ∷ rest ≡ whole → take (i + 1) next ++ rest ≡ whole
put_step region next rest whole i w within is left =
    ap (λ f. f ++ rest) (ap (take (i + 1)) is ∙ take_more_set region i w within) ∙ (append_assoc (take i region) (w ∷ []) rest ∙ left)

pub domains_step : (olds : List ℤ) (rows : List DomainRow) (region next whole : Bounds) (i : ℕ) (d : ℤ) (w : Interval) → i < length olds → length region ≡ length olds
    → w ≡ domain_of (get_or olds i d) (row_of rows (i + 1)) → next ≡ slice_set region i w
    → take i region ++ domains_from (i + 1) (drop i olds) rows ≡ whole → take (i + 1) next ++ domains_from (i + 1 + 1) (drop (i + 1) olds) rows ≡ whole
domains_step olds rows region next whole i d w within len is_w is left =
    let rest = domains_from (i + 1 + 1) (drop (i + 1) olds) rows in
    put_step region next rest whole i w (omega arith) is
    (ap (λ v. take i region ++ v ∷ rest) is_w
    ∙ (ap (λ os. take i region ++ domains_from (i + 1) os rows) (sym (drop_more olds i d within)) ∙ left))

pub faults_step : (olds : List ℤ) (rows : List DomainRow) (i : ℕ) (d : ℤ) (whole : Option DomainFault) → i < length olds
    → fault_of (i + 1) (get_or olds i d) (row_of rows (i + 1)) ≡ None
    → first_fault (i + 1) (drop i olds) rows ≡ whole → first_fault (i + 1 + 1) (drop (i + 1) olds) rows ≡ whole
faults_step olds rows i d whole within none left =
    ap (λ f. or_else f (first_fault (i + 1 + 1) (drop (i + 1) olds) rows)) (sym none)
    ∙ (ap (λ os. first_fault (i + 1) os rows) (sym (drop_more olds i d within)) ∙ left)

pub fault_found : (olds : List ℤ) (rows : List DomainRow) (i : ℕ) (d : ℤ) (whole : Option DomainFault) (fault : DomainFault) → i < length olds
    → fault_of (i + 1) (get_or olds i d) (row_of rows (i + 1)) ≡ Some fault
    → first_fault (i + 1) (drop i olds) rows ≡ whole → whole ≡ Some fault
fault_found olds rows i d whole fault within found left =
    sym left ∙ (ap (λ os. first_fault (i + 1) os rows) (drop_more olds i d within)
    ∙ ap (λ f. or_else f (first_fault (i + 1 + 1) (drop (i + 1) olds) rows)) found)

pub sliced_step : (olds : List ℤ) (domains region next whole : Bounds) (needed : set.FinSet nat_cmp) (i n : ℕ) (o : ℤ) (r w : Interval) → n ≡ i
    → slice_get olds n ≡ Some o → slice_get domains i ≡ Some r → i < length region
    → w ≡ (if set.contains needed (i + 1) then r else (o, o)) → next ≡ slice_set region i w
    → take i region ++ sliced_from (i + 1) (drop i olds) (drop i domains) needed ≡ whole
    → take (i + 1) next ++ sliced_from (i + 1 + 1) (drop (i + 1) olds) (drop (i + 1) domains) needed ≡ whole
sliced_step olds domains region next whole needed i n o r w same old domain within is_w is left =
    let rest = sliced_from (i + 1 + 1) (drop (i + 1) olds) (drop (i + 1) domains) needed in
    let old_at : slice_get olds i ≡ Some o = ap (slice_get olds) (sym same) ∙ old in
    let olds_are : drop i olds ≡ o ∷ drop (i + 1) olds =
    drop_more olds i o (slice_get_within olds i o old_at) ∙ ap (λ v. v ∷ drop (i + 1) olds) (get_or_from_slice_get olds i o o old_at) in
    let domains_are : drop i domains ≡ r ∷ drop (i + 1) domains =
    drop_more domains i r (slice_get_within domains i r domain) ∙ ap (λ v. v ∷ drop (i + 1) domains) (get_or_from_slice_get domains i r r domain) in
    put_step region next rest whole i w within is
    (ap (λ v. take i region ++ v ∷ rest) is_w
    ∙ (ap (λ os. take i region ++ sliced_from (i + 1) os (r ∷ drop (i + 1) domains) needed) (sym olds_are)
    ∙ (ap (λ ds. take i region ++ sliced_from (i + 1) (drop i olds) ds needed) (sym domains_are) ∙ left)))

drop_none : {X : Type 0} (xs : List X) (i : ℕ) → length xs ≤ i → drop i xs ≡ []
drop_none [] zero h = refl
drop_none [] (suc i) h = refl
drop_none (x ∷ xs) zero h = absurd (omega arith)
drop_none (x ∷ xs) (suc i) h = drop_none xs i (omega arith)

taken : (region rest whole : Bounds) (i : ℕ) → length region ≤ i → rest ≡ [] → take i region ++ rest ≡ whole → region ≡ whole
taken region rest whole i past none left =
    sym (append-nil region) ∙ (ap (λ f. f ++ []) (sym (take_all i region past)) ∙ (ap (λ r. take i region ++ r) (sym none) ∙ left))

pub sliced_end : (olds : List ℤ) (domains region whole : Bounds) (needed : set.FinSet nat_cmp) (i : ℕ) → length olds ≤ i → length region ≤ i
    → take i region ++ sliced_from (i + 1) (drop i olds) (drop i domains) needed ≡ whole → region ≡ whole
sliced_end olds domains region whole needed i past_olds past left =
    taken region _ whole i past (ap (λ os. sliced_from (i + 1) os (drop i domains) needed) (drop_none olds i past_olds)) left

pub domains_end : (olds : List ℤ) (rows : List DomainRow) (region whole : Bounds) (i : ℕ) → length olds ≤ i → length region ≤ i
    → take i region ++ domains_from (i + 1) (drop i olds) rows ≡ whole → region ≡ whole
domains_end olds rows region whole i past_olds past left =
    taken region _ whole i past (ap (λ os. domains_from (i + 1) os rows) (drop_none olds i past_olds)) left

pub new_holds : (olds copy : List ℤ) (rows : List DomainRow) (region : Bounds) (i : ℕ) → length olds ≤ i → length region ≤ i
    → first_fault (i + 1) (drop i olds) rows ≡ first_fault 1 olds rows
    → take i region ++ domains_from (i + 1) (drop i olds) rows ≡ domains_from 1 olds rows → copy ≡ olds → In region copy × (AreSmall copy → HasSmallEnds region)
new_holds olds copy rows region i past_olds past faults left same =
    let none : first_fault 1 olds rows ≡ None = sym faults ∙ ap (λ os. first_fault (i + 1) os rows) (drop_none olds i past_olds) in
    rw (same, domains_end olds rows region (domains_from 1 olds rows) i past_olds past left) (domains_hold 1 olds rows none, domains_small 1 olds rows none)

-- a point of another length is in no box
pub other_length : (region : Bounds) (point : List ℤ) → length point ≢ length region → false ≡ is_in region point
other_length region point apart =
    elim (is_in region point) as (λ b. is_in region point ≡ b → false ≡ b) [
      | true ↦ λ e. absurd (apart (sym (length-In region point (In-is_in region point e))))
      | false ↦ λ e. refl
    ] refl

-- one more value of a point in a box
pub in_step : (region : Bounds) (point : List ℤ) (whole : Bool) (i : ℕ) (r : Interval) (v : ℤ) (b : Bool) → slice_get region i ≡ Some r → slice_get point i ≡ Some v
    → b ≡ (int_le r.0 v && int_le v r.1) → is_in (drop i region) (drop i point) ≡ whole
    → whole ≡ (b && is_in (drop (i + 1) region) (drop (i + 1) point))
in_step region point whole i r v b interval value is left =
    let region_is : drop i region ≡ r ∷ drop (i + 1) region =
    drop_more region i r (slice_get_within region i r interval) ∙ ap (λ x. x ∷ drop (i + 1) region) (get_or_from_slice_get region i r r interval) in
    let point_is : drop i point ≡ v ∷ drop (i + 1) point =
    drop_more point i v (slice_get_within point i v value) ∙ ap (λ x. x ∷ drop (i + 1) point) (get_or_from_slice_get point i v v value) in
    sym left ∙ (ap (λ (q : List ℤ). is_in (drop i region) q) point_is ∙ (ap (λ rs. is_in rs (v ∷ drop (i + 1) point)) region_is
    ∙ ap (λ c. c && is_in (drop (i + 1) region) (drop (i + 1) point)) (sym is)))
