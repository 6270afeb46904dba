-- Complaints that are read state names once, and small numbers.
use Rattle.std.proofs.Common.{◌≡◌, ◌∙◌, ap, refl, subst, ℕ, suc, ◌+◌, ◌^◌, Bool, true, false, ◌&&◌, if◌then◌else◌, List, [], ◌∷◌, length, Option, Some, None, Result, Ok, Err, arith}
use Rattle.std.specs.Prelude.{ℤ, pos, neg_ℤ, ◌≤ℤ◌, int_le, IfOk, option_map, option_and_then}
use Rattle.std.specs.List.{AllByRecursion}
use Rattle.std.specs.Str.{str_to_ascii_lowercase}
use Rattle.std.proofs.lemmas.Bool.{false≢true}
use Rattle.std.proofs.lemmas.Int.{ints}
use Rattle.std.proofs.lemmas.Option.{none-some, same_Some}
use lib.Chars.{codes}
use Rattle.serde_json.specs.Data.{Data, Items, no_items, item, Members, no_members, member}
use Rattle.serde_json.specs.Find.{get_member, as_str, as_object, as_number, as_i64}
use Rattle.serde_json.specs.View.{items_view, view as data_of}
use Rattle.serde_json.specs.declared.value.Value.{Value}
use Rattle.qf_base.specs.declared.names.RowName.{RowName}
use Rattle.qf_csv.specs.Numerals.{within}
use Rattle.qf_ir.specs.Fits.{Small}
use Rattle.qf_forms.specs.declared.complaint.WishCell.{WishCell}
use Rattle.qf_forms.specs.declared.complaint.WishCell.TheVariants as cell
use Rattle.qf_forms.specs.declared.complaint.Wish.{Wish}
use Rattle.qf_forms.specs.declared.complaint.Wish.TheVariants.{Absent, Present}
use Rattle.qf_forms.specs.declared.complaint.Complaint.{Complaint}
use Rattle.qf_forms.specs.declared.fault.FormFault.{FormFault}
use Rattle.qf_forms.specs.Complaints.{Stated, state_of, value_by, value_of, is_ascii, stated_in, are_distinct, if_distinct, stated_of, wish_of, all_known, wish_in, row_in, complaint_in, complaint_of, with_first, complaints_from}
use Rattle.qf_forms.specs.Faults.{Gives}
use Rattle.qf_forms.specs.Stated.{stated_by, StatesNamesOnce, IsSmallValue, StatesSmallNumbers}

-- ---- what is there, taken apart

pub then-some : {A B : Type 0} (P : Type 0) (f : A → Option B) (o : Option A) (y : B) → ((x : A) → o ≡ Some x → f x ≡ Some y → P) → option_and_then f o ≡ Some y → P
then-some P f None y k e = absurd (none-some y e)
then-some P f (Some x) y k e = k x refl e

pub map-some : {A B : Type 0} (P : Type 0) (f : A → B) (o : Option A) (y : B) → ((x : A) → o ≡ Some x → f x ≡ y → P) → option_map f o ≡ Some y → P
map-some P f None y k e = absurd (none-some y e)
map-some P f (Some x) y k e = k x refl (same_Some (f x) y e)

pub if-some : {A : Type 0} (b : Bool) (o : Option A) (y : A) → (if b then o else None) ≡ Some y → (b ≡ true) × (o ≡ Some y)
if-some true o y e = (refl, e)
if-some false o y e = absurd (none-some y e)

-- ---- numbers

le-from : (a b : ℤ) → int_le a b ≡ true → a ≤ℤ b
le-from a b h = grind (arith, ints)

both : (a b : Bool) → (a && b) ≡ true → (a ≡ true) × (b ≡ true)
both true true e = (refl, refl)
both true false e = absurd (false≢true e)
both false b e = absurd (false≢true e)

abbrev most : ℤ
most = pos (2 ^ 50)

within-small : (x z : ℤ) → within (neg_ℤ most) most x ≡ Some z → Small z
within-small x z e =
    let there = if-some (int_le (neg_ℤ most) x && int_le x most) (Some x) z e in
    let ends = both (int_le (neg_ℤ most) x) (int_le x most) there.0 in
    subst Small (same_Some x z there.1) (record { low = le-from (neg_ℤ most) x ends.0; high = le-from x most ends.1 })

value-small : (o : Option ℤ) (text : Option (List ℕ)) (v : WishCell) → value_by o text ≡ Some v → IsSmallValue v
value-small (Some x) text v e =
    map-some (IsSmallValue v) cell.Int (within (neg_ℤ most) most x) v (λ z there is. subst IsSmallValue is (within-small x z there)) e
value-small None text v e = map-some (IsSmallValue v) cell.Text text v (λ t there is. subst IsSmallValue is tt) e

-- ---- one complaint

abbrev AreSmall : List Stated → Type 0
AreSmall stated = AllByRecursion (λ (s : Stated). IsSmallValue s.1) stated

stated-small : (ms : Members) (stated : List Stated) → stated_in ms ≡ Some stated → AreSmall stated
stated-small no_members stated e = subst AreSmall (same_Some [] stated e) tt
stated-small (member k d ms) stated e =
    let there = if-some (is_ascii k) (option_and_then (λ value. option_map (λ others. (str_to_ascii_lowercase k, value) ∷ others) (stated_in ms)) (value_of d)) stated e in
    then-some (AreSmall stated) (λ value. option_map (λ others. (str_to_ascii_lowercase k, value) ∷ others) (stated_in ms)) (value_of d) stated
    (λ value is more. map-some (AreSmall stated) (λ others. (str_to_ascii_lowercase k, value) ∷ others) (stated_in ms) stated
    (λ others rest all. subst AreSmall all (value-small (option_and_then as_i64 (as_number d)) (as_str d) value is, stated-small ms others rest)) more) there.1

-- what is stated is sound
record IsSound (stated : List Stated) : Type 0 where
  once : are_distinct stated ≡ true
  small : AreSmall stated

stated-sound : (set : Option Data) (stated : List Stated) → stated_of set ≡ Some stated → IsSound stated
stated-sound None stated e = subst IsSound (same_Some [] stated e) (record { once = refl; small = tt })
stated-sound (Some d) stated e =
    then-some (IsSound stated) if_distinct (option_and_then stated_in (as_object d)) stated
    (λ found is same.
    let there = if-some (are_distinct found) (Some found) stated same in
    then-some (IsSound stated) stated_in (as_object d) found
    (λ ms _ read. subst IsSound (same_Some found stated there.1) (record { once = there.0; small = stated-small ms found read })) is) e

wish-sound : (is_present : Bool) (stated : List Stated) (wish : Wish) → IsSound stated → wish_of is_present stated ≡ Some wish → IsSound (stated_by wish)
wish-sound true stated wish sound e = subst (λ (w : Wish). IsSound (stated_by w)) (same_Some (Present stated) wish e) sound
wish-sound false [] wish sound e = subst (λ (w : Wish). IsSound (stated_by w)) (same_Some Absent wish e) sound
wish-sound false (s ∷ others) wish sound e = absurd (none-some wish e)

wish-in-sound : (ms : Members) (wish : Wish) → wish_in ms ≡ Some wish → IsSound (stated_by wish)
wish-in-sound ms wish e =
    then-some (IsSound (stated_by wish)) (λ is_present. option_and_then (wish_of is_present) (stated_of (get_member (codes "set") ms))) (state_of (get_member (codes "state") ms)) wish
    (λ is_present _ more. then-some (IsSound (stated_by wish)) (wish_of is_present) (stated_of (get_member (codes "set") ms)) wish
    (λ stated there is. wish-sound is_present stated wish (stated-sound (get_member (codes "set") ms) stated there) is) more) e

complaint-in-sound : (ms : Members) (c : Complaint) → complaint_in ms ≡ Some c → IsSound (stated_by c.wish)
complaint-in-sound ms c e =
    let there = if-some (all_known ms) (option_and_then (λ row. option_map (λ wish. record { row = row; wish = wish }) (wish_in ms)) (row_in ms)) c e in
    then-some (IsSound (stated_by c.wish)) (λ (row : RowName). option_map (λ (wish : Wish). let made : Complaint = record { row = row; wish = wish } in made) (wish_in ms)) (row_in ms) c
    (λ row _ more. map-some (IsSound (stated_by c.wish)) (λ (wish : Wish). let made : Complaint = record { row = row; wish = wish } in made) (wish_in ms) c
    (λ wish found is. subst (λ (x : Complaint). IsSound (stated_by x.wish)) is (wish-in-sound ms wish found)) more) there.1

complaint-sound : (d : Data) (c : Complaint) → complaint_of d ≡ Some c → IsSound (stated_by c.wish)
complaint-sound d c e = then-some (IsSound (stated_by c.wish)) complaint_in (as_object d) c (λ ms _ is. complaint-in-sound ms c is) e

-- ---- all complaints

first-ok : (o : Option Complaint) (i : ℕ) (more : Result (List Complaint) FormFault) (all : List Complaint) → with_first o i more ≡ Ok all
    → (c : Complaint) × (rest : List Complaint) × (o ≡ Some c) × (more ≡ Ok rest) × (all ≡ c ∷ rest)
first-ok None i more all e = cc
first-ok (Some c) i (Ok rest) all e = (c, rest, refl, refl, cc)
first-ok (Some c) i (Err f) all e = cc

names-once : (i : ℕ) (items : Items) (all : List Complaint) → complaints_from i items ≡ Ok all → AllByRecursion StatesNamesOnce all
names-once i no_items [] e = tt
names-once i no_items (c ∷ cs) e = cc
names-once i (item d ds) all e =
    let h = first-ok (complaint_of d) i (complaints_from (i + 1) ds) all e in
    rw h.4 ((complaint-sound d h.0 h.2).once, names-once (i + 1) ds h.1 h.3)

numbers-small : (i : ℕ) (items : Items) (all : List Complaint) → complaints_from i items ≡ Ok all → AllByRecursion StatesSmallNumbers all
numbers-small i no_items [] e = tt
numbers-small i no_items (c ∷ cs) e = cc
numbers-small i (item d ds) all e =
    let h = first-ok (complaint_of d) i (complaints_from (i + 1) ds) all e in
    rw h.4 ((complaint-sound d h.0 h.2).small, numbers-small (i + 1) ds h.1 h.3)

pub as-many : (i : ℕ) (vs : List Value) (all : List Complaint) → complaints_from i (items_view vs) ≡ Ok all → length all ≡ length vs
as-many i [] [] e = refl
as-many i [] (c ∷ cs) e = cc
as-many i (v ∷ vs) all e =
    let h = first-ok (complaint_of (data_of v)) i (complaints_from (i + 1) (items_view vs)) all e in
    ap length h.4 ∙ ap suc (as-many (i + 1) vs h.1 h.3)

pub once-read : (result : Result (List Complaint) FormFault) (i : ℕ) (items : Items) → Gives result (complaints_from i items) → IfOk result (λ cs. AllByRecursion StatesNamesOnce cs)
once-read (Ok all) i items given = names-once i items all given
once-read (Err f) i items given = tt

pub small-read : (result : Result (List Complaint) FormFault) (i : ℕ) (items : Items) → Gives result (complaints_from i items) → IfOk result (λ cs. AllByRecursion StatesSmallNumbers cs)
small-read (Ok all) i items given = numbers-small i items all given
small-read (Err f) i items given = tt
