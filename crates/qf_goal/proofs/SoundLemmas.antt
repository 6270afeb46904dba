-- Complaints without a fault make a sound problem.
use Rattle.std.specs.Prelude.{◌≡◌, ℕ, suc, ◌+◌, ◌<◌, ◌≤◌, Bool, true, false, not, ◌&&◌, ◌||◌, cond, nat_lt, Result, Ok, Err, List, [], ◌∷◌, ◌++◌, length, map, slice_get, if◌then◌else◌}
use Rattle.std.specs.declared.option.Option.{Option}
use Rattle.std.specs.declared.option.Option.TheVariants.{Some, None}
use Rattle.std.specs.List.{IsDistinct, list_any, find, flat_map, position_or_len, AllByRecursion}
use Rattle.std.specs.Set.{is_member}
use Rattle.std.specs.Str.{bytes_eq}
use Rattle.std.proofs.Common.{refl, ap, sym, ◌∙◌, arith, subst}
use Rattle.std.proofs.lemmas.Bool.Decides.{nat_tests}
use Rattle.std.proofs.lemmas.Cmp.{nat_list_eq_equiv}
use Rattle.std.proofs.lemmas.List.{length-map, append_assoc}
use Rattle.std.proofs.lemmas.List.Folds.{list_any-append}
use Rattle.std.proofs.lemmas.Map.Made.{length-le_from_is_member}
use Rattle.qf_base.specs.declared.names.RowName.{RowName}
use Rattle.qf_ir.specs.declared.cell.Ask.{Ask}
use Rattle.qf_ir.specs.declared.table.Column.{Column}
use Rattle.qf_ir.specs.declared.table.ColumnKind.{ColumnKind}
use Rattle.qf_ir.specs.declared.table.ColumnKind.TheVariants as kind
use Rattle.qf_base.specs.Values.{In}
use Rattle.qf_ir.specs.declared.table.Table.{Table}
use Rattle.qf_ir.specs.Plan.{Plan, RowExists, IsSound, Belongs, Fits}
use Rattle.qf_ir.specs.Replay.{same_row}
use Rattle.qf_ir.specs.Tables.{CellIs, IsSoundTable}
use Rattle.qf_ir.specs.Texts.{code_in, with_texts}
use Rattle.qf_point.specs.Domains.{DomainBox}
use Rattle.qf_forms.specs.Stated.{stated_by, StatesNamesOnce, StatesSmallNumbers, IsSmallValue}
use Rattle.qf_forms.specs.declared.complaint.WishCell.{WishCell}
use Rattle.qf_forms.specs.declared.complaint.WishCell.TheVariants.{Int, Text}
use Rattle.qf_forms.specs.declared.complaint.Wish.{Wish}
use Rattle.qf_forms.specs.declared.complaint.Wish.TheVariants.{Absent, Present}
use Rattle.qf_forms.specs.declared.complaint.Complaint.{Complaint}
use Rattle.qf_forms.specs.Complaints.{Stated, is_named, are_distinct}
use Rattle.qf_goal.specs.declared.fault.GoalFault.{GoalFault}
use Rattle.qf_goal.specs.declared.fault.GoalFault.TheVariants.{TooManyComplaints}
use Rattle.qf_goal.specs.Case.{Case}
use Rattle.qf_goal.specs.Asked.{row_exists, is_row, is_called, is_unknown, is_other_kind, is_mistyped, is_mistyped_in, fault_of, or_else, first_fault, text_of, text_in, stated_texts, cell_of, listed_cell, ask_of, asks_of, with_joined, asked_case, unless_fault, problem_of}
use Rattle.qf_goal.specs.SoundCase.{IsListed, IsAskOf, AreAsksOf, IsSoundCase}
use Rattle.qf_goal.specs.RowPlaces.{rows_in, asked_rows, marks_of}
use Rattle.qf_goal.proofs.ListLemmas.{each-append}
use Rattle.qf_goal.proofs.RowLemmas.{row_exists_is}
use Rattle.qf_goal.proofs.TextLemmas.{held_all, with_texts-after}

-- ---- tests

or-false : (a b : Bool) → (a || b) ≡ false → (a ≡ false) × (b ≡ false)
or-false true b none = absurd (cc)
or-false false b none = (refl, none)

not-true : (a : Bool) → not a ≡ true → a ≡ false
not-true true is = absurd (cc)
not-true false is = refl

not-false : (a : Bool) → not a ≡ false → a ≡ true
not-false true is = refl
not-false false is = absurd (cc)

and-true : (a b : Bool) → (a && b) ≡ true → (a ≡ true) × (b ≡ true)
and-true true b both = (refl, both)
and-true false b both = absurd (cc)

if-none : (test : Bool) (fault : GoalFault) (rest : Option GoalFault) → (if test then Some fault else rest) ≡ None → (test ≡ false) × (rest ≡ None)
if-none true fault rest none = absurd (cc)
if-none false fault rest none = (refl, none)

or_else-none : (fault rest : Option GoalFault) → or_else fault rest ≡ None → (fault ≡ None) × (rest ≡ None)
or_else-none None rest none = (refl, none)
or_else-none (Some fault) rest none = absurd (cc)

-- ---- a complaint without a fault

record IsFaultless (plan : Plan) (earlier : List RowName) (complaint : Complaint) : Type 0 where
  exists : row_exists plan complaint.row ≡ true
  fresh : list_any (is_row complaint.row) earlier ≡ false
  known : list_any (is_unknown plan.columns) (stated_by complaint.wish) ≡ false
  typed : list_any (is_mistyped plan.columns) (stated_by complaint.wish) ≡ false

faultless : (plan : Plan) (earlier : List RowName) (number : ℕ) (complaint : Complaint) → fault_of plan earlier number complaint ≡ None → IsFaultless plan earlier complaint
faultless plan earlier number complaint none =
    let row = if-none (not (row_exists plan complaint.row)) _ _ none in
    let repeated = if-none (list_any (is_row complaint.row) earlier) _ _ row.1 in
    let unknown = if-none (list_any (is_unknown plan.columns) (stated_by complaint.wish)) _ _ repeated.1 in
    let mistyped = if-none (list_any (is_mistyped plan.columns) (stated_by complaint.wish)) _ _ unknown.1 in
    record { exists = not-false (row_exists plan complaint.row) row.0; fresh = repeated.0; known = unknown.0; typed = mistyped.0 }

-- ---- rows

exist : (plan : Plan) (columns : List Column) (texts : List (List ℕ)) (earlier : List RowName) (number : ℕ) (complaints : List Complaint) → first_fault plan earlier number complaints ≡ None
    → AllByRecursion (λ (a : RowName × Ask). RowExists plan a.0) (asks_of columns texts complaints)
exist plan columns texts earlier number [] none = tt
exist plan columns texts earlier number (c ∷ complaints) none =
    let both = or_else-none _ _ none in
    (row_exists_is plan c.row (faultless plan earlier number c both.0).exists, exist plan columns texts (earlier ++ c.row ∷ []) (number + 1) complaints both.1)

-- a row that is among the earlier ones is no later one
apart : (plan : Plan) (row : RowName) (earlier : List RowName) (number : ℕ) (complaints : List Complaint) → ((other : RowName) → list_any (is_row other) earlier ≡ false → same_row row other ≡ false)
    → first_fault plan earlier number complaints ≡ None → AllByRecursion (λ other. same_row row other ≡ false) (rows_in complaints)
apart plan row earlier number [] among none = tt
apart plan row earlier number (c ∷ complaints) among none =
    let both = or_else-none _ _ none in (
      among c.row (faultless plan earlier number c both.0).fresh,
      apart plan row (earlier ++ c.row ∷ []) (number + 1) complaints
          (λ other absent. among other (or-false _ _ (sym (list_any-append (is_row other) earlier (c.row ∷ [])) ∙ absent)).0) both.1,
    )

once : (plan : Plan) (earlier : List RowName) (number : ℕ) (complaints : List Complaint) → first_fault plan earlier number complaints ≡ None → IsDistinct same_row (rows_in complaints)
unfolding IsDistinct
once plan earlier number [] none = tt
once plan earlier number (c ∷ complaints) none =
    let both = or_else-none _ _ none in (
      apart plan c.row (earlier ++ c.row ∷ []) (number + 1) complaints
          (λ other absent. (or-false (same_row c.row other) false (or-false _ _ (sym (list_any-append (is_row other) earlier (c.row ∷ [])) ∙ absent)).1).0) both.1,
      once plan (earlier ++ c.row ∷ []) (number + 1) complaints both.1,
    )

asked_rows-asks_of : (columns : List Column) (texts : List (List ℕ)) (complaints : List Complaint) → asked_rows (asks_of columns texts complaints) ≡ rows_in complaints
asked_rows-asks_of columns texts [] = refl
asked_rows-asks_of columns texts (c ∷ complaints) = ap (λ rows. c.row ∷ rows) (asked_rows-asks_of columns texts complaints)

-- ---- cells

-- the first that passes, and its place
first-passing : {X : Type 0} (p : X → Bool) (xs : List X) → list_any p xs ≡ true → (x : X) × (slice_get xs (position_or_len p xs) ≡ Some x) × (find p xs ≡ Some x)
first-passing p [] some = absurd (cc)
first-passing {X} p (y ∷ xs) some =
    elim (p y) as (λ b. (b || list_any p xs) ≡ true
    → (x : X) × (slice_get (y ∷ xs) (cond (not b) (1 + position_or_len p xs) 0) ≡ Some x) × (cond b (Some y) (find p xs) ≡ Some x)) [
      | true ↦ λ some. (y, refl, refl)
      | false ↦ λ some.
          let later = first-passing p xs some in
          let next : 1 + position_or_len p xs ≡ suc (position_or_len p xs) = omega arith in
          (later.0, ap (λ n. slice_get (y ∷ xs) n) next ∙ later.1, later.2)
    ] some

cell_is : (texts : List (List ℕ)) (value : WishCell) (k : ColumnKind) → is_other_kind value k ≡ false → IsSmallValue value
    → AllByRecursion (λ text. code_in texts text < length texts) (text_of value) → CellIs k (length texts) (cell_of texts value)
cell_is texts (Int number) kind.Int same small held = small
cell_is texts (Int number) kind.Text same small held = absurd (cc)
cell_is texts (Text text) kind.Int same small held = absurd (cc)
cell_is texts (Text text) kind.Text same small held = held.0

listed : (plan : Plan) (s : Stated) → is_unknown plan.columns s ≡ false → is_mistyped plan.columns s ≡ false → IsSmallValue s.1
    → AllByRecursion (λ text. code_in plan.texts text < length plan.texts) (text_in s) → IsListed plan (listed_cell plan.columns plan.texts s)
listed plan s known typed small held =
    let found = first-passing (is_called s.0) plan.columns (not-false (list_any (is_called s.0) plan.columns) known) in
    let same : is_other_kind s.1 found.0.kind ≡ false = ap (is_mistyped_in s.1) (sym found.2) ∙ typed in
    record { column = found.0; there = found.1; cell = cell_is plan.texts s.1 found.0.kind same small held }

all_listed : (plan : Plan) (stated : List Stated) → list_any (is_unknown plan.columns) stated ≡ false → list_any (is_mistyped plan.columns) stated ≡ false
    → AllByRecursion (λ (s : Stated). IsSmallValue s.1) stated → AllByRecursion (λ text. code_in plan.texts text < length plan.texts) (flat_map text_in stated)
    → AllByRecursion (IsListed plan) (map (listed_cell plan.columns plan.texts) stated)
all_listed plan [] known typed small held = tt
all_listed plan (s ∷ stated) known typed small held =
    let k = or-false _ _ known in
    let t = or-false _ _ typed in
    let h = each-append (λ text. code_in plan.texts text < length plan.texts) (text_in s) (flat_map text_in stated) held in
    (listed plan s k.0 t.0 small.0 h.0, all_listed plan stated k.1 t.1 small.1 h.1)

ask_is : (plan : Plan) (wish : Wish) → list_any (is_unknown plan.columns) (stated_by wish) ≡ false → list_any (is_mistyped plan.columns) (stated_by wish) ≡ false
    → AllByRecursion (λ (s : Stated). IsSmallValue s.1) (stated_by wish) → AllByRecursion (λ text. code_in plan.texts text < length plan.texts) (flat_map text_in (stated_by wish))
    → IsAskOf plan (ask_of plan.columns plan.texts wish)
ask_is plan Absent known typed small held = tt
ask_is plan (Present stated) known typed small held = all_listed plan stated known typed small held

cells : (plan joined : Plan) (earlier : List RowName) (number : ℕ) (complaints : List Complaint) → joined.columns ≡ plan.columns → first_fault plan earlier number complaints ≡ None
    → AllByRecursion StatesSmallNumbers complaints → AllByRecursion (λ text. code_in joined.texts text < length joined.texts) (stated_texts complaints)
    → AllByRecursion (λ (a : RowName × Ask). IsAskOf joined a.1) (asks_of joined.columns joined.texts complaints)
cells plan joined earlier number [] same none small held = tt
cells plan joined earlier number (c ∷ complaints) same none small held =
    let both = or_else-none _ _ none in
    let sound = faultless plan earlier number c both.0 in
    let h = each-append (λ text. code_in joined.texts text < length joined.texts) (flat_map text_in (stated_by c.wish)) (stated_texts complaints) held in (
      ask_is joined c.wish (ap (λ columns. list_any (is_unknown columns) (stated_by c.wish)) same ∙ sound.known) (ap (λ columns. list_any (is_mistyped columns) (stated_by c.wish)) same ∙ sound.typed) small.0 h.0,
      cells plan joined (earlier ++ c.row ∷ []) (number + 1) complaints same both.1 small.1 h.1,
    )

-- ---- all that is asked

pub asks_are : (plan : Plan) (complaints : List Complaint) → length complaints ≤ 1000 → first_fault plan [] 1 complaints ≡ None → AllByRecursion StatesSmallNumbers complaints
    → AreAsksOf (with_joined plan (stated_texts complaints)) (asks_of plan.columns (with_joined plan (stated_texts complaints)).texts complaints)
asks_are plan complaints few none small =
    let joined = with_joined plan (stated_texts complaints) in
    let made : Complaint → RowName × Ask = λ (c : Complaint). (c.row, ask_of plan.columns joined.texts c.wish) in
    record {
      few = omega (arith, length-map complaints made);
      exist = exist plan plan.columns joined.texts [] 1 complaints none;
      once = subst (IsDistinct same_row) (sym (asked_rows-asks_of plan.columns joined.texts complaints)) (once plan [] 1 complaints none);
      cells = cells plan joined [] 1 complaints refl none small (held_all plan.texts (stated_texts complaints));
    }

-- the table's texts come first
joined-belongs : (plan : Plan) (table : Table) (others : List (List ℕ)) → (more : List (List ℕ)) × (plan.texts ≡ table.texts ++ more) → (more : List (List ℕ)) × (with_texts plan.texts others ≡ table.texts ++ more)
joined-belongs plan table others (more, is) =
    let after = with_texts-after plan.texts others in
    (more ++ after.0, after.1 ∙ ap (λ texts. texts ++ after.0) is ∙ append_assoc table.texts more after.0)

-- ---- how many cells a complaint lists

names_of : List Stated → List (List ℕ)
names_of stated = map (λ (s : Stated). s.0) stated

no_name : (name : List ℕ) (others : List Stated) → list_any (is_named name) others ≡ false → AllByRecursion (λ other. bytes_eq name other ≡ false) (names_of others)
unfolding names_of
no_name name [] none = tt
no_name name (s ∷ others) none =
    let both = or-false _ _ none in
    (nat_list_eq_equiv.symm name s.0 ∙ both.0, no_name name others both.1)

names-distinct : (stated : List Stated) → are_distinct stated ≡ true → IsDistinct bytes_eq (names_of stated)
unfolding IsDistinct names_of
names-distinct [] distinct = tt
names-distinct (s ∷ others) distinct =
    let both = and-true _ _ distinct in
    (no_name s.0 others (not-true _ both.0), names-distinct others both.1)

-- a column is called so by either of two equal names
named : (name other : List ℕ) → bytes_eq name other ≡ true → (columns : List Column) → list_any (bytes_eq name) (map (λ (c : Column). c.name) columns) ≡ list_any (is_called other) columns
named name other same [] = refl
named name other same (c ∷ columns) =
    ap (λ b. b || list_any (bytes_eq name) (map (λ (c : Column). c.name) columns)) (nat_list_eq_equiv.congr name other c.name same ∙ nat_list_eq_equiv.symm other c.name)
    ∙ ap (λ b. bytes_eq c.name other || b) (named name other same columns)

names-known : (columns : List Column) (stated : List Stated) (name : List ℕ) → list_any (is_unknown columns) stated ≡ false → is_member bytes_eq (names_of stated) name ≡ true
    → is_member bytes_eq (map (λ (c : Column). c.name) columns) name ≡ true
unfolding names_of
names-known columns [] name known among = absurd (cc)
names-known columns (s ∷ stated) name known among =
    let both = or-false _ _ known in
    elim (bytes_eq name s.0) as (λ b. bytes_eq name s.0 ≡ b → (b || list_any (bytes_eq name) (names_of stated)) ≡ true → is_member bytes_eq (map (λ (c : Column). c.name) columns) name ≡ true) [
      | true ↦ λ is among. named name s.0 is columns ∙ not-false _ both.0
      | false ↦ λ is among. names-known columns stated name both.1 among
    ] refl among

few_stated : (columns : List Column) (stated : List Stated) → are_distinct stated ≡ true → list_any (is_unknown columns) stated ≡ false → length stated ≤ length columns
unfolding names_of
few_stated columns stated distinct known =
    omega (
      arith,
      length-le_from_is_member nat_list_eq_equiv (names_of stated) (map (λ (c : Column). c.name) columns) (names-distinct stated distinct)
          (λ name among. names-known columns stated name known among),
      length-map stated (λ (s : Stated). s.0),
      length-map columns (λ (c : Column). c.name),
    )

pub few_cells : (plan : Plan) (earlier : List RowName) (number : ℕ) (complaints : List Complaint) → length plan.columns ≤ 32 → first_fault plan earlier number complaints ≡ None
    → AllByRecursion StatesNamesOnce complaints → AllByRecursion (λ (c : Complaint). length (stated_by c.wish) ≤ 32) complaints
few_cells plan earlier number [] few none names = tt
few_cells plan earlier number (c ∷ complaints) few none names =
    let both = or_else-none _ _ none in
    (omega (arith, few_stated plan.columns (stated_by c.wish) names.0 (faultless plan earlier number c both.0).known), few_cells plan (earlier ++ c.row ∷ []) (number + 1) complaints few both.1 names.1)

-- ---- the problem

pub sound_case : (plan : Plan) (table : Table) (complaints : List Complaint) (domains : DomainBox) → length complaints ≤ 1000 → first_fault plan [] 1 complaints ≡ None
    → AllByRecursion StatesSmallNumbers complaints → IsSound (with_joined plan (stated_texts complaints)) → IsSoundTable table → Belongs plan table → Fits plan table domains.region
    → domains.olds ≡ plan.olds → In domains.region domains.olds → IsSoundCase (asked_case plan table complaints domains)
sound_case plan table complaints domains few none small sound is_table belongs fits olds inside =
    let texts = joined-belongs plan table (stated_texts complaints) belongs.texts in
    record {
      plan = sound;
      table = is_table;
      belongs = record { columns = belongs.columns; texts = texts; starts = belongs.starts; rows = belongs.rows };
      fits = fits;
      olds = olds;
      inside = subst (In domains.region) olds inside;
      asks = asks_are plan complaints few none small;
    }

-- .. as the calls make it
module _ (plan next : Plan) (table : Table) (complaints elements others : List Complaint) (domains : DomainBox) (asks : List (RowName × Ask)) (same : elements ≡ complaints) (same_too : others ≡ complaints)
    (few : length complaints ≤ 1000) (none : first_fault plan [] 1 elements ≡ None) (is_next : next ≡ with_joined plan (stated_texts others)) (is_asks : asks ≡ asks_of plan.columns next.texts others) where
  faultless_all : first_fault plan [] 1 complaints ≡ None
  faultless_all = ap (first_fault plan [] 1) (sym same) ∙ none

  next_is : next ≡ with_joined plan (stated_texts complaints)
  next_is = is_next ∙ ap (λ cs. with_joined plan (stated_texts cs)) same_too

  asks_made : asks ≡ asks_of plan.columns (with_joined plan (stated_texts complaints)).texts complaints
  asks_made = is_asks ∙ ap (λ cs. asks_of plan.columns next.texts cs) same_too ∙ ap (λ (p : Plan). asks_of plan.columns p.texts complaints) next_is

  made : Case
  made = record { plan = next; table = table; asks = asks; domains = domains }

  case_is : made ≡ asked_case plan table complaints domains
  unfolding made
  case_is =
      let first : Plan → Case = λ p. record { plan = p; table = table; asks = asks; domains = domains } in
      let second : List (RowName × Ask) → Case = λ wanted. record { plan = with_joined plan (stated_texts complaints); table = table; asks = wanted; domains = domains } in
      ap first next_is ∙ ap second asks_made

  pub made_sound : AllByRecursion StatesSmallNumbers complaints → IsSound next → IsSoundTable table → Belongs plan table → Fits plan table domains.region
      → domains.olds ≡ plan.olds → In domains.region domains.olds → IsSoundCase (record { plan = next; table = table; asks = asks; domains = domains })
  unfolding made
  made_sound small sound is_table belongs fits olds inside =
      subst IsSoundCase (sym case_is) (sound_case plan table complaints domains few faultless_all small (subst IsSound next_is sound) is_table belongs fits olds inside)

  pub made_marks : (marks : List (Option ℕ)) → marks ≡ marks_of plan (rows_in elements) → marks ≡ marks_of next (asked_rows asks)
  made_marks marks is =
      is ∙ ap (λ cs. marks_of plan (rows_in cs)) same
      ∙ ap (marks_of plan) (sym (asked_rows-asks_of plan.columns (with_joined plan (stated_texts complaints)).texts complaints) ∙ ap asked_rows (sym asks_made))
      ∙ ap (λ p. marks_of p (asked_rows asks)) (sym next_is)

  pub made_problem : problem_of plan table complaints domains ≡ Ok (record { plan = next; table = table; asks = asks; domains = domains })
  unfolding made
  made_problem =
      let small : nat_lt 1000 (length complaints) ≡ false = grind (arith, nat_tests) in
      let pick : Bool → Result Case GoalFault = λ b. if b then Err TooManyComplaints else unless_fault (first_fault plan [] 1 complaints) (asked_case plan table complaints domains) in
      let ok : Case → Result Case GoalFault = λ case. Ok case in
      ap pick small ∙ ap (λ f. unless_fault f (asked_case plan table complaints domains)) faultless_all ∙ ap ok (sym case_is)

-- a refusal
pub refused_many : (plan : Plan) (table : Table) (complaints : List Complaint) (domains : DomainBox) → 1000 < length complaints → problem_of plan table complaints domains ≡ Err TooManyComplaints
refused_many plan table complaints domains many =
    let large : nat_lt 1000 (length complaints) ≡ true = grind (arith, nat_tests) in
    let pick : Bool → Result Case GoalFault = λ b. if b then Err TooManyComplaints else unless_fault (first_fault plan [] 1 complaints) (asked_case plan table complaints domains) in
    ap pick large

pub refused : (plan : Plan) (table : Table) (complaints elements : List Complaint) (domains : DomainBox) (fault : GoalFault) → elements ≡ complaints → length complaints ≤ 1000
    → first_fault plan [] 1 elements ≡ Some fault → problem_of plan table complaints domains ≡ Err fault
refused plan table complaints elements domains fault same few is =
    let small : nat_lt 1000 (length complaints) ≡ false = grind (arith, nat_tests) in
    let pick : Bool → Result Case GoalFault = λ b. if b then Err TooManyComplaints else unless_fault (first_fault plan [] 1 complaints) (asked_case plan table complaints domains) in
    ap pick small ∙ ap (λ f. unless_fault f (asked_case plan table complaints domains)) (ap (first_fault plan [] 1) (sym same) ∙ is)
