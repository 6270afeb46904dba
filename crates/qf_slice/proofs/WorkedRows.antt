-- Worked examples of needed parameters and root boxes.
use Rattle.std.proofs.Common.{◌≡◌, ◌∙◌, ap, sym, subst, refl, inl, inr, ◌⊎◌, ℕ, zero, suc, ◌<◌, ◌≤◌, pos, List, [], ◌∷◌, slice_index_or, arith}
use Rattle.std.specs.Prelude.{replicate, neg_ℤ}
use Rattle.std.specs.declared.option.Option.TheVariants.{Some, None}
use Rattle.qf_base.specs.declared.names.RowName.TheVariants.{Start}
use Rattle.qf_base.specs.Values.{Interval, Bounds, interval_of_var}
use Rattle.qf_ir.specs.declared.ast.Atom.TheVariants.{Column, Param}
use Rattle.qf_ir.specs.declared.ast.Term.{Term}
use Rattle.qf_ir.specs.declared.ast.Expr.TheVariants.{Sum}
use Rattle.qf_ir.specs.declared.ast.Op.TheVariants.{Ge}
use Rattle.qf_ir.specs.declared.ast.Cond.TheVariants.{Compare}
use Rattle.qf_ir.specs.declared.ast.Statement.{Statement}
use Rattle.qf_ir.specs.declared.ast.Statement.TheVariants.{Update}
use Rattle.qf_ir.specs.declared.cell.Cell.{Cell}
use Rattle.qf_ir.specs.declared.cell.Cell.TheVariants.{Int}
use Rattle.qf_ir.specs.declared.cell.Ask.TheVariants.{Present}
use Rattle.qf_ir.specs.declared.table.Column.{Column as TableColumn}
use Rattle.qf_ir.specs.declared.table.ColumnKind.TheVariants as kind
use Rattle.qf_ir.specs.Value.{Cells}
use Rattle.qf_ir.specs.Flow.{Place, Live, At, Feeds, Arrow, Enters, Chain, Reaches, Linked, last_of, Needed}
use Rattle.qf_goal.specs.Case.{Case}
use Rattle.qf_goal.specs.SeedPlaces.{case_seeds}
use Rattle.qf_slice.specs.RootBox.{IsNeeded, IsRootBox, old_alone, open_count}

abbrev column : ℕ → Term
column c = record { factor = pos 1; atom = Column c }

abbrev param : ℕ → Term
param k = record { factor = pos 1; atom = Param k }

abbrev number : ℕ → Cell
number n = Int (pos n)

abbrev number_column : ℕ → TableColumn
number_column letter = record { name = letter ∷ []; kind = kind.Int }

-- ---- UPDATE t SET a = a + 5; UPDATE t SET b = a + 2, with the complaint that a is to be 6

abbrev chain_log : List Statement
chain_log = Update ((0, Sum (column 0 ∷ param 1 ∷ [])) ∷ []) None ∷ Update ((1, Sum (column 0 ∷ param 2 ∷ [])) ∷ []) None ∷ []

abbrev chain_case : Bounds → Case
chain_case region = record {
  plan = record { columns = number_column 97 ∷ number_column 98 ∷ []; statements = chain_log; olds = pos 5 ∷ pos 2 ∷ []; texts = []; starts = 1; inserted = 0 };
  table = record { columns = number_column 97 ∷ number_column 98 ∷ []; texts = []; rows = (number 0 ∷ number 0 ∷ []) ∷ [] };
  asks = (Start 1, Present ((0, number 6) ∷ [])) ∷ [];
  domains = record { olds = pos 5 ∷ pos 2 ∷ []; region = region };
}

pub chain_seeds : (region : Bounds) → case_seeds (chain_case region) ≡ At 0 ∷ []
chain_seeds region = refl

first_reaches_a : Reaches 1 chain_log (At 0)
first_reaches_a = inl (At 0, inl (inl (refl, inr (inl refl))), (At 0, inl (refl, λ h. elim h [ inl e ↦ omega arith | inr none ↦ none ]), refl))

first_reaches_b : Reaches 1 chain_log (At 1)
first_reaches_b = inl (At 0, inl (inl (refl, inr (inl refl))), (At 1, inr (inl (inl (refl, inl refl))), refl))

second_reaches_b : Reaches 2 chain_log (At 1)
second_reaches_b = inr (inl (At 1, inl (inl (refl, inr (inl refl))), refl))

first_is_needed : Needed chain_log (At 0 ∷ []) 1
first_is_needed = record { first = 1; seed = At 0; is_seed = (0, omega arith, refl); reaches = first_reaches_a; others = []; linked = tt; ends = refl }

-- the second constant keeps its column: it reaches no seed, but b, as the first does
pub second_is_needed : Needed chain_log (At 0 ∷ []) 2
second_is_needed = record { first = 1; seed = At 0; is_seed = (0, omega arith, refl); reaches = first_reaches_a; others = 2 ∷ []; linked = ((At 1, first_reaches_b, second_reaches_b), tt); ends = refl }

-- .. so the root box has both domains, whatever they are
pub chain_root : (r s : Interval) → IsRootBox (chain_case (r ∷ s ∷ [])) (r ∷ s ∷ [])
chain_root r s = record { len = refl; needed = λ k low high n. refl; others = others }
  where
    others : (k : ℕ) → 1 ≤ k → k ≤ 2 → (IsNeeded (chain_case (r ∷ s ∷ [])) k → ⊥) → interval_of_var (r ∷ s ∷ []) k ≡ old_alone (chain_case (r ∷ s ∷ [])) k
    others zero low high other = absurd (omega arith)
    others (suc zero) low high other = absurd (other first_is_needed)
    others (suc (suc zero)) low high other = absurd (other second_is_needed)
    others (suc (suc (suc k))) low high other = absurd (omega arith)

-- ---- UPDATE t SET rate = 30 WHERE income >= 85700, with no complaint: nothing is needed

abbrev tax_row : ℕ → ℕ → Cells
tax_row id income = number id ∷ number income ∷ number 10 ∷ []

abbrev tax_case : Case
tax_case = record {
  plan = record {
    columns = number_column 97 ∷ number_column 98 ∷ number_column 99 ∷ [];
    statements = Update ((2, Sum (param 1 ∷ [])) ∷ []) (Some (Compare Ge (Sum (column 1 ∷ [])) (Sum (param 2 ∷ [])))) ∷ [];
    olds = pos 30 ∷ pos 85700 ∷ [];
    texts = [];
    starts = 4;
    inserted = 0;
  };
  table = record {
    columns = number_column 97 ∷ number_column 98 ∷ number_column 99 ∷ [];
    texts = [];
    rows = tax_row 1 9500 ∷ tax_row 2 90000 ∷ tax_row 3 86000 ∷ tax_row 4 86500 ∷ [];
  };
  asks = [];
  domains = record { olds = pos 30 ∷ pos 85700 ∷ []; region = (pos 0, pos 100) ∷ (pos 80000, pos 95000) ∷ [] };
}

pub tax_seeds : case_seeds tax_case ≡ []
tax_seeds = refl

nothing_needed : (k : ℕ) → IsNeeded tax_case k → ⊥
nothing_needed k n = let within = n.is_seed.1 in omega (arith, within)

pub tax_root : IsRootBox tax_case ((pos 30, pos 30) ∷ (pos 85700, pos 85700) ∷ [])
tax_root = record { len = refl; needed = λ k low high n. absurd (nothing_needed k n); others = others }
  where
    others : (k : ℕ) → 1 ≤ k → k ≤ 2 → (IsNeeded tax_case k → ⊥)
        → interval_of_var ((pos 30, pos 30) ∷ (pos 85700, pos 85700) ∷ []) k ≡ old_alone tax_case k
    others zero low high other = absurd (omega arith)
    others (suc zero) low high other = refl
    others (suc (suc zero)) low high other = refl
    others (suc (suc (suc k))) low high other = absurd (omega arith)

-- ---- 66 constants that may each be 0 or 1

pub too_many_free : open_count (replicate 66 (pos 0, pos 1)) ≡ 66
too_many_free = refl

-- ---- UPDATE t SET a = a + 5; UPDATE t SET c = 9, with the complaint that a is to be 6: the second constant is not needed

abbrev first_update : Statement
first_update = Update ((0, Sum (column 0 ∷ param 1 ∷ [])) ∷ []) None

abbrev second_update : Statement
second_update = Update ((1, Sum (param 2 ∷ [])) ∷ []) None

abbrev apart_case : Case
apart_case = record {
  plan = record { columns = number_column 97 ∷ number_column 99 ∷ []; statements = first_update ∷ second_update ∷ []; olds = pos 5 ∷ pos 9 ∷ []; texts = []; starts = 1; inserted = 0 };
  table = record { columns = number_column 97 ∷ number_column 99 ∷ []; texts = []; rows = (number 0 ∷ number 0 ∷ []) ∷ [] };
  asks = (Start 1, Present ((0, number 6) ∷ [])) ∷ [];
  domains = record { olds = pos 5 ∷ pos 9 ∷ []; region = (pos 0, pos 10) ∷ (neg_ℤ (pos 1000000), pos 1000000) ∷ [] };
}

pub apart_seeds : case_seeds apart_case ≡ At 0 ∷ []
apart_seeds = refl

enters_first : (k : ℕ) (x : Place) → Enters k first_update x → (k ≡ 1) × (x ≡ At 0)
enters_first k Live enters = absurd enters
enters_first k (At c) enters =
    elim enters [
      | inl set ↦ elim set [
        | inl here ↦ elim here.1 [
          | inl e ↦ absurd (cc)
          | inr rest ↦ elim rest [ inl e ↦ (cc, ap (λ n. At n) (sym here.0)) | inr none ↦ absurd none ]
        ]
        | inr none ↦ absurd none
      ]
      | inr read ↦ absurd read.1
    ]

enters_second : (k : ℕ) (x : Place) → Enters k second_update x → (k ≡ 2) × (x ≡ At 1)
enters_second k Live enters = absurd enters
enters_second k (At c) enters =
    elim enters [
      | inl set ↦ elim set [
        | inl here ↦ elim here.1 [ inl e ↦ (cc, ap (λ n. At n) (sym here.0)) | inr none ↦ absurd none ]
        | inr none ↦ absurd none
      ]
      | inr read ↦ absurd read.1
    ]

a_feeds_nothing : (x : Place) → Feeds (Column 0) second_update x → ⊥
a_feeds_nothing Live feeds = feeds
a_feeds_nothing (At c) feeds =
    elim feeds [
      | inl set ↦ elim set [
        | inl here ↦ elim here.1 [ inl e ↦ absurd (cc) | inr none ↦ none ]
        | inr none ↦ none
      ]
      | inr read ↦ read.1
    ]

a_stays : (x : Place) → Arrow (At 0) second_update x → x ≡ At 0
a_stays x arrow = elim arrow [ inl same ↦ sym same.0 | inr feeds ↦ absurd (a_feeds_nothing x feeds) ]

apart_reaches : (k : ℕ) (x : Place) → Reaches k (first_update ∷ second_update ∷ []) x → ((k ≡ 1) × (x ≡ At 0)) ⊎ ((k ≡ 2) × (x ≡ At 1))
apart_reaches k x reaches =
    elim reaches [
      | inl early ↦
          let from = enters_first k early.0 early.1 in
          let chain : Chain (At 0) (second_update ∷ []) x = subst (λ p. Chain p (second_update ∷ []) x) from.1 early.2 in
          inl (from.0, sym chain.2 ∙ a_stays chain.0 chain.1)
      | inr late ↦ elim late [
        | inl there ↦ let from = enters_second k there.0 there.1 in inr (from.0, sym there.2 ∙ from.1)
        | inr none ↦ absurd none
      ]
    ]

first_meets_itself : (k : ℕ) (others : List ℕ) → k ≡ 1 → Linked (first_update ∷ second_update ∷ []) k others → last_of k others ≡ 1
first_meets_itself k [] is linked = is
first_meets_itself k (j ∷ others) is linked =
    let meet = linked.0 in
    elim (apart_reaches k meet.0 meet.1) [
      | inl here ↦ elim (apart_reaches j meet.0 meet.2) [
        | inl there ↦ first_meets_itself j others there.0 linked.1
        | inr there ↦ let e : At 0 ≡ At 1 = sym here.1 ∙ there.1 in absurd (cc)
      ]
      | inr here ↦ let two = here.0 in absurd (omega (arith, is, two))
    ]

first_place : (i : ℕ) (x : Place) → i < 1 → slice_index_or (At 0 ∷ []) i x ≡ x → At 0 ≡ x
first_place zero x within is = is
first_place (suc i) x within is = absurd (omega arith)

only_the_first : (k : ℕ) → IsNeeded apart_case k → k ≡ 1
only_the_first k n =
    let seed = first_place n.is_seed.0 n.seed n.is_seed.1 n.is_seed.2 in
    sym n.ends ∙ elim (apart_reaches n.first n.seed n.reaches) [
      | inl here ↦ first_meets_itself n.first n.others here.0 n.linked
      | inr here ↦ let e : At 0 ≡ At 1 = seed ∙ here.1 in absurd (cc)
    ]

pub apart_root : IsRootBox apart_case ((pos 0, pos 10) ∷ (pos 9, pos 9) ∷ [])
apart_root = record { len = refl; needed = needed; others = others }
  where
    needed : (k : ℕ) → 1 ≤ k → k ≤ 2 → IsNeeded apart_case k → interval_of_var ((pos 0, pos 10) ∷ (pos 9, pos 9) ∷ []) k ≡ interval_of_var apart_case.domains.region k
    needed zero low high n = absurd (omega arith)
    needed (suc zero) low high n = refl
    needed (suc (suc k)) low high n = let one = only_the_first (suc (suc k)) n in absurd (omega (arith, one))

    reaches_a : Reaches 1 (first_update ∷ second_update ∷ []) (At 0)
    reaches_a = inl (At 0, inl (inl (refl, inr (inl refl))), (At 0, inl (refl, λ h. elim h [ inl e ↦ omega arith | inr none ↦ none ]), refl))

    others : (k : ℕ) → 1 ≤ k → k ≤ 2 → (IsNeeded apart_case k → ⊥) → interval_of_var ((pos 0, pos 10) ∷ (pos 9, pos 9) ∷ []) k ≡ old_alone apart_case k
    others zero low high other = absurd (omega arith)
    others (suc zero) low high other = absurd (other (record { first = 1; seed = At 0; is_seed = (0, omega arith, refl); reaches = reaches_a; others = []; linked = tt; ends = refl }))
    others (suc (suc zero)) low high other = refl
    others (suc (suc (suc k))) low high other = absurd (omega arith)
