-- Slicing loses no repair.
use Rattle.std.proofs.Common.{◌≡◌, ◌∙◌, ap, sym, subst, refl, inl, inr, ◌⊎◌, ℕ, zero, suc, ◌+◌, ◌≤◌, true, false, ℤ, List, [], ◌∷◌, ◌++◌, length, map, arith}
use Rattle.std.specs.declared.option.Option.{Option}
use Rattle.std.specs.List.{flat_map, Contains, AllByRecursion}
use Rattle.std.proofs.lemmas.Bool.{false≢true}
use Rattle.qf_base.specs.declared.names.RowName.{RowName}
use Rattle.qf_base.specs.Values.{In}
use Rattle.qf_base.proofs.BoxLaws.{length-In}
use Rattle.qf_ir.specs.declared.cell.Outcome.{Outcome}
use Rattle.qf_ir.specs.declared.cell.Goal.{Goal}
use Rattle.qf_ir.specs.declared.ast.Statement.{Statement}
use Rattle.qf_ir.specs.Value.{Cells, Values}
use Rattle.qf_ir.specs.Replay.{outcome_of, inserted_count}
use Rattle.qf_ir.specs.Life.{Moment}
use Rattle.qf_ir.specs.Repairs.{meets, starts_from, inserts_from, row_names, all_meet}
use Rattle.qf_ir.specs.Goals.{goal_of, ask_for}
use Rattle.qf_ir.specs.Flow.{Place, Reaches}
use Rattle.qf_ir.specs.Laws.{param_at}
use Rattle.qf_point.specs.Points.{better}
use Rattle.qf_point.proofs.PointLaws.{better_trans}
use Rattle.qf_goal.specs.Case.{Case, Mends}
use Rattle.qf_goal.specs.SeedPlaces.{seeds_by, seeds_in, case_seeds}
use Rattle.qf_goal.specs.SoundCase.{IsSoundCase}
use Rattle.qf_impact.proofs.Ranges.{plan-reaches}
use Rattle.qf_impact.proofs.Tests.{and-both, and-join}
use Rattle.qf_slice.specs.RootBox.{IsNeeded}
use Rattle.qf_slice.specs.Laws.{IsSliced, SlicingLosesNoRepair, RootBoxHasTheLeastRepair, RootBoxMissesNoRepair}
use Rattle.qf_slice.proofs.Seeds.{needed-more}
use Rattle.qf_slice.proofs.Slices.{slice_of, root-part, as-good, slice-inside, is-sliced}
use Rattle.qf_slice.proofs.Twins.{IsNumbered, outcome_of_last, last_at, outcome-last, long-last, alike-at}
use Rattle.qf_slice.proofs.RowGoals.{IsAmong, Either, still-met}

-- ---- places among others

among-left : (x : Place) (xs ys : List Place) → IsAmong x xs → IsAmong x (xs ++ ys)
among-left x [] ys h = absurd h
among-left x (p ∷ xs) ys h = elim h [ inl e ↦ inl e | inr r ↦ inr (among-left x xs ys r) ]

among-right : (x : Place) (xs ys : List Place) → IsAmong x ys → IsAmong x (xs ++ ys)
among-right x [] ys h = h
among-right x (p ∷ xs) ys h = inr (among-right x xs ys h)

contained : (x : Place) (xs : List Place) → IsAmong x xs → Contains xs x
contained x [] h = absurd h
contained x (p ∷ xs) h =
    elim h [
      | inl e ↦ (0, omega arith, e)
      | inr r ↦ let rest = contained x xs r in let within = rest.1 in (suc rest.0, omega (arith, within), rest.2)
    ]

-- ---- rows have numbers from 1

starts-numbered : (first n : ℕ) → 1 ≤ first → AllByRecursion IsNumbered (starts_from first n)
starts-numbered first zero low = tt
starts-numbered first (suc n) low = (low, starts-numbered (first + 1) n (omega (arith, low)))

inserts-numbered : (first n : ℕ) → 1 ≤ first → AllByRecursion IsNumbered (inserts_from first n)
inserts-numbered first zero low = tt
inserts-numbered first (suc n) low = (low, inserts-numbered (first + 1) n (omega (arith, low)))

both-numbered : (xs ys : List RowName) → AllByRecursion IsNumbered xs → AllByRecursion IsNumbered ys → AllByRecursion IsNumbered (xs ++ ys)
both-numbered [] ys a b = b
both-numbered (x ∷ xs) ys a b = (a.0, both-numbered xs ys a.1 b)

rows-numbered : (table : List Cells) (ss : List Statement) → AllByRecursion IsNumbered (row_names table ss)
rows-numbered table ss =
    both-numbered (starts_from 1 (length table)) (inserts_from 1 (inserted_count ss)) (starts-numbered 1 (length table) (omega arith)) (inserts-numbered 1 (inserted_count ss) (omega arith))

-- ---- all rows

still-all : (f g : RowName → Outcome) (goal : RowName → Goal) (seeds : RowName → List Place) (all : List Place) (rows : List RowName) → AllByRecursion IsNumbered rows
    → ((x : Place) → IsAmong x (flat_map seeds rows) → IsAmong x all)
    → ((row : RowName) → IsNumbered row → ((x : Place) → IsAmong x (seeds row) → IsAmong x all) → meets (f row) (goal row) ≡ true → meets (g row) (goal row) ≡ true)
    → all_meet f rows (map goal rows) ≡ true → all_meet g rows (map goal rows) ≡ true
still-all f g goal seeds all [] numbered among each e = e
still-all f g goal seeds all (row ∷ rows) numbered among each e =
    let both = and-both (meets (f row) (goal row)) (all_meet f rows (map goal rows)) e in
    and-join (meets (g row) (goal row)) (all_meet g rows (map goal rows))
    (each row numbered.0 (λ x h. among x (among-left x (seeds row) (flat_map seeds rows) h)) both.0)
    (still-all f g goal seeds all rows numbered.1 (λ x h. among x (among-right x (seeds row) (flat_map seeds rows) h)) each both.1)

module _ (case : Case) (sound : IsSoundCase case) (q p : List ℤ) (long : length case.plan.olds ≡ length q) (sliced : IsSliced case q p) where
  abbrev ss : List Statement
  ss = case.plan.statements

  abbrev olds : List ℤ
  olds = case.plan.olds

  abbrev width : ℕ
  width = length case.plan.columns

  abbrev rows : List Cells
  rows = case.table.rows

  within : (k : ℕ) (x : Place) → Reaches k ss x → (1 ≤ k) × (k ≤ length q)
  within k x r = let range = plan-reaches case.plan sound.plan k x r in let low = range.0 in let high = range.1 in (low, omega (arith, high, long))

  -- all that reaches a place has q's values, or all has the old constants and the place is no seed
  place-cases : (x : Place) (P : Type 0) → (((k : ℕ) → Reaches k ss x → param_at p k ≡ param_at q k) → P)
      → (((k : ℕ) → Reaches k ss x → param_at p k ≡ param_at olds k) → (Contains (case_seeds case) x → ⊥) → P) → (P → ⊥) → ⊥
  place-cases x P as_q as_old wrong =
      let none : (k : ℕ) → Reaches k ss x → IsNeeded case k → ⊥ =
      λ k r n. wrong (as_q (λ j reaches. let range = within j x reaches in sliced.needed j range.0 range.1 (needed-more ss (case_seeds case) k j n (x, r, reaches)))) in
      wrong (as_old (λ k r. let range = within k x r in sliced.others k range.0 range.1 (none k r))
      (λ seed. wrong (as_q (λ k r.
      let n : IsNeeded case k = record { first = k; seed = x; is_seed = seed; reaches = r; others = []; linked = tt; ends = refl } in
      absurd (none k r n)))))

  row-still : (row : RowName) → IsNumbered row → ((x : Place) → IsAmong x (seeds_in case.plan case.table case.asks row) → IsAmong x (case_seeds case))
      → meets (outcome_of width rows ss row q) (goal_of width (ask_for case.asks row) (outcome_of width rows ss row olds)) ≡ true
      → meets (outcome_of width rows ss row p) (goal_of width (ask_for case.asks row) (outcome_of width rows ss row olds)) ≡ true
  row-still row numbered among e =
      let ask = ask_for case.asks row in
      let last : Values → Option Moment = λ point. last_at width rows ss row point in
      let is : (point : Values) → outcome_of width rows ss row point ≡ outcome_of_last (last point) = λ point. outcome-last width rows ss row point numbered in
      let goal : Goal = goal_of width ask (outcome_of_last (last olds)) in
      let same : goal_of width ask (outcome_of width rows ss row olds) ≡ goal = ap (goal_of width ask) (is olds) in
      let there : meets (outcome_of_last (last q)) goal ≡ true =
      subst (λ o. meets o goal ≡ true) (is q) (subst (λ g. meets (outcome_of width rows ss row q) g ≡ true) same e) in
      let met : meets (outcome_of_last (last p)) goal ≡ true =
      still-met width ask (last olds) (last q) (last p) (long-last width rows ss row p q) (long-last width rows ss row p olds)
      (λ x. place-cases x (Either (seeds_by ask (outcome_of_last (last olds))) (last olds) (last q) (last p) x)
      (λ agree. inl (alike-at width rows ss row x p q agree))
      (λ agree other. inr (
        alike-at width rows ss row x p olds agree,
        λ seed. other (contained x (case_seeds case) (among x (subst (λ o. IsAmong x (seeds_by ask o)) (sym (is olds)) seed))),
      )))
      there in
      subst (λ o. meets o (goal_of width ask (outcome_of width rows ss row olds)) ≡ true) (sym (is p)) (subst (λ g. meets (outcome_of_last (last p)) g ≡ true) (sym same) met)

  pub still-mends : Mends case q → Mends case p
  still-mends mends =
      still-all (λ row. outcome_of width rows ss row q) (λ row. outcome_of width rows ss row p)
      (λ row. goal_of width (ask_for case.asks row) (outcome_of width rows ss row olds)) (seeds_in case.plan case.table case.asks) (case_seeds case)
      (row_names rows ss) (rows-numbered rows ss) (λ x h. h) row-still mends

-- ---- the laws

pub loses-no-repair : SlicingLosesNoRepair
loses-no-repair case root sound is q inside mends =
    let sliced = is-sliced case root sound is q inside in
    let a = length-In case.domains.region case.plan.olds sound.inside in
    let b = length-In case.domains.region q inside in
    record {
      point = slice_of root q;
      sliced = sliced;
      inside = slice-inside case root sound is q inside;
      mends = still-mends case sound q (slice_of root q) (omega (arith, a, b)) sliced mends;
      as_good = as-good case root sound is q inside;
    }

-- a point that is no better than the slice is not better than p
not-better : (olds : List ℤ) (slice q p : List ℤ) → (slice ≡ q) ⊎ (better olds slice q ≡ true) → better olds slice p ≡ false → better olds q p ≡ false
not-better olds slice q p as_good none =
    elim (better olds q p) as (λ b. better olds q p ≡ b → b ≡ false) [
      | true ↦ λ e. elim as_good [
        | inl same ↦ absurd (false≢true (sym none ∙ ap (λ s. better olds s p) same ∙ e))
        | inr more ↦ absurd (false≢true (sym none ∙ better_trans olds slice q p more e))
      ]
      | false ↦ λ e. refl
    ] refl

pub has-the-least : RootBoxHasTheLeastRepair
has-the-least case root sound is p = (
  λ least. record {
    inside = root-part case root sound is p least.inside;
    repairs = least.repairs;
    best = λ q inside mends.
        let slice = loses-no-repair case root sound is q inside mends in
        not-better case.plan.olds slice.point q p slice.as_good (least.best slice.point slice.inside slice.mends);
  },
  λ least. record {
    inside =
        let slice = loses-no-repair case root sound is p least.inside least.repairs in
        elim slice.as_good [
          | inl same ↦ subst (In root) same slice.inside
          | inr more ↦ absurd (false≢true (sym (least.best slice.point (root-part case root sound is slice.point slice.inside) slice.mends) ∙ more))
        ];
    repairs = least.repairs;
    best = λ q inside mends. least.best q (root-part case root sound is q inside) mends;
  },
)

pub misses-none : RootBoxMissesNoRepair
misses-none case root sound is = (
  λ nothing q inside mends. let slice = loses-no-repair case root sound is q inside mends in nothing slice.point slice.inside slice.mends,
  λ nothing q inside mends. nothing q (root-part case root sound is q inside) mends,
)
