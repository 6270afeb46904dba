-- What is still to be refuted after a change of the bounds, and after it is undone.
use Rattle.std.proofs.Common.{◌≡◌, ◌∙◌, ap, sym, subst, refl, inl, inr, ℕ, zero, suc, ◌+◌, ◌-◌, ◌<◌, ◌≤◌, Bool, true, false, cond, ◌||◌, ◌&&◌, ◌==◌, pos, List, [], ◌∷◌, length, slice_set, slice_get, slice_index_or, count_by, arith, length-set, get_or-set_same}
use Rattle.std.specs.declared.option.Option.TheVariants.{Some}
use Rattle.std.specs.List.{AllByRecursion, list_any}
use Rattle.std.proofs.lemmas.Bool.{or_cases}
use Rattle.std.proofs.lemmas.Bool.Decides.{nat_tests}
use Rattle.std.proofs.lemmas.List.Elements.{recursion_from_All}
use Rattle.std.proofs.lemmas.List.{set-set, set-get_or}
use Rattle.std.proofs.lemmas.List.Sums.{sum_by-set, sum_by-cons}
use Rattle.std.proofs.lemmas.Option.{slice_get_cases}
use Rattle.qf_base.specs.declared.names.Bound.{Bound}
use Rattle.qf_base.specs.declared.names.Bound.TheVariants.{Low, High}
use Rattle.qf_base.specs.Values.{Interval, Bounds, interval_at, interval_of_var}
use Rattle.qf_lin.specs.declared.inequality.System.{System}
use Rattle.qf_lin.specs.declared.step.Step.TheVariants.{Tight, Empty, Case}
use Rattle.qf_lin.specs.Inequalities.{taken, with_bound, is_empty}
use Rattle.qf_lin.specs.Steps.{is_number_of}
use Rattle.qf_tree.specs.Refutations.{keeps_rule, pending_after}
use Rattle.qf_instance.specs.RowSystems.{FitsUnlessEmpty}
use Rattle.qf_instance.proofs.Fits.{bounds_fit}
use Rattle.qf_check.specs.declared.refuting.Cause.{Cause}
use Rattle.qf_check.specs.declared.refuting.Cause.TheVariants as cause
use Rattle.qf_check.specs.declared.refuting.Change.{Change}
use Rattle.qf_check.specs.declared.refuting.Refuting.{Refuting}
use Rattle.qf_check.specs.Undoing.{undone, counted, case_count, with_case, cases_to_come, pending, is_crossed, once, AreVars, FitsThroughout, IsTracked, GoesOn, Took}

-- ---- reading and writing an interval

pub get-within : (bounds : Bounds) (place : ℕ) (x : Interval) → slice_get bounds place ≡ Some x → place < length bounds
get-within bounds place x e = elim (slice_get_cases bounds place).1 [ inl found ↦ found.1 | inr none ↦ cc ]

pub get-at : (bounds : Bounds) (place : ℕ) (x : Interval) → slice_get bounds place ≡ Some x → interval_at bounds place ≡ x
get-at bounds place x e =
    elim (slice_get_cases bounds place).1 [
      | inl found ↦ let same : found.0 ≡ x = cc in at_default bounds place found.0 x (pos 0, pos 0) found.1 found.3 same
      | inr none ↦ cc
    ]
  where
    at_default : (bounds : Bounds) (place : ℕ) (y x d : Interval) → place < length bounds → slice_index_or bounds place y ≡ y → y ≡ x → slice_index_or bounds place d ≡ x
    at_default [] place y x d h e s = absurd (omega arith)
    at_default (b ∷ bs) zero y x d h e s = e ∙ s
    at_default (b ∷ bs) (suc place) y x d h e s = at_default bs place y x d (omega arith) e s

pub set-back : (bounds : Bounds) (place : ℕ) (x former : Interval) → interval_at bounds place ≡ former → slice_set (slice_set bounds place x) place former ≡ bounds
set-back bounds place x former e =
    set-set bounds place x former ∙ ap (λ y. slice_set bounds place y) (sym e) ∙ set-get_or bounds place (pos 0, pos 0)

-- ---- how many intervals are crossed

once-cond : (b : Bool) → cond b 1 0 ≡ once b
once-cond true = refl
once-cond false = refl

-- at the place of an interval that was read
pub crossed-set : (bounds : Bounds) (place : ℕ) (old new : Interval) → slice_get bounds place ≡ Some old → count_by is_crossed (slice_set bounds place new) + once (is_crossed old) ≡ count_by is_crossed bounds + once (is_crossed new)
crossed-set bounds place old new e =
    let by_cond = sum_by-set (λ (i : Interval). cond (is_crossed i) 1 0) bounds place new (pos 0, pos 0) (get-within bounds place old e) in
    let at = get-at bounds place old e in
    let here = rw at at by_cond in
    let was = once-cond (is_crossed old) in
    let is = once-cond (is_crossed new) in
    omega (arith, here, was, is)

count-cons : (i : Interval) (is : Bounds) → count_by is_crossed (i ∷ is) ≡ once (is_crossed i) + count_by is_crossed is
count-cons i is = omega (arith, sum_by-cons (λ (i : Interval). cond (is_crossed i) 1 0) i is, once-cond (is_crossed i))

pub crossed-there : (bounds : Bounds) (place : ℕ) (x : Interval) → slice_get bounds place ≡ Some x → once (is_crossed x) ≤ count_by is_crossed bounds
crossed-there bounds place x e =
    let narrow : Interval = (pos 0, pos 0) in
    omega (arith, crossed-set bounds place x narrow e)

or_by : (flag rest : Bool) (n : ℕ) → (n ≡ 0 → rest ≡ false) → (0 < n → rest ≡ true) → (once flag + n ≡ 0 → (flag || rest) ≡ false) × (0 < once flag + n → (flag || rest) ≡ true)
or_by true rest n none some = (λ e. absurd (omega arith), λ h. refl)
or_by false rest n none some = (λ e. none (omega arith), λ h. some (omega arith))

pub empty-count : (bounds : Bounds) → (count_by is_crossed bounds ≡ 0 → is_empty bounds ≡ false) × (0 < count_by is_crossed bounds → is_empty bounds ≡ true)
empty-count [] = (λ e. refl, λ h. absurd (omega arith))
empty-count (i ∷ is) =
    let more = empty-count is in
    let both = or_by (is_crossed i) (is_empty is) (count_by is_crossed is) more.0 more.1 in
    let c = count-cons i is in
    (λ e. both.0 (omega (arith, c)), λ h. both.1 (omega (arith, c)))

-- ---- the system fits throughout

pub fits_here : (system : System) (bounds : Bounds) (changes : List Change) → FitsThroughout system bounds changes → FitsUnlessEmpty system bounds
fits_here system bounds [] f = f
fits_here system bounds (change ∷ changes) f = f.0

fits_changed : (system : System) (bounds : Bounds) (changes : List Change) (why : Cause) (var : ℕ) (bound : Bound) (former : Interval) → interval_of_var bounds var ≡ former → 0 < var → var ≤ length bounds → FitsThroughout system bounds changes → FitsThroughout system (with_bound bounds var bound) (record { cause = why; var = var; former = former } ∷ changes)
fits_changed system bounds changes why var bound former e p q f =
    let interval : Interval = taken bound (interval_of_var bounds var) in
    let back : slice_set (with_bound bounds var bound) (var - 1) former ≡ bounds = set-back bounds (var - 1) interval former e in
    let same : length (with_bound bounds var bound) ≡ length bounds = length-set bounds (var - 1) interval in
    let long : var ≤ length (with_bound bounds var bound) = omega (arith, q, same) in
    (bounds_fit system bounds var bound (fits_here system bounds changes f), (p, (long, rw back f)))

-- ---- the three kinds of steps

module _ (system : System) (old new : Refuting) (var : ℕ) (bound : Bound) where
  abbrev former : Interval
  former = interval_of_var old.bounds var

  took_long : (why : Cause) → Took old new why var bound → length new.bounds ≡ length old.bounds
  took_long why t = ap length t.bounds ∙ length-set old.bounds (var - 1) (taken bound former)

  pub took_tracked : (why : Cause) → IsTracked system old → Took old new why var bound → IsTracked system new
  took_tracked why k t = record {
    selectors = subst (λ n. AreVars n system.selectors) (sym (took_long why t)) k.selectors;
    rising = k.rising;
    fits = rw (t.bounds, t.changes) (fits_changed system old.bounds old.changes why var bound former refl t.first t.last k.fits);
    crossed = t.crossed;
    depth = t.depth ∙ ap (counted why) k.depth ∙ sym (ap case_count t.changes);
    shallow = t.shallow;
  }

  took_pending : (why : Cause) → Took old new why var bound → pending new ≡ (with_bound old.bounds var bound, counted why (case_count old.changes)) ∷ with_case why old.bounds var (case_count old.changes) (cases_to_come old.bounds old.changes)
  took_pending why t =
      let back = set-back old.bounds (var - 1) (taken bound former) former refl in
      rw (t.is_done, t.changes, t.bounds, back) refl

  pub tight_goes_on : (n : ℕ) → old.is_done ≡ false → IsTracked system old → Took old new cause.Tight var bound → GoesOn system new (pending_after (pending old) (Tight n var bound))
  tight_goes_on n e k t = record { tracked = took_tracked cause.Tight k t; left = rw e (took_pending cause.Tight t) }

pub zero_goes_on : (system : System) (old new : Refuting) (var : ℕ) → old.is_done ≡ false → IsTracked system old → Took old new cause.Zero var (High (pos 0)) → GoesOn system new (pending_after (pending old) (Case var))
zero_goes_on system old new var e k t = record {
  tracked = took_tracked system old new var (High (pos 0)) cause.Zero k t;
  left = rw e (took_pending system old new var (High (pos 0)) cause.Zero t);
}

-- ---- back to a case

-- the last change is undone
pub record Undid (old new : Refuting) (change : Change) (rest : List Change) : Type 0 where
  pub changes : old.changes ≡ change ∷ rest
  pub left : new.changes ≡ rest
  pub bounds : new.bounds ≡ undone old.bounds change
  pub crossed : new.crossed ≡ count_by is_crossed new.bounds
  pub depth : new.depth ≡ old.depth - counted change.cause 0

counted_from : (why : Cause) (n : ℕ) → counted why n ≡ n + counted why 0
counted_from cause.Tight n = omega arith
counted_from cause.Zero n = omega arith
counted_from cause.One n = omega arith

undone_parts : (system : System) (bounds : Bounds) (change : Change) (rest : List Change) → FitsThroughout system bounds (change ∷ rest) → (0 < change.var) × (change.var ≤ length bounds) × FitsThroughout system (undone bounds change) rest
undone_parts system bounds change rest f = (f.1.0, f.1.1.0, f.1.1.1)

module _ (system : System) (old : Refuting) (change : Change) (rest : List Change) (k : IsTracked system old) (e : old.changes ≡ change ∷ rest) where
  pub undo_parts : (0 < change.var) × (change.var ≤ length old.bounds) × FitsThroughout system (undone old.bounds change) rest
  undo_parts = undone_parts system old.bounds change rest (subst (λ cs. FitsThroughout system old.bounds cs) e k.fits)

  pub undo_depth : old.depth ≡ case_count rest + counted change.cause 0
  undo_depth = k.depth ∙ ap case_count e ∙ counted_from change.cause (case_count rest)

pub undid_tracked : (system : System) (old new : Refuting) (change : Change) (rest : List Change) → IsTracked system old → Undid old new change rest → IsTracked system new
undid_tracked system old new change rest k u =
    let parts = undo_parts system old change rest k u.changes in
    let long : length new.bounds ≡ length old.bounds = ap length u.bounds ∙ length-set old.bounds (change.var - 1) change.former in
    let deep = undo_depth system old change rest k u.changes in
    let d : new.depth ≡ case_count rest = omega (arith, u.depth, deep) in
    let shallow = k.shallow in
    record {
      selectors = subst (λ n. AreVars n system.selectors) (sym long) k.selectors;
      rising = k.rising;
      fits = rw (u.bounds, u.left) parts.2;
      crossed = u.crossed;
      depth = d ∙ ap case_count (sym u.left);
      shallow = omega (arith, u.depth, shallow);
    }

-- where it was one, the case 1 is next
pub other_goes_on : (system : System) (old middle new : Refuting) (change : Change) (rest : List Change) → change.cause ≡ cause.Zero → IsTracked system old → Undid old middle change rest → Took middle new cause.One change.var (Low (pos 1)) → GoesOn system new (cases_to_come old.bounds old.changes)
other_goes_on system old middle new change rest z k u t = record {
  tracked = took_tracked system middle new change.var (Low (pos 1)) cause.One (undid_tracked system old middle change rest k u) t;
  left = took_pending system middle new change.var (Low (pos 1)) cause.One t ∙ rw (u.bounds, u.left, u.changes, z) refl;
}

-- ---- what the calls leave

pub took_by : (old set : Refuting) (changes : List Change) (why : Cause) (var : ℕ) (bound : Bound) (got put : Interval) → 0 < var → var ≤ length old.bounds → slice_get old.bounds (var - 1) ≡ Some got → put ≡ taken bound got → set ≡ record old { bounds = slice_set old.bounds (var - 1) put; crossed = count_by is_crossed (slice_set old.bounds (var - 1) put) } → changes ≡ record { cause = why; var = var; former = got } ∷ set.changes → counted why old.depth ≡ old.depth + 1 → old.depth < 8 → old.is_done ≡ false → Took old (record { bounds = set.bounds; crossed = set.crossed; changes = changes; depth = set.depth + 1; is_done = set.is_done }) why var bound
took_by old set changes why var bound got put p q g t e c d shallow there =
    let at = get-at old.bounds (var - 1) got g in
    let b : set.bounds ≡ slice_set old.bounds (var - 1) put = ap (λ (r : Refuting). r.bounds) e in
    let deep : set.depth ≡ old.depth = ap (λ (r : Refuting). r.depth) e in
    record {
      first = p;
      last = q;
      bounds = b ∙ ap (λ x. slice_set old.bounds (var - 1) x) (t ∙ ap (taken bound) (sym at));
      crossed = ap (λ (r : Refuting). r.crossed) e ∙ ap (count_by is_crossed) (sym b);
      changes = c ∙ ap (λ (x : Interval). record { cause = why; var = var; former = x } ∷ set.changes) (sym at) ∙ ap (λ cs. record { cause = why; var = var; former = interval_of_var old.bounds var } ∷ cs) (ap (λ (r : Refuting). r.changes) e);
      depth = ap (λ n. n + 1) deep ∙ sym d;
      shallow = omega (arith, deep, shallow);
      is_done = ap (λ (r : Refuting). r.is_done) e ∙ there;
    }

pub tight_took : (old : Refuting) (bounds : Bounds) (crossed : ℕ) (changes : List Change) (var : ℕ) (bound : Bound) (got now : Interval) → 0 < var → var ≤ length old.bounds → old.crossed ≡ count_by is_crossed old.bounds → old.depth ≤ 8 → old.is_done ≡ false → slice_get old.bounds (var - 1) ≡ Some got → bounds ≡ with_bound old.bounds var bound → slice_get bounds (var - 1) ≡ Some now → crossed + once (is_crossed got) ≡ old.crossed + once (is_crossed now) → changes ≡ record { cause = cause.Tight; var = var; former = got } ∷ old.changes → Took old (record { bounds = bounds; crossed = crossed; changes = changes; depth = old.depth; is_done = old.is_done }) cause.Tight var bound
tight_took old bounds crossed changes var bound got now p q k shallow there g b n count c =
    let at = get-at old.bounds (var - 1) got g in
    let interval : Interval = taken bound (interval_of_var old.bounds var) in
    let there_now : slice_get (with_bound old.bounds var bound) (var - 1) ≡ Some now = rw b at n in
    let is_now : interval ≡ now = sym (get_or-set_same old.bounds (var - 1) interval (pos 0, pos 0) (get-within old.bounds (var - 1) got g)) ∙ get-at (with_bound old.bounds var bound) (var - 1) now there_now in
    let whole : count_by is_crossed (with_bound old.bounds var bound) + once (is_crossed got) ≡ count_by is_crossed old.bounds + once (is_crossed interval) = crossed-set old.bounds (var - 1) got interval g in
    let same : once (is_crossed interval) ≡ once (is_crossed now) = ap (λ (i : Interval). once (is_crossed i)) is_now in
    let right : crossed ≡ count_by is_crossed (with_bound old.bounds var bound) = omega (arith, whole, same, count, k) in
    record {
      first = p;
      last = q;
      bounds = b;
      crossed = right ∙ ap (count_by is_crossed) (sym b);
      changes = c ∙ ap (λ (x : Interval). record { cause = cause.Tight; var = var; former = x } ∷ old.changes) (sym at);
      depth = refl;
      shallow = shallow;
      is_done = there;
    }

pub undid_by : (old new : Refuting) (change : Change) (rest : List Change) → old.changes ≡ change ∷ rest → new ≡ record { bounds = undone old.bounds change; crossed = count_by is_crossed (undone old.bounds change); changes = rest; depth = old.depth - counted change.cause 0; is_done = old.is_done } → Undid old new change rest
undid_by old new change rest c e =
    let b : new.bounds ≡ undone old.bounds change = ap (λ (r : Refuting). r.bounds) e in
    record {
      changes = c;
      left = ap (λ (r : Refuting). r.changes) e;
      bounds = b;
      crossed = ap (λ (r : Refuting). r.crossed) e ∙ ap (count_by is_crossed) (sym b);
      depth = ap (λ (r : Refuting). r.depth) e;
    }

-- ---- whether a step keeps its rule

pub tight_wrong : (system : System) (old : Refuting) (n var : ℕ) (bound : Bound) → old.is_done ≡ false → ((cond (is_empty old.bounds) false true) && is_number_of var (length old.bounds)) ≡ false → false ≡ keeps_rule system (pending old) (Tight n var bound)
tight_wrong system old n var bound there e = rw (there, e) refl

pub empty_right : (system : System) (old : Refuting) (flag : Bool) → old.is_done ≡ false → is_empty old.bounds ≡ flag → flag ≡ keeps_rule system (pending old) Empty
empty_right system old flag there e = rw there (sym e)

equal_by : (v var : ℕ) → (v == var) ≡ true → v ≡ var
equal_by v var e = grind (arith, nat_tests)

pub selector_there : (count : ℕ) (vars : List ℕ) (var : ℕ) → AreVars count vars → list_any (λ s. s == var) vars ≡ true → (0 < var) × (var ≤ count)
selector_there count vars var all found = among vars (recursion_from_All (λ (v : ℕ). (0 < v) × (v ≤ count)) vars all) found
  where
    among : (vars : List ℕ) → AllByRecursion (λ (v : ℕ). (0 < v) × (v ≤ count)) vars → list_any (λ s. s == var) vars ≡ true → (0 < var) × (var ≤ count)
    among [] all found = cc
    among (v ∷ vars) all found =
        elim (or_cases (v == var) (list_any (λ s. s == var) vars) found) [
          | inl here ↦ let same = equal_by v var here in rw same at all.0
          | inr later ↦ among vars all.1 later
        ]
