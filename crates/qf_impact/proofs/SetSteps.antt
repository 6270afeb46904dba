-- Steps over lists of sets.
use Rattle.std.proofs.Common.{◌≡◌, ◌≢◌, ◌∙◌, ap, sym, refl, inl, inr, ℕ, ◌+◌, ◌<◌, ◌≤◌, Bool, true, false, not, ◌&&◌, ◌||◌, ◌==◌, nat_lt, List, [], ◌∷◌, length, get_or, slice_set, below_more, get_or-set_same, get_or-set_other, arith}
use Rattle.std.specs.declared.option.Option.{Option}
use Rattle.std.specs.Prelude.{Result, Ok, Err, OnOk}
use Rattle.std.specs.List.{list_any}
use Rattle.std.proofs.lemmas.List.{length-set, get_or_default}
use Rattle.std.proofs.lemmas.Bool.Decides.{nat_tests}
use Rattle.qf_ir.specs.declared.ast.Atom.{Atom}
use Rattle.qf_ir.specs.declared.ast.Atom.TheVariants.{Column, Param}
use Rattle.qf_ir.specs.declared.ast.Expr.{Expr}
use Rattle.qf_ir.specs.declared.ast.Cond.{Cond}
use Rattle.qf_ir.specs.declared.ast.Statement.TheVariants.{Update}
use Rattle.qf_ir.specs.declared.column_set.ColumnSet.{ColumnSet}
use Rattle.qf_ir.specs.ColumnSets.{has}
use Rattle.qf_ir.specs.Flow.{Place, Live, At, same_place}
use Rattle.qf_impact.specs.Steps.{is_reached, is_cleared, carries, flows}
use Rattle.qf_impact.specs.Atoms.{where_atoms}
use Rattle.qf_impact.specs.Sets.{no_columns, set_at, names, Changed, ChangedBelow}
use Rattle.qf_impact.proofs.Tests.{or-either, or-left, or-right, and-both, and-join, and-all, and-nothing, or-nothing, never}

module _ (becomes : ℕ → (Place → Bool) → Place → Bool) (old sets : List ColumnSet) where
  pub begun : (sets ≡ old) → ChangedBelow becomes old sets 0
  begun same = record { len = ap length same; below = λ i h. absurd (omega arith); above = λ i h. ap (λ (ss : List ColumnSet). set_at ss i) same }

  module _ (i : ℕ) (within : i < length sets) (so_far : ChangedBelow becomes old sets i) where
    pub put : (new : ColumnSet) → ((place : Place) → has new place ≡ becomes i (has (set_at old i)) place) → ChangedBelow becomes old (slice_set sets i new) (i + 1)
    put new is = record {
      len = length-set sets i new ∙ so_far.len;
      below = below_more _ _ (λ k h place. let apart : k ≢ i = omega arith in ap (λ s. has s place) (get_or-set_other sets i k new no_columns apart) ∙ so_far.below k h place)
          (λ place. ap (λ s. has s place) (get_or-set_same sets i new no_columns within) ∙ is place);
      above = λ k h. let apart : k ≢ i = omega arith in get_or-set_other sets i k new no_columns apart ∙ so_far.above k (omega arith);
    }

    pub left : ((place : Place) → has (set_at old i) place ≡ becomes i (has (set_at old i)) place) → ChangedBelow becomes old sets (i + 1)
    left is = record {
      len = so_far.len;
      below = below_more _ _ so_far.below (λ place. let same = so_far.above i (omega arith) in ap (λ s. has s place) same ∙ is place);
      above = λ k h. so_far.above k (omega arith);
    }

  pub finished : (i : ℕ) → ChangedBelow becomes old sets i → length old ≤ i → Changed becomes old sets
  finished i so_far all = record { len = so_far.len; each = λ k h. so_far.below k (omega arith) }

-- the set that stands there, as it was at first
pub set-is : (becomes : ℕ → (Place → Bool) → Place → Bool) (old sets : List ColumnSet) (i : ℕ) (set : ColumnSet) → i < length sets → ChangedBelow becomes old sets i
    → set ≡ get_or sets i set → set ≡ set_at old i
set-is becomes old sets i set within so_far is = is ∙ get_or_default sets i set no_columns within ∙ so_far.above i (omega arith)

-- the columns of atoms that a set has
module _ (set columns : ColumnSet) where
  in_range : (d : ℕ) → has set (At d) ≡ true → nat_lt d 32 ≡ true
  in_range d h = (and-both (nat_lt d 32) _ h).0

  reached-place : (atoms : List Atom) → list_any (is_reached (has set)) atoms ≡ true → (place : Place) × (has set place ≡ true) × (list_any (names place) atoms ≡ true)
  reached-place [] e = absurd (cc)
  reached-place (Column d ∷ atoms) e =
      elim (or-either (has set (At d)) (list_any (is_reached (has set)) atoms) e) [
        | inl h ↦
            let same : (d == d) ≡ true = grind (arith, nat_tests) in
            (At d, h, or-left (names (At d) (Column d)) (list_any (names (At d)) atoms) (and-join (nat_lt d 32) (d == d) (in_range d h) same))
        | inr h ↦ let rest = reached-place atoms h in (rest.0, rest.1, or-right (names rest.0 (Column d)) (list_any (names rest.0) atoms) rest.2)
      ]
  reached-place (Param j ∷ atoms) e = reached-place atoms e

  named-reached : (atoms : List Atom) (place : Place) → has set place ≡ true → list_any (names place) atoms ≡ true → list_any (is_reached (has set)) atoms ≡ true
  named-reached [] place h named = absurd (cc)
  named-reached (Column d ∷ atoms) place h named =
      elim (or-either (names place (Column d)) (list_any (names place) atoms) named) [
        | inl n ↦ or-left (has set (At d)) (list_any (is_reached (has set)) atoms) (at-place place d h (and-both (nat_lt d 32) (same_place place (At d)) n).1)
        | inr n ↦ or-right (has set (At d)) (list_any (is_reached (has set)) atoms) (named-reached atoms place h n)
      ]
    where
      at-place : (p : Place) (d : ℕ) → has set p ≡ true → same_place p (At d) ≡ true → has set (At d) ≡ true
      at-place Live d h same = absurd (cc)
      at-place (At c) d h same = let is : c ≡ d = grind (arith, nat_tests) in rw (← is) h
  named-reached (Param j ∷ atoms) place h named = named-reached atoms place h named

  pub meets-is : (atoms : List Atom) (b : Bool) → ((place : Place) → has columns place ≡ list_any (names place) atoms)
      → (b ≡ true → (place : Place) × (has set place ≡ true) × (has columns place ≡ true))
      → ((place : Place) → has set place ≡ true → has columns place ≡ true → b ≡ true)
      → b ≡ list_any (is_reached (has set)) atoms
  meets-is atoms true are common apart = let h = common refl in sym (named-reached atoms h.0 h.1 (sym (are h.0) ∙ h.2))
  meets-is atoms false are common apart =
      sym (never (list_any (is_reached (has set)) atoms) (λ e. let h = reached-place atoms e in let no : false ≡ true = apart h.0 h.1 (are h.0 ∙ h.2) in absurd (cc)))

-- a set takes the target, where it had a column of the atoms
module _ (target : ColumnSet) (before : List ColumnSet) (atoms : List Atom) where
  abbrev pub carried : ℕ → (Place → Bool) → Place → Bool
  carried i reach place = reach place || (has target place && list_any (is_reached (has (set_at before i))) atoms)

  module _ (old sets : List ColumnSet) (i : ℕ) (within : i < length sets) (so_far : ChangedBelow carried old sets i) (b : Bool)
      (is : b ≡ list_any (is_reached (has (set_at before i))) atoms) where
    pub carry-yes : (new : ColumnSet) → b ≡ true → ((place : Place) → has new place ≡ (has (set_at sets i) place || has target place))
        → ChangedBelow carried old (slice_set sets i new) (i + 1)
    carry-yes new met added =
        put carried old sets i within so_far new (λ place.
        added place
        ∙ ap (λ s. has s place || has target place) (so_far.above i (omega arith))
        ∙ ap (λ t. has (set_at old i) place || t) (sym (and-all (has target place)) ∙ ap (λ r. has target place && r) (sym met ∙ is)))

    pub carry-no : b ≡ false → ChangedBelow carried old sets (i + 1)
    carry-no missed =
        left carried old sets i within so_far (λ place.
        sym (or-nothing (has (set_at old i) place))
        ∙ ap (λ t. has (set_at old i) place || t) (sym (and-nothing (has target place)) ∙ ap (λ r. has target place && r) (sym missed ∙ is)))

-- an UPDATE: what is set without WHERE is taken out, and then added where it is fed
pub updated : (first : ℕ) (assignments : List (ℕ × Expr)) (filter : Option Cond) (atoms : List Atom) (old room mid new : List ColumnSet) → room ≡ old
    → atoms ≡ where_atoms filter
    → Changed (λ i reach place. reach place && not (is_cleared assignments filter place)) old mid
    → Changed (λ i reach place. reach place || list_any (carries (first + i) (has (set_at room i)) atoms place) assignments) mid new
    → Changed (λ i reach place. flows (first + i) (Update assignments filter) reach place) old new
updated first assignments filter atoms old room mid new same_room same_atoms cleared spread = record {
  len = spread.len ∙ cleared.len;
  each = λ i within place.
      let len = cleared.len in
      spread.each i (omega (arith, len)) place
      ∙ ap (λ b. b || list_any (carries (first + i) (has (set_at room i)) atoms place) assignments) (cleared.each i within place)
      ∙ ap (λ (sets : List ColumnSet). (has (set_at old i) place && not (is_cleared assignments filter place)) || list_any (carries (first + i) (has (set_at sets i)) atoms place) assignments) same_room
      ∙ ap (λ (names : List Atom). (has (set_at old i) place && not (is_cleared assignments filter place)) || list_any (carries (first + i) (has (set_at old i)) names place) assignments) same_atoms;
}

pub on_ok : {X E A B : Type 0} (r : Result X E) → (A → B) → OnOk r A → OnOk r B
on_ok (Ok x) f a = f a
on_ok (Err e) f a = tt
