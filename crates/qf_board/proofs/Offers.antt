-- What the tests of a board tell of its explorers.
use Rattle.std.specs.Prelude.{◌≡◌, ◌↔◌, ◌<◌, ◌-◌, ℕ, ℤ, Bool, true, false, not, IsTrue, length}
use Rattle.std.specs.declared.option.Option.{Option}
use Rattle.std.specs.declared.option.Option.TheVariants.{Some, None}
use Rattle.std.specs.Option.{option_map, is_some}
use Rattle.std.proofs.Common.{refl, sym, ap, ◌∙◌, subst, get_or}
use Rattle.std.proofs.lemmas.Bool.{false≢true}
use Rattle.std.proofs.lemmas.Option.{none-some}
use Rattle.qf_base.specs.declared.names.RowName.{RowName}
use Rattle.qf_point.specs.Points.{CanCut}
use Rattle.qf_point.proofs.Positions.{at_position}
use Rattle.qf_board.specs.declared.nodes.Link.{Link}
use Rattle.qf_board.specs.declared.board.Board.TheInside.{Inside}
use Rattle.qf_board.specs.Boards.{Box, Cut, CanHappen, Holds, HoldsNone, HoldsAt, held_place, is_held_by}
use Rattle.qf_board.specs.Numbered.{Numbered, numbered, place_of}
use Rattle.qf_board.specs.Kept.{state_of, IsKept, held_number}
use Rattle.qf_board.proofs.Keeps.{none, holder, held_spot, usable}

number_is : (b : Inside) (who : ℕ) → IsKept b → held_number b.held.items who ≡ option_map (λ (j : ℕ). (get_or (numbered b.links.items) j none).0) (held_place (state_of b) who)
number_is b who kept = kept.held who ∙ sym (at_position (is_held_by who) (λ (x : Numbered). x.0) place_of (numbered b.links.items) none)

mapped_some : (f : ℕ → ℕ) (o : Option ℕ) (at : ℕ) → option_map f o ≡ Some at → (k : ℕ) × (o ≡ Some k)
mapped_some f None at e = absurd (none-some at e)
mapped_some f (Some k) at e = (k, refl)

mapped_none : (f : ℕ → ℕ) (o : Option ℕ) → option_map f o ≡ None → o ≡ None
mapped_none f None e = refl
mapped_none f (Some k) e = absurd (none-some (f k) (sym e))

pub holds_by : (b : Inside) (who at : ℕ) → IsKept b → held_number b.held.items who ≡ Some at → Holds (state_of b) who
holds_by b who at kept is = mapped_some (λ (j : ℕ). (get_or (numbered b.links.items) j none).0) (held_place (state_of b) who) at (sym (number_is b who kept) ∙ is)

pub free_by : (b : Inside) (who : ℕ) → IsKept b → held_number b.held.items who ≡ None → HoldsNone (state_of b) who
free_by b who kept is = mapped_none (λ (j : ℕ). (get_or (numbered b.links.items) j none).0) (held_place (state_of b) who) (sym (number_is b who kept) ∙ is)

-- an explorer has a number exactly where it holds a box
pub holder_test : (b : Inside) (who : ℕ) (o : Option ℕ) → IsKept b → o ≡ held_number b.held.items who → IsTrue (is_some o) ↔ Holds (state_of b) who
holder_test b who None kept is = ((λ h. absurd (false≢true h)), (λ h. absurd (none-some _ (is ∙ holder b who h.0 kept h.1))))
holder_test b who (Some at) kept is = ((λ _. holds_by b who at kept (sym is)), (λ _. refl))

held_nothing : (f : ℕ → ℕ) (o : Option ℕ) (at : ℕ) → o ≡ None → Some at ≡ option_map f o → ⊥
held_nothing f o at free is = none-some at (sym (is ∙ ap (option_map f) free))

-- .. and none exactly where it holds none
free_test : (b : Inside) (who : ℕ) (o : Option ℕ) (none_there : Bool) → IsKept b → o ≡ held_number b.held.items who → is_some o ≡ not none_there → IsTrue none_there ↔ HoldsNone (state_of b) who
free_test b who None true kept is same = ((λ _. free_by b who kept (sym is)), (λ _. refl))
free_test b who None false kept is same = absurd (false≢true same)
free_test b who (Some at) true kept is same = absurd (false≢true (sym same))
free_test b who (Some at) false kept is same =
    ((λ h. absurd (false≢true h)), (λ free. absurd (held_nothing (λ (j : ℕ). (get_or (numbered b.links.items) j none).0) (held_place (state_of b) who) at free (is ∙ number_is b who kept))))

pub take_test : (b : Inside) (who : ℕ) (o : Option ℕ) (none_there : Bool) → IsKept b → who < length b.held.items → o ≡ held_number b.held.items who → is_some o ≡ not none_there → IsTrue none_there ↔ ((who < (state_of b).explorers) × HoldsNone (state_of b) who)
take_test b who o none_there kept small is same =
    let free = free_test b who o none_there kept is same in
    ((λ h. (small, free.0 h)), (λ h. free.1 h.1))

-- the box of a number that an explorer has may be cut exactly where it may cut the box that it holds
pub cut_test : (b : Inside) (who at : ℕ) (l : Link) (param : ℕ) (cut : ℤ) (can : Bool) → IsKept b → held_number b.held.items who ≡ Some at → l ≡ get_or b.links.items at l → IsTrue can ↔ ((0 < param) × CanCut l.node.region (param - 1) cut) → (row : RowName) → IsTrue can ↔ CanHappen (state_of b) (Cut who param cut row)
cut_test b who at l param cut can kept is link test row =
    let held = holds_by b who at kept is in
    let region = λ (k : ℕ) (here : HoldsAt (state_of b) who k).
    let spot = held_spot b who k at kept here is in
    ap (λ (m : Link). m.node.region) (usable b k at l kept spot link).same ∙ spot.region in
    ((λ h. (held.0, held.1, (test.0 h).0, subst (λ (r : Box). CanCut r (param - 1) cut) (region held.0 held.1) (test.0 h).1)), (λ h. test.1 (h.2, subst (λ (r : Box). CanCut r (param - 1) cut) (sym (region h.0 h.1)) h.3)))

pub no_cut : (b : Inside) (who param : ℕ) (cut : ℤ) → IsKept b → held_number b.held.items who ≡ None → (row : RowName) → IsTrue false ↔ CanHappen (state_of b) (Cut who param cut row)
no_cut b who param cut kept is row = ((λ h. absurd (false≢true h)), (λ h. absurd (none-some _ (sym is ∙ holder b who h.0 kept h.1))))

pub number_small : (b : Inside) (who at : ℕ) → IsKept b → held_number b.held.items who ≡ Some at → at < length b.links.items
number_small b who at kept is =
    let held = holds_by b who at kept is in
    (held_spot b who held.0 at kept held.1 is).small
