-- A least repair has one value within 2^50 for each parameter of the log.
use Rattle.std.proofs.Common.{◌≡◌, suc, ◌^◌, ◌<◌, ◌≤◌, ◌≤ℤ◌, ℤ, pos, negsuc, true, List, [], ◌∷◌, length, map, refl, sym, ◌∙◌, ap, subst, arith}
use Rattle.std.specs.List.{AllByRecursion}
use Rattle.std.proofs.lemmas.Bool.Decides.{nat_tests}
use Rattle.std.proofs.lemmas.Int.{ints}
use Rattle.qf_base.proofs.BoxLaws.{length-In}
use Rattle.qf_base.specs.Values.{Bounds, In}
use Rattle.qf_goal.specs.Case.{Case, IsLeastRepair}
use Rattle.qf_goal.specs.SoundCase.{IsSoundCase}
use Rattle.qf_inputs.specs.Known.{IsSoundStory}
use Rattle.qf_inputs.specs.declared.story.Story.{Story}
use Rattle.qf_ir.specs.Fits.{Small}
use Rattle.qf_log.specs.Reading.{Reading, olds_of}
use Rattle.qf_log.specs.declared.places.ParamPlace.{ParamPlace}
use Rattle.qf_point.specs.Domains.{is_small, AreSmall, HasSmallEnds}
use Rattle.qf_splice.specs.Laws.{IsPointOf}

small_to : (z : ℤ) → Small z → is_small z ≡ true
small_to (pos n) small = let le : n ≤ 2 ^ 50 = omega (arith, ints) in grind (arith, nat_tests)
small_to (negsuc n) small = let le : suc n ≤ 2 ^ 50 = omega (arith, ints) in grind (arith, nat_tests)

small_from : (z : ℤ) → is_small z ≡ true → Small z
small_from (pos n) small = let le : n ≤ 2 ^ 50 = grind (arith, nat_tests) in record { low = omega (arith, ints); high = omega (arith, ints) }
small_from (negsuc n) small = let le : suc n ≤ 2 ^ 50 = grind (arith, nat_tests) in record { low = omega (arith, ints); high = omega (arith, ints) }

are_small : (olds : List ℤ) → AllByRecursion Small olds → AreSmall olds
are_small [] h = tt
are_small (old ∷ olds) h = (small_to old h.0, are_small olds h.1)

small_within : (lo hi z : ℤ) → Small lo → Small hi → lo ≤ℤ z → z ≤ℤ hi → Small z
small_within lo hi z low high below above = record { low = omega (arith, ints); high = omega (arith, ints) }

point_small : (region : Bounds) (point : List ℤ) → HasSmallEnds region → In region point → AllByRecursion Small point
point_small [] [] ends inside = tt
point_small [] (v ∷ point) ends inside = absurd inside
point_small (r ∷ region) [] ends inside = absurd inside
point_small (r ∷ region) (v ∷ point) ends inside =
    (small_within r.0 r.1 v (small_from r.0 ends.0.0) (small_from r.1 ends.0.1) inside.0 inside.1, point_small region point ends.1 inside.2)

as_many : (places : List ParamPlace) → length (map (λ (p : ParamPlace). p.old) places) ≡ length places
as_many [] = refl
as_many (p ∷ places) = ap suc (as_many places)

pub is_point_of : (log : Reading) (case : Case) (point : List ℤ) → case.plan.olds ≡ olds_of log → IsSoundCase case
    → (AreSmall case.domains.olds → HasSmallEnds case.domains.region) → IsLeastRepair case point → IsPointOf log point
is_point_of log case point olds sound ends least = record {
  values =
      sym (length-In case.domains.region point least.inside)
      ∙ (length-In case.domains.region case.plan.olds sound.inside ∙ (ap length olds ∙ as_many log.parameters));
  within = point_small case.domains.region point (ends (subst AreSmall (sym sound.olds) (are_small case.plan.olds sound.plan.small_olds))) least.inside;
}

-- the log of a story has few constants
pub few_places : (story : Story) → IsSoundStory story → length story.log.parameters < 2 ^ 31
few_places story sound =
    let e : length story.program.olds ≡ length story.log.parameters = ap length sound.olds ∙ as_many story.log.parameters in
    omega (arith, e, sound.program.few_params)
