-- The open box with the best key of a board on which work is left.
use Rattle.std.proofs.Common.{◌≡◌, ◌∙◌, sym, ap, arith, subst, ℕ, [], ◌∷◌, length}
use Rattle.std.specs.declared.option.Option.{Option}
use Rattle.std.specs.declared.option.Option.TheVariants.{Some}
use Rattle.qf_point.specs.Points.{HasNoEmpty}
use Rattle.qf_goal.specs.Case.{Case}
use Rattle.qf_board.specs.Boards.{BoardState, Box, box_at, best_place, best_box, HoldsNone, Holds, held_place, Take, GiveBack, after}
use Rattle.qf_board.specs.Sound.{IsSound}
use Rattle.qf_board.proofs.BoardLaws.{Fits, box_fits, best_place_open, length-boxed}
use Rattle.qf_search.specs.Exploring.{IsLeft}
use Rattle.qf_search.proofs.BoardSteps.{take_is, held, given_back_is, box_placed}

module _ (case : Case) (s : BoardState) (left : IsLeft case s) where
  placed : (k : ℕ) × (best_place s ≡ Some k) × (box_at s k ≡ left.box)
  placed = box_placed s left.box left.best

  module _ (free : HoldsNone s 0) where
    -- the explorer that takes it holds it
    pub holds_it : (t : BoardState) → t ≡ after s (Take 0) → Holds t 0
    holds_it t is = (placed.0, ap (λ (r : BoardState). held_place r 0) (is ∙ take_is s 0 placed.0 placed.1) ∙ held s 0 placed.0 placed.1 free)

    -- and giving it back leaves the board as it was
    pub back_again : (t u : BoardState) → t ≡ after s (Take 0) → u ≡ after t (GiveBack 0) → u ≡ s
    back_again t u is back = back ∙ (ap (λ (r : BoardState). after r (GiveBack 0)) (is ∙ take_is s 0 placed.0 placed.1) ∙ given_back_is s 0 placed.0 placed.1 free)

  module _ (sound : IsSound s) where
    fits : Fits s.root (box_at s placed.0)
    fits = box_fits s placed.0 sound (omega (arith, (best_place_open s placed.0 placed.1).0, length-boxed s.places (s.root ∷ []) sound.stands))

    same_box : (o : Option Box) (region : Box) → o ≡ best_box s → o ≡ Some region → box_at s placed.0 ≡ region
    same_box o region handed is = placed.2 ∙ cc_box (best_box s) left.box region left.best (sym handed ∙ is)
      where
        cc_box : (b : Option Box) (x y : Box) → b ≡ Some x → b ≡ Some y → x ≡ y
        cc_box b x y e f = cc

    pub long_box : (o : Option Box) (region : Box) → o ≡ best_box s → o ≡ Some region → s.prices ≡ case.plan.olds → length case.plan.olds ≡ length region
    long_box o region handed is olds =
        sym (ap length olds) ∙ (sound.priced ∙ (sym fits.same ∙ ap length (same_box o region handed is)))

    pub spans_box : (o : Option Box) (region : Box) → o ≡ best_box s → o ≡ Some region → HasNoEmpty region
    spans_box o region handed is = subst HasNoEmpty (same_box o region handed is) fits.spans
