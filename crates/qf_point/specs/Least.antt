-- The best of the points of a box that repair, whatever it is to repair.
use Rattle.std.specs.Prelude.{◌≡◌, ℤ, Bool, false, IsTrue, List, MatchOption}
use Rattle.std.specs.declared.option.Option.{Option}
use Rattle.qf_point.specs.Points.{Price, better, In}

module _ (Repairs : List ℤ → Type 0) where
  -- the point lies in the box and repairs, and no better point does
  pub record Least (region : List (ℤ × ℤ)) (prices : List Price) (p : List ℤ) : Type 0 where
    pub inside : In region p
    pub repairs : Repairs p
    pub best : (q : List ℤ) → In region q → Repairs q → better prices q p ≡ false

  -- no point of the box repairs
  abbrev pub Nothing : List (ℤ × ℤ) → Type 0
  Nothing region = (q : List ℤ) → In region q → Repairs q → ⊥

  -- the least point where there is one
  abbrev pub IsAnswer : List (ℤ × ℤ) → List Price → Option (List ℤ) → Type 0
  IsAnswer region prices found = MatchOption found (Nothing region) (λ p. Least region prices p)

  -- no two points are least
  abbrev pub OneIsLeast : Type 0
  OneIsLeast =
      (region : List (ℤ × ℤ)) (prices : List Price) (p q : List ℤ) → Least region prices p → Least region prices q → p ≡ q

-- .. of the points that pass a test, whatever it is
abbrev pub AtMostOneIsLeast : Type 0
AtMostOneIsLeast = (repairs : List ℤ → Bool) → OneIsLeast (λ q. IsTrue (repairs q))
