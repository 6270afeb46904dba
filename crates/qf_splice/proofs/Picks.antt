-- The numbers of a log that are parameters, and a point in their places.
use Rattle.std.proofs.Common.{◌≡◌, ℕ, suc, ◌+◌, Bool, true, false, List, [], ◌∷◌, ◌++◌, length, map, get_or, refl, sym, ap, subst, ◌∙◌, arith, append_assoc, Some}
use Rattle.std.specs.Prelude.{ℤ, slice_get}
use Rattle.std.specs.List.{AllByRecursion}
use Rattle.std.proofs.lemmas.List.{length-append}
use Rattle.qf_grammar.specs.declared.tree.Factor.{Factor}
use Rattle.qf_grammar.specs.declared.tree.Factor.TheVariants as factor
use Rattle.qf_grammar.specs.declared.uses.Use.{Use}
use Rattle.qf_grammar.specs.declared.uses.Use.TheVariants as used
use Rattle.qf_log.specs.Parameters.{parameters_in}
use Rattle.qf_log.proofs.Ordering.{used_places, GoOn}
use Rattle.qf_splice.proofs.Agreeing.{AgreeAll}

-- for each number in turn, whether it is a parameter
abbrev pub coefficient_mark : Factor → List Bool
coefficient_mark (factor.Number n) = false ∷ []
coefficient_mark (factor.Name c) = []

abbrev pub marks_of : List Use → List Bool
marks_of [] = []
marks_of (used.Number n ∷ us) = true ∷ marks_of us
marks_of (used.Name c ∷ us) = marks_of us
marks_of (used.Text t ∷ us) = marks_of us
marks_of (used.Product l r ∷ us) = coefficient_mark l ++ (coefficient_mark r ++ marks_of us)

-- the marked ones
abbrev pub pick : {A : Type 0} → List Bool → List A → List A
pick marks [] = []
pick [] (x ∷ xs) = []
pick (true ∷ marks) (x ∷ xs) = x ∷ pick marks xs
pick (false ∷ marks) (x ∷ xs) = pick marks xs

-- these values in place of the marked ones
abbrev pub put : {A : Type 0} → List Bool → List A → List A → List A
put marks [] vs = []
put [] (x ∷ xs) vs = x ∷ xs
put (false ∷ marks) (x ∷ xs) vs = x ∷ put marks xs vs
put (true ∷ marks) (x ∷ xs) [] = x ∷ xs
put (true ∷ marks) (x ∷ xs) (v ∷ vs) = v ∷ put marks xs vs

pub put_length : {A : Type 0} (marks : List Bool) (xs vs : List A) → length (put marks xs vs) ≡ length xs
put_length marks [] vs = refl
put_length [] (x ∷ xs) vs = refl
put_length (false ∷ marks) (x ∷ xs) vs = ap suc (put_length marks xs vs)
put_length (true ∷ marks) (x ∷ xs) [] = refl
put_length (true ∷ marks) (x ∷ xs) (v ∷ vs) = ap suc (put_length marks xs vs)

pub put_all : {A : Type 0} (P : A → Type 0) (marks : List Bool) (xs vs : List A) → AllByRecursion P xs → AllByRecursion P vs → AllByRecursion P (put marks xs vs)
put_all P marks [] vs h k = tt
put_all P [] (x ∷ xs) vs h k = h
put_all P (false ∷ marks) (x ∷ xs) vs h k = (h.0, put_all P marks xs vs h.1 k)
put_all P (true ∷ marks) (x ∷ xs) [] h k = h
put_all P (true ∷ marks) (x ∷ xs) (v ∷ vs) h k = (k.0, put_all P marks xs vs h.1 k.1)

-- what was put is picked
pub pick_put : {A : Type 0} (marks : List Bool) (xs vs : List A) → length vs ≡ length (pick marks xs) → pick marks (put marks xs vs) ≡ vs
pick_put marks [] [] e = refl
pick_put marks [] (v ∷ vs) e = absurd (omega (arith, e))
pick_put [] (x ∷ xs) [] e = refl
pick_put [] (x ∷ xs) (v ∷ vs) e = absurd (omega (arith, e))
pick_put (false ∷ marks) (x ∷ xs) vs e = pick_put marks xs vs e
pick_put (true ∷ marks) (x ∷ xs) [] e = absurd (omega (arith, e))
pick_put (true ∷ marks) (x ∷ xs) (v ∷ vs) e = ap (λ t. v ∷ t) (pick_put marks xs vs (omega (arith, e)))

-- ---- by their places

one_more : {A : Type 0} (front : List A) (x : A) → length front + 1 ≡ length (front ++ x ∷ [])
one_more front x = sym (length-append front (x ∷ []))

next_on : {A : Type 0} (front : List A) (x : A) (ns : List ℕ) → GoOn (length front + 1) ns → GoOn (length (front ++ x ∷ [])) ns
next_on front x ns h = subst (λ k. GoOn k ns) (one_more front x) h

behind : {A : Type 0} (front rest : List A) (x d : A) → get_or (front ++ x ∷ rest) (length front) d ≡ x
behind [] rest x d = refl
behind (y ∷ front) rest x d = behind front rest x d

module _ {A : Type 0} (d : A) where
  abbrev at : List A → ℕ → A
  at xs n = get_or xs n d

  moved : (front rest : List A) (x : A) (ns : List ℕ) → map (at (front ++ x ∷ rest)) ns ≡ map (at ((front ++ x ∷ []) ++ rest)) ns
  moved front rest x ns = ap (λ t. map (at t) ns) (sym (append_assoc front (x ∷ []) rest))

  picked : (us : List Use) (front rest : List A) → GoOn (length front) (used_places us) → length (used_places us) ≡ length rest → map (at (front ++ rest)) (parameters_in us) ≡ pick (marks_of us) rest
  picked [] front [] h e = refl
  picked [] front (x ∷ rest) h e = absurd (omega (arith, e))
  picked (used.Number n ∷ us) front [] h e = absurd (omega (arith, e))
  picked (used.Number n ∷ us) front (x ∷ rest) h e =
      ap (λ y. y ∷ map (at (front ++ x ∷ rest)) (parameters_in us)) (ap (at (front ++ x ∷ rest)) h.0 ∙ behind front rest x d)
      ∙ ap (λ t. x ∷ t) (moved front rest x (parameters_in us) ∙ picked us (front ++ x ∷ []) rest (next_on front x (used_places us) h.1) (omega (arith, e)))
  picked (used.Name c ∷ us) front rest h e = picked us front rest h e
  picked (used.Text t ∷ us) front rest h e = picked us front rest h e
  picked (used.Product (factor.Name c) (factor.Name k) ∷ us) front rest h e = picked us front rest h e
  picked (used.Product (factor.Number m) (factor.Name k) ∷ us) front [] h e = absurd (omega (arith, e))
  picked (used.Product (factor.Number m) (factor.Name k) ∷ us) front (x ∷ rest) h e =
      moved front rest x (parameters_in us) ∙ picked us (front ++ x ∷ []) rest (next_on front x (used_places us) h.1) (omega (arith, e))
  picked (used.Product (factor.Name c) (factor.Number n) ∷ us) front [] h e = absurd (omega (arith, e))
  picked (used.Product (factor.Name c) (factor.Number n) ∷ us) front (x ∷ rest) h e =
      moved front rest x (parameters_in us) ∙ picked us (front ++ x ∷ []) rest (next_on front x (used_places us) h.1) (omega (arith, e))
  picked (used.Product (factor.Number m) (factor.Number n) ∷ us) front [] h e = absurd (omega (arith, e))
  picked (used.Product (factor.Number m) (factor.Number n) ∷ us) front (x ∷ []) h e = absurd (omega (arith, e))
  picked (used.Product (factor.Number m) (factor.Number n) ∷ us) front (x ∷ y ∷ rest) h e =
      moved front (y ∷ rest) x (parameters_in us) ∙ moved (front ++ x ∷ []) rest y (parameters_in us)
      ∙ picked us ((front ++ x ∷ []) ++ y ∷ []) rest (next_on (front ++ x ∷ []) y (used_places us) (subst (λ j. GoOn (j + 1) (used_places us)) (one_more front x) h.1.1)) (omega (arith, e))

  -- the values at the places of the parameters are the marked ones
  pub picked_all : (us : List Use) (xs : List A) → GoOn 0 (used_places us) → length (used_places us) ≡ length xs → map (at xs) (parameters_in us) ≡ pick (marks_of us) xs
  picked_all us xs h e = picked us [] xs h e

-- ---- the factors stay

get_here : (front rest : List ℤ) (x : ℤ) → slice_get (front ++ x ∷ rest) (length front) ≡ Some x
get_here [] rest x = refl
get_here (y ∷ front) rest x = get_here front rest x

same_here : (front others rest left : List ℤ) (x : ℤ) (n : ℕ) → length front ≡ length others → n ≡ length front → slice_get (front ++ x ∷ rest) n ≡ slice_get (others ++ x ∷ left) n
same_here front others rest left x n e h =
    ap (slice_get (front ++ x ∷ rest)) h ∙ get_here front rest x ∙ sym (get_here others left x) ∙ ap (slice_get (others ++ x ∷ left)) (sym e ∙ sym h)

more_same : (front others : List ℤ) (x y : ℤ) → length front ≡ length others → length (front ++ x ∷ []) ≡ length (others ++ y ∷ [])
more_same front others x y e = omega (arith, e, length-append front (x ∷ []), length-append others (y ∷ []))

again : (front others rest left : List ℤ) (x y : ℤ) (us : List Use) → AgreeAll ((front ++ x ∷ []) ++ rest) ((others ++ y ∷ []) ++ left) us → AgreeAll (front ++ x ∷ rest) (others ++ y ∷ left) us
again front others rest left x y us h =
    subst (λ t. AgreeAll (front ++ x ∷ rest) t us) (append_assoc others (y ∷ []) left) (subst (λ t. AgreeAll t ((others ++ y ∷ []) ++ left) us) (append_assoc front (x ∷ []) rest) h)

agree : (us : List Use) (front others rest vs : List ℤ) → length front ≡ length others → GoOn (length front) (used_places us) → length (used_places us) ≡ length rest → length vs ≡ length (parameters_in us) → AgreeAll (front ++ rest) (others ++ put (marks_of us) rest vs) us
agree [] front others rest vs f h e l = tt
agree (used.Number n ∷ us) front others [] vs f h e l = absurd (omega (arith, e))
agree (used.Number n ∷ us) front others (x ∷ rest) [] f h e l = absurd (omega (arith, l))
agree (used.Number n ∷ us) front others (x ∷ rest) (v ∷ vs) f h e l =
    (tt, again front others rest (put (marks_of us) rest vs) x v us (agree us (front ++ x ∷ []) (others ++ v ∷ []) rest vs (more_same front others x v f) (next_on front x (used_places us) h.1) (omega (arith, e)) (omega (arith, l))))
agree (used.Name c ∷ us) front others rest vs f h e l = (tt, agree us front others rest vs f h e l)
agree (used.Text t ∷ us) front others rest vs f h e l = (tt, agree us front others rest vs f h e l)
agree (used.Product (factor.Name c) (factor.Name k) ∷ us) front others rest vs f h e l = ((tt, tt), agree us front others rest vs f h e l)
agree (used.Product (factor.Number m) (factor.Name k) ∷ us) front others [] vs f h e l = absurd (omega (arith, e))
agree (used.Product (factor.Number m) (factor.Name k) ∷ us) front others (x ∷ rest) vs f h e l = (
  (same_here front others rest (put (marks_of us) rest vs) x m f h.0, tt),
  again front others rest (put (marks_of us) rest vs) x x us (agree us (front ++ x ∷ []) (others ++ x ∷ []) rest vs (more_same front others x x f) (next_on front x (used_places us) h.1) (omega (arith, e)) l),
)
agree (used.Product (factor.Name c) (factor.Number n) ∷ us) front others [] vs f h e l = absurd (omega (arith, e))
agree (used.Product (factor.Name c) (factor.Number n) ∷ us) front others (x ∷ rest) vs f h e l = (
  (tt, same_here front others rest (put (marks_of us) rest vs) x n f h.0),
  again front others rest (put (marks_of us) rest vs) x x us (agree us (front ++ x ∷ []) (others ++ x ∷ []) rest vs (more_same front others x x f) (next_on front x (used_places us) h.1) (omega (arith, e)) l),
)
agree (used.Product (factor.Number m) (factor.Number n) ∷ us) front others [] vs f h e l = absurd (omega (arith, e))
agree (used.Product (factor.Number m) (factor.Number n) ∷ us) front others (x ∷ []) vs f h e l = absurd (omega (arith, e))
agree (used.Product (factor.Number m) (factor.Number n) ∷ us) front others (x ∷ y ∷ rest) vs f h e l =
    let left = put (marks_of us) rest vs in
    let g = more_same front others x x f in
    let on : GoOn (length (front ++ x ∷ []) + 1) (used_places us) = subst (λ j. GoOn (j + 1) (used_places us)) (one_more front x) h.1.1 in
    let second : slice_get ((front ++ x ∷ []) ++ y ∷ rest) n ≡ slice_get ((others ++ x ∷ []) ++ y ∷ left) n = same_here (front ++ x ∷ []) (others ++ x ∷ []) rest left y n g (h.1.0 ∙ one_more front x) in (
      (
        same_here front others (y ∷ rest) (y ∷ left) x m f h.0,
        ap (λ t. slice_get t n) (sym (append_assoc front (x ∷ []) (y ∷ rest))) ∙ second ∙ ap (λ t. slice_get t n) (append_assoc others (x ∷ []) (y ∷ left)),
      ),
      again front others (y ∷ rest) (y ∷ left) x x us (again (front ++ x ∷ []) (others ++ x ∷ []) rest left y y us
          (agree us ((front ++ x ∷ []) ++ y ∷ []) ((others ++ x ∷ []) ++ y ∷ []) rest vs (more_same (front ++ x ∷ []) (others ++ x ∷ []) y y g) (next_on (front ++ x ∷ []) y (used_places us) on) (omega (arith, e)) l)),
    )

pub agree_all : (us : List Use) (numbers vs : List ℤ) → GoOn 0 (used_places us) → length (used_places us) ≡ length numbers → length vs ≡ length (parameters_in us) → AgreeAll numbers (put (marks_of us) numbers vs) us
agree_all us numbers vs h e l = agree us [] [] numbers vs refl h e l
