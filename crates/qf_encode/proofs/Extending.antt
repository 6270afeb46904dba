-- A circuit that is continued keeps the values that it has.
use Rattle.std.proofs.Common.{◌≡◌, ℕ, suc, ◌+◌, ◌-◌, ◌<◌, ◌≤◌, Bool, true, false, cond, not, ◌||◌, List, [], ◌∷◌, ◌++◌, length, get_or, ℤ, pos, arith, refl, sym, ap, ◌∙◌, length-append, append_assoc, append-nil, eqb-true}
use Rattle.std.specs.List.{list_any, position_or_len}
use Rattle.std.proofs.lemmas.List.{get_or-append-add}
use Rattle.std.proofs.lemmas.Bool.{eq-eqb}
use Rattle.qf_base.specs.Values.{value_of_var}
use Rattle.qf_circuit.specs.declared.circuit.Def.{Def}
use Rattle.qf_circuit.specs.declared.circuit.Def.TheVariants as def
use Rattle.qf_circuit.specs.Circuits.{value_of_def, built, eval}
use Rattle.qf_circuit.proofs.Built.{built_length, built_stays, built_each}
use Rattle.qf_encode.specs.Coding.{Defs, is_param, with_param, param_number}

-- ---- a circuit that goes on from another

abbrev pub Later : Defs → Defs → Type 0
Later a b = (more : Defs) × (b ≡ a ++ more)

pub later_itself : (a : Defs) → Later a a
later_itself a = ([], sym (append-nil a))

pub later_made : (a : Defs) (d : Def) → Later a (a ++ d ∷ [])
later_made a d = (d ∷ [], refl)

pub later_trans : (a b c : Defs) → Later a b → Later b c → Later a c
later_trans a b c h k = (h.0 ++ k.0, k.1 ∙ ap (λ xs. xs ++ k.0) h.1 ∙ append_assoc a h.0 k.0)

pub built_append : {X : Type 0} (f : List X → Def → X) (done : List X) (ds es : Defs) → built f done (ds ++ es) ≡ built f (built f done ds) es
built_append f done [] es = refl
built_append f done (d ∷ ds) es = built_append f (done ++ f done d ∷ []) ds es

-- ---- values of definitions

module _ (point : List ℤ) where
  -- definition n has this value
  abbrev pub Codes : Defs → ℕ → ℤ → Type 0
  Codes defs n z = (0 < n) × (n ≤ length defs) × (value_of_var (eval point defs) n ≡ z)

  pub eval_length : (defs : Defs) → length (eval point defs) ≡ length defs
  eval_length defs = omega (arith, built_length (value_of_def point) (pos 0) [] defs)

  pub codes_later : (a b : Defs) (n : ℕ) (z : ℤ) → Later a b → Codes a n z → Codes b n z
  codes_later a b n z l h =
      let e : b ≡ a ++ l.0 = l.1 in
      let whole = built_append (value_of_def point) [] a l.0 in
      let stays = built_stays (value_of_def point) (pos 0) (eval point a) l.0 (n - 1) (omega (arith, h.0, h.1, eval_length a)) in (
        h.0,
        rw e (omega (arith, h.1, length-append a l.0)),
        rw (e, whole) (stays ∙ h.2),
      )

  pub codes_made : (defs : Defs) (d : Def) → Codes (defs ++ d ∷ []) (length defs + 1) (value_of_def point (eval point defs) d)
  codes_made defs d =
      let whole = built_append (value_of_def point) [] defs (d ∷ []) in
      let last = get_or-append-add (eval point defs) (value_of_def point (eval point defs) d ∷ []) 0 (pos 0) in
      let place : (length defs + 1) - 1 ≡ length (eval point defs) + 0 = omega (arith, eval_length defs) in (
        omega arith,
        omega (arith, length-append defs (d ∷ [])),
        rw (whole, place) last,
      )

  -- ---- parameters

  param_is : (k : ℕ) (d : Def) → is_param k d ≡ true → d ≡ def.Param k
  param_is k (def.Param j) e = ap (λ n. def.Param n) (eqb-true j k e)
  param_is k (def.Const n) e = cc
  param_is k (def.Linear ts n) e = cc
  param_is k (def.AtLeastZero v) e = cc
  param_is k (def.All xs) e = cc
  param_is k (def.Any xs) e = cc
  param_is k (def.Not x) e = cc
  param_is k (def.Choose x a b) e = cc

  found_by : (flag : Bool) (k : ℕ) (d : Def) (ds : Defs) → is_param k d ≡ flag → (flag ≡ false → (position_or_len (is_param k) ds < length ds) × (get_or ds (position_or_len (is_param k) ds) (def.Const (pos 0)) ≡ def.Param k)) → (cond (not flag) (1 + position_or_len (is_param k) ds) 0 < length (d ∷ ds)) × (get_or (d ∷ ds) (cond (not flag) (1 + position_or_len (is_param k) ds) 0) (def.Const (pos 0)) ≡ def.Param k)
  found_by true k d ds e h = (omega arith, param_is k d e)
  found_by false k d ds e h = let rest = h refl in let next : 1 + position_or_len (is_param k) ds ≡ suc (position_or_len (is_param k) ds) = omega arith in (omega (arith, rest.0), rw next rest.1)

  pub param_found : (k : ℕ) (ds : Defs) → list_any (is_param k) ds ≡ true → (position_or_len (is_param k) ds < length ds) × (get_or ds (position_or_len (is_param k) ds) (def.Const (pos 0)) ≡ def.Param k)
  param_found k [] e = cc
  param_found k (d ∷ ds) e = found_by (is_param k d) k d ds refl (λ f. param_found k ds (rw f at e))

  pub param_codes : (defs : Defs) (k : ℕ) → list_any (is_param k) defs ≡ true → Codes defs (param_number defs k) (value_of_var point k)
  param_codes defs k e =
      let found = param_found k defs e in
      let place = position_or_len (is_param k) defs in
      let at = built_each (value_of_def point) (pos 0) [] defs place found.0 in
      let zero_plus : 0 + place ≡ place = omega arith in
      let here = rw zero_plus at at.3 in
      let value : value_of_def point at.0 (get_or defs place (def.Const (pos 0))) ≡ value_of_var point k = ap (value_of_def point at.0) found.1 in
      let less : (place + 1) - 1 ≡ place = omega arith in
      (omega arith, omega (arith, found.0), rw less (here ∙ value))

pub any_more : (p : Def → Bool) (xs ys : Defs) → list_any p xs ≡ true → list_any p (xs ++ ys) ≡ true
any_more p [] ys e = cc
any_more p (x ∷ xs) ys e = by (p x) (list_any p xs) (list_any p (xs ++ ys)) e (any_more p xs ys)
  where
    by : (a b c : Bool) → (a || b) ≡ true → (b ≡ true → c ≡ true) → (a || c) ≡ true
    by true b c e f = refl
    by false b c e f = f e

any_last : (p : Def → Bool) (xs : Defs) (d : Def) → p d ≡ true → list_any p (xs ++ d ∷ []) ≡ true
any_last p [] d e = rw e refl
any_last p (x ∷ xs) d e = by (p x) (list_any p (xs ++ d ∷ [])) (any_last p xs d e)
  where
    by : (a b : Bool) → b ≡ true → (a || b) ≡ true
    by true b e = refl
    by false b e = e

itself : (k : ℕ) → is_param k (def.Param k) ≡ true
itself k = eq-eqb k k refl

pub with_param_has : (defs : Defs) (k : ℕ) → list_any (is_param k) (with_param defs k) ≡ true
with_param_has defs k = by (list_any (is_param k) defs) refl
  where
    by : (flag : Bool) → list_any (is_param k) defs ≡ flag → list_any (is_param k) (cond flag defs (defs ++ def.Param k ∷ [])) ≡ true
    by true e = e
    by false e = any_last (is_param k) defs (def.Param k) (itself k)

pub with_param_later : (defs : Defs) (k : ℕ) → Later defs (with_param defs k)
with_param_later defs k = by (list_any (is_param k) defs)
  where
    by : (flag : Bool) → Later defs (cond flag defs (defs ++ def.Param k ∷ []))
    by true = later_itself defs
    by false = later_made defs (def.Param k)

pub has_later : (k : ℕ) (a b : Defs) → Later a b → list_any (is_param k) a ≡ true → list_any (is_param k) b ≡ true
has_later k a b l e = rw l.1 (any_more (is_param k) a l.0 e)
