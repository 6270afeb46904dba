-- The numbers of parameters as definitions are added.
use Rattle.std.proofs.Common.{◌≡◌, ◌≢◌, ℕ, zero, suc, ◌+◌, ◌==◌, ◌^◌, ◌<◌, Bool, true, false, ◌||◌, List, [], ◌∷◌, ◌++◌, length, slice_index_or, slice_set, arith, refl, sym, ap, ◌∙◌, length-append, get_or-set_same, get_or-set_other, inl, inr, eqb-true}
use Rattle.std.specs.List.{list_any, position_or_len}
use Rattle.std.proofs.lemmas.List.Folds.{list_any-append}
use Rattle.std.proofs.lemmas.Bool.{cases_eq, eq-eqb}
use Rattle.qf_circuit.specs.declared.circuit.Def.{Def}
use Rattle.qf_circuit.specs.declared.circuit.Def.TheVariants as def
use Rattle.qf_encode.specs.Coding.{Defs, is_param, with_param, param_number}
use Rattle.qf_encode.specs.Making.{known_number, Knows, IsNoParam}
use Rattle.qf_encode.proofs.Extending.{Later, any_more}

-- ---- a list that has a zero more

pub zero_more : (xs : List ℕ) (k : ℕ) → slice_index_or (xs ++ 0 ∷ []) k 0 ≡ slice_index_or xs k 0
zero_more [] zero = refl
zero_more [] (suc k) = refl
zero_more (x ∷ xs) zero = refl
zero_more (x ∷ xs) (suc k) = zero_more xs k

-- ---- places

or_none : (b : Bool) → (b || false) ≡ b
or_none true = refl
or_none false = refl

any_with : (p : Def → Bool) (xs : Defs) (d : Def) → list_any p (xs ++ d ∷ []) ≡ (list_any p xs || p d)
any_with p xs d = list_any-append p xs (d ∷ []) ∙ ap (λ b. list_any p xs || b) (or_none (p d))

place_stays : (p : Def → Bool) (xs ys : Defs) → list_any p xs ≡ true → position_or_len p (xs ++ ys) ≡ position_or_len p xs
place_stays p [] ys e = cc
place_stays p (x ∷ xs) ys e = by (p x) refl (λ k. place_stays p xs ys k)
  where
    by : (b : Bool) → p x ≡ b → (list_any p xs ≡ true → position_or_len p (xs ++ ys) ≡ position_or_len p xs) → position_or_len p (x ∷ (xs ++ ys)) ≡ position_or_len p (x ∷ xs)
    by true h more = rw h refl
    by false h more = rw h (ap (λ n. 1 + n) (more (rw h at e)))

place_last : (p : Def → Bool) (xs : Defs) (d : Def) → list_any p xs ≡ false → p d ≡ true → position_or_len p (xs ++ d ∷ []) ≡ length xs
place_last p [] d e h = rw h refl
place_last p (x ∷ xs) d e h = by (p x) refl (λ k. place_last p xs d k h)
  where
    by : (b : Bool) → p x ≡ b → (list_any p xs ≡ false → position_or_len p (xs ++ d ∷ []) ≡ length xs) → position_or_len p (x ∷ (xs ++ d ∷ [])) ≡ suc (length xs)
    by true f more = let g = rw f at e in cc
    by false f more = let rest = more (rw f at e) in rw (f, rest) (omega arith)

-- ---- numbers

pub number_stays : (defs more : Defs) (k : ℕ) → list_any (is_param k) defs ≡ true → param_number (defs ++ more) k ≡ param_number defs k
number_stays defs more k e = ap (λ n. n + 1) (place_stays (is_param k) defs more e)

pub number_later : (a b : Defs) (k : ℕ) → Later a b → list_any (is_param k) a ≡ true → param_number b k ≡ param_number a k
number_later a b k l e = rw l.1 (number_stays a l.0 k e)

number_last : (defs : Defs) (k : ℕ) → list_any (is_param k) defs ≡ false → param_number (defs ++ def.Param k ∷ []) k ≡ length defs + 1
number_last defs k e = ap (λ n. n + 1) (place_last (is_param k) defs (def.Param k) e (eq-eqb k k refl))

-- a definition that is another parameter, or none
known_by : (b : Bool) (defs : Defs) (d : Def) (k : ℕ) → list_any (is_param k) defs ≡ b → is_param k d ≡ false → known_number (defs ++ d ∷ []) k ≡ known_number defs k
known_by true defs d k e h =
    let there : list_any (is_param k) (defs ++ d ∷ []) ≡ true = any_more (is_param k) defs (d ∷ []) e in
    let n = number_stays defs (d ∷ []) k e in
    rw (there, e) n
known_by false defs d k e h =
    let gone : list_any (is_param k) (defs ++ d ∷ []) ≡ false = any_with (is_param k) defs d ∙ rw (e, h) refl in
    rw (gone, e) refl

known_other : (defs : Defs) (d : Def) (k : ℕ) → is_param k d ≡ false → known_number (defs ++ d ∷ []) k ≡ known_number defs k
known_other defs d k h = known_by (list_any (is_param k) defs) defs d k refl h

no_param : (d : Def) (k : ℕ) → IsNoParam d → is_param k d ≡ false
no_param (def.Param j) k h = absurd h
no_param (def.Const n) k h = refl
no_param (def.Linear ts n) k h = refl
no_param (def.AtLeastZero v) k h = refl
no_param (def.All xs) k h = refl
no_param (def.Any xs) k h = refl
no_param (def.Not x) k h = refl
no_param (def.Choose x a b) k h = refl

pub knows_pushed : (numbers : List ℕ) (defs : Defs) (d : Def) → Knows numbers defs → IsNoParam d → length defs + 1 < 2 ^ 32 → Knows numbers (defs ++ d ∷ [])
knows_pushed numbers defs d knows h few = record {
  each = λ k. knows.each k ∙ sym (known_other defs d k (no_param d k h));
  few = omega (arith, few, length-append defs (d ∷ []));
}

pub knows_same : (a b : List ℕ) (defs : Defs) → ((k : ℕ) → slice_index_or b k 0 ≡ slice_index_or a k 0) → Knows a defs → Knows b defs
knows_same a b defs same knows = record { each = λ k. same k ∙ knows.each k; few = knows.few }

-- ---- a parameter that is there, and one that is made

known_there : (b : Bool) (defs : Defs) (k : ℕ) → list_any (is_param k) defs ≡ b → known_number defs k ≢ 0 → b ≡ true
known_there true defs k e h = refl
known_there false defs k e h = absurd (h (rw e refl))

known_gone : (b : Bool) (defs : Defs) (k : ℕ) → list_any (is_param k) defs ≡ b → known_number defs k ≡ 0 → b ≡ false
known_gone true defs k e h = let n : param_number defs k ≡ 0 = rw e at h in absurd (omega (arith, n))
known_gone false defs k e h = refl

pub param_there : (defs : Defs) (k : ℕ) → known_number defs k ≢ 0 → (with_param defs k ≡ defs) × (param_number defs k ≡ known_number defs k)
param_there defs k h =
    let e : list_any (is_param k) defs ≡ true = known_there (list_any (is_param k) defs) defs k refl h in
    (rw e refl, rw e refl)

pub param_made : (defs : Defs) (k : ℕ) → known_number defs k ≡ 0 → (with_param defs k ≡ defs ++ def.Param k ∷ []) × (param_number (defs ++ def.Param k ∷ []) k ≡ length defs + 1)
param_made defs k h =
    let e : list_any (is_param k) defs ≡ false = known_gone (list_any (is_param k) defs) defs k refl h in
    (rw e refl, number_last defs k e)

other_param : (j k : ℕ) → (j ≡ k → ⊥) → (k == j) ≡ false
other_param j k ne = by (k == j) refl
  where
    by : (b : Bool) → (k == j) ≡ b → b ≡ false
    by true e = absurd (ne (sym (eqb-true k j e)))
    by false e = refl

pub knows_param : (numbers : List ℕ) (defs : Defs) (k n : ℕ) → Knows numbers defs → known_number defs k ≡ 0 → n ≡ length defs + 1 → k < length numbers → length (defs ++ def.Param k ∷ []) < 2 ^ 32 → Knows (slice_set numbers k n) (defs ++ def.Param k ∷ [])
knows_param numbers defs k n knows gone is room few = record {
  each = λ j.
      elim (cases_eq j k) [
        | inl e ↦
            let here = get_or-set_same numbers k n 0 room in
            let there : list_any (is_param k) (defs ++ def.Param k ∷ []) ≡ true = any_with (is_param k) defs (def.Param k) ∙ with_itself (list_any (is_param k) defs) k in
            let number = (param_made defs k gone).1 in
            rw (e, here, there, number) is
        | inr ne ↦
            let same = get_or-set_other numbers k j n 0 (λ e. ne e) in
            rw same (knows.each j ∙ sym (known_other defs (def.Param k) j (other_param j k ne)))
      ];
  few = few;
}
  where
    with_itself : (b : Bool) (k : ℕ) → (b || is_param k (def.Param k)) ≡ true
    with_itself true k = refl
    with_itself false k = eq-eqb k k refl
