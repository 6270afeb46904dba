-- The rows that a log inserts, by their places.
use Rattle.std.specs.Prelude.{◌≡◌, ℕ, zero, suc, ◌+◌, ◌-◌, ◌<◌, ◌≤◌, List, [], ◌∷◌, ◌++◌, length, slice_get, map}
use Rattle.std.specs.declared.option.Option.{Option}
use Rattle.std.specs.declared.option.Option.TheVariants.{Some, None}
use Rattle.std.proofs.Common.{refl, ap, sym, ◌∙◌, arith, drop, get_or, add-zero, length-append, append_assoc}
use Rattle.std.proofs.lemmas.Option.{slice_get_past, slice_get_within, slice_get-map, slice_get-get_or}
use Rattle.std.specs.Option.{option_map}
use Rattle.std.proofs.lemmas.List.{length-map, drop_more}
use Rattle.qf_ir.specs.declared.ast.Expr.{Expr}
use Rattle.qf_ir.specs.declared.ast.Statement.{Statement}
use Rattle.qf_ir.specs.declared.ast.Statement.TheVariants.{Update, Delete, Insert}
use Rattle.qf_ir.specs.Value.{Cells, Values}
use Rattle.qf_ir.specs.Replay.{inserted_cells, inserted_table, inserted_count}
use Rattle.qf_ir.specs.Life.{born_with, born_or, inserted_birth}
use Rattle.qf_replay.specs.BirthPlaces.{tuple_places, births_from, births_of, born_by, birth_at}

-- one more tuple
pub tuple_places-step : (places next whole : List (ℕ × ℕ)) (statement tuple count : ℕ) → tuple < count → next ≡ places ++ (statement, tuple) ∷ []
    → places ++ tuple_places statement tuple (count - tuple) ≡ whole → next ++ tuple_places statement (tuple + 1) (count - (tuple + 1)) ≡ whole
tuple_places-step places next whole statement tuple count within is left =
    let more : count - tuple ≡ suc (count - (tuple + 1)) = omega arith in
    ap (λ p. p ++ tuple_places statement (tuple + 1) (count - (tuple + 1))) is
    ∙ append_assoc places ((statement, tuple) ∷ []) (tuple_places statement (tuple + 1) (count - (tuple + 1)))
    ∙ ap (λ n. places ++ tuple_places statement tuple n) (sym more) ∙ left

pub places-within : (statement first n k : ℕ) (rest : List (ℕ × ℕ)) → k < n → slice_get (tuple_places statement first n ++ rest) k ≡ Some (statement, first + k)
places-within statement first zero k rest within = absurd (omega arith)
places-within statement first (suc n) zero rest within = ap (λ t. Some (statement, t)) (sym (add-zero first))
places-within statement first (suc n) (suc k) rest within =
    let e : first + 1 + k ≡ first + suc k = omega arith in
    places-within statement (first + 1) n k rest (omega arith) ∙ ap (λ t. Some (statement, t)) e

pub places-past : (statement first n k : ℕ) (rest : List (ℕ × ℕ)) → n ≤ k → slice_get (tuple_places statement first n ++ rest) k ≡ slice_get rest (k - n)
places-past statement first zero k rest past = let e : k ≡ k - 0 = omega arith in ap (λ n. slice_get rest n) e
places-past statement first (suc n) zero rest past = absurd (omega arith)
places-past statement first (suc n) (suc k) rest past =
    let e : k - n ≡ suc k - suc n = omega arith in
    places-past statement (first + 1) n k rest (omega arith) ∙ ap (λ m. slice_get rest m) e

length-tuple_places : (statement first n : ℕ) → length (tuple_places statement first n) ≡ n
length-tuple_places statement first zero = refl
length-tuple_places statement first (suc n) = ap suc (length-tuple_places statement (first + 1) n)

length-births_from : (first : ℕ) (statements : List Statement) → length (births_from first statements) ≡ inserted_count statements
length-births_from first [] = refl
length-births_from first (Update sets where_ ∷ statements) = length-births_from (first + 1) statements
length-births_from first (Delete where_ ∷ statements) = length-births_from (first + 1) statements
length-births_from first (Insert columns tuples ∷ statements) =
    length-append (tuple_places first 0 (length tuples)) (births_from (first + 1) statements)
    ∙ ap (λ n. n + length (births_from (first + 1) statements)) (length-tuple_places first 0 (length tuples))
    ∙ ap (λ n. length tuples + n) (length-births_from (first + 1) statements)

pub length-births_of : (statements : List Statement) → length (births_of statements) ≡ inserted_count statements
length-births_of statements = length-births_from 0 statements

slice_get-none : {A B : Type 0} (xs : List A) (f : A → B) (i : ℕ) → slice_get (map f xs) i ≡ None → length xs ≤ i
slice_get-none [] f i none = omega arith
slice_get-none (x ∷ xs) f zero none = absurd (cc)
slice_get-none (x ∷ xs) f (suc i) none = omega (arith, slice_get-none xs f i none)

some_is : {A : Type 0} {x y : A} → Some x ≡ Some y → x ≡ y
some_is is = cc

-- the row that is born at a place is the one with this number
record IsBirth (width : ℕ) (point : Values) (statements : List Statement) (first place : ℕ) (found : ℕ × ℕ) : Type 0 where
  at : ℕ
  counts : found.0 ≡ first + at
  same : birth_at width point statements at found.1 ≡ inserted_birth width point statements place

-- the row of this INSERT, or of a later one
insert-is : (width : ℕ) (point : Values) (columns : List ℕ) (tuples : List (List Expr)) (statements : List Statement) (first place : ℕ) (found : ℕ × ℕ)
    → slice_get (tuple_places first 0 (length tuples) ++ births_from (first + 1) statements) place ≡ Some found
    → (length tuples ≤ place → IsBirth width point statements (first + 1) (place - length tuples) found)
    → (got : Option Cells) → slice_get (inserted_table width columns tuples point) place ≡ got → IsBirth width point (Insert columns tuples ∷ statements) first place found
insert-is width point columns tuples statements first place found is later None is_got =
    let past : length tuples ≤ place = slice_get-none tuples (λ tuple. inserted_cells width columns tuple point) place is_got in
    let further = later past in
    record {
      at = suc further.at;
      counts = omega (arith, further.counts);
      same = further.same ∙ sym (ap (λ cells. born_or cells statements (inserted_birth width point statements (place - length tuples))) is_got);
    }
insert-is width point columns tuples statements first place found is later (Some cells) is_got =
    let within : place < length tuples = omega (arith, slice_get_within (inserted_table width columns tuples point) place cells is_got, length-map tuples (λ tuple. inserted_cells width columns tuple point)) in
    let here : Some (first, 0 + place) ≡ Some found = sym (places-within first 0 (length tuples) place (births_from (first + 1) statements) within) ∙ is in
    let at_first : first ≡ found.0 = ap (λ (p : ℕ × ℕ). p.0) (some_is here) in
    let at_place : 0 + place ≡ found.1 = ap (λ (p : ℕ × ℕ). p.1) (some_is here) in
    let same_place : found.1 ≡ place = omega arith in
    record {
      at = 0;
      counts = omega arith;
      same = ap (λ n. born_or (slice_get (inserted_table width columns tuples point) n) statements None) same_place
          ∙ ap (λ got. born_or got statements None) is_got
          ∙ sym (ap (λ got. born_or got statements (inserted_birth width point statements (place - length tuples))) is_got);
    }

births-are : (width : ℕ) (point : Values) (statements : List Statement) (first place : ℕ) (found : ℕ × ℕ)
    → slice_get (births_from first statements) place ≡ Some found → IsBirth width point statements first place found
births-are width point [] first place found is = absurd (cc)
births-are width point (Update sets where_ ∷ statements) first place found is =
    let later = births-are width point statements (first + 1) place found is in
    record { at = suc later.at; counts = omega (arith, later.counts); same = later.same }
births-are width point (Delete where_ ∷ statements) first place found is =
    let later = births-are width point statements (first + 1) place found is in
    record { at = suc later.at; counts = omega (arith, later.counts); same = later.same }
births-are width point (Insert columns tuples ∷ statements) first place found is =
    insert-is width point columns tuples statements first place found is
    (λ past. births-are width point statements (first + 1) (place - length tuples) found
    (sym (places-past first 0 (length tuples) place (births_from (first + 1) statements) past) ∙ is))
    (slice_get (inserted_table width columns tuples point) place) refl

-- the row that is born at its place is the one that goes through the log
pub birth-is : (width : ℕ) (point : Values) (statements : List Statement) (place : ℕ) (found : ℕ × ℕ)
    → slice_get (births_of statements) place ≡ Some found → birth_at width point statements found.0 found.1 ≡ inserted_birth width point statements place
birth-is width point statements place found is =
    let b = births-are width point statements 0 place found is in
    let same : found.0 ≡ b.at = omega (arith, b.counts) in
    ap (λ n. birth_at width point statements n found.1) same ∙ b.same

-- a statement, and what comes after it
birth_at-here : (width : ℕ) (point : Values) (statements : List Statement) (i tuple : ℕ) (d : Statement) → i < length statements
    → birth_at width point statements i tuple ≡ born_by width point (get_or statements i d) tuple (drop (i + 1) statements)
birth_at-here width point [] i tuple d within = absurd (omega arith)
birth_at-here width point (s ∷ statements) zero tuple d within = refl
birth_at-here width point (s ∷ statements) (suc i) tuple d within =
    let e : suc (i + 1) ≡ suc i + 1 = omega arith in
    birth_at-here width point statements i tuple d (omega arith) ∙ ap (λ n. born_by width point (get_or statements i d) tuple (drop n (s ∷ statements))) e

pub birth_at-past : (width : ℕ) (point : Values) (statements : List Statement) (i tuple : ℕ) → length statements ≤ i → birth_at width point statements i tuple ≡ None
birth_at-past width point [] i tuple past = refl
birth_at-past width point (s ∷ statements) zero tuple past = absurd (omega arith)
birth_at-past width point (s ∷ statements) (suc i) tuple past = birth_at-past width point statements i tuple (omega arith)

pub birth_at-is : (width : ℕ) (point : Values) (statements : List Statement) (i tuple : ℕ) (d s : Statement) → i < length statements → d ≡ get_or statements i d → d ≡ s
    → birth_at width point statements i tuple ≡ born_by width point s tuple (drop (i + 1) statements)
birth_at-is width point statements i tuple d s within stands is =
    birth_at-here width point statements i tuple d within ∙ ap (λ t. born_by width point t tuple (drop (i + 1) statements)) (sym stands ∙ is)

pub birth_at-insert : (width : ℕ) (point : Values) (statements : List Statement) (i tuple : ℕ) (d : Statement) (columns columns' : List ℕ) (tuples tuples' : List (List Expr)) (rest : List Statement)
    → i < length statements → d ≡ get_or statements i d → d ≡ Insert columns tuples → columns' ≡ columns → tuples' ≡ tuples → rest ≡ drop (i + 1) statements
    → birth_at width point statements i tuple ≡ born_by width point (Insert columns' tuples') tuple rest
birth_at-insert width point statements i tuple d columns columns' tuples tuples' rest within stands is is_columns is_tuples is_rest =
    birth_at-is width point statements i tuple d (Insert columns tuples) within stands is
    ∙ ap (λ cs. born_by width point (Insert cs tuples) tuple (drop (i + 1) statements)) (sym is_columns)
    ∙ ap (λ ts. born_by width point (Insert columns' ts) tuple (drop (i + 1) statements)) (sym is_tuples)
    ∙ ap (λ r. born_by width point (Insert columns' tuples') tuple r) (sym is_rest)

-- a tuple of an INSERT
pub born_by-past : (width : ℕ) (point : Values) (columns : List ℕ) (tuples : List (List Expr)) (tuple : ℕ) (rest : List Statement) → length tuples ≤ tuple
    → born_by width point (Insert columns tuples) tuple rest ≡ None
born_by-past width point columns tuples tuple rest past =
    ap (λ got. born_or got rest None) (slice_get_past (inserted_table width columns tuples point) tuple (omega (arith, length-map tuples (λ t. inserted_cells width columns t point))))

pub born_by-tuple : (width : ℕ) (point : Values) (columns : List ℕ) (tuples : List (List Expr)) (place : ℕ) (d tuple : List Expr) (rest : List Statement) → place < length tuples
    → d ≡ get_or tuples place d → tuple ≡ d → born_by width point (Insert columns tuples) place rest ≡ Some (born_with (inserted_cells width columns tuple point) rest)
born_by-tuple width point columns tuples place d tuple rest within stands is =
    ap (λ got. born_or got rest None)
    (slice_get-map (λ t. inserted_cells width columns t point) tuples place
    ∙ ap (λ got. option_map (λ t. inserted_cells width columns t point) got) (slice_get-get_or tuples place d within))
    ∙ ap (λ t. Some (born_with (inserted_cells width columns t point) rest)) (sym stands ∙ sym is)

-- the search for a row goes past a statement, or ends at it
module _ (statements : List Statement) (i : ℕ) (d s : Statement) (tuple : ℕ) (whole : Option (ℕ × ℕ)) (within : i < length statements) (stands : d ≡ get_or statements i d) (is : d ≡ s)
    (exists : tuple < inserted_count (drop i statements)) (place : slice_get (births_from i (drop i statements)) tuple ≡ whole) where
  opened : drop i statements ≡ s ∷ drop (i + 1) statements
  opened = drop_more statements i d within ∙ ap (λ t. t ∷ drop (i + 1) statements) (sym stands ∙ is)

  pub exists-here : tuple < inserted_count (s ∷ drop (i + 1) statements)
  exists-here = rw opened at exists

  pub place-here : slice_get (births_from i (s ∷ drop (i + 1) statements)) tuple ≡ whole
  place-here = ap (λ ss. slice_get (births_from i ss) tuple) (sym opened) ∙ place
