-- The places of the parameters' records, record by record.
use Rattle.std.specs.Prelude.{◌≡◌, ◌≢◌, ℕ, ◌+◌, ◌-◌, ◌<◌, ◌≤◌, Bool, true, false, cond, List, [], ◌∷◌, ◌++◌, length, slice_set, nat_eq, IfSome}
use Rattle.std.specs.declared.option.Option.{Option}
use Rattle.std.specs.declared.option.Option.TheVariants.{Some, None}
use Rattle.std.specs.Option.{is_some, option_map}
use Rattle.std.proofs.Common.{zero, suc, refl, sym, ap, ◌∙◌, subst, arith, take, get_or, replicate, ⊎_elim}
use Rattle.std.proofs.lemmas.Bool.{false≢true}
use Rattle.std.proofs.lemmas.Bool.Decides.{eqb_tells}
use Rattle.std.proofs.lemmas.List.{take_more, take_all}
use Rattle.qf_point.specs.declared.domains.DomainRow.{DomainRow}
use Rattle.qf_point.specs.Domains.{row_of}
use Rattle.qf_point.specs.Noted.{place_of, places_from, put_first, noted_at, noted, row_at}
use Rattle.qf_point.proofs.Positions.{position-cons}

apart_test : (a b : ℕ) → a ≢ b → nat_eq a b ≡ false
apart_test a b apart = ⊎_elim (λ same. absurd (apart same.1)) (λ other. other.0) (eqb_tells a b)

same_test : (a b : ℕ) → a ≡ b → nat_eq a b ≡ true
same_test a b same = ⊎_elim (λ is. is.0) (λ other. absurd (other.1 same)) (eqb_tells a b)

abbrev here_or : Bool → Option ℕ → Option ℕ
here_or b rest = cond {A = Option ℕ} b (Some 0) (option_map suc rest)

place_cons : (x : DomainRow) (rows : List DomainRow) (param : ℕ) → place_of (x ∷ rows) param ≡ here_or (nat_eq x.param param) (place_of rows param)
place_cons x rows param = position-cons (λ (row : DomainRow). nat_eq row.param param) x rows

suc_first : (b : Bool) (o : Option ℕ) (n : ℕ) → here_or b (put_first o n) ≡ put_first (here_or b o) (suc n)
suc_first true o n = refl
suc_first false None n = refl
suc_first false (Some k) n = refl

place_last : (rows : List DomainRow) (row : DomainRow) (param : ℕ) → row.param ≡ param → place_of (rows ++ row ∷ []) param ≡ put_first (place_of rows param) (length rows)
place_last [] row param same = place_cons row [] param ∙ ap (λ (b : Bool). here_or b None) (same_test row.param param same)
place_last (x ∷ rows) row param same =
    place_cons x (rows ++ row ∷ []) param
    ∙ (ap (here_or (nat_eq x.param param)) (place_last rows row param same)
    ∙ (suc_first (nat_eq x.param param) (place_of rows param) (length rows) ∙ ap (λ (o : Option ℕ). put_first o (suc (length rows))) (sym (place_cons x rows param))))

place_other : (rows : List DomainRow) (row : DomainRow) (param : ℕ) → row.param ≢ param → place_of (rows ++ row ∷ []) param ≡ place_of rows param
place_other [] row param apart = place_cons row [] param ∙ ap (λ (b : Bool). here_or b None) (apart_test row.param param apart)
place_other (x ∷ rows) row param apart =
    place_cons x (rows ++ row ∷ []) param ∙ (ap (here_or (nat_eq x.param param)) (place_other rows row param apart) ∙ sym (place_cons x rows param))

places_below : (param n : ℕ) (rows : List DomainRow) (row : DomainRow) → row.param < param → places_from param n (rows ++ row ∷ []) ≡ places_from param n rows
places_below param zero rows row below = refl
places_below param (suc n) rows row below =
    ap (λ (f : Option ℕ). f ∷ places_from (param + 1) n (rows ++ row ∷ [])) (place_other rows row param (λ same. omega arith))
    ∙ ap (λ (fs : List (Option ℕ)). place_of rows param ∷ fs) (places_below (param + 1) n rows row (omega arith))

places_last : (param n d : ℕ) (rows : List DomainRow) (row : DomainRow) → row.param ≡ param + d → places_from param n (rows ++ row ∷ []) ≡ noted_at (places_from param n rows) d (length rows)
places_last param zero d rows row is = refl
places_last param (suc n) zero rows row is =
    ap (λ (f : Option ℕ). f ∷ places_from (param + 1) n (rows ++ row ∷ [])) (place_last rows row param (omega arith))
    ∙ ap (λ (fs : List (Option ℕ)). put_first (place_of rows param) (length rows) ∷ fs) (places_below (param + 1) n rows row (omega arith))
places_last param (suc n) (suc d) rows row is =
    ap (λ (f : Option ℕ). f ∷ places_from (param + 1) n (rows ++ row ∷ [])) (place_other rows row param (λ same. omega arith))
    ∙ ap (λ (fs : List (Option ℕ)). place_of rows param ∷ fs) (places_last (param + 1) n d rows row (omega arith))

noted_last : (n k : ℕ) (rows : List DomainRow) (row : DomainRow) → row.param ≡ k → places_from 1 n (rows ++ row ∷ []) ≡ noted (places_from 1 n rows) k (length rows)
noted_last n zero rows row is = places_below 1 n rows row (omega arith)
noted_last n (suc k) rows row is = places_last 1 n k rows row (omega arith)

length-taken : {X : Type 0} (xs : List X) (i : ℕ) → i ≤ length xs → length (take i xs) ≡ i
length-taken xs zero h = refl
length-taken [] (suc i) h = absurd (omega arith)
length-taken (x ∷ xs) (suc i) h = ap suc (length-taken xs i (omega arith))

-- one more record
pub noted_turn : (n i k : ℕ) (rows : List DomainRow) (d : DomainRow) (found new : List (Option ℕ)) → i < length rows → k ≡ (get_or rows i d).param → found ≡ places_from 1 n (take i rows) → new ≡ noted found k i → new ≡ places_from 1 n (take (i + 1) rows)
noted_turn n i k rows d found new within is before put =
    let row = get_or rows i d in
    put ∙ (ap (λ (m : ℕ). noted found m i) is
    ∙ (ap (λ (fs : List (Option ℕ)). noted fs row.param i) before
    ∙ (ap (noted (places_from 1 n (take i rows)) row.param) (sym (length-taken rows i (omega arith)))
    ∙ (sym (noted_last n row.param (take i rows) row refl) ∙ ap (places_from 1 n) (sym (take_more rows i d within))))))

pub noted_start : (param n : ℕ) → replicate n None ≡ places_from param n []
noted_start param zero = refl
noted_start param (suc n) = ap (λ (fs : List (Option ℕ)). None ∷ fs) (noted_start (param + 1) n)

pub noted_end : (n i : ℕ) (rows : List DomainRow) (found : List (Option ℕ)) → length rows ≤ i → found ≡ places_from 1 n (take i rows) → found ≡ places_from 1 n rows
noted_end n i rows found past is = is ∙ ap (places_from 1 n) (take_all i rows past)

pub length-places_from : (param n : ℕ) (rows : List DomainRow) → length (places_from param n rows) ≡ n
length-places_from param zero rows = refl
length-places_from param (suc n) rows = ap suc (length-places_from (param + 1) n rows)

-- ---- one place is noted

less_one : (k : ℕ) → suc k - 1 ≡ k
less_one k = omega arith

noted_suc : (found : List (Option ℕ)) (k at : ℕ) → 0 < k → noted_at found (k - 1) at ≡ noted found k at
noted_suc found zero at some = absurd (omega arith)
noted_suc found (suc k) at some = ap (λ (place : ℕ). noted_at found place at) (less_one k)

pub noted_nowhere : (found : List (Option ℕ)) (k at : ℕ) → k ≡ 0 → found ≡ noted found k at
noted_nowhere found k at is = ap (λ (m : ℕ). noted found m at) (sym is)

past : (found : List (Option ℕ)) (place at : ℕ) → length found ≤ place → found ≡ noted_at found place at
past [] place at h = refl
past (f ∷ found) zero at h = absurd (omega arith)
past (f ∷ found) (suc place) at h = ap (λ (fs : List (Option ℕ)). f ∷ fs) (past found place at (omega arith))

pub noted_past : (found : List (Option ℕ)) (k at : ℕ) → 0 < k → length found ≤ k - 1 → found ≡ noted found k at
noted_past found k at some h = past found (k - 1) at h ∙ noted_suc found k at some

put_there : (o : Option ℕ) (at : ℕ) → is_some o ≡ true → o ≡ put_first o at
put_there None at e = absurd (false≢true e)
put_there (Some it) at e = refl

put_here : (o : Option ℕ) (at : ℕ) → is_some o ≡ false → Some at ≡ put_first o at
put_here None at e = refl
put_here (Some it) at e = absurd (false≢true (sym e))

there : (found : List (Option ℕ)) (place at : ℕ) (d : Option ℕ) → is_some (get_or found place d) ≡ true → found ≡ noted_at found place at
there [] place at d e = refl
there (f ∷ found) zero at d e = ap (λ (g : Option ℕ). g ∷ found) (put_there f at e)
there (f ∷ found) (suc place) at d e = ap (λ (fs : List (Option ℕ)). f ∷ fs) (there found place at d e)

here : (found : List (Option ℕ)) (place at : ℕ) (d : Option ℕ) → is_some (get_or found place d) ≡ false → slice_set found place (Some at) ≡ noted_at found place at
here [] place at d e = refl
here (f ∷ found) zero at d e = ap (λ (g : Option ℕ). g ∷ found) (put_here f at e)
here (f ∷ found) (suc place) at d e = ap (λ (fs : List (Option ℕ)). f ∷ fs) (here found place at d e)

pub noted_there : (found : List (Option ℕ)) (k at : ℕ) (o : Option ℕ) → 0 < k → o ≡ get_or found (k - 1) o → is_some o ≡ true → found ≡ noted found k at
noted_there found k at o some is e = there found (k - 1) at o (sym (ap is_some is) ∙ e) ∙ noted_suc found k at some

pub noted_here : (found : List (Option ℕ)) (k at : ℕ) (o : Option ℕ) → 0 < k → o ≡ get_or found (k - 1) o → is_some o ≡ false → slice_set found (k - 1) (Some at) ≡ noted found k at
noted_here found k at o some is e = here found (k - 1) at o (sym (ap is_some is) ∙ e) ∙ noted_suc found k at some

-- ---- the record of one parameter

row_here_or : (b : Bool) (x : DomainRow) (rows : List DomainRow) (o : Option ℕ) → row_at (x ∷ rows) (here_or b o) ≡ cond {A = Option DomainRow} b (Some x) (row_at rows o)
row_here_or true x rows o = refl
row_here_or false x rows None = refl
row_here_or false x rows (Some k) = refl

row_at_place : (rows : List DomainRow) (param : ℕ) → row_at rows (place_of rows param) ≡ row_of rows param
row_at_place [] param = refl
row_at_place (x ∷ rows) param =
    ap (row_at (x ∷ rows)) (place_cons x rows param)
    ∙ (row_here_or (nat_eq x.param param) x rows (place_of rows param) ∙ ap (λ (o : Option DomainRow). cond {A = Option DomainRow} (nat_eq x.param param) (Some x) o) (row_at_place rows param))

below_suc : (n : ℕ) (o : Option ℕ) → IfSome o (λ place. place < n) → IfSome (option_map suc o) (λ place. place < suc n)
below_suc n None h = h
below_suc n (Some k) h = omega arith

place_below : (rows : List DomainRow) (param : ℕ) → IfSome (place_of rows param) (λ place. place < length rows)
place_below [] param = tt
place_below (x ∷ rows) param =
    subst (λ (o : Option ℕ). IfSome o (λ place. place < suc (length rows))) (sym (place_cons x rows param))
    (elim (nat_eq x.param param) as (λ b. IfSome (here_or b (place_of rows param)) (λ place. place < suc (length rows))) [
      | true ↦ omega arith
      | false ↦ below_suc (length rows) (place_of rows param) (place_below rows param)
    ])

place_at : (param n i : ℕ) (rows : List DomainRow) (d : Option ℕ) → i < n → get_or (places_from param n rows) i d ≡ place_of rows (param + i)
place_at param zero i rows d within = absurd (omega arith)
place_at param (suc n) zero rows d within = ap (place_of rows) (omega arith)
place_at param (suc n) (suc i) rows d within = place_at (param + 1) n i rows d (omega arith) ∙ ap (place_of rows) (omega arith)

pub place_here : (n i : ℕ) (rows : List DomainRow) (found : List (Option ℕ)) (o : Option ℕ) → found ≡ places_from 1 n rows → i < length found → o ≡ get_or found i o → o ≡ place_of rows (i + 1)
place_here n i rows found o is within at =
    let many = ap length is ∙ length-places_from 1 n rows in
    at ∙ (ap (λ (fs : List (Option ℕ)). get_or fs i o) is ∙ (place_at 1 n i rows o (omega arith) ∙ ap (place_of rows) (omega arith)))

pub place_is_below : (i : ℕ) (rows : List DomainRow) (o : Option ℕ) → o ≡ place_of rows (i + 1) → IfSome o (λ place. place < length rows)
place_is_below i rows o is = subst (λ (p : Option ℕ). IfSome p (λ place. place < length rows)) (sym is) (place_below rows (i + 1))

pub row_here : (i : ℕ) (rows items : List DomainRow) (o : Option ℕ) (r : Option DomainRow) → items ≡ rows → o ≡ place_of rows (i + 1) → r ≡ row_at items o → r ≡ row_of rows (i + 1)
row_here i rows items o r same is at = at ∙ (ap (λ (rs : List DomainRow). row_at rs o) same ∙ (ap (row_at rows) is ∙ row_at_place rows (i + 1)))
