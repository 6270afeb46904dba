-- What a statement without a fault is like, and that a walk's tally finds its fault.
use Rattle.std.proofs.Common.{◌≡◌, ◌∙◌, ap, sym, subst, refl, ℕ, ◌+◌, ◌-◌, ◌^◌, ◌<◌, ◌≤◌, Bool, true, false, not, ◌&&◌, ◌||◌, nat_lt, if◌then◌else◌, List, [], ◌∷◌, ◌++◌, length, map, get_or, drop, length-append, Err, arith}
use Rattle.std.specs.declared.option.Option.{Option}
use Rattle.std.specs.declared.option.Option.TheVariants.{Some, None}
use Rattle.std.specs.List.{flat_map, list_all, list_any, range_with_len}
use Rattle.std.proofs.lemmas.List.FromFn.{length-range_with_len}
use Rattle.std.proofs.lemmas.Bool.{false≢true}
use Rattle.std.proofs.lemmas.Bool.Decides.{nat_tests}
use Rattle.std.proofs.lemmas.Option.{none-some}
use Rattle.std.proofs.lemmas.List.{append-nil, drop_more}
use Rattle.std.proofs.lemmas.List.Folds.{list_all-append, list_any-append}
use Rattle.std.proofs.lemmas.Grind.{flat_map-append}
use Rattle.qf_ir.specs.declared.ast.Expr.{Expr}
use Rattle.qf_ir.specs.declared.ast.Statement.{Statement}
use Rattle.qf_ir.specs.declared.ast.Statement.TheVariants.{Update, Delete, Insert}
use Rattle.qf_ir.specs.declared.table.ColumnKind.{ColumnKind}
use Rattle.qf_ir.specs.declared.fault.IrFault.{IrFault}
use Rattle.qf_ir.specs.declared.fault.IrFault.TheVariants as fault
use Rattle.qf_ir.specs.declared.making.tally.Tally.{Tally}
use Rattle.qf_ir.specs.declared.making.faults.Progress.{Progress}
use Rattle.qf_ir.specs.Parts.{tests_of, exprs_in, params_in, comparisons_of, where_of, statement_tests, statement_params, targets_of, exprs_of}
use Rattle.qf_ir.specs.Checked.{names_known, is_long, is_column, tuple_agrees, listed, knows_names, types_agree, repeats, leaves_out, is_too_many, fault_of, rows_of, first_of, fault_from}
use Rattle.qf_ir.specs.Replay.{inserted_count}
use Rattle.qf_ir.specs.Tallies.{capped, nothing_yet, tally_of}
use Rattle.qf_ir.specs.Steps.{are_too_many, tallied_fault, with_statement, counted, next_fault, Passes}
use Rattle.qf_ir.proofs.Tallies.{Tells, tells-as, tells-names, tells-tests, tells-sets, tells-tuples, and-true}
use Rattle.qf_ir.proofs.Repeats.{and-both}

-- ---- a tally tells of its statement

tells-nothing : Tells nothing_yet true true false 0 0
tells-nothing = record { known = refl; agrees = refl; long = refl; params = refl; comparisons = refl }

pub tally-tells : (kinds : List ColumnKind) (s : Statement)
    → Tells (tally_of kinds s) (knows_names (length kinds) s) (types_agree kinds s) (list_any is_long (exprs_of s)) (length (statement_params s)) (comparisons_of (statement_tests s))
tally-tells kinds (Update sets where_) =
    let w = length kinds in
    let values = map (λ (s : ℕ × Expr). s.1) sets in
    let tests = flat_map tests_of (where_of where_) in
    let sides = flat_map exprs_in tests in
    let whole : exprs_of (Update sets where_) ≡ values ++ sides = append-nil (values ++ sides) in
    let columns = list_all (is_column w) (map (λ (s : ℕ × Expr). s.0) sets) in
    tells-as _ _ _ _ _ _ _ _ _ _ _ (tells-tests kinds tests _ _ _ _ _ _ (tells-sets kinds sets nothing_yet _ _ _ _ _ tells-nothing))
    (three columns (list_all (names_known w) values) (list_all (names_known w) sides)
    ∙ ap (λ b. columns && b) (sym (list_all-append (names_known w) values sides) ∙ ap (list_all (names_known w)) (sym whole)))
    refl
    (sym (list_any-append is_long values sides) ∙ ap (list_any is_long) (sym whole))
    (let joined = ap length (flat_map-append params_in values sides) in
    let n = length-append (flat_map params_in values) (flat_map params_in sides) in
    let same = ap (λ es. length (flat_map params_in es)) whole in omega (arith, joined, n, same))
    (omega arith) where
      three : (a b c : Bool) → ((a && b) && c) ≡ (a && (b && c))
      three true b c = refl
      three false b c = refl
tally-tells kinds (Delete where_) =
    let w = length kinds in
    let tests = flat_map tests_of (where_of where_) in
    let sides = flat_map exprs_in tests in
    let whole : exprs_of (Delete where_) ≡ sides = append-nil sides in
    tells-as _ _ _ _ _ _ _ _ _ _ _ (tells-tests kinds tests nothing_yet _ _ _ _ _ tells-nothing)
    (ap (list_all (names_known w)) (sym whole)) refl (ap (list_any is_long) (sym whole))
    (let same = ap (λ es. length (flat_map params_in es)) whole in omega (arith, same)) (omega arith)
tally-tells kinds (Insert columns tuples) =
    let w = length kinds in
    tells-as _ _ _ _ _ _ _ _ _ _ _
    (tells-tuples kinds (listed w columns) tuples _ _ _ _ _ _ (tells-names nothing_yet true true false (list_all (is_column w) columns) 0 0 tells-nothing))
    refl (and-true (list_all (tuple_agrees kinds (listed w columns)) tuples)) refl (omega arith) refl

-- ---- its fault by the tally

lt-capped : (b n : ℕ) → b < 2 ^ 64 - 1 → nat_lt b (capped n) ≡ nat_lt b n
lt-capped b n small = grind (arith, nat_tests)

capped-twice : (a n : ℕ) → capped (a + capped n) ≡ capped (a + n)
capped-twice a n = omega arith

pub tallied-same : (kinds : List ColumnKind) (progress : Progress) (s : Statement)
    → tallied_fault (length kinds) (with_statement progress (tally_of kinds s) s) (tally_of kinds s) s ≡ next_fault kinds progress s
tallied-same kinds progress s =
    let tally = tally_of kinds s in
    let tells = tally-tells kinds s in
    let number = progress.number + 1 in
    let params = progress.params + length (statement_params s) in
    let rows = progress.rows + rows_of s in
    let is_params : nat_lt 4096 (capped (progress.params + tally.params)) ≡ nat_lt 4096 params =
    ap (λ n. nat_lt 4096 (capped (progress.params + n))) tells.params ∙ ap (nat_lt 4096) (capped-twice progress.params (length (statement_params s))) ∙ lt-capped 4096 params (omega arith) in
    let is_rows : nat_lt 200000 (capped rows) ≡ nat_lt 200000 rows = lt-capped 200000 rows (omega arith) in
    let is_comparisons : nat_lt 64 tally.comparisons ≡ nat_lt 64 (comparisons_of (statement_tests s)) =
    ap (nat_lt 64) tells.comparisons ∙ lt-capped 64 (comparisons_of (statement_tests s)) (omega arith) in
    let many : are_too_many (with_statement progress tally s) tally ≡ is_too_many number params rows s =
    ap (λ b. nat_lt 1000 number || b || nat_lt 200000 (capped rows) || tally.long || nat_lt 64 tally.comparisons) is_params
    ∙ ap (λ b. nat_lt 1000 number || nat_lt 4096 params || b || tally.long || nat_lt 64 tally.comparisons) is_rows
    ∙ ap (λ b. nat_lt 1000 number || nat_lt 4096 params || nat_lt 200000 rows || b || nat_lt 64 tally.comparisons) tells.long
    ∙ ap (λ b. nat_lt 1000 number || nat_lt 4096 params || nat_lt 200000 rows || list_any is_long (exprs_of s) || b) is_comparisons in
    by_parts (length kinds) number s _ _ _ _ _ _ tells.known tells.agrees many where
      chosen : ℕ → ℕ → Statement → Bool → Bool → Bool → Option IrFault
      chosen width number s known agrees many =
          if not known then Some (fault.UnknownColumn number)
          else if not agrees then Some (fault.WrongType number)
          else if repeats (targets_of s) then Some (fault.RepeatedColumn number)
          else if leaves_out width s then Some (fault.MissingColumn number)
          else if many then Some (fault.TooMany number)
          else None

      by_parts : (width number : ℕ) (s : Statement) (k a m k' a' m' : Bool) → k ≡ k' → a ≡ a' → m ≡ m' → chosen width number s k a m ≡ chosen width number s k' a' m'
      by_parts width number s k a m k' a' m' is_k is_a is_m =
          ap (λ b. chosen width number s b a m) is_k ∙ ap (λ b. chosen width number s k' b m) is_a ∙ ap (λ b. chosen width number s k' a' b) is_m

-- ---- a statement without a fault

pub record Accepted (kinds : List ColumnKind) (s : Statement) : Type 0 where
  pub knows : knows_names (length kinds) s ≡ true
  pub agrees : types_agree kinds s ≡ true
  pub once : repeats (targets_of s) ≡ false
  pub full : leaves_out (length kinds) s ≡ false
  pub short : list_any is_long (exprs_of s) ≡ false
  pub few : comparisons_of (statement_tests s) ≤ 64

pub record Within (s p r : ℕ) : Type 0 where
  pub number : s ≤ 1000
  pub params : p ≤ 4096
  pub rows : r ≤ 200000

chosen-none : (b : Bool) (f : IrFault) (rest : Option IrFault) → (if b then Some f else rest) ≡ None → (b ≡ false) × (rest ≡ None)
chosen-none true f rest e = absurd (none-some f (sym e))
chosen-none false f rest e = (refl, e)

pub not-false : (b : Bool) → not b ≡ false → b ≡ true
not-false true e = refl
not-false false e = absurd (false≢true (sym e))

pub none-or : (a b : Bool) → (a || b) ≡ false → (a ≡ false) × (b ≡ false)
none-or true b e = absurd (false≢true (sym e))
none-or false b e = (refl, e)

not-lt : (b n : ℕ) → nat_lt b n ≡ false → n ≤ b
not-lt b n e = grind (arith, nat_tests)

pub accepted : (kinds : List ColumnKind) (number params rows : ℕ) (s : Statement) → fault_of kinds number params rows s ≡ None
    → Accepted kinds s × Within number params rows
accepted kinds number params rows s none =
    let one = chosen-none _ _ _ none in
    let two = chosen-none _ _ _ one.1 in
    let three = chosen-none _ _ _ two.1 in
    let four = chosen-none _ _ _ three.1 in
    let five = chosen-none (is_too_many number params rows s) _ _ four.1 in
    let d = none-or (nat_lt 1000 number || nat_lt 4096 params || nat_lt 200000 rows || list_any is_long (exprs_of s)) (nat_lt 64 (comparisons_of (statement_tests s))) five.0 in
    let c = none-or (nat_lt 1000 number || nat_lt 4096 params || nat_lt 200000 rows) (list_any is_long (exprs_of s)) d.0 in
    let b = none-or (nat_lt 1000 number || nat_lt 4096 params) (nat_lt 200000 rows) c.0 in
    let a = none-or (nat_lt 1000 number) (nat_lt 4096 params) b.0 in (
      record {
        knows = not-false _ one.0;
        agrees = not-false _ two.0;
        once = three.0;
        full = four.0;
        short = c.1;
        few = not-lt 64 _ d.1;
      },
      record { number = not-lt 1000 number a.0; params = not-lt 4096 params a.1; rows = not-lt 200000 rows b.1 },
    )

-- the counts after a statement without a fault
pub counts-same : (kinds : List ColumnKind) (progress : Progress) (s : Statement) → next_fault kinds progress s ≡ None
    → with_statement progress (tally_of kinds s) s ≡ counted progress s
counts-same kinds progress s none =
    let within = (accepted kinds _ _ _ s none).1 in
    let few_params = within.params in
    let few_rows = within.rows in
    let params : capped (progress.params + (tally_of kinds s).params) ≡ progress.params + length (statement_params s) =
    ap (λ n. capped (progress.params + n)) (tally-tells kinds s).params ∙ omega arith in
    let rows : capped (progress.rows + rows_of s) ≡ progress.rows + rows_of s = omega arith in
    same_progress (progress.number + 1) _ _ _ _ params rows where
      same_progress : (number p p' r r' : ℕ) → p ≡ p' → r ≡ r' → ◌≡◌ {A = Progress} (record { number = number; params = p; rows = r }) (record { number = number; params = p'; rows = r' })
      same_progress number p p' r r' is_p is_r =
          ap (λ (x : ℕ). let q : Progress = record { number = number; params = x; rows = r } in q) is_p
          ∙ ap (λ (x : ℕ). let q : Progress = record { number = number; params = p'; rows = x } in q) is_r

-- ---- the code's step

pub step-found : (kinds : List ColumnKind) (all : List ℕ) (progress next : Progress) (tally : Tally) (s : Statement) (o : Option IrFault)
    → all ≡ range_with_len 0 (length kinds) → tally ≡ tally_of kinds s → next ≡ with_statement progress tally s
    → o ≡ tallied_fault (length all) next tally s → next_fault kinds progress s ≡ o
step-found kinds all progress next tally s o is_all is_tally is_next is_o =
    sym (tallied-same kinds progress s)
    ∙ ap (λ t. tallied_fault (length kinds) (with_statement progress t s) t s) (sym is_tally)
    ∙ ap (λ p. tallied_fault (length kinds) p tally s) (sym is_next)
    ∙ ap (λ w. tallied_fault w next tally s) (sym (ap length is_all ∙ length-range_with_len 0 (length kinds)))
    ∙ sym is_o

pub step-counts : (kinds : List ColumnKind) (progress next : Progress) (tally : Tally) (s : Statement) → tally ≡ tally_of kinds s
    → next ≡ with_statement progress tally s → next_fault kinds progress s ≡ None → next ≡ counted progress s
step-counts kinds progress next tally s is_tally is_next none =
    is_next ∙ ap (λ t. with_statement progress t s) is_tally ∙ counts-same kinds progress s none

columns-wide : (w : ℕ) (columns : List ℕ) → w ≤ 32 → list_all (is_column w) columns ≡ true → list_all (is_column 32) columns ≡ true
columns-wide w [] few all = refl
columns-wide w (c ∷ cs) few all =
    let both = and-both (nat_lt c w) (list_all (is_column w) cs) all in
    let low = both.0 in
    let here : nat_lt c 32 ≡ true = grind (arith, nat_tests) in
    ap (λ b. b && list_all (is_column 32) cs) here ∙ columns-wide w cs few both.1

pub targets-known : (kinds : List ColumnKind) (tally : Tally) (s : Statement) → length kinds ≤ 32 → tally ≡ tally_of kinds s → tally.known ≡ true
    → list_all (is_column 32) (targets_of s) ≡ true
targets-known kinds tally s few is_tally known =
    let knows : knows_names (length kinds) s ≡ true = sym (tally-tells kinds s).known ∙ ap (λ (t : Tally). t.known) (sym is_tally) ∙ known in
    columns-wide (length kinds) (targets_of s) few (and-both _ _ knows).0

-- ---- the code's walk

pub record Walked (kinds : List ColumnKind) (starts : ℕ) (rest all : List Statement) (progress : Progress) : Type 0 where
  pub within : Within progress.number progress.params progress.rows
  pub fault : fault_from kinds (progress.number + 1) progress.params progress.rows rest ≡ fault_from kinds 1 0 starts all
  pub inserted : progress.rows + inserted_count rest ≡ starts + inserted_count all

inserted-next : (s : Statement) (rest : List Statement) → inserted_count (s ∷ rest) ≡ rows_of s + inserted_count rest
inserted-next (Update sets where_) rest = omega arith
inserted-next (Delete where_) rest = omega arith
inserted-next (Insert columns tuples) rest = refl

pub walked-start : (kinds : List ColumnKind) (starts : ℕ) (all : List Statement) → starts ≤ 200000
    → Walked kinds starts all all (record { number = 0; params = 0; rows = starts })
walked-start kinds starts all few = record {
  within = record { number = omega arith; params = omega arith; rows = few };
  fault = refl;
  inserted = refl;
}

pub walked-more : (kinds : List ColumnKind) (starts : ℕ) (s : Statement) (rest all : List Statement) (progress next : Progress)
    → Walked kinds starts (s ∷ rest) all progress → next_fault kinds progress s ≡ None → next ≡ counted progress s → Walked kinds starts rest all next
walked-more kinds starts s rest all progress next walked none is = subst (Walked kinds starts rest all) (sym is) (record {
  within = (accepted kinds _ _ _ s none).1;
  fault =
      sym (ap (λ o. first_of o (fault_from kinds (progress.number + 1 + 1) (progress.params + length (statement_params s)) (progress.rows + rows_of s) rest)) none)
      ∙ walked.fault;
  inserted = let n = inserted-next s rest in let before = walked.inserted in omega (arith, n, before);
})

pub walked-found : (kinds : List ColumnKind) (starts : ℕ) (s : Statement) (rest all : List Statement) (progress : Progress) (f : IrFault)
    → Walked kinds starts (s ∷ rest) all progress → next_fault kinds progress s ≡ Some f → fault_from kinds 1 0 starts all ≡ Some f
walked-found kinds starts s rest all progress f walked found =
    sym walked.fault
    ∙ ap (λ o. first_of o (fault_from kinds (progress.number + 1 + 1) (progress.params + length (statement_params s)) (progress.rows + rows_of s) rest)) found

pub walked-end : (kinds : List ColumnKind) (starts : ℕ) (all : List Statement) (progress : Progress) → Walked kinds starts [] all progress
    → (fault_from kinds 1 0 starts all ≡ None) × (progress.rows - starts ≡ inserted_count all)
walked-end kinds starts all progress walked = let before = walked.inserted in (sym walked.fault, omega (arith, before))

pub passes-not : (kinds : List ColumnKind) (starts : ℕ) (all : List Statement) (f : IrFault) → fault_from kinds 1 0 starts all ≡ Some f → Passes kinds starts all (Err f)
passes-not kinds starts all (fault.UnknownColumn n) found = found
passes-not kinds starts all (fault.WrongType n) found = found
passes-not kinds starts all (fault.RepeatedColumn n) found = found
passes-not kinds starts all (fault.MissingColumn n) found = found
passes-not kinds starts all (fault.TooMany n) found = found
passes-not kinds starts all fault.NoMemory found = tt

pub next-item : {X : Type 0} (xs : List X) (i : ℕ) (x : X) → i < length xs → x ≡ get_or xs i x → drop i xs ≡ x ∷ drop (i + 1) xs
next-item xs i x lt is = drop_more xs i x lt ∙ ap (λ y. y ∷ drop (i + 1) xs) (sym is)
