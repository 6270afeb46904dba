-- Statement by statement, the definitions of a row stay small where the widths are.
use Rattle.std.proofs.Common.{◌≡◌, ℕ, suc, zero, ◌+◌, ◌-◌, ◌<◌, ◌≤◌, ◌^◌, Bool, true, false, cond, List, [], ◌∷◌, ◌++◌, length, slice_index_or, slice_set, slice_get, ℤ, pos, ◌≤ℤ◌, unsigned_abs, Ok, Err, arith, refl, sym, ap, ◌∙◌, inl, inr, get_or-set_same, get_or-set_other, length-set, length-append, append_assoc}
use Rattle.std.specs.declared.option.Option.{Option}
use Rattle.std.specs.declared.option.Option.TheVariants.{Some, None}
use Rattle.std.specs.List.{list_all, AllByRecursion}
use Rattle.std.specs.Int.{int_min, int_max}
use Rattle.std.proofs.lemmas.Int.{ints, clamps}
use Rattle.std.proofs.lemmas.Bool.{cases_eq}
use Rattle.qf_base.specs.declared.names.RowName.{RowName}
use Rattle.qf_base.specs.declared.names.RowName.TheVariants.{Start, Inserted}
use Rattle.qf_base.specs.Values.{Interval, Bounds, interval_of_var, interval_at}
use Rattle.qf_circuit.specs.declared.circuit.Def.{Def}
use Rattle.qf_circuit.specs.declared.circuit.Def.TheVariants as def
use Rattle.qf_circuit.specs.Circuits.{hull_of, hull_of_def, is_set}
use Rattle.qf_ir.specs.declared.ast.Expr.{Expr}
use Rattle.qf_ir.specs.declared.ast.Expr.TheVariants.{Sum, Word}
use Rattle.qf_ir.specs.declared.ast.Cond.{Cond}
use Rattle.qf_ir.specs.declared.ast.Statement.{Statement}
use Rattle.qf_ir.specs.declared.ast.Statement.TheVariants.{Update, Delete, Insert}
use Rattle.qf_ir.specs.Replay.{place_of}
use Rattle.qf_ir.specs.Value.{Cells, number_of, cell_at}
use Rattle.qf_ir.specs.Typed.{IsItem}
use Rattle.qf_ir.specs.Width.{joined, is_narrow, expr_interval, where_steps, sets_steps, stored, sets_widths, tuple_widths, tuples_widths, widths_after, steps_of, widths_from, column_interval, start_widths, widths_of, expr_steps}
use Rattle.qf_encode.specs.declared.coded.Coded.{Coded}
use Rattle.qf_encode.specs.Coding.{Defs, with_param, param_number, made_value, made_values, made_choices, made_cond, made_not, with_columns, coded_after, coded, coded_or, numbers_from, start_coding, start_coding_or, made_item, made_items, insert_coding, insert_coding_or, inserted_coding, circuit_of}
use Rattle.qf_encode.specs.Lives.{SetsIn, StatementIn, StatementsIn, FilledBy, TuplesIn, RowsIn}
use Rattle.qf_system.specs.WidthsKept.{IsPlainExpr, ArePlainSets, IsPlainTuple, IsPlainStatement, ArePlainStatements, IsPlainTable, LiesIn, HasSmallEnds}
use Rattle.qf_encode.proofs.Extending.{Later, later_itself, later_made, later_trans, with_param_later, with_param_has}
use Rattle.qf_encode.proofs.Statements.{consts}
use Rattle.qf_system.proofs.SmallSums.{IsBoxOf}
use Rattle.qf_system.proofs.SmallCircuits.{IsTame, split_narrow, Shown, shown_later, shown_made, tame_made, truth_tame, with_param_tame, param_shown, ColumnsShown, columns_shown_later, value_shown, truth_made, not_tame, cond_tame, small_ends_56}

-- ---- intervals that grow

in_left : (i s t : Interval) → LiesIn i s → LiesIn i (joined s t)
in_left i s t l = (omega (arith, ints, clamps, l.0), (l.1.0, omega (arith, ints, clamps, l.1.1)))

in_right : (i s t : Interval) → LiesIn i t → LiesIn i (joined s t)
in_right i s t l = (omega (arith, ints, clamps, l.0), (l.1.0, omega (arith, ints, clamps, l.1.1)))

in_tuple : (first : ℕ) (columns : List ℕ) (tuple : List Expr) (domains widths : Bounds) (c : ℕ) (i : Interval) → LiesIn i (interval_at widths c) → LiesIn i (interval_at (tuple_widths first columns tuple domains widths) c)
in_tuple first columns tuple domains [] c i l = l
in_tuple first columns tuple domains (w ∷ widths) zero i l = in_left i w (expr_interval (slice_index_or tuple (place_of columns first) (Word 0)) [] domains) l
in_tuple first columns tuple domains (w ∷ widths) (suc c) i l = in_tuple (first + 1) columns tuple domains widths c i l

in_tuples : (columns : List ℕ) (tuples : List (List Expr)) (domains widths : Bounds) (c : ℕ) (i : Interval) → LiesIn i (interval_at widths c) → LiesIn i (interval_at (tuples_widths columns tuples domains widths) c)
in_tuples columns [] domains widths c i l = l
in_tuples columns (tuple ∷ tuples) domains widths c i l =
    in_tuples columns tuples domains (tuple_widths 0 columns tuple domains widths) c i (in_tuple 0 columns tuple domains widths c i l)

tuple_long : (first : ℕ) (columns : List ℕ) (tuple : List Expr) (domains widths : Bounds) → length (tuple_widths first columns tuple domains widths) ≡ length widths
tuple_long first columns tuple domains [] = refl
tuple_long first columns tuple domains (w ∷ widths) = ap suc (tuple_long (first + 1) columns tuple domains widths)

tuples_long : (columns : List ℕ) (tuples : List (List Expr)) (domains widths : Bounds) → length (tuples_widths columns tuples domains widths) ≡ length widths
tuples_long columns [] domains widths = refl
tuples_long columns (tuple ∷ tuples) domains widths = tuples_long columns tuples domains (tuple_widths 0 columns tuple domains widths) ∙ tuple_long 0 columns tuple domains widths

sets_long : (sets : List (ℕ × Expr)) (where_ : Option Cond) (before domains now : Bounds) → length (sets_widths sets where_ before domains now) ≡ length now
sets_long [] where_ before domains now = refl
sets_long (s ∷ sets) where_ before domains now =
    let new = stored where_ (interval_at before s.0) (expr_interval s.1 before domains) in
    sets_long sets where_ before domains (slice_set now s.0 new) ∙ length-set now s.0 new

after_long : (s : Statement) (domains widths : Bounds) → length (widths_after s domains widths) ≡ length widths
after_long (Update sets where_) domains widths = sets_long sets where_ widths domains widths
after_long (Delete where_) domains widths = refl
after_long (Insert columns tuples) domains widths = tuples_long columns tuples domains widths

-- ---- the widths at the start hold every row of the table

abbrev Holds : Interval → ℤ → Type 0
Holds s z = (s.0 ≤ℤ z) × (z ≤ℤ s.1)

holds_left : (s t : Interval) (z : ℤ) → Holds s z → Holds (joined s t) z
holds_left s t z h = (omega (arith, ints, clamps, h.0), omega (arith, ints, clamps, h.1))

holds_right : (s t : Interval) (z : ℤ) → Holds t z → Holds (joined s t) z
holds_right s t z h = (omega (arith, ints, clamps, h.0), omega (arith, ints, clamps, h.1))

column_holds : (c : ℕ) (table : List Cells) (place : ℕ) (cells : Cells) → slice_get table place ≡ Some cells → Holds (column_interval c table) (number_of (cell_at cells c))
column_holds c [] place cells e = absurd cc
column_holds c (row ∷ []) zero cells e = let same : row ≡ cells = cc in rw (← same) (omega (arith, ints), omega (arith, ints))
column_holds c (row ∷ []) (suc place) cells e = absurd cc
column_holds c (row ∷ next ∷ rows) zero cells e =
    let same : row ≡ cells = cc in
    let z = number_of (cell_at row c) in
    rw (← same) (holds_left (z, z) (column_interval c (next ∷ rows)) z (omega (arith, ints), omega (arith, ints)))
column_holds c (row ∷ next ∷ rows) (suc place) cells e =
    holds_right (number_of (cell_at row c), number_of (cell_at row c)) (column_interval c (next ∷ rows)) (number_of (cell_at cells c)) (column_holds c (next ∷ rows) place cells e)

start_long : (first n : ℕ) (table : List Cells) → length (start_widths first n table) ≡ n
start_long first zero table = refl
start_long first (suc n) table = ap suc (start_long (first + 1) n table)

start_holds : (table : List Cells) (cells : Cells) → ((c : ℕ) → Holds (column_interval c table) (number_of (cell_at cells c))) → (first n : ℕ) (rest : Cells) → length rest ≡ n → ((c d : ℕ) → d ≡ first + c → cell_at rest c ≡ cell_at cells d) → (c : ℕ) → Holds (interval_at (start_widths first n table) c) (number_of (cell_at rest c))
start_holds table cells h first zero [] long same c = (omega (arith, ints), omega (arith, ints))
start_holds table cells h first zero (x ∷ rest) long same c = absurd cc
start_holds table cells h first (suc n) [] long same c = absurd cc
start_holds table cells h first (suc n) (x ∷ rest) long same zero = let is : x ≡ cell_at cells first = same 0 first (omega arith) in rw is (h first)
start_holds table cells h first (suc n) (x ∷ rest) long same (suc c) =
    start_holds table cells h (first + 1) n rest (omega (arith, long)) (λ c d e. same (suc c) d (omega (arith, e))) c

row_at : (width : ℕ) (table : List Cells) (place : ℕ) (cells : Cells) → RowsIn width table → IsPlainTable table → slice_get table place ≡ Some cells → (length cells ≡ width) × AllByRecursion (λ cell. unsigned_abs (number_of cell) ≤ 2 ^ 50) cells
row_at width [] place cells rows plain e = absurd cc
row_at width (row ∷ table) zero cells rows plain e = let same : row ≡ cells = cc in rw (← same) (rows.0, plain.0)
row_at width (row ∷ table) (suc place) cells rows plain e = row_at width table place cells rows.1 plain.1 e

-- ---- one statement of the fold

narrow_next : (number : ℕ) (s : Statement) (statements : List Statement) (domains widths final : Bounds) → widths_from number (s ∷ statements) domains widths ≡ Ok final → (list_all is_narrow (steps_of s domains widths) ≡ true) × (widths_from (number + 1) statements domains (widths_after s domains widths) ≡ Ok final)
narrow_next number s statements domains widths final is = by (list_all is_narrow (steps_of s domains widths)) refl is
  where
    by : (b : Bool) → list_all is_narrow (steps_of s domains widths) ≡ b → cond b (widths_from (number + 1) statements domains (widths_after s domains widths)) (Err number) ≡ Ok final → (list_all is_narrow (steps_of s domains widths) ≡ true) × (widths_from (number + 1) statements domains (widths_after s domains widths) ≡ Ok final)
    by true narrow is = (narrow, is)
    by false narrow is = absurd cc

-- ---- a box of the domains

module _ (region domains : Bounds) (box : IsBoxOf domains region) where
  -- ---- what columns are set to

  -- definitions in the intervals that the assignments store
  abbrev pub NewsShown : Bounds → Option Cond → Defs → List ℕ → List (ℕ × Expr) → Type 0
  NewsShown widths where_ defs [] [] = Unit {0}
  NewsShown widths where_ defs (n ∷ ns) (s ∷ sets) = Shown region domains box defs n (stored where_ (interval_at widths s.0) (expr_interval s.1 widths domains)) × NewsShown widths where_ defs ns sets
  NewsShown widths where_ defs [] (s ∷ sets) = ⊥
  NewsShown widths where_ defs (n ∷ ns) [] = ⊥

  news_later : (widths : Bounds) (where_ : Option Cond) (a b : Defs) (ns : List ℕ) (sets : List (ℕ × Expr)) → Later a b → NewsShown widths where_ a ns sets → NewsShown widths where_ b ns sets
  news_later widths where_ a b [] [] l h = tt
  news_later widths where_ a b [] (s ∷ sets) l h = h
  news_later widths where_ a b (n ∷ ns) [] l h = h
  news_later widths where_ a b (n ∷ ns) (s ∷ sets) l h =
      (shown_later region domains box a b n (stored where_ (interval_at widths s.0) (expr_interval s.1 widths domains)) l h.0, news_later widths where_ a b ns sets l h.1)

  values_shown : (columns : List ℕ) (widths : Bounds) (defs : Defs) (sets : List (ℕ × Expr)) → IsTame region defs → ColumnsShown region domains box columns widths defs → SetsIn (length columns) sets → ArePlainSets sets → list_all is_narrow (sets_steps sets widths domains) ≡ true → Later defs (made_values columns defs sets).0 × (IsTame region (made_values columns defs sets).0 × NewsShown widths None (made_values columns defs sets).0 (made_values columns defs sets).1 sets)
  values_shown columns widths defs [] tame h i p narrow = (later_itself defs, (tame, tt))
  values_shown columns widths defs (s ∷ sets) tame h i p narrow =
      let parts = split_narrow (expr_steps s.1 widths domains) (sets_steps sets widths domains) narrow in
      let m = made_value columns defs s.1 in
      let one = value_shown region domains box columns widths defs s.1 tame h i.1.0 p.0 parts.0 in
      let rest = made_values columns m.0 sets in
      let more = values_shown columns widths m.0 sets one.1.0 (columns_shown_later region domains box columns widths defs m.0 one.0 h) i.1.1 p.1 parts.1 in
      (later_trans defs m.0 rest.0 one.0 more.0, (more.1.0, (shown_later region domains box m.0 rest.0 m.1 (expr_interval s.1 widths domains) more.0 one.1.1, more.1.1)))

  choice_by : (sure maybe : Bool) (p q s t : Interval) → LiesIn p s → LiesIn q t → HasSmallEnds p → HasSmallEnds q → LiesIn (cond sure p (cond maybe (int_min p.0 q.0, int_max p.1 q.1) q)) (joined t s) × HasSmallEnds (cond sure p (cond maybe (int_min p.0 q.0, int_max p.1 q.1) q))
  choice_by true maybe p q s t a b c d = (in_right p t s a, c)
  choice_by false true p q s t a b c d = (
    (omega (arith, ints, clamps, a.0, b.0), (omega (arith, ints, clamps, a.1.0, b.1.0), omega (arith, ints, clamps, a.1.1, b.1.1))),
    (omega (arith, ints, clamps, c.0, d.0), omega (arith, ints, clamps, c.1, d.1)),
  )
  choice_by false false p q s t a b c d = (in_left q t s b, d)

  choices_shown : (columns : List ℕ) (widths : Bounds) (filter : Cond) (w : ℕ) (defs : Defs) (sets : List (ℕ × Expr)) (news : List ℕ) → IsTame region defs → ColumnsShown region domains box columns widths defs → SetsIn (length columns) sets → NewsShown widths None defs news sets → Later defs (made_choices columns w defs sets news).0 × (IsTame region (made_choices columns w defs sets news).0 × NewsShown widths (Some filter) (made_choices columns w defs sets news).0 (made_choices columns w defs sets news).1 sets)
  choices_shown columns widths filter w defs [] [] tame h i n = (later_itself defs, (tame, tt))
  choices_shown columns widths filter w defs [] (new ∷ news) tame h i n = absurd n
  choices_shown columns widths filter w defs (s ∷ sets) [] tame h i n = absurd n
  choices_shown columns widths filter w defs (s ∷ sets) (new ∷ news) tame h i n =
      let hull = hull_of region defs in
      let old = slice_index_or columns s.0 0 in
      let d : Def = def.Choose w new old in
      let after = defs ++ d ∷ [] in
      let l = later_made defs d in
      let before = h s.0 i.0 in
      let s_new = expr_interval s.1 widths domains in
      let s_old = interval_at widths s.0 in
      let own = choice_by (is_set (interval_of_var hull w).0) (is_set (interval_of_var hull w).1) (interval_of_var hull new) (interval_of_var hull old) s_new s_old n.0.1.1.0 before.1.1.0 n.0.1.1.1 before.1.1.1 in
      let one = shown_made region domains box defs d (joined s_old s_new) own.0 own.1 in
      let tame2 = tame_made region domains box defs d tame (tt, (tt, small_ends_56 (hull_of_def region hull d) own.1)) in
      let rest = made_choices columns w after sets news in
      let more = choices_shown columns widths filter w after sets news tame2 (columns_shown_later region domains box columns widths defs after l h) i.1.1 (news_later widths None defs after news sets l n.1) in
      (later_trans defs after rest.0 l more.0, (more.1.0, (shown_later region domains box after rest.0 (length defs + 1) (joined s_old s_new) more.0 one, more.1.1)))

  put_shown : (columns : List ℕ) (now : Bounds) (defs : Defs) (k n : ℕ) (s : Interval) → k < length columns → length columns ≡ length now → ColumnsShown region domains box columns now defs → Shown region domains box defs n s → ColumnsShown region domains box (slice_set columns k n) (slice_set now k s) defs
  put_shown columns now defs k n s inside same h own = λ c within.
      elim (cases_eq c k) [
        | inl e ↦
            let a = get_or-set_same columns k n 0 inside in
            let b = get_or-set_same now k s (pos 0, pos 0) (omega (arith, inside, same)) in
            rw (e, a, b) own
        | inr ne ↦
            let a = get_or-set_other columns k c n 0 ne in
            let b = get_or-set_other now k c s (pos 0, pos 0) ne in
            rw (a, b) (h c (omega (arith, within, length-set columns k n)))
      ]

  sets_shown : (widths : Bounds) (where_ : Option Cond) (defs : Defs) (sets : List (ℕ × Expr)) (news columns : List ℕ) (now : Bounds) → SetsIn (length columns) sets → length columns ≡ length now → ColumnsShown region domains box columns now defs → NewsShown widths where_ defs news sets → (length (with_columns columns sets news) ≡ length (sets_widths sets where_ widths domains now)) × ColumnsShown region domains box (with_columns columns sets news) (sets_widths sets where_ widths domains now) defs
  sets_shown widths where_ defs [] [] columns now i same h n = (same, h)
  sets_shown widths where_ defs [] (new ∷ news) columns now i same h n = absurd n
  sets_shown widths where_ defs (s ∷ sets) [] columns now i same h n = absurd n
  sets_shown widths where_ defs (s ∷ sets) (new ∷ news) columns now i same h n =
      let s_new = stored where_ (interval_at widths s.0) (expr_interval s.1 widths domains) in
      let wide = length-set columns s.0 new in
      sets_shown widths where_ defs sets news (slice_set columns s.0 new) (slice_set now s.0 s_new) (rw wide i.1.1) (omega (arith, same, wide, length-set now s.0 s_new)) (put_shown columns now defs s.0 new s_new i.0 same h n.0) n.1

  -- ---- statements

  pub record Kept (c : Coded) (widths : Bounds) : Type 0 where
    pub long : length c.columns ≡ length widths
    pub columns : ColumnsShown region domains box c.columns widths c.circuit
    pub tame : IsTame region c.circuit

  pub step_kept : (width : ℕ) (s : Statement) (c : Coded) (widths : Bounds) → width ≡ length c.columns → StatementIn width s → IsPlainStatement width s → list_all is_narrow (steps_of s domains widths) ≡ true → Kept c widths → Kept (coded_after s c) (widths_after s domains widths)
  step_kept width (Update sets None) c widths wide i p narrow k =
      let all = split_narrow (where_steps None widths domains ++ sets_steps sets widths domains) (widths_after (Update sets None) domains widths) narrow in
      let i2 = rw wide at i.0 in
      let news = made_values c.columns c.circuit sets in
      let made = values_shown c.columns widths c.circuit sets k.tame k.columns i2 p.0 all.0 in
      let done = sets_shown widths None news.0 sets news.1 c.columns widths i2 k.long (columns_shown_later region domains box c.columns widths c.circuit news.0 made.0 k.columns) made.1.1 in
      record { long = done.0; columns = done.1; tame = made.1.0 }
  step_kept width (Update sets (Some filter)) c widths wide i p narrow k =
      let all = split_narrow (where_steps (Some filter) widths domains ++ sets_steps sets widths domains) (widths_after (Update sets (Some filter)) domains widths) narrow in
      let parts = split_narrow (where_steps (Some filter) widths domains) (sets_steps sets widths domains) all.0 in
      let i2 = rw wide at i.0 in
      let f2 = rw wide at i.1 in
      let test = made_cond c.columns c.circuit filter in
      let one = cond_tame region domains box c.columns widths c.circuit filter k.tame k.columns f2 p.1 parts.0 in
      let columns1 = columns_shown_later region domains box c.columns widths c.circuit test.0 one.0 k.columns in
      let news = made_values c.columns test.0 sets in
      let made = values_shown c.columns widths test.0 sets one.1 columns1 i2 p.0 parts.1 in
      let columns2 = columns_shown_later region domains box c.columns widths test.0 news.0 made.0 columns1 in
      let chosen = made_choices c.columns test.1 news.0 sets news.1 in
      let choices = choices_shown c.columns widths filter test.1 news.0 sets news.1 made.1.0 columns2 i2 made.1.1 in
      let columns3 = columns_shown_later region domains box c.columns widths news.0 chosen.0 choices.0 columns2 in
      let done = sets_shown widths (Some filter) chosen.0 sets chosen.1 c.columns widths i2 k.long columns3 choices.1.1 in
      record { long = done.0; columns = done.1; tame = choices.1.0 }
  step_kept width (Delete None) c widths wide i p narrow k =
      let gone = truth_made region domains box c.columns widths c.circuit c.circuit (def.Const (pos 0)) refl tt tt (later_itself c.circuit) k.tame in
      record { long = k.long; columns = columns_shown_later region domains box c.columns widths c.circuit (c.circuit ++ def.Const (pos 0) ∷ []) gone.0 k.columns; tame = gone.1 }
  step_kept width (Delete (Some filter)) c widths wide i p narrow k =
      let f2 = rw wide at i in
      let kept = made_not (made_cond c.columns c.circuit filter) in
      let one = not_tame region domains box c.columns widths c.circuit (made_cond c.columns c.circuit filter) (cond_tame region domains box c.columns widths c.circuit filter k.tame k.columns f2 p narrow) in
      let d : Def = def.All (c.live ∷ kept.1 ∷ []) in
      let last = truth_made region domains box c.columns widths c.circuit kept.0 d refl tt tt one.0 one.1 in
      record { long = k.long; columns = columns_shown_later region domains box c.columns widths c.circuit (kept.0 ++ d ∷ []) last.0 k.columns; tame = last.1 }
  step_kept width (Insert columns tuples) c widths wide i p narrow k = record {
    long = k.long ∙ sym (tuples_long columns tuples domains widths);
    columns = λ n inside. let h = k.columns n inside in (h.0, (h.1.0, (in_tuples columns tuples domains widths n (interval_of_var (hull_of region c.circuit) (slice_index_or c.columns n 0)) h.1.1.0, h.1.1.1)));
    tame = k.tame;
  }

  pub coded_kept : (width : ℕ) (statements : List Statement) (c : Coded) (number : ℕ) (widths final : Bounds) → widths_from number statements domains widths ≡ Ok final → width ≡ length widths → StatementsIn width statements → ArePlainStatements width statements → Kept c widths → IsTame region (coded statements c).circuit
  coded_kept width [] c number widths final is wide i p k = k.tame
  coded_kept width (s ∷ statements) c number widths final is wide i p k =
      let next = narrow_next number s statements domains widths final is in
      let after = step_kept width s c widths (wide ∙ sym k.long) i.0 p.0 next.0 k in
      coded_kept width statements (coded_after s c) (number + 1) (widths_after s domains widths) final next.1 (wide ∙ sym (after_long s domains widths)) i.1 p.1 after

  -- ---- a row of the table

  consts_tame : (done : Defs) (cells : Cells) → AllByRecursion (λ cell. unsigned_abs (number_of cell) ≤ 2 ^ 50) cells → IsTame region done → IsTame region (done ++ consts cells)
  consts_tame done [] p tame = rw (append_nothing done) tame
    where
      append_nothing : (xs : Defs) → xs ++ [] ≡ xs
      append_nothing [] = refl
      append_nothing (x ∷ xs) = ap (λ ys. x ∷ ys) (append_nothing xs)
  consts_tame done (cell ∷ cells) p tame =
      let d : Def = def.Const (number_of cell) in
      let assoc : (done ++ d ∷ []) ++ consts cells ≡ done ++ d ∷ consts cells = append_assoc done (d ∷ []) (consts cells) in
      rw assoc at (consts_tame (done ++ d ∷ []) cells p.1 (tame_made region domains box done d tame (tt, (tt, small_ends_56 (number_of cell, number_of cell) (p.0, p.0)))))

  alone_lies : (z : ℤ) (s : Interval) → s.0 ≤ℤ z → z ≤ℤ s.1 → LiesIn (z, z) s
  alone_lies z s p q = (p, (omega (arith, ints), q))

  consts_shown : (done : Defs) (cells : Cells) (c : ℕ) (s : Interval) → c < length cells → AllByRecursion (λ cell. unsigned_abs (number_of cell) ≤ 2 ^ 50) cells → s.0 ≤ℤ number_of (cell_at cells c) → number_of (cell_at cells c) ≤ℤ s.1 → Shown region domains box (done ++ consts cells) (slice_index_or (numbers_from (length done + 1) cells) c 0) s
  consts_shown done [] c s inside p low high = absurd (omega (arith, inside))
  consts_shown done (cell ∷ cells) zero s inside p low high =
      let d : Def = def.Const (number_of cell) in
      let assoc : (done ++ d ∷ []) ++ consts cells ≡ done ++ d ∷ consts cells = append_assoc done (d ∷ []) (consts cells) in
      shown_later region domains box (done ++ d ∷ []) (done ++ d ∷ consts cells) (length done + 1) s (consts cells, sym assoc) (shown_made region domains box done d s (alone_lies (number_of cell) s low high) (p.0, p.0))
  consts_shown done (cell ∷ cells) (suc k) s inside p low high =
      let d : Def = def.Const (number_of cell) in
      let assoc : (done ++ d ∷ []) ++ consts cells ≡ done ++ d ∷ consts cells = append_assoc done (d ∷ []) (consts cells) in
      let next : length (done ++ d ∷ []) ≡ length done + 1 = length-append done (d ∷ []) in
      rw (next, assoc) at (consts_shown (done ++ d ∷ []) cells k s (omega (arith, inside)) p.1 low high)

  numbers_long : (first : ℕ) (cells : Cells) → length (numbers_from first cells) ≡ length cells
  numbers_long first [] = refl
  numbers_long first (cell ∷ cells) = ap suc (numbers_long (first + 1) cells)

  -- it lives
  begun_tame : (defs : Defs) → IsTame region defs → IsTame region (defs ++ def.Const (pos 1) ∷ [])
  begun_tame defs tame = tame_made region domains box defs (def.Const (pos 1)) tame (tt, (tt, truth_tame region domains box (hull_of region defs) (def.Const (pos 1)) refl))

  start_kept : (cells : Cells) (widths : Bounds) → length cells ≡ length widths → AllByRecursion (λ cell. unsigned_abs (number_of cell) ≤ 2 ^ 50) cells → ((c : ℕ) → ((interval_at widths c).0 ≤ℤ number_of (cell_at cells c)) × (number_of (cell_at cells c) ≤ℤ (interval_at widths c).1)) → Kept (start_coding cells) widths
  start_kept cells widths long p held = record {
    long = numbers_long 1 cells ∙ long;
    columns = λ c inside.
        let within : c < length cells = omega (arith, inside, numbers_long 1 cells) in
        let own = held c in
        shown_later region domains box (consts cells) (consts cells ++ def.Const (pos 1) ∷ []) (slice_index_or (numbers_from 1 cells) c 0) (interval_at widths c) (later_made (consts cells) (def.Const (pos 1))) (consts_shown [] cells c (interval_at widths c) within p own.0 own.1);
    tame = begun_tame (consts cells) (consts_tame [] cells p tt);
  }

  -- ---- an inserted row

  item_shown : (defs : Defs) (e : Expr) → IsItem e → IsPlainExpr e → IsTame region defs → Later defs (made_item defs e).0 × (IsTame region (made_item defs e).0 × Shown region domains box (made_item defs e).0 (made_item defs e).1 (expr_interval e [] domains))
  item_shown defs (Word code) h p tame =
      let d : Def = def.Const (pos code) in
      let ends : HasSmallEnds (pos code, pos code) = (omega (arith, ints, p), omega (arith, ints, p)) in
      (later_made defs d, (tame_made region domains box defs d tame (tt, (tt, small_ends_56 (pos code, pos code) ends)), shown_made region domains box defs d (pos code, pos code) (omega (arith, ints), (omega (arith, ints), omega (arith, ints))) ends))
  item_shown defs (Sum []) h p tame = absurd h
  item_shown defs (Sum (t ∷ [])) h p tame =
      let k = h.1.0 in
      let one = param_shown region domains box (with_param defs k) k (with_param_has defs k) in
      let wide : LiesIn (interval_of_var (hull_of region (with_param defs k)) (param_number (with_param defs k) k)) (expr_interval (Sum (t ∷ [])) [] domains) =
      rw (h.0, h.1.1) (omega (arith, ints, one.1.1.0.0), (one.1.1.0.1.0, omega (arith, ints, one.1.1.0.1.1))) in
      rw h.1.1 (with_param_later defs k, (with_param_tame region domains box defs k tame, (one.0, (one.1.0, (rw h.1.1 at wide, one.1.1.1)))))
  item_shown defs (Sum (t ∷ u ∷ ts)) h p tame = absurd h

  module _ (columns : List ℕ) (tuple : List Expr) where
    abbrev item_at : ℕ → Expr
    item_at column = slice_index_or tuple (place_of columns column) (Word 0)

    abbrev ItemsShown : Defs → ℕ → List ℕ → Type 0
    ItemsShown defs first [] = Unit {0}
    ItemsShown defs first (n ∷ ns) = Shown region domains box defs n (expr_interval (item_at first) [] domains) × ItemsShown defs (first + 1) ns

    items_shown : (n first : ℕ) (defs : Defs) → ((column : ℕ) → column < first + n → IsItem (item_at column) × IsPlainExpr (item_at column)) → IsTame region defs → Later defs (made_items columns tuple defs first n).0 × (IsTame region (made_items columns tuple defs first n).0 × ((length (made_items columns tuple defs first n).1 ≡ n) × ItemsShown (made_items columns tuple defs first n).0 first (made_items columns tuple defs first n).1))
    items_shown zero first defs h tame = (later_itself defs, (tame, (refl, tt)))
    items_shown (suc n) first defs h tame =
        let e = item_at first in
        let item = made_item defs e in
        let own = h first (omega arith) in
        let one = item_shown defs e own.0 own.1 tame in
        let rest = made_items columns tuple item.0 (first + 1) n in
        let more = items_shown n (first + 1) item.0 (λ column inside. h column (omega (arith, inside))) one.1.0 in
        (later_trans defs item.0 rest.0 one.0 more.0, (more.1.0, (ap suc more.1.1.0, (shown_later region domains box item.0 rest.0 item.1 (expr_interval e [] domains) more.0 one.1.1, more.1.1.1))))

    items_at : (defs : Defs) (first : ℕ) (ns : List ℕ) (c : ℕ) → c < length ns → ItemsShown defs first ns → Shown region domains box defs (slice_index_or ns c 0) (expr_interval (item_at (first + c)) [] domains)
    items_at defs first [] c inside h = absurd (omega (arith, inside))
    items_at defs first (n ∷ ns) zero inside h = let same : first + 0 ≡ first = omega arith in rw same h.0
    items_at defs first (n ∷ ns) (suc c) inside h =
        let same : first + suc c ≡ (first + 1) + c = omega arith in
        rw same (items_at defs (first + 1) ns c (omega (arith, inside)) h.1)

    in_item : (first : ℕ) (widths : Bounds) (c : ℕ) (i : Interval) → c < length widths → LiesIn i (expr_interval (item_at (first + c)) [] domains) → LiesIn i (interval_at (tuple_widths first columns tuple domains widths) c)
    in_item first [] c i inside l = absurd (omega (arith, inside))
    in_item first (w ∷ widths) zero i inside l =
        let same : first + 0 ≡ first = omega arith in
        let l2 = rw same at l in
        in_right i w (expr_interval (item_at first) [] domains) l2
    in_item first (w ∷ widths) (suc c) i inside l =
        let same : first + suc c ≡ (first + 1) + c = omega arith in
        in_item (first + 1) widths c i (omega (arith, inside)) (rw same at l)

    -- .. and it stays in the widths over the tuples that follow
    insert_kept : (width : ℕ) (widths : Bounds) (tuples : List (List Expr)) → width ≡ length widths → FilledBy width columns tuple → IsPlainTuple width columns tuple → Kept (insert_coding width columns tuple) (tuples_widths columns tuples domains (tuple_widths 0 columns tuple domains widths))
    insert_kept width widths tuples wide filled plain =
        let m = made_items columns tuple [] 0 width in
        let items = items_shown width 0 [] (λ column inside. (filled column (omega (arith, inside)), plain column (omega (arith, inside)))) tt in
        let next = tuple_widths 0 columns tuple domains widths in
        record {
          long = items.1.1.0 ∙ wide ∙ sym (tuple_long 0 columns tuple domains widths) ∙ sym (tuples_long columns tuples domains next);
          columns = λ c inside.
              let shown = items_at m.0 0 m.1 c inside items.1.1.1 in
              let i = interval_of_var (hull_of region m.0) (slice_index_or m.1 c 0) in
              let grown = in_tuples columns tuples domains next c i (in_item 0 widths c i (omega (arith, inside, items.1.1.0, wide)) shown.1.1.0) in
              shown_later region domains box m.0 (m.0 ++ def.Const (pos 1) ∷ []) (slice_index_or m.1 c 0) (interval_at (tuples_widths columns tuples domains next) c) (later_made m.0 (def.Const (pos 1))) (shown.0, (shown.1.0, (grown, shown.1.1.1)));
          tame = begun_tame m.0 items.1.0;
        }

  -- ---- rows that exist

  abbrev pub TameCircuit : Option Coded → Type 0
  TameCircuit None = Unit {0}
  TameCircuit (Some c) = IsTame region c.circuit

  tuples_tame : (width : ℕ) (columns : List ℕ) (statements : List Statement) (number : ℕ) (final : Bounds) (tuples : List (List Expr)) (widths : Bounds) (place : ℕ) (other : Option Coded) → width ≡ length widths → TuplesIn width columns tuples → AllByRecursion (IsPlainTuple width columns) tuples → StatementsIn width statements → ArePlainStatements width statements → widths_from number statements domains (tuples_widths columns tuples domains widths) ≡ Ok final → TameCircuit other → TameCircuit (coded_or (insert_coding_or width columns (slice_get tuples place)) statements other)
  tuples_tame width columns statements number final [] widths place other wide h p i q is k = k
  tuples_tame width columns statements number final (tuple ∷ tuples) widths zero other wide h p i q is k =
      let next = tuple_widths 0 columns tuple domains widths in
      coded_kept width statements (insert_coding width columns tuple) number (tuples_widths columns tuples domains next) final is (wide ∙ sym (tuple_long 0 columns tuple domains widths) ∙ sym (tuples_long columns tuples domains next)) i q (insert_kept columns tuple width widths tuples wide h.0 p.0)
  tuples_tame width columns statements number final (tuple ∷ tuples) widths (suc place) other wide h p i q is k =
      tuples_tame width columns statements number final tuples (tuple_widths 0 columns tuple domains widths) place other (wide ∙ sym (tuple_long 0 columns tuple domains widths)) h.1 p.1 i q is k

  inserted_tame : (width : ℕ) (statements : List Statement) (number : ℕ) (widths final : Bounds) (place : ℕ) → width ≡ length widths → StatementsIn width statements → ArePlainStatements width statements → widths_from number statements domains widths ≡ Ok final → TameCircuit (inserted_coding width statements place)
  inserted_tame width [] number widths final place wide i p is = tt
  inserted_tame width (Update sets filter ∷ statements) number widths final place wide i p is =
      let next = narrow_next number (Update sets filter) statements domains widths final is in
      inserted_tame width statements (number + 1) (widths_after (Update sets filter) domains widths) final place (wide ∙ sym (after_long (Update sets filter) domains widths)) i.1 p.1 next.1
  inserted_tame width (Delete filter ∷ statements) number widths final place wide i p is =
      let next = narrow_next number (Delete filter) statements domains widths final is in
      inserted_tame width statements (number + 1) widths final place wide i.1 p.1 next.1
  inserted_tame width (Insert columns tuples ∷ statements) number widths final place wide i p is =
      let next = narrow_next number (Insert columns tuples) statements domains widths final is in
      tuples_tame width columns statements (number + 1) final tuples widths place (inserted_coding width statements (place - length tuples)) wide i.0 p.0 i.1 p.1 next.1 (inserted_tame width statements (number + 1) (tuples_widths columns tuples domains widths) final (place - length tuples) (wide ∙ sym (tuples_long columns tuples domains widths)) i.1 p.1 next.1)

  row_tame : (width : ℕ) (table : List Cells) (statements : List Statement) (final : Bounds) (place : ℕ) → widths_of width table statements domains ≡ Ok final → RowsIn width table → StatementsIn width statements → IsPlainTable table → ArePlainStatements width statements → TameCircuit (coded_or (start_coding_or (slice_get table place)) statements None)
  row_tame width table statements final place is rows i cells_plain p = by (slice_get table place) refl
    where
      by : (got : Option Cells) → slice_get table place ≡ got → TameCircuit (coded_or (start_coding_or got) statements None)
      by None e = tt
      by (Some cells) e =
          let row = row_at width table place cells rows cells_plain e in
          let long : length cells ≡ length (start_widths 0 width table) = row.0 ∙ sym (start_long 0 width table) in
          let held = start_holds table cells (λ c. column_holds c table place cells e) 0 width cells row.0 (λ c d same. let f : d ≡ c = omega (arith, same) in ap (cell_at cells) (sym f)) in
          coded_kept width statements (start_coding cells) 1 (start_widths 0 width table) final is (sym (start_long 0 width table)) i p (start_kept cells (start_widths 0 width table) long row.1 held)

  pub circuits_tame : (width : ℕ) (table : List Cells) (statements : List Statement) (name : RowName) (final : Bounds) → widths_of width table statements domains ≡ Ok final → RowsIn width table → StatementsIn width statements → IsPlainTable table → ArePlainStatements width statements → TameCircuit (circuit_of width table statements name)
  circuits_tame width table statements (Start k) final is rows i cells_plain p = row_tame width table statements final (k - 1) is rows i cells_plain p
  circuits_tame width table statements (Inserted k) final is rows i cells_plain p =
      inserted_tame width statements 1 (start_widths 0 width table) final (k - 1) (sym (start_long 0 width table)) i p is
