-- Conditions: what is read is spelled so, and what is spelled so is read.
use Rattle.std.proofs.Common.{◌≡◌, ℕ, zero, suc, ◌-◌, ◌≤◌, Bool, true, List, [], ◌∷◌, ◌++◌, length, refl, sym, ap, ◌∙◌, append_assoc, arith, Option, Some, None}
use Rattle.std.specs.Prelude.{option_map, option_and_then}
use Rattle.std.proofs.lemmas.List.{length-append, append-nil}
use Rattle.qf_grammar.specs.declared.lexeme.Lexeme.{Lexeme}
use Rattle.qf_grammar.specs.declared.lexeme.Lexeme.TheVariants as lex
use Rattle.qf_grammar.specs.declared.lexeme.Key.TheVariants as key
use Rattle.qf_grammar.specs.declared.lexeme.Mark.TheVariants as mark
use Rattle.qf_grammar.specs.declared.tree.Compare.{Compare}
use Rattle.qf_grammar.specs.declared.tree.Condition.{Condition}
use Rattle.qf_grammar.specs.declared.tree.Condition.TheVariants as condition
use Rattle.qf_grammar.specs.Spelling.{Lexemes, Unit', Conj, Chain, negated, group, test, one_unit, unit_and, one_conj, conj_or, spell_compare, spell_unit, spell_conj, spell_chain, unit_nests, conj_nests, chain_nests, all_of, any_of, unit_tree, conj_trees, chain_trees, IsCondition}
use Rattle.qf_grammar.specs.Reading.{Reader, behind, is_and, is_or, is_not, is_open, closed, others, chain, conj_with, chain_with, test_of, group_or, not_or, too_deep, unit_at, compare_at, side_at, sum_at, term_at}
use Rattle.qf_grammar.proofs.Spelled.{When, Spelled, Front, when_map, join, and_front, or_front, not_front, open_front, compare_good}
use Rattle.qf_grammar.proofs.ReadAgain.{Stops, goes_on_sum, none_behind, compare_again, begins_compare}
use Rattle.qf_grammar.proofs.Units.{not_inside, group_inside, not_at, group_at, test_at}

-- ---- what is spelled is read

one_item : {A : Type 0} (item : Reader A) (sep : Lexeme → Bool) (n : ℕ) (xs : Lexemes) (a : A) (rest : Lexemes) → 1 ≤ n → item xs ≡ Some (a, rest) → Stops sep rest → chain item sep n xs ≡ Some (a ∷ [], rest)
unfolding chain
one_item item sep zero xs a rest le e s = absurd (omega arith)
one_item item sep (suc n) xs a rest le e s = rw (e, none_behind sep rest s) refl

next_item : {A : Type 0} (item : Reader A) (sep : Lexeme → Bool) (n : ℕ) (xs : Lexemes) (a : A) (x : Lexeme) (next : Lexemes) (all : List A) (rest : Lexemes) → item xs ≡ Some (a, x ∷ next) → sep x ≡ true
    → chain item sep n next ≡ Some (all, rest) → chain item sep (suc n) xs ≡ Some (a ∷ all, rest)
unfolding chain
next_item item sep n xs a x next all rest e s h = rw (e, s, h) refl

pub conj_count : Conj → ℕ
conj_count (one_unit u) = 1
conj_count (unit_and u c) = suc (conj_count c)

pub chain_count : Chain → ℕ
chain_count (one_conj c) = 1
chain_count (conj_or c d) = suc (chain_count d)

no_compare : (c : Compare) → compare_at [] ≡ Some (c, []) → ⊥
unfolding compare_at side_at sum_at term_at
no_compare c e =
    let f : ◌≡◌ {A = Option (Compare × Lexemes)} None (Some (c, [])) = e in cc

some_case : (c : Compare) (xs : Lexemes) → compare_at (xs ++ []) ≡ Some (c, []) → 1 ≤ length xs
some_case c [] e = absurd (no_compare c e)
some_case c (x ∷ xs) e = omega arith

compare_some : (c : Compare) → 1 ≤ length (spell_compare c)
compare_some c = some_case c (spell_compare c) (compare_again c [] tt)

unit_some : (u : Unit') → 1 ≤ length (spell_unit u)
unit_some (negated u) = omega arith
unit_some (group c) = omega arith
unit_some (test t) = compare_some t

conj_short : (c : Conj) → conj_count c ≤ length (spell_conj c)
unfolding conj_count
conj_short (one_unit u) = unit_some u
conj_short (unit_and u c) = omega (arith, length-append (spell_unit u) (lex.Key key.And ∷ spell_conj c), conj_short c)

chain_short : (c : Chain) → chain_count c ≤ length (spell_chain c)
unfolding chain_count
chain_short (one_conj (one_unit u)) = unit_some u
chain_short (one_conj (unit_and u c)) = omega (arith, length-append (spell_unit u) (lex.Key key.And ∷ spell_conj c))
chain_short (conj_or c d) = omega (arith, length-append (spell_conj c) (lex.Key key.Or ∷ spell_chain d), chain_short d)

mutual
  unfolding conj_count chain_count

  pub unit_again : (u : Unit') (d : ℕ) (rest : Lexemes) → unit_nests u ≤ d → Stops goes_on_sum rest → unit_at d (spell_unit u ++ rest) ≡ Some (unit_tree u, rest)
  unit_again (test t) d rest le s =
      let b = begins_compare t rest in
      sym (test_at d (spell_compare t ++ rest) (sym b.0) (sym b.1)) ∙ ap (option_map (λ (p : Compare × Lexemes). (condition.Test p.0, p.1))) (compare_again t rest s)
  unit_again (negated u) d rest le s =
      sym (not_inside d (spell_unit u ++ rest) (λ e. omega arith) ∙ not_at d (lex.Key key.Not ∷ (spell_unit u ++ rest)) (spell_unit u ++ rest) refl)
      ∙ ap (option_map (λ (p : Condition × Lexemes). (condition.Not p.0, p.1))) (unit_again u (d - 1) rest (omega arith) s)
  unit_again (group c) d rest le s =
      sym (group_inside d ((spell_chain c ++ lex.Mark mark.Close ∷ []) ++ rest) (λ e. omega arith) ∙ group_at d (lex.Mark mark.Open ∷ ((spell_chain c ++ lex.Mark mark.Close ∷ []) ++ rest)) ((spell_chain c ++ lex.Mark mark.Close ∷ []) ++ rest) refl refl)
      ∙ ap (λ xs. closed (chain_with (unit_at (d - 1)) xs)) (append_assoc (spell_chain c) (lex.Mark mark.Close ∷ []) rest)
      ∙ ap closed (ap (option_map (λ (p : List Condition × Lexemes). (any_of p.0, p.1)))
      (chain_again c (d - 1) (length (spell_chain c ++ lex.Mark mark.Close ∷ rest)) (lex.Mark mark.Close ∷ rest) (omega arith) refl refl refl (omega (arith, chain_short c, length-append (spell_chain c) (lex.Mark mark.Close ∷ rest)))))

  pub conj_again : (c : Conj) (d n : ℕ) (rest : Lexemes) → conj_nests c ≤ d → Stops goes_on_sum rest → Stops is_and rest → conj_count c ≤ n → chain (unit_at d) is_and n (spell_conj c ++ rest) ≡ Some (conj_trees c, rest)
  conj_again (one_unit u) d n rest le q s k = one_item (unit_at d) is_and n (spell_unit u ++ rest) (unit_tree u) rest k (unit_again u d rest le q) s
  conj_again (unit_and u c) d zero rest le q s k = absurd (omega arith)
  conj_again (unit_and u c) d (suc n) rest le q s k =
      ap (chain (unit_at d) is_and (suc n)) (append_assoc (spell_unit u) (lex.Key key.And ∷ spell_conj c) rest)
      ∙ next_item (unit_at d) is_and n (spell_unit u ++ lex.Key key.And ∷ (spell_conj c ++ rest)) (unit_tree u) (lex.Key key.And) (spell_conj c ++ rest) (conj_trees c) rest
      (unit_again u d (lex.Key key.And ∷ (spell_conj c ++ rest)) (omega arith) refl) refl (conj_again c d n rest (omega arith) q s (omega arith))

  pub chain_again : (c : Chain) (d n : ℕ) (rest : Lexemes) → chain_nests c ≤ d → Stops goes_on_sum rest → Stops is_and rest → Stops is_or rest → chain_count c ≤ n → chain (conj_with (unit_at d)) is_or n (spell_chain c ++ rest) ≡ Some (chain_trees c, rest)
  chain_again (one_conj c) d n rest le q s t k =
      one_item (conj_with (unit_at d)) is_or n (spell_conj c ++ rest) (all_of (conj_trees c)) rest k
      (ap (option_map (λ (p : List Condition × Lexemes). (all_of p.0, p.1))) (conj_again c d (length (spell_conj c ++ rest)) rest le q s (omega (arith, conj_short c, length-append (spell_conj c) rest)))) t
  chain_again (conj_or c e) d zero rest le q s t k = absurd (omega arith)
  chain_again (conj_or c e) d (suc n) rest le q s t k =
      ap (chain (conj_with (unit_at d)) is_or (suc n)) (append_assoc (spell_conj c) (lex.Key key.Or ∷ spell_chain e) rest)
      ∙ next_item (conj_with (unit_at d)) is_or n (spell_conj c ++ lex.Key key.Or ∷ (spell_chain e ++ rest)) (all_of (conj_trees c)) (lex.Key key.Or) (spell_chain e ++ rest) (chain_trees e) rest
      (ap (option_map (λ (p : List Condition × Lexemes). (all_of p.0, p.1))) (conj_again c d (length (spell_conj c ++ lex.Key key.Or ∷ (spell_chain e ++ rest))) (lex.Key key.Or ∷ (spell_chain e ++ rest)) (omega arith) refl refl (omega (arith, conj_short c, length-append (spell_conj c) (lex.Key key.Or ∷ (spell_chain e ++ rest))))))
      refl (chain_again e d n rest (omega arith) q s t (omega arith))

-- a condition up to the end
pub condition_again : (d : ℕ) (xs : Lexemes) (c : Condition) → IsCondition d xs c → chain_with (unit_at d) xs ≡ Some (c, [])
condition_again d xs c r =
    ap (chain_with (unit_at d)) (r.spelled ∙ sym (append-nil (spell_chain r.chain)))
    ∙ ap (option_map (λ (p : List Condition × Lexemes). (any_of p.0, p.1))) (chain_again r.chain d (length (spell_chain r.chain ++ [])) [] r.nests tt tt tt (omega (arith, chain_short r.chain, length-append (spell_chain r.chain) [])))
    ∙ ap (λ (x : Condition). Some (x, [])) (sym r.tree)

-- ---- what is read is spelled

pub record IsUnit (d : ℕ) (xs : Lexemes) (t : Condition) (rest : Lexemes) : Type 0 where
  pub unit : Unit'
  pub spelled : xs ≡ spell_unit unit ++ rest
  pub nests : unit_nests unit ≤ d
  pub tree : t ≡ unit_tree unit

pub record AreUnits (d : ℕ) (xs : Lexemes) (ts : List Condition) (rest : Lexemes) : Type 0 where
  pub conj : Conj
  pub spelled : xs ≡ spell_conj conj ++ rest
  pub nests : conj_nests conj ≤ d
  pub trees : ts ≡ conj_trees conj

pub record AreConjs (d : ℕ) (xs : Lexemes) (ts : List Condition) (rest : Lexemes) : Type 0 where
  pub chain : Chain
  pub spelled : xs ≡ spell_chain chain ++ rest
  pub nests : chain_nests chain ≤ d
  pub trees : ts ≡ chain_trees chain

units_others : (d : ℕ) (again : Reader (List Condition)) → ((ys : Lexemes) → When (AreUnits d ys) (again ys)) → (xs : Lexemes) (t : Condition) (after : Lexemes) (o : Option Lexemes) → IsUnit d xs t after → Front (lex.Key key.And) after o
    → When (AreUnits d xs) (others again t after o)
units_others d again h xs t after None f s = record { conj = one_unit f.unit; spelled = f.spelled; nests = f.nests; trees = ap (λ x. x ∷ []) f.tree }
units_others d again h xs t after (Some next) f s =
    when_map (AreUnits d next) (AreUnits d xs) (λ ts. t ∷ ts) (again next) (λ ts rest m. record {
      conj = unit_and f.unit m.conj;
      spelled = join (spell_unit f.unit) (lex.Key key.And ∷ spell_conj m.conj) xs after rest f.spelled (s ∙ ap (λ ys. lex.Key key.And ∷ ys) m.spelled);
      nests = omega (arith, f.nests, m.nests);
      trees = ap (λ x. x ∷ ts) f.tree ∙ ap (λ us. unit_tree f.unit ∷ us) m.trees;
    }) (h next)

units_step : (d : ℕ) (again : Reader (List Condition)) → ((ys : Lexemes) → When (AreUnits d ys) (again ys)) → (xs : Lexemes) (o : Option (Condition × Lexemes)) → When (IsUnit d xs) o
    → When (AreUnits d xs) (option_and_then (λ p. others again p.0 p.1 (behind is_and p.1)) o)
units_step d again h xs None w = tt
units_step d again h xs (Some p) w = units_others d again h xs p.0 p.1 (behind is_and p.1) w (and_front p.1)

units_good : (d : ℕ) (item : Reader Condition) → ((xs : Lexemes) → When (IsUnit d xs) (item xs)) → (n : ℕ) (xs : Lexemes) → When (AreUnits d xs) (chain item is_and n xs)
unfolding chain
units_good d item h zero xs = tt
units_good d item h (suc n) xs = units_step d (chain item is_and n) (units_good d item h n) xs (item xs) (h xs)

conjs_others : (d : ℕ) (again : Reader (List Condition)) → ((ys : Lexemes) → When (AreConjs d ys) (again ys)) → (xs : Lexemes) (ts : List Condition) (after : Lexemes) (o : Option Lexemes) → AreUnits d xs ts after → Front (lex.Key key.Or) after o
    → When (AreConjs d xs) (others again (all_of ts) after o)
conjs_others d again h xs ts after None f s = record { chain = one_conj f.conj; spelled = f.spelled; nests = f.nests; trees = ap (λ x. all_of x ∷ []) f.trees }
conjs_others d again h xs ts after (Some next) f s =
    when_map (AreConjs d next) (AreConjs d xs) (λ us. all_of ts ∷ us) (again next) (λ us rest m. record {
      chain = conj_or f.conj m.chain;
      spelled = join (spell_conj f.conj) (lex.Key key.Or ∷ spell_chain m.chain) xs after rest f.spelled (s ∙ ap (λ ys. lex.Key key.Or ∷ ys) m.spelled);
      nests = omega (arith, f.nests, m.nests);
      trees = ap (λ x. all_of x ∷ us) f.trees ∙ ap (λ vs. all_of (conj_trees f.conj) ∷ vs) m.trees;
    }) (h next)

conjs_step : (d : ℕ) (again : Reader (List Condition)) → ((ys : Lexemes) → When (AreConjs d ys) (again ys)) → (xs : Lexemes) (o : Option (List Condition × Lexemes)) → When (AreUnits d xs) o
    → When (AreConjs d xs) (option_and_then (λ (p : Condition × Lexemes). others again p.0 p.1 (behind is_or p.1)) (option_map (λ (p : List Condition × Lexemes). (all_of p.0, p.1)) o))
conjs_step d again h xs None w = tt
conjs_step d again h xs (Some p) w = conjs_others d again h xs p.0 p.1 (behind is_or p.1) w (or_front p.1)

conjs_good : (d : ℕ) (item : Reader Condition) → ((xs : Lexemes) → When (IsUnit d xs) (item xs)) → (n : ℕ) (xs : Lexemes) → When (AreConjs d xs) (chain (conj_with item) is_or n xs)
unfolding chain
conjs_good d item h zero xs = tt
conjs_good d item h (suc n) xs = conjs_step d (chain (conj_with item) is_or n) (conjs_good d item h n) xs (chain item is_and (length xs) xs) (units_good d item h (length xs) xs)

test_case : (d : ℕ) (xs : Lexemes) (o : Option (Compare × Lexemes)) → When (Spelled spell_compare xs) o → When (IsUnit d xs) (option_map (λ p. (condition.Test p.0, p.1)) o)
test_case d xs None w = tt
test_case d xs (Some p) w = record { unit = test p.0; spelled = w; nests = omega arith; tree = refl }

test_good : (d : ℕ) (xs : Lexemes) → When (IsUnit d xs) (test_of xs)
test_good d xs = test_case d xs (compare_at xs) (compare_good xs)

closed_good : (d : ℕ) (xs rest : Lexemes) (o : Option (List Condition × Lexemes)) → xs ≡ lex.Mark mark.Open ∷ rest → When (AreConjs d rest) o → When (IsUnit (suc d) xs) (closed (option_map (λ p. (any_of p.0, p.1)) o))
closed_good d xs rest None e w = tt
closed_good d xs rest (Some (ts, [])) e w = tt
closed_good d xs rest (Some (ts, lex.Mark mark.Close ∷ after)) e w = record {
  unit = group w.chain;
  spelled = e ∙ ap (λ ys. lex.Mark mark.Open ∷ ys) (w.spelled ∙ sym (append_assoc (spell_chain w.chain) (lex.Mark mark.Close ∷ []) after));
  nests = omega (arith, w.nests);
  tree = ap any_of w.trees;
}
closed_good d xs rest (Some (ts, x ∷ after)) e w = tt

not_case : (d : ℕ) (xs rest : Lexemes) (o : Option (Condition × Lexemes)) → xs ≡ lex.Key key.Not ∷ rest → When (IsUnit d rest) o → When (IsUnit (suc d) xs) (option_map (λ p. (condition.Not p.0, p.1)) o)
not_case d xs rest None e w = tt
not_case d xs rest (Some p) e w = record { unit = negated w.unit; spelled = e ∙ ap (λ ys. lex.Key key.Not ∷ ys) w.spelled; nests = omega (arith, w.nests); tree = ap condition.Not w.tree }

group_case : (d : ℕ) → ((ys : Lexemes) → When (IsUnit d ys) (unit_at d ys)) → (xs : Lexemes) (o : Option Lexemes) → Front (lex.Mark mark.Open) xs o → When (IsUnit (suc d) xs) (group_or (chain_with (unit_at d)) o xs)
group_case d h xs None e = test_good (suc d) xs
group_case d h xs (Some rest) e = closed_good d xs rest (chain (conj_with (unit_at d)) is_or (length rest) rest) e (conjs_good d (unit_at d) h (length rest) rest)

deeper_case : (d : ℕ) → ((ys : Lexemes) → When (IsUnit d ys) (unit_at d ys)) → (xs : Lexemes) (o : Option Lexemes) → Front (lex.Key key.Not) xs o → When (IsUnit (suc d) xs) (not_or (unit_at d) (chain_with (unit_at d)) o xs)
deeper_case d h xs None e = group_case d h xs (behind is_open xs) (open_front xs)
deeper_case d h xs (Some rest) e = not_case d xs rest (unit_at d rest) e (h rest)

flat_group : (xs : Lexemes) (o : Option Lexemes) → When (IsUnit 0 xs) (group_or too_deep o xs)
flat_group xs None = test_good 0 xs
flat_group xs (Some rest) = tt

flat_case : (xs : Lexemes) (o : Option Lexemes) → When (IsUnit 0 xs) (not_or too_deep too_deep o xs)
flat_case xs None = flat_group xs (behind is_open xs)
flat_case xs (Some rest) = tt

pub unit_good : (d : ℕ) (xs : Lexemes) → When (IsUnit d xs) (unit_at d xs)
unfolding unit_at
unit_good zero xs = flat_case xs (behind is_not xs)
unit_good (suc d) xs = deeper_case d (unit_good d) xs (behind is_not xs) (not_front xs)

pub condition_good : (d : ℕ) (xs : Lexemes) → When (AreConjs d xs) (chain (conj_with (unit_at d)) is_or (length xs) xs)
condition_good d xs = conjs_good d (unit_at d) (unit_good d) (length xs) xs
