-- One definition more, and one term more.
use Rattle.std.proofs.Common.{◌≡◌, ℕ, ◌+◌, ◌<◌, List, [], ◌∷◌, ◌++◌, length, map, slice_index_or, get_or, drop, pos, refl, sym, ap, ◌∙◌, append_assoc, arith, length-append}
use Rattle.std.proofs.lemmas.List.{map-append, drop_more}
use Rattle.qf_base.specs.Values.{Term as Addend}
use Rattle.qf_circuit.specs.declared.circuit.Def.{Def}
use Rattle.qf_circuit.specs.declared.circuit.Def.TheVariants as def
use Rattle.qf_ir.specs.declared.ast.Atom.{Atom}
use Rattle.qf_ir.specs.declared.ast.Atom.TheVariants.{Column, Param}
use Rattle.qf_ir.specs.declared.ast.Term.{Term}
use Rattle.qf_ir.specs.declared.ast.Expr.{Expr}
use Rattle.qf_ir.specs.declared.ast.Cond.{Cond}
use Rattle.qf_ir.specs.declared.ast.Statement.{Statement}
use Rattle.qf_ir.specs.declared.ast.Statement.TheVariants.{Update}
use Rattle.std.specs.declared.option.Option.{Option}
use Rattle.std.specs.declared.option.Option.TheVariants.{Some}
use Rattle.qf_encode.specs.Coding.{Defs, Made, MadeAll, with_atom, with_terms, atom_number, addend, made_sign, made_order, made_cond, made_values, made_choices, coded_after, coded}
use Rattle.qf_encode.specs.Lives.{StatementsIn}
use Rattle.qf_encode.specs.Making.{StatementsTurn}
use Rattle.qf_encode.specs.declared.coded.Coded.{Coded}
use Rattle.qf_encode.proofs.Extending.{Later, later_made, later_trans}
use Rattle.qf_encode.proofs.Following.{HasAtom, HasAtoms, with_atom_has, with_terms_later, with_terms_has}
use Rattle.qf_encode.proofs.Params.{number_later}
use Rattle.qf_encode.proofs.Growing.{fewer, sign_grows, values_grow, choices_grow, coded_grows}
use Rattle.qf_encode.proofs.Statements.{coding_width}

-- what is left of a list
pub opened : {X : Type 0} (xs : List X) (i : ℕ) (x : X) → i < length xs → x ≡ get_or xs i x → drop i xs ≡ x ∷ drop (i + 1) xs
opened xs i x within is = drop_more xs i x within ∙ ap (λ y. y ∷ drop (i + 1) xs) (sym is)

-- ---- terms

atom_stays : (columns : List ℕ) (a b : Defs) (atom : Atom) → Later a b → HasAtom a atom → atom_number b columns atom ≡ atom_number a columns atom
atom_stays columns a b (Column c) l h = refl
atom_stays columns a b (Param k) l h = number_later a b k l h

addends_stay : (columns : List ℕ) (a b : Defs) (ts : List Term) → Later a b → HasAtoms a ts → map (addend b columns) ts ≡ map (addend a columns) ts
addends_stay columns a b [] l h = refl
addends_stay columns a b (t ∷ ts) l h =
    let e = atom_stays columns a b t.atom l h.0 in
    let more = addends_stay columns a b ts l h.1 in
    rw (e, more) refl

rest_later : (before whole : Defs) (t : Term) (rest : List Term) → with_terms before (t ∷ rest) ≡ whole → Later (with_atom before t.atom) whole
rest_later before whole t rest e = rw (← e) (with_terms_later (with_atom before t.atom) rest)

pub atom_few : (before whole : Defs) (t : Term) (rest : List Term) (n : ℕ) → with_terms before (t ∷ rest) ≡ whole → length whole < n → length (with_atom before t.atom) < n
atom_few before whole t rest n e few = fewer (with_atom before t.atom) whole n (rest_later before whole t rest e) few

pub sum_next : (columns : List ℕ) (before after whole : Defs) (t : Term) (rest : List Term) (sum more all : List Addend) (number : ℕ) → with_terms before (t ∷ rest) ≡ whole → sum ++ map (addend whole columns) (t ∷ rest) ≡ all → after ≡ with_atom before t.atom → number ≡ atom_number after columns t.atom → more ≡ sum ++ (t.factor, number) ∷ [] → (with_terms after rest ≡ whole) × (more ++ map (addend whole columns) rest ≡ all)
sum_next columns before after whole t rest sum more all number made is_all is_after is_number is_more =
    let here = with_atom before t.atom in
    let stays = atom_stays columns here whole t.atom (rest_later before whole t rest made) (with_atom_has before t.atom) in
    let e : number ≡ atom_number whole columns t.atom = rw is_after at is_number ∙ sym stays in
    let grown : more ≡ sum ++ addend whole columns t ∷ [] = rw e at is_more in
    (rw is_after made, rw grown (append_assoc sum (addend whole columns t ∷ []) (map (addend whole columns) rest) ∙ is_all))

terms_both : (defs : Defs) (xs ys : List Term) → with_terms defs (xs ++ ys) ≡ with_terms (with_terms defs xs) ys
terms_both defs [] ys = refl
terms_both defs (x ∷ xs) ys = terms_both (with_atom defs x.atom) xs ys

pub sides_few : (defs : Defs) (xs ys : List Term) (d : Def) (n : ℕ) → length (with_terms defs (xs ++ ys) ++ d ∷ []) < n → (length (with_terms defs xs) < n) × (length (with_terms (with_terms defs xs) ys) < n) × (length (with_terms defs (xs ++ ys)) + 1 < n)
sides_few defs xs ys d n few =
    let one = with_terms defs xs in
    let both = terms_both defs xs ys in
    let all : length (with_terms one ys) + 1 < n = rw (both, length-append (with_terms one ys) (d ∷ [])) at few in
    let two : length (with_terms one ys) < n = omega (arith, all) in
    (fewer one (with_terms one ys) n (with_terms_later one ys) two, two, rw both all)

-- the terms of one side, and then those of the other
pub both_sides : (columns : List ℕ) (defs one two : Defs) (xs ys : List Term) (first second : List Addend) → one ≡ with_terms defs xs → first ≡ map (addend one columns) xs → two ≡ with_terms one ys → second ≡ first ++ map (addend two columns) ys → (two ≡ with_terms defs (xs ++ ys)) × (second ≡ map (addend two columns) (xs ++ ys))
both_sides columns defs one two xs ys first second is_one is_first is_two is_second =
    let l : Later one two = rw is_two (with_terms_later one ys) in
    let has : HasAtoms one xs = rw is_one (with_terms_has defs xs) in
    let stay = addends_stay columns one two xs l has in
    (is_two ∙ ap (λ d. with_terms d ys) is_one ∙ sym (terms_both defs xs ys), is_second ∙ ap (λ a. a ++ map (addend two columns) ys) (is_first ∙ sym stay) ∙ sym (map-append (addend two columns) xs ys))

pub order_few : (columns : List ℕ) (defs : Defs) (a b c d : Expr) (n : ℕ) → length (made_order columns defs a b c d).0 < n → length (made_sign columns defs a b (pos 0)).0 < n
order_few columns defs a b c d n few =
    let one = made_sign columns defs a b (pos 0) in
    let two = made_sign columns one.0 c d (pos 0) in
    let last : Def = def.All (one.1 ∷ two.1 ∷ []) in
    fewer one.0 (two.0 ++ last ∷ []) n (later_trans one.0 two.0 (two.0 ++ last ∷ []) (sign_grows columns one.0 c d (pos 0)) (later_made two.0 last)) few

-- ---- definitions that are numbered in a list

pub numbers_next : (rest : Defs → MadeAll) (first : Made) (after whole : Defs) (numbers more all : List ℕ) (number : ℕ) → (rest first.0).0 ≡ whole → numbers ++ first.1 ∷ (rest first.0).1 ≡ all → after ≡ first.0 → number ≡ first.1 → more ≡ numbers ++ number ∷ [] → ((rest after).0 ≡ whole) × (more ++ (rest after).1 ≡ all)
numbers_next rest first after whole numbers more all number made is_all is_after is_number is_more =
    let grown : more ≡ numbers ++ first.1 ∷ [] = rw is_number at is_more in
    (rw is_after made, rw (grown, is_after) (append_assoc numbers (first.1 ∷ []) (rest first.0).1 ∙ is_all))

pub first_few : (rest : Defs → MadeAll) (first : Made) (whole : Defs) (n : ℕ) → Later first.0 (rest first.0).0 → (rest first.0).0 ≡ whole → length whole < n → length first.0 < n
first_few rest first whole n l e few = fewer first.0 whole n (rw (← e) l) few

-- ---- statements

pub choices_few : (columns : List ℕ) (w : ℕ) (defs whole : Defs) (s : ℕ × Expr) (sets : List (ℕ × Expr)) (new : ℕ) (news : List ℕ) (n : ℕ) → (made_choices columns w defs (s ∷ sets) (new ∷ news)).0 ≡ whole → length whole < n → length defs + 1 < n
choices_few columns w defs whole s sets new news n e few =
    let d : Def = def.Choose w new (slice_index_or columns s.0 0) in
    let more = fewer (defs ++ d ∷ []) whole n (rw (← e) (choices_grow columns w (defs ++ d ∷ []) sets news)) few in
    omega (arith, more, length-append defs (d ∷ []))

pub update_few : (sets : List (ℕ × Expr)) (filter : Option Cond) (condition : Cond) (c : Coded) (n : ℕ) → filter ≡ Some condition → length (coded_after (Update sets filter) c).circuit < n → (length (made_cond c.columns c.circuit condition).0 < n) × (length (made_values c.columns (made_cond c.columns c.circuit condition).0 sets).0 < n)
update_few sets filter condition c n e few =
    let test = made_cond c.columns c.circuit condition in
    let news = made_values c.columns test.0 sets in
    let chosen = made_choices c.columns test.1 news.0 sets news.1 in
    let l = choices_grow c.columns test.1 news.0 sets news.1 in
    let all : length chosen.0 < n = rw e at few in
    let two = fewer news.0 chosen.0 n l all in
    (fewer test.0 news.0 n (values_grow c.columns test.0 sets) two, two)

pub statement_few : (statements rest : List Statement) (s : Statement) (now whole : Coded) (n : ℕ) → statements ≡ s ∷ rest → coded statements now ≡ whole → length whole.circuit < n → length (coded_after s now).circuit < n
statement_few statements rest s now whole n e made few =
    let all = rw e at made in
    fewer (coded_after s now).circuit whole.circuit n (rw (← all) (coded_grows rest (coded_after s now))) few

pub statement_next : (statements rest : List Statement) (s : Statement) (now next whole : Coded) → statements ≡ s ∷ rest → coded statements now ≡ whole → next ≡ coded_after s now → StatementsIn (length now.columns) statements → StatementsTurn statements → (coded rest next ≡ whole) × StatementsIn (length next.columns) rest × StatementsTurn rest
statement_next statements rest s now next whole e made is within turn =
    let all = rw e at made in
    let in_rest = rw e at within in
    let turns = rw e at turn in
    let width = coding_width s now in
    (rw is all, rw (is, width) in_rest.1, turns.1)
