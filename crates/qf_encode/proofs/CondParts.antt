-- The parts of a condition, as lists.
use Rattle.std.proofs.Common.{◌≡◌, ℕ, ◌+◌, ◌<◌, List, [], ◌∷◌, length, refl, ap, arith, length-append}
use Rattle.qf_circuit.specs.declared.circuit.Def.TheVariants as def
use Rattle.qf_ir.specs.declared.ast.Cond.{Cond}
use Rattle.qf_ir.specs.declared.ast.Cond.TheVariants.{Compare, Between, Within, All, Any, Not, All', Any', Not'}
use Rattle.qf_encode.specs.Coding.{Defs, Made, MadeAll, made_cond, made_conds, made_all, made_any, made_not}
use Rattle.qf_encode.specs.Making.{made_parts, CondTurns, PartsTurn}

-- the definitions of the parts of All and of Any
abbrev made_inside : List ℕ → Defs → Cond → MadeAll
made_inside columns defs (Compare op left right) = (defs, [])
made_inside columns defs (Between x low high) = (defs, [])
made_inside columns defs (Within x items) = (defs, [])
made_inside columns defs (All' shape parts) = made_conds columns defs parts
made_inside columns defs (Any' shape parts) = made_conds columns defs parts
made_inside columns defs (Not' shape part) = (defs, [])

inside_all : (columns : List ℕ) (defs : Defs) (parts : List Cond) → made_inside columns defs (All parts) ≡ made_parts columns defs parts
unfolding Rattle.qf_ir.specs.declared.ast.Cond.TheBlock.hidden-the_row-Cond-0 denote.Hole.Carrier.hidden
inside_all columns defs [] = refl
inside_all columns defs (part ∷ parts) =
    let first = made_cond columns defs part in
    ap (λ (m : MadeAll). (m.0, first.1 ∷ m.1)) (inside_all columns first.0 parts)

inside_any : (columns : List ℕ) (defs : Defs) (parts : List Cond) → made_inside columns defs (Any parts) ≡ made_parts columns defs parts
unfolding Rattle.qf_ir.specs.declared.ast.Cond.TheBlock.hidden-the_row-Cond-0 denote.Hole.Carrier.hidden
inside_any columns defs [] = refl
inside_any columns defs (part ∷ parts) =
    let first = made_cond columns defs part in
    ap (λ (m : MadeAll). (m.0, first.1 ∷ m.1)) (inside_any columns first.0 parts)

pub made_of_all : (columns : List ℕ) (defs : Defs) (parts : List Cond) → made_cond columns defs (All parts) ≡ made_all (made_parts columns defs parts)
unfolding Rattle.qf_ir.specs.declared.ast.Cond.TheBlock.hidden-the_row-Cond-0 denote.Hole.Carrier.hidden
made_of_all columns defs parts = ap made_all (inside_all columns defs parts)

pub made_of_any : (columns : List ℕ) (defs : Defs) (parts : List Cond) → made_cond columns defs (Any parts) ≡ made_any (made_parts columns defs parts)
unfolding Rattle.qf_ir.specs.declared.ast.Cond.TheBlock.hidden-the_row-Cond-0 denote.Hole.Carrier.hidden
made_of_any columns defs parts = ap made_any (inside_any columns defs parts)

pub made_of_not : (columns : List ℕ) (defs : Defs) (part : Cond) → made_cond columns defs (Not part) ≡ made_not (made_cond columns defs part)
unfolding Rattle.qf_ir.specs.declared.ast.Cond.TheBlock.hidden-the_row-Cond-0 denote.Hole.Carrier.hidden Rattle.qf_ir.specs.declared.ast.Cond.TheBlock.hidden-the_row-Cond-1
made_of_not columns defs part = refl

pub turns_of_all : (parts : List Cond) → CondTurns (All parts) → PartsTurn parts
unfolding Rattle.qf_ir.specs.declared.ast.Cond.TheBlock.hidden-the_row-Cond-0 denote.Hole.Carrier.hidden
turns_of_all [] h = tt
turns_of_all (part ∷ parts) h = (h.0, turns_of_all parts h.1)

pub turns_of_any : (parts : List Cond) → CondTurns (Any parts) → PartsTurn parts
unfolding Rattle.qf_ir.specs.declared.ast.Cond.TheBlock.hidden-the_row-Cond-0 denote.Hole.Carrier.hidden
turns_of_any [] h = tt
turns_of_any (part ∷ parts) h = (h.0, turns_of_any parts h.1)

pub turns_of_not : (part : Cond) → CondTurns (Not part) → CondTurns part
unfolding Rattle.qf_ir.specs.declared.ast.Cond.TheBlock.hidden-the_row-Cond-0 denote.Hole.Carrier.hidden Rattle.qf_ir.specs.declared.ast.Cond.TheBlock.hidden-the_row-Cond-1
turns_of_not part h = h.0

all_few : (columns : List ℕ) (defs : Defs) (parts : List Cond) (n : ℕ) → length (made_cond columns defs (All parts)).0 < n → length (made_parts columns defs parts).0 + 1 < n
all_few columns defs parts n few =
    let m = made_parts columns defs parts in
    omega (arith, few, ap (λ (x : Made). length x.0) (made_of_all columns defs parts), length-append m.0 (def.All m.1 ∷ []))

any_few : (columns : List ℕ) (defs : Defs) (parts : List Cond) (n : ℕ) → length (made_cond columns defs (Any parts)).0 < n → length (made_parts columns defs parts).0 + 1 < n
any_few columns defs parts n few =
    let m = made_parts columns defs parts in
    omega (arith, few, ap (λ (x : Made). length x.0) (made_of_any columns defs parts), length-append m.0 (def.Any m.1 ∷ []))

not_few : (columns : List ℕ) (defs : Defs) (part : Cond) (n : ℕ) → length (made_cond columns defs (Not part)).0 < n → length (made_cond columns defs part).0 + 1 < n
not_few columns defs part n few =
    let m = made_cond columns defs part in
    omega (arith, few, ap (λ (x : Made). length x.0) (made_of_not columns defs part), length-append m.0 (def.Not m.1 ∷ []))

-- the same of a condition that is one of these
pub few_of_all : (columns : List ℕ) (defs : Defs) (c : Cond) (parts slice : List Cond) (n : ℕ) → c ≡ All parts → slice ≡ parts → length (made_cond columns defs c).0 < n → length (made_parts columns defs slice).0 + 1 < n
few_of_all columns defs c parts slice n e s few = rw s (all_few columns defs parts n (rw e at few))

pub few_of_any : (columns : List ℕ) (defs : Defs) (c : Cond) (parts slice : List Cond) (n : ℕ) → c ≡ Any parts → slice ≡ parts → length (made_cond columns defs c).0 < n → length (made_parts columns defs slice).0 + 1 < n
few_of_any columns defs c parts slice n e s few = rw s (any_few columns defs parts n (rw e at few))

pub few_of_not : (columns : List ℕ) (defs : Defs) (c part one : Cond) (n : ℕ) → c ≡ Not part → one ≡ part → length (made_cond columns defs c).0 < n → length (made_cond columns defs one).0 + 1 < n
few_of_not columns defs c part one n e s few = rw s (not_few columns defs part n (rw e at few))

pub is_all : (columns : List ℕ) (defs after : Defs) (numbers : List ℕ) (c : Cond) (parts slice : List Cond) → c ≡ All parts → slice ≡ parts → after ≡ (made_parts columns defs slice).0 → numbers ≡ (made_parts columns defs slice).1 → made_all (after, numbers) ≡ made_cond columns defs c
is_all columns defs after numbers c parts slice e s a b = rw (e, made_of_all columns defs parts, a, b, s) refl

pub is_any : (columns : List ℕ) (defs after : Defs) (numbers : List ℕ) (c : Cond) (parts slice : List Cond) → c ≡ Any parts → slice ≡ parts → after ≡ (made_parts columns defs slice).0 → numbers ≡ (made_parts columns defs slice).1 → made_any (after, numbers) ≡ made_cond columns defs c
is_any columns defs after numbers c parts slice e s a b = rw (e, made_of_any columns defs parts, a, b, s) refl

pub is_not : (columns : List ℕ) (defs after : Defs) (number : ℕ) (c part one : Cond) → c ≡ Not part → one ≡ part → after ≡ (made_cond columns defs one).0 → number ≡ (made_cond columns defs one).1 → made_not (after, number) ≡ made_cond columns defs c
is_not columns defs after number c part one e s a b = rw (e, made_of_not columns defs part, a, b, s) refl
