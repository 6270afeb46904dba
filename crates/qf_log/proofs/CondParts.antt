-- Conditions of a program by their parts.
use Rattle.std.proofs.Common.{◌≡◌, ℕ, ◌+◌, ◌≤◌, List, [], ◌∷◌, ◌++◌, length, refl, ap, arith}
use Rattle.std.specs.List.{AllByRecursion, flat_map}
use Rattle.std.proofs.lemmas.List.{append-nil}
use Rattle.qf_ir.specs.declared.ast.Cond.{Cond}
use Rattle.qf_ir.specs.declared.ast.Cond.TheVariants as cond
use Rattle.qf_ir.specs.Parts.{tests_of, depth_of}
use Rattle.qf_ir.specs.Made.{IsWhole}

pub tests_all : (parts : List Cond) → tests_of (cond.All parts) ≡ flat_map tests_of parts
unfolding Rattle.qf_ir.specs.declared.ast.Cond.TheBlock.hidden-the_row-Cond-0 denote.Hole.Carrier.hidden
tests_all [] = refl
tests_all (part ∷ parts) = ap (λ ts. tests_of part ++ ts) (tests_all parts)

pub tests_any : (parts : List Cond) → tests_of (cond.Any parts) ≡ flat_map tests_of parts
unfolding Rattle.qf_ir.specs.declared.ast.Cond.TheBlock.hidden-the_row-Cond-0 denote.Hole.Carrier.hidden
tests_any [] = refl
tests_any (part ∷ parts) = ap (λ ts. tests_of part ++ ts) (tests_any parts)

pub tests_not : (part : Cond) → tests_of (cond.Not part) ≡ tests_of part
unfolding Rattle.qf_ir.specs.declared.ast.Cond.TheBlock.hidden-the_row-Cond-0 denote.Hole.Carrier.hidden Rattle.qf_ir.specs.declared.ast.Cond.TheBlock.hidden-the_row-Cond-1
tests_not part = append-nil (tests_of part)

-- ---- whole

abbrev AllWhole : List Cond → Type 0
AllWhole parts = AllByRecursion IsWhole parts

whole_all : (part : Cond) (parts : List Cond) → AllWhole (part ∷ parts) → IsWhole (cond.All (part ∷ parts))
unfolding Rattle.qf_ir.specs.declared.ast.Cond.TheBlock.hidden-the_row-Cond-0 denote.Hole.Carrier.hidden
whole_all part [] h = (tt, (h.0, tt))
whole_all part (next ∷ parts) h = (tt, (h.0, (whole_all next parts h.1).1))

whole_any : (part : Cond) (parts : List Cond) → AllWhole (part ∷ parts) → IsWhole (cond.Any (part ∷ parts))
unfolding Rattle.qf_ir.specs.declared.ast.Cond.TheBlock.hidden-the_row-Cond-0 denote.Hole.Carrier.hidden
whole_any part [] h = (tt, (h.0, tt))
whole_any part (next ∷ parts) h = (tt, (h.0, (whole_any next parts h.1).1))

pub whole_not : (part : Cond) → IsWhole part → IsWhole (cond.Not part)
unfolding Rattle.qf_ir.specs.declared.ast.Cond.TheBlock.hidden-the_row-Cond-0 denote.Hole.Carrier.hidden Rattle.qf_ir.specs.declared.ast.Cond.TheBlock.hidden-the_row-Cond-1
whole_not part h = (h, tt)

-- ---- depth

depth_all : (n : ℕ) (parts : List Cond) → AllByRecursion (λ c. depth_of c ≤ n) parts → depth_of (cond.All parts) ≤ 1 + n
unfolding Rattle.qf_ir.specs.declared.ast.Cond.TheBlock.hidden-the_row-Cond-0 denote.Hole.Carrier.hidden
depth_all n [] h = omega arith
depth_all n (part ∷ parts) h = let rest = depth_all n parts h.1 in omega (arith, rest, h.0)

depth_any : (n : ℕ) (parts : List Cond) → AllByRecursion (λ c. depth_of c ≤ n) parts → depth_of (cond.Any parts) ≤ 1 + n
unfolding Rattle.qf_ir.specs.declared.ast.Cond.TheBlock.hidden-the_row-Cond-0 denote.Hole.Carrier.hidden
depth_any n [] h = omega arith
depth_any n (part ∷ parts) h = let rest = depth_any n parts h.1 in omega (arith, rest, h.0)

pub depth_not : (n : ℕ) (part : Cond) → depth_of part ≤ n → depth_of (cond.Not part) ≤ 1 + n
unfolding Rattle.qf_ir.specs.declared.ast.Cond.TheBlock.hidden-the_row-Cond-0 denote.Hole.Carrier.hidden Rattle.qf_ir.specs.declared.ast.Cond.TheBlock.hidden-the_row-Cond-1
depth_not n part h = omega (arith, h)

pub all_whole : (parts : List Cond) → 1 ≤ length parts → AllWhole parts → IsWhole (cond.All parts)
all_whole [] le h = absurd (omega arith)
all_whole (part ∷ parts) le h = whole_all part parts h

pub any_whole : (parts : List Cond) → 1 ≤ length parts → AllWhole parts → IsWhole (cond.Any parts)
any_whole [] le h = absurd (omega arith)
any_whole (part ∷ parts) le h = whole_any part parts h

pub all_deep : (n : ℕ) (parts : List Cond) → AllByRecursion (λ c. depth_of c ≤ n) parts → depth_of (cond.All parts) ≤ 1 + n
all_deep n parts h = depth_all n parts h

pub any_deep : (n : ℕ) (parts : List Cond) → AllByRecursion (λ c. depth_of c ≤ n) parts → depth_of (cond.Any parts) ≤ 1 + n
any_deep n parts h = depth_any n parts h
