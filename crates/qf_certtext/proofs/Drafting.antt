-- The lines that a draft takes are those of a certificate, and each draft can be made whole.
use Rattle.std.proofs.Common.{◌≡◌, ℕ, suc, ◌+◌, ◌-◌, ◌<◌, ◌≤◌, ◌==◌, Bool, true, false, cond, ◌&&◌, List, [], ◌∷◌, ◌++◌, length, map, refl, sym, ap, ◌∙◌, subst, arith, inl, inr, ◌⊎◌, Option, Some, None, option_and_then, append_assoc, append-nil, length-append}
use Rattle.std.proofs.lemmas.List.{map-append}
use Rattle.std.specs.List.{flat_map}
use Rattle.std.proofs.lemmas.Bool.{eqb-true, eqb-false}
use Rattle.std.proofs.lemmas.List.Concat.{flat_map-cons}
use Rattle.std.proofs.lemmas.Grind.{flat_map-append}
use Rattle.qf_base.specs.declared.names.RowName.{RowName}
use Rattle.qf_lin.specs.declared.step.Step.{Step}
use Rattle.qf_lin.specs.declared.step.Step.TheVariants as step
use Rattle.qf_tree.specs.declared.tree.Node.{Node}
use Rattle.qf_tree.specs.declared.tree.Node.TheVariants as node
use Rattle.qf_tree.specs.declared.cert.Answer.{Answer}
use Rattle.qf_tree.specs.declared.line.Line.{Line}
use Rattle.qf_tree.specs.declared.line.Line.TheVariants as line
use Rattle.qf_tree.specs.Lines.{step_line, node_lines, cert_lines, are_refutations, are_trees}
use Rattle.qf_certtext.specs.declared.draft.Draft.{Draft}
use Rattle.qf_certtext.specs.declared.draft.Draft.TheVariants as draft
use Rattle.qf_certtext.specs.Drafts.{with_node, after_trees, after_empty, after_steps, after_head, at_start, draft_after, drafted}

-- ---- options

some_same : {X : Type 0} (a b : X) → (◌≡◌ {A = Option X} (Some a) (Some b)) → a ≡ b
some_same a b e = cc

no_some : {X C : Type 0} (a : X) → (◌≡◌ {A = Option X} None (Some a)) → C
no_some a e = cc

picked : {X : Type 0} (flag : Bool) (a b : Option X) (x : X) → cond flag a b ≡ Some x → ((flag ≡ true) × (a ≡ Some x)) ⊎ ((flag ≡ false) × (b ≡ Some x))
picked true a b x e = inl (refl, e)
picked false a b x e = inr (refl, e)

-- ---- the lines behind one another

chain_assoc : {X Y Z : Type 0} (o : Option X) (f : X → Option Y) (g : Y → Option Z) (h : X → Option Z) → ((x : X) → h x ≡ option_and_then g (f x)) → option_and_then h o ≡ option_and_then g (option_and_then f o)
chain_assoc None f g h e = refl
chain_assoc (Some x) f g h e = e x

pub drafted_append : (d : Draft) (lines more : List Line) → drafted d (lines ++ more) ≡ option_and_then (λ next. drafted next more) (drafted d lines)
drafted_append d [] more = refl
drafted_append d (l ∷ lines) more =
    chain_assoc (draft_after d l) (λ next. drafted next lines) (λ next. drafted next more) (λ next. drafted next (lines ++ more)) (λ next. drafted_append next lines more)

-- ---- what a draft stands for

abbrev pub Stands : Draft → List Line → Type 0
Stands draft.Head lines = lines ≡ []
Stands draft.Answer lines = lines ≡ line.Head ∷ []
Stands (draft.Trees a ns t) lines =
    (lines ≡ line.Head ∷ line.Answer a ∷ flat_map node_lines ns) × ((more : List Node) → are_trees 1 (ns ++ more) ≡ are_trees t more) × (t ≤ length lines)
Stands (draft.Steps a ns t row steps r) lines =
    (lines ≡ line.Head ∷ line.Answer a ∷ (flat_map node_lines ns ++ line.Refuted row ∷ map step_line steps)) × ((more : List Node) → are_trees 1 (ns ++ more) ≡ are_trees (suc t) more) × ((more : List Step) → are_refutations 1 (steps ++ more) ≡ are_refutations r more) × (0 < r) × (r ≤ length lines) × (t ≤ length lines)
Stands (draft.Whole cert) lines = (lines ≡ cert_lines cert) × (are_trees 1 cert.tree.nodes ≡ true)

length_push : (lines : List Line) (l : Line) → length (lines ++ l ∷ []) ≡ length lines + 1
length_push lines l = length-append lines (l ∷ [])

nodes_push : (ns : List Node) (x : Node) → flat_map node_lines (ns ++ x ∷ []) ≡ flat_map node_lines ns ++ node_lines x
nodes_push ns x =
    flat_map-append node_lines ns (x ∷ [])
    ∙ ap (λ (ls : List Line). flat_map node_lines ns ++ ls) (flat_map-cons node_lines x [] ∙ append-nil (node_lines x))

front : Answer → List Line → List Line
front a ls = line.Head ∷ line.Answer a ∷ ls

trees_push : (ns : List Node) (t t2 : ℕ) (x : Node) → ((more : List Node) → are_trees 1 (ns ++ more) ≡ are_trees t more) → ((more : List Node) → are_trees t (x ∷ more) ≡ are_trees t2 more) → (more : List Node) → are_trees 1 ((ns ++ x ∷ []) ++ more) ≡ are_trees t2 more
trees_push ns t t2 x trees step more =
    ap (are_trees 1) (append_assoc ns (x ∷ []) more) ∙ trees (x ∷ more) ∙ step more

same_trees : (t m : ℕ) (more : List Node) → t ≡ m → are_trees t more ≡ are_trees m more
same_trees t m more e = ap (λ k. are_trees k more) e

keep_node : (a : Answer) (ns : List Node) (t : ℕ) (lines : List Line) → Stands (draft.Trees a ns t) lines → (x : Node) (extra : ℕ) (l : Line) (d : Draft) → node_lines x ≡ l ∷ [] → ((m : ℕ) (more : List Node) → are_trees (suc m) (x ∷ more) ≡ are_trees (m + extra) more) → extra ≤ 2 → with_node a ns t x extra ≡ Some d → Stands d (lines ++ l ∷ [])
keep_node a ns t lines stands x extra l d text counts small e =
    elim (picked (t == 0) None (Some (draft.Trees a (ns ++ x ∷ []) (t - 1 + extra))) d e) [
      | inl h ↦ no_some d h.1
      | inr h ↦
          let some : t ≡ suc (t - 1) = let ne = eqb-false t 0 h.0 in omega (arith, ne) in
          subst (λ made. Stands made (lines ++ l ∷ [])) (some_same (draft.Trees a (ns ++ x ∷ []) (t - 1 + extra)) d h.1) (
            ap (λ (ls : List Line). ls ++ l ∷ []) stands.0 ∙ ap (λ (ls : List Line). line.Head ∷ line.Answer a ∷ ls) (sym (nodes_push ns x ∙ ap (λ (ls : List Line). flat_map node_lines ns ++ ls) text)),
            trees_push ns t (t - 1 + extra) x stands.1 (λ more. same_trees t (suc (t - 1)) (x ∷ more) some ∙ counts (t - 1) more),
            omega (arith, stands.2, length_push lines l, some),
          )
    ]

keep_refuted : (a : Answer) (ns : List Node) (t : ℕ) (lines : List Line) → Stands (draft.Trees a ns t) lines → (row : RowName) (d : Draft) → after_trees a ns t (line.Refuted row) ≡ Some d → Stands d (lines ++ line.Refuted row ∷ [])
keep_refuted a ns t lines stands row d e =
    elim (picked (t == 0) None (Some (draft.Steps a ns (t - 1) row [] 1)) d e) [
      | inl h ↦ no_some d h.1
      | inr h ↦
          let some : t ≡ suc (t - 1) = let ne = eqb-false t 0 h.0 in omega (arith, ne) in
          subst (λ made. Stands made (lines ++ line.Refuted row ∷ [])) (some_same (draft.Steps a ns (t - 1) row [] 1) d h.1) (
            ap (λ (ls : List Line). ls ++ line.Refuted row ∷ []) stands.0,
            λ more. stands.1 more ∙ same_trees t (suc (t - 1)) more some,
            λ more. refl,
            omega arith,
            omega (arith, length_push lines (line.Refuted row)),
            omega (arith, stands.2, length_push lines (line.Refuted row)),
          )
    ]

keep_end : (a : Answer) (ns : List Node) (t : ℕ) (lines : List Line) → Stands (draft.Trees a ns t) lines → (d : Draft) → after_trees a ns t line.End ≡ Some d → Stands d (lines ++ line.End ∷ [])
keep_end a ns t lines stands d e =
    elim (picked (t == 0) (Some (draft.Whole (record { answer = a; tree = record { nodes = ns } }))) None d e) [
      | inl h ↦
          subst (λ made. Stands made (lines ++ line.End ∷ [])) (some_same (draft.Whole (record { answer = a; tree = record { nodes = ns } })) d h.1) (
            ap (λ (ls : List Line). ls ++ line.End ∷ []) stands.0,
            ap (are_trees 1) (sym (append-nil ns)) ∙ stands.1 [] ∙ same_trees t 0 [] (eqb-true t 0 h.0),
          )
      | inr h ↦ no_some d h.1
    ]

steps_push : (a : Answer) (ns : List Node) (row : RowName) (steps : List Step) (s : Step) (lines : List Line) → lines ≡ line.Head ∷ line.Answer a ∷ (flat_map node_lines ns ++ line.Refuted row ∷ map step_line steps) → lines ++ step_line s ∷ [] ≡ line.Head ∷ line.Answer a ∷ (flat_map node_lines ns ++ line.Refuted row ∷ map step_line (steps ++ s ∷ []))
steps_push a ns row steps s lines e =
    ap (λ (ls : List Line). ls ++ step_line s ∷ []) e
    ∙ ap (λ (ls : List Line). line.Head ∷ line.Answer a ∷ ls) (append_assoc (flat_map node_lines ns) (line.Refuted row ∷ map step_line steps) (step_line s ∷ []) ∙ ap (λ (ls : List Line). flat_map node_lines ns ++ line.Refuted row ∷ ls) (sym (map-append step_line steps (s ∷ []))))

refs_push : (steps : List Step) (r r2 : ℕ) (s : Step) → ((more : List Step) → are_refutations 1 (steps ++ more) ≡ are_refutations r more) → ((more : List Step) → are_refutations r (s ∷ more) ≡ are_refutations r2 more) → (more : List Step) → are_refutations 1 ((steps ++ s ∷ []) ++ more) ≡ are_refutations r2 more
refs_push steps r r2 s refs step more =
    ap (are_refutations 1) (append_assoc steps (s ∷ []) more) ∙ refs (s ∷ more) ∙ step more

keep_step : (a : Answer) (ns : List Node) (t : ℕ) (row : RowName) (steps : List Step) (r : ℕ) (lines : List Line) → Stands (draft.Steps a ns t row steps r) lines → (s : Step) (r2 : ℕ) → ((more : List Step) → are_refutations r (s ∷ more) ≡ are_refutations r2 more) → 0 < r2 → r2 ≤ r + 1 → Stands (draft.Steps a ns t row (steps ++ s ∷ []) r2) (lines ++ step_line s ∷ [])
keep_step a ns t row steps r lines stands s r2 counts some small = (
  steps_push a ns row steps s lines stands.0,
  stands.1,
  refs_push steps r r2 s stands.2 counts,
  some,
  omega (arith, stands.4, length_push lines (step_line s)),
  omega (arith, stands.5, length_push lines (step_line s)),
)

same_refs : (r m : ℕ) (more : List Step) → r ≡ m → are_refutations r more ≡ are_refutations m more
same_refs r m more e = ap (λ k. are_refutations k more) e

keep_empty : (a : Answer) (ns : List Node) (t : ℕ) (row : RowName) (steps : List Step) (r : ℕ) (lines : List Line) → Stands (draft.Steps a ns t row steps r) lines → (flag : Bool) → (r == 1) ≡ flag → Stands (after_empty a ns t row steps r) (lines ++ line.Empty ∷ [])
keep_empty a ns t row steps r lines stands true e =
    let one : r ≡ 1 = eqb-true r 1 e in
    let whole : are_refutations 1 (steps ++ step.Empty ∷ []) ≡ true = stands.2 (step.Empty ∷ []) ∙ same_refs r 1 (step.Empty ∷ []) one in
    rw e (
      steps_push a ns row steps step.Empty lines stands.0 ∙ ap (λ (ls : List Line). line.Head ∷ line.Answer a ∷ ls) (sym (nodes_push ns (node.Refuted row (steps ++ step.Empty ∷ [])))),
      trees_push ns (suc t) t (node.Refuted row (steps ++ step.Empty ∷ [])) stands.1 (λ more. ap (λ b. b && are_trees t more) whole),
      omega (arith, stands.5, length_push lines line.Empty),
    )
keep_empty a ns t row steps r lines stands false e =
    let ne = eqb-false r 1 e in
    let two : r ≡ suc (r - 1) = omega (arith, stands.3) in
    rw e (keep_step a ns t row steps r lines stands step.Empty (r - 1) (λ more. same_refs r (suc (r - 1)) (step.Empty ∷ more) two) (omega (arith, ne, stands.3)) (omega arith))

keep_in_steps : (a : Answer) (ns : List Node) (t : ℕ) (row : RowName) (steps : List Step) (r : ℕ) (lines : List Line) → Stands (draft.Steps a ns t row steps r) lines → (l : Line) (d : Draft) → after_steps a ns t row steps r l ≡ Some d → Stands d (lines ++ l ∷ [])
keep_in_steps a ns t row steps r lines stands line.Head d e = no_some d e
keep_in_steps a ns t row steps r lines stands (line.Answer b) d e = no_some d e
keep_in_steps a ns t row steps r lines stands (line.Split k c w) d e = no_some d e
keep_in_steps a ns t row steps r lines stands (line.Refuted w) d e = no_some d e
keep_in_steps a ns t row steps r lines stands (line.Tight n v b) d e =
    let two : r ≡ suc (r - 1) = omega (arith, stands.3) in
    subst (λ made. Stands made (lines ++ line.Tight n v b ∷ [])) (some_same (draft.Steps a ns t row (steps ++ step.Tight n v b ∷ []) r) d e) (keep_step a ns t row steps r lines stands (step.Tight n v b) r (λ more. same_refs r (suc (r - 1)) (step.Tight n v b ∷ more) two ∙ same_refs (suc (r - 1)) r more (sym two)) stands.3 (omega arith))
keep_in_steps a ns t row steps r lines stands line.Empty d e =
    subst (λ made. Stands made (lines ++ line.Empty ∷ [])) (some_same (after_empty a ns t row steps r) d e) (keep_empty a ns t row steps r lines stands (r == 1) refl)
keep_in_steps a ns t row steps r lines stands (line.Case v) d e =
    let two : r ≡ suc (r - 1) = omega (arith, stands.3) in
    let more_by_one : suc (suc (r - 1)) ≡ r + 1 = omega (arith, two) in
    subst (λ made. Stands made (lines ++ line.Case v ∷ [])) (some_same (draft.Steps a ns t row (steps ++ step.Case v ∷ []) (r + 1)) d e) (keep_step a ns t row steps r lines stands (step.Case v) (r + 1) (λ more. same_refs r (suc (r - 1)) (step.Case v ∷ more) two ∙ same_refs (suc (suc (r - 1))) (r + 1) more more_by_one) (omega arith) (omega arith))
keep_in_steps a ns t row steps r lines stands line.Dear d e = no_some d e
keep_in_steps a ns t row steps r lines stands line.Open d e = no_some d e
keep_in_steps a ns t row steps r lines stands line.End d e = no_some d e

keep_in_trees : (a : Answer) (ns : List Node) (t : ℕ) (lines : List Line) → Stands (draft.Trees a ns t) lines → (l : Line) (d : Draft) → after_trees a ns t l ≡ Some d → Stands d (lines ++ l ∷ [])
keep_in_trees a ns t lines stands line.Head d e = no_some d e
keep_in_trees a ns t lines stands (line.Answer b) d e = no_some d e
keep_in_trees a ns t lines stands (line.Split k c w) d e =
    keep_node a ns t lines stands (node.Split k c w) 2 (line.Split k c w) d refl (λ m more. same_trees (suc (suc m)) (m + 2) more (omega arith)) (omega arith) e
keep_in_trees a ns t lines stands (line.Refuted w) d e = keep_refuted a ns t lines stands w d e
keep_in_trees a ns t lines stands (line.Tight n v b) d e = no_some d e
keep_in_trees a ns t lines stands line.Empty d e = no_some d e
keep_in_trees a ns t lines stands (line.Case v) d e = no_some d e
keep_in_trees a ns t lines stands line.Dear d e =
    keep_node a ns t lines stands node.Dear 0 line.Dear d refl (λ m more. same_trees m (m + 0) more (omega arith)) (omega arith) e
keep_in_trees a ns t lines stands line.Open d e =
    keep_node a ns t lines stands node.Open 0 line.Open d refl (λ m more. same_trees m (m + 0) more (omega arith)) (omega arith) e
keep_in_trees a ns t lines stands line.End d e = keep_end a ns t lines stands d e

keep_at_head : (lines : List Line) → lines ≡ line.Head ∷ [] → (l : Line) (d : Draft) → after_head l ≡ Some d → Stands d (lines ++ l ∷ [])
keep_at_head lines stands line.Head d e = no_some d e
keep_at_head lines stands (line.Answer a) d e =
    subst (λ made. Stands made (lines ++ line.Answer a ∷ [])) (some_same (draft.Trees a [] 1) d e) (
      ap (λ (ls : List Line). ls ++ line.Answer a ∷ []) stands,
      λ more. refl,
      omega (arith, length_push lines (line.Answer a)),
    )
keep_at_head lines stands (line.Split k c w) d e = no_some d e
keep_at_head lines stands (line.Refuted w) d e = no_some d e
keep_at_head lines stands (line.Tight n v b) d e = no_some d e
keep_at_head lines stands line.Empty d e = no_some d e
keep_at_head lines stands (line.Case v) d e = no_some d e
keep_at_head lines stands line.Dear d e = no_some d e
keep_at_head lines stands line.Open d e = no_some d e
keep_at_head lines stands line.End d e = no_some d e

keep_at_start : (lines : List Line) → lines ≡ [] → (l : Line) (d : Draft) → at_start l ≡ Some d → Stands d (lines ++ l ∷ [])
keep_at_start lines stands line.Head d e =
    subst (λ made. Stands made (lines ++ line.Head ∷ [])) (some_same draft.Answer d e) (ap (λ (ls : List Line). ls ++ line.Head ∷ []) stands)
keep_at_start lines stands (line.Answer a) d e = no_some d e
keep_at_start lines stands (line.Split k c w) d e = no_some d e
keep_at_start lines stands (line.Refuted w) d e = no_some d e
keep_at_start lines stands (line.Tight n v b) d e = no_some d e
keep_at_start lines stands line.Empty d e = no_some d e
keep_at_start lines stands (line.Case v) d e = no_some d e
keep_at_start lines stands line.Dear d e = no_some d e
keep_at_start lines stands line.Open d e = no_some d e
keep_at_start lines stands line.End d e = no_some d e

pub stands_after : (d : Draft) (lines : List Line) → Stands d lines → (l : Line) (next : Draft) → draft_after d l ≡ Some next → Stands next (lines ++ l ∷ [])
stands_after draft.Head lines stands l next e = keep_at_start lines stands l next e
stands_after draft.Answer lines stands l next e = keep_at_head lines stands l next e
stands_after (draft.Trees a ns t) lines stands l next e = keep_in_trees a ns t lines stands l next e
stands_after (draft.Steps a ns t row steps r) lines stands l next e = keep_in_steps a ns t row steps r lines stands l next e
stands_after (draft.Whole cert) lines stands l next e = no_some next e
