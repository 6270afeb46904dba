-- The lines that make a draft whole are exactly those of a certificate, and each draft can be made whole.
use Rattle.std.proofs.Common.{◌≡◌, ℕ, zero, suc, ◌+◌, ◌-◌, ◌<◌, ◌==◌, true, false, List, [], ◌∷◌, ◌++◌, map, refl, sym, ap, ◌∙◌, subst, arith, Option, Some, None, option_and_then, append_assoc, append-nil, IsTrue}
use Rattle.std.specs.List.{flat_map, AllByRecursion}
use Rattle.std.proofs.lemmas.Bool.{ne_eqb, and_parts}
use Rattle.std.proofs.lemmas.List.Concat.{flat_map-cons}
use Rattle.std.proofs.lemmas.List.Elements.{All-from_recursion, recursion_from_All}
use Rattle.qf_base.specs.declared.names.RowName.{RowName}
use Rattle.qf_lin.specs.declared.step.Step.{Step}
use Rattle.qf_lin.specs.declared.step.Step.TheVariants as step
use Rattle.qf_tree.specs.declared.tree.Node.{Node}
use Rattle.qf_tree.specs.declared.tree.Node.TheVariants as node
use Rattle.qf_tree.specs.declared.cert.Answer.{Answer}
use Rattle.qf_tree.specs.declared.cert.Answer.TheVariants as answer
use Rattle.qf_tree.specs.declared.cert.Cert.{Cert}
use Rattle.qf_tree.specs.declared.line.Line.{Line}
use Rattle.qf_tree.specs.declared.line.Line.TheVariants as line
use Rattle.qf_tree.specs.Lines.{step_line, node_lines, cert_lines, are_refutations, are_trees, line_fits, HasSpelling}
use Rattle.qf_certtext.specs.declared.draft.Draft.{Draft}
use Rattle.qf_certtext.specs.declared.draft.Draft.TheVariants as draft
use Rattle.qf_certtext.specs.Drafts.{with_node, after_trees, draft_after, drafted, LinesAreAccepted}
use Rattle.qf_certtext.specs.Texts.{Begins, GoesOn}
use Rattle.qf_certtext.proofs.Drafting.{Stands, stands_after, drafted_append}

some_same : {X : Type 0} (a b : X) → (◌≡◌ {A = Option X} (Some a) (Some b)) → a ≡ b
some_same a b e = cc

pub chained : {X Y : Type 0} (f : X → Option Y) (o : Option X) (y : Y) → option_and_then f o ≡ Some y → (x : X) × (o ≡ Some x) × (f x ≡ Some y)
chained f None y e = cc
chained f (Some x) y e = (x, refl, e)

-- ---- what the lines so far are

pub stands_all : (d : Draft) (before : List Line) → Stands d before → (lines : List Line) (next : Draft) → drafted d lines ≡ Some next → Stands next (before ++ lines)
stands_all d before stands [] next e =
    subst (λ n. Stands n (before ++ [])) (some_same d next e) (subst (λ (ls : List Line). Stands d ls) (sym (append-nil before)) stands)
stands_all d before stands (l ∷ lines) next e =
    let step = chained (λ n. drafted n lines) (draft_after d l) next e in
    subst (λ (ls : List Line). Stands next ls) (append_assoc before (l ∷ []) lines) (stands_all step.0 (before ++ l ∷ []) (stands_after d before stands l step.0 step.1) lines next step.2)

pub stands_from_start : (lines : List Line) (d : Draft) → drafted draft.Head lines ≡ Some d → Stands d lines
stands_from_start lines d e = stands_all draft.Head [] refl lines d e

-- ---- a certificate's lines are taken

not_none_left : (t : ℕ) → (suc t == 0) ≡ false
not_none_left t = ne_eqb (suc t) 0 (λ e. absurd (omega (arith, e)))

not_last : (r : ℕ) → (suc (suc r) == 1) ≡ false
not_last r = ne_eqb (suc (suc r)) 1 (λ e. absurd (omega (arith, e)))

node_taken : (a : Answer) (ns : List Node) (t extra : ℕ) (x : Node) → with_node a ns (suc t) x extra ≡ Some (draft.Trees a (ns ++ x ∷ []) (t + extra))
node_taken a ns t extra x =
    let n : suc t - 1 + extra ≡ t + extra = omega arith in
    rw (not_none_left t) (ap (λ k. Some (draft.Trees a (ns ++ x ∷ []) k)) n)

module _ (a : Answer) (t : ℕ) (row : RowName) where
  steps_as : (ns : List Node) (steps : List Step) (r k : ℕ) (lines : List Line) → r ≡ k → drafted (draft.Steps a ns t row steps r) lines ≡ drafted (draft.Steps a ns t row steps k) lines
  steps_as ns steps r k lines e = ap (λ n. drafted (draft.Steps a ns t row steps n) lines) e

  closed : (ns : List Node) (steps more : List Step) (rest : List Line) → are_refutations 0 more ≡ true → drafted (draft.Trees a (ns ++ node.Refuted row (steps ++ step.Empty ∷ []) ∷ []) t) (map step_line more ++ rest) ≡ drafted (draft.Trees a (ns ++ node.Refuted row (steps ++ step.Empty ∷ more) ∷ []) t) rest
  closed ns steps [] rest h = refl
  closed ns steps (s ∷ more) rest h = cc

  push_more : (ns : List Node) (steps : List Step) (s : Step) (more : List Step) (rest : List Line) → drafted (draft.Trees a (ns ++ node.Refuted row ((steps ++ s ∷ []) ++ more) ∷ []) t) rest ≡ drafted (draft.Trees a (ns ++ node.Refuted row (steps ++ s ∷ more) ∷ []) t) rest
  push_more ns steps s more rest =
      ap (λ (ss : List Step). drafted (draft.Trees a (ns ++ node.Refuted row ss ∷ []) t) rest) (append_assoc steps (s ∷ []) more)

  accept_steps : (ns : List Node) (more steps : List Step) (r : ℕ) (rest : List Line) → are_refutations (suc r) more ≡ true → drafted (draft.Steps a ns t row steps (suc r)) (map step_line more ++ rest) ≡ drafted (draft.Trees a (ns ++ node.Refuted row (steps ++ more) ∷ []) t) rest
  accept_steps ns [] steps r rest h = cc
  accept_steps ns (step.Tight n v b ∷ more) steps r rest h =
      accept_steps ns more (steps ++ step.Tight n v b ∷ []) r rest h ∙ push_more ns steps (step.Tight n v b) more rest
  accept_steps ns (step.Empty ∷ more) steps zero rest h = closed ns steps more rest h
  accept_steps ns (step.Empty ∷ more) steps (suc r) rest h =
      let n : suc (suc r) - 1 ≡ suc r = omega arith in
      rw (not_last r) (steps_as ns (steps ++ step.Empty ∷ []) (suc (suc r) - 1) (suc r) (map step_line more ++ rest) n ∙ accept_steps ns more (steps ++ step.Empty ∷ []) r rest h ∙ push_more ns steps step.Empty more rest)
  accept_steps ns (step.Case v ∷ more) steps r rest h =
      let n : suc r + 1 ≡ suc (suc r) = omega arith in
      steps_as ns (steps ++ step.Case v ∷ []) (suc r + 1) (suc (suc r)) (map step_line more ++ rest) n ∙ accept_steps ns more (steps ++ step.Case v ∷ []) (suc r) rest h ∙ push_more ns steps (step.Case v) more rest

abbrev whole_of : Answer → List Node → Option Draft
whole_of a ns = Some (draft.Whole (record { answer = a; tree = record { nodes = ns } }))

one_node : (a : Answer) (ns more : List Node) (t extra : ℕ) (x : Node) (l : Line) → node_lines x ≡ l ∷ [] → draft_after (draft.Trees a ns (suc t)) l ≡ with_node a ns (suc t) x extra → drafted (draft.Trees a (ns ++ x ∷ []) (t + extra)) (flat_map node_lines more ++ line.End ∷ []) ≡ whole_of a ((ns ++ x ∷ []) ++ more) → drafted (draft.Trees a ns (suc t)) (flat_map node_lines (x ∷ more) ++ line.End ∷ []) ≡ whole_of a (ns ++ x ∷ more)
one_node a ns more t extra x l text taken rest =
    ap (λ (ls : List Line). drafted (draft.Trees a ns (suc t)) (ls ++ line.End ∷ [])) (flat_map-cons node_lines x more ∙ ap (λ (ls : List Line). ls ++ flat_map node_lines more) text)
    ∙ ap (λ o. option_and_then (λ n. drafted n (flat_map node_lines more ++ line.End ∷ [])) o) (taken ∙ node_taken a ns t extra x)
    ∙ rest
    ∙ ap (whole_of a) (append_assoc ns (x ∷ []) more)

refuted_taken : (a : Answer) (ns : List Node) (t : ℕ) (row : RowName) → after_trees a ns (suc t) (line.Refuted row) ≡ Some (draft.Steps a ns t row [] 1)
refuted_taken a ns t row =
    let n : suc t - 1 ≡ t = omega arith in
    rw (not_none_left t) (ap (λ k. Some (draft.Steps a ns k row [] 1)) n)

accept_nodes : (a : Answer) (more ns : List Node) (t : ℕ) → are_trees t more ≡ true → drafted (draft.Trees a ns t) (flat_map node_lines more ++ line.End ∷ []) ≡ whole_of a (ns ++ more)
accept_nodes a [] ns zero h = ap (whole_of a) (sym (append-nil ns))
accept_nodes a [] ns (suc t) h = cc
accept_nodes a (x ∷ more) ns zero h = cc
accept_nodes a (node.Split k c w ∷ more) ns (suc t) h =
    let n : suc (suc t) ≡ t + 2 = omega arith in
    one_node a ns more t 2 (node.Split k c w) (line.Split k c w) refl refl (accept_nodes a more (ns ++ node.Split k c w ∷ []) (t + 2) (subst (λ m. are_trees m more ≡ true) n h))
accept_nodes a (node.Refuted w steps ∷ more) ns (suc t) h =
    let parts = and_parts (are_refutations 1 steps) (are_trees t more) h in
    ap (λ (ls : List Line). drafted (draft.Trees a ns (suc t)) (ls ++ line.End ∷ [])) (flat_map-cons node_lines (node.Refuted w steps) more)
    ∙ ap (λ o. option_and_then (λ n. drafted n ((map step_line steps ++ flat_map node_lines more) ++ line.End ∷ [])) o) (refuted_taken a ns t w)
    ∙ ap (drafted (draft.Steps a ns t w [] 1)) (append_assoc (map step_line steps) (flat_map node_lines more) (line.End ∷ []))
    ∙ accept_steps a t w ns steps [] 0 (flat_map node_lines more ++ line.End ∷ []) parts.0
    ∙ accept_nodes a more (ns ++ node.Refuted w steps ∷ []) t parts.1
    ∙ ap (whole_of a) (append_assoc ns (node.Refuted w steps ∷ []) more)
accept_nodes a (node.Dear ∷ more) ns (suc t) h =
    let n : t ≡ t + 0 = omega arith in
    one_node a ns more t 0 node.Dear line.Dear refl refl (accept_nodes a more (ns ++ node.Dear ∷ []) (t + 0) (subst (λ m. are_trees m more ≡ true) n h))
accept_nodes a (node.Open ∷ more) ns (suc t) h =
    let n : t ≡ t + 0 = omega arith in
    one_node a ns more t 0 node.Open line.Open refl refl (accept_nodes a more (ns ++ node.Open ∷ []) (t + 0) (subst (λ m. are_trees m more ≡ true) n h))

pub lines_accepted : (cert : Cert) → are_trees 1 cert.tree.nodes ≡ true → drafted draft.Head (cert_lines cert) ≡ Some (draft.Whole cert)
lines_accepted cert h = accept_nodes cert.answer cert.tree.nodes [] 1 h

-- ---- each draft can be made whole

dears : ℕ → List Line
dears zero = line.End ∷ []
dears (suc n) = line.Dear ∷ dears n

dears_whole : (a : Answer) (t : ℕ) (ns : List Node) → (cert : Cert) × (drafted (draft.Trees a ns t) (dears t) ≡ Some (draft.Whole cert))
unfolding dears
dears_whole a zero ns = (record { answer = a; tree = record { nodes = ns } }, refl)
dears_whole a (suc t) ns =
    let n : t + 0 ≡ t = omega arith in
    let more = dears_whole a t (ns ++ node.Dear ∷ []) in (
      more.0,
      ap (λ o. option_and_then (λ next. drafted next (dears t)) o) (node_taken a ns t 0 node.Dear) ∙ ap (λ k. drafted (draft.Trees a (ns ++ node.Dear ∷ []) k) (dears t)) n ∙ more.1,
    )

empties : ℕ → ℕ → List Line
empties zero t = dears t
empties (suc r) t = line.Empty ∷ empties r t

empties_whole : (a : Answer) (ns : List Node) (t : ℕ) (row : RowName) (r : ℕ) (steps : List Step) → (cert : Cert) × (drafted (draft.Steps a ns t row steps (suc r)) (empties (suc r) t) ≡ Some (draft.Whole cert))
unfolding empties
empties_whole a ns t row zero steps = dears_whole a t (ns ++ node.Refuted row (steps ++ step.Empty ∷ []) ∷ [])
empties_whole a ns t row (suc r) steps =
    let n : suc (suc r) - 1 ≡ suc r = omega arith in
    let more = empties_whole a ns t row r (steps ++ step.Empty ∷ []) in (
      more.0,
      rw (not_last r) (steps_as a t row ns (steps ++ step.Empty ∷ []) (suc (suc r) - 1) (suc r) (empties (suc r) t) n ∙ more.1),
    )

abbrev pub AllFit : List Line → Type 0
AllFit lines = AllByRecursion (λ l. line_fits l ≡ true) lines

pub fit_append : (xs ys : List Line) → AllFit xs → AllFit ys → AllFit (xs ++ ys)
fit_append [] ys h k = k
fit_append (x ∷ xs) ys h k = (h.0, fit_append xs ys h.1 k)

dears_fit : (n : ℕ) → AllFit (dears n)
unfolding dears
dears_fit zero = (refl, tt)
dears_fit (suc n) = (refl, dears_fit n)

empties_fit : (r t : ℕ) → AllFit (empties r t)
unfolding empties
empties_fit zero t = dears_fit t
empties_fit (suc r) t = (refl, empties_fit r t)

abbrev pub NotWhole : Draft → Type 0
NotWhole draft.Head = Unit {0}
NotWhole draft.Answer = Unit {0}
NotWhole (draft.Trees a ns t) = Unit {0}
NotWhole (draft.Steps a ns t row steps r) = Unit {0}
NotWhole (draft.Whole cert) = ⊥

abbrev Completion : Draft → Type 0
Completion d = (next : Line) × (more : List Line) × (cert : Cert) × (drafted d (next ∷ more) ≡ Some (draft.Whole cert)) × AllFit (next ∷ more)

dears_complete : (a : Answer) (ns : List Node) (t : ℕ) → Completion (draft.Trees a ns t)
unfolding dears
dears_complete a ns zero = let w = dears_whole a 0 ns in (line.End, [], w.0, w.1, (refl, tt))
dears_complete a ns (suc t) = let w = dears_whole a (suc t) ns in (line.Dear, dears t, w.0, w.1, (refl, dears_fit t))

empties_complete : (a : Answer) (ns : List Node) (t : ℕ) (row : RowName) (steps : List Step) (r : ℕ) → 0 < r → Completion (draft.Steps a ns t row steps r)
unfolding empties
empties_complete a ns t row steps zero h = absurd (omega arith)
empties_complete a ns t row steps (suc r) h =
    let w = empties_whole a ns t row r steps in (line.Empty, empties r t, w.0, w.1, (refl, empties_fit r t))

completed : (d : Draft) (lines : List Line) → Stands d lines → NotWhole d → Completion d
completed draft.Head lines stands n =
    (line.Head, line.Answer answer.Nothing ∷ line.Dear ∷ line.End ∷ [], record { answer = answer.Nothing; tree = record { nodes = node.Dear ∷ [] } }, refl, (refl, (refl, (refl, (refl, tt)))))
completed draft.Answer lines stands n =
    (line.Answer answer.Nothing, line.Dear ∷ line.End ∷ [], record { answer = answer.Nothing; tree = record { nodes = node.Dear ∷ [] } }, refl, (refl, (refl, (refl, tt))))
completed (draft.Trees a ns t) lines stands n = dears_complete a ns t
completed (draft.Steps a ns t row steps r) lines stands n = empties_complete a ns t row steps r stands.3
completed (draft.Whole cert) lines stands n = absurd n

-- ---- what follows for texts

pub whole_is_spelled : (lines : List Line) (cert : Cert) → AllFit lines → drafted draft.Head lines ≡ Some (draft.Whole cert) → HasSpelling cert × (lines ≡ cert_lines cert)
whole_is_spelled lines cert fits e =
    let stands = stands_from_start lines (draft.Whole cert) e in (
      record {
        tree = stands.1;
        numbers = All-from_recursion (λ l. IsTrue (line_fits l)) (cert_lines cert) (subst AllFit stands.0 fits);
      },
      stands.0,
    )

pub goes_on : (lines : List Line) (d : Draft) → AllFit lines → drafted draft.Head lines ≡ Some d → NotWhole d → GoesOn lines
goes_on lines d fits e not_whole =
    let rest = completed d lines (stands_from_start lines d e) not_whole in
    let all : drafted draft.Head (lines ++ rest.0 ∷ rest.1) ≡ Some (draft.Whole rest.2) =
    drafted_append draft.Head lines (rest.0 ∷ rest.1) ∙ ap (λ o. option_and_then (λ n. drafted n (rest.0 ∷ rest.1)) o) e ∙ rest.3 in
    let spelled = whole_is_spelled (lines ++ rest.0 ∷ rest.1) rest.2 (fit_append lines (rest.0 ∷ rest.1) fits rest.4) all in
    record {
      next = rest.0;
      begins = record {
        cert = rest.2;
        rest = rest.1;
        spelled = spelled.0;
        lines_are = sym spelled.1 ∙ sym (append_assoc lines (rest.0 ∷ []) rest.1);
      };
    }

-- the lines that a certificate begins with are taken
pub begun_is_taken : (lines : List Line) → Begins lines → (d : Draft) × (drafted draft.Head lines ≡ Some d)
begun_is_taken lines b =
    let all = drafted_append draft.Head lines b.rest in
    let whole : option_and_then (λ n. drafted n b.rest) (drafted draft.Head lines) ≡ Some (draft.Whole b.cert) =
    sym all ∙ ap (drafted draft.Head) (sym b.lines_are) ∙ lines_accepted b.cert b.spelled.tree in
    let parts = chained (λ n. drafted n b.rest) (drafted draft.Head lines) (draft.Whole b.cert) whole in
    (parts.0, parts.1)

pub cannot_stand : (lines : List Line) (d : Draft) (l : Line) → drafted draft.Head lines ≡ Some d → draft_after d l ≡ None → Begins (lines ++ l ∷ []) → ⊥
cannot_stand lines d l e none b =
    let taken = begun_is_taken (lines ++ l ∷ []) b in
    let parts = drafted_append draft.Head lines (l ∷ []) ∙ ap (λ o. option_and_then (λ n. drafted n (l ∷ [])) o) e ∙ ap (λ o. option_and_then (λ n. drafted n []) o) none in
    let bad = sym parts ∙ taken.1 in
    cc

pub fits_from : (cert : Cert) → HasSpelling cert → AllFit (cert_lines cert)
fits_from cert h = recursion_from_All (λ l. IsTrue (line_fits l)) (cert_lines cert) h.numbers

pub lines_are_accepted : LinesAreAccepted
lines_are_accepted lines cert = (
  λ e. let s = stands_from_start lines (draft.Whole cert) e in (s.0, s.1),
  λ h. ap (drafted draft.Head) h.0 ∙ lines_accepted cert h.1,
)
