-- The tests of a statement are the arrows of its flow.
use Rattle.std.proofs.Common.{◌≡◌, ◌∙◌, ap, sym, subst, refl, inl, inr, ◌⊎◌, ℕ, Bool, true, false, not, ◌&&◌, ◌==◌, List, [], ◌∷◌, ◌++◌, map, slice_index_or, arith}
use Rattle.std.specs.declared.option.Option.{Option}
use Rattle.std.specs.declared.option.Option.TheVariants.{Some, None}
use Rattle.std.specs.List.{list_any, flat_map}
use Rattle.std.proofs.lemmas.Bool.{false≢true}
use Rattle.std.proofs.lemmas.Bool.Decides.{nat_tests}
use Rattle.qf_ir.specs.declared.ast.Atom.{Atom}
use Rattle.qf_ir.specs.declared.ast.Atom.TheVariants.{Column, Param}
use Rattle.qf_ir.specs.declared.ast.Term.{Term}
use Rattle.qf_ir.specs.declared.ast.Expr.{Expr}
use Rattle.qf_ir.specs.declared.ast.Expr.TheVariants.{Sum, Word}
use Rattle.qf_ir.specs.declared.ast.Cond.{Cond, Row_of-Cond, end_of-Cond, more_of-Cond}
use Rattle.qf_ir.specs.declared.ast.Cond.TheVariants.{Compare, Between, Within, All', Any', Not'}
use Rattle.qf_ir.specs.declared.ast.Statement.{Statement}
use Rattle.qf_ir.specs.declared.ast.Statement.TheVariants.{Update, Delete, Insert}
use Rattle.qf_ir.specs.Replay.{place_of}
use Rattle.qf_ir.specs.Flow.{Place, Live, At, InTerms, InExpr, InExprs, InCond, InConds, InWhere, Sets, InSet, Feeds, Overwrites, FeedsFrom, Arrow, Inserts, Enters}
use Rattle.qf_impact.specs.Atoms.{expr_atoms, cond_atoms, parts_atoms, where_atoms}
use Rattle.qf_impact.specs.Steps.{is_param, is_reached, touches, sets_place, carries, is_cleared, has_item, flows}
use Rattle.qf_impact.proofs.Tests.{or-either, or-left, or-right, and-both, and-join, not-true, not-false, never}

-- ---- the atoms are those that stand there

abbrev Among : Atom → List Atom → Type 0
Among a [] = ⊥
Among a (b ∷ bs) = (b ≡ a) ⊎ Among a bs

among-left : (a : Atom) (xs ys : List Atom) → Among a xs → Among a (xs ++ ys)
among-left a [] ys h = absurd h
among-left a (x ∷ xs) ys h = elim h [ inl e ↦ inl e | inr r ↦ inr (among-left a xs ys r) ]

among-right : (a : Atom) (xs ys : List Atom) → Among a ys → Among a (xs ++ ys)
among-right a [] ys h = h
among-right a (x ∷ xs) ys h = inr (among-right a xs ys h)

among-either : (a : Atom) (xs ys : List Atom) → Among a (xs ++ ys) → Among a xs ⊎ Among a ys
among-either a [] ys h = inr h
among-either a (x ∷ xs) ys h = elim h [ inl e ↦ inl (inl e) | inr r ↦ elim (among-either a xs ys r) [ inl l ↦ inl (inr l) | inr k ↦ inr k ] ]

terms-in : (a : Atom) (ts : List Term) → InTerms a ts → Among a (map (λ (t : Term). t.atom) ts)
terms-in a [] h = h
terms-in a (t ∷ ts) h = elim h [ inl e ↦ inl e | inr r ↦ inr (terms-in a ts r) ]

terms-out : (a : Atom) (ts : List Term) → Among a (map (λ (t : Term). t.atom) ts) → InTerms a ts
terms-out a [] h = h
terms-out a (t ∷ ts) h = elim h [ inl e ↦ inl e | inr r ↦ inr (terms-out a ts r) ]

expr-in : (a : Atom) (e : Expr) → InExpr a e → Among a (expr_atoms e)
expr-in a (Sum terms) h = terms-in a terms h
expr-in a (Word code) h = h

expr-out : (a : Atom) (e : Expr) → Among a (expr_atoms e) → InExpr a e
expr-out a (Sum terms) h = terms-out a terms h
expr-out a (Word code) h = h

exprs-in : (a : Atom) (es : List Expr) → InExprs a es → Among a (flat_map expr_atoms es)
exprs-in a [] h = h
exprs-in a (e ∷ es) h =
    elim h [
      | inl l ↦ among-left a (expr_atoms e) (flat_map expr_atoms es) (expr-in a e l)
      | inr r ↦ among-right a (expr_atoms e) (flat_map expr_atoms es) (exprs-in a es r)
    ]

exprs-out : (a : Atom) (es : List Expr) → Among a (flat_map expr_atoms es) → InExprs a es
exprs-out a [] h = h
exprs-out a (e ∷ es) h =
    elim (among-either a (expr_atoms e) (flat_map expr_atoms es) h) [ inl l ↦ inl (expr-out a e l) | inr r ↦ inr (exprs-out a es r) ]

pair-in : (a : Atom) (l r : Expr) → InExprs a (l ∷ r ∷ []) → Among a (expr_atoms l ++ expr_atoms r)
pair-in a l r h =
    elim h [
      | inl left ↦ among-left a (expr_atoms l) (expr_atoms r) (expr-in a l left)
      | inr rest ↦ elim rest [ inl right ↦ among-right a (expr_atoms l) (expr_atoms r) (expr-in a r right) | inr none ↦ absurd none ]
    ]

pair-out : (a : Atom) (l r : Expr) → Among a (expr_atoms l ++ expr_atoms r) → InExprs a (l ∷ r ∷ [])
pair-out a l r h = elim (among-either a (expr_atoms l) (expr_atoms r) h) [ inl left ↦ inl (expr-out a l left) | inr right ↦ inr (inl (expr-out a r right)) ]

mutual
  cond-in : (a : Atom) (c : Cond) → InCond a c → Among a (cond_atoms c)
  cond-in a (Compare op l r) h = pair-in a l r h
  cond-in a (Between x lo hi) h =
      elim h [
        | inl l ↦ among-left a (expr_atoms x) (expr_atoms lo ++ expr_atoms hi) (expr-in a x l)
        | inr r ↦ among-right a (expr_atoms x) (expr_atoms lo ++ expr_atoms hi) (pair-in a lo hi r)
      ]
  cond-in a (Within x items) h =
      elim h [
        | inl l ↦ among-left a (expr_atoms x) (flat_map expr_atoms items) (expr-in a x l)
        | inr r ↦ among-right a (expr_atoms x) (flat_map expr_atoms items) (exprs-in a items r)
      ]
  cond-in a (All' shape parts) h = parts-in a parts h
  cond-in a (Any' shape parts) h = parts-in a parts h
  cond-in a (Not' shape part) h = parts-in a part h

  parts-in : (a : Atom) {m : _} (parts : Row_of-Cond m) → InConds a parts → Among a (parts_atoms parts)
  parts-in a end_of-Cond h = h
  parts-in a (more_of-Cond part rest) h =
      elim h [
        | inl l ↦ among-left a (cond_atoms part) (parts_atoms rest) (cond-in a part l)
        | inr r ↦ among-right a (cond_atoms part) (parts_atoms rest) (parts-in a rest r)
      ]

mutual
  cond-out : (a : Atom) (c : Cond) → Among a (cond_atoms c) → InCond a c
  cond-out a (Compare op l r) h = pair-out a l r h
  cond-out a (Between x lo hi) h =
      elim (among-either a (expr_atoms x) (expr_atoms lo ++ expr_atoms hi) h) [ inl l ↦ inl (expr-out a x l) | inr r ↦ inr (pair-out a lo hi r) ]
  cond-out a (Within x items) h =
      elim (among-either a (expr_atoms x) (flat_map expr_atoms items) h) [ inl l ↦ inl (expr-out a x l) | inr r ↦ inr (exprs-out a items r) ]
  cond-out a (All' shape parts) h = parts-out a parts h
  cond-out a (Any' shape parts) h = parts-out a parts h
  cond-out a (Not' shape part) h = parts-out a part h

  parts-out : (a : Atom) {m : _} (parts : Row_of-Cond m) → Among a (parts_atoms parts) → InConds a parts
  parts-out a end_of-Cond h = h
  parts-out a (more_of-Cond part rest) h =
      elim (among-either a (cond_atoms part) (parts_atoms rest) h) [ inl l ↦ inl (cond-out a part l) | inr r ↦ inr (parts-out a rest r) ]

where-in : (a : Atom) (w : Option Cond) → InWhere a w → Among a (where_atoms w)
where-in a None h = h
where-in a (Some c) h = cond-in a c h

where-out : (a : Atom) (w : Option Cond) → Among a (where_atoms w) → InWhere a w
where-out a None h = h
where-out a (Some c) h = cond-out a c h

-- ---- atoms that a parameter touches

module _ (k : ℕ) (reach : Place → Bool) where
  -- the parameter, or a column that it reached
  abbrev Touched : Atom → Type 0
  Touched a = (a ≡ Param k) ⊎ ((d : ℕ) × (a ≡ Column d) × (reach (At d) ≡ true))

  reached-atom : (atoms : List Atom) → list_any (is_reached reach) atoms ≡ true → (a : Atom) × Touched a × Among a atoms
  reached-atom [] e = absurd (false≢true e)
  reached-atom (Column d ∷ atoms) e =
      elim (or-either (reach (At d)) (list_any (is_reached reach) atoms) e) [
        | inl h ↦ (Column d, inr (d, refl, h), inl refl)
        | inr h ↦ let rest = reached-atom atoms h in (rest.0, rest.1, inr rest.2)
      ]
  reached-atom (Param j ∷ atoms) e = let rest = reached-atom atoms e in (rest.0, rest.1, inr rest.2)

  named-atom : (atoms : List Atom) → list_any (is_param k) atoms ≡ true → (a : Atom) × Touched a × Among a atoms
  named-atom [] e = absurd (false≢true e)
  named-atom (Column d ∷ atoms) e = let rest = named-atom atoms e in (rest.0, rest.1, inr rest.2)
  named-atom (Param j ∷ atoms) e =
      elim (or-either (k == j) (list_any (is_param k) atoms) e) [
        | inl h ↦ let same : j ≡ k = grind (arith, nat_tests) in (Param j, inl (ap (λ n. Param n) same), inl refl)
        | inr h ↦ let rest = named-atom atoms h in (rest.0, rest.1, inr rest.2)
      ]

  touched : (atoms : List Atom) → touches k reach atoms ≡ true → (a : Atom) × Touched a × Among a atoms
  touched atoms e =
      elim (or-either (list_any (is_reached reach) atoms) (list_any (is_param k) atoms) e) [ inl h ↦ reached-atom atoms h | inr h ↦ named-atom atoms h ]

  -- an atom that is found is the one, or is passed over
  among-param : (atoms : List Atom) → Among (Param k) atoms → list_any (is_param k) atoms ≡ true
  among-param [] h = absurd h
  among-param (a ∷ atoms) h =
      elim h [
        | inl e ↦ or-left (is_param k a) (list_any (is_param k) atoms) (let self : (k == k) ≡ true = grind (arith, nat_tests) in ap (is_param k) e ∙ self)
        | inr r ↦ or-right (is_param k a) (list_any (is_param k) atoms) (among-param atoms r)
      ]

  among-column : (d : ℕ) → reach (At d) ≡ true → (atoms : List Atom) → Among (Column d) atoms → list_any (is_reached reach) atoms ≡ true
  among-column d h [] named = absurd named
  among-column d h (a ∷ atoms) named =
      elim named [
        | inl e ↦ or-left (is_reached reach a) (list_any (is_reached reach) atoms) (ap (is_reached reach) e ∙ h)
        | inr r ↦ or-right (is_reached reach a) (list_any (is_reached reach) atoms) (among-column d h atoms r)
      ]

  touching : (a : Atom) (atoms : List Atom) → Touched a → Among a atoms → touches k reach atoms ≡ true
  touching a atoms t named =
      elim t [
        | inl e ↦ or-right (list_any (is_reached reach) atoms) (list_any (is_param k) atoms) (among-param atoms (subst (λ b. Among b atoms) e named))
        | inr h ↦ or-left (list_any (is_reached reach) atoms) (list_any (is_param k) atoms) (among-column h.0 h.2 atoms (subst (λ b. Among b atoms) h.1 named))
      ]

  -- ---- UPDATE

  self-column : (c : ℕ) → (c == c) ≡ true
  self-column c = grind (arith, nat_tests)

  -- what a column is fed by, from the assignments
  abbrev Fed : Atom → List (ℕ × Expr) → Option Cond → ℕ → Type 0
  Fed a sets w c = InSet a sets c ⊎ (Sets sets c × InWhere a w)

  fed-by : (sets : List (ℕ × Expr)) (w : Option Cond) (c : ℕ) → list_any (carries k reach (where_atoms w) (At c)) sets ≡ true → (a : Atom) × Touched a × Fed a sets w c
  fed-by [] w c e = absurd (false≢true e)
  fed-by (s ∷ sets) w c e =
      elim (or-either (carries k reach (where_atoms w) (At c) s) (list_any (carries k reach (where_atoms w) (At c)) sets) e) [
        | inl h ↦
            let both = and-both (c == s.0) (touches k reach (expr_atoms s.1 ++ where_atoms w)) h in
            let is : (c == s.0) ≡ true = both.0 in
            let same : s.0 ≡ c = grind (arith, nat_tests) in
            let found = touched (expr_atoms s.1 ++ where_atoms w) both.1 in (
              found.0,
              found.1,
              elim (among-either found.0 (expr_atoms s.1) (where_atoms w) found.2) [
                | inl l ↦ inl (inl (same, expr-out found.0 s.1 l))
                | inr r ↦ inr (inl same, where-out found.0 w r)
              ],
            )
        | inr h ↦
            let rest = fed-by sets w c h in
            (rest.0, rest.1, elim rest.2 [ inl l ↦ inl (inr l) | inr r ↦ inr (inr r.0, r.1) ])
      ]

  feeding-set : (a : Atom) → Touched a → (sets : List (ℕ × Expr)) (w : Option Cond) (c : ℕ) → InSet a sets c → list_any (carries k reach (where_atoms w) (At c)) sets ≡ true
  feeding-set a t [] w c h = absurd h
  feeding-set a t (s ∷ sets) w c h =
      elim h [
        | inl l ↦
            or-left (carries k reach (where_atoms w) (At c) s) (list_any (carries k reach (where_atoms w) (At c)) sets)
            (and-join (c == s.0) (touches k reach (expr_atoms s.1 ++ where_atoms w)) (subst (λ d. (c == d) ≡ true) (sym l.0) (self-column c))
            (touching a (expr_atoms s.1 ++ where_atoms w) t (among-left a (expr_atoms s.1) (where_atoms w) (expr-in a s.1 l.1))))
        | inr r ↦ or-right (carries k reach (where_atoms w) (At c) s) (list_any (carries k reach (where_atoms w) (At c)) sets) (feeding-set a t sets w c r)
      ]

  feeding-where : (a : Atom) → Touched a → (sets : List (ℕ × Expr)) (w : Option Cond) (c : ℕ) → Sets sets c → InWhere a w
      → list_any (carries k reach (where_atoms w) (At c)) sets ≡ true
  feeding-where a t [] w c h named = absurd h
  feeding-where a t (s ∷ sets) w c h named =
      elim h [
        | inl same ↦
            or-left (carries k reach (where_atoms w) (At c) s) (list_any (carries k reach (where_atoms w) (At c)) sets)
            (and-join (c == s.0) (touches k reach (expr_atoms s.1 ++ where_atoms w)) (subst (λ d. (c == d) ≡ true) (sym same) (self-column c))
            (touching a (expr_atoms s.1 ++ where_atoms w) t (among-right a (expr_atoms s.1) (where_atoms w) (where-in a w named))))
        | inr r ↦ or-right (carries k reach (where_atoms w) (At c) s) (list_any (carries k reach (where_atoms w) (At c)) sets) (feeding-where a t sets w c r named)
      ]

  feeding : (a : Atom) → Touched a → (sets : List (ℕ × Expr)) (w : Option Cond) (c : ℕ) → Fed a sets w c → list_any (carries k reach (where_atoms w) (At c)) sets ≡ true
  feeding a t sets w c fed = elim fed [ inl l ↦ feeding-set a t sets w c l | inr r ↦ feeding-where a t sets w c r.0 r.1 ]

  not-carried-live : (filter : List Atom) (sets : List (ℕ × Expr)) → list_any (carries k reach filter Live) sets ≡ false
  not-carried-live filter [] = refl
  not-carried-live filter (s ∷ sets) = not-carried-live filter sets

  not-cleared-live : (sets : List (ℕ × Expr)) (w : Option Cond) → is_cleared sets w Live ≡ false
  not-cleared-live [] None = refl
  not-cleared-live (s ∷ sets) None = not-cleared-live sets None
  not-cleared-live sets (Some c) = refl

  sets-in : (sets : List (ℕ × Expr)) (c : ℕ) → Sets sets c → list_any (sets_place (At c)) sets ≡ true
  sets-in [] c h = absurd h
  sets-in (s ∷ sets) c h =
      elim h [
        | inl same ↦ or-left (c == s.0) (list_any (sets_place (At c)) sets) (subst (λ d. (c == d) ≡ true) (sym same) (self-column c))
        | inr r ↦ or-right (c == s.0) (list_any (sets_place (At c)) sets) (sets-in sets c r)
      ]

  sets-out : (sets : List (ℕ × Expr)) (c : ℕ) → list_any (sets_place (At c)) sets ≡ true → Sets sets c
  sets-out [] c e = absurd (false≢true e)
  sets-out (s ∷ sets) c e =
      elim (or-either (c == s.0) (list_any (sets_place (At c)) sets) e) [
        | inl is ↦ let same : s.0 ≡ c = grind (arith, nat_tests) in inl same
        | inr r ↦ inr (sets-out sets c r)
      ]

  kept-in : (sets : List (ℕ × Expr)) (w : Option Cond) (c : ℕ) → is_cleared sets w (At c) ≡ false → Overwrites (Update sets w) (At c) → ⊥
  kept-in sets None c not_cleared over = false≢true (sym not_cleared ∙ sets-in sets c over)
  kept-in sets (Some cond) c not_cleared over = over

  kept-out : (sets : List (ℕ × Expr)) (w : Option Cond) (c : ℕ) → (Overwrites (Update sets w) (At c) → ⊥) → is_cleared sets w (At c) ≡ false
  kept-out sets None c stays = never (list_any (sets_place (At c)) sets) (λ e. stays (sets-out sets c e))
  kept-out sets (Some cond) c stays = refl

  live-stays : (sets : List (ℕ × Expr)) (w : Option Cond) → Overwrites (Update sets w) Live → ⊥
  live-stays sets None over = over
  live-stays sets (Some cond) over = over

  -- ---- the law of one statement

  -- the parameter enters there, or an arrow leads there from where it is
  abbrev Comes : Statement → Place → Type 0
  Comes s next = Enters k s next ⊎ ((from : Place) × (reach from ≡ true) × Arrow from s next)

  comes-by : (s : Statement) (next : Place) (a : Atom) → Touched a → Feeds a s next → Enters k s next ≡ Feeds (Param k) s next → Comes s next
  comes-by s next a t feeds enters =
      elim t [
        | inl e ↦ inl (subst (λ (X : Type 0). X) (sym enters) (subst (λ b. Feeds b s next) e feeds))
        | inr h ↦ inr (At h.0, h.2, inr (subst (λ b. Feeds b s next) h.1 feeds))
      ]

  inserted-in : (tuples : List (List Expr)) (columns : List ℕ) (c : ℕ) → has_item k (place_of columns c) tuples ≡ true → Inserts k columns tuples c
  inserted-in [] columns c e = absurd (false≢true e)
  inserted-in (tuple ∷ tuples) columns c e =
      let item = slice_index_or tuple (place_of columns c) (Word 0) in
      elim (or-either (list_any (is_param k) (expr_atoms item)) (has_item k (place_of columns c) tuples) e) [
        | inl h ↦ inl (expr-out (Param k) item (param-among (expr_atoms item) h))
        | inr r ↦ inr (inserted-in tuples columns c r)
      ]
    where
      param-among : (atoms : List Atom) → list_any (is_param k) atoms ≡ true → Among (Param k) atoms
      param-among [] e = absurd (false≢true e)
      param-among (Column d ∷ atoms) e = inr (param-among atoms e)
      param-among (Param j ∷ atoms) e =
          elim (or-either (k == j) (list_any (is_param k) atoms) e) [
            | inl h ↦ let same : j ≡ k = grind (arith, nat_tests) in inl (ap (λ n. Param n) same)
            | inr h ↦ inr (param-among atoms h)
          ]

  inserted-out : (tuples : List (List Expr)) (columns : List ℕ) (c : ℕ) → Inserts k columns tuples c → has_item k (place_of columns c) tuples ≡ true
  inserted-out [] columns c h = absurd h
  inserted-out (tuple ∷ tuples) columns c h =
      let item = slice_index_or tuple (place_of columns c) (Word 0) in
      elim h [
        | inl l ↦ or-left (list_any (is_param k) (expr_atoms item)) (has_item k (place_of columns c) tuples) (among-param (expr_atoms item) (expr-in (Param k) item l))
        | inr r ↦ or-right (list_any (is_param k) (expr_atoms item)) (has_item k (place_of columns c) tuples) (inserted-out tuples columns c r)
      ]

  pub flows-in : (s : Statement) (next : Place) → flows k s reach next ≡ true → Comes s next
  flows-in (Update sets w) Live e =
      elim (or-either (reach Live && not (is_cleared sets w Live)) (list_any (carries k reach (where_atoms w) Live) sets) e) [
        | inl h ↦ inr (Live, (and-both (reach Live) (not (is_cleared sets w Live)) h).0, inl (refl, live-stays sets w))
        | inr h ↦ absurd (false≢true (sym (not-carried-live (where_atoms w) sets) ∙ h))
      ]
  flows-in (Update sets w) (At c) e =
      elim (or-either (reach (At c) && not (is_cleared sets w (At c))) (list_any (carries k reach (where_atoms w) (At c)) sets) e) [
        | inl h ↦
            let both = and-both (reach (At c)) (not (is_cleared sets w (At c))) h in
            inr (At c, both.0, inl (refl, kept-in sets w c (not-true (is_cleared sets w (At c)) both.1)))
        | inr h ↦ let found = fed-by sets w c h in comes-by (Update sets w) (At c) found.0 found.1 found.2 refl
      ]
  flows-in (Delete w) Live e =
      elim (or-either (reach Live) (touches k reach (where_atoms w)) e) [
        | inl h ↦ inr (Live, h, inl (refl, λ over. over))
        | inr h ↦ let found = touched (where_atoms w) h in comes-by (Delete w) Live found.0 found.1 (where-out found.0 w found.2) refl
      ]
  flows-in (Delete w) (At c) e =
      elim (or-either (reach (At c)) false e) [
        | inl h ↦ inr (At c, h, inl (refl, λ over. over))
        | inr h ↦ absurd (false≢true h)
      ]
  flows-in (Insert columns tuples) Live e =
      elim (or-either (reach Live) false e) [
        | inl h ↦ inr (Live, h, inl (refl, λ over. over))
        | inr h ↦ absurd (false≢true h)
      ]
  flows-in (Insert columns tuples) (At c) e =
      elim (or-either (reach (At c)) (has_item k (place_of columns c) tuples) e) [
        | inl h ↦ inr (At c, h, inl (refl, λ over. over))
        | inr h ↦ inl (inserted-in tuples columns c h)
      ]

  kept-flows : (s : Statement) (next : Place) → reach next ≡ true → (Overwrites s next → ⊥) → flows k s reach next ≡ true
  kept-flows (Update sets w) Live h stays =
      or-left (reach Live && not (is_cleared sets w Live)) (list_any (carries k reach (where_atoms w) Live) sets)
      (and-join (reach Live) (not (is_cleared sets w Live)) h (not-false (is_cleared sets w Live) (not-cleared-live sets w)))
  kept-flows (Update sets w) (At c) h stays =
      or-left (reach (At c) && not (is_cleared sets w (At c))) (list_any (carries k reach (where_atoms w) (At c)) sets)
      (and-join (reach (At c)) (not (is_cleared sets w (At c))) h (not-false (is_cleared sets w (At c)) (kept-out sets w c stays)))
  kept-flows (Delete w) Live h stays = or-left (reach Live) (touches k reach (where_atoms w)) h
  kept-flows (Delete w) (At c) h stays = or-left (reach (At c)) false h
  kept-flows (Insert columns tuples) Live h stays = or-left (reach Live) false h
  kept-flows (Insert columns tuples) (At c) h stays = or-left (reach (At c)) (has_item k (place_of columns c) tuples) h

  fed-flows : (s : Statement) (next : Place) (a : Atom) → Touched a → Feeds a s next → flows k s reach next ≡ true
  fed-flows (Update sets w) Live a t feeds = absurd feeds
  fed-flows (Update sets w) (At c) a t feeds =
      or-right (reach (At c) && not (is_cleared sets w (At c))) (list_any (carries k reach (where_atoms w) (At c)) sets) (feeding a t sets w c feeds)
  fed-flows (Delete w) Live a t feeds = or-right (reach Live) (touches k reach (where_atoms w)) (touching a (where_atoms w) t (where-in a w feeds))
  fed-flows (Delete w) (At c) a t feeds = absurd feeds
  fed-flows (Insert columns tuples) next a t feeds = absurd feeds

  entered-flows : (s : Statement) (next : Place) → Enters k s next → flows k s reach next ≡ true
  entered-flows (Update sets w) next enters = fed-flows (Update sets w) next (Param k) (inl refl) enters
  entered-flows (Delete w) next enters = fed-flows (Delete w) next (Param k) (inl refl) enters
  entered-flows (Insert columns tuples) Live enters = absurd enters
  entered-flows (Insert columns tuples) (At c) enters = or-right (reach (At c)) (has_item k (place_of columns c) tuples) (inserted-out tuples columns c enters)

  carried-flows : (s : Statement) (from next : Place) → reach from ≡ true → FeedsFrom from s next → flows k s reach next ≡ true
  carried-flows s Live next h feeds = absurd feeds
  carried-flows s (At d) next h feeds = fed-flows s next (Column d) (inr (d, refl, h)) feeds

  pub flows-out : (s : Statement) (next : Place) → Comes s next → flows k s reach next ≡ true
  flows-out s next comes =
      elim comes [
        | inl enters ↦ entered-flows s next enters
        | inr h ↦ elim h.2 [
          | inl stays ↦ kept-flows s next (subst (λ p. reach p ≡ true) stays.0 h.1) stays.1
          | inr feeds ↦ carried-flows s h.0 next h.1 feeds
        ]
      ]
