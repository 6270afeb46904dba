-- A program that knows more texts is well typed still.
use Rattle.std.proofs.Common.{◌≡◌, sym, subst, ℕ, ◌+◌, ◌<◌, ◌≤◌, ◌^◌, ◌⊎◌, inl, inr, List, [], ◌∷◌, length, map, slice_get, Result, Ok, Err, OnOk, OnErr, arith}
use Rattle.std.specs.declared.option.Option.{Option}
use Rattle.std.specs.declared.option.Option.TheVariants.{Some, None}
use Rattle.qf_base.specs.declared.memory.NoMemory.{NoMemory}
use Rattle.qf_ir.specs.declared.ast.Atom.{Atom}
use Rattle.qf_ir.specs.declared.ast.Atom.TheVariants.{Column, Param}
use Rattle.qf_ir.specs.declared.ast.Term.{Term}
use Rattle.qf_ir.specs.declared.ast.Expr.{Expr}
use Rattle.qf_ir.specs.declared.ast.Expr.TheVariants.{Sum, Word}
use Rattle.qf_ir.specs.declared.ast.Cond.{Cond, Row_of-Cond, end_of-Cond, more_of-Cond}
use Rattle.qf_ir.specs.declared.ast.Cond.TheVariants.{Compare, Between, Within, All', Any', Not'}
use Rattle.qf_ir.specs.declared.ast.Statement.{Statement}
use Rattle.qf_ir.specs.declared.ast.Statement.TheVariants.{Update, Delete, Insert}
use Rattle.qf_ir.specs.declared.table.Column.{Column as Column'}
use Rattle.qf_ir.specs.declared.table.ColumnKind.{ColumnKind}
use Rattle.qf_ir.specs.declared.table.ColumnKind.TheVariants as kind
use Rattle.qf_ir.specs.Replay.{place_of}
use Rattle.qf_ir.specs.Typed.{Scope, IsNumber, IsTextColumn, AreNumbers, IsText, IsInt, HasKind, AllOfKind, IsTyped, AreTyped, WhereTyped, Fits, SetsTyped, ItemFits, ColumnsFilled, TuplesTyped, StatementTyped, StatementsTyped}
use Rattle.qf_ir.specs.Texts.{with_text}
use Rattle.qf_ir.specs.Plan.{Plan, IsSound}
use Rattle.qf_ir.proofs.Codes.{distinct-with}
use Rattle.qf_ir.proofs.Joining.{length-with, length-not-less}

module _ (kinds : List ColumnKind) (params few many : ℕ) (le : few ≤ many) where
  abbrev less : Scope
  less = record { kinds = kinds; params = params; texts = few }

  abbrev more : Scope
  more = record { kinds = kinds; params = params; texts = many }

  more-number : (a : Atom) → IsNumber less a → IsNumber more a
  more-number (Column c) h = h
  more-number (Param k) h = h

  more-column : (a : Atom) → IsTextColumn less a → IsTextColumn more a
  more-column (Column c) h = h
  more-column (Param k) h = h

  more-numbers : (ts : List Term) → AreNumbers less ts → AreNumbers more ts
  more-numbers [] h = tt
  more-numbers (t ∷ ts) h = (more-number t.atom h.0, more-numbers ts h.1)

  more-text : (e : Expr) → IsText less e → IsText more e
  more-text (Word code) h = omega (arith, h)
  more-text (Sum []) h = h
  more-text (Sum (t ∷ [])) h = (h.0, more-column t.atom h.1)
  more-text (Sum (t ∷ u ∷ ts)) h = h

  more-int : (e : Expr) → IsInt less e → IsInt more e
  more-int (Word code) h = h
  more-int (Sum []) h = h
  more-int (Sum (t ∷ ts)) h = more-numbers (t ∷ ts) h

  more-kind : (k : ColumnKind) (e : Expr) → HasKind less k e → HasKind more k e
  more-kind kind.Int e h = more-int e h
  more-kind kind.Text e h = more-text e h

  more-kinds : (k : ColumnKind) (es : List Expr) → AllOfKind less k es → AllOfKind more k es
  more-kinds k [] h = tt
  more-kinds k (e ∷ es) h = (more-kind k e h.0, more-kinds k es h.1)

  mutual
    more-typed : (cond : Cond) → IsTyped less cond → IsTyped more cond
    more-typed (Compare op l r) h = elim h [ inl e ↦ inl (more-kinds kind.Int (l ∷ r ∷ []) e) | inr e ↦ inr (e.0, more-kinds kind.Text (l ∷ r ∷ []) e.1) ]
    more-typed (Between x lo hi) h = more-kinds kind.Int (x ∷ lo ∷ hi ∷ []) h
    more-typed (Within x items) h = elim h [ inl e ↦ inl (more-kinds kind.Int (x ∷ items) e) | inr e ↦ inr (more-kinds kind.Text (x ∷ items) e) ]
    more-typed (All' shape parts) h = more-parts parts h
    more-typed (Any' shape parts) h = more-parts parts h
    more-typed (Not' shape part) h = more-parts part h

    more-parts : {m : _} (parts : Row_of-Cond m) → AreTyped less parts → AreTyped more parts
    more-parts end_of-Cond h = tt
    more-parts (more_of-Cond part rest) h = (more-typed part h.0, more-parts rest h.1)

  more-where : (where_ : Option Cond) → WhereTyped less where_ → WhereTyped more where_
  more-where None h = tt
  more-where (Some cond) h = more-typed cond h

  more-fits : (o : Option ColumnKind) (e : Expr) → Fits less o e → Fits more o e
  more-fits None e h = h
  more-fits (Some k) e h = more-kind k e h

  more-sets : (sets : List (ℕ × Expr)) → SetsTyped less sets → SetsTyped more sets
  more-sets [] h = tt
  more-sets (s ∷ sets) h = (more-fits (slice_get kinds s.0) s.1 h.0, h.1, more-sets sets h.2)

  more-item : (tuple : List Expr) (place : ℕ) (k : ColumnKind) → ItemFits less tuple place k → ItemFits more tuple place k
  more-item tuple place k h = (h.0, h.1, h.2, more-kind k h.0 h.3)

  more-filled : (columns : List ℕ) (tuple : List Expr) (column : ℕ) (ks : List ColumnKind) → ColumnsFilled less columns tuple column ks → ColumnsFilled more columns tuple column ks
  more-filled columns tuple column [] h = h
  more-filled columns tuple column (k ∷ ks) h = (more-item tuple (place_of columns column) k h.0, more-filled columns tuple (column + 1) ks h.1)

  more-tuples : (columns : List ℕ) (tuples : List (List Expr)) → TuplesTyped less columns tuples → TuplesTyped more columns tuples
  more-tuples columns [] h = tt
  more-tuples columns (tuple ∷ tuples) h = (more-filled columns tuple 0 kinds h.0, more-tuples columns tuples h.1)

  more-statement : (s : Statement) → StatementTyped less s → StatementTyped more s
  more-statement (Update sets where_) h = (more-sets sets h.0, more-where where_ h.1)
  more-statement (Delete where_) h = more-where where_ h
  more-statement (Insert columns tuples) h = more-tuples columns tuples h

  pub more-statements : (ss : List Statement) → StatementsTyped less ss → StatementsTyped more ss
  more-statements [] h = tt
  more-statements (s ∷ ss) h = (more-statement s h.0, more-statements ss h.1)

-- the texts after a call that may have added one
pub texts-after : (result : Result ℕ NoMemory) (old new : List (List ℕ)) (text : List ℕ) → OnOk result (new ≡ with_text old text) → OnErr result (new ≡ old)
    → (new ≡ old) ⊎ (new ≡ with_text old text)
texts-after (Ok code) old new text ok err = inr ok
texts-after (Err fault) old new text ok err = inl err

abbrev with_texts_of : Plan → List (List ℕ) → Plan
with_texts_of plan texts =
    record { columns = plan.columns; statements = plan.statements; olds = plan.olds; texts = texts; starts = plan.starts; inserted = plan.inserted }

sound-with : (plan : Plan) (text : List ℕ) → IsSound plan → length plan.texts + 1 < 2 ^ 32 → IsSound (with_texts_of plan (with_text plan.texts text))
sound-with plan text sound room = record {
  typed = more-statements (map (λ (c : Column'). c.kind) plan.columns) (length plan.olds) (length plan.texts) (length (with_text plan.texts text)) (length-not-less plan.texts text) plan.statements sound.typed;
  lists = sound.lists;
  inserted = sound.inserted;
  few_columns = sound.few_columns;
  few_rows = sound.few_rows;
  few_statements = sound.few_statements;
  few_params = sound.few_params;
  names = sound.names;
  texts = distinct-with plan.texts text sound.texts;
  few_texts = let h = length-with plan.texts text in omega (arith, h, room);
  small_olds = sound.small_olds;
  in_order = sound.in_order;
  made = sound.made;
  few_terms = sound.few_terms;
  few_comparisons = sound.few_comparisons;
}

pub sound-after : (plan : Plan) (text : List ℕ) (new : List (List ℕ)) → IsSound plan → length plan.texts + 1 < 2 ^ 32
    → (new ≡ plan.texts) ⊎ (new ≡ with_text plan.texts text) → IsSound (with_texts_of plan new)
sound-after plan text new sound room after =
    elim after [
      | inl same ↦ subst (λ (ts : List (List ℕ)). IsSound (with_texts_of plan ts)) (sym same) sound
      | inr added ↦ subst (λ (ts : List (List ℕ)). IsSound (with_texts_of plan ts)) (sym added) (sound-with plan text sound room)
    ]
