-- A life that goes on, and one that is over.
use Rattle.std.specs.Prelude.{◌≡◌, ℕ, ◌+◌, ◌<◌, Bool, true, false, ◌&&◌, not, List, [], ◌∷◌, length, if◌then◌else◌}
use Rattle.std.proofs.Common.{refl, ap, sym, ◌∙◌, drop, get_or}
use Rattle.std.proofs.lemmas.List.{drop_more}
use Rattle.qf_base.specs.declared.names.RowName.{RowName}
use Rattle.qf_ir.specs.declared.ast.Statement.{Statement}
use Rattle.qf_ir.specs.declared.ast.Statement.TheVariants.{Update, Delete, Insert}
use Rattle.qf_ir.specs.declared.cell.Outcome.TheVariants.{Gone, There}
use Rattle.qf_ir.specs.Value.{Cells, Values, is_met}
use Rattle.qf_ir.specs.Life.{Moment, first_moment, next_moment, last_moment, ending, kept_row}
use Rattle.qf_replay.specs.Rows.{ended}

stays_dead : (point : Values) (statements : List Statement) (m : Moment) → m.live ≡ false → (last_moment point statements m).live ≡ false
stays_dead point [] m dead = dead
stays_dead point (Update sets where_ ∷ statements) m dead = stays_dead point statements (next_moment point (Update sets where_) m) dead
stays_dead point (Delete where_ ∷ statements) m dead =
    stays_dead point statements (next_moment point (Delete where_) m) (ap (λ live. live && not (is_met where_ m.cells point)) dead)
stays_dead point (Insert columns tuples ∷ statements) m dead = stays_dead point statements m dead

ending-dead : (m : Moment) → m.live ≡ false → ending m ≡ Gone
ending-dead m dead = ap (λ live. if live then There m.cells else Gone) dead

-- a statement that deletes the row
pub ends-here : (statements : List Statement) (i : ℕ) (s : Statement) (point : Values) (cells : Cells) (live : Bool) → i < length statements → s ≡ get_or statements i s
    → live ≡ (next_moment point s (first_moment cells)).live → live ≡ false → ending (last_moment point (drop i statements) (first_moment cells)) ≡ Gone
ends-here statements i s point cells live within stands is_live dies =
    let next = next_moment point s (first_moment cells) in
    ap (λ ss. ending (last_moment point ss (first_moment cells))) (drop_more statements i s within)
    ∙ ap (λ t. ending (last_moment point (drop (i + 1) statements) (next_moment point t (first_moment cells)))) (sym stands)
    ∙ ending-dead (last_moment point (drop (i + 1) statements) next) (stays_dead point (drop (i + 1) statements) next (sym is_live ∙ dies))

-- a row that is kept, where it lives
kept-same : (name : RowName) (live there : Bool) (cells other : Cells) → ended live cells ≡ ended there other
    → kept_row name (record { cells = other; live = there }) ≡ kept_row name (record { cells = cells; live = live })
kept-same name true true cells other is = let same : other ≡ cells = cc in ap (λ c. kept_row name (record { cells = c; live = true })) same
kept-same name true false cells other is = absurd (cc)
kept-same name false true cells other is = absurd (cc)
kept-same name false false cells other is = refl

pub kept-ended : (name : RowName) (live : Bool) (cells : Cells) (m : Moment) → ended live cells ≡ ending m
    → kept_row name m ≡ kept_row name (record { cells = cells; live = live })
kept-ended name live cells m is = kept-same name live m.live cells m.cells is
