-- The tree of a board, from what it keeps.
use Rattle.std.specs.Prelude.{◌≡◌, ℕ, suc, ◌<◌, List, [], ◌∷◌, map, length}
use Rattle.std.specs.List.{AllByRecursion}
use Rattle.std.proofs.Common.{arith, refl, sym, ap, ◌∙◌, subst, get_or}
use Rattle.std.proofs.lemmas.List.{length-map}
use Rattle.qf_point.specs.Points.{HasNoEmpty}
use Rattle.qf_tree.specs.declared.tree.Node.{Node}
use Rattle.qf_board.specs.declared.board.Board.TheInside.{Inside}
use Rattle.qf_board.specs.Boards.{Place, Box, tree_node, tree_of}
use Rattle.qf_board.specs.Numbered.{Numbered, numbered, place_of, pair_of}
use Rattle.qf_board.specs.Kept.{state_of, IsKept}
use Rattle.qf_board.proofs.Keeps.{none, spot}

all_from : (P : Numbered → Type 0) (xs : List Numbered) → ((k : ℕ) → k < length xs → P (get_or xs k none)) → AllByRecursion P xs
all_from P [] f = tt
all_from P (x ∷ xs) f = (f 0 (omega arith), all_from P xs (λ k below. f (suc k) (omega arith)))

pub boxes_fit : (b : Inside) → IsKept b → AllByRecursion (λ (x : Numbered). (length x.1.region ≡ length b.olds) × HasNoEmpty x.1.region) (numbered b.links.items)
boxes_fit b kept =
    all_from (λ (x : Numbered). (length x.1.region ≡ length b.olds) × HasNoEmpty x.1.region) (numbered b.links.items) (λ k below.
    let many = length-map (numbered b.links.items) place_of in
    let here = spot b k (get_or (numbered b.links.items) k none).0 kept (omega arith) refl in
    subst (λ (x : Numbered). (length x.1.region ≡ length b.olds) × HasNoEmpty x.1.region) (sym here.node) (here.fits.same ∙ sym kept.sound.priced, here.fits.spans))

map_both : (f : Box × Place → Node) (xs : List Numbered) → map f (map pair_of xs) ≡ map (λ (x : Numbered). f (pair_of x)) xs
map_both f [] = refl
map_both f (x ∷ xs) = ap (λ (ns : List Node). f (pair_of x) ∷ ns) (map_both f xs)

pub tree_is : (b : Inside) → IsKept b → map (λ (x : Numbered). tree_node b.olds b.best.best (pair_of x)) (numbered b.links.items) ≡ tree_of (state_of b)
tree_is b kept = sym (ap (map (tree_node b.olds b.best.best)) kept.boxes ∙ map_both (tree_node b.olds b.best.best) (numbered b.links.items))
