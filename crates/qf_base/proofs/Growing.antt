-- Known bytes that grow piece by piece.
use Rattle.std.proofs.Common.{◌≡◌, ℕ, ◌+◌, ◌-◌, ◌≤◌, List, ◌++◌, take, drop, length, Option, Some, None, ap, ◌∙◌, append_assoc, arith}
use Rattle.std.proofs.lemmas.List.{drop-drop, length-drop}
use Rattle.std.proofs.Math.Seq.{take-add}
use Rattle.std.specs.Io.KnownBytes.{Appends}

pub appends_more : (old mid new : Option (List ℕ)) (a b : List ℕ) → Appends old mid a → Appends mid new b → Appends old new (a ++ b)
appends_more None mid new a b x y = tt
appends_more (Some xs) None new a b x y = absurd x
appends_more (Some xs) (Some ys) None a b x y = y
appends_more (Some xs) (Some ys) (Some zs) a b x y = y ∙ ap (λ (t : List ℕ). t ++ b) x ∙ append_assoc xs a b

-- a write takes n more bytes of the rest of a piece, of which k were written
pub written_on : (old mid new : Option (List ℕ)) (piece rest next : List ℕ) (k n : ℕ) → k ≤ length piece → rest ≡ drop k piece
    → Appends old mid (take k piece) → n ≤ length rest → Appends mid new (take n rest) → next ≡ drop n rest
    → (m : ℕ) × (m ≤ length piece) × (next ≡ drop m piece) × Appends old new (take m piece)
written_on old mid new piece rest next k n low is before most more then =
    let left : length rest ≡ length piece - k = ap length is ∙ length-drop k piece in (
      k + n,
      omega (arith, left, most, low),
      then ∙ ap (drop n) is ∙ drop-drop n k piece,
      rw (take-add k n piece, ← is) (appends_more old mid new (take k piece) (take n rest) before more),
    )
