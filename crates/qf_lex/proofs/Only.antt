-- Bytes have one reading, or one first fault.
use Rattle.std.proofs.Common.{◌≡◌, ◌≢◌, ℕ, ◌+◌, ◌<◌, List, [], ◌∷◌, ◌++◌, length, refl, sym, ap, subst, ◌∙◌, arith, append_assoc, Option, Some, None, inl, inr, ◌⊎◌, Result, Ok, Err}
use Rattle.std.specs.Prelude.{IsUtf8, IfOk, IfErr, MatchResult}
use Rattle.std.specs.Str.{IsValidUpTo}
use Rattle.std.specs.List.{AllByRecursion}
use Rattle.std.proofs.lemmas.Bool.{cases_lt}
use Rattle.std.proofs.lemmas.List.{take_all, length-append}
use Rattle.qf_lex.specs.declared.bytes.Before.{Before}
use Rattle.qf_lex.specs.declared.bytes.Before.TheVariants as before
use Rattle.qf_lex.specs.declared.token.Token.{Token}
use Rattle.qf_lex.specs.declared.token.LexFault.{LexFault}
use Rattle.qf_lex.specs.declared.token.LexFault.TheVariants as fault
use Rattle.qf_lex.specs.Pieces.{Piece, number, string, text_of, spelling, Fits, Stand, then_before, before_after}
use Rattle.qf_lex.specs.Tokens.{tokens_from, IsSound, FaultIn, FaultOf, Unsound, Stuck, TokensOf, FirstFaultOf}
use Rattle.qf_lex.proofs.Cutting.{one_fits}
use Rattle.qf_lex.proofs.Scanning.{not_empty}

valid_same : (body : List ℕ) (m n : ℕ) → IsValidUpTo body m → IsValidUpTo body n → m < n → ⊥
valid_same body m n h k lt = h.longest n lt k.front

one_valid : (body : List ℕ) (m n : ℕ) → IsValidUpTo body m → IsValidUpTo body n → m ≡ n
one_valid body m n h k = elim (cases_lt m n) [
  | inl lt ↦ absurd (valid_same body m n h k lt)
  | inr le ↦ elim (cases_lt n m) [ inl lt ↦ absurd (valid_same body n m k h lt) | inr ge ↦ omega arith ]
]

fault_same : (at : ℕ) (p : Piece) (f g : LexFault) → FaultIn at p f → FaultIn at p g → f ≡ g
fault_same at (number minus ds) f g h k = h.1 ∙ sym k.1
fault_same at (string body) f g h k = h.2 ∙ ap (λ n. fault.BadByte (at + 1 + n)) (one_valid body h.0 k.0 h.1 k.1) ∙ sym k.2
fault_same at p f g h k = absurd h

sound_clash : (at : ℕ) (p : Piece) (f : LexFault) → IsSound p → FaultIn at p f → ⊥
sound_clash at (number minus ds) f s h = omega (arith, s, h.0)
sound_clash at (string body) f s h = h.1.longest (length body) h.1.short (subst IsUtf8 (sym (take_all (length body) body (omega arith))) s)
sound_clash at p f s h = h

-- how the pieces end
abbrev End : Before → ℕ → List ℕ → Option LexFault → Type 0
End b at after None = after ≡ []
End b at after (Some f) = Unsound b at after f ⊎ Stuck b at after f

fault_of_same : (at : ℕ) (xs : List ℕ) (f g : LexFault) → FaultOf at xs f → FaultOf at xs g → f ≡ g
fault_of_same at [] f g h k = absurd h
fault_of_same at (x ∷ xs) f g h k = h ∙ sym k

-- where a sound piece fits, the pieces do not end
no_end : (b : Before) (at : ℕ) (x : List ℕ) (r : Option LexFault) (q : Piece) (t : List ℕ) → End b at x r → x ≡ text_of q ++ t → Fits b q t → IsSound q → ⊥
no_end b at x None q t h e f s = omega (arith, ap length (sym h ∙ e), length-append (text_of q) t, not_empty b q t f)
no_end b at x (Some g) q t (inl u) e f s =
    let same = one_fits b u.piece q u.after t (sym u.parts ∙ e) u.fits f in
    sound_clash at q g s (subst (λ (p : Piece × List ℕ). FaultIn at p.0 g) same u.fault)
no_end b at x (Some g) q t (inr k) e f s = k.none q t e f

some_end : (b : Before) (at : ℕ) (x : List ℕ) (f g : LexFault) → End b at x (Some f) → End b at x (Some g) → f ≡ g
some_end b at x f g (inl u) (inl v) =
    let same = one_fits b u.piece v.piece u.after v.after (sym u.parts ∙ v.parts) u.fits v.fits in
    fault_same at v.piece f g (subst (λ (p : Piece × List ℕ). FaultIn at p.0 f) same u.fault) v.fault
some_end b at x f g (inl u) (inr k) = absurd (k.none u.piece u.after u.parts u.fits)
some_end b at x f g (inr k) (inl u) = absurd (k.none u.piece u.after u.parts u.fits)
some_end b at x f g (inr h) (inr k) = fault_of_same at x f g h.fault k.fault

empty_end : (b : Before) (at : ℕ) (f : LexFault) → End b at [] (Some f) → ⊥
empty_end b at f (inl u) = omega (arith, ap length u.parts, length-append (text_of u.piece) u.after, not_empty b u.piece u.after u.fits)
empty_end b at f (inr k) = k.fault

same_end : (b : Before) (at : ℕ) (x : List ℕ) (r s : Option LexFault) → End b at x r → End b at x s → r ≡ s
same_end b at x None None h k = refl
same_end b at x None (Some g) h k = absurd (empty_end b at g (subst (λ t. End b at t (Some g)) h k))
same_end b at x (Some f) None h k = absurd (empty_end b at f (subst (λ t. End b at t (Some f)) k h))
same_end b at x (Some f) (Some g) h k = ap (λ (e : LexFault). Some e) (some_end b at x f g h k)

one_way : (b : Before) (at : ℕ) (ps qs : List Piece) (x y : List ℕ) (r s : Option LexFault) → Stand b ps x → Stand b qs y → AllByRecursion IsSound ps → AllByRecursion IsSound qs
    → spelling ps ++ x ≡ spelling qs ++ y → End (before_after b ps) (at + length (spelling ps)) x r → End (before_after b qs) (at + length (spelling qs)) y s → (ps ≡ qs) × (r ≡ s)
one_way b at [] [] x y r s sp sq up uq e h k = (refl, same_end b (at + 0) y r s (subst (λ t. End b (at + 0) t r) e h) k)
one_way b at [] (q ∷ qs) x y r s sp sq up uq e h k = absurd (no_end b (at + 0) x r q (spelling qs ++ y) h (e ∙ append_assoc (text_of q) (spelling qs) y) sq.0 uq.0)
one_way b at (p ∷ ps) [] x y r s sp sq up uq e h k = absurd (no_end b (at + 0) y s p (spelling ps ++ x) k (sym e ∙ append_assoc (text_of p) (spelling ps) x) sp.0 up.0)
one_way b at (p ∷ ps) (q ∷ qs) x y r s sp sq up uq e h k =
    let same = one_fits b p q (spelling ps ++ x) (spelling qs ++ y) (sym (append_assoc (text_of p) (spelling ps) x) ∙ e ∙ append_assoc (text_of q) (spelling qs) y) sp.0 sq.0 in
    let first : p ≡ q = ap (λ (z : Piece × List ℕ). z.0) same in
    let next : at + length (spelling (p ∷ ps)) ≡ (at + length (text_of p)) + length (spelling ps) = omega (arith, length-append (text_of p) (spelling ps)) in
    let other : at + length (spelling (q ∷ qs)) ≡ (at + length (text_of p)) + length (spelling qs) = omega (arith, length-append (text_of q) (spelling qs), ap (λ (z : Piece). length (text_of z)) first) in
    let rest = one_way (then_before b p) (at + length (text_of p)) ps qs x y r s sp.1 (subst (λ (z : Piece). Stand (then_before b z) qs y) (sym first) sq.1) up.1 uq.1 (ap (λ (z : Piece × List ℕ). z.1) same)
    (subst (λ n. End (before_after b (p ∷ ps)) n x r) next h) (subst (λ (z : Piece). End (before_after (then_before b z) qs) ((at + length (text_of p)) + length (spelling qs)) y s) (sym first) (subst (λ n. End (before_after b (q ∷ qs)) n y s) other k)) in
    (ap (λ (z : Piece). z ∷ ps) first ∙ ap (λ (zs : List Piece). q ∷ zs) rest.0, rest.1)

pub one_reading : (bytes : List ℕ) (ts us : List Token) → TokensOf bytes ts → TokensOf bytes us → ts ≡ us
one_reading bytes ts us h k =
    let same = one_way before.Start 0 h.pieces k.pieces [] [] None None h.begins.stand k.begins.stand h.sound k.sound (sym h.begins.whole ∙ k.begins.whole) refl refl in
    h.tokens_are ∙ ap (tokens_from 0) same.0 ∙ sym k.tokens_are

here_at : (b : Before) (ps : List Piece) (after : List ℕ) (f : LexFault) → Unsound b (length (spelling ps)) after f ⊎ Stuck b (length (spelling ps)) after f → End b (0 + length (spelling ps)) after (Some f)
here_at b ps after f h = subst (λ n. End b n after (Some f)) (omega arith) h

pub no_both : (bytes : List ℕ) (ts : List Token) (f : LexFault) → TokensOf bytes ts → FirstFaultOf bytes f → ⊥
no_both bytes ts f h k =
    let same = one_way before.Start 0 h.pieces k.pieces [] k.after None (Some f) h.begins.stand k.begins.stand h.sound k.sound (sym h.begins.whole ∙ k.begins.whole) refl (here_at (before_after before.Start k.pieces) k.pieces k.after f k.here) in
    let none : ◌≡◌ {A = Option LexFault} None (Some f) = same.1 in cc

pub one_fault : (bytes : List ℕ) (f g : LexFault) → FirstFaultOf bytes f → FirstFaultOf bytes g → f ≡ g
one_fault bytes f g h k =
    let same = one_way before.Start 0 h.pieces k.pieces h.after k.after (Some f) (Some g) h.begins.stand k.begins.stand h.sound k.sound (sym h.begins.whole ∙ k.begins.whole)
    (here_at (before_after before.Start h.pieces) h.pieces h.after f h.here) (here_at (before_after before.Start k.pieces) k.pieces k.after g k.here) in
    let some : ◌≡◌ {A = Option LexFault} (Some f) (Some g) = same.1 in cc

-- ---- for the public call

memory_or_not : (e : LexFault) → (e ≡ fault.NoMemory) ⊎ (e ≢ fault.NoMemory)
memory_or_not fault.NoMemory = inl refl
memory_or_not (fault.BadByte n) = inr (λ e. cc)
memory_or_not (fault.OpenString n) = inr (λ e. cc)
memory_or_not (fault.NumberTooBig n) = inr (λ e. cc)

pub only_tokens : (bytes : List ℕ) (r : Result (List Token) LexFault) → IfOk r (λ v. TokensOf bytes v) → IfErr r (λ e. e ≢ fault.NoMemory → FirstFaultOf bytes e)
    → (ts : List Token) → TokensOf bytes ts → MatchResult r (λ v. v ≡ ts) (λ e. e ≡ fault.NoMemory)
only_tokens bytes (Ok v) h k ts t = one_reading bytes v ts h t
only_tokens bytes (Err e) h k ts t = elim (memory_or_not e) [ inl m ↦ m | inr n ↦ absurd (no_both bytes ts e t (k n)) ]

pub only_fault : (bytes : List ℕ) (r : Result (List Token) LexFault) → IfOk r (λ v. TokensOf bytes v) → IfErr r (λ e. e ≢ fault.NoMemory → FirstFaultOf bytes e)
    → (f : LexFault) → FirstFaultOf bytes f → (r ≡ Err f) ⊎ (r ≡ Err fault.NoMemory)
only_fault bytes (Ok v) h k f t = absurd (no_both bytes v f h t)
only_fault bytes (Err e) h k f t = elim (memory_or_not e) [ inl m ↦ inr (ap (λ (x : LexFault). Err x) m) | inr n ↦ inl (ap (λ (x : LexFault). Err x) (one_fault bytes e f (k n) t)) ]
