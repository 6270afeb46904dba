-- The literals of the parameters stand one behind the other in the log.
use Rattle.std.proofs.Common.{◌≡◌, ℕ, zero, suc, ◌+◌, ◌<◌, ◌≤◌, Bool, true, false, cond, List, [], ◌∷◌, ◌++◌, length, map, filter, refl, sym, ap, subst, ◌∙◌, arith, Option, Some, None}
use Rattle.std.specs.Prelude.{ℤ, slice_range}
use Rattle.std.specs.List.{AllByRecursion}
use Rattle.std.proofs.lemmas.List.{length-append}
use Rattle.std.proofs.lemmas.List.Concat.{flat_map-append}
use Rattle.qf_lex.specs.declared.token.Token.{Token}
use Rattle.qf_lex.specs.declared.token.TokenKind.{TokenKind}
use Rattle.qf_lex.specs.declared.token.TokenKind.TheVariants as kind
use Rattle.qf_lex.specs.Tokens.{AreInOrder, StandsIn}
use Rattle.qf_grammar.specs.declared.lexeme.Key.{Key}
use Rattle.qf_grammar.specs.declared.tree.Factor.TheVariants as factor
use Rattle.qf_grammar.specs.declared.uses.Use.{Use}
use Rattle.qf_grammar.specs.declared.uses.Use.TheVariants as used
use Rattle.qf_grammar.specs.declared.judging.Stated.{Stated}
use Rattle.qf_log.specs.declared.places.ParamPlace.{ParamPlace}
use Rattle.qf_log.specs.Said.{said, said_by, word_said, key_of}
use Rattle.qf_log.specs.Lexed.{number_in, numbers_of}
use Rattle.qf_log.specs.Parameters.{alone, parameters_in, token_at, is_number, place_of, places_in, places_from}
use Rattle.qf_log.specs.Ready.{AreApart}
use Rattle.qf_log.proofs.Lists.{all_uses}
use Rattle.qf_log.proofs.Ordering.{used_places, GoOn, Ascends}

-- ---- tokens in order

later : (from next : ℕ) (ts : List Token) → from ≤ next → AreInOrder next ts → AreInOrder from ts
later from next [] le h = tt
later from next (t ∷ ts) le h = (omega (arith, h.0), h.1)

pub kept_order : (bytes : List ℕ) (p : Token → Bool) (from : ℕ) (ts : List Token) → AreInOrder from ts → AllByRecursion (StandsIn bytes) ts → AreInOrder from (filter p ts)
kept_order bytes p from [] o s = tt
kept_order bytes p from (t ∷ ts) o s = elim (p t) as (λ b. AreInOrder from (cond b (t ∷ filter p ts) (filter p ts))) [
  | true ↦ (o.0, kept_order bytes p t.end ts o.1 s.1)
  | false ↦ later from t.end (filter p ts) (omega (arith, o.0, s.0.some)) (kept_order bytes p t.end ts o.1 s.1)
]

starts_behind : (bytes : List ℕ) (from : ℕ) (ts : List Token) → AreInOrder from ts → AllByRecursion (StandsIn bytes) ts → (n : ℕ) → n < length ts → from ≤ (token_at ts n).start
starts_behind bytes from [] o s n lt = absurd (omega arith)
starts_behind bytes from (t ∷ ts) o s zero lt = o.0
starts_behind bytes from (t ∷ ts) o s (suc n) lt = omega (arith, o.0, s.0.some, starts_behind bytes t.end ts o.1 s.1 n (omega arith))

one_behind : (bytes : List ℕ) (from : ℕ) (ts : List Token) → AreInOrder from ts → AllByRecursion (StandsIn bytes) ts → (m n : ℕ) → m < n → n < length ts → (token_at ts m).end ≤ (token_at ts n).start
one_behind bytes from [] o s m n lt in' = absurd (omega arith)
one_behind bytes from (t ∷ ts) o s m zero lt in' = absurd (omega arith)
one_behind bytes from (t ∷ ts) o s zero (suc n) lt in' = starts_behind bytes t.end ts o.1 s.1 n (omega arith)
one_behind bytes from (t ∷ ts) o s (suc m) (suc n) lt in' = one_behind bytes t.end ts o.1 s.1 m n (omega arith) (omega arith)

pub stands_at : (bytes : List ℕ) (ts : List Token) → AllByRecursion (StandsIn bytes) ts → (n : ℕ) → n < length ts → StandsIn bytes (token_at ts n)
stands_at bytes [] s n lt = absurd (omega arith)
stands_at bytes (t ∷ ts) s zero lt = s.0
stands_at bytes (t ∷ ts) s (suc n) lt = stands_at bytes ts s.1 n (omega arith)

-- ---- parameters among the numbers

abbrev pub Below : ℕ → List ℕ → Type 0
Below k ns = AllByRecursion (λ n. n < k) ns

pub below : (us : List Use) (k end : ℕ) → GoOn k (used_places us) → k + length (used_places us) ≤ end → Below end (parameters_in us)
below [] k end h le = tt
below (used.Number n ∷ us) k end h le = (omega (arith, h.0, le), below us (k + 1) end h.1 (omega (arith, le)))
below (used.Name c ∷ us) k end h le = below us k end h le
below (used.Text t ∷ us) k end h le = below us k end h le
below (used.Product (factor.Name c) (factor.Name d) ∷ us) k end h le = below us k end h le
below (used.Product (factor.Number m) (factor.Name d) ∷ us) k end h le = below us (k + 1) end h.1 (omega (arith, le))
below (used.Product (factor.Name c) (factor.Number n) ∷ us) k end h le = below us (k + 1) end h.1 (omega (arith, le))
below (used.Product (factor.Number m) (factor.Number n) ∷ us) k end h le = below us (k + 1 + 1) end h.1.1 (omega (arith, le))

-- these are the literals of those numbers
abbrev Same : List Token → List ParamPlace → List ℕ → Type 0
Same ts [] [] = Unit {0}
Same ts [] (n ∷ ns) = ⊥
Same ts (p ∷ ps) [] = ⊥
Same ts (p ∷ ps) (n ∷ ns) = (p.start ≡ (token_at ts n).start) × (p.end ≡ (token_at ts n).end) × Same ts ps ns

same_of : (ts : List Token) (numbers : List ℤ) (k : ℕ) (ns : List ℕ) → Same ts (map (place_of ts numbers k) ns) ns
same_of ts numbers k [] = tt
same_of ts numbers k (n ∷ ns) = (refl, refl, same_of ts numbers k ns)

same_join : (ts : List Token) (ps qs : List ParamPlace) (ns ms : List ℕ) → Same ts ps ns → Same ts qs ms → Same ts (ps ++ qs) (ns ++ ms)
same_join ts [] qs [] ms h k = k
same_join ts [] qs (n ∷ ns) ms h k = absurd h
same_join ts (p ∷ ps) qs [] ms h k = absurd h
same_join ts (p ∷ ps) qs (n ∷ ns) ms h k = (h.0, h.1, same_join ts ps qs ns ms h.2 k)

pub same_places : (ts : List Token) (numbers : List ℤ) (k : ℕ) (all : List Stated) → Same ts (places_from ts numbers k all) (parameters_in (all_uses all))
same_places ts numbers k [] = tt
same_places ts numbers k (s ∷ all) =
    subst (Same ts (places_from ts numbers k (s ∷ all))) (sym (flat_map-append alone s.uses (all_uses all)))
    (same_join ts (places_in ts numbers k s.uses) (places_from ts numbers (k + 1) all) (parameters_in s.uses) (parameters_in (all_uses all)) (same_of ts numbers k (parameters_in s.uses)) (same_places ts numbers (k + 1) all))

pub apart : (bytes : List ℕ) (ts : List Token) → AreInOrder 0 ts → AllByRecursion (StandsIn bytes) ts → (at from : ℕ) (ps : List ParamPlace) (ns : List ℕ) → Same ts ps ns → Ascends from ns → Below (length ts) ns
    → ((n : ℕ) → from ≤ n → n < length ts → at ≤ (token_at ts n).start) → at ≤ length bytes → AreApart at ps (length bytes)
apart bytes ts o s at from [] [] same up in' free le = le
apart bytes ts o s at from [] (n ∷ ns) same up in' free le = absurd same
apart bytes ts o s at from (p ∷ ps) [] same up in' free le = absurd same
apart bytes ts o s at from (p ∷ ps) (n ∷ ns) same up in' free le =
    let stands = stands_at bytes ts s n in'.0 in
    let end : p.end ≤ length bytes = omega (arith, same.1, stands.within) in (
      omega (arith, same.0, free n up.0 in'.0),
      omega (arith, same.0, same.1, stands.some),
      apart bytes ts o s p.end (n + 1) ps ns same.2 up.1 in'.1 (λ m le lt. omega (arith, same.1, one_behind bytes 0 ts o s n m (omega arith) lt)) end,
    )

-- ---- as many number tokens as numbers

word_none : (text : List ℕ) (o : Option Key) → length (number_in (word_said text o)) ≡ 0
word_none text None = refl
word_none text (Some k) = refl

one_number : (bytes : List ℕ) (t : Token) (k : TokenKind) → length (number_in (said (slice_range bytes t.start t.end) k)) ≡ cond (is_number k) 1 0
one_number bytes t kind.Word = word_none (slice_range bytes t.start t.end) (key_of (slice_range bytes t.start t.end))
one_number bytes t (kind.Number z) = refl
one_number bytes t kind.Str = refl
one_number bytes t kind.Symbol = refl

kept_one : (t : Token) (ts : List Token) (b : Bool) → length (cond b (t ∷ ts) ts) ≡ cond b 1 0 + length ts
kept_one t ts true = omega arith
kept_one t ts false = omega arith

pub number_count : (bytes : List ℕ) (ts : List Token) → length (filter (λ (t : Token). is_number t.kind) ts) ≡ length (numbers_of (map (said_by bytes) ts))
number_count bytes [] = refl
number_count bytes (t ∷ ts) =
    kept_one t (filter (λ (t : Token). is_number t.kind) ts) (is_number t.kind)
    ∙ ap (λ n. n + length (filter (λ (t : Token). is_number t.kind) ts)) (sym (one_number bytes t t.kind))
    ∙ ap (λ n. length (number_in (said_by bytes t)) + n) (number_count bytes ts)
    ∙ sym (length-append (number_in (said_by bytes t)) (numbers_of (map (said_by bytes) ts)))
