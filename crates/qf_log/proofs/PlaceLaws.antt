-- The literals of the parameters are numerals of their constants.
use Rattle.std.proofs.Common.{◌≡◌, ◌∙◌, ap, sym, subst, refl, ℕ, zero, suc, ◌+◌, ◌<◌, Bool, cond, List, [], ◌∷◌, ◌++◌, length, map, filter, Option, Some, None, arith}
use Rattle.std.specs.Prelude.{ℤ, slice_range}
use Rattle.std.specs.List.{AllByRecursion}
use Rattle.std.proofs.lemmas.List.Concat.{flat_map-append}
use Rattle.qf_lex.specs.declared.token.Token.{Token}
use Rattle.qf_lex.specs.declared.token.TokenKind.{TokenKind}
use Rattle.qf_lex.specs.declared.token.TokenKind.TheVariants as kind
use Rattle.qf_lex.specs.Tokens.{StandsIn}
use Rattle.qf_lex.proofs.Standing.{tokens_stand}
use Rattle.qf_grammar.specs.declared.lexeme.Key.{Key}
use Rattle.qf_grammar.specs.declared.judging.Stated.{Stated}
use Rattle.qf_grammar.specs.Statements.{statements_of}
use Rattle.qf_log.specs.Said.{said, said_by, word_said, key_of}
use Rattle.qf_log.specs.Lexed.{number_in, numbers_of, lexed_of}
use Rattle.qf_log.specs.Parameters.{alone, parameters_in, number_at, token_at, is_number, place_of, places_in, places_from}
use Rattle.qf_log.specs.Reading.{Reading}
use Rattle.qf_log.specs.Places.{SpellsConstant, PlacesSpellTheirConstants}
use Rattle.qf_log.proofs.Lists.{all_uses}
use Rattle.qf_log.proofs.ExprParts.{all_left, all_right, all_join}
use Rattle.qf_log.proofs.Apart.{Below, below, stands_at, number_count}
use Rattle.qf_log.proofs.ReadyLaws.{kept_all, used_in_order, used_count, from_case}
use Rattle.qf_grammar.proofs.StatedLaws.{are_stated}
use Rattle.std.proofs.lemmas.List.Elements.{recursion_from_All}

-- ---- the kinds of the number tokens

map_join : {A B : Type 0} (f : A → B) (xs ys : List A) → map f (xs ++ ys) ≡ map f xs ++ map f ys
map_join f [] ys = refl
map_join f (x ∷ xs) ys = ap (λ t. f x ∷ t) (map_join f xs ys)

no_number : (text : List ℕ) (o : Option Key) → number_in (word_said text o) ≡ []
no_number text None = refl
no_number text (Some k) = refl

kind_first : (bytes : List ℕ) (t : Token) (k : TokenKind) (rest : List Token) → t.kind ≡ k
    → map (λ (t : Token). t.kind) (cond (is_number k) (t ∷ rest) rest) ≡ map (λ z. kind.Number z) (number_in (said (slice_range bytes t.start t.end) k)) ++ map (λ (t : Token). t.kind) rest
kind_first bytes t kind.Word rest e =
    let text = slice_range bytes t.start t.end in
    ap (λ zs. map (λ z. kind.Number z) zs ++ map (λ (t : Token). t.kind) rest) (sym (no_number text (key_of text)))
kind_first bytes t (kind.Number z) rest e = ap (λ k. k ∷ map (λ (t : Token). t.kind) rest) e
kind_first bytes t kind.Str rest e = refl
kind_first bytes t kind.Symbol rest e = refl

kinds_are : (bytes : List ℕ) (ts : List Token)
    → map (λ (t : Token). t.kind) (filter (λ (t : Token). is_number t.kind) ts) ≡ map (λ z. kind.Number z) (numbers_of (map (said_by bytes) ts))
kinds_are bytes [] = refl
kinds_are bytes (t ∷ ts) =
    kind_first bytes t t.kind (filter (λ (t : Token). is_number t.kind) ts) refl
    ∙ ap (λ ks. map (λ z. kind.Number z) (number_in (said_by bytes t)) ++ ks) (kinds_are bytes ts)
    ∙ sym (map_join (λ z. kind.Number z) (number_in (said_by bytes t)) (numbers_of (map (said_by bytes) ts)))

kind_at : (ts : List Token) (zs : List ℤ) → map (λ (t : Token). t.kind) ts ≡ map (λ z. kind.Number z) zs → (n : ℕ) → (token_at ts n).kind ≡ kind.Number (number_at zs n)
kind_at [] [] e zero = refl
kind_at [] [] e (suc n) = refl
kind_at [] (z ∷ zs) e n = absurd cc
kind_at (t ∷ ts) [] e n = absurd cc
kind_at (t ∷ ts) (z ∷ zs) e zero = cc
kind_at (t ∷ ts) (z ∷ zs) e (suc n) =
    let rest : map (λ (t : Token). t.kind) ts ≡ map (λ z. kind.Number z) zs = cc in
    kind_at ts zs rest n

-- ---- each place

module _ (bytes : List ℕ) (ts : List Token) (numbers : List ℤ) (stand : AllByRecursion (StandsIn bytes) ts)
    (kinds : (n : ℕ) → (token_at ts n).kind ≡ kind.Number (number_at numbers n)) where
  spells : (k n : ℕ) → n < length ts → SpellsConstant bytes (place_of ts numbers k n)
  spells k n lt = subst (λ (it : TokenKind). StandsIn bytes (record { start = (token_at ts n).start; end = (token_at ts n).end; kind = it })) (kinds n) (stands_at bytes ts stand n lt)

  spell_each : (k : ℕ) (ns : List ℕ) → Below (length ts) ns → AllByRecursion (SpellsConstant bytes) (map (place_of ts numbers k) ns)
  spell_each k [] low = tt
  spell_each k (n ∷ ns) low = (spells k n low.0, spell_each k ns low.1)

  spell_all : (k : ℕ) (all : List Stated) → Below (length ts) (parameters_in (all_uses all)) → AllByRecursion (SpellsConstant bytes) (places_from ts numbers k all)
  spell_all k [] low = tt
  spell_all k (s ∷ all) low =
      let both : Below (length ts) (parameters_in s.uses ++ parameters_in (all_uses all)) = subst (Below (length ts)) (flat_map-append alone s.uses (all_uses all)) low in
      all_join (SpellsConstant bytes) (places_in ts numbers k s.uses) (places_from ts numbers (k + 1) all)
      (spell_each k (parameters_in s.uses) (all_left (λ n. n < length ts) (parameters_in s.uses) (parameters_in (all_uses all)) both))
      (spell_all (k + 1) all (all_right (λ n. n < length ts) (parameters_in s.uses) (parameters_in (all_uses all)) both))

pub places_spell_their_constants : PlacesSpellTheirConstants
places_spell_their_constants bytes log h =
    let l = lexed_of (map (said_by bytes) h.tokens) in
    let p : Token → Bool = λ (t : Token). is_number t.kind in
    let f = from_case bytes h.tokens log (statements_of l.numbers l.lexemes) refl h.read in
    let s = are_stated l.numbers l.lexemes f.0 f.1 in
    let stands = recursion_from_All (StandsIn bytes) h.tokens (tokens_stand bytes h.tokens h.are_tokens) in
    let low = below (all_uses f.0) 0 (length (filter p h.tokens)) (used_in_order bytes h.tokens f.0 s) (omega (arith, used_count bytes h.tokens f.0 s, number_count bytes h.tokens)) in
    subst (λ (r : Reading). AllByRecursion (SpellsConstant bytes) r.parameters) f.2
    (spell_all bytes (filter p h.tokens) l.numbers (kept_all (StandsIn bytes) p h.tokens stands) (kind_at (filter p h.tokens) l.numbers (kinds_are bytes h.tokens)) 1 f.0 low)
