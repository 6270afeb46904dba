-- A log that was read is ready for a program, and its parameters stand apart.
use Rattle.std.proofs.Common.{◌≡◌, ℕ, ◌+◌, ◌<◌, ◌≤◌, Bool, true, false, cond, List, [], ◌∷◌, ◌++◌, length, map, filter, refl, sym, ap, subst, ◌∙◌, arith, Result, Ok, Err}
use Rattle.std.specs.Prelude.{ℤ, unsigned_abs, ◌^◌, ◌||◌}
use Rattle.std.specs.List.{AllByRecursion, flat_map, list_any, range_with_len}
use Rattle.std.proofs.lemmas.List.{length-append}
use Rattle.std.proofs.lemmas.List.Concat.{flat_map-append}
use Rattle.std.proofs.lemmas.List.Elements.{recursion_from_All}
use Rattle.std.proofs.lemmas.Int.{ints}
use Rattle.qf_ir.specs.declared.ast.Expr.{Expr}
use Rattle.qf_ir.specs.declared.ast.Cond.{Cond}
use Rattle.qf_ir.specs.declared.ast.Statement.{Statement}
use Rattle.qf_ir.specs.Fits.{Small}
use Rattle.qf_ir.specs.Typed.{IsItem}
use Rattle.qf_ir.specs.Parts.{depth_of, all_exprs, all_conds, all_items, params_of, exprs_of, conds_of, items_of}
use Rattle.qf_ir.specs.Made.{IsMade, IsCoded, IsWhole, IsShallow}
use Rattle.qf_lex.specs.declared.token.Token.{Token}
use Rattle.qf_lex.specs.Tokens.{TokensOf, StandsIn}
use Rattle.qf_lex.proofs.Standing.{tokens_in_order, tokens_stand}
use Rattle.qf_grammar.specs.declared.tree.Factor.TheVariants as factor
use Rattle.qf_grammar.specs.declared.uses.Use.{Use}
use Rattle.qf_grammar.specs.declared.uses.Use.TheVariants as used
use Rattle.qf_grammar.specs.declared.judging.Stated.{Stated}
use Rattle.qf_grammar.specs.declared.fault.LogFault.{LogFault}
use Rattle.qf_grammar.specs.Usage.{use_lexemes, is_atom, is_alike, has_big_factor}
use Rattle.qf_grammar.specs.Statements.{statements_of}
use Rattle.qf_grammar.specs.Laws.{IsStated, AreStated}
use Rattle.qf_grammar.proofs.StatedLaws.{are_stated}
use Rattle.qf_log.specs.declared.places.ParamPlace.{ParamPlace}
use Rattle.qf_log.specs.Said.{said_by}
use Rattle.qf_log.specs.Lexed.{lexed_of, numbers_of}
use Rattle.qf_log.specs.Parameters.{parameters_in, number_at, token_at, is_number, place_of, places_in, places_from, ids_of, ids_from}
use Rattle.qf_log.specs.Lowered.{id_at, AreSmall, lowered_form}
use Rattle.qf_log.specs.Reading.{Reading, reading_of, reading_or}
use Rattle.qf_log.specs.Ready.{AreApart, IsReady, LogsAreReady}
use Rattle.qf_log.proofs.Lists.{all_uses}
use Rattle.qf_log.proofs.LexedLaws.{TextIn, texts_in, names_few, texts_few}
use Rattle.qf_log.proofs.ParseFacts.{are_small, few_tokens, map_count}
use Rattle.qf_log.proofs.ExprParts.{Fine, AllFine, all_left, all_right, all_join}
use Rattle.qf_log.proofs.MadeFacts.{IsGood, form_good, form_params, form_items, form_conds, past_at}
use Rattle.qf_log.proofs.Apart.{kept_order, below, same_places, apart, number_count}
use Rattle.qf_log.proofs.Ordering.{places_of, atom_places, range_length, lexeme_places, used_places, GoOn, go_on, numbered, ascending}

-- ---- the uses of a statement are fine

fine_use : (numbers : List ℤ) (texts : ℕ) (u : Use) → is_alike u ≡ false → has_big_factor numbers u ≡ false → AllByRecursion (TextIn texts) (use_lexemes u) → Fine numbers texts u
fine_use numbers texts (used.Name c) a b t = tt
fine_use numbers texts (used.Number n) a b t = tt
fine_use numbers texts (used.Text t) a b h = h.0
fine_use numbers texts (used.Product (factor.Number n) (factor.Name c)) a b t = past_at numbers n b
fine_use numbers texts (used.Product (factor.Name c) (factor.Number n)) a b t = past_at numbers n b
fine_use numbers texts (used.Product (factor.Number m) (factor.Number n)) a b t = absurd cc
fine_use numbers texts (used.Product (factor.Name c) (factor.Name d)) a b t = absurd cc

none_of : {A : Type 0} (p : A → Bool) (x : A) (xs : List A) → list_any p (x ∷ xs) ≡ false → (p x ≡ false) × (list_any p xs ≡ false)
none_of p x xs e = elim (p x) as (λ b. (b || list_any p xs) ≡ false → (b ≡ false) × (list_any p xs ≡ false)) [
  | true ↦ λ e. absurd cc
  | false ↦ λ e. (refl, e)
] e

fine_uses : (numbers : List ℤ) (texts : ℕ) (us : List Use) → list_any is_alike us ≡ false → list_any (has_big_factor numbers) us ≡ false → AllByRecursion (TextIn texts) (flat_map use_lexemes us) → AllFine numbers texts us
fine_uses numbers texts [] a b t = tt
fine_uses numbers texts (u ∷ us) a b t =
    let x = none_of is_alike u us a in
    let y = none_of (has_big_factor numbers) u us b in
    (fine_use numbers texts u x.0 y.0 (all_left (TextIn texts) (use_lexemes u) (flat_map use_lexemes us) t), fine_uses numbers texts us x.1 y.1 (all_right (TextIn texts) (use_lexemes u) (flat_map use_lexemes us) t))

-- ---- all statements

module _ (numbers : List ℤ) (ids : List ℕ) (texts : ℕ) where
  abbrev low : Stated → Statement
  low s = lowered_form numbers ids s.form

  abbrev TextsIn : List Use → Type 0
  TextsIn us = AllByRecursion (TextIn texts) (flat_map use_lexemes us)

  all_good : (all : List Stated) → AllByRecursion (IsStated numbers) all → TextsIn (all_uses all) → AllByRecursion (IsGood numbers ids texts) (all_exprs (map low all))
  all_good [] h t = tt
  all_good (s ∷ all) h t =
      let i = h.0 in
      let split : AllByRecursion (TextIn texts) (flat_map use_lexemes s.uses ++ flat_map use_lexemes (all_uses all)) = subst (AllByRecursion (TextIn texts)) (flat_map-append use_lexemes s.uses (all_uses all)) t in
      let fine : AllFine numbers texts s.uses = fine_uses numbers texts s.uses i.linear i.small (all_left (TextIn texts) (flat_map use_lexemes s.uses) (flat_map use_lexemes (all_uses all)) split) in
      all_join (IsGood numbers ids texts) (exprs_of (low s)) (all_exprs (map low all))
      (form_good numbers ids texts i.piece s.form i.spelled (subst (AllFine numbers texts) i.uses fine))
      (all_good all h.1 (all_right (TextIn texts) (flat_map use_lexemes s.uses) (flat_map use_lexemes (all_uses all)) split))

  goods_made : (es : List Expr) → AllByRecursion (IsGood numbers ids texts) es → AllByRecursion IsMade es
  goods_made [] h = tt
  goods_made (e ∷ es) h = (h.0.0, goods_made es h.1)

  goods_coded : (es : List Expr) → AllByRecursion (IsGood numbers ids texts) es → AllByRecursion (IsCoded texts) es
  goods_coded [] h = tt
  goods_coded (e ∷ es) h = (h.0.1, goods_coded es h.1)

  items_are : (all : List Stated) → AllByRecursion IsItem (all_items (map low all))
  items_are [] = tt
  items_are (s ∷ all) = all_join IsItem (items_of (low s)) (all_items (map low all)) (form_items numbers ids s.form) (items_are all)

  conds_are : (all : List Stated) → AllByRecursion (IsStated numbers) all → AllByRecursion (λ c. IsWhole c × (depth_of c ≤ 128)) (all_conds (map low all))
  conds_are [] h = tt
  conds_are (s ∷ all) h = all_join (λ c. IsWhole c × (depth_of c ≤ 128)) (conds_of (low s)) (all_conds (map low all)) (form_conds numbers ids h.0.piece s.form h.0.spelled) (conds_are all h.1)

  are_whole : (cs : List Cond) → AllByRecursion (λ c. IsWhole c × (depth_of c ≤ 128)) cs → AllByRecursion IsWhole cs
  are_whole [] h = tt
  are_whole (c ∷ cs) h = (h.0.0, are_whole cs h.1)

  are_shallow : (cs : List Cond) → AllByRecursion (λ c. IsWhole c × (depth_of c ≤ 128)) cs → AllByRecursion IsShallow cs
  are_shallow [] h = tt
  are_shallow (c ∷ cs) h = (h.0.1, are_shallow cs h.1)

  map_append : {A B : Type 0} (f : A → B) (xs ys : List A) → map f (xs ++ ys) ≡ map f xs ++ map f ys
  map_append f [] ys = refl
  map_append f (x ∷ xs) ys = ap (λ t. f x ∷ t) (map_append f xs ys)

  params_are : (all : List Stated) → AllByRecursion (IsStated numbers) all → params_of (map low all) ≡ map (id_at ids) (parameters_in (all_uses all))
  params_are [] h = refl
  params_are (s ∷ all) h =
      ap (λ ns. ns ++ params_of (map low all)) (form_params numbers ids texts h.0.piece s.form h.0.spelled ∙ ap (λ us. map (id_at ids) (parameters_in us)) (sym h.0.uses))
      ∙ ap (λ ns. map (id_at ids) (parameters_in s.uses) ++ ns) (params_are all h.1)
      ∙ sym (map_append (id_at ids) (parameters_in s.uses) (parameters_in (all_uses all)))
      ∙ ap (map (id_at ids)) (sym (flat_map-append Rattle.qf_log.specs.Parameters.alone s.uses (all_uses all)))

-- ---- the whole log

pub kept_all : {A : Type 0} (P : A → Type 0) (p : A → Bool) (xs : List A) → AllByRecursion P xs → AllByRecursion P (filter p xs)
kept_all P p [] h = tt
kept_all P p (x ∷ xs) h = elim (p x) as (λ b. AllByRecursion P (cond b (x ∷ filter p xs) (filter p xs))) [
  | true ↦ (h.0, kept_all P p xs h.1)
  | false ↦ kept_all P p xs h.1
]

small_is : (z : ℤ) → unsigned_abs z ≤ 2 ^ 50 → Small z
small_is z h = record { low = omega (arith, ints); high = omega (arith, ints) }

small_places : (tokens : List Token) (numbers : List ℤ) (k : ℕ) (ns : List ℕ) → AreSmall numbers → AllByRecursion Small (map (λ (p : ParamPlace). p.old) (map (place_of tokens numbers k) ns))
small_places tokens numbers k [] h = tt
small_places tokens numbers k (n ∷ ns) h = (small_is (number_at numbers n) (h n), small_places tokens numbers k ns h)

olds_join : (ps qs : List ParamPlace) → map (λ (p : ParamPlace). p.old) (ps ++ qs) ≡ map (λ (p : ParamPlace). p.old) ps ++ map (λ (p : ParamPlace). p.old) qs
olds_join [] qs = refl
olds_join (p ∷ ps) qs = ap (λ t. p.old ∷ t) (olds_join ps qs)

small_all : (tokens : List Token) (numbers : List ℤ) (k : ℕ) (all : List Stated) → AreSmall numbers → AllByRecursion Small (map (λ (p : ParamPlace). p.old) (places_from tokens numbers k all))
small_all tokens numbers k [] h = tt
small_all tokens numbers k (s ∷ all) h =
    subst (AllByRecursion Small) (sym (olds_join (places_in tokens numbers k s.uses) (places_from tokens numbers (k + 1) all)))
    (all_join Small (map (λ (p : ParamPlace). p.old) (places_in tokens numbers k s.uses)) (map (λ (p : ParamPlace). p.old) (places_from tokens numbers (k + 1) all))
    (small_places tokens numbers k (parameters_in s.uses) h) (small_all tokens numbers (k + 1) all h))

place_count : (tokens : List Token) (numbers : List ℤ) (k : ℕ) (all : List Stated) → length (places_from tokens numbers k all) ≡ length (parameters_in (all_uses all))
place_count tokens numbers k [] = refl
place_count tokens numbers k (s ∷ all) =
    length-append (places_in tokens numbers k s.uses) (places_from tokens numbers (k + 1) all)
    ∙ ap (λ n. n + length (places_from tokens numbers (k + 1) all)) (map_count (place_of tokens numbers k) (parameters_in s.uses))
    ∙ ap (λ n. length (parameters_in s.uses) + n) (place_count tokens numbers (k + 1) all)
    ∙ sym (length-append (parameters_in s.uses) (parameters_in (all_uses all)))
    ∙ ap length (sym (flat_map-append Rattle.qf_log.specs.Parameters.alone s.uses (all_uses all)))

-- the numbers that the statements use are all of the log's, in order
pub used_in_order : (bytes : List ℕ) (tokens : List Token) (all : List Stated) → AreStated (lexed_of (map (said_by bytes) tokens)).numbers (lexed_of (map (said_by bytes) tokens)).lexemes all → GoOn 0 (used_places (all_uses all))
used_in_order bytes tokens all h =
    let saids = map (said_by bytes) tokens in
    let l = lexed_of saids in
    subst (GoOn 0) (sym (ap places_of h.in_order ∙ atom_places l.lexemes ∙ lexeme_places l.names l.texts 0 saids)) (go_on 0 (length (numbers_of saids)))

pub ready : (bytes : List ℕ) (tokens : List Token) (all : List Stated) → TokensOf bytes tokens → length bytes < 2 ^ 30
    → statements_of (lexed_of (map (said_by bytes) tokens)).numbers (lexed_of (map (said_by bytes) tokens)).lexemes ≡ Ok all
    → IsReady (reading_of (filter (λ (t : Token). is_number t.kind) tokens) (lexed_of (map (said_by bytes) tokens)) all)
ready bytes tokens all are few e =
    let saids = map (said_by bytes) tokens in
    let l = lexed_of saids in
    let numbers = l.numbers in
    let ids = ids_of all in
    let places = filter (λ (t : Token). is_number t.kind) tokens in
    let s = are_stated l.numbers l.lexemes all e in
    let count : length saids ≤ length bytes = omega (arith, map_count (said_by bytes) tokens, few_tokens bytes tokens are) in
    let texts : AllByRecursion (TextIn (length l.texts)) (flat_map use_lexemes (all_uses all)) = subst (AllByRecursion (TextIn (length l.texts))) (sym s.in_order) (kept_all (TextIn (length l.texts)) is_atom l.lexemes (texts_in l.names [] 0 saids)) in
    let good = all_good numbers ids (length l.texts) all s.each texts in
    let conds = conds_are numbers ids (length l.texts) all s.each in
    let statements = map (low numbers ids (length l.texts)) all in
    let olds : length (map (λ (p : ParamPlace). p.old) (places_from places numbers 1 all)) ≡ length (parameters_in (all_uses all)) = map_count (λ (p : ParamPlace). p.old) (places_from places numbers 1 all) ∙ place_count places numbers 1 all in
    record {
      few_names = omega (arith, count, names_few [] saids, few);
      few_texts = omega (arith, count, texts_few [] saids, few);
      coded = goods_coded numbers ids (length l.texts) (all_exprs statements) good;
      in_order = params_are numbers ids (length l.texts) all s.each ∙ numbered (all_uses all) [] 0 (used_in_order bytes tokens all s) ∙ ap (range_with_len 1) (sym olds);
      made = record {
        exprs = goods_made numbers ids (length l.texts) (all_exprs statements) good;
        items = items_are numbers ids (length l.texts) all;
        whole = are_whole numbers ids (length l.texts) (all_conds statements) conds;
        shallow = are_shallow numbers ids (length l.texts) (all_conds statements) conds;
      };
      small_olds = small_all places numbers 1 all (are_small bytes tokens are);
    }

pub used_count : (bytes : List ℕ) (tokens : List Token) (all : List Stated) → AreStated (lexed_of (map (said_by bytes) tokens)).numbers (lexed_of (map (said_by bytes) tokens)).lexemes all → length (used_places (all_uses all)) ≡ length (numbers_of (map (said_by bytes) tokens))
used_count bytes tokens all h =
    let saids = map (said_by bytes) tokens in
    let l = lexed_of saids in
    ap length (ap places_of h.in_order ∙ atom_places l.lexemes ∙ lexeme_places l.names l.texts 0 saids) ∙ range_length 0 (length (numbers_of saids))

pub stand_apart : (bytes : List ℕ) (tokens : List Token) (all : List Stated) → TokensOf bytes tokens
    → statements_of (lexed_of (map (said_by bytes) tokens)).numbers (lexed_of (map (said_by bytes) tokens)).lexemes ≡ Ok all
    → AreApart 0 (places_from (filter (λ (t : Token). is_number t.kind) tokens) (lexed_of (map (said_by bytes) tokens)).numbers 1 all) (length bytes)
stand_apart bytes tokens all are e =
    let l = lexed_of (map (said_by bytes) tokens) in
    let p : Token → Bool = λ (t : Token). is_number t.kind in
    let s = are_stated l.numbers l.lexemes all e in
    let stands = recursion_from_All (StandsIn bytes) tokens (tokens_stand bytes tokens are) in
    let on = used_in_order bytes tokens all s in
    apart bytes (filter p tokens) (kept_order bytes p 0 tokens (tokens_in_order bytes tokens are) stands) (kept_all (StandsIn bytes) p tokens stands) 0 0
    (places_from (filter p tokens) l.numbers 1 all) (parameters_in (all_uses all)) (same_places (filter p tokens) l.numbers 1 all) (ascending (all_uses all) 0 on)
    (below (all_uses all) 0 (length (filter p tokens)) on (omega (arith, used_count bytes tokens all s, number_count bytes tokens))) (λ n le lt. omega arith) (omega arith)

abbrev pub FromStated : List ℕ → List Token → Reading → Type 0
FromStated bytes tokens log =
    (all : List Stated) × (statements_of (lexed_of (map (said_by bytes) tokens)).numbers (lexed_of (map (said_by bytes) tokens)).lexemes ≡ Ok all)
    × (reading_of (filter (λ (t : Token). is_number t.kind) tokens) (lexed_of (map (said_by bytes) tokens)) all ≡ log)

pub from_case : (bytes : List ℕ) (tokens : List Token) (log : Reading) (r : Result (List Stated) LogFault) → statements_of (lexed_of (map (said_by bytes) tokens)).numbers (lexed_of (map (said_by bytes) tokens)).lexemes ≡ r
    → reading_or (filter (λ (t : Token). is_number t.kind) tokens) (lexed_of (map (said_by bytes) tokens)) r ≡ Ok log → FromStated bytes tokens log
from_case bytes tokens log (Ok all) e h = (all, e, cc)
from_case bytes tokens log (Err x) e h = absurd cc

pub logs_are_ready : LogsAreReady
logs_are_ready bytes log few h =
    let l = lexed_of (map (said_by bytes) h.tokens) in
    let f = from_case bytes h.tokens log (statements_of l.numbers l.lexemes) refl h.read in
    (subst IsReady f.2 (ready bytes h.tokens f.0 h.are_tokens few f.1), subst (λ (r : Reading). AreApart 0 r.parameters (length bytes)) f.2 (stand_apart bytes h.tokens f.0 h.are_tokens f.1))
