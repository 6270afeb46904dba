-- The same bytes say one thing.
use Rattle.std.proofs.Common.{◌≡◌, ◌⊎◌, ℕ, List, Result, Ok, Err, inl, inr, refl, sym, ◌∙◌, ap, subst}
use Rattle.qf_base.specs.declared.refusal.Refusal.{Refusal}
use Rattle.qf_grammar.specs.declared.fault.LogFault.{LogFault}
use Rattle.qf_grammar.specs.Refusals as grammar
use Rattle.qf_lex.specs.Refusals as lex
use Rattle.qf_lex.specs.Tokens.{TokensOf, FirstFaultOf}
use Rattle.qf_lex.specs.declared.token.LexFault.{LexFault}
use Rattle.qf_lex.specs.declared.token.Token.{Token}
use Rattle.qf_lex.proofs.Either.{either}
use Rattle.qf_lex.proofs.Only.{one_reading, one_fault, no_both}
use Rattle.qf_log.specs.Reading.{Reading, log_of}
use Rattle.qf_slice.proofs.Slices.{root-boxes-equal}
use Rattle.qf_inputs.specs.Refusals.{told}
use Rattle.qf_inputs.specs.Story.{IsLog, with_table, table_in}
use Rattle.qf_inputs.specs.Inputs.{with_story}
use Rattle.qf_inputs.specs.Opened.{IsOpenedBy, opened_with}
use Rattle.qf_inputs.proofs.RootBoxes.{each_has_a_root_box}
use Rattle.qf_inputs.specs.Laws.{LogsAreOne, StoriesAreOne, InputsAreOne, QuestionsAreOne, EachHasAStory, EachHasAQuestion}
use Rattle.qf_inputs.specs.declared.story.Story.{Story}
use Rattle.qf_inputs.specs.declared.inputs.Inputs.{Inputs}
use Rattle.qf_inputs.specs.declared.opened.Opened.{Opened}

-- tokens of the same bytes say the same
same_said : (bytes : List ℕ) (ts us : List Token) → TokensOf bytes ts → TokensOf bytes us → log_of bytes ts ≡ log_of bytes us
same_said bytes ts us h k = ap (log_of bytes) (one_reading bytes ts us h k)

same_ok : (a b : Reading) (x y : Result Reading LogFault) → x ≡ y → x ≡ Ok a → y ≡ Ok b → a ≡ b
same_ok a b x y same h k = cc

same_err : (a b : LogFault) (x y : Result Reading LogFault) → x ≡ y → x ≡ Err a → y ≡ Err b → a ≡ b
same_err a b x y same h k = cc

no_ok_err : (a : Reading) (b : LogFault) (x y : Result Reading LogFault) → x ≡ y → x ≡ Ok a → y ≡ Err b → ⊥
no_ok_err a b x y same h k = cc

pub logs_are_one : LogsAreOne
logs_are_one bytes (Ok a) (Ok b) h k =
    ap (λ (l : Reading). Ok l) (same_ok a b (log_of bytes h.tokens) (log_of bytes k.tokens) (same_said bytes h.tokens k.tokens h.are_tokens k.are_tokens) h.read k.read)
logs_are_one bytes (Ok a) (Err r) h (inl k) = absurd (no_both bytes h.tokens k.fault h.are_tokens k.first)
logs_are_one bytes (Ok a) (Err r) h (inr k) =
    absurd (no_ok_err a k.fault (log_of bytes h.tokens) (log_of bytes k.tokens) (same_said bytes h.tokens k.tokens h.are_tokens k.are_tokens) h.read k.first)
logs_are_one bytes (Err r) (Ok b) (inl h) k = absurd (no_both bytes k.tokens h.fault k.are_tokens h.first)
logs_are_one bytes (Err r) (Ok b) (inr h) k =
    absurd (no_ok_err b h.fault (log_of bytes k.tokens) (log_of bytes h.tokens) (same_said bytes k.tokens h.tokens k.are_tokens h.are_tokens) k.read h.first)
logs_are_one bytes (Err r) (Err s) (inl h) (inl k) =
    ap (λ (t : Refusal). Err t) (h.refusal_is ∙ (ap (λ (f : LexFault). told (lex.refusal_of f)) (one_fault bytes h.fault k.fault h.first k.first) ∙ sym k.refusal_is))
logs_are_one bytes (Err r) (Err s) (inl h) (inr k) = absurd (no_both bytes k.tokens h.fault k.are_tokens h.first)
logs_are_one bytes (Err r) (Err s) (inr h) (inl k) = absurd (no_both bytes h.tokens k.fault h.are_tokens k.first)
logs_are_one bytes (Err r) (Err s) (inr h) (inr k) =
    let same : h.fault ≡ k.fault = same_err h.fault k.fault (log_of bytes h.tokens) (log_of bytes k.tokens) (same_said bytes h.tokens k.tokens h.are_tokens k.are_tokens) h.first k.first in
    ap (λ (t : Refusal). Err t) (h.refusal_is ∙ (ap (λ (f : LogFault). told (grammar.refusal_of f)) same ∙ sym k.refusal_is))

pub stories_are_one : StoriesAreOne
stories_are_one initial log a b h k =
    h.story_is ∙ (ap (with_table (table_in initial)) (logs_are_one log h.reading k.reading h.reading_is k.reading_is) ∙ sym k.story_is)

pub inputs_are_one : InputsAreOne
inputs_are_one initial log complaints domains a b h k =
    let same : h.story ≡ k.story = stories_are_one initial log h.story k.story h.story_is k.story_is in
    h.inputs_is ∙ (ap (λ (s : Result Story Refusal). with_story s complaints domains) same ∙ sym k.inputs_is)

one_opened : (inputs : Result Inputs Refusal) (a b : Result Opened Refusal) → IsOpenedBy inputs a → IsOpenedBy inputs b → a ≡ b
one_opened (Err r) a b h k = h ∙ sym k
one_opened (Ok inputs) a b h k =
    h.opened_is ∙ (ap (opened_with inputs) (root-boxes-equal inputs.problem h.root k.root h.is_root k.is_root) ∙ sym k.opened_is)

pub questions_are_one : QuestionsAreOne
questions_are_one initial log complaints domains a b h k =
    let same : h.inputs ≡ k.inputs = inputs_are_one initial log complaints domains h.inputs k.inputs h.are_inputs k.are_inputs in
    one_opened k.inputs a b (subst (λ (i : Result Inputs Refusal). IsOpenedBy i a) same h.is_opened) k.is_opened

-- ---- each log has a reading

stated : (bytes : List ℕ) (ts : List Token) → TokensOf bytes ts → (said : Result Reading LogFault) → log_of bytes ts ≡ said → (reading : Result Reading Refusal) × IsLog bytes reading
stated bytes ts h (Ok log) e = (Ok log, record { tokens = ts; are_tokens = h; read = e })
stated bytes ts h (Err f) e = (Err (told (grammar.refusal_of f)), inr (record { tokens = ts; are_tokens = h; fault = f; first = e; refusal_is = refl }))

read_or_fault : (bytes : List ℕ) → ((ts : List Token) × TokensOf bytes ts) ⊎ ((f : LexFault) × FirstFaultOf bytes f) → (reading : Result Reading Refusal) × IsLog bytes reading
read_or_fault bytes (inl h) = stated bytes h.0 h.1 (log_of bytes h.0) refl
read_or_fault bytes (inr h) = (Err (told (lex.refusal_of h.0)), inl (record { fault = h.0; first = h.1; refusal_is = refl }))

pub each_log_is_read : (bytes : List ℕ) → (reading : Result Reading Refusal) × IsLog bytes reading
each_log_is_read bytes = read_or_fault bytes (either bytes)

pub each_has_a_story : EachHasAStory
each_has_a_story initial log =
    let read = each_log_is_read log in
    (with_table (table_in initial) read.0, record { reading = read.0; reading_is = read.1; story_is = refl })

-- ---- four files ask something

opened_for : (inputs : Result Inputs Refusal) → (opened : Result Opened Refusal) × IsOpenedBy inputs opened
opened_for (Err r) = (Err r, refl)
opened_for (Ok inputs) =
    let root = each_has_a_root_box inputs.problem in
    (opened_with inputs root.0, record { root = root.0; is_root = root.1; opened_is = refl })

pub each_has_a_question : EachHasAQuestion
each_has_a_question initial log complaints domains =
    let story = each_has_a_story initial log in
    let inputs = with_story story.0 complaints domains in
    let opened = opened_for inputs in
    (opened.0, record { inputs = inputs; are_inputs = record { story = story.0; story_is = story.1; inputs_is = refl }; is_opened = opened.1 })
