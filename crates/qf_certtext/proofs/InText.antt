-- Where the reading stands in a text, and what it gives.
use Rattle.std.proofs.Common.{◌≡◌, ℕ, suc, ◌+◌, ◌*◌, ◌^◌, ◌<◌, ◌≤◌, ◌==◌, false, List, [], ◌∷◌, ◌++◌, length, refl, sym, ap, ◌∙◌, arith, Option, Some, None, option_and_then, append_assoc, append-nil, length-append}
use Rattle.std.proofs.lemmas.List.Concat.{flat_map-cons}
use Rattle.std.proofs.lemmas.Grind.{flat_map-append}
use Rattle.qf_tree.specs.declared.cert.Cert.{Cert}
use Rattle.qf_tree.specs.declared.line.Line.{Line}
use Rattle.qf_tree.specs.declared.line.Line.TheVariants as line
use Rattle.qf_tree.specs.declared.cert.Answer.TheVariants as answer
use Rattle.qf_base.specs.declared.names.Bound.TheVariants.{Low, High}
use Rattle.qf_certtext.specs.declared.draft.Draft.{Draft}
use Rattle.qf_certtext.specs.declared.draft.Draft.TheVariants as draft
use Rattle.qf_certtext.specs.Drafts.{draft_after, drafted}
use Rattle.qf_certtext.specs.Room.{HasRoom}
use Rattle.qf_certtext.specs.Spelling.{Spells, line_text, line_bytes, bytes_of_lines}
use Rattle.qf_certtext.specs.Words.{words_of, line_of_words}
use Rattle.std.specs.Prelude.{IfOk, IfErr, IsErrAnd}
use Rattle.std.specs.declared.result.Result.TheVariants.{Ok, Err}
use Rattle.qf_certtext.specs.declared.fault.CertFault.TheVariants as fault
use Rattle.std.specs.declared.result.Result.{Result}
use Rattle.std.proofs.lemmas.List.Elements.{All-from_recursion}
use Rattle.qf_certtext.specs.declared.fault.CertFault.{CertFault}
use Rattle.qf_certtext.specs.Texts.{IsText, IsBadLine, IsCutShort, IsTrailing, IsOneLine, IsFaultOf, ended}
use Rattle.qf_certtext.proofs.Drafting.{Stands, drafted_append}
use Rattle.qf_certtext.proofs.Accepting.{AllFit, NotWhole, fit_append, chained, stands_from_start, whole_is_spelled, goes_on, cannot_stand}
use Rattle.qf_certtext.proofs.Found.{spelled_is_read, read_is_spelled}

-- the draft of the lines so far, the bytes behind them, and the number of the next line
pub record InText (bytes rest : List ℕ) (d : Draft) (number : ℕ) : Type 0 where
  pub lines : List Line
  pub fits : AllFit lines
  pub taken : drafted draft.Head lines ≡ Some d
  pub whole : bytes ≡ bytes_of_lines lines ++ rest
  pub number_is : number ≡ length lines + 1

pub at_start : (bytes : List ℕ) → InText bytes bytes draft.Head 1
at_start bytes = record { lines = []; fits = tt; taken = refl; whole = refl; number_is = refl }

pub lines_push : (lines : List Line) (l : Line) → bytes_of_lines (lines ++ l ∷ []) ≡ bytes_of_lines lines ++ line_bytes l
lines_push lines l =
    flat_map-append line_bytes lines (l ∷ [])
    ∙ ap (λ (bs : List ℕ). bytes_of_lines lines ++ bs) (flat_map-cons line_bytes l [] ∙ append-nil (line_bytes l))

drafted_push : (lines : List Line) (d next : Draft) (l : Line) → drafted draft.Head lines ≡ Some d → draft_after d l ≡ Some next → drafted draft.Head (lines ++ l ∷ []) ≡ Some next
drafted_push lines d next l e f =
    drafted_append draft.Head lines (l ∷ []) ∙ ap (λ o. option_and_then (λ n. drafted n (l ∷ [])) o) e ∙ ap (λ o. option_and_then (λ n. drafted n []) o) f

-- the draft with the line that the bytes spell
abbrev pub next_draft : Draft → List ℕ → Option Draft
next_draft d bytes = option_and_then (draft_after d) (line_of_words (words_of bytes))

pub one_more : (bytes rest front behind : List ℕ) (d next : Draft) (number : ℕ) → InText bytes rest d number → rest ≡ front ++ 10 ∷ behind → Some next ≡ next_draft d front → InText bytes behind next (number + 1)
one_more bytes rest front behind d next number at cut e =
    let read = chained (draft_after d) (line_of_words (words_of front)) next (sym e) in
    let l = read.0 in
    let spells = read_is_spelled front l read.1 in
    record {
      lines = at.lines ++ l ∷ [];
      fits = fit_append at.lines (l ∷ []) at.fits (spells.fits, tt);
      taken = drafted_push at.lines d next l at.taken read.2;
      whole =
          at.whole
          ∙ ap (λ (bs : List ℕ). bytes_of_lines at.lines ++ bs) (cut ∙ ap (λ (bs : List ℕ). bs ++ 10 ∷ behind) spells.text ∙ sym (append_assoc (line_text l) (10 ∷ []) behind))
          ∙ sym (append_assoc (bytes_of_lines at.lines) (line_bytes l) behind)
          ∙ ap (λ (bs : List ℕ). bs ++ behind) (sym (lines_push at.lines l));
      number_is = omega (arith, at.number_is, length-append at.lines (l ∷ []));
    }

none_spelled : (d : Draft) (front : List ℕ) (l : Line) → None ≡ next_draft d front → Spells l front → draft_after d l ≡ None
none_spelled d front l e s =
    sym (e ∙ ap (λ o. option_and_then (draft_after d) o) (spelled_is_read front l s))

pub bad_line : (bytes rest front behind : List ℕ) (d : Draft) (number : ℕ) → InText bytes rest d number → NotWhole d → rest ≡ front ++ 10 ∷ behind → IsOneLine front → None ≡ next_draft d front → IsBadLine bytes number
bad_line bytes rest front behind d number at not_whole cut one e = record {
  lines = at.lines;
  bad = front;
  rest = behind;
  before = goes_on at.lines d at.fits at.taken not_whole;
  bytes_are = at.whole ∙ ap (λ (bs : List ℕ). bytes_of_lines at.lines ++ bs) cut;
  one_line = one;
  number = at.number_is;
  none = λ l s b. cannot_stand at.lines d l at.taken (none_spelled d front l e s) b;
}

pub cut_short : (bytes rest : List ℕ) (d : Draft) (number : ℕ) → InText bytes rest d number → NotWhole d → IsOneLine rest → IsCutShort bytes
cut_short bytes rest d number at not_whole one = record {
  lines = at.lines;
  tail = rest;
  before = goes_on at.lines d at.fits at.taken not_whole;
  bytes_are = at.whole;
  one_line = one;
}

pub text_ends : (bytes : List ℕ) (cert : Cert) (number : ℕ) → InText bytes [] (draft.Whole cert) number → IsText cert bytes
text_ends bytes cert number at =
    let s = whole_is_spelled at.lines cert at.fits at.taken in
    record {
      spelled = s.0;
      text = at.whole ∙ append-nil (bytes_of_lines at.lines) ∙ ap bytes_of_lines s.1;
    }

pub text_goes_on : (bytes : List ℕ) (next : ℕ) (rest : List ℕ) (cert : Cert) (number : ℕ) → InText bytes (next ∷ rest) (draft.Whole cert) number → IsTrailing bytes number
text_goes_on bytes next rest cert number at =
    let s = whole_is_spelled at.lines cert at.fits at.taken in
    record {
      cert = cert;
      next = next;
      rest = rest;
      spelled = s.0;
      bytes_are = at.whole ∙ ap (λ (ls : List Line). bytes_of_lines ls ++ next ∷ rest) s.1;
      number = at.number_is ∙ ap (λ (ls : List Line). length ls + 1) s.1;
    }

-- ---- counts

text_begins : (l : Line) → (c : ℕ) × (cs : List ℕ) × (line_text l ≡ c ∷ cs)
text_begins line.Head = (113, _, refl)
text_begins (line.Answer (answer.Repair p)) = (97, _, refl)
text_begins (line.Answer answer.Nothing) = (97, _, refl)
text_begins (line.Answer answer.Budget) = (97, _, refl)
text_begins (line.Answer (answer.Best p)) = (97, _, refl)
text_begins (line.Split k c w) = (115, _, refl)
text_begins (line.Refuted w) = (114, _, refl)
text_begins (line.Tight n v (Low z)) = (103, _, refl)
text_begins (line.Tight n v (High z)) = (108, _, refl)
text_begins line.Empty = (101, _, refl)
text_begins (line.Case v) = (99, _, refl)
text_begins line.Dear = (100, _, refl)
text_begins line.Open = (111, _, refl)
text_begins line.End = (101, _, refl)

two_bytes : (l : Line) → 2 ≤ length (line_bytes l)
two_bytes l =
    let t = text_begins l in
    let n : length (line_text l) ≡ suc (length t.1) = ap length t.2 in
    omega (arith, n, length-append (line_text l) (10 ∷ []))

lines_in_bytes : (lines : List Line) → 2 * length lines ≤ length (bytes_of_lines lines)
lines_in_bytes [] = omega arith
lines_in_bytes (l ∷ lines) =
    rw (flat_map-cons line_bytes l lines) (omega (arith, two_bytes l, lines_in_bytes lines, length-append (line_bytes l) (bytes_of_lines lines)))

-- each line takes two bytes at least
pub number_in_bytes : (bytes rest : List ℕ) (d : Draft) (number : ℕ) → InText bytes rest d number → 2 * number + length rest ≤ length bytes + 2
number_in_bytes bytes rest d number at =
    let whole : length bytes ≡ length (bytes_of_lines at.lines) + length rest = ap length at.whole ∙ length-append (bytes_of_lines at.lines) rest in
    omega (arith, whole, lines_in_bytes at.lines, at.number_is)

room_for : (d : Draft) (lines : List Line) → Stands d lines → length lines + 2 < 2 ^ 64 → HasRoom d
room_for draft.Head lines stands h = tt
room_for draft.Answer lines stands h = tt
room_for (draft.Trees a ns t) lines stands h = omega (arith, stands.2, h)
room_for (draft.Steps a ns t row steps r) lines stands h = (stands.3, omega (arith, stands.4, h))
room_for (draft.Whole cert) lines stands h = tt

pub room_in_text : (bytes rest : List ℕ) (d : Draft) (number : ℕ) → InText bytes rest d number → length bytes < 2 ^ 64 → HasRoom d
room_in_text bytes rest d number at h =
    let n = number_in_bytes bytes rest d number at in
    room_for d at.lines (stands_from_start at.lines d at.taken) (omega (arith, n, at.number_is, h))

-- where as many lines were read as there are bytes, no bytes are left
pub none_left : (bytes rest : List ℕ) (d : Draft) → InText bytes rest d (length bytes + 1) → rest ≡ []
none_left bytes [] d at = refl
none_left bytes (b ∷ rest) d at = absurd (let n = number_in_bytes bytes (b ∷ rest) d (length bytes + 1) at in omega (arith, n))

pub empty_cut_short : (bytes rest : List ℕ) (d : Draft) → InText bytes rest d (length bytes + 1) → NotWhole d → IsCutShort bytes
empty_cut_short bytes rest d at not_whole =
    cut_short bytes rest d (length bytes + 1) at not_whole (rw (none_left bytes rest d at) (All-from_recursion (λ b. (b == 10) ≡ false) [] tt))

-- ---- the end

pub ended_right : (bytes behind : List ℕ) (cert : Cert) (number : ℕ) (result : Result Cert CertFault) → InText bytes behind (draft.Whole cert) number → result ≡ ended cert behind number → IfOk result (λ c. IsText c bytes) × IfErr result (λ fault. IsFaultOf bytes fault)
ended_right bytes [] cert number result at e = rw e (text_ends bytes cert number at, tt)
ended_right bytes (b ∷ rest) cert number result at e = rw e (tt, text_goes_on bytes b rest cert number at)

pub not_whole : (d : Draft) → ((cert : Cert) → d ≡ draft.Whole cert → ⊥) → NotWhole d
not_whole draft.Head h = tt
not_whole draft.Answer h = tt
not_whole (draft.Trees a ns t) h = tt
not_whole (draft.Steps a ns t row steps r) h = tt
not_whole (draft.Whole cert) h = h cert refl

pub no_memory_fault : (bytes : List ℕ) (result : Result Cert CertFault) → IsErrAnd result (λ it. it ≡ fault.NoMemory) → IfErr result (λ fault. IsFaultOf bytes fault)
no_memory_fault bytes (Ok cert) h = tt
no_memory_fault bytes (Err e) h = rw h tt
