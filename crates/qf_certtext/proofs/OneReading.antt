-- No bytes have two readings.
use Rattle.std.proofs.Common.{◌≡◌, ℕ, suc, ◌+◌, ◌==◌, Bool, true, false, cond, List, [], ◌∷◌, ◌++◌, length, refl, sym, ap, ◌∙◌, subst, arith, inl, inr, ◌⊎◌, Option, Some, None, option_and_then, append_assoc, append-nil}
use Rattle.std.specs.List.{slice_split, onto_first}
use Rattle.std.proofs.lemmas.List.Concat.{flat_map-cons}
use Rattle.std.proofs.lemmas.List.Elements.{All-from_recursion}
use Rattle.std.proofs.lemmas.List.Splits.{slice_split_none, slice_split_at}
use Rattle.qf_tree.specs.declared.cert.Cert.{Cert}
use Rattle.qf_tree.specs.declared.line.Line.{Line}
use Rattle.qf_tree.specs.Lines.{cert_lines, line_fits, HasSpelling}
use Rattle.qf_certtext.specs.declared.draft.Draft.{Draft}
use Rattle.qf_certtext.specs.declared.draft.Draft.TheVariants as draft
use Rattle.qf_certtext.specs.Drafts.{draft_after, drafted}
use Rattle.qf_certtext.specs.Spelling.{Spells, line_text, line_bytes, bytes_of_lines, spelling}
use Rattle.qf_certtext.specs.Words.{words_of, line_of_words}
use Rattle.qf_certtext.specs.Texts.{IsText, IsBadLine, IsCutShort, IsTrailing, IsOneLine, Begins, GoesOn, Reading, whole, bad_line, cut_short, trailing, IsReading, ReadingsAreOne, SpellingsDoNotGoOn}
use Rattle.qf_certtext.proofs.Drafting.{drafted_append}
use Rattle.qf_certtext.proofs.Accepting.{AllFit, NotWhole, chained, whole_is_spelled, goes_on, begun_is_taken, lines_accepted, fits_from, fit_append}
use Rattle.qf_certtext.proofs.Found.{spelled_is_read, read_is_spelled}
use Rattle.qf_certtext.proofs.Clean.{no_feed}
use Rattle.qf_certtext.proofs.InText.{next_draft}

some_same : {X : Type 0} (a b : X) → (◌≡◌ {A = Option X} (Some a) (Some b)) → a ≡ b
some_same a b e = cc

-- ---- the pieces between line feeds, and what they are

abbrev feeds : List ℕ → List (List ℕ)
feeds bytes = slice_split (λ b. b == 10) bytes

abbrev finished : Cert → ℕ → List (List ℕ) → Reading
finished cert n [] = cut_short
finished cert n ([] ∷ []) = whole cert
finished cert n (piece ∷ pieces) = trailing n

abbrev stepped : Option Draft → ℕ → List (List ℕ) → (Draft → Reading) → Reading
stepped o n [] more = cut_short
stepped None n (p ∷ ps) more = bad_line n
stepped (Some draft.Head) n (p ∷ ps) more = more draft.Head
stepped (Some draft.Answer) n (p ∷ ps) more = more draft.Answer
stepped (Some (draft.Trees a ns t)) n (p ∷ ps) more = more (draft.Trees a ns t)
stepped (Some (draft.Steps a ns t row steps r)) n (p ∷ ps) more = more (draft.Steps a ns t row steps r)
stepped (Some (draft.Whole cert)) n (p ∷ ps) more = finished cert (n + 1) (p ∷ ps)

abbrev scanned : List (List ℕ) → Draft → ℕ → Reading
scanned [] d n = cut_short
scanned (p ∷ ps) d n = stepped (next_draft d p) n ps (λ next. scanned ps next (n + 1))

abbrev reading_of : List ℕ → Reading
reading_of bytes = scanned (feeds bytes) draft.Head 1

onto_some : (byte : ℕ) (pieces : List (List ℕ)) → (first : List ℕ) × (rest : List (List ℕ)) × (onto_first byte pieces ≡ (byte ∷ first) ∷ rest)
onto_some byte [] = ([], [], refl)
onto_some byte (p ∷ ps) = (p, ps, refl)

cond_piece : (b : Bool) (byte : ℕ) (pieces : List (List ℕ)) → (first : List ℕ) × (rest : List (List ℕ)) × (cond b ([] ∷ pieces) (onto_first byte pieces) ≡ first ∷ rest)
cond_piece true byte pieces = ([], pieces, refl)
cond_piece false byte pieces = let o = onto_some byte pieces in (byte ∷ o.0, o.1, o.2)

some_piece : (bytes : List ℕ) → (first : List ℕ) × (rest : List (List ℕ)) × (feeds bytes ≡ first ∷ rest)
some_piece [] = ([], [], refl)
some_piece (byte ∷ bytes) = cond_piece (byte == 10) byte (feeds bytes)

piece_first : (front rest : List ℕ) → IsOneLine front → feeds (front ++ 10 ∷ rest) ≡ front ∷ feeds rest
piece_first front rest one = slice_split_at (λ b. b == 10) front 10 rest one refl

line_first : (l : Line) (rest : List ℕ) → line_fits l ≡ true → feeds (line_bytes l ++ rest) ≡ line_text l ∷ feeds rest
line_first l rest fits =
    ap feeds (append_assoc (line_text l) (10 ∷ []) rest)
    ∙ piece_first (line_text l) rest (All-from_recursion (λ b. (b == 10) ≡ false) (line_text l) (no_feed l fits))

-- ---- over whole lines

goes_step : (next : Draft) (n : ℕ) (pieces : List (List ℕ)) (more : Draft → Reading) (p : List ℕ) (ps : List (List ℕ)) → pieces ≡ p ∷ ps → NotWhole next → stepped (Some next) n pieces more ≡ more next
goes_step draft.Head n pieces more p ps e h = rw e refl
goes_step draft.Answer n pieces more p ps e h = rw e refl
goes_step (draft.Trees a ns t) n pieces more p ps e h = rw e refl
goes_step (draft.Steps a ns t row steps r) n pieces more p ps e h = rw e refl
goes_step (draft.Whole cert) n pieces more p ps e h = absurd h

ends_step : (cert : Cert) (n : ℕ) (pieces : List (List ℕ)) (more : Draft → Reading) (p : List ℕ) (ps : List (List ℕ)) → pieces ≡ p ∷ ps → stepped (Some (draft.Whole cert)) n pieces more ≡ finished cert (n + 1) pieces
ends_step cert n pieces more p ps e = rw e refl

none_after_whole : (cert : Cert) (lines : List Line) (d : Draft) → drafted (draft.Whole cert) lines ≡ Some d → (lines ≡ []) × (draft.Whole cert ≡ d)
none_after_whole cert [] d e = (refl, some_same (draft.Whole cert) d e)
none_after_whole cert (l ∷ lines) d e = cc

not_whole_before : (d next : Draft) (lines : List Line) → drafted d lines ≡ Some next → NotWhole next → NotWhole d
not_whole_before draft.Head next lines e h = tt
not_whole_before draft.Answer next lines e h = tt
not_whole_before (draft.Trees a ns t) next lines e h = tt
not_whole_before (draft.Steps a ns t row steps r) next lines e h = tt
not_whole_before (draft.Whole cert) next lines e h =
    subst NotWhole (sym ((none_after_whole cert lines next e).1)) h

spelled_draft : (d : Draft) (l : Line) → line_fits l ≡ true → next_draft d (line_text l) ≡ draft_after d l
spelled_draft d l fits =
    ap (λ o. option_and_then (draft_after d) o) (spelled_is_read (line_text l) l (record { fits = fits; text = refl }))

first_line : (d : Draft) (n : ℕ) (l : Line) (lines : List Line) (rest : List ℕ) → line_fits l ≡ true → scanned (feeds (bytes_of_lines (l ∷ lines) ++ rest)) d n ≡ stepped (draft_after d l) n (feeds (bytes_of_lines lines ++ rest)) (λ next. scanned (feeds (bytes_of_lines lines ++ rest)) next (n + 1))
first_line d n l lines rest fits =
    let bytes = bytes_of_lines lines ++ rest in
    ap (λ (bs : List ℕ). scanned (feeds bs) d n) (ap (λ (bs : List ℕ). bs ++ rest) (flat_map-cons line_bytes l lines) ∙ append_assoc (line_bytes l) (bytes_of_lines lines) rest)
    ∙ ap (λ (ps : List (List ℕ)). scanned ps d n) (line_first l bytes fits)
    ∙ ap (λ o. stepped o n (feeds bytes) (λ next. scanned (feeds bytes) next (n + 1))) (spelled_draft d l fits)

over_lines : (lines : List Line) (d next : Draft) (n : ℕ) (rest : List ℕ) → AllFit lines → drafted d lines ≡ Some next → NotWhole next → scanned (feeds (bytes_of_lines lines ++ rest)) d n ≡ scanned (feeds rest) next (n + length lines)
over_lines [] d next n rest fits e h =
    let k : n ≡ n + 0 = omega arith in
    ap (λ x. scanned (feeds rest) x n) (some_same d next e) ∙ ap (λ m. scanned (feeds rest) next m) k
over_lines (l ∷ lines) d next n rest fits e h =
    let step = chained (λ m. drafted m lines) (draft_after d l) next e in
    let piece = some_piece (bytes_of_lines lines ++ rest) in
    let k : n + 1 + length lines ≡ n + suc (length lines) = omega arith in
    first_line d n l lines rest fits.0
    ∙ ap (λ o. stepped o n (feeds (bytes_of_lines lines ++ rest)) (λ m. scanned (feeds (bytes_of_lines lines ++ rest)) m (n + 1))) step.1
    ∙ goes_step step.0 n (feeds (bytes_of_lines lines ++ rest)) (λ m. scanned (feeds (bytes_of_lines lines ++ rest)) m (n + 1)) piece.0 piece.1 piece.2 (not_whole_before step.0 next lines step.2 h)
    ∙ over_lines lines step.0 next (n + 1) rest fits.1 step.2 h
    ∙ ap (λ m. scanned (feeds rest) next m) k

-- the draft behind a line is whole, and then it is the last one, or it is not
abbrev WholeOrNot : Draft → Type 0
WholeOrNot d = NotWhole d ⊎ ((cert : Cert) × (d ≡ draft.Whole cert))

whole_or_not : (d : Draft) → WholeOrNot d
whole_or_not draft.Head = inl tt
whole_or_not draft.Answer = inl tt
whole_or_not (draft.Trees a ns t) = inl tt
whole_or_not (draft.Steps a ns t row steps r) = inl tt
whole_or_not (draft.Whole cert) = inr (cert, refl)

whole_same : (a b : Cert) → draft.Whole a ≡ draft.Whole b → a ≡ b
whole_same a b e = cc

to_the_end : (lines : List Line) (d : Draft) (cert : Cert) (n : ℕ) (rest : List ℕ) → AllFit lines → drafted d lines ≡ Some (draft.Whole cert) → NotWhole d → scanned (feeds (bytes_of_lines lines ++ rest)) d n ≡ finished cert (n + length lines) (feeds rest)
to_the_end [] d cert n rest fits e h =
    absurd (subst NotWhole (some_same d (draft.Whole cert) e) h)
to_the_end (l ∷ lines) d cert n rest fits e h =
    let step = chained (λ m. drafted m lines) (draft_after d l) (draft.Whole cert) e in
    let piece = some_piece (bytes_of_lines lines ++ rest) in
    first_line d n l lines rest fits.0
    ∙ ap (λ o. stepped o n (feeds (bytes_of_lines lines ++ rest)) (λ m. scanned (feeds (bytes_of_lines lines ++ rest)) m (n + 1))) step.1
    ∙ elim (whole_or_not step.0) [
      | inl not ↦
          let k : n + 1 + length lines ≡ n + suc (length lines) = omega arith in
          goes_step step.0 n (feeds (bytes_of_lines lines ++ rest)) (λ m. scanned (feeds (bytes_of_lines lines ++ rest)) m (n + 1)) piece.0 piece.1 piece.2 not
          ∙ to_the_end lines step.0 cert (n + 1) rest fits.1 step.2 not
          ∙ ap (λ m. finished cert m (feeds rest)) k
      | inr w ↦
          let last = none_after_whole w.0 lines (draft.Whole cert) (subst (λ m. drafted m lines ≡ Some (draft.Whole cert)) w.1 step.2) in
          let k : n + 1 ≡ n + suc (length lines) = let z : length lines ≡ 0 = ap length last.0 in omega (arith, z) in
          ap (λ m. stepped (Some m) n (feeds (bytes_of_lines lines ++ rest)) (λ m. scanned (feeds (bytes_of_lines lines ++ rest)) m (n + 1))) (w.1 ∙ last.1)
          ∙ ends_step cert n (feeds (bytes_of_lines lines ++ rest)) (λ m. scanned (feeds (bytes_of_lines lines ++ rest)) m (n + 1)) piece.0 piece.1 piece.2
          ∙ ap (λ (ls : List Line). finished cert (n + 1) (feeds (bytes_of_lines ls ++ rest))) last.0
          ∙ ap (λ m. finished cert m (feeds rest)) k
    ]

-- ---- each reading

over_certificate : (cert : Cert) (rest : List ℕ) → HasSpelling cert → reading_of (spelling cert ++ rest) ≡ finished cert (1 + length (cert_lines cert)) (feeds rest)
over_certificate cert rest h =
    to_the_end (cert_lines cert) draft.Head cert 1 rest (fits_from cert h) (lines_accepted cert h.tree) tt

is_whole_text : (cert : Cert) (bytes : List ℕ) → IsText cert bytes → reading_of bytes ≡ whole cert
is_whole_text cert bytes h =
    ap reading_of (h.text ∙ sym (append-nil (spelling cert))) ∙ over_certificate cert [] h.spelled

more_pieces : (b : Bool) (cert : Cert) (n byte : ℕ) (p : List ℕ) (ps : List (List ℕ)) → finished cert n (cond b ([] ∷ p ∷ ps) (onto_first byte (p ∷ ps))) ≡ trailing n
more_pieces true cert n byte p ps = refl
more_pieces false cert n byte p ps = refl

is_trailing_text : (bytes : List ℕ) (n : ℕ) → IsTrailing bytes n → reading_of bytes ≡ trailing n
is_trailing_text bytes n h =
    let piece = some_piece h.rest in
    let k : 1 + length (cert_lines h.cert) ≡ n = omega (arith, h.number) in
    ap reading_of h.bytes_are ∙ over_certificate h.cert (h.next ∷ h.rest) h.spelled
    ∙ ap (λ (ps : List (List ℕ)). finished h.cert (1 + length (cert_lines h.cert)) (cond (h.next == 10) ([] ∷ ps) (onto_first h.next ps))) piece.2
    ∙ more_pieces (h.next == 10) h.cert (1 + length (cert_lines h.cert)) h.next piece.0 piece.1
    ∙ ap trailing k

-- what a certificate that goes on has begun with
fit_front : (xs ys : List Line) → AllFit (xs ++ ys) → AllFit xs
fit_front [] ys h = tt
fit_front (x ∷ xs) ys h = (h.0, fit_front xs ys h.1)

begun_fits : (lines : List Line) → Begins lines → AllFit lines
begun_fits lines b = fit_front lines b.rest (subst AllFit b.lines_are (fits_from b.cert b.spelled))

abbrev Underway : List Line → Type 0
Underway lines = (d : Draft) × (drafted draft.Head lines ≡ Some d) × NotWhole d × AllFit lines

takes_more : (d : Draft) (l : Line) (next : Draft) → draft_after d l ≡ Some next → NotWhole d
takes_more draft.Head l next e = tt
takes_more draft.Answer l next e = tt
takes_more (draft.Trees a ns t) l next e = tt
takes_more (draft.Steps a ns t row steps r) l next e = tt
takes_more (draft.Whole cert) l next e = cc

underway : (lines : List Line) → GoesOn lines → Underway lines
underway lines g =
    let taken = begun_is_taken (lines ++ g.next ∷ []) g.begins in
    let two = chained (λ m. drafted m (g.next ∷ [])) (drafted draft.Head lines) taken.0 (sym (drafted_append draft.Head lines (g.next ∷ [])) ∙ taken.1) in
    let last = chained (λ m. drafted m []) (draft_after two.0 g.next) taken.0 two.2 in
    (two.0, two.1, takes_more two.0 g.next last.0 last.1, fit_front lines (g.next ∷ []) (begun_fits (lines ++ g.next ∷ []) g.begins))

-- lines that are taken begin a certificate
taken_begins : (lines : List Line) (d : Draft) → AllFit lines → drafted draft.Head lines ≡ Some d → Begins lines
taken_begins lines d fits e =
    elim (whole_or_not d) [
      | inl not ↦
          let g = goes_on lines d fits e not in
          record {
            cert = g.begins.cert;
            rest = g.next ∷ g.begins.rest;
            spelled = g.begins.spelled;
            lines_are = g.begins.lines_are ∙ append_assoc lines (g.next ∷ []) g.begins.rest;
          }
      | inr w ↦
          let s = whole_is_spelled lines w.0 fits (e ∙ ap Some w.1) in
          record { cert = w.0; rest = []; spelled = s.0; lines_are = sym s.1 ∙ sym (append-nil lines) }
    ]

option_cases : {X : Type 0} (o : Option X) → (o ≡ None) ⊎ ((x : X) × (o ≡ Some x))
option_cases None = inl refl
option_cases (Some x) = inr (x, refl)

no_next : (lines : List Line) (d : Draft) (bad : List ℕ) → AllFit lines → drafted draft.Head lines ≡ Some d → ((l : Line) → Spells l bad → Begins (lines ++ l ∷ []) → ⊥) → next_draft d bad ≡ None
no_next lines d bad fits e none =
    elim (option_cases (next_draft d bad)) [
      | inl h ↦ h
      | inr h ↦
          let read = chained (draft_after d) (line_of_words (words_of bad)) h.0 h.1 in
          let spells = read_is_spelled bad read.0 read.1 in
          let taken : drafted draft.Head (lines ++ read.0 ∷ []) ≡ Some h.0 =
          drafted_append draft.Head lines (read.0 ∷ []) ∙ ap (λ o. option_and_then (λ m. drafted m (read.0 ∷ [])) o) e ∙ ap (λ o. option_and_then (λ m. drafted m []) o) read.2 in
          absurd (none read.0 spells (taken_begins (lines ++ read.0 ∷ []) h.0 (fit_append lines (read.0 ∷ []) fits (spells.fits, tt)) taken))
    ]

bad_step : (o : Option Draft) (n : ℕ) (pieces : List (List ℕ)) (more : Draft → Reading) (p : List ℕ) (ps : List (List ℕ)) → o ≡ None → pieces ≡ p ∷ ps → stepped o n pieces more ≡ bad_line n
bad_step o n pieces more p ps e f = rw (e, f) refl

is_bad_text : (bytes : List ℕ) (n : ℕ) → IsBadLine bytes n → reading_of bytes ≡ bad_line n
is_bad_text bytes n h =
    let on = underway h.lines h.before in
    let piece = some_piece h.rest in
    let k : 1 + length h.lines ≡ n = omega (arith, h.number) in
    ap reading_of h.bytes_are
    ∙ over_lines h.lines draft.Head on.0 1 (h.bad ++ 10 ∷ h.rest) on.3 on.1 on.2
    ∙ ap (λ (ps : List (List ℕ)). scanned ps on.0 (1 + length h.lines)) (piece_first h.bad h.rest h.one_line)
    ∙ bad_step (next_draft on.0 h.bad) (1 + length h.lines) (feeds h.rest) (λ m. scanned (feeds h.rest) m (1 + length h.lines + 1)) piece.0 piece.1 (no_next h.lines on.0 h.bad on.3 on.1 h.none) piece.2
    ∙ ap bad_line k

is_cut_text : (bytes : List ℕ) → IsCutShort bytes → reading_of bytes ≡ cut_short
is_cut_text bytes h =
    let on = underway h.lines h.before in
    ap reading_of h.bytes_are
    ∙ over_lines h.lines draft.Head on.0 1 h.tail on.3 on.1 on.2
    ∙ ap (λ (ps : List (List ℕ)). scanned ps on.0 (1 + length h.lines)) (slice_split_none (λ b. b == 10) h.tail h.one_line)

is_reading_of : (bytes : List ℕ) (one : Reading) → IsReading one bytes → reading_of bytes ≡ one
is_reading_of bytes (whole cert) h = is_whole_text cert bytes h
is_reading_of bytes (bad_line n) h = is_bad_text bytes n h
is_reading_of bytes cut_short h = is_cut_text bytes h
is_reading_of bytes (trailing n) h = is_trailing_text bytes n h

pub readings_are_one : ReadingsAreOne
readings_are_one bytes one other h k = sym (is_reading_of bytes one h) ∙ is_reading_of bytes other k

whole_reading : (a b : Cert) → whole a ≡ whole b → a ≡ b
whole_reading a b e = cc

not_trailing : {C : Type 0} (cert : Cert) (n : ℕ) → whole cert ≡ trailing n → C
not_trailing cert n e = cc

pub spellings_do_not_go_on : SpellingsDoNotGoOn
spellings_do_not_go_on one other [] h k e =
    (refl, sym (whole_reading other one (readings_are_one (spelling other) (whole other) (whole one) (record { spelled = k; text = refl }) (record { spelled = h; text = e ∙ append-nil (spelling one) }))))
spellings_do_not_go_on one other (c ∷ rest) h k e =
    not_trailing other (length (cert_lines one) + 1) (readings_are_one (spelling other) (whole other) (trailing (length (cert_lines one) + 1)) (record { spelled = k; text = refl }) (record { cert = one; next = c; rest = rest; spelled = h; bytes_are = e; number = refl }))
