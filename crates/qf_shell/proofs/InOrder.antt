-- What is known of the files that were read, one by one.
use Rattle.std.proofs.Common.{◌≡◌, ℕ, zero, suc, ◌+◌, ◌<◌, ◌≤◌, List, [], ◌∷◌, ◌++◌, length, take, drop, get_or, Option, Some, None, IfSome, Result, Ok, Err, IsErrOf, inl, inr, refl, sym, ◌∙◌, ap, subst, arith, append_assoc}
use Rattle.std.proofs.Math.Seq.{split_at}
use Rattle.std.proofs.lemmas.Grind.{take_at_read}
use Rattle.std.proofs.lemmas.List.{map-append, take-append-drop}
use Rattle.qf_base.specs.Desk.{DeskState, Rose, NeverFalls}
use Rattle.qf_shell.specs.Inputs.{InputWord, word_of, words_of, IsRead, AreRead, reads_of, WereRead, IsTooLong, FirstTooLong, AnyReadRose}
use Rattle.qf_shell.specs.declared.files.Input.{Input}

-- one more file was read
pub read_more : (desk : DeskState) (inputs : List InputWord) (files : List (List ℕ)) (input : InputWord) (bytes : List ℕ)
    → AreRead desk inputs files → IsRead desk input bytes → AreRead desk (inputs ++ input ∷ []) (files ++ bytes ∷ [])
read_more desk [] [] input bytes read one = (one, tt)
read_more desk [] (f ∷ files) input bytes read one = absurd read
read_more desk (i ∷ inputs) [] input bytes read one = absurd read
read_more desk (i ∷ inputs) (f ∷ files) input bytes read one = (read.0, read_more desk inputs files input bytes read.1 one)

-- a file that was read is not too long
read_fits : (held : Option (List ℕ)) (bytes : List ℕ) (most : ℕ) → length bytes ≤ most → IfSome held (λ h. bytes ≡ h) → IfSome held (λ h. length h ≤ most)
read_fits None bytes most short told = tt
read_fits (Some h) bytes most short told = subst (λ (b : List ℕ). length b ≤ most) told short

-- behind files that were read, the one that is too long is the first
pub long_behind : (desk : DeskState) (inputs : List InputWord) (files : List (List ℕ)) (input : InputWord) (others : List InputWord)
    → AreRead desk inputs files → IsTooLong desk input → FirstTooLong desk (inputs ++ input ∷ others) input.number
long_behind desk [] [] input others read long = inl (refl, long)
long_behind desk [] (f ∷ files) input others read long = absurd read
long_behind desk (i ∷ inputs) [] input others read long = absurd read
long_behind desk (i ∷ inputs) (f ∷ files) input others read long =
    inr (read_fits (desk.held i.name) f i.most read.0.within read.0.told, long_behind desk inputs files input others read.1 long)

-- ---- the file at a place

held_read : (old mid : DeskState) (input : InputWord) (bytes : List ℕ) → mid.held ≡ old.held → IsRead mid input bytes → IsRead old input bytes
held_read old mid input bytes same read =
    record { within = read.within; told = subst (λ (held : List ℕ → Option (List ℕ)). IfSome (held input.name) (λ h. bytes ≡ h)) same read.told }

held_long : (old mid : DeskState) (input : InputWord) → mid.held ≡ old.held → IsTooLong mid input → IsTooLong old input
held_long old mid input same long = subst (λ (held : List ℕ → Option (List ℕ)). IfSome (held input.name) (λ h. input.most < length h)) same long

pub read_step : (old mid : DeskState) (inputs : List Input) (files : List (List ℕ)) (bytes : List ℕ) (i : ℕ) (d : Input) → i < length inputs → mid.held ≡ old.held
    → AreRead old (words_of (take i inputs)) files → IsRead mid (word_of (get_or inputs i d)) bytes
    → AreRead old (words_of (take (i + 1) inputs)) (files ++ bytes ∷ [])
read_step old mid inputs files bytes i d within same read one =
    let e : words_of (take (i + 1) inputs) ≡ words_of (take i inputs) ++ word_of (get_or inputs i d) ∷ [] =
    ap words_of (take_at_read inputs i d within).1 ∙ map-append word_of (take i inputs) (get_or inputs i d ∷ []) in
    subst (λ (ws : List InputWord). AreRead old ws (files ++ bytes ∷ [])) (sym e)
    (read_more old (words_of (take i inputs)) files (word_of (get_or inputs i d)) bytes read (held_read old mid (word_of (get_or inputs i d)) bytes same one))

pub long_here : (old mid : DeskState) (inputs : List Input) (files : List (List ℕ)) (i : ℕ) (d : Input) → i < length inputs → mid.held ≡ old.held
    → AreRead old (words_of (take i inputs)) files → IsTooLong mid (word_of (get_or inputs i d)) → FirstTooLong old (words_of inputs) (word_of (get_or inputs i d)).number
long_here old mid inputs files i d within same read long =
    let word = word_of (get_or inputs i d) in
    let e : words_of inputs ≡ words_of (take i inputs) ++ word ∷ words_of (drop (suc i) inputs) =
    ap words_of (split_at inputs i d within) ∙ map-append word_of (take i inputs) (get_or inputs i d ∷ drop (suc i) inputs) in
    subst (λ (ws : List InputWord). FirstTooLong old ws word.number) (sym e)
    (long_behind old (words_of (take i inputs)) files word (words_of (drop (suc i) inputs)) read (held_long old mid word same long))

pub rose_here : (old mid new : DeskState) (inputs : List Input) (i : ℕ) (d : Input) → i < length inputs → NeverFalls old mid
    → Rose (mid.read_faults (word_of (get_or inputs i d)).name) (new.read_faults (word_of (get_or inputs i d)).name) → AnyReadRose (words_of inputs) old new
rose_here old mid new [] i d within fell rose = absurd (omega (arith, within))
rose_here old mid new (input ∷ inputs) zero d within fell rose =
    let h : old.read_faults input.name.now ≤ mid.read_faults input.name.now = fell.reads input.name.now in
    inl (omega (arith, h, rose))
rose_here old mid new (input ∷ inputs) (suc i) d within fell rose =
    let w : i < length inputs = omega (arith, within) in
    inr (rose_here old mid new inputs i d w fell rose)

-- ---- what was read so far

-- the reads of the first inputs are those of all inputs, while there are no more files
reads_first : (desk : DeskState) (inputs others : List InputWord) (files : List (List ℕ)) → AreRead desk inputs files → reads_of (inputs ++ others) files ≡ reads_of inputs files
reads_first desk [] [] [] read = refl
reads_first desk [] (o ∷ others) [] read = refl
reads_first desk [] others (f ∷ files) read = absurd read
reads_first desk (i ∷ inputs) others [] read = absurd read
reads_first desk (i ∷ inputs) others (f ∷ files) read = ap (λ (l : List (List ℕ × List ℕ)). (i.name, f) ∷ l) (reads_first desk inputs others files read.1)

reads_next : (desk : DeskState) (inputs : List InputWord) (files : List (List ℕ)) (input : InputWord) (bytes : List ℕ)
    → AreRead desk inputs files → reads_of (inputs ++ input ∷ []) (files ++ bytes ∷ []) ≡ reads_of inputs files ++ (input.name, bytes) ∷ []
reads_next desk [] [] input bytes read = refl
reads_next desk [] (f ∷ files) input bytes read = absurd read
reads_next desk (i ∷ inputs) [] input bytes read = absurd read
reads_next desk (i ∷ inputs) (f ∷ files) input bytes read = ap (λ (l : List (List ℕ × List ℕ)). (i.name, f) ∷ l) (reads_next desk inputs files input bytes read.1)

pub were_read_step : (old mid new : DeskState) (inputs : List Input) (files : List (List ℕ)) (bytes : List ℕ) (i : ℕ) (d : Input) → i < length inputs
    → AreRead old (words_of (take i inputs)) files → WereRead (words_of (take i inputs)) files old mid
    → new.was_read ≡ mid.was_read ++ (((word_of (get_or inputs i d)).name, bytes) ∷ [])
    → WereRead (words_of (take (i + 1) inputs)) (files ++ bytes ∷ []) old new
were_read_step old mid new inputs files bytes i d within read before noted =
    let words = words_of (take i inputs) in
    let word = word_of (get_or inputs i d) in
    let e : words_of (take (i + 1) inputs) ≡ words ++ word ∷ [] =
    ap words_of (take_at_read inputs i d within).1 ∙ map-append word_of (take i inputs) (get_or inputs i d ∷ []) in
    subst (λ (ws : List InputWord). WereRead ws (files ++ bytes ∷ []) old new) (sym e)
    (noted
    ∙ (ap (λ (l : List (List ℕ × List ℕ)). l ++ (word.name, bytes) ∷ []) before
    ∙ (append_assoc old.was_read (reads_of words files) ((word.name, bytes) ∷ [])
    ∙ ap (λ (l : List (List ℕ × List ℕ)). old.was_read ++ l) (sym (reads_next old words files word bytes read)))))

-- a reading that ends at an input read those before it
pub were_read_here : (old mid new : DeskState) (inputs : List Input) (files : List (List ℕ)) (i : ℕ)
    → AreRead old (words_of (take i inputs)) files → WereRead (words_of (take i inputs)) files old mid → new.was_read ≡ mid.was_read
    → (read : List (List ℕ)) × WereRead (words_of inputs) read old new
were_read_here old mid new inputs files i read before same =
    let words = words_of (take i inputs) in
    let e : words ++ words_of (drop i inputs) ≡ words_of inputs = sym (map-append word_of (take i inputs) (drop i inputs)) ∙ ap words_of (take-append-drop i inputs) in (
      files,
      same ∙ (before ∙ ap (λ (l : List (List ℕ × List ℕ)). old.was_read ++ l)
          (sym (reads_first old words (words_of (drop i inputs)) files read) ∙ ap (λ (ws : List InputWord). reads_of ws files) e)),
    )

-- the same error, beside other values
error_in : {A E : Type 0} → Result A E → E → E
error_in (Ok a) e = e
error_in (Err f) e = f

pub same_error : {A B E : Type 0} (e x : E) → IsErrOf {T = A} (Err e) x → IsErrOf {T = B} (Err e) x
unfolding error_in
same_error {A = A} {E = E} e x is = ap Err (ap (λ (r : Result A E). error_in r e) is)
