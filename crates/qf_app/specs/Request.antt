-- The command lines that have a form.
use Rattle.std.specs.Prelude.{ℕ, ◌^◌, Bool, nat_le, List, [], ◌∷◌, ◌++◌, Option, Some, None, if◌then◌else◌, option_and_then}
use Rattle.std.specs.List.{list_any}
use Rattle.std.specs.Str.{bytes_eq}
use lib.Chars.{codes}
use Rattle.qf_csv.specs.Numerals.{count_of}
use Rattle.qf_shell.specs.Inputs.{InputWord}

-- the table and the log that ran on it
pub record Story : Type 0 where
  pub initial : List ℕ
  pub log : List ℕ

-- and what is complained of, and which constants may change
pub record Question : Type 0 where
  pub story : Story
  pub complaints : List ℕ
  pub domains : List ℕ

-- the words of `diagnose INITIAL LOG COMPLAINTS DOMAINS BUDGET CERT`
pub record Diagnosis : Type 0 where
  pub question : Question
  pub budget : ℕ
  pub certificate : List ℕ

-- the words of `check INITIAL LOG COMPLAINTS DOMAINS CERT`
pub record Checking : Type 0 where
  pub question : Question
  pub certificate : List ℕ

-- a command line that has a form
pub data Request : Type 0 where
  diagnose : Diagnosis → Request
  check : Checking → Request
  replay : Story → Request
  params : Story → Request

-- the most nodes of a search
abbrev pub most_budget : ℕ
most_budget = 1000000

-- a number from 1 to the most, in digits without a leading zero
abbrev pub if_at_most : ℕ → ℕ → Option ℕ
if_at_most most number = if nat_le number most then Some number else None

abbrev pub number_up_to : ℕ → List ℕ → Option ℕ
number_up_to most word = option_and_then (if_at_most most) (count_of word)

-- the certificate is put under a name that no input has
abbrev pub is_one_of : List ℕ → List (List ℕ) → Bool
is_one_of word words = list_any (λ (other : List ℕ). bytes_eq other word) words

abbrev pub question_of : List ℕ → List ℕ → List ℕ → List ℕ → Question
question_of initial log complaints domains =
    record { story = record { initial = initial; log = log }; complaints = complaints; domains = domains }

abbrev pub diagnosis_of : Question → List ℕ → Option ℕ → Option Request
diagnosis_of question certificate None = None
diagnosis_of question certificate (Some budget) =
    if is_one_of certificate (question.story.initial ∷ question.story.log ∷ question.complaints ∷ question.domains ∷ [])
    then None
    else Some (diagnose (record { question = question; budget = budget; certificate = certificate }))

abbrev pub story_request : List ℕ → Story → Option Request
story_request word story =
    if bytes_eq word (codes "replay") then Some (replay story)
    else if bytes_eq word (codes "params") then Some (params story)
    else None

abbrev pub checking_of : List ℕ → Question → List ℕ → Option Request
checking_of word question certificate =
    if bytes_eq word (codes "check") then Some (check (record { question = question; certificate = certificate })) else None

-- What the words ask for, where they have a form: the words after the program's name, by their places.
abbrev pub request_of : List (List ℕ) → Option Request
request_of (word ∷ initial ∷ log ∷ []) = story_request word (record { initial = initial; log = log })
request_of (word ∷ initial ∷ log ∷ complaints ∷ domains ∷ certificate ∷ []) =
    checking_of word (question_of initial log complaints domains) certificate
request_of (word ∷ initial ∷ log ∷ complaints ∷ domains ∷ budget ∷ certificate ∷ []) =
    if bytes_eq word (codes "diagnose")
    then diagnosis_of (question_of initial log complaints domains) certificate (number_up_to most_budget budget)
    else None
request_of words = None

-- ---- the files that a command reads, in this order, with their numbers among the refusals and their limits

abbrev pub initial_word : List ℕ → InputWord
initial_word name = record { number = 1; name = name; most = 2 ^ 26 }

abbrev pub log_word : List ℕ → InputWord
log_word name = record { number = 2; name = name; most = 2 ^ 22 }

abbrev pub complaints_word : List ℕ → InputWord
complaints_word name = record { number = 3; name = name; most = 2 ^ 22 }

abbrev pub domains_word : List ℕ → InputWord
domains_word name = record { number = 4; name = name; most = 2 ^ 22 }

-- a certificate is longer than what it is of
abbrev pub certificate_word : List ℕ → InputWord
certificate_word name = record { number = 5; name = name; most = 2 ^ 30 }

abbrev pub story_words : Story → List InputWord
story_words story = initial_word story.initial ∷ log_word story.log ∷ []

abbrev pub question_words : Question → List InputWord
question_words question =
    initial_word question.story.initial ∷ log_word question.story.log
    ∷ complaints_word question.complaints ∷ domains_word question.domains ∷ []

abbrev pub checking_words : Checking → List InputWord
checking_words c = question_words c.question ++ certificate_word c.certificate ∷ []

abbrev pub input_words : Request → List InputWord
input_words (diagnose d) = question_words d.question
input_words (check c) = checking_words c
input_words (replay story) = story_words story
input_words (params story) = story_words story

-- ---- the names under which a command may put files

abbrev pub output_words : Request → List (List ℕ)
output_words (diagnose d) = d.certificate ∷ []
output_words (check c) = []
output_words (replay story) = []
output_words (params story) = []
