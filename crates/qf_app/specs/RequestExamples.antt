-- Command lines, worked out.
use Rattle.std.specs.Prelude.{◌≡◌, ℕ, List, [], ◌∷◌, Some, None, refl}
use lib.Chars.{codes}
use Rattle.qf_app.specs.Request.{Request, diagnose, check, replay, params, question_of, request_of}

-- the words `diagnose rates.csv tax.sql wishes.json domains.csv`, with a budget and a name behind them
abbrev tax_words : List ℕ → List ℕ → List (List ℕ)
tax_words budget certificate =
    codes "diagnose" ∷ codes "rates.csv" ∷ codes "tax.sql" ∷ codes "wishes.json" ∷ codes "domains.csv" ∷ budget ∷ certificate ∷ []

abbrev tax_request : ℕ → Request
tax_request budget = diagnose (record {
  question = question_of (codes "rates.csv") (codes "tax.sql") (codes "wishes.json") (codes "domains.csv");
  budget = budget;
  certificate = codes "tax.cert";
})

diagnosed : request_of (tax_words (codes "5") (codes "tax.cert")) ≡ Some (tax_request 5)
diagnosed = refl

greatest_budget : request_of (tax_words (codes "1000000") (codes "tax.cert")) ≡ Some (tax_request 1000000)
greatest_budget = refl

budget_too_great : request_of (tax_words (codes "1000001") (codes "tax.cert")) ≡ None
budget_too_great = refl

no_budget : request_of (tax_words (codes "0") (codes "tax.cert")) ≡ None
no_budget = refl

leading_zero : request_of (tax_words (codes "05") (codes "tax.cert")) ≡ None
leading_zero = refl

plus_sign : request_of (tax_words (codes "+5") (codes "tax.cert")) ≡ None
plus_sign = refl

five_words : request_of (codes "diagnose" ∷ codes "rates.csv" ∷ codes "tax.sql" ∷ codes "wishes.json" ∷ codes "domains.csv" ∷ []) ≡ None
five_words = refl

no_words : request_of [] ≡ None
no_words = refl

-- the certificate would be put under the log's name
certificate_is_log : request_of (tax_words (codes "5") (codes "tax.sql")) ≡ None
certificate_is_log = refl

-- a name that two inputs have is fine
one_input_twice : request_of (codes "diagnose" ∷ codes "a" ∷ codes "b" ∷ codes "c" ∷ codes "c" ∷ codes "5" ∷ codes "d" ∷ [])
    ≡ Some (diagnose (record { question = question_of (codes "a") (codes "b") (codes "c") (codes "c"); budget = 5; certificate = codes "d" }))
one_input_twice = refl

replayed : request_of (codes "replay" ∷ codes "rates.csv" ∷ codes "tax.sql" ∷ []) ≡ Some (replay (record { initial = codes "rates.csv"; log = codes "tax.sql" }))
replayed = refl

listed : request_of (codes "params" ∷ codes "rates.csv" ∷ codes "tax.sql" ∷ []) ≡ Some (params (record { initial = codes "rates.csv"; log = codes "tax.sql" }))
listed = refl

-- the certificate may be an input
checked : request_of (codes "check" ∷ codes "a" ∷ codes "b" ∷ codes "c" ∷ codes "d" ∷ codes "b" ∷ [])
    ≡ Some (check (record { question = question_of (codes "a") (codes "b") (codes "c") (codes "d"); certificate = codes "b" }))
checked = refl

checked_without_certificate : request_of (codes "check" ∷ codes "a" ∷ codes "b" ∷ codes "c" ∷ codes "d" ∷ []) ≡ None
checked_without_certificate = refl

-- the words of one command with the number of words of another
other_command : request_of (codes "replay" ∷ codes "a" ∷ codes "b" ∷ codes "c" ∷ codes "d" ∷ codes "5" ∷ codes "e" ∷ []) ≡ None
other_command = refl

short_diagnose : request_of (codes "diagnose" ∷ codes "rates.csv" ∷ codes "tax.sql" ∷ []) ≡ None
short_diagnose = refl
