-- A chain, one item after the other.
use Rattle.std.proofs.Common.{◌≡◌, ℕ, suc, ◌+◌, ◌-◌, ◌<◌, ◌≤◌, Bool, List, [], ◌∷◌, ◌++◌, refl, sym, ap, ◌∙◌, append_assoc, arith, Option, Some, None}
use Rattle.std.specs.Prelude.{option_map}
use Rattle.qf_grammar.specs.declared.lexeme.Lexeme.{Lexeme}
use Rattle.qf_grammar.specs.Spelling.{Lexemes}
use Rattle.qf_grammar.specs.Reading.{Reader, behind, chain}

-- the items that were read, and those that are still read
abbrev pub with_front : {A : Type 0} → List A → Option (List A × Lexemes) → Option (List A × Lexemes)
with_front front o = option_map (λ q. (front ++ q.0, q.1)) o

front_push : {A : Type 0} (front : List A) (a : A) (o : Option (List A × Lexemes)) → with_front front (option_map (λ q. (a ∷ q.0, q.1)) o) ≡ with_front (front ++ a ∷ []) o
front_push front a None = refl
front_push front a (Some q) = ap (λ xs. Some (xs, q.1)) (sym (append_assoc front (a ∷ []) q.0))

pub chain_more : {A : Type 0} (item : Reader A) (sep : Lexeme → Bool) (front : List A) (count i : ℕ) (rest : Lexemes) (a : A) (after next : Lexemes) (all : Option (List A × Lexemes)) → i < count
    → Some (a, after) ≡ item rest → Some next ≡ behind sep after → with_front front (chain item sep (count - i) rest) ≡ all → with_front (front ++ a ∷ []) (chain item sep (count - (i + 1)) next) ≡ all
unfolding chain
chain_more item sep front count i rest a after next all lt e f h =
    let k : count - i ≡ suc (count - (i + 1)) = omega arith in
    let one : with_front front (chain item sep (count - i) rest) ≡ with_front (front ++ a ∷ []) (chain item sep (count - (i + 1)) next) = rw (k, ← e, ← f) (front_push front a (chain item sep (count - (i + 1)) next)) in
    sym one ∙ h

pub chain_none : {A : Type 0} (item : Reader A) (sep : Lexeme → Bool) (front : List A) (count i : ℕ) (rest : Lexemes) (all : Option (List A × Lexemes)) → i < count
    → ◌≡◌ {A = Option (A × Lexemes)} None (item rest) → with_front front (chain item sep (count - i) rest) ≡ all → None ≡ all
unfolding chain
chain_none {A} item sep front count i rest all lt e h =
    let k : count - i ≡ suc (count - (i + 1)) = omega arith in
    let one : with_front front (chain item sep (count - i) rest) ≡ None = rw (k, ← e) refl in
    sym one ∙ h

pub chain_last : {A : Type 0} (item : Reader A) (sep : Lexeme → Bool) (front : List A) (count i : ℕ) (rest : Lexemes) (a : A) (after : Lexemes) (all : Option (List A × Lexemes)) → i < count
    → Some (a, after) ≡ item rest → ◌≡◌ {A = Option (Lexemes)} None (behind sep after) → with_front front (chain item sep (count - i) rest) ≡ all → Some (front ++ a ∷ [], after) ≡ all
unfolding chain
chain_last item sep front count i rest a after all lt e f h =
    let k : count - i ≡ suc (count - (i + 1)) = omega arith in
    let one : with_front front (chain item sep (count - i) rest) ≡ Some (front ++ a ∷ [], after) = rw (k, ← e, ← f) refl in
    sym one ∙ h

pub chain_out : {A : Type 0} (item : Reader A) (sep : Lexeme → Bool) (front : List A) (count i : ℕ) (rest : Lexemes) (all : Option (List A × Lexemes)) → count ≤ i
    → with_front front (chain item sep (count - i) rest) ≡ all → None ≡ all
unfolding chain
chain_out item sep front count i rest all le h =
    let k : count - i ≡ 0 = omega arith in
    let one : with_front front (chain item sep (count - i) rest) ≡ None = rw k refl in
    sym one ∙ h

nil_front : {A : Type 0} (o : Option (List A × Lexemes)) → with_front [] o ≡ o
nil_front None = refl
nil_front (Some q) = refl

pub chain_start : {A : Type 0} (item : Reader A) (sep : Lexeme → Bool) (count : ℕ) (xs : Lexemes) → with_front [] (chain item sep (count - 0) xs) ≡ chain item sep count xs
chain_start item sep count xs = nil_front (chain item sep (count - 0) xs) ∙ ap (λ n. chain item sep n xs) (omega arith)
