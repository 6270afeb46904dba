-- The text so far and what stands behind it, one place further.
use Rattle.std.proofs.Common.{◌≡◌, ℕ, ◌+◌, ◌-◌, ◌<◌, ◌≤◌, List, [], ◌∷◌, ◌++◌, length, get_or, take, drop, sym, ap, subst, ◌∙◌, arith, add-one, append_assoc, Some, Result, Ok, Err}
use Rattle.std.specs.Prelude.{ℤ, pos, ◌^◌, slice_get, IfOk}
use Rattle.std.proofs.Math.Seq.{drop-cons}
use Rattle.std.proofs.lemmas.Option.{get_or_from_slice_get}
use Rattle.qf_base.specs.declared.memory.NoMemory.{NoMemory}
use Rattle.qf_log.specs.declared.places.ParamPlace.{ParamPlace}
use Rattle.qf_log.specs.Ready.{AreApart}
use Rattle.qf_log.specs.Reading.{Reading, IsLogOf}
use Rattle.qf_splice.specs.RepairedText.{literal, repaired_from, repaired_text}
use Rattle.qf_splice.specs.Laws.{IsPointOf, SaysWith}
use Rattle.qf_splice.proofs.SaysAgain.{says_again}
use Rattle.qf_splice.proofs.Unchanged.{log_apart}

pub drop_one : {A : Type 0} (xs : List A) (n : ℕ) (d : A) → n < length xs → drop n xs ≡ get_or xs n d ∷ drop (n + 1) xs
drop_one xs n d lt = rw add-one (drop-cons xs n d lt)

order_end : (at : ℕ) (places : List ParamPlace) (end : ℕ) → AreApart at places end → at ≤ end
order_end at [] end h = h
order_end at (place ∷ places) end h = omega (arith, h.0, h.1, order_end place.end places end h.2)

-- a place and those behind it
pub record Here (at : ℕ) (place : ParamPlace) (rest : List ParamPlace) (end : ℕ) : Type 0 where
  pub start : at ≤ place.start
  pub literal : place.start < place.end
  pub within : place.end ≤ end
  pub rest_order : AreApart place.end rest end

pub order_here : (at n : ℕ) (places : List ParamPlace) (end : ℕ) (d : ParamPlace) → n < length places → AreApart at (drop n places) end → Here at (get_or places n d) (drop (n + 1) places) end
order_here at n places end d lt h =
    let o : AreApart at (get_or places n d ∷ drop (n + 1) places) end = subst (λ ps. AreApart at ps end) (drop_one places n d lt) h in
    record { start = o.0; literal = o.1; within = order_end (get_or places n d).end (drop (n + 1) places) end o.2; rest_order = o.2 }

pub text_more : (bytes text : List ℕ) (at : ℕ) (rest places : List ParamPlace) (left values : List ℤ) (place : ParamPlace) (value : ℤ) (all : List ℕ) → rest ≡ place ∷ places → left ≡ value ∷ values
    → text ++ repaired_from at bytes rest left ≡ all → ((text ++ take (place.start - at) (drop at bytes)) ++ literal bytes place value) ++ repaired_from place.end bytes places values ≡ all
text_more bytes text at rest places left values place value all e f h =
    append_assoc (text ++ take (place.start - at) (drop at bytes)) (literal bytes place value) (repaired_from place.end bytes places values)
    ∙ append_assoc text (take (place.start - at) (drop at bytes)) (literal bytes place value ++ repaired_from place.end bytes places values)
    ∙ ap (λ t. text ++ t) (sym (ap (λ ps. repaired_from at bytes ps left) e ∙ ap (repaired_from at bytes (place ∷ places)) f)) ∙ h

pub value_here : (values : List ℤ) (n : ℕ) (value : ℤ) → n < length values → slice_get values n ≡ Some value → drop n values ≡ value ∷ drop (n + 1) values
value_here values n value lt e = drop_one values n (pos 0) lt ∙ ap (λ v. v ∷ drop (n + 1) values) (get_or_from_slice_get values n value (pos 0) e)

-- ---- of a log

place_count : (at : ℕ) (places : List ParamPlace) (end : ℕ) → AreApart at places end → at + length places ≤ end
place_count at [] end h = omega (arith, h)
place_count at (place ∷ places) end h = omega (arith, h.0, h.1, place_count place.end places end h.2)

pub log_count : (bytes : List ℕ) (log : Reading) → length bytes < 2 ^ 30 → IsLogOf bytes log → length log.parameters < 2 ^ 32
log_count bytes log few h = omega (arith, few, place_count 0 log.parameters (length bytes) (log_apart bytes log h))

pub says_where_ok : (bytes : List ℕ) (log : Reading) (point : List ℤ) (r : Result (List ℕ) NoMemory) → IsLogOf bytes log → IsPointOf log point → IfOk r (λ t. t ≡ repaired_text bytes log.parameters point) → IfOk r (λ t. SaysWith log point t)
says_where_ok bytes log point (Ok t) h p e = subst (SaysWith log point) (sym e) (says_again bytes log point h p)
says_where_ok bytes log point (Err e) h p k = tt
