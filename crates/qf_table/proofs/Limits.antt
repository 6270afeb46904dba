-- A table is told from its header and one record more than the most that it may have.
use Rattle.std.proofs.Common.{◌≡◌, ◌∙◌, ap, sym, refl, ℕ, suc, ◌<◌, ◌≤◌, Bool, true, false, List, [], ◌∷◌, length, take, Option, Some, None, Result, Ok, Err, if◌then◌else◌, arith}
use Rattle.std.specs.Prelude.{nat_lt}
use Rattle.std.proofs.lemmas.Bool.Decides.{nat_tests}
use Rattle.std.proofs.lemmas.List.{take_all, length-take}
use Rattle.qf_csv.specs.Records.{Record}
use Rattle.qf_ir.specs.declared.table.Table.{Table}
use Rattle.qf_table.specs.declared.header.Heading.{Heading}
use Rattle.qf_table.specs.declared.fault.TableFault.{TableFault}
use Rattle.qf_table.specs.declared.fault.TableFault.TheVariants as fault
use Rattle.qf_table.specs.Headers.{headings_from, first_repeated}
use Rattle.qf_table.specs.Tables.{first_uneven, if_even, if_distinct, under_header, table_in}

past : (m k : ℕ) → m < k → nat_lt m k ≡ true
past m k lt = grind (arith, nat_tests)

from-past : (m k : ℕ) → nat_lt m k ≡ true → m < k
from-past m k e = grind (arith, nat_tests)

from-within : (m k : ℕ) → nat_lt m k ≡ false → k ≤ m
from-within m k e = grind (arith, nat_tests)

module _ (n : ℕ) (enough : 200000 < n) where
  abbrev counted : ℕ → List Heading → List Record → Result Table TableFault
  counted width hs rows = if nat_lt 200000 (length rows) then Err fault.TooManyRows else if_even (first_uneven width 1 rows) hs rows

  still-past : (rows : List Record) → 200000 < length rows → 200000 < length (take n rows)
  still-past rows lt = let l = length-take n rows in omega (arith, l, lt, enough)

  count-limit : (width : ℕ) (hs : List Heading) (rows : List Record) (b : Bool) → nat_lt 200000 (length rows) ≡ b → counted width hs (take n rows) ≡ counted width hs rows
  count-limit width hs rows true e =
      let more = past 200000 (length (take n rows)) (still-past rows (from-past 200000 (length rows) e)) in
      ap (λ (b : Bool). if b then Err fault.TooManyRows else if_even (first_uneven width 1 (take n rows)) hs (take n rows)) more
      ∙ sym (ap (λ (b : Bool). if b then Err fault.TooManyRows else if_even (first_uneven width 1 rows) hs rows) e)
  count-limit width hs rows false e =
      let within = from-within 200000 (length rows) e in
      let few : length rows ≤ n = omega (arith, within, enough) in
      ap (counted width hs) (take_all n rows few)

  rows-limit : (o : Option ℕ) (width : ℕ) (hs : List Heading) (rows : List Record) → if_distinct o width hs (take n rows) ≡ if_distinct o width hs rows
  rows-limit (Some column) width hs rows = refl
  rows-limit None width hs rows = count-limit width hs rows (nat_lt 200000 (length rows)) refl

  header-limit : (r : Result (List Heading) TableFault) (width : ℕ) (rows : List Record) → under_header width r (take n rows) ≡ under_header width r rows
  header-limit (Err f) width rows = refl
  header-limit (Ok hs) width rows = rows-limit (first_repeated 1 [] hs) width hs rows

  pub table_limit : (records : List Record) → table_in (take (suc n) records) ≡ table_in records
  table_limit [] = refl
  table_limit (header ∷ rows) =
      ap (λ (t : Result Table TableFault). if nat_lt 32 (length header) then Err fault.TooManyColumns else t) (header-limit (headings_from 1 header) (length header) rows)
